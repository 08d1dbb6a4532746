-- What the private readers of this crate promise.
use Rattle.std.specs.Prelude.{◌≡◌, ℕ, ◌≤◌, List, ◌++◌, length}
use Rattle.chyp_lex.specs.declared.token.Token.{Token}
use Rattle.chyp_syntax.specs.Numbered.{NumberedToken}
use Rattle.chyp_syntax.specs.Beginning.{tokens_from}
use Rattle.chyp_syntax.specs.Expected.{Expected, verdict, stopped}

-- tokens that are one thing of the grammar, and the rest behind them
pub record BeginsWith {A : Type 0} (Is : List NumberedToken → A → Type 0) (tokens rest : List NumberedToken) (value : A) : Type 0 where
  pub front : List NumberedToken
  pub joined : tokens ≡ front ++ rest
  pub is : Is front value

-- the tokens from `start` to `end` are what `symbols` expects first
abbrev pub Passes : (Expected → Expected) → List Token → ℕ → ℕ → Type 0
Passes symbols tokens start end = (behind : Expected)
    → verdict (symbols behind) (tokens_from tokens start) ≡ verdict behind (tokens_from tokens end)

-- the tokens from `start` on are not what `symbols` expects, and the token `k` is the first that can't be
abbrev pub Stops : (Expected → Expected) → List Token → ℕ → ℕ → Type 0
Stops symbols tokens start k = (k ≤ length tokens)
    × ((behind : Expected) → verdict (symbols behind) (tokens_from tokens start) ≡ stopped (tokens_from tokens k))

-- the same where all that is expected is told
abbrev pub StopsAt : Expected → List Token → ℕ → ℕ → Type 0
StopsAt expected tokens start k = (k ≤ length tokens) × (verdict expected (tokens_from tokens start) ≡ stopped (tokens_from tokens k))
