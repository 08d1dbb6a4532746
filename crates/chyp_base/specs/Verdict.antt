-- Which verdicts count as good, and which token a verdict names.
use Rattle.std.specs.Prelude.{Bool, true, false, ℕ, Option, None, Some}
use Rattle.chyp_base.specs.declared.verdict.Verdict.{Verdict}
use Rattle.chyp_base.specs.declared.verdict.Verdict.TheVariants.{Accepted, Proved, Syntax, Declared, NoModule, Cycle, Unknown, Broken, Kind, Mistyped, Unproved}

-- a statement is good where it was accepted or proved, and at no other verdict
abbrev pub is_good : Verdict → Bool
is_good Accepted = true
is_good Proved = true
is_good _ = false

-- the number of the token that a verdict names within its statement, from 0
abbrev pub token_of : Verdict → Option ℕ
token_of (Syntax token) = Some token
token_of (Declared token) = Some token
token_of (NoModule token) = Some token
token_of (Cycle token) = Some token
token_of (Unknown token) = Some token
token_of (Broken token) = Some token
token_of (Kind token) = Some token
token_of (Mistyped token) = Some token
token_of (Unproved token) = Some token
token_of _ = None
