-- Each run has exactly one output.
use Rattle.std.proofs.Common.{◌≡◌, ℕ, List, [], ◌∷◌, ◌⊎◌, inl, inr, refl, sym, ◌∙◌, ap, ap₂, subst, codes, Bool, true, false}
use Rattle.std.specs.Str.{bytes_eq}
use Rattle.std.proofs.lemmas.Slice.Eq.{bytes_eq-Decides}
use Rattle.chyp_base.specs.Library.{Texts}
use Rattle.chyp_base.specs.declared.verdict.Verdict.{Verdict}
use Rattle.chyp_lex.specs.declared.token.Token.{Token}
use Rattle.chyp_lex.specs.Tokens.{HasOneTokenList}
use Rattle.chyp_syntax.specs.Chunk.{AreChunks, HasOneListOfChunks}
use Rattle.chyp_modules.specs.Checking.{Gives as Results, HasChecks, Result, TextsHaveOneResult, all_checked, long_module, long_text, many_modules, too_long as too_long', checked as checked'}
use Rattle.chyp_modules.specs.Explained.{VerdictsAreExplained}
use Rattle.chyp_modules.specs.Library.{with_main}
use Rattle.chyp_modules.specs.Modules.{AreVerdicts}
use Rattle.chyp_app.specs.Output.{Output, IsCheck, too_long, checked, IsOutput, of_check, of_bad_words, output_of, HasOneOutput, CountsStatements, EachOutputIsExplained, EachTextIsChecked, says, says_nothing}
use Rattle.chyp_app.specs.Words.{Accepts}

-- the words are accepted, or they are not
accepts : (words : List (List ℕ)) → Accepts words ⊎ (¬ Accepts words)
accepts [] = inr (λ e. cc)
accepts (word ∷ next ∷ words) = inr (λ e. cc)
accepts (word ∷ []) = go (bytes_eq word (codes "check")) refl
  where
    go : (same : Bool) → bytes_eq word (codes "check") ≡ same → Accepts (word ∷ []) ⊎ (¬ Accepts (word ∷ []))
    go true e = inl (ap (λ w. w ∷ []) ((bytes_eq-Decides word (codes "check")).0 e))
    go false e = inr (λ a. let s : word ≡ codes "check" = cc in let t = (bytes_eq-Decides word (codes "check")).1 s in cc)

-- what is known where all statements are checked: their verdicts, how many they are with those of the modules, and that such
-- verdicts give a result
abbrev pub Settled : Texts → List ℕ → Result → Type 0
Settled texts text too_long' = Unit {0}
Settled texts text (checked' verdicts checks) =
    AreVerdicts (with_main texts text) [] verdicts × HasChecks (with_main texts text) checks
    × ((others : List Verdict) → AreVerdicts (with_main texts text) [] others → Results texts text (checked' others checks))

pub settled : (texts : Texts) (text : List ℕ) (result : Result) → Results texts text result → Settled texts text result
settled texts text result (long_text l) = tt
settled texts text result (long_module s w l) = tt
settled texts text result (many_modules s w l) = tt
settled texts text result (all_checked {names} s w few short v h) = (v, record { names = names; wanted = w; have = h }, λ others are. all_checked s w few short are h)

module _ (token_lists : (text : List ℕ) → HasOneTokenList text) (chunk_lists : (tokens : List Token) → HasOneListOfChunks tokens) (results : TextsHaveOneResult) where
  check_one : (texts : Texts) (text : List ℕ) (a b : Output) → IsCheck texts text a → IsCheck texts text b → a ≡ b
  check_one texts text a b (too_long g) (too_long h) = refl
  check_one texts text a b (too_long g) (checked {verdicts} {checks} ts cs h) =
      let one = results texts text in let e = one.only too_long' g ∙ sym (one.only (checked' verdicts checks) h) in absurd cc
  check_one texts text a b (checked {verdicts} {checks} ts cs g) (too_long h) =
      let one = results texts text in let e = one.only too_long' h ∙ sym (one.only (checked' verdicts checks) g) in absurd cc
  check_one texts text a b (checked {tokens} {chunks} {verdicts} {checks} ts cs g) (checked {tokens = tokens'} {chunks = chunks'} {verdicts = verdicts'} {checks = checks'} ts' cs' h) =
      let t : tokens ≡ tokens' = (token_lists text).unique tokens tokens' ts ts' in
      let P : List Token → Type 0 = λ x. AreChunks x chunks in
      let lists = chunk_lists tokens' in
      let c : chunks ≡ chunks' = lists.2 chunks (subst P t cs) ∙ sym (lists.2 chunks' cs') in
      let one = results texts text in
      let e : checked' verdicts checks ≡ checked' verdicts' checks' = one.only (checked' verdicts checks) g ∙ sym (one.only (checked' verdicts' checks') h) in
      let v : verdicts ≡ verdicts' = cc in
      let n : checks ≡ checks' = cc in
      ap₂ (λ x y. output_of text x y verdicts checks) t c ∙ ap₂ (output_of text tokens' chunks') v n

  -- each text is checked
  pub some_check : EachTextIsChecked
  some_check texts text = let one = results texts text in go one.result one.gives
    where
      go : (result : Result) → Results texts text result → (output : Output) × IsCheck texts text output
      go too_long' g = (_, too_long g)
      go (checked' verdicts checks) g =
          let tokens = (token_lists text).exists in
          let chunks = chunk_lists tokens.0 in
          (_, checked tokens.1 chunks.1 g)

  output_one : (words : List (List ℕ)) (bytes : List ℕ) (texts : Texts) (a b : Output) → IsOutput words bytes texts a → IsOutput words bytes texts b → a ≡ b
  output_one words bytes texts a b (of_check w p) (of_check v q) = check_one texts bytes a b p q
  output_one words bytes texts a b (of_check w p) (of_bad_words n) = absurd (n w)
  output_one words bytes texts a b (of_bad_words n) (of_check v q) = absurd (n v)
  output_one words bytes texts a b (of_bad_words n) (of_bad_words m) = refl

  -- each run has exactly one output
  pub one_output : (words : List (List ℕ)) (bytes : List ℕ) (texts : Texts) → HasOneOutput words bytes texts
  one_output words bytes texts = go (accepts words)
    where
      given : (output : Output) → IsOutput words bytes texts output → HasOneOutput words bytes texts
      given output p = record { output = output; is_output = p; only = λ other h. output_one words bytes texts other output h p }

      go : Accepts words ⊎ (¬ Accepts words) → HasOneOutput words bytes texts
      go (inl w) = let c = some_check texts bytes in given c.0 (of_check w c.1)
      go (inr n) = given _ (of_bad_words n)

  -- an output has the checks that were counted
  pub counted_check : CountsStatements
  counted_check texts text verdicts checks g =
      let tokens = (token_lists text).exists in
      let chunks = chunk_lists tokens.0 in
      (output_of text tokens.0 chunks.0 verdicts checks, checked tokens.1 chunks.1 g, refl)

-- what an output says is so
pub explained_check : VerdictsAreExplained → EachOutputIsExplained
explained_check law texts text output (too_long g) = says_nothing refl
explained_check law texts text output (checked {verdicts} {checks} ts cs g) =
    let are = (settled texts text (checked' verdicts checks) g).0 in
    says ts cs are refl (law (with_main texts text) [] verdicts are)
