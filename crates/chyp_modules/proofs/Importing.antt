-- The verdict of an import of a module that is there: a clash refuses it, and nothing else does.
use Rattle.std.proofs.Common.{◌≡◌, ℕ, false, List, Option, Some, None, refl, sym, ◌∙◌, ap, arith}
use Rattle.std.specs.Prelude.{option_map}
use Rattle.std.specs.Option.{option_map_or}
use Rattle.std.proofs.lemmas.List.Elements.{All-nil}
use Rattle.chyp_base.specs.declared.verdict.Verdict.{Verdict}
use Rattle.chyp_base.specs.declared.verdict.Verdict.TheVariants.{Accepted, Clash}
use Rattle.chyp_syntax.specs.Heading.{declared_name}
use Rattle.chyp_syntax.specs.Sentence.{IsSentence}
use Rattle.chyp_syntax.specs.Statement.{inclusion}
use Rattle.chyp_env.specs.Environment.{Binding, is_bound}
use Rattle.chyp_env.specs.Import.{all_passed_on, first_clash}
use Rattle.chyp_env.specs.Scope.{is_declared}
use Rattle.chyp_env.specs.Site.{Site, there}
use Rattle.chyp_names.specs.Elaboration.{at_import, fault_of_module, import_fault, prefix_at}
use Rattle.chyp_verdicts.specs.Judged.{IsJudged, accepted, refused}
use Rattle.chyp_verdicts.proofs.Known.{Known}
use Rattle.chyp_verdicts.proofs.OneBinding.{imports-nothing}
use Rattle.chyp_verdicts.proofs.OneVerdict.{judged-once}

-- it declares no name
undeclared : (s : Site) (word : ℕ) (as_word : Option ℕ) → IsSentence s.scope.words (inclusion word as_word) → is_declared s.scope ≡ false
undeclared s word as_word t = go (declared_name s.scope.words) refl
  where
    go : (o : Option (List ℕ)) → declared_name s.scope.words ≡ o → option_map_or (is_bound s.scope.env) o false ≡ false
    go None e = refl
    go (Some name) e = absurd (imports-nothing s word as_word name t e)

abbrev verdict_with : Option (List ℕ) → Verdict
verdict_with None = Accepted
verdict_with (Some name) = Clash name

import-judged : (s : Site) (word : ℕ) (as_word : Option ℕ) (env : List Binding) → IsSentence s.scope.words (inclusion word as_word) → s.imported ≡ there env
    → (clash : Option (List ℕ)) → first_clash s.scope.env (all_passed_on (prefix_at s.scope as_word) env) ≡ clash → IsJudged s (verdict_with clash)
import-judged s word as_word env t i clash e = go clash (ap (λ x. fault_of_module s.scope.env x (prefix_at s.scope as_word)) i ∙ ap (option_map Clash) e)
  where
    go : (clash : Option (List ℕ)) → import_fault s (inclusion word as_word) ≡ option_map Clash clash → IsJudged s (verdict_with clash)
    go None fits = accepted t (record {
      fresh = undeclared s word as_word t;
      fits = fits;
      known = refl;
      small = record { ports = tt; each = All-nil _; together = omega arith };
      typed = All-nil _;
      proved = refl;
    }) refl
    go (Some name) fault = refused t (at_import (undeclared s word as_word t) fault)

-- where nothing clashes it is accepted
pub fits-accepted : Known → (s : Site) (v : Verdict) (word : ℕ) (as_word : Option ℕ) (env : List Binding) → IsSentence s.scope.words (inclusion word as_word) → s.imported ≡ there env
    → IsJudged s v → first_clash s.scope.env (all_passed_on (prefix_at s.scope as_word) env) ≡ None → v ≡ Accepted
fits-accepted known s v word as_word env t i j e = judged-once known s v Accepted j (import-judged s word as_word env t i None e)

-- and where it is accepted nothing clashes
pub accepted-fits : Known → (s : Site) (v : Verdict) (word : ℕ) (as_word : Option ℕ) (env : List Binding) → IsSentence s.scope.words (inclusion word as_word) → s.imported ≡ there env
    → IsJudged s v → v ≡ Accepted → first_clash s.scope.env (all_passed_on (prefix_at s.scope as_word) env) ≡ None
accepted-fits known s v word as_word env t i j e = go (first_clash s.scope.env (all_passed_on (prefix_at s.scope as_word) env)) refl
  where
    go : (clash : Option (List ℕ)) → first_clash s.scope.env (all_passed_on (prefix_at s.scope as_word) env) ≡ clash → clash ≡ None
    go None f = refl
    go (Some name) f =
        let both : Accepted ≡ Clash name = sym e ∙ judged-once known s v (Clash name) j (import-judged s word as_word env t i (Some name) f) in
        absurd cc
