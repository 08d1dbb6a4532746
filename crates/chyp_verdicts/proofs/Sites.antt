-- Each statement has one verdict, and with it makes one environment.
use Rattle.std.proofs.Common.{◌≡◌, ℕ, Bool, true, false, List, [], ◌∷◌, ◌++◌, Option, Some, None, refl, sym, subst}
use Rattle.chyp_base.specs.declared.verdict.Verdict.{Verdict}
use Rattle.chyp_base.specs.declared.verdict.Verdict.TheVariants.{Accepted}
use Rattle.chyp_syntax.specs.Heading.{declared_name}
use Rattle.chyp_env.specs.Environment.{Binding, is_bound}
use Rattle.chyp_env.specs.Site.{Imported, there, Site, IsImportState, no_import, an_import}
use Rattle.chyp_env.specs.Sound.{IsSound}
use Rattle.chyp_names.specs.Binding.{Binds, TakesIn, nothing, again, anew, imports}
use Rattle.chyp_verdicts.specs.Judged.{IsJudged}
use Rattle.chyp_verdicts.specs.Sites.{EachStatementHasOneVerdict, EachStatementMakesOneEnvironment}
use Rattle.chyp_verdicts.proofs.Known.{Known}
use Rattle.chyp_verdicts.proofs.OneBinding.{binds-once}
use Rattle.chyp_verdicts.proofs.OneVerdict.{judged-once}
use Rattle.chyp_verdicts.proofs.SomeBinding.{some-sense}
use Rattle.chyp_verdicts.proofs.SomeVerdict.{some-verdict}

-- what names stand for behind a statement
pub record SomeBinds (s : Site) (n : ℕ) (v : Verdict) : Type 0 where
  pub next : List Binding
  pub binds : Binds s n v next

-- an import takes in what is there, or takes in nothing
takes-or-not : (s : Site) (n : ℕ) (v : Verdict) → IsImportState s → declared_name s.scope.words ≡ None → SomeBinds s n v
takes-or-not s n v (no_import alone) none = record { next = s.scope.env; binds = nothing none (λ h. subst (λ i. TakesIn i v) alone h) }
takes-or-not s n v (an_import {word} {as_word} t) none = go s.imported refl v refl
  where
    go : (i : Imported) → i ≡ s.imported → (w : Verdict) → w ≡ v → SomeBinds s n v
    go (there env) e Accepted x = record { next = _; binds = imports {word = word} {as_word = as_word} (sym x) t (sym e) }
    go (there env) e w x = record { next = s.scope.env; binds = nothing none (λ h. subst (TakesIn (there env)) (sym x) (subst (λ y. TakesIn y v) (sym e) h)) }
    go i e w x = record { next = s.scope.env; binds = nothing none (λ h. subst (λ y. TakesIn y v) (sym e) h) }

-- each statement binds something
pub some-binds : Known → (s : Site) (n : ℕ) (v : Verdict) → IsSound s.scope.env → IsImportState s → IsJudged s v → SomeBinds s n v
some-binds known s n v sound state j = go (declared_name s.scope.words) refl
  where
    go : (o : Option (List ℕ)) → declared_name s.scope.words ≡ o → SomeBinds s n v
    go None e = takes-or-not s n v state e
    go (Some name) e = bound (is_bound s.scope.env name) refl
      where
        bound : (b : Bool) → is_bound s.scope.env name ≡ b → SomeBinds s n v
        bound true i = record { next = s.scope.env; binds = again e i }
        bound false i =
            let x = some-sense known.typed s sound v name e j in
            record { next = s.scope.env ++ record { name = name; origin = record { home = s.home; number = n }; sense = x.sense } ∷ []; binds = anew e i x.stands }

-- ---- laws

pub one-verdict : Known → EachStatementHasOneVerdict
one-verdict known site sound =
    let some = some-verdict known site sound in
    record { verdict = some.verdict; judged = some.gets; only = λ other j. judged-once known site other some.verdict j some.gets }

pub one-environment : Known → EachStatementMakesOneEnvironment
one-environment known site number verdict sound state judged =
    let some = some-binds known site number verdict sound state judged in
    record { env = some.next; binds = some.binds; only = λ other b. binds-once known.trees site number verdict other some.next b some.binds }
