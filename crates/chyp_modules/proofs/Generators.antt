-- Each generator of a term that a name stands for has a binding of its own.
use Rattle.std.proofs.Common.{ℕ, List, [], length, subst}
use Rattle.std.proofs.lemmas.List.Elements.{All-contains, All-nil}
use Rattle.chyp_base.specs.declared.verdict.Verdict.{Verdict}
use Rattle.chyp_syntax.specs.Words.{Word}
use Rattle.chyp_env.specs.Closed.{HasBoundSense}
use Rattle.chyp_env.specs.Environment.{Binding}
use Rattle.chyp_env.specs.Site.{Imported, there, Site}
use Rattle.chyp_env.proofs.Closed.{AreBound, bound-import, bound-push}
use Rattle.chyp_names.specs.Binding.{Binds, nothing, again, anew, imports}
use Rattle.chyp_names.specs.Elaboration.{prefix_at}
use Rattle.chyp_names.proofs.Closing.{sense-bound}
use Rattle.chyp_verdicts.specs.Judged.{IsJudged}
use Rattle.chyp_verdicts.proofs.Known.{Known}
use Rattle.chyp_modules.specs.Library.{Library}
use Rattle.chyp_modules.specs.Modules.{Makes, at_start, one_more, Stands, stands, Finds, no_import, of_none, of_cycle, of_module as found}
use Rattle.chyp_modules.specs.Laws.{GeneratorsAreBound}
use Rattle.chyp_modules.proofs.Importing.{accepted-fits}
use Rattle.chyp_modules.proofs.Meanings.{AreMeant, IsMeantImport, meant-same, stands-meant}

-- what is imported has its generators bound there
abbrev pub IsBoundImport : Imported → Type 0
IsBoundImport (there env) = AreBound env
IsBoundImport _ = Unit {0}

binds-bound : (library : Library) → Known → (s : Site) (n : ℕ) (v : Verdict) (next : List Binding) → AreMeant library s.scope.env
    → IsMeantImport library s.imported → AreBound s.scope.env → IsBoundImport s.imported
    → IsJudged s v → Binds s n v next → AreBound next
binds-bound library known s n v next meant im bound ib j (nothing e o) = bound
binds-bound library known s n v next meant im bound ib j (again e f) = bound
binds-bound library known s n v next meant im bound ib j (anew {name} {sense} e f x) =
    bound-push s.scope.env (record { name = name; origin = record { home = s.home; number = n }; sense = sense }) bound (sense-bound s bound v sense x name (record { home = s.home; number = n }))
binds-bound library known s n v next meant im bound ib j (imports {word} {as_word} {env} f t i) =
    let theirs : AreMeant library env = subst (IsMeantImport library) i im in
    bound-import s.scope.env env (prefix_at s.scope as_word) bound (subst IsBoundImport i ib)
    (λ a b has other same. meant-same library known s.scope.env env meant theirs a b has other same)
    (accepted-fits known s v word as_word env t i j f)

mutual
  pub makes-bound : (library : Library) → Known → (name : List ℕ) (number : ℕ) (env : List Binding) → Makes library name number env → AreBound env
  makes-bound library known name number env (at_start m) = All-nil _
  makes-bound library known name number env (one_more {number = k} {site = s} {verdict = v} st j x) =
      let meant = stands-meant library name k s st in
      let bound = stands-bound library known name k s st in
      binds-bound library known s k v env meant.0 meant.1 bound.0 bound.1 j x

  pub stands-bound : (library : Library) → Known → (name : List ℕ) (number : ℕ) (s : Site) → Stands library name number s → AreBound s.scope.env
      × IsBoundImport s.imported
  stands-bound library known name number s (stands h m e k f) = (makes-bound library known name number s.scope.env k, finds-bound library known s.scope.words s.imported f)

  finds-bound : (library : Library) → Known → (tokens : List Word) (i : Imported) → Finds library tokens i → IsBoundImport i
  finds-bound library known tokens i (no_import n) = tt
  finds-bound library known tokens i (of_none m e) = tt
  finds-bound library known tokens i (of_cycle m e r) = tt
  finds-bound library known tokens i (found {name} {statements} {env} m f r k) = makes-bound library known name (length statements) env k

-- each generator of a term that a name stands for has a binding of its own in the same environment
pub generators-bound : Known → GeneratorsAreBound
generators-bound known library name number env m b c = All-contains (λ (x : Binding). HasBoundSense env x.sense) env b (makes-bound library known name number env m) c
