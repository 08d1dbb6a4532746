-- An origin determines what a name stands for.
use Rattle.std.proofs.Common.{◌≡◌, ℕ, List, [], ◌∷◌, length, All, sym, subst}
use Rattle.std.specs.Prelude.{Contains}
use Rattle.std.proofs.lemmas.List.Elements.{All-append, All-cons, All-nil, All-contains}
use Rattle.chyp_base.specs.declared.verdict.Verdict.{Verdict}
use Rattle.chyp_syntax.specs.Words.{Word}
use Rattle.chyp_env.specs.Environment.{Binding}
use Rattle.chyp_env.specs.Site.{Imported, there, Site}
use Rattle.chyp_names.specs.Binding.{Binds, nothing, again, anew, imports}
use Rattle.chyp_names.specs.Elaboration.{prefix_at}
use Rattle.chyp_modules.specs.Library.{Library}
use Rattle.chyp_verdicts.specs.Judged.{IsJudged}
use Rattle.chyp_verdicts.specs.Standing.{Means}
use Rattle.chyp_modules.specs.Modules.{Makes, at_start, one_more, Stands, stands, Finds, no_import, of_none, of_cycle, of_module as found, standing}
use Rattle.chyp_modules.specs.Laws.{OriginsDetermineSenses}
use Rattle.chyp_env.proofs.Bindings.{import-all}
use Rattle.chyp_modules.proofs.Derived.{home-is}
use Rattle.chyp_verdicts.proofs.Known.{Known}
use Rattle.chyp_modules.proofs.Once.{means-unique}

-- each binding stands for what the statement of its origin stands for
abbrev pub AreMeant : Library → List Binding → Type 0
AreMeant library env = All (λ b. Means (standing library) b.origin b.sense) env

abbrev pub IsMeantImport : Library → Imported → Type 0
IsMeantImport library (there env) = AreMeant library env
IsMeantImport library _ = Unit {0}

binds-meant : (library : Library) (home : List ℕ) (n : ℕ) (s : Site) → Stands library home n s → AreMeant library s.scope.env → IsMeantImport library s.imported
    → (v : Verdict) (next : List Binding)
    → IsJudged s v → Binds s n v next → AreMeant library next
binds-meant library home n s st here k v next j (nothing e o) = here
binds-meant library home n s st here k v next j (again e f) = here
binds-meant library home n s st here k v next j (anew {name} {sense} e f x) =
    let P : Binding → Type 0 = λ b. Means (standing library) b.origin b.sense in
    let b : Binding = record { name = name; origin = record { home = s.home; number = n }; sense = sense } in
    let st' : Stands library s.home n s = subst (λ h. Stands library h n s) (sym (home-is library home n s st)) st in
    let m : Means (standing library) (record { home = s.home; number = n }) sense = record { site = s; verdict = v; stands = st'; judged = j; stands_for = x } in
    All-append P s.scope.env (b ∷ []) here (All-cons P b [] m (All-nil _))
binds-meant library home n s st here k v next j (imports {as_word} {env} f t i) =
    import-all (λ b. Means (standing library) b.origin b.sense) s.scope.env env (prefix_at s.scope as_word) (λ b x. x) here (subst (IsMeantImport library) i k)

mutual
  pub makes-meant : (library : Library) (name : List ℕ) (number : ℕ) (env : List Binding) → Makes library name number env → AreMeant library env
  makes-meant library name number env (at_start m) = All-nil _
  makes-meant library name number env (one_more {number = k} {site = s} {verdict = v} st j x) =
      let meant = stands-meant library name k s st in
      binds-meant library name k s st meant.0 meant.1 v env j x

  pub stands-meant : (library : Library) (name : List ℕ) (number : ℕ) (s : Site) → Stands library name number s → AreMeant library s.scope.env × IsMeantImport library s.imported
  stands-meant library name number s (stands h m e k f) = (makes-meant library name number s.scope.env k, finds-meant library s.scope.words s.imported f)

  finds-meant : (library : Library) (tokens : List Word) (i : Imported) → Finds library tokens i → IsMeantImport library i
  finds-meant library tokens i (no_import n) = tt
  finds-meant library tokens i (of_none m e) = tt
  finds-meant library tokens i (of_cycle m e r) = tt
  finds-meant library tokens i (found {name} {statements} {env} m f r k) = makes-meant library name (length statements) env k

-- two bindings of one origin stand for one thing
pub meant-same : (library : Library) → Known → (env end : List Binding) → AreMeant library env → AreMeant library end → (a b : Binding) → Contains env a
    → Contains end b
    → a.origin ≡ b.origin → a.sense ≡ b.sense
meant-same library known env end here behind a b c d e =
    let P : Binding → Type 0 = λ x. Means (standing library) x.origin x.sense in
    let m : Means (standing library) a.origin a.sense = All-contains P env a here c in
    let n : Means (standing library) b.origin b.sense = All-contains P end b behind d in
    means-unique library known a.origin a.sense b.sense m (subst (λ o. Means (standing library) o b.sense) (sym e) n)

-- so it is in all environments of one library
pub origins-determine : Known → OriginsDetermineSenses
origins-determine known library name other m n env end here behind a b c d e =
    meant-same library known env end (makes-meant library name m env here) (makes-meant library other n end behind) a b c d e
