-- Equations have derivations from the rules on which their statements rest.
use Rattle.std.proofs.Common.{◌≡◌, ℕ, List, [], ◌∷◌, Some, All, refl, subst, arith}
use Rattle.std.specs.Prelude.{Contains, flat_map}
use Rattle.std.proofs.lemmas.List.Elements.{All-append, All-cons, All-head, All-nil, All-contains, All-map, All-tail}
use Rattle.chyp_base.specs.declared.verdict.Verdict.{Verdict}
use Rattle.chyp_base.specs.declared.verdict.Verdict.TheVariants.{Accepted, Proved}
use Rattle.chyp_syntax.specs.Heading.{declared_name}
use Rattle.chyp_syntax.specs.Step.{StepTree}
use Rattle.chyp_syntax.specs.Statement.{rewrite}
use Rattle.chyp_syntax.specs.Words.{bytes_at}
use Rattle.chyp_term.specs.Derivation.{IsEquation, given}
use Rattle.chyp_term.specs.Morphism.{Morphism}
use Rattle.chyp_term.specs.Step.{Reason}
use Rattle.chyp_env.specs.Environment.{Sense, equation, Binding, Origin}
use Rattle.chyp_env.specs.Site.{Imported, there, Site}
use Rattle.chyp_env.specs.Sound.{IsSound}
use Rattle.chyp_names.specs.Binding.{Binds, nothing, again, anew, imports, StandsFor, a_declared_generator, a_term, a_rule, a_proved_rewrite, an_unproved_rewrite, a_broken_statement}
use Rattle.chyp_names.specs.Elaboration.{Passes, prefix_at, reason_at, steps_at}
use Rattle.chyp_names.specs.Naming.{names_of_reason}
use Rattle.chyp_verdicts.specs.Judged.{IsJudged}
use Rattle.chyp_verdicts.specs.Rules.{Cites, IsDerived, IsRewriteOf, Permits, by_name, cited_by, itself}
use Rattle.chyp_verdicts.specs.Standing.{Means, Standing}
use Rattle.chyp_verdicts.specs.Steps.{rules_of}
use Rattle.chyp_env.proofs.Bindings.{All-from, binding-found, import-all}
use Rattle.chyp_verdicts.proofs.Cited.{IsEquationThere, cited-equation, reason-equations}
use Rattle.chyp_verdicts.proofs.Derivations.{Equation, derived-along, derived-back, derived-cut}
use Rattle.chyp_verdicts.proofs.Follows.{ProvedSteps, proved-follows, proved-steps}
use Rattle.chyp_verdicts.proofs.Known.{Known}
use Rattle.chyp_verdicts.proofs.Sound.{sense-sound}

-- the equation that a name stands for, if it does, has a derivation from rules on which its origin rests
abbrev pub IsEquationDerived : Standing → Origin → Sense → Type 0
IsEquationDerived Stands origin (equation first last) = IsDerived Stands origin first last
IsEquationDerived Stands origin _ = Unit {0}

abbrev pub AreEquationsDerived : Standing → List Binding → Type 0
AreEquationsDerived Stands env = All (λ b. IsEquationDerived Stands b.origin b.sense) env

abbrev pub AreImportsDerived : Standing → Imported → Type 0
AreImportsDerived Stands (there env) = AreEquationsDerived Stands env
AreImportsDerived Stands _ = Unit {0}

-- ---- one rewrite

All-rules : (P : Equation → Type 0) (reasons : List Reason) → All (λ r. All P (rules_of r)) reasons → All P (flat_map rules_of reasons)
All-rules P [] all = All-nil P
All-rules P (r ∷ rs) all =
    All-append P (rules_of r) (flat_map rules_of rs) (All-head (λ r. All P (rules_of r)) r rs all) (All-rules P rs (All-tail (λ r. All P (rules_of r)) r rs all))

-- the first term and the last of a proved rewrite, where the equations that it cites are derived
pub rewrite-derived : (Stands : Standing) → Known → (o : Origin) (site : Site) → Stands o site → IsSound site.scope.env → AreEquationsDerived Stands site.scope.env → IsJudged site Proved
    → (first last : Morphism) → IsRewriteOf site first last → IsDerived Stands o first last
rewrite-derived Stands known o site st env laws j first last is =
    derived-cut Stands o (cited_by site (rewrite is.name is.tree is.steps)) first last (cited (proved-steps site Proved refl j)) (proved-follows known site env j first last is)
  where
    at : Passes site (rewrite is.name is.tree is.steps) → (step : StepTree) (token : ℕ) → Contains is.steps step → Contains (names_of_reason step.reason) token
        → (l : IsEquationThere site token) × IsDerived Stands o l.first l.last × IsDerived Stands o l.last l.first
    at p step token c d =
        let l = cited-equation site is.name is.tree is.steps p step token c d in
        let has = binding-found site.scope.env (bytes_at site.scope.words token) l.binding l.is in
        let derived : IsDerived Stands l.binding.origin l.first l.last =
        subst (IsEquationDerived Stands l.binding.origin) l.sense (All-contains (λ (b : Binding). IsEquationDerived Stands b.origin b.sense) site.scope.env l.binding laws has.0) in
        let cites : Cites site l.binding =
        record { name = is.name; first = is.tree; steps = is.steps; is_sentence = is.is_sentence; step = step; is_step = c; token = token; named = d; is = l.is } in
        let mine = derived-along Stands l.binding.origin o (λ e r. record { from = r.from; rests = by_name st cites r.rests; means = r.means }) l.first l.last derived in
        (l, mine, derived-back Stands o l.first l.last mine)

    cited : ProvedSteps site → All (λ (e : Equation). IsDerived Stands o e.0 e.1) (cited_by site (rewrite is.name is.tree is.steps))
    cited q =
        let trees = known.trees site.scope.words (rewrite q.name q.first q.steps) (rewrite is.name is.tree is.steps) q.is_sentence is.is_sentence in
        let p : Passes site (rewrite is.name is.tree is.steps) = subst (Passes site) trees q.passes in
        All-rules (λ e. IsDerived Stands o e.0 e.1) (steps_at site.scope (rewrite is.name is.tree is.steps))
        (All-map (λ r. All (λ (e : Equation). IsDerived Stands o e.0 e.1) (rules_of r)) (λ (step : StepTree). reason_at site.scope step.reason) is.steps
        (All-from (λ (step : StepTree). All (λ (e : Equation). IsDerived Stands o e.0 e.1) (rules_of (reason_at site.scope step.reason))) is.steps
        (λ step c. reason-equations (λ (e : Equation). IsDerived Stands o e.0 e.1) site step.reason (λ token d. at p step token c d))))

-- ---- environments

-- what a statement stands for is derived
sense-derived : (Stands : Standing) → Known → (o : Origin) (s : Site) → Stands o s → IsSound s.scope.env → AreEquationsDerived Stands s.scope.env
    → (v : Verdict) (name : List ℕ) → declared_name s.scope.words ≡ Some name → IsJudged s v → (sense : Sense) → StandsFor s v sense → IsEquationDerived Stands o sense
sense-derived Stands known o s st env laws v name e j sense (a_declared_generator t f) = tt
sense-derived Stands known o s st env laws v name e j sense (a_term t f) = tt
sense-derived Stands known o s st env laws v name e j sense (a_rule {name = n} {equals} {left} {right} {first} {last} t f) =
    let is : IsEquation first last = (sense-sound known s env v name e j sense (a_rule t f)).0 in
    let means : Means Stands o (equation first last) = record { site = s; verdict = Accepted; stands = st; judged = j; stands_for = a_rule t f } in
    let mine : Permits Stands o (first, last) =
    record { from = o; rests = itself st (record { name = n; left = left; equals = equals; right = right; is_sentence = t }); means = means } in
    record { rules = (first, last) ∷ []; permitted = All-cons (Permits Stands o) (first, last) [] mine (All-nil _); derivation = given (0, omega arith, refl) is }
sense-derived Stands known o s st env laws v name e j sense (a_proved_rewrite {name = n} {tree} {steps} {first} {last} t f l) =
    rewrite-derived Stands known o s st env laws j first last (record { name = n; tree = tree; steps = steps; is_sentence = t; is_first = f; is_last = l })
sense-derived Stands known o s st env laws v name e j sense (an_unproved_rewrite r p) = tt
sense-derived Stands known o s st env laws v name e j sense (a_broken_statement r p) = tt

-- so are the equations behind a statement
pub binds-derived : (Stands : Standing) → Known → (n : ℕ) (s : Site) → Stands (record { home = s.home; number = n }) s → IsSound s.scope.env → AreEquationsDerived Stands s.scope.env
    → AreImportsDerived Stands s.imported → (v : Verdict) (next : List Binding) → IsJudged s v → Binds s n v next → AreEquationsDerived Stands next
binds-derived Stands known n s st env laws k v next j (nothing e o) = laws
binds-derived Stands known n s st env laws k v next j (again e f) = laws
binds-derived Stands known n s st env laws k v next j (anew {name} {sense} e f x) =
    let P : Binding → Type 0 = λ b. IsEquationDerived Stands b.origin b.sense in
    let b : Binding = record { name = name; origin = record { home = s.home; number = n }; sense = sense } in
    All-append P s.scope.env (b ∷ []) laws (All-cons P b [] (sense-derived Stands known (record { home = s.home; number = n }) s st env laws v name e j sense x) (All-nil _))
binds-derived Stands known n s st env laws k v next j (imports {as_word} {env = bs} f t i) =
    import-all (λ b. IsEquationDerived Stands b.origin b.sense) s.scope.env bs (prefix_at s.scope as_word) (λ b x. x) laws (subst (AreImportsDerived Stands) i k)
