-- A proved rewrite follows from the equations that it cites, where it stands.
use Rattle.std.proofs.Common.{◌≡◌, ℕ, suc, ◌+◌, ◌-◌, ◌≤◌, List, [], ◌∷◌, length, map, Option, Some, None, slice_get, All, refl, sym, ◌∙◌, ap, subst, arith}
use Rattle.std.specs.Prelude.{Contains}
use Rattle.std.specs.List.{cons_option, filter_map}
use Rattle.std.proofs.lemmas.List.{length-map}
use Rattle.std.proofs.lemmas.List.Elements.{All-contains}
use Rattle.chyp_base.specs.declared.verdict.Verdict.{Verdict}
use Rattle.chyp_base.specs.declared.verdict.Verdict.TheVariants.{Proved}
use Rattle.chyp_syntax.specs.Sentence.{IsSentence}
use Rattle.chyp_syntax.specs.Statement.{rewrite, StatementTree}
use Rattle.chyp_syntax.specs.Step.{StepTree}
use Rattle.chyp_syntax.specs.Term.{TermTree}
use Rattle.chyp_term.specs.Derivation.{Derives, same, chain}
use Rattle.chyp_term.specs.Morphism.{Morphism}
use Rattle.chyp_term.specs.Step.{Reason}
use Rattle.chyp_judge.specs.Judged.{IsJudgement}
use Rattle.chyp_judge.specs.declared.judged.Judged.TheVariants.{Good}
use Rattle.chyp_env.specs.Site.{Site}
use Rattle.chyp_names.specs.Elaboration.{Passes, expansion_at, has_hole, reason_at, steps_at, terms_of}
use Rattle.chyp_names.specs.Trees.{goals_of}
use Rattle.chyp_names.specs.Typing.{AreTypedAlike}
use Rattle.chyp_verdicts.specs.Judged.{IsJudged, accepted, by_steps, moves_at, no_sentence, refused}
use Rattle.chyp_verdicts.specs.Rules.{cited_by, ProvedRewritesFollow}
use Rattle.chyp_verdicts.specs.Steps.{AreGood, AreUsable, IsVerdictOnSteps, Move, moves_of, proved, rules_of, stops, unfinished}
use Rattle.chyp_env.proofs.Bindings.{All-from}
use Rattle.chyp_verdicts.proofs.Cited.{Contains-flat_map, reasons-usable}
use Rattle.chyp_verdicts.proofs.Derivations.{Equation, weaken}
use Rattle.chyp_simp.specs.Laws.{AreEquations, IsUsable}
use Rattle.chyp_verdicts.proofs.Judgements.{judgement-sound}
use Rattle.chyp_verdicts.proofs.Known.{Known}
use Rattle.chyp_verdicts.proofs.OneVerdict.{some-once}
use Rattle.chyp_verdicts.proofs.SomeBinding.{refusal-bad, refused-bad}
use Rattle.chyp_names.proofs.Closing.{goals_at}

-- the rules behind the reason are equations among those
abbrev IsAmong : List Equation → Reason → Type 0
IsAmong E reason = AreEquations (rules_of reason) × ((e : Equation) → Contains (rules_of reason) e → Contains E e)

-- where each step is good, the first term equals the last by the rules
walk : (E : List Equation) (t : Morphism) (ts : List Morphism) (reasons : List Reason) → length ts ≤ length reasons → All (IsAmong E) reasons → AreTypedAlike (t ∷ ts)
    → AreGood (moves_of (t ∷ ts) reasons) (length (moves_of (t ∷ ts) reasons)) → (last : Morphism) → slice_get (t ∷ ts) (length (t ∷ ts) - 1) ≡ Some last → Derives E t last
walk E t [] reasons few among alike all last l =
    let is : t ≡ last = cc in
    subst (Derives E t) is (same (alike 0 t (omega arith) 0 t (omega arith)).left)
walk E t (u ∷ us) [] few among alike all last l = absurd (omega arith)
walk E t (u ∷ us) (reason ∷ reasons) few among alike all last l =
    let move : Move = record { reason = reason; from = t; to = u } in
    let here : IsJudgement reason t u Good = all 0 move (omega arith) refl in
    let mine : IsAmong E reason = among 0 reason (omega arith) in
    let first : Derives E t u = weaken E (rules_of reason) mine.1 (judgement-sound reason t u (alike 0 t (omega arith) 1 u (omega arith)) mine.0 here) in
    let at : length (t ∷ u ∷ us) - 1 ≡ suc (length (u ∷ us) - 1) = omega arith in
    chain first
    (walk E u us reasons (omega arith) (λ k d h. among (suc k) d (omega arith)) (λ j d i k f n. alike (suc j) d (omega arith) (suc k) f (omega arith))
    (λ j m i f. all (suc j) m (omega arith) f) last (ap (slice_get (t ∷ u ∷ us)) (sym at) ∙ l))

kept-few : {A B : Type 0} (f : A → Option B) (xs : List A) → length (filter_map f xs) ≤ length xs
kept-few f [] = omega arith
kept-few f (x ∷ xs) = go (f x) (kept-few f xs)
  where
    go : (o : Option _) → length (filter_map f xs) ≤ length xs → length (cons_option o (filter_map f xs)) ≤ suc (length xs)
    go None h = omega arith
    go (Some y) h = omega arith

-- a rewrite leads to no more terms than it has steps
pub goals-few : (site : Site) (steps : List StepTree) → length (goals_at site steps) ≤ length (map (λ (step : StepTree). reason_at site.scope step.reason) steps)
goals-few site steps =
    let few = kept-few (λ (step : StepTree). step.goal) steps in
    let terms = length-map (goals_of steps) (expansion_at site.scope) in
    let same = length-map steps (λ (step : StepTree). reason_at site.scope step.reason) in
    omega arith

-- a rewrite that is proved, with its tree
pub record ProvedSteps (site : Site) : Type 0 where
  pub name : ℕ
  pub first : TermTree
  pub steps : List StepTree
  pub is_sentence : IsSentence site.scope.words (rewrite name first steps)
  pub passes : Passes site (rewrite name first steps)
  pub all_good : AreGood (moves_at site (rewrite name first steps)) (length (moves_at site (rewrite name first steps)))

pub proved-steps : (site : Site) (v : Verdict) → v ≡ Proved → IsJudged site v → ProvedSteps site
proved-steps site v e (no_sentence f) = absurd cc
proved-steps site v e (refused {tree} t r) = absurd ((refused-bad site tree v r).0 e)
proved-steps site v e (accepted t p n) = absurd cc
proved-steps site v e (by_steps {name} {first} {steps} t p x) = go v x e
  where
    go : (w : Verdict) → IsVerdictOnSteps (terms_of site (rewrite name first steps)) (steps_at site.scope (rewrite name first steps)) (has_hole (rewrite name first steps)) w → w ≡ Proved
        → ProvedSteps site
    go w (stops s) e = absurd ((refusal-bad (s.k + 1) s.judged w s.refuses).0 e)
    go w (unfinished f o) e = absurd cc
    go w (proved f o) e = record { name = name; first = first; steps = steps; is_sentence = t; passes = p; all_good = f }

-- a proved rewrite follows from what it cites
pub proved-follows : Known → ProvedRewritesFollow
proved-follows known site env j first last is = go (proved-steps site Proved refl j)
  where
    mine : StatementTree
    mine = rewrite is.name is.tree is.steps

    E : List Equation
    E = cited_by site mine

    among : Passes site mine → All (IsAmong E) (steps_at site.scope mine)
    among p =
        let usable : AreUsable (steps_at site.scope mine) = reasons-usable site env mine p in
        All-from (IsAmong E) (steps_at site.scope mine) (λ r c. (
          λ k d h. (All-contains (λ x. All IsUsable (rules_of x)) (steps_at site.scope mine) r usable c k d h).0,
          λ e d. Contains-flat_map rules_of (steps_at site.scope mine) r e c d,
        ))

    go : ProvedSteps site → Derives E first last
    go q =
        let trees : rewrite q.name q.first q.steps ≡ mine = known.trees site.scope.words (rewrite q.name q.first q.steps) mine q.is_sentence is.is_sentence in
        let p : Passes site mine = subst (Passes site) trees q.passes in
        let good : AreGood (moves_at site mine) (length (moves_at site mine)) = subst (λ x. AreGood (moves_at site x) (length (moves_at site x))) trees q.all_good in
        let one : expansion_at site.scope is.tree ≡ first = some-once (slice_get (terms_of site mine) 0) (expansion_at site.scope is.tree) first refl is.is_first in
        subst (λ m. Derives E m last) one
        (walk E (expansion_at site.scope is.tree) (goals_at site is.steps) (steps_at site.scope mine) (goals-few site is.steps) (among p) (known.typed site env mine p) good last is.is_last)
