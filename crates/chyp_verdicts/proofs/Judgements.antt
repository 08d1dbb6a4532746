-- Each step that can be judged has exactly one judgement, and the equation of a good one follows from its rules.
use Rattle.std.proofs.Common.{◌≡◌, ℕ, ◌<◌, ◌≤◌, List, [], length, ◌⊎◌, inl, inr, refl, sym, ◌∙◌, ap, arith}
use Rattle.std.proofs.lemmas.Bool.{cases_lt}
use Rattle.chyp_term.specs.Derivation.{Derives, IsEquation}
use Rattle.chyp_term.specs.Morphism.{Morphism}
use Rattle.chyp_term.specs.Rewriting.{RewritesInContext}
use Rattle.chyp_term.specs.Step.{Reason, by_laws, by_rule, by_simp}
use Rattle.chyp_laws.specs.Laws.{LawsAreDecided}
use Rattle.chyp_laws.specs.Rewriting.{RewritesAreDecided}
use Rattle.chyp_graph.specs.GraphOf.{graph_of}
use Rattle.chyp_pattern.proofs.Listed.{occurrences_listed}
use Rattle.chyp_simp.specs.Comparing.{IsComparison}
use Rattle.chyp_simp.specs.Laws.{AreEquations}
use Rattle.chyp_simp.specs.Run.{most_placements}
use Rattle.chyp_simp.specs.declared.comparison.Comparison.{Comparison}
use Rattle.chyp_simp.specs.declared.comparison.Comparison.TheVariants as compared
use Rattle.chyp_simp.specs.declared.comparison.Comparison.TheVariants.{AtLimit, Different, Equal}
use Rattle.chyp_simp.proofs.Comparing.{comparison-once, equal-derived, one-comparison}
use Rattle.chyp_simp.proofs.Placements.{placements-once, some-placements}
use Rattle.chyp_judge.specs.Judged.{CanBeJudged, HaveOccurrences, HavePlacements, IsJudgement, derived, not_derived, rewrites, rewrites_not, simp_limit, simp_wide, simplifies, simplifies_not, wide}
use Rattle.chyp_judge.specs.declared.judged.Judged.{Judged}
use Rattle.chyp_judge.specs.declared.judged.Judged.TheVariants.{Differs, Good, NoRewrite, SimpDiffers, SimpLimit, TooWide}
use Rattle.chyp_verdicts.specs.Steps.{rules_of}
use Rattle.chyp_verdicts.proofs.Derivations.{context-derives}

-- ---- occurrences

occurrences-once : (l t : Morphism) (m n : ℕ) → HaveOccurrences l t m → HaveOccurrences l t n → m ≡ n
occurrences-once l t m n a b =
    let one = occurrences_listed (graph_of l) (graph_of t) in
    sym a.many ∙ ap length (one.2 a.occurrences a.are ∙ sym (one.2 b.occurrences b.are)) ∙ b.many

some-occurrences : (l t : Morphism) → (n : ℕ) × HaveOccurrences l t n
some-occurrences l t =
    let one = occurrences_listed (graph_of l) (graph_of t) in
    (length one.0, record { occurrences = one.0; are = one.1; many = refl })

-- ---- steps by `simp`

-- the judgement on a step whose terms compare so
judged-by : Comparison → Judged
judged-by Equal = Good
judged-by Different = SimpDiffers
judged-by (compared.TooWide n) = TooWide n
judged-by AtLimit = SimpLimit

simp-judged : (rules : List (Morphism × Morphism)) (t u : Morphism) (c : Comparison) → IsComparison rules t u c → IsJudgement (by_simp rules) t u (judged-by c)
unfolding judged-by
simp-judged rules t u Equal c = simplifies c
simp-judged rules t u Different c = simplifies_not c
simp-judged rules t u (compared.TooWide n) c = simp_wide c
simp-judged rules t u AtLimit c = simp_limit c

judged-simp : (rules : List (Morphism × Morphism)) (t u : Morphism) (j : Judged) → IsJudgement (by_simp rules) t u j
    → (c : Comparison) × IsComparison rules t u c × (j ≡ judged-by c)
unfolding judged-by
judged-simp rules t u j (simplifies c) = (Equal, c, refl)
judged-simp rules t u j (simplifies_not c) = (Different, c, refl)
judged-simp rules t u j (simp_wide {n} c) = (compared.TooWide n, c, refl)
judged-simp rules t u j (simp_limit c) = (AtLimit, c, refl)

-- ---- all steps

-- a good step follows from its rules
pub judgement-sound : (reason : Reason) (t u : Morphism) → IsEquation t u → AreEquations (rules_of reason) → IsJudgement reason t u Good → Derives (rules_of reason) t u
judgement-sound reason t u types rules is = go reason t u Good refl types rules is
  where
    go : (reason : Reason) (t u : Morphism) (j : Judged) → j ≡ Good → IsEquation t u → AreEquations (rules_of reason) → IsJudgement reason t u j → Derives (rules_of reason) t u
    go reason t u j e types rules (derived d) = d
    go reason t u j e types rules (not_derived d) = absurd cc
    go reason t u j e types rules (wide p w) = absurd cc
    go reason t u j e types rules (rewrites {l} {r} p n c) = context-derives l r t u (rules 0 (l, r) (omega arith)) c
    go reason t u j e types rules (rewrites_not p n c k) = absurd cc
    go reason t u j e types rules (simplifies {rules = E} c) = equal-derived E t u rules types c
    go reason t u j e types rules (simplifies_not c) = absurd cc
    go reason t u j e types rules (simp_wide c) = absurd cc
    go reason t u j e types rules (simp_limit c) = absurd cc

-- no step has two judgements
pub judgement-once : (reason : Reason) (t u : Morphism) (a b : Judged) → IsJudgement reason t u a → IsJudgement reason t u b → a ≡ b
judgement-once reason t u a b (derived d) (derived e) = refl
judgement-once reason t u a b (derived d) (not_derived e) = absurd (e d)
judgement-once reason t u a b (not_derived d) (derived e) = absurd (d e)
judgement-once reason t u a b (not_derived d) (not_derived e) = refl
judgement-once reason t u a b (wide {l} {r} {n} p w) (wide {l = x} {r = y} {n = m} q v) = ap TooWide (placements-once (graph_of l) (graph_of t) n m p q)
judgement-once reason t u a b (wide {l} {r} {n} p w) (rewrites {n = m} q v c) = let same = placements-once (graph_of l) (graph_of t) n m p q in absurd (omega arith)
judgement-once reason t u a b (wide {l} {r} {n} p w) (rewrites_not {n = m} q v c k) = let same = placements-once (graph_of l) (graph_of t) n m p q in absurd (omega arith)
judgement-once reason t u a b (rewrites {l} {r} {n} p w c) (wide {n = m} q v) = let same = placements-once (graph_of l) (graph_of t) n m p q in absurd (omega arith)
judgement-once reason t u a b (rewrites p w c) (rewrites q v d) = refl
judgement-once reason t u a b (rewrites p w c) (rewrites_not q v d k) = absurd (d c)
judgement-once reason t u a b (rewrites_not {l} {r} {n} p w c k) (wide {n = m} q v) = let same = placements-once (graph_of l) (graph_of t) n m p q in absurd (omega arith)
judgement-once reason t u a b (rewrites_not p w c k) (rewrites q v d) = absurd (c d)
judgement-once reason t u a b (rewrites_not {l} {r} {k = m} p w c k) (rewrites_not {k = n} q v d h) = ap NoRewrite (occurrences-once l t m n k h)
judgement-once (by_simp rules) t u a b p q =
    let x = judged-simp rules t u a p in
    let y = judged-simp rules t u b q in
    x.2 ∙ ap judged-by (comparison-once rules t u x.0 y.0 x.1 y.1) ∙ sym y.2

-- each step that can be judged has one
pub some-judgement : LawsAreDecided → RewritesAreDecided → (reason : Reason) (t u : Morphism) → CanBeJudged reason → IsEquation t u → (j : Judged) × IsJudgement reason t u j
some-judgement laws contexts by_laws t u can is = go (laws t u is.left is.right)
  where
    go : Derives [] t u ⊎ ¬ Derives [] t u → (j : Judged) × IsJudgement by_laws t u j
    go (inl d) = (Good, derived d)
    go (inr d) = (Differs, not_derived d)
some-judgement laws contexts (by_rule (l, r)) t u can is = go (some-placements l can.0.left can.1 (graph_of t)) (contexts l r t u can.0 is) (some-occurrences l t)
  where
    go : (n : ℕ) × HavePlacements l t n → RewritesInContext l r t u ⊎ ¬ RewritesInContext l r t u → (k : ℕ) × HaveOccurrences l t k
        → (j : Judged) × IsJudgement (by_rule (l, r)) t u j
    go (n, p) c (k, occ) = within (cases_lt most_placements n)
      where
        within : (most_placements < n) ⊎ (n ≤ most_placements) → (j : Judged) × IsJudgement (by_rule (l, r)) t u j
        within (inl w) = (TooWide n, wide p w)
        within (inr w) = elim c [ inl d ↦ (Good, rewrites p w d) | inr d ↦ (NoRewrite k, rewrites_not p w d occ) ]
some-judgement laws contexts (by_simp rules) t u can is =
    let one = one-comparison rules t u can is in
    (judged-by one.comparison, simp-judged rules t u one.comparison one.is)
