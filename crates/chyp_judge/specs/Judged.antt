-- How the steps of a rewrite are judged.
use Rattle.std.specs.Prelude.{◌≡◌, ℕ, ◌<◌, ◌≤◌, List, [], length}
use Rattle.chyp_term.specs.Derivation.{Derives}
use Rattle.chyp_term.specs.Morphism.{Morphism}
use Rattle.chyp_term.specs.Rewriting.{RewritesInContext}
use Rattle.chyp_term.specs.Step.{Reason, by_laws, by_rule, by_simp}
use Rattle.chyp_graph.specs.GraphOf.{graph_of}
use Rattle.chyp_pattern.specs.Occurrences.{AreOccurrences}
use Rattle.chyp_pattern.specs.declared.occurrence.Occurrence.{Occurrence}
use Rattle.chyp_judge.specs.declared.judged.Judged.{Judged}
use Rattle.chyp_judge.specs.declared.judged.Judged.TheVariants.{Differs, Good, NoRewrite, SimpDiffers, SimpLimit, TooWide}
use Rattle.chyp_simp.specs.Comparing.{IsComparison}
use Rattle.chyp_simp.specs.Laws.{AreUsable, IsUsable}
use Rattle.chyp_simp.specs.Run as run
use Rattle.chyp_simp.specs.Run.{most_placements}
use Rattle.chyp_simp.specs.declared.comparison.Comparison.TheVariants as compared
use Rattle.chyp_simp.specs.declared.comparison.Comparison.TheVariants.{AtLimit, Different, Equal}

-- l has so many placements in t
abbrev pub HavePlacements : Morphism → Morphism → ℕ → Type 0
HavePlacements l t placements = run.HavePlacements (graph_of l) (graph_of t) placements

-- l has so many convex occurrences in t
pub record HaveOccurrences (l t : Morphism) (number : ℕ) : Type 0 where
  pub occurrences : List Occurrence
  pub are : AreOccurrences (graph_of l) (graph_of t) occurrences
  pub many : length occurrences ≡ number

-- The table of steps from t to u. A step without a rule is good where the monoidal laws derive t = u, and else it differs. A
-- step by l = r is too wide where l has too many placements in t; else it is good where l = r, in some context, rewrites t to
-- u, and where no context does, it comes with the number of occurrences of l in t. A step by `simp` is as its terms compare by
-- the normal forms to which the rules lead them.
pub data IsJudgement : Reason → Morphism → Morphism → Judged → Type 0 where
  derived : {t u : Morphism} → Derives [] t u → IsJudgement by_laws t u Good
  not_derived : {t u : Morphism} → ¬ Derives [] t u → IsJudgement by_laws t u Differs
  wide : {l r t u : Morphism} {n : ℕ} → HavePlacements l t n → most_placements < n → IsJudgement (by_rule (l, r)) t u (TooWide n)
  rewrites : {l r t u : Morphism} {n : ℕ} → HavePlacements l t n → n ≤ most_placements → RewritesInContext l r t u
      → IsJudgement (by_rule (l, r)) t u Good
  rewrites_not : {l r t u : Morphism} {n k : ℕ} → HavePlacements l t n → n ≤ most_placements → ¬ RewritesInContext l r t u
      → HaveOccurrences l t k → IsJudgement (by_rule (l, r)) t u (NoRewrite k)
  simplifies : {rules : List (Morphism × Morphism)} {t u : Morphism} → IsComparison rules t u Equal → IsJudgement (by_simp rules) t u Good
  simplifies_not : {rules : List (Morphism × Morphism)} {t u : Morphism} → IsComparison rules t u Different
      → IsJudgement (by_simp rules) t u SimpDiffers
  simp_wide : {rules : List (Morphism × Morphism)} {t u : Morphism} {n : ℕ} → IsComparison rules t u (compared.TooWide n)
      → IsJudgement (by_simp rules) t u (TooWide n)
  simp_limit : {rules : List (Morphism × Morphism)} {t u : Morphism} → IsComparison rules t u AtLimit
      → IsJudgement (by_simp rules) t u SimpLimit

-- the step can be judged: each rule that it names is an equation of two terms within the limits
abbrev pub CanBeJudged : Reason → Type 0
CanBeJudged by_laws = Unit {0}
CanBeJudged (by_rule rule) = IsUsable rule
CanBeJudged (by_simp rules) = AreUsable rules
