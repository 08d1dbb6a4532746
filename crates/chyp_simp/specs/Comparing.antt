-- How two terms compare by the normal forms to which rules lead them.
use Rattle.std.specs.Prelude.{◌≡◌, ℕ, List, []}
use Rattle.chyp_term.specs.Derivation.{Derives, IsEquation}
use Rattle.chyp_term.specs.Morphism.{Morphism}
use Rattle.chyp_graph.specs.GraphOf.{graph_of}
use Rattle.chyp_graph.specs.PlainGraph.{PlainGraph}
use Rattle.chyp_extract.specs.Extraction.{extracted}
use Rattle.chyp_simp.specs.declared.comparison.Comparison.{Comparison}
use Rattle.chyp_simp.specs.declared.comparison.Comparison.TheVariants as compared
use Rattle.chyp_simp.specs.declared.comparison.Comparison.TheVariants.{Equal, Different}
use Rattle.chyp_simp.specs.declared.ending.Ending.{Ending}
use Rattle.chyp_simp.specs.declared.ending.Ending.TheVariants.{AtLimit, NormalForm, TooWide}
use Rattle.chyp_simp.specs.Laws.{AreEquations, AreUsable}
use Rattle.chyp_simp.specs.Run.{Ends, rules_of}

-- the run from the graph of the term ends so
abbrev pub EndsFrom : List (Morphism × Morphism) → Morphism → Ending → Type 0
EndsFrom equations t ending = Ends (rules_of equations) (graph_of t) ending

-- The table of comparisons of t and u. Where both runs end in normal forms, the terms are equal if the monoidal laws alone
-- derive the equation of what is read back from these, and else different. Where the run from t ends in none, that decides;
-- else it decides where the run from u ends in none.
pub data IsComparison (equations : List (Morphism × Morphism)) (t u : Morphism) : Comparison → Type 0 where
  equal : {g h : PlainGraph} → EndsFrom equations t (NormalForm g) → EndsFrom equations u (NormalForm h)
      → Derives [] (extracted g) (extracted h) → IsComparison equations t u Equal
  different : {g h : PlainGraph} → EndsFrom equations t (NormalForm g) → EndsFrom equations u (NormalForm h)
      → ¬ Derives [] (extracted g) (extracted h) → IsComparison equations t u Different
  first_wide : {n : ℕ} → EndsFrom equations t (TooWide n) → IsComparison equations t u (compared.TooWide n)
  first_at_limit : EndsFrom equations t AtLimit → IsComparison equations t u compared.AtLimit
  second_wide : {g : PlainGraph} {n : ℕ} → EndsFrom equations t (NormalForm g) → EndsFrom equations u (TooWide n)
      → IsComparison equations t u (compared.TooWide n)
  second_at_limit : {g : PlainGraph} → EndsFrom equations t (NormalForm g) → EndsFrom equations u AtLimit
      → IsComparison equations t u compared.AtLimit

-- the terms compare in exactly one way
pub record HaveOneComparison (equations : List (Morphism × Morphism)) (t u : Morphism) : Type 0 where
  pub comparison : Comparison
  pub is : IsComparison equations t u comparison
  pub only : (other : Comparison) → IsComparison equations t u other → other ≡ comparison

-- so do each two terms of one type
abbrev pub EachStepHasOneComparison : Type 0
EachStepHasOneComparison = (equations : List (Morphism × Morphism)) (t u : Morphism) → AreUsable equations → IsEquation t u
    → HaveOneComparison equations t u

-- where they are equal, they have a derivation from the equations
abbrev pub EqualsAreDerived : Type 0
EqualsAreDerived = (equations : List (Morphism × Morphism)) (t u : Morphism) → AreEquations equations → IsEquation t u
    → IsComparison equations t u Equal → Derives equations t u
