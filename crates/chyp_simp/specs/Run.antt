-- Rewriting a graph by rules in their order, as far as they go.
use Rattle.std.specs.Prelude.{ℕ, zero, suc, ◌<◌, ◌≤◌, ◌≡◌, List, map, length, Some, slice_get}
use Rattle.chyp_term.specs.Morphism.{Morphism}
use Rattle.chyp_graph.specs.GraphOf.{graph_of}
use Rattle.chyp_graph.specs.PlainGraph.{PlainGraph}
use Rattle.chyp_pattern.specs.Occurrence.{IsOccurrence}
use Rattle.chyp_pattern.specs.Occurrences.{IsBefore}
use Rattle.chyp_pattern.specs.Pattern.{IsPattern, Parts}
use Rattle.chyp_pattern.specs.Placements.{ArePlacements}
use Rattle.chyp_pattern.specs.Replacement.{replaced}
use Rattle.chyp_pattern.specs.declared.occurrence.Occurrence.{Occurrence}
use Rattle.chyp_simp.specs.declared.ending.Ending.{Ending}
use Rattle.chyp_simp.specs.declared.ending.Ending.TheVariants.{AtLimit, NormalForm, TooWide}
use Rattle.chyp_simp.specs.declared.limits.TheConstants.{MOST_PLACEMENTS, MOST_REWRITES}

-- the most placements of a rule's left side
abbrev pub most_placements : ℕ
most_placements = MOST_PLACEMENTS

-- the most rewrites of one run
abbrev pub most_rewrites : ℕ
most_rewrites = MOST_REWRITES

-- a rule: the graph that is looked for, and the one that takes its place
abbrev pub Rule : Type 0
Rule = PlainGraph × PlainGraph

-- the graphs of the two sides of an equation
abbrev pub rule_of : Morphism × Morphism → Rule
rule_of equation = (graph_of equation.0, graph_of equation.1)

-- those of each equation
abbrev pub rules_of : List (Morphism × Morphism) → List Rule
rules_of equations = map rule_of equations

-- l has so many placements in g
pub record HavePlacements (l g : PlainGraph) (placements : ℕ) : Type 0 where
  pub pattern : Parts
  pub is_pattern : IsPattern pattern
  pub of_left : pattern.graph ≡ l
  pub are : ArePlacements pattern g placements

-- l has few placements in g, and no occurrence
pub record IsIdle (l g : PlainGraph) : Type 0 where
  pub placements : ℕ
  pub are : HavePlacements l g placements
  pub few : placements ≤ most_placements
  pub none : (at : Occurrence) → ¬ IsOccurrence l g at.edges at.wires

-- so it is with the left side of each of the first k rules
abbrev pub AreIdle : List Rule → PlainGraph → ℕ → Type 0
AreIdle rules g k = (j : ℕ) (rule : Rule) → j < k → slice_get rules j ≡ Some rule → IsIdle rule.0 g

-- looking at the rules in their order one comes to this rule: each before it has few placements, and no occurrence
pub record ComesTo (rules : List Rule) (g : PlainGraph) (rule : Rule) : Type 0 where
  pub k : ℕ
  pub is : slice_get rules k ≡ Some rule
  pub front : AreIdle rules g k

-- the least of the occurrences of l in g, in lexicographic order
pub record IsLeast (l g : PlainGraph) (at : Occurrence) : Type 0 where
  pub occurs : IsOccurrence l g at.edges at.wires
  pub least : (o : Occurrence) → IsOccurrence l g o.edges o.wires → ¬ IsBefore o at

-- One rewrite from g to h: one comes to a rule that has few placements and an occurrence, and it is applied at its least one.
pub record Rewrites (rules : List Rule) (g h : PlainGraph) : Type 0 where
  pub rule : Rule
  pub reached : ComesTo rules g rule
  pub placements : ℕ
  pub are : HavePlacements rule.0 g placements
  pub few : placements ≤ most_placements
  pub at : Occurrence
  pub least : IsLeast rule.0 g at
  pub is : h ≡ replaced g rule.0 rule.1 at.edges at.wires

-- one comes to a rule that has so many placements, which are too many
pub record IsWide (rules : List Rule) (g : PlainGraph) (placements : ℕ) : Type 0 where
  pub rule : Rule
  pub reached : ComesTo rules g rule
  pub are : HavePlacements rule.0 g placements
  pub many : most_placements < placements

-- n rewrites lead from g to h
pub data RewritesIn (rules : List Rule) (g : PlainGraph) : ℕ → PlainGraph → Type 0 where
  none : RewritesIn rules g zero g
  one_more : {n : ℕ} {h k : PlainGraph} → RewritesIn rules g n h → Rewrites rules h k → RewritesIn rules g (suc n) k

-- no rewrite leads on from g: no rule has an occurrence, or one comes to a rule that has too many placements
pub data Stops (rules : List Rule) (g : PlainGraph) : Ending → Type 0 where
  normal : AreIdle rules g (length rules) → Stops rules g (NormalForm g)
  wide : {placements : ℕ} → IsWide rules g placements → Stops rules g (TooWide placements)

-- The run of the rules from g: it ends where no rewrite leads on, or at the limit, where one more rewrite would.
pub data Ends (rules : List Rule) (g : PlainGraph) : Ending → Type 0 where
  stops : {n : ℕ} {h : PlainGraph} {ending : Ending} → n ≤ most_rewrites → RewritesIn rules g n h → Stops rules h ending
      → Ends rules g ending
  limit : {h k : PlainGraph} → RewritesIn rules g most_rewrites h → Rewrites rules h k → Ends rules g AtLimit
