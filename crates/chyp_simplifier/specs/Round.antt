-- What rules do to a graph. No public clause cites this.
use Rattle.std.specs.Prelude.{ℕ, ◌≤◌, ◌<◌, ◌+◌, ◌^◌, List, length}
use Rattle.chyp_graph.specs.PlainGraph.{PlainGraph}
use Rattle.chyp_pattern.specs.Occurrence.{IsOccurrence}
use Rattle.chyp_pattern.specs.Replacement.{replaced}
use Rattle.chyp_pattern.specs.declared.occurrence.Occurrence.{Occurrence}
use Rattle.chyp_simp.specs.Run.{AreIdle, HavePlacements, IsIdle, IsLeast, IsWide, Rewrites, Rule, most_placements}
use Rattle.chyp_simplifier.specs.Rule.{most_size}
use Rattle.chyp_simplifier.specs.declared.round.Round.{Round}
use Rattle.chyp_simplifier.specs.declared.round.Round.TheVariants.{Idle, Rewritten, TooWide}

-- with a right side more the graph has few enough edges and wires to be kept
pub record HasRoom (g : PlainGraph) : Type 0 where
  pub edges : length g.edges + most_size < 2 ^ 31
  pub wires : length g.wires + most_size < 2 ^ 31

-- what the rules do to the graph, in their order
pub data Does (rules : List Rule) (g : PlainGraph) : Round → Type 0 where
  nothing : AreIdle rules g (length rules) → Does rules g Idle
  too_wide : {n : ℕ} → IsWide rules g n → Does rules g (TooWide n)
  rewrites : {h : PlainGraph} → Rewrites rules g h → Does rules g (Rewritten h)

-- what one rule does to it
pub data Applies (rule : Rule) (g : PlainGraph) : Round → Type 0 where
  is_idle : IsIdle rule.0 g → Applies rule g Idle
  is_wide : {n : ℕ} → HavePlacements rule.0 g n → most_placements < n → Applies rule g (TooWide n)
  at_least : {n : ℕ} {at : Occurrence} → HavePlacements rule.0 g n → n ≤ most_placements → IsLeast rule.0 g at
      → Applies rule g (Rewritten (replaced g rule.0 rule.1 at.edges at.wires))

-- the least occurrence of its left side is replaced, or there is none
pub data IsRewritten (rule : Rule) (g : PlainGraph) : Round → Type 0 where
  nowhere : ((at : Occurrence) → ¬ IsOccurrence rule.0 g at.edges at.wires) → IsRewritten rule g Idle
  at : {at : Occurrence} → IsLeast rule.0 g at → IsRewritten rule g (Rewritten (replaced g rule.0 rule.1 at.edges at.wires))
