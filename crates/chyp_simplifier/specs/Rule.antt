-- Rules of graphs, as they are kept.
use Rattle.std.specs.Prelude.{ℕ, ◌≤◌, length}
use Rattle.chyp_term.specs.Limits as limits
use Rattle.chyp_graph.specs.PlainGraph.{PlainGraph}
use Rattle.chyp_pattern.specs.Pattern.{IsPattern}
use Rattle.chyp_pattern.specs.Replacement.{IsGraphRule}
use Rattle.chyp_simp.specs.Run as run
use Rattle.chyp_simplifier.specs.declared.rule.Rule.{Rule}

-- the most edges and the most wires of the graph of one term
abbrev pub most_size : ℕ
most_size = limits.most_size

-- the graph has at most so many edges, and at most so many wires
pub record IsSmall (most : ℕ) (g : PlainGraph) : Type 0 where
  pub edges : length g.edges ≤ most
  pub wires : length g.wires ≤ most

-- the graphs of the two sides
abbrev pub graphs_of : Rule → run.Rule
graphs_of rule = (rule.left.graph, rule.right)

-- both sides are valid and have one type, the left one has its components, and the right one is small
pub record IsRule (rule : Rule) : Type 0 where
  pub sides : IsGraphRule rule.left.graph rule.right
  pub pattern : IsPattern rule.left
  pub small : IsSmall most_size rule.right
