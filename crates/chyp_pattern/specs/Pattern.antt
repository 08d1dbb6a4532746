-- Graphs with their components.
use Rattle.std.specs.Prelude.{List, ◌<◌, ◌^◌, length}
use Rattle.chyp_pattern.specs.Component.{AreAnchors}
use Rattle.chyp_graph.specs.PlainGraph.{PlainGraph}
use Rattle.chyp_pattern.specs.declared.anchor.Anchor.{Anchor}

-- a plain graph and what its components begin with
pub record Parts : Type 0 where
  pub graph : PlainGraph
  pub anchors : List Anchor

-- the anchors are those of the graph, and not too many
pub record IsPattern (p : Parts) : Type 0 where
  pub anchors : AreAnchors p.graph p.anchors
  pub few : length p.anchors < 2 ^ 32
