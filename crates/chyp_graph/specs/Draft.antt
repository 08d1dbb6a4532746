-- Graphs while they are drawn. No public clause cites this.
use Rattle.std.specs.Prelude.{ℕ, ◌≡◌, List, ◌++◌, drop, length, take}
use Rattle.chyp_term.specs.Morphism.{Morphism, dom}
use Rattle.chyp_graph.specs.declared.draft.Draft.{Draft}
use Rattle.chyp_graph.specs.PlainGraph.{PlainGraph}
use Rattle.chyp_graph.specs.Composition.{then_graph}
use Rattle.chyp_graph.specs.GraphOf.{graph_of}

-- the plain graph that is drawn so far
abbrev pub drawn : Draft → PlainGraph
drawn d = record { wires = d.wires.items; edges = d.edges.items; inputs = d.inputs.items; outputs = d.outputs.items }

-- h drawn behind the wires live of g: its outputs come after those of g
abbrev pub followed : PlainGraph → List ℕ → PlainGraph → PlainGraph
followed g live h =
    record {
      wires = (then_graph (record g { outputs = live }) h).wires;
      edges = (then_graph (record g { outputs = live }) h).edges;
      inputs = g.inputs;
      outputs = g.outputs ++ (then_graph (record g { outputs = live }) h).outputs;
    }

-- what is drawn where the term is put behind g: it takes as inputs those of the live wires that begin at a place
abbrev pub IsFollowed : PlainGraph → List ℕ → ℕ → Morphism → PlainGraph → Type 0
IsFollowed g live at t after = after ≡ followed g (take (length (dom t)) (drop at live)) (graph_of t)
