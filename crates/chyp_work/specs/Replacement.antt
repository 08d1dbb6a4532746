-- Replacement: an occurrence of one side of a rule goes, and the other side comes in its place.
use Rattle.std.specs.Prelude.{ℕ, ◌<◌, ◌≡◌, ◌⊎◌, true, List, ◌++◌, length, map, filter, Some, slice_index}
use Rattle.std.specs.List.{zip}
use Rattle.std.specs.Option.{option_map_or}
use Rattle.chyp_term.specs.Positions.{is_apart, place_of}
use Rattle.chyp_graph.specs.PlainGraph.{Edge, PlainGraph, renamed}
use Rattle.chyp_term.proofs.Members.{Member}
use Rattle.chyp_pattern.specs.Replacement.{replaced}
use Rattle.chyp_store.specs.Items.{AreDistinct, ids}
use Rattle.chyp_work.specs.Net.{IsSound, place_in, plain}
use Rattle.chyp_match.specs.View.{Net}

-- by numbers: the image of the i-th of `inner` becomes the i-th of `ends`, and all else keeps its number
abbrev pub moved : List ℕ → List ℕ → List ℕ → List ℕ → ℕ → ℕ
moved ws vs inner ends w = option_map_or (λ i. slice_index vs (slice_index ends i)) (place_of w (map (slice_index ws) inner)) w

abbrev pub moved_edge : PlainGraph → PlainGraph → List ℕ → List ℕ → ℕ × Edge → ℕ × Edge
moved_edge l r ws vs e = (
  e.0,
  record {
    name = e.1.name;
    sources = map (moved ws vs l.outputs r.outputs) e.1.sources;
    targets = map
        (moved ws vs l.inputs r.inputs) e.1.targets;
  },
)

-- n with r in place of l, at the edges es and the wires ws, where r's edges get the numbers ds, and its wires the numbers vs
abbrev pub replaced_in : Net → PlainGraph → PlainGraph → List ℕ → List ℕ → List ℕ → List ℕ → Net
replaced_in n l r es ws ds vs =
    record {
      edges = map (moved_edge l r ws vs) (filter (λ e. is_apart es e.0) n.edges) ++ zip ds (map (renamed (slice_index vs)) r.edges);
      wires = filter (λ e. is_apart ws e.0) n.wires ++ zip vs r.wires;
      inputs = map (moved ws vs l.inputs r.inputs) n.inputs;
      outputs = map (moved ws vs l.outputs r.outputs) n.outputs;
    }

-- w stays, or is one of these images
abbrev pub IsCovered : List ℕ → List ℕ → ℕ → Type 0
IsCovered ws inner w = (is_apart ws w ≡ true) ⊎ ((i : ℕ) × (place_of w (map (slice_index ws) inner) ≡ Some i))

-- the images are there, the new numbers are new, the sides of the rule have as many inputs and outputs, and what stays meets
-- the image at its inputs and outputs alone, as at each occurrence
pub record Fits (n : Net) (l r : PlainGraph) (es ws ds vs : List ℕ) : Type 0 where
  pub edge_images : (k : ℕ) → Member k es → Member k (ids n.edges)
  pub wire_images : (w : ℕ) → Member w ws → Member w (ids n.wires)
  pub new_edges : length ds ≡ length r.edges
  pub new_wires : length vs ≡ length r.wires
  pub vs_apart : AreDistinct vs
  pub fresh : (v : ℕ) → Member v vs → is_apart (ids n.wires) v ≡ true
  pub inputs : length l.inputs ≡ length r.inputs
  pub outputs : length l.outputs ≡ length r.outputs
  pub left_inputs : (v : ℕ) → Member v l.inputs → v < length ws
  pub left_outputs : (v : ℕ) → Member v l.outputs → v < length ws
  pub right_inputs : (v : ℕ) → Member v r.inputs → v < length r.wires
  pub right_outputs : (v : ℕ) → Member v r.outputs → v < length r.wires
  pub right_sources : (e : Edge) (v : ℕ) → Member e r.edges → Member v e.sources → v < length r.wires
  pub right_targets : (e : Edge) (v : ℕ) → Member e r.edges → Member v e.targets → v < length r.wires
  pub sources : (e : ℕ × Edge) (w : ℕ) → Member e n.edges → is_apart es e.0 ≡ true → Member w e.1.sources → IsCovered ws l.outputs w
  pub targets : (e : ℕ × Edge) (w : ℕ) → Member e n.edges → is_apart es e.0 ≡ true → Member w e.1.targets → IsCovered ws l.inputs w
  pub ins : (w : ℕ) → Member w n.inputs → IsCovered ws l.inputs w
  pub outs : (w : ℕ) → Member w n.outputs → IsCovered ws l.outputs w

-- by numbers and by places, replacement is the same
abbrev pub ReplacedIsReplaced : Type 0
ReplacedIsReplaced = (n : Net) (l r : PlainGraph) (es ws ds vs : List ℕ) → IsSound n → Fits n l r es ws ds vs
    → plain (replaced_in n l r es ws ds vs) ≡ replaced (plain n) l r (map (place_in (ids n.edges)) es) (map (place_in (ids n.wires)) ws)
