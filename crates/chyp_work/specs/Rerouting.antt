-- What a reroute does to a graph in which each wire is made and used once.
use Rattle.std.specs.Prelude.{ℕ, ◌+◌, ◌≡◌, ◌≢◌, ◌++◌, true, List, Some, flat_map, length, map, slice_get, slice_index, take}
use Rattle.std.specs.Option.{option_map_or}
use Rattle.chyp_term.proofs.Members.{Member}
use Rattle.chyp_term.specs.Positions.{is_apart, place_of}
use Rattle.chyp_work.specs.Replacement.{moved}
use Rattle.chyp_work.specs.Board.{IsConsumer, IsProducer, with_consumer, with_producer}
use Rattle.chyp_store.specs.Items.{AreDistinct, ids}
use Rattle.chyp_work.specs.Net.{AreMadeOnce, AreUsedOnce, made_for, put, used_for}
use Rattle.chyp_match.specs.View.{IsIn, Net}
use Rattle.chyp_work.specs.declared.board.WireItem.{WireItem}
use Rattle.chyp_work.specs.declared.end.End.{End}

-- to write v at the end that makes w is to put v for w wherever w is made
abbrev pub ReroutesProducers : Type 0
ReroutesProducers = (n : Net) (end : End) (w v : ℕ) → AreDistinct (ids n.edges) → AreMadeOnce n → IsProducer n w end
    → with_producer n end v ≡ made_for n w v

-- to write v at the end that uses w is to put v for w wherever w is used
abbrev pub ReroutesConsumers : Type 0
ReroutesConsumers = (n : Net) (end : End) (w v : ℕ) → AreDistinct (ids n.edges) → AreUsedOnce n → IsConsumer n w end
    → with_consumer n end v ≡ used_for n w v

-- the i-th of the ends in place of the i-th of the images
abbrev pub moved_by : List ℕ → List ℕ → ℕ → ℕ
moved_by images ends w = option_map_or (slice_index ends) (place_of w images) w

-- what made the images makes the ends
abbrev pub made_by : List ℕ → List ℕ → Net → Net
made_by images ends n = record n {
  edges = map (λ e. (e.0, record e.1 { targets = map (moved_by images ends) e.1.targets })) n.edges;
  inputs = map (moved_by images ends) n.inputs;
}

-- what is made, in order
abbrev pub made_in : Net → List ℕ
made_in n = n.inputs ++ flat_map (λ e. e.1.targets) n.edges

-- what used the images uses the ends
abbrev pub used_by : List ℕ → List ℕ → Net → Net
used_by images ends n = record n {
  edges = map (λ e. (e.0, record e.1 { sources = map (moved_by images ends) e.1.sources })) n.edges;
  outputs = map (moved_by images ends) n.outputs;
}

-- what is used, in order
abbrev pub used_in : Net → List ℕ
used_in n = n.outputs ++ flat_map (λ e. e.1.sources) n.edges

-- each of the ends can take the place of its image: on their side of the wires no wire is listed twice, and no end at all; the
-- images are known there
pub record MayReroute (Knows : ℕ → Type 0) (listed : List ℕ) (wires : List (ℕ × WireItem)) (images ends : List ℕ) : Type 0 where
  pub once : AreDistinct listed
  pub same : length images ≡ length ends
  pub images_there : (w : ℕ) → Member w images → IsIn w wires
  pub known : (w : ℕ) → Member w images → Knows w
  pub ends_there : (v : ℕ) → Member v ends → IsIn v wires
  pub apart : AreDistinct images
  pub ends_apart : AreDistinct ends
  pub fresh : (v : ℕ) → Member v ends → is_apart listed v ≡ true
  pub other : (v : ℕ) → Member v ends → is_apart images v ≡ true

-- to put the new wire of the i-th end for its image, where that was done for those before it, is to do it for the first i + 1
abbrev pub MovesInTurn : Type 0
MovesInTurn = (ws vs inner ends : List ℕ) (i a x : ℕ) → slice_get inner i ≡ Some a
    → ((j : ℕ) → slice_index vs (slice_index ends j) ≢ slice_index ws a)
    → put (slice_index ws a) (slice_index vs (slice_index ends i)) (moved ws vs (take i inner) ends x)
    ≡ moved ws vs (take (i + 1) inner) ends x
