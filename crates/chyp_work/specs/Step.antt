-- A step: at an occurrence of one side of a rule, the other side comes in its place.
use Rattle.std.specs.Prelude.{ℕ, ◌+◌, ◌<◌, ◌≡◌, ◌^◌, true, All, List, ◌++◌, length, map, slice_index}
use Rattle.chyp_term.specs.Positions.{is_apart}
use Rattle.chyp_graph.specs.PlainGraph.{PlainGraph}
use Rattle.chyp_match.specs.View.{IsIn, Net}
use Rattle.chyp_pattern.specs.Occurrence.{IsOccurrence}
use Rattle.chyp_pattern.specs.Replacement.{IsGraphRule, replaced}
use Rattle.chyp_store.specs.Items.{AreDistinct, ids}
use Rattle.chyp_work.specs.Board.{IsFiled, net}
use Rattle.chyp_work.specs.Filling.{AreParts, KnowsMaker, KnowsUser, with_graph}
use Rattle.chyp_work.specs.Net.{place_in, plain}
use Rattle.chyp_work.specs.Rerouting.{made_by, used_by}
use Rattle.chyp_work.specs.declared.board.Board.{Board}
use Rattle.chyp_work.specs.declared.step.Site.{Site}
use Rattle.chyp_work.specs.declared.step.Taken.{Taken}

-- the places of these edges in the plain graph
abbrev pub edge_places : Net → List ℕ → List ℕ
edge_places n es = map (place_in (ids n.edges)) es

-- the places of these wires in the plain graph
abbrev pub wire_places : Net → List ℕ → List ℕ
wire_places n ws = map (place_in (ids n.wires)) ws

-- the left side of the rule occurs at these edges and wires, which are there, and the right side fits beside what is there
pub record MayStep (n : Net) (l r : PlainGraph) (es ws : List ℕ) : Type 0 where
  pub rule : IsGraphRule l r
  pub edges : All (λ k. IsIn k n.edges) es
  pub wires : All (λ w. IsIn w n.wires) ws
  pub occurrence : IsOccurrence l (plain n) (edge_places n es) (wire_places n ws)
  pub few_wires : length n.wires + length r.wires < 2 ^ 31
  pub few_edges : length n.edges + length r.edges < 2 ^ 31

-- the plain graph of m is that of n with the left side replaced by the right one at these edges and wires
abbrev pub IsStep : Net → PlainGraph → PlainGraph → List ℕ → List ℕ → Net → Type 0
IsStep n l r es ws m = plain m ≡ replaced (plain n) l r (edge_places n es) (wire_places n ws)

-- c is b with the wires and the edges of r, where the ends of r have taken the places of the images of those of l, and where
-- each wire that is no image knows its ends
pub record IsJoined (b c : Board) (l r : PlainGraph) (ws : List ℕ) : Type 0 where
  pub ds : List ℕ
  pub vs : List ℕ
  pub edge_count : length ds ≡ length r.edges
  pub wire_count : length vs ≡ length r.wires
  pub edges_apart : AreDistinct (ids (net b).edges ++ ds)
  pub wires_apart : AreDistinct (ids (net b).wires ++ vs)
  pub graph : net c ≡ used_by (map (slice_index ws) l.outputs) (map (slice_index vs) r.outputs)
      (made_by (map (slice_index ws) l.inputs) (map (slice_index vs) r.inputs) (with_graph (net b) r ds vs))
  pub makers : (w : ℕ) → is_apart ws w ≡ true → KnowsMaker c w
  pub users : (w : ℕ) → is_apart ws w ≡ true → KnowsUser c w
  pub filed : IsFiled c

-- a step may be made there
abbrev pub MayStepAt : Net → Site → Type 0
MayStepAt n site = MayStep n site.left.now site.right.now site.at.now.edges site.at.now.wires

-- m is n after the step there
abbrev pub IsStepAt : Net → Site → Net → Type 0
IsStepAt n site m = IsStep n site.left.now site.right.now site.at.now.edges site.at.now.wires m

-- c is b, where the ends of the right side have taken the places of images
abbrev pub IsJoinedAt : Board → Site → Board → Type 0
IsJoinedAt b site c = IsJoined b c site.left.now site.right.now site.at.now.wires

-- what a step there has of its own
pub record AreTaken (site : Site) (taken : Taken) : Type 0 where
  pub parts : AreParts site.right.now taken.parts
  pub image_inputs : taken.images.inputs.items ≡ map (slice_index site.at.now.wires) site.left.now.inputs
  pub image_outputs : taken.images.outputs.items ≡ map (slice_index site.at.now.wires) site.left.now.outputs
  pub inputs : taken.ends.inputs.items ≡ site.right.now.inputs
  pub outputs : taken.ends.outputs.items ≡ site.right.now.outputs
