-- Walks along a graph that is rewritten and the one that is to come out, side by side from their ends. No public clause cites this.
use Rattle.std.specs.Prelude.{ℕ, ◌<◌, ◌≡◌, Bool, true, List, length, filter, Option, Some, None, IfSome, Contains, slice_get}
use Rattle.chyp_term.specs.Perm.{count_from}
use Rattle.chyp_term.specs.Positions.{is_apart}
use Rattle.chyp_graph.specs.PlainGraph.{PlainGraph}
use Rattle.chyp_graph.specs.Validity.{IsValid}
use Rattle.chyp_iso.specs.Port.{IsPortAt, Side, the_sources, the_targets}
use Rattle.chyp_pattern.specs.Occurrence.{IsOccurrence}
use Rattle.chyp_pattern.specs.declared.occurrence.Occurrence.{Occurrence}
use Rattle.chyp_judge.specs.Rewrite.{IsRewrite, Reaches}
use Rattle.chyp_judge.specs.declared.partners.Partners.{Partners}
use Rattle.chyp_judge.specs.declared.rewrite.Rewrite.{Rewrite}
use Rattle.chyp_judge.specs.declared.walk.Walk.{Walk}

-- an occurrence that reaches the graph that is to come out
pub record Reaching (s : Rewrite) : Type 0 where
  pub at : Occurrence
  pub occurs : IsOccurrence s.left.graph s.from at.edges at.wires
  pub reaches : Reaches s at

-- the wire is no image
abbrev pub Spares : {s : Rewrite} → Reaching s → ℕ → Type 0
Spares r w = is_apart r.at.wires w ≡ true

-- the wire v of the graph that is to come out is what becomes of the wire w, which has the number of those before it that
-- are no images
abbrev pub Meets : {s : Rewrite} → Reaching s → ℕ → ℕ → Type 0
Meets r v w = r.reaches.wire v ≡ length (filter (is_apart r.at.wires) (count_from 0 w))

-- where the occurrence spares the wire w, v is what becomes of it
abbrev pub Begins : Rewrite → ℕ → ℕ → Type 0
Begins s v w = (r : Reaching s) → Spares r w → Meets r v w

-- the same where it spares the wire of these partners too, and they meet
abbrev pub Follows : Rewrite → Partners → ℕ → ℕ → Type 0
Follows s p v w = (r : Reaching s) → Spares r p.wire → Meets r p.partner p.wire → Spares r w → Meets r v w

-- the wires v and w are partners by those at their origin, or else by themselves
abbrev pub AreLinked : Rewrite → List Partners → Option ℕ → ℕ → ℕ → Type 0
AreLinked s ps None v w = Begins s v w
AreLinked s ps (Some j) v w = (p : Partners) × (slice_get ps j ≡ Some p) × Follows s p v w

-- no occurrence that spares the wire of these partners and by which they meet reaches the graph that is to come out
abbrev pub Differs : Rewrite → Partners → Type 0
Differs s p = (r : Reaching s) → Spares r p.wire → Meets r p.partner p.wire → ⊥

-- the wires of the partners are there
pub record AreWithin (s : Rewrite) (v w : ℕ) : Type 0 where
  pub wire : w < length s.from.wires
  pub partner : v < length s.to.wires

-- partners that are linked to earlier ones
pub record IsWalk (walk : Walk) : Type 0 where
  pub rewrite : IsRewrite walk.rewrite.now
  pub from_valid : IsValid walk.rewrite.now.from
  pub to_valid : IsValid walk.rewrite.now.to
  pub wires : length walk.wires.items ≡ length walk.rewrite.now.from.wires
  pub edges : length walk.edges.items ≡ length walk.rewrite.now.from.edges
  pub within : (i : ℕ) (p : Partners) → slice_get walk.partners.items i ≡ Some p → AreWithin walk.rewrite.now p.partner p.wire
  pub linked : (i : ℕ) (p : Partners) → slice_get walk.partners.items i ≡ Some p
      → AreLinked walk.rewrite.now walk.partners.items p.origin p.partner p.wire
  pub earlier : (i : ℕ) (p : Partners) → slice_get walk.partners.items i ≡ Some p → IfSome p.origin (λ j. j < i)

-- the walk has gone on: what it had stays
pub record GoesOn (before after : Walk) : Type 0 where
  pub walk : IsWalk after
  pub rewrite : after.rewrite ≡ before.rewrite
  pub kept : (i : ℕ) (p : Partners) → slice_get before.partners.items i ≡ Some p → slice_get after.partners.items i ≡ Some p

-- the wires at each place of two lists may be made partners, of this origin
pub record MayPartner (walk : Walk) (origin : Option ℕ) (vs ws : List ℕ) : Type 0 where
  pub within : (i v w : ℕ) → slice_get vs i ≡ Some v → slice_get ws i ≡ Some w → AreWithin walk.rewrite.now v w
  pub linked : (i v w : ℕ) → slice_get vs i ≡ Some v → slice_get ws i ≡ Some w
      → AreLinked walk.rewrite.now walk.partners.items origin v w
  pub earlier : IfSome origin (λ j. j < length walk.partners.items)

-- the wires at the ends of the graph that no edge has on this side
abbrev pub ends_on : Side → PlainGraph → List ℕ
ends_on the_sources g = g.outputs
ends_on the_targets g = g.inputs

-- where the wire ends on this side: at a port of an edge, or at an end of the graph
abbrev pub IsEnd : PlainGraph → Side → ℕ → Option (ℕ × ℕ) → Type 0
IsEnd g side w (Some p) = IsPortAt g side p.0 p.1 w
IsEnd g side w None = Contains (ends_on side g) w

-- both are the ends of the wires of partners on one side
pub record AreEnds (s : Rewrite) (p : Partners) (first second : Option (ℕ × ℕ)) : Type 0 where
  pub side : Side
  pub of_wire : IsEnd s.from side p.wire first
  pub of_partner : IsEnd s.to side p.partner second

-- the edges have the wires of partners at one port
pub record AreAtOnePort (s : Rewrite) (p : Partners) (e f : ℕ) : Type 0 where
  pub side : Side
  pub place : ℕ
  pub of_wire : IsPortAt s.from side e place p.wire
  pub of_partner : IsPortAt s.to side f place p.partner

-- each of the marked wires is no image
abbrev pub SparesAll : {s : Rewrite} → Reaching s → List Bool → Type 0
SparesAll r marks = (w : ℕ) → slice_get marks w ≡ Some true → Spares r w

-- marks on wires of the graph, of which each occurrence that reaches the graph that is to come out takes one
pub record IsDifference (s : Rewrite) (marks : List Bool) : Type 0 where
  pub size : length marks ≡ length s.from.wires
  pub differ : (r : Reaching s) → SparesAll r marks → ⊥

-- the wires at each place of two lists are partners wherever an occurrence spares the one
pub record MayBegin (s : Rewrite) (vs ws : List ℕ) : Type 0 where
  pub within : (i v w : ℕ) → slice_get vs i ≡ Some v → slice_get ws i ≡ Some w → AreWithin s v w
  pub begins : (i v w : ℕ) → slice_get vs i ≡ Some v → slice_get ws i ≡ Some w → Begins s v w

-- no occurrence reaches the graph that is to come out that spares the marked wires, and by which the partners at the place
-- meet, where there are some
abbrev pub IsTraced : Rewrite → List Partners → List Bool → Option ℕ → Type 0
IsTraced s ps marks None = (r : Reaching s) → SparesAll r marks → ⊥
IsTraced s ps marks (Some j) = (p : Partners) → slice_get ps j ≡ Some p → (r : Reaching s) → SparesAll r marks → Spares r p.wire
    → Meets r p.partner p.wire → ⊥
