-- What becomes of the wires and edges that an occurrence spares, and where two graphs correspond along them.
use Rattle.std.proofs.Common.{ℕ, ◌<◌, ◌≡◌, true, false, List, map, length, filter, Some, option_map, slice_get, slice_index, Contains, refl, sym, ◌∙◌, ap, subst, arith}
use Rattle.std.proofs.lemmas.List.{length-map}
use Rattle.chyp_term.specs.Perm.{count_from, permuted}
use Rattle.chyp_term.specs.Positions.{is_apart}
use Rattle.chyp_term.proofs.Members.{Contains-member, Member, below-member, map-member, member-filter, member-get, member-left, member-map, member-permuted, not_member-apart}
use Rattle.chyp_term.proofs.Permuted.{found, in_map, map-get}
use Rattle.chyp_term.proofs.Positions.{apart-none, slice_get-length, some-same}
use Rattle.chyp_term.proofs.Closure.{index-get}
use Rattle.chyp_term.proofs.SameMembers.{index-image}
use Rattle.chyp_graph.specs.PlainGraph.{Edge, PlainGraph, renamed}
use Rattle.chyp_graph.specs.Validity.{IsValid}
use Rattle.chyp_graph.proofs.IsomorphicValid.{isomorphic_valid}
use Rattle.chyp_graph.proofs.Numbering.{input-below, output-below}
use Rattle.chyp_iso.specs.Pair.{AreAlike}
use Rattle.chyp_iso.specs.Port.{IsPortAt, Side, ports_on, the_sources, the_targets}
use Rattle.chyp_iso.proofs.Followed.{iso-port}
use Rattle.chyp_iso.proofs.Ports.{once, port-is, port-no_end, wire-below}
use Rattle.chyp_pattern.specs.Replacement.{bound_at, kept_edges, kept_wires, rebound, rebound_edge, replaced}
use Rattle.chyp_judge.specs.Rewrite.{IsRewrite}
use Rattle.chyp_judge.specs.Walk.{Meets, Reaching, Spares, ends_on}
use Rattle.chyp_judge.specs.declared.rewrite.Rewrite.{Rewrite}

-- a wire that is no image has the number of those before it that are none
number-kept : (g : PlainGraph) (ws inner ends : List ℕ) (w : ℕ) → is_apart ws w ≡ true → ((x : ℕ) → Member x inner → x < length ws)
    → rebound g ws inner ends w ≡ length (filter (is_apart ws) (count_from 0 w))
number-kept g ws inner ends w a below =
    ap (bound_at (length (kept_wires g ws)) ends (length (filter (is_apart ws) (count_from 0 w))))
    (apart-none (map (slice_index ws) inner) w (not_member-apart (map (slice_index ws) inner) w none))
  where
    none : Member w (map (slice_index ws) inner) → ⊥
    none m =
        let x = map-member (slice_index ws) inner w m in
        let e : is_apart ws w ≡ false = ap (is_apart ws) (sym x.2) ∙ index-image ws x.0 (below x.0 x.1) in
        cc

-- the port of a renamed edge is one of the edge
pub renamed-port : (f : ℕ → ℕ) (side : Side) (d : Edge) → ports_on side (renamed f d) ≡ map f (ports_on side d)
renamed-port f the_sources d = refl
renamed-port f the_targets d = refl

module _ (s : Rewrite) (rewrite : IsRewrite s) (valid : IsValid s.to) (r : Reaching s) where
  abbrev new : PlainGraph
  new = replaced s.from s.left.graph s.right r.at.edges r.at.wires

  new-valid : IsValid new
  new-valid = isomorphic_valid s.to new valid r.reaches

  abbrev kept : ℕ → ℕ
  kept w = length (filter (is_apart r.at.wires) (count_from 0 w))

  -- the new number of a wire, as what stands on this side of it has it
  abbrev number_on : Side → ℕ → ℕ
  number_on the_sources = rebound s.from r.at.wires s.left.graph.outputs s.right.outputs
  number_on the_targets = rebound s.from r.at.wires s.left.graph.inputs s.right.inputs

  number-spared : (side : Side) (w : ℕ) → Spares r w → number_on side w ≡ kept w
  number-spared the_sources w a = number-kept s.from r.at.wires s.left.graph.outputs s.right.outputs w a
      (λ x m. let b = output-below s.left.graph rewrite.rule.left x m in let c = r.occurs.wire_count in omega arith)
  number-spared the_targets w a = number-kept s.from r.at.wires s.left.graph.inputs s.right.inputs w a
      (λ x m. let b = input-below s.left.graph rewrite.rule.left x m in let c = r.occurs.wire_count in omega arith)

  rebound-port : (side : Side) (e : Edge) → ports_on side (rebound_edge s.from s.left.graph s.right r.at.wires e) ≡ map (number_on side) (ports_on side e)
  rebound-port the_sources e = refl
  rebound-port the_targets e = refl

  -- an edge of a wire that is no image is none
  edge-spared : (side : Side) (k i w : ℕ) → IsPortAt s.from side k i w → Spares r w → is_apart r.at.edges k ≡ true
  edge-spared side k i w p a = not_member-apart r.at.edges k none
    where
      none : Member k r.at.edges → ⊥
      none m =
          let j = member-get r.at.edges k m in
          let b = slice_get-length r.at.edges j.0 k j.1 in
          let c = r.occurs.edge_count in
          let d = found s.left.graph.edges j.0 (omega arith) in
          let q : slice_get s.from.edges k ≡ Some (renamed (slice_index r.at.wires) d.0) =
          ap (slice_get s.from.edges) (sym (index-get r.at.edges j.0 k j.1)) ∙ r.occurs.ports j.0 (omega arith) ∙ ap (option_map (renamed (slice_index r.at.wires))) d.1 in
          let h = sym (port-is s.from side k i (renamed (slice_index r.at.wires) d.0) q ∙ ap (λ xs. slice_get xs i) (renamed-port (slice_index r.at.wires) side d.0)) ∙ p in
          let x = in_map (slice_index r.at.wires) (ports_on side d.0) i w h in
          let y = wire-below s.left.graph rewrite.rule.left side j.0 i x.0 (port-is s.left.graph side j.0 i d.0 d.1 ∙ x.1) in
          let n = r.occurs.wire_count in
          let e : is_apart r.at.wires w ≡ false = ap (is_apart r.at.wires) (sym x.2) ∙ index-image r.at.wires x.0 (omega arith) in
          cc

  -- an edge that is no image is there anew
  new-edge : (k : ℕ) (e : Edge) → slice_get s.from.edges k ≡ Some e → is_apart r.at.edges k ≡ true
      → (m : ℕ) × (slice_get new.edges m ≡ Some (rebound_edge s.from s.left.graph s.right r.at.wires e))
  new-edge k e q a =
      let made = rebound_edge s.from s.left.graph s.right r.at.wires in
      let b = slice_get-length s.from.edges k e q in
      member-get new.edges (made e)
      (member-left (map made (permuted s.from.edges (kept_edges s.from r.at.edges))) _ (made e)
      (member-map made (permuted s.from.edges (kept_edges s.from r.at.edges)) e
      (member-permuted s.from.edges (kept_edges s.from r.at.edges) k e
      (member-filter (is_apart r.at.edges) (count_from 0 (length s.from.edges)) k (below-member (length s.from.edges) k b) a) q)))

  -- the port of a spared wire is there anew
  new-port : (side : Side) (k i w m : ℕ) (e : Edge) → slice_get (ports_on side e) i ≡ Some w → Spares r w
      → slice_get new.edges m ≡ Some (rebound_edge s.from s.left.graph s.right r.at.wires e) → IsPortAt new side m i (kept w)
  new-port side k i w m e h a q =
      port-is new side m i (rebound_edge s.from s.left.graph s.right r.at.wires e) q ∙ ap (λ xs. slice_get xs i) (rebound-port side e) ∙ map-get (number_on side) (ports_on side e) i w h
      ∙ ap (λ n. Some n) (number-spared side w a)

  -- the port of a partner goes to a port of what becomes of the wire
  partner-port : (v w : ℕ) → Meets r v w → (side : Side) (k i : ℕ) → IsPortAt s.to side k i v → IsPortAt new side (r.reaches.edge k) i (kept w)
  partner-port v w m side k i p = subst (λ x. IsPortAt new side (r.reaches.edge k) i x) m (iso-port s.to new r.reaches side k i v p)

  -- the edges of partners are at one place, and the one goes to what becomes of the other
  pub edges-meet : (v w : ℕ) → Spares r w → Meets r v w → (side : Side) (k i : ℕ) (e : Edge) → slice_get s.from.edges k ≡ Some e → slice_get (ports_on side e) i ≡ Some w
      → (n j : ℕ) (f : Edge) → slice_get s.to.edges n ≡ Some f → slice_get (ports_on side f) j ≡ Some v
      → (i ≡ j) × (renamed r.reaches.wire f ≡ rebound_edge s.from s.left.graph s.right r.at.wires e)
  edges-meet v w a m side k i e q h n j f t u =
      let x = new-edge k e q (edge-spared side k i w (port-is s.from side k i e q ∙ h) a) in
      let p = new-port side k i w x.0 e h a x.1 in
      let g = partner-port v w m side n j (port-is s.to side n j f t ∙ u) in
      let o = once new new-valid side x.0 i (r.reaches.edge n) j (kept w) p g in (
        o.1,
        some-same (renamed r.reaches.wire f) (rebound_edge s.from s.left.graph s.right r.at.wires e)
            (sym (r.reaches.ports n (slice_get-length s.to.edges n f t) ∙ ap (option_map (renamed r.reaches.wire)) t) ∙ ap (slice_get new.edges) (sym o.0) ∙ x.1),
      )

  -- the wires at one port of such edges are partners
  pub ports-meet : (e f : Edge) → renamed r.reaches.wire f ≡ rebound_edge s.from s.left.graph s.right r.at.wires e → (side : Side) (i v w : ℕ)
      → slice_get (ports_on side f) i ≡ Some v → slice_get (ports_on side e) i ≡ Some w → Spares r w → Meets r v w
  ports-meet e f q side i v w t u a =
      some-same (r.reaches.wire v) (kept w)
      (sym (map-get r.reaches.wire (ports_on side f) i v t) ∙ ap (λ xs. slice_get xs i) (sym (renamed-port r.reaches.wire side f) ∙ ap (ports_on side) q ∙ rebound-port side e)
      ∙ map-get (number_on side) (ports_on side e) i w u ∙ ap (λ n. Some n) (number-spared side w a))

  -- such edges are alike
  pub meeting-alike : (e f : Edge) → renamed r.reaches.wire f ≡ rebound_edge s.from s.left.graph s.right r.at.wires e → AreAlike f e
  meeting-alike e f q = record {
    names = sym (ap (λ (x : Edge). x.name) q);
    source_count = sym (length-map e.sources _) ∙ sym (ap (λ (x : Edge). length x.sources) q) ∙ length-map f.sources r.reaches.wire;
    target_count = sym (length-map e.targets _) ∙ sym (ap (λ (x : Edge). length x.targets) q) ∙ length-map f.targets r.reaches.wire;
  }

  new-ends : (side : Side) → ends_on side new ≡ map (number_on side) (ends_on side s.from)
  new-ends the_sources = refl
  new-ends the_targets = refl

  mapped-ends : (side : Side) → ends_on side new ≡ map r.reaches.wire (ends_on side s.to)
  mapped-ends the_sources = r.reaches.outputs
  mapped-ends the_targets = r.reaches.inputs

  no-end : (side : Side) (k i w : ℕ) → IsPortAt new side k i w → Member w (ends_on side new) → ⊥
  no-end the_sources k i w p m = port-no_end (λ e. e.sources) new.edges (length new.wires) new.outputs new-valid.consumers k i w p m
  no-end the_targets k i w p m = port-no_end (λ e. e.targets) new.edges (length new.wires) new.inputs new-valid.producers k i w p m

  -- an end of the graph and a port of the other one don't meet
  pub end-no_port : (v w : ℕ) → Spares r w → Meets r v w → (side : Side) → Contains (ends_on side s.from) w → (k i : ℕ) → IsPortAt s.to side k i v → ⊥
  end-no_port v w a m side c k i p =
      no-end side (r.reaches.edge k) i (kept w) (partner-port v w m side k i p)
      (subst (Member (kept w)) (sym (new-ends side))
      (subst (λ x. Member x (map (number_on side) (ends_on side s.from))) (number-spared side w a)
      (member-map (number_on side) (ends_on side s.from) w (Contains-member (ends_on side s.from) w c))))

  -- nor do a port and an end of the other one
  pub port-no_other_end : (v w : ℕ) → Spares r w → Meets r v w → (side : Side) (k i : ℕ) (e : Edge) → slice_get s.from.edges k ≡ Some e → slice_get (ports_on side e) i ≡ Some w
      → Contains (ends_on side s.to) v → ⊥
  port-no_other_end v w a m side k i e q h c =
      let x = new-edge k e q (edge-spared side k i w (port-is s.from side k i e q ∙ h) a) in
      no-end side x.0 i (kept w) (new-port side k i w x.0 e h a x.1)
      (subst (Member (kept w)) (sym (mapped-ends side))
      (subst (λ y. Member y (map r.reaches.wire (ends_on side s.to))) m (member-map r.reaches.wire (ends_on side s.to) v (Contains-member (ends_on side s.to) v c))))

  -- the wires at one place of the ends are partners
  pub ends-meet : (side : Side) (i v w : ℕ) → slice_get (ends_on side s.to) i ≡ Some v → slice_get (ends_on side s.from) i ≡ Some w → Spares r w → Meets r v w
  ends-meet side i v w t u a =
      some-same (r.reaches.wire v) (kept w)
      (sym (map-get r.reaches.wire (ends_on side s.to) i v t) ∙ ap (λ xs. slice_get xs i) (sym (mapped-ends side) ∙ new-ends side)
      ∙ map-get (number_on side) (ends_on side s.from) i w u ∙ ap (λ n. Some n) (number-spared side w a))
