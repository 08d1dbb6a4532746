-- Where all anchors have images, all edges and wires have.
use Rattle.std.proofs.Common.{ℕ, zero, suc, ◌<◌, ◌≤◌, ◌≡◌, true, false, List, [], ◌∷◌, ◌++◌, length, map, Option, Some, None, slice_get, Contains, ◌⊎◌, inl, inr}
use Rattle.std.proofs.Common.{refl, sym, ◌∙◌, ap, subst, arith}
use Rattle.std.proofs.lemmas.Bool.{cases_Bool, cases_eq, cases_lt}
use Rattle.chyp_term.specs.Positions.{is_apart}
use Rattle.chyp_term.proofs.Members.{Member, flat-member, member-get, member-left, member-map, member-right, member-split, Contains-member, member-Contains}
use Rattle.chyp_term.proofs.Positions.{slice_get-length}
use Rattle.chyp_term.proofs.SameMembers.{image-contains}
use Rattle.chyp_graph.specs.PlainGraph.{Edge, PlainGraph, sources_of, targets_of}
use Rattle.chyp_pattern.specs.Component.{AreJoined, AreThose, IsBare, IsFirstEdge, IsPortOf, next, same}
use Rattle.chyp_pattern.specs.Pattern.{IsPattern, Parts}
use Rattle.chyp_pattern.specs.declared.anchor.Anchor.{Anchor}
use Rattle.chyp_pattern.specs.declared.anchor.Anchor.TheVariants.{Edge as AtEdge, Wire as AtWire}
use Rattle.chyp_pairs.specs.declared.pair.Pair.{Pair}
use Rattle.chyp_pairs.specs.declared.pair.Pair.TheVariants.{Wires, Edges}
use Rattle.chyp_pairs.specs.Pairs.{Has, IsMatching, Pairs, edge_there, image}
use Rattle.chyp_iso.specs.Port.{IsPortAt, the_sources, the_targets}
use Rattle.chyp_iso.proofs.Followed.{Leads-has}
use Rattle.chyp_iso.proofs.Ports.{port-is}
use Rattle.chyp_iso.proofs.Steps.{edges-there, there-edges}
use Rattle.chyp_match.specs.Following.{IsComplete}
use Rattle.chyp_match.specs.Search.{IsPlaced, seed_of, start, step}
use Rattle.chyp_match.specs.declared.level.Level.{Level}
use Rattle.chyp_match.proofs.Placing.{length-push}

-- a port of an edge stands at a place among its sources, or among its targets
pub port-place : (l : PlainGraph) (k w : ℕ) → IsPortOf l k w → ((i : ℕ) × IsPortAt l the_sources k i w) ⊎ ((i : ℕ) × IsPortAt l the_targets k i w)
port-place l k w t = go (member-split t.edge.sources t.edge.targets w (Contains-member (t.edge.sources ++ t.edge.targets) w t.has))
  where
    go : (Member w t.edge.sources) ⊎ (Member w t.edge.targets) → ((i : ℕ) × IsPortAt l the_sources k i w) ⊎ ((i : ℕ) × IsPortAt l the_targets k i w)
    go (inl m) = let i = member-get t.edge.sources w m in inl (i.0, port-is l the_sources k i.0 t.edge t.is ∙ i.1)
    go (inr m) = let i = member-get t.edge.targets w m in inr (i.0, port-is l the_targets k i.0 t.edge t.is ∙ i.1)

joined-within : (l : PlainGraph) (j k : ℕ) → AreJoined l j k → j < length l.edges → k < length l.edges
joined-within l j k same h = h
joined-within l j k (next r s t) h = slice_get-length l.edges k t.edge t.is

module _ (l g : PlainGraph) (ps : List Pair) (m : IsMatching ps) (c : IsComplete l g ps) where
  -- the edge is in a pair, and the wire
  pub HasEdge : ℕ → Type 0
  HasEdge k = (f : ℕ) × Has ps (Edges k f)

  pub HasWire : ℕ → Type 0
  HasWire w = (x : ℕ) × Has ps (Wires w x)

  edge_wire : (k w : ℕ) → IsPortOf l k w → HasEdge k → HasWire w
  unfolding HasEdge HasWire
  edge_wire k w t h = go (port-place l k w t)
    where
      go : ((i : ℕ) × IsPortAt l the_sources k i w) ⊎ ((i : ℕ) × IsPortAt l the_targets k i w) → (x : ℕ) × Has ps (Wires w x)
      go (inl i) = let d = c (Edges k h.0) h.1 the_sources in let r = d.there i.0 w i.1 in (r.0, r.2)
      go (inr i) = let d = c (Edges k h.0) h.1 the_targets in let r = d.there i.0 w i.1 in (r.0, r.2)

  wire_edge : (k w : ℕ) → IsPortOf l k w → HasWire w → HasEdge k
  unfolding HasEdge HasWire
  wire_edge k w t h = go (port-place l k w t)
    where
      go : ((i : ℕ) × IsPortAt l the_sources k i w) ⊎ ((i : ℕ) × IsPortAt l the_targets k i w) → (f : ℕ) × Has ps (Edges k f)
      go (inl i) = let r = c (Wires w h.0) h.1 the_sources k i.0 i.1 in (r.0, r.2)
      go (inr i) = let r = c (Wires w h.0) h.1 the_targets k i.0 i.1 in (r.0, r.2)

  joined_back : (j k : ℕ) → AreJoined l j k → HasEdge k → HasEdge j
  joined_back j k same q = q
  joined_back j k (next {k = n} r {w = w} s t) q = joined_back j n r (wire_edge n w s (edge_wire k w t q))

  module _ (edges wires : List ℕ) (firsts : AreThose (IsFirstEdge l) edges) (bares : AreThose (IsBare l) wires)
      (edges_known : (k : ℕ) → Member k edges → HasEdge k) (wires_known : (w : ℕ) → Member w wires → HasWire w) where
    edge_known : (bound k : ℕ) → k < bound → k < length l.edges → HasEdge k
    unfolding HasEdge
    edge_known zero k h b = absurd (omega arith)
    edge_known (suc bound) k h b = go (image edge_there ps k) refl (λ j x y. edge_known bound j x y)
      where
        go : (o : Option ℕ) → image edge_there ps k ≡ o → ((j : ℕ) → j < bound → j < length l.edges → HasEdge j) → HasEdge k
        go (Some f) q ih = (f, there-edges ps k f q)
        go None q ih = edges_known k (Contains-member edges k (let f = firsts.members k in f.1 (record { there = b; first = λ j r. least j r (cases_lt j k) })))
          where
            least : (j : ℕ) → AreJoined l k j → (j < k) ⊎ (k ≤ j) → k ≤ j
            least j r (inl lt) =
                let h : HasEdge k = joined_back k j r (ih j (omega arith) (joined-within l k j r b)) in
                let e : ◌≡◌ {A = Option ℕ} None (Some h.0) = sym q ∙ edges-there ps m k h.0 h.1 in
                absurd (cc)
            least j r (inr le) = le

    pub edge_has : (k : ℕ) → k < length l.edges → HasEdge k
    edge_has k b = edge_known (suc k) k (omega arith) b

    port_has : (w : ℕ) (e : Edge) → Member e l.edges → Contains (e.sources ++ e.targets) w → HasWire w
    port_has w e h d =
        let k = member-get l.edges e h in
        edge_wire k.0 w (record { edge = e; is = k.1; has = d }) (edge_has k.0 (slice_get-length l.edges k.0 e k.1))

    pub wire_has : (w : ℕ) → w < length l.wires → HasWire w
    wire_has w h = go (cases_Bool (is_apart (targets_of l.edges) w)) (cases_Bool (is_apart (sources_of l.edges) w))
      where
        go : (is_apart (targets_of l.edges) w ≡ true) ⊎ (is_apart (targets_of l.edges) w ≡ false)
            → (is_apart (sources_of l.edges) w ≡ true) ⊎ (is_apart (sources_of l.edges) w ≡ false) → HasWire w
        go (inl x) (inl y) = wires_known w (Contains-member wires w (let f = bares.members w in f.1 (record { there = h; unmade = x; unused = y })))
        go (inr x) y =
            let e = flat-member (λ e. e.targets) l.edges w (Contains-member (targets_of l.edges) w (image-contains (targets_of l.edges) w x)) in
            port_has w e.0 e.1 (member-Contains (e.0.sources ++ e.0.targets) w (member-right e.0.sources e.0.targets w e.2))
        go (inl x) (inr y) =
            let e = flat-member (λ e. e.sources) l.edges w (Contains-member (sources_of l.edges) w (image-contains (sources_of l.edges) w y)) in
            port_has w e.0 e.1 (member-Contains (e.0.sources ++ e.0.targets) w (member-left e.0.sources e.0.targets w e.2))

-- ## a search in which all components have images

module _ (l : Parts) (g : PlainGraph) where
  placed-anchor : (s : Pairs) (levels : List Level) → IsPlaced l g s levels → (i : ℕ) (a : Anchor) → i < length levels → slice_get l.anchors i ≡ Some a → (x : ℕ) × Has s.pairs (seed_of a x)
  placed-anchor s levels (start f e) i a b at = absurd (omega arith)
  placed-anchor t all (step {s} {levels = ks} {level = k} p u e) i a b at =
      let n = ap length e ∙ length-push ks k in
      go (cases_eq i (length ks)) (placed-anchor s ks p i a)
    where
      go : (i ≡ length ks) ⊎ (i ≡ length ks → ⊥) → (i < length ks → slice_get l.anchors i ≡ Some a → (x : ℕ) × Has s.pairs (seed_of a x)) → (x : ℕ) × Has t.pairs (seed_of a x)
      go (inl q) ih =
          let both : ◌≡◌ {A = Option Anchor} (Some u.anchor) (Some a) = sym u.next ∙ ap (slice_get l.anchors) (sym q) ∙ at in
          let one : u.anchor ≡ a = cc in
          (k.image, subst (λ z. Has t.pairs (seed_of z k.image)) one u.has)
      go (inr q) ih =
          let n = ap length e ∙ length-push ks k in
          let r = ih (omega arith) at in
          (r.0, Leads-has l.graph g (seed_of u.anchor k.image ∷ []) s t u.leads (seed_of a r.0) r.1)

  -- all edges and wires of the pattern are in pairs
  pub record IsWhole (s : Pairs) : Type 0 where
    pub edges : (k : ℕ) → k < length l.graph.edges → (f : ℕ) × Has s.pairs (Edges k f)
    pub wires : (w : ℕ) → w < length l.graph.wires → (x : ℕ) × Has s.pairs (Wires w x)

  pub whole : (s : Pairs) (levels : List Level) → IsPattern l → IsPlaced l g s levels → IsMatching s.pairs → IsComplete l.graph g s.pairs → length levels ≡ length l.anchors → IsWhole s
  unfolding HasEdge HasWire
  whole s levels p t m c n =
      let a = p.anchors in
      record {
        edges = edge_has l.graph g s.pairs m c a.edges a.wires a.first_edges a.bare_wires first bare;
        wires = wire_has l.graph g s.pairs m c a.edges a.wires a.first_edges a.bare_wires first bare;
      }
    where
      known : (x : Anchor) → Member x l.anchors → (y : ℕ) × Has s.pairs (seed_of x y)
      known x h = let i = member-get l.anchors x h in let b = slice_get-length l.anchors i.0 x i.1 in placed-anchor s levels t i.0 x (omega arith) i.1

      first : (k : ℕ) → Member k p.anchors.edges → (f : ℕ) × Has s.pairs (Edges k f)
      first k h =
          known (AtEdge k) (subst (Member (AtEdge k)) (sym p.anchors.is)
          (member-left (map AtEdge p.anchors.edges) (map AtWire p.anchors.wires) (AtEdge k) (member-map AtEdge p.anchors.edges k h)))

      bare : (w : ℕ) → Member w p.anchors.wires → (x : ℕ) × Has s.pairs (Wires w x)
      bare w h =
          known (AtWire w) (subst (Member (AtWire w)) (sym p.anchors.is)
          (member-right (map AtEdge p.anchors.edges) (map AtWire p.anchors.wires) (AtWire w) (member-map AtWire p.anchors.wires w h)))
