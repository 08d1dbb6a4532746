-- Images are convex exactly where no edge that takes the image of an output leads to one that makes the image of an input.
use Rattle.std.proofs.Common.{ℕ, ◌<◌, ◌≡◌, true, false, List, ◌++◌, length, flat_map, Option, Some, slice_get, slice_index, Contains, ◌⊎◌, inl, inr}
use Rattle.std.proofs.Common.{sym, ◌∙◌, subst}
use Rattle.std.proofs.lemmas.Bool.{cases_Bool}
use Rattle.chyp_term.specs.Perm.{IsPermutation}
use Rattle.chyp_term.specs.Positions.{is_apart}
use Rattle.chyp_term.proofs.Closure.{index-get}
use Rattle.chyp_term.proofs.Members.{Member, Rearr-member, below-member, flat-member, get-member, member-get, member-not_apart, member-split, Contains-member, member-Contains}
use Rattle.chyp_term.proofs.Permuted.{found}
use Rattle.chyp_term.proofs.Positions.{slice_get-length}
use Rattle.chyp_term.proofs.Rearrangement.{permutation-Rearr}
use Rattle.chyp_term.proofs.SameMembers.{image-contains}
use Rattle.chyp_graph.specs.PlainGraph.{Edge, PlainGraph}
use Rattle.chyp_pattern.specs.Occurrence.{IsReached, first, next}
use Rattle.chyp_pairs.specs.declared.pair.Pair.TheVariants.{Wires, Edges}
use Rattle.chyp_pairs.specs.Pairs.{Has, IsMatching, Pairs}
use Rattle.chyp_iso.specs.Pair.{EdgesFit, WiresFit}
use Rattle.chyp_iso.specs.Port.{IsPortAt, Side, ports_on, the_sources, the_targets}
use Rattle.chyp_iso.specs.Following.{Fits}
use Rattle.chyp_iso.proofs.Ports.{once, port-edge, port-is, port-no_end}
use Rattle.chyp_iso.proofs.Steps.{wires-back}
use Rattle.chyp_match.specs.Reach.{LeadsTo, here, on}
use Rattle.chyp_match.specs.Convex.{IsTakenAt, IsUnbroken}
use Rattle.chyp_match.specs.Following.{IsComplete}

-- a wire of a valid graph is an end on a side, or a port there
end_or_port : (l : PlainGraph) (side : Side) (ends : List ℕ) → IsPermutation (length l.wires) (ends ++ flat_map (ports_on side) l.edges) → (w : ℕ) → w < length l.wires
    → (Member w ends) ⊎ ((e i : ℕ) × IsPortAt l side e i w)
end_or_port l side ends t w b = go (member-split ends (flat_map (ports_on side) l.edges) w
    (Rearr-member w (permutation-Rearr (length l.wires) (ends ++ flat_map (ports_on side) l.edges) t) (below-member (length l.wires) w b)))
  where
    go : (Member w ends) ⊎ (Member w (flat_map (ports_on side) l.edges)) → (Member w ends) ⊎ ((e i : ℕ) × IsPortAt l side e i w)
    go (inl m) = inl m
    go (inr m) =
        let e = flat-member (ports_on side) l.edges w m in
        let k = member-get l.edges e.0 e.1 in
        let i = member-get (ports_on side e.0) w e.2 in
        inr (k.0, i.0, port-is l side k.0 i.0 e.0 k.1 ∙ i.1)

port-contains : (g : PlainGraph) (side : Side) (k i w : ℕ) (e : Edge) → slice_get g.edges k ≡ Some e → IsPortAt g side k i w → Contains (ports_on side e) w
port-contains g side k i w e q p = member-Contains (ports_on side e) w (get-member (ports_on side e) i w (sym (port-is g side k i e q) ∙ p))

contains-port : (g : PlainGraph) (side : Side) (k w : ℕ) (e : Edge) → slice_get g.edges k ≡ Some e → Contains (ports_on side e) w → (i : ℕ) × IsPortAt g side k i w
contains-port g side k w e q c = let i = member-get (ports_on side e) w (Contains-member (ports_on side e) w c) in (i.0, port-is g side k i.0 e q ∙ i.1)

module _ (l g : PlainGraph) (s : Pairs) (fits : Fits l g s) (m : IsMatching s.pairs) (c : IsComplete l g s.pairs) (es ws : List ℕ)
    (edge_count : length es ≡ length l.edges) (wire_count : length ws ≡ length l.wires)
    (edge_images : (k f : ℕ) → k < length l.edges → Has s.pairs (Edges k f) → slice_index es k ≡ f) (wire_images : (w x : ℕ) → w < length l.wires → Has s.pairs (Wires w x) → slice_index ws w ≡ x)
    (has_edge : (k : ℕ) → k < length l.edges → (f : ℕ) × Has s.pairs (Edges k f)) (has_wire : (w : ℕ) → w < length l.wires → (x : ℕ) × Has s.pairs (Wires w x)) where
  -- the image of a wire, and of an edge
  wire_in : (v w : ℕ) → Has s.pairs (Wires v w) → Member w ws
  wire_in v w h =
      let fit : WiresFit l g v w = fits.pairs (Wires v w) h in
      let x = found ws v (subst (λ n. v < n) (sym wire_count) fit.there) in
      let e : x.0 ≡ w = sym (index-get ws v x.0 x.1) ∙ wire_images v w fit.there h in
      subst (λ z. Member z ws) e (get-member ws v x.0 x.1)

  of_wire : (w : ℕ) → Member w ws → (v : ℕ) × (v < length l.wires) × Has s.pairs (Wires v w)
  of_wire w h =
      let i = member-get ws w h in
      let b = subst (λ n. i.0 < n) wire_count (slice_get-length ws i.0 w i.1) in
      let x = has_wire i.0 b in
      let e : x.0 ≡ w = sym (wire_images i.0 x.0 b x.1) ∙ index-get ws i.0 w i.1 in
      (i.0, b, subst (λ z. Has s.pairs (Wires i.0 z)) e x.1)

  edge_in : (e k : ℕ) → Has s.pairs (Edges e k) → is_apart es k ≡ false
  edge_in e k h =
      let fit : EdgesFit l g e k = fits.pairs (Edges e k) h in
      let b = slice_get-length l.edges e fit.first fit.first_is in
      let x = found es e (subst (λ n. e < n) (sym edge_count) b) in
      let q : x.0 ≡ k = sym (index-get es e x.0 x.1) ∙ edge_images e k b h in
      member-not_apart es k (subst (λ z. Member z es) q (get-member es e x.0 x.1))

  of_edge : (k : ℕ) → is_apart es k ≡ false → (e : ℕ) × Has s.pairs (Edges e k)
  of_edge k h =
      let i = member-get es k (Contains-member es k (image-contains es k h)) in
      let b = subst (λ n. i.0 < n) edge_count (slice_get-length es i.0 k i.1) in
      let x = has_edge i.0 b in
      let e : x.0 ≡ k = sym (edge_images i.0 x.0 b x.1) ∙ index-get es i.0 k i.1 in
      (i.0, subst (λ z. Has s.pairs (Edges i.0 z)) e x.1)

  -- an edge that has the image of an end on that side is no image
  outside : (side : Side) (ends : List ℕ) → IsPermutation (length l.wires) (ends ++ flat_map (ports_on side) l.edges) → (v w j i : ℕ) → Contains ends v → Has s.pairs (Wires v w)
      → IsPortAt g side j i w
      → is_apart es j ≡ true
  outside side ends t v w j i end h p = go (cases_Bool (is_apart es j))
    where
      go : (is_apart es j ≡ true) ⊎ (is_apart es j ≡ false) → is_apart es j ≡ true
      go (inl a) = a
      go (inr a) =
          let e = of_edge j a in
          let d = c (Edges e.0 j) e.1 side in
          let r = d.back i w p in
          let both : ◌≡◌ {A = Option ℕ} (Some r.0) (Some v) = sym (wires-back s.pairs m r.0 w r.2) ∙ wires-back s.pairs m v w h in
          let one : r.0 ≡ v = cc in
          absurd (port-no_end (ports_on side) l.edges (length l.wires) ends t e.0 i v (subst (IsPortAt l side e.0 i) one r.1) (Contains-member ends v end))

  -- the image of a wire that an edge outside has on a side is that of an end
  is_end : (side : Side) (ends : List ℕ) → IsPermutation (length l.wires) (ends ++ flat_map (ports_on side) l.edges) → (v w j i : ℕ) → v < length l.wires → Has s.pairs (Wires v w)
      → IsPortAt g side j i w
      → is_apart es j ≡ true → Contains ends v
  is_end side ends t v w j i b h p a = go (end_or_port l side ends t v b)
    where
      go : (Member v ends) ⊎ ((e n : ℕ) × IsPortAt l side e n v) → Contains ends v
      go (inl k) = member-Contains ends v k
      go (inr k) =
          let u = c (Wires v w) h side in
          let r = u k.0 k.1 k.2 in
          let one = once g fits.second_valid side r.0 k.1 j i w r.1 p in
          let q = edge_in k.0 j (subst (λ z. Has s.pairs (Edges k.0 z)) one.0 r.2) in
          let z = sym a ∙ q in
          absurd (cc)

  -- no chain of edges outside the image leads from an image wire to an image wire
  abbrev pub IsConvex : Type 0
  IsConvex = (k : ℕ) (e : Edge) (w : ℕ) → IsReached g es ws k → slice_get g.edges k ≡ Some e → Contains e.targets w → is_apart ws w ≡ true

  -- along a chain from an edge outside no edge is an image, where images are convex
  reached_on : IsConvex → (j : ℕ) → IsReached g es ws j → (k : ℕ) → LeadsTo g j k → IsReached g es ws k
  reached_on x j r k here = r
  reached_on x j r k (on {k = a} {d = d} {e = e} p q t {w} dw ew) = go (cases_Bool (is_apart es k)) (reached_on x j r a p)
    where
      go : (is_apart es k ≡ true) ⊎ (is_apart es k ≡ false) → IsReached g es ws a → IsReached g es ws k
      go (inl z) y = next y q t z dw ew
      go (inr z) y =
          let f = of_edge k z in
          let i = contains-port g the_sources k w e t ew in
          let b = c (Edges f.0 k) f.1 the_sources in
          let v = b.back i.0 w i.1 in
          let n = member-not_apart ws w (wire_in v.0 w v.2) in
          let o = sym (x a d w y q dw) ∙ n in
          absurd (cc)

  pub convex-unbroken : IsConvex → IsUnbroken l g s.pairs
  convex-unbroken x u k input made t =
      let v = t.0 in
      let j = t.1 in
      let takes = t.3 in
      let apart = outside the_sources l.outputs fits.first_valid.consumers v takes.0 j takes.1 t.2 takes.2 takes.3 in
      let e = port-edge (ports_on the_sources) g.edges j takes.1 takes.0 takes.3 in
      let start : IsReached g es ws j = first e.1 apart (member-Contains ws takes.0 (wire_in v takes.0 takes.2))
      (member-Contains e.0.sources takes.0 (get-member e.0.sources takes.1 takes.0 e.2)) in
      let end = reached_on x j start k t.4 in
      let d = port-edge (ports_on the_targets) g.edges k made.1 made.0 made.3 in
      let n = member-not_apart ws made.0 (wire_in u made.0 made.2) in
      let o = sym (x k d.0 made.0 end d.1 (member-Contains d.0.targets made.0 (get-member d.0.targets made.1 made.0 d.2))) ∙ n in
      absurd (cc)

  -- a chain begins at an edge that takes the image of an output
  begun : (k : ℕ) → IsReached g es ws k → IsTakenAt l g s.pairs (λ j. LeadsTo g j k) × (is_apart es k ≡ true)
  begun k (first {e = e} q a {w} ww ew) =
      let v = of_wire w (Contains-member ws w ww) in
      let i = contains-port g the_sources k w e q ew in
      ((v.0, k, is_end the_sources l.outputs fits.first_valid.consumers v.0 w k i.0 v.1 v.2 i.1 a, (w, i.0, v.2, i.1), here), a)
  begun k (next r p q a dw ew) = let b = begun _ r in ((b.0.0, b.0.1, b.0.2, b.0.3, on b.0.4 p q dw ew), a)

  pub unbroken-convex : IsUnbroken l g s.pairs → IsConvex
  unbroken-convex x k e w r q t = go (cases_Bool (is_apart ws w))
    where
      go : (is_apart ws w ≡ true) ⊎ (is_apart ws w ≡ false) → is_apart ws w ≡ true
      go (inl a) = a
      go (inr a) =
          let u = of_wire w (Contains-member ws w (image-contains ws w a)) in
          let b = begun k r in
          let i = contains-port g the_targets k w e q t in
          let input = is_end the_targets l.inputs fits.first_valid.producers u.0 w k i.0 u.1 u.2 i.1 b.1 in
          absurd (x u.0 k input (w, i.0, u.2, i.1) b.0)
