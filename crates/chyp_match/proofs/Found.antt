-- The lists of images that pairs of all edges and wires give.
use Rattle.std.proofs.Common.{ℕ, suc, ◌<◌, ◌≡◌, List, [], ◌∷◌, length, map, Option, Some, option_map, slice_get, slice_index, refl, sym, ◌∙◌, ap, ap₂, arith}
use Rattle.chyp_graph.specs.PlainGraph.{Edge, PlainGraph, renamed}
use Rattle.chyp_pairs.specs.declared.pair.Pair.TheVariants.{Wires, Edges}
use Rattle.chyp_pairs.specs.Pairs.{Has, IsMatching, Pairs, edge_back, image, wire_back}
use Rattle.chyp_iso.specs.Pair.{EdgesFit, WiresFit}
use Rattle.chyp_iso.specs.Port.{Side, ports_on, the_sources, the_targets}
use Rattle.chyp_iso.specs.Following.{Fits}
use Rattle.chyp_iso.proofs.Ports.{port-is}
use Rattle.chyp_iso.proofs.Steps.{edges-back, wires-back}
use Rattle.chyp_match.specs.Following.{IsComplete}

-- the images of one list are another one, place by place
mapped : (f : ℕ → ℕ) (vs ws : List ℕ) → length vs ≡ length ws → ((i v : ℕ) → slice_get vs i ≡ Some v → slice_get ws i ≡ Some (f v)) → ws ≡ map f vs
mapped f [] [] n h = refl
mapped f [] (w ∷ ws) n h = absurd (omega arith)
mapped f (v ∷ vs) [] n h = absurd (omega arith)
mapped f (v ∷ vs) (w ∷ ws) n h =
    let q : w ≡ f v = let e = h 0 v refl in cc in
    ap₂ (λ x xs. x ∷ xs) q (mapped f vs ws (omega arith) (λ i x e. h (suc i) x e))

module _ (l g : PlainGraph) (s : Pairs) (fits : Fits l g s) (m : IsMatching s.pairs) (c : IsComplete l g s.pairs) (es ws : List ℕ)
    (edge_images : (k f : ℕ) → k < length l.edges → Has s.pairs (Edges k f) → slice_index es k ≡ f) (wire_images : (w x : ℕ) → w < length l.wires → Has s.pairs (Wires w x) → slice_index ws w ≡ x)
    (has_edge : (k : ℕ) → k < length l.edges → (f : ℕ) × Has s.pairs (Edges k f)) (has_wire : (w : ℕ) → w < length l.wires → (x : ℕ) × Has s.pairs (Wires w x)) where
  pub found-edges_apart : (j k : ℕ) → j < length l.edges → k < length l.edges → slice_index es j ≡ slice_index es k → j ≡ k
  found-edges_apart j k a b e =
      let x = has_edge j a in
      let y = has_edge k b in
      let q : x.0 ≡ y.0 = sym (edge_images j x.0 a x.1) ∙ e ∙ edge_images k y.0 b y.1 in
      let both : ◌≡◌ {A = Option ℕ} (Some j) (Some k) = sym (edges-back s.pairs m j x.0 x.1) ∙ ap (image edge_back s.pairs) q ∙ edges-back s.pairs m k y.0 y.1 in
      cc

  pub found-wires_apart : (v w : ℕ) → v < length l.wires → w < length l.wires → slice_index ws v ≡ slice_index ws w → v ≡ w
  found-wires_apart v w a b e =
      let x = has_wire v a in
      let y = has_wire w b in
      let q : x.0 ≡ y.0 = sym (wire_images v x.0 a x.1) ∙ e ∙ wire_images w y.0 b y.1 in
      let both : ◌≡◌ {A = Option ℕ} (Some v) (Some w) = sym (wires-back s.pairs m v x.0 x.1) ∙ ap (image wire_back s.pairs) q ∙ wires-back s.pairs m w y.0 y.1 in
      cc

  pub found-sorts : (v : ℕ) → v < length l.wires → slice_get g.wires (slice_index ws v) ≡ slice_get l.wires v
  found-sorts v b =
      let x = has_wire v b in
      let fit : WiresFit l g v x.0 = fits.pairs (Wires v x.0) x.1 in
      ap (slice_get g.wires) (wire_images v x.0 b x.1) ∙ fit.sorts

  found-side : (k f : ℕ) (first second : Edge) → Has s.pairs (Edges k f) → slice_get l.edges k ≡ Some first → slice_get g.edges f ≡ Some second → (side : Side)
      → length (ports_on side first) ≡ length (ports_on side second) → ports_on side second ≡ map (slice_index ws) (ports_on side first)
  found-side k f first second h p q side n = mapped (slice_index ws) (ports_on side first) (ports_on side second) n at
    where
      at : (i v : ℕ) → slice_get (ports_on side first) i ≡ Some v → slice_get (ports_on side second) i ≡ Some (slice_index ws v)
      at i v e =
          let d = c (Edges k f) h side in
          let r = d.there i v (port-is l side k i first p ∙ e) in
          let fit : WiresFit l g v r.0 = fits.pairs (Wires v r.0) r.2 in
          sym (port-is g side f i second q) ∙ r.1 ∙ ap (λ z. Some z) (sym (wire_images v r.0 fit.there r.2))

  pub found-ports : (k : ℕ) → k < length l.edges → slice_get g.edges (slice_index es k) ≡ option_map (renamed (slice_index ws)) (slice_get l.edges k)
  found-ports k b =
      let x = has_edge k b in
      let fit : EdgesFit l g k x.0 = fits.pairs (Edges k x.0) x.1 in
      let sources = found-side k x.0 fit.first fit.second x.1 fit.first_is fit.second_is the_sources (sym fit.alike.source_count) in
      let targets = found-side k x.0 fit.first fit.second x.1 fit.first_is fit.second_is the_targets (sym fit.alike.target_count) in
      let same : fit.second ≡ renamed (slice_index ws) fit.first = one fit.first fit.second fit.alike.names sources targets in
      ap (slice_get g.edges) (edge_images k x.0 b x.1) ∙ fit.second_is ∙ ap (λ z. Some z) same ∙ ap (option_map (renamed (slice_index ws))) (sym fit.first_is)
    where
      one : (first second : Edge) → second.name ≡ first.name → second.sources ≡ map (slice_index ws) first.sources → second.targets ≡ map (slice_index ws) first.targets
          → second ≡ renamed (slice_index ws) first
      one first second a b c = λ i. record { name = a i; sources = b i; targets = c i }
