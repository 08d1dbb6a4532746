-- The picture of a graph is whole.
use Rattle.std.proofs.Common.{ℕ, ◌+◌, ◌<◌, ◌≤◌, ◌≡◌, List, length, filter, Option, Some, None, slice_get, All, refl, sym, ◌∙◌, ap, subst, arith}
use Rattle.std.specs.List.{enumerate_from}
use Rattle.std.proofs.lemmas.List.{length-append}
use Rattle.chyp_base.specs.declared.sort.Sort.{Sort}
use Rattle.chyp_term.specs.Positions.{place_of}
use Rattle.chyp_term.proofs.Members.{Member, All-from_get_members, filter-member, get-member, map-member}
use Rattle.chyp_term.proofs.Permuted.{found}
use Rattle.chyp_graph.specs.PlainGraph.{Edge, PlainGraph, sources_of, targets_of}
use Rattle.chyp_picture.specs.Picture.{IsLowBox, IsLowLine, IsWhole}
use Rattle.chyp_picture.specs.declared.end.End.TheVariants.{Input, Output, Port}
use Rattle.chyp_picture.specs.declared.point.Point.{Point}
use Rattle.chyp_layout.specs.Columns.{columns_of}
use Rattle.chyp_layout.specs.Ends.{end_at, ends_of, from_of, port_of, to_of}
use Rattle.chyp_layout.specs.Order.{first_order}
use Rattle.chyp_layout.specs.PictureOf.{IsPortOn, box_of, end_y, line_of, picture_in, picture_of}
use Rattle.chyp_layout.specs.Side.{wires_on}
use Rattle.chyp_layout.specs.Spots.{bend_at, bends_on, box_spot, edge_height, height_of, is_wire, placed_from}
use Rattle.chyp_layout.specs.declared.item.Item.{Item}
use Rattle.chyp_layout.specs.declared.item.Item.TheVariants.{Box}
use Rattle.chyp_layout.specs.declared.placed.Placed.{Placed}
use Rattle.chyp_layout.specs.declared.side.Side.{Side}
use Rattle.chyp_layout.specs.declared.side.Side.TheVariants.{Left, Right}
use Rattle.chyp_layout.proofs.Best.{lines-few}
use Rattle.chyp_layout.proofs.Drawing.{from-port_on, to-port_on}
use Rattle.chyp_layout.proofs.Sweeping.{all-member}
use Rattle.chyp_layout_laws.specs.Laws.{IsDrawable}
use Rattle.chyp_layout_laws.proofs.Layering.{column-low, column_in, columns-at}
use Rattle.chyp_layout_laws.proofs.Lines.{line-is, lines-drawn, order-length, points-counted}
use Rattle.chyp_layout_laws.proofs.Low.{columns-low, edges-few, from-low, greatest-few, height-low, place-low, port-inside}
use Rattle.chyp_layout_laws.proofs.Orders.{Alike, kept}
use Rattle.chyp_layout_laws.proofs.Standing.{enumerated, spot-of}

module _ (g : PlainGraph) (d : IsDrawable g) (order : List (List Item)) (alike : Alike (first_order (columns_of g) (ends_of g)) order) where
  placed-low : (p : Placed) → Member p (placed_from g 1 order) → p.spot.top + height_of g p.item + 20 ≤ 20 + 90000000000
  placed-low p m = from-low g 1 90000000000 order (columns-low g d.valid d.few_points d.few_wires order alike) p m

  box-low : (k : ℕ) (e : Edge) → slice_get g.edges k ≡ Some e → (box_spot (placed_from g 1 order) k).top + height_of g (Box k) ≤ 90000000000
  box-low k e h =
      let s = spot-of g (columns_of g) (ends_of g) order alike k (column_in g e) (columns-at g k e h) (column-low g k e h) in
      let l = placed-low s.0 s.1 in
      let a = ap (height_of g) s.2 in
      let b = ap (λ x. x.top) s.3 in
      omega arith

  port-low : (side : Side) (k i : ℕ) → IsPortOn g side (Port k i) → end_y g (placed_from g 1 order) side (Port k i) ≤ 90000000000
  port-low side k i h =
      let e = found g.edges k h.0 in
      let b = box-low k e.0 e.1 in
      let p = port-inside (height_of g (Box k)) i (length (wires_on g side (Box k))) h.1 in
      omega arith

  from-y : (w : ℕ) → end_y g (placed_from g 1 order) Right (from_of g w) ≤ 90000000000
  from-y w = go (port_of (λ e. e.targets) g.edges w) refl
    where
      go : (q : Option (ℕ × ℕ)) → port_of (λ e. e.targets) g.edges w ≡ q → end_y g (placed_from g 1 order) Right (end_at Input q (place_of w g.inputs)) ≤ 90000000000
      go None e =
          let a = place-low w g.inputs in
          let b = d.valid.producers.size in
          let c = length-append g.inputs (targets_of g.edges) in
          let f = d.few_wires in
          omega arith
      go (Some p) e = port-low Right p.0 p.1 (subst (λ q. IsPortOn g Right (end_at Input q (place_of w g.inputs))) e (from-port_on g w))

  to-y : (w : ℕ) → end_y g (placed_from g 1 order) Left (to_of g w) ≤ 90000000000
  to-y w = go (port_of (λ e. e.sources) g.edges w) refl
    where
      go : (q : Option (ℕ × ℕ)) → port_of (λ e. e.sources) g.edges w ≡ q → end_y g (placed_from g 1 order) Left (end_at Output q (place_of w g.outputs)) ≤ 90000000000
      go None e =
          let a = place-low w g.outputs in
          let b = d.valid.consumers.size in
          let c = length-append g.outputs (sources_of g.edges) in
          let f = d.few_wires in
          omega arith
      go (Some p) e = port-low Left p.0 p.1 (subst (λ q. IsPortOn g Left (end_at Output q (place_of w g.outputs))) e (to-port_on g w))

  line-low : (w : ℕ) (s : Sort) → IsLowLine (line_of g (placed_from g 1 order) w s)
  line-low w s = record {
    from = let l = from-y w in omega arith;
    to = let l = to-y w in omega arith;
    bends = All-from_get_members {P = λ (b : Point). b.y < 1099511627776} (bends_on (placed_from g 1 order) w) (λ b m.
        let p = map-member bend_at (filter (λ (p : Placed). is_wire w p.item) (placed_from g 1 order)) b m in
        let f = filter-member (λ (p : Placed). is_wire w p.item) (placed_from g 1 order) p.0 p.1 in
        let l = placed-low p.0 f.0 in
        let y = ap (λ (b : Point). b.y) p.2 in
        omega arith);
  }

  box-drawn : (k : ℕ) (e : Edge) → slice_get g.edges k ≡ Some e → IsLowBox (box_of (placed_from g 1 order) k e)
  box-drawn k e h =
      let l = box-low k e h in
      let z = ap edge_height h in
      record {
        name = all-member (λ (e : Edge). length e.name ≤ 4294967296) g.edges e d.names (get-member g.edges k e h);
        top = omega arith;
        height = omega arith;
      }

  low-boxes : All IsLowBox (picture_in g order).boxes
  low-boxes = All-from_get_members {P = IsLowBox} (picture_in g order).boxes (λ b m.
      let p = map-member (λ (p : ℕ × Edge). box_of (placed_from g 1 order) p.0 p.1) (enumerate_from 0 g.edges) b m in
      let i = enumerated 0 g.edges p.0 p.1 in
      let f = i.1 in
      let n : i.0 ≡ p.0.0 = omega arith in
      subst IsLowBox p.2 (box-drawn p.0.0 p.0.1 (ap (slice_get g.edges) (sym n) ∙ i.2)))

  low-lines : All IsLowLine (picture_in g order).lines
  low-lines = All-from_get_members {P = IsLowLine} (picture_in g order).lines (λ l m. let i = line-is g order alike l m in subst IsLowLine i.3 (line-low i.0 i.1))

  whole : IsWhole (picture_in g order)
  whole = record {
    drawn = lines-drawn g order alike d.valid;
    few_points = let c = points-counted g order alike in let f = d.few_points in omega arith;
    few_lines = let c = lines-few g order in let f = d.few_wires in omega arith;
    low_lines = low-lines;
    low_boxes = low-boxes;
    width =
        let a = order-length g order alike in
        let b = greatest-few g in
        let c = edges-few g d.valid d.few_points d.few_wires in
        omega arith;
    height = let h = height-low g d.valid d.few_points d.few_wires order alike in omega arith;
  }

pub whole-kept : (g : PlainGraph) → IsDrawable g → IsWhole (picture_of g)
whole-kept g d = let o = kept g in subst IsWhole (sym o.2) (whole g d o.0 o.1)
