-- Lines lead from column to column, and how many bends they have.
use Rattle.std.proofs.Common.{ℕ, suc, ◌+◌, ◌<◌, ◌≤◌, ◌≡◌, List, [], ◌∷◌, map, length, Option, Some, None, option_map, slice_get, slice_index, All, refl, sym, ◌∙◌, ap, ap₂, subst, arith}
use Rattle.std.specs.List.{enumerate_from, range_with_len, sum_by}
use Rattle.std.specs.Option.{unwrap_or}
use Rattle.std.proofs.lemmas.List.{length-map}
use Rattle.std.proofs.lemmas.List.Sums.{sum_by-cons}
use Rattle.chyp_base.specs.declared.sort.Sort.{Sort}
use Rattle.chyp_term.specs.Perm.{count_from}
use Rattle.chyp_term.specs.Positions.{is_among, place_of}
use Rattle.chyp_term.proofs.Closure.{index-get}
use Rattle.chyp_term.proofs.Inverses.{get-count0}
use Rattle.chyp_term.proofs.Members.{Member, All-from_get_members, get-member, map-member, member-get, member-map}
use Rattle.chyp_term.proofs.Permuted.{found, get-map}
use Rattle.chyp_term.proofs.Positions.{slice_get-length}
use Rattle.chyp_graph.specs.PlainGraph.{Edge, PlainGraph}
use Rattle.chyp_graph.specs.Validity.{IsValid}
use Rattle.chyp_graph.proofs.Removing.{port-edge}
use Rattle.chyp_picture.specs.Picture.{IsDrawn, IsGoal, IsStart, bend_count, column_of}
use Rattle.chyp_picture.specs.declared.end.End.{End}
use Rattle.chyp_picture.specs.declared.end.End.TheVariants.{Input, Output, Port}
use Rattle.chyp_picture.specs.declared.line.Line.{Line}
use Rattle.chyp_picture.specs.declared.picture.Picture.{Picture}
use Rattle.chyp_picture.specs.declared.point.Point.{Point}
use Rattle.chyp_layout.specs.Columns.{bend_count as bends_between, columns_of, end_column, greatest, producer_of, column_along}
use Rattle.chyp_layout.specs.Ends.{end_at, ends_of, from_of, port_of, to_of}
use Rattle.chyp_layout.specs.Order.{first_order}
use Rattle.chyp_layout.specs.PictureOf.{IsPortOn, line_of, picture_in, picture_of, points_of}
use Rattle.chyp_layout.specs.Spots.{bends_on, placed_from}
use Rattle.chyp_layout.specs.declared.ends.Ends.{Ends}
use Rattle.chyp_layout.specs.declared.item.Item.{Item}
use Rattle.chyp_layout.specs.declared.placed.Placed.{Placed}
use Rattle.chyp_layout.specs.declared.side.Side.{Side}
use Rattle.chyp_layout.specs.declared.side.Side.TheVariants.{Left, Right}
use Rattle.chyp_layout.proofs.Drawing.{from-port_on, to-port_on}
use Rattle.chyp_layout.proofs.Numbers.{greatest-above}
use Rattle.chyp_layout.proofs.Ordering.{get-range, length-first, length-range}
use Rattle.chyp_layout.proofs.Ports.{found-port}
use Rattle.chyp_layout_laws.proofs.Bends.{trace, trace-is}
use Rattle.chyp_layout_laws.proofs.Layering.{box-stands, boxes-count, column-next, column_in, columns-at, date, made, wire-begins}
use Rattle.chyp_layout_laws.proofs.Orders.{Alike, kept}
use Rattle.chyp_layout_laws.proofs.Standing.{enumerated}

alike-length : (xs ys : List (List Item)) → Alike xs ys → length xs ≡ length ys
alike-length [] [] a = refl
alike-length [] (y ∷ ys) a = absurd a
alike-length (x ∷ xs) [] a = absurd a
alike-length (x ∷ xs) (y ∷ ys) a = ap suc (alike-length xs ys a.1)

-- the two ends of a wire
abbrev pub ends_at : PlainGraph → ℕ → Ends
ends_at g w = record { from = from_of g w; to = to_of g w }

ends-get : (g : PlainGraph) (w : ℕ) → w < length g.wires → slice_get (ends_of g) w ≡ Some (ends_at g w)
ends-get g w l = get-map (ends_at g) (count_from 0 (length g.wires)) w ∙ ap (option_map (ends_at g)) (get-count0 (length g.wires) w l)

column-high : (g : PlainGraph) (k : ℕ) (e : Edge) → slice_get g.edges k ≡ Some e → column_in g e ≤ greatest (columns_of g)
column-high g k e h = greatest-above (columns_of g) (column_in g e) (get-member (columns_of g) k (column_in g e) (columns-at g k e h))

date-high : (g : PlainGraph) (w : ℕ) → date g (length g.edges) w ≤ greatest (columns_of g)
date-high g w = go (producer_of g w) refl
  where
    go : (o : Option Edge) → producer_of g w ≡ o → unwrap_or (option_map (column_along g (length g.edges)) o) 0 ≤ greatest (columns_of g)
    go None q = omega arith
    go (Some d) q = let m = made (λ d. is_among d.targets w) g.edges d q in let k = member-get g.edges d m.0 in column-high g k.0 d k.1

port-column : (g : PlainGraph) (k : ℕ) (e : Edge) → slice_get g.edges k ≡ Some e → slice_index (columns_of g) k ≡ column_in g e
port-column g k e h = index-get (columns_of g) k (column_in g e) (columns-at g k e h)

-- no end stands behind the outputs
end-high : (g : PlainGraph) (side : Side) (e : End) → IsPortOn g side e → end_column (columns_of g) e ≤ greatest (columns_of g) + 1
end-high g side (Input i) h = omega arith
end-high g side (Output i) h = omega arith
end-high g side (Port k i) h = let e = found g.edges k h.0 in let a = port-column g k e.0 e.1 in let b = column-high g k e.0 e.1 in omega arith

module _ (g : PlainGraph) (order : List (List Item)) (alike : Alike (first_order (columns_of g) (ends_of g)) order) where
  placed : List Placed
  placed = placed_from g 1 order

  pub order-length : length order ≡ greatest (columns_of g)
  order-length = sym (alike-length (first_order (columns_of g) (ends_of g)) order alike) ∙ length-first (columns_of g) (ends_of g)

  end-stands : (side : Side) (e : End) → IsPortOn g side e → column_of (picture_in g order) e ≡ end_column (columns_of g) e
  end-stands side (Input i) h = refl
  end-stands side (Output i) h = ap (λ n. n + 1) order-length
  end-stands side (Port k i) h = let e = found g.edges k h.0 in box-stands g order alike k e.0 e.1 ∙ sym (port-column g k e.0 e.1)

  box-there : (k : ℕ) → k < length g.edges → k < length (picture_in g order).boxes
  box-there k l = let c = boxes-count g (placed_from g 1 order) in omega arith

  starts : (w : ℕ) → IsStart (picture_in g order) (from_of g w)
  starts w = go (port_of (λ e. e.targets) g.edges w) refl
    where
      go : (q : Option (ℕ × ℕ)) → port_of (λ e. e.targets) g.edges w ≡ q → IsStart (picture_in g order) (end_at Input q (place_of w g.inputs))
      go None e = tt
      go (Some p) e = let f = port-edge (λ e. e.targets) g.edges p.0 p.1 w (found-port (λ e. e.targets) g.edges w p.0 p.1 e) in box-there p.0 (slice_get-length g.edges p.0 f.0 f.1)

  goals : (w : ℕ) → IsGoal (picture_in g order) (to_of g w)
  goals w = go (port_of (λ e. e.sources) g.edges w) refl
    where
      go : (q : Option (ℕ × ℕ)) → port_of (λ e. e.sources) g.edges w ≡ q → IsGoal (picture_in g order) (end_at Output q (place_of w g.outputs))
      go None e = tt
      go (Some p) e = let f = port-edge (λ e. e.sources) g.edges p.0 p.1 w (found-port (λ e. e.sources) g.edges w p.0 p.1 e) in box-there p.0 (slice_get-length g.edges p.0 f.0 f.1)

  -- a wire leads to the right
  forward : IsValid g → (w : ℕ) → column_of (picture_in g order) (from_of g w) < column_of (picture_in g order) (to_of g w)
  forward v w = go (port_of (λ e. e.sources) g.edges w) refl
    where
      go : (q : Option (ℕ × ℕ)) → port_of (λ e. e.sources) g.edges w ≡ q
          → column_of (picture_in g order) (from_of g w) < column_of (picture_in g order) (end_at Output q (place_of w g.outputs))
      go None e = let a = wire-begins g order alike w in let b = date-high g w in let c = order-length in omega arith
      go (Some p) e =
          let f = port-edge (λ e. e.sources) g.edges p.0 p.1 w (found-port (λ e. e.sources) g.edges w p.0 p.1 e) in
          let a = wire-begins g order alike w in
          let b = box-stands g order alike p.0 f.0 f.1 in
          let c = column-next g v f.0 (get-member g.edges p.0 f.0 f.1) in
          let d = greatest-above (map (date g (length g.edges)) f.0.sources) (date g (length g.edges) w)
          (member-map (date g (length g.edges)) f.0.sources w (get-member f.0.sources p.1 w f.2)) in
          omega arith

  first : (w : ℕ) → column_of (picture_in g order) (from_of g w) ≡ end_column (columns_of g) (from_of g w)
  first w = end-stands Right (from_of g w) (from-port_on g w)

  last : (w : ℕ) → column_of (picture_in g order) (to_of g w) ≡ end_column (columns_of g) (to_of g w)
  last w = end-stands Left (to_of g w) (to-port_on g w)

  traced : (w : ℕ) → w < length g.wires
      → trace w (placed_from g 1 order) ≡ range_with_len (end_column (columns_of g) (from_of g w) + 1) (bends_between (columns_of g) (ends_at g w))
  traced w l = trace-is g (columns_of g) (ends_of g) w (ends_at g w) (greatest (columns_of g)) order (ends-get g w l) alike (end-high g Left (to_of g w) (to-port_on g w))

  pub bends-length : (w : ℕ) → w < length g.wires → length (bends_on (placed_from g 1 order) w) ≡ bends_between (columns_of g) (ends_at g w)
  bends-length w l =
      sym (length-map (bends_on (placed_from g 1 order) w) (λ (b : Point). b.column)) ∙ ap length (traced w l)
      ∙ length-range (end_column (columns_of g) (from_of g w) + 1) (bends_between (columns_of g) (ends_at g w))

  line-drawn : IsValid g → (w : ℕ) (s : Sort) → w < length g.wires → IsDrawn (picture_in g order) (line_of g (placed_from g 1 order) w s)
  line-drawn v w s l = record {
    start = starts w;
    goal = goals w;
    bends = λ k h.
        let n = bends-length w l in
        let a = first w in
        ap (λ t. slice_index t k) (traced w l)
        ∙ index-get (range_with_len (end_column (columns_of g) (from_of g w) + 1) (bends_between (columns_of g) (ends_at g w))) k (end_column (columns_of g) (from_of g w) + 1 + k)
        (get-range (end_column (columns_of g) (from_of g w) + 1) (bends_between (columns_of g) (ends_at g w)) k (omega arith))
        ∙ ap (λ n. n + 1 + k) (sym a);
    last = let n = bends-length w l in let a = first w in let b = last w in let c = forward v w in omega arith;
  }

  -- a line is that of a wire
  pub line-is : (l : Line) → Member l (picture_in g order).lines → (w : ℕ) × (s : Sort) × (w < length g.wires) × (line_of g (placed_from g 1 order) w s ≡ l)
  line-is l m =
      let p = map-member (λ (p : ℕ × Sort). line_of g (placed_from g 1 order) p.0 p.1) (enumerate_from 0 g.wires) l m in
      let i = enumerated 0 g.wires p.0 p.1 in
      let n = slice_get-length g.wires i.0 p.0.1 i.2 in
      let e = i.1 in
      (p.0.0, p.0.1, omega arith, p.2)

  pub lines-drawn : IsValid g → All (IsDrawn (picture_in g order)) (picture_in g order).lines
  lines-drawn v = All-from_get_members {P = IsDrawn (picture_in g order)} (picture_in g order).lines (λ l m.
      let i = line-is l m in subst (IsDrawn (picture_in g order)) i.3 (line-drawn v i.0 i.1 i.2))

  sum-bends : (n : ℕ) (ws : List Sort) → ((w : ℕ) → n ≤ w → w < n + length ws → length (bends_on (placed_from g 1 order) w) ≡ bends_between (columns_of g) (ends_at g w))
      → bend_count (map (λ p. line_of g (placed_from g 1 order) p.0 p.1) (enumerate_from n ws)) ≡ sum_by (bends_between (columns_of g)) (map (ends_at g) (count_from n (length ws)))
  sum-bends n [] h = refl
  sum-bends n (s ∷ ws) h =
      let e : n + 1 ≡ suc n = omega arith in
      sum_by-cons (λ (l : Line). length l.bends) (line_of g (placed_from g 1 order) n s) (map (λ (p : ℕ × Sort). line_of g (placed_from g 1 order) p.0 p.1) (enumerate_from (n + 1) ws))
      ∙ ap₂ (λ (a b : ℕ). a + b) (h n (omega arith) (omega arith)) (sum-bends (n + 1) ws (λ w a b. h w (omega arith) (omega arith))
      ∙ ap (λ m. sum_by (bends_between (columns_of g)) (map (ends_at g) (count_from m (length ws)))) e)
      ∙ sym (sum_by-cons (bends_between (columns_of g)) (ends_at g n) (map (ends_at g) (count_from (suc n) (length ws))))

  pub points-counted : length (picture_in g order).boxes + bend_count (picture_in g order).lines ≡ points_of g
  points-counted = ap₂ (λ (a b : ℕ). a + b) (boxes-count g (placed_from g 1 order) ∙ sym (length-map g.edges (column_in g)))
      (sum-bends 0 g.wires (λ w a b. bends-length w (omega arith)))

pub lines-kept : (g : PlainGraph) → IsValid g → All (IsDrawn (picture_of g)) (picture_of g).lines
lines-kept g v = let o = kept g in subst (λ (p : Picture). All (IsDrawn p) p.lines) (sym o.2) (lines-drawn g o.0 o.1 v)

pub points-kept : (g : PlainGraph) → length (picture_of g).boxes + bend_count (picture_of g).lines ≡ points_of g
points-kept g = let o = kept g in subst (λ (p : Picture). length p.boxes + bend_count p.lines ≡ points_of g) (sym o.2) (points-counted g o.0 o.1)
