-- The numbers of a picture are low.
use Rattle.std.proofs.Common.{ℕ, zero, suc, ◌+◌, ◌*◌, ◌/◌, ◌<◌, ◌≤◌, ◌≡◌, Bool, true, false, cond, eqb, List, [], ◌∷◌, ◌++◌, map, length, filter}
use Rattle.std.proofs.Common.{Option, Some, None, option_map, slice_get, ◌⊎◌, inl, inr, refl, sym, ◌∙◌, ap, arith, length-append}
use Rattle.std.specs.List.{enumerate_from, range_with_len}
use Rattle.std.specs.Option.{unwrap_or}
use Rattle.std.proofs.Math.Nat.{div-le_of_le-mul, mul-le-mul_left}
use Rattle.std.proofs.lemmas.List.{length-map}
use Rattle.std.proofs.lemmas.List.Sums.{sum_by-cons}
use Rattle.chyp_term.specs.Positions.{place_of}
use Rattle.chyp_term.proofs.Inverses.{place-found}
use Rattle.chyp_term.proofs.Members.{Member, get-member, map-member, member-get, member-split}
use Rattle.chyp_term.proofs.Positions.{slice_get-length}
use Rattle.chyp_term.proofs.Rearrangement.{Rearr, end, join, skip, turn}
use Rattle.chyp_graph.specs.PlainGraph.{Edge, PlainGraph, sources_of, targets_of}
use Rattle.chyp_graph.specs.Validity.{IsValid}
use Rattle.chyp_layout.specs.Columns.{column_along, columns_of, greatest, producer_of}
use Rattle.chyp_layout.specs.Ends.{ends_of}
use Rattle.chyp_layout.specs.Order.{bends_in, boxes_in, first_order, is_between}
use Rattle.chyp_layout.specs.PictureOf.{column_height, picture_height, points_of}
use Rattle.chyp_layout.specs.Side.{AreItems, rim}
use Rattle.chyp_layout.specs.Spots.{box_height, edge_height, height_of, placed_from, placed_in}
use Rattle.chyp_layout.specs.declared.ends.Ends.{Ends}
use Rattle.chyp_layout.specs.declared.item.Item.{Item}
use Rattle.chyp_layout.specs.declared.item.Item.TheVariants.{Box, Wire}
use Rattle.chyp_layout.specs.declared.placed.Placed.{Placed}
use Rattle.chyp_layout.specs.declared.side.Side.TheVariants.{Left, Right}
use Rattle.chyp_layout.proofs.Best.{first-items}
use Rattle.chyp_layout.proofs.Drawing.{ends-length}
use Rattle.chyp_layout.proofs.Numbers.{greatest-least}
use Rattle.chyp_layout.proofs.Sweeping.{all-member}
use Rattle.chyp_layout_laws.proofs.Layering.{column_in, date}
use Rattle.chyp_layout_laws.proofs.Orders.{Alike, alike-at}

-- ## heights of columns

height-cons : (g : PlainGraph) (t : Item) (ts : List Item) → column_height g (t ∷ ts) ≡ height_of g t + 20 + column_height g ts
height-cons g t ts = sum_by-cons (λ t. height_of g t + 20) t ts

height-rearr : (g : PlainGraph) {xs ys : List Item} → Rearr xs ys → column_height g xs ≡ column_height g ys
height-rearr g end = refl
height-rearr g (skip x {xs = xs} {ys = ys} r) = let a = height-cons g x xs in let b = height-cons g x ys in let h = height-rearr g r in omega arith
height-rearr g (turn x y xs) =
    let a = height-cons g x (y ∷ xs) in
    let b = height-cons g y xs in
    let c = height-cons g y (x ∷ xs) in
    let d = height-cons g x xs in
    omega arith
height-rearr g (join r q) = height-rearr g r ∙ height-rearr g q

height-both : (g : PlainGraph) (xs ys : List Item) → column_height g (xs ++ ys) ≡ column_height g xs + column_height g ys
height-both g [] ys = let e : column_height g ys ≡ 0 + column_height g ys = omega arith in e
height-both g (x ∷ xs) ys = let a = height-cons g x (xs ++ ys) in let b = height-cons g x xs in let h = height-both g xs ys in omega arith

pub height-wires : (g : PlainGraph) (ws : List ℕ) → column_height g (map Wire ws) ≡ 40 * length ws
height-wires g [] = refl
height-wires g (w ∷ ws) = let a = height-cons g (Wire w) (map Wire ws) in let h = height-wires g ws in omega arith

height-bends : (g : PlainGraph) (ps : List (ℕ × Ends)) → column_height g (map (λ (p : ℕ × Ends). Wire p.0) ps) ≡ 40 * length ps
height-bends g [] = refl
height-bends g (p ∷ ps) = let a = height-cons g (Wire p.0) (map (λ (p : ℕ × Ends). Wire p.0) ps) in let h = height-bends g ps in omega arith

-- boxes of some of the edges are not higher together than all edges need
height-boxes : (g : PlainGraph) (f : Edge → ℕ) (c n : ℕ) (es : List Edge) → ((i : ℕ) (e : Edge) → slice_get es i ≡ Some e → slice_get g.edges (n + i) ≡ Some e)
    → column_height g (map (λ (p : ℕ × ℕ). Box p.0) (filter (λ (p : ℕ × ℕ). eqb p.1 c) (enumerate_from n (map f es)))) ≤ 40 * length es + 20 * (length (sources_of es) + length (targets_of es))
height-boxes g f c n [] at = omega arith
height-boxes g f c n (e ∷ es) at =
    go (eqb (f e) c) (height-boxes g f c (n + 1) es (λ i d h. let z : n + suc i ≡ n + 1 + i = omega arith in ap (slice_get g.edges) (sym z) ∙ at (suc i) d h))
  where
    rest : List (ℕ × ℕ)
    rest = filter (λ (p : ℕ × ℕ). eqb p.1 c) (enumerate_from (n + 1) (map f es))

    height : height_of g (Box n) ≡ box_height (length e.sources) (length e.targets)
    height = let z : n ≡ n + 0 = omega arith in ap edge_height (ap (slice_get g.edges) z ∙ at 0 e refl)

    go : (b : Bool) → column_height g (map (λ (p : ℕ × ℕ). Box p.0) rest) ≤ 40 * length es + 20 * (length (sources_of es) + length (targets_of es))
        → column_height g (map (λ (p : ℕ × ℕ). Box p.0) (cond b ((n, f e) ∷ rest) rest)) ≤ 40 * suc (length es) + 20 * (length (sources_of (e ∷ es)) + length (targets_of (e ∷ es)))
    go true h =
        let a = height-cons g (Box n) (map (λ (p : ℕ × ℕ). Box p.0) rest) in
        let s = length-append e.sources (sources_of es) in
        let t = length-append e.targets (targets_of es) in
        let k = height in
        omega arith
    go false h =
        let s = length-append e.sources (sources_of es) in
        let t = length-append e.targets (targets_of es) in
        omega arith

-- a column is no further down than its top and its height
in-low : (g : PlainGraph) (c place top : ℕ) (items : List Item) (p : Placed) → Member p (placed_in g c place top items) → p.spot.top + height_of g p.item + 20 ≤ top + column_height g items
in-low g c place top [] p m = absurd m
in-low g c place top (t ∷ ts) p (inl e) =
    let a = height-cons g t ts in
    let b = ap (λ p. p.spot.top) e in
    let d = ap (λ (p : Placed). height_of g p.item) e in
    omega arith
in-low g c place top (t ∷ ts) p (inr m) = let h = in-low g c (place + 1) (top + height_of g t + 20) ts p m in let a = height-cons g t ts in omega arith

pub from-low : (g : PlainGraph) (c most : ℕ) (order : List (List Item)) → ((items : List Item) → Member items order → column_height g items ≤ most) → (p : Placed)
    → Member p (placed_from g c order) → p.spot.top + height_of g p.item + 20 ≤ 20 + most
from-low g c most [] h p m = absurd m
from-low g c most (items ∷ order) h p m = go (member-split (placed_in g c 0 20 items) (placed_from g (c + 1) order) p m) (from-low g (c + 1) most order (λ d n. h d (inr n)) p)
  where
    go : (Member p (placed_in g c 0 20 items)) ⊎ (Member p (placed_from g (c + 1) order))
        → (Member p (placed_from g (c + 1) order) → p.spot.top + height_of g p.item + 20 ≤ 20 + most) → p.spot.top + height_of g p.item + 20 ≤ 20 + most
    go (inl n) ih = let a = in-low g c 0 20 items p n in let b = h items (inl refl) in omega arith
    go (inr n) ih = ih n

-- ## how many columns there are

date-few : (g : PlainGraph) (n w : ℕ) → ((e : Edge) → column_along g n e ≤ n) → date g n w ≤ n
date-few g n w h = go (producer_of g w)
  where
    go : (o : Option Edge) → unwrap_or (option_map (column_along g n) o) 0 ≤ n
    go None = omega arith
    go (Some d) = h d

columns-few : (g : PlainGraph) (n : ℕ) (e : Edge) → column_along g n e ≤ n
columns-few g zero e = omega arith
columns-few g (suc n) e =
    let h = greatest-least (map (date g n) e.sources) n (λ d m. let w = map-member (date g n) e.sources d m in let a = date-few g n w.0 (columns-few g n) in let b = w.2 in omega arith) in
    omega arith

pub greatest-few : (g : PlainGraph) → greatest (columns_of g) ≤ length g.edges
greatest-few g = greatest-least (columns_of g) (length g.edges) (λ c m.
    let e = map-member (column_in g) g.edges c m in
    let a = columns-few g (length g.edges) e.0 in
    let b = e.2 in
    omega arith)

-- ## columns of a graph

module _ (g : PlainGraph) (v : IsValid g) (few : points_of g ≤ 65536) (wires : length g.wires < 2147483648) where
  pub edges-few : length g.edges ≤ 65536
  edges-few = let e = length-map g.edges (column_in g) in omega arith

  first-low : (items : List Item) → Member items (first_order (columns_of g) (ends_of g)) → column_height g items ≤ 90000000000
  first-low items m =
      let c = map-member (λ c. boxes_in (columns_of g) c ++ bends_in (columns_of g) (ends_of g) c) (range_with_len 1 (greatest (columns_of g))) items m in
      let a = all-member (AreItems g) (first_order (columns_of g) (ends_of g)) items
      (first-items g (columns_of g) (ends_of g) (length-map g.edges (column_in g)) (ends-length g (ends_of g) refl) few) m in
      let f = a.few in
      let n = ap length c.2 in
      let s = length-append (boxes_in (columns_of g) c.0) (bends_in (columns_of g) (ends_of g) c.0) in
      let h = ap (column_height g) c.2 in
      let b = height-both g (boxes_in (columns_of g) c.0) (bends_in (columns_of g) (ends_of g) c.0) in
      let x = height-boxes g (column_in g) c.0 0 g.edges (λ i e q. let z : 0 + i ≡ i = omega arith in ap (slice_get g.edges) z ∙ q) in
      let y = height-bends g (filter (λ (p : ℕ × Ends). is_between (columns_of g) c.0 p.1) (enumerate_from 0 (ends_of g))) in
      let u = length-map (filter (λ (p : ℕ × Ends). is_between (columns_of g) c.0 p.1) (enumerate_from 0 (ends_of g))) (λ (p : ℕ × Ends). Wire p.0) in
      let e = edges-few in
      let o = v.consumers.size in
      let i = v.producers.size in
      let p = length-append g.outputs (sources_of g.edges) in
      let q = length-append g.inputs (targets_of g.edges) in
      omega arith

  pub columns-low : (order : List (List Item)) → Alike (first_order (columns_of g) (ends_of g)) order → (items : List Item) → Member items order → column_height g items ≤ 90000000000
  columns-low order alike items m =
      let j = member-get order items m in
      let a = alike-at (first_order (columns_of g) (ends_of g)) order j.0 items alike j.1 in
      let h = height-rearr g a.2 in
      let l = first-low a.0 (get-member (first_order (columns_of g) (ends_of g)) j.0 a.0 a.1) in
      omega arith

  pub height-low : (order : List (List Item)) → Alike (first_order (columns_of g) (ends_of g)) order → picture_height g order ≤ 20 + 90000000000
  height-low order alike =
      let h = greatest-least (map (column_height g) (rim g Left ∷ rim g Right ∷ order)) 90000000000 (λ n m. let c = map-member (column_height g) (rim g Left ∷ rim g Right ∷ order) n m in
      let e = c.2 in let l = column c.0 c.1 in omega arith) in
      omega arith
    where
      column : (items : List Item) → Member items (rim g Left ∷ rim g Right ∷ order) → column_height g items ≤ 90000000000
      column items (inl e) =
          let a = height-wires g g.inputs in
          let b = ap (column_height g) e in
          let i = v.producers.size in
          let q = length-append g.inputs (targets_of g.edges) in
          omega arith
      column items (inr (inl e)) =
          let a = height-wires g g.outputs in
          let b = ap (column_height g) e in
          let i = v.consumers.size in
          let q = length-append g.outputs (sources_of g.edges) in
          omega arith
      column items (inr (inr m)) = columns-low order alike items m

-- ## places and ports

pub place-low : (w : ℕ) (ks : List ℕ) → unwrap_or (place_of w ks) 0 ≤ length ks
place-low w ks = go (place_of w ks) refl
  where
    go : (o : Option ℕ) → place_of w ks ≡ o → unwrap_or o 0 ≤ length ks
    go None e = omega arith
    go (Some i) e = let l = slice_get-length ks i w (place-found w ks i e) in omega arith

-- a port is no further down than its box's bottom
pub port-inside : (height i n : ℕ) → i < n → height * (2 * i + 1) / (2 * n) ≤ height
port-inside height i n l =
    let a : height * (2 * i + 1) ≤ height * (2 * n) = mul-le-mul_left height (omega arith) in
    let b : height * (2 * i + 1) ≤ 2 * n * height = omega arith in
    div-le_of_le-mul (2 * n) b
