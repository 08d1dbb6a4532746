-- Boxes, lines and heights of a picture.
use Rattle.std.proofs.Common.{ℕ, zero, suc, ◌+◌, ◌*◌, ◌/◌, ◌<◌, ◌≡◌, Bool, true, false, cond, max, List, [], ◌∷◌, map, length, get_or, Option, Some, None, option_map, slice_get, inl, inr, All, refl, sym, ◌∙◌, ap, ap₂, subst, arith}
use Rattle.std.specs.List.{enumerate_from, fold, range_with_len}
use Rattle.std.proofs.lemmas.List.{length-map}
use Rattle.std.proofs.lemmas.List.Sums.{sum_by-cons}
use Rattle.chyp_base.specs.declared.sort.Sort.{Sort}
use Rattle.chyp_term.specs.Perm.{count_from}
use Rattle.chyp_term.specs.Positions.{place_of}
use Rattle.chyp_term.proofs.Inverses.{get-count0}
use Rattle.chyp_term.proofs.Permuted.{get-map, length-count_from}
use Rattle.chyp_term.proofs.Positions.{slice_get-length}
use Rattle.chyp_graph.specs.PlainGraph.{Edge, PlainGraph}
use Rattle.chyp_graph.specs.Validity.{IsValid}
use Rattle.chyp_term.proofs.Members.{Member, map-member, All-from_get_members}
use Rattle.chyp_graph.proofs.Removing.{port-edge}
use Rattle.chyp_picture.specs.declared.box_at.BoxAt.{BoxAt}
use Rattle.chyp_picture.specs.declared.end.End.{End}
use Rattle.chyp_picture.specs.declared.end.End.TheVariants.{Input, Output, Port}
use Rattle.chyp_picture.specs.declared.line.Line.{Line}
use Rattle.chyp_picture.specs.declared.picture.Picture.{Picture}
use Rattle.chyp_picture.specs.declared.point.Point.{Point}
use Rattle.chyp_layout.specs.Columns.{greatest}
use Rattle.chyp_layout.specs.Ends.{IsEnd, end_at, ends_of, from_of, port_of, to_of}
use Rattle.chyp_layout.specs.PictureOf.{IsPortOn, box_of, column_height, end_y, line_of, picture_height, picture_in}
use Rattle.chyp_layout.specs.Side.{AreItems, ports_on, rim, wires_on}
use Rattle.chyp_layout.specs.Spots.{bends_on, box_spot, edge_height, height_of, is_box, nowhere, placed_from}
use Rattle.chyp_layout.specs.declared.ends.Ends.{Ends}
use Rattle.chyp_layout.specs.declared.item.Item.{Item}
use Rattle.chyp_layout.specs.declared.item.Item.TheVariants.{Box, Wire}
use Rattle.chyp_layout.specs.declared.placed.Placed.{Placed}
use Rattle.chyp_layout.specs.declared.side.Side.{Side}
use Rattle.chyp_layout.specs.declared.side.Side.TheVariants.{Left, Right}
use Rattle.chyp_layout.specs.declared.spot.Spot.{Spot}
use Rattle.chyp_layout.proofs.Ordering.{get-map-range}
use Rattle.chyp_layout.proofs.Placing.{member}
use Rattle.chyp_layout.proofs.Ports.{found-port}
use Rattle.chyp_layout.proofs.Lists.{get-read}

-- ## ends

end-port : (g : PlainGraph) (side : Side) (ports : Edge → List ℕ) (name : ℕ → End) (w : ℕ) (o : Option ℕ) → ((d : Edge) → ports_on side (Some d) ≡ ports d) → ((i : ℕ)
    → IsPortOn g side (name i)) → IsPortOn g side (end_at name (port_of ports g.edges w) o)
end-port g side ports name w o h n = go (port_of ports g.edges w) refl
  where
    go : (q : Option (ℕ × ℕ)) → port_of ports g.edges w ≡ q → IsPortOn g side (end_at name q o)
    go None e = n _
    go (Some p) e =
        let f = port-edge ports g.edges p.0 p.1 w (found-port ports g.edges w p.0 p.1 e) in
        let l = slice_get-length (ports f.0) p.1 w f.2 in
        (slice_get-length g.edges p.0 f.0 f.1, subst (λ d. p.1 < length (ports_on side d)) (sym f.1) (subst (λ l. p.1 < length l) (sym (h f.0)) l))

pub from-port_on : (g : PlainGraph) (w : ℕ) → IsPortOn g Right (from_of g w)
from-port_on g w = end-port g Right (λ e. e.targets) Input w (place_of w g.inputs) (λ d. refl) (λ i. tt)

pub to-port_on : (g : PlainGraph) (w : ℕ) → IsPortOn g Left (to_of g w)
to-port_on g w = end-port g Left (λ e. e.sources) Output w (place_of w g.outputs) (λ d. refl) (λ i. tt)

port-end : (g : PlainGraph) (side : Side) (n : ℕ) (e : End) → n ≡ length g.edges → IsPortOn g side e → IsEnd n e
port-end g side n (Input i) l h = tt
port-end g side n (Output i) l h = tt
port-end g side n (Port k i) l h = let a = h.0 in omega arith

pub ends-are : (g : PlainGraph) (n : ℕ) → n ≡ length g.edges → All (λ x. IsEnd n x.from × IsEnd n x.to) (ends_of g)
ends-are g n l = All-from_get_members {P = λ x. IsEnd n x.from × IsEnd n x.to} (ends_of g) (λ x m.
    let w = map-member (λ w. record { from = from_of g w; to = to_of g w }) _ x m in
    subst (λ x. IsEnd n x.from × IsEnd n x.to) w.2 (port-end g Right n (from_of g w.0) l (from-port_on g w.0), port-end g Left n (to_of g w.0) l (to-port_on g w.0)))

pub ends-at : (g : PlainGraph) (ends : List Ends) (w : ℕ) (d : Ends) → ends ≡ ends_of g → w < length g.wires → get_or ends w d ≡ record { from = from_of g w; to = to_of g w }
ends-at g ends w d e l =
    let a : slice_get ends w ≡ Some (record { from = from_of g w; to = to_of g w }) = ap (λ x. slice_get x w) e ∙ get-map (λ w. record { from = from_of g w; to = to_of g w }) _ w
    ∙ ap (λ o. option_map (λ w. record { from = from_of g w; to = to_of g w }) o) (get-count0 (length g.wires) w l) in
    read ends w d a
  where
    read : (xs : List Ends) (i : ℕ) (d : Ends) {x : Ends} → slice_get xs i ≡ Some x → get_or xs i d ≡ x
    read [] i d h = cc
    read (y ∷ xs) zero d h = cc
    read (y ∷ xs) (suc i) d h = read xs i d h

-- ## spots

-- an item of a table
pub table-at : {A : Type 0} (f : ℕ → A) (n k : ℕ) (xs : List A) (x : A) → xs ≡ map f (range_with_len 0 n) → k < n → slice_get xs k ≡ Some x → x ≡ f k
table-at f n k xs x e l h =
    let q : Some x ≡ Some (f (0 + k)) = sym h ∙ ap (λ s. slice_get s k) e ∙ get-map-range f 0 n k l in
    let r : x ≡ f (0 + k) = cc in
    let z : 0 + k ≡ k = omega arith in
    r ∙ ap f z

box-low : (placed : List Placed) (k : ℕ) → ((p : Placed) → Member p placed → p.spot.top < 9223372036854775808) → (box_spot placed k).top < 9223372036854775808
box-low placed k h = go placed nowhere (omega arith) h
  where
    go : (ps : List Placed) (s : Spot) → s.top < 9223372036854775808 → ((p : Placed) → Member p ps → p.spot.top < 9223372036854775808)
        → (fold (λ spot p. cond (is_box k p.item) p.spot spot) s ps).top < 9223372036854775808
    go [] s l h = l
    go (p ∷ ps) s l h = go ps (cond (is_box k p.item) p.spot s) (pick (is_box k p.item)) (λ q m. h q (inr m))
      where
        pick : (b : Bool) → (cond b p.spot s).top < 9223372036854775808
        pick true = h p (inl refl)
        pick false = l

pub spots-low : (g : PlainGraph) → IsValid g → length g.wires < 2147483648 → (order : List (List Item)) → All (AreItems g) order → (spots : List Spot) (n : ℕ)
    → spots ≡ map (box_spot (placed_from g 1 order)) (range_with_len 0 n) → All (λ s. s.top < 9223372036854775808) spots
spots-low g v few order a spots n e = subst (All (λ s. s.top < 9223372036854775808)) (sym e) (All-from_get_members {P = λ s. s.top < 9223372036854775808} (map (box_spot
    (placed_from g 1 order)) (range_with_len 0 n)) (λ s m.
    let k = map-member (box_spot (placed_from g 1 order)) (range_with_len 0 n) s m in
    subst (λ s. s.top < 9223372036854775808) k.2 (box-low (placed_from g 1 order) k.0 (λ p q. (member g v few order a p q).1))))

-- ## the height

rim-height : (g : PlainGraph) (ws : List ℕ) → column_height g (map Wire ws) ≡ 40 * length ws
rim-height g [] = refl
rim-height g (w ∷ ws) = let e = sum_by-cons (λ t. height_of g t + 20) (Wire w) (map Wire ws) in let h = rim-height g ws in omega arith

pub height-start : (g : PlainGraph) (n : ℕ) → n ≡ 40 * max (length g.inputs) (length g.outputs) → n ≡ greatest (map (column_height g) (rim g Left ∷ rim g Right ∷ []))
height-start g n e = let a = rim-height g g.inputs in let b = rim-height g g.outputs in omega arith

-- ## what the code makes

pub port-drawn : (g : PlainGraph) (placed : List Placed) (side : Side) (k i : ℕ) (spots : List Spot) (d : Spot) (h r n : ℕ)
    → spots ≡ map (box_spot placed) (range_with_len 0 (length g.edges)) → k < length g.edges → length spots ≡ length g.edges
    → h ≡ height_of g (Box k) → n ≡ length (wires_on g side (Box k)) → r ≡ h * (2 * i + 1) / (2 * n) → (get_or spots k d).top + r ≡ end_y g placed side (Port k i)
port-drawn g placed side k i spots d h r n e l s p q f =
    let t : get_or spots k d ≡ box_spot placed k = table-at (box_spot placed) (length g.edges) k spots (get_or spots k d) e l (get-read spots k d (omega arith)) in
    ap₂ (λ (a b : ℕ). a + b) (ap (λ (x : Spot). x.top) t) (f ∙ ap₂ (λ (a b : ℕ). a * (2 * i + 1) / (2 * b)) p q)

pub box-drawn : (g : PlainGraph) (placed : List Placed) (k : ℕ) (e : Edge) (spots : List Spot) (d : Spot) (name : List ℕ) (h : ℕ)
    → spots ≡ map (box_spot placed) (range_with_len 0 (length g.edges)) → k < length g.edges → length spots ≡ length g.edges
    → slice_get g.edges k ≡ Some e → name ≡ e.name → h ≡ height_of g (Box k)
    → ◌≡◌ {A = BoxAt} (record { name = name; column = (get_or spots k d).column; place = (get_or spots k d).place; top = (get_or spots k d).top; height = h }) (box_of placed k e)
box-drawn g placed k e spots d name h q l s f n p =
    let t : get_or spots k d ≡ box_spot placed k = table-at (box_spot placed) (length g.edges) k spots (get_or spots k d) q l (get-read spots k d (omega arith)) in
    ap (λ (m : List ℕ). record { name = m; column = (get_or spots k d).column; place = (get_or spots k d).place; top = (get_or spots k d).top; height = h }) n
    ∙ ap (λ (x : Spot). record { name = e.name; column = x.column; place = x.place; top = x.top; height = h }) t
    ∙ ap (λ (y : ℕ). record { name = e.name; column = (box_spot placed k).column; place = (box_spot placed k).place; top = (box_spot placed k).top; height = y }) (p ∙ ap edge_height f)

pub line-drawn : (g : PlainGraph) (placed : List Placed) (w : ℕ) (x : Ends) (sort s : Sort) (bends : List Point) (y z : ℕ) → x ≡ record { from = from_of g w; to = to_of g w } → sort ≡ s
    → bends ≡ bends_on placed w
    → y ≡ end_y g placed Right x.from → z ≡ end_y g placed Left x.to → ◌≡◌ {A = Line} (record { sort = sort; from = x.from; to = x.to; bends = bends; y_from = y; y_to = z }) (line_of g placed w s)
line-drawn g placed w x sort s bends y z e p q a b =
    ap (λ (y : ℕ). record { sort = sort; from = x.from; to = x.to; bends = bends; y_from = y; y_to = z }) a
    ∙ ap (λ (z : ℕ). record { sort = sort; from = x.from; to = x.to; bends = bends; y_from = end_y g placed Right x.from; y_to = z }) b
    ∙ ap (λ (x : Ends). record { sort = sort; from = x.from; to = x.to; bends = bends; y_from = end_y g placed Right x.from; y_to = end_y g placed Left x.to }) e
    ∙ ap₂ (λ (s : Sort) (l : List Point). record { sort = s; from = from_of g w; to = to_of g w; bends = l; y_from = end_y g placed Right (from_of g w); y_to = end_y g placed Left (to_of g w) }) p q

pub ends-length : (g : PlainGraph) (ends : List Ends) → ends ≡ ends_of g → length ends ≡ length g.wires
ends-length g ends e = ap length e ∙ length-map (count_from 0 (length g.wires)) (λ w. record { from = from_of g w; to = to_of g w }) ∙ length-count_from 0 (length g.wires)

pub picture-drawn : (g : PlainGraph) (order : List (List Item)) (n h : ℕ) (boxes : List BoxAt) (lines : List Line) (ins outs : List ℕ) → n ≡ length order → h ≡ picture_height g order
    → boxes ≡ map (λ p. box_of (placed_from g 1 order) p.0 p.1) (enumerate_from 0 g.edges) → lines ≡ map (λ p. line_of g (placed_from g 1 order) p.0 p.1) (enumerate_from 0 g.wires)
    → ins ≡ g.inputs → outs ≡ g.outputs
    → ◌≡◌ {A = Picture} (record { width = 40 + 100 * (n + 1) + 40; height = h; columns = length order; boxes = boxes; lines = lines; inputs = length ins; outputs = length outs })
    (picture_in g order)
picture-drawn g order n h boxes lines ins outs a b c d e f =
    ap₂ (λ (n h : ℕ). record { width = 40 + 100 * (n + 1) + 40; height = h; columns = length order; boxes = boxes; lines = lines; inputs = length ins; outputs = length outs }) a b
    ∙ ap₂ (λ (bs : List BoxAt) (ls : List Line). record {
      width = 40 + 100 *
          (length order + 1) + 40;
      height = picture_height g order;
      columns = length order;
      boxes = bs;
      lines = ls;
      inputs = length ins;
      outputs = length outs;
    }) c d
    ∙ ap₂ (λ (is os : List ℕ). record {
      width = 40 + 100 * (length order + 1) + 40;
      height = picture_height g order;
      columns = length order;
      boxes = map (λ p. box_of
          (placed_from g 1 order) p.0 p.1) (enumerate_from 0 g.edges);
      lines = map (λ p. line_of g (placed_from g 1 order) p.0 p.1)
          (enumerate_from 0 g.wires);
      inputs = length is;
      outputs = length os;
    }) e f
