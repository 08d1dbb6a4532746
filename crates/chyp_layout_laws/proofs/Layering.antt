-- The columns of boxes, and those of the boxes that make their sources.
use Rattle.std.proofs.Common.{ℕ, zero, suc, ◌+◌, ◌<◌, ◌≤◌, ◌≡◌, Bool, true, false, cond, List, [], ◌∷◌, ◌++◌, map, length, Option, Some}
use Rattle.std.proofs.Common.{None, option_map, slice_get, ◌⊎◌, inl, inr, refl, sym, ◌∙◌, ap, subst, arith}
use Rattle.std.specs.List.{enumerate_from, find}
use Rattle.std.specs.Option.{unwrap_or}
use Rattle.std.proofs.lemmas.Bool.{cases_Bool}
use Rattle.std.proofs.lemmas.List.{length-map}
use Rattle.chyp_term.specs.Positions.{is_among, is_there, place_of}
use Rattle.chyp_term.proofs.Members.{Member, among-member, filter-member, flat-member, get-member, map-same_on, member-flat, member-get, member-split, members-all}
use Rattle.chyp_term.proofs.Permuted.{found, get-map}
use Rattle.chyp_term.proofs.Positions.{slice_get-length}
use Rattle.chyp_graph.specs.Graph.{target_at}
use Rattle.chyp_graph.specs.PlainGraph.{Edge, PlainGraph, targets_of}
use Rattle.chyp_graph.specs.Validity.{IsValid, is_ready, taken_within}
use Rattle.chyp_graph.proofs.Removing.{Once-apart, Once-perm, Once-right, port-once}
use Rattle.chyp_picture.specs.Picture.{box_column, column_of}
use Rattle.chyp_picture.specs.declared.box_at.BoxAt.{BoxAt}
use Rattle.chyp_picture.specs.declared.end.End.TheVariants.{Input}
use Rattle.chyp_picture.specs.declared.picture.Picture.{Picture}
use Rattle.chyp_layout.specs.Columns.{column_along, columns_of, greatest, producer_of}
use Rattle.chyp_layout.specs.Ends.{end_at, ends_of, from_of, port_of, port_or}
use Rattle.chyp_layout.specs.Order.{first_order}
use Rattle.chyp_layout.specs.PictureOf.{box_of, boxes_of, picture_in, picture_of}
use Rattle.chyp_layout.specs.Spots.{box_spot, placed_from}
use Rattle.chyp_layout.specs.declared.item.Item.{Item}
use Rattle.chyp_layout.specs.declared.placed.Placed.{Placed}
use Rattle.chyp_layout.proofs.Numbers.{same-items}
use Rattle.chyp_layout.proofs.Sweeping.{length-enumerate}
use Rattle.chyp_layout_laws.proofs.Orders.{Alike, kept}
use Rattle.chyp_layout_laws.proofs.Standing.{spot-column}

-- ## columns of edges

pub positive : (g : PlainGraph) (n : ℕ) (e : Edge) → 0 < n → 0 < column_along g n e
positive g zero e l = absurd (omega arith)
positive g (suc n) e l = omega arith

-- the column of an edge of the graph
abbrev pub column_in : PlainGraph → Edge → ℕ
column_in g e = column_along g (length g.edges) e

pub columns-at : (g : PlainGraph) (k : ℕ) (e : Edge) → slice_get g.edges k ≡ Some e → slice_get (columns_of g) k ≡ Some (column_in g e)
columns-at g k e h = get-map (column_along g (length g.edges)) g.edges k ∙ ap (option_map (column_along g (length g.edges))) h

pub column-low : (g : PlainGraph) (k : ℕ) (e : Edge) → slice_get g.edges k ≡ Some e → 0 < column_in g e
column-low g k e h = positive g (length g.edges) e (let l = slice_get-length g.edges k e h in omega arith)

-- the column in which a wire is made, as `column_along` counts it
abbrev pub date : PlainGraph → ℕ → ℕ → ℕ
date g n w = unwrap_or (option_map (column_along g n) (producer_of g w)) 0

pub made : (p : Edge → Bool) (xs : List Edge) (x : Edge) → find p xs ≡ Some x → (Member x xs) × (p x ≡ true)
made p [] x h = cc
made p (y ∷ ys) x h = go (cases_Bool (p y)) (made p ys x)
  where
    go : (p y ≡ true) ⊎ (p y ≡ false) → (find p ys ≡ Some x → (Member x ys) × (p x ≡ true)) → (Member x (y ∷ ys)) × (p x ≡ true)
    go (inl t) ih = let e : Some y ≡ Some x = sym (ap (λ b. cond b (Some y) (find p ys)) t) ∙ h in let d : y ≡ x = cc in (inl d, subst (λ z. p z ≡ true) d t)
    go (inr f) ih = let r = ih (sym (ap (λ b. cond b (Some y) (find p ys)) f) ∙ h) in (inr r.0, r.1)

inside : (g : PlainGraph) (q : ℕ) (d : Edge) → Member d (taken_within g q) → Member d g.edges
inside g zero d a = absurd a
inside g (suc q) d a = (filter-member (is_ready (g.inputs ++ targets_of (taken_within g q))) g.edges d a).0

-- one edge makes a wire
one-maker : (g : PlainGraph) → IsValid g → (w : ℕ) (d e : Edge) → Member d g.edges → Member w d.targets → Member e g.edges → Member w e.targets → d ≡ e
one-maker g v w d e a b m n =
    let j = member-get g.edges d a in
    let i = member-get d.targets w b in
    let k = member-get g.edges e m in
    let l = member-get e.targets w n in
    let x : target_at g j.0 i.0 ≡ Some w = rw j.1 i.1 in
    let y : target_at g k.0 l.0 ≡ Some w = rw k.1 l.1 in
    let z = port-once (λ e. e.targets) g.edges (Once-right g.inputs (targets_of g.edges) (Once-perm (length g.wires) _ v.producers)) j.0 k.0 i.0 l.0 w x y in
    let f : Some d ≡ Some e = sym j.1 ∙ ap (slice_get g.edges) z.0 ∙ k.1 in
    cc

-- the edges that make an edge's sources are taken away a round before it
source-made : (g : PlainGraph) → IsValid g → (m : ℕ) (e : Edge) → Member e (taken_within g (suc m)) → (w : ℕ) → Member w e.sources → (d : Edge) → producer_of g w ≡ Some d
    → Member d (taken_within g m)
source-made g v m e h w a d q =
    go (member-split g.inputs (targets_of (taken_within g m)) w (among-member live w (members-all (is_among live) e.sources (filter-member (is_ready live) g.edges e h).1 w a)))
  where
    live : List ℕ
    live = g.inputs ++ targets_of (taken_within g m)

    p : (Member d g.edges) × (is_among d.targets w ≡ true)
    p = made (λ d. is_among d.targets w) g.edges d q

    go : (Member w g.inputs) ⊎ (Member w (targets_of (taken_within g m))) → Member d (taken_within g m)
    go (inl n) = absurd (Once-apart g.inputs (targets_of g.edges) (Once-perm (length g.wires) _ v.producers) w n
        (member-flat (λ e. e.targets) g.edges d w p.0 (among-member d.targets w p.1)))
    go (inr n) =
        let f = flat-member (λ e. e.targets) (taken_within g m) w n in
        subst (λ z. Member z (taken_within g m)) (one-maker g v w f.0 d (inside g m f.0 f.1) f.2 p.0 (among-member d.targets w p.1)) f.1

date-same : (g : PlainGraph) (n m w : ℕ) → ((d : Edge) → producer_of g w ≡ Some d → column_along g n d ≡ column_along g m d) → date g n w ≡ date g m w
date-same g n m w h = go (producer_of g w) refl
  where
    go : (o : Option Edge) → producer_of g w ≡ o → date g n w ≡ date g m w
    go None q = ap (λ o. unwrap_or (option_map (column_along g n) o) 0) q ∙ sym (ap (λ o. unwrap_or (option_map (column_along g m) o) 0) q)
    go (Some d) q = ap (λ o. unwrap_or (option_map (column_along g n) o) 0) q ∙ h d q ∙ sym (ap (λ o. unwrap_or (option_map (column_along g m) o) 0) q)

-- the column of an edge that is taken away within m rounds stays the same where more are looked at
stable : (g : PlainGraph) → IsValid g → (m : ℕ) (e : Edge) → Member e (taken_within g m) → (n : ℕ) → m ≤ n → column_along g n e ≡ column_along g m e
stable g v zero e h n l = absurd h
stable g v (suc m) e h zero l = absurd (omega arith)
stable g v (suc m) e h (suc n) l = ap (λ l. greatest l + 1) (map-same_on (date g n) (date g m) e.sources (λ w a.
    date-same g n m w (λ d q. stable g v m d (source-made g v m e h w a d q) n (omega arith))))

one-more : (g : PlainGraph) → IsValid g → (n : ℕ) (e : Edge) → Member e (taken_within g n) → column_along g n e ≡ greatest (map (date g n) e.sources) + 1
one-more g v zero e h = absurd h
one-more g v (suc m) e h = ap (λ l. greatest l + 1) (map-same_on (date g m) (date g (suc m)) e.sources (λ w a.
    date-same g m (suc m) w (λ d q. sym (stable g v m d (source-made g v m e h w a d q) (suc m) (omega arith)))))

-- each edge of a valid graph is in the column behind the last of those that make its sources
pub column-next : (g : PlainGraph) → IsValid g → (e : Edge) → Member e g.edges → column_in g e ≡ greatest (map (date g (length g.edges)) e.sources) + 1
column-next g v e m = one-more g v (length g.edges) e (subst (Member e) (sym v.acyclic) m)

-- ## boxes

pub get-enumerate : {A : Type 0} (n : ℕ) (xs : List A) (i : ℕ) (x : A) → slice_get xs i ≡ Some x → slice_get (enumerate_from n xs) i ≡ Some (n + i, x)
get-enumerate n [] i x h = cc
get-enumerate n (y ∷ xs) zero x h = let e : n ≡ n + 0 = omega arith in let f : y ≡ x = cc in ap (λ m. Some (m, y)) e ∙ ap (λ z. Some (n + 0, z)) f
get-enumerate n (y ∷ xs) (suc i) x h = let e : n + 1 + i ≡ n + suc i = omega arith in get-enumerate (n + 1) xs i x h ∙ ap (λ m. Some (m, x)) e

pub get-enumerate0 : {A : Type 0} (xs : List A) (i : ℕ) (x : A) → slice_get xs i ≡ Some x → slice_get (enumerate_from 0 xs) i ≡ Some (i, x)
get-enumerate0 xs i x h = let e : 0 + i ≡ i = omega arith in get-enumerate 0 xs i x h ∙ ap (λ m. Some (m, x)) e

pub box-at : (g : PlainGraph) (placed : List Placed) (k : ℕ) (e : Edge) → slice_get g.edges k ≡ Some e → slice_get (boxes_of g placed) k ≡ Some (box_of placed k e)
box-at g placed k e h = get-map (λ (p : ℕ × Edge). box_of placed p.0 p.1) (enumerate_from 0 g.edges) k
    ∙ ap (option_map (λ (p : ℕ × Edge). box_of placed p.0 p.1)) (get-enumerate0 g.edges k e h)

pub boxes-count : (g : PlainGraph) (placed : List Placed) → length (boxes_of g placed) ≡ length g.edges
boxes-count g placed = length-map (enumerate_from 0 g.edges) (λ (p : ℕ × Edge). box_of placed p.0 p.1) ∙ length-enumerate 0 g.edges

-- what a wire is made by, as an edge and as a port
abbrev IsMaker : List Edge → Option Edge → Option (ℕ × ℕ) → Type 0
IsMaker es None None = Unit {0}
IsMaker es None (Some p) = ⊥
IsMaker es (Some d) None = ⊥
IsMaker es (Some d) (Some p) = slice_get es p.0 ≡ Some d

maker-port : (es : List Edge) (w : ℕ) → IsMaker es (find (λ e. is_among e.targets w) es) (port_of (λ e. e.targets) es w)
maker-port [] w = tt
maker-port (e ∷ es) w = go (place_of w e.targets) (find (λ e. is_among e.targets w) es) (port_of (λ e. e.targets) es w) (maker-port es w)
  where
    go : (o : Option ℕ) (f : Option Edge) (q : Option (ℕ × ℕ)) → IsMaker es f q → IsMaker (e ∷ es) (cond (is_there o) (Some e) f) (port_or o q)
    go (Some i) f q s = refl
    go None None None s = tt
    go None None (Some p) s = absurd s
    go None (Some d) None s = absurd s
    go None (Some d) (Some p) s = s

module _ (g : PlainGraph) (order : List (List Item)) (alike : Alike (first_order (columns_of g) (ends_of g)) order) where
  pub box-stands : (k : ℕ) (e : Edge) → slice_get g.edges k ≡ Some e → box_column (slice_get (picture_in g order).boxes k) ≡ column_in g e
  box-stands k e h =
      ap box_column (box-at g (placed_from g 1 order) k e h)
      ∙ spot-column g (columns_of g) (ends_of g) order alike k (column_in g e) (columns-at g k e h) (column-low g k e h)

  pub boxes-stand : map (λ b. b.column) (picture_in g order).boxes ≡ columns_of g
  boxes-stand = same-items (map (λ (b : BoxAt). b.column) (boxes_of g placed)) (columns_of g) size at
    where
      placed : List Placed
      placed = placed_from g 1 order

      size : length (map (λ (b : BoxAt). b.column) (boxes_of g placed)) ≡ length (columns_of g)
      size = length-map (boxes_of g placed) (λ (b : BoxAt). b.column) ∙ boxes-count g placed ∙ sym (length-map g.edges (column_along g (length g.edges)))

      at : (i x y : ℕ) → slice_get (map (λ (b : BoxAt). b.column) (boxes_of g placed)) i ≡ Some x → slice_get (columns_of g) i ≡ Some y → x ≡ y
      at i x y a b =
          let l = slice_get-length (columns_of g) i y b in
          let s = length-map g.edges (column_along g (length g.edges)) in
          let e = found g.edges i (omega arith) in
          let p : Some x ≡ Some (box_spot placed i).column = sym a ∙ get-map (λ (b : BoxAt). b.column) (boxes_of g placed) i
          ∙ ap (option_map (λ (b : BoxAt). b.column)) (box-at g placed i e.0 e.1) in
          let q : x ≡ (box_spot placed i).column = cc in
          q ∙ spot-column g (columns_of g) (ends_of g) order alike i y b (let c : Some (column_in g e.0) ≡ Some y = sym (columns-at g i e.0 e.1) ∙ b in
          let d : column_in g e.0 ≡ y = cc in let z = column-low g i e.0 e.1 in omega arith)

  -- a wire begins in the column in which it is made
  pub wire-begins : (w : ℕ) → column_of (picture_in g order) (from_of g w) ≡ date g (length g.edges) w
  wire-begins w = go (producer_of g w) (port_of (λ e. e.targets) g.edges w) (maker-port g.edges w)
    where
      go : (f : Option Edge) (q : Option (ℕ × ℕ)) → IsMaker g.edges f q
          → column_of (picture_in g order) (end_at Input q (place_of w g.inputs)) ≡ unwrap_or (option_map (column_along g (length g.edges)) f) 0
      go None None s = refl
      go None (Some p) s = absurd s
      go (Some d) None s = absurd s
      go (Some d) (Some p) s = box-stands p.0 d s

  pub box-follows : IsValid g → (k : ℕ) (e : Edge) (b : BoxAt) → slice_get g.edges k ≡ Some e → slice_get (picture_in g order).boxes k ≡ Some b
      → b.column ≡ greatest (map (λ w. column_of (picture_in g order) (from_of g w)) e.sources) + 1
  box-follows v k e b h i =
      sym (ap box_column i) ∙ box-stands k e h ∙ column-next g v e (get-member g.edges k e h)
      ∙ ap (λ l. greatest l + 1) (map-same_on (date g (length g.edges)) (λ w. column_of (picture_in g order) (from_of g w)) e.sources (λ w _. sym (wire-begins w)))

pub columns-drawn : (g : PlainGraph) → map (λ b. b.column) (picture_of g).boxes ≡ columns_of g
columns-drawn g = let o = kept g in subst (λ (p : Picture). map (λ b. b.column) p.boxes ≡ columns_of g) (sym o.2) (boxes-stand g o.0 o.1)

pub follows-drawn : (g : PlainGraph) → IsValid g → (k : ℕ) (e : Edge) (b : BoxAt) → slice_get g.edges k ≡ Some e → slice_get (picture_of g).boxes k ≡ Some b
    → b.column ≡ greatest (map (λ w. column_of (picture_of g) (from_of g w)) e.sources) + 1
follows-drawn g v k e b h =
    let o = kept g in
    subst (λ (p : Picture). slice_get p.boxes k ≡ Some b → b.column ≡ greatest (map (λ w. column_of p (from_of g w)) e.sources) + 1) (sym o.2) (box-follows g o.0 o.1 v k e b h)
