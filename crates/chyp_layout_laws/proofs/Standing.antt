-- Where the boxes of an order stand.
use Rattle.std.proofs.Common.{ℕ, zero, suc, ◌+◌, ◌-◌, ◌<◌, ◌≡◌, Bool, true, false, cond, eqb, List, [], ◌∷◌, ◌++◌, filter, Some, slice_get, ◌⊎◌, inl, inr, refl, sym, ◌∙◌, ap, subst, arith, eq-eqb}
use Rattle.std.specs.List.{enumerate_from, fold, range_with_len}
use Rattle.std.proofs.lemmas.Bool.{eqb-true}
use Rattle.std.proofs.lemmas.List.{length-map}
use Rattle.chyp_term.proofs.Members.{Member, Rearr-member, filter-member, get-member, map-member, member-filter, member-left, member-map, member-right, member-split}
use Rattle.chyp_term.proofs.Positions.{slice_get-length}
use Rattle.chyp_term.proofs.Rearrangement.{Rearr-sym}
use Rattle.chyp_graph.specs.PlainGraph.{PlainGraph}
use Rattle.chyp_layout.specs.Columns.{greatest}
use Rattle.chyp_layout.specs.Order.{bends_in, boxes_in, first_order, is_between}
use Rattle.chyp_layout.specs.Spots.{box_spot, height_of, is_box, nowhere, placed_from, placed_in}
use Rattle.chyp_layout.specs.declared.ends.Ends.{Ends}
use Rattle.chyp_layout.specs.declared.item.Item.{Item}
use Rattle.chyp_layout.specs.declared.item.Item.TheVariants.{Box, Wire}
use Rattle.chyp_layout.specs.declared.placed.Placed.{Placed}
use Rattle.chyp_layout.specs.declared.spot.Spot.{Spot}
use Rattle.chyp_layout.proofs.Numbers.{greatest-above}
use Rattle.chyp_layout.proofs.Ordering.{get-map-range, length-range}
use Rattle.chyp_layout_laws.proofs.Orders.{Alike, alike-at, alike-back}

-- ## items with their spots

pub in-item : (g : PlainGraph) (c place top : ℕ) (items : List Item) (p : Placed) → Member p (placed_in g c place top items) → (Member p.item items) × (p.spot.column ≡ c)
in-item g c place top [] p m = absurd m
in-item g c place top (t ∷ ts) p (inl e) = (inl (ap (λ p. p.item) e), sym (ap (λ p. p.spot.column) e))
in-item g c place top (t ∷ ts) p (inr m) = let r = in-item g c (place + 1) (top + height_of g t + 20) ts p m in (inr r.0, r.1)

item-in : (g : PlainGraph) (c place top : ℕ) (items : List Item) (t : Item) → Member t items → (p : Placed) × (Member p (placed_in g c place top items)) × (p.item ≡ t)
item-in g c place top [] t m = absurd m
item-in g c place top (u ∷ ts) t (inl e) = (record { item = u; spot = record { column = c; place = place; top = top } }, inl refl, e)
item-in g c place top (u ∷ ts) t (inr m) = let r = item-in g c (place + 1) (top + height_of g u + 20) ts t m in (r.0, inr r.1, r.2)

-- the column of a placed item
abbrev pub IsInColumn : ℕ → List (List Item) → Placed → Type 0
IsInColumn c order p = (j : ℕ) × (items : List Item) × (slice_get order j ≡ Some items) × (Member p.item items) × (p.spot.column ≡ c + j)

pub placed-column : (g : PlainGraph) (c : ℕ) (order : List (List Item)) (p : Placed) → Member p (placed_from g c order) → IsInColumn c order p
placed-column g c [] p m = absurd m
placed-column g c (items ∷ order) p m = go (member-split (placed_in g c 0 20 items) (placed_from g (c + 1) order) p m) (placed-column g (c + 1) order p)
  where
    go : (Member p (placed_in g c 0 20 items)) ⊎ (Member p (placed_from g (c + 1) order)) → (Member p (placed_from g (c + 1) order) → IsInColumn (c + 1) order p) → IsInColumn c (items ∷ order) p
    go (inl n) ih = let r = in-item g c 0 20 items p n in let e : c ≡ c + 0 = omega arith in (0, items, refl, r.0, r.1 ∙ e)
    go (inr n) ih = let r = ih n in let e : c + 1 + r.0 ≡ c + suc r.0 = omega arith in (suc r.0, r.1, r.2, r.3, r.4 ∙ e)

pub column-placed : (g : PlainGraph) (c : ℕ) (order : List (List Item)) (j : ℕ) (items : List Item) (t : Item) → slice_get order j ≡ Some items → Member t items
    → (p : Placed) × (Member p (placed_from g c order)) × (p.item ≡ t)
column-placed g c [] j items t h m = cc
column-placed g c (d ∷ order) zero items t h m =
    let e : items ≡ d = cc in
    let r = item-in g c 0 20 d t (subst (Member t) e m) in
    (r.0, member-left (placed_in g c 0 20 d) (placed_from g (c + 1) order) r.0 r.1, r.2)
column-placed g c (d ∷ order) (suc j) items t h m =
    let r = column-placed g (c + 1) order j items t h m in
    (r.0, member-right (placed_in g c 0 20 d) (placed_from g (c + 1) order) r.0 r.1, r.2)

-- ## the spot of a box

-- the spot is that of the box, where it stands
abbrev pub IsSpotOf : List Placed → ℕ → Spot → Type 0
IsSpotOf placed k s = (p : Placed) × (Member p placed) × (p.item ≡ Box k) × (p.spot ≡ s)

is-box : (k : ℕ) (t : Item) → is_box k t ≡ true → t ≡ Box k
is-box k (Box j) e = ap Box (eqb-true j k e)
is-box k (Wire w) e = cc

box-is : (k : ℕ) (t : Item) → t ≡ Box k → is_box k t ≡ true
box-is k t e = ap (is_box k) e ∙ eq-eqb k k refl

pub box-found : (placed : List Placed) (k : ℕ) (p : Placed) → Member p placed → p.item ≡ Box k → IsSpotOf placed k (box_spot placed k)
box-found placed k p m e = go placed nowhere (λ q n. n) (inr (p, m, e))
  where
    go : (ps : List Placed) (s : Spot) → ((q : Placed) → Member q ps → Member q placed) → (IsSpotOf placed k s) ⊎ ((q : Placed) × (Member q ps) × (q.item ≡ Box k))
        → IsSpotOf placed k (fold (λ spot p. cond (is_box k p.item) p.spot spot) s ps)
    go [] s h (inl r) = r
    go [] s h (inr r) = absurd r.1
    go (q ∷ ps) s h r = go ps (cond (is_box k q.item) q.spot s) (λ x n. h x (inr n)) (next (is_box k q.item) refl r)
      where
        next : (b : Bool) → is_box k q.item ≡ b → (IsSpotOf placed k s) ⊎ ((x : Placed) × (Member x (q ∷ ps)) × (x.item ≡ Box k))
            → (IsSpotOf placed k (cond b q.spot s)) ⊎ ((x : Placed) × (Member x ps) × (x.item ≡ Box k))
        next true b r = inl (q, h q (inl refl), is-box k q.item b, refl)
        next false b (inl r) = inl r
        next false b (inr (x, inl n, f)) = let t : is_box k q.item ≡ true = box-is k q.item (ap (λ z. z.item) n ∙ f) in cc
        next false b (inr (x, inr n, f)) = inr (x, n, f)

-- ## the first order

pub enumerated : {A : Type 0} (n : ℕ) (xs : List A) (p : ℕ × A) → Member p (enumerate_from n xs) → (i : ℕ) × (p.0 ≡ n + i) × (slice_get xs i ≡ Some p.1)
enumerated n [] p m = absurd m
enumerated n (x ∷ xs) p (inl e) = let f = ap (λ p. p.0) e in (0, omega arith, ap (λ p. Some p.1) e)
enumerated n (x ∷ xs) p (inr m) = let r = enumerated (n + 1) xs p m in let f = r.1 in (suc r.0, omega arith, r.2)

numbered : {A : Type 0} (n : ℕ) (xs : List A) (i : ℕ) (x : A) → slice_get xs i ≡ Some x → Member (n + i, x) (enumerate_from n xs)
numbered n [] i x h = cc
numbered n (y ∷ xs) zero x h = let e : n ≡ n + 0 = omega arith in let f : y ≡ x = cc in inl (ap (λ m. (m, y)) e ∙ ap (λ z. (n + 0, z)) f)
numbered {A} n (y ∷ xs) (suc i) x h = let e : n + 1 + i ≡ n + suc i = omega arith in inr (subst (λ m. Member (m, x) (enumerate_from (n + 1) xs)) e (numbered (n + 1) xs i x h))

-- the box in a column of the first order
box-there : (columns : List ℕ) (k c : ℕ) → slice_get columns k ≡ Some c → Member (Box k) (boxes_in columns c)
box-there columns k c h =
    member-map (λ (p : ℕ × ℕ). Box p.0) (filter (λ p. eqb p.1 c) (enumerate_from 0 columns)) (k, c)
    (member-filter (λ p. eqb p.1 c) (enumerate_from 0 columns) (k, c) (let e : 0 + k ≡ k = omega arith in subst (λ m. Member (m, c) (enumerate_from 0 columns)) e (numbered 0 columns k c h))
    (eq-eqb c c refl))

there-box : (columns : List ℕ) (ends : List Ends) (k c : ℕ) → Member (Box k) (boxes_in columns c ++ bends_in columns ends c) → slice_get columns k ≡ Some c
there-box columns ends k c m = go (member-split (boxes_in columns c) (bends_in columns ends c) (Box k) m)
  where
    go : (Member (Box k) (boxes_in columns c)) ⊎ (Member (Box k) (bends_in columns ends c)) → slice_get columns k ≡ Some c
    go (inl n) =
        let p = map-member (λ (p : ℕ × ℕ). Box p.0) (filter (λ p. eqb p.1 c) (enumerate_from 0 columns)) (Box k) n in
        let f = filter-member (λ p. eqb p.1 c) (enumerate_from 0 columns) p.0 p.1 in
        let i = enumerated 0 columns p.0 f.0 in
        let a : p.0.0 ≡ k = by-number p.0.0 k p.2 in
        let b = i.1 in
        let d : i.0 ≡ k = omega arith in
        ap (slice_get columns) (sym d) ∙ i.2 ∙ ap (λ x. Some x) (eqb-true p.0.1 c f.1)
      where
        by-number : (i j : ℕ) → ◌≡◌ {A = Item} (Box i) (Box j) → i ≡ j
        by-number i j e = cc
    go (inr n) =
        let p = map-member (λ (p : ℕ × Ends). Wire p.0) (filter (λ p. is_between columns c p.1) (enumerate_from 0 ends)) (Box k) n in
        absurd (no p.0.0 k p.2)
      where
        no : (i j : ℕ) → ◌≡◌ {A = Item} (Wire i) (Box j) → ⊥
        no i j e = cc

pub first-at : (columns : List ℕ) (ends : List Ends) (j : ℕ) → j < greatest columns
    → slice_get (first_order columns ends) j ≡ Some (boxes_in columns (1 + j) ++ bends_in columns ends (1 + j))
first-at columns ends j l = get-map-range (λ c. boxes_in columns c ++ bends_in columns ends c) 1 (greatest columns) j l

-- ## the spot of a box of an order that is alike

module _ (g : PlainGraph) (columns : List ℕ) (ends : List Ends) (order : List (List Item)) (alike : Alike (first_order columns ends) order) where
  pub spot-of : (k c : ℕ) → slice_get columns k ≡ Some c → 0 < c → IsSpotOf (placed_from g 1 order) k (box_spot (placed_from g 1 order) k)
  spot-of k c h l =
      let j : ℕ = c - 1 in
      let b = greatest-above columns c (get-member columns k c h) in
      let f = first-at columns ends j (omega arith) in
      let a = alike-at order (first_order columns ends) j (boxes_in columns (1 + j) ++ bends_in columns ends (1 + j)) (alike-back (first_order columns ends) order alike) f in
      let e : c ≡ 1 + j = omega arith in
      let m = Rearr-member (Box k) (Rearr-sym a.2) (member-left (boxes_in columns (1 + j)) (bends_in columns ends (1 + j)) (Box k) (box-there columns k (1 + j) (h ∙ ap (λ x. Some x) e))) in
      let p = column-placed g 1 order j a.0 (Box k) a.1 m in
      box-found (placed_from g 1 order) k p.0 p.1 p.2

  pub spot-column : (k c : ℕ) → slice_get columns k ≡ Some c → 0 < c → (box_spot (placed_from g 1 order) k).column ≡ c
  spot-column k c h l =
      let s = spot-of k c h l in
      let i = placed-column g 1 order s.0 s.1 in
      let a = alike-at (first_order columns ends) order i.0 i.1 alike i.2 in
      let n = slice_get-length (first_order columns ends) i.0 a.0 a.1 in
      let u = length-map (range_with_len 1 (greatest columns)) (λ c. boxes_in columns c ++ bends_in columns ends c) in
      let w = length-range 1 (greatest columns) in
      let f = first-at columns ends i.0 (omega arith) in
      let q : Some a.0 ≡ Some (boxes_in columns (1 + i.0) ++ bends_in columns ends (1 + i.0)) = sym a.1 ∙ f in
      let r : a.0 ≡ boxes_in columns (1 + i.0) ++ bends_in columns ends (1 + i.0) = cc in
      let m = Rearr-member (Box k) (Rearr-sym a.2) (subst (λ t. Member t i.1) s.2 i.3) in
      let d = there-box columns ends k (1 + i.0) (subst (Member (Box k)) r m) in
      let x : Some c ≡ Some (1 + i.0) = sym h ∙ d in
      let y : c ≡ 1 + i.0 = cc in
      ap (λ s. s.column) (sym s.3) ∙ i.4 ∙ sym y
