-- The columns in which a wire bends.
use Rattle.std.proofs.Common.{ℕ, zero, suc, ◌+◌, ◌-◌, ◌<◌, ◌≤◌, ◌≡◌, Bool, true, false, cond, ◌&&◌, eqb, ltb, max, List, [], ◌∷◌, ◌++◌, map, length}
use Rattle.std.proofs.Common.{filter, Some, slice_get, ◌⊎◌, inl, inr, refl, sym, ◌∙◌, ap, ap₂, arith, eq-eqb, ne_eqb, length-append}
use Rattle.std.specs.List.{enumerate_from, range_with_len}
use Rattle.std.proofs.lemmas.Bool.{and_from, and_left, and_right, cases_lt, le-ltb, lt-ltb}
use Rattle.std.proofs.lemmas.List.{map-append}
use Rattle.chyp_term.proofs.Rearrangement.{Rearr-filter, Rearr-length}
use Rattle.chyp_graph.specs.PlainGraph.{PlainGraph}
use Rattle.chyp_picture.specs.declared.point.Point.{Point}
use Rattle.chyp_layout.specs.Columns.{end_column}
use Rattle.chyp_layout.specs.Order.{bends_in, boxes_in, is_between}
use Rattle.chyp_layout.specs.Spots.{bend_at, bends_on, height_of, is_wire, placed_from, placed_in}
use Rattle.chyp_layout.specs.declared.ends.Ends.{Ends}
use Rattle.chyp_layout.specs.declared.item.Item.{Item}
use Rattle.chyp_layout.specs.declared.item.Item.TheVariants.{Box, Wire}
use Rattle.chyp_layout.specs.declared.placed.Placed.{Placed}
use Rattle.chyp_layout_laws.proofs.Orders.{Alike}

filter-both : {A : Type 0} (p : A → Bool) (xs ys : List A) → filter p (xs ++ ys) ≡ filter p xs ++ filter p ys
filter-both p [] ys = refl
filter-both {A} p (x ∷ xs) ys = go (p x) (filter-both p xs ys)
  where
    go : (b : Bool) → filter p (xs ++ ys) ≡ filter p xs ++ filter p ys → cond b (x ∷ filter p (xs ++ ys)) (filter p (xs ++ ys)) ≡ cond b (x ∷ filter p xs) (filter p xs) ++ filter p ys
    go true e = ap (λ l. x ∷ l) e
    go false e = e

-- ## how often a wire stands in a column

abbrev pub times : ℕ → List Item → ℕ
times w items = length (filter (is_wire w) items)

-- the items of the wires that pass, from a number on
abbrev passing : (Ends → Bool) → ℕ → List Ends → List Item
passing b n ends = map (λ (p : ℕ × Ends). Wire p.0) (filter (λ (p : ℕ × Ends). b p.1) (enumerate_from n ends))

times-later : (b : Ends → Bool) (n w : ℕ) (ends : List Ends) → w < n → times w (passing b n ends) ≡ 0
times-later b n w [] l = refl
times-later b n w (x ∷ ends) l = go (b x) (times-later b (n + 1) w ends (omega arith))
  where
    other : eqb n w ≡ false
    other = ne_eqb n w (λ e. absurd (omega arith))

    go : (t : Bool) → times w (passing b (n + 1) ends) ≡ 0
        → times w (map (λ (p : ℕ × Ends). Wire p.0) (cond t ((n, x) ∷ filter (λ (p : ℕ × Ends). b p.1) (enumerate_from (n + 1) ends)) (filter (λ (p : ℕ × Ends). b p.1)
        (enumerate_from (n + 1) ends)))) ≡ 0
    go true e = ap (λ c. length (cond c (Wire n ∷ filter (is_wire w) (passing b (n + 1) ends)) (filter (is_wire w) (passing b (n + 1) ends)))) other ∙ e
    go false e = e

times-passing : (b : Ends → Bool) (n i : ℕ) (ends : List Ends) (x : Ends) → slice_get ends i ≡ Some x → times (n + i) (passing b n ends) ≡ cond (b x) 1 0
times-passing b n i [] x h = cc
times-passing b n zero (y ∷ ends) x h = ap (λ z. times (n + 0) (passing b n (z ∷ ends))) same ∙ go (b x) (times-later b (n + 1) (n + 0) ends (omega arith))
  where
    same : y ≡ x
    same = cc

    here : eqb n (n + 0) ≡ true
    here = eq-eqb n (n + 0) (omega arith)

    go : (t : Bool) → times (n + 0) (passing b (n + 1) ends) ≡ 0
        → times (n + 0) (map (λ (p : ℕ × Ends). Wire p.0) (cond t ((n, x) ∷ filter (λ (p : ℕ × Ends). b p.1) (enumerate_from (n + 1) ends)) (filter (λ (p : ℕ × Ends). b p.1)
        (enumerate_from (n + 1) ends)))) ≡ cond t 1 0
    go true e = ap (λ c. length (cond c (Wire n ∷ filter (is_wire (n + 0)) (passing b (n + 1) ends)) (filter (is_wire (n + 0)) (passing b (n + 1) ends)))) here ∙ ap suc e
    go false e = e
times-passing b n (suc i) (y ∷ ends) x h = go (b y) (times-passing b (n + 1) i ends x h)
  where
    number : n + 1 + i ≡ n + suc i
    number = omega arith

    other : eqb n (n + suc i) ≡ false
    other = ne_eqb n (n + suc i) (λ e. absurd (omega arith))

    go : (t : Bool) → times (n + 1 + i) (passing b (n + 1) ends) ≡ cond (b x) 1 0
        → times (n + suc i) (map (λ (p : ℕ × Ends). Wire p.0) (cond t ((n, y) ∷ filter (λ (p : ℕ × Ends). b p.1) (enumerate_from (n + 1) ends)) (filter (λ (p : ℕ × Ends). b p.1)
        (enumerate_from (n + 1) ends)))) ≡ cond (b x) 1 0
    go true e = ap (λ c. length (cond c (Wire n ∷ filter (is_wire (n + suc i)) (passing b (n + 1) ends)) (filter (is_wire (n + suc i)) (passing b (n + 1) ends)))) other
        ∙ ap (λ m. times m (passing b (n + 1) ends)) (sym number) ∙ e
    go false e = ap (λ m. times m (passing b (n + 1) ends)) (sym number) ∙ e

times-boxes : (w : ℕ) (ps : List (ℕ × ℕ)) → times w (map (λ (p : ℕ × ℕ). Box p.0) ps) ≡ 0
times-boxes w [] = refl
times-boxes w (p ∷ ps) = times-boxes w ps

-- in a column of the first order a wire stands once where the column is between its ends, or else never
times-first : (columns : List ℕ) (ends : List Ends) (w : ℕ) (x : Ends) (c : ℕ) → slice_get ends w ≡ Some x
    → times w (boxes_in columns c ++ bends_in columns ends c) ≡ cond (is_between columns c x) 1 0
times-first columns ends w x c h =
    let e = filter-both (is_wire w) (boxes_in columns c) (bends_in columns ends c) in
    let l = length-append (filter (is_wire w) (boxes_in columns c)) (filter (is_wire w) (bends_in columns ends c)) in
    let a = times-boxes w (filter (λ (p : ℕ × ℕ). eqb p.1 c) (enumerate_from 0 columns)) in
    let z : 0 + w ≡ w = omega arith in
    let b : times w (bends_in columns ends c) ≡ cond (is_between columns c x) 1 0 =
    ap (λ m. times m (bends_in columns ends c)) (sym z) ∙ times-passing (is_between columns c) 0 w ends x h in
    ap length e ∙ l ∙ ap₂ (λ (a b : ℕ). a + b) a b ∙ zero-left (cond (is_between columns c x) 1 0)
  where
    zero-left : (n : ℕ) → 0 + n ≡ n
    zero-left n = omega arith

-- ## the columns of a wire's bends

abbrev pub trace : ℕ → List Placed → List ℕ
trace w placed = map (λ (b : Point). b.column) (bends_on placed w)

trace-both : (w : ℕ) (xs ys : List Placed) → trace w (xs ++ ys) ≡ trace w xs ++ trace w ys
trace-both w xs ys =
    ap (λ l. map (λ (b : Point). b.column) (map bend_at l)) (filter-both (λ (p : Placed). is_wire w p.item) xs ys)
    ∙ ap (map (λ (b : Point). b.column)) (map-append bend_at (filter (λ (p : Placed). is_wire w p.item) xs) (filter (λ (p : Placed). is_wire w p.item) ys))
    ∙ map-append (λ (b : Point). b.column) (bends_on xs w) (bends_on ys w)

-- a number so many times
abbrev repeated : ℕ → ℕ → List ℕ
repeated zero c = []
repeated (suc n) c = c ∷ repeated n c

trace-in : (g : PlainGraph) (w c place top : ℕ) (items : List Item) → trace w (placed_in g c place top items) ≡ repeated (times w items) c
trace-in g w c place top [] = refl
trace-in g w c place top (t ∷ ts) = go (is_wire w t) (trace-in g w c (place + 1) (top + height_of g t + 20) ts)
  where
    rest : List Placed
    rest = filter (λ (p : Placed). is_wire w p.item) (placed_in g c (place + 1) (top + height_of g t + 20) ts)

    head : Placed
    head = record { item = t; spot = record { column = c; place = place; top = top } }

    go : (b : Bool) → map (λ (b : Point). b.column) (map bend_at rest) ≡ repeated (times w ts) c
        → map (λ (b : Point). b.column) (map bend_at (cond b (head ∷ rest) rest)) ≡ repeated (length (cond b (t ∷ filter (is_wire w) ts) (filter (is_wire w) ts))) c
    go true e = ap (λ l. c ∷ l) e
    go false e = e

trace-from : (g : PlainGraph) (columns : List ℕ) (ends : List Ends) (w : ℕ) (x : Ends) (c n : ℕ) (order : List (List Item)) → slice_get ends w ≡ Some x
    → Alike (map (λ c. boxes_in columns c ++ bends_in columns ends c) (range_with_len c n)) order
    → trace w (placed_from g c order) ≡ filter (λ c. is_between columns c x) (range_with_len c n)
trace-from g columns ends w x c zero [] h a = refl
trace-from g columns ends w x c zero (items ∷ order) h a = absurd a
trace-from g columns ends w x c (suc n) [] h a = absurd a
trace-from g columns ends w x c (suc n) (items ∷ order) h a =
    trace-both w (placed_in g c 0 20 items) (placed_from g (c + 1) order)
    ∙ ap₂ (λ (k l : List ℕ). k ++ l) (trace-in g w c 0 20 items
    ∙ ap (λ m. repeated m c) (sym (Rearr-length (Rearr-filter (is_wire w) a.0)) ∙ times-first columns ends w x c h))
    (trace-from g columns ends w x (c + 1) n order h a.1)
    ∙ go (is_between columns c x) (filter (λ c. is_between columns c x) (range_with_len (c + 1) n))
  where
    go : (b : Bool) (l : List ℕ) → repeated (cond b 1 0) c ++ l ≡ cond b (c ∷ l) l
    go true l = refl
    go false l = refl

-- the numbers strictly between two, of those from s on
between-range : (a b s m : ℕ) → b ≤ s + m → filter (λ c. ltb a c && ltb c b) (range_with_len s m) ≡ range_with_len (max s (a + 1)) (b - max s (a + 1))
between-range a b s zero l = let e : b - max s (a + 1) ≡ 0 = omega arith in ap (range_with_len (max s (a + 1))) (sym e)
between-range a b s (suc m) l = go (cases_lt a s) (cases_lt s b) (between-range a b (s + 1) m (omega arith))
  where
    rest : List ℕ
    rest = filter (λ c. ltb a c && ltb c b) (range_with_len (s + 1) m)

    go : (a < s) ⊎ (s ≤ a) → (s < b) ⊎ (b ≤ s) → rest ≡ range_with_len (max (s + 1) (a + 1)) (b - max (s + 1) (a + 1))
        → cond (ltb a s && ltb s b) (s ∷ rest) rest ≡ range_with_len (max s (a + 1)) (b - max s (a + 1))
    go (inl p) (inl q) ih =
        let t : ltb a s && ltb s b ≡ true = and_from (ltb a s) (ltb s b) (lt-ltb a s p) (lt-ltb s b q) in
        let u : max (s + 1) (a + 1) ≡ s + 1 = omega arith in
        let v : max s (a + 1) ≡ s = omega arith in
        let z : b - s ≡ suc (b - (s + 1)) = omega arith in
        ap (λ c. cond c (s ∷ rest) rest) t ∙ ap (λ l. s ∷ l) (ih ∙ ap (λ k. range_with_len k (b - k)) u) ∙ ap (range_with_len s) (sym z) ∙ ap (λ k. range_with_len k (b - k)) (sym v)
    go (inr p) q ih =
        let t : ltb a s && ltb s b ≡ false = and_left (ltb a s) (ltb s b) (le-ltb a s p) in
        let u : max (s + 1) (a + 1) ≡ max s (a + 1) = omega arith in
        ap (λ c. cond c (s ∷ rest) rest) t ∙ ih ∙ ap (λ k. range_with_len k (b - k)) u
    go (inl p) (inr q) ih =
        let t : ltb a s && ltb s b ≡ false = and_right (ltb a s) (ltb s b) (le-ltb s b q) in
        let u : b - max (s + 1) (a + 1) ≡ 0 = omega arith in
        let v : b - max s (a + 1) ≡ 0 = omega arith in
        ap (λ c. cond c (s ∷ rest) rest) t ∙ ih ∙ ap (range_with_len (max (s + 1) (a + 1))) u ∙ sym (ap (range_with_len (max s (a + 1))) v)

-- the bends of a wire stand in the columns strictly between its ends, from the left to the right
pub trace-is : (g : PlainGraph) (columns : List ℕ) (ends : List Ends) (w : ℕ) (x : Ends) (n : ℕ) (order : List (List Item)) → slice_get ends w ≡ Some x
    → Alike (map (λ c. boxes_in columns c ++ bends_in columns ends c) (range_with_len 1 n)) order → end_column columns x.to ≤ n + 1
    → trace w (placed_from g 1 order) ≡ range_with_len (end_column columns x.from + 1) (end_column columns x.to - (end_column columns x.from + 1))
trace-is g columns ends w x n order h a l =
    let e : max 1 (end_column columns x.from + 1) ≡ end_column columns x.from + 1 = omega arith in
    trace-from g columns ends w x 1 n order h a ∙ between-range (end_column columns x.from) (end_column columns x.to) 1 n (omega arith)
    ∙ ap (λ k. range_with_len k (end_column columns x.to - k)) e
