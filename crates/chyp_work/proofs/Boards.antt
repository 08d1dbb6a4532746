-- Boards: lists by name, and edges that change.
use Rattle.std.proofs.Common.{ℕ, zero, suc, ◌+◌, ◌≤◌, ◌≡◌, ◌≢◌, Bool, true, false, not, cond, eqb, List, [], ◌∷◌, ◌++◌, map, filter, take, remove, Option, Some, None, slice_get, slice_set}
use Rattle.std.proofs.Common.{◌⊎◌, inl, inr, refl, sym, ◌∙◌, ap, subst, arith, append-nil, eq-eqb, ne_eqb}
use Rattle.std.specs.Prelude.{option_map}
use Rattle.std.specs.Option.{option_map_or}
use Rattle.std.specs.Str.{bytes_eq}
use Rattle.std.proofs.lemmas.Bool.{cases_eq}
use Rattle.chyp_term.specs.Positions.{is_apart, place_of}
use Rattle.chyp_term.proofs.Members.{Member, filter-all, filter-member, map-member, member-map, member-not_apart, not_member-apart}
use Rattle.chyp_work.specs.Board.{consumed, edge_of, edges_of, produced, sourced, targeted, wires_of}
use Rattle.chyp_work.specs.declared.board.WireItem.{WireItem}
use Rattle.chyp_work.specs.declared.end.End.{End}
use Rattle.chyp_store.specs.Items.{AreDistinct, ids, item_at, with_item, without}
use Rattle.chyp_match.specs.Listed.{ids_where}
use Rattle.chyp_store.specs.Lists.{Row, list_of, room_of}
use Rattle.chyp_work.specs.declared.board.EdgeItem.{EdgeItem}
use Rattle.chyp_work.proofs.Items.{map-with, where-added, where-with, with-same}
use Rattle.chyp_work.proofs.Nets.{item-map}
use Rattle.chyp_store.proofs.Rows.{other-names, same-bytes, same-names}

pub names : (a b : List ℕ) → (a ≡ b) ⊎ (a ≢ b)
names a b = by (bytes_eq a b) refl
  where
    by : (t : Bool) → bytes_eq a b ≡ t → (a ≡ b) ⊎ (a ≢ b)
    by true e = inl (same-names a b e)
    by false e = inr (λ q. let x = rw q at e in let y = same-bytes b in absurd (cc))

-- an item comes, and its number behind the others in the list under its name
pub filed-added : {X : Type 0} (name_of : X → List ℕ) (rows more : List (List ℕ × Row ℕ)) (items : List (ℕ × X)) (k : ℕ) (x : X)
    → ((n : List ℕ) → list_of n rows ≡ ids_where (λ y. bytes_eq n (name_of y)) items)
    → list_of (name_of x) more ≡ list_of (name_of x) rows ++ k ∷ []
    → ((n : List ℕ) → n ≢ name_of x → list_of n more ≡ list_of n rows)
    → (n : List ℕ) → list_of n more ≡ ids_where (λ y. bytes_eq n (name_of y)) (items ++ (k, x) ∷ [])
filed-added {X} name_of rows more items k x filed pushed others n = by (names n (name_of x))
  where
    by : (n ≡ name_of x) ⊎ (n ≢ name_of x) → list_of n more ≡ ids_where (λ y. bytes_eq n (name_of y)) (items ++ (k, x) ∷ [])
    by (inl q) = rw (where-added (λ y. bytes_eq n (name_of y)) k x items, q, same-bytes (name_of x)) (pushed ∙ ap (λ l. l ++ k ∷ []) (filed (name_of x)))
    by (inr d) = rw (where-added (λ y. bytes_eq n (name_of y)) k x items, other-names n (name_of x) d, append-nil (ids_where (λ y. bytes_eq n (name_of y)) items)) (others n d ∙ filed n)

pub ids-map : {X Y : Type 0} (f : X → Y) (items : List (ℕ × X)) → ids (map (λ e. (e.0, f e.1)) items) ≡ ids items
ids-map f [] = refl
ids-map f (e ∷ es) = ap (λ l. e.0 ∷ l) (ids-map f es)

-- an edge gets another port
pub targeted-edges : (k i w : ℕ) (items : List (ℕ × EdgeItem))
    → edges_of (targeted k i w items) ≡ option_map_or (λ e. with_item k (edges_of items) (record e { targets = slice_set e.targets i w })) (item_at k (edges_of items)) (edges_of items)
targeted-edges k i w items = by (item_at k items) refl
  where
    by : (o : Option EdgeItem) → item_at k items ≡ o
        → edges_of (targeted k i w items) ≡ option_map_or (λ e. with_item k (edges_of items) (record e { targets = slice_set e.targets i w })) (item_at k (edges_of items)) (edges_of items)
    by None e = rw (item-map edge_of k items, e) refl
    by (Some x) e = rw (item-map edge_of k items, e) (map-with edge_of k _ items)

pub sourced-edges : (k i w : ℕ) (items : List (ℕ × EdgeItem))
    → edges_of (sourced k i w items) ≡ option_map_or (λ e. with_item k (edges_of items) (record e { sources = slice_set e.sources i w })) (item_at k (edges_of items)) (edges_of items)
sourced-edges k i w items = by (item_at k items) refl
  where
    by : (o : Option EdgeItem) → item_at k items ≡ o
        → edges_of (sourced k i w items) ≡ option_map_or (λ e. with_item k (edges_of items) (record e { sources = slice_set e.sources i w })) (item_at k (edges_of items)) (edges_of items)
    by None e = rw (item-map edge_of k items, e) refl
    by (Some x) e = rw (item-map edge_of k items, e) (map-with edge_of k _ items)

-- and keeps its name
pub targeted-named : (k i w : ℕ) (items : List (ℕ × EdgeItem)) → AreDistinct (ids items) → (n : List ℕ)
    → ids_where (λ e. bytes_eq n e.name) (edges_of (targeted k i w items)) ≡ ids_where (λ e. bytes_eq n e.name) (edges_of items)
targeted-named k i w items d n = by (item_at k items) refl
  where
    by : (o : Option EdgeItem) → item_at k items ≡ o → ids_where (λ e. bytes_eq n e.name) (edges_of (targeted k i w items)) ≡ ids_where (λ e. bytes_eq n e.name) (edges_of items)
    by None e = rw e refl
    by (Some x) e = rw (e, map-with edge_of k _ items)
        (where-with (λ e. bytes_eq n e.name) k _ (edge_of x) (edges_of items) (rw (ids-map edge_of items) d) (item-map edge_of k items ∙ ap (option_map edge_of) e) refl)

pub sourced-named : (k i w : ℕ) (items : List (ℕ × EdgeItem)) → AreDistinct (ids items) → (n : List ℕ)
    → ids_where (λ e. bytes_eq n e.name) (edges_of (sourced k i w items)) ≡ ids_where (λ e. bytes_eq n e.name) (edges_of items)
sourced-named k i w items d n = by (item_at k items) refl
  where
    by : (o : Option EdgeItem) → item_at k items ≡ o → ids_where (λ e. bytes_eq n e.name) (edges_of (sourced k i w items)) ≡ ids_where (λ e. bytes_eq n e.name) (edges_of items)
    by None e = rw e refl
    by (Some x) e = rw (e, map-with edge_of k _ items)
        (where-with (λ e. bytes_eq n e.name) k _ (edge_of x) (edges_of items) (rw (ids-map edge_of items) d) (item-map edge_of k items ∙ ap (option_map edge_of) e) refl)

-- ## taking out

pub map-without : {X Y : Type 0} (f : X → Y) (k : ℕ) (items : List (ℕ × X)) → map (λ e. (e.0, f e.1)) (without k items) ≡ without k (map (λ e. (e.0, f e.1)) items)
map-without f k [] = refl
map-without {X} {Y} f k (e ∷ es) = by (eqb k e.0) refl (map-without f k es)
  where
    by : (b : Bool) → eqb k e.0 ≡ b → map (λ e. (e.0, f e.1)) (without k es) ≡ without k (map (λ e. (e.0, f e.1)) es)
        → map {B = ℕ × Y} (λ e. (e.0, f e.1)) (cond (not (eqb k e.0)) (e ∷ without k es) (without k es))
        ≡ cond {A = List (ℕ × Y)} (not (eqb k e.0)) ((e.0, f e.1) ∷ without k (map (λ e. (e.0, f e.1)) es)) (without k (map (λ e. (e.0, f e.1)) es))
    by true q r = rw q r
    by false q r = rw q (ap (λ l. (e.0, f e.1) ∷ l) r)

module _ {X : Type 0} (test : X → Bool) where
  pub member-where : (k : ℕ) (x : X) (items : List (ℕ × X)) → item_at k items ≡ Some x → test x ≡ true → Member k (ids_where test items)
  member-where k x [] h t = cc
  member-where k x (e ∷ es) h t = by (cases_eq k e.0) (test e.1) refl (member-where k x es)
    where
      by : (k ≡ e.0) ⊎ (k ≢ e.0) → (b : Bool) → test e.1 ≡ b → (item_at k es ≡ Some x → test x ≡ true → Member k (ids_where test es))
          → Member k (map (λ (e : ℕ × X). e.0) (cond (test e.1) (e ∷ filter (λ e. test e.1) es) (filter (λ e. test e.1) es)))
      by (inl q) true j r = rw j (inl (sym q))
      by (inl q) false j r =
          let a = rw (eq-eqb k e.0 q) at h in
          let z : e.1 ≡ x = cc in
          let u : test e.1 ≡ test x = ap test z in absurd (cc)
      by (inr d) true j r = let a = rw (ne_eqb k e.0 d) at h in rw j (inr (r a t))
      by (inr d) false j r = let a = rw (ne_eqb k e.0 d) at h in rw j (r a t)

  pub where-member : (k : ℕ) (items : List (ℕ × X)) → Member k (ids_where test items) → (e : ℕ × X) × (Member e items) × (test e.1 ≡ true) × (e.0 ≡ k)
  where-member k items m =
      let a = map-member (λ (e : ℕ × X). e.0) (filter (λ e. test e.1) items) k m in
      let b = filter-member (λ (e : ℕ × X). test e.1) items a.0 a.1 in
      (a.0, b.0, b.1, a.2)

  pub distinct-where : (items : List (ℕ × X)) → AreDistinct (ids items) → AreDistinct (ids_where test items)
  distinct-where [] d = tt
  distinct-where (e ∷ es) d = by (test e.1) refl (distinct-where es d.1)
    where
      by : (b : Bool) → test e.1 ≡ b → AreDistinct (ids_where test es) → AreDistinct (map (λ (e : ℕ × X). e.0) (cond (test e.1) (e ∷ filter (λ e. test e.1) es) (filter (λ e. test e.1) es)))
      by true j r = rw j (not_member-apart (ids_where test es) e.0 (λ m. gone (where-member e.0 es m)), r)
        where
          gone : (f : ℕ × X) × (Member f es) × (test f.1 ≡ true) × (f.0 ≡ e.0) → ⊥
          gone f = let a = member-map (λ (e : ℕ × X). e.0) es f.0 f.1 in let b = member-not_apart (ids es) e.0 (subst (λ j. Member j (ids es)) f.3 a) in let c = d.0 in absurd (cc)
      by false j r = rw j r

  pub where-without : (k : ℕ) (items : List (ℕ × X)) → ids_where test (without k items) ≡ filter (λ j. not (eqb k j)) (ids_where test items)
  where-without k [] = refl
  where-without k (e ∷ es) = by (eqb k e.0) (test e.1) refl refl (where-without k es)
    where
      by : (b t : Bool) → eqb k e.0 ≡ b → test e.1 ≡ t → ids_where test (without k es) ≡ filter (λ j. not (eqb k j)) (ids_where test es)
          → ids_where test (cond (not (eqb k e.0)) (e ∷ without k es) (without k es))
          ≡ filter (λ j. not (eqb k j)) (map (λ (e : ℕ × X). e.0) (cond (test e.1) (e ∷ filter (λ e. test e.1) es) (filter (λ e. test e.1) es)))
      by true true q j r = rw (q, j, q) r
      by true false q j r = rw (q, j) r
      by false true q j r = rw (q, j, q) (ap (λ l. e.0 ∷ l) r)
      by false false q j r = rw (q, j) r

-- the item under a number that is there once
pub item-once : {X : Type 0} (e : ℕ × X) (items : List (ℕ × X)) → AreDistinct (ids items) → Member e items → item_at e.0 items ≡ Some e.1
item-once e [] d m = absurd m
item-once e (f ∷ es) d (inl q) = rw (q, eq-eqb e.0 e.0 refl) refl
item-once {X} e (f ∷ es) d (inr m) = by (cases_eq e.0 f.0) (item-once e es d.1 m)
  where
    by : (e.0 ≡ f.0) ⊎ (e.0 ≢ f.0) → item_at e.0 es ≡ Some e.1 → item_at e.0 (f ∷ es) ≡ Some e.1
    by (inl q) r = let a = member-map (λ (e : ℕ × X). e.0) es e m in let b = member-not_apart (ids es) f.0 (subst (λ j. Member j (ids es)) q a) in let c = d.0 in absurd (cc)
    by (inr n) r = rw (ne_eqb e.0 f.0 n) r

filter-other : (k : ℕ) (xs : List ℕ) → is_apart xs k ≡ true → filter (λ j. not (eqb k j)) xs ≡ xs
filter-other k xs h = filter-all (λ j. not (eqb k j)) xs (λ j m. on j m (cases_eq k j))
  where
    on : (j : ℕ) → Member j xs → (k ≡ j) ⊎ (k ≢ j) → not (eqb k j) ≡ true
    on j m (inl q) = let a = member-not_apart xs k (subst (λ i. Member i xs) (sym q) m) in absurd (cc)
    on j m (inr d) = rw (ne_eqb k j d) refl

-- what stands once is taken out at its place
pub remove-place : (k : ℕ) (xs : List ℕ) (p : ℕ) → AreDistinct xs → place_of k xs ≡ Some p → remove xs p ≡ filter (λ j. not (eqb k j)) xs
remove-place k [] p d h = absurd (cc)
remove-place k (x ∷ xs) p d h = by (cases_eq x k) (remove-place k xs)
  where
    by : (x ≡ k) ⊎ (x ≢ k) → ((q : ℕ) → AreDistinct xs → place_of k xs ≡ Some q → remove xs q ≡ filter (λ j. not (eqb k j)) xs) → remove (x ∷ xs) p ≡ filter (λ j. not (eqb k j)) (x ∷ xs)
    by (inl e) r =
        let a = rw (eq-eqb x k e) at h in
        let z : p ≡ 0 = cc in
        rw (z, eq-eqb k x (sym e)) (sym (filter-other k xs (subst (λ i. is_apart xs i ≡ true) e d.0)))
    by (inr n) r = step (place_of k xs) refl (rw (ne_eqb x k n) at h)
      where
        step : (o : Option ℕ) → place_of k xs ≡ o → option_map suc (place_of k xs) ≡ Some p → remove (x ∷ xs) p ≡ filter (λ j. not (eqb k j)) (x ∷ xs)
        step None e a = let b = rw e at a in absurd (cc)
        step (Some q) e a =
            let b = rw e at a in
            let z : p ≡ suc q = cc in
            rw (z, ne_eqb k x (λ i. n (sym i))) (ap (λ l. x ∷ l) (r q d.1 e))

-- an item goes, and its number from the list under its name
pub filed-removed : {X : Type 0} (name_of : X → List ℕ) (rows left : List (List ℕ × Row ℕ)) (items : List (ℕ × X)) (k p : ℕ) (x : X)
    → AreDistinct (ids items) → item_at k items ≡ Some x
    → ((n : List ℕ) → list_of n rows ≡ ids_where (λ y. bytes_eq n (name_of y)) items)
    → place_of k (list_of (name_of x) rows) ≡ Some p
    → list_of (name_of x) left ≡ remove (list_of (name_of x) rows) p
    → ((n : List ℕ) → n ≢ name_of x → list_of n left ≡ list_of n rows)
    → (n : List ℕ) → list_of n left ≡ ids_where (λ y. bytes_eq n (name_of y)) (without k items)
filed-removed {X} name_of rows left items k p x d there filed place removed others n = by (names n (name_of x))
  where
    by : (n ≡ name_of x) ⊎ (n ≢ name_of x) → list_of n left ≡ ids_where (λ y. bytes_eq n (name_of y)) (without k items)
    by (inl q) =
        let f = filed (name_of x) in
        let a = rw f at place in
        let b = rw f at removed in
        rw (where-without (λ y. bytes_eq n (name_of y)) k items, q)
        (b ∙ remove-place k (ids_where (λ y. bytes_eq (name_of x) (name_of y)) items) p (distinct-where (λ y. bytes_eq (name_of x) (name_of y)) items d) a)
    by (inr i) =
        let t = λ (y : X). bytes_eq n (name_of y) in
        others n i ∙ filed n ∙ sym (where-without t k items ∙ filter-other k (ids_where t items) (not_member-apart (ids_where t items) k (λ m. gone (where-member t k items m))))
      where
        gone : (e : ℕ × X) × (Member e items) × (bytes_eq n (name_of e.1) ≡ true) × (e.0 ≡ k) → ⊥
        gone f =
            let a = rw f.3 at (item-once f.0 items d f.1) in
            let b : f.0.1 ≡ x = cc in
            let c = f.2 in
            i (same-names n (name_of x) (ap (λ (y : X). bytes_eq n (name_of y)) (sym b) ∙ c))

-- ## places

pub place-at : (k : ℕ) (xs : List ℕ) (at : ℕ) → is_apart (take at xs) k ≡ true → slice_get xs at ≡ Some k → place_of k xs ≡ Some at
place-at k [] at a h = absurd (cc)
place-at k (x ∷ xs) zero a h = let e : x ≡ k = cc in rw (eq-eqb x k e) refl
place-at k (x ∷ xs) (suc at) a h = by (cases_eq x k) (place-at k xs at)
  where
    by : (x ≡ k) ⊎ (x ≢ k) → (is_apart (take at xs) k ≡ true → slice_get xs at ≡ Some k → place_of k xs ≡ Some at) → place_of k (x ∷ xs) ≡ Some (suc at)
    by (inl e) r = let b = member-not_apart (x ∷ take at xs) k (inl e) in absurd (cc)
    by (inr n) r = rw (ne_eqb x k n, r (not_member-apart (take at xs) k (λ m. let b = member-not_apart (x ∷ take at xs) k (inr m) in absurd (cc))) h) refl

pub apart-more : (k : ℕ) (xs : List ℕ) (x : ℕ) → is_apart xs k ≡ true → x ≢ k → is_apart (xs ++ x ∷ []) k ≡ true
apart-more k [] x a n = rw (ne_eqb x k n) refl
apart-more k (y ∷ ys) x a n = by (cases_eq y k) (apart-more k ys x)
  where
    by : (y ≡ k) ⊎ (y ≢ k) → (is_apart ys k ≡ true → x ≢ k → is_apart (ys ++ x ∷ []) k ≡ true) → is_apart (y ∷ (ys ++ x ∷ [])) k ≡ true
    by (inl e) r = let b = member-not_apart (y ∷ ys) k (inl e) in absurd (cc)
    by (inr m) r = not_member-apart (y ∷ (ys ++ x ∷ [])) k (λ i. on i)
      where
        on : ((y ≡ k) ⊎ Member k (ys ++ x ∷ [])) → ⊥
        on (inl e) = m e
        on (inr i) = let c = r (not_member-apart ys k (λ j. let b = member-not_apart (y ∷ ys) k (inr j) in absurd (cc))) n in let e = member-not_apart (ys ++ x ∷ []) k i in absurd (cc)

-- ## ends

pub produced-sorts : (w : ℕ) (end : End) (items : List (ℕ × WireItem)) → AreDistinct (ids items) → wires_of (produced w end items) ≡ wires_of items
produced-sorts w end items d = by (item_at w items) refl
  where
    by : (o : Option WireItem) → item_at w items ≡ o → wires_of (produced w end items) ≡ wires_of items
    by None e = rw e refl
    by (Some x) e = rw (e, map-with (λ (i : WireItem). i.sort) w _ items)
        (with-same w x.sort (wires_of items) (rw (ids-map (λ (i : WireItem). i.sort) items) d) (item-map (λ (i : WireItem). i.sort) w items ∙ ap (option_map (λ (i : WireItem). i.sort)) e))

pub consumed-sorts : (w : ℕ) (end : End) (items : List (ℕ × WireItem)) → AreDistinct (ids items) → wires_of (consumed w end items) ≡ wires_of items
consumed-sorts w end items d = by (item_at w items) refl
  where
    by : (o : Option WireItem) → item_at w items ≡ o → wires_of (consumed w end items) ≡ wires_of items
    by None e = rw e refl
    by (Some x) e = rw (e, map-with (λ (i : WireItem). i.sort) w _ items)
        (with-same w x.sort (wires_of items) (rw (ids-map (λ (i : WireItem). i.sort) items) d) (item-map (λ (i : WireItem). i.sort) w items ∙ ap (option_map (λ (i : WireItem). i.sort)) e))

-- ## room

pub rooms-pushed : (name : List ℕ) (rows more : List (List ℕ × Row ℕ)) → room_of name more + 1 ≡ room_of name rows → ((n : List ℕ) → n ≢ name → room_of n more ≡ room_of n rows) → (n : List ℕ)
    → room_of n rows ≤ room_of n more + 1
rooms-pushed name rows more h others n = by (names n name)
  where
    by : (n ≡ name) ⊎ (n ≢ name) → room_of n rows ≤ room_of n more + 1
    by (inl q) = rw q (omega arith)
    by (inr d) = let x = others n d in omega arith
