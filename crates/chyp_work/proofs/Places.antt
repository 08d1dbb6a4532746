-- Numbers and places.
use Rattle.std.proofs.Common.{ℕ, zero, suc, ◌+◌, ◌<◌, ◌≡◌, ◌≢◌, Bool, true, false, cond, eqb, List, [], ◌∷◌, ◌++◌, length, map, filter, Option, Some, slice_get, slice_index, ◌⊎◌, inl, inr}
use Rattle.std.proofs.Common.{refl, sym, ◌∙◌, ap, subst, arith, eq-eqb, ne_eqb}
use Rattle.std.specs.List.{filter_map, zip}
use Rattle.std.specs.Option.{unwrap_or}
use Rattle.std.proofs.lemmas.Bool.{cases_eq}
use Rattle.chyp_term.specs.Perm.{count_from}
use Rattle.chyp_term.specs.Positions.{is_apart, place_of}
use Rattle.chyp_term.proofs.Inverses.{place-found}
use Rattle.chyp_term.proofs.Members.{Member, get-member, map-member, member-map, member-not_apart, not_member-apart}
use Rattle.chyp_store.specs.Items.{AreDistinct, ids}
use Rattle.chyp_work.specs.Net.{place_in}
use Rattle.chyp_work.proofs.Nets.{index-place}

-- ## what stays, by places

pub kept-items : {A Y : Type 0} (g : ℕ → Option Y) (f : A → Y) (at : ℕ → Bool) (test : A → Bool) (items : List A) (k : ℕ)
    → ((i : ℕ) (e : A) → slice_get items i ≡ Some e → (g (k + i) ≡ Some (f e)) × (at (k + i) ≡ test e))
    → filter_map g (filter at (count_from k (length items))) ≡ map f (filter test items)
kept-items g f at test [] k h = refl
kept-items {A} {Y} g f at test (e ∷ es) k h =
    let z : k + 0 ≡ k = omega arith in
    let a = rw z at (h 0 e refl) in
    by (test e) refl a.0 a.1 (kept-items g f at test es (suc k) (λ i x q. let s : k + suc i ≡ suc k + i = omega arith in rw s at (h (suc i) x q)))
  where
    by : (b : Bool) → test e ≡ b → g k ≡ Some (f e) → at k ≡ test e → filter_map g (filter at (count_from (suc k) (length es))) ≡ map f (filter test es)
        → filter_map g (cond (at k) (k ∷ filter at (count_from (suc k) (length es))) (filter at (count_from (suc k) (length es)))) ≡ map f (cond (test e) (e ∷ filter test es) (filter test es))
    by true t x y r = rw (y, t, x) (ap (λ l. f e ∷ l) r)
    by false t x y r = rw (y, t) r

pub kept-length : {A : Type 0} (at : ℕ → Bool) (test : A → Bool) (items : List A) (k : ℕ) → ((i : ℕ) (e : A) → slice_get items i ≡ Some e → at (k + i) ≡ test e)
    → length (filter at (count_from k (length items))) ≡ length (filter test items)
kept-length at test [] k h = refl
kept-length {A} at test (e ∷ es) k h =
    let z : k + 0 ≡ k = omega arith in
    by (test e) refl (rw z at (h 0 e refl)) (kept-length at test es (suc k) (λ i x q. let s : k + suc i ≡ suc k + i = omega arith in rw s at (h (suc i) x q)))
  where
    by : (b : Bool) → test e ≡ b → at k ≡ test e → length (filter at (count_from (suc k) (length es))) ≡ length (filter test es)
        → length (cond (at k) (k ∷ filter at (count_from (suc k) (length es))) (filter at (count_from (suc k) (length es)))) ≡ length (cond (test e) (e ∷ filter test es) (filter test es))
    by true t y r = rw (y, t) (ap suc r)
    by false t y r = rw (y, t) r

-- ## places among distinct numbers

pub place-distinct : {X : Type 0} (items : List (ℕ × X)) (i : ℕ) (e : ℕ × X) → AreDistinct (ids items) → slice_get items i ≡ Some e → place_of e.0 (ids items) ≡ Some i
place-distinct [] i e d h = absurd (cc)
place-distinct (f ∷ fs) zero e d h = let q : f ≡ e = cc in rw (← q, eq-eqb f.0 f.0 refl) refl
place-distinct {X} (f ∷ fs) (suc i) e d h = by (cases_eq f.0 e.0) (place-distinct fs i e d.1 h)
  where
    by : (f.0 ≡ e.0) ⊎ (f.0 ≢ e.0) → place_of e.0 (ids fs) ≡ Some i → place_of e.0 (f.0 ∷ ids fs) ≡ Some (suc i)
    by (inl q) r =
        let a = member-map (λ (e : ℕ × X). e.0) fs e (get-member fs i e h) in
        let b = member-not_apart (ids fs) f.0 (subst (λ j. Member j (ids fs)) (sym q) a) in
        let c = d.0 in absurd (cc)
    by (inr n) r = rw (ne_eqb f.0 e.0 n, r) refl

pub place-of-index : (vs : List ℕ) (j : ℕ) → AreDistinct vs → j < length vs → place_of (slice_index vs j) vs ≡ Some j
place-of-index [] j d h = absurd (omega arith)
place-of-index (v ∷ vs) zero d h = rw (eq-eqb v v refl) refl
place-of-index (v ∷ vs) (suc j) d h = by (cases_eq v (slice_index vs j)) (place-of-index vs j d.1 (omega arith))
  where
    by : (v ≡ slice_index vs j) ⊎ (v ≢ slice_index vs j) → place_of (slice_index vs j) vs ≡ Some j → place_of (slice_index vs j) (v ∷ vs) ≡ Some (suc j)
    by (inl q) r =
        let a = place-found (slice_index vs j) vs j r in
        let b = member-not_apart vs v (subst (λ i. Member i vs) (sym q) (get-member vs j (slice_index vs j) a)) in
        let c = d.0 in absurd (cc)
    by (inr n) r = rw (ne_eqb v (slice_index vs j) n, r) refl

pub place-behind : (w : ℕ) (xs ys : List ℕ) (j : ℕ) → is_apart xs w ≡ true → place_of w ys ≡ Some j → place_of w (xs ++ ys) ≡ Some (length xs + j)
place-behind w [] ys j a h = let z : 0 + j ≡ j = omega arith in rw z h
place-behind w (x ∷ xs) ys j a h = by (cases_eq x w) (place-behind w xs ys j)
  where
    by : (x ≡ w) ⊎ (x ≢ w) → (is_apart xs w ≡ true → place_of w ys ≡ Some j → place_of w (xs ++ ys) ≡ Some (length xs + j)) → place_of w (x ∷ (xs ++ ys)) ≡ Some (suc (length xs) + j)
    by (inl q) r = let b = member-not_apart (x ∷ xs) w (inl q) in absurd (cc)
    by (inr n) r =
        let b = r (not_member-apart xs w (λ m. let c = member-not_apart (x ∷ xs) w (inr m) in absurd (cc))) h in
        let z : suc (length xs + j) ≡ suc (length xs) + j = omega arith in
        rw (ne_eqb x w n, b) (ap (λ i. Some i) z)

-- the place, among what stays, of what stays
pub place-kept : {X : Type 0} (at : ℕ → Bool) (test : ℕ × X → Bool) (rest : List ℕ) (items : List (ℕ × X)) (k i : ℕ) (e : ℕ × X) → AreDistinct (ids items)
    → ((j : ℕ) (f : ℕ × X) → slice_get items j ≡ Some f → at (k + j) ≡ test f) → slice_get items i ≡ Some e → test e ≡ true
    → place_of e.0 (ids (filter test items) ++ rest) ≡ Some (length (filter at (count_from k i)))
place-kept at test rest [] k i e d h g t = absurd (cc)
place-kept at test rest (f ∷ fs) k zero e d h g t =
    let q : f ≡ e = cc in
    rw (q, t, eq-eqb e.0 e.0 refl) refl
place-kept {X} at test rest (f ∷ fs) k (suc i) e d h g t =
    let z : k + 0 ≡ k = omega arith in
    by (cases_eq f.0 e.0) (test f) refl (rw z at (h 0 f refl)) (place-kept at test rest fs (suc k) i e d.1 (λ j x q. let s : k + suc j ≡ suc k + j = omega arith in rw s at (h (suc j) x q)) g t)
  where
    by : (f.0 ≡ e.0) ⊎ (f.0 ≢ e.0) → (b : Bool) → test f ≡ b → at k ≡ test f → place_of e.0 (ids (filter test fs) ++ rest) ≡ Some (length (filter at (count_from (suc k) i)))
        → place_of e.0 (ids (cond (test f) (f ∷ filter test fs) (filter test fs)) ++ rest) ≡ Some (length (cond (at k) (k ∷ filter at (count_from (suc k) i)) (filter at (count_from (suc k) i))))
    by (inl q) b u y r =
        let a = member-map (λ (e : ℕ × X). e.0) fs e (get-member fs i e g) in
        let b = member-not_apart (ids fs) f.0 (subst (λ j. Member j (ids fs)) (sym q) a) in
        let c = d.0 in absurd (cc)
    by (inr n) true u y r = rw (y, u, ne_eqb f.0 e.0 n, r) refl
    by (inr n) false u y r = rw (y, u) r

-- ## images by numbers, and by places

same-apart : (xs ys : List ℕ) (a b : ℕ) → (Member a xs → Member b ys) → (Member b ys → Member a xs) → is_apart xs a ≡ is_apart ys b
same-apart xs ys a b f g = by (is_apart xs a) (is_apart ys b) refl refl
  where
    by : (s t : Bool) → is_apart xs a ≡ s → is_apart ys b ≡ t → is_apart xs a ≡ is_apart ys b
    by true true p q = p ∙ sym q
    by false false p q = p ∙ sym q
    by true false p q = absurd (no (is_apart ys b) refl)
      where
        no : (t : Bool) → is_apart ys b ≡ t → ⊥
        no t e = let h = not_member-apart ys b (λ m. let x = member-not_apart xs a (g m) in absurd (cc)) in absurd (cc)
    by false true p q = let h = not_member-apart xs a (λ m. let x = member-not_apart ys b (f m) in absurd (cc)) in absurd (cc)

pub apart-places : {X : Type 0} (items : List (ℕ × X)) (ws : List ℕ) → AreDistinct (ids items) → ((w : ℕ) → Member w ws → Member w (ids items))
    → (i : ℕ) (e : ℕ × X) → slice_get items i ≡ Some e → is_apart (map (place_in (ids items)) ws) i ≡ is_apart ws e.0
apart-places {X} items ws d within i e g = same-apart (map (place_in (ids items)) ws) ws i e.0 back there
  where
    place : place_in (ids items) e.0 ≡ i
    place = ap (λ (o : Option ℕ). unwrap_or o 0) (place-distinct items i e d g)

    back : Member i (map (place_in (ids items)) ws) → Member e.0 ws
    back m =
        let a = map-member (place_in (ids items)) ws i m in
        let b = index-place (ids items) a.0 (within a.0 a.1) in
        let c = index-place (ids items) e.0 (member-map (λ (e : ℕ × X). e.0) items e (get-member items i e g)) in
        let q : a.0 ≡ e.0 = sym b ∙ ap (slice_index (ids items)) (a.2 ∙ sym place) ∙ c in
        subst (λ j. Member j ws) q a.1

    there : Member e.0 ws → Member i (map (place_in (ids items)) ws)
    there m = subst (λ j. Member j (map (place_in (ids items)) ws)) place (member-map (place_in (ids items)) ws e.0 m)

pub index-map : (f : ℕ → ℕ) (ws : List ℕ) (v : ℕ) → v < length ws → slice_index (map f ws) v ≡ f (slice_index ws v)
index-map f [] v h = absurd (omega arith)
index-map f (w ∷ ws) zero h = refl
index-map f (w ∷ ws) (suc v) h = index-map f ws v (omega arith)

pub index-member : (ws : List ℕ) (v : ℕ) → v < length ws → Member (slice_index ws v) ws
index-member [] v h = absurd (omega arith)
index-member (w ∷ ws) zero h = inl refl
index-member (w ∷ ws) (suc v) h = inr (index-member ws v (omega arith))

pub place-images : (ks ws inner : List ℕ) (w : ℕ) → ((v : ℕ) → Member v ws → Member v ks) → ((v : ℕ) → Member v inner → v < length ws) → Member w ks
    → place_of (place_in ks w) (map (slice_index (map (place_in ks) ws)) inner) ≡ place_of w (map (slice_index ws) inner)
place-images ks ws [] w within below m = refl
place-images ks ws (v ∷ vs) w within below m =
    let r = place-images ks ws vs w within (λ u n. below u (inr n)) m in
    let e = index-map (place_in ks) ws v (below v (inl refl)) in
    rw (e, r, same (cases_eq (slice_index ws v) w)) refl
  where
    a : slice_index ks (place_in ks (slice_index ws v)) ≡ slice_index ws v
    a = index-place ks (slice_index ws v) (within (slice_index ws v) (index-member ws v (below v (inl refl))))

    b : slice_index ks (place_in ks w) ≡ w
    b = index-place ks w m

    same : (slice_index ws v ≡ w) ⊎ (slice_index ws v ≢ w) → eqb (place_in ks (slice_index ws v)) (place_in ks w) ≡ eqb (slice_index ws v) w
    same (inl q) = eq-eqb (place_in ks (slice_index ws v)) (place_in ks w) (ap (place_in ks) q) ∙ sym (eq-eqb (slice_index ws v) w q)
    same (inr n) = ne_eqb (place_in ks (slice_index ws v)) (place_in ks w) (λ q. n (sym a ∙ ap (slice_index ks) q ∙ b)) ∙ sym (ne_eqb (slice_index ws v) w n)

pub ids-zip : {X : Type 0} (vs : List ℕ) (xs : List X) → length vs ≡ length xs → ids (zip vs xs) ≡ vs
ids-zip [] xs h = refl
ids-zip (v ∷ vs) [] h = absurd (omega arith)
ids-zip (v ∷ vs) (x ∷ xs) h = ap (λ l. v ∷ l) (ids-zip vs xs (omega arith))

pub items-zip : {X : Type 0} (vs : List ℕ) (xs : List X) → length vs ≡ length xs → map (λ e. e.1) (zip vs xs) ≡ xs
items-zip [] [] h = refl
items-zip [] (x ∷ xs) h = absurd (omega arith)
items-zip (v ∷ vs) [] h = absurd (omega arith)
items-zip (v ∷ vs) (x ∷ xs) h = ap (λ l. x ∷ l) (items-zip vs xs (omega arith))
