-- Items of lists; numbers among others.
use Rattle.std.proofs.Common.{[], ℕ, zero, suc, ◌+◌, ◌<◌, ◌≡◌, Bool, true, false, not, cond, eqb, List, ◌∷◌, ◌++◌, map, length, filter, flat_map, Option, Some, None, option_map, slice_get}
use Rattle.std.proofs.Common.{slice_index, ◌⊎◌, inl, inr, refl, sym, ◌∙◌, ap, ap₂, subst, arith, eq-eqb, ◌≤◌, length-append, All, get_or}
use Rattle.std.specs.List.{list_all, cons_option}
use Rattle.std.proofs.lemmas.Bool.{and_parts, and_from, cases_Bool}
use Rattle.std.specs.Prelude.{Contains, slice_index_or}
use Rattle.chyp_term.specs.Perm.{IsPermutation, count_from, permuted}
use Rattle.chyp_term.specs.Positions.{is_among, is_apart, is_there, place_of}
use Rattle.chyp_term.proofs.Closure.{get-index, index-get}
use Rattle.chyp_term.proofs.Inverses.{get-count0, place-found}
use Rattle.chyp_term.proofs.Permuted.{get-append_left, get-append_right}
use Rattle.chyp_term.proofs.Positions.{slice_get-length}
use Rattle.chyp_term.proofs.Rearrangement.{Rearr, end, join, skip, turn}
use Rattle.chyp_term.proofs.Deciding.{Decided, decided-by, decide-true}

-- x is an item of the list
abbrev pub Member : {A : Type 0} → A → List A → Type 0
Member x [] = ⊥
Member x (y ∷ ys) = (y ≡ x) ⊎ Member x ys

pub member-left : {A : Type 0} (xs ys : List A) (x : A) → Member x xs → Member x (xs ++ ys)
member-left [] ys x h = absurd h
member-left (y ∷ xs) ys x (inl e) = inl e
member-left (y ∷ xs) ys x (inr h) = inr (member-left xs ys x h)

pub member-right : {A : Type 0} (xs ys : List A) (x : A) → Member x ys → Member x (xs ++ ys)
member-right [] ys x h = h
member-right (y ∷ xs) ys x h = inr (member-right xs ys x h)

pub member-split : {A : Type 0} (xs ys : List A) (x : A) → Member x (xs ++ ys) → (Member x xs) ⊎ (Member x ys)
member-split [] ys x h = inr h
member-split (y ∷ xs) ys x (inl e) = inl (inl e)
member-split (y ∷ xs) ys x (inr h) = more (member-split xs ys x h)
  where
    more : (Member x xs) ⊎ (Member x ys) → ((y ≡ x) ⊎ Member x xs) ⊎ (Member x ys)
    more (inl h) = inl (inr h)
    more (inr h) = inr h

pub member-map : {A B : Type 0} (f : A → B) (xs : List A) (x : A) → Member x xs → Member (f x) (map f xs)
member-map f [] x h = absurd h
member-map f (y ∷ xs) x (inl e) = inl (ap f e)
member-map f (y ∷ xs) x (inr h) = inr (member-map f xs x h)

pub map-member : {A B : Type 0} (f : A → B) (xs : List A) (y : B) → Member y (map f xs) → (x : A) × (Member x xs) × (f x ≡ y)
map-member f [] y h = absurd h
map-member f (x ∷ xs) y (inl e) = (x, inl refl, e)
map-member f (x ∷ xs) y (inr h) = let k = map-member f xs y h in (k.0, inr k.1, k.2)

pub member-flat : {A B : Type 0} (f : A → List B) (xs : List A) (x : A) (y : B) → Member x xs → Member y (f x) → Member y (flat_map f xs)
member-flat f [] x y h k = absurd h
member-flat f (z ∷ xs) x y (inl e) k = member-left (f z) (flat_map f xs) y (subst (λ w. Member y (f w)) (sym e) k)
member-flat f (z ∷ xs) x y (inr h) k = member-right (f z) (flat_map f xs) y (member-flat f xs x y h k)

pub flat-member : {A B : Type 0} (f : A → List B) (xs : List A) (y : B) → Member y (flat_map f xs) → (x : A) × (Member x xs) × (Member y (f x))
flat-member f [] y h = absurd h
flat-member {A} f (x ∷ xs) y h = go (member-split (f x) (flat_map f xs) y h) (λ k. flat-member f xs y k)
  where
    go : (Member y (f x)) ⊎ (Member y (flat_map f xs)) → (Member y (flat_map f xs) → (z : A) × (Member z xs) × (Member y (f z))) → (z : A) × (Member z (x ∷ xs)) × (Member y (f z))
    go (inl k) ih = (x, inl refl, k)
    go (inr k) ih = let r = ih k in (r.0, inr r.1, r.2)

pub member-filter : {A : Type 0} (p : A → Bool) (xs : List A) (x : A) → Member x xs → p x ≡ true → Member x (filter p xs)
member-filter p [] x h e = absurd h
member-filter p (y ∷ xs) x (inl q) e = go (p y) (ap p q ∙ e)
  where
    go : (b : Bool) → b ≡ true → Member x (cond b (y ∷ filter p xs) (filter p xs))
    go true k = inl q
    go false k = cc
member-filter p (y ∷ xs) x (inr h) e = go (p y) (member-filter p xs x h e)
  where
    go : (b : Bool) → Member x (filter p xs) → Member x (cond b (y ∷ filter p xs) (filter p xs))
    go true k = inr k
    go false k = k

pub filter-member : {A : Type 0} (p : A → Bool) (xs : List A) (x : A) → Member x (filter p xs) → (Member x xs) × (p x ≡ true)
filter-member p [] x h = absurd h
filter-member p (y ∷ xs) x h = go (cases_Bool (p y)) (λ k. filter-member p xs x k)
  where
    on : (p y ≡ true) → (Member x (filter p xs) → (Member x xs) × (p x ≡ true)) → (y ≡ x) ⊎ Member x (filter p xs) → ((y ≡ x) ⊎ Member x xs) × (p x ≡ true)
    on b ih (inl e) = (inl e, ap p (sym e) ∙ b)
    on b ih (inr k) = let r = ih k in (inr r.0, r.1)

    go : (p y ≡ true) ⊎ (p y ≡ false) → (Member x (filter p xs) → (Member x xs) × (p x ≡ true)) → ((y ≡ x) ⊎ Member x xs) × (p x ≡ true)
    go (inl b) ih = on b ih (subst (λ c. Member x (cond c (y ∷ filter p xs) (filter p xs))) b h)
    go (inr b) ih = let r = ih (subst (λ c. Member x (cond c (y ∷ filter p xs) (filter p xs))) b h) in (inr r.0, r.1)

-- a test that every item passes keeps the list
pub filter-all : {A : Type 0} (p : A → Bool) (xs : List A) → ((x : A) → Member x xs → p x ≡ true) → filter p xs ≡ xs
filter-all p [] h = refl
filter-all p (x ∷ xs) h = rw (h x (inl refl)) (ap (λ r. x ∷ r) (filter-all p xs (λ y k. h y (inr k))))

-- a test that no item passes keeps none
pub filter-none : {A : Type 0} (p : A → Bool) (xs : List A) → ((x : A) → Member x xs → p x ≡ false) → filter p xs ≡ []
filter-none p [] h = refl
filter-none p (x ∷ xs) h = rw (h x (inl refl)) (filter-none p xs (λ y k. h y (inr k)))

pub map-same_on : {A B : Type 0} (f g : A → B) (xs : List A) → ((x : A) → Member x xs → f x ≡ g x) → map f xs ≡ map g xs
map-same_on f g [] h = refl
map-same_on f g (x ∷ xs) h = ap₂ (λ a r. a ∷ r) (h x (inl refl)) (map-same_on f g xs (λ y k. h y (inr k)))

pub member-get : {A : Type 0} (xs : List A) (x : A) → Member x xs → (i : ℕ) × (slice_get xs i ≡ Some x)
member-get [] x h = absurd h
member-get (y ∷ xs) x (inl e) = (0, ap (λ z. Some z) e)
member-get (y ∷ xs) x (inr h) = let r = member-get xs x h in (suc r.0, r.1)

pub get-member : {A : Type 0} (xs : List A) (i : ℕ) (x : A) → slice_get xs i ≡ Some x → Member x xs
get-member [] i x e = cc
get-member (y ∷ xs) zero x e = inl cc
get-member (y ∷ xs) (suc i) x e = inr (get-member xs i x e)

pub all-members : (p : ℕ → Bool) (xs : List ℕ) → ((x : ℕ) → Member x xs → p x ≡ true) → list_all p xs ≡ true
all-members p [] h = refl
all-members p (x ∷ xs) h = and_from _ _ (h x (inl refl)) (all-members p xs (λ y k. h y (inr k)))

pub members-all : (p : ℕ → Bool) (xs : List ℕ) → list_all p xs ≡ true → (x : ℕ) → Member x xs → p x ≡ true
members-all p [] e x h = absurd h
members-all p (y ∷ xs) e x (inl q) = ap p (sym q) ∙ (and_parts (p y) (list_all p xs) e).0
members-all p (y ∷ xs) e x (inr h) = members-all p xs (and_parts (p y) (list_all p xs) e).1 x h

pub member-among : (ks : List ℕ) (w : ℕ) → Member w ks → is_among ks w ≡ true
member-among [] w h = absurd h
member-among (k ∷ ks) w (inl e) = rw (eq-eqb k w e) refl
member-among (k ∷ ks) w (inr h) = go (eqb k w) (member-among ks w h)
  where
    there : (o : Option ℕ) → is_there (option_map suc o) ≡ is_there o
    there None = refl
    there (Some j) = refl

    go : (b : Bool) → is_there (place_of w ks) ≡ true → is_there (cond b (Some 0) (option_map suc (place_of w ks))) ≡ true
    go true e = refl
    go false e = there (place_of w ks) ∙ e

pub among-member : (ks : List ℕ) (w : ℕ) → is_among ks w ≡ true → Member w ks
among-member ks w e = go (place_of w ks) refl e
  where
    go : (o : Option ℕ) → place_of w ks ≡ o → is_there o ≡ true → Member w ks
    go None q e = cc
    go (Some j) q e = get-member ks j w (place-found w ks j q)

pub member-not_apart : (ks : List ℕ) (w : ℕ) → Member w ks → is_apart ks w ≡ false
member-not_apart ks w h = ap not (member-among ks w h)

pub not_member-apart : (ks : List ℕ) (w : ℕ) → (Member w ks → ⊥) → is_apart ks w ≡ true
not_member-apart ks w n = go (cases_Bool (is_among ks w))
  where
    go : (is_among ks w ≡ true) ⊎ (is_among ks w ≡ false) → is_apart ks w ≡ true
    go (inl e) = absurd (n (among-member ks w e))
    go (inr e) = ap not e

pub Rearr-member : {A : Type 0} {xs ys : List A} (x : A) → Rearr xs ys → Member x xs → Member x ys
Rearr-member x end h = h
Rearr-member x (skip y r) (inl e) = inl e
Rearr-member x (skip y r) (inr h) = inr (Rearr-member x r h)
Rearr-member x (turn y z xs) (inl e) = inr (inl e)
Rearr-member x (turn y z xs) (inr (inl e)) = inl e
Rearr-member x (turn y z xs) (inr (inr h)) = inr (inr h)
Rearr-member x (join r q) h = Rearr-member x q (Rearr-member x r h)

-- the numbers below n
pub below-member : (n w : ℕ) → w < n → Member w (count_from 0 n)
below-member n w h = get-member (count_from 0 n) w w (get-count0 n w h)

pub member-below : (n w : ℕ) → Member w (count_from 0 n) → w < n
member-below n w h = let r = go 0 n h in omega arith
  where
    go : (k n : ℕ) → Member w (count_from k n) → w < k + n
    go k zero h = absurd h
    go k (suc n) (inl e) = omega arith
    go k (suc n) (inr h) = let r = go (suc k) n h in omega arith

-- the lists of a permutation in two parts are apart
pub parts-apart : (n : ℕ) (xs ys : List ℕ) → IsPermutation n (xs ++ ys) → (w : ℕ) → Member w xs → Member w ys → ⊥
parts-apart n xs ys t w h k =
    let i = member-get xs w h in
    let j = member-get ys w k in
    let a : slice_get (xs ++ ys) i.0 ≡ Some w = get-append_left xs ys i.0 (slice_get-length xs i.0 w i.1) ∙ i.1 in
    let b : slice_get (xs ++ ys) (length xs + j.0) ≡ Some w = get-append_right xs ys j.0 ∙ j.1 in
    let il = slice_get-length xs i.0 w i.1 in
    let al = slice_get-length (xs ++ ys) i.0 w a in
    let bl = slice_get-length (xs ++ ys) (length xs + j.0) w b in
    let size = t.size in
    let e : i.0 ≡ length xs + j.0 = t.apart i.0 (length xs + j.0) (omega arith) (omega arith) (index-get (xs ++ ys) i.0 w a ∙ sym (index-get (xs ++ ys) (length xs + j.0) w b)) in
    omega arith

-- the first part has each of its items once
pub place-first : (n : ℕ) (xs ys : List ℕ) → IsPermutation n (xs ++ ys) → (i : ℕ) → i < length xs → place_of (slice_index xs i) xs ≡ Some i
place-first n xs ys t i h = go (place_of (slice_index xs i) xs) refl
  where
    w : ℕ
    w = slice_index xs i

    there : Member (slice_index xs i) xs
    there = get-member xs i (slice_index xs i) (get-index xs i h)

    go : (o : Option ℕ) → place_of (slice_index xs i) xs ≡ o → place_of (slice_index xs i) xs ≡ Some i
    go None q = let r = member-among xs (slice_index xs i) there in let s : is_among xs (slice_index xs i) ≡ false = ap is_there q in cc
    go (Some j) q =
        let f : slice_get xs j ≡ Some (slice_index xs i) = place-found (slice_index xs i) xs j q in
        let jl = slice_get-length xs j (slice_index xs i) f in
        let a : slice_get (xs ++ ys) i ≡ Some (slice_index xs i) = get-append_left xs ys i h ∙ get-index xs i h in
        let b : slice_get (xs ++ ys) j ≡ Some (slice_index xs i) = get-append_left xs ys j jl ∙ f in
        let al = slice_get-length (xs ++ ys) i (slice_index xs i) a in
        let bl = slice_get-length (xs ++ ys) j (slice_index xs i) b in
        let size = t.size in
        let e : j ≡ i = t.apart j i (omega arith) (omega arith) (index-get (xs ++ ys) j (slice_index xs i) b ∙ sym (index-get (xs ++ ys) i (slice_index xs i) a)) in
        q ∙ ap (λ k. Some k) e

-- std's word for the same
pub member-Contains : {A : Type 0} (xs : List A) (x : A) → Member x xs → Contains xs x
member-Contains [] x h = absurd h
member-Contains (y ∷ xs) x (inl e) = (0, omega arith, e)
member-Contains (y ∷ xs) x (inr h) = let r = member-Contains xs x h in let l = r.1 in (suc r.0, omega arith, r.2)

pub Contains-member : {A : Type 0} (xs : List A) (x : A) → Contains xs x → Member x xs
Contains-member {A} xs x h = go xs h.0 h.1 h.2
  where
    go : (xs : List A) (k : ℕ) → k < length xs → slice_index_or xs k x ≡ x → Member x xs
    go [] k l e = absurd (omega arith)
    go (y ∷ xs) zero l e = inl e
    go (y ∷ xs) (suc k) l e = inr (go xs k (omega arith) e)

pub All-from_get_members : {A : Type 0} {P : A → Type 0} (xs : List A) → ((x : A) → Member x xs → P x) → All P xs
All-from_get_members {P = P} [] f = λ k d h. absurd (omega arith)
All-from_get_members {A} {P} (x ∷ xs) f = λ k d h. go (All-from_get_members {P = P} xs (λ y m. f y (inr m))) k d h
  where
    go : All P xs → (k : ℕ) (d : A) → k < length (x ∷ xs) → P (get_or (x ∷ xs) k d)
    go a zero d h = f x (inl refl)
    go a (suc k) d h = a k d (omega arith)

pub All-members : {P : ℕ → Type 0} (xs : List ℕ) → ((x : ℕ) → Member x xs → P x) → All P xs
All-members xs f = All-from_get_members xs f

pub le-flat : {A : Type 0} (f : A → List ℕ) (xs : List A) (x : A) → Member x xs → length (f x) ≤ length (flat_map f xs)
le-flat f [] x h = absurd h
le-flat f (y ∷ xs) x (inl e) = let a = length-append (f y) (flat_map f xs) in let b : length (f y) ≡ length (f x) = ap (λ z. length (f z)) e in omega arith
le-flat f (y ∷ xs) x (inr h) = let a = length-append (f y) (flat_map f xs) in let b = le-flat f xs x h in omega arith

pub member-permuted : {A : Type 0} (xs : List A) (ks : List ℕ) (k : ℕ) (x : A) → Member k ks → slice_get xs k ≡ Some x → Member x (permuted xs ks)
member-permuted xs [] k x h e = absurd h
member-permuted {A} xs (j ∷ ks) k x h e = go (slice_get xs j) refl h (λ m. member-permuted xs ks k x m e)
  where
    go : (o : Option A) → slice_get xs j ≡ o → (j ≡ k) ⊎ Member k ks → (Member k ks → Member x (permuted xs ks)) → Member x (cons_option o (permuted xs ks))
    go None q (inl f) ih = let z : slice_get xs j ≡ Some x = ap (slice_get xs) f ∙ e in cc
    go None q (inr m) ih = ih m
    go (Some y) q (inl f) ih = let z : slice_get xs j ≡ Some x = ap (slice_get xs) f ∙ e in inl cc
    go (Some y) q (inr m) ih = inr (ih m)

pub permuted-member : {A : Type 0} (xs : List A) (ks : List ℕ) (x : A) → Member x (permuted xs ks) → (k : ℕ) × (Member k ks) × (slice_get xs k ≡ Some x)
permuted-member xs [] x h = absurd h
permuted-member {A} xs (k ∷ ks) x h = go (slice_get xs k) refl h (λ m. permuted-member xs ks x m)
  where
    go : (o : Option A) → slice_get xs k ≡ o → Member x (cons_option o (permuted xs ks))
        → (Member x (permuted xs ks) → (j : ℕ) × (Member j ks) × (slice_get xs j ≡ Some x)) → (j : ℕ) × (Member j (k ∷ ks)) × (slice_get xs j ≡ Some x)
    go None q m ih = let r = ih m in (r.0, inr r.1, r.2)
    go (Some y) q (inl e) ih = (k, inl refl, q ∙ ap (λ z. Some z) e)
    go (Some y) q (inr m) ih = let r = ih m in (r.0, inr r.1, r.2)

pub decide-member : (w : ℕ) (ks : List ℕ) → Decided (Member w ks)
decide-member w ks = decided-by (λ e. among-member ks w e) (λ h. member-among ks w h) (decide-true (is_among ks w))

-- some item has a decided property, or none has it
pub decide-some : {A : Type 0} (P : A → Type 0) → ((x : A) → Decided (P x)) → (xs : List A) → Decided ((x : A) × (Member x xs) × P x)
decide-some P d [] = inr (λ r. r.1)
decide-some {A} P d (x ∷ xs) = go (d x) (decide-some P d xs)
  where
    neither : (P x → ⊥) → ((y : A) × (Member y xs) × P y → ⊥) → (y : A) → (x ≡ y) ⊎ Member y xs → P y → ⊥
    neither n m y (inl e) p = n (subst P (sym e) p)
    neither n m y (inr h) p = m (y, h, p)

    go : Decided (P x) → Decided ((y : A) × (Member y xs) × P y) → Decided ((y : A) × (Member y (x ∷ xs)) × P y)
    go (inl p) r = inl (x, inl refl, p)
    go (inr n) (inl (y, h, p)) = inl (y, inr h, p)
    go (inr n) (inr m) = inr (λ r. neither n m r.0 r.1 r.2)
