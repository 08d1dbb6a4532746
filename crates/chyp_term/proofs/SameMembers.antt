-- Lists of numbers with the same members.
use Rattle.std.proofs.Common.{[], ℕ, zero, suc, ◌+◌, ◌<◌, ◌≡◌, List, ◌∷◌, ◌++◌, map, length, Some, slice_get, slice_index, ◌⊎◌, inl, inr, refl, sym, ◌∙◌, ap, subst, arith, add-zero, append-nil}
use Rattle.std.proofs.Common.{true, not, Option, None, eq-eqb, false, option_map}
use Rattle.std.specs.List.{AllByRecursion}
use Rattle.std.specs.Prelude.{Contains, slice_index_or}
use Rattle.std.proofs.lemmas.Bool.{cases_Bool}
use Rattle.chyp_term.specs.Perm.{count_from}
use Rattle.chyp_term.specs.Positions.{place_of, is_there, is_apart}
use Rattle.chyp_term.proofs.Closure.{get-index}
use Rattle.chyp_term.proofs.Distinct.{place-off}
use Rattle.chyp_term.proofs.Inverses.{get-count0, place-found}
use Rattle.chyp_term.proofs.Positions.{apart-none}
use Rattle.chyp_term.proofs.Members.{Member, Rearr-member}
use Rattle.chyp_term.proofs.Rearrangement.{Rearr, end, skip, join, Rearr-sym, Rearr-middle, Rearr-same}
use Rattle.chyp_term.proofs.Permuted.{get-map}
use Rattle.chyp_term.proofs.Apart.{Apart, Rearr-Apart}

pub member-all : {A : Type 0} (P : A → Type 0) (xs : List A) (w : A) → AllByRecursion P xs → Member w xs → P w
member-all P [] w a h = absurd h
member-all P (x ∷ xs) w a (inl e) = subst P e a.0
member-all P (x ∷ xs) w a (inr h) = member-all P xs w a.1 h

pub all-member : {A : Type 0} (P : A → Type 0) (xs : List A) → ((w : A) → Member w xs → P w) → AllByRecursion P xs
all-member P [] f = tt
all-member P (x ∷ xs) f = (f x (inl refl), all-member P xs (λ w h. f w (inr h)))

-- an item stands between two parts of the list
pub cut_at : {A : Type 0} (xs : List A) (w : A) → Member w xs → (us : List A) × (vs : List A) × (xs ≡ us ++ w ∷ vs)
cut_at [] w h = absurd h
cut_at (x ∷ xs) w (inl e) = ([], xs, ap (λ z. z ∷ xs) e)
cut_at (x ∷ xs) w (inr h) = let f = cut_at xs w h in (x ∷ f.0, f.1, ap (λ z. x ∷ z) f.2)

-- lists of numbers that are apart and have the same members are the same in another order
pub rearr_members : (xs ys : List ℕ) → Apart xs → Apart ys → ((w : ℕ) → Member w xs → Member w ys) → ((w : ℕ) → Member w ys → Member w xs) → Rearr xs ys
rearr_members [] [] a b f g = end
rearr_members [] (y ∷ ys) a b f g = absurd (g y (inl refl))
rearr_members (x ∷ xs) ys a b f g =
    let c = cut_at ys x (f x (inl refl)) in
    let m : Rearr ys (x ∷ c.0 ++ c.1) = join (Rearr-same c.2) (Rearr-middle x c.0 c.1) in
    let d : Apart (x ∷ c.0 ++ c.1) = Rearr-Apart m b in
    join (skip x (rearr_members xs (c.0 ++ c.1) a.1 d.1
    (λ w h. rest x (c.0 ++ c.1) w (λ e. member-all (λ y. ¬ (x ≡ y)) xs w a.0 h e) (Rearr-member w m (f w (inr h))))
    (λ w h. rest x xs w (λ e. member-all (λ y. ¬ (x ≡ y)) (c.0 ++ c.1) w d.0 h e) (g w (Rearr-member w (Rearr-sym m) (inr h)))))) (Rearr-sym m)
  where
    rest : (x : ℕ) (zs : List ℕ) (w : ℕ) → ¬ (x ≡ w) → Member w (x ∷ zs) → Member w zs
    rest x zs w n (inl e) = absurd (n e)
    rest x zs w n (inr h) = h

pub member-count : (f : ℕ → ℕ) (k n i : ℕ) → i < n → Member (f (k + i)) (map f (count_from k n))
member-count f k zero i h = absurd (omega arith)
member-count f k (suc n) zero h = inl (ap f (sym (add-zero k)))
member-count f k (suc n) (suc i) h = inr (subst (λ z. Member (f z) (map f (count_from (suc k) n))) (omega arith) (member-count f (suc k) n i (omega arith)))

-- some of a list, brought to its end
pub take_out : (xs ys : List ℕ) → Apart xs → AllByRecursion (λ w. Member w ys) xs → (rest : List ℕ) × Rearr ys (rest ++ xs)
take_out [] ys a h = (ys, Rearr-same (sym (append-nil ys)))
take_out (x ∷ xs) ys a h =
    let c = cut_at ys x h.0 in
    let m : Rearr ys (x ∷ c.0 ++ c.1) = join (Rearr-same c.2) (Rearr-middle x c.0 c.1) in
    let r = take_out xs (c.0 ++ c.1) a.1 (go x ys (c.0 ++ c.1) m xs a.0 h.1) in
    (r.0, join m (join (skip x r.1) (Rearr-sym (Rearr-middle x r.0 xs))))
  where
    off : (x : ℕ) (zs : List ℕ) (w : ℕ) → ¬ (x ≡ w) → Member w (x ∷ zs) → Member w zs
    off x zs w n (inl e) = absurd (n e)
    off x zs w n (inr h) = h

    go : (x : ℕ) (ys zs : List ℕ) → Rearr ys (x ∷ zs) → (us : List ℕ) → AllByRecursion (λ y. ¬ (x ≡ y)) us → AllByRecursion (λ w. Member w ys) us
        → AllByRecursion (λ w. Member w zs) us
    go x ys zs m [] a h = tt
    go x ys zs m (u ∷ us) a h = (off x zs u a.0 (Rearr-member u m h.0), go x ys zs m us a.1 h.1)

-- ## members by their places

-- what has no place does not stand anywhere
pub none-not : (w : ℕ) (xs : List ℕ) (v : ℕ) → slice_get xs v ≡ Some w → place_of w xs ≡ None → ⊥
none-not w [] v e n = cc
none-not w (x ∷ xs) zero e n = let q : x ≡ w = cc in let r : place_of w (w ∷ xs) ≡ None = ap (λ z. place_of w (z ∷ xs)) (sym q) ∙ n in first w xs r
  where
    first : (w : ℕ) (xs : List ℕ) → place_of w (w ∷ xs) ≡ None → ⊥
    first w xs r = let f = (place-off w w xs r).0 in let t = eq-eqb w w refl in cc
none-not w (x ∷ xs) (suc v) e n = none-not w xs v e (place-off x w xs n).1

pub contains-all : (P : ℕ → Type 0) (xs : List ℕ) (w : ℕ) → AllByRecursion P xs → Contains xs w → P w
contains-all P xs w a c = go xs a c.0 c.1 c.2
  where
    go : (ys : List ℕ) → AllByRecursion P ys → (k : ℕ) → k < length ys → slice_index_or ys k w ≡ w → P w
    go [] a k h e = absurd (omega arith)
    go (y ∷ ys) a zero h e = subst P e a.0
    go (y ∷ ys) a (suc k) h e = go ys a.1 k (omega arith) e

pub contains-at : (xs : List ℕ) (w : ℕ) → Contains xs w → (v : ℕ) × (v < length xs) × (slice_index xs v ≡ w)
contains-at xs w c = let h = go xs c.0 c.1 c.2 in (c.0, c.1, h)
  where
    go : (ys : List ℕ) (k : ℕ) → k < length ys → slice_index_or ys k w ≡ w → slice_index ys k ≡ w
    go [] k h e = absurd (omega arith)
    go (y ∷ ys) zero h e = e
    go (y ∷ ys) (suc k) h e = go ys k (omega arith) e

pub contains-cons : (x : ℕ) (xs : List ℕ) (w : ℕ) → Contains xs w → Contains (x ∷ xs) w
contains-cons x xs w c = (suc c.0, omega arith, c.2)

pub get-contains : (xs : List ℕ) (v w : ℕ) → slice_get xs v ≡ Some w → Contains xs w
get-contains [] v w e = cc
get-contains (x ∷ xs) zero w e = (0, omega arith, cc)
get-contains (x ∷ xs) (suc v) w e = contains-cons x xs w (get-contains xs v w e)

pub count-contains : (f : ℕ → ℕ) (n i : ℕ) → i < n → Contains (map f (count_from 0 n)) (f i)
count-contains f n i h = get-contains (map f (count_from 0 n)) i (f i) (get-map f (count_from 0 n) i ∙ ap (option_map f) (get-count0 n i h))

pub image-contains : (ws : List ℕ) (w : ℕ) → is_apart ws w ≡ false → Contains ws w
image-contains ws w q = go (place_of w ws) refl
  where
    go : (o : Option ℕ) → place_of w ws ≡ o → Contains ws w
    go None e = let z : true ≡ false = sym (ap (λ o. not (is_there o)) e) ∙ q in cc
    go (Some v) e = get-contains ws v w (place-found w ws v e)

pub index-image : (ws : List ℕ) (v : ℕ) → v < length ws → is_apart ws (slice_index ws v) ≡ false
index-image ws v h = go (cases_Bool (is_apart ws (slice_index ws v)))
  where
    go : (is_apart ws (slice_index ws v) ≡ true) ⊎ (is_apart ws (slice_index ws v) ≡ false) → is_apart ws (slice_index ws v) ≡ false
    go (inl q) = absurd (none-not (slice_index ws v) ws v (get-index ws v h) (apart-none ws (slice_index ws v) q))
    go (inr q) = q
