-- Lists in which no number stands twice.
use Rattle.std.proofs.Common.{ℕ, suc, ◌<◌, ◌≡◌, List, [], ◌∷◌, ◌++◌, length, map, flat_map, Option, Some, None, slice_index, ◌⊎◌, inl, inr, sym, ◌∙◌, ap, subst, refl, arith}
use Rattle.chyp_term.specs.Perm.{IsPermutation}
use Rattle.chyp_term.specs.Positions.{place_of}
use Rattle.chyp_term.proofs.Closure.{index-get}
use Rattle.chyp_term.proofs.Members.{Member, map-member, member-flat, member-get, member-map, member-not_apart, member-split, not_member-apart}
use Rattle.chyp_term.proofs.Positions.{slice_get-length, some-same}
use Rattle.chyp_store.specs.Items.{AreDistinct}
use Rattle.chyp_work.proofs.Nets.{none-absent}
use Rattle.chyp_work.proofs.Places.{place-of-index}
use Rattle.chyp_work.proofs.Rerouting.{distinct-apart, distinct-right}

pub apart-distinct : (xs : List ℕ) → ((i j : ℕ) → i < length xs → j < length xs → slice_index xs i ≡ slice_index xs j → i ≡ j) → AreDistinct xs
apart-distinct [] h = tt
apart-distinct (x ∷ xs) h = (
  not_member-apart xs x (λ m. let g = member-get xs x m in let l = slice_get-length xs g.0 x g.1 in
      let e : 0 ≡ suc g.0 = h 0 (suc g.0) (omega arith) (omega arith) (sym (index-get xs g.0 x g.1)) in absurd (omega arith)),
  apart-distinct xs (λ i j a b e. let q = h (suc i) (suc j) (omega arith) (omega arith) e in omega arith),
)

pub permutation-distinct : (n : ℕ) (p : List ℕ) → IsPermutation n p → AreDistinct p
permutation-distinct n p t = apart-distinct p (λ i j a b e. let s = t.size in t.apart i j (omega arith) (omega arith) e)

pub index-same : (ws : List ℕ) (i j : ℕ) → AreDistinct ws → i < length ws → j < length ws → slice_index ws i ≡ slice_index ws j → i ≡ j
index-same ws i j d a b e = some-same i j (sym (place-of-index ws i d a) ∙ ap (λ w. place_of w ws) e ∙ place-of-index ws j d b)

pub distinct-map : (f : ℕ → ℕ) (xs : List ℕ) → ((x y : ℕ) → Member x xs → Member y xs → f x ≡ f y → x ≡ y) → AreDistinct xs → AreDistinct (map f xs)
distinct-map f [] h d = tt
distinct-map f (x ∷ xs) h d = (
  not_member-apart (map f xs) (f x) (λ m. let y = map-member f xs (f x) m in
      let q : x ≡ y.0 = h x y.0 (inl refl) (inr y.1) (sym y.2) in
      let a = member-not_apart xs x (subst (λ z. Member z xs) (sym q) y.1) in
      let b = d.0 in absurd (cc)),
  distinct-map f xs (λ y z m n e. h y z (inr m) (inr n) e) d.1,
)

pub distinct-unmap : (f : ℕ → ℕ) (xs : List ℕ) → AreDistinct (map f xs) → AreDistinct xs
distinct-unmap f [] d = tt
distinct-unmap f (x ∷ xs) d = (
  not_member-apart xs x (λ m. let a = member-not_apart (map f xs) (f x) (member-map f xs x m) in let b = d.0 in absurd (cc)),
  distinct-unmap f xs d.1,
)

pub distinct-append : (xs ys : List ℕ) → AreDistinct xs → AreDistinct ys → ((w : ℕ) → Member w xs → Member w ys → ⊥) → AreDistinct (xs ++ ys)
distinct-append [] ys d e h = e
distinct-append (x ∷ xs) ys d e h = (
  not_member-apart (xs ++ ys) x (λ m. by (member-split xs ys x m)),
  distinct-append xs ys d.1 e (λ w m k. h w (inr m) k),
)
  where
    by : (Member x xs) ⊎ (Member x ys) → ⊥
    by (inl m) = let a = member-not_apart xs x m in let b = d.0 in absurd (cc)
    by (inr m) = h x (inl refl) m

-- where no number is listed twice, it is listed for one item alone
pub flat-once : {A : Type 0} (f : A → List ℕ) (xs : List A) → AreDistinct (flat_map f xs) → (x y : A) (w : ℕ) → Member x xs → Member y xs → Member w (f x) → Member w (f y) → x ≡ y
flat-once f [] d x y w m n a b = absurd m
flat-once {A} f (z ∷ zs) d x y w m n a b = by m n (flat-once f zs (distinct-right (f z) (flat_map f zs) d) x y w)
  where
    front : (u : A) → z ≡ u → Member w (f u) → Member w (f z)
    front u q k = subst (λ u. Member w (f u)) (sym q) k

    by : (z ≡ x) ⊎ Member x zs → (z ≡ y) ⊎ Member y zs → (Member x zs → Member y zs → Member w (f x) → Member w (f y) → x ≡ y) → x ≡ y
    by (inl p) (inl q) r = sym p ∙ q
    by (inl p) (inr q) r = absurd (distinct-apart (f z) (flat_map f zs) d w (front x p a) (member-flat f zs y w q b))
    by (inr p) (inl q) r = absurd (distinct-apart (f z) (flat_map f zs) d w (front y q b) (member-flat f zs x w p a))
    by (inr p) (inr q) r = r p q a b

pub member-place : (xs : List ℕ) (w : ℕ) → Member w xs → (i : ℕ) × (place_of w xs ≡ Some i)
member-place xs w m = by (place_of w xs) refl
  where
    by : (o : Option ℕ) → place_of w xs ≡ o → (i : ℕ) × (place_of w xs ≡ Some i)
    by None e = absurd (none-absent xs w e m)
    by (Some i) e = (i, e)
