-- One item more of a list that is made or read in order.
use Rattle.std.proofs.Common.{ℕ, zero, suc, ◌+◌, ◌<◌, ◌≡◌, Bool, true, false, cond, List, [], ◌∷◌, ◌++◌, map, length, filter, take, get_or, Some, slice_get, refl, sym, ◌∙◌, ap, ap₂, arith}
use Rattle.std.specs.List.{enumerate_from}
use Rattle.std.proofs.lemmas.List.{map-append, length-take}
use Rattle.chyp_term.specs.Perm.{count_from}
use Rattle.chyp_term.proofs.Counting.{count_from-push}
use Rattle.chyp_term.proofs.Positions.{slice_get-length}
use Rattle.chyp_term.proofs.Slices.{take-suc}

-- a list made of numbers in order
pub numbered-more : {A : Type 0} (f : ℕ → A) (xs new : List A) (w : ℕ) (x : A) → xs ≡ map f (count_from 0 w) → new ≡ xs ++ x ∷ [] → x ≡ f w → new ≡ map f (count_from 0 (w + 1))
numbered-more f xs new w x e n q =
    let s : w + 1 ≡ suc w = omega arith in
    let z : 0 + w ≡ w = omega arith in
    n ∙ ap₂ (λ l y. l ++ y ∷ []) e q ∙ sym (ap (λ m. map f (count_from 0 m)) s ∙ ap (map f) (count_from-push 0 w) ∙ ap (λ v. map f (count_from 0 w ++ v ∷ [])) z
    ∙ map-append f (count_from 0 w) (w ∷ []))

pub enumerate-push : {A : Type 0} (n : ℕ) (xs : List A) (x : A) → enumerate_from n (xs ++ x ∷ []) ≡ enumerate_from n xs ++ (n + length xs, x) ∷ []
enumerate-push n [] x = let e : n ≡ n + 0 = omega arith in ap (λ m. (m, x) ∷ []) e
enumerate-push n (y ∷ xs) x =
    let e : n + 1 + length xs ≡ n + suc (length xs) = omega arith in
    ap (λ l. (n, y) ∷ l) (enumerate-push (n + 1) xs x ∙ ap (λ m. enumerate_from (n + 1) xs ++ (m, x) ∷ []) e)

-- the first items with their numbers, and the next
pub enumerate-take : {A : Type 0} (xs : List A) (i : ℕ) (x : A) → slice_get xs i ≡ Some x → enumerate_from 0 (take (i + 1) xs) ≡ enumerate_from 0 (take i xs) ++ (i, x) ∷ []
enumerate-take xs i x h =
    let l = slice_get-length xs i x h in
    let e : 0 + length (take i xs) ≡ i = omega (arith, length-take i xs) in
    ap (enumerate_from 0) (take-suc xs i x h) ∙ enumerate-push 0 (take i xs) x ∙ ap (λ m. enumerate_from 0 (take i xs) ++ (m, x) ∷ []) e

pub filter-push : {A : Type 0} (p : A → Bool) (xs : List A) (x : A) → filter p (xs ++ x ∷ []) ≡ filter p xs ++ cond (p x) (x ∷ []) []
filter-push p [] x = go (p x)
  where
    go : (b : Bool) → cond b (x ∷ []) [] ≡ cond b (x ∷ []) []
    go b = refl
filter-push {A} p (y ∷ xs) x = go (p y) (filter-push p xs x)
  where
    go : (b : Bool) → filter p (xs ++ x ∷ []) ≡ filter p xs ++ cond (p x) (x ∷ []) []
        → cond b (y ∷ filter p (xs ++ x ∷ [])) (filter p (xs ++ x ∷ [])) ≡ cond b (y ∷ filter p xs) (filter p xs) ++ cond (p x) (x ∷ []) []
    go true e = ap (λ l. y ∷ l) e
    go false e = e

-- an item that is read with a default that isn't needed
pub get-read : {A : Type 0} (xs : List A) (i : ℕ) (d : A) → i < length xs → slice_get xs i ≡ Some (get_or xs i d)
get-read [] i d h = absurd (omega arith)
get-read (x ∷ xs) zero d h = refl
get-read (x ∷ xs) (suc i) d h = get-read xs i d (omega arith)
