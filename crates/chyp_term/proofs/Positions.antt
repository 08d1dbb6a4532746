-- Where numbers stand in lists of numbers, and the numbers below a bound that pass a test.
use Rattle.std.proofs.Common.{[], ℕ, zero, suc, ◌+◌, ◌<◌, ◌≤◌, ◌≡◌, Bool, true, false, not, cond, List, ◌∷◌, ◌++◌, map, length, filter, Option, Some, None, slice_get, slice_index, ◌⊎◌, inl}
use Rattle.std.proofs.Common.{inr, refl, sym, ◌∙◌, ap, ap₂, arith, add-zero, zero-add, add-suc, suc-add}
use Rattle.std.proofs.lemmas.List.Elements.{filter-append}
use Rattle.std.proofs.lemmas.Bool.{cases_lt}
use Rattle.chyp_term.specs.Perm.{count_from}
use Rattle.chyp_term.specs.Positions.{place_of, is_there, is_apart}
use Rattle.chyp_term.proofs.Permuted.{Under, get-append_left, get-append_right}
use Rattle.chyp_term.proofs.Counting.{count_from-push}

pub apart-none : (ks : List ℕ) (v : ℕ) → is_apart ks v ≡ true → place_of v ks ≡ None
apart-none ks v e = go (place_of v ks) e
  where
    go : (o : Option ℕ) → not (is_there o) ≡ true → o ≡ None
    go None e = refl
    go (Some j) e = cc

pub count_from-append : (k m n : ℕ) → count_from k (m + n) ≡ count_from k m ++ count_from (k + m) n
count_from-append k zero n = ap₂ count_from (sym (add-zero k)) (zero-add n)
count_from-append k (suc m) n = ap (count_from k) (suc-add m n) ∙ ap (λ r. k ∷ r) (count_from-append (suc k) m n ∙ ap (λ j. count_from (suc k) m ++ count_from j n) (suc-add k m ∙ sym (add-suc k m)))

-- the numbers below n that pass
abbrev pub upto : (ℕ → Bool) → ℕ → List ℕ
upto p n = filter p (count_from 0 n)

pub upto-suc : (p : ℕ → Bool) (n : ℕ) → upto p (suc n) ≡ upto p n ++ cond (p n) (n ∷ []) []
upto-suc p n = ap (filter p) (count_from-push 0 n ∙ ap (λ j. count_from 0 n ++ j ∷ []) (zero-add n)) ∙ filter-append p (count_from 0 n) (n ∷ [])

pub slice_get-length : {A : Type 0} (xs : List A) (k : ℕ) (x : A) → slice_get xs k ≡ Some x → k < length xs
slice_get-length [] k x e = cc
slice_get-length (y ∷ xs) zero x e = omega arith
slice_get-length (y ∷ xs) (suc k) x e = let h = slice_get-length xs k x e in omega arith

pub get-last : {A : Type 0} (xs : List A) (y : A) (ys : List A) → slice_get (xs ++ y ∷ ys) (length xs) ≡ Some y
get-last xs y ys = ap (slice_get (xs ++ y ∷ ys)) (sym (add-zero (length xs))) ∙ get-append_right xs (y ∷ ys) 0

pub kept-get : (p : ℕ → Bool) (n w : ℕ) → w < n → p w ≡ true → slice_get (upto p n) (length (upto p w)) ≡ Some w
kept-get p zero w h e = absurd (omega arith)
kept-get p (suc n) w h e = go (λ l. kept-get p n w l e) (cases_lt w n)
  where
    go : (w < n → slice_get (upto p n) (length (upto p w)) ≡ Some w) → (w < n) ⊎ (n ≤ w) → slice_get (upto p (suc n)) (length (upto p w)) ≡ Some w
    go ih (inl l) = rw (upto-suc p n) (get-append_left (upto p n) _ _ (slice_get-length _ _ w (ih l)) ∙ ih l)
    go ih (inr g) = let q : w ≡ n = omega arith in rw (upto-suc p n, ← q, e) (get-last (upto p w) w [])

pub Under-filter : (p : ℕ → Bool) (m k n : ℕ) → k + n ≤ m → Under m (filter p (count_from k n))
Under-filter p m k zero h = tt
Under-filter p m k (suc n) h = go (p k) (Under-filter p m (suc k) n (omega arith))
  where
    go : (b : Bool) → Under m (filter p (count_from (suc k) n)) → Under m (cond b (k ∷ filter p (count_from (suc k) n)) (filter p (count_from (suc k) n)))
    go true u = (omega arith, u)
    go false u = u

pub map-map : {U V W : Type 0} (f : V → W) (g : U → V) (xs : List U) → map f (map g xs) ≡ map (λ x. f (g x)) xs
map-map f g [] = refl
map-map f g (x ∷ xs) = ap (λ r. f (g x) ∷ r) (map-map f g xs)

pub map-index : (outs : List ℕ) (k : ℕ) (f : ℕ → ℕ) → ((j : ℕ) → j < length outs → f (k + j) ≡ slice_index outs j) → map f (count_from k (length outs)) ≡ outs
map-index [] k f h = refl
map-index (x ∷ outs) k f h = ap₂ (λ y r. y ∷ r) (ap f (sym (add-zero k)) ∙ h 0 (omega arith)) (map-index outs (suc k) f (λ j l. ap f (omega arith) ∙ h (suc j) (omega arith)))

pub map-id : (xs : List ℕ) → map (λ x. x) xs ≡ xs
map-id [] = refl
map-id (x ∷ xs) = ap (λ r. x ∷ r) (map-id xs)

pub some-same : {A : Type 0} (x y : A) → ◌≡◌ {A = Option A} (Some x) (Some y) → x ≡ y
some-same x y e = cc
