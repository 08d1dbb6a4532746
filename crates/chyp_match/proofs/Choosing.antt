-- The numbers of the items that pass a test, one by one.
use Rattle.std.proofs.Common.{ℕ, zero, suc, ◌+◌, ◌<◌, ◌≡◌, Bool, true, false, cond, List, [], ◌∷◌, ◌++◌, length, take, Some, slice_get, refl, ◌∙◌, ap, arith}
use Rattle.chyp_term.proofs.Slices.{take-suc}
use Rattle.chyp_match.specs.Listed.{ids_where, numbered_from}

module _ {T : Type 0} (test : T → Bool) where
  pub ids-push : (n : ℕ) (xs : List T) (x : T) → ids_where test (numbered_from n (xs ++ x ∷ [])) ≡ ids_where test (numbered_from n xs) ++ cond (test x) ((n + length xs) ∷ []) []
  ids-push n [] x = by (test x) refl
    where
      by : (b : Bool) → test x ≡ b → ids_where test (numbered_from n (x ∷ [])) ≡ cond (test x) ((n + 0) ∷ []) []
      by true e = rw e (ap (λ m. m ∷ []) (omega arith))
      by false e = rw e refl
  ids-push n (y ∷ ys) x = by (test y) refl (ids-push (suc n) ys x)
    where
      by : (b : Bool) → test y ≡ b → ids_where test (numbered_from (suc n) (ys ++ x ∷ [])) ≡ ids_where test (numbered_from (suc n) ys) ++ cond (test x) ((suc n + length ys) ∷ []) []
          → ids_where test (numbered_from n (y ∷ ys ++ x ∷ [])) ≡ ids_where test (numbered_from n (y ∷ ys)) ++ cond (test x) ((n + suc (length ys)) ∷ []) []
      by true e r =
          let q : suc n + length ys ≡ n + suc (length ys) = omega arith in
          rw e (ap (λ l. n ∷ l) (r ∙ ap (λ m. ids_where test (numbered_from (suc n) ys) ++ cond (test x) (m ∷ []) []) q))
      by false e r =
          let q : suc n + length ys ≡ n + suc (length ys) = omega arith in
          rw e (r ∙ ap (λ m. ids_where test (numbered_from (suc n) ys) ++ cond (test x) (m ∷ []) []) q)

  -- an item that passes the test adds its place, another one adds nothing
  pub ids-pass : (xs : List T) (k : ℕ) (x : T) → slice_get xs k ≡ Some x → test x ≡ true → length (take k xs) ≡ k
      → ids_where test (numbered_from 0 (take (k + 1) xs)) ≡ ids_where test (numbered_from 0 (take k xs)) ++ k ∷ []
  ids-pass xs k x at e l = ap (λ ys. ids_where test (numbered_from 0 ys)) (take-suc xs k x at) ∙ ids-push 0 (take k xs) x
      ∙ rw e (ap (λ m. ids_where test (numbered_from 0 (take k xs)) ++ m ∷ []) zeros)
    where
      zeros : 0 + length (take k xs) ≡ k
      zeros = omega arith

  pub ids-fail : (xs : List T) (k : ℕ) (x : T) → slice_get xs k ≡ Some x → test x ≡ false
      → ids_where test (numbered_from 0 (take (k + 1) xs)) ≡ ids_where test (numbered_from 0 (take k xs)) ++ []
  ids-fail xs k x at e = ap (λ ys. ids_where test (numbered_from 0 ys)) (take-suc xs k x at) ∙ ids-push 0 (take k xs) x ∙ rw e refl

  -- each of the numbers is the place of an item that passes the test
  pub ids-sound : (n : ℕ) (xs : List T) (j k : ℕ) → slice_get (ids_where test (numbered_from n xs)) j ≡ Some k → (i : ℕ) × (x : T) × (k ≡ n + i) × (slice_get xs i ≡ Some x) × (test x ≡ true)
  ids-sound n [] j k h = cc
  ids-sound n (x ∷ xs) j k h = by (test x) refl (λ i q. ids-sound (suc n) xs i k q)
    where
      later : (i : ℕ) × (y : T) × (k ≡ suc n + i) × (slice_get xs i ≡ Some y) × (test y ≡ true) → (i : ℕ) × (y : T) × (k ≡ n + i) × (slice_get (x ∷ xs) i ≡ Some y) × (test y ≡ true)
      later r = let e = r.2 in (suc r.0, r.1, omega arith, r.3, r.4)

      Rest : Type 0
      Rest = (i : ℕ) → slice_get (ids_where test (numbered_from (suc n) xs)) i ≡ Some k → (m : ℕ) × (y : T) × (k ≡ suc n + m) × (slice_get xs m ≡ Some y) × (test y ≡ true)

      first : (j : ℕ) → slice_get (n ∷ ids_where test (numbered_from (suc n) xs)) j ≡ Some k → test x ≡ true → Rest → (i : ℕ) × (y : T) × (k ≡ n + i) × (slice_get (x ∷ xs) i ≡ Some y)
          × (test y ≡ true)
      first zero q t r = let e : n ≡ k = cc in (0, x, omega arith, refl, t)
      first (suc j) q t r = later (r j q)

      by : (b : Bool) → test x ≡ b → Rest → (i : ℕ) × (y : T) × (k ≡ n + i) × (slice_get (x ∷ xs) i ≡ Some y) × (test y ≡ true)
      by true e r = first j (rw e at h) e r
      by false e r = later (r j (rw e at h))

  -- and each item that passes the test has its place among them
  pub ids-all : (n : ℕ) (xs : List T) (i : ℕ) (x : T) → slice_get xs i ≡ Some x → test x ≡ true → (j : ℕ) × (slice_get (ids_where test (numbered_from n xs)) j ≡ Some (n + i))
  ids-all n [] i x h t = cc
  ids-all n (y ∷ ys) zero x h t = let q : y ≡ x = cc in let e : test y ≡ true = ap test q ∙ t in (0, rw e (ap (λ m. Some m) (omega arith)))
  ids-all n (y ∷ ys) (suc i) x h t = by (test y) refl (ids-all (suc n) ys i x h t)
    where
      by : (b : Bool) → test y ≡ b → (j : ℕ) × (slice_get (ids_where test (numbered_from (suc n) ys)) j ≡ Some (suc n + i)) → (j : ℕ)
          × (slice_get (ids_where test (numbered_from n (y ∷ ys))) j ≡ Some (n + suc i))
      by true e r = let q : suc n + i ≡ n + suc i = omega arith in (suc r.0, rw e (r.1 ∙ ap (λ m. Some m) q))
      by false e r = let q : suc n + i ≡ n + suc i = omega arith in (r.0, rw e (r.1 ∙ ap (λ m. Some m) q))

  -- in order
  pub ids-increase : (n : ℕ) (xs : List T) (i j k l : ℕ) → i < j → slice_get (ids_where test (numbered_from n xs)) i ≡ Some k → slice_get (ids_where test (numbered_from n xs)) j ≡ Some l → k < l
  ids-increase n [] i j k l b p q = cc
  ids-increase n (x ∷ xs) i j k l b p q = by (test x) refl (λ m o c u v. ids-increase (suc n) xs m o k l c u v)
    where
      Rest : Type 0
      Rest = (i j : ℕ) → i < j → slice_get (ids_where test (numbered_from (suc n) xs)) i ≡ Some k → slice_get (ids_where test (numbered_from (suc n) xs)) j ≡ Some l → k < l

      first : (i j : ℕ) → i < j → slice_get (n ∷ ids_where test (numbered_from (suc n) xs)) i ≡ Some k → slice_get (n ∷ ids_where test (numbered_from (suc n) xs)) j ≡ Some l → Rest → k < l
      first i zero c u v r = absurd (omega arith)
      first zero (suc j) c u v r = let a = ids-sound (suc n) xs j l v in let e = a.2 in let f : n ≡ k = cc in omega arith
      first (suc i) (suc j) c u v r = r i j (omega arith) u v

      by : (b : Bool) → test x ≡ b → Rest → k < l
      by true e r = first i j b (rw e at p) (rw e at q) r
      by false e r = r i j b (rw e at p) (rw e at q)
