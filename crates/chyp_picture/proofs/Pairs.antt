-- Sums over the unordered pairs of a list.
use Rattle.std.proofs.Common.{◌≡◌, ℕ, zero, suc, ◌+◌, ◌*◌, ◌<◌, ◌≤◌, List, [], ◌∷◌, ◌++◌, length, map, drop, get_or, sum_by, arith, refl, ap, ◌∙◌}
use Rattle.std.specs.List.{AllPairs}
use Rattle.std.specs.List.Sorted.{IsPermutation}
use Rattle.std.proofs.Math.Path.{fun_ext}
use Rattle.std.proofs.lemmas.List.{drop_more}
use Rattle.std.proofs.lemmas.List.Sums.{sum_by-cons, sum_by-append}
use Rattle.std.proofs.lemmas.List.Sorted.{sum_by-IsPermutation}
use Rattle.chyp_picture.specs.Crossings.{sum_of_pairs}

module _ {X : Type 0} where
  -- two functions that agree have one sum
  pub sum_by-same : (f g : X → ℕ) → ((x : X) → f x ≡ g x) → (xs : List X) → sum_by f xs ≡ sum_by g xs
  sum_by-same f g h xs = ap (λ k. sum_by k xs) (fun_ext h)

  pub sum_by-plus : (f g : X → ℕ) (xs : List X) → sum_by (λ x. f x + g x) xs ≡ sum_by f xs + sum_by g xs
  sum_by-plus f g [] = refl
  sum_by-plus f g (x ∷ xs) = omega (arith, sum_by-cons (λ x. f x + g x) x xs, sum_by-cons f x xs, sum_by-cons g x xs, sum_by-plus f g xs)

  pub sum_by-zero : (xs : List X) → sum_by (λ x. 0) xs ≡ 0
  sum_by-zero [] = refl
  sum_by-zero (x ∷ xs) = omega (arith, sum_by-cons (λ x. 0) x xs, sum_by-zero xs)

  pub sum_by-one : (xs : List X) → sum_by (λ x. 1) xs ≡ length xs
  sum_by-one [] = refl
  sum_by-one (x ∷ xs) = omega (arith, sum_by-cons (λ x. 1) x xs, sum_by-one xs)

  pub sum_by-map : {Y : Type 0} (f : X → Y) (w : Y → ℕ) (xs : List X) → sum_by w (map f xs) ≡ sum_by (λ x. w (f x)) xs
  sum_by-map f w [] = refl
  sum_by-map f w (x ∷ xs) = omega (arith, sum_by-cons w (f x) (map f xs), sum_by-cons (λ x. w (f x)) x xs, sum_by-map f w xs)

  -- each pair of two lists
  abbrev pub sum_between : (w : X → X → ℕ) → List X → List X → ℕ
  sum_between w xs ys = sum_by (λ x. sum_by (w x) ys) xs

  pub sum_between-cons : (w : X → X → ℕ) (xs ys : List X) (y : X) → sum_between w xs (y ∷ ys) ≡ sum_by (λ x. w x y) xs + sum_between w xs ys
  sum_between-cons w xs ys y = sum_by-same _ _ (λ x. sum_by-cons (w x) y ys) xs ∙ sum_by-plus (λ x. w x y) (λ x. sum_by (w x) ys) xs

  -- the pairs of two lists together are those of each and those between them
  pub sum_of_pairs-append : (w : X → X → ℕ) (xs ys : List X) → sum_of_pairs w (xs ++ ys) ≡ sum_of_pairs w xs + sum_of_pairs w ys + sum_between w xs ys
  sum_of_pairs-append w [] ys = omega arith
  sum_of_pairs-append w (x ∷ xs) ys =
      omega (arith, sum_by-append (w x) xs ys, sum_of_pairs-append w xs ys, sum_by-cons (λ x. sum_by (w x) ys) x xs)

  -- a symmetric weight that is 0 at equal elements: each pair stands twice in the sum over all
  pub sum_between-twice : (w : X → X → ℕ) → ((x y : X) → w x y ≡ w y x) → ((x : X) → w x x ≡ 0) → (xs : List X) → sum_between w xs xs ≡ 2 * sum_of_pairs w xs
  sum_between-twice w both none [] = refl
  sum_between-twice w both none (x ∷ xs) =
      omega (
        arith,
        sum_by-cons (λ y. sum_by (w y) (x ∷ xs)) x xs,
        sum_by-cons (w x) x xs,
        none x,
        sum_between-cons w xs xs x,
        sum_by-same (λ y. w y x) (w x) (λ y. both y x) xs,
        sum_between-twice w both none xs,
      )

  pub sum_between-permutation : (w : X → X → ℕ) (xs ys zs : List X) → IsPermutation xs ys → sum_between w ys zs ≡ sum_between w xs zs
  sum_between-permutation w xs ys zs p = sum_by-IsPermutation (λ x. sum_by (w x) zs) xs ys p

  pub sum_between-permutations : (w : X → X → ℕ) (xs ys zs vs : List X) → IsPermutation xs ys → IsPermutation zs vs → sum_between w ys vs ≡ sum_between w xs zs
  sum_between-permutations w xs ys zs vs p q = sum_by-IsPermutation (λ x. sum_by (w x) vs) xs ys p ∙ sum_by-same _ _ (λ x. sum_by-IsPermutation (w x) zs vs q) xs

  -- the sum over pairs doesn't depend on the order of the list
  pub sum_of_pairs-permutation : (w : X → X → ℕ) → ((x y : X) → w x y ≡ w y x) → ((x : X) → w x x ≡ 0) → (xs ys : List X) → IsPermutation xs ys → sum_of_pairs w ys ≡ sum_of_pairs w xs
  sum_of_pairs-permutation w both none xs ys p =
      omega (arith, sum_between-twice w both none xs, sum_between-twice w both none ys, sum_between-permutations w xs ys xs ys p p)

  -- weights that agree at each pair have one sum
  pub sum_by-all : (f g : X → ℕ) (xs : List X) → ((k : ℕ) (d : X) → k < length xs → f (get_or xs k d) ≡ g (get_or xs k d)) → sum_by f xs ≡ sum_by g xs
  sum_by-all f g [] h = refl
  sum_by-all f g (x ∷ xs) h =
      omega (arith, sum_by-cons f x xs, sum_by-cons g x xs, h zero x (omega arith), sum_by-all f g xs (λ k d lt. h (suc k) d (omega arith)))

  pub sum_of_pairs-same : (v w : X → X → ℕ) (xs : List X) → AllPairs (λ x y. v x y ≡ w x y) xs → sum_of_pairs v xs ≡ sum_of_pairs w xs
  sum_of_pairs-same v w [] h = refl
  sum_of_pairs-same v w (x ∷ xs) h =
      omega (
        arith,
        sum_by-all (v x) (w x) xs (λ k d lt. h zero (suc k) d (omega arith) (omega arith)),
        sum_of_pairs-same v w xs (λ i j d lt within. h (suc i) (suc j) d (omega arith) (omega arith)),
      )

  pub sum_of_pairs-zero : (xs : List X) → sum_of_pairs (λ x y. 0) xs ≡ 0
  sum_of_pairs-zero [] = refl
  sum_of_pairs-zero (x ∷ xs) = omega (arith, sum_by-zero xs, sum_of_pairs-zero xs)

  pub sum_of_pairs-map : {Y : Type 0} (f : X → Y) (w : Y → Y → ℕ) (xs : List X) → sum_of_pairs w (map f xs) ≡ sum_of_pairs (λ x y. w (f x) (f y)) xs
  sum_of_pairs-map f w [] = refl
  sum_of_pairs-map f w (x ∷ xs) = omega (arith, sum_by-map f (w (f x)) xs, sum_of_pairs-map f w xs)

  pub sum_by-most : (f g : X → ℕ) (m : ℕ) (xs : List X) → ((k : ℕ) (d : X) → k < length xs → f (get_or xs k d) ≤ m * g (get_or xs k d)) → sum_by f xs ≤ m * sum_by g xs
  sum_by-most f g m [] h = omega arith
  sum_by-most f g m (x ∷ xs) h =
      rw (sum_by-cons g x xs) (omega (arith, sum_by-cons f x xs, h zero x (omega arith), sum_by-most f g m xs (λ k d lt. h (suc k) d (omega arith))))

  -- where the weight of a pair is at most the product of two sizes, twice the sum is at most the square of the sum of sizes
  pub sum_of_pairs-most : (w : X → X → ℕ) (size : X → ℕ) (xs : List X) → AllPairs (λ x y. w x y ≤ size x * size y) xs → 2 * sum_of_pairs w xs ≤ sum_by size xs * sum_by size xs
  sum_of_pairs-most w size [] h = omega arith
  sum_of_pairs-most w size (x ∷ xs) h =
      let one = sum_by-most (w x) size (size x) xs (λ k d lt. h zero (suc k) d (omega arith) (omega arith)) in
      let rest = sum_of_pairs-most w size xs (λ i j d lt within. h (suc i) (suc j) d (omega arith) (omega arith)) in
      rw (sum_by-cons size x xs) (square_of_sum (size x) (sum_by size xs) (sum_by (w x) xs) (sum_of_pairs w xs) one rest)
    where
      square_of_sum : (a s one rest : ℕ) → one ≤ a * s → 2 * rest ≤ s * s → 2 * (one + rest) ≤ (a + s) * (a + s)
      square_of_sum a s one rest h k = omega (arith, h, k)

  -- the pairs of what is left from a place on
  pub sum_of_pairs-drop : (w : X → X → ℕ) (xs : List X) (i : ℕ) (d : X) → i < length xs
      → sum_of_pairs w (drop i xs) ≡ sum_by (w (get_or xs i d)) (drop (i + 1) xs) + sum_of_pairs w (drop (i + 1) xs)
  sum_of_pairs-drop w xs i d h = rw (drop_more xs i d h) refl
