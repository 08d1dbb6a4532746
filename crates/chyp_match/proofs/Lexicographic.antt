-- Lists of numbers in lexicographic order, and those that begin with another.
use Rattle.std.proofs.Common.{ℕ, zero, suc, ◌+◌, ◌*◌, ◌-◌, ◌<◌, ◌≤◌, ◌≡◌, List, [], ◌∷◌, ◌++◌, length, Some, slice_get, ◌⊎◌, inl, inr, refl, sym, ◌∙◌, ap, arith}
use Rattle.std.specs.List.{AllByRecursion}
use Rattle.std.proofs.lemmas.Bool.{cases_lt}
use Rattle.std.proofs.Math.Nat.{mul-le-mul_right}
use Rattle.chyp_pattern.specs.Occurrences.{IsLess}
use Rattle.chyp_match.specs.Search.{BeginsWith}

-- ## one number more

-- the number at the place behind the list
pub IsNext : List ℕ → List ℕ → ℕ → Type 0
IsNext xs ns y = slice_get xs (length ns) ≡ Some y

pub less-more : (xs ns ms : List ℕ) → IsLess xs ns → IsLess xs (ns ++ ms)
less-more [] [] ms a = absurd a
less-more [] (n ∷ ns) ms a = tt
less-more (x ∷ xs) [] ms a = absurd a
less-more (x ∷ xs) (n ∷ ns) ms (inl a) = inl a
less-more (x ∷ xs) (n ∷ ns) ms (inr a) = inr (a.0, less-more xs ns ms a.1)

pub begins-less : (xs ns : List ℕ) (x y : ℕ) → BeginsWith ns xs → slice_get xs (length ns) ≡ Some y → y < x → IsLess xs (ns ++ x ∷ [])
begins-less [] [] x y b e l = cc
begins-less (z ∷ xs) [] x y b e l = let q : z ≡ y = cc in inl (omega arith)
begins-less [] (n ∷ ns) x y b e l = absurd b
begins-less (z ∷ xs) (n ∷ ns) x y b e l = inr (sym b.0, begins-less xs ns x y b.1 e l)

pub less-split : (xs ns : List ℕ) (x : ℕ) → length ns < length xs → IsLess xs (ns ++ x ∷ []) → IsLess xs ns ⊎ (BeginsWith ns xs × ((y : ℕ) × (slice_get xs (length ns) ≡ Some y) × (y < x)))
less-split [] ns x l a = absurd (omega arith)
less-split (z ∷ xs) [] x l (inl a) = inr (tt, (z, refl, a))
less-split (z ∷ []) [] x l (inr a) = absurd a.1
less-split (z ∷ y ∷ xs) [] x l (inr a) = absurd a.1
less-split (z ∷ xs) (n ∷ ns) x l (inl a) = inl (inl a)
less-split (z ∷ xs) (n ∷ ns) x l (inr a) = go (less-split xs ns x (omega arith) a.1)
  where
    go : IsLess xs ns ⊎ (BeginsWith ns xs × ((y : ℕ) × (slice_get xs (length ns) ≡ Some y) × (y < x)))
        → IsLess (z ∷ xs) (n ∷ ns) ⊎ (BeginsWith (n ∷ ns) (z ∷ xs) × ((y : ℕ) × (slice_get (z ∷ xs) (length (n ∷ ns)) ≡ Some y) × (y < x)))
    go (inl b) = inl (inr (a.0, b))
    go (inr b) = inr ((sym a.0, b.0), b.1)

pub begins-split : (xs ns : List ℕ) (x : ℕ) → BeginsWith (ns ++ x ∷ []) xs → BeginsWith ns xs × (slice_get xs (length ns) ≡ Some x)
begins-split [] [] x b = absurd b
begins-split [] (n ∷ ns) x b = absurd b
begins-split (z ∷ xs) [] x b = (tt, ap (λ v. Some v) (sym b.0))
begins-split (z ∷ xs) (n ∷ ns) x b = let r = begins-split xs ns x b.1 in ((b.0, r.0), r.1)

pub begins-join : (xs ns : List ℕ) (x : ℕ) → BeginsWith ns xs → slice_get xs (length ns) ≡ Some x → BeginsWith (ns ++ x ∷ []) xs
begins-join [] [] x b e = cc
begins-join [] (n ∷ ns) x b e = absurd b
begins-join (z ∷ xs) [] x b e = let q : z ≡ x = cc in (sym q, tt)
begins-join (z ∷ xs) (n ∷ ns) x b e = (b.0, begins-join xs ns x b.1 e)

pub begins-more : (ns ms xs : List ℕ) → BeginsWith (ns ++ ms) xs → BeginsWith ns xs
begins-more [] ms xs b = tt
begins-more (n ∷ ns) ms [] b = absurd b
begins-more (n ∷ ns) ms (x ∷ xs) b = (b.0, begins-more ns ms xs b.1)

pub less-cut : (ns ms xs : List ℕ) → IsLess xs (ns ++ ms) → IsLess xs ns ⊎ BeginsWith ns xs
less-cut [] ms xs a = inr tt
less-cut (n ∷ ns) ms [] a = inl tt
less-cut (n ∷ ns) ms (x ∷ xs) (inl a) = inl (inl a)
less-cut (n ∷ ns) ms (x ∷ xs) (inr a) = go (less-cut ns ms xs a.1)
  where
    go : IsLess xs ns ⊎ BeginsWith ns xs → IsLess (x ∷ xs) (n ∷ ns) ⊎ BeginsWith (n ∷ ns) (x ∷ xs)
    go (inl b) = inl (inr (a.0, b))
    go (inr b) = inr (sym a.0, b)

-- a list that begins with all of another of its length is that
pub begins-all : (ns xs : List ℕ) → length ns ≡ length xs → BeginsWith ns xs → xs ≡ ns
begins-all [] [] l b = refl
begins-all [] (x ∷ xs) l b = absurd (omega arith)
begins-all (n ∷ ns) [] l b = absurd b
begins-all (n ∷ ns) (x ∷ xs) l b = let r = begins-all ns xs (omega arith) b.1 in let e = b.0 in cc

pub begins-self : (ns : List ℕ) → BeginsWith ns ns
begins-self [] = tt
begins-self (n ∷ ns) = (refl, begins-self ns)

-- ## the order

pub less-trans : (xs ys zs : List ℕ) → IsLess xs ys → IsLess ys zs → IsLess xs zs
less-trans [] [] zs a b = absurd a
less-trans [] (y ∷ ys) [] a b = absurd b
less-trans [] (y ∷ ys) (z ∷ zs) a b = tt
less-trans (x ∷ xs) [] zs a b = absurd a
less-trans (x ∷ xs) (y ∷ ys) [] a b = absurd b
less-trans (x ∷ xs) (y ∷ ys) (z ∷ zs) (inl a) (inl b) = inl (omega arith)
less-trans (x ∷ xs) (y ∷ ys) (z ∷ zs) (inl a) (inr b) = let e = b.0 in inl (omega arith)
less-trans (x ∷ xs) (y ∷ ys) (z ∷ zs) (inr a) (inl b) = let e = a.0 in inl (omega arith)
less-trans (x ∷ xs) (y ∷ ys) (z ∷ zs) (inr a) (inr b) = inr (a.0 ∙ b.0, less-trans xs ys zs a.1 b.1)

pub less-self : (xs : List ℕ) → IsLess xs xs → ⊥
less-self [] a = a
less-self (x ∷ xs) (inl a) = omega arith
less-self (x ∷ xs) (inr a) = less-self xs a.1

-- one of two lists of one length comes first, or they are the same
pub data Compared (xs ys : List ℕ) : Type 0 where
  before : IsLess xs ys → Compared xs ys
  same : xs ≡ ys → Compared xs ys
  behind : IsLess ys xs → Compared xs ys

pub compare : (xs ys : List ℕ) → length xs ≡ length ys → Compared xs ys
compare [] [] l = same refl
compare [] (y ∷ ys) l = absurd (omega arith)
compare (x ∷ xs) [] l = absurd (omega arith)
compare (x ∷ xs) (y ∷ ys) l = go (cases_lt x y) (cases_lt y x) (compare xs ys (omega arith))
  where
    go : (x < y) ⊎ (y ≤ x) → (y < x) ⊎ (x ≤ y) → Compared xs ys → Compared (x ∷ xs) (y ∷ ys)
    go (inl a) b c = before (inl a)
    go (inr a) (inl b) c = behind (inl b)
    go (inr a) (inr b) (before c) = before (inr (omega arith, c))
    go (inr a) (inr b) (same c) = let e : x ≡ y = omega arith in same (cc)
    go (inr a) (inr b) (behind c) = behind (inr (omega arith, c))

-- ## how many lists are left

-- an upper bound of the number of lists of at most m numbers below b that come behind one
most : ℕ → ℕ → ℕ
most b zero = 0
most b (suc m) = b * suc (most b m) + suc (most b m)

pub left : ℕ → ℕ → List ℕ → ℕ
left b m [] = most b m
left b zero (x ∷ xs) = 0
left b (suc m) (x ∷ xs) = (b - x) * suc (most b m) + left b m xs

left-most : (b m : ℕ) (xs : List ℕ) → left b m xs ≤ most b m
unfolding most left
left-most b m [] = omega arith
left-most b zero (x ∷ xs) = omega arith
left-most b (suc m) (x ∷ xs) =
    let r = left-most b m xs in
    let q = mul-le-mul_right {m = b - x} {n = b} (suc (most b m)) (omega arith) in
    omega arith

pub less-left : (b m : ℕ) (xs ys : List ℕ) → IsLess xs ys → length ys ≤ m → AllByRecursion (λ y. y < b) ys → left b m ys < left b m xs
unfolding most left
less-left b m [] [] a l s = absurd a
less-left b zero [] (y ∷ ys) a l s = absurd (omega arith)
less-left b (suc m) [] (y ∷ ys) a l s =
    let r = left-most b m ys in
    let q = mul-le-mul_right {m = b - y} {n = b} (suc (most b m)) (omega arith) in
    omega arith
less-left b m (x ∷ xs) [] a l s = absurd a
less-left b zero (x ∷ xs) (y ∷ ys) a l s = absurd (omega arith)
less-left b (suc m) (x ∷ xs) (y ∷ ys) (inl a) l s =
    let r = left-most b m ys in
    let below = s.0 in
    let q = mul-le-mul_right {m = suc (b - y)} {n = b - x} (suc (most b m)) (omega arith) in
    let e : suc (b - y) * suc (most b m) ≡ suc (most b m) + (b - y) * suc (most b m) = omega arith in
    omega arith
less-left b (suc m) (x ∷ xs) (y ∷ ys) (inr a) l s =
    let r = less-left b m xs ys a.1 (omega arith) s.1 in
    let e : (b - x) * suc (most b m) ≡ (b - y) * suc (most b m) = ap (λ z. (b - z) * suc (most b m)) a.0 in
    omega arith
