-- Lists of numbers in lexicographic order.
use Rattle.std.proofs.Common.{[], ℕ, zero, suc, ◌<◌, List, ◌∷◌, map, flat_map, inl, inr, refl, arith}
use Rattle.std.specs.List.{AllByRecursion}
use Rattle.chyp_term.specs.Perm.{count_from}
use Rattle.chyp_term.proofs.Distinct.{all-append}
use Rattle.chyp_term.proofs.Members.{Member, below-member, member-flat, member-map}
use Rattle.chyp_term.proofs.Ordered.{all-each, Sorted-map, Sorted-append, Sorted}
use Rattle.chyp_pattern.specs.Occurrences.{IsLess}

-- no list is less than one that is less than it
pub less-anti : (xs ys : List ℕ) → IsLess xs ys → IsLess ys xs → ⊥
less-anti [] [] a b = a
less-anti [] (y ∷ ys) a b = b
less-anti (x ∷ xs) [] a b = a
less-anti (x ∷ xs) (y ∷ ys) (inl a) (inl b) = omega arith
less-anti (x ∷ xs) (y ∷ ys) (inl a) (inr b) = let e = b.0 in omega arith
less-anti (x ∷ xs) (y ∷ ys) (inr a) (inl b) = let e = a.0 in omega arith
less-anti (x ∷ xs) (y ∷ ys) (inr a) (inr b) = less-anti xs ys a.1 b.1

-- all lists with one number below each bound, in order
abbrev pub tuples : List ℕ → List (List ℕ)
tuples [] = [] ∷ []
tuples (m ∷ ms) = flat_map (λ x. map (λ c. x ∷ c) (tuples ms)) (count_from 0 m)

-- each number is below its bound
abbrev pub Within : List ℕ → List ℕ → Type 0
Within [] [] = Unit {0}
Within [] (x ∷ c) = ⊥
Within (m ∷ ms) [] = ⊥
Within (m ∷ ms) (x ∷ c) = (x < m) × Within ms c

-- a number less than those in front
pub behind : (cs : List (List ℕ)) (z : ℕ) (c : List ℕ) (k n : ℕ) → z < k → AllByRecursion (IsLess (z ∷ c)) (flat_map (λ x. map (λ c. x ∷ c) cs) (count_from k n))
behind cs z c k zero h = tt
behind cs z c k (suc n) h =
    all-append (IsLess (z ∷ c)) (map (λ c. k ∷ c) cs) (flat_map (λ x. map (λ c. x ∷ c) cs) (count_from (suc k) n))
    (all-each (IsLess (z ∷ c)) (λ c. k ∷ c) (λ b. inl h) cs) (behind cs z c (suc k) n (omega arith))

pub tuples-sorted : (ms : List ℕ) → Sorted IsLess (tuples ms)
tuples-sorted [] = (tt, tt)
tuples-sorted (m ∷ ms) = go 0 m (tuples-sorted ms)
  where
    go : (k n : ℕ) → Sorted IsLess (tuples ms) → Sorted IsLess (flat_map (λ x. map (λ c. x ∷ c) (tuples ms)) (count_from k n))
    go k zero s = tt
    go k (suc n) s =
        Sorted-append IsLess (map (λ c. k ∷ c) (tuples ms)) (flat_map (λ x. map (λ c. x ∷ c) (tuples ms)) (count_from (suc k) n))
        (Sorted-map IsLess IsLess (λ c. k ∷ c) (λ a b r. inr (refl, r)) (tuples ms) s)
        (go (suc k) n s)
        (all-each (λ a. AllByRecursion (IsLess a) (flat_map (λ x. map (λ c. x ∷ c) (tuples ms)) (count_from (suc k) n))) (λ c. k ∷ c)
        (λ c. behind (tuples ms) k c (suc k) n (omega arith)) (tuples ms))

pub tuples-member : (ms c : List ℕ) → Within ms c → Member c (tuples ms)
tuples-member [] [] w = inl refl
tuples-member [] (x ∷ c) w = absurd w
tuples-member (m ∷ ms) [] w = absurd w
tuples-member (m ∷ ms) (x ∷ c) w =
    member-flat (λ x. map (λ c. x ∷ c) (tuples ms)) (count_from 0 m) x (x ∷ c) (below-member m x w.0)
    (member-map (λ c. x ∷ c) (tuples ms) c (tuples-member ms c w.1))
