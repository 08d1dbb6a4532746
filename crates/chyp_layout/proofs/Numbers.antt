-- Greatest numbers, and lists that agree place by place.
use Rattle.std.proofs.Common.{ℕ, suc, ◌≤◌, ◌≡◌, max, List, [], ◌∷◌, length, Some, slice_get, inl, inr, refl, ap₂, arith}
use Rattle.std.specs.List.{fold}
use Rattle.chyp_term.proofs.Members.{Member}
use Rattle.chyp_layout.specs.Columns.{greatest}

fold-from : (a : ℕ) (ns : List ℕ) → a ≤ fold max a ns
fold-from a [] = omega arith
fold-from a (n ∷ ns) = let h = fold-from (max a n) ns in omega (arith, h)

fold-above : (a : ℕ) (ns : List ℕ) (n : ℕ) → Member n ns → n ≤ fold max a ns
fold-above a [] n m = absurd m
fold-above a (k ∷ ns) n (inl e) = let h = fold-from (max a k) ns in omega (arith, h)
fold-above a (k ∷ ns) n (inr m) = fold-above (max a k) ns n m

fold-least : (a : ℕ) (ns : List ℕ) (m : ℕ) → a ≤ m → ((n : ℕ) → Member n ns → n ≤ m) → fold max a ns ≤ m
fold-least a [] m h f = h
fold-least a (k ∷ ns) m h f = let l = f k (inl refl) in fold-least (max a k) ns m (omega (arith, l)) (λ n x. f n (inr x))

-- no number is above the greatest
pub greatest-above : (ns : List ℕ) (n : ℕ) → Member n ns → n ≤ greatest ns
greatest-above ns n m = fold-above 0 ns n m

-- it is not above what all are not above
pub greatest-least : (ns : List ℕ) (m : ℕ) → ((n : ℕ) → Member n ns → n ≤ m) → greatest ns ≤ m
greatest-least ns m f = fold-least 0 ns m (omega arith) f

-- lists of one length with equal items are equal
pub same-items : {A : Type 0} (xs ys : List A) → length xs ≡ length ys → ((i : ℕ) (x y : A) → slice_get xs i ≡ Some x → slice_get ys i ≡ Some y → x ≡ y) → xs ≡ ys
same-items [] [] e f = refl
same-items [] (y ∷ ys) e f = absurd (omega arith)
same-items (x ∷ xs) [] e f = absurd (omega arith)
same-items (x ∷ xs) (y ∷ ys) e f = ap₂ (λ a l. a ∷ l) (f 0 x y refl refl) (same-items xs ys (omega arith) (λ i a b p q. f (suc i) a b p q))
