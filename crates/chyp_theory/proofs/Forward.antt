-- Induction along a term.
use Rattle.std.proofs.Common.{[], ℕ, zero, suc, ◌<◌, ◌≡◌, List, ◌∷◌, length, take, drop, Option, Some, None, slice_get, inl, inr, refl, subst, arith}
use Rattle.std.specs.List.{AllByRecursion, cons_option}
use Rattle.chyp_term.specs.Morphism.{Morphism, generator, permutation, then, beside, dom}
use Rattle.chyp_term.specs.Perm.{permuted}
use Rattle.chyp_term.proofs.Distinct.{all-append}
use Rattle.chyp_term.proofs.Rearrangement.{all-count}
use Rattle.chyp_theory.proofs.Running.{EdgeOf, label_of, run, src}

pub all-take : {A : Type 0} (P : A → Type 0) (n : ℕ) (xs : List A) → AllByRecursion P xs → AllByRecursion P (take n xs)
all-take P zero xs a = tt
all-take P (suc n) [] a = tt
all-take P (suc n) (x ∷ xs) a = (a.0, all-take P n xs a.1)

pub all-drop : {A : Type 0} (P : A → Type 0) (n : ℕ) (xs : List A) → AllByRecursion P xs → AllByRecursion P (drop n xs)
all-drop P zero xs a = a
all-drop P (suc n) [] a = tt
all-drop P (suc n) (x ∷ xs) a = all-drop P n xs a.1

pub all-permuted : {A : Type 0} (P : A → Type 0) (xs : List A) (p : List ℕ) → AllByRecursion P xs → AllByRecursion P (permuted xs p)
all-permuted P xs [] a = tt
all-permuted {A = A} P xs (k ∷ p) a = go (slice_get xs k) (λ x e. at P xs k x e a) (all-permuted P xs p a)
  where
    at : {A : Type 0} (P : A → Type 0) (xs : List A) (k : ℕ) (x : A) → slice_get xs k ≡ Some x → AllByRecursion P xs → P x
    at P [] k x e a = cc
    at P (y ∷ xs) zero x e a = let q : y ≡ x = cc in subst P q a.0
    at P (y ∷ xs) (suc k) x e a = at P xs k x e a.1

    go : (o : Option A) → ((x : A) → o ≡ Some x → P x) → AllByRecursion P (permuted xs p) → AllByRecursion P (cons_option o (permuted xs p))
    go None f r = r
    go (Some x) f r = (f x refl, r)

-- what holds of all that goes in, and of what an edge makes, holds of what comes out
pub good_run : {V : Type 0} (t : Morphism) (G : V → Type 0) (mk : EdgeOf t → ℕ → V) (live : List V) → AllByRecursion G live
    → ((e : EdgeOf t) (i : ℕ) → i < length (label_of t e).cod → G (mk e i)) → AllByRecursion G (run t mk live)
good_run (generator n a b) G mk live h f = all-count G (mk tt) 0 (length b) (λ i _ l. f tt i (omega arith))
good_run (permutation a p) G mk live h f = all-permuted G live p h
good_run (then s t) G mk live h f = good_run t G (λ e. mk (inr e)) _ (good_run s G (λ e. mk (inl e)) live h (λ e. f (inl e))) (λ e. f (inr e))
good_run (beside s t) G mk live h f =
    all-append G (run s (λ e. mk (inl e)) (take (length (dom s)) live)) _
    (good_run s G (λ e. mk (inl e)) _ (all-take G (length (dom s)) live h) (λ e. f (inl e)))
    (good_run t G (λ e. mk (inr e)) _ (all-drop G (length (dom s)) live h) (λ e. f (inr e)))

-- P holds of each edge, if it holds of an edge all of whose sources are good, and then its targets are good
pub forward : {V : Type 0} (t : Morphism) (G : V → Type 0) (P : EdgeOf t → Type 0) (mk : EdgeOf t → ℕ → V) (live : List V) → AllByRecursion G live
    → ((e : EdgeOf t) → AllByRecursion G (src t mk live e) → P e) → ((e : EdgeOf t) → P e → (i : ℕ) → i < length (label_of t e).cod → G (mk e i))
    → (e : EdgeOf t) → P e
forward (generator n a b) G P mk live h f g tt = f tt h
forward (permutation a p) G P mk live h f g e = absurd e
forward (then s t) G P mk live h f g (inl e) = forward s G (λ e. P (inl e)) (λ e. mk (inl e)) live h (λ e. f (inl e)) (λ e. g (inl e)) e
forward (then s t) G P mk live h f g (inr e) =
    forward t G (λ e. P (inr e)) (λ e. mk (inr e)) (run s (λ e. mk (inl e)) live)
    (good_run s G (λ e. mk (inl e)) live h (λ d. g (inl d) (forward s G (λ e. P (inl e)) (λ e. mk (inl e)) live h (λ e. f (inl e)) (λ e. g (inl e)) d)))
    (λ e. f (inr e)) (λ e. g (inr e)) e
forward (beside s t) G P mk live h f g (inl e) =
    forward s G (λ e. P (inl e)) (λ e. mk (inl e)) (take (length (dom s)) live) (all-take G (length (dom s)) live h) (λ e. f (inl e)) (λ e. g (inl e)) e
forward (beside s t) G P mk live h f g (inr e) =
    forward t G (λ e. P (inr e)) (λ e. mk (inr e)) (drop (length (dom s)) live) (all-drop G (length (dom s)) live h) (λ e. f (inr e)) (λ e. g (inr e)) e
