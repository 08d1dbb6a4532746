-- The edges of a term in order, and the number of each.
use Rattle.std.proofs.Common.{[], ℕ, zero, suc, ◌+◌, ◌-◌, ◌<◌, ◌≤◌, ◌≡◌, List, ◌∷◌, ◌++◌, map, length, Option, Some, slice_get, ◌⊎◌, inl, inr, refl, sym, ◌∙◌, ap, arith, option_map, subst}
use Rattle.std.proofs.lemmas.List.{length-map}
use Rattle.std.proofs.lemmas.Bool.{cases_lt}
use Rattle.chyp_term.specs.Morphism.{Morphism, beside, generator, permutation, then}
use Rattle.chyp_term.proofs.Permuted.{in_map, get-append_left, get-append_right, found, get-map}
use Rattle.chyp_term.proofs.Positions.{slice_get-length}
use Rattle.chyp_theory.proofs.Running.{EdgeOf}

abbrev pub edges_of : (t : Morphism) → List (EdgeOf t)
edges_of (generator n a b) = tt ∷ []
edges_of (permutation a p) = []
edges_of (then s t) = map (λ e. inl e) (edges_of s) ++ map (λ e. inr e) (edges_of t)
edges_of (beside s t) = map (λ e. inl e) (edges_of s) ++ map (λ e. inr e) (edges_of t)

abbrev pub number : (t : Morphism) → EdgeOf t → ℕ
number (generator n a b) e = 0
number (permutation a p) e = absurd e
number (then s t) (inl e) = number s e
number (then s t) (inr e) = length (edges_of s) + number t e
number (beside s t) (inl e) = number s e
number (beside s t) (inr e) = length (edges_of s) + number t e

pub first : (s t : Morphism) (e : EdgeOf s) → slice_get (edges_of s) (number s e) ≡ Some e
    → ◌≡◌ {A = Option (EdgeOf s ⊎ EdgeOf t)} (slice_get (map (λ e. inl e) (edges_of s) ++ map (λ e. inr e) (edges_of t)) (number s e)) (Some (inl e))
first s t e h =
    get-append_left (map (λ e. inl e) (edges_of s)) _ _ (subst (λ n. number s e < n) (sym (length-map (edges_of s) (λ e. inl e))) (slice_get-length (edges_of s) _ e h))
    ∙ get-map (λ e. inl e) (edges_of s) (number s e) ∙ ap (option_map (λ e. inl e)) h

pub second : (s t : Morphism) (e : EdgeOf t) → slice_get (edges_of t) (number t e) ≡ Some e
    → ◌≡◌ {A = Option (EdgeOf s ⊎ EdgeOf t)} (slice_get (map (λ e. inl e) (edges_of s) ++ map (λ e. inr e) (edges_of t)) (length (edges_of s) + number t e)) (Some (inr e))
second s t e h =
    ap (λ n. slice_get (map (λ e. inl e) (edges_of s) ++ map (λ e. inr e) (edges_of t)) (n + number t e)) (sym (length-map (edges_of s) (λ e. inl e)))
    ∙ get-append_right (map (λ e. inl e) (edges_of s)) (map (λ e. inr e) (edges_of t)) (number t e)
    ∙ get-map (λ e. inr e) (edges_of t) (number t e) ∙ ap (option_map (λ e. inr e)) h

pub edge_at : (t : Morphism) (e : EdgeOf t) → slice_get (edges_of t) (number t e) ≡ Some e
edge_at (generator n a b) e = refl
edge_at (permutation a p) e = absurd e
edge_at (then s t) (inl e) = first s t e (edge_at s e)
edge_at (then s t) (inr e) = second s t e (edge_at t e)
edge_at (beside s t) (inl e) = first s t e (edge_at s e)
edge_at (beside s t) (inr e) = second s t e (edge_at t e)

pub number_below : (t : Morphism) (e : EdgeOf t) → number t e < length (edges_of t)
number_below t e = slice_get-length (edges_of t) (number t e) e (edge_at t e)

-- the edge at a place
pub edge_of : (t : Morphism) (k : ℕ) → k < length (edges_of t) → (e : EdgeOf t) × (slice_get (edges_of t) k ≡ Some e)
edge_of t k h = found (edges_of t) k h

-- an edge of two lists joined is one of either
pub either-at : {A B : Type 0} (xs : List A) (ys : List B) (k : ℕ) (e : A ⊎ B) → slice_get (map (λ x. inl x) xs ++ map (λ y. inr y) ys) k ≡ Some e
    → ((x : A) × (slice_get xs k ≡ Some x) × (inl x ≡ e)) ⊎ ((y : B) × (i : ℕ) × (slice_get ys i ≡ Some y) × (inr y ≡ e) × (k ≡ length xs + i))
either-at {A} {B} xs ys k e q = go (cases_lt k (length xs))
  where
    size : length (map {B = A ⊎ B} (λ x. inl x) xs) ≡ length xs
    size = length-map xs (λ x. inl x)

    go : (k < length xs) ⊎ (length xs ≤ k) → ((x : A) × (slice_get xs k ≡ Some x) × (inl x ≡ e)) ⊎ ((y : B) × (i : ℕ) × (slice_get ys i ≡ Some y) × (inr y ≡ e) × (k ≡ length xs + i))
    go (inl l) = inl (in_map (λ x. inl x) xs k e (sym (get-append_left (map (λ x. inl x) xs) (map (λ y. inr y) ys) k (subst (λ n. k < n) (sym size) l)) ∙ q))
    go (inr l) =
        let h = in_map (λ y. inr y) ys (k - length xs) e
        (sym (get-append_right (map (λ x. inl x) xs) (map (λ y. inr y) ys) (k - length xs))
        ∙ ap (slice_get (map (λ x. inl x) xs ++ map (λ y. inr y) ys)) (ap (λ n. n + (k - length xs)) size ∙ omega arith) ∙ q) in
        inr (h.0, k - length xs, h.1, h.2, omega arith)

pub number_at : (t : Morphism) (k : ℕ) (e : EdgeOf t) → slice_get (edges_of t) k ≡ Some e → number t e ≡ k
number_at (generator n a b) zero e q = refl
number_at (generator n a b) (suc k) e q = cc
number_at (permutation a p) k e q = absurd e
number_at (then s t) k e q = go (λ i d. number_at s i d) (λ i d. number_at t i d) (either-at (edges_of s) (edges_of t) k e q)
  where
    go : ((i : ℕ) (d : EdgeOf s) → slice_get (edges_of s) i ≡ Some d → number s d ≡ i) → ((i : ℕ) (d : EdgeOf t) → slice_get (edges_of t) i ≡ Some d → number t d ≡ i)
        → ((x : EdgeOf s) × (slice_get (edges_of s) k ≡ Some x) × (inl x ≡ e)) ⊎
        ((y : EdgeOf t) × (i : ℕ) × (slice_get (edges_of t) i ≡ Some y) × (inr y ≡ e) × (k ≡ length (edges_of s) + i)) → number (then s t) e ≡ k
    go f g (inl h) = ap (number (then s t)) (sym h.2) ∙ f k h.0 h.1
    go f g (inr h) = ap (number (then s t)) (sym h.3) ∙ ap (λ n. length (edges_of s) + n) (g h.1 h.0 h.2) ∙ sym h.4
number_at (beside s t) k e q = go (λ i d. number_at s i d) (λ i d. number_at t i d) (either-at (edges_of s) (edges_of t) k e q)
  where
    go : ((i : ℕ) (d : EdgeOf s) → slice_get (edges_of s) i ≡ Some d → number s d ≡ i) → ((i : ℕ) (d : EdgeOf t) → slice_get (edges_of t) i ≡ Some d → number t d ≡ i)
        → ((x : EdgeOf s) × (slice_get (edges_of s) k ≡ Some x) × (inl x ≡ e)) ⊎
        ((y : EdgeOf t) × (i : ℕ) × (slice_get (edges_of t) i ≡ Some y) × (inr y ≡ e) × (k ≡ length (edges_of s) + i)) → number (beside s t) e ≡ k
    go f g (inl h) = ap (number (beside s t)) (sym h.2) ∙ f k h.0 h.1
    go f g (inr h) = ap (number (beside s t)) (sym h.3) ∙ ap (λ n. length (edges_of s) + n) (g h.1 h.0 h.2) ∙ sym h.4
