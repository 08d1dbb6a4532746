-- Renaming wires before or after a run is the same; and only the targets that are there count.
use Rattle.std.proofs.Common.{ℕ, zero, suc, ◌+◌, ◌<◌, ◌≤◌, ◌≡◌, List, [], ◌∷◌, ◌++◌, map, length, take, inl, inr, refl, sym, ◌∙◌, ap, ap₂, subst, arith}
use Rattle.std.proofs.lemmas.List.{map-append, take-map, drop-map}
use Rattle.chyp_term.specs.Perm.{count_from}
use Rattle.chyp_term.specs.Morphism.{Morphism, generator, permutation, then, beside, dom, IsTyped}
use Rattle.chyp_theory.proofs.Running.{EdgeOf, label_of, run, src}
use Rattle.chyp_term.proofs.Permuted.{Under, permuted-map}
use Rattle.chyp_term.proofs.Closure.{Under-perm}
use Rattle.chyp_theory.proofs.Congruence.{length-run, length-take_dom, length-drop_dom}

-- ## what run does with names

-- names that are changed in what goes in are changed in what comes out
pub map-run : {V W : Type 0} (f : V → W) (t : Morphism) → IsTyped t → (mk : EdgeOf t → ℕ → V) (live : List V) → length live ≡ length (dom t)
    → map f (run t mk live) ≡ run t (λ e i. f (mk e i)) (map f live)
map-run f (generator n a b) ty mk live h = map-map f (mk tt) (count_from 0 (length b))
  where
    map-map : {U V W : Type 0} (f : V → W) (g : U → V) (xs : List U) → map f (map g xs) ≡ map (λ x. f (g x)) xs
    map-map f g [] = refl
    map-map f g (x ∷ xs) = ap (λ r. f (g x) ∷ r) (map-map f g xs)
map-run f (permutation a p) ty mk live h = sym (permuted-map f live p (subst (λ m. Under m p) (sym h) (Under-perm _ p ty)))
map-run f (then s t) ty mk live h =
    map-run f t ty.1 (λ e. mk (inr e)) _ (length-run s ty.0 _ live h ∙ ap length ty.2)
    ∙ ap (run t (λ e i. f (mk (inr e) i))) (map-run f s ty.0 (λ e. mk (inl e)) live h)
map-run f (beside s t) ty mk live h =
    map-append f (run s (λ e. mk (inl e)) (take (length (dom s)) live)) _
    ∙ ap₂ (λ x y. x ++ y)
    (map-run f s ty.0 (λ e. mk (inl e)) _ (length-take_dom s t live h) ∙ ap (run s (λ e i. f (mk (inl e) i))) (sym (take-map f (length (dom s)) live)))
    (map-run f t ty.1 (λ e. mk (inr e)) _ (length-drop_dom s t live h) ∙ ap (run t (λ e i. f (mk (inr e) i))) (sym (drop-map f (length (dom s)) live)))

-- and in what goes into a generator
pub map-src : {V W : Type 0} (f : V → W) (t : Morphism) → IsTyped t → (mk : EdgeOf t → ℕ → V) (live : List V) → length live ≡ length (dom t) → (e : EdgeOf t)
    → map f (src t mk live e) ≡ src t (λ e i. f (mk e i)) (map f live) e
map-src f (generator n a b) ty mk live h e = refl
map-src f (permutation a p) ty mk live h e = absurd e
map-src f (then s t) ty mk live h (inl e) = map-src f s ty.0 (λ e. mk (inl e)) live h e
map-src f (then s t) ty mk live h (inr e) =
    map-src f t ty.1 (λ e. mk (inr e)) _ (length-run s ty.0 _ live h ∙ ap length ty.2) e
    ∙ ap (λ l. src t (λ e i. f (mk (inr e) i)) l e) (map-run f s ty.0 (λ e. mk (inl e)) live h)
map-src f (beside s t) ty mk live h (inl e) =
    map-src f s ty.0 (λ e. mk (inl e)) _ (length-take_dom s t live h) e ∙ ap (λ l. src s (λ e i. f (mk (inl e) i)) l e) (sym (take-map f (length (dom s)) live))
map-src f (beside s t) ty mk live h (inr e) =
    map-src f t ty.1 (λ e. mk (inr e)) _ (length-drop_dom s t live h) e ∙ ap (λ l. src t (λ e i. f (mk (inr e) i)) l e) (sym (drop-map f (length (dom s)) live))

-- only the targets that are there count
pub map-count : {V : Type 0} (f g : ℕ → V) (k n : ℕ) → ((i : ℕ) → k ≤ i → i < k + n → f i ≡ g i) → map f (count_from k n) ≡ map g (count_from k n)
map-count f g k zero h = refl
map-count f g k (suc n) h = ap₂ (λ x r. x ∷ r) (h k (omega arith) (omega arith)) (map-count f g (suc k) n (λ i a b. h i (omega arith) (omega arith)))

pub same-run : {V : Type 0} (t : Morphism) (mk nk : EdgeOf t → ℕ → V) → ((e : EdgeOf t) (i : ℕ) → i < length (label_of t e).cod → mk e i ≡ nk e i) → (live : List V) → run t mk live ≡ run t nk live
same-run (generator n a b) mk nk h live = map-count (mk tt) (nk tt) 0 (length b) (λ i k l. h tt i (omega arith))
same-run (permutation a p) mk nk h live = refl
same-run (then s t) mk nk h live = ap (run t (λ e. mk (inr e))) (same-run s _ _ (λ e. h (inl e)) live) ∙ same-run t _ _ (λ e. h (inr e)) _
same-run (beside s t) mk nk h live = ap₂ (λ x y. x ++ y) (same-run s _ _ (λ e. h (inl e)) _) (same-run t _ _ (λ e. h (inr e)) _)

pub same-src : {V : Type 0} (t : Morphism) (mk nk : EdgeOf t → ℕ → V) → ((e : EdgeOf t) (i : ℕ) → i < length (label_of t e).cod → mk e i ≡ nk e i)
    → (live : List V) (e : EdgeOf t) → src t mk live e ≡ src t nk live e
same-src (generator n a b) mk nk h live e = refl
same-src (permutation a p) mk nk h live e = absurd e
same-src (then s t) mk nk h live (inl e) = same-src s _ _ (λ e. h (inl e)) live e
same-src (then s t) mk nk h live (inr e) = ap (λ l. src t (λ e. mk (inr e)) l e) (same-run s _ _ (λ e. h (inl e)) live) ∙ same-src t _ _ (λ e. h (inr e)) _ e
same-src (beside s t) mk nk h live (inl e) = same-src s _ _ (λ e. h (inl e)) _ e
same-src (beside s t) mk nk h live (inr e) = same-src t _ _ (λ e. h (inr e)) _ e

-- ## wires by what makes them

pub data Producer (E : Type 0) : Type 0 where
  In : ℕ → Producer E
  Target : E → ℕ → Producer E
