-- What a term does with wires, whatever the wires are: terms run on lists of names of wires, of any type. Two terms are
-- alike if a bijection of their generators makes them run alike for all names.
use Rattle.std.proofs.Common.{ℕ, ◌≡◌, List, ◌++◌, map, length, take, drop, ◌⊎◌, inl, inr}
use Rattle.chyp_base.specs.declared.sort.Sort.{Sort}
use Rattle.chyp_term.specs.Perm.{permuted, count_from}
use Rattle.chyp_term.specs.Morphism.{Morphism, generator, permutation, then, beside, dom, cod}

-- the places of the generators in a term
abbrev pub EdgeOf : Morphism → Type 0
EdgeOf (generator n a b) = Unit {0}
EdgeOf (permutation a p) = ⊥
EdgeOf (then s t) = EdgeOf s ⊎ EdgeOf t
EdgeOf (beside s t) = EdgeOf s ⊎ EdgeOf t

pub record Label : Type 0 where
  pub name : List ℕ
  pub dom : List Sort
  pub cod : List Sort

abbrev pub label_of : (t : Morphism) → EdgeOf t → Label
label_of (generator n a b) e = record { name = n; dom = a; cod = b }
label_of (permutation a p) e = absurd e
label_of (then s t) (inl e) = label_of s e
label_of (then s t) (inr e) = label_of t e
label_of (beside s t) (inl e) = label_of s e
label_of (beside s t) (inr e) = label_of t e

-- what comes out, where target i of the edge e is mk e i and what goes in is live
abbrev pub run : {V : Type 0} → (t : Morphism) → (EdgeOf t → ℕ → V) → List V → List V
run (generator n a b) mk live = map (mk tt) (count_from 0 (length b))
run (permutation a p) mk live = permuted live p
run (then s t) mk live = run t (λ e. mk (inr e)) (run s (λ e. mk (inl e)) live)
run (beside s t) mk live = run s (λ e. mk (inl e)) (take (length (dom s)) live) ++ run t (λ e. mk (inr e)) (drop (length (dom s)) live)

-- what goes into the edge e
abbrev pub src : {V : Type 0} → (t : Morphism) → (EdgeOf t → ℕ → V) → List V → EdgeOf t → List V
src (generator n a b) mk live e = live
src (permutation a p) mk live e = absurd e
src (then s t) mk live (inl e) = src s (λ e. mk (inl e)) live e
src (then s t) mk live (inr e) = src t (λ e. mk (inr e)) (run s (λ e. mk (inl e)) live) e
src (beside s t) mk live (inl e) = src s (λ e. mk (inl e)) (take (length (dom s)) live) e
src (beside s t) mk live (inr e) = src t (λ e. mk (inr e)) (drop (length (dom s)) live) e

-- s and t do the same, but for the names of their edges
pub record Alike (s t : Morphism) : Type 1 where
  pub doms : dom s ≡ dom t
  pub cods : cod s ≡ cod t
  pub to : EdgeOf s → EdgeOf t
  pub from : EdgeOf t → EdgeOf s
  pub to_from : (e : EdgeOf t) → to (from e) ≡ e
  pub from_to : (e : EdgeOf s) → from (to e) ≡ e
  pub labels : (e : EdgeOf s) → label_of t (to e) ≡ label_of s e
  pub runs : {V : Type 0} (mk : EdgeOf t → ℕ → V) (live : List V) → length live ≡ length (dom s) → run t mk live ≡ run s (λ e. mk (to e)) live
  pub srcs : {V : Type 0} (mk : EdgeOf t → ℕ → V) (live : List V) → length live ≡ length (dom s) → (e : EdgeOf s) → src t mk live (to e) ≡ src s (λ e. mk (to e)) live e
