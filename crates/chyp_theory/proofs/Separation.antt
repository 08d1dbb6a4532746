-- Terms are alike that run alike for one choice of names that tells all wires apart.
use Rattle.std.proofs.Common.{ℕ, suc, ◌<◌, ◌≡◌, List, [], ◌∷◌, map, length, Option, Some, slice_get, slice_index, refl, sym, ◌∙◌, ap, ap₂, subst, arith}
use Rattle.chyp_term.specs.Morphism.{Morphism, dom, cod, IsTyped}
use Rattle.chyp_theory.proofs.Running.{EdgeOf, label_of, run, src, Alike}
use Rattle.chyp_theory.proofs.Renaming.{map-run, map-src, same-run, same-src, Producer, In, Target}
use Rattle.chyp_theory.proofs.Cancelling.{map-Some}

pub read-list : {V : Type 0} (f : ℕ → Option V) (xs : List ℕ) (ys : List V) → length xs ≡ length ys
    → ((i : ℕ) → i < length xs → f (slice_index xs i) ≡ slice_get ys i) → map f xs ≡ map (λ y. Some y) ys
read-list f [] [] q h = refl
read-list f [] (y ∷ ys) q h = absurd (omega arith)
read-list f (x ∷ xs) [] q h = absurd (omega arith)
read-list f (x ∷ xs) (y ∷ ys) q h = ap₂ (λ a b. a ∷ b) (h 0 (omega arith)) (read-list f xs ys (omega arith) (λ i l. h (suc i) (omega arith)))

module _ (s t : Morphism) (ts : IsTyped s) (ty : IsTyped t) (doms : dom s ≡ dom t) (cods : cod s ≡ cod t) (to : EdgeOf s → EdgeOf t) (from : EdgeOf t → EdgeOf s)
    (to_from : (e : EdgeOf t) → to (from e) ≡ e) (from_to : (e : EdgeOf s) → from (to e) ≡ e)
    (labels : (e : EdgeOf s) → label_of t (to e) ≡ label_of s e) (mk : EdgeOf t → ℕ → ℕ) (live : List ℕ) (size : length live ≡ length (dom t)) (back : ℕ → Producer (EdgeOf t))
    (back_in : (j : ℕ) → j < length live → back (slice_index live j) ≡ In j) (back_target : (e : EdgeOf t) (i : ℕ) → i < length (label_of t e).cod → back (mk e i) ≡ Target e i)
    (runs : run t mk live ≡ run s (λ e. mk (to e)) live) (srcs : (e : EdgeOf s) → src t mk live (to e) ≡ src s (λ e. mk (to e)) live e) where
  reads : {V : Type 0} → (EdgeOf t → ℕ → V) → List V → Producer (EdgeOf t) → Option V
  reads nk names (In j) = slice_get names j
  reads nk names (Target e i) = Some (nk e i)

  read : {V : Type 0} → (EdgeOf t → ℕ → V) → List V → ℕ → Option V
  read nk names w = reads nk names (back w)

  read_live : {V : Type 0} (nk : EdgeOf t → ℕ → V) (names : List V) → length names ≡ length (dom t) → map (read nk names) live ≡ map (λ x. Some x) names
  unfolding read reads
  read_live nk names l = read-list (read nk names) live names (size ∙ sym l) (λ i h. ap (reads nk names) (back_in i h))

  read_mk : {V : Type 0} (nk : EdgeOf t → ℕ → V) (names : List V) (e : EdgeOf t) (i : ℕ) → i < length (label_of t e).cod → read nk names (mk e i) ≡ Some (nk e i)
  unfolding read reads
  read_mk nk names e i h = ap (reads nk names) (back_target e i h)

  read_to : {V : Type 0} (nk : EdgeOf t → ℕ → V) (names : List V) (e : EdgeOf s) (i : ℕ) → i < length (label_of s e).cod → read nk names (mk (to e) i) ≡ Some (nk (to e) i)
  read_to nk names e i h = read_mk nk names (to e) i (subst (λ z. i < length z.cod) (sym (labels e)) h)

  pub all_runs : {V : Type 0} (nk : EdgeOf t → ℕ → V) (names : List V) → length names ≡ length (dom s) → run t nk names ≡ run s (λ e. nk (to e)) names
  all_runs nk names l =
      let l' = l ∙ ap length doms in
      map-Some _ _ (
      map-run (λ x. Some x) t ty nk names l'
      ∙ sym (ap (run t (λ e i. Some (nk e i))) (read_live nk names l'))
      ∙ sym (same-run t (λ e i. read nk names (mk e i)) (λ e i. Some (nk e i)) (read_mk nk names) (map (read nk names) live))
      ∙ sym (map-run (read nk names) t ty mk live size)
      ∙ ap (map (read nk names)) runs
      ∙ map-run (read nk names) s ts (λ e. mk (to e)) live (size ∙ sym (ap length doms))
      ∙ ap (run s (λ e i. read nk names (mk (to e) i))) (read_live nk names l')
      ∙ same-run s _ (λ e i. Some (nk (to e) i)) (read_to nk names) (map (λ x. Some x) names)
      ∙ sym (map-run (λ x. Some x) s ts (λ e. nk (to e)) names l))

  pub all_srcs : {V : Type 0} (nk : EdgeOf t → ℕ → V) (names : List V) → length names ≡ length (dom s) → (e : EdgeOf s) → src t nk names (to e) ≡ src s (λ e. nk (to e)) names e
  all_srcs nk names l e =
      let l' = l ∙ ap length doms in
      map-Some _ _ (
      map-src (λ x. Some x) t ty nk names l' (to e)
      ∙ sym (ap (λ z. src t (λ e i. Some (nk e i)) z (to e)) (read_live nk names l'))
      ∙ sym (same-src t (λ e i. read nk names (mk e i)) (λ e i. Some (nk e i)) (read_mk nk names) (map (read nk names) live) (to e))
      ∙ sym (map-src (read nk names) t ty mk live size (to e))
      ∙ ap (map (read nk names)) (srcs e)
      ∙ map-src (read nk names) s ts (λ e. mk (to e)) live (size ∙ sym (ap length doms)) e
      ∙ ap (λ z. src s (λ e i. read nk names (mk (to e) i)) z e) (read_live nk names l')
      ∙ same-src s _ (λ e i. Some (nk (to e) i)) (read_to nk names) (map (λ x. Some x) names) e
      ∙ sym (map-src (λ x. Some x) s ts (λ e. nk (to e)) names l e))

  unfoldable pub alike_by : Alike s t
  alike_by = record { doms = doms; cods = cods; to = to; from = from; to_from = to_from; from_to = from_to; labels = labels; runs = all_runs; srcs = all_srcs }
