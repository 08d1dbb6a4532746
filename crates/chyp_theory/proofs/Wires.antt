-- Each term of wires equals by the laws the permutation that it is, and two such terms are equal exactly where their
-- domains and their permutations are. Derivable terms are typed, and have one type.
use Rattle.std.proofs.Common.{ℕ, ◌≡◌, List, [], ◌++◌, length, take, drop, inl, inr, refl, sym, ◌∙◌, ap, ap₂, subst, arith, length-append, ◌↔◌}
use Rattle.chyp_term.specs.Perm.{IsPermutation, permuted, count_from, shifted}
use Rattle.chyp_term.specs.Morphism.{Morphism, generator, permutation, then, beside, dom, cod, IsTyped}
use Rattle.chyp_term.specs.Wiring.{IsWires, wiring_of}
use Rattle.chyp_term.specs.Derivation.{IsEquation, Derives, same, back, chain, in_then, in_beside, by_law, given}
use Rattle.chyp_term.proofs.Permuted.{Under, permuted-permuted, permuted-append, permuted-append_left, permuted-shifted, length-permuted, length-count_from}
use Rattle.chyp_term.proofs.Closure.{Under-perm, compose_perm, beside_perm}
use Rattle.chyp_theory.proofs.Running.{EdgeOf, run}
use Rattle.chyp_theory.proofs.Congruence.{length-take_dom, length-drop_dom}
use Rattle.chyp_theory.proofs.Soundness.{law_alike, sound, permuted-beside}
use Rattle.chyp_term.proofs.Inverses.{permuted-numbers}
use Rattle.chyp_theory.proofs.Arrows.{Equal, length-cod, equal-perms, equal-perm_beside}

-- derivable terms are typed, and have one type
pub derivation_equation : {E : List (Morphism × Morphism)} {s t : Morphism} → Derives E s t → IsEquation s t
derivation_equation (same x) = record { left = x; right = x; doms = refl; cods = refl }
derivation_equation (back d) = let h = derivation_equation d in record { left = h.right; right = h.left; doms = sym h.doms; cods = sym h.cods }
derivation_equation (chain d e) =
    let h = derivation_equation d in let k = derivation_equation e in
    record { left = h.left; right = k.right; doms = h.doms ∙ k.doms; cods = h.cods ∙ k.cods }
derivation_equation (in_then d e m) =
    let h = derivation_equation d in let k = derivation_equation e in
    record { left = (h.left, k.left, m); right = (h.right, k.right, sym h.cods ∙ m ∙ k.doms); doms = h.doms; cods = k.cods }
derivation_equation (in_beside d e) =
    let h = derivation_equation d in let k = derivation_equation e in
    record { left = (h.left, k.left); right = (h.right, k.right); doms = ap₂ (λ x y. x ++ y) h.doms k.doms; cods = ap₂ (λ x y. x ++ y) h.cods k.cods }
derivation_equation (by_law l x y) = let a = law_alike l x y in record { left = x; right = y; doms = a.doms; cods = a.cods }
derivation_equation (given c e) = e

-- t is its wiring, by the laws
pub record IsWired (t : Morphism) : Type 0 where
  pub perm : IsPermutation (length (dom t)) (wiring_of t)
  pub cods : permuted (dom t) (wiring_of t) ≡ cod t
  pub equal : Equal t (permutation (dom t) (wiring_of t))

-- each typed term of wires is its wiring
pub wired : (t : Morphism) → IsWires t → IsTyped t → IsWired t
wired (generator n a b) w ty = absurd w
wired (permutation a p) w ty = record { perm = ty; cods = refl; equal = same ty }
wired (then s t) w ty =
    let h = wired s w.0 ty.0 in
    let k = wired t w.1 ty.1 in
    let m : permuted (dom s) (wiring_of s) ≡ dom t = h.cods ∙ ty.2 in
    record {
      perm = compose_perm (length (dom s)) (wiring_of s) (wiring_of t) h.perm (subst (λ n. IsPermutation n (wiring_of t)) (sym (ap length m) ∙ length-cod (dom s) (wiring_of s) h.perm) k.perm);
      cods = sym (permuted-permuted (dom s) (wiring_of s) (Under-perm _ _ h.perm) (wiring_of t)) ∙ ap (λ xs. permuted xs (wiring_of t)) m ∙ k.cods;
      equal = chain (in_then h.equal k.equal ty.2) (equal-perms (dom s) (dom t) (wiring_of s) (wiring_of t) h.perm m k.perm);
    }
wired (beside s t) w ty =
    let h = wired s w.0 ty.0 in
    let k = wired t w.1 ty.1 in
    record {
      perm = subst (λ n. IsPermutation n (wiring_of (beside s t))) (sym (length-append (dom s) (dom t))) (beside_perm (length (dom s)) (length (dom t)) (wiring_of s) (wiring_of t) h.perm k.perm);
      cods = permuted-append (dom s ++ dom t) (wiring_of s) (shifted (length (dom s)) (wiring_of t))
          ∙ ap₂ (λ x y. x ++ y) (permuted-append_left (dom s) (dom t) (wiring_of s) (Under-perm _ _ h.perm) ∙ h.cods) (permuted-shifted (dom s) (dom t) (wiring_of t) ∙ k.cods);
      equal = chain (in_beside h.equal k.equal) (equal-perm_beside (dom s) (dom t) (wiring_of s) (wiring_of t) h.perm k.perm);
    }

pub wires_permutation : (t : Morphism) → IsWires t → IsTyped t → Derives [] t (permutation (dom t) (wiring_of t))
wires_permutation t w ty = (wired t w ty).equal

-- a term of wires permutes what goes in
pub run-wires : {V : Type 0} (t : Morphism) → IsWires t → IsTyped t → (mk : EdgeOf t → ℕ → V) (live : List V) → length live ≡ length (dom t) → run t mk live ≡ permuted live (wiring_of t)
run-wires (generator n a b) w ty mk live l = absurd w
run-wires (permutation a p) w ty mk live l = refl
run-wires (then s t) w ty mk live l =
    let h = wired s w.0 ty.0 in
    let under : Under (length live) (wiring_of s) = subst (λ n. Under n (wiring_of s)) (sym l) (Under-perm _ _ h.perm) in
    ap (run t (λ e. mk (inr e))) (run-wires s w.0 ty.0 (λ e. mk (inl e)) live l)
    ∙ run-wires t w.1 ty.1 (λ e. mk (inr e)) (permuted live (wiring_of s))
    (length-permuted live (wiring_of s) under ∙ h.perm.size ∙ sym (length-cod (dom s) (wiring_of s) h.perm) ∙ ap length (h.cods ∙ ty.2))
    ∙ permuted-permuted live (wiring_of s) under (wiring_of t)
run-wires (beside s t) w ty mk live l =
    let h = wired s w.0 ty.0 in
    let e = length-append (dom s) (dom t) in
    ap₂ (λ x y. x ++ y) (run-wires s w.0 ty.0 (λ e. mk (inl e)) (take (length (dom s)) live) (length-take_dom s t live l))
    (run-wires t w.1 ty.1 (λ e. mk (inr e)) (drop (length (dom s)) live) (length-drop_dom s t live l))
    ∙ sym (permuted-beside live (length (dom s)) (wiring_of s) (wiring_of t) (omega arith) (Under-perm _ _ h.perm))

-- derivable terms of wires are one permutation
pub derivation_wiring : (s t : Morphism) → IsWires s → IsWires t → Derives [] s t → wiring_of s ≡ wiring_of t
derivation_wiring s t ws wt d =
    let h = sound d in
    let n : ℕ = length (dom s) in
    let size : length (count_from 0 n) ≡ n = length-count_from 0 n in
    let left = wired s ws h.left in
    let right = wired t wt h.right in
    sym (run-wires s ws h.left (λ e i. 0) (count_from 0 n) size ∙ permuted-numbers n (wiring_of s) (Under-perm n _ left.perm))
    ∙ sym (h.alike.runs (λ e i. 0) (count_from 0 n) size)
    ∙ run-wires t wt h.right (λ e i. 0) (count_from 0 n) (size ∙ ap length h.alike.doms)
    ∙ permuted-numbers n (wiring_of t) (subst (λ m. Under m (wiring_of t)) (sym (ap length h.alike.doms)) (Under-perm _ _ right.perm))

-- terms of wires with one domain and one permutation are equal by the laws
pub wiring_derivation : (s t : Morphism) → IsWires s → IsWires t → IsTyped s → IsTyped t → dom s ≡ dom t → wiring_of s ≡ wiring_of t → Derives [] s t
wiring_derivation s t ws wt ts ty a p =
    chain (subst (λ q. Equal s (permutation (dom t) q)) p (subst (λ d. Equal s (permutation d (wiring_of s))) a (wires_permutation s ws ts)))
    (back (wires_permutation t wt ty))

pub wires_decided : (s t : Morphism) → IsWires s → IsWires t → IsTyped s → IsTyped t → Derives [] s t ↔ ((dom s ≡ dom t) × (wiring_of s ≡ wiring_of t))
wires_decided s t ws wt ts ty = (λ d. ((derivation_equation d).doms, derivation_wiring s t ws wt d), λ e. wiring_derivation s t ws wt ts ty e.0 e.1)
