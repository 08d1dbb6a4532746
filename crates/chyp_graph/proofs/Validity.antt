-- The graph of a typed term is valid, and has the term's type.
use Rattle.std.proofs.Common.{ℕ, ◌+◌, ◌≡◌, true, List, [], ◌++◌, length, inl, inr, refl, sym, ◌∙◌, ap, ap₂, subst, arith, length-append, append-nil, zero-add}
use Rattle.std.proofs.lemmas.List.{length-map}
use Rattle.chyp_base.specs.declared.sort.Sort.{Sort}
use Rattle.chyp_term.specs.Morphism.{IsTyped, Morphism, beside, cod, dom, generator, permutation, then}
use Rattle.chyp_term.specs.Perm.{IsPermutation, count_from}
use Rattle.chyp_term.specs.Positions.{is_among}
use Rattle.chyp_term.proofs.Closure.{Under-perm}
use Rattle.chyp_term.proofs.Inverses.{length-shifted}
use Rattle.chyp_term.proofs.Permuted.{length-count_from, length-permuted}
use Rattle.chyp_term.proofs.Positions.{count_from-append}
use Rattle.chyp_graph.specs.Composition.{joined}
use Rattle.chyp_graph.specs.GraphOf.{graph_of}
use Rattle.chyp_graph.specs.PlainGraph.{Edge}
use Rattle.chyp_graph.specs.Validity.{IsValid, is_ready}
use Rattle.chyp_graph.proofs.BesideValid.{beside_valid}
use Rattle.chyp_term.proofs.Members.{Member, all-members, member-among, member-left}
use Rattle.chyp_term.proofs.Rearrangement.{Rearr-comm, Rearr-permutation, Rearr-same, join}
use Rattle.chyp_graph.proofs.Rounds.{IsTaken, all-taken}
use Rattle.chyp_graph.proofs.ThenValid.{then_valid}

pub length-inputs : (t : Morphism) → length (graph_of t).inputs ≡ length (dom t)
length-inputs (generator n a b) = length-count_from 0 (length a)
length-inputs (permutation a p) = length-count_from 0 (length a)
length-inputs (then s t) = length-inputs s
length-inputs (beside s t) =
    length-append (graph_of s).inputs _
    ∙ ap₂ (λ x y. x + y) (length-inputs s) (length-shifted (length (graph_of s).wires) (graph_of t).inputs ∙ length-inputs t)
    ∙ sym (length-append (dom s) (dom t))

pub length-outputs : (t : Morphism) → IsTyped t → length (graph_of t).outputs ≡ length (cod t)
length-outputs (generator n a b) ty = length-count_from (length a) (length b)
length-outputs (permutation a p) ty = sym (length-permuted a p (Under-perm (length a) p ty))
length-outputs (then s t) ty = length-map (graph_of t).outputs (joined (graph_of s) (graph_of t)) ∙ length-outputs t ty.1
length-outputs (beside s t) ty =
    length-append (graph_of s).outputs _
    ∙ ap₂ (λ x y. x + y) (length-outputs s ty.0) (length-shifted (length (graph_of s).wires) (graph_of t).outputs ∙ length-outputs t ty.1)
    ∙ sym (length-append (cod s) (cod t))

pub length-middle : (s t : Morphism) → IsTyped (then s t) → length (graph_of s).outputs ≡ length (graph_of t).inputs
length-middle s t ty = length-outputs s ty.0 ∙ ap length ty.2 ∙ sym (length-inputs t)

pub generator_valid : (n : List ℕ) (a b : List Sort) → IsValid (graph_of (generator n a b))
generator_valid n a b = record {
  producers = Rearr-permutation _ _ (Rearr-same (wires ∙ ap (λ r. count_from 0 (length a) ++ r) (sym (append-nil _))));
  consumers =
      Rearr-permutation _ _ (join (Rearr-same wires)
      (join (Rearr-comm (count_from 0 (length a)) (count_from (length a) (length b))) (Rearr-same (ap (λ r. count_from (length a) (length b) ++ r) (sym (append-nil _))))));
  acyclic = all-taken (graph_of (generator n a b)) taken;
}
  where
    wires : count_from 0 (length (a ++ b)) ≡ count_from 0 (length a) ++ count_from (length a) (length b)
    wires = ap (count_from 0) (length-append a b) ∙ count_from-append 0 (length a) (length b) ∙ ap (λ i. count_from 0 (length a) ++ count_from i (length b)) (zero-add (length a))

    taken : (e : Edge) → Member e (graph_of (generator n a b)).edges → IsTaken (graph_of (generator n a b)) e 1
    taken e (inl q) = record {
      round = 0;
      within = omega arith;
      ready = subst (λ x. is_ready (count_from 0 (length a) ++ []) x ≡ true) q
          (all-members (is_among (count_from 0 (length a) ++ [])) (count_from 0 (length a)) (λ w h. member-among _ w (member-left (count_from 0 (length a)) [] w h)));
    }
    taken e (inr q) = absurd q

pub permutation_valid : (a : List Sort) (p : List ℕ) → IsPermutation (length a) p → IsValid (graph_of (permutation a p))
permutation_valid a p ty = record {
  producers = Rearr-permutation _ _ (Rearr-same (sym (append-nil _)));
  consumers = subst (IsPermutation (length a)) (sym (append-nil p)) ty;
  acyclic = refl;
}

pub valid : (t : Morphism) → IsTyped t → IsValid (graph_of t)
valid (generator n a b) ty = generator_valid n a b
valid (permutation a p) ty = permutation_valid a p ty
valid (then s t) ty = then_valid (graph_of s) (graph_of t) (valid s ty.0) (valid t ty.1) (length-middle s t ty)
valid (beside s t) ty = beside_valid (graph_of s) (graph_of t) (valid s ty.0) (valid t ty.1)
