-- The ends of a rule in a graph: as many on both sides, within, and apart.
use Rattle.std.proofs.Common.{ℕ, ◌<◌, ◌≡◌, List, All, map, length, Some, slice_index, sym, ◌∙◌, ap, subst}
use Rattle.std.proofs.lemmas.List.{length-map}
use Rattle.chyp_term.specs.Positions.{place_of}
use Rattle.chyp_term.proofs.Blocks.{under-members}
use Rattle.chyp_term.proofs.Permuted.{length-permuted}
use Rattle.chyp_graph.specs.PlainGraph.{PlainGraph}
use Rattle.chyp_pattern.specs.Replacement.{IsGraphRule}
use Rattle.chyp_graph.specs.Validity.{IsValid}
use Rattle.chyp_graph.proofs.Drafting.{index-map}
use Rattle.chyp_term.proofs.Members.{All-members, Member, get-member, map-member, place-first}
use Rattle.chyp_replace.specs.Numbers.{AreApart}
use Rattle.chyp_graph.proofs.Numbering.{input-below, output-below}
use Rattle.chyp_term.proofs.Closure.{get-index}

-- graphs with the same sorts at their ends have as many ends
pub same-inputs : (l r : PlainGraph) → IsGraphRule l r → length l.inputs ≡ length r.inputs
same-inputs l r rule =
    sym (length-permuted l.wires l.inputs (under-members (length l.wires) l.inputs (input-below l rule.left)))
    ∙ ap length rule.inputs ∙ length-permuted r.wires r.inputs (under-members (length r.wires) r.inputs (input-below r rule.right))

pub same-outputs : (l r : PlainGraph) → IsGraphRule l r → length l.outputs ≡ length r.outputs
same-outputs l r rule =
    sym (length-permuted l.wires l.outputs (under-members (length l.wires) l.outputs (output-below l rule.left)))
    ∙ ap length rule.outputs ∙ length-permuted r.wires r.outputs (under-members (length r.wires) r.outputs (output-below r rule.right))

pub output-apart : (h : PlainGraph) → IsValid h → AreApart h.outputs
output-apart h v i j a b e =
    let p = place-first (length h.wires) h.outputs _ v.consumers i a in
    let q = place-first (length h.wires) h.outputs _ v.consumers j b in
    let r : Some i ≡ Some j = sym p ∙ ap (λ w. place_of w h.outputs) e ∙ q in cc

-- lists that are mapped from lists of one length
pub same-mapped : (f g : ℕ → ℕ) (xs ys us vs : List ℕ) → us ≡ map f xs → vs ≡ map g ys → length xs ≡ length ys → length us ≡ length vs
same-mapped f g xs ys us vs e q h = ap length e ∙ length-map xs f ∙ h ∙ sym (length-map ys g) ∙ sym (ap length q)

-- the images of some wires
module _ (images ks us : List ℕ) (e : us ≡ map (slice_index images) ks) (below : (w : ℕ) → Member w ks → w < length images) where
  pub images-within : (n m : ℕ) → n ≡ m → All (λ w. w < n) images → All (λ w. w < m) us
  images-within n m q a =
      subst (All (λ w. w < m)) (sym e) (All-members (map (slice_index images) ks) (λ w k.
      let p = map-member (slice_index images) ks w k in
      subst (λ v. v < m) p.2 (subst (λ b. slice_index images p.0 < b) q (a p.0 0 (below p.0 p.1)))))

  pub images-apart : AreApart images → AreApart ks → AreApart us
  images-apart a b = subst AreApart (sym e) (λ i j h k q. on i j (subst (λ n. i < n) (length-map ks (slice_index images)) h) (subst (λ n. j < n) (length-map ks (slice_index images)) k) q)
    where
      item : (i : ℕ) → i < length ks → slice_index ks i < length images
      item i h = below (slice_index ks i) (get-member ks i (slice_index ks i) (get-index ks i h))

      on : (i j : ℕ) → i < length ks → j < length ks → slice_index (map (slice_index images) ks) i ≡ slice_index (map (slice_index images) ks) j → i ≡ j
      on i j h k q = b i j h k (a (slice_index ks i) (slice_index ks j) (item i h) (item j k) (sym (index-map (slice_index images) ks i h) ∙ q ∙ index-map (slice_index images) ks j k))
