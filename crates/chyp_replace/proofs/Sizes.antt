-- How many edges and wires a graph has with an occurrence replaced.
use Rattle.std.proofs.Common.{[], ℕ, zero, suc, ◌+◌, ◌<◌, ◌≡◌, List, ◌∷◌, ◌++◌, map, length, filter, slice_index, refl, sym, ◌∙◌, ap, ap₂, arith, append-nil, length-append}
use Rattle.std.proofs.lemmas.List.{length-map}
use Rattle.std.proofs.lemmas.List.Elements.{filter-append}
use Rattle.chyp_term.specs.Perm.{count_from, permuted}
use Rattle.chyp_term.specs.Positions.{is_apart}
use Rattle.chyp_term.proofs.Apart.{Apart, Apart-split, Rearr-Apart, numbers_apart}
use Rattle.chyp_term.proofs.Closure.{index-get}
use Rattle.chyp_term.proofs.Members.{Member, below-member, filter-all, filter-none, member-not_apart, not_member-apart}
use Rattle.chyp_term.proofs.Ordered.{all-get}
use Rattle.chyp_term.proofs.Permuted.{Under, length-count_from, length-permuted}
use Rattle.chyp_term.proofs.Positions.{Under-filter, slice_get-length}
use Rattle.chyp_term.proofs.Rearrangement.{Rearr-filter, Rearr-length}
use Rattle.chyp_term.proofs.SameMembers.{all-member, member-all, take_out}
use Rattle.chyp_graph.specs.PlainGraph.{PlainGraph}
use Rattle.chyp_graph.proofs.Drafting.{member-under}
use Rattle.chyp_pattern.specs.Occurrence.{IsOccurrence}
use Rattle.chyp_pattern.specs.Replacement.{kept_edges, kept_wires, replaced}
use Rattle.chyp_pattern.proofs.Listed.{images-under}
use Rattle.chyp_replace.specs.Numbers.{AreApart}

-- numbers at places of which no two have one number
apart-by_places : (xs : List ℕ) → AreApart xs → Apart xs
apart-by_places [] f = tt
apart-by_places (x ∷ xs) f = (
  all-get (λ y. ¬ (x ≡ y)) xs (λ j y e q.
      let l = slice_get-length xs j y e in
      let z : zero ≡ suc j = f zero (suc j) (omega arith) (omega arith) (q ∙ sym (index-get (x ∷ xs) (suc j) y e)) in
      omega arith),
  apart-by_places xs (λ i j h l e. let z : suc i ≡ suc j = f (suc i) (suc j) (omega arith) (omega arith) e in omega arith),
)

-- of n numbers those that are no images are as many as there are fewer images
kept-count : (n : ℕ) (ks : List ℕ) → Under n ks → Apart ks → length (filter (is_apart ks) (count_from 0 n)) + length ks ≡ n
kept-count n ks u a =
    let t = take_out ks (count_from 0 n) a (all-member (λ w. Member w (count_from 0 n)) ks (λ w m. below-member n w (member-under n ks w u m))) in
    let apart = Apart-split t.0 ks (Rearr-Apart t.1 (numbers_apart n)) in
    let kept : filter (is_apart ks) (t.0 ++ ks) ≡ t.0 =
    filter-append (is_apart ks) t.0 ks
    ∙ ap₂ (λ x y. x ++ y)
    (filter-all (is_apart ks) t.0 (λ w m. not_member-apart ks w (λ k. member-all (λ y. ¬ (w ≡ y)) ks w (member-all _ t.0 w apart.2 m) k refl)))
    (filter-none (is_apart ks) ks (λ w m. member-not_apart ks w m))
    ∙ append-nil t.0 in
    let r = Rearr-length (Rearr-filter (is_apart ks) t.1) ∙ ap length kept in
    let s = Rearr-length t.1 ∙ length-append t.0 ks in
    let c = length-count_from 0 n in
    omega arith

module _ (l r g : PlainGraph) (es ws : List ℕ) (o : IsOccurrence l g es ws) where
  -- the left side's edges go, and the right side's come
  pub replaced-edges : length (replaced g l r es ws).edges + length l.edges ≡ length g.edges + length r.edges
  replaced-edges =
      let k = kept-count (length g.edges) es (images-under l g es ws o).0 (apart-by_places es o.edges_apart) in
      let p = length-permuted g.edges (kept_edges g es) (Under-filter (is_apart es) (length g.edges) 0 (length g.edges) (omega arith)) in
      let c = o.edge_count in
      simp (length-append, length-map) (omega arith)

  -- likewise the wires
  pub replaced-wires : length (replaced g l r es ws).wires + length l.wires ≡ length g.wires + length r.wires
  replaced-wires =
      let k = kept-count (length g.wires) ws (images-under l g es ws o).1 (apart-by_places ws o.wires_apart) in
      let p = length-permuted g.wires (kept_wires g ws) (Under-filter (is_apart ws) (length g.wires) 0 (length g.wires) (omega arith)) in
      let c = o.wire_count in
      simp (length-append, length-map) (omega arith)
