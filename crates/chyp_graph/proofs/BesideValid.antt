-- g * h is valid where g and h are.
use Rattle.std.proofs.Common.{ℕ, ◌+◌, ◌≡◌, true, List, [], ◌++◌, map, length, ◌⊎◌, inl, inr, sym, ◌∙◌, ap, subst, arith, length-append, zero-add}
use Rattle.std.proofs.lemmas.List.{length-map, map-append}
use Rattle.chyp_term.specs.Perm.{IsPermutation, count_from}
use Rattle.chyp_term.proofs.Permuted.{count_from-0}
use Rattle.chyp_term.proofs.Positions.{count_from-append}
use Rattle.chyp_graph.specs.Composition.{beside_graph}
use Rattle.chyp_graph.specs.PlainGraph.{Edge, PlainGraph, renamed, sources_of, targets_of}
use Rattle.chyp_graph.specs.Validity.{IsValid, is_ready}
use Rattle.chyp_term.proofs.Members.{Member, map-member, member-left, member-map, member-right, member-split}
use Rattle.chyp_term.proofs.Rearrangement.{Rearr, Rearr-append, Rearr-inner, Rearr-map, Rearr-permutation, Rearr-same, join, permutation-Rearr}
use Rattle.chyp_graph.proofs.Rounds.{IsTaken, all-taken, carry, edge-taken, live_after, ready-more, ready-renamed}
use Rattle.chyp_graph.proofs.ThenValid.{renamed-id, sources-joined, targets-joined}

module _ (g h : PlainGraph) (vg : IsValid g) (vh : IsValid h) where
  all-wires : count_from 0 (length (beside_graph g h).wires) ≡ count_from 0 (length g.wires) ++ map (λ w. length g.wires + w) (count_from 0 (length h.wires))
  all-wires =
      ap (count_from 0) (length-append g.wires h.wires) ∙ count_from-append 0 (length g.wires) (length h.wires)
      ∙ ap (λ r. count_from 0 (length g.wires) ++ r) (ap (λ n. count_from n (length h.wires)) (zero-add (length g.wires)) ∙ count_from-0 (length g.wires) (length h.wires))

  -- the ends of both, where each wire is once an end
  both : (xs ys us vs : List ℕ) → IsPermutation (length g.wires) (xs ++ ys) → IsPermutation (length h.wires) (us ++ vs)
      → Rearr (count_from 0 (length (beside_graph g h).wires)) ((xs ++ map (λ w. length g.wires + w) us) ++ (ys ++ map (λ w. length g.wires + w) vs))
  both xs ys us vs p q =
      join (Rearr-same all-wires)
      (join (Rearr-append (permutation-Rearr (length g.wires) (xs ++ ys) p)
      (join (Rearr-map (λ w. length g.wires + w) (permutation-Rearr (length h.wires) (us ++ vs) q)) (Rearr-same (map-append (λ w. length g.wires + w) us vs))))
      (Rearr-inner xs ys (map (λ w. length g.wires + w) us) (map (λ w. length g.wires + w) vs)))

  producers : Rearr (count_from 0 (length (beside_graph g h).wires)) ((beside_graph g h).inputs ++ targets_of (beside_graph g h).edges)
  producers =
      join (both g.inputs (targets_of g.edges) h.inputs (targets_of h.edges) vg.producers vh.producers)
      (Rearr-same (ap (λ r. (beside_graph g h).inputs ++ r) (sym (targets-joined (λ w. length g.wires + w) g.edges h.edges))))

  consumers : Rearr (count_from 0 (length (beside_graph g h).wires)) ((beside_graph g h).outputs ++ sources_of (beside_graph g h).edges)
  consumers =
      join (both g.outputs (sources_of g.edges) h.outputs (sources_of h.edges) vg.consumers vh.consumers)
      (Rearr-same (ap (λ r. (beside_graph g h).outputs ++ r) (sym (sources-joined (λ w. length g.wires + w) g.edges h.edges))))

  edge-left : (e : Edge) → Member e g.edges → Member (renamed (λ w. w) e) (beside_graph g h).edges
  edge-left e k = member-left g.edges _ _ (subst (λ x. Member x g.edges) (sym (renamed-id e)) k)

  edge-right : (e : Edge) → Member e h.edges → Member (renamed (λ w. length g.wires + w) e) (beside_graph g h).edges
  edge-right e k = member-right g.edges _ _ (member-map (renamed (λ w. length g.wires + w)) h.edges e k)

  live-left : (n w : ℕ) → Member w (live_after g n) → Member w (live_after (beside_graph g h) n)
  live-left n w k = subst (λ x. Member w (live_after (beside_graph g h) x)) (zero-add n)
      (carry g (beside_graph g h) (λ w. w) 0 (λ w k. member-left (beside_graph g h).inputs [] w (member-left g.inputs _ w k)) edge-left n w k)

  live-right : (n w : ℕ) → Member w (live_after h n) → Member (length g.wires + w) (live_after (beside_graph g h) n)
  live-right n w k = subst (λ x. Member (length g.wires + w) (live_after (beside_graph g h) x)) (zero-add n)
      (carry h (beside_graph g h) (λ w. length g.wires + w) 0
      (λ w k. member-left (beside_graph g h).inputs [] (length g.wires + w) (member-right g.inputs _ (length g.wires + w) (member-map (λ w. length g.wires + w) h.inputs w k))) edge-right n w k)

  taken : (e : Edge) → Member e (beside_graph g h).edges → IsTaken (beside_graph g h) e (length (beside_graph g h).edges)
  taken e k = go (member-split g.edges (map (renamed (λ w. length g.wires + w)) h.edges) e k)
    where
      size : length (beside_graph g h).edges ≡ length g.edges + length h.edges
      size = length-append g.edges _ ∙ ap (λ n. length g.edges + n) (length-map h.edges (renamed (λ w. length g.wires + w)))

      go : (Member e g.edges) ⊎ (Member e (map (renamed (λ w. length g.wires + w)) h.edges)) → IsTaken (beside_graph g h) e (length (beside_graph g h).edges)
      go (inl k) =
          let t = edge-taken g vg.acyclic e k in
          let b = t.within in
          let s = size in
          record { round = t.round; within = omega arith; ready = ready-more (live_after g t.round) (live_after (beside_graph g h) t.round) e (live-left t.round) t.ready }
      go (inr k) =
          let f = map-member (renamed (λ w. length g.wires + w)) h.edges e k in
          let t = edge-taken h vh.acyclic f.0 f.1 in
          let b = t.within in
          let s = size in
          record {
            round = t.round;
            within = omega arith;
            ready = subst (λ x. is_ready (live_after (beside_graph g h) t.round) x ≡ true) f.2
                (ready-renamed (λ w. length g.wires + w) (live_after h t.round) (live_after (beside_graph g h) t.round) f.0 (live-right t.round) t.ready);
          }

  pub beside_valid : IsValid (beside_graph g h)
  beside_valid = record {
    producers = Rearr-permutation _ _ producers;
    consumers = Rearr-permutation _ _ consumers;
    acyclic = all-taken (beside_graph g h) taken;
  }
