-- What stands before each round.
use Rattle.std.proofs.Common.{ℕ, zero, suc, ◌+◌, ◌-◌, ◌<◌, ◌≤◌, ◌≡◌, Bool, true, false, not, ◌&&◌, List, [], ◌∷◌, ◌++◌, length, take, filter, All, ◌⊎◌, inl, inr, refl, sym, ◌∙◌, ap, ap₂, subst, arith, add-one, append_assoc, length-append}
use Rattle.std.proofs.lemmas.Bool.{and_parts, cases_Bool}
use Rattle.std.proofs.lemmas.List.{get_or_append_left, map-append, take_all}
use Rattle.chyp_term.specs.declared.term.Term.{Term}
use Rattle.chyp_term.specs.Morphism.{Morphism}
use Rattle.chyp_term.specs.Term.{morphism_of, morphisms_of}
use Rattle.chyp_term.specs.Perm.{IsPermutation}
use Rattle.chyp_term.specs.Positions.{is_among, is_apart}
use Rattle.chyp_term.proofs.Blocks.{permutation-member}
use Rattle.chyp_term.proofs.Members.{All-members, Member, Rearr-member, among-member, filter-all, filter-member, flat-member, member-among, member-filter, member-flat, member-left, member-split, parts-apart}
use Rattle.chyp_term.proofs.Rearrangement.{Rearr, Rearr-sym}
use Rattle.chyp_graph.specs.PlainGraph.{Edge, PlainGraph, sources_of, targets_of}
use Rattle.chyp_graph.specs.Rounds.{is_taken_within}
use Rattle.chyp_graph.specs.Validity.{IsValid, taken_within}
use Rattle.chyp_extract.specs.Extraction.{crossing, parts_from, passed_by}
use Rattle.chyp_extract.specs.Placing.{left_after, placed_after}
use Rattle.chyp_extract.proofs.Layers.{places-perm}
use Rattle.chyp_extract.proofs.Placing.{IsAt, is-at_first, is-at_next, parts-round, ready-is}
use Rattle.chyp_extract.proofs.Rounds.{IsBefore, last-split, live-split}
use Rattle.chyp_extractor.specs.Crossing.{IsReordered}
use Rattle.chyp_extractor.specs.Fronts.{is_used_within, live_at, others_at, parts_at, wanted_at}
use Rattle.chyp_extractor.proofs.Lists.{All-member, filter-same_on}
use Rattle.chyp_extractor.proofs.Sorting.{in-taken, taken-in}

reordered : (g : PlainGraph) (live wanted us : List ℕ) → length g.wires < 2147483648 → IsPermutation (length g.wires) (live ++ us) → Rearr live wanted → IsReordered g live wanted
reordered g live wanted us few t r = record {
  within = All-members {P = λ w. w < length g.wires} live below;
  apart = λ i j h k e. let s = size in t.apart i j (omega arith) (omega arith) (get_or_append_left live us 0 i h ∙ e ∙ sym (get_or_append_left live us 0 j k));
  few = let s = size in omega arith;
  there = All-members {P = λ w. is_among live w ≡ true} wanted (λ w m. member-among live w (Rearr-member w (Rearr-sym r) m));
  inside = All-members {P = λ w. w < length g.wires} wanted (λ w m. below w (Rearr-member w (Rearr-sym r) m));
  places = places-perm g live wanted us t r;
}
  where
    below : (w : ℕ) → Member w live → w < length g.wires
    below w m = permutation-member (length g.wires) (live ++ us) t w (member-left live us w m)

    size : length live + length us ≡ length g.wires
    size = sym (length-append live us) ∙ t.size

-- the edges that are placed within n rounds
abbrev pub done_at : PlainGraph → ℕ → List Edge
done_at g zero = []
done_at g (suc n) = placed_after g n ++ done_at g n

pub both_ways : (b c : Bool) → (b ≡ true → c ≡ true) → (c ≡ true → b ≡ true) → b ≡ c
both_ways true c f g = sym (f refl)
both_ways false true f g = g refl
both_ways false false f g = refl

module _ (g : PlainGraph) (v : IsValid g) where
  pub at-front : (n : ℕ) → IsAt g (live_at g n) (done_at g n) n
  at-front zero = is-at_first g v
  at-front (suc n) = is-at_next g v (live_at g n) (done_at g n) n (at-front n)

  -- the live wires are those that the next round wants, in some order
  pub wanted-split : (n : ℕ) → Rearr (live_at g n) (wanted_at g n)
  wanted-split n =
      let s = at-front n in
      subst (λ es. Rearr (live_at g n) (sources_of es ++ passed_by es (live_at g n))) (ready-is g v (live_at g n) (done_at g n) n s)
      (live-split g v (live_at g n) (done_at g n) (left_after g n) n s.before)

  pub round-reordered : length g.wires < 2147483648 → (n : ℕ) → IsReordered g (live_at g n) (wanted_at g n)
  round-reordered few n = reordered g (live_at g n) (wanted_at g n) (sources_of (done_at g n) ++ targets_of (left_after g n)) few (at-front n).before.made (wanted-split n)

  -- behind the last round they are the outputs, in some order
  pub end-split : (n : ℕ) → left_after g n ≡ [] → Rearr (live_at g n) g.outputs
  end-split n e = last-split g v (live_at g n) (done_at g n) n (subst (λ es. IsBefore g (live_at g n) (done_at g n) es n) e (at-front n).before)

  pub end-reordered : length g.wires < 2147483648 → (n : ℕ) → left_after g n ≡ [] → IsReordered g (live_at g n) g.outputs
  end-reordered few n e = reordered g (live_at g n) g.outputs (sources_of (done_at g n) ++ targets_of (left_after g n)) few (at-front n).before.made (end-split n e)

  -- a live wire is used in the next round, or passed by
  used-placed : (n w : ℕ) → Member w (live_at g n) → is_used_within g (suc n) w ≡ is_among (sources_of (placed_after g n)) w
  used-placed n w m = both_ways (is_used_within g (suc n) w) (is_among (sources_of (placed_after g n)) w)
      (λ u.
      let d = flat-member (λ e. e.sources) (taken_within g (suc n)) w (among-member (sources_of (taken_within g (suc n))) w u) in
      let t = in-taken g d.0 (suc n) d.1 in
      member-among (sources_of (placed_after g n)) w (member-flat (λ e. e.sources) (placed_after g n) d.0 w (placed d.0 t.0 t.1 d.2 (cases_Bool (is_taken_within g d.0 n))) d.2))
      (λ u.
      let d = flat-member (λ e. e.sources) (placed_after g n) w (among-member (sources_of (placed_after g n)) w u) in
      let k = filter-member (λ e. is_taken_within g e (suc n) && not (is_taken_within g e n)) g.edges d.0 d.1 in
      member-among (sources_of (taken_within g (suc n))) w (member-flat (λ e. e.sources) (taken_within g (suc n)) d.0 w
      (taken-in g d.0 (suc n) k.0 (and_parts (is_taken_within g d.0 (suc n)) (not (is_taken_within g d.0 n)) k.1).0) d.2))
    where
      s : IsAt g (live_at g n) (done_at g n) n
      s = at-front n

      not_done : (e : Edge) → Member w e.sources → Member e (done_at g n) → ⊥
      not_done e q d =
          parts-apart (length g.wires) (live_at g n) (sources_of (done_at g n) ++ targets_of (left_after g n)) s.before.made w m
          (member-left (sources_of (done_at g n)) (targets_of (left_after g n)) w (member-flat (λ e. e.sources) (done_at g n) e w d q))

      placed : (e : Edge) → Member e g.edges → is_taken_within g e (suc n) ≡ true → Member w e.sources
          → (is_taken_within g e n ≡ true) ⊎ (is_taken_within g e n ≡ false) → Member e (placed_after g n)
      placed e h t q (inr f) =
          member-filter (λ d. is_taken_within g d (suc n) && not (is_taken_within g d n)) g.edges e h (ap₂ (λ a b. a && not b) t f)
      placed e h t q (inl a) = go (member-split (done_at g n) (left_after g n) e (Rearr-member e s.before.edges h))
        where
          go : (Member e (done_at g n)) ⊎ (Member e (left_after g n)) → Member e (placed_after g n)
          go (inl d) = absurd (not_done e q d)
          go (inr l) = let k = (filter-member (λ d. not (is_taken_within g d n)) g.edges e l).1 in let z : not (is_taken_within g e n) ≡ false = ap not a in absurd (cc)

  pub others-are : (n : ℕ) → filter (λ w. not (is_used_within g (suc n) w)) (live_at g n) ≡ others_at g n
  others-are n = filter-same_on (λ w. not (is_used_within g (suc n) w)) (is_apart (sources_of (placed_after g n))) (live_at g n) (λ w m. ap not (used-placed n w m))

  pub others-end : (n i : ℕ) (live others : List ℕ) → live ≡ live_at g n → length live ≤ i → others ≡ filter (λ w. not (is_used_within g (n + 1) w)) (take i live) → others ≡ others_at g n
  others-end n i live others e l o =
      o ∙ ap (filter (λ w. not (is_used_within g (n + 1) w))) (take_all i live l ∙ e) ∙ ap (λ m. filter (λ w. not (is_used_within g m w)) (live_at g n)) (add-one n) ∙ others-are n

  pub others-within : length g.wires < 2147483648 → (n : ℕ) → All (λ w. w < length g.wires) (others_at g n)
  others-within few n = All-members {P = λ w. w < length g.wires} (others_at g n) (λ w m.
      All-member (λ w. w < length g.wires) (live_at g n) (round-reordered few n).within w (filter-member (is_apart (sources_of (placed_after g n))) (live_at g n) w m).0)

  -- ## the parts of a round

  -- before the first round
  pub parts-first : parts_from g (length g.edges) g.inputs g.edges ≡ parts_from g (length g.edges - 0) (live_at g 0) (left_after g 0)
  parts-first =
      let z : length g.edges ≡ length g.edges - 0 = omega arith in
      ap₂ (λ k es. parts_from g k g.inputs es) z (sym (filter-all (λ e. not (is_taken_within g e 0)) g.edges (λ e m. refl)))

  parts-at : (n k : ℕ) → (left_after g n ≡ [] → ⊥) → parts_from g (suc k) (live_at g n) (left_after g n) ≡ parts_at g n ++ parts_from g k (live_at g (suc n)) (left_after g (suc n))
  parts-at n k some =
      parts-round g v (live_at g n) (done_at g n) n (at-front n) k some
      ∙ sym (append_assoc (crossing g (live_at g n) (wanted_at g n)) _ (parts_from g k (live_at g (suc n)) (left_after g (suc n))))

  pub parts-more : (n : ℕ) (whole before after : List Morphism) → (left_after g n ≡ [] → ⊥) → n < length g.edges
      → whole ≡ before ++ parts_from g (length g.edges - n) (live_at g n) (left_after g n) → after ≡ before ++ parts_at g n
      → whole ≡ after ++ parts_from g (length g.edges - (n + 1)) (live_at g (n + 1)) (left_after g (n + 1))
  parts-more n whole before after some l e a =
      let z : length g.edges - n ≡ suc (length g.edges - (n + 1)) = omega arith in
      let q : n + 1 ≡ suc n = add-one n in
      e ∙ ap (λ k. before ++ parts_from g k (live_at g n) (left_after g n)) z
      ∙ ap (λ ps. before ++ ps) (parts-at n (length g.edges - (n + 1)) some)
      ∙ sym (append_assoc before (parts_at g n) (parts_from g (length g.edges - (n + 1)) (live_at g (suc n)) (left_after g (suc n))))
      ∙ ap₂ (λ ps m. ps ++ parts_from g (length g.edges - (n + 1)) (live_at g m) (left_after g m)) (sym a) (sym q)

  -- the parts that are left behind the last round
  pub parts-end : (n k : ℕ) → left_after g n ≡ [] → parts_from g k (live_at g n) (left_after g n) ≡ crossing g (live_at g n) g.outputs
  parts-end n k e = ap (parts_from g k (live_at g n)) e

-- the terms of a round's parts, behind others
pub parts-pushed : (before mid after : List Term) (t : Term) (cs : List Morphism) (l : Morphism) → morphisms_of mid ≡ morphisms_of before ++ cs → morphism_of t ≡ l → after ≡ mid ++ t ∷ []
    → morphisms_of after ≡ morphisms_of before ++ (cs ++ l ∷ [])
parts-pushed before mid after t cs l m e a =
    ap morphisms_of a ∙ map-append morphism_of mid (t ∷ []) ∙ ap₂ (λ xs x. xs ++ x ∷ []) m e ∙ append_assoc (morphisms_of before) cs (l ∷ [])
