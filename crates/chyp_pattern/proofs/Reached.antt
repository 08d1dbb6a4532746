-- Whether an edge of a plain graph is reached from an image is decided: edges are found one by one, until no more are.
use Rattle.std.proofs.Common.{[], ℕ, zero, suc, ◌+◌, ◌<◌, ◌≡◌, true, List, ◌∷◌, ◌++◌, length, Option, Some, None, slice_get, ◌⊎◌, inl, inr, refl, sym, ◌∙◌, subst, arith}
use Rattle.std.specs.List.{AllByRecursion}
use Rattle.chyp_term.specs.Perm.{count_from, permuted}
use Rattle.chyp_term.specs.Positions.{is_apart}
use Rattle.chyp_term.proofs.Permuted.{length-count_from}
use Rattle.chyp_term.proofs.Positions.{slice_get-length}
use Rattle.chyp_term.proofs.Deciding.{Decided, decide-both, decided-by, decide-true, search_below}
use Rattle.chyp_term.proofs.Members.{decide-some, Member, below-member, flat-member, member-flat, member-left, member-right, member-split, Contains-member, member-Contains, member-permuted}
use Rattle.chyp_term.proofs.Members.{permuted-member, decide-member}
use Rattle.chyp_term.proofs.Apart.{Apart}
use Rattle.chyp_term.proofs.SameMembers.{all-member, member-all}
use Rattle.chyp_term.proofs.Ordered.{Sorted, pigeonhole}
use Rattle.chyp_graph.specs.PlainGraph.{Edge, PlainGraph, targets_of}
use Rattle.chyp_pattern.specs.Occurrence.{IsReached, first, next}

apart-sorted : (xs : List ℕ) → Apart xs → Sorted (λ a b. ¬ (a ≡ b)) xs
apart-sorted [] a = tt
apart-sorted (x ∷ xs) a = (a.0, apart-sorted xs a.1)

-- ## what is reached

-- an edge that is reached is one
pub reached-below : {g : PlainGraph} {es ws : List ℕ} {k : ℕ} → IsReached g es ws k → k < length g.edges
reached-below {g} {k = k} (first {e = e} s o c d) = slice_get-length g.edges k e s
reached-below {g} {k = k} (next {e = e} r t s o c d) = slice_get-length g.edges k e s

-- and outside the image
pub reached-outside : {g : PlainGraph} {es ws : List ℕ} {k : ℕ} → IsReached g es ws k → is_apart es k ≡ true
reached-outside (first s o c d) = o
reached-outside (next r t s o c d) = o

module _ (g : PlainGraph) (es ws : List ℕ) where
  -- the image wires and the targets of some edges
  hot : List ℕ → List ℕ
  hot found = ws ++ targets_of (permuted g.edges found)

  -- the edge is outside the image and takes one of these
  record TakesHot (found : List ℕ) (k : ℕ) : Type 0 where
    pub edge : Edge
    pub is : slice_get g.edges k ≡ Some edge
    pub outside : is_apart es k ≡ true
    pub wire : ℕ
    pub source : Member wire edge.sources
    pub hot_wire : Member wire (hot found)

  decide-takes : (found : List ℕ) (k : ℕ) → Decided (TakesHot found k)
  decide-takes found k = go (slice_get g.edges k) refl
    where
      go : (o : Option Edge) → slice_get g.edges k ≡ o → Decided (TakesHot found k)
      go None q = inr (λ t. let e : ◌≡◌ {A = Option Edge} None (Some t.edge) = sym q ∙ t.is in cc)
      go (Some e) q = decided-by
          (λ r. record { edge = e; is = q; outside = r.0; wire = r.1.0; source = r.1.1; hot_wire = r.1.2 })
          (λ t. let s : ◌≡◌ {A = Option Edge} (Some e) (Some t.edge) = sym q ∙ t.is in let same : e ≡ t.edge = cc in
          (t.outside, (t.wire, subst (λ (d : Edge). Member t.wire d.sources) (sym same) t.source, t.hot_wire)))
          (decide-both (decide-true (is_apart es k)) (decide-some (λ w. Member w (hot found)) (λ w. decide-member w (hot found)) e.sources))

  -- such an edge is reached, where these edges are
  takes-reached : (found : List ℕ) (k : ℕ) → AllByRecursion (IsReached g es ws) found → TakesHot found k → IsReached g es ws k
  unfolding hot
  takes-reached found k a t = go (member-split ws (targets_of (permuted g.edges found)) t.wire t.hot_wire)
    where
      go : (Member t.wire ws) ⊎ (Member t.wire (targets_of (permuted g.edges found))) → IsReached g es ws k
      go (inl m) = first t.is t.outside (member-Contains ws t.wire m) (member-Contains t.edge.sources t.wire t.source)
      go (inr m) =
          let d = flat-member (λ e. e.targets) (permuted g.edges found) t.wire m in
          let j = permuted-member g.edges found d.0 d.1 in
          next (member-all (IsReached g es ws) found j.0 a j.1) j.2 t.is t.outside (member-Contains d.0.targets t.wire d.2)
          (member-Contains t.edge.sources t.wire t.source)

  -- no other edge takes what these make
  IsEnough : List ℕ → Type 0
  IsEnough found = (k : ℕ) → k < length g.edges → (Member k found → ⊥) × TakesHot found k → ⊥

  settle : (found : List ℕ) → IsEnough found → (k : ℕ) → TakesHot found k → Member k found
  unfolding IsEnough
  settle found f k t = go (decide-member k found)
    where
      go : Decided (Member k found) → Member k found
      go (inl m) = m
      go (inr n) = absurd (f k (slice_get-length g.edges k t.edge t.is) (n, t))

  enough-reached : (found : List ℕ) → IsEnough found → (k : ℕ) → IsReached g es ws k → Member k found
  unfolding hot
  enough-reached found f k (first {e = e} s o {w = w} c d) =
      settle found f k (record {
        edge = e;
        is = s;
        outside = o;
        wire = w;
        source = Contains-member e.sources w d;
        hot_wire = member-left ws
            (targets_of (permuted g.edges found)) w (Contains-member ws w c);
      })
  enough-reached found f k (next {j = j} {d = d} {e = e} r t s o {w = w} c q) =
      settle found f k (record {
        edge = e;
        is = s;
        outside = o;
        wire = w;
        source = Contains-member e.sources w q;
        hot_wire =
            member-right ws (targets_of (permuted g.edges found)) w
            (member-flat (λ e. e.targets) (permuted g.edges found) d w (member-permuted g.edges found j d (enough-reached found f j r) t)
            (Contains-member d.targets w c));
      })

  -- these are the edges that are reached, in some order
  record AreReached (found : List ℕ) : Type 0 where
    pub each : AllByRecursion (IsReached g es ws) found
    pub all : (k : ℕ) → IsReached g es ws k → Member k found

  negated : {P : Type 0} → Decided P → Decided (P → ⊥)
  negated (inl p) = inr (λ n. n p)
  negated (inr n) = inl n

  -- once as many are found as there are, there is no other
  no_more : (found : List ℕ) → Apart found → AllByRecursion (IsReached g es ws) found → length found ≡ length g.edges → IsEnough found
  unfolding IsEnough
  no_more found a r q k h t =
      let c = pigeonhole (λ j. j) (k ∷ found) (count_from 0 (length g.edges))
      (apart-sorted (k ∷ found) (all-member (λ j. ¬ (k ≡ j)) found (λ j m e. t.0 (subst (λ z. Member z found) (sym e) m)), a))
      (λ j m. below-member (length g.edges) j (inside j m)) in
      let n = length-count_from 0 (length g.edges) in
      omega arith
    where
      inside : (j : ℕ) → (k ≡ j) ⊎ Member j found → j < length g.edges
      inside j (inl e) = subst (λ z. z < length g.edges) e h
      inside j (inr m) = reached-below (member-all (IsReached g es ws) found j r m)

  -- one more edge is found, or all are
  find_reached : (fuel : ℕ) (found : List ℕ) → Apart found → AllByRecursion (IsReached g es ws) found → fuel + length found ≡ length g.edges
      → (all : List ℕ) × AreReached all
  unfolding IsEnough
  find_reached zero found a r q = (found, record { each = r; all = enough-reached found (no_more found a r (omega arith)) })
  find_reached (suc fuel) found a r q =
      go (search_below (λ k. (Member k found → ⊥) × TakesHot found k) (λ k. decide-both (negated (decide-member k found)) (decide-takes found k))
      (length g.edges))
      (λ k b c d. find_reached fuel (k ∷ found) b c d)
    where
      go : ((k : ℕ) × (k < length g.edges) × ((Member k found → ⊥) × TakesHot found k)) ⊎
          ((k : ℕ) → k < length g.edges → (Member k found → ⊥) × TakesHot found k → ⊥)
          → ((k : ℕ) → Apart (k ∷ found) → AllByRecursion (IsReached g es ws) (k ∷ found) → fuel + length (k ∷ found) ≡ length g.edges
          → (all : List ℕ) × AreReached all) → (all : List ℕ) × AreReached all
      go (inl (k, h, c)) more =
          more k (all-member (λ j. ¬ (k ≡ j)) found (λ j m e. c.0 (subst (λ z. Member z found) (sym e) m)), a) (takes-reached found k r c.1, r) (omega arith)
      go (inr f) more = (found, record { each = r; all = enough-reached found f })

  pub decide-reached : (k : ℕ) → Decided (IsReached g es ws k)
  decide-reached k =
      let f = find_reached (length g.edges) [] tt tt (omega arith) in
      decided-by (λ m. member-all (IsReached g es ws) f.0 k f.1.each m) (λ r. f.1.all k r) (decide-member k f.0)
