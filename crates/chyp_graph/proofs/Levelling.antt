-- The rounds in which edges are taken away, from an order in which they can be.
use Rattle.std.proofs.Common.{[], ℕ, zero, suc, ◌+◌, ◌-◌, ◌<◌, ◌≤◌, ◌≡◌, ◌≢◌, true, false, List, ◌∷◌, ◌++◌, length, take, Some, slice_get, slice_index, slice_set, ◌⊎◌, inl, inr, All, refl}
use Rattle.std.proofs.Common.{sym, ◌∙◌, ap, subst, arith}
use Rattle.std.specs.List.{cons_option}
use Rattle.std.proofs.lemmas.Bool.{cases_Bool, cases_lt}
use Rattle.std.proofs.Math.ListN.{length-set}
use Rattle.chyp_term.specs.Perm.{permuted}
use Rattle.chyp_term.specs.Positions.{is_among}
use Rattle.chyp_term.proofs.Closure.{get-index, index-get}
use Rattle.chyp_term.proofs.Permuted.{permuted-append}
use Rattle.chyp_term.proofs.Positions.{slice_get-length}
use Rattle.chyp_term.proofs.Members.{Member, all-members, among-member, filter-member, flat-member, get-member, member-among, member-flat, member-get, member-left, member-right, member-split}
use Rattle.chyp_term.proofs.Members.{members-all, All-from_get_members, Contains-member}
use Rattle.chyp_term.proofs.Slices.{get-set_other, take-suc, set-cases}
use Rattle.chyp_term.proofs.Rearrangement.{flat-append}
use Rattle.chyp_graph.specs.Graph.{target_at}
use Rattle.chyp_graph.specs.PlainGraph.{Edge, PlainGraph, targets_of}
use Rattle.chyp_graph.specs.Removal.{AreLevels, IsLiveFrom, IsTopologicalOrder, IsWritten, live_behind}
use Rattle.chyp_graph.specs.Rounds.{AreRounds, IsRound, is_taken_within}
use Rattle.chyp_graph.specs.Validity.{IsValid, is_ready, taken_within}
use Rattle.chyp_graph.proofs.Removing.{Once-apart, Once-perm, Once-right, port-once}
use Rattle.chyp_graph.proofs.Rounds.{edge-taken, live-later, live_after, taken-member}

-- ## numbers written at wires

among-less : (xs ys : List ℕ) (v : ℕ) → is_among (xs ++ ys) v ≡ false → is_among xs v ≡ false
among-less xs ys v h = go (cases_Bool (is_among xs v))
  where
    go : (is_among xs v ≡ true) ⊎ (is_among xs v ≡ false) → is_among xs v ≡ false
    go (inl t) = let r = member-among (xs ++ ys) v (member-left xs ys v (among-member xs v t)) in absurd (cc)
    go (inr f) = f

pub written-more : (wires : List ℕ) (i w x : ℕ) (before now : List ℕ) → slice_get wires i ≡ Some w → w < length before → IsWritten (take i wires) x before now
    → IsWritten (take (i + 1) wires) x before (slice_set now w x)
written-more wires i w x before now q b t = record {
  size = length-set now w x ∙ t.size;
  at = λ v n h m. at v n (set-cases now w x v n room h) (member-split (take i wires) (w ∷ []) v (among-member (take i wires ++ w ∷ []) v (ap (λ l. is_among l v) (sym next) ∙ m)));
  rest = λ v m. rest v (ap (λ l. is_among l v) (sym next) ∙ m);
}
  where
    next : take (i + 1) wires ≡ take i wires ++ w ∷ []
    next = take-suc wires i w q

    room : w < length now
    room = let s = t.size in omega arith

    at : (v n : ℕ) → ((v ≡ w) × (n ≡ x)) ⊎ ((v ≢ w) × (slice_get now v ≡ Some n)) → (Member v (take i wires)) ⊎ ((w ≡ v) ⊎ ⊥) → n ≡ x
    at v n (inl k) m = k.1
    at v n (inr k) (inl m) = t.at v n k.1 (member-among (take i wires) v m)
    at v n (inr k) (inr (inl e)) = absurd (k.0 (sym e))
    at v n (inr k) (inr (inr e)) = absurd e

    rest : (v : ℕ) → is_among (take i wires ++ w ∷ []) v ≡ false → slice_get (slice_set now w x) v ≡ slice_get before v
    rest v m =
        get-set_other now w v x (λ e. let r = member-among (take i wires ++ w ∷ []) v (member-right (take i wires) (w ∷ []) v (inl (sym e))) in absurd (cc))
        ∙ t.rest v (among-less (take i wires) (w ∷ []) v m)

-- ## the round of one edge

pub among-later : (g : PlainGraph) (n m w : ℕ) → n ≤ m → is_among (live_after g n) w ≡ true → is_among (live_after g m) w ≡ true
among-later g n m w l h =
    let e : n + (m - n) ≡ m = omega arith in
    member-among (live_after g m) w (subst (λ x. Member w (live_after g x)) e (live-later g n (m - n) w (among-member (live_after g n) w h)))

-- the first number above those of the sources
pub round-is : (g : PlainGraph) (live levels : List ℕ) (e : Edge) (r : ℕ) → AreLevels g live levels → is_ready live e ≡ true → All (λ w. w < length levels) e.sources
    → ((i : ℕ) → i < length e.sources → slice_index levels (slice_index e.sources i) < r)
    → (r ≡ 1) ⊎ ((i : ℕ) × (i < length e.sources) × (slice_index levels (slice_index e.sources i) + 1 ≡ r)) → 0 < r → IsRound g e r
round-is g live levels e zero t h b above least p = absurd (omega arith)
round-is g live levels e (suc m) t h b above least p = record {
  by_then = all-members (is_among (live_after g m)) e.sources (λ w k. ready w (member-get e.sources w k));
  not_before = before;
}
  where
    dated : (i : ℕ) → i < length e.sources → IsLiveFrom g (slice_index e.sources i) (slice_index levels (slice_index e.sources i))
    dated i l =
        let w = slice_index e.sources i in
        let at : slice_get e.sources i ≡ Some w = get-index e.sources i l in
        t.each w (slice_index levels w) (members-all (is_among live) e.sources h w (get-member e.sources i w at)) (get-index levels w (b i 0 l))

    ready : (w : ℕ) → (i : ℕ) × (slice_get e.sources i ≡ Some w) → is_among (live_after g m) w ≡ true
    ready w i =
        let l = slice_get-length e.sources i.0 w i.1 in
        let x : slice_index e.sources i.0 ≡ w = index-get e.sources i.0 w i.1 in
        let d = dated i.0 l in
        let a = above i.0 l in
        subst (λ v. is_among (live_after g m) v ≡ true) x (among-later g (slice_index levels (slice_index e.sources i.0)) m (slice_index e.sources i.0) (omega arith) d.by_then)

    before : (n : ℕ) → n < suc m → is_taken_within g e n ≡ false
    before zero l = refl
    before (suc q) l = go least (cases_Bool (is_ready (live_after g q) e))
      where
        go : (suc m ≡ 1) ⊎ ((i : ℕ) × (i < length e.sources) × (slice_index levels (slice_index e.sources i) + 1 ≡ suc m))
            → (is_ready (live_after g q) e ≡ true) ⊎ (is_ready (live_after g q) e ≡ false) → is_ready (live_after g q) e ≡ false
        go x (inr f) = f
        go (inl x) (inl y) = absurd (omega arith)
        go (inr x) (inl y) =
            let u = x.2 in
            let w = slice_index e.sources x.0 in
            let d = (dated x.0 x.1).not_before q (omega arith) in
            let z = members-all (is_among (live_after g q)) e.sources y w (get-member e.sources x.0 w (get-index e.sources x.0 x.1)) in
            absurd (cc)

-- it is not above the number of edges
pub round-few : (g : PlainGraph) → IsValid g → (k : ℕ) (e : Edge) (r : ℕ) → slice_get g.edges k ≡ Some e → IsRound g e r → r ≤ length g.edges
round-few g v k e r q t = go (cases_lt (length g.edges) r)
  where
    go : (length g.edges < r) ⊎ (r ≤ length g.edges) → r ≤ length g.edges
    go (inr l) = l
    go (inl l) =
        let x = edge-taken g v.acyclic e (get-member g.edges k e q) in
        let w = x.within in
        let f : is_taken_within g e (suc x.round) ≡ false = t.not_before (suc x.round) (omega arith) in
        let y : is_taken_within g e (suc x.round) ≡ true = x.ready in
        absurd (cc)

-- from it on its targets are live
pub target-live : (g : PlainGraph) → IsValid g → (k : ℕ) (e : Edge) (r w : ℕ) → slice_get g.edges k ≡ Some e → IsRound g e r → Member w e.targets → IsLiveFrom g w r
target-live g v k e r w q t m = record { by_then = now r t.by_then; not_before = λ n l. before n l (cases_Bool (is_among (live_after g n) w)) }
  where
    once : (xs : List ℕ) → Member w g.inputs → Member w (targets_of g.edges) → ⊥
    once xs a b = Once-apart g.inputs (targets_of g.edges) (Once-perm (length g.wires) _ v.producers) w a b

    here : Member w (targets_of g.edges)
    here = member-flat (λ e. e.targets) g.edges e w (get-member g.edges k e q) m

    now : (r : ℕ) → is_taken_within g e r ≡ true → is_among (live_after g r) w ≡ true
    now zero h = cc
    now (suc n) h =
        member-among (live_after g (suc n)) w (member-right g.inputs (targets_of (taken_within g (suc n))) w
        (member-flat (λ e. e.targets) (taken_within g (suc n)) e w (taken-member g n e (get-member g.edges k e q) h) m))

    same : (d : Edge) → Member d g.edges → Member w d.targets → d ≡ e
    same d a b =
        let j = member-get g.edges d a in
        let i = member-get d.targets w b in
        let l = member-get e.targets w m in
        let x : target_at g j.0 i.0 ≡ Some w = rw j.1 i.1 in
        let y : target_at g k l.0 ≡ Some w = rw q l.1 in
        let z = port-once (λ e. e.targets) g.edges (Once-right g.inputs (targets_of g.edges) (Once-perm (length g.wires) _ v.producers)) j.0 k i.0 l.0 w x y in
        let f : Some d ≡ Some e = sym j.1 ∙ ap (slice_get g.edges) z.0 ∙ q in
        cc

    taken : (n : ℕ) (d : Edge) → Member d (taken_within g n) → d ≡ e → is_taken_within g e n ≡ true
    taken zero d a b = absurd a
    taken (suc n) d a b = subst (λ x. is_ready (live_after g n) x ≡ true) b (filter-member (is_ready (live_after g n)) g.edges d a).1

    inside : (n : ℕ) (d : Edge) → Member d (taken_within g n) → Member d g.edges
    inside zero d a = absurd a
    inside (suc n) d a = (filter-member (is_ready (live_after g n)) g.edges d a).0

    before : (n : ℕ) → n < r → (is_among (live_after g n) w ≡ true) ⊎ (is_among (live_after g n) w ≡ false) → is_among (live_after g n) w ≡ false
    before n l (inr f) = f
    before n l (inl h) = absurd (split (member-split g.inputs (targets_of (taken_within g n)) w (among-member (live_after g n) w h)))
      where
        split : (Member w g.inputs) ⊎ (Member w (targets_of (taken_within g n))) → ⊥
        split (inl a) = once [] a here
        split (inr a) =
            let d = flat-member (λ e. e.targets) (taken_within g n) w a in
            let f = t.not_before n l in
            let y = taken n d.0 d.1 (same d.0 (inside n d.0 d.1) d.2) in
            cc

pub levels-more : (g : PlainGraph) → IsValid g → length g.edges < 2147483648 → (order levels new : List ℕ) (j k r : ℕ) (e : Edge) → slice_get order j ≡ Some k
    → slice_get g.edges k ≡ Some e → IsRound g e r
    → AreLevels g (live_behind g (take j order)) levels → IsWritten e.targets r levels new → AreLevels g (live_behind g (take (j + 1) order)) new
levels-more g v small order levels new j k r e h q t d u = record {
  size = u.size ∙ d.size;
  few = All-from_get_members {P = λ m. m < 2147483648} new (λ m a. let i = member-get new m a in few i.0 m i.1 (cases_Bool (is_among e.targets i.0)));
  each = λ w n a p. each w n p (member-split g.inputs (targets_of (permuted g.edges (take (j + 1) order))) w (among-member (live_behind g (take (j + 1) order)) w a))
      (cases_Bool (is_among e.targets w));
}
  where
    few : (w m : ℕ) → slice_get new w ≡ Some m → (is_among e.targets w ≡ true) ⊎ (is_among e.targets w ≡ false) → m < 2147483648
    few w m p (inl a) = let x = u.at w m p a in let y = round-few g v k e r q t in omega arith
    few w m p (inr a) = let x = sym (u.rest w a) ∙ p in subst (λ z. z < 2147483648) (index-get levels w m x) (d.few w 0 (slice_get-length levels w m x))

    next : targets_of (permuted g.edges (take (j + 1) order)) ≡ targets_of (permuted g.edges (take j order)) ++ targets_of (permuted g.edges (k ∷ []))
    next =
        ap (λ l. targets_of (permuted g.edges l)) (take-suc order j k h) ∙ ap targets_of (permuted-append g.edges (take j order) (k ∷ []))
        ∙ flat-append (λ e. e.targets) (permuted g.edges (take j order)) (permuted g.edges (k ∷ []))

    last : (w : ℕ) → Member w (targets_of (permuted g.edges (k ∷ []))) → Member w e.targets
    last w m = go (member-split e.targets [] w (subst (λ o. Member w (targets_of (cons_option o []))) q m))
      where
        go : (Member w e.targets) ⊎ ⊥ → Member w e.targets
        go (inl x) = x
        go (inr x) = absurd x

    older : (w n : ℕ) → slice_get new w ≡ Some n → is_among e.targets w ≡ false → is_among (live_behind g (take j order)) w ≡ true → IsLiveFrom g w n
    older w n p f a = d.each w n a (sym (u.rest w f) ∙ p)

    each : (w n : ℕ) → slice_get new w ≡ Some n → (Member w g.inputs) ⊎ (Member w (targets_of (permuted g.edges (take (j + 1) order))))
        → (is_among e.targets w ≡ true) ⊎ (is_among e.targets w ≡ false) → IsLiveFrom g w n
    each w n p m (inl a) = subst (IsLiveFrom g w) (sym (u.at w n p a)) (target-live g v k e r w q t (among-member e.targets w a))
    each w n p (inl m) (inr f) = older w n p f (member-among (live_behind g (take j order)) w (member-left g.inputs _ w m))
    each w n p (inr m) (inr f) = go (member-split (targets_of (permuted g.edges (take j order))) (targets_of (permuted g.edges (k ∷ []))) w (subst (Member w) next m))
      where
        go : (Member w (targets_of (permuted g.edges (take j order)))) ⊎ (Member w (targets_of (permuted g.edges (k ∷ [])))) → IsLiveFrom g w n
        go (inl x) = older w n p f (member-among (live_behind g (take j order)) w (member-right g.inputs _ w x))
        go (inr x) = let y = member-among e.targets w (last w x) in absurd (cc)

-- the rounds of the first edges in the order are known
abbrev pub AreKnown : PlainGraph → List ℕ → List ℕ → ℕ → Type 0
AreKnown g order rounds j = (i k : ℕ) (e : Edge) (r : ℕ) → i < j → slice_get order i ≡ Some k → slice_get g.edges k ≡ Some e → slice_get rounds k ≡ Some r → IsRound g e r

pub known-more : (g : PlainGraph) (order rounds : List ℕ) (j k r : ℕ) (e : Edge) → slice_get order j ≡ Some k → slice_get g.edges k ≡ Some e → k < length rounds
    → IsRound g e r → AreKnown g order rounds j → AreKnown g order (slice_set rounds k r) (j + 1)
known-more g order rounds j k r e h q b t a i m d s l p y z = go (set-cases rounds k r m s b z)
  where
    go : ((m ≡ k) × (s ≡ r)) ⊎ ((m ≢ k) × (slice_get rounds m ≡ Some s)) → IsRound g d s
    go (inl x) =
        let f : Some d ≡ Some e = sym y ∙ ap (slice_get g.edges) x.0 ∙ q in
        let de : d ≡ e = cc in
        subst (λ n. IsRound g d n) (sym x.1) (subst (λ c. IsRound g c r) (sym de) t)
    go (inr x) = before (cases_lt i j)
      where
        before : (i < j) ⊎ (j ≤ i) → IsRound g d s
        before (inl c) = a i m d s c p y x.1
        before (inr c) =
            let ij : i ≡ j = omega arith in
            let f : Some m ≡ Some k = sym p ∙ ap (slice_get order) ij ∙ h in
            absurd (x.0 cc)

pub rounds-known : (g : PlainGraph) (order rounds : List ℕ) (j : ℕ) → IsTopologicalOrder g order → length rounds ≡ length g.edges → length order ≤ j → AreKnown g order rounds j → AreRounds g rounds
rounds-known g order rounds j t s l a = record {
  size = s;
  each = λ k e r q h.
      let i = member-get order k (Contains-member order k (t.all k (slice_get-length g.edges k e q))) in
      let b = slice_get-length order i.0 k i.1 in
      a i.0 k e r (omega arith) i.1 q h;
}

pub least-positive : (levels sources : List ℕ) (r : ℕ) → (r ≡ 1) ⊎ ((i : ℕ) × (i < length sources) × (slice_index levels (slice_index sources i) + 1 ≡ r)) → 0 < r
least-positive levels sources r (inl e) = omega arith
least-positive levels sources r (inr i) = let e = i.2 in omega arith
