-- Each plain graph has the anchors of its components, and only one list of them.
use Rattle.std.proofs.Common.{[], ℕ, zero, suc, ◌+◌, ◌<◌, ◌≤◌, ◌≡◌, List, ◌∷◌, ◌++◌, map, length, Option, Some, None, slice_get, ◌⊎◌, inl, inr, refl, sym, ◌∙◌, ap₂, subst, arith}
use Rattle.std.specs.Prelude.{Contains, flat_map}
use Rattle.std.proofs.lemmas.Bool.{cases_eq, cases_lt}
use Rattle.chyp_term.specs.Positions.{is_apart}
use Rattle.chyp_term.proofs.Deciding.{Decided, decided-by, decide-below, decide-both, decide-less, decide-then, decide-true, search_below}
use Rattle.chyp_term.proofs.Members.{Member, Contains-member, decide-member, get-member, member-Contains, member-flat}
use Rattle.chyp_term.proofs.Ordered.{get-sorted, sorted-same}
use Rattle.chyp_term.proofs.Positions.{slice_get-length}
use Rattle.chyp_graph.specs.PlainGraph.{Edge, PlainGraph, sources_of, targets_of}
use Rattle.chyp_pattern.specs.Component.{AreAnchors, AreJoined, AreThose, IsBare, IsFirstEdge, IsPortOf, same, next}
use Rattle.chyp_pattern.specs.declared.anchor.Anchor.{Anchor}
use Rattle.chyp_pattern.specs.declared.anchor.Anchor.TheVariants.{Edge as AtEdge, Wire as AtWire}
use Rattle.chyp_pattern.proofs.Anchoring.{AreThoseBelow, those-end, those-none, those-push, those-skip}
use Rattle.chyp_pattern.proofs.Joined.{joined-share, joined-trans}

-- ---- the numbers for which something holds

-- where it is decided, those below n can be listed
some-below : (P : ℕ → Type 0) → ((k : ℕ) → Decided (P k)) → (n : ℕ) → (ns : List ℕ) × AreThoseBelow P n ns
some-below P decide zero = ([], those-none P)
some-below P decide (suc n) = go (some-below P decide n) (decide n)
  where
    at : n + 1 ≡ suc n
    at = omega arith

    go : (ns : List ℕ) × AreThoseBelow P n ns → Decided (P n) → (ns : List ℕ) × AreThoseBelow P (suc n) ns
    go (ns, t) (inl p) = (ns ++ n ∷ [], subst (λ m. AreThoseBelow P m (ns ++ n ∷ [])) at (those-push P n ns t p))
    go (ns, t) (inr p) = (ns, subst (λ m. AreThoseBelow P m ns) at (those-skip P n ns t p))

-- where there are only some below n, all can be listed
pub some-those : (P : ℕ → Type 0) → ((k : ℕ) → Decided (P k)) → (n : ℕ) → ((k : ℕ) → P k → k < n) → (ns : List ℕ) × AreThose P ns
some-those P decide n few = let some = some-below P decide n in (some.0, those-end P n some.0 few some.1)

-- in one way
pub those-once : (P : ℕ → Type 0) (ns ms : List ℕ) → AreThose P ns → AreThose P ms → ns ≡ ms
those-once P ns ms a b =
    sorted-same (λ m n. m < n) (λ m n h k. absurd (omega arith)) ns ms
    (get-sorted (λ m n. m < n) ns (λ i j m n h e f. a.increasing i j m n h e f)) (get-sorted (λ m n. m < n) ms (λ i j m n h e f. b.increasing i j m n h e f))
    (λ k m. Contains-member ms k ((b.members k).1 ((a.members k).0 (member-Contains ns k m))))
    (λ k m. Contains-member ns k ((a.members k).1 ((b.members k).0 (member-Contains ms k m))))

-- ---- whether edges are joined

module _ (g : PlainGraph) where
  decide-port : (k w : ℕ) → Decided (IsPortOf g k w)
  decide-port k w = go (slice_get g.edges k) refl
    where
      go : (o : Option Edge) → slice_get g.edges k ≡ o → Decided (IsPortOf g k w)
      go None e = inr (λ p. let both : None ≡ Some p.edge = sym e ∙ p.is in absurd cc)
      go (Some edge) e = member (decide-member w (edge.sources ++ edge.targets))
        where
          member : Decided (Member w (edge.sources ++ edge.targets)) → Decided (IsPortOf g k w)
          member (inl m) = inl (record { edge = edge; is = e; has = member-Contains (edge.sources ++ edge.targets) w m })
          member (inr n) = inr (λ p.
              let both : Some p.edge ≡ Some edge = sym p.is ∙ e in
              let one : p.edge ≡ edge = cc in
              n (Contains-member (edge.sources ++ edge.targets) w (subst (λ (x : Edge). Contains (x.sources ++ x.targets) w) one p.has)))

  -- some edge that has the wire w has the property
  abbrev HasAt : ℕ → (ℕ → Type 0) → Type 0
  HasAt w P = (a : ℕ) × (IsPortOf g a w × P a)

  decide-at : (w : ℕ) (P : ℕ → Type 0) → ((k : ℕ) → Decided (P k)) → Decided (HasAt w P)
  decide-at w P decide = go (search_below (λ a. IsPortOf g a w × P a) (λ a. decide-both (decide-port a w) (decide a)) (length g.edges))
    where
      go : ((a : ℕ) × (a < length g.edges) × (IsPortOf g a w × P a)) ⊎ ((a : ℕ) → a < length g.edges → IsPortOf g a w × P a → ⊥) → Decided (HasAt w P)
      go (inl (a, h, p)) = inl (a, p)
      go (inr none) = inr (λ r. none r.0 (slice_get-length g.edges r.0 r.1.0.edge r.1.0.is) r.1)

  -- wires below n join the edges
  abbrev Via : ℕ → ℕ → ℕ → Type 0
  Via zero j k = j ≡ k
  Via (suc n) j k = Via n j k ⊎ (HasAt n (λ a. Via n j a) × HasAt n (λ b. Via n b k))

  decide-via : (n j k : ℕ) → Decided (Via n j k)
  decide-via zero j k = cases_eq j k
  decide-via (suc n) j k = go (decide-via n j k)
      (decide-both (decide-at n (λ a. Via n j a) (λ a. decide-via n j a)) (decide-at n (λ b. Via n b k) (λ b. decide-via n b k)))
    where
      go : Decided (Via n j k) → Decided (HasAt n (λ a. Via n j a) × HasAt n (λ b. Via n b k)) → Decided (Via (suc n) j k)
      go (inl v) d = inl (inl v)
      go (inr v) (inl d) = inl (inr d)
      go (inr v) (inr d) = inr (λ r. elim r [ inl x ↦ v x | inr y ↦ d y ])

  via-joined : (n j k : ℕ) → Via n j k → AreJoined g j k
  via-joined zero j k e = subst (AreJoined g j) e same
  via-joined (suc n) j k (inl v) = via-joined n j k v
  via-joined (suc n) j k (inr ((a, (p, x)), (b, (q, y)))) =
      joined-trans g j a k (via-joined n j a x) (joined-trans g a b k (joined-share g a b n p q) (via-joined n b k y))

  via-refl : (n k : ℕ) → Via n k k
  via-refl zero k = refl
  via-refl (suc n) k = inl (via-refl n k)

  via-next : (n j k l w : ℕ) → w < n → IsPortOf g k w → IsPortOf g l w → Via n j k → Via n j l
  via-next zero j k l w h p q v = absurd (omega arith)
  via-next (suc n) j k l w h p q v = go (cases_lt w n) v (λ i m x. via-next n m k l w i p q x)
    where
      go : (w < n) ⊎ (n ≤ w) → Via (suc n) j k → (w < n → (m : ℕ) → Via n m k → Via n m l) → Via (suc n) j l
      go (inl i) (inl x) below = inl (below i j x)
      go (inl i) (inr (x, (b, (r, y)))) below = inr (x, (b, (r, below i b y)))
      go (inr i) x below =
          let same : w ≡ n = omega arith in
          last (subst (IsPortOf g k) same p) (subst (IsPortOf g l) same q) x
        where
          last : IsPortOf g k n → IsPortOf g l n → Via (suc n) j k → Via (suc n) j l
          last p q (inl x) = inr ((k, (p, x)), (l, (q, via-refl n l)))
          last p q (inr (x, y)) = inr (x, (l, (q, via-refl n l)))

  -- all ports are below the bound
  abbrev ArePortsBelow : ℕ → Type 0
  ArePortsBelow bound = (k w : ℕ) → IsPortOf g k w → w < bound

  joined-via : (bound : ℕ) → ArePortsBelow bound → (j k : ℕ) → AreJoined g j k → Via bound j k
  joined-via bound few j k same = via-refl bound j
  joined-via bound few j k (next {k = m} r {w = w} s t) = via-next bound j m k w (few m w s) s t (joined-via bound few j m r)

  joined-below : (j k : ℕ) → AreJoined g j k → j < length g.edges → k < length g.edges
  joined-below j k same h = h
  joined-below j k (next r s t) h = slice_get-length g.edges k t.edge t.is

  decide-first : (bound : ℕ) → ArePortsBelow bound → (k : ℕ) → Decided (IsFirstEdge g k)
  decide-first bound few k = decided-by
      (λ r. record { there = r.0; first = λ l j. r.1 l (joined-below k l j r.0) j })
      (λ f. (f.there, λ l h j. f.first l j))
      (decide-both (decide-less k (length g.edges))
      (decide-below (λ l. AreJoined g k l → k ≤ l)
      (λ l. decide-then (decided-by (via-joined bound k l) (joined-via bound few k l) (decide-via bound k l)) (at_most k l)) (length g.edges)))
    where
      at_most : (m n : ℕ) → Decided (m ≤ n)
      at_most m n = go (cases_lt n m)
        where
          go : (n < m) ⊎ (m ≤ n) → Decided (m ≤ n)
          go (inl h) = inr (λ k. absurd (omega arith))
          go (inr h) = inl h

  decide-bare : (w : ℕ) → Decided (IsBare g w)
  decide-bare w = decided-by (λ r. record { there = r.0; unmade = r.1.0; unused = r.1.1 }) (λ b. (b.there, (b.unmade, b.unused)))
      (decide-both (decide-less w (length g.wires)) (decide-both (decide-true (is_apart (targets_of g.edges) w)) (decide-true (is_apart (sources_of g.edges) w))))

-- ---- anchors

numbers-below : (xs : List ℕ) → (bound : ℕ) × ((w : ℕ) → Member w xs → w < bound)
numbers-below [] = (0, λ w m. absurd m)
numbers-below (x ∷ xs) = go (numbers-below xs)
  where
    go : (bound : ℕ) × ((w : ℕ) → Member w xs → w < bound) → (bound : ℕ) × ((w : ℕ) → Member w (x ∷ xs) → w < bound)
    go (bound, few) = (suc x + bound, λ w m. each w m)
      where
        each : (w : ℕ) → (x ≡ w) ⊎ Member w xs → w < suc x + bound
        each w (inl e) = omega arith
        each w (inr m) = let h = few w m in omega arith

ports-below : (g : PlainGraph) → (bound : ℕ) × ArePortsBelow g bound
ports-below g = let all = numbers-below (flat_map (λ (e : Edge). e.sources ++ e.targets) g.edges) in (
  all.0,
  λ k w p. all.1 w (member-flat (λ (e : Edge). e.sources ++ e.targets) g.edges p.edge w (get-member g.edges k p.edge p.is)
      (Contains-member (p.edge.sources ++ p.edge.targets) w p.has)),
)

-- each plain graph has anchors
pub some-anchors : (g : PlainGraph) → (anchors : List Anchor) × AreAnchors g anchors
some-anchors g =
    let few = ports-below g in
    let edges = some-those (IsFirstEdge g) (decide-first g few.0 few.1) (length g.edges) (λ k f. f.there) in
    let wires = some-those (IsBare g) (decide-bare g) (length g.wires) (λ w b. b.there) in
    (map AtEdge edges.0 ++ map AtWire wires.0, record { edges = edges.0; wires = wires.0; is = refl; first_edges = edges.1; bare_wires = wires.1 })

-- and only one list of them
pub anchors-once : (g : PlainGraph) (anchors others : List Anchor) → AreAnchors g anchors → AreAnchors g others → anchors ≡ others
anchors-once g anchors others a b =
    a.is ∙ ap₂ (λ x y. map AtEdge x ++ map AtWire y) (those-once (IsFirstEdge g) a.edges b.edges a.first_edges b.first_edges)
    (those-once (IsBare g) a.wires b.wires a.bare_wires b.bare_wires) ∙ sym b.is
