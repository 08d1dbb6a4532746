-- Edges that share wires, and their components.
use Rattle.std.proofs.Common.{ℕ, ◌+◌, ◌<◌, ◌≤◌, ◌≡◌, List, [], ◌∷◌, ◌++◌, length, take, append-nil, append_assoc, flat_map, Option, Some, None, slice_get, ◌⊎◌, inl, inr, IfSome, IsNone}
use Rattle.std.proofs.Common.{Contains, ◌↔◌, refl, sym, ◌∙◌, ap, subst, arith}
use Rattle.std.specs.Option.{option_and_then}
use Rattle.std.proofs.lemmas.Bool.{cases_lt}
use Rattle.chyp_term.specs.Perm.{IsPermutation}
use Rattle.chyp_term.proofs.Permuted.{get-append_left}
use Rattle.chyp_term.proofs.Positions.{slice_get-length}
use Rattle.chyp_pattern.specs.Component.{AreJoined, IsPortOf, next, same}
use Rattle.chyp_graph.specs.Graph.{source_at, target_at}
use Rattle.chyp_graph.specs.PlainGraph.{Edge, PlainGraph}
use Rattle.chyp_pattern.specs.Sweep.{AreFoundAt, AreNeighboursFound, Found, Grows, IsClosed, IsComponentFound, IsEdgeFound, IsFound}
use Rattle.chyp_graph.specs.Validity.{IsValid}
use Rattle.chyp_term.proofs.Members.{Member, get-member, member-get, member-left, member-right, member-split, Contains-member, member-Contains}
use Rattle.chyp_term.proofs.Slices.{take-suc}
use Rattle.chyp_graph.proofs.Removing.{Once-apart, Once-perm, Once-right, port-edge, port-member, port-once, port_at}

-- ## edges that are joined

pub joined-trans : (g : PlainGraph) (j k l : ℕ) → AreJoined g j k → AreJoined g k l → AreJoined g j l
joined-trans g j k l a same = a
joined-trans g j k l a (next b p q) = next (joined-trans g j k _ a b) p q

pub joined-share : (g : PlainGraph) (k l w : ℕ) → IsPortOf g k w → IsPortOf g l w → AreJoined g k l
joined-share g k l w p q = next same p q

pub joined-sym : (g : PlainGraph) (j k : ℕ) → AreJoined g j k → AreJoined g k j
joined-sym g j k same = same
joined-sym g j l (next {k} a {w} p q) = joined-trans g l k j (joined-share g l k w q p) (joined-sym g j k a)

-- ## growing

pub grows-refl : (s : Found) → Grows s s
grows-refl s = record { edges = refl; more = ([], sym (append-nil s.found)) }

pub grows-trans : (s t u : Found) → Grows s t → Grows t u → Grows s u
grows-trans s t u a b =
    let more : u.found ≡ s.found ++ (a.more.0 ++ b.more.0) = b.more.1 ∙ ap (λ xs. xs ++ b.more.0) a.more.1 ∙ append_assoc s.found a.more.0 b.more.0 in
    record { edges = b.edges ∙ a.edges; more = (a.more.0 ++ b.more.0, more) }

pub grown : (s t : Found) → Grows s t → (k : ℕ) → Contains s.found k → Contains t.found k
grown s t a k h = member-Contains t.found k (subst (Member k) (sym a.more.1) (member-left s.found a.more.0 k (Contains-member s.found k h)))

pub edge-grows : (port : Option (ℕ × ℕ)) (s t : Found) → IsEdgeFound port s t → Grows s t
edge-grows None s t h = subst (Grows s) (sym h) (grows-refl s)
edge-grows (Some p) s t h = h.grows

-- ## the edges that have a wire

-- the edge that has a wire on one side is that of the port, which is there
the-port : (ports : Edge → List ℕ) (es : List Edge) (n : ℕ) (ends : List ℕ) → IsPermutation n (ends ++ flat_map ports es) → (w : ℕ) (port : Option (ℕ × ℕ)) → (IsNone port ↔ Contains ends w)
    → IfSome port (λ p. port_at ports es p.0 p.1 ≡ Some w) → (k i : ℕ) → port_at ports es k i ≡ Some w → (s t : Found) → IsEdgeFound port s t → Contains t.found k
the-port ports es n ends t w None none there k i h s u f =
    absurd (Once-apart ends (flat_map ports es) (Once-perm n _ t) w (Contains-member ends w (none.0 refl)) (port-member ports es k i w h))
the-port ports es n ends t w (Some p) none there k i h s u f =
    let one = port-once ports es (Once-right ends (flat_map ports es) (Once-perm n _ t)) k p.0 i p.1 w h there in
    subst (Contains u.found) (sym one.0) f.found

pub source-port : (g : PlainGraph) (k i w : ℕ) → source_at g k i ≡ Some w → IsPortOf g k w
source-port g k i w h =
    let e = port-edge (λ e. e.sources) g.edges k i w h in
    record { edge = e.0; is = e.1; has = member-Contains (e.0.sources ++ e.0.targets) w (member-left e.0.sources e.0.targets w (get-member e.0.sources i w e.2)) }

pub target-port : (g : PlainGraph) (k i w : ℕ) → target_at g k i ≡ Some w → IsPortOf g k w
target-port g k i w h =
    let e = port-edge (λ e. e.targets) g.edges k i w h in
    record { edge = e.0; is = e.1; has = member-Contains (e.0.sources ++ e.0.targets) w (member-right e.0.sources e.0.targets w (get-member e.0.targets i w e.2)) }

-- a port of an edge is at one of its sources or at one of its targets
pub port-sides : (g : PlainGraph) (k w : ℕ) → IsPortOf g k w → ((i : ℕ) × (source_at g k i ≡ Some w)) ⊎ ((i : ℕ) × (target_at g k i ≡ Some w))
port-sides g k w p = go (member-split p.edge.sources p.edge.targets w (Contains-member _ w p.has))
  where
    go : (Member w p.edge.sources) ⊎ (Member w p.edge.targets) → ((i : ℕ) × (source_at g k i ≡ Some w)) ⊎ ((i : ℕ) × (target_at g k i ≡ Some w))
    go (inl m) = let r = member-get p.edge.sources w m in inl (r.0, ap (option_and_then (λ e. slice_get e.sources r.0)) p.is ∙ r.1)
    go (inr m) = let r = member-get p.edge.targets w m in inr (r.0, ap (option_and_then (λ e. slice_get e.targets r.0)) p.is ∙ r.1)

pub ports-found : (g : PlainGraph) → IsValid g → (w : ℕ) (made used : Option (ℕ × ℕ)) → (IsNone made ↔ Contains g.inputs w) → (IsNone used ↔ Contains g.outputs w)
    → IfSome made (λ p. target_at g p.0 p.1 ≡ Some w) → IfSome used (λ p. source_at g p.0 p.1 ≡ Some w) → (s t u : Found) → IsEdgeFound made s t → IsEdgeFound used t u → AreFoundAt g (w ∷ []) s u
ports-found g v w made used none-made none-used is-made is-used s t u a b =
    record {
      grows = grows-trans s t u (edge-grows made s t a) (edge-grows used t u b);
      found = λ x k c p. there k (port-sides g k w (subst (IsPortOf g k) (sym (one x (Contains-member (w ∷ []) x c))) p));
      only = λ k h. back used is-used b k h;
    }
  where
    one : (x : ℕ) → Member x (w ∷ []) → w ≡ x
    one x (inl e) = e
    one x (inr h) = absurd h

    there : (k : ℕ) → ((i : ℕ) × (source_at g k i ≡ Some w)) ⊎ ((i : ℕ) × (target_at g k i ≡ Some w)) → Contains u.found k
    there k (inl h) = the-port (λ e. e.sources) g.edges (length g.wires) g.outputs v.consumers w used none-used is-used k h.0 h.1 t u b
    there k (inr h) = grown t u (edge-grows used t u b) k (the-port (λ e. e.targets) g.edges (length g.wires) g.inputs v.producers w made none-made is-made k h.0 h.1 s t a)

    Back : ℕ → Type 0
    Back k = (Contains s.found k) ⊎ ((x : ℕ) × Contains (w ∷ []) x × IsPortOf g k x)

    here : (k : ℕ) → IsPortOf g k w → Back k
    here k p = inr (w, member-Contains (w ∷ []) w (inl refl), p)

    first : (made : Option (ℕ × ℕ)) → IfSome made (λ p. target_at g p.0 p.1 ≡ Some w) → IsEdgeFound made s t → (k : ℕ) → Contains t.found k → Back k
    first None is a k h = inl (subst (λ z. Contains z.found k) a h)
    first (Some p) is a k h = go (a.only k h)
      where
        go : (Contains s.found k) ⊎ (k ≡ p.0) → Back k
        go (inl c) = inl c
        go (inr e) = here k (subst (λ j. IsPortOf g j w) (sym e) (target-port g p.0 p.1 w is))

    back : (used : Option (ℕ × ℕ)) → IfSome used (λ p. source_at g p.0 p.1 ≡ Some w) → IsEdgeFound used t u → (k : ℕ) → Contains u.found k → Back k
    back None is b k h = first made is-made a k (subst (λ z. Contains z.found k) b h)
    back (Some p) is b k h = go (b.only k h)
      where
        go : (Contains t.found k) ⊎ (k ≡ p.0) → Back k
        go (inl c) = first made is-made a k c
        go (inr e) = here k (subst (λ j. IsPortOf g j w) (sym e) (source-port g p.0 p.1 w is))

-- ## the edges that have one of some wires

pub all-none : (g : PlainGraph) (s : Found) → AreFoundAt g [] s s
all-none g s =
    record {
      grows = grows-refl s;
      found = λ w k c p. absurd (Contains-member [] w c);
      only = λ k h. inl h;
    }

all-push : (g : PlainGraph) (vs : List ℕ) (w : ℕ) (s t u : Found) → AreFoundAt g vs s t → AreFoundAt g (w ∷ []) t u → AreFoundAt g (vs ++ w ∷ []) s u
all-push g vs w s t u a b =
    record {
      grows = grows-trans s t u a.grows b.grows;
      found = λ x k c p. there x k p (member-split vs (w ∷ []) x (Contains-member _ x c));
      only = λ k h. back k (b.only k h);
    }
  where
    there : (x k : ℕ) → IsPortOf g k x → (Member x vs) ⊎ (Member x (w ∷ [])) → Contains u.found k
    there x k p (inl m) = grown t u b.grows k (a.found x k (member-Contains vs x m) p)
    there x k p (inr m) = b.found x k (member-Contains (w ∷ []) x m) p

    Back : ℕ → Type 0
    Back k = (Contains s.found k) ⊎ ((x : ℕ) × Contains (vs ++ w ∷ []) x × IsPortOf g k x)

    from : (k : ℕ) → (Contains s.found k) ⊎ ((x : ℕ) × Contains vs x × IsPortOf g k x) → Back k
    from k (inl c) = inl c
    from k (inr h) = inr (h.0, member-Contains _ h.0 (member-left vs (w ∷ []) h.0 (Contains-member vs h.0 h.1)), h.2)

    back : (k : ℕ) → (Contains t.found k) ⊎ ((x : ℕ) × Contains (w ∷ []) x × IsPortOf g k x) → Back k
    back k (inl c) = from k (a.only k c)
    back k (inr h) = inr (h.0, member-Contains _ h.0 (member-right vs (w ∷ []) h.0 (Contains-member (w ∷ []) h.0 h.1)), h.2)

pub all-more : (g : PlainGraph) (wires : List ℕ) (i w : ℕ) (s t u : Found) → slice_get wires i ≡ Some w → AreFoundAt g (take i wires) s t → AreFoundAt g (w ∷ []) t u
    → AreFoundAt g (take (i + 1) wires) s u
all-more g wires i w s t u at a b = subst (λ xs. AreFoundAt g xs s u) (sym (take-suc wires i w at)) (all-push g (take i wires) w s t u a b)

-- the edges that share a wire with an edge are those that have one of its sources or targets
pub neighbours-found : (g : PlainGraph) (k : ℕ) (e : Edge) (s t u : Found) → slice_get g.edges k ≡ Some e → AreFoundAt g e.sources s t → AreFoundAt g e.targets t u → AreNeighboursFound g k s u
neighbours-found g k e s t u is a b =
    record {
      grows = grows-trans s t u a.grows b.grows;
      found = λ w l p q. there w l q (member-split e.sources e.targets w (Contains-member _ w (subst (λ e. Contains (e.sources ++ e.targets) w) (same-edge p.edge p.is) p.has)));
      only = λ l h. back l (b.only l h);
    }
  where
    same-edge : (d : Edge) → slice_get g.edges k ≡ Some d → d ≡ e
    same-edge d q = let both : Some d ≡ Some e = sym q ∙ is in cc

    there : (w l : ℕ) → IsPortOf g l w → (Member w e.sources) ⊎ (Member w e.targets) → Contains u.found l
    there w l q (inl m) = grown t u b.grows l (a.found w l (member-Contains e.sources w m) q)
    there w l q (inr m) = b.found w l (member-Contains e.targets w m) q

    Back : ℕ → Type 0
    Back l = (Contains s.found l) ⊎ ((w : ℕ) × IsPortOf g k w × IsPortOf g l w)

    from : (l : ℕ) → (Contains s.found l) ⊎ ((w : ℕ) × Contains e.sources w × IsPortOf g l w) → Back l
    from l (inl c) = inl c
    from l (inr h) = inr (h.0, record { edge = e; is = is; has = member-Contains _ h.0 (member-left e.sources e.targets h.0 (Contains-member e.sources h.0 h.1)) }, h.2)

    back : (l : ℕ) → (Contains t.found l) ⊎ ((w : ℕ) × Contains e.targets w × IsPortOf g l w) → Back l
    back l (inl c) = from l (a.only l c)
    back l (inr h) = inr (h.0, record { edge = e; is = is; has = member-Contains _ h.0 (member-right e.sources e.targets h.0 (Contains-member e.targets h.0 h.1)) }, h.2)

-- ## a component

-- the edges found so far are those of before and ones that are joined with k, which is found; with each of the first ones
-- those that share a wire with it are found
pub record IsComponentPart (g : PlainGraph) (k : ℕ) (s t : Found) (n : ℕ) : Type 0 where
  pub grows : Grows s t
  pub there : Contains t.found k
  pub only : (j : ℕ) → Contains t.found j → (Contains s.found j) ⊎ AreJoined g k j
  pub passed : (i j l w : ℕ) → i < n → slice_get t.found i ≡ Some j → IsPortOf g j w → IsPortOf g l w → Contains t.found l

get-grown : (s t : Found) → Grows s t → (i : ℕ) → i < length s.found → slice_get t.found i ≡ slice_get s.found i
get-grown s t a i h = ap (λ xs. slice_get xs i) a.more.1 ∙ get-append_left s.found a.more.0 i h

pub part-start : (g : PlainGraph) (k n : ℕ) (s t : Found) → n ≡ length s.found → IsClosed g s.found → IsFound k s t → IsComponentPart g k s t n
part-start g k n s t is closed f =
    record {
      grows = f.grows;
      there = f.found;
      only = λ j h. go j (f.only j h);
      passed = λ i j l w b h p q.
          let at : slice_get s.found i ≡ Some j = sym (get-grown s t f.grows i (subst (λ n. i < n) is b)) ∙ h in
          grown s t f.grows l (closed j l (member-Contains s.found j (get-member s.found i j at)) (joined-share g j l w p q));
    }
  where
    go : (j : ℕ) → (Contains s.found j) ⊎ (j ≡ k) → (Contains s.found j) ⊎ AreJoined g k j
    go j (inl c) = inl c
    go j (inr e) = inr (subst (AreJoined g k) (sym e) same)

pub part-more : (g : PlainGraph) (k n e : ℕ) (s t u : Found) → IsClosed g s.found → slice_get t.found n ≡ Some e → IsComponentPart g k s t n
    → AreNeighboursFound g e t u → IsComponentPart g k s u (n + 1)
part-more g k n e s t u closed at a f =
    record {
      grows = grows-trans s t u a.grows f.grows;
      there = grown t u f.grows k a.there;
      only = λ j h. go j (f.only j h);
      passed = λ i j l w b h p q. pass i j l w (cases_lt i n) b h p q;
    }
  where
    behind : (j w : ℕ) → IsPortOf g e w → IsPortOf g j w → (Contains s.found e) ⊎ AreJoined g k e → (Contains s.found j) ⊎ AreJoined g k j
    behind j w p q (inl c) = inl (closed e j c (joined-share g e j w p q))
    behind j w p q (inr a) = inr (next a p q)

    go : (j : ℕ) → (Contains t.found j) ⊎ ((w : ℕ) × IsPortOf g e w × IsPortOf g j w) → (Contains s.found j) ⊎ AreJoined g k j
    go j (inl c) = a.only j c
    go j (inr h) = behind j h.0 h.1 h.2 (a.only e (member-Contains t.found e (get-member t.found n e at)))

    within : n < length t.found
    within = slice_get-length t.found n e at

    pass : (i j l w : ℕ) → (i < n) ⊎ (n ≤ i) → i < n + 1 → slice_get u.found i ≡ Some j → IsPortOf g j w → IsPortOf g l w → Contains u.found l
    pass i j l w (inl b) c h p q =
        let m = within in
        grown t u f.grows l (a.passed i j l w b (sym (get-grown t u f.grows i (omega arith)) ∙ h) p q)
    pass i j l w (inr b) c h p q =
        let m = within in
        let i-is : i ≡ n = omega arith in
        let old : slice_get t.found i ≡ Some j = sym (get-grown t u f.grows i (omega arith)) ∙ h in
        let both : Some j ≡ Some e = sym old ∙ ap (slice_get t.found) i-is ∙ at in
        let is : j ≡ e = cc in
        f.found w l (subst (λ j. IsPortOf g j w) is p) q

pub part-end : (g : PlainGraph) (k n : ℕ) (s t : Found) → length t.found ≤ n → IsComponentPart g k s t n → IsComponentFound g k s t
part-end g k n s t b a = record { grows = a.grows; found = all; only = a.only }
  where
    all : (j : ℕ) → AreJoined g k j → Contains t.found j
    all j same = a.there
    all j (next {k = i} c {w} p q) =
        let at = member-get t.found i (Contains-member t.found i (all i c)) in
        let m = slice_get-length t.found at.0 i at.1 in
        a.passed at.0 i j w (omega arith) at.1 p q
