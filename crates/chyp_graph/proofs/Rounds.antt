-- Rounds: what is live stays live, and a map of graphs carries rounds along.
use Rattle.std.proofs.Common.{ℕ, zero, suc, ◌+◌, ◌-◌, ◌<◌, ◌≡◌, true, List, [], ◌∷◌, ◌++◌, map, length, ◌⊎◌, inl, inr, refl, sym, subst, arith}
use Rattle.chyp_term.specs.Positions.{is_among}
use Rattle.chyp_graph.specs.PlainGraph.{Edge, PlainGraph, renamed, targets_of}
use Rattle.chyp_graph.specs.Validity.{IsValid, is_ready, taken_within}
use Rattle.chyp_term.proofs.Members.{Member, Rearr-member, all-members, among-member, below-member, filter-all, filter-member, flat-member, map-member, member-among, member-filter, member-flat}
use Rattle.chyp_term.proofs.Members.{member-left, member-map, member-right, member-split, members-all}
use Rattle.chyp_term.proofs.Rearrangement.{permutation-Rearr}

-- the wires that are live after n rounds
abbrev pub live_after : PlainGraph → ℕ → List ℕ
live_after g n = g.inputs ++ targets_of (taken_within g n)

pub taken-member : (g : PlainGraph) (n : ℕ) (e : Edge) → Member e g.edges → is_ready (live_after g n) e ≡ true → Member e (taken_within g (suc n))
taken-member g n e h r = member-filter (is_ready (live_after g n)) g.edges e h r

pub ready-more : (live more : List ℕ) (e : Edge) → ((w : ℕ) → Member w live → Member w more) → is_ready live e ≡ true → is_ready more e ≡ true
ready-more live more e f r = all-members (is_among more) e.sources (λ w h. member-among more w (f w (among-member live w (members-all (is_among live) e.sources r w h))))

pub live-suc : (g : PlainGraph) (n : ℕ) (w : ℕ) → Member w (live_after g n) → Member w (live_after g (suc n))
live-suc g zero w h = go (member-split g.inputs [] w h)
  where
    go : (Member w g.inputs) ⊎ ⊥ → Member w (live_after g (suc zero))
    go (inl k) = member-left g.inputs _ w k
    go (inr k) = absurd k
live-suc g (suc n) w h = go (member-split g.inputs (targets_of (taken_within g (suc n))) w h) (live-suc g n)
  where
    go : (Member w g.inputs) ⊎ (Member w (targets_of (taken_within g (suc n)))) → ((v : ℕ) → Member v (live_after g n) → Member v (live_after g (suc n))) → Member w (live_after g (suc (suc n)))
    go (inl k) ih = member-left g.inputs _ w k
    go (inr k) ih =
        let e = flat-member (λ e. e.targets) (taken_within g (suc n)) w k in
        let m = filter-member (is_ready (live_after g n)) g.edges e.0 e.1 in
        member-right g.inputs _ w (member-flat (λ e. e.targets) (taken_within g (suc (suc n))) e.0 w
        (taken-member g (suc n) e.0 m.0 (ready-more (live_after g n) (live_after g (suc n)) e.0 ih m.1)) e.2)

pub live-later : (g : PlainGraph) (n k : ℕ) (w : ℕ) → Member w (live_after g n) → Member w (live_after g (n + k))
live-later g n zero w h = let e : n ≡ n + zero = omega arith in subst (λ m. Member w (live_after g m)) e h
live-later g n (suc k) w h = let e : suc (n + k) ≡ n + suc k = omega arith in subst (λ m. Member w (live_after g m)) e (live-suc g (n + k) w (live-later g n k w h))

pub ready-renamed : (f : ℕ → ℕ) (live more : List ℕ) (e : Edge) → ((w : ℕ) → Member w live → Member (f w) more) → is_ready live e ≡ true → is_ready more (renamed f e) ≡ true
ready-renamed f live more e c r = all-members (is_among more) (map f e.sources) (λ v h.
    let w = map-member f e.sources v h in
    member-among more v (subst (λ x. Member x more) w.2 (c w.0 (among-member live w.0 (members-all (is_among live) e.sources r w.0 w.1)))))

-- what is live in g after n rounds is live in h after n more than a rounds, where f takes the edges of g to edges of h and
-- the inputs of g are live there after a rounds
pub carry : (g h : PlainGraph) (f : ℕ → ℕ) (a : ℕ) → ((w : ℕ) → Member w g.inputs → Member (f w) (live_after h a))
    → ((e : Edge) → Member e g.edges → Member (renamed f e) h.edges) → (n w : ℕ) → Member w (live_after g n) → Member (f w) (live_after h (a + n))
carry g h f a ins es zero w m = go (member-split g.inputs [] w m)
  where
    go : (Member w g.inputs) ⊎ ⊥ → Member (f w) (live_after h (a + zero))
    go (inl k) = live-later h a zero (f w) (ins w k)
    go (inr k) = absurd k
carry g h f a ins es (suc n) w m = go (member-split g.inputs (targets_of (taken_within g (suc n))) w m) (carry g h f a ins es n)
  where
    go : (Member w g.inputs) ⊎ (Member w (targets_of (taken_within g (suc n)))) → ((v : ℕ) → Member v (live_after g n) → Member (f v) (live_after h (a + n))) → Member (f w) (live_after h (a + suc n))
    go (inl k) ih = live-later h a (suc n) (f w) (ins w k)
    go (inr k) ih =
        let e = flat-member (λ e. e.targets) (taken_within g (suc n)) w k in
        let q = filter-member (is_ready (live_after g n)) g.edges e.0 e.1 in
        let t = taken-member h (a + n) (renamed f e.0) (es e.0 q.0) (ready-renamed f (live_after g n) (live_after h (a + n)) e.0 ih q.1) in
        let l : suc (a + n) ≡ a + suc n = omega arith in
        subst (λ x. Member (f w) (live_after h x)) l
        (member-right h.inputs (targets_of (taken_within h (suc (a + n)))) (f w) (member-flat (λ e. e.targets) (taken_within h (suc (a + n))) (renamed f e.0) (f w) t (member-map f e.0.targets w e.2)))

-- an edge is taken away in the round n + 1 or before
pub record IsTaken (g : PlainGraph) (e : Edge) (bound : ℕ) : Type 0 where
  pub round : ℕ
  pub within : round < bound
  pub ready : is_ready (live_after g round) e ≡ true

pub edge-taken : (g : PlainGraph) → taken_within g (length g.edges) ≡ g.edges → (e : Edge) → Member e g.edges → IsTaken g e (length g.edges)
edge-taken g a e h = go (length g.edges) (subst (Member e) (sym a) h)
  where
    go : (n : ℕ) → Member e (taken_within g n) → IsTaken g e n
    go zero k = absurd k
    go (suc n) k = record { round = n; within = omega arith; ready = (filter-member (is_ready (live_after g n)) g.edges e k).1 }

-- where each edge is taken away in its time, all are
pub all-taken : (g : PlainGraph) → ((e : Edge) → Member e g.edges → IsTaken g e (length g.edges)) → taken_within g (length g.edges) ≡ g.edges
all-taken g f = go (length g.edges) refl
  where
    none : (es : List Edge) → 0 ≡ length es → [] ≡ es
    none [] q = refl
    none (e ∷ es) q = absurd (omega arith)

    go : (n : ℕ) → n ≡ length g.edges → taken_within g n ≡ g.edges
    go zero q = none g.edges q
    go (suc n) q = filter-all (is_ready (live_after g n)) g.edges (λ e h.
        let t = f e h in
        let b = t.within in
        let l : t.round + (n - t.round) ≡ n = omega arith in
        ready-more (live_after g t.round) (live_after g n) e (λ w m. subst (λ x. Member w (live_after g x)) l (live-later g t.round (n - t.round) w m)) t.ready)

-- in a graph whose edges are all taken away, every wire is live in the end
pub all-live : (g : PlainGraph) → IsValid g → (w : ℕ) → w < length g.wires → Member w (live_after g (length g.edges))
all-live g v w h = subst (λ es. Member w (g.inputs ++ targets_of es)) (sym v.acyclic) (Rearr-member w (permutation-Rearr (length g.wires) _ v.producers) (below-member (length g.wires) w h))
