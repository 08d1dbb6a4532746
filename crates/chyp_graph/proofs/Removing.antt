-- Taking edges away one by one.
use Rattle.std.proofs.Common.{[], ℕ, zero, suc, ◌+◌, ◌<◌, ◌≤◌, ◌≡◌, ◌≢◌, Bool, true, false, List, ◌∷◌, ◌++◌, length, take, flat_map, Option, Some, None, slice_get, slice_index, slice_set}
use Rattle.std.proofs.Common.{◌⊎◌, inl, inr, All, Contains, refl, sym, ◌∙◌, ap, subst, arith, append_assoc, replicate}
use Rattle.std.specs.Option.{option_and_then}
use Rattle.std.proofs.lemmas.Bool.{cases_eq, cases_lt}
use Rattle.std.proofs.lemmas.List.{length-replicate, take-append-le, take_all}
use Rattle.std.proofs.Math.ListN.{length-set}
use Rattle.chyp_term.specs.Perm.{IsPermutation, permuted}
use Rattle.chyp_term.specs.Positions.{is_among}
use Rattle.chyp_term.proofs.Closure.{get-index, index-get}
use Rattle.chyp_term.proofs.Inverting.{pigeonhole}
use Rattle.chyp_term.proofs.Permuted.{found, get-append_left, get-append_right, permuted-append}
use Rattle.chyp_term.proofs.Positions.{slice_get-length}
use Rattle.chyp_term.proofs.Members.{Member, Rearr-member, all-members, among-member, filter-member, flat-member, get-member, member-among, member-below, member-flat, member-get, member-left}
use Rattle.chyp_term.proofs.Members.{member-right, member-split, members-all, All-from_get_members, Contains-member, member-Contains, member-permuted}
use Rattle.chyp_term.proofs.Slices.{get-set_other, get-set_same, take-suc, push-cases, set-cases, get-end, all-same}
use Rattle.chyp_term.proofs.Rearrangement.{Rearr-sym, flat-append, permutation-Rearr}
use Rattle.chyp_graph.specs.Graph.{source_at}
use Rattle.chyp_graph.specs.PlainGraph.{Edge, PlainGraph, sources_of, targets_of}
use Rattle.chyp_graph.specs.Removal.{AreLive, Grows, IsTopologicalOrder, IsSourceless, IsWaiting, StayLive, live_behind}
use Rattle.chyp_graph.specs.Validity.{IsValid, is_ready, taken_within}
use Rattle.chyp_graph.proofs.Rounds.{edge-taken, live_after}

-- ## each item at one place

abbrev pub Once : List ℕ → Type 0
Once xs = (i j k : ℕ) → slice_get xs i ≡ Some k → slice_get xs j ≡ Some k → i ≡ j

pub Once-perm : (n : ℕ) (xs : List ℕ) → IsPermutation n xs → Once xs
Once-perm n xs t i j k a b =
    let al = slice_get-length xs i k a in
    let bl = slice_get-length xs j k b in
    let size = t.size in
    t.apart i j (omega arith) (omega arith) (index-get xs i k a ∙ sym (index-get xs j k b))

pub Once-left : (xs ys : List ℕ) → Once (xs ++ ys) → Once xs
Once-left xs ys o i j k a b =
    o i j k (get-append_left xs ys i (slice_get-length xs i k a) ∙ a) (get-append_left xs ys j (slice_get-length xs j k b) ∙ b)

pub Once-right : (xs ys : List ℕ) → Once (xs ++ ys) → Once ys
Once-right xs ys o i j k a b =
    let e : length xs + i ≡ length xs + j = o (length xs + i) (length xs + j) k (get-append_right xs ys i ∙ a) (get-append_right xs ys j ∙ b) in omega arith

pub Once-apart : (xs ys : List ℕ) → Once (xs ++ ys) → (k : ℕ) → Member k xs → Member k ys → ⊥
Once-apart xs ys o k m n =
    let a = member-get xs k m in
    let b = member-get ys k n in
    let l = slice_get-length xs a.0 k a.1 in
    let e : a.0 ≡ length xs + b.0 = o a.0 (length xs + b.0) k (get-append_left xs ys a.0 l ∙ a.1) (get-append_right xs ys b.0 ∙ b.1) in
    omega arith

pub Once-push : (xs : List ℕ) (x : ℕ) → Once xs → (Member x xs → ⊥) → Once (xs ++ x ∷ [])
Once-push xs x o n i j k a b = go (push-cases xs x i k a) (push-cases xs x j k b)
  where
    go : (slice_get xs i ≡ Some k) ⊎ ((i ≡ length xs) × (k ≡ x)) → (slice_get xs j ≡ Some k) ⊎ ((j ≡ length xs) × (k ≡ x)) → i ≡ j
    go (inl p) (inl q) = o i j k p q
    go (inl p) (inr q) = absurd (n (subst (λ z. Member z xs) q.1 (get-member xs i k p)))
    go (inr p) (inl q) = absurd (n (subst (λ z. Member z xs) p.1 (get-member xs j k q)))
    go (inr p) (inr q) = p.0 ∙ sym q.0

-- ## ports

abbrev pub port_at : (Edge → List ℕ) → List Edge → ℕ → ℕ → Option ℕ
port_at ports es k i = option_and_then (λ e. slice_get (ports e) i) (slice_get es k)

pub port-edge : (ports : Edge → List ℕ) (es : List Edge) (k i w : ℕ) → port_at ports es k i ≡ Some w → (e : Edge) × (slice_get es k ≡ Some e) × (slice_get (ports e) i ≡ Some w)
port-edge ports es k i w h = go (slice_get es k) refl h
  where
    go : (o : Option Edge) → slice_get es k ≡ o → option_and_then (λ e. slice_get (ports e) i) o ≡ Some w → (e : Edge) × (slice_get es k ≡ Some e) × (slice_get (ports e) i ≡ Some w)
    go None q r = cc
    go (Some e) q r = (e, q, r)

pub port-member : (ports : Edge → List ℕ) (es : List Edge) (k i w : ℕ) → port_at ports es k i ≡ Some w → Member w (flat_map ports es)
port-member ports es k i w h = let p = port-edge ports es k i w h in member-flat ports es p.0 w (get-member es k p.0 p.1) (get-member (ports p.0) i w p.2)

-- no wire is a port at two places
pub port-once : (ports : Edge → List ℕ) (es : List Edge) → Once (flat_map ports es) → (k j i l w : ℕ) → port_at ports es k i ≡ Some w → port_at ports es j l ≡ Some w → (k ≡ j) × (i ≡ l)
port-once ports [] o k j i l w a b = cc
port-once ports (e ∷ es) o zero zero i l w a b = (refl, Once-left (ports e) (flat_map ports es) o i l w a b)
port-once ports (e ∷ es) o zero (suc j) i l w a b = absurd (Once-apart (ports e) (flat_map ports es) o w (get-member (ports e) i w a) (port-member ports es j l w b))
port-once ports (e ∷ es) o (suc k) zero i l w a b = absurd (Once-apart (ports e) (flat_map ports es) o w (get-member (ports e) l w b) (port-member ports es k i w a))
port-once ports (e ∷ es) o (suc k) (suc j) i l w a b = let r = port-once ports es (Once-right (ports e) (flat_map ports es) o) k j i l w a b in (ap suc r.0, r.1)

pub source-once : (g : PlainGraph) → IsValid g → (k j i l w : ℕ) → source_at g k i ≡ Some w → source_at g j l ≡ Some w → (k ≡ j) × (i ≡ l)
source-once g v k j i l w a b = port-once (λ e. e.sources) g.edges (Once-right g.outputs (sources_of g.edges) (Once-perm (length g.wires) _ v.consumers)) k j i l w a b

pub source-at : (g : PlainGraph) (k i : ℕ) (e : Edge) → slice_get g.edges k ≡ Some e → source_at g k i ≡ slice_get e.sources i
source-at g k i e q = ap (option_and_then (λ e. slice_get e.sources i)) q

pub Grows-trans : (xs ys zs : List ℕ) → Grows xs ys → Grows ys zs → Grows xs zs
Grows-trans xs ys zs a b = (a.0 ++ b.0, b.1 ∙ ap (λ l. l ++ b.0) a.1 ∙ append_assoc xs a.0 b.0)

pub live-more : (g : PlainGraph) (xs ys : List ℕ) (w : ℕ) → is_among (live_behind g xs) w ≡ true → is_among (live_behind g (xs ++ ys)) w ≡ true
live-more g xs ys w h = member-among (live_behind g (xs ++ ys)) w (go (member-split g.inputs (targets_of (permuted g.edges xs)) w (among-member (live_behind g xs) w h)))
  where
    go : (Member w g.inputs) ⊎ (Member w (targets_of (permuted g.edges xs))) → Member w (live_behind g (xs ++ ys))
    go (inl m) = member-left g.inputs (targets_of (permuted g.edges (xs ++ ys))) w m
    go (inr m) = member-right g.inputs (targets_of (permuted g.edges (xs ++ ys))) w
        (subst (Member w) (sym (ap targets_of (permuted-append g.edges xs ys) ∙ flat-append (λ e. e.targets) (permuted g.edges xs) (permuted g.edges ys)))
        (member-left (targets_of (permuted g.edges xs)) (targets_of (permuted g.edges ys)) w m))

pub live-grown : (g : PlainGraph) (xs ys : List ℕ) → Grows xs ys → (w : ℕ) → is_among (live_behind g xs) w ≡ true → is_among (live_behind g ys) w ≡ true
live-grown g xs ys r w h = subst (λ l. is_among (live_behind g l) w ≡ true) (sym r.1) (live-more g xs r.0 w h)

-- ## a wire becomes live

pub lit : (live : List Bool) (w v : ℕ) → w < length live → slice_get live v ≡ Some true → slice_get (slice_set live w true) v ≡ Some true
lit live w v b h = go (cases_eq v w)
  where
    go : (v ≡ w) ⊎ (v ≢ w) → slice_get (slice_set live w true) v ≡ Some true
    go (inl e) = ap (slice_get (slice_set live w true)) e ∙ get-set_same live w true b
    go (inr n) = get-set_other live w v true n ∙ h

lit-back : (live : List Bool) (w v : ℕ) → slice_get (slice_set live w true) v ≡ Some true → (v ≡ w) ⊎ (slice_get live v ≡ Some true)
lit-back live w v h = go (cases_eq v w)
  where
    go : (v ≡ w) ⊎ (v ≢ w) → (v ≡ w) ⊎ (slice_get live v ≡ Some true)
    go (inl e) = inl e
    go (inr n) = inr (sym (get-set_other live w v true n) ∙ h)

made-still : (g : PlainGraph) (live : List Bool) (order : List ℕ) (w : ℕ) → ((v : ℕ) → slice_get live v ≡ Some true → is_among (live_behind g order) v ≡ true) → is_among (live_behind g order) w ≡ true
    → (v : ℕ) → slice_get (slice_set live w true) v ≡ Some true → is_among (live_behind g order) v ≡ true
made-still g live order w m a v h = go (lit-back live w v h)
  where
    go : (v ≡ w) ⊎ (slice_get live v ≡ Some true) → is_among (live_behind g order) v ≡ true
    go (inl e) = ap (is_among (live_behind g order)) e ∙ a
    go (inr k) = m v k

-- no edge waits for it
pub waiting-same : (g : PlainGraph) (live : List Bool) (waits order : List ℕ) (w : ℕ) → IsWaiting g live waits order → w < length g.wires → is_among (live_behind g order) w ≡ true
    → ((k n : ℕ) → slice_get waits k ≡ Some n → source_at g k n ≡ Some w → ⊥) → IsWaiting g (slice_set live w true) waits order
waiting-same g live waits order w t b m none = record {
  wires = length-set live w true ∙ t.wires;
  edges = t.edges;
  passed = λ k n i v a h s. let l = t.wires in lit live w v (omega arith) (t.passed k n i v a h s);
  stuck = λ k n v a s. get-set_other live w v true (λ e. none k n a (s ∙ ap (λ x. Some x) e)) ∙ t.stuck k n v a s;
  all = t.all;
  only = t.only;
  within = t.within;
  once = t.once;
  in_order = t.in_order;
  made = made-still g live order w t.made m;
}

-- it is an output
pub output-none : (g : PlainGraph) → IsValid g → (w : ℕ) → Contains g.outputs w → (k n : ℕ) → source_at g k n ≡ Some w → ⊥
output-none g v w c k n s = Once-apart g.outputs (sources_of g.edges) (Once-perm (length g.wires) _ v.consumers) w (Contains-member g.outputs w c) (port-member (λ e. e.sources) g.edges k n w s)

-- the edge that has it as a source waits for another
pub other-none : (g : PlainGraph) → IsValid g → (waits : List ℕ) (w k i m : ℕ) → source_at g k i ≡ Some w → slice_get waits k ≡ Some m → (m ≡ i → ⊥) → (j n : ℕ)
    → slice_get waits j ≡ Some n → source_at g j n ≡ Some w → ⊥
other-none g v waits w k i m s a ne j n b r =
    let q = source-once g v k j i n w s r in
    let e : slice_get waits k ≡ Some n = ap (slice_get waits) q.0 ∙ b in
    let f : m ≡ n = cc in
    ne (f ∙ sym q.1)

-- the edge k waited for it, and waits now at a later place
pub record IsMoved (g : PlainGraph) (live : List Bool) (waits order : List ℕ) (w k i place : ℕ) : Type 0 where
  pub before : IsWaiting g live waits order
  pub valid : IsValid g
  pub wire : w < length g.wires
  pub made : is_among (live_behind g order) w ≡ true
  pub stood : slice_get waits k ≡ Some i
  pub source : source_at g k i ≡ Some w
  pub passed : (j u : ℕ) → i ≤ j → j < place → source_at g k j ≡ Some u → slice_get (slice_set live w true) u ≡ Some true
  pub stuck : (u : ℕ) → source_at g k place ≡ Some u → slice_get (slice_set live w true) u ≡ Some false

moved-passed : (g : PlainGraph) (live : List Bool) (waits order : List ℕ) (w k i place : ℕ) → IsMoved g live waits order w k i place
    → (a n j u : ℕ) → slice_get (slice_set waits k place) a ≡ Some n → j < n → source_at g a j ≡ Some u → slice_get (slice_set live w true) u ≡ Some true
moved-passed g live waits order w k i place t a n j u h l s = go (set-cases waits k place a n (slice_get-length waits k i t.stood) h)
  where
    room : w < length live
    room = let b = t.before.wires in let c = t.wire in omega arith

    here : source_at g k j ≡ Some u → j < place → (j < i) ⊎ (i ≤ j) → slice_get (slice_set live w true) u ≡ Some true
    here q b (inl x) = lit live w u room (t.before.passed k i j u t.stood x q)
    here q b (inr x) = t.passed j u x b q

    go : ((a ≡ k) × (n ≡ place)) ⊎ ((a ≢ k) × (slice_get waits a ≡ Some n)) → slice_get (slice_set live w true) u ≡ Some true
    go (inl q) = here (ap (λ b. source_at g b j) (sym q.0) ∙ s) (subst (λ b. j < b) q.1 l) (cases_lt j i)
    go (inr q) = lit live w u room (t.before.passed a n j u q.1 l s)

moved-stuck : (g : PlainGraph) (live : List Bool) (waits order : List ℕ) (w k i place : ℕ) → IsMoved g live waits order w k i place
    → (a n u : ℕ) → slice_get (slice_set waits k place) a ≡ Some n → source_at g a n ≡ Some u → slice_get (slice_set live w true) u ≡ Some false
moved-stuck g live waits order w k i place t a n u h s = go (set-cases waits k place a n (slice_get-length waits k i t.stood) h)
  where
    go : ((a ≡ k) × (n ≡ place)) ⊎ ((a ≢ k) × (slice_get waits a ≡ Some n)) → slice_get (slice_set live w true) u ≡ Some false
    go (inl q) = t.stuck u (ap (λ b. source_at g k b) (sym q.1) ∙ ap (λ b. source_at g b n) (sym q.0) ∙ s)
    go (inr q) = get-set_other live w u true (λ e. q.0 (source-once g t.valid a k n i w (s ∙ ap (λ x. Some x) e) t.source).0) ∙ t.before.stuck a n u q.1 s

-- it waits for another source
pub waiting-moved : (g : PlainGraph) (live : List Bool) (waits order : List ℕ) (w k i place u : ℕ) → IsMoved g live waits order w k i place
    → source_at g k place ≡ Some u → IsWaiting g (slice_set live w true) (slice_set waits k place) order
waiting-moved g live waits order w k i place u t r = record {
  wires = length-set live w true ∙ t.before.wires;
  edges = length-set waits k place ∙ t.before.edges;
  passed = moved-passed g live waits order w k i place t;
  stuck = moved-stuck g live waits order w k i place t;
  all = λ a n h s. all a n s (set-cases waits k place a n (slice_get-length waits k i t.stood) h);
  only = λ a n h c. only a n c (set-cases waits k place a n (slice_get-length waits k i t.stood) h);
  within = t.before.within;
  once = t.before.once;
  in_order = t.before.in_order;
  made = made-still g live order w t.before.made t.made;
}
  where
    all : (a n : ℕ) → source_at g a n ≡ None → ((a ≡ k) × (n ≡ place)) ⊎ ((a ≢ k) × (slice_get waits a ≡ Some n)) → Contains order a
    all a n s (inl q) = let e : source_at g a n ≡ source_at g k place = ap (λ b. source_at g b n) q.0 ∙ ap (source_at g k) q.1 in absurd (cc)
    all a n s (inr q) = t.before.all a n q.1 s

    only : (a n : ℕ) → Contains order a → ((a ≡ k) × (n ≡ place)) ⊎ ((a ≢ k) × (slice_get waits a ≡ Some n)) → source_at g a n ≡ None
    only a n c (inl q) = let e : source_at g k i ≡ None = t.before.only k i t.stood (subst (Contains order) q.0 c) in let f = t.source in absurd (cc)
    only a n c (inr q) = t.before.only a n q.1 c

beyond : (xs : List ℕ) (m n v : ℕ) → m ≤ n → slice_get xs m ≡ None → slice_get xs n ≡ Some v → ⊥
beyond [] m n v l a b = cc
beyond (x ∷ xs) zero n v l a b = cc
beyond (x ∷ xs) (suc m) zero v l a b = omega arith
beyond (x ∷ xs) (suc m) (suc n) v l a b = beyond xs m n v (omega arith) a b

-- it waits no more
pub waiting-done : (g : PlainGraph) (live : List Bool) (waits order : List ℕ) (w k i place : ℕ) → IsMoved g live waits order w k i place → source_at g k place ≡ None
    → IsWaiting g (slice_set live w true) (slice_set waits k place) (order ++ k ∷ [])
waiting-done g live waits order w k i place t r = record {
  wires = length-set live w true ∙ t.before.wires;
  edges = length-set waits k place ∙ t.before.edges;
  passed = moved-passed g live waits order w k i place t;
  stuck = moved-stuck g live waits order w k i place t;
  all = λ a n h s. all a n s (set-cases waits k place a n kept h);
  only = λ a n h c. only a n c (set-cases waits k place a n kept h);
  within = All-from_get_members {P = λ a. a < length g.edges} (order ++ k ∷ []) (λ a m. under a (member-split order (k ∷ []) a m));
  once = Once-push order k t.before.once (λ m. out (t.before.only k i t.stood (member-Contains order k m)));
  in_order = λ j a e h q. ordered j a e q (push-cases order k j a h);
  made = λ v h. live-more g order (k ∷ []) v (made-still g live order w t.before.made t.made v h);
}
  where
    kept : k < length waits
    kept = slice_get-length waits k i t.stood

    below : k < length g.edges
    below = let a = t.before.edges in let b = kept in omega arith

    out : source_at g k i ≡ None → ⊥
    out e = let f = t.source in cc

    all : (a n : ℕ) → source_at g a n ≡ None → ((a ≡ k) × (n ≡ place)) ⊎ ((a ≢ k) × (slice_get waits a ≡ Some n)) → Contains (order ++ k ∷ []) a
    all a n s (inl q) = member-Contains (order ++ k ∷ []) a (member-right order (k ∷ []) a (inl (sym q.0)))
    all a n s (inr q) = member-Contains (order ++ k ∷ []) a (member-left order (k ∷ []) a (Contains-member order a (t.before.all a n q.1 s)))

    only : (a n : ℕ) → Contains (order ++ k ∷ []) a → ((a ≡ k) × (n ≡ place)) ⊎ ((a ≢ k) × (slice_get waits a ≡ Some n)) → source_at g a n ≡ None
    only a n c (inl q) = ap (λ b. source_at g b n) q.0 ∙ ap (source_at g k) q.1 ∙ r
    only a n c (inr q) = other (member-split order (k ∷ []) a (Contains-member (order ++ k ∷ []) a c))
      where
        other : (Member a order) ⊎ (Member a (k ∷ [])) → source_at g a n ≡ None
        other (inl m) = t.before.only a n q.1 (member-Contains order a m)
        other (inr (inl e)) = absurd (q.0 (sym e))
        other (inr (inr e)) = absurd e

    under : (a : ℕ) → (Member a order) ⊎ (Member a (k ∷ [])) → a < length g.edges
    under a (inl m) = let x = member-get order a m in subst (λ b. b < length g.edges) (index-get order x.0 a x.1) (t.before.within x.0 0 (slice_get-length order x.0 a x.1))
    under a (inr (inl e)) = subst (λ b. b < length g.edges) e below
    under a (inr (inr e)) = absurd e

    ready : (e : Edge) → slice_get g.edges k ≡ Some e → is_ready (live_behind g order) e ≡ true
    ready e q = all-members (is_among (live_behind g order)) e.sources (λ v m. at v (member-get e.sources v m))
      where
        at : (v : ℕ) → (j : ℕ) × (slice_get e.sources j ≡ Some v) → is_among (live_behind g order) v ≡ true
        at v x =
            let s : source_at g k x.0 ≡ Some v = source-at g k x.0 e q ∙ x.1 in
            made-still g live order w t.before.made t.made v (moved-passed g live waits order w k i place t k place x.0 v (get-set_same waits k place kept) (early (cases_lt x.0 place)) s)
          where
            early : (x.0 < place) ⊎ (place ≤ x.0) → x.0 < place
            early (inl l) = l
            early (inr l) = absurd (beyond e.sources place x.0 v l (sym (source-at g k place e q) ∙ r) x.1)

    ordered : (j a : ℕ) (e : Edge) → slice_get g.edges a ≡ Some e → (slice_get order j ≡ Some a) ⊎ ((j ≡ length order) × (a ≡ k)) → is_ready (live_behind g (take j (order ++ k ∷ []))) e ≡ true
    ordered j a e q (inl h) =
        let l = slice_get-length order j a h in
        subst (λ o. is_ready (live_behind g o) e ≡ true) (sym (take-append-le j order (k ∷ []) (omega arith))) (t.before.in_order j a e h q)
    ordered j a e q (inr h) =
        let f : take j (order ++ k ∷ []) ≡ order = ap (λ n. take n (order ++ k ∷ [])) h.0 ∙ take-append-le (length order) order (k ∷ []) (omega arith) ∙ take_all (length order) order (omega arith) in
        subst (λ o. is_ready (live_behind g o) e ≡ true) (sym f) (ready e (ap (slice_get g.edges) (sym h.1) ∙ q))

pub sourceless-push : (g : PlainGraph) (n : ℕ) (order : List ℕ) → IsSourceless g n order → source_at g n 0 ≡ None → IsSourceless g (n + 1) (order ++ n ∷ [])
sourceless-push g n order t s = record {
  all = λ k h r. all k r (cases_lt k n) h;
  only = λ k c. only k (member-split order (n ∷ []) k (Contains-member (order ++ n ∷ []) k c));
  once = Once-push order n t.once (λ m. let x = (t.only n (member-Contains order n m)).0 in omega arith);
}
  where
    all : (k : ℕ) → source_at g k 0 ≡ None → (k < n) ⊎ (n ≤ k) → k < n + 1 → Contains (order ++ n ∷ []) k
    all k r (inl l) h = member-Contains (order ++ n ∷ []) k (member-left order (n ∷ []) k (Contains-member order k (t.all k l r)))
    all k r (inr l) h = member-Contains (order ++ n ∷ []) k (member-right order (n ∷ []) k (inl (omega arith)))

    only : (k : ℕ) → (Member k order) ⊎ (Member k (n ∷ [])) → (k < n + 1) × (source_at g k 0 ≡ None)
    only k (inl m) = let x = t.only k (member-Contains order k m) in let l = x.0 in (omega arith, x.1)
    only k (inr (inl e)) = (omega arith, ap (λ b. source_at g b 0) (sym e) ∙ s)
    only k (inr (inr e)) = absurd e

pub sourceless-skip : (g : PlainGraph) (n u : ℕ) (order : List ℕ) → IsSourceless g n order → source_at g n 0 ≡ Some u → IsSourceless g (n + 1) order
sourceless-skip g n u order t s = record {
  all = λ k h r. all k r (cases_lt k n) h;
  only = λ k c. let x = t.only k c in let l = x.0 in (omega arith, x.1);
  once = t.once;
}
  where
    all : (k : ℕ) → source_at g k 0 ≡ None → (k < n) ⊎ (n ≤ k) → k < n + 1 → Contains order k
    all k r (inl l) h = t.all k l r
    all k r (inr l) h = let e : k ≡ n = omega arith in let f : source_at g k 0 ≡ Some u = ap (λ b. source_at g b 0) e ∙ s in absurd (cc)

no-sources : (g : PlainGraph) (k : ℕ) (e : Edge) → slice_get g.edges k ≡ Some e → source_at g k 0 ≡ None → (live : List ℕ) → is_ready live e ≡ true
no-sources g k e q s live = go e.sources (sym (source-at g k 0 e q) ∙ s)
  where
    go : (xs : List ℕ) → slice_get xs 0 ≡ None → is_ready live (record e { sources = xs }) ≡ true
    go [] h = refl
    go (x ∷ xs) h = cc

-- no wire is live, and each edge waits at its first place
pub waiting-start : (g : PlainGraph) (live : List Bool) (waits order : List ℕ) → length live ≡ length g.wires → length waits ≡ length g.edges
    → ((w : ℕ) (b : Bool) → slice_get live w ≡ Some b → b ≡ false) → ((k n : ℕ) → slice_get waits k ≡ Some n → n ≡ 0) → IsSourceless g (length g.edges) order
    → ((k n w : ℕ) → source_at g k n ≡ Some w → w < length g.wires) → IsWaiting g live waits order
waiting-start g live waits order lw le dark first t small = record {
  wires = lw;
  edges = le;
  passed = λ k n i w a h s. let z = first k n a in absurd (omega arith);
  stuck = λ k n w a s. let l = small k n w s in let f = found live w (omega arith) in f.1 ∙ ap (λ b. Some b) (dark w f.0 f.1);
  all = λ k n a s. let l = slice_get-length waits k n a in t.all k (omega arith) (ap (source_at g k) (sym (first k n a)) ∙ s);
  only = λ k n a c. ap (source_at g k) (first k n a) ∙ (t.only k c).1;
  within = All-from_get_members {P = λ a. a < length g.edges} order (λ k m. (t.only k (member-Contains order k m)).0);
  once = t.once;
  in_order = λ j k e h q. no-sources g k e q (t.only k (member-Contains order k (get-member order j k h))).1 (live_behind g (take j order));
  made = λ w h. let d = dark w true h in absurd (cc);
}

-- ## the end

-- once the inputs and the targets of the edges in the order are live, all edges are in it
pub order-complete : (g : PlainGraph) (live : List Bool) (waits order : List ℕ) → IsValid g → IsWaiting g live waits order → AreLive live g.inputs
    → ((i k : ℕ) (e : Edge) → slice_get order i ≡ Some k → slice_get g.edges k ≡ Some e → AreLive live e.targets) → IsTopologicalOrder g order
order-complete g live waits order v t inputs targets = record {
  within = t.within;
  all = λ k h. let f = found g.edges k h in let r = edge-taken g v.acyclic f.0 (get-member g.edges k f.0 f.1) in done k f.0 f.1
      (λ w m. live-all r.round w (among-member (live_after g r.round) w (members-all (is_among (live_after g r.round)) f.0.sources r.ready w m)));
  in_order = t.in_order;
}
  where
    done : (k : ℕ) (e : Edge) → slice_get g.edges k ≡ Some e → ((w : ℕ) → Member w e.sources → slice_get live w ≡ Some true) → Contains order k
    done k e q s = at (found waits k (let a = t.edges in let b = slice_get-length g.edges k e q in omega arith))
      where
        at : (n : ℕ) × (slice_get waits k ≡ Some n) → Contains order k
        at n = go (slice_get e.sources n.0) refl
          where
            go : (o : Option ℕ) → slice_get e.sources n.0 ≡ o → Contains order k
            go None h = t.all k n.0 n.1 (source-at g k n.0 e q ∙ h)
            go (Some w) h = let a = t.stuck k n.0 w n.1 (source-at g k n.0 e q ∙ h) in let b = s w (get-member e.sources n.0 w h) in absurd (cc)

    input : (w : ℕ) → Member w g.inputs → slice_get live w ≡ Some true
    input w m = let i = member-get g.inputs w m in inputs i.0 w i.1

    live-all : (n w : ℕ) → Member w (live_after g n) → slice_get live w ≡ Some true
    live-all zero w m = go (member-split g.inputs [] w m)
      where
        go : (Member w g.inputs) ⊎ ⊥ → slice_get live w ≡ Some true
        go (inl k) = input w k
        go (inr k) = absurd k
    live-all (suc n) w m = go (member-split g.inputs (targets_of (taken_within g (suc n))) w m) (live-all n)
      where
        go : (Member w g.inputs) ⊎ (Member w (targets_of (taken_within g (suc n)))) → ((u : ℕ) → Member u (live_after g n) → slice_get live u ≡ Some true) → slice_get live w ≡ Some true
        go (inl k) ih = input w k
        go (inr k) ih =
            let e = flat-member (λ e. e.targets) (taken_within g (suc n)) w k in
            let r = filter-member (is_ready (live_after g n)) g.edges e.0 e.1 in
            let j = member-get g.edges e.0 r.0 in
            let c = Contains-member order j.0 (done j.0 e.0 j.1 (λ u h. ih u (among-member (live_after g n) u (members-all (is_among (live_after g n)) e.0.sources r.1 u h)))) in
            let i = member-get order j.0 c in
            let x = member-get e.0.targets w e.2 in
            targets i.0 j.0 e.0 i.1 j.1 x.0 w x.1

-- ## bounds

pub source-below : (g : PlainGraph) (k i w : ℕ) → source_at g k i ≡ Some w → k < length g.edges
source-below g k i w s = let p = port-edge (λ e. e.sources) g.edges k i w s in slice_get-length g.edges k p.0 p.1

pub source-within : (g : PlainGraph) → IsValid g → (k i w : ℕ) → source_at g k i ≡ Some w → w < length g.wires
source-within g v k i w s =
    member-below (length g.wires) w (Rearr-member w (Rearr-sym (permutation-Rearr (length g.wires) _ v.consumers))
    (member-right g.outputs (sources_of g.edges) w (port-member (λ e. e.sources) g.edges k i w s)))

pub sources-within : (g : PlainGraph) → IsValid g → (k n : ℕ) (e : Edge) → slice_get g.edges k ≡ Some e → n ≡ length g.wires → All (λ w. w < n) e.sources
sources-within g v k n e q size =
    All-from_get_members {P = λ w. w < n} e.sources (λ w m. let i = member-get e.sources w m in let l = source-within g v k i.0 w (source-at g k i.0 e q ∙ i.1) in omega arith)

pub source-place : (g : PlainGraph) (k i w : ℕ) (e : Edge) → slice_get g.edges k ≡ Some e → source_at g k i ≡ Some w → i < length e.sources
source-place g k i w e q s = slice_get-length e.sources i w (sym (source-at g k i e q) ∙ s)

-- ## the step, as the code makes it

pub moved : (g : PlainGraph) (live after : List Bool) (waits order : List ℕ) (w w' k i m place : ℕ) (e : Edge) → IsValid g → IsWaiting g live waits order
    → is_among (live_behind g order) w ≡ true → source_at g k i ≡ Some w
    → slice_get waits k ≡ Some m → m ≡ i → slice_get g.edges k ≡ Some e → w' ≡ w → after ≡ slice_set live w' true
    → ((j u : ℕ) → i ≤ j → j < place → slice_get e.sources j ≡ Some u → slice_get after u ≡ Some true)
    → ((u : ℕ) → slice_get e.sources place ≡ Some u → slice_get after u ≡ Some false) → IsMoved g live waits order w k i place
moved g live after waits order w w' k i m place e v t a s st mi q ww l p d = record {
  before = t;
  valid = v;
  wire = source-within g v k i w s;
  made = a;
  stood = st ∙ ap (λ x. Some x) mi;
  source = s;
  passed = λ j u x y r. subst (λ z. slice_get z u ≡ Some true) now (p j u x y (sym (source-at g k j e q) ∙ r));
  stuck = λ u r. subst (λ z. slice_get z u ≡ Some false) now (d u (sym (source-at g k place e q) ∙ r));
}
  where
    now : after ≡ slice_set live w true
    now = l ∙ ap (λ x. slice_set live x true) ww

pub moved-done : (g : PlainGraph) (live : List Bool) (waits order new : List ℕ) (w w' k k' i place : ℕ) (e : Edge) → IsMoved g live waits order w k i place
    → slice_get g.edges k ≡ Some e → place ≡ length e.sources
    → w' ≡ w → k' ≡ k → new ≡ order ++ k ∷ [] → IsWaiting g (slice_set live w' true) (slice_set waits k' place) new
moved-done g live waits order new w w' k k' i place e t q l ww kk o =
    subst (λ x. IsWaiting g (slice_set live x true) (slice_set waits k' place) new) (sym ww)
    (subst (λ x. IsWaiting g (slice_set live w true) (slice_set waits x place) new) (sym kk)
    (subst (λ x. IsWaiting g (slice_set live w true) (slice_set waits k place) x) (sym o)
    (waiting-done g live waits order w k i place t (source-at g k place e q ∙ ap (slice_get e.sources) l ∙ get-end e.sources))))

pub moved-on : (g : PlainGraph) (live : List Bool) (waits order : List ℕ) (w w' k k' i place : ℕ) (e : Edge) → IsMoved g live waits order w k i place
    → slice_get g.edges k ≡ Some e → place ≤ length e.sources → (place ≡ length e.sources → ⊥)
    → w' ≡ w → k' ≡ k → IsWaiting g (slice_set live w' true) (slice_set waits k' place) order
moved-on g live waits order w w' k k' i place e t q l n ww kk =
    let f = found e.sources place (omega arith) in
    subst (λ x. IsWaiting g (slice_set live x true) (slice_set waits k' place) order) (sym ww)
    (subst (λ x. IsWaiting g (slice_set live w true) (slice_set waits x place) order) (sym kk)
    (waiting-moved g live waits order w k i place f.0 t (source-at g k place e q ∙ f.1)))

pub live-one-more : (g : PlainGraph) (live : List Bool) (wires : List ℕ) (i w : ℕ) → i < length wires → slice_get wires i ≡ Some w → w < length live
    → AreLive live (take i wires) → AreLive (slice_set live w true) (take (i + 1) wires)
live-one-more g live wires i w b q r a j u h = go (push-cases (take i wires) w j u (ap (λ l. slice_get l j) (sym (take-suc wires i w q)) ∙ h))
  where
    go : (slice_get (take i wires) j ≡ Some u) ⊎ ((j ≡ length (take i wires)) × (u ≡ w)) → slice_get (slice_set live w true) u ≡ Some true
    go (inl k) = lit live w u r (a j u k)
    go (inr k) = ap (slice_get (slice_set live w true)) k.1 ∙ get-set_same live w true r

pub removal-start : (g : PlainGraph) (live : List Bool) (waits order : List ℕ) (n m : ℕ) → IsValid g → n ≡ length g.wires → m ≡ length g.edges
    → live ≡ replicate n false → waits ≡ replicate m 0 → IsSourceless g (length g.edges) order → IsWaiting g live waits order
removal-start g live waits order n m v ln lm l w t = waiting-start g live waits order
    (ap length l ∙ length-replicate n false ∙ ln) (ap length w ∙ length-replicate m 0 ∙ lm) (λ u b h. all-same n false live l u b h) (λ k x h. all-same m 0 waits w k x h) t (source-within g v)

pub inputs-made : (g : PlainGraph) (order : List ℕ) → All (λ w. is_among (live_behind g order) w ≡ true) g.inputs
inputs-made g order =
    All-from_get_members {P = λ w. is_among (live_behind g order) w ≡ true} g.inputs (λ w m. member-among (live_behind g order) w (member-left g.inputs (targets_of (permuted g.edges order)) w m))

pub inputs-wires : (g : PlainGraph) → IsValid g → All (λ w. w < length g.wires) g.inputs
inputs-wires g v =
    All-from_get_members {P = λ w. w < length g.wires} g.inputs
    (λ w m. member-below (length g.wires) w (Rearr-member w (Rearr-sym (permutation-Rearr (length g.wires) _ v.producers)) (member-left g.inputs (targets_of g.edges) w m)))

pub targets-made : (g : PlainGraph) (order : List ℕ) (j k : ℕ) (e : Edge) → slice_get order j ≡ Some k → slice_get g.edges k ≡ Some e → All (λ w. is_among (live_behind g order) w ≡ true) e.targets
targets-made g order j k e h q = All-from_get_members {P = λ w. is_among (live_behind g order) w ≡ true} e.targets (λ w m. member-among (live_behind g order) w
    (member-right g.inputs (targets_of (permuted g.edges order)) w (member-flat (λ e. e.targets) (permuted g.edges order) e w (member-permuted g.edges order k e (get-member order j k h) q) m)))

pub targets-wires : (g : PlainGraph) → IsValid g → (k : ℕ) (e : Edge) → slice_get g.edges k ≡ Some e → All (λ w. w < length g.wires) e.targets
targets-wires g v k e q =
    All-from_get_members {P = λ w. w < length g.wires} e.targets (λ w m. member-below (length g.wires) w (Rearr-member w (Rearr-sym (permutation-Rearr (length g.wires) _ v.producers))
    (member-right g.inputs (targets_of g.edges) w (member-flat (λ e. e.targets) g.edges e w (get-member g.edges k e q) m))))

-- ## the loop

-- the targets of the first edges of the order are live
abbrev pub AreTargetsLive : PlainGraph → List Bool → List ℕ → ℕ → Type 0
AreTargetsLive g live order j = (i k : ℕ) (e : Edge) → i < j → slice_get order i ≡ Some k → slice_get g.edges k ≡ Some e → AreLive live e.targets

pub targets-more : (g : PlainGraph) (live after : List Bool) (order new : List ℕ) (j k : ℕ) (e : Edge) → AreTargetsLive g live order j → slice_get order j ≡ Some k
    → slice_get g.edges k ≡ Some e → StayLive live after → AreLive after e.targets → Grows order new
    → AreTargetsLive g after new (j + 1)
targets-more g live after order new j k e t h q s a w i m d l p r = go (cases_lt i j)
  where
    there : slice_get order i ≡ Some m
    there = let b = slice_get-length order j k h in sym (ap (λ z. slice_get z i) w.1 ∙ get-append_left order w.0 i (omega arith)) ∙ p

    go : (i < j) ⊎ (j ≤ i) → AreLive after d.targets
    go (inl b) = λ x y z. s y (t i m d b there r x y z)
    go (inr b) =
        let ij : i ≡ j = omega arith in
        let mk : Some m ≡ Some k = sym there ∙ ap (slice_get order) ij ∙ h in
        let mm : m ≡ k = cc in
        let ed : Some d ≡ Some e = sym r ∙ ap (slice_get g.edges) mm ∙ q in
        let dd : d ≡ e = cc in
        subst (λ z. AreLive after z.targets) (sym dd) a

pub targets-end : (g : PlainGraph) (live : List Bool) (order : List ℕ) (j : ℕ) → AreTargetsLive g live order j → length order ≤ j → AreTargetsLive g live order (j + 1)
targets-end g live order j t b i k e l h q = let c = slice_get-length order i k h in t i k e (omega arith) h q

pub order-few : (g : PlainGraph) (order : List ℕ) → All (λ k. k < length g.edges) order → Once order → length order ≤ length g.edges
order-few g order a o = pigeonhole (length g.edges) order (λ i j h l e. o i j (slice_index order i) (get-index order i h) (get-index order j l ∙ ap (λ x. Some x) (sym e))) (λ i h. a i 0 h)

pub removal-end : (g : PlainGraph) (live : List Bool) (waits order : List ℕ) (j : ℕ) → IsValid g → IsWaiting g live waits order → AreLive live g.inputs
    → AreTargetsLive g live order j → length g.edges ≤ j → IsTopologicalOrder g order
removal-end g live waits order j v t i a b = order-complete g live waits order v t i
    (λ m k e h q. let f = order-few g order t.within t.once in let l = slice_get-length order m k h in a m k e (omega arith) h q)
