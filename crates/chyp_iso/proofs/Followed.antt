-- What follows from pairs stays so, and holds of each isomorphism.
use Rattle.std.proofs.Common.{[], ℕ, ◌≡◌, Bool, true, eqb, List, ◌∷◌, ◌++◌, Option, Some, slice_get, option_map, ◌⊎◌, inl, inr, refl, sym, ◌∙◌, ap, subst, append_assoc, eq-eqb, eqb-true}
use Rattle.std.specs.Option.{option_and_then}
use Rattle.chyp_term.proofs.Permuted.{map-get}
use Rattle.chyp_graph.specs.PlainGraph.{Edge, PlainGraph, renamed}
use Rattle.chyp_graph.specs.Isomorphism.{Isomorphic}
use Rattle.chyp_graph.specs.Validity.{IsValid}
use Rattle.chyp_pairs.specs.declared.pair.Pair.{Pair}
use Rattle.chyp_pairs.specs.declared.pair.Pair.TheVariants.{Wires, Edges}
use Rattle.chyp_iso.specs.Pair.{MapsPair, PairFits}
use Rattle.chyp_pairs.specs.Pairs.{Has, Pairs}
use Rattle.chyp_iso.specs.Port.{IsPortAt, Side, ports_on, the_sources, the_targets}
use Rattle.chyp_iso.specs.Following.{Fits, Includes, IsClosedUnder, IsFollowed, IsFollowedDown, IsFollowedUp, Leads, Maps, Passes, Refutes}
use Rattle.chyp_pairs.proofs.PairLists.{has-left, has-split}
use Rattle.chyp_iso.proofs.Ports.{below-edge, once, port-edge}

pub Leads-trans : (g h : PlainGraph) (seeds : List Pair) (s t u : Pairs) → Leads g h seeds s t → Leads g h seeds t u → Leads g h seeds s u
Leads-trans g h seeds s t u a b = record {
  edges = b.edges ∙ a.edges;
  wires = b.wires ∙ a.wires;
  more = (a.more.0 ++ b.more.0, b.more.1 ∙ ap (λ r. r ++ b.more.0) a.more.1 ∙ append_assoc s.pairs a.more.0 b.more.0);
  fits = b.fits;
  follows = λ test c p q. b.follows test c (a.follows test c p q) q;
}

-- with other seeds, which pass each test that the pairs and the seeds pass
pub Leads-seeds : (g h : PlainGraph) (seeds others : List Pair) (s t : Pairs) → Leads g h others s t
    → ((test : Pair → Bool) → IsClosedUnder g h test → Passes test s.pairs → Passes test seeds → Passes test others) → Leads g h seeds s t
Leads-seeds g h seeds others s t a f = record {
  edges = a.edges;
  wires = a.wires;
  more = a.more;
  fits = a.fits;
  follows = λ test c p q. a.follows test c p (f test c p q);
}

pub Leads-has : (g h : PlainGraph) (seeds : List Pair) (s t : Pairs) → Leads g h seeds s t → (p : Pair) → Has s.pairs p → Has t.pairs p
Leads-has g h seeds s t a p k = subst (λ ps. Has ps p) (sym a.more.1) (has-left s.pairs a.more.0 p k)

-- one more pair, which is a seed
pub Leads-one : (g h : PlainGraph) (p : Pair) (s : Pairs) → Fits g h s → PairFits g h p → Leads g h (p ∷ []) s (record s { pairs = s.pairs ++ p ∷ [] })
Leads-one g h p s f k = record {
  edges = refl;
  wires = refl;
  more = (p ∷ [], refl);
  fits = record { first_valid = f.first_valid; second_valid = f.second_valid; first = f.first; second = f.second; pairs = λ q m. fit q (has-split s.pairs (p ∷ []) q m) };
  follows = λ test c a b q m. pass test a b q (has-split s.pairs (p ∷ []) q m);
}
  where
    fit : (q : Pair) → (Has s.pairs q) ⊎ (Has (p ∷ []) q) → PairFits g h q
    fit q (inl m) = f.pairs q m
    fit q (inr (inl e)) = subst (PairFits g h) e k
    fit q (inr (inr m)) = absurd m

    pass : (test : Pair → Bool) → Passes test s.pairs → Passes test (p ∷ []) → (q : Pair) → (Has s.pairs q) ⊎ (Has (p ∷ []) q) → test q ≡ true
    pass test a b q (inl m) = a q m
    pass test a b q (inr m) = b q m

pub passes-none : (test : Pair → Bool) → Passes test []
passes-none test p h = absurd h

pub passes-one : (test : Pair → Bool) (p : Pair) → test p ≡ true → Passes test (p ∷ [])
passes-one test p e q (inl r) = ap test (sym r) ∙ e
passes-one test p e q (inr r) = absurd r

pub maps-one : {g h : PlainGraph} (iso : Isomorphic g h) (p : Pair) → MapsPair iso p → Maps iso (p ∷ [])
maps-one iso p e q (inl r) = subst (MapsPair iso) r e
maps-one iso p e q (inr r) = absurd r

ports-renamed : (f : ℕ → ℕ) (side : Side) (e : Edge) (i v : ℕ) → slice_get (ports_on side e) i ≡ Some v → slice_get (ports_on side (renamed f e)) i ≡ Some (f v)
ports-renamed f the_sources e i v h = map-get f e.sources i v h
ports-renamed f the_targets e i v h = map-get f e.targets i v h

pub iso-port : (g h : PlainGraph) (iso : Isomorphic g h) (side : Side) (k i v : ℕ) → IsPortAt g side k i v → IsPortAt h side (iso.edge k) i (iso.wire v)
iso-port g h iso side k i v p =
    let e = port-edge (ports_on side) g.edges k i v p in
    let q : slice_get h.edges (iso.edge k) ≡ Some (renamed iso.wire e.0) = iso.ports k (below-edge g side k i v p) ∙ ap (option_map (renamed iso.wire)) e.1 in
    ap (option_and_then (λ d. slice_get (ports_on side d) i)) q ∙ ports-renamed iso.wire side e.0 i v e.2

-- the test whether an isomorphism makes a pair
pub made_by : {g h : PlainGraph} → Isomorphic g h → Pair → Bool
made_by iso (Wires v w) = eqb (iso.wire v) w
made_by iso (Edges e f) = eqb (iso.edge e) f

pub made-maps : (g h : PlainGraph) (iso : Isomorphic g h) (p : Pair) → made_by iso p ≡ true → MapsPair iso p
unfolding made_by
made-maps g h iso (Wires v w) e = eqb-true (iso.wire v) w e
made-maps g h iso (Edges k f) e = eqb-true (iso.edge k) f e

pub maps-made : (g h : PlainGraph) (iso : Isomorphic g h) (p : Pair) → MapsPair iso p → made_by iso p ≡ true
unfolding made_by
maps-made g h iso (Wires v w) e = eq-eqb (iso.wire v) w e
maps-made g h iso (Edges k f) e = eq-eqb (iso.edge k) f e

pub made-closed : (g h : PlainGraph) → IsValid h → (iso : Isomorphic g h) → IsClosedUnder g h (made_by iso)
made-closed g h t iso = record {
  down = λ side e f i v w m p q.
      let k : iso.edge e ≡ f = made-maps g h iso (Edges e f) m in
      let a : IsPortAt h side f i (iso.wire v) = subst (λ x. IsPortAt h side x i (iso.wire v)) k (iso-port g h iso side e i v p) in
      let b : ◌≡◌ {A = Option ℕ} (Some (iso.wire v)) (Some w) = sym a ∙ q in
      let c : iso.wire v ≡ w = cc in
      maps-made g h iso (Wires v w) c;
  up = λ side e f i v w m p q.
      let k : iso.wire v ≡ w = made-maps g h iso (Wires v w) m in
      let a : IsPortAt h side (iso.edge e) i w = subst (λ x. IsPortAt h side (iso.edge e) i x) k (iso-port g h iso side e i v p) in
      maps-made g h iso (Edges e f) (once h t side (iso.edge e) i f i w a q).0;
}

-- an isomorphism that makes the pairs and the seeds makes what follows from them
pub Leads-maps : (g h : PlainGraph) (seeds : List Pair) (s t : Pairs) → IsValid h → Leads g h seeds s t → (iso : Isomorphic g h) → Maps iso s.pairs → Maps iso seeds → Maps iso t.pairs
Leads-maps g h seeds s t v l iso a b p m =
    made-maps g h iso p (l.follows (made_by iso) (made-closed g h v iso) (λ q k. maps-made g h iso q (a q k)) (λ q k. maps-made g h iso q (b q k)) p m)

-- what refutes what follows refutes what it follows from
pub Refutes-after : (g h : PlainGraph) (seeds others : List Pair) (s t : Pairs) → IsValid h → Leads g h seeds s t
    → ((iso : Isomorphic g h) → Maps iso t.pairs → Maps iso seeds → Maps iso others) → Refutes g h others t.pairs → Refutes g h seeds s.pairs
Refutes-after g h seeds others s t v l f r iso a b =
    let m = Leads-maps g h seeds s t v l iso a b in
    r iso m (f iso m b)

-- ## what is followed stays so

pub up-more : (g h : PlainGraph) (ps qs : List Pair) (side : Side) (v w : ℕ) → Includes ps qs → IsFollowedUp g h ps side v w → IsFollowedUp g h qs side v w
up-more g h ps qs side v w f a = record {
  there = λ e i p. let r = a.there e i p in (r.0, r.1, f (Edges e r.0) r.2);
  back = λ k i p. let r = a.back k i p in (r.0, r.1, f (Edges r.0 k) r.2);
}

pub down-more : (g h : PlainGraph) (ps qs : List Pair) (side : Side) (e f : ℕ) → Includes ps qs → IsFollowedDown g h ps side e f → IsFollowedDown g h qs side e f
down-more g h ps qs side e k f a = record {
  there = λ i v p. let r = a.there i v p in (r.0, r.1, f (Wires v r.0) r.2);
  back = λ i w p. let r = a.back i w p in (r.0, r.1, f (Wires r.0 w) r.2);
}

pub followed-more : (g h : PlainGraph) (ps qs : List Pair) (p : Pair) → Includes ps qs → IsFollowed g h ps p → IsFollowed g h qs p
followed-more g h ps qs (Wires v w) f a = λ side. up-more g h ps qs side v w f (a side)
followed-more g h ps qs (Edges e k) f a = λ side. down-more g h ps qs side e k f (a side)
