-- What an embedding does to ports, and to what follows from pairs.
use Rattle.std.proofs.Common.{ℕ, zero, suc, ◌≡◌, Bool, true, eqb, List, [], ◌∷◌, map, Option, Some, slice_get, option_map, inl, inr, sym, ◌∙◌, ap, subst, eq-eqb, eqb-true}
use Rattle.std.specs.Option.{option_and_then}
use Rattle.chyp_graph.specs.PlainGraph.{Edge, PlainGraph, renamed}
use Rattle.chyp_graph.specs.Validity.{IsValid}
use Rattle.chyp_pairs.specs.declared.pair.Pair.{Pair}
use Rattle.chyp_pairs.specs.declared.pair.Pair.TheVariants.{Wires, Edges}
use Rattle.chyp_pairs.specs.Pairs.{Pairs}
use Rattle.chyp_iso.specs.Port.{IsPortAt, Side, ports_on, the_sources, the_targets}
use Rattle.chyp_iso.specs.Following.{Includes, IsClosedUnder, Leads}
use Rattle.chyp_iso.proofs.Ports.{below-edge, once, port-edge}
use Rattle.chyp_match.specs.Embedding.{Embedding}
use Rattle.chyp_match.specs.Following.{IsFollowed, IsFollowedUp, Maps, MapsPair, Refutes}
use Rattle.chyp_iso.proofs.Followed.{down-more}

pub maps-one : {l g : PlainGraph} (m : Embedding l g) (p : Pair) → MapsPair m p → Maps m (p ∷ [])
maps-one m p e q (inl r) = subst (MapsPair m) r e
maps-one m p e q (inr r) = absurd r

-- ## embeddings keep ports

get-map : (f : ℕ → ℕ) (xs : List ℕ) (i x : ℕ) → slice_get xs i ≡ Some x → slice_get (map f xs) i ≡ Some (f x)
get-map f [] i x e = cc
get-map f (y ∷ xs) zero x e = let q : y ≡ x = cc in ap (λ z. Some (f z)) q
get-map f (y ∷ xs) (suc i) x e = get-map f xs i x e

ports-renamed : (f : ℕ → ℕ) (side : Side) (e : Edge) (i v : ℕ) → slice_get (ports_on side e) i ≡ Some v → slice_get (ports_on side (renamed f e)) i ≡ Some (f v)
ports-renamed f the_sources e i v h = get-map f e.sources i v h
ports-renamed f the_targets e i v h = get-map f e.targets i v h

pub embedding-port : (g h : PlainGraph) (iso : Embedding g h) (side : Side) (k i v : ℕ) → IsPortAt g side k i v → IsPortAt h side (iso.edge k) i (iso.wire v)
embedding-port g h iso side k i v p =
    let e = port-edge (ports_on side) g.edges k i v p in
    let q : slice_get h.edges (iso.edge k) ≡ Some (renamed iso.wire e.0) = iso.ports k (below-edge g side k i v p) ∙ ap (option_map (renamed iso.wire)) e.1 in
    ap (option_and_then (λ d. slice_get (ports_on side d) i)) q ∙ ports-renamed iso.wire side e.0 i v e.2

-- the test whether an embedding makes a pair
pub made_by : {g h : PlainGraph} → Embedding g h → Pair → Bool
made_by iso (Wires v w) = eqb (iso.wire v) w
made_by iso (Edges e f) = eqb (iso.edge e) f

pub made-maps : (g h : PlainGraph) (iso : Embedding g h) (p : Pair) → made_by iso p ≡ true → MapsPair iso p
unfolding made_by
made-maps g h iso (Wires v w) e = eqb-true (iso.wire v) w e
made-maps g h iso (Edges k f) e = eqb-true (iso.edge k) f e

pub maps-made : (g h : PlainGraph) (iso : Embedding g h) (p : Pair) → MapsPair iso p → made_by iso p ≡ true
unfolding made_by
maps-made g h iso (Wires v w) e = eq-eqb (iso.wire v) w e
maps-made g h iso (Edges k f) e = eq-eqb (iso.edge k) f e

pub made-closed : (g h : PlainGraph) → IsValid h → (iso : Embedding g h) → IsClosedUnder g h (made_by iso)
made-closed g h t iso = record {
  down = λ side e f i v w m p q.
      let k : iso.edge e ≡ f = made-maps g h iso (Edges e f) m in
      let a : IsPortAt h side f i (iso.wire v) = subst (λ x. IsPortAt h side x i (iso.wire v)) k (embedding-port g h iso side e i v p) in
      let b : ◌≡◌ {A = Option ℕ} (Some (iso.wire v)) (Some w) = sym a ∙ q in
      let c : iso.wire v ≡ w = cc in
      maps-made g h iso (Wires v w) c;
  up = λ side e f i v w m p q.
      let k : iso.wire v ≡ w = made-maps g h iso (Wires v w) m in
      let a : IsPortAt h side (iso.edge e) i w = subst (λ x. IsPortAt h side (iso.edge e) i x) k (embedding-port g h iso side e i v p) in
      maps-made g h iso (Edges e f) (once h t side (iso.edge e) i f i w a q).0;
}

-- an embedding that makes the pairs and the seeds makes what follows from them
pub Leads-maps : (g h : PlainGraph) (seeds : List Pair) (s t : Pairs) → IsValid h → Leads g h seeds s t → (iso : Embedding g h) → Maps iso s.pairs → Maps iso seeds → Maps iso t.pairs
Leads-maps g h seeds s t v l iso a b p m =
    made-maps g h iso p (l.follows (made_by iso) (made-closed g h v iso) (λ q k. maps-made g h iso q (a q k)) (λ q k. maps-made g h iso q (b q k)) p m)

-- what refutes what follows refutes what it follows from
pub Refutes-after : (g h : PlainGraph) (seeds others : List Pair) (s t : Pairs) → IsValid h → Leads g h seeds s t → ((iso : Embedding g h) → Maps iso t.pairs → Maps iso seeds → Maps iso others)
    → Refutes g h others t.pairs → Refutes g h seeds s.pairs
Refutes-after g h seeds others s t v l f r iso a b =
    let m = Leads-maps g h seeds s t v l iso a b in
    r iso m (f iso m b)

-- ## what is followed stays so

pub up-more : (g h : PlainGraph) (ps qs : List Pair) (side : Side) (v w : ℕ) → Includes ps qs → IsFollowedUp g h ps side v w → IsFollowedUp g h qs side v w
up-more g h ps qs side v w f a = λ e i p. let r = a e i p in (r.0, r.1, f (Edges e r.0) r.2)

pub followed-more : (g h : PlainGraph) (ps qs : List Pair) (p : Pair) → Includes ps qs → IsFollowed g h ps p → IsFollowed g h qs p
followed-more g h ps qs (Wires v w) f a = λ side. up-more g h ps qs side v w f (a side)
followed-more g h ps qs (Edges e k) f a = λ side. down-more g h ps qs side e k f (a side)
