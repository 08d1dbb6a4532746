-- Parts without interface: trying, giving up and exchanging.
use Rattle.std.proofs.Common.{[], ℕ, zero, suc, ◌+◌, ◌<◌, ◌≤◌, ◌≡◌, Bool, true, false, List, ◌∷◌, length, map, Option, Some, None, slice_get, option_map, ◌⊎◌, inl, inr, refl, sym, ◌∙◌, ap}
use Rattle.std.proofs.Common.{ap₂, subst, arith}
use Rattle.std.specs.Bool.{MatchBool}
use Rattle.std.specs.Option.{is_some}
use Rattle.std.proofs.lemmas.Bool.{cases_lt}
use Rattle.std.proofs.lemmas.List.{length-map}
use Rattle.chyp_term.proofs.Permuted.{found}
use Rattle.chyp_term.proofs.Positions.{slice_get-length}
use Rattle.chyp_graph.specs.PlainGraph.{Edge, PlainGraph, renamed}
use Rattle.chyp_graph.specs.Isomorphism.{Isomorphic}
use Rattle.chyp_graph.specs.Validity.{IsValid}
use Rattle.chyp_pairs.specs.declared.pair.Pair.{Pair}
use Rattle.chyp_pairs.specs.declared.pair.Pair.TheVariants.{Wires, Edges}
use Rattle.chyp_iso.specs.Pair.{AreAlike, EdgesFit, WiresFit, wire_pairs}
use Rattle.chyp_pairs.specs.Pairs.{Has, IsMatching, Pairs, edge_back, edge_there, image, wire_back, wire_there}
use Rattle.chyp_iso.specs.Port.{IsPortAt, Side, the_sources, the_targets}
use Rattle.chyp_iso.specs.Following.{AreFollowed, Fits, Includes, IsComplete, IsFollowedDown, IsFollowedUp, Leads, Maps, Passes, Refutes}
use Rattle.chyp_iso.specs.Search.{AreKnown, IsExtended, IsPairing}
use Rattle.chyp_pairs.proofs.PairLists.{get-has, has-left, has-right}
use Rattle.chyp_iso.proofs.Exchange.{FullMap, IsFull, IsGrown, IsPart, PartMap, Pass, exchange, shape, shape_of, switched}
use Rattle.chyp_iso.proofs.Followed.{Leads-has, Leads-seeds, Leads-trans, Refutes-after, followed-more, iso-port, maps-one, passes-none}
use Rattle.chyp_iso.proofs.Lists.{get-more}
use Rattle.chyp_iso.proofs.Ports.{port-is, wire-below}
use Rattle.chyp_iso.proofs.Steps.{back-edges, back-wires, edges-back, edges-there, there-edges, there-wires, wires-back, wires-there}
use Rattle.chyp_iso.proofs.Switch.{switch-known}
use Rattle.chyp_iso.proofs.Ups.{iso-back}

-- ## trying

pub followed-start : (g h : PlainGraph) (seeds : List Pair) (s t : Pairs) (n : ℕ) → n ≡ length s.pairs → IsComplete g h s.pairs → Leads g h seeds s t → AreFollowed g h t.pairs n
followed-start g h seeds s t n q c l i p b e =
    let d = get-more g h seeds s t l i p (omega arith) e in
    followed-more g h s.pairs t.pairs p (Leads-has g h seeds s t l) (c p (get-has s.pairs i p d))

pub part-leads : (g h : PlainGraph) (seeds : List Pair) (s t u : Pairs) → Leads g h seeds s t → Leads g h [] t u → Leads g h seeds s u
part-leads g h seeds s t u l m = Leads-trans g h seeds s t u l (Leads-seeds g h seeds [] t u m (λ test c p q. passes-none test))

pub part-pairing : (g h : PlainGraph) (seeds : List Pair) (s u : Pairs) → IsPairing g h s → Leads g h seeds s u → IsComplete g h u.pairs → IsMatching u.pairs → IsPairing g h u
part-pairing g h seeds s u w l c m = record {
  fits = l.fits;
  matching = m;
  complete = c;
  same_ends = w.same_ends;
  ends = λ p k. Leads-has g h seeds s u l p (w.ends p k);
}

pub part-answer : (g h : PlainGraph) (e f : ℕ) (s t u : Pairs) (b : Bool) → IsPairing g h s → Leads g h (Edges e f ∷ []) s t → Has t.pairs (Edges e f)
    → Leads g h [] t u → MatchBool b (IsComplete g h u.pairs × IsMatching u.pairs) (Refutes g h [] t.pairs)
    → MatchBool b (Has u.pairs (Edges e f) × IsPairing g h u) (Refutes g h (Edges e f ∷ []) s.pairs)
part-answer g h e f s t u true w l k m r = (Leads-has g h [] t u m (Edges e f) k, part-pairing g h (Edges e f ∷ []) s u w (part-leads g h (Edges e f ∷ []) s t u l m) r.0 r.1)
part-answer g h e f s t u false w l k m r = Refutes-after g h (Edges e f ∷ []) [] s t w.fits.second_valid l (λ iso x y p z. absurd z) r

-- where every edge is refuted, nothing is left
pub none-left : (g h : PlainGraph) (ps : List Pair) (e n : ℕ) → e < length g.edges → length h.edges ≤ n → ((f : ℕ) → f < n → Refutes g h (Edges e f ∷ []) ps) → (iso : Isomorphic g h) → Maps iso ps → ⊥
none-left g h ps e n a b r iso m = let l = iso.edges.there e a in r (iso.edge e) (omega arith) iso m (maps-one iso (Edges e (iso.edge e)) refl)

-- ## the partial map of pairs

abbrev pub part_of : List Pair → PartMap
part_of ps = record { wire = image wire_there ps; wire_back = image wire_back ps; edge = image edge_there ps; edge_back = image edge_back ps }

some-shape : (g : PlainGraph) (k : ℕ) (d : Edge) → slice_get g.edges k ≡ Some d → shape g k ≡ Some (d.name, length d.sources, length d.targets)
some-shape g k d e = ap (option_map shape_of) e

pub fit-shape : (g h : PlainGraph) (e f : ℕ) → EdgesFit g h e f → shape h f ≡ shape g e
fit-shape g h e f k =
    some-shape h f k.second k.second_is
    ∙ ap (λ x. Some (x, length k.second.sources, length k.second.targets)) k.alike.names
    ∙ ap (λ x. Some (k.first.name, x, length k.second.targets)) k.alike.source_count
    ∙ ap (λ x. Some (k.first.name, length k.first.sources, x)) k.alike.target_count
    ∙ sym (some-shape g e k.first k.first_is)

pub is-part : (g h : PlainGraph) (s : Pairs) → Fits g h s → IsMatching s.pairs → IsComplete g h s.pairs → IsPart g h (part_of s.pairs)
is-part g h s f m c = record {
  wires = record {
    there = λ v w e. wires-back s.pairs m v w (there-wires s.pairs v w e);
    again = λ v w e. wires-there s.pairs m v w (back-wires s.pairs v w e);
    below = λ v w e. (wires v w e).there;
    under = λ v w e. (wires v w e).within;
  };
  edges = record {
    there = λ v w e. edges-back s.pairs m v w (there-edges s.pairs v w e);
    again = λ v w e. edges-there s.pairs m v w (back-edges s.pairs v w e);
    below = λ v w e. slice_get-length g.edges v (edges v w e).first (edges v w e).first_is;
    under = λ v w e. slice_get-length h.edges w (edges v w e).second (edges v w e).second_is;
  };
  sorts = λ v w e. (wires v w e).sorts;
  shapes = λ v w e. fit-shape g h v w (edges v w e);
  down = λ side e k i v q p. let d : IsFollowedDown g h s.pairs side e k = c (Edges e k) (there-edges s.pairs e k q) side in let r = d.there i v p in (r.0, r.1, wires-there s.pairs m v r.0 r.2);
  down_back = λ side e k i w q p. let d : IsFollowedDown g h s.pairs side e k = c (Edges e k) (there-edges s.pairs e k q) side in let r = d.back i w p in (r.0, r.1, wires-there s.pairs m r.0 w r.2);
  up = λ side e i v w q p. let d : IsFollowedUp g h s.pairs side v w = c (Wires v w) (there-wires s.pairs v w q) side in let r = d.there e i p in (r.0, r.1, edges-there s.pairs m e r.0 r.2);
  up_back = λ side k i v w q p. let d : IsFollowedUp g h s.pairs side v w = c (Wires v w) (there-wires s.pairs v w q) side in let r = d.back k i p in (r.0, r.1, edges-there s.pairs m r.0 k r.2);
}
  where
    wires : (v w : ℕ) → image wire_there s.pairs v ≡ Some w → WiresFit g h v w
    wires v w e = f.pairs (Wires v w) (there-wires s.pairs v w e)

    edges : (v w : ℕ) → image edge_there s.pairs v ≡ Some w → EdgesFit g h v w
    edges v w e = f.pairs (Edges v w) (there-edges s.pairs v w e)

-- ## the full map of an isomorphism

abbrev pub full_of : {g h : PlainGraph} → Isomorphic g h → FullMap
full_of iso = record { wire = iso.wire; wire_back = iso.wire_back; edge = iso.edge; edge_back = iso.edge_back }

iso-shape : (g h : PlainGraph) (iso : Isomorphic g h) (k : ℕ) → k < length g.edges → shape h (iso.edge k) ≡ shape g k
iso-shape g h iso k l =
    let d = found g.edges k l in
    let e : slice_get h.edges (iso.edge k) ≡ Some (renamed iso.wire d.0) = iso.ports k l ∙ ap (option_map (renamed iso.wire)) d.1 in
    some-shape h (iso.edge k) (renamed iso.wire d.0) e
    ∙ ap₂ (λ x y. Some (d.0.name, x, y)) (length-map d.0.sources iso.wire) (length-map d.0.targets iso.wire)
    ∙ sym (some-shape g k d.0 d.1)

pub is-full : (g h : PlainGraph) (iso : Isomorphic g h) → IsValid g → IsFull g h (full_of iso)
is-full g h iso t = record {
  wires = iso.wires;
  edges = iso.edges;
  sorts = iso.sorts;
  shapes = iso-shape g h iso;
  ports = λ side k i v p. iso-port g h iso side k i v p;
  ports_back = λ side k i w p.
      let r = iso-back g h iso side k i w p in
      let e : r.0 ≡ iso.wire_back w = sym (iso.wires.back_there r.0 (wire-below g t side _ i r.0 r.1)) ∙ ap iso.wire_back r.2 in
      subst (λ z. IsPortAt g side (iso.edge_back k) i z) e r.1;
}

-- ## back to isomorphisms

list-map : (f : ℕ → ℕ) (xs ys : List ℕ) → length ys ≡ length xs → ((i v : ℕ) → slice_get xs i ≡ Some v → slice_get ys i ≡ Some (f v)) → ys ≡ map f xs
list-map f [] [] l a = refl
list-map f [] (y ∷ ys) l a = absurd (omega arith)
list-map f (x ∷ xs) [] l a = absurd (omega arith)
list-map f (x ∷ xs) (y ∷ ys) l a =
    let e : ◌≡◌ {A = Option ℕ} (Some y) (Some (f x)) = a zero x refl in
    let q : y ≡ f x = cc in
    ap₂ (λ p r. p ∷ r) q (list-map f xs ys (omega arith) (λ i v b. a (suc i) v b))

abbrev first : Option (List ℕ × ℕ × ℕ) → List ℕ
first None = []
first (Some p) = p.0

abbrev second : Option (List ℕ × ℕ × ℕ) → ℕ
second None = 0
second (Some p) = p.1

abbrev third : Option (List ℕ × ℕ × ℕ) → ℕ
third None = 0
third (Some p) = p.2

shape-edge : (g h : PlainGraph) (k f : ℕ) (d : Edge) → slice_get g.edges k ≡ Some d → shape h f ≡ shape g k → (c : Edge) × (slice_get h.edges f ≡ Some c) × AreAlike d c
shape-edge g h k f d e q = go (slice_get h.edges f) refl (q ∙ some-shape g k d e)
  where
    go : (o : Option Edge) → slice_get h.edges f ≡ o → option_map shape_of o ≡ Some (d.name, length d.sources, length d.targets) → (c : Edge) × (slice_get h.edges f ≡ Some c) × AreAlike d c
    go None r s = cc
    go (Some c) r s = (c, r, alike c s)
      where
        alike : (c : Edge) → ◌≡◌ {A = Option (List ℕ × ℕ × ℕ)} (Some (c.name, length c.sources, length c.targets)) (Some (d.name, length d.sources, length d.targets)) → AreAlike d c
        alike c s = record { names = ap first s; source_count = ap second s; target_count = ap third s }

-- an edge with the ports at the images of another's is that edge renamed
pub edge-renamed : (g h : PlainGraph) (wire : ℕ → ℕ) (k f : ℕ) → k < length g.edges → shape h f ≡ shape g k
    → ((side : Side) (i v : ℕ) → IsPortAt g side k i v → IsPortAt h side f i (wire v)) → slice_get h.edges f ≡ option_map (renamed wire) (slice_get g.edges k)
edge-renamed g h wire k f l q p =
    let d = found g.edges k l in
    let c = shape-edge g h k f d.0 d.1 q in
    let s : c.0.sources ≡ map wire d.0.sources = list-map wire d.0.sources c.0.sources c.2.source_count
    (λ i v a. sym (port-is h the_sources f i c.0 c.1) ∙ p the_sources i v (port-is g the_sources k i d.0 d.1 ∙ a)) in
    let t : c.0.targets ≡ map wire d.0.targets = list-map wire d.0.targets c.0.targets c.2.target_count
    (λ i v a. sym (port-is h the_targets f i c.0 c.1) ∙ p the_targets i v (port-is g the_targets k i d.0 d.1 ∙ a)) in
    c.1 ∙ ap Some (same c.0.name d.0.name c.0.sources _ c.0.targets _ c.2.names s t) ∙ sym (ap (option_map (renamed wire)) d.1)
  where
    same : (a b c d x y : List ℕ) → a ≡ b → c ≡ d → x ≡ y → ◌≡◌ {A = Edge} (record { name = a; sources = c; targets = x }) (record { name = b; sources = d; targets = y })
    same a b c d x y m n o =
        ap (λ r. record { name = r; sources = c; targets = x }) m ∙ ap (λ r. record { name = b; sources = r; targets = x }) n ∙ ap (λ r. record { name = b; sources = d; targets = r }) o

-- wires that are paired place by place are images place by place
pub list-images : (f : ℕ → ℕ) (vs ws : List ℕ) (ps : List Pair) → length vs ≡ length ws → Includes (wire_pairs vs ws) ps → ((v w : ℕ) → Has ps (Wires v w) → f v ≡ w) → ws ≡ map f vs
list-images f [] [] ps l k a = refl
list-images f [] (w ∷ ws) ps l k a = absurd (omega arith)
list-images f (v ∷ vs) [] ps l k a = absurd (omega arith)
list-images f (v ∷ vs) (w ∷ ws) ps l k a = ap₂ (λ p r. p ∷ r) (sym (a v w (k (Wires v w) (inl refl)))) (list-images f vs ws ps (omega arith) (λ p m. k p (inr m)) a)

pub input-images : (g h : PlainGraph) (s : Pairs) (f : ℕ → ℕ) → IsPairing g h s → ((v w : ℕ) → Has s.pairs (Wires v w) → f v ≡ w) → h.inputs ≡ map f g.inputs
input-images g h s f w a = list-images f g.inputs h.inputs s.pairs w.same_ends.input_count (λ p k. w.ends p (has-left (wire_pairs g.inputs h.inputs) (wire_pairs g.outputs h.outputs) p k)) a

pub output-images : (g h : PlainGraph) (s : Pairs) (f : ℕ → ℕ) → IsPairing g h s → ((v w : ℕ) → Has s.pairs (Wires v w) → f v ≡ w) → h.outputs ≡ map f g.outputs
output-images g h s f w a = list-images f g.outputs h.outputs s.pairs w.same_ends.output_count (λ p k. w.ends p (has-right (wire_pairs g.inputs h.inputs) (wire_pairs g.outputs h.outputs) p k)) a

pub full-iso : (g h : PlainGraph) (s : Pairs) (f : FullMap) → IsPairing g h s → IsFull g h f → ((v w : ℕ) → Has s.pairs (Wires v w) → f.wire v ≡ w) → Isomorphic g h
full-iso g h s f w q a = record {
  wire = f.wire;
  wire_back = f.wire_back;
  edge = f.edge;
  edge_back = f.edge_back;
  wires = q.wires;
  edges = q.edges;
  sorts = q.sorts;
  ports = λ k l. edge-renamed g h f.wire k (f.edge k) l (q.shapes k l) (λ side i v p. q.ports side k i v p);
  inputs = input-images g h s f.wire w a;
  outputs = output-images g h s f.wire w a;
}

-- ## exchanging

abbrev pub test_of : (wires edges : ℕ → ℕ → Bool) → Pair → Bool
test_of wires edges (Wires v w) = wires v w
test_of wires edges (Edges e f) = edges e f

grown : (g h : PlainGraph) (s t : Pairs) (e f : ℕ) (iso : Isomorphic g h) → IsPairing g h s → IsPairing g h t → Leads g h (Edges e f ∷ []) s t
    → Has t.pairs (Edges e f) → image edge_there s.pairs e ≡ None → Maps iso s.pairs → IsGrown g h (part_of s.pairs) (part_of t.pairs) (full_of iso) e f
grown g h s t e f iso a b l k n m = record {
  small = is-part g h s a.fits a.matching a.complete;
  large = is-part g h t b.fits b.matching b.complete;
  full = is-full g h iso a.fits.first_valid;
  more_wires = λ v w x. wires-there t.pairs b.matching v w (more (Wires v w) (there-wires s.pairs v w x));
  more_edges = λ v w x. edges-there t.pairs b.matching v w (more (Edges v w) (there-edges s.pairs v w x));
  agrees_wires = λ v w x. m (Wires v w) (there-wires s.pairs v w x);
  agrees_edges = λ v w x. m (Edges v w) (there-edges s.pairs v w x);
  seed = edges-there t.pairs b.matching e f k;
  new_there = n;
  new_back = free (image edge_back s.pairs f) refl;
  follows = λ wires edges c p q.
      let r = l.follows (test_of wires edges) (record { down = c.down; up = c.up }) (old wires edges p) (one wires edges q) in
      record { on_wires = λ v w x. r (Wires v w) (there-wires t.pairs v w x); on_edges = λ v w x. r (Edges v w) (there-edges t.pairs v w x) };
}
  where
    more : (p : Pair) → Has s.pairs p → Has t.pairs p
    more p x = Leads-has g h (Edges e f ∷ []) s t l p x

    free : (o : Option ℕ) → image edge_back s.pairs f ≡ o → image edge_back s.pairs f ≡ None
    free None x = x
    free (Some d) x =
        let i = back-edges s.pairs d f x in
        let y : ◌≡◌ {A = Option ℕ} (Some d) (Some e) = sym (edges-back t.pairs b.matching d f (more (Edges d f) i)) ∙ edges-back t.pairs b.matching e f k in
        let z : d ≡ e = cc in
        let c : ◌≡◌ {A = Option ℕ} None (Some f) = sym n ∙ ap (image edge_there s.pairs) (sym z) ∙ edges-there s.pairs a.matching d f i in
        cc

    old : (wires edges : ℕ → ℕ → Bool) → Pass (part_of s.pairs) wires edges → Passes (test_of wires edges) s.pairs
    old wires edges p (Wires v w) x = p.on_wires v w (wires-there s.pairs a.matching v w x)
    old wires edges p (Edges v w) x = p.on_edges v w (edges-there s.pairs a.matching v w x)

    one : (wires edges : ℕ → ℕ → Bool) → edges e f ≡ true → Passes (test_of wires edges) (Edges e f ∷ [])
    one wires edges q p (inl x) = ap (test_of wires edges) (sym x) ∙ q
    one wires edges q p (inr x) = absurd x

-- an isomorphism that makes the pairs before a part is paired can be changed to one that makes those after
pub exchanged : (g h : PlainGraph) (s t : Pairs) (e f : ℕ) (iso : Isomorphic g h) → IsPairing g h s → IsPairing g h t → Leads g h (Edges e f ∷ []) s t
    → Has t.pairs (Edges e f) → image edge_there s.pairs e ≡ None → Maps iso s.pairs → (other : Isomorphic g h) × Maps other t.pairs
unfolding full-iso
exchanged g h s t e f iso a b l k n m = (full-iso g h t (switched (part_of t.pairs) (full_of iso)) b is wires, maps)
  where
    is : IsFull g h (switched (part_of t.pairs) (full_of iso))
    is = exchange g h (part_of s.pairs) (part_of t.pairs) (full_of iso) e f (grown g h s t e f iso a b l k n m)

    wires : (v w : ℕ) → Has t.pairs (Wires v w) → (switched (part_of t.pairs) (full_of iso)).wire v ≡ w
    wires v w x = switch-known (image wire_there t.pairs) (image wire_back t.pairs) iso.wire v w (wires-there t.pairs b.matching v w x)

    edges : (v w : ℕ) → Has t.pairs (Edges v w) → (switched (part_of t.pairs) (full_of iso)).edge v ≡ w
    edges v w x = switch-known (image edge_there t.pairs) (image edge_back t.pairs) iso.edge v w (edges-there t.pairs b.matching v w x)

    maps : Maps (full-iso g h t (switched (part_of t.pairs) (full_of iso)) b is wires) t.pairs
    maps (Wires v w) x = wires v w x
    maps (Edges v w) x = edges v w x

pub extended-same : (g h : PlainGraph) (s : Pairs) → IsPairing g h s → IsExtended g h s s
extended-same g h s w = record { whole = w; kept = λ p k. k; exchanged = λ iso m. (iso, m) }

pub extended-trans : (g h : PlainGraph) (s t u : Pairs) → IsExtended g h s t → IsExtended g h t u → IsExtended g h s u
extended-trans g h s t u a b = record {
  whole = b.whole;
  kept = λ p k. b.kept p (a.kept p k);
  exchanged = λ iso m. let r = a.exchanged iso m in b.exchanged r.0 r.1;
}

pub extended-part : (g h : PlainGraph) (s t : Pairs) (e f : ℕ) → IsPairing g h s → IsPairing g h t → Leads g h (Edges e f ∷ []) s t → Has t.pairs (Edges e f)
    → image edge_there s.pairs e ≡ None → IsExtended g h s t
extended-part g h s t e f a b l k n = record {
  whole = b;
  kept = λ p m. Leads-has g h (Edges e f ∷ []) s t l p m;
  exchanged = λ iso m. exchanged g h s t e f iso a b l k n m;
}

pub one-known : (g h : PlainGraph) (s : Pairs) (e : ℕ) (r : Option ℕ) → IsPairing g h s → r ≡ image edge_there s.pairs e → is_some r ≡ true → IsExtended g h s s × ((f : ℕ) × Has s.pairs (Edges e f))
one-known g h s e None w q i = cc
one-known g h s e (Some f) w q i = (extended-same g h s w, (f, there-edges s.pairs e f (sym q)))

pub one-answer : (g h : PlainGraph) (s t : Pairs) (e : ℕ) (b : Bool) → IsPairing g h s → image edge_there s.pairs e ≡ None
    → MatchBool b (IsPairing g h t × ((f : ℕ) × Leads g h (Edges e f ∷ []) s t × Has t.pairs (Edges e f))) ((iso : Isomorphic g h) → Maps iso s.pairs → ⊥)
    → MatchBool b (IsExtended g h s t × ((f : ℕ) × Has t.pairs (Edges e f))) ((iso : Isomorphic g h) → Maps iso s.pairs → ⊥)
one-answer g h s t e true w n m = let r = m.1 in (extended-part g h s t e r.0 w m.0 r.1 r.2 n, (r.0, r.2))
one-answer g h s t e false w n m = m

pub known-next : (g h : PlainGraph) (s t : Pairs) (n : ℕ) → IsExtended g h s t → AreKnown s.pairs n → (f : ℕ) × Has t.pairs (Edges n f) → AreKnown t.pairs (n + 1)
known-next g h s t n x a k e l = go (cases_lt e n)
  where
    go : (e < n) ⊎ (n ≤ e) → (f : ℕ) × Has t.pairs (Edges e f)
    go (inl b) = let r = a e b in (r.0, x.kept (Edges e r.0) r.1)
    go (inr b) = let q : e ≡ n = omega arith in (k.0, subst (λ z. Has t.pairs (Edges z k.0)) (sym q) k.1)
