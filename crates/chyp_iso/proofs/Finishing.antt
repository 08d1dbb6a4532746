-- From pairs of all items to an isomorphism, and from its lists to its maps.
use Rattle.std.proofs.Common.{ℕ, zero, suc, ◌+◌, ◌<◌, ◌≤◌, ◌≡◌, true, false, List, length, map, Option, Some, slice_get, slice_index, ◌⊎◌, inl, inr, sym, ◌∙◌, ap, subst, arith, eqb}
use Rattle.std.proofs.Common.{ne_eqb, ◌≢◌}
use Rattle.std.specs.Bool.{MatchBool}
use Rattle.std.specs.Option.{option_and_then}
use Rattle.std.proofs.lemmas.Bool.Decides.{eqb_tells}
use Rattle.std.proofs.lemmas.List.{length-map}
use Rattle.chyp_term.specs.Perm.{IsPermutation, count_from}
use Rattle.chyp_term.specs.Positions.{place_of}
use Rattle.chyp_term.proofs.Closure.{index-get}
use Rattle.chyp_term.proofs.Inverses.{place-found, place_in}
use Rattle.chyp_term.proofs.Inverting.{pigeonhole}
use Rattle.chyp_term.proofs.Permuted.{found, length-count_from}
use Rattle.chyp_term.proofs.Positions.{slice_get-length}
use Rattle.chyp_graph.specs.PlainGraph.{PlainGraph, targets_of}
use Rattle.chyp_graph.specs.Isomorphism.{IsBijection, Isomorphic}
use Rattle.chyp_term.proofs.Members.{Member, Rearr-member, below-member, flat-member, member-get, member-split}
use Rattle.chyp_term.proofs.Rearrangement.{permutation-Rearr}
use Rattle.chyp_pairs.specs.declared.pair.Pair.TheVariants.{Wires, Edges}
use Rattle.chyp_iso.specs.Pair.{EdgesFit, WiresFit, wire_pairs}
use Rattle.chyp_pairs.specs.Pairs.{Has, Pairs, edge_there, wire_there}
use Rattle.chyp_iso.specs.Port.{IsPortAt, the_targets}
use Rattle.chyp_iso.specs.Following.{IsFollowedDown}
use Rattle.chyp_iso.specs.IsIsomorphism.{IsIsomorphism}
use Rattle.chyp_iso.specs.Search.{HaveSameCounts, IsWhole}
use Rattle.chyp_iso.specs.Scratch.{AreImages}
use Rattle.chyp_iso.proofs.Lists.{pairs-get}
use Rattle.chyp_pairs.proofs.PairLists.{has-left}
use Rattle.chyp_iso.proofs.Searching.{edge-renamed, fit-shape, input-images, output-images}
use Rattle.chyp_iso.proofs.Steps.{edges-back, edges-there, wires-back, wires-there}
use Rattle.chyp_iso.proofs.Switch.{pick}

-- ## sizes

get-mapped : (f : ℕ → ℕ) (k n i : ℕ) → i < n → slice_get (map f (count_from k n)) i ≡ Some (f (k + i))
get-mapped f k zero i h = absurd (omega arith)
get-mapped f k (suc n) zero h = ap (λ x. Some (f x)) (omega arith)
get-mapped f k (suc n) (suc i) h = get-mapped f (suc k) n i (omega arith) ∙ ap (λ x. Some (f x)) (omega arith)

-- numbers below m that are taken apart to numbers below n are no more
pub injection-size : (m n : ℕ) (f g : ℕ → ℕ) → ((i : ℕ) → i < m → f i < n) → ((i : ℕ) → i < m → g (f i) ≡ i) → m ≤ n
injection-size m n f g below again = subst (λ k. k ≤ n) size (pigeonhole n xs apart (λ i l. subst (λ x. x < n) (sym (at i (small i l))) (below i (small i l))))
  where
    xs : List ℕ
    xs = map f (count_from 0 m)

    size : length (map f (count_from 0 m)) ≡ m
    size = length-map (count_from 0 m) f ∙ length-count_from 0 m

    small : (i : ℕ) → i < length (map f (count_from 0 m)) → i < m
    small i l = let s : length (map f (count_from 0 m)) ≡ m = length-map (count_from 0 m) f ∙ length-count_from 0 m in omega arith

    at : (i : ℕ) → i < m → slice_index (map f (count_from 0 m)) i ≡ f i
    at i l = index-get _ i (f i) (get-mapped f 0 m i l ∙ ap (λ x. Some (f x)) (omega arith))

    apart : (i j : ℕ) → i < length (map f (count_from 0 m)) → j < length (map f (count_from 0 m)) → slice_index (map f (count_from 0 m)) i ≡ slice_index (map f (count_from 0 m)) j → i ≡ j
    apart i j a b e = sym (again i (small i a)) ∙ ap g (sym (at i (small i a)) ∙ e ∙ at j (small j b)) ∙ again j (small j b)

pub same-size : (m n : ℕ) (f g : ℕ → ℕ) → IsBijection m n f g → n ≡ m
same-size m n f g b = let p = injection-size m n f g b.there b.back_there in let q = injection-size n m g f b.back b.there_back in omega arith

pub same-counts : (g h : PlainGraph) → Isomorphic g h → HaveSameCounts g h
same-counts g h iso = record { edge_count = same-size _ _ iso.edge iso.edge_back iso.edges; wire_count = same-size _ _ iso.wire iso.wire_back iso.wires }

-- ## all wires

pub wires-known : (g h : PlainGraph) (s : Pairs) → IsWhole g h s → (v : ℕ) → v < length g.wires → (w : ℕ) × Has s.pairs (Wires v w)
wires-known g h s x v l =
    go (member-split g.inputs (targets_of g.edges) v (Rearr-member v (permutation-Rearr (length g.wires) _ x.pairing.fits.first_valid.producers) (below-member (length g.wires) v l)))
  where
    go : (Member v g.inputs) ⊎ (Member v (targets_of g.edges)) → (w : ℕ) × Has s.pairs (Wires v w)
    go (inl m) =
        let i = member-get g.inputs v m in
        let a = slice_get-length g.inputs i.0 v i.1 in
        let n = x.pairing.same_ends.input_count in
        let w = found h.inputs i.0 (omega arith) in
        (w.0, x.pairing.ends (Wires v w.0) (has-left (wire_pairs g.inputs h.inputs) (wire_pairs g.outputs h.outputs) (Wires v w.0) (pairs-get g.inputs h.inputs i.0 v w.0 i.1 w.1)))
    go (inr m) =
        let d = flat-member (λ e. e.targets) g.edges v m in
        let e = member-get g.edges d.0 d.1 in
        let i = member-get d.0.targets v d.2 in
        let p : IsPortAt g the_targets e.0 i.0 v = ap (option_and_then (λ c. slice_get c.targets i.0)) e.1 ∙ i.1 in
        let f = x.known e.0 (slice_get-length g.edges e.0 d.0 e.1) in
        let a : IsFollowedDown g h s.pairs the_targets e.0 f.0 = x.pairing.complete (Edges e.0 f.0) f.1 the_targets in
        let r = a.there i.0 v p in
        (r.0, r.2)

-- ## the lists of images

pub is-isomorphism : (g h : PlainGraph) (s : Pairs) (es ws : List ℕ) → IsWhole g h s → length es ≡ length g.edges → length ws ≡ length g.wires
    → AreImages edge_there s.pairs (length g.edges) es → AreImages wire_there s.pairs (length g.wires) ws → IsIsomorphism g h es ws
is-isomorphism g h s es ws x p q a b = record {
  edge_count = x.counts.edge_count;
  wire_count = x.counts.wire_count;
  edge_map = record { size = p; within = edge-within; apart = edge-apart };
  wire_map = record { size = q; within = wire-within; apart = wire-apart };
  sorts = λ v l. let w = wires-known g h s x v l in let f : WiresFit g h v w.0 = x.pairing.fits.pairs (Wires v w.0) w.1 in ap (slice_get h.wires) (wire v w.0 w.1) ∙ f.sorts;
  ports = λ k l.
      let f = x.known k l in
      let d : EdgesFit g h k f.0 = x.pairing.fits.pairs (Edges k f.0) f.1 in
      ap (slice_get h.edges) (edge k f.0 f.1) ∙ edge-renamed g h (slice_index ws) k f.0 l (fit-shape g h k f.0 d) (λ side i v c.
      let t : IsFollowedDown g h s.pairs side k f.0 = x.pairing.complete (Edges k f.0) f.1 side in
      let r = t.there i v c in
      subst (λ z. IsPortAt h side f.0 i z) (sym (wire v r.0 r.2)) r.1);
  inputs = input-images g h s (slice_index ws) x.pairing wire;
  outputs = output-images g h s (slice_index ws) x.pairing wire;
}
  where
    wire : (v w : ℕ) → Has s.pairs (Wires v w) → slice_index ws v ≡ w
    wire v w k = let f : WiresFit g h v w = x.pairing.fits.pairs (Wires v w) k in let t = f.there in b v w (omega arith) (wires-there s.pairs x.pairing.matching v w k)

    edge : (e f : ℕ) → Has s.pairs (Edges e f) → slice_index es e ≡ f
    edge e f k = let d : EdgesFit g h e f = x.pairing.fits.pairs (Edges e f) k in let t = slice_get-length g.edges e d.first d.first_is in a e f (omega arith)
        (edges-there s.pairs x.pairing.matching e f k)

    wire-within : (v : ℕ) → v < length g.wires → slice_index ws v < length g.wires
    wire-within v l = let w = wires-known g h s x v l in let f : WiresFit g h v w.0 = x.pairing.fits.pairs
        (Wires v w.0) w.1 in let t = f.within in let c = x.counts.wire_count in subst (λ z. z < length g.wires) (sym (wire v w.0 w.1)) (omega arith)

    edge-within : (v : ℕ) → v < length g.edges → slice_index es v < length g.edges
    edge-within v l = let w = x.known v l in let f : EdgesFit g h v w.0 = x.pairing.fits.pairs
        (Edges v w.0) w.1 in let t = slice_get-length h.edges w.0 f.second f.second_is in let c = x.counts.edge_count in subst (λ z. z < length g.edges) (sym (edge v w.0 w.1)) (omega arith)

    wire-apart : (i j : ℕ) → i < length g.wires → j < length g.wires → slice_index ws i ≡ slice_index ws j → i ≡ j
    wire-apart i j l m e =
        let v = wires-known g h s x i l in
        let w = wires-known g h s x j m in
        let z : v.0 ≡ w.0 = sym (wire i v.0 v.1) ∙ e ∙ wire j w.0 w.1 in
        let c : ◌≡◌ {A = Option ℕ} (Some i) (Some j) = sym (wires-back s.pairs x.pairing.matching i w.0 (subst (λ y. Has s.pairs (Wires i y)) z v.1))
        ∙ wires-back s.pairs x.pairing.matching j w.0 w.1 in
        cc

    edge-apart : (i j : ℕ) → i < length g.edges → j < length g.edges → slice_index es i ≡ slice_index es j → i ≡ j
    edge-apart i j l m e =
        let v = x.known i l in
        let w = x.known j m in
        let z : v.0 ≡ w.0 = sym (edge i v.0 v.1) ∙ e ∙ edge j w.0 w.1 in
        let c : ◌≡◌ {A = Option ℕ} (Some i) (Some j) = sym (edges-back s.pairs x.pairing.matching i w.0 (subst (λ y. Has s.pairs (Edges i y)) z v.1))
        ∙ edges-back s.pairs x.pairing.matching j w.0 w.1 in
        cc

-- ## lists of images are isomorphisms

permutation-bijection : (n : ℕ) (p : List ℕ) → IsPermutation n p → IsBijection n n (slice_index p) (λ j. pick (place_of j p) 0)
permutation-bijection n p t = record {
  there = t.within;
  back = λ j l. let r = place_in n p t j l in let b = slice_get-length p r.0 j (place-found j p r.0 r.1) in let s = t.size in subst (λ o. pick o 0 < n) (sym r.1) (omega arith);
  there_back = λ j l. let r = place_in n p t j l in ap (λ o. slice_index p (pick o 0)) r.1 ∙ index-get p r.0 j (place-found j p r.0 r.1);
  back_there = λ i l.
      let r = place_in n p t (slice_index p i) (t.within i l) in
      let f = place-found (slice_index p i) p r.0 r.1 in
      let b = slice_get-length p r.0 (slice_index p i) f in
      let s = t.size in
      ap (λ o. pick o 0) r.1 ∙ t.apart r.0 i (omega arith) l (index-get p r.0 (slice_index p i) f);
}

pub is-isomorphic : (g h : PlainGraph) (es ws : List ℕ) → IsIsomorphism g h es ws → Isomorphic g h
is-isomorphic g h es ws x = record {
  wire = slice_index ws;
  wire_back = λ j. pick (place_of j ws) 0;
  edge = slice_index es;
  edge_back = λ j. pick (place_of j es) 0;
  wires = subst (λ n. IsBijection (length g.wires) n (slice_index ws) (λ j. pick (place_of j ws) 0)) (sym x.wire_count) (permutation-bijection (length g.wires) ws x.wire_map);
  edges = subst (λ n. IsBijection (length g.edges) n (slice_index es) (λ j. pick (place_of j es) 0)) (sym x.edge_count) (permutation-bijection (length g.edges) es x.edge_map);
  sorts = x.sorts;
  ports = x.ports;
  inputs = x.inputs;
  outputs = x.outputs;
}

-- ## what the comparisons of counts answer

pub counts-answer : (g h : PlainGraph) (a b c d : ℕ) → a ≡ length g.edges → b ≡ length h.edges → a ≡ b → c ≡ length g.wires → d ≡ length h.wires
    → MatchBool (eqb c d) (HaveSameCounts g h) (Isomorphic g h → ⊥)
counts-answer g h a b c d p q e r s = go (eqb_tells c d)
  where
    go : ((eqb c d ≡ true) × (c ≡ d)) ⊎ ((eqb c d ≡ false) × (c ≢ d)) → MatchBool (eqb c d) (HaveSameCounts g h) (Isomorphic g h → ⊥)
    go (inl k) = rw k.0 (record { edge_count = sym q ∙ sym e ∙ p; wire_count = sym s ∙ sym k.1 ∙ r })
    go (inr k) = rw k.0 (λ iso. k.1 (r ∙ sym (same-counts g h iso).wire_count ∙ sym s))

pub counts-differ : (g h : PlainGraph) (a b : ℕ) → a ≡ length g.edges → b ≡ length h.edges → (a ≡ b → ⊥) → MatchBool (eqb a b) (HaveSameCounts g h) (Isomorphic g h → ⊥)
counts-differ g h a b p q n = rw (ne_eqb a b n) (λ iso. n (p ∙ sym (same-counts g h iso).edge_count ∙ sym q))
