-- One pair more, or none.
use Rattle.std.proofs.Common.{ℕ, ◌<◌, ◌≡◌, Bool, true, false, List, [], ◌∷◌, length, Option, Some, None, slice_get, option_map, eqb, eq-eqb, eqb-true, inl, refl, sym, ◌∙◌, ap}
use Rattle.std.specs.Bool.{MatchBool}
use Rattle.std.specs.Option.{is_some}
use Rattle.std.proofs.lemmas.List.{length-map}
use Rattle.chyp_graph.specs.PlainGraph.{Edge, PlainGraph, renamed}
use Rattle.chyp_term.proofs.Positions.{slice_get-length}
use Rattle.chyp_pairs.specs.declared.pair.Pair.{Pair}
use Rattle.chyp_pairs.specs.declared.pair.Pair.TheVariants.{Wires, Edges}
use Rattle.chyp_iso.specs.Pair.{AreAlike, EdgesFit, WiresFit}
use Rattle.chyp_pairs.specs.Pairs.{Has, IsMatching, Pairs, edge_back, edge_there, image, wire_back, wire_there}
use Rattle.chyp_iso.specs.Following.{Fits}
use Rattle.chyp_iso.proofs.Steps.{back-edges, back-wires, edges-there, there-edges, there-wires, wires-there}
use Rattle.chyp_match.specs.Embedding.{Embedding}
use Rattle.chyp_match.specs.Following.{Refutes}

-- one wire goes to one wire
pub other_wire-refutes : (g h : PlainGraph) (ps : List Pair) (v w u : ℕ) → Has ps (Wires v u) → (u ≡ w → ⊥) → Refutes g h (Wires v w ∷ []) ps
other_wire-refutes g h ps v w u k n iso a b = n (sym (a (Wires v u) k) ∙ b (Wires v w) (inl refl))

pub other_edge-refutes : (g h : PlainGraph) (ps : List Pair) (v w u : ℕ) → Has ps (Edges v u) → (u ≡ w → ⊥) → Refutes g h (Edges v w ∷ []) ps
other_edge-refutes g h ps v w u k n iso a b = n (sym (a (Edges v u) k) ∙ b (Edges v w) (inl refl))

-- one wire comes from one wire
pub taken_wire-refutes : (g h : PlainGraph) (s : Pairs) → Fits g h s → IsMatching s.pairs → (v w u : ℕ) → v < length g.wires → Has s.pairs (Wires u w) → image wire_there s.pairs v ≡ None
    → Refutes g h (Wires v w ∷ []) s.pairs
taken_wire-refutes g h s f m v w u l k n iso a b =
    let x : iso.wire u ≡ w = a (Wires u w) k in
    let y : iso.wire v ≡ w = b (Wires v w) (inl refl) in
    let fit : WiresFit g h u w = f.pairs (Wires u w) k in
    let e : u ≡ v = iso.wires_apart u v fit.there l (x ∙ sym y) in
    let z : image wire_there s.pairs v ≡ Some w = ap (image wire_there s.pairs) (sym e) ∙ wires-there s.pairs m u w k in
    let c : ◌≡◌ {A = Option ℕ} None (Some w) = sym n ∙ z in
    cc

pub taken_edge-refutes : (g h : PlainGraph) (s : Pairs) → Fits g h s → IsMatching s.pairs → (v w u : ℕ) → v < length g.edges → Has s.pairs (Edges u w) → image edge_there s.pairs v ≡ None
    → Refutes g h (Edges v w ∷ []) s.pairs
taken_edge-refutes g h s f m v w u l k n iso a b =
    let x : iso.edge u ≡ w = a (Edges u w) k in
    let y : iso.edge v ≡ w = b (Edges v w) (inl refl) in
    let fit : EdgesFit g h u w = f.pairs (Edges u w) k in
    let e : u ≡ v = iso.edges_apart u v (slice_get-length g.edges u fit.first fit.first_is) l (x ∙ sym y) in
    let z : image edge_there s.pairs v ≡ Some w = ap (image edge_there s.pairs) (sym e) ∙ edges-there s.pairs m u w k in
    let c : ◌≡◌ {A = Option ℕ} None (Some w) = sym n ∙ z in
    cc

-- wires of other sorts
pub sorts-refute : (g h : PlainGraph) (ps : List Pair) (v w : ℕ) → v < length g.wires → (slice_get h.wires w ≡ slice_get g.wires v → ⊥) → Refutes g h (Wires v w ∷ []) ps
sorts-refute g h ps v w l n iso a b = n (ap (slice_get h.wires) (sym (b (Wires v w) (inl refl))) ∙ iso.sorts v l)

-- edges that are not alike
pub alike-embedded : (g h : PlainGraph) (iso : Embedding g h) (e : ℕ) (first second : Edge) → slice_get g.edges e ≡ Some first → slice_get h.edges (iso.edge e) ≡ Some second
    → AreAlike first second
alike-embedded g h iso e first second p q =
    let r : ◌≡◌ {A = Option Edge} (Some second) (Some (renamed iso.wire first)) = sym q ∙ iso.ports e (slice_get-length g.edges e first p) ∙ ap (option_map (renamed iso.wire)) p in
    let s : second ≡ renamed iso.wire first = cc in
    record {
      names = ap (λ d. d.name) s;
      source_count = ap (λ d. length d.sources) s ∙ length-map first.sources iso.wire;
      target_count = ap (λ d. length d.targets) s ∙ length-map first.targets iso.wire;
    }

pub alike-refutes : (g h : PlainGraph) (ps : List Pair) (e f : ℕ) (first second : Edge) → slice_get g.edges e ≡ Some first → slice_get h.edges f ≡ Some second → (AreAlike first second → ⊥)
    → Refutes g h (Edges e f ∷ []) ps
alike-refutes g h ps e f first second p q n iso a b =
    n (alike-embedded g h iso e first second p (ap (slice_get h.edges) (b (Edges e f) (inl refl)) ∙ q))

-- ## what the steps answer

pub known_wire-answer : (g h : PlainGraph) (ps : List Pair) (v w u : ℕ) (b : Bool) → image wire_there ps v ≡ Some u → b ≡ eqb u w
    → MatchBool b (Has ps (Wires v w)) (Refutes g h (Wires v w ∷ []) ps)
known_wire-answer g h ps v w u true i e = there-wires ps v w (i ∙ ap (λ x. Some x) (eqb-true u w (sym e)))
known_wire-answer g h ps v w u false i e = other_wire-refutes g h ps v w u (there-wires ps v u i) (λ q. let r = eq-eqb u w q in cc)

pub known_edge-answer : (g h : PlainGraph) (ps : List Pair) (v w u : ℕ) (b : Bool) → image edge_there ps v ≡ Some u → b ≡ eqb u w
    → MatchBool b (Has ps (Edges v w)) (Refutes g h (Edges v w ∷ []) ps)
known_edge-answer g h ps v w u true i e = there-edges ps v w (i ∙ ap (λ x. Some x) (eqb-true u w (sym e)))
known_edge-answer g h ps v w u false i e = other_edge-refutes g h ps v w u (there-edges ps v u i) (λ q. let r = eq-eqb u w q in cc)

pub taken_wire-answer : (g h : PlainGraph) (s : Pairs) → Fits g h s → IsMatching s.pairs → (v w : ℕ) (r : Option ℕ) → v < length g.wires → r ≡ image wire_back s.pairs w → is_some r ≡ true
    → image wire_there s.pairs v ≡ None → Refutes g h (Wires v w ∷ []) s.pairs
taken_wire-answer g h s f m v w None l i e n = cc
taken_wire-answer g h s f m v w (Some u) l i e n = taken_wire-refutes g h s f m v w u l (back-wires s.pairs u w (sym i)) n

pub taken_edge-answer : (g h : PlainGraph) (s : Pairs) → Fits g h s → IsMatching s.pairs → (v w : ℕ) (r : Option ℕ) → v < length g.edges → r ≡ image edge_back s.pairs w → is_some r ≡ true
    → image edge_there s.pairs v ≡ None → Refutes g h (Edges v w ∷ []) s.pairs
taken_edge-answer g h s f m v w None l i e n = cc
taken_edge-answer g h s f m v w (Some u) l i e n = taken_edge-refutes g h s f m v w u l (back-edges s.pairs u w (sym i)) n
