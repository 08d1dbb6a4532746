-- Terms that are alike have isomorphic graphs.
use Rattle.std.proofs.Common.{ℕ, ◌<◌, ◌≡◌, map, length, Option, Some, None, option_map, slice_get, refl, sym, ◌∙◌, ap, ap₂, subst, arith}
use Rattle.chyp_term.specs.Morphism.{IsTyped, Morphism, dom}
use Rattle.chyp_term.specs.Perm.{count_from}
use Rattle.chyp_term.proofs.Positions.{map-map}
use Rattle.chyp_theory.proofs.Renaming.{In, Producer, Target, map-count, map-run, map-src, same-run, same-src}
use Rattle.chyp_theory.proofs.Running.{Alike, EdgeOf, label_of, run, src}
use Rattle.chyp_graph.specs.Isomorphism.{IsBijection, Isomorphic}
use Rattle.chyp_graph.specs.PlainGraph.{PlainGraph, renamed}
use Rattle.chyp_laws.proofs.Drawing.{IsWire, drawn, sort_at}
use Rattle.chyp_laws.proofs.Draws.{Draws, edge-below, ins-size}

-- ## from alike to isomorphic

module _ (s t : Morphism) (ts : IsTyped s) (ty : IsTyped t) (g h : PlainGraph) (d : Draws s g) (k : Draws t h) (a : Alike s t) where
  over : Producer (EdgeOf s) → Producer (EdgeOf t)
  over (In j) = In j
  over (Target e i) = Target (a.to e) i

  under : Producer (EdgeOf t) → Producer (EdgeOf s)
  under (In j) = In j
  under (Target e i) = Target (a.from e) i

  over-valid : (x : Producer (EdgeOf s)) → IsWire s x → IsWire t (over x)
  unfolding over
  over-valid (In j) l = subst (λ n. j < n) (ap length a.doms) l
  over-valid (Target e i) l = subst (λ z. i < length z.cod) (sym (a.labels e)) l

  under-valid : (x : Producer (EdgeOf t)) → IsWire t x → IsWire s (under x)
  unfolding under
  under-valid (In j) l = subst (λ n. j < n) (sym (ap length a.doms)) l
  under-valid (Target e i) l = subst (λ z. i < length z.cod) (ap (label_of t) (sym (a.to_from e)) ∙ a.labels (a.from e)) l

  under-over : (x : Producer (EdgeOf s)) → under (over x) ≡ x
  unfolding over under
  under-over (In j) = refl
  under-over (Target e i) = ap (λ z. Target z i) (a.from_to e)

  over-under : (x : Producer (EdgeOf t)) → over (under x) ≡ x
  unfolding over under
  over-under (In j) = refl
  over-under (Target e i) = ap (λ z. Target z i) (a.to_from e)

  over-sort : (x : Producer (EdgeOf s)) → sort_at t (over x) ≡ sort_at s x
  unfolding over
  over-sort (In j) = ap (λ z. slice_get z j) (sym a.doms)
  over-sort (Target e i) = ap (λ z. slice_get z.cod i) (a.labels e)

  wire : ℕ → ℕ
  wire w = k.wire (over (d.from w))

  wire_back : ℕ → ℕ
  wire_back v = d.wire (under (k.from v))

  wire-wire : (x : Producer (EdgeOf s)) → IsWire s x → wire (d.wire x) ≡ k.wire (over x)
  unfolding wire
  wire-wire x l = ap (λ z. k.wire (over z)) (d.from_wire x l)

  wires : IsBijection (length g.wires) (length h.wires) wire wire_back
  unfolding wire wire_back
  wires = record {
    there = λ w l. k.wire_below _ (over-valid _ (d.from_valid w l));
    back = λ v l. d.wire_below _ (under-valid _ (k.from_valid v l));
    there_back = λ v l. ap (λ z. k.wire (over z)) (d.from_wire _ (under-valid _ (k.from_valid v l))) ∙ ap k.wire (over-under (k.from v)) ∙ k.wire_from v l;
    back_there = λ w l. ap (λ z. d.wire (under z)) (k.from_wire _ (over-valid _ (d.from_valid w l))) ∙ ap d.wire (under-over (d.from w)) ∙ d.wire_from w l;
  }

  inputs : h.inputs ≡ map wire g.inputs
  unfolding over
  inputs =
      k.inputs
      ∙ ap (λ n. map (λ j. k.wire (In j)) (count_from 0 n)) (ap length (sym a.doms))
      ∙ map-count (λ j. k.wire (In j)) (λ j. wire (d.wire (In j))) 0 (length (dom s)) (λ j _ l. sym (wire-wire (In j) (omega arith)))
      ∙ sym (map-map wire (λ j. d.wire (In j)) (count_from 0 (length (dom s))))
      ∙ ap (map wire) (sym d.inputs)

  marks : (e : EdgeOf s) (i : ℕ) → i < length (label_of s e).cod → wire (d.wire (Target e i)) ≡ k.wire (Target (a.to e) i)
  unfolding over
  marks e i l = wire-wire (Target e i) l

  outputs : h.outputs ≡ map wire g.outputs
  outputs =
      k.outputs
      ∙ a.runs (λ e i. k.wire (Target e i)) h.inputs (ins-size k ∙ ap length (sym a.doms))
      ∙ ap (run s (λ e i. k.wire (Target (a.to e) i))) inputs
      ∙ sym (same-run s (λ e i. wire (d.wire (Target e i))) (λ e i. k.wire (Target (a.to e) i)) marks (map wire g.inputs))
      ∙ sym (map-run wire s ts (λ e i. d.wire (Target e i)) g.inputs (ins-size d))
      ∙ ap (map wire) (sym d.outputs)

  sources : (e : EdgeOf s) → src t (λ e i. k.wire (Target e i)) h.inputs (a.to e) ≡ map wire (src s (λ e i. d.wire (Target e i)) g.inputs e)
  sources e =
      a.srcs (λ e i. k.wire (Target e i)) h.inputs (ins-size k ∙ ap length (sym a.doms)) e
      ∙ ap (λ l. src s (λ e i. k.wire (Target (a.to e) i)) l e) inputs
      ∙ sym (same-src s (λ e i. wire (d.wire (Target e i))) (λ e i. k.wire (Target (a.to e) i)) marks (map wire g.inputs) e)
      ∙ sym (map-src wire s ts (λ e i. d.wire (Target e i)) g.inputs (ins-size d) e)

  edge_or : Option (EdgeOf t) → ℕ
  edge_or None = 0
  edge_or (Some e) = k.edge e

  edge_back_or : Option (EdgeOf s) → ℕ
  edge_back_or None = 0
  edge_back_or (Some e) = d.edge e

  edge : ℕ → ℕ
  edge n = edge_or (option_map a.to (d.edge_from n))

  edge_back : ℕ → ℕ
  edge_back n = edge_back_or (option_map a.from (k.edge_from n))

  edge-at : (n : ℕ) (e : EdgeOf s) → d.edge_from n ≡ Some e → edge n ≡ k.edge (a.to e)
  unfolding edge edge_or
  edge-at n e q = ap (λ o. edge_or (option_map a.to o)) q

  edge_back-at : (n : ℕ) (e : EdgeOf t) → k.edge_from n ≡ Some e → edge_back n ≡ d.edge (a.from e)
  unfolding edge_back edge_back_or
  edge_back-at n e q = ap (λ o. edge_back_or (option_map a.from o)) q

  edges : IsBijection (length g.edges) (length h.edges) edge edge_back
  edges = record {
    there = λ n l. let e = d.edge_onto n l in rw (edge-at n e.0 e.1) (edge-below k (a.to e.0));
    back = λ n l. let e = k.edge_onto n l in rw (edge_back-at n e.0 e.1) (edge-below d (a.from e.0));
    there_back = λ n l. let e = k.edge_onto n l in ap edge (edge_back-at n e.0 e.1) ∙ edge-at _ (a.from e.0) (d.edge_back (a.from e.0)) ∙ ap k.edge (a.to_from e.0) ∙ e.2;
    back_there = λ n l. let e = d.edge_onto n l in ap edge_back (edge-at n e.0 e.1) ∙ edge_back-at _ (a.to e.0) (k.edge_back (a.to e.0)) ∙ ap d.edge (a.from_to e.0) ∙ e.2;
  }

  same-drawn : (e : EdgeOf s) → drawn t (λ e i. k.wire (Target e i)) h.inputs (a.to e) ≡ renamed wire (drawn s (λ e i. d.wire (Target e i)) g.inputs e)
  same-drawn e =
      ap (λ z. record { name = z.name; sources = src t (λ e i. k.wire (Target e i)) h.inputs (a.to e); targets = map (λ i. k.wire (Target (a.to e) i)) (count_from 0 (length z.cod)) }) (a.labels e)
      ∙ ap₂ (λ x y. record { name = (label_of s e).name; sources = x; targets = y }) (sources e)
      (map-count (λ i. k.wire (Target (a.to e) i)) (λ i. wire (d.wire (Target e i))) 0 (length (label_of s e).cod) (λ i _ l. sym (marks e i (omega arith)))
      ∙ sym (map-map wire (λ i. d.wire (Target e i)) (count_from 0 (length (label_of s e).cod))))

  ports : (n : ℕ) → n < length g.edges → slice_get h.edges (edge n) ≡ option_map (renamed wire) (slice_get g.edges n)
  ports n l =
      let e = d.edge_onto n l in
      ap (slice_get h.edges) (edge-at n e.0 e.1)
      ∙ k.ports (a.to e.0)
      ∙ ap Some (same-drawn e.0)
      ∙ sym (ap (option_map (renamed wire)) (ap (slice_get g.edges) (sym e.2) ∙ d.ports e.0))

  pub isomorphic : Isomorphic g h
  unfolding wire
  isomorphic = record {
    wire = wire;
    wire_back = wire_back;
    edge = edge;
    edge_back = edge_back;
    wires = wires;
    edges = edges;
    sorts = λ w l. k.sorts _ (over-valid _ (d.from_valid w l)) ∙ over-sort (d.from w) ∙ sym (d.sorts _ (d.from_valid w l)) ∙ ap (slice_get g.wires) (d.wire_from w l);
    ports = ports;
    inputs = inputs;
    outputs = outputs;
  }
