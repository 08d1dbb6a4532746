-- Isomorphism of plain graphs is an equivalence.
use Rattle.std.proofs.Common.{[], ℕ, ◌<◌, ◌≡◌, List, ◌∷◌, map, length, Option, Some, None, option_map, slice_get, refl, sym, ◌∙◌, ap, ap₂}
use Rattle.chyp_term.proofs.Permuted.{Under, found}
use Rattle.chyp_term.proofs.Positions.{map-map}
use Rattle.chyp_graph.specs.Isomorphism.{IsBijection, Isomorphic}
use Rattle.chyp_graph.specs.PlainGraph.{Edge, PlainGraph, renamed}

pub option-renamed-renamed : (f g : ℕ → ℕ) (o : Option Edge) → option_map (renamed f) (option_map (renamed g) o) ≡ option_map (renamed (λ w. f (g w))) o
option-renamed-renamed f g None = refl
option-renamed-renamed f g (Some e) = ap Some (ap₂ (λ a b. record { name = e.name; sources = a; targets = b }) (map-map f g e.sources) (map-map f g e.targets))

pub bijection-compose : {m n k : ℕ} {f g f' g' : ℕ → ℕ} → IsBijection m n f g → IsBijection n k f' g' → IsBijection m k (λ i. f' (f i)) (λ j. g (g' j))
bijection-compose {f = f} {g = g} {f' = f'} {g' = g'} a b = record {
  there = λ i h. b.there _ (a.there i h);
  back = λ j h. a.back _ (b.back j h);
  there_back = λ j h. ap f' (a.there_back (g' j) (b.back j h)) ∙ b.there_back j h;
  back_there = λ i h. ap g (b.back_there (f i) (a.there i h)) ∙ a.back_there i h;
}

pub bijection-sym : {m n : ℕ} {f g : ℕ → ℕ} → IsBijection m n f g → IsBijection n m g f
bijection-sym a = record { there = a.back; back = a.there; there_back = a.back_there; back_there = a.there_back }

pub Isomorphic-trans : (g h k : PlainGraph) → Isomorphic g h → Isomorphic h k → Isomorphic g k
Isomorphic-trans g h k a b = record {
  wire = λ w. b.wire (a.wire w);
  wire_back = λ w. a.wire_back (b.wire_back w);
  edge = λ n. b.edge (a.edge n);
  edge_back = λ n. a.edge_back (b.edge_back n);
  wires = bijection-compose a.wires b.wires;
  edges = bijection-compose a.edges b.edges;
  sorts = λ w l. b.sorts (a.wire w) (a.wires.there w l) ∙ a.sorts w l;
  ports = λ n l. b.ports (a.edge n) (a.edges.there n l) ∙ ap (option_map (renamed b.wire)) (a.ports n l) ∙ option-renamed-renamed b.wire a.wire (slice_get g.edges n);
  inputs = b.inputs ∙ ap (map b.wire) a.inputs ∙ map-map b.wire a.wire g.inputs;
  outputs = b.outputs ∙ ap (map b.wire) a.outputs ∙ map-map b.wire a.wire g.outputs;
}

-- the wires that g speaks of are there
pub record IsWithin (g : PlainGraph) : Type 0 where
  pub inputs : Under (length g.wires) g.inputs
  pub outputs : Under (length g.wires) g.outputs
  pub ports : (k : ℕ) (e : Edge) → slice_get g.edges k ≡ Some e → Under (length g.wires) e.sources × Under (length g.wires) e.targets

pub back-again : (n : ℕ) (f g : ℕ → ℕ) (xs : List ℕ) → ((i : ℕ) → i < n → g (f i) ≡ i) → Under n xs → map g (map f xs) ≡ xs
back-again n f g [] h u = refl
back-again n f g (x ∷ xs) h u = ap₂ (λ a r. a ∷ r) (h x u.0) (back-again n f g xs h u.1)

pub Isomorphic-sym : (g h : PlainGraph) → IsWithin g → Isomorphic g h → Isomorphic h g
Isomorphic-sym g h r a = record {
  wire = a.wire_back;
  wire_back = a.wire;
  edge = a.edge_back;
  edge_back = a.edge;
  wires = bijection-sym a.wires;
  edges = bijection-sym a.edges;
  sorts = λ w l. sym (a.sorts (a.wire_back w) (a.wires.back w l)) ∙ ap (slice_get h.wires) (a.wires.there_back w l);
  ports = λ n l.
      let m = a.edges.back n l in
      let e = found g.edges (a.edge_back n) m in
      let u = r.ports (a.edge_back n) e.0 e.1 in
      e.1
      ∙ sym (ap (option_map (renamed a.wire_back)) (ap (slice_get h.edges) (sym (a.edges.there_back n l)) ∙ a.ports (a.edge_back n) m ∙ ap (option_map (renamed a.wire)) e.1)
      ∙ ap Some (ap₂ (λ x y. record { name = e.0.name; sources = x; targets = y })
      (back-again (length g.wires) a.wire a.wire_back e.0.sources a.wires.back_there u.0)
      (back-again (length g.wires) a.wire a.wire_back e.0.targets a.wires.back_there u.1)));
  inputs = sym (ap (map a.wire_back) a.inputs ∙ back-again (length g.wires) a.wire a.wire_back g.inputs a.wires.back_there r.inputs);
  outputs = sym (ap (map a.wire_back) a.outputs ∙ back-again (length g.wires) a.wire a.wire_back g.outputs a.wires.back_there r.outputs);
}
