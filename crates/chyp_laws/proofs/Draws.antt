-- A graph of a term, with its edges in any order.
use Rattle.std.proofs.Common.{ℕ, ◌<◌, ◌≡◌, List, map, length, Option, Some, option_map, slice_get, refl, sym, ◌∙◌, ap, ap₂, subst}
use Rattle.std.proofs.lemmas.List.{length-map}
use Rattle.chyp_term.specs.Morphism.{IsTyped, Morphism, dom}
use Rattle.chyp_term.specs.Perm.{count_from}
use Rattle.chyp_term.proofs.Permuted.{length-count_from, get-map}
use Rattle.chyp_term.proofs.Positions.{slice_get-length, some-same}
use Rattle.chyp_theory.proofs.Renaming.{In, Producer, Target, same-run, same-src}
use Rattle.chyp_theory.proofs.Running.{Alike, EdgeOf, label_of, run, src}
use Rattle.chyp_theory.proofs.EdgeLists.{edges_of, edge_at, edge_of, number, number_at}
use Rattle.chyp_theory.proofs.Sources.{rename}
use Rattle.chyp_graph.specs.GraphOf.{graph_of}
use Rattle.chyp_graph.specs.PlainGraph.{PlainGraph}
use Rattle.chyp_laws.proofs.Drawing.{Drawn, IsWire, drawn, sort_at}
use Rattle.chyp_laws.proofs.Edges.{draw}

pub record Draws (t : Morphism) (g : PlainGraph) : Type 0 where
  pub wire : Producer (EdgeOf t) → ℕ
  pub from : ℕ → Producer (EdgeOf t)
  pub edge : EdgeOf t → ℕ
  pub edge_from : ℕ → Option (EdgeOf t)
  pub wire_below : (x : Producer (EdgeOf t)) → IsWire t x → wire x < length g.wires
  pub from_valid : (w : ℕ) → w < length g.wires → IsWire t (from w)
  pub wire_from : (w : ℕ) → w < length g.wires → wire (from w) ≡ w
  pub from_wire : (x : Producer (EdgeOf t)) → IsWire t x → from (wire x) ≡ x
  pub sorts : (x : Producer (EdgeOf t)) → IsWire t x → slice_get g.wires (wire x) ≡ sort_at t x
  pub inputs : g.inputs ≡ map (λ j. wire (In j)) (count_from 0 (length (dom t)))
  pub outputs : g.outputs ≡ run t (λ e i. wire (Target e i)) g.inputs
  pub edge_onto : (n : ℕ) → n < length g.edges → (e : EdgeOf t) × (edge_from n ≡ Some e) × (edge e ≡ n)
  pub edge_back : (e : EdgeOf t) → edge_from (edge e) ≡ Some e
  pub ports : (e : EdgeOf t) → slice_get g.edges (edge e) ≡ Some (drawn t (λ e i. wire (Target e i)) g.inputs e)

pub ins-size : {t : Morphism} {g : PlainGraph} (d : Draws t g) → length g.inputs ≡ length (dom t)
ins-size {t} d = ap length d.inputs ∙ length-map (count_from 0 (length (dom t))) (λ j. d.wire (In j)) ∙ length-count_from 0 (length (dom t))

pub edge-below : {t : Morphism} {g : PlainGraph} (d : Draws t g) (e : EdgeOf t) → d.edge e < length g.edges
edge-below {g = g} d e = slice_get-length g.edges (d.edge e) _ (d.ports e)

pub edge-apart : {t : Morphism} {g : PlainGraph} (d : Draws t g) (e f : EdgeOf t) → d.edge e ≡ d.edge f → e ≡ f
edge-apart d e f q = some-same e f (sym (d.edge_back e) ∙ ap d.edge_from q ∙ d.edge_back f)

pub wire-apart : {t : Morphism} {g : PlainGraph} (d : Draws t g) (x y : Producer (EdgeOf t)) → IsWire t x → IsWire t y → d.wire x ≡ d.wire y → x ≡ y
wire-apart d x y u v q = sym (d.from_wire x u) ∙ ap d.from q ∙ d.from_wire y v

pub draws_of : {t : Morphism} {g : PlainGraph} → Drawn t g → Draws t g
draws_of {t} {g} d = record {
  wire = d.wire;
  from = d.from;
  edge = number t;
  edge_from = slice_get (edges_of t);
  wire_below = d.wire_below;
  from_valid = d.from_valid;
  wire_from = d.wire_from;
  from_wire = d.from_wire;
  sorts = d.sorts;
  inputs = d.inputs;
  outputs = d.outputs;
  edge_onto = λ n l. let e = edge_of t n (subst (λ m. n < m) count l) in (e.0, e.1, number_at t n e.0 e.1);
  edge_back = edge_at t;
  ports = λ e. ap (λ z. slice_get z (number t e)) d.edges ∙ get-map (drawn t (λ e i. d.wire (Target e i)) g.inputs) (edges_of t) (number t e)
      ∙ ap (option_map (drawn t (λ e i. d.wire (Target e i)) g.inputs)) (edge_at t e);
}
  where
    count : length g.edges ≡ length (edges_of t)
    count = ap length d.edges ∙ length-map (edges_of t) (drawn t (λ e i. d.wire (Target e i)) g.inputs)

pub draw_s : (t : Morphism) → IsTyped t → Draws t (graph_of t)
draw_s t ty = draws_of (draw t ty)

-- alike terms have the same graphs
module _ {s t : Morphism} {g : PlainGraph} (a : Alike s t) (d : Draws s g) where
  pub forth-valid : (x : Producer (EdgeOf s)) → IsWire s x → IsWire t (rename a.to x)
  forth-valid (In j) l = subst (λ n. j < n) (ap length a.doms) l
  forth-valid (Target e i) l = subst (λ z. i < length z.cod) (sym (a.labels e)) l

  pub back-label : (e : EdgeOf t) → label_of s (a.from e) ≡ label_of t e
  back-label e = sym (a.labels (a.from e)) ∙ ap (label_of t) (a.to_from e)

  pub back-valid : (x : Producer (EdgeOf t)) → IsWire t x → IsWire s (rename a.from x)
  back-valid (In j) l = subst (λ n. j < n) (sym (ap length a.doms)) l
  back-valid (Target e i) l = subst (λ z. i < length z.cod) (sym (back-label e)) l

  pub back-forth : (x : Producer (EdgeOf s)) → rename a.from (rename a.to x) ≡ x
  back-forth (In j) = refl
  back-forth (Target e i) = ap (λ z. Target z i) (a.from_to e)

  pub forth-back : (x : Producer (EdgeOf t)) → rename a.to (rename a.from x) ≡ x
  forth-back (In j) = refl
  forth-back (Target e i) = ap (λ z. Target z i) (a.to_from e)

  pub sort-back : (x : Producer (EdgeOf t)) → sort_at s (rename a.from x) ≡ sort_at t x
  sort-back (In j) = ap (λ z. slice_get z j) a.doms
  sort-back (Target e i) = ap (λ z. slice_get z.cod i) (back-label e)

  pub marks : (e : EdgeOf s) (i : ℕ) → d.wire (Target (a.from (a.to e)) i) ≡ d.wire (Target e i)
  marks e i = ap (λ z. d.wire (Target z i)) (a.from_to e)

  pub ran : (live : List ℕ) → length live ≡ length (dom s) → run t (λ e i. d.wire (Target (a.from e) i)) live ≡ run s (λ e i. d.wire (Target e i)) live
  ran live h = a.runs (λ e i. d.wire (Target (a.from e) i)) live h ∙ same-run s _ _ (λ e i l. marks e i) live

  pub into : (live : List ℕ) → length live ≡ length (dom s) → (e : EdgeOf t) → src t (λ e i. d.wire (Target (a.from e) i)) live e ≡ src s (λ e i. d.wire (Target e i)) live (a.from e)
  into live h e =
      ap (src t (λ e i. d.wire (Target (a.from e) i)) live) (sym (a.to_from e)) ∙ a.srcs (λ e i. d.wire (Target (a.from e) i)) live h (a.from e)
      ∙ same-src s _ _ (λ e i l. marks e i) live (a.from e)

  unfoldable pub draws_along : Draws t g
  draws_along = record {
    wire = λ x. d.wire (rename a.from x);
    from = λ w. rename a.to (d.from w);
    edge = λ e. d.edge (a.from e);
    edge_from = λ n. option_map a.to (d.edge_from n);
    wire_below = λ x v. d.wire_below _ (back-valid x v);
    from_valid = λ w l. forth-valid _ (d.from_valid w l);
    wire_from = λ w l. ap d.wire (back-forth (d.from w)) ∙ d.wire_from w l;
    from_wire = λ x v. ap (rename a.to) (d.from_wire _ (back-valid x v)) ∙ forth-back x;
    sorts = λ x v. d.sorts _ (back-valid x v) ∙ sort-back x;
    inputs = d.inputs ∙ ap (λ n. map (λ j. d.wire (In j)) (count_from 0 n)) (ap length a.doms);
    outputs = d.outputs ∙ sym (ran g.inputs (ins-size d));
    edge_onto = λ n l. let e = d.edge_onto n l in (a.to e.0, ap (option_map a.to) e.1, ap d.edge (a.from_to e.0) ∙ e.2);
    edge_back = λ e. ap (option_map a.to) (d.edge_back (a.from e)) ∙ ap Some (a.to_from e);
    ports = λ e. d.ports (a.from e) ∙ ap Some (
        ap₂ (λ z y. record { name = z.name; sources = y; targets = map (λ i. d.wire (Target (a.from e) i)) (count_from 0 (length z.cod)) }) (back-label e) (sym (into g.inputs (ins-size d) e)));
  }

pub along_edge : {s t : Morphism} {g : PlainGraph} (a : Alike s t) (d : Draws s g) (e : EdgeOf t) → (draws_along a d).edge e ≡ d.edge (a.from e)
unfolding draws_along
along_edge a d e = refl
