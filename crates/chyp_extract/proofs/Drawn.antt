-- A term that carries the inputs of a valid graph to its outputs, through all its edges, is drawn by the graph.
use Rattle.std.proofs.Common.{ℕ, ◌<◌, ◌≡◌, List, [], ◌∷◌, ◌++◌, map, length, flat_map, Option, Some, option_map, slice_get, slice_index, ◌⊎◌, inl, inr, refl, sym, ◌∙◌, ap, ap₂, subst}
use Rattle.std.proofs.lemmas.List.{length-map, map-append}
use Rattle.chyp_term.specs.Morphism.{Morphism, dom}
use Rattle.chyp_term.specs.Perm.{IsPermutation, count_from}
use Rattle.chyp_term.specs.Positions.{place_of}
use Rattle.chyp_term.proofs.Closure.{Under-perm, get-index, index-get}
use Rattle.chyp_term.proofs.Inverses.{place-found, place_in}
use Rattle.chyp_term.proofs.Permuted.{get-permuted, get_option, length-permuted, get-map}
use Rattle.chyp_term.proofs.Positions.{map-map, slice_get-length}
use Rattle.chyp_theory.proofs.Renaming.{In, Producer, Target}
use Rattle.chyp_theory.proofs.Running.{EdgeOf, label_of}
use Rattle.chyp_graph.specs.PlainGraph.{Edge, PlainGraph, targets_of}
use Rattle.chyp_graph.specs.Validity.{IsValid}
use Rattle.chyp_term.proofs.Members.{Member, below-member, flat-member, get-member, map-member, member-below, member-flat, member-left, member-map, member-right, member-split}
use Rattle.chyp_term.proofs.Rearrangement.{Rearr, Rearr-flat, Rearr-left, flat-map}
use Rattle.chyp_laws.proofs.Drawing.{IsWire, drawn, sort_at}
use Rattle.chyp_theory.proofs.EdgeLists.{edges_of, edge_at, edge_of, number, number_at, number_below}
use Rattle.chyp_laws.proofs.Draws.{Draws}
use Rattle.chyp_term.proofs.Blocks.{Rearr-perm, permutation-member, rearr_perm}
use Rattle.chyp_extract.proofs.Numbered.{is-numbered, numbered, numbered-back, place-at}
use Rattle.chyp_extract.proofs.Reading.{all-edges, read-index, runs, same-name, sort-at, sorts-length, sources-in, stands_for, target-sorts, typing}
use Rattle.chyp_extract.proofs.Spans.{Carries}

map-flat : {A B C : Type 0} (f : B → C) (h : A → List B) (xs : List A) → map f (flat_map h xs) ≡ flat_map (λ x. map f (h x)) xs
map-flat f h [] = refl
map-flat f h (x ∷ xs) = map-append f (h x) (flat_map h xs) ∙ ap (λ z. map f (h x) ++ z) (map-flat f h xs)

flat-same : {A B : Type 0} (f h : A → List B) (xs : List A) → ((x : A) → f x ≡ h x) → flat_map f xs ≡ flat_map h xs
flat-same f h [] e = refl
flat-same f h (x ∷ xs) e = ap₂ (λ a b. a ++ b) (e x) (flat-same f h xs e)

module _ (g : PlainGraph) (v : IsValid g) (t : Morphism) (es : List Edge) (c : Carries g.wires t g.inputs g.outputs es) (r : Rearr g.edges es) where
  abbrev edge_for : EdgeOf t → Edge
  edge_for = stands_for g.wires t g.inputs g.outputs es c

  abbrev wire : Producer (EdgeOf t) → ℕ
  wire (In j) = slice_index g.inputs j
  wire (Target e i) = slice_index (edge_for e).targets i

  -- ## wires

  abbrev targets : EdgeOf t → List (Producer (EdgeOf t))
  targets e = map (λ i. Target e i) (count_from 0 (length (label_of t e).cod))

  abbrev inputs : List (Producer (EdgeOf t))
  inputs = map (λ j. In j) (count_from 0 (length (dom t)))

  abbrev producers : List (Producer (EdgeOf t))
  producers = inputs ++ flat_map targets (edges_of t)

  read-inputs : map (λ j. wire (In j)) (count_from 0 (length (dom t))) ≡ g.inputs
  read-inputs = read-index g.inputs (length (dom t)) (sorts-length g.wires g.inputs (dom t) (typing g.wires t g.inputs g.outputs es c).ins)

  read-targets : (e : EdgeOf t) → map (λ i. wire (Target e i)) (count_from 0 (length (label_of t e).cod)) ≡ (edge_for e).targets
  read-targets e = read-index (edge_for e).targets (length (label_of t e).cod) (sorts-length g.wires (edge_for e).targets (label_of t e).cod (target-sorts g.wires t g.inputs g.outputs es c e))

  wires-of : map wire producers ≡ g.inputs ++ targets_of es
  wires-of =
      map-append wire inputs (flat_map targets (edges_of t))
      ∙ ap₂ (λ a b. a ++ b)
      (map-map wire (λ j. In j) (count_from 0 (length (dom t))) ∙ read-inputs)
      (map-flat wire targets (edges_of t)
      ∙ flat-same (λ e. map wire (targets e)) (λ e. (edge_for e).targets) (edges_of t) (λ e. map-map wire (λ i. Target e i) (count_from 0 (length (label_of t e).cod)) ∙ read-targets e)
      ∙ sym (flat-map (λ e. e.targets) edge_for (edges_of t))
      ∙ ap targets_of (all-edges g.wires t g.inputs g.outputs es c))

  perm : IsPermutation (length g.wires) (map wire producers)
  perm =
      subst (IsPermutation (length g.wires)) (sym wires-of)
      (Rearr-perm (length g.wires) (g.inputs ++ targets_of g.edges) (g.inputs ++ targets_of es) (Rearr-left g.inputs (Rearr-flat (λ e. e.targets) r)) v.producers)

  is-producer : (x : Producer (EdgeOf t)) → IsWire t x → Member x producers
  is-producer (In j) l = member-left inputs (flat_map targets (edges_of t)) (In j) (member-map (λ j. In j) (count_from 0 (length (dom t))) j (below-member (length (dom t)) j l))
  is-producer (Target e i) l =
      member-right inputs (flat_map targets (edges_of t)) (Target e i)
      (member-flat targets (edges_of t) e (Target e i) (get-member (edges_of t) (number t e) e (edge_at t e))
      (member-map (λ i. Target e i) (count_from 0 (length (label_of t e).cod)) i (below-member (length (label_of t e).cod) i l)))

  producer-is : (x : Producer (EdgeOf t)) → Member x producers → IsWire t x
  producer-is x h = go (member-split inputs (flat_map targets (edges_of t)) x h)
    where
      go : (Member x inputs) ⊎ (Member x (flat_map targets (edges_of t))) → IsWire t x
      go (inl m) =
          let j = map-member (λ j. In j) (count_from 0 (length (dom t))) x m in
          subst (IsWire t) j.2 (member-below (length (dom t)) j.0 j.1)
      go (inr m) =
          let e = flat-member targets (edges_of t) x m in
          let i = map-member (λ i. Target e.0 i) (count_from 0 (length (label_of t e.0).cod)) x e.2 in
          subst (IsWire t) i.2 (member-below (length (label_of t e.0).cod) i.0 i.1)

  abbrev from : ℕ → Producer (EdgeOf t)
  from w = numbered (In 0) wire producers w

  sorts : (x : Producer (EdgeOf t)) → IsWire t x → slice_get g.wires (wire x) ≡ sort_at t x
  sorts (In j) l = sort-at g.wires g.inputs (dom t) (typing g.wires t g.inputs g.outputs es c).ins j l
  sorts (Target e i) l = sort-at g.wires (edge_for e).targets (label_of t e).cod (target-sorts g.wires t g.inputs g.outputs es c e) i l

  -- ## edges

  abbrev order : List ℕ
  order = (rearr_perm r).places

  order-perm : IsPermutation (length g.edges) order
  order-perm = (rearr_perm r).perm

  order-size : length order ≡ length (edges_of t)
  order-size =
      sym (length-permuted g.edges order (Under-perm (length g.edges) order order-perm))
      ∙ ap length ((rearr_perm r).gives ∙ sym (all-edges g.wires t g.inputs g.outputs es c)) ∙ length-map (edges_of t) edge_for

  abbrev edge : EdgeOf t → ℕ
  edge e = slice_index order (number t e)

  abbrev edge_from : ℕ → Option (EdgeOf t)
  edge_from n = get_option (edges_of t) (place_of n order)

  order-at : (e : EdgeOf t) → slice_get order (number t e) ≡ Some (edge e)
  order-at e = get-index order (number t e) (subst (λ n. number t e < n) (sym order-size) (number_below t e))

  edge_back : (e : EdgeOf t) → edge_from (edge e) ≡ Some e
  edge_back e = ap (get_option (edges_of t)) (place-at (length g.edges) order order-perm (number t e) (edge e) (order-at e)) ∙ edge_at t e

  edge_onto : (n : ℕ) → n < length g.edges → (e : EdgeOf t) × (edge_from n ≡ Some e) × (edge e ≡ n)
  edge_onto n h =
      let j = place_in (length g.edges) order order-perm n h in
      let f = place-found n order j.0 j.1 in
      let e = edge_of t j.0 (subst (λ m. j.0 < m) order-size (slice_get-length order j.0 n f)) in
      (e.0, ap (get_option (edges_of t)) j.1 ∙ e.1, ap (slice_index order) (number_at t j.0 e.0 e.1) ∙ index-get order j.0 n f)

  edge-is : (e : EdgeOf t) → slice_get g.edges (edge e) ≡ Some (edge_for e)
  edge-is e =
      sym (get-permuted g.edges order (Under-perm (length g.edges) order order-perm) (number t e) ∙ ap (get_option g.edges) (order-at e))
      ∙ ap (λ z. slice_get z (number t e)) ((rearr_perm r).gives ∙ sym (all-edges g.wires t g.inputs g.outputs es c))
      ∙ get-map edge_for (edges_of t) (number t e) ∙ ap (option_map edge_for) (edge_at t e)

  drawn-is : (e : EdgeOf t) → edge_for e ≡ drawn t (λ e i. wire (Target e i)) g.inputs e
  drawn-is e = λ i. record {
    name = sym (same-name g.wires t g.inputs g.outputs es c e) i;
    sources = sym (sources-in g.wires t g.inputs g.outputs es c e) i;
    targets = sym (read-targets e) i;
  }

  pub drawn_by : Draws t g
  drawn_by = record {
    wire = wire;
    from = from;
    edge = edge;
    edge_from = edge_from;
    wire_below = λ x l. permutation-member (length g.wires) (map wire producers) perm (wire x) (member-map wire producers x (is-producer x l));
    from_valid = λ w l. producer-is (from w) (is-numbered (In 0) wire producers (length g.wires) perm w l).member;
    wire_from = λ w l. (is-numbered (In 0) wire producers (length g.wires) perm w l).number;
    from_wire = λ x l. numbered-back (In 0) wire producers (length g.wires) perm x (is-producer x l);
    sorts = sorts;
    inputs = sym read-inputs;
    outputs = sym (runs g.wires t g.inputs g.outputs es c);
    edge_onto = edge_onto;
    edge_back = edge_back;
    ports = λ e. edge-is e ∙ ap (λ z. Some z) (drawn-is e);
  }
