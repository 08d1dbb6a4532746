-- The graph of s ; t.
use Rattle.std.proofs.Common.{ℕ, ◌+◌, ◌-◌, ◌<◌, ◌≤◌, ◌≡◌, true, not, cond, ltb, List, ◌++◌, map, length, Some, None, slice_get, slice_index, ◌⊎◌, inl, inr, refl, sym, ◌∙◌, ap, ap₂, subst}
use Rattle.std.proofs.Common.{arith, length-append, zero-add, lt-ltb, le-ltb}
use Rattle.std.proofs.lemmas.List.{map-append}
use Rattle.std.proofs.lemmas.Bool.{cases_lt}
use mathlib.Core.Path.{fun_ext}
use Rattle.chyp_term.specs.Morphism.{IsTyped, Morphism, cod, dom, then}
use Rattle.chyp_term.specs.Perm.{count_from, permuted}
use Rattle.chyp_term.specs.Positions.{is_apart, is_there, place_of}
use Rattle.chyp_term.proofs.Closure.{index-get}
use Rattle.chyp_term.proofs.Permuted.{found, get-append_left, get-append_right, get-permuted, get_option, length-permuted}
use Rattle.chyp_term.proofs.Positions.{Under-filter, apart-none, kept-get, map-index, map-map, slice_get-length}
use Rattle.chyp_theory.proofs.Congruence.{length-run}
use Rattle.chyp_theory.proofs.Renaming.{In, Producer, Target, map-run, map-src}
use Rattle.chyp_theory.proofs.Running.{EdgeOf, label_of, run, src}
use Rattle.chyp_graph.specs.Composition.{inner, joined, joined_at, then_graph}
use Rattle.chyp_graph.specs.PlainGraph.{PlainGraph, renamed}
use Rattle.chyp_graph.proofs.Inner.{Kept, kept-back, place-map, place-none}
use Rattle.chyp_laws.proofs.Drawing.{Drawn, IsWire, drawn, length-ins, sort_at}
use Rattle.chyp_theory.proofs.EdgeLists.{edges_of}

module _ (s t : Morphism) (ts : IsTyped s) (ty : IsTyped t) (m : cod s ≡ dom t) (g h : PlainGraph) (d : Drawn s g) (k : Drawn t h) where
  pub input_place : (j : ℕ) → j < length (dom t) → place_of (k.wire (In j)) h.inputs ≡ Some j
  input_place j l =
      ap (place_of (k.wire (In j))) k.inputs
      ∙ ap (λ x. place_of (k.wire (In x)) (map (λ j. k.wire (In j)) (count_from 0 (length (dom t))))) (sym (zero-add j))
      ∙ place-map (λ j. k.wire (In j)) 0 (length (dom t)) j l (λ x y _ a _ b e. same x y (sym (k.from_wire (In x) (omega arith)) ∙ ap k.from e ∙ k.from_wire (In y) (omega arith)))
    where
      same : (x y : ℕ) → ◌≡◌ {A = Producer (EdgeOf t)} (In x) (In y) → x ≡ y
      same x y e = cc

  target_place : (e : EdgeOf t) (i : ℕ) → i < length (label_of t e).cod → place_of (k.wire (Target e i)) h.inputs ≡ None
  target_place e i l =
      ap (place_of (k.wire (Target e i))) k.inputs
      ∙ place-none (λ j. k.wire (In j)) 0 (length (dom t)) (k.wire (Target e i)) (λ x _ a q. differ x (sym (k.from_wire (In x) (omega arith)) ∙ ap k.from q ∙ k.from_wire (Target e i) l))
    where
      differ : (x : ℕ) → In x ≡ Target e i → ⊥
      differ x q = cc

  pub target_apart : (e : EdgeOf t) (i : ℕ) → i < length (label_of t e).cod → is_apart h.inputs (k.wire (Target e i)) ≡ true
  target_apart e i l = ap (λ o. not (is_there o)) (target_place e i l)

  unfoldable pub kept : List ℕ
  kept = inner h.inputs (length h.wires)

  unfoldable pub before : ℕ → ℕ
  before w = length (inner h.inputs w)

  pub target_joined : (e : EdgeOf t) (i : ℕ) → i < length (label_of t e).cod → joined g h (k.wire (Target e i)) ≡ length g.wires + before (k.wire (Target e i))
  unfolding before
  target_joined e i l = ap (joined_at g.outputs (length g.wires + length (inner h.inputs (k.wire (Target e i))))) (target_place e i l)

  target_kept : (e : EdgeOf t) (i : ℕ) → i < length (label_of t e).cod → slice_get kept (before (k.wire (Target e i))) ≡ Some (k.wire (Target e i))
  unfolding before kept
  target_kept e i l = kept-get (is_apart h.inputs) (length h.wires) (k.wire (Target e i)) (k.wire_below (Target e i) l) (target_apart e i l)

  length-outs : length g.outputs ≡ length (dom t)
  length-outs = ap length d.outputs ∙ length-run s ts _ g.inputs (length-ins d) ∙ ap length m

  joined-inputs : map (joined g h) h.inputs ≡ g.outputs
  joined-inputs =
      ap (map (joined g h)) k.inputs
      ∙ map-map (joined g h) (λ j. k.wire (In j)) (count_from 0 (length (dom t)))
      ∙ ap (λ n. map (λ j. joined g h (k.wire (In j))) (count_from 0 n)) (sym length-outs)
      ∙ map-index g.outputs 0 _ (λ j l. ap (λ x. joined g h (k.wire (In x))) (zero-add j)
      ∙ ap (joined_at g.outputs (length g.wires + length (inner h.inputs (k.wire (In j))))) (input_place j (subst (λ n. j < n) length-outs l)))

  pub length-kept : length (permuted h.wires kept) ≡ length kept
  unfolding kept
  length-kept = length-permuted h.wires (inner h.inputs (length h.wires)) (Under-filter (is_apart h.inputs) (length h.wires) 0 (length h.wires) (omega arith))

  target_of : (v : ℕ) → v < length h.wires → is_apart h.inputs v ≡ true → (e : EdgeOf t) × (i : ℕ) × (k.from v ≡ Target e i)
  target_of v l a = go (k.from v) refl
    where
      go : (x : Producer (EdgeOf t)) → k.from v ≡ x → (e : EdgeOf t) × (i : ℕ) × (k.from v ≡ Target e i)
      go (In j) q =
          let w : k.wire (In j) ≡ v = ap k.wire (sym q) ∙ k.wire_from v l in
          let r : place_of v h.inputs ≡ Some j = ap (λ x. place_of x h.inputs) (sym w) ∙ input_place j (subst (IsWire t) q (k.from_valid v l)) in
          let n : place_of v h.inputs ≡ None = apart-none h.inputs v a in
          cc
      go (Target e i) q = (e, i, q)

  wire : Producer (EdgeOf (then s t)) → ℕ
  wire (In j) = d.wire (In j)
  wire (Target (inl e) i) = d.wire (Target e i)
  wire (Target (inr e) i) = joined g h (k.wire (Target e i))

  left : Producer (EdgeOf s) → Producer (EdgeOf (then s t))
  left (In j) = In j
  left (Target e i) = Target (inl e) i

  right : Producer (EdgeOf t) → Producer (EdgeOf (then s t))
  right (In j) = In j
  right (Target e i) = Target (inr e) i

  from : ℕ → Producer (EdgeOf (then s t))
  from w = cond (ltb w (length g.wires)) (left (d.from w)) (right (k.from (slice_index kept (w - length g.wires))))

  length-wires : length (then_graph g h).wires ≡ length g.wires + length kept
  unfolding kept
  length-wires = length-append g.wires _ ∙ ap (λ n. length g.wires + n) length-kept

  -- a wire past those of g
  past : (w : ℕ) → length g.wires ≤ w → w < length g.wires + length kept → (v : ℕ) × (slice_get kept (w - length g.wires) ≡ Some v) × Kept (is_apart h.inputs) (length h.wires) v (w - length g.wires)
  unfolding kept
  past w a b = let f = found kept (w - length g.wires) (omega arith) in (f.0, f.1, kept-back (is_apart h.inputs) (length h.wires) f.0 (w - length g.wires) f.1)

  from-left : (w : ℕ) → w < length g.wires → from w ≡ left (d.from w)
  unfolding from
  from-left w l = rw (lt-ltb w (length g.wires) l) refl

  from-right : (w v : ℕ) → length g.wires ≤ w → slice_get kept (w - length g.wires) ≡ Some v → from w ≡ right (k.from v)
  unfolding from
  from-right w v l e = rw (le-ltb w (length g.wires) l) (ap (λ x. right (k.from x)) (index-get kept _ v e))

  left-valid : (x : Producer (EdgeOf s)) → IsWire s x → IsWire (then s t) (left x)
  unfolding left
  left-valid (In j) h = h
  left-valid (Target e i) h = h

  wire-left : (x : Producer (EdgeOf s)) → wire (left x) ≡ d.wire x
  unfolding wire left
  wire-left (In j) = refl
  wire-left (Target e i) = refl

  from_valid : (w : ℕ) → w < length g.wires + length kept → (w < length g.wires) ⊎ (length g.wires ≤ w) → IsWire (then s t) (from w)
  unfolding right
  from_valid w b (inl l) = subst (IsWire (then s t)) (sym (from-left w l)) (left-valid _ (d.from_valid w l))
  from_valid w b (inr l) =
      let p = past w l b in
      let q = target_of p.0 p.2.below p.2.passes in
      subst (IsWire (then s t)) (sym (from-right w p.0 l p.1 ∙ ap right q.2)) (subst (IsWire t) q.2 (k.from_valid p.0 p.2.below))

  wire_from : (w : ℕ) → w < length g.wires + length kept → (w < length g.wires) ⊎ (length g.wires ≤ w) → wire (from w) ≡ w
  unfolding right wire before
  wire_from w b (inl l) = ap wire (from-left w l) ∙ wire-left (d.from w) ∙ d.wire_from w l
  wire_from w b (inr l) =
      let p = past w l b in
      let q = target_of p.0 p.2.below p.2.passes in
      ap wire (from-right w p.0 l p.1 ∙ ap right q.2)
      ∙ ap (joined g h) (ap k.wire (sym q.2) ∙ k.wire_from p.0 p.2.below)
      ∙ ap (joined_at g.outputs (length g.wires + length (inner h.inputs p.0))) (apart-none h.inputs p.0 p.2.passes)
      ∙ ap (λ n. length g.wires + n) p.2.place ∙ omega arith

  from_wire : (x : Producer (EdgeOf (then s t))) → IsWire (then s t) x → from (wire x) ≡ x
  unfolding wire left right
  from_wire (In j) l = from-left _ (d.wire_below (In j) l) ∙ ap left (d.from_wire (In j) l)
  from_wire (Target (inl e) i) l = from-left _ (d.wire_below (Target e i) l) ∙ ap left (d.from_wire (Target e i) l)
  from_wire (Target (inr e) i) l =
      ap from (target_joined e i l)
      ∙ from-right _ (k.wire (Target e i)) (omega arith) (ap (slice_get kept) (omega arith) ∙ target_kept e i l)
      ∙ ap right (k.from_wire (Target e i) l)

  wire_below : (x : Producer (EdgeOf (then s t))) → IsWire (then s t) x → wire x < length g.wires + length kept
  unfolding wire
  wire_below (In j) l = let b = d.wire_below (In j) l in omega arith
  wire_below (Target (inl e) i) l = let b = d.wire_below (Target e i) l in omega arith
  wire_below (Target (inr e) i) l = let b = slice_get-length kept _ _ (target_kept e i l) in rw (target_joined e i l) (omega arith)

  sorts : (x : Producer (EdgeOf (then s t))) → IsWire (then s t) x → slice_get (then_graph g h).wires (wire x) ≡ sort_at (then s t) x
  unfolding wire kept
  sorts (In j) l = get-append_left g.wires _ _ (d.wire_below (In j) l) ∙ d.sorts (In j) l
  sorts (Target (inl e) i) l = get-append_left g.wires _ _ (d.wire_below (Target e i) l) ∙ d.sorts (Target e i) l
  sorts (Target (inr e) i) l = inner-sort e i l
    where
      inner-sort : (e : EdgeOf t) (i : ℕ) → i < length (label_of t e).cod → slice_get (then_graph g h).wires (joined g h (k.wire (Target e i))) ≡ slice_get (label_of t e).cod i
      inner-sort e i l =
          ap (slice_get (then_graph g h).wires) (target_joined e i l)
          ∙ get-append_right g.wires (permuted h.wires kept) (before (k.wire (Target e i)))
          ∙ get-permuted h.wires kept (Under-filter (is_apart h.inputs) (length h.wires) 0 (length h.wires) (omega arith)) (before (k.wire (Target e i)))
          ∙ ap (get_option h.wires) (target_kept e i l)
          ∙ k.sorts (Target e i) l

  drawn-right : (e : EdgeOf t) → renamed (joined g h) (drawn t (λ e i. k.wire (Target e i)) h.inputs e) ≡ drawn (then s t) (λ e i. wire (Target e i)) g.inputs (inr e)
  unfolding wire
  drawn-right e = ap₂ (λ a b. record { name = (label_of t e).name; sources = a; targets = b })
      (map-src (joined g h) t ty (λ e i. k.wire (Target e i)) h.inputs (length-ins k) e ∙ ap (λ l. src t (λ e i. joined g h (k.wire (Target e i))) l e) (joined-inputs ∙ d.outputs))
      (map-map (joined g h) (λ i. k.wire (Target e i)) (count_from 0 (length (label_of t e).cod)))

  pub drawn_then : Drawn (then s t) (then_graph g h)
  unfolding wire
  drawn_then = record {
    wire = wire;
    from = from;
    wire_below = λ x v. subst (λ n. wire x < n) (sym length-wires) (wire_below x v);
    from_valid = λ w b. from_valid w (subst (λ n. w < n) length-wires b) (cases_lt w (length g.wires));
    wire_from = λ w b. wire_from w (subst (λ n. w < n) length-wires b) (cases_lt w (length g.wires));
    from_wire = from_wire;
    sorts = sorts;
    inputs = d.inputs;
    outputs =
        ap (map (joined g h)) k.outputs ∙ map-run (joined g h) t ty (λ e i. k.wire (Target e i)) h.inputs (length-ins k)
        ∙ ap (run t (λ e i. joined g h (k.wire (Target e i)))) (joined-inputs ∙ d.outputs);
    edges =
        ap₂ (λ a b. a ++ b)
        (d.edges ∙ sym (map-map (drawn (then s t) (λ e i. wire (Target e i)) g.inputs) (λ e. inl e) (edges_of s)))
        (ap (map (renamed (joined g h))) k.edges ∙ map-map (renamed (joined g h)) (drawn t (λ e i. k.wire (Target e i)) h.inputs) (edges_of t)
        ∙ ap (λ f. map f (edges_of t)) (fun_ext drawn-right)
        ∙ sym (map-map (drawn (then s t) (λ e i. wire (Target e i)) g.inputs) (λ e. inr e) (edges_of t)))
        ∙ sym (map-append (drawn (then s t) (λ e i. wire (Target e i)) g.inputs) (map (λ e. inl e) (edges_of s)) (map (λ e. inr e) (edges_of t)));
  }
