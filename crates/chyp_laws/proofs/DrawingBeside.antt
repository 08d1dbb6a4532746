-- The graph of s * t.
use Rattle.std.proofs.Common.{ℕ, ◌+◌, ◌-◌, ◌<◌, ◌≤◌, ◌≡◌, cond, ltb, ◌++◌, map, length, take, drop, slice_get, ◌⊎◌, inl, inr, refl, sym, ◌∙◌, ap, ap₂, subst, arith, length-append, zero-add}
use Rattle.std.proofs.Common.{lt-ltb, le-ltb}
use Rattle.std.proofs.lemmas.List.{map-append}
use Rattle.std.proofs.lemmas.Bool.{cases_lt}
use mathlib.Core.Path.{fun_ext}
use Rattle.chyp_term.specs.Morphism.{IsTyped, Morphism, beside, dom}
use Rattle.chyp_term.specs.Perm.{count_from, shifted}
use Rattle.chyp_term.proofs.Permuted.{count_from-0, drop-left, get-append_left, get-append_right, take-left}
use Rattle.chyp_term.proofs.Positions.{count_from-append, map-map}
use Rattle.chyp_theory.proofs.Renaming.{In, Producer, Target, map-count, map-run, map-src}
use Rattle.chyp_theory.proofs.Running.{EdgeOf, label_of, run, src}
use Rattle.chyp_graph.specs.Composition.{beside_graph}
use Rattle.chyp_graph.specs.PlainGraph.{PlainGraph, renamed}
use Rattle.chyp_laws.proofs.Drawing.{Drawn, IsWire, drawn, length-ins, sort_at}
use Rattle.chyp_theory.proofs.EdgeLists.{edges_of}

module _ (s t : Morphism) (ts : IsTyped s) (ty : IsTyped t) (g h : PlainGraph) (d : Drawn s g) (k : Drawn t h) where
  wire : Producer (EdgeOf (beside s t)) → ℕ
  wire (In j) = cond (ltb j (length (dom s))) (d.wire (In j)) (length g.wires + k.wire (In (j - length (dom s))))
  wire (Target (inl e) i) = d.wire (Target e i)
  wire (Target (inr e) i) = length g.wires + k.wire (Target e i)

  left : Producer (EdgeOf s) → Producer (EdgeOf (beside s t))
  left (In j) = In j
  left (Target e i) = Target (inl e) i

  right : Producer (EdgeOf t) → Producer (EdgeOf (beside s t))
  right (In j) = In (length (dom s) + j)
  right (Target e i) = Target (inr e) i

  from : ℕ → Producer (EdgeOf (beside s t))
  from w = cond (ltb w (length g.wires)) (left (d.from w)) (right (k.from (w - length g.wires)))

  wire-left : (x : Producer (EdgeOf s)) → IsWire s x → wire (left x) ≡ d.wire x
  unfolding wire left
  wire-left (In j) l = rw (lt-ltb j (length (dom s)) l) refl
  wire-left (Target e i) l = refl

  wire-right : (x : Producer (EdgeOf t)) → wire (right x) ≡ length g.wires + k.wire x
  unfolding wire right
  wire-right (In j) = rw (le-ltb (length (dom s) + j) (length (dom s)) (omega arith)) (ap (λ i. length g.wires + k.wire (In i)) (omega arith))
  wire-right (Target e i) = refl

  left-valid : (x : Producer (EdgeOf s)) → IsWire s x → IsWire (beside s t) (left x)
  unfolding left
  left-valid (In j) l = let e = length-append (dom s) (dom t) in omega arith
  left-valid (Target e i) l = l

  right-valid : (x : Producer (EdgeOf t)) → IsWire t x → IsWire (beside s t) (right x)
  unfolding right
  right-valid (In j) l = let e = length-append (dom s) (dom t) in omega arith
  right-valid (Target e i) l = l

  from-left : (w : ℕ) → w < length g.wires → from w ≡ left (d.from w)
  unfolding from
  from-left w l = rw (lt-ltb w (length g.wires) l) refl

  from-right : (w : ℕ) → from (length g.wires + w) ≡ right (k.from w)
  unfolding from
  from-right w = rw (le-ltb (length g.wires + w) (length g.wires) (omega arith)) (ap (λ x. right (k.from x)) (omega arith))

  -- each wire is one of s or one of t
  data Side : Producer (EdgeOf (beside s t)) → Type 0 where
    of_left : (x : Producer (EdgeOf s)) → IsWire s x → Side (left x)
    of_right : (x : Producer (EdgeOf t)) → IsWire t x → Side (right x)

  side : (x : Producer (EdgeOf (beside s t))) → IsWire (beside s t) x → Side x
  unfolding left right
  side (In j) l = go (cases_lt j (length (dom s)))
    where
      go : (j < length (dom s)) ⊎ (length (dom s) ≤ j) → Side (In j)
      go (inl a) = of_left (In j) a
      go (inr a) = let e = length-append (dom s) (dom t) in subst (λ i. Side (In i)) (omega arith) (of_right (In (j - length (dom s))) (omega arith))
  side (Target (inl e) i) l = of_left (Target e i) l
  side (Target (inr e) i) l = of_right (Target e i) l

  wire_below : (x : Producer (EdgeOf (beside s t))) → Side x → wire x < length g.wires + length h.wires
  wire_below _ (of_left x v) = let b = d.wire_below x v in rw (wire-left x v) (omega arith)
  wire_below _ (of_right x v) = let b = k.wire_below x v in rw (wire-right x) (omega arith)

  from_wire : (x : Producer (EdgeOf (beside s t))) → Side x → from (wire x) ≡ x
  from_wire _ (of_left x v) = ap from (wire-left x v) ∙ from-left _ (d.wire_below x v) ∙ ap left (d.from_wire x v)
  from_wire _ (of_right x v) = ap from (wire-right x) ∙ from-right _ ∙ ap right (k.from_wire x v)

  from_valid : (w : ℕ) → w < length g.wires + length h.wires → (w < length g.wires) ⊎ (length g.wires ≤ w) → IsWire (beside s t) (from w)
  from_valid w b (inl l) = subst (IsWire (beside s t)) (sym (from-left w l)) (left-valid _ (d.from_valid w l))
  from_valid w b (inr l) = subst (IsWire (beside s t)) (sym (from-right (w - length g.wires)) ∙ ap from (omega arith)) (right-valid _ (k.from_valid (w - length g.wires) (omega arith)))

  wire_from : (w : ℕ) → w < length g.wires + length h.wires → (w < length g.wires) ⊎ (length g.wires ≤ w) → wire (from w) ≡ w
  wire_from w b (inl l) = ap wire (from-left w l) ∙ wire-left _ (d.from_valid w l) ∙ d.wire_from w l
  wire_from w b (inr l) =
      ap (λ x. wire (from x)) (omega arith) ∙ ap wire (from-right (w - length g.wires)) ∙ wire-right _
      ∙ ap (λ x. length g.wires + x) (k.wire_from (w - length g.wires) (omega arith)) ∙ omega arith

  sorts : (x : Producer (EdgeOf (beside s t))) → Side x → slice_get (g.wires ++ h.wires) (wire x) ≡ sort_at (beside s t) x
  unfolding left right
  sorts _ (of_left x v) = ap (slice_get (g.wires ++ h.wires)) (wire-left x v) ∙ get-append_left g.wires h.wires _ (d.wire_below x v) ∙ d.sorts x v ∙ same x v
    where
      same : (x : Producer (EdgeOf s)) → IsWire s x → sort_at s x ≡ sort_at (beside s t) (left x)
      same (In j) l = sym (get-append_left (dom s) (dom t) j l)
      same (Target e i) l = refl
  sorts _ (of_right x v) = ap (slice_get (g.wires ++ h.wires)) (wire-right x) ∙ get-append_right g.wires h.wires _ ∙ k.sorts x v ∙ same x v
    where
      same : (x : Producer (EdgeOf t)) → IsWire t x → sort_at t x ≡ sort_at (beside s t) (right x)
      same (In j) l = sym (get-append_right (dom s) (dom t) j)
      same (Target e i) l = refl

  front : take (length (dom s)) (g.inputs ++ shifted (length g.wires) h.inputs) ≡ g.inputs
  front = take-left g.inputs _ _ (length-ins d)

  rear : drop (length (dom s)) (g.inputs ++ shifted (length g.wires) h.inputs) ≡ map (λ w. length g.wires + w) h.inputs
  rear = drop-left g.inputs _ _ (length-ins d)

  inputs : g.inputs ++ shifted (length g.wires) h.inputs ≡ map (λ j. wire (In j)) (count_from 0 (length (dom s ++ dom t)))
  unfolding wire left right
  inputs =
      ap₂ (λ a b. a ++ b)
      (d.inputs ∙ map-count (λ j. d.wire (In j)) (λ j. wire (In j)) 0 (length (dom s)) (λ j _ l. sym (wire-left (In j) (omega arith))))
      (ap (shifted (length g.wires)) k.inputs ∙ map-map (λ w. length g.wires + w) (λ j. k.wire (In j)) (count_from 0 (length (dom t)))
      ∙ ap (λ f. map f (count_from 0 (length (dom t)))) (fun_ext (λ j. sym (wire-right (In j))))
      ∙ sym (map-map (λ j. wire (In j)) (λ j. length (dom s) + j) (count_from 0 (length (dom t))))
      ∙ ap (map (λ j. wire (In j))) (sym (count_from-0 (length (dom s)) (length (dom t)))))
      ∙ sym (ap (λ n. map (λ j. wire (In j)) (count_from 0 n)) (length-append (dom s) (dom t))
      ∙ ap (map (λ j. wire (In j))) (count_from-append 0 (length (dom s)) (length (dom t)) ∙ ap (λ i. count_from 0 (length (dom s)) ++ count_from i (length (dom t))) (zero-add (length (dom s))))
      ∙ map-append (λ j. wire (In j)) (count_from 0 (length (dom s))) (count_from (length (dom s)) (length (dom t))))

  drawn-left : (e : EdgeOf s) → drawn s (λ e i. d.wire (Target e i)) g.inputs e ≡ drawn (beside s t) (λ e i. wire (Target e i)) (g.inputs ++ shifted (length g.wires) h.inputs) (inl e)
  unfolding wire
  drawn-left e =
      ap (λ l. record { name = (label_of s e).name; sources = src s (λ e i. d.wire (Target e i)) l e; targets = map (λ i. d.wire (Target e i)) (count_from 0 (length (label_of s e).cod)) }) (sym front)

  drawn-right : (e : EdgeOf t) → renamed (λ w. length g.wires + w) (drawn t (λ e i. k.wire (Target e i)) h.inputs e) ≡ drawn (beside s t) (λ e i. wire (Target e i))
      (g.inputs ++ shifted (length g.wires) h.inputs) (inr e)
  unfolding wire
  drawn-right e = ap₂ (λ a b. record { name = (label_of t e).name; sources = a; targets = b })
      (map-src (λ w. length g.wires + w) t ty (λ e i. k.wire (Target e i)) h.inputs (length-ins k) e ∙ ap (λ l. src t (λ e i. length g.wires + k.wire (Target e i)) l e) (sym rear))
      (map-map (λ w. length g.wires + w) (λ i. k.wire (Target e i)) (count_from 0 (length (label_of t e).cod)))

  pub drawn_beside : Drawn (beside s t) (beside_graph g h)
  unfolding wire
  drawn_beside = record {
    wire = wire;
    from = from;
    wire_below = λ x v. subst (λ n. wire x < n) (sym (length-append g.wires h.wires)) (wire_below x (side x v));
    from_valid = λ w b. from_valid w (subst (λ n. w < n) (length-append g.wires h.wires) b) (cases_lt w (length g.wires));
    wire_from = λ w b. wire_from w (subst (λ n. w < n) (length-append g.wires h.wires) b) (cases_lt w (length g.wires));
    from_wire = λ x v. from_wire x (side x v);
    sorts = λ x v. sorts x (side x v);
    inputs = inputs;
    outputs =
        ap₂ (λ a b. a ++ b)
        (d.outputs ∙ ap (run s (λ e i. d.wire (Target e i))) (sym front))
        (ap (shifted (length g.wires)) k.outputs ∙ map-run (λ w. length g.wires + w) t ty (λ e i. k.wire (Target e i)) h.inputs (length-ins k)
        ∙ ap (run t (λ e i. length g.wires + k.wire (Target e i))) (sym rear));
    edges =
        ap₂ (λ a b. a ++ b)
        (d.edges ∙ ap (λ f. map f (edges_of s)) (fun_ext drawn-left) ∙ sym
        (map-map (drawn (beside s t) (λ e i. wire (Target e i)) (g.inputs ++ shifted (length g.wires) h.inputs)) (λ e. inl e) (edges_of s)))
        (ap (map (renamed (λ w. length g.wires + w))) k.edges ∙ map-map (renamed (λ w. length g.wires + w)) (drawn t (λ e i. k.wire (Target e i)) h.inputs) (edges_of t)
        ∙ ap (λ f. map f (edges_of t)) (fun_ext drawn-right)
        ∙ sym (map-map (drawn (beside s t) (λ e i. wire (Target e i)) (g.inputs ++ shifted (length g.wires) h.inputs)) (λ e. inr e) (edges_of t)))
        ∙ sym (map-append (drawn (beside s t) (λ e i. wire (Target e i)) (g.inputs ++ shifted (length g.wires) h.inputs)) (map (λ e. inl e) (edges_of s)) (map (λ e. inr e) (edges_of t)));
  }
