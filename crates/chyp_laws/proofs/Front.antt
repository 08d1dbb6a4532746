-- What comes out of the first part of a drawn term.
use Rattle.std.proofs.Common.{ℕ, ◌<◌, ◌≡◌, List, map, length, Some, slice_get, ◌⊎◌, inl, inr, sym, ◌∙◌, ap, subst, arith}
use Rattle.std.specs.List.{AllByRecursion}
use Rattle.chyp_term.specs.Morphism.{Morphism, then, dom, cod, IsTyped}
use Rattle.chyp_theory.proofs.Congruence.{length-run}
use Rattle.chyp_theory.proofs.Renaming.{Producer, In, Target, map-run, same-run}
use Rattle.chyp_theory.proofs.Running.{EdgeOf, label_of, run, src}
use Rattle.chyp_graph.specs.PlainGraph.{PlainGraph}
use Rattle.chyp_term.proofs.Rearrangement.{all-count}
use Rattle.chyp_laws.proofs.Draws.{Draws, ins-size, wire-apart}
use Rattle.chyp_laws.proofs.IsomorphicAlike.{run-sorts, input-sorts}
use Rattle.chyp_term.proofs.Apart.{Apart, Apart-count}
use Rattle.chyp_theory.proofs.Linear.{all-run, on_left, IsLinear, is_linear}

-- an input, or made by the first of two terms
abbrev pub IsEarly : {A B : Type 0} → Producer (A ⊎ B) → Type 0
IsEarly (In j) = Unit {0}
IsEarly (Target (inl e) i) = Unit {0}
IsEarly (Target (inr e) i) = ⊥

-- the inputs of a drawn term are apart
pub inputs_apart : {t : Morphism} {g : PlainGraph} (d : Draws t g) → Apart g.inputs
inputs_apart {t} d =
    subst Apart (sym d.inputs) (Apart-count (λ j. d.wire (In j)) 0 (length (dom t))
    (λ i j _ h _ l e. at i j (wire-apart d (In i) (In j) (omega arith) (omega arith) e)))
  where
    at : (i j : ℕ) → ◌≡◌ {A = Producer (EdgeOf t)} (In i) (In j) → i ≡ j
    at i j e = cc

-- its wires are below their number
pub low_inputs : {t : Morphism} {g : PlainGraph} (d : Draws t g) → AllByRecursion (λ v. v < length g.wires) g.inputs
low_inputs {t} {g} d =
    subst (AllByRecursion (λ v. v < length g.wires)) (sym d.inputs)
    (all-count (λ v. v < length g.wires) (λ j. d.wire (In j)) 0 (length (dom t)) (λ j _ h. d.wire_below (In j) (omega arith)))

pub low_run : {t : Morphism} → IsTyped t → {g : PlainGraph} (d : Draws t g)
    → AllByRecursion (λ v. v < length g.wires) (run t (λ e i. d.wire (Target e i)) g.inputs) ×
    ((e : EdgeOf t) → AllByRecursion (λ v. v < length g.wires) (src t (λ e i. d.wire (Target e i)) g.inputs e))
low_run {t} ty {g} d =
    all-run (λ v. v < length g.wires) t ty (λ e i. d.wire (Target e i)) g.inputs (ins-size d) (low_inputs d) (λ e i h. d.wire_below (Target e i) h)

module _ {b x : Morphism} {g : PlainGraph} (ty : IsTyped (then b x)) (d : Draws (then b x) g) where
  -- what comes out of the first term
  abbrev pub outs : List ℕ
  outs = run b (λ e i. d.wire (Target (inl e) i)) g.inputs

  pub outs_size : length outs ≡ length (dom x)
  outs_size = length-run b ty.0 _ g.inputs (ins-size d) ∙ ap length ty.2

  inputs_early : AllByRecursion (λ w. IsEarly (d.from w)) g.inputs
  inputs_early =
      subst (AllByRecursion (λ w. IsEarly (d.from w))) (sym d.inputs)
      (all-count (λ w. IsEarly (d.from w)) (λ j. d.wire (In j)) 0 (length (dom b)) (λ i _ h. subst IsEarly (sym (d.from_wire (In i) (omega arith))) tt))

  target_not_input : (e : EdgeOf b) (i : ℕ) → i < length (label_of b e).cod → AllByRecursion (λ z. ¬ (d.wire (Target (inl e) i) ≡ z)) g.inputs
  target_not_input e i h = subst (AllByRecursion (λ z. ¬ (d.wire (Target (inl e) i) ≡ z))) (sym d.inputs)
      (all-count (λ z. ¬ (d.wire (Target (inl e) i) ≡ z)) (λ j. d.wire (In j)) 0 (length (dom b))
      (λ j _ l q. no j (wire-apart d (Target (inl e) i) (In j) h (omega arith) q)))
    where
      no : (j : ℕ) → ◌≡◌ {A = Producer (EdgeOf (then b x))} (Target (inl e) i) (In j) → ⊥
      no j q = cc

  -- it is apart, and no edge of the first term takes it
  pub front_linear : IsLinear b (λ e i. d.wire (Target (inl e) i)) g.inputs
  front_linear = is_linear b ty.0 (λ e i. d.wire (Target (inl e) i)) g.inputs (ins-size d) (inputs_apart d)
      (λ c e i j h l q. on_left c e i j (wire-apart d (Target (inl c) i) (Target (inl e) j) h l q)) target_not_input

  -- it is early, and so is what edges of the first term take
  pub front_early : AllByRecursion (λ w. IsEarly (d.from w)) outs ×
      ((e : EdgeOf b) → AllByRecursion (λ w. IsEarly (d.from w)) (src b (λ e i. d.wire (Target (inl e) i)) g.inputs e))
  front_early =
      all-run (λ w. IsEarly (d.from w)) b ty.0 (λ e i. d.wire (Target (inl e) i)) g.inputs (ins-size d) inputs_early
      (λ e i h. subst IsEarly (sym (d.from_wire (Target (inl e) i) h)) tt)

  pub outs_sorts : map (slice_get g.wires) outs ≡ map (λ z. Some z) (cod b)
  outs_sorts =
      map-run (slice_get g.wires) b ty.0 (λ e i. d.wire (Target (inl e) i)) g.inputs (ins-size d)
      ∙ ap (run b (λ e i. slice_get g.wires (d.wire (Target (inl e) i)))) (input-sorts (then b x) ty g d)
      ∙ same-run b _ (λ e i. slice_get (label_of b e).cod i) (λ e i h. d.sorts (Target (inl e) i) h) (map (λ z. Some z) (dom b))
      ∙ run-sorts b ty.0
