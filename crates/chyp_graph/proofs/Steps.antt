-- The steps of drawing a term: its parts, one after the other.
use Rattle.std.proofs.Common.{ℕ, ◌+◌, ◌<◌, ◌≤◌, ◌≡◌, List, [], ◌∷◌, length, take, drop, refl, inl, inr, sym, ◌∙◌, ap, arith, length-append}
use Rattle.std.proofs.lemmas.List.{take_all}
use Rattle.chyp_term.specs.Morphism.{IsTyped, Morphism, beside, dom, then}
use Rattle.chyp_term.specs.Measure.{size_of}
use Rattle.chyp_term.proofs.Permuted.{Under}
use Rattle.chyp_graph.specs.Composition.{beside_graph}
use Rattle.chyp_graph.specs.Draft.{followed}
use Rattle.chyp_graph.specs.GraphOf.{graph_of}
use Rattle.chyp_graph.specs.PlainGraph.{PlainGraph}
use Rattle.chyp_graph.specs.Validity.{IsValid}
use Rattle.chyp_graph.proofs.Drafting.{follow_beside, follow_then, place_beside, place_then}
use Rattle.chyp_graph.proofs.Leaves.{followed-live, followed-size, length-part, parts, placed-live, placed-size}
use Rattle.chyp_term.proofs.Members.{Member, Rearr-member, member-below, member-left}
use Rattle.chyp_term.proofs.Rearrangement.{Rearr-sym, permutation-Rearr}
use Rattle.chyp_graph.proofs.Validity.{length-inputs, length-middle, valid}

-- the wires live from a place on that a term takes
abbrev pub part : List ℕ → ℕ → Morphism → List ℕ
part live at t = take (length (dom t)) (drop at live)

under-inputs : (t : Morphism) → IsTyped t → Under (length (graph_of t).wires) (graph_of t).inputs
under-inputs t ty = under (graph_of t) (valid t ty)
  where
    under : (g : PlainGraph) → IsValid g → Under (length g.wires) g.inputs
    under g v = go g.inputs (λ w k. member-below (length g.wires) w (Rearr-member w (Rearr-sym (permutation-Rearr (length g.wires) _ v.producers)) (member-left g.inputs _ w k)))
      where
        go : (xs : List ℕ) → ((w : ℕ) → Member w xs → w < length g.wires) → Under (length g.wires) xs
        go [] f = tt
        go (x ∷ xs) f = (f x (inl refl), go xs (λ w k. f w (inr k)))

whole : (xs : List ℕ) (n : ℕ) → length xs ≡ n → take n (drop 0 xs) ≡ xs
whole xs n e = take_all n xs (omega arith)

-- s behind live wires, and then t behind what s leaves
pub follow_seq : (old mid new : PlainGraph) (live : List ℕ) (at : ℕ) (s t : Morphism) → IsTyped (then s t)
    → mid ≡ followed (record old { outputs = [] }) (part live at s) (graph_of s)
    → new ≡ followed (record mid { outputs = old.outputs }) (part mid.outputs 0 t) (graph_of t)
    → new ≡ followed old (part live at s) (graph_of (then s t))
follow_seq old mid new live at s t ty e f =
    let size : length mid.outputs ≡ length (dom t) = ap (λ g. length g.outputs) e ∙ followed-live old (part live at s) s ty.0 ∙ ap length ty.2 in
    f ∙ ap (λ l. followed (record mid { outputs = old.outputs }) l (graph_of t)) (whole mid.outputs (length (dom t)) size)
    ∙ ap (λ m. followed (record m { outputs = old.outputs }) m.outputs (graph_of t)) e
    ∙ follow_then old (part live at s) (graph_of s) (graph_of t) (under-inputs s ty.0) (length-middle s t ty)

pub follow_seq-room : (old mid : PlainGraph) (live : List ℕ) (at : ℕ) (s t : Morphism) → IsTyped (then s t)
    → mid ≡ followed (record old { outputs = [] }) (part live at s) (graph_of s)
    → length old.wires + size_of (then s t) < 2147483648
    → (length mid.wires + size_of t < 2147483648) × (0 + length (dom t) ≤ length mid.outputs)
follow_seq-room old mid live at s t ty e h =
    let a : length mid.wires ≡ length (followed (record old { outputs = [] }) (part live at s) (graph_of s)).wires = ap (λ g. length g.wires) e in
    let b = followed-size (record old { outputs = [] }) (part live at s) s ty.0 in
    let c : length mid.outputs ≡ length (dom t) = ap (λ g. length g.outputs) e ∙ followed-live old (part live at s) s ty.0 ∙ ap length ty.2 in
    (omega arith, omega arith)

-- s and t behind live wires, t behind those that s leaves alone
pub follow_par : (old mid new : PlainGraph) (live : List ℕ) (at : ℕ) (s t : Morphism) → IsTyped (beside s t) → at + length (dom (beside s t)) ≤ length live
    → mid ≡ followed old (part live at s) (graph_of s)
    → new ≡ followed mid (part live (at + length (dom s)) t) (graph_of t)
    → new ≡ followed old (part live at (beside s t)) (graph_of (beside s t))
follow_par old mid new live at s t ty h e f =
    let n = length-append (dom s) (dom t) in
    f ∙ ap (λ m. followed m (part live (at + length (dom s)) t) (graph_of t)) e
    ∙ follow_beside old (part live at s) (part live (at + length (dom s)) t) (graph_of s) (graph_of t) (valid s ty.0)
    (length-part live at (length (dom s)) (omega arith) ∙ sym (length-inputs s))
    (length-part live (at + length (dom s)) (length (dom t)) (omega arith) ∙ sym (length-inputs t))
    ∙ ap (λ l. followed old l (beside_graph (graph_of s) (graph_of t))) (sym (ap (λ k. take k (drop at live)) n ∙ parts live at (length (dom s)) (length (dom t))))

pub follow_par-room : (old mid : PlainGraph) (live : List ℕ) (at : ℕ) (s t : Morphism) → IsTyped (beside s t)
    → mid ≡ followed old (part live at s) (graph_of s)
    → length old.wires + size_of (beside s t) < 2147483648
    → length mid.wires + size_of t < 2147483648
follow_par-room old mid live at s t ty e h =
    let a : length mid.wires ≡ length (followed old (part live at s) (graph_of s)).wires = ap (λ g. length g.wires) e in
    let b = followed-size old (part live at s) s ty.0 in
    omega arith

-- s beside all, and then t behind what s leaves
pub place_seq : (old mid new : PlainGraph) (s t : Morphism) → IsTyped (then s t)
    → mid ≡ beside_graph (record old { outputs = [] }) (graph_of s)
    → new ≡ followed (record mid { outputs = old.outputs }) (part mid.outputs 0 t) (graph_of t)
    → new ≡ beside_graph old (graph_of (then s t))
place_seq old mid new s t ty e f =
    let size : length mid.outputs ≡ length (dom t) = ap (λ g. length g.outputs) e ∙ placed-live old s ty.0 ∙ ap length ty.2 in
    f ∙ ap (λ l. followed (record mid { outputs = old.outputs }) l (graph_of t)) (whole mid.outputs (length (dom t)) size)
    ∙ ap (λ m. followed (record m { outputs = old.outputs }) m.outputs (graph_of t)) e
    ∙ place_then old (graph_of s) (graph_of t) (length-middle s t ty)

pub place_seq-room : (old mid : PlainGraph) (s t : Morphism) → IsTyped (then s t)
    → mid ≡ beside_graph (record old { outputs = [] }) (graph_of s)
    → length old.wires + size_of (then s t) < 2147483648
    → (length mid.wires + size_of t < 2147483648) × (0 + length (dom t) ≤ length mid.outputs)
place_seq-room old mid s t ty e h =
    let a : length mid.wires ≡ length (beside_graph (record old { outputs = [] }) (graph_of s)).wires = ap (λ g. length g.wires) e in
    let b = placed-size (record old { outputs = [] }) s ty.0 in
    let c : length mid.outputs ≡ length (dom t) = ap (λ g. length g.outputs) e ∙ placed-live old s ty.0 ∙ ap length ty.2 in
    (omega arith, omega arith)

pub place_par : (old mid new : PlainGraph) (s t : Morphism) → mid ≡ beside_graph old (graph_of s) → new ≡ beside_graph mid (graph_of t) → new ≡ beside_graph old (graph_of (beside s t))
place_par old mid new s t e f = f ∙ ap (λ m. beside_graph m (graph_of t)) e ∙ place_beside old (graph_of s) (graph_of t)

pub place_par-room : (old mid : PlainGraph) (s t : Morphism) → IsTyped (beside s t) → mid ≡ beside_graph old (graph_of s)
    → length old.wires + size_of (beside s t) < 2147483648 → length mid.wires + size_of t < 2147483648
place_par-room old mid s t ty e h =
    let a : length mid.wires ≡ length (beside_graph old (graph_of s)).wires = ap (λ g. length g.wires) e in
    let b = placed-size old s ty.0 in
    omega arith
