-- Graphs that terms draw are valid, and so is a valid graph with an occurrence replaced, which keeps its type.
use Rattle.std.proofs.Common.{ℕ, List, sym, ◌∙◌, ◌<◌, ◌≡◌, map, length, Some, slice_get, ap, subst}
use Rattle.std.specs.List.{AllByRecursion}
use Rattle.chyp_term.specs.Derivation.{IsEquation}
use Rattle.chyp_term.specs.Morphism.{Morphism, IsTyped, dom, cod}
use Rattle.chyp_term.proofs.Permuted.{Under}
use Rattle.chyp_theory.proofs.Cancelling.{map-Some}
use Rattle.chyp_theory.proofs.Congruence.{Alike-refl}
use Rattle.chyp_theory.proofs.Renaming.{Target, map-run, same-run}
use Rattle.chyp_theory.proofs.Running.{label_of, run}
use Rattle.chyp_theory.proofs.Soundness.{sound}
use Rattle.chyp_graph.specs.GraphOf.{graph_of}
use Rattle.chyp_graph.specs.Isomorphism.{Isomorphic}
use Rattle.chyp_graph.specs.PlainGraph.{PlainGraph, input_sorts, output_sorts}
use Rattle.chyp_graph.specs.Validity.{IsValid}
use Rattle.chyp_term.proofs.Rearrangement.{all-under}
use Rattle.chyp_graph.proofs.Validity.{valid}
use Rattle.chyp_laws.proofs.AlikeIsomorphic.{isomorphic}
use Rattle.chyp_laws.proofs.Draws.{Draws, draw_s, ins-size}
use Rattle.chyp_laws.proofs.IsomorphicAlike.{input-sorts, run-sorts}
use Rattle.chyp_extract.specs.Extraction.{extracted}
use Rattle.chyp_extract.proofs.Drawn.{drawn_by}
use Rattle.chyp_extract.proofs.Layers.{sorts-of}
use Rattle.chyp_extract.proofs.Rounds.{whole}
use Rattle.chyp_extract.proofs.Theorem.{extracted_typed, extracted_types}
use Rattle.chyp_pattern.specs.Replacement.{IsGraphRule, replaced}
use Rattle.chyp_pattern.specs.Occurrence.{IsOccurrence}
use Rattle.chyp_laws.proofs.Context.{other_draws, other_typed, HasContext}
use Rattle.chyp_laws.proofs.Front.{low_inputs, low_run}
use Rattle.chyp_graph.proofs.IsomorphicValid.{isomorphic_valid}
use Rattle.chyp_laws.proofs.OccurrenceContext.{occurrence_context}
use Rattle.chyp_laws.proofs.Placed.{context}

-- a graph that a term draws is isomorphic to the graph of the term
pub draws_isomorphic : (t : Morphism) → IsTyped t → (g : PlainGraph) → Draws t g → Isomorphic (graph_of t) g
draws_isomorphic t ty g d = isomorphic t t ty ty (graph_of t) g (draw_s t ty) d (Alike-refl t)

-- and so it is valid
pub draws_valid : (t : Morphism) → IsTyped t → (g : PlainGraph) → Draws t g → IsValid g
draws_valid t ty g d = isomorphic_valid (graph_of t) g (valid t ty) (draws_isomorphic t ty g d)

-- each valid graph is drawn by the term that is read back from it
pub draw_graph : (g : PlainGraph) → IsValid g → Draws (extracted g) g
draw_graph g v = let w = whole g v in drawn_by g v (extracted g) w.edges w.carries w.all

graph_rule : (l r : PlainGraph) → IsGraphRule l r → IsEquation (extracted l) (extracted r)
graph_rule l r rule =
    let a = extracted_types l rule.left in
    let b = extracted_types r rule.right in
    record {
      left = extracted_typed l rule.left;
      right = extracted_typed r rule.right;
      doms = a.0 ∙ rule.inputs ∙ sym b.0;
      cods = a.1 ∙ rule.outputs ∙ sym b.1;
    }

-- the type of a graph that a term draws is that of the term
pub drawn_types : (t : Morphism) → IsTyped t → (g : PlainGraph) → Draws t g → (input_sorts g ≡ dom t) × (output_sorts g ≡ cod t)
drawn_types t ty g d = (
  map-Some (input_sorts g) (dom t) (sym (sorts-of g.wires g.inputs (all-under (length g.wires) g.inputs (low_inputs d))) ∙ input-sorts t ty g d),
  map-Some (output_sorts g) (cod t) (sym (sorts-of g.wires g.outputs low_outputs) ∙ outs),
)
  where
    low_outputs : Under (length g.wires) g.outputs
    low_outputs = all-under (length g.wires) g.outputs (subst (AllByRecursion (λ v. v < length g.wires)) (sym d.outputs) (low_run ty d).0)

    outs : map (slice_get g.wires) g.outputs ≡ map (λ z. Some z) (cod t)
    outs =
        ap (map (slice_get g.wires)) d.outputs
        ∙ map-run (slice_get g.wires) t ty (λ e i. d.wire (Target e i)) g.inputs (ins-size d)
        ∙ ap (run t (λ e i. slice_get g.wires (d.wire (Target e i)))) (input-sorts t ty g d)
        ∙ same-run t _ (λ e i. slice_get (label_of t e).cod i) (λ e i l. d.sorts (Target e i) l) (map (λ z. Some z) (dom t))
        ∙ run-sorts t ty

module _ (l r g : PlainGraph) (es ws : List ℕ) (rule : IsGraphRule l r) (v : IsValid g) (o : IsOccurrence l g es ws) where
  terms : IsEquation (extracted l) (extracted r)
  terms = graph_rule l r rule

  dl : Draws (extracted l) l
  dl = draw_graph l rule.left

  dr : Draws (extracted r) r
  dr = draw_graph r rule.right

  at : HasContext (extracted l) (extracted g) l g dl es ws
  at = occurrence_context terms.left (extracted_typed g v) dl (draw_graph g v) o

  new_typed : IsTyped (context at.kept at.before at.after (extracted r))
  new_typed = other_typed terms dr at

  new_draws : Draws (context at.kept at.before at.after (extracted r)) (replaced g l r es ws)
  new_draws = other_draws terms dr at

  -- the replaced graph is valid
  pub replaced_valid : IsValid (replaced g l r es ws)
  replaced_valid = draws_valid (context at.kept at.before at.after (extracted r)) new_typed (replaced g l r es ws) new_draws

  -- and has the type of the graph
  pub replaced_types : (input_sorts (replaced g l r es ws) ≡ input_sorts g) × (output_sorts (replaced g l r es ws) ≡ output_sorts g)
  replaced_types =
      let p = drawn_types (context at.kept at.before at.after (extracted l)) (sound at.left).right g at.placed.d in
      let q = drawn_types (context at.kept at.before at.after (extracted r)) new_typed (replaced g l r es ws) new_draws in
      (q.0 ∙ sym p.0, q.1 ∙ sym p.1)
