-- A rewrite of a graph is one in a context, between the terms that are read back.
use Rattle.std.proofs.Common.{ℕ, ◌≡◌, List, Some, slice_get, sym, ◌∙◌, subst, ap}
use Rattle.std.specs.Prelude.{Contains}
use Rattle.std.proofs.lemmas.List.Elements.{All-contains}
use Rattle.chyp_term.specs.Derivation.{IsEquation}
use Rattle.chyp_term.specs.Morphism.{Morphism}
use Rattle.chyp_term.specs.Rewriting.{RewritesInContext}
use Rattle.chyp_term.proofs.Members.{get-member, member-Contains}
use Rattle.chyp_term.proofs.Permuted.{in_map}
use Rattle.chyp_graph.specs.GraphOf.{graph_of}
use Rattle.chyp_graph.specs.PlainGraph.{PlainGraph, input_sorts, output_sorts}
use Rattle.chyp_graph.specs.Validity.{IsValid}
use Rattle.chyp_graph.proofs.Validity.{valid}
use Rattle.chyp_pattern.specs.Occurrence.{IsOccurrence}
use Rattle.chyp_pattern.specs.Replacement.{IsGraphRule, replaced}
use Rattle.chyp_laws.proofs.Context.{HasContext, other_side}
use Rattle.chyp_laws.proofs.Draws.{draw_s}
use Rattle.chyp_laws.proofs.OccurrenceContext.{occurrence_context}
use Rattle.chyp_extract.specs.Extraction.{extracted}
use Rattle.chyp_extract.proofs.ReplacedValid.{draw_graph, drawn_types, replaced_types, replaced_valid}
use Rattle.chyp_extract.proofs.Theorem.{extracted_isomorphic, extracted_typed}
use Rattle.chyp_simp.specs.Laws.{AreEquations, LeadsInContext}
use Rattle.chyp_simp.specs.Run.{Rewrites, Rule, rule_of, rules_of}

-- the graphs of the sides of an equation are a rule
pub graph-rule : (l r : Morphism) → IsEquation l r → IsGraphRule (graph_of l) (graph_of r)
graph-rule l r e =
    let a = drawn_types l e.left (graph_of l) (draw_s l e.left) in
    let b = drawn_types r e.right (graph_of r) (draw_s r e.right) in
    record {
      left = valid l e.left;
      right = valid r e.right;
      inputs = a.0 ∙ e.doms ∙ sym b.0;
      outputs = a.1 ∙ e.cods ∙ sym b.1;
    }

module _ (l r : Morphism) (rule : IsEquation l r) (g : PlainGraph) (v : IsValid g) (es ws : List ℕ) (o : IsOccurrence (graph_of l) g es ws) where
  abbrev pub new : PlainGraph
  new = replaced g (graph_of l) (graph_of r) es ws

  pub new-valid : IsValid new
  new-valid = replaced_valid (graph_of l) (graph_of r) g es ws (graph-rule l r rule) v o

  pub new-types : (input_sorts new ≡ input_sorts g) × (output_sorts new ≡ output_sorts g)
  new-types = replaced_types (graph_of l) (graph_of r) g es ws (graph-rule l r rule) v o

  pub new-context : RewritesInContext l r (extracted g) (extracted new)
  new-context =
      let dl = draw_s l rule.left in
      let h : HasContext l (extracted g) (graph_of l) g dl es ws = occurrence_context rule.left (extracted_typed g v) dl (draw_graph g v) o in
      record {
        kept = h.kept;
        before = h.before;
        after = h.after;
        left = h.left;
        right = other_side rule (draw_s r rule.right) h (extracted new) (extracted_typed new new-valid) (extracted_isomorphic new new-valid);
      }

-- a rule of the list is one of the equations
pub record IsRuleOf (equations : List (Morphism × Morphism)) (rule : Rule) : Type 0 where
  pub equation : Morphism × Morphism
  pub has : Contains equations equation
  pub is : rule_of equation ≡ rule

pub is-rule-of : (equations : List (Morphism × Morphism)) (k : ℕ) (rule : Rule) → slice_get (rules_of equations) k ≡ Some rule → IsRuleOf equations rule
is-rule-of equations k rule e =
    let f = in_map rule_of equations k rule e in
    record { equation = f.0; has = member-Contains equations f.0 (get-member equations k f.0 f.1); is = f.2 }

-- each rewrite of a valid graph is one in a context
pub leads : (equations : List (Morphism × Morphism)) (g h : PlainGraph) → AreEquations equations → IsValid g → Rewrites (rules_of equations) g h
    → LeadsInContext equations g h
leads equations g h are v w = go w.rule (is-rule-of equations w.reached.k w.rule w.reached.is) w.least.occurs w.is
  where
    go : (rule : Rule) → IsRuleOf equations rule → IsOccurrence rule.0 g w.at.edges w.at.wires → h ≡ replaced g rule.0 rule.1 w.at.edges w.at.wires → LeadsInContext equations g h
    go rule of o is = at of.equation of.has (subst (λ (x : Rule). IsOccurrence x.0 g w.at.edges w.at.wires) (sym of.is) o)
        (is ∙ ap (λ (x : Rule). replaced g x.0 x.1 w.at.edges w.at.wires) (sym of.is))
      where
        at : (e : Morphism × Morphism) → Contains equations e → IsOccurrence (graph_of e.0) g w.at.edges w.at.wires
            → h ≡ replaced g (graph_of e.0) (graph_of e.1) w.at.edges w.at.wires → LeadsInContext equations g h
        at (l, r) c o is =
            let rule : IsEquation l r = All-contains (λ (e : Morphism × Morphism). IsEquation e.0 e.1) equations (l, r) are c in
            let types = new-types l r rule g v w.at.edges w.at.wires o in
            record {
              valid = subst IsValid (sym is) (new-valid l r rule g v w.at.edges w.at.wires o);
              inputs = ap input_sorts is ∙ types.0;
              outputs = ap output_sorts is ∙ types.1;
              equation = (l, r);
              has = c;
              context = subst (λ (x : PlainGraph). RewritesInContext l r (extracted g) (extracted x)) (sym is) (new-context l r rule g v w.at.edges w.at.wires o);
            }
