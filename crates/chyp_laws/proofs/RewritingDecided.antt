-- Whether a rule rewrites one term to another is decided: by its occurrences, one by one.
use Rattle.std.proofs.Common.{◌⊎◌}
use Rattle.chyp_term.specs.Derivation.{IsEquation}
use Rattle.chyp_term.specs.Morphism.{Morphism}
use Rattle.chyp_term.specs.Rewriting.{RewritesInContext}
use Rattle.chyp_term.proofs.Deciding.{Decided, decided-by}
use Rattle.chyp_term.proofs.Members.{decide-some, Contains-member, member-Contains}
use Rattle.chyp_graph.specs.GraphOf.{graph_of}
use Rattle.chyp_graph.specs.Isomorphism.{Isomorphic}
use Rattle.chyp_graph.proofs.Validity.{valid}
use Rattle.chyp_laws.proofs.Deciding.{decide-isomorphic}
use Rattle.chyp_pattern.specs.declared.occurrence.Occurrence.{Occurrence}
use Rattle.chyp_laws.specs.Rewriting.{IsRewritten}
use Rattle.chyp_pattern.specs.Replacement.{replaced}
use Rattle.chyp_pattern.proofs.Listed.{occurrences_listed}
use Rattle.chyp_laws.proofs.OccurrenceContext.{rewrites_are_graphs}

decide-rewritten : (l r t u : Morphism) → IsEquation t u → Decided (IsRewritten l r t u)
decide-rewritten l r t u goal =
    let os = occurrences_listed (graph_of l) (graph_of t) in
    decided-by
    (λ o. record { es = o.0.edges; ws = o.0.wires; occurs = (os.1.members o.0).0 (member-Contains os.0 o.0 o.1); same = o.2 })
    (λ w.
    let o : Occurrence = record { edges = w.es; wires = w.ws } in
    (o, Contains-member os.0 o ((os.1.members o).1 w.occurs), w.same))
    (decide-some (λ (o : Occurrence). Isomorphic (graph_of u) (replaced (graph_of t) (graph_of l) (graph_of r) o.edges o.wires))
    (λ (o : Occurrence). decide-isomorphic (graph_of u) (valid u goal.right) (replaced (graph_of t) (graph_of l) (graph_of r) o.edges o.wires)) os.0)

-- there is a context, or there is none
pub rewrites_decided : (l r t u : Morphism) → IsEquation l r → IsEquation t u → (RewritesInContext l r t u) ⊎ (¬ RewritesInContext l r t u)
rewrites_decided l r t u rule goal =
    let e = rewrites_are_graphs l r t u rule goal in
    decided-by e.1 e.0 (decide-rewritten l r t u goal)
