-- The graphs of the sides of a rule are a rule of graphs.
use Rattle.std.proofs.Common.{sym, ◌∙◌, subst}
use Rattle.chyp_term.specs.Term.{morphism_of}
use Rattle.chyp_graph.specs.GraphOf.{graph_of}
use Rattle.chyp_graph.specs.PlainGraph.{PlainGraph}
use Rattle.chyp_pattern.specs.Replacement.{IsGraphRule}
use Rattle.chyp_simp.proofs.Contexts.{graph-rule}
use Rattle.chyp_graph_tests.proofs.replacing.graphs_of.Goals as goal

pub returns : goal.returns
returns c =
    let l = morphism_of c.args.rule.now.left in
    let r = morphism_of c.args.rule.now.right in
    subst (λ (x : PlainGraph). IsGraphRule x c.in_ok-graph_of-2.field-0) (sym (c.in_ok-left.ensures.graph ∙ c.in_ok-graph_of.ensures))
    (subst (λ (x : PlainGraph). IsGraphRule (graph_of l) x) (sym c.in_ok-graph_of-2.ensures) (graph-rule l r c.requires.0))
