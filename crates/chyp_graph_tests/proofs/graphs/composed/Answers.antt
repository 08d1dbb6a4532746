-- What comes out of the graph of a term, and what goes into it, has the sorts of the term.
use Rattle.std.proofs.Common.{refl, sym, ◌∙◌, ap}
use Rattle.chyp_term.specs.Term.{morphism_of}
use Rattle.chyp_graph.specs.GraphOf.{graph_of}
use Rattle.chyp_graph.specs.PlainGraph.{input_sorts, output_sorts}
use Rattle.chyp_laws.proofs.Draws.{draw_s}
use Rattle.chyp_extract.proofs.ReplacedValid.{drawn_types}
use Rattle.chyp_graph_tests.proofs.graphs.composed.Goals as goal

pub then_term-both-requires-clause-middle : goal.then_term-both-requires-clause-middle
then_term-both-requires-clause-middle c =
    let t = morphism_of c.args.first.now in
    let u = morphism_of c.args.second.now in
    let a = drawn_types t c.requires.first (graph_of t) (draw_s t c.requires.first) in
    let b = drawn_types u c.requires.second (graph_of u) (draw_s u c.requires.second) in
    ap output_sorts c.in_ok-before.ensures ∙ a.1 ∙ c.if-not-fits.ensures refl ∙ sym b.0
