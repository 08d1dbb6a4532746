-- What a search gives is an occurrence.
use Rattle.std.proofs.Common.{subst}
use Rattle.chyp_graph.specs.PlainGraph.{PlainGraph}
use Rattle.chyp_match.specs.Matcher.{Matcher}
use Rattle.chyp_pattern.specs.Occurrence.{IsOccurrence}
use Rattle.chyp_pattern.specs.Pattern.{Parts}
use Rattle.chyp_graph_tests.proofs.Occurs.{occurs}
use Rattle.chyp_graph_tests.proofs.replacing.next_replaced.Goals as goal

pub replaced_at-requires-clause-occurrence : goal.replaced_at-requires-clause-occurrence
replaced_at-requires-clause-occurrence c =
    let m : Matcher = c.args.occurrences.now in
    let at = c.in-Some.at.now in
    subst (λ (g : PlainGraph). IsOccurrence c.args.left.now.graph g at.edges at.wires) c.requires.graph
    (subst (λ (p : Parts). IsOccurrence p.graph m.graph at.edges at.wires) c.requires.pattern (occurs m at c.in-Some.ensures.some))
