-- What a search gives is an occurrence, and so is a copy of it.
use Rattle.std.proofs.Common.{sym, subst}
use Rattle.chyp_match.specs.Matcher.{Matcher}
use Rattle.chyp_pattern.specs.Occurrence.{IsOccurrence}
use Rattle.chyp_pattern.specs.declared.occurrence.Occurrence.{Occurrence}
use Rattle.chyp_graph_tests.proofs.Occurs.{occurs}
use Rattle.chyp_graph_tests.proofs.working.next.Goals as goal

pub returns-in_ok-copy-in-Some : goal.returns-in_ok-copy-in-Some
returns-in_ok-copy-in-Some c =
    let m : Matcher = c.args.occurrences.now in
    subst (λ (o : Occurrence). IsOccurrence m.pattern.graph m.graph o.edges o.wires) (sym c.in_ok-copy-in-Some.ensures)
    (occurs m c.in-Some.at.now c.in-Some.ensures.some)
