-- What a search gives is an occurrence.
use Rattle.chyp_match.specs.Matcher.{GivesNext, Matcher}
use Rattle.chyp_pattern.specs.Occurrence.{IsOccurrence}
use Rattle.chyp_pattern.specs.declared.occurrence.Occurrence.{Occurrence}
use Rattle.chyp_pattern.proofs.Listed.{are-listed, listed}
use Rattle.chyp_term.proofs.Members.{get-member, member-Contains}

pub occurs : (m : Matcher) (o : Occurrence) → GivesNext m o → IsOccurrence m.pattern.graph m.graph o.edges o.wires
occurs m o next =
    let a = are-listed m.pattern.graph m.graph in
    let os = listed m.pattern.graph m.graph in
    (a.members o).0 (member-Contains os o (get-member os m.given o (next os a)))
