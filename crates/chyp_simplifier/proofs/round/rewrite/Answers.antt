use Rattle.std.proofs.Common.{sym, subst}
use Rattle.chyp_pattern.specs.declared.occurrence.Occurrence.{Occurrence}
use Rattle.chyp_simp.specs.Run.{IsLeast}
use Rattle.chyp_simplifier.specs.Round.{IsRewritten, nowhere, at}
use Rattle.chyp_simplifier.specs.Rule.{graphs_of}
use Rattle.chyp_simplifier.specs.declared.round.Round.TheVariants.{Rewritten}
use Rattle.chyp_simplifier.proofs.Rounds.{given-all, given-first}
use Rattle.chyp_simplifier.proofs.round.rewrite.Goals as goal

pub replace-requires-clause-occurrence : goal.replace-requires-clause-occurrence
replace-requires-clause-occurrence c =
    (given-first c.args.rule.now.left c.args.graph.now c.in_ok-listed.listed c.in_ok-listed.ensures c.in_ok-occurrences.occurrences c.in_ok-occurrences.ensures c.in-Some.at.now
    c.in-Some.ensures.some).occurs

pub returns-in-Some : goal.returns-in-Some
returns-in-Some c =
    let o : Occurrence = c.in-Some.at.now in
    let least : IsLeast c.args.rule.now.left.graph c.args.graph.now o =
    given-first c.args.rule.now.left c.args.graph.now c.in_ok-listed.listed c.in_ok-listed.ensures c.in_ok-occurrences.occurrences c.in_ok-occurrences.ensures o
    c.in-Some.ensures.some in
    subst (λ h. IsRewritten (graphs_of c.args.rule.now) c.args.graph.now (Rewritten h)) (sym c.in_ok-new-in-Some.ensures) (at least)

pub returns : goal.returns
returns c =
    nowhere
    (given-all c.args.rule.now.left c.args.graph.now c.in_ok-listed.listed c.in_ok-listed.ensures c.in_ok-occurrences.occurrences c.in_ok-occurrences.ensures c.in-None.ensures.none)
