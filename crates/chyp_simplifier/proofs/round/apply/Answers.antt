use Rattle.std.proofs.lemmas.Result.{IfOk-weaker}
use Rattle.chyp_simplifier.specs.Round.{is_idle, is_wide}
use Rattle.chyp_simplifier.specs.Rule.{graphs_of}
use Rattle.chyp_simplifier.proofs.Rounds.{applied, have, none-idle}
use Rattle.chyp_simplifier.proofs.round.apply.Goals as goal

pub returns-then-placements-gt-MOST_PLACEMENTS : goal.returns-then-placements-gt-MOST_PLACEMENTS
returns-then-placements-gt-MOST_PLACEMENTS c =
    is_wide (have c.args.rule.now c.requires.rule c.args.graph.now c.placements-placements.result c.placements-placements.ensures) c.if-placements-gt-MOST_PLACEMENTS.true

pub returns-then-placements-eq0 : goal.returns-then-placements-eq0
returns-then-placements-eq0 c =
    is_idle
    (none-idle c.occurrences_are_few.ensures.bounded c.args.rule.now c.requires.rule c.args.graph.now c.valid.ensures.valid c.placements-placements.result
    c.placements-placements.ensures c.if-placements-eq0.true)

pub returns : goal.returns
returns c =
    IfOk-weaker c.rewrite.result _ _
    (λ round.
    applied (graphs_of c.args.rule.now) c.args.graph.now c.placements-placements.result
    (have c.args.rule.now c.requires.rule c.args.graph.now c.placements-placements.result c.placements-placements.ensures) c.if-placements-gt-MOST_PLACEMENTS.false round)
    c.rewrite.ensures
