use Rattle.std.proofs.Common.{map, arith}
use Rattle.chyp_simp.proofs.Some.{idle-more}
use Rattle.chyp_simplifier.specs.Rule.{graphs_of}
use Rattle.chyp_simplifier.proofs.Rounds.{all-idle, at-place, does, idle}
use Rattle.chyp_simplifier.proofs.round.apply_first.Goals as goal

pub loop-rule-init : goal.loop-rule-init
loop-rule-init c = λ j rule h is. absurd (omega arith)

pub returns-in_default : goal.returns-in_default
returns-in_default c =
    does (map graphs_of c.args.rules.now) c.args.graph.now c.loop-rule.rule-index (graphs_of c.rule-item.result)
    (at-place c.args.rules.now c.loop-rule.rule-index c.rule-item.result c.loop-rule-test.true c.rule-item.is) c.loop-rule.invariant c.in_ok-done.done c.in_default.not-Idle
    c.in_ok-done.ensures

pub loop-rule-preserved : goal.loop-rule-preserved
loop-rule-preserved c =
    idle-more (map graphs_of c.args.rules.now) c.args.graph.now c.loop-rule.rule-index (graphs_of c.rule-item.result)
    (at-place c.args.rules.now c.loop-rule.rule-index c.rule-item.result c.loop-rule-test.true c.rule-item.is) c.loop-rule.invariant
    (idle (graphs_of c.rule-item.result) c.args.graph.now c.in_ok-done.done c.in-Idle.is c.in_ok-done.ensures)

pub returns : goal.returns
returns c = all-idle c.args.rules.now c.args.graph.now c.loop-rule.rule-index c.loop-rule.invariant c.loop-rule-test.false
