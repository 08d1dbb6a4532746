use Rattle.chyp_simplifier.proofs.Rules.{next-graphs, next-rules, usable-at}
use Rattle.chyp_simplifier.proofs.rule.rules_of.Goals as goal

pub of-requires : goal.of-requires
of-requires c = usable-at c.args.equations.now c.requires c.loop-equation.equation-index c.equation-item.result c.loop-equation-test.true c.equation-item.is

pub loop-equation-preserved : goal.loop-equation-preserved
loop-equation-preserved c = record {
  graphs = next-graphs c.loop-equation.rules.items c.push.new.self.items c.in_ok-of.field-0 c.in_ok-push.ensures.items c.args.equations.now c.loop-equation.equation-index
      c.equation-item.result c.loop-equation-test.true c.equation-item.is c.loop-equation.invariant.graphs c.in_ok-of.ensures.graphs;
  rules = next-rules c.loop-equation.rules.items c.push.new.self.items c.in_ok-of.field-0 c.in_ok-push.ensures.items c.loop-equation.invariant.rules c.in_ok-of.ensures.rule;
}
