use Rattle.std.proofs.Common.{ap, arith}
use Rattle.chyp_check.specs.Project.{Node}
use Rattle.chyp_check.proofs.Reached.{at-place, rows-next}
use Rattle.chyp_check.proofs.imports.imports.Goals as goal

pub loop-from-init : goal.loop-from-init
loop-from-init c = record {
  many = c.in_ok-relation.ensures.count;
  first = record { imports = λ i j h k. absurd (omega arith); behind = λ i j h. c.in_ok-relation.ensures.none i j };
}

pub loop-from-preserved : goal.loop-from-preserved
loop-from-preserved c =
    let nodes = c.args.nodes.now in
    let from = c.loop-from.from in
    let node : Node = c.index-nodes-from.result in
    record {
      many = c.add_imports.ensures.many;
      first = rows-next nodes node.1 c.imports.result.now from c.loop-from.relation c.add_imports.new.relation
          (ap (λ (n : Node). n.1) (at-place nodes node from c.loop-from-test.true c.index-nodes-from.is))
          c.imports.ensures c.add_imports.ensures.others c.add_imports.ensures.names c.loop-from.invariant.first;
    }

pub returns-clause-imports : goal.returns-clause-imports
returns-clause-imports c = λ i j h k. let all = c.loop-from-test.false in c.loop-from.invariant.first.imports i j (omega arith) k
