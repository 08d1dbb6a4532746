use Rattle.chyp_base.specs.declared.sort.Sort.{Sort}
use Rattle.chyp_match.proofs.Filing.{filed}
use Rattle.chyp_match.proofs.listed.wires_by_sort.Goals as goal

pub loop-w-preserved : goal.loop-w-preserved
loop-w-preserved c = filed (λ (s : Sort). s.name) c.args.graph.now.wires c.loop-w.w _ c.loop-w.lists c.add.new.self c.wire_sort.ensures c.loop-w.invariant c.in_ok-add.ensures.added
    c.in_ok-add.ensures.others
