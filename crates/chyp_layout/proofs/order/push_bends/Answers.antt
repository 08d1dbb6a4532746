use Rattle.std.proofs.Common.{arith}
use Rattle.chyp_term.proofs.Closure.{get-item}
use Rattle.chyp_layout.specs.declared.item.Item.TheVariants.{Wire}
use Rattle.chyp_layout.proofs.Ordering.{extended-all, extended-more, extended-none}
use Rattle.chyp_layout.proofs.order.push_bends.Goals as goal

pub loop-place-init : goal.loop-place-init
loop-place-init c = record { low = omega arith; bends = extended-none (λ _. Wire c.args.wire) c.args.from c.args.order.now.items }

pub loop-place-preserved : goal.loop-place-preserved
loop-place-preserved c =
    let l = c.loop-place in
    let e = l.invariant.bends in
    let size = e.size in
    let room = c.requires in
    let t = c.loop-place-test.true in
    record {
      low = omega arith;
      bends = extended-more (λ _. Wire c.args.wire) c.args.from l.place c.args.order.now.items l.order.items c.index_mut-column.result.now c.push.new.self l.auto.place e
          (get-item l.order.items l.place c.index_mut-column.result.now (omega arith) c.index_mut-column.ensures.value) c.in_ok-push.ensures;
    }

pub returns : goal.returns
returns c =
    let l = c.loop-place in
    extended-all (λ _. Wire c.args.wire) c.args.from l.place c.args.to c.args.order.now.items l.order.items c.loop-place-test.false l.invariant.low l.invariant.bends
