use Rattle.std.proofs.Common.{ℕ, ◌∙◌, slice_index}
use Rattle.chyp_term.proofs.Closure.{get-index}
use Rattle.chyp_work.specs.declared.board.WireItem.{WireItem}
use Rattle.chyp_work.proofs.Placing.{walk-item, walk-more, walk-there}
use Rattle.chyp_work.proofs.plain.sorts_of.Goals as goal

pub unwrap-requires : goal.unwrap-requires
unwrap-requires c =
    let ks = c.deref-w-items.result.now in
    let i = c.loop-w.w-index in
    walk-there c.args.wires.now.items ks c.apart.ensures (c.deref-w-items.ensures.value ∙ c.in_ok-numbers.ensures) i (slice_index ks i) (get-index ks i c.loop-w-test.true) c.get.result c.get.ensures

pub loop-w-preserved : goal.loop-w-preserved
loop-w-preserved c =
    let ks = c.deref-w-items.result.now in
    let i = c.loop-w.w-index in
    walk-more (λ (e : ℕ × WireItem). e.1.sort) c.args.wires.now.items c.loop-w.sorts.items c.push.new.self.items i (slice_index ks i, c.unwrap.result.now) c.in_ok-share.field-0
    (walk-item c.args.wires.now.items ks c.apart.ensures (c.deref-w-items.ensures.value ∙ c.in_ok-numbers.ensures) i (slice_index ks i) (get-index ks i c.loop-w-test.true) c.get.result
    c.unwrap.result c.get.ensures c.unwrap.ensures)
    c.in_ok-share.ensures c.loop-w.invariant c.in_ok-push.ensures.items
