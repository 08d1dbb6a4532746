use Rattle.std.proofs.Common.{◌-◌, ◌∙◌, ap, arith, get_or, length, subst, take}
use Rattle.chyp_layout.specs.Columns.{end_column}
use Rattle.chyp_layout.specs.Order.{AreExtended}
use Rattle.chyp_layout.specs.declared.item.Item.TheVariants.{Wire}
use Rattle.chyp_picture.specs.declared.end.End.TheVariants.{Input}
use Rattle.chyp_layout.proofs.Lists.{get-read}
use Rattle.chyp_layout.proofs.Ordering.{bends-more, length-first}
use Rattle.chyp_layout.proofs.order.first_order.Goals as goal

pub push_bends-requires : goal.push_bends-requires
push_bends-requires c =
    let n = ap length c.loop-w.invariant ∙ length-first c.args.columns.now (take c.loop-w.w c.args.ends.now) in
    let s = c.saturating_sub-last.ensures in
    let w = c.of_end.ensures.within in
    omega arith

pub loop-w-preserved : goal.loop-w-preserved
loop-w-preserved c =
    let columns = c.args.columns.now in
    let w = c.loop-w.w in
    let x = get_or c.args.ends.now w (record { from = Input 0; to = Input 0 }) in
    bends-more columns c.args.ends.now w x c.loop-w.order.items c.push_bends.new.order.items (get-read c.args.ends.now w
    (record { from = Input 0; to = Input 0 }) c.loop-w-test.true) c.loop-w.invariant
    (subst (λ n. AreExtended (λ _. Wire w) n (end_column columns x.to - 1) c.loop-w.order.items c.push_bends.new.order.items) c.of_end-first.ensures.column
    (subst (λ n. AreExtended (λ _. Wire w) c.of_end-first.result n c.loop-w.order.items c.push_bends.new.order.items) (c.saturating_sub-last.ensures
    ∙ ap (λ n. n - 1) c.of_end.ensures.column) c.in_ok-push_bends.ensures))
