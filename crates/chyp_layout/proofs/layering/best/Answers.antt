use Rattle.std.proofs.Common.{◌≡◌, ◌∙◌, All, ap, arith, get_or, length, subst, sym}
use Rattle.chyp_layout.specs.PictureOf.{four_sweeps, picture_in}
use Rattle.chyp_layout.specs.Side.{AreItems}
use Rattle.chyp_layout.specs.Sweep.{sweep_of}
use Rattle.chyp_layout.specs.declared.side.Side.TheVariants.{Left}
use Rattle.chyp_layout.proofs.Best.{best-step, best_of, length-sweep, sweep-items}
use Rattle.chyp_layout.proofs.Lists.{get-read}
use Rattle.chyp_layout.proofs.layering.best.Goals as goal

pub loop-side-init : goal.loop-side-init
loop-side-init c =
    let g = c.args.graph.now in
    record {
      items = c.requires.order;
      few = c.requires.few;
      crossings = c.in_ok-best.ensures.crossings;
      best = ap (λ p. best_of g four_sweeps p c.args.order.items) (c.in_ok-best.ensures.picture ∙ ap (picture_in g) c.deref.ensures.value);
    }

pub drawn-requires-in-loop-side-clause-order : goal.drawn-requires-in-loop-side-clause-order
drawn-requires-in-loop-side-clause-order c =
    let g = c.args.graph.now in
    let side = get_or four_sweeps c.loop-side.side-index Left in
    subst (All (AreItems g)) (sym (c.deref-in-loop-side.ensures.value ∙ c.in_ok-order.ensures)) (sweep-items g side c.loop-side.order.items c.loop-side.invariant.items)

pub drawn-requires-in-loop-side-clause-few : goal.drawn-requires-in-loop-side-clause-few
drawn-requires-in-loop-side-clause-few c =
    let g = c.args.graph.now in
    let side = get_or four_sweeps c.loop-side.side-index Left in
    let n = ap length (c.deref-in-loop-side.ensures.value ∙ c.in_ok-order.ensures) ∙ length-sweep g side c.loop-side.order.items in
    let f = c.loop-side.invariant.few in
    omega arith

pub loop-side-preserved : goal.loop-side-preserved
loop-side-preserved c =
    let g = c.args.graph.now in
    let l = c.loop-side in
    let side = get_or four_sweeps l.side-index Left in
    let e : c.in_ok-order.order.items ≡ sweep_of g side l.order.items = c.in_ok-order.ensures in
    let n = ap length e ∙ length-sweep g side l.order.items in
    let f = l.invariant.few in
    let r = best-step g l.side-index side l.order.items c.in_ok-order.order.items l.best c.in_ok-next.next c.or_better-best.result _ (get-read four_sweeps l.side-index Left c.loop-side-test.true) e
    (c.in_ok-next.ensures.picture ∙ ap (picture_in g) c.deref-in-loop-side.ensures.value) c.in_ok-next.ensures.crossings l.invariant.crossings c.or_better-best.ensures l.invariant.best in
    record {
      items = subst (All (AreItems g)) (sym e) (sweep-items g side l.order.items l.invariant.items);
      few = omega arith;
      crossings = r.0;
      best = r.1;
    }
