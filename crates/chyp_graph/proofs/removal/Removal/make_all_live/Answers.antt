use Rattle.std.proofs.Common.{◌≡◌, ◌<◌, ◌+◌, true, length, slice_get, take, sym, ◌∙◌, ap, subst, arith}
use Rattle.chyp_term.specs.Positions.{is_among}
use Rattle.chyp_graph.specs.Removal.{AreLive, live_behind}
use Rattle.chyp_term.proofs.Slices.{all-is}
use Rattle.chyp_term.proofs.Closure.{get-item}
use Rattle.chyp_graph.proofs.Removing.{Grows-trans, lit, live-grown, live-one-more}
use Rattle.chyp_graph.proofs.removal.Removal.make_all_live.Goals as goal

pub make_live-requires-clause-made : goal.make_live-requires-clause-made
make_live-requires-clause-made c =
    live-grown c.args.graph.now c.args.self.now.order.items c.loop-w.self.order.items c.loop-w.invariant.order c.w-item.result
    (all-is (λ w. is_among (live_behind c.args.graph.now c.args.self.now.order.items) w ≡ true) c.args.wires.now c.loop-w.w-index c.w-item.result c.loop-w-test.true c.w-item.is c.requires.made)

pub loop-w-preserved : goal.loop-w-preserved
loop-w-preserved c =
    let g = c.args.graph.now in
    let w = c.w-item.result in
    let b = all-is (λ w. w < length g.wires) c.args.wires.now c.loop-w.w-index w c.loop-w-test.true c.w-item.is c.requires.wires in
    let s = c.loop-w.invariant.removal.wires in
    let room : w < length c.loop-w.self.live.items = omega arith in
    let e = c.in_ok-make_live.ensures in
    record {
      removal = e.removal;
      live = subst (λ l. AreLive l (take (c.loop-w.w-index + 1) c.args.wires.now)) (sym e.live)
          (live-one-more g c.loop-w.self.live.items c.args.wires.now c.loop-w.w-index w c.loop-w-test.true
          (get-item c.args.wires.now c.loop-w.w-index w c.loop-w-test.true c.w-item.is) room c.loop-w.invariant.live);
      stay = λ v h. ap (λ l. slice_get l v) e.live ∙ lit c.loop-w.self.live.items w v room (c.loop-w.invariant.stay v h);
      order = Grows-trans c.args.self.now.order.items c.loop-w.self.order.items c.make_live.new.self.order.items c.loop-w.invariant.order e.order;
    }
