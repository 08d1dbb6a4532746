use Rattle.std.proofs.Common.{◌≡◌, ◌+◌, ◌∙◌, ap, arith}
use Rattle.chyp_term.proofs.Closure.{get-item}
use Rattle.chyp_layout.proofs.Placing.{placed-more, top-more}
use Rattle.chyp_layout.specs.Spots.{height_of}
use Rattle.chyp_layout.proofs.spots.place.Goals as goal

pub loop-place-preserved : goal.loop-place-preserved
loop-place-preserved c =
    let g = c.args.graph.now in
    let l = c.loop-place in
    let t = c.index-items-place.result in
    let h = get-item c.args.items.now l.place t c.loop-place-test.true c.index-items-place.is in
    let e : l.top + (c.height.result + 20) ≡ l.top + height_of g t + 20 = (let q = c.height.ensures.height in omega arith) in
    let few = c.height.ensures.few in
    let low = l.invariant.low in
    record {
      placed = placed-more g c.args.column c.args.items.now l.place t l.top c.args.placed.now.items l.placed.items c.push.new.self.items h c.loop-place-test.true l.invariant.placed
          l.invariant.top c.in_ok-push.ensures.items;
      top = e ∙ ap (λ y. y + height_of g t + 20) l.invariant.top ∙ top-more g 20 c.args.items.now l.place t h;
      low = omega arith;
    }
