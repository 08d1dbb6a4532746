use Rattle.std.proofs.Common.{◌<◌, All, length, subst, sym}
use Rattle.chyp_term.proofs.Slices.{all-is}
use Rattle.chyp_extractor.proofs.Fronts.{others-end, round-reordered}
use Rattle.chyp_extractor.proofs.front.passed_by.Goals as goal

pub is_used-requires-clause-wire : goal.is_used-requires-clause-wire
is_used-requires-clause-wire c =
    let g = c.args.graph.now in
    all-is (λ w. w < length g.wires) c.args.live.now c.loop-w.w-index c.w-item.result c.loop-w-test.true c.w-item.is
    (subst (All (λ w. w < length g.wires)) (sym c.requires.live) (round-reordered g c.valid.ensures.valid c.valid.ensures.few_wires c.args.n).within)

pub returns : goal.returns
returns c = others-end c.args.graph.now c.valid.ensures.valid c.args.n c.loop-w.w-index c.args.live.now c.loop-w.others.items c.requires.live c.loop-w-test.false c.loop-w.invariant
