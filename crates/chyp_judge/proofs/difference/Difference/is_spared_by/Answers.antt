use Rattle.std.proofs.Common.{slice_get, ap, arith, ◌∙◌}
use Rattle.chyp_term.proofs.Positions.{slice_get-length}
use Rattle.chyp_judge.proofs.Tracing.{spared-all}
use Rattle.chyp_judge.proofs.difference.Difference.is_spared_by.Goals as goal

pub returns : goal.returns
returns c =
    let e = c.as_slice-wire-items.ensures in
    spared-all c.args.self.now.path.items c.args.at.now.wires
    (λ i w h.
    let l = slice_get-length c.args.at.now.wires i w h in
    let t = c.loop-wire-test.false in
    let n = ap (λ x. Rattle.std.specs.Prelude.length x) e in
    c.loop-wire.invariant i w (omega arith) (ap (λ x. slice_get x i) e ∙ h))
