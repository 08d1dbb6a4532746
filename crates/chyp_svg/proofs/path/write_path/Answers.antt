use Rattle.std.proofs.Common.{refl, subst}
use Rattle.chyp_svg.proofs.Curves.{path-parts}
use Rattle.chyp_svg.proofs.path.write_path.Goals as goal
use Rattle.chyp_write.specs.Writing.{Writes}
use Rattle.chyp_write.proofs.WritingLemmas.{writes-more, writes-part}

pub returns-in_err-write_move : goal.returns-in_err-write_move
returns-in_err-write_move g c =
    subst (Writes _ _ _ _ c.from_residual.result) (path-parts c.args.picture.now c.args.line.now c.start-from.result _ _ c.args.line.now.bends c.start-from.ensures.same refl refl refl)
    (writes-part _ _ _ _ _ c.from_residual.result _ _ c.from_residual.ensures.0 c.in_err-write_move.ensures)

pub returns-in_err-last : goal.returns-in_err-last
returns-in_err-last g c =
    subst (Writes _ _ _ _ c.from_residual-in_err-last.result)
    (path-parts c.args.picture.now c.args.line.now c.start-from.result _ _ c.as_slice.result.now c.start-from.ensures.same c.as_slice.ensures refl refl)
    (writes-more _ _ _ _ _ _ _ c.from_residual-in_err-last.result _ _ c.in_ok-write_move.ensures
    (writes-part _ _ _ _ _ c.from_residual-in_err-last.result _ _ c.from_residual-in_err-last.ensures.0 c.in_err-last.ensures.text))

pub returns-in_err-write_curve : goal.returns-in_err-write_curve
returns-in_err-write_curve g c =
    subst (Writes _ _ _ _ c.from_residual-in_err-write_curve.result)
    (path-parts c.args.picture.now c.args.line.now c.start-from.result c.in_ok-last.last c.end.result c.as_slice.result.now c.start-from.ensures.same c.as_slice.ensures
    c.in_ok-last.ensures.last c.end.ensures.same)
    (writes-more _ _ _ _ _ _ _ c.from_residual-in_err-write_curve.result _ _ c.in_ok-write_move.ensures
    (writes-more _ _ _ _ _ _ _ c.from_residual-in_err-write_curve.result _ _ c.in_ok-last.ensures.text
    (writes-part _ _ _ _ _ c.from_residual-in_err-write_curve.result _ _ c.from_residual-in_err-write_curve.ensures.0 c.in_err-write_curve.ensures)))

pub returns : goal.returns
returns g c =
    subst (Writes _ _ _ _ c.write_all.result)
    (path-parts c.args.picture.now c.args.line.now c.start-from.result c.in_ok-last.last c.end.result c.as_slice.result.now c.start-from.ensures.same c.as_slice.ensures
    c.in_ok-last.ensures.last c.end.ensures.same)
    (writes-more _ _ _ _ _ _ _ c.write_all.result _ _ c.in_ok-write_move.ensures
    (writes-more _ _ _ _ _ _ _ c.write_all.result _ _ c.in_ok-last.ensures.text
    (writes-more _ _ _ _ _ _ _ c.write_all.result _ _ c.in_ok-write_curve.ensures c.write_all.ensures)))
