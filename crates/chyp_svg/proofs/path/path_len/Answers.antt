use Rattle.chyp_svg.proofs.Curves.{path-length}
use Rattle.chyp_svg.proofs.path.path_len.Goals as goal

pub returns-clause-same : goal.returns-clause-same
returns-clause-same c =
    path-length c.args.picture.now c.args.line.now c.start-from.result c.bends_len-bends.result.1 c.end.result c.as_slice.result.now c.start-from.ensures.same c.as_slice.ensures
    c.bends_len-bends.ensures.last c.end.ensures.same c.move_len.result c.bends_len-bends.result.0 c.curve_len.result c.move_len.ensures.same c.bends_len-bends.ensures.same c.curve_len.ensures.same
