use Rattle.std.proofs.Common.{◌+◌, arith}
use Rattle.chyp_layout.proofs.Gathering.{gaps-length, pieces-short}
use Rattle.chyp_layout.proofs.crossings.crossings.Goals as goal

pub sum_of-requires-clause-few : goal.sum_of-requires-clause-few
sum_of-requires-clause-few c =
    let n = gaps-length c.args.picture.now (c.args.picture.now.columns + 1) c.in_ok-gaps.gaps.items c.in_ok-gaps.ensures in
    let f = c.requires.few_columns in
    omega arith

pub sum_of-requires-clause-short : goal.sum_of-requires-clause-short
sum_of-requires-clause-short c = pieces-short c.args.picture.now (c.args.picture.now.columns + 1) c.in_ok-gaps.gaps.items c.requires.few_lines c.in_ok-gaps.ensures
