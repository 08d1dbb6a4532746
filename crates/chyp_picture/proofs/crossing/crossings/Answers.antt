use Rattle.std.proofs.Common.{◌≡◌, [], arith, ap, drop, length}
use Rattle.std.proofs.lemmas.List.{drop_all}
use Rattle.chyp_picture.specs.Crossings.{line_crossings, sum_of_pairs}
use Rattle.chyp_picture.proofs.Columns.{crossings-by_line, crossings-fit, crossings-next}
use Rattle.chyp_picture.proofs.crossing.crossings.Goals as goal

pub crossings_with-count-requires-clause-fits : goal.crossings_with-count-requires-clause-fits
crossings_with-count-requires-clause-fits c =
    omega (
      arith,
      c.loop-index.invariant,
      crossings-fit c.args.picture.now c.requires,
      crossings-next c.args.picture.now c.as_slice-lines.result.now c.index-lines-index.result c.loop-index.index c.as_slice-lines.ensures c.loop-index-test.true c.index-lines-index.is,
    )

pub overflow_add-count : goal.overflow_add-count
overflow_add-count c =
    omega (
      arith,
      c.loop-index.invariant,
      crossings-fit c.args.picture.now c.requires,
      c.crossings_with-count.ensures,
      crossings-next c.args.picture.now c.as_slice-lines.result.now c.index-lines-index.result c.loop-index.index c.as_slice-lines.ensures c.loop-index-test.true c.index-lines-index.is,
    )

pub loop-index-preserved : goal.loop-index-preserved
loop-index-preserved c =
    omega (
      arith,
      c.loop-index.invariant,
      c.crossings_with-count.ensures,
      crossings-next c.args.picture.now c.as_slice-lines.result.now c.index-lines-index.result c.loop-index.index c.as_slice-lines.ensures c.loop-index-test.true c.index-lines-index.is,
    )

pub returns : goal.returns
returns c =
    let p = c.args.picture.now in
    let lines : length c.as_slice-lines.result.now ≡ length p.lines = ap length c.as_slice-lines.ensures in
    let none : drop c.loop-index.index p.lines ≡ [] = drop_all c.loop-index.index p.lines (omega (arith, lines, c.loop-index-test.false)) in
    omega (arith, c.loop-index.invariant, ap (sum_of_pairs (line_crossings p)) none, crossings-by_line p)
