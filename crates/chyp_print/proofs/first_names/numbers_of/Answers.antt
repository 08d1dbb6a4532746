use Rattle.std.proofs.Common.{◌<◌, length, arith}
use Rattle.chyp_env.specs.Entry.{entry_of}
use Rattle.chyp_print.proofs.Firsts.{noted-next}
use Rattle.chyp_print.proofs.first_names.numbers_of.Goals as goal

pub loop-number-preserved : goal.loop-number-preserved
loop-number-preserved c =
    let size = c.count-number-end.ensures in
    let test = c.loop-number-test.true in
    let within : c.loop-number.number < length c.args.env.now = omega arith in
    noted-next c.args.env.now c.loop-number.number (entry_of c.entry.result.now) c.loop-number.numbers.entries c.note.new.numbers.entries c.entry.ensures within c.loop-number.invariant
    c.in_ok-note.ensures
