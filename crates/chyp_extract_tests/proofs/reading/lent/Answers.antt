use Rattle.std.proofs.Common.{refl, arith}
use Rattle.chyp_env.proofs.Spelled.{spelled}
use Rattle.chyp_extract_tests.proofs.reading.lent.Goals as goal

pub new-requires : goal.new-requires
new-requires c =
    let short = c.requires.short in
    record { spans = c.requires.spans; one_piece = refl; short = omega arith; spelled = spelled c.args.text.now c.args.tokens.now c.requires.tokens }
