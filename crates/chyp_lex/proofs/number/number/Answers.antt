use Rattle.std.proofs.Common.{◌<◌, ◌≤◌, ◌^◌, take, arith}
use Rattle.std.specs.Str.Parse.{digits_value}
use Rattle.chyp_lex.proofs.LexemeSteps.{prefix_len-pass}
use Rattle.chyp_lex.proofs.Pieces.{number_of-fits, number_of-too_large}
use Rattle.chyp_lex.proofs.number.number.Goals as goal

pub value_of_digits-requires : goal.value_of_digits-requires
value_of_digits-requires c = rw c.digits_len-len.ensures (prefix_len-pass _ c.args.text.now)

pub returns-in-Some-clause-number : goal.returns-in-Some-clause-number
returns-in-Some-clause-number c =
    let fits : digits_value 10 (take c.digits_len-len.result c.args.text.now) < 2 ^ 64 = omega (arith, c.in-Some.ensures) in
    rw c.digits_len-len.ensures (number_of-fits c.args.text.now (rw c.digits_len-len.ensures at fits))

pub returns-in-None-clause-number : goal.returns-in-None-clause-number
returns-in-None-clause-number c =
    let large : 2 ^ 64 ≤ digits_value 10 (take c.digits_len-len.result c.args.text.now) = c.in-None.ensures in
    rw (c.token.ensures, c.digits_len-len.ensures) (number_of-too_large c.args.text.now (rw c.digits_len-len.ensures at large))
