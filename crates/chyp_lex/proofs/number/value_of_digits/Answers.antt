use Rattle.std.proofs.Common.{arith, slice_index}
use Rattle.chyp_lex.proofs.NumberSteps.{digits_value_after-bound, digit_value-is}
use Rattle.chyp_lex.proofs.number.value_of_digits.Goals as goal

pub returns-in_err-checked_mul : goal.returns-in_err-checked_mul
returns-in_err-checked_mul c =
    let bound = digits_value_after-bound c.loop-digit.value c.args.digits.now c.loop-digit.digit-index c.loop-digit-test.true in
    rw c.from_residual.ensures (omega (arith, bound, c.loop-digit.invariant, c.in_err-checked_mul.ensures))

pub returns-in_err-value : goal.returns-in_err-value
returns-in_err-value c =
    let bound = digits_value_after-bound c.loop-digit.value c.args.digits.now c.loop-digit.digit-index c.loop-digit-test.true in
    let digit = digit_value-is (slice_index c.args.digits.now c.loop-digit.digit-index) (c.requires c.loop-digit.digit-index 0 c.loop-digit-test.true) in
    rw c.from_residual-in_err-value.ensures (omega (arith, bound, digit, c.loop-digit.invariant, c.in_ok-checked_mul.ensures, c.in_err-value.ensures, c.from.ensures))
