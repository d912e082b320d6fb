use Rattle.std.proofs.Common.{sym, ◌+◌, ◌*◌, ◌≤◌, slice_index, arith}
use Rattle.std.specs.Char.{digit_value}
use Rattle.gov_ids.proofs.ReaderLemmas.{number_of_all, number_of_large}
use Rattle.gov_ids.proofs.readers.number.Goals as goal

pub returns-in_err-checked_mul : goal.returns-in_err-checked_mul
returns-in_err-checked_mul c =
    let large : 65536 ≤ c.loop-digit.number * 10 = omega (arith, c.in_err-checked_mul.ensures) in
    rw (c.from_residual.ensures) (sym (number_of_large c.args.digits.now c.loop-digit.digit-index c.loop-digit.number (omega arith) (omega arith) c.loop-digit.invariant.value))

pub returns-in_err-number : goal.returns-in_err-number
returns-in_err-number c =
    let large : 65536 ≤ c.loop-digit.number * 10 + digit_value (slice_index c.args.digits.now c.loop-digit.digit-index) = grind (arith, c.in_ok-checked_mul.ensures, c.in_err-number.ensures, c.if-not-is_ascii_digit.ensures) in
    rw (c.from_residual-in_err-number.ensures) (sym (number_of_large c.args.digits.now c.loop-digit.digit-index c.loop-digit.number (omega arith) large c.loop-digit.invariant.value))

pub returns : goal.returns
returns c = sym (number_of_all c.args.digits.now c.loop-digit.digit-index c.loop-digit.number (omega arith) (omega arith) c.loop-digit.invariant.digits c.loop-digit.invariant.value)
