use Rattle.std.proofs.Common.{◌≡◌, ◌<◌, ◌≤◌, length, take, slice_index, Some, sym, ap, subst, ◌∙◌, arith, length-take, take_all}
use Rattle.std.proofs.lemmas.Int.Digits.{digits_more, digits_value_more}
use Rattle.std.proofs.lemmas.Str.{digit_value_digit}
use Rattle.std.specs.Int.{IsInRange}
use Rattle.std.specs.Str.Parse.{AllDigits, digits_value}
use Rattle.serde_json.specs.Data.{unsigned}
use Rattle.json_tree.proofs.Digits.{digits_below, number_of-digits}
use Rattle.json_tree.proofs.number.short_digits.Goals as goal

pub overflow_mul-value : goal.overflow_mul-value
overflow_mul-value c =
    let l = c.loop-byte in
    let few : length (take l.byte-index c.args.bytes.now) ≤ 18 = omega (arith, length-take l.byte-index c.args.bytes.now) in
    omega (arith, digits_below (take l.byte-index c.args.bytes.now) 18 l.invariant.digits few, l.invariant.value)

pub overflow_add-value : goal.overflow_add-value
overflow_add-value c =
    let l = c.loop-byte in
    let few : length (take l.byte-index c.args.bytes.now) ≤ 18 = omega (arith, length-take l.byte-index c.args.bytes.now) in
    let small = digits_below (take l.byte-index c.args.bytes.now) 18 l.invariant.digits few in
    let digit : IsInRange 48 57 (slice_index c.args.bytes.now l.byte-index) = grind arith in
    omega (arith, small, l.invariant.value, digit, c.from.ensures)

pub loop-byte-preserved : goal.loop-byte-preserved
loop-byte-preserved c =
    let l = c.loop-byte in
    let within : l.byte-index < length c.args.bytes.now = omega arith in
    let digit : IsInRange 48 57 (slice_index c.args.bytes.now l.byte-index) = grind arith in
    let worth = digit_value_digit (slice_index c.args.bytes.now l.byte-index) digit in
    let more = digits_value_more 10 c.args.bytes.now l.byte-index within in
    record {
      digits = digits_more 10 c.args.bytes.now l.byte-index within l.invariant.digits (omega (arith, worth, digit));
      value = omega (arith, more, worth, l.invariant.value, c.from.ensures);
    }

pub returns : goal.returns
returns c =
    let l = c.loop-byte in
    let bs = c.args.bytes.now in
    let all : take l.byte-index bs ≡ bs = take_all l.byte-index bs (omega arith) in
    let digits = subst (AllDigits 10) all l.invariant.digits in
    let below = digits_below bs 19 digits (omega arith) in
    let is : digits_value 10 bs ≡ l.value = ap (digits_value 10) (sym all) ∙ l.invariant.value in
    number_of-digits bs digits (grind arith) (omega (arith, below)) ∙ ap (λ n. Some (unsigned n)) is
