use Rattle.std.proofs.Common.{◌≡◌, ℕ, ◌<◌, ◌^◌, true, Option, None, ap, sym, ◌∙◌, arith, rules}
use Rattle.std.specs.Char.{is_ascii_digit}
use Rattle.std.specs.List.{list_all}
use Rattle.std.specs.Option.{option_and_then}
use Rattle.load_options.specs.Numbers as numbers
use Rattle.load_options.proofs.Reading.{parsed}
use Rattle.load_options.proofs.number.number_in.Goals as goal

pub returns-in_err-ok : goal.returns-in_err-ok
returns-in_err-ok c =
    let small : c.args.high < 2 ^ 64 = omega (arith, c.ranges.high.fits) in
    let digits : list_all is_ascii_digit c.args.text.now ≡ true = search rules in
    let none : c.from_residual.result ≡ None = search rules in
    none ∙ sym (parsed c.args.low c.args.high c.args.text.now c.parse.result small c.if-text-gt-MOST_DIGITS.false digits c.parse.ensures.value.0
    ∙ ap (λ (o : Option ℕ). option_and_then (numbers.within c.args.low c.args.high) o) (sym c.in_err-ok.ensures.value))
