use Rattle.std.proofs.Common.{◌≡◌, true, sym, ◌∙◌, rules}
use Rattle.std.specs.Char.{is_ascii_digit}
use Rattle.std.specs.List.{list_all}
use Rattle.line_kinds.proofs.Digits.{parsed}
use Rattle.line_kinds.proofs.numbers.read_number.Goals as goal

pub returns : goal.returns
returns c =
    let digits : list_all is_ascii_digit c.args.text.now ≡ true = search rules in
    c.ok.ensures.value ∙ sym (parsed c.args.text.now c.parse.result c.if-text-gt-MOST_DIGITS.false digits c.parse.ensures.value.0)
