use Rattle.std.proofs.Common.{◌≡◌, Some}
use Rattle.byte_lines.specs.Progress.{HasRead}
use Rattle.line_giver.specs.OfList.{texts_of, whole_lines}
use Rattle.tx_records.specs.declared.limits.TheConstants.{LINE_LIMIT}
use Rattle.embedded.proofs.resumed.lines_of.Given as goal

abbrev pub invariant-loop : goal.invariant-loop
invariant-loop l =
    HasRead l.fn.text l.reader (Some l.source.left) (whole_lines (texts_of l.lines.items))
    × (l.reader.line_max ≡ LINE_LIMIT)
