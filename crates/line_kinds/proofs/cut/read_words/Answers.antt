-- Bytes that are no text have no words.
use Rattle.std.proofs.Common.{sym, ap}
use Rattle.std.specs.Option.{option_and_then}
use Rattle.line_kinds.proofs.Spaces.{no_words}
use Rattle.line_kinds.proofs.cut.read_words.Goals as goal

pub returns-in-Err : goal.returns-in-Err
returns-in-Err g c = ap (option_and_then g.K.LineKind.reading) (sym (no_words c.args.line.now c.in-Err.ensures.cases.0))
