-- Bytes that are no text have no parts.
use Rattle.std.proofs.Common.{sym}
use Rattle.action_kinds.proofs.PartLaws.{no_parts}
use Rattle.action_kinds.proofs.text.read_parts.Goals as goal

pub returns-in-Err : goal.returns-in-Err
returns-in-Err c = sym (no_parts c.args.line.now c.in-Err.ensures.cases.0)
