use Rattle.line_giver.specs.OfList.{texts_of, whole_lines}
use Rattle.std.proofs.Common.{refl}
use Rattle.tally_cert.proofs.Texts.{answers_texts}
use Rattle.tally_cert.proofs.answer.check.Goals as goal

pub returns-in-Ok : goal.returns-in-Ok
returns-in-Ok c = answers_texts (texts_of c.args.lines.now) c.in-Ok.answer (c.in-Ok.ensures.right (whole_lines (texts_of c.args.lines.now)) refl)
