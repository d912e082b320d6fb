use Rattle.std.proofs.Common.{Some, ◌∙◌}
use Rattle.line_giver.specs.OfList.{texts_of, whole_lines}
use Rattle.embedded.proofs.Cut.{long_cut, read_more, whole_cut}
use Rattle.embedded.proofs.resumed.lines_of.Goals as goal

pub returns-in-Ok-TooLong : goal.returns-in-Ok-TooLong
returns-in-Ok-TooLong c =
    let l = c.in-Ok-TooLong in
    let e = l.ensures in
    long_cut c.args.text.now c.next.new.self (Some c.next.new.source.left) (texts_of c.loop.lines.items) l.field-0 l.field-0-is c.whole_lines.ensures.first_of_all
    (e.reads c.args.text.now (whole_lines (texts_of c.loop.lines.items)) c.loop.invariant.0) (e.advances.line_max ∙ c.loop.invariant.1) e.answer.too_much

pub returns-in-Ok-End : goal.returns-in-Ok-End
returns-in-Ok-End c =
    let l = c.in-Ok-End in
    let e = l.ensures in
    whole_cut c.args.text.now c.next.new.self (Some c.next.new.source.left) (texts_of c.loop.lines.items) l.field-0 l.field-0-is c.whole_lines.ensures.all
    (e.reads c.args.text.now (whole_lines (texts_of c.loop.lines.items)) c.loop.invariant.0) (e.advances.line_max ∙ c.loop.invariant.1) e.answer.end e.answer.too_much

pub loop-preserved : goal.loop-preserved
loop-preserved c =
    let l = c.in-Ok-Whole in
    let e = l.ensures in (
      read_more c.args.text.now c.next.new.self (Some c.next.new.source.left) c.loop.lines.items c.push.new.self.items c.in_ok-copied-in-Ok-Whole.field-0 l.field-0 l.field-0-is
          (e.reads c.args.text.now (whole_lines (texts_of c.loop.lines.items)) c.loop.invariant.0) c.in_ok-push-in-Ok-Whole.ensures.items (c.in_ok-copied-in-Ok-Whole.ensures ∙ c.text.ensures.line),
      e.advances.line_max ∙ c.loop.invariant.1,
    )
