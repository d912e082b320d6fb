-- What the line read as tells whether it is the first one of a checkpoint.
use Rattle.byte_lines.specs.declared.lines.Line.{Line}
use Rattle.line_giver.specs.Giving.{Sees}
use Rattle.line_kinds.specs.Kinds.{ReadsLine}
use Rattle.state_kinds.specs.Heads.{head_line, is_head_line}
use Rattle.std.proofs.Common.{subst}
use Rattle.text_model.specs.Words.{Text}
use Rattle.state_reader.proofs.Heads.{head_seen}
use Rattle.state_reader.proofs.head.has_head.Goals as goal

pub returns-in_ok-read_line-in-Whole-clause-is : goal.returns-in_ok-read_line-in-Whole-clause-is
returns-in_ok-read_line-in-Whole-clause-is g c =
    let read = c.in_ok-read_line-in-Whole.field-0 in
    let giving = g.G.LineGiver.giving c.peek.new.self in
    let sees = subst (λ (line : Line). Sees giving line) c.in-Whole.is c.in_ok-peek.ensures.sees in
    let reads = subst (λ (t : Text). ReadsLine is_head_line head_line t read) c.text.ensures c.in_ok-read_line-in-Whole.ensures in
    rw c.is_some.ensures (head_seen giving sees read reads)
