-- What was read is compared with its line.
use Rattle.std.proofs.Common.{◌≡◌, ◌≢◌, Some, None, sym, ◌∙◌, rules}
use Rattle.text_forms.specs.Lines.{joined}
use Rattle.action_kinds.specs.Lines.{action_line, item_of}
use Rattle.action_kinds.proofs.LineLaws.{reads_none, reads_other, reads_some}
use Rattle.action_kinds.proofs.line.ActionLinesLineReader.read_line.Goals as goal

pub returns-in_default : goal.returns-in_default
returns-in_default c =
    let none : item_of c.args.line.now ≡ None = search rules in
    reads_none none

pub returns-then-eq : goal.returns-then-eq
returns-then-eq c =
    let read : item_of c.args.line.now ≡ Some c.in-Some.item = search rules in
    let made : c.as_slice.result.now ≡ joined (action_line c.in-Some.item) = search rules in
    let same : c.as_slice.result.now ≡ c.args.line.now = search rules in
    reads_some c.in-Some.item read (sym made ∙ same)

pub returns-else-eq : goal.returns-else-eq
returns-else-eq c =
    let read : item_of c.args.line.now ≡ Some c.in-Some.item = search rules in
    let made : c.as_slice.result.now ≡ joined (action_line c.in-Some.item) = search rules in
    let other : c.as_slice.result.now ≢ c.args.line.now = search rules in
    reads_other c.in-Some.item read (λ e. other (made ∙ e))
