use Rattle.std.proofs.Common.{List, ◌++◌, map, ap, ◌∙◌}
use Rattle.state_print.specs.Views.{shown_of_view}
use Rattle.text_model.specs.StateLines.{lines_of_shown}
use Rattle.text_model.specs.Words.{Text, line_of}
use Rattle.report.proofs.Puts.{kept_lines}
use Rattle.state_print.proofs.state.state_text.Goals as goal

pub returns-in-Ok : goal.returns-in-Ok
returns-in-Ok c =
    let lines : List (List Text) = lines_of_shown (shown_of_view c.args.state.now) in
    c.into_lines.ensures ∙ c.in-Ok.ensures.ok ∙ kept_lines c.args.line c.new-list.result lines
    ∙ ap (λ (kept : List Text). kept ++ map (line_of c.args.line) lines) c.new-list.ensures
