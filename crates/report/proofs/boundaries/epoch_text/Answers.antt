use Rattle.std.proofs.Common.{List, ◌++◌, map, ap, ◌∙◌}
use Rattle.text_model.specs.EpochLines.{epoch_lines}
use Rattle.text_model.specs.Words.{Text, line_of}
use Rattle.report.proofs.Puts.{kept_lines}
use Rattle.report.proofs.boundaries.epoch_text.Goals as goal

pub returns-in-Ok : goal.returns-in-Ok
returns-in-Ok c =
    let lines : List (List Text) = epoch_lines c.args.report.now c.args.pots.now in
    c.into_lines.ensures ∙ c.in-Ok.ensures.ok ∙ kept_lines c.args.line c.new-list.result lines
    ∙ ap (λ (kept : List Text). kept ++ map (line_of c.args.line) lines) c.new-list.ensures
