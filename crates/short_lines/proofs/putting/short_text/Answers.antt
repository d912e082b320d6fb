use Rattle.std.proofs.Common.{List, ◌++◌, map, ap, ◌∙◌}
use Rattle.text_model.specs.Words.{Text, line_of}
use Rattle.shortfall_model.specs.ShortLines.{short_lines}
use Rattle.report.proofs.Puts.{kept_lines}
use Rattle.short_lines.proofs.putting.short_text.Goals as goal

pub returns-in-Ok : goal.returns-in-Ok
returns-in-Ok c =
    let lines : List (List Text) = short_lines c.args.id.now c.args.short.now in
    c.into_lines.ensures ∙ c.in-Ok.ensures.ok ∙ kept_lines c.args.line c.new-list.result lines
    ∙ ap (λ (kept : List Text). kept ++ map (line_of c.args.line) lines) c.new-list.ensures
