use Rattle.std.proofs.Common.{List, ◌++◌, ap, ◌∙◌}
use Rattle.checkpoint_model.specs.Checkpoint.{checkpoint_lines}
use Rattle.text_forms.specs.Lines.{joined_lines}
use Rattle.text_model.specs.Words.{Text}
use Rattle.checkpoint_print.proofs.KeptLines.{kept}
use Rattle.checkpoint_print.proofs.checkpoint.write.Goals as goal

pub returns-in-Ok : goal.returns-in-Ok
returns-in-Ok c =
    let lines : List (List Text) = checkpoint_lines c.args.s.now c.args.line in
    c.into_lines.ensures ∙ c.in-Ok.ensures.ok ∙ kept c.new-kept.result lines
    ∙ ap (λ (old : List Text). old ++ joined_lines lines) c.new-kept.ensures
