use Rattle.std.proofs.Common.{List, [], ◌∷◌, ◌++◌, map, ap, ◌∙◌}
use Rattle.certificate_model.specs.Certificate.{snapshot_lines}
use Rattle.text_forms.specs.Lines.{joined}
use Rattle.text_model.specs.Words.{Text}
use Rattle.certificate_print.proofs.Words.{bare_kept, snapshot_has}
use Rattle.certificate_print.proofs.lines.snapshot.Goals as goal

pub returns-in-Ok : goal.returns-in-Ok
returns-in-Ok c =
    let f = c.args.s.now.frozen in
    c.into_lines.ensures ∙ c.in-Ok.ensures.ok ∙ bare_kept c.new-list.result (snapshot_lines f) (snapshot_has f)
    ∙ ap (λ (kept : List Text). kept ++ map (λ words. joined words ++ 10 ∷ []) (snapshot_lines f)) c.new-list.ensures
