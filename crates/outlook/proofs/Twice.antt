-- The lines of two boundaries are those of each.
use Rattle.std.proofs.Common.{◌≡◌, Bool, true, List, [], ◌++◌, ap, sym, ◌∙◌, if◌then◌else◌}
use Rattle.outlook_model.specs.Outlook.{boundary_lines, can_end, outlook_lines, tallied_lines}
use Rattle.run_model.specs.Boundary.{world_after_boundary}
use Rattle.run_model.specs.Report.{report_of}
use Rattle.run_model.specs.World.{World}
use Rattle.text_model.specs.Words.{Text}
use Rattle.tx_records.specs.declared.report.EpochReport.{EpochReport}

pub twice : (w next : World) (r : EpochReport) → can_end w ≡ true → next ≡ world_after_boundary w → r ≡ report_of w
    → tallied_lines r ++ boundary_lines next ≡ outlook_lines w
twice w next r can after report =
    let all : List (List Text) = tallied_lines (report_of w) ++ boundary_lines (world_after_boundary w) in
    ap (λ (x : EpochReport). tallied_lines x ++ boundary_lines next) report
    ∙ ap (λ (v : World). tallied_lines (report_of w) ++ boundary_lines v) after
    ∙ sym (ap (λ (b : Bool). if b then all else []) can)
