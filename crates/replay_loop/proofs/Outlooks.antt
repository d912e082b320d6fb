-- Each line of an outlook has a word.
use Rattle.std.proofs.Common.{Bool, true, false, List, [], ◌∷◌, ◌++◌, if◌then◌else◌, map}
use Rattle.gathered_lines.proofs.Gathering.{have_both}
use Rattle.gathered_lines.specs.Through.{HaveWords}
use Rattle.gov_actions.specs.declared.tally.Tally.{Tally}
use Rattle.outlook_model.specs.Outlook.{boundary_lines, can_end, outlook_lines, tallied_lines}
use Rattle.run_model.specs.Boundary.{world_after_boundary}
use Rattle.run_model.specs.Report.{report_of}
use Rattle.run_model.specs.World.{World}
use Rattle.text_model.specs.EpochLines.{tally_words}
use Rattle.text_model.specs.Words.{Text}
use Rattle.tx_records.specs.declared.report.EpochReport.{EpochReport}

tallies_have : (tallies : List Tally) → HaveWords (map tally_words tallies)
tallies_have [] = tt
tallies_have (t ∷ tallies) = tallies_have tallies

tallied_have : (r : EpochReport) → HaveWords (tallied_lines r)
tallied_have r = tallies_have r.tallies

some_have : (b : Bool) (lines : List (List Text)) → HaveWords lines → HaveWords (if b then lines else [])
some_have true lines have = have
some_have false lines have = tt

boundary_have : (w : World) → HaveWords (boundary_lines w)
boundary_have w = some_have (can_end w) (tallied_lines (report_of w)) (tallied_have (report_of w))

pub outlook_have : (w : World) → HaveWords (outlook_lines w)
outlook_have w =
    let next : World = world_after_boundary w in
    some_have (can_end w) (tallied_lines (report_of w) ++ boundary_lines next)
    (have_both (tallied_lines (report_of w)) (boundary_lines next) (tallied_have (report_of w)) (boundary_have next))
