-- The tallies of two boundaries in a row: the frozen votes count at the first, today's votes at the
-- second. (Own; the boundaries are those of the formal specification)
use Rattle.std.specs.Prelude.{ℕ, Bool, List, [], ◌∷◌, ◌++◌, ◌^◌, Option, if◌then◌else◌, map, nat_lt, option_map}
use Rattle.text_forms.specs.of_run_model.Boundary.{world_after_boundary}
use Rattle.text_forms.specs.of_run_model.Report.{report_of}
use Rattle.text_forms.specs.of_run_model.World.{World}
use Rattle.text_forms.specs.Lines.{text_of_bare}
use Rattle.text_forms.specs.Worlds.{world_of_readings}
use Rattle.text_forms.specs.of_text_model.EpochLines.{epoch_words, tally_words}
use Rattle.text_forms.specs.of_text_model.Words.{Text}
use Rattle.tx_records.specs.declared.record.Reading.{Reading}
use Rattle.tx_records.specs.declared.report.EpochReport.{EpochReport}

-- the epoch that begins, and each tally
abbrev pub tallied_lines : EpochReport → List (List Text)
tallied_lines r = epoch_words r ∷ map tally_words r.tallies

-- an epoch can end whose number is below 2^62
abbrev pub can_end : World → Bool
can_end w = nat_lt w.ledger.epoch (2 ^ 62)

-- if the epoch ended now
abbrev pub boundary_lines : World → List (List Text)
boundary_lines w = if can_end w then tallied_lines (report_of w) else []

-- and the next one, too, with no record between
abbrev pub outlook_lines : World → List (List Text)
outlook_lines w = if can_end w then tallied_lines (report_of w) ++ boundary_lines (world_after_boundary w) else []

-- the text of the command, where the records begin with a genesis that breaks no rule of one
abbrev pub outlook_of_readings : List (ℕ × Reading) → Option Text
outlook_of_readings rs = option_map (λ (w : World). text_of_bare (outlook_lines w)) (world_of_readings rs)
