-- The texts of a session are the text of a run. (Own)
use Rattle.std.specs.Prelude.{◌≡◌, ℕ, ◌+◌, ◌++◌, List, [], ◌∷◌, Option, Some, None, IfSome, map}
use Rattle.byte_lines.specs.Pieces.{kept}
use Rattle.record_stream.specs.Records.{records_from}
use Rattle.run_model.specs.World.{World}
use Rattle.text_model.specs.Runs.{text_of_readings, world_after_reading}
use Rattle.text_model.specs.Words.{Text}
use Rattle.tx_records.specs.declared.limits.TheConstants.{LINE_LIMIT}
use Rattle.tx_records.specs.declared.record.Reading.{Reading}
use Rattle.embedded.specs.Standing.{Begun, Standing, after_line, said_by}

-- the World after what was read of a line
abbrev pub world_after_said : World → Option Reading → World
world_after_said w None = w
world_after_said w (Some r) = world_after_reading w r

-- the World after a line
abbrev pub world_after_line : World → List ℕ → World
world_after_line w line = world_after_said w (said_by line)

-- a line of any number leaves it
abbrev pub LineLeaves : Type 0
LineLeaves = (w : World) (n : ℕ) (line : List ℕ) → (after_line w n line).world ≡ Some (world_after_line w line)

-- the texts of lines that are recorded one after another, behind the line of this number
abbrev pub texts_after : World → ℕ → List (List ℕ) → Text
texts_after w n [] = []
texts_after w n (line ∷ lines) = (after_line w (n + 1) line).text ++ texts_after (world_after_line w line) (n + 1) lines

-- the records of lines; the first line has this number
abbrev pub records_in : ℕ → List (List ℕ) → List (ℕ × Reading)
records_in n lines = records_from n (map (kept LINE_LIMIT) lines)

-- the text of a genesis that begins a session, and then the texts of the lines that it records, are
-- the text of the run over all these lines
abbrev pub SessionIsRun : Type 0
SessionIsRun = (n : ℕ) (genesis : List ℕ) (lines : List (List ℕ)) (s : Standing) → Begun n genesis s
    → IfSome s.world (λ w. text_of_readings (records_in n (genesis ∷ lines)) ≡ Some (s.text ++ texts_after w n lines))
