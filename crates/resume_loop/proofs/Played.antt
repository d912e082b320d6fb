-- What a resume writes of records, and of no record it stops.
use Rattle.std.proofs.Common.{◌≡◌, ℕ, ◌+◌, ◌-◌, ◌≤◌, List, [], ◌∷◌, ◌++◌, Option, Some, None, Ok, ap, append_assoc, arith, drop, length, sym, ◌∙◌}
use Rattle.std.specs.Prelude.{fold, option_map}
use Rattle.std.specs.List.{cons_option}
use Rattle.std.proofs.lemmas.List.{append-nil}
use Rattle.byte_lines.specs.Pieces.{lines_of}
use Rattle.line_runs.specs.Plays.{Played, ended, records_from, with_record}
use Rattle.line_runs.specs.Runs.{ended_in, played_in}
use Rattle.record_stream.specs.Records.{reading_of_line}
use Rattle.run_model.specs.World.{World}
use Rattle.text_forms.specs.Worlds.{world_after_readings}
use Rattle.text_model.specs.Runs.{reading_lines, text_from, text_of_lines, world_after_reading}
use Rattle.text_model.specs.Words.{Text}
use Rattle.tx_records.specs.declared.limits.TheConstants.{LINE_LIMIT}
use Rattle.tx_records.specs.declared.record.Reading.{Reading}
use Rattle.resume_loop.specs.Plays.{Resumed, resumed_play, resumed_run}
use Rattle.resume_loop.specs.declared.fault.NoCheckpoint.{NoCheckpoint}

-- the records of lines, the first of which has this number
abbrev pub numbered : ℕ → List (Option Text) → List (ℕ × Reading)
numbered n lines = records_from reading_of_line n lines

abbrev Comes : Type 0
Comes = Played Resumed NoCheckpoint

-- what a resume comes to, behind a text
abbrev pub resumed_text : List ℕ → Resumed → List (ℕ × Reading) → Comes
resumed_text text s rs = record { text = text ++ text_from s.world rs; stand = Ok (record s { world = world_after_readings s.world rs }) }

-- the number of the next line, counted from the checkpoint's line on
next : (passed line n m : ℕ) → passed ≤ n → (n - passed) + line ≡ m → ((n + 1) - passed) + line ≡ m + 1
next passed line n m less is = omega (arith, less, is)

-- the text of a record of a line of this number, and the state after it
abbrev told : ℕ → Resumed → Reading → List ℕ
told n s r = text_of_lines n (reading_lines s.world r)

abbrev after : Resumed → Reading → Resumed
after s r = record s { world = world_after_reading s.world r }

-- what a resume comes to behind a text
abbrev from_on : List ℕ → Resumed → List (ℕ × Reading) → Comes
from_on text s rs = fold (with_record resumed_play) (record { text = text; stand = Ok s }) rs

-- by what the first line says
said_on : (text : List ℕ) (s : Resumed) (n m : ℕ) (ls : List (Option Text)) → (n - s.passed) + s.line ≡ m → (said : Option Reading)
    → from_on text s (numbered (n + 1) ls) ≡ resumed_text text s (numbered (m + 1) ls)
    → ((r : Reading) → from_on (text ++ told m s r) (after s r) (numbered (n + 1) ls) ≡ resumed_text (text ++ told m s r) (after s r) (numbered (m + 1) ls))
    → from_on text s (cons_option (option_map (λ r. (n, r)) said) (numbered (n + 1) ls)) ≡ resumed_text text s (cons_option (option_map (λ r. (m, r)) said) (numbered (m + 1) ls))
said_on text s n m ls is None none some = none
said_on text s n m ls is (Some r) none some =
    ap (λ (k : ℕ). from_on (text ++ told k s r) (after s r) (numbered (n + 1) ls)) is
    ∙ some r
    ∙ ap (λ (t : List ℕ). record { text = t; stand = Ok (record s { world = world_after_readings (after s r).world (numbered (m + 1) ls) }) }) (append_assoc text (told m s r) (text_from (after s r).world (numbered (m + 1) ls)))

pub goes_on : (text : List ℕ) (s : Resumed) (n m : ℕ) (lines : List (Option Text)) → s.passed ≤ n → (n - s.passed) + s.line ≡ m
    → from_on text s (numbered n lines) ≡ resumed_text text s (numbered m lines)
goes_on text s n m [] less is = ap (λ (t : List ℕ). record { text = t; stand = Ok s }) (sym (append-nil text))
goes_on text s n m (l ∷ ls) less is =
    let more : s.passed ≤ n + 1 = omega (arith, less) in
    let then : ((n + 1) - s.passed) + s.line ≡ m + 1 = next s.passed s.line n m less is in
    said_on text s n m ls is (reading_of_line l)
    (goes_on text s (n + 1) (m + 1) ls more then)
    (λ r. goes_on (text ++ told m s r) (after s r) (n + 1) (m + 1) ls more then)

-- over the lines of bytes behind the checkpoint
pub resumed_in : (passed : ℕ) (w : World) (line : ℕ) (bytes : List ℕ)
    → played_in (resumed_run passed w line) bytes
    ≡ resumed_text [] (record { world = w; passed = passed; line = line }) (numbered (line + 1) (drop passed (lines_of LINE_LIMIT bytes)))
resumed_in passed w line bytes =
    goes_on [] (record { world = w; passed = passed; line = line }) (passed + 1) (line + 1) (drop passed (lines_of LINE_LIMIT bytes)) (omega arith) (omega arith)

-- and at the end
pub resumed_to_end : (passed : ℕ) (w : World) (line : ℕ) (bytes : List ℕ)
    → ended_in (resumed_run passed w line) bytes ≡ record { text = text_from w (numbered (line + 1) (drop passed (lines_of LINE_LIMIT bytes))); stand = Ok tt }
resumed_to_end passed w line bytes =
    ap (λ (x : Comes). ended resumed_play (length (lines_of LINE_LIMIT bytes)) x) (resumed_in passed w line bytes)
    ∙ ap (λ (t : List ℕ). record { text = t; stand = Ok tt }) (append-nil (text_from w (numbered (line + 1) (drop passed (lines_of LINE_LIMIT bytes)))))
