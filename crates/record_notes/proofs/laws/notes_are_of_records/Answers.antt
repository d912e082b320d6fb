use Rattle.std.proofs.Common.{◌≡◌, ℕ, List, [], ◌∷◌, Option, Some, None, refl, ap, filter_map, option_map}
use Rattle.std.specs.List.{cons_option, enumerate_from}
use Rattle.byte_lines.specs.Pieces.{lines_of}
use Rattle.tx_records.specs.declared.limits.TheConstants.{LINE_LIMIT}
use Rattle.tx_records.specs.declared.record.Reading.{Reading}
use Rattle.record_stream.specs.Records.{reading_of_line, record_of}
use Rattle.record_notes.specs.Laws.{readings_of}
use Rattle.record_notes.specs.Lines.{Noted, noted_of, said_of_line}
use Rattle.record_notes.proofs.laws.notes_are_of_records.Goals as goal

-- a line more, by what is read of it
one_more : (n : ℕ) (line : Option (List ℕ)) (o : Option Reading) (ns : List (ℕ × Noted)) (rs : List (ℕ × Reading)) → readings_of ns ≡ rs
    → readings_of (cons_option (option_map (λ (r : Noted). (n, r)) (option_map (λ (r : Reading). record { reading = r; said = said_of_line r line }) o)) ns)
    ≡ cons_option (option_map (λ (r : Reading). (n, r)) o) rs
one_more n line None ns rs same = same
one_more n line (Some r) ns rs same = ap (λ (l : List (ℕ × Reading)). (n, r) ∷ l) same

-- line by line
each : (lines : List (ℕ × Option (List ℕ))) → readings_of (filter_map noted_of lines) ≡ filter_map record_of lines
each [] = refl
each (line ∷ lines) = one_more line.0 line.1 (reading_of_line line.1) (filter_map noted_of lines) (filter_map record_of lines) (each lines)

pub returns : goal.returns
returns c = λ bytes. each (enumerate_from 1 (lines_of LINE_LIMIT bytes))
