-- The first record of a benchmark stream.
use Rattle.std.proofs.Common.{◌≡◌, ℕ, true, false, List, [], ◌∷◌, ◌++◌, Option, Some, None, Result, Ok, Err, is_none, flat_map, map, refl, ap, ◌∙◌, append_assoc}
use Rattle.std.specs.List.{range_with_len}
use Rattle.byte_lines.specs.Pieces.{has_feed, kept, line_feed, lines_of}
use Rattle.byte_lines.proofs.PieceLemmas.{pieces_of-feed}
use Rattle.load_model.specs.Amounts.{registration_count}
use Rattle.load_model.specs.Genesis.{genesis_line}
use Rattle.load_model.specs.Stream.{bytes_of_lines, bytes_of_load, epoch_lines, registration_line}
use Rattle.record_stream.specs.of_record_read.LineFaults.{LineFault}
use Rattle.record_stream.specs.of_record_read.Lines.{record_of_line}
use Rattle.record_stream.specs.Records.{is_blank, records_from, records_of}
use Rattle.run_model.specs.Genesis.{genesis_fault}
use Rattle.tx_records.specs.declared.genesis.Genesis.{Genesis}
use Rattle.tx_records.specs.declared.limits.TheConstants.{LINE_LIMIT}
use Rattle.tx_records.specs.declared.record.Reading.TheVariants.{Read}
use Rattle.tx_records.specs.declared.record.Record.{Record}
use Rattle.tx_records.specs.declared.record.Record.TheVariants as records
use Rattle.load_laws.specs.Laws.{StreamsBeginWell}
use Rattle.load_laws.proofs.Line.{is_sound, line_has_no_feed, line_is_kept, line_is_not_blank, line_is_sound}

none_is : {A : Type 0} (o : Option A) → is_none o ≡ true → o ≡ None
none_is None none = refl
none_is (Some x) none = cc

-- what reads as a genesis that breaks no rule is one
genesis_of : (r : Result Record LineFault) → is_sound r ≡ true → (g : Genesis) × (r ≡ Ok (records.Genesis g)) × (genesis_fault g ≡ None)
genesis_of (Ok (records.Genesis g)) sound = (g, refl, none_is (genesis_fault g) sound)
genesis_of (Ok (records.Block slot pulse)) sound = cc
genesis_of (Ok (records.Rewards u)) sound = cc
genesis_of (Ok (records.Tx tx)) sound = cc
genesis_of (Ok (records.Print what)) sound = cc
genesis_of (Err fault) sound = cc

-- the record of the first line is before those of the others
first_record : (line rest : List ℕ) (r : Record) → has_feed line ≡ false → kept LINE_LIMIT line ≡ Some line → is_blank line ≡ false → record_of_line line ≡ Ok r
    → records_of (line ++ line_feed ∷ rest) ≡ (1, Read r) ∷ records_from 2 (lines_of LINE_LIMIT rest)
first_record line rest r no_feed is_kept not_blank reads =
    rw (pieces_of-feed line rest no_feed, is_kept, not_blank, reads) refl

-- the bytes after those of the first line and its line feed
abbrev bytes_after : ℕ → ℕ → ℕ → List ℕ
bytes_after seed accounts epochs =
    bytes_of_lines (map (registration_line seed accounts) (range_with_len 0 (registration_count accounts)) ++ flat_map (epoch_lines seed accounts) (range_with_len 0 epochs))

bytes_begin : (seed accounts epochs : ℕ) → bytes_of_load seed accounts epochs ≡ genesis_line ++ line_feed ∷ bytes_after seed accounts epochs
bytes_begin seed accounts epochs = append_assoc genesis_line (line_feed ∷ []) (bytes_after seed accounts epochs)

pub streams_begin_well : StreamsBeginWell
streams_begin_well seed accounts epochs =
    let g = genesis_of (record_of_line genesis_line) line_is_sound in
    let rest : List ℕ = bytes_after seed accounts epochs in
    record {
      genesis = g.0;
      others = records_from 2 (lines_of LINE_LIMIT rest);
      start =
          ap records_of (bytes_begin seed accounts epochs)
          ∙ first_record genesis_line rest (records.Genesis g.0) line_has_no_feed line_is_kept line_is_not_blank g.1;
      no_fault = g.2;
    }
