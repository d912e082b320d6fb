-- What bytes say can be followed.
use Rattle.std.proofs.Common.{◌≡◌, ◌∙◌, ◌+◌, ◌&&◌, ℕ, Bool, true, false, List, [], ◌∷◌, Option, Some, None, Result, Ok, Err, IfOk, ap, if◌then◌else◌, refl, subst}
use Rattle.std.proofs.lemmas.Bool.{and_from, and_parts}
use Rattle.std.specs.List.{cons_option, list_all}
use Rattle.std.specs.Prelude.{option_map}
use Rattle.byte_lines.specs.Pieces.{lines_of}
use Rattle.line_runs.specs.Plays.{records_from}
use Rattle.record_read.specs.LineFaults as faults
use Rattle.record_read.specs.Lines.{record_of_line}
use Rattle.record_stream.specs.Records.{is_blank}
use Rattle.tx_records.specs.RecordLimits as record_limits
use Rattle.tx_records.specs.declared.limits.TheConstants.{LINE_LIMIT}
use Rattle.tx_records.specs.declared.record.Record.TheVariants as kinds
use Rattle.follow_records.specs.declared.record.FollowReading.{FollowReading}
use Rattle.follow_records.specs.declared.record.FollowReading.TheVariants as readings
use Rattle.follow_records.specs.declared.record.FollowRecord.{FollowRecord}
use Rattle.follow_records.specs.declared.record.FollowRecord.TheVariants.{Plain}
use Rattle.follow_model.specs.Follow.{follow_step}
use Rattle.follow_model.specs.Laws.{is_within_limits}
use Rattle.follow_read.specs.Lines.{follow_record_of_line}
use Rattle.follow_read.proofs.FollowsWithin.{follow_within}
use Rattle.follow_loop.specs.Laws.{LinesAreFollowed, ReadingsLeaveChain}
use Rattle.follow_loop.specs.Readings.{follow_reading_by, follow_reading_of_line, is_reading_within, records_read}

-- ---- the chain

pub leave_chain : ReadingsLeaveChain
leave_chain start c [] = refl
leave_chain start c ((n, readings.Read r) ∷ rs) = leave_chain start (follow_step start c r).0 rs
leave_chain start c ((n, readings.Malformed field place) ∷ rs) = leave_chain start c rs
leave_chain start c ((n, readings.TooLong) ∷ rs) = leave_chain start c rs

-- ---- what bytes say is within the limits

abbrev are_within : List (ℕ × FollowReading) → Bool
are_within rs = list_all (λ (r : ℕ × FollowReading). is_reading_within r.1) rs

module _ (law : (line : List ℕ) → IfOk (record_of_line line) (λ r. record_limits.is_within_limits r ≡ true)) where
  line_within : (line : List ℕ) (found : Result FollowRecord faults.LineFault) → follow_record_of_line line ≡ found → is_reading_within (follow_reading_by found) ≡ true
  line_within line (Ok r) is = follow_within line (Ok r) (law line) is
  line_within line (Err faults.BadJson) is = refl
  line_within line (Err faults.UnknownKind) is = refl
  line_within line (Err (faults.BadField name place)) is = refl

  lines_within : (n : ℕ) (lines : List (Option (List ℕ))) → are_within (records_from follow_reading_of_line n lines) ≡ true
  lines_within n [] = refl
  lines_within n (None ∷ lines) = lines_within (n + 1) lines
  lines_within n (Some line ∷ lines) =
      elim (is_blank line) as (λ b. are_within (cons_option (option_map (λ r. (n, r)) (if b then None else Some (follow_reading_by (follow_record_of_line line)))) (records_from follow_reading_of_line (n + 1) lines)) ≡ true) [
        | true ↦ lines_within (n + 1) lines
        | false ↦ ap (λ b. b && are_within (records_from follow_reading_of_line (n + 1) lines)) (line_within line (follow_record_of_line line) refl) ∙ lines_within (n + 1) lines
      ]

  reads_within : (rs : List (ℕ × FollowReading)) → are_within rs ≡ true → list_all is_within_limits (records_read rs) ≡ true
  reads_within [] e = refl
  reads_within ((n, readings.Malformed field place) ∷ rs) e = reads_within rs e
  reads_within ((n, readings.TooLong) ∷ rs) e = reads_within rs e
  reads_within ((n, readings.Read r) ∷ rs) e =
      let h = and_parts (is_within_limits r) (are_within rs) e in
      and_from (is_within_limits r) (list_all is_within_limits (records_read rs)) h.0 (reads_within rs h.1)

  pub followed : LinesAreFollowed
  followed bytes n g rs is no_fault =
      let all : are_within ((n, readings.Read (Plain (kinds.Genesis g))) ∷ rs) ≡ true =
      subst (λ (xs : List (ℕ × FollowReading)). are_within xs ≡ true) is (lines_within 1 (lines_of LINE_LIMIT bytes)) in
      let h = and_parts (is_within_limits (Plain (kinds.Genesis g))) (are_within rs) all in
      record { within = h.0; no_fault = no_fault; all_within = reads_within rs h.1 }
