-- Runs of what was read are runs of records.
use Rattle.std.proofs.Common.{◌≡◌, ℕ, ◌+◌, true, false, ◌&&◌, List, [], ◌∷◌, Option, Some, None, Result, Ok, Err, if◌then◌else◌, refl, sym, ap, ◌∙◌}
use Rattle.std.proofs.lemmas.Bool.{and_parts}
use Rattle.std.specs.Prelude.{IfOk, filter_map, option_map}
use Rattle.std.specs.List.{cons_option, list_all}
use Rattle.run_model.specs.Genesis.{world_of_genesis}
use Rattle.run_model.specs.Laws as laws
use Rattle.tx_records.specs.RecordLimits.{is_within_limits}
use Rattle.run_model.specs.Runs.{world_after_all}
use Rattle.run_model.specs.Step.{acceptance_of, refusal_of, step, step_by}
use Rattle.run_model.specs.World.{World}
use Rattle.ledger_model.specs.Transaction.{accepted_as}
use Rattle.tx_records.specs.declared.record.Reading.{Reading}
use Rattle.tx_records.specs.declared.record.Reading.TheVariants.{Read, Malformed, TooLong}
use Rattle.tx_records.specs.declared.record.Record.{Record}
use Rattle.tx_records.specs.declared.record.Record.TheVariants as records
use Rattle.tx_records.specs.declared.reply.Reply.TheVariants.{Refused}
use Rattle.tx_records.specs.declared.reply.Rule.{Rule}
use Rattle.tx_records.specs.declared.tx.Scripts.{Scripts}
use Rattle.tx_records.specs.declared.tx.Scripts.TheVariants as scripts
use Rattle.byte_lines.specs.Pieces.{lines_of}
use Rattle.record_stream.specs.of_record_read.LineFaults as faults
use Rattle.record_stream.specs.of_record_read.Lines.{record_of_line}
use Rattle.replay_loop.specs.Laws.{LinesAreWithin, LinesReach, RefusedChangesNothing, SupplyStays, are_within, world_after_readings}
use Rattle.tx_records.specs.declared.limits.TheConstants.{LINE_LIMIT}
use Rattle.record_stream.specs.Records.{is_blank, is_within, reading_by, records_from}

-- ---- the World

-- the record that was read, where one was
abbrev read_record : ℕ × Reading → Option Record
read_record (n, Read r) = Some r
read_record (n, Malformed field place) = None
read_record (n, TooLong) = None

-- what was read leaves what its records leave
runs : (w : World) (rs : List (ℕ × Reading)) → world_after_readings w rs ≡ world_after_all w (filter_map read_record rs)
runs w [] = refl
runs w ((n, Malformed field place) ∷ rs) = runs w rs
runs w ((n, TooLong) ∷ rs) = runs w rs
runs w ((n, Read r) ∷ rs) = runs (step w r).0 rs

-- no acceptance is a refusal
no_refusal : (scripts : Scripts) (rule : Rule) → accepted_as scripts ≡ Refused rule → ⊥
no_refusal scripts.Absent rule e = cc
no_refusal scripts.Passed rule e = cc
no_refusal scripts.Failed rule e = cc

not_accepted : (w : World) (r : Record) (rule : Rule) → acceptance_of r ≡ Refused rule → ⊥
not_accepted w (records.Genesis g) rule e = cc
not_accepted w (records.Block slot pulse) rule e = cc
not_accepted w (records.Rewards u) rule e = cc
not_accepted w (records.Print _) rule e = cc
not_accepted w (records.Tx tx) rule e = no_refusal tx.scripts rule e

refused_stays : (w : World) (r : Record) (rule : Rule) (found : Option Rule) → (step_by found w r).1 ≡ Refused rule → (step_by found w r).0 ≡ w
refused_stays w r rule (Some other) e = refl
refused_stays w r rule None e = absurd (not_accepted w r rule e)

pub refused : RefusedChangesNothing
refused w r rule e = refused_stays w r rule (refusal_of w r) e

-- ---- what records reach

module _ (law : (line : List ℕ) → IfOk (record_of_line line) (λ r. is_within_limits r ≡ true)) where
  line_within : (found : Result Record faults.LineFault) → IfOk found (λ r. is_within_limits r ≡ true) → is_within (reading_by found) ≡ true
  line_within (Ok r) e = e
  line_within (Err faults.BadJson) e = refl
  line_within (Err faults.UnknownKind) e = refl
  line_within (Err (faults.BadField name place)) e = refl

  lines_within : (n : ℕ) (lines : List (Option (List ℕ))) → are_within (records_from n lines) ≡ true
  lines_within n [] = refl
  lines_within n (None ∷ lines) = lines_within (n + 1) lines
  lines_within n (Some line ∷ lines) =
      elim (is_blank line) as (λ b. are_within (cons_option (option_map (λ r. (n, r)) (if b then None else Some (reading_by (record_of_line line)))) (records_from (n + 1) lines)) ≡ true) [
        | true ↦ lines_within (n + 1) lines
        | false ↦ ap (λ b. b && are_within (records_from (n + 1) lines)) (line_within (record_of_line line) (law line)) ∙ lines_within (n + 1) lines
      ]

  pub within : LinesAreWithin
  within bytes = lines_within 1 (lines_of LINE_LIMIT bytes)

-- the records are within the limits, where all that was read is
reads_within : (rs : List (ℕ × Reading)) → are_within rs ≡ true → list_all is_within_limits (filter_map read_record rs) ≡ true
reads_within [] e = refl
reads_within ((n, Malformed field place) ∷ rs) e = reads_within rs e
reads_within ((n, TooLong) ∷ rs) e = reads_within rs e
reads_within ((n, Read r) ∷ rs) e =
    let h = and_parts (is_within_limits r) (are_within rs) e in
    ap (λ b. b && list_all is_within_limits (filter_map read_record rs)) h.0 ∙ reads_within rs h.1

pub reached : LinesReach
reached g rs within no_fault all = record {
  genesis = g;
  records = filter_map read_record rs;
  within = within;
  all_within = reads_within rs all;
  no_fault = no_fault;
  reached = sym (runs (world_of_genesis g) rs);
}

pub supply : laws.SupplyStays → SupplyStays
unfolding reached
supply law g rs within no_fault all = law (world_after_readings (world_of_genesis g) rs) (reached g rs within no_fault all)
