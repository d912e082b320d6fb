-- The first line of a benchmark stream, computed.
use Rattle.std.proofs.Common.{◌≡◌, Bool, true, false, Some, Result, Ok, is_none, refl}
use Rattle.std.specs.Char.{encode_utf8}
use Rattle.std.specs.Fmt.{digits}
use Rattle.std.specs.Str.{chars, is_utf8}
use Rattle.hex.proofs.OnLiterals.{hex_on_literals}
use Rattle.serde_json.proofs.OnLiterals.{serde_json_on_literals}
use Rattle.json_fields.specs.Entries.{both_in}
use Rattle.json_fields.specs.Kinds.{ratio_in, unit_in}
use Rattle.record_stream.specs.of_action_read.Params.{fees_in, governance_group_in, incomes_in, network_group_in, technical_group_in, update_in}
use Rattle.record_stream.specs.of_action_read.Whole.{fee_params_of, governance_params_of, income_params_of, network_params_of, params_of_update, technical_params_of}
use Rattle.byte_lines.specs.Pieces.{has_feed, kept}
use Rattle.load_model.specs.Genesis.{genesis_line}
use Rattle.record_stream.specs.of_record_read.Entries.{committee_in, genesis_drep_in, genesis_output_in, genesis_pool_in, member_in}
use Rattle.record_stream.specs.of_record_read.LineFaults.{LineFault}
use Rattle.record_stream.specs.of_record_read.Lines.{record_of_line}
use Rattle.record_stream.specs.of_record_read.Records.{founding_in, funds_in, genesis_in, registered_in, times_in}
use Rattle.record_stream.specs.Records.{is_blank}
use Rattle.run_model.specs.Genesis.{genesis_fault}
use Rattle.tx_records.specs.declared.limits.TheConstants.{LINE_LIMIT}
use Rattle.tx_records.specs.declared.record.Record.{Record}
use Rattle.tx_records.specs.declared.record.Record.TheVariants as records

-- whether what a line reads as is a genesis that breaks no rule
abbrev pub is_sound : Result Record LineFault → Bool
is_sound (Ok (records.Genesis g)) = is_none (genesis_fault g)
is_sound _ = false

pub line_is_sound : is_sound (record_of_line genesis_line) ≡ true
unfolding digits is_utf8 chars encode_utf8 serde_json_on_literals hex_on_literals both_in ratio_in unit_in fees_in governance_group_in incomes_in network_group_in technical_group_in update_in fee_params_of governance_params_of income_params_of network_params_of params_of_update technical_params_of committee_in genesis_drep_in genesis_output_in genesis_pool_in member_in founding_in funds_in genesis_in registered_in times_in
line_is_sound = refl

pub line_has_no_feed : has_feed genesis_line ≡ false
unfolding digits
line_has_no_feed = refl

pub line_is_kept : kept LINE_LIMIT genesis_line ≡ Some genesis_line
unfolding digits
line_is_kept = refl

pub line_is_not_blank : is_blank genesis_line ≡ false
unfolding digits
line_is_not_blank = refl
