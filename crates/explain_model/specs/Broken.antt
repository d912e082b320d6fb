-- Every rule that a record breaks. (Own; the rules are those of a refusal)
use Rattle.std.specs.Prelude.{true, List, [], ◌∷◌, None, Some}
use Rattle.text_forms.specs.of_run_model.Step.{block_checks, reward_checks}
use Rattle.text_forms.specs.of_run_model.World.{World}
use Rattle.text_forms.specs.of_ledger_model.Broken.{broken_rules}
use Rattle.text_forms.specs.of_ledger_model.Checks.{breaks, broken_among}
use Rattle.text_forms.specs.of_tx_records.declared.record.Reading.{Reading}
use Rattle.text_forms.specs.of_tx_records.declared.record.Reading.TheVariants.{Read, Malformed, TooLong}
use Rattle.text_forms.specs.of_tx_records.declared.record.Record.{Record}
use Rattle.text_forms.specs.of_tx_records.declared.record.Record.TheVariants as records
use Rattle.text_forms.specs.of_tx_records.declared.reply.Rule.{Rule}
use Rattle.text_forms.specs.of_tx_records.declared.rules.TheConstants.{GENESIS_AGAIN, MALFORMED, TOO_LONG}
use Rattle.text_forms.specs.of_text_model.Runs.{line_rule}

-- all rules that the record breaks, in order
abbrev pub broken_by : World → Record → List Rule
broken_by w (records.Genesis g) = broken_among (breaks GENESIS_AGAIN true ∷ [])
broken_by w (records.Block slot pulse) = broken_among (block_checks w.ledger slot pulse)
broken_by w (records.Rewards u) = broken_among (reward_checks w u)
broken_by w (records.Tx tx) = broken_rules w.ledger tx
broken_by w (records.Print what) = []

-- all that the reading of a line breaks
abbrev pub broken_by_reading : World → Reading → List Rule
broken_by_reading w (Read r) = broken_by w r
broken_by_reading w (Malformed field place) = line_rule MALFORMED (Some field) place ∷ []
broken_by_reading w TooLong = line_rule TOO_LONG None None ∷ []
