-- The law on the lengths of actions in lines. (Own)
use Rattle.std.specs.Prelude.{◌≡◌, ℕ, ◌+◌, Bool, IfOk, List, length, nat_le, true}
use Rattle.std.specs.List.{list_all}
use Rattle.gov_actions.specs.declared.action.Action.{Action}
use Rattle.tx_records.specs.declared.record.Record.{Record}
use Rattle.tx_records.specs.declared.record.Record.TheVariants as records
use Rattle.tx_records.specs.declared.tx.ProposalRecord.{ProposalRecord}
use Rattle.text_forms.specs.ActionText.{action_text}
use Rattle.record_read.specs.Lines.{record_of_line}

-- the text of an action and 80 bytes more are no longer than n
abbrev pub is_within : ℕ → Action → Bool
is_within n a = nat_le (length (action_text a) + 80) n

-- so is each proposal of a record
abbrev pub are_within : ℕ → Record → Bool
are_within n (records.Tx tx) = list_all (λ (p : ProposalRecord). is_within n p.action) tx.proposals
are_within n r = true

-- a line is longer than the text of each action that it proposes, by 80 bytes at least
abbrev pub LinesHoldTheirActions : Type 0
LinesHoldTheirActions = (line : List ℕ) → IfOk (record_of_line line) (λ r. are_within (length line) r ≡ true)
