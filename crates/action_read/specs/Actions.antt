-- What a JSON value reads as, where it is a governance action. (Own)
use Rattle.std.specs.Prelude.{ℕ, List, Option, Result, Ok, Err, bytes_eq, codes, if◌then◌else◌}
use Rattle.serde_json.specs.Data.{Data}
use Rattle.gov_ids.specs.declared.Account.{Account}
use Rattle.gov_ids.specs.declared.ActionId.{ActionId}
use Rattle.gov_ids.specs.declared.Credential.{Credential}
use Rattle.gov_ids.specs.Orders.{account_cmp, credential_cmp}
use Rattle.gov_actions.specs.declared.action.Action.{Action}
use Rattle.gov_actions.specs.declared.action.Action.TheVariants as actions
use Rattle.tx_records.specs.declared.limits.TheConstants.{LIST_LIMIT, SLOT_LIMIT}
use Rattle.json_fields.specs.declared.fault.FieldFault.{FieldFault}
use Rattle.json_fields.specs.declared.fault.FieldFault.TheVariants.{OutOfRange}
use Rattle.json_fields.specs.Entries.{needed_in, maybe_in, both_in, without_place}
use Rattle.json_fields.specs.Kinds.{text_in, u64_in, u32_in, number_below, hash28_in, hash32_in, credential_in, account_in, action_id_in, unit_in}
use Rattle.json_fields.specs.Lists.{distinct_list_in}
use Rattle.json_fields.specs.Steps.{◌>>=◌}
use Rattle.action_read.specs.Params.{update_in}

-- the last epoch of a term
abbrev pub term_in : Data → Result ℕ FieldFault
term_in d = number_below SLOT_LIMIT d

-- credentials, each once
abbrev pub credentials_in : Data → Result (List Credential) FieldFault
credentials_in d = without_place (distinct_list_in credential_cmp (λ c. c) LIST_LIMIT credential_in d)

-- new members with their terms, each once
abbrev pub members_in : Data → Result (List (Credential × ℕ)) FieldFault
members_in d = without_place (distinct_list_in credential_cmp (λ m. m.0) LIST_LIMIT (both_in credential_in term_in) d)

-- accounts with their amounts, each once
abbrev pub targets_in : Data → Result (List (Account × ℕ)) FieldFault
targets_in d = without_place (distinct_list_in account_cmp (λ t. t.0) LIST_LIMIT (both_in account_in u64_in) d)

-- the action before it, if there is one
abbrev pub previous_in : Data → Result (Option ActionId) FieldFault
previous_in d = maybe_in (codes "previous") action_id_in d

-- ---- each type

-- a motion of no confidence
unfoldable pub no_confidence_in : Data → Result Action FieldFault
no_confidence_in d = do
  previous ← previous_in d
  Ok (actions.NoConfidence previous)

-- members leave, others come, and the threshold changes
unfoldable pub update_committee_in : Data → Result Action FieldFault
update_committee_in d = do
  previous ← previous_in d
  remove ← needed_in (codes "remove") credentials_in d
  add ← needed_in (codes "add") members_in d
  threshold ← needed_in (codes "threshold") unit_in d
  Ok (actions.UpdateCommittee previous remove add threshold)

-- a constitution, with its script
unfoldable pub new_constitution_in : Data → Result Action FieldFault
new_constitution_in d = do
  previous ← previous_in d
  document ← needed_in (codes "document") hash32_in d
  script ← maybe_in (codes "script") hash28_in d
  Ok (actions.NewConstitution previous document script)

-- a protocol version
unfoldable pub hard_fork_in : Data → Result Action FieldFault
hard_fork_in d = do
  previous ← previous_in d
  version ← needed_in (codes "version") (both_in u32_in u32_in) d
  Ok (actions.HardForkInitiation previous version)

-- an update of parameters, under a policy
unfoldable pub parameter_change_in : Data → Result Action FieldFault
parameter_change_in d = do
  previous ← previous_in d
  update ← needed_in (codes "update") update_in d
  policy ← maybe_in (codes "policy") hash28_in d
  Ok (actions.ParameterChange previous update policy)

-- amounts from the treasury, under a policy
unfoldable pub treasury_withdrawals_in : Data → Result Action FieldFault
treasury_withdrawals_in d = do
  targets ← needed_in (codes "targets") targets_in d
  policy ← maybe_in (codes "policy") hash28_in d
  Ok (actions.TreasuryWithdrawals targets policy)

-- by the name of the type
abbrev pub action_of_type : List ℕ → Data → Result Action FieldFault
action_of_type name d =
    if bytes_eq name (codes "NoConfidence") then no_confidence_in d else
    if bytes_eq name (codes "UpdateCommittee") then update_committee_in d else
    if bytes_eq name (codes "NewConstitution") then new_constitution_in d else
    if bytes_eq name (codes "HardForkInitiation") then hard_fork_in d else
    if bytes_eq name (codes "ParameterChange") then parameter_change_in d else
    if bytes_eq name (codes "TreasuryWithdrawals") then treasury_withdrawals_in d else
    if bytes_eq name (codes "Info") then Ok actions.Info else
    Err OutOfRange

-- an action, by its type
abbrev pub action_in : Data → Result Action FieldFault
action_in d = needed_in (codes "type") text_in d >>= λ name. action_of_type name d
