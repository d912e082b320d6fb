-- Which actions and proposals have the form of the formats, as a reader accepts it. (Own)
-- The rules on proposals are no part of the form.
use Rattle.std.specs.Prelude.{ℕ, Bool, true, ◌&&◌, not, List, Option}
use Rattle.std.specs.List.{list_all}
use Rattle.std.specs.Map.{keys_of}
use Rattle.maps.specs.Words.{none_or, repeats}
use Rattle.coin_frac.specs.Fraction.{Fraction}
use Rattle.gov_ids.specs.declared.Account.{Account}
use Rattle.gov_ids.specs.declared.ActionId.{ActionId}
use Rattle.gov_ids.specs.declared.Credential.{Credential}
use Rattle.gov_ids.specs.declared.Voter.{Voter}
use Rattle.gov_ids.specs.Orders.{account_cmp, action_id_cmp, credential_cmp, voter_cmp}
use Rattle.text_model.specs.of_pparams.declared.Update.{Update}
use Rattle.text_model.specs.of_gov_actions.declared.action.Action.{Action}
use Rattle.text_model.specs.of_gov_actions.declared.action.Action.TheVariants.{NoConfidence, UpdateCommittee, NewConstitution, HardForkInitiation, ParameterChange, TreasuryWithdrawals, Info}
use Rattle.text_model.specs.of_gov_actions.declared.action.Proposal.{Proposal}
use Rattle.text_model.specs.of_gov_actions.declared.action.Vote.{Vote}
use Rattle.text_model.specs.of_gov_model.Ratified.{ids_of}
use Rattle.text_model.specs.of_tx_records.declared.limits.TheConstants.{LIST_LIMIT}
use Rattle.text_model.specs.of_tx_records.Limits.{is_at_most, is_slot, is_u32, is_u64}
use Rattle.text_forms.specs.Ids.{are_u64, are_units, is_account_id, is_action_id, is_credential, is_hash, is_map, is_ratio, is_u16, is_unit, is_voter}

-- the parameters of the network group that an update names have the form
abbrev pub is_network_update : Update → Bool
is_network_update u =
    none_or is_u32 u.max_block_body_size && none_or is_u32 u.max_tx_size && none_or is_u32 u.max_block_header_size
    && none_or is_u32 u.max_value_size && none_or are_u64 u.max_tx_ex_units && none_or are_u64 u.max_block_ex_units
    && none_or is_u16 u.max_collateral_inputs

-- two ratios
abbrev pub are_prices : Fraction × Fraction → Bool
are_prices p = is_ratio p.0 && is_ratio p.1

-- the parameters of the economic group that an update names have the form
abbrev pub is_economic_update : Update → Bool
is_economic_update u =
    none_or is_u64 u.min_fee_a && none_or is_u64 u.min_fee_b && none_or is_u64 u.key_deposit && none_or is_u64 u.pool_deposit
    && none_or is_unit u.rho && none_or is_unit u.tau && none_or is_u64 u.min_pool_cost && none_or is_u64 u.coins_per_utxo_byte
    && none_or are_prices u.prices && none_or is_ratio u.min_fee_ref_script_cost_per_byte

-- the parameters of the technical group that an update names have the form
abbrev pub is_technical_update : Update → Bool
is_technical_update u =
    none_or is_ratio u.a0 && none_or is_u32 u.e_max && none_or is_u16 u.n_opt && none_or (is_hash 32) u.cost_models
    && none_or is_u16 u.collateral_percentage

-- the parameters of the governance group that an update names have the form
abbrev pub is_governance_update : Update → Bool
is_governance_update u =
    none_or (are_units 5) u.pool_voting_thresholds && none_or (are_units 10) u.drep_voting_thresholds
    && none_or is_u32 u.gov_action_lifetime && none_or is_u64 u.gov_action_deposit && none_or is_u64 u.drep_deposit
    && none_or is_u32 u.drep_activity && none_or is_u16 u.committee_min_size && none_or is_u32 u.committee_max_term_length

-- an update of the parameters
abbrev pub is_update : Update → Bool
is_update u = is_network_update u && is_economic_update u && is_technical_update u && is_governance_update u

-- the previous action, if one is named
abbrev pub is_previous : Option ActionId → Bool
is_previous previous = none_or is_action_id previous

-- credentials, each once, in any order
abbrev pub are_credentials : List Credential → Bool
are_credentials cs = is_at_most LIST_LIMIT cs && list_all is_credential cs && not (repeats credential_cmp cs)

-- a member with its term
abbrev pub is_member : Credential × ℕ → Bool
is_member m = is_credential m.0 && is_slot m.1

-- new members, each once, in any order
abbrev pub are_members : List (Credential × ℕ) → Bool
are_members ms = is_at_most LIST_LIMIT ms && list_all is_member ms && not (repeats credential_cmp (keys_of ms))

-- a target with its amount
abbrev pub is_target : Account × ℕ → Bool
is_target t = is_account_id t.0 && is_u64 t.1

-- targets, each once, in any order
abbrev pub are_targets : List (Account × ℕ) → Bool
are_targets ts = is_at_most LIST_LIMIT ts && list_all is_target ts && not (repeats account_cmp (keys_of ts))

-- a version
abbrev pub is_version : ℕ × ℕ → Bool
is_version v = is_u32 v.0 && is_u32 v.1

-- an action
abbrev pub is_action : Action → Bool
is_action (NoConfidence previous) = is_previous previous
is_action (UpdateCommittee previous remove add threshold) =
    is_previous previous && are_credentials remove && are_members add && is_unit threshold
is_action (NewConstitution previous document script) = is_previous previous && is_hash 32 document && none_or (is_hash 28) script
is_action (HardForkInitiation previous version) = is_previous previous && is_version version
is_action (ParameterChange previous update policy) = is_previous previous && is_update update && none_or (is_hash 28) policy
is_action (TreasuryWithdrawals targets policy) = are_targets targets && none_or (is_hash 28) policy
is_action Info = true

-- a vote
abbrev pub is_vote : Voter × Vote → Bool
is_vote v = is_voter v.0

-- a proposal whose votes are in order, each voter once
abbrev pub is_proposal : Proposal → Bool
is_proposal p =
    is_action_id p.id && is_action p.action && is_u64 p.deposit && is_account_id p.account && is_u64 p.expires_after
    && list_all is_vote p.votes && is_map voter_cmp p.votes

-- proposals, each id once
abbrev pub are_proposals : List Proposal → Bool
are_proposals ps = list_all is_proposal ps && not (repeats action_id_cmp (ids_of ps))
