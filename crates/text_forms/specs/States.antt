-- The form of the parameters, and of the state that can be enacted. (Own)
use Rattle.std.specs.Prelude.{ℕ, Bool, ◌&&◌, nat_le}
use Rattle.std.specs.List.{list_all}
use Rattle.maps.specs.Words.{none_or}
use Rattle.gov_ids.specs.Orders.{credential_cmp}
use Rattle.text_model.specs.of_pparams.declared.Params.{Params}
use Rattle.text_model.specs.of_gov_actions.declared.state.Committee.{Committee}
use Rattle.text_model.specs.of_gov_actions.declared.state.EnactState.{EnactState}
use Rattle.text_model.specs.of_gov_actions.declared.state.LastIds.{LastIds}
use Rattle.text_model.specs.of_tx_records.declared.limits.TheConstants.{LEAST_MAJOR}
use Rattle.text_model.specs.of_tx_records.Limits.{is_u32, is_u64}
use Rattle.text_forms.specs.Actions.{are_prices, is_member, is_previous, is_version}
use Rattle.text_forms.specs.Ids.{are_u64, are_units, is_hash, is_map, is_ratio, is_u16, is_unit}

-- the parameters of the network group
abbrev pub are_network_params : Params → Bool
are_network_params p =
    is_u32 p.max_block_body_size && is_u32 p.max_tx_size && is_u32 p.max_block_header_size && is_u32 p.max_value_size
    && are_u64 p.max_tx_ex_units && are_u64 p.max_block_ex_units && is_u16 p.max_collateral_inputs

-- the parameters of the economic group
abbrev pub are_economic_params : Params → Bool
are_economic_params p =
    is_u64 p.min_fee_a && is_u64 p.min_fee_b && is_u64 p.key_deposit && is_u64 p.pool_deposit && is_unit p.rho && is_unit p.tau
    && is_u64 p.min_pool_cost && is_u64 p.coins_per_utxo_byte && are_prices p.prices && is_ratio p.min_fee_ref_script_cost_per_byte

-- the parameters of the technical group
abbrev pub are_technical_params : Params → Bool
are_technical_params p =
    is_ratio p.a0 && is_u32 p.e_max && is_u16 p.n_opt && is_hash 32 p.cost_models && is_u16 p.collateral_percentage

-- the parameters of the governance group
abbrev pub are_governance_params : Params → Bool
are_governance_params p =
    are_units 5 p.pool_voting_thresholds && are_units 10 p.drep_voting_thresholds && is_u32 p.gov_action_lifetime
    && is_u64 p.gov_action_deposit && is_u64 p.drep_deposit && is_u32 p.drep_activity && is_u16 p.committee_min_size
    && is_u32 p.committee_max_term_length

-- all thirty parameters
abbrev pub are_params : Params → Bool
are_params p = are_network_params p && are_economic_params p && are_technical_params p && are_governance_params p

-- a committee, its members in order
abbrev pub is_committee : Committee → Bool
is_committee c = is_map credential_cmp c.members && list_all is_member c.members && is_unit c.threshold

-- the last enacted ids
abbrev pub are_last_ids : LastIds → Bool
are_last_ids last =
    is_previous last.committee && is_previous last.constitution && is_previous last.hardfork && is_previous last.parameters

-- a version of the Conway era or a later one
abbrev pub is_conway_version : ℕ × ℕ → Bool
is_conway_version v = is_version v && nat_le LEAST_MAJOR v.0

-- the state that can be enacted
abbrev pub is_state : EnactState → Bool
is_state s =
    are_params s.params && is_conway_version s.version && none_or is_committee s.committee && is_hash 32 s.document
    && none_or (is_hash 28) s.script && are_last_ids s.last && is_u64 s.treasury
