-- The table of the parameters: for each of the thirty its group, whether it is of the security group, and whether an update may set it to 0. (CIP-1694, Protocol parameter groups; which may not be 0 is own)
use Rattle.std.specs.Prelude.{◌≡◌, Bool, true, false, List, [], ◌∷◌, Some, map, replicate, refl}
use Rattle.pparams.specs.declared.Groups.{Groups}
use Rattle.pparams.specs.declared.Update.{Update}
use Rattle.pparams.specs.Marks.{groups_of, touches_security, is_well_formed}
use Rattle.ledger_rows.proofs.Base.{no_update, share, h32}

abbrev network : Groups
network = record { network = true; economic = false; technical = false; governance = false }

abbrev economic : Groups
economic = record { network = false; economic = true; technical = false; governance = false }

abbrev technical : Groups
technical = record { network = false; economic = false; technical = true; governance = false }

abbrev governance : Groups
governance = record { network = false; economic = false; technical = false; governance = true }

-- what an update touches, whether a security parameter, and whether it is well-formed
abbrev marks : Update → Groups × Bool × Bool
marks u = (groups_of u, touches_security u, is_well_formed u)

-- each parameter alone, set to 0
abbrev set_to_0 : List Update
set_to_0 =
    record no_update { max_block_body_size = Some 0 } ∷
    record no_update { max_tx_size = Some 0 } ∷
    record no_update { max_block_header_size = Some 0 } ∷
    record no_update { max_value_size = Some 0 } ∷
    record no_update { max_tx_ex_units = Some (0, 0) } ∷
    record no_update { max_block_ex_units = Some (0, 0) } ∷
    record no_update { max_collateral_inputs = Some 0 } ∷
    record no_update { min_fee_a = Some 0 } ∷
    record no_update { min_fee_b = Some 0 } ∷
    record no_update { key_deposit = Some 0 } ∷
    record no_update { pool_deposit = Some 0 } ∷
    record no_update { rho = Some (share 0 1) } ∷
    record no_update { tau = Some (share 0 1) } ∷
    record no_update { min_pool_cost = Some 0 } ∷
    record no_update { coins_per_utxo_byte = Some 0 } ∷
    record no_update { prices = Some (share 0 1, share 0 1) } ∷
    record no_update { min_fee_ref_script_cost_per_byte = Some (share 0 1) } ∷
    record no_update { a0 = Some (share 0 1) } ∷
    record no_update { e_max = Some 0 } ∷
    record no_update { n_opt = Some 0 } ∷
    record no_update { cost_models = Some (h32 0) } ∷
    record no_update { collateral_percentage = Some 0 } ∷
    record no_update { pool_voting_thresholds = Some (replicate 5 (share 0 1)) } ∷
    record no_update { drep_voting_thresholds = Some (replicate 10 (share 0 1)) } ∷
    record no_update { gov_action_lifetime = Some 0 } ∷
    record no_update { gov_action_deposit = Some 0 } ∷
    record no_update { drep_deposit = Some 0 } ∷
    record no_update { drep_activity = Some 0 } ∷
    record no_update { committee_min_size = Some 0 } ∷
    record no_update { committee_max_term_length = Some 0 } ∷
    []

-- its group, whether it is of the security group, and whether it may be 0
pub marks_of_each : map marks set_to_0 ≡
    (network, true, false) ∷
    (network, true, false) ∷
    (network, true, false) ∷
    (network, true, false) ∷
    (network, false, true) ∷
    (network, true, true) ∷
    (network, false, true) ∷
    (economic, true, true) ∷
    (economic, true, true) ∷
    (economic, false, true) ∷
    (economic, false, false) ∷
    (economic, false, true) ∷
    (economic, false, true) ∷
    (economic, false, true) ∷
    (economic, true, false) ∷
    (economic, false, true) ∷
    (economic, true, true) ∷
    (technical, false, true) ∷
    (technical, false, true) ∷
    (technical, false, true) ∷
    (technical, false, true) ∷
    (technical, false, false) ∷
    (governance, false, true) ∷
    (governance, false, true) ∷
    (governance, false, false) ∷
    (governance, true, false) ∷
    (governance, false, false) ∷
    (governance, false, true) ∷
    (governance, false, true) ∷
    (governance, false, false) ∷
    []
marks_of_each = refl

-- those that may not be 0, set to 1
abbrev set_to_1 : List Update
set_to_1 =
    record no_update { max_block_body_size = Some 1 } ∷
    record no_update { max_tx_size = Some 1 } ∷
    record no_update { max_block_header_size = Some 1 } ∷
    record no_update { max_value_size = Some 1 } ∷
    record no_update { pool_deposit = Some 1 } ∷
    record no_update { coins_per_utxo_byte = Some 1 } ∷
    record no_update { collateral_percentage = Some 1 } ∷
    record no_update { gov_action_lifetime = Some 1 } ∷
    record no_update { gov_action_deposit = Some 1 } ∷
    record no_update { drep_deposit = Some 1 } ∷
    record no_update { committee_max_term_length = Some 1 } ∷
    []

pub above_0_is_well_formed : map is_well_formed set_to_1 ≡ replicate 11 true
above_0_is_well_formed = refl

-- an update of nothing touches nothing, and is not well-formed
pub nothing : marks no_update ≡ (record { network = false; economic = false; technical = false; governance = false }, false, false)
nothing = refl

-- one of several parameters touches the groups of each, and one that may not be 0 is not made good by the others
pub several : marks (record no_update { max_collateral_inputs = Some 1; n_opt = Some 1; drep_activity = Some 1 }) ≡
    (record { network = true; economic = false; technical = true; governance = true }, false, true)
several = refl

pub several_with_a_bad_one : marks (record no_update { min_fee_a = Some 1; key_deposit = Some 0; pool_deposit = Some 0 }) ≡
    (economic, true, false)
several_with_a_bad_one = refl
