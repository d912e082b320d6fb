-- Worked rows of whole streams: texts of Worlds that are not sound. Made by tests/made/rows_of, from the streams of these names in tests/streams/further.
use Rattle.std.specs.Prelude.{◌≡◌, [], ◌∷◌, Some, None, false, refl, nat_le}
use Rattle.std.specs.Fmt.{digits}
use Rattle.hex.specs.Hex.{encode_with}
use Rattle.gov_actions.specs.declared.action.Action.TheVariants as actions
use Rattle.gov_actions.specs.declared.action.Vote.TheVariants as vote
use Rattle.gov_ids.specs.declared.Drep.TheVariants as drep
use Rattle.gov_ids.specs.declared.Voter.TheVariants as voter
use Rattle.ledger_rows.proofs.Base.{h31, h32, key, script, pool, account_on, address_with, tx_id, ref, action, share, base_params}
use Rattle.checkpoint_model.specs.Resumable.{delegates_to_registered, has_form, is_counted_entry, is_timed, uses_ids}
use Rattle.gov_actions.specs.declared.action.Proposal.{Proposal}
use Rattle.gov_actions.specs.declared.state.EnactState.{EnactState}
use Rattle.gov_actions.specs.declared.state.HotState.TheVariants.{Hot}
use Rattle.gov_model.specs.Snapshot.{entry_count}
use Rattle.run_model.specs.World.{World}
use Rattle.std.specs.List.{list_all}

abbrev refused_counted_above_n_state : EnactState
refused_counted_above_n_state = (record { params = (record base_params { gov_action_lifetime = 20 }); version = (10, 0); committee = (Some (record { threshold = (share 0 1); members = (((key 0x70), 100) ∷ ((key 0x72), 100) ∷ []) })); document = (h32 0x01); script = None; last = (record { committee = None; constitution = None; hardfork = None; parameters = None }); treasury = 100 })

abbrev refused_counted_above_n_proposal_0 : Proposal
refused_counted_above_n_proposal_0 = (record { id = (action 0x02 0); action = (actions.NoConfidence None); deposit = 10; account = (account_on 1 (key 0x12)); expires_after = 20; votes = (((voter.Pool (pool 0x50)), vote.Abstain) ∷ []) })

abbrev refused_counted_above_n_proposal_1 : Proposal
refused_counted_above_n_proposal_1 = (record { id = (action 0x02 1); action = (actions.NewConstitution None (h32 0x02) None); deposit = 10; account = (account_on 1 (key 0x12)); expires_after = 20; votes = (((voter.Committee (key 0x71)), vote.Yes) ∷ ((voter.Drep (key 0x30)), vote.No) ∷ ((voter.Drep (key 0x31)), vote.Yes) ∷ []) })

abbrev refused_counted_above_n_proposal_2 : Proposal
refused_counted_above_n_proposal_2 = (record { id = (action 0x02 2); action = (actions.Info); deposit = 10; account = (account_on 1 (key 0x11)); expires_after = 20; votes = [] })

abbrev refused_counted_above_n_proposal_3 : Proposal
refused_counted_above_n_proposal_3 = (record { id = (action 0x03 0); action = (actions.NoConfidence (Some (action 0x02 0))); deposit = 10; account = (account_on 1 (key 0x12)); expires_after = 20; votes = [] })

abbrev refused_counted_above_n_world : World
refused_counted_above_n_world = (record { ledger = (record { network = 1; epoch_length = 10; supply = 1000; slot = 21; epoch = 2; dormant = 0; reserves = 635; fees = 35; donations = 10; state = refused_counted_above_n_state; outputs = (((ref 0x01 6), (record { address = (address_with 1 (key 0x01) None); lovelace = 20; assets = [] })) ∷ ((ref 0x01 7), (record { address = (address_with 1 (key 0x01) (Some (key 0x10))); lovelace = 20; assets = [] })) ∷ ((ref 0x01 8), (record { address = (address_with 1 (key 0x01) (Some (script 0x10))); lovelace = 9; assets = [] })) ∷ ((ref 0x05 0), (record { address = (address_with 1 (key 0x01) None); lovelace = 5; assets = [] })) ∷ []); used = ((tx_id 0x01) ∷ (tx_id 0x02) ∷ (tx_id 0x03) ∷ (tx_id 0x04) ∷ (tx_id 0x05) ∷ []); accounts = (((key 0x10), (record { deposit = 2; rewards = 67; pool = (Some (pool 0x50)); drep = (Some (drep.Registered (key 0x30))) })) ∷ ((key 0x11), (record { deposit = 2; rewards = 33; pool = (Some (pool 0x51)); drep = (Some (drep.Registered (key 0x31))) })) ∷ ((key 0x12), (record { deposit = 2; rewards = 0; pool = None; drep = None })) ∷ []); pools = (((pool 0x50), (record { deposit = 5; terms = (record { cost = 0; pledge = 0; margin = (share 0 1); account = (account_on 1 (key 0x12)); key = None }); future = (Some (record { cost = 1; pledge = 2; margin = (share 1 3); account = (account_on 1 (key 0x12)); key = None })); retires = None })) ∷ ((pool 0x51), (record { deposit = 5; terms = (record { cost = 0; pledge = 0; margin = (share 0 1); account = (account_on 1 (key 0x11)); key = None }); future = None; retires = None })) ∷ []); dreps = (((key 0x30), (record { deposit = 5; expiry = 20 })) ∷ ((key 0x31), (record { deposit = 5; expiry = 22 })) ∷ []); hot = (((key 0x70), (Hot (key 0x74))) ∷ ((key 0x72), (Hot (key 0x73))) ∷ []); proposals = (refused_counted_above_n_proposal_0 ∷ refused_counted_above_n_proposal_1 ∷ refused_counted_above_n_proposal_2 ∷ refused_counted_above_n_proposal_3 ∷ []) }); pending = (Some (record { epoch = 2; from_reserves = 20; from_fees = 3; to_treasury = 8; rewards = (((key 0x10), 10) ∷ ((key 0x11), 5) ∷ []) })); counted = 5; mark = (((pool 0x50), 87) ∷ ((pool 0x51), 33) ∷ []); set = (((pool 0x50), 87) ∷ ((pool 0x51), 33) ∷ []); go = (((pool 0x50), 87) ∷ ((pool 0x51), 33) ∷ []); noted_fees = 30; frozen = (record { epoch = 2; entries = (((key 0x10), (record { stake = 20; registered = (Some (record { deposit = 2; rewards = 67; pool = (Some (pool 0x50)); drep = (Some (drep.Registered (key 0x30))) })) })) ∷ ((script 0x10), (record { stake = 9; registered = None })) ∷ ((key 0x11), (record { stake = 0; registered = (Some (record { deposit = 2; rewards = 33; pool = (Some (pool 0x51)); drep = (Some (drep.Registered (key 0x31))) })) })) ∷ ((key 0x12), (record { stake = 0; registered = (Some (record { deposit = 2; rewards = 0; pool = None; drep = None })) })) ∷ []); dreps = (((key 0x30), 20) ∷ ((key 0x31), 20) ∷ []); mark = (((pool 0x50), 87) ∷ ((pool 0x51), 33) ∷ []); pool_accounts = (((pool 0x50), (account_on 1 (key 0x12))) ∷ ((pool 0x51), (account_on 1 (key 0x11))) ∷ []); hot = (((key 0x70), (Hot (key 0x71))) ∷ ((key 0x72), (Hot (key 0x73))) ∷ []); proposals = ((record refused_counted_above_n_proposal_0 { votes = (((voter.Pool (pool 0x50)), vote.Abstain) ∷ []) }) ∷ (record refused_counted_above_n_proposal_1 { votes = (((voter.Committee (key 0x71)), vote.Yes) ∷ ((voter.Drep (key 0x30)), vote.No) ∷ []) }) ∷ (record refused_counted_above_n_proposal_2 { votes = [] }) ∷ (record refused_counted_above_n_proposal_3 { votes = [] }) ∷ []); start = (record refused_counted_above_n_state { treasury = 100 }) }) })

pub refused_counted_above_n : (nat_le refused_counted_above_n_world.counted (entry_count refused_counted_above_n_world.frozen)) ≡ false
unfolding digits encode_with
refused_counted_above_n = refl

abbrev refused_network_two_state : EnactState
refused_network_two_state = (record { params = (record base_params { gov_action_lifetime = 20 }); version = (10, 0); committee = (Some (record { threshold = (share 0 1); members = (((key 0x70), 100) ∷ ((key 0x72), 100) ∷ []) })); document = (h32 0x01); script = None; last = (record { committee = None; constitution = None; hardfork = None; parameters = None }); treasury = 100 })

abbrev refused_network_two_proposal_0 : Proposal
refused_network_two_proposal_0 = (record { id = (action 0x02 0); action = (actions.NoConfidence None); deposit = 10; account = (account_on 1 (key 0x12)); expires_after = 20; votes = (((voter.Pool (pool 0x50)), vote.Abstain) ∷ []) })

abbrev refused_network_two_proposal_1 : Proposal
refused_network_two_proposal_1 = (record { id = (action 0x02 1); action = (actions.NewConstitution None (h32 0x02) None); deposit = 10; account = (account_on 1 (key 0x12)); expires_after = 20; votes = (((voter.Committee (key 0x71)), vote.Yes) ∷ ((voter.Drep (key 0x30)), vote.No) ∷ ((voter.Drep (key 0x31)), vote.Yes) ∷ []) })

abbrev refused_network_two_proposal_2 : Proposal
refused_network_two_proposal_2 = (record { id = (action 0x02 2); action = (actions.Info); deposit = 10; account = (account_on 1 (key 0x11)); expires_after = 20; votes = [] })

abbrev refused_network_two_proposal_3 : Proposal
refused_network_two_proposal_3 = (record { id = (action 0x03 0); action = (actions.NoConfidence (Some (action 0x02 0))); deposit = 10; account = (account_on 1 (key 0x12)); expires_after = 20; votes = [] })

abbrev refused_network_two_world : World
refused_network_two_world = (record { ledger = (record { network = 2; epoch_length = 10; supply = 1000; slot = 21; epoch = 2; dormant = 0; reserves = 635; fees = 35; donations = 10; state = refused_network_two_state; outputs = (((ref 0x01 6), (record { address = (address_with 1 (key 0x01) None); lovelace = 20; assets = [] })) ∷ ((ref 0x01 7), (record { address = (address_with 1 (key 0x01) (Some (key 0x10))); lovelace = 20; assets = [] })) ∷ ((ref 0x01 8), (record { address = (address_with 1 (key 0x01) (Some (script 0x10))); lovelace = 9; assets = [] })) ∷ ((ref 0x05 0), (record { address = (address_with 1 (key 0x01) None); lovelace = 5; assets = [] })) ∷ []); used = ((tx_id 0x01) ∷ (tx_id 0x02) ∷ (tx_id 0x03) ∷ (tx_id 0x04) ∷ (tx_id 0x05) ∷ []); accounts = (((key 0x10), (record { deposit = 2; rewards = 67; pool = (Some (pool 0x50)); drep = (Some (drep.Registered (key 0x30))) })) ∷ ((key 0x11), (record { deposit = 2; rewards = 33; pool = (Some (pool 0x51)); drep = (Some (drep.Registered (key 0x31))) })) ∷ ((key 0x12), (record { deposit = 2; rewards = 0; pool = None; drep = None })) ∷ []); pools = (((pool 0x50), (record { deposit = 5; terms = (record { cost = 0; pledge = 0; margin = (share 0 1); account = (account_on 1 (key 0x12)); key = None }); future = (Some (record { cost = 1; pledge = 2; margin = (share 1 3); account = (account_on 1 (key 0x12)); key = None })); retires = None })) ∷ ((pool 0x51), (record { deposit = 5; terms = (record { cost = 0; pledge = 0; margin = (share 0 1); account = (account_on 1 (key 0x11)); key = None }); future = None; retires = None })) ∷ []); dreps = (((key 0x30), (record { deposit = 5; expiry = 20 })) ∷ ((key 0x31), (record { deposit = 5; expiry = 22 })) ∷ []); hot = (((key 0x70), (Hot (key 0x74))) ∷ ((key 0x72), (Hot (key 0x73))) ∷ []); proposals = (refused_network_two_proposal_0 ∷ refused_network_two_proposal_1 ∷ refused_network_two_proposal_2 ∷ refused_network_two_proposal_3 ∷ []) }); pending = (Some (record { epoch = 2; from_reserves = 20; from_fees = 3; to_treasury = 8; rewards = (((key 0x10), 10) ∷ ((key 0x11), 5) ∷ []) })); counted = 2; mark = (((pool 0x50), 87) ∷ ((pool 0x51), 33) ∷ []); set = (((pool 0x50), 87) ∷ ((pool 0x51), 33) ∷ []); go = (((pool 0x50), 87) ∷ ((pool 0x51), 33) ∷ []); noted_fees = 30; frozen = (record { epoch = 2; entries = (((key 0x10), (record { stake = 20; registered = (Some (record { deposit = 2; rewards = 67; pool = (Some (pool 0x50)); drep = (Some (drep.Registered (key 0x30))) })) })) ∷ ((script 0x10), (record { stake = 9; registered = None })) ∷ ((key 0x11), (record { stake = 0; registered = (Some (record { deposit = 2; rewards = 33; pool = (Some (pool 0x51)); drep = (Some (drep.Registered (key 0x31))) })) })) ∷ ((key 0x12), (record { stake = 0; registered = (Some (record { deposit = 2; rewards = 0; pool = None; drep = None })) })) ∷ []); dreps = (((key 0x30), 20) ∷ ((key 0x31), 20) ∷ []); mark = (((pool 0x50), 87) ∷ ((pool 0x51), 33) ∷ []); pool_accounts = (((pool 0x50), (account_on 1 (key 0x12))) ∷ ((pool 0x51), (account_on 1 (key 0x11))) ∷ []); hot = (((key 0x70), (Hot (key 0x71))) ∷ ((key 0x72), (Hot (key 0x73))) ∷ []); proposals = ((record refused_network_two_proposal_0 { votes = (((voter.Pool (pool 0x50)), vote.Abstain) ∷ []) }) ∷ (record refused_network_two_proposal_1 { votes = (((voter.Committee (key 0x71)), vote.Yes) ∷ ((voter.Drep (key 0x30)), vote.No) ∷ []) }) ∷ (record refused_network_two_proposal_2 { votes = [] }) ∷ (record refused_network_two_proposal_3 { votes = [] }) ∷ []); start = (record refused_network_two_state { treasury = 100 }) }) })

pub refused_network_two : (has_form refused_network_two_world) ≡ false
unfolding digits encode_with
refused_network_two = refl

abbrev refused_epoch_that_is_not_the_slots_state : EnactState
refused_epoch_that_is_not_the_slots_state = (record { params = (record base_params { gov_action_lifetime = 20 }); version = (10, 0); committee = (Some (record { threshold = (share 0 1); members = (((key 0x70), 100) ∷ ((key 0x72), 100) ∷ []) })); document = (h32 0x01); script = None; last = (record { committee = None; constitution = None; hardfork = None; parameters = None }); treasury = 100 })

abbrev refused_epoch_that_is_not_the_slots_proposal_0 : Proposal
refused_epoch_that_is_not_the_slots_proposal_0 = (record { id = (action 0x02 0); action = (actions.NoConfidence None); deposit = 10; account = (account_on 1 (key 0x12)); expires_after = 20; votes = (((voter.Pool (pool 0x50)), vote.Abstain) ∷ []) })

abbrev refused_epoch_that_is_not_the_slots_proposal_1 : Proposal
refused_epoch_that_is_not_the_slots_proposal_1 = (record { id = (action 0x02 1); action = (actions.NewConstitution None (h32 0x02) None); deposit = 10; account = (account_on 1 (key 0x12)); expires_after = 20; votes = (((voter.Committee (key 0x71)), vote.Yes) ∷ ((voter.Drep (key 0x30)), vote.No) ∷ ((voter.Drep (key 0x31)), vote.Yes) ∷ []) })

abbrev refused_epoch_that_is_not_the_slots_proposal_2 : Proposal
refused_epoch_that_is_not_the_slots_proposal_2 = (record { id = (action 0x02 2); action = (actions.Info); deposit = 10; account = (account_on 1 (key 0x11)); expires_after = 20; votes = [] })

abbrev refused_epoch_that_is_not_the_slots_proposal_3 : Proposal
refused_epoch_that_is_not_the_slots_proposal_3 = (record { id = (action 0x03 0); action = (actions.NoConfidence (Some (action 0x02 0))); deposit = 10; account = (account_on 1 (key 0x12)); expires_after = 20; votes = [] })

abbrev refused_epoch_that_is_not_the_slots_world : World
refused_epoch_that_is_not_the_slots_world = (record { ledger = (record { network = 1; epoch_length = 10; supply = 1000; slot = 21; epoch = 3; dormant = 0; reserves = 635; fees = 35; donations = 10; state = refused_epoch_that_is_not_the_slots_state; outputs = (((ref 0x01 6), (record { address = (address_with 1 (key 0x01) None); lovelace = 20; assets = [] })) ∷ ((ref 0x01 7), (record { address = (address_with 1 (key 0x01) (Some (key 0x10))); lovelace = 20; assets = [] })) ∷ ((ref 0x01 8), (record { address = (address_with 1 (key 0x01) (Some (script 0x10))); lovelace = 9; assets = [] })) ∷ ((ref 0x05 0), (record { address = (address_with 1 (key 0x01) None); lovelace = 5; assets = [] })) ∷ []); used = ((tx_id 0x01) ∷ (tx_id 0x02) ∷ (tx_id 0x03) ∷ (tx_id 0x04) ∷ (tx_id 0x05) ∷ []); accounts = (((key 0x10), (record { deposit = 2; rewards = 67; pool = (Some (pool 0x50)); drep = (Some (drep.Registered (key 0x30))) })) ∷ ((key 0x11), (record { deposit = 2; rewards = 33; pool = (Some (pool 0x51)); drep = (Some (drep.Registered (key 0x31))) })) ∷ ((key 0x12), (record { deposit = 2; rewards = 0; pool = None; drep = None })) ∷ []); pools = (((pool 0x50), (record { deposit = 5; terms = (record { cost = 0; pledge = 0; margin = (share 0 1); account = (account_on 1 (key 0x12)); key = None }); future = (Some (record { cost = 1; pledge = 2; margin = (share 1 3); account = (account_on 1 (key 0x12)); key = None })); retires = None })) ∷ ((pool 0x51), (record { deposit = 5; terms = (record { cost = 0; pledge = 0; margin = (share 0 1); account = (account_on 1 (key 0x11)); key = None }); future = None; retires = None })) ∷ []); dreps = (((key 0x30), (record { deposit = 5; expiry = 20 })) ∷ ((key 0x31), (record { deposit = 5; expiry = 22 })) ∷ []); hot = (((key 0x70), (Hot (key 0x74))) ∷ ((key 0x72), (Hot (key 0x73))) ∷ []); proposals = (refused_epoch_that_is_not_the_slots_proposal_0 ∷ refused_epoch_that_is_not_the_slots_proposal_1 ∷ refused_epoch_that_is_not_the_slots_proposal_2 ∷ refused_epoch_that_is_not_the_slots_proposal_3 ∷ []) }); pending = (Some (record { epoch = 3; from_reserves = 20; from_fees = 3; to_treasury = 8; rewards = (((key 0x10), 10) ∷ ((key 0x11), 5) ∷ []) })); counted = 2; mark = (((pool 0x50), 87) ∷ ((pool 0x51), 33) ∷ []); set = (((pool 0x50), 87) ∷ ((pool 0x51), 33) ∷ []); go = (((pool 0x50), 87) ∷ ((pool 0x51), 33) ∷ []); noted_fees = 30; frozen = (record { epoch = 3; entries = (((key 0x10), (record { stake = 20; registered = (Some (record { deposit = 2; rewards = 67; pool = (Some (pool 0x50)); drep = (Some (drep.Registered (key 0x30))) })) })) ∷ ((script 0x10), (record { stake = 9; registered = None })) ∷ ((key 0x11), (record { stake = 0; registered = (Some (record { deposit = 2; rewards = 33; pool = (Some (pool 0x51)); drep = (Some (drep.Registered (key 0x31))) })) })) ∷ ((key 0x12), (record { stake = 0; registered = (Some (record { deposit = 2; rewards = 0; pool = None; drep = None })) })) ∷ []); dreps = (((key 0x30), 20) ∷ ((key 0x31), 20) ∷ []); mark = (((pool 0x50), 87) ∷ ((pool 0x51), 33) ∷ []); pool_accounts = (((pool 0x50), (account_on 1 (key 0x12))) ∷ ((pool 0x51), (account_on 1 (key 0x11))) ∷ []); hot = (((key 0x70), (Hot (key 0x71))) ∷ ((key 0x72), (Hot (key 0x73))) ∷ []); proposals = ((record refused_epoch_that_is_not_the_slots_proposal_0 { votes = (((voter.Pool (pool 0x50)), vote.Abstain) ∷ []) }) ∷ (record refused_epoch_that_is_not_the_slots_proposal_1 { votes = (((voter.Committee (key 0x71)), vote.Yes) ∷ ((voter.Drep (key 0x30)), vote.No) ∷ []) }) ∷ (record refused_epoch_that_is_not_the_slots_proposal_2 { votes = [] }) ∷ (record refused_epoch_that_is_not_the_slots_proposal_3 { votes = [] }) ∷ []); start = (record refused_epoch_that_is_not_the_slots_state { treasury = 100 }) }) })

pub refused_epoch_that_is_not_the_slots : (is_timed refused_epoch_that_is_not_the_slots_world.ledger) ≡ false
unfolding digits encode_with
refused_epoch_that_is_not_the_slots = refl

abbrev refused_slot_out_of_range_state : EnactState
refused_slot_out_of_range_state = (record { params = (record base_params { gov_action_lifetime = 20 }); version = (10, 0); committee = (Some (record { threshold = (share 0 1); members = (((key 0x70), 100) ∷ ((key 0x72), 100) ∷ []) })); document = (h32 0x01); script = None; last = (record { committee = None; constitution = None; hardfork = None; parameters = None }); treasury = 100 })

abbrev refused_slot_out_of_range_proposal_0 : Proposal
refused_slot_out_of_range_proposal_0 = (record { id = (action 0x02 0); action = (actions.NoConfidence None); deposit = 10; account = (account_on 1 (key 0x12)); expires_after = 20; votes = (((voter.Pool (pool 0x50)), vote.Abstain) ∷ []) })

abbrev refused_slot_out_of_range_proposal_1 : Proposal
refused_slot_out_of_range_proposal_1 = (record { id = (action 0x02 1); action = (actions.NewConstitution None (h32 0x02) None); deposit = 10; account = (account_on 1 (key 0x12)); expires_after = 20; votes = (((voter.Committee (key 0x71)), vote.Yes) ∷ ((voter.Drep (key 0x30)), vote.No) ∷ ((voter.Drep (key 0x31)), vote.Yes) ∷ []) })

abbrev refused_slot_out_of_range_proposal_2 : Proposal
refused_slot_out_of_range_proposal_2 = (record { id = (action 0x02 2); action = (actions.Info); deposit = 10; account = (account_on 1 (key 0x11)); expires_after = 20; votes = [] })

abbrev refused_slot_out_of_range_proposal_3 : Proposal
refused_slot_out_of_range_proposal_3 = (record { id = (action 0x03 0); action = (actions.NoConfidence (Some (action 0x02 0))); deposit = 10; account = (account_on 1 (key 0x12)); expires_after = 20; votes = [] })

abbrev refused_slot_out_of_range_world : World
refused_slot_out_of_range_world = (record { ledger = (record { network = 1; epoch_length = 10; supply = 1000; slot = 4611686018427387904; epoch = 461168601842738790; dormant = 0; reserves = 635; fees = 35; donations = 10; state = refused_slot_out_of_range_state; outputs = (((ref 0x01 6), (record { address = (address_with 1 (key 0x01) None); lovelace = 20; assets = [] })) ∷ ((ref 0x01 7), (record { address = (address_with 1 (key 0x01) (Some (key 0x10))); lovelace = 20; assets = [] })) ∷ ((ref 0x01 8), (record { address = (address_with 1 (key 0x01) (Some (script 0x10))); lovelace = 9; assets = [] })) ∷ ((ref 0x05 0), (record { address = (address_with 1 (key 0x01) None); lovelace = 5; assets = [] })) ∷ []); used = ((tx_id 0x01) ∷ (tx_id 0x02) ∷ (tx_id 0x03) ∷ (tx_id 0x04) ∷ (tx_id 0x05) ∷ []); accounts = (((key 0x10), (record { deposit = 2; rewards = 67; pool = (Some (pool 0x50)); drep = (Some (drep.Registered (key 0x30))) })) ∷ ((key 0x11), (record { deposit = 2; rewards = 33; pool = (Some (pool 0x51)); drep = (Some (drep.Registered (key 0x31))) })) ∷ ((key 0x12), (record { deposit = 2; rewards = 0; pool = None; drep = None })) ∷ []); pools = (((pool 0x50), (record { deposit = 5; terms = (record { cost = 0; pledge = 0; margin = (share 0 1); account = (account_on 1 (key 0x12)); key = None }); future = (Some (record { cost = 1; pledge = 2; margin = (share 1 3); account = (account_on 1 (key 0x12)); key = None })); retires = None })) ∷ ((pool 0x51), (record { deposit = 5; terms = (record { cost = 0; pledge = 0; margin = (share 0 1); account = (account_on 1 (key 0x11)); key = None }); future = None; retires = None })) ∷ []); dreps = (((key 0x30), (record { deposit = 5; expiry = 20 })) ∷ ((key 0x31), (record { deposit = 5; expiry = 22 })) ∷ []); hot = (((key 0x70), (Hot (key 0x74))) ∷ ((key 0x72), (Hot (key 0x73))) ∷ []); proposals = (refused_slot_out_of_range_proposal_0 ∷ refused_slot_out_of_range_proposal_1 ∷ refused_slot_out_of_range_proposal_2 ∷ refused_slot_out_of_range_proposal_3 ∷ []) }); pending = (Some (record { epoch = 461168601842738790; from_reserves = 20; from_fees = 3; to_treasury = 8; rewards = (((key 0x10), 10) ∷ ((key 0x11), 5) ∷ []) })); counted = 2; mark = (((pool 0x50), 87) ∷ ((pool 0x51), 33) ∷ []); set = (((pool 0x50), 87) ∷ ((pool 0x51), 33) ∷ []); go = (((pool 0x50), 87) ∷ ((pool 0x51), 33) ∷ []); noted_fees = 30; frozen = (record { epoch = 461168601842738790; entries = (((key 0x10), (record { stake = 20; registered = (Some (record { deposit = 2; rewards = 67; pool = (Some (pool 0x50)); drep = (Some (drep.Registered (key 0x30))) })) })) ∷ ((script 0x10), (record { stake = 9; registered = None })) ∷ ((key 0x11), (record { stake = 0; registered = (Some (record { deposit = 2; rewards = 33; pool = (Some (pool 0x51)); drep = (Some (drep.Registered (key 0x31))) })) })) ∷ ((key 0x12), (record { stake = 0; registered = (Some (record { deposit = 2; rewards = 0; pool = None; drep = None })) })) ∷ []); dreps = (((key 0x30), 20) ∷ ((key 0x31), 20) ∷ []); mark = (((pool 0x50), 87) ∷ ((pool 0x51), 33) ∷ []); pool_accounts = (((pool 0x50), (account_on 1 (key 0x12))) ∷ ((pool 0x51), (account_on 1 (key 0x11))) ∷ []); hot = (((key 0x70), (Hot (key 0x71))) ∷ ((key 0x72), (Hot (key 0x73))) ∷ []); proposals = ((record refused_slot_out_of_range_proposal_0 { votes = (((voter.Pool (pool 0x50)), vote.Abstain) ∷ []) }) ∷ (record refused_slot_out_of_range_proposal_1 { votes = (((voter.Committee (key 0x71)), vote.Yes) ∷ ((voter.Drep (key 0x30)), vote.No) ∷ []) }) ∷ (record refused_slot_out_of_range_proposal_2 { votes = [] }) ∷ (record refused_slot_out_of_range_proposal_3 { votes = [] }) ∷ []); start = (record refused_slot_out_of_range_state { treasury = 100 }) }) })

pub refused_slot_out_of_range : (has_form refused_slot_out_of_range_world) ≡ false
unfolding digits encode_with
refused_slot_out_of_range = refl

abbrev refused_version_nine_state : EnactState
refused_version_nine_state = (record { params = (record base_params { gov_action_lifetime = 20 }); version = (9, 0); committee = (Some (record { threshold = (share 0 1); members = (((key 0x70), 100) ∷ ((key 0x72), 100) ∷ []) })); document = (h32 0x01); script = None; last = (record { committee = None; constitution = None; hardfork = None; parameters = None }); treasury = 100 })

abbrev refused_version_nine_proposal_0 : Proposal
refused_version_nine_proposal_0 = (record { id = (action 0x02 0); action = (actions.NoConfidence None); deposit = 10; account = (account_on 1 (key 0x12)); expires_after = 20; votes = (((voter.Pool (pool 0x50)), vote.Abstain) ∷ []) })

abbrev refused_version_nine_proposal_1 : Proposal
refused_version_nine_proposal_1 = (record { id = (action 0x02 1); action = (actions.NewConstitution None (h32 0x02) None); deposit = 10; account = (account_on 1 (key 0x12)); expires_after = 20; votes = (((voter.Committee (key 0x71)), vote.Yes) ∷ ((voter.Drep (key 0x30)), vote.No) ∷ ((voter.Drep (key 0x31)), vote.Yes) ∷ []) })

abbrev refused_version_nine_proposal_2 : Proposal
refused_version_nine_proposal_2 = (record { id = (action 0x02 2); action = (actions.Info); deposit = 10; account = (account_on 1 (key 0x11)); expires_after = 20; votes = [] })

abbrev refused_version_nine_proposal_3 : Proposal
refused_version_nine_proposal_3 = (record { id = (action 0x03 0); action = (actions.NoConfidence (Some (action 0x02 0))); deposit = 10; account = (account_on 1 (key 0x12)); expires_after = 20; votes = [] })

abbrev refused_version_nine_world : World
refused_version_nine_world = (record { ledger = (record { network = 1; epoch_length = 10; supply = 1000; slot = 21; epoch = 2; dormant = 0; reserves = 635; fees = 35; donations = 10; state = refused_version_nine_state; outputs = (((ref 0x01 6), (record { address = (address_with 1 (key 0x01) None); lovelace = 20; assets = [] })) ∷ ((ref 0x01 7), (record { address = (address_with 1 (key 0x01) (Some (key 0x10))); lovelace = 20; assets = [] })) ∷ ((ref 0x01 8), (record { address = (address_with 1 (key 0x01) (Some (script 0x10))); lovelace = 9; assets = [] })) ∷ ((ref 0x05 0), (record { address = (address_with 1 (key 0x01) None); lovelace = 5; assets = [] })) ∷ []); used = ((tx_id 0x01) ∷ (tx_id 0x02) ∷ (tx_id 0x03) ∷ (tx_id 0x04) ∷ (tx_id 0x05) ∷ []); accounts = (((key 0x10), (record { deposit = 2; rewards = 67; pool = (Some (pool 0x50)); drep = (Some (drep.Registered (key 0x30))) })) ∷ ((key 0x11), (record { deposit = 2; rewards = 33; pool = (Some (pool 0x51)); drep = (Some (drep.Registered (key 0x31))) })) ∷ ((key 0x12), (record { deposit = 2; rewards = 0; pool = None; drep = None })) ∷ []); pools = (((pool 0x50), (record { deposit = 5; terms = (record { cost = 0; pledge = 0; margin = (share 0 1); account = (account_on 1 (key 0x12)); key = None }); future = (Some (record { cost = 1; pledge = 2; margin = (share 1 3); account = (account_on 1 (key 0x12)); key = None })); retires = None })) ∷ ((pool 0x51), (record { deposit = 5; terms = (record { cost = 0; pledge = 0; margin = (share 0 1); account = (account_on 1 (key 0x11)); key = None }); future = None; retires = None })) ∷ []); dreps = (((key 0x30), (record { deposit = 5; expiry = 20 })) ∷ ((key 0x31), (record { deposit = 5; expiry = 22 })) ∷ []); hot = (((key 0x70), (Hot (key 0x74))) ∷ ((key 0x72), (Hot (key 0x73))) ∷ []); proposals = (refused_version_nine_proposal_0 ∷ refused_version_nine_proposal_1 ∷ refused_version_nine_proposal_2 ∷ refused_version_nine_proposal_3 ∷ []) }); pending = (Some (record { epoch = 2; from_reserves = 20; from_fees = 3; to_treasury = 8; rewards = (((key 0x10), 10) ∷ ((key 0x11), 5) ∷ []) })); counted = 2; mark = (((pool 0x50), 87) ∷ ((pool 0x51), 33) ∷ []); set = (((pool 0x50), 87) ∷ ((pool 0x51), 33) ∷ []); go = (((pool 0x50), 87) ∷ ((pool 0x51), 33) ∷ []); noted_fees = 30; frozen = (record { epoch = 2; entries = (((key 0x10), (record { stake = 20; registered = (Some (record { deposit = 2; rewards = 67; pool = (Some (pool 0x50)); drep = (Some (drep.Registered (key 0x30))) })) })) ∷ ((script 0x10), (record { stake = 9; registered = None })) ∷ ((key 0x11), (record { stake = 0; registered = (Some (record { deposit = 2; rewards = 33; pool = (Some (pool 0x51)); drep = (Some (drep.Registered (key 0x31))) })) })) ∷ ((key 0x12), (record { stake = 0; registered = (Some (record { deposit = 2; rewards = 0; pool = None; drep = None })) })) ∷ []); dreps = (((key 0x30), 20) ∷ ((key 0x31), 20) ∷ []); mark = (((pool 0x50), 87) ∷ ((pool 0x51), 33) ∷ []); pool_accounts = (((pool 0x50), (account_on 1 (key 0x12))) ∷ ((pool 0x51), (account_on 1 (key 0x11))) ∷ []); hot = (((key 0x70), (Hot (key 0x71))) ∷ ((key 0x72), (Hot (key 0x73))) ∷ []); proposals = ((record refused_version_nine_proposal_0 { votes = (((voter.Pool (pool 0x50)), vote.Abstain) ∷ []) }) ∷ (record refused_version_nine_proposal_1 { votes = (((voter.Committee (key 0x71)), vote.Yes) ∷ ((voter.Drep (key 0x30)), vote.No) ∷ []) }) ∷ (record refused_version_nine_proposal_2 { votes = [] }) ∷ (record refused_version_nine_proposal_3 { votes = [] }) ∷ []); start = (record refused_version_nine_state { treasury = 100 }) }) })

pub refused_version_nine : (has_form refused_version_nine_world) ≡ false
unfolding digits encode_with
refused_version_nine = refl

abbrev refused_term_out_of_range_state : EnactState
refused_term_out_of_range_state = (record { params = (record base_params { gov_action_lifetime = 20 }); version = (10, 0); committee = (Some (record { threshold = (share 0 1); members = (((key 0x70), 100) ∷ ((key 0x72), 4611686018427387904) ∷ []) })); document = (h32 0x01); script = None; last = (record { committee = None; constitution = None; hardfork = None; parameters = None }); treasury = 100 })

abbrev refused_term_out_of_range_proposal_0 : Proposal
refused_term_out_of_range_proposal_0 = (record { id = (action 0x02 0); action = (actions.NoConfidence None); deposit = 10; account = (account_on 1 (key 0x12)); expires_after = 20; votes = (((voter.Pool (pool 0x50)), vote.Abstain) ∷ []) })

abbrev refused_term_out_of_range_proposal_1 : Proposal
refused_term_out_of_range_proposal_1 = (record { id = (action 0x02 1); action = (actions.NewConstitution None (h32 0x02) None); deposit = 10; account = (account_on 1 (key 0x12)); expires_after = 20; votes = (((voter.Committee (key 0x71)), vote.Yes) ∷ ((voter.Drep (key 0x30)), vote.No) ∷ ((voter.Drep (key 0x31)), vote.Yes) ∷ []) })

abbrev refused_term_out_of_range_proposal_2 : Proposal
refused_term_out_of_range_proposal_2 = (record { id = (action 0x02 2); action = (actions.Info); deposit = 10; account = (account_on 1 (key 0x11)); expires_after = 20; votes = [] })

abbrev refused_term_out_of_range_proposal_3 : Proposal
refused_term_out_of_range_proposal_3 = (record { id = (action 0x03 0); action = (actions.NoConfidence (Some (action 0x02 0))); deposit = 10; account = (account_on 1 (key 0x12)); expires_after = 20; votes = [] })

abbrev refused_term_out_of_range_world : World
refused_term_out_of_range_world = (record { ledger = (record { network = 1; epoch_length = 10; supply = 1000; slot = 21; epoch = 2; dormant = 0; reserves = 635; fees = 35; donations = 10; state = refused_term_out_of_range_state; outputs = (((ref 0x01 6), (record { address = (address_with 1 (key 0x01) None); lovelace = 20; assets = [] })) ∷ ((ref 0x01 7), (record { address = (address_with 1 (key 0x01) (Some (key 0x10))); lovelace = 20; assets = [] })) ∷ ((ref 0x01 8), (record { address = (address_with 1 (key 0x01) (Some (script 0x10))); lovelace = 9; assets = [] })) ∷ ((ref 0x05 0), (record { address = (address_with 1 (key 0x01) None); lovelace = 5; assets = [] })) ∷ []); used = ((tx_id 0x01) ∷ (tx_id 0x02) ∷ (tx_id 0x03) ∷ (tx_id 0x04) ∷ (tx_id 0x05) ∷ []); accounts = (((key 0x10), (record { deposit = 2; rewards = 67; pool = (Some (pool 0x50)); drep = (Some (drep.Registered (key 0x30))) })) ∷ ((key 0x11), (record { deposit = 2; rewards = 33; pool = (Some (pool 0x51)); drep = (Some (drep.Registered (key 0x31))) })) ∷ ((key 0x12), (record { deposit = 2; rewards = 0; pool = None; drep = None })) ∷ []); pools = (((pool 0x50), (record { deposit = 5; terms = (record { cost = 0; pledge = 0; margin = (share 0 1); account = (account_on 1 (key 0x12)); key = None }); future = (Some (record { cost = 1; pledge = 2; margin = (share 1 3); account = (account_on 1 (key 0x12)); key = None })); retires = None })) ∷ ((pool 0x51), (record { deposit = 5; terms = (record { cost = 0; pledge = 0; margin = (share 0 1); account = (account_on 1 (key 0x11)); key = None }); future = None; retires = None })) ∷ []); dreps = (((key 0x30), (record { deposit = 5; expiry = 20 })) ∷ ((key 0x31), (record { deposit = 5; expiry = 22 })) ∷ []); hot = (((key 0x70), (Hot (key 0x74))) ∷ ((key 0x72), (Hot (key 0x73))) ∷ []); proposals = (refused_term_out_of_range_proposal_0 ∷ refused_term_out_of_range_proposal_1 ∷ refused_term_out_of_range_proposal_2 ∷ refused_term_out_of_range_proposal_3 ∷ []) }); pending = (Some (record { epoch = 2; from_reserves = 20; from_fees = 3; to_treasury = 8; rewards = (((key 0x10), 10) ∷ ((key 0x11), 5) ∷ []) })); counted = 2; mark = (((pool 0x50), 87) ∷ ((pool 0x51), 33) ∷ []); set = (((pool 0x50), 87) ∷ ((pool 0x51), 33) ∷ []); go = (((pool 0x50), 87) ∷ ((pool 0x51), 33) ∷ []); noted_fees = 30; frozen = (record { epoch = 2; entries = (((key 0x10), (record { stake = 20; registered = (Some (record { deposit = 2; rewards = 67; pool = (Some (pool 0x50)); drep = (Some (drep.Registered (key 0x30))) })) })) ∷ ((script 0x10), (record { stake = 9; registered = None })) ∷ ((key 0x11), (record { stake = 0; registered = (Some (record { deposit = 2; rewards = 33; pool = (Some (pool 0x51)); drep = (Some (drep.Registered (key 0x31))) })) })) ∷ ((key 0x12), (record { stake = 0; registered = (Some (record { deposit = 2; rewards = 0; pool = None; drep = None })) })) ∷ []); dreps = (((key 0x30), 20) ∷ ((key 0x31), 20) ∷ []); mark = (((pool 0x50), 87) ∷ ((pool 0x51), 33) ∷ []); pool_accounts = (((pool 0x50), (account_on 1 (key 0x12))) ∷ ((pool 0x51), (account_on 1 (key 0x11))) ∷ []); hot = (((key 0x70), (Hot (key 0x71))) ∷ ((key 0x72), (Hot (key 0x73))) ∷ []); proposals = ((record refused_term_out_of_range_proposal_0 { votes = (((voter.Pool (pool 0x50)), vote.Abstain) ∷ []) }) ∷ (record refused_term_out_of_range_proposal_1 { votes = (((voter.Committee (key 0x71)), vote.Yes) ∷ ((voter.Drep (key 0x30)), vote.No) ∷ []) }) ∷ (record refused_term_out_of_range_proposal_2 { votes = [] }) ∷ (record refused_term_out_of_range_proposal_3 { votes = [] }) ∷ []); start = (record refused_term_out_of_range_state { treasury = 100 }) }) })

pub refused_term_out_of_range : (has_form refused_term_out_of_range_world) ≡ false
unfolding digits encode_with
refused_term_out_of_range = refl

abbrev refused_parameter_out_of_range_state : EnactState
refused_parameter_out_of_range_state = (record { params = (record base_params { n_opt = 65536; gov_action_lifetime = 20 }); version = (10, 0); committee = (Some (record { threshold = (share 0 1); members = (((key 0x70), 100) ∷ ((key 0x72), 100) ∷ []) })); document = (h32 0x01); script = None; last = (record { committee = None; constitution = None; hardfork = None; parameters = None }); treasury = 100 })

abbrev refused_parameter_out_of_range_proposal_0 : Proposal
refused_parameter_out_of_range_proposal_0 = (record { id = (action 0x02 0); action = (actions.NoConfidence None); deposit = 10; account = (account_on 1 (key 0x12)); expires_after = 20; votes = (((voter.Pool (pool 0x50)), vote.Abstain) ∷ []) })

abbrev refused_parameter_out_of_range_proposal_1 : Proposal
refused_parameter_out_of_range_proposal_1 = (record { id = (action 0x02 1); action = (actions.NewConstitution None (h32 0x02) None); deposit = 10; account = (account_on 1 (key 0x12)); expires_after = 20; votes = (((voter.Committee (key 0x71)), vote.Yes) ∷ ((voter.Drep (key 0x30)), vote.No) ∷ ((voter.Drep (key 0x31)), vote.Yes) ∷ []) })

abbrev refused_parameter_out_of_range_proposal_2 : Proposal
refused_parameter_out_of_range_proposal_2 = (record { id = (action 0x02 2); action = (actions.Info); deposit = 10; account = (account_on 1 (key 0x11)); expires_after = 20; votes = [] })

abbrev refused_parameter_out_of_range_proposal_3 : Proposal
refused_parameter_out_of_range_proposal_3 = (record { id = (action 0x03 0); action = (actions.NoConfidence (Some (action 0x02 0))); deposit = 10; account = (account_on 1 (key 0x12)); expires_after = 20; votes = [] })

abbrev refused_parameter_out_of_range_world : World
refused_parameter_out_of_range_world = (record { ledger = (record { network = 1; epoch_length = 10; supply = 1000; slot = 21; epoch = 2; dormant = 0; reserves = 635; fees = 35; donations = 10; state = refused_parameter_out_of_range_state; outputs = (((ref 0x01 6), (record { address = (address_with 1 (key 0x01) None); lovelace = 20; assets = [] })) ∷ ((ref 0x01 7), (record { address = (address_with 1 (key 0x01) (Some (key 0x10))); lovelace = 20; assets = [] })) ∷ ((ref 0x01 8), (record { address = (address_with 1 (key 0x01) (Some (script 0x10))); lovelace = 9; assets = [] })) ∷ ((ref 0x05 0), (record { address = (address_with 1 (key 0x01) None); lovelace = 5; assets = [] })) ∷ []); used = ((tx_id 0x01) ∷ (tx_id 0x02) ∷ (tx_id 0x03) ∷ (tx_id 0x04) ∷ (tx_id 0x05) ∷ []); accounts = (((key 0x10), (record { deposit = 2; rewards = 67; pool = (Some (pool 0x50)); drep = (Some (drep.Registered (key 0x30))) })) ∷ ((key 0x11), (record { deposit = 2; rewards = 33; pool = (Some (pool 0x51)); drep = (Some (drep.Registered (key 0x31))) })) ∷ ((key 0x12), (record { deposit = 2; rewards = 0; pool = None; drep = None })) ∷ []); pools = (((pool 0x50), (record { deposit = 5; terms = (record { cost = 0; pledge = 0; margin = (share 0 1); account = (account_on 1 (key 0x12)); key = None }); future = (Some (record { cost = 1; pledge = 2; margin = (share 1 3); account = (account_on 1 (key 0x12)); key = None })); retires = None })) ∷ ((pool 0x51), (record { deposit = 5; terms = (record { cost = 0; pledge = 0; margin = (share 0 1); account = (account_on 1 (key 0x11)); key = None }); future = None; retires = None })) ∷ []); dreps = (((key 0x30), (record { deposit = 5; expiry = 20 })) ∷ ((key 0x31), (record { deposit = 5; expiry = 22 })) ∷ []); hot = (((key 0x70), (Hot (key 0x74))) ∷ ((key 0x72), (Hot (key 0x73))) ∷ []); proposals = (refused_parameter_out_of_range_proposal_0 ∷ refused_parameter_out_of_range_proposal_1 ∷ refused_parameter_out_of_range_proposal_2 ∷ refused_parameter_out_of_range_proposal_3 ∷ []) }); pending = (Some (record { epoch = 2; from_reserves = 20; from_fees = 3; to_treasury = 8; rewards = (((key 0x10), 10) ∷ ((key 0x11), 5) ∷ []) })); counted = 2; mark = (((pool 0x50), 87) ∷ ((pool 0x51), 33) ∷ []); set = (((pool 0x50), 87) ∷ ((pool 0x51), 33) ∷ []); go = (((pool 0x50), 87) ∷ ((pool 0x51), 33) ∷ []); noted_fees = 30; frozen = (record { epoch = 2; entries = (((key 0x10), (record { stake = 20; registered = (Some (record { deposit = 2; rewards = 67; pool = (Some (pool 0x50)); drep = (Some (drep.Registered (key 0x30))) })) })) ∷ ((script 0x10), (record { stake = 9; registered = None })) ∷ ((key 0x11), (record { stake = 0; registered = (Some (record { deposit = 2; rewards = 33; pool = (Some (pool 0x51)); drep = (Some (drep.Registered (key 0x31))) })) })) ∷ ((key 0x12), (record { stake = 0; registered = (Some (record { deposit = 2; rewards = 0; pool = None; drep = None })) })) ∷ []); dreps = (((key 0x30), 20) ∷ ((key 0x31), 20) ∷ []); mark = (((pool 0x50), 87) ∷ ((pool 0x51), 33) ∷ []); pool_accounts = (((pool 0x50), (account_on 1 (key 0x12))) ∷ ((pool 0x51), (account_on 1 (key 0x11))) ∷ []); hot = (((key 0x70), (Hot (key 0x71))) ∷ ((key 0x72), (Hot (key 0x73))) ∷ []); proposals = ((record refused_parameter_out_of_range_proposal_0 { votes = (((voter.Pool (pool 0x50)), vote.Abstain) ∷ []) }) ∷ (record refused_parameter_out_of_range_proposal_1 { votes = (((voter.Committee (key 0x71)), vote.Yes) ∷ ((voter.Drep (key 0x30)), vote.No) ∷ []) }) ∷ (record refused_parameter_out_of_range_proposal_2 { votes = [] }) ∷ (record refused_parameter_out_of_range_proposal_3 { votes = [] }) ∷ []); start = (record refused_parameter_out_of_range_state { treasury = 100 }) }) })

pub refused_parameter_out_of_range : (has_form refused_parameter_out_of_range_world) ≡ false
unfolding digits encode_with
refused_parameter_out_of_range = refl

abbrev refused_unit_above_one_state : EnactState
refused_unit_above_one_state = (record { params = (record base_params { rho = (share 2 1); gov_action_lifetime = 20 }); version = (10, 0); committee = (Some (record { threshold = (share 0 1); members = (((key 0x70), 100) ∷ ((key 0x72), 100) ∷ []) })); document = (h32 0x01); script = None; last = (record { committee = None; constitution = None; hardfork = None; parameters = None }); treasury = 100 })

abbrev refused_unit_above_one_proposal_0 : Proposal
refused_unit_above_one_proposal_0 = (record { id = (action 0x02 0); action = (actions.NoConfidence None); deposit = 10; account = (account_on 1 (key 0x12)); expires_after = 20; votes = (((voter.Pool (pool 0x50)), vote.Abstain) ∷ []) })

abbrev refused_unit_above_one_proposal_1 : Proposal
refused_unit_above_one_proposal_1 = (record { id = (action 0x02 1); action = (actions.NewConstitution None (h32 0x02) None); deposit = 10; account = (account_on 1 (key 0x12)); expires_after = 20; votes = (((voter.Committee (key 0x71)), vote.Yes) ∷ ((voter.Drep (key 0x30)), vote.No) ∷ ((voter.Drep (key 0x31)), vote.Yes) ∷ []) })

abbrev refused_unit_above_one_proposal_2 : Proposal
refused_unit_above_one_proposal_2 = (record { id = (action 0x02 2); action = (actions.Info); deposit = 10; account = (account_on 1 (key 0x11)); expires_after = 20; votes = [] })

abbrev refused_unit_above_one_proposal_3 : Proposal
refused_unit_above_one_proposal_3 = (record { id = (action 0x03 0); action = (actions.NoConfidence (Some (action 0x02 0))); deposit = 10; account = (account_on 1 (key 0x12)); expires_after = 20; votes = [] })

abbrev refused_unit_above_one_world : World
refused_unit_above_one_world = (record { ledger = (record { network = 1; epoch_length = 10; supply = 1000; slot = 21; epoch = 2; dormant = 0; reserves = 635; fees = 35; donations = 10; state = refused_unit_above_one_state; outputs = (((ref 0x01 6), (record { address = (address_with 1 (key 0x01) None); lovelace = 20; assets = [] })) ∷ ((ref 0x01 7), (record { address = (address_with 1 (key 0x01) (Some (key 0x10))); lovelace = 20; assets = [] })) ∷ ((ref 0x01 8), (record { address = (address_with 1 (key 0x01) (Some (script 0x10))); lovelace = 9; assets = [] })) ∷ ((ref 0x05 0), (record { address = (address_with 1 (key 0x01) None); lovelace = 5; assets = [] })) ∷ []); used = ((tx_id 0x01) ∷ (tx_id 0x02) ∷ (tx_id 0x03) ∷ (tx_id 0x04) ∷ (tx_id 0x05) ∷ []); accounts = (((key 0x10), (record { deposit = 2; rewards = 67; pool = (Some (pool 0x50)); drep = (Some (drep.Registered (key 0x30))) })) ∷ ((key 0x11), (record { deposit = 2; rewards = 33; pool = (Some (pool 0x51)); drep = (Some (drep.Registered (key 0x31))) })) ∷ ((key 0x12), (record { deposit = 2; rewards = 0; pool = None; drep = None })) ∷ []); pools = (((pool 0x50), (record { deposit = 5; terms = (record { cost = 0; pledge = 0; margin = (share 0 1); account = (account_on 1 (key 0x12)); key = None }); future = (Some (record { cost = 1; pledge = 2; margin = (share 1 3); account = (account_on 1 (key 0x12)); key = None })); retires = None })) ∷ ((pool 0x51), (record { deposit = 5; terms = (record { cost = 0; pledge = 0; margin = (share 0 1); account = (account_on 1 (key 0x11)); key = None }); future = None; retires = None })) ∷ []); dreps = (((key 0x30), (record { deposit = 5; expiry = 20 })) ∷ ((key 0x31), (record { deposit = 5; expiry = 22 })) ∷ []); hot = (((key 0x70), (Hot (key 0x74))) ∷ ((key 0x72), (Hot (key 0x73))) ∷ []); proposals = (refused_unit_above_one_proposal_0 ∷ refused_unit_above_one_proposal_1 ∷ refused_unit_above_one_proposal_2 ∷ refused_unit_above_one_proposal_3 ∷ []) }); pending = (Some (record { epoch = 2; from_reserves = 20; from_fees = 3; to_treasury = 8; rewards = (((key 0x10), 10) ∷ ((key 0x11), 5) ∷ []) })); counted = 2; mark = (((pool 0x50), 87) ∷ ((pool 0x51), 33) ∷ []); set = (((pool 0x50), 87) ∷ ((pool 0x51), 33) ∷ []); go = (((pool 0x50), 87) ∷ ((pool 0x51), 33) ∷ []); noted_fees = 30; frozen = (record { epoch = 2; entries = (((key 0x10), (record { stake = 20; registered = (Some (record { deposit = 2; rewards = 67; pool = (Some (pool 0x50)); drep = (Some (drep.Registered (key 0x30))) })) })) ∷ ((script 0x10), (record { stake = 9; registered = None })) ∷ ((key 0x11), (record { stake = 0; registered = (Some (record { deposit = 2; rewards = 33; pool = (Some (pool 0x51)); drep = (Some (drep.Registered (key 0x31))) })) })) ∷ ((key 0x12), (record { stake = 0; registered = (Some (record { deposit = 2; rewards = 0; pool = None; drep = None })) })) ∷ []); dreps = (((key 0x30), 20) ∷ ((key 0x31), 20) ∷ []); mark = (((pool 0x50), 87) ∷ ((pool 0x51), 33) ∷ []); pool_accounts = (((pool 0x50), (account_on 1 (key 0x12))) ∷ ((pool 0x51), (account_on 1 (key 0x11))) ∷ []); hot = (((key 0x70), (Hot (key 0x71))) ∷ ((key 0x72), (Hot (key 0x73))) ∷ []); proposals = ((record refused_unit_above_one_proposal_0 { votes = (((voter.Pool (pool 0x50)), vote.Abstain) ∷ []) }) ∷ (record refused_unit_above_one_proposal_1 { votes = (((voter.Committee (key 0x71)), vote.Yes) ∷ ((voter.Drep (key 0x30)), vote.No) ∷ []) }) ∷ (record refused_unit_above_one_proposal_2 { votes = [] }) ∷ (record refused_unit_above_one_proposal_3 { votes = [] }) ∷ []); start = (record refused_unit_above_one_state { treasury = 100 }) }) })

pub refused_unit_above_one : (has_form refused_unit_above_one_world) ≡ false
unfolding digits encode_with
refused_unit_above_one = refl

abbrev refused_pool_key_of_31_bytes_state : EnactState
refused_pool_key_of_31_bytes_state = (record { params = base_params; version = (11, 0); committee = (Some (record { threshold = (share 0 1); members = (((key 0x70), 100) ∷ []) })); document = (h32 0x01); script = None; last = (record { committee = None; constitution = None; hardfork = (Some (action 0x02 0)); parameters = None }); treasury = 100 })

abbrev refused_pool_key_of_31_bytes_world : World
refused_pool_key_of_31_bytes_world = (record { ledger = (record { network = 1; epoch_length = 10; supply = 1000; slot = 20; epoch = 2; dormant = 1; reserves = 624; fees = 40; donations = 0; state = refused_pool_key_of_31_bytes_state; outputs = (((ref 0x01 5), (record { address = (address_with 1 (key 0x01) None); lovelace = 20; assets = [] })) ∷ ((ref 0x01 6), (record { address = (address_with 1 (key 0x01) None); lovelace = 20; assets = [] })) ∷ ((ref 0x01 7), (record { address = (address_with 1 (key 0x01) None); lovelace = 20; assets = [] })) ∷ ((ref 0x01 8), (record { address = (address_with 1 (key 0x01) None); lovelace = 20; assets = [] })) ∷ []); used = ((tx_id 0x01) ∷ (tx_id 0x02) ∷ (tx_id 0x03) ∷ (tx_id 0x04) ∷ []); accounts = (((key 0x10), (record { deposit = 2; rewards = 67; pool = None; drep = (Some (drep.Registered (key 0x30))) })) ∷ ((key 0x11), (record { deposit = 2; rewards = 33; pool = None; drep = (Some (drep.Registered (key 0x31))) })) ∷ ((key 0x12), (record { deposit = 2; rewards = 10; pool = None; drep = None })) ∷ []); pools = (((pool 0x48), (record { deposit = 5; terms = (record { cost = 0; pledge = 0; margin = (share 0 1); account = (account_on 1 (key 0x12)); key = (Some (h31 0x04)) }); future = None; retires = None })) ∷ ((pool 0x49), (record { deposit = 5; terms = (record { cost = 0; pledge = 0; margin = (share 0 1); account = (account_on 1 (key 0x12)); key = (Some (h32 0x03)) }); future = None; retires = None })) ∷ ((pool 0x50), (record { deposit = 5; terms = (record { cost = 0; pledge = 0; margin = (share 0 1); account = (account_on 1 (key 0x12)); key = (Some (h32 0x07)) }); future = None; retires = None })) ∷ ((pool 0x51), (record { deposit = 5; terms = (record { cost = 0; pledge = 0; margin = (share 0 1); account = (account_on 1 (key 0x12)); key = (Some (h32 0x07)) }); future = None; retires = None })) ∷ ((pool 0x52), (record { deposit = 5; terms = (record { cost = 0; pledge = 0; margin = (share 0 1); account = (account_on 1 (key 0x12)); key = (Some (h32 0x07)) }); future = None; retires = None })) ∷ ((pool 0x53), (record { deposit = 5; terms = (record { cost = 0; pledge = 0; margin = (share 0 1); account = (account_on 1 (key 0x12)); key = (Some (h32 0x07)) }); future = None; retires = None })) ∷ []); dreps = (((key 0x30), (record { deposit = 5; expiry = 20 })) ∷ ((key 0x31), (record { deposit = 5; expiry = 20 })) ∷ []); hot = (((key 0x70), (Hot (key 0x71))) ∷ []); proposals = [] }); pending = None; counted = 1; mark = (((pool 0x48), 0) ∷ ((pool 0x49), 0) ∷ ((pool 0x50), 0) ∷ ((pool 0x51), 0) ∷ ((pool 0x52), 0) ∷ ((pool 0x53), 0) ∷ []); set = (((pool 0x48), 0) ∷ ((pool 0x49), 0) ∷ ((pool 0x50), 0) ∷ ((pool 0x51), 0) ∷ ((pool 0x52), 0) ∷ ((pool 0x53), 0) ∷ []); go = (((pool 0x48), 0) ∷ ((pool 0x49), 0) ∷ ((pool 0x50), 0) ∷ ((pool 0x51), 0) ∷ []); noted_fees = 40; frozen = (record { epoch = 2; entries = (((key 0x10), (record { stake = 0; registered = (Some (record { deposit = 2; rewards = 67; pool = None; drep = (Some (drep.Registered (key 0x30))) })) })) ∷ ((key 0x11), (record { stake = 0; registered = (Some (record { deposit = 2; rewards = 33; pool = None; drep = (Some (drep.Registered (key 0x31))) })) })) ∷ ((key 0x12), (record { stake = 0; registered = (Some (record { deposit = 2; rewards = 10; pool = None; drep = None })) })) ∷ []); dreps = (((key 0x30), 20) ∷ ((key 0x31), 20) ∷ []); mark = (((pool 0x48), 0) ∷ ((pool 0x49), 0) ∷ ((pool 0x50), 0) ∷ ((pool 0x51), 0) ∷ ((pool 0x52), 0) ∷ ((pool 0x53), 0) ∷ []); pool_accounts = (((pool 0x48), (account_on 1 (key 0x12))) ∷ ((pool 0x49), (account_on 1 (key 0x12))) ∷ ((pool 0x50), (account_on 1 (key 0x12))) ∷ ((pool 0x51), (account_on 1 (key 0x12))) ∷ ((pool 0x52), (account_on 1 (key 0x12))) ∷ ((pool 0x53), (account_on 1 (key 0x12))) ∷ []); hot = (((key 0x70), (Hot (key 0x71))) ∷ []); proposals = []; start = (record refused_pool_key_of_31_bytes_state { treasury = 100 }) }) })

pub refused_pool_key_of_31_bytes : (has_form refused_pool_key_of_31_bytes_world) ≡ false
unfolding digits encode_with
refused_pool_key_of_31_bytes = refl

abbrev refused_action_with_a_name_twice_state : EnactState
refused_action_with_a_name_twice_state = (record { params = (record base_params { gov_action_lifetime = 20 }); version = (10, 0); committee = (Some (record { threshold = (share 0 1); members = (((key 0x70), 100) ∷ ((key 0x72), 100) ∷ []) })); document = (h32 0x01); script = None; last = (record { committee = None; constitution = None; hardfork = None; parameters = None }); treasury = 100 })

abbrev refused_action_with_a_name_twice_proposal_0 : Proposal
refused_action_with_a_name_twice_proposal_0 = (record { id = (action 0x02 0); action = (actions.NoConfidence None); deposit = 10; account = (account_on 1 (key 0x12)); expires_after = 20; votes = (((voter.Pool (pool 0x50)), vote.Abstain) ∷ []) })

abbrev refused_action_with_a_name_twice_proposal_1 : Proposal
refused_action_with_a_name_twice_proposal_1 = (record { id = (action 0x02 1); action = (actions.NewConstitution None (h32 0x02) None); deposit = 10; account = (account_on 1 (key 0x12)); expires_after = 20; votes = (((voter.Committee (key 0x71)), vote.Yes) ∷ ((voter.Drep (key 0x30)), vote.No) ∷ ((voter.Drep (key 0x31)), vote.Yes) ∷ []) })

abbrev refused_action_with_a_name_twice_proposal_2 : Proposal
refused_action_with_a_name_twice_proposal_2 = (record { id = (action 0x02 2); action = (actions.TreasuryWithdrawals (((account_on 1 (key 0x12)), 1) ∷ ((account_on 1 (key 0x12)), 2) ∷ []) None); deposit = 10; account = (account_on 1 (key 0x11)); expires_after = 20; votes = [] })

abbrev refused_action_with_a_name_twice_proposal_3 : Proposal
refused_action_with_a_name_twice_proposal_3 = (record { id = (action 0x03 0); action = (actions.NoConfidence (Some (action 0x02 0))); deposit = 10; account = (account_on 1 (key 0x12)); expires_after = 20; votes = [] })

abbrev refused_action_with_a_name_twice_world : World
refused_action_with_a_name_twice_world = (record { ledger = (record { network = 1; epoch_length = 10; supply = 1000; slot = 21; epoch = 2; dormant = 0; reserves = 635; fees = 35; donations = 10; state = refused_action_with_a_name_twice_state; outputs = (((ref 0x01 6), (record { address = (address_with 1 (key 0x01) None); lovelace = 20; assets = [] })) ∷ ((ref 0x01 7), (record { address = (address_with 1 (key 0x01) (Some (key 0x10))); lovelace = 20; assets = [] })) ∷ ((ref 0x01 8), (record { address = (address_with 1 (key 0x01) (Some (script 0x10))); lovelace = 9; assets = [] })) ∷ ((ref 0x05 0), (record { address = (address_with 1 (key 0x01) None); lovelace = 5; assets = [] })) ∷ []); used = ((tx_id 0x01) ∷ (tx_id 0x02) ∷ (tx_id 0x03) ∷ (tx_id 0x04) ∷ (tx_id 0x05) ∷ []); accounts = (((key 0x10), (record { deposit = 2; rewards = 67; pool = (Some (pool 0x50)); drep = (Some (drep.Registered (key 0x30))) })) ∷ ((key 0x11), (record { deposit = 2; rewards = 33; pool = (Some (pool 0x51)); drep = (Some (drep.Registered (key 0x31))) })) ∷ ((key 0x12), (record { deposit = 2; rewards = 0; pool = None; drep = None })) ∷ []); pools = (((pool 0x50), (record { deposit = 5; terms = (record { cost = 0; pledge = 0; margin = (share 0 1); account = (account_on 1 (key 0x12)); key = None }); future = (Some (record { cost = 1; pledge = 2; margin = (share 1 3); account = (account_on 1 (key 0x12)); key = None })); retires = None })) ∷ ((pool 0x51), (record { deposit = 5; terms = (record { cost = 0; pledge = 0; margin = (share 0 1); account = (account_on 1 (key 0x11)); key = None }); future = None; retires = None })) ∷ []); dreps = (((key 0x30), (record { deposit = 5; expiry = 20 })) ∷ ((key 0x31), (record { deposit = 5; expiry = 22 })) ∷ []); hot = (((key 0x70), (Hot (key 0x74))) ∷ ((key 0x72), (Hot (key 0x73))) ∷ []); proposals = (refused_action_with_a_name_twice_proposal_0 ∷ refused_action_with_a_name_twice_proposal_1 ∷ refused_action_with_a_name_twice_proposal_2 ∷ refused_action_with_a_name_twice_proposal_3 ∷ []) }); pending = (Some (record { epoch = 2; from_reserves = 20; from_fees = 3; to_treasury = 8; rewards = (((key 0x10), 10) ∷ ((key 0x11), 5) ∷ []) })); counted = 2; mark = (((pool 0x50), 87) ∷ ((pool 0x51), 33) ∷ []); set = (((pool 0x50), 87) ∷ ((pool 0x51), 33) ∷ []); go = (((pool 0x50), 87) ∷ ((pool 0x51), 33) ∷ []); noted_fees = 30; frozen = (record { epoch = 2; entries = (((key 0x10), (record { stake = 20; registered = (Some (record { deposit = 2; rewards = 67; pool = (Some (pool 0x50)); drep = (Some (drep.Registered (key 0x30))) })) })) ∷ ((script 0x10), (record { stake = 9; registered = None })) ∷ ((key 0x11), (record { stake = 0; registered = (Some (record { deposit = 2; rewards = 33; pool = (Some (pool 0x51)); drep = (Some (drep.Registered (key 0x31))) })) })) ∷ ((key 0x12), (record { stake = 0; registered = (Some (record { deposit = 2; rewards = 0; pool = None; drep = None })) })) ∷ []); dreps = (((key 0x30), 20) ∷ ((key 0x31), 20) ∷ []); mark = (((pool 0x50), 87) ∷ ((pool 0x51), 33) ∷ []); pool_accounts = (((pool 0x50), (account_on 1 (key 0x12))) ∷ ((pool 0x51), (account_on 1 (key 0x11))) ∷ []); hot = (((key 0x70), (Hot (key 0x71))) ∷ ((key 0x72), (Hot (key 0x73))) ∷ []); proposals = ((record refused_action_with_a_name_twice_proposal_0 { votes = (((voter.Pool (pool 0x50)), vote.Abstain) ∷ []) }) ∷ (record refused_action_with_a_name_twice_proposal_1 { votes = (((voter.Committee (key 0x71)), vote.Yes) ∷ ((voter.Drep (key 0x30)), vote.No) ∷ []) }) ∷ (record refused_action_with_a_name_twice_proposal_2 { votes = [] }) ∷ (record refused_action_with_a_name_twice_proposal_3 { votes = [] }) ∷ []); start = (record refused_action_with_a_name_twice_state { treasury = 100 }) }) })

pub refused_action_with_a_name_twice : (has_form refused_action_with_a_name_twice_world) ≡ false
unfolding digits encode_with
refused_action_with_a_name_twice = refl

abbrev refused_used_ids_out_of_order_state : EnactState
refused_used_ids_out_of_order_state = (record { params = (record base_params { gov_action_lifetime = 20 }); version = (10, 0); committee = (Some (record { threshold = (share 0 1); members = (((key 0x70), 100) ∷ ((key 0x72), 100) ∷ []) })); document = (h32 0x01); script = None; last = (record { committee = None; constitution = None; hardfork = None; parameters = None }); treasury = 100 })

abbrev refused_used_ids_out_of_order_proposal_0 : Proposal
refused_used_ids_out_of_order_proposal_0 = (record { id = (action 0x02 0); action = (actions.NoConfidence None); deposit = 10; account = (account_on 1 (key 0x12)); expires_after = 20; votes = (((voter.Pool (pool 0x50)), vote.Abstain) ∷ []) })

abbrev refused_used_ids_out_of_order_proposal_1 : Proposal
refused_used_ids_out_of_order_proposal_1 = (record { id = (action 0x02 1); action = (actions.NewConstitution None (h32 0x02) None); deposit = 10; account = (account_on 1 (key 0x12)); expires_after = 20; votes = (((voter.Committee (key 0x71)), vote.Yes) ∷ ((voter.Drep (key 0x30)), vote.No) ∷ ((voter.Drep (key 0x31)), vote.Yes) ∷ []) })

abbrev refused_used_ids_out_of_order_proposal_2 : Proposal
refused_used_ids_out_of_order_proposal_2 = (record { id = (action 0x02 2); action = (actions.Info); deposit = 10; account = (account_on 1 (key 0x11)); expires_after = 20; votes = [] })

abbrev refused_used_ids_out_of_order_proposal_3 : Proposal
refused_used_ids_out_of_order_proposal_3 = (record { id = (action 0x03 0); action = (actions.NoConfidence (Some (action 0x02 0))); deposit = 10; account = (account_on 1 (key 0x12)); expires_after = 20; votes = [] })

abbrev refused_used_ids_out_of_order_world : World
refused_used_ids_out_of_order_world = (record { ledger = (record { network = 1; epoch_length = 10; supply = 1000; slot = 21; epoch = 2; dormant = 0; reserves = 635; fees = 35; donations = 10; state = refused_used_ids_out_of_order_state; outputs = (((ref 0x01 6), (record { address = (address_with 1 (key 0x01) None); lovelace = 20; assets = [] })) ∷ ((ref 0x01 7), (record { address = (address_with 1 (key 0x01) (Some (key 0x10))); lovelace = 20; assets = [] })) ∷ ((ref 0x01 8), (record { address = (address_with 1 (key 0x01) (Some (script 0x10))); lovelace = 9; assets = [] })) ∷ ((ref 0x05 0), (record { address = (address_with 1 (key 0x01) None); lovelace = 5; assets = [] })) ∷ []); used = ((tx_id 0x01) ∷ (tx_id 0x02) ∷ (tx_id 0x04) ∷ (tx_id 0x03) ∷ (tx_id 0x05) ∷ []); accounts = (((key 0x10), (record { deposit = 2; rewards = 67; pool = (Some (pool 0x50)); drep = (Some (drep.Registered (key 0x30))) })) ∷ ((key 0x11), (record { deposit = 2; rewards = 33; pool = (Some (pool 0x51)); drep = (Some (drep.Registered (key 0x31))) })) ∷ ((key 0x12), (record { deposit = 2; rewards = 0; pool = None; drep = None })) ∷ []); pools = (((pool 0x50), (record { deposit = 5; terms = (record { cost = 0; pledge = 0; margin = (share 0 1); account = (account_on 1 (key 0x12)); key = None }); future = (Some (record { cost = 1; pledge = 2; margin = (share 1 3); account = (account_on 1 (key 0x12)); key = None })); retires = None })) ∷ ((pool 0x51), (record { deposit = 5; terms = (record { cost = 0; pledge = 0; margin = (share 0 1); account = (account_on 1 (key 0x11)); key = None }); future = None; retires = None })) ∷ []); dreps = (((key 0x30), (record { deposit = 5; expiry = 20 })) ∷ ((key 0x31), (record { deposit = 5; expiry = 22 })) ∷ []); hot = (((key 0x70), (Hot (key 0x74))) ∷ ((key 0x72), (Hot (key 0x73))) ∷ []); proposals = (refused_used_ids_out_of_order_proposal_0 ∷ refused_used_ids_out_of_order_proposal_1 ∷ refused_used_ids_out_of_order_proposal_2 ∷ refused_used_ids_out_of_order_proposal_3 ∷ []) }); pending = (Some (record { epoch = 2; from_reserves = 20; from_fees = 3; to_treasury = 8; rewards = (((key 0x10), 10) ∷ ((key 0x11), 5) ∷ []) })); counted = 2; mark = (((pool 0x50), 87) ∷ ((pool 0x51), 33) ∷ []); set = (((pool 0x50), 87) ∷ ((pool 0x51), 33) ∷ []); go = (((pool 0x50), 87) ∷ ((pool 0x51), 33) ∷ []); noted_fees = 30; frozen = (record { epoch = 2; entries = (((key 0x10), (record { stake = 20; registered = (Some (record { deposit = 2; rewards = 67; pool = (Some (pool 0x50)); drep = (Some (drep.Registered (key 0x30))) })) })) ∷ ((script 0x10), (record { stake = 9; registered = None })) ∷ ((key 0x11), (record { stake = 0; registered = (Some (record { deposit = 2; rewards = 33; pool = (Some (pool 0x51)); drep = (Some (drep.Registered (key 0x31))) })) })) ∷ ((key 0x12), (record { stake = 0; registered = (Some (record { deposit = 2; rewards = 0; pool = None; drep = None })) })) ∷ []); dreps = (((key 0x30), 20) ∷ ((key 0x31), 20) ∷ []); mark = (((pool 0x50), 87) ∷ ((pool 0x51), 33) ∷ []); pool_accounts = (((pool 0x50), (account_on 1 (key 0x12))) ∷ ((pool 0x51), (account_on 1 (key 0x11))) ∷ []); hot = (((key 0x70), (Hot (key 0x71))) ∷ ((key 0x72), (Hot (key 0x73))) ∷ []); proposals = ((record refused_used_ids_out_of_order_proposal_0 { votes = (((voter.Pool (pool 0x50)), vote.Abstain) ∷ []) }) ∷ (record refused_used_ids_out_of_order_proposal_1 { votes = (((voter.Committee (key 0x71)), vote.Yes) ∷ ((voter.Drep (key 0x30)), vote.No) ∷ []) }) ∷ (record refused_used_ids_out_of_order_proposal_2 { votes = [] }) ∷ (record refused_used_ids_out_of_order_proposal_3 { votes = [] }) ∷ []); start = (record refused_used_ids_out_of_order_state { treasury = 100 }) }) })

pub refused_used_ids_out_of_order : (has_form refused_used_ids_out_of_order_world) ≡ false
unfolding digits encode_with
refused_used_ids_out_of_order = refl

abbrev refused_frozen_entries_out_of_order_state : EnactState
refused_frozen_entries_out_of_order_state = (record { params = (record base_params { gov_action_lifetime = 20 }); version = (10, 0); committee = (Some (record { threshold = (share 0 1); members = (((key 0x70), 100) ∷ ((key 0x72), 100) ∷ []) })); document = (h32 0x01); script = None; last = (record { committee = None; constitution = None; hardfork = None; parameters = None }); treasury = 100 })

abbrev refused_frozen_entries_out_of_order_proposal_0 : Proposal
refused_frozen_entries_out_of_order_proposal_0 = (record { id = (action 0x02 0); action = (actions.NoConfidence None); deposit = 10; account = (account_on 1 (key 0x12)); expires_after = 20; votes = (((voter.Pool (pool 0x50)), vote.Abstain) ∷ []) })

abbrev refused_frozen_entries_out_of_order_proposal_1 : Proposal
refused_frozen_entries_out_of_order_proposal_1 = (record { id = (action 0x02 1); action = (actions.NewConstitution None (h32 0x02) None); deposit = 10; account = (account_on 1 (key 0x12)); expires_after = 20; votes = (((voter.Committee (key 0x71)), vote.Yes) ∷ ((voter.Drep (key 0x30)), vote.No) ∷ ((voter.Drep (key 0x31)), vote.Yes) ∷ []) })

abbrev refused_frozen_entries_out_of_order_proposal_2 : Proposal
refused_frozen_entries_out_of_order_proposal_2 = (record { id = (action 0x02 2); action = (actions.Info); deposit = 10; account = (account_on 1 (key 0x11)); expires_after = 20; votes = [] })

abbrev refused_frozen_entries_out_of_order_proposal_3 : Proposal
refused_frozen_entries_out_of_order_proposal_3 = (record { id = (action 0x03 0); action = (actions.NoConfidence (Some (action 0x02 0))); deposit = 10; account = (account_on 1 (key 0x12)); expires_after = 20; votes = [] })

abbrev refused_frozen_entries_out_of_order_world : World
refused_frozen_entries_out_of_order_world = (record { ledger = (record { network = 1; epoch_length = 10; supply = 1000; slot = 21; epoch = 2; dormant = 0; reserves = 635; fees = 35; donations = 10; state = refused_frozen_entries_out_of_order_state; outputs = (((ref 0x01 6), (record { address = (address_with 1 (key 0x01) None); lovelace = 20; assets = [] })) ∷ ((ref 0x01 7), (record { address = (address_with 1 (key 0x01) (Some (key 0x10))); lovelace = 20; assets = [] })) ∷ ((ref 0x01 8), (record { address = (address_with 1 (key 0x01) (Some (script 0x10))); lovelace = 9; assets = [] })) ∷ ((ref 0x05 0), (record { address = (address_with 1 (key 0x01) None); lovelace = 5; assets = [] })) ∷ []); used = ((tx_id 0x01) ∷ (tx_id 0x02) ∷ (tx_id 0x03) ∷ (tx_id 0x04) ∷ (tx_id 0x05) ∷ []); accounts = (((key 0x10), (record { deposit = 2; rewards = 67; pool = (Some (pool 0x50)); drep = (Some (drep.Registered (key 0x30))) })) ∷ ((key 0x11), (record { deposit = 2; rewards = 33; pool = (Some (pool 0x51)); drep = (Some (drep.Registered (key 0x31))) })) ∷ ((key 0x12), (record { deposit = 2; rewards = 0; pool = None; drep = None })) ∷ []); pools = (((pool 0x50), (record { deposit = 5; terms = (record { cost = 0; pledge = 0; margin = (share 0 1); account = (account_on 1 (key 0x12)); key = None }); future = (Some (record { cost = 1; pledge = 2; margin = (share 1 3); account = (account_on 1 (key 0x12)); key = None })); retires = None })) ∷ ((pool 0x51), (record { deposit = 5; terms = (record { cost = 0; pledge = 0; margin = (share 0 1); account = (account_on 1 (key 0x11)); key = None }); future = None; retires = None })) ∷ []); dreps = (((key 0x30), (record { deposit = 5; expiry = 20 })) ∷ ((key 0x31), (record { deposit = 5; expiry = 22 })) ∷ []); hot = (((key 0x70), (Hot (key 0x74))) ∷ ((key 0x72), (Hot (key 0x73))) ∷ []); proposals = (refused_frozen_entries_out_of_order_proposal_0 ∷ refused_frozen_entries_out_of_order_proposal_1 ∷ refused_frozen_entries_out_of_order_proposal_2 ∷ refused_frozen_entries_out_of_order_proposal_3 ∷ []) }); pending = (Some (record { epoch = 2; from_reserves = 20; from_fees = 3; to_treasury = 8; rewards = (((key 0x10), 10) ∷ ((key 0x11), 5) ∷ []) })); counted = 2; mark = (((pool 0x50), 87) ∷ ((pool 0x51), 33) ∷ []); set = (((pool 0x50), 87) ∷ ((pool 0x51), 33) ∷ []); go = (((pool 0x50), 87) ∷ ((pool 0x51), 33) ∷ []); noted_fees = 30; frozen = (record { epoch = 2; entries = (((key 0x10), (record { stake = 20; registered = (Some (record { deposit = 2; rewards = 67; pool = (Some (pool 0x50)); drep = (Some (drep.Registered (key 0x30))) })) })) ∷ ((script 0x10), (record { stake = 9; registered = None })) ∷ ((key 0x12), (record { stake = 0; registered = (Some (record { deposit = 2; rewards = 0; pool = None; drep = None })) })) ∷ ((key 0x11), (record { stake = 0; registered = (Some (record { deposit = 2; rewards = 33; pool = (Some (pool 0x51)); drep = (Some (drep.Registered (key 0x31))) })) })) ∷ []); dreps = (((key 0x30), 20) ∷ ((key 0x31), 20) ∷ []); mark = (((pool 0x50), 87) ∷ ((pool 0x51), 33) ∷ []); pool_accounts = (((pool 0x50), (account_on 1 (key 0x12))) ∷ ((pool 0x51), (account_on 1 (key 0x11))) ∷ []); hot = (((key 0x70), (Hot (key 0x71))) ∷ ((key 0x72), (Hot (key 0x73))) ∷ []); proposals = ((record refused_frozen_entries_out_of_order_proposal_0 { votes = (((voter.Pool (pool 0x50)), vote.Abstain) ∷ []) }) ∷ (record refused_frozen_entries_out_of_order_proposal_1 { votes = (((voter.Committee (key 0x71)), vote.Yes) ∷ ((voter.Drep (key 0x30)), vote.No) ∷ []) }) ∷ (record refused_frozen_entries_out_of_order_proposal_2 { votes = [] }) ∷ (record refused_frozen_entries_out_of_order_proposal_3 { votes = [] }) ∷ []); start = (record refused_frozen_entries_out_of_order_state { treasury = 100 }) }) })

pub refused_frozen_entries_out_of_order : (has_form refused_frozen_entries_out_of_order_world) ≡ false
unfolding digits encode_with
refused_frozen_entries_out_of_order = refl

abbrev refused_frozen_entry_twice_state : EnactState
refused_frozen_entry_twice_state = (record { params = (record base_params { gov_action_lifetime = 20 }); version = (10, 0); committee = (Some (record { threshold = (share 0 1); members = (((key 0x70), 100) ∷ ((key 0x72), 100) ∷ []) })); document = (h32 0x01); script = None; last = (record { committee = None; constitution = None; hardfork = None; parameters = None }); treasury = 100 })

abbrev refused_frozen_entry_twice_proposal_0 : Proposal
refused_frozen_entry_twice_proposal_0 = (record { id = (action 0x02 0); action = (actions.NoConfidence None); deposit = 10; account = (account_on 1 (key 0x12)); expires_after = 20; votes = (((voter.Pool (pool 0x50)), vote.Abstain) ∷ []) })

abbrev refused_frozen_entry_twice_proposal_1 : Proposal
refused_frozen_entry_twice_proposal_1 = (record { id = (action 0x02 1); action = (actions.NewConstitution None (h32 0x02) None); deposit = 10; account = (account_on 1 (key 0x12)); expires_after = 20; votes = (((voter.Committee (key 0x71)), vote.Yes) ∷ ((voter.Drep (key 0x30)), vote.No) ∷ ((voter.Drep (key 0x31)), vote.Yes) ∷ []) })

abbrev refused_frozen_entry_twice_proposal_2 : Proposal
refused_frozen_entry_twice_proposal_2 = (record { id = (action 0x02 2); action = (actions.Info); deposit = 10; account = (account_on 1 (key 0x11)); expires_after = 20; votes = [] })

abbrev refused_frozen_entry_twice_proposal_3 : Proposal
refused_frozen_entry_twice_proposal_3 = (record { id = (action 0x03 0); action = (actions.NoConfidence (Some (action 0x02 0))); deposit = 10; account = (account_on 1 (key 0x12)); expires_after = 20; votes = [] })

abbrev refused_frozen_entry_twice_world : World
refused_frozen_entry_twice_world = (record { ledger = (record { network = 1; epoch_length = 10; supply = 1000; slot = 21; epoch = 2; dormant = 0; reserves = 635; fees = 35; donations = 10; state = refused_frozen_entry_twice_state; outputs = (((ref 0x01 6), (record { address = (address_with 1 (key 0x01) None); lovelace = 20; assets = [] })) ∷ ((ref 0x01 7), (record { address = (address_with 1 (key 0x01) (Some (key 0x10))); lovelace = 20; assets = [] })) ∷ ((ref 0x01 8), (record { address = (address_with 1 (key 0x01) (Some (script 0x10))); lovelace = 9; assets = [] })) ∷ ((ref 0x05 0), (record { address = (address_with 1 (key 0x01) None); lovelace = 5; assets = [] })) ∷ []); used = ((tx_id 0x01) ∷ (tx_id 0x02) ∷ (tx_id 0x03) ∷ (tx_id 0x04) ∷ (tx_id 0x05) ∷ []); accounts = (((key 0x10), (record { deposit = 2; rewards = 67; pool = (Some (pool 0x50)); drep = (Some (drep.Registered (key 0x30))) })) ∷ ((key 0x11), (record { deposit = 2; rewards = 33; pool = (Some (pool 0x51)); drep = (Some (drep.Registered (key 0x31))) })) ∷ ((key 0x12), (record { deposit = 2; rewards = 0; pool = None; drep = None })) ∷ []); pools = (((pool 0x50), (record { deposit = 5; terms = (record { cost = 0; pledge = 0; margin = (share 0 1); account = (account_on 1 (key 0x12)); key = None }); future = (Some (record { cost = 1; pledge = 2; margin = (share 1 3); account = (account_on 1 (key 0x12)); key = None })); retires = None })) ∷ ((pool 0x51), (record { deposit = 5; terms = (record { cost = 0; pledge = 0; margin = (share 0 1); account = (account_on 1 (key 0x11)); key = None }); future = None; retires = None })) ∷ []); dreps = (((key 0x30), (record { deposit = 5; expiry = 20 })) ∷ ((key 0x31), (record { deposit = 5; expiry = 22 })) ∷ []); hot = (((key 0x70), (Hot (key 0x74))) ∷ ((key 0x72), (Hot (key 0x73))) ∷ []); proposals = (refused_frozen_entry_twice_proposal_0 ∷ refused_frozen_entry_twice_proposal_1 ∷ refused_frozen_entry_twice_proposal_2 ∷ refused_frozen_entry_twice_proposal_3 ∷ []) }); pending = (Some (record { epoch = 2; from_reserves = 20; from_fees = 3; to_treasury = 8; rewards = (((key 0x10), 10) ∷ ((key 0x11), 5) ∷ []) })); counted = 2; mark = (((pool 0x50), 87) ∷ ((pool 0x51), 33) ∷ []); set = (((pool 0x50), 87) ∷ ((pool 0x51), 33) ∷ []); go = (((pool 0x50), 87) ∷ ((pool 0x51), 33) ∷ []); noted_fees = 30; frozen = (record { epoch = 2; entries = (((key 0x10), (record { stake = 20; registered = (Some (record { deposit = 2; rewards = 67; pool = (Some (pool 0x50)); drep = (Some (drep.Registered (key 0x30))) })) })) ∷ ((script 0x10), (record { stake = 9; registered = None })) ∷ ((key 0x11), (record { stake = 0; registered = (Some (record { deposit = 2; rewards = 33; pool = (Some (pool 0x51)); drep = (Some (drep.Registered (key 0x31))) })) })) ∷ ((key 0x12), (record { stake = 0; registered = (Some (record { deposit = 2; rewards = 0; pool = None; drep = None })) })) ∷ ((key 0x12), (record { stake = 0; registered = (Some (record { deposit = 2; rewards = 0; pool = None; drep = None })) })) ∷ []); dreps = (((key 0x30), 20) ∷ ((key 0x31), 20) ∷ []); mark = (((pool 0x50), 87) ∷ ((pool 0x51), 33) ∷ []); pool_accounts = (((pool 0x50), (account_on 1 (key 0x12))) ∷ ((pool 0x51), (account_on 1 (key 0x11))) ∷ []); hot = (((key 0x70), (Hot (key 0x71))) ∷ ((key 0x72), (Hot (key 0x73))) ∷ []); proposals = ((record refused_frozen_entry_twice_proposal_0 { votes = (((voter.Pool (pool 0x50)), vote.Abstain) ∷ []) }) ∷ (record refused_frozen_entry_twice_proposal_1 { votes = (((voter.Committee (key 0x71)), vote.Yes) ∷ ((voter.Drep (key 0x30)), vote.No) ∷ []) }) ∷ (record refused_frozen_entry_twice_proposal_2 { votes = [] }) ∷ (record refused_frozen_entry_twice_proposal_3 { votes = [] }) ∷ []); start = (record refused_frozen_entry_twice_state { treasury = 100 }) }) })

pub refused_frozen_entry_twice : (has_form refused_frozen_entry_twice_world) ≡ false
unfolding digits encode_with
refused_frozen_entry_twice = refl

abbrev refused_voter_twice_state : EnactState
refused_voter_twice_state = (record { params = (record base_params { gov_action_lifetime = 20 }); version = (10, 0); committee = (Some (record { threshold = (share 0 1); members = (((key 0x70), 100) ∷ ((key 0x72), 100) ∷ []) })); document = (h32 0x01); script = None; last = (record { committee = None; constitution = None; hardfork = None; parameters = None }); treasury = 100 })

abbrev refused_voter_twice_proposal_0 : Proposal
refused_voter_twice_proposal_0 = (record { id = (action 0x02 0); action = (actions.NoConfidence None); deposit = 10; account = (account_on 1 (key 0x12)); expires_after = 20; votes = (((voter.Pool (pool 0x50)), vote.Abstain) ∷ []) })

abbrev refused_voter_twice_proposal_1 : Proposal
refused_voter_twice_proposal_1 = (record { id = (action 0x02 1); action = (actions.NewConstitution None (h32 0x02) None); deposit = 10; account = (account_on 1 (key 0x12)); expires_after = 20; votes = (((voter.Committee (key 0x71)), vote.Yes) ∷ ((voter.Drep (key 0x30)), vote.No) ∷ ((voter.Drep (key 0x31)), vote.Yes) ∷ ((voter.Drep (key 0x31)), vote.Yes) ∷ []) })

abbrev refused_voter_twice_proposal_2 : Proposal
refused_voter_twice_proposal_2 = (record { id = (action 0x02 2); action = (actions.Info); deposit = 10; account = (account_on 1 (key 0x11)); expires_after = 20; votes = [] })

abbrev refused_voter_twice_proposal_3 : Proposal
refused_voter_twice_proposal_3 = (record { id = (action 0x03 0); action = (actions.NoConfidence (Some (action 0x02 0))); deposit = 10; account = (account_on 1 (key 0x12)); expires_after = 20; votes = [] })

abbrev refused_voter_twice_world : World
refused_voter_twice_world = (record { ledger = (record { network = 1; epoch_length = 10; supply = 1000; slot = 21; epoch = 2; dormant = 0; reserves = 635; fees = 35; donations = 10; state = refused_voter_twice_state; outputs = (((ref 0x01 6), (record { address = (address_with 1 (key 0x01) None); lovelace = 20; assets = [] })) ∷ ((ref 0x01 7), (record { address = (address_with 1 (key 0x01) (Some (key 0x10))); lovelace = 20; assets = [] })) ∷ ((ref 0x01 8), (record { address = (address_with 1 (key 0x01) (Some (script 0x10))); lovelace = 9; assets = [] })) ∷ ((ref 0x05 0), (record { address = (address_with 1 (key 0x01) None); lovelace = 5; assets = [] })) ∷ []); used = ((tx_id 0x01) ∷ (tx_id 0x02) ∷ (tx_id 0x03) ∷ (tx_id 0x04) ∷ (tx_id 0x05) ∷ []); accounts = (((key 0x10), (record { deposit = 2; rewards = 67; pool = (Some (pool 0x50)); drep = (Some (drep.Registered (key 0x30))) })) ∷ ((key 0x11), (record { deposit = 2; rewards = 33; pool = (Some (pool 0x51)); drep = (Some (drep.Registered (key 0x31))) })) ∷ ((key 0x12), (record { deposit = 2; rewards = 0; pool = None; drep = None })) ∷ []); pools = (((pool 0x50), (record { deposit = 5; terms = (record { cost = 0; pledge = 0; margin = (share 0 1); account = (account_on 1 (key 0x12)); key = None }); future = (Some (record { cost = 1; pledge = 2; margin = (share 1 3); account = (account_on 1 (key 0x12)); key = None })); retires = None })) ∷ ((pool 0x51), (record { deposit = 5; terms = (record { cost = 0; pledge = 0; margin = (share 0 1); account = (account_on 1 (key 0x11)); key = None }); future = None; retires = None })) ∷ []); dreps = (((key 0x30), (record { deposit = 5; expiry = 20 })) ∷ ((key 0x31), (record { deposit = 5; expiry = 22 })) ∷ []); hot = (((key 0x70), (Hot (key 0x74))) ∷ ((key 0x72), (Hot (key 0x73))) ∷ []); proposals = (refused_voter_twice_proposal_0 ∷ refused_voter_twice_proposal_1 ∷ refused_voter_twice_proposal_2 ∷ refused_voter_twice_proposal_3 ∷ []) }); pending = (Some (record { epoch = 2; from_reserves = 20; from_fees = 3; to_treasury = 8; rewards = (((key 0x10), 10) ∷ ((key 0x11), 5) ∷ []) })); counted = 2; mark = (((pool 0x50), 87) ∷ ((pool 0x51), 33) ∷ []); set = (((pool 0x50), 87) ∷ ((pool 0x51), 33) ∷ []); go = (((pool 0x50), 87) ∷ ((pool 0x51), 33) ∷ []); noted_fees = 30; frozen = (record { epoch = 2; entries = (((key 0x10), (record { stake = 20; registered = (Some (record { deposit = 2; rewards = 67; pool = (Some (pool 0x50)); drep = (Some (drep.Registered (key 0x30))) })) })) ∷ ((script 0x10), (record { stake = 9; registered = None })) ∷ ((key 0x11), (record { stake = 0; registered = (Some (record { deposit = 2; rewards = 33; pool = (Some (pool 0x51)); drep = (Some (drep.Registered (key 0x31))) })) })) ∷ ((key 0x12), (record { stake = 0; registered = (Some (record { deposit = 2; rewards = 0; pool = None; drep = None })) })) ∷ []); dreps = (((key 0x30), 20) ∷ ((key 0x31), 20) ∷ []); mark = (((pool 0x50), 87) ∷ ((pool 0x51), 33) ∷ []); pool_accounts = (((pool 0x50), (account_on 1 (key 0x12))) ∷ ((pool 0x51), (account_on 1 (key 0x11))) ∷ []); hot = (((key 0x70), (Hot (key 0x71))) ∷ ((key 0x72), (Hot (key 0x73))) ∷ []); proposals = ((record refused_voter_twice_proposal_0 { votes = (((voter.Pool (pool 0x50)), vote.Abstain) ∷ []) }) ∷ (record refused_voter_twice_proposal_1 { votes = (((voter.Committee (key 0x71)), vote.Yes) ∷ ((voter.Drep (key 0x30)), vote.No) ∷ []) }) ∷ (record refused_voter_twice_proposal_2 { votes = [] }) ∷ (record refused_voter_twice_proposal_3 { votes = [] }) ∷ []); start = (record refused_voter_twice_state { treasury = 100 }) }) })

pub refused_voter_twice : (has_form refused_voter_twice_world) ≡ false
unfolding digits encode_with
refused_voter_twice = refl

abbrev refused_frozen_vote_twice_state : EnactState
refused_frozen_vote_twice_state = (record { params = (record base_params { gov_action_lifetime = 20 }); version = (10, 0); committee = (Some (record { threshold = (share 0 1); members = (((key 0x70), 100) ∷ ((key 0x72), 100) ∷ []) })); document = (h32 0x01); script = None; last = (record { committee = None; constitution = None; hardfork = None; parameters = None }); treasury = 100 })

abbrev refused_frozen_vote_twice_proposal_0 : Proposal
refused_frozen_vote_twice_proposal_0 = (record { id = (action 0x02 0); action = (actions.NoConfidence None); deposit = 10; account = (account_on 1 (key 0x12)); expires_after = 20; votes = (((voter.Pool (pool 0x50)), vote.Abstain) ∷ []) })

abbrev refused_frozen_vote_twice_proposal_1 : Proposal
refused_frozen_vote_twice_proposal_1 = (record { id = (action 0x02 1); action = (actions.NewConstitution None (h32 0x02) None); deposit = 10; account = (account_on 1 (key 0x12)); expires_after = 20; votes = (((voter.Committee (key 0x71)), vote.Yes) ∷ ((voter.Drep (key 0x30)), vote.No) ∷ ((voter.Drep (key 0x31)), vote.Yes) ∷ []) })

abbrev refused_frozen_vote_twice_proposal_2 : Proposal
refused_frozen_vote_twice_proposal_2 = (record { id = (action 0x02 2); action = (actions.Info); deposit = 10; account = (account_on 1 (key 0x11)); expires_after = 20; votes = [] })

abbrev refused_frozen_vote_twice_proposal_3 : Proposal
refused_frozen_vote_twice_proposal_3 = (record { id = (action 0x03 0); action = (actions.NoConfidence (Some (action 0x02 0))); deposit = 10; account = (account_on 1 (key 0x12)); expires_after = 20; votes = [] })

abbrev refused_frozen_vote_twice_world : World
refused_frozen_vote_twice_world = (record { ledger = (record { network = 1; epoch_length = 10; supply = 1000; slot = 21; epoch = 2; dormant = 0; reserves = 635; fees = 35; donations = 10; state = refused_frozen_vote_twice_state; outputs = (((ref 0x01 6), (record { address = (address_with 1 (key 0x01) None); lovelace = 20; assets = [] })) ∷ ((ref 0x01 7), (record { address = (address_with 1 (key 0x01) (Some (key 0x10))); lovelace = 20; assets = [] })) ∷ ((ref 0x01 8), (record { address = (address_with 1 (key 0x01) (Some (script 0x10))); lovelace = 9; assets = [] })) ∷ ((ref 0x05 0), (record { address = (address_with 1 (key 0x01) None); lovelace = 5; assets = [] })) ∷ []); used = ((tx_id 0x01) ∷ (tx_id 0x02) ∷ (tx_id 0x03) ∷ (tx_id 0x04) ∷ (tx_id 0x05) ∷ []); accounts = (((key 0x10), (record { deposit = 2; rewards = 67; pool = (Some (pool 0x50)); drep = (Some (drep.Registered (key 0x30))) })) ∷ ((key 0x11), (record { deposit = 2; rewards = 33; pool = (Some (pool 0x51)); drep = (Some (drep.Registered (key 0x31))) })) ∷ ((key 0x12), (record { deposit = 2; rewards = 0; pool = None; drep = None })) ∷ []); pools = (((pool 0x50), (record { deposit = 5; terms = (record { cost = 0; pledge = 0; margin = (share 0 1); account = (account_on 1 (key 0x12)); key = None }); future = (Some (record { cost = 1; pledge = 2; margin = (share 1 3); account = (account_on 1 (key 0x12)); key = None })); retires = None })) ∷ ((pool 0x51), (record { deposit = 5; terms = (record { cost = 0; pledge = 0; margin = (share 0 1); account = (account_on 1 (key 0x11)); key = None }); future = None; retires = None })) ∷ []); dreps = (((key 0x30), (record { deposit = 5; expiry = 20 })) ∷ ((key 0x31), (record { deposit = 5; expiry = 22 })) ∷ []); hot = (((key 0x70), (Hot (key 0x74))) ∷ ((key 0x72), (Hot (key 0x73))) ∷ []); proposals = (refused_frozen_vote_twice_proposal_0 ∷ refused_frozen_vote_twice_proposal_1 ∷ refused_frozen_vote_twice_proposal_2 ∷ refused_frozen_vote_twice_proposal_3 ∷ []) }); pending = (Some (record { epoch = 2; from_reserves = 20; from_fees = 3; to_treasury = 8; rewards = (((key 0x10), 10) ∷ ((key 0x11), 5) ∷ []) })); counted = 2; mark = (((pool 0x50), 87) ∷ ((pool 0x51), 33) ∷ []); set = (((pool 0x50), 87) ∷ ((pool 0x51), 33) ∷ []); go = (((pool 0x50), 87) ∷ ((pool 0x51), 33) ∷ []); noted_fees = 30; frozen = (record { epoch = 2; entries = (((key 0x10), (record { stake = 20; registered = (Some (record { deposit = 2; rewards = 67; pool = (Some (pool 0x50)); drep = (Some (drep.Registered (key 0x30))) })) })) ∷ ((script 0x10), (record { stake = 9; registered = None })) ∷ ((key 0x11), (record { stake = 0; registered = (Some (record { deposit = 2; rewards = 33; pool = (Some (pool 0x51)); drep = (Some (drep.Registered (key 0x31))) })) })) ∷ ((key 0x12), (record { stake = 0; registered = (Some (record { deposit = 2; rewards = 0; pool = None; drep = None })) })) ∷ []); dreps = (((key 0x30), 20) ∷ ((key 0x31), 20) ∷ []); mark = (((pool 0x50), 87) ∷ ((pool 0x51), 33) ∷ []); pool_accounts = (((pool 0x50), (account_on 1 (key 0x12))) ∷ ((pool 0x51), (account_on 1 (key 0x11))) ∷ []); hot = (((key 0x70), (Hot (key 0x71))) ∷ ((key 0x72), (Hot (key 0x73))) ∷ []); proposals = ((record refused_frozen_vote_twice_proposal_0 { votes = (((voter.Pool (pool 0x50)), vote.Abstain) ∷ []) }) ∷ (record refused_frozen_vote_twice_proposal_1 { votes = (((voter.Committee (key 0x71)), vote.Yes) ∷ ((voter.Drep (key 0x30)), vote.No) ∷ ((voter.Drep (key 0x30)), vote.No) ∷ []) }) ∷ (record refused_frozen_vote_twice_proposal_2 { votes = [] }) ∷ (record refused_frozen_vote_twice_proposal_3 { votes = [] }) ∷ []); start = (record refused_frozen_vote_twice_state { treasury = 100 }) }) })

pub refused_frozen_vote_twice : (has_form refused_frozen_vote_twice_world) ≡ false
unfolding digits encode_with
refused_frozen_vote_twice = refl

abbrev refused_mark_twice_state : EnactState
refused_mark_twice_state = (record { params = (record base_params { gov_action_lifetime = 20 }); version = (10, 0); committee = (Some (record { threshold = (share 0 1); members = (((key 0x70), 100) ∷ ((key 0x72), 100) ∷ []) })); document = (h32 0x01); script = None; last = (record { committee = None; constitution = None; hardfork = None; parameters = None }); treasury = 100 })

abbrev refused_mark_twice_proposal_0 : Proposal
refused_mark_twice_proposal_0 = (record { id = (action 0x02 0); action = (actions.NoConfidence None); deposit = 10; account = (account_on 1 (key 0x12)); expires_after = 20; votes = (((voter.Pool (pool 0x50)), vote.Abstain) ∷ []) })

abbrev refused_mark_twice_proposal_1 : Proposal
refused_mark_twice_proposal_1 = (record { id = (action 0x02 1); action = (actions.NewConstitution None (h32 0x02) None); deposit = 10; account = (account_on 1 (key 0x12)); expires_after = 20; votes = (((voter.Committee (key 0x71)), vote.Yes) ∷ ((voter.Drep (key 0x30)), vote.No) ∷ ((voter.Drep (key 0x31)), vote.Yes) ∷ []) })

abbrev refused_mark_twice_proposal_2 : Proposal
refused_mark_twice_proposal_2 = (record { id = (action 0x02 2); action = (actions.Info); deposit = 10; account = (account_on 1 (key 0x11)); expires_after = 20; votes = [] })

abbrev refused_mark_twice_proposal_3 : Proposal
refused_mark_twice_proposal_3 = (record { id = (action 0x03 0); action = (actions.NoConfidence (Some (action 0x02 0))); deposit = 10; account = (account_on 1 (key 0x12)); expires_after = 20; votes = [] })

abbrev refused_mark_twice_world : World
refused_mark_twice_world = (record { ledger = (record { network = 1; epoch_length = 10; supply = 1000; slot = 21; epoch = 2; dormant = 0; reserves = 635; fees = 35; donations = 10; state = refused_mark_twice_state; outputs = (((ref 0x01 6), (record { address = (address_with 1 (key 0x01) None); lovelace = 20; assets = [] })) ∷ ((ref 0x01 7), (record { address = (address_with 1 (key 0x01) (Some (key 0x10))); lovelace = 20; assets = [] })) ∷ ((ref 0x01 8), (record { address = (address_with 1 (key 0x01) (Some (script 0x10))); lovelace = 9; assets = [] })) ∷ ((ref 0x05 0), (record { address = (address_with 1 (key 0x01) None); lovelace = 5; assets = [] })) ∷ []); used = ((tx_id 0x01) ∷ (tx_id 0x02) ∷ (tx_id 0x03) ∷ (tx_id 0x04) ∷ (tx_id 0x05) ∷ []); accounts = (((key 0x10), (record { deposit = 2; rewards = 67; pool = (Some (pool 0x50)); drep = (Some (drep.Registered (key 0x30))) })) ∷ ((key 0x11), (record { deposit = 2; rewards = 33; pool = (Some (pool 0x51)); drep = (Some (drep.Registered (key 0x31))) })) ∷ ((key 0x12), (record { deposit = 2; rewards = 0; pool = None; drep = None })) ∷ []); pools = (((pool 0x50), (record { deposit = 5; terms = (record { cost = 0; pledge = 0; margin = (share 0 1); account = (account_on 1 (key 0x12)); key = None }); future = (Some (record { cost = 1; pledge = 2; margin = (share 1 3); account = (account_on 1 (key 0x12)); key = None })); retires = None })) ∷ ((pool 0x51), (record { deposit = 5; terms = (record { cost = 0; pledge = 0; margin = (share 0 1); account = (account_on 1 (key 0x11)); key = None }); future = None; retires = None })) ∷ []); dreps = (((key 0x30), (record { deposit = 5; expiry = 20 })) ∷ ((key 0x31), (record { deposit = 5; expiry = 22 })) ∷ []); hot = (((key 0x70), (Hot (key 0x74))) ∷ ((key 0x72), (Hot (key 0x73))) ∷ []); proposals = (refused_mark_twice_proposal_0 ∷ refused_mark_twice_proposal_1 ∷ refused_mark_twice_proposal_2 ∷ refused_mark_twice_proposal_3 ∷ []) }); pending = (Some (record { epoch = 2; from_reserves = 20; from_fees = 3; to_treasury = 8; rewards = (((key 0x10), 10) ∷ ((key 0x11), 5) ∷ []) })); counted = 2; mark = (((pool 0x50), 87) ∷ ((pool 0x51), 33) ∷ ((pool 0x51), 33) ∷ []); set = (((pool 0x50), 87) ∷ ((pool 0x51), 33) ∷ []); go = (((pool 0x50), 87) ∷ ((pool 0x51), 33) ∷ []); noted_fees = 30; frozen = (record { epoch = 2; entries = (((key 0x10), (record { stake = 20; registered = (Some (record { deposit = 2; rewards = 67; pool = (Some (pool 0x50)); drep = (Some (drep.Registered (key 0x30))) })) })) ∷ ((script 0x10), (record { stake = 9; registered = None })) ∷ ((key 0x11), (record { stake = 0; registered = (Some (record { deposit = 2; rewards = 33; pool = (Some (pool 0x51)); drep = (Some (drep.Registered (key 0x31))) })) })) ∷ ((key 0x12), (record { stake = 0; registered = (Some (record { deposit = 2; rewards = 0; pool = None; drep = None })) })) ∷ []); dreps = (((key 0x30), 20) ∷ ((key 0x31), 20) ∷ []); mark = (((pool 0x50), 87) ∷ ((pool 0x51), 33) ∷ ((pool 0x51), 33) ∷ []); pool_accounts = (((pool 0x50), (account_on 1 (key 0x12))) ∷ ((pool 0x51), (account_on 1 (key 0x11))) ∷ ((pool 0x51), (account_on 1 (key 0x11))) ∷ []); hot = (((key 0x70), (Hot (key 0x71))) ∷ ((key 0x72), (Hot (key 0x73))) ∷ []); proposals = ((record refused_mark_twice_proposal_0 { votes = (((voter.Pool (pool 0x50)), vote.Abstain) ∷ []) }) ∷ (record refused_mark_twice_proposal_1 { votes = (((voter.Committee (key 0x71)), vote.Yes) ∷ ((voter.Drep (key 0x30)), vote.No) ∷ []) }) ∷ (record refused_mark_twice_proposal_2 { votes = [] }) ∷ (record refused_mark_twice_proposal_3 { votes = [] }) ∷ []); start = (record refused_mark_twice_state { treasury = 100 }) }) })

pub refused_mark_twice : (has_form refused_mark_twice_world) ≡ false
unfolding digits encode_with
refused_mark_twice = refl

abbrev refused_unknown_pool_state : EnactState
refused_unknown_pool_state = (record { params = (record base_params { gov_action_lifetime = 20 }); version = (10, 0); committee = (Some (record { threshold = (share 0 1); members = (((key 0x70), 100) ∷ ((key 0x72), 100) ∷ []) })); document = (h32 0x01); script = None; last = (record { committee = None; constitution = None; hardfork = None; parameters = None }); treasury = 100 })

abbrev refused_unknown_pool_proposal_0 : Proposal
refused_unknown_pool_proposal_0 = (record { id = (action 0x02 0); action = (actions.NoConfidence None); deposit = 10; account = (account_on 1 (key 0x12)); expires_after = 20; votes = (((voter.Pool (pool 0x50)), vote.Abstain) ∷ []) })

abbrev refused_unknown_pool_proposal_1 : Proposal
refused_unknown_pool_proposal_1 = (record { id = (action 0x02 1); action = (actions.NewConstitution None (h32 0x02) None); deposit = 10; account = (account_on 1 (key 0x12)); expires_after = 20; votes = (((voter.Committee (key 0x71)), vote.Yes) ∷ ((voter.Drep (key 0x30)), vote.No) ∷ ((voter.Drep (key 0x31)), vote.Yes) ∷ []) })

abbrev refused_unknown_pool_proposal_2 : Proposal
refused_unknown_pool_proposal_2 = (record { id = (action 0x02 2); action = (actions.Info); deposit = 10; account = (account_on 1 (key 0x11)); expires_after = 20; votes = [] })

abbrev refused_unknown_pool_proposal_3 : Proposal
refused_unknown_pool_proposal_3 = (record { id = (action 0x03 0); action = (actions.NoConfidence (Some (action 0x02 0))); deposit = 10; account = (account_on 1 (key 0x12)); expires_after = 20; votes = [] })

abbrev refused_unknown_pool_world : World
refused_unknown_pool_world = (record { ledger = (record { network = 1; epoch_length = 10; supply = 1000; slot = 21; epoch = 2; dormant = 0; reserves = 635; fees = 35; donations = 10; state = refused_unknown_pool_state; outputs = (((ref 0x01 6), (record { address = (address_with 1 (key 0x01) None); lovelace = 20; assets = [] })) ∷ ((ref 0x01 7), (record { address = (address_with 1 (key 0x01) (Some (key 0x10))); lovelace = 20; assets = [] })) ∷ ((ref 0x01 8), (record { address = (address_with 1 (key 0x01) (Some (script 0x10))); lovelace = 9; assets = [] })) ∷ ((ref 0x05 0), (record { address = (address_with 1 (key 0x01) None); lovelace = 5; assets = [] })) ∷ []); used = ((tx_id 0x01) ∷ (tx_id 0x02) ∷ (tx_id 0x03) ∷ (tx_id 0x04) ∷ (tx_id 0x05) ∷ []); accounts = (((key 0x10), (record { deposit = 2; rewards = 67; pool = (Some (pool 0x50)); drep = (Some (drep.Registered (key 0x30))) })) ∷ ((key 0x11), (record { deposit = 2; rewards = 33; pool = (Some (pool 0x51)); drep = (Some (drep.Registered (key 0x31))) })) ∷ ((key 0x12), (record { deposit = 2; rewards = 0; pool = (Some (pool 0x52)); drep = None })) ∷ []); pools = (((pool 0x50), (record { deposit = 5; terms = (record { cost = 0; pledge = 0; margin = (share 0 1); account = (account_on 1 (key 0x12)); key = None }); future = (Some (record { cost = 1; pledge = 2; margin = (share 1 3); account = (account_on 1 (key 0x12)); key = None })); retires = None })) ∷ ((pool 0x51), (record { deposit = 5; terms = (record { cost = 0; pledge = 0; margin = (share 0 1); account = (account_on 1 (key 0x11)); key = None }); future = None; retires = None })) ∷ []); dreps = (((key 0x30), (record { deposit = 5; expiry = 20 })) ∷ ((key 0x31), (record { deposit = 5; expiry = 22 })) ∷ []); hot = (((key 0x70), (Hot (key 0x74))) ∷ ((key 0x72), (Hot (key 0x73))) ∷ []); proposals = (refused_unknown_pool_proposal_0 ∷ refused_unknown_pool_proposal_1 ∷ refused_unknown_pool_proposal_2 ∷ refused_unknown_pool_proposal_3 ∷ []) }); pending = (Some (record { epoch = 2; from_reserves = 20; from_fees = 3; to_treasury = 8; rewards = (((key 0x10), 10) ∷ ((key 0x11), 5) ∷ []) })); counted = 2; mark = (((pool 0x50), 87) ∷ ((pool 0x51), 33) ∷ []); set = (((pool 0x50), 87) ∷ ((pool 0x51), 33) ∷ []); go = (((pool 0x50), 87) ∷ ((pool 0x51), 33) ∷ []); noted_fees = 30; frozen = (record { epoch = 2; entries = (((key 0x10), (record { stake = 20; registered = (Some (record { deposit = 2; rewards = 67; pool = (Some (pool 0x50)); drep = (Some (drep.Registered (key 0x30))) })) })) ∷ ((script 0x10), (record { stake = 9; registered = None })) ∷ ((key 0x11), (record { stake = 0; registered = (Some (record { deposit = 2; rewards = 33; pool = (Some (pool 0x51)); drep = (Some (drep.Registered (key 0x31))) })) })) ∷ ((key 0x12), (record { stake = 0; registered = (Some (record { deposit = 2; rewards = 0; pool = None; drep = None })) })) ∷ []); dreps = (((key 0x30), 20) ∷ ((key 0x31), 20) ∷ []); mark = (((pool 0x50), 87) ∷ ((pool 0x51), 33) ∷ []); pool_accounts = (((pool 0x50), (account_on 1 (key 0x12))) ∷ ((pool 0x51), (account_on 1 (key 0x11))) ∷ []); hot = (((key 0x70), (Hot (key 0x71))) ∷ ((key 0x72), (Hot (key 0x73))) ∷ []); proposals = ((record refused_unknown_pool_proposal_0 { votes = (((voter.Pool (pool 0x50)), vote.Abstain) ∷ []) }) ∷ (record refused_unknown_pool_proposal_1 { votes = (((voter.Committee (key 0x71)), vote.Yes) ∷ ((voter.Drep (key 0x30)), vote.No) ∷ []) }) ∷ (record refused_unknown_pool_proposal_2 { votes = [] }) ∷ (record refused_unknown_pool_proposal_3 { votes = [] }) ∷ []); start = (record refused_unknown_pool_state { treasury = 100 }) }) })

pub refused_unknown_pool : (delegates_to_registered refused_unknown_pool_world.ledger) ≡ false
unfolding digits encode_with
refused_unknown_pool = refl

abbrev refused_unknown_drep_state : EnactState
refused_unknown_drep_state = (record { params = (record base_params { gov_action_lifetime = 20 }); version = (10, 0); committee = (Some (record { threshold = (share 0 1); members = (((key 0x70), 100) ∷ ((key 0x72), 100) ∷ []) })); document = (h32 0x01); script = None; last = (record { committee = None; constitution = None; hardfork = None; parameters = None }); treasury = 100 })

abbrev refused_unknown_drep_proposal_0 : Proposal
refused_unknown_drep_proposal_0 = (record { id = (action 0x02 0); action = (actions.NoConfidence None); deposit = 10; account = (account_on 1 (key 0x12)); expires_after = 20; votes = (((voter.Pool (pool 0x50)), vote.Abstain) ∷ []) })

abbrev refused_unknown_drep_proposal_1 : Proposal
refused_unknown_drep_proposal_1 = (record { id = (action 0x02 1); action = (actions.NewConstitution None (h32 0x02) None); deposit = 10; account = (account_on 1 (key 0x12)); expires_after = 20; votes = (((voter.Committee (key 0x71)), vote.Yes) ∷ ((voter.Drep (key 0x30)), vote.No) ∷ ((voter.Drep (key 0x31)), vote.Yes) ∷ []) })

abbrev refused_unknown_drep_proposal_2 : Proposal
refused_unknown_drep_proposal_2 = (record { id = (action 0x02 2); action = (actions.Info); deposit = 10; account = (account_on 1 (key 0x11)); expires_after = 20; votes = [] })

abbrev refused_unknown_drep_proposal_3 : Proposal
refused_unknown_drep_proposal_3 = (record { id = (action 0x03 0); action = (actions.NoConfidence (Some (action 0x02 0))); deposit = 10; account = (account_on 1 (key 0x12)); expires_after = 20; votes = [] })

abbrev refused_unknown_drep_world : World
refused_unknown_drep_world = (record { ledger = (record { network = 1; epoch_length = 10; supply = 1000; slot = 21; epoch = 2; dormant = 0; reserves = 635; fees = 35; donations = 10; state = refused_unknown_drep_state; outputs = (((ref 0x01 6), (record { address = (address_with 1 (key 0x01) None); lovelace = 20; assets = [] })) ∷ ((ref 0x01 7), (record { address = (address_with 1 (key 0x01) (Some (key 0x10))); lovelace = 20; assets = [] })) ∷ ((ref 0x01 8), (record { address = (address_with 1 (key 0x01) (Some (script 0x10))); lovelace = 9; assets = [] })) ∷ ((ref 0x05 0), (record { address = (address_with 1 (key 0x01) None); lovelace = 5; assets = [] })) ∷ []); used = ((tx_id 0x01) ∷ (tx_id 0x02) ∷ (tx_id 0x03) ∷ (tx_id 0x04) ∷ (tx_id 0x05) ∷ []); accounts = (((key 0x10), (record { deposit = 2; rewards = 67; pool = (Some (pool 0x50)); drep = (Some (drep.Registered (key 0x30))) })) ∷ ((key 0x11), (record { deposit = 2; rewards = 33; pool = (Some (pool 0x51)); drep = (Some (drep.Registered (key 0x31))) })) ∷ ((key 0x12), (record { deposit = 2; rewards = 0; pool = None; drep = (Some (drep.Registered (script 0x30))) })) ∷ []); pools = (((pool 0x50), (record { deposit = 5; terms = (record { cost = 0; pledge = 0; margin = (share 0 1); account = (account_on 1 (key 0x12)); key = None }); future = (Some (record { cost = 1; pledge = 2; margin = (share 1 3); account = (account_on 1 (key 0x12)); key = None })); retires = None })) ∷ ((pool 0x51), (record { deposit = 5; terms = (record { cost = 0; pledge = 0; margin = (share 0 1); account = (account_on 1 (key 0x11)); key = None }); future = None; retires = None })) ∷ []); dreps = (((key 0x30), (record { deposit = 5; expiry = 20 })) ∷ ((key 0x31), (record { deposit = 5; expiry = 22 })) ∷ []); hot = (((key 0x70), (Hot (key 0x74))) ∷ ((key 0x72), (Hot (key 0x73))) ∷ []); proposals = (refused_unknown_drep_proposal_0 ∷ refused_unknown_drep_proposal_1 ∷ refused_unknown_drep_proposal_2 ∷ refused_unknown_drep_proposal_3 ∷ []) }); pending = (Some (record { epoch = 2; from_reserves = 20; from_fees = 3; to_treasury = 8; rewards = (((key 0x10), 10) ∷ ((key 0x11), 5) ∷ []) })); counted = 2; mark = (((pool 0x50), 87) ∷ ((pool 0x51), 33) ∷ []); set = (((pool 0x50), 87) ∷ ((pool 0x51), 33) ∷ []); go = (((pool 0x50), 87) ∷ ((pool 0x51), 33) ∷ []); noted_fees = 30; frozen = (record { epoch = 2; entries = (((key 0x10), (record { stake = 20; registered = (Some (record { deposit = 2; rewards = 67; pool = (Some (pool 0x50)); drep = (Some (drep.Registered (key 0x30))) })) })) ∷ ((script 0x10), (record { stake = 9; registered = None })) ∷ ((key 0x11), (record { stake = 0; registered = (Some (record { deposit = 2; rewards = 33; pool = (Some (pool 0x51)); drep = (Some (drep.Registered (key 0x31))) })) })) ∷ ((key 0x12), (record { stake = 0; registered = (Some (record { deposit = 2; rewards = 0; pool = None; drep = None })) })) ∷ []); dreps = (((key 0x30), 20) ∷ ((key 0x31), 20) ∷ []); mark = (((pool 0x50), 87) ∷ ((pool 0x51), 33) ∷ []); pool_accounts = (((pool 0x50), (account_on 1 (key 0x12))) ∷ ((pool 0x51), (account_on 1 (key 0x11))) ∷ []); hot = (((key 0x70), (Hot (key 0x71))) ∷ ((key 0x72), (Hot (key 0x73))) ∷ []); proposals = ((record refused_unknown_drep_proposal_0 { votes = (((voter.Pool (pool 0x50)), vote.Abstain) ∷ []) }) ∷ (record refused_unknown_drep_proposal_1 { votes = (((voter.Committee (key 0x71)), vote.Yes) ∷ ((voter.Drep (key 0x30)), vote.No) ∷ []) }) ∷ (record refused_unknown_drep_proposal_2 { votes = [] }) ∷ (record refused_unknown_drep_proposal_3 { votes = [] }) ∷ []); start = (record refused_unknown_drep_state { treasury = 100 }) }) })

pub refused_unknown_drep : (delegates_to_registered refused_unknown_drep_world.ledger) ≡ false
unfolding digits encode_with
refused_unknown_drep = refl

abbrev refused_unregistered_without_stake_state : EnactState
refused_unregistered_without_stake_state = (record { params = (record base_params { gov_action_lifetime = 20 }); version = (10, 0); committee = (Some (record { threshold = (share 0 1); members = (((key 0x70), 100) ∷ ((key 0x72), 100) ∷ []) })); document = (h32 0x01); script = None; last = (record { committee = None; constitution = None; hardfork = None; parameters = None }); treasury = 100 })

abbrev refused_unregistered_without_stake_proposal_0 : Proposal
refused_unregistered_without_stake_proposal_0 = (record { id = (action 0x02 0); action = (actions.NoConfidence None); deposit = 10; account = (account_on 1 (key 0x12)); expires_after = 20; votes = (((voter.Pool (pool 0x50)), vote.Abstain) ∷ []) })

abbrev refused_unregistered_without_stake_proposal_1 : Proposal
refused_unregistered_without_stake_proposal_1 = (record { id = (action 0x02 1); action = (actions.NewConstitution None (h32 0x02) None); deposit = 10; account = (account_on 1 (key 0x12)); expires_after = 20; votes = (((voter.Committee (key 0x71)), vote.Yes) ∷ ((voter.Drep (key 0x30)), vote.No) ∷ ((voter.Drep (key 0x31)), vote.Yes) ∷ []) })

abbrev refused_unregistered_without_stake_proposal_2 : Proposal
refused_unregistered_without_stake_proposal_2 = (record { id = (action 0x02 2); action = (actions.Info); deposit = 10; account = (account_on 1 (key 0x11)); expires_after = 20; votes = [] })

abbrev refused_unregistered_without_stake_proposal_3 : Proposal
refused_unregistered_without_stake_proposal_3 = (record { id = (action 0x03 0); action = (actions.NoConfidence (Some (action 0x02 0))); deposit = 10; account = (account_on 1 (key 0x12)); expires_after = 20; votes = [] })

abbrev refused_unregistered_without_stake_world : World
refused_unregistered_without_stake_world = (record { ledger = (record { network = 1; epoch_length = 10; supply = 1000; slot = 21; epoch = 2; dormant = 0; reserves = 635; fees = 35; donations = 10; state = refused_unregistered_without_stake_state; outputs = (((ref 0x01 6), (record { address = (address_with 1 (key 0x01) None); lovelace = 20; assets = [] })) ∷ ((ref 0x01 7), (record { address = (address_with 1 (key 0x01) (Some (key 0x10))); lovelace = 20; assets = [] })) ∷ ((ref 0x01 8), (record { address = (address_with 1 (key 0x01) (Some (script 0x10))); lovelace = 9; assets = [] })) ∷ ((ref 0x05 0), (record { address = (address_with 1 (key 0x01) None); lovelace = 5; assets = [] })) ∷ []); used = ((tx_id 0x01) ∷ (tx_id 0x02) ∷ (tx_id 0x03) ∷ (tx_id 0x04) ∷ (tx_id 0x05) ∷ []); accounts = (((key 0x10), (record { deposit = 2; rewards = 67; pool = (Some (pool 0x50)); drep = (Some (drep.Registered (key 0x30))) })) ∷ ((key 0x11), (record { deposit = 2; rewards = 33; pool = (Some (pool 0x51)); drep = (Some (drep.Registered (key 0x31))) })) ∷ ((key 0x12), (record { deposit = 2; rewards = 0; pool = None; drep = None })) ∷ []); pools = (((pool 0x50), (record { deposit = 5; terms = (record { cost = 0; pledge = 0; margin = (share 0 1); account = (account_on 1 (key 0x12)); key = None }); future = (Some (record { cost = 1; pledge = 2; margin = (share 1 3); account = (account_on 1 (key 0x12)); key = None })); retires = None })) ∷ ((pool 0x51), (record { deposit = 5; terms = (record { cost = 0; pledge = 0; margin = (share 0 1); account = (account_on 1 (key 0x11)); key = None }); future = None; retires = None })) ∷ []); dreps = (((key 0x30), (record { deposit = 5; expiry = 20 })) ∷ ((key 0x31), (record { deposit = 5; expiry = 22 })) ∷ []); hot = (((key 0x70), (Hot (key 0x74))) ∷ ((key 0x72), (Hot (key 0x73))) ∷ []); proposals = (refused_unregistered_without_stake_proposal_0 ∷ refused_unregistered_without_stake_proposal_1 ∷ refused_unregistered_without_stake_proposal_2 ∷ refused_unregistered_without_stake_proposal_3 ∷ []) }); pending = (Some (record { epoch = 2; from_reserves = 20; from_fees = 3; to_treasury = 8; rewards = (((key 0x10), 10) ∷ ((key 0x11), 5) ∷ []) })); counted = 2; mark = (((pool 0x50), 87) ∷ ((pool 0x51), 33) ∷ []); set = (((pool 0x50), 87) ∷ ((pool 0x51), 33) ∷ []); go = (((pool 0x50), 87) ∷ ((pool 0x51), 33) ∷ []); noted_fees = 30; frozen = (record { epoch = 2; entries = (((key 0x10), (record { stake = 20; registered = (Some (record { deposit = 2; rewards = 67; pool = (Some (pool 0x50)); drep = (Some (drep.Registered (key 0x30))) })) })) ∷ ((script 0x10), (record { stake = 0; registered = None })) ∷ ((key 0x11), (record { stake = 0; registered = (Some (record { deposit = 2; rewards = 33; pool = (Some (pool 0x51)); drep = (Some (drep.Registered (key 0x31))) })) })) ∷ ((key 0x12), (record { stake = 0; registered = (Some (record { deposit = 2; rewards = 0; pool = None; drep = None })) })) ∷ []); dreps = (((key 0x30), 20) ∷ ((key 0x31), 20) ∷ []); mark = (((pool 0x50), 87) ∷ ((pool 0x51), 33) ∷ []); pool_accounts = (((pool 0x50), (account_on 1 (key 0x12))) ∷ ((pool 0x51), (account_on 1 (key 0x11))) ∷ []); hot = (((key 0x70), (Hot (key 0x71))) ∷ ((key 0x72), (Hot (key 0x73))) ∷ []); proposals = ((record refused_unregistered_without_stake_proposal_0 { votes = (((voter.Pool (pool 0x50)), vote.Abstain) ∷ []) }) ∷ (record refused_unregistered_without_stake_proposal_1 { votes = (((voter.Committee (key 0x71)), vote.Yes) ∷ ((voter.Drep (key 0x30)), vote.No) ∷ []) }) ∷ (record refused_unregistered_without_stake_proposal_2 { votes = [] }) ∷ (record refused_unregistered_without_stake_proposal_3 { votes = [] }) ∷ []); start = (record refused_unregistered_without_stake_state { treasury = 100 }) }) })

pub refused_unregistered_without_stake : (list_all is_counted_entry refused_unregistered_without_stake_world.frozen.entries) ≡ false
unfolding digits encode_with
refused_unregistered_without_stake = refl

abbrev refused_unused_id_of_an_output_state : EnactState
refused_unused_id_of_an_output_state = (record { params = (record base_params { gov_action_lifetime = 20 }); version = (10, 0); committee = (Some (record { threshold = (share 0 1); members = (((key 0x70), 100) ∷ ((key 0x72), 100) ∷ []) })); document = (h32 0x01); script = None; last = (record { committee = None; constitution = None; hardfork = None; parameters = None }); treasury = 100 })

abbrev refused_unused_id_of_an_output_proposal_0 : Proposal
refused_unused_id_of_an_output_proposal_0 = (record { id = (action 0x02 0); action = (actions.NoConfidence None); deposit = 10; account = (account_on 1 (key 0x12)); expires_after = 20; votes = (((voter.Pool (pool 0x50)), vote.Abstain) ∷ []) })

abbrev refused_unused_id_of_an_output_proposal_1 : Proposal
refused_unused_id_of_an_output_proposal_1 = (record { id = (action 0x02 1); action = (actions.NewConstitution None (h32 0x02) None); deposit = 10; account = (account_on 1 (key 0x12)); expires_after = 20; votes = (((voter.Committee (key 0x71)), vote.Yes) ∷ ((voter.Drep (key 0x30)), vote.No) ∷ ((voter.Drep (key 0x31)), vote.Yes) ∷ []) })

abbrev refused_unused_id_of_an_output_proposal_2 : Proposal
refused_unused_id_of_an_output_proposal_2 = (record { id = (action 0x02 2); action = (actions.Info); deposit = 10; account = (account_on 1 (key 0x11)); expires_after = 20; votes = [] })

abbrev refused_unused_id_of_an_output_proposal_3 : Proposal
refused_unused_id_of_an_output_proposal_3 = (record { id = (action 0x03 0); action = (actions.NoConfidence (Some (action 0x02 0))); deposit = 10; account = (account_on 1 (key 0x12)); expires_after = 20; votes = [] })

abbrev refused_unused_id_of_an_output_world : World
refused_unused_id_of_an_output_world = (record { ledger = (record { network = 1; epoch_length = 10; supply = 1000; slot = 21; epoch = 2; dormant = 0; reserves = 635; fees = 35; donations = 10; state = refused_unused_id_of_an_output_state; outputs = (((ref 0x01 6), (record { address = (address_with 1 (key 0x01) None); lovelace = 20; assets = [] })) ∷ ((ref 0x01 7), (record { address = (address_with 1 (key 0x01) (Some (key 0x10))); lovelace = 20; assets = [] })) ∷ ((ref 0x01 8), (record { address = (address_with 1 (key 0x01) (Some (script 0x10))); lovelace = 9; assets = [] })) ∷ ((ref 0x05 0), (record { address = (address_with 1 (key 0x01) None); lovelace = 5; assets = [] })) ∷ []); used = ((tx_id 0x01) ∷ (tx_id 0x02) ∷ (tx_id 0x03) ∷ (tx_id 0x04) ∷ []); accounts = (((key 0x10), (record { deposit = 2; rewards = 67; pool = (Some (pool 0x50)); drep = (Some (drep.Registered (key 0x30))) })) ∷ ((key 0x11), (record { deposit = 2; rewards = 33; pool = (Some (pool 0x51)); drep = (Some (drep.Registered (key 0x31))) })) ∷ ((key 0x12), (record { deposit = 2; rewards = 0; pool = None; drep = None })) ∷ []); pools = (((pool 0x50), (record { deposit = 5; terms = (record { cost = 0; pledge = 0; margin = (share 0 1); account = (account_on 1 (key 0x12)); key = None }); future = (Some (record { cost = 1; pledge = 2; margin = (share 1 3); account = (account_on 1 (key 0x12)); key = None })); retires = None })) ∷ ((pool 0x51), (record { deposit = 5; terms = (record { cost = 0; pledge = 0; margin = (share 0 1); account = (account_on 1 (key 0x11)); key = None }); future = None; retires = None })) ∷ []); dreps = (((key 0x30), (record { deposit = 5; expiry = 20 })) ∷ ((key 0x31), (record { deposit = 5; expiry = 22 })) ∷ []); hot = (((key 0x70), (Hot (key 0x74))) ∷ ((key 0x72), (Hot (key 0x73))) ∷ []); proposals = (refused_unused_id_of_an_output_proposal_0 ∷ refused_unused_id_of_an_output_proposal_1 ∷ refused_unused_id_of_an_output_proposal_2 ∷ refused_unused_id_of_an_output_proposal_3 ∷ []) }); pending = (Some (record { epoch = 2; from_reserves = 20; from_fees = 3; to_treasury = 8; rewards = (((key 0x10), 10) ∷ ((key 0x11), 5) ∷ []) })); counted = 2; mark = (((pool 0x50), 87) ∷ ((pool 0x51), 33) ∷ []); set = (((pool 0x50), 87) ∷ ((pool 0x51), 33) ∷ []); go = (((pool 0x50), 87) ∷ ((pool 0x51), 33) ∷ []); noted_fees = 30; frozen = (record { epoch = 2; entries = (((key 0x10), (record { stake = 20; registered = (Some (record { deposit = 2; rewards = 67; pool = (Some (pool 0x50)); drep = (Some (drep.Registered (key 0x30))) })) })) ∷ ((script 0x10), (record { stake = 9; registered = None })) ∷ ((key 0x11), (record { stake = 0; registered = (Some (record { deposit = 2; rewards = 33; pool = (Some (pool 0x51)); drep = (Some (drep.Registered (key 0x31))) })) })) ∷ ((key 0x12), (record { stake = 0; registered = (Some (record { deposit = 2; rewards = 0; pool = None; drep = None })) })) ∷ []); dreps = (((key 0x30), 20) ∷ ((key 0x31), 20) ∷ []); mark = (((pool 0x50), 87) ∷ ((pool 0x51), 33) ∷ []); pool_accounts = (((pool 0x50), (account_on 1 (key 0x12))) ∷ ((pool 0x51), (account_on 1 (key 0x11))) ∷ []); hot = (((key 0x70), (Hot (key 0x71))) ∷ ((key 0x72), (Hot (key 0x73))) ∷ []); proposals = ((record refused_unused_id_of_an_output_proposal_0 { votes = (((voter.Pool (pool 0x50)), vote.Abstain) ∷ []) }) ∷ (record refused_unused_id_of_an_output_proposal_1 { votes = (((voter.Committee (key 0x71)), vote.Yes) ∷ ((voter.Drep (key 0x30)), vote.No) ∷ []) }) ∷ (record refused_unused_id_of_an_output_proposal_2 { votes = [] }) ∷ (record refused_unused_id_of_an_output_proposal_3 { votes = [] }) ∷ []); start = (record refused_unused_id_of_an_output_state { treasury = 100 }) }) })

pub refused_unused_id_of_an_output : (uses_ids refused_unused_id_of_an_output_world.ledger) ≡ false
unfolding digits encode_with
refused_unused_id_of_an_output = refl

abbrev refused_unused_id_of_a_proposal_state : EnactState
refused_unused_id_of_a_proposal_state = (record { params = (record base_params { gov_action_lifetime = 20 }); version = (10, 0); committee = (Some (record { threshold = (share 0 1); members = (((key 0x70), 100) ∷ ((key 0x72), 100) ∷ []) })); document = (h32 0x01); script = None; last = (record { committee = None; constitution = None; hardfork = None; parameters = None }); treasury = 100 })

abbrev refused_unused_id_of_a_proposal_proposal_0 : Proposal
refused_unused_id_of_a_proposal_proposal_0 = (record { id = (action 0x02 0); action = (actions.NoConfidence None); deposit = 10; account = (account_on 1 (key 0x12)); expires_after = 20; votes = (((voter.Pool (pool 0x50)), vote.Abstain) ∷ []) })

abbrev refused_unused_id_of_a_proposal_proposal_1 : Proposal
refused_unused_id_of_a_proposal_proposal_1 = (record { id = (action 0x02 1); action = (actions.NewConstitution None (h32 0x02) None); deposit = 10; account = (account_on 1 (key 0x12)); expires_after = 20; votes = (((voter.Committee (key 0x71)), vote.Yes) ∷ ((voter.Drep (key 0x30)), vote.No) ∷ ((voter.Drep (key 0x31)), vote.Yes) ∷ []) })

abbrev refused_unused_id_of_a_proposal_proposal_2 : Proposal
refused_unused_id_of_a_proposal_proposal_2 = (record { id = (action 0x02 2); action = (actions.Info); deposit = 10; account = (account_on 1 (key 0x11)); expires_after = 20; votes = [] })

abbrev refused_unused_id_of_a_proposal_proposal_3 : Proposal
refused_unused_id_of_a_proposal_proposal_3 = (record { id = (action 0x03 0); action = (actions.NoConfidence (Some (action 0x02 0))); deposit = 10; account = (account_on 1 (key 0x12)); expires_after = 20; votes = [] })

abbrev refused_unused_id_of_a_proposal_world : World
refused_unused_id_of_a_proposal_world = (record { ledger = (record { network = 1; epoch_length = 10; supply = 1000; slot = 21; epoch = 2; dormant = 0; reserves = 635; fees = 35; donations = 10; state = refused_unused_id_of_a_proposal_state; outputs = (((ref 0x01 6), (record { address = (address_with 1 (key 0x01) None); lovelace = 20; assets = [] })) ∷ ((ref 0x01 7), (record { address = (address_with 1 (key 0x01) (Some (key 0x10))); lovelace = 20; assets = [] })) ∷ ((ref 0x01 8), (record { address = (address_with 1 (key 0x01) (Some (script 0x10))); lovelace = 9; assets = [] })) ∷ ((ref 0x05 0), (record { address = (address_with 1 (key 0x01) None); lovelace = 5; assets = [] })) ∷ []); used = ((tx_id 0x01) ∷ (tx_id 0x02) ∷ (tx_id 0x04) ∷ (tx_id 0x05) ∷ []); accounts = (((key 0x10), (record { deposit = 2; rewards = 67; pool = (Some (pool 0x50)); drep = (Some (drep.Registered (key 0x30))) })) ∷ ((key 0x11), (record { deposit = 2; rewards = 33; pool = (Some (pool 0x51)); drep = (Some (drep.Registered (key 0x31))) })) ∷ ((key 0x12), (record { deposit = 2; rewards = 0; pool = None; drep = None })) ∷ []); pools = (((pool 0x50), (record { deposit = 5; terms = (record { cost = 0; pledge = 0; margin = (share 0 1); account = (account_on 1 (key 0x12)); key = None }); future = (Some (record { cost = 1; pledge = 2; margin = (share 1 3); account = (account_on 1 (key 0x12)); key = None })); retires = None })) ∷ ((pool 0x51), (record { deposit = 5; terms = (record { cost = 0; pledge = 0; margin = (share 0 1); account = (account_on 1 (key 0x11)); key = None }); future = None; retires = None })) ∷ []); dreps = (((key 0x30), (record { deposit = 5; expiry = 20 })) ∷ ((key 0x31), (record { deposit = 5; expiry = 22 })) ∷ []); hot = (((key 0x70), (Hot (key 0x74))) ∷ ((key 0x72), (Hot (key 0x73))) ∷ []); proposals = (refused_unused_id_of_a_proposal_proposal_0 ∷ refused_unused_id_of_a_proposal_proposal_1 ∷ refused_unused_id_of_a_proposal_proposal_2 ∷ refused_unused_id_of_a_proposal_proposal_3 ∷ []) }); pending = (Some (record { epoch = 2; from_reserves = 20; from_fees = 3; to_treasury = 8; rewards = (((key 0x10), 10) ∷ ((key 0x11), 5) ∷ []) })); counted = 2; mark = (((pool 0x50), 87) ∷ ((pool 0x51), 33) ∷ []); set = (((pool 0x50), 87) ∷ ((pool 0x51), 33) ∷ []); go = (((pool 0x50), 87) ∷ ((pool 0x51), 33) ∷ []); noted_fees = 30; frozen = (record { epoch = 2; entries = (((key 0x10), (record { stake = 20; registered = (Some (record { deposit = 2; rewards = 67; pool = (Some (pool 0x50)); drep = (Some (drep.Registered (key 0x30))) })) })) ∷ ((script 0x10), (record { stake = 9; registered = None })) ∷ ((key 0x11), (record { stake = 0; registered = (Some (record { deposit = 2; rewards = 33; pool = (Some (pool 0x51)); drep = (Some (drep.Registered (key 0x31))) })) })) ∷ ((key 0x12), (record { stake = 0; registered = (Some (record { deposit = 2; rewards = 0; pool = None; drep = None })) })) ∷ []); dreps = (((key 0x30), 20) ∷ ((key 0x31), 20) ∷ []); mark = (((pool 0x50), 87) ∷ ((pool 0x51), 33) ∷ []); pool_accounts = (((pool 0x50), (account_on 1 (key 0x12))) ∷ ((pool 0x51), (account_on 1 (key 0x11))) ∷ []); hot = (((key 0x70), (Hot (key 0x71))) ∷ ((key 0x72), (Hot (key 0x73))) ∷ []); proposals = ((record refused_unused_id_of_a_proposal_proposal_0 { votes = (((voter.Pool (pool 0x50)), vote.Abstain) ∷ []) }) ∷ (record refused_unused_id_of_a_proposal_proposal_1 { votes = (((voter.Committee (key 0x71)), vote.Yes) ∷ ((voter.Drep (key 0x30)), vote.No) ∷ []) }) ∷ (record refused_unused_id_of_a_proposal_proposal_2 { votes = [] }) ∷ (record refused_unused_id_of_a_proposal_proposal_3 { votes = [] }) ∷ []); start = (record refused_unused_id_of_a_proposal_state { treasury = 100 }) }) })

pub refused_unused_id_of_a_proposal : (uses_ids refused_unused_id_of_a_proposal_world.ledger) ≡ false
unfolding digits encode_with
refused_unused_id_of_a_proposal = refl
