-- Worked rows of whole streams: further texts of Worlds that are not sound. Made by tests/made/rows_of, from the streams of these names in tests/streams/further.
use Rattle.std.specs.Prelude.{◌≡◌, [], ◌∷◌, Some, None, false, refl, nat_le}
use Rattle.std.specs.Fmt.{digits}
use Rattle.hex.specs.Hex.{encode_with}
use Rattle.gov_actions.specs.declared.action.Action.TheVariants as actions
use Rattle.gov_actions.specs.declared.action.Vote.TheVariants as vote
use Rattle.gov_ids.specs.declared.Drep.TheVariants as drep
use Rattle.gov_ids.specs.declared.Voter.TheVariants as voter
use Rattle.ledger_rows.proofs.Base.{h32, key, script, pool, account_on, address_with, tx_id, ref, action, share, base_params}
use Rattle.checkpoint_model.specs.Resumable.{are_chained, has_form, holds_supply, is_covered, is_within_dormant_bound, is_within_supply}
use Rattle.gov_actions.specs.declared.action.Proposal.{Proposal}
use Rattle.gov_actions.specs.declared.state.EnactState.{EnactState}
use Rattle.gov_actions.specs.declared.state.HotState.TheVariants.{Hot}
use Rattle.run_model.specs.World.{World}
use Rattle.maps.specs.Words.{none_or}

abbrev refused_chain_broken_state : EnactState
refused_chain_broken_state = (record { params = (record base_params { gov_action_lifetime = 20 }); version = (10, 0); committee = (Some (record { threshold = (share 0 1); members = (((key 0x70), 100) ∷ ((key 0x72), 100) ∷ []) })); document = (h32 0x01); script = None; last = (record { committee = None; constitution = None; hardfork = None; parameters = None }); treasury = 100 })

abbrev refused_chain_broken_proposal_0 : Proposal
refused_chain_broken_proposal_0 = (record { id = (action 0x02 0); action = (actions.NoConfidence None); deposit = 10; account = (account_on 1 (key 0x12)); expires_after = 20; votes = (((voter.Pool (pool 0x50)), vote.Abstain) ∷ []) })

abbrev refused_chain_broken_proposal_1 : Proposal
refused_chain_broken_proposal_1 = (record { id = (action 0x02 1); action = (actions.NewConstitution None (h32 0x02) None); deposit = 10; account = (account_on 1 (key 0x12)); expires_after = 20; votes = (((voter.Committee (key 0x71)), vote.Yes) ∷ ((voter.Drep (key 0x30)), vote.No) ∷ ((voter.Drep (key 0x31)), vote.Yes) ∷ []) })

abbrev refused_chain_broken_proposal_2 : Proposal
refused_chain_broken_proposal_2 = (record { id = (action 0x02 2); action = (actions.Info); deposit = 10; account = (account_on 1 (key 0x11)); expires_after = 20; votes = [] })

abbrev refused_chain_broken_proposal_3 : Proposal
refused_chain_broken_proposal_3 = (record { id = (action 0x03 0); action = (actions.NoConfidence (Some (action 0x09 0))); deposit = 10; account = (account_on 1 (key 0x12)); expires_after = 20; votes = [] })

abbrev refused_chain_broken_world : World
refused_chain_broken_world = (record { ledger = (record { network = 1; epoch_length = 10; supply = 1000; slot = 21; epoch = 2; dormant = 0; reserves = 635; fees = 35; donations = 10; state = refused_chain_broken_state; outputs = (((ref 0x01 6), (record { address = (address_with 1 (key 0x01) None); lovelace = 20; assets = [] })) ∷ ((ref 0x01 7), (record { address = (address_with 1 (key 0x01) (Some (key 0x10))); lovelace = 20; assets = [] })) ∷ ((ref 0x01 8), (record { address = (address_with 1 (key 0x01) (Some (script 0x10))); lovelace = 9; assets = [] })) ∷ ((ref 0x05 0), (record { address = (address_with 1 (key 0x01) None); lovelace = 5; assets = [] })) ∷ []); used = ((tx_id 0x01) ∷ (tx_id 0x02) ∷ (tx_id 0x03) ∷ (tx_id 0x04) ∷ (tx_id 0x05) ∷ []); accounts = (((key 0x10), (record { deposit = 2; rewards = 67; pool = (Some (pool 0x50)); drep = (Some (drep.Registered (key 0x30))) })) ∷ ((key 0x11), (record { deposit = 2; rewards = 33; pool = (Some (pool 0x51)); drep = (Some (drep.Registered (key 0x31))) })) ∷ ((key 0x12), (record { deposit = 2; rewards = 0; pool = None; drep = None })) ∷ []); pools = (((pool 0x50), (record { deposit = 5; terms = (record { cost = 0; pledge = 0; margin = (share 0 1); account = (account_on 1 (key 0x12)); key = None }); future = (Some (record { cost = 1; pledge = 2; margin = (share 1 3); account = (account_on 1 (key 0x12)); key = None })); retires = None })) ∷ ((pool 0x51), (record { deposit = 5; terms = (record { cost = 0; pledge = 0; margin = (share 0 1); account = (account_on 1 (key 0x11)); key = None }); future = None; retires = None })) ∷ []); dreps = (((key 0x30), (record { deposit = 5; expiry = 20 })) ∷ ((key 0x31), (record { deposit = 5; expiry = 22 })) ∷ []); hot = (((key 0x70), (Hot (key 0x74))) ∷ ((key 0x72), (Hot (key 0x73))) ∷ []); proposals = (refused_chain_broken_proposal_0 ∷ refused_chain_broken_proposal_1 ∷ refused_chain_broken_proposal_2 ∷ refused_chain_broken_proposal_3 ∷ []) }); pending = (Some (record { epoch = 2; from_reserves = 20; from_fees = 3; to_treasury = 8; rewards = (((key 0x10), 10) ∷ ((key 0x11), 5) ∷ []) })); counted = 2; mark = (((pool 0x50), 87) ∷ ((pool 0x51), 33) ∷ []); set = (((pool 0x50), 87) ∷ ((pool 0x51), 33) ∷ []); go = (((pool 0x50), 87) ∷ ((pool 0x51), 33) ∷ []); noted_fees = 30; frozen = (record { epoch = 2; entries = (((key 0x10), (record { stake = 20; registered = (Some (record { deposit = 2; rewards = 67; pool = (Some (pool 0x50)); drep = (Some (drep.Registered (key 0x30))) })) })) ∷ ((script 0x10), (record { stake = 9; registered = None })) ∷ ((key 0x11), (record { stake = 0; registered = (Some (record { deposit = 2; rewards = 33; pool = (Some (pool 0x51)); drep = (Some (drep.Registered (key 0x31))) })) })) ∷ ((key 0x12), (record { stake = 0; registered = (Some (record { deposit = 2; rewards = 0; pool = None; drep = None })) })) ∷ []); dreps = (((key 0x30), 20) ∷ ((key 0x31), 20) ∷ []); mark = (((pool 0x50), 87) ∷ ((pool 0x51), 33) ∷ []); pool_accounts = (((pool 0x50), (account_on 1 (key 0x12))) ∷ ((pool 0x51), (account_on 1 (key 0x11))) ∷ []); hot = (((key 0x70), (Hot (key 0x71))) ∷ ((key 0x72), (Hot (key 0x73))) ∷ []); proposals = ((record refused_chain_broken_proposal_0 { votes = (((voter.Pool (pool 0x50)), vote.Abstain) ∷ []) }) ∷ (record refused_chain_broken_proposal_1 { votes = (((voter.Committee (key 0x71)), vote.Yes) ∷ ((voter.Drep (key 0x30)), vote.No) ∷ []) }) ∷ (record refused_chain_broken_proposal_2 { votes = [] }) ∷ (record refused_chain_broken_proposal_3 { votes = [] }) ∷ []); start = (record refused_chain_broken_state { treasury = 100 }) }) })

pub refused_chain_broken : (are_chained refused_chain_broken_world.ledger) ≡ false
unfolding digits encode_with
refused_chain_broken = refl

abbrev refused_chain_of_another_purpose_state : EnactState
refused_chain_of_another_purpose_state = (record { params = (record base_params { gov_action_lifetime = 20 }); version = (10, 0); committee = (Some (record { threshold = (share 0 1); members = (((key 0x70), 100) ∷ ((key 0x72), 100) ∷ []) })); document = (h32 0x01); script = None; last = (record { committee = None; constitution = None; hardfork = None; parameters = None }); treasury = 100 })

abbrev refused_chain_of_another_purpose_proposal_0 : Proposal
refused_chain_of_another_purpose_proposal_0 = (record { id = (action 0x02 0); action = (actions.NoConfidence None); deposit = 10; account = (account_on 1 (key 0x12)); expires_after = 20; votes = (((voter.Pool (pool 0x50)), vote.Abstain) ∷ []) })

abbrev refused_chain_of_another_purpose_proposal_1 : Proposal
refused_chain_of_another_purpose_proposal_1 = (record { id = (action 0x02 1); action = (actions.NewConstitution None (h32 0x02) None); deposit = 10; account = (account_on 1 (key 0x12)); expires_after = 20; votes = (((voter.Committee (key 0x71)), vote.Yes) ∷ ((voter.Drep (key 0x30)), vote.No) ∷ ((voter.Drep (key 0x31)), vote.Yes) ∷ []) })

abbrev refused_chain_of_another_purpose_proposal_2 : Proposal
refused_chain_of_another_purpose_proposal_2 = (record { id = (action 0x02 2); action = (actions.Info); deposit = 10; account = (account_on 1 (key 0x11)); expires_after = 20; votes = [] })

abbrev refused_chain_of_another_purpose_proposal_3 : Proposal
refused_chain_of_another_purpose_proposal_3 = (record { id = (action 0x03 0); action = (actions.NoConfidence (Some (action 0x02 1))); deposit = 10; account = (account_on 1 (key 0x12)); expires_after = 20; votes = [] })

abbrev refused_chain_of_another_purpose_world : World
refused_chain_of_another_purpose_world = (record { ledger = (record { network = 1; epoch_length = 10; supply = 1000; slot = 21; epoch = 2; dormant = 0; reserves = 635; fees = 35; donations = 10; state = refused_chain_of_another_purpose_state; outputs = (((ref 0x01 6), (record { address = (address_with 1 (key 0x01) None); lovelace = 20; assets = [] })) ∷ ((ref 0x01 7), (record { address = (address_with 1 (key 0x01) (Some (key 0x10))); lovelace = 20; assets = [] })) ∷ ((ref 0x01 8), (record { address = (address_with 1 (key 0x01) (Some (script 0x10))); lovelace = 9; assets = [] })) ∷ ((ref 0x05 0), (record { address = (address_with 1 (key 0x01) None); lovelace = 5; assets = [] })) ∷ []); used = ((tx_id 0x01) ∷ (tx_id 0x02) ∷ (tx_id 0x03) ∷ (tx_id 0x04) ∷ (tx_id 0x05) ∷ []); accounts = (((key 0x10), (record { deposit = 2; rewards = 67; pool = (Some (pool 0x50)); drep = (Some (drep.Registered (key 0x30))) })) ∷ ((key 0x11), (record { deposit = 2; rewards = 33; pool = (Some (pool 0x51)); drep = (Some (drep.Registered (key 0x31))) })) ∷ ((key 0x12), (record { deposit = 2; rewards = 0; pool = None; drep = None })) ∷ []); pools = (((pool 0x50), (record { deposit = 5; terms = (record { cost = 0; pledge = 0; margin = (share 0 1); account = (account_on 1 (key 0x12)); key = None }); future = (Some (record { cost = 1; pledge = 2; margin = (share 1 3); account = (account_on 1 (key 0x12)); key = None })); retires = None })) ∷ ((pool 0x51), (record { deposit = 5; terms = (record { cost = 0; pledge = 0; margin = (share 0 1); account = (account_on 1 (key 0x11)); key = None }); future = None; retires = None })) ∷ []); dreps = (((key 0x30), (record { deposit = 5; expiry = 20 })) ∷ ((key 0x31), (record { deposit = 5; expiry = 22 })) ∷ []); hot = (((key 0x70), (Hot (key 0x74))) ∷ ((key 0x72), (Hot (key 0x73))) ∷ []); proposals = (refused_chain_of_another_purpose_proposal_0 ∷ refused_chain_of_another_purpose_proposal_1 ∷ refused_chain_of_another_purpose_proposal_2 ∷ refused_chain_of_another_purpose_proposal_3 ∷ []) }); pending = (Some (record { epoch = 2; from_reserves = 20; from_fees = 3; to_treasury = 8; rewards = (((key 0x10), 10) ∷ ((key 0x11), 5) ∷ []) })); counted = 2; mark = (((pool 0x50), 87) ∷ ((pool 0x51), 33) ∷ []); set = (((pool 0x50), 87) ∷ ((pool 0x51), 33) ∷ []); go = (((pool 0x50), 87) ∷ ((pool 0x51), 33) ∷ []); noted_fees = 30; frozen = (record { epoch = 2; entries = (((key 0x10), (record { stake = 20; registered = (Some (record { deposit = 2; rewards = 67; pool = (Some (pool 0x50)); drep = (Some (drep.Registered (key 0x30))) })) })) ∷ ((script 0x10), (record { stake = 9; registered = None })) ∷ ((key 0x11), (record { stake = 0; registered = (Some (record { deposit = 2; rewards = 33; pool = (Some (pool 0x51)); drep = (Some (drep.Registered (key 0x31))) })) })) ∷ ((key 0x12), (record { stake = 0; registered = (Some (record { deposit = 2; rewards = 0; pool = None; drep = None })) })) ∷ []); dreps = (((key 0x30), 20) ∷ ((key 0x31), 20) ∷ []); mark = (((pool 0x50), 87) ∷ ((pool 0x51), 33) ∷ []); pool_accounts = (((pool 0x50), (account_on 1 (key 0x12))) ∷ ((pool 0x51), (account_on 1 (key 0x11))) ∷ []); hot = (((key 0x70), (Hot (key 0x71))) ∷ ((key 0x72), (Hot (key 0x73))) ∷ []); proposals = ((record refused_chain_of_another_purpose_proposal_0 { votes = (((voter.Pool (pool 0x50)), vote.Abstain) ∷ []) }) ∷ (record refused_chain_of_another_purpose_proposal_1 { votes = (((voter.Committee (key 0x71)), vote.Yes) ∷ ((voter.Drep (key 0x30)), vote.No) ∷ []) }) ∷ (record refused_chain_of_another_purpose_proposal_2 { votes = [] }) ∷ (record refused_chain_of_another_purpose_proposal_3 { votes = [] }) ∷ []); start = (record refused_chain_of_another_purpose_state { treasury = 100 }) }) })

pub refused_chain_of_another_purpose : (are_chained refused_chain_of_another_purpose_world.ledger) ≡ false
unfolding digits encode_with
refused_chain_of_another_purpose = refl

abbrev refused_chain_to_a_later_one_state : EnactState
refused_chain_to_a_later_one_state = (record { params = (record base_params { gov_action_lifetime = 20 }); version = (10, 0); committee = (Some (record { threshold = (share 0 1); members = (((key 0x70), 100) ∷ ((key 0x72), 100) ∷ []) })); document = (h32 0x01); script = None; last = (record { committee = None; constitution = None; hardfork = None; parameters = None }); treasury = 100 })

abbrev refused_chain_to_a_later_one_proposal_0 : Proposal
refused_chain_to_a_later_one_proposal_0 = (record { id = (action 0x02 0); action = (actions.NoConfidence (Some (action 0x03 0))); deposit = 10; account = (account_on 1 (key 0x12)); expires_after = 20; votes = (((voter.Pool (pool 0x50)), vote.Abstain) ∷ []) })

abbrev refused_chain_to_a_later_one_proposal_1 : Proposal
refused_chain_to_a_later_one_proposal_1 = (record { id = (action 0x02 1); action = (actions.NewConstitution None (h32 0x02) None); deposit = 10; account = (account_on 1 (key 0x12)); expires_after = 20; votes = (((voter.Committee (key 0x71)), vote.Yes) ∷ ((voter.Drep (key 0x30)), vote.No) ∷ ((voter.Drep (key 0x31)), vote.Yes) ∷ []) })

abbrev refused_chain_to_a_later_one_proposal_2 : Proposal
refused_chain_to_a_later_one_proposal_2 = (record { id = (action 0x02 2); action = (actions.Info); deposit = 10; account = (account_on 1 (key 0x11)); expires_after = 20; votes = [] })

abbrev refused_chain_to_a_later_one_proposal_3 : Proposal
refused_chain_to_a_later_one_proposal_3 = (record { id = (action 0x03 0); action = (actions.NoConfidence None); deposit = 10; account = (account_on 1 (key 0x12)); expires_after = 20; votes = [] })

abbrev refused_chain_to_a_later_one_world : World
refused_chain_to_a_later_one_world = (record { ledger = (record { network = 1; epoch_length = 10; supply = 1000; slot = 21; epoch = 2; dormant = 0; reserves = 635; fees = 35; donations = 10; state = refused_chain_to_a_later_one_state; outputs = (((ref 0x01 6), (record { address = (address_with 1 (key 0x01) None); lovelace = 20; assets = [] })) ∷ ((ref 0x01 7), (record { address = (address_with 1 (key 0x01) (Some (key 0x10))); lovelace = 20; assets = [] })) ∷ ((ref 0x01 8), (record { address = (address_with 1 (key 0x01) (Some (script 0x10))); lovelace = 9; assets = [] })) ∷ ((ref 0x05 0), (record { address = (address_with 1 (key 0x01) None); lovelace = 5; assets = [] })) ∷ []); used = ((tx_id 0x01) ∷ (tx_id 0x02) ∷ (tx_id 0x03) ∷ (tx_id 0x04) ∷ (tx_id 0x05) ∷ []); accounts = (((key 0x10), (record { deposit = 2; rewards = 67; pool = (Some (pool 0x50)); drep = (Some (drep.Registered (key 0x30))) })) ∷ ((key 0x11), (record { deposit = 2; rewards = 33; pool = (Some (pool 0x51)); drep = (Some (drep.Registered (key 0x31))) })) ∷ ((key 0x12), (record { deposit = 2; rewards = 0; pool = None; drep = None })) ∷ []); pools = (((pool 0x50), (record { deposit = 5; terms = (record { cost = 0; pledge = 0; margin = (share 0 1); account = (account_on 1 (key 0x12)); key = None }); future = (Some (record { cost = 1; pledge = 2; margin = (share 1 3); account = (account_on 1 (key 0x12)); key = None })); retires = None })) ∷ ((pool 0x51), (record { deposit = 5; terms = (record { cost = 0; pledge = 0; margin = (share 0 1); account = (account_on 1 (key 0x11)); key = None }); future = None; retires = None })) ∷ []); dreps = (((key 0x30), (record { deposit = 5; expiry = 20 })) ∷ ((key 0x31), (record { deposit = 5; expiry = 22 })) ∷ []); hot = (((key 0x70), (Hot (key 0x74))) ∷ ((key 0x72), (Hot (key 0x73))) ∷ []); proposals = (refused_chain_to_a_later_one_proposal_0 ∷ refused_chain_to_a_later_one_proposal_1 ∷ refused_chain_to_a_later_one_proposal_2 ∷ refused_chain_to_a_later_one_proposal_3 ∷ []) }); pending = (Some (record { epoch = 2; from_reserves = 20; from_fees = 3; to_treasury = 8; rewards = (((key 0x10), 10) ∷ ((key 0x11), 5) ∷ []) })); counted = 2; mark = (((pool 0x50), 87) ∷ ((pool 0x51), 33) ∷ []); set = (((pool 0x50), 87) ∷ ((pool 0x51), 33) ∷ []); go = (((pool 0x50), 87) ∷ ((pool 0x51), 33) ∷ []); noted_fees = 30; frozen = (record { epoch = 2; entries = (((key 0x10), (record { stake = 20; registered = (Some (record { deposit = 2; rewards = 67; pool = (Some (pool 0x50)); drep = (Some (drep.Registered (key 0x30))) })) })) ∷ ((script 0x10), (record { stake = 9; registered = None })) ∷ ((key 0x11), (record { stake = 0; registered = (Some (record { deposit = 2; rewards = 33; pool = (Some (pool 0x51)); drep = (Some (drep.Registered (key 0x31))) })) })) ∷ ((key 0x12), (record { stake = 0; registered = (Some (record { deposit = 2; rewards = 0; pool = None; drep = None })) })) ∷ []); dreps = (((key 0x30), 20) ∷ ((key 0x31), 20) ∷ []); mark = (((pool 0x50), 87) ∷ ((pool 0x51), 33) ∷ []); pool_accounts = (((pool 0x50), (account_on 1 (key 0x12))) ∷ ((pool 0x51), (account_on 1 (key 0x11))) ∷ []); hot = (((key 0x70), (Hot (key 0x71))) ∷ ((key 0x72), (Hot (key 0x73))) ∷ []); proposals = ((record refused_chain_to_a_later_one_proposal_0 { votes = (((voter.Pool (pool 0x50)), vote.Abstain) ∷ []) }) ∷ (record refused_chain_to_a_later_one_proposal_1 { votes = (((voter.Committee (key 0x71)), vote.Yes) ∷ ((voter.Drep (key 0x30)), vote.No) ∷ []) }) ∷ (record refused_chain_to_a_later_one_proposal_2 { votes = [] }) ∷ (record refused_chain_to_a_later_one_proposal_3 { votes = [] }) ∷ []); start = (record refused_chain_to_a_later_one_state { treasury = 100 }) }) })

pub refused_chain_to_a_later_one : (are_chained refused_chain_to_a_later_one_world.ledger) ≡ false
unfolding digits encode_with
refused_chain_to_a_later_one = refl

abbrev refused_supply_above_its_limit_state : EnactState
refused_supply_above_its_limit_state = (record { params = base_params; version = (10, 0); committee = (Some (record { threshold = (share 0 1); members = (((key 0x70), 100) ∷ []) })); document = (h32 0x01); script = None; last = (record { committee = None; constitution = None; hardfork = None; parameters = None }); treasury = 100 })

abbrev refused_supply_above_its_limit_world : World
refused_supply_above_its_limit_world = (record { ledger = (record { network = 1; epoch_length = 10; supply = 45000000000000001; slot = 0; epoch = 0; dormant = 0; reserves = 44999999999999580; fees = 0; donations = 0; state = refused_supply_above_its_limit_state; outputs = (((ref 0x01 0), (record { address = (address_with 1 (key 0x01) None); lovelace = 20; assets = [] })) ∷ ((ref 0x01 1), (record { address = (address_with 1 (key 0x01) None); lovelace = 20; assets = [] })) ∷ ((ref 0x01 2), (record { address = (address_with 1 (key 0x01) None); lovelace = 20; assets = [] })) ∷ ((ref 0x01 3), (record { address = (address_with 1 (key 0x01) None); lovelace = 20; assets = [] })) ∷ ((ref 0x01 4), (record { address = (address_with 1 (key 0x01) None); lovelace = 20; assets = [] })) ∷ ((ref 0x01 5), (record { address = (address_with 1 (key 0x01) None); lovelace = 20; assets = [] })) ∷ ((ref 0x01 6), (record { address = (address_with 1 (key 0x01) None); lovelace = 20; assets = [] })) ∷ ((ref 0x01 7), (record { address = (address_with 1 (key 0x01) None); lovelace = 20; assets = [] })) ∷ ((ref 0x01 8), (record { address = (address_with 1 (key 0x01) None); lovelace = 20; assets = [] })) ∷ ((ref 0x01 9), (record { address = (address_with 1 (key 0x01) None); lovelace = 20; assets = [] })) ∷ []); used = ((tx_id 0x01) ∷ []); accounts = (((key 0x10), (record { deposit = 2; rewards = 67; pool = None; drep = (Some (drep.Registered (key 0x30))) })) ∷ ((key 0x11), (record { deposit = 2; rewards = 33; pool = None; drep = (Some (drep.Registered (key 0x31))) })) ∷ ((key 0x12), (record { deposit = 2; rewards = 0; pool = None; drep = None })) ∷ []); pools = (((pool 0x50), (record { deposit = 5; terms = (record { cost = 0; pledge = 0; margin = (share 0 1); account = (account_on 1 (key 0x12)); key = None }); future = None; retires = None })) ∷ []); dreps = (((key 0x30), (record { deposit = 5; expiry = 20 })) ∷ ((key 0x31), (record { deposit = 5; expiry = 20 })) ∷ []); hot = (((key 0x70), (Hot (key 0x71))) ∷ []); proposals = [] }); pending = None; counted = 0; mark = (((pool 0x50), 0) ∷ []); set = []; go = []; noted_fees = 0; frozen = (record { epoch = 0; entries = (((key 0x10), (record { stake = 0; registered = (Some (record { deposit = 2; rewards = 67; pool = None; drep = (Some (drep.Registered (key 0x30))) })) })) ∷ ((key 0x11), (record { stake = 0; registered = (Some (record { deposit = 2; rewards = 33; pool = None; drep = (Some (drep.Registered (key 0x31))) })) })) ∷ ((key 0x12), (record { stake = 0; registered = (Some (record { deposit = 2; rewards = 0; pool = None; drep = None })) })) ∷ []); dreps = (((key 0x30), 20) ∷ ((key 0x31), 20) ∷ []); mark = (((pool 0x50), 0) ∷ []); pool_accounts = (((pool 0x50), (account_on 1 (key 0x12))) ∷ []); hot = (((key 0x70), (Hot (key 0x71))) ∷ []); proposals = []; start = (record refused_supply_above_its_limit_state { treasury = 100 }) }) })

pub refused_supply_above_its_limit : (holds_supply refused_supply_above_its_limit_world.ledger) ≡ false
unfolding digits encode_with
refused_supply_above_its_limit = refl

abbrev refused_dormant_beside_proposals_state : EnactState
refused_dormant_beside_proposals_state = (record { params = (record base_params { gov_action_lifetime = 20 }); version = (10, 0); committee = (Some (record { threshold = (share 0 1); members = (((key 0x70), 100) ∷ ((key 0x72), 100) ∷ []) })); document = (h32 0x01); script = None; last = (record { committee = None; constitution = None; hardfork = None; parameters = None }); treasury = 100 })

abbrev refused_dormant_beside_proposals_proposal_0 : Proposal
refused_dormant_beside_proposals_proposal_0 = (record { id = (action 0x02 0); action = (actions.NoConfidence None); deposit = 10; account = (account_on 1 (key 0x12)); expires_after = 20; votes = (((voter.Pool (pool 0x50)), vote.Abstain) ∷ []) })

abbrev refused_dormant_beside_proposals_proposal_1 : Proposal
refused_dormant_beside_proposals_proposal_1 = (record { id = (action 0x02 1); action = (actions.NewConstitution None (h32 0x02) None); deposit = 10; account = (account_on 1 (key 0x12)); expires_after = 20; votes = (((voter.Committee (key 0x71)), vote.Yes) ∷ ((voter.Drep (key 0x30)), vote.No) ∷ ((voter.Drep (key 0x31)), vote.Yes) ∷ []) })

abbrev refused_dormant_beside_proposals_proposal_2 : Proposal
refused_dormant_beside_proposals_proposal_2 = (record { id = (action 0x02 2); action = (actions.Info); deposit = 10; account = (account_on 1 (key 0x11)); expires_after = 20; votes = [] })

abbrev refused_dormant_beside_proposals_proposal_3 : Proposal
refused_dormant_beside_proposals_proposal_3 = (record { id = (action 0x03 0); action = (actions.NoConfidence (Some (action 0x02 0))); deposit = 10; account = (account_on 1 (key 0x12)); expires_after = 20; votes = [] })

abbrev refused_dormant_beside_proposals_world : World
refused_dormant_beside_proposals_world = (record { ledger = (record { network = 1; epoch_length = 10; supply = 1000; slot = 21; epoch = 2; dormant = 1; reserves = 635; fees = 35; donations = 10; state = refused_dormant_beside_proposals_state; outputs = (((ref 0x01 6), (record { address = (address_with 1 (key 0x01) None); lovelace = 20; assets = [] })) ∷ ((ref 0x01 7), (record { address = (address_with 1 (key 0x01) (Some (key 0x10))); lovelace = 20; assets = [] })) ∷ ((ref 0x01 8), (record { address = (address_with 1 (key 0x01) (Some (script 0x10))); lovelace = 9; assets = [] })) ∷ ((ref 0x05 0), (record { address = (address_with 1 (key 0x01) None); lovelace = 5; assets = [] })) ∷ []); used = ((tx_id 0x01) ∷ (tx_id 0x02) ∷ (tx_id 0x03) ∷ (tx_id 0x04) ∷ (tx_id 0x05) ∷ []); accounts = (((key 0x10), (record { deposit = 2; rewards = 67; pool = (Some (pool 0x50)); drep = (Some (drep.Registered (key 0x30))) })) ∷ ((key 0x11), (record { deposit = 2; rewards = 33; pool = (Some (pool 0x51)); drep = (Some (drep.Registered (key 0x31))) })) ∷ ((key 0x12), (record { deposit = 2; rewards = 0; pool = None; drep = None })) ∷ []); pools = (((pool 0x50), (record { deposit = 5; terms = (record { cost = 0; pledge = 0; margin = (share 0 1); account = (account_on 1 (key 0x12)); key = None }); future = (Some (record { cost = 1; pledge = 2; margin = (share 1 3); account = (account_on 1 (key 0x12)); key = None })); retires = None })) ∷ ((pool 0x51), (record { deposit = 5; terms = (record { cost = 0; pledge = 0; margin = (share 0 1); account = (account_on 1 (key 0x11)); key = None }); future = None; retires = None })) ∷ []); dreps = (((key 0x30), (record { deposit = 5; expiry = 20 })) ∷ ((key 0x31), (record { deposit = 5; expiry = 22 })) ∷ []); hot = (((key 0x70), (Hot (key 0x74))) ∷ ((key 0x72), (Hot (key 0x73))) ∷ []); proposals = (refused_dormant_beside_proposals_proposal_0 ∷ refused_dormant_beside_proposals_proposal_1 ∷ refused_dormant_beside_proposals_proposal_2 ∷ refused_dormant_beside_proposals_proposal_3 ∷ []) }); pending = (Some (record { epoch = 2; from_reserves = 20; from_fees = 3; to_treasury = 8; rewards = (((key 0x10), 10) ∷ ((key 0x11), 5) ∷ []) })); counted = 2; mark = (((pool 0x50), 87) ∷ ((pool 0x51), 33) ∷ []); set = (((pool 0x50), 87) ∷ ((pool 0x51), 33) ∷ []); go = (((pool 0x50), 87) ∷ ((pool 0x51), 33) ∷ []); noted_fees = 30; frozen = (record { epoch = 2; entries = (((key 0x10), (record { stake = 20; registered = (Some (record { deposit = 2; rewards = 67; pool = (Some (pool 0x50)); drep = (Some (drep.Registered (key 0x30))) })) })) ∷ ((script 0x10), (record { stake = 9; registered = None })) ∷ ((key 0x11), (record { stake = 0; registered = (Some (record { deposit = 2; rewards = 33; pool = (Some (pool 0x51)); drep = (Some (drep.Registered (key 0x31))) })) })) ∷ ((key 0x12), (record { stake = 0; registered = (Some (record { deposit = 2; rewards = 0; pool = None; drep = None })) })) ∷ []); dreps = (((key 0x30), 20) ∷ ((key 0x31), 20) ∷ []); mark = (((pool 0x50), 87) ∷ ((pool 0x51), 33) ∷ []); pool_accounts = (((pool 0x50), (account_on 1 (key 0x12))) ∷ ((pool 0x51), (account_on 1 (key 0x11))) ∷ []); hot = (((key 0x70), (Hot (key 0x71))) ∷ ((key 0x72), (Hot (key 0x73))) ∷ []); proposals = ((record refused_dormant_beside_proposals_proposal_0 { votes = (((voter.Pool (pool 0x50)), vote.Abstain) ∷ []) }) ∷ (record refused_dormant_beside_proposals_proposal_1 { votes = (((voter.Committee (key 0x71)), vote.Yes) ∷ ((voter.Drep (key 0x30)), vote.No) ∷ []) }) ∷ (record refused_dormant_beside_proposals_proposal_2 { votes = [] }) ∷ (record refused_dormant_beside_proposals_proposal_3 { votes = [] }) ∷ []); start = (record refused_dormant_beside_proposals_state { treasury = 100 }) }) })

pub refused_dormant_beside_proposals : (is_within_dormant_bound refused_dormant_beside_proposals_world.ledger) ≡ false
unfolding digits encode_with
refused_dormant_beside_proposals = refl

abbrev refused_dormant_above_epoch_state : EnactState
refused_dormant_above_epoch_state = (record { params = base_params; version = (10, 0); committee = (Some (record { threshold = (share 0 1); members = (((key 0x70), 100) ∷ []) })); document = (h32 0x01); script = None; last = (record { committee = None; constitution = None; hardfork = None; parameters = None }); treasury = 100 })

abbrev refused_dormant_above_epoch_world : World
refused_dormant_above_epoch_world = (record { ledger = (record { network = 1; epoch_length = 10; supply = 1000; slot = 120; epoch = 12; dormant = 13; reserves = 579; fees = 0; donations = 0; state = refused_dormant_above_epoch_state; outputs = (((ref 0x01 0), (record { address = (address_with 1 (key 0x01) None); lovelace = 20; assets = [] })) ∷ ((ref 0x01 1), (record { address = (address_with 1 (key 0x01) None); lovelace = 20; assets = [] })) ∷ ((ref 0x01 2), (record { address = (address_with 1 (key 0x01) None); lovelace = 20; assets = [] })) ∷ ((ref 0x01 3), (record { address = (address_with 1 (key 0x01) None); lovelace = 20; assets = [] })) ∷ ((ref 0x01 4), (record { address = (address_with 1 (key 0x01) None); lovelace = 20; assets = [] })) ∷ ((ref 0x01 5), (record { address = (address_with 1 (key 0x01) None); lovelace = 20; assets = [] })) ∷ ((ref 0x01 6), (record { address = (address_with 1 (key 0x01) None); lovelace = 20; assets = [] })) ∷ ((ref 0x01 7), (record { address = (address_with 1 (key 0x01) None); lovelace = 20; assets = [] })) ∷ ((ref 0x01 8), (record { address = (address_with 1 (key 0x01) None); lovelace = 20; assets = [] })) ∷ ((ref 0x01 9), (record { address = (address_with 1 (key 0x01) None); lovelace = 20; assets = [] })) ∷ []); used = ((tx_id 0x01) ∷ []); accounts = (((key 0x10), (record { deposit = 2; rewards = 67; pool = None; drep = (Some (drep.Registered (key 0x30))) })) ∷ ((key 0x11), (record { deposit = 2; rewards = 33; pool = None; drep = (Some (drep.Registered (key 0x31))) })) ∷ ((key 0x12), (record { deposit = 2; rewards = 0; pool = None; drep = None })) ∷ []); pools = (((pool 0x50), (record { deposit = 5; terms = (record { cost = 0; pledge = 0; margin = (share 0 1); account = (account_on 1 (key 0x12)); key = None }); future = None; retires = None })) ∷ []); dreps = (((key 0x30), (record { deposit = 5; expiry = 20 })) ∷ ((key 0x31), (record { deposit = 5; expiry = 20 })) ∷ []); hot = (((key 0x70), (Hot (key 0x71))) ∷ []); proposals = [] }); pending = None; counted = 1; mark = (((pool 0x50), 0) ∷ []); set = (((pool 0x50), 0) ∷ []); go = (((pool 0x50), 0) ∷ []); noted_fees = 0; frozen = (record { epoch = 12; entries = (((key 0x10), (record { stake = 0; registered = (Some (record { deposit = 2; rewards = 67; pool = None; drep = (Some (drep.Registered (key 0x30))) })) })) ∷ ((key 0x11), (record { stake = 0; registered = (Some (record { deposit = 2; rewards = 33; pool = None; drep = (Some (drep.Registered (key 0x31))) })) })) ∷ ((key 0x12), (record { stake = 0; registered = (Some (record { deposit = 2; rewards = 0; pool = None; drep = None })) })) ∷ []); dreps = (((key 0x30), 20) ∷ ((key 0x31), 20) ∷ []); mark = (((pool 0x50), 0) ∷ []); pool_accounts = (((pool 0x50), (account_on 1 (key 0x12))) ∷ []); hot = (((key 0x70), (Hot (key 0x71))) ∷ []); proposals = []; start = (record refused_dormant_above_epoch_state { treasury = 100 }) }) })

pub refused_dormant_above_epoch : (is_within_dormant_bound refused_dormant_above_epoch_world.ledger) ≡ false
unfolding digits encode_with
refused_dormant_above_epoch = refl

abbrev refused_expiry_above_its_bound_state : EnactState
refused_expiry_above_its_bound_state = (record { params = base_params; version = (10, 0); committee = (Some (record { threshold = (share 0 1); members = (((key 0x70), 100) ∷ []) })); document = (h32 0x01); script = None; last = (record { committee = None; constitution = None; hardfork = None; parameters = None }); treasury = 100 })

abbrev refused_expiry_above_its_bound_world : World
refused_expiry_above_its_bound_world = (record { ledger = (record { network = 1; epoch_length = 10; supply = 1000; slot = 120; epoch = 12; dormant = 12; reserves = 579; fees = 0; donations = 0; state = refused_expiry_above_its_bound_state; outputs = (((ref 0x01 0), (record { address = (address_with 1 (key 0x01) None); lovelace = 20; assets = [] })) ∷ ((ref 0x01 1), (record { address = (address_with 1 (key 0x01) None); lovelace = 20; assets = [] })) ∷ ((ref 0x01 2), (record { address = (address_with 1 (key 0x01) None); lovelace = 20; assets = [] })) ∷ ((ref 0x01 3), (record { address = (address_with 1 (key 0x01) None); lovelace = 20; assets = [] })) ∷ ((ref 0x01 4), (record { address = (address_with 1 (key 0x01) None); lovelace = 20; assets = [] })) ∷ ((ref 0x01 5), (record { address = (address_with 1 (key 0x01) None); lovelace = 20; assets = [] })) ∷ ((ref 0x01 6), (record { address = (address_with 1 (key 0x01) None); lovelace = 20; assets = [] })) ∷ ((ref 0x01 7), (record { address = (address_with 1 (key 0x01) None); lovelace = 20; assets = [] })) ∷ ((ref 0x01 8), (record { address = (address_with 1 (key 0x01) None); lovelace = 20; assets = [] })) ∷ ((ref 0x01 9), (record { address = (address_with 1 (key 0x01) None); lovelace = 20; assets = [] })) ∷ []); used = ((tx_id 0x01) ∷ []); accounts = (((key 0x10), (record { deposit = 2; rewards = 67; pool = None; drep = (Some (drep.Registered (key 0x30))) })) ∷ ((key 0x11), (record { deposit = 2; rewards = 33; pool = None; drep = (Some (drep.Registered (key 0x31))) })) ∷ ((key 0x12), (record { deposit = 2; rewards = 0; pool = None; drep = None })) ∷ []); pools = (((pool 0x50), (record { deposit = 5; terms = (record { cost = 0; pledge = 0; margin = (share 0 1); account = (account_on 1 (key 0x12)); key = None }); future = None; retires = None })) ∷ []); dreps = (((key 0x30), (record { deposit = 5; expiry = 4611686022722355201 })) ∷ ((key 0x31), (record { deposit = 5; expiry = 20 })) ∷ []); hot = (((key 0x70), (Hot (key 0x71))) ∷ []); proposals = [] }); pending = None; counted = 1; mark = (((pool 0x50), 0) ∷ []); set = (((pool 0x50), 0) ∷ []); go = (((pool 0x50), 0) ∷ []); noted_fees = 0; frozen = (record { epoch = 12; entries = (((key 0x10), (record { stake = 0; registered = (Some (record { deposit = 2; rewards = 67; pool = None; drep = (Some (drep.Registered (key 0x30))) })) })) ∷ ((key 0x11), (record { stake = 0; registered = (Some (record { deposit = 2; rewards = 33; pool = None; drep = (Some (drep.Registered (key 0x31))) })) })) ∷ ((key 0x12), (record { stake = 0; registered = (Some (record { deposit = 2; rewards = 0; pool = None; drep = None })) })) ∷ []); dreps = (((key 0x30), 20) ∷ ((key 0x31), 20) ∷ []); mark = (((pool 0x50), 0) ∷ []); pool_accounts = (((pool 0x50), (account_on 1 (key 0x12))) ∷ []); hot = (((key 0x70), (Hot (key 0x71))) ∷ []); proposals = []; start = (record refused_expiry_above_its_bound_state { treasury = 100 }) }) })

pub refused_expiry_above_its_bound : (is_within_dormant_bound refused_expiry_above_its_bound_world.ledger) ≡ false
unfolding digits encode_with
refused_expiry_above_its_bound = refl

abbrev refused_frozen_treasury_above_the_live_state : EnactState
refused_frozen_treasury_above_the_live_state = (record { params = (record base_params { gov_action_lifetime = 20 }); version = (10, 0); committee = (Some (record { threshold = (share 0 1); members = (((key 0x70), 100) ∷ ((key 0x72), 100) ∷ []) })); document = (h32 0x01); script = None; last = (record { committee = None; constitution = None; hardfork = None; parameters = None }); treasury = 100 })

abbrev refused_frozen_treasury_above_the_live_proposal_0 : Proposal
refused_frozen_treasury_above_the_live_proposal_0 = (record { id = (action 0x02 0); action = (actions.NoConfidence None); deposit = 10; account = (account_on 1 (key 0x12)); expires_after = 20; votes = (((voter.Pool (pool 0x50)), vote.Abstain) ∷ []) })

abbrev refused_frozen_treasury_above_the_live_proposal_1 : Proposal
refused_frozen_treasury_above_the_live_proposal_1 = (record { id = (action 0x02 1); action = (actions.NewConstitution None (h32 0x02) None); deposit = 10; account = (account_on 1 (key 0x12)); expires_after = 20; votes = (((voter.Committee (key 0x71)), vote.Yes) ∷ ((voter.Drep (key 0x30)), vote.No) ∷ ((voter.Drep (key 0x31)), vote.Yes) ∷ []) })

abbrev refused_frozen_treasury_above_the_live_proposal_2 : Proposal
refused_frozen_treasury_above_the_live_proposal_2 = (record { id = (action 0x02 2); action = (actions.Info); deposit = 10; account = (account_on 1 (key 0x11)); expires_after = 20; votes = [] })

abbrev refused_frozen_treasury_above_the_live_proposal_3 : Proposal
refused_frozen_treasury_above_the_live_proposal_3 = (record { id = (action 0x03 0); action = (actions.NoConfidence (Some (action 0x02 0))); deposit = 10; account = (account_on 1 (key 0x12)); expires_after = 20; votes = [] })

abbrev refused_frozen_treasury_above_the_live_world : World
refused_frozen_treasury_above_the_live_world = (record { ledger = (record { network = 1; epoch_length = 10; supply = 1000; slot = 21; epoch = 2; dormant = 0; reserves = 635; fees = 35; donations = 10; state = refused_frozen_treasury_above_the_live_state; outputs = (((ref 0x01 6), (record { address = (address_with 1 (key 0x01) None); lovelace = 20; assets = [] })) ∷ ((ref 0x01 7), (record { address = (address_with 1 (key 0x01) (Some (key 0x10))); lovelace = 20; assets = [] })) ∷ ((ref 0x01 8), (record { address = (address_with 1 (key 0x01) (Some (script 0x10))); lovelace = 9; assets = [] })) ∷ ((ref 0x05 0), (record { address = (address_with 1 (key 0x01) None); lovelace = 5; assets = [] })) ∷ []); used = ((tx_id 0x01) ∷ (tx_id 0x02) ∷ (tx_id 0x03) ∷ (tx_id 0x04) ∷ (tx_id 0x05) ∷ []); accounts = (((key 0x10), (record { deposit = 2; rewards = 67; pool = (Some (pool 0x50)); drep = (Some (drep.Registered (key 0x30))) })) ∷ ((key 0x11), (record { deposit = 2; rewards = 33; pool = (Some (pool 0x51)); drep = (Some (drep.Registered (key 0x31))) })) ∷ ((key 0x12), (record { deposit = 2; rewards = 0; pool = None; drep = None })) ∷ []); pools = (((pool 0x50), (record { deposit = 5; terms = (record { cost = 0; pledge = 0; margin = (share 0 1); account = (account_on 1 (key 0x12)); key = None }); future = (Some (record { cost = 1; pledge = 2; margin = (share 1 3); account = (account_on 1 (key 0x12)); key = None })); retires = None })) ∷ ((pool 0x51), (record { deposit = 5; terms = (record { cost = 0; pledge = 0; margin = (share 0 1); account = (account_on 1 (key 0x11)); key = None }); future = None; retires = None })) ∷ []); dreps = (((key 0x30), (record { deposit = 5; expiry = 20 })) ∷ ((key 0x31), (record { deposit = 5; expiry = 22 })) ∷ []); hot = (((key 0x70), (Hot (key 0x74))) ∷ ((key 0x72), (Hot (key 0x73))) ∷ []); proposals = (refused_frozen_treasury_above_the_live_proposal_0 ∷ refused_frozen_treasury_above_the_live_proposal_1 ∷ refused_frozen_treasury_above_the_live_proposal_2 ∷ refused_frozen_treasury_above_the_live_proposal_3 ∷ []) }); pending = (Some (record { epoch = 2; from_reserves = 20; from_fees = 3; to_treasury = 8; rewards = (((key 0x10), 10) ∷ ((key 0x11), 5) ∷ []) })); counted = 2; mark = (((pool 0x50), 87) ∷ ((pool 0x51), 33) ∷ []); set = (((pool 0x50), 87) ∷ ((pool 0x51), 33) ∷ []); go = (((pool 0x50), 87) ∷ ((pool 0x51), 33) ∷ []); noted_fees = 30; frozen = (record { epoch = 2; entries = (((key 0x10), (record { stake = 20; registered = (Some (record { deposit = 2; rewards = 67; pool = (Some (pool 0x50)); drep = (Some (drep.Registered (key 0x30))) })) })) ∷ ((script 0x10), (record { stake = 9; registered = None })) ∷ ((key 0x11), (record { stake = 0; registered = (Some (record { deposit = 2; rewards = 33; pool = (Some (pool 0x51)); drep = (Some (drep.Registered (key 0x31))) })) })) ∷ ((key 0x12), (record { stake = 0; registered = (Some (record { deposit = 2; rewards = 0; pool = None; drep = None })) })) ∷ []); dreps = (((key 0x30), 20) ∷ ((key 0x31), 20) ∷ []); mark = (((pool 0x50), 87) ∷ ((pool 0x51), 33) ∷ []); pool_accounts = (((pool 0x50), (account_on 1 (key 0x12))) ∷ ((pool 0x51), (account_on 1 (key 0x11))) ∷ []); hot = (((key 0x70), (Hot (key 0x71))) ∷ ((key 0x72), (Hot (key 0x73))) ∷ []); proposals = ((record refused_frozen_treasury_above_the_live_proposal_0 { votes = (((voter.Pool (pool 0x50)), vote.Abstain) ∷ []) }) ∷ (record refused_frozen_treasury_above_the_live_proposal_1 { votes = (((voter.Committee (key 0x71)), vote.Yes) ∷ ((voter.Drep (key 0x30)), vote.No) ∷ []) }) ∷ (record refused_frozen_treasury_above_the_live_proposal_2 { votes = [] }) ∷ (record refused_frozen_treasury_above_the_live_proposal_3 { votes = [] }) ∷ []); start = (record refused_frozen_treasury_above_the_live_state { treasury = 101 }) }) })

pub refused_frozen_treasury_above_the_live : (nat_le refused_frozen_treasury_above_the_live_world.frozen.start.treasury refused_frozen_treasury_above_the_live_world.ledger.state.treasury) ≡ false
unfolding digits encode_with
refused_frozen_treasury_above_the_live = refl

abbrev refused_pending_not_balanced_state : EnactState
refused_pending_not_balanced_state = (record { params = (record base_params { gov_action_lifetime = 20 }); version = (10, 0); committee = (Some (record { threshold = (share 0 1); members = (((key 0x70), 100) ∷ ((key 0x72), 100) ∷ []) })); document = (h32 0x01); script = None; last = (record { committee = None; constitution = None; hardfork = None; parameters = None }); treasury = 100 })

abbrev refused_pending_not_balanced_proposal_0 : Proposal
refused_pending_not_balanced_proposal_0 = (record { id = (action 0x02 0); action = (actions.NoConfidence None); deposit = 10; account = (account_on 1 (key 0x12)); expires_after = 20; votes = (((voter.Pool (pool 0x50)), vote.Abstain) ∷ []) })

abbrev refused_pending_not_balanced_proposal_1 : Proposal
refused_pending_not_balanced_proposal_1 = (record { id = (action 0x02 1); action = (actions.NewConstitution None (h32 0x02) None); deposit = 10; account = (account_on 1 (key 0x12)); expires_after = 20; votes = (((voter.Committee (key 0x71)), vote.Yes) ∷ ((voter.Drep (key 0x30)), vote.No) ∷ ((voter.Drep (key 0x31)), vote.Yes) ∷ []) })

abbrev refused_pending_not_balanced_proposal_2 : Proposal
refused_pending_not_balanced_proposal_2 = (record { id = (action 0x02 2); action = (actions.Info); deposit = 10; account = (account_on 1 (key 0x11)); expires_after = 20; votes = [] })

abbrev refused_pending_not_balanced_proposal_3 : Proposal
refused_pending_not_balanced_proposal_3 = (record { id = (action 0x03 0); action = (actions.NoConfidence (Some (action 0x02 0))); deposit = 10; account = (account_on 1 (key 0x12)); expires_after = 20; votes = [] })

abbrev refused_pending_not_balanced_world : World
refused_pending_not_balanced_world = (record { ledger = (record { network = 1; epoch_length = 10; supply = 1000; slot = 21; epoch = 2; dormant = 0; reserves = 635; fees = 35; donations = 10; state = refused_pending_not_balanced_state; outputs = (((ref 0x01 6), (record { address = (address_with 1 (key 0x01) None); lovelace = 20; assets = [] })) ∷ ((ref 0x01 7), (record { address = (address_with 1 (key 0x01) (Some (key 0x10))); lovelace = 20; assets = [] })) ∷ ((ref 0x01 8), (record { address = (address_with 1 (key 0x01) (Some (script 0x10))); lovelace = 9; assets = [] })) ∷ ((ref 0x05 0), (record { address = (address_with 1 (key 0x01) None); lovelace = 5; assets = [] })) ∷ []); used = ((tx_id 0x01) ∷ (tx_id 0x02) ∷ (tx_id 0x03) ∷ (tx_id 0x04) ∷ (tx_id 0x05) ∷ []); accounts = (((key 0x10), (record { deposit = 2; rewards = 67; pool = (Some (pool 0x50)); drep = (Some (drep.Registered (key 0x30))) })) ∷ ((key 0x11), (record { deposit = 2; rewards = 33; pool = (Some (pool 0x51)); drep = (Some (drep.Registered (key 0x31))) })) ∷ ((key 0x12), (record { deposit = 2; rewards = 0; pool = None; drep = None })) ∷ []); pools = (((pool 0x50), (record { deposit = 5; terms = (record { cost = 0; pledge = 0; margin = (share 0 1); account = (account_on 1 (key 0x12)); key = None }); future = (Some (record { cost = 1; pledge = 2; margin = (share 1 3); account = (account_on 1 (key 0x12)); key = None })); retires = None })) ∷ ((pool 0x51), (record { deposit = 5; terms = (record { cost = 0; pledge = 0; margin = (share 0 1); account = (account_on 1 (key 0x11)); key = None }); future = None; retires = None })) ∷ []); dreps = (((key 0x30), (record { deposit = 5; expiry = 20 })) ∷ ((key 0x31), (record { deposit = 5; expiry = 22 })) ∷ []); hot = (((key 0x70), (Hot (key 0x74))) ∷ ((key 0x72), (Hot (key 0x73))) ∷ []); proposals = (refused_pending_not_balanced_proposal_0 ∷ refused_pending_not_balanced_proposal_1 ∷ refused_pending_not_balanced_proposal_2 ∷ refused_pending_not_balanced_proposal_3 ∷ []) }); pending = (Some (record { epoch = 2; from_reserves = 20; from_fees = 3; to_treasury = 9; rewards = (((key 0x10), 10) ∷ ((key 0x11), 5) ∷ []) })); counted = 2; mark = (((pool 0x50), 87) ∷ ((pool 0x51), 33) ∷ []); set = (((pool 0x50), 87) ∷ ((pool 0x51), 33) ∷ []); go = (((pool 0x50), 87) ∷ ((pool 0x51), 33) ∷ []); noted_fees = 30; frozen = (record { epoch = 2; entries = (((key 0x10), (record { stake = 20; registered = (Some (record { deposit = 2; rewards = 67; pool = (Some (pool 0x50)); drep = (Some (drep.Registered (key 0x30))) })) })) ∷ ((script 0x10), (record { stake = 9; registered = None })) ∷ ((key 0x11), (record { stake = 0; registered = (Some (record { deposit = 2; rewards = 33; pool = (Some (pool 0x51)); drep = (Some (drep.Registered (key 0x31))) })) })) ∷ ((key 0x12), (record { stake = 0; registered = (Some (record { deposit = 2; rewards = 0; pool = None; drep = None })) })) ∷ []); dreps = (((key 0x30), 20) ∷ ((key 0x31), 20) ∷ []); mark = (((pool 0x50), 87) ∷ ((pool 0x51), 33) ∷ []); pool_accounts = (((pool 0x50), (account_on 1 (key 0x12))) ∷ ((pool 0x51), (account_on 1 (key 0x11))) ∷ []); hot = (((key 0x70), (Hot (key 0x71))) ∷ ((key 0x72), (Hot (key 0x73))) ∷ []); proposals = ((record refused_pending_not_balanced_proposal_0 { votes = (((voter.Pool (pool 0x50)), vote.Abstain) ∷ []) }) ∷ (record refused_pending_not_balanced_proposal_1 { votes = (((voter.Committee (key 0x71)), vote.Yes) ∷ ((voter.Drep (key 0x30)), vote.No) ∷ []) }) ∷ (record refused_pending_not_balanced_proposal_2 { votes = [] }) ∷ (record refused_pending_not_balanced_proposal_3 { votes = [] }) ∷ []); start = (record refused_pending_not_balanced_state { treasury = 100 }) }) })

pub refused_pending_not_balanced : (none_or (is_covered refused_pending_not_balanced_world.ledger) refused_pending_not_balanced_world.pending) ≡ false
unfolding digits encode_with
refused_pending_not_balanced = refl

abbrev refused_pending_above_reserves_state : EnactState
refused_pending_above_reserves_state = (record { params = (record base_params { gov_action_lifetime = 20 }); version = (10, 0); committee = (Some (record { threshold = (share 0 1); members = (((key 0x70), 100) ∷ ((key 0x72), 100) ∷ []) })); document = (h32 0x01); script = None; last = (record { committee = None; constitution = None; hardfork = None; parameters = None }); treasury = 100 })

abbrev refused_pending_above_reserves_proposal_0 : Proposal
refused_pending_above_reserves_proposal_0 = (record { id = (action 0x02 0); action = (actions.NoConfidence None); deposit = 10; account = (account_on 1 (key 0x12)); expires_after = 20; votes = (((voter.Pool (pool 0x50)), vote.Abstain) ∷ []) })

abbrev refused_pending_above_reserves_proposal_1 : Proposal
refused_pending_above_reserves_proposal_1 = (record { id = (action 0x02 1); action = (actions.NewConstitution None (h32 0x02) None); deposit = 10; account = (account_on 1 (key 0x12)); expires_after = 20; votes = (((voter.Committee (key 0x71)), vote.Yes) ∷ ((voter.Drep (key 0x30)), vote.No) ∷ ((voter.Drep (key 0x31)), vote.Yes) ∷ []) })

abbrev refused_pending_above_reserves_proposal_2 : Proposal
refused_pending_above_reserves_proposal_2 = (record { id = (action 0x02 2); action = (actions.Info); deposit = 10; account = (account_on 1 (key 0x11)); expires_after = 20; votes = [] })

abbrev refused_pending_above_reserves_proposal_3 : Proposal
refused_pending_above_reserves_proposal_3 = (record { id = (action 0x03 0); action = (actions.NoConfidence (Some (action 0x02 0))); deposit = 10; account = (account_on 1 (key 0x12)); expires_after = 20; votes = [] })

abbrev refused_pending_above_reserves_world : World
refused_pending_above_reserves_world = (record { ledger = (record { network = 1; epoch_length = 10; supply = 1000; slot = 21; epoch = 2; dormant = 0; reserves = 635; fees = 35; donations = 10; state = refused_pending_above_reserves_state; outputs = (((ref 0x01 6), (record { address = (address_with 1 (key 0x01) None); lovelace = 20; assets = [] })) ∷ ((ref 0x01 7), (record { address = (address_with 1 (key 0x01) (Some (key 0x10))); lovelace = 20; assets = [] })) ∷ ((ref 0x01 8), (record { address = (address_with 1 (key 0x01) (Some (script 0x10))); lovelace = 9; assets = [] })) ∷ ((ref 0x05 0), (record { address = (address_with 1 (key 0x01) None); lovelace = 5; assets = [] })) ∷ []); used = ((tx_id 0x01) ∷ (tx_id 0x02) ∷ (tx_id 0x03) ∷ (tx_id 0x04) ∷ (tx_id 0x05) ∷ []); accounts = (((key 0x10), (record { deposit = 2; rewards = 67; pool = (Some (pool 0x50)); drep = (Some (drep.Registered (key 0x30))) })) ∷ ((key 0x11), (record { deposit = 2; rewards = 33; pool = (Some (pool 0x51)); drep = (Some (drep.Registered (key 0x31))) })) ∷ ((key 0x12), (record { deposit = 2; rewards = 0; pool = None; drep = None })) ∷ []); pools = (((pool 0x50), (record { deposit = 5; terms = (record { cost = 0; pledge = 0; margin = (share 0 1); account = (account_on 1 (key 0x12)); key = None }); future = (Some (record { cost = 1; pledge = 2; margin = (share 1 3); account = (account_on 1 (key 0x12)); key = None })); retires = None })) ∷ ((pool 0x51), (record { deposit = 5; terms = (record { cost = 0; pledge = 0; margin = (share 0 1); account = (account_on 1 (key 0x11)); key = None }); future = None; retires = None })) ∷ []); dreps = (((key 0x30), (record { deposit = 5; expiry = 20 })) ∷ ((key 0x31), (record { deposit = 5; expiry = 22 })) ∷ []); hot = (((key 0x70), (Hot (key 0x74))) ∷ ((key 0x72), (Hot (key 0x73))) ∷ []); proposals = (refused_pending_above_reserves_proposal_0 ∷ refused_pending_above_reserves_proposal_1 ∷ refused_pending_above_reserves_proposal_2 ∷ refused_pending_above_reserves_proposal_3 ∷ []) }); pending = (Some (record { epoch = 2; from_reserves = 10020; from_fees = 3; to_treasury = 10008; rewards = (((key 0x10), 10) ∷ ((key 0x11), 5) ∷ []) })); counted = 2; mark = (((pool 0x50), 87) ∷ ((pool 0x51), 33) ∷ []); set = (((pool 0x50), 87) ∷ ((pool 0x51), 33) ∷ []); go = (((pool 0x50), 87) ∷ ((pool 0x51), 33) ∷ []); noted_fees = 30; frozen = (record { epoch = 2; entries = (((key 0x10), (record { stake = 20; registered = (Some (record { deposit = 2; rewards = 67; pool = (Some (pool 0x50)); drep = (Some (drep.Registered (key 0x30))) })) })) ∷ ((script 0x10), (record { stake = 9; registered = None })) ∷ ((key 0x11), (record { stake = 0; registered = (Some (record { deposit = 2; rewards = 33; pool = (Some (pool 0x51)); drep = (Some (drep.Registered (key 0x31))) })) })) ∷ ((key 0x12), (record { stake = 0; registered = (Some (record { deposit = 2; rewards = 0; pool = None; drep = None })) })) ∷ []); dreps = (((key 0x30), 20) ∷ ((key 0x31), 20) ∷ []); mark = (((pool 0x50), 87) ∷ ((pool 0x51), 33) ∷ []); pool_accounts = (((pool 0x50), (account_on 1 (key 0x12))) ∷ ((pool 0x51), (account_on 1 (key 0x11))) ∷ []); hot = (((key 0x70), (Hot (key 0x71))) ∷ ((key 0x72), (Hot (key 0x73))) ∷ []); proposals = ((record refused_pending_above_reserves_proposal_0 { votes = (((voter.Pool (pool 0x50)), vote.Abstain) ∷ []) }) ∷ (record refused_pending_above_reserves_proposal_1 { votes = (((voter.Committee (key 0x71)), vote.Yes) ∷ ((voter.Drep (key 0x30)), vote.No) ∷ []) }) ∷ (record refused_pending_above_reserves_proposal_2 { votes = [] }) ∷ (record refused_pending_above_reserves_proposal_3 { votes = [] }) ∷ []); start = (record refused_pending_above_reserves_state { treasury = 100 }) }) })

pub refused_pending_above_reserves : (none_or (is_covered refused_pending_above_reserves_world.ledger) refused_pending_above_reserves_world.pending) ≡ false
unfolding digits encode_with
refused_pending_above_reserves = refl

abbrev refused_pending_above_fees_state : EnactState
refused_pending_above_fees_state = (record { params = (record base_params { gov_action_lifetime = 20 }); version = (10, 0); committee = (Some (record { threshold = (share 0 1); members = (((key 0x70), 100) ∷ ((key 0x72), 100) ∷ []) })); document = (h32 0x01); script = None; last = (record { committee = None; constitution = None; hardfork = None; parameters = None }); treasury = 100 })

abbrev refused_pending_above_fees_proposal_0 : Proposal
refused_pending_above_fees_proposal_0 = (record { id = (action 0x02 0); action = (actions.NoConfidence None); deposit = 10; account = (account_on 1 (key 0x12)); expires_after = 20; votes = (((voter.Pool (pool 0x50)), vote.Abstain) ∷ []) })

abbrev refused_pending_above_fees_proposal_1 : Proposal
refused_pending_above_fees_proposal_1 = (record { id = (action 0x02 1); action = (actions.NewConstitution None (h32 0x02) None); deposit = 10; account = (account_on 1 (key 0x12)); expires_after = 20; votes = (((voter.Committee (key 0x71)), vote.Yes) ∷ ((voter.Drep (key 0x30)), vote.No) ∷ ((voter.Drep (key 0x31)), vote.Yes) ∷ []) })

abbrev refused_pending_above_fees_proposal_2 : Proposal
refused_pending_above_fees_proposal_2 = (record { id = (action 0x02 2); action = (actions.Info); deposit = 10; account = (account_on 1 (key 0x11)); expires_after = 20; votes = [] })

abbrev refused_pending_above_fees_proposal_3 : Proposal
refused_pending_above_fees_proposal_3 = (record { id = (action 0x03 0); action = (actions.NoConfidence (Some (action 0x02 0))); deposit = 10; account = (account_on 1 (key 0x12)); expires_after = 20; votes = [] })

abbrev refused_pending_above_fees_world : World
refused_pending_above_fees_world = (record { ledger = (record { network = 1; epoch_length = 10; supply = 1000; slot = 21; epoch = 2; dormant = 0; reserves = 635; fees = 35; donations = 10; state = refused_pending_above_fees_state; outputs = (((ref 0x01 6), (record { address = (address_with 1 (key 0x01) None); lovelace = 20; assets = [] })) ∷ ((ref 0x01 7), (record { address = (address_with 1 (key 0x01) (Some (key 0x10))); lovelace = 20; assets = [] })) ∷ ((ref 0x01 8), (record { address = (address_with 1 (key 0x01) (Some (script 0x10))); lovelace = 9; assets = [] })) ∷ ((ref 0x05 0), (record { address = (address_with 1 (key 0x01) None); lovelace = 5; assets = [] })) ∷ []); used = ((tx_id 0x01) ∷ (tx_id 0x02) ∷ (tx_id 0x03) ∷ (tx_id 0x04) ∷ (tx_id 0x05) ∷ []); accounts = (((key 0x10), (record { deposit = 2; rewards = 67; pool = (Some (pool 0x50)); drep = (Some (drep.Registered (key 0x30))) })) ∷ ((key 0x11), (record { deposit = 2; rewards = 33; pool = (Some (pool 0x51)); drep = (Some (drep.Registered (key 0x31))) })) ∷ ((key 0x12), (record { deposit = 2; rewards = 0; pool = None; drep = None })) ∷ []); pools = (((pool 0x50), (record { deposit = 5; terms = (record { cost = 0; pledge = 0; margin = (share 0 1); account = (account_on 1 (key 0x12)); key = None }); future = (Some (record { cost = 1; pledge = 2; margin = (share 1 3); account = (account_on 1 (key 0x12)); key = None })); retires = None })) ∷ ((pool 0x51), (record { deposit = 5; terms = (record { cost = 0; pledge = 0; margin = (share 0 1); account = (account_on 1 (key 0x11)); key = None }); future = None; retires = None })) ∷ []); dreps = (((key 0x30), (record { deposit = 5; expiry = 20 })) ∷ ((key 0x31), (record { deposit = 5; expiry = 22 })) ∷ []); hot = (((key 0x70), (Hot (key 0x74))) ∷ ((key 0x72), (Hot (key 0x73))) ∷ []); proposals = (refused_pending_above_fees_proposal_0 ∷ refused_pending_above_fees_proposal_1 ∷ refused_pending_above_fees_proposal_2 ∷ refused_pending_above_fees_proposal_3 ∷ []) }); pending = (Some (record { epoch = 2; from_reserves = 20; from_fees = 203; to_treasury = 208; rewards = (((key 0x10), 10) ∷ ((key 0x11), 5) ∷ []) })); counted = 2; mark = (((pool 0x50), 87) ∷ ((pool 0x51), 33) ∷ []); set = (((pool 0x50), 87) ∷ ((pool 0x51), 33) ∷ []); go = (((pool 0x50), 87) ∷ ((pool 0x51), 33) ∷ []); noted_fees = 30; frozen = (record { epoch = 2; entries = (((key 0x10), (record { stake = 20; registered = (Some (record { deposit = 2; rewards = 67; pool = (Some (pool 0x50)); drep = (Some (drep.Registered (key 0x30))) })) })) ∷ ((script 0x10), (record { stake = 9; registered = None })) ∷ ((key 0x11), (record { stake = 0; registered = (Some (record { deposit = 2; rewards = 33; pool = (Some (pool 0x51)); drep = (Some (drep.Registered (key 0x31))) })) })) ∷ ((key 0x12), (record { stake = 0; registered = (Some (record { deposit = 2; rewards = 0; pool = None; drep = None })) })) ∷ []); dreps = (((key 0x30), 20) ∷ ((key 0x31), 20) ∷ []); mark = (((pool 0x50), 87) ∷ ((pool 0x51), 33) ∷ []); pool_accounts = (((pool 0x50), (account_on 1 (key 0x12))) ∷ ((pool 0x51), (account_on 1 (key 0x11))) ∷ []); hot = (((key 0x70), (Hot (key 0x71))) ∷ ((key 0x72), (Hot (key 0x73))) ∷ []); proposals = ((record refused_pending_above_fees_proposal_0 { votes = (((voter.Pool (pool 0x50)), vote.Abstain) ∷ []) }) ∷ (record refused_pending_above_fees_proposal_1 { votes = (((voter.Committee (key 0x71)), vote.Yes) ∷ ((voter.Drep (key 0x30)), vote.No) ∷ []) }) ∷ (record refused_pending_above_fees_proposal_2 { votes = [] }) ∷ (record refused_pending_above_fees_proposal_3 { votes = [] }) ∷ []); start = (record refused_pending_above_fees_state { treasury = 100 }) }) })

pub refused_pending_above_fees : (none_or (is_covered refused_pending_above_fees_world.ledger) refused_pending_above_fees_world.pending) ≡ false
unfolding digits encode_with
refused_pending_above_fees = refl

abbrev refused_pending_rewards_out_of_order_state : EnactState
refused_pending_rewards_out_of_order_state = (record { params = (record base_params { gov_action_lifetime = 20 }); version = (10, 0); committee = (Some (record { threshold = (share 0 1); members = (((key 0x70), 100) ∷ ((key 0x72), 100) ∷ []) })); document = (h32 0x01); script = None; last = (record { committee = None; constitution = None; hardfork = None; parameters = None }); treasury = 100 })

abbrev refused_pending_rewards_out_of_order_proposal_0 : Proposal
refused_pending_rewards_out_of_order_proposal_0 = (record { id = (action 0x02 0); action = (actions.NoConfidence None); deposit = 10; account = (account_on 1 (key 0x12)); expires_after = 20; votes = (((voter.Pool (pool 0x50)), vote.Abstain) ∷ []) })

abbrev refused_pending_rewards_out_of_order_proposal_1 : Proposal
refused_pending_rewards_out_of_order_proposal_1 = (record { id = (action 0x02 1); action = (actions.NewConstitution None (h32 0x02) None); deposit = 10; account = (account_on 1 (key 0x12)); expires_after = 20; votes = (((voter.Committee (key 0x71)), vote.Yes) ∷ ((voter.Drep (key 0x30)), vote.No) ∷ ((voter.Drep (key 0x31)), vote.Yes) ∷ []) })

abbrev refused_pending_rewards_out_of_order_proposal_2 : Proposal
refused_pending_rewards_out_of_order_proposal_2 = (record { id = (action 0x02 2); action = (actions.Info); deposit = 10; account = (account_on 1 (key 0x11)); expires_after = 20; votes = [] })

abbrev refused_pending_rewards_out_of_order_proposal_3 : Proposal
refused_pending_rewards_out_of_order_proposal_3 = (record { id = (action 0x03 0); action = (actions.NoConfidence (Some (action 0x02 0))); deposit = 10; account = (account_on 1 (key 0x12)); expires_after = 20; votes = [] })

abbrev refused_pending_rewards_out_of_order_world : World
refused_pending_rewards_out_of_order_world = (record { ledger = (record { network = 1; epoch_length = 10; supply = 1000; slot = 21; epoch = 2; dormant = 0; reserves = 635; fees = 35; donations = 10; state = refused_pending_rewards_out_of_order_state; outputs = (((ref 0x01 6), (record { address = (address_with 1 (key 0x01) None); lovelace = 20; assets = [] })) ∷ ((ref 0x01 7), (record { address = (address_with 1 (key 0x01) (Some (key 0x10))); lovelace = 20; assets = [] })) ∷ ((ref 0x01 8), (record { address = (address_with 1 (key 0x01) (Some (script 0x10))); lovelace = 9; assets = [] })) ∷ ((ref 0x05 0), (record { address = (address_with 1 (key 0x01) None); lovelace = 5; assets = [] })) ∷ []); used = ((tx_id 0x01) ∷ (tx_id 0x02) ∷ (tx_id 0x03) ∷ (tx_id 0x04) ∷ (tx_id 0x05) ∷ []); accounts = (((key 0x10), (record { deposit = 2; rewards = 67; pool = (Some (pool 0x50)); drep = (Some (drep.Registered (key 0x30))) })) ∷ ((key 0x11), (record { deposit = 2; rewards = 33; pool = (Some (pool 0x51)); drep = (Some (drep.Registered (key 0x31))) })) ∷ ((key 0x12), (record { deposit = 2; rewards = 0; pool = None; drep = None })) ∷ []); pools = (((pool 0x50), (record { deposit = 5; terms = (record { cost = 0; pledge = 0; margin = (share 0 1); account = (account_on 1 (key 0x12)); key = None }); future = (Some (record { cost = 1; pledge = 2; margin = (share 1 3); account = (account_on 1 (key 0x12)); key = None })); retires = None })) ∷ ((pool 0x51), (record { deposit = 5; terms = (record { cost = 0; pledge = 0; margin = (share 0 1); account = (account_on 1 (key 0x11)); key = None }); future = None; retires = None })) ∷ []); dreps = (((key 0x30), (record { deposit = 5; expiry = 20 })) ∷ ((key 0x31), (record { deposit = 5; expiry = 22 })) ∷ []); hot = (((key 0x70), (Hot (key 0x74))) ∷ ((key 0x72), (Hot (key 0x73))) ∷ []); proposals = (refused_pending_rewards_out_of_order_proposal_0 ∷ refused_pending_rewards_out_of_order_proposal_1 ∷ refused_pending_rewards_out_of_order_proposal_2 ∷ refused_pending_rewards_out_of_order_proposal_3 ∷ []) }); pending = (Some (record { epoch = 2; from_reserves = 20; from_fees = 3; to_treasury = 8; rewards = (((key 0x11), 5) ∷ ((key 0x10), 10) ∷ []) })); counted = 2; mark = (((pool 0x50), 87) ∷ ((pool 0x51), 33) ∷ []); set = (((pool 0x50), 87) ∷ ((pool 0x51), 33) ∷ []); go = (((pool 0x50), 87) ∷ ((pool 0x51), 33) ∷ []); noted_fees = 30; frozen = (record { epoch = 2; entries = (((key 0x10), (record { stake = 20; registered = (Some (record { deposit = 2; rewards = 67; pool = (Some (pool 0x50)); drep = (Some (drep.Registered (key 0x30))) })) })) ∷ ((script 0x10), (record { stake = 9; registered = None })) ∷ ((key 0x11), (record { stake = 0; registered = (Some (record { deposit = 2; rewards = 33; pool = (Some (pool 0x51)); drep = (Some (drep.Registered (key 0x31))) })) })) ∷ ((key 0x12), (record { stake = 0; registered = (Some (record { deposit = 2; rewards = 0; pool = None; drep = None })) })) ∷ []); dreps = (((key 0x30), 20) ∷ ((key 0x31), 20) ∷ []); mark = (((pool 0x50), 87) ∷ ((pool 0x51), 33) ∷ []); pool_accounts = (((pool 0x50), (account_on 1 (key 0x12))) ∷ ((pool 0x51), (account_on 1 (key 0x11))) ∷ []); hot = (((key 0x70), (Hot (key 0x71))) ∷ ((key 0x72), (Hot (key 0x73))) ∷ []); proposals = ((record refused_pending_rewards_out_of_order_proposal_0 { votes = (((voter.Pool (pool 0x50)), vote.Abstain) ∷ []) }) ∷ (record refused_pending_rewards_out_of_order_proposal_1 { votes = (((voter.Committee (key 0x71)), vote.Yes) ∷ ((voter.Drep (key 0x30)), vote.No) ∷ []) }) ∷ (record refused_pending_rewards_out_of_order_proposal_2 { votes = [] }) ∷ (record refused_pending_rewards_out_of_order_proposal_3 { votes = [] }) ∷ []); start = (record refused_pending_rewards_out_of_order_state { treasury = 100 }) }) })

pub refused_pending_rewards_out_of_order : (has_form refused_pending_rewards_out_of_order_world) ≡ false
unfolding digits encode_with
refused_pending_rewards_out_of_order = refl

abbrev refused_frozen_sums_above_the_supply_state : EnactState
refused_frozen_sums_above_the_supply_state = (record { params = (record base_params { max_collateral_inputs = 65535; key_deposit = 18446744073709551615; e_max = 4294967295; gov_action_lifetime = 20 }); version = (10, 0); committee = (Some (record { threshold = (share 0 1); members = (((key 0x70), 100) ∷ ((key 0x72), 4611686018427387903) ∷ []) })); document = (h32 0x01); script = None; last = (record { committee = None; constitution = None; hardfork = None; parameters = None }); treasury = 100 })

abbrev refused_frozen_sums_above_the_supply_proposal_0 : Proposal
refused_frozen_sums_above_the_supply_proposal_0 = (record { id = (action 0x02 0); action = (actions.NoConfidence None); deposit = 10; account = (account_on 1 (key 0x12)); expires_after = 20; votes = (((voter.Pool (pool 0x50)), vote.Abstain) ∷ []) })

abbrev refused_frozen_sums_above_the_supply_proposal_1 : Proposal
refused_frozen_sums_above_the_supply_proposal_1 = (record { id = (action 0x02 1); action = (actions.NewConstitution None (h32 0x02) None); deposit = 10; account = (account_on 1 (key 0x12)); expires_after = 20; votes = (((voter.Committee (key 0x71)), vote.Yes) ∷ ((voter.Drep (key 0x30)), vote.No) ∷ ((voter.Drep (key 0x31)), vote.Yes) ∷ []) })

abbrev refused_frozen_sums_above_the_supply_proposal_2 : Proposal
refused_frozen_sums_above_the_supply_proposal_2 = (record { id = (action 0x02 2); action = (actions.Info); deposit = 10; account = (account_on 1 (key 0x11)); expires_after = 20; votes = [] })

abbrev refused_frozen_sums_above_the_supply_proposal_3 : Proposal
refused_frozen_sums_above_the_supply_proposal_3 = (record { id = (action 0x03 0); action = (actions.NoConfidence (Some (action 0x02 0))); deposit = 10; account = (account_on 1 (key 0x12)); expires_after = 20; votes = [] })

abbrev refused_frozen_sums_above_the_supply_world : World
refused_frozen_sums_above_the_supply_world = (record { ledger = (record { network = 1; epoch_length = 10; supply = 1000; slot = 21; epoch = 2; dormant = 0; reserves = 635; fees = 35; donations = 10; state = refused_frozen_sums_above_the_supply_state; outputs = (((ref 0x01 6), (record { address = (address_with 1 (key 0x01) None); lovelace = 20; assets = [] })) ∷ ((ref 0x01 7), (record { address = (address_with 1 (key 0x01) (Some (key 0x10))); lovelace = 20; assets = [] })) ∷ ((ref 0x01 8), (record { address = (address_with 1 (key 0x01) (Some (script 0x10))); lovelace = 9; assets = [] })) ∷ ((ref 0x05 0), (record { address = (address_with 1 (key 0x01) None); lovelace = 5; assets = [] })) ∷ []); used = ((tx_id 0x01) ∷ (tx_id 0x02) ∷ (tx_id 0x03) ∷ (tx_id 0x04) ∷ (tx_id 0x05) ∷ []); accounts = (((key 0x10), (record { deposit = 2; rewards = 67; pool = (Some (pool 0x50)); drep = (Some (drep.Registered (key 0x30))) })) ∷ ((key 0x11), (record { deposit = 2; rewards = 33; pool = (Some (pool 0x51)); drep = (Some (drep.Registered (key 0x31))) })) ∷ ((key 0x12), (record { deposit = 2; rewards = 0; pool = None; drep = None })) ∷ []); pools = (((pool 0x50), (record { deposit = 5; terms = (record { cost = 0; pledge = 0; margin = (share 0 1); account = (account_on 1 (key 0x12)); key = None }); future = (Some (record { cost = 1; pledge = 2; margin = (share 1 3); account = (account_on 1 (key 0x12)); key = None })); retires = None })) ∷ ((pool 0x51), (record { deposit = 5; terms = (record { cost = 18446744073709551615; pledge = 18446744073709551615; margin = (share 0 1); account = (account_on 1 (key 0x11)); key = None }); future = None; retires = None })) ∷ []); dreps = (((key 0x30), (record { deposit = 5; expiry = 20 })) ∷ ((key 0x31), (record { deposit = 5; expiry = 4611686022722355202 })) ∷ []); hot = (((key 0x70), (Hot (key 0x74))) ∷ ((key 0x72), (Hot (key 0x73))) ∷ []); proposals = (refused_frozen_sums_above_the_supply_proposal_0 ∷ refused_frozen_sums_above_the_supply_proposal_1 ∷ refused_frozen_sums_above_the_supply_proposal_2 ∷ refused_frozen_sums_above_the_supply_proposal_3 ∷ []) }); pending = (Some (record { epoch = 2; from_reserves = 20; from_fees = 3; to_treasury = 8; rewards = (((key 0x10), 10) ∷ ((key 0x11), 5) ∷ []) })); counted = 0; mark = (((pool 0x50), 967) ∷ ((pool 0x51), 33) ∷ []); set = (((pool 0x50), 967) ∷ ((pool 0x51), 33) ∷ []); go = (((pool 0x50), 967) ∷ ((pool 0x51), 33) ∷ []); noted_fees = 1000; frozen = (record { epoch = 2; entries = (((key 0x10), (record { stake = 852; registered = (Some (record { deposit = 2; rewards = 67; pool = (Some (pool 0x50)); drep = (Some (drep.Registered (key 0x30))) })) })) ∷ ((script 0x10), (record { stake = 9; registered = None })) ∷ ((key 0x11), (record { stake = 0; registered = (Some (record { deposit = 2; rewards = 33; pool = (Some (pool 0x51)); drep = (Some (drep.Registered (key 0x31))) })) })) ∷ ((key 0x12), (record { stake = 0; registered = (Some (record { deposit = 2; rewards = 0; pool = None; drep = None })) })) ∷ []); dreps = (((key 0x30), 20) ∷ ((key 0x31), 20) ∷ []); mark = (((pool 0x50), 967) ∷ ((pool 0x51), 33) ∷ []); pool_accounts = (((pool 0x50), (account_on 1 (key 0x12))) ∷ ((pool 0x51), (account_on 1 (key 0x11))) ∷ []); hot = (((key 0x70), (Hot (key 0x71))) ∷ ((key 0x72), (Hot (key 0x73))) ∷ []); proposals = ((record refused_frozen_sums_above_the_supply_proposal_0 { votes = (((voter.Pool (pool 0x50)), vote.Abstain) ∷ []) }) ∷ (record refused_frozen_sums_above_the_supply_proposal_1 { votes = (((voter.Committee (key 0x71)), vote.Yes) ∷ ((voter.Drep (key 0x30)), vote.No) ∷ []) }) ∷ (record refused_frozen_sums_above_the_supply_proposal_2 { votes = [] }) ∷ (record refused_frozen_sums_above_the_supply_proposal_3 { votes = [] }) ∷ []); start = (record refused_frozen_sums_above_the_supply_state { treasury = 100 }) }) })

pub refused_frozen_sums_above_the_supply : (is_within_supply refused_frozen_sums_above_the_supply_world) ≡ false
unfolding digits encode_with
refused_frozen_sums_above_the_supply = refl

abbrev refused_mark_above_the_supply_state : EnactState
refused_mark_above_the_supply_state = (record { params = (record base_params { max_collateral_inputs = 65535; key_deposit = 18446744073709551615; e_max = 4294967295; gov_action_lifetime = 20 }); version = (10, 0); committee = (Some (record { threshold = (share 0 1); members = (((key 0x70), 100) ∷ ((key 0x72), 4611686018427387903) ∷ []) })); document = (h32 0x01); script = None; last = (record { committee = None; constitution = None; hardfork = None; parameters = None }); treasury = 100 })

abbrev refused_mark_above_the_supply_proposal_0 : Proposal
refused_mark_above_the_supply_proposal_0 = (record { id = (action 0x02 0); action = (actions.NoConfidence None); deposit = 10; account = (account_on 1 (key 0x12)); expires_after = 20; votes = (((voter.Pool (pool 0x50)), vote.Abstain) ∷ []) })

abbrev refused_mark_above_the_supply_proposal_1 : Proposal
refused_mark_above_the_supply_proposal_1 = (record { id = (action 0x02 1); action = (actions.NewConstitution None (h32 0x02) None); deposit = 10; account = (account_on 1 (key 0x12)); expires_after = 20; votes = (((voter.Committee (key 0x71)), vote.Yes) ∷ ((voter.Drep (key 0x30)), vote.No) ∷ ((voter.Drep (key 0x31)), vote.Yes) ∷ []) })

abbrev refused_mark_above_the_supply_proposal_2 : Proposal
refused_mark_above_the_supply_proposal_2 = (record { id = (action 0x02 2); action = (actions.Info); deposit = 10; account = (account_on 1 (key 0x11)); expires_after = 20; votes = [] })

abbrev refused_mark_above_the_supply_proposal_3 : Proposal
refused_mark_above_the_supply_proposal_3 = (record { id = (action 0x03 0); action = (actions.NoConfidence (Some (action 0x02 0))); deposit = 10; account = (account_on 1 (key 0x12)); expires_after = 20; votes = [] })

abbrev refused_mark_above_the_supply_world : World
refused_mark_above_the_supply_world = (record { ledger = (record { network = 1; epoch_length = 10; supply = 1000; slot = 21; epoch = 2; dormant = 0; reserves = 635; fees = 35; donations = 10; state = refused_mark_above_the_supply_state; outputs = (((ref 0x01 6), (record { address = (address_with 1 (key 0x01) None); lovelace = 20; assets = [] })) ∷ ((ref 0x01 7), (record { address = (address_with 1 (key 0x01) (Some (key 0x10))); lovelace = 20; assets = [] })) ∷ ((ref 0x01 8), (record { address = (address_with 1 (key 0x01) (Some (script 0x10))); lovelace = 9; assets = [] })) ∷ ((ref 0x05 0), (record { address = (address_with 1 (key 0x01) None); lovelace = 5; assets = [] })) ∷ []); used = ((tx_id 0x01) ∷ (tx_id 0x02) ∷ (tx_id 0x03) ∷ (tx_id 0x04) ∷ (tx_id 0x05) ∷ []); accounts = (((key 0x10), (record { deposit = 2; rewards = 67; pool = (Some (pool 0x50)); drep = (Some (drep.Registered (key 0x30))) })) ∷ ((key 0x11), (record { deposit = 2; rewards = 33; pool = (Some (pool 0x51)); drep = (Some (drep.Registered (key 0x31))) })) ∷ ((key 0x12), (record { deposit = 2; rewards = 0; pool = None; drep = None })) ∷ []); pools = (((pool 0x50), (record { deposit = 5; terms = (record { cost = 0; pledge = 0; margin = (share 0 1); account = (account_on 1 (key 0x12)); key = None }); future = (Some (record { cost = 1; pledge = 2; margin = (share 1 3); account = (account_on 1 (key 0x12)); key = None })); retires = None })) ∷ ((pool 0x51), (record { deposit = 5; terms = (record { cost = 18446744073709551615; pledge = 18446744073709551615; margin = (share 0 1); account = (account_on 1 (key 0x11)); key = None }); future = None; retires = None })) ∷ []); dreps = (((key 0x30), (record { deposit = 5; expiry = 20 })) ∷ ((key 0x31), (record { deposit = 5; expiry = 4611686022722355202 })) ∷ []); hot = (((key 0x70), (Hot (key 0x74))) ∷ ((key 0x72), (Hot (key 0x73))) ∷ []); proposals = (refused_mark_above_the_supply_proposal_0 ∷ refused_mark_above_the_supply_proposal_1 ∷ refused_mark_above_the_supply_proposal_2 ∷ refused_mark_above_the_supply_proposal_3 ∷ []) }); pending = (Some (record { epoch = 2; from_reserves = 20; from_fees = 3; to_treasury = 8; rewards = (((key 0x10), 10) ∷ ((key 0x11), 5) ∷ []) })); counted = 0; mark = (((pool 0x50), 968) ∷ ((pool 0x51), 33) ∷ []); set = (((pool 0x50), 967) ∷ ((pool 0x51), 33) ∷ []); go = (((pool 0x50), 967) ∷ ((pool 0x51), 33) ∷ []); noted_fees = 1000; frozen = (record { epoch = 2; entries = (((key 0x10), (record { stake = 851; registered = (Some (record { deposit = 2; rewards = 67; pool = (Some (pool 0x50)); drep = (Some (drep.Registered (key 0x30))) })) })) ∷ ((script 0x10), (record { stake = 9; registered = None })) ∷ ((key 0x11), (record { stake = 0; registered = (Some (record { deposit = 2; rewards = 33; pool = (Some (pool 0x51)); drep = (Some (drep.Registered (key 0x31))) })) })) ∷ ((key 0x12), (record { stake = 0; registered = (Some (record { deposit = 2; rewards = 0; pool = None; drep = None })) })) ∷ []); dreps = (((key 0x30), 20) ∷ ((key 0x31), 20) ∷ []); mark = (((pool 0x50), 968) ∷ ((pool 0x51), 33) ∷ []); pool_accounts = (((pool 0x50), (account_on 1 (key 0x12))) ∷ ((pool 0x51), (account_on 1 (key 0x11))) ∷ []); hot = (((key 0x70), (Hot (key 0x71))) ∷ ((key 0x72), (Hot (key 0x73))) ∷ []); proposals = ((record refused_mark_above_the_supply_proposal_0 { votes = (((voter.Pool (pool 0x50)), vote.Abstain) ∷ []) }) ∷ (record refused_mark_above_the_supply_proposal_1 { votes = (((voter.Committee (key 0x71)), vote.Yes) ∷ ((voter.Drep (key 0x30)), vote.No) ∷ []) }) ∷ (record refused_mark_above_the_supply_proposal_2 { votes = [] }) ∷ (record refused_mark_above_the_supply_proposal_3 { votes = [] }) ∷ []); start = (record refused_mark_above_the_supply_state { treasury = 100 }) }) })

pub refused_mark_above_the_supply : (is_within_supply refused_mark_above_the_supply_world) ≡ false
unfolding digits encode_with
refused_mark_above_the_supply = refl

abbrev refused_set_above_the_supply_state : EnactState
refused_set_above_the_supply_state = (record { params = (record base_params { max_collateral_inputs = 65535; key_deposit = 18446744073709551615; e_max = 4294967295; gov_action_lifetime = 20 }); version = (10, 0); committee = (Some (record { threshold = (share 0 1); members = (((key 0x70), 100) ∷ ((key 0x72), 4611686018427387903) ∷ []) })); document = (h32 0x01); script = None; last = (record { committee = None; constitution = None; hardfork = None; parameters = None }); treasury = 100 })

abbrev refused_set_above_the_supply_proposal_0 : Proposal
refused_set_above_the_supply_proposal_0 = (record { id = (action 0x02 0); action = (actions.NoConfidence None); deposit = 10; account = (account_on 1 (key 0x12)); expires_after = 20; votes = (((voter.Pool (pool 0x50)), vote.Abstain) ∷ []) })

abbrev refused_set_above_the_supply_proposal_1 : Proposal
refused_set_above_the_supply_proposal_1 = (record { id = (action 0x02 1); action = (actions.NewConstitution None (h32 0x02) None); deposit = 10; account = (account_on 1 (key 0x12)); expires_after = 20; votes = (((voter.Committee (key 0x71)), vote.Yes) ∷ ((voter.Drep (key 0x30)), vote.No) ∷ ((voter.Drep (key 0x31)), vote.Yes) ∷ []) })

abbrev refused_set_above_the_supply_proposal_2 : Proposal
refused_set_above_the_supply_proposal_2 = (record { id = (action 0x02 2); action = (actions.Info); deposit = 10; account = (account_on 1 (key 0x11)); expires_after = 20; votes = [] })

abbrev refused_set_above_the_supply_proposal_3 : Proposal
refused_set_above_the_supply_proposal_3 = (record { id = (action 0x03 0); action = (actions.NoConfidence (Some (action 0x02 0))); deposit = 10; account = (account_on 1 (key 0x12)); expires_after = 20; votes = [] })

abbrev refused_set_above_the_supply_world : World
refused_set_above_the_supply_world = (record { ledger = (record { network = 1; epoch_length = 10; supply = 1000; slot = 21; epoch = 2; dormant = 0; reserves = 635; fees = 35; donations = 10; state = refused_set_above_the_supply_state; outputs = (((ref 0x01 6), (record { address = (address_with 1 (key 0x01) None); lovelace = 20; assets = [] })) ∷ ((ref 0x01 7), (record { address = (address_with 1 (key 0x01) (Some (key 0x10))); lovelace = 20; assets = [] })) ∷ ((ref 0x01 8), (record { address = (address_with 1 (key 0x01) (Some (script 0x10))); lovelace = 9; assets = [] })) ∷ ((ref 0x05 0), (record { address = (address_with 1 (key 0x01) None); lovelace = 5; assets = [] })) ∷ []); used = ((tx_id 0x01) ∷ (tx_id 0x02) ∷ (tx_id 0x03) ∷ (tx_id 0x04) ∷ (tx_id 0x05) ∷ []); accounts = (((key 0x10), (record { deposit = 2; rewards = 67; pool = (Some (pool 0x50)); drep = (Some (drep.Registered (key 0x30))) })) ∷ ((key 0x11), (record { deposit = 2; rewards = 33; pool = (Some (pool 0x51)); drep = (Some (drep.Registered (key 0x31))) })) ∷ ((key 0x12), (record { deposit = 2; rewards = 0; pool = None; drep = None })) ∷ []); pools = (((pool 0x50), (record { deposit = 5; terms = (record { cost = 0; pledge = 0; margin = (share 0 1); account = (account_on 1 (key 0x12)); key = None }); future = (Some (record { cost = 1; pledge = 2; margin = (share 1 3); account = (account_on 1 (key 0x12)); key = None })); retires = None })) ∷ ((pool 0x51), (record { deposit = 5; terms = (record { cost = 18446744073709551615; pledge = 18446744073709551615; margin = (share 0 1); account = (account_on 1 (key 0x11)); key = None }); future = None; retires = None })) ∷ []); dreps = (((key 0x30), (record { deposit = 5; expiry = 20 })) ∷ ((key 0x31), (record { deposit = 5; expiry = 4611686022722355202 })) ∷ []); hot = (((key 0x70), (Hot (key 0x74))) ∷ ((key 0x72), (Hot (key 0x73))) ∷ []); proposals = (refused_set_above_the_supply_proposal_0 ∷ refused_set_above_the_supply_proposal_1 ∷ refused_set_above_the_supply_proposal_2 ∷ refused_set_above_the_supply_proposal_3 ∷ []) }); pending = (Some (record { epoch = 2; from_reserves = 20; from_fees = 3; to_treasury = 8; rewards = (((key 0x10), 10) ∷ ((key 0x11), 5) ∷ []) })); counted = 0; mark = (((pool 0x50), 967) ∷ ((pool 0x51), 33) ∷ []); set = (((pool 0x50), 968) ∷ ((pool 0x51), 33) ∷ []); go = (((pool 0x50), 967) ∷ ((pool 0x51), 33) ∷ []); noted_fees = 1000; frozen = (record { epoch = 2; entries = (((key 0x10), (record { stake = 851; registered = (Some (record { deposit = 2; rewards = 67; pool = (Some (pool 0x50)); drep = (Some (drep.Registered (key 0x30))) })) })) ∷ ((script 0x10), (record { stake = 9; registered = None })) ∷ ((key 0x11), (record { stake = 0; registered = (Some (record { deposit = 2; rewards = 33; pool = (Some (pool 0x51)); drep = (Some (drep.Registered (key 0x31))) })) })) ∷ ((key 0x12), (record { stake = 0; registered = (Some (record { deposit = 2; rewards = 0; pool = None; drep = None })) })) ∷ []); dreps = (((key 0x30), 20) ∷ ((key 0x31), 20) ∷ []); mark = (((pool 0x50), 967) ∷ ((pool 0x51), 33) ∷ []); pool_accounts = (((pool 0x50), (account_on 1 (key 0x12))) ∷ ((pool 0x51), (account_on 1 (key 0x11))) ∷ []); hot = (((key 0x70), (Hot (key 0x71))) ∷ ((key 0x72), (Hot (key 0x73))) ∷ []); proposals = ((record refused_set_above_the_supply_proposal_0 { votes = (((voter.Pool (pool 0x50)), vote.Abstain) ∷ []) }) ∷ (record refused_set_above_the_supply_proposal_1 { votes = (((voter.Committee (key 0x71)), vote.Yes) ∷ ((voter.Drep (key 0x30)), vote.No) ∷ []) }) ∷ (record refused_set_above_the_supply_proposal_2 { votes = [] }) ∷ (record refused_set_above_the_supply_proposal_3 { votes = [] }) ∷ []); start = (record refused_set_above_the_supply_state { treasury = 100 }) }) })

pub refused_set_above_the_supply : (is_within_supply refused_set_above_the_supply_world) ≡ false
unfolding digits encode_with
refused_set_above_the_supply = refl

abbrev refused_go_above_the_supply_state : EnactState
refused_go_above_the_supply_state = (record { params = (record base_params { max_collateral_inputs = 65535; key_deposit = 18446744073709551615; e_max = 4294967295; gov_action_lifetime = 20 }); version = (10, 0); committee = (Some (record { threshold = (share 0 1); members = (((key 0x70), 100) ∷ ((key 0x72), 4611686018427387903) ∷ []) })); document = (h32 0x01); script = None; last = (record { committee = None; constitution = None; hardfork = None; parameters = None }); treasury = 100 })

abbrev refused_go_above_the_supply_proposal_0 : Proposal
refused_go_above_the_supply_proposal_0 = (record { id = (action 0x02 0); action = (actions.NoConfidence None); deposit = 10; account = (account_on 1 (key 0x12)); expires_after = 20; votes = (((voter.Pool (pool 0x50)), vote.Abstain) ∷ []) })

abbrev refused_go_above_the_supply_proposal_1 : Proposal
refused_go_above_the_supply_proposal_1 = (record { id = (action 0x02 1); action = (actions.NewConstitution None (h32 0x02) None); deposit = 10; account = (account_on 1 (key 0x12)); expires_after = 20; votes = (((voter.Committee (key 0x71)), vote.Yes) ∷ ((voter.Drep (key 0x30)), vote.No) ∷ ((voter.Drep (key 0x31)), vote.Yes) ∷ []) })

abbrev refused_go_above_the_supply_proposal_2 : Proposal
refused_go_above_the_supply_proposal_2 = (record { id = (action 0x02 2); action = (actions.Info); deposit = 10; account = (account_on 1 (key 0x11)); expires_after = 20; votes = [] })

abbrev refused_go_above_the_supply_proposal_3 : Proposal
refused_go_above_the_supply_proposal_3 = (record { id = (action 0x03 0); action = (actions.NoConfidence (Some (action 0x02 0))); deposit = 10; account = (account_on 1 (key 0x12)); expires_after = 20; votes = [] })

abbrev refused_go_above_the_supply_world : World
refused_go_above_the_supply_world = (record { ledger = (record { network = 1; epoch_length = 10; supply = 1000; slot = 21; epoch = 2; dormant = 0; reserves = 635; fees = 35; donations = 10; state = refused_go_above_the_supply_state; outputs = (((ref 0x01 6), (record { address = (address_with 1 (key 0x01) None); lovelace = 20; assets = [] })) ∷ ((ref 0x01 7), (record { address = (address_with 1 (key 0x01) (Some (key 0x10))); lovelace = 20; assets = [] })) ∷ ((ref 0x01 8), (record { address = (address_with 1 (key 0x01) (Some (script 0x10))); lovelace = 9; assets = [] })) ∷ ((ref 0x05 0), (record { address = (address_with 1 (key 0x01) None); lovelace = 5; assets = [] })) ∷ []); used = ((tx_id 0x01) ∷ (tx_id 0x02) ∷ (tx_id 0x03) ∷ (tx_id 0x04) ∷ (tx_id 0x05) ∷ []); accounts = (((key 0x10), (record { deposit = 2; rewards = 67; pool = (Some (pool 0x50)); drep = (Some (drep.Registered (key 0x30))) })) ∷ ((key 0x11), (record { deposit = 2; rewards = 33; pool = (Some (pool 0x51)); drep = (Some (drep.Registered (key 0x31))) })) ∷ ((key 0x12), (record { deposit = 2; rewards = 0; pool = None; drep = None })) ∷ []); pools = (((pool 0x50), (record { deposit = 5; terms = (record { cost = 0; pledge = 0; margin = (share 0 1); account = (account_on 1 (key 0x12)); key = None }); future = (Some (record { cost = 1; pledge = 2; margin = (share 1 3); account = (account_on 1 (key 0x12)); key = None })); retires = None })) ∷ ((pool 0x51), (record { deposit = 5; terms = (record { cost = 18446744073709551615; pledge = 18446744073709551615; margin = (share 0 1); account = (account_on 1 (key 0x11)); key = None }); future = None; retires = None })) ∷ []); dreps = (((key 0x30), (record { deposit = 5; expiry = 20 })) ∷ ((key 0x31), (record { deposit = 5; expiry = 4611686022722355202 })) ∷ []); hot = (((key 0x70), (Hot (key 0x74))) ∷ ((key 0x72), (Hot (key 0x73))) ∷ []); proposals = (refused_go_above_the_supply_proposal_0 ∷ refused_go_above_the_supply_proposal_1 ∷ refused_go_above_the_supply_proposal_2 ∷ refused_go_above_the_supply_proposal_3 ∷ []) }); pending = (Some (record { epoch = 2; from_reserves = 20; from_fees = 3; to_treasury = 8; rewards = (((key 0x10), 10) ∷ ((key 0x11), 5) ∷ []) })); counted = 0; mark = (((pool 0x50), 967) ∷ ((pool 0x51), 33) ∷ []); set = (((pool 0x50), 967) ∷ ((pool 0x51), 33) ∷ []); go = (((pool 0x50), 968) ∷ ((pool 0x51), 33) ∷ []); noted_fees = 1000; frozen = (record { epoch = 2; entries = (((key 0x10), (record { stake = 851; registered = (Some (record { deposit = 2; rewards = 67; pool = (Some (pool 0x50)); drep = (Some (drep.Registered (key 0x30))) })) })) ∷ ((script 0x10), (record { stake = 9; registered = None })) ∷ ((key 0x11), (record { stake = 0; registered = (Some (record { deposit = 2; rewards = 33; pool = (Some (pool 0x51)); drep = (Some (drep.Registered (key 0x31))) })) })) ∷ ((key 0x12), (record { stake = 0; registered = (Some (record { deposit = 2; rewards = 0; pool = None; drep = None })) })) ∷ []); dreps = (((key 0x30), 20) ∷ ((key 0x31), 20) ∷ []); mark = (((pool 0x50), 967) ∷ ((pool 0x51), 33) ∷ []); pool_accounts = (((pool 0x50), (account_on 1 (key 0x12))) ∷ ((pool 0x51), (account_on 1 (key 0x11))) ∷ []); hot = (((key 0x70), (Hot (key 0x71))) ∷ ((key 0x72), (Hot (key 0x73))) ∷ []); proposals = ((record refused_go_above_the_supply_proposal_0 { votes = (((voter.Pool (pool 0x50)), vote.Abstain) ∷ []) }) ∷ (record refused_go_above_the_supply_proposal_1 { votes = (((voter.Committee (key 0x71)), vote.Yes) ∷ ((voter.Drep (key 0x30)), vote.No) ∷ []) }) ∷ (record refused_go_above_the_supply_proposal_2 { votes = [] }) ∷ (record refused_go_above_the_supply_proposal_3 { votes = [] }) ∷ []); start = (record refused_go_above_the_supply_state { treasury = 100 }) }) })

pub refused_go_above_the_supply : (is_within_supply refused_go_above_the_supply_world) ≡ false
unfolding digits encode_with
refused_go_above_the_supply = refl

abbrev refused_noted_fees_above_the_supply_state : EnactState
refused_noted_fees_above_the_supply_state = (record { params = (record base_params { max_collateral_inputs = 65535; key_deposit = 18446744073709551615; e_max = 4294967295; gov_action_lifetime = 20 }); version = (10, 0); committee = (Some (record { threshold = (share 0 1); members = (((key 0x70), 100) ∷ ((key 0x72), 4611686018427387903) ∷ []) })); document = (h32 0x01); script = None; last = (record { committee = None; constitution = None; hardfork = None; parameters = None }); treasury = 100 })

abbrev refused_noted_fees_above_the_supply_proposal_0 : Proposal
refused_noted_fees_above_the_supply_proposal_0 = (record { id = (action 0x02 0); action = (actions.NoConfidence None); deposit = 10; account = (account_on 1 (key 0x12)); expires_after = 20; votes = (((voter.Pool (pool 0x50)), vote.Abstain) ∷ []) })

abbrev refused_noted_fees_above_the_supply_proposal_1 : Proposal
refused_noted_fees_above_the_supply_proposal_1 = (record { id = (action 0x02 1); action = (actions.NewConstitution None (h32 0x02) None); deposit = 10; account = (account_on 1 (key 0x12)); expires_after = 20; votes = (((voter.Committee (key 0x71)), vote.Yes) ∷ ((voter.Drep (key 0x30)), vote.No) ∷ ((voter.Drep (key 0x31)), vote.Yes) ∷ []) })

abbrev refused_noted_fees_above_the_supply_proposal_2 : Proposal
refused_noted_fees_above_the_supply_proposal_2 = (record { id = (action 0x02 2); action = (actions.Info); deposit = 10; account = (account_on 1 (key 0x11)); expires_after = 20; votes = [] })

abbrev refused_noted_fees_above_the_supply_proposal_3 : Proposal
refused_noted_fees_above_the_supply_proposal_3 = (record { id = (action 0x03 0); action = (actions.NoConfidence (Some (action 0x02 0))); deposit = 10; account = (account_on 1 (key 0x12)); expires_after = 20; votes = [] })

abbrev refused_noted_fees_above_the_supply_world : World
refused_noted_fees_above_the_supply_world = (record { ledger = (record { network = 1; epoch_length = 10; supply = 1000; slot = 21; epoch = 2; dormant = 0; reserves = 635; fees = 35; donations = 10; state = refused_noted_fees_above_the_supply_state; outputs = (((ref 0x01 6), (record { address = (address_with 1 (key 0x01) None); lovelace = 20; assets = [] })) ∷ ((ref 0x01 7), (record { address = (address_with 1 (key 0x01) (Some (key 0x10))); lovelace = 20; assets = [] })) ∷ ((ref 0x01 8), (record { address = (address_with 1 (key 0x01) (Some (script 0x10))); lovelace = 9; assets = [] })) ∷ ((ref 0x05 0), (record { address = (address_with 1 (key 0x01) None); lovelace = 5; assets = [] })) ∷ []); used = ((tx_id 0x01) ∷ (tx_id 0x02) ∷ (tx_id 0x03) ∷ (tx_id 0x04) ∷ (tx_id 0x05) ∷ []); accounts = (((key 0x10), (record { deposit = 2; rewards = 67; pool = (Some (pool 0x50)); drep = (Some (drep.Registered (key 0x30))) })) ∷ ((key 0x11), (record { deposit = 2; rewards = 33; pool = (Some (pool 0x51)); drep = (Some (drep.Registered (key 0x31))) })) ∷ ((key 0x12), (record { deposit = 2; rewards = 0; pool = None; drep = None })) ∷ []); pools = (((pool 0x50), (record { deposit = 5; terms = (record { cost = 0; pledge = 0; margin = (share 0 1); account = (account_on 1 (key 0x12)); key = None }); future = (Some (record { cost = 1; pledge = 2; margin = (share 1 3); account = (account_on 1 (key 0x12)); key = None })); retires = None })) ∷ ((pool 0x51), (record { deposit = 5; terms = (record { cost = 18446744073709551615; pledge = 18446744073709551615; margin = (share 0 1); account = (account_on 1 (key 0x11)); key = None }); future = None; retires = None })) ∷ []); dreps = (((key 0x30), (record { deposit = 5; expiry = 20 })) ∷ ((key 0x31), (record { deposit = 5; expiry = 4611686022722355202 })) ∷ []); hot = (((key 0x70), (Hot (key 0x74))) ∷ ((key 0x72), (Hot (key 0x73))) ∷ []); proposals = (refused_noted_fees_above_the_supply_proposal_0 ∷ refused_noted_fees_above_the_supply_proposal_1 ∷ refused_noted_fees_above_the_supply_proposal_2 ∷ refused_noted_fees_above_the_supply_proposal_3 ∷ []) }); pending = (Some (record { epoch = 2; from_reserves = 20; from_fees = 3; to_treasury = 8; rewards = (((key 0x10), 10) ∷ ((key 0x11), 5) ∷ []) })); counted = 0; mark = (((pool 0x50), 967) ∷ ((pool 0x51), 33) ∷ []); set = (((pool 0x50), 967) ∷ ((pool 0x51), 33) ∷ []); go = (((pool 0x50), 967) ∷ ((pool 0x51), 33) ∷ []); noted_fees = 1001; frozen = (record { epoch = 2; entries = (((key 0x10), (record { stake = 851; registered = (Some (record { deposit = 2; rewards = 67; pool = (Some (pool 0x50)); drep = (Some (drep.Registered (key 0x30))) })) })) ∷ ((script 0x10), (record { stake = 9; registered = None })) ∷ ((key 0x11), (record { stake = 0; registered = (Some (record { deposit = 2; rewards = 33; pool = (Some (pool 0x51)); drep = (Some (drep.Registered (key 0x31))) })) })) ∷ ((key 0x12), (record { stake = 0; registered = (Some (record { deposit = 2; rewards = 0; pool = None; drep = None })) })) ∷ []); dreps = (((key 0x30), 20) ∷ ((key 0x31), 20) ∷ []); mark = (((pool 0x50), 967) ∷ ((pool 0x51), 33) ∷ []); pool_accounts = (((pool 0x50), (account_on 1 (key 0x12))) ∷ ((pool 0x51), (account_on 1 (key 0x11))) ∷ []); hot = (((key 0x70), (Hot (key 0x71))) ∷ ((key 0x72), (Hot (key 0x73))) ∷ []); proposals = ((record refused_noted_fees_above_the_supply_proposal_0 { votes = (((voter.Pool (pool 0x50)), vote.Abstain) ∷ []) }) ∷ (record refused_noted_fees_above_the_supply_proposal_1 { votes = (((voter.Committee (key 0x71)), vote.Yes) ∷ ((voter.Drep (key 0x30)), vote.No) ∷ []) }) ∷ (record refused_noted_fees_above_the_supply_proposal_2 { votes = [] }) ∷ (record refused_noted_fees_above_the_supply_proposal_3 { votes = [] }) ∷ []); start = (record refused_noted_fees_above_the_supply_state { treasury = 100 }) }) })

pub refused_noted_fees_above_the_supply : (is_within_supply refused_noted_fees_above_the_supply_world) ≡ false
unfolding digits encode_with
refused_noted_fees_above_the_supply = refl
