-- Worked rows of whole streams: resumed. Made by tests/made/rows_of, from the streams of these names in tests/streams/further.
use Rattle.std.specs.Prelude.{ℕ, ◌≡◌, List, [], ◌∷◌, Some, None, true, codes, refl}
use Rattle.std.specs.Fmt.{digits}
use Rattle.hex.specs.Hex.{encode_with}
use Rattle.gov_actions.specs.declared.action.Action.TheVariants as actions
use Rattle.gov_actions.specs.declared.action.Vote.TheVariants as vote
use Rattle.gov_ids.specs.declared.Drep.TheVariants as drep
use Rattle.gov_ids.specs.declared.Voter.TheVariants as voter
use Rattle.tx_records.specs.declared.field.FieldName.TheVariants as field
use Rattle.tx_records.specs.declared.record.Record.TheVariants as records
use Rattle.tx_records.specs.declared.record.What.TheVariants as what
use Rattle.tx_records.specs.declared.record.Reading.{Reading}
use Rattle.tx_records.specs.declared.record.Reading.TheVariants.{Read, Malformed}
use Rattle.ledger_rows.proofs.Base.{h32, key, script, pool, account_on, address_with, tx_id, ref, action, share, base_params, spend, proposing, voting}
use Rattle.checkpoint_model.specs.Checkpoint.{checkpoint_text}
use Rattle.checkpoint_model.specs.Resumable.{IsResumable}
use Rattle.checkpoint_model.specs.Resumed.{text_of_resume}
use Rattle.gov_actions.specs.declared.action.Proposal.{Proposal}
use Rattle.gov_actions.specs.declared.state.EnactState.{EnactState}
use Rattle.gov_actions.specs.declared.state.HotState.TheVariants.{Hot}
use Rattle.run_model.specs.World.{World}
use Rattle.further_rows.proofs.Texts.{is_text}

abbrev resume_of_a_small_ledger_state : EnactState
resume_of_a_small_ledger_state = (record { params = (record base_params { gov_action_lifetime = 20 }); version = (10, 0); committee = (Some (record { threshold = (share 0 1); members = (((key 0x70), 100) ∷ ((key 0x72), 100) ∷ []) })); document = (h32 0x01); script = None; last = (record { committee = None; constitution = None; hardfork = None; parameters = None }); treasury = 100 })

abbrev resume_of_a_small_ledger_proposal_0 : Proposal
resume_of_a_small_ledger_proposal_0 = (record { id = (action 0x02 0); action = (actions.NoConfidence None); deposit = 10; account = (account_on 1 (key 0x12)); expires_after = 20; votes = (((voter.Pool (pool 0x50)), vote.Abstain) ∷ []) })

abbrev resume_of_a_small_ledger_proposal_1 : Proposal
resume_of_a_small_ledger_proposal_1 = (record { id = (action 0x02 1); action = (actions.NewConstitution None (h32 0x02) None); deposit = 10; account = (account_on 1 (key 0x12)); expires_after = 20; votes = (((voter.Committee (key 0x71)), vote.Yes) ∷ ((voter.Drep (key 0x30)), vote.No) ∷ ((voter.Drep (key 0x31)), vote.Yes) ∷ []) })

abbrev resume_of_a_small_ledger_proposal_2 : Proposal
resume_of_a_small_ledger_proposal_2 = (record { id = (action 0x02 2); action = (actions.Info); deposit = 10; account = (account_on 1 (key 0x11)); expires_after = 20; votes = [] })

abbrev resume_of_a_small_ledger_proposal_3 : Proposal
resume_of_a_small_ledger_proposal_3 = (record { id = (action 0x03 0); action = (actions.NoConfidence (Some (action 0x02 0))); deposit = 10; account = (account_on 1 (key 0x12)); expires_after = 20; votes = [] })

abbrev resume_of_a_small_ledger_world : World
resume_of_a_small_ledger_world = (record { ledger = (record { network = 1; epoch_length = 10; supply = 1000; slot = 21; epoch = 2; dormant = 0; reserves = 635; fees = 35; donations = 10; state = resume_of_a_small_ledger_state; outputs = (((ref 0x01 6), (record { address = (address_with 1 (key 0x01) None); lovelace = 20; assets = [] })) ∷ ((ref 0x01 7), (record { address = (address_with 1 (key 0x01) (Some (key 0x10))); lovelace = 20; assets = [] })) ∷ ((ref 0x01 8), (record { address = (address_with 1 (key 0x01) (Some (script 0x10))); lovelace = 9; assets = [] })) ∷ ((ref 0x05 0), (record { address = (address_with 1 (key 0x01) None); lovelace = 5; assets = [] })) ∷ []); used = ((tx_id 0x01) ∷ (tx_id 0x02) ∷ (tx_id 0x03) ∷ (tx_id 0x04) ∷ (tx_id 0x05) ∷ []); accounts = (((key 0x10), (record { deposit = 2; rewards = 67; pool = (Some (pool 0x50)); drep = (Some (drep.Registered (key 0x30))) })) ∷ ((key 0x11), (record { deposit = 2; rewards = 33; pool = (Some (pool 0x51)); drep = (Some (drep.Registered (key 0x31))) })) ∷ ((key 0x12), (record { deposit = 2; rewards = 0; pool = None; drep = None })) ∷ []); pools = (((pool 0x50), (record { deposit = 5; terms = (record { cost = 0; pledge = 0; margin = (share 0 1); account = (account_on 1 (key 0x12)); key = None }); future = (Some (record { cost = 1; pledge = 2; margin = (share 1 3); account = (account_on 1 (key 0x12)); key = None })); retires = None })) ∷ ((pool 0x51), (record { deposit = 5; terms = (record { cost = 0; pledge = 0; margin = (share 0 1); account = (account_on 1 (key 0x11)); key = None }); future = None; retires = None })) ∷ []); dreps = (((key 0x30), (record { deposit = 5; expiry = 20 })) ∷ ((key 0x31), (record { deposit = 5; expiry = 22 })) ∷ []); hot = (((key 0x70), (Hot (key 0x74))) ∷ ((key 0x72), (Hot (key 0x73))) ∷ []); proposals = (resume_of_a_small_ledger_proposal_0 ∷ resume_of_a_small_ledger_proposal_1 ∷ resume_of_a_small_ledger_proposal_2 ∷ resume_of_a_small_ledger_proposal_3 ∷ []) }); pending = (Some (record { epoch = 2; from_reserves = 20; from_fees = 3; to_treasury = 8; rewards = (((key 0x10), 10) ∷ ((key 0x11), 5) ∷ []) })); counted = 2; mark = (((pool 0x50), 87) ∷ ((pool 0x51), 33) ∷ []); set = (((pool 0x50), 87) ∷ ((pool 0x51), 33) ∷ []); go = (((pool 0x50), 87) ∷ ((pool 0x51), 33) ∷ []); noted_fees = 30; frozen = (record { epoch = 2; entries = (((key 0x10), (record { stake = 20; registered = (Some (record { deposit = 2; rewards = 67; pool = (Some (pool 0x50)); drep = (Some (drep.Registered (key 0x30))) })) })) ∷ ((script 0x10), (record { stake = 9; registered = None })) ∷ ((key 0x11), (record { stake = 0; registered = (Some (record { deposit = 2; rewards = 33; pool = (Some (pool 0x51)); drep = (Some (drep.Registered (key 0x31))) })) })) ∷ ((key 0x12), (record { stake = 0; registered = (Some (record { deposit = 2; rewards = 0; pool = None; drep = None })) })) ∷ []); dreps = (((key 0x30), 20) ∷ ((key 0x31), 20) ∷ []); mark = (((pool 0x50), 87) ∷ ((pool 0x51), 33) ∷ []); pool_accounts = (((pool 0x50), (account_on 1 (key 0x12))) ∷ ((pool 0x51), (account_on 1 (key 0x11))) ∷ []); hot = (((key 0x70), (Hot (key 0x71))) ∷ ((key 0x72), (Hot (key 0x73))) ∷ []); proposals = ((record resume_of_a_small_ledger_proposal_0 { votes = (((voter.Pool (pool 0x50)), vote.Abstain) ∷ []) }) ∷ (record resume_of_a_small_ledger_proposal_1 { votes = (((voter.Committee (key 0x71)), vote.Yes) ∷ ((voter.Drep (key 0x30)), vote.No) ∷ []) }) ∷ (record resume_of_a_small_ledger_proposal_2 { votes = [] }) ∷ (record resume_of_a_small_ledger_proposal_3 { votes = [] }) ∷ []); start = (record resume_of_a_small_ledger_state { treasury = 100 }) }) })

pub resume_of_a_small_ledger_shown : is_text (Some (checkpoint_text resume_of_a_small_ledger_world 9)) (
    codes "checkpoint 1 line 9 network 1 length 10 counted 2" ∷
    codes "now slot 21 epoch 2 version 10.0 dormant 0" ∷
    codes "constitution 0000000000000000000000000000000000000000000000000000000000000001 none" ∷
    codes "committee threshold 0/1" ∷
    codes "member k00000000000000000000000000000000000000000000000000000070 term 100 hot k00000000000000000000000000000000000000000000000000000074" ∷
    codes "member k00000000000000000000000000000000000000000000000000000072 term 100 hot k00000000000000000000000000000000000000000000000000000073" ∷
    codes "enacted committee none constitution none hardfork none parameters none" ∷
    codes "param maxBlockBodySize 90112" ∷
    codes "param maxTxSize 16384" ∷
    codes "param maxBlockHeaderSize 1100" ∷
    codes "param maxValueSize 5000" ∷
    codes "param maxTxExUnits 1000 1000" ∷
    codes "param maxBlockExUnits 1000 1000" ∷
    codes "param maxCollateralInputs 3" ∷
    codes "param minFeeA 0" ∷
    codes "param minFeeB 0" ∷
    codes "param keyDeposit 2" ∷
    codes "param poolDeposit 5" ∷
    codes "param rho 0/1" ∷
    codes "param tau 0/1" ∷
    codes "param minPoolCost 0" ∷
    codes "param coinsPerUTxOByte 0" ∷
    codes "param prices 0/1 0/1" ∷
    codes "param minFeeRefScriptCostPerByte 15/1" ∷
    codes "param a0 0/1" ∷
    codes "param eMax 18" ∷
    codes "param nOpt 500" ∷
    codes "param costModels 0000000000000000000000000000000000000000000000000000000000000000" ∷
    codes "param collateralPercentage 150" ∷
    codes "param poolVotingThresholds 0/1 0/1 0/1 0/1 0/1" ∷
    codes "param drepVotingThresholds 67/100 67/100 67/100 67/100 67/100 67/100 67/100 67/100 67/100 67/100" ∷
    codes "param govActionLifetime 20" ∷
    codes "param govActionDeposit 10" ∷
    codes "param drepDeposit 5" ∷
    codes "param drepActivity 20" ∷
    codes "param committeeMinSize 0" ∷
    codes "param committeeMaxTermLength 100" ∷
    codes "drep k00000000000000000000000000000000000000000000000000000030 deposit 5 expiry 20" ∷
    codes "drep k00000000000000000000000000000000000000000000000000000031 deposit 5 expiry 22" ∷
    codes "pool 00000000000000000000000000000000000000000000000000000050 deposit 5 cost 0 pledge 0 margin 0/1 account 1k00000000000000000000000000000000000000000000000000000012 retires never" ∷
    codes "next 00000000000000000000000000000000000000000000000000000050 cost 1 pledge 2 margin 1/3 account 1k00000000000000000000000000000000000000000000000000000012" ∷
    codes "pool 00000000000000000000000000000000000000000000000000000051 deposit 5 cost 0 pledge 0 margin 0/1 account 1k00000000000000000000000000000000000000000000000000000011 retires never" ∷
    codes "account k00000000000000000000000000000000000000000000000000000010 stake 20 deposit 2 rewards 67 pool 00000000000000000000000000000000000000000000000000000050 drep k00000000000000000000000000000000000000000000000000000030" ∷
    codes "account s00000000000000000000000000000000000000000000000000000010 stake 9 unregistered" ∷
    codes "account k00000000000000000000000000000000000000000000000000000011 stake 0 deposit 2 rewards 33 pool 00000000000000000000000000000000000000000000000000000051 drep k00000000000000000000000000000000000000000000000000000031" ∷
    codes "account k00000000000000000000000000000000000000000000000000000012 stake 0 deposit 2 rewards 0 pool none drep none" ∷
    codes "output 0000000000000000000000000000000000000000000000000000000000000001#6 1k00000000000000000000000000000000000000000000000000000001 20" ∷
    codes "output 0000000000000000000000000000000000000000000000000000000000000001#7 1k00000000000000000000000000000000000000000000000000000001+k00000000000000000000000000000000000000000000000000000010 20" ∷
    codes "output 0000000000000000000000000000000000000000000000000000000000000001#8 1k00000000000000000000000000000000000000000000000000000001+s00000000000000000000000000000000000000000000000000000010 9" ∷
    codes "output 0000000000000000000000000000000000000000000000000000000000000005#0 1k00000000000000000000000000000000000000000000000000000001 5" ∷
    codes "proposal 0000000000000000000000000000000000000000000000000000000000000002#0 NoConfidence deposit 10 return 1k00000000000000000000000000000000000000000000000000000012 expires 20 previous none" ∷
    codes "vote 0000000000000000000000000000000000000000000000000000000000000002#0 pool:00000000000000000000000000000000000000000000000000000050 abstain" ∷
    codes "proposal 0000000000000000000000000000000000000000000000000000000000000002#1 NewConstitution deposit 10 return 1k00000000000000000000000000000000000000000000000000000012 expires 20 previous none" ∷
    codes "vote 0000000000000000000000000000000000000000000000000000000000000002#1 committee:k00000000000000000000000000000000000000000000000000000071 yes" ∷
    codes "vote 0000000000000000000000000000000000000000000000000000000000000002#1 drep:k00000000000000000000000000000000000000000000000000000030 no" ∷
    codes "vote 0000000000000000000000000000000000000000000000000000000000000002#1 drep:k00000000000000000000000000000000000000000000000000000031 yes" ∷
    codes "proposal 0000000000000000000000000000000000000000000000000000000000000002#2 Info deposit 10 return 1k00000000000000000000000000000000000000000000000000000011 expires 20 previous none" ∷
    codes "proposal 0000000000000000000000000000000000000000000000000000000000000003#0 NoConfidence deposit 10 return 1k00000000000000000000000000000000000000000000000000000012 expires 20 previous 0000000000000000000000000000000000000000000000000000000000000002#0" ∷
    codes "snapshot mark 00000000000000000000000000000000000000000000000000000050 87" ∷
    codes "snapshot mark 00000000000000000000000000000000000000000000000000000051 33" ∷
    codes "snapshot set 00000000000000000000000000000000000000000000000000000050 87" ∷
    codes "snapshot set 00000000000000000000000000000000000000000000000000000051 33" ∷
    codes "snapshot go 00000000000000000000000000000000000000000000000000000050 87" ∷
    codes "snapshot go 00000000000000000000000000000000000000000000000000000051 33" ∷
    codes "snapshot fees 30" ∷
    codes "pending reserves 20 fees 3 treasury 8" ∷
    codes "pending reward k00000000000000000000000000000000000000000000000000000010 10" ∷
    codes "pending reward k00000000000000000000000000000000000000000000000000000011 5" ∷
    codes "pots outputs 54 deposits 66 rewards 100 fees 35 donations 10 treasury 100 reserves 635 supply 1000" ∷
    codes "used 0000000000000000000000000000000000000000000000000000000000000001" ∷
    codes "used 0000000000000000000000000000000000000000000000000000000000000002" ∷
    codes "used 0000000000000000000000000000000000000000000000000000000000000003" ∷
    codes "used 0000000000000000000000000000000000000000000000000000000000000004" ∷
    codes "used 0000000000000000000000000000000000000000000000000000000000000005" ∷
    codes "action 0000000000000000000000000000000000000000000000000000000000000002#0 {\"type\":\"NoConfidence\"}" ∷
    codes "action 0000000000000000000000000000000000000000000000000000000000000002#1 {\"type\":\"NewConstitution\",\"document\":\"0000000000000000000000000000000000000000000000000000000000000002\"}" ∷
    codes "action 0000000000000000000000000000000000000000000000000000000000000002#2 {\"type\":\"Info\"}" ∷
    codes "action 0000000000000000000000000000000000000000000000000000000000000003#0 {\"type\":\"NoConfidence\",\"previous\":\"0000000000000000000000000000000000000000000000000000000000000002#0\"}" ∷
    codes "frozen treasury 100" ∷
    codes "frozen account k00000000000000000000000000000000000000000000000000000010 stake 20 deposit 2 rewards 67 pool 00000000000000000000000000000000000000000000000000000050 drep k00000000000000000000000000000000000000000000000000000030" ∷
    codes "frozen account s00000000000000000000000000000000000000000000000000000010 stake 9 unregistered" ∷
    codes "frozen account k00000000000000000000000000000000000000000000000000000011 stake 0 deposit 2 rewards 33 pool 00000000000000000000000000000000000000000000000000000051 drep k00000000000000000000000000000000000000000000000000000031" ∷
    codes "frozen account k00000000000000000000000000000000000000000000000000000012 stake 0 deposit 2 rewards 0 pool none drep none" ∷
    codes "frozen drep k00000000000000000000000000000000000000000000000000000030 expiry 20" ∷
    codes "frozen drep k00000000000000000000000000000000000000000000000000000031 expiry 20" ∷
    codes "frozen hot k00000000000000000000000000000000000000000000000000000070 k00000000000000000000000000000000000000000000000000000071" ∷
    codes "frozen hot k00000000000000000000000000000000000000000000000000000072 k00000000000000000000000000000000000000000000000000000073" ∷
    codes "frozen pool 00000000000000000000000000000000000000000000000000000050 account 1k00000000000000000000000000000000000000000000000000000012" ∷
    codes "frozen pool 00000000000000000000000000000000000000000000000000000051 account 1k00000000000000000000000000000000000000000000000000000011" ∷
    codes "frozen proposal 0000000000000000000000000000000000000000000000000000000000000002#0" ∷
    codes "frozen vote 0000000000000000000000000000000000000000000000000000000000000002#0 pool:00000000000000000000000000000000000000000000000000000050 abstain" ∷
    codes "frozen proposal 0000000000000000000000000000000000000000000000000000000000000002#1" ∷
    codes "frozen vote 0000000000000000000000000000000000000000000000000000000000000002#1 committee:k00000000000000000000000000000000000000000000000000000071 yes" ∷
    codes "frozen vote 0000000000000000000000000000000000000000000000000000000000000002#1 drep:k00000000000000000000000000000000000000000000000000000030 no" ∷
    codes "frozen proposal 0000000000000000000000000000000000000000000000000000000000000002#2" ∷
    codes "frozen proposal 0000000000000000000000000000000000000000000000000000000000000003#0" ∷
    codes "end" ∷
    []) ≡ true
unfolding digits encode_with
resume_of_a_small_ledger_shown = refl

pub resume_of_a_small_ledger_sound : IsResumable resume_of_a_small_ledger_world
unfolding digits encode_with
resume_of_a_small_ledger_sound = record { form = refl; time = refl; dormancy = refl; delegations = refl; supply = refl; ids = refl; chains = refl; pending = refl; within = refl; entries = refl; counted = refl; epoch = refl; mark = refl; state = refl; treasury = refl; proposals = refl; short = refl }

abbrev resume_of_a_small_ledger_input : List (ℕ × Reading)
resume_of_a_small_ledger_input =
    (10, Read (records.Block 22 1)) ∷
    (11, Read (records.Print what.Pots)) ∷
    (12, Read (records.Block 30 1)) ∷
    (13, Read (records.Block 40 1)) ∷
    []

pub resume_of_a_small_ledger : is_text (Some (text_of_resume resume_of_a_small_ledger_world resume_of_a_small_ledger_input)) (
    codes "10 block slot 22 epoch 2 counted 3 of 4" ∷
    codes "11 pots outputs 54 deposits 66 rewards 100 fees 35 donations 10 treasury 100 reserves 635 supply 1000" ∷
    codes "12 epoch 3 frozen 4 dormant 0" ∷
    codes "12 stake k00000000000000000000000000000000000000000000000000000030 87" ∷
    codes "12 stake k00000000000000000000000000000000000000000000000000000031 43" ∷
    codes "12 tally 0000000000000000000000000000000000000000000000000000000000000002#0 NoConfidence committee 0/2 need none drep 0/130 need 67/100 pool 0/43 need 0/1 waiting" ∷
    codes "12 tally 0000000000000000000000000000000000000000000000000000000000000003#0 NoConfidence committee 0/2 need none drep 0/130 need 67/100 pool 0/130 need 0/1 waiting" ∷
    codes "12 tally 0000000000000000000000000000000000000000000000000000000000000002#1 NewConstitution committee 1/2 need 0/1 drep 0/130 need 67/100 pool 0/130 need none waiting" ∷
    codes "12 tally 0000000000000000000000000000000000000000000000000000000000000002#2 Info committee 0/2 need never drep 0/130 need never pool 0/130 need never waiting" ∷
    codes "12 pots outputs 54 deposits 66 rewards 115 fees 32 donations 0 treasury 118 reserves 615 supply 1000" ∷
    codes "12 block slot 30 epoch 3 counted 1 of 4" ∷
    codes "13 epoch 4 frozen 4 dormant 0" ∷
    codes "13 stake k00000000000000000000000000000000000000000000000000000030 97" ∷
    codes "13 stake k00000000000000000000000000000000000000000000000000000031 48" ∷
    codes "13 tally 0000000000000000000000000000000000000000000000000000000000000002#0 NoConfidence committee 0/2 need none drep 0/145 need 67/100 pool 0/48 need 0/1 waiting" ∷
    codes "13 tally 0000000000000000000000000000000000000000000000000000000000000003#0 NoConfidence committee 0/2 need none drep 0/145 need 67/100 pool 0/145 need 0/1 waiting" ∷
    codes "13 tally 0000000000000000000000000000000000000000000000000000000000000002#1 NewConstitution committee 0/2 need 0/1 drep 48/145 need 67/100 pool 0/145 need none waiting" ∷
    codes "13 tally 0000000000000000000000000000000000000000000000000000000000000002#2 Info committee 0/2 need never drep 0/145 need never pool 0/145 need never waiting" ∷
    codes "13 pots outputs 54 deposits 66 rewards 115 fees 32 donations 0 treasury 118 reserves 615 supply 1000" ∷
    codes "13 block slot 40 epoch 4 counted 1 of 4" ∷
    []) ≡ true
unfolding digits encode_with
resume_of_a_small_ledger = refl

abbrev resume_of_a_genesis_alone_state : EnactState
resume_of_a_genesis_alone_state = (record { params = base_params; version = (10, 0); committee = (Some (record { threshold = (share 0 1); members = (((key 0x70), 100) ∷ []) })); document = (h32 0x01); script = None; last = (record { committee = None; constitution = None; hardfork = None; parameters = None }); treasury = 100 })

abbrev resume_of_a_genesis_alone_world : World
resume_of_a_genesis_alone_world = (record { ledger = (record { network = 1; epoch_length = 10; supply = 1000; slot = 0; epoch = 0; dormant = 0; reserves = 579; fees = 0; donations = 0; state = resume_of_a_genesis_alone_state; outputs = (((ref 0x01 0), (record { address = (address_with 1 (key 0x01) None); lovelace = 20; assets = [] })) ∷ ((ref 0x01 1), (record { address = (address_with 1 (key 0x01) None); lovelace = 20; assets = [] })) ∷ ((ref 0x01 2), (record { address = (address_with 1 (key 0x01) None); lovelace = 20; assets = [] })) ∷ ((ref 0x01 3), (record { address = (address_with 1 (key 0x01) None); lovelace = 20; assets = [] })) ∷ ((ref 0x01 4), (record { address = (address_with 1 (key 0x01) None); lovelace = 20; assets = [] })) ∷ ((ref 0x01 5), (record { address = (address_with 1 (key 0x01) None); lovelace = 20; assets = [] })) ∷ ((ref 0x01 6), (record { address = (address_with 1 (key 0x01) None); lovelace = 20; assets = [] })) ∷ ((ref 0x01 7), (record { address = (address_with 1 (key 0x01) None); lovelace = 20; assets = [] })) ∷ ((ref 0x01 8), (record { address = (address_with 1 (key 0x01) None); lovelace = 20; assets = [] })) ∷ ((ref 0x01 9), (record { address = (address_with 1 (key 0x01) None); lovelace = 20; assets = [] })) ∷ []); used = ((tx_id 0x01) ∷ []); accounts = (((key 0x10), (record { deposit = 2; rewards = 67; pool = None; drep = (Some (drep.Registered (key 0x30))) })) ∷ ((key 0x11), (record { deposit = 2; rewards = 33; pool = None; drep = (Some (drep.Registered (key 0x31))) })) ∷ ((key 0x12), (record { deposit = 2; rewards = 0; pool = None; drep = None })) ∷ []); pools = (((pool 0x50), (record { deposit = 5; terms = (record { cost = 0; pledge = 0; margin = (share 0 1); account = (account_on 1 (key 0x12)); key = None }); future = None; retires = None })) ∷ []); dreps = (((key 0x30), (record { deposit = 5; expiry = 20 })) ∷ ((key 0x31), (record { deposit = 5; expiry = 20 })) ∷ []); hot = (((key 0x70), (Hot (key 0x71))) ∷ []); proposals = [] }); pending = None; counted = 0; mark = (((pool 0x50), 0) ∷ []); set = []; go = []; noted_fees = 0; frozen = (record { epoch = 0; entries = (((key 0x10), (record { stake = 0; registered = (Some (record { deposit = 2; rewards = 67; pool = None; drep = (Some (drep.Registered (key 0x30))) })) })) ∷ ((key 0x11), (record { stake = 0; registered = (Some (record { deposit = 2; rewards = 33; pool = None; drep = (Some (drep.Registered (key 0x31))) })) })) ∷ ((key 0x12), (record { stake = 0; registered = (Some (record { deposit = 2; rewards = 0; pool = None; drep = None })) })) ∷ []); dreps = (((key 0x30), 20) ∷ ((key 0x31), 20) ∷ []); mark = (((pool 0x50), 0) ∷ []); pool_accounts = (((pool 0x50), (account_on 1 (key 0x12))) ∷ []); hot = (((key 0x70), (Hot (key 0x71))) ∷ []); proposals = []; start = (record resume_of_a_genesis_alone_state { treasury = 100 }) }) })

pub resume_of_a_genesis_alone_shown : is_text (Some (checkpoint_text resume_of_a_genesis_alone_world 1)) (
    codes "checkpoint 1 line 1 network 1 length 10 counted 0" ∷
    codes "now slot 0 epoch 0 version 10.0 dormant 0" ∷
    codes "constitution 0000000000000000000000000000000000000000000000000000000000000001 none" ∷
    codes "committee threshold 0/1" ∷
    codes "member k00000000000000000000000000000000000000000000000000000070 term 100 hot k00000000000000000000000000000000000000000000000000000071" ∷
    codes "enacted committee none constitution none hardfork none parameters none" ∷
    codes "param maxBlockBodySize 90112" ∷
    codes "param maxTxSize 16384" ∷
    codes "param maxBlockHeaderSize 1100" ∷
    codes "param maxValueSize 5000" ∷
    codes "param maxTxExUnits 1000 1000" ∷
    codes "param maxBlockExUnits 1000 1000" ∷
    codes "param maxCollateralInputs 3" ∷
    codes "param minFeeA 0" ∷
    codes "param minFeeB 0" ∷
    codes "param keyDeposit 2" ∷
    codes "param poolDeposit 5" ∷
    codes "param rho 0/1" ∷
    codes "param tau 0/1" ∷
    codes "param minPoolCost 0" ∷
    codes "param coinsPerUTxOByte 0" ∷
    codes "param prices 0/1 0/1" ∷
    codes "param minFeeRefScriptCostPerByte 15/1" ∷
    codes "param a0 0/1" ∷
    codes "param eMax 18" ∷
    codes "param nOpt 500" ∷
    codes "param costModels 0000000000000000000000000000000000000000000000000000000000000000" ∷
    codes "param collateralPercentage 150" ∷
    codes "param poolVotingThresholds 0/1 0/1 0/1 0/1 0/1" ∷
    codes "param drepVotingThresholds 67/100 67/100 67/100 67/100 67/100 67/100 67/100 67/100 67/100 67/100" ∷
    codes "param govActionLifetime 2" ∷
    codes "param govActionDeposit 10" ∷
    codes "param drepDeposit 5" ∷
    codes "param drepActivity 20" ∷
    codes "param committeeMinSize 0" ∷
    codes "param committeeMaxTermLength 100" ∷
    codes "drep k00000000000000000000000000000000000000000000000000000030 deposit 5 expiry 20" ∷
    codes "drep k00000000000000000000000000000000000000000000000000000031 deposit 5 expiry 20" ∷
    codes "pool 00000000000000000000000000000000000000000000000000000050 deposit 5 cost 0 pledge 0 margin 0/1 account 1k00000000000000000000000000000000000000000000000000000012 retires never" ∷
    codes "account k00000000000000000000000000000000000000000000000000000010 stake 0 deposit 2 rewards 67 pool none drep k00000000000000000000000000000000000000000000000000000030" ∷
    codes "account k00000000000000000000000000000000000000000000000000000011 stake 0 deposit 2 rewards 33 pool none drep k00000000000000000000000000000000000000000000000000000031" ∷
    codes "account k00000000000000000000000000000000000000000000000000000012 stake 0 deposit 2 rewards 0 pool none drep none" ∷
    codes "output 0000000000000000000000000000000000000000000000000000000000000001#0 1k00000000000000000000000000000000000000000000000000000001 20" ∷
    codes "output 0000000000000000000000000000000000000000000000000000000000000001#1 1k00000000000000000000000000000000000000000000000000000001 20" ∷
    codes "output 0000000000000000000000000000000000000000000000000000000000000001#2 1k00000000000000000000000000000000000000000000000000000001 20" ∷
    codes "output 0000000000000000000000000000000000000000000000000000000000000001#3 1k00000000000000000000000000000000000000000000000000000001 20" ∷
    codes "output 0000000000000000000000000000000000000000000000000000000000000001#4 1k00000000000000000000000000000000000000000000000000000001 20" ∷
    codes "output 0000000000000000000000000000000000000000000000000000000000000001#5 1k00000000000000000000000000000000000000000000000000000001 20" ∷
    codes "output 0000000000000000000000000000000000000000000000000000000000000001#6 1k00000000000000000000000000000000000000000000000000000001 20" ∷
    codes "output 0000000000000000000000000000000000000000000000000000000000000001#7 1k00000000000000000000000000000000000000000000000000000001 20" ∷
    codes "output 0000000000000000000000000000000000000000000000000000000000000001#8 1k00000000000000000000000000000000000000000000000000000001 20" ∷
    codes "output 0000000000000000000000000000000000000000000000000000000000000001#9 1k00000000000000000000000000000000000000000000000000000001 20" ∷
    codes "snapshot mark 00000000000000000000000000000000000000000000000000000050 0" ∷
    codes "snapshot fees 0" ∷
    codes "pending none" ∷
    codes "pots outputs 200 deposits 21 rewards 100 fees 0 donations 0 treasury 100 reserves 579 supply 1000" ∷
    codes "used 0000000000000000000000000000000000000000000000000000000000000001" ∷
    codes "frozen treasury 100" ∷
    codes "frozen account k00000000000000000000000000000000000000000000000000000010 stake 0 deposit 2 rewards 67 pool none drep k00000000000000000000000000000000000000000000000000000030" ∷
    codes "frozen account k00000000000000000000000000000000000000000000000000000011 stake 0 deposit 2 rewards 33 pool none drep k00000000000000000000000000000000000000000000000000000031" ∷
    codes "frozen account k00000000000000000000000000000000000000000000000000000012 stake 0 deposit 2 rewards 0 pool none drep none" ∷
    codes "frozen drep k00000000000000000000000000000000000000000000000000000030 expiry 20" ∷
    codes "frozen drep k00000000000000000000000000000000000000000000000000000031 expiry 20" ∷
    codes "frozen hot k00000000000000000000000000000000000000000000000000000070 k00000000000000000000000000000000000000000000000000000071" ∷
    codes "frozen pool 00000000000000000000000000000000000000000000000000000050 account 1k00000000000000000000000000000000000000000000000000000012" ∷
    codes "end" ∷
    []) ≡ true
unfolding digits encode_with
resume_of_a_genesis_alone_shown = refl

pub resume_of_a_genesis_alone_sound : IsResumable resume_of_a_genesis_alone_world
unfolding digits encode_with
resume_of_a_genesis_alone_sound = record { form = refl; time = refl; dormancy = refl; delegations = refl; supply = refl; ids = refl; chains = refl; pending = refl; within = refl; entries = refl; counted = refl; epoch = refl; mark = refl; state = refl; treasury = refl; proposals = refl; short = refl }

abbrev resume_of_a_genesis_alone_input : List (ℕ × Reading)
resume_of_a_genesis_alone_input =
    (3, Read (records.Tx (record (spend 0x02 10) { proposals = ((proposing 10 (account_on 1 (key 0x12)) (actions.NoConfidence None)) ∷ []) }))) ∷
    (4, Read (records.Tx (record (spend 0x03 20) { votes = ((voting (voter.Drep (key 0x30)) (action 0x02 0) vote.Yes) ∷ []) }))) ∷
    (5, Read (records.Genesis (record { network = 1; slot = 0; epoch_length = 10; version = (10, 0); supply = 1000; reserves = 579; treasury = 100; params = base_params; document = (h32 0x01); script = None; committee = (Some (record { threshold = (share 0 1); members = (((key 0x70), 100, (Some (key 0x71))) ∷ []) })); outputs = (((ref 0x01 0), (address_with 1 (key 0x01) None), 20, []) ∷ ((ref 0x01 1), (address_with 1 (key 0x01) None), 20, []) ∷ ((ref 0x01 2), (address_with 1 (key 0x01) None), 20, []) ∷ ((ref 0x01 3), (address_with 1 (key 0x01) None), 20, []) ∷ ((ref 0x01 4), (address_with 1 (key 0x01) None), 20, []) ∷ ((ref 0x01 5), (address_with 1 (key 0x01) None), 20, []) ∷ ((ref 0x01 6), (address_with 1 (key 0x01) None), 20, []) ∷ ((ref 0x01 7), (address_with 1 (key 0x01) None), 20, []) ∷ ((ref 0x01 8), (address_with 1 (key 0x01) None), 20, []) ∷ ((ref 0x01 9), (address_with 1 (key 0x01) None), 20, []) ∷ []); accounts = (((key 0x10), 2, 67, None, (Some (drep.Registered (key 0x30)))) ∷ ((key 0x11), 2, 33, None, (Some (drep.Registered (key 0x31)))) ∷ ((key 0x12), 2, 0, None, None) ∷ []); pools = ((record { pool = (pool 0x50); deposit = 5; cost = 0; pledge = 0; margin = (share 0 1); account = (account_on 1 (key 0x12)); key = None }) ∷ []); dreps = (((key 0x30), 5, 20) ∷ ((key 0x31), 5, 20) ∷ []) }))) ∷
    (6, Malformed field.Json None) ∷
    (7, Malformed field.Kind None) ∷
    (8, Read (records.Block 0 1)) ∷
    (9, Read (records.Block 1 1)) ∷
    (10, Read (records.Block 10 1)) ∷
    (11, Read (records.Block 20 1)) ∷
    (12, Read (records.Print what.State)) ∷
    []

pub resume_of_a_genesis_alone : is_text (Some (text_of_resume resume_of_a_genesis_alone_world resume_of_a_genesis_alone_input)) (
    codes "3 accepted" ∷
    codes "4 accepted" ∷
    codes "5 refused 3 GenesisAgain" ∷
    codes "6 refused 1 Malformed json" ∷
    codes "7 refused 1 Malformed kind" ∷
    codes "8 refused 10 SlotNotLater last 0" ∷
    codes "9 block slot 1 epoch 0 counted 1 of 3" ∷
    codes "10 epoch 1 frozen 3 dormant 0" ∷
    codes "10 stake k00000000000000000000000000000000000000000000000000000030 67" ∷
    codes "10 stake k00000000000000000000000000000000000000000000000000000031 33" ∷
    codes "10 pots outputs 160 deposits 31 rewards 100 fees 30 donations 0 treasury 100 reserves 579 supply 1000" ∷
    codes "10 block slot 10 epoch 1 counted 1 of 3" ∷
    codes "11 epoch 2 frozen 3 dormant 1" ∷
    codes "11 stake k00000000000000000000000000000000000000000000000000000030 67" ∷
    codes "11 stake k00000000000000000000000000000000000000000000000000000031 33" ∷
    codes "11 tally 0000000000000000000000000000000000000000000000000000000000000002#0 NoConfidence committee 0/1 need none drep 67/100 need 67/100 pool 0/0 need 0/1 ratified" ∷
    codes "11 removed 0000000000000000000000000000000000000000000000000000000000000002#0 enacted refund 10 1k00000000000000000000000000000000000000000000000000000012" ∷
    codes "11 pots outputs 160 deposits 21 rewards 110 fees 30 donations 0 treasury 100 reserves 579 supply 1000" ∷
    codes "11 block slot 20 epoch 2 counted 1 of 3" ∷
    codes "12 now slot 20 epoch 2 version 10.0 dormant 1" ∷
    codes "12 constitution 0000000000000000000000000000000000000000000000000000000000000001 none" ∷
    codes "12 committee none" ∷
    codes "12 enacted committee 0000000000000000000000000000000000000000000000000000000000000002#0 constitution none hardfork none parameters none" ∷
    codes "12 param maxBlockBodySize 90112" ∷
    codes "12 param maxTxSize 16384" ∷
    codes "12 param maxBlockHeaderSize 1100" ∷
    codes "12 param maxValueSize 5000" ∷
    codes "12 param maxTxExUnits 1000 1000" ∷
    codes "12 param maxBlockExUnits 1000 1000" ∷
    codes "12 param maxCollateralInputs 3" ∷
    codes "12 param minFeeA 0" ∷
    codes "12 param minFeeB 0" ∷
    codes "12 param keyDeposit 2" ∷
    codes "12 param poolDeposit 5" ∷
    codes "12 param rho 0/1" ∷
    codes "12 param tau 0/1" ∷
    codes "12 param minPoolCost 0" ∷
    codes "12 param coinsPerUTxOByte 0" ∷
    codes "12 param prices 0/1 0/1" ∷
    codes "12 param minFeeRefScriptCostPerByte 15/1" ∷
    codes "12 param a0 0/1" ∷
    codes "12 param eMax 18" ∷
    codes "12 param nOpt 500" ∷
    codes "12 param costModels 0000000000000000000000000000000000000000000000000000000000000000" ∷
    codes "12 param collateralPercentage 150" ∷
    codes "12 param poolVotingThresholds 0/1 0/1 0/1 0/1 0/1" ∷
    codes "12 param drepVotingThresholds 67/100 67/100 67/100 67/100 67/100 67/100 67/100 67/100 67/100 67/100" ∷
    codes "12 param govActionLifetime 2" ∷
    codes "12 param govActionDeposit 10" ∷
    codes "12 param drepDeposit 5" ∷
    codes "12 param drepActivity 20" ∷
    codes "12 param committeeMinSize 0" ∷
    codes "12 param committeeMaxTermLength 100" ∷
    codes "12 drep k00000000000000000000000000000000000000000000000000000030 deposit 5 expiry 20" ∷
    codes "12 drep k00000000000000000000000000000000000000000000000000000031 deposit 5 expiry 20" ∷
    codes "12 pool 00000000000000000000000000000000000000000000000000000050 deposit 5 cost 0 pledge 0 margin 0/1 account 1k00000000000000000000000000000000000000000000000000000012 retires never" ∷
    codes "12 account k00000000000000000000000000000000000000000000000000000010 stake 0 deposit 2 rewards 67 pool none drep k00000000000000000000000000000000000000000000000000000030" ∷
    codes "12 account k00000000000000000000000000000000000000000000000000000011 stake 0 deposit 2 rewards 33 pool none drep k00000000000000000000000000000000000000000000000000000031" ∷
    codes "12 account k00000000000000000000000000000000000000000000000000000012 stake 0 deposit 2 rewards 10 pool none drep none" ∷
    codes "12 output 0000000000000000000000000000000000000000000000000000000000000001#0 1k00000000000000000000000000000000000000000000000000000001 20" ∷
    codes "12 output 0000000000000000000000000000000000000000000000000000000000000001#1 1k00000000000000000000000000000000000000000000000000000001 20" ∷
    codes "12 output 0000000000000000000000000000000000000000000000000000000000000001#4 1k00000000000000000000000000000000000000000000000000000001 20" ∷
    codes "12 output 0000000000000000000000000000000000000000000000000000000000000001#5 1k00000000000000000000000000000000000000000000000000000001 20" ∷
    codes "12 output 0000000000000000000000000000000000000000000000000000000000000001#6 1k00000000000000000000000000000000000000000000000000000001 20" ∷
    codes "12 output 0000000000000000000000000000000000000000000000000000000000000001#7 1k00000000000000000000000000000000000000000000000000000001 20" ∷
    codes "12 output 0000000000000000000000000000000000000000000000000000000000000001#8 1k00000000000000000000000000000000000000000000000000000001 20" ∷
    codes "12 output 0000000000000000000000000000000000000000000000000000000000000001#9 1k00000000000000000000000000000000000000000000000000000001 20" ∷
    codes "12 snapshot mark 00000000000000000000000000000000000000000000000000000050 0" ∷
    codes "12 snapshot set 00000000000000000000000000000000000000000000000000000050 0" ∷
    codes "12 snapshot go 00000000000000000000000000000000000000000000000000000050 0" ∷
    codes "12 snapshot fees 30" ∷
    codes "12 pending none" ∷
    codes "12 pots outputs 160 deposits 21 rewards 110 fees 30 donations 0 treasury 100 reserves 579 supply 1000" ∷
    []) ≡ true
unfolding digits encode_with
resume_of_a_genesis_alone = refl

abbrev resume_counted_all_state : EnactState
resume_counted_all_state = (record { params = base_params; version = (10, 0); committee = (Some (record { threshold = (share 0 1); members = (((key 0x70), 100) ∷ []) })); document = (h32 0x01); script = None; last = (record { committee = None; constitution = None; hardfork = None; parameters = None }); treasury = 100 })

abbrev resume_counted_all_world : World
resume_counted_all_world = (record { ledger = (record { network = 1; epoch_length = 10; supply = 1000; slot = 2; epoch = 0; dormant = 0; reserves = 579; fees = 20; donations = 0; state = resume_counted_all_state; outputs = (((ref 0x01 0), (record { address = (address_with 1 (key 0x01) None); lovelace = 20; assets = [] })) ∷ ((ref 0x01 1), (record { address = (address_with 1 (key 0x01) None); lovelace = 20; assets = [] })) ∷ ((ref 0x01 3), (record { address = (address_with 1 (key 0x01) None); lovelace = 20; assets = [] })) ∷ ((ref 0x01 4), (record { address = (address_with 1 (key 0x01) None); lovelace = 20; assets = [] })) ∷ ((ref 0x01 5), (record { address = (address_with 1 (key 0x01) None); lovelace = 20; assets = [] })) ∷ ((ref 0x01 6), (record { address = (address_with 1 (key 0x01) None); lovelace = 20; assets = [] })) ∷ ((ref 0x01 7), (record { address = (address_with 1 (key 0x01) None); lovelace = 20; assets = [] })) ∷ ((ref 0x01 8), (record { address = (address_with 1 (key 0x01) None); lovelace = 20; assets = [] })) ∷ ((ref 0x01 9), (record { address = (address_with 1 (key 0x01) None); lovelace = 20; assets = [] })) ∷ ((ref 0x02 0), (record { address = (address_with 1 (key 0x01) (Some (key 0x10))); lovelace = 0; assets = [] })) ∷ []); used = ((tx_id 0x01) ∷ (tx_id 0x02) ∷ []); accounts = (((key 0x10), (record { deposit = 2; rewards = 67; pool = None; drep = (Some (drep.Registered (key 0x30))) })) ∷ ((key 0x11), (record { deposit = 2; rewards = 33; pool = None; drep = (Some (drep.Registered (key 0x31))) })) ∷ ((key 0x12), (record { deposit = 2; rewards = 0; pool = None; drep = None })) ∷ []); pools = (((pool 0x50), (record { deposit = 5; terms = (record { cost = 0; pledge = 0; margin = (share 0 1); account = (account_on 1 (key 0x12)); key = None }); future = None; retires = None })) ∷ []); dreps = (((key 0x30), (record { deposit = 5; expiry = 20 })) ∷ ((key 0x31), (record { deposit = 5; expiry = 20 })) ∷ []); hot = (((key 0x70), (Hot (key 0x71))) ∷ []); proposals = [] }); pending = None; counted = 3; mark = (((pool 0x50), 0) ∷ []); set = []; go = []; noted_fees = 0; frozen = (record { epoch = 0; entries = (((key 0x10), (record { stake = 0; registered = (Some (record { deposit = 2; rewards = 67; pool = None; drep = (Some (drep.Registered (key 0x30))) })) })) ∷ ((key 0x11), (record { stake = 0; registered = (Some (record { deposit = 2; rewards = 33; pool = None; drep = (Some (drep.Registered (key 0x31))) })) })) ∷ ((key 0x12), (record { stake = 0; registered = (Some (record { deposit = 2; rewards = 0; pool = None; drep = None })) })) ∷ []); dreps = (((key 0x30), 20) ∷ ((key 0x31), 20) ∷ []); mark = (((pool 0x50), 0) ∷ []); pool_accounts = (((pool 0x50), (account_on 1 (key 0x12))) ∷ []); hot = (((key 0x70), (Hot (key 0x71))) ∷ []); proposals = []; start = (record resume_counted_all_state { treasury = 100 }) }) })

pub resume_counted_all_shown : is_text (Some (checkpoint_text resume_counted_all_world 4)) (
    codes "checkpoint 1 line 4 network 1 length 10 counted 3" ∷
    codes "now slot 2 epoch 0 version 10.0 dormant 0" ∷
    codes "constitution 0000000000000000000000000000000000000000000000000000000000000001 none" ∷
    codes "committee threshold 0/1" ∷
    codes "member k00000000000000000000000000000000000000000000000000000070 term 100 hot k00000000000000000000000000000000000000000000000000000071" ∷
    codes "enacted committee none constitution none hardfork none parameters none" ∷
    codes "param maxBlockBodySize 90112" ∷
    codes "param maxTxSize 16384" ∷
    codes "param maxBlockHeaderSize 1100" ∷
    codes "param maxValueSize 5000" ∷
    codes "param maxTxExUnits 1000 1000" ∷
    codes "param maxBlockExUnits 1000 1000" ∷
    codes "param maxCollateralInputs 3" ∷
    codes "param minFeeA 0" ∷
    codes "param minFeeB 0" ∷
    codes "param keyDeposit 2" ∷
    codes "param poolDeposit 5" ∷
    codes "param rho 0/1" ∷
    codes "param tau 0/1" ∷
    codes "param minPoolCost 0" ∷
    codes "param coinsPerUTxOByte 0" ∷
    codes "param prices 0/1 0/1" ∷
    codes "param minFeeRefScriptCostPerByte 15/1" ∷
    codes "param a0 0/1" ∷
    codes "param eMax 18" ∷
    codes "param nOpt 500" ∷
    codes "param costModels 0000000000000000000000000000000000000000000000000000000000000000" ∷
    codes "param collateralPercentage 150" ∷
    codes "param poolVotingThresholds 0/1 0/1 0/1 0/1 0/1" ∷
    codes "param drepVotingThresholds 67/100 67/100 67/100 67/100 67/100 67/100 67/100 67/100 67/100 67/100" ∷
    codes "param govActionLifetime 2" ∷
    codes "param govActionDeposit 10" ∷
    codes "param drepDeposit 5" ∷
    codes "param drepActivity 20" ∷
    codes "param committeeMinSize 0" ∷
    codes "param committeeMaxTermLength 100" ∷
    codes "drep k00000000000000000000000000000000000000000000000000000030 deposit 5 expiry 20" ∷
    codes "drep k00000000000000000000000000000000000000000000000000000031 deposit 5 expiry 20" ∷
    codes "pool 00000000000000000000000000000000000000000000000000000050 deposit 5 cost 0 pledge 0 margin 0/1 account 1k00000000000000000000000000000000000000000000000000000012 retires never" ∷
    codes "account k00000000000000000000000000000000000000000000000000000010 stake 0 deposit 2 rewards 67 pool none drep k00000000000000000000000000000000000000000000000000000030" ∷
    codes "account k00000000000000000000000000000000000000000000000000000011 stake 0 deposit 2 rewards 33 pool none drep k00000000000000000000000000000000000000000000000000000031" ∷
    codes "account k00000000000000000000000000000000000000000000000000000012 stake 0 deposit 2 rewards 0 pool none drep none" ∷
    codes "output 0000000000000000000000000000000000000000000000000000000000000001#0 1k00000000000000000000000000000000000000000000000000000001 20" ∷
    codes "output 0000000000000000000000000000000000000000000000000000000000000001#1 1k00000000000000000000000000000000000000000000000000000001 20" ∷
    codes "output 0000000000000000000000000000000000000000000000000000000000000001#3 1k00000000000000000000000000000000000000000000000000000001 20" ∷
    codes "output 0000000000000000000000000000000000000000000000000000000000000001#4 1k00000000000000000000000000000000000000000000000000000001 20" ∷
    codes "output 0000000000000000000000000000000000000000000000000000000000000001#5 1k00000000000000000000000000000000000000000000000000000001 20" ∷
    codes "output 0000000000000000000000000000000000000000000000000000000000000001#6 1k00000000000000000000000000000000000000000000000000000001 20" ∷
    codes "output 0000000000000000000000000000000000000000000000000000000000000001#7 1k00000000000000000000000000000000000000000000000000000001 20" ∷
    codes "output 0000000000000000000000000000000000000000000000000000000000000001#8 1k00000000000000000000000000000000000000000000000000000001 20" ∷
    codes "output 0000000000000000000000000000000000000000000000000000000000000001#9 1k00000000000000000000000000000000000000000000000000000001 20" ∷
    codes "output 0000000000000000000000000000000000000000000000000000000000000002#0 1k00000000000000000000000000000000000000000000000000000001+k00000000000000000000000000000000000000000000000000000010 0" ∷
    codes "snapshot mark 00000000000000000000000000000000000000000000000000000050 0" ∷
    codes "snapshot fees 0" ∷
    codes "pending none" ∷
    codes "pots outputs 180 deposits 21 rewards 100 fees 20 donations 0 treasury 100 reserves 579 supply 1000" ∷
    codes "used 0000000000000000000000000000000000000000000000000000000000000001" ∷
    codes "used 0000000000000000000000000000000000000000000000000000000000000002" ∷
    codes "frozen treasury 100" ∷
    codes "frozen account k00000000000000000000000000000000000000000000000000000010 stake 0 deposit 2 rewards 67 pool none drep k00000000000000000000000000000000000000000000000000000030" ∷
    codes "frozen account k00000000000000000000000000000000000000000000000000000011 stake 0 deposit 2 rewards 33 pool none drep k00000000000000000000000000000000000000000000000000000031" ∷
    codes "frozen account k00000000000000000000000000000000000000000000000000000012 stake 0 deposit 2 rewards 0 pool none drep none" ∷
    codes "frozen drep k00000000000000000000000000000000000000000000000000000030 expiry 20" ∷
    codes "frozen drep k00000000000000000000000000000000000000000000000000000031 expiry 20" ∷
    codes "frozen hot k00000000000000000000000000000000000000000000000000000070 k00000000000000000000000000000000000000000000000000000071" ∷
    codes "frozen pool 00000000000000000000000000000000000000000000000000000050 account 1k00000000000000000000000000000000000000000000000000000012" ∷
    codes "end" ∷
    []) ≡ true
unfolding digits encode_with
resume_counted_all_shown = refl

pub resume_counted_all_sound : IsResumable resume_counted_all_world
unfolding digits encode_with
resume_counted_all_sound = record { form = refl; time = refl; dormancy = refl; delegations = refl; supply = refl; ids = refl; chains = refl; pending = refl; within = refl; entries = refl; counted = refl; epoch = refl; mark = refl; state = refl; treasury = refl; proposals = refl; short = refl }

abbrev resume_counted_all_input : List (ℕ × Reading)
resume_counted_all_input =
    (5, Read (records.Block 3 1)) ∷
    (6, Read (records.Block 10 1)) ∷
    (7, Read (records.Block 11 1)) ∷
    (8, Read (records.Block 20 1)) ∷
    []

pub resume_counted_all : is_text (Some (text_of_resume resume_counted_all_world resume_counted_all_input)) (
    codes "5 block slot 3 epoch 0 counted 3 of 3" ∷
    codes "6 epoch 1 frozen 3 dormant 1" ∷
    codes "6 stake k00000000000000000000000000000000000000000000000000000030 67" ∷
    codes "6 stake k00000000000000000000000000000000000000000000000000000031 33" ∷
    codes "6 pots outputs 180 deposits 21 rewards 100 fees 20 donations 0 treasury 100 reserves 579 supply 1000" ∷
    codes "6 block slot 10 epoch 1 counted 1 of 3" ∷
    codes "7 block slot 11 epoch 1 counted 2 of 3" ∷
    codes "8 epoch 2 frozen 3 dormant 2" ∷
    codes "8 stake k00000000000000000000000000000000000000000000000000000030 67" ∷
    codes "8 stake k00000000000000000000000000000000000000000000000000000031 33" ∷
    codes "8 pots outputs 180 deposits 21 rewards 100 fees 20 donations 0 treasury 100 reserves 579 supply 1000" ∷
    codes "8 block slot 20 epoch 2 counted 1 of 3" ∷
    []) ≡ true
unfolding digits encode_with
resume_counted_all = refl

abbrev resume_behind_the_pulse_state : EnactState
resume_behind_the_pulse_state = (record { params = base_params; version = (10, 0); committee = (Some (record { threshold = (share 0 1); members = (((key 0x70), 100) ∷ []) })); document = (h32 0x01); script = None; last = (record { committee = None; constitution = None; hardfork = None; parameters = None }); treasury = 100 })

abbrev resume_behind_the_pulse_proposal_0 : Proposal
resume_behind_the_pulse_proposal_0 = (record { id = (action 0x02 0); action = (actions.NewConstitution None (h32 0x04) None); deposit = 10; account = (account_on 1 (key 0x10)); expires_after = 2; votes = (((voter.Drep (key 0x30)), vote.Yes) ∷ []) })

abbrev resume_behind_the_pulse_world : World
resume_behind_the_pulse_world = (record { ledger = (record { network = 1; epoch_length = 10; supply = 1000; slot = 12; epoch = 1; dormant = 0; reserves = 579; fees = 58; donations = 0; state = resume_behind_the_pulse_state; outputs = (((ref 0x01 0), (record { address = (address_with 1 (key 0x01) None); lovelace = 20; assets = [] })) ∷ ((ref 0x01 1), (record { address = (address_with 1 (key 0x01) None); lovelace = 20; assets = [] })) ∷ ((ref 0x01 4), (record { address = (address_with 1 (key 0x01) None); lovelace = 20; assets = [] })) ∷ ((ref 0x01 6), (record { address = (address_with 1 (key 0x01) None); lovelace = 20; assets = [] })) ∷ ((ref 0x01 7), (record { address = (address_with 1 (key 0x01) None); lovelace = 20; assets = [] })) ∷ ((ref 0x01 8), (record { address = (address_with 1 (key 0x01) None); lovelace = 20; assets = [] })) ∷ ((ref 0x02 0), (record { address = (address_with 1 (key 0x01) None); lovelace = 10; assets = [] })) ∷ ((ref 0x05 0), (record { address = (address_with 1 (key 0x01) (Some (key 0x11))); lovelace = 33; assets = [] })) ∷ []); used = ((tx_id 0x01) ∷ (tx_id 0x02) ∷ (tx_id 0x03) ∷ (tx_id 0x04) ∷ (tx_id 0x05) ∷ []); accounts = (((key 0x05), (record { deposit = 2; rewards = 0; pool = None; drep = None })) ∷ ((key 0x10), (record { deposit = 2; rewards = 67; pool = None; drep = (Some (drep.Registered (key 0x31))) })) ∷ ((key 0x11), (record { deposit = 2; rewards = 0; pool = None; drep = (Some (drep.Registered (key 0x31))) })) ∷ ((key 0x12), (record { deposit = 2; rewards = 0; pool = None; drep = None })) ∷ []); pools = (((pool 0x50), (record { deposit = 5; terms = (record { cost = 0; pledge = 0; margin = (share 0 1); account = (account_on 1 (key 0x12)); key = None }); future = None; retires = None })) ∷ []); dreps = (((key 0x30), (record { deposit = 5; expiry = 21 })) ∷ ((key 0x31), (record { deposit = 5; expiry = 20 })) ∷ []); hot = (((key 0x70), (Hot (key 0x71))) ∷ []); proposals = (resume_behind_the_pulse_proposal_0 ∷ []) }); pending = None; counted = 2; mark = (((pool 0x50), 0) ∷ []); set = (((pool 0x50), 0) ∷ []); go = []; noted_fees = 0; frozen = (record { epoch = 1; entries = (((key 0x10), (record { stake = 20; registered = (Some (record { deposit = 2; rewards = 67; pool = None; drep = (Some (drep.Registered (key 0x30))) })) })) ∷ ((key 0x11), (record { stake = 0; registered = (Some (record { deposit = 2; rewards = 33; pool = None; drep = (Some (drep.Registered (key 0x31))) })) })) ∷ ((key 0x12), (record { stake = 0; registered = (Some (record { deposit = 2; rewards = 0; pool = None; drep = None })) })) ∷ []); dreps = (((key 0x30), 20) ∷ ((key 0x31), 20) ∷ []); mark = (((pool 0x50), 0) ∷ []); pool_accounts = (((pool 0x50), (account_on 1 (key 0x12))) ∷ []); hot = (((key 0x70), (Hot (key 0x71))) ∷ []); proposals = ((record resume_behind_the_pulse_proposal_0 { votes = [] }) ∷ []); start = (record resume_behind_the_pulse_state { treasury = 100 }) }) })

pub resume_behind_the_pulse_shown : is_text (Some (checkpoint_text resume_behind_the_pulse_world 7)) (
    codes "checkpoint 1 line 7 network 1 length 10 counted 2" ∷
    codes "now slot 12 epoch 1 version 10.0 dormant 0" ∷
    codes "constitution 0000000000000000000000000000000000000000000000000000000000000001 none" ∷
    codes "committee threshold 0/1" ∷
    codes "member k00000000000000000000000000000000000000000000000000000070 term 100 hot k00000000000000000000000000000000000000000000000000000071" ∷
    codes "enacted committee none constitution none hardfork none parameters none" ∷
    codes "param maxBlockBodySize 90112" ∷
    codes "param maxTxSize 16384" ∷
    codes "param maxBlockHeaderSize 1100" ∷
    codes "param maxValueSize 5000" ∷
    codes "param maxTxExUnits 1000 1000" ∷
    codes "param maxBlockExUnits 1000 1000" ∷
    codes "param maxCollateralInputs 3" ∷
    codes "param minFeeA 0" ∷
    codes "param minFeeB 0" ∷
    codes "param keyDeposit 2" ∷
    codes "param poolDeposit 5" ∷
    codes "param rho 0/1" ∷
    codes "param tau 0/1" ∷
    codes "param minPoolCost 0" ∷
    codes "param coinsPerUTxOByte 0" ∷
    codes "param prices 0/1 0/1" ∷
    codes "param minFeeRefScriptCostPerByte 15/1" ∷
    codes "param a0 0/1" ∷
    codes "param eMax 18" ∷
    codes "param nOpt 500" ∷
    codes "param costModels 0000000000000000000000000000000000000000000000000000000000000000" ∷
    codes "param collateralPercentage 150" ∷
    codes "param poolVotingThresholds 0/1 0/1 0/1 0/1 0/1" ∷
    codes "param drepVotingThresholds 67/100 67/100 67/100 67/100 67/100 67/100 67/100 67/100 67/100 67/100" ∷
    codes "param govActionLifetime 2" ∷
    codes "param govActionDeposit 10" ∷
    codes "param drepDeposit 5" ∷
    codes "param drepActivity 20" ∷
    codes "param committeeMinSize 0" ∷
    codes "param committeeMaxTermLength 100" ∷
    codes "drep k00000000000000000000000000000000000000000000000000000030 deposit 5 expiry 21" ∷
    codes "drep k00000000000000000000000000000000000000000000000000000031 deposit 5 expiry 20" ∷
    codes "pool 00000000000000000000000000000000000000000000000000000050 deposit 5 cost 0 pledge 0 margin 0/1 account 1k00000000000000000000000000000000000000000000000000000012 retires never" ∷
    codes "account k00000000000000000000000000000000000000000000000000000005 stake 0 deposit 2 rewards 0 pool none drep none" ∷
    codes "account k00000000000000000000000000000000000000000000000000000010 stake 0 deposit 2 rewards 67 pool none drep k00000000000000000000000000000000000000000000000000000031" ∷
    codes "account k00000000000000000000000000000000000000000000000000000011 stake 33 deposit 2 rewards 0 pool none drep k00000000000000000000000000000000000000000000000000000031" ∷
    codes "account k00000000000000000000000000000000000000000000000000000012 stake 0 deposit 2 rewards 0 pool none drep none" ∷
    codes "output 0000000000000000000000000000000000000000000000000000000000000001#0 1k00000000000000000000000000000000000000000000000000000001 20" ∷
    codes "output 0000000000000000000000000000000000000000000000000000000000000001#1 1k00000000000000000000000000000000000000000000000000000001 20" ∷
    codes "output 0000000000000000000000000000000000000000000000000000000000000001#4 1k00000000000000000000000000000000000000000000000000000001 20" ∷
    codes "output 0000000000000000000000000000000000000000000000000000000000000001#6 1k00000000000000000000000000000000000000000000000000000001 20" ∷
    codes "output 0000000000000000000000000000000000000000000000000000000000000001#7 1k00000000000000000000000000000000000000000000000000000001 20" ∷
    codes "output 0000000000000000000000000000000000000000000000000000000000000001#8 1k00000000000000000000000000000000000000000000000000000001 20" ∷
    codes "output 0000000000000000000000000000000000000000000000000000000000000002#0 1k00000000000000000000000000000000000000000000000000000001 10" ∷
    codes "output 0000000000000000000000000000000000000000000000000000000000000005#0 1k00000000000000000000000000000000000000000000000000000001+k00000000000000000000000000000000000000000000000000000011 33" ∷
    codes "proposal 0000000000000000000000000000000000000000000000000000000000000002#0 NewConstitution deposit 10 return 1k00000000000000000000000000000000000000000000000000000010 expires 2 previous none" ∷
    codes "vote 0000000000000000000000000000000000000000000000000000000000000002#0 drep:k00000000000000000000000000000000000000000000000000000030 yes" ∷
    codes "snapshot mark 00000000000000000000000000000000000000000000000000000050 0" ∷
    codes "snapshot set 00000000000000000000000000000000000000000000000000000050 0" ∷
    codes "snapshot fees 0" ∷
    codes "pending none" ∷
    codes "pots outputs 163 deposits 33 rewards 67 fees 58 donations 0 treasury 100 reserves 579 supply 1000" ∷
    codes "used 0000000000000000000000000000000000000000000000000000000000000001" ∷
    codes "used 0000000000000000000000000000000000000000000000000000000000000002" ∷
    codes "used 0000000000000000000000000000000000000000000000000000000000000003" ∷
    codes "used 0000000000000000000000000000000000000000000000000000000000000004" ∷
    codes "used 0000000000000000000000000000000000000000000000000000000000000005" ∷
    codes "action 0000000000000000000000000000000000000000000000000000000000000002#0 {\"type\":\"NewConstitution\",\"document\":\"0000000000000000000000000000000000000000000000000000000000000004\"}" ∷
    codes "frozen treasury 100" ∷
    codes "frozen account k00000000000000000000000000000000000000000000000000000010 stake 20 deposit 2 rewards 67 pool none drep k00000000000000000000000000000000000000000000000000000030" ∷
    codes "frozen account k00000000000000000000000000000000000000000000000000000011 stake 0 deposit 2 rewards 33 pool none drep k00000000000000000000000000000000000000000000000000000031" ∷
    codes "frozen account k00000000000000000000000000000000000000000000000000000012 stake 0 deposit 2 rewards 0 pool none drep none" ∷
    codes "frozen drep k00000000000000000000000000000000000000000000000000000030 expiry 20" ∷
    codes "frozen drep k00000000000000000000000000000000000000000000000000000031 expiry 20" ∷
    codes "frozen hot k00000000000000000000000000000000000000000000000000000070 k00000000000000000000000000000000000000000000000000000071" ∷
    codes "frozen pool 00000000000000000000000000000000000000000000000000000050 account 1k00000000000000000000000000000000000000000000000000000012" ∷
    codes "frozen proposal 0000000000000000000000000000000000000000000000000000000000000002#0" ∷
    codes "end" ∷
    []) ≡ true
unfolding digits encode_with
resume_behind_the_pulse_shown = refl

pub resume_behind_the_pulse_sound : IsResumable resume_behind_the_pulse_world
unfolding digits encode_with
resume_behind_the_pulse_sound = record { form = refl; time = refl; dormancy = refl; delegations = refl; supply = refl; ids = refl; chains = refl; pending = refl; within = refl; entries = refl; counted = refl; epoch = refl; mark = refl; state = refl; treasury = refl; proposals = refl; short = refl }

abbrev resume_behind_the_pulse_input : List (ℕ × Reading)
resume_behind_the_pulse_input =
    (8, Read (records.Block 13 1)) ∷
    (9, Read (records.Block 14 1)) ∷
    (10, Read (records.Block 20 1)) ∷
    (11, Read (records.Block 30 1)) ∷
    (12, Read (records.Block 40 1)) ∷
    []

pub resume_behind_the_pulse : is_text (Some (text_of_resume resume_behind_the_pulse_world resume_behind_the_pulse_input)) (
    codes "8 block slot 13 epoch 1 counted 3 of 3" ∷
    codes "9 block slot 14 epoch 1 counted 3 of 3" ∷
    codes "10 epoch 2 frozen 4 dormant 0" ∷
    codes "10 stake k00000000000000000000000000000000000000000000000000000030 97" ∷
    codes "10 stake k00000000000000000000000000000000000000000000000000000031 33" ∷
    codes "10 tally 0000000000000000000000000000000000000000000000000000000000000002#0 NewConstitution committee 0/1 need 0/1 drep 0/130 need 67/100 pool 0/0 need none waiting" ∷
    codes "10 pots outputs 163 deposits 33 rewards 67 fees 58 donations 0 treasury 100 reserves 579 supply 1000" ∷
    codes "10 block slot 20 epoch 2 counted 1 of 4" ∷
    codes "11 epoch 3 frozen 4 dormant 0" ∷
    codes "11 stake k00000000000000000000000000000000000000000000000000000031 110" ∷
    codes "11 tally 0000000000000000000000000000000000000000000000000000000000000002#0 NewConstitution committee 0/1 need 0/1 drep 0/110 need 67/100 pool 0/0 need none waiting" ∷
    codes "11 pots outputs 163 deposits 33 rewards 67 fees 58 donations 0 treasury 100 reserves 579 supply 1000" ∷
    codes "11 block slot 30 epoch 3 counted 1 of 4" ∷
    codes "12 epoch 4 frozen 4 dormant 1" ∷
    codes "12 stake k00000000000000000000000000000000000000000000000000000031 110" ∷
    codes "12 tally 0000000000000000000000000000000000000000000000000000000000000002#0 NewConstitution committee 0/1 need 0/1 drep 0/110 need 67/100 pool 0/0 need none expired" ∷
    codes "12 removed 0000000000000000000000000000000000000000000000000000000000000002#0 expired refund 10 1k00000000000000000000000000000000000000000000000000000010" ∷
    codes "12 pots outputs 163 deposits 23 rewards 77 fees 58 donations 0 treasury 100 reserves 579 supply 1000" ∷
    codes "12 block slot 40 epoch 4 counted 1 of 4" ∷
    []) ≡ true
unfolding digits encode_with
resume_behind_the_pulse = refl
