-- Worked rows of whole streams: resumed after boundaries. Made by tests/made/rows_of, from the streams of these names in tests/streams/further.
use Rattle.std.specs.Prelude.{ℕ, ◌≡◌, List, [], ◌∷◌, Some, None, true, codes, refl}
use Rattle.std.specs.Fmt.{digits}
use Rattle.hex.specs.Hex.{encode_with}
use Rattle.gov_actions.specs.declared.action.Action.TheVariants as actions
use Rattle.gov_actions.specs.declared.action.Vote.TheVariants as vote
use Rattle.gov_ids.specs.declared.Drep.TheVariants as drep
use Rattle.gov_ids.specs.declared.Voter.TheVariants as voter
use Rattle.tx_records.specs.declared.record.Record.TheVariants as records
use Rattle.tx_records.specs.declared.record.What.TheVariants as what
use Rattle.tx_records.specs.declared.cert.Cert.TheVariants as certs
use Rattle.tx_records.specs.declared.record.Reading.{Reading}
use Rattle.tx_records.specs.declared.record.Reading.TheVariants.{Read}
use Rattle.ledger_rows.proofs.Base.{h32, key, script, pool, account_on, address_with, tx_id, ref, action, share, base_params, spend, proposing, voting}
use Rattle.checkpoint_model.specs.Checkpoint.{checkpoint_text}
use Rattle.checkpoint_model.specs.Resumable.{IsResumable}
use Rattle.checkpoint_model.specs.Resumed.{text_of_resume}
use Rattle.gov_actions.specs.declared.action.Proposal.{Proposal}
use Rattle.gov_actions.specs.declared.state.EnactState.{EnactState}
use Rattle.gov_actions.specs.declared.state.HotState.TheVariants.{Hot}
use Rattle.run_model.specs.World.{World}
use Rattle.further_rows.proofs.Texts.{is_text}

abbrev resume_of_an_empty_ledger_state : EnactState
resume_of_an_empty_ledger_state = (record { params = base_params; version = (10, 0); committee = None; document = (h32 0x01); script = None; last = (record { committee = None; constitution = None; hardfork = None; parameters = None }); treasury = 7 })

abbrev resume_of_an_empty_ledger_world : World
resume_of_an_empty_ledger_world = (record { ledger = (record { network = 0; epoch_length = 7; supply = 7; slot = 6; epoch = 0; dormant = 0; reserves = 0; fees = 0; donations = 0; state = resume_of_an_empty_ledger_state; outputs = []; used = []; accounts = []; pools = []; dreps = []; hot = []; proposals = [] }); pending = None; counted = 0; mark = []; set = []; go = []; noted_fees = 0; frozen = (record { epoch = 0; entries = []; dreps = []; mark = []; pool_accounts = []; hot = []; proposals = []; start = (record resume_of_an_empty_ledger_state { treasury = 7 }) }) })

pub resume_of_an_empty_ledger_shown : is_text (Some (checkpoint_text resume_of_an_empty_ledger_world 2)) (
    codes "checkpoint 1 line 2 network 0 length 7 counted 0" ∷
    codes "now slot 6 epoch 0 version 10.0 dormant 0" ∷
    codes "constitution 0000000000000000000000000000000000000000000000000000000000000001 none" ∷
    codes "committee none" ∷
    codes "enacted committee none constitution none hardfork none parameters none" ∷
    codes "param maxBlockBodySize 90112" ∷
    codes "param maxTxSize 16384" ∷
    codes "param maxBlockHeaderSize 1100" ∷
    codes "param maxValueSize 5000" ∷
    codes "param maxTxExUnits 1000 1000" ∷
    codes "param maxBlockExUnits 1000 1000" ∷
    codes "param maxCollateralInputs 3" ∷
    codes "param minFeeA 0" ∷
    codes "param minFeeB 0" ∷
    codes "param keyDeposit 2" ∷
    codes "param poolDeposit 5" ∷
    codes "param rho 0/1" ∷
    codes "param tau 0/1" ∷
    codes "param minPoolCost 0" ∷
    codes "param coinsPerUTxOByte 0" ∷
    codes "param prices 0/1 0/1" ∷
    codes "param minFeeRefScriptCostPerByte 15/1" ∷
    codes "param a0 0/1" ∷
    codes "param eMax 18" ∷
    codes "param nOpt 500" ∷
    codes "param costModels 0000000000000000000000000000000000000000000000000000000000000000" ∷
    codes "param collateralPercentage 150" ∷
    codes "param poolVotingThresholds 0/1 0/1 0/1 0/1 0/1" ∷
    codes "param drepVotingThresholds 67/100 67/100 67/100 67/100 67/100 67/100 67/100 67/100 67/100 67/100" ∷
    codes "param govActionLifetime 2" ∷
    codes "param govActionDeposit 10" ∷
    codes "param drepDeposit 5" ∷
    codes "param drepActivity 20" ∷
    codes "param committeeMinSize 0" ∷
    codes "param committeeMaxTermLength 100" ∷
    codes "snapshot fees 0" ∷
    codes "pending none" ∷
    codes "pots outputs 0 deposits 0 rewards 0 fees 0 donations 0 treasury 7 reserves 0 supply 7" ∷
    codes "frozen treasury 7" ∷
    codes "end" ∷
    []) ≡ true
unfolding digits encode_with
resume_of_an_empty_ledger_shown = refl

pub resume_of_an_empty_ledger_sound : IsResumable resume_of_an_empty_ledger_world
unfolding digits encode_with
resume_of_an_empty_ledger_sound = record { form = refl; time = refl; dormancy = refl; delegations = refl; supply = refl; ids = refl; chains = refl; pending = refl; within = refl; entries = refl; counted = refl; epoch = refl; mark = refl; state = refl; treasury = refl; proposals = refl; short = refl }

abbrev resume_of_an_empty_ledger_input : List (ℕ × Reading)
resume_of_an_empty_ledger_input =
    (3, Read (records.Block 7 5)) ∷
    (4, Read (records.Block 20 5)) ∷
    (5, Read (records.Print what.State)) ∷
    (6, Read (records.Tx (record (spend 0x02 20) { inputs = [] }))) ∷
    (7, Read (records.Block 21 1)) ∷
    []

pub resume_of_an_empty_ledger : is_text (Some (text_of_resume resume_of_an_empty_ledger_world resume_of_an_empty_ledger_input)) (
    codes "3 epoch 1 frozen 0 dormant 1" ∷
    codes "3 pots outputs 0 deposits 0 rewards 0 fees 0 donations 0 treasury 7 reserves 0 supply 7" ∷
    codes "3 block slot 7 epoch 1 counted 0 of 0" ∷
    codes "4 epoch 2 frozen 0 dormant 2" ∷
    codes "4 pots outputs 0 deposits 0 rewards 0 fees 0 donations 0 treasury 7 reserves 0 supply 7" ∷
    codes "4 block slot 20 epoch 2 counted 0 of 0" ∷
    codes "5 now slot 20 epoch 2 version 10.0 dormant 2" ∷
    codes "5 constitution 0000000000000000000000000000000000000000000000000000000000000001 none" ∷
    codes "5 committee none" ∷
    codes "5 enacted committee none constitution none hardfork none parameters none" ∷
    codes "5 param maxBlockBodySize 90112" ∷
    codes "5 param maxTxSize 16384" ∷
    codes "5 param maxBlockHeaderSize 1100" ∷
    codes "5 param maxValueSize 5000" ∷
    codes "5 param maxTxExUnits 1000 1000" ∷
    codes "5 param maxBlockExUnits 1000 1000" ∷
    codes "5 param maxCollateralInputs 3" ∷
    codes "5 param minFeeA 0" ∷
    codes "5 param minFeeB 0" ∷
    codes "5 param keyDeposit 2" ∷
    codes "5 param poolDeposit 5" ∷
    codes "5 param rho 0/1" ∷
    codes "5 param tau 0/1" ∷
    codes "5 param minPoolCost 0" ∷
    codes "5 param coinsPerUTxOByte 0" ∷
    codes "5 param prices 0/1 0/1" ∷
    codes "5 param minFeeRefScriptCostPerByte 15/1" ∷
    codes "5 param a0 0/1" ∷
    codes "5 param eMax 18" ∷
    codes "5 param nOpt 500" ∷
    codes "5 param costModels 0000000000000000000000000000000000000000000000000000000000000000" ∷
    codes "5 param collateralPercentage 150" ∷
    codes "5 param poolVotingThresholds 0/1 0/1 0/1 0/1 0/1" ∷
    codes "5 param drepVotingThresholds 67/100 67/100 67/100 67/100 67/100 67/100 67/100 67/100 67/100 67/100" ∷
    codes "5 param govActionLifetime 2" ∷
    codes "5 param govActionDeposit 10" ∷
    codes "5 param drepDeposit 5" ∷
    codes "5 param drepActivity 20" ∷
    codes "5 param committeeMinSize 0" ∷
    codes "5 param committeeMaxTermLength 100" ∷
    codes "5 snapshot fees 0" ∷
    codes "5 pending none" ∷
    codes "5 pots outputs 0 deposits 0 rewards 0 fees 0 donations 0 treasury 7 reserves 0 supply 7" ∷
    codes "6 refused 32 NoInputs" ∷
    codes "7 epoch 3 frozen 0 dormant 3" ∷
    codes "7 pots outputs 0 deposits 0 rewards 0 fees 0 donations 0 treasury 7 reserves 0 supply 7" ∷
    codes "7 block slot 21 epoch 3 counted 0 of 0" ∷
    []) ≡ true
unfolding digits encode_with
resume_of_an_empty_ledger = refl

abbrev resume_after_enactments_state : EnactState
resume_after_enactments_state = (record { params = (record base_params { drep_voting_thresholds = ((share 0 1) ∷ (share 0 1) ∷ (share 0 1) ∷ (share 0 1) ∷ (share 0 1) ∷ (share 0 1) ∷ (share 0 1) ∷ (share 0 1) ∷ (share 0 1) ∷ (share 0 1) ∷ []) }); version = (11, 0); committee = None; document = (h32 0x01); script = None; last = (record { committee = (Some (action 0x04 0)); constitution = None; hardfork = (Some (action 0x02 0)); parameters = None }); treasury = 110 })

abbrev resume_after_enactments_proposal_0 : Proposal
resume_after_enactments_proposal_0 = (record { id = (action 0x05 0); action = (actions.NewConstitution None (h32 0x06) None); deposit = 10; account = (account_on 1 (key 0x12)); expires_after = 5; votes = [] })

abbrev resume_after_enactments_proposal_1 : Proposal
resume_after_enactments_proposal_1 = (record { id = (action 0x06 0); action = (actions.UpdateCommittee (Some (action 0x04 0)) [] (((key 0x60), 50) ∷ ((script 0x60), 40) ∷ []) (share 0 7)); deposit = 10; account = (account_on 1 (key 0x12)); expires_after = 6; votes = [] })

abbrev resume_after_enactments_world : World
resume_after_enactments_world = (record { ledger = (record { network = 1; epoch_length = 10; supply = 1200; slot = 55; epoch = 5; dormant = 0; reserves = 709; fees = 60; donations = 0; state = resume_after_enactments_state; outputs = (((ref 0x01 7), (record { address = (address_with 1 (key 0x01) None); lovelace = 20; assets = [] })) ∷ ((ref 0x01 8), (record { address = (address_with 1 (key 0x01) None); lovelace = 20; assets = [] })) ∷ ((ref 0x01 9), (record { address = (address_with 1 (key 0x01) None); lovelace = 20; assets = [] })) ∷ ((ref 0x01 10), (record { address = (address_with 1 (key 0x01) None); lovelace = 20; assets = [] })) ∷ ((ref 0x01 11), (record { address = (address_with 1 (key 0x01) None); lovelace = 20; assets = [] })) ∷ ((ref 0x01 12), (record { address = (address_with 1 (key 0x01) None); lovelace = 20; assets = [] })) ∷ ((ref 0x01 13), (record { address = (address_with 1 (key 0x01) None); lovelace = 20; assets = [] })) ∷ []); used = ((tx_id 0x01) ∷ (tx_id 0x02) ∷ (tx_id 0x03) ∷ (tx_id 0x04) ∷ (tx_id 0x05) ∷ (tx_id 0x06) ∷ []); accounts = (((key 0x10), (record { deposit = 2; rewards = 67; pool = None; drep = (Some (drep.Registered (key 0x30))) })) ∷ ((key 0x11), (record { deposit = 2; rewards = 53; pool = None; drep = (Some (drep.Registered (key 0x31))) })) ∷ ((key 0x12), (record { deposit = 2; rewards = 25; pool = None; drep = None })) ∷ []); pools = []; dreps = (((key 0x30), (record { deposit = 5; expiry = 21 })) ∷ ((key 0x31), (record { deposit = 5; expiry = 21 })) ∷ []); hot = []; proposals = (resume_after_enactments_proposal_0 ∷ resume_after_enactments_proposal_1 ∷ []) }); pending = None; counted = 1; mark = []; set = []; go = []; noted_fees = 60; frozen = (record { epoch = 5; entries = (((key 0x10), (record { stake = 0; registered = (Some (record { deposit = 2; rewards = 67; pool = None; drep = (Some (drep.Registered (key 0x30))) })) })) ∷ ((key 0x11), (record { stake = 0; registered = (Some (record { deposit = 2; rewards = 53; pool = None; drep = (Some (drep.Registered (key 0x31))) })) })) ∷ ((key 0x12), (record { stake = 0; registered = (Some (record { deposit = 2; rewards = 25; pool = None; drep = None })) })) ∷ []); dreps = (((key 0x30), 21) ∷ ((key 0x31), 21) ∷ []); mark = []; pool_accounts = []; hot = []; proposals = ((record resume_after_enactments_proposal_0 { votes = [] }) ∷ (record resume_after_enactments_proposal_1 { votes = [] }) ∷ []); start = (record resume_after_enactments_state { treasury = 110 }) }) })

pub resume_after_enactments_shown : is_text (Some (checkpoint_text resume_after_enactments_world 12)) (
    codes "checkpoint 1 line 12 network 1 length 10 counted 1" ∷
    codes "now slot 55 epoch 5 version 11.0 dormant 0" ∷
    codes "constitution 0000000000000000000000000000000000000000000000000000000000000001 none" ∷
    codes "committee none" ∷
    codes "enacted committee 0000000000000000000000000000000000000000000000000000000000000004#0 constitution none hardfork 0000000000000000000000000000000000000000000000000000000000000002#0 parameters none" ∷
    codes "param maxBlockBodySize 90112" ∷
    codes "param maxTxSize 16384" ∷
    codes "param maxBlockHeaderSize 1100" ∷
    codes "param maxValueSize 5000" ∷
    codes "param maxTxExUnits 1000 1000" ∷
    codes "param maxBlockExUnits 1000 1000" ∷
    codes "param maxCollateralInputs 3" ∷
    codes "param minFeeA 0" ∷
    codes "param minFeeB 0" ∷
    codes "param keyDeposit 2" ∷
    codes "param poolDeposit 5" ∷
    codes "param rho 0/1" ∷
    codes "param tau 0/1" ∷
    codes "param minPoolCost 0" ∷
    codes "param coinsPerUTxOByte 0" ∷
    codes "param prices 0/1 0/1" ∷
    codes "param minFeeRefScriptCostPerByte 15/1" ∷
    codes "param a0 0/1" ∷
    codes "param eMax 18" ∷
    codes "param nOpt 500" ∷
    codes "param costModels 0000000000000000000000000000000000000000000000000000000000000000" ∷
    codes "param collateralPercentage 150" ∷
    codes "param poolVotingThresholds 0/1 0/1 0/1 0/1 0/1" ∷
    codes "param drepVotingThresholds 0/1 0/1 0/1 0/1 0/1 0/1 0/1 0/1 0/1 0/1" ∷
    codes "param govActionLifetime 2" ∷
    codes "param govActionDeposit 10" ∷
    codes "param drepDeposit 5" ∷
    codes "param drepActivity 20" ∷
    codes "param committeeMinSize 0" ∷
    codes "param committeeMaxTermLength 100" ∷
    codes "drep k00000000000000000000000000000000000000000000000000000030 deposit 5 expiry 21" ∷
    codes "drep k00000000000000000000000000000000000000000000000000000031 deposit 5 expiry 21" ∷
    codes "account k00000000000000000000000000000000000000000000000000000010 stake 0 deposit 2 rewards 67 pool none drep k00000000000000000000000000000000000000000000000000000030" ∷
    codes "account k00000000000000000000000000000000000000000000000000000011 stake 0 deposit 2 rewards 53 pool none drep k00000000000000000000000000000000000000000000000000000031" ∷
    codes "account k00000000000000000000000000000000000000000000000000000012 stake 0 deposit 2 rewards 25 pool none drep none" ∷
    codes "output 0000000000000000000000000000000000000000000000000000000000000001#7 1k00000000000000000000000000000000000000000000000000000001 20" ∷
    codes "output 0000000000000000000000000000000000000000000000000000000000000001#8 1k00000000000000000000000000000000000000000000000000000001 20" ∷
    codes "output 0000000000000000000000000000000000000000000000000000000000000001#9 1k00000000000000000000000000000000000000000000000000000001 20" ∷
    codes "output 0000000000000000000000000000000000000000000000000000000000000001#10 1k00000000000000000000000000000000000000000000000000000001 20" ∷
    codes "output 0000000000000000000000000000000000000000000000000000000000000001#11 1k00000000000000000000000000000000000000000000000000000001 20" ∷
    codes "output 0000000000000000000000000000000000000000000000000000000000000001#12 1k00000000000000000000000000000000000000000000000000000001 20" ∷
    codes "output 0000000000000000000000000000000000000000000000000000000000000001#13 1k00000000000000000000000000000000000000000000000000000001 20" ∷
    codes "proposal 0000000000000000000000000000000000000000000000000000000000000005#0 NewConstitution deposit 10 return 1k00000000000000000000000000000000000000000000000000000012 expires 5 previous none" ∷
    codes "proposal 0000000000000000000000000000000000000000000000000000000000000006#0 UpdateCommittee deposit 10 return 1k00000000000000000000000000000000000000000000000000000012 expires 6 previous 0000000000000000000000000000000000000000000000000000000000000004#0" ∷
    codes "snapshot fees 60" ∷
    codes "pending none" ∷
    codes "pots outputs 140 deposits 36 rewards 145 fees 60 donations 0 treasury 110 reserves 709 supply 1200" ∷
    codes "used 0000000000000000000000000000000000000000000000000000000000000001" ∷
    codes "used 0000000000000000000000000000000000000000000000000000000000000002" ∷
    codes "used 0000000000000000000000000000000000000000000000000000000000000003" ∷
    codes "used 0000000000000000000000000000000000000000000000000000000000000004" ∷
    codes "used 0000000000000000000000000000000000000000000000000000000000000005" ∷
    codes "used 0000000000000000000000000000000000000000000000000000000000000006" ∷
    codes "action 0000000000000000000000000000000000000000000000000000000000000005#0 {\"type\":\"NewConstitution\",\"document\":\"0000000000000000000000000000000000000000000000000000000000000006\"}" ∷
    codes "action 0000000000000000000000000000000000000000000000000000000000000006#0 {\"type\":\"UpdateCommittee\",\"previous\":\"0000000000000000000000000000000000000000000000000000000000000004#0\",\"remove\":[],\"add\":[[\"k00000000000000000000000000000000000000000000000000000060\",50],[\"s00000000000000000000000000000000000000000000000000000060\",40]],\"threshold\":[0,7]}" ∷
    codes "frozen treasury 110" ∷
    codes "frozen account k00000000000000000000000000000000000000000000000000000010 stake 0 deposit 2 rewards 67 pool none drep k00000000000000000000000000000000000000000000000000000030" ∷
    codes "frozen account k00000000000000000000000000000000000000000000000000000011 stake 0 deposit 2 rewards 53 pool none drep k00000000000000000000000000000000000000000000000000000031" ∷
    codes "frozen account k00000000000000000000000000000000000000000000000000000012 stake 0 deposit 2 rewards 25 pool none drep none" ∷
    codes "frozen drep k00000000000000000000000000000000000000000000000000000030 expiry 21" ∷
    codes "frozen drep k00000000000000000000000000000000000000000000000000000031 expiry 21" ∷
    codes "frozen proposal 0000000000000000000000000000000000000000000000000000000000000005#0" ∷
    codes "frozen proposal 0000000000000000000000000000000000000000000000000000000000000006#0" ∷
    codes "end" ∷
    []) ≡ true
unfolding digits encode_with
resume_after_enactments_shown = refl

pub resume_after_enactments_sound : IsResumable resume_after_enactments_world
unfolding digits encode_with
resume_after_enactments_sound = record { form = refl; time = refl; dormancy = refl; delegations = refl; supply = refl; ids = refl; chains = refl; pending = refl; within = refl; entries = refl; counted = refl; epoch = refl; mark = refl; state = refl; treasury = refl; proposals = refl; short = refl }

abbrev resume_after_enactments_input : List (ℕ × Reading)
resume_after_enactments_input =
    (13, Read (records.Block 56 1)) ∷
    (14, Read (records.Tx (record (spend 0x07 10) { proposals = ((proposing 10 (account_on 1 (key 0x12)) (actions.NoConfidence (Some (action 0x06 0)))) ∷ []) }))) ∷
    (15, Read (records.Tx (record (spend 0x08 10) { proposals = ((proposing 10 (account_on 1 (key 0x12)) (actions.HardForkInitiation (Some (action 0x02 0)) (11, 1))) ∷ []) }))) ∷
    (16, Read (records.Tx (record (spend 0x09 20) { certs = ((certs.HotAuth (key 0x60) (key 0x61)) ∷ []) }))) ∷
    (17, Read (records.Block 60 2)) ∷
    (18, Read (records.Tx (record (spend 0x10 20) { inputs = ((ref 0x01 10) ∷ []); votes = ((voting (voter.Committee (key 0x61)) (action 0x08 0) vote.Yes) ∷ []) }))) ∷
    (19, Read (records.Block 70 1)) ∷
    (20, Read (records.Block 80 3)) ∷
    (21, Read (records.Print what.State)) ∷
    []

pub resume_after_enactments : is_text (Some (text_of_resume resume_after_enactments_world resume_after_enactments_input)) (
    codes "13 block slot 56 epoch 5 counted 2 of 3" ∷
    codes "14 accepted" ∷
    codes "15 accepted" ∷
    codes "16 accepted" ∷
    codes "17 epoch 6 frozen 3 dormant 0" ∷
    codes "17 stake k00000000000000000000000000000000000000000000000000000030 67" ∷
    codes "17 stake k00000000000000000000000000000000000000000000000000000031 53" ∷
    codes "17 tally 0000000000000000000000000000000000000000000000000000000000000006#0 UpdateCommittee committee 0/0 need none drep 0/120 need 0/1 pool 0/0 need 0/1 ratified" ∷
    codes "17 tally 0000000000000000000000000000000000000000000000000000000000000005#0 NewConstitution committee 0/0 need 0/7 drep 0/120 need 0/1 pool 0/0 need none waiting" ∷
    codes "17 removed 0000000000000000000000000000000000000000000000000000000000000006#0 enacted refund 10 1k00000000000000000000000000000000000000000000000000000012" ∷
    codes "17 pots outputs 80 deposits 46 rewards 155 fees 100 donations 0 treasury 110 reserves 709 supply 1200" ∷
    codes "17 block slot 60 epoch 6 counted 2 of 3" ∷
    codes "18 accepted" ∷
    codes "19 epoch 7 frozen 3 dormant 0" ∷
    codes "19 stake k00000000000000000000000000000000000000000000000000000030 67" ∷
    codes "19 stake k00000000000000000000000000000000000000000000000000000031 53" ∷
    codes "19 tally 0000000000000000000000000000000000000000000000000000000000000007#0 NoConfidence committee 0/1 need none drep 0/120 need 0/1 pool 0/0 need 0/1 ratified" ∷
    codes "19 tally 0000000000000000000000000000000000000000000000000000000000000005#0 NewConstitution committee 0/1 need never drep 0/120 need 0/1 pool 0/0 need none expired" ∷
    codes "19 tally 0000000000000000000000000000000000000000000000000000000000000008#0 HardForkInitiation committee 0/1 need never drep 0/120 need 0/1 pool 0/0 need 0/1 waiting" ∷
    codes "19 removed 0000000000000000000000000000000000000000000000000000000000000005#0 expired refund 10 1k00000000000000000000000000000000000000000000000000000012" ∷
    codes "19 removed 0000000000000000000000000000000000000000000000000000000000000007#0 enacted refund 10 1k00000000000000000000000000000000000000000000000000000012" ∷
    codes "19 pots outputs 60 deposits 26 rewards 175 fees 120 donations 0 treasury 110 reserves 709 supply 1200" ∷
    codes "19 block slot 70 epoch 7 counted 1 of 3" ∷
    codes "20 epoch 8 frozen 3 dormant 0" ∷
    codes "20 stake k00000000000000000000000000000000000000000000000000000030 67" ∷
    codes "20 stake k00000000000000000000000000000000000000000000000000000031 53" ∷
    codes "20 tally 0000000000000000000000000000000000000000000000000000000000000008#0 HardForkInitiation committee 0/0 need never drep 0/120 need 0/1 pool 0/0 need 0/1 waiting" ∷
    codes "20 pots outputs 60 deposits 26 rewards 175 fees 120 donations 0 treasury 110 reserves 709 supply 1200" ∷
    codes "20 block slot 80 epoch 8 counted 3 of 3" ∷
    codes "21 now slot 80 epoch 8 version 11.0 dormant 0" ∷
    codes "21 constitution 0000000000000000000000000000000000000000000000000000000000000001 none" ∷
    codes "21 committee none" ∷
    codes "21 enacted committee 0000000000000000000000000000000000000000000000000000000000000007#0 constitution none hardfork 0000000000000000000000000000000000000000000000000000000000000002#0 parameters none" ∷
    codes "21 param maxBlockBodySize 90112" ∷
    codes "21 param maxTxSize 16384" ∷
    codes "21 param maxBlockHeaderSize 1100" ∷
    codes "21 param maxValueSize 5000" ∷
    codes "21 param maxTxExUnits 1000 1000" ∷
    codes "21 param maxBlockExUnits 1000 1000" ∷
    codes "21 param maxCollateralInputs 3" ∷
    codes "21 param minFeeA 0" ∷
    codes "21 param minFeeB 0" ∷
    codes "21 param keyDeposit 2" ∷
    codes "21 param poolDeposit 5" ∷
    codes "21 param rho 0/1" ∷
    codes "21 param tau 0/1" ∷
    codes "21 param minPoolCost 0" ∷
    codes "21 param coinsPerUTxOByte 0" ∷
    codes "21 param prices 0/1 0/1" ∷
    codes "21 param minFeeRefScriptCostPerByte 15/1" ∷
    codes "21 param a0 0/1" ∷
    codes "21 param eMax 18" ∷
    codes "21 param nOpt 500" ∷
    codes "21 param costModels 0000000000000000000000000000000000000000000000000000000000000000" ∷
    codes "21 param collateralPercentage 150" ∷
    codes "21 param poolVotingThresholds 0/1 0/1 0/1 0/1 0/1" ∷
    codes "21 param drepVotingThresholds 0/1 0/1 0/1 0/1 0/1 0/1 0/1 0/1 0/1 0/1" ∷
    codes "21 param govActionLifetime 2" ∷
    codes "21 param govActionDeposit 10" ∷
    codes "21 param drepDeposit 5" ∷
    codes "21 param drepActivity 20" ∷
    codes "21 param committeeMinSize 0" ∷
    codes "21 param committeeMaxTermLength 100" ∷
    codes "21 drep k00000000000000000000000000000000000000000000000000000030 deposit 5 expiry 21" ∷
    codes "21 drep k00000000000000000000000000000000000000000000000000000031 deposit 5 expiry 21" ∷
    codes "21 account k00000000000000000000000000000000000000000000000000000010 stake 0 deposit 2 rewards 67 pool none drep k00000000000000000000000000000000000000000000000000000030" ∷
    codes "21 account k00000000000000000000000000000000000000000000000000000011 stake 0 deposit 2 rewards 53 pool none drep k00000000000000000000000000000000000000000000000000000031" ∷
    codes "21 account k00000000000000000000000000000000000000000000000000000012 stake 0 deposit 2 rewards 55 pool none drep none" ∷
    codes "21 output 0000000000000000000000000000000000000000000000000000000000000001#11 1k00000000000000000000000000000000000000000000000000000001 20" ∷
    codes "21 output 0000000000000000000000000000000000000000000000000000000000000001#12 1k00000000000000000000000000000000000000000000000000000001 20" ∷
    codes "21 output 0000000000000000000000000000000000000000000000000000000000000001#13 1k00000000000000000000000000000000000000000000000000000001 20" ∷
    codes "21 proposal 0000000000000000000000000000000000000000000000000000000000000008#0 HardForkInitiation deposit 10 return 1k00000000000000000000000000000000000000000000000000000012 expires 7 previous 0000000000000000000000000000000000000000000000000000000000000002#0" ∷
    codes "21 vote 0000000000000000000000000000000000000000000000000000000000000008#0 committee:k00000000000000000000000000000000000000000000000000000061 yes" ∷
    codes "21 snapshot fees 120" ∷
    codes "21 pending none" ∷
    codes "21 pots outputs 60 deposits 26 rewards 175 fees 120 donations 0 treasury 110 reserves 709 supply 1200" ∷
    []) ≡ true
unfolding digits encode_with
resume_after_enactments = refl

abbrev resume_right_after_a_boundary_state : EnactState
resume_right_after_a_boundary_state = (record { params = base_params; version = (10, 0); committee = (Some (record { threshold = (share 0 1); members = (((key 0x70), 100) ∷ []) })); document = (h32 0x01); script = None; last = (record { committee = None; constitution = None; hardfork = None; parameters = None }); treasury = 100 })

abbrev resume_right_after_a_boundary_proposal_0 : Proposal
resume_right_after_a_boundary_proposal_0 = (record { id = (action 0x02 0); action = (actions.NoConfidence None); deposit = 10; account = (account_on 1 (key 0x12)); expires_after = 2; votes = (((voter.Drep (key 0x30)), vote.Yes) ∷ []) })

abbrev resume_right_after_a_boundary_world : World
resume_right_after_a_boundary_world = (record { ledger = (record { network = 1; epoch_length = 10; supply = 1000; slot = 10; epoch = 1; dormant = 0; reserves = 579; fees = 30; donations = 0; state = resume_right_after_a_boundary_state; outputs = (((ref 0x01 0), (record { address = (address_with 1 (key 0x01) None); lovelace = 20; assets = [] })) ∷ ((ref 0x01 1), (record { address = (address_with 1 (key 0x01) None); lovelace = 20; assets = [] })) ∷ ((ref 0x01 4), (record { address = (address_with 1 (key 0x01) None); lovelace = 20; assets = [] })) ∷ ((ref 0x01 5), (record { address = (address_with 1 (key 0x01) None); lovelace = 20; assets = [] })) ∷ ((ref 0x01 6), (record { address = (address_with 1 (key 0x01) None); lovelace = 20; assets = [] })) ∷ ((ref 0x01 7), (record { address = (address_with 1 (key 0x01) None); lovelace = 20; assets = [] })) ∷ ((ref 0x01 8), (record { address = (address_with 1 (key 0x01) None); lovelace = 20; assets = [] })) ∷ ((ref 0x01 9), (record { address = (address_with 1 (key 0x01) None); lovelace = 20; assets = [] })) ∷ []); used = ((tx_id 0x01) ∷ (tx_id 0x02) ∷ (tx_id 0x03) ∷ []); accounts = (((key 0x10), (record { deposit = 2; rewards = 67; pool = None; drep = (Some (drep.Registered (key 0x30))) })) ∷ ((key 0x11), (record { deposit = 2; rewards = 33; pool = None; drep = (Some (drep.Registered (key 0x31))) })) ∷ ((key 0x12), (record { deposit = 2; rewards = 0; pool = None; drep = None })) ∷ []); pools = (((pool 0x50), (record { deposit = 5; terms = (record { cost = 0; pledge = 0; margin = (share 0 1); account = (account_on 1 (key 0x12)); key = None }); future = None; retires = None })) ∷ []); dreps = (((key 0x30), (record { deposit = 5; expiry = 20 })) ∷ ((key 0x31), (record { deposit = 5; expiry = 20 })) ∷ []); hot = (((key 0x70), (Hot (key 0x71))) ∷ []); proposals = (resume_right_after_a_boundary_proposal_0 ∷ []) }); pending = None; counted = 1; mark = (((pool 0x50), 0) ∷ []); set = (((pool 0x50), 0) ∷ []); go = []; noted_fees = 30; frozen = (record { epoch = 1; entries = (((key 0x10), (record { stake = 0; registered = (Some (record { deposit = 2; rewards = 67; pool = None; drep = (Some (drep.Registered (key 0x30))) })) })) ∷ ((key 0x11), (record { stake = 0; registered = (Some (record { deposit = 2; rewards = 33; pool = None; drep = (Some (drep.Registered (key 0x31))) })) })) ∷ ((key 0x12), (record { stake = 0; registered = (Some (record { deposit = 2; rewards = 0; pool = None; drep = None })) })) ∷ []); dreps = (((key 0x30), 20) ∷ ((key 0x31), 20) ∷ []); mark = (((pool 0x50), 0) ∷ []); pool_accounts = (((pool 0x50), (account_on 1 (key 0x12))) ∷ []); hot = (((key 0x70), (Hot (key 0x71))) ∷ []); proposals = ((record resume_right_after_a_boundary_proposal_0 { votes = (((voter.Drep (key 0x30)), vote.Yes) ∷ []) }) ∷ []); start = (record resume_right_after_a_boundary_state { treasury = 100 }) }) })

pub resume_right_after_a_boundary_shown : is_text (Some (checkpoint_text resume_right_after_a_boundary_world 4)) (
    codes "checkpoint 1 line 4 network 1 length 10 counted 1" ∷
    codes "now slot 10 epoch 1 version 10.0 dormant 0" ∷
    codes "constitution 0000000000000000000000000000000000000000000000000000000000000001 none" ∷
    codes "committee threshold 0/1" ∷
    codes "member k00000000000000000000000000000000000000000000000000000070 term 100 hot k00000000000000000000000000000000000000000000000000000071" ∷
    codes "enacted committee none constitution none hardfork none parameters none" ∷
    codes "param maxBlockBodySize 90112" ∷
    codes "param maxTxSize 16384" ∷
    codes "param maxBlockHeaderSize 1100" ∷
    codes "param maxValueSize 5000" ∷
    codes "param maxTxExUnits 1000 1000" ∷
    codes "param maxBlockExUnits 1000 1000" ∷
    codes "param maxCollateralInputs 3" ∷
    codes "param minFeeA 0" ∷
    codes "param minFeeB 0" ∷
    codes "param keyDeposit 2" ∷
    codes "param poolDeposit 5" ∷
    codes "param rho 0/1" ∷
    codes "param tau 0/1" ∷
    codes "param minPoolCost 0" ∷
    codes "param coinsPerUTxOByte 0" ∷
    codes "param prices 0/1 0/1" ∷
    codes "param minFeeRefScriptCostPerByte 15/1" ∷
    codes "param a0 0/1" ∷
    codes "param eMax 18" ∷
    codes "param nOpt 500" ∷
    codes "param costModels 0000000000000000000000000000000000000000000000000000000000000000" ∷
    codes "param collateralPercentage 150" ∷
    codes "param poolVotingThresholds 0/1 0/1 0/1 0/1 0/1" ∷
    codes "param drepVotingThresholds 67/100 67/100 67/100 67/100 67/100 67/100 67/100 67/100 67/100 67/100" ∷
    codes "param govActionLifetime 2" ∷
    codes "param govActionDeposit 10" ∷
    codes "param drepDeposit 5" ∷
    codes "param drepActivity 20" ∷
    codes "param committeeMinSize 0" ∷
    codes "param committeeMaxTermLength 100" ∷
    codes "drep k00000000000000000000000000000000000000000000000000000030 deposit 5 expiry 20" ∷
    codes "drep k00000000000000000000000000000000000000000000000000000031 deposit 5 expiry 20" ∷
    codes "pool 00000000000000000000000000000000000000000000000000000050 deposit 5 cost 0 pledge 0 margin 0/1 account 1k00000000000000000000000000000000000000000000000000000012 retires never" ∷
    codes "account k00000000000000000000000000000000000000000000000000000010 stake 0 deposit 2 rewards 67 pool none drep k00000000000000000000000000000000000000000000000000000030" ∷
    codes "account k00000000000000000000000000000000000000000000000000000011 stake 0 deposit 2 rewards 33 pool none drep k00000000000000000000000000000000000000000000000000000031" ∷
    codes "account k00000000000000000000000000000000000000000000000000000012 stake 0 deposit 2 rewards 0 pool none drep none" ∷
    codes "output 0000000000000000000000000000000000000000000000000000000000000001#0 1k00000000000000000000000000000000000000000000000000000001 20" ∷
    codes "output 0000000000000000000000000000000000000000000000000000000000000001#1 1k00000000000000000000000000000000000000000000000000000001 20" ∷
    codes "output 0000000000000000000000000000000000000000000000000000000000000001#4 1k00000000000000000000000000000000000000000000000000000001 20" ∷
    codes "output 0000000000000000000000000000000000000000000000000000000000000001#5 1k00000000000000000000000000000000000000000000000000000001 20" ∷
    codes "output 0000000000000000000000000000000000000000000000000000000000000001#6 1k00000000000000000000000000000000000000000000000000000001 20" ∷
    codes "output 0000000000000000000000000000000000000000000000000000000000000001#7 1k00000000000000000000000000000000000000000000000000000001 20" ∷
    codes "output 0000000000000000000000000000000000000000000000000000000000000001#8 1k00000000000000000000000000000000000000000000000000000001 20" ∷
    codes "output 0000000000000000000000000000000000000000000000000000000000000001#9 1k00000000000000000000000000000000000000000000000000000001 20" ∷
    codes "proposal 0000000000000000000000000000000000000000000000000000000000000002#0 NoConfidence deposit 10 return 1k00000000000000000000000000000000000000000000000000000012 expires 2 previous none" ∷
    codes "vote 0000000000000000000000000000000000000000000000000000000000000002#0 drep:k00000000000000000000000000000000000000000000000000000030 yes" ∷
    codes "snapshot mark 00000000000000000000000000000000000000000000000000000050 0" ∷
    codes "snapshot set 00000000000000000000000000000000000000000000000000000050 0" ∷
    codes "snapshot fees 30" ∷
    codes "pending none" ∷
    codes "pots outputs 160 deposits 31 rewards 100 fees 30 donations 0 treasury 100 reserves 579 supply 1000" ∷
    codes "used 0000000000000000000000000000000000000000000000000000000000000001" ∷
    codes "used 0000000000000000000000000000000000000000000000000000000000000002" ∷
    codes "used 0000000000000000000000000000000000000000000000000000000000000003" ∷
    codes "action 0000000000000000000000000000000000000000000000000000000000000002#0 {\"type\":\"NoConfidence\"}" ∷
    codes "frozen treasury 100" ∷
    codes "frozen account k00000000000000000000000000000000000000000000000000000010 stake 0 deposit 2 rewards 67 pool none drep k00000000000000000000000000000000000000000000000000000030" ∷
    codes "frozen account k00000000000000000000000000000000000000000000000000000011 stake 0 deposit 2 rewards 33 pool none drep k00000000000000000000000000000000000000000000000000000031" ∷
    codes "frozen account k00000000000000000000000000000000000000000000000000000012 stake 0 deposit 2 rewards 0 pool none drep none" ∷
    codes "frozen drep k00000000000000000000000000000000000000000000000000000030 expiry 20" ∷
    codes "frozen drep k00000000000000000000000000000000000000000000000000000031 expiry 20" ∷
    codes "frozen hot k00000000000000000000000000000000000000000000000000000070 k00000000000000000000000000000000000000000000000000000071" ∷
    codes "frozen pool 00000000000000000000000000000000000000000000000000000050 account 1k00000000000000000000000000000000000000000000000000000012" ∷
    codes "frozen proposal 0000000000000000000000000000000000000000000000000000000000000002#0" ∷
    codes "frozen vote 0000000000000000000000000000000000000000000000000000000000000002#0 drep:k00000000000000000000000000000000000000000000000000000030 yes" ∷
    codes "end" ∷
    []) ≡ true
unfolding digits encode_with
resume_right_after_a_boundary_shown = refl

pub resume_right_after_a_boundary_sound : IsResumable resume_right_after_a_boundary_world
unfolding digits encode_with
resume_right_after_a_boundary_sound = record { form = refl; time = refl; dormancy = refl; delegations = refl; supply = refl; ids = refl; chains = refl; pending = refl; within = refl; entries = refl; counted = refl; epoch = refl; mark = refl; state = refl; treasury = refl; proposals = refl; short = refl }

abbrev resume_right_after_a_boundary_input : List (ℕ × Reading)
resume_right_after_a_boundary_input =
    (5, Read (records.Rewards (record { epoch = 0; from_reserves = 0; from_fees = 0; to_treasury = 0; rewards = [] }))) ∷
    (6, Read (records.Rewards (record { epoch = 1; from_reserves = 1; from_fees = 0; to_treasury = 1; rewards = [] }))) ∷
    (7, Read (records.Rewards (record { epoch = 1; from_reserves = 1; from_fees = 0; to_treasury = 1; rewards = [] }))) ∷
    (8, Read (records.Block 9 1)) ∷
    (9, Read (records.Block 30 1)) ∷
    (10, Read (records.Block 20 1)) ∷
    (11, Read (records.Block 30 1)) ∷
    []

pub resume_right_after_a_boundary : is_text (Some (text_of_resume resume_right_after_a_boundary_world resume_right_after_a_boundary_input)) (
    codes "5 refused 20 WrongEpoch now 1" ∷
    codes "6 accepted" ∷
    codes "7 refused 21 RewardsAlreadyGiven" ∷
    codes "8 refused 10 SlotNotLater last 10" ∷
    codes "9 refused 11 EpochSkipped now 1" ∷
    codes "10 epoch 2 frozen 3 dormant 1" ∷
    codes "10 stake k00000000000000000000000000000000000000000000000000000030 67" ∷
    codes "10 stake k00000000000000000000000000000000000000000000000000000031 33" ∷
    codes "10 tally 0000000000000000000000000000000000000000000000000000000000000002#0 NoConfidence committee 0/1 need none drep 67/100 need 67/100 pool 0/0 need 0/1 ratified" ∷
    codes "10 removed 0000000000000000000000000000000000000000000000000000000000000002#0 enacted refund 10 1k00000000000000000000000000000000000000000000000000000012" ∷
    codes "10 pots outputs 160 deposits 21 rewards 110 fees 30 donations 0 treasury 101 reserves 578 supply 1000" ∷
    codes "10 block slot 20 epoch 2 counted 1 of 3" ∷
    codes "11 epoch 3 frozen 3 dormant 2" ∷
    codes "11 stake k00000000000000000000000000000000000000000000000000000030 67" ∷
    codes "11 stake k00000000000000000000000000000000000000000000000000000031 33" ∷
    codes "11 pots outputs 160 deposits 21 rewards 110 fees 30 donations 0 treasury 101 reserves 578 supply 1000" ∷
    codes "11 block slot 30 epoch 3 counted 1 of 3" ∷
    []) ≡ true
unfolding digits encode_with
resume_right_after_a_boundary = refl

abbrev resume_of_the_greatest_supply_state : EnactState
resume_of_the_greatest_supply_state = (record { params = base_params; version = (10, 0); committee = (Some (record { threshold = (share 0 1); members = (((key 0x70), 100) ∷ []) })); document = (h32 0x01); script = None; last = (record { committee = None; constitution = None; hardfork = None; parameters = None }); treasury = 100 })

abbrev resume_of_the_greatest_supply_world : World
resume_of_the_greatest_supply_world = (record { ledger = (record { network = 1; epoch_length = 10; supply = 45000000000000000; slot = 0; epoch = 0; dormant = 0; reserves = 44999999999999579; fees = 0; donations = 0; state = resume_of_the_greatest_supply_state; outputs = (((ref 0x01 0), (record { address = (address_with 1 (key 0x01) None); lovelace = 20; assets = [] })) ∷ ((ref 0x01 1), (record { address = (address_with 1 (key 0x01) None); lovelace = 20; assets = [] })) ∷ ((ref 0x01 2), (record { address = (address_with 1 (key 0x01) None); lovelace = 20; assets = [] })) ∷ ((ref 0x01 3), (record { address = (address_with 1 (key 0x01) None); lovelace = 20; assets = [] })) ∷ ((ref 0x01 4), (record { address = (address_with 1 (key 0x01) None); lovelace = 20; assets = [] })) ∷ ((ref 0x01 5), (record { address = (address_with 1 (key 0x01) None); lovelace = 20; assets = [] })) ∷ ((ref 0x01 6), (record { address = (address_with 1 (key 0x01) None); lovelace = 20; assets = [] })) ∷ ((ref 0x01 7), (record { address = (address_with 1 (key 0x01) None); lovelace = 20; assets = [] })) ∷ ((ref 0x01 8), (record { address = (address_with 1 (key 0x01) None); lovelace = 20; assets = [] })) ∷ ((ref 0x01 9), (record { address = (address_with 1 (key 0x01) None); lovelace = 20; assets = [] })) ∷ []); used = ((tx_id 0x01) ∷ []); accounts = (((key 0x10), (record { deposit = 2; rewards = 67; pool = None; drep = (Some (drep.Registered (key 0x30))) })) ∷ ((key 0x11), (record { deposit = 2; rewards = 33; pool = None; drep = (Some (drep.Registered (key 0x31))) })) ∷ ((key 0x12), (record { deposit = 2; rewards = 0; pool = None; drep = None })) ∷ []); pools = (((pool 0x50), (record { deposit = 5; terms = (record { cost = 0; pledge = 0; margin = (share 0 1); account = (account_on 1 (key 0x12)); key = None }); future = None; retires = None })) ∷ []); dreps = (((key 0x30), (record { deposit = 5; expiry = 20 })) ∷ ((key 0x31), (record { deposit = 5; expiry = 20 })) ∷ []); hot = (((key 0x70), (Hot (key 0x71))) ∷ []); proposals = [] }); pending = None; counted = 0; mark = (((pool 0x50), 0) ∷ []); set = []; go = []; noted_fees = 0; frozen = (record { epoch = 0; entries = (((key 0x10), (record { stake = 0; registered = (Some (record { deposit = 2; rewards = 67; pool = None; drep = (Some (drep.Registered (key 0x30))) })) })) ∷ ((key 0x11), (record { stake = 0; registered = (Some (record { deposit = 2; rewards = 33; pool = None; drep = (Some (drep.Registered (key 0x31))) })) })) ∷ ((key 0x12), (record { stake = 0; registered = (Some (record { deposit = 2; rewards = 0; pool = None; drep = None })) })) ∷ []); dreps = (((key 0x30), 20) ∷ ((key 0x31), 20) ∷ []); mark = (((pool 0x50), 0) ∷ []); pool_accounts = (((pool 0x50), (account_on 1 (key 0x12))) ∷ []); hot = (((key 0x70), (Hot (key 0x71))) ∷ []); proposals = []; start = (record resume_of_the_greatest_supply_state { treasury = 100 }) }) })

pub resume_of_the_greatest_supply_shown : is_text (Some (checkpoint_text resume_of_the_greatest_supply_world 1)) (
    codes "checkpoint 1 line 1 network 1 length 10 counted 0" ∷
    codes "now slot 0 epoch 0 version 10.0 dormant 0" ∷
    codes "constitution 0000000000000000000000000000000000000000000000000000000000000001 none" ∷
    codes "committee threshold 0/1" ∷
    codes "member k00000000000000000000000000000000000000000000000000000070 term 100 hot k00000000000000000000000000000000000000000000000000000071" ∷
    codes "enacted committee none constitution none hardfork none parameters none" ∷
    codes "param maxBlockBodySize 90112" ∷
    codes "param maxTxSize 16384" ∷
    codes "param maxBlockHeaderSize 1100" ∷
    codes "param maxValueSize 5000" ∷
    codes "param maxTxExUnits 1000 1000" ∷
    codes "param maxBlockExUnits 1000 1000" ∷
    codes "param maxCollateralInputs 3" ∷
    codes "param minFeeA 0" ∷
    codes "param minFeeB 0" ∷
    codes "param keyDeposit 2" ∷
    codes "param poolDeposit 5" ∷
    codes "param rho 0/1" ∷
    codes "param tau 0/1" ∷
    codes "param minPoolCost 0" ∷
    codes "param coinsPerUTxOByte 0" ∷
    codes "param prices 0/1 0/1" ∷
    codes "param minFeeRefScriptCostPerByte 15/1" ∷
    codes "param a0 0/1" ∷
    codes "param eMax 18" ∷
    codes "param nOpt 500" ∷
    codes "param costModels 0000000000000000000000000000000000000000000000000000000000000000" ∷
    codes "param collateralPercentage 150" ∷
    codes "param poolVotingThresholds 0/1 0/1 0/1 0/1 0/1" ∷
    codes "param drepVotingThresholds 67/100 67/100 67/100 67/100 67/100 67/100 67/100 67/100 67/100 67/100" ∷
    codes "param govActionLifetime 2" ∷
    codes "param govActionDeposit 10" ∷
    codes "param drepDeposit 5" ∷
    codes "param drepActivity 20" ∷
    codes "param committeeMinSize 0" ∷
    codes "param committeeMaxTermLength 100" ∷
    codes "drep k00000000000000000000000000000000000000000000000000000030 deposit 5 expiry 20" ∷
    codes "drep k00000000000000000000000000000000000000000000000000000031 deposit 5 expiry 20" ∷
    codes "pool 00000000000000000000000000000000000000000000000000000050 deposit 5 cost 0 pledge 0 margin 0/1 account 1k00000000000000000000000000000000000000000000000000000012 retires never" ∷
    codes "account k00000000000000000000000000000000000000000000000000000010 stake 0 deposit 2 rewards 67 pool none drep k00000000000000000000000000000000000000000000000000000030" ∷
    codes "account k00000000000000000000000000000000000000000000000000000011 stake 0 deposit 2 rewards 33 pool none drep k00000000000000000000000000000000000000000000000000000031" ∷
    codes "account k00000000000000000000000000000000000000000000000000000012 stake 0 deposit 2 rewards 0 pool none drep none" ∷
    codes "output 0000000000000000000000000000000000000000000000000000000000000001#0 1k00000000000000000000000000000000000000000000000000000001 20" ∷
    codes "output 0000000000000000000000000000000000000000000000000000000000000001#1 1k00000000000000000000000000000000000000000000000000000001 20" ∷
    codes "output 0000000000000000000000000000000000000000000000000000000000000001#2 1k00000000000000000000000000000000000000000000000000000001 20" ∷
    codes "output 0000000000000000000000000000000000000000000000000000000000000001#3 1k00000000000000000000000000000000000000000000000000000001 20" ∷
    codes "output 0000000000000000000000000000000000000000000000000000000000000001#4 1k00000000000000000000000000000000000000000000000000000001 20" ∷
    codes "output 0000000000000000000000000000000000000000000000000000000000000001#5 1k00000000000000000000000000000000000000000000000000000001 20" ∷
    codes "output 0000000000000000000000000000000000000000000000000000000000000001#6 1k00000000000000000000000000000000000000000000000000000001 20" ∷
    codes "output 0000000000000000000000000000000000000000000000000000000000000001#7 1k00000000000000000000000000000000000000000000000000000001 20" ∷
    codes "output 0000000000000000000000000000000000000000000000000000000000000001#8 1k00000000000000000000000000000000000000000000000000000001 20" ∷
    codes "output 0000000000000000000000000000000000000000000000000000000000000001#9 1k00000000000000000000000000000000000000000000000000000001 20" ∷
    codes "snapshot mark 00000000000000000000000000000000000000000000000000000050 0" ∷
    codes "snapshot fees 0" ∷
    codes "pending none" ∷
    codes "pots outputs 200 deposits 21 rewards 100 fees 0 donations 0 treasury 100 reserves 44999999999999579 supply 45000000000000000" ∷
    codes "used 0000000000000000000000000000000000000000000000000000000000000001" ∷
    codes "frozen treasury 100" ∷
    codes "frozen account k00000000000000000000000000000000000000000000000000000010 stake 0 deposit 2 rewards 67 pool none drep k00000000000000000000000000000000000000000000000000000030" ∷
    codes "frozen account k00000000000000000000000000000000000000000000000000000011 stake 0 deposit 2 rewards 33 pool none drep k00000000000000000000000000000000000000000000000000000031" ∷
    codes "frozen account k00000000000000000000000000000000000000000000000000000012 stake 0 deposit 2 rewards 0 pool none drep none" ∷
    codes "frozen drep k00000000000000000000000000000000000000000000000000000030 expiry 20" ∷
    codes "frozen drep k00000000000000000000000000000000000000000000000000000031 expiry 20" ∷
    codes "frozen hot k00000000000000000000000000000000000000000000000000000070 k00000000000000000000000000000000000000000000000000000071" ∷
    codes "frozen pool 00000000000000000000000000000000000000000000000000000050 account 1k00000000000000000000000000000000000000000000000000000012" ∷
    codes "end" ∷
    []) ≡ true
unfolding digits encode_with
resume_of_the_greatest_supply_shown = refl

pub resume_of_the_greatest_supply_sound : IsResumable resume_of_the_greatest_supply_world
unfolding digits encode_with
resume_of_the_greatest_supply_sound = record { form = refl; time = refl; dormancy = refl; delegations = refl; supply = refl; ids = refl; chains = refl; pending = refl; within = refl; entries = refl; counted = refl; epoch = refl; mark = refl; state = refl; treasury = refl; proposals = refl; short = refl }

abbrev resume_of_the_greatest_supply_input : List (ℕ × Reading)
resume_of_the_greatest_supply_input =
    (2, Read (records.Print what.Pots)) ∷
    (3, Read (records.Block 10 1)) ∷
    []

pub resume_of_the_greatest_supply : is_text (Some (text_of_resume resume_of_the_greatest_supply_world resume_of_the_greatest_supply_input)) (
    codes "2 pots outputs 200 deposits 21 rewards 100 fees 0 donations 0 treasury 100 reserves 44999999999999579 supply 45000000000000000" ∷
    codes "3 epoch 1 frozen 3 dormant 1" ∷
    codes "3 stake k00000000000000000000000000000000000000000000000000000030 67" ∷
    codes "3 stake k00000000000000000000000000000000000000000000000000000031 33" ∷
    codes "3 pots outputs 200 deposits 21 rewards 100 fees 0 donations 0 treasury 100 reserves 44999999999999579 supply 45000000000000000" ∷
    codes "3 block slot 10 epoch 1 counted 1 of 3" ∷
    []) ≡ true
unfolding digits encode_with
resume_of_the_greatest_supply = refl
