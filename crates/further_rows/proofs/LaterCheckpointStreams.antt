-- Worked rows of whole streams: checkpoints of ledgers with proposals. Made by tests/made/rows_of, from the streams of these names in tests/streams/further.
use Rattle.std.specs.Prelude.{ℕ, ◌≡◌, List, [], ◌∷◌, Some, None, true, codes, refl}
use Rattle.std.specs.Fmt.{digits}
use Rattle.hex.specs.Hex.{encode_with}
use Rattle.gov_actions.specs.declared.action.Action.TheVariants as actions
use Rattle.gov_actions.specs.declared.action.Vote.TheVariants as vote
use Rattle.gov_ids.specs.declared.Drep.TheVariants as drep
use Rattle.gov_ids.specs.declared.Voter.TheVariants as voter
use Rattle.tx_records.specs.declared.record.Record.TheVariants as records
use Rattle.tx_records.specs.declared.record.What.TheVariants as what
use Rattle.tx_records.specs.declared.cert.Cert.TheVariants as certs
use Rattle.tx_records.specs.declared.record.Reading.{Reading}
use Rattle.tx_records.specs.declared.record.Reading.TheVariants.{Read}
use Rattle.ledger_rows.proofs.Base.{h32, key, script, pool, account_on, address_with, ref, action, share, base_params, no_update, spend, proposing, voting}
use Rattle.checkpoint_model.specs.Resumed.{checkpoint_of_readings}
use Rattle.further_rows.proofs.Texts.{is_text}

abbrev checkpoint_after_enactments_input : List (ℕ × Reading)
checkpoint_after_enactments_input =
    (1, Read (records.Genesis (record { network = 1; slot = 0; epoch_length = 10; version = (10, 4); supply = 1200; reserves = 739; treasury = 100; params = (record base_params { drep_voting_thresholds = ((share 0 1) ∷ (share 0 1) ∷ (share 0 1) ∷ (share 0 1) ∷ (share 0 1) ∷ (share 0 1) ∷ (share 0 1) ∷ (share 0 1) ∷ (share 0 1) ∷ (share 0 1) ∷ []) }); document = (h32 0x01); script = None; committee = (Some (record { threshold = (share 1 1); members = (((key 0x70), 100, (Some (key 0x71))) ∷ ((key 0x72), 1, (Some (key 0x73))) ∷ []) })); outputs = (((ref 0x01 2), (address_with 1 (key 0x01) None), 20, []) ∷ ((ref 0x01 3), (address_with 1 (key 0x01) None), 20, []) ∷ ((ref 0x01 4), (address_with 1 (key 0x01) None), 20, []) ∷ ((ref 0x01 5), (address_with 1 (key 0x01) None), 20, []) ∷ ((ref 0x01 6), (address_with 1 (key 0x01) None), 20, []) ∷ ((ref 0x01 7), (address_with 1 (key 0x01) None), 20, []) ∷ ((ref 0x01 8), (address_with 1 (key 0x01) None), 20, []) ∷ ((ref 0x01 9), (address_with 1 (key 0x01) None), 20, []) ∷ ((ref 0x01 10), (address_with 1 (key 0x01) None), 20, []) ∷ ((ref 0x01 11), (address_with 1 (key 0x01) None), 20, []) ∷ ((ref 0x01 12), (address_with 1 (key 0x01) None), 20, []) ∷ ((ref 0x01 13), (address_with 1 (key 0x01) None), 20, []) ∷ []); accounts = (((key 0x10), 2, 67, None, (Some (drep.Registered (key 0x30)))) ∷ ((key 0x11), 2, 33, None, (Some (drep.Registered (key 0x31)))) ∷ ((key 0x12), 2, 0, None, None) ∷ []); pools = ((record { pool = (pool 0x50); deposit = 5; cost = 0; pledge = 0; margin = (share 0 1); account = (account_on 1 (key 0x12)); key = None }) ∷ []); dreps = (((key 0x30), 5, 20) ∷ ((key 0x31), 5, 20) ∷ []) }))) ∷
    (2, Read (records.Tx (record (spend 0x02 10) { proposals = ((proposing 10 (account_on 1 (key 0x12)) (actions.HardForkInitiation None (11, 0))) ∷ []) }))) ∷
    (3, Read (records.Tx (record (spend 0x03 20) { certs = ((certs.PoolRetire (pool 0x50) 2) ∷ []); votes = ((voting (voter.Committee (key 0x71)) (action 0x02 0) vote.Yes) ∷ (voting (voter.Committee (key 0x73)) (action 0x02 0) vote.Yes) ∷ []) }))) ∷
    (4, Read (records.Block 10 1)) ∷
    (5, Read (records.Block 20 1)) ∷
    (6, Read (records.Tx (record (spend 0x04 10) { proposals = ((proposing 10 (account_on 1 (key 0x12)) (actions.NoConfidence None)) ∷ []) }))) ∷
    (7, Read (records.Rewards (record { epoch = 2; from_reserves = 30; from_fees = 0; to_treasury = 10; rewards = (((key 0x11), 20) ∷ []) }))) ∷
    (8, Read (records.Block 30 1)) ∷
    (9, Read (records.Tx (record (spend 0x05 10) { proposals = ((proposing 10 (account_on 1 (key 0x12)) (actions.NewConstitution None (h32 0x06) None)) ∷ []) }))) ∷
    (10, Read (records.Block 40 2)) ∷
    (11, Read (records.Tx (record (spend 0x06 10) { proposals = ((proposing 10 (account_on 1 (key 0x12)) (actions.UpdateCommittee (Some (action 0x04 0)) [] (((key 0x60), 50) ∷ ((script 0x60), 40) ∷ []) (share 0 7))) ∷ []) }))) ∷
    (12, Read (records.Block 55 1)) ∷
    []

pub checkpoint_after_enactments : is_text (checkpoint_of_readings 12 checkpoint_after_enactments_input) (
    codes "checkpoint 1 line 12 network 1 length 10 counted 1" ∷
    codes "now slot 55 epoch 5 version 11.0 dormant 0" ∷
    codes "constitution 0000000000000000000000000000000000000000000000000000000000000001 none" ∷
    codes "committee none" ∷
    codes "enacted committee 0000000000000000000000000000000000000000000000000000000000000004#0 constitution none hardfork 0000000000000000000000000000000000000000000000000000000000000002#0 parameters none" ∷
    codes "param maxBlockBodySize 90112" ∷
    codes "param maxTxSize 16384" ∷
    codes "param maxBlockHeaderSize 1100" ∷
    codes "param maxValueSize 5000" ∷
    codes "param maxTxExUnits 1000 1000" ∷
    codes "param maxBlockExUnits 1000 1000" ∷
    codes "param maxCollateralInputs 3" ∷
    codes "param minFeeA 0" ∷
    codes "param minFeeB 0" ∷
    codes "param keyDeposit 2" ∷
    codes "param poolDeposit 5" ∷
    codes "param rho 0/1" ∷
    codes "param tau 0/1" ∷
    codes "param minPoolCost 0" ∷
    codes "param coinsPerUTxOByte 0" ∷
    codes "param prices 0/1 0/1" ∷
    codes "param minFeeRefScriptCostPerByte 15/1" ∷
    codes "param a0 0/1" ∷
    codes "param eMax 18" ∷
    codes "param nOpt 500" ∷
    codes "param costModels 0000000000000000000000000000000000000000000000000000000000000000" ∷
    codes "param collateralPercentage 150" ∷
    codes "param poolVotingThresholds 0/1 0/1 0/1 0/1 0/1" ∷
    codes "param drepVotingThresholds 0/1 0/1 0/1 0/1 0/1 0/1 0/1 0/1 0/1 0/1" ∷
    codes "param govActionLifetime 2" ∷
    codes "param govActionDeposit 10" ∷
    codes "param drepDeposit 5" ∷
    codes "param drepActivity 20" ∷
    codes "param committeeMinSize 0" ∷
    codes "param committeeMaxTermLength 100" ∷
    codes "drep k00000000000000000000000000000000000000000000000000000030 deposit 5 expiry 21" ∷
    codes "drep k00000000000000000000000000000000000000000000000000000031 deposit 5 expiry 21" ∷
    codes "account k00000000000000000000000000000000000000000000000000000010 stake 0 deposit 2 rewards 67 pool none drep k00000000000000000000000000000000000000000000000000000030" ∷
    codes "account k00000000000000000000000000000000000000000000000000000011 stake 0 deposit 2 rewards 53 pool none drep k00000000000000000000000000000000000000000000000000000031" ∷
    codes "account k00000000000000000000000000000000000000000000000000000012 stake 0 deposit 2 rewards 25 pool none drep none" ∷
    codes "output 0000000000000000000000000000000000000000000000000000000000000001#7 1k00000000000000000000000000000000000000000000000000000001 20" ∷
    codes "output 0000000000000000000000000000000000000000000000000000000000000001#8 1k00000000000000000000000000000000000000000000000000000001 20" ∷
    codes "output 0000000000000000000000000000000000000000000000000000000000000001#9 1k00000000000000000000000000000000000000000000000000000001 20" ∷
    codes "output 0000000000000000000000000000000000000000000000000000000000000001#10 1k00000000000000000000000000000000000000000000000000000001 20" ∷
    codes "output 0000000000000000000000000000000000000000000000000000000000000001#11 1k00000000000000000000000000000000000000000000000000000001 20" ∷
    codes "output 0000000000000000000000000000000000000000000000000000000000000001#12 1k00000000000000000000000000000000000000000000000000000001 20" ∷
    codes "output 0000000000000000000000000000000000000000000000000000000000000001#13 1k00000000000000000000000000000000000000000000000000000001 20" ∷
    codes "proposal 0000000000000000000000000000000000000000000000000000000000000005#0 NewConstitution deposit 10 return 1k00000000000000000000000000000000000000000000000000000012 expires 5 previous none" ∷
    codes "proposal 0000000000000000000000000000000000000000000000000000000000000006#0 UpdateCommittee deposit 10 return 1k00000000000000000000000000000000000000000000000000000012 expires 6 previous 0000000000000000000000000000000000000000000000000000000000000004#0" ∷
    codes "snapshot fees 60" ∷
    codes "pending none" ∷
    codes "pots outputs 140 deposits 36 rewards 145 fees 60 donations 0 treasury 110 reserves 709 supply 1200" ∷
    codes "used 0000000000000000000000000000000000000000000000000000000000000001" ∷
    codes "used 0000000000000000000000000000000000000000000000000000000000000002" ∷
    codes "used 0000000000000000000000000000000000000000000000000000000000000003" ∷
    codes "used 0000000000000000000000000000000000000000000000000000000000000004" ∷
    codes "used 0000000000000000000000000000000000000000000000000000000000000005" ∷
    codes "used 0000000000000000000000000000000000000000000000000000000000000006" ∷
    codes "action 0000000000000000000000000000000000000000000000000000000000000005#0 {\"type\":\"NewConstitution\",\"document\":\"0000000000000000000000000000000000000000000000000000000000000006\"}" ∷
    codes "action 0000000000000000000000000000000000000000000000000000000000000006#0 {\"type\":\"UpdateCommittee\",\"previous\":\"0000000000000000000000000000000000000000000000000000000000000004#0\",\"remove\":[],\"add\":[[\"k00000000000000000000000000000000000000000000000000000060\",50],[\"s00000000000000000000000000000000000000000000000000000060\",40]],\"threshold\":[0,7]}" ∷
    codes "frozen treasury 110" ∷
    codes "frozen account k00000000000000000000000000000000000000000000000000000010 stake 0 deposit 2 rewards 67 pool none drep k00000000000000000000000000000000000000000000000000000030" ∷
    codes "frozen account k00000000000000000000000000000000000000000000000000000011 stake 0 deposit 2 rewards 53 pool none drep k00000000000000000000000000000000000000000000000000000031" ∷
    codes "frozen account k00000000000000000000000000000000000000000000000000000012 stake 0 deposit 2 rewards 25 pool none drep none" ∷
    codes "frozen drep k00000000000000000000000000000000000000000000000000000030 expiry 21" ∷
    codes "frozen drep k00000000000000000000000000000000000000000000000000000031 expiry 21" ∷
    codes "frozen proposal 0000000000000000000000000000000000000000000000000000000000000005#0" ∷
    codes "frozen proposal 0000000000000000000000000000000000000000000000000000000000000006#0" ∷
    codes "end" ∷
    []) ≡ true
unfolding digits encode_with
checkpoint_after_enactments = refl

abbrev checkpoint_of_a_quiet_ledger_input : List (ℕ × Reading)
checkpoint_of_a_quiet_ledger_input =
    (1, Read (records.Genesis (record { network = 1; slot = 0; epoch_length = 10; version = (10, 4); supply = 1200; reserves = 739; treasury = 100; params = (record base_params { drep_voting_thresholds = ((share 0 1) ∷ (share 0 1) ∷ (share 0 1) ∷ (share 0 1) ∷ (share 0 1) ∷ (share 0 1) ∷ (share 0 1) ∷ (share 0 1) ∷ (share 0 1) ∷ (share 0 1) ∷ []) }); document = (h32 0x01); script = None; committee = (Some (record { threshold = (share 1 1); members = (((key 0x70), 100, (Some (key 0x71))) ∷ ((key 0x72), 1, (Some (key 0x73))) ∷ []) })); outputs = (((ref 0x01 2), (address_with 1 (key 0x01) None), 20, []) ∷ ((ref 0x01 3), (address_with 1 (key 0x01) None), 20, []) ∷ ((ref 0x01 4), (address_with 1 (key 0x01) None), 20, []) ∷ ((ref 0x01 5), (address_with 1 (key 0x01) None), 20, []) ∷ ((ref 0x01 6), (address_with 1 (key 0x01) None), 20, []) ∷ ((ref 0x01 7), (address_with 1 (key 0x01) None), 20, []) ∷ ((ref 0x01 8), (address_with 1 (key 0x01) None), 20, []) ∷ ((ref 0x01 9), (address_with 1 (key 0x01) None), 20, []) ∷ ((ref 0x01 10), (address_with 1 (key 0x01) None), 20, []) ∷ ((ref 0x01 11), (address_with 1 (key 0x01) None), 20, []) ∷ ((ref 0x01 12), (address_with 1 (key 0x01) None), 20, []) ∷ ((ref 0x01 13), (address_with 1 (key 0x01) None), 20, []) ∷ []); accounts = (((key 0x10), 2, 67, None, (Some (drep.Registered (key 0x30)))) ∷ ((key 0x11), 2, 33, None, (Some (drep.Registered (key 0x31)))) ∷ ((key 0x12), 2, 0, None, None) ∷ []); pools = ((record { pool = (pool 0x50); deposit = 5; cost = 0; pledge = 0; margin = (share 0 1); account = (account_on 1 (key 0x12)); key = None }) ∷ []); dreps = (((key 0x30), 5, 20) ∷ ((key 0x31), 5, 20) ∷ []) }))) ∷
    (2, Read (records.Tx (record (spend 0x02 10) { proposals = ((proposing 10 (account_on 1 (key 0x12)) (actions.HardForkInitiation None (11, 0))) ∷ []) }))) ∷
    (3, Read (records.Tx (record (spend 0x03 20) { certs = ((certs.PoolRetire (pool 0x50) 2) ∷ []); votes = ((voting (voter.Committee (key 0x71)) (action 0x02 0) vote.Yes) ∷ (voting (voter.Committee (key 0x73)) (action 0x02 0) vote.Yes) ∷ []) }))) ∷
    (4, Read (records.Block 10 1)) ∷
    (5, Read (records.Block 20 1)) ∷
    (6, Read (records.Tx (record (spend 0x04 10) { proposals = ((proposing 10 (account_on 1 (key 0x12)) (actions.NoConfidence None)) ∷ []) }))) ∷
    (7, Read (records.Rewards (record { epoch = 2; from_reserves = 30; from_fees = 0; to_treasury = 10; rewards = (((key 0x11), 20) ∷ []) }))) ∷
    (8, Read (records.Block 30 1)) ∷
    (9, Read (records.Tx (record (spend 0x05 10) { proposals = ((proposing 10 (account_on 1 (key 0x12)) (actions.NewConstitution None (h32 0x06) None)) ∷ []) }))) ∷
    (10, Read (records.Block 40 2)) ∷
    (11, Read (records.Tx (record (spend 0x06 10) { proposals = ((proposing 10 (account_on 1 (key 0x12)) (actions.UpdateCommittee (Some (action 0x04 0)) [] (((key 0x60), 50) ∷ ((script 0x60), 40) ∷ []) (share 0 7))) ∷ []) }))) ∷
    (12, Read (records.Block 55 1)) ∷
    (13, Read (records.Block 69 1)) ∷
    (14, Read (records.Block 70 1)) ∷
    (15, Read (records.Block 80 1)) ∷
    (16, Read (records.Block 90 1)) ∷
    []

pub checkpoint_of_a_quiet_ledger : is_text (checkpoint_of_readings 16 checkpoint_of_a_quiet_ledger_input) (
    codes "checkpoint 1 line 16 network 1 length 10 counted 1" ∷
    codes "now slot 90 epoch 9 version 11.0 dormant 3" ∷
    codes "constitution 0000000000000000000000000000000000000000000000000000000000000006 none" ∷
    codes "committee threshold 0/7" ∷
    codes "member k00000000000000000000000000000000000000000000000000000060 term 50 hot none" ∷
    codes "member s00000000000000000000000000000000000000000000000000000060 term 40 hot none" ∷
    codes "enacted committee 0000000000000000000000000000000000000000000000000000000000000006#0 constitution 0000000000000000000000000000000000000000000000000000000000000005#0 hardfork 0000000000000000000000000000000000000000000000000000000000000002#0 parameters none" ∷
    codes "param maxBlockBodySize 90112" ∷
    codes "param maxTxSize 16384" ∷
    codes "param maxBlockHeaderSize 1100" ∷
    codes "param maxValueSize 5000" ∷
    codes "param maxTxExUnits 1000 1000" ∷
    codes "param maxBlockExUnits 1000 1000" ∷
    codes "param maxCollateralInputs 3" ∷
    codes "param minFeeA 0" ∷
    codes "param minFeeB 0" ∷
    codes "param keyDeposit 2" ∷
    codes "param poolDeposit 5" ∷
    codes "param rho 0/1" ∷
    codes "param tau 0/1" ∷
    codes "param minPoolCost 0" ∷
    codes "param coinsPerUTxOByte 0" ∷
    codes "param prices 0/1 0/1" ∷
    codes "param minFeeRefScriptCostPerByte 15/1" ∷
    codes "param a0 0/1" ∷
    codes "param eMax 18" ∷
    codes "param nOpt 500" ∷
    codes "param costModels 0000000000000000000000000000000000000000000000000000000000000000" ∷
    codes "param collateralPercentage 150" ∷
    codes "param poolVotingThresholds 0/1 0/1 0/1 0/1 0/1" ∷
    codes "param drepVotingThresholds 0/1 0/1 0/1 0/1 0/1 0/1 0/1 0/1 0/1 0/1" ∷
    codes "param govActionLifetime 2" ∷
    codes "param govActionDeposit 10" ∷
    codes "param drepDeposit 5" ∷
    codes "param drepActivity 20" ∷
    codes "param committeeMinSize 0" ∷
    codes "param committeeMaxTermLength 100" ∷
    codes "drep k00000000000000000000000000000000000000000000000000000030 deposit 5 expiry 21" ∷
    codes "drep k00000000000000000000000000000000000000000000000000000031 deposit 5 expiry 21" ∷
    codes "account k00000000000000000000000000000000000000000000000000000010 stake 0 deposit 2 rewards 67 pool none drep k00000000000000000000000000000000000000000000000000000030" ∷
    codes "account k00000000000000000000000000000000000000000000000000000011 stake 0 deposit 2 rewards 53 pool none drep k00000000000000000000000000000000000000000000000000000031" ∷
    codes "account k00000000000000000000000000000000000000000000000000000012 stake 0 deposit 2 rewards 45 pool none drep none" ∷
    codes "output 0000000000000000000000000000000000000000000000000000000000000001#7 1k00000000000000000000000000000000000000000000000000000001 20" ∷
    codes "output 0000000000000000000000000000000000000000000000000000000000000001#8 1k00000000000000000000000000000000000000000000000000000001 20" ∷
    codes "output 0000000000000000000000000000000000000000000000000000000000000001#9 1k00000000000000000000000000000000000000000000000000000001 20" ∷
    codes "output 0000000000000000000000000000000000000000000000000000000000000001#10 1k00000000000000000000000000000000000000000000000000000001 20" ∷
    codes "output 0000000000000000000000000000000000000000000000000000000000000001#11 1k00000000000000000000000000000000000000000000000000000001 20" ∷
    codes "output 0000000000000000000000000000000000000000000000000000000000000001#12 1k00000000000000000000000000000000000000000000000000000001 20" ∷
    codes "output 0000000000000000000000000000000000000000000000000000000000000001#13 1k00000000000000000000000000000000000000000000000000000001 20" ∷
    codes "snapshot fees 60" ∷
    codes "pending none" ∷
    codes "pots outputs 140 deposits 16 rewards 165 fees 60 donations 0 treasury 110 reserves 709 supply 1200" ∷
    codes "used 0000000000000000000000000000000000000000000000000000000000000001" ∷
    codes "used 0000000000000000000000000000000000000000000000000000000000000002" ∷
    codes "used 0000000000000000000000000000000000000000000000000000000000000003" ∷
    codes "used 0000000000000000000000000000000000000000000000000000000000000004" ∷
    codes "used 0000000000000000000000000000000000000000000000000000000000000005" ∷
    codes "used 0000000000000000000000000000000000000000000000000000000000000006" ∷
    codes "frozen treasury 110" ∷
    codes "frozen account k00000000000000000000000000000000000000000000000000000010 stake 0 deposit 2 rewards 67 pool none drep k00000000000000000000000000000000000000000000000000000030" ∷
    codes "frozen account k00000000000000000000000000000000000000000000000000000011 stake 0 deposit 2 rewards 53 pool none drep k00000000000000000000000000000000000000000000000000000031" ∷
    codes "frozen account k00000000000000000000000000000000000000000000000000000012 stake 0 deposit 2 rewards 45 pool none drep none" ∷
    codes "frozen drep k00000000000000000000000000000000000000000000000000000030 expiry 21" ∷
    codes "frozen drep k00000000000000000000000000000000000000000000000000000031 expiry 21" ∷
    codes "end" ∷
    []) ≡ true
unfolding digits encode_with
checkpoint_of_a_quiet_ledger = refl

abbrev checkpoint_actions_in_full_input : List (ℕ × Reading)
checkpoint_actions_in_full_input =
    (1, Read (records.Genesis (record { network = 1; slot = 0; epoch_length = 10; version = (10, 0); supply = 1000; reserves = 579; treasury = 100; params = (record base_params { gov_action_lifetime = 9 }); document = (h32 0x01); script = None; committee = (Some (record { threshold = (share 0 1); members = (((key 0x70), 100, (Some (key 0x71))) ∷ []) })); outputs = (((ref 0x01 0), (address_with 1 (key 0x01) None), 20, []) ∷ ((ref 0x01 1), (address_with 1 (key 0x01) None), 20, []) ∷ ((ref 0x01 2), (address_with 1 (key 0x01) None), 20, []) ∷ ((ref 0x01 3), (address_with 1 (key 0x01) None), 20, []) ∷ ((ref 0x01 4), (address_with 1 (key 0x01) None), 20, []) ∷ ((ref 0x01 5), (address_with 1 (key 0x01) None), 20, []) ∷ ((ref 0x01 6), (address_with 1 (key 0x01) None), 20, []) ∷ ((ref 0x01 7), (address_with 1 (key 0x01) None), 20, []) ∷ ((ref 0x01 8), (address_with 1 (key 0x01) None), 20, []) ∷ ((ref 0x01 9), (address_with 1 (key 0x01) None), 20, []) ∷ []); accounts = (((key 0x10), 2, 67, None, (Some (drep.Registered (key 0x30)))) ∷ ((key 0x11), 2, 33, None, (Some (drep.Registered (key 0x31)))) ∷ ((key 0x12), 2, 0, None, None) ∷ []); pools = ((record { pool = (pool 0x50); deposit = 5; cost = 0; pledge = 0; margin = (share 0 1); account = (account_on 1 (key 0x12)); key = None }) ∷ []); dreps = (((key 0x30), 5, 20) ∷ ((key 0x31), 5, 20) ∷ []) }))) ∷
    (2, Read (records.Tx (record (spend 0x02 0) { proposals = ((proposing 10 (account_on 1 (key 0x12)) (actions.ParameterChange None (record no_update { max_block_body_size = (Some 1); max_tx_size = (Some 2); max_block_header_size = (Some 3); max_value_size = (Some 4); max_tx_ex_units = (Some (18446744073709551615, 0)); max_block_ex_units = (Some (6, 5)); max_collateral_inputs = (Some 65535); min_fee_a = (Some 8); min_fee_b = (Some 9); key_deposit = (Some 0); pool_deposit = (Some 11); rho = (Some (share 12 13)); tau = (Some (share 0 14)); min_pool_cost = (Some 15); coins_per_utxo_byte = (Some 16); prices = (Some ((share 17 1), (share 0 18))); min_fee_ref_script_cost_per_byte = (Some (share 19 20)); a0 = (Some (share 21 2)); e_max = (Some 4294967295); n_opt = (Some 23); cost_models = (Some (h32 0x24)); collateral_percentage = (Some 25); pool_voting_thresholds = (Some ((share 0 26) ∷ (share 1 26) ∷ (share 2 26) ∷ (share 3 26) ∷ (share 4 26) ∷ [])); drep_voting_thresholds = (Some ((share 0 27) ∷ (share 1 27) ∷ (share 2 27) ∷ (share 3 27) ∷ (share 4 27) ∷ (share 5 27) ∷ (share 6 27) ∷ (share 7 27) ∷ (share 8 27) ∷ (share 9 27) ∷ [])); gov_action_lifetime = (Some 28); gov_action_deposit = (Some 29); drep_deposit = (Some 30); drep_activity = (Some 31); committee_min_size = (Some 32); committee_max_term_length = (Some 33) }) None)) ∷ (proposing 10 (account_on 1 (key 0x12)) (actions.ParameterChange None (record no_update { e_max = (Some 0) }) None)) ∷ []) }))) ∷
    (3, Read (records.Tx (record (spend 0x03 0) { proposals = ((proposing 10 (account_on 1 (key 0x12)) (actions.ParameterChange (Some (action 0x02 1)) (record no_update { rho = (Some (share 2 4)) }) None)) ∷ (proposing 10 (account_on 1 (key 0x12)) (actions.Info)) ∷ []) }))) ∷
    (5, Read (records.Tx (record (spend 0x04 0) { proposals = ((proposing 10 (account_on 1 (key 0x12)) (actions.TreasuryWithdrawals (((account_on 1 (key 0x12)), 0) ∷ ((account_on 1 (key 0x10)), 5) ∷ ((account_on 1 (key 0x11)), 18446744073709551615) ∷ []) None)) ∷ (proposing 10 (account_on 1 (key 0x12)) (actions.NewConstitution None (0xAB ∷ 0xAB ∷ 0xAB ∷ 0xAB ∷ 0xAB ∷ 0xAB ∷ 0xAB ∷ 0xAB ∷ 0xAB ∷ 0xAB ∷ 0xAB ∷ 0xAB ∷ 0xAB ∷ 0xAB ∷ 0xAB ∷ 0xAB ∷ 0xAB ∷ 0xAB ∷ 0xAB ∷ 0xAB ∷ 0xAB ∷ 0xAB ∷ 0xAB ∷ 0xAB ∷ 0xAB ∷ 0xAB ∷ 0xAB ∷ 0xAB ∷ 0xAB ∷ 0xAB ∷ 0xAB ∷ 0xAB ∷ []) (Some (0xCd ∷ 0xCd ∷ 0xCd ∷ 0xCd ∷ 0xCd ∷ 0xCd ∷ 0xCd ∷ 0xCd ∷ 0xCd ∷ 0xCd ∷ 0xCd ∷ 0xCd ∷ 0xCd ∷ 0xCd ∷ 0xCd ∷ 0xCd ∷ 0xCd ∷ 0xCd ∷ 0xCd ∷ 0xCd ∷ 0xCd ∷ 0xCd ∷ 0xCd ∷ 0xCd ∷ 0xCd ∷ 0xCd ∷ 0xCd ∷ 0xCd ∷ [])))) ∷ []) }))) ∷
    (6, Read (records.Tx (record (spend 0x05 0) { proposals = ((proposing 10 (account_on 1 (key 0x12)) (actions.UpdateCommittee None ((script 0x02) ∷ (key 0x02) ∷ (key 0x01) ∷ []) (((script 0x09), 4611686018427387903) ∷ ((key 0x09), 1) ∷ []) (share 3 6))) ∷ (proposing 10 (account_on 1 (key 0x12)) (actions.UpdateCommittee None [] [] (share 0 1))) ∷ []) }))) ∷
    (7, Read (records.Tx (record (spend 0x06 0) { proposals = ((proposing 10 (account_on 1 (key 0x12)) (actions.HardForkInitiation None (11, 0))) ∷ (proposing 10 (account_on 1 (key 0x12)) (actions.NoConfidence None)) ∷ []) }))) ∷
    (8, Read (records.Tx (record (spend 0x07 0) { proposals = ((proposing 10 (account_on 1 (key 0x12)) (actions.HardForkInitiation (Some (action 0x06 0)) (11, 1))) ∷ (proposing 10 (account_on 1 (key 0x12)) (actions.UpdateCommittee (Some (action 0x05 1)) [] [] (share 1 1))) ∷ []) }))) ∷
    []

pub checkpoint_actions_in_full : is_text (checkpoint_of_readings 8 checkpoint_actions_in_full_input) (
    codes "checkpoint 1 line 8 network 1 length 10 counted 0" ∷
    codes "now slot 0 epoch 0 version 10.0 dormant 0" ∷
    codes "constitution 0000000000000000000000000000000000000000000000000000000000000001 none" ∷
    codes "committee threshold 0/1" ∷
    codes "member k00000000000000000000000000000000000000000000000000000070 term 100 hot k00000000000000000000000000000000000000000000000000000071" ∷
    codes "enacted committee none constitution none hardfork none parameters none" ∷
    codes "param maxBlockBodySize 90112" ∷
    codes "param maxTxSize 16384" ∷
    codes "param maxBlockHeaderSize 1100" ∷
    codes "param maxValueSize 5000" ∷
    codes "param maxTxExUnits 1000 1000" ∷
    codes "param maxBlockExUnits 1000 1000" ∷
    codes "param maxCollateralInputs 3" ∷
    codes "param minFeeA 0" ∷
    codes "param minFeeB 0" ∷
    codes "param keyDeposit 2" ∷
    codes "param poolDeposit 5" ∷
    codes "param rho 0/1" ∷
    codes "param tau 0/1" ∷
    codes "param minPoolCost 0" ∷
    codes "param coinsPerUTxOByte 0" ∷
    codes "param prices 0/1 0/1" ∷
    codes "param minFeeRefScriptCostPerByte 15/1" ∷
    codes "param a0 0/1" ∷
    codes "param eMax 18" ∷
    codes "param nOpt 500" ∷
    codes "param costModels 0000000000000000000000000000000000000000000000000000000000000000" ∷
    codes "param collateralPercentage 150" ∷
    codes "param poolVotingThresholds 0/1 0/1 0/1 0/1 0/1" ∷
    codes "param drepVotingThresholds 67/100 67/100 67/100 67/100 67/100 67/100 67/100 67/100 67/100 67/100" ∷
    codes "param govActionLifetime 9" ∷
    codes "param govActionDeposit 10" ∷
    codes "param drepDeposit 5" ∷
    codes "param drepActivity 20" ∷
    codes "param committeeMinSize 0" ∷
    codes "param committeeMaxTermLength 100" ∷
    codes "drep k00000000000000000000000000000000000000000000000000000030 deposit 5 expiry 20" ∷
    codes "drep k00000000000000000000000000000000000000000000000000000031 deposit 5 expiry 20" ∷
    codes "pool 00000000000000000000000000000000000000000000000000000050 deposit 5 cost 0 pledge 0 margin 0/1 account 1k00000000000000000000000000000000000000000000000000000012 retires never" ∷
    codes "account k00000000000000000000000000000000000000000000000000000010 stake 0 deposit 2 rewards 67 pool none drep k00000000000000000000000000000000000000000000000000000030" ∷
    codes "account k00000000000000000000000000000000000000000000000000000011 stake 0 deposit 2 rewards 33 pool none drep k00000000000000000000000000000000000000000000000000000031" ∷
    codes "account k00000000000000000000000000000000000000000000000000000012 stake 0 deposit 2 rewards 0 pool none drep none" ∷
    codes "output 0000000000000000000000000000000000000000000000000000000000000001#0 1k00000000000000000000000000000000000000000000000000000001 20" ∷
    codes "output 0000000000000000000000000000000000000000000000000000000000000001#1 1k00000000000000000000000000000000000000000000000000000001 20" ∷
    codes "output 0000000000000000000000000000000000000000000000000000000000000001#8 1k00000000000000000000000000000000000000000000000000000001 20" ∷
    codes "output 0000000000000000000000000000000000000000000000000000000000000001#9 1k00000000000000000000000000000000000000000000000000000001 20" ∷
    codes "proposal 0000000000000000000000000000000000000000000000000000000000000002#0 ParameterChange deposit 10 return 1k00000000000000000000000000000000000000000000000000000012 expires 9 previous none" ∷
    codes "proposal 0000000000000000000000000000000000000000000000000000000000000002#1 ParameterChange deposit 10 return 1k00000000000000000000000000000000000000000000000000000012 expires 9 previous none" ∷
    codes "proposal 0000000000000000000000000000000000000000000000000000000000000003#0 ParameterChange deposit 10 return 1k00000000000000000000000000000000000000000000000000000012 expires 9 previous 0000000000000000000000000000000000000000000000000000000000000002#1" ∷
    codes "proposal 0000000000000000000000000000000000000000000000000000000000000003#1 Info deposit 10 return 1k00000000000000000000000000000000000000000000000000000012 expires 9 previous none" ∷
    codes "proposal 0000000000000000000000000000000000000000000000000000000000000004#0 TreasuryWithdrawals deposit 10 return 1k00000000000000000000000000000000000000000000000000000012 expires 9 previous none" ∷
    codes "proposal 0000000000000000000000000000000000000000000000000000000000000004#1 NewConstitution deposit 10 return 1k00000000000000000000000000000000000000000000000000000012 expires 9 previous none" ∷
    codes "proposal 0000000000000000000000000000000000000000000000000000000000000005#0 UpdateCommittee deposit 10 return 1k00000000000000000000000000000000000000000000000000000012 expires 9 previous none" ∷
    codes "proposal 0000000000000000000000000000000000000000000000000000000000000005#1 UpdateCommittee deposit 10 return 1k00000000000000000000000000000000000000000000000000000012 expires 9 previous none" ∷
    codes "proposal 0000000000000000000000000000000000000000000000000000000000000006#0 HardForkInitiation deposit 10 return 1k00000000000000000000000000000000000000000000000000000012 expires 9 previous none" ∷
    codes "proposal 0000000000000000000000000000000000000000000000000000000000000006#1 NoConfidence deposit 10 return 1k00000000000000000000000000000000000000000000000000000012 expires 9 previous none" ∷
    codes "proposal 0000000000000000000000000000000000000000000000000000000000000007#0 HardForkInitiation deposit 10 return 1k00000000000000000000000000000000000000000000000000000012 expires 9 previous 0000000000000000000000000000000000000000000000000000000000000006#0" ∷
    codes "proposal 0000000000000000000000000000000000000000000000000000000000000007#1 UpdateCommittee deposit 10 return 1k00000000000000000000000000000000000000000000000000000012 expires 9 previous 0000000000000000000000000000000000000000000000000000000000000005#1" ∷
    codes "snapshot mark 00000000000000000000000000000000000000000000000000000050 0" ∷
    codes "snapshot fees 0" ∷
    codes "pending none" ∷
    codes "pots outputs 80 deposits 141 rewards 100 fees 0 donations 0 treasury 100 reserves 579 supply 1000" ∷
    codes "used 0000000000000000000000000000000000000000000000000000000000000001" ∷
    codes "used 0000000000000000000000000000000000000000000000000000000000000002" ∷
    codes "used 0000000000000000000000000000000000000000000000000000000000000003" ∷
    codes "used 0000000000000000000000000000000000000000000000000000000000000004" ∷
    codes "used 0000000000000000000000000000000000000000000000000000000000000005" ∷
    codes "used 0000000000000000000000000000000000000000000000000000000000000006" ∷
    codes "used 0000000000000000000000000000000000000000000000000000000000000007" ∷
    codes "action 0000000000000000000000000000000000000000000000000000000000000002#0 {\"type\":\"ParameterChange\",\"update\":{\"maxBlockBodySize\":1,\"maxTxSize\":2,\"maxBlockHeaderSize\":3,\"maxValueSize\":4,\"maxTxExUnits\":[18446744073709551615,0],\"maxBlockExUnits\":[6,5],\"maxCollateralInputs\":65535,\"minFeeA\":8,\"minFeeB\":9,\"keyDeposit\":0,\"poolDeposit\":11,\"rho\":[12,13],\"tau\":[0,14],\"minPoolCost\":15,\"coinsPerUTxOByte\":16,\"prices\":[[17,1],[0,18]],\"minFeeRefScriptCostPerByte\":[19,20],\"a0\":[21,2],\"eMax\":4294967295,\"nOpt\":23,\"costModels\":\"0000000000000000000000000000000000000000000000000000000000000024\",\"collateralPercentage\":25,\"poolVotingThresholds\":[[0,26],[1,26],[2,26],[3,26],[4,26]],\"drepVotingThresholds\":[[0,27],[1,27],[2,27],[3,27],[4,27],[5,27],[6,27],[7,27],[8,27],[9,27]],\"govActionLifetime\":28,\"govActionDeposit\":29,\"drepDeposit\":30,\"drepActivity\":31,\"committeeMinSize\":32,\"committeeMaxTermLength\":33}}" ∷
    codes "action 0000000000000000000000000000000000000000000000000000000000000002#1 {\"type\":\"ParameterChange\",\"update\":{\"eMax\":0}}" ∷
    codes "action 0000000000000000000000000000000000000000000000000000000000000003#0 {\"type\":\"ParameterChange\",\"previous\":\"0000000000000000000000000000000000000000000000000000000000000002#1\",\"update\":{\"rho\":[2,4]}}" ∷
    codes "action 0000000000000000000000000000000000000000000000000000000000000003#1 {\"type\":\"Info\"}" ∷
    codes "action 0000000000000000000000000000000000000000000000000000000000000004#0 {\"type\":\"TreasuryWithdrawals\",\"targets\":[[\"1k00000000000000000000000000000000000000000000000000000012\",0],[\"1k00000000000000000000000000000000000000000000000000000010\",5],[\"1k00000000000000000000000000000000000000000000000000000011\",18446744073709551615]]}" ∷
    codes "action 0000000000000000000000000000000000000000000000000000000000000004#1 {\"type\":\"NewConstitution\",\"document\":\"abababababababababababababababababababababababababababababababab\",\"script\":\"cdcdcdcdcdcdcdcdcdcdcdcdcdcdcdcdcdcdcdcdcdcdcdcdcdcdcdcd\"}" ∷
    codes "action 0000000000000000000000000000000000000000000000000000000000000005#0 {\"type\":\"UpdateCommittee\",\"remove\":[\"s00000000000000000000000000000000000000000000000000000002\",\"k00000000000000000000000000000000000000000000000000000002\",\"k00000000000000000000000000000000000000000000000000000001\"],\"add\":[[\"s00000000000000000000000000000000000000000000000000000009\",4611686018427387903],[\"k00000000000000000000000000000000000000000000000000000009\",1]],\"threshold\":[3,6]}" ∷
    codes "action 0000000000000000000000000000000000000000000000000000000000000005#1 {\"type\":\"UpdateCommittee\",\"remove\":[],\"add\":[],\"threshold\":[0,1]}" ∷
    codes "action 0000000000000000000000000000000000000000000000000000000000000006#0 {\"type\":\"HardForkInitiation\",\"version\":[11,0]}" ∷
    codes "action 0000000000000000000000000000000000000000000000000000000000000006#1 {\"type\":\"NoConfidence\"}" ∷
    codes "action 0000000000000000000000000000000000000000000000000000000000000007#0 {\"type\":\"HardForkInitiation\",\"previous\":\"0000000000000000000000000000000000000000000000000000000000000006#0\",\"version\":[11,1]}" ∷
    codes "action 0000000000000000000000000000000000000000000000000000000000000007#1 {\"type\":\"UpdateCommittee\",\"previous\":\"0000000000000000000000000000000000000000000000000000000000000005#1\",\"remove\":[],\"add\":[],\"threshold\":[1,1]}" ∷
    codes "frozen treasury 100" ∷
    codes "frozen account k00000000000000000000000000000000000000000000000000000010 stake 0 deposit 2 rewards 67 pool none drep k00000000000000000000000000000000000000000000000000000030" ∷
    codes "frozen account k00000000000000000000000000000000000000000000000000000011 stake 0 deposit 2 rewards 33 pool none drep k00000000000000000000000000000000000000000000000000000031" ∷
    codes "frozen account k00000000000000000000000000000000000000000000000000000012 stake 0 deposit 2 rewards 0 pool none drep none" ∷
    codes "frozen drep k00000000000000000000000000000000000000000000000000000030 expiry 20" ∷
    codes "frozen drep k00000000000000000000000000000000000000000000000000000031 expiry 20" ∷
    codes "frozen hot k00000000000000000000000000000000000000000000000000000070 k00000000000000000000000000000000000000000000000000000071" ∷
    codes "frozen pool 00000000000000000000000000000000000000000000000000000050 account 1k00000000000000000000000000000000000000000000000000000012" ∷
    codes "end" ∷
    []) ≡ true
unfolding digits encode_with
checkpoint_actions_in_full = refl

abbrev hot_keys_replaced_and_shared_checkpoint_6_input : List (ℕ × Reading)
hot_keys_replaced_and_shared_checkpoint_6_input =
    (1, Read (records.Genesis (record { network = 1; slot = 0; epoch_length = 10; version = (10, 0); supply = 1000; reserves = 499; treasury = 100; params = (record base_params { drep_voting_thresholds = ((share 0 1) ∷ (share 0 1) ∷ (share 0 1) ∷ (share 0 1) ∷ (share 0 1) ∷ (share 0 1) ∷ (share 0 1) ∷ (share 0 1) ∷ (share 0 1) ∷ (share 0 1) ∷ []) }); document = (h32 0x01); script = None; committee = (Some (record { threshold = (share 1 2); members = (((key 0x70), 100, (Some (key 0x71))) ∷ ((key 0x72), 100, None) ∷ ((script 0x70), 100, (Some (key 0x73))) ∷ []) })); outputs = (((ref 0x01 2), (address_with 1 (key 0x01) None), 40, []) ∷ ((ref 0x01 3), (address_with 1 (key 0x01) None), 40, []) ∷ ((ref 0x01 4), (address_with 1 (key 0x01) None), 40, []) ∷ ((ref 0x01 5), (address_with 1 (key 0x01) None), 40, []) ∷ ((ref 0x01 6), (address_with 1 (key 0x01) None), 40, []) ∷ ((ref 0x01 7), (address_with 1 (key 0x01) None), 40, []) ∷ ((ref 0x01 8), (address_with 1 (key 0x01) None), 40, []) ∷ []); accounts = (((key 0x10), 2, 67, None, (Some (drep.Registered (key 0x30)))) ∷ ((key 0x11), 2, 33, None, (Some (drep.Registered (key 0x31)))) ∷ ((key 0x12), 2, 0, None, None) ∷ []); pools = ((record { pool = (pool 0x50); deposit = 5; cost = 0; pledge = 0; margin = (share 0 1); account = (account_on 1 (key 0x12)); key = None }) ∷ []); dreps = (((key 0x30), 5, 20) ∷ ((key 0x31), 5, 20) ∷ []) }))) ∷
    (2, Read (records.Tx (record (spend 0x02 30) { certs = ((certs.HotAuth (key 0x70) (script 0x75)) ∷ (certs.HotAuth (key 0x72) (script 0x75)) ∷ []); proposals = ((proposing 10 (account_on 1 (key 0x12)) (actions.UpdateCommittee None ((script 0x70) ∷ []) (((key 0x60), 50) ∷ []) (share 1 3))) ∷ []) }))) ∷
    (3, Read (records.Tx (record (spend 0x03 30) { certs = ((certs.HotAuth (key 0x60) (key 0x61)) ∷ []); proposals = ((proposing 10 (account_on 1 (key 0x12)) (actions.HardForkInitiation None (10, 1))) ∷ []) }))) ∷
    (4, Read (records.Tx (record (spend 0x04 40) { votes = ((voting (voter.Committee (script 0x75)) (action 0x03 0) vote.Yes) ∷ (voting (voter.Committee (key 0x73)) (action 0x03 0) vote.No) ∷ []) }))) ∷
    (5, Read (records.Tx (record (spend 0x05 0) { votes = ((voting (voter.Committee (key 0x71)) (action 0x03 0) vote.Yes) ∷ []) }))) ∷
    (6, Read (records.Print what.State)) ∷
    []

pub hot_keys_replaced_and_shared_checkpoint_6 : is_text (checkpoint_of_readings 6 hot_keys_replaced_and_shared_checkpoint_6_input) (
    codes "checkpoint 1 line 6 network 1 length 10 counted 0" ∷
    codes "now slot 0 epoch 0 version 10.0 dormant 0" ∷
    codes "constitution 0000000000000000000000000000000000000000000000000000000000000001 none" ∷
    codes "committee threshold 1/2" ∷
    codes "member k00000000000000000000000000000000000000000000000000000070 term 100 hot s00000000000000000000000000000000000000000000000000000075" ∷
    codes "member s00000000000000000000000000000000000000000000000000000070 term 100 hot k00000000000000000000000000000000000000000000000000000073" ∷
    codes "member k00000000000000000000000000000000000000000000000000000072 term 100 hot s00000000000000000000000000000000000000000000000000000075" ∷
    codes "hot k00000000000000000000000000000000000000000000000000000060 k00000000000000000000000000000000000000000000000000000061" ∷
    codes "enacted committee none constitution none hardfork none parameters none" ∷
    codes "param maxBlockBodySize 90112" ∷
    codes "param maxTxSize 16384" ∷
    codes "param maxBlockHeaderSize 1100" ∷
    codes "param maxValueSize 5000" ∷
    codes "param maxTxExUnits 1000 1000" ∷
    codes "param maxBlockExUnits 1000 1000" ∷
    codes "param maxCollateralInputs 3" ∷
    codes "param minFeeA 0" ∷
    codes "param minFeeB 0" ∷
    codes "param keyDeposit 2" ∷
    codes "param poolDeposit 5" ∷
    codes "param rho 0/1" ∷
    codes "param tau 0/1" ∷
    codes "param minPoolCost 0" ∷
    codes "param coinsPerUTxOByte 0" ∷
    codes "param prices 0/1 0/1" ∷
    codes "param minFeeRefScriptCostPerByte 15/1" ∷
    codes "param a0 0/1" ∷
    codes "param eMax 18" ∷
    codes "param nOpt 500" ∷
    codes "param costModels 0000000000000000000000000000000000000000000000000000000000000000" ∷
    codes "param collateralPercentage 150" ∷
    codes "param poolVotingThresholds 0/1 0/1 0/1 0/1 0/1" ∷
    codes "param drepVotingThresholds 0/1 0/1 0/1 0/1 0/1 0/1 0/1 0/1 0/1 0/1" ∷
    codes "param govActionLifetime 2" ∷
    codes "param govActionDeposit 10" ∷
    codes "param drepDeposit 5" ∷
    codes "param drepActivity 20" ∷
    codes "param committeeMinSize 0" ∷
    codes "param committeeMaxTermLength 100" ∷
    codes "drep k00000000000000000000000000000000000000000000000000000030 deposit 5 expiry 20" ∷
    codes "drep k00000000000000000000000000000000000000000000000000000031 deposit 5 expiry 20" ∷
    codes "pool 00000000000000000000000000000000000000000000000000000050 deposit 5 cost 0 pledge 0 margin 0/1 account 1k00000000000000000000000000000000000000000000000000000012 retires never" ∷
    codes "account k00000000000000000000000000000000000000000000000000000010 stake 0 deposit 2 rewards 67 pool none drep k00000000000000000000000000000000000000000000000000000030" ∷
    codes "account k00000000000000000000000000000000000000000000000000000011 stake 0 deposit 2 rewards 33 pool none drep k00000000000000000000000000000000000000000000000000000031" ∷
    codes "account k00000000000000000000000000000000000000000000000000000012 stake 0 deposit 2 rewards 0 pool none drep none" ∷
    codes "output 0000000000000000000000000000000000000000000000000000000000000001#5 1k00000000000000000000000000000000000000000000000000000001 40" ∷
    codes "output 0000000000000000000000000000000000000000000000000000000000000001#6 1k00000000000000000000000000000000000000000000000000000001 40" ∷
    codes "output 0000000000000000000000000000000000000000000000000000000000000001#7 1k00000000000000000000000000000000000000000000000000000001 40" ∷
    codes "output 0000000000000000000000000000000000000000000000000000000000000001#8 1k00000000000000000000000000000000000000000000000000000001 40" ∷
    codes "proposal 0000000000000000000000000000000000000000000000000000000000000002#0 UpdateCommittee deposit 10 return 1k00000000000000000000000000000000000000000000000000000012 expires 2 previous none" ∷
    codes "proposal 0000000000000000000000000000000000000000000000000000000000000003#0 HardForkInitiation deposit 10 return 1k00000000000000000000000000000000000000000000000000000012 expires 2 previous none" ∷
    codes "vote 0000000000000000000000000000000000000000000000000000000000000003#0 committee:k00000000000000000000000000000000000000000000000000000073 no" ∷
    codes "vote 0000000000000000000000000000000000000000000000000000000000000003#0 committee:s00000000000000000000000000000000000000000000000000000075 yes" ∷
    codes "snapshot mark 00000000000000000000000000000000000000000000000000000050 0" ∷
    codes "snapshot fees 0" ∷
    codes "pending none" ∷
    codes "pots outputs 160 deposits 41 rewards 100 fees 100 donations 0 treasury 100 reserves 499 supply 1000" ∷
    codes "used 0000000000000000000000000000000000000000000000000000000000000001" ∷
    codes "used 0000000000000000000000000000000000000000000000000000000000000002" ∷
    codes "used 0000000000000000000000000000000000000000000000000000000000000003" ∷
    codes "used 0000000000000000000000000000000000000000000000000000000000000004" ∷
    codes "action 0000000000000000000000000000000000000000000000000000000000000002#0 {\"type\":\"UpdateCommittee\",\"remove\":[\"s00000000000000000000000000000000000000000000000000000070\"],\"add\":[[\"k00000000000000000000000000000000000000000000000000000060\",50]],\"threshold\":[1,3]}" ∷
    codes "action 0000000000000000000000000000000000000000000000000000000000000003#0 {\"type\":\"HardForkInitiation\",\"version\":[10,1]}" ∷
    codes "frozen treasury 100" ∷
    codes "frozen account k00000000000000000000000000000000000000000000000000000010 stake 0 deposit 2 rewards 67 pool none drep k00000000000000000000000000000000000000000000000000000030" ∷
    codes "frozen account k00000000000000000000000000000000000000000000000000000011 stake 0 deposit 2 rewards 33 pool none drep k00000000000000000000000000000000000000000000000000000031" ∷
    codes "frozen account k00000000000000000000000000000000000000000000000000000012 stake 0 deposit 2 rewards 0 pool none drep none" ∷
    codes "frozen drep k00000000000000000000000000000000000000000000000000000030 expiry 20" ∷
    codes "frozen drep k00000000000000000000000000000000000000000000000000000031 expiry 20" ∷
    codes "frozen hot k00000000000000000000000000000000000000000000000000000070 k00000000000000000000000000000000000000000000000000000071" ∷
    codes "frozen hot s00000000000000000000000000000000000000000000000000000070 k00000000000000000000000000000000000000000000000000000073" ∷
    codes "frozen pool 00000000000000000000000000000000000000000000000000000050 account 1k00000000000000000000000000000000000000000000000000000012" ∷
    codes "end" ∷
    []) ≡ true
unfolding digits encode_with
hot_keys_replaced_and_shared_checkpoint_6 = refl

abbrev stake_of_those_that_left_checkpoint_9_input : List (ℕ × Reading)
stake_of_those_that_left_checkpoint_9_input =
    (1, Read (records.Genesis (record { network = 1; slot = 0; epoch_length = 10; version = (10, 0); supply = 1000; reserves = 537; treasury = 100; params = (record base_params { gov_action_lifetime = 4 }); document = (h32 0x01); script = None; committee = (Some (record { threshold = (share 0 1); members = (((key 0x70), 100, (Some (key 0x71))) ∷ []) })); outputs = (((ref 0x01 2), (address_with 1 (key 0x01) None), 60, []) ∷ ((ref 0x01 3), (address_with 1 (key 0x01) None), 60, []) ∷ ((ref 0x01 4), (address_with 1 (key 0x01) None), 60, []) ∷ ((ref 0x01 5), (address_with 1 (key 0x01) None), 60, []) ∷ ((ref 0x01 6), (address_with 1 (key 0x01) None), 60, []) ∷ ((ref 0x01 20), (address_with 1 (key 0x01) (Some (key 0x10))), 8, []) ∷ ((ref 0x01 21), (address_with 1 (key 0x01) (Some (key 0x15))), 0, []) ∷ ((ref 0x01 22), (address_with 1 (key 0x01) (Some (key 0x16))), 1, []) ∷ []); accounts = (((key 0x10), 2, 0, (Some (pool 0x50)), (Some (drep.Registered (key 0x30)))) ∷ ((key 0x11), 2, 33, (Some (pool 0x50)), (Some (drep.Registered (key 0x31)))) ∷ ((key 0x12), 2, 0, None, None) ∷ []); pools = ((record { pool = (pool 0x50); deposit = 5; cost = 0; pledge = 0; margin = (share 0 1); account = (account_on 1 (key 0x12)); key = None }) ∷ []); dreps = (((key 0x30), 5, 20) ∷ ((key 0x31), 5, 20) ∷ []) }))) ∷
    (2, Read (records.Tx (record (spend 0x02 50) { proposals = ((proposing 10 (account_on 1 (key 0x10)) (actions.NoConfidence None)) ∷ []) }))) ∷
    (3, Read (records.Block 10 9)) ∷
    (4, Read (records.Print what.State)) ∷
    (5, Read (records.Tx (record (spend 0x03 62) { certs = ((certs.AccountUnreg (key 0x10) None) ∷ []) }))) ∷
    (6, Read (records.Block 20 9)) ∷
    (7, Read (records.Print what.State)) ∷
    (8, Read (records.Block 30 1)) ∷
    (9, Read (records.Tx (record (spend 0x04 60) { votes = ((voting (voter.Drep (key 0x31)) (action 0x02 0) vote.Yes) ∷ []) }))) ∷
    []

pub stake_of_those_that_left_checkpoint_9 : is_text (checkpoint_of_readings 9 stake_of_those_that_left_checkpoint_9_input) (
    codes "checkpoint 1 line 9 network 1 length 10 counted 1" ∷
    codes "now slot 30 epoch 3 version 10.0 dormant 0" ∷
    codes "constitution 0000000000000000000000000000000000000000000000000000000000000001 none" ∷
    codes "committee threshold 0/1" ∷
    codes "member k00000000000000000000000000000000000000000000000000000070 term 100 hot k00000000000000000000000000000000000000000000000000000071" ∷
    codes "enacted committee none constitution none hardfork none parameters none" ∷
    codes "param maxBlockBodySize 90112" ∷
    codes "param maxTxSize 16384" ∷
    codes "param maxBlockHeaderSize 1100" ∷
    codes "param maxValueSize 5000" ∷
    codes "param maxTxExUnits 1000 1000" ∷
    codes "param maxBlockExUnits 1000 1000" ∷
    codes "param maxCollateralInputs 3" ∷
    codes "param minFeeA 0" ∷
    codes "param minFeeB 0" ∷
    codes "param keyDeposit 2" ∷
    codes "param poolDeposit 5" ∷
    codes "param rho 0/1" ∷
    codes "param tau 0/1" ∷
    codes "param minPoolCost 0" ∷
    codes "param coinsPerUTxOByte 0" ∷
    codes "param prices 0/1 0/1" ∷
    codes "param minFeeRefScriptCostPerByte 15/1" ∷
    codes "param a0 0/1" ∷
    codes "param eMax 18" ∷
    codes "param nOpt 500" ∷
    codes "param costModels 0000000000000000000000000000000000000000000000000000000000000000" ∷
    codes "param collateralPercentage 150" ∷
    codes "param poolVotingThresholds 0/1 0/1 0/1 0/1 0/1" ∷
    codes "param drepVotingThresholds 67/100 67/100 67/100 67/100 67/100 67/100 67/100 67/100 67/100 67/100" ∷
    codes "param govActionLifetime 4" ∷
    codes "param govActionDeposit 10" ∷
    codes "param drepDeposit 5" ∷
    codes "param drepActivity 20" ∷
    codes "param committeeMinSize 0" ∷
    codes "param committeeMaxTermLength 100" ∷
    codes "drep k00000000000000000000000000000000000000000000000000000030 deposit 5 expiry 20" ∷
    codes "drep k00000000000000000000000000000000000000000000000000000031 deposit 5 expiry 23" ∷
    codes "pool 00000000000000000000000000000000000000000000000000000050 deposit 5 cost 0 pledge 0 margin 0/1 account 1k00000000000000000000000000000000000000000000000000000012 retires never" ∷
    codes "account k00000000000000000000000000000000000000000000000000000010 stake 8 unregistered" ∷
    codes "account k00000000000000000000000000000000000000000000000000000011 stake 0 deposit 2 rewards 33 pool 00000000000000000000000000000000000000000000000000000050 drep k00000000000000000000000000000000000000000000000000000031" ∷
    codes "account k00000000000000000000000000000000000000000000000000000012 stake 0 deposit 2 rewards 0 pool none drep none" ∷
    codes "account k00000000000000000000000000000000000000000000000000000016 stake 1 unregistered" ∷
    codes "output 0000000000000000000000000000000000000000000000000000000000000001#5 1k00000000000000000000000000000000000000000000000000000001 60" ∷
    codes "output 0000000000000000000000000000000000000000000000000000000000000001#6 1k00000000000000000000000000000000000000000000000000000001 60" ∷
    codes "output 0000000000000000000000000000000000000000000000000000000000000001#20 1k00000000000000000000000000000000000000000000000000000001+k00000000000000000000000000000000000000000000000000000010 8" ∷
    codes "output 0000000000000000000000000000000000000000000000000000000000000001#21 1k00000000000000000000000000000000000000000000000000000001+k00000000000000000000000000000000000000000000000000000015 0" ∷
    codes "output 0000000000000000000000000000000000000000000000000000000000000001#22 1k00000000000000000000000000000000000000000000000000000001+k00000000000000000000000000000000000000000000000000000016 1" ∷
    codes "proposal 0000000000000000000000000000000000000000000000000000000000000002#0 NoConfidence deposit 10 return 1k00000000000000000000000000000000000000000000000000000010 expires 4 previous none" ∷
    codes "vote 0000000000000000000000000000000000000000000000000000000000000002#0 drep:k00000000000000000000000000000000000000000000000000000031 yes" ∷
    codes "snapshot mark 00000000000000000000000000000000000000000000000000000050 33" ∷
    codes "snapshot set 00000000000000000000000000000000000000000000000000000050 33" ∷
    codes "snapshot go 00000000000000000000000000000000000000000000000000000050 41" ∷
    codes "snapshot fees 112" ∷
    codes "pending none" ∷
    codes "pots outputs 129 deposits 29 rewards 33 fees 172 donations 0 treasury 100 reserves 537 supply 1000" ∷
    codes "used 0000000000000000000000000000000000000000000000000000000000000001" ∷
    codes "used 0000000000000000000000000000000000000000000000000000000000000002" ∷
    codes "used 0000000000000000000000000000000000000000000000000000000000000003" ∷
    codes "used 0000000000000000000000000000000000000000000000000000000000000004" ∷
    codes "action 0000000000000000000000000000000000000000000000000000000000000002#0 {\"type\":\"NoConfidence\"}" ∷
    codes "frozen treasury 100" ∷
    codes "frozen account k00000000000000000000000000000000000000000000000000000010 stake 8 unregistered" ∷
    codes "frozen account k00000000000000000000000000000000000000000000000000000011 stake 0 deposit 2 rewards 33 pool 00000000000000000000000000000000000000000000000000000050 drep k00000000000000000000000000000000000000000000000000000031" ∷
    codes "frozen account k00000000000000000000000000000000000000000000000000000012 stake 0 deposit 2 rewards 0 pool none drep none" ∷
    codes "frozen account k00000000000000000000000000000000000000000000000000000016 stake 1 unregistered" ∷
    codes "frozen drep k00000000000000000000000000000000000000000000000000000030 expiry 20" ∷
    codes "frozen drep k00000000000000000000000000000000000000000000000000000031 expiry 20" ∷
    codes "frozen hot k00000000000000000000000000000000000000000000000000000070 k00000000000000000000000000000000000000000000000000000071" ∷
    codes "frozen pool 00000000000000000000000000000000000000000000000000000050 account 1k00000000000000000000000000000000000000000000000000000012" ∷
    codes "frozen proposal 0000000000000000000000000000000000000000000000000000000000000002#0" ∷
    codes "end" ∷
    []) ≡ true
unfolding digits encode_with
stake_of_those_that_left_checkpoint_9 = refl

abbrev votes_change_and_stay_checkpoint_9_input : List (ℕ × Reading)
votes_change_and_stay_checkpoint_9_input =
    (1, Read (records.Genesis (record { network = 1; slot = 0; epoch_length = 10; version = (10, 0); supply = 1000; reserves = 639; treasury = 100; params = (record base_params { gov_action_lifetime = 1 }); document = (h32 0x01); script = None; committee = (Some (record { threshold = (share 0 1); members = (((key 0x70), 100, (Some (key 0x71))) ∷ []) })); outputs = (((ref 0x01 2), (address_with 1 (key 0x01) None), 20, []) ∷ ((ref 0x01 3), (address_with 1 (key 0x01) None), 20, []) ∷ ((ref 0x01 4), (address_with 1 (key 0x01) None), 20, []) ∷ ((ref 0x01 5), (address_with 1 (key 0x01) None), 20, []) ∷ ((ref 0x01 6), (address_with 1 (key 0x01) None), 20, []) ∷ ((ref 0x01 7), (address_with 1 (key 0x01) None), 20, []) ∷ ((ref 0x01 8), (address_with 1 (key 0x01) None), 20, []) ∷ []); accounts = (((key 0x10), 2, 67, None, (Some (drep.Registered (key 0x30)))) ∷ ((key 0x11), 2, 33, None, (Some (drep.Registered (key 0x31)))) ∷ ((key 0x12), 2, 0, None, None) ∷ []); pools = ((record { pool = (pool 0x50); deposit = 5; cost = 0; pledge = 0; margin = (share 0 1); account = (account_on 1 (key 0x12)); key = None }) ∷ []); dreps = (((key 0x30), 5, 20) ∷ ((key 0x31), 5, 20) ∷ []) }))) ∷
    (2, Read (records.Tx (record (spend 0x02 10) { proposals = ((proposing 10 (account_on 1 (key 0x12)) (actions.HardForkInitiation None (10, 1))) ∷ []) }))) ∷
    (3, Read (records.Tx (record (spend 0x03 20) { votes = ((voting (voter.Pool (pool 0x50)) (action 0x02 0) vote.Yes) ∷ (voting (voter.Drep (key 0x31)) (action 0x02 0) vote.Yes) ∷ (voting (voter.Drep (key 0x30)) (action 0x02 0) vote.No) ∷ (voting (voter.Committee (key 0x71)) (action 0x02 0) vote.Abstain) ∷ []) }))) ∷
    (4, Read (records.Tx (record (spend 0x04 20) { votes = ((voting (voter.Drep (key 0x31)) (action 0x02 0) vote.Abstain) ∷ (voting (voter.Drep (key 0x30)) (action 0x02 0) vote.Yes) ∷ (voting (voter.Drep (key 0x30)) (action 0x02 0) vote.No) ∷ []) }))) ∷
    (5, Read (records.Print what.State)) ∷
    (6, Read (records.Block 10 1)) ∷
    (7, Read (records.Tx (record (spend 0x05 20) { votes = ((voting (voter.Pool (pool 0x50)) (action 0x02 0) vote.No) ∷ (voting (voter.Committee (key 0x71)) (action 0x02 0) vote.Yes) ∷ []) }))) ∷
    (8, Read (records.Block 20 1)) ∷
    (9, Read (records.Tx (record (spend 0x06 0) { votes = ((voting (voter.Pool (pool 0x50)) (action 0x02 0) vote.Yes) ∷ []) }))) ∷
    []

pub votes_change_and_stay_checkpoint_9 : is_text (checkpoint_of_readings 9 votes_change_and_stay_checkpoint_9_input) (
    codes "checkpoint 1 line 9 network 1 length 10 counted 1" ∷
    codes "now slot 20 epoch 2 version 10.0 dormant 0" ∷
    codes "constitution 0000000000000000000000000000000000000000000000000000000000000001 none" ∷
    codes "committee threshold 0/1" ∷
    codes "member k00000000000000000000000000000000000000000000000000000070 term 100 hot k00000000000000000000000000000000000000000000000000000071" ∷
    codes "enacted committee none constitution none hardfork none parameters none" ∷
    codes "param maxBlockBodySize 90112" ∷
    codes "param maxTxSize 16384" ∷
    codes "param maxBlockHeaderSize 1100" ∷
    codes "param maxValueSize 5000" ∷
    codes "param maxTxExUnits 1000 1000" ∷
    codes "param maxBlockExUnits 1000 1000" ∷
    codes "param maxCollateralInputs 3" ∷
    codes "param minFeeA 0" ∷
    codes "param minFeeB 0" ∷
    codes "param keyDeposit 2" ∷
    codes "param poolDeposit 5" ∷
    codes "param rho 0/1" ∷
    codes "param tau 0/1" ∷
    codes "param minPoolCost 0" ∷
    codes "param coinsPerUTxOByte 0" ∷
    codes "param prices 0/1 0/1" ∷
    codes "param minFeeRefScriptCostPerByte 15/1" ∷
    codes "param a0 0/1" ∷
    codes "param eMax 18" ∷
    codes "param nOpt 500" ∷
    codes "param costModels 0000000000000000000000000000000000000000000000000000000000000000" ∷
    codes "param collateralPercentage 150" ∷
    codes "param poolVotingThresholds 0/1 0/1 0/1 0/1 0/1" ∷
    codes "param drepVotingThresholds 67/100 67/100 67/100 67/100 67/100 67/100 67/100 67/100 67/100 67/100" ∷
    codes "param govActionLifetime 1" ∷
    codes "param govActionDeposit 10" ∷
    codes "param drepDeposit 5" ∷
    codes "param drepActivity 20" ∷
    codes "param committeeMinSize 0" ∷
    codes "param committeeMaxTermLength 100" ∷
    codes "drep k00000000000000000000000000000000000000000000000000000030 deposit 5 expiry 20" ∷
    codes "drep k00000000000000000000000000000000000000000000000000000031 deposit 5 expiry 20" ∷
    codes "pool 00000000000000000000000000000000000000000000000000000050 deposit 5 cost 0 pledge 0 margin 0/1 account 1k00000000000000000000000000000000000000000000000000000012 retires never" ∷
    codes "account k00000000000000000000000000000000000000000000000000000010 stake 0 deposit 2 rewards 67 pool none drep k00000000000000000000000000000000000000000000000000000030" ∷
    codes "account k00000000000000000000000000000000000000000000000000000011 stake 0 deposit 2 rewards 33 pool none drep k00000000000000000000000000000000000000000000000000000031" ∷
    codes "account k00000000000000000000000000000000000000000000000000000012 stake 0 deposit 2 rewards 0 pool none drep none" ∷
    codes "output 0000000000000000000000000000000000000000000000000000000000000001#6 1k00000000000000000000000000000000000000000000000000000001 20" ∷
    codes "output 0000000000000000000000000000000000000000000000000000000000000001#7 1k00000000000000000000000000000000000000000000000000000001 20" ∷
    codes "output 0000000000000000000000000000000000000000000000000000000000000001#8 1k00000000000000000000000000000000000000000000000000000001 20" ∷
    codes "proposal 0000000000000000000000000000000000000000000000000000000000000002#0 HardForkInitiation deposit 10 return 1k00000000000000000000000000000000000000000000000000000012 expires 1 previous none" ∷
    codes "vote 0000000000000000000000000000000000000000000000000000000000000002#0 committee:k00000000000000000000000000000000000000000000000000000071 yes" ∷
    codes "vote 0000000000000000000000000000000000000000000000000000000000000002#0 drep:k00000000000000000000000000000000000000000000000000000030 no" ∷
    codes "vote 0000000000000000000000000000000000000000000000000000000000000002#0 drep:k00000000000000000000000000000000000000000000000000000031 abstain" ∷
    codes "vote 0000000000000000000000000000000000000000000000000000000000000002#0 pool:00000000000000000000000000000000000000000000000000000050 no" ∷
    codes "snapshot mark 00000000000000000000000000000000000000000000000000000050 0" ∷
    codes "snapshot set 00000000000000000000000000000000000000000000000000000050 0" ∷
    codes "snapshot go 00000000000000000000000000000000000000000000000000000050 0" ∷
    codes "snapshot fees 70" ∷
    codes "pending none" ∷
    codes "pots outputs 60 deposits 31 rewards 100 fees 70 donations 0 treasury 100 reserves 639 supply 1000" ∷
    codes "used 0000000000000000000000000000000000000000000000000000000000000001" ∷
    codes "used 0000000000000000000000000000000000000000000000000000000000000002" ∷
    codes "used 0000000000000000000000000000000000000000000000000000000000000003" ∷
    codes "used 0000000000000000000000000000000000000000000000000000000000000004" ∷
    codes "used 0000000000000000000000000000000000000000000000000000000000000005" ∷
    codes "action 0000000000000000000000000000000000000000000000000000000000000002#0 {\"type\":\"HardForkInitiation\",\"version\":[10,1]}" ∷
    codes "frozen treasury 100" ∷
    codes "frozen account k00000000000000000000000000000000000000000000000000000010 stake 0 deposit 2 rewards 67 pool none drep k00000000000000000000000000000000000000000000000000000030" ∷
    codes "frozen account k00000000000000000000000000000000000000000000000000000011 stake 0 deposit 2 rewards 33 pool none drep k00000000000000000000000000000000000000000000000000000031" ∷
    codes "frozen account k00000000000000000000000000000000000000000000000000000012 stake 0 deposit 2 rewards 0 pool none drep none" ∷
    codes "frozen drep k00000000000000000000000000000000000000000000000000000030 expiry 20" ∷
    codes "frozen drep k00000000000000000000000000000000000000000000000000000031 expiry 20" ∷
    codes "frozen hot k00000000000000000000000000000000000000000000000000000070 k00000000000000000000000000000000000000000000000000000071" ∷
    codes "frozen pool 00000000000000000000000000000000000000000000000000000050 account 1k00000000000000000000000000000000000000000000000000000012" ∷
    codes "frozen proposal 0000000000000000000000000000000000000000000000000000000000000002#0" ∷
    codes "frozen vote 0000000000000000000000000000000000000000000000000000000000000002#0 committee:k00000000000000000000000000000000000000000000000000000071 yes" ∷
    codes "frozen vote 0000000000000000000000000000000000000000000000000000000000000002#0 drep:k00000000000000000000000000000000000000000000000000000030 no" ∷
    codes "frozen vote 0000000000000000000000000000000000000000000000000000000000000002#0 drep:k00000000000000000000000000000000000000000000000000000031 abstain" ∷
    codes "frozen vote 0000000000000000000000000000000000000000000000000000000000000002#0 pool:00000000000000000000000000000000000000000000000000000050 no" ∷
    codes "end" ∷
    []) ≡ true
unfolding digits encode_with
votes_change_and_stay_checkpoint_9 = refl
