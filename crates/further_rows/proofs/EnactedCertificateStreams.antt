-- Worked rows of whole streams: certificates of what was enacted. Made by tests/made/rows_of, from the streams of these names in tests/streams/further.
use Rattle.std.specs.Prelude.{ℕ, ◌≡◌, List, [], ◌∷◌, Some, None, true, codes, refl}
use Rattle.std.specs.Fmt.{digits}
use Rattle.hex.specs.Hex.{encode_with}
use Rattle.gov_actions.specs.declared.action.Action.TheVariants as actions
use Rattle.gov_actions.specs.declared.action.Vote.TheVariants as vote
use Rattle.gov_ids.specs.declared.Drep.TheVariants as drep
use Rattle.gov_ids.specs.declared.Voter.TheVariants as voter
use Rattle.tx_records.specs.declared.record.Record.TheVariants as records
use Rattle.tx_records.specs.declared.cert.Cert.TheVariants as certs
use Rattle.tx_records.specs.declared.record.Reading.{Reading}
use Rattle.tx_records.specs.declared.record.Reading.TheVariants.{Read}
use Rattle.ledger_rows.proofs.Base.{h32, key, script, pool, account_on, address_with, ref, action, share, base_params, spend, proposing, voting}
use Rattle.certificate_model.specs.Checked.{certificates_of_readings}
use Rattle.further_rows.proofs.Texts.{is_text}

abbrev certificates_of_enactments_input : List (ℕ × Reading)
certificates_of_enactments_input =
    (1, Read (records.Genesis (record { network = 1; slot = 0; epoch_length = 10; version = (10, 4); supply = 1200; reserves = 739; treasury = 100; params = (record base_params { drep_voting_thresholds = ((share 0 1) ∷ (share 0 1) ∷ (share 0 1) ∷ (share 0 1) ∷ (share 0 1) ∷ (share 0 1) ∷ (share 0 1) ∷ (share 0 1) ∷ (share 0 1) ∷ (share 0 1) ∷ []) }); document = (h32 0x01); script = None; committee = (Some (record { threshold = (share 1 1); members = (((key 0x70), 100, (Some (key 0x71))) ∷ ((key 0x72), 1, (Some (key 0x73))) ∷ []) })); outputs = (((ref 0x01 2), (address_with 1 (key 0x01) None), 20, []) ∷ ((ref 0x01 3), (address_with 1 (key 0x01) None), 20, []) ∷ ((ref 0x01 4), (address_with 1 (key 0x01) None), 20, []) ∷ ((ref 0x01 5), (address_with 1 (key 0x01) None), 20, []) ∷ ((ref 0x01 6), (address_with 1 (key 0x01) None), 20, []) ∷ ((ref 0x01 7), (address_with 1 (key 0x01) None), 20, []) ∷ ((ref 0x01 8), (address_with 1 (key 0x01) None), 20, []) ∷ ((ref 0x01 9), (address_with 1 (key 0x01) None), 20, []) ∷ ((ref 0x01 10), (address_with 1 (key 0x01) None), 20, []) ∷ ((ref 0x01 11), (address_with 1 (key 0x01) None), 20, []) ∷ ((ref 0x01 12), (address_with 1 (key 0x01) None), 20, []) ∷ ((ref 0x01 13), (address_with 1 (key 0x01) None), 20, []) ∷ []); accounts = (((key 0x10), 2, 67, None, (Some (drep.Registered (key 0x30)))) ∷ ((key 0x11), 2, 33, None, (Some (drep.Registered (key 0x31)))) ∷ ((key 0x12), 2, 0, None, None) ∷ []); pools = ((record { pool = (pool 0x50); deposit = 5; cost = 0; pledge = 0; margin = (share 0 1); account = (account_on 1 (key 0x12)); key = None }) ∷ []); dreps = (((key 0x30), 5, 20) ∷ ((key 0x31), 5, 20) ∷ []) }))) ∷
    (2, Read (records.Tx (record (spend 0x02 10) { proposals = ((proposing 10 (account_on 1 (key 0x12)) (actions.HardForkInitiation None (11, 0))) ∷ []) }))) ∷
    (3, Read (records.Tx (record (spend 0x03 20) { certs = ((certs.PoolRetire (pool 0x50) 2) ∷ []); votes = ((voting (voter.Committee (key 0x71)) (action 0x02 0) vote.Yes) ∷ (voting (voter.Committee (key 0x73)) (action 0x02 0) vote.Yes) ∷ []) }))) ∷
    (4, Read (records.Block 10 1)) ∷
    (5, Read (records.Block 20 1)) ∷
    (6, Read (records.Tx (record (spend 0x04 10) { proposals = ((proposing 10 (account_on 1 (key 0x12)) (actions.NoConfidence None)) ∷ []) }))) ∷
    (7, Read (records.Rewards (record { epoch = 2; from_reserves = 30; from_fees = 0; to_treasury = 10; rewards = (((key 0x11), 20) ∷ []) }))) ∷
    (8, Read (records.Block 30 1)) ∷
    (9, Read (records.Tx (record (spend 0x05 10) { proposals = ((proposing 10 (account_on 1 (key 0x12)) (actions.NewConstitution None (h32 0x06) None)) ∷ []) }))) ∷
    (10, Read (records.Block 40 2)) ∷
    (11, Read (records.Tx (record (spend 0x06 10) { proposals = ((proposing 10 (account_on 1 (key 0x12)) (actions.UpdateCommittee (Some (action 0x04 0)) [] (((key 0x60), 50) ∷ ((script 0x60), 40) ∷ []) (share 0 7))) ∷ []) }))) ∷
    (12, Read (records.Block 55 1)) ∷
    (13, Read (records.Block 69 1)) ∷
    (14, Read (records.Block 70 1)) ∷
    []

pub certificates_of_enactments : is_text (certificates_of_readings certificates_of_enactments_input) (
    codes "certificate epoch 0 version 10.4 treasury 100" ∷
    codes "constitution 0000000000000000000000000000000000000000000000000000000000000001 none" ∷
    codes "committee threshold 1/1" ∷
    codes "member k00000000000000000000000000000000000000000000000000000070 term 100 hot k00000000000000000000000000000000000000000000000000000071" ∷
    codes "member k00000000000000000000000000000000000000000000000000000072 term 1 hot k00000000000000000000000000000000000000000000000000000073" ∷
    codes "enacted committee none constitution none hardfork none parameters none" ∷
    codes "param maxBlockBodySize 90112" ∷
    codes "param maxTxSize 16384" ∷
    codes "param maxBlockHeaderSize 1100" ∷
    codes "param maxValueSize 5000" ∷
    codes "param maxTxExUnits 1000 1000" ∷
    codes "param maxBlockExUnits 1000 1000" ∷
    codes "param maxCollateralInputs 3" ∷
    codes "param minFeeA 0" ∷
    codes "param minFeeB 0" ∷
    codes "param keyDeposit 2" ∷
    codes "param poolDeposit 5" ∷
    codes "param rho 0/1" ∷
    codes "param tau 0/1" ∷
    codes "param minPoolCost 0" ∷
    codes "param coinsPerUTxOByte 0" ∷
    codes "param prices 0/1 0/1" ∷
    codes "param minFeeRefScriptCostPerByte 15/1" ∷
    codes "param a0 0/1" ∷
    codes "param eMax 18" ∷
    codes "param nOpt 500" ∷
    codes "param costModels 0000000000000000000000000000000000000000000000000000000000000000" ∷
    codes "param collateralPercentage 150" ∷
    codes "param poolVotingThresholds 0/1 0/1 0/1 0/1 0/1" ∷
    codes "param drepVotingThresholds 0/1 0/1 0/1 0/1 0/1 0/1 0/1 0/1 0/1 0/1" ∷
    codes "param govActionLifetime 2" ∷
    codes "param govActionDeposit 10" ∷
    codes "param drepDeposit 5" ∷
    codes "param drepActivity 20" ∷
    codes "param committeeMinSize 0" ∷
    codes "param committeeMaxTermLength 100" ∷
    codes "drep k00000000000000000000000000000000000000000000000000000030 expiry 20" ∷
    codes "drep k00000000000000000000000000000000000000000000000000000031 expiry 20" ∷
    codes "pool 00000000000000000000000000000000000000000000000000000050 account 1k00000000000000000000000000000000000000000000000000000012" ∷
    codes "mark 00000000000000000000000000000000000000000000000000000050 0" ∷
    codes "account k00000000000000000000000000000000000000000000000000000010 stake 0 deposit 2 rewards 67 pool none drep k00000000000000000000000000000000000000000000000000000030" ∷
    codes "account k00000000000000000000000000000000000000000000000000000011 stake 0 deposit 2 rewards 33 pool none drep k00000000000000000000000000000000000000000000000000000031" ∷
    codes "account k00000000000000000000000000000000000000000000000000000012 stake 0 deposit 2 rewards 0 pool none drep none" ∷
    codes "stake k00000000000000000000000000000000000000000000000000000030 67" ∷
    codes "stake k00000000000000000000000000000000000000000000000000000031 33" ∷
    codes "end" ∷
    codes "certificate epoch 1 version 10.4 treasury 100" ∷
    codes "constitution 0000000000000000000000000000000000000000000000000000000000000001 none" ∷
    codes "committee threshold 1/1" ∷
    codes "member k00000000000000000000000000000000000000000000000000000070 term 100 hot k00000000000000000000000000000000000000000000000000000071" ∷
    codes "member k00000000000000000000000000000000000000000000000000000072 term 1 hot k00000000000000000000000000000000000000000000000000000073" ∷
    codes "enacted committee none constitution none hardfork none parameters none" ∷
    codes "param maxBlockBodySize 90112" ∷
    codes "param maxTxSize 16384" ∷
    codes "param maxBlockHeaderSize 1100" ∷
    codes "param maxValueSize 5000" ∷
    codes "param maxTxExUnits 1000 1000" ∷
    codes "param maxBlockExUnits 1000 1000" ∷
    codes "param maxCollateralInputs 3" ∷
    codes "param minFeeA 0" ∷
    codes "param minFeeB 0" ∷
    codes "param keyDeposit 2" ∷
    codes "param poolDeposit 5" ∷
    codes "param rho 0/1" ∷
    codes "param tau 0/1" ∷
    codes "param minPoolCost 0" ∷
    codes "param coinsPerUTxOByte 0" ∷
    codes "param prices 0/1 0/1" ∷
    codes "param minFeeRefScriptCostPerByte 15/1" ∷
    codes "param a0 0/1" ∷
    codes "param eMax 18" ∷
    codes "param nOpt 500" ∷
    codes "param costModels 0000000000000000000000000000000000000000000000000000000000000000" ∷
    codes "param collateralPercentage 150" ∷
    codes "param poolVotingThresholds 0/1 0/1 0/1 0/1 0/1" ∷
    codes "param drepVotingThresholds 0/1 0/1 0/1 0/1 0/1 0/1 0/1 0/1 0/1 0/1" ∷
    codes "param govActionLifetime 2" ∷
    codes "param govActionDeposit 10" ∷
    codes "param drepDeposit 5" ∷
    codes "param drepActivity 20" ∷
    codes "param committeeMinSize 0" ∷
    codes "param committeeMaxTermLength 100" ∷
    codes "drep k00000000000000000000000000000000000000000000000000000030 expiry 20" ∷
    codes "drep k00000000000000000000000000000000000000000000000000000031 expiry 20" ∷
    codes "pool 00000000000000000000000000000000000000000000000000000050 account 1k00000000000000000000000000000000000000000000000000000012" ∷
    codes "mark 00000000000000000000000000000000000000000000000000000050 0" ∷
    codes "account k00000000000000000000000000000000000000000000000000000010 stake 0 deposit 2 rewards 67 pool none drep k00000000000000000000000000000000000000000000000000000030" ∷
    codes "account k00000000000000000000000000000000000000000000000000000011 stake 0 deposit 2 rewards 33 pool none drep k00000000000000000000000000000000000000000000000000000031" ∷
    codes "account k00000000000000000000000000000000000000000000000000000012 stake 0 deposit 2 rewards 0 pool none drep none" ∷
    codes "proposal 0000000000000000000000000000000000000000000000000000000000000002#0 HardForkInitiation deposit 10 return 1k00000000000000000000000000000000000000000000000000000012 expires 2 previous none" ∷
    codes "vote 0000000000000000000000000000000000000000000000000000000000000002#0 committee:k00000000000000000000000000000000000000000000000000000071 yes" ∷
    codes "vote 0000000000000000000000000000000000000000000000000000000000000002#0 committee:k00000000000000000000000000000000000000000000000000000073 yes" ∷
    codes "action 0000000000000000000000000000000000000000000000000000000000000002#0 {\"type\":\"HardForkInitiation\",\"version\":[11,0]}" ∷
    codes "stake k00000000000000000000000000000000000000000000000000000030 67" ∷
    codes "stake k00000000000000000000000000000000000000000000000000000031 33" ∷
    codes "part 0000000000000000000000000000000000000000000000000000000000000002#0 committee k00000000000000000000000000000000000000000000000000000070 1 yes" ∷
    codes "part 0000000000000000000000000000000000000000000000000000000000000002#0 committee k00000000000000000000000000000000000000000000000000000072 1 yes" ∷
    codes "part 0000000000000000000000000000000000000000000000000000000000000002#0 drep k00000000000000000000000000000000000000000000000000000030 67 no" ∷
    codes "part 0000000000000000000000000000000000000000000000000000000000000002#0 drep k00000000000000000000000000000000000000000000000000000031 33 no" ∷
    codes "verdict 0000000000000000000000000000000000000000000000000000000000000002#0 HardForkInitiation committee 2/2 need 1/1 drep 0/100 need 0/1 pool 0/0 need 0/1 ratified" ∷
    codes "end" ∷
    codes "certificate epoch 2 version 11.0 treasury 100" ∷
    codes "constitution 0000000000000000000000000000000000000000000000000000000000000001 none" ∷
    codes "committee threshold 1/1" ∷
    codes "member k00000000000000000000000000000000000000000000000000000070 term 100 hot k00000000000000000000000000000000000000000000000000000071" ∷
    codes "member k00000000000000000000000000000000000000000000000000000072 term 1 hot k00000000000000000000000000000000000000000000000000000073" ∷
    codes "enacted committee none constitution none hardfork 0000000000000000000000000000000000000000000000000000000000000002#0 parameters none" ∷
    codes "param maxBlockBodySize 90112" ∷
    codes "param maxTxSize 16384" ∷
    codes "param maxBlockHeaderSize 1100" ∷
    codes "param maxValueSize 5000" ∷
    codes "param maxTxExUnits 1000 1000" ∷
    codes "param maxBlockExUnits 1000 1000" ∷
    codes "param maxCollateralInputs 3" ∷
    codes "param minFeeA 0" ∷
    codes "param minFeeB 0" ∷
    codes "param keyDeposit 2" ∷
    codes "param poolDeposit 5" ∷
    codes "param rho 0/1" ∷
    codes "param tau 0/1" ∷
    codes "param minPoolCost 0" ∷
    codes "param coinsPerUTxOByte 0" ∷
    codes "param prices 0/1 0/1" ∷
    codes "param minFeeRefScriptCostPerByte 15/1" ∷
    codes "param a0 0/1" ∷
    codes "param eMax 18" ∷
    codes "param nOpt 500" ∷
    codes "param costModels 0000000000000000000000000000000000000000000000000000000000000000" ∷
    codes "param collateralPercentage 150" ∷
    codes "param poolVotingThresholds 0/1 0/1 0/1 0/1 0/1" ∷
    codes "param drepVotingThresholds 0/1 0/1 0/1 0/1 0/1 0/1 0/1 0/1 0/1 0/1" ∷
    codes "param govActionLifetime 2" ∷
    codes "param govActionDeposit 10" ∷
    codes "param drepDeposit 5" ∷
    codes "param drepActivity 20" ∷
    codes "param committeeMinSize 0" ∷
    codes "param committeeMaxTermLength 100" ∷
    codes "drep k00000000000000000000000000000000000000000000000000000030 expiry 20" ∷
    codes "drep k00000000000000000000000000000000000000000000000000000031 expiry 20" ∷
    codes "pool 00000000000000000000000000000000000000000000000000000050 account none" ∷
    codes "mark 00000000000000000000000000000000000000000000000000000050 0" ∷
    codes "account k00000000000000000000000000000000000000000000000000000010 stake 0 deposit 2 rewards 67 pool none drep k00000000000000000000000000000000000000000000000000000030" ∷
    codes "account k00000000000000000000000000000000000000000000000000000011 stake 0 deposit 2 rewards 33 pool none drep k00000000000000000000000000000000000000000000000000000031" ∷
    codes "account k00000000000000000000000000000000000000000000000000000012 stake 0 deposit 2 rewards 15 pool none drep none" ∷
    codes "stake k00000000000000000000000000000000000000000000000000000030 67" ∷
    codes "stake k00000000000000000000000000000000000000000000000000000031 33" ∷
    codes "end" ∷
    codes "certificate epoch 3 version 11.0 treasury 110" ∷
    codes "constitution 0000000000000000000000000000000000000000000000000000000000000001 none" ∷
    codes "committee threshold 1/1" ∷
    codes "member k00000000000000000000000000000000000000000000000000000070 term 100 hot k00000000000000000000000000000000000000000000000000000071" ∷
    codes "member k00000000000000000000000000000000000000000000000000000072 term 1 hot k00000000000000000000000000000000000000000000000000000073" ∷
    codes "enacted committee none constitution none hardfork 0000000000000000000000000000000000000000000000000000000000000002#0 parameters none" ∷
    codes "param maxBlockBodySize 90112" ∷
    codes "param maxTxSize 16384" ∷
    codes "param maxBlockHeaderSize 1100" ∷
    codes "param maxValueSize 5000" ∷
    codes "param maxTxExUnits 1000 1000" ∷
    codes "param maxBlockExUnits 1000 1000" ∷
    codes "param maxCollateralInputs 3" ∷
    codes "param minFeeA 0" ∷
    codes "param minFeeB 0" ∷
    codes "param keyDeposit 2" ∷
    codes "param poolDeposit 5" ∷
    codes "param rho 0/1" ∷
    codes "param tau 0/1" ∷
    codes "param minPoolCost 0" ∷
    codes "param coinsPerUTxOByte 0" ∷
    codes "param prices 0/1 0/1" ∷
    codes "param minFeeRefScriptCostPerByte 15/1" ∷
    codes "param a0 0/1" ∷
    codes "param eMax 18" ∷
    codes "param nOpt 500" ∷
    codes "param costModels 0000000000000000000000000000000000000000000000000000000000000000" ∷
    codes "param collateralPercentage 150" ∷
    codes "param poolVotingThresholds 0/1 0/1 0/1 0/1 0/1" ∷
    codes "param drepVotingThresholds 0/1 0/1 0/1 0/1 0/1 0/1 0/1 0/1 0/1 0/1" ∷
    codes "param govActionLifetime 2" ∷
    codes "param govActionDeposit 10" ∷
    codes "param drepDeposit 5" ∷
    codes "param drepActivity 20" ∷
    codes "param committeeMinSize 0" ∷
    codes "param committeeMaxTermLength 100" ∷
    codes "drep k00000000000000000000000000000000000000000000000000000030 expiry 21" ∷
    codes "drep k00000000000000000000000000000000000000000000000000000031 expiry 21" ∷
    codes "account k00000000000000000000000000000000000000000000000000000010 stake 0 deposit 2 rewards 67 pool none drep k00000000000000000000000000000000000000000000000000000030" ∷
    codes "account k00000000000000000000000000000000000000000000000000000011 stake 0 deposit 2 rewards 53 pool none drep k00000000000000000000000000000000000000000000000000000031" ∷
    codes "account k00000000000000000000000000000000000000000000000000000012 stake 0 deposit 2 rewards 15 pool none drep none" ∷
    codes "proposal 0000000000000000000000000000000000000000000000000000000000000004#0 NoConfidence deposit 10 return 1k00000000000000000000000000000000000000000000000000000012 expires 4 previous none" ∷
    codes "action 0000000000000000000000000000000000000000000000000000000000000004#0 {\"type\":\"NoConfidence\"}" ∷
    codes "stake k00000000000000000000000000000000000000000000000000000030 67" ∷
    codes "stake k00000000000000000000000000000000000000000000000000000031 53" ∷
    codes "part 0000000000000000000000000000000000000000000000000000000000000004#0 committee k00000000000000000000000000000000000000000000000000000070 1 no" ∷
    codes "part 0000000000000000000000000000000000000000000000000000000000000004#0 drep k00000000000000000000000000000000000000000000000000000030 67 no" ∷
    codes "part 0000000000000000000000000000000000000000000000000000000000000004#0 drep k00000000000000000000000000000000000000000000000000000031 53 no" ∷
    codes "verdict 0000000000000000000000000000000000000000000000000000000000000004#0 NoConfidence committee 0/1 need none drep 0/120 need 0/1 pool 0/0 need 0/1 ratified" ∷
    codes "end" ∷
    codes "certificate epoch 4 version 11.0 treasury 110" ∷
    codes "constitution 0000000000000000000000000000000000000000000000000000000000000001 none" ∷
    codes "committee none" ∷
    codes "enacted committee 0000000000000000000000000000000000000000000000000000000000000004#0 constitution none hardfork 0000000000000000000000000000000000000000000000000000000000000002#0 parameters none" ∷
    codes "param maxBlockBodySize 90112" ∷
    codes "param maxTxSize 16384" ∷
    codes "param maxBlockHeaderSize 1100" ∷
    codes "param maxValueSize 5000" ∷
    codes "param maxTxExUnits 1000 1000" ∷
    codes "param maxBlockExUnits 1000 1000" ∷
    codes "param maxCollateralInputs 3" ∷
    codes "param minFeeA 0" ∷
    codes "param minFeeB 0" ∷
    codes "param keyDeposit 2" ∷
    codes "param poolDeposit 5" ∷
    codes "param rho 0/1" ∷
    codes "param tau 0/1" ∷
    codes "param minPoolCost 0" ∷
    codes "param coinsPerUTxOByte 0" ∷
    codes "param prices 0/1 0/1" ∷
    codes "param minFeeRefScriptCostPerByte 15/1" ∷
    codes "param a0 0/1" ∷
    codes "param eMax 18" ∷
    codes "param nOpt 500" ∷
    codes "param costModels 0000000000000000000000000000000000000000000000000000000000000000" ∷
    codes "param collateralPercentage 150" ∷
    codes "param poolVotingThresholds 0/1 0/1 0/1 0/1 0/1" ∷
    codes "param drepVotingThresholds 0/1 0/1 0/1 0/1 0/1 0/1 0/1 0/1 0/1 0/1" ∷
    codes "param govActionLifetime 2" ∷
    codes "param govActionDeposit 10" ∷
    codes "param drepDeposit 5" ∷
    codes "param drepActivity 20" ∷
    codes "param committeeMinSize 0" ∷
    codes "param committeeMaxTermLength 100" ∷
    codes "drep k00000000000000000000000000000000000000000000000000000030 expiry 21" ∷
    codes "drep k00000000000000000000000000000000000000000000000000000031 expiry 21" ∷
    codes "account k00000000000000000000000000000000000000000000000000000010 stake 0 deposit 2 rewards 67 pool none drep k00000000000000000000000000000000000000000000000000000030" ∷
    codes "account k00000000000000000000000000000000000000000000000000000011 stake 0 deposit 2 rewards 53 pool none drep k00000000000000000000000000000000000000000000000000000031" ∷
    codes "account k00000000000000000000000000000000000000000000000000000012 stake 0 deposit 2 rewards 25 pool none drep none" ∷
    codes "proposal 0000000000000000000000000000000000000000000000000000000000000005#0 NewConstitution deposit 10 return 1k00000000000000000000000000000000000000000000000000000012 expires 5 previous none" ∷
    codes "action 0000000000000000000000000000000000000000000000000000000000000005#0 {\"type\":\"NewConstitution\",\"document\":\"0000000000000000000000000000000000000000000000000000000000000006\"}" ∷
    codes "stake k00000000000000000000000000000000000000000000000000000030 67" ∷
    codes "stake k00000000000000000000000000000000000000000000000000000031 53" ∷
    codes "part 0000000000000000000000000000000000000000000000000000000000000005#0 drep k00000000000000000000000000000000000000000000000000000030 67 no" ∷
    codes "part 0000000000000000000000000000000000000000000000000000000000000005#0 drep k00000000000000000000000000000000000000000000000000000031 53 no" ∷
    codes "verdict 0000000000000000000000000000000000000000000000000000000000000005#0 NewConstitution committee 0/0 need never drep 0/120 need 0/1 pool 0/0 need none waiting" ∷
    codes "end" ∷
    codes "certificate epoch 5 version 11.0 treasury 110" ∷
    codes "constitution 0000000000000000000000000000000000000000000000000000000000000001 none" ∷
    codes "committee none" ∷
    codes "enacted committee 0000000000000000000000000000000000000000000000000000000000000004#0 constitution none hardfork 0000000000000000000000000000000000000000000000000000000000000002#0 parameters none" ∷
    codes "param maxBlockBodySize 90112" ∷
    codes "param maxTxSize 16384" ∷
    codes "param maxBlockHeaderSize 1100" ∷
    codes "param maxValueSize 5000" ∷
    codes "param maxTxExUnits 1000 1000" ∷
    codes "param maxBlockExUnits 1000 1000" ∷
    codes "param maxCollateralInputs 3" ∷
    codes "param minFeeA 0" ∷
    codes "param minFeeB 0" ∷
    codes "param keyDeposit 2" ∷
    codes "param poolDeposit 5" ∷
    codes "param rho 0/1" ∷
    codes "param tau 0/1" ∷
    codes "param minPoolCost 0" ∷
    codes "param coinsPerUTxOByte 0" ∷
    codes "param prices 0/1 0/1" ∷
    codes "param minFeeRefScriptCostPerByte 15/1" ∷
    codes "param a0 0/1" ∷
    codes "param eMax 18" ∷
    codes "param nOpt 500" ∷
    codes "param costModels 0000000000000000000000000000000000000000000000000000000000000000" ∷
    codes "param collateralPercentage 150" ∷
    codes "param poolVotingThresholds 0/1 0/1 0/1 0/1 0/1" ∷
    codes "param drepVotingThresholds 0/1 0/1 0/1 0/1 0/1 0/1 0/1 0/1 0/1 0/1" ∷
    codes "param govActionLifetime 2" ∷
    codes "param govActionDeposit 10" ∷
    codes "param drepDeposit 5" ∷
    codes "param drepActivity 20" ∷
    codes "param committeeMinSize 0" ∷
    codes "param committeeMaxTermLength 100" ∷
    codes "drep k00000000000000000000000000000000000000000000000000000030 expiry 21" ∷
    codes "drep k00000000000000000000000000000000000000000000000000000031 expiry 21" ∷
    codes "account k00000000000000000000000000000000000000000000000000000010 stake 0 deposit 2 rewards 67 pool none drep k00000000000000000000000000000000000000000000000000000030" ∷
    codes "account k00000000000000000000000000000000000000000000000000000011 stake 0 deposit 2 rewards 53 pool none drep k00000000000000000000000000000000000000000000000000000031" ∷
    codes "account k00000000000000000000000000000000000000000000000000000012 stake 0 deposit 2 rewards 25 pool none drep none" ∷
    codes "proposal 0000000000000000000000000000000000000000000000000000000000000005#0 NewConstitution deposit 10 return 1k00000000000000000000000000000000000000000000000000000012 expires 5 previous none" ∷
    codes "action 0000000000000000000000000000000000000000000000000000000000000005#0 {\"type\":\"NewConstitution\",\"document\":\"0000000000000000000000000000000000000000000000000000000000000006\"}" ∷
    codes "proposal 0000000000000000000000000000000000000000000000000000000000000006#0 UpdateCommittee deposit 10 return 1k00000000000000000000000000000000000000000000000000000012 expires 6 previous 0000000000000000000000000000000000000000000000000000000000000004#0" ∷
    codes "action 0000000000000000000000000000000000000000000000000000000000000006#0 {\"type\":\"UpdateCommittee\",\"previous\":\"0000000000000000000000000000000000000000000000000000000000000004#0\",\"remove\":[],\"add\":[[\"k00000000000000000000000000000000000000000000000000000060\",50],[\"s00000000000000000000000000000000000000000000000000000060\",40]],\"threshold\":[0,7]}" ∷
    codes "stake k00000000000000000000000000000000000000000000000000000030 67" ∷
    codes "stake k00000000000000000000000000000000000000000000000000000031 53" ∷
    codes "part 0000000000000000000000000000000000000000000000000000000000000006#0 drep k00000000000000000000000000000000000000000000000000000030 67 no" ∷
    codes "part 0000000000000000000000000000000000000000000000000000000000000006#0 drep k00000000000000000000000000000000000000000000000000000031 53 no" ∷
    codes "verdict 0000000000000000000000000000000000000000000000000000000000000006#0 UpdateCommittee committee 0/0 need none drep 0/120 need 0/1 pool 0/0 need 0/1 ratified" ∷
    codes "part 0000000000000000000000000000000000000000000000000000000000000005#0 drep k00000000000000000000000000000000000000000000000000000030 67 no" ∷
    codes "part 0000000000000000000000000000000000000000000000000000000000000005#0 drep k00000000000000000000000000000000000000000000000000000031 53 no" ∷
    codes "verdict 0000000000000000000000000000000000000000000000000000000000000005#0 NewConstitution committee 0/0 need 0/7 drep 0/120 need 0/1 pool 0/0 need none waiting" ∷
    codes "end" ∷
    codes "certificate epoch 6 version 11.0 treasury 110" ∷
    codes "constitution 0000000000000000000000000000000000000000000000000000000000000001 none" ∷
    codes "committee threshold 0/7" ∷
    codes "member k00000000000000000000000000000000000000000000000000000060 term 50 hot none" ∷
    codes "member s00000000000000000000000000000000000000000000000000000060 term 40 hot none" ∷
    codes "enacted committee 0000000000000000000000000000000000000000000000000000000000000006#0 constitution none hardfork 0000000000000000000000000000000000000000000000000000000000000002#0 parameters none" ∷
    codes "param maxBlockBodySize 90112" ∷
    codes "param maxTxSize 16384" ∷
    codes "param maxBlockHeaderSize 1100" ∷
    codes "param maxValueSize 5000" ∷
    codes "param maxTxExUnits 1000 1000" ∷
    codes "param maxBlockExUnits 1000 1000" ∷
    codes "param maxCollateralInputs 3" ∷
    codes "param minFeeA 0" ∷
    codes "param minFeeB 0" ∷
    codes "param keyDeposit 2" ∷
    codes "param poolDeposit 5" ∷
    codes "param rho 0/1" ∷
    codes "param tau 0/1" ∷
    codes "param minPoolCost 0" ∷
    codes "param coinsPerUTxOByte 0" ∷
    codes "param prices 0/1 0/1" ∷
    codes "param minFeeRefScriptCostPerByte 15/1" ∷
    codes "param a0 0/1" ∷
    codes "param eMax 18" ∷
    codes "param nOpt 500" ∷
    codes "param costModels 0000000000000000000000000000000000000000000000000000000000000000" ∷
    codes "param collateralPercentage 150" ∷
    codes "param poolVotingThresholds 0/1 0/1 0/1 0/1 0/1" ∷
    codes "param drepVotingThresholds 0/1 0/1 0/1 0/1 0/1 0/1 0/1 0/1 0/1 0/1" ∷
    codes "param govActionLifetime 2" ∷
    codes "param govActionDeposit 10" ∷
    codes "param drepDeposit 5" ∷
    codes "param drepActivity 20" ∷
    codes "param committeeMinSize 0" ∷
    codes "param committeeMaxTermLength 100" ∷
    codes "drep k00000000000000000000000000000000000000000000000000000030 expiry 21" ∷
    codes "drep k00000000000000000000000000000000000000000000000000000031 expiry 21" ∷
    codes "account k00000000000000000000000000000000000000000000000000000010 stake 0 deposit 2 rewards 67 pool none drep k00000000000000000000000000000000000000000000000000000030" ∷
    codes "account k00000000000000000000000000000000000000000000000000000011 stake 0 deposit 2 rewards 53 pool none drep k00000000000000000000000000000000000000000000000000000031" ∷
    codes "account k00000000000000000000000000000000000000000000000000000012 stake 0 deposit 2 rewards 35 pool none drep none" ∷
    codes "proposal 0000000000000000000000000000000000000000000000000000000000000005#0 NewConstitution deposit 10 return 1k00000000000000000000000000000000000000000000000000000012 expires 5 previous none" ∷
    codes "action 0000000000000000000000000000000000000000000000000000000000000005#0 {\"type\":\"NewConstitution\",\"document\":\"0000000000000000000000000000000000000000000000000000000000000006\"}" ∷
    codes "stake k00000000000000000000000000000000000000000000000000000030 67" ∷
    codes "stake k00000000000000000000000000000000000000000000000000000031 53" ∷
    codes "part 0000000000000000000000000000000000000000000000000000000000000005#0 drep k00000000000000000000000000000000000000000000000000000030 67 no" ∷
    codes "part 0000000000000000000000000000000000000000000000000000000000000005#0 drep k00000000000000000000000000000000000000000000000000000031 53 no" ∷
    codes "verdict 0000000000000000000000000000000000000000000000000000000000000005#0 NewConstitution committee 0/0 need 0/7 drep 0/120 need 0/1 pool 0/0 need none ratified" ∷
    codes "end" ∷
    []) ≡ true
unfolding digits encode_with
certificates_of_enactments = refl
