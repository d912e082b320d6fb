-- Worked rows of whole streams: proposals and votes. Made by tests/made/rows_of, from the streams of these names in tests/streams/whole.
use Rattle.std.specs.Prelude.{ℕ, ◌≡◌, List, [], ◌∷◌, Some, None, true, codes, refl}
use Rattle.std.specs.Fmt.{digits}
use Rattle.hex.specs.Hex.{encode_with}
use Rattle.gov_actions.specs.declared.action.Action.TheVariants as actions
use Rattle.gov_actions.specs.declared.action.Vote.TheVariants as vote
use Rattle.gov_ids.specs.declared.Drep.TheVariants as drep
use Rattle.gov_ids.specs.declared.Voter.TheVariants as voter
use Rattle.tx_records.specs.declared.record.Record.TheVariants as records
use Rattle.tx_records.specs.declared.record.What.TheVariants as what
use Rattle.tx_records.specs.declared.cert.Cert.TheVariants as certs
use Rattle.tx_records.specs.declared.record.Reading.{Reading}
use Rattle.tx_records.specs.declared.record.Reading.TheVariants.{Read}
use Rattle.ledger_rows.proofs.Base.{h32, key, script, pool, account_on, address_with, ref, action, share, base_params, no_update, spend, proposing, voting, says_all}

abbrev previous_actions_of_the_purpose_input : List (ℕ × Reading)
previous_actions_of_the_purpose_input =
    (1, Read (records.Genesis (record { network = 1; slot = 0; epoch_length = 10; version = (10, 0); supply = 1000; reserves = 419; treasury = 100; params = (record base_params { drep_voting_thresholds = ((share 0 1) ∷ (share 0 1) ∷ (share 0 1) ∷ (share 0 1) ∷ (share 0 1) ∷ (share 0 1) ∷ (share 0 1) ∷ (share 0 1) ∷ (share 0 1) ∷ (share 0 1) ∷ []); gov_action_lifetime = 6 }); document = (h32 0x01); script = None; committee = (Some (record { threshold = (share 0 1); members = (((key 0x70), 100, (Some (key 0x71))) ∷ []) })); outputs = (((ref 0x01 2), (address_with 1 (key 0x01) None), 40, []) ∷ ((ref 0x01 3), (address_with 1 (key 0x01) None), 40, []) ∷ ((ref 0x01 4), (address_with 1 (key 0x01) None), 40, []) ∷ ((ref 0x01 5), (address_with 1 (key 0x01) None), 40, []) ∷ ((ref 0x01 6), (address_with 1 (key 0x01) None), 40, []) ∷ ((ref 0x01 7), (address_with 1 (key 0x01) None), 40, []) ∷ ((ref 0x01 8), (address_with 1 (key 0x01) None), 40, []) ∷ ((ref 0x01 9), (address_with 1 (key 0x01) None), 40, []) ∷ ((ref 0x01 10), (address_with 1 (key 0x01) None), 40, []) ∷ []); accounts = (((key 0x10), 2, 67, None, (Some (drep.Registered (key 0x30)))) ∷ ((key 0x11), 2, 33, None, (Some (drep.Registered (key 0x31)))) ∷ ((key 0x12), 2, 0, None, None) ∷ []); pools = ((record { pool = (pool 0x50); deposit = 5; cost = 0; pledge = 0; margin = (share 0 1); account = (account_on 1 (key 0x12)); key = None }) ∷ []); dreps = (((key 0x30), 5, 20) ∷ ((key 0x31), 5, 20) ∷ []) }))) ∷
    (2, Read (records.Tx (record (spend 0x02 10) { proposals = ((proposing 10 (account_on 1 (key 0x12)) (actions.NewConstitution None (h32 0x02) None)) ∷ (proposing 10 (account_on 1 (key 0x12)) (actions.HardForkInitiation None (10, 1))) ∷ (proposing 10 (account_on 1 (key 0x12)) (actions.UpdateCommittee None [] (((key 0x60), 9) ∷ []) (share 1 2))) ∷ []) }))) ∷
    (3, Read (records.Tx (record (spend 0x03 0) { proposals = ((proposing 10 (account_on 1 (key 0x12)) (actions.NoConfidence (Some (action 0x02 0)))) ∷ []) }))) ∷
    (4, Read (records.Tx (record (spend 0x03 30) { proposals = ((proposing 10 (account_on 1 (key 0x12)) (actions.NoConfidence (Some (action 0x02 2)))) ∷ []) }))) ∷
    (5, Read (records.Tx (record (spend 0x04 0) { proposals = ((proposing 10 (account_on 1 (key 0x12)) (actions.HardForkInitiation (Some (action 0x02 0)) (10, 1))) ∷ []) }))) ∷
    (6, Read (records.Tx (record (spend 0x04 0) { proposals = ((proposing 10 (account_on 1 (key 0x12)) (actions.ParameterChange (Some (action 0x02 1)) (record no_update { n_opt = (Some 1) }) None)) ∷ []) }))) ∷
    (7, Read (records.Tx (record (spend 0x04 0) { proposals = ((proposing 10 (account_on 1 (key 0x12)) (actions.NewConstitution (Some (action 0x02 2)) (h32 0x03) None)) ∷ []) }))) ∷
    (8, Read (records.Tx (record (spend 0x04 20) { proposals = ((proposing 10 (account_on 1 (key 0x12)) (actions.Info)) ∷ (proposing 10 (account_on 1 (key 0x12)) (actions.NewConstitution (Some (action 0x02 0)) (h32 0x04) None)) ∷ []) }))) ∷
    (9, Read (records.Block 10 1)) ∷
    (10, Read (records.Block 20 1)) ∷
    (11, Read (records.Print what.State)) ∷
    (12, Read (records.Tx (record (spend 0x05 0) { proposals = ((proposing 10 (account_on 1 (key 0x12)) (actions.UpdateCommittee None [] [] (share 1 2))) ∷ []) }))) ∷
    (13, Read (records.Tx (record (spend 0x05 30) { proposals = ((proposing 10 (account_on 1 (key 0x12)) (actions.UpdateCommittee (Some (action 0x02 2)) [] [] (share 1 2))) ∷ []) }))) ∷
    (14, Read (records.Tx (record (spend 0x06 30) { proposals = ((proposing 10 (account_on 1 (key 0x12)) (actions.UpdateCommittee (Some (action 0x03 0)) [] [] (share 1 3))) ∷ []) }))) ∷
    (15, Read (records.Tx (record (spend 0x07 0) { proposals = ((proposing 10 (account_on 1 (key 0x12)) (actions.HardForkInitiation None (10, 2))) ∷ []) }))) ∷
    (16, Read (records.Block 30 1)) ∷
    (17, Read (records.Print what.State)) ∷
    []

pub previous_actions_of_the_purpose : says_all previous_actions_of_the_purpose_input (
    codes "1 genesis outputs 360 deposits 21 rewards 100 fees 0 donations 0 treasury 100 reserves 419 supply 1000" ∷
    codes "2 accepted" ∷
    codes "3 refused 90 PreviousWrong at 0" ∷
    codes "4 accepted" ∷
    codes "5 refused 90 PreviousWrong at 0" ∷
    codes "6 refused 90 PreviousWrong at 0" ∷
    codes "7 refused 90 PreviousWrong at 0" ∷
    codes "8 accepted" ∷
    codes "9 epoch 1 frozen 3 dormant 0" ∷
    codes "9 stake k00000000000000000000000000000000000000000000000000000030 67" ∷
    codes "9 stake k00000000000000000000000000000000000000000000000000000031 33" ∷
    codes "9 pots outputs 240 deposits 81 rewards 100 fees 60 donations 0 treasury 100 reserves 419 supply 1000" ∷
    codes "9 block slot 10 epoch 1 counted 1 of 3" ∷
    codes "10 epoch 2 frozen 3 dormant 0" ∷
    codes "10 stake k00000000000000000000000000000000000000000000000000000030 67" ∷
    codes "10 stake k00000000000000000000000000000000000000000000000000000031 33" ∷
    codes "10 tally 0000000000000000000000000000000000000000000000000000000000000003#0 NoConfidence committee 0/1 need none drep 0/100 need 0/1 pool 0/0 need 0/1 waiting" ∷
    codes "10 tally 0000000000000000000000000000000000000000000000000000000000000002#2 UpdateCommittee committee 0/1 need none drep 0/100 need 0/1 pool 0/0 need 0/1 ratified" ∷
    codes "10 tally 0000000000000000000000000000000000000000000000000000000000000002#0 NewConstitution committee 0/1 need 1/2 drep 0/100 need 0/1 pool 0/0 need none waiting" ∷
    codes "10 tally 0000000000000000000000000000000000000000000000000000000000000004#1 NewConstitution committee 0/1 need 1/2 drep 0/100 need 0/1 pool 0/0 need none waiting" ∷
    codes "10 tally 0000000000000000000000000000000000000000000000000000000000000002#1 HardForkInitiation committee 0/1 need 1/2 drep 0/100 need 0/1 pool 0/0 need 0/1 waiting" ∷
    codes "10 tally 0000000000000000000000000000000000000000000000000000000000000004#0 Info committee 0/1 need never drep 0/100 need never pool 0/0 need never waiting" ∷
    codes "10 removed 0000000000000000000000000000000000000000000000000000000000000002#2 enacted refund 10 1k00000000000000000000000000000000000000000000000000000012" ∷
    codes "10 pots outputs 240 deposits 71 rewards 110 fees 60 donations 0 treasury 100 reserves 419 supply 1000" ∷
    codes "10 block slot 20 epoch 2 counted 1 of 3" ∷
    codes "11 now slot 20 epoch 2 version 10.0 dormant 0" ∷
    codes "11 constitution 0000000000000000000000000000000000000000000000000000000000000001 none" ∷
    codes "11 committee threshold 1/2" ∷
    codes "11 member k00000000000000000000000000000000000000000000000000000060 term 9 hot none" ∷
    codes "11 member k00000000000000000000000000000000000000000000000000000070 term 100 hot k00000000000000000000000000000000000000000000000000000071" ∷
    codes "11 enacted committee 0000000000000000000000000000000000000000000000000000000000000002#2 constitution none hardfork none parameters none" ∷
    codes "11 param maxBlockBodySize 90112" ∷
    codes "11 param maxTxSize 16384" ∷
    codes "11 param maxBlockHeaderSize 1100" ∷
    codes "11 param maxValueSize 5000" ∷
    codes "11 param maxTxExUnits 1000 1000" ∷
    codes "11 param maxBlockExUnits 1000 1000" ∷
    codes "11 param maxCollateralInputs 3" ∷
    codes "11 param minFeeA 0" ∷
    codes "11 param minFeeB 0" ∷
    codes "11 param keyDeposit 2" ∷
    codes "11 param poolDeposit 5" ∷
    codes "11 param rho 0/1" ∷
    codes "11 param tau 0/1" ∷
    codes "11 param minPoolCost 0" ∷
    codes "11 param coinsPerUTxOByte 0" ∷
    codes "11 param prices 0/1 0/1" ∷
    codes "11 param minFeeRefScriptCostPerByte 15/1" ∷
    codes "11 param a0 0/1" ∷
    codes "11 param eMax 18" ∷
    codes "11 param nOpt 500" ∷
    codes "11 param costModels 0000000000000000000000000000000000000000000000000000000000000000" ∷
    codes "11 param collateralPercentage 150" ∷
    codes "11 param poolVotingThresholds 0/1 0/1 0/1 0/1 0/1" ∷
    codes "11 param drepVotingThresholds 0/1 0/1 0/1 0/1 0/1 0/1 0/1 0/1 0/1 0/1" ∷
    codes "11 param govActionLifetime 6" ∷
    codes "11 param govActionDeposit 10" ∷
    codes "11 param drepDeposit 5" ∷
    codes "11 param drepActivity 20" ∷
    codes "11 param committeeMinSize 0" ∷
    codes "11 param committeeMaxTermLength 100" ∷
    codes "11 drep k00000000000000000000000000000000000000000000000000000030 deposit 5 expiry 20" ∷
    codes "11 drep k00000000000000000000000000000000000000000000000000000031 deposit 5 expiry 20" ∷
    codes "11 pool 00000000000000000000000000000000000000000000000000000050 deposit 5 cost 0 pledge 0 margin 0/1 account 1k00000000000000000000000000000000000000000000000000000012 retires never" ∷
    codes "11 account k00000000000000000000000000000000000000000000000000000010 stake 0 deposit 2 rewards 67 pool none drep k00000000000000000000000000000000000000000000000000000030" ∷
    codes "11 account k00000000000000000000000000000000000000000000000000000011 stake 0 deposit 2 rewards 33 pool none drep k00000000000000000000000000000000000000000000000000000031" ∷
    codes "11 account k00000000000000000000000000000000000000000000000000000012 stake 0 deposit 2 rewards 10 pool none drep none" ∷
    codes "11 output 0000000000000000000000000000000000000000000000000000000000000001#5 1k00000000000000000000000000000000000000000000000000000001 40" ∷
    codes "11 output 0000000000000000000000000000000000000000000000000000000000000001#6 1k00000000000000000000000000000000000000000000000000000001 40" ∷
    codes "11 output 0000000000000000000000000000000000000000000000000000000000000001#7 1k00000000000000000000000000000000000000000000000000000001 40" ∷
    codes "11 output 0000000000000000000000000000000000000000000000000000000000000001#8 1k00000000000000000000000000000000000000000000000000000001 40" ∷
    codes "11 output 0000000000000000000000000000000000000000000000000000000000000001#9 1k00000000000000000000000000000000000000000000000000000001 40" ∷
    codes "11 output 0000000000000000000000000000000000000000000000000000000000000001#10 1k00000000000000000000000000000000000000000000000000000001 40" ∷
    codes "11 proposal 0000000000000000000000000000000000000000000000000000000000000002#0 NewConstitution deposit 10 return 1k00000000000000000000000000000000000000000000000000000012 expires 6 previous none" ∷
    codes "11 proposal 0000000000000000000000000000000000000000000000000000000000000002#1 HardForkInitiation deposit 10 return 1k00000000000000000000000000000000000000000000000000000012 expires 6 previous none" ∷
    codes "11 proposal 0000000000000000000000000000000000000000000000000000000000000003#0 NoConfidence deposit 10 return 1k00000000000000000000000000000000000000000000000000000012 expires 6 previous 0000000000000000000000000000000000000000000000000000000000000002#2" ∷
    codes "11 proposal 0000000000000000000000000000000000000000000000000000000000000004#0 Info deposit 10 return 1k00000000000000000000000000000000000000000000000000000012 expires 6 previous none" ∷
    codes "11 proposal 0000000000000000000000000000000000000000000000000000000000000004#1 NewConstitution deposit 10 return 1k00000000000000000000000000000000000000000000000000000012 expires 6 previous 0000000000000000000000000000000000000000000000000000000000000002#0" ∷
    codes "11 snapshot mark 00000000000000000000000000000000000000000000000000000050 0" ∷
    codes "11 snapshot set 00000000000000000000000000000000000000000000000000000050 0" ∷
    codes "11 snapshot go 00000000000000000000000000000000000000000000000000000050 0" ∷
    codes "11 snapshot fees 60" ∷
    codes "11 pending none" ∷
    codes "11 pots outputs 240 deposits 71 rewards 110 fees 60 donations 0 treasury 100 reserves 419 supply 1000" ∷
    codes "12 refused 90 PreviousWrong at 0" ∷
    codes "13 accepted" ∷
    codes "14 accepted" ∷
    codes "15 refused 91 CannotFollow at 0" ∷
    codes "16 epoch 3 frozen 3 dormant 0" ∷
    codes "16 stake k00000000000000000000000000000000000000000000000000000030 67" ∷
    codes "16 stake k00000000000000000000000000000000000000000000000000000031 33" ∷
    codes "16 tally 0000000000000000000000000000000000000000000000000000000000000003#0 NoConfidence committee 0/1 need none drep 0/100 need 0/1 pool 0/0 need 0/1 ratified" ∷
    codes "16 tally 0000000000000000000000000000000000000000000000000000000000000002#0 NewConstitution committee 0/1 need never drep 0/100 need 0/1 pool 0/0 need none waiting" ∷
    codes "16 tally 0000000000000000000000000000000000000000000000000000000000000004#1 NewConstitution committee 0/1 need never drep 0/100 need 0/1 pool 0/0 need none waiting" ∷
    codes "16 tally 0000000000000000000000000000000000000000000000000000000000000002#1 HardForkInitiation committee 0/1 need never drep 0/100 need 0/1 pool 0/0 need 0/1 waiting" ∷
    codes "16 tally 0000000000000000000000000000000000000000000000000000000000000004#0 Info committee 0/1 need never drep 0/100 need never pool 0/0 need never waiting" ∷
    codes "16 removed 0000000000000000000000000000000000000000000000000000000000000003#0 enacted refund 10 1k00000000000000000000000000000000000000000000000000000012" ∷
    codes "16 removed 0000000000000000000000000000000000000000000000000000000000000005#0 dropped refund 10 1k00000000000000000000000000000000000000000000000000000012" ∷
    codes "16 pots outputs 160 deposits 71 rewards 130 fees 120 donations 0 treasury 100 reserves 419 supply 1000" ∷
    codes "16 block slot 30 epoch 3 counted 1 of 3" ∷
    codes "17 now slot 30 epoch 3 version 10.0 dormant 0" ∷
    codes "17 constitution 0000000000000000000000000000000000000000000000000000000000000001 none" ∷
    codes "17 committee none" ∷
    codes "17 enacted committee 0000000000000000000000000000000000000000000000000000000000000003#0 constitution none hardfork none parameters none" ∷
    codes "17 param maxBlockBodySize 90112" ∷
    codes "17 param maxTxSize 16384" ∷
    codes "17 param maxBlockHeaderSize 1100" ∷
    codes "17 param maxValueSize 5000" ∷
    codes "17 param maxTxExUnits 1000 1000" ∷
    codes "17 param maxBlockExUnits 1000 1000" ∷
    codes "17 param maxCollateralInputs 3" ∷
    codes "17 param minFeeA 0" ∷
    codes "17 param minFeeB 0" ∷
    codes "17 param keyDeposit 2" ∷
    codes "17 param poolDeposit 5" ∷
    codes "17 param rho 0/1" ∷
    codes "17 param tau 0/1" ∷
    codes "17 param minPoolCost 0" ∷
    codes "17 param coinsPerUTxOByte 0" ∷
    codes "17 param prices 0/1 0/1" ∷
    codes "17 param minFeeRefScriptCostPerByte 15/1" ∷
    codes "17 param a0 0/1" ∷
    codes "17 param eMax 18" ∷
    codes "17 param nOpt 500" ∷
    codes "17 param costModels 0000000000000000000000000000000000000000000000000000000000000000" ∷
    codes "17 param collateralPercentage 150" ∷
    codes "17 param poolVotingThresholds 0/1 0/1 0/1 0/1 0/1" ∷
    codes "17 param drepVotingThresholds 0/1 0/1 0/1 0/1 0/1 0/1 0/1 0/1 0/1 0/1" ∷
    codes "17 param govActionLifetime 6" ∷
    codes "17 param govActionDeposit 10" ∷
    codes "17 param drepDeposit 5" ∷
    codes "17 param drepActivity 20" ∷
    codes "17 param committeeMinSize 0" ∷
    codes "17 param committeeMaxTermLength 100" ∷
    codes "17 drep k00000000000000000000000000000000000000000000000000000030 deposit 5 expiry 20" ∷
    codes "17 drep k00000000000000000000000000000000000000000000000000000031 deposit 5 expiry 20" ∷
    codes "17 pool 00000000000000000000000000000000000000000000000000000050 deposit 5 cost 0 pledge 0 margin 0/1 account 1k00000000000000000000000000000000000000000000000000000012 retires never" ∷
    codes "17 account k00000000000000000000000000000000000000000000000000000010 stake 0 deposit 2 rewards 67 pool none drep k00000000000000000000000000000000000000000000000000000030" ∷
    codes "17 account k00000000000000000000000000000000000000000000000000000011 stake 0 deposit 2 rewards 33 pool none drep k00000000000000000000000000000000000000000000000000000031" ∷
    codes "17 account k00000000000000000000000000000000000000000000000000000012 stake 0 deposit 2 rewards 30 pool none drep none" ∷
    codes "17 output 0000000000000000000000000000000000000000000000000000000000000001#7 1k00000000000000000000000000000000000000000000000000000001 40" ∷
    codes "17 output 0000000000000000000000000000000000000000000000000000000000000001#8 1k00000000000000000000000000000000000000000000000000000001 40" ∷
    codes "17 output 0000000000000000000000000000000000000000000000000000000000000001#9 1k00000000000000000000000000000000000000000000000000000001 40" ∷
    codes "17 output 0000000000000000000000000000000000000000000000000000000000000001#10 1k00000000000000000000000000000000000000000000000000000001 40" ∷
    codes "17 proposal 0000000000000000000000000000000000000000000000000000000000000002#0 NewConstitution deposit 10 return 1k00000000000000000000000000000000000000000000000000000012 expires 6 previous none" ∷
    codes "17 proposal 0000000000000000000000000000000000000000000000000000000000000002#1 HardForkInitiation deposit 10 return 1k00000000000000000000000000000000000000000000000000000012 expires 6 previous none" ∷
    codes "17 proposal 0000000000000000000000000000000000000000000000000000000000000004#0 Info deposit 10 return 1k00000000000000000000000000000000000000000000000000000012 expires 6 previous none" ∷
    codes "17 proposal 0000000000000000000000000000000000000000000000000000000000000004#1 NewConstitution deposit 10 return 1k00000000000000000000000000000000000000000000000000000012 expires 6 previous 0000000000000000000000000000000000000000000000000000000000000002#0" ∷
    codes "17 proposal 0000000000000000000000000000000000000000000000000000000000000006#0 UpdateCommittee deposit 10 return 1k00000000000000000000000000000000000000000000000000000012 expires 8 previous 0000000000000000000000000000000000000000000000000000000000000003#0" ∷
    codes "17 snapshot mark 00000000000000000000000000000000000000000000000000000050 0" ∷
    codes "17 snapshot set 00000000000000000000000000000000000000000000000000000050 0" ∷
    codes "17 snapshot go 00000000000000000000000000000000000000000000000000000050 0" ∷
    codes "17 snapshot fees 120" ∷
    codes "17 pending none" ∷
    codes "17 pots outputs 160 deposits 71 rewards 130 fees 120 donations 0 treasury 100 reserves 419 supply 1000" ∷
    []) ≡ true
unfolding digits encode_with
previous_actions_of_the_purpose = refl

abbrev votes_that_are_allowed_input : List (ℕ × Reading)
votes_that_are_allowed_input =
    (1, Read (records.Genesis (record { network = 1; slot = 20; epoch_length = 10; version = (10, 0); supply = 3000; reserves = 1179; treasury = 100; params = base_params; document = (h32 0x01); script = None; committee = (Some (record { threshold = (share 0 1); members = (((key 0x70), 100, (Some (key 0x71))) ∷ []) })); outputs = (((ref 0x01 2), (address_with 1 (key 0x01) None), 200, []) ∷ ((ref 0x01 3), (address_with 1 (key 0x01) None), 200, []) ∷ ((ref 0x01 4), (address_with 1 (key 0x01) None), 200, []) ∷ ((ref 0x01 5), (address_with 1 (key 0x01) None), 200, []) ∷ ((ref 0x01 6), (address_with 1 (key 0x01) None), 200, []) ∷ ((ref 0x01 7), (address_with 1 (key 0x01) None), 200, []) ∷ ((ref 0x01 8), (address_with 1 (key 0x01) None), 200, []) ∷ ((ref 0x01 9), (address_with 1 (key 0x01) None), 200, []) ∷ []); accounts = (((key 0x10), 2, 67, None, (Some (drep.Registered (key 0x30)))) ∷ ((key 0x11), 2, 33, None, (Some (drep.Registered (key 0x31)))) ∷ ((key 0x12), 2, 0, None, None) ∷ []); pools = ((record { pool = (pool 0x50); deposit = 5; cost = 0; pledge = 0; margin = (share 0 1); account = (account_on 1 (key 0x12)); key = None }) ∷ []); dreps = (((key 0x30), 5, 20) ∷ ((key 0x31), 5, 20) ∷ []) }))) ∷
    (2, Read (records.Tx (record (spend 0x02 115) { certs = ((certs.DrepReg (script 0x31) None) ∷ []); proposals = ((proposing 10 (account_on 1 (key 0x12)) (actions.NoConfidence None)) ∷ (proposing 10 (account_on 1 (key 0x12)) (actions.UpdateCommittee None [] [] (share 1 2))) ∷ (proposing 10 (account_on 1 (key 0x12)) (actions.NewConstitution None (h32 0x02) None)) ∷ (proposing 10 (account_on 1 (key 0x12)) (actions.HardForkInitiation None (10, 1))) ∷ (proposing 10 (account_on 1 (key 0x12)) (actions.ParameterChange None (record no_update { max_tx_size = (Some 9) }) None)) ∷ (proposing 10 (account_on 1 (key 0x12)) (actions.ParameterChange None (record no_update { n_opt = (Some 9) }) None)) ∷ (proposing 10 (account_on 1 (key 0x12)) (actions.TreasuryWithdrawals (((account_on 1 (key 0x12)), 1) ∷ []) None)) ∷ (proposing 10 (account_on 1 (key 0x12)) (actions.Info)) ∷ []) }))) ∷
    (3, Read (records.Tx (record (spend 0x03 0) { votes = ((voting (voter.Drep (key 0x30)) (action 0x02 7) vote.Yes) ∷ (voting (voter.Committee (key 0x71)) (action 0x02 0) vote.Yes) ∷ []) }))) ∷
    (4, Read (records.Tx (record (spend 0x03 0) { votes = ((voting (voter.Drep (key 0x30)) (action 0x02 7) vote.Yes) ∷ (voting (voter.Committee (key 0x71)) (action 0x02 1) vote.Yes) ∷ []) }))) ∷
    (5, Read (records.Tx (record (spend 0x03 0) { votes = ((voting (voter.Drep (key 0x30)) (action 0x02 7) vote.Yes) ∷ (voting (voter.Pool (pool 0x50)) (action 0x02 2) vote.Yes) ∷ []) }))) ∷
    (6, Read (records.Tx (record (spend 0x03 0) { votes = ((voting (voter.Drep (key 0x30)) (action 0x02 7) vote.Yes) ∷ (voting (voter.Pool (pool 0x50)) (action 0x02 5) vote.Yes) ∷ []) }))) ∷
    (7, Read (records.Tx (record (spend 0x03 0) { votes = ((voting (voter.Drep (key 0x30)) (action 0x02 7) vote.Yes) ∷ (voting (voter.Pool (pool 0x50)) (action 0x02 6) vote.Yes) ∷ []) }))) ∷
    (8, Read (records.Tx (record (spend 0x03 0) { votes = ((voting (voter.Drep (key 0x30)) (action 0x02 0) vote.Yes) ∷ (voting (voter.Drep (key 0x30)) (action 0x02 8) vote.Yes) ∷ []) }))) ∷
    (9, Read (records.Tx (record (spend 0x03 0) { votes = ((voting (voter.Drep (key 0x30)) (action 0x02 0) vote.Yes) ∷ (voting (voter.Drep (script 0x30)) (action 0x02 0) vote.Yes) ∷ []) }))) ∷
    (10, Read (records.Tx (record (spend 0x03 0) { votes = ((voting (voter.Drep (key 0x30)) (action 0x02 0) vote.Yes) ∷ (voting (voter.Committee (key 0x70)) (action 0x02 2) vote.Yes) ∷ []) }))) ∷
    (11, Read (records.Tx (record (spend 0x03 0) { votes = ((voting (voter.Drep (key 0x30)) (action 0x02 0) vote.Yes) ∷ (voting (voter.Committee (key 0x70)) (action 0x02 0) vote.Yes) ∷ []) }))) ∷
    (12, Read (records.Tx (record (spend 0x03 0) { votes = ((voting (voter.Drep (key 0x30)) (action 0x02 0) vote.Yes) ∷ (voting (voter.Pool (pool 0x51)) (action 0x02 0) vote.Yes) ∷ []) }))) ∷
    (13, Read (records.Tx (record (spend 0x03 0) { certs = ((certs.DrepUnreg (key 0x30) None) ∷ []); votes = ((voting (voter.Drep (key 0x30)) (action 0x02 0) vote.Yes) ∷ []) }))) ∷
    (14, Read (records.Tx (record (spend 0x03 0) { certs = ((certs.HotAuth (key 0x70) (key 0x72)) ∷ []); votes = ((voting (voter.Committee (key 0x71)) (action 0x02 2) vote.Yes) ∷ []) }))) ∷
    (15, Read (records.Tx (record (spend 0x03 195) { certs = ((certs.DrepReg (key 0x32) None) ∷ (certs.HotAuth (key 0x70) (key 0x72)) ∷ []); votes = ((voting (voter.Pool (pool 0x50)) (action 0x02 0) vote.Yes) ∷ (voting (voter.Pool (pool 0x50)) (action 0x02 1) vote.No) ∷ (voting (voter.Pool (pool 0x50)) (action 0x02 3) vote.Yes) ∷ (voting (voter.Pool (pool 0x50)) (action 0x02 4) vote.No) ∷ (voting (voter.Pool (pool 0x50)) (action 0x02 7) vote.No) ∷ (voting (voter.Drep (script 0x31)) (action 0x02 0) vote.Yes) ∷ (voting (voter.Drep (script 0x31)) (action 0x02 1) vote.No) ∷ (voting (voter.Drep (script 0x31)) (action 0x02 2) vote.Abstain) ∷ (voting (voter.Drep (script 0x31)) (action 0x02 3) vote.Yes) ∷ (voting (voter.Drep (script 0x31)) (action 0x02 4) vote.No) ∷ (voting (voter.Drep (script 0x31)) (action 0x02 5) vote.Abstain) ∷ (voting (voter.Drep (script 0x31)) (action 0x02 6) vote.Yes) ∷ (voting (voter.Drep (script 0x31)) (action 0x02 7) vote.No) ∷ (voting (voter.Drep (key 0x32)) (action 0x02 0) vote.Yes) ∷ (voting (voter.Drep (key 0x32)) (action 0x02 1) vote.No) ∷ (voting (voter.Drep (key 0x32)) (action 0x02 2) vote.Abstain) ∷ (voting (voter.Drep (key 0x32)) (action 0x02 3) vote.Yes) ∷ (voting (voter.Drep (key 0x32)) (action 0x02 4) vote.No) ∷ (voting (voter.Drep (key 0x32)) (action 0x02 5) vote.Abstain) ∷ (voting (voter.Drep (key 0x32)) (action 0x02 6) vote.Yes) ∷ (voting (voter.Drep (key 0x32)) (action 0x02 7) vote.No) ∷ (voting (voter.Committee (key 0x72)) (action 0x02 2) vote.Abstain) ∷ (voting (voter.Committee (key 0x72)) (action 0x02 3) vote.Yes) ∷ (voting (voter.Committee (key 0x72)) (action 0x02 4) vote.No) ∷ (voting (voter.Committee (key 0x72)) (action 0x02 5) vote.Abstain) ∷ (voting (voter.Committee (key 0x72)) (action 0x02 6) vote.Yes) ∷ (voting (voter.Committee (key 0x72)) (action 0x02 7) vote.No) ∷ (voting (voter.Pool (pool 0x50)) (action 0x02 0) vote.No) ∷ []) }))) ∷
    (16, Read (records.Print what.State)) ∷
    []

pub votes_that_are_allowed : says_all votes_that_are_allowed_input (
    codes "1 genesis outputs 1600 deposits 21 rewards 100 fees 0 donations 0 treasury 100 reserves 1179 supply 3000" ∷
    codes "2 accepted" ∷
    codes "3 refused 102 VoterNotAllowed at 1" ∷
    codes "4 refused 102 VoterNotAllowed at 1" ∷
    codes "5 refused 102 VoterNotAllowed at 1" ∷
    codes "6 refused 102 VoterNotAllowed at 1" ∷
    codes "7 refused 102 VoterNotAllowed at 1" ∷
    codes "8 refused 100 ActionUnknown at 1" ∷
    codes "9 refused 101 VoterUnknown at 1" ∷
    codes "10 refused 101 VoterUnknown at 1" ∷
    codes "11 refused 101 VoterUnknown at 1" ∷
    codes "12 refused 101 VoterUnknown at 1" ∷
    codes "13 refused 101 VoterUnknown at 0" ∷
    codes "14 refused 101 VoterUnknown at 0" ∷
    codes "15 accepted" ∷
    codes "16 now slot 20 epoch 2 version 10.0 dormant 0" ∷
    codes "16 constitution 0000000000000000000000000000000000000000000000000000000000000001 none" ∷
    codes "16 committee threshold 0/1" ∷
    codes "16 member k00000000000000000000000000000000000000000000000000000070 term 100 hot k00000000000000000000000000000000000000000000000000000072" ∷
    codes "16 enacted committee none constitution none hardfork none parameters none" ∷
    codes "16 param maxBlockBodySize 90112" ∷
    codes "16 param maxTxSize 16384" ∷
    codes "16 param maxBlockHeaderSize 1100" ∷
    codes "16 param maxValueSize 5000" ∷
    codes "16 param maxTxExUnits 1000 1000" ∷
    codes "16 param maxBlockExUnits 1000 1000" ∷
    codes "16 param maxCollateralInputs 3" ∷
    codes "16 param minFeeA 0" ∷
    codes "16 param minFeeB 0" ∷
    codes "16 param keyDeposit 2" ∷
    codes "16 param poolDeposit 5" ∷
    codes "16 param rho 0/1" ∷
    codes "16 param tau 0/1" ∷
    codes "16 param minPoolCost 0" ∷
    codes "16 param coinsPerUTxOByte 0" ∷
    codes "16 param prices 0/1 0/1" ∷
    codes "16 param minFeeRefScriptCostPerByte 15/1" ∷
    codes "16 param a0 0/1" ∷
    codes "16 param eMax 18" ∷
    codes "16 param nOpt 500" ∷
    codes "16 param costModels 0000000000000000000000000000000000000000000000000000000000000000" ∷
    codes "16 param collateralPercentage 150" ∷
    codes "16 param poolVotingThresholds 0/1 0/1 0/1 0/1 0/1" ∷
    codes "16 param drepVotingThresholds 67/100 67/100 67/100 67/100 67/100 67/100 67/100 67/100 67/100 67/100" ∷
    codes "16 param govActionLifetime 2" ∷
    codes "16 param govActionDeposit 10" ∷
    codes "16 param drepDeposit 5" ∷
    codes "16 param drepActivity 20" ∷
    codes "16 param committeeMinSize 0" ∷
    codes "16 param committeeMaxTermLength 100" ∷
    codes "16 drep k00000000000000000000000000000000000000000000000000000030 deposit 5 expiry 20" ∷
    codes "16 drep k00000000000000000000000000000000000000000000000000000031 deposit 5 expiry 20" ∷
    codes "16 drep s00000000000000000000000000000000000000000000000000000031 deposit 5 expiry 22" ∷
    codes "16 drep k00000000000000000000000000000000000000000000000000000032 deposit 5 expiry 22" ∷
    codes "16 pool 00000000000000000000000000000000000000000000000000000050 deposit 5 cost 0 pledge 0 margin 0/1 account 1k00000000000000000000000000000000000000000000000000000012 retires never" ∷
    codes "16 account k00000000000000000000000000000000000000000000000000000010 stake 0 deposit 2 rewards 67 pool none drep k00000000000000000000000000000000000000000000000000000030" ∷
    codes "16 account k00000000000000000000000000000000000000000000000000000011 stake 0 deposit 2 rewards 33 pool none drep k00000000000000000000000000000000000000000000000000000031" ∷
    codes "16 account k00000000000000000000000000000000000000000000000000000012 stake 0 deposit 2 rewards 0 pool none drep none" ∷
    codes "16 output 0000000000000000000000000000000000000000000000000000000000000001#4 1k00000000000000000000000000000000000000000000000000000001 200" ∷
    codes "16 output 0000000000000000000000000000000000000000000000000000000000000001#5 1k00000000000000000000000000000000000000000000000000000001 200" ∷
    codes "16 output 0000000000000000000000000000000000000000000000000000000000000001#6 1k00000000000000000000000000000000000000000000000000000001 200" ∷
    codes "16 output 0000000000000000000000000000000000000000000000000000000000000001#7 1k00000000000000000000000000000000000000000000000000000001 200" ∷
    codes "16 output 0000000000000000000000000000000000000000000000000000000000000001#8 1k00000000000000000000000000000000000000000000000000000001 200" ∷
    codes "16 output 0000000000000000000000000000000000000000000000000000000000000001#9 1k00000000000000000000000000000000000000000000000000000001 200" ∷
    codes "16 proposal 0000000000000000000000000000000000000000000000000000000000000002#0 NoConfidence deposit 10 return 1k00000000000000000000000000000000000000000000000000000012 expires 4 previous none" ∷
    codes "16 vote 0000000000000000000000000000000000000000000000000000000000000002#0 drep:s00000000000000000000000000000000000000000000000000000031 yes" ∷
    codes "16 vote 0000000000000000000000000000000000000000000000000000000000000002#0 drep:k00000000000000000000000000000000000000000000000000000032 yes" ∷
    codes "16 vote 0000000000000000000000000000000000000000000000000000000000000002#0 pool:00000000000000000000000000000000000000000000000000000050 no" ∷
    codes "16 proposal 0000000000000000000000000000000000000000000000000000000000000002#1 UpdateCommittee deposit 10 return 1k00000000000000000000000000000000000000000000000000000012 expires 4 previous none" ∷
    codes "16 vote 0000000000000000000000000000000000000000000000000000000000000002#1 drep:s00000000000000000000000000000000000000000000000000000031 no" ∷
    codes "16 vote 0000000000000000000000000000000000000000000000000000000000000002#1 drep:k00000000000000000000000000000000000000000000000000000032 no" ∷
    codes "16 vote 0000000000000000000000000000000000000000000000000000000000000002#1 pool:00000000000000000000000000000000000000000000000000000050 no" ∷
    codes "16 proposal 0000000000000000000000000000000000000000000000000000000000000002#2 NewConstitution deposit 10 return 1k00000000000000000000000000000000000000000000000000000012 expires 4 previous none" ∷
    codes "16 vote 0000000000000000000000000000000000000000000000000000000000000002#2 committee:k00000000000000000000000000000000000000000000000000000072 abstain" ∷
    codes "16 vote 0000000000000000000000000000000000000000000000000000000000000002#2 drep:s00000000000000000000000000000000000000000000000000000031 abstain" ∷
    codes "16 vote 0000000000000000000000000000000000000000000000000000000000000002#2 drep:k00000000000000000000000000000000000000000000000000000032 abstain" ∷
    codes "16 proposal 0000000000000000000000000000000000000000000000000000000000000002#3 HardForkInitiation deposit 10 return 1k00000000000000000000000000000000000000000000000000000012 expires 4 previous none" ∷
    codes "16 vote 0000000000000000000000000000000000000000000000000000000000000002#3 committee:k00000000000000000000000000000000000000000000000000000072 yes" ∷
    codes "16 vote 0000000000000000000000000000000000000000000000000000000000000002#3 drep:s00000000000000000000000000000000000000000000000000000031 yes" ∷
    codes "16 vote 0000000000000000000000000000000000000000000000000000000000000002#3 drep:k00000000000000000000000000000000000000000000000000000032 yes" ∷
    codes "16 vote 0000000000000000000000000000000000000000000000000000000000000002#3 pool:00000000000000000000000000000000000000000000000000000050 yes" ∷
    codes "16 proposal 0000000000000000000000000000000000000000000000000000000000000002#4 ParameterChange deposit 10 return 1k00000000000000000000000000000000000000000000000000000012 expires 4 previous none" ∷
    codes "16 vote 0000000000000000000000000000000000000000000000000000000000000002#4 committee:k00000000000000000000000000000000000000000000000000000072 no" ∷
    codes "16 vote 0000000000000000000000000000000000000000000000000000000000000002#4 drep:s00000000000000000000000000000000000000000000000000000031 no" ∷
    codes "16 vote 0000000000000000000000000000000000000000000000000000000000000002#4 drep:k00000000000000000000000000000000000000000000000000000032 no" ∷
    codes "16 vote 0000000000000000000000000000000000000000000000000000000000000002#4 pool:00000000000000000000000000000000000000000000000000000050 no" ∷
    codes "16 proposal 0000000000000000000000000000000000000000000000000000000000000002#5 ParameterChange deposit 10 return 1k00000000000000000000000000000000000000000000000000000012 expires 4 previous none" ∷
    codes "16 vote 0000000000000000000000000000000000000000000000000000000000000002#5 committee:k00000000000000000000000000000000000000000000000000000072 abstain" ∷
    codes "16 vote 0000000000000000000000000000000000000000000000000000000000000002#5 drep:s00000000000000000000000000000000000000000000000000000031 abstain" ∷
    codes "16 vote 0000000000000000000000000000000000000000000000000000000000000002#5 drep:k00000000000000000000000000000000000000000000000000000032 abstain" ∷
    codes "16 proposal 0000000000000000000000000000000000000000000000000000000000000002#6 TreasuryWithdrawals deposit 10 return 1k00000000000000000000000000000000000000000000000000000012 expires 4 previous none" ∷
    codes "16 vote 0000000000000000000000000000000000000000000000000000000000000002#6 committee:k00000000000000000000000000000000000000000000000000000072 yes" ∷
    codes "16 vote 0000000000000000000000000000000000000000000000000000000000000002#6 drep:s00000000000000000000000000000000000000000000000000000031 yes" ∷
    codes "16 vote 0000000000000000000000000000000000000000000000000000000000000002#6 drep:k00000000000000000000000000000000000000000000000000000032 yes" ∷
    codes "16 proposal 0000000000000000000000000000000000000000000000000000000000000002#7 Info deposit 10 return 1k00000000000000000000000000000000000000000000000000000012 expires 4 previous none" ∷
    codes "16 vote 0000000000000000000000000000000000000000000000000000000000000002#7 committee:k00000000000000000000000000000000000000000000000000000072 no" ∷
    codes "16 vote 0000000000000000000000000000000000000000000000000000000000000002#7 drep:s00000000000000000000000000000000000000000000000000000031 no" ∷
    codes "16 vote 0000000000000000000000000000000000000000000000000000000000000002#7 drep:k00000000000000000000000000000000000000000000000000000032 no" ∷
    codes "16 vote 0000000000000000000000000000000000000000000000000000000000000002#7 pool:00000000000000000000000000000000000000000000000000000050 no" ∷
    codes "16 snapshot mark 00000000000000000000000000000000000000000000000000000050 0" ∷
    codes "16 snapshot fees 0" ∷
    codes "16 pending none" ∷
    codes "16 pots outputs 1200 deposits 111 rewards 100 fees 310 donations 0 treasury 100 reserves 1179 supply 3000" ∷
    []) ≡ true
unfolding digits encode_with
votes_that_are_allowed = refl

abbrev votes_change_and_stay_input : List (ℕ × Reading)
votes_change_and_stay_input =
    (1, Read (records.Genesis (record { network = 1; slot = 0; epoch_length = 10; version = (10, 0); supply = 1000; reserves = 639; treasury = 100; params = (record base_params { gov_action_lifetime = 1 }); document = (h32 0x01); script = None; committee = (Some (record { threshold = (share 0 1); members = (((key 0x70), 100, (Some (key 0x71))) ∷ []) })); outputs = (((ref 0x01 2), (address_with 1 (key 0x01) None), 20, []) ∷ ((ref 0x01 3), (address_with 1 (key 0x01) None), 20, []) ∷ ((ref 0x01 4), (address_with 1 (key 0x01) None), 20, []) ∷ ((ref 0x01 5), (address_with 1 (key 0x01) None), 20, []) ∷ ((ref 0x01 6), (address_with 1 (key 0x01) None), 20, []) ∷ ((ref 0x01 7), (address_with 1 (key 0x01) None), 20, []) ∷ ((ref 0x01 8), (address_with 1 (key 0x01) None), 20, []) ∷ []); accounts = (((key 0x10), 2, 67, None, (Some (drep.Registered (key 0x30)))) ∷ ((key 0x11), 2, 33, None, (Some (drep.Registered (key 0x31)))) ∷ ((key 0x12), 2, 0, None, None) ∷ []); pools = ((record { pool = (pool 0x50); deposit = 5; cost = 0; pledge = 0; margin = (share 0 1); account = (account_on 1 (key 0x12)); key = None }) ∷ []); dreps = (((key 0x30), 5, 20) ∷ ((key 0x31), 5, 20) ∷ []) }))) ∷
    (2, Read (records.Tx (record (spend 0x02 10) { proposals = ((proposing 10 (account_on 1 (key 0x12)) (actions.HardForkInitiation None (10, 1))) ∷ []) }))) ∷
    (3, Read (records.Tx (record (spend 0x03 20) { votes = ((voting (voter.Pool (pool 0x50)) (action 0x02 0) vote.Yes) ∷ (voting (voter.Drep (key 0x31)) (action 0x02 0) vote.Yes) ∷ (voting (voter.Drep (key 0x30)) (action 0x02 0) vote.No) ∷ (voting (voter.Committee (key 0x71)) (action 0x02 0) vote.Abstain) ∷ []) }))) ∷
    (4, Read (records.Tx (record (spend 0x04 20) { votes = ((voting (voter.Drep (key 0x31)) (action 0x02 0) vote.Abstain) ∷ (voting (voter.Drep (key 0x30)) (action 0x02 0) vote.Yes) ∷ (voting (voter.Drep (key 0x30)) (action 0x02 0) vote.No) ∷ []) }))) ∷
    (5, Read (records.Print what.State)) ∷
    (6, Read (records.Block 10 1)) ∷
    (7, Read (records.Tx (record (spend 0x05 20) { votes = ((voting (voter.Pool (pool 0x50)) (action 0x02 0) vote.No) ∷ (voting (voter.Committee (key 0x71)) (action 0x02 0) vote.Yes) ∷ []) }))) ∷
    (8, Read (records.Block 20 1)) ∷
    (9, Read (records.Tx (record (spend 0x06 0) { votes = ((voting (voter.Pool (pool 0x50)) (action 0x02 0) vote.Yes) ∷ []) }))) ∷
    (10, Read (records.Print what.State)) ∷
    (11, Read (records.Block 30 1)) ∷
    (12, Read (records.Print what.State)) ∷
    []

pub votes_change_and_stay : says_all votes_change_and_stay_input (
    codes "1 genesis outputs 140 deposits 21 rewards 100 fees 0 donations 0 treasury 100 reserves 639 supply 1000" ∷
    codes "2 accepted" ∷
    codes "3 accepted" ∷
    codes "4 accepted" ∷
    codes "5 now slot 0 epoch 0 version 10.0 dormant 0" ∷
    codes "5 constitution 0000000000000000000000000000000000000000000000000000000000000001 none" ∷
    codes "5 committee threshold 0/1" ∷
    codes "5 member k00000000000000000000000000000000000000000000000000000070 term 100 hot k00000000000000000000000000000000000000000000000000000071" ∷
    codes "5 enacted committee none constitution none hardfork none parameters none" ∷
    codes "5 param maxBlockBodySize 90112" ∷
    codes "5 param maxTxSize 16384" ∷
    codes "5 param maxBlockHeaderSize 1100" ∷
    codes "5 param maxValueSize 5000" ∷
    codes "5 param maxTxExUnits 1000 1000" ∷
    codes "5 param maxBlockExUnits 1000 1000" ∷
    codes "5 param maxCollateralInputs 3" ∷
    codes "5 param minFeeA 0" ∷
    codes "5 param minFeeB 0" ∷
    codes "5 param keyDeposit 2" ∷
    codes "5 param poolDeposit 5" ∷
    codes "5 param rho 0/1" ∷
    codes "5 param tau 0/1" ∷
    codes "5 param minPoolCost 0" ∷
    codes "5 param coinsPerUTxOByte 0" ∷
    codes "5 param prices 0/1 0/1" ∷
    codes "5 param minFeeRefScriptCostPerByte 15/1" ∷
    codes "5 param a0 0/1" ∷
    codes "5 param eMax 18" ∷
    codes "5 param nOpt 500" ∷
    codes "5 param costModels 0000000000000000000000000000000000000000000000000000000000000000" ∷
    codes "5 param collateralPercentage 150" ∷
    codes "5 param poolVotingThresholds 0/1 0/1 0/1 0/1 0/1" ∷
    codes "5 param drepVotingThresholds 67/100 67/100 67/100 67/100 67/100 67/100 67/100 67/100 67/100 67/100" ∷
    codes "5 param govActionLifetime 1" ∷
    codes "5 param govActionDeposit 10" ∷
    codes "5 param drepDeposit 5" ∷
    codes "5 param drepActivity 20" ∷
    codes "5 param committeeMinSize 0" ∷
    codes "5 param committeeMaxTermLength 100" ∷
    codes "5 drep k00000000000000000000000000000000000000000000000000000030 deposit 5 expiry 20" ∷
    codes "5 drep k00000000000000000000000000000000000000000000000000000031 deposit 5 expiry 20" ∷
    codes "5 pool 00000000000000000000000000000000000000000000000000000050 deposit 5 cost 0 pledge 0 margin 0/1 account 1k00000000000000000000000000000000000000000000000000000012 retires never" ∷
    codes "5 account k00000000000000000000000000000000000000000000000000000010 stake 0 deposit 2 rewards 67 pool none drep k00000000000000000000000000000000000000000000000000000030" ∷
    codes "5 account k00000000000000000000000000000000000000000000000000000011 stake 0 deposit 2 rewards 33 pool none drep k00000000000000000000000000000000000000000000000000000031" ∷
    codes "5 account k00000000000000000000000000000000000000000000000000000012 stake 0 deposit 2 rewards 0 pool none drep none" ∷
    codes "5 output 0000000000000000000000000000000000000000000000000000000000000001#5 1k00000000000000000000000000000000000000000000000000000001 20" ∷
    codes "5 output 0000000000000000000000000000000000000000000000000000000000000001#6 1k00000000000000000000000000000000000000000000000000000001 20" ∷
    codes "5 output 0000000000000000000000000000000000000000000000000000000000000001#7 1k00000000000000000000000000000000000000000000000000000001 20" ∷
    codes "5 output 0000000000000000000000000000000000000000000000000000000000000001#8 1k00000000000000000000000000000000000000000000000000000001 20" ∷
    codes "5 proposal 0000000000000000000000000000000000000000000000000000000000000002#0 HardForkInitiation deposit 10 return 1k00000000000000000000000000000000000000000000000000000012 expires 1 previous none" ∷
    codes "5 vote 0000000000000000000000000000000000000000000000000000000000000002#0 committee:k00000000000000000000000000000000000000000000000000000071 abstain" ∷
    codes "5 vote 0000000000000000000000000000000000000000000000000000000000000002#0 drep:k00000000000000000000000000000000000000000000000000000030 no" ∷
    codes "5 vote 0000000000000000000000000000000000000000000000000000000000000002#0 drep:k00000000000000000000000000000000000000000000000000000031 abstain" ∷
    codes "5 vote 0000000000000000000000000000000000000000000000000000000000000002#0 pool:00000000000000000000000000000000000000000000000000000050 yes" ∷
    codes "5 snapshot mark 00000000000000000000000000000000000000000000000000000050 0" ∷
    codes "5 snapshot fees 0" ∷
    codes "5 pending none" ∷
    codes "5 pots outputs 80 deposits 31 rewards 100 fees 50 donations 0 treasury 100 reserves 639 supply 1000" ∷
    codes "6 epoch 1 frozen 3 dormant 0" ∷
    codes "6 stake k00000000000000000000000000000000000000000000000000000030 67" ∷
    codes "6 stake k00000000000000000000000000000000000000000000000000000031 33" ∷
    codes "6 pots outputs 80 deposits 31 rewards 100 fees 50 donations 0 treasury 100 reserves 639 supply 1000" ∷
    codes "6 block slot 10 epoch 1 counted 1 of 3" ∷
    codes "7 accepted" ∷
    codes "8 epoch 2 frozen 3 dormant 0" ∷
    codes "8 stake k00000000000000000000000000000000000000000000000000000030 67" ∷
    codes "8 stake k00000000000000000000000000000000000000000000000000000031 33" ∷
    codes "8 tally 0000000000000000000000000000000000000000000000000000000000000002#0 HardForkInitiation committee 0/0 need 0/1 drep 0/67 need 67/100 pool 0/0 need 0/1 waiting" ∷
    codes "8 pots outputs 60 deposits 31 rewards 100 fees 70 donations 0 treasury 100 reserves 639 supply 1000" ∷
    codes "8 block slot 20 epoch 2 counted 1 of 3" ∷
    codes "9 refused 103 VotingExpired at 0" ∷
    codes "10 now slot 20 epoch 2 version 10.0 dormant 0" ∷
    codes "10 constitution 0000000000000000000000000000000000000000000000000000000000000001 none" ∷
    codes "10 committee threshold 0/1" ∷
    codes "10 member k00000000000000000000000000000000000000000000000000000070 term 100 hot k00000000000000000000000000000000000000000000000000000071" ∷
    codes "10 enacted committee none constitution none hardfork none parameters none" ∷
    codes "10 param maxBlockBodySize 90112" ∷
    codes "10 param maxTxSize 16384" ∷
    codes "10 param maxBlockHeaderSize 1100" ∷
    codes "10 param maxValueSize 5000" ∷
    codes "10 param maxTxExUnits 1000 1000" ∷
    codes "10 param maxBlockExUnits 1000 1000" ∷
    codes "10 param maxCollateralInputs 3" ∷
    codes "10 param minFeeA 0" ∷
    codes "10 param minFeeB 0" ∷
    codes "10 param keyDeposit 2" ∷
    codes "10 param poolDeposit 5" ∷
    codes "10 param rho 0/1" ∷
    codes "10 param tau 0/1" ∷
    codes "10 param minPoolCost 0" ∷
    codes "10 param coinsPerUTxOByte 0" ∷
    codes "10 param prices 0/1 0/1" ∷
    codes "10 param minFeeRefScriptCostPerByte 15/1" ∷
    codes "10 param a0 0/1" ∷
    codes "10 param eMax 18" ∷
    codes "10 param nOpt 500" ∷
    codes "10 param costModels 0000000000000000000000000000000000000000000000000000000000000000" ∷
    codes "10 param collateralPercentage 150" ∷
    codes "10 param poolVotingThresholds 0/1 0/1 0/1 0/1 0/1" ∷
    codes "10 param drepVotingThresholds 67/100 67/100 67/100 67/100 67/100 67/100 67/100 67/100 67/100 67/100" ∷
    codes "10 param govActionLifetime 1" ∷
    codes "10 param govActionDeposit 10" ∷
    codes "10 param drepDeposit 5" ∷
    codes "10 param drepActivity 20" ∷
    codes "10 param committeeMinSize 0" ∷
    codes "10 param committeeMaxTermLength 100" ∷
    codes "10 drep k00000000000000000000000000000000000000000000000000000030 deposit 5 expiry 20" ∷
    codes "10 drep k00000000000000000000000000000000000000000000000000000031 deposit 5 expiry 20" ∷
    codes "10 pool 00000000000000000000000000000000000000000000000000000050 deposit 5 cost 0 pledge 0 margin 0/1 account 1k00000000000000000000000000000000000000000000000000000012 retires never" ∷
    codes "10 account k00000000000000000000000000000000000000000000000000000010 stake 0 deposit 2 rewards 67 pool none drep k00000000000000000000000000000000000000000000000000000030" ∷
    codes "10 account k00000000000000000000000000000000000000000000000000000011 stake 0 deposit 2 rewards 33 pool none drep k00000000000000000000000000000000000000000000000000000031" ∷
    codes "10 account k00000000000000000000000000000000000000000000000000000012 stake 0 deposit 2 rewards 0 pool none drep none" ∷
    codes "10 output 0000000000000000000000000000000000000000000000000000000000000001#6 1k00000000000000000000000000000000000000000000000000000001 20" ∷
    codes "10 output 0000000000000000000000000000000000000000000000000000000000000001#7 1k00000000000000000000000000000000000000000000000000000001 20" ∷
    codes "10 output 0000000000000000000000000000000000000000000000000000000000000001#8 1k00000000000000000000000000000000000000000000000000000001 20" ∷
    codes "10 proposal 0000000000000000000000000000000000000000000000000000000000000002#0 HardForkInitiation deposit 10 return 1k00000000000000000000000000000000000000000000000000000012 expires 1 previous none" ∷
    codes "10 vote 0000000000000000000000000000000000000000000000000000000000000002#0 committee:k00000000000000000000000000000000000000000000000000000071 yes" ∷
    codes "10 vote 0000000000000000000000000000000000000000000000000000000000000002#0 drep:k00000000000000000000000000000000000000000000000000000030 no" ∷
    codes "10 vote 0000000000000000000000000000000000000000000000000000000000000002#0 drep:k00000000000000000000000000000000000000000000000000000031 abstain" ∷
    codes "10 vote 0000000000000000000000000000000000000000000000000000000000000002#0 pool:00000000000000000000000000000000000000000000000000000050 no" ∷
    codes "10 snapshot mark 00000000000000000000000000000000000000000000000000000050 0" ∷
    codes "10 snapshot set 00000000000000000000000000000000000000000000000000000050 0" ∷
    codes "10 snapshot go 00000000000000000000000000000000000000000000000000000050 0" ∷
    codes "10 snapshot fees 70" ∷
    codes "10 pending none" ∷
    codes "10 pots outputs 60 deposits 31 rewards 100 fees 70 donations 0 treasury 100 reserves 639 supply 1000" ∷
    codes "11 epoch 3 frozen 3 dormant 1" ∷
    codes "11 stake k00000000000000000000000000000000000000000000000000000030 67" ∷
    codes "11 stake k00000000000000000000000000000000000000000000000000000031 33" ∷
    codes "11 tally 0000000000000000000000000000000000000000000000000000000000000002#0 HardForkInitiation committee 1/1 need 0/1 drep 0/67 need 67/100 pool 0/0 need 0/1 expired" ∷
    codes "11 removed 0000000000000000000000000000000000000000000000000000000000000002#0 expired refund 10 1k00000000000000000000000000000000000000000000000000000012" ∷
    codes "11 pots outputs 60 deposits 21 rewards 110 fees 70 donations 0 treasury 100 reserves 639 supply 1000" ∷
    codes "11 block slot 30 epoch 3 counted 1 of 3" ∷
    codes "12 now slot 30 epoch 3 version 10.0 dormant 1" ∷
    codes "12 constitution 0000000000000000000000000000000000000000000000000000000000000001 none" ∷
    codes "12 committee threshold 0/1" ∷
    codes "12 member k00000000000000000000000000000000000000000000000000000070 term 100 hot k00000000000000000000000000000000000000000000000000000071" ∷
    codes "12 enacted committee none constitution none hardfork none parameters none" ∷
    codes "12 param maxBlockBodySize 90112" ∷
    codes "12 param maxTxSize 16384" ∷
    codes "12 param maxBlockHeaderSize 1100" ∷
    codes "12 param maxValueSize 5000" ∷
    codes "12 param maxTxExUnits 1000 1000" ∷
    codes "12 param maxBlockExUnits 1000 1000" ∷
    codes "12 param maxCollateralInputs 3" ∷
    codes "12 param minFeeA 0" ∷
    codes "12 param minFeeB 0" ∷
    codes "12 param keyDeposit 2" ∷
    codes "12 param poolDeposit 5" ∷
    codes "12 param rho 0/1" ∷
    codes "12 param tau 0/1" ∷
    codes "12 param minPoolCost 0" ∷
    codes "12 param coinsPerUTxOByte 0" ∷
    codes "12 param prices 0/1 0/1" ∷
    codes "12 param minFeeRefScriptCostPerByte 15/1" ∷
    codes "12 param a0 0/1" ∷
    codes "12 param eMax 18" ∷
    codes "12 param nOpt 500" ∷
    codes "12 param costModels 0000000000000000000000000000000000000000000000000000000000000000" ∷
    codes "12 param collateralPercentage 150" ∷
    codes "12 param poolVotingThresholds 0/1 0/1 0/1 0/1 0/1" ∷
    codes "12 param drepVotingThresholds 67/100 67/100 67/100 67/100 67/100 67/100 67/100 67/100 67/100 67/100" ∷
    codes "12 param govActionLifetime 1" ∷
    codes "12 param govActionDeposit 10" ∷
    codes "12 param drepDeposit 5" ∷
    codes "12 param drepActivity 20" ∷
    codes "12 param committeeMinSize 0" ∷
    codes "12 param committeeMaxTermLength 100" ∷
    codes "12 drep k00000000000000000000000000000000000000000000000000000030 deposit 5 expiry 20" ∷
    codes "12 drep k00000000000000000000000000000000000000000000000000000031 deposit 5 expiry 20" ∷
    codes "12 pool 00000000000000000000000000000000000000000000000000000050 deposit 5 cost 0 pledge 0 margin 0/1 account 1k00000000000000000000000000000000000000000000000000000012 retires never" ∷
    codes "12 account k00000000000000000000000000000000000000000000000000000010 stake 0 deposit 2 rewards 67 pool none drep k00000000000000000000000000000000000000000000000000000030" ∷
    codes "12 account k00000000000000000000000000000000000000000000000000000011 stake 0 deposit 2 rewards 33 pool none drep k00000000000000000000000000000000000000000000000000000031" ∷
    codes "12 account k00000000000000000000000000000000000000000000000000000012 stake 0 deposit 2 rewards 10 pool none drep none" ∷
    codes "12 output 0000000000000000000000000000000000000000000000000000000000000001#6 1k00000000000000000000000000000000000000000000000000000001 20" ∷
    codes "12 output 0000000000000000000000000000000000000000000000000000000000000001#7 1k00000000000000000000000000000000000000000000000000000001 20" ∷
    codes "12 output 0000000000000000000000000000000000000000000000000000000000000001#8 1k00000000000000000000000000000000000000000000000000000001 20" ∷
    codes "12 snapshot mark 00000000000000000000000000000000000000000000000000000050 0" ∷
    codes "12 snapshot set 00000000000000000000000000000000000000000000000000000050 0" ∷
    codes "12 snapshot go 00000000000000000000000000000000000000000000000000000050 0" ∷
    codes "12 snapshot fees 70" ∷
    codes "12 pending none" ∷
    codes "12 pots outputs 60 deposits 21 rewards 110 fees 70 donations 0 treasury 100 reserves 639 supply 1000" ∷
    []) ≡ true
unfolding digits encode_with
votes_change_and_stay = refl

abbrev votes_in_the_last_epoch_input : List (ℕ × Reading)
votes_in_the_last_epoch_input =
    (1, Read (records.Genesis (record { network = 1; slot = 0; epoch_length = 10; version = (10, 0); supply = 1000; reserves = 619; treasury = 100; params = (record base_params { gov_action_lifetime = 1 }); document = (h32 0x01); script = None; committee = (Some (record { threshold = (share 0 1); members = (((key 0x70), 100, (Some (key 0x71))) ∷ []) })); outputs = (((ref 0x01 2), (address_with 1 (key 0x01) None), 20, []) ∷ ((ref 0x01 3), (address_with 1 (key 0x01) None), 20, []) ∷ ((ref 0x01 4), (address_with 1 (key 0x01) None), 20, []) ∷ ((ref 0x01 5), (address_with 1 (key 0x01) None), 20, []) ∷ ((ref 0x01 6), (address_with 1 (key 0x01) None), 20, []) ∷ ((ref 0x01 7), (address_with 1 (key 0x01) None), 20, []) ∷ ((ref 0x01 8), (address_with 1 (key 0x01) None), 20, []) ∷ ((ref 0x01 9), (address_with 1 (key 0x01) None), 20, []) ∷ []); accounts = (((key 0x10), 2, 67, None, (Some (drep.Registered (key 0x30)))) ∷ ((key 0x11), 2, 33, None, (Some (drep.Registered (key 0x31)))) ∷ ((key 0x12), 2, 0, None, None) ∷ []); pools = ((record { pool = (pool 0x50); deposit = 5; cost = 0; pledge = 0; margin = (share 0 1); account = (account_on 1 (key 0x12)); key = None }) ∷ []); dreps = (((key 0x30), 5, 20) ∷ ((key 0x31), 5, 20) ∷ []) }))) ∷
    (2, Read (records.Tx (record (spend 0x02 10) { proposals = ((proposing 10 (account_on 1 (key 0x12)) (actions.HardForkInitiation None (10, 1))) ∷ []) }))) ∷
    (3, Read (records.Tx (record (spend 0x03 10) { proposals = ((proposing 10 (account_on 1 (key 0x12)) (actions.NewConstitution None (h32 0x02) None)) ∷ []) }))) ∷
    (4, Read (records.Block 10 1)) ∷
    (5, Read (records.Tx (record (spend 0x04 20) { votes = ((voting (voter.Drep (key 0x30)) (action 0x02 0) vote.Yes) ∷ (voting (voter.Drep (key 0x31)) (action 0x03 0) vote.Yes) ∷ []) }))) ∷
    (6, Read (records.Block 20 1)) ∷
    (7, Read (records.Block 30 1)) ∷
    (8, Read (records.Print what.State)) ∷
    []

pub votes_in_the_last_epoch : says_all votes_in_the_last_epoch_input (
    codes "1 genesis outputs 160 deposits 21 rewards 100 fees 0 donations 0 treasury 100 reserves 619 supply 1000" ∷
    codes "2 accepted" ∷
    codes "3 accepted" ∷
    codes "4 epoch 1 frozen 3 dormant 0" ∷
    codes "4 stake k00000000000000000000000000000000000000000000000000000030 67" ∷
    codes "4 stake k00000000000000000000000000000000000000000000000000000031 33" ∷
    codes "4 pots outputs 120 deposits 41 rewards 100 fees 20 donations 0 treasury 100 reserves 619 supply 1000" ∷
    codes "4 block slot 10 epoch 1 counted 1 of 3" ∷
    codes "5 accepted" ∷
    codes "6 epoch 2 frozen 3 dormant 0" ∷
    codes "6 stake k00000000000000000000000000000000000000000000000000000030 67" ∷
    codes "6 stake k00000000000000000000000000000000000000000000000000000031 33" ∷
    codes "6 tally 0000000000000000000000000000000000000000000000000000000000000003#0 NewConstitution committee 0/1 need 0/1 drep 0/100 need 67/100 pool 0/0 need none waiting" ∷
    codes "6 tally 0000000000000000000000000000000000000000000000000000000000000002#0 HardForkInitiation committee 0/1 need 0/1 drep 0/100 need 67/100 pool 0/0 need 0/1 waiting" ∷
    codes "6 pots outputs 100 deposits 41 rewards 100 fees 40 donations 0 treasury 100 reserves 619 supply 1000" ∷
    codes "6 block slot 20 epoch 2 counted 1 of 3" ∷
    codes "7 epoch 3 frozen 3 dormant 1" ∷
    codes "7 stake k00000000000000000000000000000000000000000000000000000030 67" ∷
    codes "7 stake k00000000000000000000000000000000000000000000000000000031 33" ∷
    codes "7 tally 0000000000000000000000000000000000000000000000000000000000000003#0 NewConstitution committee 0/1 need 0/1 drep 33/100 need 67/100 pool 0/0 need none expired" ∷
    codes "7 tally 0000000000000000000000000000000000000000000000000000000000000002#0 HardForkInitiation committee 0/1 need 0/1 drep 67/100 need 67/100 pool 0/0 need 0/1 ratified" ∷
    codes "7 removed 0000000000000000000000000000000000000000000000000000000000000002#0 enacted refund 10 1k00000000000000000000000000000000000000000000000000000012" ∷
    codes "7 removed 0000000000000000000000000000000000000000000000000000000000000003#0 expired refund 10 1k00000000000000000000000000000000000000000000000000000012" ∷
    codes "7 pots outputs 100 deposits 21 rewards 120 fees 40 donations 0 treasury 100 reserves 619 supply 1000" ∷
    codes "7 block slot 30 epoch 3 counted 1 of 3" ∷
    codes "8 now slot 30 epoch 3 version 10.1 dormant 1" ∷
    codes "8 constitution 0000000000000000000000000000000000000000000000000000000000000001 none" ∷
    codes "8 committee threshold 0/1" ∷
    codes "8 member k00000000000000000000000000000000000000000000000000000070 term 100 hot k00000000000000000000000000000000000000000000000000000071" ∷
    codes "8 enacted committee none constitution none hardfork 0000000000000000000000000000000000000000000000000000000000000002#0 parameters none" ∷
    codes "8 param maxBlockBodySize 90112" ∷
    codes "8 param maxTxSize 16384" ∷
    codes "8 param maxBlockHeaderSize 1100" ∷
    codes "8 param maxValueSize 5000" ∷
    codes "8 param maxTxExUnits 1000 1000" ∷
    codes "8 param maxBlockExUnits 1000 1000" ∷
    codes "8 param maxCollateralInputs 3" ∷
    codes "8 param minFeeA 0" ∷
    codes "8 param minFeeB 0" ∷
    codes "8 param keyDeposit 2" ∷
    codes "8 param poolDeposit 5" ∷
    codes "8 param rho 0/1" ∷
    codes "8 param tau 0/1" ∷
    codes "8 param minPoolCost 0" ∷
    codes "8 param coinsPerUTxOByte 0" ∷
    codes "8 param prices 0/1 0/1" ∷
    codes "8 param minFeeRefScriptCostPerByte 15/1" ∷
    codes "8 param a0 0/1" ∷
    codes "8 param eMax 18" ∷
    codes "8 param nOpt 500" ∷
    codes "8 param costModels 0000000000000000000000000000000000000000000000000000000000000000" ∷
    codes "8 param collateralPercentage 150" ∷
    codes "8 param poolVotingThresholds 0/1 0/1 0/1 0/1 0/1" ∷
    codes "8 param drepVotingThresholds 67/100 67/100 67/100 67/100 67/100 67/100 67/100 67/100 67/100 67/100" ∷
    codes "8 param govActionLifetime 1" ∷
    codes "8 param govActionDeposit 10" ∷
    codes "8 param drepDeposit 5" ∷
    codes "8 param drepActivity 20" ∷
    codes "8 param committeeMinSize 0" ∷
    codes "8 param committeeMaxTermLength 100" ∷
    codes "8 drep k00000000000000000000000000000000000000000000000000000030 deposit 5 expiry 21" ∷
    codes "8 drep k00000000000000000000000000000000000000000000000000000031 deposit 5 expiry 21" ∷
    codes "8 pool 00000000000000000000000000000000000000000000000000000050 deposit 5 cost 0 pledge 0 margin 0/1 account 1k00000000000000000000000000000000000000000000000000000012 retires never" ∷
    codes "8 account k00000000000000000000000000000000000000000000000000000010 stake 0 deposit 2 rewards 67 pool none drep k00000000000000000000000000000000000000000000000000000030" ∷
    codes "8 account k00000000000000000000000000000000000000000000000000000011 stake 0 deposit 2 rewards 33 pool none drep k00000000000000000000000000000000000000000000000000000031" ∷
    codes "8 account k00000000000000000000000000000000000000000000000000000012 stake 0 deposit 2 rewards 20 pool none drep none" ∷
    codes "8 output 0000000000000000000000000000000000000000000000000000000000000001#5 1k00000000000000000000000000000000000000000000000000000001 20" ∷
    codes "8 output 0000000000000000000000000000000000000000000000000000000000000001#6 1k00000000000000000000000000000000000000000000000000000001 20" ∷
    codes "8 output 0000000000000000000000000000000000000000000000000000000000000001#7 1k00000000000000000000000000000000000000000000000000000001 20" ∷
    codes "8 output 0000000000000000000000000000000000000000000000000000000000000001#8 1k00000000000000000000000000000000000000000000000000000001 20" ∷
    codes "8 output 0000000000000000000000000000000000000000000000000000000000000001#9 1k00000000000000000000000000000000000000000000000000000001 20" ∷
    codes "8 snapshot mark 00000000000000000000000000000000000000000000000000000050 0" ∷
    codes "8 snapshot set 00000000000000000000000000000000000000000000000000000050 0" ∷
    codes "8 snapshot go 00000000000000000000000000000000000000000000000000000050 0" ∷
    codes "8 snapshot fees 40" ∷
    codes "8 pending none" ∷
    codes "8 pots outputs 100 deposits 21 rewards 120 fees 40 donations 0 treasury 100 reserves 619 supply 1000" ∷
    []) ≡ true
unfolding digits encode_with
votes_in_the_last_epoch = refl
