-- Worked rows of whole streams: dormant epochs. Made by tests/made/rows_of, from the streams of these names in tests/streams/whole.
use Rattle.std.specs.Prelude.{ℕ, ◌≡◌, List, [], ◌∷◌, Some, None, true, codes, refl}
use Rattle.std.specs.Fmt.{digits}
use Rattle.hex.specs.Hex.{encode_with}
use Rattle.gov_actions.specs.declared.action.Action.TheVariants as actions
use Rattle.gov_actions.specs.declared.action.Vote.TheVariants as vote
use Rattle.gov_ids.specs.declared.Drep.TheVariants as drep
use Rattle.gov_ids.specs.declared.Voter.TheVariants as voter
use Rattle.tx_records.specs.declared.record.Record.TheVariants as records
use Rattle.tx_records.specs.declared.record.What.TheVariants as what
use Rattle.tx_records.specs.declared.cert.Cert.TheVariants as certs
use Rattle.tx_records.specs.declared.record.Reading.{Reading}
use Rattle.tx_records.specs.declared.record.Reading.TheVariants.{Read}
use Rattle.ledger_rows.proofs.Base.{h32, key, pool, account_on, address_with, ref, action, share, base_params, spend, proposing, voting, says_all}

abbrev dormant_epochs_added_input : List (ℕ × Reading)
dormant_epochs_added_input =
    (1, Read (records.Genesis (record { network = 1; slot = 50; epoch_length = 10; version = (10, 0); supply = 1000; reserves = 713; treasury = 100; params = (record base_params { drep_activity = 10 }); document = (h32 0x01); script = None; committee = (Some (record { threshold = (share 0 1); members = (((key 0x70), 100, (Some (key 0x71))) ∷ []) })); outputs = (((ref 0x01 2), (address_with 1 (key 0x01) None), 20, []) ∷ ((ref 0x01 3), (address_with 1 (key 0x01) None), 20, []) ∷ ((ref 0x01 4), (address_with 1 (key 0x01) None), 20, []) ∷ ((ref 0x01 5), (address_with 1 (key 0x01) None), 20, []) ∷ ((ref 0x01 6), (address_with 1 (key 0x01) None), 20, []) ∷ ((ref 0x01 7), (address_with 1 (key 0x01) None), 20, []) ∷ ((ref 0x01 8), (address_with 1 (key 0x01) None), 20, []) ∷ ((ref 0x01 9), (address_with 1 (key 0x01) None), 20, []) ∷ []); accounts = (((key 0x12), 2, 0, None, None) ∷ []); pools = ((record { pool = (pool 0x50); deposit = 5; cost = 0; pledge = 0; margin = (share 0 1); account = (account_on 1 (key 0x12)); key = None }) ∷ []); dreps = (((key 0x30), 5, 6) ∷ ((key 0x31), 5, 4) ∷ ((key 0x32), 5, 5) ∷ ((key 0x33), 5, 12) ∷ []) }))) ∷
    (2, Read (records.Block 60 1)) ∷
    (3, Read (records.Block 70 1)) ∷
    (4, Read (records.Block 80 1)) ∷
    (5, Read (records.Tx (record (spend 0x02 15) { certs = ((certs.DrepReg (key 0x34) None) ∷ (certs.DrepUpdate (key 0x33)) ∷ []) }))) ∷
    (6, Read (records.Print what.State)) ∷
    (7, Read (records.Tx (record (spend 0x03 10) { proposals = ((proposing 10 (account_on 1 (key 0x12)) (actions.Info)) ∷ []) }))) ∷
    (8, Read (records.Print what.State)) ∷
    (9, Read (records.Tx (record (spend 0x04 20) { votes = ((voting (voter.Drep (key 0x30)) (action 0x03 0) vote.Yes) ∷ []) }))) ∷
    (10, Read (records.Block 90 1)) ∷
    (11, Read (records.Tx (record (spend 0x05 20) { votes = ((voting (voter.Drep (key 0x31)) (action 0x03 0) vote.No) ∷ []) }))) ∷
    (12, Read (records.Print what.State)) ∷
    (13, Read (records.Block 100 1)) ∷
    (14, Read (records.Block 110 1)) ∷
    (15, Read (records.Block 120 1)) ∷
    (16, Read (records.Tx (record (spend 0x06 15) { certs = ((certs.DrepUpdate (key 0x32)) ∷ (certs.DrepReg (key 0x35) None) ∷ []) }))) ∷
    (17, Read (records.Tx (record (spend 0x07 10) { proposals = ((proposing 10 (account_on 1 (key 0x12)) (actions.Info)) ∷ []) }))) ∷
    (18, Read (records.Print what.State)) ∷
    []

pub dormant_epochs_added : says_all dormant_epochs_added_input (
    codes "1 genesis outputs 160 deposits 27 rewards 0 fees 0 donations 0 treasury 100 reserves 713 supply 1000" ∷
    codes "2 epoch 6 frozen 1 dormant 1" ∷
    codes "2 pots outputs 160 deposits 27 rewards 0 fees 0 donations 0 treasury 100 reserves 713 supply 1000" ∷
    codes "2 block slot 60 epoch 6 counted 1 of 1" ∷
    codes "3 epoch 7 frozen 1 dormant 2" ∷
    codes "3 pots outputs 160 deposits 27 rewards 0 fees 0 donations 0 treasury 100 reserves 713 supply 1000" ∷
    codes "3 block slot 70 epoch 7 counted 1 of 1" ∷
    codes "4 epoch 8 frozen 1 dormant 3" ∷
    codes "4 pots outputs 160 deposits 27 rewards 0 fees 0 donations 0 treasury 100 reserves 713 supply 1000" ∷
    codes "4 block slot 80 epoch 8 counted 1 of 1" ∷
    codes "5 accepted" ∷
    codes "6 now slot 80 epoch 8 version 10.0 dormant 3" ∷
    codes "6 constitution 0000000000000000000000000000000000000000000000000000000000000001 none" ∷
    codes "6 committee threshold 0/1" ∷
    codes "6 member k00000000000000000000000000000000000000000000000000000070 term 100 hot k00000000000000000000000000000000000000000000000000000071" ∷
    codes "6 enacted committee none constitution none hardfork none parameters none" ∷
    codes "6 param maxBlockBodySize 90112" ∷
    codes "6 param maxTxSize 16384" ∷
    codes "6 param maxBlockHeaderSize 1100" ∷
    codes "6 param maxValueSize 5000" ∷
    codes "6 param maxTxExUnits 1000 1000" ∷
    codes "6 param maxBlockExUnits 1000 1000" ∷
    codes "6 param maxCollateralInputs 3" ∷
    codes "6 param minFeeA 0" ∷
    codes "6 param minFeeB 0" ∷
    codes "6 param keyDeposit 2" ∷
    codes "6 param poolDeposit 5" ∷
    codes "6 param rho 0/1" ∷
    codes "6 param tau 0/1" ∷
    codes "6 param minPoolCost 0" ∷
    codes "6 param coinsPerUTxOByte 0" ∷
    codes "6 param prices 0/1 0/1" ∷
    codes "6 param minFeeRefScriptCostPerByte 15/1" ∷
    codes "6 param a0 0/1" ∷
    codes "6 param eMax 18" ∷
    codes "6 param nOpt 500" ∷
    codes "6 param costModels 0000000000000000000000000000000000000000000000000000000000000000" ∷
    codes "6 param collateralPercentage 150" ∷
    codes "6 param poolVotingThresholds 0/1 0/1 0/1 0/1 0/1" ∷
    codes "6 param drepVotingThresholds 67/100 67/100 67/100 67/100 67/100 67/100 67/100 67/100 67/100 67/100" ∷
    codes "6 param govActionLifetime 2" ∷
    codes "6 param govActionDeposit 10" ∷
    codes "6 param drepDeposit 5" ∷
    codes "6 param drepActivity 10" ∷
    codes "6 param committeeMinSize 0" ∷
    codes "6 param committeeMaxTermLength 100" ∷
    codes "6 drep k00000000000000000000000000000000000000000000000000000030 deposit 5 expiry 6" ∷
    codes "6 drep k00000000000000000000000000000000000000000000000000000031 deposit 5 expiry 4" ∷
    codes "6 drep k00000000000000000000000000000000000000000000000000000032 deposit 5 expiry 5" ∷
    codes "6 drep k00000000000000000000000000000000000000000000000000000033 deposit 5 expiry 15" ∷
    codes "6 drep k00000000000000000000000000000000000000000000000000000034 deposit 5 expiry 15" ∷
    codes "6 pool 00000000000000000000000000000000000000000000000000000050 deposit 5 cost 0 pledge 0 margin 0/1 account 1k00000000000000000000000000000000000000000000000000000012 retires never" ∷
    codes "6 account k00000000000000000000000000000000000000000000000000000012 stake 0 deposit 2 rewards 0 pool none drep none" ∷
    codes "6 output 0000000000000000000000000000000000000000000000000000000000000001#3 1k00000000000000000000000000000000000000000000000000000001 20" ∷
    codes "6 output 0000000000000000000000000000000000000000000000000000000000000001#4 1k00000000000000000000000000000000000000000000000000000001 20" ∷
    codes "6 output 0000000000000000000000000000000000000000000000000000000000000001#5 1k00000000000000000000000000000000000000000000000000000001 20" ∷
    codes "6 output 0000000000000000000000000000000000000000000000000000000000000001#6 1k00000000000000000000000000000000000000000000000000000001 20" ∷
    codes "6 output 0000000000000000000000000000000000000000000000000000000000000001#7 1k00000000000000000000000000000000000000000000000000000001 20" ∷
    codes "6 output 0000000000000000000000000000000000000000000000000000000000000001#8 1k00000000000000000000000000000000000000000000000000000001 20" ∷
    codes "6 output 0000000000000000000000000000000000000000000000000000000000000001#9 1k00000000000000000000000000000000000000000000000000000001 20" ∷
    codes "6 snapshot mark 00000000000000000000000000000000000000000000000000000050 0" ∷
    codes "6 snapshot set 00000000000000000000000000000000000000000000000000000050 0" ∷
    codes "6 snapshot go 00000000000000000000000000000000000000000000000000000050 0" ∷
    codes "6 snapshot fees 0" ∷
    codes "6 pending none" ∷
    codes "6 pots outputs 140 deposits 32 rewards 0 fees 15 donations 0 treasury 100 reserves 713 supply 1000" ∷
    codes "7 accepted" ∷
    codes "8 now slot 80 epoch 8 version 10.0 dormant 0" ∷
    codes "8 constitution 0000000000000000000000000000000000000000000000000000000000000001 none" ∷
    codes "8 committee threshold 0/1" ∷
    codes "8 member k00000000000000000000000000000000000000000000000000000070 term 100 hot k00000000000000000000000000000000000000000000000000000071" ∷
    codes "8 enacted committee none constitution none hardfork none parameters none" ∷
    codes "8 param maxBlockBodySize 90112" ∷
    codes "8 param maxTxSize 16384" ∷
    codes "8 param maxBlockHeaderSize 1100" ∷
    codes "8 param maxValueSize 5000" ∷
    codes "8 param maxTxExUnits 1000 1000" ∷
    codes "8 param maxBlockExUnits 1000 1000" ∷
    codes "8 param maxCollateralInputs 3" ∷
    codes "8 param minFeeA 0" ∷
    codes "8 param minFeeB 0" ∷
    codes "8 param keyDeposit 2" ∷
    codes "8 param poolDeposit 5" ∷
    codes "8 param rho 0/1" ∷
    codes "8 param tau 0/1" ∷
    codes "8 param minPoolCost 0" ∷
    codes "8 param coinsPerUTxOByte 0" ∷
    codes "8 param prices 0/1 0/1" ∷
    codes "8 param minFeeRefScriptCostPerByte 15/1" ∷
    codes "8 param a0 0/1" ∷
    codes "8 param eMax 18" ∷
    codes "8 param nOpt 500" ∷
    codes "8 param costModels 0000000000000000000000000000000000000000000000000000000000000000" ∷
    codes "8 param collateralPercentage 150" ∷
    codes "8 param poolVotingThresholds 0/1 0/1 0/1 0/1 0/1" ∷
    codes "8 param drepVotingThresholds 67/100 67/100 67/100 67/100 67/100 67/100 67/100 67/100 67/100 67/100" ∷
    codes "8 param govActionLifetime 2" ∷
    codes "8 param govActionDeposit 10" ∷
    codes "8 param drepDeposit 5" ∷
    codes "8 param drepActivity 10" ∷
    codes "8 param committeeMinSize 0" ∷
    codes "8 param committeeMaxTermLength 100" ∷
    codes "8 drep k00000000000000000000000000000000000000000000000000000030 deposit 5 expiry 9" ∷
    codes "8 drep k00000000000000000000000000000000000000000000000000000031 deposit 5 expiry 4" ∷
    codes "8 drep k00000000000000000000000000000000000000000000000000000032 deposit 5 expiry 8" ∷
    codes "8 drep k00000000000000000000000000000000000000000000000000000033 deposit 5 expiry 18" ∷
    codes "8 drep k00000000000000000000000000000000000000000000000000000034 deposit 5 expiry 18" ∷
    codes "8 pool 00000000000000000000000000000000000000000000000000000050 deposit 5 cost 0 pledge 0 margin 0/1 account 1k00000000000000000000000000000000000000000000000000000012 retires never" ∷
    codes "8 account k00000000000000000000000000000000000000000000000000000012 stake 0 deposit 2 rewards 0 pool none drep none" ∷
    codes "8 output 0000000000000000000000000000000000000000000000000000000000000001#4 1k00000000000000000000000000000000000000000000000000000001 20" ∷
    codes "8 output 0000000000000000000000000000000000000000000000000000000000000001#5 1k00000000000000000000000000000000000000000000000000000001 20" ∷
    codes "8 output 0000000000000000000000000000000000000000000000000000000000000001#6 1k00000000000000000000000000000000000000000000000000000001 20" ∷
    codes "8 output 0000000000000000000000000000000000000000000000000000000000000001#7 1k00000000000000000000000000000000000000000000000000000001 20" ∷
    codes "8 output 0000000000000000000000000000000000000000000000000000000000000001#8 1k00000000000000000000000000000000000000000000000000000001 20" ∷
    codes "8 output 0000000000000000000000000000000000000000000000000000000000000001#9 1k00000000000000000000000000000000000000000000000000000001 20" ∷
    codes "8 proposal 0000000000000000000000000000000000000000000000000000000000000003#0 Info deposit 10 return 1k00000000000000000000000000000000000000000000000000000012 expires 10 previous none" ∷
    codes "8 snapshot mark 00000000000000000000000000000000000000000000000000000050 0" ∷
    codes "8 snapshot set 00000000000000000000000000000000000000000000000000000050 0" ∷
    codes "8 snapshot go 00000000000000000000000000000000000000000000000000000050 0" ∷
    codes "8 snapshot fees 0" ∷
    codes "8 pending none" ∷
    codes "8 pots outputs 120 deposits 42 rewards 0 fees 25 donations 0 treasury 100 reserves 713 supply 1000" ∷
    codes "9 accepted" ∷
    codes "10 epoch 9 frozen 1 dormant 0" ∷
    codes "10 pots outputs 100 deposits 42 rewards 0 fees 45 donations 0 treasury 100 reserves 713 supply 1000" ∷
    codes "10 block slot 90 epoch 9 counted 1 of 1" ∷
    codes "11 accepted" ∷
    codes "12 now slot 90 epoch 9 version 10.0 dormant 0" ∷
    codes "12 constitution 0000000000000000000000000000000000000000000000000000000000000001 none" ∷
    codes "12 committee threshold 0/1" ∷
    codes "12 member k00000000000000000000000000000000000000000000000000000070 term 100 hot k00000000000000000000000000000000000000000000000000000071" ∷
    codes "12 enacted committee none constitution none hardfork none parameters none" ∷
    codes "12 param maxBlockBodySize 90112" ∷
    codes "12 param maxTxSize 16384" ∷
    codes "12 param maxBlockHeaderSize 1100" ∷
    codes "12 param maxValueSize 5000" ∷
    codes "12 param maxTxExUnits 1000 1000" ∷
    codes "12 param maxBlockExUnits 1000 1000" ∷
    codes "12 param maxCollateralInputs 3" ∷
    codes "12 param minFeeA 0" ∷
    codes "12 param minFeeB 0" ∷
    codes "12 param keyDeposit 2" ∷
    codes "12 param poolDeposit 5" ∷
    codes "12 param rho 0/1" ∷
    codes "12 param tau 0/1" ∷
    codes "12 param minPoolCost 0" ∷
    codes "12 param coinsPerUTxOByte 0" ∷
    codes "12 param prices 0/1 0/1" ∷
    codes "12 param minFeeRefScriptCostPerByte 15/1" ∷
    codes "12 param a0 0/1" ∷
    codes "12 param eMax 18" ∷
    codes "12 param nOpt 500" ∷
    codes "12 param costModels 0000000000000000000000000000000000000000000000000000000000000000" ∷
    codes "12 param collateralPercentage 150" ∷
    codes "12 param poolVotingThresholds 0/1 0/1 0/1 0/1 0/1" ∷
    codes "12 param drepVotingThresholds 67/100 67/100 67/100 67/100 67/100 67/100 67/100 67/100 67/100 67/100" ∷
    codes "12 param govActionLifetime 2" ∷
    codes "12 param govActionDeposit 10" ∷
    codes "12 param drepDeposit 5" ∷
    codes "12 param drepActivity 10" ∷
    codes "12 param committeeMinSize 0" ∷
    codes "12 param committeeMaxTermLength 100" ∷
    codes "12 drep k00000000000000000000000000000000000000000000000000000030 deposit 5 expiry 18" ∷
    codes "12 drep k00000000000000000000000000000000000000000000000000000031 deposit 5 expiry 19" ∷
    codes "12 drep k00000000000000000000000000000000000000000000000000000032 deposit 5 expiry 8" ∷
    codes "12 drep k00000000000000000000000000000000000000000000000000000033 deposit 5 expiry 18" ∷
    codes "12 drep k00000000000000000000000000000000000000000000000000000034 deposit 5 expiry 18" ∷
    codes "12 pool 00000000000000000000000000000000000000000000000000000050 deposit 5 cost 0 pledge 0 margin 0/1 account 1k00000000000000000000000000000000000000000000000000000012 retires never" ∷
    codes "12 account k00000000000000000000000000000000000000000000000000000012 stake 0 deposit 2 rewards 0 pool none drep none" ∷
    codes "12 output 0000000000000000000000000000000000000000000000000000000000000001#6 1k00000000000000000000000000000000000000000000000000000001 20" ∷
    codes "12 output 0000000000000000000000000000000000000000000000000000000000000001#7 1k00000000000000000000000000000000000000000000000000000001 20" ∷
    codes "12 output 0000000000000000000000000000000000000000000000000000000000000001#8 1k00000000000000000000000000000000000000000000000000000001 20" ∷
    codes "12 output 0000000000000000000000000000000000000000000000000000000000000001#9 1k00000000000000000000000000000000000000000000000000000001 20" ∷
    codes "12 proposal 0000000000000000000000000000000000000000000000000000000000000003#0 Info deposit 10 return 1k00000000000000000000000000000000000000000000000000000012 expires 10 previous none" ∷
    codes "12 vote 0000000000000000000000000000000000000000000000000000000000000003#0 drep:k00000000000000000000000000000000000000000000000000000030 yes" ∷
    codes "12 vote 0000000000000000000000000000000000000000000000000000000000000003#0 drep:k00000000000000000000000000000000000000000000000000000031 no" ∷
    codes "12 snapshot mark 00000000000000000000000000000000000000000000000000000050 0" ∷
    codes "12 snapshot set 00000000000000000000000000000000000000000000000000000050 0" ∷
    codes "12 snapshot go 00000000000000000000000000000000000000000000000000000050 0" ∷
    codes "12 snapshot fees 45" ∷
    codes "12 pending none" ∷
    codes "12 pots outputs 80 deposits 42 rewards 0 fees 65 donations 0 treasury 100 reserves 713 supply 1000" ∷
    codes "13 epoch 10 frozen 1 dormant 0" ∷
    codes "13 tally 0000000000000000000000000000000000000000000000000000000000000003#0 Info committee 0/1 need never drep 0/0 need never pool 0/0 need never waiting" ∷
    codes "13 pots outputs 80 deposits 42 rewards 0 fees 65 donations 0 treasury 100 reserves 713 supply 1000" ∷
    codes "13 block slot 100 epoch 10 counted 1 of 1" ∷
    codes "14 epoch 11 frozen 1 dormant 0" ∷
    codes "14 tally 0000000000000000000000000000000000000000000000000000000000000003#0 Info committee 0/1 need never drep 0/0 need never pool 0/0 need never waiting" ∷
    codes "14 pots outputs 80 deposits 42 rewards 0 fees 65 donations 0 treasury 100 reserves 713 supply 1000" ∷
    codes "14 block slot 110 epoch 11 counted 1 of 1" ∷
    codes "15 epoch 12 frozen 1 dormant 1" ∷
    codes "15 tally 0000000000000000000000000000000000000000000000000000000000000003#0 Info committee 0/1 need never drep 0/0 need never pool 0/0 need never expired" ∷
    codes "15 removed 0000000000000000000000000000000000000000000000000000000000000003#0 expired refund 10 1k00000000000000000000000000000000000000000000000000000012" ∷
    codes "15 pots outputs 80 deposits 32 rewards 10 fees 65 donations 0 treasury 100 reserves 713 supply 1000" ∷
    codes "15 block slot 120 epoch 12 counted 1 of 1" ∷
    codes "16 accepted" ∷
    codes "17 accepted" ∷
    codes "18 now slot 120 epoch 12 version 10.0 dormant 0" ∷
    codes "18 constitution 0000000000000000000000000000000000000000000000000000000000000001 none" ∷
    codes "18 committee threshold 0/1" ∷
    codes "18 member k00000000000000000000000000000000000000000000000000000070 term 100 hot k00000000000000000000000000000000000000000000000000000071" ∷
    codes "18 enacted committee none constitution none hardfork none parameters none" ∷
    codes "18 param maxBlockBodySize 90112" ∷
    codes "18 param maxTxSize 16384" ∷
    codes "18 param maxBlockHeaderSize 1100" ∷
    codes "18 param maxValueSize 5000" ∷
    codes "18 param maxTxExUnits 1000 1000" ∷
    codes "18 param maxBlockExUnits 1000 1000" ∷
    codes "18 param maxCollateralInputs 3" ∷
    codes "18 param minFeeA 0" ∷
    codes "18 param minFeeB 0" ∷
    codes "18 param keyDeposit 2" ∷
    codes "18 param poolDeposit 5" ∷
    codes "18 param rho 0/1" ∷
    codes "18 param tau 0/1" ∷
    codes "18 param minPoolCost 0" ∷
    codes "18 param coinsPerUTxOByte 0" ∷
    codes "18 param prices 0/1 0/1" ∷
    codes "18 param minFeeRefScriptCostPerByte 15/1" ∷
    codes "18 param a0 0/1" ∷
    codes "18 param eMax 18" ∷
    codes "18 param nOpt 500" ∷
    codes "18 param costModels 0000000000000000000000000000000000000000000000000000000000000000" ∷
    codes "18 param collateralPercentage 150" ∷
    codes "18 param poolVotingThresholds 0/1 0/1 0/1 0/1 0/1" ∷
    codes "18 param drepVotingThresholds 67/100 67/100 67/100 67/100 67/100 67/100 67/100 67/100 67/100 67/100" ∷
    codes "18 param govActionLifetime 2" ∷
    codes "18 param govActionDeposit 10" ∷
    codes "18 param drepDeposit 5" ∷
    codes "18 param drepActivity 10" ∷
    codes "18 param committeeMinSize 0" ∷
    codes "18 param committeeMaxTermLength 100" ∷
    codes "18 drep k00000000000000000000000000000000000000000000000000000030 deposit 5 expiry 19" ∷
    codes "18 drep k00000000000000000000000000000000000000000000000000000031 deposit 5 expiry 20" ∷
    codes "18 drep k00000000000000000000000000000000000000000000000000000032 deposit 5 expiry 22" ∷
    codes "18 drep k00000000000000000000000000000000000000000000000000000033 deposit 5 expiry 19" ∷
    codes "18 drep k00000000000000000000000000000000000000000000000000000034 deposit 5 expiry 19" ∷
    codes "18 drep k00000000000000000000000000000000000000000000000000000035 deposit 5 expiry 22" ∷
    codes "18 pool 00000000000000000000000000000000000000000000000000000050 deposit 5 cost 0 pledge 0 margin 0/1 account 1k00000000000000000000000000000000000000000000000000000012 retires never" ∷
    codes "18 account k00000000000000000000000000000000000000000000000000000012 stake 0 deposit 2 rewards 10 pool none drep none" ∷
    codes "18 output 0000000000000000000000000000000000000000000000000000000000000001#8 1k00000000000000000000000000000000000000000000000000000001 20" ∷
    codes "18 output 0000000000000000000000000000000000000000000000000000000000000001#9 1k00000000000000000000000000000000000000000000000000000001 20" ∷
    codes "18 proposal 0000000000000000000000000000000000000000000000000000000000000007#0 Info deposit 10 return 1k00000000000000000000000000000000000000000000000000000012 expires 14 previous none" ∷
    codes "18 snapshot mark 00000000000000000000000000000000000000000000000000000050 0" ∷
    codes "18 snapshot set 00000000000000000000000000000000000000000000000000000050 0" ∷
    codes "18 snapshot go 00000000000000000000000000000000000000000000000000000050 0" ∷
    codes "18 snapshot fees 65" ∷
    codes "18 pending none" ∷
    codes "18 pots outputs 40 deposits 47 rewards 10 fees 90 donations 0 treasury 100 reserves 713 supply 1000" ∷
    []) ≡ true
unfolding digits encode_with
dormant_epochs_added = refl

abbrev expiries_after_many_dormant_epochs_input : List (ℕ × Reading)
expiries_after_many_dormant_epochs_input =
    (1, Read (records.Genesis (record { network = 1; slot = 20; epoch_length = 10; version = (10, 0); supply = 1000; reserves = 763; treasury = 100; params = (record base_params { gov_action_lifetime = 5; drep_activity = 7 }); document = (h32 0x01); script = None; committee = (Some (record { threshold = (share 0 1); members = (((key 0x70), 100, (Some (key 0x71))) ∷ []) })); outputs = (((ref 0x01 2), (address_with 1 (key 0x01) None), 20, []) ∷ ((ref 0x01 3), (address_with 1 (key 0x01) None), 20, []) ∷ ((ref 0x01 4), (address_with 1 (key 0x01) None), 20, []) ∷ ((ref 0x01 5), (address_with 1 (key 0x01) None), 20, []) ∷ ((ref 0x01 6), (address_with 1 (key 0x01) None), 20, []) ∷ ((ref 0x01 7), (address_with 1 (key 0x01) None), 20, []) ∷ []); accounts = (((key 0x12), 2, 0, None, None) ∷ []); pools = ((record { pool = (pool 0x50); deposit = 5; cost = 0; pledge = 0; margin = (share 0 1); account = (account_on 1 (key 0x12)); key = None }) ∷ []); dreps = (((key 0x30), 5, 3) ∷ ((key 0x31), 5, 9) ∷ []) }))) ∷
    (2, Read (records.Tx (record (spend 0x02 10) { proposals = ((proposing 10 (account_on 1 (key 0x12)) (actions.Info)) ∷ []) }))) ∷
    (3, Read (records.Block 30 1)) ∷
    (4, Read (records.Tx (record (spend 0x03 15) { certs = ((certs.DrepReg (key 0x32) None) ∷ []); votes = ((voting (voter.Drep (key 0x31)) (action 0x02 0) vote.Yes) ∷ []) }))) ∷
    (5, Read (records.Print what.State)) ∷
    (6, Read (records.Block 40 1)) ∷
    (7, Read (records.Block 50 1)) ∷
    (8, Read (records.Block 60 1)) ∷
    (9, Read (records.Block 70 1)) ∷
    (10, Read (records.Block 80 1)) ∷
    (11, Read (records.Block 90 1)) ∷
    (12, Read (records.Block 100 1)) ∷
    (13, Read (records.Tx (record (spend 0x04 0) { votes = ((voting (voter.Drep (key 0x30)) (action 0x02 0) vote.Yes) ∷ []) }))) ∷
    (14, Read (records.Tx (record (spend 0x05 10) { certs = ((certs.DrepUnreg (key 0x31) None) ∷ (certs.DrepReg (key 0x31) None) ∷ []); proposals = ((proposing 10 (account_on 1 (key 0x12)) (actions.Info)) ∷ []) }))) ∷
    (15, Read (records.Print what.State)) ∷
    []

pub expiries_after_many_dormant_epochs : says_all expiries_after_many_dormant_epochs_input (
    codes "1 genesis outputs 120 deposits 17 rewards 0 fees 0 donations 0 treasury 100 reserves 763 supply 1000" ∷
    codes "2 accepted" ∷
    codes "3 epoch 3 frozen 1 dormant 0" ∷
    codes "3 pots outputs 100 deposits 27 rewards 0 fees 10 donations 0 treasury 100 reserves 763 supply 1000" ∷
    codes "3 block slot 30 epoch 3 counted 1 of 1" ∷
    codes "4 accepted" ∷
    codes "5 now slot 30 epoch 3 version 10.0 dormant 0" ∷
    codes "5 constitution 0000000000000000000000000000000000000000000000000000000000000001 none" ∷
    codes "5 committee threshold 0/1" ∷
    codes "5 member k00000000000000000000000000000000000000000000000000000070 term 100 hot k00000000000000000000000000000000000000000000000000000071" ∷
    codes "5 enacted committee none constitution none hardfork none parameters none" ∷
    codes "5 param maxBlockBodySize 90112" ∷
    codes "5 param maxTxSize 16384" ∷
    codes "5 param maxBlockHeaderSize 1100" ∷
    codes "5 param maxValueSize 5000" ∷
    codes "5 param maxTxExUnits 1000 1000" ∷
    codes "5 param maxBlockExUnits 1000 1000" ∷
    codes "5 param maxCollateralInputs 3" ∷
    codes "5 param minFeeA 0" ∷
    codes "5 param minFeeB 0" ∷
    codes "5 param keyDeposit 2" ∷
    codes "5 param poolDeposit 5" ∷
    codes "5 param rho 0/1" ∷
    codes "5 param tau 0/1" ∷
    codes "5 param minPoolCost 0" ∷
    codes "5 param coinsPerUTxOByte 0" ∷
    codes "5 param prices 0/1 0/1" ∷
    codes "5 param minFeeRefScriptCostPerByte 15/1" ∷
    codes "5 param a0 0/1" ∷
    codes "5 param eMax 18" ∷
    codes "5 param nOpt 500" ∷
    codes "5 param costModels 0000000000000000000000000000000000000000000000000000000000000000" ∷
    codes "5 param collateralPercentage 150" ∷
    codes "5 param poolVotingThresholds 0/1 0/1 0/1 0/1 0/1" ∷
    codes "5 param drepVotingThresholds 67/100 67/100 67/100 67/100 67/100 67/100 67/100 67/100 67/100 67/100" ∷
    codes "5 param govActionLifetime 5" ∷
    codes "5 param govActionDeposit 10" ∷
    codes "5 param drepDeposit 5" ∷
    codes "5 param drepActivity 7" ∷
    codes "5 param committeeMinSize 0" ∷
    codes "5 param committeeMaxTermLength 100" ∷
    codes "5 drep k00000000000000000000000000000000000000000000000000000030 deposit 5 expiry 3" ∷
    codes "5 drep k00000000000000000000000000000000000000000000000000000031 deposit 5 expiry 10" ∷
    codes "5 drep k00000000000000000000000000000000000000000000000000000032 deposit 5 expiry 10" ∷
    codes "5 pool 00000000000000000000000000000000000000000000000000000050 deposit 5 cost 0 pledge 0 margin 0/1 account 1k00000000000000000000000000000000000000000000000000000012 retires never" ∷
    codes "5 account k00000000000000000000000000000000000000000000000000000012 stake 0 deposit 2 rewards 0 pool none drep none" ∷
    codes "5 output 0000000000000000000000000000000000000000000000000000000000000001#4 1k00000000000000000000000000000000000000000000000000000001 20" ∷
    codes "5 output 0000000000000000000000000000000000000000000000000000000000000001#5 1k00000000000000000000000000000000000000000000000000000001 20" ∷
    codes "5 output 0000000000000000000000000000000000000000000000000000000000000001#6 1k00000000000000000000000000000000000000000000000000000001 20" ∷
    codes "5 output 0000000000000000000000000000000000000000000000000000000000000001#7 1k00000000000000000000000000000000000000000000000000000001 20" ∷
    codes "5 proposal 0000000000000000000000000000000000000000000000000000000000000002#0 Info deposit 10 return 1k00000000000000000000000000000000000000000000000000000012 expires 7 previous none" ∷
    codes "5 vote 0000000000000000000000000000000000000000000000000000000000000002#0 drep:k00000000000000000000000000000000000000000000000000000031 yes" ∷
    codes "5 snapshot mark 00000000000000000000000000000000000000000000000000000050 0" ∷
    codes "5 snapshot set 00000000000000000000000000000000000000000000000000000050 0" ∷
    codes "5 snapshot fees 10" ∷
    codes "5 pending none" ∷
    codes "5 pots outputs 80 deposits 32 rewards 0 fees 25 donations 0 treasury 100 reserves 763 supply 1000" ∷
    codes "6 epoch 4 frozen 1 dormant 0" ∷
    codes "6 tally 0000000000000000000000000000000000000000000000000000000000000002#0 Info committee 0/1 need never drep 0/0 need never pool 0/0 need never waiting" ∷
    codes "6 pots outputs 80 deposits 32 rewards 0 fees 25 donations 0 treasury 100 reserves 763 supply 1000" ∷
    codes "6 block slot 40 epoch 4 counted 1 of 1" ∷
    codes "7 epoch 5 frozen 1 dormant 0" ∷
    codes "7 tally 0000000000000000000000000000000000000000000000000000000000000002#0 Info committee 0/1 need never drep 0/0 need never pool 0/0 need never waiting" ∷
    codes "7 pots outputs 80 deposits 32 rewards 0 fees 25 donations 0 treasury 100 reserves 763 supply 1000" ∷
    codes "7 block slot 50 epoch 5 counted 1 of 1" ∷
    codes "8 epoch 6 frozen 1 dormant 0" ∷
    codes "8 tally 0000000000000000000000000000000000000000000000000000000000000002#0 Info committee 0/1 need never drep 0/0 need never pool 0/0 need never waiting" ∷
    codes "8 pots outputs 80 deposits 32 rewards 0 fees 25 donations 0 treasury 100 reserves 763 supply 1000" ∷
    codes "8 block slot 60 epoch 6 counted 1 of 1" ∷
    codes "9 epoch 7 frozen 1 dormant 0" ∷
    codes "9 tally 0000000000000000000000000000000000000000000000000000000000000002#0 Info committee 0/1 need never drep 0/0 need never pool 0/0 need never waiting" ∷
    codes "9 pots outputs 80 deposits 32 rewards 0 fees 25 donations 0 treasury 100 reserves 763 supply 1000" ∷
    codes "9 block slot 70 epoch 7 counted 1 of 1" ∷
    codes "10 epoch 8 frozen 1 dormant 0" ∷
    codes "10 tally 0000000000000000000000000000000000000000000000000000000000000002#0 Info committee 0/1 need never drep 0/0 need never pool 0/0 need never waiting" ∷
    codes "10 pots outputs 80 deposits 32 rewards 0 fees 25 donations 0 treasury 100 reserves 763 supply 1000" ∷
    codes "10 block slot 80 epoch 8 counted 1 of 1" ∷
    codes "11 epoch 9 frozen 1 dormant 1" ∷
    codes "11 tally 0000000000000000000000000000000000000000000000000000000000000002#0 Info committee 0/1 need never drep 0/0 need never pool 0/0 need never expired" ∷
    codes "11 removed 0000000000000000000000000000000000000000000000000000000000000002#0 expired refund 10 1k00000000000000000000000000000000000000000000000000000012" ∷
    codes "11 pots outputs 80 deposits 22 rewards 10 fees 25 donations 0 treasury 100 reserves 763 supply 1000" ∷
    codes "11 block slot 90 epoch 9 counted 1 of 1" ∷
    codes "12 epoch 10 frozen 1 dormant 2" ∷
    codes "12 pots outputs 80 deposits 22 rewards 10 fees 25 donations 0 treasury 100 reserves 763 supply 1000" ∷
    codes "12 block slot 100 epoch 10 counted 1 of 1" ∷
    codes "13 refused 100 ActionUnknown at 0" ∷
    codes "14 accepted" ∷
    codes "15 now slot 100 epoch 10 version 10.0 dormant 0" ∷
    codes "15 constitution 0000000000000000000000000000000000000000000000000000000000000001 none" ∷
    codes "15 committee threshold 0/1" ∷
    codes "15 member k00000000000000000000000000000000000000000000000000000070 term 100 hot k00000000000000000000000000000000000000000000000000000071" ∷
    codes "15 enacted committee none constitution none hardfork none parameters none" ∷
    codes "15 param maxBlockBodySize 90112" ∷
    codes "15 param maxTxSize 16384" ∷
    codes "15 param maxBlockHeaderSize 1100" ∷
    codes "15 param maxValueSize 5000" ∷
    codes "15 param maxTxExUnits 1000 1000" ∷
    codes "15 param maxBlockExUnits 1000 1000" ∷
    codes "15 param maxCollateralInputs 3" ∷
    codes "15 param minFeeA 0" ∷
    codes "15 param minFeeB 0" ∷
    codes "15 param keyDeposit 2" ∷
    codes "15 param poolDeposit 5" ∷
    codes "15 param rho 0/1" ∷
    codes "15 param tau 0/1" ∷
    codes "15 param minPoolCost 0" ∷
    codes "15 param coinsPerUTxOByte 0" ∷
    codes "15 param prices 0/1 0/1" ∷
    codes "15 param minFeeRefScriptCostPerByte 15/1" ∷
    codes "15 param a0 0/1" ∷
    codes "15 param eMax 18" ∷
    codes "15 param nOpt 500" ∷
    codes "15 param costModels 0000000000000000000000000000000000000000000000000000000000000000" ∷
    codes "15 param collateralPercentage 150" ∷
    codes "15 param poolVotingThresholds 0/1 0/1 0/1 0/1 0/1" ∷
    codes "15 param drepVotingThresholds 67/100 67/100 67/100 67/100 67/100 67/100 67/100 67/100 67/100 67/100" ∷
    codes "15 param govActionLifetime 5" ∷
    codes "15 param govActionDeposit 10" ∷
    codes "15 param drepDeposit 5" ∷
    codes "15 param drepActivity 7" ∷
    codes "15 param committeeMinSize 0" ∷
    codes "15 param committeeMaxTermLength 100" ∷
    codes "15 drep k00000000000000000000000000000000000000000000000000000030 deposit 5 expiry 3" ∷
    codes "15 drep k00000000000000000000000000000000000000000000000000000031 deposit 5 expiry 17" ∷
    codes "15 drep k00000000000000000000000000000000000000000000000000000032 deposit 5 expiry 12" ∷
    codes "15 pool 00000000000000000000000000000000000000000000000000000050 deposit 5 cost 0 pledge 0 margin 0/1 account 1k00000000000000000000000000000000000000000000000000000012 retires never" ∷
    codes "15 account k00000000000000000000000000000000000000000000000000000012 stake 0 deposit 2 rewards 10 pool none drep none" ∷
    codes "15 output 0000000000000000000000000000000000000000000000000000000000000001#4 1k00000000000000000000000000000000000000000000000000000001 20" ∷
    codes "15 output 0000000000000000000000000000000000000000000000000000000000000001#6 1k00000000000000000000000000000000000000000000000000000001 20" ∷
    codes "15 output 0000000000000000000000000000000000000000000000000000000000000001#7 1k00000000000000000000000000000000000000000000000000000001 20" ∷
    codes "15 proposal 0000000000000000000000000000000000000000000000000000000000000005#0 Info deposit 10 return 1k00000000000000000000000000000000000000000000000000000012 expires 15 previous none" ∷
    codes "15 snapshot mark 00000000000000000000000000000000000000000000000000000050 0" ∷
    codes "15 snapshot set 00000000000000000000000000000000000000000000000000000050 0" ∷
    codes "15 snapshot go 00000000000000000000000000000000000000000000000000000050 0" ∷
    codes "15 snapshot fees 25" ∷
    codes "15 pending none" ∷
    codes "15 pots outputs 60 deposits 32 rewards 10 fees 35 donations 0 treasury 100 reserves 763 supply 1000" ∷
    []) ≡ true
unfolding digits encode_with
expiries_after_many_dormant_epochs = refl

abbrev dormant_epochs_beyond_the_activity_input : List (ℕ × Reading)
dormant_epochs_beyond_the_activity_input =
    (1, Read (records.Genesis (record { network = 1; slot = 0; epoch_length = 10; version = (10, 0); supply = 1000; reserves = 579; treasury = 100; params = (record base_params { gov_action_lifetime = 6; drep_activity = 2 }); document = (h32 0x01); script = None; committee = (Some (record { threshold = (share 0 1); members = (((key 0x70), 100, (Some (key 0x71))) ∷ []) })); outputs = (((ref 0x01 0), (address_with 1 (key 0x01) None), 20, []) ∷ ((ref 0x01 1), (address_with 1 (key 0x01) None), 20, []) ∷ ((ref 0x01 2), (address_with 1 (key 0x01) None), 20, []) ∷ ((ref 0x01 3), (address_with 1 (key 0x01) None), 20, []) ∷ ((ref 0x01 4), (address_with 1 (key 0x01) None), 20, []) ∷ ((ref 0x01 5), (address_with 1 (key 0x01) None), 20, []) ∷ ((ref 0x01 6), (address_with 1 (key 0x01) None), 20, []) ∷ ((ref 0x01 7), (address_with 1 (key 0x01) None), 20, []) ∷ ((ref 0x01 8), (address_with 1 (key 0x01) None), 20, []) ∷ ((ref 0x01 9), (address_with 1 (key 0x01) None), 20, []) ∷ []); accounts = (((key 0x10), 2, 67, None, (Some (drep.Registered (key 0x30)))) ∷ ((key 0x11), 2, 33, None, (Some (drep.Registered (key 0x31)))) ∷ ((key 0x12), 2, 0, None, None) ∷ []); pools = ((record { pool = (pool 0x50); deposit = 5; cost = 0; pledge = 0; margin = (share 0 1); account = (account_on 1 (key 0x12)); key = None }) ∷ []); dreps = (((key 0x30), 5, 20) ∷ ((key 0x31), 5, 20) ∷ []) }))) ∷
    (2, Read (records.Block 10 3)) ∷
    (3, Read (records.Block 20 3)) ∷
    (4, Read (records.Block 30 3)) ∷
    (5, Read (records.Tx (record (spend 0x02 15) { certs = ((certs.DrepReg (key 0x32) None) ∷ (certs.Delegate (key 0x10) None (Some (drep.Registered (key 0x32)))) ∷ []) }))) ∷
    (6, Read (records.Tx (record (spend 0x03 10) { proposals = ((proposing 10 (account_on 1 (key 0x12)) (actions.NewConstitution None (h32 0x02) None)) ∷ []) }))) ∷
    (7, Read (records.Block 40 3)) ∷
    (8, Read (records.Block 50 3)) ∷
    (9, Read (records.Block 60 3)) ∷
    (10, Read (records.Block 70 3)) ∷
    []

pub dormant_epochs_beyond_the_activity : says_all dormant_epochs_beyond_the_activity_input (
    codes "1 genesis outputs 200 deposits 21 rewards 100 fees 0 donations 0 treasury 100 reserves 579 supply 1000" ∷
    codes "2 epoch 1 frozen 3 dormant 1" ∷
    codes "2 stake k00000000000000000000000000000000000000000000000000000030 67" ∷
    codes "2 stake k00000000000000000000000000000000000000000000000000000031 33" ∷
    codes "2 pots outputs 200 deposits 21 rewards 100 fees 0 donations 0 treasury 100 reserves 579 supply 1000" ∷
    codes "2 block slot 10 epoch 1 counted 3 of 3" ∷
    codes "3 epoch 2 frozen 3 dormant 2" ∷
    codes "3 stake k00000000000000000000000000000000000000000000000000000030 67" ∷
    codes "3 stake k00000000000000000000000000000000000000000000000000000031 33" ∷
    codes "3 pots outputs 200 deposits 21 rewards 100 fees 0 donations 0 treasury 100 reserves 579 supply 1000" ∷
    codes "3 block slot 20 epoch 2 counted 3 of 3" ∷
    codes "4 epoch 3 frozen 3 dormant 3" ∷
    codes "4 stake k00000000000000000000000000000000000000000000000000000030 67" ∷
    codes "4 stake k00000000000000000000000000000000000000000000000000000031 33" ∷
    codes "4 pots outputs 200 deposits 21 rewards 100 fees 0 donations 0 treasury 100 reserves 579 supply 1000" ∷
    codes "4 block slot 30 epoch 3 counted 3 of 3" ∷
    codes "5 accepted" ∷
    codes "6 accepted" ∷
    codes "7 epoch 4 frozen 3 dormant 0" ∷
    codes "7 stake k00000000000000000000000000000000000000000000000000000030 67" ∷
    codes "7 stake k00000000000000000000000000000000000000000000000000000031 33" ∷
    codes "7 pots outputs 160 deposits 36 rewards 100 fees 25 donations 0 treasury 100 reserves 579 supply 1000" ∷
    codes "7 block slot 40 epoch 4 counted 3 of 3" ∷
    codes "8 epoch 5 frozen 3 dormant 0" ∷
    codes "8 stake k00000000000000000000000000000000000000000000000000000031 33" ∷
    codes "8 stake k00000000000000000000000000000000000000000000000000000032 67" ∷
    codes "8 tally 0000000000000000000000000000000000000000000000000000000000000003#0 NewConstitution committee 0/1 need 0/1 drep 0/100 need 67/100 pool 0/0 need none waiting" ∷
    codes "8 pots outputs 160 deposits 36 rewards 100 fees 25 donations 0 treasury 100 reserves 579 supply 1000" ∷
    codes "8 block slot 50 epoch 5 counted 3 of 3" ∷
    codes "9 epoch 6 frozen 3 dormant 0" ∷
    codes "9 stake k00000000000000000000000000000000000000000000000000000031 33" ∷
    codes "9 stake k00000000000000000000000000000000000000000000000000000032 67" ∷
    codes "9 tally 0000000000000000000000000000000000000000000000000000000000000003#0 NewConstitution committee 0/1 need 0/1 drep 0/100 need 67/100 pool 0/0 need none waiting" ∷
    codes "9 pots outputs 160 deposits 36 rewards 100 fees 25 donations 0 treasury 100 reserves 579 supply 1000" ∷
    codes "9 block slot 60 epoch 6 counted 3 of 3" ∷
    codes "10 epoch 7 frozen 3 dormant 0" ∷
    codes "10 stake k00000000000000000000000000000000000000000000000000000031 33" ∷
    codes "10 stake k00000000000000000000000000000000000000000000000000000032 67" ∷
    codes "10 tally 0000000000000000000000000000000000000000000000000000000000000003#0 NewConstitution committee 0/1 need 0/1 drep 0/33 need 67/100 pool 0/0 need none waiting" ∷
    codes "10 pots outputs 160 deposits 36 rewards 100 fees 25 donations 0 treasury 100 reserves 579 supply 1000" ∷
    codes "10 block slot 70 epoch 7 counted 3 of 3" ∷
    []) ≡ true
unfolding digits encode_with
dormant_epochs_beyond_the_activity = refl
