-- Worked rows of whole streams: certificates of accounts and pools. Made by tests/made/rows_of, from the streams of these names in tests/streams/whole.
use Rattle.std.specs.Prelude.{ℕ, ◌≡◌, List, [], ◌∷◌, Some, None, true, codes, refl}
use Rattle.std.specs.Fmt.{digits}
use Rattle.hex.specs.Hex.{encode_with}
use Rattle.gov_actions.specs.declared.action.Action.TheVariants as actions
use Rattle.gov_ids.specs.declared.Drep.TheVariants as drep
use Rattle.tx_records.specs.declared.record.Record.TheVariants as records
use Rattle.tx_records.specs.declared.record.What.TheVariants as what
use Rattle.tx_records.specs.declared.cert.Cert.TheVariants as certs
use Rattle.tx_records.specs.declared.record.Reading.{Reading}
use Rattle.tx_records.specs.declared.record.Reading.TheVariants.{Read}
use Rattle.ledger_rows.proofs.Base.{h32, key, script, pool, account_on, address_with, ref, share, base_params, no_update, spend, proposing, says_all}

abbrev certificates_of_accounts_input : List (ℕ × Reading)
certificates_of_accounts_input =
    (1, Read (records.Genesis (record { network = 1; slot = 0; epoch_length = 10; version = (10, 0); supply = 1000; reserves = 719; treasury = 100; params = base_params; document = (h32 0x01); script = None; committee = (Some (record { threshold = (share 0 1); members = (((key 0x70), 100, (Some (key 0x71))) ∷ []) })); outputs = (((ref 0x01 2), (address_with 1 (key 0x01) None), 20, []) ∷ ((ref 0x01 3), (address_with 1 (key 0x01) None), 20, []) ∷ ((ref 0x01 4), (address_with 1 (key 0x01) None), 20, []) ∷ []); accounts = (((key 0x10), 2, 67, None, (Some (drep.Registered (key 0x30)))) ∷ ((key 0x11), 2, 33, None, (Some (drep.Registered (key 0x31)))) ∷ ((key 0x12), 2, 0, None, None) ∷ []); pools = ((record { pool = (pool 0x50); deposit = 5; cost = 0; pledge = 0; margin = (share 0 1); account = (account_on 1 (key 0x12)); key = None }) ∷ []); dreps = (((key 0x30), 5, 20) ∷ ((key 0x31), 5, 20) ∷ []) }))) ∷
    (2, Read (records.Tx (record (spend 0x02 12) { certs = ((certs.AccountReg (key 0x13) (Some 2) (Some (pool 0x50)) (Some (drep.Registered (key 0x30)))) ∷ (certs.AccountReg (script 0x14) None None None) ∷ (certs.AccountReg (key 0x15) None None (Some drep.NoConfidence)) ∷ (certs.AccountReg (script 0x15) None (Some (pool 0x50)) None) ∷ []) }))) ∷
    (3, Read (records.Tx (record (spend 0x03 20) { certs = ((certs.Delegate (key 0x10) (Some (pool 0x50)) None) ∷ (certs.Delegate (key 0x12) None (Some drep.Abstain)) ∷ (certs.Delegate (key 0x12) (Some (pool 0x50)) None) ∷ (certs.Delegate (key 0x11) (Some (pool 0x50)) (Some drep.NoConfidence)) ∷ (certs.Delegate (key 0x15) None (Some (drep.Registered (key 0x31)))) ∷ []) }))) ∷
    (4, Read (records.Print what.State)) ∷
    (5, Read (records.Tx (record (spend 0x04 24) { certs = ((certs.AccountUnreg (key 0x13) (Some 2)) ∷ (certs.AccountUnreg (script 0x14) None) ∷ (certs.Delegate (key 0x12) None (Some (drep.Registered (key 0x30)))) ∷ []) }))) ∷
    (6, Read (records.Print what.State)) ∷
    (7, Read (records.Block 10 2)) ∷
    (8, Read (records.Print what.State)) ∷
    []

pub certificates_of_accounts : says_all certificates_of_accounts_input (
    codes "1 genesis outputs 60 deposits 21 rewards 100 fees 0 donations 0 treasury 100 reserves 719 supply 1000" ∷
    codes "2 accepted" ∷
    codes "3 accepted" ∷
    codes "4 now slot 0 epoch 0 version 10.0 dormant 0" ∷
    codes "4 constitution 0000000000000000000000000000000000000000000000000000000000000001 none" ∷
    codes "4 committee threshold 0/1" ∷
    codes "4 member k00000000000000000000000000000000000000000000000000000070 term 100 hot k00000000000000000000000000000000000000000000000000000071" ∷
    codes "4 enacted committee none constitution none hardfork none parameters none" ∷
    codes "4 param maxBlockBodySize 90112" ∷
    codes "4 param maxTxSize 16384" ∷
    codes "4 param maxBlockHeaderSize 1100" ∷
    codes "4 param maxValueSize 5000" ∷
    codes "4 param maxTxExUnits 1000 1000" ∷
    codes "4 param maxBlockExUnits 1000 1000" ∷
    codes "4 param maxCollateralInputs 3" ∷
    codes "4 param minFeeA 0" ∷
    codes "4 param minFeeB 0" ∷
    codes "4 param keyDeposit 2" ∷
    codes "4 param poolDeposit 5" ∷
    codes "4 param rho 0/1" ∷
    codes "4 param tau 0/1" ∷
    codes "4 param minPoolCost 0" ∷
    codes "4 param coinsPerUTxOByte 0" ∷
    codes "4 param prices 0/1 0/1" ∷
    codes "4 param minFeeRefScriptCostPerByte 15/1" ∷
    codes "4 param a0 0/1" ∷
    codes "4 param eMax 18" ∷
    codes "4 param nOpt 500" ∷
    codes "4 param costModels 0000000000000000000000000000000000000000000000000000000000000000" ∷
    codes "4 param collateralPercentage 150" ∷
    codes "4 param poolVotingThresholds 0/1 0/1 0/1 0/1 0/1" ∷
    codes "4 param drepVotingThresholds 67/100 67/100 67/100 67/100 67/100 67/100 67/100 67/100 67/100 67/100" ∷
    codes "4 param govActionLifetime 2" ∷
    codes "4 param govActionDeposit 10" ∷
    codes "4 param drepDeposit 5" ∷
    codes "4 param drepActivity 20" ∷
    codes "4 param committeeMinSize 0" ∷
    codes "4 param committeeMaxTermLength 100" ∷
    codes "4 drep k00000000000000000000000000000000000000000000000000000030 deposit 5 expiry 20" ∷
    codes "4 drep k00000000000000000000000000000000000000000000000000000031 deposit 5 expiry 20" ∷
    codes "4 pool 00000000000000000000000000000000000000000000000000000050 deposit 5 cost 0 pledge 0 margin 0/1 account 1k00000000000000000000000000000000000000000000000000000012 retires never" ∷
    codes "4 account k00000000000000000000000000000000000000000000000000000010 stake 0 deposit 2 rewards 67 pool 00000000000000000000000000000000000000000000000000000050 drep k00000000000000000000000000000000000000000000000000000030" ∷
    codes "4 account k00000000000000000000000000000000000000000000000000000011 stake 0 deposit 2 rewards 33 pool 00000000000000000000000000000000000000000000000000000050 drep no-confidence" ∷
    codes "4 account k00000000000000000000000000000000000000000000000000000012 stake 0 deposit 2 rewards 0 pool 00000000000000000000000000000000000000000000000000000050 drep abstain" ∷
    codes "4 account k00000000000000000000000000000000000000000000000000000013 stake 0 deposit 2 rewards 0 pool 00000000000000000000000000000000000000000000000000000050 drep k00000000000000000000000000000000000000000000000000000030" ∷
    codes "4 account s00000000000000000000000000000000000000000000000000000014 stake 0 deposit 2 rewards 0 pool none drep none" ∷
    codes "4 account k00000000000000000000000000000000000000000000000000000015 stake 0 deposit 2 rewards 0 pool none drep k00000000000000000000000000000000000000000000000000000031" ∷
    codes "4 account s00000000000000000000000000000000000000000000000000000015 stake 0 deposit 2 rewards 0 pool 00000000000000000000000000000000000000000000000000000050 drep none" ∷
    codes "4 output 0000000000000000000000000000000000000000000000000000000000000001#4 1k00000000000000000000000000000000000000000000000000000001 20" ∷
    codes "4 snapshot mark 00000000000000000000000000000000000000000000000000000050 0" ∷
    codes "4 snapshot fees 0" ∷
    codes "4 pending none" ∷
    codes "4 pots outputs 20 deposits 29 rewards 100 fees 32 donations 0 treasury 100 reserves 719 supply 1000" ∷
    codes "5 accepted" ∷
    codes "6 now slot 0 epoch 0 version 10.0 dormant 0" ∷
    codes "6 constitution 0000000000000000000000000000000000000000000000000000000000000001 none" ∷
    codes "6 committee threshold 0/1" ∷
    codes "6 member k00000000000000000000000000000000000000000000000000000070 term 100 hot k00000000000000000000000000000000000000000000000000000071" ∷
    codes "6 enacted committee none constitution none hardfork none parameters none" ∷
    codes "6 param maxBlockBodySize 90112" ∷
    codes "6 param maxTxSize 16384" ∷
    codes "6 param maxBlockHeaderSize 1100" ∷
    codes "6 param maxValueSize 5000" ∷
    codes "6 param maxTxExUnits 1000 1000" ∷
    codes "6 param maxBlockExUnits 1000 1000" ∷
    codes "6 param maxCollateralInputs 3" ∷
    codes "6 param minFeeA 0" ∷
    codes "6 param minFeeB 0" ∷
    codes "6 param keyDeposit 2" ∷
    codes "6 param poolDeposit 5" ∷
    codes "6 param rho 0/1" ∷
    codes "6 param tau 0/1" ∷
    codes "6 param minPoolCost 0" ∷
    codes "6 param coinsPerUTxOByte 0" ∷
    codes "6 param prices 0/1 0/1" ∷
    codes "6 param minFeeRefScriptCostPerByte 15/1" ∷
    codes "6 param a0 0/1" ∷
    codes "6 param eMax 18" ∷
    codes "6 param nOpt 500" ∷
    codes "6 param costModels 0000000000000000000000000000000000000000000000000000000000000000" ∷
    codes "6 param collateralPercentage 150" ∷
    codes "6 param poolVotingThresholds 0/1 0/1 0/1 0/1 0/1" ∷
    codes "6 param drepVotingThresholds 67/100 67/100 67/100 67/100 67/100 67/100 67/100 67/100 67/100 67/100" ∷
    codes "6 param govActionLifetime 2" ∷
    codes "6 param govActionDeposit 10" ∷
    codes "6 param drepDeposit 5" ∷
    codes "6 param drepActivity 20" ∷
    codes "6 param committeeMinSize 0" ∷
    codes "6 param committeeMaxTermLength 100" ∷
    codes "6 drep k00000000000000000000000000000000000000000000000000000030 deposit 5 expiry 20" ∷
    codes "6 drep k00000000000000000000000000000000000000000000000000000031 deposit 5 expiry 20" ∷
    codes "6 pool 00000000000000000000000000000000000000000000000000000050 deposit 5 cost 0 pledge 0 margin 0/1 account 1k00000000000000000000000000000000000000000000000000000012 retires never" ∷
    codes "6 account k00000000000000000000000000000000000000000000000000000010 stake 0 deposit 2 rewards 67 pool 00000000000000000000000000000000000000000000000000000050 drep k00000000000000000000000000000000000000000000000000000030" ∷
    codes "6 account k00000000000000000000000000000000000000000000000000000011 stake 0 deposit 2 rewards 33 pool 00000000000000000000000000000000000000000000000000000050 drep no-confidence" ∷
    codes "6 account k00000000000000000000000000000000000000000000000000000012 stake 0 deposit 2 rewards 0 pool 00000000000000000000000000000000000000000000000000000050 drep k00000000000000000000000000000000000000000000000000000030" ∷
    codes "6 account k00000000000000000000000000000000000000000000000000000015 stake 0 deposit 2 rewards 0 pool none drep k00000000000000000000000000000000000000000000000000000031" ∷
    codes "6 account s00000000000000000000000000000000000000000000000000000015 stake 0 deposit 2 rewards 0 pool 00000000000000000000000000000000000000000000000000000050 drep none" ∷
    codes "6 snapshot mark 00000000000000000000000000000000000000000000000000000050 0" ∷
    codes "6 snapshot fees 0" ∷
    codes "6 pending none" ∷
    codes "6 pots outputs 0 deposits 25 rewards 100 fees 56 donations 0 treasury 100 reserves 719 supply 1000" ∷
    codes "7 epoch 1 frozen 5 dormant 1" ∷
    codes "7 stake k00000000000000000000000000000000000000000000000000000030 67" ∷
    codes "7 stake k00000000000000000000000000000000000000000000000000000031 33" ∷
    codes "7 pots outputs 0 deposits 25 rewards 100 fees 56 donations 0 treasury 100 reserves 719 supply 1000" ∷
    codes "7 block slot 10 epoch 1 counted 2 of 5" ∷
    codes "8 now slot 10 epoch 1 version 10.0 dormant 1" ∷
    codes "8 constitution 0000000000000000000000000000000000000000000000000000000000000001 none" ∷
    codes "8 committee threshold 0/1" ∷
    codes "8 member k00000000000000000000000000000000000000000000000000000070 term 100 hot k00000000000000000000000000000000000000000000000000000071" ∷
    codes "8 enacted committee none constitution none hardfork none parameters none" ∷
    codes "8 param maxBlockBodySize 90112" ∷
    codes "8 param maxTxSize 16384" ∷
    codes "8 param maxBlockHeaderSize 1100" ∷
    codes "8 param maxValueSize 5000" ∷
    codes "8 param maxTxExUnits 1000 1000" ∷
    codes "8 param maxBlockExUnits 1000 1000" ∷
    codes "8 param maxCollateralInputs 3" ∷
    codes "8 param minFeeA 0" ∷
    codes "8 param minFeeB 0" ∷
    codes "8 param keyDeposit 2" ∷
    codes "8 param poolDeposit 5" ∷
    codes "8 param rho 0/1" ∷
    codes "8 param tau 0/1" ∷
    codes "8 param minPoolCost 0" ∷
    codes "8 param coinsPerUTxOByte 0" ∷
    codes "8 param prices 0/1 0/1" ∷
    codes "8 param minFeeRefScriptCostPerByte 15/1" ∷
    codes "8 param a0 0/1" ∷
    codes "8 param eMax 18" ∷
    codes "8 param nOpt 500" ∷
    codes "8 param costModels 0000000000000000000000000000000000000000000000000000000000000000" ∷
    codes "8 param collateralPercentage 150" ∷
    codes "8 param poolVotingThresholds 0/1 0/1 0/1 0/1 0/1" ∷
    codes "8 param drepVotingThresholds 67/100 67/100 67/100 67/100 67/100 67/100 67/100 67/100 67/100 67/100" ∷
    codes "8 param govActionLifetime 2" ∷
    codes "8 param govActionDeposit 10" ∷
    codes "8 param drepDeposit 5" ∷
    codes "8 param drepActivity 20" ∷
    codes "8 param committeeMinSize 0" ∷
    codes "8 param committeeMaxTermLength 100" ∷
    codes "8 drep k00000000000000000000000000000000000000000000000000000030 deposit 5 expiry 20" ∷
    codes "8 drep k00000000000000000000000000000000000000000000000000000031 deposit 5 expiry 20" ∷
    codes "8 pool 00000000000000000000000000000000000000000000000000000050 deposit 5 cost 0 pledge 0 margin 0/1 account 1k00000000000000000000000000000000000000000000000000000012 retires never" ∷
    codes "8 account k00000000000000000000000000000000000000000000000000000010 stake 0 deposit 2 rewards 67 pool 00000000000000000000000000000000000000000000000000000050 drep k00000000000000000000000000000000000000000000000000000030" ∷
    codes "8 account k00000000000000000000000000000000000000000000000000000011 stake 0 deposit 2 rewards 33 pool 00000000000000000000000000000000000000000000000000000050 drep no-confidence" ∷
    codes "8 account k00000000000000000000000000000000000000000000000000000012 stake 0 deposit 2 rewards 0 pool 00000000000000000000000000000000000000000000000000000050 drep k00000000000000000000000000000000000000000000000000000030" ∷
    codes "8 account k00000000000000000000000000000000000000000000000000000015 stake 0 deposit 2 rewards 0 pool none drep k00000000000000000000000000000000000000000000000000000031" ∷
    codes "8 account s00000000000000000000000000000000000000000000000000000015 stake 0 deposit 2 rewards 0 pool 00000000000000000000000000000000000000000000000000000050 drep none" ∷
    codes "8 snapshot mark 00000000000000000000000000000000000000000000000000000050 100" ∷
    codes "8 snapshot set 00000000000000000000000000000000000000000000000000000050 0" ∷
    codes "8 snapshot fees 56" ∷
    codes "8 pending none" ∷
    codes "8 pots outputs 0 deposits 25 rewards 100 fees 56 donations 0 treasury 100 reserves 719 supply 1000" ∷
    []) ≡ true
unfolding digits encode_with
certificates_of_accounts = refl

abbrev certificates_of_pools_input : List (ℕ × Reading)
certificates_of_pools_input =
    (1, Read (records.Genesis (record { network = 1; slot = 0; epoch_length = 10; version = (10, 0); supply = 1000; reserves = 679; treasury = 100; params = base_params; document = (h32 0x01); script = None; committee = (Some (record { threshold = (share 0 1); members = (((key 0x70), 100, (Some (key 0x71))) ∷ []) })); outputs = (((ref 0x01 2), (address_with 1 (key 0x01) None), 20, []) ∷ ((ref 0x01 3), (address_with 1 (key 0x01) None), 20, []) ∷ ((ref 0x01 4), (address_with 1 (key 0x01) None), 20, []) ∷ ((ref 0x01 5), (address_with 1 (key 0x01) None), 20, []) ∷ ((ref 0x01 6), (address_with 1 (key 0x01) None), 20, []) ∷ []); accounts = (((key 0x10), 2, 67, (Some (pool 0x50)), (Some (drep.Registered (key 0x30)))) ∷ ((key 0x11), 2, 33, (Some (pool 0x50)), None) ∷ ((key 0x12), 2, 0, None, None) ∷ []); pools = ((record { pool = (pool 0x50); deposit = 5; cost = 0; pledge = 0; margin = (share 0 1); account = (account_on 1 (key 0x12)); key = None }) ∷ []); dreps = (((key 0x30), 5, 20) ∷ ((key 0x31), 5, 20) ∷ []) }))) ∷
    (2, Read (records.Tx (record (spend 0x02 15) { certs = ((certs.PoolReg (pool 0x51) 3 4 (share 1 2) (account_on 1 (key 0x11)) None) ∷ (certs.Delegate (key 0x10) (Some (pool 0x51)) None) ∷ []) }))) ∷
    (3, Read (records.Tx (record (spend 0x03 20) { certs = ((certs.PoolReg (pool 0x50) 6 7 (share 1 4) (account_on 1 (key 0x10)) None) ∷ (certs.PoolRetire (pool 0x50) 1) ∷ []) }))) ∷
    (4, Read (records.Tx (record (spend 0x04 20) { certs = ((certs.PoolRetire (pool 0x51) 1) ∷ (certs.PoolRetire (pool 0x51) 2) ∷ (certs.PoolReg (pool 0x50) 8 9 (share 1 3) (account_on 1 (key 0x12)) None) ∷ []) }))) ∷
    (5, Read (records.Print what.State)) ∷
    (6, Read (records.Block 10 1)) ∷
    (7, Read (records.Print what.State)) ∷
    (8, Read (records.Tx (record (spend 0x05 0) { certs = ((certs.PoolRetire (pool 0x51) 1) ∷ []) }))) ∷
    (9, Read (records.Block 20 1)) ∷
    (10, Read (records.Print what.State)) ∷
    (11, Read (records.Tx (record (spend 0x06 0) { certs = ((certs.Delegate (key 0x10) (Some (pool 0x51)) None) ∷ []) }))) ∷
    []

pub certificates_of_pools : says_all certificates_of_pools_input (
    codes "1 genesis outputs 100 deposits 21 rewards 100 fees 0 donations 0 treasury 100 reserves 679 supply 1000" ∷
    codes "2 accepted" ∷
    codes "3 accepted" ∷
    codes "4 accepted" ∷
    codes "5 now slot 0 epoch 0 version 10.0 dormant 0" ∷
    codes "5 constitution 0000000000000000000000000000000000000000000000000000000000000001 none" ∷
    codes "5 committee threshold 0/1" ∷
    codes "5 member k00000000000000000000000000000000000000000000000000000070 term 100 hot k00000000000000000000000000000000000000000000000000000071" ∷
    codes "5 enacted committee none constitution none hardfork none parameters none" ∷
    codes "5 param maxBlockBodySize 90112" ∷
    codes "5 param maxTxSize 16384" ∷
    codes "5 param maxBlockHeaderSize 1100" ∷
    codes "5 param maxValueSize 5000" ∷
    codes "5 param maxTxExUnits 1000 1000" ∷
    codes "5 param maxBlockExUnits 1000 1000" ∷
    codes "5 param maxCollateralInputs 3" ∷
    codes "5 param minFeeA 0" ∷
    codes "5 param minFeeB 0" ∷
    codes "5 param keyDeposit 2" ∷
    codes "5 param poolDeposit 5" ∷
    codes "5 param rho 0/1" ∷
    codes "5 param tau 0/1" ∷
    codes "5 param minPoolCost 0" ∷
    codes "5 param coinsPerUTxOByte 0" ∷
    codes "5 param prices 0/1 0/1" ∷
    codes "5 param minFeeRefScriptCostPerByte 15/1" ∷
    codes "5 param a0 0/1" ∷
    codes "5 param eMax 18" ∷
    codes "5 param nOpt 500" ∷
    codes "5 param costModels 0000000000000000000000000000000000000000000000000000000000000000" ∷
    codes "5 param collateralPercentage 150" ∷
    codes "5 param poolVotingThresholds 0/1 0/1 0/1 0/1 0/1" ∷
    codes "5 param drepVotingThresholds 67/100 67/100 67/100 67/100 67/100 67/100 67/100 67/100 67/100 67/100" ∷
    codes "5 param govActionLifetime 2" ∷
    codes "5 param govActionDeposit 10" ∷
    codes "5 param drepDeposit 5" ∷
    codes "5 param drepActivity 20" ∷
    codes "5 param committeeMinSize 0" ∷
    codes "5 param committeeMaxTermLength 100" ∷
    codes "5 drep k00000000000000000000000000000000000000000000000000000030 deposit 5 expiry 20" ∷
    codes "5 drep k00000000000000000000000000000000000000000000000000000031 deposit 5 expiry 20" ∷
    codes "5 pool 00000000000000000000000000000000000000000000000000000050 deposit 5 cost 0 pledge 0 margin 0/1 account 1k00000000000000000000000000000000000000000000000000000012 retires never" ∷
    codes "5 next 00000000000000000000000000000000000000000000000000000050 cost 8 pledge 9 margin 1/3 account 1k00000000000000000000000000000000000000000000000000000012" ∷
    codes "5 pool 00000000000000000000000000000000000000000000000000000051 deposit 5 cost 3 pledge 4 margin 1/2 account 1k00000000000000000000000000000000000000000000000000000011 retires 2" ∷
    codes "5 account k00000000000000000000000000000000000000000000000000000010 stake 0 deposit 2 rewards 67 pool 00000000000000000000000000000000000000000000000000000051 drep k00000000000000000000000000000000000000000000000000000030" ∷
    codes "5 account k00000000000000000000000000000000000000000000000000000011 stake 0 deposit 2 rewards 33 pool 00000000000000000000000000000000000000000000000000000050 drep none" ∷
    codes "5 account k00000000000000000000000000000000000000000000000000000012 stake 0 deposit 2 rewards 0 pool none drep none" ∷
    codes "5 output 0000000000000000000000000000000000000000000000000000000000000001#5 1k00000000000000000000000000000000000000000000000000000001 20" ∷
    codes "5 output 0000000000000000000000000000000000000000000000000000000000000001#6 1k00000000000000000000000000000000000000000000000000000001 20" ∷
    codes "5 snapshot mark 00000000000000000000000000000000000000000000000000000050 100" ∷
    codes "5 snapshot fees 0" ∷
    codes "5 pending none" ∷
    codes "5 pots outputs 40 deposits 26 rewards 100 fees 55 donations 0 treasury 100 reserves 679 supply 1000" ∷
    codes "6 epoch 1 frozen 3 dormant 1" ∷
    codes "6 stake k00000000000000000000000000000000000000000000000000000030 67" ∷
    codes "6 pots outputs 40 deposits 26 rewards 100 fees 55 donations 0 treasury 100 reserves 679 supply 1000" ∷
    codes "6 block slot 10 epoch 1 counted 1 of 3" ∷
    codes "7 now slot 10 epoch 1 version 10.0 dormant 1" ∷
    codes "7 constitution 0000000000000000000000000000000000000000000000000000000000000001 none" ∷
    codes "7 committee threshold 0/1" ∷
    codes "7 member k00000000000000000000000000000000000000000000000000000070 term 100 hot k00000000000000000000000000000000000000000000000000000071" ∷
    codes "7 enacted committee none constitution none hardfork none parameters none" ∷
    codes "7 param maxBlockBodySize 90112" ∷
    codes "7 param maxTxSize 16384" ∷
    codes "7 param maxBlockHeaderSize 1100" ∷
    codes "7 param maxValueSize 5000" ∷
    codes "7 param maxTxExUnits 1000 1000" ∷
    codes "7 param maxBlockExUnits 1000 1000" ∷
    codes "7 param maxCollateralInputs 3" ∷
    codes "7 param minFeeA 0" ∷
    codes "7 param minFeeB 0" ∷
    codes "7 param keyDeposit 2" ∷
    codes "7 param poolDeposit 5" ∷
    codes "7 param rho 0/1" ∷
    codes "7 param tau 0/1" ∷
    codes "7 param minPoolCost 0" ∷
    codes "7 param coinsPerUTxOByte 0" ∷
    codes "7 param prices 0/1 0/1" ∷
    codes "7 param minFeeRefScriptCostPerByte 15/1" ∷
    codes "7 param a0 0/1" ∷
    codes "7 param eMax 18" ∷
    codes "7 param nOpt 500" ∷
    codes "7 param costModels 0000000000000000000000000000000000000000000000000000000000000000" ∷
    codes "7 param collateralPercentage 150" ∷
    codes "7 param poolVotingThresholds 0/1 0/1 0/1 0/1 0/1" ∷
    codes "7 param drepVotingThresholds 67/100 67/100 67/100 67/100 67/100 67/100 67/100 67/100 67/100 67/100" ∷
    codes "7 param govActionLifetime 2" ∷
    codes "7 param govActionDeposit 10" ∷
    codes "7 param drepDeposit 5" ∷
    codes "7 param drepActivity 20" ∷
    codes "7 param committeeMinSize 0" ∷
    codes "7 param committeeMaxTermLength 100" ∷
    codes "7 drep k00000000000000000000000000000000000000000000000000000030 deposit 5 expiry 20" ∷
    codes "7 drep k00000000000000000000000000000000000000000000000000000031 deposit 5 expiry 20" ∷
    codes "7 pool 00000000000000000000000000000000000000000000000000000050 deposit 5 cost 8 pledge 9 margin 1/3 account 1k00000000000000000000000000000000000000000000000000000012 retires never" ∷
    codes "7 pool 00000000000000000000000000000000000000000000000000000051 deposit 5 cost 3 pledge 4 margin 1/2 account 1k00000000000000000000000000000000000000000000000000000011 retires 2" ∷
    codes "7 account k00000000000000000000000000000000000000000000000000000010 stake 0 deposit 2 rewards 67 pool 00000000000000000000000000000000000000000000000000000051 drep k00000000000000000000000000000000000000000000000000000030" ∷
    codes "7 account k00000000000000000000000000000000000000000000000000000011 stake 0 deposit 2 rewards 33 pool 00000000000000000000000000000000000000000000000000000050 drep none" ∷
    codes "7 account k00000000000000000000000000000000000000000000000000000012 stake 0 deposit 2 rewards 0 pool none drep none" ∷
    codes "7 output 0000000000000000000000000000000000000000000000000000000000000001#5 1k00000000000000000000000000000000000000000000000000000001 20" ∷
    codes "7 output 0000000000000000000000000000000000000000000000000000000000000001#6 1k00000000000000000000000000000000000000000000000000000001 20" ∷
    codes "7 snapshot mark 00000000000000000000000000000000000000000000000000000050 33" ∷
    codes "7 snapshot mark 00000000000000000000000000000000000000000000000000000051 67" ∷
    codes "7 snapshot set 00000000000000000000000000000000000000000000000000000050 100" ∷
    codes "7 snapshot fees 55" ∷
    codes "7 pending none" ∷
    codes "7 pots outputs 40 deposits 26 rewards 100 fees 55 donations 0 treasury 100 reserves 679 supply 1000" ∷
    codes "8 refused 70 RetirementEpochWrong at 0 now 1" ∷
    codes "9 epoch 2 frozen 3 dormant 2" ∷
    codes "9 stake k00000000000000000000000000000000000000000000000000000030 67" ∷
    codes "9 retired 00000000000000000000000000000000000000000000000000000051 refund 5 1k00000000000000000000000000000000000000000000000000000011" ∷
    codes "9 pots outputs 40 deposits 21 rewards 105 fees 55 donations 0 treasury 100 reserves 679 supply 1000" ∷
    codes "9 block slot 20 epoch 2 counted 1 of 3" ∷
    codes "10 now slot 20 epoch 2 version 10.0 dormant 2" ∷
    codes "10 constitution 0000000000000000000000000000000000000000000000000000000000000001 none" ∷
    codes "10 committee threshold 0/1" ∷
    codes "10 member k00000000000000000000000000000000000000000000000000000070 term 100 hot k00000000000000000000000000000000000000000000000000000071" ∷
    codes "10 enacted committee none constitution none hardfork none parameters none" ∷
    codes "10 param maxBlockBodySize 90112" ∷
    codes "10 param maxTxSize 16384" ∷
    codes "10 param maxBlockHeaderSize 1100" ∷
    codes "10 param maxValueSize 5000" ∷
    codes "10 param maxTxExUnits 1000 1000" ∷
    codes "10 param maxBlockExUnits 1000 1000" ∷
    codes "10 param maxCollateralInputs 3" ∷
    codes "10 param minFeeA 0" ∷
    codes "10 param minFeeB 0" ∷
    codes "10 param keyDeposit 2" ∷
    codes "10 param poolDeposit 5" ∷
    codes "10 param rho 0/1" ∷
    codes "10 param tau 0/1" ∷
    codes "10 param minPoolCost 0" ∷
    codes "10 param coinsPerUTxOByte 0" ∷
    codes "10 param prices 0/1 0/1" ∷
    codes "10 param minFeeRefScriptCostPerByte 15/1" ∷
    codes "10 param a0 0/1" ∷
    codes "10 param eMax 18" ∷
    codes "10 param nOpt 500" ∷
    codes "10 param costModels 0000000000000000000000000000000000000000000000000000000000000000" ∷
    codes "10 param collateralPercentage 150" ∷
    codes "10 param poolVotingThresholds 0/1 0/1 0/1 0/1 0/1" ∷
    codes "10 param drepVotingThresholds 67/100 67/100 67/100 67/100 67/100 67/100 67/100 67/100 67/100 67/100" ∷
    codes "10 param govActionLifetime 2" ∷
    codes "10 param govActionDeposit 10" ∷
    codes "10 param drepDeposit 5" ∷
    codes "10 param drepActivity 20" ∷
    codes "10 param committeeMinSize 0" ∷
    codes "10 param committeeMaxTermLength 100" ∷
    codes "10 drep k00000000000000000000000000000000000000000000000000000030 deposit 5 expiry 20" ∷
    codes "10 drep k00000000000000000000000000000000000000000000000000000031 deposit 5 expiry 20" ∷
    codes "10 pool 00000000000000000000000000000000000000000000000000000050 deposit 5 cost 8 pledge 9 margin 1/3 account 1k00000000000000000000000000000000000000000000000000000012 retires never" ∷
    codes "10 account k00000000000000000000000000000000000000000000000000000010 stake 0 deposit 2 rewards 67 pool none drep k00000000000000000000000000000000000000000000000000000030" ∷
    codes "10 account k00000000000000000000000000000000000000000000000000000011 stake 0 deposit 2 rewards 38 pool 00000000000000000000000000000000000000000000000000000050 drep none" ∷
    codes "10 account k00000000000000000000000000000000000000000000000000000012 stake 0 deposit 2 rewards 0 pool none drep none" ∷
    codes "10 output 0000000000000000000000000000000000000000000000000000000000000001#5 1k00000000000000000000000000000000000000000000000000000001 20" ∷
    codes "10 output 0000000000000000000000000000000000000000000000000000000000000001#6 1k00000000000000000000000000000000000000000000000000000001 20" ∷
    codes "10 snapshot mark 00000000000000000000000000000000000000000000000000000050 33" ∷
    codes "10 snapshot mark 00000000000000000000000000000000000000000000000000000051 67" ∷
    codes "10 snapshot set 00000000000000000000000000000000000000000000000000000050 33" ∷
    codes "10 snapshot set 00000000000000000000000000000000000000000000000000000051 67" ∷
    codes "10 snapshot go 00000000000000000000000000000000000000000000000000000050 100" ∷
    codes "10 snapshot fees 55" ∷
    codes "10 pending none" ∷
    codes "10 pots outputs 40 deposits 21 rewards 105 fees 55 donations 0 treasury 100 reserves 679 supply 1000" ∷
    codes "11 refused 65 PoolUnknown at 0" ∷
    []) ≡ true
unfolding digits encode_with
certificates_of_pools = refl

abbrev pools_reaped_with_new_terms_input : List (ℕ × Reading)
pools_reaped_with_new_terms_input =
    (1, Read (records.Genesis (record { network = 1; slot = 0; epoch_length = 10; version = (10, 0); supply = 1000; reserves = 800; treasury = 100; params = base_params; document = (h32 0x01); script = None; committee = (Some (record { threshold = (share 0 1); members = (((key 0x70), 100, (Some (key 0x71))) ∷ []) })); outputs = (((ref 0x01 2), (address_with 1 (key 0x01) None), 20, []) ∷ ((ref 0x01 3), (address_with 1 (key 0x01) None), 20, []) ∷ ((ref 0x01 4), (address_with 1 (key 0x01) None), 20, []) ∷ []); accounts = (((key 0x10), 2, 7, (Some (pool 0x50)), (Some drep.Abstain)) ∷ ((key 0x11), 2, 5, (Some (pool 0x51)), (Some drep.Abstain)) ∷ ((key 0x12), 2, 3, (Some (pool 0x52)), None) ∷ []); pools = ((record { pool = (pool 0x50); deposit = 5; cost = 0; pledge = 0; margin = (share 0 1); account = (account_on 1 (key 0x12)); key = None }) ∷ (record { pool = (pool 0x51); deposit = 5; cost = 0; pledge = 0; margin = (share 0 1); account = (account_on 1 (key 0x12)); key = None }) ∷ (record { pool = (pool 0x52); deposit = 9; cost = 0; pledge = 0; margin = (share 0 1); account = (account_on 1 (key 0x12)); key = None }) ∷ []); dreps = [] }))) ∷
    (2, Read (records.Tx (record (spend 0x02 20) { certs = ((certs.PoolReg (pool 0x50) 1 0 (share 0 1) (account_on 1 (key 0x11)) None) ∷ (certs.PoolRetire (pool 0x50) 1) ∷ (certs.PoolReg (pool 0x51) 1 0 (share 0 1) (account_on 1 (key 0x13)) None) ∷ (certs.PoolRetire (pool 0x51) 1) ∷ (certs.PoolRetire (pool 0x52) 2) ∷ []) }))) ∷
    (3, Read (records.Block 10 1)) ∷
    (4, Read (records.Print what.State)) ∷
    (5, Read (records.Block 20 1)) ∷
    (6, Read (records.Print what.State)) ∷
    (7, Read (records.Block 30 1)) ∷
    (8, Read (records.Print what.Pots)) ∷
    []

pub pools_reaped_with_new_terms : says_all pools_reaped_with_new_terms_input (
    codes "1 genesis outputs 60 deposits 25 rewards 15 fees 0 donations 0 treasury 100 reserves 800 supply 1000" ∷
    codes "2 accepted" ∷
    codes "3 epoch 1 frozen 3 dormant 1" ∷
    codes "3 stake abstain 12" ∷
    codes "3 retired 00000000000000000000000000000000000000000000000000000050 refund 5 1k00000000000000000000000000000000000000000000000000000011" ∷
    codes "3 retired 00000000000000000000000000000000000000000000000000000051 refund 5 treasury" ∷
    codes "3 pots outputs 40 deposits 15 rewards 20 fees 20 donations 0 treasury 105 reserves 800 supply 1000" ∷
    codes "3 block slot 10 epoch 1 counted 1 of 3" ∷
    codes "4 now slot 10 epoch 1 version 10.0 dormant 1" ∷
    codes "4 constitution 0000000000000000000000000000000000000000000000000000000000000001 none" ∷
    codes "4 committee threshold 0/1" ∷
    codes "4 member k00000000000000000000000000000000000000000000000000000070 term 100 hot k00000000000000000000000000000000000000000000000000000071" ∷
    codes "4 enacted committee none constitution none hardfork none parameters none" ∷
    codes "4 param maxBlockBodySize 90112" ∷
    codes "4 param maxTxSize 16384" ∷
    codes "4 param maxBlockHeaderSize 1100" ∷
    codes "4 param maxValueSize 5000" ∷
    codes "4 param maxTxExUnits 1000 1000" ∷
    codes "4 param maxBlockExUnits 1000 1000" ∷
    codes "4 param maxCollateralInputs 3" ∷
    codes "4 param minFeeA 0" ∷
    codes "4 param minFeeB 0" ∷
    codes "4 param keyDeposit 2" ∷
    codes "4 param poolDeposit 5" ∷
    codes "4 param rho 0/1" ∷
    codes "4 param tau 0/1" ∷
    codes "4 param minPoolCost 0" ∷
    codes "4 param coinsPerUTxOByte 0" ∷
    codes "4 param prices 0/1 0/1" ∷
    codes "4 param minFeeRefScriptCostPerByte 15/1" ∷
    codes "4 param a0 0/1" ∷
    codes "4 param eMax 18" ∷
    codes "4 param nOpt 500" ∷
    codes "4 param costModels 0000000000000000000000000000000000000000000000000000000000000000" ∷
    codes "4 param collateralPercentage 150" ∷
    codes "4 param poolVotingThresholds 0/1 0/1 0/1 0/1 0/1" ∷
    codes "4 param drepVotingThresholds 67/100 67/100 67/100 67/100 67/100 67/100 67/100 67/100 67/100 67/100" ∷
    codes "4 param govActionLifetime 2" ∷
    codes "4 param govActionDeposit 10" ∷
    codes "4 param drepDeposit 5" ∷
    codes "4 param drepActivity 20" ∷
    codes "4 param committeeMinSize 0" ∷
    codes "4 param committeeMaxTermLength 100" ∷
    codes "4 pool 00000000000000000000000000000000000000000000000000000052 deposit 9 cost 0 pledge 0 margin 0/1 account 1k00000000000000000000000000000000000000000000000000000012 retires 2" ∷
    codes "4 account k00000000000000000000000000000000000000000000000000000010 stake 0 deposit 2 rewards 7 pool none drep abstain" ∷
    codes "4 account k00000000000000000000000000000000000000000000000000000011 stake 0 deposit 2 rewards 10 pool none drep abstain" ∷
    codes "4 account k00000000000000000000000000000000000000000000000000000012 stake 0 deposit 2 rewards 3 pool 00000000000000000000000000000000000000000000000000000052 drep none" ∷
    codes "4 output 0000000000000000000000000000000000000000000000000000000000000001#3 1k00000000000000000000000000000000000000000000000000000001 20" ∷
    codes "4 output 0000000000000000000000000000000000000000000000000000000000000001#4 1k00000000000000000000000000000000000000000000000000000001 20" ∷
    codes "4 snapshot mark 00000000000000000000000000000000000000000000000000000050 7" ∷
    codes "4 snapshot mark 00000000000000000000000000000000000000000000000000000051 5" ∷
    codes "4 snapshot mark 00000000000000000000000000000000000000000000000000000052 3" ∷
    codes "4 snapshot set 00000000000000000000000000000000000000000000000000000050 7" ∷
    codes "4 snapshot set 00000000000000000000000000000000000000000000000000000051 5" ∷
    codes "4 snapshot set 00000000000000000000000000000000000000000000000000000052 3" ∷
    codes "4 snapshot fees 20" ∷
    codes "4 pending none" ∷
    codes "4 pots outputs 40 deposits 15 rewards 20 fees 20 donations 0 treasury 105 reserves 800 supply 1000" ∷
    codes "5 epoch 2 frozen 3 dormant 2" ∷
    codes "5 stake abstain 17" ∷
    codes "5 retired 00000000000000000000000000000000000000000000000000000052 refund 9 1k00000000000000000000000000000000000000000000000000000012" ∷
    codes "5 pots outputs 40 deposits 6 rewards 29 fees 20 donations 0 treasury 105 reserves 800 supply 1000" ∷
    codes "5 block slot 20 epoch 2 counted 1 of 3" ∷
    codes "6 now slot 20 epoch 2 version 10.0 dormant 2" ∷
    codes "6 constitution 0000000000000000000000000000000000000000000000000000000000000001 none" ∷
    codes "6 committee threshold 0/1" ∷
    codes "6 member k00000000000000000000000000000000000000000000000000000070 term 100 hot k00000000000000000000000000000000000000000000000000000071" ∷
    codes "6 enacted committee none constitution none hardfork none parameters none" ∷
    codes "6 param maxBlockBodySize 90112" ∷
    codes "6 param maxTxSize 16384" ∷
    codes "6 param maxBlockHeaderSize 1100" ∷
    codes "6 param maxValueSize 5000" ∷
    codes "6 param maxTxExUnits 1000 1000" ∷
    codes "6 param maxBlockExUnits 1000 1000" ∷
    codes "6 param maxCollateralInputs 3" ∷
    codes "6 param minFeeA 0" ∷
    codes "6 param minFeeB 0" ∷
    codes "6 param keyDeposit 2" ∷
    codes "6 param poolDeposit 5" ∷
    codes "6 param rho 0/1" ∷
    codes "6 param tau 0/1" ∷
    codes "6 param minPoolCost 0" ∷
    codes "6 param coinsPerUTxOByte 0" ∷
    codes "6 param prices 0/1 0/1" ∷
    codes "6 param minFeeRefScriptCostPerByte 15/1" ∷
    codes "6 param a0 0/1" ∷
    codes "6 param eMax 18" ∷
    codes "6 param nOpt 500" ∷
    codes "6 param costModels 0000000000000000000000000000000000000000000000000000000000000000" ∷
    codes "6 param collateralPercentage 150" ∷
    codes "6 param poolVotingThresholds 0/1 0/1 0/1 0/1 0/1" ∷
    codes "6 param drepVotingThresholds 67/100 67/100 67/100 67/100 67/100 67/100 67/100 67/100 67/100 67/100" ∷
    codes "6 param govActionLifetime 2" ∷
    codes "6 param govActionDeposit 10" ∷
    codes "6 param drepDeposit 5" ∷
    codes "6 param drepActivity 20" ∷
    codes "6 param committeeMinSize 0" ∷
    codes "6 param committeeMaxTermLength 100" ∷
    codes "6 account k00000000000000000000000000000000000000000000000000000010 stake 0 deposit 2 rewards 7 pool none drep abstain" ∷
    codes "6 account k00000000000000000000000000000000000000000000000000000011 stake 0 deposit 2 rewards 10 pool none drep abstain" ∷
    codes "6 account k00000000000000000000000000000000000000000000000000000012 stake 0 deposit 2 rewards 12 pool none drep none" ∷
    codes "6 output 0000000000000000000000000000000000000000000000000000000000000001#3 1k00000000000000000000000000000000000000000000000000000001 20" ∷
    codes "6 output 0000000000000000000000000000000000000000000000000000000000000001#4 1k00000000000000000000000000000000000000000000000000000001 20" ∷
    codes "6 snapshot mark 00000000000000000000000000000000000000000000000000000052 3" ∷
    codes "6 snapshot set 00000000000000000000000000000000000000000000000000000050 7" ∷
    codes "6 snapshot set 00000000000000000000000000000000000000000000000000000051 5" ∷
    codes "6 snapshot set 00000000000000000000000000000000000000000000000000000052 3" ∷
    codes "6 snapshot go 00000000000000000000000000000000000000000000000000000050 7" ∷
    codes "6 snapshot go 00000000000000000000000000000000000000000000000000000051 5" ∷
    codes "6 snapshot go 00000000000000000000000000000000000000000000000000000052 3" ∷
    codes "6 snapshot fees 20" ∷
    codes "6 pending none" ∷
    codes "6 pots outputs 40 deposits 6 rewards 29 fees 20 donations 0 treasury 105 reserves 800 supply 1000" ∷
    codes "7 epoch 3 frozen 3 dormant 3" ∷
    codes "7 stake abstain 17" ∷
    codes "7 pots outputs 40 deposits 6 rewards 29 fees 20 donations 0 treasury 105 reserves 800 supply 1000" ∷
    codes "7 block slot 30 epoch 3 counted 1 of 3" ∷
    codes "8 pots outputs 40 deposits 6 rewards 29 fees 20 donations 0 treasury 105 reserves 800 supply 1000" ∷
    []) ≡ true
unfolding digits encode_with
pools_reaped_with_new_terms = refl

abbrev deposits_stored_as_they_were_input : List (ℕ × Reading)
deposits_stored_as_they_were_input =
    (1, Read (records.Genesis (record { network = 1; slot = 0; epoch_length = 10; version = (10, 0); supply = 1000; reserves = 459; treasury = 100; params = (record base_params { drep_voting_thresholds = ((share 0 1) ∷ (share 0 1) ∷ (share 0 1) ∷ (share 0 1) ∷ (share 0 1) ∷ (share 0 1) ∷ (share 0 1) ∷ (share 0 1) ∷ (share 0 1) ∷ (share 0 1) ∷ []); gov_action_lifetime = 9 }); document = (h32 0x01); script = None; committee = (Some (record { threshold = (share 0 1); members = (((key 0x70), 100, (Some (key 0x71))) ∷ []) })); outputs = (((ref 0x01 2), (address_with 1 (key 0x01) None), 40, []) ∷ ((ref 0x01 3), (address_with 1 (key 0x01) None), 40, []) ∷ ((ref 0x01 4), (address_with 1 (key 0x01) None), 40, []) ∷ ((ref 0x01 5), (address_with 1 (key 0x01) None), 40, []) ∷ ((ref 0x01 6), (address_with 1 (key 0x01) None), 40, []) ∷ ((ref 0x01 7), (address_with 1 (key 0x01) None), 40, []) ∷ ((ref 0x01 8), (address_with 1 (key 0x01) None), 40, []) ∷ ((ref 0x01 9), (address_with 1 (key 0x01) None), 40, []) ∷ []); accounts = (((key 0x10), 2, 67, None, (Some (drep.Registered (key 0x30)))) ∷ ((key 0x11), 2, 33, None, (Some (drep.Registered (key 0x31)))) ∷ ((key 0x12), 2, 0, None, None) ∷ []); pools = ((record { pool = (pool 0x50); deposit = 5; cost = 0; pledge = 0; margin = (share 0 1); account = (account_on 1 (key 0x12)); key = None }) ∷ []); dreps = (((key 0x30), 5, 20) ∷ ((key 0x31), 5, 20) ∷ []) }))) ∷
    (2, Read (records.Tx (record (spend 0x02 18) { certs = ((certs.AccountReg (key 0x13) None None None) ∷ (certs.DrepReg (key 0x33) None) ∷ (certs.PoolReg (pool 0x51) 0 0 (share 0 1) (account_on 1 (key 0x13)) None) ∷ []); proposals = ((proposing 10 (account_on 1 (key 0x12)) (actions.ParameterChange None (record no_update { key_deposit = (Some 7); pool_deposit = (Some 9); gov_action_deposit = (Some 11); drep_deposit = (Some 8) }) None)) ∷ []) }))) ∷
    (3, Read (records.Block 10 1)) ∷
    (4, Read (records.Block 20 1)) ∷
    (5, Read (records.Tx (record (spend 0x03 0) { certs = ((certs.AccountReg (key 0x14) (Some 2) None None) ∷ []) }))) ∷
    (6, Read (records.Tx (record (spend 0x03 16) { certs = ((certs.AccountReg (key 0x14) (Some 7) None None) ∷ (certs.DrepReg (key 0x34) (Some 8)) ∷ (certs.PoolReg (pool 0x52) 0 0 (share 0 1) (account_on 1 (key 0x14)) None) ∷ []) }))) ∷
    (7, Read (records.Tx (record (spend 0x04 0) { proposals = ((proposing 10 (account_on 1 (key 0x12)) (actions.Info)) ∷ []) }))) ∷
    (8, Read (records.Tx (record (spend 0x04 29) { proposals = ((proposing 11 (account_on 1 (key 0x12)) (actions.Info)) ∷ []) }))) ∷
    (9, Read (records.Tx (record (spend 0x05 0) { certs = ((certs.DrepUnreg (key 0x33) (Some 8)) ∷ []) }))) ∷
    (10, Read (records.Tx (record (spend 0x05 47) { certs = ((certs.DrepUnreg (key 0x33) (Some 5)) ∷ (certs.AccountUnreg (key 0x13) (Some 2)) ∷ (certs.PoolRetire (pool 0x51) 3) ∷ []) }))) ∷
    (11, Read (records.Tx (record (spend 0x06 40) { certs = ((certs.PoolReg (pool 0x52) 1 0 (share 0 1) (account_on 1 (key 0x14)) None) ∷ []) }))) ∷
    (12, Read (records.Print what.State)) ∷
    (13, Read (records.Block 30 1)) ∷
    (14, Read (records.Print what.State)) ∷
    []

pub deposits_stored_as_they_were : says_all deposits_stored_as_they_were_input (
    codes "1 genesis outputs 320 deposits 21 rewards 100 fees 0 donations 0 treasury 100 reserves 459 supply 1000" ∷
    codes "2 accepted" ∷
    codes "3 epoch 1 frozen 4 dormant 0" ∷
    codes "3 stake k00000000000000000000000000000000000000000000000000000030 67" ∷
    codes "3 stake k00000000000000000000000000000000000000000000000000000031 33" ∷
    codes "3 pots outputs 280 deposits 43 rewards 100 fees 18 donations 0 treasury 100 reserves 459 supply 1000" ∷
    codes "3 block slot 10 epoch 1 counted 1 of 4" ∷
    codes "4 epoch 2 frozen 4 dormant 1" ∷
    codes "4 stake k00000000000000000000000000000000000000000000000000000030 67" ∷
    codes "4 stake k00000000000000000000000000000000000000000000000000000031 33" ∷
    codes "4 tally 0000000000000000000000000000000000000000000000000000000000000002#0 ParameterChange committee 0/1 need 0/1 drep 0/100 need 0/1 pool 0/0 need 0/1 ratified" ∷
    codes "4 removed 0000000000000000000000000000000000000000000000000000000000000002#0 enacted refund 10 1k00000000000000000000000000000000000000000000000000000012" ∷
    codes "4 pots outputs 280 deposits 33 rewards 110 fees 18 donations 0 treasury 100 reserves 459 supply 1000" ∷
    codes "4 block slot 20 epoch 2 counted 1 of 4" ∷
    codes "5 refused 62 DepositWrong at 0 want 7" ∷
    codes "6 accepted" ∷
    codes "7 refused 80 ProposalDepositWrong at 0 want 11" ∷
    codes "8 accepted" ∷
    codes "9 refused 63 RefundWrong at 0 want 5" ∷
    codes "10 accepted" ∷
    codes "11 accepted" ∷
    codes "12 now slot 20 epoch 2 version 10.0 dormant 0" ∷
    codes "12 constitution 0000000000000000000000000000000000000000000000000000000000000001 none" ∷
    codes "12 committee threshold 0/1" ∷
    codes "12 member k00000000000000000000000000000000000000000000000000000070 term 100 hot k00000000000000000000000000000000000000000000000000000071" ∷
    codes "12 enacted committee none constitution none hardfork none parameters 0000000000000000000000000000000000000000000000000000000000000002#0" ∷
    codes "12 param maxBlockBodySize 90112" ∷
    codes "12 param maxTxSize 16384" ∷
    codes "12 param maxBlockHeaderSize 1100" ∷
    codes "12 param maxValueSize 5000" ∷
    codes "12 param maxTxExUnits 1000 1000" ∷
    codes "12 param maxBlockExUnits 1000 1000" ∷
    codes "12 param maxCollateralInputs 3" ∷
    codes "12 param minFeeA 0" ∷
    codes "12 param minFeeB 0" ∷
    codes "12 param keyDeposit 7" ∷
    codes "12 param poolDeposit 9" ∷
    codes "12 param rho 0/1" ∷
    codes "12 param tau 0/1" ∷
    codes "12 param minPoolCost 0" ∷
    codes "12 param coinsPerUTxOByte 0" ∷
    codes "12 param prices 0/1 0/1" ∷
    codes "12 param minFeeRefScriptCostPerByte 15/1" ∷
    codes "12 param a0 0/1" ∷
    codes "12 param eMax 18" ∷
    codes "12 param nOpt 500" ∷
    codes "12 param costModels 0000000000000000000000000000000000000000000000000000000000000000" ∷
    codes "12 param collateralPercentage 150" ∷
    codes "12 param poolVotingThresholds 0/1 0/1 0/1 0/1 0/1" ∷
    codes "12 param drepVotingThresholds 0/1 0/1 0/1 0/1 0/1 0/1 0/1 0/1 0/1 0/1" ∷
    codes "12 param govActionLifetime 9" ∷
    codes "12 param govActionDeposit 11" ∷
    codes "12 param drepDeposit 8" ∷
    codes "12 param drepActivity 20" ∷
    codes "12 param committeeMinSize 0" ∷
    codes "12 param committeeMaxTermLength 100" ∷
    codes "12 drep k00000000000000000000000000000000000000000000000000000030 deposit 5 expiry 21" ∷
    codes "12 drep k00000000000000000000000000000000000000000000000000000031 deposit 5 expiry 21" ∷
    codes "12 drep k00000000000000000000000000000000000000000000000000000034 deposit 8 expiry 22" ∷
    codes "12 pool 00000000000000000000000000000000000000000000000000000050 deposit 5 cost 0 pledge 0 margin 0/1 account 1k00000000000000000000000000000000000000000000000000000012 retires never" ∷
    codes "12 pool 00000000000000000000000000000000000000000000000000000051 deposit 5 cost 0 pledge 0 margin 0/1 account 1k00000000000000000000000000000000000000000000000000000013 retires 3" ∷
    codes "12 pool 00000000000000000000000000000000000000000000000000000052 deposit 9 cost 0 pledge 0 margin 0/1 account 1k00000000000000000000000000000000000000000000000000000014 retires never" ∷
    codes "12 next 00000000000000000000000000000000000000000000000000000052 cost 1 pledge 0 margin 0/1 account 1k00000000000000000000000000000000000000000000000000000014" ∷
    codes "12 account k00000000000000000000000000000000000000000000000000000010 stake 0 deposit 2 rewards 67 pool none drep k00000000000000000000000000000000000000000000000000000030" ∷
    codes "12 account k00000000000000000000000000000000000000000000000000000011 stake 0 deposit 2 rewards 33 pool none drep k00000000000000000000000000000000000000000000000000000031" ∷
    codes "12 account k00000000000000000000000000000000000000000000000000000012 stake 0 deposit 2 rewards 10 pool none drep none" ∷
    codes "12 account k00000000000000000000000000000000000000000000000000000014 stake 0 deposit 7 rewards 0 pool none drep none" ∷
    codes "12 output 0000000000000000000000000000000000000000000000000000000000000001#7 1k00000000000000000000000000000000000000000000000000000001 40" ∷
    codes "12 output 0000000000000000000000000000000000000000000000000000000000000001#8 1k00000000000000000000000000000000000000000000000000000001 40" ∷
    codes "12 output 0000000000000000000000000000000000000000000000000000000000000001#9 1k00000000000000000000000000000000000000000000000000000001 40" ∷
    codes "12 proposal 0000000000000000000000000000000000000000000000000000000000000004#0 Info deposit 11 return 1k00000000000000000000000000000000000000000000000000000012 expires 11 previous none" ∷
    codes "12 snapshot mark 00000000000000000000000000000000000000000000000000000050 0" ∷
    codes "12 snapshot mark 00000000000000000000000000000000000000000000000000000051 0" ∷
    codes "12 snapshot set 00000000000000000000000000000000000000000000000000000050 0" ∷
    codes "12 snapshot set 00000000000000000000000000000000000000000000000000000051 0" ∷
    codes "12 snapshot go 00000000000000000000000000000000000000000000000000000050 0" ∷
    codes "12 snapshot fees 18" ∷
    codes "12 pending none" ∷
    codes "12 pots outputs 120 deposits 61 rewards 110 fees 150 donations 0 treasury 100 reserves 459 supply 1000" ∷
    codes "13 epoch 3 frozen 4 dormant 0" ∷
    codes "13 stake k00000000000000000000000000000000000000000000000000000030 67" ∷
    codes "13 stake k00000000000000000000000000000000000000000000000000000031 33" ∷
    codes "13 retired 00000000000000000000000000000000000000000000000000000051 refund 5 treasury" ∷
    codes "13 pots outputs 120 deposits 56 rewards 110 fees 150 donations 0 treasury 105 reserves 459 supply 1000" ∷
    codes "13 block slot 30 epoch 3 counted 1 of 4" ∷
    codes "14 now slot 30 epoch 3 version 10.0 dormant 0" ∷
    codes "14 constitution 0000000000000000000000000000000000000000000000000000000000000001 none" ∷
    codes "14 committee threshold 0/1" ∷
    codes "14 member k00000000000000000000000000000000000000000000000000000070 term 100 hot k00000000000000000000000000000000000000000000000000000071" ∷
    codes "14 enacted committee none constitution none hardfork none parameters 0000000000000000000000000000000000000000000000000000000000000002#0" ∷
    codes "14 param maxBlockBodySize 90112" ∷
    codes "14 param maxTxSize 16384" ∷
    codes "14 param maxBlockHeaderSize 1100" ∷
    codes "14 param maxValueSize 5000" ∷
    codes "14 param maxTxExUnits 1000 1000" ∷
    codes "14 param maxBlockExUnits 1000 1000" ∷
    codes "14 param maxCollateralInputs 3" ∷
    codes "14 param minFeeA 0" ∷
    codes "14 param minFeeB 0" ∷
    codes "14 param keyDeposit 7" ∷
    codes "14 param poolDeposit 9" ∷
    codes "14 param rho 0/1" ∷
    codes "14 param tau 0/1" ∷
    codes "14 param minPoolCost 0" ∷
    codes "14 param coinsPerUTxOByte 0" ∷
    codes "14 param prices 0/1 0/1" ∷
    codes "14 param minFeeRefScriptCostPerByte 15/1" ∷
    codes "14 param a0 0/1" ∷
    codes "14 param eMax 18" ∷
    codes "14 param nOpt 500" ∷
    codes "14 param costModels 0000000000000000000000000000000000000000000000000000000000000000" ∷
    codes "14 param collateralPercentage 150" ∷
    codes "14 param poolVotingThresholds 0/1 0/1 0/1 0/1 0/1" ∷
    codes "14 param drepVotingThresholds 0/1 0/1 0/1 0/1 0/1 0/1 0/1 0/1 0/1 0/1" ∷
    codes "14 param govActionLifetime 9" ∷
    codes "14 param govActionDeposit 11" ∷
    codes "14 param drepDeposit 8" ∷
    codes "14 param drepActivity 20" ∷
    codes "14 param committeeMinSize 0" ∷
    codes "14 param committeeMaxTermLength 100" ∷
    codes "14 drep k00000000000000000000000000000000000000000000000000000030 deposit 5 expiry 21" ∷
    codes "14 drep k00000000000000000000000000000000000000000000000000000031 deposit 5 expiry 21" ∷
    codes "14 drep k00000000000000000000000000000000000000000000000000000034 deposit 8 expiry 22" ∷
    codes "14 pool 00000000000000000000000000000000000000000000000000000050 deposit 5 cost 0 pledge 0 margin 0/1 account 1k00000000000000000000000000000000000000000000000000000012 retires never" ∷
    codes "14 pool 00000000000000000000000000000000000000000000000000000052 deposit 9 cost 1 pledge 0 margin 0/1 account 1k00000000000000000000000000000000000000000000000000000014 retires never" ∷
    codes "14 account k00000000000000000000000000000000000000000000000000000010 stake 0 deposit 2 rewards 67 pool none drep k00000000000000000000000000000000000000000000000000000030" ∷
    codes "14 account k00000000000000000000000000000000000000000000000000000011 stake 0 deposit 2 rewards 33 pool none drep k00000000000000000000000000000000000000000000000000000031" ∷
    codes "14 account k00000000000000000000000000000000000000000000000000000012 stake 0 deposit 2 rewards 10 pool none drep none" ∷
    codes "14 account k00000000000000000000000000000000000000000000000000000014 stake 0 deposit 7 rewards 0 pool none drep none" ∷
    codes "14 output 0000000000000000000000000000000000000000000000000000000000000001#7 1k00000000000000000000000000000000000000000000000000000001 40" ∷
    codes "14 output 0000000000000000000000000000000000000000000000000000000000000001#8 1k00000000000000000000000000000000000000000000000000000001 40" ∷
    codes "14 output 0000000000000000000000000000000000000000000000000000000000000001#9 1k00000000000000000000000000000000000000000000000000000001 40" ∷
    codes "14 proposal 0000000000000000000000000000000000000000000000000000000000000004#0 Info deposit 11 return 1k00000000000000000000000000000000000000000000000000000012 expires 11 previous none" ∷
    codes "14 snapshot mark 00000000000000000000000000000000000000000000000000000050 0" ∷
    codes "14 snapshot mark 00000000000000000000000000000000000000000000000000000051 0" ∷
    codes "14 snapshot mark 00000000000000000000000000000000000000000000000000000052 0" ∷
    codes "14 snapshot set 00000000000000000000000000000000000000000000000000000050 0" ∷
    codes "14 snapshot set 00000000000000000000000000000000000000000000000000000051 0" ∷
    codes "14 snapshot go 00000000000000000000000000000000000000000000000000000050 0" ∷
    codes "14 snapshot go 00000000000000000000000000000000000000000000000000000051 0" ∷
    codes "14 snapshot fees 150" ∷
    codes "14 pending none" ∷
    codes "14 pots outputs 120 deposits 56 rewards 110 fees 150 donations 0 treasury 105 reserves 459 supply 1000" ∷
    []) ≡ true
unfolding digits encode_with
deposits_stored_as_they_were = refl
