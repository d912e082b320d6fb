-- Worked rows of whole streams: keys of pools. Made by tests/made/rows_of, from the streams of these names in tests/streams/whole.
use Rattle.std.specs.Prelude.{ℕ, ◌≡◌, List, [], ◌∷◌, Some, None, true, codes, refl}
use Rattle.std.specs.Fmt.{digits}
use Rattle.hex.specs.Hex.{encode_with}
use Rattle.gov_actions.specs.declared.action.Action.TheVariants as actions
use Rattle.gov_actions.specs.declared.action.Vote.TheVariants as vote
use Rattle.gov_ids.specs.declared.Drep.TheVariants as drep
use Rattle.gov_ids.specs.declared.Voter.TheVariants as voter
use Rattle.tx_records.specs.declared.field.FieldName.TheVariants as field
use Rattle.tx_records.specs.declared.record.Record.TheVariants as records
use Rattle.tx_records.specs.declared.record.What.TheVariants as what
use Rattle.tx_records.specs.declared.cert.Cert.TheVariants as certs
use Rattle.tx_records.specs.declared.tx.Scripts.TheVariants as scripts
use Rattle.tx_records.specs.declared.record.Reading.{Reading}
use Rattle.tx_records.specs.declared.record.Reading.TheVariants.{Read, Malformed}
use Rattle.ledger_rows.proofs.Base.{h32, key, pool, account_on, address_with, ref, action, share, base_params, spend, proposing, voting, says_all}

abbrev keys_of_pools_input : List (ℕ × Reading)
keys_of_pools_input =
    (1, Read (records.Genesis (record { network = 1; slot = 0; epoch_length = 10; version = (11, 0); supply = 1000; reserves = 659; treasury = 100; params = base_params; document = (h32 0x01); script = None; committee = (Some (record { threshold = (share 0 1); members = (((key 0x70), 100, (Some (key 0x71))) ∷ []) })); outputs = (((ref 0x01 2), (address_with 1 (key 0x01) None), 20, []) ∷ ((ref 0x01 3), (address_with 1 (key 0x01) None), 20, []) ∷ ((ref 0x01 4), (address_with 1 (key 0x01) None), 20, []) ∷ ((ref 0x01 5), (address_with 1 (key 0x01) None), 20, []) ∷ ((ref 0x01 6), (address_with 1 (key 0x01) None), 20, []) ∷ ((ref 0x01 7), (address_with 1 (key 0x01) None), 20, []) ∷ []); accounts = (((key 0x10), 2, 67, None, (Some (drep.Registered (key 0x30)))) ∷ ((key 0x11), 2, 33, None, (Some (drep.Registered (key 0x31)))) ∷ ((key 0x12), 2, 0, None, None) ∷ []); pools = ((record { pool = (pool 0x50); deposit = 5; cost = 0; pledge = 0; margin = (share 0 1); account = (account_on 1 (key 0x12)); key = None }) ∷ []); dreps = (((key 0x30), 5, 20) ∷ ((key 0x31), 5, 20) ∷ []) }))) ∷
    (2, Read (records.Tx (record (spend 0x02 15) { certs = ((certs.PoolReg (pool 0x51) 0 0 (share 0 1) (account_on 1 (key 0x12)) (Some (h32 0xa7))) ∷ []) }))) ∷
    (3, Read (records.Tx (record (spend 0x03 15) { certs = ((certs.PoolReg (pool 0x52) 0 0 (share 0 1) (account_on 1 (key 0x12)) (Some (h32 0xA7))) ∷ []) }))) ∷
    (4, Read (records.Tx (record (spend 0x03 10) { certs = ((certs.PoolReg (pool 0x52) 0 0 (share 0 1) (account_on 1 (key 0x12)) None) ∷ (certs.PoolReg (pool 0x53) 0 0 (share 0 1) (account_on 1 (key 0x12)) None) ∷ []) }))) ∷
    (5, Read (records.Tx (record (spend 0x04 20) { certs = ((certs.PoolReg (pool 0x51) 3 0 (share 0 1) (account_on 1 (key 0x12)) (Some (h32 0xA7))) ∷ []) }))) ∷
    (6, Read (records.Tx (record (spend 0x05 20) { certs = ((certs.PoolReg (pool 0x51) 4 0 (share 0 1) (account_on 1 (key 0x12)) (Some (h32 0xa7))) ∷ []) }))) ∷
    (7, Read (records.Tx (record (spend 0x06 20) { certs = ((certs.PoolReg (pool 0x53) 0 0 (share 0 1) (account_on 1 (key 0x12)) (Some (h32 0x08))) ∷ (certs.PoolReg (pool 0x52) 0 0 (share 0 1) (account_on 1 (key 0x12)) (Some (h32 0xa7))) ∷ []) }))) ∷
    (8, Read (records.Tx (record (spend 0x06 20) { certs = ((certs.PoolReg (pool 0x52) 0 0 (share 0 1) (account_on 1 (key 0x12)) (Some (h32 0x08))) ∷ []) }))) ∷
    (9, Read (records.Tx (record (spend 0x07 20) { certs = ((certs.PoolReg (pool 0x53) 0 0 (share 0 1) (account_on 1 (key 0x12)) (Some (h32 0x08))) ∷ []) }))) ∷
    (10, Read (records.Print what.State)) ∷
    []

pub keys_of_pools : says_all keys_of_pools_input (
    codes "1 genesis outputs 120 deposits 21 rewards 100 fees 0 donations 0 treasury 100 reserves 659 supply 1000" ∷
    codes "2 accepted" ∷
    codes "3 refused 73 PoolKeyInUse at 0" ∷
    codes "4 accepted" ∷
    codes "5 accepted" ∷
    codes "6 accepted" ∷
    codes "7 refused 73 PoolKeyInUse at 1" ∷
    codes "8 accepted" ∷
    codes "9 refused 73 PoolKeyInUse at 0" ∷
    codes "10 now slot 0 epoch 0 version 11.0 dormant 0" ∷
    codes "10 constitution 0000000000000000000000000000000000000000000000000000000000000001 none" ∷
    codes "10 committee threshold 0/1" ∷
    codes "10 member k00000000000000000000000000000000000000000000000000000070 term 100 hot k00000000000000000000000000000000000000000000000000000071" ∷
    codes "10 enacted committee none constitution none hardfork none parameters none" ∷
    codes "10 param maxBlockBodySize 90112" ∷
    codes "10 param maxTxSize 16384" ∷
    codes "10 param maxBlockHeaderSize 1100" ∷
    codes "10 param maxValueSize 5000" ∷
    codes "10 param maxTxExUnits 1000 1000" ∷
    codes "10 param maxBlockExUnits 1000 1000" ∷
    codes "10 param maxCollateralInputs 3" ∷
    codes "10 param minFeeA 0" ∷
    codes "10 param minFeeB 0" ∷
    codes "10 param keyDeposit 2" ∷
    codes "10 param poolDeposit 5" ∷
    codes "10 param rho 0/1" ∷
    codes "10 param tau 0/1" ∷
    codes "10 param minPoolCost 0" ∷
    codes "10 param coinsPerUTxOByte 0" ∷
    codes "10 param prices 0/1 0/1" ∷
    codes "10 param minFeeRefScriptCostPerByte 15/1" ∷
    codes "10 param a0 0/1" ∷
    codes "10 param eMax 18" ∷
    codes "10 param nOpt 500" ∷
    codes "10 param costModels 0000000000000000000000000000000000000000000000000000000000000000" ∷
    codes "10 param collateralPercentage 150" ∷
    codes "10 param poolVotingThresholds 0/1 0/1 0/1 0/1 0/1" ∷
    codes "10 param drepVotingThresholds 67/100 67/100 67/100 67/100 67/100 67/100 67/100 67/100 67/100 67/100" ∷
    codes "10 param govActionLifetime 2" ∷
    codes "10 param govActionDeposit 10" ∷
    codes "10 param drepDeposit 5" ∷
    codes "10 param drepActivity 20" ∷
    codes "10 param committeeMinSize 0" ∷
    codes "10 param committeeMaxTermLength 100" ∷
    codes "10 drep k00000000000000000000000000000000000000000000000000000030 deposit 5 expiry 20" ∷
    codes "10 drep k00000000000000000000000000000000000000000000000000000031 deposit 5 expiry 20" ∷
    codes "10 pool 00000000000000000000000000000000000000000000000000000050 deposit 5 cost 0 pledge 0 margin 0/1 account 1k00000000000000000000000000000000000000000000000000000012 retires never" ∷
    codes "10 pool 00000000000000000000000000000000000000000000000000000051 deposit 5 cost 0 pledge 0 margin 0/1 account 1k00000000000000000000000000000000000000000000000000000012 retires never key 00000000000000000000000000000000000000000000000000000000000000a7" ∷
    codes "10 next 00000000000000000000000000000000000000000000000000000051 cost 4 pledge 0 margin 0/1 account 1k00000000000000000000000000000000000000000000000000000012 key 00000000000000000000000000000000000000000000000000000000000000a7" ∷
    codes "10 pool 00000000000000000000000000000000000000000000000000000052 deposit 5 cost 0 pledge 0 margin 0/1 account 1k00000000000000000000000000000000000000000000000000000012 retires never" ∷
    codes "10 next 00000000000000000000000000000000000000000000000000000052 cost 0 pledge 0 margin 0/1 account 1k00000000000000000000000000000000000000000000000000000012 key 0000000000000000000000000000000000000000000000000000000000000008" ∷
    codes "10 pool 00000000000000000000000000000000000000000000000000000053 deposit 5 cost 0 pledge 0 margin 0/1 account 1k00000000000000000000000000000000000000000000000000000012 retires never" ∷
    codes "10 account k00000000000000000000000000000000000000000000000000000010 stake 0 deposit 2 rewards 67 pool none drep k00000000000000000000000000000000000000000000000000000030" ∷
    codes "10 account k00000000000000000000000000000000000000000000000000000011 stake 0 deposit 2 rewards 33 pool none drep k00000000000000000000000000000000000000000000000000000031" ∷
    codes "10 account k00000000000000000000000000000000000000000000000000000012 stake 0 deposit 2 rewards 0 pool none drep none" ∷
    codes "10 output 0000000000000000000000000000000000000000000000000000000000000001#7 1k00000000000000000000000000000000000000000000000000000001 20" ∷
    codes "10 snapshot mark 00000000000000000000000000000000000000000000000000000050 0" ∷
    codes "10 snapshot fees 0" ∷
    codes "10 pending none" ∷
    codes "10 pots outputs 20 deposits 36 rewards 100 fees 85 donations 0 treasury 100 reserves 659 supply 1000" ∷
    []) ≡ true
unfolding digits encode_with
keys_of_pools = refl

abbrev keys_in_future_terms_input : List (ℕ × Reading)
keys_in_future_terms_input =
    (1, Read (records.Genesis (record { network = 1; slot = 0; epoch_length = 10; version = (11, 0); supply = 1000; reserves = 679; treasury = 100; params = base_params; document = (h32 0x01); script = None; committee = (Some (record { threshold = (share 0 1); members = (((key 0x70), 100, (Some (key 0x71))) ∷ []) })); outputs = (((ref 0x01 2), (address_with 1 (key 0x01) None), 20, []) ∷ ((ref 0x01 3), (address_with 1 (key 0x01) None), 20, []) ∷ ((ref 0x01 4), (address_with 1 (key 0x01) None), 20, []) ∷ ((ref 0x01 5), (address_with 1 (key 0x01) None), 20, []) ∷ ((ref 0x01 6), (address_with 1 (key 0x01) None), 20, []) ∷ []); accounts = (((key 0x10), 2, 67, None, (Some (drep.Registered (key 0x30)))) ∷ ((key 0x11), 2, 33, None, (Some (drep.Registered (key 0x31)))) ∷ ((key 0x12), 2, 0, None, None) ∷ []); pools = ((record { pool = (pool 0x50); deposit = 5; cost = 0; pledge = 0; margin = (share 0 1); account = (account_on 1 (key 0x12)); key = None }) ∷ []); dreps = (((key 0x30), 5, 20) ∷ ((key 0x31), 5, 20) ∷ []) }))) ∷
    (2, Read (records.Tx (record (spend 0x02 20) { certs = ((certs.PoolReg (pool 0x50) 0 0 (share 0 1) (account_on 1 (key 0x12)) (Some (h32 0x07))) ∷ []) }))) ∷
    (3, Read (records.Tx (record (spend 0x03 15) { certs = ((certs.PoolReg (pool 0x51) 0 0 (share 0 1) (account_on 1 (key 0x12)) (Some (h32 0x07))) ∷ []) }))) ∷
    (4, Read (records.Tx (record (spend 0x03 15) { certs = ((certs.PoolReg (pool 0x51) 0 0 (share 0 1) (account_on 1 (key 0x12)) (Some (h32 0x07))) ∷ (certs.PoolReg (pool 0x50) 0 0 (share 0 1) (account_on 1 (key 0x12)) (Some (h32 0x08))) ∷ []) }))) ∷
    (5, Read (records.Tx (record (spend 0x03 15) { certs = ((certs.PoolReg (pool 0x50) 0 0 (share 0 1) (account_on 1 (key 0x12)) (Some (h32 0x08))) ∷ (certs.PoolReg (pool 0x51) 0 0 (share 0 1) (account_on 1 (key 0x12)) (Some (h32 0x07))) ∷ []) }))) ∷
    (6, Read (records.Tx (record (spend 0x04 15) { certs = ((certs.PoolReg (pool 0x52) 0 0 (share 0 1) (account_on 1 (key 0x12)) (Some (h32 0x08))) ∷ []) }))) ∷
    (7, Read (records.Tx (record (spend 0x04 20) { certs = ((certs.PoolReg (pool 0x50) 0 0 (share 0 1) (account_on 1 (key 0x12)) None) ∷ []) }))) ∷
    (8, Read (records.Tx (record (spend 0x05 15) { certs = ((certs.PoolReg (pool 0x52) 0 0 (share 0 1) (account_on 1 (key 0x12)) (Some (h32 0x08))) ∷ []) }))) ∷
    (9, Read (records.Print what.State)) ∷
    (10, Read (records.Block 10 1)) ∷
    (11, Read (records.Tx (record (spend 0x06 15) { certs = ((certs.PoolReg (pool 0x53) 0 0 (share 0 1) (account_on 1 (key 0x12)) (Some (h32 0x08))) ∷ []) }))) ∷
    (12, Read (records.Tx (record (spend 0x06 20) { certs = ((certs.PoolReg (pool 0x50) 0 0 (share 0 1) (account_on 1 (key 0x12)) (Some (h32 0x09))) ∷ []) }))) ∷
    (13, Read (records.Print what.State)) ∷
    []

pub keys_in_future_terms : says_all keys_in_future_terms_input (
    codes "1 genesis outputs 100 deposits 21 rewards 100 fees 0 donations 0 treasury 100 reserves 679 supply 1000" ∷
    codes "2 accepted" ∷
    codes "3 refused 73 PoolKeyInUse at 0" ∷
    codes "4 refused 73 PoolKeyInUse at 0" ∷
    codes "5 accepted" ∷
    codes "6 refused 73 PoolKeyInUse at 0" ∷
    codes "7 accepted" ∷
    codes "8 accepted" ∷
    codes "9 now slot 0 epoch 0 version 11.0 dormant 0" ∷
    codes "9 constitution 0000000000000000000000000000000000000000000000000000000000000001 none" ∷
    codes "9 committee threshold 0/1" ∷
    codes "9 member k00000000000000000000000000000000000000000000000000000070 term 100 hot k00000000000000000000000000000000000000000000000000000071" ∷
    codes "9 enacted committee none constitution none hardfork none parameters none" ∷
    codes "9 param maxBlockBodySize 90112" ∷
    codes "9 param maxTxSize 16384" ∷
    codes "9 param maxBlockHeaderSize 1100" ∷
    codes "9 param maxValueSize 5000" ∷
    codes "9 param maxTxExUnits 1000 1000" ∷
    codes "9 param maxBlockExUnits 1000 1000" ∷
    codes "9 param maxCollateralInputs 3" ∷
    codes "9 param minFeeA 0" ∷
    codes "9 param minFeeB 0" ∷
    codes "9 param keyDeposit 2" ∷
    codes "9 param poolDeposit 5" ∷
    codes "9 param rho 0/1" ∷
    codes "9 param tau 0/1" ∷
    codes "9 param minPoolCost 0" ∷
    codes "9 param coinsPerUTxOByte 0" ∷
    codes "9 param prices 0/1 0/1" ∷
    codes "9 param minFeeRefScriptCostPerByte 15/1" ∷
    codes "9 param a0 0/1" ∷
    codes "9 param eMax 18" ∷
    codes "9 param nOpt 500" ∷
    codes "9 param costModels 0000000000000000000000000000000000000000000000000000000000000000" ∷
    codes "9 param collateralPercentage 150" ∷
    codes "9 param poolVotingThresholds 0/1 0/1 0/1 0/1 0/1" ∷
    codes "9 param drepVotingThresholds 67/100 67/100 67/100 67/100 67/100 67/100 67/100 67/100 67/100 67/100" ∷
    codes "9 param govActionLifetime 2" ∷
    codes "9 param govActionDeposit 10" ∷
    codes "9 param drepDeposit 5" ∷
    codes "9 param drepActivity 20" ∷
    codes "9 param committeeMinSize 0" ∷
    codes "9 param committeeMaxTermLength 100" ∷
    codes "9 drep k00000000000000000000000000000000000000000000000000000030 deposit 5 expiry 20" ∷
    codes "9 drep k00000000000000000000000000000000000000000000000000000031 deposit 5 expiry 20" ∷
    codes "9 pool 00000000000000000000000000000000000000000000000000000050 deposit 5 cost 0 pledge 0 margin 0/1 account 1k00000000000000000000000000000000000000000000000000000012 retires never" ∷
    codes "9 next 00000000000000000000000000000000000000000000000000000050 cost 0 pledge 0 margin 0/1 account 1k00000000000000000000000000000000000000000000000000000012" ∷
    codes "9 pool 00000000000000000000000000000000000000000000000000000051 deposit 5 cost 0 pledge 0 margin 0/1 account 1k00000000000000000000000000000000000000000000000000000012 retires never key 0000000000000000000000000000000000000000000000000000000000000007" ∷
    codes "9 pool 00000000000000000000000000000000000000000000000000000052 deposit 5 cost 0 pledge 0 margin 0/1 account 1k00000000000000000000000000000000000000000000000000000012 retires never key 0000000000000000000000000000000000000000000000000000000000000008" ∷
    codes "9 account k00000000000000000000000000000000000000000000000000000010 stake 0 deposit 2 rewards 67 pool none drep k00000000000000000000000000000000000000000000000000000030" ∷
    codes "9 account k00000000000000000000000000000000000000000000000000000011 stake 0 deposit 2 rewards 33 pool none drep k00000000000000000000000000000000000000000000000000000031" ∷
    codes "9 account k00000000000000000000000000000000000000000000000000000012 stake 0 deposit 2 rewards 0 pool none drep none" ∷
    codes "9 output 0000000000000000000000000000000000000000000000000000000000000001#6 1k00000000000000000000000000000000000000000000000000000001 20" ∷
    codes "9 snapshot mark 00000000000000000000000000000000000000000000000000000050 0" ∷
    codes "9 snapshot fees 0" ∷
    codes "9 pending none" ∷
    codes "9 pots outputs 20 deposits 31 rewards 100 fees 70 donations 0 treasury 100 reserves 679 supply 1000" ∷
    codes "10 epoch 1 frozen 3 dormant 1" ∷
    codes "10 stake k00000000000000000000000000000000000000000000000000000030 67" ∷
    codes "10 stake k00000000000000000000000000000000000000000000000000000031 33" ∷
    codes "10 pots outputs 20 deposits 31 rewards 100 fees 70 donations 0 treasury 100 reserves 679 supply 1000" ∷
    codes "10 block slot 10 epoch 1 counted 1 of 3" ∷
    codes "11 refused 73 PoolKeyInUse at 0" ∷
    codes "12 accepted" ∷
    codes "13 now slot 10 epoch 1 version 11.0 dormant 1" ∷
    codes "13 constitution 0000000000000000000000000000000000000000000000000000000000000001 none" ∷
    codes "13 committee threshold 0/1" ∷
    codes "13 member k00000000000000000000000000000000000000000000000000000070 term 100 hot k00000000000000000000000000000000000000000000000000000071" ∷
    codes "13 enacted committee none constitution none hardfork none parameters none" ∷
    codes "13 param maxBlockBodySize 90112" ∷
    codes "13 param maxTxSize 16384" ∷
    codes "13 param maxBlockHeaderSize 1100" ∷
    codes "13 param maxValueSize 5000" ∷
    codes "13 param maxTxExUnits 1000 1000" ∷
    codes "13 param maxBlockExUnits 1000 1000" ∷
    codes "13 param maxCollateralInputs 3" ∷
    codes "13 param minFeeA 0" ∷
    codes "13 param minFeeB 0" ∷
    codes "13 param keyDeposit 2" ∷
    codes "13 param poolDeposit 5" ∷
    codes "13 param rho 0/1" ∷
    codes "13 param tau 0/1" ∷
    codes "13 param minPoolCost 0" ∷
    codes "13 param coinsPerUTxOByte 0" ∷
    codes "13 param prices 0/1 0/1" ∷
    codes "13 param minFeeRefScriptCostPerByte 15/1" ∷
    codes "13 param a0 0/1" ∷
    codes "13 param eMax 18" ∷
    codes "13 param nOpt 500" ∷
    codes "13 param costModels 0000000000000000000000000000000000000000000000000000000000000000" ∷
    codes "13 param collateralPercentage 150" ∷
    codes "13 param poolVotingThresholds 0/1 0/1 0/1 0/1 0/1" ∷
    codes "13 param drepVotingThresholds 67/100 67/100 67/100 67/100 67/100 67/100 67/100 67/100 67/100 67/100" ∷
    codes "13 param govActionLifetime 2" ∷
    codes "13 param govActionDeposit 10" ∷
    codes "13 param drepDeposit 5" ∷
    codes "13 param drepActivity 20" ∷
    codes "13 param committeeMinSize 0" ∷
    codes "13 param committeeMaxTermLength 100" ∷
    codes "13 drep k00000000000000000000000000000000000000000000000000000030 deposit 5 expiry 20" ∷
    codes "13 drep k00000000000000000000000000000000000000000000000000000031 deposit 5 expiry 20" ∷
    codes "13 pool 00000000000000000000000000000000000000000000000000000050 deposit 5 cost 0 pledge 0 margin 0/1 account 1k00000000000000000000000000000000000000000000000000000012 retires never" ∷
    codes "13 next 00000000000000000000000000000000000000000000000000000050 cost 0 pledge 0 margin 0/1 account 1k00000000000000000000000000000000000000000000000000000012 key 0000000000000000000000000000000000000000000000000000000000000009" ∷
    codes "13 pool 00000000000000000000000000000000000000000000000000000051 deposit 5 cost 0 pledge 0 margin 0/1 account 1k00000000000000000000000000000000000000000000000000000012 retires never key 0000000000000000000000000000000000000000000000000000000000000007" ∷
    codes "13 pool 00000000000000000000000000000000000000000000000000000052 deposit 5 cost 0 pledge 0 margin 0/1 account 1k00000000000000000000000000000000000000000000000000000012 retires never key 0000000000000000000000000000000000000000000000000000000000000008" ∷
    codes "13 account k00000000000000000000000000000000000000000000000000000010 stake 0 deposit 2 rewards 67 pool none drep k00000000000000000000000000000000000000000000000000000030" ∷
    codes "13 account k00000000000000000000000000000000000000000000000000000011 stake 0 deposit 2 rewards 33 pool none drep k00000000000000000000000000000000000000000000000000000031" ∷
    codes "13 account k00000000000000000000000000000000000000000000000000000012 stake 0 deposit 2 rewards 0 pool none drep none" ∷
    codes "13 snapshot mark 00000000000000000000000000000000000000000000000000000050 0" ∷
    codes "13 snapshot mark 00000000000000000000000000000000000000000000000000000051 0" ∷
    codes "13 snapshot mark 00000000000000000000000000000000000000000000000000000052 0" ∷
    codes "13 snapshot set 00000000000000000000000000000000000000000000000000000050 0" ∷
    codes "13 snapshot fees 70" ∷
    codes "13 pending none" ∷
    codes "13 pots outputs 0 deposits 31 rewards 100 fees 90 donations 0 treasury 100 reserves 679 supply 1000" ∷
    []) ≡ true
unfolding digits encode_with
keys_in_future_terms = refl

abbrev keys_in_one_transaction_input : List (ℕ × Reading)
keys_in_one_transaction_input =
    (1, Read (records.Genesis (record { network = 1; slot = 0; epoch_length = 10; version = (11, 0); supply = 1000; reserves = 699; treasury = 100; params = base_params; document = (h32 0x01); script = None; committee = (Some (record { threshold = (share 0 1); members = (((key 0x70), 100, (Some (key 0x71))) ∷ []) })); outputs = (((ref 0x01 2), (address_with 1 (key 0x01) None), 20, []) ∷ ((ref 0x01 3), (address_with 1 (key 0x01) None), 20, []) ∷ ((ref 0x01 4), (address_with 1 (key 0x01) None), 20, []) ∷ ((ref 0x01 5), (address_with 1 (key 0x01) None), 20, []) ∷ []); accounts = (((key 0x10), 2, 67, None, (Some (drep.Registered (key 0x30)))) ∷ ((key 0x11), 2, 33, None, (Some (drep.Registered (key 0x31)))) ∷ ((key 0x12), 2, 0, None, None) ∷ []); pools = ((record { pool = (pool 0x50); deposit = 5; cost = 0; pledge = 0; margin = (share 0 1); account = (account_on 1 (key 0x12)); key = None }) ∷ []); dreps = (((key 0x30), 5, 20) ∷ ((key 0x31), 5, 20) ∷ []) }))) ∷
    (2, Read (records.Tx (record (spend 0x02 10) { certs = ((certs.PoolReg (pool 0x51) 0 0 (share 0 1) (account_on 1 (key 0x12)) (Some (h32 0x07))) ∷ (certs.PoolReg (pool 0x52) 0 0 (share 0 1) (account_on 1 (key 0x12)) (Some (h32 0x07))) ∷ []) }))) ∷
    (3, Read (records.Tx (record (spend 0x02 15) { certs = ((certs.PoolReg (pool 0x51) 0 0 (share 0 1) (account_on 1 (key 0x12)) (Some (h32 0x07))) ∷ (certs.PoolReg (pool 0x51) 0 0 (share 0 1) (account_on 1 (key 0x12)) (Some (h32 0x07))) ∷ []) }))) ∷
    (4, Read (records.Tx (record (spend 0x03 10) { certs = ((certs.PoolReg (pool 0x53) 0 0 (share 0 1) (account_on 1 (key 0x12)) (Some (h32 0x08))) ∷ (certs.PoolReg (pool 0x53) 0 0 (share 0 1) (account_on 1 (key 0x12)) (Some (h32 0x09))) ∷ (certs.PoolReg (pool 0x52) 0 0 (share 0 1) (account_on 1 (key 0x12)) (Some (h32 0x08))) ∷ []) }))) ∷
    (5, Read (records.Tx (record (spend 0x03 10) { certs = ((certs.PoolReg (pool 0x53) 0 0 (share 0 1) (account_on 1 (key 0x12)) (Some (h32 0x08))) ∷ (certs.PoolReg (pool 0x53) 0 0 (share 0 1) (account_on 1 (key 0x12)) (Some (h32 0x09))) ∷ (certs.PoolReg (pool 0x52) 0 0 (share 0 1) (account_on 1 (key 0x12)) (Some (h32 0x09))) ∷ []) }))) ∷
    (6, Read (records.Tx (record (spend 0x03 10) { certs = ((certs.PoolReg (pool 0x53) 0 0 (share 0 1) (account_on 1 (key 0x12)) (Some (h32 0x08))) ∷ (certs.PoolReg (pool 0x53) 0 0 (share 0 1) (account_on 1 (key 0x12)) (Some (h32 0x09))) ∷ (certs.PoolReg (pool 0x53) 0 0 (share 0 1) (account_on 1 (key 0x12)) (Some (h32 0x08))) ∷ (certs.PoolReg (pool 0x52) 0 0 (share 0 1) (account_on 1 (key 0x12)) (Some (h32 0x09))) ∷ []) }))) ∷
    (7, Read (records.Tx (record (spend 0x04 20) { certs = ((certs.PoolRetire (pool 0x52) 1) ∷ (certs.PoolReg (pool 0x50) 0 0 (share 0 1) (account_on 1 (key 0x12)) (Some (h32 0x09))) ∷ []) }))) ∷
    (8, Read (records.Tx (record (spend 0x04 20) { certs = ((certs.PoolReg (pool 0x50) 0 0 (share 0 1) (account_on 1 (key 0x12)) (Some (h32 0x06))) ∷ (certs.PoolReg (pool 0x50) 0 0 (share 0 1) (account_on 1 (key 0x12)) (Some (h32 0x05))) ∷ (certs.PoolReg (pool 0x53) 0 0 (share 0 1) (account_on 1 (key 0x12)) (Some (h32 0x06))) ∷ []) }))) ∷
    (9, Read (records.Tx (record (spend 0x05 20) { certs = ((certs.PoolReg (pool 0x52) 0 0 (share 0 1) (account_on 1 (key 0x12)) (Some (h32 0x08))) ∷ []) }))) ∷
    (10, Read (records.Tx (record (spend 0x05 10) { certs = ((certs.PoolReg (pool 0x54) 0 0 (share 0 1) (account_on 1 (key 0x12)) None) ∷ (certs.PoolReg (pool 0x55) 0 0 (share 0 1) (account_on 1 (key 0x12)) None) ∷ (certs.PoolReg (pool 0x54) 0 0 (share 0 1) (account_on 1 (key 0x12)) (Some (h32 0x04))) ∷ (certs.PoolReg (pool 0x55) 0 0 (share 0 1) (account_on 1 (key 0x12)) (Some (h32 0x04))) ∷ []) }))) ∷
    (11, Read (records.Print what.State)) ∷
    []

pub keys_in_one_transaction : says_all keys_in_one_transaction_input (
    codes "1 genesis outputs 80 deposits 21 rewards 100 fees 0 donations 0 treasury 100 reserves 699 supply 1000" ∷
    codes "2 refused 73 PoolKeyInUse at 1" ∷
    codes "3 accepted" ∷
    codes "4 refused 73 PoolKeyInUse at 2" ∷
    codes "5 refused 73 PoolKeyInUse at 2" ∷
    codes "6 accepted" ∷
    codes "7 refused 73 PoolKeyInUse at 1" ∷
    codes "8 accepted" ∷
    codes "9 refused 73 PoolKeyInUse at 0" ∷
    codes "10 refused 73 PoolKeyInUse at 3" ∷
    codes "11 now slot 0 epoch 0 version 11.0 dormant 0" ∷
    codes "11 constitution 0000000000000000000000000000000000000000000000000000000000000001 none" ∷
    codes "11 committee threshold 0/1" ∷
    codes "11 member k00000000000000000000000000000000000000000000000000000070 term 100 hot k00000000000000000000000000000000000000000000000000000071" ∷
    codes "11 enacted committee none constitution none hardfork none parameters none" ∷
    codes "11 param maxBlockBodySize 90112" ∷
    codes "11 param maxTxSize 16384" ∷
    codes "11 param maxBlockHeaderSize 1100" ∷
    codes "11 param maxValueSize 5000" ∷
    codes "11 param maxTxExUnits 1000 1000" ∷
    codes "11 param maxBlockExUnits 1000 1000" ∷
    codes "11 param maxCollateralInputs 3" ∷
    codes "11 param minFeeA 0" ∷
    codes "11 param minFeeB 0" ∷
    codes "11 param keyDeposit 2" ∷
    codes "11 param poolDeposit 5" ∷
    codes "11 param rho 0/1" ∷
    codes "11 param tau 0/1" ∷
    codes "11 param minPoolCost 0" ∷
    codes "11 param coinsPerUTxOByte 0" ∷
    codes "11 param prices 0/1 0/1" ∷
    codes "11 param minFeeRefScriptCostPerByte 15/1" ∷
    codes "11 param a0 0/1" ∷
    codes "11 param eMax 18" ∷
    codes "11 param nOpt 500" ∷
    codes "11 param costModels 0000000000000000000000000000000000000000000000000000000000000000" ∷
    codes "11 param collateralPercentage 150" ∷
    codes "11 param poolVotingThresholds 0/1 0/1 0/1 0/1 0/1" ∷
    codes "11 param drepVotingThresholds 67/100 67/100 67/100 67/100 67/100 67/100 67/100 67/100 67/100 67/100" ∷
    codes "11 param govActionLifetime 2" ∷
    codes "11 param govActionDeposit 10" ∷
    codes "11 param drepDeposit 5" ∷
    codes "11 param drepActivity 20" ∷
    codes "11 param committeeMinSize 0" ∷
    codes "11 param committeeMaxTermLength 100" ∷
    codes "11 drep k00000000000000000000000000000000000000000000000000000030 deposit 5 expiry 20" ∷
    codes "11 drep k00000000000000000000000000000000000000000000000000000031 deposit 5 expiry 20" ∷
    codes "11 pool 00000000000000000000000000000000000000000000000000000050 deposit 5 cost 0 pledge 0 margin 0/1 account 1k00000000000000000000000000000000000000000000000000000012 retires never" ∷
    codes "11 next 00000000000000000000000000000000000000000000000000000050 cost 0 pledge 0 margin 0/1 account 1k00000000000000000000000000000000000000000000000000000012 key 0000000000000000000000000000000000000000000000000000000000000005" ∷
    codes "11 pool 00000000000000000000000000000000000000000000000000000051 deposit 5 cost 0 pledge 0 margin 0/1 account 1k00000000000000000000000000000000000000000000000000000012 retires never key 0000000000000000000000000000000000000000000000000000000000000007" ∷
    codes "11 next 00000000000000000000000000000000000000000000000000000051 cost 0 pledge 0 margin 0/1 account 1k00000000000000000000000000000000000000000000000000000012 key 0000000000000000000000000000000000000000000000000000000000000007" ∷
    codes "11 pool 00000000000000000000000000000000000000000000000000000052 deposit 5 cost 0 pledge 0 margin 0/1 account 1k00000000000000000000000000000000000000000000000000000012 retires never key 0000000000000000000000000000000000000000000000000000000000000009" ∷
    codes "11 pool 00000000000000000000000000000000000000000000000000000053 deposit 5 cost 0 pledge 0 margin 0/1 account 1k00000000000000000000000000000000000000000000000000000012 retires never key 0000000000000000000000000000000000000000000000000000000000000008" ∷
    codes "11 next 00000000000000000000000000000000000000000000000000000053 cost 0 pledge 0 margin 0/1 account 1k00000000000000000000000000000000000000000000000000000012 key 0000000000000000000000000000000000000000000000000000000000000006" ∷
    codes "11 account k00000000000000000000000000000000000000000000000000000010 stake 0 deposit 2 rewards 67 pool none drep k00000000000000000000000000000000000000000000000000000030" ∷
    codes "11 account k00000000000000000000000000000000000000000000000000000011 stake 0 deposit 2 rewards 33 pool none drep k00000000000000000000000000000000000000000000000000000031" ∷
    codes "11 account k00000000000000000000000000000000000000000000000000000012 stake 0 deposit 2 rewards 0 pool none drep none" ∷
    codes "11 output 0000000000000000000000000000000000000000000000000000000000000001#5 1k00000000000000000000000000000000000000000000000000000001 20" ∷
    codes "11 snapshot mark 00000000000000000000000000000000000000000000000000000050 0" ∷
    codes "11 snapshot fees 0" ∷
    codes "11 pending none" ∷
    codes "11 pots outputs 20 deposits 36 rewards 100 fees 45 donations 0 treasury 100 reserves 699 supply 1000" ∷
    []) ≡ true
unfolding digits encode_with
keys_in_one_transaction = refl

abbrev keys_given_up_at_a_boundary_input : List (ℕ × Reading)
keys_given_up_at_a_boundary_input =
    (1, Read (records.Genesis (record { network = 1; slot = 0; epoch_length = 10; version = (11, 0); supply = 1000; reserves = 689; treasury = 100; params = base_params; document = (h32 0x01); script = None; committee = (Some (record { threshold = (share 0 1); members = (((key 0x70), 100, (Some (key 0x71))) ∷ []) })); outputs = (((ref 0x01 2), (address_with 1 (key 0x01) None), 20, []) ∷ ((ref 0x01 3), (address_with 1 (key 0x01) None), 20, []) ∷ ((ref 0x01 4), (address_with 1 (key 0x01) None), 20, []) ∷ ((ref 0x01 5), (address_with 1 (key 0x01) None), 20, []) ∷ []); accounts = (((key 0x10), 2, 67, None, (Some (drep.Registered (key 0x30)))) ∷ ((key 0x11), 2, 33, None, (Some (drep.Registered (key 0x31)))) ∷ ((key 0x12), 2, 0, None, None) ∷ []); pools = ((record { pool = (pool 0x49); deposit = 5; cost = 0; pledge = 0; margin = (share 0 1); account = (account_on 1 (key 0x12)); key = (Some (h32 0x03)) }) ∷ (record { pool = (pool 0x50); deposit = 5; cost = 0; pledge = 0; margin = (share 0 1); account = (account_on 1 (key 0x12)); key = (Some (h32 0x07)) }) ∷ (record { pool = (pool 0x51); deposit = 5; cost = 0; pledge = 0; margin = (share 0 1); account = (account_on 1 (key 0x12)); key = (Some (h32 0x05)) }) ∷ []); dreps = (((key 0x30), 5, 20) ∷ ((key 0x31), 5, 20) ∷ []) }))) ∷
    (2, Read (records.Tx (record (spend 0x02 20) { certs = ((certs.PoolReg (pool 0x50) 0 0 (share 0 1) (account_on 1 (key 0x12)) (Some (h32 0x08))) ∷ []) }))) ∷
    (3, Read (records.Tx (record (spend 0x03 15) { certs = ((certs.PoolReg (pool 0x52) 0 0 (share 0 1) (account_on 1 (key 0x12)) (Some (h32 0x07))) ∷ []) }))) ∷
    (4, Read (records.Tx (record (spend 0x03 15) { certs = ((certs.PoolReg (pool 0x52) 0 0 (share 0 1) (account_on 1 (key 0x12)) (Some (h32 0x08))) ∷ []) }))) ∷
    (5, Read (records.Tx (record (spend 0x03 20) { certs = ((certs.PoolReg (pool 0x51) 0 0 (share 0 1) (account_on 1 (key 0x12)) None) ∷ (certs.PoolReg (pool 0x49) 0 0 (share 0 1) (account_on 1 (key 0x12)) (Some (h32 0x03))) ∷ []) }))) ∷
    (6, Read (records.Tx (record (spend 0x04 15) { certs = ((certs.PoolReg (pool 0x52) 0 0 (share 0 1) (account_on 1 (key 0x12)) (Some (h32 0x05))) ∷ []) }))) ∷
    (7, Read (records.Print what.State)) ∷
    (8, Read (records.Block 10 1)) ∷
    (9, Read (records.Tx (record (spend 0x04 15) { certs = ((certs.PoolReg (pool 0x52) 0 0 (share 0 1) (account_on 1 (key 0x12)) (Some (h32 0x08))) ∷ []) }))) ∷
    (10, Read (records.Tx (record (spend 0x04 10) { certs = ((certs.PoolReg (pool 0x52) 0 0 (share 0 1) (account_on 1 (key 0x12)) (Some (h32 0x07))) ∷ (certs.PoolReg (pool 0x53) 0 0 (share 0 1) (account_on 1 (key 0x12)) (Some (h32 0x05))) ∷ []) }))) ∷
    (11, Read (records.Tx (record (spend 0x05 20) { certs = ((certs.PoolReg (pool 0x50) 0 0 (share 0 1) (account_on 1 (key 0x12)) (Some (h32 0x07))) ∷ []) }))) ∷
    (12, Read (records.Tx (record (spend 0x05 20) { certs = ((certs.PoolReg (pool 0x51) 0 0 (share 0 1) (account_on 1 (key 0x12)) (Some (h32 0x05))) ∷ []) }))) ∷
    (13, Read (records.Tx (record (spend 0x05 20) { certs = ((certs.PoolReg (pool 0x51) 0 0 (share 0 1) (account_on 1 (key 0x12)) (Some (h32 0x03))) ∷ []) }))) ∷
    (14, Read (records.Print what.State)) ∷
    []

pub keys_given_up_at_a_boundary : says_all keys_given_up_at_a_boundary_input (
    codes "1 genesis outputs 80 deposits 31 rewards 100 fees 0 donations 0 treasury 100 reserves 689 supply 1000" ∷
    codes "2 accepted" ∷
    codes "3 refused 73 PoolKeyInUse at 0" ∷
    codes "4 refused 73 PoolKeyInUse at 0" ∷
    codes "5 accepted" ∷
    codes "6 refused 73 PoolKeyInUse at 0" ∷
    codes "7 now slot 0 epoch 0 version 11.0 dormant 0" ∷
    codes "7 constitution 0000000000000000000000000000000000000000000000000000000000000001 none" ∷
    codes "7 committee threshold 0/1" ∷
    codes "7 member k00000000000000000000000000000000000000000000000000000070 term 100 hot k00000000000000000000000000000000000000000000000000000071" ∷
    codes "7 enacted committee none constitution none hardfork none parameters none" ∷
    codes "7 param maxBlockBodySize 90112" ∷
    codes "7 param maxTxSize 16384" ∷
    codes "7 param maxBlockHeaderSize 1100" ∷
    codes "7 param maxValueSize 5000" ∷
    codes "7 param maxTxExUnits 1000 1000" ∷
    codes "7 param maxBlockExUnits 1000 1000" ∷
    codes "7 param maxCollateralInputs 3" ∷
    codes "7 param minFeeA 0" ∷
    codes "7 param minFeeB 0" ∷
    codes "7 param keyDeposit 2" ∷
    codes "7 param poolDeposit 5" ∷
    codes "7 param rho 0/1" ∷
    codes "7 param tau 0/1" ∷
    codes "7 param minPoolCost 0" ∷
    codes "7 param coinsPerUTxOByte 0" ∷
    codes "7 param prices 0/1 0/1" ∷
    codes "7 param minFeeRefScriptCostPerByte 15/1" ∷
    codes "7 param a0 0/1" ∷
    codes "7 param eMax 18" ∷
    codes "7 param nOpt 500" ∷
    codes "7 param costModels 0000000000000000000000000000000000000000000000000000000000000000" ∷
    codes "7 param collateralPercentage 150" ∷
    codes "7 param poolVotingThresholds 0/1 0/1 0/1 0/1 0/1" ∷
    codes "7 param drepVotingThresholds 67/100 67/100 67/100 67/100 67/100 67/100 67/100 67/100 67/100 67/100" ∷
    codes "7 param govActionLifetime 2" ∷
    codes "7 param govActionDeposit 10" ∷
    codes "7 param drepDeposit 5" ∷
    codes "7 param drepActivity 20" ∷
    codes "7 param committeeMinSize 0" ∷
    codes "7 param committeeMaxTermLength 100" ∷
    codes "7 drep k00000000000000000000000000000000000000000000000000000030 deposit 5 expiry 20" ∷
    codes "7 drep k00000000000000000000000000000000000000000000000000000031 deposit 5 expiry 20" ∷
    codes "7 pool 00000000000000000000000000000000000000000000000000000049 deposit 5 cost 0 pledge 0 margin 0/1 account 1k00000000000000000000000000000000000000000000000000000012 retires never key 0000000000000000000000000000000000000000000000000000000000000003" ∷
    codes "7 next 00000000000000000000000000000000000000000000000000000049 cost 0 pledge 0 margin 0/1 account 1k00000000000000000000000000000000000000000000000000000012 key 0000000000000000000000000000000000000000000000000000000000000003" ∷
    codes "7 pool 00000000000000000000000000000000000000000000000000000050 deposit 5 cost 0 pledge 0 margin 0/1 account 1k00000000000000000000000000000000000000000000000000000012 retires never key 0000000000000000000000000000000000000000000000000000000000000007" ∷
    codes "7 next 00000000000000000000000000000000000000000000000000000050 cost 0 pledge 0 margin 0/1 account 1k00000000000000000000000000000000000000000000000000000012 key 0000000000000000000000000000000000000000000000000000000000000008" ∷
    codes "7 pool 00000000000000000000000000000000000000000000000000000051 deposit 5 cost 0 pledge 0 margin 0/1 account 1k00000000000000000000000000000000000000000000000000000012 retires never key 0000000000000000000000000000000000000000000000000000000000000005" ∷
    codes "7 next 00000000000000000000000000000000000000000000000000000051 cost 0 pledge 0 margin 0/1 account 1k00000000000000000000000000000000000000000000000000000012" ∷
    codes "7 account k00000000000000000000000000000000000000000000000000000010 stake 0 deposit 2 rewards 67 pool none drep k00000000000000000000000000000000000000000000000000000030" ∷
    codes "7 account k00000000000000000000000000000000000000000000000000000011 stake 0 deposit 2 rewards 33 pool none drep k00000000000000000000000000000000000000000000000000000031" ∷
    codes "7 account k00000000000000000000000000000000000000000000000000000012 stake 0 deposit 2 rewards 0 pool none drep none" ∷
    codes "7 output 0000000000000000000000000000000000000000000000000000000000000001#4 1k00000000000000000000000000000000000000000000000000000001 20" ∷
    codes "7 output 0000000000000000000000000000000000000000000000000000000000000001#5 1k00000000000000000000000000000000000000000000000000000001 20" ∷
    codes "7 snapshot mark 00000000000000000000000000000000000000000000000000000049 0" ∷
    codes "7 snapshot mark 00000000000000000000000000000000000000000000000000000050 0" ∷
    codes "7 snapshot mark 00000000000000000000000000000000000000000000000000000051 0" ∷
    codes "7 snapshot fees 0" ∷
    codes "7 pending none" ∷
    codes "7 pots outputs 40 deposits 31 rewards 100 fees 40 donations 0 treasury 100 reserves 689 supply 1000" ∷
    codes "8 epoch 1 frozen 3 dormant 1" ∷
    codes "8 stake k00000000000000000000000000000000000000000000000000000030 67" ∷
    codes "8 stake k00000000000000000000000000000000000000000000000000000031 33" ∷
    codes "8 pots outputs 40 deposits 31 rewards 100 fees 40 donations 0 treasury 100 reserves 689 supply 1000" ∷
    codes "8 block slot 10 epoch 1 counted 1 of 3" ∷
    codes "9 refused 73 PoolKeyInUse at 0" ∷
    codes "10 accepted" ∷
    codes "11 refused 73 PoolKeyInUse at 0" ∷
    codes "12 refused 73 PoolKeyInUse at 0" ∷
    codes "13 refused 73 PoolKeyInUse at 0" ∷
    codes "14 now slot 10 epoch 1 version 11.0 dormant 1" ∷
    codes "14 constitution 0000000000000000000000000000000000000000000000000000000000000001 none" ∷
    codes "14 committee threshold 0/1" ∷
    codes "14 member k00000000000000000000000000000000000000000000000000000070 term 100 hot k00000000000000000000000000000000000000000000000000000071" ∷
    codes "14 enacted committee none constitution none hardfork none parameters none" ∷
    codes "14 param maxBlockBodySize 90112" ∷
    codes "14 param maxTxSize 16384" ∷
    codes "14 param maxBlockHeaderSize 1100" ∷
    codes "14 param maxValueSize 5000" ∷
    codes "14 param maxTxExUnits 1000 1000" ∷
    codes "14 param maxBlockExUnits 1000 1000" ∷
    codes "14 param maxCollateralInputs 3" ∷
    codes "14 param minFeeA 0" ∷
    codes "14 param minFeeB 0" ∷
    codes "14 param keyDeposit 2" ∷
    codes "14 param poolDeposit 5" ∷
    codes "14 param rho 0/1" ∷
    codes "14 param tau 0/1" ∷
    codes "14 param minPoolCost 0" ∷
    codes "14 param coinsPerUTxOByte 0" ∷
    codes "14 param prices 0/1 0/1" ∷
    codes "14 param minFeeRefScriptCostPerByte 15/1" ∷
    codes "14 param a0 0/1" ∷
    codes "14 param eMax 18" ∷
    codes "14 param nOpt 500" ∷
    codes "14 param costModels 0000000000000000000000000000000000000000000000000000000000000000" ∷
    codes "14 param collateralPercentage 150" ∷
    codes "14 param poolVotingThresholds 0/1 0/1 0/1 0/1 0/1" ∷
    codes "14 param drepVotingThresholds 67/100 67/100 67/100 67/100 67/100 67/100 67/100 67/100 67/100 67/100" ∷
    codes "14 param govActionLifetime 2" ∷
    codes "14 param govActionDeposit 10" ∷
    codes "14 param drepDeposit 5" ∷
    codes "14 param drepActivity 20" ∷
    codes "14 param committeeMinSize 0" ∷
    codes "14 param committeeMaxTermLength 100" ∷
    codes "14 drep k00000000000000000000000000000000000000000000000000000030 deposit 5 expiry 20" ∷
    codes "14 drep k00000000000000000000000000000000000000000000000000000031 deposit 5 expiry 20" ∷
    codes "14 pool 00000000000000000000000000000000000000000000000000000049 deposit 5 cost 0 pledge 0 margin 0/1 account 1k00000000000000000000000000000000000000000000000000000012 retires never key 0000000000000000000000000000000000000000000000000000000000000003" ∷
    codes "14 pool 00000000000000000000000000000000000000000000000000000050 deposit 5 cost 0 pledge 0 margin 0/1 account 1k00000000000000000000000000000000000000000000000000000012 retires never key 0000000000000000000000000000000000000000000000000000000000000008" ∷
    codes "14 pool 00000000000000000000000000000000000000000000000000000051 deposit 5 cost 0 pledge 0 margin 0/1 account 1k00000000000000000000000000000000000000000000000000000012 retires never" ∷
    codes "14 pool 00000000000000000000000000000000000000000000000000000052 deposit 5 cost 0 pledge 0 margin 0/1 account 1k00000000000000000000000000000000000000000000000000000012 retires never key 0000000000000000000000000000000000000000000000000000000000000007" ∷
    codes "14 pool 00000000000000000000000000000000000000000000000000000053 deposit 5 cost 0 pledge 0 margin 0/1 account 1k00000000000000000000000000000000000000000000000000000012 retires never key 0000000000000000000000000000000000000000000000000000000000000005" ∷
    codes "14 account k00000000000000000000000000000000000000000000000000000010 stake 0 deposit 2 rewards 67 pool none drep k00000000000000000000000000000000000000000000000000000030" ∷
    codes "14 account k00000000000000000000000000000000000000000000000000000011 stake 0 deposit 2 rewards 33 pool none drep k00000000000000000000000000000000000000000000000000000031" ∷
    codes "14 account k00000000000000000000000000000000000000000000000000000012 stake 0 deposit 2 rewards 0 pool none drep none" ∷
    codes "14 output 0000000000000000000000000000000000000000000000000000000000000001#5 1k00000000000000000000000000000000000000000000000000000001 20" ∷
    codes "14 snapshot mark 00000000000000000000000000000000000000000000000000000049 0" ∷
    codes "14 snapshot mark 00000000000000000000000000000000000000000000000000000050 0" ∷
    codes "14 snapshot mark 00000000000000000000000000000000000000000000000000000051 0" ∷
    codes "14 snapshot set 00000000000000000000000000000000000000000000000000000049 0" ∷
    codes "14 snapshot set 00000000000000000000000000000000000000000000000000000050 0" ∷
    codes "14 snapshot set 00000000000000000000000000000000000000000000000000000051 0" ∷
    codes "14 snapshot fees 40" ∷
    codes "14 pending none" ∷
    codes "14 pots outputs 20 deposits 41 rewards 100 fees 50 donations 0 treasury 100 reserves 689 supply 1000" ∷
    []) ≡ true
unfolding digits encode_with
keys_given_up_at_a_boundary = refl

abbrev keys_given_up_by_retiring_input : List (ℕ × Reading)
keys_given_up_by_retiring_input =
    (1, Read (records.Genesis (record { network = 1; slot = 0; epoch_length = 10; version = (11, 0); supply = 1000; reserves = 679; treasury = 100; params = base_params; document = (h32 0x01); script = None; committee = (Some (record { threshold = (share 0 1); members = (((key 0x70), 100, (Some (key 0x71))) ∷ []) })); outputs = (((ref 0x01 2), (address_with 1 (key 0x01) None), 20, []) ∷ ((ref 0x01 3), (address_with 1 (key 0x01) None), 20, []) ∷ ((ref 0x01 4), (address_with 1 (key 0x01) None), 20, []) ∷ ((ref 0x01 5), (address_with 1 (key 0x01) None), 20, []) ∷ ((ref 0x01 6), (address_with 1 (key 0x01) None), 20, []) ∷ []); accounts = (((key 0x10), 2, 67, None, (Some (drep.Registered (key 0x30)))) ∷ ((key 0x11), 2, 33, None, (Some (drep.Registered (key 0x31)))) ∷ ((key 0x12), 2, 0, None, None) ∷ []); pools = ((record { pool = (pool 0x50); deposit = 5; cost = 0; pledge = 0; margin = (share 0 1); account = (account_on 1 (key 0x12)); key = (Some (h32 0x07)) }) ∷ []); dreps = (((key 0x30), 5, 20) ∷ ((key 0x31), 5, 20) ∷ []) }))) ∷
    (2, Read (records.Tx (record (spend 0x02 15) { certs = ((certs.PoolReg (pool 0x51) 0 0 (share 0 1) (account_on 1 (key 0x12)) (Some (h32 0x06))) ∷ (certs.PoolReg (pool 0x51) 0 0 (share 0 1) (account_on 1 (key 0x12)) (Some (h32 0x05))) ∷ (certs.PoolRetire (pool 0x51) 1) ∷ (certs.PoolRetire (pool 0x50) 1) ∷ []) }))) ∷
    (3, Read (records.Tx (record (spend 0x03 15) { certs = ((certs.PoolReg (pool 0x52) 0 0 (share 0 1) (account_on 1 (key 0x12)) (Some (h32 0x07))) ∷ []) }))) ∷
    (4, Read (records.Tx (record (spend 0x03 15) { certs = ((certs.PoolReg (pool 0x52) 0 0 (share 0 1) (account_on 1 (key 0x12)) (Some (h32 0x06))) ∷ []) }))) ∷
    (5, Read (records.Tx (record (spend 0x03 15) { certs = ((certs.PoolReg (pool 0x52) 0 0 (share 0 1) (account_on 1 (key 0x12)) (Some (h32 0x05))) ∷ []) }))) ∷
    (6, Read (records.Tx (record (spend 0x03 15) { certs = ((certs.PoolReg (pool 0x55) 0 0 (share 0 1) (account_on 1 (key 0x12)) (Some (h32 0x03))) ∷ (certs.PoolRetire (pool 0x55) 1) ∷ []) }))) ∷
    (7, Read (records.Tx (record (spend 0x04 20) { certs = ((certs.PoolReg (pool 0x55) 0 0 (share 0 1) (account_on 1 (key 0x12)) (Some (h32 0x03))) ∷ []) }))) ∷
    (8, Read (records.Block 10 1)) ∷
    (9, Read (records.Tx (record (spend 0x05 5) { certs = ((certs.PoolReg (pool 0x52) 0 0 (share 0 1) (account_on 1 (key 0x12)) (Some (h32 0x07))) ∷ (certs.PoolReg (pool 0x53) 0 0 (share 0 1) (account_on 1 (key 0x12)) (Some (h32 0x06))) ∷ (certs.PoolReg (pool 0x54) 0 0 (share 0 1) (account_on 1 (key 0x12)) (Some (h32 0x05))) ∷ []) }))) ∷
    (10, Read (records.Tx (record (spend 0x06 15) { certs = ((certs.PoolReg (pool 0x50) 0 0 (share 0 1) (account_on 1 (key 0x12)) (Some (h32 0x07))) ∷ []) }))) ∷
    (11, Read (records.Tx (record (spend 0x06 15) { certs = ((certs.PoolReg (pool 0x56) 0 0 (share 0 1) (account_on 1 (key 0x12)) (Some (h32 0x03))) ∷ []) }))) ∷
    (12, Read (records.Tx (record (spend 0x06 15) { certs = ((certs.PoolReg (pool 0x50) 0 0 (share 0 1) (account_on 1 (key 0x12)) (Some (h32 0x04))) ∷ []) }))) ∷
    (13, Read (records.Print what.State)) ∷
    []

pub keys_given_up_by_retiring : says_all keys_given_up_by_retiring_input (
    codes "1 genesis outputs 100 deposits 21 rewards 100 fees 0 donations 0 treasury 100 reserves 679 supply 1000" ∷
    codes "2 accepted" ∷
    codes "3 refused 73 PoolKeyInUse at 0" ∷
    codes "4 refused 73 PoolKeyInUse at 0" ∷
    codes "5 refused 73 PoolKeyInUse at 0" ∷
    codes "6 accepted" ∷
    codes "7 accepted" ∷
    codes "8 epoch 1 frozen 3 dormant 1" ∷
    codes "8 stake k00000000000000000000000000000000000000000000000000000030 67" ∷
    codes "8 stake k00000000000000000000000000000000000000000000000000000031 33" ∷
    codes "8 retired 00000000000000000000000000000000000000000000000000000050 refund 5 1k00000000000000000000000000000000000000000000000000000012" ∷
    codes "8 retired 00000000000000000000000000000000000000000000000000000051 refund 5 1k00000000000000000000000000000000000000000000000000000012" ∷
    codes "8 pots outputs 40 deposits 21 rewards 110 fees 50 donations 0 treasury 100 reserves 679 supply 1000" ∷
    codes "8 block slot 10 epoch 1 counted 1 of 3" ∷
    codes "9 accepted" ∷
    codes "10 refused 73 PoolKeyInUse at 0" ∷
    codes "11 refused 73 PoolKeyInUse at 0" ∷
    codes "12 accepted" ∷
    codes "13 now slot 10 epoch 1 version 11.0 dormant 1" ∷
    codes "13 constitution 0000000000000000000000000000000000000000000000000000000000000001 none" ∷
    codes "13 committee threshold 0/1" ∷
    codes "13 member k00000000000000000000000000000000000000000000000000000070 term 100 hot k00000000000000000000000000000000000000000000000000000071" ∷
    codes "13 enacted committee none constitution none hardfork none parameters none" ∷
    codes "13 param maxBlockBodySize 90112" ∷
    codes "13 param maxTxSize 16384" ∷
    codes "13 param maxBlockHeaderSize 1100" ∷
    codes "13 param maxValueSize 5000" ∷
    codes "13 param maxTxExUnits 1000 1000" ∷
    codes "13 param maxBlockExUnits 1000 1000" ∷
    codes "13 param maxCollateralInputs 3" ∷
    codes "13 param minFeeA 0" ∷
    codes "13 param minFeeB 0" ∷
    codes "13 param keyDeposit 2" ∷
    codes "13 param poolDeposit 5" ∷
    codes "13 param rho 0/1" ∷
    codes "13 param tau 0/1" ∷
    codes "13 param minPoolCost 0" ∷
    codes "13 param coinsPerUTxOByte 0" ∷
    codes "13 param prices 0/1 0/1" ∷
    codes "13 param minFeeRefScriptCostPerByte 15/1" ∷
    codes "13 param a0 0/1" ∷
    codes "13 param eMax 18" ∷
    codes "13 param nOpt 500" ∷
    codes "13 param costModels 0000000000000000000000000000000000000000000000000000000000000000" ∷
    codes "13 param collateralPercentage 150" ∷
    codes "13 param poolVotingThresholds 0/1 0/1 0/1 0/1 0/1" ∷
    codes "13 param drepVotingThresholds 67/100 67/100 67/100 67/100 67/100 67/100 67/100 67/100 67/100 67/100" ∷
    codes "13 param govActionLifetime 2" ∷
    codes "13 param govActionDeposit 10" ∷
    codes "13 param drepDeposit 5" ∷
    codes "13 param drepActivity 20" ∷
    codes "13 param committeeMinSize 0" ∷
    codes "13 param committeeMaxTermLength 100" ∷
    codes "13 drep k00000000000000000000000000000000000000000000000000000030 deposit 5 expiry 20" ∷
    codes "13 drep k00000000000000000000000000000000000000000000000000000031 deposit 5 expiry 20" ∷
    codes "13 pool 00000000000000000000000000000000000000000000000000000050 deposit 5 cost 0 pledge 0 margin 0/1 account 1k00000000000000000000000000000000000000000000000000000012 retires never key 0000000000000000000000000000000000000000000000000000000000000004" ∷
    codes "13 pool 00000000000000000000000000000000000000000000000000000052 deposit 5 cost 0 pledge 0 margin 0/1 account 1k00000000000000000000000000000000000000000000000000000012 retires never key 0000000000000000000000000000000000000000000000000000000000000007" ∷
    codes "13 pool 00000000000000000000000000000000000000000000000000000053 deposit 5 cost 0 pledge 0 margin 0/1 account 1k00000000000000000000000000000000000000000000000000000012 retires never key 0000000000000000000000000000000000000000000000000000000000000006" ∷
    codes "13 pool 00000000000000000000000000000000000000000000000000000054 deposit 5 cost 0 pledge 0 margin 0/1 account 1k00000000000000000000000000000000000000000000000000000012 retires never key 0000000000000000000000000000000000000000000000000000000000000005" ∷
    codes "13 pool 00000000000000000000000000000000000000000000000000000055 deposit 5 cost 0 pledge 0 margin 0/1 account 1k00000000000000000000000000000000000000000000000000000012 retires never key 0000000000000000000000000000000000000000000000000000000000000003" ∷
    codes "13 account k00000000000000000000000000000000000000000000000000000010 stake 0 deposit 2 rewards 67 pool none drep k00000000000000000000000000000000000000000000000000000030" ∷
    codes "13 account k00000000000000000000000000000000000000000000000000000011 stake 0 deposit 2 rewards 33 pool none drep k00000000000000000000000000000000000000000000000000000031" ∷
    codes "13 account k00000000000000000000000000000000000000000000000000000012 stake 0 deposit 2 rewards 10 pool none drep none" ∷
    codes "13 snapshot mark 00000000000000000000000000000000000000000000000000000050 0" ∷
    codes "13 snapshot mark 00000000000000000000000000000000000000000000000000000051 0" ∷
    codes "13 snapshot mark 00000000000000000000000000000000000000000000000000000055 0" ∷
    codes "13 snapshot set 00000000000000000000000000000000000000000000000000000050 0" ∷
    codes "13 snapshot fees 50" ∷
    codes "13 pending none" ∷
    codes "13 pots outputs 0 deposits 41 rewards 110 fees 70 donations 0 treasury 100 reserves 679 supply 1000" ∷
    []) ≡ true
unfolding digits encode_with
keys_given_up_by_retiring = refl

abbrev keys_shared_at_a_genesis_of_version_eleven_input : List (ℕ × Reading)
keys_shared_at_a_genesis_of_version_eleven_input =
    (1, Read (records.Genesis (record { network = 1; slot = 0; epoch_length = 10; version = (11, 0); supply = 1000; reserves = 709; treasury = 100; params = base_params; document = (h32 0x01); script = None; committee = (Some (record { threshold = (share 0 1); members = (((key 0x70), 100, (Some (key 0x71))) ∷ []) })); outputs = (((ref 0x01 2), (address_with 1 (key 0x01) None), 20, []) ∷ ((ref 0x01 3), (address_with 1 (key 0x01) None), 20, []) ∷ ((ref 0x01 4), (address_with 1 (key 0x01) None), 20, []) ∷ []); accounts = (((key 0x10), 2, 67, None, (Some (drep.Registered (key 0x30)))) ∷ ((key 0x11), 2, 33, None, (Some (drep.Registered (key 0x31)))) ∷ ((key 0x12), 2, 0, None, None) ∷ []); pools = ((record { pool = (pool 0x50); deposit = 5; cost = 0; pledge = 0; margin = (share 0 1); account = (account_on 1 (key 0x12)); key = (Some (h32 0x07)) }) ∷ (record { pool = (pool 0x51); deposit = 5; cost = 0; pledge = 0; margin = (share 0 1); account = (account_on 1 (key 0x12)); key = (Some (h32 0x07)) }) ∷ (record { pool = (pool 0x52); deposit = 5; cost = 0; pledge = 0; margin = (share 0 1); account = (account_on 1 (key 0x12)); key = (Some (h32 0x07)) }) ∷ []); dreps = (((key 0x30), 5, 20) ∷ ((key 0x31), 5, 20) ∷ []) }))) ∷
    (2, Read (records.Tx (record (spend 0x02 20) { certs = ((certs.PoolReg (pool 0x50) 0 0 (share 0 1) (account_on 1 (key 0x12)) (Some (h32 0x07))) ∷ []) }))) ∷
    (3, Read (records.Tx (record (spend 0x02 20) { certs = ((certs.PoolReg (pool 0x51) 0 0 (share 0 1) (account_on 1 (key 0x12)) (Some (h32 0x07))) ∷ []) }))) ∷
    (4, Read (records.Tx (record (spend 0x02 20) { certs = ((certs.PoolReg (pool 0x50) 0 0 (share 0 1) (account_on 1 (key 0x12)) None) ∷ (certs.PoolRetire (pool 0x52) 1) ∷ []) }))) ∷
    (5, Read (records.Tx (record (spend 0x03 20) { certs = ((certs.PoolReg (pool 0x51) 0 0 (share 0 1) (account_on 1 (key 0x12)) (Some (h32 0x07))) ∷ []) }))) ∷
    (6, Read (records.Block 10 1)) ∷
    (7, Read (records.Tx (record (spend 0x03 15) { certs = ((certs.PoolReg (pool 0x52) 0 0 (share 0 1) (account_on 1 (key 0x12)) (Some (h32 0x07))) ∷ []) }))) ∷
    (8, Read (records.Tx (record (spend 0x03 20) { certs = ((certs.PoolReg (pool 0x51) 0 0 (share 0 1) (account_on 1 (key 0x12)) (Some (h32 0x07))) ∷ []) }))) ∷
    (9, Read (records.Tx (record (spend 0x04 20) { certs = ((certs.PoolReg (pool 0x50) 0 0 (share 0 1) (account_on 1 (key 0x12)) (Some (h32 0x07))) ∷ []) }))) ∷
    (10, Read (records.Print what.State)) ∷
    []

pub keys_shared_at_a_genesis_of_version_eleven : says_all keys_shared_at_a_genesis_of_version_eleven_input (
    codes "1 genesis outputs 60 deposits 31 rewards 100 fees 0 donations 0 treasury 100 reserves 709 supply 1000" ∷
    codes "2 refused 73 PoolKeyInUse at 0" ∷
    codes "3 refused 73 PoolKeyInUse at 0" ∷
    codes "4 accepted" ∷
    codes "5 refused 73 PoolKeyInUse at 0" ∷
    codes "6 epoch 1 frozen 3 dormant 1" ∷
    codes "6 stake k00000000000000000000000000000000000000000000000000000030 67" ∷
    codes "6 stake k00000000000000000000000000000000000000000000000000000031 33" ∷
    codes "6 retired 00000000000000000000000000000000000000000000000000000052 refund 5 1k00000000000000000000000000000000000000000000000000000012" ∷
    codes "6 pots outputs 40 deposits 26 rewards 105 fees 20 donations 0 treasury 100 reserves 709 supply 1000" ∷
    codes "6 block slot 10 epoch 1 counted 1 of 3" ∷
    codes "7 refused 73 PoolKeyInUse at 0" ∷
    codes "8 accepted" ∷
    codes "9 refused 73 PoolKeyInUse at 0" ∷
    codes "10 now slot 10 epoch 1 version 11.0 dormant 1" ∷
    codes "10 constitution 0000000000000000000000000000000000000000000000000000000000000001 none" ∷
    codes "10 committee threshold 0/1" ∷
    codes "10 member k00000000000000000000000000000000000000000000000000000070 term 100 hot k00000000000000000000000000000000000000000000000000000071" ∷
    codes "10 enacted committee none constitution none hardfork none parameters none" ∷
    codes "10 param maxBlockBodySize 90112" ∷
    codes "10 param maxTxSize 16384" ∷
    codes "10 param maxBlockHeaderSize 1100" ∷
    codes "10 param maxValueSize 5000" ∷
    codes "10 param maxTxExUnits 1000 1000" ∷
    codes "10 param maxBlockExUnits 1000 1000" ∷
    codes "10 param maxCollateralInputs 3" ∷
    codes "10 param minFeeA 0" ∷
    codes "10 param minFeeB 0" ∷
    codes "10 param keyDeposit 2" ∷
    codes "10 param poolDeposit 5" ∷
    codes "10 param rho 0/1" ∷
    codes "10 param tau 0/1" ∷
    codes "10 param minPoolCost 0" ∷
    codes "10 param coinsPerUTxOByte 0" ∷
    codes "10 param prices 0/1 0/1" ∷
    codes "10 param minFeeRefScriptCostPerByte 15/1" ∷
    codes "10 param a0 0/1" ∷
    codes "10 param eMax 18" ∷
    codes "10 param nOpt 500" ∷
    codes "10 param costModels 0000000000000000000000000000000000000000000000000000000000000000" ∷
    codes "10 param collateralPercentage 150" ∷
    codes "10 param poolVotingThresholds 0/1 0/1 0/1 0/1 0/1" ∷
    codes "10 param drepVotingThresholds 67/100 67/100 67/100 67/100 67/100 67/100 67/100 67/100 67/100 67/100" ∷
    codes "10 param govActionLifetime 2" ∷
    codes "10 param govActionDeposit 10" ∷
    codes "10 param drepDeposit 5" ∷
    codes "10 param drepActivity 20" ∷
    codes "10 param committeeMinSize 0" ∷
    codes "10 param committeeMaxTermLength 100" ∷
    codes "10 drep k00000000000000000000000000000000000000000000000000000030 deposit 5 expiry 20" ∷
    codes "10 drep k00000000000000000000000000000000000000000000000000000031 deposit 5 expiry 20" ∷
    codes "10 pool 00000000000000000000000000000000000000000000000000000050 deposit 5 cost 0 pledge 0 margin 0/1 account 1k00000000000000000000000000000000000000000000000000000012 retires never" ∷
    codes "10 pool 00000000000000000000000000000000000000000000000000000051 deposit 5 cost 0 pledge 0 margin 0/1 account 1k00000000000000000000000000000000000000000000000000000012 retires never key 0000000000000000000000000000000000000000000000000000000000000007" ∷
    codes "10 next 00000000000000000000000000000000000000000000000000000051 cost 0 pledge 0 margin 0/1 account 1k00000000000000000000000000000000000000000000000000000012 key 0000000000000000000000000000000000000000000000000000000000000007" ∷
    codes "10 account k00000000000000000000000000000000000000000000000000000010 stake 0 deposit 2 rewards 67 pool none drep k00000000000000000000000000000000000000000000000000000030" ∷
    codes "10 account k00000000000000000000000000000000000000000000000000000011 stake 0 deposit 2 rewards 33 pool none drep k00000000000000000000000000000000000000000000000000000031" ∷
    codes "10 account k00000000000000000000000000000000000000000000000000000012 stake 0 deposit 2 rewards 5 pool none drep none" ∷
    codes "10 output 0000000000000000000000000000000000000000000000000000000000000001#4 1k00000000000000000000000000000000000000000000000000000001 20" ∷
    codes "10 snapshot mark 00000000000000000000000000000000000000000000000000000050 0" ∷
    codes "10 snapshot mark 00000000000000000000000000000000000000000000000000000051 0" ∷
    codes "10 snapshot mark 00000000000000000000000000000000000000000000000000000052 0" ∷
    codes "10 snapshot set 00000000000000000000000000000000000000000000000000000050 0" ∷
    codes "10 snapshot set 00000000000000000000000000000000000000000000000000000051 0" ∷
    codes "10 snapshot set 00000000000000000000000000000000000000000000000000000052 0" ∷
    codes "10 snapshot fees 20" ∷
    codes "10 pending none" ∷
    codes "10 pots outputs 20 deposits 26 rewards 105 fees 40 donations 0 treasury 100 reserves 709 supply 1000" ∷
    []) ≡ true
unfolding digits encode_with
keys_shared_at_a_genesis_of_version_eleven = refl

abbrev keys_shared_when_version_eleven_starts_input : List (ℕ × Reading)
keys_shared_when_version_eleven_starts_input =
    (1, Read (records.Genesis (record { network = 1; slot = 0; epoch_length = 10; version = (10, 11); supply = 1000; reserves = 624; treasury = 100; params = base_params; document = (h32 0x01); script = None; committee = (Some (record { threshold = (share 0 1); members = (((key 0x70), 100, (Some (key 0x71))) ∷ []) })); outputs = (((ref 0x01 2), (address_with 1 (key 0x01) None), 20, []) ∷ ((ref 0x01 3), (address_with 1 (key 0x01) None), 20, []) ∷ ((ref 0x01 4), (address_with 1 (key 0x01) None), 20, []) ∷ ((ref 0x01 5), (address_with 1 (key 0x01) None), 20, []) ∷ ((ref 0x01 6), (address_with 1 (key 0x01) None), 20, []) ∷ ((ref 0x01 7), (address_with 1 (key 0x01) None), 20, []) ∷ ((ref 0x01 8), (address_with 1 (key 0x01) None), 20, []) ∷ []); accounts = (((key 0x10), 2, 67, None, (Some (drep.Registered (key 0x30)))) ∷ ((key 0x11), 2, 33, None, (Some (drep.Registered (key 0x31)))) ∷ ((key 0x12), 2, 0, None, None) ∷ []); pools = ((record { pool = (pool 0x48); deposit = 5; cost = 0; pledge = 0; margin = (share 0 1); account = (account_on 1 (key 0x12)); key = (Some (h32 0x03)) }) ∷ (record { pool = (pool 0x49); deposit = 5; cost = 0; pledge = 0; margin = (share 0 1); account = (account_on 1 (key 0x12)); key = (Some (h32 0x04)) }) ∷ (record { pool = (pool 0x50); deposit = 5; cost = 0; pledge = 0; margin = (share 0 1); account = (account_on 1 (key 0x12)); key = (Some (h32 0x07)) }) ∷ (record { pool = (pool 0x51); deposit = 5; cost = 0; pledge = 0; margin = (share 0 1); account = (account_on 1 (key 0x12)); key = (Some (h32 0x07)) }) ∷ []); dreps = (((key 0x30), 5, 20) ∷ ((key 0x31), 5, 20) ∷ []) }))) ∷
    (2, Read (records.Tx (record (spend 0x02 10) { proposals = ((proposing 10 (account_on 1 (key 0x12)) (actions.HardForkInitiation None (11, 0))) ∷ []) }))) ∷
    (3, Read (records.Tx (record (spend 0x03 20) { votes = ((voting (voter.Drep (key 0x30)) (action 0x02 0) vote.Yes) ∷ []) }))) ∷
    (4, Read (records.Tx (record (spend 0x04 10) { certs = ((certs.PoolReg (pool 0x48) 0 0 (share 0 1) (account_on 1 (key 0x12)) (Some (h32 0x04))) ∷ (certs.PoolReg (pool 0x49) 0 0 (share 0 1) (account_on 1 (key 0x12)) (Some (h32 0x03))) ∷ (certs.PoolReg (pool 0x52) 0 0 (share 0 1) (account_on 1 (key 0x12)) (Some (h32 0x07))) ∷ (certs.PoolReg (pool 0x53) 0 0 (share 0 1) (account_on 1 (key 0x12)) (Some (h32 0x07))) ∷ []) }))) ∷
    (5, Read (records.Block 10 1)) ∷
    (6, Read (records.Block 20 1)) ∷
    (7, Read (records.Tx (record (spend 0x05 20) { certs = ((certs.PoolReg (pool 0x50) 0 0 (share 0 1) (account_on 1 (key 0x12)) (Some (h32 0x07))) ∷ []) }))) ∷
    (8, Read (records.Tx (record (spend 0x05 20) { certs = ((certs.PoolReg (pool 0x53) 0 0 (share 0 1) (account_on 1 (key 0x12)) (Some (h32 0x04))) ∷ []) }))) ∷
    (9, Read (records.Tx (record (spend 0x05 20) { certs = ((certs.PoolReg (pool 0x53) 0 0 (share 0 1) (account_on 1 (key 0x12)) (Some (h32 0x03))) ∷ []) }))) ∷
    (10, Read (records.Tx (record (spend 0x05 20) { certs = ((certs.PoolReg (pool 0x50) 0 0 (share 0 1) (account_on 1 (key 0x12)) (Some (h32 0x08))) ∷ (certs.PoolReg (pool 0x51) 0 0 (share 0 1) (account_on 1 (key 0x12)) (Some (h32 0x09))) ∷ []) }))) ∷
    (11, Read (records.Tx (record (spend 0x06 20) { certs = ((certs.PoolReg (pool 0x53) 0 0 (share 0 1) (account_on 1 (key 0x12)) (Some (h32 0x07))) ∷ []) }))) ∷
    (12, Read (records.Tx (record (spend 0x06 20) { certs = ((certs.PoolReg (pool 0x52) 0 0 (share 0 1) (account_on 1 (key 0x12)) None) ∷ []) }))) ∷
    (13, Read (records.Print what.State)) ∷
    (14, Read (records.Block 30 1)) ∷
    (15, Read (records.Tx (record (spend 0x07 15) { certs = ((certs.PoolReg (pool 0x54) 0 0 (share 0 1) (account_on 1 (key 0x12)) (Some (h32 0x07))) ∷ []) }))) ∷
    (16, Read (records.Tx (record (spend 0x07 20) { certs = ((certs.PoolReg (pool 0x53) 0 0 (share 0 1) (account_on 1 (key 0x12)) (Some (h32 0x07))) ∷ []) }))) ∷
    (17, Read (records.Tx (record (spend 0x08 20) { certs = ((certs.PoolReg (pool 0x51) 0 0 (share 0 1) (account_on 1 (key 0x12)) (Some (h32 0x08))) ∷ []) }))) ∷
    (18, Read (records.Print what.State)) ∷
    []

pub keys_shared_when_version_eleven_starts : says_all keys_shared_when_version_eleven_starts_input (
    codes "1 genesis outputs 140 deposits 36 rewards 100 fees 0 donations 0 treasury 100 reserves 624 supply 1000" ∷
    codes "2 accepted" ∷
    codes "3 accepted" ∷
    codes "4 accepted" ∷
    codes "5 epoch 1 frozen 3 dormant 0" ∷
    codes "5 stake k00000000000000000000000000000000000000000000000000000030 67" ∷
    codes "5 stake k00000000000000000000000000000000000000000000000000000031 33" ∷
    codes "5 pots outputs 80 deposits 56 rewards 100 fees 40 donations 0 treasury 100 reserves 624 supply 1000" ∷
    codes "5 block slot 10 epoch 1 counted 1 of 3" ∷
    codes "6 epoch 2 frozen 3 dormant 1" ∷
    codes "6 stake k00000000000000000000000000000000000000000000000000000030 67" ∷
    codes "6 stake k00000000000000000000000000000000000000000000000000000031 33" ∷
    codes "6 tally 0000000000000000000000000000000000000000000000000000000000000002#0 HardForkInitiation committee 0/1 need 0/1 drep 67/100 need 67/100 pool 0/0 need 0/1 ratified" ∷
    codes "6 removed 0000000000000000000000000000000000000000000000000000000000000002#0 enacted refund 10 1k00000000000000000000000000000000000000000000000000000012" ∷
    codes "6 pots outputs 80 deposits 46 rewards 110 fees 40 donations 0 treasury 100 reserves 624 supply 1000" ∷
    codes "6 block slot 20 epoch 2 counted 1 of 3" ∷
    codes "7 refused 73 PoolKeyInUse at 0" ∷
    codes "8 refused 73 PoolKeyInUse at 0" ∷
    codes "9 refused 73 PoolKeyInUse at 0" ∷
    codes "10 accepted" ∷
    codes "11 refused 73 PoolKeyInUse at 0" ∷
    codes "12 accepted" ∷
    codes "13 now slot 20 epoch 2 version 11.0 dormant 1" ∷
    codes "13 constitution 0000000000000000000000000000000000000000000000000000000000000001 none" ∷
    codes "13 committee threshold 0/1" ∷
    codes "13 member k00000000000000000000000000000000000000000000000000000070 term 100 hot k00000000000000000000000000000000000000000000000000000071" ∷
    codes "13 enacted committee none constitution none hardfork 0000000000000000000000000000000000000000000000000000000000000002#0 parameters none" ∷
    codes "13 param maxBlockBodySize 90112" ∷
    codes "13 param maxTxSize 16384" ∷
    codes "13 param maxBlockHeaderSize 1100" ∷
    codes "13 param maxValueSize 5000" ∷
    codes "13 param maxTxExUnits 1000 1000" ∷
    codes "13 param maxBlockExUnits 1000 1000" ∷
    codes "13 param maxCollateralInputs 3" ∷
    codes "13 param minFeeA 0" ∷
    codes "13 param minFeeB 0" ∷
    codes "13 param keyDeposit 2" ∷
    codes "13 param poolDeposit 5" ∷
    codes "13 param rho 0/1" ∷
    codes "13 param tau 0/1" ∷
    codes "13 param minPoolCost 0" ∷
    codes "13 param coinsPerUTxOByte 0" ∷
    codes "13 param prices 0/1 0/1" ∷
    codes "13 param minFeeRefScriptCostPerByte 15/1" ∷
    codes "13 param a0 0/1" ∷
    codes "13 param eMax 18" ∷
    codes "13 param nOpt 500" ∷
    codes "13 param costModels 0000000000000000000000000000000000000000000000000000000000000000" ∷
    codes "13 param collateralPercentage 150" ∷
    codes "13 param poolVotingThresholds 0/1 0/1 0/1 0/1 0/1" ∷
    codes "13 param drepVotingThresholds 67/100 67/100 67/100 67/100 67/100 67/100 67/100 67/100 67/100 67/100" ∷
    codes "13 param govActionLifetime 2" ∷
    codes "13 param govActionDeposit 10" ∷
    codes "13 param drepDeposit 5" ∷
    codes "13 param drepActivity 20" ∷
    codes "13 param committeeMinSize 0" ∷
    codes "13 param committeeMaxTermLength 100" ∷
    codes "13 drep k00000000000000000000000000000000000000000000000000000030 deposit 5 expiry 20" ∷
    codes "13 drep k00000000000000000000000000000000000000000000000000000031 deposit 5 expiry 20" ∷
    codes "13 pool 00000000000000000000000000000000000000000000000000000048 deposit 5 cost 0 pledge 0 margin 0/1 account 1k00000000000000000000000000000000000000000000000000000012 retires never key 0000000000000000000000000000000000000000000000000000000000000004" ∷
    codes "13 pool 00000000000000000000000000000000000000000000000000000049 deposit 5 cost 0 pledge 0 margin 0/1 account 1k00000000000000000000000000000000000000000000000000000012 retires never key 0000000000000000000000000000000000000000000000000000000000000003" ∷
    codes "13 pool 00000000000000000000000000000000000000000000000000000050 deposit 5 cost 0 pledge 0 margin 0/1 account 1k00000000000000000000000000000000000000000000000000000012 retires never key 0000000000000000000000000000000000000000000000000000000000000007" ∷
    codes "13 next 00000000000000000000000000000000000000000000000000000050 cost 0 pledge 0 margin 0/1 account 1k00000000000000000000000000000000000000000000000000000012 key 0000000000000000000000000000000000000000000000000000000000000008" ∷
    codes "13 pool 00000000000000000000000000000000000000000000000000000051 deposit 5 cost 0 pledge 0 margin 0/1 account 1k00000000000000000000000000000000000000000000000000000012 retires never key 0000000000000000000000000000000000000000000000000000000000000007" ∷
    codes "13 next 00000000000000000000000000000000000000000000000000000051 cost 0 pledge 0 margin 0/1 account 1k00000000000000000000000000000000000000000000000000000012 key 0000000000000000000000000000000000000000000000000000000000000009" ∷
    codes "13 pool 00000000000000000000000000000000000000000000000000000052 deposit 5 cost 0 pledge 0 margin 0/1 account 1k00000000000000000000000000000000000000000000000000000012 retires never key 0000000000000000000000000000000000000000000000000000000000000007" ∷
    codes "13 next 00000000000000000000000000000000000000000000000000000052 cost 0 pledge 0 margin 0/1 account 1k00000000000000000000000000000000000000000000000000000012" ∷
    codes "13 pool 00000000000000000000000000000000000000000000000000000053 deposit 5 cost 0 pledge 0 margin 0/1 account 1k00000000000000000000000000000000000000000000000000000012 retires never key 0000000000000000000000000000000000000000000000000000000000000007" ∷
    codes "13 account k00000000000000000000000000000000000000000000000000000010 stake 0 deposit 2 rewards 67 pool none drep k00000000000000000000000000000000000000000000000000000030" ∷
    codes "13 account k00000000000000000000000000000000000000000000000000000011 stake 0 deposit 2 rewards 33 pool none drep k00000000000000000000000000000000000000000000000000000031" ∷
    codes "13 account k00000000000000000000000000000000000000000000000000000012 stake 0 deposit 2 rewards 10 pool none drep none" ∷
    codes "13 output 0000000000000000000000000000000000000000000000000000000000000001#7 1k00000000000000000000000000000000000000000000000000000001 20" ∷
    codes "13 output 0000000000000000000000000000000000000000000000000000000000000001#8 1k00000000000000000000000000000000000000000000000000000001 20" ∷
    codes "13 snapshot mark 00000000000000000000000000000000000000000000000000000048 0" ∷
    codes "13 snapshot mark 00000000000000000000000000000000000000000000000000000049 0" ∷
    codes "13 snapshot mark 00000000000000000000000000000000000000000000000000000050 0" ∷
    codes "13 snapshot mark 00000000000000000000000000000000000000000000000000000051 0" ∷
    codes "13 snapshot mark 00000000000000000000000000000000000000000000000000000052 0" ∷
    codes "13 snapshot mark 00000000000000000000000000000000000000000000000000000053 0" ∷
    codes "13 snapshot set 00000000000000000000000000000000000000000000000000000048 0" ∷
    codes "13 snapshot set 00000000000000000000000000000000000000000000000000000049 0" ∷
    codes "13 snapshot set 00000000000000000000000000000000000000000000000000000050 0" ∷
    codes "13 snapshot set 00000000000000000000000000000000000000000000000000000051 0" ∷
    codes "13 snapshot set 00000000000000000000000000000000000000000000000000000052 0" ∷
    codes "13 snapshot set 00000000000000000000000000000000000000000000000000000053 0" ∷
    codes "13 snapshot go 00000000000000000000000000000000000000000000000000000048 0" ∷
    codes "13 snapshot go 00000000000000000000000000000000000000000000000000000049 0" ∷
    codes "13 snapshot go 00000000000000000000000000000000000000000000000000000050 0" ∷
    codes "13 snapshot go 00000000000000000000000000000000000000000000000000000051 0" ∷
    codes "13 snapshot fees 40" ∷
    codes "13 pending none" ∷
    codes "13 pots outputs 40 deposits 46 rewards 110 fees 80 donations 0 treasury 100 reserves 624 supply 1000" ∷
    codes "14 epoch 3 frozen 3 dormant 2" ∷
    codes "14 stake k00000000000000000000000000000000000000000000000000000030 67" ∷
    codes "14 stake k00000000000000000000000000000000000000000000000000000031 33" ∷
    codes "14 pots outputs 40 deposits 46 rewards 110 fees 80 donations 0 treasury 100 reserves 624 supply 1000" ∷
    codes "14 block slot 30 epoch 3 counted 1 of 3" ∷
    codes "15 refused 73 PoolKeyInUse at 0" ∷
    codes "16 accepted" ∷
    codes "17 refused 73 PoolKeyInUse at 0" ∷
    codes "18 now slot 30 epoch 3 version 11.0 dormant 2" ∷
    codes "18 constitution 0000000000000000000000000000000000000000000000000000000000000001 none" ∷
    codes "18 committee threshold 0/1" ∷
    codes "18 member k00000000000000000000000000000000000000000000000000000070 term 100 hot k00000000000000000000000000000000000000000000000000000071" ∷
    codes "18 enacted committee none constitution none hardfork 0000000000000000000000000000000000000000000000000000000000000002#0 parameters none" ∷
    codes "18 param maxBlockBodySize 90112" ∷
    codes "18 param maxTxSize 16384" ∷
    codes "18 param maxBlockHeaderSize 1100" ∷
    codes "18 param maxValueSize 5000" ∷
    codes "18 param maxTxExUnits 1000 1000" ∷
    codes "18 param maxBlockExUnits 1000 1000" ∷
    codes "18 param maxCollateralInputs 3" ∷
    codes "18 param minFeeA 0" ∷
    codes "18 param minFeeB 0" ∷
    codes "18 param keyDeposit 2" ∷
    codes "18 param poolDeposit 5" ∷
    codes "18 param rho 0/1" ∷
    codes "18 param tau 0/1" ∷
    codes "18 param minPoolCost 0" ∷
    codes "18 param coinsPerUTxOByte 0" ∷
    codes "18 param prices 0/1 0/1" ∷
    codes "18 param minFeeRefScriptCostPerByte 15/1" ∷
    codes "18 param a0 0/1" ∷
    codes "18 param eMax 18" ∷
    codes "18 param nOpt 500" ∷
    codes "18 param costModels 0000000000000000000000000000000000000000000000000000000000000000" ∷
    codes "18 param collateralPercentage 150" ∷
    codes "18 param poolVotingThresholds 0/1 0/1 0/1 0/1 0/1" ∷
    codes "18 param drepVotingThresholds 67/100 67/100 67/100 67/100 67/100 67/100 67/100 67/100 67/100 67/100" ∷
    codes "18 param govActionLifetime 2" ∷
    codes "18 param govActionDeposit 10" ∷
    codes "18 param drepDeposit 5" ∷
    codes "18 param drepActivity 20" ∷
    codes "18 param committeeMinSize 0" ∷
    codes "18 param committeeMaxTermLength 100" ∷
    codes "18 drep k00000000000000000000000000000000000000000000000000000030 deposit 5 expiry 20" ∷
    codes "18 drep k00000000000000000000000000000000000000000000000000000031 deposit 5 expiry 20" ∷
    codes "18 pool 00000000000000000000000000000000000000000000000000000048 deposit 5 cost 0 pledge 0 margin 0/1 account 1k00000000000000000000000000000000000000000000000000000012 retires never key 0000000000000000000000000000000000000000000000000000000000000004" ∷
    codes "18 pool 00000000000000000000000000000000000000000000000000000049 deposit 5 cost 0 pledge 0 margin 0/1 account 1k00000000000000000000000000000000000000000000000000000012 retires never key 0000000000000000000000000000000000000000000000000000000000000003" ∷
    codes "18 pool 00000000000000000000000000000000000000000000000000000050 deposit 5 cost 0 pledge 0 margin 0/1 account 1k00000000000000000000000000000000000000000000000000000012 retires never key 0000000000000000000000000000000000000000000000000000000000000008" ∷
    codes "18 pool 00000000000000000000000000000000000000000000000000000051 deposit 5 cost 0 pledge 0 margin 0/1 account 1k00000000000000000000000000000000000000000000000000000012 retires never key 0000000000000000000000000000000000000000000000000000000000000009" ∷
    codes "18 pool 00000000000000000000000000000000000000000000000000000052 deposit 5 cost 0 pledge 0 margin 0/1 account 1k00000000000000000000000000000000000000000000000000000012 retires never" ∷
    codes "18 pool 00000000000000000000000000000000000000000000000000000053 deposit 5 cost 0 pledge 0 margin 0/1 account 1k00000000000000000000000000000000000000000000000000000012 retires never key 0000000000000000000000000000000000000000000000000000000000000007" ∷
    codes "18 next 00000000000000000000000000000000000000000000000000000053 cost 0 pledge 0 margin 0/1 account 1k00000000000000000000000000000000000000000000000000000012 key 0000000000000000000000000000000000000000000000000000000000000007" ∷
    codes "18 account k00000000000000000000000000000000000000000000000000000010 stake 0 deposit 2 rewards 67 pool none drep k00000000000000000000000000000000000000000000000000000030" ∷
    codes "18 account k00000000000000000000000000000000000000000000000000000011 stake 0 deposit 2 rewards 33 pool none drep k00000000000000000000000000000000000000000000000000000031" ∷
    codes "18 account k00000000000000000000000000000000000000000000000000000012 stake 0 deposit 2 rewards 10 pool none drep none" ∷
    codes "18 output 0000000000000000000000000000000000000000000000000000000000000001#8 1k00000000000000000000000000000000000000000000000000000001 20" ∷
    codes "18 snapshot mark 00000000000000000000000000000000000000000000000000000048 0" ∷
    codes "18 snapshot mark 00000000000000000000000000000000000000000000000000000049 0" ∷
    codes "18 snapshot mark 00000000000000000000000000000000000000000000000000000050 0" ∷
    codes "18 snapshot mark 00000000000000000000000000000000000000000000000000000051 0" ∷
    codes "18 snapshot mark 00000000000000000000000000000000000000000000000000000052 0" ∷
    codes "18 snapshot mark 00000000000000000000000000000000000000000000000000000053 0" ∷
    codes "18 snapshot set 00000000000000000000000000000000000000000000000000000048 0" ∷
    codes "18 snapshot set 00000000000000000000000000000000000000000000000000000049 0" ∷
    codes "18 snapshot set 00000000000000000000000000000000000000000000000000000050 0" ∷
    codes "18 snapshot set 00000000000000000000000000000000000000000000000000000051 0" ∷
    codes "18 snapshot set 00000000000000000000000000000000000000000000000000000052 0" ∷
    codes "18 snapshot set 00000000000000000000000000000000000000000000000000000053 0" ∷
    codes "18 snapshot go 00000000000000000000000000000000000000000000000000000048 0" ∷
    codes "18 snapshot go 00000000000000000000000000000000000000000000000000000049 0" ∷
    codes "18 snapshot go 00000000000000000000000000000000000000000000000000000050 0" ∷
    codes "18 snapshot go 00000000000000000000000000000000000000000000000000000051 0" ∷
    codes "18 snapshot go 00000000000000000000000000000000000000000000000000000052 0" ∷
    codes "18 snapshot go 00000000000000000000000000000000000000000000000000000053 0" ∷
    codes "18 snapshot fees 80" ∷
    codes "18 pending none" ∷
    codes "18 pots outputs 20 deposits 46 rewards 110 fees 100 donations 0 treasury 100 reserves 624 supply 1000" ∷
    []) ≡ true
unfolding digits encode_with
keys_shared_when_version_eleven_starts = refl

abbrev keys_after_the_other_rules_input : List (ℕ × Reading)
keys_after_the_other_rules_input =
    (1, Read (records.Genesis (record { network = 1; slot = 0; epoch_length = 10; version = (11, 0); supply = 1000; reserves = 719; treasury = 100; params = (record base_params { min_pool_cost = 4 }); document = (h32 0x01); script = None; committee = (Some (record { threshold = (share 0 1); members = (((key 0x70), 100, (Some (key 0x71))) ∷ []) })); outputs = (((ref 0x01 2), (address_with 1 (key 0x01) None), 20, []) ∷ ((ref 0x01 3), (address_with 1 (key 0x01) None), 20, []) ∷ ((ref 0x01 4), (address_with 1 (key 0x01) None), 20, []) ∷ []); accounts = (((key 0x10), 2, 67, None, (Some (drep.Registered (key 0x30)))) ∷ ((key 0x11), 2, 33, None, (Some (drep.Registered (key 0x31)))) ∷ ((key 0x12), 2, 0, None, None) ∷ []); pools = ((record { pool = (pool 0x50); deposit = 5; cost = 0; pledge = 0; margin = (share 0 1); account = (account_on 1 (key 0x12)); key = (Some (h32 0x07)) }) ∷ []); dreps = (((key 0x30), 5, 20) ∷ ((key 0x31), 5, 20) ∷ []) }))) ∷
    (2, Read (records.Tx (record (spend 0x02 15) { certs = ((certs.PoolReg (pool 0x51) 3 0 (share 0 1) (account_on 0 (key 0x12)) (Some (h32 0x07))) ∷ []) }))) ∷
    (3, Read (records.Tx (record (spend 0x02 15) { certs = ((certs.PoolReg (pool 0x51) 4 0 (share 0 1) (account_on 0 (key 0x12)) (Some (h32 0x07))) ∷ []) }))) ∷
    (4, Read (records.Tx (record (spend 0x02 15) { certs = ((certs.PoolReg (pool 0x51) 4 0 (share 0 1) (account_on 1 (key 0x12)) (Some (h32 0x07))) ∷ []) }))) ∷
    (5, Read (records.Tx (record (spend 0x02 10) { certs = ((certs.PoolReg (pool 0x51) 4 0 (share 0 1) (account_on 1 (key 0x12)) (Some (h32 0x08))) ∷ (certs.PoolReg (pool 0x52) 3 0 (share 0 1) (account_on 1 (key 0x12)) (Some (h32 0x07))) ∷ []) }))) ∷
    (6, Read (records.Tx (record (spend 0x02 10) { certs = ((certs.PoolReg (pool 0x51) 4 0 (share 0 1) (account_on 1 (key 0x12)) (Some (h32 0x07))) ∷ (certs.PoolReg (pool 0x52) 3 0 (share 0 1) (account_on 1 (key 0x12)) (Some (h32 0x06))) ∷ []) }))) ∷
    (7, Read (records.Tx (record (spend 0x02 0) { certs = ((certs.PoolReg (pool 0x51) 4 0 (share 0 1) (account_on 1 (key 0x12)) (Some (h32 0x07))) ∷ []); proposals = ((proposing 9 (account_on 1 (key 0x12)) (actions.Info)) ∷ []) }))) ∷
    (8, Read (records.Tx (record (spend 0x02 0) { withdrawals = (((account_on 1 (key 0x10)), 66) ∷ []); certs = ((certs.PoolReg (pool 0x51) 4 0 (share 0 1) (account_on 1 (key 0x12)) (Some (h32 0x07))) ∷ []) }))) ∷
    (9, Read (records.Tx (record (spend 0x02 12) { scripts = scripts.Failed; collateral = ((ref 0x01 3) ∷ []); certs = ((certs.PoolReg (pool 0x51) 4 0 (share 0 1) (account_on 1 (key 0x12)) (Some (h32 0x07))) ∷ []) }))) ∷
    (10, Read (records.Tx (record (spend 0x04 15) { certs = ((certs.PoolReg (pool 0x51) 4 0 (share 0 1) (account_on 1 (key 0x12)) (Some (h32 0x08))) ∷ []) }))) ∷
    (11, Read (records.Print what.State)) ∷
    []

pub keys_after_the_other_rules : says_all keys_after_the_other_rules_input (
    codes "1 genesis outputs 60 deposits 21 rewards 100 fees 0 donations 0 treasury 100 reserves 719 supply 1000" ∷
    codes "2 refused 68 PoolCostTooLow at 0 min 4" ∷
    codes "3 refused 69 PoolWrongNetwork at 0" ∷
    codes "4 refused 73 PoolKeyInUse at 0" ∷
    codes "5 refused 68 PoolCostTooLow at 1 min 4" ∷
    codes "6 refused 73 PoolKeyInUse at 0" ∷
    codes "7 refused 73 PoolKeyInUse at 0" ∷
    codes "8 refused 53 WithdrawalNotWhole at 0 balance 67" ∷
    codes "9 accepted failed-scripts" ∷
    codes "10 accepted" ∷
    codes "11 now slot 0 epoch 0 version 11.0 dormant 0" ∷
    codes "11 constitution 0000000000000000000000000000000000000000000000000000000000000001 none" ∷
    codes "11 committee threshold 0/1" ∷
    codes "11 member k00000000000000000000000000000000000000000000000000000070 term 100 hot k00000000000000000000000000000000000000000000000000000071" ∷
    codes "11 enacted committee none constitution none hardfork none parameters none" ∷
    codes "11 param maxBlockBodySize 90112" ∷
    codes "11 param maxTxSize 16384" ∷
    codes "11 param maxBlockHeaderSize 1100" ∷
    codes "11 param maxValueSize 5000" ∷
    codes "11 param maxTxExUnits 1000 1000" ∷
    codes "11 param maxBlockExUnits 1000 1000" ∷
    codes "11 param maxCollateralInputs 3" ∷
    codes "11 param minFeeA 0" ∷
    codes "11 param minFeeB 0" ∷
    codes "11 param keyDeposit 2" ∷
    codes "11 param poolDeposit 5" ∷
    codes "11 param rho 0/1" ∷
    codes "11 param tau 0/1" ∷
    codes "11 param minPoolCost 4" ∷
    codes "11 param coinsPerUTxOByte 0" ∷
    codes "11 param prices 0/1 0/1" ∷
    codes "11 param minFeeRefScriptCostPerByte 15/1" ∷
    codes "11 param a0 0/1" ∷
    codes "11 param eMax 18" ∷
    codes "11 param nOpt 500" ∷
    codes "11 param costModels 0000000000000000000000000000000000000000000000000000000000000000" ∷
    codes "11 param collateralPercentage 150" ∷
    codes "11 param poolVotingThresholds 0/1 0/1 0/1 0/1 0/1" ∷
    codes "11 param drepVotingThresholds 67/100 67/100 67/100 67/100 67/100 67/100 67/100 67/100 67/100 67/100" ∷
    codes "11 param govActionLifetime 2" ∷
    codes "11 param govActionDeposit 10" ∷
    codes "11 param drepDeposit 5" ∷
    codes "11 param drepActivity 20" ∷
    codes "11 param committeeMinSize 0" ∷
    codes "11 param committeeMaxTermLength 100" ∷
    codes "11 drep k00000000000000000000000000000000000000000000000000000030 deposit 5 expiry 20" ∷
    codes "11 drep k00000000000000000000000000000000000000000000000000000031 deposit 5 expiry 20" ∷
    codes "11 pool 00000000000000000000000000000000000000000000000000000050 deposit 5 cost 0 pledge 0 margin 0/1 account 1k00000000000000000000000000000000000000000000000000000012 retires never key 0000000000000000000000000000000000000000000000000000000000000007" ∷
    codes "11 pool 00000000000000000000000000000000000000000000000000000051 deposit 5 cost 4 pledge 0 margin 0/1 account 1k00000000000000000000000000000000000000000000000000000012 retires never key 0000000000000000000000000000000000000000000000000000000000000008" ∷
    codes "11 account k00000000000000000000000000000000000000000000000000000010 stake 0 deposit 2 rewards 67 pool none drep k00000000000000000000000000000000000000000000000000000030" ∷
    codes "11 account k00000000000000000000000000000000000000000000000000000011 stake 0 deposit 2 rewards 33 pool none drep k00000000000000000000000000000000000000000000000000000031" ∷
    codes "11 account k00000000000000000000000000000000000000000000000000000012 stake 0 deposit 2 rewards 0 pool none drep none" ∷
    codes "11 output 0000000000000000000000000000000000000000000000000000000000000001#2 1k00000000000000000000000000000000000000000000000000000001 20" ∷
    codes "11 snapshot mark 00000000000000000000000000000000000000000000000000000050 0" ∷
    codes "11 snapshot fees 0" ∷
    codes "11 pending none" ∷
    codes "11 pots outputs 20 deposits 26 rewards 100 fees 35 donations 0 treasury 100 reserves 719 supply 1000" ∷
    []) ≡ true
unfolding digits encode_with
keys_after_the_other_rules = refl

abbrev forms_of_pool_keys_input : List (ℕ × Reading)
forms_of_pool_keys_input =
    (1, Read (records.Genesis (record { network = 1; slot = 0; epoch_length = 10; version = (11, 0); supply = 1000; reserves = 739; treasury = 100; params = base_params; document = (h32 0x01); script = None; committee = (Some (record { threshold = (share 0 1); members = (((key 0x70), 100, (Some (key 0x71))) ∷ []) })); outputs = (((ref 0x01 2), (address_with 1 (key 0x01) None), 20, []) ∷ ((ref 0x01 3), (address_with 1 (key 0x01) None), 20, []) ∷ []); accounts = (((key 0x10), 2, 67, None, (Some (drep.Registered (key 0x30)))) ∷ ((key 0x11), 2, 33, None, (Some (drep.Registered (key 0x31)))) ∷ ((key 0x12), 2, 0, None, None) ∷ []); pools = ((record { pool = (pool 0x50); deposit = 5; cost = 0; pledge = 0; margin = (share 0 1); account = (account_on 1 (key 0x12)); key = (Some (h32 0x07)) }) ∷ []); dreps = (((key 0x30), 5, 20) ∷ ((key 0x31), 5, 20) ∷ []) }))) ∷
    (2, Malformed field.Certs (Some 0)) ∷
    (3, Malformed field.Certs (Some 0)) ∷
    (4, Malformed field.Certs (Some 1)) ∷
    (5, Malformed field.Certs (Some 1)) ∷
    (6, Read (records.Tx (record (spend 0x02 10) { certs = ((certs.PoolReg (pool 0x51) 0 0 (share 0 1) (account_on 1 (key 0x12)) (Some (h32 0x08))) ∷ (certs.PoolReg (pool 0x52) 0 0 (share 0 1) (account_on 1 (key 0x12)) None) ∷ []) }))) ∷
    (7, Read (records.Tx (record (spend 0x03 20) { certs = ((certs.PoolRetire (pool 0x52) 1) ∷ []) }))) ∷
    (8, Malformed field.Pools (Some 0)) ∷
    (9, Malformed field.Pools (Some 1)) ∷
    (10, Malformed field.Pools (Some 1)) ∷
    (11, Read (records.Genesis (record { network = 1; slot = 0; epoch_length = 10; version = (11, 0); supply = 1000; reserves = 779; treasury = 100; params = base_params; document = (h32 0x01); script = None; committee = (Some (record { threshold = (share 0 1); members = (((key 0x70), 100, (Some (key 0x71))) ∷ []) })); outputs = []; accounts = (((key 0x10), 2, 67, None, (Some (drep.Registered (key 0x30)))) ∷ ((key 0x11), 2, 33, None, (Some (drep.Registered (key 0x31)))) ∷ ((key 0x12), 2, 0, None, None) ∷ []); pools = ((record { pool = (pool 0x50); deposit = 5; cost = 0; pledge = 0; margin = (share 0 1); account = (account_on 1 (key 0x12)); key = (Some (h32 0x07)) }) ∷ (record { pool = (pool 0x51); deposit = 5; cost = 0; pledge = 0; margin = (share 0 1); account = (account_on 1 (key 0x12)); key = None }) ∷ []); dreps = (((key 0x30), 5, 20) ∷ ((key 0x31), 5, 20) ∷ []) }))) ∷
    (12, Read (records.Print what.State)) ∷
    []

pub forms_of_pool_keys : says_all forms_of_pool_keys_input (
    codes "1 genesis outputs 40 deposits 21 rewards 100 fees 0 donations 0 treasury 100 reserves 739 supply 1000" ∷
    codes "2 refused 1 Malformed certs[0]" ∷
    codes "3 refused 1 Malformed certs[0]" ∷
    codes "4 refused 1 Malformed certs[1]" ∷
    codes "5 refused 1 Malformed certs[1]" ∷
    codes "6 accepted" ∷
    codes "7 accepted" ∷
    codes "8 refused 1 Malformed pools[0]" ∷
    codes "9 refused 1 Malformed pools[1]" ∷
    codes "10 refused 1 Malformed pools[1]" ∷
    codes "11 refused 3 GenesisAgain" ∷
    codes "12 now slot 0 epoch 0 version 11.0 dormant 0" ∷
    codes "12 constitution 0000000000000000000000000000000000000000000000000000000000000001 none" ∷
    codes "12 committee threshold 0/1" ∷
    codes "12 member k00000000000000000000000000000000000000000000000000000070 term 100 hot k00000000000000000000000000000000000000000000000000000071" ∷
    codes "12 enacted committee none constitution none hardfork none parameters none" ∷
    codes "12 param maxBlockBodySize 90112" ∷
    codes "12 param maxTxSize 16384" ∷
    codes "12 param maxBlockHeaderSize 1100" ∷
    codes "12 param maxValueSize 5000" ∷
    codes "12 param maxTxExUnits 1000 1000" ∷
    codes "12 param maxBlockExUnits 1000 1000" ∷
    codes "12 param maxCollateralInputs 3" ∷
    codes "12 param minFeeA 0" ∷
    codes "12 param minFeeB 0" ∷
    codes "12 param keyDeposit 2" ∷
    codes "12 param poolDeposit 5" ∷
    codes "12 param rho 0/1" ∷
    codes "12 param tau 0/1" ∷
    codes "12 param minPoolCost 0" ∷
    codes "12 param coinsPerUTxOByte 0" ∷
    codes "12 param prices 0/1 0/1" ∷
    codes "12 param minFeeRefScriptCostPerByte 15/1" ∷
    codes "12 param a0 0/1" ∷
    codes "12 param eMax 18" ∷
    codes "12 param nOpt 500" ∷
    codes "12 param costModels 0000000000000000000000000000000000000000000000000000000000000000" ∷
    codes "12 param collateralPercentage 150" ∷
    codes "12 param poolVotingThresholds 0/1 0/1 0/1 0/1 0/1" ∷
    codes "12 param drepVotingThresholds 67/100 67/100 67/100 67/100 67/100 67/100 67/100 67/100 67/100 67/100" ∷
    codes "12 param govActionLifetime 2" ∷
    codes "12 param govActionDeposit 10" ∷
    codes "12 param drepDeposit 5" ∷
    codes "12 param drepActivity 20" ∷
    codes "12 param committeeMinSize 0" ∷
    codes "12 param committeeMaxTermLength 100" ∷
    codes "12 drep k00000000000000000000000000000000000000000000000000000030 deposit 5 expiry 20" ∷
    codes "12 drep k00000000000000000000000000000000000000000000000000000031 deposit 5 expiry 20" ∷
    codes "12 pool 00000000000000000000000000000000000000000000000000000050 deposit 5 cost 0 pledge 0 margin 0/1 account 1k00000000000000000000000000000000000000000000000000000012 retires never key 0000000000000000000000000000000000000000000000000000000000000007" ∷
    codes "12 pool 00000000000000000000000000000000000000000000000000000051 deposit 5 cost 0 pledge 0 margin 0/1 account 1k00000000000000000000000000000000000000000000000000000012 retires never key 0000000000000000000000000000000000000000000000000000000000000008" ∷
    codes "12 pool 00000000000000000000000000000000000000000000000000000052 deposit 5 cost 0 pledge 0 margin 0/1 account 1k00000000000000000000000000000000000000000000000000000012 retires 1" ∷
    codes "12 account k00000000000000000000000000000000000000000000000000000010 stake 0 deposit 2 rewards 67 pool none drep k00000000000000000000000000000000000000000000000000000030" ∷
    codes "12 account k00000000000000000000000000000000000000000000000000000011 stake 0 deposit 2 rewards 33 pool none drep k00000000000000000000000000000000000000000000000000000031" ∷
    codes "12 account k00000000000000000000000000000000000000000000000000000012 stake 0 deposit 2 rewards 0 pool none drep none" ∷
    codes "12 snapshot mark 00000000000000000000000000000000000000000000000000000050 0" ∷
    codes "12 snapshot fees 0" ∷
    codes "12 pending none" ∷
    codes "12 pots outputs 0 deposits 31 rewards 100 fees 30 donations 0 treasury 100 reserves 739 supply 1000" ∷
    []) ≡ true
unfolding digits encode_with
forms_of_pool_keys = refl
