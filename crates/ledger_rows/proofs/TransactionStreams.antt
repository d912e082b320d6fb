-- Worked rows of whole streams: what one transaction does. Made by tests/made/rows_of, from the streams of these names in tests/streams/whole.
use Rattle.std.specs.Prelude.{ℕ, ◌≡◌, List, [], ◌∷◌, Some, None, true, codes, refl}
use Rattle.std.specs.Fmt.{digits}
use Rattle.hex.specs.Hex.{encode_with}
use Rattle.gov_actions.specs.declared.action.Action.TheVariants as actions
use Rattle.gov_actions.specs.declared.action.Vote.TheVariants as vote
use Rattle.gov_ids.specs.declared.Drep.TheVariants as drep
use Rattle.gov_ids.specs.declared.Voter.TheVariants as voter
use Rattle.tx_records.specs.declared.record.Record.TheVariants as records
use Rattle.tx_records.specs.declared.record.What.TheVariants as what
use Rattle.tx_records.specs.declared.cert.Cert.TheVariants as certs
use Rattle.tx_records.specs.declared.tx.Scripts.TheVariants as scripts
use Rattle.tx_records.specs.declared.record.Reading.{Reading}
use Rattle.tx_records.specs.declared.record.Reading.TheVariants.{Read}
use Rattle.ledger_rows.proofs.Base.{h32, key, script, pool, account_on, address_with, ref, action, share, base_params, spend, paying, proposing, voting, says_all}

abbrev collateral_at_its_least_input : List (ℕ × Reading)
collateral_at_its_least_input =
    (1, Read (records.Genesis (record { network = 1; slot = 0; epoch_length = 10; version = (10, 0); supply = 1000; reserves = 521; treasury = 100; params = base_params; document = (h32 0x01); script = None; committee = (Some (record { threshold = (share 0 1); members = (((key 0x70), 100, (Some (key 0x71))) ∷ []) })); outputs = (((ref 0x01 2), (address_with 1 (key 0x01) None), 20, []) ∷ ((ref 0x01 3), (address_with 1 (key 0x01) None), 20, []) ∷ ((ref 0x01 4), (address_with 1 (key 0x01) None), 20, []) ∷ ((ref 0x01 5), (address_with 1 (key 0x01) None), 20, []) ∷ ((ref 0x01 6), (address_with 1 (key 0x01) None), 20, []) ∷ ((ref 0x01 20), (address_with 1 (script 0x01) None), 9, []) ∷ ((ref 0x01 21), (address_with 1 (key 0x01) None), 149, []) ∷ []); accounts = (((key 0x10), 2, 67, None, (Some (drep.Registered (key 0x30)))) ∷ ((key 0x11), 2, 33, None, (Some (drep.Registered (key 0x31)))) ∷ ((key 0x12), 2, 0, None, None) ∷ []); pools = ((record { pool = (pool 0x50); deposit = 5; cost = 0; pledge = 0; margin = (share 0 1); account = (account_on 1 (key 0x12)); key = None }) ∷ []); dreps = (((key 0x30), 5, 20) ∷ ((key 0x31), 5, 20) ∷ []) }))) ∷
    (2, Read (records.Tx (record (spend 0x02 100) { scripts = scripts.Passed; collateral = ((ref 0x01 21) ∷ []) }))) ∷
    (3, Read (records.Tx (record (spend 0x02 0) { outputs = ((paying (address_with 1 (key 0x01) None) 20 0) ∷ []); scripts = scripts.Passed; collateral = ((ref 0x01 3) ∷ []); collateral_return = (Some (paying (address_with 1 (key 0x01) None) 21 0)) }))) ∷
    (4, Read (records.Tx (record (spend 0x02 0) { outputs = ((paying (address_with 1 (key 0x01) None) 20 0) ∷ []); scripts = scripts.Passed; collateral = ((ref 0x01 3) ∷ []); collateral_return = (Some (paying (address_with 1 (key 0x01) None) 20 0)) }))) ∷
    (5, Read (records.Tx (record (spend 0x03 20) { collateral = ((ref 0x01 20) ∷ []) }))) ∷
    (6, Read (records.Tx (record (spend 0x04 0) { scripts = scripts.Failed; collateral = ((ref 0x01 4) ∷ []); collateral_return = (Some (paying (address_with 1 (key 0x01) None) 20 0)) }))) ∷
    (7, Read (records.Tx (record (spend 0x05 0) { scripts = scripts.Failed; collateral = ((ref 0x01 20) ∷ []) }))) ∷
    (8, Read (records.Print what.State)) ∷
    []

pub collateral_at_its_least : says_all collateral_at_its_least_input (
    codes "1 genesis outputs 258 deposits 21 rewards 100 fees 0 donations 0 treasury 100 reserves 521 supply 1000" ∷
    codes "2 refused 44 CollateralTooSmall have 149" ∷
    codes "3 refused 44 CollateralTooSmall have 0" ∷
    codes "4 accepted" ∷
    codes "5 accepted" ∷
    codes "6 accepted failed-scripts" ∷
    codes "7 refused 43 CollateralNotKey at 0" ∷
    codes "8 now slot 0 epoch 0 version 10.0 dormant 0" ∷
    codes "8 constitution 0000000000000000000000000000000000000000000000000000000000000001 none" ∷
    codes "8 committee threshold 0/1" ∷
    codes "8 member k00000000000000000000000000000000000000000000000000000070 term 100 hot k00000000000000000000000000000000000000000000000000000071" ∷
    codes "8 enacted committee none constitution none hardfork none parameters none" ∷
    codes "8 param maxBlockBodySize 90112" ∷
    codes "8 param maxTxSize 16384" ∷
    codes "8 param maxBlockHeaderSize 1100" ∷
    codes "8 param maxValueSize 5000" ∷
    codes "8 param maxTxExUnits 1000 1000" ∷
    codes "8 param maxBlockExUnits 1000 1000" ∷
    codes "8 param maxCollateralInputs 3" ∷
    codes "8 param minFeeA 0" ∷
    codes "8 param minFeeB 0" ∷
    codes "8 param keyDeposit 2" ∷
    codes "8 param poolDeposit 5" ∷
    codes "8 param rho 0/1" ∷
    codes "8 param tau 0/1" ∷
    codes "8 param minPoolCost 0" ∷
    codes "8 param coinsPerUTxOByte 0" ∷
    codes "8 param prices 0/1 0/1" ∷
    codes "8 param minFeeRefScriptCostPerByte 15/1" ∷
    codes "8 param a0 0/1" ∷
    codes "8 param eMax 18" ∷
    codes "8 param nOpt 500" ∷
    codes "8 param costModels 0000000000000000000000000000000000000000000000000000000000000000" ∷
    codes "8 param collateralPercentage 150" ∷
    codes "8 param poolVotingThresholds 0/1 0/1 0/1 0/1 0/1" ∷
    codes "8 param drepVotingThresholds 67/100 67/100 67/100 67/100 67/100 67/100 67/100 67/100 67/100 67/100" ∷
    codes "8 param govActionLifetime 2" ∷
    codes "8 param govActionDeposit 10" ∷
    codes "8 param drepDeposit 5" ∷
    codes "8 param drepActivity 20" ∷
    codes "8 param committeeMinSize 0" ∷
    codes "8 param committeeMaxTermLength 100" ∷
    codes "8 drep k00000000000000000000000000000000000000000000000000000030 deposit 5 expiry 20" ∷
    codes "8 drep k00000000000000000000000000000000000000000000000000000031 deposit 5 expiry 20" ∷
    codes "8 pool 00000000000000000000000000000000000000000000000000000050 deposit 5 cost 0 pledge 0 margin 0/1 account 1k00000000000000000000000000000000000000000000000000000012 retires never" ∷
    codes "8 account k00000000000000000000000000000000000000000000000000000010 stake 0 deposit 2 rewards 67 pool none drep k00000000000000000000000000000000000000000000000000000030" ∷
    codes "8 account k00000000000000000000000000000000000000000000000000000011 stake 0 deposit 2 rewards 33 pool none drep k00000000000000000000000000000000000000000000000000000031" ∷
    codes "8 account k00000000000000000000000000000000000000000000000000000012 stake 0 deposit 2 rewards 0 pool none drep none" ∷
    codes "8 output 0000000000000000000000000000000000000000000000000000000000000001#5 1k00000000000000000000000000000000000000000000000000000001 20" ∷
    codes "8 output 0000000000000000000000000000000000000000000000000000000000000001#6 1k00000000000000000000000000000000000000000000000000000001 20" ∷
    codes "8 output 0000000000000000000000000000000000000000000000000000000000000001#20 1s00000000000000000000000000000000000000000000000000000001 9" ∷
    codes "8 output 0000000000000000000000000000000000000000000000000000000000000001#21 1k00000000000000000000000000000000000000000000000000000001 149" ∷
    codes "8 output 0000000000000000000000000000000000000000000000000000000000000002#0 1k00000000000000000000000000000000000000000000000000000001 20" ∷
    codes "8 output 0000000000000000000000000000000000000000000000000000000000000004#0 1k00000000000000000000000000000000000000000000000000000001 20" ∷
    codes "8 snapshot mark 00000000000000000000000000000000000000000000000000000050 0" ∷
    codes "8 snapshot fees 0" ∷
    codes "8 pending none" ∷
    codes "8 pots outputs 238 deposits 21 rewards 100 fees 20 donations 0 treasury 100 reserves 521 supply 1000" ∷
    []) ≡ true
unfolding digits encode_with
collateral_at_its_least = refl

abbrev scripts_that_failed_input : List (ℕ × Reading)
scripts_that_failed_input =
    (1, Read (records.Genesis (record { network = 1; slot = 0; epoch_length = 10; version = (10, 0); supply = 1000; reserves = 659; treasury = 100; params = base_params; document = (h32 0x01); script = None; committee = (Some (record { threshold = (share 0 1); members = (((key 0x70), 100, (Some (key 0x71))) ∷ []) })); outputs = (((ref 0x01 2), (address_with 1 (key 0x01) None), 20, []) ∷ ((ref 0x01 3), (address_with 1 (key 0x01) None), 20, []) ∷ ((ref 0x01 4), (address_with 1 (key 0x01) None), 20, []) ∷ ((ref 0x01 5), (address_with 1 (key 0x01) None), 20, []) ∷ ((ref 0x01 6), (address_with 1 (key 0x01) None), 20, []) ∷ ((ref 0x01 7), (address_with 1 (key 0x01) None), 20, []) ∷ []); accounts = (((key 0x10), 2, 67, None, (Some (drep.Registered (key 0x30)))) ∷ ((key 0x11), 2, 33, None, (Some (drep.Registered (key 0x31)))) ∷ ((key 0x12), 2, 0, None, None) ∷ []); pools = ((record { pool = (pool 0x50); deposit = 5; cost = 0; pledge = 0; margin = (share 0 1); account = (account_on 1 (key 0x12)); key = None }) ∷ []); dreps = (((key 0x30), 5, 20) ∷ ((key 0x31), 5, 20) ∷ []) }))) ∷
    (2, Read (records.Tx (record (spend 0x02 4) { outputs = ((paying (address_with 1 (key 0x02) None) 1 0) ∷ (paying (address_with 1 (key 0x03) None) 1 0) ∷ []); size = 3; scripts = scripts.Failed; collateral = ((ref 0x01 3) ∷ (ref 0x01 4) ∷ []); collateral_return = (Some (paying (address_with 1 (key 0x01) (Some (key 0x10))) 31 0)); treasury = (Some 1); donation = 3; withdrawals = (((account_on 1 (key 0x99)), 1) ∷ []); certs = ((certs.AccountUnreg (key 0x13) None) ∷ []) }))) ∷
    (3, Read (records.Print what.State)) ∷
    (4, Read (records.Tx (record (spend 0x02 0) { inputs = ((ref 0x01 5) ∷ []) }))) ∷
    (5, Read (records.Tx (record (spend 0x05 31) { inputs = ((ref 0x02 2) ∷ []) }))) ∷
    (6, Read (records.Tx (record (spend 0x06 14) { scripts = scripts.Failed; collateral = ((ref 0x01 6) ∷ []) }))) ∷
    (7, Read (records.Tx (record (spend 0x06 13) { scripts = scripts.Failed; collateral = ((ref 0x01 6) ∷ []); collateral_return = (Some (paying (address_with 1 (key 0x01) None) 2 0)) }))) ∷
    (8, Read (records.Tx (record (spend 0x06 12) { scripts = scripts.Failed; collateral = ((ref 0x01 6) ∷ []); collateral_return = (Some (paying (address_with 1 (key 0x01) None) 2 0)) }))) ∷
    (9, Read (records.Tx (record (spend 0x08 13) { inputs = ((ref 0x01 2) ∷ []); scripts = scripts.Failed; collateral = ((ref 0x01 7) ∷ []) }))) ∷
    (10, Read (records.Tx (record (spend 0x07 4) { inputs = ((ref 0x01 2) ∷ []); outputs = ((paying (address_with 1 (key 0x02) None) 16 0) ∷ []); scripts = scripts.Passed; collateral = ((ref 0x01 5) ∷ []) }))) ∷
    (11, Read (records.Print what.State)) ∷
    []

pub scripts_that_failed : says_all scripts_that_failed_input (
    codes "1 genesis outputs 120 deposits 21 rewards 100 fees 0 donations 0 treasury 100 reserves 659 supply 1000" ∷
    codes "2 accepted failed-scripts" ∷
    codes "3 now slot 0 epoch 0 version 10.0 dormant 0" ∷
    codes "3 constitution 0000000000000000000000000000000000000000000000000000000000000001 none" ∷
    codes "3 committee threshold 0/1" ∷
    codes "3 member k00000000000000000000000000000000000000000000000000000070 term 100 hot k00000000000000000000000000000000000000000000000000000071" ∷
    codes "3 enacted committee none constitution none hardfork none parameters none" ∷
    codes "3 param maxBlockBodySize 90112" ∷
    codes "3 param maxTxSize 16384" ∷
    codes "3 param maxBlockHeaderSize 1100" ∷
    codes "3 param maxValueSize 5000" ∷
    codes "3 param maxTxExUnits 1000 1000" ∷
    codes "3 param maxBlockExUnits 1000 1000" ∷
    codes "3 param maxCollateralInputs 3" ∷
    codes "3 param minFeeA 0" ∷
    codes "3 param minFeeB 0" ∷
    codes "3 param keyDeposit 2" ∷
    codes "3 param poolDeposit 5" ∷
    codes "3 param rho 0/1" ∷
    codes "3 param tau 0/1" ∷
    codes "3 param minPoolCost 0" ∷
    codes "3 param coinsPerUTxOByte 0" ∷
    codes "3 param prices 0/1 0/1" ∷
    codes "3 param minFeeRefScriptCostPerByte 15/1" ∷
    codes "3 param a0 0/1" ∷
    codes "3 param eMax 18" ∷
    codes "3 param nOpt 500" ∷
    codes "3 param costModels 0000000000000000000000000000000000000000000000000000000000000000" ∷
    codes "3 param collateralPercentage 150" ∷
    codes "3 param poolVotingThresholds 0/1 0/1 0/1 0/1 0/1" ∷
    codes "3 param drepVotingThresholds 67/100 67/100 67/100 67/100 67/100 67/100 67/100 67/100 67/100 67/100" ∷
    codes "3 param govActionLifetime 2" ∷
    codes "3 param govActionDeposit 10" ∷
    codes "3 param drepDeposit 5" ∷
    codes "3 param drepActivity 20" ∷
    codes "3 param committeeMinSize 0" ∷
    codes "3 param committeeMaxTermLength 100" ∷
    codes "3 drep k00000000000000000000000000000000000000000000000000000030 deposit 5 expiry 20" ∷
    codes "3 drep k00000000000000000000000000000000000000000000000000000031 deposit 5 expiry 20" ∷
    codes "3 pool 00000000000000000000000000000000000000000000000000000050 deposit 5 cost 0 pledge 0 margin 0/1 account 1k00000000000000000000000000000000000000000000000000000012 retires never" ∷
    codes "3 account k00000000000000000000000000000000000000000000000000000010 stake 31 deposit 2 rewards 67 pool none drep k00000000000000000000000000000000000000000000000000000030" ∷
    codes "3 account k00000000000000000000000000000000000000000000000000000011 stake 0 deposit 2 rewards 33 pool none drep k00000000000000000000000000000000000000000000000000000031" ∷
    codes "3 account k00000000000000000000000000000000000000000000000000000012 stake 0 deposit 2 rewards 0 pool none drep none" ∷
    codes "3 output 0000000000000000000000000000000000000000000000000000000000000001#2 1k00000000000000000000000000000000000000000000000000000001 20" ∷
    codes "3 output 0000000000000000000000000000000000000000000000000000000000000001#5 1k00000000000000000000000000000000000000000000000000000001 20" ∷
    codes "3 output 0000000000000000000000000000000000000000000000000000000000000001#6 1k00000000000000000000000000000000000000000000000000000001 20" ∷
    codes "3 output 0000000000000000000000000000000000000000000000000000000000000001#7 1k00000000000000000000000000000000000000000000000000000001 20" ∷
    codes "3 output 0000000000000000000000000000000000000000000000000000000000000002#2 1k00000000000000000000000000000000000000000000000000000001+k00000000000000000000000000000000000000000000000000000010 31" ∷
    codes "3 snapshot mark 00000000000000000000000000000000000000000000000000000050 0" ∷
    codes "3 snapshot fees 0" ∷
    codes "3 pending none" ∷
    codes "3 pots outputs 111 deposits 21 rewards 100 fees 9 donations 0 treasury 100 reserves 659 supply 1000" ∷
    codes "4 refused 30 TxIdUsed" ∷
    codes "5 accepted" ∷
    codes "6 refused 44 CollateralTooSmall have 20" ∷
    codes "7 refused 44 CollateralTooSmall have 18" ∷
    codes "8 accepted failed-scripts" ∷
    codes "9 accepted failed-scripts" ∷
    codes "10 accepted" ∷
    codes "11 now slot 0 epoch 0 version 10.0 dormant 0" ∷
    codes "11 constitution 0000000000000000000000000000000000000000000000000000000000000001 none" ∷
    codes "11 committee threshold 0/1" ∷
    codes "11 member k00000000000000000000000000000000000000000000000000000070 term 100 hot k00000000000000000000000000000000000000000000000000000071" ∷
    codes "11 enacted committee none constitution none hardfork none parameters none" ∷
    codes "11 param maxBlockBodySize 90112" ∷
    codes "11 param maxTxSize 16384" ∷
    codes "11 param maxBlockHeaderSize 1100" ∷
    codes "11 param maxValueSize 5000" ∷
    codes "11 param maxTxExUnits 1000 1000" ∷
    codes "11 param maxBlockExUnits 1000 1000" ∷
    codes "11 param maxCollateralInputs 3" ∷
    codes "11 param minFeeA 0" ∷
    codes "11 param minFeeB 0" ∷
    codes "11 param keyDeposit 2" ∷
    codes "11 param poolDeposit 5" ∷
    codes "11 param rho 0/1" ∷
    codes "11 param tau 0/1" ∷
    codes "11 param minPoolCost 0" ∷
    codes "11 param coinsPerUTxOByte 0" ∷
    codes "11 param prices 0/1 0/1" ∷
    codes "11 param minFeeRefScriptCostPerByte 15/1" ∷
    codes "11 param a0 0/1" ∷
    codes "11 param eMax 18" ∷
    codes "11 param nOpt 500" ∷
    codes "11 param costModels 0000000000000000000000000000000000000000000000000000000000000000" ∷
    codes "11 param collateralPercentage 150" ∷
    codes "11 param poolVotingThresholds 0/1 0/1 0/1 0/1 0/1" ∷
    codes "11 param drepVotingThresholds 67/100 67/100 67/100 67/100 67/100 67/100 67/100 67/100 67/100 67/100" ∷
    codes "11 param govActionLifetime 2" ∷
    codes "11 param govActionDeposit 10" ∷
    codes "11 param drepDeposit 5" ∷
    codes "11 param drepActivity 20" ∷
    codes "11 param committeeMinSize 0" ∷
    codes "11 param committeeMaxTermLength 100" ∷
    codes "11 drep k00000000000000000000000000000000000000000000000000000030 deposit 5 expiry 20" ∷
    codes "11 drep k00000000000000000000000000000000000000000000000000000031 deposit 5 expiry 20" ∷
    codes "11 pool 00000000000000000000000000000000000000000000000000000050 deposit 5 cost 0 pledge 0 margin 0/1 account 1k00000000000000000000000000000000000000000000000000000012 retires never" ∷
    codes "11 account k00000000000000000000000000000000000000000000000000000010 stake 0 deposit 2 rewards 67 pool none drep k00000000000000000000000000000000000000000000000000000030" ∷
    codes "11 account k00000000000000000000000000000000000000000000000000000011 stake 0 deposit 2 rewards 33 pool none drep k00000000000000000000000000000000000000000000000000000031" ∷
    codes "11 account k00000000000000000000000000000000000000000000000000000012 stake 0 deposit 2 rewards 0 pool none drep none" ∷
    codes "11 output 0000000000000000000000000000000000000000000000000000000000000001#5 1k00000000000000000000000000000000000000000000000000000001 20" ∷
    codes "11 output 0000000000000000000000000000000000000000000000000000000000000006#0 1k00000000000000000000000000000000000000000000000000000001 2" ∷
    codes "11 output 0000000000000000000000000000000000000000000000000000000000000007#0 1k00000000000000000000000000000000000000000000000000000002 16" ∷
    codes "11 snapshot mark 00000000000000000000000000000000000000000000000000000050 0" ∷
    codes "11 snapshot fees 0" ∷
    codes "11 pending none" ∷
    codes "11 pots outputs 38 deposits 21 rewards 100 fees 82 donations 0 treasury 100 reserves 659 supply 1000" ∷
    []) ≡ true
unfolding digits encode_with
scripts_that_failed = refl

abbrev accounts_left_and_come_again_input : List (ℕ × Reading)
accounts_left_and_come_again_input =
    (1, Read (records.Genesis (record { network = 1; slot = 0; epoch_length = 10; version = (10, 0); supply = 1000; reserves = 619; treasury = 100; params = base_params; document = (h32 0x01); script = None; committee = (Some (record { threshold = (share 0 1); members = (((key 0x70), 100, (Some (key 0x71))) ∷ []) })); outputs = (((ref 0x01 2), (address_with 1 (key 0x01) None), 40, []) ∷ ((ref 0x01 3), (address_with 1 (key 0x01) None), 40, []) ∷ ((ref 0x01 4), (address_with 1 (key 0x01) None), 40, []) ∷ ((ref 0x01 5), (address_with 1 (key 0x01) None), 40, []) ∷ []); accounts = (((key 0x10), 2, 67, None, (Some (drep.Registered (key 0x30)))) ∷ ((key 0x11), 2, 33, None, (Some (drep.Registered (key 0x31)))) ∷ ((key 0x12), 2, 0, None, None) ∷ []); pools = ((record { pool = (pool 0x50); deposit = 5; cost = 0; pledge = 0; margin = (share 0 1); account = (account_on 1 (key 0x12)); key = None }) ∷ []); dreps = (((key 0x30), 5, 20) ∷ ((key 0x31), 5, 20) ∷ []) }))) ∷
    (2, Read (records.Tx (record (spend 0x02 57) { outputs = ((paying (address_with 1 (key 0x01) None) 50 0) ∷ []); withdrawals = (((account_on 1 (key 0x10)), 67) ∷ []); certs = ((certs.AccountUnreg (key 0x10) (Some 2)) ∷ (certs.AccountReg (key 0x10) (Some 2) None (Some drep.Abstain)) ∷ (certs.DrepUnreg (key 0x31) None) ∷ (certs.DrepReg (key 0x31) None) ∷ (certs.Delegate (key 0x10) (Some (pool 0x50)) None) ∷ []) }))) ∷
    (3, Read (records.Print what.State)) ∷
    (4, Read (records.Tx (record (spend 0x03 0) { withdrawals = (((account_on 1 (key 0x11)), 33) ∷ []) }))) ∷
    (5, Read (records.Tx (record (spend 0x03 0) { withdrawals = (((account_on 1 (key 0x11)), 33) ∷ []); certs = ((certs.Delegate (key 0x11) None (Some (drep.Registered (key 0x31)))) ∷ []) }))) ∷
    (6, Read (records.Tx (record (spend 0x03 40) { certs = ((certs.Delegate (key 0x11) None (Some (drep.Registered (key 0x31)))) ∷ []) }))) ∷
    (7, Read (records.Tx (record (spend 0x04 78) { withdrawals = (((account_on 1 (key 0x11)), 33) ∷ []); certs = ((certs.DrepUnreg (key 0x31) None) ∷ []) }))) ∷
    (8, Read (records.Print what.State)) ∷
    []

pub accounts_left_and_come_again : says_all accounts_left_and_come_again_input (
    codes "1 genesis outputs 160 deposits 21 rewards 100 fees 0 donations 0 treasury 100 reserves 619 supply 1000" ∷
    codes "2 accepted" ∷
    codes "3 now slot 0 epoch 0 version 10.0 dormant 0" ∷
    codes "3 constitution 0000000000000000000000000000000000000000000000000000000000000001 none" ∷
    codes "3 committee threshold 0/1" ∷
    codes "3 member k00000000000000000000000000000000000000000000000000000070 term 100 hot k00000000000000000000000000000000000000000000000000000071" ∷
    codes "3 enacted committee none constitution none hardfork none parameters none" ∷
    codes "3 param maxBlockBodySize 90112" ∷
    codes "3 param maxTxSize 16384" ∷
    codes "3 param maxBlockHeaderSize 1100" ∷
    codes "3 param maxValueSize 5000" ∷
    codes "3 param maxTxExUnits 1000 1000" ∷
    codes "3 param maxBlockExUnits 1000 1000" ∷
    codes "3 param maxCollateralInputs 3" ∷
    codes "3 param minFeeA 0" ∷
    codes "3 param minFeeB 0" ∷
    codes "3 param keyDeposit 2" ∷
    codes "3 param poolDeposit 5" ∷
    codes "3 param rho 0/1" ∷
    codes "3 param tau 0/1" ∷
    codes "3 param minPoolCost 0" ∷
    codes "3 param coinsPerUTxOByte 0" ∷
    codes "3 param prices 0/1 0/1" ∷
    codes "3 param minFeeRefScriptCostPerByte 15/1" ∷
    codes "3 param a0 0/1" ∷
    codes "3 param eMax 18" ∷
    codes "3 param nOpt 500" ∷
    codes "3 param costModels 0000000000000000000000000000000000000000000000000000000000000000" ∷
    codes "3 param collateralPercentage 150" ∷
    codes "3 param poolVotingThresholds 0/1 0/1 0/1 0/1 0/1" ∷
    codes "3 param drepVotingThresholds 67/100 67/100 67/100 67/100 67/100 67/100 67/100 67/100 67/100 67/100" ∷
    codes "3 param govActionLifetime 2" ∷
    codes "3 param govActionDeposit 10" ∷
    codes "3 param drepDeposit 5" ∷
    codes "3 param drepActivity 20" ∷
    codes "3 param committeeMinSize 0" ∷
    codes "3 param committeeMaxTermLength 100" ∷
    codes "3 drep k00000000000000000000000000000000000000000000000000000030 deposit 5 expiry 20" ∷
    codes "3 drep k00000000000000000000000000000000000000000000000000000031 deposit 5 expiry 20" ∷
    codes "3 pool 00000000000000000000000000000000000000000000000000000050 deposit 5 cost 0 pledge 0 margin 0/1 account 1k00000000000000000000000000000000000000000000000000000012 retires never" ∷
    codes "3 account k00000000000000000000000000000000000000000000000000000010 stake 0 deposit 2 rewards 0 pool 00000000000000000000000000000000000000000000000000000050 drep abstain" ∷
    codes "3 account k00000000000000000000000000000000000000000000000000000011 stake 0 deposit 2 rewards 33 pool none drep none" ∷
    codes "3 account k00000000000000000000000000000000000000000000000000000012 stake 0 deposit 2 rewards 0 pool none drep none" ∷
    codes "3 output 0000000000000000000000000000000000000000000000000000000000000001#3 1k00000000000000000000000000000000000000000000000000000001 40" ∷
    codes "3 output 0000000000000000000000000000000000000000000000000000000000000001#4 1k00000000000000000000000000000000000000000000000000000001 40" ∷
    codes "3 output 0000000000000000000000000000000000000000000000000000000000000001#5 1k00000000000000000000000000000000000000000000000000000001 40" ∷
    codes "3 output 0000000000000000000000000000000000000000000000000000000000000002#0 1k00000000000000000000000000000000000000000000000000000001 50" ∷
    codes "3 snapshot mark 00000000000000000000000000000000000000000000000000000050 0" ∷
    codes "3 snapshot fees 0" ∷
    codes "3 pending none" ∷
    codes "3 pots outputs 170 deposits 21 rewards 33 fees 57 donations 0 treasury 100 reserves 619 supply 1000" ∷
    codes "4 refused 52 WithdrawalNotDelegated at 0" ∷
    codes "5 refused 52 WithdrawalNotDelegated at 0" ∷
    codes "6 accepted" ∷
    codes "7 accepted" ∷
    codes "8 now slot 0 epoch 0 version 10.0 dormant 0" ∷
    codes "8 constitution 0000000000000000000000000000000000000000000000000000000000000001 none" ∷
    codes "8 committee threshold 0/1" ∷
    codes "8 member k00000000000000000000000000000000000000000000000000000070 term 100 hot k00000000000000000000000000000000000000000000000000000071" ∷
    codes "8 enacted committee none constitution none hardfork none parameters none" ∷
    codes "8 param maxBlockBodySize 90112" ∷
    codes "8 param maxTxSize 16384" ∷
    codes "8 param maxBlockHeaderSize 1100" ∷
    codes "8 param maxValueSize 5000" ∷
    codes "8 param maxTxExUnits 1000 1000" ∷
    codes "8 param maxBlockExUnits 1000 1000" ∷
    codes "8 param maxCollateralInputs 3" ∷
    codes "8 param minFeeA 0" ∷
    codes "8 param minFeeB 0" ∷
    codes "8 param keyDeposit 2" ∷
    codes "8 param poolDeposit 5" ∷
    codes "8 param rho 0/1" ∷
    codes "8 param tau 0/1" ∷
    codes "8 param minPoolCost 0" ∷
    codes "8 param coinsPerUTxOByte 0" ∷
    codes "8 param prices 0/1 0/1" ∷
    codes "8 param minFeeRefScriptCostPerByte 15/1" ∷
    codes "8 param a0 0/1" ∷
    codes "8 param eMax 18" ∷
    codes "8 param nOpt 500" ∷
    codes "8 param costModels 0000000000000000000000000000000000000000000000000000000000000000" ∷
    codes "8 param collateralPercentage 150" ∷
    codes "8 param poolVotingThresholds 0/1 0/1 0/1 0/1 0/1" ∷
    codes "8 param drepVotingThresholds 67/100 67/100 67/100 67/100 67/100 67/100 67/100 67/100 67/100 67/100" ∷
    codes "8 param govActionLifetime 2" ∷
    codes "8 param govActionDeposit 10" ∷
    codes "8 param drepDeposit 5" ∷
    codes "8 param drepActivity 20" ∷
    codes "8 param committeeMinSize 0" ∷
    codes "8 param committeeMaxTermLength 100" ∷
    codes "8 drep k00000000000000000000000000000000000000000000000000000030 deposit 5 expiry 20" ∷
    codes "8 pool 00000000000000000000000000000000000000000000000000000050 deposit 5 cost 0 pledge 0 margin 0/1 account 1k00000000000000000000000000000000000000000000000000000012 retires never" ∷
    codes "8 account k00000000000000000000000000000000000000000000000000000010 stake 0 deposit 2 rewards 0 pool 00000000000000000000000000000000000000000000000000000050 drep abstain" ∷
    codes "8 account k00000000000000000000000000000000000000000000000000000011 stake 0 deposit 2 rewards 0 pool none drep none" ∷
    codes "8 account k00000000000000000000000000000000000000000000000000000012 stake 0 deposit 2 rewards 0 pool none drep none" ∷
    codes "8 output 0000000000000000000000000000000000000000000000000000000000000001#5 1k00000000000000000000000000000000000000000000000000000001 40" ∷
    codes "8 output 0000000000000000000000000000000000000000000000000000000000000002#0 1k00000000000000000000000000000000000000000000000000000001 50" ∷
    codes "8 snapshot mark 00000000000000000000000000000000000000000000000000000050 0" ∷
    codes "8 snapshot fees 0" ∷
    codes "8 pending none" ∷
    codes "8 pots outputs 90 deposits 16 rewards 0 fees 175 donations 0 treasury 100 reserves 619 supply 1000" ∷
    []) ≡ true
unfolding digits encode_with
accounts_left_and_come_again = refl

abbrev registered_and_used_in_one_transaction_input : List (ℕ × Reading)
registered_and_used_in_one_transaction_input =
    (1, Read (records.Genesis (record { network = 1; slot = 0; epoch_length = 10; version = (10, 0); supply = 1000; reserves = 459; treasury = 100; params = base_params; document = (h32 0x01); script = None; committee = (Some (record { threshold = (share 0 1); members = (((key 0x70), 100, (Some (key 0x71))) ∷ []) })); outputs = (((ref 0x01 2), (address_with 1 (key 0x01) None), 40, []) ∷ ((ref 0x01 3), (address_with 1 (key 0x01) None), 40, []) ∷ ((ref 0x01 4), (address_with 1 (key 0x01) None), 40, []) ∷ ((ref 0x01 5), (address_with 1 (key 0x01) None), 40, []) ∷ ((ref 0x01 6), (address_with 1 (key 0x01) None), 40, []) ∷ ((ref 0x01 7), (address_with 1 (key 0x01) None), 40, []) ∷ ((ref 0x01 8), (address_with 1 (key 0x01) None), 40, []) ∷ ((ref 0x01 9), (address_with 1 (key 0x01) None), 40, []) ∷ []); accounts = (((key 0x10), 2, 67, None, (Some (drep.Registered (key 0x30)))) ∷ ((key 0x11), 2, 33, None, (Some (drep.Registered (key 0x31)))) ∷ ((key 0x12), 2, 0, None, None) ∷ []); pools = ((record { pool = (pool 0x50); deposit = 5; cost = 0; pledge = 0; margin = (share 0 1); account = (account_on 1 (key 0x12)); key = None }) ∷ []); dreps = (((key 0x30), 5, 20) ∷ ((key 0x31), 5, 20) ∷ []) }))) ∷
    (2, Read (records.Tx (record (spend 0x02 28) { certs = ((certs.PoolReg (pool 0x51) 1 2 (share 0 1) (account_on 1 (key 0x11)) None) ∷ (certs.PoolRetire (pool 0x51) 3) ∷ (certs.DrepReg (key 0x32) None) ∷ (certs.AccountReg (key 0x13) None (Some (pool 0x51)) (Some (drep.Registered (key 0x32)))) ∷ (certs.Delegate (key 0x13) None (Some (drep.Registered (key 0x31)))) ∷ (certs.Delegate (key 0x12) (Some (pool 0x51)) (Some (drep.Registered (key 0x32)))) ∷ (certs.DrepUpdate (key 0x32)) ∷ (certs.PoolReg (pool 0x51) 3 4 (share 1 2) (account_on 1 (key 0x12)) None) ∷ []) }))) ∷
    (3, Read (records.Print what.State)) ∷
    (4, Read (records.Tx (record (spend 0x03 40) { certs = ((certs.DrepReg (key 0x33) None) ∷ (certs.DrepUnreg (key 0x33) (Some 5)) ∷ (certs.DrepReg (key 0x33) None) ∷ (certs.AccountReg (key 0x14) None None (Some (drep.Registered (key 0x33)))) ∷ (certs.DrepUnreg (key 0x33) None) ∷ (certs.AccountUnreg (key 0x14) (Some 2)) ∷ (certs.HotAuth (key 0x70) (key 0x79)) ∷ (certs.HotResign (key 0x70)) ∷ []) }))) ∷
    (5, Read (records.Tx (record (spend 0x04 0) { certs = ((certs.AccountReg (key 0x15) None None None) ∷ (certs.AccountUnreg (key 0x15) (Some 3)) ∷ []) }))) ∷
    (6, Read (records.Tx (record (spend 0x04 0) { certs = ((certs.DrepReg (key 0x34) None) ∷ (certs.DrepUnreg (key 0x34) (Some 6)) ∷ []) }))) ∷
    (7, Read (records.Tx (record (spend 0x04 0) { certs = ((certs.AccountReg (key 0x15) None None None) ∷ (certs.AccountReg (key 0x15) None None None) ∷ []) }))) ∷
    (8, Read (records.Tx (record (spend 0x04 0) { certs = ((certs.DrepUnreg (key 0x32) None) ∷ (certs.DrepUpdate (key 0x32)) ∷ []) }))) ∷
    (9, Read (records.Tx (record (spend 0x04 0) { certs = ((certs.DrepUnreg (key 0x32) None) ∷ (certs.DrepUnreg (key 0x32) None) ∷ []) }))) ∷
    (10, Read (records.Tx (record (spend 0x04 0) { certs = ((certs.DrepReg (key 0x34) None) ∷ (certs.DrepReg (key 0x34) None) ∷ []) }))) ∷
    (11, Read (records.Tx (record (spend 0x04 0) { certs = ((certs.AccountUnreg (key 0x13) None) ∷ (certs.Delegate (key 0x13) None (Some drep.Abstain)) ∷ []) }))) ∷
    (12, Read (records.Tx (record (spend 0x04 0) { certs = ((certs.AccountUnreg (key 0x13) None) ∷ (certs.AccountUnreg (key 0x13) None) ∷ []) }))) ∷
    (13, Read (records.Tx (record (spend 0x04 0) { certs = ((certs.AccountUnreg (key 0x13) None) ∷ (certs.AccountReg (key 0x13) None None (Some (drep.Registered (key 0x30)))) ∷ (certs.AccountUnreg (key 0x13) (Some 3)) ∷ []) }))) ∷
    (14, Read (records.Tx (record (spend 0x04 109) { withdrawals = (((account_on 1 (key 0x10)), 67) ∷ []); certs = ((certs.AccountUnreg (key 0x10) None) ∷ (certs.AccountReg (key 0x10) None None None) ∷ (certs.AccountUnreg (key 0x10) None) ∷ []) }))) ∷
    (15, Read (records.Print what.State)) ∷
    (16, Read (records.Tx (record (spend 0x05 20) { proposals = ((proposing 10 (account_on 1 (key 0x12)) (actions.NoConfidence None)) ∷ (proposing 10 (account_on 1 (key 0x12)) (actions.Info)) ∷ []) }))) ∷
    (17, Read (records.Tx (record (spend 0x06 40) { votes = ((voting (voter.Drep (key 0x30)) (action 0x05 0) vote.Yes) ∷ (voting (voter.Drep (key 0x31)) (action 0x05 0) vote.Yes) ∷ (voting (voter.Drep (key 0x32)) (action 0x05 1) vote.Yes) ∷ (voting (voter.Drep (key 0x31)) (action 0x05 1) vote.Yes) ∷ []) }))) ∷
    (18, Read (records.Tx (record (spend 0x07 45) { certs = ((certs.PoolReg (pool 0x52) 0 0 (share 0 1) (account_on 1 (key 0x12)) None) ∷ (certs.DrepUnreg (key 0x30) None) ∷ (certs.DrepUnreg (key 0x31) None) ∷ []); votes = ((voting (voter.Pool (pool 0x52)) (action 0x05 0) vote.No) ∷ []) }))) ∷
    (19, Read (records.Tx (record (spend 0x08 40) { certs = ((certs.DrepUnreg (key 0x32) None) ∷ (certs.DrepReg (key 0x32) None) ∷ []); votes = ((voting (voter.Drep (key 0x32)) (action 0x05 0) vote.No) ∷ []) }))) ∷
    (20, Read (records.Print what.State)) ∷
    []

pub registered_and_used_in_one_transaction : says_all registered_and_used_in_one_transaction_input (
    codes "1 genesis outputs 320 deposits 21 rewards 100 fees 0 donations 0 treasury 100 reserves 459 supply 1000" ∷
    codes "2 accepted" ∷
    codes "3 now slot 0 epoch 0 version 10.0 dormant 0" ∷
    codes "3 constitution 0000000000000000000000000000000000000000000000000000000000000001 none" ∷
    codes "3 committee threshold 0/1" ∷
    codes "3 member k00000000000000000000000000000000000000000000000000000070 term 100 hot k00000000000000000000000000000000000000000000000000000071" ∷
    codes "3 enacted committee none constitution none hardfork none parameters none" ∷
    codes "3 param maxBlockBodySize 90112" ∷
    codes "3 param maxTxSize 16384" ∷
    codes "3 param maxBlockHeaderSize 1100" ∷
    codes "3 param maxValueSize 5000" ∷
    codes "3 param maxTxExUnits 1000 1000" ∷
    codes "3 param maxBlockExUnits 1000 1000" ∷
    codes "3 param maxCollateralInputs 3" ∷
    codes "3 param minFeeA 0" ∷
    codes "3 param minFeeB 0" ∷
    codes "3 param keyDeposit 2" ∷
    codes "3 param poolDeposit 5" ∷
    codes "3 param rho 0/1" ∷
    codes "3 param tau 0/1" ∷
    codes "3 param minPoolCost 0" ∷
    codes "3 param coinsPerUTxOByte 0" ∷
    codes "3 param prices 0/1 0/1" ∷
    codes "3 param minFeeRefScriptCostPerByte 15/1" ∷
    codes "3 param a0 0/1" ∷
    codes "3 param eMax 18" ∷
    codes "3 param nOpt 500" ∷
    codes "3 param costModels 0000000000000000000000000000000000000000000000000000000000000000" ∷
    codes "3 param collateralPercentage 150" ∷
    codes "3 param poolVotingThresholds 0/1 0/1 0/1 0/1 0/1" ∷
    codes "3 param drepVotingThresholds 67/100 67/100 67/100 67/100 67/100 67/100 67/100 67/100 67/100 67/100" ∷
    codes "3 param govActionLifetime 2" ∷
    codes "3 param govActionDeposit 10" ∷
    codes "3 param drepDeposit 5" ∷
    codes "3 param drepActivity 20" ∷
    codes "3 param committeeMinSize 0" ∷
    codes "3 param committeeMaxTermLength 100" ∷
    codes "3 drep k00000000000000000000000000000000000000000000000000000030 deposit 5 expiry 20" ∷
    codes "3 drep k00000000000000000000000000000000000000000000000000000031 deposit 5 expiry 20" ∷
    codes "3 drep k00000000000000000000000000000000000000000000000000000032 deposit 5 expiry 20" ∷
    codes "3 pool 00000000000000000000000000000000000000000000000000000050 deposit 5 cost 0 pledge 0 margin 0/1 account 1k00000000000000000000000000000000000000000000000000000012 retires never" ∷
    codes "3 pool 00000000000000000000000000000000000000000000000000000051 deposit 5 cost 1 pledge 2 margin 0/1 account 1k00000000000000000000000000000000000000000000000000000011 retires never" ∷
    codes "3 next 00000000000000000000000000000000000000000000000000000051 cost 3 pledge 4 margin 1/2 account 1k00000000000000000000000000000000000000000000000000000012" ∷
    codes "3 account k00000000000000000000000000000000000000000000000000000010 stake 0 deposit 2 rewards 67 pool none drep k00000000000000000000000000000000000000000000000000000030" ∷
    codes "3 account k00000000000000000000000000000000000000000000000000000011 stake 0 deposit 2 rewards 33 pool none drep k00000000000000000000000000000000000000000000000000000031" ∷
    codes "3 account k00000000000000000000000000000000000000000000000000000012 stake 0 deposit 2 rewards 0 pool 00000000000000000000000000000000000000000000000000000051 drep k00000000000000000000000000000000000000000000000000000032" ∷
    codes "3 account k00000000000000000000000000000000000000000000000000000013 stake 0 deposit 2 rewards 0 pool 00000000000000000000000000000000000000000000000000000051 drep k00000000000000000000000000000000000000000000000000000031" ∷
    codes "3 output 0000000000000000000000000000000000000000000000000000000000000001#3 1k00000000000000000000000000000000000000000000000000000001 40" ∷
    codes "3 output 0000000000000000000000000000000000000000000000000000000000000001#4 1k00000000000000000000000000000000000000000000000000000001 40" ∷
    codes "3 output 0000000000000000000000000000000000000000000000000000000000000001#5 1k00000000000000000000000000000000000000000000000000000001 40" ∷
    codes "3 output 0000000000000000000000000000000000000000000000000000000000000001#6 1k00000000000000000000000000000000000000000000000000000001 40" ∷
    codes "3 output 0000000000000000000000000000000000000000000000000000000000000001#7 1k00000000000000000000000000000000000000000000000000000001 40" ∷
    codes "3 output 0000000000000000000000000000000000000000000000000000000000000001#8 1k00000000000000000000000000000000000000000000000000000001 40" ∷
    codes "3 output 0000000000000000000000000000000000000000000000000000000000000001#9 1k00000000000000000000000000000000000000000000000000000001 40" ∷
    codes "3 snapshot mark 00000000000000000000000000000000000000000000000000000050 0" ∷
    codes "3 snapshot fees 0" ∷
    codes "3 pending none" ∷
    codes "3 pots outputs 280 deposits 33 rewards 100 fees 28 donations 0 treasury 100 reserves 459 supply 1000" ∷
    codes "4 accepted" ∷
    codes "5 refused 63 RefundWrong at 1 want 2" ∷
    codes "6 refused 63 RefundWrong at 1 want 5" ∷
    codes "7 refused 60 AccountRegistered at 1" ∷
    codes "8 refused 66 DrepUnknown at 1" ∷
    codes "9 refused 66 DrepUnknown at 1" ∷
    codes "10 refused 67 DrepRegistered at 1" ∷
    codes "11 refused 61 AccountUnknown at 1" ∷
    codes "12 refused 61 AccountUnknown at 1" ∷
    codes "13 refused 63 RefundWrong at 2 want 2" ∷
    codes "14 accepted" ∷
    codes "15 now slot 0 epoch 0 version 10.0 dormant 0" ∷
    codes "15 constitution 0000000000000000000000000000000000000000000000000000000000000001 none" ∷
    codes "15 committee threshold 0/1" ∷
    codes "15 member k00000000000000000000000000000000000000000000000000000070 term 100 hot resigned" ∷
    codes "15 enacted committee none constitution none hardfork none parameters none" ∷
    codes "15 param maxBlockBodySize 90112" ∷
    codes "15 param maxTxSize 16384" ∷
    codes "15 param maxBlockHeaderSize 1100" ∷
    codes "15 param maxValueSize 5000" ∷
    codes "15 param maxTxExUnits 1000 1000" ∷
    codes "15 param maxBlockExUnits 1000 1000" ∷
    codes "15 param maxCollateralInputs 3" ∷
    codes "15 param minFeeA 0" ∷
    codes "15 param minFeeB 0" ∷
    codes "15 param keyDeposit 2" ∷
    codes "15 param poolDeposit 5" ∷
    codes "15 param rho 0/1" ∷
    codes "15 param tau 0/1" ∷
    codes "15 param minPoolCost 0" ∷
    codes "15 param coinsPerUTxOByte 0" ∷
    codes "15 param prices 0/1 0/1" ∷
    codes "15 param minFeeRefScriptCostPerByte 15/1" ∷
    codes "15 param a0 0/1" ∷
    codes "15 param eMax 18" ∷
    codes "15 param nOpt 500" ∷
    codes "15 param costModels 0000000000000000000000000000000000000000000000000000000000000000" ∷
    codes "15 param collateralPercentage 150" ∷
    codes "15 param poolVotingThresholds 0/1 0/1 0/1 0/1 0/1" ∷
    codes "15 param drepVotingThresholds 67/100 67/100 67/100 67/100 67/100 67/100 67/100 67/100 67/100 67/100" ∷
    codes "15 param govActionLifetime 2" ∷
    codes "15 param govActionDeposit 10" ∷
    codes "15 param drepDeposit 5" ∷
    codes "15 param drepActivity 20" ∷
    codes "15 param committeeMinSize 0" ∷
    codes "15 param committeeMaxTermLength 100" ∷
    codes "15 drep k00000000000000000000000000000000000000000000000000000030 deposit 5 expiry 20" ∷
    codes "15 drep k00000000000000000000000000000000000000000000000000000031 deposit 5 expiry 20" ∷
    codes "15 drep k00000000000000000000000000000000000000000000000000000032 deposit 5 expiry 20" ∷
    codes "15 pool 00000000000000000000000000000000000000000000000000000050 deposit 5 cost 0 pledge 0 margin 0/1 account 1k00000000000000000000000000000000000000000000000000000012 retires never" ∷
    codes "15 pool 00000000000000000000000000000000000000000000000000000051 deposit 5 cost 1 pledge 2 margin 0/1 account 1k00000000000000000000000000000000000000000000000000000011 retires never" ∷
    codes "15 next 00000000000000000000000000000000000000000000000000000051 cost 3 pledge 4 margin 1/2 account 1k00000000000000000000000000000000000000000000000000000012" ∷
    codes "15 account k00000000000000000000000000000000000000000000000000000011 stake 0 deposit 2 rewards 33 pool none drep k00000000000000000000000000000000000000000000000000000031" ∷
    codes "15 account k00000000000000000000000000000000000000000000000000000012 stake 0 deposit 2 rewards 0 pool 00000000000000000000000000000000000000000000000000000051 drep k00000000000000000000000000000000000000000000000000000032" ∷
    codes "15 account k00000000000000000000000000000000000000000000000000000013 stake 0 deposit 2 rewards 0 pool 00000000000000000000000000000000000000000000000000000051 drep k00000000000000000000000000000000000000000000000000000031" ∷
    codes "15 output 0000000000000000000000000000000000000000000000000000000000000001#5 1k00000000000000000000000000000000000000000000000000000001 40" ∷
    codes "15 output 0000000000000000000000000000000000000000000000000000000000000001#6 1k00000000000000000000000000000000000000000000000000000001 40" ∷
    codes "15 output 0000000000000000000000000000000000000000000000000000000000000001#7 1k00000000000000000000000000000000000000000000000000000001 40" ∷
    codes "15 output 0000000000000000000000000000000000000000000000000000000000000001#8 1k00000000000000000000000000000000000000000000000000000001 40" ∷
    codes "15 output 0000000000000000000000000000000000000000000000000000000000000001#9 1k00000000000000000000000000000000000000000000000000000001 40" ∷
    codes "15 snapshot mark 00000000000000000000000000000000000000000000000000000050 0" ∷
    codes "15 snapshot fees 0" ∷
    codes "15 pending none" ∷
    codes "15 pots outputs 200 deposits 31 rewards 33 fees 177 donations 0 treasury 100 reserves 459 supply 1000" ∷
    codes "16 accepted" ∷
    codes "17 accepted" ∷
    codes "18 accepted" ∷
    codes "19 accepted" ∷
    codes "20 now slot 0 epoch 0 version 10.0 dormant 0" ∷
    codes "20 constitution 0000000000000000000000000000000000000000000000000000000000000001 none" ∷
    codes "20 committee threshold 0/1" ∷
    codes "20 member k00000000000000000000000000000000000000000000000000000070 term 100 hot resigned" ∷
    codes "20 enacted committee none constitution none hardfork none parameters none" ∷
    codes "20 param maxBlockBodySize 90112" ∷
    codes "20 param maxTxSize 16384" ∷
    codes "20 param maxBlockHeaderSize 1100" ∷
    codes "20 param maxValueSize 5000" ∷
    codes "20 param maxTxExUnits 1000 1000" ∷
    codes "20 param maxBlockExUnits 1000 1000" ∷
    codes "20 param maxCollateralInputs 3" ∷
    codes "20 param minFeeA 0" ∷
    codes "20 param minFeeB 0" ∷
    codes "20 param keyDeposit 2" ∷
    codes "20 param poolDeposit 5" ∷
    codes "20 param rho 0/1" ∷
    codes "20 param tau 0/1" ∷
    codes "20 param minPoolCost 0" ∷
    codes "20 param coinsPerUTxOByte 0" ∷
    codes "20 param prices 0/1 0/1" ∷
    codes "20 param minFeeRefScriptCostPerByte 15/1" ∷
    codes "20 param a0 0/1" ∷
    codes "20 param eMax 18" ∷
    codes "20 param nOpt 500" ∷
    codes "20 param costModels 0000000000000000000000000000000000000000000000000000000000000000" ∷
    codes "20 param collateralPercentage 150" ∷
    codes "20 param poolVotingThresholds 0/1 0/1 0/1 0/1 0/1" ∷
    codes "20 param drepVotingThresholds 67/100 67/100 67/100 67/100 67/100 67/100 67/100 67/100 67/100 67/100" ∷
    codes "20 param govActionLifetime 2" ∷
    codes "20 param govActionDeposit 10" ∷
    codes "20 param drepDeposit 5" ∷
    codes "20 param drepActivity 20" ∷
    codes "20 param committeeMinSize 0" ∷
    codes "20 param committeeMaxTermLength 100" ∷
    codes "20 drep k00000000000000000000000000000000000000000000000000000032 deposit 5 expiry 20" ∷
    codes "20 pool 00000000000000000000000000000000000000000000000000000050 deposit 5 cost 0 pledge 0 margin 0/1 account 1k00000000000000000000000000000000000000000000000000000012 retires never" ∷
    codes "20 pool 00000000000000000000000000000000000000000000000000000051 deposit 5 cost 1 pledge 2 margin 0/1 account 1k00000000000000000000000000000000000000000000000000000011 retires never" ∷
    codes "20 next 00000000000000000000000000000000000000000000000000000051 cost 3 pledge 4 margin 1/2 account 1k00000000000000000000000000000000000000000000000000000012" ∷
    codes "20 pool 00000000000000000000000000000000000000000000000000000052 deposit 5 cost 0 pledge 0 margin 0/1 account 1k00000000000000000000000000000000000000000000000000000012 retires never" ∷
    codes "20 account k00000000000000000000000000000000000000000000000000000011 stake 0 deposit 2 rewards 33 pool none drep none" ∷
    codes "20 account k00000000000000000000000000000000000000000000000000000012 stake 0 deposit 2 rewards 0 pool 00000000000000000000000000000000000000000000000000000051 drep none" ∷
    codes "20 account k00000000000000000000000000000000000000000000000000000013 stake 0 deposit 2 rewards 0 pool 00000000000000000000000000000000000000000000000000000051 drep none" ∷
    codes "20 output 0000000000000000000000000000000000000000000000000000000000000001#9 1k00000000000000000000000000000000000000000000000000000001 40" ∷
    codes "20 proposal 0000000000000000000000000000000000000000000000000000000000000005#0 NoConfidence deposit 10 return 1k00000000000000000000000000000000000000000000000000000012 expires 2 previous none" ∷
    codes "20 vote 0000000000000000000000000000000000000000000000000000000000000005#0 drep:k00000000000000000000000000000000000000000000000000000032 no" ∷
    codes "20 vote 0000000000000000000000000000000000000000000000000000000000000005#0 pool:00000000000000000000000000000000000000000000000000000052 no" ∷
    codes "20 proposal 0000000000000000000000000000000000000000000000000000000000000005#1 Info deposit 10 return 1k00000000000000000000000000000000000000000000000000000012 expires 2 previous none" ∷
    codes "20 snapshot mark 00000000000000000000000000000000000000000000000000000050 0" ∷
    codes "20 snapshot fees 0" ∷
    codes "20 pending none" ∷
    codes "20 pots outputs 40 deposits 46 rewards 33 fees 322 donations 0 treasury 100 reserves 459 supply 1000" ∷
    []) ≡ true
unfolding digits encode_with
registered_and_used_in_one_transaction = refl
