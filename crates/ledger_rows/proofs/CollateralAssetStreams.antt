-- Worked rows of whole streams: collateral and failed scripts with assets. Made by tests/made/rows_of, from the streams of these names in tests/streams/whole.
use Rattle.std.specs.Prelude.{ℕ, ◌≡◌, List, [], ◌∷◌, Some, None, true, pos, negsuc, codes, refl}
use Rattle.std.specs.Fmt.{digits}
use Rattle.hex.specs.Hex.{encode_with}
use Rattle.gov_ids.specs.declared.Drep.TheVariants as drep
use Rattle.tx_records.specs.declared.record.Record.TheVariants as records
use Rattle.tx_records.specs.declared.record.What.TheVariants as what
use Rattle.tx_records.specs.declared.tx.Scripts.TheVariants as scripts
use Rattle.tx_records.specs.declared.record.Reading.{Reading}
use Rattle.tx_records.specs.declared.record.Reading.TheVariants.{Read}
use Rattle.ledger_rows.proofs.Base.{h28, h32, key, pool, account_on, address_with, ref, asset, share, base_params, spend, paying, paying_with, says_all}

abbrev collateral_with_assets_input : List (ℕ × Reading)
collateral_with_assets_input =
    (1, Read (records.Genesis (record { network = 1; slot = 0; epoch_length = 10; version = (10, 0); supply = 1000; reserves = 659; treasury = 100; params = base_params; document = (h32 0x01); script = None; committee = (Some (record { threshold = (share 0 1); members = (((key 0x70), 100, (Some (key 0x71))) ∷ []) })); outputs = (((ref 0x01 2), (address_with 1 (key 0x01) None), 20, (((asset (h28 0x05) []), 7) ∷ ((asset (h28 0x06) []), 1) ∷ [])) ∷ ((ref 0x01 3), (address_with 1 (key 0x01) None), 20, (((asset (h28 0x05) []), 2) ∷ [])) ∷ ((ref 0x01 4), (address_with 1 (key 0x01) None), 20, []) ∷ ((ref 0x01 5), (address_with 1 (key 0x01) None), 20, []) ∷ ((ref 0x01 6), (address_with 1 (key 0x01) None), 20, []) ∷ ((ref 0x01 7), (address_with 1 (key 0x01) None), 20, []) ∷ []); accounts = (((key 0x10), 2, 67, None, (Some (drep.Registered (key 0x30)))) ∷ ((key 0x11), 2, 33, None, (Some (drep.Registered (key 0x31)))) ∷ ((key 0x12), 2, 0, None, None) ∷ []); pools = ((record { pool = (pool 0x50); deposit = 5; cost = 0; pledge = 0; margin = (share 0 1); account = (account_on 1 (key 0x12)); key = None }) ∷ []); dreps = (((key 0x30), 5, 20) ∷ ((key 0x31), 5, 20) ∷ []) }))) ∷
    (2, Read (records.Tx (record (spend 0x02 4) { inputs = ((ref 0x01 5) ∷ []); outputs = ((paying (address_with 1 (key 0x01) None) 16 0) ∷ []); scripts = scripts.Passed; collateral = ((ref 0x01 2) ∷ []) }))) ∷
    (3, Read (records.Tx (record (spend 0x02 4) { inputs = ((ref 0x01 5) ∷ []); outputs = ((paying (address_with 1 (key 0x01) None) 16 0) ∷ []); scripts = scripts.Passed; collateral = ((ref 0x01 2) ∷ []); collateral_return = (Some (paying_with (address_with 1 (key 0x01) None) 14 0 (((asset (h28 0x05) []), 7) ∷ []))) }))) ∷
    (4, Read (records.Tx (record (spend 0x02 4) { inputs = ((ref 0x01 5) ∷ []); outputs = ((paying (address_with 1 (key 0x01) None) 16 0) ∷ []); scripts = scripts.Passed; collateral = ((ref 0x01 2) ∷ []); collateral_return = (Some (paying_with (address_with 1 (key 0x01) None) 14 0 (((asset (h28 0x05) []), 7) ∷ ((asset (h28 0x06) []), 1) ∷ ((asset (h28 0x07) []), 1) ∷ []))) }))) ∷
    (5, Read (records.Tx (record (spend 0x02 4) { inputs = ((ref 0x01 5) ∷ []); outputs = ((paying (address_with 1 (key 0x01) None) 16 0) ∷ []); scripts = scripts.Passed; collateral = ((ref 0x01 2) ∷ (ref 0x01 3) ∷ []); collateral_return = (Some (paying_with (address_with 1 (key 0x01) None) 34 0 (((asset (h28 0x05) []), 7) ∷ ((asset (h28 0x06) []), 1) ∷ []))) }))) ∷
    (6, Read (records.Tx (record (spend 0x02 4) { inputs = ((ref 0x01 5) ∷ []); outputs = ((paying (address_with 1 (key 0x01) None) 16 0) ∷ []); scripts = scripts.Failed; collateral = ((ref 0x01 2) ∷ []); collateral_return = (Some (paying_with (address_with 1 (key 0x01) None) 14 0 (((asset (h28 0x05) []), 8) ∷ ((asset (h28 0x06) []), 1) ∷ []))) }))) ∷
    (7, Read (records.Tx (record (spend 0x02 4) { inputs = ((ref 0x01 5) ∷ []); outputs = ((paying (address_with 1 (key 0x01) None) 16 0) ∷ []); scripts = scripts.Passed; collateral = ((ref 0x01 4) ∷ []); collateral_return = (Some (paying_with (address_with 1 (key 0x01) None) 14 0 (((asset (h28 0x05) []), 1) ∷ []))) }))) ∷
    (8, Read (records.Tx (record (spend 0x02 4) { inputs = ((ref 0x01 5) ∷ []); outputs = ((paying (address_with 1 (key 0x01) None) 16 0) ∷ []); collateral = ((ref 0x01 2) ∷ []); collateral_return = (Some (paying_with (address_with 1 (key 0x01) None) 14 0 (((asset (h28 0x07) []), 1) ∷ []))) }))) ∷
    (9, Read (records.Tx (record (spend 0x03 4) { inputs = ((ref 0x01 6) ∷ []); outputs = ((paying (address_with 1 (key 0x01) None) 16 0) ∷ []); scripts = scripts.Passed; collateral = ((ref 0x01 4) ∷ []); collateral_return = (Some (paying (address_with 1 (key 0x01) None) 14 0)) }))) ∷
    (10, Read (records.Tx (record (spend 0x04 4) { inputs = ((ref 0x01 7) ∷ []); outputs = ((paying (address_with 1 (key 0x01) None) 16 0) ∷ []); scripts = scripts.Passed; collateral = ((ref 0x01 2) ∷ (ref 0x01 3) ∷ []); collateral_return = (Some (paying_with (address_with 1 (key 0x01) None) 34 0 (((asset (h28 0x05) []), 9) ∷ ((asset (h28 0x06) []), 1) ∷ []))) }))) ∷
    (11, Read (records.Tx (record (spend 0x05 20) { inputs = ((ref 0x01 3) ∷ []); outputs = ((paying_with (address_with 1 (key 0x01) None) 0 0 (((asset (h28 0x05) []), 2) ∷ [])) ∷ []); scripts = scripts.Passed; collateral = ((ref 0x01 3) ∷ (ref 0x01 4) ∷ []); collateral_return = (Some (paying_with (address_with 1 (key 0x01) None) 10 0 (((asset (h28 0x05) []), 2) ∷ []))) }))) ∷
    (12, Read (records.Print what.State)) ∷
    (13, Read (records.Print what.Assets)) ∷
    []

pub collateral_with_assets : says_all collateral_with_assets_input (
    codes "1 genesis outputs 120 deposits 21 rewards 100 fees 0 donations 0 treasury 100 reserves 659 supply 1000" ∷
    codes "2 refused 46 CollateralAssetsWrong" ∷
    codes "3 refused 46 CollateralAssetsWrong" ∷
    codes "4 refused 46 CollateralAssetsWrong" ∷
    codes "5 refused 46 CollateralAssetsWrong" ∷
    codes "6 refused 46 CollateralAssetsWrong" ∷
    codes "7 refused 46 CollateralAssetsWrong" ∷
    codes "8 accepted" ∷
    codes "9 accepted" ∷
    codes "10 accepted" ∷
    codes "11 accepted" ∷
    codes "12 now slot 0 epoch 0 version 10.0 dormant 0" ∷
    codes "12 constitution 0000000000000000000000000000000000000000000000000000000000000001 none" ∷
    codes "12 committee threshold 0/1" ∷
    codes "12 member k00000000000000000000000000000000000000000000000000000070 term 100 hot k00000000000000000000000000000000000000000000000000000071" ∷
    codes "12 enacted committee none constitution none hardfork none parameters none" ∷
    codes "12 param maxBlockBodySize 90112" ∷
    codes "12 param maxTxSize 16384" ∷
    codes "12 param maxBlockHeaderSize 1100" ∷
    codes "12 param maxValueSize 5000" ∷
    codes "12 param maxTxExUnits 1000 1000" ∷
    codes "12 param maxBlockExUnits 1000 1000" ∷
    codes "12 param maxCollateralInputs 3" ∷
    codes "12 param minFeeA 0" ∷
    codes "12 param minFeeB 0" ∷
    codes "12 param keyDeposit 2" ∷
    codes "12 param poolDeposit 5" ∷
    codes "12 param rho 0/1" ∷
    codes "12 param tau 0/1" ∷
    codes "12 param minPoolCost 0" ∷
    codes "12 param coinsPerUTxOByte 0" ∷
    codes "12 param prices 0/1 0/1" ∷
    codes "12 param minFeeRefScriptCostPerByte 15/1" ∷
    codes "12 param a0 0/1" ∷
    codes "12 param eMax 18" ∷
    codes "12 param nOpt 500" ∷
    codes "12 param costModels 0000000000000000000000000000000000000000000000000000000000000000" ∷
    codes "12 param collateralPercentage 150" ∷
    codes "12 param poolVotingThresholds 0/1 0/1 0/1 0/1 0/1" ∷
    codes "12 param drepVotingThresholds 67/100 67/100 67/100 67/100 67/100 67/100 67/100 67/100 67/100 67/100" ∷
    codes "12 param govActionLifetime 2" ∷
    codes "12 param govActionDeposit 10" ∷
    codes "12 param drepDeposit 5" ∷
    codes "12 param drepActivity 20" ∷
    codes "12 param committeeMinSize 0" ∷
    codes "12 param committeeMaxTermLength 100" ∷
    codes "12 drep k00000000000000000000000000000000000000000000000000000030 deposit 5 expiry 20" ∷
    codes "12 drep k00000000000000000000000000000000000000000000000000000031 deposit 5 expiry 20" ∷
    codes "12 pool 00000000000000000000000000000000000000000000000000000050 deposit 5 cost 0 pledge 0 margin 0/1 account 1k00000000000000000000000000000000000000000000000000000012 retires never" ∷
    codes "12 account k00000000000000000000000000000000000000000000000000000010 stake 0 deposit 2 rewards 67 pool none drep k00000000000000000000000000000000000000000000000000000030" ∷
    codes "12 account k00000000000000000000000000000000000000000000000000000011 stake 0 deposit 2 rewards 33 pool none drep k00000000000000000000000000000000000000000000000000000031" ∷
    codes "12 account k00000000000000000000000000000000000000000000000000000012 stake 0 deposit 2 rewards 0 pool none drep none" ∷
    codes "12 output 0000000000000000000000000000000000000000000000000000000000000001#2 1k00000000000000000000000000000000000000000000000000000001 20" ∷
    codes "12 asset 00000000000000000000000000000000000000000000000000000005 - 7" ∷
    codes "12 asset 00000000000000000000000000000000000000000000000000000006 - 1" ∷
    codes "12 output 0000000000000000000000000000000000000000000000000000000000000001#4 1k00000000000000000000000000000000000000000000000000000001 20" ∷
    codes "12 output 0000000000000000000000000000000000000000000000000000000000000002#0 1k00000000000000000000000000000000000000000000000000000001 16" ∷
    codes "12 output 0000000000000000000000000000000000000000000000000000000000000003#0 1k00000000000000000000000000000000000000000000000000000001 16" ∷
    codes "12 output 0000000000000000000000000000000000000000000000000000000000000004#0 1k00000000000000000000000000000000000000000000000000000001 16" ∷
    codes "12 output 0000000000000000000000000000000000000000000000000000000000000005#0 1k00000000000000000000000000000000000000000000000000000001 0" ∷
    codes "12 asset 00000000000000000000000000000000000000000000000000000005 - 2" ∷
    codes "12 snapshot mark 00000000000000000000000000000000000000000000000000000050 0" ∷
    codes "12 snapshot fees 0" ∷
    codes "12 pending none" ∷
    codes "12 pots outputs 88 deposits 21 rewards 100 fees 32 donations 0 treasury 100 reserves 659 supply 1000" ∷
    codes "13 asset-total 00000000000000000000000000000000000000000000000000000005 - 9" ∷
    codes "13 asset-total 00000000000000000000000000000000000000000000000000000006 - 1" ∷
    []) ≡ true
unfolding digits encode_with
collateral_with_assets = refl

abbrev collateral_sums_beyond_64_bits_input : List (ℕ × Reading)
collateral_sums_beyond_64_bits_input =
    (1, Read (records.Genesis (record { network = 1; slot = 0; epoch_length = 10; version = (10, 0); supply = 1000; reserves = 699; treasury = 100; params = base_params; document = (h32 0x01); script = None; committee = (Some (record { threshold = (share 0 1); members = (((key 0x70), 100, (Some (key 0x71))) ∷ []) })); outputs = (((ref 0x01 2), (address_with 1 (key 0x01) None), 20, []) ∷ ((ref 0x01 3), (address_with 1 (key 0x01) None), 20, (((asset (h28 0x05) []), 18446744073709551615) ∷ [])) ∷ ((ref 0x01 4), (address_with 1 (key 0x01) None), 20, (((asset (h28 0x05) []), 3) ∷ [])) ∷ ((ref 0x01 5), (address_with 1 (key 0x01) None), 20, (((asset (h28 0x05) []), 1) ∷ [])) ∷ []); accounts = (((key 0x10), 2, 67, None, (Some (drep.Registered (key 0x30)))) ∷ ((key 0x11), 2, 33, None, (Some (drep.Registered (key 0x31)))) ∷ ((key 0x12), 2, 0, None, None) ∷ []); pools = ((record { pool = (pool 0x50); deposit = 5; cost = 0; pledge = 0; margin = (share 0 1); account = (account_on 1 (key 0x12)); key = None }) ∷ []); dreps = (((key 0x30), 5, 20) ∷ ((key 0x31), 5, 20) ∷ []) }))) ∷
    (2, Read (records.Tx (record (spend 0x02 20) { scripts = scripts.Passed; collateral = ((ref 0x01 3) ∷ (ref 0x01 4) ∷ []); collateral_return = (Some (paying_with (address_with 1 (key 0x01) None) 10 0 (((asset (h28 0x05) []), 2) ∷ []))) }))) ∷
    (3, Read (records.Tx (record (spend 0x02 20) { scripts = scripts.Passed; collateral = ((ref 0x01 3) ∷ (ref 0x01 5) ∷ []); collateral_return = (Some (paying (address_with 1 (key 0x01) None) 10 0)) }))) ∷
    (4, Read (records.Tx (record (spend 0x02 20) { scripts = scripts.Passed; collateral = ((ref 0x01 3) ∷ (ref 0x01 5) ∷ []); collateral_return = (Some (paying_with (address_with 1 (key 0x01) None) 10 0 (((asset (h28 0x05) []), 18446744073709551615) ∷ []))) }))) ∷
    (5, Read (records.Tx (record (spend 0x02 20) { scripts = scripts.Failed; collateral = ((ref 0x01 4) ∷ (ref 0x01 5) ∷ []); collateral_return = (Some (paying_with (address_with 1 (key 0x01) None) 10 0 (((asset (h28 0x05) []), 4) ∷ []))) }))) ∷
    (6, Read (records.Tx (record (spend 0x04 4) { inputs = ((ref 0x01 2) ∷ []); scripts = scripts.Failed; collateral = ((ref 0x01 3) ∷ []); collateral_return = (Some (paying_with (address_with 1 (key 0x01) None) 14 0 (((asset (h28 0x05) []), 18446744073709551615) ∷ []))) }))) ∷
    (7, Read (records.Print what.Assets)) ∷
    (8, Read (records.Print what.State)) ∷
    []

pub collateral_sums_beyond_64_bits : says_all collateral_sums_beyond_64_bits_input (
    codes "1 genesis outputs 80 deposits 21 rewards 100 fees 0 donations 0 treasury 100 reserves 699 supply 1000" ∷
    codes "2 refused 46 CollateralAssetsWrong" ∷
    codes "3 refused 46 CollateralAssetsWrong" ∷
    codes "4 refused 46 CollateralAssetsWrong" ∷
    codes "5 accepted failed-scripts" ∷
    codes "6 accepted failed-scripts" ∷
    codes "7 asset-total 00000000000000000000000000000000000000000000000000000005 - 18446744073709551619" ∷
    codes "8 now slot 0 epoch 0 version 10.0 dormant 0" ∷
    codes "8 constitution 0000000000000000000000000000000000000000000000000000000000000001 none" ∷
    codes "8 committee threshold 0/1" ∷
    codes "8 member k00000000000000000000000000000000000000000000000000000070 term 100 hot k00000000000000000000000000000000000000000000000000000071" ∷
    codes "8 enacted committee none constitution none hardfork none parameters none" ∷
    codes "8 param maxBlockBodySize 90112" ∷
    codes "8 param maxTxSize 16384" ∷
    codes "8 param maxBlockHeaderSize 1100" ∷
    codes "8 param maxValueSize 5000" ∷
    codes "8 param maxTxExUnits 1000 1000" ∷
    codes "8 param maxBlockExUnits 1000 1000" ∷
    codes "8 param maxCollateralInputs 3" ∷
    codes "8 param minFeeA 0" ∷
    codes "8 param minFeeB 0" ∷
    codes "8 param keyDeposit 2" ∷
    codes "8 param poolDeposit 5" ∷
    codes "8 param rho 0/1" ∷
    codes "8 param tau 0/1" ∷
    codes "8 param minPoolCost 0" ∷
    codes "8 param coinsPerUTxOByte 0" ∷
    codes "8 param prices 0/1 0/1" ∷
    codes "8 param minFeeRefScriptCostPerByte 15/1" ∷
    codes "8 param a0 0/1" ∷
    codes "8 param eMax 18" ∷
    codes "8 param nOpt 500" ∷
    codes "8 param costModels 0000000000000000000000000000000000000000000000000000000000000000" ∷
    codes "8 param collateralPercentage 150" ∷
    codes "8 param poolVotingThresholds 0/1 0/1 0/1 0/1 0/1" ∷
    codes "8 param drepVotingThresholds 67/100 67/100 67/100 67/100 67/100 67/100 67/100 67/100 67/100 67/100" ∷
    codes "8 param govActionLifetime 2" ∷
    codes "8 param govActionDeposit 10" ∷
    codes "8 param drepDeposit 5" ∷
    codes "8 param drepActivity 20" ∷
    codes "8 param committeeMinSize 0" ∷
    codes "8 param committeeMaxTermLength 100" ∷
    codes "8 drep k00000000000000000000000000000000000000000000000000000030 deposit 5 expiry 20" ∷
    codes "8 drep k00000000000000000000000000000000000000000000000000000031 deposit 5 expiry 20" ∷
    codes "8 pool 00000000000000000000000000000000000000000000000000000050 deposit 5 cost 0 pledge 0 margin 0/1 account 1k00000000000000000000000000000000000000000000000000000012 retires never" ∷
    codes "8 account k00000000000000000000000000000000000000000000000000000010 stake 0 deposit 2 rewards 67 pool none drep k00000000000000000000000000000000000000000000000000000030" ∷
    codes "8 account k00000000000000000000000000000000000000000000000000000011 stake 0 deposit 2 rewards 33 pool none drep k00000000000000000000000000000000000000000000000000000031" ∷
    codes "8 account k00000000000000000000000000000000000000000000000000000012 stake 0 deposit 2 rewards 0 pool none drep none" ∷
    codes "8 output 0000000000000000000000000000000000000000000000000000000000000001#2 1k00000000000000000000000000000000000000000000000000000001 20" ∷
    codes "8 output 0000000000000000000000000000000000000000000000000000000000000002#0 1k00000000000000000000000000000000000000000000000000000001 10" ∷
    codes "8 asset 00000000000000000000000000000000000000000000000000000005 - 4" ∷
    codes "8 output 0000000000000000000000000000000000000000000000000000000000000004#0 1k00000000000000000000000000000000000000000000000000000001 14" ∷
    codes "8 asset 00000000000000000000000000000000000000000000000000000005 - 18446744073709551615" ∷
    codes "8 snapshot mark 00000000000000000000000000000000000000000000000000000050 0" ∷
    codes "8 snapshot fees 0" ∷
    codes "8 pending none" ∷
    codes "8 pots outputs 44 deposits 21 rewards 100 fees 36 donations 0 treasury 100 reserves 699 supply 1000" ∷
    []) ≡ true
unfolding digits encode_with
collateral_sums_beyond_64_bits = refl

abbrev failed_scripts_with_assets_input : List (ℕ × Reading)
failed_scripts_with_assets_input =
    (1, Read (records.Genesis (record { network = 1; slot = 0; epoch_length = 10; version = (10, 0); supply = 1000; reserves = 699; treasury = 100; params = base_params; document = (h32 0x01); script = None; committee = (Some (record { threshold = (share 0 1); members = (((key 0x70), 100, (Some (key 0x71))) ∷ []) })); outputs = (((ref 0x01 2), (address_with 1 (key 0x01) None), 20, (((asset (h28 0x05) []), 2) ∷ [])) ∷ ((ref 0x01 3), (address_with 1 (key 0x01) None), 20, (((asset (h28 0x05) []), 7) ∷ [])) ∷ ((ref 0x01 4), (address_with 1 (key 0x01) None), 20, (((asset (h28 0x06) []), 1) ∷ [])) ∷ ((ref 0x01 5), (address_with 1 (key 0x01) None), 20, []) ∷ []); accounts = (((key 0x10), 2, 67, None, (Some (drep.Registered (key 0x30)))) ∷ ((key 0x11), 2, 33, None, (Some (drep.Registered (key 0x31)))) ∷ ((key 0x12), 2, 0, None, None) ∷ []); pools = ((record { pool = (pool 0x50); deposit = 5; cost = 0; pledge = 0; margin = (share 0 1); account = (account_on 1 (key 0x12)); key = None }) ∷ []); dreps = (((key 0x30), 5, 20) ∷ ((key 0x31), 5, 20) ∷ []) }))) ∷
    (2, Read (records.Tx (record (spend 0x02 4) { outputs = ((paying_with (address_with 1 (key 0x02) None) 0 0 (((asset (h28 0x05) []), 1) ∷ [])) ∷ (paying_with (address_with 1 (key 0x03) None) 0 0 (((asset (h28 0x08) []), 1) ∷ [])) ∷ []); scripts = scripts.Failed; collateral = ((ref 0x01 3) ∷ (ref 0x01 4) ∷ []); collateral_return = (Some (paying_with (address_with 1 (key 0x04) None) 34 0 (((asset (h28 0x05) []), 7) ∷ ((asset (h28 0x06) []), 1) ∷ []))); mint = (((asset (h28 0x05) []), (pos 9)) ∷ ((asset (h28 0x06) []), (negsuc 0)) ∷ []) }))) ∷
    (3, Read (records.Print what.Assets)) ∷
    (4, Read (records.Print what.State)) ∷
    (5, Read (records.Tx (record (spend 0x02 20) { inputs = ((ref 0x01 5) ∷ []) }))) ∷
    (6, Read (records.Tx (record (spend 0x03 34) { inputs = ((ref 0x02 2) ∷ []); outputs = ((paying_with (address_with 1 (key 0x01) None) 0 0 (((asset (h28 0x05) []), 7) ∷ [])) ∷ []) }))) ∷
    (7, Read (records.Tx (record (spend 0x03 34) { inputs = ((ref 0x02 2) ∷ []); outputs = ((paying_with (address_with 1 (key 0x01) None) 0 0 (((asset (h28 0x05) []), 7) ∷ [])) ∷ []); mint = (((asset (h28 0x06) []), (negsuc 0)) ∷ []) }))) ∷
    (8, Read (records.Tx (record (spend 0x04 4) { inputs = ((ref 0x01 2) ∷ []); outputs = ((paying_with (address_with 1 (key 0x02) None) 0 0 (((asset (h28 0x05) []), 2) ∷ [])) ∷ []); scripts = scripts.Failed; collateral = ((ref 0x01 2) ∷ []); collateral_return = (Some (paying_with (address_with 1 (key 0x01) None) 14 0 (((asset (h28 0x05) []), 2) ∷ []))) }))) ∷
    (9, Read (records.Tx (record (spend 0x06 4) { inputs = ((ref 0x01 5) ∷ []); scripts = scripts.Failed; collateral = ((ref 0x01 5) ∷ []); mint = (((asset (h28 0x05) []), (pos 1)) ∷ []) }))) ∷
    (10, Read (records.Print what.Assets)) ∷
    (11, Read (records.Print what.State)) ∷
    []

pub failed_scripts_with_assets : says_all failed_scripts_with_assets_input (
    codes "1 genesis outputs 80 deposits 21 rewards 100 fees 0 donations 0 treasury 100 reserves 699 supply 1000" ∷
    codes "2 accepted failed-scripts" ∷
    codes "3 asset-total 00000000000000000000000000000000000000000000000000000005 - 9" ∷
    codes "3 asset-total 00000000000000000000000000000000000000000000000000000006 - 1" ∷
    codes "4 now slot 0 epoch 0 version 10.0 dormant 0" ∷
    codes "4 constitution 0000000000000000000000000000000000000000000000000000000000000001 none" ∷
    codes "4 committee threshold 0/1" ∷
    codes "4 member k00000000000000000000000000000000000000000000000000000070 term 100 hot k00000000000000000000000000000000000000000000000000000071" ∷
    codes "4 enacted committee none constitution none hardfork none parameters none" ∷
    codes "4 param maxBlockBodySize 90112" ∷
    codes "4 param maxTxSize 16384" ∷
    codes "4 param maxBlockHeaderSize 1100" ∷
    codes "4 param maxValueSize 5000" ∷
    codes "4 param maxTxExUnits 1000 1000" ∷
    codes "4 param maxBlockExUnits 1000 1000" ∷
    codes "4 param maxCollateralInputs 3" ∷
    codes "4 param minFeeA 0" ∷
    codes "4 param minFeeB 0" ∷
    codes "4 param keyDeposit 2" ∷
    codes "4 param poolDeposit 5" ∷
    codes "4 param rho 0/1" ∷
    codes "4 param tau 0/1" ∷
    codes "4 param minPoolCost 0" ∷
    codes "4 param coinsPerUTxOByte 0" ∷
    codes "4 param prices 0/1 0/1" ∷
    codes "4 param minFeeRefScriptCostPerByte 15/1" ∷
    codes "4 param a0 0/1" ∷
    codes "4 param eMax 18" ∷
    codes "4 param nOpt 500" ∷
    codes "4 param costModels 0000000000000000000000000000000000000000000000000000000000000000" ∷
    codes "4 param collateralPercentage 150" ∷
    codes "4 param poolVotingThresholds 0/1 0/1 0/1 0/1 0/1" ∷
    codes "4 param drepVotingThresholds 67/100 67/100 67/100 67/100 67/100 67/100 67/100 67/100 67/100 67/100" ∷
    codes "4 param govActionLifetime 2" ∷
    codes "4 param govActionDeposit 10" ∷
    codes "4 param drepDeposit 5" ∷
    codes "4 param drepActivity 20" ∷
    codes "4 param committeeMinSize 0" ∷
    codes "4 param committeeMaxTermLength 100" ∷
    codes "4 drep k00000000000000000000000000000000000000000000000000000030 deposit 5 expiry 20" ∷
    codes "4 drep k00000000000000000000000000000000000000000000000000000031 deposit 5 expiry 20" ∷
    codes "4 pool 00000000000000000000000000000000000000000000000000000050 deposit 5 cost 0 pledge 0 margin 0/1 account 1k00000000000000000000000000000000000000000000000000000012 retires never" ∷
    codes "4 account k00000000000000000000000000000000000000000000000000000010 stake 0 deposit 2 rewards 67 pool none drep k00000000000000000000000000000000000000000000000000000030" ∷
    codes "4 account k00000000000000000000000000000000000000000000000000000011 stake 0 deposit 2 rewards 33 pool none drep k00000000000000000000000000000000000000000000000000000031" ∷
    codes "4 account k00000000000000000000000000000000000000000000000000000012 stake 0 deposit 2 rewards 0 pool none drep none" ∷
    codes "4 output 0000000000000000000000000000000000000000000000000000000000000001#2 1k00000000000000000000000000000000000000000000000000000001 20" ∷
    codes "4 asset 00000000000000000000000000000000000000000000000000000005 - 2" ∷
    codes "4 output 0000000000000000000000000000000000000000000000000000000000000001#5 1k00000000000000000000000000000000000000000000000000000001 20" ∷
    codes "4 output 0000000000000000000000000000000000000000000000000000000000000002#2 1k00000000000000000000000000000000000000000000000000000004 34" ∷
    codes "4 asset 00000000000000000000000000000000000000000000000000000005 - 7" ∷
    codes "4 asset 00000000000000000000000000000000000000000000000000000006 - 1" ∷
    codes "4 snapshot mark 00000000000000000000000000000000000000000000000000000050 0" ∷
    codes "4 snapshot fees 0" ∷
    codes "4 pending none" ∷
    codes "4 pots outputs 74 deposits 21 rewards 100 fees 6 donations 0 treasury 100 reserves 699 supply 1000" ∷
    codes "5 refused 30 TxIdUsed" ∷
    codes "6 refused 111 AssetNotBalanced at 1 consumed 1 produced 0" ∷
    codes "7 accepted" ∷
    codes "8 accepted failed-scripts" ∷
    codes "9 accepted failed-scripts" ∷
    codes "10 asset-total 00000000000000000000000000000000000000000000000000000005 - 9" ∷
    codes "11 now slot 0 epoch 0 version 10.0 dormant 0" ∷
    codes "11 constitution 0000000000000000000000000000000000000000000000000000000000000001 none" ∷
    codes "11 committee threshold 0/1" ∷
    codes "11 member k00000000000000000000000000000000000000000000000000000070 term 100 hot k00000000000000000000000000000000000000000000000000000071" ∷
    codes "11 enacted committee none constitution none hardfork none parameters none" ∷
    codes "11 param maxBlockBodySize 90112" ∷
    codes "11 param maxTxSize 16384" ∷
    codes "11 param maxBlockHeaderSize 1100" ∷
    codes "11 param maxValueSize 5000" ∷
    codes "11 param maxTxExUnits 1000 1000" ∷
    codes "11 param maxBlockExUnits 1000 1000" ∷
    codes "11 param maxCollateralInputs 3" ∷
    codes "11 param minFeeA 0" ∷
    codes "11 param minFeeB 0" ∷
    codes "11 param keyDeposit 2" ∷
    codes "11 param poolDeposit 5" ∷
    codes "11 param rho 0/1" ∷
    codes "11 param tau 0/1" ∷
    codes "11 param minPoolCost 0" ∷
    codes "11 param coinsPerUTxOByte 0" ∷
    codes "11 param prices 0/1 0/1" ∷
    codes "11 param minFeeRefScriptCostPerByte 15/1" ∷
    codes "11 param a0 0/1" ∷
    codes "11 param eMax 18" ∷
    codes "11 param nOpt 500" ∷
    codes "11 param costModels 0000000000000000000000000000000000000000000000000000000000000000" ∷
    codes "11 param collateralPercentage 150" ∷
    codes "11 param poolVotingThresholds 0/1 0/1 0/1 0/1 0/1" ∷
    codes "11 param drepVotingThresholds 67/100 67/100 67/100 67/100 67/100 67/100 67/100 67/100 67/100 67/100" ∷
    codes "11 param govActionLifetime 2" ∷
    codes "11 param govActionDeposit 10" ∷
    codes "11 param drepDeposit 5" ∷
    codes "11 param drepActivity 20" ∷
    codes "11 param committeeMinSize 0" ∷
    codes "11 param committeeMaxTermLength 100" ∷
    codes "11 drep k00000000000000000000000000000000000000000000000000000030 deposit 5 expiry 20" ∷
    codes "11 drep k00000000000000000000000000000000000000000000000000000031 deposit 5 expiry 20" ∷
    codes "11 pool 00000000000000000000000000000000000000000000000000000050 deposit 5 cost 0 pledge 0 margin 0/1 account 1k00000000000000000000000000000000000000000000000000000012 retires never" ∷
    codes "11 account k00000000000000000000000000000000000000000000000000000010 stake 0 deposit 2 rewards 67 pool none drep k00000000000000000000000000000000000000000000000000000030" ∷
    codes "11 account k00000000000000000000000000000000000000000000000000000011 stake 0 deposit 2 rewards 33 pool none drep k00000000000000000000000000000000000000000000000000000031" ∷
    codes "11 account k00000000000000000000000000000000000000000000000000000012 stake 0 deposit 2 rewards 0 pool none drep none" ∷
    codes "11 output 0000000000000000000000000000000000000000000000000000000000000003#0 1k00000000000000000000000000000000000000000000000000000001 0" ∷
    codes "11 asset 00000000000000000000000000000000000000000000000000000005 - 7" ∷
    codes "11 output 0000000000000000000000000000000000000000000000000000000000000004#1 1k00000000000000000000000000000000000000000000000000000001 14" ∷
    codes "11 asset 00000000000000000000000000000000000000000000000000000005 - 2" ∷
    codes "11 snapshot mark 00000000000000000000000000000000000000000000000000000050 0" ∷
    codes "11 snapshot fees 0" ∷
    codes "11 pending none" ∷
    codes "11 pots outputs 14 deposits 21 rewards 100 fees 66 donations 0 treasury 100 reserves 699 supply 1000" ∷
    []) ≡ true
unfolding digits encode_with
failed_scripts_with_assets = refl
