-- Worked rows of whole streams: forms of assets. Made by tests/made/rows_of, from the streams of these names in tests/streams/whole.
use Rattle.std.specs.Prelude.{ℕ, ◌≡◌, List, [], ◌∷◌, Some, None, true, pos, negsuc, codes, refl}
use Rattle.std.specs.Fmt.{digits}
use Rattle.hex.specs.Hex.{encode_with}
use Rattle.gov_ids.specs.declared.Drep.TheVariants as drep
use Rattle.tx_records.specs.declared.field.FieldName.TheVariants as field
use Rattle.tx_records.specs.declared.record.Record.TheVariants as records
use Rattle.tx_records.specs.declared.record.What.TheVariants as what
use Rattle.tx_records.specs.declared.record.Reading.{Reading}
use Rattle.tx_records.specs.declared.record.Reading.TheVariants.{Read, Malformed}
use Rattle.ledger_rows.proofs.Base.{h28, h32, key, pool, account_on, address_with, ref, asset, share, base_params, spend, paying, paying_with, says_all}

abbrev malformed_assets_of_outputs_input : List (ℕ × Reading)
malformed_assets_of_outputs_input =
    (1, Read (records.Genesis (record { network = 1; slot = 0; epoch_length = 10; version = (10, 0); supply = 1000; reserves = 759; treasury = 100; params = base_params; document = (h32 0x01); script = None; committee = (Some (record { threshold = (share 0 1); members = (((key 0x70), 100, (Some (key 0x71))) ∷ []) })); outputs = (((ref 0x01 2), (address_with 1 (key 0x01) None), 20, []) ∷ []); accounts = (((key 0x10), 2, 67, None, (Some (drep.Registered (key 0x30)))) ∷ ((key 0x11), 2, 33, None, (Some (drep.Registered (key 0x31)))) ∷ ((key 0x12), 2, 0, None, None) ∷ []); pools = ((record { pool = (pool 0x50); deposit = 5; cost = 0; pledge = 0; margin = (share 0 1); account = (account_on 1 (key 0x12)); key = None }) ∷ []); dreps = (((key 0x30), 5, 20) ∷ ((key 0x31), 5, 20) ∷ []) }))) ∷
    (2, Malformed field.Outputs (Some 1)) ∷
    (3, Malformed field.Outputs (Some 0)) ∷
    (4, Malformed field.Outputs (Some 0)) ∷
    (5, Malformed field.Outputs (Some 0)) ∷
    (6, Malformed field.Outputs (Some 0)) ∷
    (7, Malformed field.Outputs (Some 0)) ∷
    (8, Malformed field.Outputs (Some 0)) ∷
    (9, Malformed field.Outputs (Some 0)) ∷
    (10, Malformed field.Outputs (Some 0)) ∷
    (11, Malformed field.Outputs (Some 0)) ∷
    (12, Malformed field.Outputs (Some 0)) ∷
    (13, Malformed field.Outputs (Some 0)) ∷
    (14, Malformed field.Outputs (Some 2)) ∷
    (15, Malformed field.Outputs (Some 0)) ∷
    (16, Malformed field.Outputs (Some 0)) ∷
    (17, Malformed field.CollateralReturn None) ∷
    (18, Malformed field.Outputs (Some 0)) ∷
    (19, Read (records.Tx (record (spend 0x02 20) { outputs = ((paying_with (address_with 1 (key 0x01) None) 0 0 (((asset (h28 0x05) []), 18446744073709551615) ∷ ((asset (h28 0x05) (0x00 ∷ [])), 1) ∷ ((asset (h28 0x05) (0xff ∷ 0xff ∷ 0xff ∷ 0xff ∷ 0xff ∷ 0xff ∷ 0xff ∷ 0xff ∷ 0xff ∷ 0xff ∷ 0xff ∷ 0xff ∷ 0xff ∷ 0xff ∷ 0xff ∷ 0xff ∷ 0xff ∷ 0xff ∷ 0xff ∷ 0xff ∷ 0xff ∷ 0xff ∷ 0xff ∷ 0xff ∷ 0xff ∷ 0xff ∷ 0xff ∷ 0xff ∷ 0xff ∷ 0xff ∷ 0xff ∷ 0xff ∷ [])), 1) ∷ ((asset (h28 0x06) []), 1) ∷ [])) ∷ (paying_with (address_with 1 (key 0x01) None) 0 0 (((asset (h28 0x05) []), 1) ∷ [])) ∷ (paying (address_with 1 (key 0x01) None) 0 0) ∷ []) }))) ∷
    (20, Read (records.Tx (record (spend 0x02 20) { outputs = ((paying_with (address_with 1 (key 0x01) None) 0 0 (((asset (h28 0x05) []), 1) ∷ ((asset (h28 0x05) (0x00 ∷ [])), 1) ∷ ((asset (h28 0x05) (0xff ∷ 0xff ∷ 0xff ∷ 0xff ∷ 0xff ∷ 0xff ∷ 0xff ∷ 0xff ∷ 0xff ∷ 0xff ∷ 0xff ∷ 0xff ∷ 0xff ∷ 0xff ∷ 0xff ∷ 0xff ∷ 0xff ∷ 0xff ∷ 0xff ∷ 0xff ∷ 0xff ∷ 0xff ∷ 0xff ∷ 0xff ∷ 0xff ∷ 0xff ∷ 0xff ∷ 0xff ∷ 0xff ∷ 0xff ∷ 0xff ∷ 0xff ∷ [])), 1) ∷ ((asset (h28 0x06) []), 1) ∷ [])) ∷ (paying_with (address_with 1 (key 0x01) None) 0 0 (((asset (h28 0x05) []), 1) ∷ [])) ∷ (paying (address_with 1 (key 0x01) None) 0 0) ∷ (paying (address_with 1 (key 0x01) None) 0 0) ∷ []); mint = (((asset (h28 0x05) []), (pos 2)) ∷ ((asset (h28 0x05) (0x00 ∷ [])), (pos 1)) ∷ ((asset (h28 0x05) (0xff ∷ 0xff ∷ 0xff ∷ 0xff ∷ 0xff ∷ 0xff ∷ 0xff ∷ 0xff ∷ 0xff ∷ 0xff ∷ 0xff ∷ 0xff ∷ 0xff ∷ 0xff ∷ 0xff ∷ 0xff ∷ 0xff ∷ 0xff ∷ 0xff ∷ 0xff ∷ 0xff ∷ 0xff ∷ 0xff ∷ 0xff ∷ 0xff ∷ 0xff ∷ 0xff ∷ 0xff ∷ 0xff ∷ 0xff ∷ 0xff ∷ 0xff ∷ [])), (pos 1)) ∷ ((asset (h28 0x06) []), (pos 1)) ∷ []) }))) ∷
    (21, Read (records.Print what.Assets)) ∷
    []

pub malformed_assets_of_outputs : says_all malformed_assets_of_outputs_input (
    codes "1 genesis outputs 20 deposits 21 rewards 100 fees 0 donations 0 treasury 100 reserves 759 supply 1000" ∷
    codes "2 refused 1 Malformed outputs[1]" ∷
    codes "3 refused 1 Malformed outputs[0]" ∷
    codes "4 refused 1 Malformed outputs[0]" ∷
    codes "5 refused 1 Malformed outputs[0]" ∷
    codes "6 refused 1 Malformed outputs[0]" ∷
    codes "7 refused 1 Malformed outputs[0]" ∷
    codes "8 refused 1 Malformed outputs[0]" ∷
    codes "9 refused 1 Malformed outputs[0]" ∷
    codes "10 refused 1 Malformed outputs[0]" ∷
    codes "11 refused 1 Malformed outputs[0]" ∷
    codes "12 refused 1 Malformed outputs[0]" ∷
    codes "13 refused 1 Malformed outputs[0]" ∷
    codes "14 refused 1 Malformed outputs[2]" ∷
    codes "15 refused 1 Malformed outputs[0]" ∷
    codes "16 refused 1 Malformed outputs[0]" ∷
    codes "17 refused 1 Malformed collateralReturn" ∷
    codes "18 refused 1 Malformed outputs[0]" ∷
    codes "19 refused 111 AssetNotBalanced at 0 consumed 0 produced 18446744073709551616" ∷
    codes "20 accepted" ∷
    codes "21 asset-total 00000000000000000000000000000000000000000000000000000005 - 2" ∷
    codes "21 asset-total 00000000000000000000000000000000000000000000000000000005 00 1" ∷
    codes "21 asset-total 00000000000000000000000000000000000000000000000000000005 ffffffffffffffffffffffffffffffffffffffffffffffffffffffffffffffff 1" ∷
    codes "21 asset-total 00000000000000000000000000000000000000000000000000000006 - 1" ∷
    []) ≡ true
unfolding digits encode_with
malformed_assets_of_outputs = refl

abbrev malformed_mints_input : List (ℕ × Reading)
malformed_mints_input =
    (1, Read (records.Genesis (record { network = 1; slot = 0; epoch_length = 10; version = (10, 0); supply = 1000; reserves = 719; treasury = 100; params = base_params; document = (h32 0x01); script = None; committee = (Some (record { threshold = (share 0 1); members = (((key 0x70), 100, (Some (key 0x71))) ∷ []) })); outputs = (((ref 0x01 2), (address_with 1 (key 0x01) None), 20, []) ∷ ((ref 0x01 3), (address_with 1 (key 0x01) None), 20, []) ∷ ((ref 0x01 4), (address_with 1 (key 0x01) None), 20, []) ∷ []); accounts = (((key 0x10), 2, 67, None, (Some (drep.Registered (key 0x30)))) ∷ ((key 0x11), 2, 33, None, (Some (drep.Registered (key 0x31)))) ∷ ((key 0x12), 2, 0, None, None) ∷ []); pools = ((record { pool = (pool 0x50); deposit = 5; cost = 0; pledge = 0; margin = (share 0 1); account = (account_on 1 (key 0x12)); key = None }) ∷ []); dreps = (((key 0x30), 5, 20) ∷ ((key 0x31), 5, 20) ∷ []) }))) ∷
    (2, Malformed field.Mint (Some 1)) ∷
    (3, Malformed field.Mint (Some 0)) ∷
    (4, Malformed field.Mint (Some 1)) ∷
    (5, Malformed field.Mint (Some 0)) ∷
    (6, Malformed field.Mint (Some 0)) ∷
    (7, Malformed field.Mint (Some 0)) ∷
    (8, Malformed field.Mint (Some 0)) ∷
    (9, Malformed field.Mint (Some 2)) ∷
    (10, Malformed field.Mint (Some 0)) ∷
    (11, Malformed field.Mint (Some 0)) ∷
    (12, Malformed field.Mint (Some 0)) ∷
    (13, Malformed field.Mint None) ∷
    (14, Malformed field.CollateralReturn None) ∷
    (15, Malformed field.Mint (Some 0)) ∷
    (16, Malformed field.Collateral None) ∷
    (17, Read (records.Tx (spend 0x02 20))) ∷
    (18, Read (records.Tx (spend 0x03 20))) ∷
    (19, Read (records.Tx (record (spend 0x04 20) { outputs = ((paying_with (address_with 1 (key 0x01) None) 0 0 (((asset (h28 0x05) []), 9223372036854775807) ∷ ((asset (h28 0x05) (0xff ∷ 0xff ∷ 0xff ∷ 0xff ∷ 0xff ∷ 0xff ∷ 0xff ∷ 0xff ∷ 0xff ∷ 0xff ∷ 0xff ∷ 0xff ∷ 0xff ∷ 0xff ∷ 0xff ∷ 0xff ∷ 0xff ∷ 0xff ∷ 0xff ∷ 0xff ∷ 0xff ∷ 0xff ∷ 0xff ∷ 0xff ∷ 0xff ∷ 0xff ∷ 0xff ∷ 0xff ∷ 0xff ∷ 0xff ∷ 0xff ∷ 0xff ∷ [])), 1) ∷ ((asset (h28 0x06) []), 1) ∷ [])) ∷ []); mint = (((asset (h28 0x05) []), (pos 9223372036854775807)) ∷ ((asset (h28 0x05) (0xff ∷ 0xff ∷ 0xff ∷ 0xff ∷ 0xff ∷ 0xff ∷ 0xff ∷ 0xff ∷ 0xff ∷ 0xff ∷ 0xff ∷ 0xff ∷ 0xff ∷ 0xff ∷ 0xff ∷ 0xff ∷ 0xff ∷ 0xff ∷ 0xff ∷ 0xff ∷ 0xff ∷ 0xff ∷ 0xff ∷ 0xff ∷ 0xff ∷ 0xff ∷ 0xff ∷ 0xff ∷ 0xff ∷ 0xff ∷ 0xff ∷ 0xff ∷ [])), (pos 1)) ∷ ((asset (h28 0x06) []), (pos 1)) ∷ []) }))) ∷
    (20, Read (records.Tx (record (spend 0x05 0) { inputs = ((ref 0x04 0) ∷ []); outputs = ((paying_with (address_with 1 (key 0x01) None) 0 0 (((asset (h28 0x05) (0xff ∷ 0xff ∷ 0xff ∷ 0xff ∷ 0xff ∷ 0xff ∷ 0xff ∷ 0xff ∷ 0xff ∷ 0xff ∷ 0xff ∷ 0xff ∷ 0xff ∷ 0xff ∷ 0xff ∷ 0xff ∷ 0xff ∷ 0xff ∷ 0xff ∷ 0xff ∷ 0xff ∷ 0xff ∷ 0xff ∷ 0xff ∷ 0xff ∷ 0xff ∷ 0xff ∷ 0xff ∷ 0xff ∷ 0xff ∷ 0xff ∷ 0xff ∷ [])), 1) ∷ ((asset (h28 0x06) []), 1) ∷ [])) ∷ []); mint = (((asset (h28 0x05) []), (negsuc 9223372036854775806)) ∷ []) }))) ∷
    (21, Malformed field.What None) ∷
    (22, Read (records.Print what.Assets)) ∷
    []

pub malformed_mints : says_all malformed_mints_input (
    codes "1 genesis outputs 60 deposits 21 rewards 100 fees 0 donations 0 treasury 100 reserves 719 supply 1000" ∷
    codes "2 refused 1 Malformed mint[1]" ∷
    codes "3 refused 1 Malformed mint[0]" ∷
    codes "4 refused 1 Malformed mint[1]" ∷
    codes "5 refused 1 Malformed mint[0]" ∷
    codes "6 refused 1 Malformed mint[0]" ∷
    codes "7 refused 1 Malformed mint[0]" ∷
    codes "8 refused 1 Malformed mint[0]" ∷
    codes "9 refused 1 Malformed mint[2]" ∷
    codes "10 refused 1 Malformed mint[0]" ∷
    codes "11 refused 1 Malformed mint[0]" ∷
    codes "12 refused 1 Malformed mint[0]" ∷
    codes "13 refused 1 Malformed mint" ∷
    codes "14 refused 1 Malformed collateralReturn" ∷
    codes "15 refused 1 Malformed mint[0]" ∷
    codes "16 refused 1 Malformed collateral" ∷
    codes "17 accepted" ∷
    codes "18 accepted" ∷
    codes "19 accepted" ∷
    codes "20 accepted" ∷
    codes "21 refused 1 Malformed what" ∷
    codes "22 asset-total 00000000000000000000000000000000000000000000000000000005 ffffffffffffffffffffffffffffffffffffffffffffffffffffffffffffffff 1" ∷
    codes "22 asset-total 00000000000000000000000000000000000000000000000000000006 - 1" ∷
    []) ≡ true
unfolding digits encode_with
malformed_mints = refl

abbrev assets_of_a_genesis_input : List (ℕ × Reading)
assets_of_a_genesis_input =
    (1, Read (records.Genesis (record { network = 1; slot = 0; epoch_length = 10; version = (10, 0); supply = 1000; reserves = 719; treasury = 100; params = base_params; document = (h32 0x01); script = None; committee = (Some (record { threshold = (share 0 1); members = (((key 0x70), 100, (Some (key 0x71))) ∷ []) })); outputs = (((ref 0x01 2), (address_with 1 (key 0x01) None), 20, (((asset (h28 0x05) []), 4) ∷ ((asset (h28 0x06) []), 18446744073709551615) ∷ [])) ∷ ((ref 0x01 3), (address_with 1 (key 0x01) None), 20, []) ∷ ((ref 0x01 4), (address_with 1 (key 0x01) None), 20, (((asset (h28 0x05) []), 3) ∷ [])) ∷ []); accounts = (((key 0x10), 2, 67, None, (Some (drep.Registered (key 0x30)))) ∷ ((key 0x11), 2, 33, None, (Some (drep.Registered (key 0x31)))) ∷ ((key 0x12), 2, 0, None, None) ∷ []); pools = ((record { pool = (pool 0x50); deposit = 5; cost = 0; pledge = 0; margin = (share 0 1); account = (account_on 1 (key 0x12)); key = None }) ∷ []); dreps = (((key 0x30), 5, 20) ∷ ((key 0x31), 5, 20) ∷ []) }))) ∷
    (2, Read (records.Print what.Assets)) ∷
    (3, Read (records.Print what.State)) ∷
    (4, Read (records.Tx (record (spend 0x02 40) { inputs = ((ref 0x01 2) ∷ (ref 0x01 4) ∷ []); outputs = ((paying_with (address_with 1 (key 0x01) None) 0 0 (((asset (h28 0x05) []), 9) ∷ [])) ∷ []); mint = (((asset (h28 0x05) []), (pos 1)) ∷ []) }))) ∷
    (5, Read (records.Tx (record (spend 0x02 40) { inputs = ((ref 0x01 2) ∷ (ref 0x01 4) ∷ []); outputs = ((paying_with (address_with 1 (key 0x01) None) 0 0 (((asset (h28 0x05) []), 8) ∷ [])) ∷ []); mint = (((asset (h28 0x05) []), (pos 1)) ∷ []) }))) ∷
    (6, Malformed field.Outputs (Some 1)) ∷
    (7, Malformed field.Outputs (Some 0)) ∷
    (8, Malformed field.Outputs (Some 0)) ∷
    (9, Malformed field.Outputs (Some 2)) ∷
    (10, Malformed field.Outputs (Some 0)) ∷
    (11, Read (records.Genesis (record { network = 1; slot = 0; epoch_length = 10; version = (10, 0); supply = 999; reserves = 739; treasury = 100; params = base_params; document = (h32 0x01); script = None; committee = (Some (record { threshold = (share 0 1); members = (((key 0x70), 100, (Some (key 0x71))) ∷ []) })); outputs = (((ref 0x01 2), (address_with 1 (key 0x01) None), 20, (((asset (h28 0x05) []), 1) ∷ [])) ∷ ((ref 0x01 3), (address_with 1 (key 0x01) None), 20, []) ∷ []); accounts = (((key 0x10), 2, 67, None, (Some (drep.Registered (key 0x30)))) ∷ ((key 0x11), 2, 33, None, (Some (drep.Registered (key 0x31)))) ∷ ((key 0x12), 2, 0, None, None) ∷ []); pools = ((record { pool = (pool 0x50); deposit = 5; cost = 0; pledge = 0; margin = (share 0 1); account = (account_on 1 (key 0x12)); key = None }) ∷ []); dreps = (((key 0x30), 5, 20) ∷ ((key 0x31), 5, 20) ∷ []) }))) ∷
    (12, Read (records.Tx (record (spend 0x04 40) { inputs = ((ref 0x01 3) ∷ (ref 0x01 4) ∷ []); outputs = ((paying_with (address_with 1 (key 0x01) None) 0 0 (((asset (h28 0x05) []), 2) ∷ [])) ∷ (paying_with (address_with 1 (key 0x01) None) 0 0 (((asset (h28 0x05) []), 1) ∷ [])) ∷ []) }))) ∷
    (13, Read (records.Print what.Assets)) ∷
    []

pub assets_of_a_genesis : says_all assets_of_a_genesis_input (
    codes "1 genesis outputs 60 deposits 21 rewards 100 fees 0 donations 0 treasury 100 reserves 719 supply 1000" ∷
    codes "2 asset-total 00000000000000000000000000000000000000000000000000000005 - 7" ∷
    codes "2 asset-total 00000000000000000000000000000000000000000000000000000006 - 18446744073709551615" ∷
    codes "3 now slot 0 epoch 0 version 10.0 dormant 0" ∷
    codes "3 constitution 0000000000000000000000000000000000000000000000000000000000000001 none" ∷
    codes "3 committee threshold 0/1" ∷
    codes "3 member k00000000000000000000000000000000000000000000000000000070 term 100 hot k00000000000000000000000000000000000000000000000000000071" ∷
    codes "3 enacted committee none constitution none hardfork none parameters none" ∷
    codes "3 param maxBlockBodySize 90112" ∷
    codes "3 param maxTxSize 16384" ∷
    codes "3 param maxBlockHeaderSize 1100" ∷
    codes "3 param maxValueSize 5000" ∷
    codes "3 param maxTxExUnits 1000 1000" ∷
    codes "3 param maxBlockExUnits 1000 1000" ∷
    codes "3 param maxCollateralInputs 3" ∷
    codes "3 param minFeeA 0" ∷
    codes "3 param minFeeB 0" ∷
    codes "3 param keyDeposit 2" ∷
    codes "3 param poolDeposit 5" ∷
    codes "3 param rho 0/1" ∷
    codes "3 param tau 0/1" ∷
    codes "3 param minPoolCost 0" ∷
    codes "3 param coinsPerUTxOByte 0" ∷
    codes "3 param prices 0/1 0/1" ∷
    codes "3 param minFeeRefScriptCostPerByte 15/1" ∷
    codes "3 param a0 0/1" ∷
    codes "3 param eMax 18" ∷
    codes "3 param nOpt 500" ∷
    codes "3 param costModels 0000000000000000000000000000000000000000000000000000000000000000" ∷
    codes "3 param collateralPercentage 150" ∷
    codes "3 param poolVotingThresholds 0/1 0/1 0/1 0/1 0/1" ∷
    codes "3 param drepVotingThresholds 67/100 67/100 67/100 67/100 67/100 67/100 67/100 67/100 67/100 67/100" ∷
    codes "3 param govActionLifetime 2" ∷
    codes "3 param govActionDeposit 10" ∷
    codes "3 param drepDeposit 5" ∷
    codes "3 param drepActivity 20" ∷
    codes "3 param committeeMinSize 0" ∷
    codes "3 param committeeMaxTermLength 100" ∷
    codes "3 drep k00000000000000000000000000000000000000000000000000000030 deposit 5 expiry 20" ∷
    codes "3 drep k00000000000000000000000000000000000000000000000000000031 deposit 5 expiry 20" ∷
    codes "3 pool 00000000000000000000000000000000000000000000000000000050 deposit 5 cost 0 pledge 0 margin 0/1 account 1k00000000000000000000000000000000000000000000000000000012 retires never" ∷
    codes "3 account k00000000000000000000000000000000000000000000000000000010 stake 0 deposit 2 rewards 67 pool none drep k00000000000000000000000000000000000000000000000000000030" ∷
    codes "3 account k00000000000000000000000000000000000000000000000000000011 stake 0 deposit 2 rewards 33 pool none drep k00000000000000000000000000000000000000000000000000000031" ∷
    codes "3 account k00000000000000000000000000000000000000000000000000000012 stake 0 deposit 2 rewards 0 pool none drep none" ∷
    codes "3 output 0000000000000000000000000000000000000000000000000000000000000001#2 1k00000000000000000000000000000000000000000000000000000001 20" ∷
    codes "3 asset 00000000000000000000000000000000000000000000000000000005 - 4" ∷
    codes "3 asset 00000000000000000000000000000000000000000000000000000006 - 18446744073709551615" ∷
    codes "3 output 0000000000000000000000000000000000000000000000000000000000000001#3 1k00000000000000000000000000000000000000000000000000000001 20" ∷
    codes "3 output 0000000000000000000000000000000000000000000000000000000000000001#4 1k00000000000000000000000000000000000000000000000000000001 20" ∷
    codes "3 asset 00000000000000000000000000000000000000000000000000000005 - 3" ∷
    codes "3 snapshot mark 00000000000000000000000000000000000000000000000000000050 0" ∷
    codes "3 snapshot fees 0" ∷
    codes "3 pending none" ∷
    codes "3 pots outputs 60 deposits 21 rewards 100 fees 0 donations 0 treasury 100 reserves 719 supply 1000" ∷
    codes "4 refused 111 AssetNotBalanced at 0 consumed 8 produced 9" ∷
    codes "5 refused 111 AssetNotBalanced at 1 consumed 18446744073709551615 produced 0" ∷
    codes "6 refused 1 Malformed outputs[1]" ∷
    codes "7 refused 1 Malformed outputs[0]" ∷
    codes "8 refused 1 Malformed outputs[0]" ∷
    codes "9 refused 1 Malformed outputs[2]" ∷
    codes "10 refused 1 Malformed outputs[0]" ∷
    codes "11 refused 3 GenesisAgain" ∷
    codes "12 accepted" ∷
    codes "13 asset-total 00000000000000000000000000000000000000000000000000000005 - 7" ∷
    codes "13 asset-total 00000000000000000000000000000000000000000000000000000006 - 18446744073709551615" ∷
    []) ≡ true
unfolding digits encode_with
assets_of_a_genesis = refl
