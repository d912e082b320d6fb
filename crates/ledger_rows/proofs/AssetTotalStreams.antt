-- Worked rows of whole streams: texts, totals and stake. Made by tests/made/rows_of, from the streams of these names in tests/streams/whole.
use Rattle.std.specs.Prelude.{ℕ, ◌≡◌, List, [], ◌∷◌, Some, None, true, pos, negsuc, codes, refl}
use Rattle.std.specs.Fmt.{digits}
use Rattle.hex.specs.Hex.{encode_with}
use Rattle.gov_ids.specs.declared.Drep.TheVariants as drep
use Rattle.tx_records.specs.declared.record.Record.TheVariants as records
use Rattle.tx_records.specs.declared.record.What.TheVariants as what
use Rattle.tx_records.specs.declared.tx.Scripts.TheVariants as scripts
use Rattle.tx_records.specs.declared.record.Reading.{Reading}
use Rattle.tx_records.specs.declared.record.Reading.TheVariants.{Read}
use Rattle.ledger_rows.proofs.Base.{h28, h32, key, pool, account_on, address_with, ref, asset, share, base_params, spend, paying, paying_with, says_all}

abbrev assets_in_order_input : List (ℕ × Reading)
assets_in_order_input =
    (1, Read (records.Genesis (record { network = 1; slot = 0; epoch_length = 10; version = (10, 0); supply = 1000; reserves = 739; treasury = 100; params = base_params; document = (h32 0x01); script = None; committee = (Some (record { threshold = (share 0 1); members = (((key 0x70), 100, (Some (key 0x71))) ∷ []) })); outputs = (((ref 0x01 2), (address_with 1 (key 0x01) None), 20, []) ∷ ((ref 0x01 3), (address_with 1 (key 0x01) None), 20, (((asset (h28 0x05) (0x00 ∷ [])), 8) ∷ ((asset (h28 0x05) (0x00 ∷ 0x00 ∷ [])), 9) ∷ ((asset (h28 0x05) (0x01 ∷ [])), 2) ∷ ((asset (h28 0x05) (0x01 ∷ 0x00 ∷ [])), 1) ∷ ((asset (h28 0x05) (0x02 ∷ [])), 5) ∷ ((asset (h28 0x09) []), 3) ∷ ((asset (h28 0x10) []), 4) ∷ [])) ∷ []); accounts = (((key 0x10), 2, 67, None, (Some (drep.Registered (key 0x30)))) ∷ ((key 0x11), 2, 33, None, (Some (drep.Registered (key 0x31)))) ∷ ((key 0x12), 2, 0, None, None) ∷ []); pools = ((record { pool = (pool 0x50); deposit = 5; cost = 0; pledge = 0; margin = (share 0 1); account = (account_on 1 (key 0x12)); key = None }) ∷ []); dreps = (((key 0x30), 5, 20) ∷ ((key 0x31), 5, 20) ∷ []) }))) ∷
    (2, Read (records.Print what.Assets)) ∷
    (3, Read (records.Tx (record (spend 0x02 18) { outputs = ((paying_with (address_with 1 (key 0x02) None) 1 0 (((asset (h28 0x05) []), 6) ∷ ((asset (h28 0x05) (0x02 ∷ [])), 1) ∷ ((asset (h28 0x05) (0xff ∷ 0xff ∷ 0xff ∷ 0xff ∷ 0xff ∷ 0xff ∷ 0xff ∷ 0xff ∷ 0xff ∷ 0xff ∷ 0xff ∷ 0xff ∷ 0xff ∷ 0xff ∷ 0xff ∷ 0xff ∷ 0xff ∷ 0xff ∷ 0xff ∷ 0xff ∷ 0xff ∷ 0xff ∷ 0xff ∷ 0xff ∷ 0xff ∷ 0xff ∷ 0xff ∷ 0xff ∷ 0xff ∷ 0xff ∷ 0xff ∷ 0xff ∷ [])), 7) ∷ ((asset (0x01 ∷ 0x00 ∷ 0x00 ∷ 0x00 ∷ 0x00 ∷ 0x00 ∷ 0x00 ∷ 0x00 ∷ 0x00 ∷ 0x00 ∷ 0x00 ∷ 0x00 ∷ 0x00 ∷ 0x00 ∷ 0x00 ∷ 0x00 ∷ 0x00 ∷ 0x00 ∷ 0x00 ∷ 0x00 ∷ 0x00 ∷ 0x00 ∷ 0x00 ∷ 0x00 ∷ 0x00 ∷ 0x00 ∷ 0x00 ∷ 0x00 ∷ []) []), 1) ∷ [])) ∷ (paying (address_with 1 (key 0x01) None) 0 0) ∷ (paying_with (address_with 1 (key 0x02) None) 1 0 (((asset (h28 0x05) (0x02 ∷ [])), 3) ∷ ((asset (h28 0xa0) (0xff ∷ [])), 2) ∷ ((asset (h28 0xab) (0x01 ∷ 0x00 ∷ [])), 5) ∷ [])) ∷ []); mint = (((asset (h28 0x05) []), (pos 6)) ∷ ((asset (h28 0x05) (0x02 ∷ [])), (pos 4)) ∷ ((asset (h28 0x05) (0xff ∷ 0xff ∷ 0xff ∷ 0xff ∷ 0xff ∷ 0xff ∷ 0xff ∷ 0xff ∷ 0xff ∷ 0xff ∷ 0xff ∷ 0xff ∷ 0xff ∷ 0xff ∷ 0xff ∷ 0xff ∷ 0xff ∷ 0xff ∷ 0xff ∷ 0xff ∷ 0xff ∷ 0xff ∷ 0xff ∷ 0xff ∷ 0xff ∷ 0xff ∷ 0xff ∷ 0xff ∷ 0xff ∷ 0xff ∷ 0xff ∷ 0xff ∷ [])), (pos 7)) ∷ ((asset (h28 0xa0) (0xff ∷ [])), (pos 2)) ∷ ((asset (h28 0xab) (0x01 ∷ 0x00 ∷ [])), (pos 5)) ∷ ((asset (0x01 ∷ 0x00 ∷ 0x00 ∷ 0x00 ∷ 0x00 ∷ 0x00 ∷ 0x00 ∷ 0x00 ∷ 0x00 ∷ 0x00 ∷ 0x00 ∷ 0x00 ∷ 0x00 ∷ 0x00 ∷ 0x00 ∷ 0x00 ∷ 0x00 ∷ 0x00 ∷ 0x00 ∷ 0x00 ∷ 0x00 ∷ 0x00 ∷ 0x00 ∷ 0x00 ∷ 0x00 ∷ 0x00 ∷ 0x00 ∷ 0x00 ∷ []) []), (pos 1)) ∷ []) }))) ∷
    (4, Read (records.Print what.State)) ∷
    (5, Read (records.Print what.Assets)) ∷
    (6, Read (records.Tx (record (spend 0x03 20) { outputs = ((paying_with (address_with 1 (key 0x03) None) 0 0 (((asset (h28 0x05) (0x00 ∷ [])), 8) ∷ ((asset (h28 0x05) (0x00 ∷ 0x00 ∷ [])), 9) ∷ ((asset (h28 0x05) (0x01 ∷ [])), 2) ∷ ((asset (h28 0x05) (0x01 ∷ 0x00 ∷ [])), 1) ∷ ((asset (h28 0x05) (0x02 ∷ [])), 5) ∷ ((asset (h28 0x09) []), 3) ∷ ((asset (h28 0x10) []), 4) ∷ [])) ∷ []) }))) ∷
    (7, Read (records.Print what.Assets)) ∷
    []

pub assets_in_order : says_all assets_in_order_input (
    codes "1 genesis outputs 40 deposits 21 rewards 100 fees 0 donations 0 treasury 100 reserves 739 supply 1000" ∷
    codes "2 asset-total 00000000000000000000000000000000000000000000000000000005 00 8" ∷
    codes "2 asset-total 00000000000000000000000000000000000000000000000000000005 0000 9" ∷
    codes "2 asset-total 00000000000000000000000000000000000000000000000000000005 01 2" ∷
    codes "2 asset-total 00000000000000000000000000000000000000000000000000000005 0100 1" ∷
    codes "2 asset-total 00000000000000000000000000000000000000000000000000000005 02 5" ∷
    codes "2 asset-total 00000000000000000000000000000000000000000000000000000009 - 3" ∷
    codes "2 asset-total 00000000000000000000000000000000000000000000000000000010 - 4" ∷
    codes "3 accepted" ∷
    codes "4 now slot 0 epoch 0 version 10.0 dormant 0" ∷
    codes "4 constitution 0000000000000000000000000000000000000000000000000000000000000001 none" ∷
    codes "4 committee threshold 0/1" ∷
    codes "4 member k00000000000000000000000000000000000000000000000000000070 term 100 hot k00000000000000000000000000000000000000000000000000000071" ∷
    codes "4 enacted committee none constitution none hardfork none parameters none" ∷
    codes "4 param maxBlockBodySize 90112" ∷
    codes "4 param maxTxSize 16384" ∷
    codes "4 param maxBlockHeaderSize 1100" ∷
    codes "4 param maxValueSize 5000" ∷
    codes "4 param maxTxExUnits 1000 1000" ∷
    codes "4 param maxBlockExUnits 1000 1000" ∷
    codes "4 param maxCollateralInputs 3" ∷
    codes "4 param minFeeA 0" ∷
    codes "4 param minFeeB 0" ∷
    codes "4 param keyDeposit 2" ∷
    codes "4 param poolDeposit 5" ∷
    codes "4 param rho 0/1" ∷
    codes "4 param tau 0/1" ∷
    codes "4 param minPoolCost 0" ∷
    codes "4 param coinsPerUTxOByte 0" ∷
    codes "4 param prices 0/1 0/1" ∷
    codes "4 param minFeeRefScriptCostPerByte 15/1" ∷
    codes "4 param a0 0/1" ∷
    codes "4 param eMax 18" ∷
    codes "4 param nOpt 500" ∷
    codes "4 param costModels 0000000000000000000000000000000000000000000000000000000000000000" ∷
    codes "4 param collateralPercentage 150" ∷
    codes "4 param poolVotingThresholds 0/1 0/1 0/1 0/1 0/1" ∷
    codes "4 param drepVotingThresholds 67/100 67/100 67/100 67/100 67/100 67/100 67/100 67/100 67/100 67/100" ∷
    codes "4 param govActionLifetime 2" ∷
    codes "4 param govActionDeposit 10" ∷
    codes "4 param drepDeposit 5" ∷
    codes "4 param drepActivity 20" ∷
    codes "4 param committeeMinSize 0" ∷
    codes "4 param committeeMaxTermLength 100" ∷
    codes "4 drep k00000000000000000000000000000000000000000000000000000030 deposit 5 expiry 20" ∷
    codes "4 drep k00000000000000000000000000000000000000000000000000000031 deposit 5 expiry 20" ∷
    codes "4 pool 00000000000000000000000000000000000000000000000000000050 deposit 5 cost 0 pledge 0 margin 0/1 account 1k00000000000000000000000000000000000000000000000000000012 retires never" ∷
    codes "4 account k00000000000000000000000000000000000000000000000000000010 stake 0 deposit 2 rewards 67 pool none drep k00000000000000000000000000000000000000000000000000000030" ∷
    codes "4 account k00000000000000000000000000000000000000000000000000000011 stake 0 deposit 2 rewards 33 pool none drep k00000000000000000000000000000000000000000000000000000031" ∷
    codes "4 account k00000000000000000000000000000000000000000000000000000012 stake 0 deposit 2 rewards 0 pool none drep none" ∷
    codes "4 output 0000000000000000000000000000000000000000000000000000000000000001#3 1k00000000000000000000000000000000000000000000000000000001 20" ∷
    codes "4 asset 00000000000000000000000000000000000000000000000000000005 00 8" ∷
    codes "4 asset 00000000000000000000000000000000000000000000000000000005 0000 9" ∷
    codes "4 asset 00000000000000000000000000000000000000000000000000000005 01 2" ∷
    codes "4 asset 00000000000000000000000000000000000000000000000000000005 0100 1" ∷
    codes "4 asset 00000000000000000000000000000000000000000000000000000005 02 5" ∷
    codes "4 asset 00000000000000000000000000000000000000000000000000000009 - 3" ∷
    codes "4 asset 00000000000000000000000000000000000000000000000000000010 - 4" ∷
    codes "4 output 0000000000000000000000000000000000000000000000000000000000000002#0 1k00000000000000000000000000000000000000000000000000000002 1" ∷
    codes "4 asset 00000000000000000000000000000000000000000000000000000005 - 6" ∷
    codes "4 asset 00000000000000000000000000000000000000000000000000000005 02 1" ∷
    codes "4 asset 00000000000000000000000000000000000000000000000000000005 ffffffffffffffffffffffffffffffffffffffffffffffffffffffffffffffff 7" ∷
    codes "4 asset 01000000000000000000000000000000000000000000000000000000 - 1" ∷
    codes "4 output 0000000000000000000000000000000000000000000000000000000000000002#1 1k00000000000000000000000000000000000000000000000000000001 0" ∷
    codes "4 output 0000000000000000000000000000000000000000000000000000000000000002#2 1k00000000000000000000000000000000000000000000000000000002 1" ∷
    codes "4 asset 00000000000000000000000000000000000000000000000000000005 02 3" ∷
    codes "4 asset 000000000000000000000000000000000000000000000000000000a0 ff 2" ∷
    codes "4 asset 000000000000000000000000000000000000000000000000000000ab 0100 5" ∷
    codes "4 snapshot mark 00000000000000000000000000000000000000000000000000000050 0" ∷
    codes "4 snapshot fees 0" ∷
    codes "4 pending none" ∷
    codes "4 pots outputs 22 deposits 21 rewards 100 fees 18 donations 0 treasury 100 reserves 739 supply 1000" ∷
    codes "5 asset-total 00000000000000000000000000000000000000000000000000000005 - 6" ∷
    codes "5 asset-total 00000000000000000000000000000000000000000000000000000005 00 8" ∷
    codes "5 asset-total 00000000000000000000000000000000000000000000000000000005 0000 9" ∷
    codes "5 asset-total 00000000000000000000000000000000000000000000000000000005 01 2" ∷
    codes "5 asset-total 00000000000000000000000000000000000000000000000000000005 0100 1" ∷
    codes "5 asset-total 00000000000000000000000000000000000000000000000000000005 02 9" ∷
    codes "5 asset-total 00000000000000000000000000000000000000000000000000000005 ffffffffffffffffffffffffffffffffffffffffffffffffffffffffffffffff 7" ∷
    codes "5 asset-total 00000000000000000000000000000000000000000000000000000009 - 3" ∷
    codes "5 asset-total 00000000000000000000000000000000000000000000000000000010 - 4" ∷
    codes "5 asset-total 000000000000000000000000000000000000000000000000000000a0 ff 2" ∷
    codes "5 asset-total 000000000000000000000000000000000000000000000000000000ab 0100 5" ∷
    codes "5 asset-total 01000000000000000000000000000000000000000000000000000000 - 1" ∷
    codes "6 accepted" ∷
    codes "7 asset-total 00000000000000000000000000000000000000000000000000000005 - 6" ∷
    codes "7 asset-total 00000000000000000000000000000000000000000000000000000005 00 8" ∷
    codes "7 asset-total 00000000000000000000000000000000000000000000000000000005 0000 9" ∷
    codes "7 asset-total 00000000000000000000000000000000000000000000000000000005 01 2" ∷
    codes "7 asset-total 00000000000000000000000000000000000000000000000000000005 0100 1" ∷
    codes "7 asset-total 00000000000000000000000000000000000000000000000000000005 02 9" ∷
    codes "7 asset-total 00000000000000000000000000000000000000000000000000000005 ffffffffffffffffffffffffffffffffffffffffffffffffffffffffffffffff 7" ∷
    codes "7 asset-total 00000000000000000000000000000000000000000000000000000009 - 3" ∷
    codes "7 asset-total 00000000000000000000000000000000000000000000000000000010 - 4" ∷
    codes "7 asset-total 000000000000000000000000000000000000000000000000000000a0 ff 2" ∷
    codes "7 asset-total 000000000000000000000000000000000000000000000000000000ab 0100 5" ∷
    codes "7 asset-total 01000000000000000000000000000000000000000000000000000000 - 1" ∷
    []) ≡ true
unfolding digits encode_with
assets_in_order = refl

abbrev totals_back_to_zero_input : List (ℕ × Reading)
totals_back_to_zero_input =
    (1, Read (records.Genesis (record { network = 1; slot = 0; epoch_length = 10; version = (10, 0); supply = 1000; reserves = 679; treasury = 100; params = base_params; document = (h32 0x01); script = None; committee = (Some (record { threshold = (share 0 1); members = (((key 0x70), 100, (Some (key 0x71))) ∷ []) })); outputs = (((ref 0x01 2), (address_with 1 (key 0x01) None), 20, []) ∷ ((ref 0x01 3), (address_with 1 (key 0x01) None), 20, []) ∷ ((ref 0x01 4), (address_with 1 (key 0x01) None), 20, []) ∷ ((ref 0x01 5), (address_with 1 (key 0x01) None), 20, []) ∷ ((ref 0x01 6), (address_with 1 (key 0x01) None), 20, []) ∷ []); accounts = (((key 0x10), 2, 67, None, (Some (drep.Registered (key 0x30)))) ∷ ((key 0x11), 2, 33, None, (Some (drep.Registered (key 0x31)))) ∷ ((key 0x12), 2, 0, None, None) ∷ []); pools = ((record { pool = (pool 0x50); deposit = 5; cost = 0; pledge = 0; margin = (share 0 1); account = (account_on 1 (key 0x12)); key = None }) ∷ []); dreps = (((key 0x30), 5, 20) ∷ ((key 0x31), 5, 20) ∷ []) }))) ∷
    (2, Read (records.Print what.Assets)) ∷
    (3, Read (records.Tx (record (spend 0x02 20) { outputs = ((paying_with (address_with 1 (key 0x01) None) 0 0 (((asset (h28 0x05) []), 1) ∷ [])) ∷ (paying_with (address_with 1 (key 0x01) None) 0 0 (((asset (h28 0x05) []), 1) ∷ ((asset (h28 0x05) (0x00 ∷ [])), 1) ∷ [])) ∷ []); mint = (((asset (h28 0x05) []), (pos 2)) ∷ ((asset (h28 0x05) (0x00 ∷ [])), (pos 1)) ∷ []) }))) ∷
    (4, Read (records.Print what.Assets)) ∷
    (5, Read (records.Tx (record (spend 0x03 20) { inputs = ((ref 0x02 0) ∷ (ref 0x01 3) ∷ []); mint = (((asset (h28 0x05) []), (negsuc 0)) ∷ []) }))) ∷
    (6, Read (records.Print what.Assets)) ∷
    (7, Read (records.Tx (record (spend 0x04 20) { inputs = ((ref 0x02 1) ∷ (ref 0x01 4) ∷ []); outputs = ((paying_with (address_with 1 (key 0x01) None) 0 0 (((asset (h28 0x05) (0x00 ∷ [])), 1) ∷ [])) ∷ []); mint = (((asset (h28 0x05) []), (negsuc 0)) ∷ []) }))) ∷
    (8, Read (records.Print what.Assets)) ∷
    (9, Read (records.Tx (record (spend 0x05 20) { outputs = ((paying_with (address_with 1 (key 0x01) None) 0 0 (((asset (h28 0x05) []), 2) ∷ [])) ∷ []); mint = (((asset (h28 0x05) []), (pos 3)) ∷ []) }))) ∷
    (10, Read (records.Tx (record (spend 0x05 19) { inputs = ((ref 0x04 0) ∷ (ref 0x01 5) ∷ []); mint = (((asset (h28 0x05) (0x00 ∷ [])), (negsuc 0)) ∷ []) }))) ∷
    (11, Read (records.Print what.Assets)) ∷
    (12, Read (records.Tx (record (spend 0x05 20) { inputs = ((ref 0x04 0) ∷ (ref 0x01 5) ∷ []); mint = (((asset (h28 0x05) (0x00 ∷ [])), (negsuc 0)) ∷ []) }))) ∷
    (13, Read (records.Print what.Assets)) ∷
    (14, Read (records.Tx (record (spend 0x06 20) { outputs = ((paying_with (address_with 1 (key 0x01) None) 0 0 (((asset (h28 0x05) []), 3) ∷ [])) ∷ []); mint = (((asset (h28 0x05) []), (pos 3)) ∷ []) }))) ∷
    (15, Read (records.Print what.Assets)) ∷
    []

pub totals_back_to_zero : says_all totals_back_to_zero_input (
    codes "1 genesis outputs 100 deposits 21 rewards 100 fees 0 donations 0 treasury 100 reserves 679 supply 1000" ∷
    codes "3 accepted" ∷
    codes "4 asset-total 00000000000000000000000000000000000000000000000000000005 - 2" ∷
    codes "4 asset-total 00000000000000000000000000000000000000000000000000000005 00 1" ∷
    codes "5 accepted" ∷
    codes "6 asset-total 00000000000000000000000000000000000000000000000000000005 - 1" ∷
    codes "6 asset-total 00000000000000000000000000000000000000000000000000000005 00 1" ∷
    codes "7 accepted" ∷
    codes "8 asset-total 00000000000000000000000000000000000000000000000000000005 00 1" ∷
    codes "9 refused 111 AssetNotBalanced at 0 consumed 3 produced 2" ∷
    codes "10 refused 110 NotBalanced consumed 20 produced 19" ∷
    codes "11 asset-total 00000000000000000000000000000000000000000000000000000005 00 1" ∷
    codes "12 accepted" ∷
    codes "14 accepted" ∷
    codes "15 asset-total 00000000000000000000000000000000000000000000000000000005 - 3" ∷
    []) ≡ true
unfolding digits encode_with
totals_back_to_zero = refl

abbrev assets_are_no_stake_input : List (ℕ × Reading)
assets_are_no_stake_input =
    (1, Read (records.Genesis (record { network = 1; slot = 0; epoch_length = 10; version = (10, 0); supply = 1000; reserves = 759; treasury = 100; params = base_params; document = (h32 0x01); script = None; committee = (Some (record { threshold = (share 0 1); members = (((key 0x70), 100, (Some (key 0x71))) ∷ []) })); outputs = (((ref 0x01 2), (address_with 1 (key 0x01) None), 20, []) ∷ []); accounts = (((key 0x10), 2, 67, (Some (pool 0x50)), (Some (drep.Registered (key 0x30)))) ∷ ((key 0x11), 2, 33, None, (Some (drep.Registered (key 0x31)))) ∷ ((key 0x12), 2, 0, None, None) ∷ []); pools = ((record { pool = (pool 0x50); deposit = 5; cost = 0; pledge = 0; margin = (share 0 1); account = (account_on 1 (key 0x12)); key = None }) ∷ []); dreps = (((key 0x30), 5, 20) ∷ ((key 0x31), 5, 20) ∷ []) }))) ∷
    (2, Read (records.Tx (record (spend 0x02 15) { outputs = ((paying_with (address_with 1 (key 0x01) (Some (key 0x13))) 0 0 (((asset (h28 0x05) []), 20) ∷ [])) ∷ (paying_with (address_with 1 (key 0x01) (Some (key 0x10))) 5 0 (((asset (h28 0x05) []), 30) ∷ ((asset (h28 0x05) (0x01 ∷ [])), 1) ∷ [])) ∷ []); mint = (((asset (h28 0x05) []), (pos 50)) ∷ ((asset (h28 0x05) (0x01 ∷ [])), (pos 1)) ∷ []) }))) ∷
    (3, Read (records.Print what.Pots)) ∷
    (4, Read (records.Block 10 1)) ∷
    (5, Read (records.Block 20 1)) ∷
    (6, Read (records.Print what.State)) ∷
    (7, Read (records.Print what.Assets)) ∷
    []

pub assets_are_no_stake : says_all assets_are_no_stake_input (
    codes "1 genesis outputs 20 deposits 21 rewards 100 fees 0 donations 0 treasury 100 reserves 759 supply 1000" ∷
    codes "2 accepted" ∷
    codes "3 pots outputs 5 deposits 21 rewards 100 fees 15 donations 0 treasury 100 reserves 759 supply 1000" ∷
    codes "4 epoch 1 frozen 3 dormant 1" ∷
    codes "4 stake k00000000000000000000000000000000000000000000000000000030 67" ∷
    codes "4 stake k00000000000000000000000000000000000000000000000000000031 33" ∷
    codes "4 pots outputs 5 deposits 21 rewards 100 fees 15 donations 0 treasury 100 reserves 759 supply 1000" ∷
    codes "4 block slot 10 epoch 1 counted 1 of 3" ∷
    codes "5 epoch 2 frozen 3 dormant 2" ∷
    codes "5 stake k00000000000000000000000000000000000000000000000000000030 72" ∷
    codes "5 stake k00000000000000000000000000000000000000000000000000000031 33" ∷
    codes "5 pots outputs 5 deposits 21 rewards 100 fees 15 donations 0 treasury 100 reserves 759 supply 1000" ∷
    codes "5 block slot 20 epoch 2 counted 1 of 3" ∷
    codes "6 now slot 20 epoch 2 version 10.0 dormant 2" ∷
    codes "6 constitution 0000000000000000000000000000000000000000000000000000000000000001 none" ∷
    codes "6 committee threshold 0/1" ∷
    codes "6 member k00000000000000000000000000000000000000000000000000000070 term 100 hot k00000000000000000000000000000000000000000000000000000071" ∷
    codes "6 enacted committee none constitution none hardfork none parameters none" ∷
    codes "6 param maxBlockBodySize 90112" ∷
    codes "6 param maxTxSize 16384" ∷
    codes "6 param maxBlockHeaderSize 1100" ∷
    codes "6 param maxValueSize 5000" ∷
    codes "6 param maxTxExUnits 1000 1000" ∷
    codes "6 param maxBlockExUnits 1000 1000" ∷
    codes "6 param maxCollateralInputs 3" ∷
    codes "6 param minFeeA 0" ∷
    codes "6 param minFeeB 0" ∷
    codes "6 param keyDeposit 2" ∷
    codes "6 param poolDeposit 5" ∷
    codes "6 param rho 0/1" ∷
    codes "6 param tau 0/1" ∷
    codes "6 param minPoolCost 0" ∷
    codes "6 param coinsPerUTxOByte 0" ∷
    codes "6 param prices 0/1 0/1" ∷
    codes "6 param minFeeRefScriptCostPerByte 15/1" ∷
    codes "6 param a0 0/1" ∷
    codes "6 param eMax 18" ∷
    codes "6 param nOpt 500" ∷
    codes "6 param costModels 0000000000000000000000000000000000000000000000000000000000000000" ∷
    codes "6 param collateralPercentage 150" ∷
    codes "6 param poolVotingThresholds 0/1 0/1 0/1 0/1 0/1" ∷
    codes "6 param drepVotingThresholds 67/100 67/100 67/100 67/100 67/100 67/100 67/100 67/100 67/100 67/100" ∷
    codes "6 param govActionLifetime 2" ∷
    codes "6 param govActionDeposit 10" ∷
    codes "6 param drepDeposit 5" ∷
    codes "6 param drepActivity 20" ∷
    codes "6 param committeeMinSize 0" ∷
    codes "6 param committeeMaxTermLength 100" ∷
    codes "6 drep k00000000000000000000000000000000000000000000000000000030 deposit 5 expiry 20" ∷
    codes "6 drep k00000000000000000000000000000000000000000000000000000031 deposit 5 expiry 20" ∷
    codes "6 pool 00000000000000000000000000000000000000000000000000000050 deposit 5 cost 0 pledge 0 margin 0/1 account 1k00000000000000000000000000000000000000000000000000000012 retires never" ∷
    codes "6 account k00000000000000000000000000000000000000000000000000000010 stake 5 deposit 2 rewards 67 pool 00000000000000000000000000000000000000000000000000000050 drep k00000000000000000000000000000000000000000000000000000030" ∷
    codes "6 account k00000000000000000000000000000000000000000000000000000011 stake 0 deposit 2 rewards 33 pool none drep k00000000000000000000000000000000000000000000000000000031" ∷
    codes "6 account k00000000000000000000000000000000000000000000000000000012 stake 0 deposit 2 rewards 0 pool none drep none" ∷
    codes "6 output 0000000000000000000000000000000000000000000000000000000000000002#0 1k00000000000000000000000000000000000000000000000000000001+k00000000000000000000000000000000000000000000000000000013 0" ∷
    codes "6 asset 00000000000000000000000000000000000000000000000000000005 - 20" ∷
    codes "6 output 0000000000000000000000000000000000000000000000000000000000000002#1 1k00000000000000000000000000000000000000000000000000000001+k00000000000000000000000000000000000000000000000000000010 5" ∷
    codes "6 asset 00000000000000000000000000000000000000000000000000000005 - 30" ∷
    codes "6 asset 00000000000000000000000000000000000000000000000000000005 01 1" ∷
    codes "6 snapshot mark 00000000000000000000000000000000000000000000000000000050 72" ∷
    codes "6 snapshot set 00000000000000000000000000000000000000000000000000000050 72" ∷
    codes "6 snapshot go 00000000000000000000000000000000000000000000000000000050 67" ∷
    codes "6 snapshot fees 15" ∷
    codes "6 pending none" ∷
    codes "6 pots outputs 5 deposits 21 rewards 100 fees 15 donations 0 treasury 100 reserves 759 supply 1000" ∷
    codes "7 asset-total 00000000000000000000000000000000000000000000000000000005 - 50" ∷
    codes "7 asset-total 00000000000000000000000000000000000000000000000000000005 01 1" ∷
    []) ≡ true
unfolding digits encode_with
assets_are_no_stake = refl

abbrev least_outputs_with_assets_input : List (ℕ × Reading)
least_outputs_with_assets_input =
    (1, Read (records.Genesis (record { network = 1; slot = 0; epoch_length = 10; version = (10, 0); supply = 1000; reserves = 139; treasury = 100; params = (record base_params { coins_per_utxo_byte = 1 }); document = (h32 0x01); script = None; committee = (Some (record { threshold = (share 0 1); members = (((key 0x70), 100, (Some (key 0x71))) ∷ []) })); outputs = (((ref 0x01 2), (address_with 1 (key 0x01) None), 320, []) ∷ ((ref 0x01 3), (address_with 1 (key 0x01) None), 320, []) ∷ []); accounts = (((key 0x10), 2, 67, None, (Some (drep.Registered (key 0x30)))) ∷ ((key 0x11), 2, 33, None, (Some (drep.Registered (key 0x31)))) ∷ ((key 0x12), 2, 0, None, None) ∷ []); pools = ((record { pool = (pool 0x50); deposit = 5; cost = 0; pledge = 0; margin = (share 0 1); account = (account_on 1 (key 0x12)); key = None }) ∷ []); dreps = (((key 0x30), 5, 20) ∷ ((key 0x31), 5, 20) ∷ []) }))) ∷
    (2, Read (records.Tx (record (spend 0x02 0) { outputs = ((paying_with (address_with 1 (key 0x01) None) 161 1 (((asset (h28 0x05) []), 9) ∷ ((asset (h28 0x06) []), 1) ∷ [])) ∷ (paying (address_with 1 (key 0x01) None) 159 0) ∷ []); mint = (((asset (h28 0x05) []), (pos 9)) ∷ ((asset (h28 0x06) []), (pos 1)) ∷ []) }))) ∷
    (3, Read (records.Tx (record (spend 0x02 0) { outputs = ((paying_with (address_with 1 (key 0x01) None) 160 0 (((asset (h28 0x05) []), 9) ∷ ((asset (h28 0x06) []), 1) ∷ [])) ∷ (paying (address_with 1 (key 0x01) None) 160 0) ∷ []); mint = (((asset (h28 0x05) []), (pos 9)) ∷ ((asset (h28 0x06) []), (pos 1)) ∷ []) }))) ∷
    (4, Read (records.Tx (record (spend 0x03 0) { outputs = ((paying_with (address_with 1 (key 0x01) None) 160 0 (((asset (h28 0x05) []), 1) ∷ [])) ∷ []); scripts = scripts.Failed; collateral = ((ref 0x02 0) ∷ []); collateral_return = (Some (paying_with (address_with 1 (key 0x01) None) 159 0 (((asset (h28 0x05) []), 9) ∷ []))) }))) ∷
    (5, Read (records.Tx (record (spend 0x03 0) { outputs = ((paying_with (address_with 1 (key 0x01) None) 160 0 (((asset (h28 0x05) []), 1) ∷ [])) ∷ []); scripts = scripts.Failed; collateral = ((ref 0x02 0) ∷ []); collateral_return = (Some (paying_with (address_with 0 (key 0x01) None) 160 0 (((asset (h28 0x05) []), 9) ∷ []))) }))) ∷
    (6, Read (records.Tx (record (spend 0x03 0) { outputs = ((paying_with (address_with 1 (key 0x01) None) 160 0 (((asset (h28 0x05) []), 1) ∷ [])) ∷ []); scripts = scripts.Failed; collateral = ((ref 0x02 0) ∷ []); collateral_return = (Some (paying_with (address_with 1 (key 0x01) None) 160 0 (((asset (h28 0x05) []), 9) ∷ ((asset (h28 0x06) []), 1) ∷ []))) }))) ∷
    (7, Read (records.Print what.Pots)) ∷
    (8, Read (records.Print what.Assets)) ∷
    []

pub least_outputs_with_assets : says_all least_outputs_with_assets_input (
    codes "1 genesis outputs 640 deposits 21 rewards 100 fees 0 donations 0 treasury 100 reserves 139 supply 1000" ∷
    codes "2 refused 38 OutputTooSmall at 1 min 160" ∷
    codes "3 accepted" ∷
    codes "4 refused 38 OutputTooSmall at 1 min 160" ∷
    codes "5 refused 39 OutputWrongNetwork at 1" ∷
    codes "6 accepted failed-scripts" ∷
    codes "7 pots outputs 640 deposits 21 rewards 100 fees 0 donations 0 treasury 100 reserves 139 supply 1000" ∷
    codes "8 asset-total 00000000000000000000000000000000000000000000000000000005 - 9" ∷
    codes "8 asset-total 00000000000000000000000000000000000000000000000000000006 - 1" ∷
    []) ≡ true
unfolding digits encode_with
least_outputs_with_assets = refl
