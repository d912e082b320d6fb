-- Worked rows of whole streams: the balance of assets. Made by tests/made/rows_of, from the streams of these names in tests/streams/whole.
use Rattle.std.specs.Prelude.{ℕ, ◌≡◌, List, [], ◌∷◌, Some, None, true, false, pos, negsuc, codes, refl}
use Rattle.std.specs.Fmt.{digits}
use Rattle.hex.specs.Hex.{encode_with}
use Rattle.gov_actions.specs.declared.action.Action.TheVariants as actions
use Rattle.gov_actions.specs.declared.action.Vote.TheVariants as vote
use Rattle.gov_ids.specs.declared.Drep.TheVariants as drep
use Rattle.gov_ids.specs.declared.Voter.TheVariants as voter
use Rattle.tx_records.specs.declared.record.Record.TheVariants as records
use Rattle.tx_records.specs.declared.record.What.TheVariants as what
use Rattle.tx_records.specs.declared.cert.Cert.TheVariants as certs
use Rattle.tx_records.specs.declared.tx.Scripts.TheVariants as scripts
use Rattle.tx_records.specs.declared.record.Reading.{Reading}
use Rattle.tx_records.specs.declared.record.Reading.TheVariants.{Read}
use Rattle.ledger_rows.proofs.Base.{h28, h32, key, pool, account_on, address_with, ref, action, asset, share, base_params, spend, paying, paying_with, proposing, voting, says_all}

abbrev places_of_unbalanced_assets_input : List (ℕ × Reading)
places_of_unbalanced_assets_input =
    (1, Read (records.Genesis (record { network = 1; slot = 0; epoch_length = 10; version = (10, 0); supply = 1000; reserves = 659; treasury = 100; params = (record base_params { max_collateral_inputs = 4 }); document = (h32 0x01); script = None; committee = (Some (record { threshold = (share 0 1); members = (((key 0x70), 100, (Some (key 0x71))) ∷ []) })); outputs = (((ref 0x01 2), (address_with 1 (key 0x01) None), 20, (((asset (h28 0x05) []), 7) ∷ ((asset (h28 0x05) (0x01 ∷ [])), 3) ∷ ((asset (h28 0x09) []), 4) ∷ [])) ∷ ((ref 0x01 3), (address_with 1 (key 0x01) None), 20, (((asset (h28 0x07) []), 2) ∷ [])) ∷ ((ref 0x01 4), (address_with 1 (key 0x01) None), 20, (((asset (h28 0x01) []), 1) ∷ [])) ∷ ((ref 0x01 5), (address_with 1 (key 0x01) None), 20, []) ∷ ((ref 0x01 6), (address_with 1 (key 0x01) None), 20, []) ∷ ((ref 0x01 7), (address_with 1 (key 0x01) None), 20, []) ∷ []); accounts = (((key 0x10), 2, 67, None, (Some (drep.Registered (key 0x30)))) ∷ ((key 0x11), 2, 33, None, (Some (drep.Registered (key 0x31)))) ∷ ((key 0x12), 2, 0, None, None) ∷ []); pools = ((record { pool = (pool 0x50); deposit = 5; cost = 0; pledge = 0; margin = (share 0 1); account = (account_on 1 (key 0x12)); key = None }) ∷ []); dreps = (((key 0x30), 5, 20) ∷ ((key 0x31), 5, 20) ∷ []) }))) ∷
    (2, Read (records.Tx (record (spend 0x02 40) { inputs = ((ref 0x01 2) ∷ (ref 0x01 3) ∷ []); outputs = ((paying_with (address_with 1 (key 0x01) None) 0 0 (((asset (h28 0x05) []), 7) ∷ ((asset (h28 0x05) (0x01 ∷ [])), 3) ∷ ((asset (h28 0x07) []), 2) ∷ [])) ∷ []) }))) ∷
    (3, Read (records.Tx (record (spend 0x02 40) { inputs = ((ref 0x01 2) ∷ (ref 0x01 3) ∷ []); outputs = ((paying_with (address_with 1 (key 0x01) None) 0 0 (((asset (h28 0x05) []), 7) ∷ ((asset (h28 0x05) (0x01 ∷ [])), 3) ∷ ((asset (h28 0x06) []), 1) ∷ ((asset (h28 0x07) []), 2) ∷ ((asset (h28 0x09) []), 4) ∷ [])) ∷ []) }))) ∷
    (4, Read (records.Tx (record (spend 0x02 40) { inputs = ((ref 0x01 2) ∷ (ref 0x01 3) ∷ []); outputs = ((paying_with (address_with 1 (key 0x01) None) 0 0 (((asset (h28 0x05) []), 7) ∷ ((asset (h28 0x05) (0x01 ∷ [])), 3) ∷ ((asset (h28 0x06) []), 1) ∷ ((asset (h28 0x07) []), 2) ∷ [])) ∷ []) }))) ∷
    (5, Read (records.Tx (record (spend 0x02 40) { inputs = ((ref 0x01 2) ∷ (ref 0x01 3) ∷ []); outputs = ((paying_with (address_with 1 (key 0x01) None) 0 0 (((asset (h28 0x05) []), 7) ∷ ((asset (h28 0x05) (0x01 ∷ [])), 3) ∷ ((asset (h28 0x07) []), 2) ∷ ((asset (h28 0x09) []), 4) ∷ [])) ∷ []); mint = (((asset (h28 0x04) []), (pos 1)) ∷ []) }))) ∷
    (6, Read (records.Tx (record (spend 0x02 40) { inputs = ((ref 0x01 2) ∷ (ref 0x01 3) ∷ []); outputs = ((paying_with (address_with 1 (key 0x01) None) 0 0 (((asset (h28 0x04) []), 1) ∷ ((asset (h28 0x05) []), 7) ∷ ((asset (h28 0x05) (0x01 ∷ [])), 3) ∷ ((asset (h28 0x07) []), 1) ∷ ((asset (h28 0x09) []), 4) ∷ [])) ∷ []); mint = (((asset (h28 0x04) []), (pos 1)) ∷ []) }))) ∷
    (7, Read (records.Tx (record (spend 0x02 40) { inputs = ((ref 0x01 2) ∷ (ref 0x01 3) ∷ []); outputs = ((paying_with (address_with 1 (key 0x01) None) 0 0 (((asset (h28 0x05) []), 7) ∷ ((asset (h28 0x05) (0x01 ∷ [])), 3) ∷ ((asset (h28 0x07) []), 2) ∷ ((asset (h28 0x09) []), 5) ∷ [])) ∷ []); mint = (((asset (h28 0x05) (0x01 ∷ [])), (negsuc 0)) ∷ []) }))) ∷
    (8, Read (records.Tx (record (spend 0x02 40) { inputs = ((ref 0x01 2) ∷ (ref 0x01 3) ∷ []); outputs = ((paying_with (address_with 1 (key 0x01) None) 0 0 (((asset (h28 0x05) []), 4) ∷ ((asset (h28 0x09) []), 3) ∷ [])) ∷ (paying_with (address_with 1 (key 0x02) None) 0 0 (((asset (h28 0x05) []), 4) ∷ ((asset (h28 0x05) (0x01 ∷ [])), 3) ∷ ((asset (h28 0x07) []), 2) ∷ [])) ∷ []) }))) ∷
    (9, Read (records.Tx (record (spend 0x02 40) { inputs = ((ref 0x01 2) ∷ (ref 0x01 3) ∷ []); outputs = ((paying_with (address_with 1 (key 0x01) None) 0 0 (((asset (h28 0x05) []), 7) ∷ ((asset (h28 0x05) (0x01 ∷ [])), 3) ∷ ((asset (h28 0x07) []), 3) ∷ ((asset (h28 0x09) []), 4) ∷ [])) ∷ []); scripts = scripts.Passed; collateral = ((ref 0x01 4) ∷ (ref 0x01 5) ∷ (ref 0x01 6) ∷ (ref 0x01 7) ∷ []); collateral_return = (Some (paying_with (address_with 1 (key 0x01) None) 20 0 (((asset (h28 0x01) []), 1) ∷ []))) }))) ∷
    (10, Read (records.Tx (record (spend 0x02 40) { inputs = ((ref 0x01 2) ∷ (ref 0x01 3) ∷ []); outputs = ((paying_with (address_with 1 (key 0x01) None) 0 0 (((asset (h28 0x05) (0x01 ∷ [])), 2) ∷ ((asset (h28 0x09) []), 4) ∷ [])) ∷ (paying_with (address_with 1 (key 0x02) None) 0 0 (((asset (h28 0x05) []), 7) ∷ ((asset (h28 0x05) (0x01 ∷ [])), 1) ∷ ((asset (h28 0x07) []), 2) ∷ [])) ∷ []) }))) ∷
    (11, Read (records.Print what.Assets)) ∷
    []

pub places_of_unbalanced_assets : says_all places_of_unbalanced_assets_input (
    codes "1 genesis outputs 120 deposits 21 rewards 100 fees 0 donations 0 treasury 100 reserves 659 supply 1000" ∷
    codes "2 refused 111 AssetNotBalanced at 3 consumed 4 produced 0" ∷
    codes "3 refused 111 AssetNotBalanced at 2 consumed 0 produced 1" ∷
    codes "4 refused 111 AssetNotBalanced at 2 consumed 0 produced 1" ∷
    codes "5 refused 111 AssetNotBalanced at 0 consumed 1 produced 0" ∷
    codes "6 refused 111 AssetNotBalanced at 3 consumed 2 produced 1" ∷
    codes "7 refused 111 AssetNotBalanced at 1 consumed 3 produced 4" ∷
    codes "8 refused 111 AssetNotBalanced at 0 consumed 7 produced 8" ∷
    codes "9 refused 111 AssetNotBalanced at 2 consumed 2 produced 3" ∷
    codes "10 accepted" ∷
    codes "11 asset-total 00000000000000000000000000000000000000000000000000000001 - 1" ∷
    codes "11 asset-total 00000000000000000000000000000000000000000000000000000005 - 7" ∷
    codes "11 asset-total 00000000000000000000000000000000000000000000000000000005 01 3" ∷
    codes "11 asset-total 00000000000000000000000000000000000000000000000000000007 - 2" ∷
    codes "11 asset-total 00000000000000000000000000000000000000000000000000000009 - 4" ∷
    []) ≡ true
unfolding digits encode_with
places_of_unbalanced_assets = refl

abbrev minted_and_burned_input : List (ℕ × Reading)
minted_and_burned_input =
    (1, Read (records.Genesis (record { network = 1; slot = 0; epoch_length = 10; version = (10, 0); supply = 1000; reserves = 699; treasury = 100; params = base_params; document = (h32 0x01); script = None; committee = (Some (record { threshold = (share 0 1); members = (((key 0x70), 100, (Some (key 0x71))) ∷ []) })); outputs = (((ref 0x01 2), (address_with 1 (key 0x01) None), 20, []) ∷ ((ref 0x01 3), (address_with 1 (key 0x01) None), 20, []) ∷ ((ref 0x01 4), (address_with 1 (key 0x01) None), 20, []) ∷ ((ref 0x01 5), (address_with 1 (key 0x01) None), 20, []) ∷ []); accounts = (((key 0x10), 2, 67, None, (Some (drep.Registered (key 0x30)))) ∷ ((key 0x11), 2, 33, None, (Some (drep.Registered (key 0x31)))) ∷ ((key 0x12), 2, 0, None, None) ∷ []); pools = ((record { pool = (pool 0x50); deposit = 5; cost = 0; pledge = 0; margin = (share 0 1); account = (account_on 1 (key 0x12)); key = None }) ∷ []); dreps = (((key 0x30), 5, 20) ∷ ((key 0x31), 5, 20) ∷ []) }))) ∷
    (2, Read (records.Tx (record (spend 0x02 20) { outputs = ((paying_with (address_with 1 (key 0x01) None) 0 0 (((asset (h28 0x05) []), 3) ∷ ((asset (h28 0x05) (0x01 ∷ [])), 2) ∷ [])) ∷ (paying_with (address_with 1 (key 0x02) None) 0 0 (((asset (h28 0x05) []), 4) ∷ [])) ∷ []); mint = (((asset (h28 0x05) []), (pos 7)) ∷ ((asset (h28 0x05) (0x01 ∷ [])), (pos 2)) ∷ []) }))) ∷
    (3, Read (records.Tx (record (spend 0x03 20) { outputs = ((paying_with (address_with 1 (key 0x01) None) 0 0 (((asset (h28 0x05) []), 7) ∷ [])) ∷ (paying_with (address_with 1 (key 0x02) None) 0 0 (((asset (h28 0x05) []), 7) ∷ [])) ∷ []); mint = (((asset (h28 0x05) []), (pos 7)) ∷ []) }))) ∷
    (4, Read (records.Tx (record (spend 0x03 20) { inputs = ((ref 0x02 0) ∷ (ref 0x01 3) ∷ []); outputs = ((paying_with (address_with 1 (key 0x01) None) 0 0 (((asset (h28 0x05) []), 3) ∷ ((asset (h28 0x05) (0x01 ∷ [])), 2) ∷ [])) ∷ []); mint = (((asset (h28 0x05) []), (negsuc 0)) ∷ []) }))) ∷
    (5, Read (records.Tx (record (spend 0x03 20) { inputs = ((ref 0x02 0) ∷ (ref 0x01 3) ∷ []); outputs = ((paying_with (address_with 1 (key 0x01) None) 0 0 (((asset (h28 0x05) []), 2) ∷ ((asset (h28 0x05) (0x01 ∷ [])), 7) ∷ [])) ∷ []); mint = (((asset (h28 0x05) []), (negsuc 0)) ∷ ((asset (h28 0x05) (0x01 ∷ [])), (pos 5)) ∷ []) }))) ∷
    (6, Read (records.Tx (record (spend 0x04 20) { inputs = ((ref 0x02 1) ∷ (ref 0x01 4) ∷ []); mint = (((asset (h28 0x05) []), (negsuc 4)) ∷ []) }))) ∷
    (7, Read (records.Tx (record (spend 0x04 20) { inputs = ((ref 0x02 1) ∷ (ref 0x01 4) ∷ []); witnessed = false; mint = (((asset (h28 0x05) []), (negsuc 3)) ∷ []) }))) ∷
    (8, Read (records.Tx (record (spend 0x04 20) { inputs = ((ref 0x02 1) ∷ (ref 0x01 4) ∷ []); mint = (((asset (h28 0x05) []), (negsuc 3)) ∷ []) }))) ∷
    (9, Read (records.Tx (record (spend 0x05 20) { mint = (((asset (h28 0x05) []), (negsuc 0)) ∷ []) }))) ∷
    (10, Read (records.Tx (record (spend 0x05 20) { mint = (((asset (h28 0x06) []), (negsuc 9223372036854775807)) ∷ []) }))) ∷
    (11, Read (records.Tx (record (spend 0x05 0) { inputs = ((ref 0x03 0) ∷ []); outputs = ((paying_with (address_with 1 (key 0x01) None) 0 0 (((asset (h28 0x05) []), 6) ∷ ((asset (h28 0x05) (0x01 ∷ [])), 7) ∷ [])) ∷ []); mint = (((asset (h28 0x05) []), (pos 3)) ∷ []) }))) ∷
    (12, Read (records.Tx (record (spend 0x05 0) { inputs = ((ref 0x03 0) ∷ []); outputs = ((paying_with (address_with 1 (key 0x01) None) 0 0 (((asset (h28 0x05) []), 5) ∷ ((asset (h28 0x05) (0x01 ∷ [])), 7) ∷ [])) ∷ []); mint = (((asset (h28 0x05) []), (pos 3)) ∷ []) }))) ∷
    (13, Read (records.Print what.Assets)) ∷
    []

pub minted_and_burned : says_all minted_and_burned_input (
    codes "1 genesis outputs 80 deposits 21 rewards 100 fees 0 donations 0 treasury 100 reserves 699 supply 1000" ∷
    codes "2 accepted" ∷
    codes "3 refused 111 AssetNotBalanced at 0 consumed 7 produced 14" ∷
    codes "4 refused 111 AssetNotBalanced at 0 consumed 3 produced 4" ∷
    codes "5 accepted" ∷
    codes "6 refused 111 AssetNotBalanced at 0 consumed 4 produced 5" ∷
    codes "7 refused 31 NotWitnessed" ∷
    codes "8 accepted" ∷
    codes "9 refused 111 AssetNotBalanced at 0 consumed 0 produced 1" ∷
    codes "10 refused 111 AssetNotBalanced at 0 consumed 0 produced 9223372036854775808" ∷
    codes "11 refused 111 AssetNotBalanced at 0 consumed 5 produced 6" ∷
    codes "12 accepted" ∷
    codes "13 asset-total 00000000000000000000000000000000000000000000000000000005 - 5" ∷
    codes "13 asset-total 00000000000000000000000000000000000000000000000000000005 01 7" ∷
    []) ≡ true
unfolding digits encode_with
minted_and_burned = refl

abbrev sums_of_assets_beyond_64_bits_input : List (ℕ × Reading)
sums_of_assets_beyond_64_bits_input =
    (1, Read (records.Genesis (record { network = 1; slot = 0; epoch_length = 10; version = (10, 0); supply = 1000; reserves = 719; treasury = 100; params = base_params; document = (h32 0x01); script = None; committee = (Some (record { threshold = (share 0 1); members = (((key 0x70), 100, (Some (key 0x71))) ∷ []) })); outputs = (((ref 0x01 2), (address_with 1 (key 0x01) None), 20, (((asset (h28 0x05) []), 18446744073709551615) ∷ [])) ∷ ((ref 0x01 3), (address_with 1 (key 0x01) None), 20, (((asset (h28 0x05) []), 18446744073709551615) ∷ [])) ∷ ((ref 0x01 4), (address_with 1 (key 0x01) None), 20, (((asset (h28 0x05) []), 1) ∷ [])) ∷ []); accounts = (((key 0x10), 2, 67, None, (Some (drep.Registered (key 0x30)))) ∷ ((key 0x11), 2, 33, None, (Some (drep.Registered (key 0x31)))) ∷ ((key 0x12), 2, 0, None, None) ∷ []); pools = ((record { pool = (pool 0x50); deposit = 5; cost = 0; pledge = 0; margin = (share 0 1); account = (account_on 1 (key 0x12)); key = None }) ∷ []); dreps = (((key 0x30), 5, 20) ∷ ((key 0x31), 5, 20) ∷ []) }))) ∷
    (2, Read (records.Print what.Assets)) ∷
    (3, Read (records.Tx (record (spend 0x02 40) { inputs = ((ref 0x01 2) ∷ (ref 0x01 4) ∷ []) }))) ∷
    (4, Read (records.Tx (record (spend 0x02 40) { inputs = ((ref 0x01 2) ∷ (ref 0x01 3) ∷ []); outputs = ((paying_with (address_with 1 (key 0x01) None) 0 0 (((asset (h28 0x05) []), 18446744073709551615) ∷ [])) ∷ []) }))) ∷
    (5, Read (records.Tx (record (spend 0x02 20) { outputs = ((paying_with (address_with 1 (key 0x01) None) 0 0 (((asset (h28 0x05) []), 18446744073709551615) ∷ [])) ∷ (paying_with (address_with 1 (key 0x01) None) 0 0 (((asset (h28 0x05) []), 18446744073709551615) ∷ [])) ∷ []) }))) ∷
    (6, Read (records.Tx (record (spend 0x02 20) { inputs = ((ref 0x01 4) ∷ []); outputs = ((paying_with (address_with 1 (key 0x01) None) 0 0 (((asset (h28 0x05) []), 18446744073709551615) ∷ [])) ∷ (paying_with (address_with 1 (key 0x01) None) 0 0 (((asset (h28 0x05) []), 2) ∷ [])) ∷ []) }))) ∷
    (7, Read (records.Tx (record (spend 0x02 60) { inputs = ((ref 0x01 2) ∷ (ref 0x01 3) ∷ (ref 0x01 4) ∷ []); outputs = ((paying_with (address_with 1 (key 0x01) None) 0 0 (((asset (h28 0x05) []), 18446744073709551615) ∷ [])) ∷ (paying_with (address_with 1 (key 0x01) None) 0 0 (((asset (h28 0x05) []), 18446744073709551615) ∷ [])) ∷ (paying_with (address_with 1 (key 0x01) None) 0 0 (((asset (h28 0x05) []), 9223372036854775808) ∷ [])) ∷ []); mint = (((asset (h28 0x05) []), (pos 9223372036854775807)) ∷ []) }))) ∷
    (8, Read (records.Print what.Assets)) ∷
    (9, Read (records.Tx (record (spend 0x03 0) { inputs = ((ref 0x02 2) ∷ []); mint = (((asset (h28 0x05) []), (negsuc 9223372036854775807)) ∷ []) }))) ∷
    (10, Read (records.Print what.Assets)) ∷
    (11, Read (records.Tx (record (spend 0x04 0) { inputs = ((ref 0x02 0) ∷ (ref 0x02 1) ∷ []); outputs = ((paying_with (address_with 1 (key 0x01) None) 0 0 (((asset (h28 0x05) []), 18446744073709551615) ∷ [])) ∷ (paying_with (address_with 1 (key 0x01) None) 0 0 (((asset (h28 0x05) []), 18446744073709551614) ∷ [])) ∷ (paying_with (address_with 1 (key 0x01) None) 0 0 (((asset (h28 0x05) []), 1) ∷ [])) ∷ []) }))) ∷
    (12, Read (records.Print what.State)) ∷
    (13, Read (records.Print what.Assets)) ∷
    []

pub sums_of_assets_beyond_64_bits : says_all sums_of_assets_beyond_64_bits_input (
    codes "1 genesis outputs 60 deposits 21 rewards 100 fees 0 donations 0 treasury 100 reserves 719 supply 1000" ∷
    codes "2 asset-total 00000000000000000000000000000000000000000000000000000005 - 36893488147419103231" ∷
    codes "3 refused 111 AssetNotBalanced at 0 consumed 18446744073709551616 produced 0" ∷
    codes "4 refused 111 AssetNotBalanced at 0 consumed 36893488147419103230 produced 18446744073709551615" ∷
    codes "5 refused 111 AssetNotBalanced at 0 consumed 18446744073709551615 produced 36893488147419103230" ∷
    codes "6 refused 111 AssetNotBalanced at 0 consumed 1 produced 18446744073709551617" ∷
    codes "7 accepted" ∷
    codes "8 asset-total 00000000000000000000000000000000000000000000000000000005 - 46116860184273879038" ∷
    codes "9 accepted" ∷
    codes "10 asset-total 00000000000000000000000000000000000000000000000000000005 - 36893488147419103230" ∷
    codes "11 accepted" ∷
    codes "12 now slot 0 epoch 0 version 10.0 dormant 0" ∷
    codes "12 constitution 0000000000000000000000000000000000000000000000000000000000000001 none" ∷
    codes "12 committee threshold 0/1" ∷
    codes "12 member k00000000000000000000000000000000000000000000000000000070 term 100 hot k00000000000000000000000000000000000000000000000000000071" ∷
    codes "12 enacted committee none constitution none hardfork none parameters none" ∷
    codes "12 param maxBlockBodySize 90112" ∷
    codes "12 param maxTxSize 16384" ∷
    codes "12 param maxBlockHeaderSize 1100" ∷
    codes "12 param maxValueSize 5000" ∷
    codes "12 param maxTxExUnits 1000 1000" ∷
    codes "12 param maxBlockExUnits 1000 1000" ∷
    codes "12 param maxCollateralInputs 3" ∷
    codes "12 param minFeeA 0" ∷
    codes "12 param minFeeB 0" ∷
    codes "12 param keyDeposit 2" ∷
    codes "12 param poolDeposit 5" ∷
    codes "12 param rho 0/1" ∷
    codes "12 param tau 0/1" ∷
    codes "12 param minPoolCost 0" ∷
    codes "12 param coinsPerUTxOByte 0" ∷
    codes "12 param prices 0/1 0/1" ∷
    codes "12 param minFeeRefScriptCostPerByte 15/1" ∷
    codes "12 param a0 0/1" ∷
    codes "12 param eMax 18" ∷
    codes "12 param nOpt 500" ∷
    codes "12 param costModels 0000000000000000000000000000000000000000000000000000000000000000" ∷
    codes "12 param collateralPercentage 150" ∷
    codes "12 param poolVotingThresholds 0/1 0/1 0/1 0/1 0/1" ∷
    codes "12 param drepVotingThresholds 67/100 67/100 67/100 67/100 67/100 67/100 67/100 67/100 67/100 67/100" ∷
    codes "12 param govActionLifetime 2" ∷
    codes "12 param govActionDeposit 10" ∷
    codes "12 param drepDeposit 5" ∷
    codes "12 param drepActivity 20" ∷
    codes "12 param committeeMinSize 0" ∷
    codes "12 param committeeMaxTermLength 100" ∷
    codes "12 drep k00000000000000000000000000000000000000000000000000000030 deposit 5 expiry 20" ∷
    codes "12 drep k00000000000000000000000000000000000000000000000000000031 deposit 5 expiry 20" ∷
    codes "12 pool 00000000000000000000000000000000000000000000000000000050 deposit 5 cost 0 pledge 0 margin 0/1 account 1k00000000000000000000000000000000000000000000000000000012 retires never" ∷
    codes "12 account k00000000000000000000000000000000000000000000000000000010 stake 0 deposit 2 rewards 67 pool none drep k00000000000000000000000000000000000000000000000000000030" ∷
    codes "12 account k00000000000000000000000000000000000000000000000000000011 stake 0 deposit 2 rewards 33 pool none drep k00000000000000000000000000000000000000000000000000000031" ∷
    codes "12 account k00000000000000000000000000000000000000000000000000000012 stake 0 deposit 2 rewards 0 pool none drep none" ∷
    codes "12 output 0000000000000000000000000000000000000000000000000000000000000004#0 1k00000000000000000000000000000000000000000000000000000001 0" ∷
    codes "12 asset 00000000000000000000000000000000000000000000000000000005 - 18446744073709551615" ∷
    codes "12 output 0000000000000000000000000000000000000000000000000000000000000004#1 1k00000000000000000000000000000000000000000000000000000001 0" ∷
    codes "12 asset 00000000000000000000000000000000000000000000000000000005 - 18446744073709551614" ∷
    codes "12 output 0000000000000000000000000000000000000000000000000000000000000004#2 1k00000000000000000000000000000000000000000000000000000001 0" ∷
    codes "12 asset 00000000000000000000000000000000000000000000000000000005 - 1" ∷
    codes "12 snapshot mark 00000000000000000000000000000000000000000000000000000050 0" ∷
    codes "12 snapshot fees 0" ∷
    codes "12 pending none" ∷
    codes "12 pots outputs 0 deposits 21 rewards 100 fees 60 donations 0 treasury 100 reserves 719 supply 1000" ∷
    codes "13 asset-total 00000000000000000000000000000000000000000000000000000005 - 36893488147419103230" ∷
    []) ≡ true
unfolding digits encode_with
sums_of_assets_beyond_64_bits = refl

abbrev assets_told_apart_input : List (ℕ × Reading)
assets_told_apart_input =
    (1, Read (records.Genesis (record { network = 1; slot = 0; epoch_length = 10; version = (10, 0); supply = 1000; reserves = 739; treasury = 100; params = base_params; document = (h32 0x01); script = None; committee = (Some (record { threshold = (share 0 1); members = (((key 0x70), 100, (Some (key 0x71))) ∷ []) })); outputs = (((ref 0x01 2), (address_with 1 (key 0x01) None), 20, (((asset (h28 0x05) (0x01 ∷ [])), 3) ∷ [])) ∷ ((ref 0x01 3), (address_with 1 (key 0x01) None), 20, (((asset (h28 0x06) (0x01 ∷ [])), 4) ∷ [])) ∷ []); accounts = (((key 0x10), 2, 67, None, (Some (drep.Registered (key 0x30)))) ∷ ((key 0x11), 2, 33, None, (Some (drep.Registered (key 0x31)))) ∷ ((key 0x12), 2, 0, None, None) ∷ []); pools = ((record { pool = (pool 0x50); deposit = 5; cost = 0; pledge = 0; margin = (share 0 1); account = (account_on 1 (key 0x12)); key = None }) ∷ []); dreps = (((key 0x30), 5, 20) ∷ ((key 0x31), 5, 20) ∷ []) }))) ∷
    (2, Read (records.Tx (record (spend 0x02 40) { inputs = ((ref 0x01 2) ∷ (ref 0x01 3) ∷ []); outputs = ((paying_with (address_with 1 (key 0x01) None) 0 0 (((asset (h28 0x05) (0x01 ∷ [])), 4) ∷ ((asset (h28 0x06) (0x01 ∷ [])), 3) ∷ [])) ∷ []) }))) ∷
    (3, Read (records.Tx (record (spend 0x02 40) { inputs = ((ref 0x01 2) ∷ (ref 0x01 3) ∷ []); outputs = ((paying_with (address_with 1 (key 0x01) None) 0 0 (((asset (h28 0x05) (0x01 ∷ 0x00 ∷ [])), 3) ∷ ((asset (h28 0x06) (0x01 ∷ [])), 4) ∷ [])) ∷ []) }))) ∷
    (4, Read (records.Tx (record (spend 0x02 20) { outputs = ((paying_with (address_with 1 (key 0x01) None) 0 0 (((asset (h28 0x05) (0x00 ∷ [])), 2) ∷ [])) ∷ []); mint = (((asset (h28 0x05) []), (pos 2)) ∷ []) }))) ∷
    (5, Read (records.Tx (record (spend 0x02 20) { outputs = ((paying_with (address_with 1 (key 0x01) None) 0 0 (((asset (h28 0x05) []), 1) ∷ ((asset (h28 0x05) (0x00 ∷ [])), 1) ∷ ((asset (h28 0x05) (0x00 ∷ 0x00 ∷ [])), 1) ∷ ((asset (h28 0x05) (0x10 ∷ [])), 1) ∷ [])) ∷ []); mint = (((asset (h28 0x05) []), (pos 1)) ∷ ((asset (h28 0x05) (0x00 ∷ [])), (pos 1)) ∷ ((asset (h28 0x05) (0x00 ∷ 0x00 ∷ [])), (pos 1)) ∷ ((asset (h28 0x05) (0x01 ∷ [])), (negsuc 2)) ∷ ((asset (h28 0x05) (0x10 ∷ [])), (pos 1)) ∷ []) }))) ∷
    (6, Read (records.Tx (record (spend 0x03 20) { inputs = ((ref 0x01 3) ∷ (ref 0x02 0) ∷ []); outputs = ((paying_with (address_with 1 (key 0x01) None) 0 0 (((asset (h28 0x05) []), 1) ∷ ((asset (h28 0x05) (0x00 ∷ 0x00 ∷ [])), 1) ∷ ((asset (h28 0x05) (0x10 ∷ [])), 1) ∷ ((asset (h28 0x06) (0x01 ∷ [])), 5) ∷ [])) ∷ []); mint = (((asset (h28 0x05) (0x00 ∷ [])), (negsuc 0)) ∷ ((asset (h28 0x06) (0x01 ∷ [])), (pos 1)) ∷ []) }))) ∷
    (7, Read (records.Tx (record (spend 0x04 0) { inputs = ((ref 0x03 0) ∷ []); outputs = ((paying_with (address_with 1 (key 0x01) None) 0 0 (((asset (h28 0x05) []), 1) ∷ ((asset (h28 0x05) (0x00 ∷ 0x00 ∷ [])), 1) ∷ ((asset (h28 0x06) (0x01 ∷ [])), 2) ∷ [])) ∷ (paying_with (address_with 1 (key 0x01) None) 0 0 (((asset (h28 0x05) (0x01 ∷ [])), 1) ∷ ((asset (h28 0x06) (0x01 ∷ [])), 3) ∷ [])) ∷ []) }))) ∷
    (8, Read (records.Print what.State)) ∷
    (9, Read (records.Print what.Assets)) ∷
    []

pub assets_told_apart : says_all assets_told_apart_input (
    codes "1 genesis outputs 40 deposits 21 rewards 100 fees 0 donations 0 treasury 100 reserves 739 supply 1000" ∷
    codes "2 refused 111 AssetNotBalanced at 0 consumed 3 produced 4" ∷
    codes "3 refused 111 AssetNotBalanced at 0 consumed 3 produced 0" ∷
    codes "4 refused 111 AssetNotBalanced at 0 consumed 2 produced 0" ∷
    codes "5 accepted" ∷
    codes "6 accepted" ∷
    codes "7 refused 111 AssetNotBalanced at 2 consumed 0 produced 1" ∷
    codes "8 now slot 0 epoch 0 version 10.0 dormant 0" ∷
    codes "8 constitution 0000000000000000000000000000000000000000000000000000000000000001 none" ∷
    codes "8 committee threshold 0/1" ∷
    codes "8 member k00000000000000000000000000000000000000000000000000000070 term 100 hot k00000000000000000000000000000000000000000000000000000071" ∷
    codes "8 enacted committee none constitution none hardfork none parameters none" ∷
    codes "8 param maxBlockBodySize 90112" ∷
    codes "8 param maxTxSize 16384" ∷
    codes "8 param maxBlockHeaderSize 1100" ∷
    codes "8 param maxValueSize 5000" ∷
    codes "8 param maxTxExUnits 1000 1000" ∷
    codes "8 param maxBlockExUnits 1000 1000" ∷
    codes "8 param maxCollateralInputs 3" ∷
    codes "8 param minFeeA 0" ∷
    codes "8 param minFeeB 0" ∷
    codes "8 param keyDeposit 2" ∷
    codes "8 param poolDeposit 5" ∷
    codes "8 param rho 0/1" ∷
    codes "8 param tau 0/1" ∷
    codes "8 param minPoolCost 0" ∷
    codes "8 param coinsPerUTxOByte 0" ∷
    codes "8 param prices 0/1 0/1" ∷
    codes "8 param minFeeRefScriptCostPerByte 15/1" ∷
    codes "8 param a0 0/1" ∷
    codes "8 param eMax 18" ∷
    codes "8 param nOpt 500" ∷
    codes "8 param costModels 0000000000000000000000000000000000000000000000000000000000000000" ∷
    codes "8 param collateralPercentage 150" ∷
    codes "8 param poolVotingThresholds 0/1 0/1 0/1 0/1 0/1" ∷
    codes "8 param drepVotingThresholds 67/100 67/100 67/100 67/100 67/100 67/100 67/100 67/100 67/100 67/100" ∷
    codes "8 param govActionLifetime 2" ∷
    codes "8 param govActionDeposit 10" ∷
    codes "8 param drepDeposit 5" ∷
    codes "8 param drepActivity 20" ∷
    codes "8 param committeeMinSize 0" ∷
    codes "8 param committeeMaxTermLength 100" ∷
    codes "8 drep k00000000000000000000000000000000000000000000000000000030 deposit 5 expiry 20" ∷
    codes "8 drep k00000000000000000000000000000000000000000000000000000031 deposit 5 expiry 20" ∷
    codes "8 pool 00000000000000000000000000000000000000000000000000000050 deposit 5 cost 0 pledge 0 margin 0/1 account 1k00000000000000000000000000000000000000000000000000000012 retires never" ∷
    codes "8 account k00000000000000000000000000000000000000000000000000000010 stake 0 deposit 2 rewards 67 pool none drep k00000000000000000000000000000000000000000000000000000030" ∷
    codes "8 account k00000000000000000000000000000000000000000000000000000011 stake 0 deposit 2 rewards 33 pool none drep k00000000000000000000000000000000000000000000000000000031" ∷
    codes "8 account k00000000000000000000000000000000000000000000000000000012 stake 0 deposit 2 rewards 0 pool none drep none" ∷
    codes "8 output 0000000000000000000000000000000000000000000000000000000000000003#0 1k00000000000000000000000000000000000000000000000000000001 0" ∷
    codes "8 asset 00000000000000000000000000000000000000000000000000000005 - 1" ∷
    codes "8 asset 00000000000000000000000000000000000000000000000000000005 0000 1" ∷
    codes "8 asset 00000000000000000000000000000000000000000000000000000005 10 1" ∷
    codes "8 asset 00000000000000000000000000000000000000000000000000000006 01 5" ∷
    codes "8 snapshot mark 00000000000000000000000000000000000000000000000000000050 0" ∷
    codes "8 snapshot fees 0" ∷
    codes "8 pending none" ∷
    codes "8 pots outputs 0 deposits 21 rewards 100 fees 40 donations 0 treasury 100 reserves 739 supply 1000" ∷
    codes "9 asset-total 00000000000000000000000000000000000000000000000000000005 - 1" ∷
    codes "9 asset-total 00000000000000000000000000000000000000000000000000000005 0000 1" ∷
    codes "9 asset-total 00000000000000000000000000000000000000000000000000000005 10 1" ∷
    codes "9 asset-total 00000000000000000000000000000000000000000000000000000006 01 5" ∷
    []) ≡ true
unfolding digits encode_with
assets_told_apart = refl

abbrev first_of_the_broken_rules_with_assets_input : List (ℕ × Reading)
first_of_the_broken_rules_with_assets_input =
    (1, Read (records.Genesis (record { network = 1; slot = 0; epoch_length = 10; version = (11, 0); supply = 1000; reserves = 679; treasury = 100; params = base_params; document = (h32 0x01); script = None; committee = (Some (record { threshold = (share 0 1); members = (((key 0x70), 100, (Some (key 0x71))) ∷ []) })); outputs = (((ref 0x01 2), (address_with 1 (key 0x01) None), 20, []) ∷ ((ref 0x01 3), (address_with 1 (key 0x01) None), 20, (((asset (h28 0x05) []), 2) ∷ [])) ∷ ((ref 0x01 4), (address_with 1 (key 0x01) None), 20, []) ∷ ((ref 0x01 5), (address_with 1 (key 0x01) None), 20, []) ∷ ((ref 0x01 6), (address_with 1 (key 0x01) None), 20, []) ∷ []); accounts = (((key 0x10), 2, 67, None, (Some (drep.Registered (key 0x30)))) ∷ ((key 0x11), 2, 33, None, (Some (drep.Registered (key 0x31)))) ∷ ((key 0x12), 2, 0, None, None) ∷ []); pools = ((record { pool = (pool 0x50); deposit = 5; cost = 0; pledge = 0; margin = (share 0 1); account = (account_on 1 (key 0x12)); key = (Some (h32 0x07)) }) ∷ []); dreps = (((key 0x30), 5, 20) ∷ ((key 0x31), 5, 20) ∷ []) }))) ∷
    (2, Read (records.Tx (record (spend 0x02 20) { scripts = scripts.Passed; collateral = ((ref 0x01 3) ∷ (ref 0x01 4) ∷ []); collateral_return = (Some (paying (address_with 1 (key 0x01) None) 11 0)); mint = (((asset (h28 0x05) []), (pos 1)) ∷ []); treasury = (Some 1) }))) ∷
    (3, Read (records.Tx (record (spend 0x02 10) { scripts = scripts.Passed; collateral = ((ref 0x01 3) ∷ []); mint = (((asset (h28 0x05) []), (pos 1)) ∷ []); treasury = (Some 1) }))) ∷
    (4, Read (records.Tx (record (spend 0x02 10) { scripts = scripts.Passed; collateral = ((ref 0x01 3) ∷ []); mint = (((asset (h28 0x05) []), (pos 1)) ∷ []); treasury = (Some 100); withdrawals = (((account_on 0 (key 0x10)), 1) ∷ []) }))) ∷
    (5, Read (records.Tx (record (spend 0x02 10) { scripts = scripts.Failed; collateral = ((ref 0x01 3) ∷ []); treasury = (Some 1) }))) ∷
    (6, Read (records.Tx (record (spend 0x02 10) { mint = (((asset (h28 0x05) []), (pos 1)) ∷ []); withdrawals = (((account_on 0 (key 0x10)), 1) ∷ []) }))) ∷
    (7, Read (records.Tx (record (spend 0x02 10) { mint = (((asset (h28 0x05) []), (pos 1)) ∷ []); certs = ((certs.PoolReg (pool 0x51) 0 0 (share 0 1) (account_on 1 (key 0x12)) (Some (h32 0x07))) ∷ []) }))) ∷
    (8, Read (records.Tx (record (spend 0x02 10) { mint = (((asset (h28 0x05) []), (pos 1)) ∷ []); proposals = ((proposing 9 (account_on 1 (key 0x12)) (actions.Info)) ∷ []) }))) ∷
    (9, Read (records.Tx (record (spend 0x02 0) { proposals = ((proposing 10 (account_on 1 (key 0x12)) (actions.UpdateCommittee None [] (((key 0x60), 50) ∷ []) (share 0 1))) ∷ (proposing 10 (account_on 1 (key 0x12)) (actions.Info)) ∷ []) }))) ∷
    (10, Read (records.Tx (record (spend 0x05 19) { mint = (((asset (h28 0x05) []), (pos 1)) ∷ []); certs = ((certs.HotAuth (key 0x60) (key 0x61)) ∷ []); votes = ((voting (voter.Committee (key 0x61)) (action 0x02 1) vote.Yes) ∷ []) }))) ∷
    (11, Read (records.Tx (record (spend 0x05 19) { mint = (((asset (h28 0x05) []), (pos 1)) ∷ []); certs = ((certs.HotAuth (key 0x60) (key 0x61)) ∷ []) }))) ∷
    (12, Read (records.Tx (record (spend 0x05 19) { outputs = ((paying_with (address_with 1 (key 0x01) None) 0 0 (((asset (h28 0x05) []), 1) ∷ [])) ∷ []); mint = (((asset (h28 0x05) []), (pos 1)) ∷ []); certs = ((certs.HotAuth (key 0x60) (key 0x61)) ∷ []) }))) ∷
    (13, Read (records.Tx (record (spend 0x05 20) { mint = (((asset (h28 0x05) []), (pos 1)) ∷ []); certs = ((certs.HotAuth (key 0x60) (key 0x61)) ∷ []) }))) ∷
    (14, Read (records.Tx (record (spend 0x05 20) { outputs = ((paying_with (address_with 1 (key 0x01) None) 0 0 (((asset (h28 0x05) []), 1) ∷ [])) ∷ []); mint = (((asset (h28 0x05) []), (pos 1)) ∷ []); certs = ((certs.PoolReg (pool 0x50) 0 0 (share 0 1) (account_on 1 (key 0x12)) (Some (h32 0x08))) ∷ []) }))) ∷
    (15, Read (records.Tx (record (spend 0x06 10) { scripts = scripts.Failed; collateral = ((ref 0x01 3) ∷ []); collateral_return = (Some (paying_with (address_with 1 (key 0x01) None) 5 0 (((asset (h28 0x05) []), 2) ∷ []))); mint = (((asset (h28 0x05) []), (pos 1)) ∷ []); treasury = (Some 1); certs = ((certs.PoolReg (pool 0x51) 0 0 (share 0 1) (account_on 1 (key 0x12)) (Some (h32 0x07))) ∷ []); votes = ((voting (voter.Committee (key 0x61)) (action 0x02 1) vote.Yes) ∷ []) }))) ∷
    (16, Read (records.Print what.State)) ∷
    (17, Read (records.Print what.Assets)) ∷
    []

pub first_of_the_broken_rules_with_assets : says_all first_of_the_broken_rules_with_assets_input (
    codes "1 genesis outputs 100 deposits 21 rewards 100 fees 0 donations 0 treasury 100 reserves 679 supply 1000" ∷
    codes "2 refused 44 CollateralTooSmall have 29" ∷
    codes "3 refused 45 TreasuryValueWrong is 100" ∷
    codes "4 refused 46 CollateralAssetsWrong" ∷
    codes "5 refused 46 CollateralAssetsWrong" ∷
    codes "6 refused 50 WithdrawalWrongNetwork at 0" ∷
    codes "7 refused 73 PoolKeyInUse at 0" ∷
    codes "8 refused 80 ProposalDepositWrong at 0 want 10" ∷
    codes "9 accepted" ∷
    codes "10 refused 104 VoterNotSeated at 0" ∷
    codes "11 refused 110 NotBalanced consumed 20 produced 19" ∷
    codes "12 refused 110 NotBalanced consumed 20 produced 19" ∷
    codes "13 refused 111 AssetNotBalanced at 0 consumed 1 produced 0" ∷
    codes "14 accepted" ∷
    codes "15 accepted failed-scripts" ∷
    codes "16 now slot 0 epoch 0 version 11.0 dormant 0" ∷
    codes "16 constitution 0000000000000000000000000000000000000000000000000000000000000001 none" ∷
    codes "16 committee threshold 0/1" ∷
    codes "16 member k00000000000000000000000000000000000000000000000000000070 term 100 hot k00000000000000000000000000000000000000000000000000000071" ∷
    codes "16 enacted committee none constitution none hardfork none parameters none" ∷
    codes "16 param maxBlockBodySize 90112" ∷
    codes "16 param maxTxSize 16384" ∷
    codes "16 param maxBlockHeaderSize 1100" ∷
    codes "16 param maxValueSize 5000" ∷
    codes "16 param maxTxExUnits 1000 1000" ∷
    codes "16 param maxBlockExUnits 1000 1000" ∷
    codes "16 param maxCollateralInputs 3" ∷
    codes "16 param minFeeA 0" ∷
    codes "16 param minFeeB 0" ∷
    codes "16 param keyDeposit 2" ∷
    codes "16 param poolDeposit 5" ∷
    codes "16 param rho 0/1" ∷
    codes "16 param tau 0/1" ∷
    codes "16 param minPoolCost 0" ∷
    codes "16 param coinsPerUTxOByte 0" ∷
    codes "16 param prices 0/1 0/1" ∷
    codes "16 param minFeeRefScriptCostPerByte 15/1" ∷
    codes "16 param a0 0/1" ∷
    codes "16 param eMax 18" ∷
    codes "16 param nOpt 500" ∷
    codes "16 param costModels 0000000000000000000000000000000000000000000000000000000000000000" ∷
    codes "16 param collateralPercentage 150" ∷
    codes "16 param poolVotingThresholds 0/1 0/1 0/1 0/1 0/1" ∷
    codes "16 param drepVotingThresholds 67/100 67/100 67/100 67/100 67/100 67/100 67/100 67/100 67/100 67/100" ∷
    codes "16 param govActionLifetime 2" ∷
    codes "16 param govActionDeposit 10" ∷
    codes "16 param drepDeposit 5" ∷
    codes "16 param drepActivity 20" ∷
    codes "16 param committeeMinSize 0" ∷
    codes "16 param committeeMaxTermLength 100" ∷
    codes "16 drep k00000000000000000000000000000000000000000000000000000030 deposit 5 expiry 20" ∷
    codes "16 drep k00000000000000000000000000000000000000000000000000000031 deposit 5 expiry 20" ∷
    codes "16 pool 00000000000000000000000000000000000000000000000000000050 deposit 5 cost 0 pledge 0 margin 0/1 account 1k00000000000000000000000000000000000000000000000000000012 retires never key 0000000000000000000000000000000000000000000000000000000000000007" ∷
    codes "16 next 00000000000000000000000000000000000000000000000000000050 cost 0 pledge 0 margin 0/1 account 1k00000000000000000000000000000000000000000000000000000012 key 0000000000000000000000000000000000000000000000000000000000000008" ∷
    codes "16 account k00000000000000000000000000000000000000000000000000000010 stake 0 deposit 2 rewards 67 pool none drep k00000000000000000000000000000000000000000000000000000030" ∷
    codes "16 account k00000000000000000000000000000000000000000000000000000011 stake 0 deposit 2 rewards 33 pool none drep k00000000000000000000000000000000000000000000000000000031" ∷
    codes "16 account k00000000000000000000000000000000000000000000000000000012 stake 0 deposit 2 rewards 0 pool none drep none" ∷
    codes "16 output 0000000000000000000000000000000000000000000000000000000000000001#4 1k00000000000000000000000000000000000000000000000000000001 20" ∷
    codes "16 output 0000000000000000000000000000000000000000000000000000000000000001#6 1k00000000000000000000000000000000000000000000000000000001 20" ∷
    codes "16 output 0000000000000000000000000000000000000000000000000000000000000005#0 1k00000000000000000000000000000000000000000000000000000001 0" ∷
    codes "16 asset 00000000000000000000000000000000000000000000000000000005 - 1" ∷
    codes "16 output 0000000000000000000000000000000000000000000000000000000000000006#0 1k00000000000000000000000000000000000000000000000000000001 5" ∷
    codes "16 asset 00000000000000000000000000000000000000000000000000000005 - 2" ∷
    codes "16 proposal 0000000000000000000000000000000000000000000000000000000000000002#0 UpdateCommittee deposit 10 return 1k00000000000000000000000000000000000000000000000000000012 expires 2 previous none" ∷
    codes "16 proposal 0000000000000000000000000000000000000000000000000000000000000002#1 Info deposit 10 return 1k00000000000000000000000000000000000000000000000000000012 expires 2 previous none" ∷
    codes "16 snapshot mark 00000000000000000000000000000000000000000000000000000050 0" ∷
    codes "16 snapshot fees 0" ∷
    codes "16 pending none" ∷
    codes "16 pots outputs 45 deposits 41 rewards 100 fees 35 donations 0 treasury 100 reserves 679 supply 1000" ∷
    codes "17 asset-total 00000000000000000000000000000000000000000000000000000005 - 3" ∷
    []) ≡ true
unfolding digits encode_with
first_of_the_broken_rules_with_assets = refl
