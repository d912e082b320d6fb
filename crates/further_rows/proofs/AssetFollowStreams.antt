-- Worked rows of whole streams: rollbacks with assets. Made by tests/made/rows_of, from the streams of these names in tests/streams/further.
use Rattle.std.specs.Prelude.{ℕ, ◌≡◌, List, [], ◌∷◌, Some, None, true, pos, negsuc, codes, refl}
use Rattle.std.specs.Fmt.{digits}
use Rattle.hex.specs.Hex.{encode_with}
use Rattle.gov_ids.specs.declared.Drep.TheVariants as drep
use Rattle.tx_records.specs.declared.record.Record.TheVariants as records
use Rattle.tx_records.specs.declared.record.What.TheVariants as what
use Rattle.tx_records.specs.declared.tx.Scripts.TheVariants as scripts
use Rattle.ledger_rows.proofs.Base.{h28, h32, key, pool, account_on, address_with, ref, asset, share, base_params, spend, paying_with}
use Rattle.follow_model.specs.FollowLines.{follow_of_readings}
use Rattle.follow_records.specs.declared.record.FollowReading.{FollowReading}
use Rattle.follow_records.specs.declared.record.FollowReading.TheVariants as follow
use Rattle.follow_records.specs.declared.record.FollowRecord.TheVariants.{Plain, Rollback}
use Rattle.further_rows.proofs.Texts.{is_text}

abbrev follow_gives_assets_back_input : List (ℕ × FollowReading)
follow_gives_assets_back_input =
    (1, follow.Read (Plain (records.Genesis (record { network = 1; slot = 0; epoch_length = 10; version = (10, 0); supply = 1000; reserves = 619; treasury = 100; params = base_params; document = (h32 0x01); script = None; committee = (Some (record { threshold = (share 0 1); members = (((key 0x70), 100, (Some (key 0x71))) ∷ []) })); outputs = (((ref 0x01 2), (address_with 1 (key 0x01) None), 20, []) ∷ ((ref 0x01 3), (address_with 1 (key 0x01) None), 20, []) ∷ ((ref 0x01 4), (address_with 1 (key 0x01) None), 20, []) ∷ ((ref 0x01 5), (address_with 1 (key 0x01) None), 20, []) ∷ ((ref 0x01 6), (address_with 1 (key 0x01) None), 20, []) ∷ ((ref 0x01 7), (address_with 1 (key 0x01) None), 20, []) ∷ ((ref 0x01 8), (address_with 1 (key 0x01) None), 20, []) ∷ ((ref 0x01 9), (address_with 1 (key 0x01) None), 20, (((asset (h28 0x06) []), 3) ∷ [])) ∷ []); accounts = (((key 0x10), 2, 67, None, (Some (drep.Registered (key 0x30)))) ∷ ((key 0x11), 2, 33, None, (Some (drep.Registered (key 0x31)))) ∷ ((key 0x12), 2, 0, None, None) ∷ []); pools = ((record { pool = (pool 0x50); deposit = 5; cost = 0; pledge = 0; margin = (share 0 1); account = (account_on 1 (key 0x12)); key = None }) ∷ []); dreps = (((key 0x30), 5, 20) ∷ ((key 0x31), 5, 20) ∷ []) })))) ∷
    (2, follow.Read (Plain (records.Block 1 1))) ∷
    (3, follow.Read (Plain (records.Tx (record (spend 0x02 20) { outputs = ((paying_with (address_with 1 (key 0x01) None) 0 0 (((asset (h28 0x05) []), 7) ∷ [])) ∷ []); mint = (((asset (h28 0x05) []), (pos 7)) ∷ []) })))) ∷
    (4, follow.Read (Plain (records.Tx (record (spend 0x03 20) { inputs = ((ref 0x01 9) ∷ []); mint = (((asset (h28 0x06) []), (negsuc 2)) ∷ []) })))) ∷
    (5, follow.Read (Plain (records.Block 2 1))) ∷
    (6, follow.Read (Plain (records.Print what.Assets))) ∷
    (7, follow.Read (Rollback 1)) ∷
    (8, follow.Read (Plain (records.Print what.Assets))) ∷
    (9, follow.Read (Plain (records.Tx (record (spend 0x03 20) { inputs = ((ref 0x01 9) ∷ []); outputs = ((paying_with (address_with 1 (key 0x01) None) 0 0 (((asset (h28 0x05) []), 2) ∷ ((asset (h28 0x06) []), 3) ∷ [])) ∷ []); mint = (((asset (h28 0x05) []), (pos 2)) ∷ []) })))) ∷
    (10, follow.Read (Plain (records.Block 2 1))) ∷
    (11, follow.Read (Plain (records.Tx (record (spend 0x04 0) { scripts = scripts.Failed; collateral = ((ref 0x03 0) ∷ []); collateral_return = (Some (paying_with (address_with 1 (key 0x01) None) 0 0 (((asset (h28 0x05) []), 2) ∷ ((asset (h28 0x06) []), 3) ∷ []))) })))) ∷
    (12, follow.Read (Plain (records.Tx (record (spend 0x05 20) { inputs = ((ref 0x04 0) ∷ (ref 0x01 5) ∷ []); mint = (((asset (h28 0x05) []), (negsuc 1)) ∷ ((asset (h28 0x06) []), (negsuc 2)) ∷ []) })))) ∷
    (13, follow.Read (Plain (records.Print what.Assets))) ∷
    (14, follow.Read (Plain (records.Block 3 1))) ∷
    (15, follow.Read (Rollback 2)) ∷
    (16, follow.Read (Plain (records.Tx (record (spend 0x05 20) { inputs = ((ref 0x04 0) ∷ []) })))) ∷
    (17, follow.Read (Plain (records.Tx (record (spend 0x05 20) { inputs = ((ref 0x03 0) ∷ (ref 0x01 5) ∷ []); outputs = ((paying_with (address_with 1 (key 0x01) None) 0 0 (((asset (h28 0x06) []), 2) ∷ [])) ∷ []); mint = (((asset (h28 0x05) []), (negsuc 1)) ∷ []) })))) ∷
    (18, follow.Read (Plain (records.Print what.Assets))) ∷
    []

pub follow_gives_assets_back : is_text (follow_of_readings follow_gives_assets_back_input) (
    codes "1 genesis outputs 160 deposits 21 rewards 100 fees 0 donations 0 treasury 100 reserves 619 supply 1000" ∷
    codes "2 block slot 1 epoch 0 counted 1 of 3" ∷
    codes "3 accepted" ∷
    codes "4 accepted" ∷
    codes "5 block slot 2 epoch 0 counted 2 of 3" ∷
    codes "6 asset-total 00000000000000000000000000000000000000000000000000000005 - 7" ∷
    codes "7 rolled slot 1 epoch 0 counted 2 of 3" ∷
    codes "8 asset-total 00000000000000000000000000000000000000000000000000000006 - 3" ∷
    codes "9 accepted" ∷
    codes "10 block slot 2 epoch 0 counted 3 of 3" ∷
    codes "11 accepted failed-scripts" ∷
    codes "12 accepted" ∷
    codes "14 block slot 3 epoch 0 counted 3 of 3" ∷
    codes "15 rolled slot 2 epoch 0 counted 3 of 3" ∷
    codes "16 refused 33 InputMissing at 0" ∷
    codes "17 refused 111 AssetNotBalanced at 1 consumed 3 produced 2" ∷
    codes "18 asset-total 00000000000000000000000000000000000000000000000000000005 - 2" ∷
    codes "18 asset-total 00000000000000000000000000000000000000000000000000000006 - 3" ∷
    []) ≡ true
unfolding digits encode_with
follow_gives_assets_back = refl
