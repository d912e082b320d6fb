-- Worked rows of whole streams: rollbacks. Made by tests/made/rows_of, from the streams of these names in tests/streams/further.
use Rattle.std.specs.Prelude.{ℕ, ◌≡◌, List, [], ◌∷◌, Some, None, true, codes, refl}
use Rattle.std.specs.Fmt.{digits}
use Rattle.hex.specs.Hex.{encode_with}
use Rattle.gov_actions.specs.declared.action.Action.TheVariants as actions
use Rattle.gov_actions.specs.declared.action.Vote.TheVariants as vote
use Rattle.gov_ids.specs.declared.Drep.TheVariants as drep
use Rattle.gov_ids.specs.declared.Voter.TheVariants as voter
use Rattle.tx_records.specs.declared.field.FieldName.TheVariants as field
use Rattle.tx_records.specs.declared.record.Record.TheVariants as records
use Rattle.tx_records.specs.declared.record.What.TheVariants as what
use Rattle.tx_records.specs.declared.cert.Cert.TheVariants as certs
use Rattle.tx_records.specs.declared.tx.Scripts.TheVariants as scripts
use Rattle.ledger_rows.proofs.Base.{h32, key, script, pool, account_on, address_with, ref, action, share, base_params, spend, paying, proposing, voting}
use Rattle.follow_model.specs.FollowLines.{follow_of_readings}
use Rattle.follow_records.specs.declared.record.FollowReading.{FollowReading}
use Rattle.follow_records.specs.declared.record.FollowReading.TheVariants as follow
use Rattle.follow_records.specs.declared.record.FollowRecord.TheVariants.{Plain, Rollback}
use Rattle.further_rows.proofs.Texts.{is_text}

abbrev follow_to_each_kept_block_input : List (ℕ × FollowReading)
follow_to_each_kept_block_input =
    (1, follow.Read (Plain (records.Genesis (record { network = 1; slot = 0; epoch_length = 10; version = (10, 0); supply = 1000; reserves = 579; treasury = 100; params = base_params; document = (h32 0x01); script = None; committee = (Some (record { threshold = (share 0 1); members = (((key 0x70), 100, (Some (key 0x71))) ∷ []) })); outputs = (((ref 0x01 0), (address_with 1 (key 0x01) None), 20, []) ∷ ((ref 0x01 1), (address_with 1 (key 0x01) None), 20, []) ∷ ((ref 0x01 2), (address_with 1 (key 0x01) None), 20, []) ∷ ((ref 0x01 3), (address_with 1 (key 0x01) None), 20, []) ∷ ((ref 0x01 4), (address_with 1 (key 0x01) None), 20, []) ∷ ((ref 0x01 5), (address_with 1 (key 0x01) None), 20, []) ∷ ((ref 0x01 6), (address_with 1 (key 0x01) None), 20, []) ∷ ((ref 0x01 7), (address_with 1 (key 0x01) None), 20, []) ∷ ((ref 0x01 8), (address_with 1 (key 0x01) None), 20, []) ∷ ((ref 0x01 9), (address_with 1 (key 0x01) None), 20, []) ∷ []); accounts = (((key 0x10), 2, 67, None, (Some (drep.Registered (key 0x30)))) ∷ ((key 0x11), 2, 33, None, (Some (drep.Registered (key 0x31)))) ∷ ((key 0x12), 2, 0, None, None) ∷ []); pools = ((record { pool = (pool 0x50); deposit = 5; cost = 0; pledge = 0; margin = (share 0 1); account = (account_on 1 (key 0x12)); key = None }) ∷ []); dreps = (((key 0x30), 5, 20) ∷ ((key 0x31), 5, 20) ∷ []) })))) ∷
    (2, follow.Read (Rollback 0)) ∷
    (3, follow.Read (Plain (records.Block 1 1))) ∷
    (4, follow.Read (Plain (records.Tx (spend 0x02 20)))) ∷
    (5, follow.Read (Plain (records.Print what.Pots))) ∷
    (6, follow.Read (Plain (records.Block 2 1))) ∷
    (7, follow.Read (Plain (records.Tx (spend 0x03 20)))) ∷
    (8, follow.Read (Plain (records.Block 4 0))) ∷
    (9, follow.Read (Plain (records.Block 4 1))) ∷
    (10, follow.Read (Plain (records.Tx (spend 0x04 20)))) ∷
    (11, follow.Read (Plain (records.Block 7 1))) ∷
    (12, follow.Read (Plain (records.Tx (spend 0x05 20)))) ∷
    (13, follow.Read (Plain (records.Print what.Pots))) ∷
    (14, follow.Read (Rollback 7)) ∷
    (15, follow.Read (Plain (records.Print what.Pots))) ∷
    (16, follow.Read (Rollback 3)) ∷
    (17, follow.Read (Rollback 4)) ∷
    (18, follow.Read (Plain (records.Print what.Pots))) ∷
    (19, follow.Read (Rollback 7)) ∷
    (20, follow.Read (Rollback 2)) ∷
    (21, follow.Read (Plain (records.Print what.Pots))) ∷
    (22, follow.Read (Rollback 2)) ∷
    (23, follow.Read (Rollback 1)) ∷
    (24, follow.Read (Plain (records.Print what.Pots))) ∷
    (25, follow.Read (Rollback 0)) ∷
    (26, follow.Read (Plain (records.Block 2 1))) ∷
    (27, follow.Read (Plain (records.Print what.Pots))) ∷
    []

pub follow_to_each_kept_block : is_text (follow_of_readings follow_to_each_kept_block_input) (
    codes "1 genesis outputs 200 deposits 21 rewards 100 fees 0 donations 0 treasury 100 reserves 579 supply 1000" ∷
    codes "2 refused 13 RollbackUnknown last 0" ∷
    codes "3 block slot 1 epoch 0 counted 1 of 3" ∷
    codes "4 accepted" ∷
    codes "5 pots outputs 180 deposits 21 rewards 100 fees 20 donations 0 treasury 100 reserves 579 supply 1000" ∷
    codes "6 block slot 2 epoch 0 counted 2 of 3" ∷
    codes "7 accepted" ∷
    codes "8 refused 12 ZeroPulse" ∷
    codes "9 block slot 4 epoch 0 counted 3 of 3" ∷
    codes "10 accepted" ∷
    codes "11 block slot 7 epoch 0 counted 3 of 3" ∷
    codes "12 accepted" ∷
    codes "13 pots outputs 120 deposits 21 rewards 100 fees 80 donations 0 treasury 100 reserves 579 supply 1000" ∷
    codes "14 rolled slot 7 epoch 0 counted 3 of 3" ∷
    codes "15 pots outputs 140 deposits 21 rewards 100 fees 60 donations 0 treasury 100 reserves 579 supply 1000" ∷
    codes "16 refused 13 RollbackUnknown last 7" ∷
    codes "17 rolled slot 4 epoch 0 counted 3 of 3" ∷
    codes "18 pots outputs 160 deposits 21 rewards 100 fees 40 donations 0 treasury 100 reserves 579 supply 1000" ∷
    codes "19 refused 13 RollbackUnknown last 4" ∷
    codes "20 rolled slot 2 epoch 0 counted 3 of 3" ∷
    codes "21 pots outputs 180 deposits 21 rewards 100 fees 20 donations 0 treasury 100 reserves 579 supply 1000" ∷
    codes "22 rolled slot 2 epoch 0 counted 3 of 3" ∷
    codes "23 rolled slot 1 epoch 0 counted 3 of 3" ∷
    codes "24 pots outputs 200 deposits 21 rewards 100 fees 0 donations 0 treasury 100 reserves 579 supply 1000" ∷
    codes "25 refused 13 RollbackUnknown last 1" ∷
    codes "26 block slot 2 epoch 0 counted 3 of 3" ∷
    codes "27 pots outputs 200 deposits 21 rewards 100 fees 0 donations 0 treasury 100 reserves 579 supply 1000" ∷
    []) ≡ true
unfolding digits encode_with
follow_to_each_kept_block = refl

abbrev follow_uses_cut_ids_again_input : List (ℕ × FollowReading)
follow_uses_cut_ids_again_input =
    (1, follow.Read (Plain (records.Genesis (record { network = 1; slot = 0; epoch_length = 10; version = (10, 0); supply = 1000; reserves = 579; treasury = 100; params = base_params; document = (h32 0x01); script = None; committee = (Some (record { threshold = (share 0 1); members = (((key 0x70), 100, (Some (key 0x71))) ∷ []) })); outputs = (((ref 0x01 0), (address_with 1 (key 0x01) None), 20, []) ∷ ((ref 0x01 1), (address_with 1 (key 0x01) None), 20, []) ∷ ((ref 0x01 2), (address_with 1 (key 0x01) None), 20, []) ∷ ((ref 0x01 3), (address_with 1 (key 0x01) None), 20, []) ∷ ((ref 0x01 4), (address_with 1 (key 0x01) None), 20, []) ∷ ((ref 0x01 5), (address_with 1 (key 0x01) None), 20, []) ∷ ((ref 0x01 6), (address_with 1 (key 0x01) None), 20, []) ∷ ((ref 0x01 7), (address_with 1 (key 0x01) None), 20, []) ∷ ((ref 0x01 8), (address_with 1 (key 0x01) None), 20, []) ∷ ((ref 0x01 9), (address_with 1 (key 0x01) None), 20, []) ∷ []); accounts = (((key 0x10), 2, 67, None, (Some (drep.Registered (key 0x30)))) ∷ ((key 0x11), 2, 33, None, (Some (drep.Registered (key 0x31)))) ∷ ((key 0x12), 2, 0, None, None) ∷ []); pools = ((record { pool = (pool 0x50); deposit = 5; cost = 0; pledge = 0; margin = (share 0 1); account = (account_on 1 (key 0x12)); key = None }) ∷ []); dreps = (((key 0x30), 5, 20) ∷ ((key 0x31), 5, 20) ∷ []) })))) ∷
    (2, follow.Read (Plain (records.Block 1 1))) ∷
    (3, follow.Read (Plain (records.Tx (record (spend 0x02 0) { outputs = ((paying (address_with 1 (key 0x01) None) 20 0) ∷ []) })))) ∷
    (4, follow.Read (Plain (records.Tx (record (spend 0x03 0) { inputs = ((ref 0x02 0) ∷ []); outputs = ((paying (address_with 1 (key 0x01) None) 20 0) ∷ []) })))) ∷
    (5, follow.Read (Plain (records.Tx (record (spend 0x04 0) { scripts = scripts.Failed; collateral = ((ref 0x01 5) ∷ []) })))) ∷
    (6, follow.Read (Plain (records.Tx (spend 0x02 20)))) ∷
    (7, follow.Read (Rollback 1)) ∷
    (8, follow.Read (Plain (records.Tx (record (spend 0x03 20) { inputs = ((ref 0x02 0) ∷ []) })))) ∷
    (9, follow.Read (Plain (records.Tx (record (spend 0x02 0) { inputs = ((ref 0x01 5) ∷ []); outputs = ((paying (address_with 1 (key 0x01) None) 9 0) ∷ (paying (address_with 1 (key 0x01) None) 11 0) ∷ []) })))) ∷
    (10, follow.Read (Plain (records.Tx (record (spend 0x04 0) { scripts = scripts.Failed; collateral = ((ref 0x01 6) ∷ []); collateral_return = (Some (paying (address_with 1 (key 0x01) None) 19 0)) })))) ∷
    (11, follow.Read (Plain (records.Tx (record (spend 0x03 30) { inputs = ((ref 0x02 1) ∷ (ref 0x04 0) ∷ []) })))) ∷
    (12, follow.Read (Plain (records.Tx (spend 0x02 20)))) ∷
    (13, follow.Read (Plain (records.Print what.Pots))) ∷
    (14, follow.Read (Plain (records.Block 2 1))) ∷
    (15, follow.Read (Rollback 2)) ∷
    (16, follow.Read (Plain (records.Tx (spend 0x02 20)))) ∷
    (17, follow.Read (Rollback 1)) ∷
    (18, follow.Read (Plain (records.Tx (spend 0x02 20)))) ∷
    (19, follow.Read (Plain (records.Print what.Pots))) ∷
    []

pub follow_uses_cut_ids_again : is_text (follow_of_readings follow_uses_cut_ids_again_input) (
    codes "1 genesis outputs 200 deposits 21 rewards 100 fees 0 donations 0 treasury 100 reserves 579 supply 1000" ∷
    codes "2 block slot 1 epoch 0 counted 1 of 3" ∷
    codes "3 accepted" ∷
    codes "4 accepted" ∷
    codes "5 accepted failed-scripts" ∷
    codes "6 refused 30 TxIdUsed" ∷
    codes "7 rolled slot 1 epoch 0 counted 1 of 3" ∷
    codes "8 refused 33 InputMissing at 0" ∷
    codes "9 accepted" ∷
    codes "10 accepted failed-scripts" ∷
    codes "11 accepted" ∷
    codes "12 refused 30 TxIdUsed" ∷
    codes "13 pots outputs 169 deposits 21 rewards 100 fees 31 donations 0 treasury 100 reserves 579 supply 1000" ∷
    codes "14 block slot 2 epoch 0 counted 2 of 3" ∷
    codes "15 rolled slot 2 epoch 0 counted 2 of 3" ∷
    codes "16 refused 30 TxIdUsed" ∷
    codes "17 rolled slot 1 epoch 0 counted 2 of 3" ∷
    codes "18 accepted" ∷
    codes "19 pots outputs 180 deposits 21 rewards 100 fees 20 donations 0 treasury 100 reserves 579 supply 1000" ∷
    []) ≡ true
unfolding digits encode_with
follow_uses_cut_ids_again = refl

abbrev follow_never_lowers_the_count_input : List (ℕ × FollowReading)
follow_never_lowers_the_count_input =
    (1, follow.Read (Plain (records.Genesis (record { network = 1; slot = 0; epoch_length = 10; version = (10, 0); supply = 1000; reserves = 579; treasury = 100; params = base_params; document = (h32 0x01); script = None; committee = (Some (record { threshold = (share 0 1); members = (((key 0x70), 100, (Some (key 0x71))) ∷ []) })); outputs = (((ref 0x01 0), (address_with 1 (key 0x01) None), 20, []) ∷ ((ref 0x01 1), (address_with 1 (key 0x01) None), 20, []) ∷ ((ref 0x01 2), (address_with 1 (key 0x01) None), 20, []) ∷ ((ref 0x01 3), (address_with 1 (key 0x01) None), 20, []) ∷ ((ref 0x01 4), (address_with 1 (key 0x01) None), 20, []) ∷ ((ref 0x01 5), (address_with 1 (key 0x01) None), 20, []) ∷ ((ref 0x01 6), (address_with 1 (key 0x01) None), 20, []) ∷ ((ref 0x01 7), (address_with 1 (key 0x01) None), 20, []) ∷ ((ref 0x01 8), (address_with 1 (key 0x01) None), 20, []) ∷ ((ref 0x01 9), (address_with 1 (key 0x01) None), 20, []) ∷ []); accounts = (((key 0x10), 2, 67, None, (Some (drep.Registered (key 0x30)))) ∷ ((key 0x11), 2, 33, None, (Some (drep.Registered (key 0x31)))) ∷ ((key 0x12), 2, 0, None, None) ∷ []); pools = ((record { pool = (pool 0x50); deposit = 5; cost = 0; pledge = 0; margin = (share 0 1); account = (account_on 1 (key 0x12)); key = None }) ∷ []); dreps = (((key 0x30), 5, 20) ∷ ((key 0x31), 5, 20) ∷ []) })))) ∷
    (2, follow.Read (Plain (records.Block 1 1))) ∷
    (3, follow.Read (Plain (records.Block 2 1))) ∷
    (4, follow.Read (Rollback 1)) ∷
    (5, follow.Read (Rollback 1)) ∷
    (6, follow.Read (Plain (records.Block 2 1))) ∷
    (7, follow.Read (Rollback 1)) ∷
    (8, follow.Read (Plain (records.Block 3 7))) ∷
    (9, follow.Read (Rollback 1)) ∷
    (10, follow.Read (Plain (records.Block 2 1))) ∷
    (11, follow.Read (Plain (records.Block 10 1))) ∷
    (12, follow.Read (Plain (records.Block 11 1))) ∷
    (13, follow.Read (Rollback 10)) ∷
    (14, follow.Read (Plain (records.Block 12 1))) ∷
    (15, follow.Read (Rollback 10)) ∷
    (16, follow.Read (Plain (records.Block 11 2))) ∷
    (17, follow.Read (Plain (records.Block 20 1))) ∷
    []

pub follow_never_lowers_the_count : is_text (follow_of_readings follow_never_lowers_the_count_input) (
    codes "1 genesis outputs 200 deposits 21 rewards 100 fees 0 donations 0 treasury 100 reserves 579 supply 1000" ∷
    codes "2 block slot 1 epoch 0 counted 1 of 3" ∷
    codes "3 block slot 2 epoch 0 counted 2 of 3" ∷
    codes "4 rolled slot 1 epoch 0 counted 2 of 3" ∷
    codes "5 rolled slot 1 epoch 0 counted 2 of 3" ∷
    codes "6 block slot 2 epoch 0 counted 3 of 3" ∷
    codes "7 rolled slot 1 epoch 0 counted 3 of 3" ∷
    codes "8 block slot 3 epoch 0 counted 3 of 3" ∷
    codes "9 rolled slot 1 epoch 0 counted 3 of 3" ∷
    codes "10 block slot 2 epoch 0 counted 3 of 3" ∷
    codes "11 epoch 1 frozen 3 dormant 1" ∷
    codes "11 stake k00000000000000000000000000000000000000000000000000000030 67" ∷
    codes "11 stake k00000000000000000000000000000000000000000000000000000031 33" ∷
    codes "11 pots outputs 200 deposits 21 rewards 100 fees 0 donations 0 treasury 100 reserves 579 supply 1000" ∷
    codes "11 block slot 10 epoch 1 counted 1 of 3" ∷
    codes "12 block slot 11 epoch 1 counted 2 of 3" ∷
    codes "13 rolled slot 10 epoch 1 counted 2 of 3" ∷
    codes "14 block slot 12 epoch 1 counted 3 of 3" ∷
    codes "15 rolled slot 10 epoch 1 counted 3 of 3" ∷
    codes "16 block slot 11 epoch 1 counted 3 of 3" ∷
    codes "17 epoch 2 frozen 3 dormant 2" ∷
    codes "17 stake k00000000000000000000000000000000000000000000000000000030 67" ∷
    codes "17 stake k00000000000000000000000000000000000000000000000000000031 33" ∷
    codes "17 pots outputs 200 deposits 21 rewards 100 fees 0 donations 0 treasury 100 reserves 579 supply 1000" ∷
    codes "17 block slot 20 epoch 2 counted 1 of 3" ∷
    []) ≡ true
unfolding digits encode_with
follow_never_lowers_the_count = refl

abbrev follow_over_boundaries_input : List (ℕ × FollowReading)
follow_over_boundaries_input =
    (1, follow.Read (Plain (records.Genesis (record { network = 1; slot = 0; epoch_length = 10; version = (10, 0); supply = 1000; reserves = 579; treasury = 100; params = base_params; document = (h32 0x01); script = None; committee = (Some (record { threshold = (share 0 1); members = (((key 0x70), 100, (Some (key 0x71))) ∷ []) })); outputs = (((ref 0x01 0), (address_with 1 (key 0x01) None), 20, []) ∷ ((ref 0x01 1), (address_with 1 (key 0x01) None), 20, []) ∷ ((ref 0x01 2), (address_with 1 (key 0x01) None), 20, []) ∷ ((ref 0x01 3), (address_with 1 (key 0x01) None), 20, []) ∷ ((ref 0x01 4), (address_with 1 (key 0x01) None), 20, []) ∷ ((ref 0x01 5), (address_with 1 (key 0x01) None), 20, []) ∷ ((ref 0x01 6), (address_with 1 (key 0x01) None), 20, []) ∷ ((ref 0x01 7), (address_with 1 (key 0x01) None), 20, []) ∷ ((ref 0x01 8), (address_with 1 (key 0x01) None), 20, []) ∷ ((ref 0x01 9), (address_with 1 (key 0x01) None), 20, []) ∷ []); accounts = (((key 0x10), 2, 67, None, (Some (drep.Registered (key 0x30)))) ∷ ((key 0x11), 2, 33, None, (Some (drep.Registered (key 0x31)))) ∷ ((key 0x12), 2, 0, None, None) ∷ []); pools = ((record { pool = (pool 0x50); deposit = 5; cost = 0; pledge = 0; margin = (share 0 1); account = (account_on 1 (key 0x12)); key = None }) ∷ []); dreps = (((key 0x30), 5, 20) ∷ ((key 0x31), 5, 20) ∷ []) })))) ∷
    (2, follow.Read (Plain (records.Tx (record (spend 0x02 10) { proposals = ((proposing 10 (account_on 1 (key 0x12)) (actions.NoConfidence None)) ∷ []) })))) ∷
    (3, follow.Read (Plain (records.Block 5 1))) ∷
    (4, follow.Read (Plain (records.Tx (record (spend 0x03 20) { votes = ((voting (voter.Drep (key 0x30)) (action 0x02 0) vote.Yes) ∷ []) })))) ∷
    (5, follow.Read (Plain (records.Block 8 1))) ∷
    (6, follow.Read (Rollback 5)) ∷
    (7, follow.Read (Plain (records.Tx (record (spend 0x03 20) { votes = ((voting (voter.Drep (key 0x31)) (action 0x02 0) vote.Yes) ∷ []) })))) ∷
    (8, follow.Read (Plain (records.Block 10 1))) ∷
    (9, follow.Read (Rollback 5)) ∷
    (10, follow.Read (Rollback 8)) ∷
    (11, follow.Read (Rollback 0)) ∷
    (12, follow.Read (Plain (records.Tx (record (spend 0x04 20) { votes = ((voting (voter.Drep (key 0x30)) (action 0x02 0) vote.Yes) ∷ []) })))) ∷
    (13, follow.Read (Rollback 10)) ∷
    (14, follow.Read (Plain (records.Block 12 1))) ∷
    (15, follow.Read (Rollback 5)) ∷
    (16, follow.Read (Rollback 10)) ∷
    (17, follow.Read (Plain (records.Tx (record (spend 0x04 20) { votes = ((voting (voter.Drep (key 0x30)) (action 0x02 0) vote.No) ∷ []) })))) ∷
    (18, follow.Read (Plain (records.Block 20 1))) ∷
    (19, follow.Read (Rollback 10)) ∷
    (20, follow.Read (Rollback 12)) ∷
    (21, follow.Read (Rollback 20)) ∷
    (22, follow.Read (Plain (records.Block 30 1))) ∷
    (23, follow.Read (Plain (records.Print what.State))) ∷
    []

pub follow_over_boundaries : is_text (follow_of_readings follow_over_boundaries_input) (
    codes "1 genesis outputs 200 deposits 21 rewards 100 fees 0 donations 0 treasury 100 reserves 579 supply 1000" ∷
    codes "2 accepted" ∷
    codes "3 block slot 5 epoch 0 counted 1 of 3" ∷
    codes "4 accepted" ∷
    codes "5 block slot 8 epoch 0 counted 2 of 3" ∷
    codes "6 rolled slot 5 epoch 0 counted 2 of 3" ∷
    codes "7 accepted" ∷
    codes "8 epoch 1 frozen 3 dormant 0" ∷
    codes "8 stake k00000000000000000000000000000000000000000000000000000030 67" ∷
    codes "8 stake k00000000000000000000000000000000000000000000000000000031 33" ∷
    codes "8 pots outputs 160 deposits 31 rewards 100 fees 30 donations 0 treasury 100 reserves 579 supply 1000" ∷
    codes "8 block slot 10 epoch 1 counted 1 of 3" ∷
    codes "9 refused 13 RollbackUnknown last 10" ∷
    codes "10 refused 13 RollbackUnknown last 10" ∷
    codes "11 refused 13 RollbackUnknown last 10" ∷
    codes "12 accepted" ∷
    codes "13 rolled slot 10 epoch 1 counted 1 of 3" ∷
    codes "14 block slot 12 epoch 1 counted 2 of 3" ∷
    codes "15 refused 13 RollbackUnknown last 12" ∷
    codes "16 rolled slot 10 epoch 1 counted 2 of 3" ∷
    codes "17 accepted" ∷
    codes "18 epoch 2 frozen 3 dormant 0" ∷
    codes "18 stake k00000000000000000000000000000000000000000000000000000030 67" ∷
    codes "18 stake k00000000000000000000000000000000000000000000000000000031 33" ∷
    codes "18 tally 0000000000000000000000000000000000000000000000000000000000000002#0 NoConfidence committee 0/1 need none drep 33/100 need 67/100 pool 0/0 need 0/1 waiting" ∷
    codes "18 pots outputs 140 deposits 31 rewards 100 fees 50 donations 0 treasury 100 reserves 579 supply 1000" ∷
    codes "18 block slot 20 epoch 2 counted 1 of 3" ∷
    codes "19 refused 13 RollbackUnknown last 20" ∷
    codes "20 refused 13 RollbackUnknown last 20" ∷
    codes "21 rolled slot 20 epoch 2 counted 1 of 3" ∷
    codes "22 epoch 3 frozen 3 dormant 0" ∷
    codes "22 stake k00000000000000000000000000000000000000000000000000000030 67" ∷
    codes "22 stake k00000000000000000000000000000000000000000000000000000031 33" ∷
    codes "22 tally 0000000000000000000000000000000000000000000000000000000000000002#0 NoConfidence committee 0/1 need none drep 33/100 need 67/100 pool 0/0 need 0/1 waiting" ∷
    codes "22 pots outputs 140 deposits 31 rewards 100 fees 50 donations 0 treasury 100 reserves 579 supply 1000" ∷
    codes "22 block slot 30 epoch 3 counted 1 of 3" ∷
    codes "23 now slot 30 epoch 3 version 10.0 dormant 0" ∷
    codes "23 constitution 0000000000000000000000000000000000000000000000000000000000000001 none" ∷
    codes "23 committee threshold 0/1" ∷
    codes "23 member k00000000000000000000000000000000000000000000000000000070 term 100 hot k00000000000000000000000000000000000000000000000000000071" ∷
    codes "23 enacted committee none constitution none hardfork none parameters none" ∷
    codes "23 param maxBlockBodySize 90112" ∷
    codes "23 param maxTxSize 16384" ∷
    codes "23 param maxBlockHeaderSize 1100" ∷
    codes "23 param maxValueSize 5000" ∷
    codes "23 param maxTxExUnits 1000 1000" ∷
    codes "23 param maxBlockExUnits 1000 1000" ∷
    codes "23 param maxCollateralInputs 3" ∷
    codes "23 param minFeeA 0" ∷
    codes "23 param minFeeB 0" ∷
    codes "23 param keyDeposit 2" ∷
    codes "23 param poolDeposit 5" ∷
    codes "23 param rho 0/1" ∷
    codes "23 param tau 0/1" ∷
    codes "23 param minPoolCost 0" ∷
    codes "23 param coinsPerUTxOByte 0" ∷
    codes "23 param prices 0/1 0/1" ∷
    codes "23 param minFeeRefScriptCostPerByte 15/1" ∷
    codes "23 param a0 0/1" ∷
    codes "23 param eMax 18" ∷
    codes "23 param nOpt 500" ∷
    codes "23 param costModels 0000000000000000000000000000000000000000000000000000000000000000" ∷
    codes "23 param collateralPercentage 150" ∷
    codes "23 param poolVotingThresholds 0/1 0/1 0/1 0/1 0/1" ∷
    codes "23 param drepVotingThresholds 67/100 67/100 67/100 67/100 67/100 67/100 67/100 67/100 67/100 67/100" ∷
    codes "23 param govActionLifetime 2" ∷
    codes "23 param govActionDeposit 10" ∷
    codes "23 param drepDeposit 5" ∷
    codes "23 param drepActivity 20" ∷
    codes "23 param committeeMinSize 0" ∷
    codes "23 param committeeMaxTermLength 100" ∷
    codes "23 drep k00000000000000000000000000000000000000000000000000000030 deposit 5 expiry 21" ∷
    codes "23 drep k00000000000000000000000000000000000000000000000000000031 deposit 5 expiry 20" ∷
    codes "23 pool 00000000000000000000000000000000000000000000000000000050 deposit 5 cost 0 pledge 0 margin 0/1 account 1k00000000000000000000000000000000000000000000000000000012 retires never" ∷
    codes "23 account k00000000000000000000000000000000000000000000000000000010 stake 0 deposit 2 rewards 67 pool none drep k00000000000000000000000000000000000000000000000000000030" ∷
    codes "23 account k00000000000000000000000000000000000000000000000000000011 stake 0 deposit 2 rewards 33 pool none drep k00000000000000000000000000000000000000000000000000000031" ∷
    codes "23 account k00000000000000000000000000000000000000000000000000000012 stake 0 deposit 2 rewards 0 pool none drep none" ∷
    codes "23 output 0000000000000000000000000000000000000000000000000000000000000001#0 1k00000000000000000000000000000000000000000000000000000001 20" ∷
    codes "23 output 0000000000000000000000000000000000000000000000000000000000000001#1 1k00000000000000000000000000000000000000000000000000000001 20" ∷
    codes "23 output 0000000000000000000000000000000000000000000000000000000000000001#5 1k00000000000000000000000000000000000000000000000000000001 20" ∷
    codes "23 output 0000000000000000000000000000000000000000000000000000000000000001#6 1k00000000000000000000000000000000000000000000000000000001 20" ∷
    codes "23 output 0000000000000000000000000000000000000000000000000000000000000001#7 1k00000000000000000000000000000000000000000000000000000001 20" ∷
    codes "23 output 0000000000000000000000000000000000000000000000000000000000000001#8 1k00000000000000000000000000000000000000000000000000000001 20" ∷
    codes "23 output 0000000000000000000000000000000000000000000000000000000000000001#9 1k00000000000000000000000000000000000000000000000000000001 20" ∷
    codes "23 proposal 0000000000000000000000000000000000000000000000000000000000000002#0 NoConfidence deposit 10 return 1k00000000000000000000000000000000000000000000000000000012 expires 2 previous none" ∷
    codes "23 vote 0000000000000000000000000000000000000000000000000000000000000002#0 drep:k00000000000000000000000000000000000000000000000000000030 no" ∷
    codes "23 vote 0000000000000000000000000000000000000000000000000000000000000002#0 drep:k00000000000000000000000000000000000000000000000000000031 yes" ∷
    codes "23 snapshot mark 00000000000000000000000000000000000000000000000000000050 0" ∷
    codes "23 snapshot set 00000000000000000000000000000000000000000000000000000050 0" ∷
    codes "23 snapshot go 00000000000000000000000000000000000000000000000000000050 0" ∷
    codes "23 snapshot fees 50" ∷
    codes "23 pending none" ∷
    codes "23 pots outputs 140 deposits 31 rewards 100 fees 50 donations 0 treasury 100 reserves 579 supply 1000" ∷
    []) ≡ true
unfolding digits encode_with
follow_over_boundaries = refl

abbrev follow_gives_rewards_again_input : List (ℕ × FollowReading)
follow_gives_rewards_again_input =
    (1, follow.Read (Plain (records.Genesis (record { network = 1; slot = 0; epoch_length = 10; version = (10, 0); supply = 1000; reserves = 579; treasury = 100; params = base_params; document = (h32 0x01); script = None; committee = (Some (record { threshold = (share 0 1); members = (((key 0x70), 100, (Some (key 0x71))) ∷ []) })); outputs = (((ref 0x01 0), (address_with 1 (key 0x01) None), 20, []) ∷ ((ref 0x01 1), (address_with 1 (key 0x01) None), 20, []) ∷ ((ref 0x01 2), (address_with 1 (key 0x01) None), 20, []) ∷ ((ref 0x01 3), (address_with 1 (key 0x01) None), 20, []) ∷ ((ref 0x01 4), (address_with 1 (key 0x01) None), 20, []) ∷ ((ref 0x01 5), (address_with 1 (key 0x01) None), 20, []) ∷ ((ref 0x01 6), (address_with 1 (key 0x01) None), 20, []) ∷ ((ref 0x01 7), (address_with 1 (key 0x01) None), 20, []) ∷ ((ref 0x01 8), (address_with 1 (key 0x01) None), 20, []) ∷ ((ref 0x01 9), (address_with 1 (key 0x01) None), 20, []) ∷ []); accounts = (((key 0x10), 2, 67, None, (Some (drep.Registered (key 0x30)))) ∷ ((key 0x11), 2, 33, None, (Some (drep.Registered (key 0x31)))) ∷ ((key 0x12), 2, 0, None, None) ∷ []); pools = ((record { pool = (pool 0x50); deposit = 5; cost = 0; pledge = 0; margin = (share 0 1); account = (account_on 1 (key 0x12)); key = None }) ∷ []); dreps = (((key 0x30), 5, 20) ∷ ((key 0x31), 5, 20) ∷ []) })))) ∷
    (2, follow.Read (Plain (records.Block 1 1))) ∷
    (3, follow.Read (Plain (records.Rewards (record { epoch = 0; from_reserves = 10; from_fees = 0; to_treasury = 3; rewards = (((key 0x10), 7) ∷ []) })))) ∷
    (4, follow.Read (Plain (records.Block 2 1))) ∷
    (5, follow.Read (Plain (records.Rewards (record { epoch = 0; from_reserves = 5; from_fees = 0; to_treasury = 5; rewards = [] })))) ∷
    (6, follow.Read (Plain (records.Tx (record (spend 0x02 20) { outputs = ((paying (address_with 1 (key 0x01) None) 33 0) ∷ []); withdrawals = (((account_on 1 (key 0x11)), 33) ∷ []) })))) ∷
    (7, follow.Read (Plain (records.Print what.Pots))) ∷
    (8, follow.Read (Rollback 2)) ∷
    (9, follow.Read (Plain (records.Print what.Pots))) ∷
    (10, follow.Read (Plain (records.Rewards (record { epoch = 0; from_reserves = 5; from_fees = 0; to_treasury = 5; rewards = [] })))) ∷
    (11, follow.Read (Rollback 1)) ∷
    (12, follow.Read (Plain (records.Rewards (record { epoch = 0; from_reserves = 5; from_fees = 0; to_treasury = 1; rewards = (((key 0x12), 4) ∷ []) })))) ∷
    (13, follow.Read (Plain (records.Print what.Pots))) ∷
    (14, follow.Read (Plain (records.Block 10 1))) ∷
    (15, follow.Read (Plain (records.Rewards (record { epoch = 1; from_reserves = 1; from_fees = 0; to_treasury = 1; rewards = [] })))) ∷
    (16, follow.Read (Rollback 10)) ∷
    (17, follow.Read (Plain (records.Rewards (record { epoch = 1; from_reserves = 2; from_fees = 0; to_treasury = 2; rewards = [] })))) ∷
    (18, follow.Read (Plain (records.Block 20 1))) ∷
    []

pub follow_gives_rewards_again : is_text (follow_of_readings follow_gives_rewards_again_input) (
    codes "1 genesis outputs 200 deposits 21 rewards 100 fees 0 donations 0 treasury 100 reserves 579 supply 1000" ∷
    codes "2 block slot 1 epoch 0 counted 1 of 3" ∷
    codes "3 accepted" ∷
    codes "4 block slot 2 epoch 0 counted 2 of 3" ∷
    codes "5 refused 21 RewardsAlreadyGiven" ∷
    codes "6 accepted" ∷
    codes "7 pots outputs 213 deposits 21 rewards 67 fees 20 donations 0 treasury 100 reserves 579 supply 1000" ∷
    codes "8 rolled slot 2 epoch 0 counted 2 of 3" ∷
    codes "9 pots outputs 200 deposits 21 rewards 100 fees 0 donations 0 treasury 100 reserves 579 supply 1000" ∷
    codes "10 refused 21 RewardsAlreadyGiven" ∷
    codes "11 rolled slot 1 epoch 0 counted 2 of 3" ∷
    codes "12 accepted" ∷
    codes "13 pots outputs 200 deposits 21 rewards 100 fees 0 donations 0 treasury 100 reserves 579 supply 1000" ∷
    codes "14 epoch 1 frozen 3 dormant 1" ∷
    codes "14 stake k00000000000000000000000000000000000000000000000000000030 67" ∷
    codes "14 stake k00000000000000000000000000000000000000000000000000000031 33" ∷
    codes "14 pots outputs 200 deposits 21 rewards 104 fees 0 donations 0 treasury 101 reserves 574 supply 1000" ∷
    codes "14 block slot 10 epoch 1 counted 1 of 3" ∷
    codes "15 accepted" ∷
    codes "16 rolled slot 10 epoch 1 counted 1 of 3" ∷
    codes "17 accepted" ∷
    codes "18 epoch 2 frozen 3 dormant 2" ∷
    codes "18 stake k00000000000000000000000000000000000000000000000000000030 67" ∷
    codes "18 stake k00000000000000000000000000000000000000000000000000000031 33" ∷
    codes "18 pots outputs 200 deposits 21 rewards 104 fees 0 donations 0 treasury 103 reserves 572 supply 1000" ∷
    codes "18 block slot 20 epoch 2 counted 1 of 3" ∷
    []) ≡ true
unfolding digits encode_with
follow_gives_rewards_again = refl

abbrev follow_uses_slots_again_input : List (ℕ × FollowReading)
follow_uses_slots_again_input =
    (1, follow.Read (Plain (records.Genesis (record { network = 1; slot = 4; epoch_length = 10; version = (10, 0); supply = 1000; reserves = 579; treasury = 100; params = base_params; document = (h32 0x01); script = None; committee = (Some (record { threshold = (share 0 1); members = (((key 0x70), 100, (Some (key 0x71))) ∷ []) })); outputs = (((ref 0x01 0), (address_with 1 (key 0x01) None), 20, []) ∷ ((ref 0x01 1), (address_with 1 (key 0x01) None), 20, []) ∷ ((ref 0x01 2), (address_with 1 (key 0x01) None), 20, []) ∷ ((ref 0x01 3), (address_with 1 (key 0x01) None), 20, []) ∷ ((ref 0x01 4), (address_with 1 (key 0x01) None), 20, []) ∷ ((ref 0x01 5), (address_with 1 (key 0x01) None), 20, []) ∷ ((ref 0x01 6), (address_with 1 (key 0x01) None), 20, []) ∷ ((ref 0x01 7), (address_with 1 (key 0x01) None), 20, []) ∷ ((ref 0x01 8), (address_with 1 (key 0x01) None), 20, []) ∷ ((ref 0x01 9), (address_with 1 (key 0x01) None), 20, []) ∷ []); accounts = (((key 0x10), 2, 67, None, (Some (drep.Registered (key 0x30)))) ∷ ((key 0x11), 2, 33, None, (Some (drep.Registered (key 0x31)))) ∷ ((key 0x12), 2, 0, None, None) ∷ []); pools = ((record { pool = (pool 0x50); deposit = 5; cost = 0; pledge = 0; margin = (share 0 1); account = (account_on 1 (key 0x12)); key = None }) ∷ []); dreps = (((key 0x30), 5, 20) ∷ ((key 0x31), 5, 20) ∷ []) })))) ∷
    (2, follow.Read (Rollback 4)) ∷
    (3, follow.Read (Plain (records.Block 4 1))) ∷
    (4, follow.Read (Plain (records.Block 5 1))) ∷
    (5, follow.Read (Plain (records.Block 9 1))) ∷
    (6, follow.Read (Rollback 5)) ∷
    (7, follow.Read (Plain (records.Block 5 1))) ∷
    (8, follow.Read (Plain (records.Block 6 1))) ∷
    (9, follow.Read (Plain (records.Block 9 1))) ∷
    (10, follow.Read (Rollback 6)) ∷
    (11, follow.Read (Plain (records.Block 7 1))) ∷
    (12, follow.Read (Rollback 9)) ∷
    (13, follow.Read (Rollback 5)) ∷
    (14, follow.Read (Plain (records.Block 13 1))) ∷
    (15, follow.Read (Rollback 9)) ∷
    (16, follow.Read (Plain (records.Block 14 1))) ∷
    (17, follow.Read (Rollback 13)) ∷
    (18, follow.Read (Plain (records.Block 30 1))) ∷
    (19, follow.Read (Plain (records.Block 14 1))) ∷
    (20, follow.Read (Plain (records.Block 20 1))) ∷
    []

pub follow_uses_slots_again : is_text (follow_of_readings follow_uses_slots_again_input) (
    codes "1 genesis outputs 200 deposits 21 rewards 100 fees 0 donations 0 treasury 100 reserves 579 supply 1000" ∷
    codes "2 refused 13 RollbackUnknown last 4" ∷
    codes "3 refused 10 SlotNotLater last 4" ∷
    codes "4 block slot 5 epoch 0 counted 1 of 3" ∷
    codes "5 block slot 9 epoch 0 counted 2 of 3" ∷
    codes "6 rolled slot 5 epoch 0 counted 2 of 3" ∷
    codes "7 refused 10 SlotNotLater last 5" ∷
    codes "8 block slot 6 epoch 0 counted 3 of 3" ∷
    codes "9 block slot 9 epoch 0 counted 3 of 3" ∷
    codes "10 rolled slot 6 epoch 0 counted 3 of 3" ∷
    codes "11 block slot 7 epoch 0 counted 3 of 3" ∷
    codes "12 refused 13 RollbackUnknown last 7" ∷
    codes "13 rolled slot 5 epoch 0 counted 3 of 3" ∷
    codes "14 epoch 1 frozen 3 dormant 1" ∷
    codes "14 stake k00000000000000000000000000000000000000000000000000000030 67" ∷
    codes "14 stake k00000000000000000000000000000000000000000000000000000031 33" ∷
    codes "14 pots outputs 200 deposits 21 rewards 100 fees 0 donations 0 treasury 100 reserves 579 supply 1000" ∷
    codes "14 block slot 13 epoch 1 counted 1 of 3" ∷
    codes "15 refused 13 RollbackUnknown last 13" ∷
    codes "16 block slot 14 epoch 1 counted 2 of 3" ∷
    codes "17 rolled slot 13 epoch 1 counted 2 of 3" ∷
    codes "18 refused 11 EpochSkipped now 1" ∷
    codes "19 block slot 14 epoch 1 counted 3 of 3" ∷
    codes "20 epoch 2 frozen 3 dormant 2" ∷
    codes "20 stake k00000000000000000000000000000000000000000000000000000030 67" ∷
    codes "20 stake k00000000000000000000000000000000000000000000000000000031 33" ∷
    codes "20 pots outputs 200 deposits 21 rewards 100 fees 0 donations 0 treasury 100 reserves 579 supply 1000" ∷
    codes "20 block slot 20 epoch 2 counted 1 of 3" ∷
    []) ≡ true
unfolding digits encode_with
follow_uses_slots_again = refl

abbrev follow_malformed_rollbacks_input : List (ℕ × FollowReading)
follow_malformed_rollbacks_input =
    (1, follow.Read (Plain (records.Genesis (record { network = 1; slot = 0; epoch_length = 10; version = (10, 0); supply = 1000; reserves = 579; treasury = 100; params = base_params; document = (h32 0x01); script = None; committee = (Some (record { threshold = (share 0 1); members = (((key 0x70), 100, (Some (key 0x71))) ∷ []) })); outputs = (((ref 0x01 0), (address_with 1 (key 0x01) None), 20, []) ∷ ((ref 0x01 1), (address_with 1 (key 0x01) None), 20, []) ∷ ((ref 0x01 2), (address_with 1 (key 0x01) None), 20, []) ∷ ((ref 0x01 3), (address_with 1 (key 0x01) None), 20, []) ∷ ((ref 0x01 4), (address_with 1 (key 0x01) None), 20, []) ∷ ((ref 0x01 5), (address_with 1 (key 0x01) None), 20, []) ∷ ((ref 0x01 6), (address_with 1 (key 0x01) None), 20, []) ∷ ((ref 0x01 7), (address_with 1 (key 0x01) None), 20, []) ∷ ((ref 0x01 8), (address_with 1 (key 0x01) None), 20, []) ∷ ((ref 0x01 9), (address_with 1 (key 0x01) None), 20, []) ∷ []); accounts = (((key 0x10), 2, 67, None, (Some (drep.Registered (key 0x30)))) ∷ ((key 0x11), 2, 33, None, (Some (drep.Registered (key 0x31)))) ∷ ((key 0x12), 2, 0, None, None) ∷ []); pools = ((record { pool = (pool 0x50); deposit = 5; cost = 0; pledge = 0; margin = (share 0 1); account = (account_on 1 (key 0x12)); key = None }) ∷ []); dreps = (((key 0x30), 5, 20) ∷ ((key 0x31), 5, 20) ∷ []) })))) ∷
    (2, follow.Read (Plain (records.Block 1 1))) ∷
    (3, follow.Malformed field.Slot None) ∷
    (4, follow.Malformed field.Slot None) ∷
    (5, follow.Malformed field.Slot None) ∷
    (6, follow.Malformed field.Slot None) ∷
    (7, follow.Malformed field.Slot None) ∷
    (8, follow.Malformed field.Slot None) ∷
    (9, follow.Read (Rollback 4611686018427387903)) ∷
    (10, follow.Malformed field.Slot None) ∷
    (11, follow.Malformed field.Kind None) ∷
    (12, follow.Read (Rollback 1)) ∷
    (13, follow.Malformed field.Slot None) ∷
    (14, follow.Read (Rollback 1)) ∷
    (15, follow.Read (Plain (records.Genesis (record { network = 1; slot = 0; epoch_length = 10; version = (10, 0); supply = 1000; reserves = 579; treasury = 100; params = base_params; document = (h32 0x01); script = None; committee = (Some (record { threshold = (share 0 1); members = (((key 0x70), 100, (Some (key 0x71))) ∷ []) })); outputs = (((ref 0x01 0), (address_with 1 (key 0x01) None), 20, []) ∷ ((ref 0x01 1), (address_with 1 (key 0x01) None), 20, []) ∷ ((ref 0x01 2), (address_with 1 (key 0x01) None), 20, []) ∷ ((ref 0x01 3), (address_with 1 (key 0x01) None), 20, []) ∷ ((ref 0x01 4), (address_with 1 (key 0x01) None), 20, []) ∷ ((ref 0x01 5), (address_with 1 (key 0x01) None), 20, []) ∷ ((ref 0x01 6), (address_with 1 (key 0x01) None), 20, []) ∷ ((ref 0x01 7), (address_with 1 (key 0x01) None), 20, []) ∷ ((ref 0x01 8), (address_with 1 (key 0x01) None), 20, []) ∷ ((ref 0x01 9), (address_with 1 (key 0x01) None), 20, []) ∷ []); accounts = (((key 0x10), 2, 67, None, (Some (drep.Registered (key 0x30)))) ∷ ((key 0x11), 2, 33, None, (Some (drep.Registered (key 0x31)))) ∷ ((key 0x12), 2, 0, None, None) ∷ []); pools = ((record { pool = (pool 0x50); deposit = 5; cost = 0; pledge = 0; margin = (share 0 1); account = (account_on 1 (key 0x12)); key = None }) ∷ []); dreps = (((key 0x30), 5, 20) ∷ ((key 0x31), 5, 20) ∷ []) })))) ∷
    (16, follow.Malformed field.Pulse None) ∷
    (17, follow.Malformed field.Json None) ∷
    (18, follow.Read (Rollback 1)) ∷
    []

pub follow_malformed_rollbacks : is_text (follow_of_readings follow_malformed_rollbacks_input) (
    codes "1 genesis outputs 200 deposits 21 rewards 100 fees 0 donations 0 treasury 100 reserves 579 supply 1000" ∷
    codes "2 block slot 1 epoch 0 counted 1 of 3" ∷
    codes "3 refused 1 Malformed slot" ∷
    codes "4 refused 1 Malformed slot" ∷
    codes "5 refused 1 Malformed slot" ∷
    codes "6 refused 1 Malformed slot" ∷
    codes "7 refused 1 Malformed slot" ∷
    codes "8 refused 1 Malformed slot" ∷
    codes "9 refused 13 RollbackUnknown last 1" ∷
    codes "10 refused 1 Malformed slot" ∷
    codes "11 refused 1 Malformed kind" ∷
    codes "12 rolled slot 1 epoch 0 counted 1 of 3" ∷
    codes "13 refused 1 Malformed slot" ∷
    codes "14 rolled slot 1 epoch 0 counted 1 of 3" ∷
    codes "15 refused 3 GenesisAgain" ∷
    codes "16 refused 1 Malformed pulse" ∷
    codes "17 refused 1 Malformed json" ∷
    codes "18 rolled slot 1 epoch 0 counted 1 of 3" ∷
    []) ≡ true
unfolding digits encode_with
follow_malformed_rollbacks = refl

abbrev follow_without_rollbacks_input : List (ℕ × FollowReading)
follow_without_rollbacks_input =
    (1, follow.Read (Plain (records.Genesis (record { network = 1; slot = 0; epoch_length = 10; version = (10, 0); supply = 1000; reserves = 635; treasury = 100; params = (record base_params { gov_action_lifetime = 20 }); document = (h32 0x01); script = None; committee = (Some (record { threshold = (share 0 1); members = (((key 0x70), 100, (Some (key 0x71))) ∷ ((key 0x72), 100, (Some (key 0x73))) ∷ []) })); outputs = (((ref 0x01 2), (address_with 1 (key 0x01) None), 30, []) ∷ ((ref 0x01 3), (address_with 1 (key 0x01) None), 20, []) ∷ ((ref 0x01 4), (address_with 1 (key 0x01) None), 20, []) ∷ ((ref 0x01 5), (address_with 1 (key 0x01) None), 20, []) ∷ ((ref 0x01 6), (address_with 1 (key 0x01) None), 20, []) ∷ ((ref 0x01 7), (address_with 1 (key 0x01) (Some (key 0x10))), 20, []) ∷ ((ref 0x01 8), (address_with 1 (key 0x01) (Some (script 0x10))), 9, []) ∷ []); accounts = (((key 0x10), 2, 67, (Some (pool 0x50)), (Some (drep.Registered (key 0x30)))) ∷ ((key 0x11), 2, 33, (Some (pool 0x51)), (Some (drep.Registered (key 0x31)))) ∷ ((key 0x12), 2, 0, None, None) ∷ []); pools = ((record { pool = (pool 0x50); deposit = 5; cost = 0; pledge = 0; margin = (share 0 1); account = (account_on 1 (key 0x12)); key = None }) ∷ (record { pool = (pool 0x51); deposit = 5; cost = 0; pledge = 0; margin = (share 0 1); account = (account_on 1 (key 0x11)); key = None }) ∷ []); dreps = (((key 0x30), 5, 20) ∷ ((key 0x31), 5, 20) ∷ []) })))) ∷
    (2, follow.Read (Plain (records.Tx (record (spend 0x02 0) { proposals = ((proposing 10 (account_on 1 (key 0x12)) (actions.NoConfidence None)) ∷ (proposing 10 (account_on 1 (key 0x12)) (actions.NewConstitution None (h32 0x02) None)) ∷ (proposing 10 (account_on 1 (key 0x11)) (actions.Info)) ∷ []) })))) ∷
    (3, follow.Read (Plain (records.Tx (record (spend 0x03 10) { proposals = ((proposing 10 (account_on 1 (key 0x12)) (actions.NoConfidence (Some (action 0x02 0)))) ∷ []) })))) ∷
    (4, follow.Read (Plain (records.Tx (record (spend 0x04 20) { votes = ((voting (voter.Drep (key 0x30)) (action 0x02 1) vote.No) ∷ (voting (voter.Pool (pool 0x50)) (action 0x02 0) vote.Abstain) ∷ (voting (voter.Committee (key 0x71)) (action 0x02 1) vote.Yes) ∷ []) })))) ∷
    (5, follow.Read (Plain (records.Block 10 1))) ∷
    (6, follow.Read (Plain (records.Block 20 1))) ∷
    (7, follow.Read (Plain (records.Rewards (record { epoch = 2; from_reserves = 20; from_fees = 3; to_treasury = 8; rewards = (((key 0x11), 5) ∷ ((key 0x10), 10) ∷ []) })))) ∷
    (8, follow.Read (Plain (records.Tx (record (spend 0x05 5) { outputs = ((paying (address_with 1 (key 0x01) None) 5 0) ∷ []); donation = 10; certs = ((certs.HotAuth (key 0x70) (key 0x74)) ∷ (certs.PoolReg (pool 0x50) 1 2 (share 1 3) (account_on 1 (key 0x12)) None) ∷ []); votes = ((voting (voter.Drep (key 0x31)) (action 0x02 1) vote.Yes) ∷ []) })))) ∷
    (9, follow.Read (Plain (records.Block 21 1))) ∷
    (10, follow.Read (Plain (records.Block 22 1))) ∷
    (11, follow.Read (Plain (records.Print what.Pots))) ∷
    (12, follow.Read (Plain (records.Block 30 1))) ∷
    []

pub follow_without_rollbacks : is_text (follow_of_readings follow_without_rollbacks_input) (
    codes "1 genesis outputs 139 deposits 26 rewards 100 fees 0 donations 0 treasury 100 reserves 635 supply 1000" ∷
    codes "2 accepted" ∷
    codes "3 accepted" ∷
    codes "4 accepted" ∷
    codes "5 epoch 1 frozen 4 dormant 0" ∷
    codes "5 stake k00000000000000000000000000000000000000000000000000000030 87" ∷
    codes "5 stake k00000000000000000000000000000000000000000000000000000031 33" ∷
    codes "5 pots outputs 69 deposits 66 rewards 100 fees 30 donations 0 treasury 100 reserves 635 supply 1000" ∷
    codes "5 block slot 10 epoch 1 counted 1 of 4" ∷
    codes "6 epoch 2 frozen 4 dormant 0" ∷
    codes "6 stake k00000000000000000000000000000000000000000000000000000030 87" ∷
    codes "6 stake k00000000000000000000000000000000000000000000000000000031 43" ∷
    codes "6 tally 0000000000000000000000000000000000000000000000000000000000000002#0 NoConfidence committee 0/2 need none drep 0/130 need 67/100 pool 0/43 need 0/1 waiting" ∷
    codes "6 tally 0000000000000000000000000000000000000000000000000000000000000003#0 NoConfidence committee 0/2 need none drep 0/130 need 67/100 pool 0/130 need 0/1 waiting" ∷
    codes "6 tally 0000000000000000000000000000000000000000000000000000000000000002#1 NewConstitution committee 1/2 need 0/1 drep 0/130 need 67/100 pool 0/130 need none waiting" ∷
    codes "6 tally 0000000000000000000000000000000000000000000000000000000000000002#2 Info committee 0/2 need never drep 0/130 need never pool 0/130 need never waiting" ∷
    codes "6 pots outputs 69 deposits 66 rewards 100 fees 30 donations 0 treasury 100 reserves 635 supply 1000" ∷
    codes "6 block slot 20 epoch 2 counted 1 of 4" ∷
    codes "7 accepted" ∷
    codes "8 accepted" ∷
    codes "9 block slot 21 epoch 2 counted 2 of 4" ∷
    codes "10 block slot 22 epoch 2 counted 3 of 4" ∷
    codes "11 pots outputs 54 deposits 66 rewards 100 fees 35 donations 10 treasury 100 reserves 635 supply 1000" ∷
    codes "12 epoch 3 frozen 4 dormant 0" ∷
    codes "12 stake k00000000000000000000000000000000000000000000000000000030 87" ∷
    codes "12 stake k00000000000000000000000000000000000000000000000000000031 43" ∷
    codes "12 tally 0000000000000000000000000000000000000000000000000000000000000002#0 NoConfidence committee 0/2 need none drep 0/130 need 67/100 pool 0/43 need 0/1 waiting" ∷
    codes "12 tally 0000000000000000000000000000000000000000000000000000000000000003#0 NoConfidence committee 0/2 need none drep 0/130 need 67/100 pool 0/130 need 0/1 waiting" ∷
    codes "12 tally 0000000000000000000000000000000000000000000000000000000000000002#1 NewConstitution committee 1/2 need 0/1 drep 0/130 need 67/100 pool 0/130 need none waiting" ∷
    codes "12 tally 0000000000000000000000000000000000000000000000000000000000000002#2 Info committee 0/2 need never drep 0/130 need never pool 0/130 need never waiting" ∷
    codes "12 pots outputs 54 deposits 66 rewards 115 fees 32 donations 0 treasury 118 reserves 615 supply 1000" ∷
    codes "12 block slot 30 epoch 3 counted 1 of 4" ∷
    []) ≡ true
unfolding digits encode_with
follow_without_rollbacks = refl

abbrev follow_version_eleven_input : List (ℕ × FollowReading)
follow_version_eleven_input =
    (1, follow.Read (Plain (records.Genesis (record { network = 1; slot = 0; epoch_length = 10; version = (10, 0); supply = 1000; reserves = 579; treasury = 100; params = (record base_params { drep_voting_thresholds = ((share 0 1) ∷ (share 0 1) ∷ (share 0 1) ∷ (share 0 1) ∷ (share 0 1) ∷ (share 0 1) ∷ (share 0 1) ∷ (share 0 1) ∷ (share 0 1) ∷ (share 0 1) ∷ []) }); document = (h32 0x01); script = None; committee = (Some (record { threshold = (share 0 1); members = (((key 0x70), 100, (Some (key 0x71))) ∷ []) })); outputs = (((ref 0x01 0), (address_with 1 (key 0x01) None), 20, []) ∷ ((ref 0x01 1), (address_with 1 (key 0x01) None), 20, []) ∷ ((ref 0x01 2), (address_with 1 (key 0x01) None), 20, []) ∷ ((ref 0x01 3), (address_with 1 (key 0x01) None), 20, []) ∷ ((ref 0x01 4), (address_with 1 (key 0x01) None), 20, []) ∷ ((ref 0x01 5), (address_with 1 (key 0x01) None), 20, []) ∷ ((ref 0x01 6), (address_with 1 (key 0x01) None), 20, []) ∷ ((ref 0x01 7), (address_with 1 (key 0x01) None), 20, []) ∷ ((ref 0x01 8), (address_with 1 (key 0x01) None), 20, []) ∷ ((ref 0x01 9), (address_with 1 (key 0x01) None), 20, []) ∷ []); accounts = (((key 0x10), 2, 67, None, (Some (drep.Registered (key 0x30)))) ∷ ((key 0x11), 2, 33, None, (Some (drep.Registered (key 0x31)))) ∷ ((key 0x12), 2, 0, None, None) ∷ []); pools = ((record { pool = (pool 0x50); deposit = 5; cost = 0; pledge = 0; margin = (share 0 1); account = (account_on 1 (key 0x12)); key = None }) ∷ []); dreps = (((key 0x30), 5, 20) ∷ ((key 0x31), 5, 20) ∷ []) })))) ∷
    (2, follow.Read (Plain (records.Tx (record (spend 0x02 10) { proposals = ((proposing 10 (account_on 1 (key 0x12)) (actions.HardForkInitiation None (11, 0))) ∷ []) })))) ∷
    (3, follow.Read (Plain (records.Block 1 1))) ∷
    (4, follow.Read (Plain (records.Tx (record (spend 0x03 15) { certs = ((certs.PoolReg (pool 0x51) 0 0 (share 0 1) (account_on 1 (key 0x12)) (Some (h32 0x07))) ∷ []) })))) ∷
    (5, follow.Read (Rollback 1)) ∷
    (6, follow.Read (Plain (records.Block 10 1))) ∷
    (7, follow.Read (Plain (records.Block 20 1))) ∷
    (8, follow.Read (Plain (records.Tx (record (spend 0x03 15) { certs = ((certs.PoolReg (pool 0x51) 0 0 (share 0 1) (account_on 1 (key 0x12)) (Some (h32 0x07))) ∷ []) })))) ∷
    (9, follow.Read (Plain (records.Tx (record (spend 0x04 15) { certs = ((certs.PoolReg (pool 0x52) 0 0 (share 0 1) (account_on 1 (key 0x12)) (Some (h32 0x07))) ∷ []) })))) ∷
    (10, follow.Read (Rollback 20)) ∷
    (11, follow.Read (Plain (records.Tx (record (spend 0x04 15) { certs = ((certs.PoolReg (pool 0x52) 0 0 (share 0 1) (account_on 1 (key 0x12)) (Some (h32 0x07))) ∷ []) })))) ∷
    (12, follow.Read (Plain (records.Tx (record (spend 0x03 20) { certs = ((certs.PoolReg (pool 0x50) 0 0 (share 0 1) (account_on 1 (key 0x12)) (Some (h32 0x07))) ∷ []) })))) ∷
    (13, follow.Read (Rollback 20)) ∷
    (14, follow.Read (Plain (records.Tx (record (spend 0x03 20) { certs = ((certs.PoolReg (pool 0x50) 0 0 (share 0 1) (account_on 1 (key 0x12)) (Some (h32 0x07))) ∷ []) })))) ∷
    (15, follow.Read (Rollback 20)) ∷
    (16, follow.Read (Plain (records.Print what.State))) ∷
    []

pub follow_version_eleven : is_text (follow_of_readings follow_version_eleven_input) (
    codes "1 genesis outputs 200 deposits 21 rewards 100 fees 0 donations 0 treasury 100 reserves 579 supply 1000" ∷
    codes "2 accepted" ∷
    codes "3 block slot 1 epoch 0 counted 1 of 3" ∷
    codes "4 accepted" ∷
    codes "5 rolled slot 1 epoch 0 counted 1 of 3" ∷
    codes "6 epoch 1 frozen 3 dormant 0" ∷
    codes "6 stake k00000000000000000000000000000000000000000000000000000030 67" ∷
    codes "6 stake k00000000000000000000000000000000000000000000000000000031 33" ∷
    codes "6 pots outputs 180 deposits 31 rewards 100 fees 10 donations 0 treasury 100 reserves 579 supply 1000" ∷
    codes "6 block slot 10 epoch 1 counted 1 of 3" ∷
    codes "7 epoch 2 frozen 3 dormant 1" ∷
    codes "7 stake k00000000000000000000000000000000000000000000000000000030 67" ∷
    codes "7 stake k00000000000000000000000000000000000000000000000000000031 33" ∷
    codes "7 tally 0000000000000000000000000000000000000000000000000000000000000002#0 HardForkInitiation committee 0/1 need 0/1 drep 0/100 need 0/1 pool 0/0 need 0/1 ratified" ∷
    codes "7 removed 0000000000000000000000000000000000000000000000000000000000000002#0 enacted refund 10 1k00000000000000000000000000000000000000000000000000000012" ∷
    codes "7 pots outputs 180 deposits 21 rewards 110 fees 10 donations 0 treasury 100 reserves 579 supply 1000" ∷
    codes "7 block slot 20 epoch 2 counted 1 of 3" ∷
    codes "8 accepted" ∷
    codes "9 refused 73 PoolKeyInUse at 0" ∷
    codes "10 rolled slot 20 epoch 2 counted 1 of 3" ∷
    codes "11 accepted" ∷
    codes "12 refused 73 PoolKeyInUse at 0" ∷
    codes "13 rolled slot 20 epoch 2 counted 1 of 3" ∷
    codes "14 accepted" ∷
    codes "15 rolled slot 20 epoch 2 counted 1 of 3" ∷
    codes "16 now slot 20 epoch 2 version 11.0 dormant 1" ∷
    codes "16 constitution 0000000000000000000000000000000000000000000000000000000000000001 none" ∷
    codes "16 committee threshold 0/1" ∷
    codes "16 member k00000000000000000000000000000000000000000000000000000070 term 100 hot k00000000000000000000000000000000000000000000000000000071" ∷
    codes "16 enacted committee none constitution none hardfork 0000000000000000000000000000000000000000000000000000000000000002#0 parameters none" ∷
    codes "16 param maxBlockBodySize 90112" ∷
    codes "16 param maxTxSize 16384" ∷
    codes "16 param maxBlockHeaderSize 1100" ∷
    codes "16 param maxValueSize 5000" ∷
    codes "16 param maxTxExUnits 1000 1000" ∷
    codes "16 param maxBlockExUnits 1000 1000" ∷
    codes "16 param maxCollateralInputs 3" ∷
    codes "16 param minFeeA 0" ∷
    codes "16 param minFeeB 0" ∷
    codes "16 param keyDeposit 2" ∷
    codes "16 param poolDeposit 5" ∷
    codes "16 param rho 0/1" ∷
    codes "16 param tau 0/1" ∷
    codes "16 param minPoolCost 0" ∷
    codes "16 param coinsPerUTxOByte 0" ∷
    codes "16 param prices 0/1 0/1" ∷
    codes "16 param minFeeRefScriptCostPerByte 15/1" ∷
    codes "16 param a0 0/1" ∷
    codes "16 param eMax 18" ∷
    codes "16 param nOpt 500" ∷
    codes "16 param costModels 0000000000000000000000000000000000000000000000000000000000000000" ∷
    codes "16 param collateralPercentage 150" ∷
    codes "16 param poolVotingThresholds 0/1 0/1 0/1 0/1 0/1" ∷
    codes "16 param drepVotingThresholds 0/1 0/1 0/1 0/1 0/1 0/1 0/1 0/1 0/1 0/1" ∷
    codes "16 param govActionLifetime 2" ∷
    codes "16 param govActionDeposit 10" ∷
    codes "16 param drepDeposit 5" ∷
    codes "16 param drepActivity 20" ∷
    codes "16 param committeeMinSize 0" ∷
    codes "16 param committeeMaxTermLength 100" ∷
    codes "16 drep k00000000000000000000000000000000000000000000000000000030 deposit 5 expiry 20" ∷
    codes "16 drep k00000000000000000000000000000000000000000000000000000031 deposit 5 expiry 20" ∷
    codes "16 pool 00000000000000000000000000000000000000000000000000000050 deposit 5 cost 0 pledge 0 margin 0/1 account 1k00000000000000000000000000000000000000000000000000000012 retires never" ∷
    codes "16 account k00000000000000000000000000000000000000000000000000000010 stake 0 deposit 2 rewards 67 pool none drep k00000000000000000000000000000000000000000000000000000030" ∷
    codes "16 account k00000000000000000000000000000000000000000000000000000011 stake 0 deposit 2 rewards 33 pool none drep k00000000000000000000000000000000000000000000000000000031" ∷
    codes "16 account k00000000000000000000000000000000000000000000000000000012 stake 0 deposit 2 rewards 10 pool none drep none" ∷
    codes "16 output 0000000000000000000000000000000000000000000000000000000000000001#0 1k00000000000000000000000000000000000000000000000000000001 20" ∷
    codes "16 output 0000000000000000000000000000000000000000000000000000000000000001#1 1k00000000000000000000000000000000000000000000000000000001 20" ∷
    codes "16 output 0000000000000000000000000000000000000000000000000000000000000001#3 1k00000000000000000000000000000000000000000000000000000001 20" ∷
    codes "16 output 0000000000000000000000000000000000000000000000000000000000000001#4 1k00000000000000000000000000000000000000000000000000000001 20" ∷
    codes "16 output 0000000000000000000000000000000000000000000000000000000000000001#5 1k00000000000000000000000000000000000000000000000000000001 20" ∷
    codes "16 output 0000000000000000000000000000000000000000000000000000000000000001#6 1k00000000000000000000000000000000000000000000000000000001 20" ∷
    codes "16 output 0000000000000000000000000000000000000000000000000000000000000001#7 1k00000000000000000000000000000000000000000000000000000001 20" ∷
    codes "16 output 0000000000000000000000000000000000000000000000000000000000000001#8 1k00000000000000000000000000000000000000000000000000000001 20" ∷
    codes "16 output 0000000000000000000000000000000000000000000000000000000000000001#9 1k00000000000000000000000000000000000000000000000000000001 20" ∷
    codes "16 snapshot mark 00000000000000000000000000000000000000000000000000000050 0" ∷
    codes "16 snapshot set 00000000000000000000000000000000000000000000000000000050 0" ∷
    codes "16 snapshot go 00000000000000000000000000000000000000000000000000000050 0" ∷
    codes "16 snapshot fees 10" ∷
    codes "16 pending none" ∷
    codes "16 pots outputs 180 deposits 21 rewards 110 fees 10 donations 0 treasury 100 reserves 579 supply 1000" ∷
    []) ≡ true
unfolding digits encode_with
follow_version_eleven = refl
