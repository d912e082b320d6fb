-- Worked rows of whole streams: made transactions of all parts. Made by tests/made/rows_of, from the streams of these names in tests/streams/whole.
use Rattle.std.specs.Prelude.{ℕ, ◌≡◌, List, [], ◌∷◌, Some, None, true, codes, refl}
use Rattle.std.specs.Fmt.{digits}
use Rattle.hex.specs.Hex.{encode_with}
use Rattle.gov_actions.specs.declared.action.Action.TheVariants as actions
use Rattle.gov_actions.specs.declared.action.Vote.TheVariants as vote
use Rattle.gov_ids.specs.declared.Drep.TheVariants as drep
use Rattle.gov_ids.specs.declared.Voter.TheVariants as voter
use Rattle.tx_records.specs.declared.record.Record.TheVariants as records
use Rattle.tx_records.specs.declared.record.What.TheVariants as what
use Rattle.tx_records.specs.declared.cert.Cert.TheVariants as certs
use Rattle.tx_records.specs.declared.tx.Scripts.TheVariants as scripts
use Rattle.tx_records.specs.declared.record.Reading.{Reading}
use Rattle.tx_records.specs.declared.record.Reading.TheVariants.{Read}
use Rattle.ledger_rows.proofs.Base.{h28, h32, key, script, pool, account_on, address_with, ref, action, share, base_params, no_update, spend, paying, proposing, voting, says_all}

abbrev transactions_of_all_parts_1_input : List (ℕ × Reading)
transactions_of_all_parts_1_input =
    (1, Read (records.Genesis (record { network = 1; slot = 50; epoch_length = 10; version = (11, 2); supply = 62357; reserves = 700; treasury = 5000; params = (record base_params { max_collateral_inputs = 0; min_fee_a = 1; min_fee_b = 70; key_deposit = 0; min_pool_cost = 340; coins_per_utxo_byte = 1; gov_action_lifetime = 6; drep_deposit = 50 }); document = (h32 0x01); script = (Some (h28 0x98)); committee = (Some (record { threshold = (share 1 2); members = [] })); outputs = (((ref 0x01 0), (address_with 1 (key 0x01) None), 1856, []) ∷ ((ref 0x09 1), (address_with 1 (script 0x03) (Some (script 0x10))), 5117, []) ∷ ((ref 0x09 2), (address_with 1 (key 0x10) (Some (script 0x13))), 3017, []) ∷ ((ref 0x01 3), (address_with 1 (key 0x02) (Some (key 0x12))), 2753, []) ∷ ((ref 0x01 4), (address_with 1 (key 0x02) None), 1048, []) ∷ ((ref 0x09 5), (address_with 1 (key 0x02) None), 1375, []) ∷ ((ref 0x09 6), (address_with 1 (key 0x01) None), 4315, []) ∷ ((ref 0x09 7), (address_with 1 (key 0x02) None), 3852, []) ∷ ((ref 0x09 8), (address_with 1 (key 0x02) None), 1346, []) ∷ ((ref 0x01 9), (address_with 1 (key 0x01) None), 1285, []) ∷ ((ref 0x09 10), (address_with 1 (key 0x01) (Some (script 0x13))), 2372, []) ∷ ((ref 0x01 11), (address_with 1 (script 0x03) None), 2686, []) ∷ ((ref 0x09 12), (address_with 1 (key 0x02) None), 5286, []) ∷ ((ref 0x01 13), (address_with 1 (key 0x01) None), 5530, []) ∷ ((ref 0x09 14), (address_with 1 (key 0x02) None), 1650, []) ∷ ((ref 0x01 15), (address_with 1 (key 0x02) None), 3008, []) ∷ ((ref 0x09 16), (address_with 1 (key 0x10) None), 2763, []) ∷ ((ref 0x01 17), (address_with 1 (key 0x01) (Some (key 0x10))), 3882, []) ∷ ((ref 0x09 18), (address_with 1 (key 0x02) None), 2430, []) ∷ []); accounts = (((key 0x12), 0, 67, None, (Some (drep.Registered (key 0x10)))) ∷ ((script 0x10), 0, 1, None, (Some drep.Abstain)) ∷ ((key 0x11), 3, 800, (Some (pool 0x50)), (Some (drep.Registered (key 0x10)))) ∷ ((key 0x10), 3, 67, (Some (pool 0x52)), (Some (drep.Registered (script 0x30)))) ∷ ((script 0x13), 3, 1, None, None) ∷ ((key 0x14), 3, 67, (Some (pool 0x10)), None) ∷ ((key 0x15), 0, 0, (Some (pool 0x50)), (Some drep.Abstain)) ∷ ((key 0x30), 3, 0, None, (Some drep.NoConfidence)) ∷ []); pools = ((record { pool = (pool 0x52); deposit = 4; cost = 5; pledge = 0; margin = (share 1 9); account = (account_on 1 (key 0x12)); key = None }) ∷ (record { pool = (pool 0x10); deposit = 4; cost = 9; pledge = 0; margin = (share 1 9); account = (account_on 1 (script 0x13)); key = None }) ∷ (record { pool = (pool 0x50); deposit = 4; cost = 5; pledge = 0; margin = (share 1 9); account = (account_on 1 (key 0x14)); key = None }) ∷ []); dreps = (((key 0x10), 50, 4) ∷ ((script 0x30), 6, 17) ∷ []) }))) ∷
    (2, Read (records.Print what.Pots)) ∷
    (3, Read (records.Tx (record (spend 0x10 287) { inputs = ((ref 0x01 0) ∷ (ref 0x09 1) ∷ (ref 0x09 6) ∷ []); outputs = ((paying (address_with 1 (key 0x02) None) 11068 57) ∷ []); size = 217; until = (Some 59); treasury = (Some 5000); withdrawals = (((account_on 1 (key 0x30)), 0) ∷ ((account_on 1 (key 0x12)), 67) ∷ []); certs = ((certs.AccountUnreg (key 0x12) (Some 0)) ∷ (certs.HotAuth (key 0x71) (key 0x80)) ∷ []) }))) ∷
    (4, Read (records.Tx (record (spend 0x11 110) { inputs = ((ref 0x01 17) ∷ (ref 0x09 2) ∷ (ref 0x01 3) ∷ []); outputs = ((paying (address_with 1 (script 0x03) None) 9554 65) ∷ []); size = 40; treasury = (Some 5000); withdrawals = (((account_on 1 (key 0x15)), 0) ∷ ((account_on 1 (key 0x10)), 67) ∷ []); certs = ((certs.PoolRetire (pool 0x52) 7) ∷ (certs.Delegate (key 0x15) None (Some (drep.Registered (script 0x30)))) ∷ (certs.PoolReg (pool 0x51) 340 7 (share 0 1) (account_on 1 (key 0x14)) None) ∷ (certs.DrepReg (key 0x30) None) ∷ []); proposals = ((proposing 10 (account_on 1 (key 0x11)) (actions.UpdateCommittee None ((script 0x70) ∷ (key 0x70) ∷ []) (((key 0x72), 10) ∷ ((script 0x70), 6) ∷ ((key 0x71), 6) ∷ []) (share 2 3))) ∷ []) }))) ∷
    (5, Read (records.Tx (record (spend 0x12 395) { inputs = ((ref 0x09 7) ∷ []); outputs = ((paying (address_with 1 (script 0x03) None) 3487 29) ∷ []); size = 325; from = (Some 49); until = (Some 59); certs = ((certs.DrepUpdate (key 0x10)) ∷ (certs.AccountUnreg (key 0x15) None) ∷ (certs.DrepUnreg (key 0x10) (Some 50)) ∷ (certs.PoolRetire (pool 0x10) 6) ∷ []); proposals = ((proposing 10 (account_on 1 (script 0x13)) (actions.TreasuryWithdrawals (((account_on 1 (key 0x12)), 5) ∷ ((account_on 1 (script 0x10)), 5) ∷ []) (Some (h28 0x98)))) ∷ (proposing 10 (account_on 1 (script 0x10)) (actions.Info)) ∷ []) }))) ∷
    (6, Read (records.Tx (record (spend 0x13 752) { inputs = ((ref 0x01 3) ∷ []); outputs = ((paying (address_with 1 (key 0x10) None) 1331 57) ∷ (paying (address_with 1 (key 0x02) None) 665 65) ∷ []); size = 11; script_fee = 5; scripts = scripts.Failed; collateral_return = (Some (paying (address_with 1 (key 0x10) None) 18446744073709551615 0)); treasury = (Some 5000); certs = ((certs.PoolReg (pool 0x10) 340 0 (share 0 1) (account_on 1 (key 0x15)) None) ∷ (certs.PoolReg (pool 0x51) 340 4 (share 0 1) (account_on 1 (script 0x10)) None) ∷ []); proposals = ((proposing 10 (account_on 1 (key 0x12)) (actions.ParameterChange None no_update (Some (h28 0x98)))) ∷ []); votes = ((voting (voter.Drep (script 0x30)) (action 0x12 0) vote.Yes) ∷ []) }))) ∷
    (7, Read (records.Tx (record (spend 0x14 399) { inputs = ((ref 0x09 6) ∷ (ref 0x09 18) ∷ (ref 0x01 3) ∷ []); outputs = ((paying (address_with 1 (key 0x01) None) 9041 29) ∷ []); size = 320; from = (Some 49); until = (Some 51); treasury = (Some 5000); donation = 18446744073709551615; withdrawals = (((account_on 1 (script 0x10)), 1) ∷ ((account_on 1 (script 0x13)), 1) ∷ []); certs = ((certs.PoolReg (pool 0x10) 345 2 (share 0 1) (account_on 1 (key 0x11)) None) ∷ (certs.DrepReg (key 0x30) None) ∷ []); proposals = ((proposing 10 (account_on 1 (script 0x10)) (actions.NewConstitution None (h32 0x08) None)) ∷ []); votes = ((voting (voter.Drep (script 0x30)) (action 0x12 0) vote.Yes) ∷ []) }))) ∷
    (8, Read (records.Tx (record (spend 0x15 3797) { inputs = ((ref 0x09 5) ∷ (ref 0x09 6) ∷ []); outputs = ((paying (address_with 1 (script 0x03) None) 1749 65) ∷ []); size = 4294967295; from = (Some 49); treasury = (Some 5000); donation = 30; certs = ((certs.DrepUnreg (script 0x30) None) ∷ (certs.DrepReg (key 0x31) None) ∷ (certs.DrepReg (key 0x10) None) ∷ (certs.AccountReg (key 0x15) (Some 0) (Some (pool 0x52)) (Some (drep.Registered (key 0x10)))) ∷ []); proposals = ((proposing 10 (account_on 1 (key 0x30)) (actions.NoConfidence None)) ∷ (proposing 10 (account_on 1 (script 0x10)) (actions.UpdateCommittee None ((key 0x70) ∷ []) (((key 0x72), 6) ∷ []) (share 0 1))) ∷ []) }))) ∷
    (9, Read (records.Tx (record (spend 0x16 1053) { inputs = ((ref 0x09 18) ∷ []); outputs = ((paying (address_with 1 (key 0x10) None) 663 0) ∷ (paying (address_with 1 (script 0x03) None) 664 0) ∷ []); size = 319; from = (Some 50); until = (Some 59); donation = 30; certs = ((certs.Delegate (key 0x12) None (Some (drep.Registered (script 0x30)))) ∷ []); proposals = ((proposing 10 (account_on 1 (key 0x30)) (actions.Info)) ∷ (proposing 10 (account_on 1 (script 0x13)) (actions.NewConstitution None (h32 0x00) (Some (h28 0x98)))) ∷ []); votes = ((voting (voter.Pool (pool 0x52)) (action 0x12 0) vote.Abstain) ∷ []) }))) ∷
    (10, Read (records.Tx (record (spend 0x17 333) { inputs = ((ref 0x09 5) ∷ []); outputs = ((paying (address_with 1 (key 0x02) (Some (key 0x30))) 1028 0) ∷ []); size = 263; withdrawals = (((account_on 1 (script 0x10)), 1) ∷ []); certs = ((certs.DrepUpdate (script 0x30)) ∷ (certs.PoolReg (pool 0x51) 340 0 (share 0 1) (account_on 1 (key 0x30)) None) ∷ []); proposals = ((proposing 10 (account_on 1 (key 0x14)) (actions.HardForkInitiation None (11, 3))) ∷ []); votes = ((voting (voter.Pool (pool 0x10)) (action 0x12 1) vote.Yes) ∷ (voting (voter.Pool (pool 0x51)) (action 0x12 1) vote.Abstain) ∷ (voting (voter.Drep (script 0x30)) (action 0x12 1) vote.Yes) ∷ []) }))) ∷
    (11, Read (records.Tx (record (spend 0x18 104) { inputs = ((ref 0x01 9) ∷ []); outputs = ((paying (address_with 1 (key 0x01) None) 1188 65) ∷ []); size = 34; from = (Some 50); treasury = (Some 5000); withdrawals = (((account_on 1 (key 0x10)), 67) ∷ []); certs = ((certs.DrepReg (key 0x10) None) ∷ (certs.DrepUpdate (key 0x10)) ∷ []); proposals = ((proposing 10 (account_on 1 (script 0x10)) (actions.TreasuryWithdrawals (((account_on 1 (key 0x15)), 0) ∷ ((account_on 1 (script 0x10)), 0) ∷ ((account_on 1 (key 0x10)), 0) ∷ []) (Some (h28 0x98)))) ∷ (proposing 10 (account_on 1 (key 0x11)) (actions.NewConstitution None (h32 0x07) (Some (h28 0x98)))) ∷ []); votes = ((voting (voter.Pool (pool 0x50)) (action 0x12 1) vote.Yes) ∷ []) }))) ∷
    (12, Read (records.Tx (record (spend 0x19 1651) { inputs = ((ref 0x01 3) ∷ (ref 0x01 4) ∷ (ref 0x01 15) ∷ []); outputs = ((paying (address_with 1 (key 0x01) (Some (script 0x10))) 3316 0) ∷ (paying (address_with 1 (key 0x10) None) 1105 0) ∷ (paying (address_with 1 (key 0x01) None) 737 0) ∷ []); size = 106; from = (Some 49); certs = ((certs.PoolReg (pool 0x50) 345 8 (share 0 1) (account_on 1 (key 0x12)) None) ∷ []); proposals = ((proposing 10 (account_on 1 (key 0x15)) (actions.NewConstitution None (h32 0x00) None)) ∷ []) }))) ∷
    (13, Read (records.Tx (record (spend 0x20 230) { inputs = ((ref 0x01 9) ∷ (ref 0x01 0) ∷ []); outputs = ((paying (address_with 1 (key 0x10) None) 969 0) ∷ (paying (address_with 1 (key 0x02) (Some (key 0x30))) 970 65) ∷ (paying (address_with 1 (key 0x10) (Some (script 0x10))) 970 65) ∷ []); size = 160; from = (Some 50); withdrawals = (((account_on 1 (key 0x10)), 67) ∷ ((account_on 1 (script 0x13)), 1) ∷ []); certs = ((certs.DrepReg (key 0x31) (Some 50)) ∷ []); proposals = ((proposing 10 (account_on 1 (key 0x11)) (actions.UpdateCommittee None [] (((key 0x72), 14) ∷ ((key 0x71), 10) ∷ []) (share 0 1))) ∷ (proposing 10 (account_on 1 (key 0x11)) (actions.Info)) ∷ []); votes = ((voting (voter.Pool (pool 0x10)) (action 0x17 0) vote.Yes) ∷ []) }))) ∷
    (14, Read (records.Print what.Pots)) ∷
    (15, Read (records.Tx (record (spend 0x21 1415) { inputs = ((ref 0x01 17) ∷ []); outputs = ((paying (address_with 1 (key 0x10) (Some (key 0x12))) 1228 29) ∷ (paying (address_with 1 (key 0x02) (Some (key 0x30))) 1229 65) ∷ []); size = 102; script_fee = 5; until = (Some 51); certs = ((certs.PoolReg (pool 0x10) 340 3 (share 0 1) (account_on 1 (key 0x10)) None) ∷ (certs.DrepUpdate (script 0x30)) ∷ (certs.PoolReg (pool 0x52) 340 3 (share 1 2) (account_on 1 (script 0x13)) None) ∷ (certs.AccountReg (key 0x15) None (Some (pool 0x52)) (Some drep.Abstain)) ∷ (certs.DrepUpdate (script 0x30)) ∷ (certs.PoolReg (pool 0x52) 340 8 (share 1 2) (account_on 1 (script 0x10)) None) ∷ (certs.HotAuth (key 0x72) (key 0x81)) ∷ []); proposals = ((proposing 10 (account_on 1 (key 0x30)) (actions.NewConstitution None (h32 0x08) (Some (h28 0x98)))) ∷ (proposing 10 (account_on 1 (key 0x14)) (actions.ParameterChange None (record no_update { max_value_size = (Some 2); drep_deposit = (Some 0); drep_activity = (Some 0) }) (Some (h28 0x98)))) ∷ []); votes = ((voting (voter.Drep (key 0x31)) (action 0x12 1) vote.No) ∷ (voting (voter.Committee (key 0x81)) (action 0x12 0) vote.Yes) ∷ (voting (voter.Drep (script 0x30)) (action 0x20 1) vote.No) ∷ (voting (voter.Committee (key 0x81)) (action 0x20 1) vote.Abstain) ∷ (voting (voter.Drep (script 0x30)) (action 0x20 0) vote.No) ∷ (voting (voter.Committee (key 0x81)) (action 0x17 0) vote.No) ∷ []) }))) ∷
    (16, Read (records.Tx (record (spend 0x22 107) { inputs = ((ref 0x01 11) ∷ (ref 0x20 0) ∷ (ref 0x09 2) ∷ []); outputs = ((paying (address_with 1 (key 0x02) None) 6525 57) ∷ []); size = 28; from = (Some 50); until = (Some 59); donation = 30; withdrawals = (((account_on 1 (script 0x13)), 0) ∷ ((account_on 1 (key 0x10)), 0) ∷ []); certs = ((certs.PoolReg (pool 0x10) 340 6 (share 0 1) (account_on 1 (key 0x30)) None) ∷ []); proposals = ((proposing 10 (account_on 1 (key 0x12)) (actions.Info)) ∷ (proposing 10 (account_on 1 (key 0x11)) (actions.UpdateCommittee None ((key 0x70) ∷ []) (((script 0x70), 4) ∷ []) (share 0 1))) ∷ []); votes = ((voting (voter.Pool (pool 0x51)) (action 0x17 0) vote.Abstain) ∷ (voting (voter.Drep (key 0x31)) (action 0x12 0) vote.Yes) ∷ (voting (voter.Pool (pool 0x51)) (action 0x17 0) vote.No) ∷ []) }))) ∷
    (17, Read (records.Tx (record (spend 0x23 107) { inputs = ((ref 0x12 0) ∷ (ref 0x20 0) ∷ (ref 0x09 1) ∷ []); outputs = ((paying (address_with 1 (script 0x03) None) 9466 57) ∷ []); size = 37; certs = ((certs.PoolRetire (pool 0x51) 5) ∷ []) }))) ∷
    (18, Read (records.Tx (record (spend 0x24 407) { inputs = ((ref 0x01 11) ∷ []); outputs = ((paying (address_with 1 (script 0x03) (Some (key 0x12))) 2265 29) ∷ []); size = 328; certs = ((certs.Delegate (key 0x11) None (Some (drep.Registered (script 0x30)))) ∷ (certs.DrepUnreg (script 0x30) None) ∷ []); proposals = ((proposing 10 (account_on 1 (key 0x30)) (actions.NewConstitution None (h32 0x00) (Some (h28 0x98)))) ∷ (proposing 10 (account_on 1 (key 0x11)) (actions.NoConfidence None)) ∷ []); votes = ((voting (voter.Pool (pool 0x10)) (action 0x17 0) vote.No) ∷ (voting (voter.Pool (pool 0x50)) (action 0x20 0) vote.Yes) ∷ (voting (voter.Pool (pool 0x10)) (action 0x12 1) vote.Abstain) ∷ (voting (voter.Pool (pool 0x52)) (action 0x20 0) vote.Abstain) ∷ (voting (voter.Pool (pool 0x51)) (action 0x20 1) vote.Abstain) ∷ (voting (voter.Pool (pool 0x10)) (action 0x20 0) vote.Abstain) ∷ []) }))) ∷
    (19, Read (records.Tx (record (spend 0x25 799) { inputs = ((ref 0x12 0) ∷ []); outputs = ((paying (address_with 1 (script 0x03) None) 1589 29) ∷ (paying (address_with 1 (key 0x01) None) 794 29) ∷ (paying (address_with 1 (script 0x03) (Some (script 0x10))) 265 65) ∷ []); size = 185; script_fee = 5; until = (Some 59); donation = 30; certs = ((certs.PoolReg (pool 0x51) 400 1 (share 0 1) (account_on 1 (script 0x13)) None) ∷ (certs.PoolReg (pool 0x51) 500 1 (share 0 1) (account_on 1 (script 0x13)) None) ∷ (certs.PoolRetire (pool 0x51) 6) ∷ (certs.Delegate (script 0x13) (Some (pool 0x51)) None) ∷ (certs.PoolReg (pool 0x51) 400 1 (share 0 1) (account_on 1 (script 0x13)) None) ∷ []); proposals = ((proposing 10 (account_on 1 (script 0x13)) (actions.NoConfidence (Some (action 0x20 0)))) ∷ []); votes = ((voting (voter.Pool (pool 0x51)) (action 0x20 1) vote.Yes) ∷ (voting (voter.Pool (pool 0x50)) (action 0x20 0) vote.No) ∷ (voting (voter.Pool (pool 0x50)) (action 0x20 1) vote.Yes) ∷ (voting (voter.Pool (pool 0x10)) (action 0x24 1) vote.Yes) ∷ (voting (voter.Pool (pool 0x50)) (action 0x20 1) vote.No) ∷ (voting (voter.Drep (key 0x31)) (action 0x17 0) vote.Yes) ∷ []) }))) ∷
    (20, Read (records.Tx (record (spend 0x26 295) { inputs = ((ref 0x17 0) ∷ []); outputs = ((paying (address_with 1 (key 0x10) (Some (key 0x11))) 723 65) ∷ []); size = 225; treasury = (Some 4999); withdrawals = (((account_on 1 (script 0x13)), 0) ∷ []); proposals = ((proposing 10 (account_on 1 (script 0x13)) (actions.NewConstitution (Some (action 0x24 0)) (h32 0x03) (Some (h28 0x99)))) ∷ []); votes = ((voting (voter.Drep (key 0x31)) (action 0x25 0) vote.Yes) ∷ (voting (voter.Pool (pool 0x10)) (action 0x24 1) vote.Abstain) ∷ (voting (voter.Drep (key 0x31)) (action 0x25 0) vote.Abstain) ∷ (voting (voter.Pool (pool 0x51)) (action 0x24 1) vote.Yes) ∷ (voting (voter.Drep (key 0x31)) (action 0x24 1) vote.Abstain) ∷ (voting (voter.Pool (pool 0x52)) (action 0x20 1) vote.Abstain) ∷ []) }))) ∷
    (21, Read (records.Tx (record (spend 0x27 240) { inputs = ((ref 0x09 2) ∷ []); outputs = ((paying (address_with 1 (script 0x03) None) 2737 29) ∷ []); size = 161; from = (Some 50); until = (Some 59); donation = 30; withdrawals = (((account_on 1 (key 0x30)), 0) ∷ ((account_on 1 (script 0x13)), 0) ∷ []); certs = ((certs.DrepUnreg (key 0x31) None) ∷ (certs.PoolRetire (pool 0x51) 7) ∷ (certs.PoolReg (pool 0x51) 345 1 (share 0 1) (account_on 0 (key 0x14)) None) ∷ (certs.DrepReg (key 0x31) None) ∷ (certs.Delegate (key 0x12) None (Some (drep.Registered (key 0x31)))) ∷ []); proposals = ((proposing 10 (account_on 0 (key 0x15)) (actions.NewConstitution None (h32 0x04) (Some (h28 0x98)))) ∷ (proposing 10 (account_on 0 (script 0x13)) (actions.ParameterChange (Some (action 0x24 0)) (record no_update { gov_action_lifetime = (Some 2) }) None)) ∷ (proposing 10 (account_on 1 (key 0x30)) (actions.Info)) ∷ []); votes = ((voting (voter.Pool (pool 0x10)) (action 0x17 0) vote.Yes) ∷ (voting (voter.Drep (key 0x31)) (action 0x25 0) vote.No) ∷ (voting (voter.Committee (key 0x30)) (action 0x17 0) vote.Abstain) ∷ (voting (voter.Pool (pool 0x51)) (action 0x20 0) vote.Abstain) ∷ (voting (voter.Pool (pool 0x10)) (action 0x20 0) vote.No) ∷ (voting (voter.Pool (pool 0x51)) (action 0x20 0) vote.Abstain) ∷ (voting (voter.Pool (pool 0x10)) (action 0x12 1) vote.Abstain) ∷ []) }))) ∷
    (22, Read (records.Tx (record (spend 0x28 210) { inputs = ((ref 0x09 1) ∷ []); outputs = ((paying (address_with 1 (key 0x10) None) 4907 29) ∷ []); size = 135; script_fee = 5; scripts = scripts.Passed; from = (Some 49); until = (Some 51); collateral = ((ref 0x09 1) ∷ []); votes = ((voting (voter.Pool (pool 0x50)) (action 0x24 1) vote.No) ∷ (voting (voter.Pool (pool 0x52)) (action 0x12 1) vote.Abstain) ∷ (voting (voter.Pool (pool 0x51)) (action 0x20 0) vote.Abstain) ∷ (voting (voter.Drep (key 0x31)) (action 0x12 1) vote.Yes) ∷ (voting (voter.Drep (key 0x31)) (action 0x25 0) vote.Yes) ∷ (voting (voter.Drep (key 0x31)) (action 0x20 0) vote.Yes) ∷ []) }))) ∷
    (23, Read (records.Tx (record (spend 0x29 157) { inputs = ((ref 0x09 16) ∷ (ref 0x01 13) ∷ (ref 0x09 1) ∷ []); outputs = ((paying (address_with 1 (key 0x02) None) 6596 57) ∷ (paying (address_with 1 (script 0x03) (Some (key 0x12))) 6597 57) ∷ []); size = 87; treasury = (Some 5000); donation = 30; withdrawals = (((account_on 1 (key 0x30)), 0) ∷ []); certs = ((certs.HotResign (key 0x71)) ∷ []); proposals = ((proposing 10 (account_on 1 (script 0x10)) (actions.Info)) ∷ (proposing 10 (account_on 1 (key 0x12)) (actions.NewConstitution (Some (action 0x24 0)) (h32 0x06) (Some (h28 0x99)))) ∷ (proposing 10 (account_on 1 (key 0x11)) (actions.Info)) ∷ []); votes = ((voting (voter.Drep (key 0x31)) (action 0x20 0) vote.Yes) ∷ (voting (voter.Pool (pool 0x50)) (action 0x12 1) vote.Yes) ∷ (voting (voter.Pool (pool 0x51)) (action 0x17 0) vote.No) ∷ (voting (voter.Pool (pool 0x52)) (action 0x25 0) vote.Abstain) ∷ (voting (voter.Pool (pool 0x10)) (action 0x17 0) vote.Yes) ∷ (voting (voter.Pool (pool 0x51)) (action 0x20 0) vote.Abstain) ∷ []) }))) ∷
    (24, Read (records.Print what.Pots)) ∷
    (25, Read (records.Print what.State)) ∷
    []

pub transactions_of_all_parts_1 : says_all transactions_of_all_parts_1_input (
    codes "1 genesis outputs 55571 deposits 83 rewards 1003 fees 0 donations 0 treasury 5000 reserves 700 supply 62357" ∷
    codes "2 pots outputs 55571 deposits 83 rewards 1003 fees 0 donations 0 treasury 5000 reserves 700 supply 62357" ∷
    codes "3 refused 71 ColdKeyUnknown at 1" ∷
    codes "4 refused 88 ConflictingUpdate at 0" ∷
    codes "5 accepted" ∷
    codes "6 refused 41 NoCollateral" ∷
    codes "7 refused 110 NotBalanced consumed 9500 produced 18446744073709561115" ∷
    codes "8 refused 35 TxTooLarge max 16384" ∷
    codes "9 refused 102 VoterNotAllowed at 0" ∷
    codes "10 accepted" ∷
    codes "11 refused 86 TargetUnknown at 0" ∷
    codes "12 refused 82 ReturnAccountUnknown at 0" ∷
    codes "13 accepted" ∷
    codes "14 pots outputs 54627 deposits 138 rewards 934 fees 958 donations 0 treasury 5000 reserves 700 supply 62357" ∷
    codes "15 refused 83 UpdateMalformed at 1" ∷
    codes "16 refused 89 TermTooSmall at 1" ∷
    codes "17 refused 70 RetirementEpochWrong at 0 now 5" ∷
    codes "18 accepted" ∷
    codes "19 accepted" ∷
    codes "20 refused 45 TreasuryValueWrong is 5000" ∷
    codes "21 refused 69 PoolWrongNetwork at 2" ∷
    codes "22 refused 40 TooManyCollateral max 0" ∷
    codes "23 accepted" ∷
    codes "24 pots outputs 53150 deposits 192 rewards 934 fees 2321 donations 60 treasury 5000 reserves 700 supply 62357" ∷
    codes "25 now slot 50 epoch 5 version 11.2 dormant 0" ∷
    codes "25 constitution 0000000000000000000000000000000000000000000000000000000000000001 00000000000000000000000000000000000000000000000000000098" ∷
    codes "25 committee threshold 1/2" ∷
    codes "25 hot k00000000000000000000000000000000000000000000000000000071 resigned" ∷
    codes "25 enacted committee none constitution none hardfork none parameters none" ∷
    codes "25 param maxBlockBodySize 90112" ∷
    codes "25 param maxTxSize 16384" ∷
    codes "25 param maxBlockHeaderSize 1100" ∷
    codes "25 param maxValueSize 5000" ∷
    codes "25 param maxTxExUnits 1000 1000" ∷
    codes "25 param maxBlockExUnits 1000 1000" ∷
    codes "25 param maxCollateralInputs 0" ∷
    codes "25 param minFeeA 1" ∷
    codes "25 param minFeeB 70" ∷
    codes "25 param keyDeposit 0" ∷
    codes "25 param poolDeposit 5" ∷
    codes "25 param rho 0/1" ∷
    codes "25 param tau 0/1" ∷
    codes "25 param minPoolCost 340" ∷
    codes "25 param coinsPerUTxOByte 1" ∷
    codes "25 param prices 0/1 0/1" ∷
    codes "25 param minFeeRefScriptCostPerByte 15/1" ∷
    codes "25 param a0 0/1" ∷
    codes "25 param eMax 18" ∷
    codes "25 param nOpt 500" ∷
    codes "25 param costModels 0000000000000000000000000000000000000000000000000000000000000000" ∷
    codes "25 param collateralPercentage 150" ∷
    codes "25 param poolVotingThresholds 0/1 0/1 0/1 0/1 0/1" ∷
    codes "25 param drepVotingThresholds 67/100 67/100 67/100 67/100 67/100 67/100 67/100 67/100 67/100 67/100" ∷
    codes "25 param govActionLifetime 6" ∷
    codes "25 param govActionDeposit 10" ∷
    codes "25 param drepDeposit 50" ∷
    codes "25 param drepActivity 20" ∷
    codes "25 param committeeMinSize 0" ∷
    codes "25 param committeeMaxTermLength 100" ∷
    codes "25 drep k00000000000000000000000000000000000000000000000000000031 deposit 50 expiry 25" ∷
    codes "25 pool 00000000000000000000000000000000000000000000000000000010 deposit 4 cost 9 pledge 0 margin 1/9 account 1s00000000000000000000000000000000000000000000000000000013 retires 6" ∷
    codes "25 pool 00000000000000000000000000000000000000000000000000000050 deposit 4 cost 5 pledge 0 margin 1/9 account 1k00000000000000000000000000000000000000000000000000000014 retires never" ∷
    codes "25 pool 00000000000000000000000000000000000000000000000000000051 deposit 5 cost 340 pledge 0 margin 0/1 account 1k00000000000000000000000000000000000000000000000000000030 retires never" ∷
    codes "25 next 00000000000000000000000000000000000000000000000000000051 cost 400 pledge 1 margin 0/1 account 1s00000000000000000000000000000000000000000000000000000013" ∷
    codes "25 pool 00000000000000000000000000000000000000000000000000000052 deposit 4 cost 5 pledge 0 margin 1/9 account 1k00000000000000000000000000000000000000000000000000000012 retires never" ∷
    codes "25 account k00000000000000000000000000000000000000000000000000000010 stake 3882 deposit 3 rewards 0 pool 00000000000000000000000000000000000000000000000000000052 drep none" ∷
    codes "25 account s00000000000000000000000000000000000000000000000000000010 stake 1235 deposit 0 rewards 0 pool none drep abstain" ∷
    codes "25 account k00000000000000000000000000000000000000000000000000000011 stake 0 deposit 3 rewards 800 pool 00000000000000000000000000000000000000000000000000000050 drep none" ∷
    codes "25 account k00000000000000000000000000000000000000000000000000000012 stake 11615 deposit 0 rewards 67 pool none drep none" ∷
    codes "25 account s00000000000000000000000000000000000000000000000000000013 stake 5389 deposit 3 rewards 0 pool 00000000000000000000000000000000000000000000000000000051 drep none" ∷
    codes "25 account k00000000000000000000000000000000000000000000000000000014 stake 0 deposit 3 rewards 67 pool 00000000000000000000000000000000000000000000000000000010 drep none" ∷
    codes "25 account k00000000000000000000000000000000000000000000000000000030 stake 1998 deposit 3 rewards 0 pool none drep no-confidence" ∷
    codes "25 output 0000000000000000000000000000000000000000000000000000000000000001#3 1k00000000000000000000000000000000000000000000000000000002+k00000000000000000000000000000000000000000000000000000012 2753" ∷
    codes "25 output 0000000000000000000000000000000000000000000000000000000000000001#4 1k00000000000000000000000000000000000000000000000000000002 1048" ∷
    codes "25 output 0000000000000000000000000000000000000000000000000000000000000001#15 1k00000000000000000000000000000000000000000000000000000002 3008" ∷
    codes "25 output 0000000000000000000000000000000000000000000000000000000000000001#17 1k00000000000000000000000000000000000000000000000000000001+k00000000000000000000000000000000000000000000000000000010 3882" ∷
    codes "25 output 0000000000000000000000000000000000000000000000000000000000000009#2 1k00000000000000000000000000000000000000000000000000000010+s00000000000000000000000000000000000000000000000000000013 3017" ∷
    codes "25 output 0000000000000000000000000000000000000000000000000000000000000009#6 1k00000000000000000000000000000000000000000000000000000001 4315" ∷
    codes "25 output 0000000000000000000000000000000000000000000000000000000000000009#8 1k00000000000000000000000000000000000000000000000000000002 1346" ∷
    codes "25 output 0000000000000000000000000000000000000000000000000000000000000009#10 1k00000000000000000000000000000000000000000000000000000001+s00000000000000000000000000000000000000000000000000000013 2372" ∷
    codes "25 output 0000000000000000000000000000000000000000000000000000000000000009#12 1k00000000000000000000000000000000000000000000000000000002 5286" ∷
    codes "25 output 0000000000000000000000000000000000000000000000000000000000000009#14 1k00000000000000000000000000000000000000000000000000000002 1650" ∷
    codes "25 output 0000000000000000000000000000000000000000000000000000000000000009#18 1k00000000000000000000000000000000000000000000000000000002 2430" ∷
    codes "25 output 0000000000000000000000000000000000000000000000000000000000000017#0 1k00000000000000000000000000000000000000000000000000000002+k00000000000000000000000000000000000000000000000000000030 1028" ∷
    codes "25 output 0000000000000000000000000000000000000000000000000000000000000020#0 1k00000000000000000000000000000000000000000000000000000010 969" ∷
    codes "25 output 0000000000000000000000000000000000000000000000000000000000000020#1 1k00000000000000000000000000000000000000000000000000000002+k00000000000000000000000000000000000000000000000000000030 970" ∷
    codes "25 output 0000000000000000000000000000000000000000000000000000000000000020#2 1k00000000000000000000000000000000000000000000000000000010+s00000000000000000000000000000000000000000000000000000010 970" ∷
    codes "25 output 0000000000000000000000000000000000000000000000000000000000000024#0 1s00000000000000000000000000000000000000000000000000000003+k00000000000000000000000000000000000000000000000000000012 2265" ∷
    codes "25 output 0000000000000000000000000000000000000000000000000000000000000025#0 1s00000000000000000000000000000000000000000000000000000003 1589" ∷
    codes "25 output 0000000000000000000000000000000000000000000000000000000000000025#1 1k00000000000000000000000000000000000000000000000000000001 794" ∷
    codes "25 output 0000000000000000000000000000000000000000000000000000000000000025#2 1s00000000000000000000000000000000000000000000000000000003+s00000000000000000000000000000000000000000000000000000010 265" ∷
    codes "25 output 0000000000000000000000000000000000000000000000000000000000000029#0 1k00000000000000000000000000000000000000000000000000000002 6596" ∷
    codes "25 output 0000000000000000000000000000000000000000000000000000000000000029#1 1s00000000000000000000000000000000000000000000000000000003+k00000000000000000000000000000000000000000000000000000012 6597" ∷
    codes "25 proposal 0000000000000000000000000000000000000000000000000000000000000012#0 TreasuryWithdrawals deposit 10 return 1s00000000000000000000000000000000000000000000000000000013 expires 11 previous none" ∷
    codes "25 proposal 0000000000000000000000000000000000000000000000000000000000000012#1 Info deposit 10 return 1s00000000000000000000000000000000000000000000000000000010 expires 11 previous none" ∷
    codes "25 vote 0000000000000000000000000000000000000000000000000000000000000012#1 pool:00000000000000000000000000000000000000000000000000000010 abstain" ∷
    codes "25 vote 0000000000000000000000000000000000000000000000000000000000000012#1 pool:00000000000000000000000000000000000000000000000000000050 yes" ∷
    codes "25 vote 0000000000000000000000000000000000000000000000000000000000000012#1 pool:00000000000000000000000000000000000000000000000000000051 abstain" ∷
    codes "25 proposal 0000000000000000000000000000000000000000000000000000000000000017#0 HardForkInitiation deposit 10 return 1k00000000000000000000000000000000000000000000000000000014 expires 11 previous none" ∷
    codes "25 vote 0000000000000000000000000000000000000000000000000000000000000017#0 drep:k00000000000000000000000000000000000000000000000000000031 yes" ∷
    codes "25 vote 0000000000000000000000000000000000000000000000000000000000000017#0 pool:00000000000000000000000000000000000000000000000000000010 yes" ∷
    codes "25 vote 0000000000000000000000000000000000000000000000000000000000000017#0 pool:00000000000000000000000000000000000000000000000000000051 no" ∷
    codes "25 proposal 0000000000000000000000000000000000000000000000000000000000000020#0 UpdateCommittee deposit 10 return 1k00000000000000000000000000000000000000000000000000000011 expires 11 previous none" ∷
    codes "25 vote 0000000000000000000000000000000000000000000000000000000000000020#0 drep:k00000000000000000000000000000000000000000000000000000031 yes" ∷
    codes "25 vote 0000000000000000000000000000000000000000000000000000000000000020#0 pool:00000000000000000000000000000000000000000000000000000010 abstain" ∷
    codes "25 vote 0000000000000000000000000000000000000000000000000000000000000020#0 pool:00000000000000000000000000000000000000000000000000000050 no" ∷
    codes "25 vote 0000000000000000000000000000000000000000000000000000000000000020#0 pool:00000000000000000000000000000000000000000000000000000051 abstain" ∷
    codes "25 vote 0000000000000000000000000000000000000000000000000000000000000020#0 pool:00000000000000000000000000000000000000000000000000000052 abstain" ∷
    codes "25 proposal 0000000000000000000000000000000000000000000000000000000000000020#1 Info deposit 10 return 1k00000000000000000000000000000000000000000000000000000011 expires 11 previous none" ∷
    codes "25 vote 0000000000000000000000000000000000000000000000000000000000000020#1 pool:00000000000000000000000000000000000000000000000000000050 no" ∷
    codes "25 vote 0000000000000000000000000000000000000000000000000000000000000020#1 pool:00000000000000000000000000000000000000000000000000000051 yes" ∷
    codes "25 proposal 0000000000000000000000000000000000000000000000000000000000000024#0 NewConstitution deposit 10 return 1k00000000000000000000000000000000000000000000000000000030 expires 11 previous none" ∷
    codes "25 proposal 0000000000000000000000000000000000000000000000000000000000000024#1 NoConfidence deposit 10 return 1k00000000000000000000000000000000000000000000000000000011 expires 11 previous none" ∷
    codes "25 vote 0000000000000000000000000000000000000000000000000000000000000024#1 pool:00000000000000000000000000000000000000000000000000000010 yes" ∷
    codes "25 proposal 0000000000000000000000000000000000000000000000000000000000000025#0 NoConfidence deposit 10 return 1s00000000000000000000000000000000000000000000000000000013 expires 11 previous 0000000000000000000000000000000000000000000000000000000000000020#0" ∷
    codes "25 vote 0000000000000000000000000000000000000000000000000000000000000025#0 pool:00000000000000000000000000000000000000000000000000000052 abstain" ∷
    codes "25 proposal 0000000000000000000000000000000000000000000000000000000000000029#0 Info deposit 10 return 1s00000000000000000000000000000000000000000000000000000010 expires 11 previous none" ∷
    codes "25 proposal 0000000000000000000000000000000000000000000000000000000000000029#1 NewConstitution deposit 10 return 1k00000000000000000000000000000000000000000000000000000012 expires 11 previous 0000000000000000000000000000000000000000000000000000000000000024#0" ∷
    codes "25 proposal 0000000000000000000000000000000000000000000000000000000000000029#2 Info deposit 10 return 1k00000000000000000000000000000000000000000000000000000011 expires 11 previous none" ∷
    codes "25 snapshot mark 00000000000000000000000000000000000000000000000000000010 67" ∷
    codes "25 snapshot mark 00000000000000000000000000000000000000000000000000000050 800" ∷
    codes "25 snapshot mark 00000000000000000000000000000000000000000000000000000052 3949" ∷
    codes "25 snapshot fees 0" ∷
    codes "25 pending none" ∷
    codes "25 pots outputs 53150 deposits 192 rewards 934 fees 2321 donations 60 treasury 5000 reserves 700 supply 62357" ∷
    []) ≡ true
unfolding digits encode_with
transactions_of_all_parts_1 = refl

abbrev transactions_of_all_parts_2_input : List (ℕ × Reading)
transactions_of_all_parts_2_input =
    (1, Read (records.Genesis (record { network = 1; slot = 50; epoch_length = 10; version = (11, 1); supply = 54822; reserves = 0; treasury = 5000; params = (record base_params { min_fee_b = 70; key_deposit = 0; pool_deposit = 0; min_pool_cost = 340; coins_per_utxo_byte = 1; e_max = 1; gov_action_lifetime = 6; drep_activity = 0 }); document = (h32 0x01); script = (Some (h28 0x99)); committee = (Some (record { threshold = (share 1 2); members = (((key 0x71), 3, (Some (key 0x70))) ∷ ((script 0x70), 5, None) ∷ ((key 0x72), 7, (Some (script 0x80))) ∷ ((key 0x70), 3, (Some (key 0x81))) ∷ []) })); outputs = (((ref 0x01 0), (address_with 1 (key 0x02) (Some (key 0x15))), 4993, []) ∷ ((ref 0x01 1), (address_with 1 (key 0x01) (Some (key 0x10))), 5301, []) ∷ ((ref 0x01 2), (address_with 1 (script 0x03) None), 2881, []) ∷ ((ref 0x01 3), (address_with 1 (script 0x03) None), 780, []) ∷ ((ref 0x09 4), (address_with 1 (key 0x02) None), 5021, []) ∷ ((ref 0x09 5), (address_with 1 (script 0x03) None), 2422, []) ∷ ((ref 0x01 6), (address_with 1 (key 0x02) (Some (script 0x10))), 608, []) ∷ ((ref 0x01 7), (address_with 1 (key 0x02) (Some (key 0x15))), 4443, []) ∷ ((ref 0x01 8), (address_with 1 (key 0x01) None), 5175, []) ∷ ((ref 0x01 9), (address_with 1 (key 0x02) None), 4224, []) ∷ ((ref 0x09 10), (address_with 1 (script 0x03) None), 3791, []) ∷ ((ref 0x01 11), (address_with 1 (script 0x03) None), 4415, []) ∷ ((ref 0x09 12), (address_with 1 (key 0x10) None), 5737, []) ∷ []); accounts = (((key 0x14), 0, 0, None, (Some (drep.Registered (key 0x30)))) ∷ ((key 0x11), 0, 1, (Some (pool 0x10)), None) ∷ ((key 0x10), 0, 0, (Some (pool 0x51)), (Some drep.NoConfidence)) ∷ []); pools = ((record { pool = (pool 0x10); deposit = 4; cost = 60; pledge = 0; margin = (share 1 9); account = (account_on 1 (script 0x10)); key = None }) ∷ (record { pool = (pool 0x51); deposit = 4; cost = 40; pledge = 0; margin = (share 1 9); account = (account_on 1 (key 0x12)); key = None }) ∷ []); dreps = (((key 0x31), 5, 25) ∷ ((key 0x30), 6, 18) ∷ ((key 0x10), 6, 24) ∷ ((script 0x30), 5, 24) ∷ []) }))) ∷
    (2, Read (records.Tx (record (spend 0x10 79) { inputs = ((ref 0x09 5) ∷ (ref 0x01 2) ∷ (ref 0x01 8) ∷ []); outputs = ((paying (address_with 1 (key 0x01) (Some (key 0x15))) 5195 0) ∷ (paying (address_with 1 (key 0x01) (Some (script 0x10))) 5195 0) ∷ []); size = 17; script_fee = 18446744073709551615; from = (Some 50); until = (Some 59); withdrawals = (((account_on 1 (key 0x30)), 7) ∷ []); certs = ((certs.DrepUnreg (key 0x30) None) ∷ (certs.DrepReg (key 0x30) None) ∷ []); proposals = ((proposing 10 (account_on 1 (key 0x10)) (actions.HardForkInitiation None (11, 2))) ∷ []) }))) ∷
    (3, Read (records.Tx (record (spend 0x11 2606) { inputs = ((ref 0x01 8) ∷ (ref 0x01 6) ∷ []); outputs = ((paying (address_with 1 (key 0x01) None) 1901 65) ∷ (paying (address_with 1 (key 0x10) (Some (script 0x10))) 1267 29) ∷ []); size = 322; certs = ((certs.PoolReg (pool 0x10) 345 7 (share 1 2) (account_on 1 (key 0x14)) None) ∷ (certs.DrepUpdate (key 0x10)) ∷ (certs.DrepUnreg (key 0x10) (Some 6)) ∷ (certs.HotAuth (key 0x70) (key 0x70)) ∷ (certs.DrepReg (key 0x10) (Some 5)) ∷ (certs.HotResign (key 0x71)) ∷ (certs.HotResign (key 0x72)) ∷ []); proposals = ((proposing 10 (account_on 1 (key 0x14)) (actions.TreasuryWithdrawals (((account_on 1 (key 0x10)), 99) ∷ ((account_on 1 (key 0x11)), 0) ∷ []) (Some (h28 0x99)))) ∷ []) }))) ∷
    (4, Read (records.Tx (record (spend 0x12 79) { inputs = ((ref 0x09 12) ∷ (ref 0x01 9) ∷ (ref 0x09 10) ∷ []); outputs = ((paying (address_with 1 (script 0x03) None) 4557 57) ∷ (paying (address_with 1 (key 0x02) None) 4558 65) ∷ (paying (address_with 1 (key 0x02) None) 2279 29) ∷ (paying (address_with 1 (key 0x02) None) 2279 65) ∷ []); size = 257; from = (Some 50); until = (Some 51); certs = ((certs.PoolReg (pool 0x51) 340 5 (share 0 1) (account_on 1 (key 0x15)) None) ∷ (certs.HotAuth (key 0x70) (key 0x30)) ∷ (certs.AccountUnreg (key 0x10) (Some 0)) ∷ (certs.HotAuth (key 0x70) (script 0x80)) ∷ []) }))) ∷
    (5, Read (records.Tx (record (spend 0x13 75) { inputs = ((ref 0x09 5) ∷ []); outputs = ((paying (address_with 1 (key 0x01) None) 2358 0) ∷ []); size = 299; script_fee = 5; from = (Some 50); until = (Some 51); withdrawals = (((account_on 1 (key 0x14)), 0) ∷ []); certs = ((certs.DrepUnreg (key 0x31) None) ∷ (certs.DrepUnreg (script 0x30) (Some 5)) ∷ (certs.AccountReg (key 0x30) (Some 0) (Some (pool 0x10)) None) ∷ (certs.PoolReg (pool 0x51) 345 1 (share 0 1) (account_on 1 (key 0x11)) None) ∷ (certs.DrepReg (script 0x30) None) ∷ (certs.DrepUnreg (key 0x30) None) ∷ (certs.DrepUpdate (key 0x10)) ∷ []); votes = ((voting (voter.Drep (script 0x30)) (action 0x11 0) vote.No) ∷ []) }))) ∷
    (6, Read (records.Tx (record (spend 0x14 2876) { inputs = ((ref 0x11 0) ∷ (ref 0x01 11) ∷ (ref 0x01 0) ∷ []); outputs = ((paying (address_with 1 (script 0x03) None) 5612 57) ∷ (paying (address_with 1 (key 0x01) (Some (script 0x13))) 2806 57) ∷ []); size = 144; until = (Some 59); withdrawals = (((account_on 0 (key 0x30)), 0) ∷ []); certs = ((certs.DrepUnreg (script 0x30) (Some 5)) ∷ (certs.DrepUnreg (key 0x10) None) ∷ (certs.AccountUnreg (key 0x14) None) ∷ (certs.HotAuth (key 0x70) (key 0x81)) ∷ (certs.DrepReg (key 0x30) (Some 5)) ∷ (certs.PoolReg (pool 0x52) 340 0 (share 0 1) (account_on 1 (key 0x12)) None) ∷ (certs.HotAuth (key 0x70) (key 0x80)) ∷ []); proposals = ((proposing 10 (account_on 1 (key 0x30)) (actions.UpdateCommittee None [] (((key 0x71), 6) ∷ ((script 0x70), 10) ∷ []) (share 0 1))) ∷ (proposing 10 (account_on 1 (key 0x30)) (actions.NoConfidence None)) ∷ (proposing 10 (account_on 1 (key 0x10)) (actions.NoConfidence None)) ∷ []) }))) ∷
    (7, Read (records.Tx (record (spend 0x15 79) { inputs = []; outputs = ((paying (address_with 1 (script 0x03) None) 10213 29) ∷ []); size = 375; scripts = scripts.Failed; from = (Some 50); until = (Some 51); collateral = ((ref 0x13 0) ∷ (ref 0x01 0) ∷ []); collateral_return = (Some (paying (address_with 1 (key 0x02) None) 7232 29)); donation = 30; certs = ((certs.HotAuth (script 0x70) (key 0x30)) ∷ (certs.HotAuth (script 0x70) (key 0x70)) ∷ (certs.HotResign (script 0x70)) ∷ []); votes = ((voting (voter.Drep (key 0x10)) (action 0x11 0) vote.Abstain) ∷ (voting (voter.Committee (script 0x80)) (action 0x11 0) vote.Yes) ∷ (voting (voter.Drep (script 0x30)) (action 0x11 0) vote.Yes) ∷ (voting (voter.Drep (key 0x10)) (action 0x11 0) vote.Abstain) ∷ (voting (voter.Drep (script 0x30)) (action 0x11 0) vote.Yes) ∷ (voting (voter.Drep (script 0x30)) (action 0x11 0) vote.Yes) ∷ []) }))) ∷
    (8, Read (records.Tx (record (spend 0x16 778) { inputs = ((ref 0x11 1) ∷ (ref 0x01 3) ∷ (ref 0x01 11) ∷ []); outputs = ((paying (address_with 1 (key 0x02) None) 2124 65) ∷ (paying (address_with 1 (key 0x10) None) 1416 0) ∷ (paying (address_with 1 (key 0x10) None) 1416 0) ∷ (paying (address_with 1 (key 0x10) (Some (key 0x14))) 708 0) ∷ []); size = 266; from = (Some 50); until = (Some 59); treasury = (Some 5000); withdrawals = (((account_on 1 (key 0x14)), 0) ∷ []); certs = ((certs.AccountUnreg (key 0x14) None) ∷ []); proposals = ((proposing 10 (account_on 1 (key 0x30)) (actions.UpdateCommittee None [] [] (share 0 1))) ∷ (proposing 10 (account_on 1 (key 0x11)) (actions.Info)) ∷ []) }))) ∷
    (9, Read (records.Tx (record (spend 0x17 2238) { inputs = ((ref 0x01 11) ∷ []); outputs = ((paying (address_with 1 (key 0x10) (Some (script 0x13))) 2167 65) ∷ []); size = 166; from = (Some 50); certs = ((certs.AccountUnreg (key 0x12) None) ∷ []); proposals = ((proposing 10 (account_on 1 (key 0x30)) (actions.UpdateCommittee None [] [] (share 2 3))) ∷ []); votes = ((voting (voter.Drep (key 0x10)) (action 0x11 0) vote.No) ∷ (voting (voter.Committee (script 0x80)) (action 0x11 0) vote.Abstain) ∷ (voting (voter.Drep (key 0x10)) (action 0x11 0) vote.Yes) ∷ (voting (voter.Drep (script 0x30)) (action 0x11 0) vote.Abstain) ∷ (voting (voter.Drep (script 0x30)) (action 0x11 0) vote.Yes) ∷ (voting (voter.Committee (script 0x80)) (action 0x11 0) vote.Abstain) ∷ []) }))) ∷
    (10, Read (records.Tx (record (spend 0x18 5081) { inputs = ((ref 0x12 2) ∷ (ref 0x01 3) ∷ (ref 0x12 0) ∷ []); outputs = ((paying (address_with 1 (key 0x10) None) 2505 57) ∷ []); size = 12; certs = ((certs.PoolReg (pool 0x52) 345 0 (share 0 1) (account_on 1 (key 0x30)) None) ∷ (certs.PoolReg (pool 0x50) 340 7 (share 1 2) (account_on 1 (key 0x11)) None) ∷ (certs.DrepUpdate (script 0x30)) ∷ (certs.DrepUpdate (script 0x30)) ∷ (certs.PoolReg (pool 0x10) 340 2 (share 0 1) (account_on 1 (key 0x14)) None) ∷ (certs.PoolRetire (pool 0x52) 6) ∷ (certs.DrepUpdate (script 0x30)) ∷ []); proposals = ((proposing 10 (account_on 1 (key 0x14)) (actions.NoConfidence None)) ∷ (proposing 10 (account_on 0 (script 0x13)) (actions.ParameterChange None (record no_update { max_block_header_size = (Some 9); min_pool_cost = (Some 2); prices = (Some ((share 0 1), (share 0 1))); a0 = (Some (share 0 1)) }) (Some (h28 0x99)))) ∷ (proposing 10 (account_on 1 (key 0x11)) (actions.HardForkInitiation None (11, 2))) ∷ (proposing 10 (account_on 1 (key 0x11)) (actions.HardForkInitiation None (11, 2))) ∷ []); votes = ((voting (voter.Drep (script 0x30)) (action 0x11 0) vote.Yes) ∷ (voting (voter.Committee (script 0x80)) (action 0x11 0) vote.Abstain) ∷ (voting (voter.Drep (key 0x10)) (action 0x11 0) vote.Abstain) ∷ (voting (voter.Drep (script 0x30)) (action 0x11 0) vote.Abstain) ∷ (voting (voter.Drep (script 0x30)) (action 0x11 0) vote.No) ∷ (voting (voter.Committee (script 0x80)) (action 0x11 0) vote.No) ∷ []) }))) ∷
    (11, Read (records.Tx (record (spend 0x19 678) { inputs = ((ref 0x11 0) ∷ []); outputs = ((paying (address_with 1 (key 0x02) None) 599 29) ∷ (paying (address_with 1 (key 0x02) (Some (key 0x15))) 599 0) ∷ []); size = 177; certs = ((certs.PoolReg (pool 0x50) 340 2 (share 0 1) (account_on 1 (script 0x13)) None) ∷ (certs.PoolReg (pool 0x10) 345 1 (share 0 1) (account_on 1 (key 0x15)) None) ∷ (certs.Delegate (key 0x30) (Some (pool 0x50)) (Some (drep.Registered (key 0x10)))) ∷ (certs.AccountReg (script 0x13) None (Some (pool 0x10)) None) ∷ (certs.PoolReg (pool 0x10) 339 4 (share 1 2) (account_on 1 (script 0x10)) None) ∷ (certs.PoolRetire (pool 0x10) 6) ∷ (certs.DrepReg (key 0x31) None) ∷ (certs.DrepUpdate (script 0x30)) ∷ []); proposals = ((proposing 10 (account_on 1 (key 0x11)) (actions.ParameterChange None (record no_update { max_tx_ex_units = (Some (1000, 1000)); max_block_ex_units = (Some (1000, 1000)); min_fee_ref_script_cost_per_byte = (Some (share 15 1)); cost_models = (Some (h32 0x00)) }) (Some (h28 0x99)))) ∷ (proposing 10 (account_on 1 (key 0x10)) (actions.Info)) ∷ (proposing 10 (account_on 1 (key 0x14)) (actions.ParameterChange None (record no_update { min_fee_a = (Some 9); drep_voting_thresholds = (Some ((share 67 100) ∷ (share 67 100) ∷ (share 67 100) ∷ (share 67 100) ∷ (share 67 100) ∷ (share 67 100) ∷ (share 67 100) ∷ (share 67 100) ∷ (share 67 100) ∷ (share 67 100) ∷ [])) }) (Some (h28 0x99)))) ∷ []); votes = ((voting (voter.Drep (key 0x10)) (action 0x11 0) vote.No) ∷ (voting (voter.Drep (key 0x31)) (action 0x11 0) vote.Abstain) ∷ (voting (voter.Committee (script 0x80)) (action 0x11 0) vote.No) ∷ []) }))) ∷
    (12, Read (records.Tx (record (spend 0x20 6468) { inputs = ((ref 0x12 2) ∷ (ref 0x01 2) ∷ (ref 0x12 0) ∷ []); outputs = ((paying (address_with 1 (key 0x01) None) 3199 0) ∷ []); size = 83; from = (Some 49); until = (Some 59); donation = 30; certs = ((certs.PoolReg (pool 0x50) 400 1 (share 0 1) (account_on 1 (script 0x13)) None) ∷ (certs.PoolReg (pool 0x50) 500 1 (share 0 1) (account_on 1 (script 0x13)) None) ∷ (certs.PoolReg (pool 0x52) 340 3 (share 1 2) (account_on 1 (key 0x12)) None) ∷ (certs.DrepUpdate (script 0x30)) ∷ (certs.PoolRetire (pool 0x50) 6) ∷ (certs.PoolReg (pool 0x50) 400 1 (share 0 1) (account_on 1 (script 0x13)) None) ∷ []); proposals = ((proposing 10 (account_on 1 (key 0x11)) (actions.NoConfidence None)) ∷ (proposing 10 (account_on 1 (key 0x30)) (actions.Info)) ∷ []); votes = ((voting (voter.Committee (key 0x80)) (action 0x11 0) vote.Abstain) ∷ (voting (voter.Pool (pool 0x52)) (action 0x11 0) vote.No) ∷ []) }))) ∷
    (13, Read (records.Tx (record (spend 0x21 79) { inputs = []; outputs = ((paying (address_with 1 (key 0x01) None) 2456 29) ∷ (paying (address_with 1 (key 0x10) None) 2456 29) ∷ []); size = 205; from = (Some 50); until = (Some 51); certs = ((certs.HotAuth (key 0x70) (script 0x80)) ∷ []); proposals = ((proposing 10 (account_on 1 (key 0x30)) (actions.HardForkInitiation None (11, 2))) ∷ (proposing 10 (account_on 1 (key 0x11)) (actions.NewConstitution None (h32 0x05) None)) ∷ (proposing 10 (account_on 0 (key 0x30)) (actions.TreasuryWithdrawals (((account_on 1 (key 0x15)), 99) ∷ ((account_on 1 (script 0x13)), 5) ∷ ((account_on 1 (key 0x10)), 5) ∷ []) (Some (h28 0x99)))) ∷ (proposing 10 (account_on 1 (key 0x11)) (actions.NoConfidence None)) ∷ []) }))) ∷
    (14, Read (records.Tx (record (spend 0x22 79) { inputs = ((ref 0x09 4) ∷ []); outputs = ((paying (address_with 1 (key 0x02) (Some (key 0x14))) 1640 65) ∷ (paying (address_with 1 (key 0x10) None) 3282 0) ∷ []); size = 89; certs = ((certs.AccountUnreg (key 0x11) None) ∷ (certs.DrepUnreg (key 0x10) None) ∷ (certs.DrepReg (key 0x31) None) ∷ []); proposals = ((proposing 10 (account_on 1 (key 0x30)) (actions.TreasuryWithdrawals (((account_on 1 (key 0x10)), 5) ∷ ((account_on 1 (key 0x11)), 0) ∷ []) (Some (h28 0x99)))) ∷ (proposing 10 (account_on 1 (key 0x11)) (actions.HardForkInitiation None (11, 2))) ∷ (proposing 10 (account_on 1 (key 0x11)) (actions.HardForkInitiation None (12, 0))) ∷ []); votes = ((voting (voter.Drep (key 0x31)) (action 0x13 2) vote.No) ∷ (voting (voter.Pool (pool 0x51)) (action 0x13 0) vote.No) ∷ (voting (voter.Drep (key 0x31)) (action 0x11 0) vote.No) ∷ []) }))) ∷
    (15, Read (records.Tx (record (spend 0x23 1974) { inputs = ((ref 0x01 3) ∷ (ref 0x01 0) ∷ []); outputs = ((paying (address_with 1 (key 0x10) (Some (key 0x12))) 1894 29) ∷ (paying (address_with 1 (key 0x01) None) 1895 0) ∷ []); size = 255; from = (Some 51); until = (Some 51); certs = ((certs.PoolReg (pool 0x52) 400 1 (share 0 1) (account_on 1 (script 0x13)) None) ∷ []); proposals = ((proposing 10 (account_on 1 (key 0x14)) (actions.NoConfidence None)) ∷ []) }))) ∷
    (16, Read (records.Tx (record (spend 0x24 1196) { inputs = ((ref 0x12 0) ∷ []); outputs = ((paying (address_with 1 (key 0x10) None) 2241 65) ∷ (paying (address_with 1 (key 0x10) None) 1120 0) ∷ []); size = 89; script_fee = 5; from = (Some 49); certs = ((certs.DrepUpdate (key 0x10)) ∷ (certs.DrepReg (key 0x31) None) ∷ (certs.DrepUnreg (script 0x30) (Some 5)) ∷ (certs.PoolReg (pool 0x52) 345 3 (share 0 1) (account_on 1 (key 0x14)) None) ∷ (certs.DrepUpdate (key 0x10)) ∷ (certs.HotAuth (script 0x70) (key 0x80)) ∷ (certs.HotResign (key 0x70)) ∷ []); votes = ((voting (voter.Committee (key 0x80)) (action 0x11 0) vote.Yes) ∷ (voting (voter.Drep (key 0x31)) (action 0x11 0) vote.Abstain) ∷ (voting (voter.Committee (key 0x80)) (action 0x11 0) vote.Abstain) ∷ []) }))) ∷
    (17, Read (records.Tx (record (spend 0x25 79) { inputs = ((ref 0x01 2) ∷ []); outputs = ((paying (address_with 1 (key 0x01) (Some (script 0x13))) 925 65) ∷ (paying (address_with 1 (key 0x10) (Some (key 0x30))) 926 0) ∷ (paying (address_with 1 (script 0x03) None) 926 65) ∷ []); size = 186; scripts = scripts.Passed; collateral = ((ref 0x11 0) ∷ []); collateral_return = (Some (paying (address_with 1 (script 0x03) None) 1902 0)); certs = ((certs.DrepReg (key 0x30) (Some 5)) ∷ []); proposals = ((proposing 10 (account_on 1 (key 0x14)) (actions.HardForkInitiation None (11, 2))) ∷ (proposing 10 (account_on 1 (key 0x30)) (actions.NewConstitution None (h32 0x04) (Some (h28 0x98)))) ∷ []); votes = ((voting (voter.Drep (key 0x30)) (action 0x11 0) vote.No) ∷ (voting (voter.Drep (key 0x10)) (action 0x11 0) vote.No) ∷ (voting (voter.Drep (key 0x31)) (action 0x11 0) vote.Abstain) ∷ []) }))) ∷
    (18, Read (records.Tx (record (spend 0x26 70) { inputs = ((ref 0x24 0) ∷ (ref 0x01 7) ∷ []); outputs = ((paying (address_with 1 (key 0x02) None) 6599 65) ∷ []); size = 74; from = (Some 49); until = (Some 51); treasury = (Some 5000); certs = ((certs.DrepReg (key 0x30) (Some 5)) ∷ []); proposals = ((proposing 10 (account_on 1 (key 0x14)) (actions.NoConfidence None)) ∷ []); votes = ((voting (voter.Drep (key 0x30)) (action 0x11 0) vote.Yes) ∷ (voting (voter.Drep (key 0x10)) (action 0x11 0) vote.Yes) ∷ (voting (voter.Drep (key 0x30)) (action 0x11 0) vote.No) ∷ []) }))) ∷
    (19, Read (records.Tx (record (spend 0x27 79) { inputs = ((ref 0x12 1) ∷ (ref 0x24 1) ∷ (ref 0x11 1) ∷ []); outputs = ((paying (address_with 1 (key 0x02) None) 3433 29) ∷ (paying (address_with 1 (key 0x10) None) 1716 65) ∷ (paying (address_with 1 (key 0x01) (Some (key 0x14))) 1717 57) ∷ []); size = 254; scripts = scripts.Passed; collateral = ((ref 0x01 1) ∷ (ref 0x26 0) ∷ []); certs = ((certs.AccountReg (script 0x13) None (Some (pool 0x51)) (Some (drep.Registered (key 0x30)))) ∷ (certs.PoolRetire (pool 0x10) 6) ∷ (certs.PoolRetire (pool 0x10) 6) ∷ (certs.PoolReg (pool 0x50) 340 8 (share 1 2) (account_on 1 (key 0x10)) None) ∷ (certs.AccountReg (key 0x10) (Some 0) (Some (pool 0x51)) (Some (drep.Registered (key 0x10)))) ∷ (certs.Delegate (key 0x14) None (Some (drep.Registered (key 0x31)))) ∷ (certs.DrepUpdate (key 0x31)) ∷ []); votes = ((voting (voter.Drep (key 0x30)) (action 0x11 0) vote.No) ∷ (voting (voter.Drep (key 0x10)) (action 0x11 0) vote.Yes) ∷ (voting (voter.Drep (key 0x30)) (action 0x11 0) vote.No) ∷ (voting (voter.Pool (pool 0x50)) (action 0x26 0) vote.Abstain) ∷ (voting (voter.Pool (pool 0x50)) (action 0x26 0) vote.No) ∷ (voting (voter.Pool (pool 0x10)) (action 0x26 0) vote.Yes) ∷ []) }))) ∷
    (20, Read (records.Tx (record (spend 0x28 75) { inputs = ((ref 0x12 2) ∷ []); outputs = ((paying (address_with 1 (key 0x01) None) 1082 65) ∷ (paying (address_with 1 (key 0x02) None) 1082 57) ∷ []); size = 157; script_fee = 5; scripts = scripts.Passed; from = (Some 49); collateral = ((ref 0x11 0) ∷ (ref 0x01 1) ∷ []); collateral_return = (Some (paying (address_with 1 (key 0x01) None) 7089 29)); donation = 30; proposals = ((proposing 10 (account_on 1 (script 0x13)) (actions.Info)) ∷ (proposing 10 (account_on 1 (key 0x14)) (actions.HardForkInitiation None (12, 2))) ∷ []); votes = ((voting (voter.Pool (pool 0x52)) (action 0x26 0) vote.Abstain) ∷ (voting (voter.Drep (key 0x31)) (action 0x26 0) vote.No) ∷ (voting (voter.Drep (key 0x10)) (action 0x11 0) vote.Abstain) ∷ []) }))) ∷
    (21, Read (records.Tx (record (spend 0x29 4102) { inputs = ((ref 0x01 11) ∷ (ref 0x27 2) ∷ []); outputs = ((paying (address_with 1 (key 0x02) (Some (script 0x10))) 2015 65) ∷ []); size = 157; from = (Some 50); until = (Some 59); certs = ((certs.HotResign (script 0x70)) ∷ (certs.PoolRetire (pool 0x10) 6) ∷ (certs.DrepUpdate (key 0x10)) ∷ (certs.AccountUnreg (key 0x14) None) ∷ (certs.PoolReg (pool 0x52) 345 6 (share 1 2) (account_on 1 (script 0x10)) None) ∷ (certs.DrepReg (script 0x30) None) ∷ (certs.Delegate (script 0x13) None (Some (drep.Registered (key 0x31)))) ∷ []); proposals = ((proposing 10 (account_on 1 (key 0x11)) (actions.NewConstitution None (h32 0x03) (Some (h28 0x98)))) ∷ (proposing 10 (account_on 1 (key 0x11)) (actions.ParameterChange (Some (action 0x11 0)) (record no_update { max_block_body_size = (Some 0); max_value_size = (Some 0); coins_per_utxo_byte = (Some 0); gov_action_deposit = (Some 2) }) (Some (h28 0x99)))) ∷ []) }))) ∷
    (22, Read (records.Print what.Pots)) ∷
    (23, Read (records.Print what.State)) ∷
    []

pub transactions_of_all_parts_2 : says_all transactions_of_all_parts_2_input (
    codes "1 genesis outputs 49791 deposits 30 rewards 1 fees 0 donations 0 treasury 5000 reserves 0 supply 54822" ∷
    codes "2 refused 37 FeeTooSmall min 18446744073709551685" ∷
    codes "3 accepted" ∷
    codes "4 accepted" ∷
    codes "5 accepted" ∷
    codes "6 refused 50 WithdrawalWrongNetwork at 0" ∷
    codes "7 refused 32 NoInputs" ∷
    codes "8 refused 52 WithdrawalNotDelegated at 0" ∷
    codes "9 refused 61 AccountUnknown at 0" ∷
    codes "10 refused 81 ReturnWrongNetwork at 1" ∷
    codes "11 refused 68 PoolCostTooLow at 4 min 340" ∷
    codes "12 refused 101 VoterUnknown at 0" ∷
    codes "13 refused 32 NoInputs" ∷
    codes "14 refused 64 BalanceNotZero at 0 balance 1" ∷
    codes "15 refused 36 OutsideValidity slot 50" ∷
    codes "16 accepted" ∷
    codes "17 refused 44 CollateralTooSmall have 0" ∷
    codes "18 accepted" ∷
    codes "19 accepted" ∷
    codes "20 refused 91 CannotFollow at 1" ∷
    codes "21 refused 83 UpdateMalformed at 1" ∷
    codes "22 pots outputs 45673 deposits 43 rewards 1 fees 4105 donations 0 treasury 5000 reserves 0 supply 54822" ∷
    codes "23 now slot 50 epoch 5 version 11.1 dormant 0" ∷
    codes "23 constitution 0000000000000000000000000000000000000000000000000000000000000001 00000000000000000000000000000000000000000000000000000099" ∷
    codes "23 committee threshold 1/2" ∷
    codes "23 member k00000000000000000000000000000000000000000000000000000070 term 3 hot resigned" ∷
    codes "23 member s00000000000000000000000000000000000000000000000000000070 term 5 hot k00000000000000000000000000000000000000000000000000000080" ∷
    codes "23 member k00000000000000000000000000000000000000000000000000000071 term 3 hot resigned" ∷
    codes "23 member k00000000000000000000000000000000000000000000000000000072 term 7 hot resigned" ∷
    codes "23 enacted committee none constitution none hardfork none parameters none" ∷
    codes "23 param maxBlockBodySize 90112" ∷
    codes "23 param maxTxSize 16384" ∷
    codes "23 param maxBlockHeaderSize 1100" ∷
    codes "23 param maxValueSize 5000" ∷
    codes "23 param maxTxExUnits 1000 1000" ∷
    codes "23 param maxBlockExUnits 1000 1000" ∷
    codes "23 param maxCollateralInputs 3" ∷
    codes "23 param minFeeA 0" ∷
    codes "23 param minFeeB 70" ∷
    codes "23 param keyDeposit 0" ∷
    codes "23 param poolDeposit 0" ∷
    codes "23 param rho 0/1" ∷
    codes "23 param tau 0/1" ∷
    codes "23 param minPoolCost 340" ∷
    codes "23 param coinsPerUTxOByte 1" ∷
    codes "23 param prices 0/1 0/1" ∷
    codes "23 param minFeeRefScriptCostPerByte 15/1" ∷
    codes "23 param a0 0/1" ∷
    codes "23 param eMax 1" ∷
    codes "23 param nOpt 500" ∷
    codes "23 param costModels 0000000000000000000000000000000000000000000000000000000000000000" ∷
    codes "23 param collateralPercentage 150" ∷
    codes "23 param poolVotingThresholds 0/1 0/1 0/1 0/1 0/1" ∷
    codes "23 param drepVotingThresholds 67/100 67/100 67/100 67/100 67/100 67/100 67/100 67/100 67/100 67/100" ∷
    codes "23 param govActionLifetime 6" ∷
    codes "23 param govActionDeposit 10" ∷
    codes "23 param drepDeposit 5" ∷
    codes "23 param drepActivity 0" ∷
    codes "23 param committeeMinSize 0" ∷
    codes "23 param committeeMaxTermLength 100" ∷
    codes "23 drep k00000000000000000000000000000000000000000000000000000010 deposit 5 expiry 5" ∷
    codes "23 drep k00000000000000000000000000000000000000000000000000000030 deposit 5 expiry 5" ∷
    codes "23 drep k00000000000000000000000000000000000000000000000000000031 deposit 5 expiry 5" ∷
    codes "23 pool 00000000000000000000000000000000000000000000000000000010 deposit 4 cost 60 pledge 0 margin 1/9 account 1s00000000000000000000000000000000000000000000000000000010 retires 6" ∷
    codes "23 next 00000000000000000000000000000000000000000000000000000010 cost 345 pledge 7 margin 1/2 account 1k00000000000000000000000000000000000000000000000000000014" ∷
    codes "23 pool 00000000000000000000000000000000000000000000000000000050 deposit 0 cost 340 pledge 8 margin 1/2 account 1k00000000000000000000000000000000000000000000000000000010 retires never" ∷
    codes "23 pool 00000000000000000000000000000000000000000000000000000051 deposit 4 cost 40 pledge 0 margin 1/9 account 1k00000000000000000000000000000000000000000000000000000012 retires never" ∷
    codes "23 next 00000000000000000000000000000000000000000000000000000051 cost 345 pledge 1 margin 0/1 account 1k00000000000000000000000000000000000000000000000000000011" ∷
    codes "23 pool 00000000000000000000000000000000000000000000000000000052 deposit 0 cost 345 pledge 3 margin 0/1 account 1k00000000000000000000000000000000000000000000000000000014 retires never" ∷
    codes "23 account k00000000000000000000000000000000000000000000000000000010 stake 5301 deposit 0 rewards 0 pool 00000000000000000000000000000000000000000000000000000051 drep k00000000000000000000000000000000000000000000000000000010" ∷
    codes "23 account k00000000000000000000000000000000000000000000000000000011 stake 0 deposit 0 rewards 1 pool 00000000000000000000000000000000000000000000000000000010 drep none" ∷
    codes "23 account s00000000000000000000000000000000000000000000000000000013 stake 0 deposit 0 rewards 0 pool 00000000000000000000000000000000000000000000000000000051 drep k00000000000000000000000000000000000000000000000000000030" ∷
    codes "23 account k00000000000000000000000000000000000000000000000000000014 stake 1717 deposit 0 rewards 0 pool none drep k00000000000000000000000000000000000000000000000000000031" ∷
    codes "23 account k00000000000000000000000000000000000000000000000000000015 stake 4993 unregistered" ∷
    codes "23 account k00000000000000000000000000000000000000000000000000000030 stake 0 deposit 0 rewards 0 pool 00000000000000000000000000000000000000000000000000000010 drep none" ∷
    codes "23 output 0000000000000000000000000000000000000000000000000000000000000001#0 1k00000000000000000000000000000000000000000000000000000002+k00000000000000000000000000000000000000000000000000000015 4993" ∷
    codes "23 output 0000000000000000000000000000000000000000000000000000000000000001#1 1k00000000000000000000000000000000000000000000000000000001+k00000000000000000000000000000000000000000000000000000010 5301" ∷
    codes "23 output 0000000000000000000000000000000000000000000000000000000000000001#2 1s00000000000000000000000000000000000000000000000000000003 2881" ∷
    codes "23 output 0000000000000000000000000000000000000000000000000000000000000001#3 1s00000000000000000000000000000000000000000000000000000003 780" ∷
    codes "23 output 0000000000000000000000000000000000000000000000000000000000000001#11 1s00000000000000000000000000000000000000000000000000000003 4415" ∷
    codes "23 output 0000000000000000000000000000000000000000000000000000000000000009#4 1k00000000000000000000000000000000000000000000000000000002 5021" ∷
    codes "23 output 0000000000000000000000000000000000000000000000000000000000000011#0 1k00000000000000000000000000000000000000000000000000000001 1901" ∷
    codes "23 output 0000000000000000000000000000000000000000000000000000000000000012#2 1k00000000000000000000000000000000000000000000000000000002 2279" ∷
    codes "23 output 0000000000000000000000000000000000000000000000000000000000000012#3 1k00000000000000000000000000000000000000000000000000000002 2279" ∷
    codes "23 output 0000000000000000000000000000000000000000000000000000000000000013#0 1k00000000000000000000000000000000000000000000000000000001 2358" ∷
    codes "23 output 0000000000000000000000000000000000000000000000000000000000000026#0 1k00000000000000000000000000000000000000000000000000000002 6599" ∷
    codes "23 output 0000000000000000000000000000000000000000000000000000000000000027#0 1k00000000000000000000000000000000000000000000000000000002 3433" ∷
    codes "23 output 0000000000000000000000000000000000000000000000000000000000000027#1 1k00000000000000000000000000000000000000000000000000000010 1716" ∷
    codes "23 output 0000000000000000000000000000000000000000000000000000000000000027#2 1k00000000000000000000000000000000000000000000000000000001+k00000000000000000000000000000000000000000000000000000014 1717" ∷
    codes "23 proposal 0000000000000000000000000000000000000000000000000000000000000011#0 TreasuryWithdrawals deposit 10 return 1k00000000000000000000000000000000000000000000000000000014 expires 11 previous none" ∷
    codes "23 vote 0000000000000000000000000000000000000000000000000000000000000011#0 committee:k00000000000000000000000000000000000000000000000000000080 abstain" ∷
    codes "23 vote 0000000000000000000000000000000000000000000000000000000000000011#0 drep:k00000000000000000000000000000000000000000000000000000010 yes" ∷
    codes "23 vote 0000000000000000000000000000000000000000000000000000000000000011#0 drep:k00000000000000000000000000000000000000000000000000000030 no" ∷
    codes "23 vote 0000000000000000000000000000000000000000000000000000000000000011#0 drep:k00000000000000000000000000000000000000000000000000000031 abstain" ∷
    codes "23 proposal 0000000000000000000000000000000000000000000000000000000000000026#0 NoConfidence deposit 10 return 1k00000000000000000000000000000000000000000000000000000014 expires 11 previous none" ∷
    codes "23 vote 0000000000000000000000000000000000000000000000000000000000000026#0 pool:00000000000000000000000000000000000000000000000000000010 yes" ∷
    codes "23 vote 0000000000000000000000000000000000000000000000000000000000000026#0 pool:00000000000000000000000000000000000000000000000000000050 no" ∷
    codes "23 snapshot mark 00000000000000000000000000000000000000000000000000000010 1" ∷
    codes "23 snapshot mark 00000000000000000000000000000000000000000000000000000051 5301" ∷
    codes "23 snapshot fees 0" ∷
    codes "23 pending none" ∷
    codes "23 pots outputs 45673 deposits 43 rewards 1 fees 4105 donations 0 treasury 5000 reserves 0 supply 54822" ∷
    []) ≡ true
unfolding digits encode_with
transactions_of_all_parts_2 = refl

abbrev transactions_of_all_parts_3_input : List (ℕ × Reading)
transactions_of_all_parts_3_input =
    (1, Read (records.Genesis (record { network = 1; slot = 50; epoch_length = 10; version = (10, 2); supply = 20218; reserves = 700; treasury = 0; params = (record base_params { min_fee_b = 7; pool_deposit = 50; min_pool_cost = 340; e_max = 0; collateral_percentage = 100; gov_action_lifetime = 6; gov_action_deposit = 0; drep_deposit = 0 }); document = (h32 0x01); script = (Some (h28 0x98)); committee = (Some (record { threshold = (share 1 2); members = (((key 0x70), 0, (Some (key 0x30))) ∷ []) })); outputs = (((ref 0x09 0), (address_with 1 (script 0x03) (Some (key 0x12))), 1248, []) ∷ ((ref 0x09 1), (address_with 1 (key 0x10) None), 1167, []) ∷ ((ref 0x01 2), (address_with 1 (key 0x02) None), 1166, []) ∷ ((ref 0x01 3), (address_with 1 (script 0x03) None), 1643, []) ∷ ((ref 0x01 4), (address_with 1 (key 0x01) (Some (key 0x11))), 864, []) ∷ ((ref 0x09 5), (address_with 1 (key 0x10) (Some (script 0x10))), 5976, []) ∷ ((ref 0x01 6), (address_with 1 (script 0x03) (Some (key 0x14))), 2066, []) ∷ ((ref 0x01 7), (address_with 1 (key 0x01) (Some (script 0x13))), 1652, []) ∷ ((ref 0x09 8), (address_with 1 (key 0x10) None), 1925, []) ∷ []); accounts = (((key 0x30), 2, 800, (Some (pool 0x10)), (Some (drep.Registered (script 0x30)))) ∷ ((key 0x12), 3, 0, None, (Some (drep.Registered (key 0x10)))) ∷ ((key 0x10), 3, 0, None, (Some drep.Abstain)) ∷ ((key 0x11), 3, 0, None, (Some drep.NoConfidence)) ∷ ((key 0x15), 3, 800, (Some (pool 0x51)), (Some drep.Abstain)) ∷ ((key 0x14), 3, 0, (Some (pool 0x51)), (Some (drep.Registered (key 0x30)))) ∷ ((script 0x13), 3, 67, (Some (pool 0x51)), (Some (drep.Registered (script 0x30)))) ∷ []); pools = ((record { pool = (pool 0x51); deposit = 50; cost = 23; pledge = 0; margin = (share 1 9); account = (account_on 1 (key 0x14)); key = None }) ∷ (record { pool = (pool 0x10); deposit = 50; cost = 43; pledge = 0; margin = (share 1 9); account = (account_on 1 (key 0x15)); key = None }) ∷ []); dreps = (((script 0x30), 6, 14) ∷ ((key 0x30), 6, 0) ∷ ((key 0x31), 6, 28) ∷ ((key 0x10), 6, 17) ∷ []) }))) ∷
    (2, Read (records.Tx (record (spend 0x10 553) { inputs = ((ref 0x01 3) ∷ []); outputs = ((paying (address_with 1 (key 0x01) None) 818 0) ∷ (paying (address_with 1 (key 0x10) (Some (key 0x10))) 272 57) ∷ []); size = 96; from = (Some 50); withdrawals = (((account_on 1 (key 0x14)), 0) ∷ []) }))) ∷
    (3, Read (records.Tx (record (spend 0x11 1507) { inputs = ((ref 0x10 0) ∷ (ref 0x09 0) ∷ (ref 0x01 4) ∷ []); outputs = ((paying (address_with 1 (key 0x10) None) 1490 29) ∷ []); size = 11; collateral = ((ref 0x01 2) ∷ []); treasury = (Some 0); withdrawals = (((account_on 1 (script 0x13)), 67) ∷ []); proposals = ((proposing 0 (account_on 1 (key 0x10)) (actions.Info)) ∷ (proposing 0 (account_on 1 (script 0x10)) (actions.HardForkInitiation (Some (action 0x10 0)) (11, 3))) ∷ []) }))) ∷
    (4, Read (records.Tx (record (spend 0x12 7) { inputs = ((ref 0x09 1) ∷ []); outputs = ((paying (address_with 1 (key 0x10) None) 1227 57) ∷ (paying (address_with 1 (script 0x03) None) 0 57) ∷ []); size = 374; until = (Some 59); withdrawals = (((account_on 1 (script 0x13)), 67) ∷ ((account_on 1 (key 0x11)), 0) ∷ []); proposals = ((proposing 0 (account_on 1 (key 0x11)) (actions.NewConstitution None (h32 0x05) None)) ∷ []) }))) ∷
    (5, Read (records.Tx (record (spend 0x13 1270) { inputs = ((ref 0x09 8) ∷ []); outputs = ((paying (address_with 1 (key 0x10) None) 628 65) ∷ []); size = 6; script_fee = 5; from = (Some 49); until = (Some 59); donation = 30; certs = ((certs.AccountUnreg (key 0x12) None) ∷ (certs.AccountReg (script 0x10) (Some 1) (Some (pool 0x50)) (Some drep.Abstain)) ∷ (certs.AccountUnreg (key 0x15) None) ∷ (certs.HotResign (key 0x71)) ∷ []); proposals = ((proposing 0 (account_on 1 (key 0x11)) (actions.NewConstitution None (h32 0x03) None)) ∷ (proposing 0 (account_on 1 (key 0x14)) (actions.Info)) ∷ []); votes = ((voting (voter.Committee (key 0x30)) (action 0x12 0) vote.No) ∷ (voting (voter.Drep (script 0x30)) (action 0x12 0) vote.Yes) ∷ (voting (voter.Committee (key 0x81)) (action 0x12 0) vote.No) ∷ (voting (voter.Drep (script 0x30)) (action 0x12 0) vote.No) ∷ []) }))) ∷
    (6, Read (records.Tx (record (spend 0x14 1543) { inputs = ((ref 0x12 1) ∷ (ref 0x12 1) ∷ (ref 0x10 1) ∷ (ref 0x12 0) ∷ []); outputs = ((paying (address_with 1 (script 0x03) (Some (key 0x14))) 768 65) ∷ []); size = 267; collateral = ((ref 0x10 0) ∷ []); withdrawals = (((account_on 1 (script 0x13)), 0) ∷ ((account_on 1 (key 0x30)), 800) ∷ []); certs = ((certs.DrepUnreg (script 0x30) None) ∷ (certs.Delegate (key 0x12) None (Some (drep.Registered (key 0x31)))) ∷ (certs.Delegate (script 0x13) None (Some (drep.Registered (key 0x10)))) ∷ (certs.HotAuth (key 0x70) (key 0x81)) ∷ (certs.DrepUnreg (key 0x31) (Some 6)) ∷ (certs.DrepReg (script 0x30) None) ∷ (certs.DrepUpdate (script 0x30)) ∷ []) }))) ∷
    (7, Read (records.Tx (record (spend 0x15 16) { inputs = ((ref 0x01 4) ∷ (ref 0x09 8) ∷ []); outputs = ((paying (address_with 1 (key 0x02) (Some (key 0x15))) 2743 65) ∷ (paying (address_with 1 (script 0x03) None) 0 57) ∷ []); size = 11; until = (Some 51); donation = 30; withdrawals = (((account_on 0 (script 0x10)), 7) ∷ []); certs = ((certs.HotResign (key 0x70)) ∷ []); votes = ((voting (voter.Drep (key 0x10)) (action 0x12 0) vote.No) ∷ (voting (voter.Drep (key 0x31)) (action 0x12 0) vote.Yes) ∷ (voting (voter.Drep (script 0x30)) (action 0x12 0) vote.No) ∷ []) }))) ∷
    (8, Read (records.Tx (record (spend 0x16 21) { inputs = ((ref 0x01 4) ∷ (ref 0x09 5) ∷ (ref 0x10 1) ∷ []); outputs = ((paying (address_with 1 (key 0x01) None) 3546 0) ∷ (paying (address_with 1 (script 0x03) None) 1773 65) ∷ (paying (address_with 1 (script 0x03) None) 1773 57) ∷ (paying (address_with 1 (script 0x03) None) 0 65) ∷ []); size = 32; script_fee = 5; scripts = scripts.Passed; from = (Some 50); until = (Some 51); collateral = ((ref 0x01 2) ∷ (ref 0x09 8) ∷ []); collateral_return = (Some (paying (address_with 1 (key 0x01) None) 3070 0)); certs = ((certs.AccountUnreg (key 0x10) None) ∷ (certs.AccountReg (key 0x10) None None None) ∷ (certs.PoolReg (pool 0x52) 339 7 (share 0 1) (account_on 1 (script 0x10)) None) ∷ []); proposals = ((proposing 0 (account_on 1 (key 0x11)) (actions.NewConstitution (Some (action 0x12 0)) (h32 0x07) (Some (h28 0x98)))) ∷ []); votes = ((voting (voter.Drep (key 0x30)) (action 0x12 0) vote.Yes) ∷ (voting (voter.Committee (key 0x30)) (action 0x12 0) vote.Yes) ∷ (voting (voter.Drep (script 0x30)) (action 0x12 0) vote.Abstain) ∷ []) }))) ∷
    (9, Read (records.Tx (record (spend 0x17 7) { inputs = ((ref 0x09 0) ∷ (ref 0x01 4) ∷ []); outputs = ((paying (address_with 1 (script 0x03) None) 1040 65) ∷ (paying (address_with 1 (key 0x02) None) 1041 29) ∷ []); size = 379; treasury = (Some 0); donation = 30; certs = ((certs.Delegate (script 0x13) None (Some (drep.Registered (script 0x30)))) ∷ (certs.DrepUnreg (script 0x30) None) ∷ (certs.DrepReg (script 0x30) None) ∷ (certs.DrepUpdate (script 0x30)) ∷ []); proposals = ((proposing 0 (account_on 1 (script 0x13)) (actions.TreasuryWithdrawals [] (Some (h28 0x98)))) ∷ (proposing 0 (account_on 1 (key 0x11)) (actions.HardForkInitiation None (11, 3))) ∷ (proposing 1 (account_on 1 (key 0x12)) (actions.NewConstitution None (h32 0x02) (Some (h28 0x98)))) ∷ (proposing 0 (account_on 1 (key 0x10)) (actions.TreasuryWithdrawals (((account_on 1 (key 0x14)), 0) ∷ []) (Some (h28 0x98)))) ∷ (proposing 0 (account_on 1 (key 0x11)) (actions.HardForkInitiation None (10, 3))) ∷ []); votes = ((voting (voter.Drep (key 0x30)) (action 0x12 0) vote.No) ∷ []) }))) ∷
    (10, Read (records.Tx (record (spend 0x18 101) { inputs = ((ref 0x10 1) ∷ []); outputs = ((paying (address_with 1 (key 0x01) None) 88 57) ∷ (paying (address_with 1 (key 0x02) (Some (key 0x15))) 89 65) ∷ []); size = 343; script_fee = 5; scripts = scripts.Passed; from = (Some 50); until = (Some 51); collateral = ((ref 0x10 0) ∷ (ref 0x01 7) ∷ (ref 0x09 5) ∷ []); collateral_return = (Some (paying (address_with 1 (key 0x10) None) 8345 29)); treasury = (Some 0); certs = ((certs.DrepUnreg (key 0x30) None) ∷ (certs.AccountUnreg (key 0x30) None) ∷ (certs.DrepReg (key 0x30) None) ∷ []); proposals = ((proposing 0 (account_on 1 (key 0x10)) (actions.ParameterChange None (record no_update { drep_activity = (Some 2) }) (Some (h28 0x98)))) ∷ (proposing 0 (account_on 1 (script 0x13)) (actions.NewConstitution None (h32 0x08) None)) ∷ []); votes = ((voting (voter.Drep (script 0x30)) (action 0x12 0) vote.Yes) ∷ (voting (voter.Drep (key 0x10)) (action 0x12 0) vote.Abstain) ∷ (voting (voter.Drep (script 0x30)) (action 0x12 0) vote.No) ∷ []) }))) ∷
    (11, Read (records.Tx (record (spend 0x01 7) { inputs = ((ref 0x12 1) ∷ (ref 0x09 5) ∷ []); outputs = ((paying (address_with 1 (key 0x02) None) 3387 57) ∷ (paying (address_with 1 (script 0x03) None) 3388 29) ∷ (paying (address_with 1 (key 0x02) (Some (key 0x30))) 0 0) ∷ []); size = 210; scripts = scripts.Passed; from = (Some 50); collateral = ((ref 0x09 5) ∷ []); collateral_return = (Some (paying (address_with 1 (script 0x03) None) 5969 57)); withdrawals = (((account_on 1 (key 0x15)), 800) ∷ []); certs = ((certs.HotAuth (key 0x70) (key 0x80)) ∷ (certs.DrepUnreg (key 0x30) (Some 6)) ∷ []); proposals = ((proposing 0 (account_on 1 (key 0x14)) (actions.TreasuryWithdrawals (((account_on 1 (key 0x14)), 0) ∷ ((account_on 1 (key 0x30)), 99) ∷ []) (Some (h28 0x98)))) ∷ []); votes = ((voting (voter.Committee (key 0x80)) (action 0x12 0) vote.No) ∷ (voting (voter.Drep (key 0x31)) (action 0x12 0) vote.Yes) ∷ (voting (voter.Drep (script 0x30)) (action 0x12 0) vote.Yes) ∷ (voting (voter.Drep (key 0x10)) (action 0x12 0) vote.Yes) ∷ (voting (voter.Drep (key 0x31)) (action 0x12 0) vote.No) ∷ (voting (voter.Committee (key 0x80)) (action 0x12 0) vote.Abstain) ∷ []) }))) ∷
    (12, Read (records.Tx (record (spend 0x20 16) { inputs = ((ref 0x01 4) ∷ (ref 0x12 1) ∷ (ref 0x12 0) ∷ []); outputs = ((paying (address_with 1 (script 0x03) None) 2075 29) ∷ (paying (address_with 1 (key 0x01) (Some (key 0x15))) 0 29) ∷ (paying (address_with 1 (script 0x03) None) 0 65) ∷ (paying (address_with 1 (script 0x03) (Some (key 0x12))) 0 65) ∷ []); size = 246; treasury = (Some 1); proposals = ((proposing 0 (account_on 1 (key 0x11)) (actions.Info)) ∷ (proposing 0 (account_on 1 (key 0x12)) (actions.HardForkInitiation None (10, 3))) ∷ []); votes = ((voting (voter.Drep (key 0x31)) (action 0x12 0) vote.No) ∷ (voting (voter.Drep (key 0x10)) (action 0x12 0) vote.Abstain) ∷ (voting (voter.Drep (script 0x30)) (action 0x12 0) vote.Abstain) ∷ (voting (voter.Drep (key 0x31)) (action 0x12 0) vote.Yes) ∷ (voting (voter.Drep (key 0x10)) (action 0x12 0) vote.Abstain) ∷ (voting (voter.Drep (script 0x30)) (action 0x12 0) vote.Abstain) ∷ []) }))) ∷
    (13, Read (records.Print what.Pots)) ∷
    (14, Read (records.Tx (record (spend 0x21 1247) { inputs = ((ref 0x09 8) ∷ (ref 0x09 31) ∷ (ref 0x01 4) ∷ []); outputs = ((paying (address_with 1 (key 0x01) None) 929 29) ∷ (paying (address_with 1 (key 0x02) (Some (key 0x12))) 619 57) ∷ []); size = 300; scripts = scripts.Passed; until = (Some 51); collateral = ((ref 0x09 5) ∷ []); collateral_return = (Some (paying (address_with 1 (key 0x01) None) 4729 65)); withdrawals = (((account_on 1 (key 0x14)), 0) ∷ []); certs = ((certs.DrepUnreg (script 0x30) None) ∷ (certs.DrepReg (script 0x30) None) ∷ (certs.Delegate (key 0x14) None (Some (drep.Registered (script 0x30)))) ∷ []); proposals = ((proposing 0 (account_on 1 (key 0x15)) (actions.Info)) ∷ (proposing 0 (account_on 1 (script 0x13)) (actions.NoConfidence None)) ∷ (proposing 0 (account_on 1 (key 0x10)) (actions.ParameterChange None (record no_update { drep_voting_thresholds = (Some ((share 67 100) ∷ (share 67 100) ∷ (share 67 100) ∷ (share 67 100) ∷ (share 67 100) ∷ (share 67 100) ∷ (share 67 100) ∷ (share 67 100) ∷ (share 67 100) ∷ (share 67 100) ∷ [])) }) (Some (h28 0x98)))) ∷ []) }))) ∷
    (15, Read (records.Tx (record (spend 0x22 7) { inputs = ((ref 0x12 0) ∷ []); outputs = ((paying (address_with 1 (key 0x10) None) 616 29) ∷ (paying (address_with 1 (key 0x10) (Some (key 0x14))) 308 65) ∷ (paying (address_with 1 (key 0x01) None) 308 0) ∷ (paying (address_with 1 (key 0x10) None) 0 0) ∷ []); size = 173; certs = ((certs.DrepUpdate (key 0x31)) ∷ (certs.DrepUnreg (key 0x31) None) ∷ (certs.DrepUnreg (key 0x10) None) ∷ (certs.Delegate (key 0x12) (Some (pool 0x51)) None) ∷ []); proposals = ((proposing 0 (account_on 1 (key 0x15)) (actions.NewConstitution (Some (action 0x12 0)) (h32 0x03) (Some (h28 0x98)))) ∷ (proposing 0 (account_on 1 (key 0x15)) (actions.Info)) ∷ (proposing 0 (account_on 1 (key 0x30)) (actions.HardForkInitiation (Some (action 0x12 0)) (11, 0))) ∷ (proposing 1 (account_on 1 (script 0x13)) (actions.NewConstitution (Some (action 0x12 0)) (h32 0x00) (Some (h28 0x99)))) ∷ (proposing 0 (account_on 1 (key 0x15)) (actions.HardForkInitiation None (10, 3))) ∷ []); votes = ((voting (voter.Committee (key 0x30)) (action 0x12 0) vote.Abstain) ∷ (voting (voter.Drep (script 0x30)) (action 0x12 0) vote.Abstain) ∷ (voting (voter.Drep (script 0x30)) (action 0x12 0) vote.Yes) ∷ (voting (voter.Pool (pool 0x51)) (action 0x12 0) vote.No) ∷ (voting (voter.Drep (key 0x10)) (action 0x12 0) vote.No) ∷ []) }))) ∷
    (16, Read (records.Tx (record (spend 0x23 398) { inputs = ((ref 0x10 0) ∷ []); outputs = ((paying (address_with 1 (key 0x01) None) 390 57) ∷ []); size = 64; until = (Some 0); donation = 30; proposals = ((proposing 0 (account_on 1 (key 0x30)) (actions.UpdateCommittee None ((script 0x70) ∷ []) (((key 0x72), 10) ∷ ((key 0x71), 4) ∷ ((script 0x70), 5) ∷ []) (share 0 1))) ∷ []) }))) ∷
    (17, Read (records.Tx (record (spend 0x24 16) { inputs = ((ref 0x12 1) ∷ (ref 0x09 8) ∷ []); outputs = ((paying (address_with 1 (key 0x10) None) 1877 29) ∷ (paying (address_with 1 (key 0x10) (Some (key 0x10))) 0 0) ∷ []); size = 48; withdrawals = (((account_on 1 (key 0x14)), 0) ∷ ((account_on 1 (script 0x10)), 7) ∷ []); certs = ((certs.DrepUnreg (key 0x30) None) ∷ (certs.PoolReg (pool 0x50) 345 1 (share 0 1) (account_on 1 (key 0x30)) None) ∷ (certs.DrepUpdate (script 0x30)) ∷ (certs.Delegate (key 0x12) None (Some (drep.Registered (key 0x10)))) ∷ (certs.DrepUnreg (key 0x31) None) ∷ (certs.DrepUnreg (script 0x30) None) ∷ (certs.HotAuth (key 0x70) (key 0x30)) ∷ []); proposals = ((proposing 0 (account_on 1 (key 0x15)) (actions.NewConstitution None (h32 0x08) (Some (h28 0x98)))) ∷ (proposing 0 (account_on 1 (key 0x15)) (actions.NoConfidence None)) ∷ []); votes = ((voting (voter.Committee (key 0x30)) (action 0x12 0) vote.Yes) ∷ (voting (voter.Committee (key 0x30)) (action 0x12 0) vote.Yes) ∷ (voting (voter.Drep (key 0x10)) (action 0x12 0) vote.Abstain) ∷ (voting (voter.Drep (key 0x10)) (action 0x12 0) vote.No) ∷ (voting (voter.Drep (key 0x10)) (action 0x12 0) vote.Abstain) ∷ (voting (voter.Drep (key 0x10)) (action 0x12 0) vote.Abstain) ∷ []) }))) ∷
    (18, Read (records.Print what.Pots)) ∷
    (19, Read (records.Tx (record (spend 0x25 21) { inputs = ((ref 0x10 1) ∷ []); outputs = ((paying (address_with 1 (key 0x10) (Some (key 0x10))) 1051 29) ∷ (paying (address_with 1 (key 0x01) None) 0 29) ∷ []); size = 317; script_fee = 5; scripts = scripts.Failed; until = (Some 51); collateral = ((ref 0x10 0) ∷ (ref 0x01 7) ∷ []); withdrawals = (((account_on 1 (script 0x13)), 0) ∷ ((account_on 1 (key 0x15)), 800) ∷ []); proposals = ((proposing 0 (account_on 1 (key 0x12)) (actions.NoConfidence None)) ∷ (proposing 0 (account_on 1 (key 0x11)) (actions.Info)) ∷ []); votes = ((voting (voter.Drep (key 0x31)) (action 0x12 0) vote.Abstain) ∷ []) }))) ∷
    (20, Read (records.Print what.Pots)) ∷
    (21, Read (records.Tx (record (spend 0x26 7) { inputs = ((ref 0x09 8) ∷ (ref 0x12 0) ∷ []); outputs = ((paying (address_with 1 (key 0x01) (Some (script 0x13))) 3915 57) ∷ (paying (address_with 1 (key 0x10) None) 0 57) ∷ (paying (address_with 1 (key 0x10) (Some (key 0x14))) 0 57) ∷ []); size = 386; treasury = (Some 0); donation = 30; withdrawals = (((account_on 1 (key 0x30)), 800) ∷ ((account_on 1 (key 0x11)), 0) ∷ []); certs = ((certs.PoolRetire (pool 0x52) 5) ∷ []); proposals = ((proposing 0 (account_on 1 (key 0x12)) (actions.NewConstitution (Some (action 0x12 0)) (h32 0x05) (Some (h28 0x99)))) ∷ []); votes = ((voting (voter.Drep (key 0x10)) (action 0x12 0) vote.No) ∷ (voting (voter.Committee (key 0x30)) (action 0x12 0) vote.No) ∷ (voting (voter.Committee (key 0x30)) (action 0x12 0) vote.Yes) ∷ []) }))) ∷
    (22, Read (records.Tx (record (spend 0x27 16) { inputs = ((ref 0x12 1) ∷ (ref 0x01 4) ∷ (ref 0x10 1) ∷ []); outputs = ((paying (address_with 1 (key 0x10) None) 363 57) ∷ (paying (address_with 1 (key 0x01) None) 727 57) ∷ (paying (address_with 1 (script 0x03) (Some (key 0x10))) 0 0) ∷ []); size = 316; from = (Some 49); treasury = (Some 0); donation = 30; withdrawals = (((account_on 1 (key 0x10)), 0) ∷ []); certs = ((certs.PoolReg (pool 0x10) 340 5 (share 0 1) (account_on 1 (script 0x10)) None) ∷ (certs.AccountUnreg (key 0x15) (Some 3)) ∷ []); proposals = ((proposing 0 (account_on 1 (key 0x30)) (actions.ParameterChange None (record no_update { max_tx_ex_units = (Some (1000, 1000)); tau = (Some (share 0 1)); gov_action_deposit = (Some 9); committee_max_term_length = (Some 9) }) (Some (h28 0x98)))) ∷ []); votes = ((voting (voter.Drep (key 0x10)) (action 0x12 0) vote.Yes) ∷ (voting (voter.Drep (key 0x30)) (action 0x12 0) vote.Abstain) ∷ (voting (voter.Drep (key 0x10)) (action 0x12 0) vote.Abstain) ∷ []) }))) ∷
    (23, Read (records.Tx (record (spend 0x28 4032) { inputs = ((ref 0x01 6) ∷ (ref 0x12 1) ∷ (ref 0x09 5) ∷ []); outputs = ((paying (address_with 0 (key 0x01) None) 4010 29) ∷ []); size = 320; script_fee = 5; from = (Some 49); collateral = ((ref 0x01 4) ∷ (ref 0x10 1) ∷ []); treasury = (Some 0); votes = ((voting (voter.Drep (key 0x30)) (action 0x12 0) vote.Abstain) ∷ (voting (voter.Committee (key 0x30)) (action 0x12 0) vote.Abstain) ∷ (voting (voter.Drep (key 0x30)) (action 0x12 0) vote.Abstain) ∷ []) }))) ∷
    (24, Read (records.Tx (record (spend 0x29 7) { inputs = ((ref 0x12 0) ∷ (ref 0x09 8) ∷ (ref 0x01 2) ∷ []); outputs = ((paying (address_with 1 (key 0x10) None) 1421 29) ∷ (paying (address_with 1 (script 0x03) None) 1421 57) ∷ (paying (address_with 1 (script 0x03) (Some (key 0x10))) 1422 29) ∷ (paying (address_with 1 (key 0x10) None) 0 29) ∷ []); size = 209; until = (Some 51); withdrawals = (((account_on 1 (key 0x12)), 0) ∷ []); certs = ((certs.DrepUpdate (key 0x31)) ∷ (certs.Delegate (script 0x13) None (Some (drep.Registered (script 0x30)))) ∷ (certs.PoolReg (pool 0x52) 340 3 (share 0 1) (account_on 1 (key 0x14)) None) ∷ (certs.HotAuth (key 0x70) (key 0x30)) ∷ (certs.PoolReg (pool 0x51) 340 0 (share 1 2) (account_on 1 (key 0x14)) None) ∷ (certs.Delegate (key 0x11) None (Some (drep.Registered (key 0x31)))) ∷ (certs.AccountUnreg (key 0x14) None) ∷ []) }))) ∷
    (25, Read (records.Print what.Pots)) ∷
    (26, Read (records.Print what.State)) ∷
    []

pub transactions_of_all_parts_3 : says_all transactions_of_all_parts_3_input (
    codes "1 genesis outputs 17707 deposits 144 rewards 1667 fees 0 donations 0 treasury 0 reserves 700 supply 20218" ∷
    codes "2 accepted" ∷
    codes "3 refused 82 ReturnAccountUnknown at 1" ∷
    codes "4 accepted" ∷
    codes "5 refused 62 DepositWrong at 1 want 2" ∷
    codes "6 refused 34 InputRepeated at 1" ∷
    codes "7 refused 50 WithdrawalWrongNetwork at 0" ∷
    codes "8 refused 68 PoolCostTooLow at 2 min 340" ∷
    codes "9 refused 87 ZeroWithdrawal at 0" ∷
    codes "10 refused 64 BalanceNotZero at 1 balance 800" ∷
    codes "11 refused 30 TxIdUsed" ∷
    codes "12 refused 45 TreasuryValueWrong is 0" ∷
    codes "13 pots outputs 17214 deposits 144 rewards 1600 fees 560 donations 0 treasury 0 reserves 700 supply 20218" ∷
    codes "14 refused 33 InputMissing at 1" ∷
    codes "15 refused 90 PreviousWrong at 2" ∷
    codes "16 refused 36 OutsideValidity slot 50" ∷
    codes "17 refused 51 WithdrawalNoAccount at 1" ∷
    codes "18 pots outputs 17214 deposits 144 rewards 1600 fees 560 donations 0 treasury 0 reserves 700 supply 20218" ∷
    codes "19 accepted failed-scripts" ∷
    codes "20 pots outputs 14744 deposits 144 rewards 1600 fees 3030 donations 0 treasury 0 reserves 700 supply 20218" ∷
    codes "21 refused 65 PoolUnknown at 0" ∷
    codes "22 refused 64 BalanceNotZero at 1 balance 800" ∷
    codes "23 refused 39 OutputWrongNetwork at 0" ∷
    codes "24 accepted" ∷
    codes "25 pots outputs 14690 deposits 191 rewards 1600 fees 3037 donations 0 treasury 0 reserves 700 supply 20218" ∷
    codes "26 now slot 50 epoch 5 version 10.2 dormant 0" ∷
    codes "26 constitution 0000000000000000000000000000000000000000000000000000000000000001 00000000000000000000000000000000000000000000000000000098" ∷
    codes "26 committee threshold 1/2" ∷
    codes "26 member k00000000000000000000000000000000000000000000000000000070 term 0 hot k00000000000000000000000000000000000000000000000000000030" ∷
    codes "26 enacted committee none constitution none hardfork none parameters none" ∷
    codes "26 param maxBlockBodySize 90112" ∷
    codes "26 param maxTxSize 16384" ∷
    codes "26 param maxBlockHeaderSize 1100" ∷
    codes "26 param maxValueSize 5000" ∷
    codes "26 param maxTxExUnits 1000 1000" ∷
    codes "26 param maxBlockExUnits 1000 1000" ∷
    codes "26 param maxCollateralInputs 3" ∷
    codes "26 param minFeeA 0" ∷
    codes "26 param minFeeB 7" ∷
    codes "26 param keyDeposit 2" ∷
    codes "26 param poolDeposit 50" ∷
    codes "26 param rho 0/1" ∷
    codes "26 param tau 0/1" ∷
    codes "26 param minPoolCost 340" ∷
    codes "26 param coinsPerUTxOByte 0" ∷
    codes "26 param prices 0/1 0/1" ∷
    codes "26 param minFeeRefScriptCostPerByte 15/1" ∷
    codes "26 param a0 0/1" ∷
    codes "26 param eMax 0" ∷
    codes "26 param nOpt 500" ∷
    codes "26 param costModels 0000000000000000000000000000000000000000000000000000000000000000" ∷
    codes "26 param collateralPercentage 100" ∷
    codes "26 param poolVotingThresholds 0/1 0/1 0/1 0/1 0/1" ∷
    codes "26 param drepVotingThresholds 67/100 67/100 67/100 67/100 67/100 67/100 67/100 67/100 67/100 67/100" ∷
    codes "26 param govActionLifetime 6" ∷
    codes "26 param govActionDeposit 0" ∷
    codes "26 param drepDeposit 0" ∷
    codes "26 param drepActivity 20" ∷
    codes "26 param committeeMinSize 0" ∷
    codes "26 param committeeMaxTermLength 100" ∷
    codes "26 drep k00000000000000000000000000000000000000000000000000000010 deposit 6 expiry 17" ∷
    codes "26 drep k00000000000000000000000000000000000000000000000000000030 deposit 6 expiry 0" ∷
    codes "26 drep s00000000000000000000000000000000000000000000000000000030 deposit 6 expiry 14" ∷
    codes "26 drep k00000000000000000000000000000000000000000000000000000031 deposit 6 expiry 25" ∷
    codes "26 pool 00000000000000000000000000000000000000000000000000000010 deposit 50 cost 43 pledge 0 margin 1/9 account 1k00000000000000000000000000000000000000000000000000000015 retires never" ∷
    codes "26 pool 00000000000000000000000000000000000000000000000000000051 deposit 50 cost 23 pledge 0 margin 1/9 account 1k00000000000000000000000000000000000000000000000000000014 retires never" ∷
    codes "26 next 00000000000000000000000000000000000000000000000000000051 cost 340 pledge 0 margin 1/2 account 1k00000000000000000000000000000000000000000000000000000014" ∷
    codes "26 pool 00000000000000000000000000000000000000000000000000000052 deposit 50 cost 340 pledge 3 margin 0/1 account 1k00000000000000000000000000000000000000000000000000000014 retires never" ∷
    codes "26 account k00000000000000000000000000000000000000000000000000000010 stake 1694 deposit 3 rewards 0 pool none drep abstain" ∷
    codes "26 account s00000000000000000000000000000000000000000000000000000010 stake 5976 unregistered" ∷
    codes "26 account k00000000000000000000000000000000000000000000000000000011 stake 864 deposit 3 rewards 0 pool none drep k00000000000000000000000000000000000000000000000000000031" ∷
    codes "26 account k00000000000000000000000000000000000000000000000000000012 stake 1248 deposit 3 rewards 0 pool none drep k00000000000000000000000000000000000000000000000000000010" ∷
    codes "26 account s00000000000000000000000000000000000000000000000000000013 stake 0 deposit 3 rewards 0 pool 00000000000000000000000000000000000000000000000000000051 drep s00000000000000000000000000000000000000000000000000000030" ∷
    codes "26 account k00000000000000000000000000000000000000000000000000000014 stake 2066 unregistered" ∷
    codes "26 account k00000000000000000000000000000000000000000000000000000015 stake 0 deposit 3 rewards 800 pool 00000000000000000000000000000000000000000000000000000051 drep abstain" ∷
    codes "26 account k00000000000000000000000000000000000000000000000000000030 stake 0 deposit 2 rewards 800 pool 00000000000000000000000000000000000000000000000000000010 drep s00000000000000000000000000000000000000000000000000000030" ∷
    codes "26 output 0000000000000000000000000000000000000000000000000000000000000001#4 1k00000000000000000000000000000000000000000000000000000001+k00000000000000000000000000000000000000000000000000000011 864" ∷
    codes "26 output 0000000000000000000000000000000000000000000000000000000000000001#6 1s00000000000000000000000000000000000000000000000000000003+k00000000000000000000000000000000000000000000000000000014 2066" ∷
    codes "26 output 0000000000000000000000000000000000000000000000000000000000000009#0 1s00000000000000000000000000000000000000000000000000000003+k00000000000000000000000000000000000000000000000000000012 1248" ∷
    codes "26 output 0000000000000000000000000000000000000000000000000000000000000009#5 1k00000000000000000000000000000000000000000000000000000010+s00000000000000000000000000000000000000000000000000000010 5976" ∷
    codes "26 output 0000000000000000000000000000000000000000000000000000000000000010#1 1k00000000000000000000000000000000000000000000000000000010+k00000000000000000000000000000000000000000000000000000010 272" ∷
    codes "26 output 0000000000000000000000000000000000000000000000000000000000000012#1 1s00000000000000000000000000000000000000000000000000000003 0" ∷
    codes "26 output 0000000000000000000000000000000000000000000000000000000000000029#0 1k00000000000000000000000000000000000000000000000000000010 1421" ∷
    codes "26 output 0000000000000000000000000000000000000000000000000000000000000029#1 1s00000000000000000000000000000000000000000000000000000003 1421" ∷
    codes "26 output 0000000000000000000000000000000000000000000000000000000000000029#2 1s00000000000000000000000000000000000000000000000000000003+k00000000000000000000000000000000000000000000000000000010 1422" ∷
    codes "26 output 0000000000000000000000000000000000000000000000000000000000000029#3 1k00000000000000000000000000000000000000000000000000000010 0" ∷
    codes "26 proposal 0000000000000000000000000000000000000000000000000000000000000012#0 NewConstitution deposit 0 return 1k00000000000000000000000000000000000000000000000000000011 expires 11 previous none" ∷
    codes "26 snapshot mark 00000000000000000000000000000000000000000000000000000010 800" ∷
    codes "26 snapshot mark 00000000000000000000000000000000000000000000000000000051 4585" ∷
    codes "26 snapshot fees 0" ∷
    codes "26 pending none" ∷
    codes "26 pots outputs 14690 deposits 191 rewards 1600 fees 3037 donations 0 treasury 0 reserves 700 supply 20218" ∷
    []) ≡ true
unfolding digits encode_with
transactions_of_all_parts_3 = refl

abbrev transactions_of_all_parts_4_input : List (ℕ × Reading)
transactions_of_all_parts_4_input =
    (1, Read (records.Genesis (record { network = 1; slot = 50; epoch_length = 10; version = (10, 0); supply = 31168; reserves = 700; treasury = 0; params = (record base_params { max_tx_size = 400; max_collateral_inputs = 0; min_fee_b = 70; pool_deposit = 50; coins_per_utxo_byte = 1; gov_action_lifetime = 6; drep_deposit = 0 }); document = (h32 0x01); script = (Some (h28 0x99)); committee = (Some (record { threshold = (share 1 2); members = (((key 0x70), 6, (Some (script 0x80))) ∷ ((key 0x72), 3, (Some (key 0x80))) ∷ ((key 0x71), 1, None) ∷ ((script 0x70), 2, (Some (key 0x81))) ∷ []) })); outputs = (((ref 0x01 0), (address_with 1 (key 0x02) None), 5081, []) ∷ ((ref 0x01 1), (address_with 1 (key 0x02) None), 3543, []) ∷ ((ref 0x09 2), (address_with 1 (key 0x10) None), 3355, []) ∷ ((ref 0x09 3), (address_with 1 (key 0x10) None), 4600, []) ∷ ((ref 0x01 4), (address_with 1 (key 0x02) None), 596, []) ∷ ((ref 0x09 5), (address_with 1 (key 0x01) None), 1217, []) ∷ ((ref 0x01 6), (address_with 1 (script 0x03) (Some (script 0x10))), 3742, []) ∷ ((ref 0x09 7), (address_with 1 (key 0x01) None), 419, []) ∷ ((ref 0x09 8), (address_with 1 (key 0x01) None), 1273, []) ∷ ((ref 0x01 9), (address_with 1 (script 0x03) None), 2189, []) ∷ ((ref 0x09 10), (address_with 1 (key 0x10) (Some (script 0x10))), 4416, []) ∷ []); accounts = (((script 0x13), 3, 0, None, (Some (drep.Registered (script 0x30)))) ∷ ((key 0x30), 3, 0, None, (Some drep.NoConfidence)) ∷ ((key 0x11), 3, 0, None, (Some drep.Abstain)) ∷ ((key 0x12), 2, 0, (Some (pool 0x52)), (Some drep.NoConfidence)) ∷ []); pools = ((record { pool = (pool 0x10); deposit = 4; cost = 62; pledge = 0; margin = (share 1 9); account = (account_on 1 (key 0x30)); key = None }) ∷ (record { pool = (pool 0x52); deposit = 4; cost = 82; pledge = 0; margin = (share 1 9); account = (account_on 1 (key 0x10)); key = None }) ∷ []); dreps = (((key 0x10), 6, 1) ∷ ((script 0x30), 6, 15) ∷ ((key 0x31), 6, 26) ∷ []) }))) ∷
    (2, Read (records.Tx (record (spend 0x10 70) { inputs = ((ref 0x09 7) ∷ (ref 0x09 3) ∷ []); outputs = ((paying (address_with 1 (key 0x10) (Some (key 0x11))) 4945 0) ∷ []); size = 135; until = (Some 51); treasury = (Some 0); certs = ((certs.DrepUnreg (key 0x31) None) ∷ (certs.DrepReg (key 0x31) None) ∷ (certs.PoolRetire (pool 0x52) 23) ∷ (certs.HotAuth (key 0x70) (key 0x80)) ∷ []); proposals = ((proposing 10 (account_on 1 (script 0x13)) (actions.NoConfidence None)) ∷ []) }))) ∷
    (3, Read (records.Print what.Pots)) ∷
    (4, Read (records.Tx (record (spend 0x11 75) { inputs = ((ref 0x01 0) ∷ (ref 0x09 5) ∷ []); outputs = ((paying (address_with 1 (key 0x10) None) 6143 65) ∷ []); size = 9; script_fee = 5; from = (Some 50); certs = ((certs.PoolReg (pool 0x51) 0 6 (share 0 1) (account_on 1 (key 0x14)) None) ∷ []); proposals = ((proposing 10 (account_on 1 (key 0x12)) (actions.HardForkInitiation None (10, 1))) ∷ (proposing 10 (account_on 1 (script 0x13)) (actions.Info)) ∷ (proposing 10 (account_on 0 (script 0x10)) (actions.TreasuryWithdrawals (((account_on 1 (script 0x10)), 0) ∷ ((account_on 1 (key 0x30)), 0) ∷ []) (Some (h28 0x99)))) ∷ (proposing 10 (account_on 1 (key 0x12)) (actions.NewConstitution None (h32 0x07) (Some (h28 0x99)))) ∷ []); votes = ((voting (voter.Pool (pool 0x52)) (action 0x10 0) vote.Yes) ∷ []) }))) ∷
    (5, Read (records.Tx (record (spend 0x12 70) { inputs = ((ref 0x09 8) ∷ []); outputs = ((paying (address_with 1 (key 0x02) None) 586 29) ∷ (paying (address_with 1 (key 0x10) None) 587 65) ∷ []); size = 386; proposals = ((proposing 10 (account_on 1 (key 0x12)) (actions.Info)) ∷ (proposing 10 (account_on 1 (key 0x11)) (actions.UpdateCommittee (Some (action 0x10 0)) ((script 0x70) ∷ []) [] (share 2 3))) ∷ (proposing 10 (account_on 1 (script 0x13)) (actions.NoConfidence (Some (action 0x10 0)))) ∷ []); votes = ((voting (voter.Committee (key 0x70)) (action 0x10 1) vote.Abstain) ∷ []) }))) ∷
    (6, Read (records.Tx (record (spend 0x13 1685) { inputs = ((ref 0x10 0) ∷ []); outputs = ((paying (address_with 1 (script 0x03) (Some (key 0x10))) 1615 29) ∷ (paying (address_with 1 (key 0x01) None) 1615 65) ∷ []); size = 59; from = (Some 50); until = (Some 59); certs = ((certs.HotAuth (script 0x70) (key 0x30)) ∷ []); proposals = ((proposing 10 (account_on 1 (script 0x13)) (actions.NoConfidence (Some (action 0x10 0)))) ∷ (proposing 10 (account_on 1 (key 0x12)) (actions.UpdateCommittee None [] (((key 0x72), 14) ∷ []) (share 2 3))) ∷ (proposing 10 (account_on 1 (key 0x12)) (actions.UpdateCommittee (Some (action 0x10 0)) ((key 0x70) ∷ []) (((key 0x72), 14) ∷ ((key 0x71), 14) ∷ ((script 0x70), 6) ∷ []) (share 2 3))) ∷ []); votes = ((voting (voter.Pool (pool 0x10)) (action 0x10 0) vote.Yes) ∷ []) }))) ∷
    (7, Read (records.Tx (record (spend 0x14 70) { inputs = ((ref 0x09 8) ∷ (ref 0x01 9) ∷ (ref 0x09 2) ∷ []); outputs = ((paying (address_with 1 (script 0x03) None) 3334 65) ∷ (paying (address_with 1 (script 0x03) None) 3335 29) ∷ []); size = 108; until = (Some 51); treasury = (Some 0); donation = 30; certs = ((certs.PoolReg (pool 0x50) 0 3 (share 0 1) (account_on 1 (script 0x10)) None) ∷ (certs.Delegate (key 0x11) None (Some (drep.Registered (key 0x10)))) ∷ (certs.AccountUnreg (key 0x12) None) ∷ (certs.PoolRetire (pool 0x52) 23) ∷ (certs.PoolRetire (pool 0x10) 6) ∷ (certs.HotResign (script 0x70)) ∷ (certs.PoolReg (pool 0x50) 0 3 (share 1 2) (account_on 1 (script 0x10)) None) ∷ []) }))) ∷
    (8, Read (records.Tx (record (spend 0x15 4096) { inputs = ((ref 0x14 0) ∷ (ref 0x01 6) ∷ (ref 0x01 0) ∷ []); outputs = ((paying (address_with 1 (key 0x01) None) 4025 65) ∷ (paying (address_with 1 (key 0x02) (Some (key 0x15))) 4026 65) ∷ []); size = 79; from = (Some 50); until = (Some 51); certs = ((certs.PoolReg (pool 0x10) 0 7 (share 1 2) (account_on 1 (key 0x12)) None) ∷ (certs.PoolReg (pool 0x52) 0 5 (share 1 2) (account_on 1 (key 0x10)) None) ∷ (certs.DrepUpdate (script 0x30)) ∷ (certs.PoolRetire (pool 0x52) 6) ∷ []); proposals = ((proposing 10 (account_on 1 (key 0x30)) (actions.ParameterChange None (record no_update { max_block_body_size = (Some 9) }) (Some (h28 0x99)))) ∷ []); votes = ((voting (voter.Pool (pool 0x10)) (action 0x13 2) vote.Abstain) ∷ (voting (voter.Pool (pool 0x50)) (action 0x13 0) vote.Yes) ∷ (voting (voter.Drep (script 0x30)) (action 0x13 1) vote.Abstain) ∷ (voting (voter.Pool (pool 0x52)) (action 0x10 0) vote.Yes) ∷ (voting (voter.Pool (pool 0x50)) (action 0x13 0) vote.Yes) ∷ (voting (voter.Drep (key 0x10)) (action 0x13 1) vote.Abstain) ∷ []) }))) ∷
    (9, Read (records.Print what.Pots)) ∷
    (10, Read (records.Tx (record (spend 0x16 70) { inputs = ((ref 0x09 5) ∷ []); outputs = ((paying (address_with 1 (script 0x03) None) 1148 65) ∷ []); size = 186; from = (Some 50); until = (Some 51); withdrawals = (((account_on 1 (key 0x11)), 0) ∷ ((account_on 1 (script 0x13)), 0) ∷ []); certs = ((certs.PoolRetire (pool 0x10) 7) ∷ (certs.PoolReg (pool 0x10) 5 7 (share 0 1) (account_on 1 (key 0x14)) None) ∷ (certs.DrepReg (key 0x30) None) ∷ (certs.PoolReg (pool 0x50) 5 8 (share 0 1) (account_on 1 (key 0x10)) None) ∷ (certs.AccountUnreg (key 0x30) None) ∷ (certs.PoolReg (pool 0x10) 0 5 (share 1 2) (account_on 1 (key 0x14)) None) ∷ (certs.AccountReg (key 0x30) None (Some (pool 0x10)) (Some drep.Abstain)) ∷ []); proposals = ((proposing 10 (account_on 1 (script 0x13)) (actions.ParameterChange (Some (action 0x15 0)) (record no_update { pool_deposit = (Some 1) }) None)) ∷ []); votes = ((voting (voter.Pool (pool 0x50)) (action 0x15 0) vote.Yes) ∷ []) }))) ∷
    (11, Read (records.Tx (record (spend 0x17 75) { inputs = ((ref 0x15 1) ∷ (ref 0x01 1) ∷ (ref 0x09 5) ∷ []); outputs = ((paying (address_with 1 (script 0x03) None) 8701 0) ∷ []); size = 305; script_fee = 5; certs = ((certs.PoolReg (pool 0x10) 0 3 (share 1 2) (account_on 1 (script 0x10)) None) ∷ (certs.AccountReg (key 0x11) None (Some (pool 0x10)) (Some drep.NoConfidence)) ∷ (certs.Delegate (script 0x13) None (Some (drep.Registered (key 0x30)))) ∷ []); proposals = ((proposing 10 (account_on 1 (script 0x13)) (actions.Info)) ∷ []) }))) ∷
    (12, Read (records.Tx (record (spend 0x18 70) { inputs = ((ref 0x09 5) ∷ []); outputs = ((paying (address_with 1 (key 0x10) None) 563 65) ∷ (paying (address_with 1 (key 0x10) None) 564 0) ∷ []); size = 366; treasury = (Some 0); certs = ((certs.HotAuth (key 0x72) (script 0x80)) ∷ []); proposals = ((proposing 10 (account_on 1 (script 0x13)) (actions.ParameterChange None (record no_update { drep_deposit = (Some 2) }) (Some (h28 0x99)))) ∷ (proposing 10 (account_on 1 (script 0x13)) (actions.Info)) ∷ []); votes = ((voting (voter.Pool (pool 0x52)) (action 0x13 0) vote.Yes) ∷ (voting (voter.Drep (script 0x30)) (action 0x15 0) vote.Yes) ∷ (voting (voter.Drep (key 0x31)) (action 0x10 0) vote.Abstain) ∷ []) }))) ∷
    (13, Read (records.Tx (record (spend 0x19 1374) { inputs = ((ref 0x15 0) ∷ (ref 0x14 1) ∷ (ref 0x18 0) ∷ []); outputs = ((paying (address_with 1 (key 0x10) None) 3910 57) ∷ (paying (address_with 1 (key 0x01) None) 1303 57) ∷ (paying (address_with 1 (script 0x03) None) 1304 65) ∷ []); size = 381; withdrawals = (((account_on 1 (script 0x13)), 0) ∷ []); certs = ((certs.AccountReg (key 0x10) None None (Some drep.Abstain)) ∷ (certs.Delegate (key 0x10) None (Some (drep.Registered (script 0x30)))) ∷ []); proposals = ((proposing 10 (account_on 1 (key 0x30)) (actions.ParameterChange (Some (action 0x18 0)) (record no_update { min_pool_cost = (Some 0) }) (Some (h28 0x99)))) ∷ (proposing 10 (account_on 1 (key 0x30)) (actions.NewConstitution None (h32 0x06) (Some (h28 0x99)))) ∷ (proposing 10 (account_on 1 (key 0x10)) (actions.Info)) ∷ []); votes = ((voting (voter.Drep (key 0x31)) (action 0x13 1) vote.Yes) ∷ (voting (voter.Committee (key 0x80)) (action 0x18 1) vote.Abstain) ∷ (voting (voter.Drep (key 0x31)) (action 0x18 1) vote.No) ∷ []) }))) ∷
    (14, Read (records.Tx (record (spend 0x20 70) { inputs = ((ref 0x19 0) ∷ []); outputs = ((paying (address_with 1 (key 0x10) None) 1906 57) ∷ (paying (address_with 1 (key 0x10) (Some (key 0x12))) 1907 0) ∷ []); size = 123; from = (Some 50); donation = 30; certs = ((certs.DrepUpdate (script 0x30)) ∷ (certs.Delegate (key 0x11) (Some (pool 0x10)) (Some (drep.Registered (script 0x30)))) ∷ (certs.HotAuth (key 0x72) (key 0x30)) ∷ (certs.AccountUnreg (key 0x11) None) ∷ []) }))) ∷
    (15, Read (records.Tx (record (spend 0x21 70) { inputs = ((ref 0x09 10) ∷ []); outputs = ((paying (address_with 1 (key 0x02) (Some (key 0x14))) 4316 65) ∷ []); size = 133; from = (Some 49); donation = 30; certs = ((certs.DrepUpdate (key 0x30)) ∷ []) }))) ∷
    (16, Read (records.Tx (record (spend 0x22 536) { inputs = ((ref 0x01 4) ∷ []); size = 177; until = (Some 51); donation = 30; withdrawals = (((account_on 1 (script 0x13)), 0) ∷ []); certs = ((certs.DrepReg (key 0x30) None) ∷ (certs.DrepUpdate (key 0x30)) ∷ []); proposals = ((proposing 10 (account_on 1 (key 0x10)) (actions.ParameterChange None (record no_update { pool_voting_thresholds = (Some ((share 0 1) ∷ (share 0 1) ∷ (share 0 1) ∷ (share 0 1) ∷ (share 0 1) ∷ [])) }) (Some (h28 0x99)))) ∷ (proposing 10 (account_on 1 (script 0x13)) (actions.NewConstitution None (h32 0x03) (Some (h28 0x99)))) ∷ (proposing 10 (account_on 1 (key 0x30)) (actions.TreasuryWithdrawals (((account_on 1 (key 0x10)), 99) ∷ []) (Some (h28 0x99)))) ∷ (proposing 10 (account_on 1 (key 0x14)) (actions.HardForkInitiation None (12, 0))) ∷ []); votes = ((voting (voter.Committee (script 0x80)) (action 0x22 1) vote.Abstain) ∷ (voting (voter.Drep (key 0x30)) (action 0x13 1) vote.Abstain) ∷ (voting (voter.Committee (key 0x30)) (action 0x19 2) vote.No) ∷ (voting (voter.Drep (script 0x30)) (action 0x18 0) vote.No) ∷ []) }))) ∷
    (17, Read (records.Tx (record (spend 0x23 871) { inputs = ((ref 0x19 2) ∷ []); outputs = ((paying (address_with 1 (key 0x10) None) 393 0) ∷ []); size = 156; script_fee = 5; donation = 30; certs = ((certs.HotAuth (key 0x70) (key 0x30)) ∷ []); proposals = ((proposing 10 (account_on 1 (key 0x30)) (actions.NoConfidence (Some (action 0x13 1)))) ∷ []) }))) ∷
    (18, Read (records.Tx (record (spend 0x24 1026) { inputs = ((ref 0x13 1) ∷ (ref 0x01 4) ∷ []); outputs = ((paying (address_with 1 (key 0x02) None) 716 57) ∷ (paying (address_with 1 (script 0x03) (Some (key 0x30))) 477 65) ∷ []); size = 353; withdrawals = (((account_on 1 (script 0x13)), 0) ∷ ((account_on 1 (key 0x30)), 0) ∷ []); certs = ((certs.DrepUnreg (script 0x30) (Some 6)) ∷ (certs.HotResign (key 0x72)) ∷ (certs.DrepReg (script 0x30) (Some 0)) ∷ (certs.AccountUnreg (key 0x10) (Some 2)) ∷ []); votes = ((voting (voter.Pool (pool 0x52)) (action 0x10 0) vote.Abstain) ∷ (voting (voter.Drep (key 0x10)) (action 0x18 0) vote.No) ∷ (voting (voter.Committee (key 0x30)) (action 0x18 1) vote.No) ∷ (voting (voter.Drep (key 0x31)) (action 0x13 2) vote.Abstain) ∷ (voting (voter.Pool (pool 0x50)) (action 0x19 2) vote.No) ∷ (voting (voter.Pool (pool 0x10)) (action 0x10 0) vote.Yes) ∷ []) }))) ∷
    (19, Read (records.Tx (record (spend 0x25 333) { inputs = ((ref 0x24 1) ∷ (ref 0x18 1) ∷ (ref 0x24 0) ∷ []); outputs = ((paying (address_with 1 (key 0x01) (Some (key 0x10))) 787 0) ∷ (paying (address_with 1 (key 0x01) None) 262 29) ∷ (paying (address_with 1 (script 0x03) None) 263 0) ∷ []); size = 231; from = (Some 49); donation = 30; certs = ((certs.PoolReg (pool 0x51) 0 7 (share 0 1) (account_on 1 (key 0x30)) None) ∷ (certs.DrepUnreg (script 0x30) None) ∷ (certs.AccountReg (key 0x15) None (Some (pool 0x10)) (Some (drep.Registered (key 0x10)))) ∷ (certs.PoolRetire (pool 0x50) 6) ∷ (certs.DrepUpdate (key 0x10)) ∷ (certs.HotResign (key 0x70)) ∷ (certs.PoolReg (pool 0x51) 0 3 (share 0 1) (account_on 1 (key 0x15)) None) ∷ []); proposals = ((proposing 10 (account_on 1 (script 0x13)) (actions.Info)) ∷ (proposing 10 (account_on 1 (key 0x30)) (actions.NewConstitution None (h32 0x01) None)) ∷ (proposing 10 (account_on 1 (key 0x30)) (actions.NoConfidence None)) ∷ []) }))) ∷
    (20, Read (records.Tx (record (spend 0x26 1056) { inputs = ((ref 0x20 1) ∷ (ref 0x23 0) ∷ []); outputs = ((paying (address_with 1 (script 0x03) None) 188 29) ∷ (paying (address_with 1 (key 0x02) None) 488 65) ∷ []); size = 282; certs = ((certs.DrepUnreg (key 0x10) (Some 6)) ∷ []); proposals = ((proposing 10 (account_on 1 (key 0x30)) (actions.NoConfidence (Some (action 0x13 2)))) ∷ (proposing 10 (account_on 1 (key 0x15)) (actions.Info)) ∷ (proposing 10 (account_on 1 (key 0x30)) (actions.NewConstitution None (h32 0x03) (Some (h28 0x99)))) ∷ []); votes = ((voting (voter.Drep (key 0x31)) (action 0x23 0) vote.No) ∷ (voting (voter.Pool (pool 0x50)) (action 0x23 0) vote.Yes) ∷ (voting (voter.Pool (pool 0x52)) (action 0x19 2) vote.No) ∷ (voting (voter.Pool (pool 0x51)) (action 0x18 1) vote.Yes) ∷ (voting (voter.Drep (key 0x31)) (action 0x18 1) vote.No) ∷ (voting (voter.Pool (pool 0x52)) (action 0x25 0) vote.Abstain) ∷ []) }))) ∷
    (21, Read (records.Tx (record (spend 0x27 79) { inputs = ((ref 0x19 1) ∷ (ref 0x01 1) ∷ (ref 0x25 0) ∷ []); outputs = ((paying (address_with 1 (key 0x01) (Some (key 0x15))) 2775 65) ∷ (paying (address_with 1 (key 0x10) None) 2775 57) ∷ []); size = 401; from = (Some 49); until = (Some 59); treasury = (Some 0); certs = ((certs.DrepUnreg (key 0x10) (Some 6)) ∷ (certs.PoolRetire (pool 0x10) 23) ∷ []); proposals = ((proposing 10 (account_on 1 (script 0x13)) (actions.NoConfidence None)) ∷ []); votes = ((voting (voter.Pool (pool 0x50)) (action 0x18 1) vote.Yes) ∷ (voting (voter.Pool (pool 0x51)) (action 0x13 0) vote.Yes) ∷ (voting (voter.Drep (key 0x31)) (action 0x13 0) vote.No) ∷ (voting (voter.Drep (key 0x31)) (action 0x18 0) vote.Abstain) ∷ (voting (voter.Pool (pool 0x51)) (action 0x18 1) vote.No) ∷ (voting (voter.Pool (pool 0x50)) (action 0x19 2) vote.Abstain) ∷ []) }))) ∷
    (22, Read (records.Tx (record (spend 0x28 70) { inputs = ((ref 0x25 1) ∷ (ref 0x01 1) ∷ []); outputs = ((paying (address_with 1 (script 0x03) None) 1235 57) ∷ (paying (address_with 1 (key 0x01) None) 2472 0) ∷ []); size = 324; until = (Some 59); withdrawals = (((account_on 1 (script 0x13)), 1) ∷ []); certs = ((certs.DrepUpdate (key 0x10)) ∷ (certs.AccountUnreg (key 0x15) None) ∷ []); proposals = ((proposing 10 (account_on 1 (script 0x13)) (actions.NoConfidence (Some (action 0x23 0)))) ∷ (proposing 10 (account_on 1 (key 0x30)) (actions.Info)) ∷ (proposing 10 (account_on 1 (key 0x30)) (actions.NewConstitution (Some (action 0x19 1)) (h32 0x01) (Some (h28 0x99)))) ∷ []); votes = ((voting (voter.Pool (pool 0x51)) (action 0x25 0) vote.Yes) ∷ (voting (voter.Pool (pool 0x52)) (action 0x13 0) vote.No) ∷ (voting (voter.Pool (pool 0x52)) (action 0x10 0) vote.No) ∷ (voting (voter.Drep (key 0x31)) (action 0x23 0) vote.Yes) ∷ (voting (voter.Drep (key 0x31)) (action 0x10 0) vote.Yes) ∷ (voting (voter.Pool (pool 0x50)) (action 0x18 1) vote.Yes) ∷ []) }))) ∷
    (23, Read (records.Tx (record (spend 0x29 2971) { inputs = ((ref 0x09 10) ∷ []); outputs = ((paying (address_with 1 (script 0x03) (Some (key 0x10))) 1443 57) ∷ []); size = 41; script_fee = 5; certs = ((certs.AccountReg (key 0x10) None None None) ∷ (certs.AccountUnreg (key 0x10) None) ∷ (certs.AccountReg (key 0x10) None None None) ∷ []) }))) ∷
    (24, Read (records.Print what.Pots)) ∷
    (25, Read (records.Print what.State)) ∷
    []

pub transactions_of_all_parts_4 : says_all transactions_of_all_parts_4_input (
    codes "1 genesis outputs 30431 deposits 37 rewards 0 fees 0 donations 0 treasury 0 reserves 700 supply 31168" ∷
    codes "2 accepted" ∷
    codes "3 pots outputs 30357 deposits 41 rewards 0 fees 70 donations 0 treasury 0 reserves 700 supply 31168" ∷
    codes "4 refused 81 ReturnWrongNetwork at 2" ∷
    codes "5 refused 100 ActionUnknown at 0" ∷
    codes "6 accepted" ∷
    codes "7 accepted" ∷
    codes "8 accepted" ∷
    codes "9 pots outputs 24388 deposits 129 rewards 0 fees 5921 donations 30 treasury 0 reserves 700 supply 31168" ∷
    codes "10 refused 84 PolicyWrong at 0" ∷
    codes "11 refused 60 AccountRegistered at 1" ∷
    codes "12 accepted" ∷
    codes "13 accepted" ∷
    codes "14 accepted" ∷
    codes "15 refused 66 DrepUnknown at 0" ∷
    codes "16 refused 82 ReturnAccountUnknown at 3" ∷
    codes "17 accepted" ∷
    codes "18 accepted" ∷
    codes "19 accepted" ∷
    codes "20 refused 38 OutputTooSmall at 0 min 189" ∷
    codes "21 refused 35 TxTooLarge max 400" ∷
    codes "22 refused 53 WithdrawalNotWhole at 0 balance 0" ∷
    codes "23 accepted" ∷
    codes "24 pots outputs 17448 deposits 264 rewards 0 fees 12636 donations 120 treasury 0 reserves 700 supply 31168" ∷
    codes "25 now slot 50 epoch 5 version 10.0 dormant 0" ∷
    codes "25 constitution 0000000000000000000000000000000000000000000000000000000000000001 00000000000000000000000000000000000000000000000000000099" ∷
    codes "25 committee threshold 1/2" ∷
    codes "25 member k00000000000000000000000000000000000000000000000000000070 term 6 hot resigned" ∷
    codes "25 member s00000000000000000000000000000000000000000000000000000070 term 2 hot resigned" ∷
    codes "25 member k00000000000000000000000000000000000000000000000000000071 term 1 hot none" ∷
    codes "25 member k00000000000000000000000000000000000000000000000000000072 term 3 hot resigned" ∷
    codes "25 enacted committee none constitution none hardfork none parameters none" ∷
    codes "25 param maxBlockBodySize 90112" ∷
    codes "25 param maxTxSize 400" ∷
    codes "25 param maxBlockHeaderSize 1100" ∷
    codes "25 param maxValueSize 5000" ∷
    codes "25 param maxTxExUnits 1000 1000" ∷
    codes "25 param maxBlockExUnits 1000 1000" ∷
    codes "25 param maxCollateralInputs 0" ∷
    codes "25 param minFeeA 0" ∷
    codes "25 param minFeeB 70" ∷
    codes "25 param keyDeposit 2" ∷
    codes "25 param poolDeposit 50" ∷
    codes "25 param rho 0/1" ∷
    codes "25 param tau 0/1" ∷
    codes "25 param minPoolCost 0" ∷
    codes "25 param coinsPerUTxOByte 1" ∷
    codes "25 param prices 0/1 0/1" ∷
    codes "25 param minFeeRefScriptCostPerByte 15/1" ∷
    codes "25 param a0 0/1" ∷
    codes "25 param eMax 18" ∷
    codes "25 param nOpt 500" ∷
    codes "25 param costModels 0000000000000000000000000000000000000000000000000000000000000000" ∷
    codes "25 param collateralPercentage 150" ∷
    codes "25 param poolVotingThresholds 0/1 0/1 0/1 0/1 0/1" ∷
    codes "25 param drepVotingThresholds 67/100 67/100 67/100 67/100 67/100 67/100 67/100 67/100 67/100 67/100" ∷
    codes "25 param govActionLifetime 6" ∷
    codes "25 param govActionDeposit 10" ∷
    codes "25 param drepDeposit 0" ∷
    codes "25 param drepActivity 20" ∷
    codes "25 param committeeMinSize 0" ∷
    codes "25 param committeeMaxTermLength 100" ∷
    codes "25 drep k00000000000000000000000000000000000000000000000000000010 deposit 6 expiry 25" ∷
    codes "25 drep k00000000000000000000000000000000000000000000000000000031 deposit 0 expiry 25" ∷
    codes "25 pool 00000000000000000000000000000000000000000000000000000010 deposit 4 cost 62 pledge 0 margin 1/9 account 1k00000000000000000000000000000000000000000000000000000030 retires never" ∷
    codes "25 next 00000000000000000000000000000000000000000000000000000010 cost 0 pledge 7 margin 1/2 account 1k00000000000000000000000000000000000000000000000000000012" ∷
    codes "25 pool 00000000000000000000000000000000000000000000000000000050 deposit 50 cost 0 pledge 3 margin 0/1 account 1s00000000000000000000000000000000000000000000000000000010 retires 6" ∷
    codes "25 next 00000000000000000000000000000000000000000000000000000050 cost 0 pledge 3 margin 1/2 account 1s00000000000000000000000000000000000000000000000000000010" ∷
    codes "25 pool 00000000000000000000000000000000000000000000000000000051 deposit 50 cost 0 pledge 7 margin 0/1 account 1k00000000000000000000000000000000000000000000000000000030 retires never" ∷
    codes "25 next 00000000000000000000000000000000000000000000000000000051 cost 0 pledge 3 margin 0/1 account 1k00000000000000000000000000000000000000000000000000000015" ∷
    codes "25 pool 00000000000000000000000000000000000000000000000000000052 deposit 4 cost 82 pledge 0 margin 1/9 account 1k00000000000000000000000000000000000000000000000000000010 retires 6" ∷
    codes "25 next 00000000000000000000000000000000000000000000000000000052 cost 0 pledge 5 margin 1/2 account 1k00000000000000000000000000000000000000000000000000000010" ∷
    codes "25 account k00000000000000000000000000000000000000000000000000000010 stake 3845 deposit 2 rewards 0 pool none drep none" ∷
    codes "25 account k00000000000000000000000000000000000000000000000000000012 stake 1907 unregistered" ∷
    codes "25 account s00000000000000000000000000000000000000000000000000000013 stake 0 deposit 3 rewards 0 pool none drep none" ∷
    codes "25 account k00000000000000000000000000000000000000000000000000000015 stake 4026 deposit 2 rewards 0 pool 00000000000000000000000000000000000000000000000000000010 drep k00000000000000000000000000000000000000000000000000000010" ∷
    codes "25 account k00000000000000000000000000000000000000000000000000000030 stake 0 deposit 3 rewards 0 pool none drep no-confidence" ∷
    codes "25 output 0000000000000000000000000000000000000000000000000000000000000001#1 1k00000000000000000000000000000000000000000000000000000002 3543" ∷
    codes "25 output 0000000000000000000000000000000000000000000000000000000000000013#0 1s00000000000000000000000000000000000000000000000000000003+k00000000000000000000000000000000000000000000000000000010 1615" ∷
    codes "25 output 0000000000000000000000000000000000000000000000000000000000000015#1 1k00000000000000000000000000000000000000000000000000000002+k00000000000000000000000000000000000000000000000000000015 4026" ∷
    codes "25 output 0000000000000000000000000000000000000000000000000000000000000019#1 1k00000000000000000000000000000000000000000000000000000001 1303" ∷
    codes "25 output 0000000000000000000000000000000000000000000000000000000000000020#0 1k00000000000000000000000000000000000000000000000000000010 1906" ∷
    codes "25 output 0000000000000000000000000000000000000000000000000000000000000020#1 1k00000000000000000000000000000000000000000000000000000010+k00000000000000000000000000000000000000000000000000000012 1907" ∷
    codes "25 output 0000000000000000000000000000000000000000000000000000000000000023#0 1k00000000000000000000000000000000000000000000000000000010 393" ∷
    codes "25 output 0000000000000000000000000000000000000000000000000000000000000025#0 1k00000000000000000000000000000000000000000000000000000001+k00000000000000000000000000000000000000000000000000000010 787" ∷
    codes "25 output 0000000000000000000000000000000000000000000000000000000000000025#1 1k00000000000000000000000000000000000000000000000000000001 262" ∷
    codes "25 output 0000000000000000000000000000000000000000000000000000000000000025#2 1s00000000000000000000000000000000000000000000000000000003 263" ∷
    codes "25 output 0000000000000000000000000000000000000000000000000000000000000029#0 1s00000000000000000000000000000000000000000000000000000003+k00000000000000000000000000000000000000000000000000000010 1443" ∷
    codes "25 proposal 0000000000000000000000000000000000000000000000000000000000000010#0 NoConfidence deposit 10 return 1s00000000000000000000000000000000000000000000000000000013 expires 11 previous none" ∷
    codes "25 vote 0000000000000000000000000000000000000000000000000000000000000010#0 drep:k00000000000000000000000000000000000000000000000000000031 abstain" ∷
    codes "25 vote 0000000000000000000000000000000000000000000000000000000000000010#0 pool:00000000000000000000000000000000000000000000000000000010 yes" ∷
    codes "25 vote 0000000000000000000000000000000000000000000000000000000000000010#0 pool:00000000000000000000000000000000000000000000000000000052 abstain" ∷
    codes "25 proposal 0000000000000000000000000000000000000000000000000000000000000013#0 NoConfidence deposit 10 return 1s00000000000000000000000000000000000000000000000000000013 expires 11 previous 0000000000000000000000000000000000000000000000000000000000000010#0" ∷
    codes "25 vote 0000000000000000000000000000000000000000000000000000000000000013#0 pool:00000000000000000000000000000000000000000000000000000050 yes" ∷
    codes "25 vote 0000000000000000000000000000000000000000000000000000000000000013#0 pool:00000000000000000000000000000000000000000000000000000052 yes" ∷
    codes "25 proposal 0000000000000000000000000000000000000000000000000000000000000013#1 UpdateCommittee deposit 10 return 1k00000000000000000000000000000000000000000000000000000012 expires 11 previous none" ∷
    codes "25 vote 0000000000000000000000000000000000000000000000000000000000000013#1 drep:k00000000000000000000000000000000000000000000000000000010 abstain" ∷
    codes "25 vote 0000000000000000000000000000000000000000000000000000000000000013#1 drep:k00000000000000000000000000000000000000000000000000000031 yes" ∷
    codes "25 proposal 0000000000000000000000000000000000000000000000000000000000000013#2 UpdateCommittee deposit 10 return 1k00000000000000000000000000000000000000000000000000000012 expires 11 previous 0000000000000000000000000000000000000000000000000000000000000010#0" ∷
    codes "25 vote 0000000000000000000000000000000000000000000000000000000000000013#2 drep:k00000000000000000000000000000000000000000000000000000031 abstain" ∷
    codes "25 vote 0000000000000000000000000000000000000000000000000000000000000013#2 pool:00000000000000000000000000000000000000000000000000000010 abstain" ∷
    codes "25 proposal 0000000000000000000000000000000000000000000000000000000000000015#0 ParameterChange deposit 10 return 1k00000000000000000000000000000000000000000000000000000030 expires 11 previous none" ∷
    codes "25 proposal 0000000000000000000000000000000000000000000000000000000000000018#0 ParameterChange deposit 10 return 1s00000000000000000000000000000000000000000000000000000013 expires 11 previous none" ∷
    codes "25 vote 0000000000000000000000000000000000000000000000000000000000000018#0 drep:k00000000000000000000000000000000000000000000000000000010 no" ∷
    codes "25 proposal 0000000000000000000000000000000000000000000000000000000000000018#1 Info deposit 10 return 1s00000000000000000000000000000000000000000000000000000013 expires 11 previous none" ∷
    codes "25 vote 0000000000000000000000000000000000000000000000000000000000000018#1 committee:k00000000000000000000000000000000000000000000000000000030 no" ∷
    codes "25 vote 0000000000000000000000000000000000000000000000000000000000000018#1 committee:k00000000000000000000000000000000000000000000000000000080 abstain" ∷
    codes "25 vote 0000000000000000000000000000000000000000000000000000000000000018#1 drep:k00000000000000000000000000000000000000000000000000000031 no" ∷
    codes "25 proposal 0000000000000000000000000000000000000000000000000000000000000019#0 ParameterChange deposit 10 return 1k00000000000000000000000000000000000000000000000000000030 expires 11 previous 0000000000000000000000000000000000000000000000000000000000000018#0" ∷
    codes "25 proposal 0000000000000000000000000000000000000000000000000000000000000019#1 NewConstitution deposit 10 return 1k00000000000000000000000000000000000000000000000000000030 expires 11 previous none" ∷
    codes "25 proposal 0000000000000000000000000000000000000000000000000000000000000019#2 Info deposit 10 return 1k00000000000000000000000000000000000000000000000000000010 expires 11 previous none" ∷
    codes "25 vote 0000000000000000000000000000000000000000000000000000000000000019#2 pool:00000000000000000000000000000000000000000000000000000050 no" ∷
    codes "25 proposal 0000000000000000000000000000000000000000000000000000000000000023#0 NoConfidence deposit 10 return 1k00000000000000000000000000000000000000000000000000000030 expires 11 previous 0000000000000000000000000000000000000000000000000000000000000013#1" ∷
    codes "25 proposal 0000000000000000000000000000000000000000000000000000000000000025#0 Info deposit 10 return 1s00000000000000000000000000000000000000000000000000000013 expires 11 previous none" ∷
    codes "25 proposal 0000000000000000000000000000000000000000000000000000000000000025#1 NewConstitution deposit 10 return 1k00000000000000000000000000000000000000000000000000000030 expires 11 previous none" ∷
    codes "25 proposal 0000000000000000000000000000000000000000000000000000000000000025#2 NoConfidence deposit 10 return 1k00000000000000000000000000000000000000000000000000000030 expires 11 previous none" ∷
    codes "25 snapshot mark 00000000000000000000000000000000000000000000000000000010 0" ∷
    codes "25 snapshot mark 00000000000000000000000000000000000000000000000000000052 0" ∷
    codes "25 snapshot fees 0" ∷
    codes "25 pending none" ∷
    codes "25 pots outputs 17448 deposits 264 rewards 0 fees 12636 donations 120 treasury 0 reserves 700 supply 31168" ∷
    []) ≡ true
unfolding digits encode_with
transactions_of_all_parts_4 = refl
