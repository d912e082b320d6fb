-- Worked rows of whole streams: more made transactions of all parts. Made by tests/made/rows_of, from the streams of these names in tests/streams/whole.
use Rattle.std.specs.Prelude.{ℕ, ◌≡◌, List, [], ◌∷◌, Some, None, true, false, codes, refl}
use Rattle.std.specs.Fmt.{digits}
use Rattle.hex.specs.Hex.{encode_with}
use Rattle.gov_actions.specs.declared.action.Action.TheVariants as actions
use Rattle.gov_actions.specs.declared.action.Vote.TheVariants as vote
use Rattle.gov_ids.specs.declared.Drep.TheVariants as drep
use Rattle.gov_ids.specs.declared.Voter.TheVariants as voter
use Rattle.tx_records.specs.declared.record.Record.TheVariants as records
use Rattle.tx_records.specs.declared.record.What.TheVariants as what
use Rattle.tx_records.specs.declared.cert.Cert.TheVariants as certs
use Rattle.tx_records.specs.declared.tx.Scripts.TheVariants as scripts
use Rattle.tx_records.specs.declared.record.Reading.{Reading}
use Rattle.tx_records.specs.declared.record.Reading.TheVariants.{Read}
use Rattle.ledger_rows.proofs.Base.{h28, h32, key, script, pool, account_on, address_with, ref, action, share, base_params, no_update, spend, paying, proposing, voting, says_all}

abbrev transactions_of_all_parts_5_input : List (ℕ × Reading)
transactions_of_all_parts_5_input =
    (1, Read (records.Genesis (record { network = 1; slot = 5; epoch_length = 10; version = (11, 1); supply = 63556; reserves = 0; treasury = 0; params = (record base_params { max_tx_size = 400; min_fee_b = 70; key_deposit = 20; pool_deposit = 50; min_pool_cost = 340; coins_per_utxo_byte = 1; e_max = 0; collateral_percentage = 0; gov_action_lifetime = 0; gov_action_deposit = 0 }); document = (h32 0x01); script = None; committee = (Some (record { threshold = (share 1 2); members = (((script 0x70), 7, (Some (key 0x80))) ∷ ((key 0x72), 7, (Some (key 0x80))) ∷ ((key 0x70), 4, (Some (key 0x70))) ∷ []) })); outputs = (((ref 0x09 0), (address_with 1 (script 0x03) None), 5295, []) ∷ ((ref 0x09 1), (address_with 1 (script 0x03) None), 5393, []) ∷ ((ref 0x01 2), (address_with 1 (key 0x01) None), 3984, []) ∷ ((ref 0x01 3), (address_with 1 (key 0x02) None), 1477, []) ∷ ((ref 0x09 4), (address_with 1 (script 0x03) (Some (key 0x10))), 2136, []) ∷ ((ref 0x01 5), (address_with 1 (script 0x03) (Some (script 0x10))), 4058, []) ∷ ((ref 0x01 6), (address_with 1 (key 0x01) None), 2676, []) ∷ ((ref 0x01 7), (address_with 1 (key 0x10) None), 1591, []) ∷ ((ref 0x01 8), (address_with 1 (script 0x03) None), 1670, []) ∷ ((ref 0x01 9), (address_with 1 (key 0x01) None), 1237, []) ∷ ((ref 0x09 10), (address_with 1 (key 0x01) None), 3046, []) ∷ ((ref 0x09 11), (address_with 1 (key 0x01) (Some (script 0x13))), 5302, []) ∷ ((ref 0x01 12), (address_with 1 (key 0x01) (Some (key 0x11))), 2764, []) ∷ ((ref 0x09 13), (address_with 1 (key 0x01) None), 4192, []) ∷ ((ref 0x09 14), (address_with 1 (key 0x01) None), 3091, []) ∷ ((ref 0x09 15), (address_with 1 (key 0x10) None), 817, []) ∷ ((ref 0x01 16), (address_with 1 (key 0x02) (Some (script 0x13))), 4438, []) ∷ ((ref 0x01 17), (address_with 1 (key 0x02) (Some (key 0x11))), 4320, []) ∷ ((ref 0x09 18), (address_with 1 (key 0x10) None), 5913, []) ∷ []); accounts = (((key 0x15), 3, 0, (Some (pool 0x51)), (Some drep.NoConfidence)) ∷ ((key 0x11), 3, 67, None, (Some (drep.Registered (key 0x31)))) ∷ ((script 0x10), 3, 1, None, None) ∷ ((key 0x14), 3, 67, (Some (pool 0x51)), (Some drep.Abstain)) ∷ []); pools = ((record { pool = (pool 0x51); deposit = 4; cost = 11; pledge = 0; margin = (share 1 9); account = (account_on 1 (key 0x10)); key = None }) ∷ []); dreps = (((key 0x31), 5, 8) ∷ []) }))) ∷
    (2, Read (records.Tx (record (spend 0x10 306) { inputs = ((ref 0x09 4) ∷ []); outputs = ((paying (address_with 1 (script 0x03) (Some (key 0x30))) 1017 65) ∷ (paying (address_with 1 (key 0x02) (Some (key 0x11))) 339 65) ∷ (paying (address_with 1 (key 0x10) None) 226 29) ∷ (paying (address_with 1 (key 0x01) None) 226 65) ∷ []); size = 119; until = (Some 6); certs = ((certs.HotResign (script 0x70)) ∷ (certs.DrepReg (script 0x30) (Some 5)) ∷ (certs.AccountReg (script 0x13) None None (Some drep.NoConfidence)) ∷ (certs.PoolReg (pool 0x51) 345 0 (share 1 2) (account_on 1 (key 0x12)) None) ∷ (certs.HotAuth (key 0x72) (key 0x81)) ∷ (certs.AccountUnreg (key 0x15) None) ∷ (certs.HotResign (key 0x70)) ∷ []); proposals = ((proposing 0 (account_on 1 (key 0x11)) (actions.Info)) ∷ []) }))) ∷
    (3, Read (records.Tx (record (spend 0x11 79) { inputs = ((ref 0x09 1) ∷ (ref 0x01 2) ∷ []); outputs = ((paying (address_with 1 (key 0x02) (Some (key 0x15))) 4657 65) ∷ (paying (address_with 1 (script 0x03) None) 2329 29) ∷ (paying (address_with 1 (key 0x01) None) 2329 29) ∷ []); size = 237; until = (Some 14); withdrawals = (((account_on 1 (key 0x14)), 67) ∷ []); certs = ((certs.DrepUpdate (key 0x31)) ∷ (certs.DrepReg (key 0x10) None) ∷ (certs.DrepUnreg (script 0x30) None) ∷ (certs.PoolReg (pool 0x10) 340 4 (share 0 1) (account_on 1 (key 0x11)) None) ∷ []); proposals = ((proposing 0 (account_on 1 (script 0x10)) (actions.UpdateCommittee None ((script 0x70) ∷ []) (((script 0x70), 0) ∷ ((key 0x71), 9) ∷ []) (share 0 1))) ∷ []) }))) ∷
    (4, Read (records.Tx (record (spend 0x12 18446744073709551615) { inputs = ((ref 0x10 1) ∷ []); size = 338; script_fee = 5; scripts = scripts.Failed; until = (Some 14); collateral = ((ref 0x09 10) ∷ (ref 0x09 13) ∷ (ref 0x10 1) ∷ []); withdrawals = (((account_on 1 (key 0x11)), 67) ∷ []); certs = ((certs.HotResign (key 0x72)) ∷ (certs.DrepUpdate (script 0x30)) ∷ (certs.PoolReg (pool 0x10) 340 3 (share 0 1) (account_on 1 (key 0x14)) None) ∷ (certs.DrepReg (key 0x30) None) ∷ (certs.PoolReg (pool 0x10) 340 2 (share 1 2) (account_on 1 (script 0x10)) None) ∷ (certs.Delegate (script 0x13) None (Some (drep.Registered (script 0x30)))) ∷ (certs.DrepUnreg (key 0x30) None) ∷ []); proposals = ((proposing 0 (account_on 1 (script 0x13)) (actions.TreasuryWithdrawals (((account_on 1 (script 0x13)), 5) ∷ []) None)) ∷ (proposing 0 (account_on 1 (key 0x14)) (actions.NoConfidence None)) ∷ []); votes = ((voting (voter.Drep (key 0x31)) (action 0x10 0) vote.No) ∷ []) }))) ∷
    (5, Read (records.Tx (record (spend 0x13 851) { inputs = ((ref 0x01 9) ∷ []); outputs = ((paying (address_with 1 (script 0x03) None) 387 57) ∷ []); size = 134; script_fee = 5; withdrawals = (((account_on 1 (script 0x10)), 1) ∷ []); certs = ((certs.HotResign (key 0x71)) ∷ []); proposals = ((proposing 0 (account_on 1 (script 0x13)) (actions.Info)) ∷ (proposing 0 (account_on 1 (key 0x11)) (actions.NewConstitution None (h32 0x05) None)) ∷ (proposing 0 (account_on 1 (key 0x11)) (actions.NewConstitution None (h32 0x08) (Some (h28 0x98)))) ∷ []); votes = ((voting (voter.Committee (key 0x81)) (action 0x10 0) vote.Abstain) ∷ (voting (voter.Drep (key 0x31)) (action 0x10 0) vote.No) ∷ (voting (voter.Drep (key 0x31)) (action 0x10 0) vote.No) ∷ (voting (voter.Drep (key 0x31)) (action 0x10 0) vote.Yes) ∷ (voting (voter.Pool (pool 0x51)) (action 0x10 0) vote.No) ∷ (voting (voter.Drep (script 0x30)) (action 0x10 0) vote.No) ∷ []) }))) ∷
    (6, Read (records.Tx (record (spend 0x14 768) { inputs = ((ref 0x01 8) ∷ []); outputs = ((paying (address_with 1 (key 0x10) (Some (key 0x15))) 523 0) ∷ (paying (address_with 1 (key 0x01) None) 349 29) ∷ []); size = 241; from = (Some 5); treasury = (Some 0); donation = 30; certs = ((certs.DrepReg (key 0x10) None) ∷ (certs.DrepUnreg (key 0x10) None) ∷ []); proposals = ((proposing 0 (account_on 1 (script 0x10)) (actions.Info)) ∷ (proposing 0 (account_on 1 (script 0x13)) (actions.ParameterChange None (record no_update { max_block_body_size = (Some 2) }) None)) ∷ []); votes = ((voting (voter.Drep (key 0x31)) (action 0x10 0) vote.No) ∷ (voting (voter.Drep (key 0x31)) (action 0x10 0) vote.Yes) ∷ (voting (voter.Committee (key 0x81)) (action 0x10 0) vote.Abstain) ∷ (voting (voter.Committee (key 0x81)) (action 0x10 0) vote.Yes) ∷ (voting (voter.Drep (script 0x30)) (action 0x10 0) vote.Abstain) ∷ (voting (voter.Pool (pool 0x51)) (action 0x10 0) vote.Abstain) ∷ []) }))) ∷
    (7, Read (records.Tx (record (spend 0x15 75) { inputs = ((ref 0x14 0) ∷ (ref 0x09 1) ∷ []); outputs = ((paying (address_with 1 (key 0x02) None) 5791 0) ∷ []); size = 341; script_fee = 5; until = (Some 14); certs = ((certs.PoolReg (pool 0x52) 339 6 (share 1 2) (account_on 1 (key 0x15)) None) ∷ (certs.PoolReg (pool 0x52) 400 1 (share 0 1) (account_on 1 (key 0x14)) None) ∷ []); proposals = ((proposing 0 (account_on 1 (key 0x11)) (actions.Info)) ∷ (proposing 0 (account_on 1 (key 0x11)) (actions.TreasuryWithdrawals [] None)) ∷ []) }))) ∷
    (8, Read (records.Tx (record (spend 0x16 1664) { inputs = ((ref 0x01 9) ∷ (ref 0x09 14) ∷ (ref 0x14 0) ∷ []); outputs = ((paying (address_with 1 (script 0x03) None) 2390 65) ∷ (paying (address_with 1 (key 0x10) None) 797 29) ∷ []); size = 29; from = (Some 4); proposals = ((proposing 0 (account_on 1 (script 0x13)) (actions.Info)) ∷ (proposing 0 (account_on 1 (script 0x13)) (actions.Info)) ∷ (proposing 0 (account_on 1 (key 0x11)) (actions.UpdateCommittee None [] (((key 0x71), 5) ∷ ((script 0x70), 0) ∷ []) (share 2 3))) ∷ (proposing 0 (account_on 1 (script 0x10)) (actions.NoConfidence None)) ∷ []); votes = ((voting (voter.Drep (key 0x31)) (action 0x10 0) vote.Abstain) ∷ []) }))) ∷
    (9, Read (records.Tx (record (spend 0x17 3751) { inputs = ((ref 0x09 1) ∷ (ref 0x10 2) ∷ []); outputs = ((paying (address_with 1 (key 0x10) (Some (key 0x30))) 1838 29) ∷ []); size = 356; script_fee = 5; from = (Some 4); donation = 30 }))) ∷
    (10, Read (records.Tx (record (spend 0x18 4378) { inputs = ((ref 0x01 9) ∷ (ref 0x09 11) ∷ []); outputs = ((paying (address_with 1 (script 0x03) None) 2153 65) ∷ []); size = 234; from = (Some 4); until = (Some 14); collateral = ((ref 0x09 15) ∷ (ref 0x01 12) ∷ (ref 0x09 11) ∷ (ref 0x14 0) ∷ []); donation = 30; withdrawals = (((account_on 1 (key 0x11)), 67) ∷ []); certs = ((certs.DrepUpdate (script 0x30)) ∷ (certs.PoolReg (pool 0x50) 345 1 (share 1 2) (account_on 1 (key 0x14)) None) ∷ (certs.HotAuth (key 0x72) (key 0x70)) ∷ (certs.DrepUpdate (script 0x30)) ∷ (certs.PoolReg (pool 0x50) 340 6 (share 0 1) (account_on 1 (key 0x15)) None) ∷ (certs.DrepUnreg (key 0x31) None) ∷ (certs.DrepUpdate (script 0x30)) ∷ []); proposals = ((proposing 0 (account_on 1 (script 0x10)) (actions.Info)) ∷ (proposing 0 (account_on 1 (script 0x13)) (actions.ParameterChange None no_update None)) ∷ []) }))) ∷
    (11, Read (records.Tx (record (spend 0x19 79) { inputs = ((ref 0x01 12) ∷ (ref 0x10 3) ∷ (ref 0x09 18) ∷ []); outputs = ((paying (address_with 1 (key 0x10) (Some (key 0x15))) 4479 0) ∷ (paying (address_with 1 (key 0x10) (Some (key 0x14))) 4479 57) ∷ []); size = 64; witnessed = false; scripts = scripts.Passed; from = (Some 4); until = (Some 6); collateral = ((ref 0x01 9) ∷ (ref 0x17 0) ∷ []); treasury = (Some 0); withdrawals = (((account_on 1 (key 0x11)), 67) ∷ ((account_on 1 (key 0x14)), 67) ∷ []); proposals = ((proposing 0 (account_on 1 (script 0x13)) (actions.NewConstitution None (h32 0x08) None)) ∷ (proposing 0 (account_on 1 (key 0x14)) (actions.UpdateCommittee None ((key 0x70) ∷ []) [] (share 2 3))) ∷ []); votes = ((voting (voter.Drep (script 0x30)) (action 0x10 0) vote.No) ∷ (voting (voter.Drep (script 0x30)) (action 0x14 0) vote.Yes) ∷ (voting (voter.Drep (key 0x31)) (action 0x10 0) vote.No) ∷ (voting (voter.Pool (pool 0x51)) (action 0x14 0) vote.Yes) ∷ (voting (voter.Pool (pool 0x51)) (action 0x10 0) vote.Yes) ∷ (voting (voter.Committee (key 0x81)) (action 0x14 1) vote.Abstain) ∷ []) }))) ∷
    (12, Read (records.Tx (record (spend 0x20 3000) { inputs = ((ref 0x01 9) ∷ (ref 0x01 16) ∷ (ref 0x09 14) ∷ []); outputs = ((paying (address_with 1 (key 0x01) None) 4372 57) ∷ (paying (address_with 1 (script 0x03) None) 1457 57) ∷ []); size = 383; script_fee = 5; until = (Some 6); withdrawals = (((account_on 1 (script 0x10)), 1) ∷ ((account_on 1 (key 0x14)), 67) ∷ []); certs = ((certs.DrepReg (key 0x10) None) ∷ (certs.DrepUpdate (key 0x10)) ∷ []); proposals = ((proposing 0 (account_on 1 (script 0x10)) (actions.ParameterChange (Some (action 0x14 1)) (record no_update { min_pool_cost = (Some 2); e_max = (Some 1); n_opt = (Some 1); pool_voting_thresholds = (Some ((share 0 1) ∷ (share 0 1) ∷ (share 0 1) ∷ (share 0 1) ∷ (share 0 1) ∷ [])) }) None)) ∷ (proposing 0 (account_on 1 (key 0x11)) (actions.NoConfidence None)) ∷ (proposing 0 (account_on 1 (script 0x13)) (actions.NoConfidence None)) ∷ []) }))) ∷
    (13, Read (records.Tx (record (spend 0x21 75) { inputs = ((ref 0x01 6) ∷ (ref 0x10 3) ∷ (ref 0x10 0) ∷ []); outputs = ((paying (address_with 1 (key 0x10) None) 1874 29) ∷ (paying (address_with 1 (script 0x03) (Some (key 0x14))) 1875 0) ∷ []); size = 367; script_fee = 5; from = (Some 5); withdrawals = (((account_on 1 (key 0x14)), 0) ∷ []); certs = ((certs.HotResign (key 0x72)) ∷ (certs.Delegate (script 0x13) None (Some (drep.Registered (script 0x30)))) ∷ (certs.PoolReg (pool 0x50) 340 1 (share 0 1) (account_on 1 (script 0x13)) None) ∷ (certs.PoolReg (pool 0x51) 340 4 (share 0 1) (account_on 1 (key 0x14)) None) ∷ (certs.DrepUnreg (script 0x30) None) ∷ (certs.PoolReg (pool 0x10) 345 6 (share 0 1) (account_on 1 (key 0x14)) None) ∷ (certs.PoolReg (pool 0x10) 340 1 (share 0 1) (account_on 1 (key 0x10)) None) ∷ (certs.HotResign (key 0x72)) ∷ []); proposals = ((proposing 0 (account_on 1 (key 0x11)) (actions.ParameterChange (Some (action 0x20 0)) (record no_update { max_value_size = (Some 2) }) None)) ∷ (proposing 0 (account_on 1 (key 0x14)) (actions.UpdateCommittee None ((key 0x70) ∷ (script 0x70) ∷ []) (((script 0x70), 9) ∷ ((key 0x72), 9) ∷ []) (share 0 1))) ∷ []); votes = ((voting (voter.Pool (pool 0x51)) (action 0x10 0) vote.No) ∷ []) }))) ∷
    (14, Read (records.Tx (record (spend 0x22 79) { inputs = ((ref 0x09 15) ∷ (ref 0x01 2) ∷ []); outputs = ((paying (address_with 1 (key 0x02) (Some (script 0x10))) 2411 65) ∷ (paying (address_with 1 (key 0x01) None) 2411 29) ∷ []); size = 325; withdrawals = (((account_on 1 (key 0x11)), 67) ∷ ((account_on 1 (script 0x10)), 0) ∷ []); certs = ((certs.DrepUnreg (key 0x31) (Some 4)) ∷ (certs.AccountUnreg (key 0x11) None) ∷ (certs.DrepUnreg (script 0x30) (Some 5)) ∷ (certs.DrepUnreg (key 0x10) None) ∷ (certs.Delegate (script 0x10) None (Some drep.NoConfidence)) ∷ (certs.HotResign (key 0x71)) ∷ (certs.DrepUnreg (key 0x31) (Some 5)) ∷ (certs.AccountUnreg (script 0x13) None) ∷ (certs.DrepReg (key 0x30) None) ∷ []); proposals = ((proposing 0 (account_on 1 (key 0x14)) (actions.Info)) ∷ []) }))) ∷
    (15, Read (records.Print what.Pots)) ∷
    (16, Read (records.Tx (record (spend 0x23 176) { inputs = ((ref 0x10 3) ∷ []); size = 66; script_fee = 5; scripts = scripts.Failed; until = (Some 14); collateral = ((ref 0x01 12) ∷ (ref 0x09 11) ∷ (ref 0x20 0) ∷ []); collateral_return = (Some (paying (address_with 1 (key 0x01) None) 12438 65)); certs = ((certs.PoolReg (pool 0x52) 400 1 (share 0 1) (account_on 1 (script 0x13)) None) ∷ (certs.PoolReg (pool 0x52) 500 1 (share 0 1) (account_on 1 (script 0x13)) None) ∷ (certs.Delegate (script 0x13) (Some (pool 0x52)) None) ∷ (certs.PoolReg (pool 0x52) 400 1 (share 0 1) (account_on 1 (script 0x13)) None) ∷ []); proposals = ((proposing 0 (account_on 1 (script 0x13)) (actions.NewConstitution None (h32 0x05) (Some (h28 0x99)))) ∷ []); votes = ((voting (voter.Pool (pool 0x51)) (action 0x20 2) vote.No) ∷ (voting (voter.Drep (key 0x31)) (action 0x20 0) vote.No) ∷ (voting (voter.Drep (key 0x31)) (action 0x20 2) vote.No) ∷ (voting (voter.Drep (key 0x31)) (action 0x20 1) vote.Yes) ∷ (voting (voter.Pool (pool 0x51)) (action 0x10 0) vote.Yes) ∷ (voting (voter.Drep (script 0x30)) (action 0x23 2) vote.Abstain) ∷ (voting (voter.Drep (key 0x10)) (action 0x14 1) vote.Yes) ∷ []) }))) ∷
    (17, Read (records.Tx (record (spend 0x24 444) { inputs = ((ref 0x09 15) ∷ []); outputs = ((paying (address_with 1 (script 0x03) (Some (script 0x13))) 373 65) ∷ []); size = 202; withdrawals = (((account_on 1 (script 0x10)), 0) ∷ []); certs = ((certs.Delegate (script 0x10) None (Some (drep.Registered (key 0x31)))) ∷ (certs.DrepUnreg (key 0x31) None) ∷ (certs.DrepReg (key 0x31) None) ∷ (certs.DrepUpdate (key 0x31)) ∷ []); proposals = ((proposing 0 (account_on 1 (script 0x13)) (actions.Info)) ∷ (proposing 0 (account_on 1 (key 0x11)) (actions.NewConstitution None (h32 0x07) None)) ∷ []); votes = ((voting (voter.Drep (script 0x30)) (action 0x20 0) vote.Abstain) ∷ (voting (voter.Drep (key 0x31)) (action 0x20 2) vote.Abstain) ∷ (voting (voter.Committee (key 0x81)) (action 0x14 0) vote.No) ∷ []) }))) ∷
    (18, Read (records.Print what.Pots)) ∷
    (19, Read (records.Tx (record (spend 0x25 75) { inputs = ((ref 0x10 0) ∷ []); outputs = ((paying (address_with 1 (key 0x02) None) 912 65) ∷ []); size = 2; script_fee = 5; until = (Some 6); donation = 30; withdrawals = (((account_on 1 (script 0x10)), 0) ∷ []); certs = ((certs.DrepUpdate (key 0x31)) ∷ []); proposals = ((proposing 0 (account_on 1 (script 0x10)) (actions.Info)) ∷ (proposing 0 (account_on 1 (script 0x10)) (actions.NoConfidence (Some (action 0x20 1)))) ∷ []); votes = ((voting (voter.Committee (key 0x81)) (action 0x14 1) vote.Abstain) ∷ []) }))) ∷
    (20, Read (records.Tx (record (spend 0x26 79) { inputs = ((ref 0x25 0) ∷ []); outputs = ((paying (address_with 1 (key 0x10) None) 758 29) ∷ []); size = 12; from = (Some 4); donation = 30; certs = ((certs.DrepReg (script 0x30) None) ∷ (certs.PoolReg (pool 0x51) 340 6 (share 1 2) (account_on 1 (key 0x11)) None) ∷ (certs.PoolReg (pool 0x10) 340 2 (share 0 1) (account_on 1 (key 0x14)) None) ∷ (certs.DrepUnreg (key 0x10) (Some 5)) ∷ (certs.DrepUpdate (key 0x31)) ∷ (certs.DrepReg (key 0x10) (Some 5)) ∷ (certs.DrepUnreg (script 0x30) None) ∷ (certs.DrepUpdate (key 0x31)) ∷ []); votes = ((voting (voter.Drep (key 0x30)) (action 0x25 0) vote.Yes) ∷ (voting (voter.Pool (pool 0x10)) (action 0x25 1) vote.Yes) ∷ []) }))) ∷
    (21, Read (records.Tx (record (spend 0x27 79) { inputs = ((ref 0x24 0) ∷ (ref 0x10 3) ∷ (ref 0x01 6) ∷ []); outputs = ((paying (address_with 1 (key 0x01) (Some (key 0x30))) 1598 0) ∷ (paying (address_with 1 (key 0x02) None) 1598 65) ∷ []); size = 244; withdrawals = (((account_on 1 (key 0x14)), 0) ∷ ((account_on 1 (script 0x10)), 0) ∷ []); certs = ((certs.PoolReg (pool 0x51) 340 4 (share 1 2) (account_on 1 (key 0x10)) None) ∷ []); proposals = ((proposing 0 (account_on 1 (key 0x14)) (actions.UpdateCommittee (Some (action 0x20 2)) [] (((key 0x71), 5) ∷ []) (share 0 1))) ∷ []) }))) ∷
    (22, Read (records.Tx (record (spend 0x28 70) { inputs = []; outputs = ((paying (address_with 1 (script 0x03) (Some (key 0x15))) 3551 0) ∷ (paying (address_with 1 (script 0x03) None) 3552 65) ∷ []); size = 190; from = (Some 5); until = (Some 14); certs = ((certs.Delegate (key 0x14) None (Some (drep.Registered (key 0x31)))) ∷ (certs.DrepUnreg (key 0x31) None) ∷ (certs.DrepReg (key 0x31) None) ∷ (certs.DrepUpdate (key 0x31)) ∷ []); votes = ((voting (voter.Pool (pool 0x51)) (action 0x20 2) vote.Yes) ∷ (voting (voter.Pool (pool 0x51)) (action 0x27 0) vote.No) ∷ (voting (voter.Drep (key 0x10)) (action 0x24 1) vote.Yes) ∷ []) }))) ∷
    (23, Read (records.Print what.Pots)) ∷
    (24, Read (records.Tx (record (spend 0x29 76) { inputs = ((ref 0x01 17) ∷ []); outputs = ((paying (address_with 1 (key 0x01) (Some (key 0x14))) 2122 65) ∷ (paying (address_with 1 (key 0x02) None) 2123 57) ∷ []); size = 84; script_fee = 5; from = (Some 5); withdrawals = (((account_on 1 (script 0x10)), 0) ∷ ((account_on 1 (key 0x14)), 0) ∷ []); proposals = ((proposing 0 (account_on 1 (key 0x11)) (actions.NoConfidence (Some (action 0x20 2)))) ∷ []); votes = ((voting (voter.Drep (key 0x10)) (action 0x20 2) vote.Abstain) ∷ []) }))) ∷
    (25, Read (records.Print what.Pots)) ∷
    (26, Read (records.Print what.State)) ∷
    []

pub transactions_of_all_parts_5 : says_all transactions_of_all_parts_5_input (
    codes "1 genesis outputs 63400 deposits 21 rewards 135 fees 0 donations 0 treasury 0 reserves 0 supply 63556" ∷
    codes "2 accepted" ∷
    codes "3 refused 88 ConflictingUpdate at 0" ∷
    codes "4 accepted failed-scripts" ∷
    codes "5 refused 71 ColdKeyUnknown at 0" ∷
    codes "6 accepted" ∷
    codes "7 refused 68 PoolCostTooLow at 0 min 340" ∷
    codes "8 refused 89 TermTooSmall at 2" ∷
    codes "9 accepted" ∷
    codes "10 refused 40 TooManyCollateral max 3" ∷
    codes "11 refused 31 NotWitnessed" ∷
    codes "12 accepted" ∷
    codes "13 refused 72 ColdKeyResigned at 7" ∷
    codes "14 refused 63 RefundWrong at 0 want 5" ∷
    codes "15 pots outputs 47979 deposits 48 rewards 67 fees 15402 donations 60 treasury 0 reserves 0 supply 63556" ∷
    codes "16 accepted failed-scripts" ∷
    codes "17 accepted" ∷
    codes "18 pots outputs 47535 deposits 48 rewards 67 fees 15846 donations 60 treasury 0 reserves 0 supply 63556" ∷
    codes "19 accepted" ∷
    codes "20 refused 67 DrepRegistered at 0" ∷
    codes "21 accepted" ∷
    codes "22 refused 32 NoInputs" ∷
    codes "23 pots outputs 47351 deposits 48 rewards 67 fees 16000 donations 90 treasury 0 reserves 0 supply 63556" ∷
    codes "24 refused 110 NotBalanced consumed 4320 produced 4321" ∷
    codes "25 pots outputs 47351 deposits 48 rewards 67 fees 16000 donations 90 treasury 0 reserves 0 supply 63556" ∷
    codes "26 now slot 5 epoch 0 version 11.1 dormant 0" ∷
    codes "26 constitution 0000000000000000000000000000000000000000000000000000000000000001 none" ∷
    codes "26 committee threshold 1/2" ∷
    codes "26 member k00000000000000000000000000000000000000000000000000000070 term 4 hot resigned" ∷
    codes "26 member s00000000000000000000000000000000000000000000000000000070 term 7 hot resigned" ∷
    codes "26 member k00000000000000000000000000000000000000000000000000000072 term 7 hot k00000000000000000000000000000000000000000000000000000081" ∷
    codes "26 enacted committee none constitution none hardfork none parameters none" ∷
    codes "26 param maxBlockBodySize 90112" ∷
    codes "26 param maxTxSize 400" ∷
    codes "26 param maxBlockHeaderSize 1100" ∷
    codes "26 param maxValueSize 5000" ∷
    codes "26 param maxTxExUnits 1000 1000" ∷
    codes "26 param maxBlockExUnits 1000 1000" ∷
    codes "26 param maxCollateralInputs 3" ∷
    codes "26 param minFeeA 0" ∷
    codes "26 param minFeeB 70" ∷
    codes "26 param keyDeposit 20" ∷
    codes "26 param poolDeposit 50" ∷
    codes "26 param rho 0/1" ∷
    codes "26 param tau 0/1" ∷
    codes "26 param minPoolCost 340" ∷
    codes "26 param coinsPerUTxOByte 1" ∷
    codes "26 param prices 0/1 0/1" ∷
    codes "26 param minFeeRefScriptCostPerByte 15/1" ∷
    codes "26 param a0 0/1" ∷
    codes "26 param eMax 0" ∷
    codes "26 param nOpt 500" ∷
    codes "26 param costModels 0000000000000000000000000000000000000000000000000000000000000000" ∷
    codes "26 param collateralPercentage 0" ∷
    codes "26 param poolVotingThresholds 0/1 0/1 0/1 0/1 0/1" ∷
    codes "26 param drepVotingThresholds 67/100 67/100 67/100 67/100 67/100 67/100 67/100 67/100 67/100 67/100" ∷
    codes "26 param govActionLifetime 0" ∷
    codes "26 param govActionDeposit 0" ∷
    codes "26 param drepDeposit 5" ∷
    codes "26 param drepActivity 20" ∷
    codes "26 param committeeMinSize 0" ∷
    codes "26 param committeeMaxTermLength 100" ∷
    codes "26 drep k00000000000000000000000000000000000000000000000000000010 deposit 5 expiry 20" ∷
    codes "26 drep s00000000000000000000000000000000000000000000000000000030 deposit 5 expiry 20" ∷
    codes "26 drep k00000000000000000000000000000000000000000000000000000031 deposit 5 expiry 20" ∷
    codes "26 pool 00000000000000000000000000000000000000000000000000000051 deposit 4 cost 11 pledge 0 margin 1/9 account 1k00000000000000000000000000000000000000000000000000000010 retires never" ∷
    codes "26 next 00000000000000000000000000000000000000000000000000000051 cost 340 pledge 4 margin 1/2 account 1k00000000000000000000000000000000000000000000000000000010" ∷
    codes "26 account s00000000000000000000000000000000000000000000000000000010 stake 4058 deposit 3 rewards 0 pool none drep none" ∷
    codes "26 account k00000000000000000000000000000000000000000000000000000011 stake 4320 deposit 3 rewards 67 pool none drep none" ∷
    codes "26 account s00000000000000000000000000000000000000000000000000000013 stake 0 deposit 20 rewards 0 pool none drep no-confidence" ∷
    codes "26 account k00000000000000000000000000000000000000000000000000000014 stake 0 deposit 3 rewards 0 pool 00000000000000000000000000000000000000000000000000000051 drep abstain" ∷
    codes "26 account k00000000000000000000000000000000000000000000000000000015 stake 523 unregistered" ∷
    codes "26 account k00000000000000000000000000000000000000000000000000000030 stake 3436 unregistered" ∷
    codes "26 output 0000000000000000000000000000000000000000000000000000000000000001#2 1k00000000000000000000000000000000000000000000000000000001 3984" ∷
    codes "26 output 0000000000000000000000000000000000000000000000000000000000000001#3 1k00000000000000000000000000000000000000000000000000000002 1477" ∷
    codes "26 output 0000000000000000000000000000000000000000000000000000000000000001#5 1s00000000000000000000000000000000000000000000000000000003+s00000000000000000000000000000000000000000000000000000010 4058" ∷
    codes "26 output 0000000000000000000000000000000000000000000000000000000000000001#7 1k00000000000000000000000000000000000000000000000000000010 1591" ∷
    codes "26 output 0000000000000000000000000000000000000000000000000000000000000001#17 1k00000000000000000000000000000000000000000000000000000002+k00000000000000000000000000000000000000000000000000000011 4320" ∷
    codes "26 output 0000000000000000000000000000000000000000000000000000000000000009#0 1s00000000000000000000000000000000000000000000000000000003 5295" ∷
    codes "26 output 0000000000000000000000000000000000000000000000000000000000000009#18 1k00000000000000000000000000000000000000000000000000000010 5913" ∷
    codes "26 output 0000000000000000000000000000000000000000000000000000000000000014#0 1k00000000000000000000000000000000000000000000000000000010+k00000000000000000000000000000000000000000000000000000015 523" ∷
    codes "26 output 0000000000000000000000000000000000000000000000000000000000000014#1 1k00000000000000000000000000000000000000000000000000000001 349" ∷
    codes "26 output 0000000000000000000000000000000000000000000000000000000000000017#0 1k00000000000000000000000000000000000000000000000000000010+k00000000000000000000000000000000000000000000000000000030 1838" ∷
    codes "26 output 0000000000000000000000000000000000000000000000000000000000000020#1 1s00000000000000000000000000000000000000000000000000000003 1457" ∷
    codes "26 output 0000000000000000000000000000000000000000000000000000000000000023#0 1k00000000000000000000000000000000000000000000000000000001 12438" ∷
    codes "26 output 0000000000000000000000000000000000000000000000000000000000000025#0 1k00000000000000000000000000000000000000000000000000000002 912" ∷
    codes "26 output 0000000000000000000000000000000000000000000000000000000000000027#0 1k00000000000000000000000000000000000000000000000000000001+k00000000000000000000000000000000000000000000000000000030 1598" ∷
    codes "26 output 0000000000000000000000000000000000000000000000000000000000000027#1 1k00000000000000000000000000000000000000000000000000000002 1598" ∷
    codes "26 proposal 0000000000000000000000000000000000000000000000000000000000000010#0 Info deposit 0 return 1k00000000000000000000000000000000000000000000000000000011 expires 0 previous none" ∷
    codes "26 vote 0000000000000000000000000000000000000000000000000000000000000010#0 committee:k00000000000000000000000000000000000000000000000000000081 yes" ∷
    codes "26 vote 0000000000000000000000000000000000000000000000000000000000000010#0 drep:s00000000000000000000000000000000000000000000000000000030 abstain" ∷
    codes "26 vote 0000000000000000000000000000000000000000000000000000000000000010#0 pool:00000000000000000000000000000000000000000000000000000051 abstain" ∷
    codes "26 proposal 0000000000000000000000000000000000000000000000000000000000000014#0 Info deposit 0 return 1s00000000000000000000000000000000000000000000000000000010 expires 0 previous none" ∷
    codes "26 vote 0000000000000000000000000000000000000000000000000000000000000014#0 committee:k00000000000000000000000000000000000000000000000000000081 no" ∷
    codes "26 proposal 0000000000000000000000000000000000000000000000000000000000000014#1 ParameterChange deposit 0 return 1s00000000000000000000000000000000000000000000000000000013 expires 0 previous none" ∷
    codes "26 vote 0000000000000000000000000000000000000000000000000000000000000014#1 committee:k00000000000000000000000000000000000000000000000000000081 abstain" ∷
    codes "26 proposal 0000000000000000000000000000000000000000000000000000000000000020#0 ParameterChange deposit 0 return 1s00000000000000000000000000000000000000000000000000000010 expires 0 previous 0000000000000000000000000000000000000000000000000000000000000014#1" ∷
    codes "26 vote 0000000000000000000000000000000000000000000000000000000000000020#0 drep:s00000000000000000000000000000000000000000000000000000030 abstain" ∷
    codes "26 proposal 0000000000000000000000000000000000000000000000000000000000000020#1 NoConfidence deposit 0 return 1k00000000000000000000000000000000000000000000000000000011 expires 0 previous none" ∷
    codes "26 proposal 0000000000000000000000000000000000000000000000000000000000000020#2 NoConfidence deposit 0 return 1s00000000000000000000000000000000000000000000000000000013 expires 0 previous none" ∷
    codes "26 vote 0000000000000000000000000000000000000000000000000000000000000020#2 drep:k00000000000000000000000000000000000000000000000000000031 abstain" ∷
    codes "26 proposal 0000000000000000000000000000000000000000000000000000000000000024#0 Info deposit 0 return 1s00000000000000000000000000000000000000000000000000000013 expires 0 previous none" ∷
    codes "26 proposal 0000000000000000000000000000000000000000000000000000000000000024#1 NewConstitution deposit 0 return 1k00000000000000000000000000000000000000000000000000000011 expires 0 previous none" ∷
    codes "26 proposal 0000000000000000000000000000000000000000000000000000000000000025#0 Info deposit 0 return 1s00000000000000000000000000000000000000000000000000000010 expires 0 previous none" ∷
    codes "26 proposal 0000000000000000000000000000000000000000000000000000000000000025#1 NoConfidence deposit 0 return 1s00000000000000000000000000000000000000000000000000000010 expires 0 previous 0000000000000000000000000000000000000000000000000000000000000020#1" ∷
    codes "26 proposal 0000000000000000000000000000000000000000000000000000000000000027#0 UpdateCommittee deposit 0 return 1k00000000000000000000000000000000000000000000000000000014 expires 0 previous 0000000000000000000000000000000000000000000000000000000000000020#2" ∷
    codes "26 snapshot mark 00000000000000000000000000000000000000000000000000000051 67" ∷
    codes "26 snapshot fees 0" ∷
    codes "26 pending none" ∷
    codes "26 pots outputs 47351 deposits 48 rewards 67 fees 16000 donations 90 treasury 0 reserves 0 supply 63556" ∷
    []) ≡ true
unfolding digits encode_with
transactions_of_all_parts_5 = refl

abbrev transactions_of_all_parts_6_input : List (ℕ × Reading)
transactions_of_all_parts_6_input =
    (1, Read (records.Genesis (record { network = 1; slot = 0; epoch_length = 10; version = (10, 0); supply = 46483; reserves = 700; treasury = 5000; params = (record base_params { min_fee_a = 1; collateral_percentage = 0; gov_action_deposit = 0; drep_activity = 0 }); document = (h32 0x01); script = (Some (h28 0x99)); committee = (Some (record { threshold = (share 1 2); members = (((key 0x72), 8, (Some (key 0x80))) ∷ ((key 0x71), 3, None) ∷ ((key 0x70), 3, None) ∷ ((script 0x70), 7, (Some (key 0x70))) ∷ []) })); outputs = (((ref 0x09 0), (address_with 1 (key 0x10) (Some (key 0x30))), 791, []) ∷ ((ref 0x09 1), (address_with 1 (key 0x01) None), 4534, []) ∷ ((ref 0x01 2), (address_with 1 (key 0x02) None), 2253, []) ∷ ((ref 0x01 3), (address_with 1 (script 0x03) None), 2314, []) ∷ ((ref 0x09 4), (address_with 1 (script 0x03) None), 5931, []) ∷ ((ref 0x09 5), (address_with 1 (key 0x02) None), 1787, []) ∷ ((ref 0x01 6), (address_with 1 (key 0x02) (Some (key 0x11))), 570, []) ∷ ((ref 0x09 7), (address_with 1 (key 0x10) None), 1828, []) ∷ ((ref 0x01 8), (address_with 1 (key 0x01) (Some (key 0x11))), 3497, []) ∷ ((ref 0x01 9), (address_with 1 (key 0x10) None), 3134, []) ∷ ((ref 0x01 10), (address_with 1 (key 0x02) (Some (key 0x12))), 5821, []) ∷ ((ref 0x09 11), (address_with 1 (key 0x01) None), 1017, []) ∷ ((ref 0x09 12), (address_with 1 (key 0x01) (Some (key 0x10))), 5582, []) ∷ []); accounts = (((key 0x14), 3, 800, (Some (pool 0x50)), (Some (drep.Registered (key 0x31)))) ∷ ((key 0x12), 2, 0, (Some (pool 0x50)), (Some (drep.Registered (key 0x10)))) ∷ ((key 0x11), 2, 0, None, None) ∷ ((script 0x10), 3, 67, (Some (pool 0x52)), (Some drep.NoConfidence)) ∷ ((key 0x15), 2, 1, None, (Some drep.Abstain)) ∷ ((key 0x30), 3, 800, None, (Some (drep.Registered (script 0x30)))) ∷ ((script 0x13), 3, 0, (Some (pool 0x52)), (Some drep.Abstain)) ∷ ((key 0x10), 3, 0, (Some (pool 0x52)), (Some (drep.Registered (script 0x30)))) ∷ []); pools = ((record { pool = (pool 0x10); deposit = 5; cost = 5; pledge = 0; margin = (share 1 9); account = (account_on 1 (key 0x11)); key = None }) ∷ (record { pool = (pool 0x51); deposit = 5; cost = 91; pledge = 0; margin = (share 1 9); account = (account_on 1 (key 0x10)); key = None }) ∷ (record { pool = (pool 0x52); deposit = 4; cost = 22; pledge = 0; margin = (share 1 9); account = (account_on 1 (script 0x10)); key = None }) ∷ (record { pool = (pool 0x50); deposit = 4; cost = 91; pledge = 0; margin = (share 1 9); account = (account_on 1 (key 0x12)); key = None }) ∷ []); dreps = (((key 0x10), 6, 12) ∷ ((script 0x30), 6, 4) ∷ ((key 0x31), 5, 22) ∷ []) }))) ∷
    (2, Read (records.Tx (record (spend 0x10 2109) { inputs = ((ref 0x09 1) ∷ []); outputs = ((paying (address_with 1 (key 0x10) None) 1455 0) ∷ (paying (address_with 1 (script 0x03) None) 970 57) ∷ []); size = 163; script_fee = 5; proposals = ((proposing 0 (account_on 1 (script 0x13)) (actions.HardForkInitiation None (11, 0))) ∷ (proposing 0 (account_on 1 (script 0x10)) (actions.TreasuryWithdrawals (((account_on 0 (script 0x10)), 5) ∷ []) (Some (h28 0x99)))) ∷ []) }))) ∷
    (3, Read (records.Tx (record (spend 0x11 70) { inputs = ((ref 0x09 5) ∷ (ref 0x09 1) ∷ []); outputs = ((paying (address_with 1 (key 0x01) (Some (script 0x10))) 7027 29) ∷ (paying (address_with 1 (key 0x10) None) 0 0) ∷ []); size = 61; donation = 30; withdrawals = (((account_on 1 (key 0x30)), 800) ∷ []); certs = ((certs.DrepUpdate (key 0x31)) ∷ (certs.HotResign (key 0x72)) ∷ (certs.DrepUnreg (key 0x10) None) ∷ (certs.PoolRetire (pool 0x52) 18) ∷ []); votes = ((voting (voter.Committee (key 0x70)) (action 0x09 2) vote.Yes) ∷ []) }))) ∷
    (4, Read (records.Tx (record (spend 0x12 12) { inputs = ((ref 0x09 7) ∷ []); outputs = ((paying (address_with 1 (script 0x03) (Some (key 0x12))) 595 0) ∷ (paying (address_with 1 (key 0x02) None) 1191 65) ∷ (paying (address_with 1 (key 0x10) None) 0 57) ∷ []); size = 12; from = (Some 0); until = (Some 9); donation = 30; certs = ((certs.AccountUnreg (key 0x12) None) ∷ (certs.AccountReg (key 0x12) None None None) ∷ []); proposals = ((proposing 0 (account_on 1 (key 0x30)) (actions.NewConstitution None (h32 0x01) (Some (h28 0x99)))) ∷ (proposing 0 (account_on 0 (key 0x15)) (actions.UpdateCommittee None ((key 0x70) ∷ (script 0x70) ∷ []) (((key 0x72), 0) ∷ ((key 0x71), 0) ∷ []) (share 0 1))) ∷ []) }))) ∷
    (5, Read (records.Tx (record (spend 0x13 74) { inputs = ((ref 0x01 9) ∷ []); outputs = ((paying (address_with 1 (key 0x02) None) 3033 65) ∷ (paying (address_with 1 (key 0x02) (Some (key 0x10))) 0 57) ∷ (paying (address_with 1 (script 0x03) None) 0 0) ∷ []); size = 69; script_fee = 5; scripts = scripts.Passed; from = (Some 0); until = (Some 1); collateral = ((ref 0x09 0) ∷ (ref 0x01 10) ∷ []); collateral_return = (Some (paying (address_with 1 (key 0x02) None) 6612 29)); donation = 30; withdrawals = (((account_on 0 (key 0x11)), 0) ∷ []); certs = ((certs.AccountUnreg (key 0x10) None) ∷ (certs.PoolReg (pool 0x50) 5 3 (share 0 1) (account_on 1 (key 0x30)) None) ∷ []) }))) ∷
    (6, Read (records.Tx (record (spend 0x14 408) { inputs = ((ref 0x01 8) ∷ []); outputs = ((paying (address_with 1 (key 0x01) None) 1029 65) ∷ (paying (address_with 1 (key 0x01) None) 686 65) ∷ (paying (address_with 1 (script 0x03) None) 687 29) ∷ (paying (address_with 1 (script 0x03) (Some (key 0x10))) 687 65) ∷ []); size = 399; scripts = scripts.Failed; from = (Some 0); until = (Some 9); collateral = ((ref 0x09 11) ∷ (ref 0x09 12) ∷ (ref 0x01 6) ∷ []); collateral_return = (Some (paying (address_with 1 (key 0x02) None) 7169 0)); treasury = (Some 5000) }))) ∷
    (7, Read (records.Print what.Pots)) ∷
    (8, Read (records.Tx (record (spend 0x15 3527) { inputs = ((ref 0x14 4) ∷ (ref 0x09 0) ∷ (ref 0x09 7) ∷ []); outputs = ((paying (address_with 1 (key 0x10) (Some (key 0x30))) 3133 57) ∷ (paying (address_with 1 (key 0x02) (Some (key 0x11))) 3134 57) ∷ []); size = 393; scripts = scripts.Passed; from = (Some 0); until = (Some 1); collateral = ((ref 0x09 5) ∷ (ref 0x09 7) ∷ (ref 0x01 10) ∷ []); collateral_return = (Some (paying (address_with 1 (key 0x10) None) 9431 57)); withdrawals = (((account_on 0 (key 0x10)), 0) ∷ []); certs = ((certs.DrepUpdate (script 0x30)) ∷ (certs.PoolReg (pool 0x50) 0 5 (share 1 2) (account_on 1 (key 0x12)) None) ∷ (certs.DrepUnreg (key 0x31) None) ∷ (certs.DrepUnreg (key 0x10) None) ∷ (certs.HotResign (key 0x72)) ∷ (certs.PoolReg (pool 0x51) 0 7 (share 0 1) (account_on 1 (key 0x15)) None) ∷ (certs.DrepReg (key 0x30) None) ∷ []); proposals = ((proposing 0 (account_on 1 (script 0x10)) (actions.HardForkInitiation None (11, 0))) ∷ (proposing 0 (account_on 1 (key 0x14)) (actions.NewConstitution None (h32 0x03) (Some (h28 0x98)))) ∷ []) }))) ∷
    (9, Read (records.Tx (record (spend 0x16 1699) { inputs = ((ref 0x09 4) ∷ []); outputs = ((paying (address_with 1 (key 0x02) None) 2185 29) ∷ (paying (address_with 1 (key 0x01) (Some (script 0x13))) 1457 0) ∷ (paying (address_with 1 (key 0x10) None) 1457 65) ∷ []); size = 232; from = (Some 0); until = (Some 1); treasury = (Some 5000); withdrawals = (((account_on 1 (key 0x30)), 800) ∷ ((account_on 1 (script 0x10)), 67) ∷ []); certs = ((certs.HotAuth (script 0x70) (key 0x81)) ∷ (certs.HotAuth (key 0x71) (key 0x81)) ∷ (certs.PoolRetire (pool 0x52) 1) ∷ (certs.HotResign (key 0x71)) ∷ (certs.DrepUpdate (script 0x30)) ∷ (certs.Delegate (script 0x10) None (Some (drep.Registered (key 0x10)))) ∷ (certs.PoolRetire (pool 0x10) 2) ∷ []) }))) ∷
    (10, Read (records.Tx (record (spend 0x17 4834) { inputs = ((ref 0x09 7) ∷ (ref 0x01 8) ∷ (ref 0x09 5) ∷ []); outputs = ((paying (address_with 1 (key 0x01) None) 2281 65) ∷ []); size = 267; script_fee = 5; certs = ((certs.PoolRetire (pool 0x51) 2) ∷ (certs.DrepUpdate (script 0x30)) ∷ (certs.DrepUpdate (key 0x10)) ∷ (certs.PoolRetire (pool 0x10) 18) ∷ (certs.DrepUpdate (key 0x10)) ∷ (certs.PoolReg (pool 0x10) 0 8 (share 1 2) (account_on 1 (script 0x10)) None) ∷ (certs.AccountUnreg (script 0x10) None) ∷ []); proposals = ((proposing 0 (account_on 1 (key 0x12)) (actions.HardForkInitiation None (11, 0))) ∷ []) }))) ∷
    (11, Read (records.Tx (record (spend 0x18 368) { inputs = []; outputs = ((paying (address_with 1 (key 0x01) None) 942 0) ∷ (paying (address_with 1 (key 0x01) None) 943 65) ∷ []); size = 363; script_fee = 5; until = (Some 9); treasury = (Some 5000); withdrawals = (((account_on 1 (script 0x13)), 0) ∷ ((account_on 1 (key 0x10)), 0) ∷ []) }))) ∷
    (12, Read (records.Tx (record (spend 0x19 2279) { inputs = ((ref 0x16 0) ∷ (ref 0x01 2) ∷ []); outputs = ((paying (address_with 1 (key 0x02) (Some (key 0x10))) 2159 0) ∷ []); size = 120; from = (Some 0); proposals = ((proposing 0 (account_on 1 (key 0x11)) (actions.NewConstitution None (h32 0x06) (Some (h28 0x98)))) ∷ (proposing 0 (account_on 1 (key 0x30)) (actions.Info)) ∷ (proposing 0 (account_on 1 (key 0x14)) (actions.Info)) ∷ []); votes = ((voting (voter.Committee (key 0x80)) (action 0x17 0) vote.Abstain) ∷ []) }))) ∷
    (13, Read (records.Tx (record (spend 0x20 5161) { inputs = ((ref 0x14 4) ∷ (ref 0x01 3) ∷ (ref 0x09 0) ∷ []); outputs = ((paying (address_with 1 (script 0x03) None) 5111 0) ∷ []); size = 49; scripts = scripts.Failed; from = (Some 0); until = (Some 1); collateral = ((ref 0x16 2) ∷ (ref 0x09 0) ∷ (ref 0x01 3) ∷ (ref 0x01 9) ∷ []); collateral_return = (Some (paying (address_with 1 (key 0x10) (Some (key 0x15))) 5382 29)); withdrawals = (((account_on 1 (key 0x14)), 801) ∷ []); certs = ((certs.AccountReg (script 0x10) None None (Some drep.Abstain)) ∷ (certs.Delegate (script 0x10) None (Some (drep.Registered (script 0x30)))) ∷ []); votes = ((voting (voter.Committee (key 0x81)) (action 0x17 0) vote.No) ∷ (voting (voter.Pool (pool 0x52)) (action 0x17 0) vote.No) ∷ (voting (voter.Committee (key 0x81)) (action 0x19 2) vote.Yes) ∷ (voting (voter.Drep (key 0x31)) (action 0x19 1) vote.Yes) ∷ (voting (voter.Committee (key 0x81)) (action 0x19 1) vote.Yes) ∷ (voting (voter.Drep (key 0x10)) (action 0x19 2) vote.No) ∷ []) }))) ∷
    (14, Read (records.Tx (record (spend 0x21 535) { inputs = ((ref 0x16 2) ∷ []); outputs = ((paying (address_with 1 (key 0x10) (Some (key 0x15))) 593 29) ∷ (paying (address_with 1 (key 0x01) None) 197 65) ∷ (paying (address_with 1 (key 0x10) None) 132 29) ∷ []); size = 271; scripts = scripts.Passed; collateral = ((ref 0x09 0) ∷ (ref 0x16 1) ∷ []); collateral_return = (Some (paying (address_with 1 (key 0x01) (Some (key 0x15))) 2248 65)); proposals = ((proposing 0 (account_on 1 (key 0x12)) (actions.Info)) ∷ (proposing 0 (account_on 1 (key 0x10)) (actions.Info)) ∷ (proposing 0 (account_on 1 (key 0x11)) (actions.NewConstitution (Some (action 0x19 0)) (h32 0x04) (Some (h28 0x98)))) ∷ []); votes = ((voting (voter.Pool (pool 0x50)) (action 0x19 2) vote.Abstain) ∷ (voting (voter.Drep (key 0x31)) (action 0x19 1) vote.Yes) ∷ (voting (voter.Committee (key 0x80)) (action 0x19 1) vote.No) ∷ (voting (voter.Committee (key 0x80)) (action 0x17 0) vote.No) ∷ (voting (voter.Committee (key 0x80)) (action 0x19 0) vote.No) ∷ (voting (voter.Drep (key 0x31)) (action 0x19 2) vote.Abstain) ∷ []) }))) ∷
    (15, Read (records.Tx (record (spend 0x22 324) { inputs = ((ref 0x19 0) ∷ (ref 0x01 9) ∷ []); outputs = ((paying (address_with 1 (script 0x03) None) 2485 57) ∷ (paying (address_with 1 (key 0x01) None) 828 57) ∷ (paying (address_with 1 (key 0x02) (Some (key 0x11))) 1657 65) ∷ []); size = 324; from = (Some 0); treasury = (Some 5000); certs = ((certs.DrepUnreg (key 0x10) None) ∷ (certs.DrepReg (key 0x10) None) ∷ (certs.Delegate (key 0x12) None (Some (drep.Registered (key 0x10)))) ∷ []); proposals = ((proposing 0 (account_on 1 (script 0x13)) (actions.NoConfidence None)) ∷ (proposing 0 (account_on 1 (key 0x14)) (actions.NoConfidence (Some (action 0x21 1)))) ∷ []); votes = ((voting (voter.Drep (key 0x10)) (action 0x19 0) vote.Abstain) ∷ []) }))) ∷
    (16, Read (records.Print what.Pots)) ∷
    (17, Read (records.Tx (record (spend 0x23 4961) { inputs = ((ref 0x16 1) ∷ (ref 0x01 10) ∷ []); outputs = ((paying (address_with 1 (key 0x01) None) 2317 29) ∷ []); size = 320; script_fee = 5; from = (Some 0); until = (Some 1); certs = ((certs.PoolReg (pool 0x51) 5 7 (share 1 2) (account_on 1 (key 0x10)) None) ∷ (certs.DrepUpdate (key 0x10)) ∷ (certs.PoolRetire (pool 0x52) 1) ∷ (certs.DrepUpdate (key 0x31)) ∷ (certs.PoolReg (pool 0x50) 0 2 (share 0 1) (account_on 1 (key 0x15)) None) ∷ (certs.PoolRetire (pool 0x51) 2) ∷ (certs.HotAuth (key 0x70) (key 0x70)) ∷ []); proposals = ((proposing 0 (account_on 1 (key 0x14)) (actions.NoConfidence None)) ∷ []); votes = ((voting (voter.Pool (pool 0x51)) (action 0x21 1) vote.Yes) ∷ (voting (voter.Committee (key 0x81)) (action 0x19 2) vote.Abstain) ∷ (voting (voter.Committee (key 0x81)) (action 0x19 1) vote.No) ∷ (voting (voter.Pool (pool 0x51)) (action 0x21 1) vote.Yes) ∷ (voting (voter.Pool (pool 0x52)) (action 0x21 1) vote.Abstain) ∷ (voting (voter.Pool (pool 0x10)) (action 0x21 0) vote.Yes) ∷ []) }))) ∷
    (18, Read (records.Tx (record (spend 0x24 49) { inputs = ((ref 0x17 0) ∷ (ref 0x09 1) ∷ (ref 0x21 1) ∷ []); outputs = ((paying (address_with 1 (key 0x01) (Some (key 0x11))) 6935 57) ∷ []); size = 49; from = (Some 0); treasury = (Some 5000); donation = 30; certs = ((certs.PoolReg (pool 0x10) 5 7 (share 1 2) (account_on 1 (key 0x12)) None) ∷ (certs.DrepUpdate (script 0x30)) ∷ (certs.HotAuth (script 0x70) (key 0x30)) ∷ (certs.HotAuth (key 0x72) (key 0x30)) ∷ (certs.PoolReg (pool 0x50) 5 5 (share 1 2) (account_on 1 (key 0x15)) None) ∷ (certs.AccountUnreg (key 0x11) None) ∷ (certs.HotResign (key 0x72)) ∷ []); votes = ((voting (voter.Committee (key 0x81)) (action 0x24 0) vote.Abstain) ∷ (voting (voter.Pool (pool 0x10)) (action 0x21 1) vote.Yes) ∷ (voting (voter.Committee (key 0x81)) (action 0x19 1) vote.No) ∷ (voting (voter.Committee (script 0x80)) (action 0x19 0) vote.No) ∷ []) }))) ∷
    (19, Read (records.Tx (record (spend 0x25 259) { inputs = ((ref 0x09 0) ∷ (ref 0x01 9) ∷ (ref 0x19 0) ∷ []); outputs = ((paying (address_with 1 (script 0x03) None) 6591 29) ∷ (paying (address_with 1 (key 0x01) None) 0 0) ∷ []); size = 259; from = (Some 0); until = (Some 9); donation = 30; withdrawals = (((account_on 1 (key 0x15)), 1) ∷ ((account_on 1 (key 0x14)), 800) ∷ []); certs = ((certs.PoolReg (pool 0x10) 0 0 (share 0 1) (account_on 1 (key 0x15)) None) ∷ (certs.DrepUpdate (key 0x10)) ∷ (certs.DrepUpdate (script 0x30)) ∷ (certs.DrepReg (key 0x30) (Some 5)) ∷ []); proposals = ((proposing 0 (account_on 1 (key 0x11)) (actions.UpdateCommittee None [] (((script 0x70), 5) ∷ []) (share 2 3))) ∷ (proposing 1 (account_on 1 (key 0x12)) (actions.NewConstitution None (h32 0x02) None)) ∷ []) }))) ∷
    (20, Read (records.Print what.Pots)) ∷
    (21, Read (records.Tx (record (spend 0x26 97) { inputs = ((ref 0x19 0) ∷ (ref 0x01 3) ∷ (ref 0x23 0) ∷ []); outputs = ((paying (address_with 1 (key 0x01) None) 2231 57) ∷ (paying (address_with 1 (key 0x02) (Some (script 0x13))) 1487 0) ∷ (paying (address_with 1 (key 0x02) None) 2975 65) ∷ (paying (address_with 1 (key 0x02) (Some (script 0x10))) 0 65) ∷ []); size = 83; script_fee = 5; until = (Some 9); collateral = ((ref 0x14 33) ∷ []); proposals = ((proposing 0 (account_on 1 (key 0x12)) (actions.NewConstitution (Some (action 0x19 0)) (h32 0x02) None)) ∷ []); votes = ((voting (voter.Drep (key 0x31)) (action 0x21 1) vote.No) ∷ (voting (voter.Pool (pool 0x52)) (action 0x21 1) vote.Yes) ∷ (voting (voter.Pool (pool 0x10)) (action 0x23 0) vote.No) ∷ []) }))) ∷
    (22, Read (records.Tx (record (spend 0x27 2132) { inputs = ((ref 0x09 1) ∷ []); outputs = ((paying (address_with 1 (key 0x01) None) 1443 29) ∷ (paying (address_with 1 (key 0x01) (Some (key 0x14))) 962 65) ∷ []); size = 193; script_fee = 5; scripts = scripts.Failed; until = (Some 9); collateral = ((ref 0x21 2) ∷ (ref 0x17 0) ∷ (ref 0x14 4) ∷ []); collateral_return = (Some (paying (address_with 1 (script 0x03) None) 9582 0)); certs = ((certs.DrepUpdate (key 0x10)) ∷ (certs.AccountUnreg (script 0x13) None) ∷ []); proposals = ((proposing 0 (account_on 1 (key 0x10)) (actions.NoConfidence (Some (action 0x23 0)))) ∷ (proposing 0 (account_on 1 (key 0x30)) (actions.HardForkInitiation (Some (action 0x17 0)) (12, 1))) ∷ (proposing 0 (account_on 1 (key 0x30)) (actions.Info)) ∷ (proposing 0 (account_on 1 (key 0x11)) (actions.ParameterChange None (record no_update { max_value_size = (Some 2); committee_min_size = (Some 9) }) (Some (h28 0x99)))) ∷ []) }))) ∷
    (23, Read (records.Tx (record (spend 0x28 309) { inputs = ((ref 0x01 3) ∷ []); outputs = ((paying (address_with 1 (key 0x02) (Some (key 0x10))) 669 0) ∷ (paying (address_with 1 (key 0x01) (Some (key 0x10))) 1339 65) ∷ []); size = 309; treasury = (Some 5000); certs = ((certs.DrepUnreg (script 0x30) (Some 6)) ∷ (certs.PoolReg (pool 0x51) 0 0 (share 0 1) (account_on 1 (key 0x14)) None) ∷ (certs.DrepReg (key 0x30) None) ∷ (certs.Delegate (key 0x12) None (Some (drep.Registered (key 0x31)))) ∷ (certs.DrepUpdate (key 0x10)) ∷ (certs.Delegate (key 0x15) None (Some (drep.Registered (key 0x10)))) ∷ (certs.AccountUnreg (key 0x11) None) ∷ []); votes = ((voting (voter.Committee (key 0x81)) (action 0x21 2) vote.Yes) ∷ (voting (voter.Drep (key 0x31)) (action 0x19 2) vote.Abstain) ∷ (voting (voter.Pool (pool 0x50)) (action 0x19 1) vote.Yes) ∷ []) }))) ∷
    (24, Read (records.Print what.Pots)) ∷
    (25, Read (records.Tx (record (spend 0x29 389) { inputs = ((ref 0x01 9) ∷ []); outputs = ((paying (address_with 1 (key 0x10) None) 2745 29) ∷ []); size = 380; scripts = scripts.Failed; until = (Some 1); collateral = ((ref 0x09 1) ∷ (ref 0x27 2) ∷ (ref 0x21 1) ∷ (ref 0x23 0) ∷ []); collateral_return = (Some (paying (address_with 1 (key 0x02) None) 7048 57)); certs = ((certs.PoolRetire (pool 0x10) 1) ∷ (certs.PoolReg (pool 0x10) 400 1 (share 0 1) (account_on 1 (key 0x12)) None) ∷ (certs.PoolRetire (pool 0x10) 2) ∷ []); proposals = ((proposing 0 (account_on 1 (key 0x14)) (actions.Info)) ∷ []); votes = ((voting (voter.Drep (key 0x30)) (action 0x19 1) vote.Abstain) ∷ (voting (voter.Committee (key 0x80)) (action 0x17 0) vote.No) ∷ (voting (voter.Pool (pool 0x52)) (action 0x21 1) vote.Abstain) ∷ (voting (voter.Committee (key 0x80)) (action 0x21 0) vote.No) ∷ (voting (voter.Pool (pool 0x51)) (action 0x19 2) vote.Yes) ∷ (voting (voter.Pool (pool 0x10)) (action 0x19 1) vote.Yes) ∷ []) }))) ∷
    (26, Read (records.Print what.Pots)) ∷
    (27, Read (records.Print what.State)) ∷
    []

pub transactions_of_all_parts_6 : says_all transactions_of_all_parts_6_input (
    codes "1 genesis outputs 39059 deposits 56 rewards 1668 fees 0 donations 0 treasury 5000 reserves 700 supply 46483" ∷
    codes "2 refused 85 TargetWrongNetwork at 1" ∷
    codes "3 refused 100 ActionUnknown at 0" ∷
    codes "4 refused 81 ReturnWrongNetwork at 1" ∷
    codes "5 refused 50 WithdrawalWrongNetwork at 0" ∷
    codes "6 accepted failed-scripts" ∷
    codes "7 pots outputs 39059 deposits 56 rewards 1668 fees 0 donations 0 treasury 5000 reserves 700 supply 46483" ∷
    codes "8 refused 50 WithdrawalWrongNetwork at 0" ∷
    codes "9 accepted" ∷
    codes "10 accepted" ∷
    codes "11 refused 32 NoInputs" ∷
    codes "12 accepted" ∷
    codes "13 refused 40 TooManyCollateral max 3" ∷
    codes "14 accepted" ∷
    codes "15 refused 90 PreviousWrong at 1" ∷
    codes "16 pots outputs 30582 deposits 53 rewards 801 fees 9347 donations 0 treasury 5000 reserves 700 supply 46483" ∷
    codes "17 accepted" ∷
    codes "18 refused 100 ActionUnknown at 0" ∷
    codes "19 refused 80 ProposalDepositWrong at 1 want 0" ∷
    codes "20 pots outputs 25621 deposits 53 rewards 801 fees 14308 donations 0 treasury 5000 reserves 700 supply 46483" ∷
    codes "21 refused 42 CollateralMissing at 0" ∷
    codes "22 accepted failed-scripts" ∷
    codes "23 accepted" ∷
    codes "24 pots outputs 25315 deposits 50 rewards 801 fees 14617 donations 0 treasury 5000 reserves 700 supply 46483" ∷
    codes "25 refused 40 TooManyCollateral max 3" ∷
    codes "26 pots outputs 25315 deposits 50 rewards 801 fees 14617 donations 0 treasury 5000 reserves 700 supply 46483" ∷
    codes "27 now slot 0 epoch 0 version 10.0 dormant 0" ∷
    codes "27 constitution 0000000000000000000000000000000000000000000000000000000000000001 00000000000000000000000000000000000000000000000000000099" ∷
    codes "27 committee threshold 1/2" ∷
    codes "27 member k00000000000000000000000000000000000000000000000000000070 term 3 hot k00000000000000000000000000000000000000000000000000000070" ∷
    codes "27 member s00000000000000000000000000000000000000000000000000000070 term 7 hot k00000000000000000000000000000000000000000000000000000081" ∷
    codes "27 member k00000000000000000000000000000000000000000000000000000071 term 3 hot resigned" ∷
    codes "27 member k00000000000000000000000000000000000000000000000000000072 term 8 hot k00000000000000000000000000000000000000000000000000000080" ∷
    codes "27 enacted committee none constitution none hardfork none parameters none" ∷
    codes "27 param maxBlockBodySize 90112" ∷
    codes "27 param maxTxSize 16384" ∷
    codes "27 param maxBlockHeaderSize 1100" ∷
    codes "27 param maxValueSize 5000" ∷
    codes "27 param maxTxExUnits 1000 1000" ∷
    codes "27 param maxBlockExUnits 1000 1000" ∷
    codes "27 param maxCollateralInputs 3" ∷
    codes "27 param minFeeA 1" ∷
    codes "27 param minFeeB 0" ∷
    codes "27 param keyDeposit 2" ∷
    codes "27 param poolDeposit 5" ∷
    codes "27 param rho 0/1" ∷
    codes "27 param tau 0/1" ∷
    codes "27 param minPoolCost 0" ∷
    codes "27 param coinsPerUTxOByte 0" ∷
    codes "27 param prices 0/1 0/1" ∷
    codes "27 param minFeeRefScriptCostPerByte 15/1" ∷
    codes "27 param a0 0/1" ∷
    codes "27 param eMax 18" ∷
    codes "27 param nOpt 500" ∷
    codes "27 param costModels 0000000000000000000000000000000000000000000000000000000000000000" ∷
    codes "27 param collateralPercentage 0" ∷
    codes "27 param poolVotingThresholds 0/1 0/1 0/1 0/1 0/1" ∷
    codes "27 param drepVotingThresholds 67/100 67/100 67/100 67/100 67/100 67/100 67/100 67/100 67/100 67/100" ∷
    codes "27 param govActionLifetime 2" ∷
    codes "27 param govActionDeposit 0" ∷
    codes "27 param drepDeposit 5" ∷
    codes "27 param drepActivity 0" ∷
    codes "27 param committeeMinSize 0" ∷
    codes "27 param committeeMaxTermLength 100" ∷
    codes "27 drep k00000000000000000000000000000000000000000000000000000010 deposit 6 expiry 0" ∷
    codes "27 drep k00000000000000000000000000000000000000000000000000000030 deposit 5 expiry 0" ∷
    codes "27 drep k00000000000000000000000000000000000000000000000000000031 deposit 5 expiry 0" ∷
    codes "27 pool 00000000000000000000000000000000000000000000000000000010 deposit 5 cost 5 pledge 0 margin 1/9 account 1k00000000000000000000000000000000000000000000000000000011 retires never" ∷
    codes "27 next 00000000000000000000000000000000000000000000000000000010 cost 0 pledge 8 margin 1/2 account 1s00000000000000000000000000000000000000000000000000000010" ∷
    codes "27 pool 00000000000000000000000000000000000000000000000000000050 deposit 4 cost 91 pledge 0 margin 1/9 account 1k00000000000000000000000000000000000000000000000000000012 retires never" ∷
    codes "27 next 00000000000000000000000000000000000000000000000000000050 cost 0 pledge 2 margin 0/1 account 1k00000000000000000000000000000000000000000000000000000015" ∷
    codes "27 pool 00000000000000000000000000000000000000000000000000000051 deposit 5 cost 91 pledge 0 margin 1/9 account 1k00000000000000000000000000000000000000000000000000000010 retires never" ∷
    codes "27 next 00000000000000000000000000000000000000000000000000000051 cost 0 pledge 0 margin 0/1 account 1k00000000000000000000000000000000000000000000000000000014" ∷
    codes "27 pool 00000000000000000000000000000000000000000000000000000052 deposit 4 cost 22 pledge 0 margin 1/9 account 1s00000000000000000000000000000000000000000000000000000010 retires 1" ∷
    codes "27 account k00000000000000000000000000000000000000000000000000000010 stake 4167 deposit 3 rewards 0 pool 00000000000000000000000000000000000000000000000000000052 drep none" ∷
    codes "27 account k00000000000000000000000000000000000000000000000000000012 stake 0 deposit 2 rewards 0 pool 00000000000000000000000000000000000000000000000000000050 drep k00000000000000000000000000000000000000000000000000000031" ∷
    codes "27 account s00000000000000000000000000000000000000000000000000000013 stake 0 deposit 3 rewards 0 pool 00000000000000000000000000000000000000000000000000000052 drep abstain" ∷
    codes "27 account k00000000000000000000000000000000000000000000000000000014 stake 0 deposit 3 rewards 800 pool 00000000000000000000000000000000000000000000000000000050 drep k00000000000000000000000000000000000000000000000000000031" ∷
    codes "27 account k00000000000000000000000000000000000000000000000000000015 stake 593 deposit 2 rewards 1 pool none drep k00000000000000000000000000000000000000000000000000000010" ∷
    codes "27 account k00000000000000000000000000000000000000000000000000000030 stake 791 deposit 3 rewards 0 pool none drep none" ∷
    codes "27 output 0000000000000000000000000000000000000000000000000000000000000001#9 1k00000000000000000000000000000000000000000000000000000010 3134" ∷
    codes "27 output 0000000000000000000000000000000000000000000000000000000000000009#0 1k00000000000000000000000000000000000000000000000000000010+k00000000000000000000000000000000000000000000000000000030 791" ∷
    codes "27 output 0000000000000000000000000000000000000000000000000000000000000009#1 1k00000000000000000000000000000000000000000000000000000001 4534" ∷
    codes "27 output 0000000000000000000000000000000000000000000000000000000000000019#0 1k00000000000000000000000000000000000000000000000000000002+k00000000000000000000000000000000000000000000000000000010 2159" ∷
    codes "27 output 0000000000000000000000000000000000000000000000000000000000000021#0 1k00000000000000000000000000000000000000000000000000000010+k00000000000000000000000000000000000000000000000000000015 593" ∷
    codes "27 output 0000000000000000000000000000000000000000000000000000000000000021#1 1k00000000000000000000000000000000000000000000000000000001 197" ∷
    codes "27 output 0000000000000000000000000000000000000000000000000000000000000023#0 1k00000000000000000000000000000000000000000000000000000001 2317" ∷
    codes "27 output 0000000000000000000000000000000000000000000000000000000000000027#2 1s00000000000000000000000000000000000000000000000000000003 9582" ∷
    codes "27 output 0000000000000000000000000000000000000000000000000000000000000028#0 1k00000000000000000000000000000000000000000000000000000002+k00000000000000000000000000000000000000000000000000000010 669" ∷
    codes "27 output 0000000000000000000000000000000000000000000000000000000000000028#1 1k00000000000000000000000000000000000000000000000000000001+k00000000000000000000000000000000000000000000000000000010 1339" ∷
    codes "27 proposal 0000000000000000000000000000000000000000000000000000000000000017#0 HardForkInitiation deposit 0 return 1k00000000000000000000000000000000000000000000000000000012 expires 2 previous none" ∷
    codes "27 vote 0000000000000000000000000000000000000000000000000000000000000017#0 committee:k00000000000000000000000000000000000000000000000000000080 no" ∷
    codes "27 proposal 0000000000000000000000000000000000000000000000000000000000000019#0 NewConstitution deposit 0 return 1k00000000000000000000000000000000000000000000000000000011 expires 2 previous none" ∷
    codes "27 vote 0000000000000000000000000000000000000000000000000000000000000019#0 committee:k00000000000000000000000000000000000000000000000000000080 no" ∷
    codes "27 proposal 0000000000000000000000000000000000000000000000000000000000000019#1 Info deposit 0 return 1k00000000000000000000000000000000000000000000000000000030 expires 2 previous none" ∷
    codes "27 vote 0000000000000000000000000000000000000000000000000000000000000019#1 committee:k00000000000000000000000000000000000000000000000000000080 no" ∷
    codes "27 vote 0000000000000000000000000000000000000000000000000000000000000019#1 committee:k00000000000000000000000000000000000000000000000000000081 no" ∷
    codes "27 vote 0000000000000000000000000000000000000000000000000000000000000019#1 drep:k00000000000000000000000000000000000000000000000000000031 yes" ∷
    codes "27 vote 0000000000000000000000000000000000000000000000000000000000000019#1 pool:00000000000000000000000000000000000000000000000000000050 yes" ∷
    codes "27 proposal 0000000000000000000000000000000000000000000000000000000000000019#2 Info deposit 0 return 1k00000000000000000000000000000000000000000000000000000014 expires 2 previous none" ∷
    codes "27 vote 0000000000000000000000000000000000000000000000000000000000000019#2 committee:k00000000000000000000000000000000000000000000000000000081 abstain" ∷
    codes "27 vote 0000000000000000000000000000000000000000000000000000000000000019#2 drep:k00000000000000000000000000000000000000000000000000000031 abstain" ∷
    codes "27 vote 0000000000000000000000000000000000000000000000000000000000000019#2 pool:00000000000000000000000000000000000000000000000000000050 abstain" ∷
    codes "27 proposal 0000000000000000000000000000000000000000000000000000000000000021#0 Info deposit 0 return 1k00000000000000000000000000000000000000000000000000000012 expires 2 previous none" ∷
    codes "27 vote 0000000000000000000000000000000000000000000000000000000000000021#0 pool:00000000000000000000000000000000000000000000000000000010 yes" ∷
    codes "27 proposal 0000000000000000000000000000000000000000000000000000000000000021#1 Info deposit 0 return 1k00000000000000000000000000000000000000000000000000000010 expires 2 previous none" ∷
    codes "27 vote 0000000000000000000000000000000000000000000000000000000000000021#1 pool:00000000000000000000000000000000000000000000000000000051 yes" ∷
    codes "27 vote 0000000000000000000000000000000000000000000000000000000000000021#1 pool:00000000000000000000000000000000000000000000000000000052 abstain" ∷
    codes "27 proposal 0000000000000000000000000000000000000000000000000000000000000021#2 NewConstitution deposit 0 return 1k00000000000000000000000000000000000000000000000000000011 expires 2 previous 0000000000000000000000000000000000000000000000000000000000000019#0" ∷
    codes "27 vote 0000000000000000000000000000000000000000000000000000000000000021#2 committee:k00000000000000000000000000000000000000000000000000000081 yes" ∷
    codes "27 proposal 0000000000000000000000000000000000000000000000000000000000000023#0 NoConfidence deposit 0 return 1k00000000000000000000000000000000000000000000000000000014 expires 2 previous none" ∷
    codes "27 snapshot mark 00000000000000000000000000000000000000000000000000000010 0" ∷
    codes "27 snapshot mark 00000000000000000000000000000000000000000000000000000050 6621" ∷
    codes "27 snapshot mark 00000000000000000000000000000000000000000000000000000051 0" ∷
    codes "27 snapshot mark 00000000000000000000000000000000000000000000000000000052 5649" ∷
    codes "27 snapshot fees 0" ∷
    codes "27 pending none" ∷
    codes "27 pots outputs 25315 deposits 50 rewards 801 fees 14617 donations 0 treasury 5000 reserves 700 supply 46483" ∷
    []) ≡ true
unfolding digits encode_with
transactions_of_all_parts_6 = refl

abbrev transactions_of_all_parts_7_input : List (ℕ × Reading)
transactions_of_all_parts_7_input =
    (1, Read (records.Genesis (record { network = 1; slot = 50; epoch_length = 10; version = (10, 0); supply = 75786; reserves = 0; treasury = 5000; params = (record base_params { min_fee_a = 1; key_deposit = 20; pool_deposit = 50; coins_per_utxo_byte = 1; e_max = 1; gov_action_lifetime = 0; gov_action_deposit = 100; drep_deposit = 50 }); document = (h32 0x01); script = (Some (h28 0x99)); committee = (Some (record { threshold = (share 1 2); members = (((script 0x70), 7, (Some (key 0x80))) ∷ []) })); outputs = (((ref 0x09 0), (address_with 1 (script 0x03) None), 4835, []) ∷ ((ref 0x09 1), (address_with 1 (key 0x10) None), 5250, []) ∷ ((ref 0x01 2), (address_with 1 (script 0x03) None), 5771, []) ∷ ((ref 0x01 3), (address_with 1 (key 0x02) None), 4250, []) ∷ ((ref 0x09 4), (address_with 1 (key 0x10) None), 5942, []) ∷ ((ref 0x01 5), (address_with 1 (key 0x02) None), 1642, []) ∷ ((ref 0x09 6), (address_with 1 (key 0x02) (Some (key 0x15))), 843, []) ∷ ((ref 0x09 7), (address_with 1 (script 0x03) None), 2017, []) ∷ ((ref 0x01 8), (address_with 1 (key 0x10) None), 4351, []) ∷ ((ref 0x01 9), (address_with 1 (key 0x01) None), 1477, []) ∷ ((ref 0x09 10), (address_with 1 (key 0x02) None), 5285, []) ∷ ((ref 0x09 11), (address_with 1 (key 0x10) None), 1050, []) ∷ ((ref 0x01 12), (address_with 1 (key 0x02) None), 947, []) ∷ ((ref 0x01 13), (address_with 1 (key 0x10) None), 5231, []) ∷ ((ref 0x09 14), (address_with 1 (key 0x01) (Some (script 0x13))), 2188, []) ∷ ((ref 0x09 15), (address_with 1 (key 0x01) None), 4926, []) ∷ ((ref 0x09 16), (address_with 1 (key 0x10) None), 4940, []) ∷ ((ref 0x09 17), (address_with 1 (script 0x03) None), 5936, []) ∷ ((ref 0x01 18), (address_with 1 (script 0x03) (Some (key 0x14))), 2836, []) ∷ []); accounts = (((key 0x15), 20, 0, (Some (pool 0x51)), (Some (drep.Registered (key 0x10)))) ∷ ((key 0x30), 3, 800, (Some (pool 0x51)), (Some (drep.Registered (key 0x31)))) ∷ ((key 0x14), 20, 67, (Some (pool 0x51)), (Some (drep.Registered (key 0x30)))) ∷ ((key 0x11), 3, 0, (Some (pool 0x51)), (Some (drep.Registered (key 0x30)))) ∷ []); pools = ((record { pool = (pool 0x51); deposit = 50; cost = 53; pledge = 0; margin = (share 1 9); account = (account_on 1 (key 0x11)); key = None }) ∷ []); dreps = (((key 0x10), 6, 8) ∷ ((key 0x31), 50, 23) ∷ ((key 0x30), 50, 0) ∷ []) }))) ∷
    (2, Read (records.Tx (record (spend 0x10 24) { inputs = ((ref 0x01 12) ∷ []); outputs = ((paying (address_with 1 (key 0x10) None) 846 65) ∷ []); size = 15; until = (Some 51); withdrawals = (((account_on 1 (key 0x11)), 0) ∷ ((account_on 1 (key 0x14)), 67) ∷ []); certs = ((certs.DrepUnreg (key 0x10) None) ∷ (certs.DrepReg (key 0x10) None) ∷ (certs.DrepUpdate (key 0x10)) ∷ []); proposals = ((proposing 100 (account_on 1 (key 0x14)) (actions.NewConstitution None (h32 0x04) (Some (h28 0x99)))) ∷ []) }))) ∷
    (3, Read (records.Tx (record (spend 0x11 3187) { inputs = ((ref 0x09 11) ∷ (ref 0x09 4) ∷ (ref 0x09 7) ∷ []); outputs = ((paying (address_with 1 (key 0x02) (Some (key 0x10))) 2896 57) ∷ (paying (address_with 1 (key 0x02) (Some (key 0x30))) 2896 57) ∷ []); size = 282; from = (Some 49); until = (Some 51); treasury = (Some 5000); donation = 30; certs = ((certs.DrepUpdate (key 0x31)) ∷ (certs.HotAuth (script 0x70) (key 0x70)) ∷ []); proposals = ((proposing 100 (account_on 0 (key 0x30)) (actions.NewConstitution (Some (action 0x10 0)) (h32 0x07) (Some (h28 0x99)))) ∷ []) }))) ∷
    (4, Read (records.Print what.Pots)) ∷
    (5, Read (records.Tx (record (spend 0x12 18446744073709551615) { inputs = ((ref 0x01 9) ∷ []); outputs = ((paying (address_with 1 (key 0x02) (Some (script 0x10))) 413 65) ∷ []); size = 237; scripts = scripts.Failed; until = (Some 51); collateral = ((ref 0x09 1) ∷ (ref 0x09 15) ∷ []); certs = ((certs.Delegate (key 0x30) None (Some (drep.Registered (key 0x30)))) ∷ []); votes = ((voting (voter.Drep (key 0x30)) (action 0x10 0) vote.Abstain) ∷ []) }))) ∷
    (6, Read (records.Tx (record (spend 0x13 34) { inputs = ((ref 0x10 0) ∷ (ref 0x01 8) ∷ (ref 0x01 18) ∷ []); outputs = ((paying (address_with 1 (key 0x01) (Some (key 0x11))) 3974 0) ∷ (paying (address_with 1 (key 0x02) (Some (key 0x14))) 3975 29) ∷ []); size = 16385; script_fee = 5; scripts = scripts.Failed; from = (Some 49); until = (Some 51); collateral = ((ref 0x09 10) ∷ []); collateral_return = (Some (paying (address_with 1 (key 0x10) None) 5234 65)); certs = ((certs.PoolReg (pool 0x52) 400 1 (share 0 1) (account_on 1 (key 0x30)) None) ∷ (certs.PoolReg (pool 0x52) 500 1 (share 0 1) (account_on 1 (key 0x30)) None) ∷ (certs.PoolRetire (pool 0x52) 6) ∷ (certs.Delegate (key 0x30) (Some (pool 0x52)) None) ∷ (certs.PoolReg (pool 0x52) 400 1 (share 0 1) (account_on 1 (key 0x30)) None) ∷ []); votes = ((voting (voter.Drep (key 0x10)) (action 0x10 0) vote.No) ∷ (voting (voter.Drep (key 0x30)) (action 0x10 0) vote.Yes) ∷ (voting (voter.Committee (key 0x80)) (action 0x10 0) vote.No) ∷ []) }))) ∷
    (7, Read (records.Tx (record (spend 0x14 36) { inputs = ((ref 0x09 0) ∷ []); outputs = ((paying (address_with 1 (script 0x03) None) 1766 0) ∷ (paying (address_with 1 (key 0x02) None) 1177 57) ∷ (paying (address_with 1 (script 0x03) (Some (key 0x14))) 785 65) ∷ (paying (address_with 1 (script 0x03) None) 1571 57) ∷ []); size = 36; from = (Some 50); until = (Some 50); withdrawals = (((account_on 1 (key 0x30)), 800) ∷ ((account_on 1 (key 0x11)), 0) ∷ []); proposals = ((proposing 100 (account_on 1 (key 0x15)) (actions.Info)) ∷ (proposing 100 (account_on 1 (key 0x11)) (actions.NoConfidence None)) ∷ (proposing 100 (account_on 1 (key 0x30)) (actions.NoConfidence None)) ∷ []); votes = ((voting (voter.Drep (key 0x31)) (action 0x10 0) vote.No) ∷ (voting (voter.Drep (key 0x10)) (action 0x10 0) vote.No) ∷ (voting (voter.Drep (key 0x30)) (action 0x10 0) vote.Yes) ∷ []) }))) ∷
    (8, Read (records.Tx (record (spend 0x15 922) { inputs = ((ref 0x01 8) ∷ []); outputs = ((paying (address_with 1 (key 0x01) None) 2057 29) ∷ (paying (address_with 1 (key 0x02) (Some (key 0x12))) 686 0) ∷ (paying (address_with 1 (script 0x03) (Some (key 0x12))) 686 65) ∷ []); size = 236; from = (Some 49); until = (Some 59); certs = ((certs.Delegate (key 0x30) None (Some drep.NoConfidence)) ∷ (certs.HotAuth (script 0x70) (key 0x70)) ∷ (certs.AccountUnreg (key 0x14) None) ∷ (certs.AccountReg (key 0x14) (Some 20) None (Some drep.Abstain)) ∷ []); votes = ((voting (voter.Committee (key 0x70)) (action 0x10 0) vote.Yes) ∷ (voting (voter.Drep (key 0x31)) (action 0x10 0) vote.No) ∷ (voting (voter.Committee (key 0x70)) (action 0x10 0) vote.No) ∷ (voting (voter.Committee (key 0x70)) (action 0x10 0) vote.No) ∷ (voting (voter.Committee (key 0x70)) (action 0x10 0) vote.Abstain) ∷ (voting (voter.Drep (key 0x31)) (action 0x10 0) vote.Yes) ∷ []) }))) ∷
    (9, Read (records.Tx (record (spend 0x16 1683) { inputs = ((ref 0x09 0) ∷ []); outputs = ((paying (address_with 1 (key 0x02) None) 1526 65) ∷ (paying (address_with 1 (key 0x02) None) 1526 29) ∷ []); size = 151; script_fee = 5; scripts = scripts.Passed; until = (Some 59); collateral = ((ref 0x01 9) ∷ (ref 0x09 0) ∷ []); proposals = ((proposing 100 (account_on 1 (key 0x14)) (actions.NewConstitution (Some (action 0x10 0)) (h32 0x03) (Some (h28 0x99)))) ∷ []) }))) ∷
    (10, Read (records.Tx (record (spend 0x17 81) { inputs = ((ref 0x01 3) ∷ []); outputs = ((paying (address_with 1 (key 0x02) (Some (script 0x10))) 4839 29) ∷ []); size = 81; until = (Some 59); donation = 30; withdrawals = (((account_on 1 (key 0x30)), 800) ∷ ((account_on 1 (key 0x14)), 0) ∷ []); certs = ((certs.Delegate (key 0x15) None (Some (drep.Registered (key 0x31)))) ∷ (certs.DrepUnreg (key 0x31) None) ∷ (certs.DrepReg (key 0x31) None) ∷ (certs.DrepUpdate (key 0x31)) ∷ []); proposals = ((proposing 100 (account_on 1 (key 0x15)) (actions.UpdateCommittee None [] (((key 0x72), 6) ∷ ((script 0x70), 4) ∷ ((key 0x71), 4) ∷ []) (share 0 1))) ∷ (proposing 100 (account_on 1 (key 0x11)) (actions.HardForkInitiation None (10, 1))) ∷ []) }))) ∷
    (11, Read (records.Tx (record (spend 0x18 2015) { inputs = ((ref 0x09 1) ∷ []); outputs = ((paying (address_with 1 (key 0x01) None) 2426 29) ∷ (paying (address_with 1 (key 0x10) None) 809 0) ∷ []); size = 397; from = (Some 50); until = (Some 59); treasury = (Some 5000); certs = ((certs.Delegate (key 0x30) None (Some (drep.Registered (key 0x10)))) ∷ []) }))) ∷
    (12, Read (records.Print what.Pots)) ∷
    (13, Read (records.Tx (record (spend 0x19 15) { inputs = ((ref 0x09 15) ∷ []); outputs = ((paying (address_with 1 (key 0x02) None) 5611 65) ∷ []); size = 15; until = (Some 51); treasury = (Some 5000); withdrawals = (((account_on 1 (key 0x11)), 0) ∷ ((account_on 1 (key 0x30)), 800) ∷ []); certs = ((certs.DrepUnreg (key 0x30) None) ∷ (certs.DrepReg (key 0x30) None) ∷ (certs.Delegate (key 0x14) None (Some (drep.Registered (key 0x30)))) ∷ []); proposals = ((proposing 100 (account_on 1 (key 0x15)) (actions.HardForkInitiation None (10, 1))) ∷ []) }))) ∷
    (14, Read (records.Print what.Pots)) ∷
    (15, Read (records.Tx (record (spend 0x20 1952) { inputs = ((ref 0x01 5) ∷ (ref 0x09 14) ∷ []); outputs = ((paying (address_with 1 (key 0x01) None) 1548 29) ∷ []); size = 399; script_fee = 5; scripts = scripts.Passed; from = (Some 50); until = (Some 59); collateral = ((ref 0x10 0) ∷ (ref 0x18 0) ∷ []); collateral_return = (Some (paying (address_with 1 (key 0x01) (Some (key 0x11))) 344 0)); treasury = (Some 5001); donation = 30; withdrawals = (((account_on 1 (key 0x14)), 0) ∷ ((account_on 1 (key 0x30)), 0) ∷ []); certs = ((certs.Delegate (key 0x30) (Some (pool 0x51)) (Some (drep.Registered (key 0x30)))) ∷ []); proposals = ((proposing 100 (account_on 1 (key 0x15)) (actions.UpdateCommittee None ((key 0x70) ∷ []) [] (share 2 3))) ∷ (proposing 100 (account_on 1 (key 0x15)) (actions.NewConstitution None (h32 0x02) (Some (h28 0x98)))) ∷ (proposing 100 (account_on 1 (key 0x14)) (actions.ParameterChange None (record no_update { max_value_size = (Some 2); max_collateral_inputs = (Some 0); key_deposit = (Some 9); pool_deposit = (Some 1) }) (Some (h28 0x99)))) ∷ []); votes = ((voting (voter.Committee (key 0x70)) (action 0x10 0) vote.Abstain) ∷ (voting (voter.Committee (key 0x70)) (action 0x10 0) vote.Yes) ∷ (voting (voter.Drep (key 0x10)) (action 0x19 0) vote.Abstain) ∷ (voting (voter.Drep (key 0x10)) (action 0x10 0) vote.No) ∷ (voting (voter.Drep (key 0x30)) (action 0x10 0) vote.No) ∷ (voting (voter.Drep (key 0x31)) (action 0x19 0) vote.Abstain) ∷ []) }))) ∷
    (16, Read (records.Tx (record (spend 0x21 241) { inputs = ((ref 0x18 1) ∷ []); outputs = ((paying (address_with 1 (key 0x01) None) 218 29) ∷ []); size = 232; scripts = scripts.Failed; from = (Some 51); collateral = ((ref 0x10 0) ∷ []); collateral_return = (Some (paying (address_with 1 (key 0x10) None) 479 0)); certs = ((certs.PoolReg (pool 0x50) 5 5 (share 0 1) (account_on 1 (script 0x13)) None) ∷ []); proposals = ((proposing 100 (account_on 1 (key 0x15)) (actions.NoConfidence None)) ∷ (proposing 100 (account_on 1 (key 0x11)) (actions.ParameterChange None (record no_update { max_block_body_size = (Some 1); min_fee_b = (Some 1); rho = (Some (share 0 1)); committee_max_term_length = (Some 2) }) (Some (h28 0x99)))) ∷ (proposing 100 (account_on 1 (key 0x11)) (actions.NoConfidence None)) ∷ []); votes = ((voting (voter.Drep (key 0x30)) (action 0x10 0) vote.Yes) ∷ (voting (voter.Drep (key 0x31)) (action 0x19 0) vote.Abstain) ∷ (voting (voter.Drep (key 0x31)) (action 0x19 0) vote.Abstain) ∷ (voting (voter.Pool (pool 0x50)) (action 0x19 0) vote.Abstain) ∷ (voting (voter.Drep (key 0x31)) (action 0x19 0) vote.No) ∷ (voting (voter.Drep (key 0x10)) (action 0x19 0) vote.No) ∷ []) }))) ∷
    (17, Read (records.Tx (record (spend 0x22 40) { inputs = ((ref 0x19 0) ∷ (ref 0x01 9) ∷ (ref 0x10 0) ∷ []); outputs = ((paying (address_with 1 (key 0x10) None) 3847 57) ∷ (paying (address_with 1 (key 0x02) None) 3847 65) ∷ []); size = 31; scripts = scripts.Failed; collateral = ((ref 0x09 10) ∷ (ref 0x18 0) ∷ []); collateral_return = (Some (paying (address_with 1 (key 0x10) (Some (script 0x10))) 7651 29)); withdrawals = (((account_on 1 (key 0x30)), 0) ∷ []); proposals = ((proposing 100 (account_on 1 (key 0x30)) (actions.Info)) ∷ (proposing 100 (account_on 1 (key 0x15)) (actions.NewConstitution (Some (action 0x10 0)) (h32 0x02) (Some (h28 0x98)))) ∷ []) }))) ∷
    (18, Read (records.Tx (record (spend 0x23 125) { inputs = ((ref 0x15 0) ∷ []); outputs = ((paying (address_with 1 (key 0x01) None) 517 29) ∷ (paying (address_with 1 (key 0x10) (Some (key 0x14))) 1035 65) ∷ []); size = 125; scripts = scripts.Passed; from = (Some 49); collateral = ((ref 0x01 9) ∷ []); collateral_return = (Some (paying (address_with 1 (key 0x01) None) 1289 29)); treasury = (Some 5000); donation = 30; certs = ((certs.PoolReg (pool 0x50) 400 1 (share 0 1) (account_on 1 (script 0x13)) None) ∷ (certs.PoolReg (pool 0x50) 500 1 (share 0 1) (account_on 1 (script 0x13)) None) ∷ (certs.PoolRetire (pool 0x50) 6) ∷ (certs.PoolReg (pool 0x50) 400 1 (share 0 1) (account_on 1 (script 0x13)) None) ∷ []); proposals = ((proposing 100 (account_on 1 (key 0x11)) (actions.ParameterChange None (record no_update { max_value_size = (Some 2); max_tx_ex_units = (Some (1000, 1000)); min_pool_cost = (Some 0); committee_max_term_length = (Some 2) }) (Some (h28 0x99)))) ∷ (proposing 100 (account_on 1 (key 0x11)) (actions.Info)) ∷ (proposing 100 (account_on 1 (key 0x30)) (actions.Info)) ∷ []); votes = ((voting (voter.Drep (key 0x31)) (action 0x19 0) vote.Yes) ∷ (voting (voter.Drep (key 0x31)) (action 0x10 0) vote.Yes) ∷ (voting (voter.Committee (key 0x70)) (action 0x19 0) vote.No) ∷ (voting (voter.Drep (key 0x31)) (action 0x19 0) vote.Abstain) ∷ (voting (voter.Drep (key 0x31)) (action 0x19 0) vote.Abstain) ∷ (voting (voter.Drep (key 0x10)) (action 0x10 0) vote.Abstain) ∷ []) }))) ∷
    (19, Read (records.Tx (record (spend 0x24 235) { inputs = ((ref 0x09 14) ∷ []); outputs = ((paying (address_with 1 (key 0x10) None) 601 57) ∷ (paying (address_with 1 (key 0x02) None) 1202 0) ∷ []); size = 230; script_fee = 5; until = (Some 51); withdrawals = (((account_on 1 (key 0x14)), 0) ∷ ((account_on 1 (key 0x30)), 0) ∷ []); certs = ((certs.AccountReg (key 0x30) None (Some (pool 0x52)) (Some (drep.Registered (script 0x30)))) ∷ (certs.DrepUnreg (key 0x10) None) ∷ (certs.HotResign (script 0x70)) ∷ (certs.PoolReg (pool 0x50) 0 4 (share 0 1) (account_on 1 (key 0x15)) None) ∷ (certs.PoolReg (pool 0x50) 0 7 (share 1 2) (account_on 1 (key 0x11)) None) ∷ (certs.DrepReg (key 0x30) None) ∷ (certs.DrepUnreg (key 0x31) None) ∷ []); proposals = ((proposing 100 (account_on 1 (key 0x11)) (actions.NoConfidence None)) ∷ (proposing 101 (account_on 1 (key 0x15)) (actions.Info)) ∷ (proposing 100 (account_on 1 (key 0x30)) (actions.TreasuryWithdrawals [] (Some (h28 0x99)))) ∷ (proposing 100 (account_on 1 (key 0x15)) (actions.Info)) ∷ []); votes = ((voting (voter.Committee (key 0x80)) (action 0x23 1) vote.Yes) ∷ (voting (voter.Drep (key 0x10)) (action 0x23 1) vote.No) ∷ (voting (voter.Drep (key 0x10)) (action 0x23 0) vote.Abstain) ∷ (voting (voter.Pool (pool 0x51)) (action 0x19 0) vote.No) ∷ (voting (voter.Pool (pool 0x51)) (action 0x23 1) vote.Yes) ∷ (voting (voter.Pool (pool 0x51)) (action 0x23 2) vote.No) ∷ []) }))) ∷
    (20, Read (records.Print what.Pots)) ∷
    (21, Read (records.Tx (record (spend 0x25 7683) { inputs = ((ref 0x15 2) ∷ (ref 0x09 16) ∷ (ref 0x09 17) ∷ []); outputs = ((paying (address_with 1 (key 0x10) (Some (script 0x10))) 3749 29) ∷ []); size = 184; from = (Some 50); until = (Some 50); donation = 30; certs = ((certs.HotAuth (script 0x70) (key 0x70)) ∷ (certs.DrepUpdate (key 0x31)) ∷ (certs.DrepUnreg (key 0x31) None) ∷ (certs.PoolReg (pool 0x52) 0 1 (share 0 1) (account_on 1 (key 0x11)) None) ∷ []); proposals = ((proposing 100 (account_on 1 (key 0x30)) (actions.ParameterChange (Some (action 0x23 0)) (record no_update { gov_action_lifetime = (Some 2) }) (Some (h28 0x99)))) ∷ []); votes = ((voting (voter.Pool (pool 0x52)) (action 0x23 1) vote.Yes) ∷ []) }))) ∷
    (22, Read (records.Tx (record (spend 0x26 385) { inputs = ((ref 0x01 5) ∷ (ref 0x01 3) ∷ []); outputs = ((paying (address_with 1 (key 0x02) None) 5257 65) ∷ []); size = 376; until = (Some 59); certs = ((certs.DrepUnreg (key 0x31) None) ∷ (certs.Delegate (key 0x15) (Some (pool 0x51)) (Some (drep.Registered (key 0x30)))) ∷ []); proposals = ((proposing 100 (account_on 1 (key 0x30)) (actions.NewConstitution None (h32 0x07) (Some (h28 0x99)))) ∷ (proposing 100 (account_on 1 (key 0x14)) (actions.NewConstitution (Some (action 0x10 0)) (h32 0x08) (Some (h28 0x98)))) ∷ (proposing 100 (account_on 1 (key 0x14)) (actions.Info)) ∷ []); votes = ((voting (voter.Pool (pool 0x51)) (action 0x23 1) vote.Abstain) ∷ (voting (voter.Pool (pool 0x50)) (action 0x23 1) vote.No) ∷ (voting (voter.Pool (pool 0x50)) (action 0x23 0) vote.Abstain) ∷ (voting (voter.Pool (pool 0x51)) (action 0x23 0) vote.Abstain) ∷ (voting (voter.Drep (key 0x10)) (action 0x10 0) vote.Abstain) ∷ (voting (voter.Drep (key 0x30)) (action 0x23 1) vote.Yes) ∷ []) }))) ∷
    (23, Read (records.Tx (record (spend 0x27 8237) { inputs = ((ref 0x09 4) ∷ (ref 0x22 2) ∷ (ref 0x09 16) ∷ []); outputs = ((paying (address_with 1 (key 0x10) None) 6160 65) ∷ (paying (address_with 1 (script 0x03) (Some (key 0x14))) 4106 29) ∷ []); size = 14; until = (Some 51); collateral = ((ref 0x22 2) ∷ []); treasury = (Some 5000); certs = ((certs.Delegate (key 0x30) None (Some (drep.Registered (key 0x10)))) ∷ (certs.HotResign (script 0x70)) ∷ (certs.Delegate (key 0x30) None (Some drep.Abstain)) ∷ (certs.PoolReg (pool 0x51) 5 2 (share 0 1) (account_on 1 (key 0x10)) None) ∷ (certs.PoolRetire (pool 0x50) 6) ∷ (certs.DrepUnreg (key 0x30) None) ∷ (certs.AccountUnreg (key 0x14) None) ∷ []); proposals = ((proposing 100 (account_on 1 (key 0x15)) (actions.NewConstitution (Some (action 0x26 0)) (h32 0x00) (Some (h28 0x98)))) ∷ []); votes = ((voting (voter.Drep (key 0x10)) (action 0x26 1) vote.Abstain) ∷ []) }))) ∷
    (24, Read (records.Tx (record (spend 0x28 247) { inputs = ((ref 0x18 1) ∷ (ref 0x10 0) ∷ []); outputs = ((paying (address_with 1 (key 0x10) (Some (key 0x12))) 412 57) ∷ (paying (address_with 1 (key 0x10) (Some (key 0x10))) 826 65) ∷ []); size = 247; from = (Some 50); until = (Some 51); treasury = (Some 5000); certs = ((certs.DrepReg (key 0x30) (Some 50)) ∷ (certs.AccountReg (key 0x10) None None (Some (drep.Registered (key 0x10)))) ∷ []); proposals = ((proposing 100 (account_on 1 (key 0x11)) (actions.UpdateCommittee None ((key 0x70) ∷ []) (((key 0x72), 14) ∷ []) (share 0 1))) ∷ []); votes = ((voting (voter.Pool (pool 0x51)) (action 0x26 2) vote.Yes) ∷ (voting (voter.Drep (key 0x10)) (action 0x23 1) vote.Abstain) ∷ (voting (voter.Drep (key 0x10)) (action 0x10 0) vote.No) ∷ (voting (voter.Drep (key 0x10)) (action 0x10 0) vote.Abstain) ∷ (voting (voter.Drep (key 0x30)) (action 0x23 0) vote.No) ∷ (voting (voter.Pool (pool 0x51)) (action 0x23 2) vote.No) ∷ []) }))) ∷
    (25, Read (records.Tx (record (spend 0x29 668) { inputs = ((ref 0x15 1) ∷ (ref 0x09 14) ∷ []); outputs = ((paying (address_with 1 (key 0x01) (Some (key 0x11))) 1144 65) ∷ (paying (address_with 1 (script 0x03) None) 572 0) ∷ (paying (address_with 1 (key 0x01) (Some (key 0x11))) 190 0) ∷ []); size = 281; script_fee = 5; withdrawals = (((account_on 1 (key 0x30)), 0) ∷ []); certs = ((certs.PoolRetire (pool 0x50) 6) ∷ (certs.DrepReg (key 0x31) (Some 50)) ∷ (certs.DrepUnreg (key 0x30) (Some 50)) ∷ (certs.PoolRetire (pool 0x51) 6) ∷ []); proposals = ((proposing 100 (account_on 1 (key 0x10)) (actions.UpdateCommittee None ((key 0x70) ∷ []) (((key 0x72), 14) ∷ []) (share 2 3))) ∷ (proposing 100 (account_on 1 (key 0x11)) (actions.NewConstitution (Some (action 0x10 0)) (h32 0x00) (Some (h28 0x98)))) ∷ (proposing 100 (account_on 1 (key 0x15)) (actions.NewConstitution (Some (action 0x26 1)) (h32 0x07) (Some (h28 0x99)))) ∷ []) }))) ∷
    (26, Read (records.Print what.Pots)) ∷
    (27, Read (records.Print what.State)) ∷
    []

pub transactions_of_all_parts_7 : says_all transactions_of_all_parts_7_input (
    codes "1 genesis outputs 69717 deposits 202 rewards 867 fees 0 donations 0 treasury 5000 reserves 0 supply 75786" ∷
    codes "2 accepted" ∷
    codes "3 refused 81 ReturnWrongNetwork at 0" ∷
    codes "4 pots outputs 69616 deposits 346 rewards 800 fees 24 donations 0 treasury 5000 reserves 0 supply 75786" ∷
    codes "5 refused 44 CollateralTooSmall have 10176" ∷
    codes "6 refused 35 TxTooLarge max 16384" ∷
    codes "7 refused 36 OutsideValidity slot 50" ∷
    codes "8 accepted" ∷
    codes "9 refused 43 CollateralNotKey at 1" ∷
    codes "10 refused 89 TermTooSmall at 0" ∷
    codes "11 accepted" ∷
    codes "12 pots outputs 66679 deposits 346 rewards 800 fees 2961 donations 0 treasury 5000 reserves 0 supply 75786" ∷
    codes "13 accepted" ∷
    codes "14 pots outputs 67364 deposits 446 rewards 0 fees 2976 donations 0 treasury 5000 reserves 0 supply 75786" ∷
    codes "15 refused 45 TreasuryValueWrong is 5000" ∷
    codes "16 refused 36 OutsideValidity slot 50" ∷
    codes "17 accepted failed-scripts" ∷
    codes "18 accepted" ∷
    codes "19 refused 60 AccountRegistered at 0" ∷
    codes "20 pots outputs 66799 deposits 796 rewards 0 fees 3161 donations 30 treasury 5000 reserves 0 supply 75786" ∷
    codes "21 refused 36 OutsideValidity slot 50" ∷
    codes "22 accepted" ∷
    codes "23 accepted" ∷
    codes "24 accepted" ∷
    codes "25 accepted" ∷
    codes "26 pots outputs 56512 deposits 1546 rewards 0 fees 12698 donations 30 treasury 5000 reserves 0 supply 75786" ∷
    codes "27 now slot 50 epoch 5 version 10.0 dormant 0" ∷
    codes "27 constitution 0000000000000000000000000000000000000000000000000000000000000001 00000000000000000000000000000000000000000000000000000099" ∷
    codes "27 committee threshold 1/2" ∷
    codes "27 member s00000000000000000000000000000000000000000000000000000070 term 7 hot resigned" ∷
    codes "27 enacted committee none constitution none hardfork none parameters none" ∷
    codes "27 param maxBlockBodySize 90112" ∷
    codes "27 param maxTxSize 16384" ∷
    codes "27 param maxBlockHeaderSize 1100" ∷
    codes "27 param maxValueSize 5000" ∷
    codes "27 param maxTxExUnits 1000 1000" ∷
    codes "27 param maxBlockExUnits 1000 1000" ∷
    codes "27 param maxCollateralInputs 3" ∷
    codes "27 param minFeeA 1" ∷
    codes "27 param minFeeB 0" ∷
    codes "27 param keyDeposit 20" ∷
    codes "27 param poolDeposit 50" ∷
    codes "27 param rho 0/1" ∷
    codes "27 param tau 0/1" ∷
    codes "27 param minPoolCost 0" ∷
    codes "27 param coinsPerUTxOByte 1" ∷
    codes "27 param prices 0/1 0/1" ∷
    codes "27 param minFeeRefScriptCostPerByte 15/1" ∷
    codes "27 param a0 0/1" ∷
    codes "27 param eMax 1" ∷
    codes "27 param nOpt 500" ∷
    codes "27 param costModels 0000000000000000000000000000000000000000000000000000000000000000" ∷
    codes "27 param collateralPercentage 150" ∷
    codes "27 param poolVotingThresholds 0/1 0/1 0/1 0/1 0/1" ∷
    codes "27 param drepVotingThresholds 67/100 67/100 67/100 67/100 67/100 67/100 67/100 67/100 67/100 67/100" ∷
    codes "27 param govActionLifetime 0" ∷
    codes "27 param govActionDeposit 100" ∷
    codes "27 param drepDeposit 50" ∷
    codes "27 param drepActivity 20" ∷
    codes "27 param committeeMinSize 0" ∷
    codes "27 param committeeMaxTermLength 100" ∷
    codes "27 drep k00000000000000000000000000000000000000000000000000000010 deposit 50 expiry 25" ∷
    codes "27 drep k00000000000000000000000000000000000000000000000000000031 deposit 50 expiry 25" ∷
    codes "27 pool 00000000000000000000000000000000000000000000000000000050 deposit 50 cost 400 pledge 1 margin 0/1 account 1s00000000000000000000000000000000000000000000000000000013 retires 6" ∷
    codes "27 next 00000000000000000000000000000000000000000000000000000050 cost 400 pledge 1 margin 0/1 account 1s00000000000000000000000000000000000000000000000000000013" ∷
    codes "27 pool 00000000000000000000000000000000000000000000000000000051 deposit 50 cost 53 pledge 0 margin 1/9 account 1k00000000000000000000000000000000000000000000000000000011 retires 6" ∷
    codes "27 next 00000000000000000000000000000000000000000000000000000051 cost 5 pledge 2 margin 0/1 account 1k00000000000000000000000000000000000000000000000000000010" ∷
    codes "27 account k00000000000000000000000000000000000000000000000000000010 stake 826 deposit 20 rewards 0 pool none drep k00000000000000000000000000000000000000000000000000000010" ∷
    codes "27 account k00000000000000000000000000000000000000000000000000000011 stake 1334 deposit 3 rewards 0 pool 00000000000000000000000000000000000000000000000000000051 drep none" ∷
    codes "27 account k00000000000000000000000000000000000000000000000000000012 stake 1098 unregistered" ∷
    codes "27 account k00000000000000000000000000000000000000000000000000000014 stake 7977 unregistered" ∷
    codes "27 account k00000000000000000000000000000000000000000000000000000015 stake 843 deposit 20 rewards 0 pool 00000000000000000000000000000000000000000000000000000051 drep none" ∷
    codes "27 account k00000000000000000000000000000000000000000000000000000030 stake 0 deposit 3 rewards 0 pool 00000000000000000000000000000000000000000000000000000051 drep abstain" ∷
    codes "27 output 0000000000000000000000000000000000000000000000000000000000000001#2 1s00000000000000000000000000000000000000000000000000000003 5771" ∷
    codes "27 output 0000000000000000000000000000000000000000000000000000000000000001#9 1k00000000000000000000000000000000000000000000000000000001 1477" ∷
    codes "27 output 0000000000000000000000000000000000000000000000000000000000000001#13 1k00000000000000000000000000000000000000000000000000000010 5231" ∷
    codes "27 output 0000000000000000000000000000000000000000000000000000000000000001#18 1s00000000000000000000000000000000000000000000000000000003+k00000000000000000000000000000000000000000000000000000014 2836" ∷
    codes "27 output 0000000000000000000000000000000000000000000000000000000000000009#0 1s00000000000000000000000000000000000000000000000000000003 4835" ∷
    codes "27 output 0000000000000000000000000000000000000000000000000000000000000009#6 1k00000000000000000000000000000000000000000000000000000002+k00000000000000000000000000000000000000000000000000000015 843" ∷
    codes "27 output 0000000000000000000000000000000000000000000000000000000000000009#7 1s00000000000000000000000000000000000000000000000000000003 2017" ∷
    codes "27 output 0000000000000000000000000000000000000000000000000000000000000009#11 1k00000000000000000000000000000000000000000000000000000010 1050" ∷
    codes "27 output 0000000000000000000000000000000000000000000000000000000000000009#17 1s00000000000000000000000000000000000000000000000000000003 5936" ∷
    codes "27 output 0000000000000000000000000000000000000000000000000000000000000015#2 1s00000000000000000000000000000000000000000000000000000003+k00000000000000000000000000000000000000000000000000000012 686" ∷
    codes "27 output 0000000000000000000000000000000000000000000000000000000000000019#0 1k00000000000000000000000000000000000000000000000000000002 5611" ∷
    codes "27 output 0000000000000000000000000000000000000000000000000000000000000023#0 1k00000000000000000000000000000000000000000000000000000001 517" ∷
    codes "27 output 0000000000000000000000000000000000000000000000000000000000000023#1 1k00000000000000000000000000000000000000000000000000000010+k00000000000000000000000000000000000000000000000000000014 1035" ∷
    codes "27 output 0000000000000000000000000000000000000000000000000000000000000026#0 1k00000000000000000000000000000000000000000000000000000002 5257" ∷
    codes "27 output 0000000000000000000000000000000000000000000000000000000000000027#0 1k00000000000000000000000000000000000000000000000000000010 6160" ∷
    codes "27 output 0000000000000000000000000000000000000000000000000000000000000027#1 1s00000000000000000000000000000000000000000000000000000003+k00000000000000000000000000000000000000000000000000000014 4106" ∷
    codes "27 output 0000000000000000000000000000000000000000000000000000000000000028#0 1k00000000000000000000000000000000000000000000000000000010+k00000000000000000000000000000000000000000000000000000012 412" ∷
    codes "27 output 0000000000000000000000000000000000000000000000000000000000000028#1 1k00000000000000000000000000000000000000000000000000000010+k00000000000000000000000000000000000000000000000000000010 826" ∷
    codes "27 output 0000000000000000000000000000000000000000000000000000000000000029#0 1k00000000000000000000000000000000000000000000000000000001+k00000000000000000000000000000000000000000000000000000011 1144" ∷
    codes "27 output 0000000000000000000000000000000000000000000000000000000000000029#1 1s00000000000000000000000000000000000000000000000000000003 572" ∷
    codes "27 output 0000000000000000000000000000000000000000000000000000000000000029#2 1k00000000000000000000000000000000000000000000000000000001+k00000000000000000000000000000000000000000000000000000011 190" ∷
    codes "27 proposal 0000000000000000000000000000000000000000000000000000000000000010#0 NewConstitution deposit 100 return 1k00000000000000000000000000000000000000000000000000000014 expires 5 previous none" ∷
    codes "27 vote 0000000000000000000000000000000000000000000000000000000000000010#0 committee:k00000000000000000000000000000000000000000000000000000070 abstain" ∷
    codes "27 vote 0000000000000000000000000000000000000000000000000000000000000010#0 drep:k00000000000000000000000000000000000000000000000000000010 abstain" ∷
    codes "27 proposal 0000000000000000000000000000000000000000000000000000000000000019#0 HardForkInitiation deposit 100 return 1k00000000000000000000000000000000000000000000000000000015 expires 5 previous none" ∷
    codes "27 vote 0000000000000000000000000000000000000000000000000000000000000019#0 committee:k00000000000000000000000000000000000000000000000000000070 no" ∷
    codes "27 proposal 0000000000000000000000000000000000000000000000000000000000000023#0 ParameterChange deposit 100 return 1k00000000000000000000000000000000000000000000000000000011 expires 5 previous none" ∷
    codes "27 vote 0000000000000000000000000000000000000000000000000000000000000023#0 pool:00000000000000000000000000000000000000000000000000000050 abstain" ∷
    codes "27 vote 0000000000000000000000000000000000000000000000000000000000000023#0 pool:00000000000000000000000000000000000000000000000000000051 abstain" ∷
    codes "27 proposal 0000000000000000000000000000000000000000000000000000000000000023#1 Info deposit 100 return 1k00000000000000000000000000000000000000000000000000000011 expires 5 previous none" ∷
    codes "27 vote 0000000000000000000000000000000000000000000000000000000000000023#1 drep:k00000000000000000000000000000000000000000000000000000010 abstain" ∷
    codes "27 vote 0000000000000000000000000000000000000000000000000000000000000023#1 pool:00000000000000000000000000000000000000000000000000000050 no" ∷
    codes "27 vote 0000000000000000000000000000000000000000000000000000000000000023#1 pool:00000000000000000000000000000000000000000000000000000051 abstain" ∷
    codes "27 proposal 0000000000000000000000000000000000000000000000000000000000000023#2 Info deposit 100 return 1k00000000000000000000000000000000000000000000000000000030 expires 5 previous none" ∷
    codes "27 vote 0000000000000000000000000000000000000000000000000000000000000023#2 pool:00000000000000000000000000000000000000000000000000000051 no" ∷
    codes "27 proposal 0000000000000000000000000000000000000000000000000000000000000026#0 NewConstitution deposit 100 return 1k00000000000000000000000000000000000000000000000000000030 expires 5 previous none" ∷
    codes "27 proposal 0000000000000000000000000000000000000000000000000000000000000026#1 NewConstitution deposit 100 return 1k00000000000000000000000000000000000000000000000000000014 expires 5 previous 0000000000000000000000000000000000000000000000000000000000000010#0" ∷
    codes "27 vote 0000000000000000000000000000000000000000000000000000000000000026#1 drep:k00000000000000000000000000000000000000000000000000000010 abstain" ∷
    codes "27 proposal 0000000000000000000000000000000000000000000000000000000000000026#2 Info deposit 100 return 1k00000000000000000000000000000000000000000000000000000014 expires 5 previous none" ∷
    codes "27 vote 0000000000000000000000000000000000000000000000000000000000000026#2 pool:00000000000000000000000000000000000000000000000000000051 yes" ∷
    codes "27 proposal 0000000000000000000000000000000000000000000000000000000000000027#0 NewConstitution deposit 100 return 1k00000000000000000000000000000000000000000000000000000015 expires 5 previous 0000000000000000000000000000000000000000000000000000000000000026#0" ∷
    codes "27 proposal 0000000000000000000000000000000000000000000000000000000000000028#0 UpdateCommittee deposit 100 return 1k00000000000000000000000000000000000000000000000000000011 expires 5 previous none" ∷
    codes "27 proposal 0000000000000000000000000000000000000000000000000000000000000029#0 UpdateCommittee deposit 100 return 1k00000000000000000000000000000000000000000000000000000010 expires 5 previous none" ∷
    codes "27 proposal 0000000000000000000000000000000000000000000000000000000000000029#1 NewConstitution deposit 100 return 1k00000000000000000000000000000000000000000000000000000011 expires 5 previous 0000000000000000000000000000000000000000000000000000000000000010#0" ∷
    codes "27 proposal 0000000000000000000000000000000000000000000000000000000000000029#2 NewConstitution deposit 100 return 1k00000000000000000000000000000000000000000000000000000015 expires 5 previous 0000000000000000000000000000000000000000000000000000000000000026#1" ∷
    codes "27 snapshot mark 00000000000000000000000000000000000000000000000000000051 4546" ∷
    codes "27 snapshot fees 0" ∷
    codes "27 pending none" ∷
    codes "27 pots outputs 56512 deposits 1546 rewards 0 fees 12698 donations 30 treasury 5000 reserves 0 supply 75786" ∷
    []) ≡ true
unfolding digits encode_with
transactions_of_all_parts_7 = refl

abbrev transactions_of_all_parts_8_input : List (ℕ × Reading)
transactions_of_all_parts_8_input =
    (1, Read (records.Genesis (record { network = 1; slot = 0; epoch_length = 10; version = (10, 0); supply = 31779; reserves = 0; treasury = 0; params = (record base_params { max_collateral_inputs = 1; min_fee_b = 70; min_pool_cost = 340; e_max = 1; collateral_percentage = 100; gov_action_deposit = 100; drep_deposit = 50; drep_activity = 0 }); document = (h32 0x01); script = (Some (h28 0x99)); committee = (Some (record { threshold = (share 1 2); members = (((key 0x70), 3, (Some (key 0x30))) ∷ []) })); outputs = (((ref 0x01 0), (address_with 1 (key 0x10) (Some (key 0x10))), 2659, []) ∷ ((ref 0x09 1), (address_with 1 (script 0x03) None), 2826, []) ∷ ((ref 0x09 2), (address_with 1 (script 0x03) None), 609, []) ∷ ((ref 0x01 3), (address_with 1 (key 0x02) (Some (script 0x13))), 1517, []) ∷ ((ref 0x09 4), (address_with 1 (script 0x03) (Some (key 0x11))), 1865, []) ∷ ((ref 0x09 5), (address_with 1 (script 0x03) None), 1946, []) ∷ ((ref 0x01 6), (address_with 1 (key 0x10) None), 703, []) ∷ ((ref 0x09 7), (address_with 1 (key 0x10) None), 3045, []) ∷ ((ref 0x01 8), (address_with 1 (key 0x01) None), 1823, []) ∷ ((ref 0x09 9), (address_with 1 (key 0x10) (Some (key 0x11))), 1692, []) ∷ ((ref 0x09 10), (address_with 1 (key 0x01) (Some (key 0x15))), 2007, []) ∷ ((ref 0x01 11), (address_with 1 (key 0x10) (Some (key 0x14))), 2102, []) ∷ ((ref 0x01 12), (address_with 1 (script 0x03) None), 5079, []) ∷ ((ref 0x01 13), (address_with 1 (key 0x02) None), 2898, []) ∷ []); accounts = (((script 0x13), 3, 67, (Some (pool 0x10)), (Some drep.NoConfidence)) ∷ ((key 0x12), 2, 800, (Some (pool 0x51)), (Some drep.Abstain)) ∷ ((key 0x11), 2, 67, (Some (pool 0x51)), (Some (drep.Registered (key 0x30)))) ∷ ((key 0x10), 2, 0, (Some (pool 0x51)), None) ∷ []); pools = ((record { pool = (pool 0x10); deposit = 5; cost = 37; pledge = 0; margin = (share 1 9); account = (account_on 1 (key 0x15)); key = None }) ∷ (record { pool = (pool 0x51); deposit = 4; cost = 48; pledge = 0; margin = (share 1 9); account = (account_on 1 (key 0x11)); key = None }) ∷ []); dreps = (((key 0x30), 50, 14) ∷ ((key 0x31), 6, 4) ∷ []) }))) ∷
    (2, Read (records.Tx (record (spend 0x10 188) { inputs = ((ref 0x01 6) ∷ []); outputs = ((paying (address_with 1 (key 0x02) None) 177 65) ∷ (paying (address_with 1 (key 0x02) (Some (script 0x13))) 177 65) ∷ (paying (address_with 1 (script 0x03) None) 59 29) ∷ []); size = 11; from = (Some 0); until = (Some 1); certs = ((certs.AccountReg (key 0x14) None None None) ∷ (certs.AccountUnreg (key 0x14) None) ∷ (certs.AccountReg (key 0x14) None None None) ∷ []); proposals = ((proposing 100 (account_on 1 (key 0x14)) (actions.ParameterChange None (record no_update { gov_action_deposit = (Some 2) }) (Some (h28 0x99)))) ∷ []) }))) ∷
    (3, Read (records.Tx (record (spend 0x11 79) { inputs = ((ref 0x09 4) ∷ []); outputs = ((paying (address_with 1 (key 0x02) None) 1686 0) ∷ (paying (address_with 1 (script 0x03) None) 0 65) ∷ (paying (address_with 1 (key 0x02) (Some (key 0x15))) 0 29) ∷ []); size = 36; until = (Some 9); certs = ((certs.DrepUpdate (key 0x10)) ∷ (certs.DrepUpdate (key 0x31)) ∷ (certs.HotResign (key 0x70)) ∷ []); proposals = ((proposing 100 (account_on 1 (script 0x13)) (actions.UpdateCommittee None ((key 0x70) ∷ (script 0x70) ∷ []) (((script 0x70), 0) ∷ []) (share 2 3))) ∷ (proposing 100 (account_on 1 (key 0x10)) (actions.ParameterChange (Some (action 0x10 0)) (record no_update { key_deposit = (Some 1) }) (Some (h28 0x99)))) ∷ (proposing 100 (account_on 1 (script 0x13)) (actions.HardForkInitiation None (10, 1))) ∷ []); votes = ((voting (voter.Pool (pool 0x51)) (action 0x10 0) vote.Abstain) ∷ (voting (voter.Drep (key 0x30)) (action 0x10 0) vote.Abstain) ∷ (voting (voter.Drep (key 0x31)) (action 0x10 0) vote.Yes) ∷ []) }))) ∷
    (4, Read (records.Print what.Pots)) ∷
    (5, Read (records.Tx (record (spend 0x12 1920) { inputs = ((ref 0x09 7) ∷ []); outputs = ((paying (address_with 1 (key 0x10) None) 925 57) ∷ []); size = 129; treasury = (Some 0); proposals = ((proposing 100 (account_on 1 (key 0x14)) (actions.NoConfidence None)) ∷ (proposing 100 (account_on 1 (key 0x12)) (actions.Info)) ∷ []); votes = ((voting (voter.Pool (pool 0x51)) (action 0x10 0) vote.No) ∷ []) }))) ∷
    (6, Read (records.Tx (record (spend 0x13 301) { inputs = ((ref 0x10 2) ∷ (ref 0x09 2) ∷ []); outputs = ((paying (address_with 1 (key 0x02) None) 165 29) ∷ (paying (address_with 1 (key 0x02) None) 110 29) ∷ []); size = 72; until = (Some 1); certs = ((certs.PoolReg (pool 0x10) 345 1 (share 0 1) (account_on 1 (script 0x13)) None) ∷ (certs.PoolReg (pool 0x10) 340 6 (share 1 2) (account_on 1 (key 0x14)) None) ∷ (certs.DrepUnreg (key 0x31) None) ∷ (certs.Delegate (key 0x10) None (Some (drep.Registered (key 0x10)))) ∷ (certs.Delegate (script 0x13) None (Some (drep.Registered (key 0x30)))) ∷ (certs.DrepReg (key 0x10) (Some 50)) ∷ (certs.DrepReg (key 0x31) None) ∷ (certs.AccountUnreg (key 0x14) None) ∷ []) }))) ∷
    (7, Read (records.Print what.Pots)) ∷
    (8, Read (records.Tx (record (spend 0x14 2200) { inputs = ((ref 0x09 9) ∷ (ref 0x09 4) ∷ (ref 0x09 10) ∷ []); outputs = ((paying (address_with 1 (key 0x02) (Some (script 0x10))) 2115 57) ∷ (paying (address_with 1 (script 0x03) None) 2116 0) ∷ []); size = 146; script_fee = 5; until = (Some 9); withdrawals = (((account_on 1 (key 0x11)), 67) ∷ ((account_on 1 (key 0x12)), 800) ∷ []); votes = ((voting (voter.Pool (pool 0x10)) (action 0x10 0) vote.No) ∷ (voting (voter.Drep (key 0x30)) (action 0x12 1) vote.Abstain) ∷ (voting (voter.Pool (pool 0x10)) (action 0x10 0) vote.Abstain) ∷ (voting (voter.Pool (pool 0x10)) (action 0x12 0) vote.Yes) ∷ (voting (voter.Pool (pool 0x51)) (action 0x12 1) vote.Abstain) ∷ (voting (voter.Drep (key 0x31)) (action 0x10 0) vote.Yes) ∷ []) }))) ∷
    (9, Read (records.Tx (record (spend 0x15 79) { inputs = ((ref 0x12 0) ∷ []); outputs = ((paying (address_with 1 (key 0x01) (Some (script 0x13))) 752 57) ∷ (paying (address_with 1 (key 0x02) None) 0 57) ∷ (paying (address_with 1 (key 0x01) None) 0 65) ∷ []); size = 58; from = (Some 0); until = (Some 1); treasury = (Some 0); certs = ((certs.HotResign (key 0x70)) ∷ (certs.DrepUnreg (key 0x30) (Some 50)) ∷ (certs.DrepReg (key 0x10) (Some 50)) ∷ (certs.DrepUpdate (key 0x10)) ∷ (certs.Delegate (script 0x13) None (Some drep.Abstain)) ∷ (certs.PoolReg (pool 0x51) 345 1 (share 1 2) (account_on 1 (key 0x30)) None) ∷ (certs.DrepUnreg (key 0x31) None) ∷ []); proposals = ((proposing 100 (account_on 1 (key 0x11)) (actions.HardForkInitiation None (10, 0))) ∷ (proposing 100 (account_on 1 (key 0x11)) (actions.Info)) ∷ []); votes = ((voting (voter.Pool (pool 0x10)) (action 0x10 0) vote.Abstain) ∷ []) }))) ∷
    (10, Read (records.Tx (record (spend 0x16 70) { inputs = ((ref 0x01 11) ∷ (ref 0x10 1) ∷ (ref 0x14 1) ∷ []); outputs = ((paying (address_with 1 (key 0x01) None) 1408 29) ∷ (paying (address_with 1 (script 0x03) None) 2817 57) ∷ (paying (address_with 1 (key 0x01) None) 0 65) ∷ []); size = 148; from = (Some 0); until = (Some 9); collateral = ((ref 0x01 24) ∷ []); withdrawals = (((account_on 1 (key 0x12)), 0) ∷ []); certs = ((certs.DrepUnreg (key 0x30) None) ∷ (certs.DrepReg (key 0x30) None) ∷ (certs.Delegate (script 0x13) None (Some (drep.Registered (key 0x30)))) ∷ []); proposals = ((proposing 100 (account_on 1 (script 0x13)) (actions.UpdateCommittee None [] [] (share 2 3))) ∷ []) }))) ∷
    (11, Read (records.Tx (record (spend 0x17 178) { inputs = ((ref 0x12 0) ∷ (ref 0x10 0) ∷ []); outputs = ((paying (address_with 1 (key 0x02) None) 395 0) ∷ (paying (address_with 1 (key 0x01) (Some (key 0x11))) 197 0) ∷ (paying (address_with 1 (key 0x01) None) 99 29) ∷ []); size = 252; withdrawals = (((account_on 1 (key 0x11)), 0) ∷ ((account_on 1 (script 0x13)), 67) ∷ []); proposals = ((proposing 100 (account_on 1 (key 0x10)) (actions.UpdateCommittee None ((key 0x70) ∷ []) (((script 0x70), 1) ∷ ((key 0x72), 5) ∷ []) (share 0 1))) ∷ (proposing 100 (account_on 1 (key 0x10)) (actions.NoConfidence (Some (action 0x12 0)))) ∷ (proposing 100 (account_on 1 (key 0x12)) (actions.NewConstitution None (h32 0x00) (Some (h28 0x98)))) ∷ []); votes = ((voting (voter.Pool (pool 0x51)) (action 0x12 1) vote.No) ∷ []) }))) ∷
    (12, Read (records.Tx (record (spend 0x18 75) { inputs = ((ref 0x14 0) ∷ (ref 0x01 12) ∷ (ref 0x09 5) ∷ []); outputs = ((paying (address_with 1 (key 0x10) None) 4467 65) ∷ (paying (address_with 1 (key 0x01) None) 4468 65) ∷ (paying (address_with 1 (key 0x02) None) 0 29) ∷ (paying (address_with 1 (key 0x10) None) 0 57) ∷ []); size = 32; script_fee = 5; from = (Some 0); donation = 30; proposals = ((proposing 100 (account_on 1 (key 0x14)) (actions.HardForkInitiation None (11, 0))) ∷ []) }))) ∷
    (13, Read (records.Tx (record (spend 0x12 70) { inputs = ((ref 0x18 0) ∷ []); outputs = ((paying (address_with 1 (script 0x03) None) 4047 57) ∷ (paying (address_with 1 (script 0x03) (Some (key 0x15))) 0 29) ∷ []); size = 144; scripts = scripts.Failed; from = (Some 0); collateral = ((ref 0x17 2) ∷ []); withdrawals = (((account_on 1 (key 0x12)), 0) ∷ ((account_on 1 (key 0x11)), 0) ∷ []); certs = ((certs.DrepReg (key 0x10) None) ∷ []); proposals = ((proposing 100 (account_on 1 (key 0x12)) (actions.NoConfidence None)) ∷ (proposing 100 (account_on 1 (script 0x13)) (actions.UpdateCommittee (Some (action 0x17 1)) [] [] (share 0 1))) ∷ (proposing 100 (account_on 1 (key 0x11)) (actions.ParameterChange (Some (action 0x10 0)) (record no_update { max_block_body_size = (Some 2); min_fee_a = (Some 1) }) (Some (h28 0x99)))) ∷ []); votes = ((voting (voter.Drep (key 0x10)) (action 0x12 0) vote.Abstain) ∷ (voting (voter.Drep (key 0x31)) (action 0x17 1) vote.Abstain) ∷ (voting (voter.Pool (pool 0x51)) (action 0x17 0) vote.Yes) ∷ []) }))) ∷
    (14, Read (records.Tx (record (spend 0x20 79) { inputs = ((ref 0x09 1) ∷ (ref 0x01 13) ∷ (ref 0x09 2) ∷ []); outputs = ((paying (address_with 1 (key 0x10) None) 6154 57) ∷ (paying (address_with 1 (key 0x10) (Some (script 0x10))) 0 29) ∷ (paying (address_with 1 (key 0x02) (Some (script 0x13))) 0 57) ∷ []); size = 195; treasury = (Some 0); certs = ((certs.HotAuth (script 0x70) (script 0x80)) ∷ []); proposals = ((proposing 100 (account_on 1 (script 0x13)) (actions.Info)) ∷ []); votes = ((voting (voter.Pool (pool 0x10)) (action 0x17 1) vote.Yes) ∷ []) }))) ∷
    (15, Read (records.Tx (record (spend 0x21 70) { inputs = ((ref 0x17 1) ∷ (ref 0x10 1) ∷ []); outputs = ((paying (address_with 1 (script 0x03) (Some (key 0x14))) 204 0) ∷ (paying (address_with 1 (key 0x02) None) 0 65) ∷ []); size = 99; from = (Some 0); until = (Some 9); proposals = ((proposing 100 (account_on 1 (key 0x11)) (actions.TreasuryWithdrawals (((account_on 1 (key 0x12)), 99) ∷ ((account_on 1 (key 0x11)), 0) ∷ []) (Some (h28 0x99)))) ∷ []); votes = ((voting (voter.Pool (pool 0x10)) (action 0x18 0) vote.Abstain) ∷ (voting (voter.Drep (key 0x30)) (action 0x17 2) vote.Abstain) ∷ (voting (voter.Drep (key 0x30)) (action 0x10 0) vote.Yes) ∷ []) }))) ∷
    (16, Read (records.Tx (record (spend 0x22 70) { inputs = ((ref 0x21 0) ∷ []); outputs = ((paying (address_with 1 (key 0x02) None) 134 29) ∷ (paying (address_with 1 (key 0x01) (Some (key 0x11))) 0 29) ∷ (paying (address_with 1 (script 0x03) None) 0 65) ∷ (paying (address_with 1 (key 0x01) (Some (key 0x11))) 0 57) ∷ []); size = 334; treasury = (Some 0); withdrawals = (((account_on 1 (key 0x12)), 0) ∷ ((account_on 1 (script 0x13)), 0) ∷ []) }))) ∷
    (17, Read (records.Tx (record (spend 0x23 70) { inputs = ((ref 0x20 1) ∷ (ref 0x22 1) ∷ (ref 0x18 3) ∷ (ref 0x17 0) ∷ []); outputs = ((paying (address_with 1 (key 0x02) None) 12 0) ∷ (paying (address_with 1 (script 0x03) None) 13 57) ∷ (paying (address_with 1 (key 0x01) (Some (key 0x30))) 0 57) ∷ []); size = 143; from = (Some 0); treasury = (Some 0); withdrawals = (((account_on 1 (script 0x13)), 0) ∷ ((account_on 1 (key 0x11)), 0) ∷ []); certs = ((certs.AccountReg (script 0x10) (Some 3) (Some (pool 0x51)) (Some (drep.Registered (key 0x10)))) ∷ []); proposals = ((proposing 100 (account_on 1 (key 0x10)) (actions.ParameterChange None (record no_update { min_fee_a = (Some 2); min_fee_ref_script_cost_per_byte = (Some (share 15 1)) }) (Some (h28 0x99)))) ∷ (proposing 100 (account_on 1 (key 0x14)) (actions.HardForkInitiation (Some (action 0x18 0)) (12, 0))) ∷ (proposing 100 (account_on 1 (script 0x13)) (actions.NewConstitution (Some (action 0x17 2)) (h32 0x04) (Some (h28 0x99)))) ∷ []); votes = ((voting (voter.Drep (key 0x31)) (action 0x21 0) vote.Abstain) ∷ (voting (voter.Pool (pool 0x10)) (action 0x12 0) vote.Yes) ∷ (voting (voter.Committee (script 0x80)) (action 0x21 0) vote.No) ∷ (voting (voter.Pool (pool 0x51)) (action 0x10 0) vote.Abstain) ∷ (voting (voter.Drep (key 0x30)) (action 0x20 0) vote.No) ∷ (voting (voter.Drep (key 0x31)) (action 0x20 0) vote.No) ∷ []) }))) ∷
    (18, Read (records.Tx (record (spend 0x24 70) { inputs = ((ref 0x18 0) ∷ []); outputs = ((paying (address_with 1 (key 0x01) None) 2198 65) ∷ (paying (address_with 1 (key 0x10) (Some (key 0x10))) 2199 29) ∷ (paying (address_with 1 (key 0x01) (Some (key 0x14))) 0 0) ∷ []); size = 218; treasury = (Some 0); withdrawals = (((account_on 1 (script 0x13)), 0) ∷ []); certs = ((certs.DrepUpdate (key 0x30)) ∷ (certs.PoolRetire (pool 0x10) 0) ∷ (certs.PoolReg (pool 0x51) 340 7 (share 1 2) (account_on 1 (key 0x30)) None) ∷ []) }))) ∷
    (19, Read (records.Tx (record (spend 0x25 2794) { inputs = ((ref 0x20 0) ∷ (ref 0x14 1) ∷ []); outputs = ((paying (address_with 1 (key 0x10) (Some (key 0x14))) 2714 29) ∷ (paying (address_with 1 (script 0x03) (Some (key 0x12))) 2715 0) ∷ []); size = 72; from = (Some 0); until = (Some 1); withdrawals = (((account_on 1 (key 0x11)), 0) ∷ ((account_on 1 (key 0x12)), 0) ∷ []); certs = ((certs.AccountUnreg (key 0x14) None) ∷ (certs.DrepReg (key 0x10) (Some 50)) ∷ (certs.DrepUnreg (key 0x31) None) ∷ (certs.HotAuth (script 0x70) (key 0x30)) ∷ (certs.PoolReg (pool 0x51) 340 2 (share 1 2) (account_on 1 (key 0x14)) None) ∷ (certs.DrepUpdate (key 0x10)) ∷ (certs.PoolReg (pool 0x50) 340 6 (share 0 1) (account_on 1 (script 0x10)) None) ∷ []); votes = ((voting (voter.Pool (pool 0x51)) (action 0x12 1) vote.Abstain) ∷ []) }))) ∷
    (20, Read (records.Tx (record (spend 0x26 2026) { inputs = ((ref 0x14 38) ∷ (ref 0x18 0) ∷ []); outputs = ((paying (address_with 1 (key 0x01) None) 1466 65) ∷ (paying (address_with 1 (script 0x03) None) 977 65) ∷ []); size = 182; from = (Some 0); until = (Some 1); collateral = ((ref 0x18 3) ∷ []); withdrawals = (((account_on 1 (key 0x12)), 0) ∷ ((account_on 1 (script 0x13)), 0) ∷ []); certs = ((certs.AccountUnreg (key 0x12) None) ∷ (certs.HotResign (script 0x70)) ∷ []) }))) ∷
    (21, Read (records.Tx (record (spend 0x27 70) { inputs = ((ref 0x17 2) ∷ (ref 0x01 3) ∷ []); outputs = ((paying (address_with 1 (key 0x01) (Some (key 0x12))) 482 65) ∷ (paying (address_with 1 (key 0x02) None) 964 29) ∷ []); size = 219; certs = ((certs.AccountUnreg (key 0x11) None) ∷ (certs.AccountReg (key 0x11) None None (Some drep.Abstain)) ∷ []); proposals = ((proposing 100 (account_on 1 (key 0x10)) (actions.Info)) ∷ []); votes = ((voting (voter.Drep (key 0x10)) (action 0x12 1) vote.Yes) ∷ (voting (voter.Pool (pool 0x10)) (action 0x12 0) vote.No) ∷ (voting (voter.Pool (pool 0x51)) (action 0x18 0) vote.Yes) ∷ []) }))) ∷
    (22, Read (records.Tx (record (spend 0x28 75) { inputs = ((ref 0x18 0) ∷ (ref 0x27 0) ∷ []); outputs = ((paying (address_with 1 (key 0x02) None) 4519 65) ∷ (paying (address_with 1 (key 0x01) None) 0 0) ∷ []); size = 127; script_fee = 5; from = (Some 0); until = (Some 1); withdrawals = (((account_on 1 (key 0x11)), 0) ∷ []); certs = ((certs.DrepUnreg (key 0x10) None) ∷ (certs.PoolReg (pool 0x51) 340 5 (share 1 2) (account_on 1 (key 0x12)) None) ∷ (certs.AccountReg (key 0x15) None (Some (pool 0x10)) (Some drep.NoConfidence)) ∷ (certs.AccountUnreg (key 0x15) None) ∷ (certs.PoolReg (pool 0x52) 340 5 (share 1 2) (account_on 1 (key 0x10)) None) ∷ (certs.DrepReg (key 0x10) (Some 50)) ∷ (certs.DrepReg (script 0x30) None) ∷ []); proposals = ((proposing 100 (account_on 1 (key 0x11)) (actions.NoConfidence None)) ∷ (proposing 100 (account_on 1 (key 0x12)) (actions.UpdateCommittee (Some (action 0x12 0)) [] (((key 0x72), 5) ∷ ((key 0x71), 9) ∷ []) (share 2 3))) ∷ (proposing 100 (account_on 1 (key 0x11)) (actions.NewConstitution None (h32 0x04) None)) ∷ []); votes = ((voting (voter.Pool (pool 0x50)) (action 0x17 0) vote.Abstain) ∷ []) }))) ∷
    (23, Read (records.Tx (record (spend 0x29 70) { inputs = ((ref 0x28 0) ∷ []); outputs = ((paying (address_with 1 (key 0x01) None) 4351 65) ∷ (paying (address_with 1 (script 0x03) (Some (key 0x11))) 0 0) ∷ []); size = 332; from = (Some 0); until = (Some 9); withdrawals = (((account_on 1 (key 0x11)), 0) ∷ ((account_on 1 (script 0x13)), 0) ∷ []); certs = ((certs.HotResign (script 0x70)) ∷ (certs.PoolReg (pool 0x51) 340 6 (share 1 2) (account_on 1 (key 0x10)) None) ∷ (certs.Delegate (key 0x11) None (Some (drep.Registered (script 0x30)))) ∷ (certs.PoolReg (pool 0x52) 340 2 (share 0 1) (account_on 1 (key 0x15)) None) ∷ (certs.HotAuth (key 0x71) (key 0x80)) ∷ (certs.AccountUnreg (key 0x11) None) ∷ (certs.DrepUpdate (script 0x30)) ∷ []); proposals = ((proposing 100 (account_on 1 (key 0x12)) (actions.NoConfidence (Some (action 0x17 0)))) ∷ []); votes = ((voting (voter.Committee (key 0x30)) (action 0x21 0) vote.No) ∷ (voting (voter.Pool (pool 0x51)) (action 0x28 0) vote.Abstain) ∷ (voting (voter.Pool (pool 0x51)) (action 0x10 0) vote.No) ∷ (voting (voter.Pool (pool 0x10)) (action 0x17 0) vote.No) ∷ (voting (voter.Pool (pool 0x52)) (action 0x20 0) vote.Yes) ∷ (voting (voter.Drep (key 0x10)) (action 0x28 1) vote.No) ∷ []) }))) ∷
    (24, Read (records.Print what.Pots)) ∷
    (25, Read (records.Print what.State)) ∷
    []

pub transactions_of_all_parts_8 : says_all transactions_of_all_parts_8_input (
    codes "1 genesis outputs 30771 deposits 74 rewards 934 fees 0 donations 0 treasury 0 reserves 0 supply 31779" ∷
    codes "2 accepted" ∷
    codes "3 refused 66 DrepUnknown at 0" ∷
    codes "4 pots outputs 30481 deposits 176 rewards 934 fees 188 donations 0 treasury 0 reserves 0 supply 31779" ∷
    codes "5 accepted" ∷
    codes "6 refused 66 DrepUnknown at 3" ∷
    codes "7 pots outputs 28361 deposits 376 rewards 934 fees 2108 donations 0 treasury 0 reserves 0 supply 31779" ∷
    codes "8 accepted" ∷
    codes "9 refused 91 CannotFollow at 0" ∷
    codes "10 refused 42 CollateralMissing at 0" ∷
    codes "11 accepted" ∷
    codes "12 accepted" ∷
    codes "13 refused 30 TxIdUsed" ∷
    codes "14 accepted" ∷
    codes "15 accepted" ∷
    codes "16 accepted" ∷
    codes "17 refused 62 DepositWrong at 0 want 2" ∷
    codes "18 refused 70 RetirementEpochWrong at 1 now 0" ∷
    codes "19 accepted" ∷
    codes "20 refused 33 InputMissing at 0" ∷
    codes "21 accepted" ∷
    codes "22 accepted" ∷
    codes "23 accepted" ∷
    codes "24 pots outputs 22384 deposits 1576 rewards 0 fees 7789 donations 30 treasury 0 reserves 0 supply 31779" ∷
    codes "25 now slot 0 epoch 0 version 10.0 dormant 0" ∷
    codes "25 constitution 0000000000000000000000000000000000000000000000000000000000000001 00000000000000000000000000000000000000000000000000000099" ∷
    codes "25 committee threshold 1/2" ∷
    codes "25 member k00000000000000000000000000000000000000000000000000000070 term 3 hot k00000000000000000000000000000000000000000000000000000030" ∷
    codes "25 hot s00000000000000000000000000000000000000000000000000000070 resigned" ∷
    codes "25 hot k00000000000000000000000000000000000000000000000000000071 k00000000000000000000000000000000000000000000000000000080" ∷
    codes "25 enacted committee none constitution none hardfork none parameters none" ∷
    codes "25 param maxBlockBodySize 90112" ∷
    codes "25 param maxTxSize 16384" ∷
    codes "25 param maxBlockHeaderSize 1100" ∷
    codes "25 param maxValueSize 5000" ∷
    codes "25 param maxTxExUnits 1000 1000" ∷
    codes "25 param maxBlockExUnits 1000 1000" ∷
    codes "25 param maxCollateralInputs 1" ∷
    codes "25 param minFeeA 0" ∷
    codes "25 param minFeeB 70" ∷
    codes "25 param keyDeposit 2" ∷
    codes "25 param poolDeposit 5" ∷
    codes "25 param rho 0/1" ∷
    codes "25 param tau 0/1" ∷
    codes "25 param minPoolCost 340" ∷
    codes "25 param coinsPerUTxOByte 0" ∷
    codes "25 param prices 0/1 0/1" ∷
    codes "25 param minFeeRefScriptCostPerByte 15/1" ∷
    codes "25 param a0 0/1" ∷
    codes "25 param eMax 1" ∷
    codes "25 param nOpt 500" ∷
    codes "25 param costModels 0000000000000000000000000000000000000000000000000000000000000000" ∷
    codes "25 param collateralPercentage 100" ∷
    codes "25 param poolVotingThresholds 0/1 0/1 0/1 0/1 0/1" ∷
    codes "25 param drepVotingThresholds 67/100 67/100 67/100 67/100 67/100 67/100 67/100 67/100 67/100 67/100" ∷
    codes "25 param govActionLifetime 2" ∷
    codes "25 param govActionDeposit 100" ∷
    codes "25 param drepDeposit 50" ∷
    codes "25 param drepActivity 0" ∷
    codes "25 param committeeMinSize 0" ∷
    codes "25 param committeeMaxTermLength 100" ∷
    codes "25 drep k00000000000000000000000000000000000000000000000000000010 deposit 50 expiry 0" ∷
    codes "25 drep k00000000000000000000000000000000000000000000000000000030 deposit 50 expiry 0" ∷
    codes "25 drep s00000000000000000000000000000000000000000000000000000030 deposit 50 expiry 0" ∷
    codes "25 pool 00000000000000000000000000000000000000000000000000000010 deposit 5 cost 37 pledge 0 margin 1/9 account 1k00000000000000000000000000000000000000000000000000000015 retires never" ∷
    codes "25 pool 00000000000000000000000000000000000000000000000000000050 deposit 5 cost 340 pledge 6 margin 0/1 account 1s00000000000000000000000000000000000000000000000000000010 retires never" ∷
    codes "25 pool 00000000000000000000000000000000000000000000000000000051 deposit 4 cost 48 pledge 0 margin 1/9 account 1k00000000000000000000000000000000000000000000000000000011 retires never" ∷
    codes "25 next 00000000000000000000000000000000000000000000000000000051 cost 340 pledge 6 margin 1/2 account 1k00000000000000000000000000000000000000000000000000000010" ∷
    codes "25 pool 00000000000000000000000000000000000000000000000000000052 deposit 5 cost 340 pledge 5 margin 1/2 account 1k00000000000000000000000000000000000000000000000000000010 retires never" ∷
    codes "25 next 00000000000000000000000000000000000000000000000000000052 cost 340 pledge 2 margin 0/1 account 1k00000000000000000000000000000000000000000000000000000015" ∷
    codes "25 account k00000000000000000000000000000000000000000000000000000010 stake 2659 deposit 2 rewards 0 pool 00000000000000000000000000000000000000000000000000000051 drep none" ∷
    codes "25 account k00000000000000000000000000000000000000000000000000000012 stake 2715 deposit 2 rewards 0 pool 00000000000000000000000000000000000000000000000000000051 drep abstain" ∷
    codes "25 account s00000000000000000000000000000000000000000000000000000013 stake 0 deposit 3 rewards 0 pool 00000000000000000000000000000000000000000000000000000010 drep no-confidence" ∷
    codes "25 account k00000000000000000000000000000000000000000000000000000014 stake 4816 unregistered" ∷
    codes "25 output 0000000000000000000000000000000000000000000000000000000000000001#0 1k00000000000000000000000000000000000000000000000000000010+k00000000000000000000000000000000000000000000000000000010 2659" ∷
    codes "25 output 0000000000000000000000000000000000000000000000000000000000000001#8 1k00000000000000000000000000000000000000000000000000000001 1823" ∷
    codes "25 output 0000000000000000000000000000000000000000000000000000000000000001#11 1k00000000000000000000000000000000000000000000000000000010+k00000000000000000000000000000000000000000000000000000014 2102" ∷
    codes "25 output 0000000000000000000000000000000000000000000000000000000000000010#2 1s00000000000000000000000000000000000000000000000000000003 59" ∷
    codes "25 output 0000000000000000000000000000000000000000000000000000000000000017#0 1k00000000000000000000000000000000000000000000000000000002 395" ∷
    codes "25 output 0000000000000000000000000000000000000000000000000000000000000018#1 1k00000000000000000000000000000000000000000000000000000001 4468" ∷
    codes "25 output 0000000000000000000000000000000000000000000000000000000000000018#2 1k00000000000000000000000000000000000000000000000000000002 0" ∷
    codes "25 output 0000000000000000000000000000000000000000000000000000000000000018#3 1k00000000000000000000000000000000000000000000000000000010 0" ∷
    codes "25 output 0000000000000000000000000000000000000000000000000000000000000020#1 1k00000000000000000000000000000000000000000000000000000010+s00000000000000000000000000000000000000000000000000000010 0" ∷
    codes "25 output 0000000000000000000000000000000000000000000000000000000000000020#2 1k00000000000000000000000000000000000000000000000000000002+s00000000000000000000000000000000000000000000000000000013 0" ∷
    codes "25 output 0000000000000000000000000000000000000000000000000000000000000021#1 1k00000000000000000000000000000000000000000000000000000002 0" ∷
    codes "25 output 0000000000000000000000000000000000000000000000000000000000000022#0 1k00000000000000000000000000000000000000000000000000000002 134" ∷
    codes "25 output 0000000000000000000000000000000000000000000000000000000000000022#1 1k00000000000000000000000000000000000000000000000000000001+k00000000000000000000000000000000000000000000000000000011 0" ∷
    codes "25 output 0000000000000000000000000000000000000000000000000000000000000022#2 1s00000000000000000000000000000000000000000000000000000003 0" ∷
    codes "25 output 0000000000000000000000000000000000000000000000000000000000000022#3 1k00000000000000000000000000000000000000000000000000000001+k00000000000000000000000000000000000000000000000000000011 0" ∷
    codes "25 output 0000000000000000000000000000000000000000000000000000000000000025#0 1k00000000000000000000000000000000000000000000000000000010+k00000000000000000000000000000000000000000000000000000014 2714" ∷
    codes "25 output 0000000000000000000000000000000000000000000000000000000000000025#1 1s00000000000000000000000000000000000000000000000000000003+k00000000000000000000000000000000000000000000000000000012 2715" ∷
    codes "25 output 0000000000000000000000000000000000000000000000000000000000000027#1 1k00000000000000000000000000000000000000000000000000000002 964" ∷
    codes "25 output 0000000000000000000000000000000000000000000000000000000000000028#1 1k00000000000000000000000000000000000000000000000000000001 0" ∷
    codes "25 output 0000000000000000000000000000000000000000000000000000000000000029#0 1k00000000000000000000000000000000000000000000000000000001 4351" ∷
    codes "25 output 0000000000000000000000000000000000000000000000000000000000000029#1 1s00000000000000000000000000000000000000000000000000000003+k00000000000000000000000000000000000000000000000000000011 0" ∷
    codes "25 proposal 0000000000000000000000000000000000000000000000000000000000000010#0 ParameterChange deposit 100 return 1k00000000000000000000000000000000000000000000000000000014 expires 2 previous none" ∷
    codes "25 vote 0000000000000000000000000000000000000000000000000000000000000010#0 drep:k00000000000000000000000000000000000000000000000000000030 yes" ∷
    codes "25 vote 0000000000000000000000000000000000000000000000000000000000000010#0 pool:00000000000000000000000000000000000000000000000000000010 abstain" ∷
    codes "25 vote 0000000000000000000000000000000000000000000000000000000000000010#0 pool:00000000000000000000000000000000000000000000000000000051 no" ∷
    codes "25 proposal 0000000000000000000000000000000000000000000000000000000000000012#0 NoConfidence deposit 100 return 1k00000000000000000000000000000000000000000000000000000014 expires 2 previous none" ∷
    codes "25 vote 0000000000000000000000000000000000000000000000000000000000000012#0 pool:00000000000000000000000000000000000000000000000000000010 no" ∷
    codes "25 proposal 0000000000000000000000000000000000000000000000000000000000000012#1 Info deposit 100 return 1k00000000000000000000000000000000000000000000000000000012 expires 2 previous none" ∷
    codes "25 vote 0000000000000000000000000000000000000000000000000000000000000012#1 drep:k00000000000000000000000000000000000000000000000000000030 abstain" ∷
    codes "25 vote 0000000000000000000000000000000000000000000000000000000000000012#1 pool:00000000000000000000000000000000000000000000000000000051 abstain" ∷
    codes "25 proposal 0000000000000000000000000000000000000000000000000000000000000017#0 UpdateCommittee deposit 100 return 1k00000000000000000000000000000000000000000000000000000010 expires 2 previous none" ∷
    codes "25 vote 0000000000000000000000000000000000000000000000000000000000000017#0 pool:00000000000000000000000000000000000000000000000000000010 no" ∷
    codes "25 vote 0000000000000000000000000000000000000000000000000000000000000017#0 pool:00000000000000000000000000000000000000000000000000000050 abstain" ∷
    codes "25 proposal 0000000000000000000000000000000000000000000000000000000000000017#1 NoConfidence deposit 100 return 1k00000000000000000000000000000000000000000000000000000010 expires 2 previous 0000000000000000000000000000000000000000000000000000000000000012#0" ∷
    codes "25 vote 0000000000000000000000000000000000000000000000000000000000000017#1 pool:00000000000000000000000000000000000000000000000000000010 yes" ∷
    codes "25 proposal 0000000000000000000000000000000000000000000000000000000000000017#2 NewConstitution deposit 100 return 1k00000000000000000000000000000000000000000000000000000012 expires 2 previous none" ∷
    codes "25 vote 0000000000000000000000000000000000000000000000000000000000000017#2 drep:k00000000000000000000000000000000000000000000000000000030 abstain" ∷
    codes "25 proposal 0000000000000000000000000000000000000000000000000000000000000018#0 HardForkInitiation deposit 100 return 1k00000000000000000000000000000000000000000000000000000014 expires 2 previous none" ∷
    codes "25 vote 0000000000000000000000000000000000000000000000000000000000000018#0 pool:00000000000000000000000000000000000000000000000000000010 abstain" ∷
    codes "25 vote 0000000000000000000000000000000000000000000000000000000000000018#0 pool:00000000000000000000000000000000000000000000000000000051 yes" ∷
    codes "25 proposal 0000000000000000000000000000000000000000000000000000000000000020#0 Info deposit 100 return 1s00000000000000000000000000000000000000000000000000000013 expires 2 previous none" ∷
    codes "25 vote 0000000000000000000000000000000000000000000000000000000000000020#0 pool:00000000000000000000000000000000000000000000000000000052 yes" ∷
    codes "25 proposal 0000000000000000000000000000000000000000000000000000000000000021#0 TreasuryWithdrawals deposit 100 return 1k00000000000000000000000000000000000000000000000000000011 expires 2 previous none" ∷
    codes "25 vote 0000000000000000000000000000000000000000000000000000000000000021#0 committee:k00000000000000000000000000000000000000000000000000000030 no" ∷
    codes "25 proposal 0000000000000000000000000000000000000000000000000000000000000027#0 Info deposit 100 return 1k00000000000000000000000000000000000000000000000000000010 expires 2 previous none" ∷
    codes "25 proposal 0000000000000000000000000000000000000000000000000000000000000028#0 NoConfidence deposit 100 return 1k00000000000000000000000000000000000000000000000000000011 expires 2 previous none" ∷
    codes "25 vote 0000000000000000000000000000000000000000000000000000000000000028#0 pool:00000000000000000000000000000000000000000000000000000051 abstain" ∷
    codes "25 proposal 0000000000000000000000000000000000000000000000000000000000000028#1 UpdateCommittee deposit 100 return 1k00000000000000000000000000000000000000000000000000000012 expires 2 previous 0000000000000000000000000000000000000000000000000000000000000012#0" ∷
    codes "25 vote 0000000000000000000000000000000000000000000000000000000000000028#1 drep:k00000000000000000000000000000000000000000000000000000010 no" ∷
    codes "25 proposal 0000000000000000000000000000000000000000000000000000000000000028#2 NewConstitution deposit 100 return 1k00000000000000000000000000000000000000000000000000000011 expires 2 previous none" ∷
    codes "25 proposal 0000000000000000000000000000000000000000000000000000000000000029#0 NoConfidence deposit 100 return 1k00000000000000000000000000000000000000000000000000000012 expires 2 previous 0000000000000000000000000000000000000000000000000000000000000017#0" ∷
    codes "25 snapshot mark 00000000000000000000000000000000000000000000000000000010 1584" ∷
    codes "25 snapshot mark 00000000000000000000000000000000000000000000000000000051 7083" ∷
    codes "25 snapshot fees 0" ∷
    codes "25 pending none" ∷
    codes "25 pots outputs 22384 deposits 1576 rewards 0 fees 7789 donations 30 treasury 0 reserves 0 supply 31779" ∷
    []) ≡ true
unfolding digits encode_with
transactions_of_all_parts_8 = refl
