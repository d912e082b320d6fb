-- Worked rows of whole streams: made transactions under the rules of version 11. Made by tests/made/rows_of, from the streams of these names in tests/streams/whole.
use Rattle.std.specs.Prelude.{ℕ, ◌≡◌, List, [], ◌∷◌, Some, None, true, codes, refl}
use Rattle.std.specs.Fmt.{digits}
use Rattle.hex.specs.Hex.{encode_with}
use Rattle.gov_actions.specs.declared.action.Action.TheVariants as actions
use Rattle.gov_actions.specs.declared.action.Vote.TheVariants as vote
use Rattle.gov_ids.specs.declared.Drep.TheVariants as drep
use Rattle.gov_ids.specs.declared.Voter.TheVariants as voter
use Rattle.tx_records.specs.declared.field.FieldName.TheVariants as field
use Rattle.tx_records.specs.declared.record.Record.TheVariants as records
use Rattle.tx_records.specs.declared.record.What.TheVariants as what
use Rattle.tx_records.specs.declared.cert.Cert.TheVariants as certs
use Rattle.tx_records.specs.declared.tx.Scripts.TheVariants as scripts
use Rattle.tx_records.specs.declared.record.Reading.{Reading}
use Rattle.tx_records.specs.declared.record.Reading.TheVariants.{Read, Malformed}
use Rattle.ledger_rows.proofs.Base.{h28, h32, key, script, pool, account_on, address_with, ref, action, share, base_params, no_update, spend, paying, proposing, voting, says_all}

abbrev transactions_of_version_twelve_1_input : List (ℕ × Reading)
transactions_of_version_twelve_1_input =
    (1, Read (records.Genesis (record { network = 0; slot = 50; epoch_length = 10; version = (12, 0); supply = 57031; reserves = 0; treasury = 100; params = (record base_params { max_collateral_inputs = 0; min_fee_a = 1; key_deposit = 0; min_pool_cost = 34; e_max = 0; collateral_percentage = 100; pool_voting_thresholds = ((share 67 100) ∷ (share 0 1) ∷ (share 1 1) ∷ (share 0 1) ∷ (share 0 1) ∷ []); drep_voting_thresholds = ((share 0 1) ∷ (share 0 1) ∷ (share 0 1) ∷ (share 0 1) ∷ (share 0 1) ∷ (share 0 1) ∷ (share 0 1) ∷ (share 0 1) ∷ (share 0 1) ∷ (share 0 1) ∷ []); gov_action_deposit = 100; drep_activity = 0 }); document = (h32 0x01); script = (Some (h28 0x98)); committee = (Some (record { threshold = (share 1 2); members = (((script 0x70), 5, (Some (key 0x81))) ∷ []) })); outputs = (((ref 0x01 0), (address_with 0 (key 0x02) (Some (key 0x12))), 1991, []) ∷ ((ref 0x01 1), (address_with 0 (script 0x03) None), 727, []) ∷ ((ref 0x09 2), (address_with 0 (script 0x03) None), 2748, []) ∷ ((ref 0x01 3), (address_with 0 (key 0x02) None), 3472, []) ∷ ((ref 0x01 4), (address_with 0 (key 0x02) None), 2486, []) ∷ ((ref 0x09 5), (address_with 0 (key 0x02) None), 1403, []) ∷ ((ref 0x09 6), (address_with 0 (key 0x01) None), 1533, []) ∷ ((ref 0x01 7), (address_with 0 (key 0x02) (Some (script 0x10))), 3889, []) ∷ ((ref 0x01 8), (address_with 0 (key 0x10) (Some (key 0x11))), 3368, []) ∷ ((ref 0x09 9), (address_with 0 (script 0x03) None), 4748, []) ∷ ((ref 0x01 10), (address_with 0 (key 0x01) None), 5320, []) ∷ ((ref 0x09 11), (address_with 0 (key 0x01) None), 5058, []) ∷ ((ref 0x09 12), (address_with 0 (key 0x02) (Some (key 0x10))), 5947, []) ∷ ((ref 0x01 13), (address_with 0 (script 0x03) (Some (key 0x12))), 3599, []) ∷ ((ref 0x01 14), (address_with 0 (script 0x03) None), 2033, []) ∷ ((ref 0x01 15), (address_with 0 (key 0x10) None), 3975, []) ∷ ((ref 0x01 16), (address_with 0 (key 0x01) None), 3595, []) ∷ []); accounts = (((key 0x14), 3, 800, None, (Some (drep.Registered (key 0x10)))) ∷ ((key 0x12), 0, 0, None, None) ∷ ((script 0x10), 3, 1, (Some (pool 0x50)), (Some (drep.Registered (key 0x10)))) ∷ ((key 0x11), 0, 67, (Some (pool 0x50)), (Some drep.Abstain)) ∷ ((key 0x10), 0, 67, (Some (pool 0x50)), (Some drep.Abstain)) ∷ ((key 0x30), 0, 0, (Some (pool 0x50)), (Some drep.NoConfidence)) ∷ ((key 0x15), 3, 0, None, (Some drep.NoConfidence)) ∷ ((script 0x13), 3, 67, None, (Some drep.Abstain)) ∷ []); pools = ((record { pool = (pool 0x50); deposit = 4; cost = 88; pledge = 0; margin = (share 1 9); account = (account_on 0 (key 0x14)); key = (Some (h32 0x08)) }) ∷ []); dreps = (((key 0x30), 5, 0) ∷ ((key 0x31), 5, 23) ∷ ((script 0x30), 5, 5) ∷ ((key 0x10), 6, 21) ∷ []) }))) ∷
    (2, Read (records.Print what.Pots)) ∷
    (3, Read (records.Tx (record (spend 0x10 3022) { inputs = ((ref 0x09 9) ∷ (ref 0x01 0) ∷ (ref 0x01 10) ∷ []); outputs = ((paying (address_with 0 (key 0x01) (Some (key 0x11))) 6025 65) ∷ (paying (address_with 0 (key 0x02) None) 3012 57) ∷ []) }))) ∷
    (4, Read (records.Rewards (record { epoch = 5; from_reserves = 0; from_fees = 0; to_treasury = 0; rewards = (((script 0x13), 0) ∷ ((script 0x10), 0) ∷ []) }))) ∷
    (5, Read (records.Block 52 1)) ∷
    (6, Read (records.Tx (record (spend 0x11 361) { inputs = ((ref 0x01 3) ∷ []); outputs = ((paying (address_with 0 (key 0x10) None) 1003 65) ∷ (paying (address_with 0 (key 0x10) None) 2008 65) ∷ []); size = 347; script_fee = 5; from = (Some 52); treasury = (Some 100); certs = ((certs.HotResign (script 0x70)) ∷ (certs.DrepUpdate (key 0x31)) ∷ (certs.DrepUpdate (key 0x10)) ∷ (certs.DrepUpdate (key 0x31)) ∷ (certs.DrepUpdate (key 0x10)) ∷ (certs.Delegate (key 0x14) None (Some (drep.Registered (key 0x30)))) ∷ (certs.Delegate (key 0x15) None (Some (drep.Registered (key 0x31)))) ∷ []); proposals = ((proposing 99 (account_on 0 (key 0x15)) (actions.ParameterChange None (record no_update { drep_voting_thresholds = (Some ((share 0 1) ∷ (share 0 1) ∷ (share 0 1) ∷ (share 0 1) ∷ (share 0 1) ∷ (share 0 1) ∷ (share 0 1) ∷ (share 0 1) ∷ (share 1 3) ∷ (share 0 1) ∷ [])) }) (Some (h28 0x98)))) ∷ (proposing 100 (account_on 0 (script 0x10)) (actions.NewConstitution None (h32 0x06) (Some (h28 0x98)))) ∷ []) }))) ∷
    (7, Read (records.Block 60 1)) ∷
    (8, Read (records.Tx (record (spend 0x12 3785) { inputs = ((ref 0x10 0) ∷ (ref 0x09 5) ∷ (ref 0x01 8) ∷ []); outputs = ((paying (address_with 0 (key 0x01) None) 3453 29) ∷ (paying (address_with 0 (script 0x03) None) 3453 57) ∷ []); size = 327; script_fee = 5; from = (Some 59); until = (Some 69); withdrawals = (((account_on 0 (key 0x15)), 0) ∷ []); certs = ((certs.PoolReg (pool 0x51) 400 1 (share 0 1) (account_on 0 (key 0x14)) (Some (h32 0x09))) ∷ (certs.PoolReg (pool 0x50) 400 1 (share 0 1) (account_on 0 (key 0x14)) (Some (h32 0x08))) ∷ []); proposals = ((proposing 100 (account_on 0 (script 0x13)) (actions.UpdateCommittee None [] [] (share 2 3))) ∷ []) }))) ∷
    (9, Read (records.Tx (record (spend 0x13 400) { inputs = ((ref 0x01 15) ∷ (ref 0x01 13) ∷ (ref 0x01 7) ∷ []); outputs = ((paying (address_with 0 (key 0x10) None) 10764 0) ∷ (paying (address_with 0 (script 0x03) None) 0 65) ∷ []); size = 400; certs = ((certs.DrepUnreg (key 0x10) None) ∷ (certs.DrepReg (key 0x10) None) ∷ (certs.Delegate (key 0x11) None (Some (drep.Registered (key 0x10)))) ∷ []); proposals = ((proposing 100 (account_on 0 (key 0x11)) (actions.ParameterChange None (record no_update { collateral_percentage = (Some 9) }) (Some (h28 0x98)))) ∷ (proposing 100 (account_on 0 (key 0x12)) (actions.TreasuryWithdrawals (((account_on 0 (key 0x15)), 99) ∷ []) (Some (h28 0x98)))) ∷ (proposing 100 (account_on 0 (key 0x12)) (actions.TreasuryWithdrawals (((account_on 0 (script 0x13)), 99) ∷ ((account_on 0 (key 0x30)), 0) ∷ []) (Some (h28 0x98)))) ∷ []); votes = ((voting (voter.Drep (key 0x10)) (action 0x12 0) vote.No) ∷ (voting (voter.Pool (pool 0x50)) (action 0x12 0) vote.Abstain) ∷ (voting (voter.Drep (key 0x10)) (action 0x12 0) vote.Abstain) ∷ []) }))) ∷
    (10, Read (records.Block 61 4294967295)) ∷
    (11, Read (records.Rewards (record { epoch = 6; from_reserves = 0; from_fees = 7208; to_treasury = 901; rewards = (((key 0x12), 3604) ∷ ((script 0x10), 1802) ∷ ((key 0x11), 0) ∷ ((key 0x30), 1) ∷ ((key 0x14), 900) ∷ ((key 0x10), 0) ∷ ((key 0x15), 0) ∷ ((script 0x13), 0) ∷ []) }))) ∷
    (12, Read (records.Tx (record (spend 0x14 400) { inputs = ((ref 0x09 2) ∷ []); outputs = ((paying (address_with 0 (script 0x03) None) 2248 57) ∷ (paying (address_with 0 (key 0x01) None) 0 29) ∷ []); size = 400; treasury = (Some 100); withdrawals = (((account_on 0 (key 0x30)), 0) ∷ ((account_on 0 (key 0x15)), 0) ∷ []); certs = ((certs.Delegate (key 0x14) None (Some (drep.Registered (script 0x30)))) ∷ (certs.PoolReg (pool 0x52) 33 1 (share 0 1) (account_on 0 (key 0x15)) None) ∷ []); proposals = ((proposing 100 (account_on 0 (key 0x10)) (actions.UpdateCommittee None [] [] (share 2 3))) ∷ (proposing 99 (account_on 0 (script 0x13)) (actions.UpdateCommittee (Some (action 0x12 0)) ((key 0x70) ∷ []) (((key 0x71), 7) ∷ ((key 0x72), 7) ∷ []) (share 0 1))) ∷ (proposing 100 (account_on 1 (key 0x30)) (actions.NoConfidence (Some (action 0x12 0)))) ∷ (proposing 100 (account_on 1 (key 0x11)) (actions.UpdateCommittee (Some (action 0x14 1)) ((script 0x70) ∷ []) (((key 0x30), 11) ∷ ((key 0x71), 7) ∷ ((key 0x72), 11) ∷ []) (share 0 1))) ∷ []); votes = ((voting (voter.Committee (key 0x81)) (action 0x13 0) vote.Abstain) ∷ (voting (voter.Pool (pool 0x51)) (action 0x13 2) vote.Yes) ∷ (voting (voter.Drep (script 0x30)) (action 0x13 0) vote.Yes) ∷ (voting (voter.Drep (script 0x30)) (action 0x12 0) vote.Yes) ∷ (voting (voter.Drep (script 0x30)) (action 0x13 2) vote.No) ∷ (voting (voter.Drep (key 0x10)) (action 0x12 0) vote.Yes) ∷ (voting (voter.Drep (key 0x10)) (action 0x13 0) vote.Abstain) ∷ (voting (voter.Pool (pool 0x51)) (action 0x12 0) vote.No) ∷ []) }))) ∷
    (13, Read (records.Block 64 4294967295)) ∷
    (14, Read (records.Tx (record (spend 0x15 400) { inputs = ((ref 0x09 6) ∷ []); outputs = ((paying (address_with 0 (key 0x02) (Some (key 0x12))) 471 0) ∷ (paying (address_with 0 (key 0x10) None) 472 29) ∷ []); size = 400; until = (Some 65); certs = ((certs.Delegate (key 0x15) None (Some (drep.Registered (key 0x31)))) ∷ (certs.Delegate (script 0x13) None (Some (drep.Registered (key 0x30)))) ∷ (certs.DrepUnreg (key 0x30) (Some 5)) ∷ (certs.DrepUnreg (script 0x30) None) ∷ (certs.HotAuth (script 0x70) (script 0x80)) ∷ (certs.DrepUnreg (key 0x10) None) ∷ (certs.DrepReg (script 0x30) (Some 5)) ∷ []); proposals = ((proposing 100 (account_on 0 (key 0x15)) (actions.TreasuryWithdrawals (((account_on 0 (key 0x15)), 100) ∷ []) (Some (h28 0x98)))) ∷ (proposing 100 (account_on 0 (key 0x10)) (actions.ParameterChange None (record no_update { min_fee_ref_script_cost_per_byte = (Some (share 15 1)) }) (Some (h28 0x98)))) ∷ []) }))) ∷
    (15, Read (records.Tx (record (spend 0x16 177) { inputs = ((ref 0x12 1) ∷ []); outputs = ((paying (address_with 0 (key 0x01) None) 3077 0) ∷ (paying (address_with 0 (script 0x03) None) 0 0) ∷ []); size = 177; from = (Some 64); withdrawals = (((account_on 0 (script 0x10)), 1) ∷ ((account_on 0 (key 0x30)), 0) ∷ []); proposals = ((proposing 100 (account_on 0 (script 0x10)) (actions.UpdateCommittee None [] (((key 0x30), 15) ∷ []) (share 2 3))) ∷ (proposing 100 (account_on 0 (script 0x13)) (actions.TreasuryWithdrawals (((account_on 0 (key 0x15)), 100) ∷ ((account_on 0 (script 0x13)), 99) ∷ []) (Some (h28 0x98)))) ∷ []); votes = ((voting (voter.Pool (pool 0x51)) (action 0x12 0) vote.Yes) ∷ []) }))) ∷
    (16, Read (records.Tx (record (spend 0x17 278) { inputs = ((ref 0x16 0) ∷ []); outputs = ((paying (address_with 0 (script 0x03) None) 2566 57) ∷ (paying (address_with 0 (script 0x03) None) 0 0) ∷ []); size = 278; until = (Some 73); treasury = (Some 100); withdrawals = (((account_on 0 (key 0x30)), 0) ∷ ((account_on 0 (script 0x13)), 67) ∷ []); proposals = ((proposing 100 (account_on 0 (script 0x13)) (actions.NewConstitution None (h32 0x08) None)) ∷ (proposing 100 (account_on 0 (key 0x15)) (actions.Info)) ∷ (proposing 100 (account_on 0 (key 0x14)) (actions.UpdateCommittee (Some (action 0x16 0)) ((script 0x70) ∷ (key 0x70) ∷ []) [] (share 0 1))) ∷ []) }))) ∷
    (17, Read (records.Tx (record (spend 0x18 290) { inputs = ((ref 0x01 16) ∷ (ref 0x13 0) ∷ (ref 0x01 3) ∷ []); outputs = ((paying (address_with 0 (key 0x02) None) 17411 57) ∷ (paying (address_with 0 (key 0x02) None) 0 29) ∷ []); size = 281; donation = 30; withdrawals = (((account_on 0 (script 0x10)), 0) ∷ ((account_on 0 (script 0x13)), 0) ∷ []); proposals = ((proposing 100 (account_on 0 (key 0x10)) (actions.NoConfidence None)) ∷ []) }))) ∷
    (18, Read (records.Print what.Pots)) ∷
    (19, Read (records.Tx (record (spend 0x19 32) { inputs = ((ref 0x18 1) ∷ (ref 0x01 1) ∷ []); outputs = ((paying (address_with 0 (script 0x03) (Some (key 0x30))) 700 29) ∷ (paying (address_with 0 (key 0x01) None) 0 29) ∷ (paying (address_with 0 (key 0x10) None) 0 57) ∷ (paying (address_with 0 (key 0x02) None) 0 65) ∷ []); size = 23; from = (Some 64); certs = ((certs.DrepUnreg (script 0x30) None) ∷ []) }))) ∷
    (20, Read (records.Tx (record (spend 0x20 760) { inputs = ((ref 0x19 2) ∷ (ref 0x19 1) ∷ (ref 0x09 2) ∷ []); outputs = ((paying (address_with 0 (key 0x02) (Some (key 0x30))) 778 57) ∷ (paying (address_with 0 (key 0x02) None) 778 57) ∷ (paying (address_with 0 (key 0x01) None) 259 57) ∷ (paying (address_with 0 (script 0x03) None) 173 57) ∷ []); size = 400; script_fee = 5; certs = ((certs.PoolReg (pool 0x52) 39 8 (share 1 2) (account_on 0 (key 0x15)) (Some (h32 0x08))) ∷ (certs.PoolReg (pool 0x51) 400 1 (share 0 1) (account_on 0 (key 0x15)) None) ∷ []); proposals = ((proposing 100 (account_on 0 (key 0x14)) (actions.HardForkInitiation None (12, 1))) ∷ (proposing 101 (account_on 0 (script 0x10)) (actions.UpdateCommittee (Some (action 0x12 0)) ((script 0x70) ∷ (key 0x70) ∷ []) (((key 0x72), 7) ∷ ((script 0x70), 15) ∷ ((key 0x71), 15) ∷ ((key 0x30), 15) ∷ []) (share 2 3))) ∷ []) }))) ∷
    (21, Read (records.Tx (record (spend 0x21 758) { inputs = ((ref 0x19 1) ∷ (ref 0x01 14) ∷ []); outputs = ((paying (address_with 0 (key 0x10) (Some (key 0x10))) 825 65) ∷ (paying (address_with 0 (key 0x10) None) 412 65) ∷ []); size = 345; withdrawals = (((account_on 0 (key 0x10)), 67) ∷ []); certs = ((certs.PoolReg (pool 0x10) 400 1 (share 0 1) (account_on 0 (key 0x10)) None) ∷ (certs.PoolReg (pool 0x10) 500 1 (share 0 1) (account_on 0 (key 0x10)) None) ∷ (certs.Delegate (key 0x10) (Some (pool 0x10)) None) ∷ (certs.PoolRetire (pool 0x10) 8) ∷ (certs.PoolReg (pool 0x10) 400 1 (share 0 1) (account_on 0 (key 0x10)) None) ∷ []); proposals = ((proposing 100 (account_on 0 (script 0x13)) (actions.ParameterChange (Some (action 0x13 0)) (record no_update { max_block_ex_units = (Some (1000, 1000)) }) (Some (h28 0x98)))) ∷ []); votes = ((voting (voter.Drep (key 0x31)) (action 0x15 0) vote.Yes) ∷ (voting (voter.Pool (pool 0x50)) (action 0x16 0) vote.Yes) ∷ (voting (voter.Pool (pool 0x10)) (action 0x17 1) vote.Abstain) ∷ []) }))) ∷
    (22, Read (records.Tx (record (spend 0x21 240) { inputs = ((ref 0x19 3) ∷ (ref 0x01 4) ∷ []); outputs = ((paying (address_with 0 (key 0x02) None) 2246 65) ∷ (paying (address_with 0 (script 0x03) (Some (key 0x12))) 0 0) ∷ []); size = 231 }))) ∷
    (23, Read (records.Block 67 1)) ∷
    (24, Read (records.Tx (record (spend 0x22 712) { inputs = ((ref 0x17 0) ∷ []); outputs = ((paying (address_with 0 (key 0x01) (Some (key 0x14))) 936 0) ∷ (paying (address_with 0 (key 0x02) (Some (script 0x10))) 312 0) ∷ (paying (address_with 0 (key 0x02) (Some (key 0x10))) 312 29) ∷ []); size = 400; until = (Some 76); treasury = (Some 100); certs = ((certs.HotResign (script 0x70)) ∷ (certs.DrepUnreg (key 0x31) (Some 5)) ∷ (certs.AccountUnreg (key 0x15) (Some 3)) ∷ (certs.AccountUnreg (script 0x10) (Some 3)) ∷ (certs.PoolReg (pool 0x52) 39 1 (share 0 1) (account_on 0 (key 0x10)) (Some (h32 0x07))) ∷ (certs.HotResign (key 0x30)) ∷ (certs.AccountReg (script 0x10) None (Some (pool 0x50)) (Some drep.Abstain)) ∷ []); proposals = ((proposing 100 (account_on 0 (key 0x11)) (actions.ParameterChange (Some (action 0x15 1)) (record no_update { e_max = (Some 2) }) (Some (h28 0x98)))) ∷ (proposing 100 (account_on 0 (script 0x13)) (actions.TreasuryWithdrawals (((account_on 0 (key 0x14)), 99) ∷ ((account_on 0 (script 0x13)), 100) ∷ []) (Some (h28 0x98)))) ∷ (proposing 100 (account_on 0 (key 0x11)) (actions.TreasuryWithdrawals (((account_on 0 (key 0x12)), 5) ∷ ((account_on 0 (key 0x11)), 5) ∷ []) (Some (h28 0x98)))) ∷ []); votes = ((voting (voter.Pool (pool 0x51)) (action 0x16 0) vote.Abstain) ∷ (voting (voter.Pool (pool 0x52)) (action 0x18 0) vote.Abstain) ∷ (voting (voter.Pool (pool 0x52)) (action 0x12 0) vote.Abstain) ∷ (voting (voter.Pool (pool 0x52)) (action 0x18 0) vote.Yes) ∷ (voting (voter.Pool (pool 0x51)) (action 0x15 1) vote.No) ∷ (voting (voter.Pool (pool 0x50)) (action 0x15 1) vote.Abstain) ∷ []) }))) ∷
    (25, Read (records.Tx (record (spend 0x23 3695) { inputs = ((ref 0x19 2) ∷ (ref 0x22 1) ∷ (ref 0x09 11) ∷ (ref 0x01 2) ∷ []); outputs = ((paying (address_with 0 (script 0x03) (Some (key 0x12))) 1645 0) ∷ []); size = 400; script_fee = 5; from = (Some 66); treasury = (Some 100); donation = 30; certs = ((certs.AccountUnreg (script 0x10) (Some 0)) ∷ []); votes = ((voting (voter.Pool (pool 0x51)) (action 0x12 0) vote.Yes) ∷ (voting (voter.Pool (pool 0x51)) (action 0x18 0) vote.No) ∷ (voting (voter.Pool (pool 0x50)) (action 0x16 0) vote.No) ∷ []) }))) ∷
    (26, Read (records.Tx (record (spend 0x23 415) { inputs = ((ref 0x19 0) ∷ []); outputs = ((paying (address_with 0 (script 0x03) None) 235 65) ∷ (paying (address_with 0 (key 0x01) None) 117 0) ∷ []); size = 297; withdrawals = (((account_on 0 (key 0x30)), 0) ∷ ((account_on 0 (key 0x10)), 67) ∷ []); votes = ((voting (voter.Pool (pool 0x50)) (action 0x22 1) vote.Abstain) ∷ []) }))) ∷
    (27, Read (records.Tx (record (spend 0x23 405) { inputs = ((ref 0x09 11) ∷ (ref 0x19 1) ∷ (ref 0x16 1) ∷ []); outputs = ((paying (address_with 0 (key 0x01) None) 4638 65) ∷ (paying (address_with 0 (key 0x10) None) 0 29) ∷ (paying (address_with 0 (key 0x10) (Some (key 0x15))) 0 29) ∷ []); size = 400; script_fee = 5; from = (Some 67); withdrawals = (((account_on 0 (script 0x10)), 0) ∷ []); certs = ((certs.DrepReg (key 0x10) None) ∷ (certs.Delegate (key 0x12) None (Some drep.Abstain)) ∷ (certs.DrepReg (key 0x30) (Some 5)) ∷ (certs.DrepReg (key 0x31) None) ∷ []) }))) ∷
    (28, Read (records.Tx (record (spend 0x24 1493) { inputs = ((ref 0x22 2) ∷ (ref 0x21 1) ∷ (ref 0x23 0) ∷ []); outputs = ((paying (address_with 0 (key 0x02) None) 2305 0) ∷ (paying (address_with 0 (key 0x02) None) 1152 0) ∷ []); size = 331; until = (Some 76); withdrawals = (((account_on 0 (script 0x13)), 0) ∷ ((account_on 0 (key 0x12)), 0) ∷ []); votes = ((voting (voter.Pool (pool 0x51)) (action 0x15 1) vote.Yes) ∷ (voting (voter.Pool (pool 0x50)) (action 0x18 0) vote.Yes) ∷ (voting (voter.Drep (key 0x10)) (action 0x13 0) vote.Yes) ∷ (voting (voter.Pool (pool 0x50)) (action 0x15 1) vote.Yes) ∷ (voting (voter.Pool (pool 0x51)) (action 0x17 1) vote.No) ∷ (voting (voter.Pool (pool 0x50)) (action 0x17 1) vote.Abstain) ∷ []) }))) ∷
    (29, Read (records.Tx (record (spend 0x25 351) { inputs = ((ref 0x22 1) ∷ (ref 0x01 14) ∷ []); outputs = ((paying (address_with 0 (script 0x03) None) 1969 0) ∷ (paying (address_with 0 (key 0x02) (Some (key 0x15))) 0 29) ∷ (paying (address_with 0 (key 0x01) (Some (key 0x30))) 0 65) ∷ (paying (address_with 0 (key 0x02) None) 0 57) ∷ []); size = 346; script_fee = 5; treasury = (Some 100); donation = 30; withdrawals = (((account_on 0 (script 0x13)), 0) ∷ ((account_on 0 (key 0x30)), 0) ∷ []); certs = ((certs.DrepReg (key 0x10) None) ∷ (certs.DrepUpdate (key 0x30)) ∷ (certs.DrepUnreg (key 0x30) (Some 5)) ∷ []); votes = ((voting (voter.Pool (pool 0x50)) (action 0x18 0) vote.No) ∷ []) }))) ∷
    (30, Read (records.Tx (record (spend 0x26 904) { inputs = ((ref 0x17 1) ∷ (ref 0x19 0) ∷ (ref 0x22 0) ∷ []); outputs = ((paying (address_with 0 (script 0x03) (Some (key 0x15))) 421 57) ∷ (paying (address_with 0 (key 0x10) (Some (script 0x13))) 281 57) ∷ []); size = 341; until = (Some 68); donation = 30; votes = ((voting (voter.Pool (pool 0x50)) (action 0x18 0) vote.Yes) ∷ []) }))) ∷
    (31, Read (records.Tx (record (spend 0x27 205) { inputs = ((ref 0x26 1) ∷ (ref 0x09 12) ∷ []); outputs = ((paying (address_with 0 (script 0x03) None) 1972 29) ∷ (paying (address_with 0 (script 0x03) None) 3946 65) ∷ (paying (address_with 0 (key 0x02) (Some (key 0x12))) 0 65) ∷ (paying (address_with 0 (key 0x01) None) 0 65) ∷ []); size = 196; withdrawals = (((account_on 0 (script 0x13)), 0) ∷ ((account_on 0 (script 0x10)), 0) ∷ []); certs = ((certs.AccountUnreg (key 0x14) None) ∷ (certs.DrepReg (script 0x30) (Some 5)) ∷ (certs.DrepUnreg (key 0x30) (Some 6)) ∷ []); proposals = ((proposing 100 (account_on 0 (key 0x30)) (actions.TreasuryWithdrawals (((account_on 0 (script 0x10)), 100) ∷ ((account_on 0 (key 0x12)), 99) ∷ []) (Some (h28 0x98)))) ∷ []); votes = ((voting (voter.Pool (pool 0x52)) (action 0x16 0) vote.Abstain) ∷ []) }))) ∷
    (32, Read (records.Genesis (record { network = 0; slot = 50; epoch_length = 10; version = (12, 0); supply = 57031; reserves = 0; treasury = 100; params = (record base_params { max_collateral_inputs = 0; min_fee_a = 1; key_deposit = 0; min_pool_cost = 34; e_max = 0; collateral_percentage = 100; pool_voting_thresholds = ((share 67 100) ∷ (share 0 1) ∷ (share 1 1) ∷ (share 0 1) ∷ (share 0 1) ∷ []); drep_voting_thresholds = ((share 0 1) ∷ (share 0 1) ∷ (share 0 1) ∷ (share 0 1) ∷ (share 0 1) ∷ (share 0 1) ∷ (share 0 1) ∷ (share 0 1) ∷ (share 0 1) ∷ (share 0 1) ∷ []); gov_action_deposit = 100; drep_activity = 0 }); document = (h32 0x01); script = (Some (h28 0x98)); committee = (Some (record { threshold = (share 1 2); members = (((script 0x70), 5, (Some (key 0x81))) ∷ []) })); outputs = (((ref 0x01 0), (address_with 0 (key 0x02) (Some (key 0x12))), 1991, []) ∷ ((ref 0x01 1), (address_with 0 (script 0x03) None), 727, []) ∷ ((ref 0x09 2), (address_with 0 (script 0x03) None), 2748, []) ∷ ((ref 0x01 3), (address_with 0 (key 0x02) None), 3472, []) ∷ ((ref 0x01 4), (address_with 0 (key 0x02) None), 2486, []) ∷ ((ref 0x09 5), (address_with 0 (key 0x02) None), 1403, []) ∷ ((ref 0x09 6), (address_with 0 (key 0x01) None), 1533, []) ∷ ((ref 0x01 7), (address_with 0 (key 0x02) (Some (script 0x10))), 3889, []) ∷ ((ref 0x01 8), (address_with 0 (key 0x10) (Some (key 0x11))), 3368, []) ∷ ((ref 0x09 9), (address_with 0 (script 0x03) None), 4748, []) ∷ ((ref 0x01 10), (address_with 0 (key 0x01) None), 5320, []) ∷ ((ref 0x09 11), (address_with 0 (key 0x01) None), 5058, []) ∷ ((ref 0x09 12), (address_with 0 (key 0x02) (Some (key 0x10))), 5947, []) ∷ ((ref 0x01 13), (address_with 0 (script 0x03) (Some (key 0x12))), 3599, []) ∷ ((ref 0x01 14), (address_with 0 (script 0x03) None), 2033, []) ∷ ((ref 0x01 15), (address_with 0 (key 0x10) None), 3975, []) ∷ ((ref 0x01 16), (address_with 0 (key 0x01) None), 3595, []) ∷ []); accounts = (((key 0x14), 3, 800, None, (Some (drep.Registered (key 0x10)))) ∷ ((key 0x12), 0, 0, None, None) ∷ ((script 0x10), 3, 1, (Some (pool 0x50)), (Some (drep.Registered (key 0x10)))) ∷ ((key 0x11), 0, 67, (Some (pool 0x50)), (Some drep.Abstain)) ∷ ((key 0x10), 0, 67, (Some (pool 0x50)), (Some drep.Abstain)) ∷ ((key 0x30), 0, 0, (Some (pool 0x50)), (Some drep.NoConfidence)) ∷ ((key 0x15), 3, 0, None, (Some drep.NoConfidence)) ∷ ((script 0x13), 3, 67, None, (Some drep.Abstain)) ∷ []); pools = ((record { pool = (pool 0x50); deposit = 4; cost = 88; pledge = 0; margin = (share 1 9); account = (account_on 0 (key 0x14)); key = (Some (h32 0x08)) }) ∷ []); dreps = (((key 0x30), 5, 0) ∷ ((key 0x31), 5, 23) ∷ ((script 0x30), 5, 5) ∷ ((key 0x10), 6, 21) ∷ []) }))) ∷
    (33, Read (records.Tx (record (spend 0x28 320) { inputs = ((ref 0x15 0) ∷ []); outputs = ((paying (address_with 0 (key 0x02) None) 223 0) ∷ []); size = 96; treasury = (Some 100); withdrawals = (((account_on 0 (key 0x10)), 67) ∷ ((account_on 0 (script 0x10)), 0) ∷ []); certs = ((certs.DrepUpdate (key 0x31)) ∷ (certs.DrepUnreg (key 0x10) None) ∷ []); votes = ((voting (voter.Drep (key 0x30)) (action 0x16 0) vote.Yes) ∷ (voting (voter.Pool (pool 0x51)) (action 0x17 2) vote.Yes) ∷ (voting (voter.Pool (pool 0x51)) (action 0x12 0) vote.Abstain) ∷ (voting (voter.Drep (key 0x31)) (action 0x17 2) vote.Yes) ∷ (voting (voter.Drep (key 0x30)) (action 0x16 0) vote.Yes) ∷ (voting (voter.Drep (key 0x31)) (action 0x15 1) vote.Yes) ∷ []) }))) ∷
    (34, Read (records.Tx (record (spend 0x29 1135) { inputs = ((ref 0x10 1) ∷ []); outputs = ((paying (address_with 0 (key 0x01) (Some (key 0x10))) 1404 57) ∷ (paying (address_with 0 (script 0x03) None) 468 65) ∷ []); size = 194; script_fee = 5; from = (Some 66); until = (Some 68); certs = ((certs.Delegate (key 0x30) (Some (pool 0x50)) (Some (drep.Registered (key 0x30)))) ∷ (certs.AccountUnreg (script 0x10) None) ∷ (certs.DrepReg (script 0x30) (Some 5)) ∷ (certs.PoolReg (pool 0x52) 34 4 (share 1 2) (account_on 0 (key 0x10)) (Some (h32 0x07))) ∷ []); votes = ((voting (voter.Pool (pool 0x51)) (action 0x15 1) vote.Abstain) ∷ []) }))) ∷
    (35, Read (records.Tx (record (spend 0x30 122) { inputs = ((ref 0x23 2) ∷ (ref 0x01 14) ∷ []); outputs = ((paying (address_with 0 (key 0x02) (Some (key 0x11))) 1811 0) ∷ (paying (address_with 0 (script 0x03) None) 0 65) ∷ (paying (address_with 0 (key 0x01) None) 0 65) ∷ (paying (address_with 0 (key 0x01) None) 0 0) ∷ []); size = 122; from = (Some 66); certs = ((certs.AccountUnreg (key 0x11) (Some 0)) ∷ []); proposals = ((proposing 100 (account_on 0 (key 0x10)) (actions.TreasuryWithdrawals (((account_on 0 (script 0x13)), 5) ∷ ((account_on 0 (key 0x10)), 99) ∷ []) (Some (h28 0x98)))) ∷ []) }))) ∷
    (36, Read (records.Block 68 2)) ∷
    (37, Read (records.Tx (record (spend 0x30 127) { inputs = ((ref 0x09 2) ∷ (ref 0x19 2) ∷ (ref 0x23 1) ∷ []); outputs = ((paying (address_with 0 (key 0x02) None) 2521 29) ∷ (paying (address_with 0 (key 0x10) None) 0 57) ∷ []); size = 118; certs = ((certs.AccountReg (script 0x10) None None None) ∷ (certs.PoolRetire (pool 0x52) 8) ∷ (certs.AccountUnreg (script 0x10) None) ∷ (certs.AccountReg (script 0x10) None None None) ∷ []); proposals = ((proposing 100 (account_on 0 (key 0x12)) (actions.HardForkInitiation None (13, 0))) ∷ []) }))) ∷
    (38, Read (records.Block 70 3)) ∷
    (39, Read (records.Print what.Pots)) ∷
    (40, Read (records.Tx (record (spend 0x30 4216) { inputs = ((ref 0x26 1) ∷ (ref 0x09 12) ∷ []); outputs = ((paying (address_with 0 (key 0x10) None) 2012 65) ∷ []); size = 192; from = (Some 69); until = (Some 71); certs = ((certs.AccountReg (key 0x30) (Some 0) None (Some drep.Abstain)) ∷ []); proposals = ((proposing 100 (account_on 0 (key 0x12)) (actions.UpdateCommittee (Some (action 0x16 0)) ((key 0x70) ∷ []) (((key 0x30), 7) ∷ ((script 0x70), 8) ∷ ((key 0x72), 8) ∷ []) (share 0 1))) ∷ []); votes = ((voting (voter.Pool (pool 0x52)) (action 0x16 0) vote.Abstain) ∷ (voting (voter.Drep (key 0x31)) (action 0x13 0) vote.Yes) ∷ (voting (voter.Drep (key 0x31)) (action 0x13 1) vote.Yes) ∷ (voting (voter.Pool (pool 0x51)) (action 0x12 0) vote.No) ∷ (voting (voter.Drep (script 0x30)) (action 0x18 0) vote.Yes) ∷ (voting (voter.Pool (pool 0x50)) (action 0x18 0) vote.Yes) ∷ []) }))) ∷
    (41, Read (records.Rewards (record { epoch = 7; from_reserves = 0; from_fees = 13593; to_treasury = 6796; rewards = (((key 0x15), 6796) ∷ ((script 0x10), 1) ∷ []) }))) ∷
    (42, Read (records.Rewards (record { epoch = 7; from_reserves = 0; from_fees = 0; to_treasury = 0; rewards = (((script 0x10), 0) ∷ ((key 0x14), 0) ∷ ((key 0x15), 0) ∷ ((key 0x11), 0) ∷ ((key 0x12), 0) ∷ ((script 0x13), 0) ∷ ((key 0x10), 0) ∷ ((key 0x30), 0) ∷ []) }))) ∷
    (43, Read (records.Tx (record (spend 0x30 1867) { inputs = ((ref 0x12 0) ∷ (ref 0x23 1) ∷ []); outputs = ((paying (address_with 0 (key 0x01) None) 1556 0) ∷ []); size = 311; from = (Some 70); until = (Some 71); donation = 30; certs = ((certs.AccountUnreg (key 0x10) None) ∷ (certs.AccountReg (key 0x10) None None (Some drep.Abstain)) ∷ (certs.HotAuth (key 0x30) (key 0x70)) ∷ []); votes = ((voting (voter.Drep (script 0x30)) (action 0x13 2) vote.No) ∷ (voting (voter.Drep (key 0x30)) (action 0x17 2) vote.Abstain) ∷ (voting (voter.Pool (pool 0x50)) (action 0x18 0) vote.Yes) ∷ (voting (voter.Committee (key 0x70)) (action 0x17 1) vote.Yes) ∷ (voting (voter.Drep (key 0x30)) (action 0x18 0) vote.Yes) ∷ (voting (voter.Drep (key 0x31)) (action 0x13 0) vote.No) ∷ (voting (voter.Drep (script 0x30)) (action 0x16 0) vote.Abstain) ∷ []) }))) ∷
    (44, Read (records.Print what.State)) ∷
    []

pub transactions_of_version_twelve_1 : says_all transactions_of_version_twelve_1_input (
    codes "1 genesis outputs 55892 deposits 37 rewards 1002 fees 0 donations 0 treasury 100 reserves 0 supply 57031" ∷
    codes "2 pots outputs 55892 deposits 37 rewards 1002 fees 0 donations 0 treasury 100 reserves 0 supply 57031" ∷
    codes "3 accepted" ∷
    codes "4 accepted" ∷
    codes "5 block slot 52 epoch 5 counted 1 of 8" ∷
    codes "6 refused 80 ProposalDepositWrong at 0 want 100" ∷
    codes "7 epoch 6 frozen 8 dormant 1" ∷
    codes "7 stake k00000000000000000000000000000000000000000000000000000010 4690" ∷
    codes "7 stake abstain 9516" ∷
    codes "7 pots outputs 52870 deposits 37 rewards 1002 fees 3022 donations 0 treasury 100 reserves 0 supply 57031" ∷
    codes "7 block slot 60 epoch 6 counted 1 of 8" ∷
    codes "8 accepted" ∷
    codes "9 accepted" ∷
    codes "10 block slot 61 epoch 6 counted 8 of 8" ∷
    codes "11 refused 24 FeesTooSmall have 7207" ∷
    codes "12 refused 68 PoolCostTooLow at 1 min 34" ∷
    codes "13 block slot 64 epoch 6 counted 8 of 8" ∷
    codes "14 accepted" ∷
    codes "15 accepted" ∷
    codes "16 accepted" ∷
    codes "17 accepted" ∷
    codes "18 pots outputs 46384 deposits 1231 rewards 934 fees 8352 donations 30 treasury 100 reserves 0 supply 57031" ∷
    codes "19 accepted" ∷
    codes "20 refused 73 PoolKeyInUse at 0" ∷
    codes "21 refused 70 RetirementEpochWrong at 3 now 6" ∷
    codes "22 accepted" ∷
    codes "23 block slot 67 epoch 6 counted 8 of 8" ∷
    codes "24 accepted" ∷
    codes "25 refused 33 InputMissing at 3" ∷
    codes "26 refused 102 VoterNotAllowed at 0" ∷
    codes "27 accepted" ∷
    codes "28 accepted" ∷
    codes "29 refused 67 DrepRegistered at 0" ∷
    codes "30 accepted" ∷
    codes "31 refused 64 BalanceNotZero at 0 balance 800" ∷
    codes "32 refused 3 GenesisAgain" ∷
    codes "33 accepted" ∷
    codes "34 accepted" ∷
    codes "35 refused 64 BalanceNotZero at 0 balance 67" ∷
    codes "36 block slot 68 epoch 6 counted 8 of 8" ∷
    codes "37 refused 70 RetirementEpochWrong at 1 now 6" ∷
    codes "38 epoch 7 frozen 8 dormant 0" ∷
    codes "38 stake k00000000000000000000000000000000000000000000000000000010 4690" ∷
    codes "38 stake abstain 15541" ∷
    codes "38 pots outputs 40876 deposits 1535 rewards 867 fees 13593 donations 0 treasury 160 reserves 0 supply 57031" ∷
    codes "38 block slot 70 epoch 7 counted 3 of 8" ∷
    codes "39 pots outputs 40876 deposits 1535 rewards 867 fees 13593 donations 0 treasury 160 reserves 0 supply 57031" ∷
    codes "40 refused 60 AccountRegistered at 0" ∷
    codes "41 accepted" ∷
    codes "42 refused 21 RewardsAlreadyGiven" ∷
    codes "43 refused 104 VoterNotSeated at 3" ∷
    codes "44 now slot 70 epoch 7 version 12.0 dormant 0" ∷
    codes "44 constitution 0000000000000000000000000000000000000000000000000000000000000001 00000000000000000000000000000000000000000000000000000098" ∷
    codes "44 committee threshold 1/2" ∷
    codes "44 member s00000000000000000000000000000000000000000000000000000070 term 5 hot resigned" ∷
    codes "44 enacted committee none constitution none hardfork none parameters none" ∷
    codes "44 param maxBlockBodySize 90112" ∷
    codes "44 param maxTxSize 16384" ∷
    codes "44 param maxBlockHeaderSize 1100" ∷
    codes "44 param maxValueSize 5000" ∷
    codes "44 param maxTxExUnits 1000 1000" ∷
    codes "44 param maxBlockExUnits 1000 1000" ∷
    codes "44 param maxCollateralInputs 0" ∷
    codes "44 param minFeeA 1" ∷
    codes "44 param minFeeB 0" ∷
    codes "44 param keyDeposit 0" ∷
    codes "44 param poolDeposit 5" ∷
    codes "44 param rho 0/1" ∷
    codes "44 param tau 0/1" ∷
    codes "44 param minPoolCost 34" ∷
    codes "44 param coinsPerUTxOByte 0" ∷
    codes "44 param prices 0/1 0/1" ∷
    codes "44 param minFeeRefScriptCostPerByte 15/1" ∷
    codes "44 param a0 0/1" ∷
    codes "44 param eMax 0" ∷
    codes "44 param nOpt 500" ∷
    codes "44 param costModels 0000000000000000000000000000000000000000000000000000000000000000" ∷
    codes "44 param collateralPercentage 100" ∷
    codes "44 param poolVotingThresholds 67/100 0/1 1/1 0/1 0/1" ∷
    codes "44 param drepVotingThresholds 0/1 0/1 0/1 0/1 0/1 0/1 0/1 0/1 0/1 0/1" ∷
    codes "44 param govActionLifetime 2" ∷
    codes "44 param govActionDeposit 100" ∷
    codes "44 param drepDeposit 5" ∷
    codes "44 param drepActivity 0" ∷
    codes "44 param committeeMinSize 0" ∷
    codes "44 param committeeMaxTermLength 100" ∷
    codes "44 drep k00000000000000000000000000000000000000000000000000000030 deposit 5 expiry 6" ∷
    codes "44 drep s00000000000000000000000000000000000000000000000000000030 deposit 5 expiry 6" ∷
    codes "44 drep k00000000000000000000000000000000000000000000000000000031 deposit 5 expiry 6" ∷
    codes "44 pool 00000000000000000000000000000000000000000000000000000050 deposit 4 cost 400 pledge 1 margin 0/1 account 0k00000000000000000000000000000000000000000000000000000014 retires never key 0000000000000000000000000000000000000000000000000000000000000008" ∷
    codes "44 pool 00000000000000000000000000000000000000000000000000000051 deposit 5 cost 400 pledge 1 margin 0/1 account 0k00000000000000000000000000000000000000000000000000000014 retires never key 0000000000000000000000000000000000000000000000000000000000000009" ∷
    codes "44 pool 00000000000000000000000000000000000000000000000000000052 deposit 5 cost 34 pledge 4 margin 1/2 account 0k00000000000000000000000000000000000000000000000000000010 retires never key 0000000000000000000000000000000000000000000000000000000000000007" ∷
    codes "44 account k00000000000000000000000000000000000000000000000000000010 stake 7351 deposit 0 rewards 0 pool 00000000000000000000000000000000000000000000000000000050 drep abstain" ∷
    codes "44 account s00000000000000000000000000000000000000000000000000000010 stake 312 unregistered" ∷
    codes "44 account k00000000000000000000000000000000000000000000000000000011 stake 0 deposit 0 rewards 67 pool 00000000000000000000000000000000000000000000000000000050 drep none" ∷
    codes "44 account k00000000000000000000000000000000000000000000000000000012 stake 0 deposit 0 rewards 0 pool none drep abstain" ∷
    codes "44 account s00000000000000000000000000000000000000000000000000000013 stake 281 deposit 3 rewards 0 pool none drep none" ∷
    codes "44 account k00000000000000000000000000000000000000000000000000000014 stake 0 deposit 3 rewards 800 pool none drep none" ∷
    codes "44 account k00000000000000000000000000000000000000000000000000000015 stake 421 unregistered" ∷
    codes "44 account k00000000000000000000000000000000000000000000000000000030 stake 0 deposit 0 rewards 0 pool 00000000000000000000000000000000000000000000000000000050 drep k00000000000000000000000000000000000000000000000000000030" ∷
    codes "44 output 0000000000000000000000000000000000000000000000000000000000000001#14 0s00000000000000000000000000000000000000000000000000000003 2033" ∷
    codes "44 output 0000000000000000000000000000000000000000000000000000000000000009#2 0s00000000000000000000000000000000000000000000000000000003 2748" ∷
    codes "44 output 0000000000000000000000000000000000000000000000000000000000000009#12 0k00000000000000000000000000000000000000000000000000000002+k00000000000000000000000000000000000000000000000000000010 5947" ∷
    codes "44 output 0000000000000000000000000000000000000000000000000000000000000012#0 0k00000000000000000000000000000000000000000000000000000001 3453" ∷
    codes "44 output 0000000000000000000000000000000000000000000000000000000000000013#1 0s00000000000000000000000000000000000000000000000000000003 0" ∷
    codes "44 output 0000000000000000000000000000000000000000000000000000000000000015#1 0k00000000000000000000000000000000000000000000000000000010 472" ∷
    codes "44 output 0000000000000000000000000000000000000000000000000000000000000018#0 0k00000000000000000000000000000000000000000000000000000002 17411" ∷
    codes "44 output 0000000000000000000000000000000000000000000000000000000000000019#2 0k00000000000000000000000000000000000000000000000000000010 0" ∷
    codes "44 output 0000000000000000000000000000000000000000000000000000000000000021#0 0k00000000000000000000000000000000000000000000000000000002 2246" ∷
    codes "44 output 0000000000000000000000000000000000000000000000000000000000000022#1 0k00000000000000000000000000000000000000000000000000000002+s00000000000000000000000000000000000000000000000000000010 312" ∷
    codes "44 output 0000000000000000000000000000000000000000000000000000000000000023#1 0k00000000000000000000000000000000000000000000000000000010 0" ∷
    codes "44 output 0000000000000000000000000000000000000000000000000000000000000023#2 0k00000000000000000000000000000000000000000000000000000010+k00000000000000000000000000000000000000000000000000000015 0" ∷
    codes "44 output 0000000000000000000000000000000000000000000000000000000000000024#0 0k00000000000000000000000000000000000000000000000000000002 2305" ∷
    codes "44 output 0000000000000000000000000000000000000000000000000000000000000024#1 0k00000000000000000000000000000000000000000000000000000002 1152" ∷
    codes "44 output 0000000000000000000000000000000000000000000000000000000000000026#0 0s00000000000000000000000000000000000000000000000000000003+k00000000000000000000000000000000000000000000000000000015 421" ∷
    codes "44 output 0000000000000000000000000000000000000000000000000000000000000026#1 0k00000000000000000000000000000000000000000000000000000010+s00000000000000000000000000000000000000000000000000000013 281" ∷
    codes "44 output 0000000000000000000000000000000000000000000000000000000000000028#0 0k00000000000000000000000000000000000000000000000000000002 223" ∷
    codes "44 output 0000000000000000000000000000000000000000000000000000000000000029#0 0k00000000000000000000000000000000000000000000000000000001+k00000000000000000000000000000000000000000000000000000010 1404" ∷
    codes "44 output 0000000000000000000000000000000000000000000000000000000000000029#1 0s00000000000000000000000000000000000000000000000000000003 468" ∷
    codes "44 proposal 0000000000000000000000000000000000000000000000000000000000000012#0 UpdateCommittee deposit 100 return 0s00000000000000000000000000000000000000000000000000000013 expires 8 previous none" ∷
    codes "44 vote 0000000000000000000000000000000000000000000000000000000000000012#0 pool:00000000000000000000000000000000000000000000000000000050 abstain" ∷
    codes "44 vote 0000000000000000000000000000000000000000000000000000000000000012#0 pool:00000000000000000000000000000000000000000000000000000051 abstain" ∷
    codes "44 vote 0000000000000000000000000000000000000000000000000000000000000012#0 pool:00000000000000000000000000000000000000000000000000000052 abstain" ∷
    codes "44 proposal 0000000000000000000000000000000000000000000000000000000000000013#0 ParameterChange deposit 100 return 0k00000000000000000000000000000000000000000000000000000011 expires 8 previous none" ∷
    codes "44 proposal 0000000000000000000000000000000000000000000000000000000000000013#1 TreasuryWithdrawals deposit 100 return 0k00000000000000000000000000000000000000000000000000000012 expires 8 previous none" ∷
    codes "44 proposal 0000000000000000000000000000000000000000000000000000000000000013#2 TreasuryWithdrawals deposit 100 return 0k00000000000000000000000000000000000000000000000000000012 expires 8 previous none" ∷
    codes "44 proposal 0000000000000000000000000000000000000000000000000000000000000015#0 TreasuryWithdrawals deposit 100 return 0k00000000000000000000000000000000000000000000000000000015 expires 8 previous none" ∷
    codes "44 proposal 0000000000000000000000000000000000000000000000000000000000000015#1 ParameterChange deposit 100 return 0k00000000000000000000000000000000000000000000000000000010 expires 8 previous none" ∷
    codes "44 vote 0000000000000000000000000000000000000000000000000000000000000015#1 drep:k00000000000000000000000000000000000000000000000000000031 yes" ∷
    codes "44 vote 0000000000000000000000000000000000000000000000000000000000000015#1 pool:00000000000000000000000000000000000000000000000000000050 yes" ∷
    codes "44 vote 0000000000000000000000000000000000000000000000000000000000000015#1 pool:00000000000000000000000000000000000000000000000000000051 abstain" ∷
    codes "44 proposal 0000000000000000000000000000000000000000000000000000000000000016#0 UpdateCommittee deposit 100 return 0s00000000000000000000000000000000000000000000000000000010 expires 8 previous none" ∷
    codes "44 vote 0000000000000000000000000000000000000000000000000000000000000016#0 drep:k00000000000000000000000000000000000000000000000000000030 yes" ∷
    codes "44 vote 0000000000000000000000000000000000000000000000000000000000000016#0 pool:00000000000000000000000000000000000000000000000000000051 abstain" ∷
    codes "44 proposal 0000000000000000000000000000000000000000000000000000000000000016#1 TreasuryWithdrawals deposit 100 return 0s00000000000000000000000000000000000000000000000000000013 expires 8 previous none" ∷
    codes "44 proposal 0000000000000000000000000000000000000000000000000000000000000017#0 NewConstitution deposit 100 return 0s00000000000000000000000000000000000000000000000000000013 expires 8 previous none" ∷
    codes "44 proposal 0000000000000000000000000000000000000000000000000000000000000017#1 Info deposit 100 return 0k00000000000000000000000000000000000000000000000000000015 expires 8 previous none" ∷
    codes "44 vote 0000000000000000000000000000000000000000000000000000000000000017#1 pool:00000000000000000000000000000000000000000000000000000050 abstain" ∷
    codes "44 vote 0000000000000000000000000000000000000000000000000000000000000017#1 pool:00000000000000000000000000000000000000000000000000000051 no" ∷
    codes "44 proposal 0000000000000000000000000000000000000000000000000000000000000017#2 UpdateCommittee deposit 100 return 0k00000000000000000000000000000000000000000000000000000014 expires 8 previous 0000000000000000000000000000000000000000000000000000000000000016#0" ∷
    codes "44 vote 0000000000000000000000000000000000000000000000000000000000000017#2 drep:k00000000000000000000000000000000000000000000000000000031 yes" ∷
    codes "44 vote 0000000000000000000000000000000000000000000000000000000000000017#2 pool:00000000000000000000000000000000000000000000000000000051 yes" ∷
    codes "44 proposal 0000000000000000000000000000000000000000000000000000000000000018#0 NoConfidence deposit 100 return 0k00000000000000000000000000000000000000000000000000000010 expires 8 previous none" ∷
    codes "44 vote 0000000000000000000000000000000000000000000000000000000000000018#0 pool:00000000000000000000000000000000000000000000000000000050 yes" ∷
    codes "44 vote 0000000000000000000000000000000000000000000000000000000000000018#0 pool:00000000000000000000000000000000000000000000000000000052 yes" ∷
    codes "44 proposal 0000000000000000000000000000000000000000000000000000000000000022#0 ParameterChange deposit 100 return 0k00000000000000000000000000000000000000000000000000000011 expires 8 previous 0000000000000000000000000000000000000000000000000000000000000015#1" ∷
    codes "44 proposal 0000000000000000000000000000000000000000000000000000000000000022#1 TreasuryWithdrawals deposit 100 return 0s00000000000000000000000000000000000000000000000000000013 expires 8 previous none" ∷
    codes "44 proposal 0000000000000000000000000000000000000000000000000000000000000022#2 TreasuryWithdrawals deposit 100 return 0k00000000000000000000000000000000000000000000000000000011 expires 8 previous none" ∷
    codes "44 snapshot mark 00000000000000000000000000000000000000000000000000000050 7418" ∷
    codes "44 snapshot mark 00000000000000000000000000000000000000000000000000000051 0" ∷
    codes "44 snapshot mark 00000000000000000000000000000000000000000000000000000052 0" ∷
    codes "44 snapshot set 00000000000000000000000000000000000000000000000000000050 19364" ∷
    codes "44 snapshot go 00000000000000000000000000000000000000000000000000000050 13339" ∷
    codes "44 snapshot fees 13593" ∷
    codes "44 pending reserves 0 fees 13593 treasury 6796" ∷
    codes "44 pending reward s00000000000000000000000000000000000000000000000000000010 1" ∷
    codes "44 pending reward k00000000000000000000000000000000000000000000000000000015 6796" ∷
    codes "44 pots outputs 40876 deposits 1535 rewards 867 fees 13593 donations 0 treasury 160 reserves 0 supply 57031" ∷
    []) ≡ true
unfolding digits encode_with
transactions_of_version_twelve_1 = refl

abbrev transactions_of_version_twelve_2_input : List (ℕ × Reading)
transactions_of_version_twelve_2_input =
    (1, Read (records.Genesis (record { network = 1; slot = 5; epoch_length = 10; version = (12, 0); supply = 35614; reserves = 0; treasury = 100; params = (record base_params { max_collateral_inputs = 0; key_deposit = 0; pool_deposit = 0; min_pool_cost = 34; coins_per_utxo_byte = 1; collateral_percentage = 0; pool_voting_thresholds = ((share 67 100) ∷ (share 0 1) ∷ (share 0 1) ∷ (share 0 1) ∷ (share 0 1) ∷ []); drep_voting_thresholds = ((share 0 1) ∷ (share 0 1) ∷ (share 1 3) ∷ (share 1 2) ∷ (share 0 1) ∷ (share 0 1) ∷ (share 0 1) ∷ (share 0 1) ∷ (share 1 100) ∷ (share 0 1) ∷ []); gov_action_deposit = 0; drep_deposit = 50; committee_max_term_length = 9 }); document = (h32 0x01); script = None; committee = None; outputs = (((ref 0x09 0), (address_with 1 (key 0x10) None), 5168, []) ∷ ((ref 0x01 1), (address_with 1 (key 0x01) None), 1179, []) ∷ ((ref 0x09 2), (address_with 1 (script 0x03) None), 1248, []) ∷ ((ref 0x01 3), (address_with 1 (key 0x02) None), 3357, []) ∷ ((ref 0x01 4), (address_with 1 (script 0x03) (Some (key 0x11))), 2887, []) ∷ ((ref 0x09 5), (address_with 1 (key 0x10) None), 5038, []) ∷ ((ref 0x01 6), (address_with 1 (key 0x01) (Some (key 0x12))), 2251, []) ∷ ((ref 0x09 7), (address_with 1 (key 0x10) None), 2924, []) ∷ ((ref 0x09 8), (address_with 1 (key 0x10) (Some (key 0x11))), 3389, []) ∷ ((ref 0x01 9), (address_with 1 (script 0x03) None), 608, []) ∷ ((ref 0x01 10), (address_with 1 (key 0x10) None), 5682, []) ∷ []); accounts = (((key 0x14), 0, 0, None, None) ∷ ((key 0x10), 3, 800, (Some (pool 0x52)), (Some (drep.Registered (key 0x31)))) ∷ ((script 0x10), 0, 800, None, (Some (drep.Registered (script 0x30)))) ∷ ((key 0x12), 3, 0, None, (Some (drep.Registered (script 0x30)))) ∷ ((key 0x11), 0, 0, (Some (pool 0x52)), (Some (drep.Registered (key 0x30)))) ∷ ((key 0x15), 0, 0, None, (Some (drep.Registered (key 0x31)))) ∷ ((key 0x30), 0, 0, None, (Some (drep.Registered (script 0x30)))) ∷ ((script 0x13), 0, 67, (Some (pool 0x52)), None) ∷ []); pools = ((record { pool = (pool 0x52); deposit = 4; cost = 65; pledge = 0; margin = (share 1 9); account = (account_on 1 (key 0x15)); key = None }) ∷ []); dreps = (((key 0x31), 50, 0) ∷ ((key 0x30), 6, 13) ∷ ((script 0x30), 50, 22) ∷ []) }))) ∷
    (2, Read (records.Tx (record (spend 0x10 14) { inputs = ((ref 0x01 9) ∷ []); outputs = ((paying (address_with 1 (key 0x01) (Some (key 0x15))) 594 57) ∷ []); size = 400; script_fee = 5; treasury = (Some 100); proposals = ((proposing 0 (account_on 1 (key 0x11)) (actions.TreasuryWithdrawals (((account_on 1 (script 0x10)), 99) ∷ ((account_on 1 (key 0x10)), 0) ∷ ((account_on 1 (key 0x30)), 0) ∷ []) None)) ∷ (proposing 0 (account_on 1 (key 0x14)) (actions.NoConfidence None)) ∷ []) }))) ∷
    (3, Read (records.Tx (record (spend 0x11 0) { inputs = ((ref 0x10 0) ∷ (ref 0x01 6) ∷ []); outputs = ((paying (address_with 1 (script 0x03) (Some (script 0x10))) 2845 29) ∷ []); size = 30; from = (Some 4); until = (Some 14); certs = ((certs.Delegate (key 0x14) (Some (pool 0x52)) (Some (drep.Registered (key 0x30)))) ∷ (certs.DrepReg (key 0x10) (Some 49)) ∷ []); proposals = ((proposing 0 (account_on 1 (script 0x13)) (actions.UpdateCommittee (Some (action 0x10 1)) ((script 0x70) ∷ []) [] (share 0 1))) ∷ (proposing 0 (account_on 1 (key 0x11)) (actions.NoConfidence (Some (action 0x10 1)))) ∷ []) }))) ∷
    (4, Read (records.Block 6 4294967295)) ∷
    (5, Read (records.Tx (record (spend 0x12 14) { inputs = ((ref 0x09 0) ∷ (ref 0x09 5) ∷ []); outputs = ((paying (address_with 1 (key 0x02) None) 3387 57) ∷ (paying (address_with 1 (key 0x10) None) 3387 0) ∷ (paying (address_with 1 (script 0x03) None) 3388 57) ∷ []); size = 182; script_fee = 5; from = (Some 5); until = (Some 15); treasury = (Some 100); donation = 30; withdrawals = (((account_on 1 (key 0x11)), 0) ∷ ((account_on 1 (key 0x15)), 0) ∷ []); certs = ((certs.PoolRetire (pool 0x52) 1) ∷ []); votes = ((voting (voter.Pool (pool 0x52)) (action 0x10 1) vote.Yes) ∷ (voting (voter.Drep (key 0x31)) (action 0x10 0) vote.Abstain) ∷ (voting (voter.Pool (pool 0x52)) (action 0x10 1) vote.Yes) ∷ []) }))) ∷
    (6, Read (records.Tx (record (spend 0x13 5) { inputs = ((ref 0x01 4) ∷ []); outputs = ((paying (address_with 1 (key 0x01) None) 2882 29) ∷ []); size = 400; script_fee = 5; until = (Some 15); treasury = (Some 100); withdrawals = (((account_on 1 (key 0x30)), 0) ∷ ((account_on 1 (key 0x11)), 0) ∷ []); certs = ((certs.PoolReg (pool 0x50) 400 1 (share 0 1) (account_on 1 (key 0x12)) None) ∷ (certs.PoolReg (pool 0x50) 500 1 (share 0 1) (account_on 1 (key 0x12)) None) ∷ (certs.PoolRetire (pool 0x50) 1) ∷ (certs.Delegate (key 0x12) (Some (pool 0x50)) None) ∷ (certs.PoolReg (pool 0x50) 400 1 (share 0 1) (account_on 1 (key 0x12)) None) ∷ []); proposals = ((proposing 0 (account_on 1 (key 0x12)) (actions.NewConstitution None (h32 0x06) None)) ∷ []); votes = ((voting (voter.Drep (script 0x30)) (action 0x10 0) vote.Yes) ∷ []) }))) ∷
    (7, Read (records.Tx (record (spend 0x14 5) { inputs = ((ref 0x13 0) ∷ []); outputs = ((paying (address_with 1 (key 0x02) (Some (key 0x15))) 975 65) ∷ (paying (address_with 1 (key 0x10) None) 650 29) ∷ (paying (address_with 1 (key 0x02) None) 1302 65) ∷ []); size = 72; script_fee = 5; from = (Some 6); certs = ((certs.PoolReg (pool 0x52) 34 8 (share 0 1) (account_on 0 (key 0x12)) None) ∷ (certs.DrepUpdate (key 0x30)) ∷ (certs.DrepUnreg (key 0x31) None) ∷ []); votes = ((voting (voter.Drep (key 0x30)) (action 0x13 0) vote.Abstain) ∷ (voting (voter.Pool (pool 0x52)) (action 0x10 1) vote.No) ∷ (voting (voter.Drep (key 0x30)) (action 0x10 0) vote.Abstain) ∷ (voting (voter.Drep (key 0x30)) (action 0x13 0) vote.Yes) ∷ (voting (voter.Pool (pool 0x50)) (action 0x10 1) vote.Yes) ∷ (voting (voter.Pool (pool 0x52)) (action 0x10 1) vote.Abstain) ∷ []) }))) ∷
    (8, Read (records.Block 7 9)) ∷
    (9, Read (records.Tx (record (spend 0x14 0) { inputs = ((ref 0x09 2) ∷ (ref 0x01 6) ∷ []); outputs = ((paying (address_with 1 (script 0x03) None) 3499 65) ∷ []); size = 400; from = (Some 6); treasury = (Some 100); certs = ((certs.PoolReg (pool 0x10) 400 1 (share 0 1) (account_on 1 (key 0x15)) None) ∷ (certs.PoolReg (pool 0x10) 500 1 (share 0 1) (account_on 1 (key 0x15)) None) ∷ (certs.PoolRetire (pool 0x10) 1) ∷ (certs.Delegate (key 0x15) (Some (pool 0x10)) None) ∷ (certs.PoolReg (pool 0x10) 400 1 (share 0 1) (account_on 1 (key 0x15)) None) ∷ []) }))) ∷
    (10, Read (records.Tx (record (spend 0x15 5) { inputs = ((ref 0x12 0) ∷ (ref 0x01 1) ∷ (ref 0x01 10) ∷ []); outputs = ((paying (address_with 1 (key 0x01) (Some (key 0x11))) 10246 29) ∷ []); size = 400; script_fee = 5; certs = ((certs.Delegate (key 0x15) (Some (pool 0x10)) (Some (drep.Registered (script 0x30)))) ∷ (certs.AccountUnreg (key 0x12) (Some 3)) ∷ (certs.DrepUpdate (key 0x30)) ∷ (certs.DrepUpdate (key 0x31)) ∷ []) }))) ∷
    (11, Read (records.Block 10 3)) ∷
    (12, Read (records.Block 12 1)) ∷
    (13, Read (records.Block 11 2)) ∷
    (14, Read (records.Tx (record (spend 0x16 0) { inputs = ((ref 0x15 0) ∷ (ref 0x09 7) ∷ []); outputs = ((paying (address_with 1 (key 0x10) None) 6985 29) ∷ (paying (address_with 1 (key 0x01) (Some (key 0x11))) 6985 0) ∷ []); size = 268; from = (Some 12); until = (Some 21); treasury = (Some 130); withdrawals = (((account_on 1 (key 0x30)), 0) ∷ ((account_on 1 (key 0x10)), 800) ∷ []); proposals = ((proposing 0 (account_on 1 (key 0x10)) (actions.UpdateCommittee None ((key 0x70) ∷ []) (((key 0x30), 2) ∷ []) (share 2 3))) ∷ (proposing 0 (account_on 1 (key 0x11)) (actions.UpdateCommittee None ((key 0x70) ∷ []) (((script 0x70), 6) ∷ []) (share 2 3))) ∷ (proposing 0 (account_on 1 (script 0x13)) (actions.ParameterChange None (record no_update { max_value_size = (Some 1) }) None)) ∷ []); votes = ((voting (voter.Drep (key 0x31)) (action 0x10 0) vote.Yes) ∷ (voting (voter.Drep (script 0x30)) (action 0x13 0) vote.No) ∷ (voting (voter.Pool (pool 0x10)) (action 0x10 1) vote.Yes) ∷ []) }))) ∷
    (15, Read (records.Tx (record (spend 0x17 4315) { inputs = ((ref 0x13 0) ∷ (ref 0x09 8) ∷ (ref 0x01 3) ∷ []); outputs = ((paying (address_with 1 (key 0x01) None) 3228 29) ∷ (paying (address_with 1 (script 0x03) (Some (key 0x12))) 2152 65) ∷ []); size = 400; from = (Some 12); until = (Some 21); withdrawals = (((account_on 1 (script 0x13)), 67) ∷ []); certs = ((certs.PoolRetire (pool 0x10) 2) ∷ []); proposals = ((proposing 0 (account_on 1 (script 0x10)) (actions.UpdateCommittee (Some (action 0x16 0)) [] (((script 0x70), 6) ∷ []) (share 0 1))) ∷ []) }))) ∷
    (16, Read (records.Tx (record (spend 0x18 697) { inputs = ((ref 0x17 1) ∷ []); outputs = ((paying (address_with 1 (script 0x03) None) 1036 57) ∷ (paying (address_with 1 (key 0x01) None) 345 0) ∷ []); size = 112; script_fee = 5; from = (Some 11); donation = 30; certs = ((certs.HotResign (script 0x70)) ∷ (certs.DrepUnreg (key 0x30) (Some 6)) ∷ (certs.DrepUpdate (key 0x31)) ∷ (certs.PoolReg (pool 0x51) 39 0 (share 1 2) (account_on 1 (script 0x10)) None) ∷ (certs.DrepUnreg (script 0x30) None) ∷ (certs.DrepReg (script 0x30) None) ∷ (certs.DrepReg (key 0x10) (Some 50)) ∷ []); votes = ((voting (voter.Drep (key 0x10)) (action 0x10 1) vote.Yes) ∷ (voting (voter.Pool (pool 0x50)) (action 0x16 1) vote.Abstain) ∷ (voting (voter.Drep (key 0x10)) (action 0x16 2) vote.Yes) ∷ []) }))) ∷
    (17, Read (records.Tx (record (spend 0x19 198) { inputs = ((ref 0x18 1) ∷ []); outputs = ((paying (address_with 1 (key 0x10) None) 197 29) ∷ []); size = 259; certs = ((certs.AccountUnreg (key 0x30) None) ∷ (certs.DrepUnreg (key 0x10) (Some 50)) ∷ []); votes = ((voting (voter.Pool (pool 0x50)) (action 0x16 1) vote.Yes) ∷ (voting (voter.Pool (pool 0x51)) (action 0x16 0) vote.No) ∷ (voting (voter.Drep (script 0x30)) (action 0x10 0) vote.Yes) ∷ (voting (voter.Pool (pool 0x50)) (action 0x10 1) vote.Yes) ∷ (voting (voter.Drep (key 0x31)) (action 0x17 0) vote.Abstain) ∷ (voting (voter.Pool (pool 0x50)) (action 0x10 1) vote.Abstain) ∷ []) }))) ∷
    (18, Read (records.Tx (record (spend 0x20 7208) { inputs = ((ref 0x17 0) ∷ (ref 0x16 1) ∷ (ref 0x10 0) ∷ []); outputs = ((paying (address_with 1 (key 0x01) None) 3599 29) ∷ []); size = 365; until = (Some 21); certs = ((certs.DrepReg (key 0x30) None) ∷ (certs.Delegate (script 0x10) None (Some (drep.Registered (key 0x30)))) ∷ (certs.DrepUnreg (key 0x30) None) ∷ (certs.AccountUnreg (key 0x12) None) ∷ []); proposals = ((proposing 0 (account_on 1 (script 0x13)) (actions.NoConfidence (Some (action 0x17 0)))) ∷ (proposing 0 (account_on 1 (key 0x10)) (actions.UpdateCommittee (Some (action 0x16 1)) ((key 0x70) ∷ []) (((script 0x70), 2) ∷ ((key 0x72), 6) ∷ ((key 0x30), 0) ∷ []) (share 2 3))) ∷ []); votes = ((voting (voter.Drep (key 0x31)) (action 0x10 0) vote.Yes) ∷ (voting (voter.Pool (pool 0x50)) (action 0x16 0) vote.Yes) ∷ (voting (voter.Pool (pool 0x51)) (action 0x10 1) vote.Yes) ∷ []) }))) ∷
    (19, Read (records.Tx (record (spend 0x21 167) { inputs = ((ref 0x19 0) ∷ []); size = 122; from = (Some 12); until = (Some 12); donation = 30; certs = ((certs.DrepUpdate (key 0x31)) ∷ []); votes = ((voting (voter.Pool (pool 0x51)) (action 0x16 2) vote.Abstain) ∷ (voting (voter.Drep (script 0x30)) (action 0x16 1) vote.Yes) ∷ (voting (voter.Pool (pool 0x10)) (action 0x17 0) vote.Yes) ∷ (voting (voter.Pool (pool 0x50)) (action 0x17 0) vote.No) ∷ (voting (voter.Drep (key 0x31)) (action 0x16 2) vote.Yes) ∷ (voting (voter.Pool (pool 0x51)) (action 0x17 0) vote.Yes) ∷ []) }))) ∷
    (20, Read (records.Tx (record (spend 0x22 9) { inputs = ((ref 0x17 0) ∷ (ref 0x18 0) ∷ []); outputs = ((paying (address_with 1 (key 0x01) None) 2527 57) ∷ (paying (address_with 1 (key 0x01) None) 2528 57) ∷ []); size = 400; until = (Some 13); treasury = (Some 130); withdrawals = (((account_on 1 (script 0x10)), 800) ∷ []); certs = ((certs.PoolReg (pool 0x10) 34 8 (share 0 1) (account_on 1 (script 0x13)) (Some (h32 0x08))) ∷ (certs.AccountReg (key 0x30) None (Some (pool 0x51)) None) ∷ (certs.PoolReg (pool 0x50) 39 2 (share 1 2) (account_on 1 (key 0x10)) (Some (h32 0x08))) ∷ []); proposals = ((proposing 0 (account_on 1 (script 0x13)) (actions.UpdateCommittee None [] [] (share 0 1))) ∷ []); votes = ((voting (voter.Drep (key 0x31)) (action 0x16 2) vote.Yes) ∷ (voting (voter.Drep (script 0x30)) (action 0x17 0) vote.Yes) ∷ (voting (voter.Pool (pool 0x10)) (action 0x10 1) vote.No) ∷ (voting (voter.Pool (pool 0x10)) (action 0x10 1) vote.Yes) ∷ (voting (voter.Pool (pool 0x51)) (action 0x16 0) vote.Abstain) ∷ (voting (voter.Pool (pool 0x10)) (action 0x16 0) vote.Yes) ∷ []) }))) ∷
    (21, Read (records.Block 20 1)) ∷
    (22, Read (records.Rewards (record { epoch = 2; from_reserves = 0; from_fees = 0; to_treasury = 0; rewards = (((key 0x30), 0) ∷ ((key 0x14), 0) ∷ ((key 0x12), 0) ∷ []) }))) ∷
    (23, Read (records.Tx (record (spend 0x13 1179) { inputs = []; outputs = ((paying (address_with 1 (script 0x03) None) 1170 0) ∷ (paying (address_with 1 (key 0x10) None) 1170 0) ∷ []); size = 400; from = (Some 19); until = (Some 21); treasury = (Some 160); donation = 30; certs = ((certs.DrepUpdate (key 0x31)) ∷ (certs.PoolReg (pool 0x50) 39 2 (share 1 2) (account_on 1 (script 0x10)) (Some (h32 0x07))) ∷ (certs.DrepUpdate (script 0x30)) ∷ (certs.PoolReg (pool 0x10) 400 1 (share 0 1) (account_on 1 (key 0x30)) None) ∷ (certs.PoolReg (pool 0x10) 500 1 (share 0 1) (account_on 1 (key 0x30)) None) ∷ (certs.PoolRetire (pool 0x10) 3) ∷ (certs.Delegate (key 0x30) (Some (pool 0x10)) None) ∷ (certs.PoolReg (pool 0x10) 400 1 (share 0 1) (account_on 1 (key 0x30)) None) ∷ (certs.AccountUnreg (key 0x14) None) ∷ (certs.PoolRetire (pool 0x51) 3) ∷ (certs.DrepUpdate (script 0x30)) ∷ (certs.DrepUnreg (script 0x30) None) ∷ []); proposals = ((proposing 0 (account_on 1 (key 0x11)) (actions.ParameterChange None (record no_update { max_block_body_size = (Some 2) }) None)) ∷ (proposing 0 (account_on 1 (script 0x10)) (actions.UpdateCommittee (Some (action 0x10 1)) [] (((key 0x30), 3) ∷ ((key 0x72), 7) ∷ []) (share 0 1))) ∷ (proposing 0 (account_on 1 (script 0x10)) (actions.TreasuryWithdrawals (((account_on 1 (script 0x10)), 5) ∷ ((account_on 1 (key 0x10)), 160) ∷ []) None)) ∷ []); votes = ((voting (voter.Committee (key 0x70)) (action 0x13 0) vote.No) ∷ (voting (voter.Committee (script 0x80)) (action 0x16 2) vote.Yes) ∷ (voting (voter.Pool (pool 0x50)) (action 0x16 2) vote.Abstain) ∷ (voting (voter.Pool (pool 0x50)) (action 0x16 2) vote.Abstain) ∷ (voting (voter.Pool (pool 0x50)) (action 0x16 2) vote.No) ∷ []) }))) ∷
    (24, Read (records.Tx (record (spend 0x23 9) { inputs = ((ref 0x18 0) ∷ (ref 0x12 1) ∷ (ref 0x16 1) ∷ []); outputs = ((paying (address_with 1 (key 0x02) None) 11349 57) ∷ []); size = 20; from = (Some 19); treasury = (Some 160); certs = ((certs.DrepReg (key 0x30) None) ∷ (certs.Delegate (script 0x13) None (Some (drep.Registered (key 0x30)))) ∷ []); proposals = ((proposing 0 (account_on 1 (key 0x15)) (actions.TreasuryWithdrawals (((account_on 1 (key 0x10)), 0) ∷ ((account_on 1 (key 0x14)), 5) ∷ []) None)) ∷ (proposing 0 (account_on 1 (key 0x10)) (actions.NewConstitution (Some (action 0x13 0)) (h32 0x03) (Some (h28 0x99)))) ∷ (proposing 0 (account_on 1 (script 0x13)) (actions.HardForkInitiation None (13, 0))) ∷ []); votes = ((voting (voter.Drep (script 0x30)) (action 0x10 0) vote.No) ∷ (voting (voter.Drep (key 0x30)) (action 0x16 2) vote.Yes) ∷ (voting (voter.Drep (key 0x30)) (action 0x16 2) vote.No) ∷ []) }))) ∷
    (25, Read (records.Tx (record (spend 0x24 5) { inputs = ((ref 0x14 0) ∷ (ref 0x12 2) ∷ (ref 0x17 0) ∷ []); outputs = ((paying (address_with 1 (key 0x10) None) 3370 29) ∷ (paying (address_with 1 (key 0x10) None) 6740 29) ∷ []); size = 226; script_fee = 5; from = (Some 19); until = (Some 29); proposals = ((proposing 0 (account_on 1 (key 0x15)) (actions.TreasuryWithdrawals (((account_on 1 (key 0x11)), 99) ∷ []) None)) ∷ (proposing 0 (account_on 1 (key 0x11)) (actions.ParameterChange None (record no_update { committee_min_size = (Some 1) }) None)) ∷ []); votes = ((voting (voter.Drep (script 0x30)) (action 0x13 0) vote.Yes) ∷ []) }))) ∷
    (26, Read (records.Tx (record (spend 0x25 5) { inputs = ((ref 0x10 0) ∷ []); outputs = ((paying (address_with 1 (script 0x03) (Some (key 0x12))) 269 29) ∷ (paying (address_with 1 (script 0x03) None) 270 65) ∷ []); size = 6; script_fee = 5; from = (Some 19); until = (Some 29); certs = ((certs.DrepReg (key 0x10) None) ∷ (certs.Delegate (script 0x10) None (Some (drep.Registered (key 0x10)))) ∷ []) }))) ∷
    (27, Read (records.Tx (record (spend 0x26 270) { inputs = ((ref 0x25 0) ∷ []); size = 400; certs = ((certs.DrepUpdate (key 0x10)) ∷ []); proposals = ((proposing 0 (account_on 1 (key 0x12)) (actions.ParameterChange (Some (action 0x24 1)) (record no_update { max_collateral_inputs = (Some 1); min_fee_ref_script_cost_per_byte = (Some (share 15 1)); collateral_percentage = (Some 9); drep_voting_thresholds = (Some ((share 0 1) ∷ (share 0 1) ∷ (share 0 1) ∷ (share 0 1) ∷ (share 0 1) ∷ (share 0 1) ∷ (share 0 1) ∷ (share 0 1) ∷ (share 0 1) ∷ (share 0 1) ∷ [])) }) None)) ∷ (proposing 0 (account_on 1 (script 0x10)) (actions.ParameterChange None (record no_update { a0 = (Some (share 0 1)) }) None)) ∷ (proposing 0 (account_on 1 (key 0x10)) (actions.Info)) ∷ []); votes = ((voting (voter.Pool (pool 0x51)) (action 0x23 2) vote.Yes) ∷ (voting (voter.Drep (script 0x30)) (action 0x24 0) vote.Abstain) ∷ (voting (voter.Pool (pool 0x50)) (action 0x16 2) vote.Yes) ∷ []) }))) ∷
    (28, Read (records.Tx (record (spend 0x19 2338) { inputs = ((ref 0x25 0) ∷ (ref 0x16 0) ∷ (ref 0x23 0) ∷ []); outputs = ((paying (address_with 1 (key 0x10) (Some (key 0x11))) 9351 57) ∷ (paying (address_with 1 (script 0x03) None) 4676 29) ∷ (paying (address_with 1 (key 0x01) None) 2338 29) ∷ []); size = 206; withdrawals = (((account_on 1 (key 0x10)), 0) ∷ ((account_on 1 (script 0x13)), 0) ∷ []); certs = ((certs.AccountUnreg (key 0x14) None) ∷ (certs.DrepUnreg (key 0x10) None) ∷ (certs.PoolReg (pool 0x51) 39 2 (share 0 1) (account_on 1 (key 0x30)) (Some (h32 0x08))) ∷ (certs.PoolReg (pool 0x51) 34 1 (share 1 2) (account_on 1 (key 0x14)) (Some (h32 0x08))) ∷ (certs.DrepUnreg (key 0x30) (Some 50)) ∷ (certs.PoolReg (pool 0x52) 34 5 (share 1 2) (account_on 1 (key 0x14)) None) ∷ (certs.DrepUpdate (key 0x31)) ∷ []) }))) ∷
    (29, Read (records.Block 31 1)) ∷
    (30, Read (records.Tx (record (spend 0x28 0) { inputs = ((ref 0x24 1) ∷ (ref 0x23 0) ∷ (ref 0x25 0) ∷ []); outputs = ((paying (address_with 1 (key 0x01) (Some (key 0x11))) 18328 29) ∷ []); size = 209; from = (Some 31); donation = 30; certs = ((certs.PoolReg (pool 0x51) 34 5 (share 0 1) (account_on 1 (key 0x10)) (Some (h32 0x09))) ∷ (certs.DrepUpdate (script 0x30)) ∷ (certs.Delegate (script 0x10) None (Some (drep.Registered (key 0x30)))) ∷ (certs.DrepUpdate (key 0x10)) ∷ []); proposals = ((proposing 0 (account_on 1 (script 0x10)) (actions.TreasuryWithdrawals (((account_on 1 (script 0x10)), 160) ∷ ((account_on 1 (script 0x13)), 160) ∷ []) None)) ∷ (proposing 0 (account_on 1 (key 0x15)) (actions.ParameterChange (Some (action 0x24 1)) (record no_update { max_block_header_size = (Some 2); tau = (Some (share 0 1)); pool_voting_thresholds = (Some ((share 67 100) ∷ (share 0 1) ∷ (share 0 1) ∷ (share 0 1) ∷ (share 1 2) ∷ [])); gov_action_deposit = (Some 2) }) None)) ∷ (proposing 0 (account_on 1 (script 0x10)) (actions.UpdateCommittee (Some (action 0x10 1)) ((key 0x70) ∷ (script 0x70) ∷ []) (((key 0x30), 4) ∷ []) (share 0 1))) ∷ []) }))) ∷
    (31, Read (records.Tx (record (spend 0x29 0) { inputs = ((ref 0x24 0) ∷ (ref 0x16 0) ∷ (ref 0x25 1) ∷ []); outputs = ((paying (address_with 1 (key 0x01) (Some (key 0x11))) 10675 65) ∷ []); size = 88; until = (Some 40); treasury = (Some 160); certs = ((certs.DrepUnreg (key 0x30) (Some 50)) ∷ []); proposals = ((proposing 0 (account_on 1 (key 0x11)) (actions.NoConfidence (Some (action 0x28 2)))) ∷ (proposing 0 (account_on 1 (script 0x10)) (actions.NoConfidence (Some (action 0x10 1)))) ∷ (proposing 0 (account_on 1 (key 0x10)) (actions.TreasuryWithdrawals [] None)) ∷ (proposing 0 (account_on 1 (key 0x14)) (actions.NewConstitution (Some (action 0x13 0)) (h32 0x08) None)) ∷ []) }))) ∷
    (32, Read (records.Tx (record (spend 0x30 9) { inputs = ((ref 0x25 1) ∷ []); outputs = ((paying (address_with 1 (key 0x01) None) 261 57) ∷ []); size = 400 }))) ∷
    (33, Read (records.Tx (record (spend 0x31 2227) { inputs = ((ref 0x24 0) ∷ []); outputs = ((paying (address_with 1 (script 0x03) None) 1113 65) ∷ []); size = 16385; until = (Some 32); donation = 30; proposals = ((proposing 0 (account_on 1 (key 0x14)) (actions.ParameterChange None (record no_update { tau = (Some (share 0 1)) }) None)) ∷ (proposing 0 (account_on 1 (key 0x14)) (actions.UpdateCommittee (Some (action 0x28 2)) [] (((key 0x72), 4) ∷ ((script 0x70), 4) ∷ ((key 0x30), 3) ∷ []) (share 2 3))) ∷ []); votes = ((voting (voter.Pool (pool 0x50)) (action 0x28 2) vote.Yes) ∷ []) }))) ∷
    (34, Read (records.Tx (record (spend 0x31 167) { inputs = ((ref 0x19 0) ∷ []); size = 394; from = (Some 30); donation = 30; certs = ((certs.DrepUpdate (key 0x10)) ∷ (certs.DrepUpdate (key 0x31)) ∷ (certs.Delegate (script 0x10) (Some (pool 0x51)) (Some (drep.Registered (script 0x30)))) ∷ (certs.Delegate (key 0x10) None (Some (drep.Registered (script 0x30)))) ∷ (certs.HotResign (key 0x30)) ∷ (certs.HotAuth (script 0x70) (key 0x80)) ∷ []); proposals = ((proposing 1 (account_on 1 (script 0x10)) (actions.UpdateCommittee (Some (action 0x28 2)) ((key 0x70) ∷ []) [] (share 2 3))) ∷ (proposing 0 (account_on 1 (key 0x14)) (actions.NewConstitution None (h32 0x02) (Some (h28 0x98)))) ∷ []); votes = ((voting (voter.Pool (pool 0x50)) (action 0x13 0) vote.No) ∷ (voting (voter.Committee (key 0x81)) (action 0x13 0) vote.No) ∷ []) }))) ∷
    (35, Read (records.Tx (record (spend 0x32 0) { inputs = ((ref 0x30 0) ∷ (ref 0x28 0) ∷ []); outputs = ((paying (address_with 1 (key 0x10) (Some (script 0x10))) 6196 65) ∷ (paying (address_with 1 (script 0x03) None) 4131 65) ∷ (paying (address_with 1 (key 0x01) (Some (script 0x13))) 8262 65) ∷ []); size = 400; from = (Some 31); certs = ((certs.HotAuth (key 0x30) (script 0x80)) ∷ (certs.PoolRetire (pool 0x52) 5) ∷ (certs.PoolReg (pool 0x50) 34 5 (share 0 1) (account_on 1 (key 0x12)) (Some (h32 0x07))) ∷ []); proposals = ((proposing 0 (account_on 1 (key 0x15)) (actions.ParameterChange (Some (action 0x16 2)) no_update (Some (h28 0x99)))) ∷ (proposing 0 (account_on 1 (key 0x14)) (actions.Info)) ∷ []); votes = ((voting (voter.Committee (script 0x80)) (action 0x23 1) vote.Abstain) ∷ (voting (voter.Pool (pool 0x52)) (action 0x28 1) vote.Yes) ∷ []) }))) ∷
    (36, Read (records.Tx (record (spend 0x32 0) { inputs = ((ref 0x24 0) ∷ (ref 0x19 0) ∷ (ref 0x28 0) ∷ []); outputs = ((paying (address_with 1 (key 0x01) None) 21865 57) ∷ []); size = 400; from = (Some 31); until = (Some 32); donation = 30; certs = ((certs.PoolReg (pool 0x51) 39 7 (share 1 2) (account_on 1 (key 0x15)) (Some (h32 0x08))) ∷ (certs.AccountUnreg (key 0x10) (Some 1)) ∷ (certs.DrepUpdate (key 0x10)) ∷ (certs.HotResign (key 0x30)) ∷ (certs.PoolReg (pool 0x50) 39 4 (share 0 1) (account_on 1 (script 0x10)) None) ∷ []); proposals = ((proposing 0 (account_on 1 (key 0x11)) (actions.NewConstitution None (h32 0x06) (Some (h28 0x98)))) ∷ []); votes = ((voting (voter.Pool (pool 0x51)) (action 0x16 2) vote.Yes) ∷ (voting (voter.Drep (key 0x31)) (action 0x23 1) vote.Abstain) ∷ (voting (voter.Drep (key 0x31)) (action 0x28 2) vote.Yes) ∷ (voting (voter.Drep (key 0x31)) (action 0x23 2) vote.Yes) ∷ (voting (voter.Drep (key 0x10)) (action 0x23 2) vote.Yes) ∷ (voting (voter.Drep (key 0x31)) (action 0x23 1) vote.Yes) ∷ []) }))) ∷
    (37, Read (records.Block 41 9)) ∷
    (38, Read (records.Tx (record (spend 0x33 9) { inputs = ((ref 0x16 0) ∷ (ref 0x24 0) ∷ (ref 0x28 0) ∷ []); outputs = ((paying (address_with 1 (script 0x03) (Some (key 0x11))) 14337 57) ∷ (paying (address_with 1 (key 0x10) (Some (key 0x15))) 14337 29) ∷ []); size = 215; from = (Some 41); certs = ((certs.PoolReg (pool 0x52) 400 1 (share 0 1) (account_on 1 (key 0x14)) None) ∷ (certs.PoolRetire (pool 0x52) 6) ∷ (certs.HotAuth (key 0x30) (key 0x81)) ∷ []); proposals = ((proposing 0 (account_on 1 (key 0x15)) (actions.ParameterChange None (record no_update { committee_min_size = (Some 9) }) None)) ∷ []); votes = ((voting (voter.Committee (key 0x81)) (action 0x23 2) vote.No) ∷ (voting (voter.Drep (script 0x30)) (action 0x23 0) vote.No) ∷ []) }))) ∷
    (39, Read (records.Print what.State)) ∷
    []

pub transactions_of_version_twelve_2 : says_all transactions_of_version_twelve_2_input (
    codes "1 genesis outputs 33731 deposits 116 rewards 1667 fees 0 donations 0 treasury 100 reserves 0 supply 35614" ∷
    codes "2 accepted" ∷
    codes "3 refused 62 DepositWrong at 1 want 50" ∷
    codes "4 block slot 6 epoch 0 counted 8 of 8" ∷
    codes "5 accepted" ∷
    codes "6 accepted" ∷
    codes "7 refused 69 PoolWrongNetwork at 0" ∷
    codes "8 block slot 7 epoch 0 counted 8 of 8" ∷
    codes "9 accepted" ∷
    codes "10 accepted" ∷
    codes "11 epoch 1 frozen 7 dormant 0" ∷
    codes "11 stake k00000000000000000000000000000000000000000000000000000030 6276" ∷
    codes "11 stake s00000000000000000000000000000000000000000000000000000030 3051" ∷
    codes "11 stake k00000000000000000000000000000000000000000000000000000031 800" ∷
    codes "11 retired 00000000000000000000000000000000000000000000000000000052 refund 4 1k00000000000000000000000000000000000000000000000000000015" ∷
    codes "11 pots outputs 33666 deposits 109 rewards 1671 fees 38 donations 0 treasury 130 reserves 0 supply 35614" ∷
    codes "11 block slot 10 epoch 1 counted 3 of 7" ∷
    codes "12 block slot 12 epoch 1 counted 4 of 7" ∷
    codes "13 refused 10 SlotNotLater last 12" ∷
    codes "14 accepted" ∷
    codes "15 accepted" ∷
    codes "16 accepted" ∷
    codes "17 accepted" ∷
    codes "18 refused 61 AccountUnknown at 3" ∷
    codes "19 refused 36 OutsideValidity slot 12" ∷
    codes "20 refused 73 PoolKeyInUse at 2" ∷
    codes "21 epoch 2 frozen 6 dormant 0" ∷
    codes "21 stake k00000000000000000000000000000000000000000000000000000030 13635" ∷
    codes "21 stake s00000000000000000000000000000000000000000000000000000030 1398" ∷
    codes "21 stake k00000000000000000000000000000000000000000000000000000031 800" ∷
    codes "21 tally 0000000000000000000000000000000000000000000000000000000000000010#1 NoConfidence committee 0/0 need none drep 0/15833 need 0/1 pool 14502/15096 need 67/100 ratified" ∷
    codes "21 tally 0000000000000000000000000000000000000000000000000000000000000013#0 NewConstitution committee 0/0 need never drep 0/15833 need 1/2 pool 0/15096 need none waiting" ∷
    codes "21 tally 0000000000000000000000000000000000000000000000000000000000000010#0 TreasuryWithdrawals committee 0/0 need never drep 1398/15033 need 0/1 pool 0/15096 need none waiting" ∷
    codes "21 removed 0000000000000000000000000000000000000000000000000000000000000010#1 enacted refund 0 1k00000000000000000000000000000000000000000000000000000014" ∷
    codes "21 removed 0000000000000000000000000000000000000000000000000000000000000016#0 dropped refund 0 1k00000000000000000000000000000000000000000000000000000010" ∷
    codes "21 removed 0000000000000000000000000000000000000000000000000000000000000016#1 dropped refund 0 1k00000000000000000000000000000000000000000000000000000011" ∷
    codes "21 removed 0000000000000000000000000000000000000000000000000000000000000017#0 dropped refund 0 1s00000000000000000000000000000000000000000000000000000010" ∷
    codes "21 retired 00000000000000000000000000000000000000000000000000000010 refund 0 1k00000000000000000000000000000000000000000000000000000015" ∷
    codes "21 pots outputs 29299 deposits 103 rewards 804 fees 5248 donations 0 treasury 160 reserves 0 supply 35614" ∷
    codes "21 block slot 20 epoch 2 counted 1 of 6" ∷
    codes "22 accepted" ∷
    codes "23 refused 30 TxIdUsed" ∷
    codes "24 accepted" ∷
    codes "25 accepted" ∷
    codes "26 accepted" ∷
    codes "27 refused 82 ReturnAccountUnknown at 0" ∷
    codes "28 refused 30 TxIdUsed" ∷
    codes "29 epoch 3 frozen 7 dormant 0" ∷
    codes "29 tally 0000000000000000000000000000000000000000000000000000000000000013#0 NewConstitution committee 0/0 need never drep 0/0 need 1/2 pool 0/598 need none waiting" ∷
    codes "29 tally 0000000000000000000000000000000000000000000000000000000000000016#2 ParameterChange committee 0/0 need never drep 0/0 need 0/1 pool 0/598 need 0/1 waiting" ∷
    codes "29 tally 0000000000000000000000000000000000000000000000000000000000000010#0 TreasuryWithdrawals committee 0/0 need never drep 0/0 need 0/1 pool 0/598 need none waiting" ∷
    codes "29 pots outputs 29180 deposits 203 rewards 804 fees 5267 donations 0 treasury 160 reserves 0 supply 35614" ∷
    codes "29 block slot 31 epoch 3 counted 1 of 7" ∷
    codes "30 accepted" ∷
    codes "31 refused 87 ZeroWithdrawal at 2" ∷
    codes "32 accepted" ∷
    codes "33 refused 35 TxTooLarge max 16384" ∷
    codes "34 refused 71 ColdKeyUnknown at 5" ∷
    codes "35 refused 65 PoolUnknown at 1" ∷
    codes "36 refused 63 RefundWrong at 1 want 3" ∷
    codes "37 epoch 4 frozen 6 dormant 0" ∷
    codes "37 stake k00000000000000000000000000000000000000000000000000000010 800" ∷
    codes "37 tally 0000000000000000000000000000000000000000000000000000000000000013#0 NewConstitution committee 0/0 need never drep 0/800 need 1/2 pool 0/0 need none expired" ∷
    codes "37 tally 0000000000000000000000000000000000000000000000000000000000000023#1 NewConstitution committee 0/0 need never drep 0/800 need 1/2 pool 0/0 need none waiting" ∷
    codes "37 tally 0000000000000000000000000000000000000000000000000000000000000023#2 HardForkInitiation committee 0/0 need never drep 0/800 need 0/1 pool 0/0 need 0/1 waiting" ∷
    codes "37 tally 0000000000000000000000000000000000000000000000000000000000000016#2 ParameterChange committee 0/0 need never drep 0/800 need 0/1 pool 0/0 need 0/1 waiting" ∷
    codes "37 tally 0000000000000000000000000000000000000000000000000000000000000024#1 ParameterChange committee 0/0 need never drep 0/800 need 1/100 pool 0/0 need none waiting" ∷
    codes "37 tally 0000000000000000000000000000000000000000000000000000000000000010#0 TreasuryWithdrawals committee 0/0 need never drep 0/800 need 0/1 pool 0/0 need none expired" ∷
    codes "37 tally 0000000000000000000000000000000000000000000000000000000000000023#0 TreasuryWithdrawals committee 0/0 need never drep 0/800 need 0/1 pool 0/0 need none waiting" ∷
    codes "37 tally 0000000000000000000000000000000000000000000000000000000000000024#0 TreasuryWithdrawals committee 0/0 need never drep 0/800 need 0/1 pool 0/0 need none waiting" ∷
    codes "37 removed 0000000000000000000000000000000000000000000000000000000000000010#0 expired refund 0 1k00000000000000000000000000000000000000000000000000000011" ∷
    codes "37 removed 0000000000000000000000000000000000000000000000000000000000000013#0 expired refund 0 treasury" ∷
    codes "37 removed 0000000000000000000000000000000000000000000000000000000000000023#1 dropped refund 0 1k00000000000000000000000000000000000000000000000000000010" ∷
    codes "37 pots outputs 29141 deposits 203 rewards 804 fees 5276 donations 0 treasury 190 reserves 0 supply 35614" ∷
    codes "37 block slot 41 epoch 4 counted 6 of 6" ∷
    codes "38 refused 104 VoterNotSeated at 0" ∷
    codes "39 now slot 41 epoch 4 version 12.0 dormant 0" ∷
    codes "39 constitution 0000000000000000000000000000000000000000000000000000000000000001 none" ∷
    codes "39 committee none" ∷
    codes "39 enacted committee 0000000000000000000000000000000000000000000000000000000000000010#1 constitution none hardfork none parameters none" ∷
    codes "39 param maxBlockBodySize 90112" ∷
    codes "39 param maxTxSize 16384" ∷
    codes "39 param maxBlockHeaderSize 1100" ∷
    codes "39 param maxValueSize 5000" ∷
    codes "39 param maxTxExUnits 1000 1000" ∷
    codes "39 param maxBlockExUnits 1000 1000" ∷
    codes "39 param maxCollateralInputs 0" ∷
    codes "39 param minFeeA 0" ∷
    codes "39 param minFeeB 0" ∷
    codes "39 param keyDeposit 0" ∷
    codes "39 param poolDeposit 0" ∷
    codes "39 param rho 0/1" ∷
    codes "39 param tau 0/1" ∷
    codes "39 param minPoolCost 34" ∷
    codes "39 param coinsPerUTxOByte 1" ∷
    codes "39 param prices 0/1 0/1" ∷
    codes "39 param minFeeRefScriptCostPerByte 15/1" ∷
    codes "39 param a0 0/1" ∷
    codes "39 param eMax 18" ∷
    codes "39 param nOpt 500" ∷
    codes "39 param costModels 0000000000000000000000000000000000000000000000000000000000000000" ∷
    codes "39 param collateralPercentage 0" ∷
    codes "39 param poolVotingThresholds 67/100 0/1 0/1 0/1 0/1" ∷
    codes "39 param drepVotingThresholds 0/1 0/1 1/3 1/2 0/1 0/1 0/1 0/1 1/100 0/1" ∷
    codes "39 param govActionLifetime 2" ∷
    codes "39 param govActionDeposit 0" ∷
    codes "39 param drepDeposit 50" ∷
    codes "39 param drepActivity 20" ∷
    codes "39 param committeeMinSize 0" ∷
    codes "39 param committeeMaxTermLength 9" ∷
    codes "39 drep k00000000000000000000000000000000000000000000000000000010 deposit 50 expiry 23" ∷
    codes "39 drep k00000000000000000000000000000000000000000000000000000030 deposit 50 expiry 22" ∷
    codes "39 drep s00000000000000000000000000000000000000000000000000000030 deposit 50 expiry 23" ∷
    codes "39 drep k00000000000000000000000000000000000000000000000000000031 deposit 50 expiry 21" ∷
    codes "39 pool 00000000000000000000000000000000000000000000000000000050 deposit 0 cost 400 pledge 1 margin 0/1 account 1k00000000000000000000000000000000000000000000000000000012 retires never" ∷
    codes "39 pool 00000000000000000000000000000000000000000000000000000051 deposit 0 cost 34 pledge 5 margin 0/1 account 1k00000000000000000000000000000000000000000000000000000010 retires never key 0000000000000000000000000000000000000000000000000000000000000009" ∷
    codes "39 account k00000000000000000000000000000000000000000000000000000010 stake 0 deposit 3 rewards 0 pool none drep k00000000000000000000000000000000000000000000000000000031" ∷
    codes "39 account s00000000000000000000000000000000000000000000000000000010 stake 0 deposit 0 rewards 800 pool none drep k00000000000000000000000000000000000000000000000000000030" ∷
    codes "39 account k00000000000000000000000000000000000000000000000000000011 stake 18328 deposit 0 rewards 0 pool none drep none" ∷
    codes "39 account s00000000000000000000000000000000000000000000000000000013 stake 0 deposit 0 rewards 0 pool none drep k00000000000000000000000000000000000000000000000000000030" ∷
    codes "39 account k00000000000000000000000000000000000000000000000000000014 stake 0 deposit 0 rewards 0 pool none drep none" ∷
    codes "39 account k00000000000000000000000000000000000000000000000000000015 stake 0 deposit 0 rewards 4 pool none drep none" ∷
    codes "39 output 0000000000000000000000000000000000000000000000000000000000000016#0 1k00000000000000000000000000000000000000000000000000000010 6985" ∷
    codes "39 output 0000000000000000000000000000000000000000000000000000000000000019#0 1k00000000000000000000000000000000000000000000000000000010 197" ∷
    codes "39 output 0000000000000000000000000000000000000000000000000000000000000024#0 1k00000000000000000000000000000000000000000000000000000010 3370" ∷
    codes "39 output 0000000000000000000000000000000000000000000000000000000000000028#0 1k00000000000000000000000000000000000000000000000000000001+k00000000000000000000000000000000000000000000000000000011 18328" ∷
    codes "39 output 0000000000000000000000000000000000000000000000000000000000000030#0 1k00000000000000000000000000000000000000000000000000000001 261" ∷
    codes "39 proposal 0000000000000000000000000000000000000000000000000000000000000016#2 ParameterChange deposit 0 return 1s00000000000000000000000000000000000000000000000000000013 expires 3 previous none" ∷
    codes "39 vote 0000000000000000000000000000000000000000000000000000000000000016#2 drep:k00000000000000000000000000000000000000000000000000000030 no" ∷
    codes "39 proposal 0000000000000000000000000000000000000000000000000000000000000023#0 TreasuryWithdrawals deposit 0 return 1k00000000000000000000000000000000000000000000000000000015 expires 4 previous none" ∷
    codes "39 proposal 0000000000000000000000000000000000000000000000000000000000000023#2 HardForkInitiation deposit 0 return 1s00000000000000000000000000000000000000000000000000000013 expires 4 previous none" ∷
    codes "39 proposal 0000000000000000000000000000000000000000000000000000000000000024#0 TreasuryWithdrawals deposit 0 return 1k00000000000000000000000000000000000000000000000000000015 expires 4 previous none" ∷
    codes "39 proposal 0000000000000000000000000000000000000000000000000000000000000024#1 ParameterChange deposit 0 return 1k00000000000000000000000000000000000000000000000000000011 expires 4 previous none" ∷
    codes "39 proposal 0000000000000000000000000000000000000000000000000000000000000028#0 TreasuryWithdrawals deposit 0 return 1s00000000000000000000000000000000000000000000000000000010 expires 5 previous none" ∷
    codes "39 proposal 0000000000000000000000000000000000000000000000000000000000000028#1 ParameterChange deposit 0 return 1k00000000000000000000000000000000000000000000000000000015 expires 5 previous 0000000000000000000000000000000000000000000000000000000000000024#1" ∷
    codes "39 proposal 0000000000000000000000000000000000000000000000000000000000000028#2 UpdateCommittee deposit 0 return 1s00000000000000000000000000000000000000000000000000000010 expires 5 previous 0000000000000000000000000000000000000000000000000000000000000010#1" ∷
    codes "39 snapshot mark 00000000000000000000000000000000000000000000000000000050 0" ∷
    codes "39 snapshot mark 00000000000000000000000000000000000000000000000000000051 0" ∷
    codes "39 snapshot set 00000000000000000000000000000000000000000000000000000050 0" ∷
    codes "39 snapshot set 00000000000000000000000000000000000000000000000000000051 0" ∷
    codes "39 snapshot go 00000000000000000000000000000000000000000000000000000010 598" ∷
    codes "39 snapshot go 00000000000000000000000000000000000000000000000000000050 0" ∷
    codes "39 snapshot go 00000000000000000000000000000000000000000000000000000051 0" ∷
    codes "39 snapshot fees 5276" ∷
    codes "39 pending none" ∷
    codes "39 pots outputs 29141 deposits 203 rewards 804 fees 5276 donations 0 treasury 190 reserves 0 supply 35614" ∷
    []) ≡ true
unfolding digits encode_with
transactions_of_version_twelve_2 = refl

abbrev transactions_over_a_fork_input : List (ℕ × Reading)
transactions_over_a_fork_input =
    (1, Read (records.Genesis (record { network = 1; slot = 50; epoch_length = 10; version = (10, 9); supply = 54909; reserves = 700; treasury = 100; params = (record base_params { max_tx_size = 400; max_collateral_inputs = 0; min_fee_b = 70; key_deposit = 0; pool_deposit = 50; min_pool_cost = 34; pool_voting_thresholds = ((share 2 4) ∷ (share 67 100) ∷ (share 2 3) ∷ (share 0 1) ∷ (share 1 100) ∷ []); drep_voting_thresholds = ((share 1 1) ∷ (share 1 2) ∷ (share 67 100) ∷ (share 0 1) ∷ (share 0 1) ∷ (share 2 3) ∷ (share 1 3) ∷ (share 67 100) ∷ (share 67 100) ∷ (share 0 1) ∷ []); drep_activity = 0; committee_max_term_length = 9 }); document = (h32 0x01); script = (Some (h28 0x98)); committee = (Some (record { threshold = (share 0 1); members = (((key 0x70), 0, (Some (key 0x30))) ∷ []) })); outputs = (((ref 0x09 0), (address_with 1 (key 0x01) (Some (key 0x30))), 5389, []) ∷ ((ref 0x09 1), (address_with 1 (script 0x03) None), 4507, []) ∷ ((ref 0x09 2), (address_with 1 (key 0x10) (Some (key 0x10))), 5991, []) ∷ ((ref 0x09 3), (address_with 1 (key 0x02) (Some (key 0x12))), 1920, []) ∷ ((ref 0x01 4), (address_with 1 (key 0x02) None), 5055, []) ∷ ((ref 0x09 5), (address_with 1 (key 0x10) None), 2129, []) ∷ ((ref 0x09 6), (address_with 1 (script 0x03) None), 3178, []) ∷ ((ref 0x01 7), (address_with 1 (key 0x10) None), 5563, []) ∷ ((ref 0x01 8), (address_with 1 (key 0x10) None), 1344, []) ∷ ((ref 0x01 9), (address_with 1 (key 0x10) None), 5597, []) ∷ ((ref 0x01 10), (address_with 1 (script 0x03) None), 1084, []) ∷ ((ref 0x01 11), (address_with 1 (key 0x01) None), 5353, []) ∷ ((ref 0x01 12), (address_with 1 (key 0x01) None), 1162, []) ∷ ((ref 0x01 13), (address_with 1 (script 0x03) (Some (script 0x10))), 1666, []) ∷ ((ref 0x09 14), (address_with 1 (key 0x01) (Some (key 0x15))), 1039, []) ∷ ((ref 0x01 15), (address_with 1 (script 0x03) None), 1920, []) ∷ ((ref 0x09 16), (address_with 1 (key 0x10) (Some (key 0x14))), 995, []) ∷ []); accounts = (((key 0x14), 0, 67, (Some (pool 0x10)), None) ∷ ((key 0x11), 0, 0, (Some (pool 0x51)), (Some drep.NoConfidence)) ∷ ((key 0x12), 3, 0, None, (Some drep.Abstain)) ∷ ((script 0x10), 3, 67, (Some (pool 0x50)), None) ∷ ((script 0x13), 3, 0, (Some (pool 0x10)), None) ∷ ((key 0x30), 3, 1, (Some (pool 0x10)), (Some (drep.Registered (key 0x31)))) ∷ ((key 0x10), 3, 0, (Some (pool 0x51)), None) ∷ []); pools = ((record { pool = (pool 0x10); deposit = 4; cost = 25; pledge = 0; margin = (share 1 9); account = (account_on 1 (key 0x10)); key = (Some (h32 0x09)) }) ∷ (record { pool = (pool 0x52); deposit = 4; cost = 66; pledge = 0; margin = (share 1 9); account = (account_on 1 (script 0x13)); key = None }) ∷ (record { pool = (pool 0x51); deposit = 4; cost = 44; pledge = 0; margin = (share 1 9); account = (account_on 1 (key 0x10)); key = (Some (h32 0x07)) }) ∷ (record { pool = (pool 0x50); deposit = 50; cost = 5; pledge = 0; margin = (share 1 9); account = (account_on 1 (key 0x12)); key = (Some (h32 0x08)) }) ∷ []); dreps = (((key 0x31), 5, 22) ∷ []) }))) ∷
    (2, Read (records.Block 60 1)) ∷
    (3, Read (records.Tx (record (spend 0x10 3400) { inputs = ((ref 0x09 1) ∷ (ref 0x01 7) ∷ []); outputs = ((paying (address_with 1 (script 0x03) None) 3330 0) ∷ (paying (address_with 1 (script 0x03) None) 3330 0) ∷ []); size = 6; proposals = ((proposing 10 (account_on 1 (key 0x12)) (actions.ParameterChange None (record no_update { max_tx_ex_units = (Some (1000, 1000)); min_pool_cost = (Some 9); e_max = (Some 9); committee_max_term_length = (Some 2) }) (Some (h28 0x98)))) ∷ []) }))) ∷
    (4, Read (records.Block 71 9)) ∷
    (5, Read (records.Tx (record (spend 0x11 75) { inputs = ((ref 0x10 1) ∷ (ref 0x09 14) ∷ (ref 0x01 11) ∷ []); outputs = ((paying (address_with 1 (script 0x03) None) 9647 0) ∷ []); size = 400; script_fee = 5; certs = ((certs.PoolReg (pool 0x10) 400 1 (share 0 1) (account_on 1 (key 0x30)) (Some (h32 0x09))) ∷ (certs.PoolReg (pool 0x10) 400 1 (share 0 1) (account_on 1 (key 0x30)) (Some (h32 0x08))) ∷ (certs.PoolReg (pool 0x51) 400 1 (share 0 1) (account_on 1 (key 0x30)) (Some (h32 0x09))) ∷ (certs.PoolReg (pool 0x10) 400 1 (share 0 1) (account_on 1 (key 0x30)) (Some (h32 0x09))) ∷ []); votes = ((voting (voter.Drep (key 0x31)) (action 0x10 0) vote.No) ∷ []) }))) ∷
    (6, Read (records.Tx (record (spend 0x12 70) { inputs = ((ref 0x09 3) ∷ (ref 0x01 13) ∷ []); outputs = ((paying (address_with 1 (script 0x03) None) 1168 29) ∷ (paying (address_with 1 (key 0x01) None) 1169 0) ∷ (paying (address_with 1 (script 0x03) None) 1169 29) ∷ []); size = 193; from = (Some 71); until = (Some 72); collateral = ((ref 0x01 9) ∷ []); certs = ((certs.PoolReg (pool 0x50) 400 1 (share 0 1) (account_on 1 (key 0x10)) None) ∷ (certs.PoolReg (pool 0x50) 500 1 (share 0 1) (account_on 1 (key 0x10)) None) ∷ (certs.PoolRetire (pool 0x50) 8) ∷ (certs.Delegate (key 0x10) (Some (pool 0x50)) None) ∷ (certs.PoolReg (pool 0x50) 400 1 (share 0 1) (account_on 1 (key 0x10)) None) ∷ []); proposals = ((proposing 10 (account_on 1 (key 0x10)) (actions.ParameterChange None (record no_update { a0 = (Some (share 0 1)) }) (Some (h28 0x98)))) ∷ []); votes = ((voting (voter.Committee (key 0x30)) (action 0x10 0) vote.Abstain) ∷ (voting (voter.Committee (key 0x30)) (action 0x10 0) vote.Abstain) ∷ (voting (voter.Committee (key 0x30)) (action 0x10 0) vote.Yes) ∷ (voting (voter.Committee (key 0x30)) (action 0x10 0) vote.Yes) ∷ (voting (voter.Committee (key 0x30)) (action 0x10 0) vote.Abstain) ∷ (voting (voter.Drep (key 0x31)) (action 0x10 0) vote.Abstain) ∷ []) }))) ∷
    (7, Read (records.Genesis (record { network = 1; slot = 50; epoch_length = 10; version = (10, 9); supply = 54909; reserves = 700; treasury = 100; params = (record base_params { max_tx_size = 400; max_collateral_inputs = 0; min_fee_b = 70; key_deposit = 0; pool_deposit = 50; min_pool_cost = 34; pool_voting_thresholds = ((share 2 4) ∷ (share 67 100) ∷ (share 2 3) ∷ (share 0 1) ∷ (share 1 100) ∷ []); drep_voting_thresholds = ((share 1 1) ∷ (share 1 2) ∷ (share 67 100) ∷ (share 0 1) ∷ (share 0 1) ∷ (share 2 3) ∷ (share 1 3) ∷ (share 67 100) ∷ (share 67 100) ∷ (share 0 1) ∷ []); drep_activity = 0; committee_max_term_length = 9 }); document = (h32 0x01); script = (Some (h28 0x98)); committee = (Some (record { threshold = (share 0 1); members = (((key 0x70), 0, (Some (key 0x30))) ∷ []) })); outputs = (((ref 0x09 0), (address_with 1 (key 0x01) (Some (key 0x30))), 5389, []) ∷ ((ref 0x09 1), (address_with 1 (script 0x03) None), 4507, []) ∷ ((ref 0x09 2), (address_with 1 (key 0x10) (Some (key 0x10))), 5991, []) ∷ ((ref 0x09 3), (address_with 1 (key 0x02) (Some (key 0x12))), 1920, []) ∷ ((ref 0x01 4), (address_with 1 (key 0x02) None), 5055, []) ∷ ((ref 0x09 5), (address_with 1 (key 0x10) None), 2129, []) ∷ ((ref 0x09 6), (address_with 1 (script 0x03) None), 3178, []) ∷ ((ref 0x01 7), (address_with 1 (key 0x10) None), 5563, []) ∷ ((ref 0x01 8), (address_with 1 (key 0x10) None), 1344, []) ∷ ((ref 0x01 9), (address_with 1 (key 0x10) None), 5597, []) ∷ ((ref 0x01 10), (address_with 1 (script 0x03) None), 1084, []) ∷ ((ref 0x01 11), (address_with 1 (key 0x01) None), 5353, []) ∷ ((ref 0x01 12), (address_with 1 (key 0x01) None), 1162, []) ∷ ((ref 0x01 13), (address_with 1 (script 0x03) (Some (script 0x10))), 1666, []) ∷ ((ref 0x09 14), (address_with 1 (key 0x01) (Some (key 0x15))), 1039, []) ∷ ((ref 0x01 15), (address_with 1 (script 0x03) None), 1920, []) ∷ ((ref 0x09 16), (address_with 1 (key 0x10) (Some (key 0x14))), 995, []) ∷ []); accounts = (((key 0x14), 0, 67, (Some (pool 0x10)), None) ∷ ((key 0x11), 0, 0, (Some (pool 0x51)), (Some drep.NoConfidence)) ∷ ((key 0x12), 3, 0, None, (Some drep.Abstain)) ∷ ((script 0x10), 3, 67, (Some (pool 0x50)), None) ∷ ((script 0x13), 3, 0, (Some (pool 0x10)), None) ∷ ((key 0x30), 3, 1, (Some (pool 0x10)), (Some (drep.Registered (key 0x31)))) ∷ ((key 0x10), 3, 0, (Some (pool 0x51)), None) ∷ []); pools = ((record { pool = (pool 0x10); deposit = 4; cost = 25; pledge = 0; margin = (share 1 9); account = (account_on 1 (key 0x10)); key = (Some (h32 0x09)) }) ∷ (record { pool = (pool 0x52); deposit = 4; cost = 66; pledge = 0; margin = (share 1 9); account = (account_on 1 (script 0x13)); key = None }) ∷ (record { pool = (pool 0x51); deposit = 4; cost = 44; pledge = 0; margin = (share 1 9); account = (account_on 1 (key 0x10)); key = (Some (h32 0x07)) }) ∷ (record { pool = (pool 0x50); deposit = 50; cost = 5; pledge = 0; margin = (share 1 9); account = (account_on 1 (key 0x12)); key = (Some (h32 0x08)) }) ∷ []); dreps = (((key 0x31), 5, 22) ∷ []) }))) ∷
    (8, Read (records.Tx (record (spend 0x13 4172) { inputs = ((ref 0x09 6) ∷ (ref 0x01 12) ∷ (ref 0x09 3) ∷ []); outputs = ((paying (address_with 1 (script 0x03) None) 2048 65) ∷ []); size = 400; script_fee = 5; donation = 30; proposals = ((proposing 10 (account_on 1 (key 0x30)) (actions.NewConstitution None (h32 0x05) (Some (h28 0x98)))) ∷ []); votes = ((voting (voter.Drep (key 0x31)) (action 0x10 0) vote.Yes) ∷ []) }))) ∷
    (9, Read (records.Print what.Pots)) ∷
    (10, Read (records.Tx (record (spend 0x14 75) { inputs = ((ref 0x09 16) ∷ []); outputs = ((paying (address_with 1 (script 0x03) (Some (script 0x10))) 920 29) ∷ (paying (address_with 1 (key 0x02) None) 0 57) ∷ []); size = 400; script_fee = 5; until = (Some 72); treasury = (Some 100); certs = ((certs.AccountReg (key 0x15) None (Some (pool 0x52)) (Some drep.Abstain)) ∷ (certs.PoolRetire (pool 0x10) 25) ∷ (certs.Delegate (key 0x10) (Some (pool 0x52)) (Some (drep.Registered (key 0x31)))) ∷ (certs.Delegate (key 0x11) (Some (pool 0x51)) (Some drep.NoConfidence)) ∷ []); votes = ((voting (voter.Committee (key 0x30)) (action 0x10 0) vote.Abstain) ∷ (voting (voter.Drep (key 0x31)) (action 0x10 0) vote.Abstain) ∷ (voting (voter.Committee (key 0x30)) (action 0x10 0) vote.Yes) ∷ (voting (voter.Committee (key 0x30)) (action 0x10 0) vote.Yes) ∷ (voting (voter.Committee (key 0x30)) (action 0x10 0) vote.Yes) ∷ (voting (voter.Drep (key 0x31)) (action 0x10 0) vote.Yes) ∷ []) }))) ∷
    (11, Read (records.Block 82 4294967295)) ∷
    (12, Read (records.Tx (record (spend 0x15 1911) { inputs = ((ref 0x01 9) ∷ []); outputs = ((paying (address_with 1 (key 0x10) None) 2753 57) ∷ (paying (address_with 1 (key 0x02) (Some (script 0x10))) 918 0) ∷ []); size = 57; script_fee = 5; from = (Some 81); until = (Some 91); treasury = (Some 130); certs = ((certs.PoolReg (pool 0x51) 34 4 (share 1 2) (account_on 1 (key 0x15)) (Some (h32 0x08))) ∷ (certs.DrepReg (key 0x10) (Some 5)) ∷ (certs.DrepUpdate (key 0x10)) ∷ (certs.DrepUpdate (key 0x10)) ∷ (certs.Delegate (key 0x11) (Some (pool 0x10)) (Some drep.NoConfidence)) ∷ (certs.DrepUpdate (key 0x31)) ∷ (certs.DrepUpdate (key 0x10)) ∷ []); proposals = ((proposing 10 (account_on 1 (key 0x30)) (actions.UpdateCommittee None [] (((key 0x30), 9) ∷ []) (share 2 3))) ∷ []); votes = ((voting (voter.Committee (key 0x30)) (action 0x13 0) vote.Yes) ∷ (voting (voter.Drep (key 0x31)) (action 0x13 0) vote.Yes) ∷ (voting (voter.Drep (key 0x31)) (action 0x13 0) vote.No) ∷ []) }))) ∷
    (13, Read (records.Tx (record (spend 0x16 744) { inputs = ((ref 0x01 10) ∷ []); outputs = ((paying (address_with 1 (script 0x03) None) 330 65) ∷ []); size = 260; script_fee = 5; scripts = scripts.Passed; collateral_return = (Some (paying (address_with 1 (script 0x03) (Some (key 0x30))) 1 57)); withdrawals = (((account_on 1 (script 0x13)), 0) ∷ []); certs = ((certs.PoolReg (pool 0x52) 400 1 (share 0 1) (account_on 1 (script 0x13)) None) ∷ (certs.PoolReg (pool 0x52) 500 1 (share 0 1) (account_on 1 (script 0x13)) None) ∷ (certs.PoolRetire (pool 0x52) 9) ∷ (certs.Delegate (script 0x13) (Some (pool 0x52)) None) ∷ (certs.PoolReg (pool 0x52) 400 1 (share 0 1) (account_on 1 (script 0x13)) None) ∷ []); proposals = ((proposing 10 (account_on 1 (key 0x11)) (actions.Info)) ∷ []); votes = ((voting (voter.Pool (pool 0x51)) (action 0x15 0) vote.Abstain) ∷ (voting (voter.Drep (key 0x31)) (action 0x10 0) vote.No) ∷ (voting (voter.Drep (key 0x10)) (action 0x13 0) vote.Yes) ∷ (voting (voter.Committee (key 0x30)) (action 0x13 0) vote.Yes) ∷ (voting (voter.Pool (pool 0x52)) (action 0x15 0) vote.No) ∷ (voting (voter.Pool (pool 0x51)) (action 0x15 0) vote.No) ∷ []) }))) ∷
    (14, Read (records.Tx (record (spend 0x17 70) { inputs = ((ref 0x10 0) ∷ []); outputs = ((paying (address_with 1 (key 0x10) None) 1615 57) ∷ (paying (address_with 1 (key 0x02) (Some (key 0x11))) 1615 65) ∷ (paying (address_with 1 (key 0x01) None) 0 29) ∷ (paying (address_with 1 (key 0x02) (Some (key 0x15))) 0 0) ∷ []); size = 400; until = (Some 91); certs = ((certs.PoolReg (pool 0x10) 400 1 (share 0 1) (account_on 1 (key 0x10)) (Some (h32 0x08))) ∷ (certs.AccountUnreg (key 0x14) (Some 0)) ∷ (certs.PoolReg (pool 0x10) 400 1 (share 0 1) (account_on 1 (key 0x10)) (Some (h32 0x07))) ∷ (certs.PoolReg (pool 0x50) 400 1 (share 0 1) (account_on 1 (key 0x10)) (Some (h32 0x08))) ∷ (certs.PoolReg (pool 0x10) 400 1 (share 0 1) (account_on 1 (key 0x10)) (Some (h32 0x08))) ∷ []); proposals = ((proposing 10 (account_on 1 (key 0x12)) (actions.UpdateCommittee None ((key 0x70) ∷ (script 0x70) ∷ []) (((key 0x30), 13) ∷ []) (share 0 1))) ∷ (proposing 10 (account_on 1 (key 0x15)) (actions.UpdateCommittee None [] (((script 0x70), 17) ∷ ((key 0x71), 17) ∷ ((key 0x72), 9) ∷ ((key 0x30), 9) ∷ []) (share 2 3))) ∷ (proposing 10 (account_on 1 (key 0x11)) (actions.UpdateCommittee None ((key 0x70) ∷ []) (((key 0x71), 9) ∷ ((key 0x30), 9) ∷ []) (share 2 3))) ∷ []) }))) ∷
    (15, Read (records.Print what.Pots)) ∷
    (16, Read (records.Tx (record (spend 0x18 70) { inputs = ((ref 0x01 15) ∷ (ref 0x15 0) ∷ (ref 0x11 0) ∷ []); outputs = ((paying (address_with 1 (key 0x02) None) 14245 57) ∷ (paying (address_with 1 (key 0x10) (Some (key 0x30))) 0 65) ∷ []); size = 121; from = (Some 81); treasury = (Some 130); certs = ((certs.DrepUnreg (key 0x10) (Some 5)) ∷ (certs.DrepUpdate (key 0x31)) ∷ []); proposals = ((proposing 10 (account_on 1 (key 0x30)) (actions.NoConfidence None)) ∷ []); votes = ((voting (voter.Drep (key 0x31)) (action 0x15 0) vote.Yes) ∷ (voting (voter.Pool (pool 0x50)) (action 0x15 0) vote.Abstain) ∷ (voting (voter.Pool (pool 0x52)) (action 0x15 0) vote.No) ∷ []) }))) ∷
    (17, Read (records.Print what.Pots)) ∷
    (18, Read (records.Tx (record (spend 0x19 70) { inputs = ((ref 0x14 0) ∷ (ref 0x18 0) ∷ []); outputs = ((paying (address_with 1 (key 0x01) None) 15095 29) ∷ (paying (address_with 1 (key 0x10) (Some (key 0x11))) 0 65) ∷ []); size = 315; from = (Some 82) }))) ∷
    (19, Read (records.Tx (record (spend 0x20 2374) { inputs = ((ref 0x09 0) ∷ (ref 0x01 4) ∷ []); outputs = ((paying (address_with 1 (key 0x01) None) 3454 65) ∷ (paying (address_with 1 (key 0x10) None) 3455 65) ∷ (paying (address_with 1 (script 0x03) (Some (key 0x10))) 1151 65) ∷ []); size = 400; from = (Some 81); until = (Some 91); certs = ((certs.Delegate (script 0x13) None (Some (drep.Registered (key 0x31)))) ∷ (certs.DrepUnreg (key 0x31) None) ∷ (certs.DrepReg (key 0x31) None) ∷ (certs.DrepUpdate (key 0x31)) ∷ (certs.PoolReg (pool 0x51) 400 1 (share 0 1) (account_on 1 (script 0x13)) None) ∷ (certs.PoolReg (pool 0x51) 500 1 (share 0 1) (account_on 1 (script 0x13)) None) ∷ (certs.PoolRetire (pool 0x51) 9) ∷ (certs.Delegate (script 0x13) (Some (pool 0x51)) None) ∷ (certs.PoolReg (pool 0x51) 400 1 (share 0 1) (account_on 1 (script 0x13)) None) ∷ []); proposals = ((proposing 10 (account_on 1 (key 0x10)) (actions.TreasuryWithdrawals (((account_on 1 (key 0x15)), 99) ∷ ((account_on 1 (key 0x12)), 130) ∷ ((account_on 1 (key 0x14)), 0) ∷ []) (Some (h28 0x98)))) ∷ []); votes = ((voting (voter.Drep (key 0x31)) (action 0x13 0) vote.Abstain) ∷ []) }))) ∷
    (20, Read (records.Tx (record (spend 0x21 569) { inputs = ((ref 0x13 0) ∷ []); outputs = ((paying (address_with 0 (key 0x01) None) 986 65) ∷ (paying (address_with 1 (key 0x01) None) 493 57) ∷ []); size = 246; script_fee = 5; from = (Some 82); until = (Some 83); treasury = (Some 130); certs = ((certs.PoolRetire (pool 0x51) 10) ∷ []); proposals = ((proposing 10 (account_on 1 (script 0x10)) (actions.TreasuryWithdrawals (((account_on 1 (key 0x15)), 0) ∷ ((account_on 0 (script 0x13)), 0) ∷ []) (Some (h28 0x98)))) ∷ []); votes = ((voting (voter.Pool (pool 0x10)) (action 0x18 0) vote.No) ∷ (voting (voter.Pool (pool 0x51)) (action 0x18 0) vote.Yes) ∷ (voting (voter.Drep (key 0x31)) (action 0x20 0) vote.Abstain) ∷ (voting (voter.Pool (pool 0x52)) (action 0x15 0) vote.Abstain) ∷ (voting (voter.Pool (pool 0x52)) (action 0x18 0) vote.No) ∷ (voting (voter.Pool (pool 0x51)) (action 0x18 0) vote.Abstain) ∷ []) }))) ∷
    (21, Read (records.Tx (record (spend 0x22 70) { inputs = ((ref 0x19 1) ∷ (ref 0x20 2) ∷ []); outputs = ((paying (address_with 1 (key 0x02) None) 1081 57) ∷ (paying (address_with 1 (key 0x10) None) 0 0) ∷ []); size = 400; certs = ((certs.Delegate (key 0x12) (Some (pool 0x50)) (Some (drep.Registered (key 0x31)))) ∷ (certs.PoolRetire (pool 0x52) 9) ∷ []); votes = ((voting (voter.Committee (key 0x30)) (action 0x13 0) vote.Yes) ∷ []) }))) ∷
    (22, Read (records.Tx (record (spend 0x23 3300) { inputs = ((ref 0x10 0) ∷ (ref 0x22 0) ∷ (ref 0x09 5) ∷ []); outputs = ((paying (address_with 1 (script 0x03) None) 3230 65) ∷ []); size = 234; from = (Some 82); until = (Some 91); treasury = (Some 130); withdrawals = (((account_on 1 (script 0x13)), 0) ∷ ((account_on 1 (key 0x12)), 0) ∷ []); proposals = ((proposing 10 (account_on 1 (key 0x11)) (actions.Info)) ∷ (proposing 10 (account_on 1 (key 0x15)) (actions.TreasuryWithdrawals (((account_on 1 (key 0x10)), 0) ∷ ((account_on 1 (key 0x12)), 0) ∷ []) (Some (h28 0x98)))) ∷ []); votes = ((voting (voter.Drep (key 0x31)) (action 0x13 0) vote.Yes) ∷ (voting (voter.Drep (key 0x31)) (action 0x18 0) vote.Abstain) ∷ (voting (voter.Pool (pool 0x51)) (action 0x15 0) vote.No) ∷ []) }))) ∷
    (23, Read (records.Tx (record (spend 0x23 2323) { inputs = ((ref 0x20 0) ∷ []); outputs = ((paying (address_with 1 (key 0x02) (Some (key 0x12))) 1121 65) ∷ []); size = 400; until = (Some 91); treasury = (Some 130); withdrawals = (((account_on 1 (key 0x11)), 0) ∷ ((account_on 1 (key 0x15)), 0) ∷ []); certs = ((certs.AccountUnreg (key 0x15) (Some 0)) ∷ []); proposals = ((proposing 10 (account_on 1 (key 0x10)) (actions.Info)) ∷ []); votes = ((voting (voter.Committee (key 0x30)) (action 0x20 0) vote.Abstain) ∷ (voting (voter.Drep (key 0x31)) (action 0x15 0) vote.Abstain) ∷ (voting (voter.Pool (pool 0x52)) (action 0x15 0) vote.Yes) ∷ (voting (voter.Pool (pool 0x10)) (action 0x15 0) vote.Yes) ∷ (voting (voter.Drep (key 0x31)) (action 0x13 0) vote.No) ∷ (voting (voter.Pool (pool 0x50)) (action 0x15 0) vote.Yes) ∷ []) }))) ∷
    (24, Read (records.Block 83 4294967295)) ∷
    (25, Read (records.Tx (record (spend 0x24 70) { inputs = ((ref 0x01 8) ∷ []); outputs = ((paying (address_with 1 (script 0x03) None) 421 65) ∷ (paying (address_with 1 (script 0x03) (Some (key 0x30))) 421 29) ∷ (paying (address_with 1 (script 0x03) None) 422 65) ∷ []); size = 176; from = (Some 82); proposals = ((proposing 10 (account_on 1 (key 0x30)) (actions.HardForkInitiation None (11, 0))) ∷ []); votes = ((voting (voter.Pool (pool 0x10)) (action 0x23 0) vote.Yes) ∷ (voting (voter.Pool (pool 0x52)) (action 0x23 0) vote.Abstain) ∷ (voting (voter.Drep (key 0x31)) (action 0x20 0) vote.No) ∷ []) }))) ∷
    (26, Read (records.Block 90 2)) ∷
    (27, Read (records.Tx (record (spend 0x25 70) { inputs = ((ref 0x24 1) ∷ []); outputs = ((paying (address_with 1 (key 0x02) None) 358 0) ∷ (paying (address_with 1 (key 0x01) (Some (key 0x15))) 0 29) ∷ []); size = 39; from = (Some 90); until = (Some 91); withdrawals = (((account_on 1 (script 0x10)), 67) ∷ []); certs = ((certs.PoolReg (pool 0x52) 34 1 (share 0 1) (account_on 1 (key 0x30)) (Some (h32 0x08))) ∷ (certs.HotResign (key 0x30)) ∷ (certs.PoolReg (pool 0x51) 34 0 (share 0 1) (account_on 1 (key 0x11)) (Some (h32 0x07))) ∷ (certs.PoolRetire (pool 0x51) 11) ∷ []); proposals = ((proposing 10 (account_on 1 (key 0x12)) (actions.HardForkInitiation None (10, 10))) ∷ []); votes = ((voting (voter.Pool (pool 0x51)) (action 0x18 0) vote.Yes) ∷ []) }))) ∷
    (28, Malformed field.Kind None) ∷
    (29, Read (records.Tx (record (spend 0x26 70) { inputs = ((ref 0x01 10) ∷ []); outputs = ((paying (address_with 1 (key 0x02) None) 969 0) ∷ (paying (address_with 1 (key 0x10) None) 0 29) ∷ (paying (address_with 1 (key 0x02) (Some (key 0x12))) 0 65) ∷ (paying (address_with 1 (key 0x10) None) 0 65) ∷ []); size = 400; from = (Some 90); donation = 30; certs = ((certs.DrepReg (key 0x30) None) ∷ (certs.DrepUpdate (key 0x30)) ∷ []); proposals = ((proposing 10 (account_on 1 (key 0x12)) (actions.NewConstitution (Some (action 0x13 0)) (h32 0x05) None)) ∷ []); votes = ((voting (voter.Pool (pool 0x51)) (action 0x24 0) vote.Yes) ∷ []) }))) ∷
    (30, Read (records.Tx (record (spend 0x27 75) { inputs = ((ref 0x23 0) ∷ []); outputs = ((paying (address_with 1 (script 0x03) None) 508 29) ∷ (paying (address_with 1 (key 0x10) None) 169 57) ∷ (paying (address_with 1 (script 0x03) None) 339 57) ∷ (paying (address_with 1 (key 0x02) (Some (key 0x11))) 0 29) ∷ []); size = 244; script_fee = 5; from = (Some 89); withdrawals = (((account_on 1 (script 0x10)), 0) ∷ ((account_on 1 (key 0x11)), 0) ∷ []); proposals = ((proposing 10 (account_on 1 (key 0x12)) (actions.UpdateCommittee None ((script 0x70) ∷ (key 0x70) ∷ []) [] (share 0 1))) ∷ (proposing 10 (account_on 1 (key 0x14)) (actions.NewConstitution (Some (action 0x26 0)) (h32 0x05) None)) ∷ (proposing 10 (account_on 1 (key 0x12)) (actions.TreasuryWithdrawals (((account_on 1 (key 0x14)), 99) ∷ []) (Some (h28 0x98)))) ∷ []) }))) ∷
    (31, Read (records.Tx (record (spend 0x28 1195) { inputs = []; outputs = ((paying (address_with 1 (key 0x10) None) 1120 29) ∷ (paying (address_with 1 (key 0x01) None) 1120 29) ∷ []); size = 400; script_fee = 5; from = (Some 89); until = (Some 91); proposals = ((proposing 10 (account_on 1 (script 0x10)) (actions.Info)) ∷ (proposing 10 (account_on 1 (key 0x12)) (actions.NewConstitution (Some (action 0x13 0)) (h32 0x04) (Some (h28 0x98)))) ∷ []); votes = ((voting (voter.Committee (key 0x30)) (action 0x26 0) vote.Yes) ∷ []) }))) ∷
    (32, Read (records.Tx (record (spend 0x28 70) { inputs = ((ref 0x10 0) ∷ (ref 0x09 5) ∷ (ref 0x27 3) ∷ []); outputs = ((paying (address_with 1 (key 0x02) None) 5387 29) ∷ (paying (address_with 1 (script 0x03) (Some (key 0x12))) 0 29) ∷ (paying (address_with 1 (key 0x10) (Some (script 0x13))) 0 29) ∷ (paying (address_with 1 (script 0x03) (Some (script 0x13))) 0 65) ∷ []); size = 247; treasury = (Some 130); withdrawals = (((account_on 1 (key 0x11)), 0) ∷ []); certs = ((certs.Delegate (key 0x12) None (Some (drep.Registered (key 0x30)))) ∷ (certs.AccountUnreg (key 0x12) (Some 3)) ∷ (certs.DrepUnreg (key 0x30) (Some 5)) ∷ (certs.PoolReg (pool 0x10) 34 5 (share 1 2) (account_on 1 (key 0x10)) None) ∷ []); proposals = ((proposing 10 (account_on 1 (key 0x30)) (actions.NoConfidence None)) ∷ []); votes = ((voting (voter.Pool (pool 0x52)) (action 0x10 0) vote.Yes) ∷ []) }))) ∷
    (33, Read (records.Block 150 9)) ∷
    (34, Read (records.Print what.Pots)) ∷
    (35, Read (records.Tx (record (spend 0x28 18446744073709551615) { inputs = ((ref 0x24 2) ∷ []); outputs = ((paying (address_with 1 (script 0x03) None) 112 65) ∷ []); size = 118; script_fee = 5; until = (Some 99); certs = ((certs.DrepUnreg (key 0x30) None) ∷ (certs.HotResign (key 0x70)) ∷ (certs.PoolReg (pool 0x50) 34 6 (share 1 2) (account_on 1 (key 0x30)) (Some (h32 0x09))) ∷ (certs.DrepReg (key 0x30) None) ∷ []); proposals = ((proposing 10 (account_on 1 (key 0x12)) (actions.NewConstitution (Some (action 0x27 1)) (h32 0x05) (Some (h28 0x98)))) ∷ []) }))) ∷
    (36, Read (records.Tx (record (spend 0x29 70) { inputs = ((ref 0x09 2) ∷ []); outputs = ((paying (address_with 1 (key 0x10) None) 1955 0) ∷ (paying (address_with 1 (script 0x03) (Some (script 0x13))) 3910 29) ∷ (paying (address_with 1 (key 0x02) None) 0 65) ∷ []); size = 362; until = (Some 99); donation = 30; withdrawals = (((account_on 1 (script 0x13)), 4) ∷ []); proposals = ((proposing 10 (account_on 1 (key 0x10)) (actions.NewConstitution (Some (action 0x13 0)) (h32 0x02) (Some (h28 0x99)))) ∷ (proposing 10 (account_on 1 (script 0x13)) (actions.ParameterChange (Some (action 0x10 0)) (record no_update { max_block_header_size = (Some 2); a0 = (Some (share 0 1)); pool_voting_thresholds = (Some ((share 2 4) ∷ (share 0 1) ∷ (share 0 1) ∷ (share 0 1) ∷ (share 0 1) ∷ [])); drep_voting_thresholds = (Some ((share 1 1) ∷ (share 0 1) ∷ (share 0 1) ∷ (share 0 1) ∷ (share 0 1) ∷ (share 1 1) ∷ (share 0 1) ∷ (share 0 1) ∷ (share 0 1) ∷ (share 0 1) ∷ [])) }) (Some (h28 0x98)))) ∷ (proposing 10 (account_on 1 (script 0x13)) (actions.UpdateCommittee (Some (action 0x18 0)) ((key 0x70) ∷ (script 0x70) ∷ []) [] (share 0 1))) ∷ []) }))) ∷
    (37, Read (records.Rewards (record { epoch = 9; from_reserves = 0; from_fees = 0; to_treasury = 0; rewards = (((script 0x13), 0) ∷ ((script 0x10), 0) ∷ ((key 0x14), 0) ∷ ((key 0x15), 0) ∷ ((key 0x12), 0) ∷ []) }))) ∷
    (38, Read (records.Block 102 9)) ∷
    (39, Read (records.Block 112 9)) ∷
    (40, Read (records.Block 122 2)) ∷
    (41, Read (records.Tx (record (spend 0x30 79) { inputs = ((ref 0x29 2) ∷ (ref 0x26 3) ∷ (ref 0x26 0) ∷ []); outputs = ((paying (address_with 1 (key 0x02) (Some (script 0x13))) 850 65) ∷ (paying (address_with 1 (key 0x01) (Some (key 0x11))) 0 57) ∷ (paying (address_with 1 (key 0x02) None) 0 0) ∷ (paying (address_with 1 (key 0x02) None) 0 65) ∷ []); size = 352; from = (Some 122); donation = 30; certs = ((certs.PoolRetire (pool 0x50) 13) ∷ (certs.AccountReg (key 0x15) (Some 0) (Some (pool 0x10)) None) ∷ (certs.DrepUpdate (key 0x31)) ∷ (certs.PoolRetire (pool 0x10) 30) ∷ []); proposals = ((proposing 10 (account_on 1 (key 0x12)) (actions.UpdateCommittee (Some (action 0x18 0)) [] (((key 0x71), 13) ∷ ((key 0x30), 21) ∷ ((key 0x72), 13) ∷ []) (share 2 3))) ∷ []) }))) ∷
    (42, Read (records.Tx (record (spend 0x31 70) { inputs = ((ref 0x27 2) ∷ []); outputs = ((paying (address_with 1 (key 0x10) None) 269 29) ∷ (paying (address_with 1 (key 0x10) None) 0 0) ∷ (paying (address_with 1 (key 0x02) (Some (key 0x15))) 0 0) ∷ []); size = 137; until = (Some 131); certs = ((certs.PoolRetire (pool 0x50) 13) ∷ (certs.PoolReg (pool 0x50) 400 1 (share 0 1) (account_on 1 (script 0x13)) None) ∷ (certs.PoolRetire (pool 0x50) 14) ∷ []); proposals = ((proposing 11 (account_on 1 (key 0x11)) (actions.UpdateCommittee None [] (((key 0x30), 21) ∷ ((key 0x72), 11) ∷ ((key 0x71), 21) ∷ []) (share 2 3))) ∷ []) }))) ∷
    (43, Read (records.Tx (record (spend 0x31 75) { inputs = ((ref 0x20 1) ∷ []); outputs = ((paying (address_with 1 (key 0x01) (Some (key 0x12))) 3370 29) ∷ (paying (address_with 1 (key 0x02) None) 0 57) ∷ (paying (address_with 1 (script 0x03) None) 0 0) ∷ []); size = 222; script_fee = 5; from = (Some 122); certs = ((certs.Delegate (key 0x10) None (Some drep.Abstain)) ∷ (certs.DrepUpdate (key 0x31)) ∷ (certs.DrepUpdate (key 0x30)) ∷ (certs.PoolReg (pool 0x10) 39 0 (share 0 1) (account_on 1 (key 0x14)) (Some (h32 0x07))) ∷ []); proposals = ((proposing 10 (account_on 1 (key 0x15)) (actions.UpdateCommittee (Some (action 0x18 0)) ((script 0x70) ∷ (key 0x70) ∷ []) (((key 0x72), 17) ∷ []) (share 0 1))) ∷ []) }))) ∷
    (44, Read (records.Tx (record (spend 0x32 70) { inputs = ((ref 0x24 2) ∷ (ref 0x30 1) ∷ (ref 0x10 0) ∷ []); outputs = ((paying (address_with 1 (key 0x01) None) 3682 65) ∷ (paying (address_with 1 (key 0x01) None) 0 57) ∷ (paying (address_with 1 (key 0x01) None) 0 29) ∷ (paying (address_with 1 (key 0x01) None) 0 57) ∷ []); size = 5; until = (Some 123); withdrawals = (((account_on 1 (script 0x13)), 10) ∷ []); certs = ((certs.HotAuth (key 0x71) (script 0x80)) ∷ (certs.HotAuth (key 0x30) (key 0x30)) ∷ []); proposals = ((proposing 10 (account_on 1 (script 0x13)) (actions.ParameterChange None (record no_update { max_value_size = (Some 2); pool_voting_thresholds = (Some ((share 2 4) ∷ (share 0 1) ∷ (share 0 1) ∷ (share 0 1) ∷ (share 0 1) ∷ [])) }) None)) ∷ []); votes = ((voting (voter.Pool (pool 0x50)) (action 0x31 0) vote.No) ∷ (voting (voter.Pool (pool 0x52)) (action 0x31 0) vote.Yes) ∷ (voting (voter.Pool (pool 0x10)) (action 0x30 0) vote.Yes) ∷ []) }))) ∷
    (45, Read (records.Block 125 1)) ∷
    (46, Read (records.Tx (record (spend 0x33 70) { inputs = ((ref 0x32 2) ∷ (ref 0x22 1) ∷ (ref 0x25 1) ∷ (ref 0x22 0) ∷ []); outputs = ((paying (address_with 1 (key 0x02) None) 911 0) ∷ (paying (address_with 1 (key 0x02) None) 0 0) ∷ (paying (address_with 1 (script 0x03) None) 0 57) ∷ (paying (address_with 1 (script 0x03) None) 0 0) ∷ []); size = 225; treasury = (Some 190); donation = 30; certs = ((certs.PoolReg (pool 0x51) 400 1 (share 0 1) (account_on 1 (key 0x11)) None) ∷ (certs.PoolRetire (pool 0x51) 14) ∷ (certs.HotAuth (key 0x71) (key 0x30)) ∷ []); proposals = ((proposing 10 (account_on 1 (key 0x10)) (actions.ParameterChange None (record no_update { max_block_ex_units = (Some (1000, 1000)); key_deposit = (Some 0); prices = (Some ((share 0 1), (share 0 1))); pool_voting_thresholds = (Some ((share 2 4) ∷ (share 0 1) ∷ (share 0 1) ∷ (share 0 1) ∷ (share 67 100) ∷ [])) }) None)) ∷ (proposing 10 (account_on 1 (script 0x13)) (actions.HardForkInitiation (Some (action 0x24 0)) (12, 1))) ∷ (proposing 10 (account_on 1 (key 0x11)) (actions.NoConfidence (Some (action 0x31 0)))) ∷ []); votes = ((voting (voter.Committee (key 0x30)) (action 0x32 0) vote.Abstain) ∷ (voting (voter.Pool (pool 0x52)) (action 0x30 0) vote.Yes) ∷ (voting (voter.Drep (key 0x30)) (action 0x32 0) vote.No) ∷ (voting (voter.Drep (key 0x31)) (action 0x31 0) vote.No) ∷ []) }))) ∷
    (47, Read (records.Tx (record (spend 0x33 84) { inputs = ((ref 0x27 3) ∷ (ref 0x09 5) ∷ []); outputs = ((paying (address_with 1 (script 0x03) None) 651 65) ∷ (paying (address_with 1 (key 0x01) (Some (key 0x14))) 1303 29) ∷ (paying (address_with 1 (key 0x10) None) 0 65) ∷ []); size = 400; script_fee = 5; from = (Some 124); donation = 30; withdrawals = (((account_on 1 (script 0x13)), 0) ∷ ((account_on 1 (key 0x11)), 4) ∷ []); certs = ((certs.PoolReg (pool 0x10) 34 4 (share 1 2) (account_on 1 (key 0x30)) (Some (h32 0x09))) ∷ (certs.Delegate (key 0x15) None (Some (drep.Registered (key 0x31)))) ∷ (certs.DrepReg (key 0x10) (Some 5)) ∷ (certs.PoolRetire (pool 0x10) 13) ∷ (certs.PoolReg (pool 0x51) 34 4 (share 1 2) (account_on 1 (key 0x15)) (Some (h32 0x07))) ∷ (certs.HotAuth (key 0x71) (key 0x80)) ∷ (certs.HotAuth (key 0x30) (key 0x81)) ∷ (certs.HotAuth (key 0x71) (script 0x80)) ∷ []); proposals = ((proposing 10 (account_on 1 (key 0x30)) (actions.ParameterChange (Some (action 0x32 0)) (record no_update { drep_voting_thresholds = (Some ((share 1 1) ∷ (share 0 1) ∷ (share 0 1) ∷ (share 0 1) ∷ (share 0 1) ∷ (share 0 1) ∷ (share 0 1) ∷ (share 2 3) ∷ (share 1 1) ∷ (share 0 1) ∷ [])); committee_min_size = (Some 1) }) None)) ∷ []); votes = ((voting (voter.Committee (key 0x81)) (action 0x32 0) vote.No) ∷ []) }))) ∷
    (48, Read (records.Block 131 1)) ∷
    (49, Read (records.Tx (record (spend 0x34 79) { inputs = ((ref 0x30 3) ∷ (ref 0x14 1) ∷ (ref 0x30 2) ∷ (ref 0x27 0) ∷ []); outputs = ((paying (address_with 1 (key 0x01) (Some (key 0x11))) 379 57) ∷ (paying (address_with 1 (key 0x02) None) 0 0) ∷ (paying (address_with 1 (key 0x10) None) 0 65) ∷ (paying (address_with 1 (key 0x10) None) 0 29) ∷ []); size = 205; until = (Some 132); treasury = (Some 220); withdrawals = (((account_on 1 (script 0x13)), 10) ∷ []); certs = ((certs.PoolReg (pool 0x50) 400 1 (share 0 1) (account_on 1 (script 0x10)) None) ∷ (certs.PoolReg (pool 0x50) 500 1 (share 0 1) (account_on 1 (script 0x10)) None) ∷ (certs.PoolRetire (pool 0x50) 14) ∷ (certs.Delegate (script 0x10) (Some (pool 0x50)) None) ∷ (certs.PoolReg (pool 0x50) 400 1 (share 0 1) (account_on 1 (script 0x10)) None) ∷ (certs.HotAuth (key 0x72) (key 0x70)) ∷ []); proposals = ((proposing 10 (account_on 1 (key 0x14)) (actions.Info)) ∷ []); votes = ((voting (voter.Drep (key 0x30)) (action 0x30 0) vote.No) ∷ (voting (voter.Pool (pool 0x52)) (action 0x31 0) vote.Abstain) ∷ (voting (voter.Committee (key 0x70)) (action 0x32 0) vote.Yes) ∷ (voting (voter.Pool (pool 0x50)) (action 0x31 0) vote.Abstain) ∷ []) }))) ∷
    (50, Read (records.Print what.State)) ∷
    []

pub transactions_over_a_fork : says_all transactions_over_a_fork_input (
    codes "1 genesis outputs 53892 deposits 82 rewards 135 fees 0 donations 0 treasury 100 reserves 700 supply 54909" ∷
    codes "2 epoch 6 frozen 8 dormant 1" ∷
    codes "2 stake k00000000000000000000000000000000000000000000000000000031 5390" ∷
    codes "2 stake abstain 1920" ∷
    codes "2 pots outputs 53892 deposits 82 rewards 135 fees 0 donations 0 treasury 100 reserves 700 supply 54909" ∷
    codes "2 block slot 60 epoch 6 counted 1 of 8" ∷
    codes "3 accepted" ∷
    codes "4 epoch 7 frozen 8 dormant 0" ∷
    codes "4 stake k00000000000000000000000000000000000000000000000000000031 5390" ∷
    codes "4 stake abstain 1920" ∷
    codes "4 pots outputs 50482 deposits 92 rewards 135 fees 3400 donations 0 treasury 100 reserves 700 supply 54909" ∷
    codes "4 block slot 71 epoch 7 counted 8 of 8" ∷
    codes "5 accepted" ∷
    codes "6 refused 40 TooManyCollateral max 0" ∷
    codes "7 refused 3 GenesisAgain" ∷
    codes "8 accepted" ∷
    codes "9 pots outputs 46195 deposits 102 rewards 135 fees 7647 donations 30 treasury 100 reserves 700 supply 54909" ∷
    codes "10 accepted" ∷
    codes "11 epoch 8 frozen 8 dormant 0" ∷
    codes "11 stake k00000000000000000000000000000000000000000000000000000031 5390" ∷
    codes "11 stake abstain 1930" ∷
    codes "11 tally 0000000000000000000000000000000000000000000000000000000000000010#0 ParameterChange committee 0/0 need 0/1 drep 0/5390 need 67/100 pool 0/12443 need none waiting" ∷
    codes "11 pots outputs 46120 deposits 102 rewards 135 fees 7722 donations 0 treasury 130 reserves 700 supply 54909" ∷
    codes "11 block slot 82 epoch 8 counted 8 of 8" ∷
    codes "12 accepted" ∷
    codes "13 refused 41 NoCollateral" ∷
    codes "14 refused 64 BalanceNotZero at 1 balance 67" ∷
    codes "15 pots outputs 44194 deposits 117 rewards 135 fees 9633 donations 0 treasury 130 reserves 700 supply 54909" ∷
    codes "16 accepted" ∷
    codes "17 pots outputs 44119 deposits 122 rewards 135 fees 9703 donations 0 treasury 130 reserves 700 supply 54909" ∷
    codes "18 accepted" ∷
    codes "19 accepted" ∷
    codes "20 refused 39 OutputWrongNetwork at 0" ∷
    codes "21 accepted" ∷
    codes "22 refused 87 ZeroWithdrawal at 1" ∷
    codes "23 accepted" ∷
    codes "24 block slot 83 epoch 8 counted 8 of 8" ∷
    codes "25 accepted" ∷
    codes "26 epoch 9 frozen 7 dormant 0" ∷
    codes "26 stake k00000000000000000000000000000000000000000000000000000031 11391" ∷
    codes "26 stake abstain 10" ∷
    codes "26 tally 0000000000000000000000000000000000000000000000000000000000000013#0 NewConstitution committee 0/0 need 0/1 drep 0/0 need 0/1 pool 0/11458 need none ratified" ∷
    codes "26 tally 0000000000000000000000000000000000000000000000000000000000000010#0 ParameterChange committee 0/0 need 0/1 drep 0/0 need 67/100 pool 0/11458 need none waiting" ∷
    codes "26 removed 0000000000000000000000000000000000000000000000000000000000000013#0 enacted refund 10 1k00000000000000000000000000000000000000000000000000000030" ∷
    codes "26 retired 00000000000000000000000000000000000000000000000000000052 refund 4 1s00000000000000000000000000000000000000000000000000000013" ∷
    codes "26 pots outputs 39182 deposits 138 rewards 149 fees 14610 donations 0 treasury 130 reserves 700 supply 54909" ∷
    codes "26 block slot 90 epoch 9 counted 2 of 7" ∷
    codes "27 accepted" ∷
    codes "28 refused 1 Malformed kind" ∷
    codes "29 accepted" ∷
    codes "30 accepted" ∷
    codes "31 refused 32 NoInputs" ∷
    codes "32 refused 102 VoterNotAllowed at 0" ∷
    codes "33 refused 11 EpochSkipped now 9" ∷
    codes "34 pots outputs 38899 deposits 243 rewards 82 fees 14825 donations 30 treasury 130 reserves 700 supply 54909" ∷
    codes "35 refused 110 NotBalanced consumed 427 produced 18446744073709551742" ∷
    codes "36 accepted" ∷
    codes "37 accepted" ∷
    codes "38 epoch 10 frozen 7 dormant 0" ∷
    codes "38 stake k00000000000000000000000000000000000000000000000000000031 1131" ∷
    codes "38 tally 0000000000000000000000000000000000000000000000000000000000000018#0 NoConfidence committee 0/0 need none drep 0/0 need 1/1 pool 0/10292 need 2/4 waiting" ∷
    codes "38 tally 0000000000000000000000000000000000000000000000000000000000000015#0 UpdateCommittee committee 0/0 need none drep 0/0 need 1/2 pool 10292/10292 need 67/100 waiting" ∷
    codes "38 tally 0000000000000000000000000000000000000000000000000000000000000024#0 HardForkInitiation committee 0/0 need 0/1 drep 0/0 need 0/1 pool 0/10292 need 0/1 ratified" ∷
    codes "38 tally 0000000000000000000000000000000000000000000000000000000000000010#0 ParameterChange committee 0/0 need 0/1 drep 0/0 need 67/100 pool 0/10292 need none expired" ∷
    codes "38 tally 0000000000000000000000000000000000000000000000000000000000000020#0 TreasuryWithdrawals committee 0/0 need 0/1 drep 0/0 need 0/1 pool 0/10292 need none waiting" ∷
    codes "38 tally 0000000000000000000000000000000000000000000000000000000000000023#0 Info committee 0/0 need never drep 0/0 need never pool 519/4301 need never waiting" ∷
    codes "38 removed 0000000000000000000000000000000000000000000000000000000000000010#0 expired refund 10 1k00000000000000000000000000000000000000000000000000000012" ∷
    codes "38 removed 0000000000000000000000000000000000000000000000000000000000000024#0 enacted refund 10 1k00000000000000000000000000000000000000000000000000000030" ∷
    codes "38 removed 0000000000000000000000000000000000000000000000000000000000000025#0 dropped refund 10 1k00000000000000000000000000000000000000000000000000000012" ∷
    codes "38 removed 0000000000000000000000000000000000000000000000000000000000000029#1 dropped refund 10 1s00000000000000000000000000000000000000000000000000000013" ∷
    codes "38 pots outputs 38773 deposits 233 rewards 118 fees 14895 donations 0 treasury 190 reserves 700 supply 54909" ∷
    codes "38 block slot 102 epoch 10 counted 7 of 7" ∷
    codes "39 epoch 11 frozen 7 dormant 0" ∷
    codes "39 stake k00000000000000000000000000000000000000000000000000000031 50" ∷
    codes "39 tally 0000000000000000000000000000000000000000000000000000000000000018#0 NoConfidence committee 0/0 need none drep 0/0 need 1/1 pool 3920/6642 need 2/4 waiting" ∷
    codes "39 tally 0000000000000000000000000000000000000000000000000000000000000015#0 UpdateCommittee committee 0/0 need none drep 0/0 need 1/2 pool 2722/6642 need 67/100 waiting" ∷
    codes "39 tally 0000000000000000000000000000000000000000000000000000000000000027#0 UpdateCommittee committee 0/0 need none drep 0/0 need 1/2 pool 0/6642 need 67/100 waiting" ∷
    codes "39 tally 0000000000000000000000000000000000000000000000000000000000000029#2 UpdateCommittee committee 0/0 need none drep 0/0 need 1/2 pool 0/6642 need 67/100 waiting" ∷
    codes "39 tally 0000000000000000000000000000000000000000000000000000000000000026#0 NewConstitution committee 0/0 need 0/1 drep 0/0 need 0/1 pool 0/6642 need none ratified" ∷
    codes "39 tally 0000000000000000000000000000000000000000000000000000000000000027#1 NewConstitution committee 0/0 need 0/1 drep 0/0 need 0/1 pool 0/6642 need none waiting" ∷
    codes "39 tally 0000000000000000000000000000000000000000000000000000000000000029#0 NewConstitution committee 0/0 need 0/1 drep 0/0 need 0/1 pool 0/6642 need none waiting" ∷
    codes "39 tally 0000000000000000000000000000000000000000000000000000000000000020#0 TreasuryWithdrawals committee 0/0 need 0/1 drep 0/0 need 0/1 pool 0/6642 need none waiting" ∷
    codes "39 tally 0000000000000000000000000000000000000000000000000000000000000027#2 TreasuryWithdrawals committee 0/0 need 0/1 drep 0/0 need 0/1 pool 0/6642 need none waiting" ∷
    codes "39 tally 0000000000000000000000000000000000000000000000000000000000000023#0 Info committee 0/0 need never drep 0/0 need never pool 108/6642 need never waiting" ∷
    codes "39 removed 0000000000000000000000000000000000000000000000000000000000000026#0 enacted refund 10 1k00000000000000000000000000000000000000000000000000000012" ∷
    codes "39 removed 0000000000000000000000000000000000000000000000000000000000000029#0 dropped refund 10 1k00000000000000000000000000000000000000000000000000000010" ∷
    codes "39 retired 00000000000000000000000000000000000000000000000000000051 refund 4 1k00000000000000000000000000000000000000000000000000000011" ∷
    codes "39 pots outputs 38773 deposits 209 rewards 142 fees 14895 donations 0 treasury 190 reserves 700 supply 54909" ∷
    codes "39 block slot 112 epoch 11 counted 7 of 7" ∷
    codes "40 epoch 12 frozen 7 dormant 0" ∷
    codes "40 stake k00000000000000000000000000000000000000000000000000000031 50" ∷
    codes "40 stake no-confidence 4" ∷
    codes "40 tally 0000000000000000000000000000000000000000000000000000000000000018#0 NoConfidence committee 0/0 need none drep 4/4 need 1/1 pool 3920/6662 need 2/4 ratified" ∷
    codes "40 tally 0000000000000000000000000000000000000000000000000000000000000015#0 UpdateCommittee committee 0/0 need none drep 0/4 need 67/100 pool 2742/6662 need 2/3 expired" ∷
    codes "40 tally 0000000000000000000000000000000000000000000000000000000000000027#0 UpdateCommittee committee 0/0 need none drep 0/4 need 67/100 pool 0/6662 need 2/3 waiting" ∷
    codes "40 tally 0000000000000000000000000000000000000000000000000000000000000029#2 UpdateCommittee committee 0/0 need none drep 0/4 need 67/100 pool 0/6662 need 2/3 waiting" ∷
    codes "40 tally 0000000000000000000000000000000000000000000000000000000000000027#1 NewConstitution committee 0/0 need never drep 0/4 need 0/1 pool 0/6662 need none waiting" ∷
    codes "40 tally 0000000000000000000000000000000000000000000000000000000000000020#0 TreasuryWithdrawals committee 0/0 need never drep 0/4 need 0/1 pool 0/6662 need none expired" ∷
    codes "40 tally 0000000000000000000000000000000000000000000000000000000000000027#2 TreasuryWithdrawals committee 0/0 need never drep 0/4 need 0/1 pool 0/6662 need none waiting" ∷
    codes "40 tally 0000000000000000000000000000000000000000000000000000000000000023#0 Info committee 0/0 need never drep 0/4 need never pool 118/6662 need never expired" ∷
    codes "40 removed 0000000000000000000000000000000000000000000000000000000000000015#0 expired refund 10 1k00000000000000000000000000000000000000000000000000000030" ∷
    codes "40 removed 0000000000000000000000000000000000000000000000000000000000000018#0 enacted refund 10 1k00000000000000000000000000000000000000000000000000000030" ∷
    codes "40 removed 0000000000000000000000000000000000000000000000000000000000000020#0 expired refund 10 1k00000000000000000000000000000000000000000000000000000010" ∷
    codes "40 removed 0000000000000000000000000000000000000000000000000000000000000023#0 expired refund 10 1k00000000000000000000000000000000000000000000000000000010" ∷
    codes "40 removed 0000000000000000000000000000000000000000000000000000000000000027#0 dropped refund 10 1k00000000000000000000000000000000000000000000000000000012" ∷
    codes "40 pots outputs 38773 deposits 159 rewards 192 fees 14895 donations 0 treasury 190 reserves 700 supply 54909" ∷
    codes "40 block slot 122 epoch 12 counted 2 of 7" ∷
    codes "41 accepted" ∷
    codes "42 refused 80 ProposalDepositWrong at 0 want 10" ∷
    codes "43 accepted" ∷
    codes "44 accepted" ∷
    codes "45 block slot 125 epoch 12 counted 3 of 7" ∷
    codes "46 refused 91 CannotFollow at 1" ∷
    codes "47 refused 104 VoterNotSeated at 0" ∷
    codes "48 epoch 13 frozen 8 dormant 0" ∷
    codes "48 stake k00000000000000000000000000000000000000000000000000000031 50" ∷
    codes "48 stake no-confidence 4" ∷
    codes "48 tally 0000000000000000000000000000000000000000000000000000000000000029#2 UpdateCommittee committee 0/0 need none drep 0/4 need 67/100 pool 0/2726 need 2/3 expired" ∷
    codes "48 tally 0000000000000000000000000000000000000000000000000000000000000027#1 NewConstitution committee 0/0 need never drep 0/4 need 0/1 pool 0/2726 need none expired" ∷
    codes "48 tally 0000000000000000000000000000000000000000000000000000000000000027#2 TreasuryWithdrawals committee 0/0 need never drep 0/4 need 0/1 pool 0/2726 need none expired" ∷
    codes "48 removed 0000000000000000000000000000000000000000000000000000000000000027#1 expired refund 10 1k00000000000000000000000000000000000000000000000000000014" ∷
    codes "48 removed 0000000000000000000000000000000000000000000000000000000000000027#2 expired refund 10 1k00000000000000000000000000000000000000000000000000000012" ∷
    codes "48 removed 0000000000000000000000000000000000000000000000000000000000000029#2 expired refund 10 1s00000000000000000000000000000000000000000000000000000013" ∷
    codes "48 retired 00000000000000000000000000000000000000000000000000000050 refund 50 1k00000000000000000000000000000000000000000000000000000012" ∷
    codes "48 pots outputs 38499 deposits 109 rewards 262 fees 15119 donations 0 treasury 220 reserves 700 supply 54909" ∷
    codes "48 block slot 131 epoch 13 counted 1 of 8" ∷
    codes "49 refused 104 VoterNotSeated at 2" ∷
    codes "50 now slot 131 epoch 13 version 11.0 dormant 0" ∷
    codes "50 constitution 0000000000000000000000000000000000000000000000000000000000000005 none" ∷
    codes "50 committee none" ∷
    codes "50 enacted committee 0000000000000000000000000000000000000000000000000000000000000018#0 constitution 0000000000000000000000000000000000000000000000000000000000000026#0 hardfork 0000000000000000000000000000000000000000000000000000000000000024#0 parameters none" ∷
    codes "50 param maxBlockBodySize 90112" ∷
    codes "50 param maxTxSize 400" ∷
    codes "50 param maxBlockHeaderSize 1100" ∷
    codes "50 param maxValueSize 5000" ∷
    codes "50 param maxTxExUnits 1000 1000" ∷
    codes "50 param maxBlockExUnits 1000 1000" ∷
    codes "50 param maxCollateralInputs 0" ∷
    codes "50 param minFeeA 0" ∷
    codes "50 param minFeeB 70" ∷
    codes "50 param keyDeposit 0" ∷
    codes "50 param poolDeposit 50" ∷
    codes "50 param rho 0/1" ∷
    codes "50 param tau 0/1" ∷
    codes "50 param minPoolCost 34" ∷
    codes "50 param coinsPerUTxOByte 0" ∷
    codes "50 param prices 0/1 0/1" ∷
    codes "50 param minFeeRefScriptCostPerByte 15/1" ∷
    codes "50 param a0 0/1" ∷
    codes "50 param eMax 18" ∷
    codes "50 param nOpt 500" ∷
    codes "50 param costModels 0000000000000000000000000000000000000000000000000000000000000000" ∷
    codes "50 param collateralPercentage 150" ∷
    codes "50 param poolVotingThresholds 2/4 67/100 2/3 0/1 1/100" ∷
    codes "50 param drepVotingThresholds 1/1 1/2 67/100 0/1 0/1 2/3 1/3 67/100 67/100 0/1" ∷
    codes "50 param govActionLifetime 2" ∷
    codes "50 param govActionDeposit 10" ∷
    codes "50 param drepDeposit 5" ∷
    codes "50 param drepActivity 0" ∷
    codes "50 param committeeMinSize 0" ∷
    codes "50 param committeeMaxTermLength 9" ∷
    codes "50 drep k00000000000000000000000000000000000000000000000000000030 deposit 5 expiry 12" ∷
    codes "50 drep k00000000000000000000000000000000000000000000000000000031 deposit 5 expiry 12" ∷
    codes "50 pool 00000000000000000000000000000000000000000000000000000010 deposit 4 cost 39 pledge 0 margin 0/1 account 1k00000000000000000000000000000000000000000000000000000014 retires never key 0000000000000000000000000000000000000000000000000000000000000007" ∷
    codes "50 pool 00000000000000000000000000000000000000000000000000000052 deposit 50 cost 34 pledge 1 margin 0/1 account 1k00000000000000000000000000000000000000000000000000000030 retires never key 0000000000000000000000000000000000000000000000000000000000000008" ∷
    codes "50 account k00000000000000000000000000000000000000000000000000000010 stake 0 deposit 3 rewards 30 pool none drep abstain" ∷
    codes "50 account s00000000000000000000000000000000000000000000000000000010 stake 2584 deposit 3 rewards 0 pool none drep none" ∷
    codes "50 account k00000000000000000000000000000000000000000000000000000011 stake 0 deposit 0 rewards 4 pool 00000000000000000000000000000000000000000000000000000010 drep no-confidence" ∷
    codes "50 account k00000000000000000000000000000000000000000000000000000012 stake 3370 deposit 3 rewards 100 pool none drep k00000000000000000000000000000000000000000000000000000031" ∷
    codes "50 account s00000000000000000000000000000000000000000000000000000013 stake 4760 deposit 3 rewards 10 pool none drep none" ∷
    codes "50 account k00000000000000000000000000000000000000000000000000000014 stake 0 deposit 0 rewards 77 pool 00000000000000000000000000000000000000000000000000000010 drep none" ∷
    codes "50 account k00000000000000000000000000000000000000000000000000000015 stake 0 deposit 0 rewards 0 pool 00000000000000000000000000000000000000000000000000000010 drep none" ∷
    codes "50 account k00000000000000000000000000000000000000000000000000000030 stake 0 deposit 3 rewards 41 pool 00000000000000000000000000000000000000000000000000000010 drep none" ∷
    codes "50 output 0000000000000000000000000000000000000000000000000000000000000001#13 1s00000000000000000000000000000000000000000000000000000003+s00000000000000000000000000000000000000000000000000000010 1666" ∷
    codes "50 output 0000000000000000000000000000000000000000000000000000000000000009#5 1k00000000000000000000000000000000000000000000000000000010 2129" ∷
    codes "50 output 0000000000000000000000000000000000000000000000000000000000000013#0 1s00000000000000000000000000000000000000000000000000000003 2048" ∷
    codes "50 output 0000000000000000000000000000000000000000000000000000000000000014#1 1k00000000000000000000000000000000000000000000000000000002 0" ∷
    codes "50 output 0000000000000000000000000000000000000000000000000000000000000015#1 1k00000000000000000000000000000000000000000000000000000002+s00000000000000000000000000000000000000000000000000000010 918" ∷
    codes "50 output 0000000000000000000000000000000000000000000000000000000000000018#1 1k00000000000000000000000000000000000000000000000000000010+k00000000000000000000000000000000000000000000000000000030 0" ∷
    codes "50 output 0000000000000000000000000000000000000000000000000000000000000019#0 1k00000000000000000000000000000000000000000000000000000001 15095" ∷
    codes "50 output 0000000000000000000000000000000000000000000000000000000000000022#0 1k00000000000000000000000000000000000000000000000000000002 1081" ∷
    codes "50 output 0000000000000000000000000000000000000000000000000000000000000022#1 1k00000000000000000000000000000000000000000000000000000010 0" ∷
    codes "50 output 0000000000000000000000000000000000000000000000000000000000000024#0 1s00000000000000000000000000000000000000000000000000000003 421" ∷
    codes "50 output 0000000000000000000000000000000000000000000000000000000000000025#0 1k00000000000000000000000000000000000000000000000000000002 358" ∷
    codes "50 output 0000000000000000000000000000000000000000000000000000000000000025#1 1k00000000000000000000000000000000000000000000000000000001+k00000000000000000000000000000000000000000000000000000015 0" ∷
    codes "50 output 0000000000000000000000000000000000000000000000000000000000000026#1 1k00000000000000000000000000000000000000000000000000000010 0" ∷
    codes "50 output 0000000000000000000000000000000000000000000000000000000000000026#2 1k00000000000000000000000000000000000000000000000000000002+k00000000000000000000000000000000000000000000000000000012 0" ∷
    codes "50 output 0000000000000000000000000000000000000000000000000000000000000027#0 1s00000000000000000000000000000000000000000000000000000003 508" ∷
    codes "50 output 0000000000000000000000000000000000000000000000000000000000000027#1 1k00000000000000000000000000000000000000000000000000000010 169" ∷
    codes "50 output 0000000000000000000000000000000000000000000000000000000000000027#2 1s00000000000000000000000000000000000000000000000000000003 339" ∷
    codes "50 output 0000000000000000000000000000000000000000000000000000000000000027#3 1k00000000000000000000000000000000000000000000000000000002+k00000000000000000000000000000000000000000000000000000011 0" ∷
    codes "50 output 0000000000000000000000000000000000000000000000000000000000000029#0 1k00000000000000000000000000000000000000000000000000000010 1955" ∷
    codes "50 output 0000000000000000000000000000000000000000000000000000000000000029#1 1s00000000000000000000000000000000000000000000000000000003+s00000000000000000000000000000000000000000000000000000013 3910" ∷
    codes "50 output 0000000000000000000000000000000000000000000000000000000000000030#0 1k00000000000000000000000000000000000000000000000000000002+s00000000000000000000000000000000000000000000000000000013 850" ∷
    codes "50 output 0000000000000000000000000000000000000000000000000000000000000030#2 1k00000000000000000000000000000000000000000000000000000002 0" ∷
    codes "50 output 0000000000000000000000000000000000000000000000000000000000000030#3 1k00000000000000000000000000000000000000000000000000000002 0" ∷
    codes "50 output 0000000000000000000000000000000000000000000000000000000000000031#0 1k00000000000000000000000000000000000000000000000000000001+k00000000000000000000000000000000000000000000000000000012 3370" ∷
    codes "50 output 0000000000000000000000000000000000000000000000000000000000000031#1 1k00000000000000000000000000000000000000000000000000000002 0" ∷
    codes "50 output 0000000000000000000000000000000000000000000000000000000000000031#2 1s00000000000000000000000000000000000000000000000000000003 0" ∷
    codes "50 output 0000000000000000000000000000000000000000000000000000000000000032#0 1k00000000000000000000000000000000000000000000000000000001 3682" ∷
    codes "50 output 0000000000000000000000000000000000000000000000000000000000000032#1 1k00000000000000000000000000000000000000000000000000000001 0" ∷
    codes "50 output 0000000000000000000000000000000000000000000000000000000000000032#2 1k00000000000000000000000000000000000000000000000000000001 0" ∷
    codes "50 output 0000000000000000000000000000000000000000000000000000000000000032#3 1k00000000000000000000000000000000000000000000000000000001 0" ∷
    codes "50 proposal 0000000000000000000000000000000000000000000000000000000000000030#0 UpdateCommittee deposit 10 return 1k00000000000000000000000000000000000000000000000000000012 expires 14 previous 0000000000000000000000000000000000000000000000000000000000000018#0" ∷
    codes "50 vote 0000000000000000000000000000000000000000000000000000000000000030#0 pool:00000000000000000000000000000000000000000000000000000010 yes" ∷
    codes "50 proposal 0000000000000000000000000000000000000000000000000000000000000031#0 UpdateCommittee deposit 10 return 1k00000000000000000000000000000000000000000000000000000015 expires 14 previous 0000000000000000000000000000000000000000000000000000000000000018#0" ∷
    codes "50 vote 0000000000000000000000000000000000000000000000000000000000000031#0 pool:00000000000000000000000000000000000000000000000000000050 no" ∷
    codes "50 vote 0000000000000000000000000000000000000000000000000000000000000031#0 pool:00000000000000000000000000000000000000000000000000000052 yes" ∷
    codes "50 proposal 0000000000000000000000000000000000000000000000000000000000000032#0 ParameterChange deposit 10 return 1s00000000000000000000000000000000000000000000000000000013 expires 14 previous none" ∷
    codes "50 snapshot mark 00000000000000000000000000000000000000000000000000000010 112" ∷
    codes "50 snapshot mark 00000000000000000000000000000000000000000000000000000050 5994" ∷
    codes "50 snapshot mark 00000000000000000000000000000000000000000000000000000052 0" ∷
    codes "50 snapshot set 00000000000000000000000000000000000000000000000000000010 92" ∷
    codes "50 snapshot set 00000000000000000000000000000000000000000000000000000050 2614" ∷
    codes "50 snapshot set 00000000000000000000000000000000000000000000000000000052 0" ∷
    codes "50 snapshot go 00000000000000000000000000000000000000000000000000000010 88" ∷
    codes "50 snapshot go 00000000000000000000000000000000000000000000000000000050 2604" ∷
    codes "50 snapshot go 00000000000000000000000000000000000000000000000000000051 3920" ∷
    codes "50 snapshot go 00000000000000000000000000000000000000000000000000000052 0" ∷
    codes "50 snapshot fees 15119" ∷
    codes "50 pending none" ∷
    codes "50 pots outputs 38499 deposits 109 rewards 262 fees 15119 donations 0 treasury 220 reserves 700 supply 54909" ∷
    []) ≡ true
unfolding digits encode_with
transactions_over_a_fork = refl
