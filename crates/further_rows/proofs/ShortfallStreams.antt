-- Worked rows of whole streams: fewest further votes. Made by tests/made/rows_of, from the streams of these names in tests/streams/further.
use Rattle.std.specs.Prelude.{ℕ, ◌≡◌, List, [], ◌∷◌, Some, None, true, codes, refl}
use Rattle.std.specs.Fmt.{digits}
use Rattle.hex.specs.Hex.{encode_with}
use Rattle.gov_actions.specs.declared.action.Action.TheVariants as actions
use Rattle.gov_actions.specs.declared.action.Vote.TheVariants as vote
use Rattle.gov_ids.specs.declared.Drep.TheVariants as drep
use Rattle.gov_ids.specs.declared.Voter.TheVariants as voter
use Rattle.tx_records.specs.declared.record.Record.TheVariants as records
use Rattle.tx_records.specs.declared.cert.Cert.TheVariants as certs
use Rattle.tx_records.specs.declared.record.Reading.{Reading}
use Rattle.tx_records.specs.declared.record.Reading.TheVariants.{Read}
use Rattle.ledger_rows.proofs.Base.{h32, key, script, pool, account_on, address_with, ref, action, share, base_params, no_update, spend, paying, proposing, voting}
use Rattle.shortfall_model.specs.ShortLines.{shortfall_of_readings}
use Rattle.further_rows.proofs.Texts.{is_text}

abbrev shortfall_of_all_types_input : List (ℕ × Reading)
shortfall_of_all_types_input =
    (1, Read (records.Genesis (record { network = 1; slot = 0; epoch_length = 10; version = (10, 0); supply = 5000; reserves = 3682; treasury = 100; params = (record base_params { drep_voting_thresholds = ((share 1 2) ∷ (share 155 200) ∷ (share 0 1) ∷ (share 1 1) ∷ (share 0 7) ∷ (share 1 9) ∷ (share 1 2) ∷ (share 2 4) ∷ (share 3 8) ∷ (share 60 200) ∷ []) }); document = (h32 0x01); script = None; committee = (Some (record { threshold = (share 0 1); members = (((key 0x70), 100, (Some (key 0x71))) ∷ []) })); outputs = (((ref 0x01 2), (address_with 1 (key 0x01) None), 20, []) ∷ ((ref 0x01 3), (address_with 1 (key 0x01) None), 20, []) ∷ ((ref 0x01 4), (address_with 1 (key 0x01) None), 20, []) ∷ ((ref 0x01 5), (address_with 1 (key 0x01) None), 20, []) ∷ ((ref 0x01 6), (address_with 1 (key 0x01) None), 20, []) ∷ ((ref 0x01 7), (address_with 1 (key 0x01) None), 20, []) ∷ ((ref 0x01 8), (address_with 1 (key 0x01) None), 20, []) ∷ ((ref 0x01 9), (address_with 1 (key 0x01) None), 20, []) ∷ ((ref 0x01 10), (address_with 1 (key 0x01) None), 20, []) ∷ ((ref 0x01 11), (address_with 1 (key 0x01) None), 20, []) ∷ ((ref 0x01 12), (address_with 1 (key 0x01) None), 20, []) ∷ ((ref 0x01 13), (address_with 1 (key 0x01) None), 20, []) ∷ ((ref 0x01 14), (address_with 1 (key 0x01) None), 20, []) ∷ ((ref 0x01 15), (address_with 1 (key 0x01) None), 20, []) ∷ ((ref 0x01 16), (address_with 1 (key 0x01) None), 20, []) ∷ ((ref 0x01 17), (address_with 1 (key 0x01) None), 20, []) ∷ ((ref 0x01 18), (address_with 1 (key 0x01) None), 20, []) ∷ ((ref 0x01 19), (address_with 1 (key 0x01) None), 20, []) ∷ []); accounts = (((key 0x10), 2, 60, None, (Some (drep.Registered (key 0x30)))) ∷ ((key 0x11), 2, 40, None, (Some (drep.Registered (key 0x32)))) ∷ ((key 0x12), 2, 40, None, (Some (drep.Registered (key 0x31)))) ∷ ((key 0x13), 2, 40, None, (Some (drep.Registered (script 0x31)))) ∷ ((key 0x14), 2, 5, None, (Some (drep.Registered (script 0x30)))) ∷ ((key 0x15), 2, 500, None, (Some (drep.Registered (key 0x34)))) ∷ ((key 0x16), 2, 100, None, (Some drep.Abstain)) ∷ ((key 0x17), 2, 15, None, (Some drep.NoConfidence)) ∷ ((key 0x20), 2, 0, None, None) ∷ []); pools = ((record { pool = (pool 0x50); deposit = 5; cost = 0; pledge = 0; margin = (share 0 1); account = (account_on 1 (key 0x12)); key = None }) ∷ []); dreps = (((key 0x34), 5, 0) ∷ ((key 0x30), 5, 20) ∷ ((script 0x30), 5, 20) ∷ ((key 0x31), 5, 1) ∷ ((script 0x31), 5, 20) ∷ ((key 0x32), 5, 20) ∷ ((key 0x33), 5, 20) ∷ []) }))) ∷
    (2, Read (records.Tx (record (spend 0x02 0) { proposals = ((proposing 10 (account_on 1 (key 0x20)) (actions.Info)) ∷ (proposing 10 (account_on 1 (key 0x20)) (actions.TreasuryWithdrawals (((account_on 1 (key 0x20)), 1) ∷ []) None)) ∷ []) }))) ∷
    (3, Read (records.Tx (record (spend 0x03 0) { inputs = ((ref 0x01 3) ∷ (ref 0x01 13) ∷ []); proposals = ((proposing 10 (account_on 1 (key 0x20)) (actions.TreasuryWithdrawals (((account_on 1 (key 0x20)), 1) ∷ []) None)) ∷ (proposing 10 (account_on 1 (key 0x20)) (actions.TreasuryWithdrawals (((account_on 1 (key 0x20)), 1) ∷ []) None)) ∷ (proposing 10 (account_on 1 (key 0x20)) (actions.TreasuryWithdrawals (((account_on 1 (key 0x20)), 1) ∷ []) None)) ∷ (proposing 10 (account_on 1 (key 0x20)) (actions.TreasuryWithdrawals (((account_on 1 (key 0x20)), 1) ∷ []) None)) ∷ []) }))) ∷
    (4, Read (records.Tx (record (spend 0x04 0) { proposals = ((proposing 10 (account_on 1 (key 0x20)) (actions.ParameterChange None (record no_update { key_deposit = (Some 3); n_opt = (Some 1) }) None)) ∷ (proposing 10 (account_on 1 (key 0x20)) (actions.ParameterChange None (record no_update { max_tx_size = (Some 4) }) None)) ∷ []) }))) ∷
    (5, Read (records.Tx (record (spend 0x05 0) { proposals = ((proposing 10 (account_on 1 (key 0x20)) (actions.HardForkInitiation None (10, 1))) ∷ (proposing 10 (account_on 1 (key 0x20)) (actions.NewConstitution None (h32 0x04) None)) ∷ []) }))) ∷
    (6, Read (records.Tx (record (spend 0x06 0) { proposals = ((proposing 10 (account_on 1 (key 0x20)) (actions.UpdateCommittee None [] [] (share 0 1))) ∷ (proposing 10 (account_on 1 (key 0x20)) (actions.NoConfidence None)) ∷ []) }))) ∷
    (7, Read (records.Tx (record (spend 0x07 20) { votes = ((voting (voter.Drep (key 0x30)) (action 0x02 1) vote.Yes) ∷ (voting (voter.Drep (key 0x30)) (action 0x03 0) vote.No) ∷ (voting (voter.Drep (key 0x31)) (action 0x03 0) vote.Abstain) ∷ (voting (voter.Drep (key 0x30)) (action 0x03 1) vote.Yes) ∷ (voting (voter.Drep (key 0x33)) (action 0x03 1) vote.Abstain) ∷ (voting (voter.Drep (key 0x30)) (action 0x03 2) vote.Abstain) ∷ (voting (voter.Drep (script 0x31)) (action 0x03 2) vote.No) ∷ (voting (voter.Drep (key 0x30)) (action 0x03 3) vote.No) ∷ (voting (voter.Drep (key 0x31)) (action 0x03 3) vote.No) ∷ (voting (voter.Drep (script 0x31)) (action 0x03 3) vote.No) ∷ (voting (voter.Drep (key 0x32)) (action 0x03 3) vote.No) ∷ (voting (voter.Drep (script 0x30)) (action 0x04 0) vote.Yes) ∷ (voting (voter.Drep (script 0x30)) (action 0x06 0) vote.No) ∷ []) }))) ∷
    (8, Read (records.Block 1 1)) ∷
    (9, Read (records.Block 10 3)) ∷
    (10, Read (records.Tx (record (spend 0x08 5) { outputs = ((paying (address_with 1 (key 0x01) (Some (key 0x10))) 20 0) ∷ []); certs = ((certs.Delegate (key 0x15) None (Some (drep.Registered (key 0x30)))) ∷ (certs.DrepUnreg (key 0x32) None) ∷ []); votes = ((voting (voter.Drep (key 0x30)) (action 0x06 1) vote.Yes) ∷ (voting (voter.Drep (script 0x30)) (action 0x03 1) vote.No) ∷ []) }))) ∷
    (11, Read (records.Tx (record (spend 0x09 0) { outputs = ((paying (address_with 1 (key 0x01) (Some (key 0x11))) 10 0) ∷ []); proposals = ((proposing 10 (account_on 1 (key 0x20)) (actions.TreasuryWithdrawals (((account_on 1 (key 0x20)), 1) ∷ []) None)) ∷ []) }))) ∷
    []

pub shortfall_of_all_types : is_text (shortfall_of_readings shortfall_of_all_types_input) (
    codes "shortfall 0000000000000000000000000000000000000000000000000000000000000006#1 least 2 yes 15 of 200 need 1/2 short 75" ∷
    codes "add k00000000000000000000000000000000000000000000000000000030 60" ∷
    codes "add k00000000000000000000000000000000000000000000000000000031 40" ∷
    codes "shortfall 0000000000000000000000000000000000000000000000000000000000000006#0 least 4 yes 0 of 200 need 155/200 short 140" ∷
    codes "add k00000000000000000000000000000000000000000000000000000030 60" ∷
    codes "add k00000000000000000000000000000000000000000000000000000031 40" ∷
    codes "add s00000000000000000000000000000000000000000000000000000031 40" ∷
    codes "add k00000000000000000000000000000000000000000000000000000032 40" ∷
    codes "shortfall 0000000000000000000000000000000000000000000000000000000000000005#1 none yes 0 of 200 need 1/1" ∷
    codes "shortfall 0000000000000000000000000000000000000000000000000000000000000005#0 least 0 yes 0 of 200 need 0/7" ∷
    codes "shortfall 0000000000000000000000000000000000000000000000000000000000000004#0 least 2 yes 5 of 200 need 1/2 short 65" ∷
    codes "add k00000000000000000000000000000000000000000000000000000030 60" ∷
    codes "add k00000000000000000000000000000000000000000000000000000031 40" ∷
    codes "shortfall 0000000000000000000000000000000000000000000000000000000000000004#1 least 1 yes 0 of 200 need 1/9 short 0" ∷
    codes "add k00000000000000000000000000000000000000000000000000000030 60" ∷
    codes "shortfall 0000000000000000000000000000000000000000000000000000000000000002#1 least 0 yes 60 of 200 need 60/200" ∷
    codes "shortfall 0000000000000000000000000000000000000000000000000000000000000003#0 least 2 yes 0 of 160 need 60/200 short 40" ∷
    codes "add s00000000000000000000000000000000000000000000000000000031 40" ∷
    codes "add k00000000000000000000000000000000000000000000000000000032 40" ∷
    codes "shortfall 0000000000000000000000000000000000000000000000000000000000000003#1 least 0 yes 60 of 200 need 60/200" ∷
    codes "shortfall 0000000000000000000000000000000000000000000000000000000000000003#2 least 2 yes 0 of 140 need 60/200 short 40" ∷
    codes "add k00000000000000000000000000000000000000000000000000000031 40" ∷
    codes "add k00000000000000000000000000000000000000000000000000000032 40" ∷
    codes "shortfall 0000000000000000000000000000000000000000000000000000000000000003#3 none yes 0 of 200 need 60/200" ∷
    codes "shortfall 0000000000000000000000000000000000000000000000000000000000000002#0 never" ∷
    []) ≡ true
unfolding digits encode_with
shortfall_of_all_types = refl

abbrev shortfall_of_no_stake_input : List (ℕ × Reading)
shortfall_of_no_stake_input =
    (1, Read (records.Genesis (record { network = 1; slot = 0; epoch_length = 10; version = (10, 0); supply = 5000; reserves = 4382; treasury = 100; params = (record base_params { drep_voting_thresholds = ((share 1 2) ∷ (share 155 200) ∷ (share 0 1) ∷ (share 1 1) ∷ (share 0 7) ∷ (share 1 9) ∷ (share 1 2) ∷ (share 2 4) ∷ (share 3 8) ∷ (share 60 200) ∷ []) }); document = (h32 0x01); script = None; committee = (Some (record { threshold = (share 0 1); members = (((key 0x70), 100, (Some (key 0x71))) ∷ []) })); outputs = (((ref 0x01 2), (address_with 1 (key 0x01) None), 20, []) ∷ ((ref 0x01 3), (address_with 1 (key 0x01) None), 20, []) ∷ ((ref 0x01 4), (address_with 1 (key 0x01) None), 20, []) ∷ ((ref 0x01 5), (address_with 1 (key 0x01) None), 20, []) ∷ ((ref 0x01 6), (address_with 1 (key 0x01) None), 20, []) ∷ ((ref 0x01 7), (address_with 1 (key 0x01) None), 20, []) ∷ ((ref 0x01 8), (address_with 1 (key 0x01) None), 20, []) ∷ ((ref 0x01 9), (address_with 1 (key 0x01) None), 20, []) ∷ ((ref 0x01 10), (address_with 1 (key 0x01) None), 20, []) ∷ ((ref 0x01 11), (address_with 1 (key 0x01) None), 20, []) ∷ ((ref 0x01 12), (address_with 1 (key 0x01) None), 20, []) ∷ ((ref 0x01 13), (address_with 1 (key 0x01) None), 20, []) ∷ ((ref 0x01 14), (address_with 1 (key 0x01) None), 20, []) ∷ ((ref 0x01 15), (address_with 1 (key 0x01) None), 20, []) ∷ ((ref 0x01 16), (address_with 1 (key 0x01) None), 20, []) ∷ ((ref 0x01 17), (address_with 1 (key 0x01) None), 20, []) ∷ ((ref 0x01 18), (address_with 1 (key 0x01) None), 20, []) ∷ ((ref 0x01 19), (address_with 1 (key 0x01) None), 20, []) ∷ []); accounts = (((key 0x16), 2, 100, None, (Some drep.Abstain)) ∷ ((key 0x20), 2, 3, None, None) ∷ ((key 0x21), 2, 9, None, (Some (drep.Registered (key 0x34)))) ∷ []); pools = ((record { pool = (pool 0x50); deposit = 5; cost = 0; pledge = 0; margin = (share 0 1); account = (account_on 1 (key 0x12)); key = None }) ∷ []); dreps = (((key 0x34), 5, 0) ∷ ((key 0x30), 5, 20) ∷ ((script 0x30), 5, 20) ∷ ((key 0x31), 5, 1) ∷ ((script 0x31), 5, 20) ∷ ((key 0x32), 5, 20) ∷ ((key 0x33), 5, 20) ∷ []) }))) ∷
    (2, Read (records.Tx (record (spend 0x02 0) { proposals = ((proposing 10 (account_on 1 (key 0x20)) (actions.TreasuryWithdrawals (((account_on 1 (key 0x20)), 1) ∷ []) None)) ∷ (proposing 10 (account_on 1 (key 0x20)) (actions.HardForkInitiation None (11, 0))) ∷ []) }))) ∷
    (3, Read (records.Block 10 1)) ∷
    []

pub shortfall_of_no_stake : is_text (shortfall_of_readings shortfall_of_no_stake_input) (
    codes "shortfall 0000000000000000000000000000000000000000000000000000000000000002#1 least 0 yes 0 of 0 need 0/7" ∷
    codes "shortfall 0000000000000000000000000000000000000000000000000000000000000002#0 none yes 0 of 0 need 60/200" ∷
    []) ≡ true
unfolding digits encode_with
shortfall_of_no_stake = refl

abbrev shortfall_of_an_exact_threshold_input : List (ℕ × Reading)
shortfall_of_an_exact_threshold_input =
    (1, Read (records.Genesis (record { network = 1; slot = 0; epoch_length = 10; version = (10, 0); supply = 5000; reserves = 4394; treasury = 100; params = (record base_params { drep_voting_thresholds = ((share 67 100) ∷ (share 68 100) ∷ (share 0 1) ∷ (share 100 100) ∷ (share 66 100) ∷ (share 1 10000000000000000000) ∷ (share 1 10000000000000000000) ∷ (share 1 10000000000000000000) ∷ (share 1 10000000000000000000) ∷ (share 671 1000) ∷ []) }); document = (h32 0x01); script = None; committee = (Some (record { threshold = (share 0 1); members = (((key 0x70), 100, (Some (key 0x71))) ∷ []) })); outputs = (((ref 0x01 2), (address_with 1 (key 0x01) None), 20, []) ∷ ((ref 0x01 3), (address_with 1 (key 0x01) None), 20, []) ∷ ((ref 0x01 4), (address_with 1 (key 0x01) None), 20, []) ∷ ((ref 0x01 5), (address_with 1 (key 0x01) None), 20, []) ∷ ((ref 0x01 6), (address_with 1 (key 0x01) None), 20, []) ∷ ((ref 0x01 7), (address_with 1 (key 0x01) None), 20, []) ∷ ((ref 0x01 8), (address_with 1 (key 0x01) None), 20, []) ∷ ((ref 0x01 9), (address_with 1 (key 0x01) None), 20, []) ∷ ((ref 0x01 10), (address_with 1 (key 0x01) None), 20, []) ∷ ((ref 0x01 11), (address_with 1 (key 0x01) None), 20, []) ∷ ((ref 0x01 12), (address_with 1 (key 0x01) None), 20, []) ∷ ((ref 0x01 13), (address_with 1 (key 0x01) None), 20, []) ∷ ((ref 0x01 14), (address_with 1 (key 0x01) None), 20, []) ∷ ((ref 0x01 15), (address_with 1 (key 0x01) None), 20, []) ∷ ((ref 0x01 16), (address_with 1 (key 0x01) None), 20, []) ∷ ((ref 0x01 17), (address_with 1 (key 0x01) None), 20, []) ∷ ((ref 0x01 18), (address_with 1 (key 0x01) None), 20, []) ∷ ((ref 0x01 19), (address_with 1 (key 0x01) None), 20, []) ∷ []); accounts = (((key 0x10), 2, 67, None, (Some (drep.Registered (key 0x32)))) ∷ ((key 0x11), 2, 33, None, (Some (drep.Registered (key 0x30)))) ∷ ((key 0x20), 2, 0, None, None) ∷ []); pools = ((record { pool = (pool 0x50); deposit = 5; cost = 0; pledge = 0; margin = (share 0 1); account = (account_on 1 (key 0x12)); key = None }) ∷ []); dreps = (((key 0x34), 5, 0) ∷ ((key 0x30), 5, 20) ∷ ((script 0x30), 5, 20) ∷ ((key 0x31), 5, 1) ∷ ((script 0x31), 5, 20) ∷ ((key 0x32), 5, 20) ∷ ((key 0x33), 5, 20) ∷ []) }))) ∷
    (2, Read (records.Tx (record (spend 0x02 0) { proposals = ((proposing 10 (account_on 1 (key 0x20)) (actions.NoConfidence None)) ∷ (proposing 10 (account_on 1 (key 0x20)) (actions.UpdateCommittee None [] [] (share 0 1))) ∷ []) }))) ∷
    (3, Read (records.Tx (record (spend 0x03 0) { proposals = ((proposing 10 (account_on 1 (key 0x20)) (actions.NewConstitution None (h32 0x04) None)) ∷ (proposing 10 (account_on 1 (key 0x20)) (actions.HardForkInitiation None (10, 1))) ∷ []) }))) ∷
    (4, Read (records.Tx (record (spend 0x04 0) { proposals = ((proposing 10 (account_on 1 (key 0x20)) (actions.ParameterChange None (record no_update { n_opt = (Some 1) }) None)) ∷ (proposing 10 (account_on 1 (key 0x20)) (actions.TreasuryWithdrawals (((account_on 1 (key 0x20)), 1) ∷ []) None)) ∷ []) }))) ∷
    (5, Read (records.Block 10 1)) ∷
    []

pub shortfall_of_an_exact_threshold : is_text (shortfall_of_readings shortfall_of_an_exact_threshold_input) (
    codes "shortfall 0000000000000000000000000000000000000000000000000000000000000002#0 least 1 yes 0 of 100 need 67/100 short 0" ∷
    codes "add k00000000000000000000000000000000000000000000000000000032 67" ∷
    codes "shortfall 0000000000000000000000000000000000000000000000000000000000000002#1 least 2 yes 0 of 100 need 68/100 short 67" ∷
    codes "add k00000000000000000000000000000000000000000000000000000032 67" ∷
    codes "add k00000000000000000000000000000000000000000000000000000030 33" ∷
    codes "shortfall 0000000000000000000000000000000000000000000000000000000000000003#0 least 2 yes 0 of 100 need 100/100 short 67" ∷
    codes "add k00000000000000000000000000000000000000000000000000000032 67" ∷
    codes "add k00000000000000000000000000000000000000000000000000000030 33" ∷
    codes "shortfall 0000000000000000000000000000000000000000000000000000000000000003#1 least 1 yes 0 of 100 need 66/100 short 0" ∷
    codes "add k00000000000000000000000000000000000000000000000000000032 67" ∷
    codes "shortfall 0000000000000000000000000000000000000000000000000000000000000004#0 least 1 yes 0 of 100 need 1/10000000000000000000 short 0" ∷
    codes "add k00000000000000000000000000000000000000000000000000000032 67" ∷
    codes "shortfall 0000000000000000000000000000000000000000000000000000000000000004#1 least 2 yes 0 of 100 need 671/1000 short 67" ∷
    codes "add k00000000000000000000000000000000000000000000000000000032 67" ∷
    codes "add k00000000000000000000000000000000000000000000000000000030 33" ∷
    []) ≡ true
unfolding digits encode_with
shortfall_of_an_exact_threshold = refl

abbrev shortfall_with_deposits_input : List (ℕ × Reading)
shortfall_with_deposits_input =
    (1, Read (records.Genesis (record { network = 1; slot = 0; epoch_length = 10; version = (10, 0); supply = 5000; reserves = 4367; treasury = 100; params = (record base_params { drep_voting_thresholds = ((share 1 2) ∷ (share 155 200) ∷ (share 0 1) ∷ (share 1 1) ∷ (share 0 7) ∷ (share 1 9) ∷ (share 1 2) ∷ (share 2 4) ∷ (share 3 8) ∷ (share 60 200) ∷ []) }); document = (h32 0x01); script = None; committee = (Some (record { threshold = (share 0 1); members = (((key 0x70), 100, (Some (key 0x71))) ∷ []) })); outputs = (((ref 0x01 2), (address_with 1 (key 0x01) None), 20, []) ∷ ((ref 0x01 3), (address_with 1 (key 0x01) None), 20, []) ∷ ((ref 0x01 4), (address_with 1 (key 0x01) None), 20, []) ∷ ((ref 0x01 5), (address_with 1 (key 0x01) None), 20, []) ∷ ((ref 0x01 6), (address_with 1 (key 0x01) None), 20, []) ∷ ((ref 0x01 7), (address_with 1 (key 0x01) None), 20, []) ∷ ((ref 0x01 8), (address_with 1 (key 0x01) None), 20, []) ∷ ((ref 0x01 9), (address_with 1 (key 0x01) None), 20, []) ∷ ((ref 0x01 10), (address_with 1 (key 0x01) None), 20, []) ∷ ((ref 0x01 11), (address_with 1 (key 0x01) None), 20, []) ∷ ((ref 0x01 12), (address_with 1 (key 0x01) None), 20, []) ∷ ((ref 0x01 13), (address_with 1 (key 0x01) None), 20, []) ∷ ((ref 0x01 14), (address_with 1 (key 0x01) None), 20, []) ∷ ((ref 0x01 15), (address_with 1 (key 0x01) None), 20, []) ∷ ((ref 0x01 16), (address_with 1 (key 0x01) None), 20, []) ∷ ((ref 0x01 17), (address_with 1 (key 0x01) None), 20, []) ∷ ((ref 0x01 18), (address_with 1 (key 0x01) None), 20, []) ∷ ((ref 0x01 19), (address_with 1 (key 0x01) None), 20, []) ∷ []); accounts = (((key 0x10), 2, 40, None, (Some (drep.Registered (key 0x30)))) ∷ ((key 0x11), 2, 45, None, (Some (drep.Registered (key 0x31)))) ∷ ((key 0x12), 2, 40, None, (Some (drep.Registered (script 0x31)))) ∷ ((key 0x20), 2, 0, None, None) ∷ []); pools = ((record { pool = (pool 0x50); deposit = 5; cost = 0; pledge = 0; margin = (share 0 1); account = (account_on 1 (key 0x12)); key = None }) ∷ []); dreps = (((key 0x34), 5, 0) ∷ ((key 0x30), 5, 20) ∷ ((script 0x30), 5, 20) ∷ ((key 0x31), 5, 1) ∷ ((script 0x31), 5, 20) ∷ ((key 0x32), 5, 20) ∷ ((key 0x33), 5, 20) ∷ []) }))) ∷
    (2, Read (records.Tx (record (spend 0x02 0) { proposals = ((proposing 10 (account_on 1 (key 0x10)) (actions.NoConfidence None)) ∷ (proposing 10 (account_on 1 (key 0x12)) (actions.TreasuryWithdrawals (((account_on 1 (key 0x20)), 1) ∷ []) None)) ∷ []) }))) ∷
    (3, Read (records.Tx (record (spend 0x03 10) { proposals = ((proposing 10 (account_on 1 (key 0x10)) (actions.TreasuryWithdrawals (((account_on 1 (key 0x20)), 1) ∷ []) None)) ∷ []) }))) ∷
    (4, Read (records.Block 10 2)) ∷
    (5, Read (records.Tx (record (spend 0x04 10) { proposals = ((proposing 10 (account_on 1 (key 0x11)) (actions.TreasuryWithdrawals (((account_on 1 (key 0x20)), 1) ∷ []) None)) ∷ []) }))) ∷
    (6, Read (records.Tx (record (spend 0x05 0) { proposals = ((proposing 10 (account_on 1 (key 0x11)) (actions.TreasuryWithdrawals (((account_on 1 (key 0x20)), 1) ∷ []) None)) ∷ (proposing 10 (account_on 1 (key 0x11)) (actions.TreasuryWithdrawals (((account_on 1 (key 0x20)), 1) ∷ []) None)) ∷ []) }))) ∷
    []

pub shortfall_with_deposits : is_text (shortfall_of_readings shortfall_with_deposits_input) (
    codes "shortfall 0000000000000000000000000000000000000000000000000000000000000002#0 least 2 yes 0 of 155 need 1/2 short 60" ∷
    codes "add k00000000000000000000000000000000000000000000000000000030 60" ∷
    codes "add s00000000000000000000000000000000000000000000000000000031 50" ∷
    codes "shortfall 0000000000000000000000000000000000000000000000000000000000000002#1 least 1 yes 0 of 155 need 60/200 short 0" ∷
    codes "add k00000000000000000000000000000000000000000000000000000030 60" ∷
    codes "shortfall 0000000000000000000000000000000000000000000000000000000000000003#0 least 1 yes 0 of 155 need 60/200 short 0" ∷
    codes "add k00000000000000000000000000000000000000000000000000000030 60" ∷
    []) ≡ true
unfolding digits encode_with
shortfall_with_deposits = refl

abbrev shortfall_before_any_enactment_input : List (ℕ × Reading)
shortfall_before_any_enactment_input =
    (1, Read (records.Genesis (record { network = 1; slot = 0; epoch_length = 10; version = (10, 0); supply = 5000; reserves = 3682; treasury = 100; params = (record base_params { drep_voting_thresholds = ((share 0 1) ∷ (share 3 10) ∷ (share 1 10) ∷ (share 1 2) ∷ (share 1 2) ∷ (share 0 1) ∷ (share 0 1) ∷ (share 0 1) ∷ (share 0 1) ∷ (share 1 3) ∷ []) }); document = (h32 0x01); script = None; committee = (Some (record { threshold = (share 0 1); members = (((key 0x70), 100, (Some (key 0x71))) ∷ []) })); outputs = (((ref 0x01 2), (address_with 1 (key 0x01) None), 20, []) ∷ ((ref 0x01 3), (address_with 1 (key 0x01) None), 20, []) ∷ ((ref 0x01 4), (address_with 1 (key 0x01) None), 20, []) ∷ ((ref 0x01 5), (address_with 1 (key 0x01) None), 20, []) ∷ ((ref 0x01 6), (address_with 1 (key 0x01) None), 20, []) ∷ ((ref 0x01 7), (address_with 1 (key 0x01) None), 20, []) ∷ ((ref 0x01 8), (address_with 1 (key 0x01) None), 20, []) ∷ ((ref 0x01 9), (address_with 1 (key 0x01) None), 20, []) ∷ ((ref 0x01 10), (address_with 1 (key 0x01) None), 20, []) ∷ ((ref 0x01 11), (address_with 1 (key 0x01) None), 20, []) ∷ ((ref 0x01 12), (address_with 1 (key 0x01) None), 20, []) ∷ ((ref 0x01 13), (address_with 1 (key 0x01) None), 20, []) ∷ ((ref 0x01 14), (address_with 1 (key 0x01) None), 20, []) ∷ ((ref 0x01 15), (address_with 1 (key 0x01) None), 20, []) ∷ ((ref 0x01 16), (address_with 1 (key 0x01) None), 20, []) ∷ ((ref 0x01 17), (address_with 1 (key 0x01) None), 20, []) ∷ ((ref 0x01 18), (address_with 1 (key 0x01) None), 20, []) ∷ ((ref 0x01 19), (address_with 1 (key 0x01) None), 20, []) ∷ []); accounts = (((key 0x10), 2, 60, None, (Some (drep.Registered (key 0x30)))) ∷ ((key 0x11), 2, 40, None, (Some (drep.Registered (key 0x32)))) ∷ ((key 0x12), 2, 40, None, (Some (drep.Registered (key 0x31)))) ∷ ((key 0x13), 2, 40, None, (Some (drep.Registered (script 0x31)))) ∷ ((key 0x14), 2, 5, None, (Some (drep.Registered (script 0x30)))) ∷ ((key 0x15), 2, 500, None, (Some (drep.Registered (key 0x34)))) ∷ ((key 0x16), 2, 100, None, (Some drep.Abstain)) ∷ ((key 0x17), 2, 15, None, (Some drep.NoConfidence)) ∷ ((key 0x20), 2, 0, None, None) ∷ []); pools = ((record { pool = (pool 0x50); deposit = 5; cost = 0; pledge = 0; margin = (share 0 1); account = (account_on 1 (key 0x12)); key = None }) ∷ []); dreps = (((key 0x34), 5, 0) ∷ ((key 0x30), 5, 20) ∷ ((script 0x30), 5, 20) ∷ ((key 0x31), 5, 1) ∷ ((script 0x31), 5, 20) ∷ ((key 0x32), 5, 20) ∷ ((key 0x33), 5, 20) ∷ []) }))) ∷
    (2, Read (records.Tx (record (spend 0x02 0) { proposals = ((proposing 10 (account_on 1 (key 0x20)) (actions.NoConfidence None)) ∷ (proposing 10 (account_on 1 (key 0x20)) (actions.ParameterChange None (record no_update { drep_voting_thresholds = (Some ((share 1 1) ∷ (share 1 1) ∷ (share 1 1) ∷ (share 1 1) ∷ (share 1 1) ∷ (share 1 1) ∷ (share 1 1) ∷ (share 1 1) ∷ (share 1 1) ∷ (share 1 1) ∷ [])) }) None)) ∷ []) }))) ∷
    (3, Read (records.Tx (record (spend 0x03 0) { proposals = ((proposing 10 (account_on 1 (key 0x20)) (actions.UpdateCommittee None ((key 0x70) ∷ []) [] (share 0 1))) ∷ (proposing 10 (account_on 1 (key 0x20)) (actions.TreasuryWithdrawals (((account_on 1 (key 0x20)), 1) ∷ []) None)) ∷ []) }))) ∷
    (4, Read (records.Block 10 2)) ∷
    (5, Read (records.Block 11 2)) ∷
    []

pub shortfall_before_any_enactment : is_text (shortfall_of_readings shortfall_before_any_enactment_input) (
    codes "shortfall 0000000000000000000000000000000000000000000000000000000000000002#0 least 0 yes 15 of 200 need 0/1" ∷
    codes "shortfall 0000000000000000000000000000000000000000000000000000000000000003#0 least 1 yes 0 of 200 need 3/10 short 0" ∷
    codes "add k00000000000000000000000000000000000000000000000000000030 60" ∷
    codes "shortfall 0000000000000000000000000000000000000000000000000000000000000002#1 least 0 yes 0 of 200 need 0/1" ∷
    codes "shortfall 0000000000000000000000000000000000000000000000000000000000000003#1 least 2 yes 0 of 200 need 1/3 short 60" ∷
    codes "add k00000000000000000000000000000000000000000000000000000030 60" ∷
    codes "add k00000000000000000000000000000000000000000000000000000031 40" ∷
    []) ≡ true
unfolding digits encode_with
shortfall_before_any_enactment = refl

abbrev shortfall_without_a_committee_input : List (ℕ × Reading)
shortfall_without_a_committee_input =
    (1, Read (records.Genesis (record { network = 1; slot = 0; epoch_length = 10; version = (10, 0); supply = 5000; reserves = 3682; treasury = 100; params = (record base_params { drep_voting_thresholds = ((share 1 2) ∷ (share 155 200) ∷ (share 41 200) ∷ (share 1 2) ∷ (share 1 2) ∷ (share 1 2) ∷ (share 1 2) ∷ (share 1 2) ∷ (share 1 2) ∷ (share 1 2) ∷ []) }); document = (h32 0x01); script = None; committee = None; outputs = (((ref 0x01 2), (address_with 1 (key 0x01) None), 20, []) ∷ ((ref 0x01 3), (address_with 1 (key 0x01) None), 20, []) ∷ ((ref 0x01 4), (address_with 1 (key 0x01) None), 20, []) ∷ ((ref 0x01 5), (address_with 1 (key 0x01) None), 20, []) ∷ ((ref 0x01 6), (address_with 1 (key 0x01) None), 20, []) ∷ ((ref 0x01 7), (address_with 1 (key 0x01) None), 20, []) ∷ ((ref 0x01 8), (address_with 1 (key 0x01) None), 20, []) ∷ ((ref 0x01 9), (address_with 1 (key 0x01) None), 20, []) ∷ ((ref 0x01 10), (address_with 1 (key 0x01) None), 20, []) ∷ ((ref 0x01 11), (address_with 1 (key 0x01) None), 20, []) ∷ ((ref 0x01 12), (address_with 1 (key 0x01) None), 20, []) ∷ ((ref 0x01 13), (address_with 1 (key 0x01) None), 20, []) ∷ ((ref 0x01 14), (address_with 1 (key 0x01) None), 20, []) ∷ ((ref 0x01 15), (address_with 1 (key 0x01) None), 20, []) ∷ ((ref 0x01 16), (address_with 1 (key 0x01) None), 20, []) ∷ ((ref 0x01 17), (address_with 1 (key 0x01) None), 20, []) ∷ ((ref 0x01 18), (address_with 1 (key 0x01) None), 20, []) ∷ ((ref 0x01 19), (address_with 1 (key 0x01) None), 20, []) ∷ []); accounts = (((key 0x10), 2, 60, None, (Some (drep.Registered (key 0x30)))) ∷ ((key 0x11), 2, 40, None, (Some (drep.Registered (key 0x32)))) ∷ ((key 0x12), 2, 40, None, (Some (drep.Registered (key 0x31)))) ∷ ((key 0x13), 2, 40, None, (Some (drep.Registered (script 0x31)))) ∷ ((key 0x14), 2, 5, None, (Some (drep.Registered (script 0x30)))) ∷ ((key 0x15), 2, 500, None, (Some (drep.Registered (key 0x34)))) ∷ ((key 0x16), 2, 100, None, (Some drep.Abstain)) ∷ ((key 0x17), 2, 15, None, (Some drep.NoConfidence)) ∷ ((key 0x20), 2, 0, None, None) ∷ []); pools = ((record { pool = (pool 0x50); deposit = 5; cost = 0; pledge = 0; margin = (share 0 1); account = (account_on 1 (key 0x12)); key = None }) ∷ []); dreps = (((key 0x34), 5, 0) ∷ ((key 0x30), 5, 20) ∷ ((script 0x30), 5, 20) ∷ ((key 0x31), 5, 1) ∷ ((script 0x31), 5, 20) ∷ ((key 0x32), 5, 20) ∷ ((key 0x33), 5, 20) ∷ []) }))) ∷
    (2, Read (records.Tx (record (spend 0x02 0) { proposals = ((proposing 10 (account_on 1 (key 0x20)) (actions.UpdateCommittee None [] (((key 0x60), 9) ∷ []) (share 0 1))) ∷ (proposing 10 (account_on 1 (key 0x20)) (actions.NewConstitution None (h32 0x03) None)) ∷ []) }))) ∷
    (3, Read (records.Block 10 1)) ∷
    []

pub shortfall_without_a_committee : is_text (shortfall_of_readings shortfall_without_a_committee_input) (
    codes "shortfall 0000000000000000000000000000000000000000000000000000000000000002#0 least 1 yes 0 of 200 need 41/200 short 0" ∷
    codes "add k00000000000000000000000000000000000000000000000000000030 60" ∷
    codes "shortfall 0000000000000000000000000000000000000000000000000000000000000002#1 least 2 yes 0 of 200 need 1/2 short 60" ∷
    codes "add k00000000000000000000000000000000000000000000000000000030 60" ∷
    codes "add k00000000000000000000000000000000000000000000000000000031 40" ∷
    []) ≡ true
unfolding digits encode_with
shortfall_without_a_committee = refl

abbrev shortfall_of_great_stakes_input : List (ℕ × Reading)
shortfall_of_great_stakes_input =
    (1, Read (records.Genesis (record { network = 1; slot = 0; epoch_length = 10; version = (10, 0); supply = 45000000000000000; reserves = 0; treasury = 1; params = (record base_params { drep_voting_thresholds = ((share 18446744073709551614 18446744073709551615) ∷ (share 12297829382473034411 18446744073709551615) ∷ (share 12297829382473034411 18446744073709551615) ∷ (share 12297829382473034410 18446744073709551615) ∷ (share 12297829382473034410 18446744073709551615) ∷ (share 12297829382473034410 18446744073709551615) ∷ (share 12297829382473034410 18446744073709551615) ∷ (share 12297829382473034410 18446744073709551615) ∷ (share 12297829382473034410 18446744073709551615) ∷ (share 12297829382473034410 18446744073709551615) ∷ []) }); document = (h32 0x01); script = None; committee = (Some (record { threshold = (share 0 1); members = (((key 0x70), 100, (Some (key 0x71))) ∷ []) })); outputs = (((ref 0x01 2), (address_with 1 (key 0x01) None), 20, []) ∷ ((ref 0x01 3), (address_with 1 (key 0x01) (Some (key 0x10))), 29999999999999905, []) ∷ ((ref 0x01 4), (address_with 1 (key 0x01) (Some (key 0x11))), 14999999999999953, []) ∷ []); accounts = (((key 0x10), 2, 67, None, (Some (drep.Registered (key 0x30)))) ∷ ((key 0x11), 2, 33, None, (Some (drep.Registered (key 0x31)))) ∷ ((key 0x12), 2, 0, None, None) ∷ []); pools = ((record { pool = (pool 0x50); deposit = 5; cost = 0; pledge = 0; margin = (share 0 1); account = (account_on 1 (key 0x12)); key = None }) ∷ []); dreps = (((key 0x30), 5, 20) ∷ ((key 0x31), 5, 20) ∷ []) }))) ∷
    (2, Read (records.Tx (record (spend 0x02 0) { proposals = ((proposing 10 (account_on 1 (key 0x12)) (actions.NewConstitution None (h32 0x02) None)) ∷ (proposing 10 (account_on 1 (key 0x12)) (actions.UpdateCommittee None [] [] (share 0 1))) ∷ []) }))) ∷
    (3, Read (records.Block 10 1)) ∷
    []

pub shortfall_of_great_stakes : is_text (shortfall_of_readings shortfall_of_great_stakes_input) (
    codes "shortfall 0000000000000000000000000000000000000000000000000000000000000002#1 least 2 yes 0 of 44999999999999958 need 12297829382473034411/18446744073709551615 short 29999999999999972" ∷
    codes "add k00000000000000000000000000000000000000000000000000000030 29999999999999972" ∷
    codes "add k00000000000000000000000000000000000000000000000000000031 14999999999999986" ∷
    codes "shortfall 0000000000000000000000000000000000000000000000000000000000000002#0 least 1 yes 0 of 44999999999999958 need 12297829382473034410/18446744073709551615 short 0" ∷
    codes "add k00000000000000000000000000000000000000000000000000000030 29999999999999972" ∷
    []) ≡ true
unfolding digits encode_with
shortfall_of_great_stakes = refl

abbrev shortfall_of_dreps_that_left_input : List (ℕ × Reading)
shortfall_of_dreps_that_left_input =
    (1, Read (records.Genesis (record { network = 1; slot = 0; epoch_length = 10; version = (10, 0); supply = 5000; reserves = 3682; treasury = 100; params = (record base_params { drep_voting_thresholds = ((share 1 2) ∷ (share 155 200) ∷ (share 0 1) ∷ (share 1 1) ∷ (share 0 7) ∷ (share 1 9) ∷ (share 1 2) ∷ (share 2 4) ∷ (share 3 8) ∷ (share 60 200) ∷ []) }); document = (h32 0x01); script = None; committee = (Some (record { threshold = (share 0 1); members = (((key 0x70), 100, (Some (key 0x71))) ∷ []) })); outputs = (((ref 0x01 2), (address_with 1 (key 0x01) None), 20, []) ∷ ((ref 0x01 3), (address_with 1 (key 0x01) None), 20, []) ∷ ((ref 0x01 4), (address_with 1 (key 0x01) None), 20, []) ∷ ((ref 0x01 5), (address_with 1 (key 0x01) None), 20, []) ∷ ((ref 0x01 6), (address_with 1 (key 0x01) None), 20, []) ∷ ((ref 0x01 7), (address_with 1 (key 0x01) None), 20, []) ∷ ((ref 0x01 8), (address_with 1 (key 0x01) None), 20, []) ∷ ((ref 0x01 9), (address_with 1 (key 0x01) None), 20, []) ∷ ((ref 0x01 10), (address_with 1 (key 0x01) None), 20, []) ∷ ((ref 0x01 11), (address_with 1 (key 0x01) None), 20, []) ∷ ((ref 0x01 12), (address_with 1 (key 0x01) None), 20, []) ∷ ((ref 0x01 13), (address_with 1 (key 0x01) None), 20, []) ∷ ((ref 0x01 14), (address_with 1 (key 0x01) None), 20, []) ∷ ((ref 0x01 15), (address_with 1 (key 0x01) None), 20, []) ∷ ((ref 0x01 16), (address_with 1 (key 0x01) None), 20, []) ∷ ((ref 0x01 17), (address_with 1 (key 0x01) None), 20, []) ∷ ((ref 0x01 18), (address_with 1 (key 0x01) None), 20, []) ∷ ((ref 0x01 19), (address_with 1 (key 0x01) None), 20, []) ∷ []); accounts = (((key 0x10), 2, 60, None, (Some (drep.Registered (key 0x30)))) ∷ ((key 0x11), 2, 40, None, (Some (drep.Registered (key 0x32)))) ∷ ((key 0x12), 2, 40, None, (Some (drep.Registered (key 0x31)))) ∷ ((key 0x13), 2, 40, None, (Some (drep.Registered (script 0x31)))) ∷ ((key 0x14), 2, 5, None, (Some (drep.Registered (script 0x30)))) ∷ ((key 0x15), 2, 500, None, (Some (drep.Registered (key 0x34)))) ∷ ((key 0x16), 2, 100, None, (Some drep.Abstain)) ∷ ((key 0x17), 2, 15, None, (Some drep.NoConfidence)) ∷ ((key 0x20), 2, 0, None, None) ∷ []); pools = ((record { pool = (pool 0x50); deposit = 5; cost = 0; pledge = 0; margin = (share 0 1); account = (account_on 1 (key 0x12)); key = None }) ∷ []); dreps = (((key 0x34), 5, 0) ∷ ((key 0x30), 5, 20) ∷ ((script 0x30), 5, 20) ∷ ((key 0x31), 5, 1) ∷ ((script 0x31), 5, 20) ∷ ((key 0x32), 5, 20) ∷ ((key 0x33), 5, 20) ∷ []) }))) ∷
    (2, Read (records.Tx (record (spend 0x02 0) { proposals = ((proposing 10 (account_on 1 (key 0x20)) (actions.NewConstitution None (h32 0x02) None)) ∷ (proposing 10 (account_on 1 (key 0x20)) (actions.NoConfidence None)) ∷ []) }))) ∷
    (3, Read (records.Tx (record (spend 0x03 30) { certs = ((certs.DrepUnreg (key 0x30) None) ∷ (certs.DrepUnreg (script 0x31) None) ∷ []) }))) ∷
    (4, Read (records.Tx (record (spend 0x04 15) { certs = ((certs.DrepReg (key 0x30) None) ∷ []) }))) ∷
    (5, Read (records.Block 10 1)) ∷
    (6, Read (records.Tx (record (spend 0x05 25) { certs = ((certs.DrepUnreg (key 0x31) None) ∷ []) }))) ∷
    (7, Read (records.Tx (record (spend 0x06 15) { certs = ((certs.Delegate (key 0x10) None (Some (drep.Registered (key 0x30)))) ∷ (certs.DrepReg (script 0x31) None) ∷ []) }))) ∷
    []

pub shortfall_of_dreps_that_left : is_text (shortfall_of_readings shortfall_of_dreps_that_left_input) (
    codes "shortfall 0000000000000000000000000000000000000000000000000000000000000002#1 least 1 yes 15 of 100 need 1/2 short 15" ∷
    codes "add k00000000000000000000000000000000000000000000000000000031 40" ∷
    codes "shortfall 0000000000000000000000000000000000000000000000000000000000000002#0 none yes 0 of 100 need 1/1" ∷
    []) ≡ true
unfolding digits encode_with
shortfall_of_dreps_that_left = refl

abbrev shortfall_in_any_part_of_the_count_input : List (ℕ × Reading)
shortfall_in_any_part_of_the_count_input =
    (1, Read (records.Genesis (record { network = 1; slot = 0; epoch_length = 10; version = (10, 0); supply = 1000; reserves = 579; treasury = 100; params = base_params; document = (h32 0x01); script = None; committee = (Some (record { threshold = (share 0 1); members = (((key 0x70), 100, (Some (key 0x71))) ∷ []) })); outputs = (((ref 0x01 0), (address_with 1 (key 0x01) None), 20, []) ∷ ((ref 0x01 1), (address_with 1 (key 0x01) None), 20, []) ∷ ((ref 0x01 2), (address_with 1 (key 0x01) None), 20, []) ∷ ((ref 0x01 3), (address_with 1 (key 0x01) None), 20, []) ∷ ((ref 0x01 4), (address_with 1 (key 0x01) None), 20, []) ∷ ((ref 0x01 5), (address_with 1 (key 0x01) None), 20, []) ∷ ((ref 0x01 6), (address_with 1 (key 0x01) None), 20, []) ∷ ((ref 0x01 7), (address_with 1 (key 0x01) None), 20, []) ∷ ((ref 0x01 8), (address_with 1 (key 0x01) None), 20, []) ∷ ((ref 0x01 9), (address_with 1 (key 0x01) (Some (key 0x10))), 20, []) ∷ []); accounts = (((key 0x10), 2, 67, None, (Some (drep.Registered (key 0x30)))) ∷ ((key 0x11), 2, 33, None, (Some (drep.Registered (key 0x31)))) ∷ ((key 0x12), 2, 0, None, None) ∷ []); pools = ((record { pool = (pool 0x50); deposit = 5; cost = 0; pledge = 0; margin = (share 0 1); account = (account_on 1 (key 0x12)); key = None }) ∷ []); dreps = (((key 0x30), 5, 20) ∷ ((key 0x31), 5, 20) ∷ []) }))) ∷
    (2, Read (records.Tx (record (spend 0x02 0) { outputs = ((paying (address_with 1 (key 0x01) None) 10 0) ∷ []); proposals = ((proposing 10 (account_on 1 (key 0x10)) (actions.NewConstitution None (h32 0x04) None)) ∷ []) }))) ∷
    (3, Read (records.Block 10 1)) ∷
    (4, Read (records.Tx (record (spend 0x03 18) { certs = ((certs.Delegate (key 0x10) None (Some (drep.Registered (key 0x31)))) ∷ (certs.AccountReg (key 0x05) None None None) ∷ []) }))) ∷
    (5, Read (records.Tx (record (spend 0x04 20) { inputs = ((ref 0x01 9) ∷ []); votes = ((voting (voter.Drep (key 0x30)) (action 0x02 0) vote.Yes) ∷ []) }))) ∷
    (6, Read (records.Block 12 1)) ∷
    (7, Read (records.Tx (record (spend 0x05 20) { outputs = ((paying (address_with 1 (key 0x01) (Some (key 0x11))) 33 0) ∷ []); withdrawals = (((account_on 1 (key 0x11)), 33) ∷ []) }))) ∷
    []

pub shortfall_in_any_part_of_the_count : is_text (shortfall_of_readings shortfall_in_any_part_of_the_count_input) (
    codes "shortfall 0000000000000000000000000000000000000000000000000000000000000002#0 least 1 yes 0 of 130 need 67/100 short 0" ∷
    codes "add k00000000000000000000000000000000000000000000000000000030 97" ∷
    []) ≡ true
unfolding digits encode_with
shortfall_in_any_part_of_the_count = refl

abbrev shortfall_of_no_frozen_proposal_input : List (ℕ × Reading)
shortfall_of_no_frozen_proposal_input =
    (1, Read (records.Genesis (record { network = 1; slot = 0; epoch_length = 10; version = (10, 0); supply = 5000; reserves = 3682; treasury = 100; params = (record base_params { drep_voting_thresholds = ((share 1 2) ∷ (share 155 200) ∷ (share 0 1) ∷ (share 1 1) ∷ (share 0 7) ∷ (share 1 9) ∷ (share 1 2) ∷ (share 2 4) ∷ (share 3 8) ∷ (share 60 200) ∷ []) }); document = (h32 0x01); script = None; committee = (Some (record { threshold = (share 0 1); members = (((key 0x70), 100, (Some (key 0x71))) ∷ []) })); outputs = (((ref 0x01 2), (address_with 1 (key 0x01) None), 20, []) ∷ ((ref 0x01 3), (address_with 1 (key 0x01) None), 20, []) ∷ ((ref 0x01 4), (address_with 1 (key 0x01) None), 20, []) ∷ ((ref 0x01 5), (address_with 1 (key 0x01) None), 20, []) ∷ ((ref 0x01 6), (address_with 1 (key 0x01) None), 20, []) ∷ ((ref 0x01 7), (address_with 1 (key 0x01) None), 20, []) ∷ ((ref 0x01 8), (address_with 1 (key 0x01) None), 20, []) ∷ ((ref 0x01 9), (address_with 1 (key 0x01) None), 20, []) ∷ ((ref 0x01 10), (address_with 1 (key 0x01) None), 20, []) ∷ ((ref 0x01 11), (address_with 1 (key 0x01) None), 20, []) ∷ ((ref 0x01 12), (address_with 1 (key 0x01) None), 20, []) ∷ ((ref 0x01 13), (address_with 1 (key 0x01) None), 20, []) ∷ ((ref 0x01 14), (address_with 1 (key 0x01) None), 20, []) ∷ ((ref 0x01 15), (address_with 1 (key 0x01) None), 20, []) ∷ ((ref 0x01 16), (address_with 1 (key 0x01) None), 20, []) ∷ ((ref 0x01 17), (address_with 1 (key 0x01) None), 20, []) ∷ ((ref 0x01 18), (address_with 1 (key 0x01) None), 20, []) ∷ ((ref 0x01 19), (address_with 1 (key 0x01) None), 20, []) ∷ []); accounts = (((key 0x10), 2, 60, None, (Some (drep.Registered (key 0x30)))) ∷ ((key 0x11), 2, 40, None, (Some (drep.Registered (key 0x32)))) ∷ ((key 0x12), 2, 40, None, (Some (drep.Registered (key 0x31)))) ∷ ((key 0x13), 2, 40, None, (Some (drep.Registered (script 0x31)))) ∷ ((key 0x14), 2, 5, None, (Some (drep.Registered (script 0x30)))) ∷ ((key 0x15), 2, 500, None, (Some (drep.Registered (key 0x34)))) ∷ ((key 0x16), 2, 100, None, (Some drep.Abstain)) ∷ ((key 0x17), 2, 15, None, (Some drep.NoConfidence)) ∷ ((key 0x20), 2, 0, None, None) ∷ []); pools = ((record { pool = (pool 0x50); deposit = 5; cost = 0; pledge = 0; margin = (share 0 1); account = (account_on 1 (key 0x12)); key = None }) ∷ []); dreps = (((key 0x34), 5, 0) ∷ ((key 0x30), 5, 20) ∷ ((script 0x30), 5, 20) ∷ ((key 0x31), 5, 1) ∷ ((script 0x31), 5, 20) ∷ ((key 0x32), 5, 20) ∷ ((key 0x33), 5, 20) ∷ []) }))) ∷
    (2, Read (records.Tx (record (spend 0x02 0) { proposals = ((proposing 10 (account_on 1 (key 0x20)) (actions.NoConfidence None)) ∷ (proposing 10 (account_on 1 (key 0x20)) (actions.TreasuryWithdrawals (((account_on 1 (key 0x20)), 1) ∷ []) None)) ∷ []) }))) ∷
    (3, Read (records.Block 9 9)) ∷
    []

pub shortfall_of_no_frozen_proposal : is_text (shortfall_of_readings shortfall_of_no_frozen_proposal_input) (
    []) ≡ true
unfolding digits encode_with
shortfall_of_no_frozen_proposal = refl
