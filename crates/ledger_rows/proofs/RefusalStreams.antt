-- Worked rows of whole streams: what records are refused for. Made by tests/made/rows_of, from the streams of these names in tests/streams/whole.
use Rattle.std.specs.Prelude.{ℕ, ◌≡◌, List, [], ◌∷◌, Some, None, true, false, codes, refl}
use Rattle.std.specs.Fmt.{digits}
use Rattle.hex.specs.Hex.{encode_with}
use Rattle.gov_actions.specs.declared.action.Action.TheVariants as actions
use Rattle.gov_actions.specs.declared.action.Vote.TheVariants as vote
use Rattle.gov_ids.specs.declared.Drep.TheVariants as drep
use Rattle.gov_ids.specs.declared.Voter.TheVariants as voter
use Rattle.tx_records.specs.declared.field.FieldName.TheVariants as field
use Rattle.tx_records.specs.declared.record.Record.TheVariants as records
use Rattle.tx_records.specs.declared.record.What.TheVariants as what
use Rattle.tx_records.specs.declared.cert.Cert.TheVariants as certs
use Rattle.tx_records.specs.declared.tx.Scripts.TheVariants as scripts
use Rattle.tx_records.specs.declared.record.Reading.{Reading}
use Rattle.tx_records.specs.declared.record.Reading.TheVariants.{Read, Malformed}
use Rattle.ledger_rows.proofs.Base.{h28, h32, key, script, pool, account_on, address_with, ref, action, share, base_params, no_update, spend, paying, proposing, voting, says_all}

abbrev first_of_the_broken_rules_on_outputs_input : List (ℕ × Reading)
first_of_the_broken_rules_on_outputs_input =
    (1, Read (records.Genesis (record { network = 1; slot = 7; epoch_length = 10; version = (10, 0); supply = 3000; reserves = 2699; treasury = 100; params = (record base_params { min_fee_a = 1; coins_per_utxo_byte = 1 }); document = (h32 0x01); script = None; committee = (Some (record { threshold = (share 0 1); members = (((key 0x70), 100, (Some (key 0x71))) ∷ []) })); outputs = (((ref 0x01 2), (address_with 1 (key 0x01) None), 20, []) ∷ ((ref 0x01 3), (address_with 1 (key 0x01) None), 20, []) ∷ ((ref 0x01 4), (address_with 1 (key 0x01) None), 20, []) ∷ ((ref 0x01 5), (address_with 1 (key 0x01) None), 20, []) ∷ []); accounts = (((key 0x10), 2, 67, None, (Some (drep.Registered (key 0x30)))) ∷ ((key 0x11), 2, 33, None, (Some (drep.Registered (key 0x31)))) ∷ ((key 0x12), 2, 0, None, None) ∷ []); pools = ((record { pool = (pool 0x50); deposit = 5; cost = 0; pledge = 0; margin = (share 0 1); account = (account_on 1 (key 0x12)); key = None }) ∷ []); dreps = (((key 0x30), 5, 20) ∷ ((key 0x31), 5, 20) ∷ []) }))) ∷
    (2, Read (records.Tx (record (spend 0x01 1) { inputs = []; outputs = ((paying (address_with 0 (key 0x01) None) 0 0) ∷ []); size = 17000; witnessed = false; scripts = scripts.Passed; from = (Some 99); collateral = ((ref 0x01 3) ∷ (ref 0x01 3) ∷ (ref 0x01 3) ∷ (ref 0x01 3) ∷ []) }))) ∷
    (3, Read (records.Tx (record (spend 0x09 1) { inputs = []; outputs = ((paying (address_with 0 (key 0x01) None) 0 0) ∷ []); size = 17000; witnessed = false; scripts = scripts.Passed; from = (Some 99); collateral = ((ref 0x01 3) ∷ (ref 0x01 3) ∷ (ref 0x01 3) ∷ (ref 0x01 3) ∷ []) }))) ∷
    (4, Read (records.Tx (record (spend 0x09 1) { inputs = []; outputs = ((paying (address_with 0 (key 0x01) None) 0 0) ∷ []); size = 17000; scripts = scripts.Passed; from = (Some 99); collateral = ((ref 0x01 3) ∷ (ref 0x01 3) ∷ (ref 0x01 3) ∷ (ref 0x01 3) ∷ []) }))) ∷
    (5, Read (records.Tx (record (spend 0x09 1) { inputs = ((ref 0x01 2) ∷ (ref 0x01 9) ∷ (ref 0x01 2) ∷ []); outputs = ((paying (address_with 0 (key 0x01) None) 0 0) ∷ []); size = 17000; scripts = scripts.Passed; from = (Some 99); collateral = ((ref 0x01 3) ∷ (ref 0x01 3) ∷ (ref 0x01 3) ∷ (ref 0x01 3) ∷ []) }))) ∷
    (6, Read (records.Tx (record (spend 0x09 1) { inputs = ((ref 0x01 2) ∷ (ref 0x01 2) ∷ (ref 0x01 9) ∷ []); outputs = ((paying (address_with 0 (key 0x01) None) 0 0) ∷ []); size = 17000; scripts = scripts.Passed; from = (Some 99); collateral = ((ref 0x01 3) ∷ (ref 0x01 3) ∷ (ref 0x01 3) ∷ (ref 0x01 3) ∷ []) }))) ∷
    (7, Read (records.Tx (record (spend 0x09 1) { inputs = ((ref 0x01 2) ∷ []); outputs = ((paying (address_with 0 (key 0x01) None) 0 0) ∷ []); size = 17000; scripts = scripts.Passed; from = (Some 99); collateral = ((ref 0x01 3) ∷ (ref 0x01 3) ∷ (ref 0x01 3) ∷ (ref 0x01 3) ∷ []) }))) ∷
    (8, Read (records.Tx (record (spend 0x09 1) { inputs = ((ref 0x01 2) ∷ []); outputs = ((paying (address_with 0 (key 0x01) None) 0 0) ∷ []); size = 3; scripts = scripts.Passed; from = (Some 99); collateral = ((ref 0x01 3) ∷ (ref 0x01 3) ∷ (ref 0x01 3) ∷ (ref 0x01 3) ∷ []) }))) ∷
    (9, Read (records.Tx (record (spend 0x09 1) { inputs = ((ref 0x01 2) ∷ []); outputs = ((paying (address_with 0 (key 0x01) None) 0 0) ∷ []); size = 3; scripts = scripts.Passed; collateral = ((ref 0x01 3) ∷ (ref 0x01 3) ∷ (ref 0x01 3) ∷ (ref 0x01 3) ∷ []) }))) ∷
    (10, Read (records.Tx (record (spend 0x09 1) { inputs = ((ref 0x01 2) ∷ []); outputs = ((paying (address_with 0 (key 0x01) None) 0 0) ∷ []); size = 1; scripts = scripts.Passed; collateral = ((ref 0x01 3) ∷ (ref 0x01 3) ∷ (ref 0x01 3) ∷ (ref 0x01 3) ∷ []) }))) ∷
    (11, Read (records.Tx (record (spend 0x09 1) { inputs = ((ref 0x01 2) ∷ []); outputs = ((paying (address_with 0 (key 0x01) None) 160 0) ∷ (paying (address_with 1 (key 0x01) None) 0 0) ∷ []); size = 1; scripts = scripts.Passed; collateral = ((ref 0x01 3) ∷ (ref 0x01 3) ∷ (ref 0x01 3) ∷ (ref 0x01 3) ∷ []) }))) ∷
    (12, Read (records.Tx (record (spend 0x09 1) { inputs = ((ref 0x01 2) ∷ []); size = 1; scripts = scripts.Passed; collateral = ((ref 0x01 3) ∷ (ref 0x01 3) ∷ (ref 0x01 3) ∷ (ref 0x01 3) ∷ []) }))) ∷
    (13, Read (records.Tx (record (spend 0x09 1) { inputs = ((ref 0x01 2) ∷ []); size = 1; scripts = scripts.Passed; collateral = ((ref 0x01 3) ∷ (ref 0x01 3) ∷ (ref 0x01 3) ∷ []); treasury = (Some 5) }))) ∷
    (14, Read (records.Tx (record (spend 0x09 1) { inputs = ((ref 0x01 2) ∷ []); size = 1; scripts = scripts.Passed; treasury = (Some 5) }))) ∷
    (15, Read (records.Tx (record (spend 0x09 20) { inputs = ((ref 0x01 2) ∷ []); scripts = scripts.Passed; collateral = ((ref 0x01 3) ∷ []); treasury = (Some 5) }))) ∷
    (16, Read (records.Tx (record (spend 0x09 1) { inputs = ((ref 0x01 2) ∷ []); treasury = (Some 5); withdrawals = (((account_on 0 (key 0x10)), 1) ∷ []) }))) ∷
    []

pub first_of_the_broken_rules_on_outputs : says_all first_of_the_broken_rules_on_outputs_input (
    codes "1 genesis outputs 80 deposits 21 rewards 100 fees 0 donations 0 treasury 100 reserves 2699 supply 3000" ∷
    codes "2 refused 30 TxIdUsed" ∷
    codes "3 refused 31 NotWitnessed" ∷
    codes "4 refused 32 NoInputs" ∷
    codes "5 refused 33 InputMissing at 1" ∷
    codes "6 refused 34 InputRepeated at 1" ∷
    codes "7 refused 35 TxTooLarge max 16384" ∷
    codes "8 refused 36 OutsideValidity slot 7" ∷
    codes "9 refused 37 FeeTooSmall min 3" ∷
    codes "10 refused 38 OutputTooSmall at 0 min 160" ∷
    codes "11 refused 39 OutputWrongNetwork at 0" ∷
    codes "12 refused 40 TooManyCollateral max 3" ∷
    codes "13 refused 42 CollateralMissing at 1" ∷
    codes "14 refused 41 NoCollateral" ∷
    codes "15 refused 44 CollateralTooSmall have 20" ∷
    codes "16 refused 45 TreasuryValueWrong is 100" ∷
    []) ≡ true
unfolding digits encode_with
first_of_the_broken_rules_on_outputs = refl

abbrev first_of_the_broken_rules_on_what_follows_input : List (ℕ × Reading)
first_of_the_broken_rules_on_what_follows_input =
    (1, Read (records.Genesis (record { network = 1; slot = 20; epoch_length = 10; version = (10, 0); supply = 1000; reserves = 459; treasury = 100; params = (record base_params { min_pool_cost = 3 }); document = (h32 0x01); script = None; committee = (Some (record { threshold = (share 0 1); members = (((key 0x70), 100, (Some (key 0x71))) ∷ []) })); outputs = (((ref 0x01 2), (address_with 1 (key 0x01) None), 40, []) ∷ ((ref 0x01 3), (address_with 1 (key 0x01) None), 40, []) ∷ ((ref 0x01 4), (address_with 1 (key 0x01) None), 40, []) ∷ ((ref 0x01 5), (address_with 1 (key 0x01) None), 40, []) ∷ ((ref 0x01 6), (address_with 1 (key 0x01) None), 40, []) ∷ ((ref 0x01 7), (address_with 1 (key 0x01) None), 40, []) ∷ ((ref 0x01 8), (address_with 1 (key 0x01) None), 40, []) ∷ ((ref 0x01 9), (address_with 1 (key 0x01) None), 40, []) ∷ []); accounts = (((key 0x10), 2, 67, None, (Some (drep.Registered (key 0x30)))) ∷ ((key 0x11), 2, 33, None, (Some (drep.Registered (key 0x31)))) ∷ ((key 0x12), 2, 0, None, None) ∷ []); pools = ((record { pool = (pool 0x50); deposit = 5; cost = 0; pledge = 0; margin = (share 0 1); account = (account_on 1 (key 0x12)); key = None }) ∷ []); dreps = (((key 0x30), 5, 20) ∷ ((key 0x31), 5, 20) ∷ []) }))) ∷
    (2, Read (records.Tx (record (spend 0x09 1) { inputs = ((ref 0x01 2) ∷ []); withdrawals = (((account_on 0 (key 0x13)), 1) ∷ []); certs = ((certs.AccountReg (key 0x10) None None None) ∷ []) }))) ∷
    (3, Read (records.Tx (record (spend 0x09 1) { inputs = ((ref 0x01 2) ∷ []); withdrawals = (((account_on 1 (key 0x13)), 1) ∷ ((account_on 0 (key 0x10)), 1) ∷ []); certs = ((certs.AccountReg (key 0x10) None None None) ∷ []) }))) ∷
    (4, Read (records.Tx (record (spend 0x09 1) { inputs = ((ref 0x01 2) ∷ []); withdrawals = (((account_on 1 (key 0x12)), 1) ∷ []); certs = ((certs.AccountReg (key 0x10) None None None) ∷ []) }))) ∷
    (5, Read (records.Tx (record (spend 0x09 1) { inputs = ((ref 0x01 2) ∷ []); withdrawals = (((account_on 1 (key 0x10)), 1) ∷ []); certs = ((certs.AccountReg (key 0x10) None None None) ∷ []) }))) ∷
    (6, Read (records.Tx (record (spend 0x09 1) { inputs = ((ref 0x01 2) ∷ []); certs = ((certs.AccountReg (key 0x10) (Some 3) (Some (pool 0x51)) (Some (drep.Registered (key 0x39)))) ∷ []); proposals = ((proposing 9 (account_on 1 (key 0x12)) (actions.Info)) ∷ []) }))) ∷
    (7, Read (records.Tx (record (spend 0x09 1) { inputs = ((ref 0x01 2) ∷ []); certs = ((certs.AccountReg (key 0x13) (Some 3) (Some (pool 0x51)) (Some (drep.Registered (key 0x39)))) ∷ []) }))) ∷
    (8, Read (records.Tx (record (spend 0x09 1) { inputs = ((ref 0x01 2) ∷ []); certs = ((certs.AccountReg (key 0x13) None (Some (pool 0x51)) (Some (drep.Registered (key 0x39)))) ∷ []) }))) ∷
    (9, Read (records.Tx (record (spend 0x09 1) { inputs = ((ref 0x01 2) ∷ []); certs = ((certs.AccountUnreg (key 0x10) (Some 3)) ∷ []) }))) ∷
    (10, Read (records.Tx (record (spend 0x09 1) { inputs = ((ref 0x01 2) ∷ []); certs = ((certs.Delegate (key 0x13) (Some (pool 0x51)) (Some (drep.Registered (key 0x39)))) ∷ []) }))) ∷
    (11, Read (records.Tx (record (spend 0x09 1) { inputs = ((ref 0x01 2) ∷ []); certs = ((certs.PoolRetire (pool 0x51) 1) ∷ []) }))) ∷
    (12, Read (records.Tx (record (spend 0x03 30) { proposals = ((proposing 10 (account_on 1 (key 0x12)) (actions.UpdateCommittee None [] (((key 0x60), 50) ∷ []) (share 1 2))) ∷ []) }))) ∷
    (13, Read (records.Tx (record (spend 0x04 40) { certs = ((certs.HotAuth (key 0x60) (key 0x61)) ∷ (certs.HotResign (key 0x60)) ∷ []) }))) ∷
    (14, Read (records.Tx (record (spend 0x09 1) { inputs = ((ref 0x01 2) ∷ []); proposals = ((proposing 9 (account_on 0 (key 0x13)) (actions.TreasuryWithdrawals (((account_on 0 (key 0x13)), 0) ∷ []) (Some (h28 0x09)))) ∷ []); votes = ((voting (voter.Drep (key 0x39)) (action 0x09 0) vote.Yes) ∷ []) }))) ∷
    (15, Read (records.Tx (record (spend 0x09 1) { inputs = ((ref 0x01 2) ∷ []); proposals = ((proposing 10 (account_on 0 (key 0x13)) (actions.TreasuryWithdrawals (((account_on 0 (key 0x13)), 0) ∷ []) (Some (h28 0x09)))) ∷ []) }))) ∷
    (16, Read (records.Tx (record (spend 0x09 1) { inputs = ((ref 0x01 2) ∷ []); proposals = ((proposing 10 (account_on 1 (key 0x13)) (actions.TreasuryWithdrawals (((account_on 0 (key 0x13)), 0) ∷ []) (Some (h28 0x09)))) ∷ []) }))) ∷
    (17, Read (records.Tx (record (spend 0x09 1) { inputs = ((ref 0x01 2) ∷ []); proposals = ((proposing 10 (account_on 1 (key 0x12)) (actions.TreasuryWithdrawals (((account_on 0 (key 0x13)), 0) ∷ []) (Some (h28 0x09)))) ∷ []) }))) ∷
    (18, Read (records.Tx (record (spend 0x09 1) { inputs = ((ref 0x01 2) ∷ []); proposals = ((proposing 10 (account_on 1 (key 0x12)) (actions.TreasuryWithdrawals (((account_on 0 (key 0x13)), 0) ∷ []) None)) ∷ []) }))) ∷
    (19, Read (records.Tx (record (spend 0x09 1) { inputs = ((ref 0x01 2) ∷ []); proposals = ((proposing 10 (account_on 1 (key 0x12)) (actions.TreasuryWithdrawals (((account_on 1 (key 0x13)), 0) ∷ []) None)) ∷ []) }))) ∷
    (20, Read (records.Tx (record (spend 0x09 1) { inputs = ((ref 0x01 2) ∷ []); proposals = ((proposing 10 (account_on 1 (key 0x12)) (actions.ParameterChange (Some (action 0x09 0)) no_update (Some (h28 0x09)))) ∷ []) }))) ∷
    (21, Read (records.Tx (record (spend 0x09 1) { inputs = ((ref 0x01 2) ∷ []); proposals = ((proposing 10 (account_on 1 (key 0x12)) (actions.ParameterChange (Some (action 0x09 0)) (record no_update { n_opt = (Some 1) }) (Some (h28 0x09)))) ∷ []) }))) ∷
    (22, Read (records.Tx (record (spend 0x09 1) { inputs = ((ref 0x01 2) ∷ []); proposals = ((proposing 10 (account_on 1 (key 0x12)) (actions.UpdateCommittee (Some (action 0x09 0)) ((key 0x61) ∷ []) (((key 0x61), 1) ∷ []) (share 1 2))) ∷ []) }))) ∷
    (23, Read (records.Tx (record (spend 0x09 1) { inputs = ((ref 0x01 2) ∷ []); proposals = ((proposing 10 (account_on 1 (key 0x12)) (actions.UpdateCommittee (Some (action 0x09 0)) [] (((key 0x61), 1) ∷ []) (share 1 2))) ∷ []) }))) ∷
    (24, Read (records.Tx (record (spend 0x09 1) { inputs = ((ref 0x01 2) ∷ []); proposals = ((proposing 10 (account_on 1 (key 0x12)) (actions.HardForkInitiation (Some (action 0x09 0)) (12, 0))) ∷ []) }))) ∷
    (25, Read (records.Tx (record (spend 0x09 1) { inputs = ((ref 0x01 2) ∷ []); proposals = ((proposing 10 (account_on 1 (key 0x12)) (actions.HardForkInitiation None (12, 0))) ∷ []); votes = ((voting (voter.Drep (key 0x39)) (action 0x08 0) vote.Yes) ∷ []) }))) ∷
    (26, Read (records.Tx (record (spend 0x09 1) { inputs = ((ref 0x01 2) ∷ []); votes = ((voting (voter.Drep (key 0x39)) (action 0x08 0) vote.Yes) ∷ []) }))) ∷
    (27, Read (records.Tx (record (spend 0x09 1) { inputs = ((ref 0x01 2) ∷ []); votes = ((voting (voter.Committee (key 0x79)) (action 0x03 0) vote.Yes) ∷ []) }))) ∷
    (28, Read (records.Tx (record (spend 0x09 1) { inputs = ((ref 0x01 2) ∷ []); votes = ((voting (voter.Committee (key 0x71)) (action 0x03 0) vote.Yes) ∷ []) }))) ∷
    (29, Read (records.Tx (record (spend 0x09 1) { inputs = ((ref 0x01 2) ∷ []); proposals = ((proposing 10 (account_on 1 (key 0x12)) (actions.Info)) ∷ []); votes = ((voting (voter.Drep (key 0x30)) (action 0x09 0) vote.Yes) ∷ []) }))) ∷
    (30, Read (records.Tx (record (spend 0x09 1) { inputs = ((ref 0x01 2) ∷ []); certs = ((certs.HotAuth (key 0x62) (key 0x63)) ∷ []); proposals = ((proposing 10 (account_on 1 (key 0x12)) (actions.UpdateCommittee None [] (((key 0x62), 50) ∷ []) (share 1 2))) ∷ []) }))) ∷
    (31, Read (records.Block 20 0)) ∷
    (32, Read (records.Block 55 0)) ∷
    (33, Read (records.Rewards (record { epoch = 3; from_reserves = 9999; from_fees = 9999; to_treasury = 1; rewards = [] }))) ∷
    (34, Read (records.Rewards (record { epoch = 2; from_reserves = 9999; from_fees = 9999; to_treasury = 1; rewards = [] }))) ∷
    (35, Read (records.Rewards (record { epoch = 2; from_reserves = 9999; from_fees = 9999; to_treasury = 19998; rewards = [] }))) ∷
    (36, Read (records.Rewards (record { epoch = 2; from_reserves = 1; from_fees = 0; to_treasury = 1; rewards = [] }))) ∷
    (37, Read (records.Rewards (record { epoch = 2; from_reserves = 9999; from_fees = 9999; to_treasury = 1; rewards = [] }))) ∷
    (38, Read (records.Block 30 1)) ∷
    (39, Read (records.Block 40 1)) ∷
    (40, Read (records.Block 50 1)) ∷
    (41, Read (records.Tx (record (spend 0x09 1) { inputs = ((ref 0x01 2) ∷ []); votes = ((voting (voter.Committee (key 0x71)) (action 0x03 0) vote.Yes) ∷ []) }))) ∷
    (42, Read (records.Print what.Pots)) ∷
    []

pub first_of_the_broken_rules_on_what_follows : says_all first_of_the_broken_rules_on_what_follows_input (
    codes "1 genesis outputs 320 deposits 21 rewards 100 fees 0 donations 0 treasury 100 reserves 459 supply 1000" ∷
    codes "2 refused 50 WithdrawalWrongNetwork at 0" ∷
    codes "3 refused 51 WithdrawalNoAccount at 0" ∷
    codes "4 refused 52 WithdrawalNotDelegated at 0" ∷
    codes "5 refused 53 WithdrawalNotWhole at 0 balance 67" ∷
    codes "6 refused 60 AccountRegistered at 0" ∷
    codes "7 refused 62 DepositWrong at 0 want 2" ∷
    codes "8 refused 65 PoolUnknown at 0" ∷
    codes "9 refused 63 RefundWrong at 0 want 2" ∷
    codes "10 refused 61 AccountUnknown at 0" ∷
    codes "11 refused 65 PoolUnknown at 0" ∷
    codes "12 accepted" ∷
    codes "13 accepted" ∷
    codes "14 refused 80 ProposalDepositWrong at 0 want 10" ∷
    codes "15 refused 81 ReturnWrongNetwork at 0" ∷
    codes "16 refused 82 ReturnAccountUnknown at 0" ∷
    codes "17 refused 84 PolicyWrong at 0" ∷
    codes "18 refused 85 TargetWrongNetwork at 0" ∷
    codes "19 refused 86 TargetUnknown at 0" ∷
    codes "20 refused 83 UpdateMalformed at 0" ∷
    codes "21 refused 84 PolicyWrong at 0" ∷
    codes "22 refused 88 ConflictingUpdate at 0" ∷
    codes "23 refused 89 TermTooSmall at 0" ∷
    codes "24 refused 90 PreviousWrong at 0" ∷
    codes "25 refused 91 CannotFollow at 0" ∷
    codes "26 refused 100 ActionUnknown at 0" ∷
    codes "27 refused 101 VoterUnknown at 0" ∷
    codes "28 refused 102 VoterNotAllowed at 0" ∷
    codes "29 refused 100 ActionUnknown at 0" ∷
    codes "30 refused 71 ColdKeyUnknown at 0" ∷
    codes "31 refused 10 SlotNotLater last 20" ∷
    codes "32 refused 11 EpochSkipped now 2" ∷
    codes "33 refused 20 WrongEpoch now 2" ∷
    codes "34 refused 22 RewardsNotBalanced in 19998 out 1" ∷
    codes "35 refused 23 ReservesTooSmall have 459" ∷
    codes "36 accepted" ∷
    codes "37 refused 21 RewardsAlreadyGiven" ∷
    codes "38 epoch 3 frozen 3 dormant 0" ∷
    codes "38 stake k00000000000000000000000000000000000000000000000000000030 67" ∷
    codes "38 stake k00000000000000000000000000000000000000000000000000000031 33" ∷
    codes "38 pots outputs 240 deposits 31 rewards 100 fees 70 donations 0 treasury 101 reserves 458 supply 1000" ∷
    codes "38 block slot 30 epoch 3 counted 1 of 3" ∷
    codes "39 epoch 4 frozen 3 dormant 0" ∷
    codes "39 stake k00000000000000000000000000000000000000000000000000000030 67" ∷
    codes "39 stake k00000000000000000000000000000000000000000000000000000031 33" ∷
    codes "39 tally 0000000000000000000000000000000000000000000000000000000000000003#0 UpdateCommittee committee 0/1 need none drep 0/100 need 67/100 pool 0/0 need 0/1 waiting" ∷
    codes "39 pots outputs 240 deposits 31 rewards 100 fees 70 donations 0 treasury 101 reserves 458 supply 1000" ∷
    codes "39 block slot 40 epoch 4 counted 1 of 3" ∷
    codes "40 epoch 5 frozen 3 dormant 0" ∷
    codes "40 stake k00000000000000000000000000000000000000000000000000000030 67" ∷
    codes "40 stake k00000000000000000000000000000000000000000000000000000031 33" ∷
    codes "40 tally 0000000000000000000000000000000000000000000000000000000000000003#0 UpdateCommittee committee 0/1 need none drep 0/100 need 67/100 pool 0/0 need 0/1 waiting" ∷
    codes "40 pots outputs 240 deposits 31 rewards 100 fees 70 donations 0 treasury 101 reserves 458 supply 1000" ∷
    codes "40 block slot 50 epoch 5 counted 1 of 3" ∷
    codes "41 refused 102 VoterNotAllowed at 0" ∷
    codes "42 pots outputs 240 deposits 31 rewards 100 fees 70 donations 0 treasury 101 reserves 458 supply 1000" ∷
    []) ≡ true
unfolding digits encode_with
first_of_the_broken_rules_on_what_follows = refl

abbrev refusals_of_outputs_at_the_second_place_input : List (ℕ × Reading)
refusals_of_outputs_at_the_second_place_input =
    (1, Read (records.Genesis (record { network = 1; slot = 5; epoch_length = 10; version = (10, 0); supply = 10000; reserves = 6249; treasury = 100; params = (record base_params { max_tx_size = 10; max_collateral_inputs = 2; min_fee_a = 2; min_fee_b = 3; coins_per_utxo_byte = 1 }); document = (h32 0x01); script = None; committee = (Some (record { threshold = (share 0 1); members = (((key 0x70), 100, (Some (key 0x71))) ∷ []) })); outputs = (((ref 0x01 2), (address_with 1 (key 0x01) None), 400, []) ∷ ((ref 0x01 3), (address_with 1 (key 0x01) None), 400, []) ∷ ((ref 0x01 4), (address_with 1 (key 0x01) None), 400, []) ∷ ((ref 0x01 5), (address_with 1 (key 0x01) None), 400, []) ∷ ((ref 0x01 6), (address_with 1 (key 0x01) None), 400, []) ∷ ((ref 0x01 7), (address_with 1 (key 0x01) None), 400, []) ∷ ((ref 0x01 8), (address_with 1 (key 0x01) None), 400, []) ∷ ((ref 0x01 9), (address_with 1 (key 0x01) None), 400, []) ∷ ((ref 0x01 20), (address_with 1 (script 0x01) None), 300, []) ∷ ((ref 0x01 21), (address_with 1 (key 0x01) None), 30, []) ∷ []); accounts = (((key 0x10), 2, 67, None, (Some (drep.Registered (key 0x30)))) ∷ ((key 0x11), 2, 33, None, (Some (drep.Registered (key 0x31)))) ∷ ((key 0x12), 2, 0, None, None) ∷ []); pools = ((record { pool = (pool 0x50); deposit = 5; cost = 0; pledge = 0; margin = (share 0 1); account = (account_on 1 (key 0x12)); key = None }) ∷ []); dreps = (((key 0x30), 5, 20) ∷ ((key 0x31), 5, 20) ∷ []) }))) ∷
    (2, Read (records.Tx (record (spend 0x02 0) { inputs = ((ref 0x01 2) ∷ (ref 0x01 99) ∷ []) }))) ∷
    (3, Read (records.Tx (record (spend 0x02 0) { inputs = ((ref 0x01 2) ∷ (ref 0x01 3) ∷ (ref 0x01 2) ∷ []) }))) ∷
    (4, Read (records.Tx (record (spend 0x02 0) { inputs = [] }))) ∷
    (5, Read (records.Tx (spend 0x01 0))) ∷
    (6, Read (records.Tx (record (spend 0x02 0) { witnessed = false }))) ∷
    (7, Read (records.Tx (record (spend 0x02 0) { size = 11 }))) ∷
    (8, Read (records.Tx (record (spend 0x02 0) { from = (Some 6) }))) ∷
    (9, Read (records.Tx (record (spend 0x02 0) { until = (Some 5) }))) ∷
    (10, Read (records.Tx (record (spend 0x02 15) { size = 4; script_fee = 5 }))) ∷
    (11, Read (records.Tx (record (spend 0x02 3) { outputs = ((paying (address_with 1 (key 0x01) None) 170 10) ∷ (paying (address_with 1 (key 0x01) None) 169 10) ∷ []) }))) ∷
    (12, Read (records.Tx (record (spend 0x02 3) { outputs = ((paying (address_with 1 (key 0x01) None) 160 0) ∷ (paying (address_with 0 (key 0x01) None) 160 0) ∷ []) }))) ∷
    (13, Read (records.Tx (record (spend 0x02 3) { outputs = ((paying (address_with 1 (key 0x01) None) 160 0) ∷ []); scripts = scripts.Passed; collateral = ((ref 0x01 3) ∷ []); collateral_return = (Some (paying (address_with 1 (key 0x01) None) 160 1)) }))) ∷
    (14, Read (records.Tx (record (spend 0x02 3) { collateral_return = (Some (paying (address_with 0 (key 0x01) None) 160 0)) }))) ∷
    (15, Read (records.Tx (record (spend 0x02 3) { collateral = ((ref 0x01 3) ∷ (ref 0x01 4) ∷ (ref 0x01 5) ∷ []) }))) ∷
    (16, Read (records.Tx (record (spend 0x02 3) { scripts = scripts.Passed }))) ∷
    (17, Read (records.Tx (record (spend 0x02 3) { collateral = ((ref 0x01 3) ∷ (ref 0x01 3) ∷ []) }))) ∷
    (18, Read (records.Tx (record (spend 0x02 3) { collateral = ((ref 0x01 3) ∷ (ref 0x01 98) ∷ []) }))) ∷
    (19, Read (records.Tx (record (spend 0x02 3) { scripts = scripts.Passed; collateral = ((ref 0x01 3) ∷ (ref 0x01 20) ∷ []) }))) ∷
    (20, Read (records.Tx (record (spend 0x02 21) { outputs = ((paying (address_with 1 (key 0x01) None) 379 0) ∷ []); scripts = scripts.Passed; collateral = ((ref 0x01 21) ∷ []) }))) ∷
    (21, Read (records.Tx (record (spend 0x02 20) { outputs = ((paying (address_with 1 (key 0x01) None) 379 0) ∷ []); scripts = scripts.Passed; collateral = ((ref 0x01 21) ∷ []) }))) ∷
    (22, Read (records.Tx (record (spend 0x02 5) { scripts = scripts.Passed; collateral = ((ref 0x01 21) ∷ []); collateral_return = (Some (paying (address_with 1 (key 0x01) None) 160 0)) }))) ∷
    (23, Read (records.Tx (record (spend 0x02 3) { treasury = (Some 99) }))) ∷
    (24, Read (records.Tx (record (spend 0x02 20) { outputs = ((paying (address_with 1 (key 0x01) None) 380 219) ∷ []); size = 5; script_fee = 7; scripts = scripts.Passed; from = (Some 5); until = (Some 6); collateral = ((ref 0x01 21) ∷ []); treasury = (Some 100) }))) ∷
    (25, Read (records.Tx (spend 0x02 400))) ∷
    (26, Read (records.Tx (record (spend 0x04 400) { size = 10; collateral = ((ref 0x01 20) ∷ []) }))) ∷
    (27, Read (records.Tx (record (spend 0x05 400) { scripts = scripts.Passed; collateral = ((ref 0x01 21) ∷ []); collateral_return = (Some (paying (address_with 1 (key 0x01) None) 160 0)) }))) ∷
    (28, Read (records.Tx (record (spend 0x03 390) { donation = 9 }))) ∷
    (29, Read (records.Tx (record (spend 0x03 391) { donation = 9 }))) ∷
    (30, Read (records.Print what.State)) ∷
    []

pub refusals_of_outputs_at_the_second_place : says_all refusals_of_outputs_at_the_second_place_input (
    codes "1 genesis outputs 3530 deposits 21 rewards 100 fees 0 donations 0 treasury 100 reserves 6249 supply 10000" ∷
    codes "2 refused 33 InputMissing at 1" ∷
    codes "3 refused 34 InputRepeated at 2" ∷
    codes "4 refused 32 NoInputs" ∷
    codes "5 refused 30 TxIdUsed" ∷
    codes "6 refused 31 NotWitnessed" ∷
    codes "7 refused 35 TxTooLarge max 10" ∷
    codes "8 refused 36 OutsideValidity slot 5" ∷
    codes "9 refused 36 OutsideValidity slot 5" ∷
    codes "10 refused 37 FeeTooSmall min 16" ∷
    codes "11 refused 38 OutputTooSmall at 1 min 170" ∷
    codes "12 refused 39 OutputWrongNetwork at 1" ∷
    codes "13 refused 38 OutputTooSmall at 1 min 161" ∷
    codes "14 refused 39 OutputWrongNetwork at 0" ∷
    codes "15 refused 40 TooManyCollateral max 2" ∷
    codes "16 refused 41 NoCollateral" ∷
    codes "17 refused 42 CollateralMissing at 1" ∷
    codes "18 refused 42 CollateralMissing at 1" ∷
    codes "19 refused 43 CollateralNotKey at 1" ∷
    codes "20 refused 44 CollateralTooSmall have 30" ∷
    codes "21 refused 110 NotBalanced consumed 400 produced 399" ∷
    codes "22 refused 44 CollateralTooSmall have 0" ∷
    codes "23 refused 45 TreasuryValueWrong is 100" ∷
    codes "24 accepted" ∷
    codes "25 refused 30 TxIdUsed" ∷
    codes "26 accepted" ∷
    codes "27 refused 44 CollateralTooSmall have 0" ∷
    codes "28 refused 110 NotBalanced consumed 400 produced 399" ∷
    codes "29 accepted" ∷
    codes "30 now slot 5 epoch 0 version 10.0 dormant 0" ∷
    codes "30 constitution 0000000000000000000000000000000000000000000000000000000000000001 none" ∷
    codes "30 committee threshold 0/1" ∷
    codes "30 member k00000000000000000000000000000000000000000000000000000070 term 100 hot k00000000000000000000000000000000000000000000000000000071" ∷
    codes "30 enacted committee none constitution none hardfork none parameters none" ∷
    codes "30 param maxBlockBodySize 90112" ∷
    codes "30 param maxTxSize 10" ∷
    codes "30 param maxBlockHeaderSize 1100" ∷
    codes "30 param maxValueSize 5000" ∷
    codes "30 param maxTxExUnits 1000 1000" ∷
    codes "30 param maxBlockExUnits 1000 1000" ∷
    codes "30 param maxCollateralInputs 2" ∷
    codes "30 param minFeeA 2" ∷
    codes "30 param minFeeB 3" ∷
    codes "30 param keyDeposit 2" ∷
    codes "30 param poolDeposit 5" ∷
    codes "30 param rho 0/1" ∷
    codes "30 param tau 0/1" ∷
    codes "30 param minPoolCost 0" ∷
    codes "30 param coinsPerUTxOByte 1" ∷
    codes "30 param prices 0/1 0/1" ∷
    codes "30 param minFeeRefScriptCostPerByte 15/1" ∷
    codes "30 param a0 0/1" ∷
    codes "30 param eMax 18" ∷
    codes "30 param nOpt 500" ∷
    codes "30 param costModels 0000000000000000000000000000000000000000000000000000000000000000" ∷
    codes "30 param collateralPercentage 150" ∷
    codes "30 param poolVotingThresholds 0/1 0/1 0/1 0/1 0/1" ∷
    codes "30 param drepVotingThresholds 67/100 67/100 67/100 67/100 67/100 67/100 67/100 67/100 67/100 67/100" ∷
    codes "30 param govActionLifetime 2" ∷
    codes "30 param govActionDeposit 10" ∷
    codes "30 param drepDeposit 5" ∷
    codes "30 param drepActivity 20" ∷
    codes "30 param committeeMinSize 0" ∷
    codes "30 param committeeMaxTermLength 100" ∷
    codes "30 drep k00000000000000000000000000000000000000000000000000000030 deposit 5 expiry 20" ∷
    codes "30 drep k00000000000000000000000000000000000000000000000000000031 deposit 5 expiry 20" ∷
    codes "30 pool 00000000000000000000000000000000000000000000000000000050 deposit 5 cost 0 pledge 0 margin 0/1 account 1k00000000000000000000000000000000000000000000000000000012 retires never" ∷
    codes "30 account k00000000000000000000000000000000000000000000000000000010 stake 0 deposit 2 rewards 67 pool none drep k00000000000000000000000000000000000000000000000000000030" ∷
    codes "30 account k00000000000000000000000000000000000000000000000000000011 stake 0 deposit 2 rewards 33 pool none drep k00000000000000000000000000000000000000000000000000000031" ∷
    codes "30 account k00000000000000000000000000000000000000000000000000000012 stake 0 deposit 2 rewards 0 pool none drep none" ∷
    codes "30 output 0000000000000000000000000000000000000000000000000000000000000001#5 1k00000000000000000000000000000000000000000000000000000001 400" ∷
    codes "30 output 0000000000000000000000000000000000000000000000000000000000000001#6 1k00000000000000000000000000000000000000000000000000000001 400" ∷
    codes "30 output 0000000000000000000000000000000000000000000000000000000000000001#7 1k00000000000000000000000000000000000000000000000000000001 400" ∷
    codes "30 output 0000000000000000000000000000000000000000000000000000000000000001#8 1k00000000000000000000000000000000000000000000000000000001 400" ∷
    codes "30 output 0000000000000000000000000000000000000000000000000000000000000001#9 1k00000000000000000000000000000000000000000000000000000001 400" ∷
    codes "30 output 0000000000000000000000000000000000000000000000000000000000000001#20 1s00000000000000000000000000000000000000000000000000000001 300" ∷
    codes "30 output 0000000000000000000000000000000000000000000000000000000000000001#21 1k00000000000000000000000000000000000000000000000000000001 30" ∷
    codes "30 output 0000000000000000000000000000000000000000000000000000000000000002#0 1k00000000000000000000000000000000000000000000000000000001 380" ∷
    codes "30 snapshot mark 00000000000000000000000000000000000000000000000000000050 0" ∷
    codes "30 snapshot fees 0" ∷
    codes "30 pending none" ∷
    codes "30 pots outputs 2710 deposits 21 rewards 100 fees 811 donations 9 treasury 100 reserves 6249 supply 10000" ∷
    []) ≡ true
unfolding digits encode_with
refusals_of_outputs_at_the_second_place = refl

abbrev refusals_of_withdrawals_at_the_second_place_input : List (ℕ × Reading)
refusals_of_withdrawals_at_the_second_place_input =
    (1, Read (records.Genesis (record { network = 1; slot = 0; epoch_length = 10; version = (10, 0); supply = 1000; reserves = 712; treasury = 100; params = base_params; document = (h32 0x01); script = None; committee = (Some (record { threshold = (share 0 1); members = (((key 0x70), 100, (Some (key 0x71))) ∷ []) })); outputs = (((ref 0x01 2), (address_with 1 (key 0x01) None), 20, []) ∷ ((ref 0x01 3), (address_with 1 (key 0x01) None), 20, []) ∷ ((ref 0x01 4), (address_with 1 (key 0x01) None), 20, []) ∷ []); accounts = (((key 0x10), 2, 67, None, (Some (drep.Registered (key 0x30)))) ∷ ((key 0x11), 2, 33, None, None) ∷ ((script 0x12), 2, 5, None, None) ∷ ((key 0x12), 2, 0, None, (Some drep.Abstain)) ∷ []); pools = ((record { pool = (pool 0x50); deposit = 5; cost = 0; pledge = 0; margin = (share 0 1); account = (account_on 1 (key 0x12)); key = None }) ∷ []); dreps = (((key 0x30), 5, 20) ∷ ((key 0x31), 5, 20) ∷ []) }))) ∷
    (2, Read (records.Tx (record (spend 0x02 0) { withdrawals = (((account_on 1 (key 0x10)), 67) ∷ ((account_on 0 (key 0x12)), 0) ∷ []) }))) ∷
    (3, Read (records.Tx (record (spend 0x02 0) { withdrawals = (((account_on 1 (key 0x10)), 67) ∷ ((account_on 1 (key 0x13)), 0) ∷ []) }))) ∷
    (4, Read (records.Tx (record (spend 0x02 0) { withdrawals = (((account_on 1 (key 0x10)), 67) ∷ ((account_on 1 (key 0x11)), 33) ∷ []) }))) ∷
    (5, Read (records.Tx (record (spend 0x02 0) { withdrawals = (((account_on 1 (key 0x10)), 67) ∷ ((account_on 1 (script 0x12)), 4) ∷ []) }))) ∷
    (6, Read (records.Tx (record (spend 0x02 0) { withdrawals = (((account_on 1 (key 0x10)), 67) ∷ ((account_on 1 (key 0x12)), 1) ∷ []) }))) ∷
    (7, Read (records.Tx (record (spend 0x02 24) { outputs = ((paying (address_with 1 (key 0x01) (Some (key 0x11))) 70 0) ∷ []); withdrawals = (((account_on 1 (script 0x12)), 5) ∷ ((account_on 1 (key 0x10)), 67) ∷ ((account_on 1 (key 0x12)), 0) ∷ []); certs = ((certs.AccountUnreg (key 0x10) None) ∷ (certs.Delegate (key 0x11) None (Some drep.Abstain)) ∷ []) }))) ∷
    (8, Read (records.Print what.State)) ∷
    []

pub refusals_of_withdrawals_at_the_second_place : says_all refusals_of_withdrawals_at_the_second_place_input (
    codes "1 genesis outputs 60 deposits 23 rewards 105 fees 0 donations 0 treasury 100 reserves 712 supply 1000" ∷
    codes "2 refused 50 WithdrawalWrongNetwork at 1" ∷
    codes "3 refused 51 WithdrawalNoAccount at 1" ∷
    codes "4 refused 52 WithdrawalNotDelegated at 1" ∷
    codes "5 refused 53 WithdrawalNotWhole at 1 balance 5" ∷
    codes "6 refused 53 WithdrawalNotWhole at 1 balance 0" ∷
    codes "7 accepted" ∷
    codes "8 now slot 0 epoch 0 version 10.0 dormant 0" ∷
    codes "8 constitution 0000000000000000000000000000000000000000000000000000000000000001 none" ∷
    codes "8 committee threshold 0/1" ∷
    codes "8 member k00000000000000000000000000000000000000000000000000000070 term 100 hot k00000000000000000000000000000000000000000000000000000071" ∷
    codes "8 enacted committee none constitution none hardfork none parameters none" ∷
    codes "8 param maxBlockBodySize 90112" ∷
    codes "8 param maxTxSize 16384" ∷
    codes "8 param maxBlockHeaderSize 1100" ∷
    codes "8 param maxValueSize 5000" ∷
    codes "8 param maxTxExUnits 1000 1000" ∷
    codes "8 param maxBlockExUnits 1000 1000" ∷
    codes "8 param maxCollateralInputs 3" ∷
    codes "8 param minFeeA 0" ∷
    codes "8 param minFeeB 0" ∷
    codes "8 param keyDeposit 2" ∷
    codes "8 param poolDeposit 5" ∷
    codes "8 param rho 0/1" ∷
    codes "8 param tau 0/1" ∷
    codes "8 param minPoolCost 0" ∷
    codes "8 param coinsPerUTxOByte 0" ∷
    codes "8 param prices 0/1 0/1" ∷
    codes "8 param minFeeRefScriptCostPerByte 15/1" ∷
    codes "8 param a0 0/1" ∷
    codes "8 param eMax 18" ∷
    codes "8 param nOpt 500" ∷
    codes "8 param costModels 0000000000000000000000000000000000000000000000000000000000000000" ∷
    codes "8 param collateralPercentage 150" ∷
    codes "8 param poolVotingThresholds 0/1 0/1 0/1 0/1 0/1" ∷
    codes "8 param drepVotingThresholds 67/100 67/100 67/100 67/100 67/100 67/100 67/100 67/100 67/100 67/100" ∷
    codes "8 param govActionLifetime 2" ∷
    codes "8 param govActionDeposit 10" ∷
    codes "8 param drepDeposit 5" ∷
    codes "8 param drepActivity 20" ∷
    codes "8 param committeeMinSize 0" ∷
    codes "8 param committeeMaxTermLength 100" ∷
    codes "8 drep k00000000000000000000000000000000000000000000000000000030 deposit 5 expiry 20" ∷
    codes "8 drep k00000000000000000000000000000000000000000000000000000031 deposit 5 expiry 20" ∷
    codes "8 pool 00000000000000000000000000000000000000000000000000000050 deposit 5 cost 0 pledge 0 margin 0/1 account 1k00000000000000000000000000000000000000000000000000000012 retires never" ∷
    codes "8 account k00000000000000000000000000000000000000000000000000000011 stake 70 deposit 2 rewards 33 pool none drep abstain" ∷
    codes "8 account k00000000000000000000000000000000000000000000000000000012 stake 0 deposit 2 rewards 0 pool none drep abstain" ∷
    codes "8 account s00000000000000000000000000000000000000000000000000000012 stake 0 deposit 2 rewards 0 pool none drep none" ∷
    codes "8 output 0000000000000000000000000000000000000000000000000000000000000001#3 1k00000000000000000000000000000000000000000000000000000001 20" ∷
    codes "8 output 0000000000000000000000000000000000000000000000000000000000000001#4 1k00000000000000000000000000000000000000000000000000000001 20" ∷
    codes "8 output 0000000000000000000000000000000000000000000000000000000000000002#0 1k00000000000000000000000000000000000000000000000000000001+k00000000000000000000000000000000000000000000000000000011 70" ∷
    codes "8 snapshot mark 00000000000000000000000000000000000000000000000000000050 0" ∷
    codes "8 snapshot fees 0" ∷
    codes "8 pending none" ∷
    codes "8 pots outputs 110 deposits 21 rewards 33 fees 24 donations 0 treasury 100 reserves 712 supply 1000" ∷
    []) ≡ true
unfolding digits encode_with
refusals_of_withdrawals_at_the_second_place = refl

abbrev refusals_of_certificates_at_the_second_place_input : List (ℕ × Reading)
refusals_of_certificates_at_the_second_place_input =
    (1, Read (records.Genesis (record { network = 1; slot = 20; epoch_length = 10; version = (10, 0); supply = 1000; reserves = 759; treasury = 100; params = (record base_params { min_pool_cost = 3; e_max = 4 }); document = (h32 0x01); script = None; committee = (Some (record { threshold = (share 0 1); members = (((key 0x70), 100, (Some (key 0x71))) ∷ []) })); outputs = (((ref 0x01 2), (address_with 1 (key 0x01) None), 20, []) ∷ []); accounts = (((key 0x10), 2, 67, None, (Some (drep.Registered (key 0x30)))) ∷ ((key 0x11), 2, 33, None, (Some (drep.Registered (key 0x31)))) ∷ ((key 0x12), 2, 0, None, None) ∷ []); pools = ((record { pool = (pool 0x50); deposit = 5; cost = 0; pledge = 0; margin = (share 0 1); account = (account_on 1 (key 0x12)); key = None }) ∷ []); dreps = (((key 0x30), 5, 20) ∷ ((key 0x31), 5, 20) ∷ []) }))) ∷
    (2, Read (records.Tx (record (spend 0x02 0) { certs = ((certs.Delegate (key 0x12) None (Some drep.Abstain)) ∷ (certs.AccountReg (key 0x10) None None None) ∷ []) }))) ∷
    (3, Read (records.Tx (record (spend 0x02 0) { certs = ((certs.Delegate (key 0x12) None (Some drep.Abstain)) ∷ (certs.AccountReg (key 0x13) (Some 3) None None) ∷ []) }))) ∷
    (4, Read (records.Tx (record (spend 0x02 0) { certs = ((certs.Delegate (key 0x12) None (Some drep.Abstain)) ∷ (certs.AccountReg (key 0x13) None (Some (pool 0x59)) None) ∷ []) }))) ∷
    (5, Read (records.Tx (record (spend 0x02 0) { certs = ((certs.Delegate (key 0x12) None (Some drep.Abstain)) ∷ (certs.AccountReg (key 0x13) None None (Some (drep.Registered (key 0x39)))) ∷ []) }))) ∷
    (6, Read (records.Tx (record (spend 0x02 0) { certs = ((certs.Delegate (key 0x12) None (Some drep.Abstain)) ∷ (certs.AccountReg (key 0x13) None None (Some (drep.Registered (script 0x30)))) ∷ []) }))) ∷
    (7, Read (records.Tx (record (spend 0x02 0) { certs = ((certs.Delegate (key 0x12) None (Some drep.Abstain)) ∷ (certs.AccountUnreg (key 0x13) None) ∷ []) }))) ∷
    (8, Read (records.Tx (record (spend 0x02 0) { certs = ((certs.Delegate (key 0x12) None (Some drep.Abstain)) ∷ (certs.AccountUnreg (key 0x12) (Some 3)) ∷ []) }))) ∷
    (9, Read (records.Tx (record (spend 0x02 0) { certs = ((certs.Delegate (key 0x12) None (Some drep.Abstain)) ∷ (certs.AccountUnreg (key 0x10) (Some 2)) ∷ []) }))) ∷
    (10, Read (records.Tx (record (spend 0x02 0) { certs = ((certs.Delegate (key 0x12) None (Some drep.Abstain)) ∷ (certs.Delegate (key 0x13) None (Some drep.Abstain)) ∷ []) }))) ∷
    (11, Read (records.Tx (record (spend 0x02 0) { certs = ((certs.Delegate (key 0x12) None (Some drep.Abstain)) ∷ (certs.Delegate (key 0x10) (Some (pool 0x51)) (Some (drep.Registered (key 0x39)))) ∷ []) }))) ∷
    (12, Read (records.Tx (record (spend 0x02 0) { certs = ((certs.Delegate (key 0x12) None (Some drep.Abstain)) ∷ (certs.Delegate (key 0x10) None (Some (drep.Registered (key 0x39)))) ∷ []) }))) ∷
    (13, Read (records.Tx (record (spend 0x02 0) { certs = ((certs.Delegate (key 0x12) None (Some drep.Abstain)) ∷ (certs.PoolReg (pool 0x51) 2 0 (share 0 1) (account_on 0 (key 0x12)) None) ∷ []) }))) ∷
    (14, Read (records.Tx (record (spend 0x02 0) { certs = ((certs.Delegate (key 0x12) None (Some drep.Abstain)) ∷ (certs.PoolReg (pool 0x51) 3 0 (share 0 1) (account_on 0 (key 0x12)) None) ∷ []) }))) ∷
    (15, Read (records.Tx (record (spend 0x02 0) { certs = ((certs.Delegate (key 0x12) None (Some drep.Abstain)) ∷ (certs.PoolRetire (pool 0x51) 3) ∷ []) }))) ∷
    (16, Read (records.Tx (record (spend 0x02 0) { certs = ((certs.Delegate (key 0x12) None (Some drep.Abstain)) ∷ (certs.PoolRetire (pool 0x50) 2) ∷ []) }))) ∷
    (17, Read (records.Tx (record (spend 0x02 0) { certs = ((certs.Delegate (key 0x12) None (Some drep.Abstain)) ∷ (certs.PoolRetire (pool 0x50) 7) ∷ []) }))) ∷
    (18, Read (records.Tx (record (spend 0x02 0) { certs = ((certs.Delegate (key 0x12) None (Some drep.Abstain)) ∷ (certs.DrepReg (key 0x32) (Some 6)) ∷ []) }))) ∷
    (19, Read (records.Tx (record (spend 0x02 0) { certs = ((certs.Delegate (key 0x12) None (Some drep.Abstain)) ∷ (certs.DrepReg (key 0x30) None) ∷ []) }))) ∷
    (20, Read (records.Tx (record (spend 0x02 0) { certs = ((certs.Delegate (key 0x12) None (Some drep.Abstain)) ∷ (certs.DrepReg (key 0x30) (Some 6)) ∷ []) }))) ∷
    (21, Read (records.Tx (record (spend 0x02 0) { certs = ((certs.Delegate (key 0x12) None (Some drep.Abstain)) ∷ (certs.DrepUnreg (key 0x30) (Some 6)) ∷ []) }))) ∷
    (22, Read (records.Tx (record (spend 0x02 0) { certs = ((certs.Delegate (key 0x12) None (Some drep.Abstain)) ∷ (certs.DrepUnreg (key 0x32) (Some 6)) ∷ []) }))) ∷
    (23, Read (records.Tx (record (spend 0x02 0) { certs = ((certs.Delegate (key 0x12) None (Some drep.Abstain)) ∷ (certs.DrepUpdate (script 0x30)) ∷ []) }))) ∷
    (24, Read (records.Tx (record (spend 0x02 0) { certs = ((certs.Delegate (key 0x12) None (Some drep.Abstain)) ∷ (certs.HotAuth (script 0x70) (key 0x71)) ∷ []) }))) ∷
    (25, Read (records.Tx (record (spend 0x02 0) { certs = ((certs.Delegate (key 0x12) None (Some drep.Abstain)) ∷ (certs.HotResign (key 0x72)) ∷ []) }))) ∷
    (26, Read (records.Tx (record (spend 0x02 0) { certs = ((certs.AccountUnreg (key 0x12) None) ∷ (certs.AccountReg (key 0x12) None None None) ∷ (certs.AccountReg (key 0x12) None None None) ∷ []) }))) ∷
    (27, Read (records.Tx (record (spend 0x02 0) { certs = ((certs.HotResign (key 0x70)) ∷ (certs.HotResign (key 0x70)) ∷ []) }))) ∷
    (28, Read (records.Tx (record (spend 0x02 0) { certs = ((certs.DrepUnreg (key 0x30) None) ∷ (certs.Delegate (key 0x12) None (Some (drep.Registered (key 0x30)))) ∷ []) }))) ∷
    (29, Read (records.Tx (record (spend 0x02 20) { certs = ((certs.PoolRetire (pool 0x50) 6) ∷ (certs.PoolRetire (pool 0x50) 3) ∷ []) }))) ∷
    (30, Read (records.Print what.State)) ∷
    []

pub refusals_of_certificates_at_the_second_place : says_all refusals_of_certificates_at_the_second_place_input (
    codes "1 genesis outputs 20 deposits 21 rewards 100 fees 0 donations 0 treasury 100 reserves 759 supply 1000" ∷
    codes "2 refused 60 AccountRegistered at 1" ∷
    codes "3 refused 62 DepositWrong at 1 want 2" ∷
    codes "4 refused 65 PoolUnknown at 1" ∷
    codes "5 refused 66 DrepUnknown at 1" ∷
    codes "6 refused 66 DrepUnknown at 1" ∷
    codes "7 refused 61 AccountUnknown at 1" ∷
    codes "8 refused 63 RefundWrong at 1 want 2" ∷
    codes "9 refused 64 BalanceNotZero at 1 balance 67" ∷
    codes "10 refused 61 AccountUnknown at 1" ∷
    codes "11 refused 65 PoolUnknown at 1" ∷
    codes "12 refused 66 DrepUnknown at 1" ∷
    codes "13 refused 68 PoolCostTooLow at 1 min 3" ∷
    codes "14 refused 69 PoolWrongNetwork at 1" ∷
    codes "15 refused 65 PoolUnknown at 1" ∷
    codes "16 refused 70 RetirementEpochWrong at 1 now 2" ∷
    codes "17 refused 70 RetirementEpochWrong at 1 now 2" ∷
    codes "18 refused 62 DepositWrong at 1 want 5" ∷
    codes "19 refused 67 DrepRegistered at 1" ∷
    codes "20 refused 62 DepositWrong at 1 want 5" ∷
    codes "21 refused 63 RefundWrong at 1 want 5" ∷
    codes "22 refused 66 DrepUnknown at 1" ∷
    codes "23 refused 66 DrepUnknown at 1" ∷
    codes "24 refused 71 ColdKeyUnknown at 1" ∷
    codes "25 refused 71 ColdKeyUnknown at 1" ∷
    codes "26 refused 60 AccountRegistered at 2" ∷
    codes "27 refused 72 ColdKeyResigned at 1" ∷
    codes "28 refused 66 DrepUnknown at 1" ∷
    codes "29 accepted" ∷
    codes "30 now slot 20 epoch 2 version 10.0 dormant 0" ∷
    codes "30 constitution 0000000000000000000000000000000000000000000000000000000000000001 none" ∷
    codes "30 committee threshold 0/1" ∷
    codes "30 member k00000000000000000000000000000000000000000000000000000070 term 100 hot k00000000000000000000000000000000000000000000000000000071" ∷
    codes "30 enacted committee none constitution none hardfork none parameters none" ∷
    codes "30 param maxBlockBodySize 90112" ∷
    codes "30 param maxTxSize 16384" ∷
    codes "30 param maxBlockHeaderSize 1100" ∷
    codes "30 param maxValueSize 5000" ∷
    codes "30 param maxTxExUnits 1000 1000" ∷
    codes "30 param maxBlockExUnits 1000 1000" ∷
    codes "30 param maxCollateralInputs 3" ∷
    codes "30 param minFeeA 0" ∷
    codes "30 param minFeeB 0" ∷
    codes "30 param keyDeposit 2" ∷
    codes "30 param poolDeposit 5" ∷
    codes "30 param rho 0/1" ∷
    codes "30 param tau 0/1" ∷
    codes "30 param minPoolCost 3" ∷
    codes "30 param coinsPerUTxOByte 0" ∷
    codes "30 param prices 0/1 0/1" ∷
    codes "30 param minFeeRefScriptCostPerByte 15/1" ∷
    codes "30 param a0 0/1" ∷
    codes "30 param eMax 4" ∷
    codes "30 param nOpt 500" ∷
    codes "30 param costModels 0000000000000000000000000000000000000000000000000000000000000000" ∷
    codes "30 param collateralPercentage 150" ∷
    codes "30 param poolVotingThresholds 0/1 0/1 0/1 0/1 0/1" ∷
    codes "30 param drepVotingThresholds 67/100 67/100 67/100 67/100 67/100 67/100 67/100 67/100 67/100 67/100" ∷
    codes "30 param govActionLifetime 2" ∷
    codes "30 param govActionDeposit 10" ∷
    codes "30 param drepDeposit 5" ∷
    codes "30 param drepActivity 20" ∷
    codes "30 param committeeMinSize 0" ∷
    codes "30 param committeeMaxTermLength 100" ∷
    codes "30 drep k00000000000000000000000000000000000000000000000000000030 deposit 5 expiry 20" ∷
    codes "30 drep k00000000000000000000000000000000000000000000000000000031 deposit 5 expiry 20" ∷
    codes "30 pool 00000000000000000000000000000000000000000000000000000050 deposit 5 cost 0 pledge 0 margin 0/1 account 1k00000000000000000000000000000000000000000000000000000012 retires 3" ∷
    codes "30 account k00000000000000000000000000000000000000000000000000000010 stake 0 deposit 2 rewards 67 pool none drep k00000000000000000000000000000000000000000000000000000030" ∷
    codes "30 account k00000000000000000000000000000000000000000000000000000011 stake 0 deposit 2 rewards 33 pool none drep k00000000000000000000000000000000000000000000000000000031" ∷
    codes "30 account k00000000000000000000000000000000000000000000000000000012 stake 0 deposit 2 rewards 0 pool none drep none" ∷
    codes "30 snapshot mark 00000000000000000000000000000000000000000000000000000050 0" ∷
    codes "30 snapshot fees 0" ∷
    codes "30 pending none" ∷
    codes "30 pots outputs 0 deposits 21 rewards 100 fees 20 donations 0 treasury 100 reserves 759 supply 1000" ∷
    []) ≡ true
unfolding digits encode_with
refusals_of_certificates_at_the_second_place = refl

abbrev refusals_of_proposals_at_the_second_place_input : List (ℕ × Reading)
refusals_of_proposals_at_the_second_place_input =
    (1, Read (records.Genesis (record { network = 1; slot = 20; epoch_length = 10; version = (10, 0); supply = 1000; reserves = 619; treasury = 100; params = base_params; document = (h32 0x01); script = None; committee = (Some (record { threshold = (share 0 1); members = (((key 0x70), 100, (Some (key 0x71))) ∷ []) })); outputs = (((ref 0x01 2), (address_with 1 (key 0x01) None), 40, []) ∷ ((ref 0x01 3), (address_with 1 (key 0x01) None), 40, []) ∷ ((ref 0x01 4), (address_with 1 (key 0x01) None), 40, []) ∷ ((ref 0x01 5), (address_with 1 (key 0x01) None), 40, []) ∷ []); accounts = (((key 0x10), 2, 67, None, (Some (drep.Registered (key 0x30)))) ∷ ((key 0x11), 2, 33, None, (Some (drep.Registered (key 0x31)))) ∷ ((key 0x12), 2, 0, None, None) ∷ []); pools = ((record { pool = (pool 0x50); deposit = 5; cost = 0; pledge = 0; margin = (share 0 1); account = (account_on 1 (key 0x12)); key = None }) ∷ []); dreps = (((key 0x30), 5, 20) ∷ ((key 0x31), 5, 20) ∷ []) }))) ∷
    (2, Read (records.Tx (record (spend 0x02 0) { proposals = ((proposing 10 (account_on 1 (key 0x12)) (actions.Info)) ∷ (proposing 9 (account_on 1 (key 0x12)) (actions.Info)) ∷ []) }))) ∷
    (3, Read (records.Tx (record (spend 0x02 0) { proposals = ((proposing 10 (account_on 1 (key 0x12)) (actions.Info)) ∷ (proposing 10 (account_on 0 (key 0x12)) (actions.Info)) ∷ []) }))) ∷
    (4, Read (records.Tx (record (spend 0x02 0) { proposals = ((proposing 10 (account_on 1 (key 0x12)) (actions.Info)) ∷ (proposing 10 (account_on 1 (key 0x13)) (actions.Info)) ∷ []) }))) ∷
    (5, Read (records.Tx (record (spend 0x02 0) { proposals = ((proposing 10 (account_on 1 (key 0x12)) (actions.Info)) ∷ (proposing 10 (account_on 1 (key 0x12)) (actions.ParameterChange None no_update None)) ∷ []) }))) ∷
    (6, Read (records.Tx (record (spend 0x02 0) { proposals = ((proposing 10 (account_on 1 (key 0x12)) (actions.Info)) ∷ (proposing 10 (account_on 1 (key 0x12)) (actions.ParameterChange None (record no_update { max_tx_size = (Some 0) }) None)) ∷ []) }))) ∷
    (7, Read (records.Tx (record (spend 0x02 0) { proposals = ((proposing 10 (account_on 1 (key 0x12)) (actions.Info)) ∷ (proposing 10 (account_on 1 (key 0x12)) (actions.ParameterChange None (record no_update { n_opt = (Some 1) }) (Some (h28 0x09)))) ∷ []) }))) ∷
    (8, Read (records.Tx (record (spend 0x02 0) { proposals = ((proposing 10 (account_on 1 (key 0x12)) (actions.Info)) ∷ (proposing 10 (account_on 1 (key 0x12)) (actions.TreasuryWithdrawals (((account_on 1 (key 0x12)), 1) ∷ []) (Some (h28 0x09)))) ∷ []) }))) ∷
    (9, Read (records.Tx (record (spend 0x02 0) { proposals = ((proposing 10 (account_on 1 (key 0x12)) (actions.Info)) ∷ (proposing 10 (account_on 1 (key 0x12)) (actions.TreasuryWithdrawals (((account_on 1 (key 0x12)), 1) ∷ ((account_on 0 (key 0x10)), 1) ∷ []) None)) ∷ []) }))) ∷
    (10, Read (records.Tx (record (spend 0x02 0) { proposals = ((proposing 10 (account_on 1 (key 0x12)) (actions.Info)) ∷ (proposing 10 (account_on 1 (key 0x12)) (actions.TreasuryWithdrawals (((account_on 1 (key 0x12)), 1) ∷ ((account_on 1 (key 0x13)), 1) ∷ []) None)) ∷ []) }))) ∷
    (11, Read (records.Tx (record (spend 0x02 0) { proposals = ((proposing 10 (account_on 1 (key 0x12)) (actions.Info)) ∷ (proposing 10 (account_on 1 (key 0x12)) (actions.TreasuryWithdrawals (((account_on 1 (key 0x12)), 0) ∷ ((account_on 1 (key 0x11)), 0) ∷ []) None)) ∷ []) }))) ∷
    (12, Read (records.Tx (record (spend 0x02 0) { proposals = ((proposing 10 (account_on 1 (key 0x12)) (actions.Info)) ∷ (proposing 10 (account_on 1 (key 0x12)) (actions.TreasuryWithdrawals [] None)) ∷ []) }))) ∷
    (13, Read (records.Tx (record (spend 0x02 0) { proposals = ((proposing 10 (account_on 1 (key 0x12)) (actions.Info)) ∷ (proposing 10 (account_on 1 (key 0x12)) (actions.UpdateCommittee None ((key 0x61) ∷ (key 0x60) ∷ []) (((key 0x62), 9) ∷ ((key 0x60), 9) ∷ []) (share 1 2))) ∷ []) }))) ∷
    (14, Read (records.Tx (record (spend 0x02 0) { proposals = ((proposing 10 (account_on 1 (key 0x12)) (actions.Info)) ∷ (proposing 10 (account_on 1 (key 0x12)) (actions.UpdateCommittee None [] (((key 0x62), 3) ∷ ((key 0x60), 2) ∷ []) (share 1 2))) ∷ []) }))) ∷
    (15, Read (records.Tx (record (spend 0x02 0) { proposals = ((proposing 10 (account_on 1 (key 0x12)) (actions.Info)) ∷ (proposing 10 (account_on 1 (key 0x12)) (actions.NoConfidence (Some (action 0x09 0)))) ∷ []) }))) ∷
    (16, Read (records.Tx (record (spend 0x02 0) { proposals = ((proposing 10 (account_on 1 (key 0x12)) (actions.Info)) ∷ (proposing 10 (account_on 1 (key 0x12)) (actions.HardForkInitiation None (12, 0))) ∷ []) }))) ∷
    (17, Read (records.Tx (record (spend 0x02 0) { proposals = ((proposing 10 (account_on 1 (key 0x12)) (actions.Info)) ∷ (proposing 10 (account_on 1 (key 0x12)) (actions.HardForkInitiation None (11, 1))) ∷ []) }))) ∷
    (18, Read (records.Tx (record (spend 0x02 0) { proposals = ((proposing 10 (account_on 1 (key 0x12)) (actions.Info)) ∷ (proposing 10 (account_on 1 (key 0x12)) (actions.HardForkInitiation None (10, 0))) ∷ []) }))) ∷
    (19, Read (records.Tx (record (spend 0x02 0) { proposals = ((proposing 10 (account_on 1 (key 0x12)) (actions.Info)) ∷ (proposing 10 (account_on 1 (key 0x12)) (actions.HardForkInitiation None (10, 2))) ∷ []) }))) ∷
    (20, Read (records.Tx (record (spend 0x02 0) { certs = ((certs.AccountUnreg (key 0x12) None) ∷ []); proposals = ((proposing 10 (account_on 1 (key 0x12)) (actions.Info)) ∷ []) }))) ∷
    (21, Read (records.Tx (record (spend 0x02 18) { certs = ((certs.AccountReg (key 0x13) None None None) ∷ []); proposals = ((proposing 10 (account_on 1 (key 0x13)) (actions.TreasuryWithdrawals (((account_on 1 (key 0x13)), 1) ∷ ((account_on 1 (key 0x12)), 0) ∷ []) None)) ∷ (proposing 10 (account_on 1 (key 0x12)) (actions.HardForkInitiation None (11, 0))) ∷ []) }))) ∷
    (22, Read (records.Tx (record (spend 0x03 30) { proposals = ((proposing 10 (account_on 1 (key 0x12)) (actions.HardForkInitiation None (10, 1))) ∷ []) }))) ∷
    (23, Read (records.Print what.State)) ∷
    []

pub refusals_of_proposals_at_the_second_place : says_all refusals_of_proposals_at_the_second_place_input (
    codes "1 genesis outputs 160 deposits 21 rewards 100 fees 0 donations 0 treasury 100 reserves 619 supply 1000" ∷
    codes "2 refused 80 ProposalDepositWrong at 1 want 10" ∷
    codes "3 refused 81 ReturnWrongNetwork at 1" ∷
    codes "4 refused 82 ReturnAccountUnknown at 1" ∷
    codes "5 refused 83 UpdateMalformed at 1" ∷
    codes "6 refused 83 UpdateMalformed at 1" ∷
    codes "7 refused 84 PolicyWrong at 1" ∷
    codes "8 refused 84 PolicyWrong at 1" ∷
    codes "9 refused 85 TargetWrongNetwork at 1" ∷
    codes "10 refused 86 TargetUnknown at 1" ∷
    codes "11 refused 87 ZeroWithdrawal at 1" ∷
    codes "12 refused 87 ZeroWithdrawal at 1" ∷
    codes "13 refused 88 ConflictingUpdate at 1" ∷
    codes "14 refused 89 TermTooSmall at 1" ∷
    codes "15 refused 90 PreviousWrong at 1" ∷
    codes "16 refused 91 CannotFollow at 1" ∷
    codes "17 refused 91 CannotFollow at 1" ∷
    codes "18 refused 91 CannotFollow at 1" ∷
    codes "19 refused 91 CannotFollow at 1" ∷
    codes "20 refused 82 ReturnAccountUnknown at 0" ∷
    codes "21 accepted" ∷
    codes "22 accepted" ∷
    codes "23 now slot 20 epoch 2 version 10.0 dormant 0" ∷
    codes "23 constitution 0000000000000000000000000000000000000000000000000000000000000001 none" ∷
    codes "23 committee threshold 0/1" ∷
    codes "23 member k00000000000000000000000000000000000000000000000000000070 term 100 hot k00000000000000000000000000000000000000000000000000000071" ∷
    codes "23 enacted committee none constitution none hardfork none parameters none" ∷
    codes "23 param maxBlockBodySize 90112" ∷
    codes "23 param maxTxSize 16384" ∷
    codes "23 param maxBlockHeaderSize 1100" ∷
    codes "23 param maxValueSize 5000" ∷
    codes "23 param maxTxExUnits 1000 1000" ∷
    codes "23 param maxBlockExUnits 1000 1000" ∷
    codes "23 param maxCollateralInputs 3" ∷
    codes "23 param minFeeA 0" ∷
    codes "23 param minFeeB 0" ∷
    codes "23 param keyDeposit 2" ∷
    codes "23 param poolDeposit 5" ∷
    codes "23 param rho 0/1" ∷
    codes "23 param tau 0/1" ∷
    codes "23 param minPoolCost 0" ∷
    codes "23 param coinsPerUTxOByte 0" ∷
    codes "23 param prices 0/1 0/1" ∷
    codes "23 param minFeeRefScriptCostPerByte 15/1" ∷
    codes "23 param a0 0/1" ∷
    codes "23 param eMax 18" ∷
    codes "23 param nOpt 500" ∷
    codes "23 param costModels 0000000000000000000000000000000000000000000000000000000000000000" ∷
    codes "23 param collateralPercentage 150" ∷
    codes "23 param poolVotingThresholds 0/1 0/1 0/1 0/1 0/1" ∷
    codes "23 param drepVotingThresholds 67/100 67/100 67/100 67/100 67/100 67/100 67/100 67/100 67/100 67/100" ∷
    codes "23 param govActionLifetime 2" ∷
    codes "23 param govActionDeposit 10" ∷
    codes "23 param drepDeposit 5" ∷
    codes "23 param drepActivity 20" ∷
    codes "23 param committeeMinSize 0" ∷
    codes "23 param committeeMaxTermLength 100" ∷
    codes "23 drep k00000000000000000000000000000000000000000000000000000030 deposit 5 expiry 20" ∷
    codes "23 drep k00000000000000000000000000000000000000000000000000000031 deposit 5 expiry 20" ∷
    codes "23 pool 00000000000000000000000000000000000000000000000000000050 deposit 5 cost 0 pledge 0 margin 0/1 account 1k00000000000000000000000000000000000000000000000000000012 retires never" ∷
    codes "23 account k00000000000000000000000000000000000000000000000000000010 stake 0 deposit 2 rewards 67 pool none drep k00000000000000000000000000000000000000000000000000000030" ∷
    codes "23 account k00000000000000000000000000000000000000000000000000000011 stake 0 deposit 2 rewards 33 pool none drep k00000000000000000000000000000000000000000000000000000031" ∷
    codes "23 account k00000000000000000000000000000000000000000000000000000012 stake 0 deposit 2 rewards 0 pool none drep none" ∷
    codes "23 account k00000000000000000000000000000000000000000000000000000013 stake 0 deposit 2 rewards 0 pool none drep none" ∷
    codes "23 output 0000000000000000000000000000000000000000000000000000000000000001#4 1k00000000000000000000000000000000000000000000000000000001 40" ∷
    codes "23 output 0000000000000000000000000000000000000000000000000000000000000001#5 1k00000000000000000000000000000000000000000000000000000001 40" ∷
    codes "23 proposal 0000000000000000000000000000000000000000000000000000000000000002#0 TreasuryWithdrawals deposit 10 return 1k00000000000000000000000000000000000000000000000000000013 expires 4 previous none" ∷
    codes "23 proposal 0000000000000000000000000000000000000000000000000000000000000002#1 HardForkInitiation deposit 10 return 1k00000000000000000000000000000000000000000000000000000012 expires 4 previous none" ∷
    codes "23 proposal 0000000000000000000000000000000000000000000000000000000000000003#0 HardForkInitiation deposit 10 return 1k00000000000000000000000000000000000000000000000000000012 expires 4 previous none" ∷
    codes "23 snapshot mark 00000000000000000000000000000000000000000000000000000050 0" ∷
    codes "23 snapshot fees 0" ∷
    codes "23 pending none" ∷
    codes "23 pots outputs 80 deposits 53 rewards 100 fees 48 donations 0 treasury 100 reserves 619 supply 1000" ∷
    []) ≡ true
unfolding digits encode_with
refusals_of_proposals_at_the_second_place = refl

abbrev amounts_1_off_input : List (ℕ × Reading)
amounts_1_off_input =
    (1, Read (records.Genesis (record { network = 1; slot = 0; epoch_length = 10; version = (10, 0); supply = 1000; reserves = 579; treasury = 100; params = base_params; document = (h32 0x01); script = None; committee = (Some (record { threshold = (share 0 1); members = (((key 0x70), 100, (Some (key 0x71))) ∷ []) })); outputs = (((ref 0x01 0), (address_with 1 (key 0x01) None), 20, []) ∷ ((ref 0x01 1), (address_with 1 (key 0x01) None), 20, []) ∷ ((ref 0x01 2), (address_with 1 (key 0x01) None), 20, []) ∷ ((ref 0x01 3), (address_with 1 (key 0x01) None), 20, []) ∷ ((ref 0x01 4), (address_with 1 (key 0x01) None), 20, []) ∷ ((ref 0x01 5), (address_with 1 (key 0x01) None), 20, []) ∷ ((ref 0x01 6), (address_with 1 (key 0x01) None), 20, []) ∷ ((ref 0x01 7), (address_with 1 (key 0x01) None), 20, []) ∷ ((ref 0x01 8), (address_with 1 (key 0x01) None), 20, []) ∷ ((ref 0x01 9), (address_with 1 (key 0x01) None), 20, []) ∷ []); accounts = (((key 0x10), 2, 67, None, (Some (drep.Registered (key 0x30)))) ∷ ((key 0x11), 2, 33, None, (Some (drep.Registered (key 0x31)))) ∷ ((key 0x12), 2, 0, None, None) ∷ []); pools = ((record { pool = (pool 0x50); deposit = 5; cost = 0; pledge = 0; margin = (share 0 1); account = (account_on 1 (key 0x12)); key = None }) ∷ []); dreps = (((key 0x30), 5, 20) ∷ ((key 0x31), 5, 20) ∷ []) }))) ∷
    (2, Read (records.Tx (record (spend 0x02 20) { certs = ((certs.AccountReg (key 0x20) (Some 1) None None) ∷ []) }))) ∷
    (3, Read (records.Tx (record (spend 0x03 20) { inputs = ((ref 0x01 2) ∷ []); certs = ((certs.AccountUnreg (key 0x12) (Some 1)) ∷ []) }))) ∷
    (4, Read (records.Tx (record (spend 0x04 20) { inputs = ((ref 0x01 2) ∷ []); certs = ((certs.DrepReg (key 0x32) (Some 4)) ∷ []) }))) ∷
    (5, Read (records.Tx (record (spend 0x05 20) { inputs = ((ref 0x01 2) ∷ []); certs = ((certs.DrepUnreg (key 0x30) (Some 4)) ∷ []) }))) ∷
    (6, Read (records.Tx (record (spend 0x06 20) { inputs = ((ref 0x01 2) ∷ []); withdrawals = (((account_on 1 (key 0x10)), 66) ∷ []) }))) ∷
    (7, Read (records.Tx (record (spend 0x07 20) { inputs = ((ref 0x01 2) ∷ []); proposals = ((proposing 9 (account_on 1 (key 0x12)) (actions.Info)) ∷ []) }))) ∷
    (8, Read (records.Tx (record (spend 0x08 19) { inputs = ((ref 0x01 2) ∷ []) }))) ∷
    (9, Read (records.Rewards (record { epoch = 0; from_reserves = 10; from_fees = 0; to_treasury = 9; rewards = [] }))) ∷
    (10, Read (records.Tx (record (spend 0x0a 20) { inputs = ((ref 0x01 2) ∷ []); certs = ((certs.AccountReg (key 0x20) (Some 3) None None) ∷ []) }))) ∷
    (11, Read (records.Tx (record (spend 0x0b 20) { inputs = ((ref 0x01 2) ∷ []); certs = ((certs.AccountUnreg (key 0x12) (Some 3)) ∷ []) }))) ∷
    (12, Read (records.Tx (record (spend 0x0c 20) { inputs = ((ref 0x01 2) ∷ []); certs = ((certs.DrepReg (key 0x32) (Some 6)) ∷ []) }))) ∷
    (13, Read (records.Tx (record (spend 0x0d 20) { inputs = ((ref 0x01 2) ∷ []); certs = ((certs.DrepUnreg (key 0x30) (Some 6)) ∷ []) }))) ∷
    (14, Read (records.Tx (record (spend 0x0e 20) { inputs = ((ref 0x01 2) ∷ []); withdrawals = (((account_on 1 (key 0x10)), 68) ∷ []) }))) ∷
    (15, Read (records.Tx (record (spend 0x0f 20) { inputs = ((ref 0x01 2) ∷ []); proposals = ((proposing 11 (account_on 1 (key 0x12)) (actions.Info)) ∷ []) }))) ∷
    (16, Read (records.Tx (record (spend 0x10 21) { inputs = ((ref 0x01 2) ∷ []) }))) ∷
    (17, Read (records.Rewards (record { epoch = 0; from_reserves = 10; from_fees = 0; to_treasury = 11; rewards = [] }))) ∷
    (18, Read (records.Print what.Pots)) ∷
    []

pub amounts_1_off : says_all amounts_1_off_input (
    codes "1 genesis outputs 200 deposits 21 rewards 100 fees 0 donations 0 treasury 100 reserves 579 supply 1000" ∷
    codes "2 refused 62 DepositWrong at 0 want 2" ∷
    codes "3 refused 63 RefundWrong at 0 want 2" ∷
    codes "4 refused 62 DepositWrong at 0 want 5" ∷
    codes "5 refused 63 RefundWrong at 0 want 5" ∷
    codes "6 refused 53 WithdrawalNotWhole at 0 balance 67" ∷
    codes "7 refused 80 ProposalDepositWrong at 0 want 10" ∷
    codes "8 refused 110 NotBalanced consumed 20 produced 19" ∷
    codes "9 refused 22 RewardsNotBalanced in 10 out 9" ∷
    codes "10 refused 62 DepositWrong at 0 want 2" ∷
    codes "11 refused 63 RefundWrong at 0 want 2" ∷
    codes "12 refused 62 DepositWrong at 0 want 5" ∷
    codes "13 refused 63 RefundWrong at 0 want 5" ∷
    codes "14 refused 53 WithdrawalNotWhole at 0 balance 67" ∷
    codes "15 refused 80 ProposalDepositWrong at 0 want 10" ∷
    codes "16 refused 110 NotBalanced consumed 20 produced 21" ∷
    codes "17 refused 22 RewardsNotBalanced in 10 out 11" ∷
    codes "18 pots outputs 200 deposits 21 rewards 100 fees 0 donations 0 treasury 100 reserves 579 supply 1000" ∷
    []) ≡ true
unfolding digits encode_with
amounts_1_off = refl

abbrev parameters_set_to_zero_input : List (ℕ × Reading)
parameters_set_to_zero_input =
    (1, Read (records.Genesis (record { network = 1; slot = 0; epoch_length = 10; version = (10, 0); supply = 1000; reserves = 618; treasury = 100; params = base_params; document = (h32 0x01); script = None; committee = (Some (record { threshold = (share 0 1); members = (((key 0x70), 100, (Some (key 0x71))) ∷ []) })); outputs = (((ref 0x01 2), (address_with 1 (key 0x01) None), 20, []) ∷ ((ref 0x01 3), (address_with 1 (key 0x01) None), 20, []) ∷ ((ref 0x01 4), (address_with 1 (key 0x01) None), 20, []) ∷ ((ref 0x01 5), (address_with 1 (key 0x01) None), 20, []) ∷ ((ref 0x01 6), (address_with 1 (key 0x01) None), 20, []) ∷ ((ref 0x01 7), (address_with 1 (key 0x01) None), 20, []) ∷ ((ref 0x01 8), (address_with 1 (key 0x01) None), 20, []) ∷ ((ref 0x01 9), (address_with 1 (key 0x01) None), 20, []) ∷ ((ref 0x01 10), (address_with 1 (key 0x01) None), 20, []) ∷ ((ref 0x01 11), (address_with 1 (key 0x01) None), 20, []) ∷ ((ref 0x01 12), (address_with 1 (key 0x01) None), 20, []) ∷ ((ref 0x01 13), (address_with 1 (key 0x01) None), 20, []) ∷ ((ref 0x01 14), (address_with 1 (key 0x01) None), 20, []) ∷ ((ref 0x01 15), (address_with 1 (key 0x01) None), 20, []) ∷ []); accounts = (((key 0x12), 2, 0, None, None) ∷ []); pools = []; dreps = [] }))) ∷
    (2, Read (records.Tx (record (spend 0x02 0) { proposals = ((proposing 10 (account_on 1 (key 0x12)) (actions.ParameterChange None (record no_update { max_block_body_size = (Some 0) }) None)) ∷ []) }))) ∷
    (3, Read (records.Tx (record (spend 0x03 0) { proposals = ((proposing 10 (account_on 1 (key 0x12)) (actions.ParameterChange None (record no_update { max_tx_size = (Some 0) }) None)) ∷ []) }))) ∷
    (4, Read (records.Tx (record (spend 0x04 0) { proposals = ((proposing 10 (account_on 1 (key 0x12)) (actions.ParameterChange None (record no_update { max_block_header_size = (Some 0) }) None)) ∷ []) }))) ∷
    (5, Read (records.Tx (record (spend 0x05 0) { proposals = ((proposing 10 (account_on 1 (key 0x12)) (actions.ParameterChange None (record no_update { max_value_size = (Some 0) }) None)) ∷ []) }))) ∷
    (6, Read (records.Tx (record (spend 0x06 0) { proposals = ((proposing 10 (account_on 1 (key 0x12)) (actions.ParameterChange None (record no_update { pool_deposit = (Some 0) }) None)) ∷ []) }))) ∷
    (7, Read (records.Tx (record (spend 0x07 0) { proposals = ((proposing 10 (account_on 1 (key 0x12)) (actions.ParameterChange None (record no_update { coins_per_utxo_byte = (Some 0) }) None)) ∷ []) }))) ∷
    (8, Read (records.Tx (record (spend 0x08 0) { proposals = ((proposing 10 (account_on 1 (key 0x12)) (actions.ParameterChange None (record no_update { collateral_percentage = (Some 0) }) None)) ∷ []) }))) ∷
    (9, Read (records.Tx (record (spend 0x09 0) { proposals = ((proposing 10 (account_on 1 (key 0x12)) (actions.ParameterChange None (record no_update { gov_action_lifetime = (Some 0) }) None)) ∷ []) }))) ∷
    (10, Read (records.Tx (record (spend 0x10 0) { inputs = ((ref 0x01 10) ∷ []); proposals = ((proposing 10 (account_on 1 (key 0x12)) (actions.ParameterChange None (record no_update { gov_action_deposit = (Some 0) }) None)) ∷ []) }))) ∷
    (11, Read (records.Tx (record (spend 0x11 0) { inputs = ((ref 0x01 11) ∷ []); proposals = ((proposing 10 (account_on 1 (key 0x12)) (actions.ParameterChange None (record no_update { drep_deposit = (Some 0) }) None)) ∷ []) }))) ∷
    (12, Read (records.Tx (record (spend 0x12 0) { inputs = ((ref 0x01 12) ∷ []); proposals = ((proposing 10 (account_on 1 (key 0x12)) (actions.ParameterChange None (record no_update { committee_max_term_length = (Some 0) }) None)) ∷ []) }))) ∷
    (13, Read (records.Tx (record (spend 0x13 0) { inputs = ((ref 0x01 13) ∷ []); proposals = ((proposing 10 (account_on 1 (key 0x12)) (actions.ParameterChange None no_update None)) ∷ []) }))) ∷
    (14, Read (records.Tx (record (spend 0x13 10) { inputs = ((ref 0x01 13) ∷ []); proposals = ((proposing 10 (account_on 1 (key 0x12)) (actions.ParameterChange None (record no_update { max_collateral_inputs = (Some 0); min_fee_a = (Some 0); min_fee_b = (Some 0); key_deposit = (Some 0); min_pool_cost = (Some 0); e_max = (Some 0); n_opt = (Some 0); drep_activity = (Some 0); committee_min_size = (Some 0) }) None)) ∷ []) }))) ∷
    (15, Read (records.Tx (record (spend 0x14 10) { inputs = ((ref 0x01 14) ∷ []); proposals = ((proposing 10 (account_on 1 (key 0x12)) (actions.ParameterChange None (record no_update { max_tx_ex_units = (Some (0, 0)); max_block_ex_units = (Some (0, 0)); rho = (Some (share 0 1)); prices = (Some ((share 0 1), (share 0 1))); a0 = (Some (share 0 1)) }) None)) ∷ []) }))) ∷
    []

pub parameters_set_to_zero : says_all parameters_set_to_zero_input (
    codes "1 genesis outputs 280 deposits 2 rewards 0 fees 0 donations 0 treasury 100 reserves 618 supply 1000" ∷
    codes "2 refused 83 UpdateMalformed at 0" ∷
    codes "3 refused 83 UpdateMalformed at 0" ∷
    codes "4 refused 83 UpdateMalformed at 0" ∷
    codes "5 refused 83 UpdateMalformed at 0" ∷
    codes "6 refused 83 UpdateMalformed at 0" ∷
    codes "7 refused 83 UpdateMalformed at 0" ∷
    codes "8 refused 83 UpdateMalformed at 0" ∷
    codes "9 refused 83 UpdateMalformed at 0" ∷
    codes "10 refused 83 UpdateMalformed at 0" ∷
    codes "11 refused 83 UpdateMalformed at 0" ∷
    codes "12 refused 83 UpdateMalformed at 0" ∷
    codes "13 refused 83 UpdateMalformed at 0" ∷
    codes "14 accepted" ∷
    codes "15 accepted" ∷
    []) ≡ true
unfolding digits encode_with
parameters_set_to_zero = refl

abbrev lines_that_are_no_records_input : List (ℕ × Reading)
lines_that_are_no_records_input =
    (1, Read (records.Genesis (record { network = 1; slot = 0; epoch_length = 10; version = (10, 0); supply = 1000; reserves = 739; treasury = 100; params = base_params; document = (h32 0x01); script = None; committee = (Some (record { threshold = (share 0 1); members = (((key 0x70), 100, (Some (key 0x71))) ∷ []) })); outputs = (((ref 0x01 2), (address_with 1 (key 0x01) None), 20, []) ∷ ((ref 0x01 3), (address_with 1 (key 0x01) None), 20, []) ∷ []); accounts = (((key 0x10), 2, 67, None, (Some (drep.Registered (key 0x30)))) ∷ ((key 0x11), 2, 33, None, (Some (drep.Registered (key 0x31)))) ∷ ((key 0x12), 2, 0, None, None) ∷ []); pools = ((record { pool = (pool 0x50); deposit = 5; cost = 0; pledge = 0; margin = (share 0 1); account = (account_on 1 (key 0x12)); key = None }) ∷ []); dreps = (((key 0x30), 5, 20) ∷ ((key 0x31), 5, 20) ∷ []) }))) ∷
    (3, Read (records.Tx (spend 0x02 20))) ∷
    (4, Malformed field.Json None) ∷
    (5, Malformed field.Kind None) ∷
    (7, Malformed field.Pulse None) ∷
    (8, Malformed field.Rewards (Some 1)) ∷
    (9, Read (records.Print what.Pots)) ∷
    []

pub lines_that_are_no_records : says_all lines_that_are_no_records_input (
    codes "1 genesis outputs 40 deposits 21 rewards 100 fees 0 donations 0 treasury 100 reserves 739 supply 1000" ∷
    codes "3 accepted" ∷
    codes "4 refused 1 Malformed json" ∷
    codes "5 refused 1 Malformed kind" ∷
    codes "7 refused 1 Malformed pulse" ∷
    codes "8 refused 1 Malformed rewards[1]" ∷
    codes "9 pots outputs 20 deposits 21 rewards 100 fees 20 donations 0 treasury 100 reserves 739 supply 1000" ∷
    []) ≡ true
unfolding digits encode_with
lines_that_are_no_records = refl
