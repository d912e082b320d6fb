-- Worked rows of whole streams: what each role counts and needs. Made by tests/made/rows_of, from the streams of these names in tests/streams/whole.
use Rattle.std.specs.Prelude.{ℕ, ◌≡◌, List, [], ◌∷◌, Some, None, true, codes, refl}
use Rattle.std.specs.Fmt.{digits}
use Rattle.hex.specs.Hex.{encode_with}
use Rattle.gov_actions.specs.declared.action.Action.TheVariants as actions
use Rattle.gov_actions.specs.declared.action.Vote.TheVariants as vote
use Rattle.gov_ids.specs.declared.Drep.TheVariants as drep
use Rattle.gov_ids.specs.declared.Voter.TheVariants as voter
use Rattle.tx_records.specs.declared.record.Record.TheVariants as records
use Rattle.tx_records.specs.declared.record.What.TheVariants as what
use Rattle.tx_records.specs.declared.cert.Cert.TheVariants as certs
use Rattle.tx_records.specs.declared.record.Reading.{Reading}
use Rattle.tx_records.specs.declared.record.Reading.TheVariants.{Read}
use Rattle.ledger_rows.proofs.Base.{h28, h32, key, script, pool, account_on, address_with, ref, action, share, base_params, no_update, spend, proposing, voting, says_all}

abbrev members_at_the_end_of_their_terms_input : List (ℕ × Reading)
members_at_the_end_of_their_terms_input =
    (1, Read (records.Genesis (record { network = 1; slot = 0; epoch_length = 10; version = (10, 0); supply = 1000; reserves = 539; treasury = 100; params = (record base_params { drep_voting_thresholds = ((share 0 1) ∷ (share 0 1) ∷ (share 0 1) ∷ (share 0 1) ∷ (share 0 1) ∷ (share 0 1) ∷ (share 0 1) ∷ (share 0 1) ∷ (share 0 1) ∷ (share 0 1) ∷ []); gov_action_lifetime = 9; committee_min_size = 3 }); document = (h32 0x01); script = None; committee = (Some (record { threshold = (share 1 2); members = (((key 0x70), 4, (Some (key 0x80))) ∷ ((key 0x71), 5, (Some (key 0x81))) ∷ ((key 0x72), 9, (Some (key 0x81))) ∷ ((key 0x73), 9, None) ∷ ((key 0x74), 9, (Some (key 0x84))) ∷ ((script 0x74), 9, (Some (key 0x85))) ∷ []) })); outputs = (((ref 0x01 2), (address_with 1 (key 0x01) None), 40, []) ∷ ((ref 0x01 3), (address_with 1 (key 0x01) None), 40, []) ∷ ((ref 0x01 4), (address_with 1 (key 0x01) None), 40, []) ∷ ((ref 0x01 5), (address_with 1 (key 0x01) None), 40, []) ∷ ((ref 0x01 6), (address_with 1 (key 0x01) None), 40, []) ∷ ((ref 0x01 7), (address_with 1 (key 0x01) None), 40, []) ∷ []); accounts = (((key 0x10), 2, 67, None, (Some (drep.Registered (key 0x30)))) ∷ ((key 0x11), 2, 33, None, (Some (drep.Registered (key 0x31)))) ∷ ((key 0x12), 2, 0, None, None) ∷ []); pools = ((record { pool = (pool 0x50); deposit = 5; cost = 0; pledge = 0; margin = (share 0 1); account = (account_on 1 (key 0x12)); key = None }) ∷ []); dreps = (((key 0x30), 5, 20) ∷ ((key 0x31), 5, 20) ∷ []) }))) ∷
    (2, Read (records.Tx (record (spend 0x02 20) { certs = ((certs.HotResign (key 0x74)) ∷ []); proposals = ((proposing 10 (account_on 1 (key 0x12)) (actions.NewConstitution None (h32 0x02) (Some (h28 0x99)))) ∷ (proposing 10 (account_on 1 (key 0x12)) (actions.TreasuryWithdrawals (((account_on 1 (key 0x12)), 1) ∷ []) None)) ∷ []) }))) ∷
    (3, Read (records.Tx (record (spend 0x03 40) { votes = ((voting (voter.Committee (key 0x80)) (action 0x02 0) vote.Yes) ∷ (voting (voter.Committee (key 0x81)) (action 0x02 0) vote.No) ∷ (voting (voter.Committee (key 0x80)) (action 0x02 1) vote.Yes) ∷ (voting (voter.Committee (key 0x85)) (action 0x02 0) vote.Abstain) ∷ []) }))) ∷
    (4, Read (records.Block 10 1)) ∷
    (5, Read (records.Block 20 1)) ∷
    (6, Read (records.Block 30 1)) ∷
    (7, Read (records.Tx (record (spend 0x04 40) { certs = ((certs.HotResign (script 0x74)) ∷ []) }))) ∷
    (8, Read (records.Block 40 1)) ∷
    (9, Read (records.Block 50 1)) ∷
    (10, Read (records.Block 60 1)) ∷
    (11, Read (records.Print what.State)) ∷
    []

pub members_at_the_end_of_their_terms : says_all members_at_the_end_of_their_terms_input (
    codes "1 genesis outputs 240 deposits 21 rewards 100 fees 0 donations 0 treasury 100 reserves 539 supply 1000" ∷
    codes "2 accepted" ∷
    codes "3 accepted" ∷
    codes "4 epoch 1 frozen 3 dormant 0" ∷
    codes "4 stake k00000000000000000000000000000000000000000000000000000030 67" ∷
    codes "4 stake k00000000000000000000000000000000000000000000000000000031 33" ∷
    codes "4 pots outputs 160 deposits 41 rewards 100 fees 60 donations 0 treasury 100 reserves 539 supply 1000" ∷
    codes "4 block slot 10 epoch 1 counted 1 of 3" ∷
    codes "5 epoch 2 frozen 3 dormant 0" ∷
    codes "5 stake k00000000000000000000000000000000000000000000000000000030 67" ∷
    codes "5 stake k00000000000000000000000000000000000000000000000000000031 33" ∷
    codes "5 tally 0000000000000000000000000000000000000000000000000000000000000002#0 NewConstitution committee 1/3 need 1/2 drep 0/100 need 0/1 pool 0/0 need none waiting" ∷
    codes "5 tally 0000000000000000000000000000000000000000000000000000000000000002#1 TreasuryWithdrawals committee 1/4 need 1/2 drep 0/100 need 0/1 pool 0/0 need none waiting" ∷
    codes "5 pots outputs 160 deposits 41 rewards 100 fees 60 donations 0 treasury 100 reserves 539 supply 1000" ∷
    codes "5 block slot 20 epoch 2 counted 1 of 3" ∷
    codes "6 epoch 3 frozen 3 dormant 0" ∷
    codes "6 stake k00000000000000000000000000000000000000000000000000000030 67" ∷
    codes "6 stake k00000000000000000000000000000000000000000000000000000031 33" ∷
    codes "6 tally 0000000000000000000000000000000000000000000000000000000000000002#0 NewConstitution committee 1/3 need 1/2 drep 0/100 need 0/1 pool 0/0 need none waiting" ∷
    codes "6 tally 0000000000000000000000000000000000000000000000000000000000000002#1 TreasuryWithdrawals committee 1/4 need 1/2 drep 0/100 need 0/1 pool 0/0 need none waiting" ∷
    codes "6 pots outputs 160 deposits 41 rewards 100 fees 60 donations 0 treasury 100 reserves 539 supply 1000" ∷
    codes "6 block slot 30 epoch 3 counted 1 of 3" ∷
    codes "7 accepted" ∷
    codes "8 epoch 4 frozen 3 dormant 0" ∷
    codes "8 stake k00000000000000000000000000000000000000000000000000000030 67" ∷
    codes "8 stake k00000000000000000000000000000000000000000000000000000031 33" ∷
    codes "8 tally 0000000000000000000000000000000000000000000000000000000000000002#0 NewConstitution committee 1/3 need 1/2 drep 0/100 need 0/1 pool 0/0 need none waiting" ∷
    codes "8 tally 0000000000000000000000000000000000000000000000000000000000000002#1 TreasuryWithdrawals committee 1/4 need 1/2 drep 0/100 need 0/1 pool 0/0 need none waiting" ∷
    codes "8 pots outputs 120 deposits 41 rewards 100 fees 100 donations 0 treasury 100 reserves 539 supply 1000" ∷
    codes "8 block slot 40 epoch 4 counted 1 of 3" ∷
    codes "9 epoch 5 frozen 3 dormant 0" ∷
    codes "9 stake k00000000000000000000000000000000000000000000000000000030 67" ∷
    codes "9 stake k00000000000000000000000000000000000000000000000000000031 33" ∷
    codes "9 tally 0000000000000000000000000000000000000000000000000000000000000002#0 NewConstitution committee 1/3 need 1/2 drep 0/100 need 0/1 pool 0/0 need none waiting" ∷
    codes "9 tally 0000000000000000000000000000000000000000000000000000000000000002#1 TreasuryWithdrawals committee 1/3 need 1/2 drep 0/100 need 0/1 pool 0/0 need none waiting" ∷
    codes "9 pots outputs 120 deposits 41 rewards 100 fees 100 donations 0 treasury 100 reserves 539 supply 1000" ∷
    codes "9 block slot 50 epoch 5 counted 1 of 3" ∷
    codes "10 epoch 6 frozen 3 dormant 0" ∷
    codes "10 stake k00000000000000000000000000000000000000000000000000000030 67" ∷
    codes "10 stake k00000000000000000000000000000000000000000000000000000031 33" ∷
    codes "10 tally 0000000000000000000000000000000000000000000000000000000000000002#0 NewConstitution committee 0/2 need never drep 0/100 need 0/1 pool 0/0 need none waiting" ∷
    codes "10 tally 0000000000000000000000000000000000000000000000000000000000000002#1 TreasuryWithdrawals committee 0/2 need never drep 0/100 need 0/1 pool 0/0 need none waiting" ∷
    codes "10 pots outputs 120 deposits 41 rewards 100 fees 100 donations 0 treasury 100 reserves 539 supply 1000" ∷
    codes "10 block slot 60 epoch 6 counted 1 of 3" ∷
    codes "11 now slot 60 epoch 6 version 10.0 dormant 0" ∷
    codes "11 constitution 0000000000000000000000000000000000000000000000000000000000000001 none" ∷
    codes "11 committee threshold 1/2" ∷
    codes "11 member k00000000000000000000000000000000000000000000000000000070 term 4 hot k00000000000000000000000000000000000000000000000000000080" ∷
    codes "11 member k00000000000000000000000000000000000000000000000000000071 term 5 hot k00000000000000000000000000000000000000000000000000000081" ∷
    codes "11 member k00000000000000000000000000000000000000000000000000000072 term 9 hot k00000000000000000000000000000000000000000000000000000081" ∷
    codes "11 member k00000000000000000000000000000000000000000000000000000073 term 9 hot none" ∷
    codes "11 member k00000000000000000000000000000000000000000000000000000074 term 9 hot resigned" ∷
    codes "11 member s00000000000000000000000000000000000000000000000000000074 term 9 hot resigned" ∷
    codes "11 enacted committee none constitution none hardfork none parameters none" ∷
    codes "11 param maxBlockBodySize 90112" ∷
    codes "11 param maxTxSize 16384" ∷
    codes "11 param maxBlockHeaderSize 1100" ∷
    codes "11 param maxValueSize 5000" ∷
    codes "11 param maxTxExUnits 1000 1000" ∷
    codes "11 param maxBlockExUnits 1000 1000" ∷
    codes "11 param maxCollateralInputs 3" ∷
    codes "11 param minFeeA 0" ∷
    codes "11 param minFeeB 0" ∷
    codes "11 param keyDeposit 2" ∷
    codes "11 param poolDeposit 5" ∷
    codes "11 param rho 0/1" ∷
    codes "11 param tau 0/1" ∷
    codes "11 param minPoolCost 0" ∷
    codes "11 param coinsPerUTxOByte 0" ∷
    codes "11 param prices 0/1 0/1" ∷
    codes "11 param minFeeRefScriptCostPerByte 15/1" ∷
    codes "11 param a0 0/1" ∷
    codes "11 param eMax 18" ∷
    codes "11 param nOpt 500" ∷
    codes "11 param costModels 0000000000000000000000000000000000000000000000000000000000000000" ∷
    codes "11 param collateralPercentage 150" ∷
    codes "11 param poolVotingThresholds 0/1 0/1 0/1 0/1 0/1" ∷
    codes "11 param drepVotingThresholds 0/1 0/1 0/1 0/1 0/1 0/1 0/1 0/1 0/1 0/1" ∷
    codes "11 param govActionLifetime 9" ∷
    codes "11 param govActionDeposit 10" ∷
    codes "11 param drepDeposit 5" ∷
    codes "11 param drepActivity 20" ∷
    codes "11 param committeeMinSize 3" ∷
    codes "11 param committeeMaxTermLength 100" ∷
    codes "11 drep k00000000000000000000000000000000000000000000000000000030 deposit 5 expiry 20" ∷
    codes "11 drep k00000000000000000000000000000000000000000000000000000031 deposit 5 expiry 20" ∷
    codes "11 pool 00000000000000000000000000000000000000000000000000000050 deposit 5 cost 0 pledge 0 margin 0/1 account 1k00000000000000000000000000000000000000000000000000000012 retires never" ∷
    codes "11 account k00000000000000000000000000000000000000000000000000000010 stake 0 deposit 2 rewards 67 pool none drep k00000000000000000000000000000000000000000000000000000030" ∷
    codes "11 account k00000000000000000000000000000000000000000000000000000011 stake 0 deposit 2 rewards 33 pool none drep k00000000000000000000000000000000000000000000000000000031" ∷
    codes "11 account k00000000000000000000000000000000000000000000000000000012 stake 0 deposit 2 rewards 0 pool none drep none" ∷
    codes "11 output 0000000000000000000000000000000000000000000000000000000000000001#5 1k00000000000000000000000000000000000000000000000000000001 40" ∷
    codes "11 output 0000000000000000000000000000000000000000000000000000000000000001#6 1k00000000000000000000000000000000000000000000000000000001 40" ∷
    codes "11 output 0000000000000000000000000000000000000000000000000000000000000001#7 1k00000000000000000000000000000000000000000000000000000001 40" ∷
    codes "11 proposal 0000000000000000000000000000000000000000000000000000000000000002#0 NewConstitution deposit 10 return 1k00000000000000000000000000000000000000000000000000000012 expires 9 previous none" ∷
    codes "11 vote 0000000000000000000000000000000000000000000000000000000000000002#0 committee:k00000000000000000000000000000000000000000000000000000080 yes" ∷
    codes "11 vote 0000000000000000000000000000000000000000000000000000000000000002#0 committee:k00000000000000000000000000000000000000000000000000000081 no" ∷
    codes "11 vote 0000000000000000000000000000000000000000000000000000000000000002#0 committee:k00000000000000000000000000000000000000000000000000000085 abstain" ∷
    codes "11 proposal 0000000000000000000000000000000000000000000000000000000000000002#1 TreasuryWithdrawals deposit 10 return 1k00000000000000000000000000000000000000000000000000000012 expires 9 previous none" ∷
    codes "11 vote 0000000000000000000000000000000000000000000000000000000000000002#1 committee:k00000000000000000000000000000000000000000000000000000080 yes" ∷
    codes "11 snapshot mark 00000000000000000000000000000000000000000000000000000050 0" ∷
    codes "11 snapshot set 00000000000000000000000000000000000000000000000000000050 0" ∷
    codes "11 snapshot go 00000000000000000000000000000000000000000000000000000050 0" ∷
    codes "11 snapshot fees 100" ∷
    codes "11 pending none" ∷
    codes "11 pots outputs 120 deposits 41 rewards 100 fees 100 donations 0 treasury 100 reserves 539 supply 1000" ∷
    []) ≡ true
unfolding digits encode_with
members_at_the_end_of_their_terms = refl

abbrev needs_with_a_committee_input : List (ℕ × Reading)
needs_with_a_committee_input =
    (1, Read (records.Genesis (record { network = 1; slot = 0; epoch_length = 10; version = (10, 0); supply = 1000; reserves = 379; treasury = 100; params = (record base_params { pool_voting_thresholds = ((share 11 60) ∷ (share 12 60) ∷ (share 13 60) ∷ (share 14 60) ∷ (share 15 60) ∷ []); drep_voting_thresholds = ((share 1 50) ∷ (share 2 50) ∷ (share 3 50) ∷ (share 4 50) ∷ (share 5 50) ∷ (share 6 50) ∷ (share 7 50) ∷ (share 8 50) ∷ (share 9 50) ∷ (share 10 50) ∷ []) }); document = (h32 0x01); script = None; committee = (Some (record { threshold = (share 3 4); members = (((key 0x70), 100, (Some (key 0x71))) ∷ []) })); outputs = (((ref 0x01 2), (address_with 1 (key 0x01) None), 200, []) ∷ ((ref 0x01 3), (address_with 1 (key 0x01) None), 200, []) ∷ []); accounts = (((key 0x10), 2, 67, None, (Some (drep.Registered (key 0x30)))) ∷ ((key 0x11), 2, 33, None, (Some (drep.Registered (key 0x31)))) ∷ ((key 0x12), 2, 0, None, None) ∷ []); pools = ((record { pool = (pool 0x50); deposit = 5; cost = 0; pledge = 0; margin = (share 0 1); account = (account_on 1 (key 0x12)); key = None }) ∷ []); dreps = (((key 0x30), 5, 20) ∷ ((key 0x31), 5, 20) ∷ []) }))) ∷
    (2, Read (records.Tx (record (spend 0x02 80) { proposals = ((proposing 10 (account_on 1 (key 0x12)) (actions.UpdateCommittee None [] (((key 0x60), 50) ∷ []) (share 1 3))) ∷ (proposing 10 (account_on 1 (key 0x12)) (actions.NoConfidence None)) ∷ (proposing 10 (account_on 1 (key 0x12)) (actions.NewConstitution None (h32 0x02) None)) ∷ (proposing 10 (account_on 1 (key 0x12)) (actions.HardForkInitiation None (10, 1))) ∷ (proposing 10 (account_on 1 (key 0x12)) (actions.TreasuryWithdrawals (((account_on 1 (key 0x12)), 5) ∷ []) None)) ∷ (proposing 10 (account_on 1 (key 0x12)) (actions.Info)) ∷ (proposing 10 (account_on 1 (key 0x12)) (actions.ParameterChange None (record no_update { max_tx_ex_units = (Some (1, 2)) }) None)) ∷ (proposing 10 (account_on 1 (key 0x12)) (actions.ParameterChange None (record no_update { key_deposit = (Some 3) }) None)) ∷ (proposing 10 (account_on 1 (key 0x12)) (actions.ParameterChange None (record no_update { a0 = (Some (share 1 2)) }) None)) ∷ (proposing 10 (account_on 1 (key 0x12)) (actions.ParameterChange None (record no_update { drep_activity = (Some 9) }) None)) ∷ (proposing 10 (account_on 1 (key 0x12)) (actions.ParameterChange None (record no_update { max_tx_size = (Some 9) }) None)) ∷ (proposing 10 (account_on 1 (key 0x12)) (actions.ParameterChange None (record no_update { max_tx_ex_units = (Some (3, 4)); key_deposit = (Some 3); a0 = (Some (share 1 2)) }) None)) ∷ []) }))) ∷
    (3, Read (records.Block 10 1)) ∷
    (4, Read (records.Block 20 1)) ∷
    []

pub needs_with_a_committee : says_all needs_with_a_committee_input (
    codes "1 genesis outputs 400 deposits 21 rewards 100 fees 0 donations 0 treasury 100 reserves 379 supply 1000" ∷
    codes "2 accepted" ∷
    codes "3 epoch 1 frozen 3 dormant 0" ∷
    codes "3 stake k00000000000000000000000000000000000000000000000000000030 67" ∷
    codes "3 stake k00000000000000000000000000000000000000000000000000000031 33" ∷
    codes "3 pots outputs 200 deposits 141 rewards 100 fees 80 donations 0 treasury 100 reserves 379 supply 1000" ∷
    codes "3 block slot 10 epoch 1 counted 1 of 3" ∷
    codes "4 epoch 2 frozen 3 dormant 0" ∷
    codes "4 stake k00000000000000000000000000000000000000000000000000000030 67" ∷
    codes "4 stake k00000000000000000000000000000000000000000000000000000031 33" ∷
    codes "4 tally 0000000000000000000000000000000000000000000000000000000000000002#1 NoConfidence committee 0/1 need none drep 0/100 need 1/50 pool 0/0 need 11/60 waiting" ∷
    codes "4 tally 0000000000000000000000000000000000000000000000000000000000000002#0 UpdateCommittee committee 0/1 need none drep 0/100 need 2/50 pool 0/0 need 12/60 waiting" ∷
    codes "4 tally 0000000000000000000000000000000000000000000000000000000000000002#2 NewConstitution committee 0/1 need 3/4 drep 0/100 need 4/50 pool 0/0 need none waiting" ∷
    codes "4 tally 0000000000000000000000000000000000000000000000000000000000000002#3 HardForkInitiation committee 0/1 need 3/4 drep 0/100 need 5/50 pool 0/0 need 14/60 waiting" ∷
    codes "4 tally 0000000000000000000000000000000000000000000000000000000000000002#6 ParameterChange committee 0/1 need 3/4 drep 0/100 need 6/50 pool 0/0 need none waiting" ∷
    codes "4 tally 0000000000000000000000000000000000000000000000000000000000000002#7 ParameterChange committee 0/1 need 3/4 drep 0/100 need 7/50 pool 0/0 need none waiting" ∷
    codes "4 tally 0000000000000000000000000000000000000000000000000000000000000002#8 ParameterChange committee 0/1 need 3/4 drep 0/100 need 8/50 pool 0/0 need none waiting" ∷
    codes "4 tally 0000000000000000000000000000000000000000000000000000000000000002#9 ParameterChange committee 0/1 need 3/4 drep 0/100 need 9/50 pool 0/0 need none waiting" ∷
    codes "4 tally 0000000000000000000000000000000000000000000000000000000000000002#10 ParameterChange committee 0/1 need 3/4 drep 0/100 need 6/50 pool 0/0 need 15/60 waiting" ∷
    codes "4 tally 0000000000000000000000000000000000000000000000000000000000000002#11 ParameterChange committee 0/1 need 3/4 drep 0/100 need 8/50 pool 0/0 need none waiting" ∷
    codes "4 tally 0000000000000000000000000000000000000000000000000000000000000002#4 TreasuryWithdrawals committee 0/1 need 3/4 drep 0/100 need 10/50 pool 0/0 need none waiting" ∷
    codes "4 tally 0000000000000000000000000000000000000000000000000000000000000002#5 Info committee 0/1 need never drep 0/100 need never pool 0/0 need never waiting" ∷
    codes "4 pots outputs 200 deposits 141 rewards 100 fees 80 donations 0 treasury 100 reserves 379 supply 1000" ∷
    codes "4 block slot 20 epoch 2 counted 1 of 3" ∷
    []) ≡ true
unfolding digits encode_with
needs_with_a_committee = refl

abbrev needs_without_a_committee_input : List (ℕ × Reading)
needs_without_a_committee_input =
    (1, Read (records.Genesis (record { network = 1; slot = 0; epoch_length = 10; version = (10, 0); supply = 1000; reserves = 379; treasury = 100; params = (record base_params { pool_voting_thresholds = ((share 11 60) ∷ (share 12 60) ∷ (share 13 60) ∷ (share 14 60) ∷ (share 15 60) ∷ []); drep_voting_thresholds = ((share 1 50) ∷ (share 2 50) ∷ (share 3 50) ∷ (share 4 50) ∷ (share 5 50) ∷ (share 6 50) ∷ (share 7 50) ∷ (share 8 50) ∷ (share 9 50) ∷ (share 10 50) ∷ []) }); document = (h32 0x01); script = None; committee = None; outputs = (((ref 0x01 2), (address_with 1 (key 0x01) None), 200, []) ∷ ((ref 0x01 3), (address_with 1 (key 0x01) None), 200, []) ∷ []); accounts = (((key 0x10), 2, 67, None, (Some (drep.Registered (key 0x30)))) ∷ ((key 0x11), 2, 33, None, (Some (drep.Registered (key 0x31)))) ∷ ((key 0x12), 2, 0, None, None) ∷ []); pools = ((record { pool = (pool 0x50); deposit = 5; cost = 0; pledge = 0; margin = (share 0 1); account = (account_on 1 (key 0x12)); key = None }) ∷ []); dreps = (((key 0x30), 5, 20) ∷ ((key 0x31), 5, 20) ∷ []) }))) ∷
    (2, Read (records.Tx (record (spend 0x02 80) { proposals = ((proposing 10 (account_on 1 (key 0x12)) (actions.UpdateCommittee None [] (((key 0x60), 50) ∷ []) (share 1 3))) ∷ (proposing 10 (account_on 1 (key 0x12)) (actions.NoConfidence None)) ∷ (proposing 10 (account_on 1 (key 0x12)) (actions.NewConstitution None (h32 0x02) None)) ∷ (proposing 10 (account_on 1 (key 0x12)) (actions.HardForkInitiation None (10, 1))) ∷ (proposing 10 (account_on 1 (key 0x12)) (actions.TreasuryWithdrawals (((account_on 1 (key 0x12)), 5) ∷ []) None)) ∷ (proposing 10 (account_on 1 (key 0x12)) (actions.Info)) ∷ (proposing 10 (account_on 1 (key 0x12)) (actions.ParameterChange None (record no_update { max_tx_ex_units = (Some (1, 2)) }) None)) ∷ (proposing 10 (account_on 1 (key 0x12)) (actions.ParameterChange None (record no_update { key_deposit = (Some 3) }) None)) ∷ (proposing 10 (account_on 1 (key 0x12)) (actions.ParameterChange None (record no_update { a0 = (Some (share 1 2)) }) None)) ∷ (proposing 10 (account_on 1 (key 0x12)) (actions.ParameterChange None (record no_update { drep_activity = (Some 9) }) None)) ∷ (proposing 10 (account_on 1 (key 0x12)) (actions.ParameterChange None (record no_update { max_tx_size = (Some 9) }) None)) ∷ (proposing 10 (account_on 1 (key 0x12)) (actions.ParameterChange None (record no_update { max_tx_ex_units = (Some (3, 4)); key_deposit = (Some 3); a0 = (Some (share 1 2)) }) None)) ∷ []) }))) ∷
    (3, Read (records.Block 10 1)) ∷
    (4, Read (records.Block 20 1)) ∷
    []

pub needs_without_a_committee : says_all needs_without_a_committee_input (
    codes "1 genesis outputs 400 deposits 21 rewards 100 fees 0 donations 0 treasury 100 reserves 379 supply 1000" ∷
    codes "2 accepted" ∷
    codes "3 epoch 1 frozen 3 dormant 0" ∷
    codes "3 stake k00000000000000000000000000000000000000000000000000000030 67" ∷
    codes "3 stake k00000000000000000000000000000000000000000000000000000031 33" ∷
    codes "3 pots outputs 200 deposits 141 rewards 100 fees 80 donations 0 treasury 100 reserves 379 supply 1000" ∷
    codes "3 block slot 10 epoch 1 counted 1 of 3" ∷
    codes "4 epoch 2 frozen 3 dormant 0" ∷
    codes "4 stake k00000000000000000000000000000000000000000000000000000030 67" ∷
    codes "4 stake k00000000000000000000000000000000000000000000000000000031 33" ∷
    codes "4 tally 0000000000000000000000000000000000000000000000000000000000000002#1 NoConfidence committee 0/0 need none drep 0/100 need 1/50 pool 0/0 need 11/60 waiting" ∷
    codes "4 tally 0000000000000000000000000000000000000000000000000000000000000002#0 UpdateCommittee committee 0/0 need none drep 0/100 need 3/50 pool 0/0 need 13/60 waiting" ∷
    codes "4 tally 0000000000000000000000000000000000000000000000000000000000000002#2 NewConstitution committee 0/0 need never drep 0/100 need 4/50 pool 0/0 need none waiting" ∷
    codes "4 tally 0000000000000000000000000000000000000000000000000000000000000002#3 HardForkInitiation committee 0/0 need never drep 0/100 need 5/50 pool 0/0 need 14/60 waiting" ∷
    codes "4 tally 0000000000000000000000000000000000000000000000000000000000000002#6 ParameterChange committee 0/0 need never drep 0/100 need 6/50 pool 0/0 need none waiting" ∷
    codes "4 tally 0000000000000000000000000000000000000000000000000000000000000002#7 ParameterChange committee 0/0 need never drep 0/100 need 7/50 pool 0/0 need none waiting" ∷
    codes "4 tally 0000000000000000000000000000000000000000000000000000000000000002#8 ParameterChange committee 0/0 need never drep 0/100 need 8/50 pool 0/0 need none waiting" ∷
    codes "4 tally 0000000000000000000000000000000000000000000000000000000000000002#9 ParameterChange committee 0/0 need never drep 0/100 need 9/50 pool 0/0 need none waiting" ∷
    codes "4 tally 0000000000000000000000000000000000000000000000000000000000000002#10 ParameterChange committee 0/0 need never drep 0/100 need 6/50 pool 0/0 need 15/60 waiting" ∷
    codes "4 tally 0000000000000000000000000000000000000000000000000000000000000002#11 ParameterChange committee 0/0 need never drep 0/100 need 8/50 pool 0/0 need none waiting" ∷
    codes "4 tally 0000000000000000000000000000000000000000000000000000000000000002#4 TreasuryWithdrawals committee 0/0 need never drep 0/100 need 10/50 pool 0/0 need none waiting" ∷
    codes "4 tally 0000000000000000000000000000000000000000000000000000000000000002#5 Info committee 0/0 need never drep 0/100 need never pool 0/0 need never waiting" ∷
    codes "4 pots outputs 200 deposits 141 rewards 100 fees 80 donations 0 treasury 100 reserves 379 supply 1000" ∷
    codes "4 block slot 20 epoch 2 counted 1 of 3" ∷
    []) ≡ true
unfolding digits encode_with
needs_without_a_committee = refl

abbrev groups_of_the_parameters_network_input : List (ℕ × Reading)
groups_of_the_parameters_network_input =
    (1, Read (records.Genesis (record { network = 1; slot = 0; epoch_length = 10; version = (10, 0); supply = 1000; reserves = 698; treasury = 100; params = (record base_params { pool_voting_thresholds = ((share 11 60) ∷ (share 12 60) ∷ (share 13 60) ∷ (share 14 60) ∷ (share 15 60) ∷ []); drep_voting_thresholds = ((share 1 50) ∷ (share 2 50) ∷ (share 3 50) ∷ (share 4 50) ∷ (share 5 50) ∷ (share 6 50) ∷ (share 7 50) ∷ (share 8 50) ∷ (share 9 50) ∷ (share 10 50) ∷ []) }); document = (h32 0x01); script = None; committee = (Some (record { threshold = (share 0 1); members = (((key 0x70), 100, (Some (key 0x71))) ∷ []) })); outputs = (((ref 0x01 2), (address_with 1 (key 0x01) None), 200, []) ∷ []); accounts = (((key 0x12), 2, 0, None, None) ∷ []); pools = []; dreps = [] }))) ∷
    (2, Read (records.Tx (record (spend 0x02 100) { proposals = ((proposing 10 (account_on 1 (key 0x12)) (actions.ParameterChange None (record no_update { max_block_body_size = (Some 7) }) None)) ∷ (proposing 10 (account_on 1 (key 0x12)) (actions.ParameterChange None (record no_update { max_tx_size = (Some 7) }) None)) ∷ (proposing 10 (account_on 1 (key 0x12)) (actions.ParameterChange None (record no_update { max_block_header_size = (Some 7) }) None)) ∷ (proposing 10 (account_on 1 (key 0x12)) (actions.ParameterChange None (record no_update { max_value_size = (Some 7) }) None)) ∷ (proposing 10 (account_on 1 (key 0x12)) (actions.ParameterChange None (record no_update { max_tx_ex_units = (Some (7, 8)) }) None)) ∷ (proposing 10 (account_on 1 (key 0x12)) (actions.ParameterChange None (record no_update { max_block_ex_units = (Some (9, 7)) }) None)) ∷ (proposing 10 (account_on 1 (key 0x12)) (actions.ParameterChange None (record no_update { max_collateral_inputs = (Some 7) }) None)) ∷ (proposing 10 (account_on 1 (key 0x12)) (actions.ParameterChange None (record no_update { min_fee_a = (Some 7) }) None)) ∷ (proposing 10 (account_on 1 (key 0x12)) (actions.ParameterChange None (record no_update { min_fee_b = (Some 7) }) None)) ∷ (proposing 10 (account_on 1 (key 0x12)) (actions.ParameterChange None (record no_update { key_deposit = (Some 7) }) None)) ∷ []) }))) ∷
    (3, Read (records.Block 10 1)) ∷
    (4, Read (records.Block 20 1)) ∷
    []

pub groups_of_the_parameters_network : says_all groups_of_the_parameters_network_input (
    codes "1 genesis outputs 200 deposits 2 rewards 0 fees 0 donations 0 treasury 100 reserves 698 supply 1000" ∷
    codes "2 accepted" ∷
    codes "3 epoch 1 frozen 1 dormant 0" ∷
    codes "3 pots outputs 0 deposits 102 rewards 0 fees 100 donations 0 treasury 100 reserves 698 supply 1000" ∷
    codes "3 block slot 10 epoch 1 counted 1 of 1" ∷
    codes "4 epoch 2 frozen 1 dormant 0" ∷
    codes "4 tally 0000000000000000000000000000000000000000000000000000000000000002#0 ParameterChange committee 0/1 need 0/1 drep 0/0 need 6/50 pool 0/0 need 15/60 waiting" ∷
    codes "4 tally 0000000000000000000000000000000000000000000000000000000000000002#1 ParameterChange committee 0/1 need 0/1 drep 0/0 need 6/50 pool 0/0 need 15/60 waiting" ∷
    codes "4 tally 0000000000000000000000000000000000000000000000000000000000000002#2 ParameterChange committee 0/1 need 0/1 drep 0/0 need 6/50 pool 0/0 need 15/60 waiting" ∷
    codes "4 tally 0000000000000000000000000000000000000000000000000000000000000002#3 ParameterChange committee 0/1 need 0/1 drep 0/0 need 6/50 pool 0/0 need 15/60 waiting" ∷
    codes "4 tally 0000000000000000000000000000000000000000000000000000000000000002#4 ParameterChange committee 0/1 need 0/1 drep 0/0 need 6/50 pool 0/0 need none waiting" ∷
    codes "4 tally 0000000000000000000000000000000000000000000000000000000000000002#5 ParameterChange committee 0/1 need 0/1 drep 0/0 need 6/50 pool 0/0 need 15/60 waiting" ∷
    codes "4 tally 0000000000000000000000000000000000000000000000000000000000000002#6 ParameterChange committee 0/1 need 0/1 drep 0/0 need 6/50 pool 0/0 need none waiting" ∷
    codes "4 tally 0000000000000000000000000000000000000000000000000000000000000002#7 ParameterChange committee 0/1 need 0/1 drep 0/0 need 7/50 pool 0/0 need 15/60 waiting" ∷
    codes "4 tally 0000000000000000000000000000000000000000000000000000000000000002#8 ParameterChange committee 0/1 need 0/1 drep 0/0 need 7/50 pool 0/0 need 15/60 waiting" ∷
    codes "4 tally 0000000000000000000000000000000000000000000000000000000000000002#9 ParameterChange committee 0/1 need 0/1 drep 0/0 need 7/50 pool 0/0 need none waiting" ∷
    codes "4 pots outputs 0 deposits 102 rewards 0 fees 100 donations 0 treasury 100 reserves 698 supply 1000" ∷
    codes "4 block slot 20 epoch 2 counted 1 of 1" ∷
    []) ≡ true
unfolding digits encode_with
groups_of_the_parameters_network = refl

abbrev groups_of_the_parameters_economic_input : List (ℕ × Reading)
groups_of_the_parameters_economic_input =
    (1, Read (records.Genesis (record { network = 1; slot = 0; epoch_length = 10; version = (10, 0); supply = 1000; reserves = 698; treasury = 100; params = (record base_params { pool_voting_thresholds = ((share 11 60) ∷ (share 12 60) ∷ (share 13 60) ∷ (share 14 60) ∷ (share 15 60) ∷ []); drep_voting_thresholds = ((share 1 50) ∷ (share 2 50) ∷ (share 3 50) ∷ (share 4 50) ∷ (share 5 50) ∷ (share 6 50) ∷ (share 7 50) ∷ (share 8 50) ∷ (share 9 50) ∷ (share 10 50) ∷ []) }); document = (h32 0x01); script = None; committee = (Some (record { threshold = (share 0 1); members = (((key 0x70), 100, (Some (key 0x71))) ∷ []) })); outputs = (((ref 0x01 2), (address_with 1 (key 0x01) None), 200, []) ∷ []); accounts = (((key 0x12), 2, 0, None, None) ∷ []); pools = []; dreps = [] }))) ∷
    (2, Read (records.Tx (record (spend 0x02 100) { proposals = ((proposing 10 (account_on 1 (key 0x12)) (actions.ParameterChange None (record no_update { pool_deposit = (Some 7) }) None)) ∷ (proposing 10 (account_on 1 (key 0x12)) (actions.ParameterChange None (record no_update { rho = (Some (share 1 7)) }) None)) ∷ (proposing 10 (account_on 1 (key 0x12)) (actions.ParameterChange None (record no_update { tau = (Some (share 2 7)) }) None)) ∷ (proposing 10 (account_on 1 (key 0x12)) (actions.ParameterChange None (record no_update { min_pool_cost = (Some 7) }) None)) ∷ (proposing 10 (account_on 1 (key 0x12)) (actions.ParameterChange None (record no_update { coins_per_utxo_byte = (Some 7) }) None)) ∷ (proposing 10 (account_on 1 (key 0x12)) (actions.ParameterChange None (record no_update { prices = (Some ((share 1 7), (share 2 9))) }) None)) ∷ (proposing 10 (account_on 1 (key 0x12)) (actions.ParameterChange None (record no_update { min_fee_ref_script_cost_per_byte = (Some (share 3 7)) }) None)) ∷ (proposing 10 (account_on 1 (key 0x12)) (actions.ParameterChange None (record no_update { a0 = (Some (share 4 7)) }) None)) ∷ (proposing 10 (account_on 1 (key 0x12)) (actions.ParameterChange None (record no_update { e_max = (Some 7) }) None)) ∷ (proposing 10 (account_on 1 (key 0x12)) (actions.ParameterChange None (record no_update { n_opt = (Some 7) }) None)) ∷ []) }))) ∷
    (3, Read (records.Block 10 1)) ∷
    (4, Read (records.Block 20 1)) ∷
    []

pub groups_of_the_parameters_economic : says_all groups_of_the_parameters_economic_input (
    codes "1 genesis outputs 200 deposits 2 rewards 0 fees 0 donations 0 treasury 100 reserves 698 supply 1000" ∷
    codes "2 accepted" ∷
    codes "3 epoch 1 frozen 1 dormant 0" ∷
    codes "3 pots outputs 0 deposits 102 rewards 0 fees 100 donations 0 treasury 100 reserves 698 supply 1000" ∷
    codes "3 block slot 10 epoch 1 counted 1 of 1" ∷
    codes "4 epoch 2 frozen 1 dormant 0" ∷
    codes "4 tally 0000000000000000000000000000000000000000000000000000000000000002#0 ParameterChange committee 0/1 need 0/1 drep 0/0 need 7/50 pool 0/0 need none waiting" ∷
    codes "4 tally 0000000000000000000000000000000000000000000000000000000000000002#1 ParameterChange committee 0/1 need 0/1 drep 0/0 need 7/50 pool 0/0 need none waiting" ∷
    codes "4 tally 0000000000000000000000000000000000000000000000000000000000000002#2 ParameterChange committee 0/1 need 0/1 drep 0/0 need 7/50 pool 0/0 need none waiting" ∷
    codes "4 tally 0000000000000000000000000000000000000000000000000000000000000002#3 ParameterChange committee 0/1 need 0/1 drep 0/0 need 7/50 pool 0/0 need none waiting" ∷
    codes "4 tally 0000000000000000000000000000000000000000000000000000000000000002#4 ParameterChange committee 0/1 need 0/1 drep 0/0 need 7/50 pool 0/0 need 15/60 waiting" ∷
    codes "4 tally 0000000000000000000000000000000000000000000000000000000000000002#5 ParameterChange committee 0/1 need 0/1 drep 0/0 need 7/50 pool 0/0 need none waiting" ∷
    codes "4 tally 0000000000000000000000000000000000000000000000000000000000000002#6 ParameterChange committee 0/1 need 0/1 drep 0/0 need 7/50 pool 0/0 need 15/60 waiting" ∷
    codes "4 tally 0000000000000000000000000000000000000000000000000000000000000002#7 ParameterChange committee 0/1 need 0/1 drep 0/0 need 8/50 pool 0/0 need none waiting" ∷
    codes "4 tally 0000000000000000000000000000000000000000000000000000000000000002#8 ParameterChange committee 0/1 need 0/1 drep 0/0 need 8/50 pool 0/0 need none waiting" ∷
    codes "4 tally 0000000000000000000000000000000000000000000000000000000000000002#9 ParameterChange committee 0/1 need 0/1 drep 0/0 need 8/50 pool 0/0 need none waiting" ∷
    codes "4 pots outputs 0 deposits 102 rewards 0 fees 100 donations 0 treasury 100 reserves 698 supply 1000" ∷
    codes "4 block slot 20 epoch 2 counted 1 of 1" ∷
    []) ≡ true
unfolding digits encode_with
groups_of_the_parameters_economic = refl

abbrev groups_of_the_parameters_governance_input : List (ℕ × Reading)
groups_of_the_parameters_governance_input =
    (1, Read (records.Genesis (record { network = 1; slot = 0; epoch_length = 10; version = (10, 0); supply = 1000; reserves = 698; treasury = 100; params = (record base_params { pool_voting_thresholds = ((share 11 60) ∷ (share 12 60) ∷ (share 13 60) ∷ (share 14 60) ∷ (share 15 60) ∷ []); drep_voting_thresholds = ((share 1 50) ∷ (share 2 50) ∷ (share 3 50) ∷ (share 4 50) ∷ (share 5 50) ∷ (share 6 50) ∷ (share 7 50) ∷ (share 8 50) ∷ (share 9 50) ∷ (share 10 50) ∷ []) }); document = (h32 0x01); script = None; committee = (Some (record { threshold = (share 0 1); members = (((key 0x70), 100, (Some (key 0x71))) ∷ []) })); outputs = (((ref 0x01 2), (address_with 1 (key 0x01) None), 200, []) ∷ []); accounts = (((key 0x12), 2, 0, None, None) ∷ []); pools = []; dreps = [] }))) ∷
    (2, Read (records.Tx (record (spend 0x02 100) { proposals = ((proposing 10 (account_on 1 (key 0x12)) (actions.ParameterChange None (record no_update { cost_models = (Some (0xab ∷ 0xab ∷ 0xab ∷ 0xab ∷ 0xab ∷ 0xab ∷ 0xab ∷ 0xab ∷ 0xab ∷ 0xab ∷ 0xab ∷ 0xab ∷ 0xab ∷ 0xab ∷ 0xab ∷ 0xab ∷ 0xab ∷ 0xab ∷ 0xab ∷ 0xab ∷ 0xab ∷ 0xab ∷ 0xab ∷ 0xab ∷ 0xab ∷ 0xab ∷ 0xab ∷ 0xab ∷ 0xab ∷ 0xab ∷ 0xab ∷ 0xab ∷ [])) }) None)) ∷ (proposing 10 (account_on 1 (key 0x12)) (actions.ParameterChange None (record no_update { collateral_percentage = (Some 7) }) None)) ∷ (proposing 10 (account_on 1 (key 0x12)) (actions.ParameterChange None (record no_update { pool_voting_thresholds = (Some ((share 1 7) ∷ (share 2 7) ∷ (share 3 7) ∷ (share 4 7) ∷ (share 5 7) ∷ [])) }) None)) ∷ (proposing 10 (account_on 1 (key 0x12)) (actions.ParameterChange None (record no_update { drep_voting_thresholds = (Some ((share 1 11) ∷ (share 2 11) ∷ (share 3 11) ∷ (share 4 11) ∷ (share 5 11) ∷ (share 6 11) ∷ (share 7 11) ∷ (share 8 11) ∷ (share 9 11) ∷ (share 10 11) ∷ [])) }) None)) ∷ (proposing 10 (account_on 1 (key 0x12)) (actions.ParameterChange None (record no_update { gov_action_lifetime = (Some 7) }) None)) ∷ (proposing 10 (account_on 1 (key 0x12)) (actions.ParameterChange None (record no_update { gov_action_deposit = (Some 7) }) None)) ∷ (proposing 10 (account_on 1 (key 0x12)) (actions.ParameterChange None (record no_update { drep_deposit = (Some 7) }) None)) ∷ (proposing 10 (account_on 1 (key 0x12)) (actions.ParameterChange None (record no_update { drep_activity = (Some 7) }) None)) ∷ (proposing 10 (account_on 1 (key 0x12)) (actions.ParameterChange None (record no_update { committee_min_size = (Some 7) }) None)) ∷ (proposing 10 (account_on 1 (key 0x12)) (actions.ParameterChange None (record no_update { committee_max_term_length = (Some 7) }) None)) ∷ []) }))) ∷
    (3, Read (records.Block 10 1)) ∷
    (4, Read (records.Block 20 1)) ∷
    []

pub groups_of_the_parameters_governance : says_all groups_of_the_parameters_governance_input (
    codes "1 genesis outputs 200 deposits 2 rewards 0 fees 0 donations 0 treasury 100 reserves 698 supply 1000" ∷
    codes "2 accepted" ∷
    codes "3 epoch 1 frozen 1 dormant 0" ∷
    codes "3 pots outputs 0 deposits 102 rewards 0 fees 100 donations 0 treasury 100 reserves 698 supply 1000" ∷
    codes "3 block slot 10 epoch 1 counted 1 of 1" ∷
    codes "4 epoch 2 frozen 1 dormant 0" ∷
    codes "4 tally 0000000000000000000000000000000000000000000000000000000000000002#0 ParameterChange committee 0/1 need 0/1 drep 0/0 need 8/50 pool 0/0 need none waiting" ∷
    codes "4 tally 0000000000000000000000000000000000000000000000000000000000000002#1 ParameterChange committee 0/1 need 0/1 drep 0/0 need 8/50 pool 0/0 need none waiting" ∷
    codes "4 tally 0000000000000000000000000000000000000000000000000000000000000002#2 ParameterChange committee 0/1 need 0/1 drep 0/0 need 9/50 pool 0/0 need none waiting" ∷
    codes "4 tally 0000000000000000000000000000000000000000000000000000000000000002#3 ParameterChange committee 0/1 need 0/1 drep 0/0 need 9/50 pool 0/0 need none waiting" ∷
    codes "4 tally 0000000000000000000000000000000000000000000000000000000000000002#4 ParameterChange committee 0/1 need 0/1 drep 0/0 need 9/50 pool 0/0 need none waiting" ∷
    codes "4 tally 0000000000000000000000000000000000000000000000000000000000000002#5 ParameterChange committee 0/1 need 0/1 drep 0/0 need 9/50 pool 0/0 need 15/60 waiting" ∷
    codes "4 tally 0000000000000000000000000000000000000000000000000000000000000002#6 ParameterChange committee 0/1 need 0/1 drep 0/0 need 9/50 pool 0/0 need none waiting" ∷
    codes "4 tally 0000000000000000000000000000000000000000000000000000000000000002#7 ParameterChange committee 0/1 need 0/1 drep 0/0 need 9/50 pool 0/0 need none waiting" ∷
    codes "4 tally 0000000000000000000000000000000000000000000000000000000000000002#8 ParameterChange committee 0/1 need 0/1 drep 0/0 need 9/50 pool 0/0 need none waiting" ∷
    codes "4 tally 0000000000000000000000000000000000000000000000000000000000000002#9 ParameterChange committee 0/1 need 0/1 drep 0/0 need 9/50 pool 0/0 need none waiting" ∷
    codes "4 pots outputs 0 deposits 102 rewards 0 fees 100 donations 0 treasury 100 reserves 698 supply 1000" ∷
    codes "4 block slot 20 epoch 2 counted 1 of 1" ∷
    []) ≡ true
unfolding digits encode_with
groups_of_the_parameters_governance = refl

abbrev silent_pools_on_a_hard_fork_input : List (ℕ × Reading)
silent_pools_on_a_hard_fork_input =
    (1, Read (records.Genesis (record { network = 1; slot = 0; epoch_length = 10; version = (10, 0); supply = 1000; reserves = 545; treasury = 100; params = base_params; document = (h32 0x01); script = None; committee = (Some (record { threshold = (share 0 1); members = (((key 0x70), 100, (Some (key 0x71))) ∷ []) })); outputs = (((ref 0x01 2), (address_with 1 (key 0x01) None), 80, []) ∷ ((ref 0x01 3), (address_with 1 (key 0x01) None), 80, []) ∷ ((ref 0x01 4), (address_with 1 (key 0x01) None), 80, []) ∷ []); accounts = (((key 0x10), 2, 1, (Some (pool 0x50)), (Some drep.Abstain)) ∷ ((key 0x11), 2, 2, (Some (pool 0x51)), (Some drep.NoConfidence)) ∷ ((key 0x12), 2, 4, (Some (pool 0x52)), (Some (drep.Registered (key 0x30)))) ∷ ((key 0x13), 2, 8, (Some (pool 0x53)), None) ∷ ((key 0x14), 2, 16, (Some (pool 0x54)), (Some drep.Abstain)) ∷ ((key 0x15), 2, 32, (Some (pool 0x55)), None) ∷ []); pools = ((record { pool = (pool 0x50); deposit = 5; cost = 0; pledge = 0; margin = (share 0 1); account = (account_on 1 (key 0x10)); key = None }) ∷ (record { pool = (pool 0x51); deposit = 5; cost = 0; pledge = 0; margin = (share 0 1); account = (account_on 1 (key 0x11)); key = None }) ∷ (record { pool = (pool 0x52); deposit = 5; cost = 0; pledge = 0; margin = (share 0 1); account = (account_on 1 (key 0x12)); key = None }) ∷ (record { pool = (pool 0x53); deposit = 5; cost = 0; pledge = 0; margin = (share 0 1); account = (account_on 1 (key 0x13)); key = None }) ∷ (record { pool = (pool 0x54); deposit = 5; cost = 0; pledge = 0; margin = (share 0 1); account = (account_on 1 (key 0x20)); key = None }) ∷ (record { pool = (pool 0x55); deposit = 5; cost = 0; pledge = 0; margin = (share 0 1); account = (account_on 1 (key 0x14)); key = None }) ∷ []); dreps = (((key 0x30), 5, 20) ∷ ((key 0x31), 5, 20) ∷ []) }))) ∷
    (2, Read (records.Tx (record (spend 0x02 40) { proposals = ((proposing 10 (account_on 1 (key 0x10)) (actions.HardForkInitiation None (10, 1))) ∷ (proposing 10 (account_on 1 (key 0x11)) (actions.NoConfidence None)) ∷ (proposing 10 (account_on 1 (key 0x12)) (actions.UpdateCommittee None [] (((key 0x60), 50) ∷ []) (share 1 2))) ∷ (proposing 10 (account_on 1 (key 0x13)) (actions.Info)) ∷ []) }))) ∷
    (3, Read (records.Tx (record (spend 0x03 80) { votes = ((voting (voter.Pool (pool 0x54)) (action 0x02 0) vote.Yes) ∷ (voting (voter.Pool (pool 0x55)) (action 0x02 1) vote.No) ∷ (voting (voter.Pool (pool 0x55)) (action 0x02 2) vote.Abstain) ∷ (voting (voter.Pool (pool 0x53)) (action 0x02 2) vote.Yes) ∷ []) }))) ∷
    (4, Read (records.Block 10 1)) ∷
    (5, Read (records.Block 20 1)) ∷
    (6, Read (records.Print what.State)) ∷
    []

pub silent_pools_on_a_hard_fork : says_all silent_pools_on_a_hard_fork_input (
    codes "1 genesis outputs 240 deposits 52 rewards 63 fees 0 donations 0 treasury 100 reserves 545 supply 1000" ∷
    codes "2 accepted" ∷
    codes "3 accepted" ∷
    codes "4 epoch 1 frozen 6 dormant 0" ∷
    codes "4 stake k00000000000000000000000000000000000000000000000000000030 4" ∷
    codes "4 stake abstain 17" ∷
    codes "4 stake no-confidence 2" ∷
    codes "4 pots outputs 80 deposits 92 rewards 63 fees 120 donations 0 treasury 100 reserves 545 supply 1000" ∷
    codes "4 block slot 10 epoch 1 counted 1 of 6" ∷
    codes "5 epoch 2 frozen 6 dormant 0" ∷
    codes "5 stake k00000000000000000000000000000000000000000000000000000030 14" ∷
    codes "5 stake abstain 27" ∷
    codes "5 stake no-confidence 12" ∷
    codes "5 tally 0000000000000000000000000000000000000000000000000000000000000002#1 NoConfidence committee 0/1 need none drep 12/26 need 67/100 pool 12/92 need 0/1 waiting" ∷
    codes "5 tally 0000000000000000000000000000000000000000000000000000000000000002#2 UpdateCommittee committee 0/1 need none drep 0/26 need 67/100 pool 18/60 need 0/1 waiting" ∷
    codes "5 tally 0000000000000000000000000000000000000000000000000000000000000002#0 HardForkInitiation committee 0/1 need 0/1 drep 0/26 need 67/100 pool 16/103 need 0/1 waiting" ∷
    codes "5 tally 0000000000000000000000000000000000000000000000000000000000000002#3 Info committee 0/1 need never drep 0/26 need never pool 0/60 need never waiting" ∷
    codes "5 pots outputs 80 deposits 92 rewards 63 fees 120 donations 0 treasury 100 reserves 545 supply 1000" ∷
    codes "5 block slot 20 epoch 2 counted 1 of 6" ∷
    codes "6 now slot 20 epoch 2 version 10.0 dormant 0" ∷
    codes "6 constitution 0000000000000000000000000000000000000000000000000000000000000001 none" ∷
    codes "6 committee threshold 0/1" ∷
    codes "6 member k00000000000000000000000000000000000000000000000000000070 term 100 hot k00000000000000000000000000000000000000000000000000000071" ∷
    codes "6 enacted committee none constitution none hardfork none parameters none" ∷
    codes "6 param maxBlockBodySize 90112" ∷
    codes "6 param maxTxSize 16384" ∷
    codes "6 param maxBlockHeaderSize 1100" ∷
    codes "6 param maxValueSize 5000" ∷
    codes "6 param maxTxExUnits 1000 1000" ∷
    codes "6 param maxBlockExUnits 1000 1000" ∷
    codes "6 param maxCollateralInputs 3" ∷
    codes "6 param minFeeA 0" ∷
    codes "6 param minFeeB 0" ∷
    codes "6 param keyDeposit 2" ∷
    codes "6 param poolDeposit 5" ∷
    codes "6 param rho 0/1" ∷
    codes "6 param tau 0/1" ∷
    codes "6 param minPoolCost 0" ∷
    codes "6 param coinsPerUTxOByte 0" ∷
    codes "6 param prices 0/1 0/1" ∷
    codes "6 param minFeeRefScriptCostPerByte 15/1" ∷
    codes "6 param a0 0/1" ∷
    codes "6 param eMax 18" ∷
    codes "6 param nOpt 500" ∷
    codes "6 param costModels 0000000000000000000000000000000000000000000000000000000000000000" ∷
    codes "6 param collateralPercentage 150" ∷
    codes "6 param poolVotingThresholds 0/1 0/1 0/1 0/1 0/1" ∷
    codes "6 param drepVotingThresholds 67/100 67/100 67/100 67/100 67/100 67/100 67/100 67/100 67/100 67/100" ∷
    codes "6 param govActionLifetime 2" ∷
    codes "6 param govActionDeposit 10" ∷
    codes "6 param drepDeposit 5" ∷
    codes "6 param drepActivity 20" ∷
    codes "6 param committeeMinSize 0" ∷
    codes "6 param committeeMaxTermLength 100" ∷
    codes "6 drep k00000000000000000000000000000000000000000000000000000030 deposit 5 expiry 20" ∷
    codes "6 drep k00000000000000000000000000000000000000000000000000000031 deposit 5 expiry 20" ∷
    codes "6 pool 00000000000000000000000000000000000000000000000000000050 deposit 5 cost 0 pledge 0 margin 0/1 account 1k00000000000000000000000000000000000000000000000000000010 retires never" ∷
    codes "6 pool 00000000000000000000000000000000000000000000000000000051 deposit 5 cost 0 pledge 0 margin 0/1 account 1k00000000000000000000000000000000000000000000000000000011 retires never" ∷
    codes "6 pool 00000000000000000000000000000000000000000000000000000052 deposit 5 cost 0 pledge 0 margin 0/1 account 1k00000000000000000000000000000000000000000000000000000012 retires never" ∷
    codes "6 pool 00000000000000000000000000000000000000000000000000000053 deposit 5 cost 0 pledge 0 margin 0/1 account 1k00000000000000000000000000000000000000000000000000000013 retires never" ∷
    codes "6 pool 00000000000000000000000000000000000000000000000000000054 deposit 5 cost 0 pledge 0 margin 0/1 account 1k00000000000000000000000000000000000000000000000000000020 retires never" ∷
    codes "6 pool 00000000000000000000000000000000000000000000000000000055 deposit 5 cost 0 pledge 0 margin 0/1 account 1k00000000000000000000000000000000000000000000000000000014 retires never" ∷
    codes "6 account k00000000000000000000000000000000000000000000000000000010 stake 0 deposit 2 rewards 1 pool 00000000000000000000000000000000000000000000000000000050 drep abstain" ∷
    codes "6 account k00000000000000000000000000000000000000000000000000000011 stake 0 deposit 2 rewards 2 pool 00000000000000000000000000000000000000000000000000000051 drep no-confidence" ∷
    codes "6 account k00000000000000000000000000000000000000000000000000000012 stake 0 deposit 2 rewards 4 pool 00000000000000000000000000000000000000000000000000000052 drep k00000000000000000000000000000000000000000000000000000030" ∷
    codes "6 account k00000000000000000000000000000000000000000000000000000013 stake 0 deposit 2 rewards 8 pool 00000000000000000000000000000000000000000000000000000053 drep none" ∷
    codes "6 account k00000000000000000000000000000000000000000000000000000014 stake 0 deposit 2 rewards 16 pool 00000000000000000000000000000000000000000000000000000054 drep abstain" ∷
    codes "6 account k00000000000000000000000000000000000000000000000000000015 stake 0 deposit 2 rewards 32 pool 00000000000000000000000000000000000000000000000000000055 drep none" ∷
    codes "6 output 0000000000000000000000000000000000000000000000000000000000000001#4 1k00000000000000000000000000000000000000000000000000000001 80" ∷
    codes "6 proposal 0000000000000000000000000000000000000000000000000000000000000002#0 HardForkInitiation deposit 10 return 1k00000000000000000000000000000000000000000000000000000010 expires 2 previous none" ∷
    codes "6 vote 0000000000000000000000000000000000000000000000000000000000000002#0 pool:00000000000000000000000000000000000000000000000000000054 yes" ∷
    codes "6 proposal 0000000000000000000000000000000000000000000000000000000000000002#1 NoConfidence deposit 10 return 1k00000000000000000000000000000000000000000000000000000011 expires 2 previous none" ∷
    codes "6 vote 0000000000000000000000000000000000000000000000000000000000000002#1 pool:00000000000000000000000000000000000000000000000000000055 no" ∷
    codes "6 proposal 0000000000000000000000000000000000000000000000000000000000000002#2 UpdateCommittee deposit 10 return 1k00000000000000000000000000000000000000000000000000000012 expires 2 previous none" ∷
    codes "6 vote 0000000000000000000000000000000000000000000000000000000000000002#2 pool:00000000000000000000000000000000000000000000000000000053 yes" ∷
    codes "6 vote 0000000000000000000000000000000000000000000000000000000000000002#2 pool:00000000000000000000000000000000000000000000000000000055 abstain" ∷
    codes "6 proposal 0000000000000000000000000000000000000000000000000000000000000002#3 Info deposit 10 return 1k00000000000000000000000000000000000000000000000000000013 expires 2 previous none" ∷
    codes "6 snapshot mark 00000000000000000000000000000000000000000000000000000050 1" ∷
    codes "6 snapshot mark 00000000000000000000000000000000000000000000000000000051 2" ∷
    codes "6 snapshot mark 00000000000000000000000000000000000000000000000000000052 4" ∷
    codes "6 snapshot mark 00000000000000000000000000000000000000000000000000000053 8" ∷
    codes "6 snapshot mark 00000000000000000000000000000000000000000000000000000054 16" ∷
    codes "6 snapshot mark 00000000000000000000000000000000000000000000000000000055 32" ∷
    codes "6 snapshot set 00000000000000000000000000000000000000000000000000000050 1" ∷
    codes "6 snapshot set 00000000000000000000000000000000000000000000000000000051 2" ∷
    codes "6 snapshot set 00000000000000000000000000000000000000000000000000000052 4" ∷
    codes "6 snapshot set 00000000000000000000000000000000000000000000000000000053 8" ∷
    codes "6 snapshot set 00000000000000000000000000000000000000000000000000000054 16" ∷
    codes "6 snapshot set 00000000000000000000000000000000000000000000000000000055 32" ∷
    codes "6 snapshot go 00000000000000000000000000000000000000000000000000000050 1" ∷
    codes "6 snapshot go 00000000000000000000000000000000000000000000000000000051 2" ∷
    codes "6 snapshot go 00000000000000000000000000000000000000000000000000000052 4" ∷
    codes "6 snapshot go 00000000000000000000000000000000000000000000000000000053 8" ∷
    codes "6 snapshot go 00000000000000000000000000000000000000000000000000000054 16" ∷
    codes "6 snapshot go 00000000000000000000000000000000000000000000000000000055 32" ∷
    codes "6 snapshot fees 120" ∷
    codes "6 pending none" ∷
    codes "6 pots outputs 80 deposits 92 rewards 63 fees 120 donations 0 treasury 100 reserves 545 supply 1000" ∷
    []) ≡ true
unfolding digits encode_with
silent_pools_on_a_hard_fork = refl

abbrev votes_of_pools_input : List (ℕ × Reading)
votes_of_pools_input =
    (1, Read (records.Genesis (record { network = 1; slot = 0; epoch_length = 10; version = (10, 0); supply = 1000; reserves = 545; treasury = 100; params = (record base_params { gov_action_lifetime = 5 }); document = (h32 0x01); script = None; committee = (Some (record { threshold = (share 0 1); members = (((key 0x70), 100, (Some (key 0x71))) ∷ []) })); outputs = (((ref 0x01 2), (address_with 1 (key 0x01) None), 60, []) ∷ ((ref 0x01 3), (address_with 1 (key 0x01) None), 60, []) ∷ ((ref 0x01 4), (address_with 1 (key 0x01) None), 60, []) ∷ ((ref 0x01 5), (address_with 1 (key 0x01) None), 60, []) ∷ []); accounts = (((key 0x10), 2, 1, (Some (pool 0x50)), (Some drep.Abstain)) ∷ ((key 0x11), 2, 2, (Some (pool 0x51)), (Some drep.NoConfidence)) ∷ ((key 0x12), 2, 4, (Some (pool 0x52)), (Some (drep.Registered (key 0x30)))) ∷ ((key 0x13), 2, 8, (Some (pool 0x53)), None) ∷ ((key 0x14), 2, 16, (Some (pool 0x54)), (Some drep.Abstain)) ∷ ((key 0x15), 2, 32, (Some (pool 0x55)), None) ∷ []); pools = ((record { pool = (pool 0x50); deposit = 5; cost = 0; pledge = 0; margin = (share 0 1); account = (account_on 1 (key 0x10)); key = None }) ∷ (record { pool = (pool 0x51); deposit = 5; cost = 0; pledge = 0; margin = (share 0 1); account = (account_on 1 (key 0x11)); key = None }) ∷ (record { pool = (pool 0x52); deposit = 5; cost = 0; pledge = 0; margin = (share 0 1); account = (account_on 1 (key 0x12)); key = None }) ∷ (record { pool = (pool 0x53); deposit = 5; cost = 0; pledge = 0; margin = (share 0 1); account = (account_on 1 (key 0x13)); key = None }) ∷ (record { pool = (pool 0x54); deposit = 5; cost = 0; pledge = 0; margin = (share 0 1); account = (account_on 1 (key 0x20)); key = None }) ∷ (record { pool = (pool 0x55); deposit = 5; cost = 0; pledge = 0; margin = (share 0 1); account = (account_on 1 (key 0x14)); key = None }) ∷ []); dreps = (((key 0x30), 5, 20) ∷ ((key 0x31), 5, 20) ∷ []) }))) ∷
    (2, Read (records.Tx (record (spend 0x02 40) { proposals = ((proposing 10 (account_on 1 (key 0x12)) (actions.ParameterChange None (record no_update { max_tx_size = (Some 9) }) None)) ∷ (proposing 10 (account_on 1 (key 0x12)) (actions.NoConfidence None)) ∷ []) }))) ∷
    (3, Read (records.Tx (record (spend 0x03 60) { certs = ((certs.PoolRetire (pool 0x55) 1) ∷ []); votes = ((voting (voter.Pool (pool 0x50)) (action 0x02 0) vote.No) ∷ (voting (voter.Pool (pool 0x51)) (action 0x02 0) vote.Yes) ∷ (voting (voter.Pool (pool 0x52)) (action 0x02 0) vote.Abstain) ∷ (voting (voter.Pool (pool 0x55)) (action 0x02 0) vote.Yes) ∷ []) }))) ∷
    (4, Read (records.Block 10 1)) ∷
    (5, Read (records.Block 20 1)) ∷
    (6, Read (records.Block 30 1)) ∷
    []

pub votes_of_pools : says_all votes_of_pools_input (
    codes "1 genesis outputs 240 deposits 52 rewards 63 fees 0 donations 0 treasury 100 reserves 545 supply 1000" ∷
    codes "2 accepted" ∷
    codes "3 accepted" ∷
    codes "4 epoch 1 frozen 6 dormant 0" ∷
    codes "4 stake k00000000000000000000000000000000000000000000000000000030 4" ∷
    codes "4 stake abstain 17" ∷
    codes "4 stake no-confidence 2" ∷
    codes "4 retired 00000000000000000000000000000000000000000000000000000055 refund 5 1k00000000000000000000000000000000000000000000000000000014" ∷
    codes "4 pots outputs 120 deposits 67 rewards 68 fees 100 donations 0 treasury 100 reserves 545 supply 1000" ∷
    codes "4 block slot 10 epoch 1 counted 1 of 6" ∷
    codes "5 epoch 2 frozen 6 dormant 0" ∷
    codes "5 stake k00000000000000000000000000000000000000000000000000000030 24" ∷
    codes "5 stake abstain 22" ∷
    codes "5 stake no-confidence 2" ∷
    codes "5 tally 0000000000000000000000000000000000000000000000000000000000000002#1 NoConfidence committee 0/1 need none drep 2/26 need 67/100 pool 2/82 need 0/1 waiting" ∷
    codes "5 tally 0000000000000000000000000000000000000000000000000000000000000002#0 ParameterChange committee 0/1 need 0/1 drep 0/26 need 67/100 pool 34/59 need 0/1 waiting" ∷
    codes "5 pots outputs 120 deposits 67 rewards 68 fees 100 donations 0 treasury 100 reserves 545 supply 1000" ∷
    codes "5 block slot 20 epoch 2 counted 1 of 6" ∷
    codes "6 epoch 3 frozen 6 dormant 0" ∷
    codes "6 stake k00000000000000000000000000000000000000000000000000000030 24" ∷
    codes "6 stake abstain 22" ∷
    codes "6 stake no-confidence 2" ∷
    codes "6 tally 0000000000000000000000000000000000000000000000000000000000000002#1 NoConfidence committee 0/1 need none drep 2/26 need 67/100 pool 2/55 need 0/1 waiting" ∷
    codes "6 tally 0000000000000000000000000000000000000000000000000000000000000002#0 ParameterChange committee 0/1 need 0/1 drep 0/26 need 67/100 pool 2/32 need 0/1 waiting" ∷
    codes "6 pots outputs 120 deposits 67 rewards 68 fees 100 donations 0 treasury 100 reserves 545 supply 1000" ∷
    codes "6 block slot 30 epoch 3 counted 1 of 6" ∷
    []) ≡ true
unfolding digits encode_with
votes_of_pools = refl

abbrev needs_by_what_was_enacted_before_input : List (ℕ × Reading)
needs_by_what_was_enacted_before_input =
    (1, Read (records.Genesis (record { network = 1; slot = 0; epoch_length = 10; version = (10, 0); supply = 1000; reserves = 459; treasury = 100; params = (record base_params { drep_voting_thresholds = ((share 0 1) ∷ (share 0 1) ∷ (share 0 1) ∷ (share 0 1) ∷ (share 0 1) ∷ (share 0 1) ∷ (share 0 1) ∷ (share 0 1) ∷ (share 0 1) ∷ (share 1 1) ∷ []); gov_action_lifetime = 9 }); document = (h32 0x01); script = None; committee = (Some (record { threshold = (share 0 1); members = (((key 0x70), 100, (Some (key 0x71))) ∷ []) })); outputs = (((ref 0x01 2), (address_with 1 (key 0x01) None), 80, []) ∷ ((ref 0x01 3), (address_with 1 (key 0x01) None), 80, []) ∷ ((ref 0x01 4), (address_with 1 (key 0x01) None), 80, []) ∷ ((ref 0x01 5), (address_with 1 (key 0x01) None), 80, []) ∷ []); accounts = (((key 0x10), 2, 67, None, (Some (drep.Registered (key 0x30)))) ∷ ((key 0x11), 2, 33, None, (Some (drep.Registered (key 0x31)))) ∷ ((key 0x12), 2, 0, None, None) ∷ []); pools = ((record { pool = (pool 0x50); deposit = 5; cost = 0; pledge = 0; margin = (share 0 1); account = (account_on 1 (key 0x12)); key = None }) ∷ []); dreps = (((key 0x30), 5, 20) ∷ ((key 0x31), 5, 20) ∷ []) }))) ∷
    (2, Read (records.Tx (record (spend 0x02 60) { proposals = ((proposing 10 (account_on 1 (key 0x12)) (actions.TreasuryWithdrawals (((account_on 1 (key 0x12)), 7) ∷ []) None)) ∷ (proposing 10 (account_on 1 (key 0x12)) (actions.ParameterChange None (record no_update { drep_voting_thresholds = (Some ((share 1 1) ∷ (share 1 1) ∷ (share 1 1) ∷ (share 1 1) ∷ (share 1 1) ∷ (share 1 1) ∷ (share 1 1) ∷ (share 1 1) ∷ (share 1 1) ∷ (share 1 3) ∷ [])); drep_activity = (Some 5); committee_min_size = (Some 0) }) None)) ∷ []) }))) ∷
    (3, Read (records.Tx (record (spend 0x03 80) { votes = ((voting (voter.Drep (key 0x31)) (action 0x02 0) vote.Yes) ∷ []) }))) ∷
    (4, Read (records.Block 10 1)) ∷
    (5, Read (records.Block 20 1)) ∷
    (6, Read (records.Print what.State)) ∷
    []

pub needs_by_what_was_enacted_before : says_all needs_by_what_was_enacted_before_input (
    codes "1 genesis outputs 320 deposits 21 rewards 100 fees 0 donations 0 treasury 100 reserves 459 supply 1000" ∷
    codes "2 accepted" ∷
    codes "3 accepted" ∷
    codes "4 epoch 1 frozen 3 dormant 0" ∷
    codes "4 stake k00000000000000000000000000000000000000000000000000000030 67" ∷
    codes "4 stake k00000000000000000000000000000000000000000000000000000031 33" ∷
    codes "4 pots outputs 160 deposits 41 rewards 100 fees 140 donations 0 treasury 100 reserves 459 supply 1000" ∷
    codes "4 block slot 10 epoch 1 counted 1 of 3" ∷
    codes "5 epoch 2 frozen 3 dormant 0" ∷
    codes "5 stake k00000000000000000000000000000000000000000000000000000030 67" ∷
    codes "5 stake k00000000000000000000000000000000000000000000000000000031 33" ∷
    codes "5 tally 0000000000000000000000000000000000000000000000000000000000000002#1 ParameterChange committee 0/1 need 0/1 drep 0/100 need 0/1 pool 0/0 need none ratified" ∷
    codes "5 tally 0000000000000000000000000000000000000000000000000000000000000002#0 TreasuryWithdrawals committee 0/1 need 0/1 drep 33/100 need 1/3 pool 0/0 need none waiting" ∷
    codes "5 removed 0000000000000000000000000000000000000000000000000000000000000002#1 enacted refund 10 1k00000000000000000000000000000000000000000000000000000012" ∷
    codes "5 pots outputs 160 deposits 31 rewards 110 fees 140 donations 0 treasury 100 reserves 459 supply 1000" ∷
    codes "5 block slot 20 epoch 2 counted 1 of 3" ∷
    codes "6 now slot 20 epoch 2 version 10.0 dormant 0" ∷
    codes "6 constitution 0000000000000000000000000000000000000000000000000000000000000001 none" ∷
    codes "6 committee threshold 0/1" ∷
    codes "6 member k00000000000000000000000000000000000000000000000000000070 term 100 hot k00000000000000000000000000000000000000000000000000000071" ∷
    codes "6 enacted committee none constitution none hardfork none parameters 0000000000000000000000000000000000000000000000000000000000000002#1" ∷
    codes "6 param maxBlockBodySize 90112" ∷
    codes "6 param maxTxSize 16384" ∷
    codes "6 param maxBlockHeaderSize 1100" ∷
    codes "6 param maxValueSize 5000" ∷
    codes "6 param maxTxExUnits 1000 1000" ∷
    codes "6 param maxBlockExUnits 1000 1000" ∷
    codes "6 param maxCollateralInputs 3" ∷
    codes "6 param minFeeA 0" ∷
    codes "6 param minFeeB 0" ∷
    codes "6 param keyDeposit 2" ∷
    codes "6 param poolDeposit 5" ∷
    codes "6 param rho 0/1" ∷
    codes "6 param tau 0/1" ∷
    codes "6 param minPoolCost 0" ∷
    codes "6 param coinsPerUTxOByte 0" ∷
    codes "6 param prices 0/1 0/1" ∷
    codes "6 param minFeeRefScriptCostPerByte 15/1" ∷
    codes "6 param a0 0/1" ∷
    codes "6 param eMax 18" ∷
    codes "6 param nOpt 500" ∷
    codes "6 param costModels 0000000000000000000000000000000000000000000000000000000000000000" ∷
    codes "6 param collateralPercentage 150" ∷
    codes "6 param poolVotingThresholds 0/1 0/1 0/1 0/1 0/1" ∷
    codes "6 param drepVotingThresholds 1/1 1/1 1/1 1/1 1/1 1/1 1/1 1/1 1/1 1/3" ∷
    codes "6 param govActionLifetime 9" ∷
    codes "6 param govActionDeposit 10" ∷
    codes "6 param drepDeposit 5" ∷
    codes "6 param drepActivity 5" ∷
    codes "6 param committeeMinSize 0" ∷
    codes "6 param committeeMaxTermLength 100" ∷
    codes "6 drep k00000000000000000000000000000000000000000000000000000030 deposit 5 expiry 20" ∷
    codes "6 drep k00000000000000000000000000000000000000000000000000000031 deposit 5 expiry 20" ∷
    codes "6 pool 00000000000000000000000000000000000000000000000000000050 deposit 5 cost 0 pledge 0 margin 0/1 account 1k00000000000000000000000000000000000000000000000000000012 retires never" ∷
    codes "6 account k00000000000000000000000000000000000000000000000000000010 stake 0 deposit 2 rewards 67 pool none drep k00000000000000000000000000000000000000000000000000000030" ∷
    codes "6 account k00000000000000000000000000000000000000000000000000000011 stake 0 deposit 2 rewards 33 pool none drep k00000000000000000000000000000000000000000000000000000031" ∷
    codes "6 account k00000000000000000000000000000000000000000000000000000012 stake 0 deposit 2 rewards 10 pool none drep none" ∷
    codes "6 output 0000000000000000000000000000000000000000000000000000000000000001#4 1k00000000000000000000000000000000000000000000000000000001 80" ∷
    codes "6 output 0000000000000000000000000000000000000000000000000000000000000001#5 1k00000000000000000000000000000000000000000000000000000001 80" ∷
    codes "6 proposal 0000000000000000000000000000000000000000000000000000000000000002#0 TreasuryWithdrawals deposit 10 return 1k00000000000000000000000000000000000000000000000000000012 expires 9 previous none" ∷
    codes "6 vote 0000000000000000000000000000000000000000000000000000000000000002#0 drep:k00000000000000000000000000000000000000000000000000000031 yes" ∷
    codes "6 snapshot mark 00000000000000000000000000000000000000000000000000000050 0" ∷
    codes "6 snapshot set 00000000000000000000000000000000000000000000000000000050 0" ∷
    codes "6 snapshot go 00000000000000000000000000000000000000000000000000000050 0" ∷
    codes "6 snapshot fees 140" ∷
    codes "6 pending none" ∷
    codes "6 pots outputs 160 deposits 31 rewards 110 fees 140 donations 0 treasury 100 reserves 459 supply 1000" ∷
    []) ≡ true
unfolding digits encode_with
needs_by_what_was_enacted_before = refl

abbrev thresholds_met_exactly_input : List (ℕ × Reading)
thresholds_met_exactly_input =
    (1, Read (records.Genesis (record { network = 1; slot = 0; epoch_length = 10; version = (10, 0); supply = 1000; reserves = 619; treasury = 100; params = (record base_params { drep_voting_thresholds = ((share 67 100) ∷ (share 1 2) ∷ (share 1 2) ∷ (share 33 100) ∷ (share 34 100) ∷ (share 1 2) ∷ (share 2 4) ∷ (share 3 6) ∷ (share 1 3) ∷ (share 67 100) ∷ []) }); document = (h32 0x01); script = None; committee = (Some (record { threshold = (share 0 1); members = (((key 0x70), 100, (Some (key 0x71))) ∷ []) })); outputs = (((ref 0x01 2), (address_with 1 (key 0x01) None), 40, []) ∷ ((ref 0x01 3), (address_with 1 (key 0x01) None), 40, []) ∷ ((ref 0x01 4), (address_with 1 (key 0x01) None), 40, []) ∷ ((ref 0x01 5), (address_with 1 (key 0x01) None), 40, []) ∷ []); accounts = (((key 0x10), 2, 67, None, (Some (drep.Registered (key 0x30)))) ∷ ((key 0x11), 2, 33, None, (Some (drep.Registered (key 0x31)))) ∷ ((key 0x12), 2, 0, None, None) ∷ []); pools = ((record { pool = (pool 0x50); deposit = 5; cost = 0; pledge = 0; margin = (share 0 1); account = (account_on 1 (key 0x12)); key = None }) ∷ []); dreps = (((key 0x30), 5, 20) ∷ ((key 0x31), 5, 20) ∷ []) }))) ∷
    (2, Read (records.Tx (record (spend 0x02 20) { proposals = ((proposing 10 (account_on 1 (key 0x12)) (actions.ParameterChange None (record no_update { max_tx_ex_units = (Some (1, 1)); key_deposit = (Some 1); a0 = (Some (share 1 2)) }) None)) ∷ (proposing 10 (account_on 1 (key 0x12)) (actions.ParameterChange None (record no_update { key_deposit = (Some 1); a0 = (Some (share 1 2)); drep_activity = (Some 3) }) None)) ∷ []) }))) ∷
    (3, Read (records.Tx (record (spend 0x03 10) { proposals = ((proposing 10 (account_on 1 (key 0x12)) (actions.NewConstitution None (h32 0x02) None)) ∷ (proposing 10 (account_on 1 (key 0x12)) (actions.HardForkInitiation None (10, 1))) ∷ (proposing 10 (account_on 1 (key 0x12)) (actions.Info)) ∷ []) }))) ∷
    (4, Read (records.Tx (record (spend 0x04 40) { votes = ((voting (voter.Drep (key 0x31)) (action 0x03 0) vote.Yes) ∷ (voting (voter.Drep (key 0x31)) (action 0x03 1) vote.Yes) ∷ (voting (voter.Drep (key 0x30)) (action 0x02 0) vote.Yes) ∷ []) }))) ∷
    (5, Read (records.Block 10 1)) ∷
    (6, Read (records.Block 20 1)) ∷
    (7, Read (records.Print what.State)) ∷
    []

pub thresholds_met_exactly : says_all thresholds_met_exactly_input (
    codes "1 genesis outputs 160 deposits 21 rewards 100 fees 0 donations 0 treasury 100 reserves 619 supply 1000" ∷
    codes "2 accepted" ∷
    codes "3 accepted" ∷
    codes "4 accepted" ∷
    codes "5 epoch 1 frozen 3 dormant 0" ∷
    codes "5 stake k00000000000000000000000000000000000000000000000000000030 67" ∷
    codes "5 stake k00000000000000000000000000000000000000000000000000000031 33" ∷
    codes "5 pots outputs 40 deposits 71 rewards 100 fees 70 donations 0 treasury 100 reserves 619 supply 1000" ∷
    codes "5 block slot 10 epoch 1 counted 1 of 3" ∷
    codes "6 epoch 2 frozen 3 dormant 0" ∷
    codes "6 stake k00000000000000000000000000000000000000000000000000000030 67" ∷
    codes "6 stake k00000000000000000000000000000000000000000000000000000031 33" ∷
    codes "6 tally 0000000000000000000000000000000000000000000000000000000000000003#0 NewConstitution committee 0/1 need 0/1 drep 33/100 need 33/100 pool 0/0 need none ratified" ∷
    codes "6 tally 0000000000000000000000000000000000000000000000000000000000000003#1 HardForkInitiation committee 0/1 need 0/1 drep 33/100 need 34/100 pool 0/0 need 0/1 waiting" ∷
    codes "6 tally 0000000000000000000000000000000000000000000000000000000000000002#0 ParameterChange committee 0/1 need 0/1 drep 67/100 need 1/2 pool 0/0 need none waiting" ∷
    codes "6 tally 0000000000000000000000000000000000000000000000000000000000000002#1 ParameterChange committee 0/1 need 0/1 drep 0/100 need 2/4 pool 0/0 need none waiting" ∷
    codes "6 tally 0000000000000000000000000000000000000000000000000000000000000003#2 Info committee 0/1 need never drep 0/100 need never pool 0/0 need never waiting" ∷
    codes "6 removed 0000000000000000000000000000000000000000000000000000000000000003#0 enacted refund 10 1k00000000000000000000000000000000000000000000000000000012" ∷
    codes "6 pots outputs 40 deposits 61 rewards 110 fees 70 donations 0 treasury 100 reserves 619 supply 1000" ∷
    codes "6 block slot 20 epoch 2 counted 1 of 3" ∷
    codes "7 now slot 20 epoch 2 version 10.0 dormant 0" ∷
    codes "7 constitution 0000000000000000000000000000000000000000000000000000000000000002 none" ∷
    codes "7 committee threshold 0/1" ∷
    codes "7 member k00000000000000000000000000000000000000000000000000000070 term 100 hot k00000000000000000000000000000000000000000000000000000071" ∷
    codes "7 enacted committee none constitution 0000000000000000000000000000000000000000000000000000000000000003#0 hardfork none parameters none" ∷
    codes "7 param maxBlockBodySize 90112" ∷
    codes "7 param maxTxSize 16384" ∷
    codes "7 param maxBlockHeaderSize 1100" ∷
    codes "7 param maxValueSize 5000" ∷
    codes "7 param maxTxExUnits 1000 1000" ∷
    codes "7 param maxBlockExUnits 1000 1000" ∷
    codes "7 param maxCollateralInputs 3" ∷
    codes "7 param minFeeA 0" ∷
    codes "7 param minFeeB 0" ∷
    codes "7 param keyDeposit 2" ∷
    codes "7 param poolDeposit 5" ∷
    codes "7 param rho 0/1" ∷
    codes "7 param tau 0/1" ∷
    codes "7 param minPoolCost 0" ∷
    codes "7 param coinsPerUTxOByte 0" ∷
    codes "7 param prices 0/1 0/1" ∷
    codes "7 param minFeeRefScriptCostPerByte 15/1" ∷
    codes "7 param a0 0/1" ∷
    codes "7 param eMax 18" ∷
    codes "7 param nOpt 500" ∷
    codes "7 param costModels 0000000000000000000000000000000000000000000000000000000000000000" ∷
    codes "7 param collateralPercentage 150" ∷
    codes "7 param poolVotingThresholds 0/1 0/1 0/1 0/1 0/1" ∷
    codes "7 param drepVotingThresholds 67/100 1/2 1/2 33/100 34/100 1/2 2/4 3/6 1/3 67/100" ∷
    codes "7 param govActionLifetime 2" ∷
    codes "7 param govActionDeposit 10" ∷
    codes "7 param drepDeposit 5" ∷
    codes "7 param drepActivity 20" ∷
    codes "7 param committeeMinSize 0" ∷
    codes "7 param committeeMaxTermLength 100" ∷
    codes "7 drep k00000000000000000000000000000000000000000000000000000030 deposit 5 expiry 20" ∷
    codes "7 drep k00000000000000000000000000000000000000000000000000000031 deposit 5 expiry 20" ∷
    codes "7 pool 00000000000000000000000000000000000000000000000000000050 deposit 5 cost 0 pledge 0 margin 0/1 account 1k00000000000000000000000000000000000000000000000000000012 retires never" ∷
    codes "7 account k00000000000000000000000000000000000000000000000000000010 stake 0 deposit 2 rewards 67 pool none drep k00000000000000000000000000000000000000000000000000000030" ∷
    codes "7 account k00000000000000000000000000000000000000000000000000000011 stake 0 deposit 2 rewards 33 pool none drep k00000000000000000000000000000000000000000000000000000031" ∷
    codes "7 account k00000000000000000000000000000000000000000000000000000012 stake 0 deposit 2 rewards 10 pool none drep none" ∷
    codes "7 output 0000000000000000000000000000000000000000000000000000000000000001#5 1k00000000000000000000000000000000000000000000000000000001 40" ∷
    codes "7 proposal 0000000000000000000000000000000000000000000000000000000000000002#0 ParameterChange deposit 10 return 1k00000000000000000000000000000000000000000000000000000012 expires 2 previous none" ∷
    codes "7 vote 0000000000000000000000000000000000000000000000000000000000000002#0 drep:k00000000000000000000000000000000000000000000000000000030 yes" ∷
    codes "7 proposal 0000000000000000000000000000000000000000000000000000000000000002#1 ParameterChange deposit 10 return 1k00000000000000000000000000000000000000000000000000000012 expires 2 previous none" ∷
    codes "7 proposal 0000000000000000000000000000000000000000000000000000000000000003#1 HardForkInitiation deposit 10 return 1k00000000000000000000000000000000000000000000000000000012 expires 2 previous none" ∷
    codes "7 vote 0000000000000000000000000000000000000000000000000000000000000003#1 drep:k00000000000000000000000000000000000000000000000000000031 yes" ∷
    codes "7 proposal 0000000000000000000000000000000000000000000000000000000000000003#2 Info deposit 10 return 1k00000000000000000000000000000000000000000000000000000012 expires 2 previous none" ∷
    codes "7 snapshot mark 00000000000000000000000000000000000000000000000000000050 0" ∷
    codes "7 snapshot set 00000000000000000000000000000000000000000000000000000050 0" ∷
    codes "7 snapshot go 00000000000000000000000000000000000000000000000000000050 0" ∷
    codes "7 snapshot fees 70" ∷
    codes "7 pending none" ∷
    codes "7 pots outputs 40 deposits 61 rewards 110 fees 70 donations 0 treasury 100 reserves 619 supply 1000" ∷
    []) ≡ true
unfolding digits encode_with
thresholds_met_exactly = refl
