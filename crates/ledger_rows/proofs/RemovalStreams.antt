-- Worked rows of whole streams: what is paid and what is removed. Made by tests/made/rows_of, from the streams of these names in tests/streams/whole.
use Rattle.std.specs.Prelude.{ℕ, ◌≡◌, List, [], ◌∷◌, Some, None, true, codes, refl}
use Rattle.std.specs.Fmt.{digits}
use Rattle.hex.specs.Hex.{encode_with}
use Rattle.gov_actions.specs.declared.action.Action.TheVariants as actions
use Rattle.gov_actions.specs.declared.action.Vote.TheVariants as vote
use Rattle.gov_ids.specs.declared.Drep.TheVariants as drep
use Rattle.gov_ids.specs.declared.Voter.TheVariants as voter
use Rattle.tx_records.specs.declared.record.Record.TheVariants as records
use Rattle.tx_records.specs.declared.record.What.TheVariants as what
use Rattle.tx_records.specs.declared.cert.Cert.TheVariants as certs
use Rattle.tx_records.specs.declared.record.Reading.{Reading}
use Rattle.tx_records.specs.declared.record.Reading.TheVariants.{Read}
use Rattle.ledger_rows.proofs.Base.{h28, h32, key, pool, account_on, address_with, ref, action, share, base_params, no_update, spend, proposing, voting, says_all}

abbrev constitution_and_its_script_input : List (ℕ × Reading)
constitution_and_its_script_input =
    (1, Read (records.Genesis (record { network = 1; slot = 0; epoch_length = 10; version = (10, 0); supply = 1000; reserves = 419; treasury = 100; params = (record base_params { drep_voting_thresholds = ((share 0 1) ∷ (share 0 1) ∷ (share 0 1) ∷ (share 0 1) ∷ (share 0 1) ∷ (share 0 1) ∷ (share 0 1) ∷ (share 0 1) ∷ (share 0 1) ∷ (share 0 1) ∷ []) }); document = (h32 0x01); script = (Some (h28 0x98)); committee = (Some (record { threshold = (share 0 1); members = (((key 0x70), 100, (Some (key 0x71))) ∷ []) })); outputs = (((ref 0x01 2), (address_with 1 (key 0x01) None), 40, []) ∷ ((ref 0x01 3), (address_with 1 (key 0x01) None), 40, []) ∷ ((ref 0x01 4), (address_with 1 (key 0x01) None), 40, []) ∷ ((ref 0x01 5), (address_with 1 (key 0x01) None), 40, []) ∷ ((ref 0x01 6), (address_with 1 (key 0x01) None), 40, []) ∷ ((ref 0x01 7), (address_with 1 (key 0x01) None), 40, []) ∷ ((ref 0x01 8), (address_with 1 (key 0x01) None), 40, []) ∷ ((ref 0x01 9), (address_with 1 (key 0x01) None), 40, []) ∷ ((ref 0x01 10), (address_with 1 (key 0x01) None), 40, []) ∷ []); accounts = (((key 0x10), 2, 67, None, (Some (drep.Registered (key 0x30)))) ∷ ((key 0x11), 2, 33, None, (Some (drep.Registered (key 0x31)))) ∷ ((key 0x12), 2, 0, None, None) ∷ []); pools = ((record { pool = (pool 0x50); deposit = 5; cost = 0; pledge = 0; margin = (share 0 1); account = (account_on 1 (key 0x12)); key = None }) ∷ []); dreps = (((key 0x30), 5, 20) ∷ ((key 0x31), 5, 20) ∷ []) }))) ∷
    (2, Read (records.Tx (record (spend 0x02 0) { proposals = ((proposing 10 (account_on 1 (key 0x12)) (actions.TreasuryWithdrawals (((account_on 1 (key 0x12)), 1) ∷ []) None)) ∷ []) }))) ∷
    (3, Read (records.Tx (record (spend 0x02 0) { proposals = ((proposing 10 (account_on 1 (key 0x12)) (actions.ParameterChange None (record no_update { n_opt = (Some 1) }) (Some (h28 0x97)))) ∷ []) }))) ∷
    (4, Read (records.Tx (record (spend 0x02 30) { proposals = ((proposing 10 (account_on 1 (key 0x12)) (actions.NewConstitution None (h32 0x02) (Some (h28 0x99)))) ∷ []) }))) ∷
    (5, Read (records.Tx (record (spend 0x03 20) { proposals = ((proposing 10 (account_on 1 (key 0x12)) (actions.TreasuryWithdrawals (((account_on 1 (key 0x12)), 1) ∷ []) (Some (h28 0x98)))) ∷ (proposing 10 (account_on 1 (key 0x12)) (actions.ParameterChange None (record no_update { n_opt = (Some 1) }) (Some (h28 0x98)))) ∷ []) }))) ∷
    (6, Read (records.Block 10 1)) ∷
    (7, Read (records.Block 20 1)) ∷
    (8, Read (records.Print what.State)) ∷
    (9, Read (records.Tx (record (spend 0x04 0) { proposals = ((proposing 10 (account_on 1 (key 0x12)) (actions.TreasuryWithdrawals (((account_on 1 (key 0x12)), 1) ∷ []) (Some (h28 0x98)))) ∷ []) }))) ∷
    (10, Read (records.Tx (record (spend 0x04 30) { proposals = ((proposing 10 (account_on 1 (key 0x12)) (actions.TreasuryWithdrawals (((account_on 1 (key 0x12)), 1) ∷ []) (Some (h28 0x99)))) ∷ []) }))) ∷
    (11, Read (records.Tx (record (spend 0x05 0) { proposals = ((proposing 10 (account_on 1 (key 0x12)) (actions.ParameterChange None (record no_update { n_opt = (Some 1) }) (Some (h28 0x98)))) ∷ []) }))) ∷
    (12, Read (records.Tx (record (spend 0x05 30) { proposals = ((proposing 10 (account_on 1 (key 0x12)) (actions.ParameterChange None (record no_update { n_opt = (Some 1) }) (Some (h28 0x99)))) ∷ []) }))) ∷
    (13, Read (records.Tx (record (spend 0x06 30) { proposals = ((proposing 10 (account_on 1 (key 0x12)) (actions.NewConstitution (Some (action 0x02 0)) (h32 0x03) None)) ∷ []) }))) ∷
    (14, Read (records.Block 30 1)) ∷
    (15, Read (records.Block 40 1)) ∷
    (16, Read (records.Print what.State)) ∷
    []

pub constitution_and_its_script : says_all constitution_and_its_script_input (
    codes "1 genesis outputs 360 deposits 21 rewards 100 fees 0 donations 0 treasury 100 reserves 419 supply 1000" ∷
    codes "2 refused 84 PolicyWrong at 0" ∷
    codes "3 refused 84 PolicyWrong at 0" ∷
    codes "4 accepted" ∷
    codes "5 accepted" ∷
    codes "6 epoch 1 frozen 3 dormant 0" ∷
    codes "6 stake k00000000000000000000000000000000000000000000000000000030 67" ∷
    codes "6 stake k00000000000000000000000000000000000000000000000000000031 33" ∷
    codes "6 pots outputs 280 deposits 51 rewards 100 fees 50 donations 0 treasury 100 reserves 419 supply 1000" ∷
    codes "6 block slot 10 epoch 1 counted 1 of 3" ∷
    codes "7 epoch 2 frozen 3 dormant 0" ∷
    codes "7 stake k00000000000000000000000000000000000000000000000000000030 67" ∷
    codes "7 stake k00000000000000000000000000000000000000000000000000000031 33" ∷
    codes "7 tally 0000000000000000000000000000000000000000000000000000000000000002#0 NewConstitution committee 0/1 need 0/1 drep 0/100 need 0/1 pool 0/0 need none ratified" ∷
    codes "7 tally 0000000000000000000000000000000000000000000000000000000000000003#1 ParameterChange committee 0/1 need 0/1 drep 0/100 need 0/1 pool 0/0 need none waiting" ∷
    codes "7 tally 0000000000000000000000000000000000000000000000000000000000000003#0 TreasuryWithdrawals committee 0/1 need 0/1 drep 0/100 need 0/1 pool 0/0 need none waiting" ∷
    codes "7 removed 0000000000000000000000000000000000000000000000000000000000000002#0 enacted refund 10 1k00000000000000000000000000000000000000000000000000000012" ∷
    codes "7 pots outputs 280 deposits 41 rewards 110 fees 50 donations 0 treasury 100 reserves 419 supply 1000" ∷
    codes "7 block slot 20 epoch 2 counted 1 of 3" ∷
    codes "8 now slot 20 epoch 2 version 10.0 dormant 0" ∷
    codes "8 constitution 0000000000000000000000000000000000000000000000000000000000000002 00000000000000000000000000000000000000000000000000000099" ∷
    codes "8 committee threshold 0/1" ∷
    codes "8 member k00000000000000000000000000000000000000000000000000000070 term 100 hot k00000000000000000000000000000000000000000000000000000071" ∷
    codes "8 enacted committee none constitution 0000000000000000000000000000000000000000000000000000000000000002#0 hardfork none parameters none" ∷
    codes "8 param maxBlockBodySize 90112" ∷
    codes "8 param maxTxSize 16384" ∷
    codes "8 param maxBlockHeaderSize 1100" ∷
    codes "8 param maxValueSize 5000" ∷
    codes "8 param maxTxExUnits 1000 1000" ∷
    codes "8 param maxBlockExUnits 1000 1000" ∷
    codes "8 param maxCollateralInputs 3" ∷
    codes "8 param minFeeA 0" ∷
    codes "8 param minFeeB 0" ∷
    codes "8 param keyDeposit 2" ∷
    codes "8 param poolDeposit 5" ∷
    codes "8 param rho 0/1" ∷
    codes "8 param tau 0/1" ∷
    codes "8 param minPoolCost 0" ∷
    codes "8 param coinsPerUTxOByte 0" ∷
    codes "8 param prices 0/1 0/1" ∷
    codes "8 param minFeeRefScriptCostPerByte 15/1" ∷
    codes "8 param a0 0/1" ∷
    codes "8 param eMax 18" ∷
    codes "8 param nOpt 500" ∷
    codes "8 param costModels 0000000000000000000000000000000000000000000000000000000000000000" ∷
    codes "8 param collateralPercentage 150" ∷
    codes "8 param poolVotingThresholds 0/1 0/1 0/1 0/1 0/1" ∷
    codes "8 param drepVotingThresholds 0/1 0/1 0/1 0/1 0/1 0/1 0/1 0/1 0/1 0/1" ∷
    codes "8 param govActionLifetime 2" ∷
    codes "8 param govActionDeposit 10" ∷
    codes "8 param drepDeposit 5" ∷
    codes "8 param drepActivity 20" ∷
    codes "8 param committeeMinSize 0" ∷
    codes "8 param committeeMaxTermLength 100" ∷
    codes "8 drep k00000000000000000000000000000000000000000000000000000030 deposit 5 expiry 20" ∷
    codes "8 drep k00000000000000000000000000000000000000000000000000000031 deposit 5 expiry 20" ∷
    codes "8 pool 00000000000000000000000000000000000000000000000000000050 deposit 5 cost 0 pledge 0 margin 0/1 account 1k00000000000000000000000000000000000000000000000000000012 retires never" ∷
    codes "8 account k00000000000000000000000000000000000000000000000000000010 stake 0 deposit 2 rewards 67 pool none drep k00000000000000000000000000000000000000000000000000000030" ∷
    codes "8 account k00000000000000000000000000000000000000000000000000000011 stake 0 deposit 2 rewards 33 pool none drep k00000000000000000000000000000000000000000000000000000031" ∷
    codes "8 account k00000000000000000000000000000000000000000000000000000012 stake 0 deposit 2 rewards 10 pool none drep none" ∷
    codes "8 output 0000000000000000000000000000000000000000000000000000000000000001#4 1k00000000000000000000000000000000000000000000000000000001 40" ∷
    codes "8 output 0000000000000000000000000000000000000000000000000000000000000001#5 1k00000000000000000000000000000000000000000000000000000001 40" ∷
    codes "8 output 0000000000000000000000000000000000000000000000000000000000000001#6 1k00000000000000000000000000000000000000000000000000000001 40" ∷
    codes "8 output 0000000000000000000000000000000000000000000000000000000000000001#7 1k00000000000000000000000000000000000000000000000000000001 40" ∷
    codes "8 output 0000000000000000000000000000000000000000000000000000000000000001#8 1k00000000000000000000000000000000000000000000000000000001 40" ∷
    codes "8 output 0000000000000000000000000000000000000000000000000000000000000001#9 1k00000000000000000000000000000000000000000000000000000001 40" ∷
    codes "8 output 0000000000000000000000000000000000000000000000000000000000000001#10 1k00000000000000000000000000000000000000000000000000000001 40" ∷
    codes "8 proposal 0000000000000000000000000000000000000000000000000000000000000003#0 TreasuryWithdrawals deposit 10 return 1k00000000000000000000000000000000000000000000000000000012 expires 2 previous none" ∷
    codes "8 proposal 0000000000000000000000000000000000000000000000000000000000000003#1 ParameterChange deposit 10 return 1k00000000000000000000000000000000000000000000000000000012 expires 2 previous none" ∷
    codes "8 snapshot mark 00000000000000000000000000000000000000000000000000000050 0" ∷
    codes "8 snapshot set 00000000000000000000000000000000000000000000000000000050 0" ∷
    codes "8 snapshot go 00000000000000000000000000000000000000000000000000000050 0" ∷
    codes "8 snapshot fees 50" ∷
    codes "8 pending none" ∷
    codes "8 pots outputs 280 deposits 41 rewards 110 fees 50 donations 0 treasury 100 reserves 419 supply 1000" ∷
    codes "9 refused 84 PolicyWrong at 0" ∷
    codes "10 accepted" ∷
    codes "11 refused 84 PolicyWrong at 0" ∷
    codes "12 accepted" ∷
    codes "13 accepted" ∷
    codes "14 epoch 3 frozen 3 dormant 0" ∷
    codes "14 stake k00000000000000000000000000000000000000000000000000000030 67" ∷
    codes "14 stake k00000000000000000000000000000000000000000000000000000031 33" ∷
    codes "14 tally 0000000000000000000000000000000000000000000000000000000000000003#1 ParameterChange committee 0/1 need 0/1 drep 0/100 need 0/1 pool 0/0 need none ratified" ∷
    codes "14 tally 0000000000000000000000000000000000000000000000000000000000000003#0 TreasuryWithdrawals committee 0/1 need 0/1 drep 0/100 need 0/1 pool 0/0 need none ratified" ∷
    codes "14 paid 1k00000000000000000000000000000000000000000000000000000012 1" ∷
    codes "14 removed 0000000000000000000000000000000000000000000000000000000000000003#0 enacted refund 10 1k00000000000000000000000000000000000000000000000000000012" ∷
    codes "14 removed 0000000000000000000000000000000000000000000000000000000000000003#1 enacted refund 10 1k00000000000000000000000000000000000000000000000000000012" ∷
    codes "14 removed 0000000000000000000000000000000000000000000000000000000000000005#0 dropped refund 10 1k00000000000000000000000000000000000000000000000000000012" ∷
    codes "14 pots outputs 160 deposits 41 rewards 141 fees 140 donations 0 treasury 99 reserves 419 supply 1000" ∷
    codes "14 block slot 30 epoch 3 counted 1 of 3" ∷
    codes "15 epoch 4 frozen 3 dormant 0" ∷
    codes "15 stake k00000000000000000000000000000000000000000000000000000030 67" ∷
    codes "15 stake k00000000000000000000000000000000000000000000000000000031 33" ∷
    codes "15 tally 0000000000000000000000000000000000000000000000000000000000000006#0 NewConstitution committee 0/1 need 0/1 drep 0/100 need 0/1 pool 0/0 need none ratified" ∷
    codes "15 tally 0000000000000000000000000000000000000000000000000000000000000004#0 TreasuryWithdrawals committee 0/1 need 0/1 drep 0/100 need 0/1 pool 0/0 need none waiting" ∷
    codes "15 removed 0000000000000000000000000000000000000000000000000000000000000006#0 enacted refund 10 1k00000000000000000000000000000000000000000000000000000012" ∷
    codes "15 pots outputs 160 deposits 31 rewards 151 fees 140 donations 0 treasury 99 reserves 419 supply 1000" ∷
    codes "15 block slot 40 epoch 4 counted 1 of 3" ∷
    codes "16 now slot 40 epoch 4 version 10.0 dormant 0" ∷
    codes "16 constitution 0000000000000000000000000000000000000000000000000000000000000003 none" ∷
    codes "16 committee threshold 0/1" ∷
    codes "16 member k00000000000000000000000000000000000000000000000000000070 term 100 hot k00000000000000000000000000000000000000000000000000000071" ∷
    codes "16 enacted committee none constitution 0000000000000000000000000000000000000000000000000000000000000006#0 hardfork none parameters 0000000000000000000000000000000000000000000000000000000000000003#1" ∷
    codes "16 param maxBlockBodySize 90112" ∷
    codes "16 param maxTxSize 16384" ∷
    codes "16 param maxBlockHeaderSize 1100" ∷
    codes "16 param maxValueSize 5000" ∷
    codes "16 param maxTxExUnits 1000 1000" ∷
    codes "16 param maxBlockExUnits 1000 1000" ∷
    codes "16 param maxCollateralInputs 3" ∷
    codes "16 param minFeeA 0" ∷
    codes "16 param minFeeB 0" ∷
    codes "16 param keyDeposit 2" ∷
    codes "16 param poolDeposit 5" ∷
    codes "16 param rho 0/1" ∷
    codes "16 param tau 0/1" ∷
    codes "16 param minPoolCost 0" ∷
    codes "16 param coinsPerUTxOByte 0" ∷
    codes "16 param prices 0/1 0/1" ∷
    codes "16 param minFeeRefScriptCostPerByte 15/1" ∷
    codes "16 param a0 0/1" ∷
    codes "16 param eMax 18" ∷
    codes "16 param nOpt 1" ∷
    codes "16 param costModels 0000000000000000000000000000000000000000000000000000000000000000" ∷
    codes "16 param collateralPercentage 150" ∷
    codes "16 param poolVotingThresholds 0/1 0/1 0/1 0/1 0/1" ∷
    codes "16 param drepVotingThresholds 0/1 0/1 0/1 0/1 0/1 0/1 0/1 0/1 0/1 0/1" ∷
    codes "16 param govActionLifetime 2" ∷
    codes "16 param govActionDeposit 10" ∷
    codes "16 param drepDeposit 5" ∷
    codes "16 param drepActivity 20" ∷
    codes "16 param committeeMinSize 0" ∷
    codes "16 param committeeMaxTermLength 100" ∷
    codes "16 drep k00000000000000000000000000000000000000000000000000000030 deposit 5 expiry 20" ∷
    codes "16 drep k00000000000000000000000000000000000000000000000000000031 deposit 5 expiry 20" ∷
    codes "16 pool 00000000000000000000000000000000000000000000000000000050 deposit 5 cost 0 pledge 0 margin 0/1 account 1k00000000000000000000000000000000000000000000000000000012 retires never" ∷
    codes "16 account k00000000000000000000000000000000000000000000000000000010 stake 0 deposit 2 rewards 67 pool none drep k00000000000000000000000000000000000000000000000000000030" ∷
    codes "16 account k00000000000000000000000000000000000000000000000000000011 stake 0 deposit 2 rewards 33 pool none drep k00000000000000000000000000000000000000000000000000000031" ∷
    codes "16 account k00000000000000000000000000000000000000000000000000000012 stake 0 deposit 2 rewards 51 pool none drep none" ∷
    codes "16 output 0000000000000000000000000000000000000000000000000000000000000001#7 1k00000000000000000000000000000000000000000000000000000001 40" ∷
    codes "16 output 0000000000000000000000000000000000000000000000000000000000000001#8 1k00000000000000000000000000000000000000000000000000000001 40" ∷
    codes "16 output 0000000000000000000000000000000000000000000000000000000000000001#9 1k00000000000000000000000000000000000000000000000000000001 40" ∷
    codes "16 output 0000000000000000000000000000000000000000000000000000000000000001#10 1k00000000000000000000000000000000000000000000000000000001 40" ∷
    codes "16 proposal 0000000000000000000000000000000000000000000000000000000000000004#0 TreasuryWithdrawals deposit 10 return 1k00000000000000000000000000000000000000000000000000000012 expires 4 previous none" ∷
    codes "16 snapshot mark 00000000000000000000000000000000000000000000000000000050 0" ∷
    codes "16 snapshot set 00000000000000000000000000000000000000000000000000000050 0" ∷
    codes "16 snapshot go 00000000000000000000000000000000000000000000000000000050 0" ∷
    codes "16 snapshot fees 140" ∷
    codes "16 pending none" ∷
    codes "16 pots outputs 160 deposits 31 rewards 151 fees 140 donations 0 treasury 99 reserves 419 supply 1000" ∷
    []) ≡ true
unfolding digits encode_with
constitution_and_its_script = refl

abbrev treasury_shared_by_withdrawals_input : List (ℕ × Reading)
treasury_shared_by_withdrawals_input =
    (1, Read (records.Genesis (record { network = 1; slot = 0; epoch_length = 10; version = (10, 0); supply = 1000; reserves = 517; treasury = 100; params = (record base_params { drep_voting_thresholds = ((share 0 1) ∷ (share 0 1) ∷ (share 0 1) ∷ (share 0 1) ∷ (share 0 1) ∷ (share 0 1) ∷ (share 0 1) ∷ (share 0 1) ∷ (share 0 1) ∷ (share 0 1) ∷ []); gov_action_lifetime = 5 }); document = (h32 0x01); script = None; committee = (Some (record { threshold = (share 0 1); members = (((key 0x70), 100, (Some (key 0x71))) ∷ []) })); outputs = (((ref 0x01 2), (address_with 1 (key 0x01) None), 60, []) ∷ ((ref 0x01 3), (address_with 1 (key 0x01) None), 60, []) ∷ ((ref 0x01 4), (address_with 1 (key 0x01) None), 60, []) ∷ ((ref 0x01 5), (address_with 1 (key 0x01) None), 60, []) ∷ ((ref 0x01 6), (address_with 1 (key 0x01) None), 60, []) ∷ ((ref 0x01 7), (address_with 1 (key 0x01) None), 60, []) ∷ []); accounts = (((key 0x10), 2, 0, None, (Some drep.Abstain)) ∷ ((key 0x11), 2, 0, None, None) ∷ ((key 0x12), 2, 0, None, None) ∷ ((key 0x13), 2, 0, None, None) ∷ []); pools = ((record { pool = (pool 0x50); deposit = 5; cost = 0; pledge = 0; margin = (share 0 1); account = (account_on 1 (key 0x12)); key = None }) ∷ []); dreps = (((key 0x30), 5, 20) ∷ ((key 0x31), 5, 20) ∷ []) }))) ∷
    (2, Read (records.Tx (record (spend 0x02 30) { proposals = ((proposing 10 (account_on 1 (key 0x12)) (actions.TreasuryWithdrawals (((account_on 1 (key 0x10)), 30) ∷ ((account_on 1 (key 0x11)), 25) ∷ ((account_on 1 (key 0x13)), 0) ∷ []) None)) ∷ (proposing 10 (account_on 1 (key 0x12)) (actions.TreasuryWithdrawals (((account_on 1 (key 0x12)), 46) ∷ []) None)) ∷ (proposing 10 (account_on 1 (key 0x12)) (actions.TreasuryWithdrawals (((account_on 1 (key 0x12)), 45) ∷ []) None)) ∷ []) }))) ∷
    (3, Read (records.Tx (record (spend 0x03 62) { certs = ((certs.AccountUnreg (key 0x11) None) ∷ []) }))) ∷
    (4, Read (records.Block 10 1)) ∷
    (5, Read (records.Block 20 1)) ∷
    (6, Read (records.Print what.State)) ∷
    (7, Read (records.Block 30 1)) ∷
    (8, Read (records.Print what.State)) ∷
    []

pub treasury_shared_by_withdrawals : says_all treasury_shared_by_withdrawals_input (
    codes "1 genesis outputs 360 deposits 23 rewards 0 fees 0 donations 0 treasury 100 reserves 517 supply 1000" ∷
    codes "2 accepted" ∷
    codes "3 accepted" ∷
    codes "4 epoch 1 frozen 3 dormant 0" ∷
    codes "4 pots outputs 240 deposits 51 rewards 0 fees 92 donations 0 treasury 100 reserves 517 supply 1000" ∷
    codes "4 block slot 10 epoch 1 counted 1 of 3" ∷
    codes "5 epoch 2 frozen 3 dormant 0" ∷
    codes "5 tally 0000000000000000000000000000000000000000000000000000000000000002#0 TreasuryWithdrawals committee 0/1 need 0/1 drep 0/0 need 0/1 pool 0/0 need none ratified" ∷
    codes "5 tally 0000000000000000000000000000000000000000000000000000000000000002#1 TreasuryWithdrawals committee 0/1 need 0/1 drep 0/0 need 0/1 pool 0/0 need none waiting" ∷
    codes "5 tally 0000000000000000000000000000000000000000000000000000000000000002#2 TreasuryWithdrawals committee 0/1 need 0/1 drep 0/0 need 0/1 pool 0/0 need none ratified" ∷
    codes "5 paid 1k00000000000000000000000000000000000000000000000000000010 30" ∷
    codes "5 kept 1k00000000000000000000000000000000000000000000000000000011 25" ∷
    codes "5 paid 1k00000000000000000000000000000000000000000000000000000013 0" ∷
    codes "5 paid 1k00000000000000000000000000000000000000000000000000000012 45" ∷
    codes "5 removed 0000000000000000000000000000000000000000000000000000000000000002#0 enacted refund 10 1k00000000000000000000000000000000000000000000000000000012" ∷
    codes "5 removed 0000000000000000000000000000000000000000000000000000000000000002#2 enacted refund 10 1k00000000000000000000000000000000000000000000000000000012" ∷
    codes "5 pots outputs 240 deposits 31 rewards 95 fees 92 donations 0 treasury 25 reserves 517 supply 1000" ∷
    codes "5 block slot 20 epoch 2 counted 1 of 3" ∷
    codes "6 now slot 20 epoch 2 version 10.0 dormant 0" ∷
    codes "6 constitution 0000000000000000000000000000000000000000000000000000000000000001 none" ∷
    codes "6 committee threshold 0/1" ∷
    codes "6 member k00000000000000000000000000000000000000000000000000000070 term 100 hot k00000000000000000000000000000000000000000000000000000071" ∷
    codes "6 enacted committee none constitution none hardfork none parameters none" ∷
    codes "6 param maxBlockBodySize 90112" ∷
    codes "6 param maxTxSize 16384" ∷
    codes "6 param maxBlockHeaderSize 1100" ∷
    codes "6 param maxValueSize 5000" ∷
    codes "6 param maxTxExUnits 1000 1000" ∷
    codes "6 param maxBlockExUnits 1000 1000" ∷
    codes "6 param maxCollateralInputs 3" ∷
    codes "6 param minFeeA 0" ∷
    codes "6 param minFeeB 0" ∷
    codes "6 param keyDeposit 2" ∷
    codes "6 param poolDeposit 5" ∷
    codes "6 param rho 0/1" ∷
    codes "6 param tau 0/1" ∷
    codes "6 param minPoolCost 0" ∷
    codes "6 param coinsPerUTxOByte 0" ∷
    codes "6 param prices 0/1 0/1" ∷
    codes "6 param minFeeRefScriptCostPerByte 15/1" ∷
    codes "6 param a0 0/1" ∷
    codes "6 param eMax 18" ∷
    codes "6 param nOpt 500" ∷
    codes "6 param costModels 0000000000000000000000000000000000000000000000000000000000000000" ∷
    codes "6 param collateralPercentage 150" ∷
    codes "6 param poolVotingThresholds 0/1 0/1 0/1 0/1 0/1" ∷
    codes "6 param drepVotingThresholds 0/1 0/1 0/1 0/1 0/1 0/1 0/1 0/1 0/1 0/1" ∷
    codes "6 param govActionLifetime 5" ∷
    codes "6 param govActionDeposit 10" ∷
    codes "6 param drepDeposit 5" ∷
    codes "6 param drepActivity 20" ∷
    codes "6 param committeeMinSize 0" ∷
    codes "6 param committeeMaxTermLength 100" ∷
    codes "6 drep k00000000000000000000000000000000000000000000000000000030 deposit 5 expiry 20" ∷
    codes "6 drep k00000000000000000000000000000000000000000000000000000031 deposit 5 expiry 20" ∷
    codes "6 pool 00000000000000000000000000000000000000000000000000000050 deposit 5 cost 0 pledge 0 margin 0/1 account 1k00000000000000000000000000000000000000000000000000000012 retires never" ∷
    codes "6 account k00000000000000000000000000000000000000000000000000000010 stake 0 deposit 2 rewards 30 pool none drep abstain" ∷
    codes "6 account k00000000000000000000000000000000000000000000000000000012 stake 0 deposit 2 rewards 65 pool none drep none" ∷
    codes "6 account k00000000000000000000000000000000000000000000000000000013 stake 0 deposit 2 rewards 0 pool none drep none" ∷
    codes "6 output 0000000000000000000000000000000000000000000000000000000000000001#4 1k00000000000000000000000000000000000000000000000000000001 60" ∷
    codes "6 output 0000000000000000000000000000000000000000000000000000000000000001#5 1k00000000000000000000000000000000000000000000000000000001 60" ∷
    codes "6 output 0000000000000000000000000000000000000000000000000000000000000001#6 1k00000000000000000000000000000000000000000000000000000001 60" ∷
    codes "6 output 0000000000000000000000000000000000000000000000000000000000000001#7 1k00000000000000000000000000000000000000000000000000000001 60" ∷
    codes "6 proposal 0000000000000000000000000000000000000000000000000000000000000002#1 TreasuryWithdrawals deposit 10 return 1k00000000000000000000000000000000000000000000000000000012 expires 5 previous none" ∷
    codes "6 snapshot mark 00000000000000000000000000000000000000000000000000000050 0" ∷
    codes "6 snapshot set 00000000000000000000000000000000000000000000000000000050 0" ∷
    codes "6 snapshot go 00000000000000000000000000000000000000000000000000000050 0" ∷
    codes "6 snapshot fees 92" ∷
    codes "6 pending none" ∷
    codes "6 pots outputs 240 deposits 31 rewards 95 fees 92 donations 0 treasury 25 reserves 517 supply 1000" ∷
    codes "7 epoch 3 frozen 3 dormant 0" ∷
    codes "7 stake abstain 30" ∷
    codes "7 tally 0000000000000000000000000000000000000000000000000000000000000002#1 TreasuryWithdrawals committee 0/1 need 0/1 drep 0/0 need 0/1 pool 0/0 need none waiting" ∷
    codes "7 pots outputs 240 deposits 31 rewards 95 fees 92 donations 0 treasury 25 reserves 517 supply 1000" ∷
    codes "7 block slot 30 epoch 3 counted 1 of 3" ∷
    codes "8 now slot 30 epoch 3 version 10.0 dormant 0" ∷
    codes "8 constitution 0000000000000000000000000000000000000000000000000000000000000001 none" ∷
    codes "8 committee threshold 0/1" ∷
    codes "8 member k00000000000000000000000000000000000000000000000000000070 term 100 hot k00000000000000000000000000000000000000000000000000000071" ∷
    codes "8 enacted committee none constitution none hardfork none parameters none" ∷
    codes "8 param maxBlockBodySize 90112" ∷
    codes "8 param maxTxSize 16384" ∷
    codes "8 param maxBlockHeaderSize 1100" ∷
    codes "8 param maxValueSize 5000" ∷
    codes "8 param maxTxExUnits 1000 1000" ∷
    codes "8 param maxBlockExUnits 1000 1000" ∷
    codes "8 param maxCollateralInputs 3" ∷
    codes "8 param minFeeA 0" ∷
    codes "8 param minFeeB 0" ∷
    codes "8 param keyDeposit 2" ∷
    codes "8 param poolDeposit 5" ∷
    codes "8 param rho 0/1" ∷
    codes "8 param tau 0/1" ∷
    codes "8 param minPoolCost 0" ∷
    codes "8 param coinsPerUTxOByte 0" ∷
    codes "8 param prices 0/1 0/1" ∷
    codes "8 param minFeeRefScriptCostPerByte 15/1" ∷
    codes "8 param a0 0/1" ∷
    codes "8 param eMax 18" ∷
    codes "8 param nOpt 500" ∷
    codes "8 param costModels 0000000000000000000000000000000000000000000000000000000000000000" ∷
    codes "8 param collateralPercentage 150" ∷
    codes "8 param poolVotingThresholds 0/1 0/1 0/1 0/1 0/1" ∷
    codes "8 param drepVotingThresholds 0/1 0/1 0/1 0/1 0/1 0/1 0/1 0/1 0/1 0/1" ∷
    codes "8 param govActionLifetime 5" ∷
    codes "8 param govActionDeposit 10" ∷
    codes "8 param drepDeposit 5" ∷
    codes "8 param drepActivity 20" ∷
    codes "8 param committeeMinSize 0" ∷
    codes "8 param committeeMaxTermLength 100" ∷
    codes "8 drep k00000000000000000000000000000000000000000000000000000030 deposit 5 expiry 20" ∷
    codes "8 drep k00000000000000000000000000000000000000000000000000000031 deposit 5 expiry 20" ∷
    codes "8 pool 00000000000000000000000000000000000000000000000000000050 deposit 5 cost 0 pledge 0 margin 0/1 account 1k00000000000000000000000000000000000000000000000000000012 retires never" ∷
    codes "8 account k00000000000000000000000000000000000000000000000000000010 stake 0 deposit 2 rewards 30 pool none drep abstain" ∷
    codes "8 account k00000000000000000000000000000000000000000000000000000012 stake 0 deposit 2 rewards 65 pool none drep none" ∷
    codes "8 account k00000000000000000000000000000000000000000000000000000013 stake 0 deposit 2 rewards 0 pool none drep none" ∷
    codes "8 output 0000000000000000000000000000000000000000000000000000000000000001#4 1k00000000000000000000000000000000000000000000000000000001 60" ∷
    codes "8 output 0000000000000000000000000000000000000000000000000000000000000001#5 1k00000000000000000000000000000000000000000000000000000001 60" ∷
    codes "8 output 0000000000000000000000000000000000000000000000000000000000000001#6 1k00000000000000000000000000000000000000000000000000000001 60" ∷
    codes "8 output 0000000000000000000000000000000000000000000000000000000000000001#7 1k00000000000000000000000000000000000000000000000000000001 60" ∷
    codes "8 proposal 0000000000000000000000000000000000000000000000000000000000000002#1 TreasuryWithdrawals deposit 10 return 1k00000000000000000000000000000000000000000000000000000012 expires 5 previous none" ∷
    codes "8 snapshot mark 00000000000000000000000000000000000000000000000000000050 0" ∷
    codes "8 snapshot set 00000000000000000000000000000000000000000000000000000050 0" ∷
    codes "8 snapshot go 00000000000000000000000000000000000000000000000000000050 0" ∷
    codes "8 snapshot fees 92" ∷
    codes "8 pending none" ∷
    codes "8 pots outputs 240 deposits 31 rewards 95 fees 92 donations 0 treasury 25 reserves 517 supply 1000" ∷
    []) ≡ true
unfolding digits encode_with
treasury_shared_by_withdrawals = refl

abbrev withdrawals_wait_for_the_treasury_input : List (ℕ × Reading)
withdrawals_wait_for_the_treasury_input =
    (1, Read (records.Genesis (record { network = 1; slot = 0; epoch_length = 10; version = (10, 0); supply = 1000; reserves = 509; treasury = 10; params = (record base_params { drep_voting_thresholds = ((share 0 1) ∷ (share 0 1) ∷ (share 0 1) ∷ (share 0 1) ∷ (share 0 1) ∷ (share 0 1) ∷ (share 0 1) ∷ (share 0 1) ∷ (share 0 1) ∷ (share 0 1) ∷ []); gov_action_lifetime = 5 }); document = (h32 0x01); script = None; committee = (Some (record { threshold = (share 0 1); members = (((key 0x70), 100, (Some (key 0x71))) ∷ []) })); outputs = (((ref 0x01 2), (address_with 1 (key 0x01) None), 60, []) ∷ ((ref 0x01 3), (address_with 1 (key 0x01) None), 60, []) ∷ ((ref 0x01 4), (address_with 1 (key 0x01) None), 60, []) ∷ ((ref 0x01 5), (address_with 1 (key 0x01) None), 60, []) ∷ ((ref 0x01 6), (address_with 1 (key 0x01) None), 60, []) ∷ ((ref 0x01 7), (address_with 1 (key 0x01) None), 60, []) ∷ []); accounts = (((key 0x10), 2, 67, None, (Some (drep.Registered (key 0x30)))) ∷ ((key 0x11), 2, 33, None, (Some (drep.Registered (key 0x31)))) ∷ ((key 0x12), 2, 0, None, None) ∷ []); pools = ((record { pool = (pool 0x50); deposit = 5; cost = 0; pledge = 0; margin = (share 0 1); account = (account_on 1 (key 0x12)); key = None }) ∷ []); dreps = (((key 0x30), 5, 20) ∷ ((key 0x31), 5, 20) ∷ []) }))) ∷
    (2, Read (records.Tx (record (spend 0x02 40) { proposals = ((proposing 10 (account_on 1 (key 0x12)) (actions.TreasuryWithdrawals (((account_on 1 (key 0x12)), 11) ∷ []) None)) ∷ (proposing 10 (account_on 1 (key 0x12)) (actions.TreasuryWithdrawals (((account_on 1 (key 0x12)), 12) ∷ []) None)) ∷ []) }))) ∷
    (3, Read (records.Tx (record (spend 0x03 55) { donation = 5 }))) ∷
    (4, Read (records.Print what.Pots)) ∷
    (5, Read (records.Block 10 1)) ∷
    (6, Read (records.Block 20 1)) ∷
    (7, Read (records.Tx (record (spend 0x04 51) { donation = 9 }))) ∷
    (8, Read (records.Block 30 1)) ∷
    (9, Read (records.Block 40 1)) ∷
    (10, Read (records.Print what.Pots)) ∷
    []

pub withdrawals_wait_for_the_treasury : says_all withdrawals_wait_for_the_treasury_input (
    codes "1 genesis outputs 360 deposits 21 rewards 100 fees 0 donations 0 treasury 10 reserves 509 supply 1000" ∷
    codes "2 accepted" ∷
    codes "3 accepted" ∷
    codes "4 pots outputs 240 deposits 41 rewards 100 fees 95 donations 5 treasury 10 reserves 509 supply 1000" ∷
    codes "5 epoch 1 frozen 3 dormant 0" ∷
    codes "5 stake k00000000000000000000000000000000000000000000000000000030 67" ∷
    codes "5 stake k00000000000000000000000000000000000000000000000000000031 33" ∷
    codes "5 pots outputs 240 deposits 41 rewards 100 fees 95 donations 0 treasury 15 reserves 509 supply 1000" ∷
    codes "5 block slot 10 epoch 1 counted 1 of 3" ∷
    codes "6 epoch 2 frozen 3 dormant 0" ∷
    codes "6 stake k00000000000000000000000000000000000000000000000000000030 67" ∷
    codes "6 stake k00000000000000000000000000000000000000000000000000000031 33" ∷
    codes "6 tally 0000000000000000000000000000000000000000000000000000000000000002#0 TreasuryWithdrawals committee 0/1 need 0/1 drep 0/100 need 0/1 pool 0/0 need none ratified" ∷
    codes "6 tally 0000000000000000000000000000000000000000000000000000000000000002#1 TreasuryWithdrawals committee 0/1 need 0/1 drep 0/100 need 0/1 pool 0/0 need none waiting" ∷
    codes "6 paid 1k00000000000000000000000000000000000000000000000000000012 11" ∷
    codes "6 removed 0000000000000000000000000000000000000000000000000000000000000002#0 enacted refund 10 1k00000000000000000000000000000000000000000000000000000012" ∷
    codes "6 pots outputs 240 deposits 31 rewards 121 fees 95 donations 0 treasury 4 reserves 509 supply 1000" ∷
    codes "6 block slot 20 epoch 2 counted 1 of 3" ∷
    codes "7 accepted" ∷
    codes "8 epoch 3 frozen 3 dormant 0" ∷
    codes "8 stake k00000000000000000000000000000000000000000000000000000030 67" ∷
    codes "8 stake k00000000000000000000000000000000000000000000000000000031 33" ∷
    codes "8 tally 0000000000000000000000000000000000000000000000000000000000000002#1 TreasuryWithdrawals committee 0/1 need 0/1 drep 0/100 need 0/1 pool 0/0 need none waiting" ∷
    codes "8 pots outputs 180 deposits 31 rewards 121 fees 146 donations 0 treasury 13 reserves 509 supply 1000" ∷
    codes "8 block slot 30 epoch 3 counted 1 of 3" ∷
    codes "9 epoch 4 frozen 3 dormant 1" ∷
    codes "9 stake k00000000000000000000000000000000000000000000000000000030 67" ∷
    codes "9 stake k00000000000000000000000000000000000000000000000000000031 33" ∷
    codes "9 tally 0000000000000000000000000000000000000000000000000000000000000002#1 TreasuryWithdrawals committee 0/1 need 0/1 drep 0/100 need 0/1 pool 0/0 need none ratified" ∷
    codes "9 paid 1k00000000000000000000000000000000000000000000000000000012 12" ∷
    codes "9 removed 0000000000000000000000000000000000000000000000000000000000000002#1 enacted refund 10 1k00000000000000000000000000000000000000000000000000000012" ∷
    codes "9 pots outputs 180 deposits 21 rewards 143 fees 146 donations 0 treasury 1 reserves 509 supply 1000" ∷
    codes "9 block slot 40 epoch 4 counted 1 of 3" ∷
    codes "10 pots outputs 180 deposits 21 rewards 143 fees 146 donations 0 treasury 1 reserves 509 supply 1000" ∷
    []) ≡ true
unfolding digits encode_with
withdrawals_wait_for_the_treasury = refl

abbrev siblings_and_descendants_input : List (ℕ × Reading)
siblings_and_descendants_input =
    (1, Read (records.Genesis (record { network = 1; slot = 0; epoch_length = 10; version = (10, 0); supply = 1000; reserves = 392; treasury = 100; params = (record base_params { drep_voting_thresholds = ((share 1 2) ∷ (share 1 2) ∷ (share 1 2) ∷ (share 1 2) ∷ (share 1 2) ∷ (share 1 2) ∷ (share 1 2) ∷ (share 1 2) ∷ (share 1 2) ∷ (share 1 2) ∷ []); gov_action_lifetime = 5 }); document = (h32 0x01); script = None; committee = (Some (record { threshold = (share 0 1); members = (((key 0x70), 100, (Some (key 0x71))) ∷ []) })); outputs = (((ref 0x01 2), (address_with 1 (key 0x01) None), 60, []) ∷ ((ref 0x01 3), (address_with 1 (key 0x01) None), 60, []) ∷ ((ref 0x01 4), (address_with 1 (key 0x01) None), 60, []) ∷ ((ref 0x01 5), (address_with 1 (key 0x01) None), 60, []) ∷ ((ref 0x01 6), (address_with 1 (key 0x01) None), 60, []) ∷ ((ref 0x01 7), (address_with 1 (key 0x01) None), 60, []) ∷ ((ref 0x01 8), (address_with 1 (key 0x01) None), 60, []) ∷ []); accounts = (((key 0x10), 2, 67, None, (Some (drep.Registered (key 0x30)))) ∷ ((key 0x12), 2, 0, None, None) ∷ ((key 0x13), 2, 0, None, None) ∷ []); pools = ((record { pool = (pool 0x50); deposit = 5; cost = 0; pledge = 0; margin = (share 0 1); account = (account_on 1 (key 0x12)); key = None }) ∷ []); dreps = (((key 0x30), 5, 20) ∷ ((key 0x31), 5, 20) ∷ []) }))) ∷
    (2, Read (records.Tx (record (spend 0x02 30) { proposals = ((proposing 10 (account_on 1 (key 0x12)) (actions.NewConstitution None (h32 0x02) None)) ∷ (proposing 10 (account_on 1 (key 0x13)) (actions.NewConstitution None (h32 0x03) None)) ∷ (proposing 10 (account_on 1 (key 0x12)) (actions.Info)) ∷ []) }))) ∷
    (3, Read (records.Tx (record (spend 0x03 40) { proposals = ((proposing 10 (account_on 1 (key 0x12)) (actions.NewConstitution (Some (action 0x02 0)) (h32 0x04) None)) ∷ (proposing 10 (account_on 1 (key 0x12)) (actions.NewConstitution (Some (action 0x02 1)) (h32 0x05) None)) ∷ []) }))) ∷
    (4, Read (records.Tx (record (spend 0x04 40) { proposals = ((proposing 10 (account_on 1 (key 0x12)) (actions.NewConstitution (Some (action 0x03 1)) (h32 0x06) None)) ∷ (proposing 10 (account_on 1 (key 0x12)) (actions.NewConstitution (Some (action 0x03 0)) (h32 0x07) None)) ∷ []); votes = ((voting (voter.Drep (key 0x30)) (action 0x02 0) vote.Yes) ∷ []) }))) ∷
    (5, Read (records.Tx (record (spend 0x05 62) { certs = ((certs.AccountUnreg (key 0x13) None) ∷ []) }))) ∷
    (6, Read (records.Block 10 1)) ∷
    (7, Read (records.Block 20 1)) ∷
    (8, Read (records.Print what.State)) ∷
    (9, Read (records.Tx (record (spend 0x06 50) { proposals = ((proposing 10 (account_on 1 (key 0x12)) (actions.NewConstitution (Some (action 0x02 0)) (h32 0x08) None)) ∷ []) }))) ∷
    (10, Read (records.Tx (record (spend 0x07 0) { proposals = ((proposing 10 (account_on 1 (key 0x12)) (actions.NewConstitution None (h32 0x09) None)) ∷ []) }))) ∷
    []

pub siblings_and_descendants : says_all siblings_and_descendants_input (
    codes "1 genesis outputs 420 deposits 21 rewards 67 fees 0 donations 0 treasury 100 reserves 392 supply 1000" ∷
    codes "2 accepted" ∷
    codes "3 accepted" ∷
    codes "4 accepted" ∷
    codes "5 accepted" ∷
    codes "6 epoch 1 frozen 2 dormant 0" ∷
    codes "6 stake k00000000000000000000000000000000000000000000000000000030 67" ∷
    codes "6 pots outputs 180 deposits 89 rewards 67 fees 172 donations 0 treasury 100 reserves 392 supply 1000" ∷
    codes "6 block slot 10 epoch 1 counted 1 of 2" ∷
    codes "7 epoch 2 frozen 2 dormant 0" ∷
    codes "7 stake k00000000000000000000000000000000000000000000000000000030 67" ∷
    codes "7 tally 0000000000000000000000000000000000000000000000000000000000000002#0 NewConstitution committee 0/1 need 0/1 drep 67/67 need 1/2 pool 0/0 need none ratified" ∷
    codes "7 tally 0000000000000000000000000000000000000000000000000000000000000002#1 NewConstitution committee 0/1 need 0/1 drep 0/67 need 1/2 pool 0/0 need none waiting" ∷
    codes "7 tally 0000000000000000000000000000000000000000000000000000000000000003#0 NewConstitution committee 0/1 need 0/1 drep 0/67 need 1/2 pool 0/0 need none waiting" ∷
    codes "7 tally 0000000000000000000000000000000000000000000000000000000000000003#1 NewConstitution committee 0/1 need 0/1 drep 0/67 need 1/2 pool 0/0 need none waiting" ∷
    codes "7 tally 0000000000000000000000000000000000000000000000000000000000000004#0 NewConstitution committee 0/1 need 0/1 drep 0/67 need 1/2 pool 0/0 need none waiting" ∷
    codes "7 tally 0000000000000000000000000000000000000000000000000000000000000004#1 NewConstitution committee 0/1 need 0/1 drep 0/67 need 1/2 pool 0/0 need none waiting" ∷
    codes "7 tally 0000000000000000000000000000000000000000000000000000000000000002#2 Info committee 0/1 need never drep 0/67 need never pool 0/0 need never waiting" ∷
    codes "7 removed 0000000000000000000000000000000000000000000000000000000000000002#0 enacted refund 10 1k00000000000000000000000000000000000000000000000000000012" ∷
    codes "7 removed 0000000000000000000000000000000000000000000000000000000000000002#1 dropped refund 10 treasury" ∷
    codes "7 removed 0000000000000000000000000000000000000000000000000000000000000003#1 dropped refund 10 1k00000000000000000000000000000000000000000000000000000012" ∷
    codes "7 removed 0000000000000000000000000000000000000000000000000000000000000004#0 dropped refund 10 1k00000000000000000000000000000000000000000000000000000012" ∷
    codes "7 pots outputs 180 deposits 49 rewards 97 fees 172 donations 0 treasury 110 reserves 392 supply 1000" ∷
    codes "7 block slot 20 epoch 2 counted 1 of 2" ∷
    codes "8 now slot 20 epoch 2 version 10.0 dormant 0" ∷
    codes "8 constitution 0000000000000000000000000000000000000000000000000000000000000002 none" ∷
    codes "8 committee threshold 0/1" ∷
    codes "8 member k00000000000000000000000000000000000000000000000000000070 term 100 hot k00000000000000000000000000000000000000000000000000000071" ∷
    codes "8 enacted committee none constitution 0000000000000000000000000000000000000000000000000000000000000002#0 hardfork none parameters none" ∷
    codes "8 param maxBlockBodySize 90112" ∷
    codes "8 param maxTxSize 16384" ∷
    codes "8 param maxBlockHeaderSize 1100" ∷
    codes "8 param maxValueSize 5000" ∷
    codes "8 param maxTxExUnits 1000 1000" ∷
    codes "8 param maxBlockExUnits 1000 1000" ∷
    codes "8 param maxCollateralInputs 3" ∷
    codes "8 param minFeeA 0" ∷
    codes "8 param minFeeB 0" ∷
    codes "8 param keyDeposit 2" ∷
    codes "8 param poolDeposit 5" ∷
    codes "8 param rho 0/1" ∷
    codes "8 param tau 0/1" ∷
    codes "8 param minPoolCost 0" ∷
    codes "8 param coinsPerUTxOByte 0" ∷
    codes "8 param prices 0/1 0/1" ∷
    codes "8 param minFeeRefScriptCostPerByte 15/1" ∷
    codes "8 param a0 0/1" ∷
    codes "8 param eMax 18" ∷
    codes "8 param nOpt 500" ∷
    codes "8 param costModels 0000000000000000000000000000000000000000000000000000000000000000" ∷
    codes "8 param collateralPercentage 150" ∷
    codes "8 param poolVotingThresholds 0/1 0/1 0/1 0/1 0/1" ∷
    codes "8 param drepVotingThresholds 1/2 1/2 1/2 1/2 1/2 1/2 1/2 1/2 1/2 1/2" ∷
    codes "8 param govActionLifetime 5" ∷
    codes "8 param govActionDeposit 10" ∷
    codes "8 param drepDeposit 5" ∷
    codes "8 param drepActivity 20" ∷
    codes "8 param committeeMinSize 0" ∷
    codes "8 param committeeMaxTermLength 100" ∷
    codes "8 drep k00000000000000000000000000000000000000000000000000000030 deposit 5 expiry 20" ∷
    codes "8 drep k00000000000000000000000000000000000000000000000000000031 deposit 5 expiry 20" ∷
    codes "8 pool 00000000000000000000000000000000000000000000000000000050 deposit 5 cost 0 pledge 0 margin 0/1 account 1k00000000000000000000000000000000000000000000000000000012 retires never" ∷
    codes "8 account k00000000000000000000000000000000000000000000000000000010 stake 0 deposit 2 rewards 67 pool none drep k00000000000000000000000000000000000000000000000000000030" ∷
    codes "8 account k00000000000000000000000000000000000000000000000000000012 stake 0 deposit 2 rewards 30 pool none drep none" ∷
    codes "8 output 0000000000000000000000000000000000000000000000000000000000000001#6 1k00000000000000000000000000000000000000000000000000000001 60" ∷
    codes "8 output 0000000000000000000000000000000000000000000000000000000000000001#7 1k00000000000000000000000000000000000000000000000000000001 60" ∷
    codes "8 output 0000000000000000000000000000000000000000000000000000000000000001#8 1k00000000000000000000000000000000000000000000000000000001 60" ∷
    codes "8 proposal 0000000000000000000000000000000000000000000000000000000000000002#2 Info deposit 10 return 1k00000000000000000000000000000000000000000000000000000012 expires 5 previous none" ∷
    codes "8 proposal 0000000000000000000000000000000000000000000000000000000000000003#0 NewConstitution deposit 10 return 1k00000000000000000000000000000000000000000000000000000012 expires 5 previous 0000000000000000000000000000000000000000000000000000000000000002#0" ∷
    codes "8 proposal 0000000000000000000000000000000000000000000000000000000000000004#1 NewConstitution deposit 10 return 1k00000000000000000000000000000000000000000000000000000012 expires 5 previous 0000000000000000000000000000000000000000000000000000000000000003#0" ∷
    codes "8 snapshot mark 00000000000000000000000000000000000000000000000000000050 0" ∷
    codes "8 snapshot set 00000000000000000000000000000000000000000000000000000050 0" ∷
    codes "8 snapshot go 00000000000000000000000000000000000000000000000000000050 0" ∷
    codes "8 snapshot fees 172" ∷
    codes "8 pending none" ∷
    codes "8 pots outputs 180 deposits 49 rewards 97 fees 172 donations 0 treasury 110 reserves 392 supply 1000" ∷
    codes "9 accepted" ∷
    codes "10 refused 90 PreviousWrong at 0" ∷
    []) ≡ true
unfolding digits encode_with
siblings_and_descendants = refl

abbrev descendants_of_the_expired_input : List (ℕ × Reading)
descendants_of_the_expired_input =
    (1, Read (records.Genesis (record { network = 1; slot = 0; epoch_length = 10; version = (10, 0); supply = 1000; reserves = 392; treasury = 100; params = (record base_params { gov_action_lifetime = 1 }); document = (h32 0x01); script = None; committee = (Some (record { threshold = (share 0 1); members = (((key 0x70), 100, (Some (key 0x71))) ∷ []) })); outputs = (((ref 0x01 2), (address_with 1 (key 0x01) None), 60, []) ∷ ((ref 0x01 3), (address_with 1 (key 0x01) None), 60, []) ∷ ((ref 0x01 4), (address_with 1 (key 0x01) None), 60, []) ∷ ((ref 0x01 5), (address_with 1 (key 0x01) None), 60, []) ∷ ((ref 0x01 6), (address_with 1 (key 0x01) None), 60, []) ∷ ((ref 0x01 7), (address_with 1 (key 0x01) None), 60, []) ∷ ((ref 0x01 8), (address_with 1 (key 0x01) None), 60, []) ∷ []); accounts = (((key 0x10), 2, 67, None, (Some (drep.Registered (key 0x30)))) ∷ ((key 0x12), 2, 0, None, None) ∷ ((key 0x13), 2, 0, None, None) ∷ []); pools = ((record { pool = (pool 0x50); deposit = 5; cost = 0; pledge = 0; margin = (share 0 1); account = (account_on 1 (key 0x12)); key = None }) ∷ []); dreps = (((key 0x30), 5, 20) ∷ ((key 0x31), 5, 20) ∷ []) }))) ∷
    (2, Read (records.Tx (record (spend 0x02 40) { proposals = ((proposing 10 (account_on 1 (key 0x12)) (actions.HardForkInitiation None (10, 1))) ∷ (proposing 10 (account_on 1 (key 0x13)) (actions.NoConfidence None)) ∷ []) }))) ∷
    (3, Read (records.Block 10 1)) ∷
    (4, Read (records.Tx (record (spend 0x03 40) { proposals = ((proposing 10 (account_on 1 (key 0x12)) (actions.HardForkInitiation (Some (action 0x02 0)) (10, 2))) ∷ (proposing 10 (account_on 1 (key 0x12)) (actions.NewConstitution None (h32 0x02) None)) ∷ []) }))) ∷
    (5, Read (records.Tx (record (spend 0x04 62) { certs = ((certs.AccountUnreg (key 0x13) None) ∷ []) }))) ∷
    (6, Read (records.Tx (record (spend 0x05 60) { votes = ((voting (voter.Drep (key 0x30)) (action 0x02 0) vote.No) ∷ []) }))) ∷
    (7, Read (records.Block 20 1)) ∷
    (8, Read (records.Tx (record (spend 0x06 50) { proposals = ((proposing 10 (account_on 1 (key 0x12)) (actions.HardForkInitiation (Some (action 0x03 0)) (10, 3))) ∷ []) }))) ∷
    (9, Read (records.Tx (record (spend 0x07 0) { votes = ((voting (voter.Drep (key 0x30)) (action 0x02 0) vote.Yes) ∷ []) }))) ∷
    (10, Read (records.Block 30 1)) ∷
    (11, Read (records.Block 40 1)) ∷
    (12, Read (records.Print what.State)) ∷
    []

pub descendants_of_the_expired : says_all descendants_of_the_expired_input (
    codes "1 genesis outputs 420 deposits 21 rewards 67 fees 0 donations 0 treasury 100 reserves 392 supply 1000" ∷
    codes "2 accepted" ∷
    codes "3 epoch 1 frozen 3 dormant 0" ∷
    codes "3 stake k00000000000000000000000000000000000000000000000000000030 67" ∷
    codes "3 pots outputs 360 deposits 41 rewards 67 fees 40 donations 0 treasury 100 reserves 392 supply 1000" ∷
    codes "3 block slot 10 epoch 1 counted 1 of 3" ∷
    codes "4 accepted" ∷
    codes "5 accepted" ∷
    codes "6 accepted" ∷
    codes "7 epoch 2 frozen 2 dormant 0" ∷
    codes "7 stake k00000000000000000000000000000000000000000000000000000030 67" ∷
    codes "7 tally 0000000000000000000000000000000000000000000000000000000000000002#1 NoConfidence committee 0/1 need none drep 0/67 need 67/100 pool 0/0 need 0/1 waiting" ∷
    codes "7 tally 0000000000000000000000000000000000000000000000000000000000000002#0 HardForkInitiation committee 0/1 need 0/1 drep 0/67 need 67/100 pool 0/0 need 0/1 waiting" ∷
    codes "7 pots outputs 180 deposits 59 rewards 67 fees 202 donations 0 treasury 100 reserves 392 supply 1000" ∷
    codes "7 block slot 20 epoch 2 counted 1 of 2" ∷
    codes "8 accepted" ∷
    codes "9 refused 103 VotingExpired at 0" ∷
    codes "10 epoch 3 frozen 2 dormant 0" ∷
    codes "10 stake k00000000000000000000000000000000000000000000000000000030 67" ∷
    codes "10 tally 0000000000000000000000000000000000000000000000000000000000000002#1 NoConfidence committee 0/1 need none drep 0/67 need 67/100 pool 0/0 need 0/1 expired" ∷
    codes "10 tally 0000000000000000000000000000000000000000000000000000000000000003#1 NewConstitution committee 0/1 need 0/1 drep 0/67 need 67/100 pool 0/0 need none waiting" ∷
    codes "10 tally 0000000000000000000000000000000000000000000000000000000000000002#0 HardForkInitiation committee 0/1 need 0/1 drep 0/67 need 67/100 pool 0/0 need 0/1 expired" ∷
    codes "10 tally 0000000000000000000000000000000000000000000000000000000000000003#0 HardForkInitiation committee 0/1 need 0/1 drep 0/67 need 67/100 pool 0/0 need 0/1 waiting" ∷
    codes "10 removed 0000000000000000000000000000000000000000000000000000000000000002#0 expired refund 10 1k00000000000000000000000000000000000000000000000000000012" ∷
    codes "10 removed 0000000000000000000000000000000000000000000000000000000000000002#1 expired refund 10 treasury" ∷
    codes "10 removed 0000000000000000000000000000000000000000000000000000000000000003#0 dropped refund 10 1k00000000000000000000000000000000000000000000000000000012" ∷
    codes "10 removed 0000000000000000000000000000000000000000000000000000000000000006#0 dropped refund 10 1k00000000000000000000000000000000000000000000000000000012" ∷
    codes "10 pots outputs 120 deposits 29 rewards 97 fees 252 donations 0 treasury 110 reserves 392 supply 1000" ∷
    codes "10 block slot 30 epoch 3 counted 1 of 2" ∷
    codes "11 epoch 4 frozen 2 dormant 1" ∷
    codes "11 stake k00000000000000000000000000000000000000000000000000000030 67" ∷
    codes "11 tally 0000000000000000000000000000000000000000000000000000000000000003#1 NewConstitution committee 0/1 need 0/1 drep 0/67 need 67/100 pool 0/0 need none expired" ∷
    codes "11 removed 0000000000000000000000000000000000000000000000000000000000000003#1 expired refund 10 1k00000000000000000000000000000000000000000000000000000012" ∷
    codes "11 pots outputs 120 deposits 19 rewards 107 fees 252 donations 0 treasury 110 reserves 392 supply 1000" ∷
    codes "11 block slot 40 epoch 4 counted 1 of 2" ∷
    codes "12 now slot 40 epoch 4 version 10.0 dormant 1" ∷
    codes "12 constitution 0000000000000000000000000000000000000000000000000000000000000001 none" ∷
    codes "12 committee threshold 0/1" ∷
    codes "12 member k00000000000000000000000000000000000000000000000000000070 term 100 hot k00000000000000000000000000000000000000000000000000000071" ∷
    codes "12 enacted committee none constitution none hardfork none parameters none" ∷
    codes "12 param maxBlockBodySize 90112" ∷
    codes "12 param maxTxSize 16384" ∷
    codes "12 param maxBlockHeaderSize 1100" ∷
    codes "12 param maxValueSize 5000" ∷
    codes "12 param maxTxExUnits 1000 1000" ∷
    codes "12 param maxBlockExUnits 1000 1000" ∷
    codes "12 param maxCollateralInputs 3" ∷
    codes "12 param minFeeA 0" ∷
    codes "12 param minFeeB 0" ∷
    codes "12 param keyDeposit 2" ∷
    codes "12 param poolDeposit 5" ∷
    codes "12 param rho 0/1" ∷
    codes "12 param tau 0/1" ∷
    codes "12 param minPoolCost 0" ∷
    codes "12 param coinsPerUTxOByte 0" ∷
    codes "12 param prices 0/1 0/1" ∷
    codes "12 param minFeeRefScriptCostPerByte 15/1" ∷
    codes "12 param a0 0/1" ∷
    codes "12 param eMax 18" ∷
    codes "12 param nOpt 500" ∷
    codes "12 param costModels 0000000000000000000000000000000000000000000000000000000000000000" ∷
    codes "12 param collateralPercentage 150" ∷
    codes "12 param poolVotingThresholds 0/1 0/1 0/1 0/1 0/1" ∷
    codes "12 param drepVotingThresholds 67/100 67/100 67/100 67/100 67/100 67/100 67/100 67/100 67/100 67/100" ∷
    codes "12 param govActionLifetime 1" ∷
    codes "12 param govActionDeposit 10" ∷
    codes "12 param drepDeposit 5" ∷
    codes "12 param drepActivity 20" ∷
    codes "12 param committeeMinSize 0" ∷
    codes "12 param committeeMaxTermLength 100" ∷
    codes "12 drep k00000000000000000000000000000000000000000000000000000030 deposit 5 expiry 21" ∷
    codes "12 drep k00000000000000000000000000000000000000000000000000000031 deposit 5 expiry 20" ∷
    codes "12 pool 00000000000000000000000000000000000000000000000000000050 deposit 5 cost 0 pledge 0 margin 0/1 account 1k00000000000000000000000000000000000000000000000000000012 retires never" ∷
    codes "12 account k00000000000000000000000000000000000000000000000000000010 stake 0 deposit 2 rewards 67 pool none drep k00000000000000000000000000000000000000000000000000000030" ∷
    codes "12 account k00000000000000000000000000000000000000000000000000000012 stake 0 deposit 2 rewards 40 pool none drep none" ∷
    codes "12 output 0000000000000000000000000000000000000000000000000000000000000001#7 1k00000000000000000000000000000000000000000000000000000001 60" ∷
    codes "12 output 0000000000000000000000000000000000000000000000000000000000000001#8 1k00000000000000000000000000000000000000000000000000000001 60" ∷
    codes "12 snapshot mark 00000000000000000000000000000000000000000000000000000050 0" ∷
    codes "12 snapshot set 00000000000000000000000000000000000000000000000000000050 0" ∷
    codes "12 snapshot go 00000000000000000000000000000000000000000000000000000050 0" ∷
    codes "12 snapshot fees 252" ∷
    codes "12 pending none" ∷
    codes "12 pots outputs 120 deposits 19 rewards 107 fees 252 donations 0 treasury 110 reserves 392 supply 1000" ∷
    []) ≡ true
unfolding digits encode_with
descendants_of_the_expired = refl

abbrev delaying_actions_one_at_a_time_input : List (ℕ × Reading)
delaying_actions_one_at_a_time_input =
    (1, Read (records.Genesis (record { network = 1; slot = 0; epoch_length = 10; version = (10, 0); supply = 1000; reserves = 459; treasury = 100; params = (record base_params { drep_voting_thresholds = ((share 0 1) ∷ (share 0 1) ∷ (share 0 1) ∷ (share 0 1) ∷ (share 0 1) ∷ (share 0 1) ∷ (share 0 1) ∷ (share 0 1) ∷ (share 0 1) ∷ (share 0 1) ∷ []); gov_action_lifetime = 9 }); document = (h32 0x01); script = None; committee = (Some (record { threshold = (share 0 1); members = (((key 0x70), 100, (Some (key 0x71))) ∷ []) })); outputs = (((ref 0x01 2), (address_with 1 (key 0x01) None), 80, []) ∷ ((ref 0x01 3), (address_with 1 (key 0x01) None), 80, []) ∷ ((ref 0x01 4), (address_with 1 (key 0x01) None), 80, []) ∷ ((ref 0x01 5), (address_with 1 (key 0x01) None), 80, []) ∷ []); accounts = (((key 0x10), 2, 67, None, (Some (drep.Registered (key 0x30)))) ∷ ((key 0x11), 2, 33, None, (Some (drep.Registered (key 0x31)))) ∷ ((key 0x12), 2, 0, None, None) ∷ []); pools = ((record { pool = (pool 0x50); deposit = 5; cost = 0; pledge = 0; margin = (share 0 1); account = (account_on 1 (key 0x12)); key = None }) ∷ []); dreps = (((key 0x30), 5, 20) ∷ ((key 0x31), 5, 20) ∷ []) }))) ∷
    (2, Read (records.Tx (record (spend 0x02 20) { proposals = ((proposing 10 (account_on 1 (key 0x12)) (actions.TreasuryWithdrawals (((account_on 1 (key 0x12)), 7) ∷ []) None)) ∷ (proposing 10 (account_on 1 (key 0x12)) (actions.ParameterChange None (record no_update { n_opt = (Some 3) }) None)) ∷ (proposing 10 (account_on 1 (key 0x12)) (actions.HardForkInitiation None (10, 1))) ∷ (proposing 10 (account_on 1 (key 0x12)) (actions.NewConstitution None (h32 0x02) None)) ∷ (proposing 10 (account_on 1 (key 0x12)) (actions.NoConfidence None)) ∷ (proposing 10 (account_on 1 (key 0x12)) (actions.Info)) ∷ []) }))) ∷
    (3, Read (records.Block 10 1)) ∷
    (4, Read (records.Block 20 1)) ∷
    (5, Read (records.Block 30 1)) ∷
    (6, Read (records.Block 40 1)) ∷
    (7, Read (records.Block 50 1)) ∷
    (8, Read (records.Print what.State)) ∷
    []

pub delaying_actions_one_at_a_time : says_all delaying_actions_one_at_a_time_input (
    codes "1 genesis outputs 320 deposits 21 rewards 100 fees 0 donations 0 treasury 100 reserves 459 supply 1000" ∷
    codes "2 accepted" ∷
    codes "3 epoch 1 frozen 3 dormant 0" ∷
    codes "3 stake k00000000000000000000000000000000000000000000000000000030 67" ∷
    codes "3 stake k00000000000000000000000000000000000000000000000000000031 33" ∷
    codes "3 pots outputs 240 deposits 81 rewards 100 fees 20 donations 0 treasury 100 reserves 459 supply 1000" ∷
    codes "3 block slot 10 epoch 1 counted 1 of 3" ∷
    codes "4 epoch 2 frozen 3 dormant 0" ∷
    codes "4 stake k00000000000000000000000000000000000000000000000000000030 67" ∷
    codes "4 stake k00000000000000000000000000000000000000000000000000000031 33" ∷
    codes "4 tally 0000000000000000000000000000000000000000000000000000000000000002#4 NoConfidence committee 0/1 need none drep 0/100 need 0/1 pool 0/0 need 0/1 ratified" ∷
    codes "4 tally 0000000000000000000000000000000000000000000000000000000000000002#3 NewConstitution committee 0/1 need never drep 0/100 need 0/1 pool 0/0 need none waiting" ∷
    codes "4 tally 0000000000000000000000000000000000000000000000000000000000000002#2 HardForkInitiation committee 0/1 need never drep 0/100 need 0/1 pool 0/0 need 0/1 waiting" ∷
    codes "4 tally 0000000000000000000000000000000000000000000000000000000000000002#1 ParameterChange committee 0/1 need never drep 0/100 need 0/1 pool 0/0 need none waiting" ∷
    codes "4 tally 0000000000000000000000000000000000000000000000000000000000000002#0 TreasuryWithdrawals committee 0/1 need never drep 0/100 need 0/1 pool 0/0 need none waiting" ∷
    codes "4 tally 0000000000000000000000000000000000000000000000000000000000000002#5 Info committee 0/1 need never drep 0/100 need never pool 0/0 need never waiting" ∷
    codes "4 removed 0000000000000000000000000000000000000000000000000000000000000002#4 enacted refund 10 1k00000000000000000000000000000000000000000000000000000012" ∷
    codes "4 pots outputs 240 deposits 71 rewards 110 fees 20 donations 0 treasury 100 reserves 459 supply 1000" ∷
    codes "4 block slot 20 epoch 2 counted 1 of 3" ∷
    codes "5 epoch 3 frozen 3 dormant 0" ∷
    codes "5 stake k00000000000000000000000000000000000000000000000000000030 67" ∷
    codes "5 stake k00000000000000000000000000000000000000000000000000000031 33" ∷
    codes "5 tally 0000000000000000000000000000000000000000000000000000000000000002#3 NewConstitution committee 0/0 need never drep 0/100 need 0/1 pool 0/0 need none waiting" ∷
    codes "5 tally 0000000000000000000000000000000000000000000000000000000000000002#2 HardForkInitiation committee 0/0 need never drep 0/100 need 0/1 pool 0/0 need 0/1 waiting" ∷
    codes "5 tally 0000000000000000000000000000000000000000000000000000000000000002#1 ParameterChange committee 0/0 need never drep 0/100 need 0/1 pool 0/0 need none waiting" ∷
    codes "5 tally 0000000000000000000000000000000000000000000000000000000000000002#0 TreasuryWithdrawals committee 0/0 need never drep 0/100 need 0/1 pool 0/0 need none waiting" ∷
    codes "5 tally 0000000000000000000000000000000000000000000000000000000000000002#5 Info committee 0/0 need never drep 0/100 need never pool 0/0 need never waiting" ∷
    codes "5 pots outputs 240 deposits 71 rewards 110 fees 20 donations 0 treasury 100 reserves 459 supply 1000" ∷
    codes "5 block slot 30 epoch 3 counted 1 of 3" ∷
    codes "6 epoch 4 frozen 3 dormant 0" ∷
    codes "6 stake k00000000000000000000000000000000000000000000000000000030 67" ∷
    codes "6 stake k00000000000000000000000000000000000000000000000000000031 33" ∷
    codes "6 tally 0000000000000000000000000000000000000000000000000000000000000002#3 NewConstitution committee 0/0 need never drep 0/100 need 0/1 pool 0/0 need none waiting" ∷
    codes "6 tally 0000000000000000000000000000000000000000000000000000000000000002#2 HardForkInitiation committee 0/0 need never drep 0/100 need 0/1 pool 0/0 need 0/1 waiting" ∷
    codes "6 tally 0000000000000000000000000000000000000000000000000000000000000002#1 ParameterChange committee 0/0 need never drep 0/100 need 0/1 pool 0/0 need none waiting" ∷
    codes "6 tally 0000000000000000000000000000000000000000000000000000000000000002#0 TreasuryWithdrawals committee 0/0 need never drep 0/100 need 0/1 pool 0/0 need none waiting" ∷
    codes "6 tally 0000000000000000000000000000000000000000000000000000000000000002#5 Info committee 0/0 need never drep 0/100 need never pool 0/0 need never waiting" ∷
    codes "6 pots outputs 240 deposits 71 rewards 110 fees 20 donations 0 treasury 100 reserves 459 supply 1000" ∷
    codes "6 block slot 40 epoch 4 counted 1 of 3" ∷
    codes "7 epoch 5 frozen 3 dormant 0" ∷
    codes "7 stake k00000000000000000000000000000000000000000000000000000030 67" ∷
    codes "7 stake k00000000000000000000000000000000000000000000000000000031 33" ∷
    codes "7 tally 0000000000000000000000000000000000000000000000000000000000000002#3 NewConstitution committee 0/0 need never drep 0/100 need 0/1 pool 0/0 need none waiting" ∷
    codes "7 tally 0000000000000000000000000000000000000000000000000000000000000002#2 HardForkInitiation committee 0/0 need never drep 0/100 need 0/1 pool 0/0 need 0/1 waiting" ∷
    codes "7 tally 0000000000000000000000000000000000000000000000000000000000000002#1 ParameterChange committee 0/0 need never drep 0/100 need 0/1 pool 0/0 need none waiting" ∷
    codes "7 tally 0000000000000000000000000000000000000000000000000000000000000002#0 TreasuryWithdrawals committee 0/0 need never drep 0/100 need 0/1 pool 0/0 need none waiting" ∷
    codes "7 tally 0000000000000000000000000000000000000000000000000000000000000002#5 Info committee 0/0 need never drep 0/100 need never pool 0/0 need never waiting" ∷
    codes "7 pots outputs 240 deposits 71 rewards 110 fees 20 donations 0 treasury 100 reserves 459 supply 1000" ∷
    codes "7 block slot 50 epoch 5 counted 1 of 3" ∷
    codes "8 now slot 50 epoch 5 version 10.0 dormant 0" ∷
    codes "8 constitution 0000000000000000000000000000000000000000000000000000000000000001 none" ∷
    codes "8 committee none" ∷
    codes "8 enacted committee 0000000000000000000000000000000000000000000000000000000000000002#4 constitution none hardfork none parameters none" ∷
    codes "8 param maxBlockBodySize 90112" ∷
    codes "8 param maxTxSize 16384" ∷
    codes "8 param maxBlockHeaderSize 1100" ∷
    codes "8 param maxValueSize 5000" ∷
    codes "8 param maxTxExUnits 1000 1000" ∷
    codes "8 param maxBlockExUnits 1000 1000" ∷
    codes "8 param maxCollateralInputs 3" ∷
    codes "8 param minFeeA 0" ∷
    codes "8 param minFeeB 0" ∷
    codes "8 param keyDeposit 2" ∷
    codes "8 param poolDeposit 5" ∷
    codes "8 param rho 0/1" ∷
    codes "8 param tau 0/1" ∷
    codes "8 param minPoolCost 0" ∷
    codes "8 param coinsPerUTxOByte 0" ∷
    codes "8 param prices 0/1 0/1" ∷
    codes "8 param minFeeRefScriptCostPerByte 15/1" ∷
    codes "8 param a0 0/1" ∷
    codes "8 param eMax 18" ∷
    codes "8 param nOpt 500" ∷
    codes "8 param costModels 0000000000000000000000000000000000000000000000000000000000000000" ∷
    codes "8 param collateralPercentage 150" ∷
    codes "8 param poolVotingThresholds 0/1 0/1 0/1 0/1 0/1" ∷
    codes "8 param drepVotingThresholds 0/1 0/1 0/1 0/1 0/1 0/1 0/1 0/1 0/1 0/1" ∷
    codes "8 param govActionLifetime 9" ∷
    codes "8 param govActionDeposit 10" ∷
    codes "8 param drepDeposit 5" ∷
    codes "8 param drepActivity 20" ∷
    codes "8 param committeeMinSize 0" ∷
    codes "8 param committeeMaxTermLength 100" ∷
    codes "8 drep k00000000000000000000000000000000000000000000000000000030 deposit 5 expiry 20" ∷
    codes "8 drep k00000000000000000000000000000000000000000000000000000031 deposit 5 expiry 20" ∷
    codes "8 pool 00000000000000000000000000000000000000000000000000000050 deposit 5 cost 0 pledge 0 margin 0/1 account 1k00000000000000000000000000000000000000000000000000000012 retires never" ∷
    codes "8 account k00000000000000000000000000000000000000000000000000000010 stake 0 deposit 2 rewards 67 pool none drep k00000000000000000000000000000000000000000000000000000030" ∷
    codes "8 account k00000000000000000000000000000000000000000000000000000011 stake 0 deposit 2 rewards 33 pool none drep k00000000000000000000000000000000000000000000000000000031" ∷
    codes "8 account k00000000000000000000000000000000000000000000000000000012 stake 0 deposit 2 rewards 10 pool none drep none" ∷
    codes "8 output 0000000000000000000000000000000000000000000000000000000000000001#3 1k00000000000000000000000000000000000000000000000000000001 80" ∷
    codes "8 output 0000000000000000000000000000000000000000000000000000000000000001#4 1k00000000000000000000000000000000000000000000000000000001 80" ∷
    codes "8 output 0000000000000000000000000000000000000000000000000000000000000001#5 1k00000000000000000000000000000000000000000000000000000001 80" ∷
    codes "8 proposal 0000000000000000000000000000000000000000000000000000000000000002#0 TreasuryWithdrawals deposit 10 return 1k00000000000000000000000000000000000000000000000000000012 expires 9 previous none" ∷
    codes "8 proposal 0000000000000000000000000000000000000000000000000000000000000002#1 ParameterChange deposit 10 return 1k00000000000000000000000000000000000000000000000000000012 expires 9 previous none" ∷
    codes "8 proposal 0000000000000000000000000000000000000000000000000000000000000002#2 HardForkInitiation deposit 10 return 1k00000000000000000000000000000000000000000000000000000012 expires 9 previous none" ∷
    codes "8 proposal 0000000000000000000000000000000000000000000000000000000000000002#3 NewConstitution deposit 10 return 1k00000000000000000000000000000000000000000000000000000012 expires 9 previous none" ∷
    codes "8 proposal 0000000000000000000000000000000000000000000000000000000000000002#5 Info deposit 10 return 1k00000000000000000000000000000000000000000000000000000012 expires 9 previous none" ∷
    codes "8 snapshot mark 00000000000000000000000000000000000000000000000000000050 0" ∷
    codes "8 snapshot set 00000000000000000000000000000000000000000000000000000050 0" ∷
    codes "8 snapshot go 00000000000000000000000000000000000000000000000000000050 0" ∷
    codes "8 snapshot fees 20" ∷
    codes "8 pending none" ∷
    codes "8 pots outputs 240 deposits 71 rewards 110 fees 20 donations 0 treasury 100 reserves 459 supply 1000" ∷
    []) ≡ true
unfolding digits encode_with
delaying_actions_one_at_a_time = refl

abbrev every_line_of_a_boundary_input : List (ℕ × Reading)
every_line_of_a_boundary_input =
    (1, Read (records.Genesis (record { network = 1; slot = 0; epoch_length = 10; version = (10, 0); supply = 1000; reserves = 574; treasury = 100; params = (record base_params { drep_voting_thresholds = ((share 1 2) ∷ (share 1 2) ∷ (share 1 2) ∷ (share 1 2) ∷ (share 1 2) ∷ (share 1 2) ∷ (share 1 2) ∷ (share 1 2) ∷ (share 1 2) ∷ (share 1 2) ∷ []); gov_action_lifetime = 0 }); document = (h32 0x01); script = None; committee = (Some (record { threshold = (share 0 1); members = (((key 0x70), 100, (Some (key 0x71))) ∷ []) })); outputs = (((ref 0x01 0), (address_with 1 (key 0x01) None), 20, []) ∷ ((ref 0x01 1), (address_with 1 (key 0x01) None), 20, []) ∷ ((ref 0x01 2), (address_with 1 (key 0x01) None), 20, []) ∷ ((ref 0x01 3), (address_with 1 (key 0x01) None), 20, []) ∷ ((ref 0x01 4), (address_with 1 (key 0x01) None), 20, []) ∷ ((ref 0x01 5), (address_with 1 (key 0x01) None), 20, []) ∷ ((ref 0x01 6), (address_with 1 (key 0x01) None), 20, []) ∷ ((ref 0x01 7), (address_with 1 (key 0x01) None), 20, []) ∷ ((ref 0x01 8), (address_with 1 (key 0x01) None), 20, []) ∷ ((ref 0x01 9), (address_with 1 (key 0x01) None), 20, []) ∷ []); accounts = (((key 0x10), 2, 67, None, (Some (drep.Registered (key 0x30)))) ∷ ((key 0x11), 2, 33, (Some (pool 0x50)), (Some (drep.Registered (key 0x31)))) ∷ ((key 0x12), 2, 0, None, None) ∷ []); pools = ((record { pool = (pool 0x50); deposit = 5; cost = 0; pledge = 0; margin = (share 0 1); account = (account_on 1 (key 0x12)); key = None }) ∷ (record { pool = (pool 0x51); deposit = 5; cost = 0; pledge = 0; margin = (share 0 1); account = (account_on 1 (key 0x13)); key = None }) ∷ []); dreps = (((key 0x30), 5, 20) ∷ ((key 0x31), 5, 20) ∷ []) }))) ∷
    (2, Read (records.Tx (record (spend 0x02 8) { inputs = ((ref 0x01 2) ∷ (ref 0x01 3) ∷ []); certs = ((certs.AccountReg (key 0x14) None None None) ∷ []); proposals = ((proposing 10 (account_on 1 (key 0x12)) (actions.TreasuryWithdrawals (((account_on 1 (key 0x10)), 7) ∷ ((account_on 1 (key 0x14)), 3) ∷ ((account_on 1 (key 0x12)), 0) ∷ []) None)) ∷ (proposing 10 (account_on 1 (key 0x14)) (actions.ParameterChange None (record no_update { e_max = (Some 5) }) None)) ∷ (proposing 10 (account_on 1 (key 0x12)) (actions.Info)) ∷ []) }))) ∷
    (3, Read (records.Tx (record (spend 0x03 20) { inputs = ((ref 0x01 4) ∷ []); certs = ((certs.PoolRetire (pool 0x51) 2) ∷ (certs.PoolRetire (pool 0x50) 2) ∷ []); votes = ((voting (voter.Drep (key 0x30)) (action 0x02 0) vote.Yes) ∷ (voting (voter.Drep (key 0x30)) (action 0x02 1) vote.Yes) ∷ []) }))) ∷
    (4, Read (records.Block 10 1)) ∷
    (5, Read (records.Tx (record (spend 0x05 12) { certs = ((certs.AccountUnreg (key 0x14) None) ∷ []); proposals = ((proposing 10 (account_on 1 (key 0x12)) (actions.ParameterChange None (record no_update { e_max = (Some 6) }) None)) ∷ []) }))) ∷
    (6, Read (records.Block 20 3)) ∷
    []

pub every_line_of_a_boundary : says_all every_line_of_a_boundary_input (
    codes "1 genesis outputs 200 deposits 26 rewards 100 fees 0 donations 0 treasury 100 reserves 574 supply 1000" ∷
    codes "2 accepted" ∷
    codes "3 accepted" ∷
    codes "4 epoch 1 frozen 4 dormant 0" ∷
    codes "4 stake k00000000000000000000000000000000000000000000000000000030 67" ∷
    codes "4 stake k00000000000000000000000000000000000000000000000000000031 33" ∷
    codes "4 pots outputs 140 deposits 58 rewards 100 fees 28 donations 0 treasury 100 reserves 574 supply 1000" ∷
    codes "4 block slot 10 epoch 1 counted 1 of 4" ∷
    codes "5 accepted" ∷
    codes "6 epoch 2 frozen 3 dormant 1" ∷
    codes "6 stake k00000000000000000000000000000000000000000000000000000030 67" ∷
    codes "6 stake k00000000000000000000000000000000000000000000000000000031 33" ∷
    codes "6 tally 0000000000000000000000000000000000000000000000000000000000000002#1 ParameterChange committee 0/1 need 0/1 drep 67/100 need 1/2 pool 0/33 need none ratified" ∷
    codes "6 tally 0000000000000000000000000000000000000000000000000000000000000002#0 TreasuryWithdrawals committee 0/1 need 0/1 drep 67/100 need 1/2 pool 0/33 need none ratified" ∷
    codes "6 tally 0000000000000000000000000000000000000000000000000000000000000002#2 Info committee 0/1 need never drep 0/100 need never pool 0/33 need never expired" ∷
    codes "6 paid 1k00000000000000000000000000000000000000000000000000000010 7" ∷
    codes "6 kept 1k00000000000000000000000000000000000000000000000000000014 3" ∷
    codes "6 paid 1k00000000000000000000000000000000000000000000000000000012 0" ∷
    codes "6 removed 0000000000000000000000000000000000000000000000000000000000000002#0 enacted refund 10 1k00000000000000000000000000000000000000000000000000000012" ∷
    codes "6 removed 0000000000000000000000000000000000000000000000000000000000000002#1 enacted refund 10 treasury" ∷
    codes "6 removed 0000000000000000000000000000000000000000000000000000000000000002#2 expired refund 10 1k00000000000000000000000000000000000000000000000000000012" ∷
    codes "6 removed 0000000000000000000000000000000000000000000000000000000000000005#0 dropped refund 10 1k00000000000000000000000000000000000000000000000000000012" ∷
    codes "6 retired 00000000000000000000000000000000000000000000000000000050 refund 5 1k00000000000000000000000000000000000000000000000000000012" ∷
    codes "6 retired 00000000000000000000000000000000000000000000000000000051 refund 5 treasury" ∷
    codes "6 pots outputs 120 deposits 16 rewards 142 fees 40 donations 0 treasury 108 reserves 574 supply 1000" ∷
    codes "6 block slot 20 epoch 2 counted 3 of 3" ∷
    []) ≡ true
unfolding digits encode_with
every_line_of_a_boundary = refl
