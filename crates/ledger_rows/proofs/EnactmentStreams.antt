-- Worked rows of whole streams: what is enacted. Made by tests/made/rows_of, from the streams of these names in tests/streams/whole.
use Rattle.std.specs.Prelude.{ℕ, ◌≡◌, List, [], ◌∷◌, Some, None, true, codes, refl}
use Rattle.std.specs.Fmt.{digits}
use Rattle.hex.specs.Hex.{encode_with}
use Rattle.gov_actions.specs.declared.action.Action.TheVariants as actions
use Rattle.gov_ids.specs.declared.Drep.TheVariants as drep
use Rattle.tx_records.specs.declared.record.Record.TheVariants as records
use Rattle.tx_records.specs.declared.record.What.TheVariants as what
use Rattle.tx_records.specs.declared.cert.Cert.TheVariants as certs
use Rattle.tx_records.specs.declared.record.Reading.{Reading}
use Rattle.tx_records.specs.declared.record.Reading.TheVariants.{Read}
use Rattle.ledger_rows.proofs.Base.{h32, key, script, pool, account_on, address_with, ref, action, share, base_params, no_update, spend, proposing, says_all}

abbrev each_parameter_enacted_input : List (ℕ × Reading)
each_parameter_enacted_input =
    (1, Read (records.Genesis (record { network = 1; slot = 0; epoch_length = 10; version = (10, 0); supply = 1000; reserves = 619; treasury = 100; params = (record base_params { drep_voting_thresholds = ((share 0 1) ∷ (share 0 1) ∷ (share 0 1) ∷ (share 0 1) ∷ (share 0 1) ∷ (share 0 1) ∷ (share 0 1) ∷ (share 0 1) ∷ (share 0 1) ∷ (share 0 1) ∷ []) }); document = (h32 0x01); script = None; committee = (Some (record { threshold = (share 0 1); members = (((key 0x70), 100, (Some (key 0x71))) ∷ []) })); outputs = (((ref 0x01 2), (address_with 1 (key 0x01) None), 40, []) ∷ ((ref 0x01 3), (address_with 1 (key 0x01) None), 40, []) ∷ ((ref 0x01 4), (address_with 1 (key 0x01) None), 40, []) ∷ ((ref 0x01 5), (address_with 1 (key 0x01) None), 40, []) ∷ []); accounts = (((key 0x10), 2, 67, None, (Some (drep.Registered (key 0x30)))) ∷ ((key 0x11), 2, 33, None, (Some (drep.Registered (key 0x31)))) ∷ ((key 0x12), 2, 0, None, None) ∷ []); pools = ((record { pool = (pool 0x50); deposit = 5; cost = 0; pledge = 0; margin = (share 0 1); account = (account_on 1 (key 0x12)); key = None }) ∷ []); dreps = (((key 0x30), 5, 20) ∷ ((key 0x31), 5, 20) ∷ []) }))) ∷
    (2, Read (records.Tx (record (spend 0x02 30) { proposals = ((proposing 10 (account_on 1 (key 0x12)) (actions.ParameterChange None (record no_update { max_block_body_size = (Some 7); max_tx_size = (Some 8); max_block_header_size = (Some 9); max_value_size = (Some 10); max_tx_ex_units = (Some (7, 8)); max_block_ex_units = (Some (9, 7)); max_collateral_inputs = (Some 13); min_fee_a = (Some 14); min_fee_b = (Some 15); key_deposit = (Some 16); pool_deposit = (Some 17); rho = (Some (share 1 7)); tau = (Some (share 2 7)); min_pool_cost = (Some 20); coins_per_utxo_byte = (Some 21); prices = (Some ((share 1 7), (share 2 9))); min_fee_ref_script_cost_per_byte = (Some (share 3 7)); a0 = (Some (share 4 7)); e_max = (Some 25); n_opt = (Some 26); cost_models = (Some (0xab ∷ 0xab ∷ 0xab ∷ 0xab ∷ 0xab ∷ 0xab ∷ 0xab ∷ 0xab ∷ 0xab ∷ 0xab ∷ 0xab ∷ 0xab ∷ 0xab ∷ 0xab ∷ 0xab ∷ 0xab ∷ 0xab ∷ 0xab ∷ 0xab ∷ 0xab ∷ 0xab ∷ 0xab ∷ 0xab ∷ 0xab ∷ 0xab ∷ 0xab ∷ 0xab ∷ 0xab ∷ 0xab ∷ 0xab ∷ 0xab ∷ 0xab ∷ [])); collateral_percentage = (Some 28); pool_voting_thresholds = (Some ((share 1 7) ∷ (share 2 7) ∷ (share 3 7) ∷ (share 4 7) ∷ (share 5 7) ∷ [])); drep_voting_thresholds = (Some ((share 1 11) ∷ (share 2 11) ∷ (share 3 11) ∷ (share 4 11) ∷ (share 5 11) ∷ (share 6 11) ∷ (share 7 11) ∷ (share 8 11) ∷ (share 9 11) ∷ (share 10 11) ∷ [])); gov_action_lifetime = (Some 31); gov_action_deposit = (Some 32); drep_deposit = (Some 33); drep_activity = (Some 34); committee_min_size = (Some 35); committee_max_term_length = (Some 36) }) None)) ∷ []) }))) ∷
    (3, Read (records.Block 10 1)) ∷
    (4, Read (records.Print what.State)) ∷
    (5, Read (records.Block 20 1)) ∷
    (6, Read (records.Print what.State)) ∷
    []

pub each_parameter_enacted : says_all each_parameter_enacted_input (
    codes "1 genesis outputs 160 deposits 21 rewards 100 fees 0 donations 0 treasury 100 reserves 619 supply 1000" ∷
    codes "2 accepted" ∷
    codes "3 epoch 1 frozen 3 dormant 0" ∷
    codes "3 stake k00000000000000000000000000000000000000000000000000000030 67" ∷
    codes "3 stake k00000000000000000000000000000000000000000000000000000031 33" ∷
    codes "3 pots outputs 120 deposits 31 rewards 100 fees 30 donations 0 treasury 100 reserves 619 supply 1000" ∷
    codes "3 block slot 10 epoch 1 counted 1 of 3" ∷
    codes "4 now slot 10 epoch 1 version 10.0 dormant 0" ∷
    codes "4 constitution 0000000000000000000000000000000000000000000000000000000000000001 none" ∷
    codes "4 committee threshold 0/1" ∷
    codes "4 member k00000000000000000000000000000000000000000000000000000070 term 100 hot k00000000000000000000000000000000000000000000000000000071" ∷
    codes "4 enacted committee none constitution none hardfork none parameters none" ∷
    codes "4 param maxBlockBodySize 90112" ∷
    codes "4 param maxTxSize 16384" ∷
    codes "4 param maxBlockHeaderSize 1100" ∷
    codes "4 param maxValueSize 5000" ∷
    codes "4 param maxTxExUnits 1000 1000" ∷
    codes "4 param maxBlockExUnits 1000 1000" ∷
    codes "4 param maxCollateralInputs 3" ∷
    codes "4 param minFeeA 0" ∷
    codes "4 param minFeeB 0" ∷
    codes "4 param keyDeposit 2" ∷
    codes "4 param poolDeposit 5" ∷
    codes "4 param rho 0/1" ∷
    codes "4 param tau 0/1" ∷
    codes "4 param minPoolCost 0" ∷
    codes "4 param coinsPerUTxOByte 0" ∷
    codes "4 param prices 0/1 0/1" ∷
    codes "4 param minFeeRefScriptCostPerByte 15/1" ∷
    codes "4 param a0 0/1" ∷
    codes "4 param eMax 18" ∷
    codes "4 param nOpt 500" ∷
    codes "4 param costModels 0000000000000000000000000000000000000000000000000000000000000000" ∷
    codes "4 param collateralPercentage 150" ∷
    codes "4 param poolVotingThresholds 0/1 0/1 0/1 0/1 0/1" ∷
    codes "4 param drepVotingThresholds 0/1 0/1 0/1 0/1 0/1 0/1 0/1 0/1 0/1 0/1" ∷
    codes "4 param govActionLifetime 2" ∷
    codes "4 param govActionDeposit 10" ∷
    codes "4 param drepDeposit 5" ∷
    codes "4 param drepActivity 20" ∷
    codes "4 param committeeMinSize 0" ∷
    codes "4 param committeeMaxTermLength 100" ∷
    codes "4 drep k00000000000000000000000000000000000000000000000000000030 deposit 5 expiry 20" ∷
    codes "4 drep k00000000000000000000000000000000000000000000000000000031 deposit 5 expiry 20" ∷
    codes "4 pool 00000000000000000000000000000000000000000000000000000050 deposit 5 cost 0 pledge 0 margin 0/1 account 1k00000000000000000000000000000000000000000000000000000012 retires never" ∷
    codes "4 account k00000000000000000000000000000000000000000000000000000010 stake 0 deposit 2 rewards 67 pool none drep k00000000000000000000000000000000000000000000000000000030" ∷
    codes "4 account k00000000000000000000000000000000000000000000000000000011 stake 0 deposit 2 rewards 33 pool none drep k00000000000000000000000000000000000000000000000000000031" ∷
    codes "4 account k00000000000000000000000000000000000000000000000000000012 stake 0 deposit 2 rewards 0 pool none drep none" ∷
    codes "4 output 0000000000000000000000000000000000000000000000000000000000000001#3 1k00000000000000000000000000000000000000000000000000000001 40" ∷
    codes "4 output 0000000000000000000000000000000000000000000000000000000000000001#4 1k00000000000000000000000000000000000000000000000000000001 40" ∷
    codes "4 output 0000000000000000000000000000000000000000000000000000000000000001#5 1k00000000000000000000000000000000000000000000000000000001 40" ∷
    codes "4 proposal 0000000000000000000000000000000000000000000000000000000000000002#0 ParameterChange deposit 10 return 1k00000000000000000000000000000000000000000000000000000012 expires 2 previous none" ∷
    codes "4 snapshot mark 00000000000000000000000000000000000000000000000000000050 0" ∷
    codes "4 snapshot set 00000000000000000000000000000000000000000000000000000050 0" ∷
    codes "4 snapshot fees 30" ∷
    codes "4 pending none" ∷
    codes "4 pots outputs 120 deposits 31 rewards 100 fees 30 donations 0 treasury 100 reserves 619 supply 1000" ∷
    codes "5 epoch 2 frozen 3 dormant 1" ∷
    codes "5 stake k00000000000000000000000000000000000000000000000000000030 67" ∷
    codes "5 stake k00000000000000000000000000000000000000000000000000000031 33" ∷
    codes "5 tally 0000000000000000000000000000000000000000000000000000000000000002#0 ParameterChange committee 0/1 need 0/1 drep 0/100 need 0/1 pool 0/0 need 0/1 ratified" ∷
    codes "5 removed 0000000000000000000000000000000000000000000000000000000000000002#0 enacted refund 10 1k00000000000000000000000000000000000000000000000000000012" ∷
    codes "5 pots outputs 120 deposits 21 rewards 110 fees 30 donations 0 treasury 100 reserves 619 supply 1000" ∷
    codes "5 block slot 20 epoch 2 counted 1 of 3" ∷
    codes "6 now slot 20 epoch 2 version 10.0 dormant 1" ∷
    codes "6 constitution 0000000000000000000000000000000000000000000000000000000000000001 none" ∷
    codes "6 committee threshold 0/1" ∷
    codes "6 member k00000000000000000000000000000000000000000000000000000070 term 100 hot k00000000000000000000000000000000000000000000000000000071" ∷
    codes "6 enacted committee none constitution none hardfork none parameters 0000000000000000000000000000000000000000000000000000000000000002#0" ∷
    codes "6 param maxBlockBodySize 7" ∷
    codes "6 param maxTxSize 8" ∷
    codes "6 param maxBlockHeaderSize 9" ∷
    codes "6 param maxValueSize 10" ∷
    codes "6 param maxTxExUnits 7 8" ∷
    codes "6 param maxBlockExUnits 9 7" ∷
    codes "6 param maxCollateralInputs 13" ∷
    codes "6 param minFeeA 14" ∷
    codes "6 param minFeeB 15" ∷
    codes "6 param keyDeposit 16" ∷
    codes "6 param poolDeposit 17" ∷
    codes "6 param rho 1/7" ∷
    codes "6 param tau 2/7" ∷
    codes "6 param minPoolCost 20" ∷
    codes "6 param coinsPerUTxOByte 21" ∷
    codes "6 param prices 1/7 2/9" ∷
    codes "6 param minFeeRefScriptCostPerByte 3/7" ∷
    codes "6 param a0 4/7" ∷
    codes "6 param eMax 25" ∷
    codes "6 param nOpt 26" ∷
    codes "6 param costModels abababababababababababababababababababababababababababababababab" ∷
    codes "6 param collateralPercentage 28" ∷
    codes "6 param poolVotingThresholds 1/7 2/7 3/7 4/7 5/7" ∷
    codes "6 param drepVotingThresholds 1/11 2/11 3/11 4/11 5/11 6/11 7/11 8/11 9/11 10/11" ∷
    codes "6 param govActionLifetime 31" ∷
    codes "6 param govActionDeposit 32" ∷
    codes "6 param drepDeposit 33" ∷
    codes "6 param drepActivity 34" ∷
    codes "6 param committeeMinSize 35" ∷
    codes "6 param committeeMaxTermLength 36" ∷
    codes "6 drep k00000000000000000000000000000000000000000000000000000030 deposit 5 expiry 20" ∷
    codes "6 drep k00000000000000000000000000000000000000000000000000000031 deposit 5 expiry 20" ∷
    codes "6 pool 00000000000000000000000000000000000000000000000000000050 deposit 5 cost 0 pledge 0 margin 0/1 account 1k00000000000000000000000000000000000000000000000000000012 retires never" ∷
    codes "6 account k00000000000000000000000000000000000000000000000000000010 stake 0 deposit 2 rewards 67 pool none drep k00000000000000000000000000000000000000000000000000000030" ∷
    codes "6 account k00000000000000000000000000000000000000000000000000000011 stake 0 deposit 2 rewards 33 pool none drep k00000000000000000000000000000000000000000000000000000031" ∷
    codes "6 account k00000000000000000000000000000000000000000000000000000012 stake 0 deposit 2 rewards 10 pool none drep none" ∷
    codes "6 output 0000000000000000000000000000000000000000000000000000000000000001#3 1k00000000000000000000000000000000000000000000000000000001 40" ∷
    codes "6 output 0000000000000000000000000000000000000000000000000000000000000001#4 1k00000000000000000000000000000000000000000000000000000001 40" ∷
    codes "6 output 0000000000000000000000000000000000000000000000000000000000000001#5 1k00000000000000000000000000000000000000000000000000000001 40" ∷
    codes "6 snapshot mark 00000000000000000000000000000000000000000000000000000050 0" ∷
    codes "6 snapshot set 00000000000000000000000000000000000000000000000000000050 0" ∷
    codes "6 snapshot go 00000000000000000000000000000000000000000000000000000050 0" ∷
    codes "6 snapshot fees 30" ∷
    codes "6 pending none" ∷
    codes "6 pots outputs 120 deposits 21 rewards 110 fees 30 donations 0 treasury 100 reserves 619 supply 1000" ∷
    []) ≡ true
unfolding digits encode_with
each_parameter_enacted = refl

abbrev parameters_laid_over_each_other_input : List (ℕ × Reading)
parameters_laid_over_each_other_input =
    (1, Read (records.Genesis (record { network = 1; slot = 0; epoch_length = 10; version = (10, 0); supply = 1000; reserves = 659; treasury = 100; params = (record base_params { drep_voting_thresholds = ((share 0 1) ∷ (share 0 1) ∷ (share 0 1) ∷ (share 0 1) ∷ (share 0 1) ∷ (share 0 1) ∷ (share 0 1) ∷ (share 0 1) ∷ (share 0 1) ∷ (share 0 1) ∷ []); gov_action_lifetime = 9 }); document = (h32 0x01); script = None; committee = (Some (record { threshold = (share 0 1); members = (((key 0x70), 100, (Some (key 0x71))) ∷ []) })); outputs = (((ref 0x01 2), (address_with 1 (key 0x01) None), 40, []) ∷ ((ref 0x01 3), (address_with 1 (key 0x01) None), 40, []) ∷ ((ref 0x01 4), (address_with 1 (key 0x01) None), 40, []) ∷ []); accounts = (((key 0x10), 2, 67, None, (Some (drep.Registered (key 0x30)))) ∷ ((key 0x11), 2, 33, None, (Some (drep.Registered (key 0x31)))) ∷ ((key 0x12), 2, 0, None, None) ∷ []); pools = ((record { pool = (pool 0x50); deposit = 5; cost = 0; pledge = 0; margin = (share 0 1); account = (account_on 1 (key 0x12)); key = None }) ∷ []); dreps = (((key 0x30), 5, 20) ∷ ((key 0x31), 5, 20) ∷ []) }))) ∷
    (2, Read (records.Tx (record (spend 0x02 30) { proposals = ((proposing 10 (account_on 1 (key 0x12)) (actions.ParameterChange None (record no_update { key_deposit = (Some 4); e_max = (Some 5) }) None)) ∷ []) }))) ∷
    (3, Read (records.Tx (record (spend 0x03 30) { proposals = ((proposing 10 (account_on 1 (key 0x12)) (actions.ParameterChange (Some (action 0x02 0)) (record no_update { key_deposit = (Some 6); n_opt = (Some 1) }) None)) ∷ []) }))) ∷
    (4, Read (records.Block 10 1)) ∷
    (5, Read (records.Block 20 1)) ∷
    (6, Read (records.Print what.State)) ∷
    (7, Read (records.Tx (record (spend 0x04 34) { certs = ((certs.AccountReg (key 0x13) None None None) ∷ []) }))) ∷
    []

pub parameters_laid_over_each_other : says_all parameters_laid_over_each_other_input (
    codes "1 genesis outputs 120 deposits 21 rewards 100 fees 0 donations 0 treasury 100 reserves 659 supply 1000" ∷
    codes "2 accepted" ∷
    codes "3 accepted" ∷
    codes "4 epoch 1 frozen 3 dormant 0" ∷
    codes "4 stake k00000000000000000000000000000000000000000000000000000030 67" ∷
    codes "4 stake k00000000000000000000000000000000000000000000000000000031 33" ∷
    codes "4 pots outputs 40 deposits 41 rewards 100 fees 60 donations 0 treasury 100 reserves 659 supply 1000" ∷
    codes "4 block slot 10 epoch 1 counted 1 of 3" ∷
    codes "5 epoch 2 frozen 3 dormant 1" ∷
    codes "5 stake k00000000000000000000000000000000000000000000000000000030 67" ∷
    codes "5 stake k00000000000000000000000000000000000000000000000000000031 33" ∷
    codes "5 tally 0000000000000000000000000000000000000000000000000000000000000002#0 ParameterChange committee 0/1 need 0/1 drep 0/100 need 0/1 pool 0/0 need none ratified" ∷
    codes "5 tally 0000000000000000000000000000000000000000000000000000000000000003#0 ParameterChange committee 0/1 need 0/1 drep 0/100 need 0/1 pool 0/0 need none ratified" ∷
    codes "5 removed 0000000000000000000000000000000000000000000000000000000000000002#0 enacted refund 10 1k00000000000000000000000000000000000000000000000000000012" ∷
    codes "5 removed 0000000000000000000000000000000000000000000000000000000000000003#0 enacted refund 10 1k00000000000000000000000000000000000000000000000000000012" ∷
    codes "5 pots outputs 40 deposits 21 rewards 120 fees 60 donations 0 treasury 100 reserves 659 supply 1000" ∷
    codes "5 block slot 20 epoch 2 counted 1 of 3" ∷
    codes "6 now slot 20 epoch 2 version 10.0 dormant 1" ∷
    codes "6 constitution 0000000000000000000000000000000000000000000000000000000000000001 none" ∷
    codes "6 committee threshold 0/1" ∷
    codes "6 member k00000000000000000000000000000000000000000000000000000070 term 100 hot k00000000000000000000000000000000000000000000000000000071" ∷
    codes "6 enacted committee none constitution none hardfork none parameters 0000000000000000000000000000000000000000000000000000000000000003#0" ∷
    codes "6 param maxBlockBodySize 90112" ∷
    codes "6 param maxTxSize 16384" ∷
    codes "6 param maxBlockHeaderSize 1100" ∷
    codes "6 param maxValueSize 5000" ∷
    codes "6 param maxTxExUnits 1000 1000" ∷
    codes "6 param maxBlockExUnits 1000 1000" ∷
    codes "6 param maxCollateralInputs 3" ∷
    codes "6 param minFeeA 0" ∷
    codes "6 param minFeeB 0" ∷
    codes "6 param keyDeposit 6" ∷
    codes "6 param poolDeposit 5" ∷
    codes "6 param rho 0/1" ∷
    codes "6 param tau 0/1" ∷
    codes "6 param minPoolCost 0" ∷
    codes "6 param coinsPerUTxOByte 0" ∷
    codes "6 param prices 0/1 0/1" ∷
    codes "6 param minFeeRefScriptCostPerByte 15/1" ∷
    codes "6 param a0 0/1" ∷
    codes "6 param eMax 5" ∷
    codes "6 param nOpt 1" ∷
    codes "6 param costModels 0000000000000000000000000000000000000000000000000000000000000000" ∷
    codes "6 param collateralPercentage 150" ∷
    codes "6 param poolVotingThresholds 0/1 0/1 0/1 0/1 0/1" ∷
    codes "6 param drepVotingThresholds 0/1 0/1 0/1 0/1 0/1 0/1 0/1 0/1 0/1 0/1" ∷
    codes "6 param govActionLifetime 9" ∷
    codes "6 param govActionDeposit 10" ∷
    codes "6 param drepDeposit 5" ∷
    codes "6 param drepActivity 20" ∷
    codes "6 param committeeMinSize 0" ∷
    codes "6 param committeeMaxTermLength 100" ∷
    codes "6 drep k00000000000000000000000000000000000000000000000000000030 deposit 5 expiry 20" ∷
    codes "6 drep k00000000000000000000000000000000000000000000000000000031 deposit 5 expiry 20" ∷
    codes "6 pool 00000000000000000000000000000000000000000000000000000050 deposit 5 cost 0 pledge 0 margin 0/1 account 1k00000000000000000000000000000000000000000000000000000012 retires never" ∷
    codes "6 account k00000000000000000000000000000000000000000000000000000010 stake 0 deposit 2 rewards 67 pool none drep k00000000000000000000000000000000000000000000000000000030" ∷
    codes "6 account k00000000000000000000000000000000000000000000000000000011 stake 0 deposit 2 rewards 33 pool none drep k00000000000000000000000000000000000000000000000000000031" ∷
    codes "6 account k00000000000000000000000000000000000000000000000000000012 stake 0 deposit 2 rewards 20 pool none drep none" ∷
    codes "6 output 0000000000000000000000000000000000000000000000000000000000000001#4 1k00000000000000000000000000000000000000000000000000000001 40" ∷
    codes "6 snapshot mark 00000000000000000000000000000000000000000000000000000050 0" ∷
    codes "6 snapshot set 00000000000000000000000000000000000000000000000000000050 0" ∷
    codes "6 snapshot go 00000000000000000000000000000000000000000000000000000050 0" ∷
    codes "6 snapshot fees 60" ∷
    codes "6 pending none" ∷
    codes "6 pots outputs 40 deposits 21 rewards 120 fees 60 donations 0 treasury 100 reserves 659 supply 1000" ∷
    codes "7 accepted" ∷
    []) ≡ true
unfolding digits encode_with
parameters_laid_over_each_other = refl

abbrev committee_updated_input : List (ℕ × Reading)
committee_updated_input =
    (1, Read (records.Genesis (record { network = 1; slot = 0; epoch_length = 10; version = (10, 0); supply = 1000; reserves = 659; treasury = 100; params = (record base_params { drep_voting_thresholds = ((share 0 1) ∷ (share 0 1) ∷ (share 0 1) ∷ (share 0 1) ∷ (share 0 1) ∷ (share 0 1) ∷ (share 0 1) ∷ (share 0 1) ∷ (share 0 1) ∷ (share 0 1) ∷ []); committee_max_term_length = 7 }); document = (h32 0x01); script = None; committee = (Some (record { threshold = (share 1 2); members = (((key 0x70), 100, (Some (key 0x80))) ∷ ((key 0x71), 50, (Some (key 0x81))) ∷ ((script 0x72), 60, None) ∷ []) })); outputs = (((ref 0x01 2), (address_with 1 (key 0x01) None), 40, []) ∷ ((ref 0x01 3), (address_with 1 (key 0x01) None), 40, []) ∷ ((ref 0x01 4), (address_with 1 (key 0x01) None), 40, []) ∷ []); accounts = (((key 0x10), 2, 67, None, (Some (drep.Registered (key 0x30)))) ∷ ((key 0x11), 2, 33, None, (Some (drep.Registered (key 0x31)))) ∷ ((key 0x12), 2, 0, None, None) ∷ []); pools = ((record { pool = (pool 0x50); deposit = 5; cost = 0; pledge = 0; margin = (share 0 1); account = (account_on 1 (key 0x12)); key = None }) ∷ []); dreps = (((key 0x30), 5, 20) ∷ ((key 0x31), 5, 20) ∷ []) }))) ∷
    (2, Read (records.Tx (record (spend 0x02 30) { proposals = ((proposing 10 (account_on 1 (key 0x12)) (actions.UpdateCommittee None ((key 0x70) ∷ (key 0x77) ∷ []) (((key 0x71), 8) ∷ ((script 0x60), 2) ∷ ((key 0x60), 8) ∷ []) (share 2 3))) ∷ []) }))) ∷
    (3, Read (records.Block 10 1)) ∷
    (4, Read (records.Block 20 1)) ∷
    (5, Read (records.Print what.State)) ∷
    []

pub committee_updated : says_all committee_updated_input (
    codes "1 genesis outputs 120 deposits 21 rewards 100 fees 0 donations 0 treasury 100 reserves 659 supply 1000" ∷
    codes "2 accepted" ∷
    codes "3 epoch 1 frozen 3 dormant 0" ∷
    codes "3 stake k00000000000000000000000000000000000000000000000000000030 67" ∷
    codes "3 stake k00000000000000000000000000000000000000000000000000000031 33" ∷
    codes "3 pots outputs 80 deposits 31 rewards 100 fees 30 donations 0 treasury 100 reserves 659 supply 1000" ∷
    codes "3 block slot 10 epoch 1 counted 1 of 3" ∷
    codes "4 epoch 2 frozen 3 dormant 1" ∷
    codes "4 stake k00000000000000000000000000000000000000000000000000000030 67" ∷
    codes "4 stake k00000000000000000000000000000000000000000000000000000031 33" ∷
    codes "4 tally 0000000000000000000000000000000000000000000000000000000000000002#0 UpdateCommittee committee 0/2 need none drep 0/100 need 0/1 pool 0/0 need 0/1 ratified" ∷
    codes "4 removed 0000000000000000000000000000000000000000000000000000000000000002#0 enacted refund 10 1k00000000000000000000000000000000000000000000000000000012" ∷
    codes "4 pots outputs 80 deposits 21 rewards 110 fees 30 donations 0 treasury 100 reserves 659 supply 1000" ∷
    codes "4 block slot 20 epoch 2 counted 1 of 3" ∷
    codes "5 now slot 20 epoch 2 version 10.0 dormant 1" ∷
    codes "5 constitution 0000000000000000000000000000000000000000000000000000000000000001 none" ∷
    codes "5 committee threshold 2/3" ∷
    codes "5 member k00000000000000000000000000000000000000000000000000000060 term 8 hot none" ∷
    codes "5 member s00000000000000000000000000000000000000000000000000000060 term 2 hot none" ∷
    codes "5 member k00000000000000000000000000000000000000000000000000000071 term 8 hot k00000000000000000000000000000000000000000000000000000081" ∷
    codes "5 member s00000000000000000000000000000000000000000000000000000072 term 60 hot none" ∷
    codes "5 enacted committee 0000000000000000000000000000000000000000000000000000000000000002#0 constitution none hardfork none parameters none" ∷
    codes "5 param maxBlockBodySize 90112" ∷
    codes "5 param maxTxSize 16384" ∷
    codes "5 param maxBlockHeaderSize 1100" ∷
    codes "5 param maxValueSize 5000" ∷
    codes "5 param maxTxExUnits 1000 1000" ∷
    codes "5 param maxBlockExUnits 1000 1000" ∷
    codes "5 param maxCollateralInputs 3" ∷
    codes "5 param minFeeA 0" ∷
    codes "5 param minFeeB 0" ∷
    codes "5 param keyDeposit 2" ∷
    codes "5 param poolDeposit 5" ∷
    codes "5 param rho 0/1" ∷
    codes "5 param tau 0/1" ∷
    codes "5 param minPoolCost 0" ∷
    codes "5 param coinsPerUTxOByte 0" ∷
    codes "5 param prices 0/1 0/1" ∷
    codes "5 param minFeeRefScriptCostPerByte 15/1" ∷
    codes "5 param a0 0/1" ∷
    codes "5 param eMax 18" ∷
    codes "5 param nOpt 500" ∷
    codes "5 param costModels 0000000000000000000000000000000000000000000000000000000000000000" ∷
    codes "5 param collateralPercentage 150" ∷
    codes "5 param poolVotingThresholds 0/1 0/1 0/1 0/1 0/1" ∷
    codes "5 param drepVotingThresholds 0/1 0/1 0/1 0/1 0/1 0/1 0/1 0/1 0/1 0/1" ∷
    codes "5 param govActionLifetime 2" ∷
    codes "5 param govActionDeposit 10" ∷
    codes "5 param drepDeposit 5" ∷
    codes "5 param drepActivity 20" ∷
    codes "5 param committeeMinSize 0" ∷
    codes "5 param committeeMaxTermLength 7" ∷
    codes "5 drep k00000000000000000000000000000000000000000000000000000030 deposit 5 expiry 20" ∷
    codes "5 drep k00000000000000000000000000000000000000000000000000000031 deposit 5 expiry 20" ∷
    codes "5 pool 00000000000000000000000000000000000000000000000000000050 deposit 5 cost 0 pledge 0 margin 0/1 account 1k00000000000000000000000000000000000000000000000000000012 retires never" ∷
    codes "5 account k00000000000000000000000000000000000000000000000000000010 stake 0 deposit 2 rewards 67 pool none drep k00000000000000000000000000000000000000000000000000000030" ∷
    codes "5 account k00000000000000000000000000000000000000000000000000000011 stake 0 deposit 2 rewards 33 pool none drep k00000000000000000000000000000000000000000000000000000031" ∷
    codes "5 account k00000000000000000000000000000000000000000000000000000012 stake 0 deposit 2 rewards 10 pool none drep none" ∷
    codes "5 output 0000000000000000000000000000000000000000000000000000000000000001#3 1k00000000000000000000000000000000000000000000000000000001 40" ∷
    codes "5 output 0000000000000000000000000000000000000000000000000000000000000001#4 1k00000000000000000000000000000000000000000000000000000001 40" ∷
    codes "5 snapshot mark 00000000000000000000000000000000000000000000000000000050 0" ∷
    codes "5 snapshot set 00000000000000000000000000000000000000000000000000000050 0" ∷
    codes "5 snapshot go 00000000000000000000000000000000000000000000000000000050 0" ∷
    codes "5 snapshot fees 30" ∷
    codes "5 pending none" ∷
    codes "5 pots outputs 80 deposits 21 rewards 110 fees 30 donations 0 treasury 100 reserves 659 supply 1000" ∷
    []) ≡ true
unfolding digits encode_with
committee_updated = refl

abbrev new_terms_beyond_the_bound_input : List (ℕ × Reading)
new_terms_beyond_the_bound_input =
    (1, Read (records.Genesis (record { network = 1; slot = 0; epoch_length = 10; version = (10, 0); supply = 1000; reserves = 659; treasury = 100; params = (record base_params { drep_voting_thresholds = ((share 0 1) ∷ (share 0 1) ∷ (share 0 1) ∷ (share 0 1) ∷ (share 0 1) ∷ (share 0 1) ∷ (share 0 1) ∷ (share 0 1) ∷ (share 0 1) ∷ (share 0 1) ∷ []); committee_max_term_length = 7 }); document = (h32 0x01); script = None; committee = (Some (record { threshold = (share 0 1); members = (((key 0x70), 100, (Some (key 0x71))) ∷ []) })); outputs = (((ref 0x01 2), (address_with 1 (key 0x01) None), 40, []) ∷ ((ref 0x01 3), (address_with 1 (key 0x01) None), 40, []) ∷ ((ref 0x01 4), (address_with 1 (key 0x01) None), 40, []) ∷ []); accounts = (((key 0x10), 2, 67, None, (Some (drep.Registered (key 0x30)))) ∷ ((key 0x11), 2, 33, None, (Some (drep.Registered (key 0x31)))) ∷ ((key 0x12), 2, 0, None, None) ∷ []); pools = ((record { pool = (pool 0x50); deposit = 5; cost = 0; pledge = 0; margin = (share 0 1); account = (account_on 1 (key 0x12)); key = None }) ∷ []); dreps = (((key 0x30), 5, 20) ∷ ((key 0x31), 5, 20) ∷ []) }))) ∷
    (2, Read (records.Tx (record (spend 0x02 30) { proposals = ((proposing 10 (account_on 1 (key 0x12)) (actions.UpdateCommittee None [] (((key 0x60), 9) ∷ ((key 0x61), 3) ∷ []) (share 2 3))) ∷ []) }))) ∷
    (3, Read (records.Block 10 1)) ∷
    (4, Read (records.Block 20 1)) ∷
    (5, Read (records.Block 30 1)) ∷
    (6, Read (records.Print what.State)) ∷
    []

pub new_terms_beyond_the_bound : says_all new_terms_beyond_the_bound_input (
    codes "1 genesis outputs 120 deposits 21 rewards 100 fees 0 donations 0 treasury 100 reserves 659 supply 1000" ∷
    codes "2 accepted" ∷
    codes "3 epoch 1 frozen 3 dormant 0" ∷
    codes "3 stake k00000000000000000000000000000000000000000000000000000030 67" ∷
    codes "3 stake k00000000000000000000000000000000000000000000000000000031 33" ∷
    codes "3 pots outputs 80 deposits 31 rewards 100 fees 30 donations 0 treasury 100 reserves 659 supply 1000" ∷
    codes "3 block slot 10 epoch 1 counted 1 of 3" ∷
    codes "4 epoch 2 frozen 3 dormant 0" ∷
    codes "4 stake k00000000000000000000000000000000000000000000000000000030 67" ∷
    codes "4 stake k00000000000000000000000000000000000000000000000000000031 33" ∷
    codes "4 tally 0000000000000000000000000000000000000000000000000000000000000002#0 UpdateCommittee committee 0/1 need none drep 0/100 need 0/1 pool 0/0 need 0/1 waiting" ∷
    codes "4 pots outputs 80 deposits 31 rewards 100 fees 30 donations 0 treasury 100 reserves 659 supply 1000" ∷
    codes "4 block slot 20 epoch 2 counted 1 of 3" ∷
    codes "5 epoch 3 frozen 3 dormant 1" ∷
    codes "5 stake k00000000000000000000000000000000000000000000000000000030 67" ∷
    codes "5 stake k00000000000000000000000000000000000000000000000000000031 33" ∷
    codes "5 tally 0000000000000000000000000000000000000000000000000000000000000002#0 UpdateCommittee committee 0/1 need none drep 0/100 need 0/1 pool 0/0 need 0/1 ratified" ∷
    codes "5 removed 0000000000000000000000000000000000000000000000000000000000000002#0 enacted refund 10 1k00000000000000000000000000000000000000000000000000000012" ∷
    codes "5 pots outputs 80 deposits 21 rewards 110 fees 30 donations 0 treasury 100 reserves 659 supply 1000" ∷
    codes "5 block slot 30 epoch 3 counted 1 of 3" ∷
    codes "6 now slot 30 epoch 3 version 10.0 dormant 1" ∷
    codes "6 constitution 0000000000000000000000000000000000000000000000000000000000000001 none" ∷
    codes "6 committee threshold 2/3" ∷
    codes "6 member k00000000000000000000000000000000000000000000000000000060 term 9 hot none" ∷
    codes "6 member k00000000000000000000000000000000000000000000000000000061 term 3 hot none" ∷
    codes "6 member k00000000000000000000000000000000000000000000000000000070 term 100 hot k00000000000000000000000000000000000000000000000000000071" ∷
    codes "6 enacted committee 0000000000000000000000000000000000000000000000000000000000000002#0 constitution none hardfork none parameters none" ∷
    codes "6 param maxBlockBodySize 90112" ∷
    codes "6 param maxTxSize 16384" ∷
    codes "6 param maxBlockHeaderSize 1100" ∷
    codes "6 param maxValueSize 5000" ∷
    codes "6 param maxTxExUnits 1000 1000" ∷
    codes "6 param maxBlockExUnits 1000 1000" ∷
    codes "6 param maxCollateralInputs 3" ∷
    codes "6 param minFeeA 0" ∷
    codes "6 param minFeeB 0" ∷
    codes "6 param keyDeposit 2" ∷
    codes "6 param poolDeposit 5" ∷
    codes "6 param rho 0/1" ∷
    codes "6 param tau 0/1" ∷
    codes "6 param minPoolCost 0" ∷
    codes "6 param coinsPerUTxOByte 0" ∷
    codes "6 param prices 0/1 0/1" ∷
    codes "6 param minFeeRefScriptCostPerByte 15/1" ∷
    codes "6 param a0 0/1" ∷
    codes "6 param eMax 18" ∷
    codes "6 param nOpt 500" ∷
    codes "6 param costModels 0000000000000000000000000000000000000000000000000000000000000000" ∷
    codes "6 param collateralPercentage 150" ∷
    codes "6 param poolVotingThresholds 0/1 0/1 0/1 0/1 0/1" ∷
    codes "6 param drepVotingThresholds 0/1 0/1 0/1 0/1 0/1 0/1 0/1 0/1 0/1 0/1" ∷
    codes "6 param govActionLifetime 2" ∷
    codes "6 param govActionDeposit 10" ∷
    codes "6 param drepDeposit 5" ∷
    codes "6 param drepActivity 20" ∷
    codes "6 param committeeMinSize 0" ∷
    codes "6 param committeeMaxTermLength 7" ∷
    codes "6 drep k00000000000000000000000000000000000000000000000000000030 deposit 5 expiry 20" ∷
    codes "6 drep k00000000000000000000000000000000000000000000000000000031 deposit 5 expiry 20" ∷
    codes "6 pool 00000000000000000000000000000000000000000000000000000050 deposit 5 cost 0 pledge 0 margin 0/1 account 1k00000000000000000000000000000000000000000000000000000012 retires never" ∷
    codes "6 account k00000000000000000000000000000000000000000000000000000010 stake 0 deposit 2 rewards 67 pool none drep k00000000000000000000000000000000000000000000000000000030" ∷
    codes "6 account k00000000000000000000000000000000000000000000000000000011 stake 0 deposit 2 rewards 33 pool none drep k00000000000000000000000000000000000000000000000000000031" ∷
    codes "6 account k00000000000000000000000000000000000000000000000000000012 stake 0 deposit 2 rewards 10 pool none drep none" ∷
    codes "6 output 0000000000000000000000000000000000000000000000000000000000000001#3 1k00000000000000000000000000000000000000000000000000000001 40" ∷
    codes "6 output 0000000000000000000000000000000000000000000000000000000000000001#4 1k00000000000000000000000000000000000000000000000000000001 40" ∷
    codes "6 snapshot mark 00000000000000000000000000000000000000000000000000000050 0" ∷
    codes "6 snapshot set 00000000000000000000000000000000000000000000000000000050 0" ∷
    codes "6 snapshot go 00000000000000000000000000000000000000000000000000000050 0" ∷
    codes "6 snapshot fees 30" ∷
    codes "6 pending none" ∷
    codes "6 pots outputs 80 deposits 21 rewards 110 fees 30 donations 0 treasury 100 reserves 659 supply 1000" ∷
    []) ≡ true
unfolding digits encode_with
new_terms_beyond_the_bound = refl

abbrev committee_made_anew_input : List (ℕ × Reading)
committee_made_anew_input =
    (1, Read (records.Genesis (record { network = 1; slot = 0; epoch_length = 10; version = (10, 0); supply = 1000; reserves = 619; treasury = 100; params = (record base_params { drep_voting_thresholds = ((share 0 1) ∷ (share 0 1) ∷ (share 0 1) ∷ (share 0 1) ∷ (share 0 1) ∷ (share 0 1) ∷ (share 0 1) ∷ (share 0 1) ∷ (share 0 1) ∷ (share 0 1) ∷ []) }); document = (h32 0x01); script = None; committee = (Some (record { threshold = (share 0 1); members = (((key 0x70), 100, (Some (key 0x71))) ∷ []) })); outputs = (((ref 0x01 2), (address_with 1 (key 0x01) None), 40, []) ∷ ((ref 0x01 3), (address_with 1 (key 0x01) None), 40, []) ∷ ((ref 0x01 4), (address_with 1 (key 0x01) None), 40, []) ∷ ((ref 0x01 5), (address_with 1 (key 0x01) None), 40, []) ∷ []); accounts = (((key 0x10), 2, 67, None, (Some (drep.Registered (key 0x30)))) ∷ ((key 0x11), 2, 33, None, (Some (drep.Registered (key 0x31)))) ∷ ((key 0x12), 2, 0, None, None) ∷ []); pools = ((record { pool = (pool 0x50); deposit = 5; cost = 0; pledge = 0; margin = (share 0 1); account = (account_on 1 (key 0x12)); key = None }) ∷ []); dreps = (((key 0x30), 5, 20) ∷ ((key 0x31), 5, 20) ∷ []) }))) ∷
    (2, Read (records.Tx (record (spend 0x02 30) { proposals = ((proposing 10 (account_on 1 (key 0x12)) (actions.NoConfidence None)) ∷ []) }))) ∷
    (3, Read (records.Block 10 1)) ∷
    (4, Read (records.Block 20 1)) ∷
    (5, Read (records.Print what.State)) ∷
    (6, Read (records.Tx (record (spend 0x03 30) { proposals = ((proposing 10 (account_on 1 (key 0x12)) (actions.UpdateCommittee (Some (action 0x02 0)) ((key 0x70) ∷ []) (((key 0x60), 50) ∷ []) (share 2 3))) ∷ []) }))) ∷
    (7, Read (records.Tx (record (spend 0x04 0) { certs = ((certs.HotAuth (key 0x60) (key 0x61)) ∷ (certs.HotAuth (key 0x70) (key 0x61)) ∷ []) }))) ∷
    (8, Read (records.Block 30 1)) ∷
    (9, Read (records.Tx (record (spend 0x05 40) { certs = ((certs.HotAuth (key 0x60) (key 0x61)) ∷ []) }))) ∷
    (10, Read (records.Block 40 1)) ∷
    (11, Read (records.Print what.State)) ∷
    []

pub committee_made_anew : says_all committee_made_anew_input (
    codes "1 genesis outputs 160 deposits 21 rewards 100 fees 0 donations 0 treasury 100 reserves 619 supply 1000" ∷
    codes "2 accepted" ∷
    codes "3 epoch 1 frozen 3 dormant 0" ∷
    codes "3 stake k00000000000000000000000000000000000000000000000000000030 67" ∷
    codes "3 stake k00000000000000000000000000000000000000000000000000000031 33" ∷
    codes "3 pots outputs 120 deposits 31 rewards 100 fees 30 donations 0 treasury 100 reserves 619 supply 1000" ∷
    codes "3 block slot 10 epoch 1 counted 1 of 3" ∷
    codes "4 epoch 2 frozen 3 dormant 1" ∷
    codes "4 stake k00000000000000000000000000000000000000000000000000000030 67" ∷
    codes "4 stake k00000000000000000000000000000000000000000000000000000031 33" ∷
    codes "4 tally 0000000000000000000000000000000000000000000000000000000000000002#0 NoConfidence committee 0/1 need none drep 0/100 need 0/1 pool 0/0 need 0/1 ratified" ∷
    codes "4 removed 0000000000000000000000000000000000000000000000000000000000000002#0 enacted refund 10 1k00000000000000000000000000000000000000000000000000000012" ∷
    codes "4 pots outputs 120 deposits 21 rewards 110 fees 30 donations 0 treasury 100 reserves 619 supply 1000" ∷
    codes "4 block slot 20 epoch 2 counted 1 of 3" ∷
    codes "5 now slot 20 epoch 2 version 10.0 dormant 1" ∷
    codes "5 constitution 0000000000000000000000000000000000000000000000000000000000000001 none" ∷
    codes "5 committee none" ∷
    codes "5 enacted committee 0000000000000000000000000000000000000000000000000000000000000002#0 constitution none hardfork none parameters none" ∷
    codes "5 param maxBlockBodySize 90112" ∷
    codes "5 param maxTxSize 16384" ∷
    codes "5 param maxBlockHeaderSize 1100" ∷
    codes "5 param maxValueSize 5000" ∷
    codes "5 param maxTxExUnits 1000 1000" ∷
    codes "5 param maxBlockExUnits 1000 1000" ∷
    codes "5 param maxCollateralInputs 3" ∷
    codes "5 param minFeeA 0" ∷
    codes "5 param minFeeB 0" ∷
    codes "5 param keyDeposit 2" ∷
    codes "5 param poolDeposit 5" ∷
    codes "5 param rho 0/1" ∷
    codes "5 param tau 0/1" ∷
    codes "5 param minPoolCost 0" ∷
    codes "5 param coinsPerUTxOByte 0" ∷
    codes "5 param prices 0/1 0/1" ∷
    codes "5 param minFeeRefScriptCostPerByte 15/1" ∷
    codes "5 param a0 0/1" ∷
    codes "5 param eMax 18" ∷
    codes "5 param nOpt 500" ∷
    codes "5 param costModels 0000000000000000000000000000000000000000000000000000000000000000" ∷
    codes "5 param collateralPercentage 150" ∷
    codes "5 param poolVotingThresholds 0/1 0/1 0/1 0/1 0/1" ∷
    codes "5 param drepVotingThresholds 0/1 0/1 0/1 0/1 0/1 0/1 0/1 0/1 0/1 0/1" ∷
    codes "5 param govActionLifetime 2" ∷
    codes "5 param govActionDeposit 10" ∷
    codes "5 param drepDeposit 5" ∷
    codes "5 param drepActivity 20" ∷
    codes "5 param committeeMinSize 0" ∷
    codes "5 param committeeMaxTermLength 100" ∷
    codes "5 drep k00000000000000000000000000000000000000000000000000000030 deposit 5 expiry 20" ∷
    codes "5 drep k00000000000000000000000000000000000000000000000000000031 deposit 5 expiry 20" ∷
    codes "5 pool 00000000000000000000000000000000000000000000000000000050 deposit 5 cost 0 pledge 0 margin 0/1 account 1k00000000000000000000000000000000000000000000000000000012 retires never" ∷
    codes "5 account k00000000000000000000000000000000000000000000000000000010 stake 0 deposit 2 rewards 67 pool none drep k00000000000000000000000000000000000000000000000000000030" ∷
    codes "5 account k00000000000000000000000000000000000000000000000000000011 stake 0 deposit 2 rewards 33 pool none drep k00000000000000000000000000000000000000000000000000000031" ∷
    codes "5 account k00000000000000000000000000000000000000000000000000000012 stake 0 deposit 2 rewards 10 pool none drep none" ∷
    codes "5 output 0000000000000000000000000000000000000000000000000000000000000001#3 1k00000000000000000000000000000000000000000000000000000001 40" ∷
    codes "5 output 0000000000000000000000000000000000000000000000000000000000000001#4 1k00000000000000000000000000000000000000000000000000000001 40" ∷
    codes "5 output 0000000000000000000000000000000000000000000000000000000000000001#5 1k00000000000000000000000000000000000000000000000000000001 40" ∷
    codes "5 snapshot mark 00000000000000000000000000000000000000000000000000000050 0" ∷
    codes "5 snapshot set 00000000000000000000000000000000000000000000000000000050 0" ∷
    codes "5 snapshot go 00000000000000000000000000000000000000000000000000000050 0" ∷
    codes "5 snapshot fees 30" ∷
    codes "5 pending none" ∷
    codes "5 pots outputs 120 deposits 21 rewards 110 fees 30 donations 0 treasury 100 reserves 619 supply 1000" ∷
    codes "6 accepted" ∷
    codes "7 refused 71 ColdKeyUnknown at 1" ∷
    codes "8 epoch 3 frozen 3 dormant 0" ∷
    codes "8 stake k00000000000000000000000000000000000000000000000000000030 67" ∷
    codes "8 stake k00000000000000000000000000000000000000000000000000000031 33" ∷
    codes "8 pots outputs 80 deposits 31 rewards 110 fees 60 donations 0 treasury 100 reserves 619 supply 1000" ∷
    codes "8 block slot 30 epoch 3 counted 1 of 3" ∷
    codes "9 accepted" ∷
    codes "10 epoch 4 frozen 3 dormant 1" ∷
    codes "10 stake k00000000000000000000000000000000000000000000000000000030 67" ∷
    codes "10 stake k00000000000000000000000000000000000000000000000000000031 33" ∷
    codes "10 tally 0000000000000000000000000000000000000000000000000000000000000003#0 UpdateCommittee committee 0/0 need none drep 0/100 need 0/1 pool 0/0 need 0/1 ratified" ∷
    codes "10 removed 0000000000000000000000000000000000000000000000000000000000000003#0 enacted refund 10 1k00000000000000000000000000000000000000000000000000000012" ∷
    codes "10 pots outputs 40 deposits 21 rewards 120 fees 100 donations 0 treasury 100 reserves 619 supply 1000" ∷
    codes "10 block slot 40 epoch 4 counted 1 of 3" ∷
    codes "11 now slot 40 epoch 4 version 10.0 dormant 1" ∷
    codes "11 constitution 0000000000000000000000000000000000000000000000000000000000000001 none" ∷
    codes "11 committee threshold 2/3" ∷
    codes "11 member k00000000000000000000000000000000000000000000000000000060 term 50 hot k00000000000000000000000000000000000000000000000000000061" ∷
    codes "11 enacted committee 0000000000000000000000000000000000000000000000000000000000000003#0 constitution none hardfork none parameters none" ∷
    codes "11 param maxBlockBodySize 90112" ∷
    codes "11 param maxTxSize 16384" ∷
    codes "11 param maxBlockHeaderSize 1100" ∷
    codes "11 param maxValueSize 5000" ∷
    codes "11 param maxTxExUnits 1000 1000" ∷
    codes "11 param maxBlockExUnits 1000 1000" ∷
    codes "11 param maxCollateralInputs 3" ∷
    codes "11 param minFeeA 0" ∷
    codes "11 param minFeeB 0" ∷
    codes "11 param keyDeposit 2" ∷
    codes "11 param poolDeposit 5" ∷
    codes "11 param rho 0/1" ∷
    codes "11 param tau 0/1" ∷
    codes "11 param minPoolCost 0" ∷
    codes "11 param coinsPerUTxOByte 0" ∷
    codes "11 param prices 0/1 0/1" ∷
    codes "11 param minFeeRefScriptCostPerByte 15/1" ∷
    codes "11 param a0 0/1" ∷
    codes "11 param eMax 18" ∷
    codes "11 param nOpt 500" ∷
    codes "11 param costModels 0000000000000000000000000000000000000000000000000000000000000000" ∷
    codes "11 param collateralPercentage 150" ∷
    codes "11 param poolVotingThresholds 0/1 0/1 0/1 0/1 0/1" ∷
    codes "11 param drepVotingThresholds 0/1 0/1 0/1 0/1 0/1 0/1 0/1 0/1 0/1 0/1" ∷
    codes "11 param govActionLifetime 2" ∷
    codes "11 param govActionDeposit 10" ∷
    codes "11 param drepDeposit 5" ∷
    codes "11 param drepActivity 20" ∷
    codes "11 param committeeMinSize 0" ∷
    codes "11 param committeeMaxTermLength 100" ∷
    codes "11 drep k00000000000000000000000000000000000000000000000000000030 deposit 5 expiry 21" ∷
    codes "11 drep k00000000000000000000000000000000000000000000000000000031 deposit 5 expiry 21" ∷
    codes "11 pool 00000000000000000000000000000000000000000000000000000050 deposit 5 cost 0 pledge 0 margin 0/1 account 1k00000000000000000000000000000000000000000000000000000012 retires never" ∷
    codes "11 account k00000000000000000000000000000000000000000000000000000010 stake 0 deposit 2 rewards 67 pool none drep k00000000000000000000000000000000000000000000000000000030" ∷
    codes "11 account k00000000000000000000000000000000000000000000000000000011 stake 0 deposit 2 rewards 33 pool none drep k00000000000000000000000000000000000000000000000000000031" ∷
    codes "11 account k00000000000000000000000000000000000000000000000000000012 stake 0 deposit 2 rewards 20 pool none drep none" ∷
    codes "11 output 0000000000000000000000000000000000000000000000000000000000000001#4 1k00000000000000000000000000000000000000000000000000000001 40" ∷
    codes "11 snapshot mark 00000000000000000000000000000000000000000000000000000050 0" ∷
    codes "11 snapshot set 00000000000000000000000000000000000000000000000000000050 0" ∷
    codes "11 snapshot go 00000000000000000000000000000000000000000000000000000050 0" ∷
    codes "11 snapshot fees 100" ∷
    codes "11 pending none" ∷
    codes "11 pots outputs 40 deposits 21 rewards 120 fees 100 donations 0 treasury 100 reserves 619 supply 1000" ∷
    []) ≡ true
unfolding digits encode_with
committee_made_anew = refl

abbrev hard_forks_in_a_row_input : List (ℕ × Reading)
hard_forks_in_a_row_input =
    (1, Read (records.Genesis (record { network = 1; slot = 0; epoch_length = 10; version = (10, 0); supply = 1000; reserves = 539; treasury = 100; params = (record base_params { drep_voting_thresholds = ((share 0 1) ∷ (share 0 1) ∷ (share 0 1) ∷ (share 0 1) ∷ (share 0 1) ∷ (share 0 1) ∷ (share 0 1) ∷ (share 0 1) ∷ (share 0 1) ∷ (share 0 1) ∷ []); gov_action_lifetime = 9 }); document = (h32 0x01); script = None; committee = (Some (record { threshold = (share 0 1); members = (((key 0x70), 100, (Some (key 0x71))) ∷ []) })); outputs = (((ref 0x01 2), (address_with 1 (key 0x01) None), 40, []) ∷ ((ref 0x01 3), (address_with 1 (key 0x01) None), 40, []) ∷ ((ref 0x01 4), (address_with 1 (key 0x01) None), 40, []) ∷ ((ref 0x01 5), (address_with 1 (key 0x01) None), 40, []) ∷ ((ref 0x01 6), (address_with 1 (key 0x01) None), 40, []) ∷ ((ref 0x01 7), (address_with 1 (key 0x01) None), 40, []) ∷ []); accounts = (((key 0x10), 2, 67, None, (Some (drep.Registered (key 0x30)))) ∷ ((key 0x11), 2, 33, None, (Some (drep.Registered (key 0x31)))) ∷ ((key 0x12), 2, 0, None, None) ∷ []); pools = ((record { pool = (pool 0x50); deposit = 5; cost = 0; pledge = 0; margin = (share 0 1); account = (account_on 1 (key 0x12)); key = None }) ∷ []); dreps = (((key 0x30), 5, 20) ∷ ((key 0x31), 5, 20) ∷ []) }))) ∷
    (2, Read (records.Tx (record (spend 0x02 30) { proposals = ((proposing 10 (account_on 1 (key 0x12)) (actions.HardForkInitiation None (10, 1))) ∷ []) }))) ∷
    (3, Read (records.Tx (record (spend 0x03 30) { proposals = ((proposing 10 (account_on 1 (key 0x12)) (actions.HardForkInitiation (Some (action 0x02 0)) (11, 0))) ∷ []) }))) ∷
    (4, Read (records.Tx (record (spend 0x04 30) { proposals = ((proposing 10 (account_on 1 (key 0x12)) (actions.HardForkInitiation (Some (action 0x03 0)) (12, 0))) ∷ []) }))) ∷
    (5, Read (records.Tx (record (spend 0x05 0) { proposals = ((proposing 10 (account_on 1 (key 0x12)) (actions.HardForkInitiation None (11, 1))) ∷ []) }))) ∷
    (6, Read (records.Tx (record (spend 0x05 30) { proposals = ((proposing 10 (account_on 1 (key 0x12)) (actions.HardForkInitiation (Some (action 0x02 0)) (10, 2))) ∷ []) }))) ∷
    (7, Read (records.Block 10 1)) ∷
    (8, Read (records.Block 20 1)) ∷
    (9, Read (records.Print what.State)) ∷
    (10, Read (records.Block 30 1)) ∷
    (11, Read (records.Print what.State)) ∷
    []

pub hard_forks_in_a_row : says_all hard_forks_in_a_row_input (
    codes "1 genesis outputs 240 deposits 21 rewards 100 fees 0 donations 0 treasury 100 reserves 539 supply 1000" ∷
    codes "2 accepted" ∷
    codes "3 accepted" ∷
    codes "4 accepted" ∷
    codes "5 refused 91 CannotFollow at 0" ∷
    codes "6 accepted" ∷
    codes "7 epoch 1 frozen 3 dormant 0" ∷
    codes "7 stake k00000000000000000000000000000000000000000000000000000030 67" ∷
    codes "7 stake k00000000000000000000000000000000000000000000000000000031 33" ∷
    codes "7 pots outputs 80 deposits 61 rewards 100 fees 120 donations 0 treasury 100 reserves 539 supply 1000" ∷
    codes "7 block slot 10 epoch 1 counted 1 of 3" ∷
    codes "8 epoch 2 frozen 3 dormant 0" ∷
    codes "8 stake k00000000000000000000000000000000000000000000000000000030 67" ∷
    codes "8 stake k00000000000000000000000000000000000000000000000000000031 33" ∷
    codes "8 tally 0000000000000000000000000000000000000000000000000000000000000002#0 HardForkInitiation committee 0/1 need 0/1 drep 0/100 need 0/1 pool 0/0 need 0/1 ratified" ∷
    codes "8 tally 0000000000000000000000000000000000000000000000000000000000000003#0 HardForkInitiation committee 0/1 need 0/1 drep 0/100 need 0/1 pool 0/0 need 0/1 waiting" ∷
    codes "8 tally 0000000000000000000000000000000000000000000000000000000000000004#0 HardForkInitiation committee 0/1 need 0/1 drep 0/100 need 0/1 pool 0/0 need 0/1 waiting" ∷
    codes "8 tally 0000000000000000000000000000000000000000000000000000000000000005#0 HardForkInitiation committee 0/1 need 0/1 drep 0/100 need 0/1 pool 0/0 need 0/1 waiting" ∷
    codes "8 removed 0000000000000000000000000000000000000000000000000000000000000002#0 enacted refund 10 1k00000000000000000000000000000000000000000000000000000012" ∷
    codes "8 pots outputs 80 deposits 51 rewards 110 fees 120 donations 0 treasury 100 reserves 539 supply 1000" ∷
    codes "8 block slot 20 epoch 2 counted 1 of 3" ∷
    codes "9 now slot 20 epoch 2 version 10.1 dormant 0" ∷
    codes "9 constitution 0000000000000000000000000000000000000000000000000000000000000001 none" ∷
    codes "9 committee threshold 0/1" ∷
    codes "9 member k00000000000000000000000000000000000000000000000000000070 term 100 hot k00000000000000000000000000000000000000000000000000000071" ∷
    codes "9 enacted committee none constitution none hardfork 0000000000000000000000000000000000000000000000000000000000000002#0 parameters none" ∷
    codes "9 param maxBlockBodySize 90112" ∷
    codes "9 param maxTxSize 16384" ∷
    codes "9 param maxBlockHeaderSize 1100" ∷
    codes "9 param maxValueSize 5000" ∷
    codes "9 param maxTxExUnits 1000 1000" ∷
    codes "9 param maxBlockExUnits 1000 1000" ∷
    codes "9 param maxCollateralInputs 3" ∷
    codes "9 param minFeeA 0" ∷
    codes "9 param minFeeB 0" ∷
    codes "9 param keyDeposit 2" ∷
    codes "9 param poolDeposit 5" ∷
    codes "9 param rho 0/1" ∷
    codes "9 param tau 0/1" ∷
    codes "9 param minPoolCost 0" ∷
    codes "9 param coinsPerUTxOByte 0" ∷
    codes "9 param prices 0/1 0/1" ∷
    codes "9 param minFeeRefScriptCostPerByte 15/1" ∷
    codes "9 param a0 0/1" ∷
    codes "9 param eMax 18" ∷
    codes "9 param nOpt 500" ∷
    codes "9 param costModels 0000000000000000000000000000000000000000000000000000000000000000" ∷
    codes "9 param collateralPercentage 150" ∷
    codes "9 param poolVotingThresholds 0/1 0/1 0/1 0/1 0/1" ∷
    codes "9 param drepVotingThresholds 0/1 0/1 0/1 0/1 0/1 0/1 0/1 0/1 0/1 0/1" ∷
    codes "9 param govActionLifetime 9" ∷
    codes "9 param govActionDeposit 10" ∷
    codes "9 param drepDeposit 5" ∷
    codes "9 param drepActivity 20" ∷
    codes "9 param committeeMinSize 0" ∷
    codes "9 param committeeMaxTermLength 100" ∷
    codes "9 drep k00000000000000000000000000000000000000000000000000000030 deposit 5 expiry 20" ∷
    codes "9 drep k00000000000000000000000000000000000000000000000000000031 deposit 5 expiry 20" ∷
    codes "9 pool 00000000000000000000000000000000000000000000000000000050 deposit 5 cost 0 pledge 0 margin 0/1 account 1k00000000000000000000000000000000000000000000000000000012 retires never" ∷
    codes "9 account k00000000000000000000000000000000000000000000000000000010 stake 0 deposit 2 rewards 67 pool none drep k00000000000000000000000000000000000000000000000000000030" ∷
    codes "9 account k00000000000000000000000000000000000000000000000000000011 stake 0 deposit 2 rewards 33 pool none drep k00000000000000000000000000000000000000000000000000000031" ∷
    codes "9 account k00000000000000000000000000000000000000000000000000000012 stake 0 deposit 2 rewards 10 pool none drep none" ∷
    codes "9 output 0000000000000000000000000000000000000000000000000000000000000001#6 1k00000000000000000000000000000000000000000000000000000001 40" ∷
    codes "9 output 0000000000000000000000000000000000000000000000000000000000000001#7 1k00000000000000000000000000000000000000000000000000000001 40" ∷
    codes "9 proposal 0000000000000000000000000000000000000000000000000000000000000003#0 HardForkInitiation deposit 10 return 1k00000000000000000000000000000000000000000000000000000012 expires 9 previous 0000000000000000000000000000000000000000000000000000000000000002#0" ∷
    codes "9 proposal 0000000000000000000000000000000000000000000000000000000000000004#0 HardForkInitiation deposit 10 return 1k00000000000000000000000000000000000000000000000000000012 expires 9 previous 0000000000000000000000000000000000000000000000000000000000000003#0" ∷
    codes "9 proposal 0000000000000000000000000000000000000000000000000000000000000005#0 HardForkInitiation deposit 10 return 1k00000000000000000000000000000000000000000000000000000012 expires 9 previous 0000000000000000000000000000000000000000000000000000000000000002#0" ∷
    codes "9 snapshot mark 00000000000000000000000000000000000000000000000000000050 0" ∷
    codes "9 snapshot set 00000000000000000000000000000000000000000000000000000050 0" ∷
    codes "9 snapshot go 00000000000000000000000000000000000000000000000000000050 0" ∷
    codes "9 snapshot fees 120" ∷
    codes "9 pending none" ∷
    codes "9 pots outputs 80 deposits 51 rewards 110 fees 120 donations 0 treasury 100 reserves 539 supply 1000" ∷
    codes "10 epoch 3 frozen 3 dormant 0" ∷
    codes "10 stake k00000000000000000000000000000000000000000000000000000030 67" ∷
    codes "10 stake k00000000000000000000000000000000000000000000000000000031 33" ∷
    codes "10 tally 0000000000000000000000000000000000000000000000000000000000000003#0 HardForkInitiation committee 0/1 need 0/1 drep 0/100 need 0/1 pool 0/0 need 0/1 ratified" ∷
    codes "10 tally 0000000000000000000000000000000000000000000000000000000000000004#0 HardForkInitiation committee 0/1 need 0/1 drep 0/100 need 0/1 pool 0/0 need 0/1 waiting" ∷
    codes "10 tally 0000000000000000000000000000000000000000000000000000000000000005#0 HardForkInitiation committee 0/1 need 0/1 drep 0/100 need 0/1 pool 0/0 need 0/1 waiting" ∷
    codes "10 removed 0000000000000000000000000000000000000000000000000000000000000003#0 enacted refund 10 1k00000000000000000000000000000000000000000000000000000012" ∷
    codes "10 removed 0000000000000000000000000000000000000000000000000000000000000005#0 dropped refund 10 1k00000000000000000000000000000000000000000000000000000012" ∷
    codes "10 pots outputs 80 deposits 31 rewards 130 fees 120 donations 0 treasury 100 reserves 539 supply 1000" ∷
    codes "10 block slot 30 epoch 3 counted 1 of 3" ∷
    codes "11 now slot 30 epoch 3 version 11.0 dormant 0" ∷
    codes "11 constitution 0000000000000000000000000000000000000000000000000000000000000001 none" ∷
    codes "11 committee threshold 0/1" ∷
    codes "11 member k00000000000000000000000000000000000000000000000000000070 term 100 hot k00000000000000000000000000000000000000000000000000000071" ∷
    codes "11 enacted committee none constitution none hardfork 0000000000000000000000000000000000000000000000000000000000000003#0 parameters none" ∷
    codes "11 param maxBlockBodySize 90112" ∷
    codes "11 param maxTxSize 16384" ∷
    codes "11 param maxBlockHeaderSize 1100" ∷
    codes "11 param maxValueSize 5000" ∷
    codes "11 param maxTxExUnits 1000 1000" ∷
    codes "11 param maxBlockExUnits 1000 1000" ∷
    codes "11 param maxCollateralInputs 3" ∷
    codes "11 param minFeeA 0" ∷
    codes "11 param minFeeB 0" ∷
    codes "11 param keyDeposit 2" ∷
    codes "11 param poolDeposit 5" ∷
    codes "11 param rho 0/1" ∷
    codes "11 param tau 0/1" ∷
    codes "11 param minPoolCost 0" ∷
    codes "11 param coinsPerUTxOByte 0" ∷
    codes "11 param prices 0/1 0/1" ∷
    codes "11 param minFeeRefScriptCostPerByte 15/1" ∷
    codes "11 param a0 0/1" ∷
    codes "11 param eMax 18" ∷
    codes "11 param nOpt 500" ∷
    codes "11 param costModels 0000000000000000000000000000000000000000000000000000000000000000" ∷
    codes "11 param collateralPercentage 150" ∷
    codes "11 param poolVotingThresholds 0/1 0/1 0/1 0/1 0/1" ∷
    codes "11 param drepVotingThresholds 0/1 0/1 0/1 0/1 0/1 0/1 0/1 0/1 0/1 0/1" ∷
    codes "11 param govActionLifetime 9" ∷
    codes "11 param govActionDeposit 10" ∷
    codes "11 param drepDeposit 5" ∷
    codes "11 param drepActivity 20" ∷
    codes "11 param committeeMinSize 0" ∷
    codes "11 param committeeMaxTermLength 100" ∷
    codes "11 drep k00000000000000000000000000000000000000000000000000000030 deposit 5 expiry 20" ∷
    codes "11 drep k00000000000000000000000000000000000000000000000000000031 deposit 5 expiry 20" ∷
    codes "11 pool 00000000000000000000000000000000000000000000000000000050 deposit 5 cost 0 pledge 0 margin 0/1 account 1k00000000000000000000000000000000000000000000000000000012 retires never" ∷
    codes "11 account k00000000000000000000000000000000000000000000000000000010 stake 0 deposit 2 rewards 67 pool none drep k00000000000000000000000000000000000000000000000000000030" ∷
    codes "11 account k00000000000000000000000000000000000000000000000000000011 stake 0 deposit 2 rewards 33 pool none drep k00000000000000000000000000000000000000000000000000000031" ∷
    codes "11 account k00000000000000000000000000000000000000000000000000000012 stake 0 deposit 2 rewards 30 pool none drep none" ∷
    codes "11 output 0000000000000000000000000000000000000000000000000000000000000001#6 1k00000000000000000000000000000000000000000000000000000001 40" ∷
    codes "11 output 0000000000000000000000000000000000000000000000000000000000000001#7 1k00000000000000000000000000000000000000000000000000000001 40" ∷
    codes "11 proposal 0000000000000000000000000000000000000000000000000000000000000004#0 HardForkInitiation deposit 10 return 1k00000000000000000000000000000000000000000000000000000012 expires 9 previous 0000000000000000000000000000000000000000000000000000000000000003#0" ∷
    codes "11 snapshot mark 00000000000000000000000000000000000000000000000000000050 0" ∷
    codes "11 snapshot set 00000000000000000000000000000000000000000000000000000050 0" ∷
    codes "11 snapshot go 00000000000000000000000000000000000000000000000000000050 0" ∷
    codes "11 snapshot fees 120" ∷
    codes "11 pending none" ∷
    codes "11 pots outputs 80 deposits 31 rewards 130 fees 120 donations 0 treasury 100 reserves 539 supply 1000" ∷
    []) ≡ true
unfolding digits encode_with
hard_forks_in_a_row = refl
