-- Worked rows of whole streams: the genesis. Made by tests/made/rows_of, from the streams of these names in tests/streams/whole.
use Rattle.std.specs.Prelude.{ℕ, ◌≡◌, List, [], ◌∷◌, Some, None, true, codes, refl}
use Rattle.std.specs.Fmt.{digits}
use Rattle.hex.specs.Hex.{encode_with}
use Rattle.gov_ids.specs.declared.Drep.TheVariants as drep
use Rattle.tx_records.specs.declared.genesis.GenesisRule.TheVariants as genesis
use Rattle.tx_records.specs.declared.record.Record.TheVariants as records
use Rattle.tx_records.specs.declared.record.What.TheVariants as what
use Rattle.tx_records.specs.declared.record.Reading.{Reading}
use Rattle.tx_records.specs.declared.record.Reading.TheVariants.{Read}
use Rattle.ledger_rows.proofs.Base.{h28, h32, key, script, pool, account_on, address_with, ref, share, base_params, says_all, rule_broken_by}

abbrev genesis_of_distinct_parameters_input : List (ℕ × Reading)
genesis_of_distinct_parameters_input =
    (1, Read (records.Genesis (record { network = 0; slot = 25; epoch_length = 10; version = (11, 3); supply = 1000; reserves = 875; treasury = 100; params = (record base_params { max_block_body_size = 7; max_tx_size = 8; max_block_header_size = 9; max_value_size = 10; max_tx_ex_units = (7, 8); max_block_ex_units = (9, 7); max_collateral_inputs = 13; min_fee_a = 14; min_fee_b = 15; key_deposit = 16; pool_deposit = 17; rho = (share 1 7); tau = (share 2 7); min_pool_cost = 20; coins_per_utxo_byte = 21; prices = ((share 1 7), (share 2 9)); min_fee_ref_script_cost_per_byte = (share 3 7); a0 = (share 4 7); e_max = 25; n_opt = 26; cost_models = (0xab ∷ 0xab ∷ 0xab ∷ 0xab ∷ 0xab ∷ 0xab ∷ 0xab ∷ 0xab ∷ 0xab ∷ 0xab ∷ 0xab ∷ 0xab ∷ 0xab ∷ 0xab ∷ 0xab ∷ 0xab ∷ 0xab ∷ 0xab ∷ 0xab ∷ 0xab ∷ 0xab ∷ 0xab ∷ 0xab ∷ 0xab ∷ 0xab ∷ 0xab ∷ 0xab ∷ 0xab ∷ 0xab ∷ 0xab ∷ 0xab ∷ 0xab ∷ []); collateral_percentage = 28; pool_voting_thresholds = ((share 1 7) ∷ (share 2 7) ∷ (share 3 7) ∷ (share 4 7) ∷ (share 5 7) ∷ []); drep_voting_thresholds = ((share 1 11) ∷ (share 2 11) ∷ (share 3 11) ∷ (share 4 11) ∷ (share 5 11) ∷ (share 6 11) ∷ (share 7 11) ∷ (share 8 11) ∷ (share 9 11) ∷ (share 10 11) ∷ []); gov_action_lifetime = 31; gov_action_deposit = 32; drep_deposit = 33; drep_activity = 34; committee_min_size = 35; committee_max_term_length = 36 }); document = (h32 0x01); script = (Some (h28 0x98)); committee = (Some (record { threshold = (share 0 1); members = (((key 0x70), 100, (Some (key 0x71))) ∷ []) })); outputs = (((ref 0x01 2), (address_with 0 (key 0x01) (Some (script 0x04))), 20, []) ∷ []); accounts = (((key 0x12), 2, 3, None, None) ∷ []); pools = []; dreps = [] }))) ∷
    (2, Read (records.Print what.State)) ∷
    []

pub genesis_of_distinct_parameters : says_all genesis_of_distinct_parameters_input (
    codes "1 genesis outputs 20 deposits 2 rewards 3 fees 0 donations 0 treasury 100 reserves 875 supply 1000" ∷
    codes "2 now slot 25 epoch 2 version 11.3 dormant 0" ∷
    codes "2 constitution 0000000000000000000000000000000000000000000000000000000000000001 00000000000000000000000000000000000000000000000000000098" ∷
    codes "2 committee threshold 0/1" ∷
    codes "2 member k00000000000000000000000000000000000000000000000000000070 term 100 hot k00000000000000000000000000000000000000000000000000000071" ∷
    codes "2 enacted committee none constitution none hardfork none parameters none" ∷
    codes "2 param maxBlockBodySize 7" ∷
    codes "2 param maxTxSize 8" ∷
    codes "2 param maxBlockHeaderSize 9" ∷
    codes "2 param maxValueSize 10" ∷
    codes "2 param maxTxExUnits 7 8" ∷
    codes "2 param maxBlockExUnits 9 7" ∷
    codes "2 param maxCollateralInputs 13" ∷
    codes "2 param minFeeA 14" ∷
    codes "2 param minFeeB 15" ∷
    codes "2 param keyDeposit 16" ∷
    codes "2 param poolDeposit 17" ∷
    codes "2 param rho 1/7" ∷
    codes "2 param tau 2/7" ∷
    codes "2 param minPoolCost 20" ∷
    codes "2 param coinsPerUTxOByte 21" ∷
    codes "2 param prices 1/7 2/9" ∷
    codes "2 param minFeeRefScriptCostPerByte 3/7" ∷
    codes "2 param a0 4/7" ∷
    codes "2 param eMax 25" ∷
    codes "2 param nOpt 26" ∷
    codes "2 param costModels abababababababababababababababababababababababababababababababab" ∷
    codes "2 param collateralPercentage 28" ∷
    codes "2 param poolVotingThresholds 1/7 2/7 3/7 4/7 5/7" ∷
    codes "2 param drepVotingThresholds 1/11 2/11 3/11 4/11 5/11 6/11 7/11 8/11 9/11 10/11" ∷
    codes "2 param govActionLifetime 31" ∷
    codes "2 param govActionDeposit 32" ∷
    codes "2 param drepDeposit 33" ∷
    codes "2 param drepActivity 34" ∷
    codes "2 param committeeMinSize 35" ∷
    codes "2 param committeeMaxTermLength 36" ∷
    codes "2 account s00000000000000000000000000000000000000000000000000000004 stake 20 unregistered" ∷
    codes "2 account k00000000000000000000000000000000000000000000000000000012 stake 0 deposit 2 rewards 3 pool none drep none" ∷
    codes "2 output 0000000000000000000000000000000000000000000000000000000000000001#2 0k00000000000000000000000000000000000000000000000000000001+s00000000000000000000000000000000000000000000000000000004 20" ∷
    codes "2 snapshot fees 0" ∷
    codes "2 pending none" ∷
    codes "2 pots outputs 20 deposits 2 rewards 3 fees 0 donations 0 treasury 100 reserves 875 supply 1000" ∷
    []) ≡ true
unfolding digits encode_with
genesis_of_distinct_parameters = refl

abbrev genesis_in_another_order_input : List (ℕ × Reading)
genesis_in_another_order_input =
    (1, Read (records.Genesis (record { network = 1; slot = 0; epoch_length = 10; version = (10, 0); supply = 1000; reserves = 837; treasury = 100; params = base_params; document = (h32 0x01); script = None; committee = (Some (record { threshold = (share 1 2); members = (((script 0x70), 3, None) ∷ ((key 0x71), 2, (Some (key 0x80))) ∷ ((key 0x70), 1, (Some (script 0x80))) ∷ []) })); outputs = (((ref 0x02 1), (address_with 1 (script 0x01) None), 1, []) ∷ ((ref 0x01 12), (address_with 1 (key 0x01) (Some (script 0x12))), 2, []) ∷ ((ref 0x01 3), (address_with 1 (key 0x02) (Some (key 0x12))), 4, []) ∷ ((ref 0x02 0), (address_with 1 (key 0x01) None), 8, []) ∷ []); accounts = (((script 0x10), 2, 1, (Some (pool 0x51)), (Some (drep.Registered (script 0x30)))) ∷ ((key 0x12), 2, 2, (Some (pool 0x50)), None) ∷ ((key 0x10), 2, 3, None, (Some drep.Abstain)) ∷ ((script 0x09), 2, 4, (Some (pool 0x50)), (Some drep.NoConfidence)) ∷ []); pools = ((record { pool = (pool 0x51); deposit = 6; cost = 7; pledge = 8; margin = (share 1 2); account = (account_on 1 (key 0x12)); key = None }) ∷ (record { pool = (pool 0x50); deposit = 9; cost = 1; pledge = 2; margin = (share 1 3); account = (account_on 1 (script 0x09)); key = None }) ∷ []); dreps = (((script 0x30), 4, 3) ∷ ((key 0x31), 5, 2) ∷ ((key 0x30), 6, 1) ∷ []) }))) ∷
    (2, Read (records.Print what.State)) ∷
    (3, Read (records.Block 3 4)) ∷
    (4, Read (records.Block 10 1)) ∷
    (5, Read (records.Print what.State)) ∷
    []

pub genesis_in_another_order : says_all genesis_in_another_order_input (
    codes "1 genesis outputs 15 deposits 38 rewards 10 fees 0 donations 0 treasury 100 reserves 837 supply 1000" ∷
    codes "2 now slot 0 epoch 0 version 10.0 dormant 0" ∷
    codes "2 constitution 0000000000000000000000000000000000000000000000000000000000000001 none" ∷
    codes "2 committee threshold 1/2" ∷
    codes "2 member k00000000000000000000000000000000000000000000000000000070 term 1 hot s00000000000000000000000000000000000000000000000000000080" ∷
    codes "2 member s00000000000000000000000000000000000000000000000000000070 term 3 hot none" ∷
    codes "2 member k00000000000000000000000000000000000000000000000000000071 term 2 hot k00000000000000000000000000000000000000000000000000000080" ∷
    codes "2 enacted committee none constitution none hardfork none parameters none" ∷
    codes "2 param maxBlockBodySize 90112" ∷
    codes "2 param maxTxSize 16384" ∷
    codes "2 param maxBlockHeaderSize 1100" ∷
    codes "2 param maxValueSize 5000" ∷
    codes "2 param maxTxExUnits 1000 1000" ∷
    codes "2 param maxBlockExUnits 1000 1000" ∷
    codes "2 param maxCollateralInputs 3" ∷
    codes "2 param minFeeA 0" ∷
    codes "2 param minFeeB 0" ∷
    codes "2 param keyDeposit 2" ∷
    codes "2 param poolDeposit 5" ∷
    codes "2 param rho 0/1" ∷
    codes "2 param tau 0/1" ∷
    codes "2 param minPoolCost 0" ∷
    codes "2 param coinsPerUTxOByte 0" ∷
    codes "2 param prices 0/1 0/1" ∷
    codes "2 param minFeeRefScriptCostPerByte 15/1" ∷
    codes "2 param a0 0/1" ∷
    codes "2 param eMax 18" ∷
    codes "2 param nOpt 500" ∷
    codes "2 param costModels 0000000000000000000000000000000000000000000000000000000000000000" ∷
    codes "2 param collateralPercentage 150" ∷
    codes "2 param poolVotingThresholds 0/1 0/1 0/1 0/1 0/1" ∷
    codes "2 param drepVotingThresholds 67/100 67/100 67/100 67/100 67/100 67/100 67/100 67/100 67/100 67/100" ∷
    codes "2 param govActionLifetime 2" ∷
    codes "2 param govActionDeposit 10" ∷
    codes "2 param drepDeposit 5" ∷
    codes "2 param drepActivity 20" ∷
    codes "2 param committeeMinSize 0" ∷
    codes "2 param committeeMaxTermLength 100" ∷
    codes "2 drep k00000000000000000000000000000000000000000000000000000030 deposit 6 expiry 1" ∷
    codes "2 drep s00000000000000000000000000000000000000000000000000000030 deposit 4 expiry 3" ∷
    codes "2 drep k00000000000000000000000000000000000000000000000000000031 deposit 5 expiry 2" ∷
    codes "2 pool 00000000000000000000000000000000000000000000000000000050 deposit 9 cost 1 pledge 2 margin 1/3 account 1s00000000000000000000000000000000000000000000000000000009 retires never" ∷
    codes "2 pool 00000000000000000000000000000000000000000000000000000051 deposit 6 cost 7 pledge 8 margin 1/2 account 1k00000000000000000000000000000000000000000000000000000012 retires never" ∷
    codes "2 account s00000000000000000000000000000000000000000000000000000009 stake 0 deposit 2 rewards 4 pool 00000000000000000000000000000000000000000000000000000050 drep no-confidence" ∷
    codes "2 account k00000000000000000000000000000000000000000000000000000010 stake 0 deposit 2 rewards 3 pool none drep abstain" ∷
    codes "2 account s00000000000000000000000000000000000000000000000000000010 stake 0 deposit 2 rewards 1 pool 00000000000000000000000000000000000000000000000000000051 drep s00000000000000000000000000000000000000000000000000000030" ∷
    codes "2 account k00000000000000000000000000000000000000000000000000000012 stake 4 deposit 2 rewards 2 pool 00000000000000000000000000000000000000000000000000000050 drep none" ∷
    codes "2 account s00000000000000000000000000000000000000000000000000000012 stake 2 unregistered" ∷
    codes "2 output 0000000000000000000000000000000000000000000000000000000000000001#3 1k00000000000000000000000000000000000000000000000000000002+k00000000000000000000000000000000000000000000000000000012 4" ∷
    codes "2 output 0000000000000000000000000000000000000000000000000000000000000001#12 1k00000000000000000000000000000000000000000000000000000001+s00000000000000000000000000000000000000000000000000000012 2" ∷
    codes "2 output 0000000000000000000000000000000000000000000000000000000000000002#0 1k00000000000000000000000000000000000000000000000000000001 8" ∷
    codes "2 output 0000000000000000000000000000000000000000000000000000000000000002#1 1s00000000000000000000000000000000000000000000000000000001 1" ∷
    codes "2 snapshot mark 00000000000000000000000000000000000000000000000000000050 10" ∷
    codes "2 snapshot mark 00000000000000000000000000000000000000000000000000000051 1" ∷
    codes "2 snapshot fees 0" ∷
    codes "2 pending none" ∷
    codes "2 pots outputs 15 deposits 38 rewards 10 fees 0 donations 0 treasury 100 reserves 837 supply 1000" ∷
    codes "3 block slot 3 epoch 0 counted 4 of 5" ∷
    codes "4 epoch 1 frozen 5 dormant 1" ∷
    codes "4 stake s00000000000000000000000000000000000000000000000000000030 1" ∷
    codes "4 stake abstain 3" ∷
    codes "4 stake no-confidence 4" ∷
    codes "4 pots outputs 15 deposits 38 rewards 10 fees 0 donations 0 treasury 100 reserves 837 supply 1000" ∷
    codes "4 block slot 10 epoch 1 counted 1 of 5" ∷
    codes "5 now slot 10 epoch 1 version 10.0 dormant 1" ∷
    codes "5 constitution 0000000000000000000000000000000000000000000000000000000000000001 none" ∷
    codes "5 committee threshold 1/2" ∷
    codes "5 member k00000000000000000000000000000000000000000000000000000070 term 1 hot s00000000000000000000000000000000000000000000000000000080" ∷
    codes "5 member s00000000000000000000000000000000000000000000000000000070 term 3 hot none" ∷
    codes "5 member k00000000000000000000000000000000000000000000000000000071 term 2 hot k00000000000000000000000000000000000000000000000000000080" ∷
    codes "5 enacted committee none constitution none hardfork none parameters none" ∷
    codes "5 param maxBlockBodySize 90112" ∷
    codes "5 param maxTxSize 16384" ∷
    codes "5 param maxBlockHeaderSize 1100" ∷
    codes "5 param maxValueSize 5000" ∷
    codes "5 param maxTxExUnits 1000 1000" ∷
    codes "5 param maxBlockExUnits 1000 1000" ∷
    codes "5 param maxCollateralInputs 3" ∷
    codes "5 param minFeeA 0" ∷
    codes "5 param minFeeB 0" ∷
    codes "5 param keyDeposit 2" ∷
    codes "5 param poolDeposit 5" ∷
    codes "5 param rho 0/1" ∷
    codes "5 param tau 0/1" ∷
    codes "5 param minPoolCost 0" ∷
    codes "5 param coinsPerUTxOByte 0" ∷
    codes "5 param prices 0/1 0/1" ∷
    codes "5 param minFeeRefScriptCostPerByte 15/1" ∷
    codes "5 param a0 0/1" ∷
    codes "5 param eMax 18" ∷
    codes "5 param nOpt 500" ∷
    codes "5 param costModels 0000000000000000000000000000000000000000000000000000000000000000" ∷
    codes "5 param collateralPercentage 150" ∷
    codes "5 param poolVotingThresholds 0/1 0/1 0/1 0/1 0/1" ∷
    codes "5 param drepVotingThresholds 67/100 67/100 67/100 67/100 67/100 67/100 67/100 67/100 67/100 67/100" ∷
    codes "5 param govActionLifetime 2" ∷
    codes "5 param govActionDeposit 10" ∷
    codes "5 param drepDeposit 5" ∷
    codes "5 param drepActivity 20" ∷
    codes "5 param committeeMinSize 0" ∷
    codes "5 param committeeMaxTermLength 100" ∷
    codes "5 drep k00000000000000000000000000000000000000000000000000000030 deposit 6 expiry 1" ∷
    codes "5 drep s00000000000000000000000000000000000000000000000000000030 deposit 4 expiry 3" ∷
    codes "5 drep k00000000000000000000000000000000000000000000000000000031 deposit 5 expiry 2" ∷
    codes "5 pool 00000000000000000000000000000000000000000000000000000050 deposit 9 cost 1 pledge 2 margin 1/3 account 1s00000000000000000000000000000000000000000000000000000009 retires never" ∷
    codes "5 pool 00000000000000000000000000000000000000000000000000000051 deposit 6 cost 7 pledge 8 margin 1/2 account 1k00000000000000000000000000000000000000000000000000000012 retires never" ∷
    codes "5 account s00000000000000000000000000000000000000000000000000000009 stake 0 deposit 2 rewards 4 pool 00000000000000000000000000000000000000000000000000000050 drep no-confidence" ∷
    codes "5 account k00000000000000000000000000000000000000000000000000000010 stake 0 deposit 2 rewards 3 pool none drep abstain" ∷
    codes "5 account s00000000000000000000000000000000000000000000000000000010 stake 0 deposit 2 rewards 1 pool 00000000000000000000000000000000000000000000000000000051 drep s00000000000000000000000000000000000000000000000000000030" ∷
    codes "5 account k00000000000000000000000000000000000000000000000000000012 stake 4 deposit 2 rewards 2 pool 00000000000000000000000000000000000000000000000000000050 drep none" ∷
    codes "5 account s00000000000000000000000000000000000000000000000000000012 stake 2 unregistered" ∷
    codes "5 output 0000000000000000000000000000000000000000000000000000000000000001#3 1k00000000000000000000000000000000000000000000000000000002+k00000000000000000000000000000000000000000000000000000012 4" ∷
    codes "5 output 0000000000000000000000000000000000000000000000000000000000000001#12 1k00000000000000000000000000000000000000000000000000000001+s00000000000000000000000000000000000000000000000000000012 2" ∷
    codes "5 output 0000000000000000000000000000000000000000000000000000000000000002#0 1k00000000000000000000000000000000000000000000000000000001 8" ∷
    codes "5 output 0000000000000000000000000000000000000000000000000000000000000002#1 1s00000000000000000000000000000000000000000000000000000001 1" ∷
    codes "5 snapshot mark 00000000000000000000000000000000000000000000000000000050 10" ∷
    codes "5 snapshot mark 00000000000000000000000000000000000000000000000000000051 1" ∷
    codes "5 snapshot set 00000000000000000000000000000000000000000000000000000050 10" ∷
    codes "5 snapshot set 00000000000000000000000000000000000000000000000000000051 1" ∷
    codes "5 snapshot fees 0" ∷
    codes "5 pending none" ∷
    codes "5 pots outputs 15 deposits 38 rewards 10 fees 0 donations 0 treasury 100 reserves 837 supply 1000" ∷
    []) ≡ true
unfolding digits encode_with
genesis_in_another_order = refl

abbrev genesis_greatest_supply_input : List (ℕ × Reading)
genesis_greatest_supply_input =
    (1, Read (records.Genesis (record { network = 1; slot = 0; epoch_length = 10; version = (10, 0); supply = 45000000000000000; reserves = 44999999999999579; treasury = 100; params = base_params; document = (h32 0x01); script = None; committee = (Some (record { threshold = (share 0 1); members = (((key 0x70), 100, (Some (key 0x71))) ∷ []) })); outputs = (((ref 0x01 0), (address_with 1 (key 0x01) None), 20, []) ∷ ((ref 0x01 1), (address_with 1 (key 0x01) None), 20, []) ∷ ((ref 0x01 2), (address_with 1 (key 0x01) None), 20, []) ∷ ((ref 0x01 3), (address_with 1 (key 0x01) None), 20, []) ∷ ((ref 0x01 4), (address_with 1 (key 0x01) None), 20, []) ∷ ((ref 0x01 5), (address_with 1 (key 0x01) None), 20, []) ∷ ((ref 0x01 6), (address_with 1 (key 0x01) None), 20, []) ∷ ((ref 0x01 7), (address_with 1 (key 0x01) None), 20, []) ∷ ((ref 0x01 8), (address_with 1 (key 0x01) None), 20, []) ∷ ((ref 0x01 9), (address_with 1 (key 0x01) None), 20, []) ∷ []); accounts = (((key 0x10), 2, 67, None, (Some (drep.Registered (key 0x30)))) ∷ ((key 0x11), 2, 33, None, (Some (drep.Registered (key 0x31)))) ∷ ((key 0x12), 2, 0, None, None) ∷ []); pools = ((record { pool = (pool 0x50); deposit = 5; cost = 0; pledge = 0; margin = (share 0 1); account = (account_on 1 (key 0x12)); key = None }) ∷ []); dreps = (((key 0x30), 5, 20) ∷ ((key 0x31), 5, 20) ∷ []) }))) ∷
    (2, Read (records.Print what.Pots)) ∷
    []

pub genesis_greatest_supply : says_all genesis_greatest_supply_input (
    codes "1 genesis outputs 200 deposits 21 rewards 100 fees 0 donations 0 treasury 100 reserves 44999999999999579 supply 45000000000000000" ∷
    codes "2 pots outputs 200 deposits 21 rewards 100 fees 0 donations 0 treasury 100 reserves 44999999999999579 supply 45000000000000000" ∷
    []) ≡ true
unfolding digits encode_with
genesis_greatest_supply = refl

abbrev genesis_supply_too_large_input : List (ℕ × Reading)
genesis_supply_too_large_input =
    (1, Read (records.Genesis (record { network = 1; slot = 0; epoch_length = 10; version = (10, 0); supply = 45000000000000001; reserves = 44999999999999575; treasury = 100; params = base_params; document = (h32 0x01); script = None; committee = (Some (record { threshold = (share 0 1); members = (((key 0x70), 100, (Some (key 0x71))) ∷ []) })); outputs = (((ref 0x01 0), (address_with 1 (key 0x01) None), 20, []) ∷ ((ref 0x01 1), (address_with 1 (key 0x01) None), 20, []) ∷ ((ref 0x01 2), (address_with 1 (key 0x01) None), 20, []) ∷ ((ref 0x01 3), (address_with 1 (key 0x01) None), 20, []) ∷ ((ref 0x01 4), (address_with 1 (key 0x01) None), 20, []) ∷ ((ref 0x01 5), (address_with 1 (key 0x01) None), 20, []) ∷ ((ref 0x01 6), (address_with 1 (key 0x01) None), 20, []) ∷ ((ref 0x01 7), (address_with 1 (key 0x01) None), 20, []) ∷ ((ref 0x01 8), (address_with 1 (key 0x01) None), 20, []) ∷ ((ref 0x01 9), (address_with 1 (key 0x01) None), 20, []) ∷ []); accounts = (((key 0x10), 2, 67, None, (Some (drep.Registered (key 0x30)))) ∷ ((key 0x11), 2, 33, None, (Some (drep.Registered (key 0x31)))) ∷ ((key 0x12), 2, 0, None, None) ∷ []); pools = ((record { pool = (pool 0x50); deposit = 5; cost = 0; pledge = 0; margin = (share 0 1); account = (account_on 1 (key 0x12)); key = None }) ∷ []); dreps = (((key 0x30), 5, 1) ∷ ((key 0x31), 5, 1) ∷ ((key 0x30), 5, 1) ∷ []) }))) ∷
    []

pub genesis_supply_too_large : rule_broken_by genesis_supply_too_large_input ≡ Some genesis.SupplyTooLarge
unfolding digits encode_with
genesis_supply_too_large = refl

abbrev genesis_member_repeated_input : List (ℕ × Reading)
genesis_member_repeated_input =
    (1, Read (records.Genesis (record { network = 1; slot = 0; epoch_length = 10; version = (10, 0); supply = 1000; reserves = 579; treasury = 100; params = base_params; document = (h32 0x01); script = None; committee = (Some (record { threshold = (share 1 2); members = (((key 0x70), 1, None) ∷ ((key 0x71), 1, None) ∷ ((key 0x70), 2, (Some (key 0x80))) ∷ []) })); outputs = (((ref 0x01 0), (address_with 1 (key 0x01) None), 20, []) ∷ ((ref 0x01 1), (address_with 1 (key 0x01) None), 20, []) ∷ ((ref 0x01 2), (address_with 1 (key 0x01) None), 20, []) ∷ ((ref 0x01 3), (address_with 1 (key 0x01) None), 20, []) ∷ ((ref 0x01 4), (address_with 1 (key 0x01) None), 20, []) ∷ ((ref 0x01 5), (address_with 1 (key 0x01) None), 20, []) ∷ ((ref 0x01 6), (address_with 1 (key 0x01) None), 20, []) ∷ ((ref 0x01 7), (address_with 1 (key 0x01) None), 20, []) ∷ ((ref 0x01 8), (address_with 1 (key 0x01) None), 20, []) ∷ ((ref 0x01 9), (address_with 1 (key 0x01) None), 20, []) ∷ []); accounts = (((key 0x10), 2, 67, None, (Some (drep.Registered (key 0x30)))) ∷ ((key 0x11), 2, 33, None, (Some (drep.Registered (key 0x31)))) ∷ ((key 0x12), 2, 0, None, None) ∷ []); pools = ((record { pool = (pool 0x50); deposit = 5; cost = 0; pledge = 0; margin = (share 0 1); account = (account_on 1 (key 0x12)); key = None }) ∷ []); dreps = (((key 0x30), 5, 20) ∷ ((key 0x31), 5, 20) ∷ []) }))) ∷
    []

pub genesis_member_repeated : rule_broken_by genesis_member_repeated_input ≡ Some genesis.Repeated
unfolding digits encode_with
genesis_member_repeated = refl

abbrev genesis_output_repeated_input : List (ℕ × Reading)
genesis_output_repeated_input =
    (1, Read (records.Genesis (record { network = 1; slot = 0; epoch_length = 10; version = (10, 0); supply = 1000; reserves = 775; treasury = 100; params = base_params; document = (h32 0x01); script = None; committee = (Some (record { threshold = (share 0 1); members = (((key 0x70), 100, (Some (key 0x71))) ∷ []) })); outputs = (((ref 0x01 0), (address_with 1 (key 0x01) None), 1, []) ∷ ((ref 0x01 1), (address_with 1 (key 0x01) None), 1, []) ∷ ((ref 0x01 0), (address_with 1 (key 0x02) None), 2, []) ∷ []); accounts = (((key 0x10), 2, 67, None, (Some (drep.Registered (key 0x30)))) ∷ ((key 0x11), 2, 33, None, (Some (drep.Registered (key 0x31)))) ∷ ((key 0x12), 2, 0, None, None) ∷ []); pools = ((record { pool = (pool 0x50); deposit = 5; cost = 0; pledge = 0; margin = (share 0 1); account = (account_on 1 (key 0x12)); key = None }) ∷ []); dreps = (((key 0x30), 5, 20) ∷ ((key 0x31), 5, 20) ∷ []) }))) ∷
    []

pub genesis_output_repeated : rule_broken_by genesis_output_repeated_input ≡ Some genesis.Repeated
unfolding digits encode_with
genesis_output_repeated = refl

abbrev genesis_account_repeated_input : List (ℕ × Reading)
genesis_account_repeated_input =
    (1, Read (records.Genesis (record { network = 1; slot = 0; epoch_length = 10; version = (10, 0); supply = 1000; reserves = 678; treasury = 100; params = base_params; document = (h32 0x01); script = None; committee = (Some (record { threshold = (share 0 1); members = (((key 0x70), 100, (Some (key 0x71))) ∷ []) })); outputs = (((ref 0x01 0), (address_with 1 (key 0x01) None), 20, []) ∷ ((ref 0x01 1), (address_with 1 (key 0x01) None), 20, []) ∷ ((ref 0x01 2), (address_with 1 (key 0x01) None), 20, []) ∷ ((ref 0x01 3), (address_with 1 (key 0x01) None), 20, []) ∷ ((ref 0x01 4), (address_with 1 (key 0x01) None), 20, []) ∷ ((ref 0x01 5), (address_with 1 (key 0x01) None), 20, []) ∷ ((ref 0x01 6), (address_with 1 (key 0x01) None), 20, []) ∷ ((ref 0x01 7), (address_with 1 (key 0x01) None), 20, []) ∷ ((ref 0x01 8), (address_with 1 (key 0x01) None), 20, []) ∷ ((ref 0x01 9), (address_with 1 (key 0x01) None), 20, []) ∷ []); accounts = (((key 0x10), 2, 1, (Some (pool 0x59)), None) ∷ ((key 0x11), 2, 0, None, None) ∷ ((key 0x10), 2, 0, None, None) ∷ []); pools = ((record { pool = (pool 0x50); deposit = 5; cost = 0; pledge = 0; margin = (share 0 1); account = (account_on 1 (key 0x12)); key = None }) ∷ []); dreps = (((key 0x30), 5, 20) ∷ ((key 0x31), 5, 20) ∷ []) }))) ∷
    []

pub genesis_account_repeated : rule_broken_by genesis_account_repeated_input ≡ Some genesis.Repeated
unfolding digits encode_with
genesis_account_repeated = refl

abbrev genesis_pool_repeated_input : List (ℕ × Reading)
genesis_pool_repeated_input =
    (1, Read (records.Genesis (record { network = 1; slot = 0; epoch_length = 10; version = (10, 0); supply = 1000; reserves = 569; treasury = 100; params = base_params; document = (h32 0x01); script = None; committee = (Some (record { threshold = (share 0 1); members = (((key 0x70), 100, (Some (key 0x71))) ∷ []) })); outputs = (((ref 0x01 0), (address_with 1 (key 0x01) None), 20, []) ∷ ((ref 0x01 1), (address_with 1 (key 0x01) None), 20, []) ∷ ((ref 0x01 2), (address_with 1 (key 0x01) None), 20, []) ∷ ((ref 0x01 3), (address_with 1 (key 0x01) None), 20, []) ∷ ((ref 0x01 4), (address_with 1 (key 0x01) None), 20, []) ∷ ((ref 0x01 5), (address_with 1 (key 0x01) None), 20, []) ∷ ((ref 0x01 6), (address_with 1 (key 0x01) None), 20, []) ∷ ((ref 0x01 7), (address_with 1 (key 0x01) None), 20, []) ∷ ((ref 0x01 8), (address_with 1 (key 0x01) None), 20, []) ∷ ((ref 0x01 9), (address_with 1 (key 0x01) None), 20, []) ∷ []); accounts = (((key 0x10), 2, 67, None, (Some (drep.Registered (key 0x30)))) ∷ ((key 0x11), 2, 33, None, (Some (drep.Registered (key 0x31)))) ∷ ((key 0x12), 2, 0, None, None) ∷ []); pools = ((record { pool = (pool 0x50); deposit = 5; cost = 0; pledge = 0; margin = (share 0 1); account = (account_on 1 (key 0x12)); key = None }) ∷ (record { pool = (pool 0x51); deposit = 5; cost = 0; pledge = 0; margin = (share 0 1); account = (account_on 1 (key 0x12)); key = None }) ∷ (record { pool = (pool 0x50); deposit = 5; cost = 0; pledge = 0; margin = (share 0 1); account = (account_on 1 (key 0x11)); key = None }) ∷ []); dreps = (((key 0x30), 5, 20) ∷ ((key 0x31), 5, 20) ∷ []) }))) ∷
    []

pub genesis_pool_repeated : rule_broken_by genesis_pool_repeated_input ≡ Some genesis.Repeated
unfolding digits encode_with
genesis_pool_repeated = refl

abbrev genesis_drep_repeated_input : List (ℕ × Reading)
genesis_drep_repeated_input =
    (1, Read (records.Genesis (record { network = 1; slot = 0; epoch_length = 10; version = (10, 0); supply = 1000; reserves = 575; treasury = 100; params = base_params; document = (h32 0x01); script = None; committee = (Some (record { threshold = (share 0 1); members = (((key 0x70), 100, (Some (key 0x71))) ∷ []) })); outputs = (((ref 0x01 0), (address_with 1 (key 0x01) None), 20, []) ∷ ((ref 0x01 1), (address_with 1 (key 0x01) None), 20, []) ∷ ((ref 0x01 2), (address_with 1 (key 0x01) None), 20, []) ∷ ((ref 0x01 3), (address_with 1 (key 0x01) None), 20, []) ∷ ((ref 0x01 4), (address_with 1 (key 0x01) None), 20, []) ∷ ((ref 0x01 5), (address_with 1 (key 0x01) None), 20, []) ∷ ((ref 0x01 6), (address_with 1 (key 0x01) None), 20, []) ∷ ((ref 0x01 7), (address_with 1 (key 0x01) None), 20, []) ∷ ((ref 0x01 8), (address_with 1 (key 0x01) None), 20, []) ∷ ((ref 0x01 9), (address_with 1 (key 0x01) None), 20, []) ∷ []); accounts = (((key 0x10), 2, 67, None, (Some (drep.Registered (key 0x30)))) ∷ ((key 0x11), 2, 33, None, (Some (drep.Registered (key 0x31)))) ∷ ((key 0x12), 2, 0, None, None) ∷ []); pools = ((record { pool = (pool 0x50); deposit = 5; cost = 0; pledge = 0; margin = (share 0 1); account = (account_on 1 (key 0x12)); key = None }) ∷ []); dreps = (((key 0x30), 5, 1) ∷ ((key 0x31), 5, 1) ∷ ((key 0x30), 4, 2) ∷ []) }))) ∷
    []

pub genesis_drep_repeated : rule_broken_by genesis_drep_repeated_input ≡ Some genesis.Repeated
unfolding digits encode_with
genesis_drep_repeated = refl

abbrev genesis_unknown_pool_input : List (ℕ × Reading)
genesis_unknown_pool_input =
    (1, Read (records.Genesis (record { network = 1; slot = 0; epoch_length = 10; version = (10, 0); supply = 1000; reserves = 880; treasury = 100; params = base_params; document = (h32 0x01); script = None; committee = (Some (record { threshold = (share 0 1); members = (((key 0x70), 100, (Some (key 0x71))) ∷ []) })); outputs = (((ref 0x01 0), (address_with 0 (key 0x01) None), 1, []) ∷ []); accounts = (((key 0x10), 2, 0, (Some (pool 0x50)), (Some (drep.Registered (key 0x30)))) ∷ ((key 0x11), 2, 0, (Some (pool 0x51)), None) ∷ []); pools = ((record { pool = (pool 0x50); deposit = 5; cost = 0; pledge = 0; margin = (share 0 1); account = (account_on 1 (key 0x12)); key = None }) ∷ []); dreps = (((key 0x30), 5, 20) ∷ ((key 0x31), 5, 20) ∷ []) }))) ∷
    []

pub genesis_unknown_pool : rule_broken_by genesis_unknown_pool_input ≡ Some genesis.UnknownTarget
unfolding digits encode_with
genesis_unknown_pool = refl

abbrev genesis_unknown_drep_input : List (ℕ × Reading)
genesis_unknown_drep_input =
    (1, Read (records.Genesis (record { network = 1; slot = 0; epoch_length = 10; version = (10, 0); supply = 1000; reserves = 681; treasury = 100; params = base_params; document = (h32 0x01); script = None; committee = (Some (record { threshold = (share 0 1); members = (((key 0x70), 100, (Some (key 0x71))) ∷ []) })); outputs = (((ref 0x01 0), (address_with 1 (key 0x01) None), 20, []) ∷ ((ref 0x01 1), (address_with 1 (key 0x01) None), 20, []) ∷ ((ref 0x01 2), (address_with 1 (key 0x01) None), 20, []) ∷ ((ref 0x01 3), (address_with 1 (key 0x01) None), 20, []) ∷ ((ref 0x01 4), (address_with 1 (key 0x01) None), 20, []) ∷ ((ref 0x01 5), (address_with 1 (key 0x01) None), 20, []) ∷ ((ref 0x01 6), (address_with 1 (key 0x01) None), 20, []) ∷ ((ref 0x01 7), (address_with 1 (key 0x01) None), 20, []) ∷ ((ref 0x01 8), (address_with 1 (key 0x01) None), 20, []) ∷ ((ref 0x01 9), (address_with 1 (key 0x01) None), 20, []) ∷ []); accounts = (((key 0x10), 2, 0, (Some (pool 0x50)), (Some (drep.Registered (key 0x30)))) ∷ ((key 0x11), 2, 0, None, (Some (drep.Registered (script 0x30)))) ∷ []); pools = ((record { pool = (pool 0x50); deposit = 5; cost = 0; pledge = 0; margin = (share 0 1); account = (account_on 1 (key 0x12)); key = None }) ∷ []); dreps = (((key 0x30), 5, 20) ∷ ((key 0x31), 5, 20) ∷ []) }))) ∷
    []

pub genesis_unknown_drep : rule_broken_by genesis_unknown_drep_input ≡ Some genesis.UnknownTarget
unfolding digits encode_with
genesis_unknown_drep = refl

abbrev genesis_output_of_another_network_input : List (ℕ × Reading)
genesis_output_of_another_network_input =
    (1, Read (records.Genesis (record { network = 1; slot = 0; epoch_length = 10; version = (10, 0); supply = 1000; reserves = 777; treasury = 100; params = base_params; document = (h32 0x01); script = None; committee = (Some (record { threshold = (share 0 1); members = (((key 0x70), 100, (Some (key 0x71))) ∷ []) })); outputs = (((ref 0x01 0), (address_with 1 (key 0x01) None), 1, []) ∷ ((ref 0x01 1), (address_with 0 (key 0x01) None), 1, []) ∷ []); accounts = (((key 0x10), 2, 67, None, (Some (drep.Registered (key 0x30)))) ∷ ((key 0x11), 2, 33, None, (Some (drep.Registered (key 0x31)))) ∷ ((key 0x12), 2, 0, None, None) ∷ []); pools = ((record { pool = (pool 0x50); deposit = 5; cost = 0; pledge = 0; margin = (share 0 1); account = (account_on 1 (key 0x12)); key = None }) ∷ []); dreps = (((key 0x30), 5, 20) ∷ ((key 0x31), 5, 20) ∷ []) }))) ∷
    []

pub genesis_output_of_another_network : rule_broken_by genesis_output_of_another_network_input ≡ Some genesis.WrongNetwork
unfolding digits encode_with
genesis_output_of_another_network = refl

abbrev genesis_pool_of_another_network_input : List (ℕ × Reading)
genesis_pool_of_another_network_input =
    (1, Read (records.Genesis (record { network = 1; slot = 0; epoch_length = 10; version = (10, 0); supply = 1000; reserves = 1; treasury = 100; params = base_params; document = (h32 0x01); script = None; committee = (Some (record { threshold = (share 0 1); members = (((key 0x70), 100, (Some (key 0x71))) ∷ []) })); outputs = (((ref 0x01 0), (address_with 1 (key 0x01) None), 20, []) ∷ ((ref 0x01 1), (address_with 1 (key 0x01) None), 20, []) ∷ ((ref 0x01 2), (address_with 1 (key 0x01) None), 20, []) ∷ ((ref 0x01 3), (address_with 1 (key 0x01) None), 20, []) ∷ ((ref 0x01 4), (address_with 1 (key 0x01) None), 20, []) ∷ ((ref 0x01 5), (address_with 1 (key 0x01) None), 20, []) ∷ ((ref 0x01 6), (address_with 1 (key 0x01) None), 20, []) ∷ ((ref 0x01 7), (address_with 1 (key 0x01) None), 20, []) ∷ ((ref 0x01 8), (address_with 1 (key 0x01) None), 20, []) ∷ ((ref 0x01 9), (address_with 1 (key 0x01) None), 20, []) ∷ []); accounts = (((key 0x10), 2, 67, None, (Some (drep.Registered (key 0x30)))) ∷ ((key 0x11), 2, 33, None, (Some (drep.Registered (key 0x31)))) ∷ ((key 0x12), 2, 0, None, None) ∷ []); pools = ((record { pool = (pool 0x50); deposit = 5; cost = 0; pledge = 0; margin = (share 0 1); account = (account_on 1 (key 0x12)); key = None }) ∷ (record { pool = (pool 0x51); deposit = 5; cost = 0; pledge = 0; margin = (share 0 1); account = (account_on 0 (key 0x12)); key = None }) ∷ []); dreps = (((key 0x30), 5, 20) ∷ ((key 0x31), 5, 20) ∷ []) }))) ∷
    []

pub genesis_pool_of_another_network : rule_broken_by genesis_pool_of_another_network_input ≡ Some genesis.WrongNetwork
unfolding digits encode_with
genesis_pool_of_another_network = refl

abbrev genesis_sum_wrong_input : List (ℕ × Reading)
genesis_sum_wrong_input =
    (1, Read (records.Genesis (record { network = 1; slot = 0; epoch_length = 10; version = (10, 0); supply = 1000; reserves = 580; treasury = 100; params = base_params; document = (h32 0x01); script = None; committee = (Some (record { threshold = (share 0 1); members = (((key 0x70), 100, (Some (key 0x71))) ∷ []) })); outputs = (((ref 0x01 0), (address_with 1 (key 0x01) None), 20, []) ∷ ((ref 0x01 1), (address_with 1 (key 0x01) None), 20, []) ∷ ((ref 0x01 2), (address_with 1 (key 0x01) None), 20, []) ∷ ((ref 0x01 3), (address_with 1 (key 0x01) None), 20, []) ∷ ((ref 0x01 4), (address_with 1 (key 0x01) None), 20, []) ∷ ((ref 0x01 5), (address_with 1 (key 0x01) None), 20, []) ∷ ((ref 0x01 6), (address_with 1 (key 0x01) None), 20, []) ∷ ((ref 0x01 7), (address_with 1 (key 0x01) None), 20, []) ∷ ((ref 0x01 8), (address_with 1 (key 0x01) None), 20, []) ∷ ((ref 0x01 9), (address_with 1 (key 0x01) None), 20, []) ∷ []); accounts = (((key 0x10), 2, 67, None, (Some (drep.Registered (key 0x30)))) ∷ ((key 0x11), 2, 33, None, (Some (drep.Registered (key 0x31)))) ∷ ((key 0x12), 2, 0, None, None) ∷ []); pools = ((record { pool = (pool 0x50); deposit = 5; cost = 0; pledge = 0; margin = (share 0 1); account = (account_on 1 (key 0x12)); key = None }) ∷ []); dreps = (((key 0x30), 5, 20) ∷ ((key 0x31), 5, 20) ∷ []) }))) ∷
    []

pub genesis_sum_wrong : rule_broken_by genesis_sum_wrong_input ≡ Some genesis.SumWrong
unfolding digits encode_with
genesis_sum_wrong = refl

abbrev genesis_sum_too_small_input : List (ℕ × Reading)
genesis_sum_too_small_input =
    (1, Read (records.Genesis (record { network = 1; slot = 0; epoch_length = 10; version = (10, 0); supply = 1000; reserves = 578; treasury = 100; params = base_params; document = (h32 0x01); script = None; committee = (Some (record { threshold = (share 0 1); members = (((key 0x70), 100, (Some (key 0x71))) ∷ []) })); outputs = (((ref 0x01 0), (address_with 1 (key 0x01) None), 20, []) ∷ ((ref 0x01 1), (address_with 1 (key 0x01) None), 20, []) ∷ ((ref 0x01 2), (address_with 1 (key 0x01) None), 20, []) ∷ ((ref 0x01 3), (address_with 1 (key 0x01) None), 20, []) ∷ ((ref 0x01 4), (address_with 1 (key 0x01) None), 20, []) ∷ ((ref 0x01 5), (address_with 1 (key 0x01) None), 20, []) ∷ ((ref 0x01 6), (address_with 1 (key 0x01) None), 20, []) ∷ ((ref 0x01 7), (address_with 1 (key 0x01) None), 20, []) ∷ ((ref 0x01 8), (address_with 1 (key 0x01) None), 20, []) ∷ ((ref 0x01 9), (address_with 1 (key 0x01) None), 20, []) ∷ []); accounts = (((key 0x10), 2, 67, None, (Some (drep.Registered (key 0x30)))) ∷ ((key 0x11), 2, 33, None, (Some (drep.Registered (key 0x31)))) ∷ ((key 0x12), 2, 0, None, None) ∷ []); pools = ((record { pool = (pool 0x50); deposit = 5; cost = 0; pledge = 0; margin = (share 0 1); account = (account_on 1 (key 0x12)); key = None }) ∷ []); dreps = (((key 0x30), 5, 20) ∷ ((key 0x31), 5, 20) ∷ []) }))) ∷
    []

pub genesis_sum_too_small : rule_broken_by genesis_sum_too_small_input ≡ Some genesis.SumWrong
unfolding digits encode_with
genesis_sum_too_small = refl
