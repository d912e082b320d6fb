-- Worked rows of whole streams: blocks, rewards and snapshots. Made by tests/made/rows_of, from the streams of these names in tests/streams/whole.
use Rattle.std.specs.Prelude.{ℕ, ◌≡◌, List, [], ◌∷◌, Some, None, true, codes, refl}
use Rattle.std.specs.Fmt.{digits}
use Rattle.hex.specs.Hex.{encode_with}
use Rattle.gov_ids.specs.declared.Drep.TheVariants as drep
use Rattle.tx_records.specs.declared.record.Record.TheVariants as records
use Rattle.tx_records.specs.declared.record.What.TheVariants as what
use Rattle.tx_records.specs.declared.cert.Cert.TheVariants as certs
use Rattle.tx_records.specs.declared.record.Reading.{Reading}
use Rattle.tx_records.specs.declared.record.Reading.TheVariants.{Read}
use Rattle.ledger_rows.proofs.Base.{h32, key, script, pool, account_on, address_with, ref, share, base_params, spend, paying, says_all}

abbrev blocks_and_their_pulses_input : List (ℕ × Reading)
blocks_and_their_pulses_input =
    (1, Read (records.Genesis (record { network = 1; slot = 12; epoch_length = 10; version = (10, 0); supply = 1000; reserves = 739; treasury = 100; params = base_params; document = (h32 0x01); script = None; committee = (Some (record { threshold = (share 0 1); members = (((key 0x70), 100, (Some (key 0x71))) ∷ []) })); outputs = (((ref 0x01 2), (address_with 1 (key 0x01) None), 20, []) ∷ ((ref 0x01 3), (address_with 1 (key 0x01) None), 20, []) ∷ []); accounts = (((key 0x10), 2, 67, None, (Some (drep.Registered (key 0x30)))) ∷ ((key 0x11), 2, 33, None, (Some (drep.Registered (key 0x31)))) ∷ ((key 0x12), 2, 0, None, None) ∷ []); pools = ((record { pool = (pool 0x50); deposit = 5; cost = 0; pledge = 0; margin = (share 0 1); account = (account_on 1 (key 0x12)); key = None }) ∷ []); dreps = (((key 0x30), 5, 20) ∷ ((key 0x31), 5, 20) ∷ []) }))) ∷
    (2, Read (records.Block 12 1)) ∷
    (3, Read (records.Block 30 1)) ∷
    (4, Read (records.Block 13 0)) ∷
    (5, Read (records.Block 13 1)) ∷
    (6, Read (records.Block 19 1)) ∷
    (7, Read (records.Genesis (record { network = 1; slot = 0; epoch_length = 10; version = (10, 0); supply = 1000; reserves = 579; treasury = 100; params = base_params; document = (h32 0x01); script = None; committee = (Some (record { threshold = (share 0 1); members = (((key 0x70), 100, (Some (key 0x71))) ∷ []) })); outputs = (((ref 0x01 0), (address_with 1 (key 0x01) None), 20, []) ∷ ((ref 0x01 1), (address_with 1 (key 0x01) None), 20, []) ∷ ((ref 0x01 2), (address_with 1 (key 0x01) None), 20, []) ∷ ((ref 0x01 3), (address_with 1 (key 0x01) None), 20, []) ∷ ((ref 0x01 4), (address_with 1 (key 0x01) None), 20, []) ∷ ((ref 0x01 5), (address_with 1 (key 0x01) None), 20, []) ∷ ((ref 0x01 6), (address_with 1 (key 0x01) None), 20, []) ∷ ((ref 0x01 7), (address_with 1 (key 0x01) None), 20, []) ∷ ((ref 0x01 8), (address_with 1 (key 0x01) None), 20, []) ∷ ((ref 0x01 9), (address_with 1 (key 0x01) None), 20, []) ∷ []); accounts = (((key 0x10), 2, 67, None, (Some (drep.Registered (key 0x30)))) ∷ ((key 0x11), 2, 33, None, (Some (drep.Registered (key 0x31)))) ∷ ((key 0x12), 2, 0, None, None) ∷ []); pools = ((record { pool = (pool 0x50); deposit = 5; cost = 0; pledge = 0; margin = (share 0 1); account = (account_on 1 (key 0x12)); key = None }) ∷ []); dreps = (((key 0x30), 5, 20) ∷ ((key 0x31), 5, 20) ∷ []) }))) ∷
    (8, Read (records.Block 13 1)) ∷
    (9, Read (records.Block 20 5)) ∷
    (10, Read (records.Block 29 2)) ∷
    (11, Read (records.Rewards (record { epoch = 1; from_reserves = 0; from_fees = 0; to_treasury = 0; rewards = [] }))) ∷
    (12, Read (records.Rewards (record { epoch = 2; from_reserves = 1; from_fees = 0; to_treasury = 0; rewards = (((key 0x10), 1) ∷ ((key 0x11), 1) ∷ []) }))) ∷
    (13, Read (records.Rewards (record { epoch = 2; from_reserves = 1000; from_fees = 0; to_treasury = 1000; rewards = [] }))) ∷
    (14, Read (records.Rewards (record { epoch = 2; from_reserves = 0; from_fees = 1; to_treasury = 1; rewards = [] }))) ∷
    (15, Read (records.Tx (spend 0x09 0))) ∷
    (16, Read (records.Print what.Pots)) ∷
    (17, Read (records.Block 39 1)) ∷
    (18, Read (records.Print what.State)) ∷
    []

pub blocks_and_their_pulses : says_all blocks_and_their_pulses_input (
    codes "1 genesis outputs 40 deposits 21 rewards 100 fees 0 donations 0 treasury 100 reserves 739 supply 1000" ∷
    codes "2 refused 10 SlotNotLater last 12" ∷
    codes "3 refused 11 EpochSkipped now 1" ∷
    codes "4 refused 12 ZeroPulse" ∷
    codes "5 block slot 13 epoch 1 counted 1 of 3" ∷
    codes "6 block slot 19 epoch 1 counted 2 of 3" ∷
    codes "7 refused 3 GenesisAgain" ∷
    codes "8 refused 10 SlotNotLater last 19" ∷
    codes "9 epoch 2 frozen 3 dormant 1" ∷
    codes "9 stake k00000000000000000000000000000000000000000000000000000030 67" ∷
    codes "9 stake k00000000000000000000000000000000000000000000000000000031 33" ∷
    codes "9 pots outputs 40 deposits 21 rewards 100 fees 0 donations 0 treasury 100 reserves 739 supply 1000" ∷
    codes "9 block slot 20 epoch 2 counted 3 of 3" ∷
    codes "10 block slot 29 epoch 2 counted 3 of 3" ∷
    codes "11 refused 20 WrongEpoch now 2" ∷
    codes "12 refused 22 RewardsNotBalanced in 1 out 2" ∷
    codes "13 refused 23 ReservesTooSmall have 739" ∷
    codes "14 refused 24 FeesTooSmall have 0" ∷
    codes "15 refused 33 InputMissing at 0" ∷
    codes "16 pots outputs 40 deposits 21 rewards 100 fees 0 donations 0 treasury 100 reserves 739 supply 1000" ∷
    codes "17 epoch 3 frozen 3 dormant 2" ∷
    codes "17 stake k00000000000000000000000000000000000000000000000000000030 67" ∷
    codes "17 stake k00000000000000000000000000000000000000000000000000000031 33" ∷
    codes "17 pots outputs 40 deposits 21 rewards 100 fees 0 donations 0 treasury 100 reserves 739 supply 1000" ∷
    codes "17 block slot 39 epoch 3 counted 1 of 3" ∷
    codes "18 now slot 39 epoch 3 version 10.0 dormant 2" ∷
    codes "18 constitution 0000000000000000000000000000000000000000000000000000000000000001 none" ∷
    codes "18 committee threshold 0/1" ∷
    codes "18 member k00000000000000000000000000000000000000000000000000000070 term 100 hot k00000000000000000000000000000000000000000000000000000071" ∷
    codes "18 enacted committee none constitution none hardfork none parameters none" ∷
    codes "18 param maxBlockBodySize 90112" ∷
    codes "18 param maxTxSize 16384" ∷
    codes "18 param maxBlockHeaderSize 1100" ∷
    codes "18 param maxValueSize 5000" ∷
    codes "18 param maxTxExUnits 1000 1000" ∷
    codes "18 param maxBlockExUnits 1000 1000" ∷
    codes "18 param maxCollateralInputs 3" ∷
    codes "18 param minFeeA 0" ∷
    codes "18 param minFeeB 0" ∷
    codes "18 param keyDeposit 2" ∷
    codes "18 param poolDeposit 5" ∷
    codes "18 param rho 0/1" ∷
    codes "18 param tau 0/1" ∷
    codes "18 param minPoolCost 0" ∷
    codes "18 param coinsPerUTxOByte 0" ∷
    codes "18 param prices 0/1 0/1" ∷
    codes "18 param minFeeRefScriptCostPerByte 15/1" ∷
    codes "18 param a0 0/1" ∷
    codes "18 param eMax 18" ∷
    codes "18 param nOpt 500" ∷
    codes "18 param costModels 0000000000000000000000000000000000000000000000000000000000000000" ∷
    codes "18 param collateralPercentage 150" ∷
    codes "18 param poolVotingThresholds 0/1 0/1 0/1 0/1 0/1" ∷
    codes "18 param drepVotingThresholds 67/100 67/100 67/100 67/100 67/100 67/100 67/100 67/100 67/100 67/100" ∷
    codes "18 param govActionLifetime 2" ∷
    codes "18 param govActionDeposit 10" ∷
    codes "18 param drepDeposit 5" ∷
    codes "18 param drepActivity 20" ∷
    codes "18 param committeeMinSize 0" ∷
    codes "18 param committeeMaxTermLength 100" ∷
    codes "18 drep k00000000000000000000000000000000000000000000000000000030 deposit 5 expiry 20" ∷
    codes "18 drep k00000000000000000000000000000000000000000000000000000031 deposit 5 expiry 20" ∷
    codes "18 pool 00000000000000000000000000000000000000000000000000000050 deposit 5 cost 0 pledge 0 margin 0/1 account 1k00000000000000000000000000000000000000000000000000000012 retires never" ∷
    codes "18 account k00000000000000000000000000000000000000000000000000000010 stake 0 deposit 2 rewards 67 pool none drep k00000000000000000000000000000000000000000000000000000030" ∷
    codes "18 account k00000000000000000000000000000000000000000000000000000011 stake 0 deposit 2 rewards 33 pool none drep k00000000000000000000000000000000000000000000000000000031" ∷
    codes "18 account k00000000000000000000000000000000000000000000000000000012 stake 0 deposit 2 rewards 0 pool none drep none" ∷
    codes "18 output 0000000000000000000000000000000000000000000000000000000000000001#2 1k00000000000000000000000000000000000000000000000000000001 20" ∷
    codes "18 output 0000000000000000000000000000000000000000000000000000000000000001#3 1k00000000000000000000000000000000000000000000000000000001 20" ∷
    codes "18 snapshot mark 00000000000000000000000000000000000000000000000000000050 0" ∷
    codes "18 snapshot set 00000000000000000000000000000000000000000000000000000050 0" ∷
    codes "18 snapshot go 00000000000000000000000000000000000000000000000000000050 0" ∷
    codes "18 snapshot fees 0" ∷
    codes "18 pending none" ∷
    codes "18 pots outputs 40 deposits 21 rewards 100 fees 0 donations 0 treasury 100 reserves 739 supply 1000" ∷
    []) ≡ true
unfolding digits encode_with
blocks_and_their_pulses = refl

abbrev rewards_pending_and_given_input : List (ℕ × Reading)
rewards_pending_and_given_input =
    (1, Read (records.Genesis (record { network = 1; slot = 0; epoch_length = 10; version = (10, 0); supply = 1000; reserves = 699; treasury = 100; params = base_params; document = (h32 0x01); script = None; committee = (Some (record { threshold = (share 0 1); members = (((key 0x70), 100, (Some (key 0x71))) ∷ []) })); outputs = (((ref 0x01 2), (address_with 1 (key 0x01) None), 20, []) ∷ ((ref 0x01 3), (address_with 1 (key 0x01) None), 20, []) ∷ ((ref 0x01 4), (address_with 1 (key 0x01) None), 20, []) ∷ ((ref 0x01 5), (address_with 1 (key 0x01) None), 20, []) ∷ []); accounts = (((key 0x10), 2, 67, None, (Some (drep.Registered (key 0x30)))) ∷ ((key 0x11), 2, 33, None, (Some (drep.Registered (key 0x31)))) ∷ ((key 0x12), 2, 0, None, None) ∷ []); pools = ((record { pool = (pool 0x50); deposit = 5; cost = 0; pledge = 0; margin = (share 0 1); account = (account_on 1 (key 0x12)); key = None }) ∷ []); dreps = (((key 0x30), 5, 20) ∷ ((key 0x31), 5, 20) ∷ []) }))) ∷
    (2, Read (records.Tx (spend 0x02 20))) ∷
    (3, Read (records.Rewards (record { epoch = 0; from_reserves = 20; from_fees = 7; to_treasury = 5; rewards = (((key 0x13), 3) ∷ ((script 0x12), 4) ∷ ((key 0x12), 10) ∷ ((key 0x10), 5) ∷ []) }))) ∷
    (4, Read (records.Print what.State)) ∷
    (5, Read (records.Rewards (record { epoch = 0; from_reserves = 0; from_fees = 0; to_treasury = 0; rewards = [] }))) ∷
    (6, Read (records.Tx (record (spend 0x03 22) { certs = ((certs.AccountUnreg (key 0x12) None) ∷ []) }))) ∷
    (7, Read (records.Block 10 1)) ∷
    (8, Read (records.Print what.State)) ∷
    (9, Read (records.Rewards (record { epoch = 1; from_reserves = 1; from_fees = 34; to_treasury = 35; rewards = [] }))) ∷
    (10, Read (records.Rewards (record { epoch = 1; from_reserves = 0; from_fees = 33; to_treasury = 33; rewards = [] }))) ∷
    (11, Read (records.Block 20 1)) ∷
    (12, Read (records.Print what.State)) ∷
    []

pub rewards_pending_and_given : says_all rewards_pending_and_given_input (
    codes "1 genesis outputs 80 deposits 21 rewards 100 fees 0 donations 0 treasury 100 reserves 699 supply 1000" ∷
    codes "2 accepted" ∷
    codes "3 accepted" ∷
    codes "4 now slot 0 epoch 0 version 10.0 dormant 0" ∷
    codes "4 constitution 0000000000000000000000000000000000000000000000000000000000000001 none" ∷
    codes "4 committee threshold 0/1" ∷
    codes "4 member k00000000000000000000000000000000000000000000000000000070 term 100 hot k00000000000000000000000000000000000000000000000000000071" ∷
    codes "4 enacted committee none constitution none hardfork none parameters none" ∷
    codes "4 param maxBlockBodySize 90112" ∷
    codes "4 param maxTxSize 16384" ∷
    codes "4 param maxBlockHeaderSize 1100" ∷
    codes "4 param maxValueSize 5000" ∷
    codes "4 param maxTxExUnits 1000 1000" ∷
    codes "4 param maxBlockExUnits 1000 1000" ∷
    codes "4 param maxCollateralInputs 3" ∷
    codes "4 param minFeeA 0" ∷
    codes "4 param minFeeB 0" ∷
    codes "4 param keyDeposit 2" ∷
    codes "4 param poolDeposit 5" ∷
    codes "4 param rho 0/1" ∷
    codes "4 param tau 0/1" ∷
    codes "4 param minPoolCost 0" ∷
    codes "4 param coinsPerUTxOByte 0" ∷
    codes "4 param prices 0/1 0/1" ∷
    codes "4 param minFeeRefScriptCostPerByte 15/1" ∷
    codes "4 param a0 0/1" ∷
    codes "4 param eMax 18" ∷
    codes "4 param nOpt 500" ∷
    codes "4 param costModels 0000000000000000000000000000000000000000000000000000000000000000" ∷
    codes "4 param collateralPercentage 150" ∷
    codes "4 param poolVotingThresholds 0/1 0/1 0/1 0/1 0/1" ∷
    codes "4 param drepVotingThresholds 67/100 67/100 67/100 67/100 67/100 67/100 67/100 67/100 67/100 67/100" ∷
    codes "4 param govActionLifetime 2" ∷
    codes "4 param govActionDeposit 10" ∷
    codes "4 param drepDeposit 5" ∷
    codes "4 param drepActivity 20" ∷
    codes "4 param committeeMinSize 0" ∷
    codes "4 param committeeMaxTermLength 100" ∷
    codes "4 drep k00000000000000000000000000000000000000000000000000000030 deposit 5 expiry 20" ∷
    codes "4 drep k00000000000000000000000000000000000000000000000000000031 deposit 5 expiry 20" ∷
    codes "4 pool 00000000000000000000000000000000000000000000000000000050 deposit 5 cost 0 pledge 0 margin 0/1 account 1k00000000000000000000000000000000000000000000000000000012 retires never" ∷
    codes "4 account k00000000000000000000000000000000000000000000000000000010 stake 0 deposit 2 rewards 67 pool none drep k00000000000000000000000000000000000000000000000000000030" ∷
    codes "4 account k00000000000000000000000000000000000000000000000000000011 stake 0 deposit 2 rewards 33 pool none drep k00000000000000000000000000000000000000000000000000000031" ∷
    codes "4 account k00000000000000000000000000000000000000000000000000000012 stake 0 deposit 2 rewards 0 pool none drep none" ∷
    codes "4 output 0000000000000000000000000000000000000000000000000000000000000001#3 1k00000000000000000000000000000000000000000000000000000001 20" ∷
    codes "4 output 0000000000000000000000000000000000000000000000000000000000000001#4 1k00000000000000000000000000000000000000000000000000000001 20" ∷
    codes "4 output 0000000000000000000000000000000000000000000000000000000000000001#5 1k00000000000000000000000000000000000000000000000000000001 20" ∷
    codes "4 snapshot mark 00000000000000000000000000000000000000000000000000000050 0" ∷
    codes "4 snapshot fees 0" ∷
    codes "4 pending reserves 20 fees 7 treasury 5" ∷
    codes "4 pending reward k00000000000000000000000000000000000000000000000000000010 5" ∷
    codes "4 pending reward k00000000000000000000000000000000000000000000000000000012 10" ∷
    codes "4 pending reward s00000000000000000000000000000000000000000000000000000012 4" ∷
    codes "4 pending reward k00000000000000000000000000000000000000000000000000000013 3" ∷
    codes "4 pots outputs 60 deposits 21 rewards 100 fees 20 donations 0 treasury 100 reserves 699 supply 1000" ∷
    codes "5 refused 21 RewardsAlreadyGiven" ∷
    codes "6 accepted" ∷
    codes "7 epoch 1 frozen 2 dormant 1" ∷
    codes "7 stake k00000000000000000000000000000000000000000000000000000030 67" ∷
    codes "7 stake k00000000000000000000000000000000000000000000000000000031 33" ∷
    codes "7 pots outputs 40 deposits 19 rewards 105 fees 35 donations 0 treasury 122 reserves 679 supply 1000" ∷
    codes "7 block slot 10 epoch 1 counted 1 of 2" ∷
    codes "8 now slot 10 epoch 1 version 10.0 dormant 1" ∷
    codes "8 constitution 0000000000000000000000000000000000000000000000000000000000000001 none" ∷
    codes "8 committee threshold 0/1" ∷
    codes "8 member k00000000000000000000000000000000000000000000000000000070 term 100 hot k00000000000000000000000000000000000000000000000000000071" ∷
    codes "8 enacted committee none constitution none hardfork none parameters none" ∷
    codes "8 param maxBlockBodySize 90112" ∷
    codes "8 param maxTxSize 16384" ∷
    codes "8 param maxBlockHeaderSize 1100" ∷
    codes "8 param maxValueSize 5000" ∷
    codes "8 param maxTxExUnits 1000 1000" ∷
    codes "8 param maxBlockExUnits 1000 1000" ∷
    codes "8 param maxCollateralInputs 3" ∷
    codes "8 param minFeeA 0" ∷
    codes "8 param minFeeB 0" ∷
    codes "8 param keyDeposit 2" ∷
    codes "8 param poolDeposit 5" ∷
    codes "8 param rho 0/1" ∷
    codes "8 param tau 0/1" ∷
    codes "8 param minPoolCost 0" ∷
    codes "8 param coinsPerUTxOByte 0" ∷
    codes "8 param prices 0/1 0/1" ∷
    codes "8 param minFeeRefScriptCostPerByte 15/1" ∷
    codes "8 param a0 0/1" ∷
    codes "8 param eMax 18" ∷
    codes "8 param nOpt 500" ∷
    codes "8 param costModels 0000000000000000000000000000000000000000000000000000000000000000" ∷
    codes "8 param collateralPercentage 150" ∷
    codes "8 param poolVotingThresholds 0/1 0/1 0/1 0/1 0/1" ∷
    codes "8 param drepVotingThresholds 67/100 67/100 67/100 67/100 67/100 67/100 67/100 67/100 67/100 67/100" ∷
    codes "8 param govActionLifetime 2" ∷
    codes "8 param govActionDeposit 10" ∷
    codes "8 param drepDeposit 5" ∷
    codes "8 param drepActivity 20" ∷
    codes "8 param committeeMinSize 0" ∷
    codes "8 param committeeMaxTermLength 100" ∷
    codes "8 drep k00000000000000000000000000000000000000000000000000000030 deposit 5 expiry 20" ∷
    codes "8 drep k00000000000000000000000000000000000000000000000000000031 deposit 5 expiry 20" ∷
    codes "8 pool 00000000000000000000000000000000000000000000000000000050 deposit 5 cost 0 pledge 0 margin 0/1 account 1k00000000000000000000000000000000000000000000000000000012 retires never" ∷
    codes "8 account k00000000000000000000000000000000000000000000000000000010 stake 0 deposit 2 rewards 72 pool none drep k00000000000000000000000000000000000000000000000000000030" ∷
    codes "8 account k00000000000000000000000000000000000000000000000000000011 stake 0 deposit 2 rewards 33 pool none drep k00000000000000000000000000000000000000000000000000000031" ∷
    codes "8 output 0000000000000000000000000000000000000000000000000000000000000001#4 1k00000000000000000000000000000000000000000000000000000001 20" ∷
    codes "8 output 0000000000000000000000000000000000000000000000000000000000000001#5 1k00000000000000000000000000000000000000000000000000000001 20" ∷
    codes "8 snapshot mark 00000000000000000000000000000000000000000000000000000050 0" ∷
    codes "8 snapshot set 00000000000000000000000000000000000000000000000000000050 0" ∷
    codes "8 snapshot fees 35" ∷
    codes "8 pending none" ∷
    codes "8 pots outputs 40 deposits 19 rewards 105 fees 35 donations 0 treasury 122 reserves 679 supply 1000" ∷
    codes "9 accepted" ∷
    codes "10 refused 21 RewardsAlreadyGiven" ∷
    codes "11 epoch 2 frozen 2 dormant 2" ∷
    codes "11 stake k00000000000000000000000000000000000000000000000000000030 72" ∷
    codes "11 stake k00000000000000000000000000000000000000000000000000000031 33" ∷
    codes "11 pots outputs 40 deposits 19 rewards 105 fees 1 donations 0 treasury 157 reserves 678 supply 1000" ∷
    codes "11 block slot 20 epoch 2 counted 1 of 2" ∷
    codes "12 now slot 20 epoch 2 version 10.0 dormant 2" ∷
    codes "12 constitution 0000000000000000000000000000000000000000000000000000000000000001 none" ∷
    codes "12 committee threshold 0/1" ∷
    codes "12 member k00000000000000000000000000000000000000000000000000000070 term 100 hot k00000000000000000000000000000000000000000000000000000071" ∷
    codes "12 enacted committee none constitution none hardfork none parameters none" ∷
    codes "12 param maxBlockBodySize 90112" ∷
    codes "12 param maxTxSize 16384" ∷
    codes "12 param maxBlockHeaderSize 1100" ∷
    codes "12 param maxValueSize 5000" ∷
    codes "12 param maxTxExUnits 1000 1000" ∷
    codes "12 param maxBlockExUnits 1000 1000" ∷
    codes "12 param maxCollateralInputs 3" ∷
    codes "12 param minFeeA 0" ∷
    codes "12 param minFeeB 0" ∷
    codes "12 param keyDeposit 2" ∷
    codes "12 param poolDeposit 5" ∷
    codes "12 param rho 0/1" ∷
    codes "12 param tau 0/1" ∷
    codes "12 param minPoolCost 0" ∷
    codes "12 param coinsPerUTxOByte 0" ∷
    codes "12 param prices 0/1 0/1" ∷
    codes "12 param minFeeRefScriptCostPerByte 15/1" ∷
    codes "12 param a0 0/1" ∷
    codes "12 param eMax 18" ∷
    codes "12 param nOpt 500" ∷
    codes "12 param costModels 0000000000000000000000000000000000000000000000000000000000000000" ∷
    codes "12 param collateralPercentage 150" ∷
    codes "12 param poolVotingThresholds 0/1 0/1 0/1 0/1 0/1" ∷
    codes "12 param drepVotingThresholds 67/100 67/100 67/100 67/100 67/100 67/100 67/100 67/100 67/100 67/100" ∷
    codes "12 param govActionLifetime 2" ∷
    codes "12 param govActionDeposit 10" ∷
    codes "12 param drepDeposit 5" ∷
    codes "12 param drepActivity 20" ∷
    codes "12 param committeeMinSize 0" ∷
    codes "12 param committeeMaxTermLength 100" ∷
    codes "12 drep k00000000000000000000000000000000000000000000000000000030 deposit 5 expiry 20" ∷
    codes "12 drep k00000000000000000000000000000000000000000000000000000031 deposit 5 expiry 20" ∷
    codes "12 pool 00000000000000000000000000000000000000000000000000000050 deposit 5 cost 0 pledge 0 margin 0/1 account 1k00000000000000000000000000000000000000000000000000000012 retires never" ∷
    codes "12 account k00000000000000000000000000000000000000000000000000000010 stake 0 deposit 2 rewards 72 pool none drep k00000000000000000000000000000000000000000000000000000030" ∷
    codes "12 account k00000000000000000000000000000000000000000000000000000011 stake 0 deposit 2 rewards 33 pool none drep k00000000000000000000000000000000000000000000000000000031" ∷
    codes "12 output 0000000000000000000000000000000000000000000000000000000000000001#4 1k00000000000000000000000000000000000000000000000000000001 20" ∷
    codes "12 output 0000000000000000000000000000000000000000000000000000000000000001#5 1k00000000000000000000000000000000000000000000000000000001 20" ∷
    codes "12 snapshot mark 00000000000000000000000000000000000000000000000000000050 0" ∷
    codes "12 snapshot set 00000000000000000000000000000000000000000000000000000050 0" ∷
    codes "12 snapshot go 00000000000000000000000000000000000000000000000000000050 0" ∷
    codes "12 snapshot fees 1" ∷
    codes "12 pending none" ∷
    codes "12 pots outputs 40 deposits 19 rewards 105 fees 1 donations 0 treasury 157 reserves 678 supply 1000" ∷
    []) ≡ true
unfolding digits encode_with
rewards_pending_and_given = refl

abbrev rewards_of_all_there_is_input : List (ℕ × Reading)
rewards_of_all_there_is_input =
    (1, Read (records.Genesis (record { network = 1; slot = 0; epoch_length = 10; version = (10, 0); supply = 1000; reserves = 719; treasury = 100; params = base_params; document = (h32 0x01); script = None; committee = (Some (record { threshold = (share 0 1); members = (((key 0x70), 100, (Some (key 0x71))) ∷ []) })); outputs = (((ref 0x01 2), (address_with 1 (key 0x01) None), 20, []) ∷ ((ref 0x01 3), (address_with 1 (key 0x01) None), 20, []) ∷ ((ref 0x01 4), (address_with 1 (key 0x01) None), 20, []) ∷ []); accounts = (((key 0x10), 2, 67, None, (Some (drep.Registered (key 0x30)))) ∷ ((key 0x11), 2, 33, None, (Some (drep.Registered (key 0x31)))) ∷ ((key 0x12), 2, 0, None, None) ∷ []); pools = ((record { pool = (pool 0x50); deposit = 5; cost = 0; pledge = 0; margin = (share 0 1); account = (account_on 1 (key 0x12)); key = None }) ∷ []); dreps = (((key 0x30), 5, 20) ∷ ((key 0x31), 5, 20) ∷ []) }))) ∷
    (2, Read (records.Tx (spend 0x02 20))) ∷
    (3, Read (records.Rewards (record { epoch = 0; from_reserves = 760; from_fees = 0; to_treasury = 760; rewards = [] }))) ∷
    (4, Read (records.Rewards (record { epoch = 0; from_reserves = 0; from_fees = 21; to_treasury = 21; rewards = [] }))) ∷
    (5, Read (records.Rewards (record { epoch = 0; from_reserves = 0; from_fees = 20; to_treasury = 20; rewards = [] }))) ∷
    (6, Read (records.Block 10 1)) ∷
    (7, Read (records.Print what.Pots)) ∷
    []

pub rewards_of_all_there_is : says_all rewards_of_all_there_is_input (
    codes "1 genesis outputs 60 deposits 21 rewards 100 fees 0 donations 0 treasury 100 reserves 719 supply 1000" ∷
    codes "2 accepted" ∷
    codes "3 refused 23 ReservesTooSmall have 719" ∷
    codes "4 refused 24 FeesTooSmall have 20" ∷
    codes "5 accepted" ∷
    codes "6 epoch 1 frozen 3 dormant 1" ∷
    codes "6 stake k00000000000000000000000000000000000000000000000000000030 67" ∷
    codes "6 stake k00000000000000000000000000000000000000000000000000000031 33" ∷
    codes "6 pots outputs 40 deposits 21 rewards 100 fees 0 donations 0 treasury 120 reserves 719 supply 1000" ∷
    codes "6 block slot 10 epoch 1 counted 1 of 3" ∷
    codes "7 pots outputs 40 deposits 21 rewards 100 fees 0 donations 0 treasury 120 reserves 719 supply 1000" ∷
    []) ≡ true
unfolding digits encode_with
rewards_of_all_there_is = refl

abbrev rewards_from_all_reserves_input : List (ℕ × Reading)
rewards_from_all_reserves_input =
    (1, Read (records.Genesis (record { network = 1; slot = 0; epoch_length = 10; version = (10, 0); supply = 1000; reserves = 739; treasury = 100; params = base_params; document = (h32 0x01); script = None; committee = (Some (record { threshold = (share 0 1); members = (((key 0x70), 100, (Some (key 0x71))) ∷ []) })); outputs = (((ref 0x01 2), (address_with 1 (key 0x01) None), 20, []) ∷ ((ref 0x01 3), (address_with 1 (key 0x01) None), 20, []) ∷ []); accounts = (((key 0x10), 2, 67, None, (Some (drep.Registered (key 0x30)))) ∷ ((key 0x11), 2, 33, None, (Some (drep.Registered (key 0x31)))) ∷ ((key 0x12), 2, 0, None, None) ∷ []); pools = ((record { pool = (pool 0x50); deposit = 5; cost = 0; pledge = 0; margin = (share 0 1); account = (account_on 1 (key 0x12)); key = None }) ∷ []); dreps = (((key 0x30), 5, 20) ∷ ((key 0x31), 5, 20) ∷ []) }))) ∷
    (2, Read (records.Rewards (record { epoch = 0; from_reserves = 739; from_fees = 0; to_treasury = 700; rewards = (((key 0x10), 39) ∷ []) }))) ∷
    (3, Read (records.Print what.Pots)) ∷
    (4, Read (records.Block 10 1)) ∷
    (5, Read (records.Print what.Pots)) ∷
    []

pub rewards_from_all_reserves : says_all rewards_from_all_reserves_input (
    codes "1 genesis outputs 40 deposits 21 rewards 100 fees 0 donations 0 treasury 100 reserves 739 supply 1000" ∷
    codes "2 accepted" ∷
    codes "3 pots outputs 40 deposits 21 rewards 100 fees 0 donations 0 treasury 100 reserves 739 supply 1000" ∷
    codes "4 epoch 1 frozen 3 dormant 1" ∷
    codes "4 stake k00000000000000000000000000000000000000000000000000000030 67" ∷
    codes "4 stake k00000000000000000000000000000000000000000000000000000031 33" ∷
    codes "4 pots outputs 40 deposits 21 rewards 139 fees 0 donations 0 treasury 800 reserves 0 supply 1000" ∷
    codes "4 block slot 10 epoch 1 counted 1 of 3" ∷
    codes "5 pots outputs 40 deposits 21 rewards 139 fees 0 donations 0 treasury 800 reserves 0 supply 1000" ∷
    []) ≡ true
unfolding digits encode_with
rewards_from_all_reserves = refl

abbrev snapshots_over_four_boundaries_input : List (ℕ × Reading)
snapshots_over_four_boundaries_input =
    (1, Read (records.Genesis (record { network = 1; slot = 0; epoch_length = 10; version = (10, 0); supply = 1000; reserves = 624; treasury = 100; params = base_params; document = (h32 0x01); script = None; committee = (Some (record { threshold = (share 0 1); members = (((key 0x70), 100, (Some (key 0x71))) ∷ []) })); outputs = (((ref 0x01 2), (address_with 1 (key 0x01) None), 20, []) ∷ ((ref 0x01 3), (address_with 1 (key 0x01) None), 20, []) ∷ ((ref 0x01 4), (address_with 1 (key 0x01) None), 20, []) ∷ ((ref 0x01 5), (address_with 1 (key 0x01) None), 20, []) ∷ ((ref 0x01 6), (address_with 1 (key 0x01) None), 20, []) ∷ ((ref 0x01 7), (address_with 1 (key 0x01) None), 20, []) ∷ ((ref 0x01 8), (address_with 1 (key 0x01) None), 20, []) ∷ ((ref 0x01 9), (address_with 1 (key 0x01) None), 20, []) ∷ []); accounts = (((key 0x10), 2, 67, (Some (pool 0x50)), (Some drep.Abstain)) ∷ ((key 0x11), 2, 33, (Some (pool 0x51)), (Some drep.Abstain)) ∷ ((key 0x12), 2, 0, None, None) ∷ []); pools = ((record { pool = (pool 0x50); deposit = 5; cost = 0; pledge = 0; margin = (share 0 1); account = (account_on 1 (key 0x12)); key = None }) ∷ (record { pool = (pool 0x51); deposit = 5; cost = 0; pledge = 0; margin = (share 0 1); account = (account_on 1 (key 0x12)); key = None }) ∷ []); dreps = [] }))) ∷
    (2, Read (records.Tx (record (spend 0x02 10) { outputs = ((paying (address_with 1 (key 0x01) (Some (key 0x10))) 5 0) ∷ (paying (address_with 1 (key 0x01) (Some (key 0x12))) 3 0) ∷ (paying (address_with 1 (script 0x01) (Some (script 0x10))) 2 0) ∷ []) }))) ∷
    (3, Read (records.Print what.State)) ∷
    (4, Read (records.Block 10 1)) ∷
    (5, Read (records.Print what.State)) ∷
    (6, Read (records.Tx (record (spend 0x03 87) { withdrawals = (((account_on 1 (key 0x10)), 67) ∷ []); certs = ((certs.Delegate (key 0x11) (Some (pool 0x50)) None) ∷ []) }))) ∷
    (7, Read (records.Block 20 1)) ∷
    (8, Read (records.Print what.State)) ∷
    (9, Read (records.Tx (record (spend 0x04 20) { certs = ((certs.PoolRetire (pool 0x51) 3) ∷ (certs.Delegate (key 0x12) (Some (pool 0x51)) None) ∷ []) }))) ∷
    (10, Read (records.Block 30 1)) ∷
    (11, Read (records.Print what.State)) ∷
    (12, Read (records.Block 40 1)) ∷
    (13, Read (records.Print what.State)) ∷
    []

pub snapshots_over_four_boundaries : says_all snapshots_over_four_boundaries_input (
    codes "1 genesis outputs 160 deposits 16 rewards 100 fees 0 donations 0 treasury 100 reserves 624 supply 1000" ∷
    codes "2 accepted" ∷
    codes "3 now slot 0 epoch 0 version 10.0 dormant 0" ∷
    codes "3 constitution 0000000000000000000000000000000000000000000000000000000000000001 none" ∷
    codes "3 committee threshold 0/1" ∷
    codes "3 member k00000000000000000000000000000000000000000000000000000070 term 100 hot k00000000000000000000000000000000000000000000000000000071" ∷
    codes "3 enacted committee none constitution none hardfork none parameters none" ∷
    codes "3 param maxBlockBodySize 90112" ∷
    codes "3 param maxTxSize 16384" ∷
    codes "3 param maxBlockHeaderSize 1100" ∷
    codes "3 param maxValueSize 5000" ∷
    codes "3 param maxTxExUnits 1000 1000" ∷
    codes "3 param maxBlockExUnits 1000 1000" ∷
    codes "3 param maxCollateralInputs 3" ∷
    codes "3 param minFeeA 0" ∷
    codes "3 param minFeeB 0" ∷
    codes "3 param keyDeposit 2" ∷
    codes "3 param poolDeposit 5" ∷
    codes "3 param rho 0/1" ∷
    codes "3 param tau 0/1" ∷
    codes "3 param minPoolCost 0" ∷
    codes "3 param coinsPerUTxOByte 0" ∷
    codes "3 param prices 0/1 0/1" ∷
    codes "3 param minFeeRefScriptCostPerByte 15/1" ∷
    codes "3 param a0 0/1" ∷
    codes "3 param eMax 18" ∷
    codes "3 param nOpt 500" ∷
    codes "3 param costModels 0000000000000000000000000000000000000000000000000000000000000000" ∷
    codes "3 param collateralPercentage 150" ∷
    codes "3 param poolVotingThresholds 0/1 0/1 0/1 0/1 0/1" ∷
    codes "3 param drepVotingThresholds 67/100 67/100 67/100 67/100 67/100 67/100 67/100 67/100 67/100 67/100" ∷
    codes "3 param govActionLifetime 2" ∷
    codes "3 param govActionDeposit 10" ∷
    codes "3 param drepDeposit 5" ∷
    codes "3 param drepActivity 20" ∷
    codes "3 param committeeMinSize 0" ∷
    codes "3 param committeeMaxTermLength 100" ∷
    codes "3 pool 00000000000000000000000000000000000000000000000000000050 deposit 5 cost 0 pledge 0 margin 0/1 account 1k00000000000000000000000000000000000000000000000000000012 retires never" ∷
    codes "3 pool 00000000000000000000000000000000000000000000000000000051 deposit 5 cost 0 pledge 0 margin 0/1 account 1k00000000000000000000000000000000000000000000000000000012 retires never" ∷
    codes "3 account k00000000000000000000000000000000000000000000000000000010 stake 5 deposit 2 rewards 67 pool 00000000000000000000000000000000000000000000000000000050 drep abstain" ∷
    codes "3 account s00000000000000000000000000000000000000000000000000000010 stake 2 unregistered" ∷
    codes "3 account k00000000000000000000000000000000000000000000000000000011 stake 0 deposit 2 rewards 33 pool 00000000000000000000000000000000000000000000000000000051 drep abstain" ∷
    codes "3 account k00000000000000000000000000000000000000000000000000000012 stake 3 deposit 2 rewards 0 pool none drep none" ∷
    codes "3 output 0000000000000000000000000000000000000000000000000000000000000001#3 1k00000000000000000000000000000000000000000000000000000001 20" ∷
    codes "3 output 0000000000000000000000000000000000000000000000000000000000000001#4 1k00000000000000000000000000000000000000000000000000000001 20" ∷
    codes "3 output 0000000000000000000000000000000000000000000000000000000000000001#5 1k00000000000000000000000000000000000000000000000000000001 20" ∷
    codes "3 output 0000000000000000000000000000000000000000000000000000000000000001#6 1k00000000000000000000000000000000000000000000000000000001 20" ∷
    codes "3 output 0000000000000000000000000000000000000000000000000000000000000001#7 1k00000000000000000000000000000000000000000000000000000001 20" ∷
    codes "3 output 0000000000000000000000000000000000000000000000000000000000000001#8 1k00000000000000000000000000000000000000000000000000000001 20" ∷
    codes "3 output 0000000000000000000000000000000000000000000000000000000000000001#9 1k00000000000000000000000000000000000000000000000000000001 20" ∷
    codes "3 output 0000000000000000000000000000000000000000000000000000000000000002#0 1k00000000000000000000000000000000000000000000000000000001+k00000000000000000000000000000000000000000000000000000010 5" ∷
    codes "3 output 0000000000000000000000000000000000000000000000000000000000000002#1 1k00000000000000000000000000000000000000000000000000000001+k00000000000000000000000000000000000000000000000000000012 3" ∷
    codes "3 output 0000000000000000000000000000000000000000000000000000000000000002#2 1s00000000000000000000000000000000000000000000000000000001+s00000000000000000000000000000000000000000000000000000010 2" ∷
    codes "3 snapshot mark 00000000000000000000000000000000000000000000000000000050 67" ∷
    codes "3 snapshot mark 00000000000000000000000000000000000000000000000000000051 33" ∷
    codes "3 snapshot fees 0" ∷
    codes "3 pending none" ∷
    codes "3 pots outputs 150 deposits 16 rewards 100 fees 10 donations 0 treasury 100 reserves 624 supply 1000" ∷
    codes "4 epoch 1 frozen 4 dormant 1" ∷
    codes "4 stake abstain 100" ∷
    codes "4 pots outputs 150 deposits 16 rewards 100 fees 10 donations 0 treasury 100 reserves 624 supply 1000" ∷
    codes "4 block slot 10 epoch 1 counted 1 of 4" ∷
    codes "5 now slot 10 epoch 1 version 10.0 dormant 1" ∷
    codes "5 constitution 0000000000000000000000000000000000000000000000000000000000000001 none" ∷
    codes "5 committee threshold 0/1" ∷
    codes "5 member k00000000000000000000000000000000000000000000000000000070 term 100 hot k00000000000000000000000000000000000000000000000000000071" ∷
    codes "5 enacted committee none constitution none hardfork none parameters none" ∷
    codes "5 param maxBlockBodySize 90112" ∷
    codes "5 param maxTxSize 16384" ∷
    codes "5 param maxBlockHeaderSize 1100" ∷
    codes "5 param maxValueSize 5000" ∷
    codes "5 param maxTxExUnits 1000 1000" ∷
    codes "5 param maxBlockExUnits 1000 1000" ∷
    codes "5 param maxCollateralInputs 3" ∷
    codes "5 param minFeeA 0" ∷
    codes "5 param minFeeB 0" ∷
    codes "5 param keyDeposit 2" ∷
    codes "5 param poolDeposit 5" ∷
    codes "5 param rho 0/1" ∷
    codes "5 param tau 0/1" ∷
    codes "5 param minPoolCost 0" ∷
    codes "5 param coinsPerUTxOByte 0" ∷
    codes "5 param prices 0/1 0/1" ∷
    codes "5 param minFeeRefScriptCostPerByte 15/1" ∷
    codes "5 param a0 0/1" ∷
    codes "5 param eMax 18" ∷
    codes "5 param nOpt 500" ∷
    codes "5 param costModels 0000000000000000000000000000000000000000000000000000000000000000" ∷
    codes "5 param collateralPercentage 150" ∷
    codes "5 param poolVotingThresholds 0/1 0/1 0/1 0/1 0/1" ∷
    codes "5 param drepVotingThresholds 67/100 67/100 67/100 67/100 67/100 67/100 67/100 67/100 67/100 67/100" ∷
    codes "5 param govActionLifetime 2" ∷
    codes "5 param govActionDeposit 10" ∷
    codes "5 param drepDeposit 5" ∷
    codes "5 param drepActivity 20" ∷
    codes "5 param committeeMinSize 0" ∷
    codes "5 param committeeMaxTermLength 100" ∷
    codes "5 pool 00000000000000000000000000000000000000000000000000000050 deposit 5 cost 0 pledge 0 margin 0/1 account 1k00000000000000000000000000000000000000000000000000000012 retires never" ∷
    codes "5 pool 00000000000000000000000000000000000000000000000000000051 deposit 5 cost 0 pledge 0 margin 0/1 account 1k00000000000000000000000000000000000000000000000000000012 retires never" ∷
    codes "5 account k00000000000000000000000000000000000000000000000000000010 stake 5 deposit 2 rewards 67 pool 00000000000000000000000000000000000000000000000000000050 drep abstain" ∷
    codes "5 account s00000000000000000000000000000000000000000000000000000010 stake 2 unregistered" ∷
    codes "5 account k00000000000000000000000000000000000000000000000000000011 stake 0 deposit 2 rewards 33 pool 00000000000000000000000000000000000000000000000000000051 drep abstain" ∷
    codes "5 account k00000000000000000000000000000000000000000000000000000012 stake 3 deposit 2 rewards 0 pool none drep none" ∷
    codes "5 output 0000000000000000000000000000000000000000000000000000000000000001#3 1k00000000000000000000000000000000000000000000000000000001 20" ∷
    codes "5 output 0000000000000000000000000000000000000000000000000000000000000001#4 1k00000000000000000000000000000000000000000000000000000001 20" ∷
    codes "5 output 0000000000000000000000000000000000000000000000000000000000000001#5 1k00000000000000000000000000000000000000000000000000000001 20" ∷
    codes "5 output 0000000000000000000000000000000000000000000000000000000000000001#6 1k00000000000000000000000000000000000000000000000000000001 20" ∷
    codes "5 output 0000000000000000000000000000000000000000000000000000000000000001#7 1k00000000000000000000000000000000000000000000000000000001 20" ∷
    codes "5 output 0000000000000000000000000000000000000000000000000000000000000001#8 1k00000000000000000000000000000000000000000000000000000001 20" ∷
    codes "5 output 0000000000000000000000000000000000000000000000000000000000000001#9 1k00000000000000000000000000000000000000000000000000000001 20" ∷
    codes "5 output 0000000000000000000000000000000000000000000000000000000000000002#0 1k00000000000000000000000000000000000000000000000000000001+k00000000000000000000000000000000000000000000000000000010 5" ∷
    codes "5 output 0000000000000000000000000000000000000000000000000000000000000002#1 1k00000000000000000000000000000000000000000000000000000001+k00000000000000000000000000000000000000000000000000000012 3" ∷
    codes "5 output 0000000000000000000000000000000000000000000000000000000000000002#2 1s00000000000000000000000000000000000000000000000000000001+s00000000000000000000000000000000000000000000000000000010 2" ∷
    codes "5 snapshot mark 00000000000000000000000000000000000000000000000000000050 72" ∷
    codes "5 snapshot mark 00000000000000000000000000000000000000000000000000000051 33" ∷
    codes "5 snapshot set 00000000000000000000000000000000000000000000000000000050 67" ∷
    codes "5 snapshot set 00000000000000000000000000000000000000000000000000000051 33" ∷
    codes "5 snapshot fees 10" ∷
    codes "5 pending none" ∷
    codes "5 pots outputs 150 deposits 16 rewards 100 fees 10 donations 0 treasury 100 reserves 624 supply 1000" ∷
    codes "6 accepted" ∷
    codes "7 epoch 2 frozen 4 dormant 2" ∷
    codes "7 stake abstain 105" ∷
    codes "7 pots outputs 130 deposits 16 rewards 33 fees 97 donations 0 treasury 100 reserves 624 supply 1000" ∷
    codes "7 block slot 20 epoch 2 counted 1 of 4" ∷
    codes "8 now slot 20 epoch 2 version 10.0 dormant 2" ∷
    codes "8 constitution 0000000000000000000000000000000000000000000000000000000000000001 none" ∷
    codes "8 committee threshold 0/1" ∷
    codes "8 member k00000000000000000000000000000000000000000000000000000070 term 100 hot k00000000000000000000000000000000000000000000000000000071" ∷
    codes "8 enacted committee none constitution none hardfork none parameters none" ∷
    codes "8 param maxBlockBodySize 90112" ∷
    codes "8 param maxTxSize 16384" ∷
    codes "8 param maxBlockHeaderSize 1100" ∷
    codes "8 param maxValueSize 5000" ∷
    codes "8 param maxTxExUnits 1000 1000" ∷
    codes "8 param maxBlockExUnits 1000 1000" ∷
    codes "8 param maxCollateralInputs 3" ∷
    codes "8 param minFeeA 0" ∷
    codes "8 param minFeeB 0" ∷
    codes "8 param keyDeposit 2" ∷
    codes "8 param poolDeposit 5" ∷
    codes "8 param rho 0/1" ∷
    codes "8 param tau 0/1" ∷
    codes "8 param minPoolCost 0" ∷
    codes "8 param coinsPerUTxOByte 0" ∷
    codes "8 param prices 0/1 0/1" ∷
    codes "8 param minFeeRefScriptCostPerByte 15/1" ∷
    codes "8 param a0 0/1" ∷
    codes "8 param eMax 18" ∷
    codes "8 param nOpt 500" ∷
    codes "8 param costModels 0000000000000000000000000000000000000000000000000000000000000000" ∷
    codes "8 param collateralPercentage 150" ∷
    codes "8 param poolVotingThresholds 0/1 0/1 0/1 0/1 0/1" ∷
    codes "8 param drepVotingThresholds 67/100 67/100 67/100 67/100 67/100 67/100 67/100 67/100 67/100 67/100" ∷
    codes "8 param govActionLifetime 2" ∷
    codes "8 param govActionDeposit 10" ∷
    codes "8 param drepDeposit 5" ∷
    codes "8 param drepActivity 20" ∷
    codes "8 param committeeMinSize 0" ∷
    codes "8 param committeeMaxTermLength 100" ∷
    codes "8 pool 00000000000000000000000000000000000000000000000000000050 deposit 5 cost 0 pledge 0 margin 0/1 account 1k00000000000000000000000000000000000000000000000000000012 retires never" ∷
    codes "8 pool 00000000000000000000000000000000000000000000000000000051 deposit 5 cost 0 pledge 0 margin 0/1 account 1k00000000000000000000000000000000000000000000000000000012 retires never" ∷
    codes "8 account k00000000000000000000000000000000000000000000000000000010 stake 5 deposit 2 rewards 0 pool 00000000000000000000000000000000000000000000000000000050 drep abstain" ∷
    codes "8 account s00000000000000000000000000000000000000000000000000000010 stake 2 unregistered" ∷
    codes "8 account k00000000000000000000000000000000000000000000000000000011 stake 0 deposit 2 rewards 33 pool 00000000000000000000000000000000000000000000000000000050 drep abstain" ∷
    codes "8 account k00000000000000000000000000000000000000000000000000000012 stake 3 deposit 2 rewards 0 pool none drep none" ∷
    codes "8 output 0000000000000000000000000000000000000000000000000000000000000001#4 1k00000000000000000000000000000000000000000000000000000001 20" ∷
    codes "8 output 0000000000000000000000000000000000000000000000000000000000000001#5 1k00000000000000000000000000000000000000000000000000000001 20" ∷
    codes "8 output 0000000000000000000000000000000000000000000000000000000000000001#6 1k00000000000000000000000000000000000000000000000000000001 20" ∷
    codes "8 output 0000000000000000000000000000000000000000000000000000000000000001#7 1k00000000000000000000000000000000000000000000000000000001 20" ∷
    codes "8 output 0000000000000000000000000000000000000000000000000000000000000001#8 1k00000000000000000000000000000000000000000000000000000001 20" ∷
    codes "8 output 0000000000000000000000000000000000000000000000000000000000000001#9 1k00000000000000000000000000000000000000000000000000000001 20" ∷
    codes "8 output 0000000000000000000000000000000000000000000000000000000000000002#0 1k00000000000000000000000000000000000000000000000000000001+k00000000000000000000000000000000000000000000000000000010 5" ∷
    codes "8 output 0000000000000000000000000000000000000000000000000000000000000002#1 1k00000000000000000000000000000000000000000000000000000001+k00000000000000000000000000000000000000000000000000000012 3" ∷
    codes "8 output 0000000000000000000000000000000000000000000000000000000000000002#2 1s00000000000000000000000000000000000000000000000000000001+s00000000000000000000000000000000000000000000000000000010 2" ∷
    codes "8 snapshot mark 00000000000000000000000000000000000000000000000000000050 38" ∷
    codes "8 snapshot mark 00000000000000000000000000000000000000000000000000000051 0" ∷
    codes "8 snapshot set 00000000000000000000000000000000000000000000000000000050 72" ∷
    codes "8 snapshot set 00000000000000000000000000000000000000000000000000000051 33" ∷
    codes "8 snapshot go 00000000000000000000000000000000000000000000000000000050 67" ∷
    codes "8 snapshot go 00000000000000000000000000000000000000000000000000000051 33" ∷
    codes "8 snapshot fees 97" ∷
    codes "8 pending none" ∷
    codes "8 pots outputs 130 deposits 16 rewards 33 fees 97 donations 0 treasury 100 reserves 624 supply 1000" ∷
    codes "9 accepted" ∷
    codes "10 epoch 3 frozen 4 dormant 3" ∷
    codes "10 stake abstain 38" ∷
    codes "10 retired 00000000000000000000000000000000000000000000000000000051 refund 5 1k00000000000000000000000000000000000000000000000000000012" ∷
    codes "10 pots outputs 110 deposits 11 rewards 38 fees 117 donations 0 treasury 100 reserves 624 supply 1000" ∷
    codes "10 block slot 30 epoch 3 counted 1 of 4" ∷
    codes "11 now slot 30 epoch 3 version 10.0 dormant 3" ∷
    codes "11 constitution 0000000000000000000000000000000000000000000000000000000000000001 none" ∷
    codes "11 committee threshold 0/1" ∷
    codes "11 member k00000000000000000000000000000000000000000000000000000070 term 100 hot k00000000000000000000000000000000000000000000000000000071" ∷
    codes "11 enacted committee none constitution none hardfork none parameters none" ∷
    codes "11 param maxBlockBodySize 90112" ∷
    codes "11 param maxTxSize 16384" ∷
    codes "11 param maxBlockHeaderSize 1100" ∷
    codes "11 param maxValueSize 5000" ∷
    codes "11 param maxTxExUnits 1000 1000" ∷
    codes "11 param maxBlockExUnits 1000 1000" ∷
    codes "11 param maxCollateralInputs 3" ∷
    codes "11 param minFeeA 0" ∷
    codes "11 param minFeeB 0" ∷
    codes "11 param keyDeposit 2" ∷
    codes "11 param poolDeposit 5" ∷
    codes "11 param rho 0/1" ∷
    codes "11 param tau 0/1" ∷
    codes "11 param minPoolCost 0" ∷
    codes "11 param coinsPerUTxOByte 0" ∷
    codes "11 param prices 0/1 0/1" ∷
    codes "11 param minFeeRefScriptCostPerByte 15/1" ∷
    codes "11 param a0 0/1" ∷
    codes "11 param eMax 18" ∷
    codes "11 param nOpt 500" ∷
    codes "11 param costModels 0000000000000000000000000000000000000000000000000000000000000000" ∷
    codes "11 param collateralPercentage 150" ∷
    codes "11 param poolVotingThresholds 0/1 0/1 0/1 0/1 0/1" ∷
    codes "11 param drepVotingThresholds 67/100 67/100 67/100 67/100 67/100 67/100 67/100 67/100 67/100 67/100" ∷
    codes "11 param govActionLifetime 2" ∷
    codes "11 param govActionDeposit 10" ∷
    codes "11 param drepDeposit 5" ∷
    codes "11 param drepActivity 20" ∷
    codes "11 param committeeMinSize 0" ∷
    codes "11 param committeeMaxTermLength 100" ∷
    codes "11 pool 00000000000000000000000000000000000000000000000000000050 deposit 5 cost 0 pledge 0 margin 0/1 account 1k00000000000000000000000000000000000000000000000000000012 retires never" ∷
    codes "11 account k00000000000000000000000000000000000000000000000000000010 stake 5 deposit 2 rewards 0 pool 00000000000000000000000000000000000000000000000000000050 drep abstain" ∷
    codes "11 account s00000000000000000000000000000000000000000000000000000010 stake 2 unregistered" ∷
    codes "11 account k00000000000000000000000000000000000000000000000000000011 stake 0 deposit 2 rewards 33 pool 00000000000000000000000000000000000000000000000000000050 drep abstain" ∷
    codes "11 account k00000000000000000000000000000000000000000000000000000012 stake 3 deposit 2 rewards 5 pool none drep none" ∷
    codes "11 output 0000000000000000000000000000000000000000000000000000000000000001#5 1k00000000000000000000000000000000000000000000000000000001 20" ∷
    codes "11 output 0000000000000000000000000000000000000000000000000000000000000001#6 1k00000000000000000000000000000000000000000000000000000001 20" ∷
    codes "11 output 0000000000000000000000000000000000000000000000000000000000000001#7 1k00000000000000000000000000000000000000000000000000000001 20" ∷
    codes "11 output 0000000000000000000000000000000000000000000000000000000000000001#8 1k00000000000000000000000000000000000000000000000000000001 20" ∷
    codes "11 output 0000000000000000000000000000000000000000000000000000000000000001#9 1k00000000000000000000000000000000000000000000000000000001 20" ∷
    codes "11 output 0000000000000000000000000000000000000000000000000000000000000002#0 1k00000000000000000000000000000000000000000000000000000001+k00000000000000000000000000000000000000000000000000000010 5" ∷
    codes "11 output 0000000000000000000000000000000000000000000000000000000000000002#1 1k00000000000000000000000000000000000000000000000000000001+k00000000000000000000000000000000000000000000000000000012 3" ∷
    codes "11 output 0000000000000000000000000000000000000000000000000000000000000002#2 1s00000000000000000000000000000000000000000000000000000001+s00000000000000000000000000000000000000000000000000000010 2" ∷
    codes "11 snapshot mark 00000000000000000000000000000000000000000000000000000050 38" ∷
    codes "11 snapshot mark 00000000000000000000000000000000000000000000000000000051 3" ∷
    codes "11 snapshot set 00000000000000000000000000000000000000000000000000000050 38" ∷
    codes "11 snapshot set 00000000000000000000000000000000000000000000000000000051 0" ∷
    codes "11 snapshot go 00000000000000000000000000000000000000000000000000000050 72" ∷
    codes "11 snapshot go 00000000000000000000000000000000000000000000000000000051 33" ∷
    codes "11 snapshot fees 117" ∷
    codes "11 pending none" ∷
    codes "11 pots outputs 110 deposits 11 rewards 38 fees 117 donations 0 treasury 100 reserves 624 supply 1000" ∷
    codes "12 epoch 4 frozen 4 dormant 4" ∷
    codes "12 stake abstain 38" ∷
    codes "12 pots outputs 110 deposits 11 rewards 38 fees 117 donations 0 treasury 100 reserves 624 supply 1000" ∷
    codes "12 block slot 40 epoch 4 counted 1 of 4" ∷
    codes "13 now slot 40 epoch 4 version 10.0 dormant 4" ∷
    codes "13 constitution 0000000000000000000000000000000000000000000000000000000000000001 none" ∷
    codes "13 committee threshold 0/1" ∷
    codes "13 member k00000000000000000000000000000000000000000000000000000070 term 100 hot k00000000000000000000000000000000000000000000000000000071" ∷
    codes "13 enacted committee none constitution none hardfork none parameters none" ∷
    codes "13 param maxBlockBodySize 90112" ∷
    codes "13 param maxTxSize 16384" ∷
    codes "13 param maxBlockHeaderSize 1100" ∷
    codes "13 param maxValueSize 5000" ∷
    codes "13 param maxTxExUnits 1000 1000" ∷
    codes "13 param maxBlockExUnits 1000 1000" ∷
    codes "13 param maxCollateralInputs 3" ∷
    codes "13 param minFeeA 0" ∷
    codes "13 param minFeeB 0" ∷
    codes "13 param keyDeposit 2" ∷
    codes "13 param poolDeposit 5" ∷
    codes "13 param rho 0/1" ∷
    codes "13 param tau 0/1" ∷
    codes "13 param minPoolCost 0" ∷
    codes "13 param coinsPerUTxOByte 0" ∷
    codes "13 param prices 0/1 0/1" ∷
    codes "13 param minFeeRefScriptCostPerByte 15/1" ∷
    codes "13 param a0 0/1" ∷
    codes "13 param eMax 18" ∷
    codes "13 param nOpt 500" ∷
    codes "13 param costModels 0000000000000000000000000000000000000000000000000000000000000000" ∷
    codes "13 param collateralPercentage 150" ∷
    codes "13 param poolVotingThresholds 0/1 0/1 0/1 0/1 0/1" ∷
    codes "13 param drepVotingThresholds 67/100 67/100 67/100 67/100 67/100 67/100 67/100 67/100 67/100 67/100" ∷
    codes "13 param govActionLifetime 2" ∷
    codes "13 param govActionDeposit 10" ∷
    codes "13 param drepDeposit 5" ∷
    codes "13 param drepActivity 20" ∷
    codes "13 param committeeMinSize 0" ∷
    codes "13 param committeeMaxTermLength 100" ∷
    codes "13 pool 00000000000000000000000000000000000000000000000000000050 deposit 5 cost 0 pledge 0 margin 0/1 account 1k00000000000000000000000000000000000000000000000000000012 retires never" ∷
    codes "13 account k00000000000000000000000000000000000000000000000000000010 stake 5 deposit 2 rewards 0 pool 00000000000000000000000000000000000000000000000000000050 drep abstain" ∷
    codes "13 account s00000000000000000000000000000000000000000000000000000010 stake 2 unregistered" ∷
    codes "13 account k00000000000000000000000000000000000000000000000000000011 stake 0 deposit 2 rewards 33 pool 00000000000000000000000000000000000000000000000000000050 drep abstain" ∷
    codes "13 account k00000000000000000000000000000000000000000000000000000012 stake 3 deposit 2 rewards 5 pool none drep none" ∷
    codes "13 output 0000000000000000000000000000000000000000000000000000000000000001#5 1k00000000000000000000000000000000000000000000000000000001 20" ∷
    codes "13 output 0000000000000000000000000000000000000000000000000000000000000001#6 1k00000000000000000000000000000000000000000000000000000001 20" ∷
    codes "13 output 0000000000000000000000000000000000000000000000000000000000000001#7 1k00000000000000000000000000000000000000000000000000000001 20" ∷
    codes "13 output 0000000000000000000000000000000000000000000000000000000000000001#8 1k00000000000000000000000000000000000000000000000000000001 20" ∷
    codes "13 output 0000000000000000000000000000000000000000000000000000000000000001#9 1k00000000000000000000000000000000000000000000000000000001 20" ∷
    codes "13 output 0000000000000000000000000000000000000000000000000000000000000002#0 1k00000000000000000000000000000000000000000000000000000001+k00000000000000000000000000000000000000000000000000000010 5" ∷
    codes "13 output 0000000000000000000000000000000000000000000000000000000000000002#1 1k00000000000000000000000000000000000000000000000000000001+k00000000000000000000000000000000000000000000000000000012 3" ∷
    codes "13 output 0000000000000000000000000000000000000000000000000000000000000002#2 1s00000000000000000000000000000000000000000000000000000001+s00000000000000000000000000000000000000000000000000000010 2" ∷
    codes "13 snapshot mark 00000000000000000000000000000000000000000000000000000050 38" ∷
    codes "13 snapshot set 00000000000000000000000000000000000000000000000000000050 38" ∷
    codes "13 snapshot set 00000000000000000000000000000000000000000000000000000051 3" ∷
    codes "13 snapshot go 00000000000000000000000000000000000000000000000000000050 38" ∷
    codes "13 snapshot go 00000000000000000000000000000000000000000000000000000051 0" ∷
    codes "13 snapshot fees 117" ∷
    codes "13 pending none" ∷
    codes "13 pots outputs 110 deposits 11 rewards 38 fees 117 donations 0 treasury 100 reserves 624 supply 1000" ∷
    []) ≡ true
unfolding digits encode_with
snapshots_over_four_boundaries = refl
