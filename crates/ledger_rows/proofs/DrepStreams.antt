-- Worked rows of whole streams: certificates of DReps and hot keys. Made by tests/made/rows_of, from the streams of these names in tests/streams/whole.
use Rattle.std.specs.Prelude.{ℕ, ◌≡◌, List, [], ◌∷◌, Some, None, true, codes, refl}
use Rattle.std.specs.Fmt.{digits}
use Rattle.hex.specs.Hex.{encode_with}
use Rattle.gov_actions.specs.declared.action.Action.TheVariants as actions
use Rattle.gov_actions.specs.declared.action.Vote.TheVariants as vote
use Rattle.gov_ids.specs.declared.Drep.TheVariants as drep
use Rattle.gov_ids.specs.declared.Voter.TheVariants as voter
use Rattle.tx_records.specs.declared.record.Record.TheVariants as records
use Rattle.tx_records.specs.declared.record.What.TheVariants as what
use Rattle.tx_records.specs.declared.cert.Cert.TheVariants as certs
use Rattle.tx_records.specs.declared.record.Reading.{Reading}
use Rattle.tx_records.specs.declared.record.Reading.TheVariants.{Read}
use Rattle.ledger_rows.proofs.Base.{h32, key, script, pool, account_on, address_with, ref, action, share, base_params, spend, proposing, voting, says_all}

abbrev certificates_of_dreps_input : List (ℕ × Reading)
certificates_of_dreps_input =
    (1, Read (records.Genesis (record { network = 1; slot = 30; epoch_length = 10; version = (10, 0); supply = 1000; reserves = 650; treasury = 100; params = (record base_params { drep_deposit = 4 }); document = (h32 0x01); script = None; committee = (Some (record { threshold = (share 0 1); members = (((key 0x70), 100, (Some (key 0x71))) ∷ []) })); outputs = (((ref 0x01 2), (address_with 1 (key 0x01) None), 20, []) ∷ ((ref 0x01 3), (address_with 1 (key 0x01) None), 20, []) ∷ ((ref 0x01 4), (address_with 1 (key 0x01) None), 20, []) ∷ ((ref 0x01 5), (address_with 1 (key 0x01) None), 20, []) ∷ ((ref 0x01 6), (address_with 1 (key 0x01) None), 20, []) ∷ ((ref 0x01 7), (address_with 1 (key 0x01) None), 20, []) ∷ []); accounts = (((key 0x10), 2, 67, None, (Some (drep.Registered (key 0x30)))) ∷ ((key 0x11), 2, 33, None, (Some (drep.Registered (key 0x31)))) ∷ ((key 0x12), 2, 1, None, (Some (drep.Registered (script 0x30)))) ∷ []); pools = ((record { pool = (pool 0x50); deposit = 5; cost = 0; pledge = 0; margin = (share 0 1); account = (account_on 1 (key 0x12)); key = None }) ∷ []); dreps = (((key 0x30), 5, 5) ∷ ((key 0x31), 6, 20) ∷ ((script 0x30), 7, 9) ∷ []) }))) ∷
    (2, Read (records.Tx (record (spend 0x02 10) { proposals = ((proposing 10 (account_on 1 (key 0x12)) (actions.NoConfidence None)) ∷ []) }))) ∷
    (3, Read (records.Tx (record (spend 0x03 20) { votes = ((voting (voter.Drep (key 0x31)) (action 0x02 0) vote.Yes) ∷ (voting (voter.Drep (key 0x30)) (action 0x02 0) vote.No) ∷ (voting (voter.Drep (script 0x30)) (action 0x02 0) vote.Abstain) ∷ []) }))) ∷
    (4, Read (records.Print what.State)) ∷
    (5, Read (records.Tx (record (spend 0x04 22) { certs = ((certs.DrepReg (key 0x32) (Some 4)) ∷ (certs.DrepUpdate (script 0x30)) ∷ (certs.DrepUnreg (key 0x31) (Some 6)) ∷ []) }))) ∷
    (6, Read (records.Print what.State)) ∷
    (7, Read (records.Tx (record (spend 0x05 20) { certs = ((certs.DrepReg (key 0x31) None) ∷ (certs.DrepUnreg (key 0x32) None) ∷ []) }))) ∷
    (8, Read (records.Block 40 1)) ∷
    (9, Read (records.Tx (record (spend 0x06 20) { certs = ((certs.DrepUpdate (key 0x31)) ∷ []) }))) ∷
    (10, Read (records.Tx (record (spend 0x07 27) { certs = ((certs.DrepUnreg (script 0x30) None) ∷ (certs.Delegate (key 0x12) None (Some (drep.Registered (key 0x31)))) ∷ []) }))) ∷
    (11, Read (records.Block 50 1)) ∷
    (12, Read (records.Print what.State)) ∷
    []

pub certificates_of_dreps : says_all certificates_of_dreps_input (
    codes "1 genesis outputs 120 deposits 29 rewards 101 fees 0 donations 0 treasury 100 reserves 650 supply 1000" ∷
    codes "2 accepted" ∷
    codes "3 accepted" ∷
    codes "4 now slot 30 epoch 3 version 10.0 dormant 0" ∷
    codes "4 constitution 0000000000000000000000000000000000000000000000000000000000000001 none" ∷
    codes "4 committee threshold 0/1" ∷
    codes "4 member k00000000000000000000000000000000000000000000000000000070 term 100 hot k00000000000000000000000000000000000000000000000000000071" ∷
    codes "4 enacted committee none constitution none hardfork none parameters none" ∷
    codes "4 param maxBlockBodySize 90112" ∷
    codes "4 param maxTxSize 16384" ∷
    codes "4 param maxBlockHeaderSize 1100" ∷
    codes "4 param maxValueSize 5000" ∷
    codes "4 param maxTxExUnits 1000 1000" ∷
    codes "4 param maxBlockExUnits 1000 1000" ∷
    codes "4 param maxCollateralInputs 3" ∷
    codes "4 param minFeeA 0" ∷
    codes "4 param minFeeB 0" ∷
    codes "4 param keyDeposit 2" ∷
    codes "4 param poolDeposit 5" ∷
    codes "4 param rho 0/1" ∷
    codes "4 param tau 0/1" ∷
    codes "4 param minPoolCost 0" ∷
    codes "4 param coinsPerUTxOByte 0" ∷
    codes "4 param prices 0/1 0/1" ∷
    codes "4 param minFeeRefScriptCostPerByte 15/1" ∷
    codes "4 param a0 0/1" ∷
    codes "4 param eMax 18" ∷
    codes "4 param nOpt 500" ∷
    codes "4 param costModels 0000000000000000000000000000000000000000000000000000000000000000" ∷
    codes "4 param collateralPercentage 150" ∷
    codes "4 param poolVotingThresholds 0/1 0/1 0/1 0/1 0/1" ∷
    codes "4 param drepVotingThresholds 67/100 67/100 67/100 67/100 67/100 67/100 67/100 67/100 67/100 67/100" ∷
    codes "4 param govActionLifetime 2" ∷
    codes "4 param govActionDeposit 10" ∷
    codes "4 param drepDeposit 4" ∷
    codes "4 param drepActivity 20" ∷
    codes "4 param committeeMinSize 0" ∷
    codes "4 param committeeMaxTermLength 100" ∷
    codes "4 drep k00000000000000000000000000000000000000000000000000000030 deposit 5 expiry 23" ∷
    codes "4 drep s00000000000000000000000000000000000000000000000000000030 deposit 7 expiry 23" ∷
    codes "4 drep k00000000000000000000000000000000000000000000000000000031 deposit 6 expiry 23" ∷
    codes "4 pool 00000000000000000000000000000000000000000000000000000050 deposit 5 cost 0 pledge 0 margin 0/1 account 1k00000000000000000000000000000000000000000000000000000012 retires never" ∷
    codes "4 account k00000000000000000000000000000000000000000000000000000010 stake 0 deposit 2 rewards 67 pool none drep k00000000000000000000000000000000000000000000000000000030" ∷
    codes "4 account k00000000000000000000000000000000000000000000000000000011 stake 0 deposit 2 rewards 33 pool none drep k00000000000000000000000000000000000000000000000000000031" ∷
    codes "4 account k00000000000000000000000000000000000000000000000000000012 stake 0 deposit 2 rewards 1 pool none drep s00000000000000000000000000000000000000000000000000000030" ∷
    codes "4 output 0000000000000000000000000000000000000000000000000000000000000001#4 1k00000000000000000000000000000000000000000000000000000001 20" ∷
    codes "4 output 0000000000000000000000000000000000000000000000000000000000000001#5 1k00000000000000000000000000000000000000000000000000000001 20" ∷
    codes "4 output 0000000000000000000000000000000000000000000000000000000000000001#6 1k00000000000000000000000000000000000000000000000000000001 20" ∷
    codes "4 output 0000000000000000000000000000000000000000000000000000000000000001#7 1k00000000000000000000000000000000000000000000000000000001 20" ∷
    codes "4 proposal 0000000000000000000000000000000000000000000000000000000000000002#0 NoConfidence deposit 10 return 1k00000000000000000000000000000000000000000000000000000012 expires 5 previous none" ∷
    codes "4 vote 0000000000000000000000000000000000000000000000000000000000000002#0 drep:k00000000000000000000000000000000000000000000000000000030 no" ∷
    codes "4 vote 0000000000000000000000000000000000000000000000000000000000000002#0 drep:s00000000000000000000000000000000000000000000000000000030 abstain" ∷
    codes "4 vote 0000000000000000000000000000000000000000000000000000000000000002#0 drep:k00000000000000000000000000000000000000000000000000000031 yes" ∷
    codes "4 snapshot mark 00000000000000000000000000000000000000000000000000000050 0" ∷
    codes "4 snapshot fees 0" ∷
    codes "4 pending none" ∷
    codes "4 pots outputs 80 deposits 39 rewards 101 fees 30 donations 0 treasury 100 reserves 650 supply 1000" ∷
    codes "5 accepted" ∷
    codes "6 now slot 30 epoch 3 version 10.0 dormant 0" ∷
    codes "6 constitution 0000000000000000000000000000000000000000000000000000000000000001 none" ∷
    codes "6 committee threshold 0/1" ∷
    codes "6 member k00000000000000000000000000000000000000000000000000000070 term 100 hot k00000000000000000000000000000000000000000000000000000071" ∷
    codes "6 enacted committee none constitution none hardfork none parameters none" ∷
    codes "6 param maxBlockBodySize 90112" ∷
    codes "6 param maxTxSize 16384" ∷
    codes "6 param maxBlockHeaderSize 1100" ∷
    codes "6 param maxValueSize 5000" ∷
    codes "6 param maxTxExUnits 1000 1000" ∷
    codes "6 param maxBlockExUnits 1000 1000" ∷
    codes "6 param maxCollateralInputs 3" ∷
    codes "6 param minFeeA 0" ∷
    codes "6 param minFeeB 0" ∷
    codes "6 param keyDeposit 2" ∷
    codes "6 param poolDeposit 5" ∷
    codes "6 param rho 0/1" ∷
    codes "6 param tau 0/1" ∷
    codes "6 param minPoolCost 0" ∷
    codes "6 param coinsPerUTxOByte 0" ∷
    codes "6 param prices 0/1 0/1" ∷
    codes "6 param minFeeRefScriptCostPerByte 15/1" ∷
    codes "6 param a0 0/1" ∷
    codes "6 param eMax 18" ∷
    codes "6 param nOpt 500" ∷
    codes "6 param costModels 0000000000000000000000000000000000000000000000000000000000000000" ∷
    codes "6 param collateralPercentage 150" ∷
    codes "6 param poolVotingThresholds 0/1 0/1 0/1 0/1 0/1" ∷
    codes "6 param drepVotingThresholds 67/100 67/100 67/100 67/100 67/100 67/100 67/100 67/100 67/100 67/100" ∷
    codes "6 param govActionLifetime 2" ∷
    codes "6 param govActionDeposit 10" ∷
    codes "6 param drepDeposit 4" ∷
    codes "6 param drepActivity 20" ∷
    codes "6 param committeeMinSize 0" ∷
    codes "6 param committeeMaxTermLength 100" ∷
    codes "6 drep k00000000000000000000000000000000000000000000000000000030 deposit 5 expiry 23" ∷
    codes "6 drep s00000000000000000000000000000000000000000000000000000030 deposit 7 expiry 23" ∷
    codes "6 drep k00000000000000000000000000000000000000000000000000000032 deposit 4 expiry 23" ∷
    codes "6 pool 00000000000000000000000000000000000000000000000000000050 deposit 5 cost 0 pledge 0 margin 0/1 account 1k00000000000000000000000000000000000000000000000000000012 retires never" ∷
    codes "6 account k00000000000000000000000000000000000000000000000000000010 stake 0 deposit 2 rewards 67 pool none drep k00000000000000000000000000000000000000000000000000000030" ∷
    codes "6 account k00000000000000000000000000000000000000000000000000000011 stake 0 deposit 2 rewards 33 pool none drep none" ∷
    codes "6 account k00000000000000000000000000000000000000000000000000000012 stake 0 deposit 2 rewards 1 pool none drep s00000000000000000000000000000000000000000000000000000030" ∷
    codes "6 output 0000000000000000000000000000000000000000000000000000000000000001#5 1k00000000000000000000000000000000000000000000000000000001 20" ∷
    codes "6 output 0000000000000000000000000000000000000000000000000000000000000001#6 1k00000000000000000000000000000000000000000000000000000001 20" ∷
    codes "6 output 0000000000000000000000000000000000000000000000000000000000000001#7 1k00000000000000000000000000000000000000000000000000000001 20" ∷
    codes "6 proposal 0000000000000000000000000000000000000000000000000000000000000002#0 NoConfidence deposit 10 return 1k00000000000000000000000000000000000000000000000000000012 expires 5 previous none" ∷
    codes "6 vote 0000000000000000000000000000000000000000000000000000000000000002#0 drep:k00000000000000000000000000000000000000000000000000000030 no" ∷
    codes "6 vote 0000000000000000000000000000000000000000000000000000000000000002#0 drep:s00000000000000000000000000000000000000000000000000000030 abstain" ∷
    codes "6 snapshot mark 00000000000000000000000000000000000000000000000000000050 0" ∷
    codes "6 snapshot fees 0" ∷
    codes "6 pending none" ∷
    codes "6 pots outputs 60 deposits 37 rewards 101 fees 52 donations 0 treasury 100 reserves 650 supply 1000" ∷
    codes "7 accepted" ∷
    codes "8 epoch 4 frozen 3 dormant 0" ∷
    codes "8 stake k00000000000000000000000000000000000000000000000000000030 67" ∷
    codes "8 stake s00000000000000000000000000000000000000000000000000000030 1" ∷
    codes "8 stake k00000000000000000000000000000000000000000000000000000031 33" ∷
    codes "8 pots outputs 40 deposits 37 rewards 101 fees 72 donations 0 treasury 100 reserves 650 supply 1000" ∷
    codes "8 block slot 40 epoch 4 counted 1 of 3" ∷
    codes "9 accepted" ∷
    codes "10 accepted" ∷
    codes "11 epoch 5 frozen 3 dormant 0" ∷
    codes "11 stake k00000000000000000000000000000000000000000000000000000030 67" ∷
    codes "11 stake s00000000000000000000000000000000000000000000000000000030 11" ∷
    codes "11 tally 0000000000000000000000000000000000000000000000000000000000000002#0 NoConfidence committee 0/1 need none drep 0/67 need 67/100 pool 0/0 need 0/1 waiting" ∷
    codes "11 pots outputs 0 deposits 30 rewards 101 fees 119 donations 0 treasury 100 reserves 650 supply 1000" ∷
    codes "11 block slot 50 epoch 5 counted 1 of 3" ∷
    codes "12 now slot 50 epoch 5 version 10.0 dormant 0" ∷
    codes "12 constitution 0000000000000000000000000000000000000000000000000000000000000001 none" ∷
    codes "12 committee threshold 0/1" ∷
    codes "12 member k00000000000000000000000000000000000000000000000000000070 term 100 hot k00000000000000000000000000000000000000000000000000000071" ∷
    codes "12 enacted committee none constitution none hardfork none parameters none" ∷
    codes "12 param maxBlockBodySize 90112" ∷
    codes "12 param maxTxSize 16384" ∷
    codes "12 param maxBlockHeaderSize 1100" ∷
    codes "12 param maxValueSize 5000" ∷
    codes "12 param maxTxExUnits 1000 1000" ∷
    codes "12 param maxBlockExUnits 1000 1000" ∷
    codes "12 param maxCollateralInputs 3" ∷
    codes "12 param minFeeA 0" ∷
    codes "12 param minFeeB 0" ∷
    codes "12 param keyDeposit 2" ∷
    codes "12 param poolDeposit 5" ∷
    codes "12 param rho 0/1" ∷
    codes "12 param tau 0/1" ∷
    codes "12 param minPoolCost 0" ∷
    codes "12 param coinsPerUTxOByte 0" ∷
    codes "12 param prices 0/1 0/1" ∷
    codes "12 param minFeeRefScriptCostPerByte 15/1" ∷
    codes "12 param a0 0/1" ∷
    codes "12 param eMax 18" ∷
    codes "12 param nOpt 500" ∷
    codes "12 param costModels 0000000000000000000000000000000000000000000000000000000000000000" ∷
    codes "12 param collateralPercentage 150" ∷
    codes "12 param poolVotingThresholds 0/1 0/1 0/1 0/1 0/1" ∷
    codes "12 param drepVotingThresholds 67/100 67/100 67/100 67/100 67/100 67/100 67/100 67/100 67/100 67/100" ∷
    codes "12 param govActionLifetime 2" ∷
    codes "12 param govActionDeposit 10" ∷
    codes "12 param drepDeposit 4" ∷
    codes "12 param drepActivity 20" ∷
    codes "12 param committeeMinSize 0" ∷
    codes "12 param committeeMaxTermLength 100" ∷
    codes "12 drep k00000000000000000000000000000000000000000000000000000030 deposit 5 expiry 23" ∷
    codes "12 drep k00000000000000000000000000000000000000000000000000000031 deposit 4 expiry 24" ∷
    codes "12 pool 00000000000000000000000000000000000000000000000000000050 deposit 5 cost 0 pledge 0 margin 0/1 account 1k00000000000000000000000000000000000000000000000000000012 retires never" ∷
    codes "12 account k00000000000000000000000000000000000000000000000000000010 stake 0 deposit 2 rewards 67 pool none drep k00000000000000000000000000000000000000000000000000000030" ∷
    codes "12 account k00000000000000000000000000000000000000000000000000000011 stake 0 deposit 2 rewards 33 pool none drep none" ∷
    codes "12 account k00000000000000000000000000000000000000000000000000000012 stake 0 deposit 2 rewards 1 pool none drep k00000000000000000000000000000000000000000000000000000031" ∷
    codes "12 proposal 0000000000000000000000000000000000000000000000000000000000000002#0 NoConfidence deposit 10 return 1k00000000000000000000000000000000000000000000000000000012 expires 5 previous none" ∷
    codes "12 vote 0000000000000000000000000000000000000000000000000000000000000002#0 drep:k00000000000000000000000000000000000000000000000000000030 no" ∷
    codes "12 snapshot mark 00000000000000000000000000000000000000000000000000000050 0" ∷
    codes "12 snapshot set 00000000000000000000000000000000000000000000000000000050 0" ∷
    codes "12 snapshot go 00000000000000000000000000000000000000000000000000000050 0" ∷
    codes "12 snapshot fees 119" ∷
    codes "12 pending none" ∷
    codes "12 pots outputs 0 deposits 30 rewards 101 fees 119 donations 0 treasury 100 reserves 650 supply 1000" ∷
    []) ≡ true
unfolding digits encode_with
certificates_of_dreps = refl

abbrev hot_keys_replaced_and_shared_input : List (ℕ × Reading)
hot_keys_replaced_and_shared_input =
    (1, Read (records.Genesis (record { network = 1; slot = 0; epoch_length = 10; version = (10, 0); supply = 1000; reserves = 499; treasury = 100; params = (record base_params { drep_voting_thresholds = ((share 0 1) ∷ (share 0 1) ∷ (share 0 1) ∷ (share 0 1) ∷ (share 0 1) ∷ (share 0 1) ∷ (share 0 1) ∷ (share 0 1) ∷ (share 0 1) ∷ (share 0 1) ∷ []) }); document = (h32 0x01); script = None; committee = (Some (record { threshold = (share 1 2); members = (((key 0x70), 100, (Some (key 0x71))) ∷ ((key 0x72), 100, None) ∷ ((script 0x70), 100, (Some (key 0x73))) ∷ []) })); outputs = (((ref 0x01 2), (address_with 1 (key 0x01) None), 40, []) ∷ ((ref 0x01 3), (address_with 1 (key 0x01) None), 40, []) ∷ ((ref 0x01 4), (address_with 1 (key 0x01) None), 40, []) ∷ ((ref 0x01 5), (address_with 1 (key 0x01) None), 40, []) ∷ ((ref 0x01 6), (address_with 1 (key 0x01) None), 40, []) ∷ ((ref 0x01 7), (address_with 1 (key 0x01) None), 40, []) ∷ ((ref 0x01 8), (address_with 1 (key 0x01) None), 40, []) ∷ []); accounts = (((key 0x10), 2, 67, None, (Some (drep.Registered (key 0x30)))) ∷ ((key 0x11), 2, 33, None, (Some (drep.Registered (key 0x31)))) ∷ ((key 0x12), 2, 0, None, None) ∷ []); pools = ((record { pool = (pool 0x50); deposit = 5; cost = 0; pledge = 0; margin = (share 0 1); account = (account_on 1 (key 0x12)); key = None }) ∷ []); dreps = (((key 0x30), 5, 20) ∷ ((key 0x31), 5, 20) ∷ []) }))) ∷
    (2, Read (records.Tx (record (spend 0x02 30) { certs = ((certs.HotAuth (key 0x70) (script 0x75)) ∷ (certs.HotAuth (key 0x72) (script 0x75)) ∷ []); proposals = ((proposing 10 (account_on 1 (key 0x12)) (actions.UpdateCommittee None ((script 0x70) ∷ []) (((key 0x60), 50) ∷ []) (share 1 3))) ∷ []) }))) ∷
    (3, Read (records.Tx (record (spend 0x03 30) { certs = ((certs.HotAuth (key 0x60) (key 0x61)) ∷ []); proposals = ((proposing 10 (account_on 1 (key 0x12)) (actions.HardForkInitiation None (10, 1))) ∷ []) }))) ∷
    (4, Read (records.Tx (record (spend 0x04 40) { votes = ((voting (voter.Committee (script 0x75)) (action 0x03 0) vote.Yes) ∷ (voting (voter.Committee (key 0x73)) (action 0x03 0) vote.No) ∷ []) }))) ∷
    (5, Read (records.Tx (record (spend 0x05 0) { votes = ((voting (voter.Committee (key 0x71)) (action 0x03 0) vote.Yes) ∷ []) }))) ∷
    (6, Read (records.Print what.State)) ∷
    (7, Read (records.Block 10 1)) ∷
    (8, Read (records.Print what.State)) ∷
    (9, Read (records.Tx (record (spend 0x06 40) { certs = ((certs.HotResign (key 0x72)) ∷ []) }))) ∷
    (10, Read (records.Block 20 1)) ∷
    (11, Read (records.Print what.State)) ∷
    (12, Read (records.Tx (record (spend 0x07 0) { certs = ((certs.HotAuth (key 0x72) (key 0x71)) ∷ []) }))) ∷
    (13, Read (records.Tx (record (spend 0x08 0) { certs = ((certs.HotAuth (script 0x70) (key 0x73)) ∷ []) }))) ∷
    (14, Read (records.Block 30 1)) ∷
    (15, Read (records.Print what.State)) ∷
    []

pub hot_keys_replaced_and_shared : says_all hot_keys_replaced_and_shared_input (
    codes "1 genesis outputs 280 deposits 21 rewards 100 fees 0 donations 0 treasury 100 reserves 499 supply 1000" ∷
    codes "2 accepted" ∷
    codes "3 accepted" ∷
    codes "4 accepted" ∷
    codes "5 refused 101 VoterUnknown at 0" ∷
    codes "6 now slot 0 epoch 0 version 10.0 dormant 0" ∷
    codes "6 constitution 0000000000000000000000000000000000000000000000000000000000000001 none" ∷
    codes "6 committee threshold 1/2" ∷
    codes "6 member k00000000000000000000000000000000000000000000000000000070 term 100 hot s00000000000000000000000000000000000000000000000000000075" ∷
    codes "6 member s00000000000000000000000000000000000000000000000000000070 term 100 hot k00000000000000000000000000000000000000000000000000000073" ∷
    codes "6 member k00000000000000000000000000000000000000000000000000000072 term 100 hot s00000000000000000000000000000000000000000000000000000075" ∷
    codes "6 hot k00000000000000000000000000000000000000000000000000000060 k00000000000000000000000000000000000000000000000000000061" ∷
    codes "6 enacted committee none constitution none hardfork none parameters none" ∷
    codes "6 param maxBlockBodySize 90112" ∷
    codes "6 param maxTxSize 16384" ∷
    codes "6 param maxBlockHeaderSize 1100" ∷
    codes "6 param maxValueSize 5000" ∷
    codes "6 param maxTxExUnits 1000 1000" ∷
    codes "6 param maxBlockExUnits 1000 1000" ∷
    codes "6 param maxCollateralInputs 3" ∷
    codes "6 param minFeeA 0" ∷
    codes "6 param minFeeB 0" ∷
    codes "6 param keyDeposit 2" ∷
    codes "6 param poolDeposit 5" ∷
    codes "6 param rho 0/1" ∷
    codes "6 param tau 0/1" ∷
    codes "6 param minPoolCost 0" ∷
    codes "6 param coinsPerUTxOByte 0" ∷
    codes "6 param prices 0/1 0/1" ∷
    codes "6 param minFeeRefScriptCostPerByte 15/1" ∷
    codes "6 param a0 0/1" ∷
    codes "6 param eMax 18" ∷
    codes "6 param nOpt 500" ∷
    codes "6 param costModels 0000000000000000000000000000000000000000000000000000000000000000" ∷
    codes "6 param collateralPercentage 150" ∷
    codes "6 param poolVotingThresholds 0/1 0/1 0/1 0/1 0/1" ∷
    codes "6 param drepVotingThresholds 0/1 0/1 0/1 0/1 0/1 0/1 0/1 0/1 0/1 0/1" ∷
    codes "6 param govActionLifetime 2" ∷
    codes "6 param govActionDeposit 10" ∷
    codes "6 param drepDeposit 5" ∷
    codes "6 param drepActivity 20" ∷
    codes "6 param committeeMinSize 0" ∷
    codes "6 param committeeMaxTermLength 100" ∷
    codes "6 drep k00000000000000000000000000000000000000000000000000000030 deposit 5 expiry 20" ∷
    codes "6 drep k00000000000000000000000000000000000000000000000000000031 deposit 5 expiry 20" ∷
    codes "6 pool 00000000000000000000000000000000000000000000000000000050 deposit 5 cost 0 pledge 0 margin 0/1 account 1k00000000000000000000000000000000000000000000000000000012 retires never" ∷
    codes "6 account k00000000000000000000000000000000000000000000000000000010 stake 0 deposit 2 rewards 67 pool none drep k00000000000000000000000000000000000000000000000000000030" ∷
    codes "6 account k00000000000000000000000000000000000000000000000000000011 stake 0 deposit 2 rewards 33 pool none drep k00000000000000000000000000000000000000000000000000000031" ∷
    codes "6 account k00000000000000000000000000000000000000000000000000000012 stake 0 deposit 2 rewards 0 pool none drep none" ∷
    codes "6 output 0000000000000000000000000000000000000000000000000000000000000001#5 1k00000000000000000000000000000000000000000000000000000001 40" ∷
    codes "6 output 0000000000000000000000000000000000000000000000000000000000000001#6 1k00000000000000000000000000000000000000000000000000000001 40" ∷
    codes "6 output 0000000000000000000000000000000000000000000000000000000000000001#7 1k00000000000000000000000000000000000000000000000000000001 40" ∷
    codes "6 output 0000000000000000000000000000000000000000000000000000000000000001#8 1k00000000000000000000000000000000000000000000000000000001 40" ∷
    codes "6 proposal 0000000000000000000000000000000000000000000000000000000000000002#0 UpdateCommittee deposit 10 return 1k00000000000000000000000000000000000000000000000000000012 expires 2 previous none" ∷
    codes "6 proposal 0000000000000000000000000000000000000000000000000000000000000003#0 HardForkInitiation deposit 10 return 1k00000000000000000000000000000000000000000000000000000012 expires 2 previous none" ∷
    codes "6 vote 0000000000000000000000000000000000000000000000000000000000000003#0 committee:k00000000000000000000000000000000000000000000000000000073 no" ∷
    codes "6 vote 0000000000000000000000000000000000000000000000000000000000000003#0 committee:s00000000000000000000000000000000000000000000000000000075 yes" ∷
    codes "6 snapshot mark 00000000000000000000000000000000000000000000000000000050 0" ∷
    codes "6 snapshot fees 0" ∷
    codes "6 pending none" ∷
    codes "6 pots outputs 160 deposits 41 rewards 100 fees 100 donations 0 treasury 100 reserves 499 supply 1000" ∷
    codes "7 epoch 1 frozen 3 dormant 0" ∷
    codes "7 stake k00000000000000000000000000000000000000000000000000000030 67" ∷
    codes "7 stake k00000000000000000000000000000000000000000000000000000031 33" ∷
    codes "7 pots outputs 160 deposits 41 rewards 100 fees 100 donations 0 treasury 100 reserves 499 supply 1000" ∷
    codes "7 block slot 10 epoch 1 counted 1 of 3" ∷
    codes "8 now slot 10 epoch 1 version 10.0 dormant 0" ∷
    codes "8 constitution 0000000000000000000000000000000000000000000000000000000000000001 none" ∷
    codes "8 committee threshold 1/2" ∷
    codes "8 member k00000000000000000000000000000000000000000000000000000070 term 100 hot s00000000000000000000000000000000000000000000000000000075" ∷
    codes "8 member s00000000000000000000000000000000000000000000000000000070 term 100 hot k00000000000000000000000000000000000000000000000000000073" ∷
    codes "8 member k00000000000000000000000000000000000000000000000000000072 term 100 hot s00000000000000000000000000000000000000000000000000000075" ∷
    codes "8 enacted committee none constitution none hardfork none parameters none" ∷
    codes "8 param maxBlockBodySize 90112" ∷
    codes "8 param maxTxSize 16384" ∷
    codes "8 param maxBlockHeaderSize 1100" ∷
    codes "8 param maxValueSize 5000" ∷
    codes "8 param maxTxExUnits 1000 1000" ∷
    codes "8 param maxBlockExUnits 1000 1000" ∷
    codes "8 param maxCollateralInputs 3" ∷
    codes "8 param minFeeA 0" ∷
    codes "8 param minFeeB 0" ∷
    codes "8 param keyDeposit 2" ∷
    codes "8 param poolDeposit 5" ∷
    codes "8 param rho 0/1" ∷
    codes "8 param tau 0/1" ∷
    codes "8 param minPoolCost 0" ∷
    codes "8 param coinsPerUTxOByte 0" ∷
    codes "8 param prices 0/1 0/1" ∷
    codes "8 param minFeeRefScriptCostPerByte 15/1" ∷
    codes "8 param a0 0/1" ∷
    codes "8 param eMax 18" ∷
    codes "8 param nOpt 500" ∷
    codes "8 param costModels 0000000000000000000000000000000000000000000000000000000000000000" ∷
    codes "8 param collateralPercentage 150" ∷
    codes "8 param poolVotingThresholds 0/1 0/1 0/1 0/1 0/1" ∷
    codes "8 param drepVotingThresholds 0/1 0/1 0/1 0/1 0/1 0/1 0/1 0/1 0/1 0/1" ∷
    codes "8 param govActionLifetime 2" ∷
    codes "8 param govActionDeposit 10" ∷
    codes "8 param drepDeposit 5" ∷
    codes "8 param drepActivity 20" ∷
    codes "8 param committeeMinSize 0" ∷
    codes "8 param committeeMaxTermLength 100" ∷
    codes "8 drep k00000000000000000000000000000000000000000000000000000030 deposit 5 expiry 20" ∷
    codes "8 drep k00000000000000000000000000000000000000000000000000000031 deposit 5 expiry 20" ∷
    codes "8 pool 00000000000000000000000000000000000000000000000000000050 deposit 5 cost 0 pledge 0 margin 0/1 account 1k00000000000000000000000000000000000000000000000000000012 retires never" ∷
    codes "8 account k00000000000000000000000000000000000000000000000000000010 stake 0 deposit 2 rewards 67 pool none drep k00000000000000000000000000000000000000000000000000000030" ∷
    codes "8 account k00000000000000000000000000000000000000000000000000000011 stake 0 deposit 2 rewards 33 pool none drep k00000000000000000000000000000000000000000000000000000031" ∷
    codes "8 account k00000000000000000000000000000000000000000000000000000012 stake 0 deposit 2 rewards 0 pool none drep none" ∷
    codes "8 output 0000000000000000000000000000000000000000000000000000000000000001#5 1k00000000000000000000000000000000000000000000000000000001 40" ∷
    codes "8 output 0000000000000000000000000000000000000000000000000000000000000001#6 1k00000000000000000000000000000000000000000000000000000001 40" ∷
    codes "8 output 0000000000000000000000000000000000000000000000000000000000000001#7 1k00000000000000000000000000000000000000000000000000000001 40" ∷
    codes "8 output 0000000000000000000000000000000000000000000000000000000000000001#8 1k00000000000000000000000000000000000000000000000000000001 40" ∷
    codes "8 proposal 0000000000000000000000000000000000000000000000000000000000000002#0 UpdateCommittee deposit 10 return 1k00000000000000000000000000000000000000000000000000000012 expires 2 previous none" ∷
    codes "8 proposal 0000000000000000000000000000000000000000000000000000000000000003#0 HardForkInitiation deposit 10 return 1k00000000000000000000000000000000000000000000000000000012 expires 2 previous none" ∷
    codes "8 vote 0000000000000000000000000000000000000000000000000000000000000003#0 committee:k00000000000000000000000000000000000000000000000000000073 no" ∷
    codes "8 vote 0000000000000000000000000000000000000000000000000000000000000003#0 committee:s00000000000000000000000000000000000000000000000000000075 yes" ∷
    codes "8 snapshot mark 00000000000000000000000000000000000000000000000000000050 0" ∷
    codes "8 snapshot set 00000000000000000000000000000000000000000000000000000050 0" ∷
    codes "8 snapshot fees 100" ∷
    codes "8 pending none" ∷
    codes "8 pots outputs 160 deposits 41 rewards 100 fees 100 donations 0 treasury 100 reserves 499 supply 1000" ∷
    codes "9 accepted" ∷
    codes "10 epoch 2 frozen 3 dormant 0" ∷
    codes "10 stake k00000000000000000000000000000000000000000000000000000030 67" ∷
    codes "10 stake k00000000000000000000000000000000000000000000000000000031 33" ∷
    codes "10 tally 0000000000000000000000000000000000000000000000000000000000000002#0 UpdateCommittee committee 0/3 need none drep 0/100 need 0/1 pool 0/0 need 0/1 ratified" ∷
    codes "10 tally 0000000000000000000000000000000000000000000000000000000000000003#0 HardForkInitiation committee 2/3 need 1/3 drep 0/100 need 0/1 pool 0/0 need 0/1 waiting" ∷
    codes "10 removed 0000000000000000000000000000000000000000000000000000000000000002#0 enacted refund 10 1k00000000000000000000000000000000000000000000000000000012" ∷
    codes "10 pots outputs 120 deposits 31 rewards 110 fees 140 donations 0 treasury 100 reserves 499 supply 1000" ∷
    codes "10 block slot 20 epoch 2 counted 1 of 3" ∷
    codes "11 now slot 20 epoch 2 version 10.0 dormant 0" ∷
    codes "11 constitution 0000000000000000000000000000000000000000000000000000000000000001 none" ∷
    codes "11 committee threshold 1/3" ∷
    codes "11 member k00000000000000000000000000000000000000000000000000000060 term 50 hot none" ∷
    codes "11 member k00000000000000000000000000000000000000000000000000000070 term 100 hot s00000000000000000000000000000000000000000000000000000075" ∷
    codes "11 member k00000000000000000000000000000000000000000000000000000072 term 100 hot resigned" ∷
    codes "11 enacted committee 0000000000000000000000000000000000000000000000000000000000000002#0 constitution none hardfork none parameters none" ∷
    codes "11 param maxBlockBodySize 90112" ∷
    codes "11 param maxTxSize 16384" ∷
    codes "11 param maxBlockHeaderSize 1100" ∷
    codes "11 param maxValueSize 5000" ∷
    codes "11 param maxTxExUnits 1000 1000" ∷
    codes "11 param maxBlockExUnits 1000 1000" ∷
    codes "11 param maxCollateralInputs 3" ∷
    codes "11 param minFeeA 0" ∷
    codes "11 param minFeeB 0" ∷
    codes "11 param keyDeposit 2" ∷
    codes "11 param poolDeposit 5" ∷
    codes "11 param rho 0/1" ∷
    codes "11 param tau 0/1" ∷
    codes "11 param minPoolCost 0" ∷
    codes "11 param coinsPerUTxOByte 0" ∷
    codes "11 param prices 0/1 0/1" ∷
    codes "11 param minFeeRefScriptCostPerByte 15/1" ∷
    codes "11 param a0 0/1" ∷
    codes "11 param eMax 18" ∷
    codes "11 param nOpt 500" ∷
    codes "11 param costModels 0000000000000000000000000000000000000000000000000000000000000000" ∷
    codes "11 param collateralPercentage 150" ∷
    codes "11 param poolVotingThresholds 0/1 0/1 0/1 0/1 0/1" ∷
    codes "11 param drepVotingThresholds 0/1 0/1 0/1 0/1 0/1 0/1 0/1 0/1 0/1 0/1" ∷
    codes "11 param govActionLifetime 2" ∷
    codes "11 param govActionDeposit 10" ∷
    codes "11 param drepDeposit 5" ∷
    codes "11 param drepActivity 20" ∷
    codes "11 param committeeMinSize 0" ∷
    codes "11 param committeeMaxTermLength 100" ∷
    codes "11 drep k00000000000000000000000000000000000000000000000000000030 deposit 5 expiry 20" ∷
    codes "11 drep k00000000000000000000000000000000000000000000000000000031 deposit 5 expiry 20" ∷
    codes "11 pool 00000000000000000000000000000000000000000000000000000050 deposit 5 cost 0 pledge 0 margin 0/1 account 1k00000000000000000000000000000000000000000000000000000012 retires never" ∷
    codes "11 account k00000000000000000000000000000000000000000000000000000010 stake 0 deposit 2 rewards 67 pool none drep k00000000000000000000000000000000000000000000000000000030" ∷
    codes "11 account k00000000000000000000000000000000000000000000000000000011 stake 0 deposit 2 rewards 33 pool none drep k00000000000000000000000000000000000000000000000000000031" ∷
    codes "11 account k00000000000000000000000000000000000000000000000000000012 stake 0 deposit 2 rewards 10 pool none drep none" ∷
    codes "11 output 0000000000000000000000000000000000000000000000000000000000000001#5 1k00000000000000000000000000000000000000000000000000000001 40" ∷
    codes "11 output 0000000000000000000000000000000000000000000000000000000000000001#7 1k00000000000000000000000000000000000000000000000000000001 40" ∷
    codes "11 output 0000000000000000000000000000000000000000000000000000000000000001#8 1k00000000000000000000000000000000000000000000000000000001 40" ∷
    codes "11 proposal 0000000000000000000000000000000000000000000000000000000000000003#0 HardForkInitiation deposit 10 return 1k00000000000000000000000000000000000000000000000000000012 expires 2 previous none" ∷
    codes "11 vote 0000000000000000000000000000000000000000000000000000000000000003#0 committee:k00000000000000000000000000000000000000000000000000000073 no" ∷
    codes "11 vote 0000000000000000000000000000000000000000000000000000000000000003#0 committee:s00000000000000000000000000000000000000000000000000000075 yes" ∷
    codes "11 snapshot mark 00000000000000000000000000000000000000000000000000000050 0" ∷
    codes "11 snapshot set 00000000000000000000000000000000000000000000000000000050 0" ∷
    codes "11 snapshot go 00000000000000000000000000000000000000000000000000000050 0" ∷
    codes "11 snapshot fees 140" ∷
    codes "11 pending none" ∷
    codes "11 pots outputs 120 deposits 31 rewards 110 fees 140 donations 0 treasury 100 reserves 499 supply 1000" ∷
    codes "12 refused 72 ColdKeyResigned at 0" ∷
    codes "13 refused 71 ColdKeyUnknown at 0" ∷
    codes "14 epoch 3 frozen 3 dormant 1" ∷
    codes "14 stake k00000000000000000000000000000000000000000000000000000030 67" ∷
    codes "14 stake k00000000000000000000000000000000000000000000000000000031 33" ∷
    codes "14 tally 0000000000000000000000000000000000000000000000000000000000000003#0 HardForkInitiation committee 1/1 need 1/3 drep 0/100 need 0/1 pool 0/0 need 0/1 ratified" ∷
    codes "14 removed 0000000000000000000000000000000000000000000000000000000000000003#0 enacted refund 10 1k00000000000000000000000000000000000000000000000000000012" ∷
    codes "14 pots outputs 120 deposits 21 rewards 120 fees 140 donations 0 treasury 100 reserves 499 supply 1000" ∷
    codes "14 block slot 30 epoch 3 counted 1 of 3" ∷
    codes "15 now slot 30 epoch 3 version 10.1 dormant 1" ∷
    codes "15 constitution 0000000000000000000000000000000000000000000000000000000000000001 none" ∷
    codes "15 committee threshold 1/3" ∷
    codes "15 member k00000000000000000000000000000000000000000000000000000060 term 50 hot none" ∷
    codes "15 member k00000000000000000000000000000000000000000000000000000070 term 100 hot s00000000000000000000000000000000000000000000000000000075" ∷
    codes "15 member k00000000000000000000000000000000000000000000000000000072 term 100 hot resigned" ∷
    codes "15 enacted committee 0000000000000000000000000000000000000000000000000000000000000002#0 constitution none hardfork 0000000000000000000000000000000000000000000000000000000000000003#0 parameters none" ∷
    codes "15 param maxBlockBodySize 90112" ∷
    codes "15 param maxTxSize 16384" ∷
    codes "15 param maxBlockHeaderSize 1100" ∷
    codes "15 param maxValueSize 5000" ∷
    codes "15 param maxTxExUnits 1000 1000" ∷
    codes "15 param maxBlockExUnits 1000 1000" ∷
    codes "15 param maxCollateralInputs 3" ∷
    codes "15 param minFeeA 0" ∷
    codes "15 param minFeeB 0" ∷
    codes "15 param keyDeposit 2" ∷
    codes "15 param poolDeposit 5" ∷
    codes "15 param rho 0/1" ∷
    codes "15 param tau 0/1" ∷
    codes "15 param minPoolCost 0" ∷
    codes "15 param coinsPerUTxOByte 0" ∷
    codes "15 param prices 0/1 0/1" ∷
    codes "15 param minFeeRefScriptCostPerByte 15/1" ∷
    codes "15 param a0 0/1" ∷
    codes "15 param eMax 18" ∷
    codes "15 param nOpt 500" ∷
    codes "15 param costModels 0000000000000000000000000000000000000000000000000000000000000000" ∷
    codes "15 param collateralPercentage 150" ∷
    codes "15 param poolVotingThresholds 0/1 0/1 0/1 0/1 0/1" ∷
    codes "15 param drepVotingThresholds 0/1 0/1 0/1 0/1 0/1 0/1 0/1 0/1 0/1 0/1" ∷
    codes "15 param govActionLifetime 2" ∷
    codes "15 param govActionDeposit 10" ∷
    codes "15 param drepDeposit 5" ∷
    codes "15 param drepActivity 20" ∷
    codes "15 param committeeMinSize 0" ∷
    codes "15 param committeeMaxTermLength 100" ∷
    codes "15 drep k00000000000000000000000000000000000000000000000000000030 deposit 5 expiry 20" ∷
    codes "15 drep k00000000000000000000000000000000000000000000000000000031 deposit 5 expiry 20" ∷
    codes "15 pool 00000000000000000000000000000000000000000000000000000050 deposit 5 cost 0 pledge 0 margin 0/1 account 1k00000000000000000000000000000000000000000000000000000012 retires never" ∷
    codes "15 account k00000000000000000000000000000000000000000000000000000010 stake 0 deposit 2 rewards 67 pool none drep k00000000000000000000000000000000000000000000000000000030" ∷
    codes "15 account k00000000000000000000000000000000000000000000000000000011 stake 0 deposit 2 rewards 33 pool none drep k00000000000000000000000000000000000000000000000000000031" ∷
    codes "15 account k00000000000000000000000000000000000000000000000000000012 stake 0 deposit 2 rewards 20 pool none drep none" ∷
    codes "15 output 0000000000000000000000000000000000000000000000000000000000000001#5 1k00000000000000000000000000000000000000000000000000000001 40" ∷
    codes "15 output 0000000000000000000000000000000000000000000000000000000000000001#7 1k00000000000000000000000000000000000000000000000000000001 40" ∷
    codes "15 output 0000000000000000000000000000000000000000000000000000000000000001#8 1k00000000000000000000000000000000000000000000000000000001 40" ∷
    codes "15 snapshot mark 00000000000000000000000000000000000000000000000000000050 0" ∷
    codes "15 snapshot set 00000000000000000000000000000000000000000000000000000050 0" ∷
    codes "15 snapshot go 00000000000000000000000000000000000000000000000000000050 0" ∷
    codes "15 snapshot fees 140" ∷
    codes "15 pending none" ∷
    codes "15 pots outputs 120 deposits 21 rewards 120 fees 140 donations 0 treasury 100 reserves 499 supply 1000" ∷
    []) ≡ true
unfolding digits encode_with
hot_keys_replaced_and_shared = refl

abbrev hot_key_with_the_name_of_a_drep_input : List (ℕ × Reading)
hot_key_with_the_name_of_a_drep_input =
    (1, Read (records.Genesis (record { network = 1; slot = 30; epoch_length = 10; version = (10, 0); supply = 1000; reserves = 803; treasury = 100; params = (record base_params { drep_voting_thresholds = ((share 0 1) ∷ (share 0 1) ∷ (share 0 1) ∷ (share 0 1) ∷ (share 0 1) ∷ (share 0 1) ∷ (share 0 1) ∷ (share 0 1) ∷ (share 0 1) ∷ (share 0 1) ∷ []) }); document = (h32 0x01); script = None; committee = (Some (record { threshold = (share 1 1); members = (((key 0x70), 100, (Some (key 0x30))) ∷ []) })); outputs = (((ref 0x01 2), (address_with 1 (key 0x01) None), 20, []) ∷ ((ref 0x01 3), (address_with 1 (key 0x01) None), 20, []) ∷ ((ref 0x01 4), (address_with 1 (key 0x01) None), 20, []) ∷ ((ref 0x01 5), (address_with 1 (key 0x01) None), 20, []) ∷ []); accounts = (((key 0x12), 2, 0, None, None) ∷ []); pools = ((record { pool = (pool 0x50); deposit = 5; cost = 0; pledge = 0; margin = (share 0 1); account = (account_on 1 (key 0x12)); key = None }) ∷ []); dreps = (((key 0x30), 5, 7) ∷ ((key 0x50), 5, 8) ∷ []) }))) ∷
    (2, Read (records.Tx (record (spend 0x02 10) { proposals = ((proposing 10 (account_on 1 (key 0x12)) (actions.HardForkInitiation None (10, 1))) ∷ []) }))) ∷
    (3, Read (records.Tx (record (spend 0x03 20) { votes = ((voting (voter.Committee (key 0x30)) (action 0x02 0) vote.Yes) ∷ (voting (voter.Pool (pool 0x50)) (action 0x02 0) vote.Yes) ∷ []) }))) ∷
    (4, Read (records.Print what.State)) ∷
    (5, Read (records.Block 40 1)) ∷
    (6, Read (records.Block 50 1)) ∷
    []

pub hot_key_with_the_name_of_a_drep : says_all hot_key_with_the_name_of_a_drep_input (
    codes "1 genesis outputs 80 deposits 17 rewards 0 fees 0 donations 0 treasury 100 reserves 803 supply 1000" ∷
    codes "2 accepted" ∷
    codes "3 accepted" ∷
    codes "4 now slot 30 epoch 3 version 10.0 dormant 0" ∷
    codes "4 constitution 0000000000000000000000000000000000000000000000000000000000000001 none" ∷
    codes "4 committee threshold 1/1" ∷
    codes "4 member k00000000000000000000000000000000000000000000000000000070 term 100 hot k00000000000000000000000000000000000000000000000000000030" ∷
    codes "4 enacted committee none constitution none hardfork none parameters none" ∷
    codes "4 param maxBlockBodySize 90112" ∷
    codes "4 param maxTxSize 16384" ∷
    codes "4 param maxBlockHeaderSize 1100" ∷
    codes "4 param maxValueSize 5000" ∷
    codes "4 param maxTxExUnits 1000 1000" ∷
    codes "4 param maxBlockExUnits 1000 1000" ∷
    codes "4 param maxCollateralInputs 3" ∷
    codes "4 param minFeeA 0" ∷
    codes "4 param minFeeB 0" ∷
    codes "4 param keyDeposit 2" ∷
    codes "4 param poolDeposit 5" ∷
    codes "4 param rho 0/1" ∷
    codes "4 param tau 0/1" ∷
    codes "4 param minPoolCost 0" ∷
    codes "4 param coinsPerUTxOByte 0" ∷
    codes "4 param prices 0/1 0/1" ∷
    codes "4 param minFeeRefScriptCostPerByte 15/1" ∷
    codes "4 param a0 0/1" ∷
    codes "4 param eMax 18" ∷
    codes "4 param nOpt 500" ∷
    codes "4 param costModels 0000000000000000000000000000000000000000000000000000000000000000" ∷
    codes "4 param collateralPercentage 150" ∷
    codes "4 param poolVotingThresholds 0/1 0/1 0/1 0/1 0/1" ∷
    codes "4 param drepVotingThresholds 0/1 0/1 0/1 0/1 0/1 0/1 0/1 0/1 0/1 0/1" ∷
    codes "4 param govActionLifetime 2" ∷
    codes "4 param govActionDeposit 10" ∷
    codes "4 param drepDeposit 5" ∷
    codes "4 param drepActivity 20" ∷
    codes "4 param committeeMinSize 0" ∷
    codes "4 param committeeMaxTermLength 100" ∷
    codes "4 drep k00000000000000000000000000000000000000000000000000000030 deposit 5 expiry 7" ∷
    codes "4 drep k00000000000000000000000000000000000000000000000000000050 deposit 5 expiry 8" ∷
    codes "4 pool 00000000000000000000000000000000000000000000000000000050 deposit 5 cost 0 pledge 0 margin 0/1 account 1k00000000000000000000000000000000000000000000000000000012 retires never" ∷
    codes "4 account k00000000000000000000000000000000000000000000000000000012 stake 0 deposit 2 rewards 0 pool none drep none" ∷
    codes "4 output 0000000000000000000000000000000000000000000000000000000000000001#4 1k00000000000000000000000000000000000000000000000000000001 20" ∷
    codes "4 output 0000000000000000000000000000000000000000000000000000000000000001#5 1k00000000000000000000000000000000000000000000000000000001 20" ∷
    codes "4 proposal 0000000000000000000000000000000000000000000000000000000000000002#0 HardForkInitiation deposit 10 return 1k00000000000000000000000000000000000000000000000000000012 expires 5 previous none" ∷
    codes "4 vote 0000000000000000000000000000000000000000000000000000000000000002#0 committee:k00000000000000000000000000000000000000000000000000000030 yes" ∷
    codes "4 vote 0000000000000000000000000000000000000000000000000000000000000002#0 pool:00000000000000000000000000000000000000000000000000000050 yes" ∷
    codes "4 snapshot mark 00000000000000000000000000000000000000000000000000000050 0" ∷
    codes "4 snapshot fees 0" ∷
    codes "4 pending none" ∷
    codes "4 pots outputs 40 deposits 27 rewards 0 fees 30 donations 0 treasury 100 reserves 803 supply 1000" ∷
    codes "5 epoch 4 frozen 1 dormant 0" ∷
    codes "5 pots outputs 40 deposits 27 rewards 0 fees 30 donations 0 treasury 100 reserves 803 supply 1000" ∷
    codes "5 block slot 40 epoch 4 counted 1 of 1" ∷
    codes "6 epoch 5 frozen 1 dormant 1" ∷
    codes "6 tally 0000000000000000000000000000000000000000000000000000000000000002#0 HardForkInitiation committee 1/1 need 1/1 drep 0/0 need 0/1 pool 0/0 need 0/1 ratified" ∷
    codes "6 removed 0000000000000000000000000000000000000000000000000000000000000002#0 enacted refund 10 1k00000000000000000000000000000000000000000000000000000012" ∷
    codes "6 pots outputs 40 deposits 17 rewards 10 fees 30 donations 0 treasury 100 reserves 803 supply 1000" ∷
    codes "6 block slot 50 epoch 5 counted 1 of 1" ∷
    []) ≡ true
unfolding digits encode_with
hot_key_with_the_name_of_a_drep = refl
