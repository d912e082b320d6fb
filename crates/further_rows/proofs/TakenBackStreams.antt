-- Worked rows of whole streams: what rollbacks take back. Made by tests/made/rows_of, from the streams of these names in tests/streams/further.
use Rattle.std.specs.Prelude.{ℕ, ◌≡◌, List, [], ◌∷◌, Some, None, true, codes, refl}
use Rattle.std.specs.Fmt.{digits}
use Rattle.hex.specs.Hex.{encode_with}
use Rattle.gov_actions.specs.declared.action.Action.TheVariants as actions
use Rattle.gov_actions.specs.declared.action.Vote.TheVariants as vote
use Rattle.gov_ids.specs.declared.Drep.TheVariants as drep
use Rattle.gov_ids.specs.declared.Voter.TheVariants as voter
use Rattle.tx_records.specs.declared.record.Record.TheVariants as records
use Rattle.tx_records.specs.declared.record.What.TheVariants as what
use Rattle.tx_records.specs.declared.cert.Cert.TheVariants as certs
use Rattle.ledger_rows.proofs.Base.{h32, key, script, pool, account_on, address_with, ref, action, share, base_params, spend, paying, proposing, voting}
use Rattle.follow_model.specs.FollowLines.{follow_of_readings}
use Rattle.follow_records.specs.declared.record.FollowReading.{FollowReading}
use Rattle.follow_records.specs.declared.record.FollowReading.TheVariants as follow
use Rattle.follow_records.specs.declared.record.FollowRecord.TheVariants.{Plain, Rollback}
use Rattle.further_rows.proofs.Texts.{is_text}

abbrev follow_brings_cleared_votes_back_input : List (ℕ × FollowReading)
follow_brings_cleared_votes_back_input =
    (1, follow.Read (Plain (records.Genesis (record { network = 1; slot = 0; epoch_length = 10; version = (10, 0); supply = 1000; reserves = 579; treasury = 100; params = base_params; document = (h32 0x01); script = None; committee = (Some (record { threshold = (share 0 1); members = (((key 0x70), 100, (Some (key 0x71))) ∷ []) })); outputs = (((ref 0x01 0), (address_with 1 (key 0x01) None), 20, []) ∷ ((ref 0x01 1), (address_with 1 (key 0x01) None), 20, []) ∷ ((ref 0x01 2), (address_with 1 (key 0x01) None), 20, []) ∷ ((ref 0x01 3), (address_with 1 (key 0x01) None), 20, []) ∷ ((ref 0x01 4), (address_with 1 (key 0x01) None), 20, []) ∷ ((ref 0x01 5), (address_with 1 (key 0x01) None), 20, []) ∷ ((ref 0x01 6), (address_with 1 (key 0x01) None), 20, []) ∷ ((ref 0x01 7), (address_with 1 (key 0x01) None), 20, []) ∷ ((ref 0x01 8), (address_with 1 (key 0x01) None), 20, []) ∷ ((ref 0x01 9), (address_with 1 (key 0x01) None), 20, []) ∷ []); accounts = (((key 0x10), 2, 67, None, (Some (drep.Registered (key 0x30)))) ∷ ((key 0x11), 2, 33, None, (Some (drep.Registered (key 0x31)))) ∷ ((key 0x12), 2, 0, None, None) ∷ []); pools = ((record { pool = (pool 0x50); deposit = 5; cost = 0; pledge = 0; margin = (share 0 1); account = (account_on 1 (key 0x12)); key = None }) ∷ []); dreps = (((key 0x30), 5, 20) ∷ ((key 0x31), 5, 20) ∷ []) })))) ∷
    (2, follow.Read (Plain (records.Tx (record (spend 0x02 0) { proposals = ((proposing 10 (account_on 1 (key 0x12)) (actions.NoConfidence None)) ∷ (proposing 10 (account_on 1 (key 0x12)) (actions.NewConstitution None (h32 0x02) None)) ∷ []) })))) ∷
    (3, follow.Read (Plain (records.Tx (record (spend 0x03 20) { votes = ((voting (voter.Drep (key 0x30)) (action 0x02 0) vote.Yes) ∷ (voting (voter.Drep (key 0x31)) (action 0x02 0) vote.No) ∷ (voting (voter.Drep (key 0x30)) (action 0x02 1) vote.Abstain) ∷ []) })))) ∷
    (4, follow.Read (Plain (records.Block 1 1))) ∷
    (5, follow.Read (Plain (records.Tx (record (spend 0x04 25) { certs = ((certs.DrepUnreg (key 0x30) None) ∷ []) })))) ∷
    (6, follow.Read (Plain (records.Tx (record (spend 0x05 20) { votes = ((voting (voter.Drep (key 0x31)) (action 0x02 0) vote.Yes) ∷ (voting (voter.Drep (key 0x31)) (action 0x02 1) vote.Yes) ∷ []) })))) ∷
    (7, follow.Read (Plain (records.Tx (record (spend 0x06 15) { certs = ((certs.DrepReg (key 0x30) None) ∷ []) })))) ∷
    (8, follow.Read (Plain (records.Tx (record (spend 0x07 20) { votes = ((voting (voter.Drep (key 0x30)) (action 0x02 0) vote.No) ∷ []) })))) ∷
    (9, follow.Read (Plain (records.Print what.State))) ∷
    (10, follow.Read (Rollback 1)) ∷
    (11, follow.Read (Plain (records.Print what.State))) ∷
    (12, follow.Read (Plain (records.Tx (record (spend 0x06 20) { votes = ((voting (voter.Drep (key 0x30)) (action 0x02 1) vote.No) ∷ []) })))) ∷
    (13, follow.Read (Plain (records.Block 2 1))) ∷
    (14, follow.Read (Plain (records.Tx (record (spend 0x04 20) { votes = ((voting (voter.Drep (key 0x30)) (action 0x02 1) vote.Yes) ∷ []) })))) ∷
    (15, follow.Read (Rollback 2)) ∷
    (16, follow.Read (Plain (records.Block 10 1))) ∷
    (17, follow.Read (Plain (records.Block 20 1))) ∷
    []

pub follow_brings_cleared_votes_back : is_text (follow_of_readings follow_brings_cleared_votes_back_input) (
    codes "1 genesis outputs 200 deposits 21 rewards 100 fees 0 donations 0 treasury 100 reserves 579 supply 1000" ∷
    codes "2 accepted" ∷
    codes "3 accepted" ∷
    codes "4 block slot 1 epoch 0 counted 1 of 3" ∷
    codes "5 accepted" ∷
    codes "6 accepted" ∷
    codes "7 accepted" ∷
    codes "8 accepted" ∷
    codes "9 now slot 1 epoch 0 version 10.0 dormant 0" ∷
    codes "9 constitution 0000000000000000000000000000000000000000000000000000000000000001 none" ∷
    codes "9 committee threshold 0/1" ∷
    codes "9 member k00000000000000000000000000000000000000000000000000000070 term 100 hot k00000000000000000000000000000000000000000000000000000071" ∷
    codes "9 enacted committee none constitution none hardfork none parameters none" ∷
    codes "9 param maxBlockBodySize 90112" ∷
    codes "9 param maxTxSize 16384" ∷
    codes "9 param maxBlockHeaderSize 1100" ∷
    codes "9 param maxValueSize 5000" ∷
    codes "9 param maxTxExUnits 1000 1000" ∷
    codes "9 param maxBlockExUnits 1000 1000" ∷
    codes "9 param maxCollateralInputs 3" ∷
    codes "9 param minFeeA 0" ∷
    codes "9 param minFeeB 0" ∷
    codes "9 param keyDeposit 2" ∷
    codes "9 param poolDeposit 5" ∷
    codes "9 param rho 0/1" ∷
    codes "9 param tau 0/1" ∷
    codes "9 param minPoolCost 0" ∷
    codes "9 param coinsPerUTxOByte 0" ∷
    codes "9 param prices 0/1 0/1" ∷
    codes "9 param minFeeRefScriptCostPerByte 15/1" ∷
    codes "9 param a0 0/1" ∷
    codes "9 param eMax 18" ∷
    codes "9 param nOpt 500" ∷
    codes "9 param costModels 0000000000000000000000000000000000000000000000000000000000000000" ∷
    codes "9 param collateralPercentage 150" ∷
    codes "9 param poolVotingThresholds 0/1 0/1 0/1 0/1 0/1" ∷
    codes "9 param drepVotingThresholds 67/100 67/100 67/100 67/100 67/100 67/100 67/100 67/100 67/100 67/100" ∷
    codes "9 param govActionLifetime 2" ∷
    codes "9 param govActionDeposit 10" ∷
    codes "9 param drepDeposit 5" ∷
    codes "9 param drepActivity 20" ∷
    codes "9 param committeeMinSize 0" ∷
    codes "9 param committeeMaxTermLength 100" ∷
    codes "9 drep k00000000000000000000000000000000000000000000000000000030 deposit 5 expiry 20" ∷
    codes "9 drep k00000000000000000000000000000000000000000000000000000031 deposit 5 expiry 20" ∷
    codes "9 pool 00000000000000000000000000000000000000000000000000000050 deposit 5 cost 0 pledge 0 margin 0/1 account 1k00000000000000000000000000000000000000000000000000000012 retires never" ∷
    codes "9 account k00000000000000000000000000000000000000000000000000000010 stake 0 deposit 2 rewards 67 pool none drep none" ∷
    codes "9 account k00000000000000000000000000000000000000000000000000000011 stake 0 deposit 2 rewards 33 pool none drep k00000000000000000000000000000000000000000000000000000031" ∷
    codes "9 account k00000000000000000000000000000000000000000000000000000012 stake 0 deposit 2 rewards 0 pool none drep none" ∷
    codes "9 output 0000000000000000000000000000000000000000000000000000000000000001#0 1k00000000000000000000000000000000000000000000000000000001 20" ∷
    codes "9 output 0000000000000000000000000000000000000000000000000000000000000001#1 1k00000000000000000000000000000000000000000000000000000001 20" ∷
    codes "9 output 0000000000000000000000000000000000000000000000000000000000000001#8 1k00000000000000000000000000000000000000000000000000000001 20" ∷
    codes "9 output 0000000000000000000000000000000000000000000000000000000000000001#9 1k00000000000000000000000000000000000000000000000000000001 20" ∷
    codes "9 proposal 0000000000000000000000000000000000000000000000000000000000000002#0 NoConfidence deposit 10 return 1k00000000000000000000000000000000000000000000000000000012 expires 2 previous none" ∷
    codes "9 vote 0000000000000000000000000000000000000000000000000000000000000002#0 drep:k00000000000000000000000000000000000000000000000000000030 no" ∷
    codes "9 vote 0000000000000000000000000000000000000000000000000000000000000002#0 drep:k00000000000000000000000000000000000000000000000000000031 yes" ∷
    codes "9 proposal 0000000000000000000000000000000000000000000000000000000000000002#1 NewConstitution deposit 10 return 1k00000000000000000000000000000000000000000000000000000012 expires 2 previous none" ∷
    codes "9 vote 0000000000000000000000000000000000000000000000000000000000000002#1 drep:k00000000000000000000000000000000000000000000000000000031 yes" ∷
    codes "9 snapshot mark 00000000000000000000000000000000000000000000000000000050 0" ∷
    codes "9 snapshot fees 0" ∷
    codes "9 pending none" ∷
    codes "9 pots outputs 80 deposits 41 rewards 100 fees 100 donations 0 treasury 100 reserves 579 supply 1000" ∷
    codes "10 rolled slot 1 epoch 0 counted 1 of 3" ∷
    codes "11 now slot 1 epoch 0 version 10.0 dormant 0" ∷
    codes "11 constitution 0000000000000000000000000000000000000000000000000000000000000001 none" ∷
    codes "11 committee threshold 0/1" ∷
    codes "11 member k00000000000000000000000000000000000000000000000000000070 term 100 hot k00000000000000000000000000000000000000000000000000000071" ∷
    codes "11 enacted committee none constitution none hardfork none parameters none" ∷
    codes "11 param maxBlockBodySize 90112" ∷
    codes "11 param maxTxSize 16384" ∷
    codes "11 param maxBlockHeaderSize 1100" ∷
    codes "11 param maxValueSize 5000" ∷
    codes "11 param maxTxExUnits 1000 1000" ∷
    codes "11 param maxBlockExUnits 1000 1000" ∷
    codes "11 param maxCollateralInputs 3" ∷
    codes "11 param minFeeA 0" ∷
    codes "11 param minFeeB 0" ∷
    codes "11 param keyDeposit 2" ∷
    codes "11 param poolDeposit 5" ∷
    codes "11 param rho 0/1" ∷
    codes "11 param tau 0/1" ∷
    codes "11 param minPoolCost 0" ∷
    codes "11 param coinsPerUTxOByte 0" ∷
    codes "11 param prices 0/1 0/1" ∷
    codes "11 param minFeeRefScriptCostPerByte 15/1" ∷
    codes "11 param a0 0/1" ∷
    codes "11 param eMax 18" ∷
    codes "11 param nOpt 500" ∷
    codes "11 param costModels 0000000000000000000000000000000000000000000000000000000000000000" ∷
    codes "11 param collateralPercentage 150" ∷
    codes "11 param poolVotingThresholds 0/1 0/1 0/1 0/1 0/1" ∷
    codes "11 param drepVotingThresholds 67/100 67/100 67/100 67/100 67/100 67/100 67/100 67/100 67/100 67/100" ∷
    codes "11 param govActionLifetime 2" ∷
    codes "11 param govActionDeposit 10" ∷
    codes "11 param drepDeposit 5" ∷
    codes "11 param drepActivity 20" ∷
    codes "11 param committeeMinSize 0" ∷
    codes "11 param committeeMaxTermLength 100" ∷
    codes "11 drep k00000000000000000000000000000000000000000000000000000030 deposit 5 expiry 20" ∷
    codes "11 drep k00000000000000000000000000000000000000000000000000000031 deposit 5 expiry 20" ∷
    codes "11 pool 00000000000000000000000000000000000000000000000000000050 deposit 5 cost 0 pledge 0 margin 0/1 account 1k00000000000000000000000000000000000000000000000000000012 retires never" ∷
    codes "11 account k00000000000000000000000000000000000000000000000000000010 stake 0 deposit 2 rewards 67 pool none drep k00000000000000000000000000000000000000000000000000000030" ∷
    codes "11 account k00000000000000000000000000000000000000000000000000000011 stake 0 deposit 2 rewards 33 pool none drep k00000000000000000000000000000000000000000000000000000031" ∷
    codes "11 account k00000000000000000000000000000000000000000000000000000012 stake 0 deposit 2 rewards 0 pool none drep none" ∷
    codes "11 output 0000000000000000000000000000000000000000000000000000000000000001#0 1k00000000000000000000000000000000000000000000000000000001 20" ∷
    codes "11 output 0000000000000000000000000000000000000000000000000000000000000001#1 1k00000000000000000000000000000000000000000000000000000001 20" ∷
    codes "11 output 0000000000000000000000000000000000000000000000000000000000000001#4 1k00000000000000000000000000000000000000000000000000000001 20" ∷
    codes "11 output 0000000000000000000000000000000000000000000000000000000000000001#5 1k00000000000000000000000000000000000000000000000000000001 20" ∷
    codes "11 output 0000000000000000000000000000000000000000000000000000000000000001#6 1k00000000000000000000000000000000000000000000000000000001 20" ∷
    codes "11 output 0000000000000000000000000000000000000000000000000000000000000001#7 1k00000000000000000000000000000000000000000000000000000001 20" ∷
    codes "11 output 0000000000000000000000000000000000000000000000000000000000000001#8 1k00000000000000000000000000000000000000000000000000000001 20" ∷
    codes "11 output 0000000000000000000000000000000000000000000000000000000000000001#9 1k00000000000000000000000000000000000000000000000000000001 20" ∷
    codes "11 proposal 0000000000000000000000000000000000000000000000000000000000000002#0 NoConfidence deposit 10 return 1k00000000000000000000000000000000000000000000000000000012 expires 2 previous none" ∷
    codes "11 vote 0000000000000000000000000000000000000000000000000000000000000002#0 drep:k00000000000000000000000000000000000000000000000000000030 yes" ∷
    codes "11 vote 0000000000000000000000000000000000000000000000000000000000000002#0 drep:k00000000000000000000000000000000000000000000000000000031 no" ∷
    codes "11 proposal 0000000000000000000000000000000000000000000000000000000000000002#1 NewConstitution deposit 10 return 1k00000000000000000000000000000000000000000000000000000012 expires 2 previous none" ∷
    codes "11 vote 0000000000000000000000000000000000000000000000000000000000000002#1 drep:k00000000000000000000000000000000000000000000000000000030 abstain" ∷
    codes "11 snapshot mark 00000000000000000000000000000000000000000000000000000050 0" ∷
    codes "11 snapshot fees 0" ∷
    codes "11 pending none" ∷
    codes "11 pots outputs 160 deposits 41 rewards 100 fees 20 donations 0 treasury 100 reserves 579 supply 1000" ∷
    codes "12 accepted" ∷
    codes "13 block slot 2 epoch 0 counted 2 of 3" ∷
    codes "14 accepted" ∷
    codes "15 rolled slot 2 epoch 0 counted 2 of 3" ∷
    codes "16 epoch 1 frozen 3 dormant 0" ∷
    codes "16 stake k00000000000000000000000000000000000000000000000000000030 67" ∷
    codes "16 stake k00000000000000000000000000000000000000000000000000000031 33" ∷
    codes "16 pots outputs 140 deposits 41 rewards 100 fees 40 donations 0 treasury 100 reserves 579 supply 1000" ∷
    codes "16 block slot 10 epoch 1 counted 1 of 3" ∷
    codes "17 epoch 2 frozen 3 dormant 0" ∷
    codes "17 stake k00000000000000000000000000000000000000000000000000000030 67" ∷
    codes "17 stake k00000000000000000000000000000000000000000000000000000031 33" ∷
    codes "17 tally 0000000000000000000000000000000000000000000000000000000000000002#0 NoConfidence committee 0/1 need none drep 67/100 need 67/100 pool 0/0 need 0/1 ratified" ∷
    codes "17 tally 0000000000000000000000000000000000000000000000000000000000000002#1 NewConstitution committee 0/1 need never drep 0/100 need 67/100 pool 0/0 need none waiting" ∷
    codes "17 removed 0000000000000000000000000000000000000000000000000000000000000002#0 enacted refund 10 1k00000000000000000000000000000000000000000000000000000012" ∷
    codes "17 pots outputs 140 deposits 31 rewards 110 fees 40 donations 0 treasury 100 reserves 579 supply 1000" ∷
    codes "17 block slot 20 epoch 2 counted 1 of 3" ∷
    []) ≡ true
unfolding digits encode_with
follow_brings_cleared_votes_back = refl

abbrev follow_brings_dormant_epochs_back_input : List (ℕ × FollowReading)
follow_brings_dormant_epochs_back_input =
    (1, follow.Read (Plain (records.Genesis (record { network = 1; slot = 0; epoch_length = 10; version = (10, 0); supply = 1000; reserves = 579; treasury = 100; params = base_params; document = (h32 0x01); script = None; committee = (Some (record { threshold = (share 0 1); members = (((key 0x70), 100, (Some (key 0x71))) ∷ []) })); outputs = (((ref 0x01 0), (address_with 1 (key 0x01) None), 20, []) ∷ ((ref 0x01 1), (address_with 1 (key 0x01) None), 20, []) ∷ ((ref 0x01 2), (address_with 1 (key 0x01) None), 20, []) ∷ ((ref 0x01 3), (address_with 1 (key 0x01) None), 20, []) ∷ ((ref 0x01 4), (address_with 1 (key 0x01) None), 20, []) ∷ ((ref 0x01 5), (address_with 1 (key 0x01) None), 20, []) ∷ ((ref 0x01 6), (address_with 1 (key 0x01) None), 20, []) ∷ ((ref 0x01 7), (address_with 1 (key 0x01) None), 20, []) ∷ ((ref 0x01 8), (address_with 1 (key 0x01) None), 20, []) ∷ ((ref 0x01 9), (address_with 1 (key 0x01) None), 20, []) ∷ []); accounts = (((key 0x10), 2, 67, None, (Some (drep.Registered (key 0x30)))) ∷ ((key 0x11), 2, 33, None, (Some (drep.Registered (key 0x31)))) ∷ ((key 0x12), 2, 0, None, None) ∷ []); pools = ((record { pool = (pool 0x50); deposit = 5; cost = 0; pledge = 0; margin = (share 0 1); account = (account_on 1 (key 0x12)); key = None }) ∷ []); dreps = (((key 0x30), 5, 20) ∷ ((key 0x31), 5, 20) ∷ []) })))) ∷
    (2, follow.Read (Plain (records.Block 10 1))) ∷
    (3, follow.Read (Plain (records.Block 20 1))) ∷
    (4, follow.Read (Plain (records.Block 25 1))) ∷
    (5, follow.Read (Plain (records.Tx (record (spend 0x02 10) { proposals = ((proposing 10 (account_on 1 (key 0x12)) (actions.NoConfidence None)) ∷ []) })))) ∷
    (6, follow.Read (Plain (records.Print what.State))) ∷
    (7, follow.Read (Plain (records.Tx (record (spend 0x03 20) { certs = ((certs.DrepUpdate (key 0x31)) ∷ []); votes = ((voting (voter.Drep (key 0x30)) (action 0x02 0) vote.Yes) ∷ []) })))) ∷
    (8, follow.Read (Rollback 25)) ∷
    (9, follow.Read (Plain (records.Print what.State))) ∷
    (10, follow.Read (Plain (records.Tx (record (spend 0x03 20) { certs = ((certs.DrepUpdate (key 0x31)) ∷ []) })))) ∷
    (11, follow.Read (Plain (records.Block 30 1))) ∷
    (12, follow.Read (Plain (records.Tx (record (spend 0x02 10) { proposals = ((proposing 10 (account_on 1 (key 0x12)) (actions.NoConfidence None)) ∷ []) })))) ∷
    (13, follow.Read (Plain (records.Block 40 1))) ∷
    (14, follow.Read (Plain (records.Print what.State))) ∷
    []

pub follow_brings_dormant_epochs_back : is_text (follow_of_readings follow_brings_dormant_epochs_back_input) (
    codes "1 genesis outputs 200 deposits 21 rewards 100 fees 0 donations 0 treasury 100 reserves 579 supply 1000" ∷
    codes "2 epoch 1 frozen 3 dormant 1" ∷
    codes "2 stake k00000000000000000000000000000000000000000000000000000030 67" ∷
    codes "2 stake k00000000000000000000000000000000000000000000000000000031 33" ∷
    codes "2 pots outputs 200 deposits 21 rewards 100 fees 0 donations 0 treasury 100 reserves 579 supply 1000" ∷
    codes "2 block slot 10 epoch 1 counted 1 of 3" ∷
    codes "3 epoch 2 frozen 3 dormant 2" ∷
    codes "3 stake k00000000000000000000000000000000000000000000000000000030 67" ∷
    codes "3 stake k00000000000000000000000000000000000000000000000000000031 33" ∷
    codes "3 pots outputs 200 deposits 21 rewards 100 fees 0 donations 0 treasury 100 reserves 579 supply 1000" ∷
    codes "3 block slot 20 epoch 2 counted 1 of 3" ∷
    codes "4 block slot 25 epoch 2 counted 2 of 3" ∷
    codes "5 accepted" ∷
    codes "6 now slot 25 epoch 2 version 10.0 dormant 0" ∷
    codes "6 constitution 0000000000000000000000000000000000000000000000000000000000000001 none" ∷
    codes "6 committee threshold 0/1" ∷
    codes "6 member k00000000000000000000000000000000000000000000000000000070 term 100 hot k00000000000000000000000000000000000000000000000000000071" ∷
    codes "6 enacted committee none constitution none hardfork none parameters none" ∷
    codes "6 param maxBlockBodySize 90112" ∷
    codes "6 param maxTxSize 16384" ∷
    codes "6 param maxBlockHeaderSize 1100" ∷
    codes "6 param maxValueSize 5000" ∷
    codes "6 param maxTxExUnits 1000 1000" ∷
    codes "6 param maxBlockExUnits 1000 1000" ∷
    codes "6 param maxCollateralInputs 3" ∷
    codes "6 param minFeeA 0" ∷
    codes "6 param minFeeB 0" ∷
    codes "6 param keyDeposit 2" ∷
    codes "6 param poolDeposit 5" ∷
    codes "6 param rho 0/1" ∷
    codes "6 param tau 0/1" ∷
    codes "6 param minPoolCost 0" ∷
    codes "6 param coinsPerUTxOByte 0" ∷
    codes "6 param prices 0/1 0/1" ∷
    codes "6 param minFeeRefScriptCostPerByte 15/1" ∷
    codes "6 param a0 0/1" ∷
    codes "6 param eMax 18" ∷
    codes "6 param nOpt 500" ∷
    codes "6 param costModels 0000000000000000000000000000000000000000000000000000000000000000" ∷
    codes "6 param collateralPercentage 150" ∷
    codes "6 param poolVotingThresholds 0/1 0/1 0/1 0/1 0/1" ∷
    codes "6 param drepVotingThresholds 67/100 67/100 67/100 67/100 67/100 67/100 67/100 67/100 67/100 67/100" ∷
    codes "6 param govActionLifetime 2" ∷
    codes "6 param govActionDeposit 10" ∷
    codes "6 param drepDeposit 5" ∷
    codes "6 param drepActivity 20" ∷
    codes "6 param committeeMinSize 0" ∷
    codes "6 param committeeMaxTermLength 100" ∷
    codes "6 drep k00000000000000000000000000000000000000000000000000000030 deposit 5 expiry 22" ∷
    codes "6 drep k00000000000000000000000000000000000000000000000000000031 deposit 5 expiry 22" ∷
    codes "6 pool 00000000000000000000000000000000000000000000000000000050 deposit 5 cost 0 pledge 0 margin 0/1 account 1k00000000000000000000000000000000000000000000000000000012 retires never" ∷
    codes "6 account k00000000000000000000000000000000000000000000000000000010 stake 0 deposit 2 rewards 67 pool none drep k00000000000000000000000000000000000000000000000000000030" ∷
    codes "6 account k00000000000000000000000000000000000000000000000000000011 stake 0 deposit 2 rewards 33 pool none drep k00000000000000000000000000000000000000000000000000000031" ∷
    codes "6 account k00000000000000000000000000000000000000000000000000000012 stake 0 deposit 2 rewards 0 pool none drep none" ∷
    codes "6 output 0000000000000000000000000000000000000000000000000000000000000001#0 1k00000000000000000000000000000000000000000000000000000001 20" ∷
    codes "6 output 0000000000000000000000000000000000000000000000000000000000000001#1 1k00000000000000000000000000000000000000000000000000000001 20" ∷
    codes "6 output 0000000000000000000000000000000000000000000000000000000000000001#3 1k00000000000000000000000000000000000000000000000000000001 20" ∷
    codes "6 output 0000000000000000000000000000000000000000000000000000000000000001#4 1k00000000000000000000000000000000000000000000000000000001 20" ∷
    codes "6 output 0000000000000000000000000000000000000000000000000000000000000001#5 1k00000000000000000000000000000000000000000000000000000001 20" ∷
    codes "6 output 0000000000000000000000000000000000000000000000000000000000000001#6 1k00000000000000000000000000000000000000000000000000000001 20" ∷
    codes "6 output 0000000000000000000000000000000000000000000000000000000000000001#7 1k00000000000000000000000000000000000000000000000000000001 20" ∷
    codes "6 output 0000000000000000000000000000000000000000000000000000000000000001#8 1k00000000000000000000000000000000000000000000000000000001 20" ∷
    codes "6 output 0000000000000000000000000000000000000000000000000000000000000001#9 1k00000000000000000000000000000000000000000000000000000001 20" ∷
    codes "6 proposal 0000000000000000000000000000000000000000000000000000000000000002#0 NoConfidence deposit 10 return 1k00000000000000000000000000000000000000000000000000000012 expires 4 previous none" ∷
    codes "6 snapshot mark 00000000000000000000000000000000000000000000000000000050 0" ∷
    codes "6 snapshot set 00000000000000000000000000000000000000000000000000000050 0" ∷
    codes "6 snapshot go 00000000000000000000000000000000000000000000000000000050 0" ∷
    codes "6 snapshot fees 0" ∷
    codes "6 pending none" ∷
    codes "6 pots outputs 180 deposits 31 rewards 100 fees 10 donations 0 treasury 100 reserves 579 supply 1000" ∷
    codes "7 accepted" ∷
    codes "8 rolled slot 25 epoch 2 counted 2 of 3" ∷
    codes "9 now slot 25 epoch 2 version 10.0 dormant 2" ∷
    codes "9 constitution 0000000000000000000000000000000000000000000000000000000000000001 none" ∷
    codes "9 committee threshold 0/1" ∷
    codes "9 member k00000000000000000000000000000000000000000000000000000070 term 100 hot k00000000000000000000000000000000000000000000000000000071" ∷
    codes "9 enacted committee none constitution none hardfork none parameters none" ∷
    codes "9 param maxBlockBodySize 90112" ∷
    codes "9 param maxTxSize 16384" ∷
    codes "9 param maxBlockHeaderSize 1100" ∷
    codes "9 param maxValueSize 5000" ∷
    codes "9 param maxTxExUnits 1000 1000" ∷
    codes "9 param maxBlockExUnits 1000 1000" ∷
    codes "9 param maxCollateralInputs 3" ∷
    codes "9 param minFeeA 0" ∷
    codes "9 param minFeeB 0" ∷
    codes "9 param keyDeposit 2" ∷
    codes "9 param poolDeposit 5" ∷
    codes "9 param rho 0/1" ∷
    codes "9 param tau 0/1" ∷
    codes "9 param minPoolCost 0" ∷
    codes "9 param coinsPerUTxOByte 0" ∷
    codes "9 param prices 0/1 0/1" ∷
    codes "9 param minFeeRefScriptCostPerByte 15/1" ∷
    codes "9 param a0 0/1" ∷
    codes "9 param eMax 18" ∷
    codes "9 param nOpt 500" ∷
    codes "9 param costModels 0000000000000000000000000000000000000000000000000000000000000000" ∷
    codes "9 param collateralPercentage 150" ∷
    codes "9 param poolVotingThresholds 0/1 0/1 0/1 0/1 0/1" ∷
    codes "9 param drepVotingThresholds 67/100 67/100 67/100 67/100 67/100 67/100 67/100 67/100 67/100 67/100" ∷
    codes "9 param govActionLifetime 2" ∷
    codes "9 param govActionDeposit 10" ∷
    codes "9 param drepDeposit 5" ∷
    codes "9 param drepActivity 20" ∷
    codes "9 param committeeMinSize 0" ∷
    codes "9 param committeeMaxTermLength 100" ∷
    codes "9 drep k00000000000000000000000000000000000000000000000000000030 deposit 5 expiry 20" ∷
    codes "9 drep k00000000000000000000000000000000000000000000000000000031 deposit 5 expiry 20" ∷
    codes "9 pool 00000000000000000000000000000000000000000000000000000050 deposit 5 cost 0 pledge 0 margin 0/1 account 1k00000000000000000000000000000000000000000000000000000012 retires never" ∷
    codes "9 account k00000000000000000000000000000000000000000000000000000010 stake 0 deposit 2 rewards 67 pool none drep k00000000000000000000000000000000000000000000000000000030" ∷
    codes "9 account k00000000000000000000000000000000000000000000000000000011 stake 0 deposit 2 rewards 33 pool none drep k00000000000000000000000000000000000000000000000000000031" ∷
    codes "9 account k00000000000000000000000000000000000000000000000000000012 stake 0 deposit 2 rewards 0 pool none drep none" ∷
    codes "9 output 0000000000000000000000000000000000000000000000000000000000000001#0 1k00000000000000000000000000000000000000000000000000000001 20" ∷
    codes "9 output 0000000000000000000000000000000000000000000000000000000000000001#1 1k00000000000000000000000000000000000000000000000000000001 20" ∷
    codes "9 output 0000000000000000000000000000000000000000000000000000000000000001#2 1k00000000000000000000000000000000000000000000000000000001 20" ∷
    codes "9 output 0000000000000000000000000000000000000000000000000000000000000001#3 1k00000000000000000000000000000000000000000000000000000001 20" ∷
    codes "9 output 0000000000000000000000000000000000000000000000000000000000000001#4 1k00000000000000000000000000000000000000000000000000000001 20" ∷
    codes "9 output 0000000000000000000000000000000000000000000000000000000000000001#5 1k00000000000000000000000000000000000000000000000000000001 20" ∷
    codes "9 output 0000000000000000000000000000000000000000000000000000000000000001#6 1k00000000000000000000000000000000000000000000000000000001 20" ∷
    codes "9 output 0000000000000000000000000000000000000000000000000000000000000001#7 1k00000000000000000000000000000000000000000000000000000001 20" ∷
    codes "9 output 0000000000000000000000000000000000000000000000000000000000000001#8 1k00000000000000000000000000000000000000000000000000000001 20" ∷
    codes "9 output 0000000000000000000000000000000000000000000000000000000000000001#9 1k00000000000000000000000000000000000000000000000000000001 20" ∷
    codes "9 snapshot mark 00000000000000000000000000000000000000000000000000000050 0" ∷
    codes "9 snapshot set 00000000000000000000000000000000000000000000000000000050 0" ∷
    codes "9 snapshot go 00000000000000000000000000000000000000000000000000000050 0" ∷
    codes "9 snapshot fees 0" ∷
    codes "9 pending none" ∷
    codes "9 pots outputs 200 deposits 21 rewards 100 fees 0 donations 0 treasury 100 reserves 579 supply 1000" ∷
    codes "10 accepted" ∷
    codes "11 epoch 3 frozen 3 dormant 3" ∷
    codes "11 stake k00000000000000000000000000000000000000000000000000000030 67" ∷
    codes "11 stake k00000000000000000000000000000000000000000000000000000031 33" ∷
    codes "11 pots outputs 180 deposits 21 rewards 100 fees 20 donations 0 treasury 100 reserves 579 supply 1000" ∷
    codes "11 block slot 30 epoch 3 counted 1 of 3" ∷
    codes "12 accepted" ∷
    codes "13 epoch 4 frozen 3 dormant 0" ∷
    codes "13 stake k00000000000000000000000000000000000000000000000000000030 67" ∷
    codes "13 stake k00000000000000000000000000000000000000000000000000000031 33" ∷
    codes "13 pots outputs 160 deposits 31 rewards 100 fees 30 donations 0 treasury 100 reserves 579 supply 1000" ∷
    codes "13 block slot 40 epoch 4 counted 1 of 3" ∷
    codes "14 now slot 40 epoch 4 version 10.0 dormant 0" ∷
    codes "14 constitution 0000000000000000000000000000000000000000000000000000000000000001 none" ∷
    codes "14 committee threshold 0/1" ∷
    codes "14 member k00000000000000000000000000000000000000000000000000000070 term 100 hot k00000000000000000000000000000000000000000000000000000071" ∷
    codes "14 enacted committee none constitution none hardfork none parameters none" ∷
    codes "14 param maxBlockBodySize 90112" ∷
    codes "14 param maxTxSize 16384" ∷
    codes "14 param maxBlockHeaderSize 1100" ∷
    codes "14 param maxValueSize 5000" ∷
    codes "14 param maxTxExUnits 1000 1000" ∷
    codes "14 param maxBlockExUnits 1000 1000" ∷
    codes "14 param maxCollateralInputs 3" ∷
    codes "14 param minFeeA 0" ∷
    codes "14 param minFeeB 0" ∷
    codes "14 param keyDeposit 2" ∷
    codes "14 param poolDeposit 5" ∷
    codes "14 param rho 0/1" ∷
    codes "14 param tau 0/1" ∷
    codes "14 param minPoolCost 0" ∷
    codes "14 param coinsPerUTxOByte 0" ∷
    codes "14 param prices 0/1 0/1" ∷
    codes "14 param minFeeRefScriptCostPerByte 15/1" ∷
    codes "14 param a0 0/1" ∷
    codes "14 param eMax 18" ∷
    codes "14 param nOpt 500" ∷
    codes "14 param costModels 0000000000000000000000000000000000000000000000000000000000000000" ∷
    codes "14 param collateralPercentage 150" ∷
    codes "14 param poolVotingThresholds 0/1 0/1 0/1 0/1 0/1" ∷
    codes "14 param drepVotingThresholds 67/100 67/100 67/100 67/100 67/100 67/100 67/100 67/100 67/100 67/100" ∷
    codes "14 param govActionLifetime 2" ∷
    codes "14 param govActionDeposit 10" ∷
    codes "14 param drepDeposit 5" ∷
    codes "14 param drepActivity 20" ∷
    codes "14 param committeeMinSize 0" ∷
    codes "14 param committeeMaxTermLength 100" ∷
    codes "14 drep k00000000000000000000000000000000000000000000000000000030 deposit 5 expiry 23" ∷
    codes "14 drep k00000000000000000000000000000000000000000000000000000031 deposit 5 expiry 23" ∷
    codes "14 pool 00000000000000000000000000000000000000000000000000000050 deposit 5 cost 0 pledge 0 margin 0/1 account 1k00000000000000000000000000000000000000000000000000000012 retires never" ∷
    codes "14 account k00000000000000000000000000000000000000000000000000000010 stake 0 deposit 2 rewards 67 pool none drep k00000000000000000000000000000000000000000000000000000030" ∷
    codes "14 account k00000000000000000000000000000000000000000000000000000011 stake 0 deposit 2 rewards 33 pool none drep k00000000000000000000000000000000000000000000000000000031" ∷
    codes "14 account k00000000000000000000000000000000000000000000000000000012 stake 0 deposit 2 rewards 0 pool none drep none" ∷
    codes "14 output 0000000000000000000000000000000000000000000000000000000000000001#0 1k00000000000000000000000000000000000000000000000000000001 20" ∷
    codes "14 output 0000000000000000000000000000000000000000000000000000000000000001#1 1k00000000000000000000000000000000000000000000000000000001 20" ∷
    codes "14 output 0000000000000000000000000000000000000000000000000000000000000001#4 1k00000000000000000000000000000000000000000000000000000001 20" ∷
    codes "14 output 0000000000000000000000000000000000000000000000000000000000000001#5 1k00000000000000000000000000000000000000000000000000000001 20" ∷
    codes "14 output 0000000000000000000000000000000000000000000000000000000000000001#6 1k00000000000000000000000000000000000000000000000000000001 20" ∷
    codes "14 output 0000000000000000000000000000000000000000000000000000000000000001#7 1k00000000000000000000000000000000000000000000000000000001 20" ∷
    codes "14 output 0000000000000000000000000000000000000000000000000000000000000001#8 1k00000000000000000000000000000000000000000000000000000001 20" ∷
    codes "14 output 0000000000000000000000000000000000000000000000000000000000000001#9 1k00000000000000000000000000000000000000000000000000000001 20" ∷
    codes "14 proposal 0000000000000000000000000000000000000000000000000000000000000002#0 NoConfidence deposit 10 return 1k00000000000000000000000000000000000000000000000000000012 expires 5 previous none" ∷
    codes "14 snapshot mark 00000000000000000000000000000000000000000000000000000050 0" ∷
    codes "14 snapshot set 00000000000000000000000000000000000000000000000000000050 0" ∷
    codes "14 snapshot go 00000000000000000000000000000000000000000000000000000050 0" ∷
    codes "14 snapshot fees 30" ∷
    codes "14 pending none" ∷
    codes "14 pots outputs 160 deposits 31 rewards 100 fees 30 donations 0 treasury 100 reserves 579 supply 1000" ∷
    []) ≡ true
unfolding digits encode_with
follow_brings_dormant_epochs_back = refl

abbrev follow_frozen_entries_stay_input : List (ℕ × FollowReading)
follow_frozen_entries_stay_input =
    (1, follow.Read (Plain (records.Genesis (record { network = 1; slot = 0; epoch_length = 10; version = (10, 0); supply = 1000; reserves = 579; treasury = 100; params = base_params; document = (h32 0x01); script = None; committee = (Some (record { threshold = (share 0 1); members = (((key 0x70), 100, (Some (key 0x71))) ∷ []) })); outputs = (((ref 0x01 0), (address_with 1 (key 0x01) None), 20, []) ∷ ((ref 0x01 1), (address_with 1 (key 0x01) None), 20, []) ∷ ((ref 0x01 2), (address_with 1 (key 0x01) None), 20, []) ∷ ((ref 0x01 3), (address_with 1 (key 0x01) None), 20, []) ∷ ((ref 0x01 4), (address_with 1 (key 0x01) None), 20, []) ∷ ((ref 0x01 5), (address_with 1 (key 0x01) None), 20, []) ∷ ((ref 0x01 6), (address_with 1 (key 0x01) None), 20, []) ∷ ((ref 0x01 7), (address_with 1 (key 0x01) None), 20, []) ∷ ((ref 0x01 8), (address_with 1 (key 0x01) (Some (key 0x10))), 20, []) ∷ ((ref 0x01 9), (address_with 1 (key 0x01) (Some (script 0x20))), 20, []) ∷ []); accounts = (((key 0x10), 2, 67, None, (Some (drep.Registered (key 0x30)))) ∷ ((key 0x11), 2, 33, None, (Some (drep.Registered (key 0x31)))) ∷ ((key 0x12), 2, 0, None, None) ∷ []); pools = ((record { pool = (pool 0x50); deposit = 5; cost = 0; pledge = 0; margin = (share 0 1); account = (account_on 1 (key 0x12)); key = None }) ∷ []); dreps = (((key 0x30), 5, 20) ∷ ((key 0x31), 5, 20) ∷ []) })))) ∷
    (2, follow.Read (Plain (records.Tx (record (spend 0x02 0) { outputs = ((paying (address_with 1 (key 0x01) None) 10 0) ∷ []); proposals = ((proposing 10 (account_on 1 (key 0x10)) (actions.NoConfidence None)) ∷ []) })))) ∷
    (3, follow.Read (Plain (records.Block 10 1))) ∷
    (4, follow.Read (Plain (records.Tx (record (spend 0x03 0) { outputs = ((paying (address_with 1 (key 0x01) (Some (key 0x05))) 89 0) ∷ []); withdrawals = (((account_on 1 (key 0x10)), 67) ∷ []); certs = ((certs.AccountUnreg (key 0x10) None) ∷ []) })))) ∷
    (5, follow.Read (Plain (records.Tx (record (spend 0x04 40) { inputs = ((ref 0x01 9) ∷ (ref 0x01 8) ∷ []) })))) ∷
    (6, follow.Read (Plain (records.Tx (record (spend 0x05 18) { certs = ((certs.AccountReg (script 0x09) None None (Some (drep.Registered (key 0x31)))) ∷ []) })))) ∷
    (7, follow.Read (Plain (records.Block 11 1))) ∷
    (8, follow.Read (Plain (records.Print what.State))) ∷
    (9, follow.Read (Rollback 10)) ∷
    (10, follow.Read (Plain (records.Print what.State))) ∷
    (11, follow.Read (Plain (records.Tx (record (spend 0x03 0) { outputs = ((paying (address_with 1 (key 0x01) None) 20 0) ∷ []); certs = ((certs.Delegate (key 0x10) None (Some (drep.Registered (key 0x31)))) ∷ []) })))) ∷
    (12, follow.Read (Plain (records.Block 12 1))) ∷
    (13, follow.Read (Rollback 10)) ∷
    (14, follow.Read (Plain (records.Block 20 1))) ∷
    (15, follow.Read (Plain (records.Block 30 1))) ∷
    (16, follow.Read (Plain (records.Block 40 1))) ∷
    []

pub follow_frozen_entries_stay : is_text (follow_of_readings follow_frozen_entries_stay_input) (
    codes "1 genesis outputs 200 deposits 21 rewards 100 fees 0 donations 0 treasury 100 reserves 579 supply 1000" ∷
    codes "2 accepted" ∷
    codes "3 epoch 1 frozen 4 dormant 0" ∷
    codes "3 stake k00000000000000000000000000000000000000000000000000000030 87" ∷
    codes "3 stake k00000000000000000000000000000000000000000000000000000031 33" ∷
    codes "3 pots outputs 190 deposits 31 rewards 100 fees 0 donations 0 treasury 100 reserves 579 supply 1000" ∷
    codes "3 block slot 10 epoch 1 counted 1 of 4" ∷
    codes "4 accepted" ∷
    codes "5 accepted" ∷
    codes "6 accepted" ∷
    codes "7 block slot 11 epoch 1 counted 2 of 4" ∷
    codes "8 now slot 11 epoch 1 version 10.0 dormant 0" ∷
    codes "8 constitution 0000000000000000000000000000000000000000000000000000000000000001 none" ∷
    codes "8 committee threshold 0/1" ∷
    codes "8 member k00000000000000000000000000000000000000000000000000000070 term 100 hot k00000000000000000000000000000000000000000000000000000071" ∷
    codes "8 enacted committee none constitution none hardfork none parameters none" ∷
    codes "8 param maxBlockBodySize 90112" ∷
    codes "8 param maxTxSize 16384" ∷
    codes "8 param maxBlockHeaderSize 1100" ∷
    codes "8 param maxValueSize 5000" ∷
    codes "8 param maxTxExUnits 1000 1000" ∷
    codes "8 param maxBlockExUnits 1000 1000" ∷
    codes "8 param maxCollateralInputs 3" ∷
    codes "8 param minFeeA 0" ∷
    codes "8 param minFeeB 0" ∷
    codes "8 param keyDeposit 2" ∷
    codes "8 param poolDeposit 5" ∷
    codes "8 param rho 0/1" ∷
    codes "8 param tau 0/1" ∷
    codes "8 param minPoolCost 0" ∷
    codes "8 param coinsPerUTxOByte 0" ∷
    codes "8 param prices 0/1 0/1" ∷
    codes "8 param minFeeRefScriptCostPerByte 15/1" ∷
    codes "8 param a0 0/1" ∷
    codes "8 param eMax 18" ∷
    codes "8 param nOpt 500" ∷
    codes "8 param costModels 0000000000000000000000000000000000000000000000000000000000000000" ∷
    codes "8 param collateralPercentage 150" ∷
    codes "8 param poolVotingThresholds 0/1 0/1 0/1 0/1 0/1" ∷
    codes "8 param drepVotingThresholds 67/100 67/100 67/100 67/100 67/100 67/100 67/100 67/100 67/100 67/100" ∷
    codes "8 param govActionLifetime 2" ∷
    codes "8 param govActionDeposit 10" ∷
    codes "8 param drepDeposit 5" ∷
    codes "8 param drepActivity 20" ∷
    codes "8 param committeeMinSize 0" ∷
    codes "8 param committeeMaxTermLength 100" ∷
    codes "8 drep k00000000000000000000000000000000000000000000000000000030 deposit 5 expiry 20" ∷
    codes "8 drep k00000000000000000000000000000000000000000000000000000031 deposit 5 expiry 20" ∷
    codes "8 pool 00000000000000000000000000000000000000000000000000000050 deposit 5 cost 0 pledge 0 margin 0/1 account 1k00000000000000000000000000000000000000000000000000000012 retires never" ∷
    codes "8 account k00000000000000000000000000000000000000000000000000000005 stake 89 unregistered" ∷
    codes "8 account s00000000000000000000000000000000000000000000000000000009 stake 0 deposit 2 rewards 0 pool none drep k00000000000000000000000000000000000000000000000000000031" ∷
    codes "8 account k00000000000000000000000000000000000000000000000000000011 stake 0 deposit 2 rewards 33 pool none drep k00000000000000000000000000000000000000000000000000000031" ∷
    codes "8 account k00000000000000000000000000000000000000000000000000000012 stake 0 deposit 2 rewards 0 pool none drep none" ∷
    codes "8 output 0000000000000000000000000000000000000000000000000000000000000001#0 1k00000000000000000000000000000000000000000000000000000001 20" ∷
    codes "8 output 0000000000000000000000000000000000000000000000000000000000000001#1 1k00000000000000000000000000000000000000000000000000000001 20" ∷
    codes "8 output 0000000000000000000000000000000000000000000000000000000000000001#4 1k00000000000000000000000000000000000000000000000000000001 20" ∷
    codes "8 output 0000000000000000000000000000000000000000000000000000000000000001#6 1k00000000000000000000000000000000000000000000000000000001 20" ∷
    codes "8 output 0000000000000000000000000000000000000000000000000000000000000001#7 1k00000000000000000000000000000000000000000000000000000001 20" ∷
    codes "8 output 0000000000000000000000000000000000000000000000000000000000000002#0 1k00000000000000000000000000000000000000000000000000000001 10" ∷
    codes "8 output 0000000000000000000000000000000000000000000000000000000000000003#0 1k00000000000000000000000000000000000000000000000000000001+k00000000000000000000000000000000000000000000000000000005 89" ∷
    codes "8 proposal 0000000000000000000000000000000000000000000000000000000000000002#0 NoConfidence deposit 10 return 1k00000000000000000000000000000000000000000000000000000010 expires 2 previous none" ∷
    codes "8 snapshot mark 00000000000000000000000000000000000000000000000000000050 0" ∷
    codes "8 snapshot set 00000000000000000000000000000000000000000000000000000050 0" ∷
    codes "8 snapshot fees 0" ∷
    codes "8 pending none" ∷
    codes "8 pots outputs 199 deposits 31 rewards 33 fees 58 donations 0 treasury 100 reserves 579 supply 1000" ∷
    codes "9 rolled slot 10 epoch 1 counted 2 of 4" ∷
    codes "10 now slot 10 epoch 1 version 10.0 dormant 0" ∷
    codes "10 constitution 0000000000000000000000000000000000000000000000000000000000000001 none" ∷
    codes "10 committee threshold 0/1" ∷
    codes "10 member k00000000000000000000000000000000000000000000000000000070 term 100 hot k00000000000000000000000000000000000000000000000000000071" ∷
    codes "10 enacted committee none constitution none hardfork none parameters none" ∷
    codes "10 param maxBlockBodySize 90112" ∷
    codes "10 param maxTxSize 16384" ∷
    codes "10 param maxBlockHeaderSize 1100" ∷
    codes "10 param maxValueSize 5000" ∷
    codes "10 param maxTxExUnits 1000 1000" ∷
    codes "10 param maxBlockExUnits 1000 1000" ∷
    codes "10 param maxCollateralInputs 3" ∷
    codes "10 param minFeeA 0" ∷
    codes "10 param minFeeB 0" ∷
    codes "10 param keyDeposit 2" ∷
    codes "10 param poolDeposit 5" ∷
    codes "10 param rho 0/1" ∷
    codes "10 param tau 0/1" ∷
    codes "10 param minPoolCost 0" ∷
    codes "10 param coinsPerUTxOByte 0" ∷
    codes "10 param prices 0/1 0/1" ∷
    codes "10 param minFeeRefScriptCostPerByte 15/1" ∷
    codes "10 param a0 0/1" ∷
    codes "10 param eMax 18" ∷
    codes "10 param nOpt 500" ∷
    codes "10 param costModels 0000000000000000000000000000000000000000000000000000000000000000" ∷
    codes "10 param collateralPercentage 150" ∷
    codes "10 param poolVotingThresholds 0/1 0/1 0/1 0/1 0/1" ∷
    codes "10 param drepVotingThresholds 67/100 67/100 67/100 67/100 67/100 67/100 67/100 67/100 67/100 67/100" ∷
    codes "10 param govActionLifetime 2" ∷
    codes "10 param govActionDeposit 10" ∷
    codes "10 param drepDeposit 5" ∷
    codes "10 param drepActivity 20" ∷
    codes "10 param committeeMinSize 0" ∷
    codes "10 param committeeMaxTermLength 100" ∷
    codes "10 drep k00000000000000000000000000000000000000000000000000000030 deposit 5 expiry 20" ∷
    codes "10 drep k00000000000000000000000000000000000000000000000000000031 deposit 5 expiry 20" ∷
    codes "10 pool 00000000000000000000000000000000000000000000000000000050 deposit 5 cost 0 pledge 0 margin 0/1 account 1k00000000000000000000000000000000000000000000000000000012 retires never" ∷
    codes "10 account k00000000000000000000000000000000000000000000000000000010 stake 20 deposit 2 rewards 67 pool none drep k00000000000000000000000000000000000000000000000000000030" ∷
    codes "10 account k00000000000000000000000000000000000000000000000000000011 stake 0 deposit 2 rewards 33 pool none drep k00000000000000000000000000000000000000000000000000000031" ∷
    codes "10 account k00000000000000000000000000000000000000000000000000000012 stake 0 deposit 2 rewards 0 pool none drep none" ∷
    codes "10 account s00000000000000000000000000000000000000000000000000000020 stake 20 unregistered" ∷
    codes "10 output 0000000000000000000000000000000000000000000000000000000000000001#0 1k00000000000000000000000000000000000000000000000000000001 20" ∷
    codes "10 output 0000000000000000000000000000000000000000000000000000000000000001#1 1k00000000000000000000000000000000000000000000000000000001 20" ∷
    codes "10 output 0000000000000000000000000000000000000000000000000000000000000001#3 1k00000000000000000000000000000000000000000000000000000001 20" ∷
    codes "10 output 0000000000000000000000000000000000000000000000000000000000000001#4 1k00000000000000000000000000000000000000000000000000000001 20" ∷
    codes "10 output 0000000000000000000000000000000000000000000000000000000000000001#5 1k00000000000000000000000000000000000000000000000000000001 20" ∷
    codes "10 output 0000000000000000000000000000000000000000000000000000000000000001#6 1k00000000000000000000000000000000000000000000000000000001 20" ∷
    codes "10 output 0000000000000000000000000000000000000000000000000000000000000001#7 1k00000000000000000000000000000000000000000000000000000001 20" ∷
    codes "10 output 0000000000000000000000000000000000000000000000000000000000000001#8 1k00000000000000000000000000000000000000000000000000000001+k00000000000000000000000000000000000000000000000000000010 20" ∷
    codes "10 output 0000000000000000000000000000000000000000000000000000000000000001#9 1k00000000000000000000000000000000000000000000000000000001+s00000000000000000000000000000000000000000000000000000020 20" ∷
    codes "10 output 0000000000000000000000000000000000000000000000000000000000000002#0 1k00000000000000000000000000000000000000000000000000000001 10" ∷
    codes "10 proposal 0000000000000000000000000000000000000000000000000000000000000002#0 NoConfidence deposit 10 return 1k00000000000000000000000000000000000000000000000000000010 expires 2 previous none" ∷
    codes "10 snapshot mark 00000000000000000000000000000000000000000000000000000050 0" ∷
    codes "10 snapshot set 00000000000000000000000000000000000000000000000000000050 0" ∷
    codes "10 snapshot fees 0" ∷
    codes "10 pending none" ∷
    codes "10 pots outputs 190 deposits 31 rewards 100 fees 0 donations 0 treasury 100 reserves 579 supply 1000" ∷
    codes "11 accepted" ∷
    codes "12 block slot 12 epoch 1 counted 3 of 4" ∷
    codes "13 rolled slot 10 epoch 1 counted 3 of 4" ∷
    codes "14 epoch 2 frozen 4 dormant 0" ∷
    codes "14 stake k00000000000000000000000000000000000000000000000000000030 97" ∷
    codes "14 stake k00000000000000000000000000000000000000000000000000000031 33" ∷
    codes "14 tally 0000000000000000000000000000000000000000000000000000000000000002#0 NoConfidence committee 0/1 need none drep 0/130 need 67/100 pool 0/0 need 0/1 waiting" ∷
    codes "14 pots outputs 190 deposits 31 rewards 100 fees 0 donations 0 treasury 100 reserves 579 supply 1000" ∷
    codes "14 block slot 20 epoch 2 counted 1 of 4" ∷
    codes "15 epoch 3 frozen 4 dormant 0" ∷
    codes "15 stake k00000000000000000000000000000000000000000000000000000030 97" ∷
    codes "15 stake k00000000000000000000000000000000000000000000000000000031 33" ∷
    codes "15 tally 0000000000000000000000000000000000000000000000000000000000000002#0 NoConfidence committee 0/1 need none drep 0/130 need 67/100 pool 0/0 need 0/1 waiting" ∷
    codes "15 pots outputs 190 deposits 31 rewards 100 fees 0 donations 0 treasury 100 reserves 579 supply 1000" ∷
    codes "15 block slot 30 epoch 3 counted 1 of 4" ∷
    codes "16 epoch 4 frozen 4 dormant 1" ∷
    codes "16 stake k00000000000000000000000000000000000000000000000000000030 97" ∷
    codes "16 stake k00000000000000000000000000000000000000000000000000000031 33" ∷
    codes "16 tally 0000000000000000000000000000000000000000000000000000000000000002#0 NoConfidence committee 0/1 need none drep 0/130 need 67/100 pool 0/0 need 0/1 expired" ∷
    codes "16 removed 0000000000000000000000000000000000000000000000000000000000000002#0 expired refund 10 1k00000000000000000000000000000000000000000000000000000010" ∷
    codes "16 pots outputs 190 deposits 21 rewards 110 fees 0 donations 0 treasury 100 reserves 579 supply 1000" ∷
    codes "16 block slot 40 epoch 4 counted 1 of 4" ∷
    []) ≡ true
unfolding digits encode_with
follow_frozen_entries_stay = refl
