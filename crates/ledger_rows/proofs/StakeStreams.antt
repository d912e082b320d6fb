-- Worked rows of whole streams: stakes. Made by tests/made/rows_of, from the streams of these names in tests/streams/whole.
use Rattle.std.specs.Prelude.{ℕ, ◌≡◌, List, [], ◌∷◌, Some, None, true, codes, refl}
use Rattle.std.specs.Fmt.{digits}
use Rattle.hex.specs.Hex.{encode_with}
use Rattle.gov_actions.specs.declared.action.Action.TheVariants as actions
use Rattle.gov_actions.specs.declared.action.Vote.TheVariants as vote
use Rattle.gov_ids.specs.declared.Drep.TheVariants as drep
use Rattle.gov_ids.specs.declared.Voter.TheVariants as voter
use Rattle.tx_records.specs.declared.record.Record.TheVariants as records
use Rattle.tx_records.specs.declared.record.What.TheVariants as what
use Rattle.tx_records.specs.declared.cert.Cert.TheVariants as certs
use Rattle.tx_records.specs.declared.record.Reading.{Reading}
use Rattle.tx_records.specs.declared.record.Reading.TheVariants.{Read}
use Rattle.ledger_rows.proofs.Base.{h32, key, script, pool, account_on, address_with, ref, action, share, base_params, no_update, spend, proposing, voting, says_all}

abbrev stake_of_dreps_input : List (ℕ × Reading)
stake_of_dreps_input =
    (1, Read (records.Genesis (record { network = 1; slot = 0; epoch_length = 10; version = (10, 0); supply = 1000; reserves = 479; treasury = 100; params = (record base_params { gov_action_lifetime = 9 }); document = (h32 0x01); script = None; committee = (Some (record { threshold = (share 0 1); members = (((key 0x70), 100, (Some (key 0x71))) ∷ []) })); outputs = (((ref 0x01 2), (address_with 1 (key 0x01) None), 60, []) ∷ ((ref 0x01 3), (address_with 1 (key 0x01) None), 60, []) ∷ ((ref 0x01 4), (address_with 1 (key 0x01) None), 60, []) ∷ ((ref 0x01 5), (address_with 1 (key 0x01) None), 60, []) ∷ ((ref 0x01 20), (address_with 1 (key 0x01) (Some (key 0x10))), 8, []) ∷ ((ref 0x01 21), (address_with 1 (script 0x02) (Some (script 0x12))), 9, []) ∷ ((ref 0x01 22), (address_with 1 (key 0x01) (Some (key 0x12))), 10, []) ∷ ((ref 0x01 23), (address_with 1 (key 0x01) (Some (key 0x14))), 11, []) ∷ ((ref 0x01 24), (address_with 1 (key 0x01) (Some (key 0x13))), 0, []) ∷ []); accounts = (((key 0x10), 2, 67, (Some (pool 0x50)), (Some (drep.Registered (key 0x30)))) ∷ ((key 0x11), 2, 33, (Some (pool 0x50)), (Some (drep.Registered (key 0x31)))) ∷ ((key 0x12), 2, 5, None, (Some drep.Abstain)) ∷ ((script 0x12), 2, 6, None, (Some drep.NoConfidence)) ∷ ((key 0x13), 2, 7, None, None) ∷ []); pools = ((record { pool = (pool 0x50); deposit = 5; cost = 0; pledge = 0; margin = (share 0 1); account = (account_on 1 (key 0x12)); key = None }) ∷ []); dreps = (((key 0x30), 5, 20) ∷ ((key 0x31), 5, 20) ∷ []) }))) ∷
    (2, Read (records.Tx (record (spend 0x02 20) { proposals = ((proposing 10 (account_on 1 (key 0x10)) (actions.NoConfidence None)) ∷ (proposing 10 (account_on 1 (key 0x11)) (actions.UpdateCommittee None [] (((key 0x60), 9) ∷ []) (share 1 2))) ∷ (proposing 10 (account_on 1 (key 0x12)) (actions.NewConstitution None (h32 0x02) None)) ∷ (proposing 10 (account_on 1 (script 0x12)) (actions.Info)) ∷ []) }))) ∷
    (3, Read (records.Tx (record (spend 0x03 65) { certs = ((certs.DrepUnreg (key 0x31) None) ∷ []); votes = ((voting (voter.Drep (key 0x30)) (action 0x02 0) vote.Yes) ∷ []) }))) ∷
    (4, Read (records.Print what.State)) ∷
    (5, Read (records.Block 10 9)) ∷
    (6, Read (records.Print what.State)) ∷
    (7, Read (records.Block 20 2)) ∷
    (8, Read (records.Block 30 1)) ∷
    (9, Read (records.Print what.State)) ∷
    []

pub stake_of_dreps : says_all stake_of_dreps_input (
    codes "1 genesis outputs 278 deposits 25 rewards 118 fees 0 donations 0 treasury 100 reserves 479 supply 1000" ∷
    codes "2 accepted" ∷
    codes "3 accepted" ∷
    codes "4 now slot 0 epoch 0 version 10.0 dormant 0" ∷
    codes "4 constitution 0000000000000000000000000000000000000000000000000000000000000001 none" ∷
    codes "4 committee threshold 0/1" ∷
    codes "4 member k00000000000000000000000000000000000000000000000000000070 term 100 hot k00000000000000000000000000000000000000000000000000000071" ∷
    codes "4 enacted committee none constitution none hardfork none parameters none" ∷
    codes "4 param maxBlockBodySize 90112" ∷
    codes "4 param maxTxSize 16384" ∷
    codes "4 param maxBlockHeaderSize 1100" ∷
    codes "4 param maxValueSize 5000" ∷
    codes "4 param maxTxExUnits 1000 1000" ∷
    codes "4 param maxBlockExUnits 1000 1000" ∷
    codes "4 param maxCollateralInputs 3" ∷
    codes "4 param minFeeA 0" ∷
    codes "4 param minFeeB 0" ∷
    codes "4 param keyDeposit 2" ∷
    codes "4 param poolDeposit 5" ∷
    codes "4 param rho 0/1" ∷
    codes "4 param tau 0/1" ∷
    codes "4 param minPoolCost 0" ∷
    codes "4 param coinsPerUTxOByte 0" ∷
    codes "4 param prices 0/1 0/1" ∷
    codes "4 param minFeeRefScriptCostPerByte 15/1" ∷
    codes "4 param a0 0/1" ∷
    codes "4 param eMax 18" ∷
    codes "4 param nOpt 500" ∷
    codes "4 param costModels 0000000000000000000000000000000000000000000000000000000000000000" ∷
    codes "4 param collateralPercentage 150" ∷
    codes "4 param poolVotingThresholds 0/1 0/1 0/1 0/1 0/1" ∷
    codes "4 param drepVotingThresholds 67/100 67/100 67/100 67/100 67/100 67/100 67/100 67/100 67/100 67/100" ∷
    codes "4 param govActionLifetime 9" ∷
    codes "4 param govActionDeposit 10" ∷
    codes "4 param drepDeposit 5" ∷
    codes "4 param drepActivity 20" ∷
    codes "4 param committeeMinSize 0" ∷
    codes "4 param committeeMaxTermLength 100" ∷
    codes "4 drep k00000000000000000000000000000000000000000000000000000030 deposit 5 expiry 20" ∷
    codes "4 pool 00000000000000000000000000000000000000000000000000000050 deposit 5 cost 0 pledge 0 margin 0/1 account 1k00000000000000000000000000000000000000000000000000000012 retires never" ∷
    codes "4 account k00000000000000000000000000000000000000000000000000000010 stake 8 deposit 2 rewards 67 pool 00000000000000000000000000000000000000000000000000000050 drep k00000000000000000000000000000000000000000000000000000030" ∷
    codes "4 account k00000000000000000000000000000000000000000000000000000011 stake 0 deposit 2 rewards 33 pool 00000000000000000000000000000000000000000000000000000050 drep none" ∷
    codes "4 account k00000000000000000000000000000000000000000000000000000012 stake 10 deposit 2 rewards 5 pool none drep abstain" ∷
    codes "4 account s00000000000000000000000000000000000000000000000000000012 stake 9 deposit 2 rewards 6 pool none drep no-confidence" ∷
    codes "4 account k00000000000000000000000000000000000000000000000000000013 stake 0 deposit 2 rewards 7 pool none drep none" ∷
    codes "4 account k00000000000000000000000000000000000000000000000000000014 stake 11 unregistered" ∷
    codes "4 output 0000000000000000000000000000000000000000000000000000000000000001#4 1k00000000000000000000000000000000000000000000000000000001 60" ∷
    codes "4 output 0000000000000000000000000000000000000000000000000000000000000001#5 1k00000000000000000000000000000000000000000000000000000001 60" ∷
    codes "4 output 0000000000000000000000000000000000000000000000000000000000000001#20 1k00000000000000000000000000000000000000000000000000000001+k00000000000000000000000000000000000000000000000000000010 8" ∷
    codes "4 output 0000000000000000000000000000000000000000000000000000000000000001#21 1s00000000000000000000000000000000000000000000000000000002+s00000000000000000000000000000000000000000000000000000012 9" ∷
    codes "4 output 0000000000000000000000000000000000000000000000000000000000000001#22 1k00000000000000000000000000000000000000000000000000000001+k00000000000000000000000000000000000000000000000000000012 10" ∷
    codes "4 output 0000000000000000000000000000000000000000000000000000000000000001#23 1k00000000000000000000000000000000000000000000000000000001+k00000000000000000000000000000000000000000000000000000014 11" ∷
    codes "4 output 0000000000000000000000000000000000000000000000000000000000000001#24 1k00000000000000000000000000000000000000000000000000000001+k00000000000000000000000000000000000000000000000000000013 0" ∷
    codes "4 proposal 0000000000000000000000000000000000000000000000000000000000000002#0 NoConfidence deposit 10 return 1k00000000000000000000000000000000000000000000000000000010 expires 9 previous none" ∷
    codes "4 vote 0000000000000000000000000000000000000000000000000000000000000002#0 drep:k00000000000000000000000000000000000000000000000000000030 yes" ∷
    codes "4 proposal 0000000000000000000000000000000000000000000000000000000000000002#1 UpdateCommittee deposit 10 return 1k00000000000000000000000000000000000000000000000000000011 expires 9 previous none" ∷
    codes "4 proposal 0000000000000000000000000000000000000000000000000000000000000002#2 NewConstitution deposit 10 return 1k00000000000000000000000000000000000000000000000000000012 expires 9 previous none" ∷
    codes "4 proposal 0000000000000000000000000000000000000000000000000000000000000002#3 Info deposit 10 return 1s00000000000000000000000000000000000000000000000000000012 expires 9 previous none" ∷
    codes "4 snapshot mark 00000000000000000000000000000000000000000000000000000050 108" ∷
    codes "4 snapshot fees 0" ∷
    codes "4 pending none" ∷
    codes "4 pots outputs 158 deposits 60 rewards 118 fees 85 donations 0 treasury 100 reserves 479 supply 1000" ∷
    codes "5 epoch 1 frozen 6 dormant 0" ∷
    codes "5 stake k00000000000000000000000000000000000000000000000000000030 75" ∷
    codes "5 stake k00000000000000000000000000000000000000000000000000000031 33" ∷
    codes "5 stake abstain 15" ∷
    codes "5 stake no-confidence 15" ∷
    codes "5 pots outputs 158 deposits 60 rewards 118 fees 85 donations 0 treasury 100 reserves 479 supply 1000" ∷
    codes "5 block slot 10 epoch 1 counted 6 of 6" ∷
    codes "6 now slot 10 epoch 1 version 10.0 dormant 0" ∷
    codes "6 constitution 0000000000000000000000000000000000000000000000000000000000000001 none" ∷
    codes "6 committee threshold 0/1" ∷
    codes "6 member k00000000000000000000000000000000000000000000000000000070 term 100 hot k00000000000000000000000000000000000000000000000000000071" ∷
    codes "6 enacted committee none constitution none hardfork none parameters none" ∷
    codes "6 param maxBlockBodySize 90112" ∷
    codes "6 param maxTxSize 16384" ∷
    codes "6 param maxBlockHeaderSize 1100" ∷
    codes "6 param maxValueSize 5000" ∷
    codes "6 param maxTxExUnits 1000 1000" ∷
    codes "6 param maxBlockExUnits 1000 1000" ∷
    codes "6 param maxCollateralInputs 3" ∷
    codes "6 param minFeeA 0" ∷
    codes "6 param minFeeB 0" ∷
    codes "6 param keyDeposit 2" ∷
    codes "6 param poolDeposit 5" ∷
    codes "6 param rho 0/1" ∷
    codes "6 param tau 0/1" ∷
    codes "6 param minPoolCost 0" ∷
    codes "6 param coinsPerUTxOByte 0" ∷
    codes "6 param prices 0/1 0/1" ∷
    codes "6 param minFeeRefScriptCostPerByte 15/1" ∷
    codes "6 param a0 0/1" ∷
    codes "6 param eMax 18" ∷
    codes "6 param nOpt 500" ∷
    codes "6 param costModels 0000000000000000000000000000000000000000000000000000000000000000" ∷
    codes "6 param collateralPercentage 150" ∷
    codes "6 param poolVotingThresholds 0/1 0/1 0/1 0/1 0/1" ∷
    codes "6 param drepVotingThresholds 67/100 67/100 67/100 67/100 67/100 67/100 67/100 67/100 67/100 67/100" ∷
    codes "6 param govActionLifetime 9" ∷
    codes "6 param govActionDeposit 10" ∷
    codes "6 param drepDeposit 5" ∷
    codes "6 param drepActivity 20" ∷
    codes "6 param committeeMinSize 0" ∷
    codes "6 param committeeMaxTermLength 100" ∷
    codes "6 drep k00000000000000000000000000000000000000000000000000000030 deposit 5 expiry 20" ∷
    codes "6 pool 00000000000000000000000000000000000000000000000000000050 deposit 5 cost 0 pledge 0 margin 0/1 account 1k00000000000000000000000000000000000000000000000000000012 retires never" ∷
    codes "6 account k00000000000000000000000000000000000000000000000000000010 stake 8 deposit 2 rewards 67 pool 00000000000000000000000000000000000000000000000000000050 drep k00000000000000000000000000000000000000000000000000000030" ∷
    codes "6 account k00000000000000000000000000000000000000000000000000000011 stake 0 deposit 2 rewards 33 pool 00000000000000000000000000000000000000000000000000000050 drep none" ∷
    codes "6 account k00000000000000000000000000000000000000000000000000000012 stake 10 deposit 2 rewards 5 pool none drep abstain" ∷
    codes "6 account s00000000000000000000000000000000000000000000000000000012 stake 9 deposit 2 rewards 6 pool none drep no-confidence" ∷
    codes "6 account k00000000000000000000000000000000000000000000000000000013 stake 0 deposit 2 rewards 7 pool none drep none" ∷
    codes "6 account k00000000000000000000000000000000000000000000000000000014 stake 11 unregistered" ∷
    codes "6 output 0000000000000000000000000000000000000000000000000000000000000001#4 1k00000000000000000000000000000000000000000000000000000001 60" ∷
    codes "6 output 0000000000000000000000000000000000000000000000000000000000000001#5 1k00000000000000000000000000000000000000000000000000000001 60" ∷
    codes "6 output 0000000000000000000000000000000000000000000000000000000000000001#20 1k00000000000000000000000000000000000000000000000000000001+k00000000000000000000000000000000000000000000000000000010 8" ∷
    codes "6 output 0000000000000000000000000000000000000000000000000000000000000001#21 1s00000000000000000000000000000000000000000000000000000002+s00000000000000000000000000000000000000000000000000000012 9" ∷
    codes "6 output 0000000000000000000000000000000000000000000000000000000000000001#22 1k00000000000000000000000000000000000000000000000000000001+k00000000000000000000000000000000000000000000000000000012 10" ∷
    codes "6 output 0000000000000000000000000000000000000000000000000000000000000001#23 1k00000000000000000000000000000000000000000000000000000001+k00000000000000000000000000000000000000000000000000000014 11" ∷
    codes "6 output 0000000000000000000000000000000000000000000000000000000000000001#24 1k00000000000000000000000000000000000000000000000000000001+k00000000000000000000000000000000000000000000000000000013 0" ∷
    codes "6 proposal 0000000000000000000000000000000000000000000000000000000000000002#0 NoConfidence deposit 10 return 1k00000000000000000000000000000000000000000000000000000010 expires 9 previous none" ∷
    codes "6 vote 0000000000000000000000000000000000000000000000000000000000000002#0 drep:k00000000000000000000000000000000000000000000000000000030 yes" ∷
    codes "6 proposal 0000000000000000000000000000000000000000000000000000000000000002#1 UpdateCommittee deposit 10 return 1k00000000000000000000000000000000000000000000000000000011 expires 9 previous none" ∷
    codes "6 proposal 0000000000000000000000000000000000000000000000000000000000000002#2 NewConstitution deposit 10 return 1k00000000000000000000000000000000000000000000000000000012 expires 9 previous none" ∷
    codes "6 proposal 0000000000000000000000000000000000000000000000000000000000000002#3 Info deposit 10 return 1s00000000000000000000000000000000000000000000000000000012 expires 9 previous none" ∷
    codes "6 snapshot mark 00000000000000000000000000000000000000000000000000000050 108" ∷
    codes "6 snapshot set 00000000000000000000000000000000000000000000000000000050 108" ∷
    codes "6 snapshot fees 85" ∷
    codes "6 pending none" ∷
    codes "6 pots outputs 158 deposits 60 rewards 118 fees 85 donations 0 treasury 100 reserves 479 supply 1000" ∷
    codes "7 epoch 2 frozen 6 dormant 0" ∷
    codes "7 stake k00000000000000000000000000000000000000000000000000000030 85" ∷
    codes "7 stake abstain 25" ∷
    codes "7 stake no-confidence 25" ∷
    codes "7 tally 0000000000000000000000000000000000000000000000000000000000000002#0 NoConfidence committee 0/1 need none drep 110/110 need 67/100 pool 0/0 need 0/1 ratified" ∷
    codes "7 tally 0000000000000000000000000000000000000000000000000000000000000002#1 UpdateCommittee committee 0/1 need none drep 0/110 need 67/100 pool 0/0 need 0/1 waiting" ∷
    codes "7 tally 0000000000000000000000000000000000000000000000000000000000000002#2 NewConstitution committee 0/1 need never drep 0/110 need 67/100 pool 0/0 need none waiting" ∷
    codes "7 tally 0000000000000000000000000000000000000000000000000000000000000002#3 Info committee 0/1 need never drep 0/110 need never pool 0/0 need never waiting" ∷
    codes "7 removed 0000000000000000000000000000000000000000000000000000000000000002#0 enacted refund 10 1k00000000000000000000000000000000000000000000000000000010" ∷
    codes "7 removed 0000000000000000000000000000000000000000000000000000000000000002#1 dropped refund 10 1k00000000000000000000000000000000000000000000000000000011" ∷
    codes "7 pots outputs 158 deposits 40 rewards 138 fees 85 donations 0 treasury 100 reserves 479 supply 1000" ∷
    codes "7 block slot 20 epoch 2 counted 2 of 6" ∷
    codes "8 epoch 3 frozen 6 dormant 0" ∷
    codes "8 stake k00000000000000000000000000000000000000000000000000000030 85" ∷
    codes "8 stake abstain 25" ∷
    codes "8 stake no-confidence 25" ∷
    codes "8 tally 0000000000000000000000000000000000000000000000000000000000000002#2 NewConstitution committee 0/0 need never drep 0/110 need 67/100 pool 0/0 need none waiting" ∷
    codes "8 tally 0000000000000000000000000000000000000000000000000000000000000002#3 Info committee 0/0 need never drep 0/110 need never pool 0/0 need never waiting" ∷
    codes "8 pots outputs 158 deposits 40 rewards 138 fees 85 donations 0 treasury 100 reserves 479 supply 1000" ∷
    codes "8 block slot 30 epoch 3 counted 1 of 6" ∷
    codes "9 now slot 30 epoch 3 version 10.0 dormant 0" ∷
    codes "9 constitution 0000000000000000000000000000000000000000000000000000000000000001 none" ∷
    codes "9 committee none" ∷
    codes "9 enacted committee 0000000000000000000000000000000000000000000000000000000000000002#0 constitution none hardfork none parameters none" ∷
    codes "9 param maxBlockBodySize 90112" ∷
    codes "9 param maxTxSize 16384" ∷
    codes "9 param maxBlockHeaderSize 1100" ∷
    codes "9 param maxValueSize 5000" ∷
    codes "9 param maxTxExUnits 1000 1000" ∷
    codes "9 param maxBlockExUnits 1000 1000" ∷
    codes "9 param maxCollateralInputs 3" ∷
    codes "9 param minFeeA 0" ∷
    codes "9 param minFeeB 0" ∷
    codes "9 param keyDeposit 2" ∷
    codes "9 param poolDeposit 5" ∷
    codes "9 param rho 0/1" ∷
    codes "9 param tau 0/1" ∷
    codes "9 param minPoolCost 0" ∷
    codes "9 param coinsPerUTxOByte 0" ∷
    codes "9 param prices 0/1 0/1" ∷
    codes "9 param minFeeRefScriptCostPerByte 15/1" ∷
    codes "9 param a0 0/1" ∷
    codes "9 param eMax 18" ∷
    codes "9 param nOpt 500" ∷
    codes "9 param costModels 0000000000000000000000000000000000000000000000000000000000000000" ∷
    codes "9 param collateralPercentage 150" ∷
    codes "9 param poolVotingThresholds 0/1 0/1 0/1 0/1 0/1" ∷
    codes "9 param drepVotingThresholds 67/100 67/100 67/100 67/100 67/100 67/100 67/100 67/100 67/100 67/100" ∷
    codes "9 param govActionLifetime 9" ∷
    codes "9 param govActionDeposit 10" ∷
    codes "9 param drepDeposit 5" ∷
    codes "9 param drepActivity 20" ∷
    codes "9 param committeeMinSize 0" ∷
    codes "9 param committeeMaxTermLength 100" ∷
    codes "9 drep k00000000000000000000000000000000000000000000000000000030 deposit 5 expiry 20" ∷
    codes "9 pool 00000000000000000000000000000000000000000000000000000050 deposit 5 cost 0 pledge 0 margin 0/1 account 1k00000000000000000000000000000000000000000000000000000012 retires never" ∷
    codes "9 account k00000000000000000000000000000000000000000000000000000010 stake 8 deposit 2 rewards 77 pool 00000000000000000000000000000000000000000000000000000050 drep k00000000000000000000000000000000000000000000000000000030" ∷
    codes "9 account k00000000000000000000000000000000000000000000000000000011 stake 0 deposit 2 rewards 43 pool 00000000000000000000000000000000000000000000000000000050 drep none" ∷
    codes "9 account k00000000000000000000000000000000000000000000000000000012 stake 10 deposit 2 rewards 5 pool none drep abstain" ∷
    codes "9 account s00000000000000000000000000000000000000000000000000000012 stake 9 deposit 2 rewards 6 pool none drep no-confidence" ∷
    codes "9 account k00000000000000000000000000000000000000000000000000000013 stake 0 deposit 2 rewards 7 pool none drep none" ∷
    codes "9 account k00000000000000000000000000000000000000000000000000000014 stake 11 unregistered" ∷
    codes "9 output 0000000000000000000000000000000000000000000000000000000000000001#4 1k00000000000000000000000000000000000000000000000000000001 60" ∷
    codes "9 output 0000000000000000000000000000000000000000000000000000000000000001#5 1k00000000000000000000000000000000000000000000000000000001 60" ∷
    codes "9 output 0000000000000000000000000000000000000000000000000000000000000001#20 1k00000000000000000000000000000000000000000000000000000001+k00000000000000000000000000000000000000000000000000000010 8" ∷
    codes "9 output 0000000000000000000000000000000000000000000000000000000000000001#21 1s00000000000000000000000000000000000000000000000000000002+s00000000000000000000000000000000000000000000000000000012 9" ∷
    codes "9 output 0000000000000000000000000000000000000000000000000000000000000001#22 1k00000000000000000000000000000000000000000000000000000001+k00000000000000000000000000000000000000000000000000000012 10" ∷
    codes "9 output 0000000000000000000000000000000000000000000000000000000000000001#23 1k00000000000000000000000000000000000000000000000000000001+k00000000000000000000000000000000000000000000000000000014 11" ∷
    codes "9 output 0000000000000000000000000000000000000000000000000000000000000001#24 1k00000000000000000000000000000000000000000000000000000001+k00000000000000000000000000000000000000000000000000000013 0" ∷
    codes "9 proposal 0000000000000000000000000000000000000000000000000000000000000002#2 NewConstitution deposit 10 return 1k00000000000000000000000000000000000000000000000000000012 expires 9 previous none" ∷
    codes "9 proposal 0000000000000000000000000000000000000000000000000000000000000002#3 Info deposit 10 return 1s00000000000000000000000000000000000000000000000000000012 expires 9 previous none" ∷
    codes "9 snapshot mark 00000000000000000000000000000000000000000000000000000050 128" ∷
    codes "9 snapshot set 00000000000000000000000000000000000000000000000000000050 108" ∷
    codes "9 snapshot go 00000000000000000000000000000000000000000000000000000050 108" ∷
    codes "9 snapshot fees 85" ∷
    codes "9 pending none" ∷
    codes "9 pots outputs 158 deposits 40 rewards 138 fees 85 donations 0 treasury 100 reserves 479 supply 1000" ∷
    []) ≡ true
unfolding digits encode_with
stake_of_dreps = refl

abbrev stake_of_those_that_left_input : List (ℕ × Reading)
stake_of_those_that_left_input =
    (1, Read (records.Genesis (record { network = 1; slot = 0; epoch_length = 10; version = (10, 0); supply = 1000; reserves = 537; treasury = 100; params = (record base_params { gov_action_lifetime = 4 }); document = (h32 0x01); script = None; committee = (Some (record { threshold = (share 0 1); members = (((key 0x70), 100, (Some (key 0x71))) ∷ []) })); outputs = (((ref 0x01 2), (address_with 1 (key 0x01) None), 60, []) ∷ ((ref 0x01 3), (address_with 1 (key 0x01) None), 60, []) ∷ ((ref 0x01 4), (address_with 1 (key 0x01) None), 60, []) ∷ ((ref 0x01 5), (address_with 1 (key 0x01) None), 60, []) ∷ ((ref 0x01 6), (address_with 1 (key 0x01) None), 60, []) ∷ ((ref 0x01 20), (address_with 1 (key 0x01) (Some (key 0x10))), 8, []) ∷ ((ref 0x01 21), (address_with 1 (key 0x01) (Some (key 0x15))), 0, []) ∷ ((ref 0x01 22), (address_with 1 (key 0x01) (Some (key 0x16))), 1, []) ∷ []); accounts = (((key 0x10), 2, 0, (Some (pool 0x50)), (Some (drep.Registered (key 0x30)))) ∷ ((key 0x11), 2, 33, (Some (pool 0x50)), (Some (drep.Registered (key 0x31)))) ∷ ((key 0x12), 2, 0, None, None) ∷ []); pools = ((record { pool = (pool 0x50); deposit = 5; cost = 0; pledge = 0; margin = (share 0 1); account = (account_on 1 (key 0x12)); key = None }) ∷ []); dreps = (((key 0x30), 5, 20) ∷ ((key 0x31), 5, 20) ∷ []) }))) ∷
    (2, Read (records.Tx (record (spend 0x02 50) { proposals = ((proposing 10 (account_on 1 (key 0x10)) (actions.NoConfidence None)) ∷ []) }))) ∷
    (3, Read (records.Block 10 9)) ∷
    (4, Read (records.Print what.State)) ∷
    (5, Read (records.Tx (record (spend 0x03 62) { certs = ((certs.AccountUnreg (key 0x10) None) ∷ []) }))) ∷
    (6, Read (records.Block 20 9)) ∷
    (7, Read (records.Print what.State)) ∷
    (8, Read (records.Block 30 1)) ∷
    (9, Read (records.Tx (record (spend 0x04 60) { votes = ((voting (voter.Drep (key 0x31)) (action 0x02 0) vote.Yes) ∷ []) }))) ∷
    (10, Read (records.Block 40 1)) ∷
    (11, Read (records.Block 50 1)) ∷
    (12, Read (records.Print what.State)) ∷
    []

pub stake_of_those_that_left : says_all stake_of_those_that_left_input (
    codes "1 genesis outputs 309 deposits 21 rewards 33 fees 0 donations 0 treasury 100 reserves 537 supply 1000" ∷
    codes "2 accepted" ∷
    codes "3 epoch 1 frozen 4 dormant 0" ∷
    codes "3 stake k00000000000000000000000000000000000000000000000000000030 8" ∷
    codes "3 stake k00000000000000000000000000000000000000000000000000000031 33" ∷
    codes "3 pots outputs 249 deposits 31 rewards 33 fees 50 donations 0 treasury 100 reserves 537 supply 1000" ∷
    codes "3 block slot 10 epoch 1 counted 4 of 4" ∷
    codes "4 now slot 10 epoch 1 version 10.0 dormant 0" ∷
    codes "4 constitution 0000000000000000000000000000000000000000000000000000000000000001 none" ∷
    codes "4 committee threshold 0/1" ∷
    codes "4 member k00000000000000000000000000000000000000000000000000000070 term 100 hot k00000000000000000000000000000000000000000000000000000071" ∷
    codes "4 enacted committee none constitution none hardfork none parameters none" ∷
    codes "4 param maxBlockBodySize 90112" ∷
    codes "4 param maxTxSize 16384" ∷
    codes "4 param maxBlockHeaderSize 1100" ∷
    codes "4 param maxValueSize 5000" ∷
    codes "4 param maxTxExUnits 1000 1000" ∷
    codes "4 param maxBlockExUnits 1000 1000" ∷
    codes "4 param maxCollateralInputs 3" ∷
    codes "4 param minFeeA 0" ∷
    codes "4 param minFeeB 0" ∷
    codes "4 param keyDeposit 2" ∷
    codes "4 param poolDeposit 5" ∷
    codes "4 param rho 0/1" ∷
    codes "4 param tau 0/1" ∷
    codes "4 param minPoolCost 0" ∷
    codes "4 param coinsPerUTxOByte 0" ∷
    codes "4 param prices 0/1 0/1" ∷
    codes "4 param minFeeRefScriptCostPerByte 15/1" ∷
    codes "4 param a0 0/1" ∷
    codes "4 param eMax 18" ∷
    codes "4 param nOpt 500" ∷
    codes "4 param costModels 0000000000000000000000000000000000000000000000000000000000000000" ∷
    codes "4 param collateralPercentage 150" ∷
    codes "4 param poolVotingThresholds 0/1 0/1 0/1 0/1 0/1" ∷
    codes "4 param drepVotingThresholds 67/100 67/100 67/100 67/100 67/100 67/100 67/100 67/100 67/100 67/100" ∷
    codes "4 param govActionLifetime 4" ∷
    codes "4 param govActionDeposit 10" ∷
    codes "4 param drepDeposit 5" ∷
    codes "4 param drepActivity 20" ∷
    codes "4 param committeeMinSize 0" ∷
    codes "4 param committeeMaxTermLength 100" ∷
    codes "4 drep k00000000000000000000000000000000000000000000000000000030 deposit 5 expiry 20" ∷
    codes "4 drep k00000000000000000000000000000000000000000000000000000031 deposit 5 expiry 20" ∷
    codes "4 pool 00000000000000000000000000000000000000000000000000000050 deposit 5 cost 0 pledge 0 margin 0/1 account 1k00000000000000000000000000000000000000000000000000000012 retires never" ∷
    codes "4 account k00000000000000000000000000000000000000000000000000000010 stake 8 deposit 2 rewards 0 pool 00000000000000000000000000000000000000000000000000000050 drep k00000000000000000000000000000000000000000000000000000030" ∷
    codes "4 account k00000000000000000000000000000000000000000000000000000011 stake 0 deposit 2 rewards 33 pool 00000000000000000000000000000000000000000000000000000050 drep k00000000000000000000000000000000000000000000000000000031" ∷
    codes "4 account k00000000000000000000000000000000000000000000000000000012 stake 0 deposit 2 rewards 0 pool none drep none" ∷
    codes "4 account k00000000000000000000000000000000000000000000000000000016 stake 1 unregistered" ∷
    codes "4 output 0000000000000000000000000000000000000000000000000000000000000001#3 1k00000000000000000000000000000000000000000000000000000001 60" ∷
    codes "4 output 0000000000000000000000000000000000000000000000000000000000000001#4 1k00000000000000000000000000000000000000000000000000000001 60" ∷
    codes "4 output 0000000000000000000000000000000000000000000000000000000000000001#5 1k00000000000000000000000000000000000000000000000000000001 60" ∷
    codes "4 output 0000000000000000000000000000000000000000000000000000000000000001#6 1k00000000000000000000000000000000000000000000000000000001 60" ∷
    codes "4 output 0000000000000000000000000000000000000000000000000000000000000001#20 1k00000000000000000000000000000000000000000000000000000001+k00000000000000000000000000000000000000000000000000000010 8" ∷
    codes "4 output 0000000000000000000000000000000000000000000000000000000000000001#21 1k00000000000000000000000000000000000000000000000000000001+k00000000000000000000000000000000000000000000000000000015 0" ∷
    codes "4 output 0000000000000000000000000000000000000000000000000000000000000001#22 1k00000000000000000000000000000000000000000000000000000001+k00000000000000000000000000000000000000000000000000000016 1" ∷
    codes "4 proposal 0000000000000000000000000000000000000000000000000000000000000002#0 NoConfidence deposit 10 return 1k00000000000000000000000000000000000000000000000000000010 expires 4 previous none" ∷
    codes "4 snapshot mark 00000000000000000000000000000000000000000000000000000050 41" ∷
    codes "4 snapshot set 00000000000000000000000000000000000000000000000000000050 41" ∷
    codes "4 snapshot fees 50" ∷
    codes "4 pending none" ∷
    codes "4 pots outputs 249 deposits 31 rewards 33 fees 50 donations 0 treasury 100 reserves 537 supply 1000" ∷
    codes "5 accepted" ∷
    codes "6 epoch 2 frozen 4 dormant 0" ∷
    codes "6 stake k00000000000000000000000000000000000000000000000000000030 18" ∷
    codes "6 stake k00000000000000000000000000000000000000000000000000000031 33" ∷
    codes "6 tally 0000000000000000000000000000000000000000000000000000000000000002#0 NoConfidence committee 0/1 need none drep 0/51 need 67/100 pool 0/51 need 0/1 waiting" ∷
    codes "6 pots outputs 189 deposits 29 rewards 33 fees 112 donations 0 treasury 100 reserves 537 supply 1000" ∷
    codes "6 block slot 20 epoch 2 counted 4 of 4" ∷
    codes "7 now slot 20 epoch 2 version 10.0 dormant 0" ∷
    codes "7 constitution 0000000000000000000000000000000000000000000000000000000000000001 none" ∷
    codes "7 committee threshold 0/1" ∷
    codes "7 member k00000000000000000000000000000000000000000000000000000070 term 100 hot k00000000000000000000000000000000000000000000000000000071" ∷
    codes "7 enacted committee none constitution none hardfork none parameters none" ∷
    codes "7 param maxBlockBodySize 90112" ∷
    codes "7 param maxTxSize 16384" ∷
    codes "7 param maxBlockHeaderSize 1100" ∷
    codes "7 param maxValueSize 5000" ∷
    codes "7 param maxTxExUnits 1000 1000" ∷
    codes "7 param maxBlockExUnits 1000 1000" ∷
    codes "7 param maxCollateralInputs 3" ∷
    codes "7 param minFeeA 0" ∷
    codes "7 param minFeeB 0" ∷
    codes "7 param keyDeposit 2" ∷
    codes "7 param poolDeposit 5" ∷
    codes "7 param rho 0/1" ∷
    codes "7 param tau 0/1" ∷
    codes "7 param minPoolCost 0" ∷
    codes "7 param coinsPerUTxOByte 0" ∷
    codes "7 param prices 0/1 0/1" ∷
    codes "7 param minFeeRefScriptCostPerByte 15/1" ∷
    codes "7 param a0 0/1" ∷
    codes "7 param eMax 18" ∷
    codes "7 param nOpt 500" ∷
    codes "7 param costModels 0000000000000000000000000000000000000000000000000000000000000000" ∷
    codes "7 param collateralPercentage 150" ∷
    codes "7 param poolVotingThresholds 0/1 0/1 0/1 0/1 0/1" ∷
    codes "7 param drepVotingThresholds 67/100 67/100 67/100 67/100 67/100 67/100 67/100 67/100 67/100 67/100" ∷
    codes "7 param govActionLifetime 4" ∷
    codes "7 param govActionDeposit 10" ∷
    codes "7 param drepDeposit 5" ∷
    codes "7 param drepActivity 20" ∷
    codes "7 param committeeMinSize 0" ∷
    codes "7 param committeeMaxTermLength 100" ∷
    codes "7 drep k00000000000000000000000000000000000000000000000000000030 deposit 5 expiry 20" ∷
    codes "7 drep k00000000000000000000000000000000000000000000000000000031 deposit 5 expiry 20" ∷
    codes "7 pool 00000000000000000000000000000000000000000000000000000050 deposit 5 cost 0 pledge 0 margin 0/1 account 1k00000000000000000000000000000000000000000000000000000012 retires never" ∷
    codes "7 account k00000000000000000000000000000000000000000000000000000010 stake 8 unregistered" ∷
    codes "7 account k00000000000000000000000000000000000000000000000000000011 stake 0 deposit 2 rewards 33 pool 00000000000000000000000000000000000000000000000000000050 drep k00000000000000000000000000000000000000000000000000000031" ∷
    codes "7 account k00000000000000000000000000000000000000000000000000000012 stake 0 deposit 2 rewards 0 pool none drep none" ∷
    codes "7 account k00000000000000000000000000000000000000000000000000000016 stake 1 unregistered" ∷
    codes "7 output 0000000000000000000000000000000000000000000000000000000000000001#4 1k00000000000000000000000000000000000000000000000000000001 60" ∷
    codes "7 output 0000000000000000000000000000000000000000000000000000000000000001#5 1k00000000000000000000000000000000000000000000000000000001 60" ∷
    codes "7 output 0000000000000000000000000000000000000000000000000000000000000001#6 1k00000000000000000000000000000000000000000000000000000001 60" ∷
    codes "7 output 0000000000000000000000000000000000000000000000000000000000000001#20 1k00000000000000000000000000000000000000000000000000000001+k00000000000000000000000000000000000000000000000000000010 8" ∷
    codes "7 output 0000000000000000000000000000000000000000000000000000000000000001#21 1k00000000000000000000000000000000000000000000000000000001+k00000000000000000000000000000000000000000000000000000015 0" ∷
    codes "7 output 0000000000000000000000000000000000000000000000000000000000000001#22 1k00000000000000000000000000000000000000000000000000000001+k00000000000000000000000000000000000000000000000000000016 1" ∷
    codes "7 proposal 0000000000000000000000000000000000000000000000000000000000000002#0 NoConfidence deposit 10 return 1k00000000000000000000000000000000000000000000000000000010 expires 4 previous none" ∷
    codes "7 snapshot mark 00000000000000000000000000000000000000000000000000000050 33" ∷
    codes "7 snapshot set 00000000000000000000000000000000000000000000000000000050 41" ∷
    codes "7 snapshot go 00000000000000000000000000000000000000000000000000000050 41" ∷
    codes "7 snapshot fees 112" ∷
    codes "7 pending none" ∷
    codes "7 pots outputs 189 deposits 29 rewards 33 fees 112 donations 0 treasury 100 reserves 537 supply 1000" ∷
    codes "8 epoch 3 frozen 4 dormant 0" ∷
    codes "8 stake k00000000000000000000000000000000000000000000000000000031 33" ∷
    codes "8 tally 0000000000000000000000000000000000000000000000000000000000000002#0 NoConfidence committee 0/1 need none drep 0/33 need 67/100 pool 0/33 need 0/1 waiting" ∷
    codes "8 pots outputs 189 deposits 29 rewards 33 fees 112 donations 0 treasury 100 reserves 537 supply 1000" ∷
    codes "8 block slot 30 epoch 3 counted 1 of 4" ∷
    codes "9 accepted" ∷
    codes "10 epoch 4 frozen 4 dormant 0" ∷
    codes "10 stake k00000000000000000000000000000000000000000000000000000031 33" ∷
    codes "10 tally 0000000000000000000000000000000000000000000000000000000000000002#0 NoConfidence committee 0/1 need none drep 0/33 need 67/100 pool 0/33 need 0/1 waiting" ∷
    codes "10 pots outputs 129 deposits 29 rewards 33 fees 172 donations 0 treasury 100 reserves 537 supply 1000" ∷
    codes "10 block slot 40 epoch 4 counted 1 of 4" ∷
    codes "11 epoch 5 frozen 4 dormant 1" ∷
    codes "11 stake k00000000000000000000000000000000000000000000000000000031 33" ∷
    codes "11 tally 0000000000000000000000000000000000000000000000000000000000000002#0 NoConfidence committee 0/1 need none drep 33/33 need 67/100 pool 0/33 need 0/1 ratified" ∷
    codes "11 removed 0000000000000000000000000000000000000000000000000000000000000002#0 enacted refund 10 treasury" ∷
    codes "11 pots outputs 129 deposits 19 rewards 33 fees 172 donations 0 treasury 110 reserves 537 supply 1000" ∷
    codes "11 block slot 50 epoch 5 counted 1 of 4" ∷
    codes "12 now slot 50 epoch 5 version 10.0 dormant 1" ∷
    codes "12 constitution 0000000000000000000000000000000000000000000000000000000000000001 none" ∷
    codes "12 committee none" ∷
    codes "12 enacted committee 0000000000000000000000000000000000000000000000000000000000000002#0 constitution none hardfork none parameters none" ∷
    codes "12 param maxBlockBodySize 90112" ∷
    codes "12 param maxTxSize 16384" ∷
    codes "12 param maxBlockHeaderSize 1100" ∷
    codes "12 param maxValueSize 5000" ∷
    codes "12 param maxTxExUnits 1000 1000" ∷
    codes "12 param maxBlockExUnits 1000 1000" ∷
    codes "12 param maxCollateralInputs 3" ∷
    codes "12 param minFeeA 0" ∷
    codes "12 param minFeeB 0" ∷
    codes "12 param keyDeposit 2" ∷
    codes "12 param poolDeposit 5" ∷
    codes "12 param rho 0/1" ∷
    codes "12 param tau 0/1" ∷
    codes "12 param minPoolCost 0" ∷
    codes "12 param coinsPerUTxOByte 0" ∷
    codes "12 param prices 0/1 0/1" ∷
    codes "12 param minFeeRefScriptCostPerByte 15/1" ∷
    codes "12 param a0 0/1" ∷
    codes "12 param eMax 18" ∷
    codes "12 param nOpt 500" ∷
    codes "12 param costModels 0000000000000000000000000000000000000000000000000000000000000000" ∷
    codes "12 param collateralPercentage 150" ∷
    codes "12 param poolVotingThresholds 0/1 0/1 0/1 0/1 0/1" ∷
    codes "12 param drepVotingThresholds 67/100 67/100 67/100 67/100 67/100 67/100 67/100 67/100 67/100 67/100" ∷
    codes "12 param govActionLifetime 4" ∷
    codes "12 param govActionDeposit 10" ∷
    codes "12 param drepDeposit 5" ∷
    codes "12 param drepActivity 20" ∷
    codes "12 param committeeMinSize 0" ∷
    codes "12 param committeeMaxTermLength 100" ∷
    codes "12 drep k00000000000000000000000000000000000000000000000000000030 deposit 5 expiry 20" ∷
    codes "12 drep k00000000000000000000000000000000000000000000000000000031 deposit 5 expiry 23" ∷
    codes "12 pool 00000000000000000000000000000000000000000000000000000050 deposit 5 cost 0 pledge 0 margin 0/1 account 1k00000000000000000000000000000000000000000000000000000012 retires never" ∷
    codes "12 account k00000000000000000000000000000000000000000000000000000010 stake 8 unregistered" ∷
    codes "12 account k00000000000000000000000000000000000000000000000000000011 stake 0 deposit 2 rewards 33 pool 00000000000000000000000000000000000000000000000000000050 drep k00000000000000000000000000000000000000000000000000000031" ∷
    codes "12 account k00000000000000000000000000000000000000000000000000000012 stake 0 deposit 2 rewards 0 pool none drep none" ∷
    codes "12 account k00000000000000000000000000000000000000000000000000000016 stake 1 unregistered" ∷
    codes "12 output 0000000000000000000000000000000000000000000000000000000000000001#5 1k00000000000000000000000000000000000000000000000000000001 60" ∷
    codes "12 output 0000000000000000000000000000000000000000000000000000000000000001#6 1k00000000000000000000000000000000000000000000000000000001 60" ∷
    codes "12 output 0000000000000000000000000000000000000000000000000000000000000001#20 1k00000000000000000000000000000000000000000000000000000001+k00000000000000000000000000000000000000000000000000000010 8" ∷
    codes "12 output 0000000000000000000000000000000000000000000000000000000000000001#21 1k00000000000000000000000000000000000000000000000000000001+k00000000000000000000000000000000000000000000000000000015 0" ∷
    codes "12 output 0000000000000000000000000000000000000000000000000000000000000001#22 1k00000000000000000000000000000000000000000000000000000001+k00000000000000000000000000000000000000000000000000000016 1" ∷
    codes "12 snapshot mark 00000000000000000000000000000000000000000000000000000050 33" ∷
    codes "12 snapshot set 00000000000000000000000000000000000000000000000000000050 33" ∷
    codes "12 snapshot go 00000000000000000000000000000000000000000000000000000050 33" ∷
    codes "12 snapshot fees 172" ∷
    codes "12 pending none" ∷
    codes "12 pots outputs 129 deposits 19 rewards 33 fees 172 donations 0 treasury 110 reserves 537 supply 1000" ∷
    []) ≡ true
unfolding digits encode_with
stake_of_those_that_left = refl

abbrev dreps_at_their_last_epoch_input : List (ℕ × Reading)
dreps_at_their_last_epoch_input =
    (1, Read (records.Genesis (record { network = 1; slot = 0; epoch_length = 10; version = (10, 0); supply = 1000; reserves = 609; treasury = 100; params = (record base_params { gov_action_lifetime = 9 }); document = (h32 0x01); script = None; committee = (Some (record { threshold = (share 0 1); members = (((key 0x70), 100, (Some (key 0x71))) ∷ []) })); outputs = (((ref 0x01 2), (address_with 1 (key 0x01) None), 20, []) ∷ ((ref 0x01 3), (address_with 1 (key 0x01) None), 20, []) ∷ ((ref 0x01 4), (address_with 1 (key 0x01) None), 20, []) ∷ ((ref 0x01 5), (address_with 1 (key 0x01) None), 20, []) ∷ ((ref 0x01 6), (address_with 1 (key 0x01) None), 20, []) ∷ ((ref 0x01 7), (address_with 1 (key 0x01) None), 20, []) ∷ ((ref 0x01 9), (address_with 1 (key 0x01) (Some (key 0x11))), 40, []) ∷ []); accounts = (((key 0x10), 2, 67, None, (Some (drep.Registered (key 0x30)))) ∷ ((key 0x11), 2, 33, None, (Some (drep.Registered (key 0x31)))) ∷ ((key 0x12), 2, 5, None, (Some (drep.Registered (key 0x32)))) ∷ []); pools = ((record { pool = (pool 0x50); deposit = 5; cost = 0; pledge = 0; margin = (share 0 1); account = (account_on 1 (key 0x12)); key = None }) ∷ []); dreps = (((key 0x30), 5, 1) ∷ ((key 0x31), 5, 20) ∷ ((key 0x32), 5, 2) ∷ []) }))) ∷
    (2, Read (records.Tx (record (spend 0x02 10) { proposals = ((proposing 10 (account_on 1 (key 0x12)) (actions.NoConfidence None)) ∷ []) }))) ∷
    (3, Read (records.Block 10 1)) ∷
    (4, Read (records.Block 20 1)) ∷
    (5, Read (records.Block 30 1)) ∷
    (6, Read (records.Tx (record (spend 0x04 20) { certs = ((certs.DrepUpdate (key 0x30)) ∷ []); votes = ((voting (voter.Drep (key 0x32)) (action 0x02 0) vote.Yes) ∷ []) }))) ∷
    (7, Read (records.Block 40 1)) ∷
    (8, Read (records.Tx (record (spend 0x03 25) { certs = ((certs.DrepUnreg (key 0x32) None) ∷ []) }))) ∷
    (9, Read (records.Block 50 1)) ∷
    (10, Read (records.Block 60 1)) ∷
    []

pub dreps_at_their_last_epoch : says_all dreps_at_their_last_epoch_input (
    codes "1 genesis outputs 160 deposits 26 rewards 105 fees 0 donations 0 treasury 100 reserves 609 supply 1000" ∷
    codes "2 accepted" ∷
    codes "3 epoch 1 frozen 3 dormant 0" ∷
    codes "3 stake k00000000000000000000000000000000000000000000000000000030 67" ∷
    codes "3 stake k00000000000000000000000000000000000000000000000000000031 73" ∷
    codes "3 stake k00000000000000000000000000000000000000000000000000000032 5" ∷
    codes "3 pots outputs 140 deposits 36 rewards 105 fees 10 donations 0 treasury 100 reserves 609 supply 1000" ∷
    codes "3 block slot 10 epoch 1 counted 1 of 3" ∷
    codes "4 epoch 2 frozen 3 dormant 0" ∷
    codes "4 stake k00000000000000000000000000000000000000000000000000000030 67" ∷
    codes "4 stake k00000000000000000000000000000000000000000000000000000031 73" ∷
    codes "4 stake k00000000000000000000000000000000000000000000000000000032 15" ∷
    codes "4 tally 0000000000000000000000000000000000000000000000000000000000000002#0 NoConfidence committee 0/1 need none drep 0/155 need 67/100 pool 0/0 need 0/1 waiting" ∷
    codes "4 pots outputs 140 deposits 36 rewards 105 fees 10 donations 0 treasury 100 reserves 609 supply 1000" ∷
    codes "4 block slot 20 epoch 2 counted 1 of 3" ∷
    codes "5 epoch 3 frozen 3 dormant 0" ∷
    codes "5 stake k00000000000000000000000000000000000000000000000000000030 67" ∷
    codes "5 stake k00000000000000000000000000000000000000000000000000000031 73" ∷
    codes "5 stake k00000000000000000000000000000000000000000000000000000032 15" ∷
    codes "5 tally 0000000000000000000000000000000000000000000000000000000000000002#0 NoConfidence committee 0/1 need none drep 0/88 need 67/100 pool 0/0 need 0/1 waiting" ∷
    codes "5 pots outputs 140 deposits 36 rewards 105 fees 10 donations 0 treasury 100 reserves 609 supply 1000" ∷
    codes "5 block slot 30 epoch 3 counted 1 of 3" ∷
    codes "6 accepted" ∷
    codes "7 epoch 4 frozen 3 dormant 0" ∷
    codes "7 stake k00000000000000000000000000000000000000000000000000000030 67" ∷
    codes "7 stake k00000000000000000000000000000000000000000000000000000031 73" ∷
    codes "7 stake k00000000000000000000000000000000000000000000000000000032 15" ∷
    codes "7 tally 0000000000000000000000000000000000000000000000000000000000000002#0 NoConfidence committee 0/1 need none drep 0/73 need 67/100 pool 0/0 need 0/1 waiting" ∷
    codes "7 pots outputs 120 deposits 36 rewards 105 fees 30 donations 0 treasury 100 reserves 609 supply 1000" ∷
    codes "7 block slot 40 epoch 4 counted 1 of 3" ∷
    codes "8 accepted" ∷
    codes "9 epoch 5 frozen 3 dormant 0" ∷
    codes "9 stake k00000000000000000000000000000000000000000000000000000030 67" ∷
    codes "9 stake k00000000000000000000000000000000000000000000000000000031 73" ∷
    codes "9 stake k00000000000000000000000000000000000000000000000000000032 15" ∷
    codes "9 tally 0000000000000000000000000000000000000000000000000000000000000002#0 NoConfidence committee 0/1 need none drep 15/155 need 67/100 pool 0/0 need 0/1 waiting" ∷
    codes "9 pots outputs 100 deposits 31 rewards 105 fees 55 donations 0 treasury 100 reserves 609 supply 1000" ∷
    codes "9 block slot 50 epoch 5 counted 1 of 3" ∷
    codes "10 epoch 6 frozen 3 dormant 0" ∷
    codes "10 stake k00000000000000000000000000000000000000000000000000000030 67" ∷
    codes "10 stake k00000000000000000000000000000000000000000000000000000031 73" ∷
    codes "10 tally 0000000000000000000000000000000000000000000000000000000000000002#0 NoConfidence committee 0/1 need none drep 0/140 need 67/100 pool 0/0 need 0/1 waiting" ∷
    codes "10 pots outputs 100 deposits 31 rewards 105 fees 55 donations 0 treasury 100 reserves 609 supply 1000" ∷
    codes "10 block slot 60 epoch 6 counted 1 of 3" ∷
    []) ≡ true
unfolding digits encode_with
dreps_at_their_last_epoch = refl

abbrev dreps_by_name_and_kind_input : List (ℕ × Reading)
dreps_by_name_and_kind_input =
    (1, Read (records.Genesis (record { network = 1; slot = 0; epoch_length = 10; version = (10, 0); supply = 1000; reserves = 552; treasury = 100; params = (record base_params { gov_action_lifetime = 5 }); document = (h32 0x01); script = None; committee = (Some (record { threshold = (share 0 1); members = (((key 0x70), 100, (Some (key 0x71))) ∷ []) })); outputs = (((ref 0x01 2), (address_with 1 (key 0x01) None), 60, []) ∷ ((ref 0x01 3), (address_with 1 (key 0x01) None), 60, []) ∷ ((ref 0x01 4), (address_with 1 (key 0x01) None), 60, []) ∷ ((ref 0x01 5), (address_with 1 (key 0x01) None), 60, []) ∷ []); accounts = (((key 0x10), 2, 11, None, (Some drep.Abstain)) ∷ ((key 0x11), 2, 13, None, (Some drep.NoConfidence)) ∷ ((key 0x12), 2, 17, None, (Some (drep.Registered (key 0x30)))) ∷ ((key 0x13), 2, 19, None, (Some (drep.Registered (key 0x31)))) ∷ ((key 0x14), 2, 23, None, None) ∷ []); pools = ((record { pool = (pool 0x50); deposit = 5; cost = 0; pledge = 0; margin = (share 0 1); account = (account_on 1 (key 0x12)); key = None }) ∷ []); dreps = (((key 0x30), 5, 20) ∷ ((key 0x31), 5, 0) ∷ []) }))) ∷
    (2, Read (records.Tx (record (spend 0x02 10) { proposals = ((proposing 10 (account_on 1 (key 0x12)) (actions.NoConfidence None)) ∷ (proposing 10 (account_on 1 (key 0x12)) (actions.UpdateCommittee None [] [] (share 1 2))) ∷ (proposing 10 (account_on 1 (key 0x12)) (actions.NewConstitution None (h32 0x02) None)) ∷ (proposing 10 (account_on 1 (key 0x12)) (actions.TreasuryWithdrawals (((account_on 1 (key 0x12)), 1) ∷ []) None)) ∷ (proposing 10 (account_on 1 (key 0x12)) (actions.ParameterChange None (record no_update { n_opt = (Some 2) }) None)) ∷ []) }))) ∷
    (3, Read (records.Tx (record (spend 0x03 60) { votes = ((voting (voter.Drep (key 0x30)) (action 0x02 0) vote.Abstain) ∷ (voting (voter.Drep (key 0x30)) (action 0x02 1) vote.Yes) ∷ (voting (voter.Drep (key 0x31)) (action 0x02 1) vote.Yes) ∷ (voting (voter.Drep (key 0x31)) (action 0x02 0) vote.Yes) ∷ []) }))) ∷
    (4, Read (records.Block 10 1)) ∷
    (5, Read (records.Block 20 1)) ∷
    []

pub dreps_by_name_and_kind : says_all dreps_by_name_and_kind_input (
    codes "1 genesis outputs 240 deposits 25 rewards 83 fees 0 donations 0 treasury 100 reserves 552 supply 1000" ∷
    codes "2 accepted" ∷
    codes "3 accepted" ∷
    codes "4 epoch 1 frozen 5 dormant 0" ∷
    codes "4 stake k00000000000000000000000000000000000000000000000000000030 17" ∷
    codes "4 stake k00000000000000000000000000000000000000000000000000000031 19" ∷
    codes "4 stake abstain 11" ∷
    codes "4 stake no-confidence 13" ∷
    codes "4 pots outputs 120 deposits 75 rewards 83 fees 70 donations 0 treasury 100 reserves 552 supply 1000" ∷
    codes "4 block slot 10 epoch 1 counted 1 of 5" ∷
    codes "5 epoch 2 frozen 5 dormant 0" ∷
    codes "5 stake k00000000000000000000000000000000000000000000000000000030 67" ∷
    codes "5 stake k00000000000000000000000000000000000000000000000000000031 19" ∷
    codes "5 stake abstain 11" ∷
    codes "5 stake no-confidence 13" ∷
    codes "5 tally 0000000000000000000000000000000000000000000000000000000000000002#0 NoConfidence committee 0/1 need none drep 32/32 need 67/100 pool 0/0 need 0/1 ratified" ∷
    codes "5 tally 0000000000000000000000000000000000000000000000000000000000000002#1 UpdateCommittee committee 0/1 need none drep 86/99 need 67/100 pool 0/0 need 0/1 waiting" ∷
    codes "5 tally 0000000000000000000000000000000000000000000000000000000000000002#2 NewConstitution committee 0/1 need never drep 0/99 need 67/100 pool 0/0 need none waiting" ∷
    codes "5 tally 0000000000000000000000000000000000000000000000000000000000000002#4 ParameterChange committee 0/1 need never drep 0/99 need 67/100 pool 0/0 need none waiting" ∷
    codes "5 tally 0000000000000000000000000000000000000000000000000000000000000002#3 TreasuryWithdrawals committee 0/1 need never drep 0/99 need 67/100 pool 0/0 need none waiting" ∷
    codes "5 removed 0000000000000000000000000000000000000000000000000000000000000002#0 enacted refund 10 1k00000000000000000000000000000000000000000000000000000012" ∷
    codes "5 removed 0000000000000000000000000000000000000000000000000000000000000002#1 dropped refund 10 1k00000000000000000000000000000000000000000000000000000012" ∷
    codes "5 pots outputs 120 deposits 55 rewards 103 fees 70 donations 0 treasury 100 reserves 552 supply 1000" ∷
    codes "5 block slot 20 epoch 2 counted 1 of 5" ∷
    []) ≡ true
unfolding digits encode_with
dreps_by_name_and_kind = refl

abbrev new_pools_and_their_defaults_input : List (ℕ × Reading)
new_pools_and_their_defaults_input =
    (1, Read (records.Genesis (record { network = 1; slot = 0; epoch_length = 10; version = (10, 0); supply = 1000; reserves = 622; treasury = 100; params = base_params; document = (h32 0x01); script = None; committee = (Some (record { threshold = (share 0 1); members = (((key 0x70), 100, (Some (key 0x71))) ∷ []) })); outputs = (((ref 0x01 2), (address_with 1 (key 0x01) None), 40, []) ∷ ((ref 0x01 3), (address_with 1 (key 0x01) None), 40, []) ∷ ((ref 0x01 4), (address_with 1 (key 0x01) None), 40, []) ∷ ((ref 0x01 5), (address_with 1 (key 0x01) None), 40, []) ∷ ((ref 0x01 6), (address_with 1 (key 0x01) None), 40, []) ∷ ((ref 0x01 7), (address_with 1 (key 0x01) None), 40, []) ∷ ((ref 0x01 20), (address_with 1 (key 0x01) (Some (key 0x20))), 6, []) ∷ []); accounts = (((key 0x10), 2, 5, None, (Some drep.Abstain)) ∷ ((key 0x11), 2, 7, None, None) ∷ ((key 0x12), 2, 9, None, None) ∷ []); pools = ((record { pool = (pool 0x50); deposit = 5; cost = 0; pledge = 0; margin = (share 0 1); account = (account_on 1 (key 0x12)); key = None }) ∷ []); dreps = [] }))) ∷
    (2, Read (records.Tx (record (spend 0x02 30) { certs = ((certs.PoolReg (pool 0x51) 0 0 (share 0 1) (account_on 1 (key 0x10)) None) ∷ (certs.Delegate (key 0x10) (Some (pool 0x51)) None) ∷ (certs.PoolReg (pool 0x52) 0 0 (share 0 1) (account_on 1 (key 0x20)) None) ∷ (certs.Delegate (key 0x11) (Some (pool 0x52)) None) ∷ []) }))) ∷
    (3, Read (records.Tx (record (spend 0x03 30) { proposals = ((proposing 10 (account_on 1 (key 0x11)) (actions.NoConfidence None)) ∷ []) }))) ∷
    (4, Read (records.Block 10 1)) ∷
    (5, Read (records.Tx (record (spend 0x04 40) { certs = ((certs.Delegate (key 0x10) None (Some drep.NoConfidence)) ∷ []) }))) ∷
    (6, Read (records.Tx (record (spend 0x05 40) { certs = ((certs.PoolReg (pool 0x52) 0 0 (share 0 1) (account_on 1 (key 0x10)) None) ∷ []) }))) ∷
    (7, Read (records.Block 20 1)) ∷
    (8, Read (records.Block 30 1)) ∷
    (9, Read (records.Block 40 1)) ∷
    []

pub new_pools_and_their_defaults : says_all new_pools_and_their_defaults_input (
    codes "1 genesis outputs 246 deposits 11 rewards 21 fees 0 donations 0 treasury 100 reserves 622 supply 1000" ∷
    codes "2 accepted" ∷
    codes "3 accepted" ∷
    codes "4 epoch 1 frozen 4 dormant 0" ∷
    codes "4 stake abstain 5" ∷
    codes "4 pots outputs 166 deposits 31 rewards 21 fees 60 donations 0 treasury 100 reserves 622 supply 1000" ∷
    codes "4 block slot 10 epoch 1 counted 1 of 4" ∷
    codes "5 accepted" ∷
    codes "6 accepted" ∷
    codes "7 epoch 2 frozen 4 dormant 0" ∷
    codes "7 stake abstain 5" ∷
    codes "7 tally 0000000000000000000000000000000000000000000000000000000000000003#0 NoConfidence committee 0/1 need none drep 0/0 need 67/100 pool 0/17 need 0/1 waiting" ∷
    codes "7 pots outputs 86 deposits 31 rewards 21 fees 140 donations 0 treasury 100 reserves 622 supply 1000" ∷
    codes "7 block slot 20 epoch 2 counted 1 of 4" ∷
    codes "8 epoch 3 frozen 4 dormant 1" ∷
    codes "8 stake no-confidence 5" ∷
    codes "8 tally 0000000000000000000000000000000000000000000000000000000000000003#0 NoConfidence committee 0/1 need none drep 5/5 need 67/100 pool 22/22 need 0/1 ratified" ∷
    codes "8 removed 0000000000000000000000000000000000000000000000000000000000000003#0 enacted refund 10 1k00000000000000000000000000000000000000000000000000000011" ∷
    codes "8 pots outputs 86 deposits 21 rewards 31 fees 140 donations 0 treasury 100 reserves 622 supply 1000" ∷
    codes "8 block slot 30 epoch 3 counted 1 of 4" ∷
    codes "9 epoch 4 frozen 4 dormant 2" ∷
    codes "9 stake no-confidence 5" ∷
    codes "9 pots outputs 86 deposits 21 rewards 31 fees 140 donations 0 treasury 100 reserves 622 supply 1000" ∷
    codes "9 block slot 40 epoch 4 counted 1 of 4" ∷
    []) ≡ true
unfolding digits encode_with
new_pools_and_their_defaults = refl
