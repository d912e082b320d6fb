-- Worked rows of whole streams: certificates. Made by tests/made/rows_of, from the streams of these names in tests/streams/further.
use Rattle.std.specs.Prelude.{ℕ, ◌≡◌, List, [], ◌∷◌, Some, None, true, codes, refl}
use Rattle.std.specs.Fmt.{digits}
use Rattle.hex.specs.Hex.{encode_with}
use Rattle.gov_actions.specs.declared.action.Action.TheVariants as actions
use Rattle.gov_actions.specs.declared.action.Vote.TheVariants as vote
use Rattle.gov_ids.specs.declared.Drep.TheVariants as drep
use Rattle.gov_ids.specs.declared.Voter.TheVariants as voter
use Rattle.tx_records.specs.declared.record.Record.TheVariants as records
use Rattle.tx_records.specs.declared.cert.Cert.TheVariants as certs
use Rattle.tx_records.specs.declared.record.Reading.{Reading}
use Rattle.tx_records.specs.declared.record.Reading.TheVariants.{Read}
use Rattle.ledger_rows.proofs.Base.{h32, key, script, pool, account_on, address_with, ref, action, share, base_params, no_update, spend, proposing, voting}
use Rattle.certificate_model.specs.Checked.{certificates_of_readings}
use Rattle.further_rows.proofs.Texts.{is_text}

abbrev certificates_of_parts_input : List (ℕ × Reading)
certificates_of_parts_input =
    (1, Read (records.Genesis (record { network = 1; slot = 0; epoch_length = 10; version = (10, 0); supply = 1000; reserves = 565; treasury = 100; params = (record base_params { pool_voting_thresholds = ((share 1 2) ∷ (share 1 2) ∷ (share 1 2) ∷ (share 1 2) ∷ (share 1 2) ∷ []); drep_voting_thresholds = ((share 67 100) ∷ (share 67 100) ∷ (share 67 100) ∷ (share 67 100) ∷ (share 67 100) ∷ (share 1 2) ∷ (share 1 2) ∷ (share 1 2) ∷ (share 1 2) ∷ (share 1 2) ∷ []); gov_action_lifetime = 0 }); document = (h32 0x01); script = None; committee = (Some (record { threshold = (share 1 2); members = (((key 0x70), 100, (Some (key 0x71))) ∷ ((script 0x70), 0, (Some (key 0x71))) ∷ ((key 0x72), 100, (Some (key 0x73))) ∷ ((key 0x74), 100, None) ∷ ((key 0x76), 1, (Some (script 0x71))) ∷ []) })); outputs = (((ref 0x01 2), (address_with 1 (key 0x01) None), 20, []) ∷ ((ref 0x01 3), (address_with 1 (key 0x01) None), 20, []) ∷ ((ref 0x01 4), (address_with 1 (key 0x01) None), 20, []) ∷ ((ref 0x01 5), (address_with 1 (key 0x01) None), 20, []) ∷ ((ref 0x01 6), (address_with 1 (key 0x01) None), 20, []) ∷ ((ref 0x01 7), (address_with 1 (key 0x01) None), 20, []) ∷ ((ref 0x01 8), (address_with 1 (key 0x01) None), 20, []) ∷ ((ref 0x01 9), (address_with 1 (key 0x01) (Some (script 0x16))), 6, []) ∷ []); accounts = (((key 0x10), 2, 67, (Some (pool 0x50)), (Some (drep.Registered (key 0x30)))) ∷ ((key 0x11), 2, 33, (Some (pool 0x51)), (Some (drep.Registered (key 0x31)))) ∷ ((key 0x12), 2, 0, None, (Some (drep.Registered (key 0x32)))) ∷ ((key 0x13), 2, 7, (Some (pool 0x52)), (Some drep.Abstain)) ∷ ((key 0x14), 2, 11, (Some (pool 0x53)), (Some drep.NoConfidence)) ∷ ((script 0x10), 2, 3, (Some (pool 0x50)), (Some (drep.Registered (script 0x30)))) ∷ ((key 0x15), 2, 4, (Some (pool 0x51)), (Some (drep.Registered (key 0x33)))) ∷ []); pools = ((record { pool = (pool 0x50); deposit = 5; cost = 0; pledge = 0; margin = (share 0 1); account = (account_on 1 (key 0x12)); key = None }) ∷ (record { pool = (pool 0x51); deposit = 5; cost = 0; pledge = 0; margin = (share 0 1); account = (account_on 1 (key 0x13)); key = None }) ∷ (record { pool = (pool 0x52); deposit = 5; cost = 0; pledge = 0; margin = (share 0 1); account = (account_on 1 (key 0x14)); key = None }) ∷ (record { pool = (pool 0x53); deposit = 5; cost = 0; pledge = 0; margin = (share 0 1); account = (account_on 1 (key 0x14)); key = None }) ∷ (record { pool = (pool 0x54); deposit = 5; cost = 0; pledge = 0; margin = (share 0 1); account = (account_on 1 (key 0x11)); key = None }) ∷ []); dreps = (((key 0x30), 5, 20) ∷ ((key 0x31), 5, 20) ∷ ((key 0x32), 5, 20) ∷ ((script 0x30), 5, 20) ∷ ((key 0x33), 5, 0) ∷ []) }))) ∷
    (2, Read (records.Tx (record (spend 0x02 0) { proposals = ((proposing 10 (account_on 1 (key 0x10)) (actions.Info)) ∷ (proposing 10 (account_on 1 (script 0x10)) (actions.TreasuryWithdrawals (((account_on 1 (key 0x10)), 30) ∷ []) None)) ∷ []) }))) ∷
    (3, Read (records.Tx (record (spend 0x03 10) { certs = ((certs.PoolRetire (pool 0x53) 1) ∷ (certs.HotResign (key 0x72)) ∷ []); proposals = ((proposing 10 (account_on 1 (key 0x13)) (actions.NoConfidence None)) ∷ []) }))) ∷
    (4, Read (records.Tx (record (spend 0x04 20) { votes = ((voting (voter.Drep (key 0x30)) (action 0x02 1) vote.Yes) ∷ (voting (voter.Drep (key 0x31)) (action 0x02 1) vote.Abstain) ∷ (voting (voter.Committee (key 0x71)) (action 0x02 1) vote.Yes) ∷ (voting (voter.Pool (pool 0x50)) (action 0x03 0) vote.No) ∷ (voting (voter.Pool (pool 0x51)) (action 0x02 0) vote.Yes) ∷ (voting (voter.Committee (script 0x71)) (action 0x02 0) vote.Abstain) ∷ (voting (voter.Pool (pool 0x53)) (action 0x03 0) vote.Yes) ∷ []) }))) ∷
    (5, Read (records.Block 10 3)) ∷
    (6, Read (records.Tx (record (spend 0x05 20) { votes = ((voting (voter.Drep (key 0x31)) (action 0x02 1) vote.No) ∷ (voting (voter.Drep (script 0x30)) (action 0x02 1) vote.Yes) ∷ []) }))) ∷
    (7, Read (records.Block 20 1)) ∷
    []

pub certificates_of_parts : is_text (certificates_of_readings certificates_of_parts_input) (
    codes "certificate epoch 0 version 10.0 treasury 100" ∷
    codes "constitution 0000000000000000000000000000000000000000000000000000000000000001 none" ∷
    codes "committee threshold 1/2" ∷
    codes "member k00000000000000000000000000000000000000000000000000000070 term 100 hot k00000000000000000000000000000000000000000000000000000071" ∷
    codes "member s00000000000000000000000000000000000000000000000000000070 term 0 hot k00000000000000000000000000000000000000000000000000000071" ∷
    codes "member k00000000000000000000000000000000000000000000000000000072 term 100 hot k00000000000000000000000000000000000000000000000000000073" ∷
    codes "member k00000000000000000000000000000000000000000000000000000074 term 100 hot none" ∷
    codes "member k00000000000000000000000000000000000000000000000000000076 term 1 hot s00000000000000000000000000000000000000000000000000000071" ∷
    codes "enacted committee none constitution none hardfork none parameters none" ∷
    codes "param maxBlockBodySize 90112" ∷
    codes "param maxTxSize 16384" ∷
    codes "param maxBlockHeaderSize 1100" ∷
    codes "param maxValueSize 5000" ∷
    codes "param maxTxExUnits 1000 1000" ∷
    codes "param maxBlockExUnits 1000 1000" ∷
    codes "param maxCollateralInputs 3" ∷
    codes "param minFeeA 0" ∷
    codes "param minFeeB 0" ∷
    codes "param keyDeposit 2" ∷
    codes "param poolDeposit 5" ∷
    codes "param rho 0/1" ∷
    codes "param tau 0/1" ∷
    codes "param minPoolCost 0" ∷
    codes "param coinsPerUTxOByte 0" ∷
    codes "param prices 0/1 0/1" ∷
    codes "param minFeeRefScriptCostPerByte 15/1" ∷
    codes "param a0 0/1" ∷
    codes "param eMax 18" ∷
    codes "param nOpt 500" ∷
    codes "param costModels 0000000000000000000000000000000000000000000000000000000000000000" ∷
    codes "param collateralPercentage 150" ∷
    codes "param poolVotingThresholds 1/2 1/2 1/2 1/2 1/2" ∷
    codes "param drepVotingThresholds 67/100 67/100 67/100 67/100 67/100 1/2 1/2 1/2 1/2 1/2" ∷
    codes "param govActionLifetime 0" ∷
    codes "param govActionDeposit 10" ∷
    codes "param drepDeposit 5" ∷
    codes "param drepActivity 20" ∷
    codes "param committeeMinSize 0" ∷
    codes "param committeeMaxTermLength 100" ∷
    codes "drep k00000000000000000000000000000000000000000000000000000030 expiry 20" ∷
    codes "drep s00000000000000000000000000000000000000000000000000000030 expiry 20" ∷
    codes "drep k00000000000000000000000000000000000000000000000000000031 expiry 20" ∷
    codes "drep k00000000000000000000000000000000000000000000000000000032 expiry 20" ∷
    codes "drep k00000000000000000000000000000000000000000000000000000033 expiry 0" ∷
    codes "pool 00000000000000000000000000000000000000000000000000000050 account 1k00000000000000000000000000000000000000000000000000000012" ∷
    codes "pool 00000000000000000000000000000000000000000000000000000051 account 1k00000000000000000000000000000000000000000000000000000013" ∷
    codes "pool 00000000000000000000000000000000000000000000000000000052 account 1k00000000000000000000000000000000000000000000000000000014" ∷
    codes "pool 00000000000000000000000000000000000000000000000000000053 account 1k00000000000000000000000000000000000000000000000000000014" ∷
    codes "pool 00000000000000000000000000000000000000000000000000000054 account 1k00000000000000000000000000000000000000000000000000000011" ∷
    codes "mark 00000000000000000000000000000000000000000000000000000050 70" ∷
    codes "mark 00000000000000000000000000000000000000000000000000000051 37" ∷
    codes "mark 00000000000000000000000000000000000000000000000000000052 7" ∷
    codes "mark 00000000000000000000000000000000000000000000000000000053 11" ∷
    codes "mark 00000000000000000000000000000000000000000000000000000054 0" ∷
    codes "account k00000000000000000000000000000000000000000000000000000010 stake 0 deposit 2 rewards 67 pool 00000000000000000000000000000000000000000000000000000050 drep k00000000000000000000000000000000000000000000000000000030" ∷
    codes "account s00000000000000000000000000000000000000000000000000000010 stake 0 deposit 2 rewards 3 pool 00000000000000000000000000000000000000000000000000000050 drep s00000000000000000000000000000000000000000000000000000030" ∷
    codes "account k00000000000000000000000000000000000000000000000000000011 stake 0 deposit 2 rewards 33 pool 00000000000000000000000000000000000000000000000000000051 drep k00000000000000000000000000000000000000000000000000000031" ∷
    codes "account k00000000000000000000000000000000000000000000000000000012 stake 0 deposit 2 rewards 0 pool none drep k00000000000000000000000000000000000000000000000000000032" ∷
    codes "account k00000000000000000000000000000000000000000000000000000013 stake 0 deposit 2 rewards 7 pool 00000000000000000000000000000000000000000000000000000052 drep abstain" ∷
    codes "account k00000000000000000000000000000000000000000000000000000014 stake 0 deposit 2 rewards 11 pool 00000000000000000000000000000000000000000000000000000053 drep no-confidence" ∷
    codes "account k00000000000000000000000000000000000000000000000000000015 stake 0 deposit 2 rewards 4 pool 00000000000000000000000000000000000000000000000000000051 drep k00000000000000000000000000000000000000000000000000000033" ∷
    codes "account s00000000000000000000000000000000000000000000000000000016 stake 6 unregistered" ∷
    codes "stake k00000000000000000000000000000000000000000000000000000030 67" ∷
    codes "stake s00000000000000000000000000000000000000000000000000000030 3" ∷
    codes "stake k00000000000000000000000000000000000000000000000000000031 33" ∷
    codes "stake k00000000000000000000000000000000000000000000000000000033 4" ∷
    codes "stake abstain 7" ∷
    codes "stake no-confidence 11" ∷
    codes "end" ∷
    codes "certificate epoch 1 version 10.0 treasury 100" ∷
    codes "constitution 0000000000000000000000000000000000000000000000000000000000000001 none" ∷
    codes "committee threshold 1/2" ∷
    codes "member k00000000000000000000000000000000000000000000000000000070 term 100 hot k00000000000000000000000000000000000000000000000000000071" ∷
    codes "member s00000000000000000000000000000000000000000000000000000070 term 0 hot k00000000000000000000000000000000000000000000000000000071" ∷
    codes "member k00000000000000000000000000000000000000000000000000000072 term 100 hot resigned" ∷
    codes "member k00000000000000000000000000000000000000000000000000000074 term 100 hot none" ∷
    codes "member k00000000000000000000000000000000000000000000000000000076 term 1 hot s00000000000000000000000000000000000000000000000000000071" ∷
    codes "enacted committee none constitution none hardfork none parameters none" ∷
    codes "param maxBlockBodySize 90112" ∷
    codes "param maxTxSize 16384" ∷
    codes "param maxBlockHeaderSize 1100" ∷
    codes "param maxValueSize 5000" ∷
    codes "param maxTxExUnits 1000 1000" ∷
    codes "param maxBlockExUnits 1000 1000" ∷
    codes "param maxCollateralInputs 3" ∷
    codes "param minFeeA 0" ∷
    codes "param minFeeB 0" ∷
    codes "param keyDeposit 2" ∷
    codes "param poolDeposit 5" ∷
    codes "param rho 0/1" ∷
    codes "param tau 0/1" ∷
    codes "param minPoolCost 0" ∷
    codes "param coinsPerUTxOByte 0" ∷
    codes "param prices 0/1 0/1" ∷
    codes "param minFeeRefScriptCostPerByte 15/1" ∷
    codes "param a0 0/1" ∷
    codes "param eMax 18" ∷
    codes "param nOpt 500" ∷
    codes "param costModels 0000000000000000000000000000000000000000000000000000000000000000" ∷
    codes "param collateralPercentage 150" ∷
    codes "param poolVotingThresholds 1/2 1/2 1/2 1/2 1/2" ∷
    codes "param drepVotingThresholds 67/100 67/100 67/100 67/100 67/100 1/2 1/2 1/2 1/2 1/2" ∷
    codes "param govActionLifetime 0" ∷
    codes "param govActionDeposit 10" ∷
    codes "param drepDeposit 5" ∷
    codes "param drepActivity 20" ∷
    codes "param committeeMinSize 0" ∷
    codes "param committeeMaxTermLength 100" ∷
    codes "drep k00000000000000000000000000000000000000000000000000000030 expiry 20" ∷
    codes "drep s00000000000000000000000000000000000000000000000000000030 expiry 20" ∷
    codes "drep k00000000000000000000000000000000000000000000000000000031 expiry 20" ∷
    codes "drep k00000000000000000000000000000000000000000000000000000032 expiry 20" ∷
    codes "drep k00000000000000000000000000000000000000000000000000000033 expiry 0" ∷
    codes "pool 00000000000000000000000000000000000000000000000000000050 account 1k00000000000000000000000000000000000000000000000000000012" ∷
    codes "pool 00000000000000000000000000000000000000000000000000000051 account 1k00000000000000000000000000000000000000000000000000000013" ∷
    codes "pool 00000000000000000000000000000000000000000000000000000052 account 1k00000000000000000000000000000000000000000000000000000014" ∷
    codes "pool 00000000000000000000000000000000000000000000000000000053 account none" ∷
    codes "pool 00000000000000000000000000000000000000000000000000000054 account 1k00000000000000000000000000000000000000000000000000000011" ∷
    codes "mark 00000000000000000000000000000000000000000000000000000050 70" ∷
    codes "mark 00000000000000000000000000000000000000000000000000000051 37" ∷
    codes "mark 00000000000000000000000000000000000000000000000000000052 7" ∷
    codes "mark 00000000000000000000000000000000000000000000000000000053 11" ∷
    codes "mark 00000000000000000000000000000000000000000000000000000054 0" ∷
    codes "account k00000000000000000000000000000000000000000000000000000010 stake 0 deposit 2 rewards 67 pool 00000000000000000000000000000000000000000000000000000050 drep k00000000000000000000000000000000000000000000000000000030" ∷
    codes "account s00000000000000000000000000000000000000000000000000000010 stake 0 deposit 2 rewards 3 pool 00000000000000000000000000000000000000000000000000000050 drep s00000000000000000000000000000000000000000000000000000030" ∷
    codes "account k00000000000000000000000000000000000000000000000000000011 stake 0 deposit 2 rewards 33 pool 00000000000000000000000000000000000000000000000000000051 drep k00000000000000000000000000000000000000000000000000000031" ∷
    codes "account k00000000000000000000000000000000000000000000000000000012 stake 0 deposit 2 rewards 0 pool none drep k00000000000000000000000000000000000000000000000000000032" ∷
    codes "account k00000000000000000000000000000000000000000000000000000013 stake 0 deposit 2 rewards 7 pool 00000000000000000000000000000000000000000000000000000052 drep abstain" ∷
    codes "account k00000000000000000000000000000000000000000000000000000014 stake 0 deposit 2 rewards 16 pool none drep no-confidence" ∷
    codes "account k00000000000000000000000000000000000000000000000000000015 stake 0 deposit 2 rewards 4 pool 00000000000000000000000000000000000000000000000000000051 drep k00000000000000000000000000000000000000000000000000000033" ∷
    codes "account s00000000000000000000000000000000000000000000000000000016 stake 6 unregistered" ∷
    codes "proposal 0000000000000000000000000000000000000000000000000000000000000002#0 Info deposit 10 return 1k00000000000000000000000000000000000000000000000000000010 expires 0 previous none" ∷
    codes "vote 0000000000000000000000000000000000000000000000000000000000000002#0 committee:s00000000000000000000000000000000000000000000000000000071 abstain" ∷
    codes "vote 0000000000000000000000000000000000000000000000000000000000000002#0 pool:00000000000000000000000000000000000000000000000000000051 yes" ∷
    codes "action 0000000000000000000000000000000000000000000000000000000000000002#0 {\"type\":\"Info\"}" ∷
    codes "proposal 0000000000000000000000000000000000000000000000000000000000000002#1 TreasuryWithdrawals deposit 10 return 1s00000000000000000000000000000000000000000000000000000010 expires 0 previous none" ∷
    codes "vote 0000000000000000000000000000000000000000000000000000000000000002#1 committee:k00000000000000000000000000000000000000000000000000000071 yes" ∷
    codes "vote 0000000000000000000000000000000000000000000000000000000000000002#1 drep:k00000000000000000000000000000000000000000000000000000030 yes" ∷
    codes "vote 0000000000000000000000000000000000000000000000000000000000000002#1 drep:k00000000000000000000000000000000000000000000000000000031 abstain" ∷
    codes "action 0000000000000000000000000000000000000000000000000000000000000002#1 {\"type\":\"TreasuryWithdrawals\",\"targets\":[[\"1k00000000000000000000000000000000000000000000000000000010\",30]]}" ∷
    codes "proposal 0000000000000000000000000000000000000000000000000000000000000003#0 NoConfidence deposit 10 return 1k00000000000000000000000000000000000000000000000000000013 expires 0 previous none" ∷
    codes "vote 0000000000000000000000000000000000000000000000000000000000000003#0 pool:00000000000000000000000000000000000000000000000000000050 no" ∷
    codes "vote 0000000000000000000000000000000000000000000000000000000000000003#0 pool:00000000000000000000000000000000000000000000000000000053 yes" ∷
    codes "action 0000000000000000000000000000000000000000000000000000000000000003#0 {\"type\":\"NoConfidence\"}" ∷
    codes "stake k00000000000000000000000000000000000000000000000000000030 77" ∷
    codes "stake s00000000000000000000000000000000000000000000000000000030 13" ∷
    codes "stake k00000000000000000000000000000000000000000000000000000031 33" ∷
    codes "stake k00000000000000000000000000000000000000000000000000000033 4" ∷
    codes "stake abstain 17" ∷
    codes "stake no-confidence 16" ∷
    codes "part 0000000000000000000000000000000000000000000000000000000000000003#0 committee k00000000000000000000000000000000000000000000000000000070 1 no" ∷
    codes "part 0000000000000000000000000000000000000000000000000000000000000003#0 committee k00000000000000000000000000000000000000000000000000000076 1 no" ∷
    codes "part 0000000000000000000000000000000000000000000000000000000000000003#0 drep k00000000000000000000000000000000000000000000000000000030 77 no" ∷
    codes "part 0000000000000000000000000000000000000000000000000000000000000003#0 drep s00000000000000000000000000000000000000000000000000000030 13 no" ∷
    codes "part 0000000000000000000000000000000000000000000000000000000000000003#0 drep k00000000000000000000000000000000000000000000000000000031 33 no" ∷
    codes "part 0000000000000000000000000000000000000000000000000000000000000003#0 drep abstain 17 abstain" ∷
    codes "part 0000000000000000000000000000000000000000000000000000000000000003#0 drep no-confidence 16 yes" ∷
    codes "part 0000000000000000000000000000000000000000000000000000000000000003#0 pool 00000000000000000000000000000000000000000000000000000050 90 no" ∷
    codes "part 0000000000000000000000000000000000000000000000000000000000000003#0 pool 00000000000000000000000000000000000000000000000000000051 37 abstain" ∷
    codes "part 0000000000000000000000000000000000000000000000000000000000000003#0 pool 00000000000000000000000000000000000000000000000000000052 17 yes" ∷
    codes "part 0000000000000000000000000000000000000000000000000000000000000003#0 pool 00000000000000000000000000000000000000000000000000000053 11 yes" ∷
    codes "verdict 0000000000000000000000000000000000000000000000000000000000000003#0 NoConfidence committee 0/2 need none drep 16/139 need 67/100 pool 28/118 need 1/2 expired" ∷
    codes "part 0000000000000000000000000000000000000000000000000000000000000002#1 committee k00000000000000000000000000000000000000000000000000000070 1 yes" ∷
    codes "part 0000000000000000000000000000000000000000000000000000000000000002#1 committee k00000000000000000000000000000000000000000000000000000076 1 no" ∷
    codes "part 0000000000000000000000000000000000000000000000000000000000000002#1 drep k00000000000000000000000000000000000000000000000000000030 77 yes" ∷
    codes "part 0000000000000000000000000000000000000000000000000000000000000002#1 drep s00000000000000000000000000000000000000000000000000000030 13 no" ∷
    codes "part 0000000000000000000000000000000000000000000000000000000000000002#1 drep k00000000000000000000000000000000000000000000000000000031 33 abstain" ∷
    codes "part 0000000000000000000000000000000000000000000000000000000000000002#1 drep abstain 17 abstain" ∷
    codes "part 0000000000000000000000000000000000000000000000000000000000000002#1 drep no-confidence 16 no" ∷
    codes "part 0000000000000000000000000000000000000000000000000000000000000002#1 pool 00000000000000000000000000000000000000000000000000000050 90 no" ∷
    codes "part 0000000000000000000000000000000000000000000000000000000000000002#1 pool 00000000000000000000000000000000000000000000000000000051 37 abstain" ∷
    codes "part 0000000000000000000000000000000000000000000000000000000000000002#1 pool 00000000000000000000000000000000000000000000000000000052 17 no" ∷
    codes "part 0000000000000000000000000000000000000000000000000000000000000002#1 pool 00000000000000000000000000000000000000000000000000000053 11 no" ∷
    codes "verdict 0000000000000000000000000000000000000000000000000000000000000002#1 TreasuryWithdrawals committee 1/2 need 1/2 drep 77/106 need 1/2 pool 0/118 need none ratified" ∷
    codes "part 0000000000000000000000000000000000000000000000000000000000000002#0 committee k00000000000000000000000000000000000000000000000000000070 1 no" ∷
    codes "part 0000000000000000000000000000000000000000000000000000000000000002#0 committee k00000000000000000000000000000000000000000000000000000076 1 abstain" ∷
    codes "part 0000000000000000000000000000000000000000000000000000000000000002#0 drep k00000000000000000000000000000000000000000000000000000030 77 no" ∷
    codes "part 0000000000000000000000000000000000000000000000000000000000000002#0 drep s00000000000000000000000000000000000000000000000000000030 13 no" ∷
    codes "part 0000000000000000000000000000000000000000000000000000000000000002#0 drep k00000000000000000000000000000000000000000000000000000031 33 no" ∷
    codes "part 0000000000000000000000000000000000000000000000000000000000000002#0 drep abstain 17 abstain" ∷
    codes "part 0000000000000000000000000000000000000000000000000000000000000002#0 drep no-confidence 16 no" ∷
    codes "part 0000000000000000000000000000000000000000000000000000000000000002#0 pool 00000000000000000000000000000000000000000000000000000050 90 no" ∷
    codes "part 0000000000000000000000000000000000000000000000000000000000000002#0 pool 00000000000000000000000000000000000000000000000000000051 37 yes" ∷
    codes "part 0000000000000000000000000000000000000000000000000000000000000002#0 pool 00000000000000000000000000000000000000000000000000000052 17 no" ∷
    codes "part 0000000000000000000000000000000000000000000000000000000000000002#0 pool 00000000000000000000000000000000000000000000000000000053 11 no" ∷
    codes "verdict 0000000000000000000000000000000000000000000000000000000000000002#0 Info committee 0/1 need never drep 0/139 need never pool 37/155 need never expired" ∷
    codes "end" ∷
    []) ≡ true
unfolding digits encode_with
certificates_of_parts = refl

abbrev certificates_of_full_actions_input : List (ℕ × Reading)
certificates_of_full_actions_input =
    (1, Read (records.Genesis (record { network = 1; slot = 0; epoch_length = 10; version = (10, 0); supply = 1000; reserves = 579; treasury = 100; params = (record base_params { gov_action_lifetime = 9 }); document = (h32 0x01); script = None; committee = (Some (record { threshold = (share 0 1); members = (((key 0x70), 100, (Some (key 0x71))) ∷ []) })); outputs = (((ref 0x01 0), (address_with 1 (key 0x01) None), 20, []) ∷ ((ref 0x01 1), (address_with 1 (key 0x01) None), 20, []) ∷ ((ref 0x01 2), (address_with 1 (key 0x01) None), 20, []) ∷ ((ref 0x01 3), (address_with 1 (key 0x01) None), 20, []) ∷ ((ref 0x01 4), (address_with 1 (key 0x01) None), 20, []) ∷ ((ref 0x01 5), (address_with 1 (key 0x01) None), 20, []) ∷ ((ref 0x01 6), (address_with 1 (key 0x01) None), 20, []) ∷ ((ref 0x01 7), (address_with 1 (key 0x01) None), 20, []) ∷ ((ref 0x01 8), (address_with 1 (key 0x01) None), 20, []) ∷ ((ref 0x01 9), (address_with 1 (key 0x01) None), 20, []) ∷ []); accounts = (((key 0x10), 2, 67, None, (Some (drep.Registered (key 0x30)))) ∷ ((key 0x11), 2, 33, None, (Some (drep.Registered (key 0x31)))) ∷ ((key 0x12), 2, 0, None, None) ∷ []); pools = ((record { pool = (pool 0x50); deposit = 5; cost = 0; pledge = 0; margin = (share 0 1); account = (account_on 1 (key 0x12)); key = None }) ∷ []); dreps = (((key 0x30), 5, 20) ∷ ((key 0x31), 5, 20) ∷ []) }))) ∷
    (2, Read (records.Tx (record (spend 0x02 0) { proposals = ((proposing 10 (account_on 1 (key 0x12)) (actions.ParameterChange None (record no_update { max_block_body_size = (Some 1); max_tx_size = (Some 2); max_block_header_size = (Some 3); max_value_size = (Some 4); max_tx_ex_units = (Some (18446744073709551615, 0)); max_block_ex_units = (Some (6, 5)); max_collateral_inputs = (Some 65535); min_fee_a = (Some 8); min_fee_b = (Some 9); key_deposit = (Some 0); pool_deposit = (Some 11); rho = (Some (share 12 13)); tau = (Some (share 0 14)); min_pool_cost = (Some 15); coins_per_utxo_byte = (Some 16); prices = (Some ((share 17 1), (share 0 18))); min_fee_ref_script_cost_per_byte = (Some (share 19 20)); a0 = (Some (share 21 2)); e_max = (Some 4294967295); n_opt = (Some 23); cost_models = (Some (h32 0x24)); collateral_percentage = (Some 25); pool_voting_thresholds = (Some ((share 0 26) ∷ (share 1 26) ∷ (share 2 26) ∷ (share 3 26) ∷ (share 4 26) ∷ [])); drep_voting_thresholds = (Some ((share 0 27) ∷ (share 1 27) ∷ (share 2 27) ∷ (share 3 27) ∷ (share 4 27) ∷ (share 5 27) ∷ (share 6 27) ∷ (share 7 27) ∷ (share 8 27) ∷ (share 9 27) ∷ [])); gov_action_lifetime = (Some 28); gov_action_deposit = (Some 29); drep_deposit = (Some 30); drep_activity = (Some 31); committee_min_size = (Some 32); committee_max_term_length = (Some 33) }) None)) ∷ (proposing 10 (account_on 1 (key 0x12)) (actions.ParameterChange None (record no_update { e_max = (Some 0) }) None)) ∷ []) }))) ∷
    (3, Read (records.Tx (record (spend 0x03 0) { proposals = ((proposing 10 (account_on 1 (key 0x12)) (actions.ParameterChange (Some (action 0x02 1)) (record no_update { rho = (Some (share 2 4)) }) None)) ∷ (proposing 10 (account_on 1 (key 0x12)) (actions.Info)) ∷ []) }))) ∷
    (5, Read (records.Tx (record (spend 0x04 0) { proposals = ((proposing 10 (account_on 1 (key 0x12)) (actions.TreasuryWithdrawals (((account_on 1 (key 0x12)), 0) ∷ ((account_on 1 (key 0x10)), 5) ∷ ((account_on 1 (key 0x11)), 18446744073709551615) ∷ []) None)) ∷ (proposing 10 (account_on 1 (key 0x12)) (actions.NewConstitution None (0xAB ∷ 0xAB ∷ 0xAB ∷ 0xAB ∷ 0xAB ∷ 0xAB ∷ 0xAB ∷ 0xAB ∷ 0xAB ∷ 0xAB ∷ 0xAB ∷ 0xAB ∷ 0xAB ∷ 0xAB ∷ 0xAB ∷ 0xAB ∷ 0xAB ∷ 0xAB ∷ 0xAB ∷ 0xAB ∷ 0xAB ∷ 0xAB ∷ 0xAB ∷ 0xAB ∷ 0xAB ∷ 0xAB ∷ 0xAB ∷ 0xAB ∷ 0xAB ∷ 0xAB ∷ 0xAB ∷ 0xAB ∷ []) (Some (0xCd ∷ 0xCd ∷ 0xCd ∷ 0xCd ∷ 0xCd ∷ 0xCd ∷ 0xCd ∷ 0xCd ∷ 0xCd ∷ 0xCd ∷ 0xCd ∷ 0xCd ∷ 0xCd ∷ 0xCd ∷ 0xCd ∷ 0xCd ∷ 0xCd ∷ 0xCd ∷ 0xCd ∷ 0xCd ∷ 0xCd ∷ 0xCd ∷ 0xCd ∷ 0xCd ∷ 0xCd ∷ 0xCd ∷ 0xCd ∷ 0xCd ∷ [])))) ∷ []) }))) ∷
    (6, Read (records.Tx (record (spend 0x05 0) { proposals = ((proposing 10 (account_on 1 (key 0x12)) (actions.UpdateCommittee None ((script 0x02) ∷ (key 0x02) ∷ (key 0x01) ∷ []) (((script 0x09), 4611686018427387903) ∷ ((key 0x09), 1) ∷ []) (share 3 6))) ∷ (proposing 10 (account_on 1 (key 0x12)) (actions.UpdateCommittee None [] [] (share 0 1))) ∷ []) }))) ∷
    (7, Read (records.Tx (record (spend 0x06 0) { proposals = ((proposing 10 (account_on 1 (key 0x12)) (actions.HardForkInitiation None (11, 0))) ∷ (proposing 10 (account_on 1 (key 0x12)) (actions.NoConfidence None)) ∷ []) }))) ∷
    (8, Read (records.Tx (record (spend 0x07 0) { proposals = ((proposing 10 (account_on 1 (key 0x12)) (actions.HardForkInitiation (Some (action 0x06 0)) (11, 1))) ∷ (proposing 10 (account_on 1 (key 0x12)) (actions.UpdateCommittee (Some (action 0x05 1)) [] [] (share 1 1))) ∷ []) }))) ∷
    (9, Read (records.Block 10 1)) ∷
    (10, Read (records.Block 20 1)) ∷
    []

pub certificates_of_full_actions : is_text (certificates_of_readings certificates_of_full_actions_input) (
    codes "certificate epoch 0 version 10.0 treasury 100" ∷
    codes "constitution 0000000000000000000000000000000000000000000000000000000000000001 none" ∷
    codes "committee threshold 0/1" ∷
    codes "member k00000000000000000000000000000000000000000000000000000070 term 100 hot k00000000000000000000000000000000000000000000000000000071" ∷
    codes "enacted committee none constitution none hardfork none parameters none" ∷
    codes "param maxBlockBodySize 90112" ∷
    codes "param maxTxSize 16384" ∷
    codes "param maxBlockHeaderSize 1100" ∷
    codes "param maxValueSize 5000" ∷
    codes "param maxTxExUnits 1000 1000" ∷
    codes "param maxBlockExUnits 1000 1000" ∷
    codes "param maxCollateralInputs 3" ∷
    codes "param minFeeA 0" ∷
    codes "param minFeeB 0" ∷
    codes "param keyDeposit 2" ∷
    codes "param poolDeposit 5" ∷
    codes "param rho 0/1" ∷
    codes "param tau 0/1" ∷
    codes "param minPoolCost 0" ∷
    codes "param coinsPerUTxOByte 0" ∷
    codes "param prices 0/1 0/1" ∷
    codes "param minFeeRefScriptCostPerByte 15/1" ∷
    codes "param a0 0/1" ∷
    codes "param eMax 18" ∷
    codes "param nOpt 500" ∷
    codes "param costModels 0000000000000000000000000000000000000000000000000000000000000000" ∷
    codes "param collateralPercentage 150" ∷
    codes "param poolVotingThresholds 0/1 0/1 0/1 0/1 0/1" ∷
    codes "param drepVotingThresholds 67/100 67/100 67/100 67/100 67/100 67/100 67/100 67/100 67/100 67/100" ∷
    codes "param govActionLifetime 9" ∷
    codes "param govActionDeposit 10" ∷
    codes "param drepDeposit 5" ∷
    codes "param drepActivity 20" ∷
    codes "param committeeMinSize 0" ∷
    codes "param committeeMaxTermLength 100" ∷
    codes "drep k00000000000000000000000000000000000000000000000000000030 expiry 20" ∷
    codes "drep k00000000000000000000000000000000000000000000000000000031 expiry 20" ∷
    codes "pool 00000000000000000000000000000000000000000000000000000050 account 1k00000000000000000000000000000000000000000000000000000012" ∷
    codes "mark 00000000000000000000000000000000000000000000000000000050 0" ∷
    codes "account k00000000000000000000000000000000000000000000000000000010 stake 0 deposit 2 rewards 67 pool none drep k00000000000000000000000000000000000000000000000000000030" ∷
    codes "account k00000000000000000000000000000000000000000000000000000011 stake 0 deposit 2 rewards 33 pool none drep k00000000000000000000000000000000000000000000000000000031" ∷
    codes "account k00000000000000000000000000000000000000000000000000000012 stake 0 deposit 2 rewards 0 pool none drep none" ∷
    codes "stake k00000000000000000000000000000000000000000000000000000030 67" ∷
    codes "stake k00000000000000000000000000000000000000000000000000000031 33" ∷
    codes "end" ∷
    codes "certificate epoch 1 version 10.0 treasury 100" ∷
    codes "constitution 0000000000000000000000000000000000000000000000000000000000000001 none" ∷
    codes "committee threshold 0/1" ∷
    codes "member k00000000000000000000000000000000000000000000000000000070 term 100 hot k00000000000000000000000000000000000000000000000000000071" ∷
    codes "enacted committee none constitution none hardfork none parameters none" ∷
    codes "param maxBlockBodySize 90112" ∷
    codes "param maxTxSize 16384" ∷
    codes "param maxBlockHeaderSize 1100" ∷
    codes "param maxValueSize 5000" ∷
    codes "param maxTxExUnits 1000 1000" ∷
    codes "param maxBlockExUnits 1000 1000" ∷
    codes "param maxCollateralInputs 3" ∷
    codes "param minFeeA 0" ∷
    codes "param minFeeB 0" ∷
    codes "param keyDeposit 2" ∷
    codes "param poolDeposit 5" ∷
    codes "param rho 0/1" ∷
    codes "param tau 0/1" ∷
    codes "param minPoolCost 0" ∷
    codes "param coinsPerUTxOByte 0" ∷
    codes "param prices 0/1 0/1" ∷
    codes "param minFeeRefScriptCostPerByte 15/1" ∷
    codes "param a0 0/1" ∷
    codes "param eMax 18" ∷
    codes "param nOpt 500" ∷
    codes "param costModels 0000000000000000000000000000000000000000000000000000000000000000" ∷
    codes "param collateralPercentage 150" ∷
    codes "param poolVotingThresholds 0/1 0/1 0/1 0/1 0/1" ∷
    codes "param drepVotingThresholds 67/100 67/100 67/100 67/100 67/100 67/100 67/100 67/100 67/100 67/100" ∷
    codes "param govActionLifetime 9" ∷
    codes "param govActionDeposit 10" ∷
    codes "param drepDeposit 5" ∷
    codes "param drepActivity 20" ∷
    codes "param committeeMinSize 0" ∷
    codes "param committeeMaxTermLength 100" ∷
    codes "drep k00000000000000000000000000000000000000000000000000000030 expiry 20" ∷
    codes "drep k00000000000000000000000000000000000000000000000000000031 expiry 20" ∷
    codes "pool 00000000000000000000000000000000000000000000000000000050 account 1k00000000000000000000000000000000000000000000000000000012" ∷
    codes "mark 00000000000000000000000000000000000000000000000000000050 0" ∷
    codes "account k00000000000000000000000000000000000000000000000000000010 stake 0 deposit 2 rewards 67 pool none drep k00000000000000000000000000000000000000000000000000000030" ∷
    codes "account k00000000000000000000000000000000000000000000000000000011 stake 0 deposit 2 rewards 33 pool none drep k00000000000000000000000000000000000000000000000000000031" ∷
    codes "account k00000000000000000000000000000000000000000000000000000012 stake 0 deposit 2 rewards 0 pool none drep none" ∷
    codes "proposal 0000000000000000000000000000000000000000000000000000000000000002#0 ParameterChange deposit 10 return 1k00000000000000000000000000000000000000000000000000000012 expires 9 previous none" ∷
    codes "action 0000000000000000000000000000000000000000000000000000000000000002#0 {\"type\":\"ParameterChange\",\"update\":{\"maxBlockBodySize\":1,\"maxTxSize\":2,\"maxBlockHeaderSize\":3,\"maxValueSize\":4,\"maxTxExUnits\":[18446744073709551615,0],\"maxBlockExUnits\":[6,5],\"maxCollateralInputs\":65535,\"minFeeA\":8,\"minFeeB\":9,\"keyDeposit\":0,\"poolDeposit\":11,\"rho\":[12,13],\"tau\":[0,14],\"minPoolCost\":15,\"coinsPerUTxOByte\":16,\"prices\":[[17,1],[0,18]],\"minFeeRefScriptCostPerByte\":[19,20],\"a0\":[21,2],\"eMax\":4294967295,\"nOpt\":23,\"costModels\":\"0000000000000000000000000000000000000000000000000000000000000024\",\"collateralPercentage\":25,\"poolVotingThresholds\":[[0,26],[1,26],[2,26],[3,26],[4,26]],\"drepVotingThresholds\":[[0,27],[1,27],[2,27],[3,27],[4,27],[5,27],[6,27],[7,27],[8,27],[9,27]],\"govActionLifetime\":28,\"govActionDeposit\":29,\"drepDeposit\":30,\"drepActivity\":31,\"committeeMinSize\":32,\"committeeMaxTermLength\":33}}" ∷
    codes "proposal 0000000000000000000000000000000000000000000000000000000000000002#1 ParameterChange deposit 10 return 1k00000000000000000000000000000000000000000000000000000012 expires 9 previous none" ∷
    codes "action 0000000000000000000000000000000000000000000000000000000000000002#1 {\"type\":\"ParameterChange\",\"update\":{\"eMax\":0}}" ∷
    codes "proposal 0000000000000000000000000000000000000000000000000000000000000003#0 ParameterChange deposit 10 return 1k00000000000000000000000000000000000000000000000000000012 expires 9 previous 0000000000000000000000000000000000000000000000000000000000000002#1" ∷
    codes "action 0000000000000000000000000000000000000000000000000000000000000003#0 {\"type\":\"ParameterChange\",\"previous\":\"0000000000000000000000000000000000000000000000000000000000000002#1\",\"update\":{\"rho\":[2,4]}}" ∷
    codes "proposal 0000000000000000000000000000000000000000000000000000000000000003#1 Info deposit 10 return 1k00000000000000000000000000000000000000000000000000000012 expires 9 previous none" ∷
    codes "action 0000000000000000000000000000000000000000000000000000000000000003#1 {\"type\":\"Info\"}" ∷
    codes "proposal 0000000000000000000000000000000000000000000000000000000000000004#0 TreasuryWithdrawals deposit 10 return 1k00000000000000000000000000000000000000000000000000000012 expires 9 previous none" ∷
    codes "action 0000000000000000000000000000000000000000000000000000000000000004#0 {\"type\":\"TreasuryWithdrawals\",\"targets\":[[\"1k00000000000000000000000000000000000000000000000000000012\",0],[\"1k00000000000000000000000000000000000000000000000000000010\",5],[\"1k00000000000000000000000000000000000000000000000000000011\",18446744073709551615]]}" ∷
    codes "proposal 0000000000000000000000000000000000000000000000000000000000000004#1 NewConstitution deposit 10 return 1k00000000000000000000000000000000000000000000000000000012 expires 9 previous none" ∷
    codes "action 0000000000000000000000000000000000000000000000000000000000000004#1 {\"type\":\"NewConstitution\",\"document\":\"abababababababababababababababababababababababababababababababab\",\"script\":\"cdcdcdcdcdcdcdcdcdcdcdcdcdcdcdcdcdcdcdcdcdcdcdcdcdcdcdcd\"}" ∷
    codes "proposal 0000000000000000000000000000000000000000000000000000000000000005#0 UpdateCommittee deposit 10 return 1k00000000000000000000000000000000000000000000000000000012 expires 9 previous none" ∷
    codes "action 0000000000000000000000000000000000000000000000000000000000000005#0 {\"type\":\"UpdateCommittee\",\"remove\":[\"s00000000000000000000000000000000000000000000000000000002\",\"k00000000000000000000000000000000000000000000000000000002\",\"k00000000000000000000000000000000000000000000000000000001\"],\"add\":[[\"s00000000000000000000000000000000000000000000000000000009\",4611686018427387903],[\"k00000000000000000000000000000000000000000000000000000009\",1]],\"threshold\":[3,6]}" ∷
    codes "proposal 0000000000000000000000000000000000000000000000000000000000000005#1 UpdateCommittee deposit 10 return 1k00000000000000000000000000000000000000000000000000000012 expires 9 previous none" ∷
    codes "action 0000000000000000000000000000000000000000000000000000000000000005#1 {\"type\":\"UpdateCommittee\",\"remove\":[],\"add\":[],\"threshold\":[0,1]}" ∷
    codes "proposal 0000000000000000000000000000000000000000000000000000000000000006#0 HardForkInitiation deposit 10 return 1k00000000000000000000000000000000000000000000000000000012 expires 9 previous none" ∷
    codes "action 0000000000000000000000000000000000000000000000000000000000000006#0 {\"type\":\"HardForkInitiation\",\"version\":[11,0]}" ∷
    codes "proposal 0000000000000000000000000000000000000000000000000000000000000006#1 NoConfidence deposit 10 return 1k00000000000000000000000000000000000000000000000000000012 expires 9 previous none" ∷
    codes "action 0000000000000000000000000000000000000000000000000000000000000006#1 {\"type\":\"NoConfidence\"}" ∷
    codes "proposal 0000000000000000000000000000000000000000000000000000000000000007#0 HardForkInitiation deposit 10 return 1k00000000000000000000000000000000000000000000000000000012 expires 9 previous 0000000000000000000000000000000000000000000000000000000000000006#0" ∷
    codes "action 0000000000000000000000000000000000000000000000000000000000000007#0 {\"type\":\"HardForkInitiation\",\"previous\":\"0000000000000000000000000000000000000000000000000000000000000006#0\",\"version\":[11,1]}" ∷
    codes "proposal 0000000000000000000000000000000000000000000000000000000000000007#1 UpdateCommittee deposit 10 return 1k00000000000000000000000000000000000000000000000000000012 expires 9 previous 0000000000000000000000000000000000000000000000000000000000000005#1" ∷
    codes "action 0000000000000000000000000000000000000000000000000000000000000007#1 {\"type\":\"UpdateCommittee\",\"previous\":\"0000000000000000000000000000000000000000000000000000000000000005#1\",\"remove\":[],\"add\":[],\"threshold\":[1,1]}" ∷
    codes "stake k00000000000000000000000000000000000000000000000000000030 67" ∷
    codes "stake k00000000000000000000000000000000000000000000000000000031 33" ∷
    codes "part 0000000000000000000000000000000000000000000000000000000000000006#1 committee k00000000000000000000000000000000000000000000000000000070 1 no" ∷
    codes "part 0000000000000000000000000000000000000000000000000000000000000006#1 drep k00000000000000000000000000000000000000000000000000000030 67 no" ∷
    codes "part 0000000000000000000000000000000000000000000000000000000000000006#1 drep k00000000000000000000000000000000000000000000000000000031 33 no" ∷
    codes "verdict 0000000000000000000000000000000000000000000000000000000000000006#1 NoConfidence committee 0/1 need none drep 0/100 need 67/100 pool 0/0 need 0/1 waiting" ∷
    codes "part 0000000000000000000000000000000000000000000000000000000000000005#0 committee k00000000000000000000000000000000000000000000000000000070 1 no" ∷
    codes "part 0000000000000000000000000000000000000000000000000000000000000005#0 drep k00000000000000000000000000000000000000000000000000000030 67 no" ∷
    codes "part 0000000000000000000000000000000000000000000000000000000000000005#0 drep k00000000000000000000000000000000000000000000000000000031 33 no" ∷
    codes "verdict 0000000000000000000000000000000000000000000000000000000000000005#0 UpdateCommittee committee 0/1 need none drep 0/100 need 67/100 pool 0/0 need 0/1 waiting" ∷
    codes "part 0000000000000000000000000000000000000000000000000000000000000005#1 committee k00000000000000000000000000000000000000000000000000000070 1 no" ∷
    codes "part 0000000000000000000000000000000000000000000000000000000000000005#1 drep k00000000000000000000000000000000000000000000000000000030 67 no" ∷
    codes "part 0000000000000000000000000000000000000000000000000000000000000005#1 drep k00000000000000000000000000000000000000000000000000000031 33 no" ∷
    codes "verdict 0000000000000000000000000000000000000000000000000000000000000005#1 UpdateCommittee committee 0/1 need none drep 0/100 need 67/100 pool 0/0 need 0/1 waiting" ∷
    codes "part 0000000000000000000000000000000000000000000000000000000000000007#1 committee k00000000000000000000000000000000000000000000000000000070 1 no" ∷
    codes "part 0000000000000000000000000000000000000000000000000000000000000007#1 drep k00000000000000000000000000000000000000000000000000000030 67 no" ∷
    codes "part 0000000000000000000000000000000000000000000000000000000000000007#1 drep k00000000000000000000000000000000000000000000000000000031 33 no" ∷
    codes "verdict 0000000000000000000000000000000000000000000000000000000000000007#1 UpdateCommittee committee 0/1 need none drep 0/100 need 67/100 pool 0/0 need 0/1 waiting" ∷
    codes "part 0000000000000000000000000000000000000000000000000000000000000004#1 committee k00000000000000000000000000000000000000000000000000000070 1 no" ∷
    codes "part 0000000000000000000000000000000000000000000000000000000000000004#1 drep k00000000000000000000000000000000000000000000000000000030 67 no" ∷
    codes "part 0000000000000000000000000000000000000000000000000000000000000004#1 drep k00000000000000000000000000000000000000000000000000000031 33 no" ∷
    codes "verdict 0000000000000000000000000000000000000000000000000000000000000004#1 NewConstitution committee 0/1 need 0/1 drep 0/100 need 67/100 pool 0/0 need none waiting" ∷
    codes "part 0000000000000000000000000000000000000000000000000000000000000006#0 committee k00000000000000000000000000000000000000000000000000000070 1 no" ∷
    codes "part 0000000000000000000000000000000000000000000000000000000000000006#0 drep k00000000000000000000000000000000000000000000000000000030 67 no" ∷
    codes "part 0000000000000000000000000000000000000000000000000000000000000006#0 drep k00000000000000000000000000000000000000000000000000000031 33 no" ∷
    codes "verdict 0000000000000000000000000000000000000000000000000000000000000006#0 HardForkInitiation committee 0/1 need 0/1 drep 0/100 need 67/100 pool 0/0 need 0/1 waiting" ∷
    codes "part 0000000000000000000000000000000000000000000000000000000000000007#0 committee k00000000000000000000000000000000000000000000000000000070 1 no" ∷
    codes "part 0000000000000000000000000000000000000000000000000000000000000007#0 drep k00000000000000000000000000000000000000000000000000000030 67 no" ∷
    codes "part 0000000000000000000000000000000000000000000000000000000000000007#0 drep k00000000000000000000000000000000000000000000000000000031 33 no" ∷
    codes "verdict 0000000000000000000000000000000000000000000000000000000000000007#0 HardForkInitiation committee 0/1 need 0/1 drep 0/100 need 67/100 pool 0/0 need 0/1 waiting" ∷
    codes "part 0000000000000000000000000000000000000000000000000000000000000002#0 committee k00000000000000000000000000000000000000000000000000000070 1 no" ∷
    codes "part 0000000000000000000000000000000000000000000000000000000000000002#0 drep k00000000000000000000000000000000000000000000000000000030 67 no" ∷
    codes "part 0000000000000000000000000000000000000000000000000000000000000002#0 drep k00000000000000000000000000000000000000000000000000000031 33 no" ∷
    codes "verdict 0000000000000000000000000000000000000000000000000000000000000002#0 ParameterChange committee 0/1 need 0/1 drep 0/100 need 67/100 pool 0/0 need 0/1 waiting" ∷
    codes "part 0000000000000000000000000000000000000000000000000000000000000002#1 committee k00000000000000000000000000000000000000000000000000000070 1 no" ∷
    codes "part 0000000000000000000000000000000000000000000000000000000000000002#1 drep k00000000000000000000000000000000000000000000000000000030 67 no" ∷
    codes "part 0000000000000000000000000000000000000000000000000000000000000002#1 drep k00000000000000000000000000000000000000000000000000000031 33 no" ∷
    codes "verdict 0000000000000000000000000000000000000000000000000000000000000002#1 ParameterChange committee 0/1 need 0/1 drep 0/100 need 67/100 pool 0/0 need none waiting" ∷
    codes "part 0000000000000000000000000000000000000000000000000000000000000003#0 committee k00000000000000000000000000000000000000000000000000000070 1 no" ∷
    codes "part 0000000000000000000000000000000000000000000000000000000000000003#0 drep k00000000000000000000000000000000000000000000000000000030 67 no" ∷
    codes "part 0000000000000000000000000000000000000000000000000000000000000003#0 drep k00000000000000000000000000000000000000000000000000000031 33 no" ∷
    codes "verdict 0000000000000000000000000000000000000000000000000000000000000003#0 ParameterChange committee 0/1 need 0/1 drep 0/100 need 67/100 pool 0/0 need none waiting" ∷
    codes "part 0000000000000000000000000000000000000000000000000000000000000004#0 committee k00000000000000000000000000000000000000000000000000000070 1 no" ∷
    codes "part 0000000000000000000000000000000000000000000000000000000000000004#0 drep k00000000000000000000000000000000000000000000000000000030 67 no" ∷
    codes "part 0000000000000000000000000000000000000000000000000000000000000004#0 drep k00000000000000000000000000000000000000000000000000000031 33 no" ∷
    codes "verdict 0000000000000000000000000000000000000000000000000000000000000004#0 TreasuryWithdrawals committee 0/1 need 0/1 drep 0/100 need 67/100 pool 0/0 need none waiting" ∷
    codes "part 0000000000000000000000000000000000000000000000000000000000000003#1 committee k00000000000000000000000000000000000000000000000000000070 1 no" ∷
    codes "part 0000000000000000000000000000000000000000000000000000000000000003#1 drep k00000000000000000000000000000000000000000000000000000030 67 no" ∷
    codes "part 0000000000000000000000000000000000000000000000000000000000000003#1 drep k00000000000000000000000000000000000000000000000000000031 33 no" ∷
    codes "verdict 0000000000000000000000000000000000000000000000000000000000000003#1 Info committee 0/1 need never drep 0/100 need never pool 0/0 need never waiting" ∷
    codes "end" ∷
    []) ≡ true
unfolding digits encode_with
certificates_of_full_actions = refl

abbrev certificates_of_enacted_parameters_input : List (ℕ × Reading)
certificates_of_enacted_parameters_input =
    (1, Read (records.Genesis (record { network = 1; slot = 0; epoch_length = 10; version = (10, 0); supply = 1000; reserves = 579; treasury = 100; params = (record base_params { drep_voting_thresholds = ((share 0 1) ∷ (share 0 1) ∷ (share 0 1) ∷ (share 0 1) ∷ (share 0 1) ∷ (share 0 1) ∷ (share 0 1) ∷ (share 0 1) ∷ (share 0 1) ∷ (share 0 1) ∷ []) }); document = (h32 0x01); script = None; committee = (Some (record { threshold = (share 0 1); members = (((key 0x70), 100, (Some (key 0x71))) ∷ []) })); outputs = (((ref 0x01 0), (address_with 1 (key 0x01) None), 20, []) ∷ ((ref 0x01 1), (address_with 1 (key 0x01) None), 20, []) ∷ ((ref 0x01 2), (address_with 1 (key 0x01) None), 20, []) ∷ ((ref 0x01 3), (address_with 1 (key 0x01) None), 20, []) ∷ ((ref 0x01 4), (address_with 1 (key 0x01) None), 20, []) ∷ ((ref 0x01 5), (address_with 1 (key 0x01) None), 20, []) ∷ ((ref 0x01 6), (address_with 1 (key 0x01) None), 20, []) ∷ ((ref 0x01 7), (address_with 1 (key 0x01) None), 20, []) ∷ ((ref 0x01 8), (address_with 1 (key 0x01) None), 20, []) ∷ ((ref 0x01 9), (address_with 1 (key 0x01) None), 20, []) ∷ []); accounts = (((key 0x10), 2, 67, None, (Some (drep.Registered (key 0x30)))) ∷ ((key 0x11), 2, 33, None, (Some (drep.Registered (key 0x31)))) ∷ ((key 0x12), 2, 0, None, None) ∷ []); pools = ((record { pool = (pool 0x50); deposit = 5; cost = 0; pledge = 0; margin = (share 0 1); account = (account_on 1 (key 0x12)); key = None }) ∷ []); dreps = (((key 0x30), 5, 20) ∷ ((key 0x31), 5, 20) ∷ []) }))) ∷
    (2, Read (records.Tx (record (spend 0x02 0) { proposals = ((proposing 10 (account_on 1 (key 0x12)) (actions.TreasuryWithdrawals (((account_on 1 (key 0x12)), 60) ∷ []) None)) ∷ (proposing 10 (account_on 1 (key 0x12)) (actions.TreasuryWithdrawals (((account_on 1 (key 0x12)), 41) ∷ []) None)) ∷ []) }))) ∷
    (3, Read (records.Tx (record (spend 0x03 0) { proposals = ((proposing 10 (account_on 1 (key 0x12)) (actions.ParameterChange None (record no_update { drep_voting_thresholds = (Some ((share 1 10) ∷ (share 1 10) ∷ (share 1 10) ∷ (share 1 10) ∷ (share 1 10) ∷ (share 1 10) ∷ (share 1 10) ∷ (share 1 10) ∷ (share 1 10) ∷ (share 0 4) ∷ [])); committee_min_size = (Some 1) }) None)) ∷ (proposing 10 (account_on 1 (key 0x12)) (actions.ParameterChange None (record no_update { n_opt = (Some 9) }) None)) ∷ []) }))) ∷
    (4, Read (records.Block 10 1)) ∷
    (5, Read (records.Block 20 1)) ∷
    []

pub certificates_of_enacted_parameters : is_text (certificates_of_readings certificates_of_enacted_parameters_input) (
    codes "certificate epoch 0 version 10.0 treasury 100" ∷
    codes "constitution 0000000000000000000000000000000000000000000000000000000000000001 none" ∷
    codes "committee threshold 0/1" ∷
    codes "member k00000000000000000000000000000000000000000000000000000070 term 100 hot k00000000000000000000000000000000000000000000000000000071" ∷
    codes "enacted committee none constitution none hardfork none parameters none" ∷
    codes "param maxBlockBodySize 90112" ∷
    codes "param maxTxSize 16384" ∷
    codes "param maxBlockHeaderSize 1100" ∷
    codes "param maxValueSize 5000" ∷
    codes "param maxTxExUnits 1000 1000" ∷
    codes "param maxBlockExUnits 1000 1000" ∷
    codes "param maxCollateralInputs 3" ∷
    codes "param minFeeA 0" ∷
    codes "param minFeeB 0" ∷
    codes "param keyDeposit 2" ∷
    codes "param poolDeposit 5" ∷
    codes "param rho 0/1" ∷
    codes "param tau 0/1" ∷
    codes "param minPoolCost 0" ∷
    codes "param coinsPerUTxOByte 0" ∷
    codes "param prices 0/1 0/1" ∷
    codes "param minFeeRefScriptCostPerByte 15/1" ∷
    codes "param a0 0/1" ∷
    codes "param eMax 18" ∷
    codes "param nOpt 500" ∷
    codes "param costModels 0000000000000000000000000000000000000000000000000000000000000000" ∷
    codes "param collateralPercentage 150" ∷
    codes "param poolVotingThresholds 0/1 0/1 0/1 0/1 0/1" ∷
    codes "param drepVotingThresholds 0/1 0/1 0/1 0/1 0/1 0/1 0/1 0/1 0/1 0/1" ∷
    codes "param govActionLifetime 2" ∷
    codes "param govActionDeposit 10" ∷
    codes "param drepDeposit 5" ∷
    codes "param drepActivity 20" ∷
    codes "param committeeMinSize 0" ∷
    codes "param committeeMaxTermLength 100" ∷
    codes "drep k00000000000000000000000000000000000000000000000000000030 expiry 20" ∷
    codes "drep k00000000000000000000000000000000000000000000000000000031 expiry 20" ∷
    codes "pool 00000000000000000000000000000000000000000000000000000050 account 1k00000000000000000000000000000000000000000000000000000012" ∷
    codes "mark 00000000000000000000000000000000000000000000000000000050 0" ∷
    codes "account k00000000000000000000000000000000000000000000000000000010 stake 0 deposit 2 rewards 67 pool none drep k00000000000000000000000000000000000000000000000000000030" ∷
    codes "account k00000000000000000000000000000000000000000000000000000011 stake 0 deposit 2 rewards 33 pool none drep k00000000000000000000000000000000000000000000000000000031" ∷
    codes "account k00000000000000000000000000000000000000000000000000000012 stake 0 deposit 2 rewards 0 pool none drep none" ∷
    codes "stake k00000000000000000000000000000000000000000000000000000030 67" ∷
    codes "stake k00000000000000000000000000000000000000000000000000000031 33" ∷
    codes "end" ∷
    codes "certificate epoch 1 version 10.0 treasury 100" ∷
    codes "constitution 0000000000000000000000000000000000000000000000000000000000000001 none" ∷
    codes "committee threshold 0/1" ∷
    codes "member k00000000000000000000000000000000000000000000000000000070 term 100 hot k00000000000000000000000000000000000000000000000000000071" ∷
    codes "enacted committee none constitution none hardfork none parameters none" ∷
    codes "param maxBlockBodySize 90112" ∷
    codes "param maxTxSize 16384" ∷
    codes "param maxBlockHeaderSize 1100" ∷
    codes "param maxValueSize 5000" ∷
    codes "param maxTxExUnits 1000 1000" ∷
    codes "param maxBlockExUnits 1000 1000" ∷
    codes "param maxCollateralInputs 3" ∷
    codes "param minFeeA 0" ∷
    codes "param minFeeB 0" ∷
    codes "param keyDeposit 2" ∷
    codes "param poolDeposit 5" ∷
    codes "param rho 0/1" ∷
    codes "param tau 0/1" ∷
    codes "param minPoolCost 0" ∷
    codes "param coinsPerUTxOByte 0" ∷
    codes "param prices 0/1 0/1" ∷
    codes "param minFeeRefScriptCostPerByte 15/1" ∷
    codes "param a0 0/1" ∷
    codes "param eMax 18" ∷
    codes "param nOpt 500" ∷
    codes "param costModels 0000000000000000000000000000000000000000000000000000000000000000" ∷
    codes "param collateralPercentage 150" ∷
    codes "param poolVotingThresholds 0/1 0/1 0/1 0/1 0/1" ∷
    codes "param drepVotingThresholds 0/1 0/1 0/1 0/1 0/1 0/1 0/1 0/1 0/1 0/1" ∷
    codes "param govActionLifetime 2" ∷
    codes "param govActionDeposit 10" ∷
    codes "param drepDeposit 5" ∷
    codes "param drepActivity 20" ∷
    codes "param committeeMinSize 0" ∷
    codes "param committeeMaxTermLength 100" ∷
    codes "drep k00000000000000000000000000000000000000000000000000000030 expiry 20" ∷
    codes "drep k00000000000000000000000000000000000000000000000000000031 expiry 20" ∷
    codes "pool 00000000000000000000000000000000000000000000000000000050 account 1k00000000000000000000000000000000000000000000000000000012" ∷
    codes "mark 00000000000000000000000000000000000000000000000000000050 0" ∷
    codes "account k00000000000000000000000000000000000000000000000000000010 stake 0 deposit 2 rewards 67 pool none drep k00000000000000000000000000000000000000000000000000000030" ∷
    codes "account k00000000000000000000000000000000000000000000000000000011 stake 0 deposit 2 rewards 33 pool none drep k00000000000000000000000000000000000000000000000000000031" ∷
    codes "account k00000000000000000000000000000000000000000000000000000012 stake 0 deposit 2 rewards 0 pool none drep none" ∷
    codes "proposal 0000000000000000000000000000000000000000000000000000000000000002#0 TreasuryWithdrawals deposit 10 return 1k00000000000000000000000000000000000000000000000000000012 expires 2 previous none" ∷
    codes "action 0000000000000000000000000000000000000000000000000000000000000002#0 {\"type\":\"TreasuryWithdrawals\",\"targets\":[[\"1k00000000000000000000000000000000000000000000000000000012\",60]]}" ∷
    codes "proposal 0000000000000000000000000000000000000000000000000000000000000002#1 TreasuryWithdrawals deposit 10 return 1k00000000000000000000000000000000000000000000000000000012 expires 2 previous none" ∷
    codes "action 0000000000000000000000000000000000000000000000000000000000000002#1 {\"type\":\"TreasuryWithdrawals\",\"targets\":[[\"1k00000000000000000000000000000000000000000000000000000012\",41]]}" ∷
    codes "proposal 0000000000000000000000000000000000000000000000000000000000000003#0 ParameterChange deposit 10 return 1k00000000000000000000000000000000000000000000000000000012 expires 2 previous none" ∷
    codes "action 0000000000000000000000000000000000000000000000000000000000000003#0 {\"type\":\"ParameterChange\",\"update\":{\"drepVotingThresholds\":[[1,10],[1,10],[1,10],[1,10],[1,10],[1,10],[1,10],[1,10],[1,10],[0,4]],\"committeeMinSize\":1}}" ∷
    codes "proposal 0000000000000000000000000000000000000000000000000000000000000003#1 ParameterChange deposit 10 return 1k00000000000000000000000000000000000000000000000000000012 expires 2 previous none" ∷
    codes "action 0000000000000000000000000000000000000000000000000000000000000003#1 {\"type\":\"ParameterChange\",\"update\":{\"nOpt\":9}}" ∷
    codes "stake k00000000000000000000000000000000000000000000000000000030 67" ∷
    codes "stake k00000000000000000000000000000000000000000000000000000031 33" ∷
    codes "part 0000000000000000000000000000000000000000000000000000000000000003#0 committee k00000000000000000000000000000000000000000000000000000070 1 no" ∷
    codes "part 0000000000000000000000000000000000000000000000000000000000000003#0 drep k00000000000000000000000000000000000000000000000000000030 67 no" ∷
    codes "part 0000000000000000000000000000000000000000000000000000000000000003#0 drep k00000000000000000000000000000000000000000000000000000031 33 no" ∷
    codes "verdict 0000000000000000000000000000000000000000000000000000000000000003#0 ParameterChange committee 0/1 need 0/1 drep 0/100 need 0/1 pool 0/0 need none ratified" ∷
    codes "part 0000000000000000000000000000000000000000000000000000000000000003#1 committee k00000000000000000000000000000000000000000000000000000070 1 no" ∷
    codes "part 0000000000000000000000000000000000000000000000000000000000000003#1 drep k00000000000000000000000000000000000000000000000000000030 67 no" ∷
    codes "part 0000000000000000000000000000000000000000000000000000000000000003#1 drep k00000000000000000000000000000000000000000000000000000031 33 no" ∷
    codes "verdict 0000000000000000000000000000000000000000000000000000000000000003#1 ParameterChange committee 0/1 need 0/1 drep 0/100 need 1/10 pool 0/0 need none waiting" ∷
    codes "part 0000000000000000000000000000000000000000000000000000000000000002#0 committee k00000000000000000000000000000000000000000000000000000070 1 no" ∷
    codes "part 0000000000000000000000000000000000000000000000000000000000000002#0 drep k00000000000000000000000000000000000000000000000000000030 67 no" ∷
    codes "part 0000000000000000000000000000000000000000000000000000000000000002#0 drep k00000000000000000000000000000000000000000000000000000031 33 no" ∷
    codes "verdict 0000000000000000000000000000000000000000000000000000000000000002#0 TreasuryWithdrawals committee 0/1 need 0/1 drep 0/100 need 0/4 pool 0/0 need none ratified" ∷
    codes "part 0000000000000000000000000000000000000000000000000000000000000002#1 committee k00000000000000000000000000000000000000000000000000000070 1 no" ∷
    codes "part 0000000000000000000000000000000000000000000000000000000000000002#1 drep k00000000000000000000000000000000000000000000000000000030 67 no" ∷
    codes "part 0000000000000000000000000000000000000000000000000000000000000002#1 drep k00000000000000000000000000000000000000000000000000000031 33 no" ∷
    codes "verdict 0000000000000000000000000000000000000000000000000000000000000002#1 TreasuryWithdrawals committee 0/1 need 0/1 drep 0/100 need 0/4 pool 0/0 need none waiting" ∷
    codes "end" ∷
    []) ≡ true
unfolding digits encode_with
certificates_of_enacted_parameters = refl

abbrev certificates_of_no_boundary_input : List (ℕ × Reading)
certificates_of_no_boundary_input =
    (1, Read (records.Genesis (record { network = 1; slot = 0; epoch_length = 10; version = (10, 0); supply = 1000; reserves = 579; treasury = 100; params = base_params; document = (h32 0x01); script = None; committee = (Some (record { threshold = (share 0 1); members = (((key 0x70), 100, (Some (key 0x71))) ∷ []) })); outputs = (((ref 0x01 0), (address_with 1 (key 0x01) None), 20, []) ∷ ((ref 0x01 1), (address_with 1 (key 0x01) None), 20, []) ∷ ((ref 0x01 2), (address_with 1 (key 0x01) None), 20, []) ∷ ((ref 0x01 3), (address_with 1 (key 0x01) None), 20, []) ∷ ((ref 0x01 4), (address_with 1 (key 0x01) None), 20, []) ∷ ((ref 0x01 5), (address_with 1 (key 0x01) None), 20, []) ∷ ((ref 0x01 6), (address_with 1 (key 0x01) None), 20, []) ∷ ((ref 0x01 7), (address_with 1 (key 0x01) None), 20, []) ∷ ((ref 0x01 8), (address_with 1 (key 0x01) None), 20, []) ∷ ((ref 0x01 9), (address_with 1 (key 0x01) None), 20, []) ∷ []); accounts = (((key 0x10), 2, 67, None, (Some (drep.Registered (key 0x30)))) ∷ ((key 0x11), 2, 33, None, (Some (drep.Registered (key 0x31)))) ∷ ((key 0x12), 2, 0, None, None) ∷ []); pools = ((record { pool = (pool 0x50); deposit = 5; cost = 0; pledge = 0; margin = (share 0 1); account = (account_on 1 (key 0x12)); key = None }) ∷ []); dreps = (((key 0x30), 5, 20) ∷ ((key 0x31), 5, 20) ∷ []) }))) ∷
    (2, Read (records.Block 1 1)) ∷
    (3, Read (records.Block 9 1)) ∷
    []

pub certificates_of_no_boundary : is_text (certificates_of_readings certificates_of_no_boundary_input) (
    []) ≡ true
unfolding digits encode_with
certificates_of_no_boundary = refl

abbrev certificates_of_refused_blocks_input : List (ℕ × Reading)
certificates_of_refused_blocks_input =
    (1, Read (records.Genesis (record { network = 1; slot = 0; epoch_length = 10; version = (10, 0); supply = 1000; reserves = 579; treasury = 100; params = base_params; document = (h32 0x01); script = None; committee = (Some (record { threshold = (share 0 1); members = (((key 0x70), 100, (Some (key 0x71))) ∷ []) })); outputs = (((ref 0x01 0), (address_with 1 (key 0x01) None), 20, []) ∷ ((ref 0x01 1), (address_with 1 (key 0x01) None), 20, []) ∷ ((ref 0x01 2), (address_with 1 (key 0x01) None), 20, []) ∷ ((ref 0x01 3), (address_with 1 (key 0x01) None), 20, []) ∷ ((ref 0x01 4), (address_with 1 (key 0x01) None), 20, []) ∷ ((ref 0x01 5), (address_with 1 (key 0x01) None), 20, []) ∷ ((ref 0x01 6), (address_with 1 (key 0x01) None), 20, []) ∷ ((ref 0x01 7), (address_with 1 (key 0x01) None), 20, []) ∷ ((ref 0x01 8), (address_with 1 (key 0x01) None), 20, []) ∷ ((ref 0x01 9), (address_with 1 (key 0x01) None), 20, []) ∷ []); accounts = (((key 0x10), 2, 67, None, (Some (drep.Registered (key 0x30)))) ∷ ((key 0x11), 2, 33, None, (Some (drep.Registered (key 0x31)))) ∷ ((key 0x12), 2, 0, None, None) ∷ []); pools = ((record { pool = (pool 0x50); deposit = 5; cost = 0; pledge = 0; margin = (share 0 1); account = (account_on 1 (key 0x12)); key = None }) ∷ []); dreps = (((key 0x30), 5, 20) ∷ ((key 0x31), 5, 20) ∷ []) }))) ∷
    (2, Read (records.Block 20 1)) ∷
    (3, Read (records.Block 10 0)) ∷
    (4, Read (records.Block 9 1)) ∷
    []

pub certificates_of_refused_blocks : is_text (certificates_of_readings certificates_of_refused_blocks_input) (
    []) ≡ true
unfolding digits encode_with
certificates_of_refused_blocks = refl
