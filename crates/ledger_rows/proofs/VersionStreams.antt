-- Worked rows of whole streams: when the rules of version 11 begin. Made by tests/made/rows_of, from the streams of these names in tests/streams/whole.
use Rattle.std.specs.Prelude.{ℕ, ◌≡◌, List, [], ◌∷◌, Some, None, true, codes, refl}
use Rattle.std.specs.Fmt.{digits}
use Rattle.hex.specs.Hex.{encode_with}
use Rattle.gov_actions.specs.declared.action.Action.TheVariants as actions
use Rattle.gov_actions.specs.declared.action.Vote.TheVariants as vote
use Rattle.gov_ids.specs.declared.Drep.TheVariants as drep
use Rattle.gov_ids.specs.declared.Voter.TheVariants as voter
use Rattle.tx_records.specs.declared.record.Record.TheVariants as records
use Rattle.tx_records.specs.declared.record.What.TheVariants as what
use Rattle.tx_records.specs.declared.cert.Cert.TheVariants as certs
use Rattle.tx_records.specs.declared.record.Reading.{Reading}
use Rattle.tx_records.specs.declared.record.Reading.TheVariants.{Read}
use Rattle.ledger_rows.proofs.Base.{h32, key, pool, account_on, address_with, ref, action, share, base_params, spend, proposing, voting, says_all}

abbrev version_ten_nine_input : List (ℕ × Reading)
version_ten_nine_input =
    (1, Read (records.Genesis (record { network = 1; slot = 0; epoch_length = 10; version = (10, 9); supply = 1000; reserves = 694; treasury = 100; params = base_params; document = (h32 0x01); script = None; committee = (Some (record { threshold = (share 0 1); members = (((key 0x70), 100, (Some (key 0x71))) ∷ []) })); outputs = (((ref 0x01 2), (address_with 1 (key 0x01) None), 20, []) ∷ ((ref 0x01 3), (address_with 1 (key 0x01) None), 20, []) ∷ ((ref 0x01 4), (address_with 1 (key 0x01) None), 20, []) ∷ ((ref 0x01 5), (address_with 1 (key 0x01) None), 20, []) ∷ []); accounts = (((key 0x10), 2, 67, None, (Some (drep.Registered (key 0x30)))) ∷ ((key 0x11), 2, 33, None, (Some (drep.Registered (key 0x31)))) ∷ ((key 0x12), 2, 0, None, None) ∷ []); pools = ((record { pool = (pool 0x50); deposit = 5; cost = 0; pledge = 0; margin = (share 0 1); account = (account_on 1 (key 0x12)); key = (Some (h32 0x07)) }) ∷ (record { pool = (pool 0x52); deposit = 5; cost = 0; pledge = 0; margin = (share 0 1); account = (account_on 1 (key 0x12)); key = (Some (h32 0x07)) }) ∷ []); dreps = (((key 0x30), 5, 20) ∷ ((key 0x31), 5, 20) ∷ []) }))) ∷
    (2, Read (records.Tx (record (spend 0x02 5) { certs = ((certs.PoolReg (pool 0x51) 0 0 (share 0 1) (account_on 1 (key 0x12)) (Some (h32 0x07))) ∷ (certs.PoolReg (pool 0x50) 0 0 (share 0 1) (account_on 1 (key 0x12)) (Some (h32 0x07))) ∷ []); proposals = ((proposing 10 (account_on 1 (key 0x12)) (actions.UpdateCommittee None [] (((key 0x60), 50) ∷ []) (share 0 1))) ∷ []) }))) ∷
    (3, Read (records.Tx (record (spend 0x03 10) { certs = ((certs.HotAuth (key 0x60) (key 0x61)) ∷ []); proposals = ((proposing 10 (account_on 1 (key 0x12)) (actions.Info)) ∷ []) }))) ∷
    (4, Read (records.Tx (record (spend 0x04 20) { votes = ((voting (voter.Committee (key 0x61)) (action 0x03 0) vote.Yes) ∷ []) }))) ∷
    (5, Read (records.Tx (record (spend 0x05 10) { certs = ((certs.PoolReg (pool 0x53) 0 0 (share 0 1) (account_on 1 (key 0x12)) (Some (h32 0x07))) ∷ (certs.PoolReg (pool 0x54) 0 0 (share 0 1) (account_on 1 (key 0x12)) (Some (h32 0x07))) ∷ []) }))) ∷
    (6, Read (records.Print what.State)) ∷
    []

pub version_ten_nine : says_all version_ten_nine_input (
    codes "1 genesis outputs 80 deposits 26 rewards 100 fees 0 donations 0 treasury 100 reserves 694 supply 1000" ∷
    codes "2 accepted" ∷
    codes "3 accepted" ∷
    codes "4 accepted" ∷
    codes "5 accepted" ∷
    codes "6 now slot 0 epoch 0 version 10.9 dormant 0" ∷
    codes "6 constitution 0000000000000000000000000000000000000000000000000000000000000001 none" ∷
    codes "6 committee threshold 0/1" ∷
    codes "6 member k00000000000000000000000000000000000000000000000000000070 term 100 hot k00000000000000000000000000000000000000000000000000000071" ∷
    codes "6 hot k00000000000000000000000000000000000000000000000000000060 k00000000000000000000000000000000000000000000000000000061" ∷
    codes "6 enacted committee none constitution none hardfork none parameters none" ∷
    codes "6 param maxBlockBodySize 90112" ∷
    codes "6 param maxTxSize 16384" ∷
    codes "6 param maxBlockHeaderSize 1100" ∷
    codes "6 param maxValueSize 5000" ∷
    codes "6 param maxTxExUnits 1000 1000" ∷
    codes "6 param maxBlockExUnits 1000 1000" ∷
    codes "6 param maxCollateralInputs 3" ∷
    codes "6 param minFeeA 0" ∷
    codes "6 param minFeeB 0" ∷
    codes "6 param keyDeposit 2" ∷
    codes "6 param poolDeposit 5" ∷
    codes "6 param rho 0/1" ∷
    codes "6 param tau 0/1" ∷
    codes "6 param minPoolCost 0" ∷
    codes "6 param coinsPerUTxOByte 0" ∷
    codes "6 param prices 0/1 0/1" ∷
    codes "6 param minFeeRefScriptCostPerByte 15/1" ∷
    codes "6 param a0 0/1" ∷
    codes "6 param eMax 18" ∷
    codes "6 param nOpt 500" ∷
    codes "6 param costModels 0000000000000000000000000000000000000000000000000000000000000000" ∷
    codes "6 param collateralPercentage 150" ∷
    codes "6 param poolVotingThresholds 0/1 0/1 0/1 0/1 0/1" ∷
    codes "6 param drepVotingThresholds 67/100 67/100 67/100 67/100 67/100 67/100 67/100 67/100 67/100 67/100" ∷
    codes "6 param govActionLifetime 2" ∷
    codes "6 param govActionDeposit 10" ∷
    codes "6 param drepDeposit 5" ∷
    codes "6 param drepActivity 20" ∷
    codes "6 param committeeMinSize 0" ∷
    codes "6 param committeeMaxTermLength 100" ∷
    codes "6 drep k00000000000000000000000000000000000000000000000000000030 deposit 5 expiry 20" ∷
    codes "6 drep k00000000000000000000000000000000000000000000000000000031 deposit 5 expiry 20" ∷
    codes "6 pool 00000000000000000000000000000000000000000000000000000050 deposit 5 cost 0 pledge 0 margin 0/1 account 1k00000000000000000000000000000000000000000000000000000012 retires never key 0000000000000000000000000000000000000000000000000000000000000007" ∷
    codes "6 next 00000000000000000000000000000000000000000000000000000050 cost 0 pledge 0 margin 0/1 account 1k00000000000000000000000000000000000000000000000000000012 key 0000000000000000000000000000000000000000000000000000000000000007" ∷
    codes "6 pool 00000000000000000000000000000000000000000000000000000051 deposit 5 cost 0 pledge 0 margin 0/1 account 1k00000000000000000000000000000000000000000000000000000012 retires never key 0000000000000000000000000000000000000000000000000000000000000007" ∷
    codes "6 pool 00000000000000000000000000000000000000000000000000000052 deposit 5 cost 0 pledge 0 margin 0/1 account 1k00000000000000000000000000000000000000000000000000000012 retires never key 0000000000000000000000000000000000000000000000000000000000000007" ∷
    codes "6 pool 00000000000000000000000000000000000000000000000000000053 deposit 5 cost 0 pledge 0 margin 0/1 account 1k00000000000000000000000000000000000000000000000000000012 retires never key 0000000000000000000000000000000000000000000000000000000000000007" ∷
    codes "6 pool 00000000000000000000000000000000000000000000000000000054 deposit 5 cost 0 pledge 0 margin 0/1 account 1k00000000000000000000000000000000000000000000000000000012 retires never key 0000000000000000000000000000000000000000000000000000000000000007" ∷
    codes "6 account k00000000000000000000000000000000000000000000000000000010 stake 0 deposit 2 rewards 67 pool none drep k00000000000000000000000000000000000000000000000000000030" ∷
    codes "6 account k00000000000000000000000000000000000000000000000000000011 stake 0 deposit 2 rewards 33 pool none drep k00000000000000000000000000000000000000000000000000000031" ∷
    codes "6 account k00000000000000000000000000000000000000000000000000000012 stake 0 deposit 2 rewards 0 pool none drep none" ∷
    codes "6 proposal 0000000000000000000000000000000000000000000000000000000000000002#0 UpdateCommittee deposit 10 return 1k00000000000000000000000000000000000000000000000000000012 expires 2 previous none" ∷
    codes "6 proposal 0000000000000000000000000000000000000000000000000000000000000003#0 Info deposit 10 return 1k00000000000000000000000000000000000000000000000000000012 expires 2 previous none" ∷
    codes "6 vote 0000000000000000000000000000000000000000000000000000000000000003#0 committee:k00000000000000000000000000000000000000000000000000000061 yes" ∷
    codes "6 snapshot mark 00000000000000000000000000000000000000000000000000000050 0" ∷
    codes "6 snapshot mark 00000000000000000000000000000000000000000000000000000052 0" ∷
    codes "6 snapshot fees 0" ∷
    codes "6 pending none" ∷
    codes "6 pots outputs 0 deposits 61 rewards 100 fees 45 donations 0 treasury 100 reserves 694 supply 1000" ∷
    []) ≡ true
unfolding digits encode_with
version_ten_nine = refl

abbrev version_eleven_one_input : List (ℕ × Reading)
version_eleven_one_input =
    (1, Read (records.Genesis (record { network = 1; slot = 0; epoch_length = 10; version = (11, 1); supply = 1000; reserves = 699; treasury = 100; params = base_params; document = (h32 0x01); script = None; committee = (Some (record { threshold = (share 0 1); members = (((key 0x70), 100, (Some (key 0x71))) ∷ []) })); outputs = (((ref 0x01 2), (address_with 1 (key 0x01) None), 20, []) ∷ ((ref 0x01 3), (address_with 1 (key 0x01) None), 20, []) ∷ ((ref 0x01 4), (address_with 1 (key 0x01) None), 20, []) ∷ ((ref 0x01 5), (address_with 1 (key 0x01) None), 20, []) ∷ []); accounts = (((key 0x10), 2, 67, None, (Some (drep.Registered (key 0x30)))) ∷ ((key 0x11), 2, 33, None, (Some (drep.Registered (key 0x31)))) ∷ ((key 0x12), 2, 0, None, None) ∷ []); pools = ((record { pool = (pool 0x50); deposit = 5; cost = 0; pledge = 0; margin = (share 0 1); account = (account_on 1 (key 0x12)); key = None }) ∷ []); dreps = (((key 0x30), 5, 20) ∷ ((key 0x31), 5, 20) ∷ []) }))) ∷
    (2, Read (records.Tx (record (spend 0x02 0) { proposals = ((proposing 10 (account_on 1 (key 0x12)) (actions.UpdateCommittee None [] (((key 0x60), 50) ∷ []) (share 0 1))) ∷ (proposing 10 (account_on 1 (key 0x12)) (actions.HardForkInitiation None (12, 0))) ∷ []) }))) ∷
    (3, Read (records.Tx (record (spend 0x03 5) { certs = ((certs.HotAuth (key 0x60) (key 0x61)) ∷ (certs.PoolReg (pool 0x51) 0 0 (share 0 1) (account_on 1 (key 0x12)) (Some (h32 0x07))) ∷ []); proposals = ((proposing 10 (account_on 1 (key 0x12)) (actions.NewConstitution None (h32 0x02) None)) ∷ []); votes = ((voting (voter.Drep (key 0x30)) (action 0x02 1) vote.Yes) ∷ []) }))) ∷
    (4, Read (records.Tx (record (spend 0x04 15) { certs = ((certs.PoolReg (pool 0x52) 0 0 (share 0 1) (account_on 1 (key 0x12)) (Some (h32 0x07))) ∷ []) }))) ∷
    (5, Read (records.Tx (record (spend 0x04 20) { votes = ((voting (voter.Committee (key 0x61)) (action 0x03 0) vote.Yes) ∷ []) }))) ∷
    (6, Read (records.Tx (record (spend 0x04 20) { votes = ((voting (voter.Committee (key 0x71)) (action 0x03 0) vote.Yes) ∷ []) }))) ∷
    (7, Read (records.Block 10 1)) ∷
    (8, Read (records.Block 20 1)) ∷
    (9, Read (records.Tx (record (spend 0x05 15) { certs = ((certs.PoolReg (pool 0x52) 0 0 (share 0 1) (account_on 1 (key 0x12)) (Some (h32 0x07))) ∷ []) }))) ∷
    (10, Read (records.Tx (record (spend 0x05 20) { certs = ((certs.HotAuth (key 0x60) (key 0x61)) ∷ []); votes = ((voting (voter.Committee (key 0x71)) (action 0x03 0) vote.Yes) ∷ (voting (voter.Committee (key 0x61)) (action 0x03 0) vote.Yes) ∷ []) }))) ∷
    (11, Read (records.Tx (record (spend 0x05 20) { certs = ((certs.HotAuth (key 0x60) (key 0x61)) ∷ (certs.PoolReg (pool 0x51) 0 0 (share 0 1) (account_on 1 (key 0x12)) (Some (h32 0x07))) ∷ []); votes = ((voting (voter.Committee (key 0x71)) (action 0x03 0) vote.No) ∷ []) }))) ∷
    (12, Read (records.Print what.State)) ∷
    []

pub version_eleven_one : says_all version_eleven_one_input (
    codes "1 genesis outputs 80 deposits 21 rewards 100 fees 0 donations 0 treasury 100 reserves 699 supply 1000" ∷
    codes "2 accepted" ∷
    codes "3 accepted" ∷
    codes "4 refused 73 PoolKeyInUse at 0" ∷
    codes "5 refused 104 VoterNotSeated at 0" ∷
    codes "6 accepted" ∷
    codes "7 epoch 1 frozen 3 dormant 0" ∷
    codes "7 stake k00000000000000000000000000000000000000000000000000000030 67" ∷
    codes "7 stake k00000000000000000000000000000000000000000000000000000031 33" ∷
    codes "7 pots outputs 20 deposits 56 rewards 100 fees 25 donations 0 treasury 100 reserves 699 supply 1000" ∷
    codes "7 block slot 10 epoch 1 counted 1 of 3" ∷
    codes "8 epoch 2 frozen 3 dormant 0" ∷
    codes "8 stake k00000000000000000000000000000000000000000000000000000030 67" ∷
    codes "8 stake k00000000000000000000000000000000000000000000000000000031 33" ∷
    codes "8 tally 0000000000000000000000000000000000000000000000000000000000000002#0 UpdateCommittee committee 0/1 need none drep 0/100 need 67/100 pool 0/0 need 0/1 waiting" ∷
    codes "8 tally 0000000000000000000000000000000000000000000000000000000000000003#0 NewConstitution committee 1/1 need 0/1 drep 0/100 need 67/100 pool 0/0 need none waiting" ∷
    codes "8 tally 0000000000000000000000000000000000000000000000000000000000000002#1 HardForkInitiation committee 0/1 need 0/1 drep 67/100 need 67/100 pool 0/0 need 0/1 ratified" ∷
    codes "8 removed 0000000000000000000000000000000000000000000000000000000000000002#1 enacted refund 10 1k00000000000000000000000000000000000000000000000000000012" ∷
    codes "8 pots outputs 20 deposits 46 rewards 110 fees 25 donations 0 treasury 100 reserves 699 supply 1000" ∷
    codes "8 block slot 20 epoch 2 counted 1 of 3" ∷
    codes "9 refused 73 PoolKeyInUse at 0" ∷
    codes "10 refused 104 VoterNotSeated at 1" ∷
    codes "11 accepted" ∷
    codes "12 now slot 20 epoch 2 version 12.0 dormant 0" ∷
    codes "12 constitution 0000000000000000000000000000000000000000000000000000000000000001 none" ∷
    codes "12 committee threshold 0/1" ∷
    codes "12 member k00000000000000000000000000000000000000000000000000000070 term 100 hot k00000000000000000000000000000000000000000000000000000071" ∷
    codes "12 hot k00000000000000000000000000000000000000000000000000000060 k00000000000000000000000000000000000000000000000000000061" ∷
    codes "12 enacted committee none constitution none hardfork 0000000000000000000000000000000000000000000000000000000000000002#1 parameters none" ∷
    codes "12 param maxBlockBodySize 90112" ∷
    codes "12 param maxTxSize 16384" ∷
    codes "12 param maxBlockHeaderSize 1100" ∷
    codes "12 param maxValueSize 5000" ∷
    codes "12 param maxTxExUnits 1000 1000" ∷
    codes "12 param maxBlockExUnits 1000 1000" ∷
    codes "12 param maxCollateralInputs 3" ∷
    codes "12 param minFeeA 0" ∷
    codes "12 param minFeeB 0" ∷
    codes "12 param keyDeposit 2" ∷
    codes "12 param poolDeposit 5" ∷
    codes "12 param rho 0/1" ∷
    codes "12 param tau 0/1" ∷
    codes "12 param minPoolCost 0" ∷
    codes "12 param coinsPerUTxOByte 0" ∷
    codes "12 param prices 0/1 0/1" ∷
    codes "12 param minFeeRefScriptCostPerByte 15/1" ∷
    codes "12 param a0 0/1" ∷
    codes "12 param eMax 18" ∷
    codes "12 param nOpt 500" ∷
    codes "12 param costModels 0000000000000000000000000000000000000000000000000000000000000000" ∷
    codes "12 param collateralPercentage 150" ∷
    codes "12 param poolVotingThresholds 0/1 0/1 0/1 0/1 0/1" ∷
    codes "12 param drepVotingThresholds 67/100 67/100 67/100 67/100 67/100 67/100 67/100 67/100 67/100 67/100" ∷
    codes "12 param govActionLifetime 2" ∷
    codes "12 param govActionDeposit 10" ∷
    codes "12 param drepDeposit 5" ∷
    codes "12 param drepActivity 20" ∷
    codes "12 param committeeMinSize 0" ∷
    codes "12 param committeeMaxTermLength 100" ∷
    codes "12 drep k00000000000000000000000000000000000000000000000000000030 deposit 5 expiry 20" ∷
    codes "12 drep k00000000000000000000000000000000000000000000000000000031 deposit 5 expiry 20" ∷
    codes "12 pool 00000000000000000000000000000000000000000000000000000050 deposit 5 cost 0 pledge 0 margin 0/1 account 1k00000000000000000000000000000000000000000000000000000012 retires never" ∷
    codes "12 pool 00000000000000000000000000000000000000000000000000000051 deposit 5 cost 0 pledge 0 margin 0/1 account 1k00000000000000000000000000000000000000000000000000000012 retires never key 0000000000000000000000000000000000000000000000000000000000000007" ∷
    codes "12 next 00000000000000000000000000000000000000000000000000000051 cost 0 pledge 0 margin 0/1 account 1k00000000000000000000000000000000000000000000000000000012 key 0000000000000000000000000000000000000000000000000000000000000007" ∷
    codes "12 account k00000000000000000000000000000000000000000000000000000010 stake 0 deposit 2 rewards 67 pool none drep k00000000000000000000000000000000000000000000000000000030" ∷
    codes "12 account k00000000000000000000000000000000000000000000000000000011 stake 0 deposit 2 rewards 33 pool none drep k00000000000000000000000000000000000000000000000000000031" ∷
    codes "12 account k00000000000000000000000000000000000000000000000000000012 stake 0 deposit 2 rewards 10 pool none drep none" ∷
    codes "12 proposal 0000000000000000000000000000000000000000000000000000000000000002#0 UpdateCommittee deposit 10 return 1k00000000000000000000000000000000000000000000000000000012 expires 2 previous none" ∷
    codes "12 proposal 0000000000000000000000000000000000000000000000000000000000000003#0 NewConstitution deposit 10 return 1k00000000000000000000000000000000000000000000000000000012 expires 2 previous none" ∷
    codes "12 vote 0000000000000000000000000000000000000000000000000000000000000003#0 committee:k00000000000000000000000000000000000000000000000000000071 no" ∷
    codes "12 snapshot mark 00000000000000000000000000000000000000000000000000000050 0" ∷
    codes "12 snapshot mark 00000000000000000000000000000000000000000000000000000051 0" ∷
    codes "12 snapshot set 00000000000000000000000000000000000000000000000000000050 0" ∷
    codes "12 snapshot set 00000000000000000000000000000000000000000000000000000051 0" ∷
    codes "12 snapshot go 00000000000000000000000000000000000000000000000000000050 0" ∷
    codes "12 snapshot fees 25" ∷
    codes "12 pending none" ∷
    codes "12 pots outputs 0 deposits 46 rewards 110 fees 45 donations 0 treasury 100 reserves 699 supply 1000" ∷
    []) ≡ true
unfolding digits encode_with
version_eleven_one = refl

abbrev version_eleven_by_a_boundary_input : List (ℕ × Reading)
version_eleven_by_a_boundary_input =
    (1, Read (records.Genesis (record { network = 1; slot = 0; epoch_length = 10; version = (10, 0); supply = 1000; reserves = 659; treasury = 100; params = (record base_params { gov_action_lifetime = 5 }); document = (h32 0x01); script = None; committee = (Some (record { threshold = (share 0 1); members = (((key 0x70), 100, (Some (key 0x71))) ∷ []) })); outputs = (((ref 0x01 2), (address_with 1 (key 0x01) None), 20, []) ∷ ((ref 0x01 3), (address_with 1 (key 0x01) None), 20, []) ∷ ((ref 0x01 4), (address_with 1 (key 0x01) None), 20, []) ∷ ((ref 0x01 5), (address_with 1 (key 0x01) None), 20, []) ∷ ((ref 0x01 6), (address_with 1 (key 0x01) None), 20, []) ∷ ((ref 0x01 7), (address_with 1 (key 0x01) None), 20, []) ∷ []); accounts = (((key 0x10), 2, 67, None, (Some (drep.Registered (key 0x30)))) ∷ ((key 0x11), 2, 33, None, (Some (drep.Registered (key 0x31)))) ∷ ((key 0x12), 2, 0, None, None) ∷ []); pools = ((record { pool = (pool 0x50); deposit = 5; cost = 0; pledge = 0; margin = (share 0 1); account = (account_on 1 (key 0x12)); key = None }) ∷ []); dreps = (((key 0x30), 5, 20) ∷ ((key 0x31), 5, 20) ∷ []) }))) ∷
    (2, Read (records.Tx (record (spend 0x02 0) { proposals = ((proposing 10 (account_on 1 (key 0x12)) (actions.HardForkInitiation None (10, 1))) ∷ (proposing 10 (account_on 1 (key 0x12)) (actions.UpdateCommittee None [] (((key 0x60), 50) ∷ []) (share 0 1))) ∷ []) }))) ∷
    (3, Read (records.Tx (record (spend 0x03 0) { proposals = ((proposing 10 (account_on 1 (key 0x12)) (actions.HardForkInitiation (Some (action 0x02 0)) (11, 0))) ∷ (proposing 10 (account_on 1 (key 0x12)) (actions.Info)) ∷ []); votes = ((voting (voter.Drep (key 0x30)) (action 0x02 0) vote.Yes) ∷ []) }))) ∷
    (4, Read (records.Tx (record (spend 0x04 15) { certs = ((certs.PoolReg (pool 0x51) 0 0 (share 0 1) (account_on 1 (key 0x12)) (Some (h32 0x07))) ∷ []); votes = ((voting (voter.Drep (key 0x30)) (action 0x03 0) vote.Yes) ∷ []) }))) ∷
    (5, Read (records.Block 10 1)) ∷
    (6, Read (records.Block 20 1)) ∷
    (7, Read (records.Tx (record (spend 0x05 15) { certs = ((certs.HotAuth (key 0x60) (key 0x61)) ∷ (certs.PoolReg (pool 0x52) 0 0 (share 0 1) (account_on 1 (key 0x12)) (Some (h32 0x07))) ∷ []); votes = ((voting (voter.Committee (key 0x61)) (action 0x03 1) vote.Yes) ∷ []) }))) ∷
    (8, Read (records.Block 29 1)) ∷
    (9, Read (records.Tx (record (spend 0x06 15) { certs = ((certs.PoolReg (pool 0x53) 0 0 (share 0 1) (account_on 1 (key 0x12)) (Some (h32 0x07))) ∷ []); votes = ((voting (voter.Committee (key 0x61)) (action 0x03 1) vote.No) ∷ []) }))) ∷
    (10, Read (records.Block 30 1)) ∷
    (11, Read (records.Tx (record (spend 0x07 15) { certs = ((certs.PoolReg (pool 0x54) 0 0 (share 0 1) (account_on 1 (key 0x12)) (Some (h32 0x07))) ∷ []) }))) ∷
    (12, Read (records.Tx (record (spend 0x07 20) { certs = ((certs.HotAuth (key 0x60) (key 0x61)) ∷ []); votes = ((voting (voter.Committee (key 0x61)) (action 0x03 1) vote.Yes) ∷ []) }))) ∷
    (13, Read (records.Tx (record (spend 0x07 20) { certs = ((certs.HotAuth (key 0x60) (key 0x61)) ∷ (certs.PoolReg (pool 0x50) 0 0 (share 0 1) (account_on 1 (key 0x12)) (Some (h32 0x08))) ∷ []); votes = ((voting (voter.Committee (key 0x71)) (action 0x03 1) vote.Yes) ∷ []) }))) ∷
    (14, Read (records.Print what.State)) ∷
    []

pub version_eleven_by_a_boundary : says_all version_eleven_by_a_boundary_input (
    codes "1 genesis outputs 120 deposits 21 rewards 100 fees 0 donations 0 treasury 100 reserves 659 supply 1000" ∷
    codes "2 accepted" ∷
    codes "3 accepted" ∷
    codes "4 accepted" ∷
    codes "5 epoch 1 frozen 3 dormant 0" ∷
    codes "5 stake k00000000000000000000000000000000000000000000000000000030 67" ∷
    codes "5 stake k00000000000000000000000000000000000000000000000000000031 33" ∷
    codes "5 pots outputs 60 deposits 66 rewards 100 fees 15 donations 0 treasury 100 reserves 659 supply 1000" ∷
    codes "5 block slot 10 epoch 1 counted 1 of 3" ∷
    codes "6 epoch 2 frozen 3 dormant 0" ∷
    codes "6 stake k00000000000000000000000000000000000000000000000000000030 67" ∷
    codes "6 stake k00000000000000000000000000000000000000000000000000000031 33" ∷
    codes "6 tally 0000000000000000000000000000000000000000000000000000000000000002#1 UpdateCommittee committee 0/1 need none drep 0/100 need 67/100 pool 0/0 need 0/1 waiting" ∷
    codes "6 tally 0000000000000000000000000000000000000000000000000000000000000002#0 HardForkInitiation committee 0/1 need 0/1 drep 67/100 need 67/100 pool 0/0 need 0/1 ratified" ∷
    codes "6 tally 0000000000000000000000000000000000000000000000000000000000000003#0 HardForkInitiation committee 0/1 need 0/1 drep 67/100 need 67/100 pool 0/0 need 0/1 waiting" ∷
    codes "6 tally 0000000000000000000000000000000000000000000000000000000000000003#1 Info committee 0/1 need never drep 0/100 need never pool 0/0 need never waiting" ∷
    codes "6 removed 0000000000000000000000000000000000000000000000000000000000000002#0 enacted refund 10 1k00000000000000000000000000000000000000000000000000000012" ∷
    codes "6 pots outputs 60 deposits 56 rewards 110 fees 15 donations 0 treasury 100 reserves 659 supply 1000" ∷
    codes "6 block slot 20 epoch 2 counted 1 of 3" ∷
    codes "7 accepted" ∷
    codes "8 block slot 29 epoch 2 counted 2 of 3" ∷
    codes "9 accepted" ∷
    codes "10 epoch 3 frozen 3 dormant 0" ∷
    codes "10 stake k00000000000000000000000000000000000000000000000000000030 67" ∷
    codes "10 stake k00000000000000000000000000000000000000000000000000000031 33" ∷
    codes "10 tally 0000000000000000000000000000000000000000000000000000000000000002#1 UpdateCommittee committee 0/1 need none drep 0/100 need 67/100 pool 0/0 need 0/1 waiting" ∷
    codes "10 tally 0000000000000000000000000000000000000000000000000000000000000003#0 HardForkInitiation committee 0/1 need 0/1 drep 67/100 need 67/100 pool 0/0 need 0/1 ratified" ∷
    codes "10 tally 0000000000000000000000000000000000000000000000000000000000000003#1 Info committee 0/1 need never drep 0/100 need never pool 0/0 need never waiting" ∷
    codes "10 removed 0000000000000000000000000000000000000000000000000000000000000003#0 enacted refund 10 1k00000000000000000000000000000000000000000000000000000012" ∷
    codes "10 pots outputs 20 deposits 56 rewards 120 fees 45 donations 0 treasury 100 reserves 659 supply 1000" ∷
    codes "10 block slot 30 epoch 3 counted 1 of 3" ∷
    codes "11 refused 73 PoolKeyInUse at 0" ∷
    codes "12 refused 104 VoterNotSeated at 0" ∷
    codes "13 accepted" ∷
    codes "14 now slot 30 epoch 3 version 11.0 dormant 0" ∷
    codes "14 constitution 0000000000000000000000000000000000000000000000000000000000000001 none" ∷
    codes "14 committee threshold 0/1" ∷
    codes "14 member k00000000000000000000000000000000000000000000000000000070 term 100 hot k00000000000000000000000000000000000000000000000000000071" ∷
    codes "14 hot k00000000000000000000000000000000000000000000000000000060 k00000000000000000000000000000000000000000000000000000061" ∷
    codes "14 enacted committee none constitution none hardfork 0000000000000000000000000000000000000000000000000000000000000003#0 parameters none" ∷
    codes "14 param maxBlockBodySize 90112" ∷
    codes "14 param maxTxSize 16384" ∷
    codes "14 param maxBlockHeaderSize 1100" ∷
    codes "14 param maxValueSize 5000" ∷
    codes "14 param maxTxExUnits 1000 1000" ∷
    codes "14 param maxBlockExUnits 1000 1000" ∷
    codes "14 param maxCollateralInputs 3" ∷
    codes "14 param minFeeA 0" ∷
    codes "14 param minFeeB 0" ∷
    codes "14 param keyDeposit 2" ∷
    codes "14 param poolDeposit 5" ∷
    codes "14 param rho 0/1" ∷
    codes "14 param tau 0/1" ∷
    codes "14 param minPoolCost 0" ∷
    codes "14 param coinsPerUTxOByte 0" ∷
    codes "14 param prices 0/1 0/1" ∷
    codes "14 param minFeeRefScriptCostPerByte 15/1" ∷
    codes "14 param a0 0/1" ∷
    codes "14 param eMax 18" ∷
    codes "14 param nOpt 500" ∷
    codes "14 param costModels 0000000000000000000000000000000000000000000000000000000000000000" ∷
    codes "14 param collateralPercentage 150" ∷
    codes "14 param poolVotingThresholds 0/1 0/1 0/1 0/1 0/1" ∷
    codes "14 param drepVotingThresholds 67/100 67/100 67/100 67/100 67/100 67/100 67/100 67/100 67/100 67/100" ∷
    codes "14 param govActionLifetime 5" ∷
    codes "14 param govActionDeposit 10" ∷
    codes "14 param drepDeposit 5" ∷
    codes "14 param drepActivity 20" ∷
    codes "14 param committeeMinSize 0" ∷
    codes "14 param committeeMaxTermLength 100" ∷
    codes "14 drep k00000000000000000000000000000000000000000000000000000030 deposit 5 expiry 20" ∷
    codes "14 drep k00000000000000000000000000000000000000000000000000000031 deposit 5 expiry 20" ∷
    codes "14 pool 00000000000000000000000000000000000000000000000000000050 deposit 5 cost 0 pledge 0 margin 0/1 account 1k00000000000000000000000000000000000000000000000000000012 retires never" ∷
    codes "14 next 00000000000000000000000000000000000000000000000000000050 cost 0 pledge 0 margin 0/1 account 1k00000000000000000000000000000000000000000000000000000012 key 0000000000000000000000000000000000000000000000000000000000000008" ∷
    codes "14 pool 00000000000000000000000000000000000000000000000000000051 deposit 5 cost 0 pledge 0 margin 0/1 account 1k00000000000000000000000000000000000000000000000000000012 retires never key 0000000000000000000000000000000000000000000000000000000000000007" ∷
    codes "14 pool 00000000000000000000000000000000000000000000000000000052 deposit 5 cost 0 pledge 0 margin 0/1 account 1k00000000000000000000000000000000000000000000000000000012 retires never key 0000000000000000000000000000000000000000000000000000000000000007" ∷
    codes "14 pool 00000000000000000000000000000000000000000000000000000053 deposit 5 cost 0 pledge 0 margin 0/1 account 1k00000000000000000000000000000000000000000000000000000012 retires never key 0000000000000000000000000000000000000000000000000000000000000007" ∷
    codes "14 account k00000000000000000000000000000000000000000000000000000010 stake 0 deposit 2 rewards 67 pool none drep k00000000000000000000000000000000000000000000000000000030" ∷
    codes "14 account k00000000000000000000000000000000000000000000000000000011 stake 0 deposit 2 rewards 33 pool none drep k00000000000000000000000000000000000000000000000000000031" ∷
    codes "14 account k00000000000000000000000000000000000000000000000000000012 stake 0 deposit 2 rewards 20 pool none drep none" ∷
    codes "14 proposal 0000000000000000000000000000000000000000000000000000000000000002#1 UpdateCommittee deposit 10 return 1k00000000000000000000000000000000000000000000000000000012 expires 5 previous none" ∷
    codes "14 proposal 0000000000000000000000000000000000000000000000000000000000000003#1 Info deposit 10 return 1k00000000000000000000000000000000000000000000000000000012 expires 5 previous none" ∷
    codes "14 vote 0000000000000000000000000000000000000000000000000000000000000003#1 committee:k00000000000000000000000000000000000000000000000000000061 no" ∷
    codes "14 vote 0000000000000000000000000000000000000000000000000000000000000003#1 committee:k00000000000000000000000000000000000000000000000000000071 yes" ∷
    codes "14 snapshot mark 00000000000000000000000000000000000000000000000000000050 0" ∷
    codes "14 snapshot mark 00000000000000000000000000000000000000000000000000000051 0" ∷
    codes "14 snapshot mark 00000000000000000000000000000000000000000000000000000052 0" ∷
    codes "14 snapshot mark 00000000000000000000000000000000000000000000000000000053 0" ∷
    codes "14 snapshot set 00000000000000000000000000000000000000000000000000000050 0" ∷
    codes "14 snapshot set 00000000000000000000000000000000000000000000000000000051 0" ∷
    codes "14 snapshot go 00000000000000000000000000000000000000000000000000000050 0" ∷
    codes "14 snapshot go 00000000000000000000000000000000000000000000000000000051 0" ∷
    codes "14 snapshot fees 45" ∷
    codes "14 pending none" ∷
    codes "14 pots outputs 0 deposits 56 rewards 120 fees 65 donations 0 treasury 100 reserves 659 supply 1000" ∷
    []) ≡ true
unfolding digits encode_with
version_eleven_by_a_boundary = refl
