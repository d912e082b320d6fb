-- Worked rows of whole streams: seated voters. Made by tests/made/rows_of, from the streams of these names in tests/streams/whole.
use Rattle.std.specs.Prelude.{ℕ, ◌≡◌, List, [], ◌∷◌, Some, None, true, codes, refl}
use Rattle.std.specs.Fmt.{digits}
use Rattle.hex.specs.Hex.{encode_with}
use Rattle.gov_actions.specs.declared.action.Action.TheVariants as actions
use Rattle.gov_actions.specs.declared.action.Vote.TheVariants as vote
use Rattle.gov_ids.specs.declared.Drep.TheVariants as drep
use Rattle.gov_ids.specs.declared.Voter.TheVariants as voter
use Rattle.tx_records.specs.declared.record.Record.TheVariants as records
use Rattle.tx_records.specs.declared.record.What.TheVariants as what
use Rattle.tx_records.specs.declared.cert.Cert.TheVariants as certs
use Rattle.tx_records.specs.declared.record.Reading.{Reading}
use Rattle.tx_records.specs.declared.record.Reading.TheVariants.{Read}
use Rattle.ledger_rows.proofs.Base.{h32, key, script, pool, account_on, address_with, ref, action, share, base_params, spend, proposing, voting, says_all}

abbrev seated_voters_input : List (ℕ × Reading)
seated_voters_input =
    (1, Read (records.Genesis (record { network = 1; slot = 0; epoch_length = 10; version = (11, 0); supply = 1000; reserves = 679; treasury = 100; params = base_params; document = (h32 0x01); script = None; committee = (Some (record { threshold = (share 0 1); members = (((key 0x70), 100, (Some (key 0x71))) ∷ ((key 0x72), 100, None) ∷ ((script 0x70), 100, (Some (key 0x73))) ∷ []) })); outputs = (((ref 0x01 2), (address_with 1 (key 0x01) None), 20, []) ∷ ((ref 0x01 3), (address_with 1 (key 0x01) None), 20, []) ∷ ((ref 0x01 4), (address_with 1 (key 0x01) None), 20, []) ∷ ((ref 0x01 5), (address_with 1 (key 0x01) None), 20, []) ∷ ((ref 0x01 6), (address_with 1 (key 0x01) None), 20, []) ∷ []); accounts = (((key 0x10), 2, 67, None, (Some (drep.Registered (key 0x30)))) ∷ ((key 0x11), 2, 33, None, (Some (drep.Registered (key 0x31)))) ∷ ((key 0x12), 2, 0, None, None) ∷ []); pools = ((record { pool = (pool 0x50); deposit = 5; cost = 0; pledge = 0; margin = (share 0 1); account = (account_on 1 (key 0x12)); key = None }) ∷ []); dreps = (((key 0x30), 5, 20) ∷ ((key 0x31), 5, 20) ∷ []) }))) ∷
    (2, Read (records.Tx (record (spend 0x02 0) { proposals = ((proposing 10 (account_on 1 (key 0x12)) (actions.UpdateCommittee None [] (((key 0x60), 50) ∷ ((script 0x72), 50) ∷ []) (share 0 1))) ∷ (proposing 10 (account_on 1 (key 0x12)) (actions.Info)) ∷ []) }))) ∷
    (3, Read (records.Tx (record (spend 0x03 20) { certs = ((certs.HotAuth (key 0x60) (key 0x61)) ∷ []) }))) ∷
    (4, Read (records.Tx (record (spend 0x04 19) { votes = ((voting (voter.Committee (key 0x61)) (action 0x02 1) vote.Yes) ∷ []) }))) ∷
    (5, Read (records.Tx (record (spend 0x04 20) { votes = ((voting (voter.Committee (key 0x71)) (action 0x02 1) vote.Yes) ∷ (voting (voter.Committee (key 0x61)) (action 0x02 1) vote.Yes) ∷ []) }))) ∷
    (6, Read (records.Tx (record (spend 0x04 20) { votes = ((voting (voter.Committee (key 0x99)) (action 0x02 1) vote.Yes) ∷ []) }))) ∷
    (7, Read (records.Tx (record (spend 0x04 20) { votes = ((voting (voter.Committee (key 0x61)) (action 0x02 0) vote.Yes) ∷ []) }))) ∷
    (8, Read (records.Tx (record (spend 0x04 20) { votes = ((voting (voter.Committee (key 0x61)) (action 0x09 0) vote.Yes) ∷ []) }))) ∷
    (9, Read (records.Tx (record (spend 0x04 20) { votes = ((voting (voter.Committee (key 0x61)) (action 0x02 1) vote.Yes) ∷ (voting (voter.Committee (key 0x71)) (action 0x02 0) vote.Yes) ∷ []) }))) ∷
    (10, Read (records.Tx (record (spend 0x04 20) { votes = ((voting (voter.Drep (key 0x30)) (action 0x02 1) vote.Yes) ∷ (voting (voter.Pool (pool 0x50)) (action 0x02 1) vote.Yes) ∷ (voting (voter.Drep (key 0x30)) (action 0x02 0) vote.Yes) ∷ []) }))) ∷
    (11, Read (records.Tx (record (spend 0x05 20) { certs = ((certs.HotAuth (key 0x72) (key 0x61)) ∷ (certs.HotAuth (script 0x70) (key 0x75)) ∷ []); votes = ((voting (voter.Committee (key 0x61)) (action 0x02 1) vote.Yes) ∷ (voting (voter.Committee (key 0x75)) (action 0x02 1) vote.No) ∷ []) }))) ∷
    (12, Read (records.Tx (record (spend 0x06 20) { certs = ((certs.HotAuth (key 0x60) (script 0x71)) ∷ []); votes = ((voting (voter.Committee (script 0x71)) (action 0x02 1) vote.Yes) ∷ []) }))) ∷
    (13, Read (records.Tx (record (spend 0x06 20) { certs = ((certs.HotAuth (script 0x72) (key 0x62)) ∷ []); votes = ((voting (voter.Committee (key 0x62)) (action 0x02 1) vote.Yes) ∷ []) }))) ∷
    (14, Read (records.Print what.State)) ∷
    []

pub seated_voters : says_all seated_voters_input (
    codes "1 genesis outputs 100 deposits 21 rewards 100 fees 0 donations 0 treasury 100 reserves 679 supply 1000" ∷
    codes "2 accepted" ∷
    codes "3 accepted" ∷
    codes "4 refused 104 VoterNotSeated at 0" ∷
    codes "5 refused 104 VoterNotSeated at 1" ∷
    codes "6 refused 101 VoterUnknown at 0" ∷
    codes "7 refused 102 VoterNotAllowed at 0" ∷
    codes "8 refused 100 ActionUnknown at 0" ∷
    codes "9 refused 104 VoterNotSeated at 0" ∷
    codes "10 accepted" ∷
    codes "11 accepted" ∷
    codes "12 refused 104 VoterNotSeated at 0" ∷
    codes "13 refused 104 VoterNotSeated at 0" ∷
    codes "14 now slot 0 epoch 0 version 11.0 dormant 0" ∷
    codes "14 constitution 0000000000000000000000000000000000000000000000000000000000000001 none" ∷
    codes "14 committee threshold 0/1" ∷
    codes "14 member k00000000000000000000000000000000000000000000000000000070 term 100 hot k00000000000000000000000000000000000000000000000000000071" ∷
    codes "14 member s00000000000000000000000000000000000000000000000000000070 term 100 hot k00000000000000000000000000000000000000000000000000000075" ∷
    codes "14 member k00000000000000000000000000000000000000000000000000000072 term 100 hot k00000000000000000000000000000000000000000000000000000061" ∷
    codes "14 hot k00000000000000000000000000000000000000000000000000000060 k00000000000000000000000000000000000000000000000000000061" ∷
    codes "14 enacted committee none constitution none hardfork none parameters none" ∷
    codes "14 param maxBlockBodySize 90112" ∷
    codes "14 param maxTxSize 16384" ∷
    codes "14 param maxBlockHeaderSize 1100" ∷
    codes "14 param maxValueSize 5000" ∷
    codes "14 param maxTxExUnits 1000 1000" ∷
    codes "14 param maxBlockExUnits 1000 1000" ∷
    codes "14 param maxCollateralInputs 3" ∷
    codes "14 param minFeeA 0" ∷
    codes "14 param minFeeB 0" ∷
    codes "14 param keyDeposit 2" ∷
    codes "14 param poolDeposit 5" ∷
    codes "14 param rho 0/1" ∷
    codes "14 param tau 0/1" ∷
    codes "14 param minPoolCost 0" ∷
    codes "14 param coinsPerUTxOByte 0" ∷
    codes "14 param prices 0/1 0/1" ∷
    codes "14 param minFeeRefScriptCostPerByte 15/1" ∷
    codes "14 param a0 0/1" ∷
    codes "14 param eMax 18" ∷
    codes "14 param nOpt 500" ∷
    codes "14 param costModels 0000000000000000000000000000000000000000000000000000000000000000" ∷
    codes "14 param collateralPercentage 150" ∷
    codes "14 param poolVotingThresholds 0/1 0/1 0/1 0/1 0/1" ∷
    codes "14 param drepVotingThresholds 67/100 67/100 67/100 67/100 67/100 67/100 67/100 67/100 67/100 67/100" ∷
    codes "14 param govActionLifetime 2" ∷
    codes "14 param govActionDeposit 10" ∷
    codes "14 param drepDeposit 5" ∷
    codes "14 param drepActivity 20" ∷
    codes "14 param committeeMinSize 0" ∷
    codes "14 param committeeMaxTermLength 100" ∷
    codes "14 drep k00000000000000000000000000000000000000000000000000000030 deposit 5 expiry 20" ∷
    codes "14 drep k00000000000000000000000000000000000000000000000000000031 deposit 5 expiry 20" ∷
    codes "14 pool 00000000000000000000000000000000000000000000000000000050 deposit 5 cost 0 pledge 0 margin 0/1 account 1k00000000000000000000000000000000000000000000000000000012 retires never" ∷
    codes "14 account k00000000000000000000000000000000000000000000000000000010 stake 0 deposit 2 rewards 67 pool none drep k00000000000000000000000000000000000000000000000000000030" ∷
    codes "14 account k00000000000000000000000000000000000000000000000000000011 stake 0 deposit 2 rewards 33 pool none drep k00000000000000000000000000000000000000000000000000000031" ∷
    codes "14 account k00000000000000000000000000000000000000000000000000000012 stake 0 deposit 2 rewards 0 pool none drep none" ∷
    codes "14 output 0000000000000000000000000000000000000000000000000000000000000001#6 1k00000000000000000000000000000000000000000000000000000001 20" ∷
    codes "14 proposal 0000000000000000000000000000000000000000000000000000000000000002#0 UpdateCommittee deposit 10 return 1k00000000000000000000000000000000000000000000000000000012 expires 2 previous none" ∷
    codes "14 vote 0000000000000000000000000000000000000000000000000000000000000002#0 drep:k00000000000000000000000000000000000000000000000000000030 yes" ∷
    codes "14 proposal 0000000000000000000000000000000000000000000000000000000000000002#1 Info deposit 10 return 1k00000000000000000000000000000000000000000000000000000012 expires 2 previous none" ∷
    codes "14 vote 0000000000000000000000000000000000000000000000000000000000000002#1 committee:k00000000000000000000000000000000000000000000000000000061 yes" ∷
    codes "14 vote 0000000000000000000000000000000000000000000000000000000000000002#1 committee:k00000000000000000000000000000000000000000000000000000075 no" ∷
    codes "14 vote 0000000000000000000000000000000000000000000000000000000000000002#1 drep:k00000000000000000000000000000000000000000000000000000030 yes" ∷
    codes "14 vote 0000000000000000000000000000000000000000000000000000000000000002#1 pool:00000000000000000000000000000000000000000000000000000050 yes" ∷
    codes "14 snapshot mark 00000000000000000000000000000000000000000000000000000050 0" ∷
    codes "14 snapshot fees 0" ∷
    codes "14 pending none" ∷
    codes "14 pots outputs 20 deposits 41 rewards 100 fees 60 donations 0 treasury 100 reserves 679 supply 1000" ∷
    []) ≡ true
unfolding digits encode_with
seated_voters = refl

abbrev voting_ended_before_the_seat_input : List (ℕ × Reading)
voting_ended_before_the_seat_input =
    (1, Read (records.Genesis (record { network = 1; slot = 0; epoch_length = 10; version = (11, 0); supply = 1000; reserves = 719; treasury = 100; params = (record base_params { gov_action_lifetime = 1 }); document = (h32 0x01); script = None; committee = (Some (record { threshold = (share 0 1); members = (((key 0x70), 100, (Some (key 0x71))) ∷ []) })); outputs = (((ref 0x01 2), (address_with 1 (key 0x01) None), 20, []) ∷ ((ref 0x01 3), (address_with 1 (key 0x01) None), 20, []) ∷ ((ref 0x01 4), (address_with 1 (key 0x01) None), 20, []) ∷ []); accounts = (((key 0x10), 2, 67, None, (Some (drep.Registered (key 0x30)))) ∷ ((key 0x11), 2, 33, None, (Some (drep.Registered (key 0x31)))) ∷ ((key 0x12), 2, 0, None, None) ∷ []); pools = ((record { pool = (pool 0x50); deposit = 5; cost = 0; pledge = 0; margin = (share 0 1); account = (account_on 1 (key 0x12)); key = None }) ∷ []); dreps = (((key 0x30), 5, 20) ∷ ((key 0x31), 5, 20) ∷ []) }))) ∷
    (2, Read (records.Tx (record (spend 0x02 0) { proposals = ((proposing 10 (account_on 1 (key 0x12)) (actions.UpdateCommittee None [] (((key 0x60), 50) ∷ []) (share 0 1))) ∷ (proposing 10 (account_on 1 (key 0x12)) (actions.Info)) ∷ []) }))) ∷
    (3, Read (records.Block 10 1)) ∷
    (4, Read (records.Block 20 1)) ∷
    (5, Read (records.Tx (record (spend 0x03 0) { certs = ((certs.HotAuth (key 0x60) (key 0x61)) ∷ []); proposals = ((proposing 10 (account_on 1 (key 0x12)) (actions.Info)) ∷ (proposing 10 (account_on 1 (key 0x12)) (actions.UpdateCommittee None [] (((key 0x60), 50) ∷ []) (share 0 1))) ∷ []) }))) ∷
    (6, Read (records.Block 29 1)) ∷
    (7, Read (records.Tx (record (spend 0x04 20) { votes = ((voting (voter.Committee (key 0x61)) (action 0x03 0) vote.Yes) ∷ []) }))) ∷
    (8, Read (records.Tx (record (spend 0x04 20) { certs = ((certs.HotAuth (key 0x60) (key 0x61)) ∷ []); votes = ((voting (voter.Committee (key 0x61)) (action 0x02 1) vote.Yes) ∷ []) }))) ∷
    (9, Read (records.Tx (record (spend 0x04 20) { votes = ((voting (voter.Committee (key 0x71)) (action 0x03 0) vote.Yes) ∷ (voting (voter.Committee (key 0x71)) (action 0x02 1) vote.Yes) ∷ []) }))) ∷
    (10, Read (records.Print what.State)) ∷
    []

pub voting_ended_before_the_seat : says_all voting_ended_before_the_seat_input (
    codes "1 genesis outputs 60 deposits 21 rewards 100 fees 0 donations 0 treasury 100 reserves 719 supply 1000" ∷
    codes "2 accepted" ∷
    codes "3 epoch 1 frozen 3 dormant 0" ∷
    codes "3 stake k00000000000000000000000000000000000000000000000000000030 67" ∷
    codes "3 stake k00000000000000000000000000000000000000000000000000000031 33" ∷
    codes "3 pots outputs 40 deposits 41 rewards 100 fees 0 donations 0 treasury 100 reserves 719 supply 1000" ∷
    codes "3 block slot 10 epoch 1 counted 1 of 3" ∷
    codes "4 epoch 2 frozen 3 dormant 0" ∷
    codes "4 stake k00000000000000000000000000000000000000000000000000000030 67" ∷
    codes "4 stake k00000000000000000000000000000000000000000000000000000031 33" ∷
    codes "4 tally 0000000000000000000000000000000000000000000000000000000000000002#0 UpdateCommittee committee 0/1 need none drep 0/100 need 67/100 pool 0/0 need 0/1 waiting" ∷
    codes "4 tally 0000000000000000000000000000000000000000000000000000000000000002#1 Info committee 0/1 need never drep 0/100 need never pool 0/0 need never waiting" ∷
    codes "4 pots outputs 40 deposits 41 rewards 100 fees 0 donations 0 treasury 100 reserves 719 supply 1000" ∷
    codes "4 block slot 20 epoch 2 counted 1 of 3" ∷
    codes "5 accepted" ∷
    codes "6 block slot 29 epoch 2 counted 2 of 3" ∷
    codes "7 refused 104 VoterNotSeated at 0" ∷
    codes "8 refused 103 VotingExpired at 0" ∷
    codes "9 refused 103 VotingExpired at 1" ∷
    codes "10 now slot 29 epoch 2 version 11.0 dormant 0" ∷
    codes "10 constitution 0000000000000000000000000000000000000000000000000000000000000001 none" ∷
    codes "10 committee threshold 0/1" ∷
    codes "10 member k00000000000000000000000000000000000000000000000000000070 term 100 hot k00000000000000000000000000000000000000000000000000000071" ∷
    codes "10 hot k00000000000000000000000000000000000000000000000000000060 k00000000000000000000000000000000000000000000000000000061" ∷
    codes "10 enacted committee none constitution none hardfork none parameters none" ∷
    codes "10 param maxBlockBodySize 90112" ∷
    codes "10 param maxTxSize 16384" ∷
    codes "10 param maxBlockHeaderSize 1100" ∷
    codes "10 param maxValueSize 5000" ∷
    codes "10 param maxTxExUnits 1000 1000" ∷
    codes "10 param maxBlockExUnits 1000 1000" ∷
    codes "10 param maxCollateralInputs 3" ∷
    codes "10 param minFeeA 0" ∷
    codes "10 param minFeeB 0" ∷
    codes "10 param keyDeposit 2" ∷
    codes "10 param poolDeposit 5" ∷
    codes "10 param rho 0/1" ∷
    codes "10 param tau 0/1" ∷
    codes "10 param minPoolCost 0" ∷
    codes "10 param coinsPerUTxOByte 0" ∷
    codes "10 param prices 0/1 0/1" ∷
    codes "10 param minFeeRefScriptCostPerByte 15/1" ∷
    codes "10 param a0 0/1" ∷
    codes "10 param eMax 18" ∷
    codes "10 param nOpt 500" ∷
    codes "10 param costModels 0000000000000000000000000000000000000000000000000000000000000000" ∷
    codes "10 param collateralPercentage 150" ∷
    codes "10 param poolVotingThresholds 0/1 0/1 0/1 0/1 0/1" ∷
    codes "10 param drepVotingThresholds 67/100 67/100 67/100 67/100 67/100 67/100 67/100 67/100 67/100 67/100" ∷
    codes "10 param govActionLifetime 1" ∷
    codes "10 param govActionDeposit 10" ∷
    codes "10 param drepDeposit 5" ∷
    codes "10 param drepActivity 20" ∷
    codes "10 param committeeMinSize 0" ∷
    codes "10 param committeeMaxTermLength 100" ∷
    codes "10 drep k00000000000000000000000000000000000000000000000000000030 deposit 5 expiry 20" ∷
    codes "10 drep k00000000000000000000000000000000000000000000000000000031 deposit 5 expiry 20" ∷
    codes "10 pool 00000000000000000000000000000000000000000000000000000050 deposit 5 cost 0 pledge 0 margin 0/1 account 1k00000000000000000000000000000000000000000000000000000012 retires never" ∷
    codes "10 account k00000000000000000000000000000000000000000000000000000010 stake 0 deposit 2 rewards 67 pool none drep k00000000000000000000000000000000000000000000000000000030" ∷
    codes "10 account k00000000000000000000000000000000000000000000000000000011 stake 0 deposit 2 rewards 33 pool none drep k00000000000000000000000000000000000000000000000000000031" ∷
    codes "10 account k00000000000000000000000000000000000000000000000000000012 stake 0 deposit 2 rewards 0 pool none drep none" ∷
    codes "10 output 0000000000000000000000000000000000000000000000000000000000000001#4 1k00000000000000000000000000000000000000000000000000000001 20" ∷
    codes "10 proposal 0000000000000000000000000000000000000000000000000000000000000002#0 UpdateCommittee deposit 10 return 1k00000000000000000000000000000000000000000000000000000012 expires 1 previous none" ∷
    codes "10 proposal 0000000000000000000000000000000000000000000000000000000000000002#1 Info deposit 10 return 1k00000000000000000000000000000000000000000000000000000012 expires 1 previous none" ∷
    codes "10 proposal 0000000000000000000000000000000000000000000000000000000000000003#0 Info deposit 10 return 1k00000000000000000000000000000000000000000000000000000012 expires 3 previous none" ∷
    codes "10 proposal 0000000000000000000000000000000000000000000000000000000000000003#1 UpdateCommittee deposit 10 return 1k00000000000000000000000000000000000000000000000000000012 expires 3 previous none" ∷
    codes "10 snapshot mark 00000000000000000000000000000000000000000000000000000050 0" ∷
    codes "10 snapshot set 00000000000000000000000000000000000000000000000000000050 0" ∷
    codes "10 snapshot go 00000000000000000000000000000000000000000000000000000050 0" ∷
    codes "10 snapshot fees 0" ∷
    codes "10 pending none" ∷
    codes "10 pots outputs 20 deposits 61 rewards 100 fees 0 donations 0 treasury 100 reserves 719 supply 1000" ∷
    []) ≡ true
unfolding digits encode_with
voting_ended_before_the_seat = refl

abbrev members_to_come_take_their_seats_input : List (ℕ × Reading)
members_to_come_take_their_seats_input =
    (1, Read (records.Genesis (record { network = 1; slot = 0; epoch_length = 10; version = (11, 0); supply = 1000; reserves = 659; treasury = 100; params = base_params; document = (h32 0x01); script = None; committee = (Some (record { threshold = (share 0 1); members = (((key 0x70), 100, (Some (key 0x71))) ∷ []) })); outputs = (((ref 0x01 2), (address_with 1 (key 0x01) None), 20, []) ∷ ((ref 0x01 3), (address_with 1 (key 0x01) None), 20, []) ∷ ((ref 0x01 4), (address_with 1 (key 0x01) None), 20, []) ∷ ((ref 0x01 5), (address_with 1 (key 0x01) None), 20, []) ∷ ((ref 0x01 6), (address_with 1 (key 0x01) None), 20, []) ∷ ((ref 0x01 7), (address_with 1 (key 0x01) None), 20, []) ∷ []); accounts = (((key 0x10), 2, 67, None, (Some (drep.Registered (key 0x30)))) ∷ ((key 0x11), 2, 33, None, (Some (drep.Registered (key 0x31)))) ∷ ((key 0x12), 2, 0, None, None) ∷ []); pools = ((record { pool = (pool 0x50); deposit = 5; cost = 0; pledge = 0; margin = (share 0 1); account = (account_on 1 (key 0x12)); key = None }) ∷ []); dreps = (((key 0x30), 5, 20) ∷ ((key 0x31), 5, 20) ∷ []) }))) ∷
    (2, Read (records.Tx (record (spend 0x02 10) { proposals = ((proposing 10 (account_on 1 (key 0x12)) (actions.UpdateCommittee None ((key 0x70) ∷ []) (((key 0x60), 50) ∷ []) (share 0 1))) ∷ []) }))) ∷
    (3, Read (records.Tx (record (spend 0x03 20) { votes = ((voting (voter.Drep (key 0x30)) (action 0x02 0) vote.Yes) ∷ []) }))) ∷
    (4, Read (records.Block 10 1)) ∷
    (5, Read (records.Tx (record (spend 0x04 10) { certs = ((certs.HotAuth (key 0x60) (key 0x61)) ∷ []); proposals = ((proposing 10 (account_on 1 (key 0x12)) (actions.Info)) ∷ []) }))) ∷
    (6, Read (records.Tx (record (spend 0x05 20) { votes = ((voting (voter.Committee (key 0x61)) (action 0x04 0) vote.Yes) ∷ []) }))) ∷
    (7, Read (records.Tx (record (spend 0x05 20) { votes = ((voting (voter.Committee (key 0x71)) (action 0x04 0) vote.Yes) ∷ []) }))) ∷
    (8, Read (records.Block 20 1)) ∷
    (9, Read (records.Tx (record (spend 0x06 20) { votes = ((voting (voter.Committee (key 0x61)) (action 0x04 0) vote.No) ∷ []) }))) ∷
    (10, Read (records.Tx (record (spend 0x07 20) { votes = ((voting (voter.Committee (key 0x71)) (action 0x04 0) vote.Yes) ∷ []) }))) ∷
    (11, Read (records.Print what.State)) ∷
    []

pub members_to_come_take_their_seats : says_all members_to_come_take_their_seats_input (
    codes "1 genesis outputs 120 deposits 21 rewards 100 fees 0 donations 0 treasury 100 reserves 659 supply 1000" ∷
    codes "2 accepted" ∷
    codes "3 accepted" ∷
    codes "4 epoch 1 frozen 3 dormant 0" ∷
    codes "4 stake k00000000000000000000000000000000000000000000000000000030 67" ∷
    codes "4 stake k00000000000000000000000000000000000000000000000000000031 33" ∷
    codes "4 pots outputs 80 deposits 31 rewards 100 fees 30 donations 0 treasury 100 reserves 659 supply 1000" ∷
    codes "4 block slot 10 epoch 1 counted 1 of 3" ∷
    codes "5 accepted" ∷
    codes "6 refused 104 VoterNotSeated at 0" ∷
    codes "7 accepted" ∷
    codes "8 epoch 2 frozen 3 dormant 0" ∷
    codes "8 stake k00000000000000000000000000000000000000000000000000000030 67" ∷
    codes "8 stake k00000000000000000000000000000000000000000000000000000031 33" ∷
    codes "8 tally 0000000000000000000000000000000000000000000000000000000000000002#0 UpdateCommittee committee 0/1 need none drep 67/100 need 67/100 pool 0/0 need 0/1 ratified" ∷
    codes "8 removed 0000000000000000000000000000000000000000000000000000000000000002#0 enacted refund 10 1k00000000000000000000000000000000000000000000000000000012" ∷
    codes "8 pots outputs 40 deposits 31 rewards 110 fees 60 donations 0 treasury 100 reserves 659 supply 1000" ∷
    codes "8 block slot 20 epoch 2 counted 1 of 3" ∷
    codes "9 accepted" ∷
    codes "10 refused 101 VoterUnknown at 0" ∷
    codes "11 now slot 20 epoch 2 version 11.0 dormant 0" ∷
    codes "11 constitution 0000000000000000000000000000000000000000000000000000000000000001 none" ∷
    codes "11 committee threshold 0/1" ∷
    codes "11 member k00000000000000000000000000000000000000000000000000000060 term 50 hot k00000000000000000000000000000000000000000000000000000061" ∷
    codes "11 enacted committee 0000000000000000000000000000000000000000000000000000000000000002#0 constitution none hardfork none parameters none" ∷
    codes "11 param maxBlockBodySize 90112" ∷
    codes "11 param maxTxSize 16384" ∷
    codes "11 param maxBlockHeaderSize 1100" ∷
    codes "11 param maxValueSize 5000" ∷
    codes "11 param maxTxExUnits 1000 1000" ∷
    codes "11 param maxBlockExUnits 1000 1000" ∷
    codes "11 param maxCollateralInputs 3" ∷
    codes "11 param minFeeA 0" ∷
    codes "11 param minFeeB 0" ∷
    codes "11 param keyDeposit 2" ∷
    codes "11 param poolDeposit 5" ∷
    codes "11 param rho 0/1" ∷
    codes "11 param tau 0/1" ∷
    codes "11 param minPoolCost 0" ∷
    codes "11 param coinsPerUTxOByte 0" ∷
    codes "11 param prices 0/1 0/1" ∷
    codes "11 param minFeeRefScriptCostPerByte 15/1" ∷
    codes "11 param a0 0/1" ∷
    codes "11 param eMax 18" ∷
    codes "11 param nOpt 500" ∷
    codes "11 param costModels 0000000000000000000000000000000000000000000000000000000000000000" ∷
    codes "11 param collateralPercentage 150" ∷
    codes "11 param poolVotingThresholds 0/1 0/1 0/1 0/1 0/1" ∷
    codes "11 param drepVotingThresholds 67/100 67/100 67/100 67/100 67/100 67/100 67/100 67/100 67/100 67/100" ∷
    codes "11 param govActionLifetime 2" ∷
    codes "11 param govActionDeposit 10" ∷
    codes "11 param drepDeposit 5" ∷
    codes "11 param drepActivity 20" ∷
    codes "11 param committeeMinSize 0" ∷
    codes "11 param committeeMaxTermLength 100" ∷
    codes "11 drep k00000000000000000000000000000000000000000000000000000030 deposit 5 expiry 20" ∷
    codes "11 drep k00000000000000000000000000000000000000000000000000000031 deposit 5 expiry 20" ∷
    codes "11 pool 00000000000000000000000000000000000000000000000000000050 deposit 5 cost 0 pledge 0 margin 0/1 account 1k00000000000000000000000000000000000000000000000000000012 retires never" ∷
    codes "11 account k00000000000000000000000000000000000000000000000000000010 stake 0 deposit 2 rewards 67 pool none drep k00000000000000000000000000000000000000000000000000000030" ∷
    codes "11 account k00000000000000000000000000000000000000000000000000000011 stake 0 deposit 2 rewards 33 pool none drep k00000000000000000000000000000000000000000000000000000031" ∷
    codes "11 account k00000000000000000000000000000000000000000000000000000012 stake 0 deposit 2 rewards 10 pool none drep none" ∷
    codes "11 output 0000000000000000000000000000000000000000000000000000000000000001#7 1k00000000000000000000000000000000000000000000000000000001 20" ∷
    codes "11 proposal 0000000000000000000000000000000000000000000000000000000000000004#0 Info deposit 10 return 1k00000000000000000000000000000000000000000000000000000012 expires 3 previous none" ∷
    codes "11 vote 0000000000000000000000000000000000000000000000000000000000000004#0 committee:k00000000000000000000000000000000000000000000000000000061 no" ∷
    codes "11 vote 0000000000000000000000000000000000000000000000000000000000000004#0 committee:k00000000000000000000000000000000000000000000000000000071 yes" ∷
    codes "11 snapshot mark 00000000000000000000000000000000000000000000000000000050 0" ∷
    codes "11 snapshot set 00000000000000000000000000000000000000000000000000000050 0" ∷
    codes "11 snapshot go 00000000000000000000000000000000000000000000000000000050 0" ∷
    codes "11 snapshot fees 60" ∷
    codes "11 pending none" ∷
    codes "11 pots outputs 20 deposits 31 rewards 110 fees 80 donations 0 treasury 100 reserves 659 supply 1000" ∷
    []) ≡ true
unfolding digits encode_with
members_to_come_take_their_seats = refl

abbrev members_whose_term_ended_input : List (ℕ × Reading)
members_whose_term_ended_input =
    (1, Read (records.Genesis (record { network = 1; slot = 0; epoch_length = 10; version = (11, 0); supply = 1000; reserves = 719; treasury = 100; params = base_params; document = (h32 0x01); script = None; committee = (Some (record { threshold = (share 0 1); members = (((key 0x70), 0, (Some (key 0x71))) ∷ ((key 0x72), 100, (Some (key 0x73))) ∷ []) })); outputs = (((ref 0x01 2), (address_with 1 (key 0x01) None), 20, []) ∷ ((ref 0x01 3), (address_with 1 (key 0x01) None), 20, []) ∷ ((ref 0x01 4), (address_with 1 (key 0x01) None), 20, []) ∷ []); accounts = (((key 0x10), 2, 67, None, (Some (drep.Registered (key 0x30)))) ∷ ((key 0x11), 2, 33, None, (Some (drep.Registered (key 0x31)))) ∷ ((key 0x12), 2, 0, None, None) ∷ []); pools = ((record { pool = (pool 0x50); deposit = 5; cost = 0; pledge = 0; margin = (share 0 1); account = (account_on 1 (key 0x12)); key = None }) ∷ []); dreps = (((key 0x30), 5, 20) ∷ ((key 0x31), 5, 20) ∷ []) }))) ∷
    (2, Read (records.Block 10 1)) ∷
    (3, Read (records.Tx (record (spend 0x02 10) { proposals = ((proposing 10 (account_on 1 (key 0x12)) (actions.NewConstitution None (h32 0x02) None)) ∷ []) }))) ∷
    (4, Read (records.Tx (record (spend 0x03 20) { votes = ((voting (voter.Committee (key 0x71)) (action 0x02 0) vote.Yes) ∷ (voting (voter.Committee (key 0x73)) (action 0x02 0) vote.No) ∷ []) }))) ∷
    (5, Read (records.Block 20 1)) ∷
    (6, Read (records.Tx (record (spend 0x04 20) { votes = ((voting (voter.Committee (key 0x71)) (action 0x02 0) vote.Abstain) ∷ (voting (voter.Committee (key 0x71)) (action 0x02 0) vote.Yes) ∷ []) }))) ∷
    (7, Read (records.Print what.State)) ∷
    (8, Read (records.Block 30 1)) ∷
    []

pub members_whose_term_ended : says_all members_whose_term_ended_input (
    codes "1 genesis outputs 60 deposits 21 rewards 100 fees 0 donations 0 treasury 100 reserves 719 supply 1000" ∷
    codes "2 epoch 1 frozen 3 dormant 1" ∷
    codes "2 stake k00000000000000000000000000000000000000000000000000000030 67" ∷
    codes "2 stake k00000000000000000000000000000000000000000000000000000031 33" ∷
    codes "2 pots outputs 60 deposits 21 rewards 100 fees 0 donations 0 treasury 100 reserves 719 supply 1000" ∷
    codes "2 block slot 10 epoch 1 counted 1 of 3" ∷
    codes "3 accepted" ∷
    codes "4 accepted" ∷
    codes "5 epoch 2 frozen 3 dormant 0" ∷
    codes "5 stake k00000000000000000000000000000000000000000000000000000030 67" ∷
    codes "5 stake k00000000000000000000000000000000000000000000000000000031 33" ∷
    codes "5 pots outputs 20 deposits 31 rewards 100 fees 30 donations 0 treasury 100 reserves 719 supply 1000" ∷
    codes "5 block slot 20 epoch 2 counted 1 of 3" ∷
    codes "6 accepted" ∷
    codes "7 now slot 20 epoch 2 version 11.0 dormant 0" ∷
    codes "7 constitution 0000000000000000000000000000000000000000000000000000000000000001 none" ∷
    codes "7 committee threshold 0/1" ∷
    codes "7 member k00000000000000000000000000000000000000000000000000000070 term 0 hot k00000000000000000000000000000000000000000000000000000071" ∷
    codes "7 member k00000000000000000000000000000000000000000000000000000072 term 100 hot k00000000000000000000000000000000000000000000000000000073" ∷
    codes "7 enacted committee none constitution none hardfork none parameters none" ∷
    codes "7 param maxBlockBodySize 90112" ∷
    codes "7 param maxTxSize 16384" ∷
    codes "7 param maxBlockHeaderSize 1100" ∷
    codes "7 param maxValueSize 5000" ∷
    codes "7 param maxTxExUnits 1000 1000" ∷
    codes "7 param maxBlockExUnits 1000 1000" ∷
    codes "7 param maxCollateralInputs 3" ∷
    codes "7 param minFeeA 0" ∷
    codes "7 param minFeeB 0" ∷
    codes "7 param keyDeposit 2" ∷
    codes "7 param poolDeposit 5" ∷
    codes "7 param rho 0/1" ∷
    codes "7 param tau 0/1" ∷
    codes "7 param minPoolCost 0" ∷
    codes "7 param coinsPerUTxOByte 0" ∷
    codes "7 param prices 0/1 0/1" ∷
    codes "7 param minFeeRefScriptCostPerByte 15/1" ∷
    codes "7 param a0 0/1" ∷
    codes "7 param eMax 18" ∷
    codes "7 param nOpt 500" ∷
    codes "7 param costModels 0000000000000000000000000000000000000000000000000000000000000000" ∷
    codes "7 param collateralPercentage 150" ∷
    codes "7 param poolVotingThresholds 0/1 0/1 0/1 0/1 0/1" ∷
    codes "7 param drepVotingThresholds 67/100 67/100 67/100 67/100 67/100 67/100 67/100 67/100 67/100 67/100" ∷
    codes "7 param govActionLifetime 2" ∷
    codes "7 param govActionDeposit 10" ∷
    codes "7 param drepDeposit 5" ∷
    codes "7 param drepActivity 20" ∷
    codes "7 param committeeMinSize 0" ∷
    codes "7 param committeeMaxTermLength 100" ∷
    codes "7 drep k00000000000000000000000000000000000000000000000000000030 deposit 5 expiry 21" ∷
    codes "7 drep k00000000000000000000000000000000000000000000000000000031 deposit 5 expiry 21" ∷
    codes "7 pool 00000000000000000000000000000000000000000000000000000050 deposit 5 cost 0 pledge 0 margin 0/1 account 1k00000000000000000000000000000000000000000000000000000012 retires never" ∷
    codes "7 account k00000000000000000000000000000000000000000000000000000010 stake 0 deposit 2 rewards 67 pool none drep k00000000000000000000000000000000000000000000000000000030" ∷
    codes "7 account k00000000000000000000000000000000000000000000000000000011 stake 0 deposit 2 rewards 33 pool none drep k00000000000000000000000000000000000000000000000000000031" ∷
    codes "7 account k00000000000000000000000000000000000000000000000000000012 stake 0 deposit 2 rewards 0 pool none drep none" ∷
    codes "7 proposal 0000000000000000000000000000000000000000000000000000000000000002#0 NewConstitution deposit 10 return 1k00000000000000000000000000000000000000000000000000000012 expires 3 previous none" ∷
    codes "7 vote 0000000000000000000000000000000000000000000000000000000000000002#0 committee:k00000000000000000000000000000000000000000000000000000071 yes" ∷
    codes "7 vote 0000000000000000000000000000000000000000000000000000000000000002#0 committee:k00000000000000000000000000000000000000000000000000000073 no" ∷
    codes "7 snapshot mark 00000000000000000000000000000000000000000000000000000050 0" ∷
    codes "7 snapshot set 00000000000000000000000000000000000000000000000000000050 0" ∷
    codes "7 snapshot go 00000000000000000000000000000000000000000000000000000050 0" ∷
    codes "7 snapshot fees 30" ∷
    codes "7 pending none" ∷
    codes "7 pots outputs 0 deposits 31 rewards 100 fees 50 donations 0 treasury 100 reserves 719 supply 1000" ∷
    codes "8 epoch 3 frozen 3 dormant 0" ∷
    codes "8 stake k00000000000000000000000000000000000000000000000000000030 67" ∷
    codes "8 stake k00000000000000000000000000000000000000000000000000000031 33" ∷
    codes "8 tally 0000000000000000000000000000000000000000000000000000000000000002#0 NewConstitution committee 0/1 need 0/1 drep 0/100 need 67/100 pool 0/0 need none waiting" ∷
    codes "8 pots outputs 0 deposits 31 rewards 100 fees 50 donations 0 treasury 100 reserves 719 supply 1000" ∷
    codes "8 block slot 30 epoch 3 counted 1 of 3" ∷
    []) ≡ true
unfolding digits encode_with
members_whose_term_ended = refl

abbrev one_hot_key_of_two_members_input : List (ℕ × Reading)
one_hot_key_of_two_members_input =
    (1, Read (records.Genesis (record { network = 1; slot = 0; epoch_length = 10; version = (11, 0); supply = 1000; reserves = 639; treasury = 100; params = base_params; document = (h32 0x01); script = None; committee = (Some (record { threshold = (share 0 1); members = (((key 0x70), 100, (Some (key 0x71))) ∷ ((key 0x72), 100, (Some (key 0x71))) ∷ ((key 0x74), 100, (Some (key 0x75))) ∷ []) })); outputs = (((ref 0x01 2), (address_with 1 (key 0x01) None), 20, []) ∷ ((ref 0x01 3), (address_with 1 (key 0x01) None), 20, []) ∷ ((ref 0x01 4), (address_with 1 (key 0x01) None), 20, []) ∷ ((ref 0x01 5), (address_with 1 (key 0x01) None), 20, []) ∷ ((ref 0x01 6), (address_with 1 (key 0x01) None), 20, []) ∷ ((ref 0x01 7), (address_with 1 (key 0x01) None), 20, []) ∷ ((ref 0x01 8), (address_with 1 (key 0x01) None), 20, []) ∷ []); accounts = (((key 0x10), 2, 67, None, (Some (drep.Registered (key 0x30)))) ∷ ((key 0x11), 2, 33, None, (Some (drep.Registered (key 0x31)))) ∷ ((key 0x12), 2, 0, None, None) ∷ []); pools = ((record { pool = (pool 0x50); deposit = 5; cost = 0; pledge = 0; margin = (share 0 1); account = (account_on 1 (key 0x12)); key = None }) ∷ []); dreps = (((key 0x30), 5, 20) ∷ ((key 0x31), 5, 20) ∷ []) }))) ∷
    (2, Read (records.Tx (record (spend 0x02 0) { proposals = ((proposing 10 (account_on 1 (key 0x12)) (actions.UpdateCommittee None [] (((key 0x60), 50) ∷ ((key 0x99), 50) ∷ []) (share 0 1))) ∷ (proposing 10 (account_on 1 (key 0x12)) (actions.Info)) ∷ []) }))) ∷
    (3, Read (records.Tx (record (spend 0x03 20) { certs = ((certs.HotResign (key 0x72)) ∷ []); votes = ((voting (voter.Committee (key 0x71)) (action 0x02 1) vote.Yes) ∷ []) }))) ∷
    (4, Read (records.Tx (record (spend 0x04 20) { certs = ((certs.HotAuth (key 0x60) (key 0x71)) ∷ (certs.HotAuth (key 0x99) (key 0x71)) ∷ []) }))) ∷
    (5, Read (records.Tx (record (spend 0x05 20) { votes = ((voting (voter.Committee (key 0x71)) (action 0x02 1) vote.No) ∷ []) }))) ∷
    (6, Read (records.Tx (record (spend 0x06 20) { certs = ((certs.HotAuth (key 0x70) (key 0x73)) ∷ []); votes = ((voting (voter.Committee (key 0x71)) (action 0x02 1) vote.Yes) ∷ []) }))) ∷
    (7, Read (records.Tx (record (spend 0x06 20) { certs = ((certs.HotAuth (key 0x70) (key 0x73)) ∷ []); votes = ((voting (voter.Committee (key 0x73)) (action 0x02 1) vote.Yes) ∷ []) }))) ∷
    (8, Read (records.Tx (record (spend 0x07 20) { votes = ((voting (voter.Committee (key 0x71)) (action 0x02 1) vote.Yes) ∷ []) }))) ∷
    (9, Read (records.Tx (record (spend 0x07 20) { certs = ((certs.HotAuth (key 0x60) (key 0x75)) ∷ (certs.HotAuth (key 0x99) (key 0x75)) ∷ []); votes = ((voting (voter.Committee (key 0x75)) (action 0x02 1) vote.Yes) ∷ []) }))) ∷
    (10, Read (records.Tx (record (spend 0x08 20) { votes = ((voting (voter.Committee (key 0x71)) (action 0x02 1) vote.Yes) ∷ []) }))) ∷
    (11, Read (records.Tx (record (spend 0x08 20) { certs = ((certs.HotResign (key 0x74)) ∷ []); votes = ((voting (voter.Committee (key 0x75)) (action 0x02 1) vote.Yes) ∷ []) }))) ∷
    (12, Read (records.Print what.State)) ∷
    []

pub one_hot_key_of_two_members : says_all one_hot_key_of_two_members_input (
    codes "1 genesis outputs 140 deposits 21 rewards 100 fees 0 donations 0 treasury 100 reserves 639 supply 1000" ∷
    codes "2 accepted" ∷
    codes "3 accepted" ∷
    codes "4 accepted" ∷
    codes "5 accepted" ∷
    codes "6 refused 104 VoterNotSeated at 0" ∷
    codes "7 accepted" ∷
    codes "8 refused 104 VoterNotSeated at 0" ∷
    codes "9 accepted" ∷
    codes "10 refused 101 VoterUnknown at 0" ∷
    codes "11 refused 104 VoterNotSeated at 0" ∷
    codes "12 now slot 0 epoch 0 version 11.0 dormant 0" ∷
    codes "12 constitution 0000000000000000000000000000000000000000000000000000000000000001 none" ∷
    codes "12 committee threshold 0/1" ∷
    codes "12 member k00000000000000000000000000000000000000000000000000000070 term 100 hot k00000000000000000000000000000000000000000000000000000073" ∷
    codes "12 member k00000000000000000000000000000000000000000000000000000072 term 100 hot resigned" ∷
    codes "12 member k00000000000000000000000000000000000000000000000000000074 term 100 hot k00000000000000000000000000000000000000000000000000000075" ∷
    codes "12 hot k00000000000000000000000000000000000000000000000000000060 k00000000000000000000000000000000000000000000000000000075" ∷
    codes "12 hot k00000000000000000000000000000000000000000000000000000099 k00000000000000000000000000000000000000000000000000000075" ∷
    codes "12 enacted committee none constitution none hardfork none parameters none" ∷
    codes "12 param maxBlockBodySize 90112" ∷
    codes "12 param maxTxSize 16384" ∷
    codes "12 param maxBlockHeaderSize 1100" ∷
    codes "12 param maxValueSize 5000" ∷
    codes "12 param maxTxExUnits 1000 1000" ∷
    codes "12 param maxBlockExUnits 1000 1000" ∷
    codes "12 param maxCollateralInputs 3" ∷
    codes "12 param minFeeA 0" ∷
    codes "12 param minFeeB 0" ∷
    codes "12 param keyDeposit 2" ∷
    codes "12 param poolDeposit 5" ∷
    codes "12 param rho 0/1" ∷
    codes "12 param tau 0/1" ∷
    codes "12 param minPoolCost 0" ∷
    codes "12 param coinsPerUTxOByte 0" ∷
    codes "12 param prices 0/1 0/1" ∷
    codes "12 param minFeeRefScriptCostPerByte 15/1" ∷
    codes "12 param a0 0/1" ∷
    codes "12 param eMax 18" ∷
    codes "12 param nOpt 500" ∷
    codes "12 param costModels 0000000000000000000000000000000000000000000000000000000000000000" ∷
    codes "12 param collateralPercentage 150" ∷
    codes "12 param poolVotingThresholds 0/1 0/1 0/1 0/1 0/1" ∷
    codes "12 param drepVotingThresholds 67/100 67/100 67/100 67/100 67/100 67/100 67/100 67/100 67/100 67/100" ∷
    codes "12 param govActionLifetime 2" ∷
    codes "12 param govActionDeposit 10" ∷
    codes "12 param drepDeposit 5" ∷
    codes "12 param drepActivity 20" ∷
    codes "12 param committeeMinSize 0" ∷
    codes "12 param committeeMaxTermLength 100" ∷
    codes "12 drep k00000000000000000000000000000000000000000000000000000030 deposit 5 expiry 20" ∷
    codes "12 drep k00000000000000000000000000000000000000000000000000000031 deposit 5 expiry 20" ∷
    codes "12 pool 00000000000000000000000000000000000000000000000000000050 deposit 5 cost 0 pledge 0 margin 0/1 account 1k00000000000000000000000000000000000000000000000000000012 retires never" ∷
    codes "12 account k00000000000000000000000000000000000000000000000000000010 stake 0 deposit 2 rewards 67 pool none drep k00000000000000000000000000000000000000000000000000000030" ∷
    codes "12 account k00000000000000000000000000000000000000000000000000000011 stake 0 deposit 2 rewards 33 pool none drep k00000000000000000000000000000000000000000000000000000031" ∷
    codes "12 account k00000000000000000000000000000000000000000000000000000012 stake 0 deposit 2 rewards 0 pool none drep none" ∷
    codes "12 output 0000000000000000000000000000000000000000000000000000000000000001#8 1k00000000000000000000000000000000000000000000000000000001 20" ∷
    codes "12 proposal 0000000000000000000000000000000000000000000000000000000000000002#0 UpdateCommittee deposit 10 return 1k00000000000000000000000000000000000000000000000000000012 expires 2 previous none" ∷
    codes "12 proposal 0000000000000000000000000000000000000000000000000000000000000002#1 Info deposit 10 return 1k00000000000000000000000000000000000000000000000000000012 expires 2 previous none" ∷
    codes "12 vote 0000000000000000000000000000000000000000000000000000000000000002#1 committee:k00000000000000000000000000000000000000000000000000000071 no" ∷
    codes "12 vote 0000000000000000000000000000000000000000000000000000000000000002#1 committee:k00000000000000000000000000000000000000000000000000000073 yes" ∷
    codes "12 vote 0000000000000000000000000000000000000000000000000000000000000002#1 committee:k00000000000000000000000000000000000000000000000000000075 yes" ∷
    codes "12 snapshot mark 00000000000000000000000000000000000000000000000000000050 0" ∷
    codes "12 snapshot fees 0" ∷
    codes "12 pending none" ∷
    codes "12 pots outputs 20 deposits 41 rewards 100 fees 100 donations 0 treasury 100 reserves 639 supply 1000" ∷
    []) ≡ true
unfolding digits encode_with
one_hot_key_of_two_members = refl

abbrev resigned_and_authorized_again_input : List (ℕ × Reading)
resigned_and_authorized_again_input =
    (1, Read (records.Genesis (record { network = 1; slot = 0; epoch_length = 10; version = (11, 0); supply = 1000; reserves = 659; treasury = 100; params = (record base_params { gov_action_lifetime = 5 }); document = (h32 0x01); script = None; committee = (Some (record { threshold = (share 0 1); members = (((key 0x70), 100, (Some (key 0x71))) ∷ ((key 0x72), 100, (Some (key 0x73))) ∷ []) })); outputs = (((ref 0x01 2), (address_with 1 (key 0x01) None), 20, []) ∷ ((ref 0x01 3), (address_with 1 (key 0x01) None), 20, []) ∷ ((ref 0x01 4), (address_with 1 (key 0x01) None), 20, []) ∷ ((ref 0x01 5), (address_with 1 (key 0x01) None), 20, []) ∷ ((ref 0x01 6), (address_with 1 (key 0x01) None), 20, []) ∷ ((ref 0x01 7), (address_with 1 (key 0x01) None), 20, []) ∷ []); accounts = (((key 0x10), 2, 67, None, (Some (drep.Registered (key 0x30)))) ∷ ((key 0x11), 2, 33, None, (Some (drep.Registered (key 0x31)))) ∷ ((key 0x12), 2, 0, None, None) ∷ []); pools = ((record { pool = (pool 0x50); deposit = 5; cost = 0; pledge = 0; margin = (share 0 1); account = (account_on 1 (key 0x12)); key = None }) ∷ []); dreps = (((key 0x30), 5, 20) ∷ ((key 0x31), 5, 20) ∷ []) }))) ∷
    (2, Read (records.Tx (record (spend 0x02 0) { certs = ((certs.HotResign (key 0x70)) ∷ []); proposals = ((proposing 10 (account_on 1 (key 0x12)) (actions.UpdateCommittee None ((key 0x70) ∷ []) [] (share 0 1))) ∷ (proposing 10 (account_on 1 (key 0x12)) (actions.Info)) ∷ []) }))) ∷
    (3, Read (records.Tx (record (spend 0x03 20) { votes = ((voting (voter.Committee (key 0x71)) (action 0x02 1) vote.Yes) ∷ []) }))) ∷
    (4, Read (records.Tx (record (spend 0x03 20) { votes = ((voting (voter.Drep (key 0x30)) (action 0x02 0) vote.Yes) ∷ (voting (voter.Committee (key 0x73)) (action 0x02 1) vote.Yes) ∷ []) }))) ∷
    (5, Read (records.Block 10 1)) ∷
    (6, Read (records.Block 20 1)) ∷
    (7, Read (records.Tx (record (spend 0x04 10) { proposals = ((proposing 10 (account_on 1 (key 0x12)) (actions.UpdateCommittee (Some (action 0x02 0)) [] (((key 0x70), 50) ∷ []) (share 0 1))) ∷ []) }))) ∷
    (8, Read (records.Tx (record (spend 0x05 20) { certs = ((certs.HotAuth (key 0x70) (key 0x71)) ∷ []); votes = ((voting (voter.Drep (key 0x30)) (action 0x04 0) vote.Yes) ∷ []) }))) ∷
    (9, Read (records.Tx (record (spend 0x06 20) { votes = ((voting (voter.Committee (key 0x71)) (action 0x02 1) vote.Yes) ∷ []) }))) ∷
    (10, Read (records.Block 30 1)) ∷
    (11, Read (records.Tx (record (spend 0x06 20) { votes = ((voting (voter.Committee (key 0x71)) (action 0x02 1) vote.Yes) ∷ []) }))) ∷
    (12, Read (records.Tx (record (spend 0x06 20) { certs = ((certs.HotAuth (key 0x70) (key 0x71)) ∷ []); votes = ((voting (voter.Committee (key 0x71)) (action 0x02 1) vote.Yes) ∷ []) }))) ∷
    (13, Read (records.Tx (record (spend 0x06 20) { certs = ((certs.HotAuth (key 0x70) (key 0x71)) ∷ []) }))) ∷
    (14, Read (records.Block 40 1)) ∷
    (15, Read (records.Tx (record (spend 0x07 20) { votes = ((voting (voter.Committee (key 0x71)) (action 0x02 1) vote.Yes) ∷ []) }))) ∷
    (16, Read (records.Print what.State)) ∷
    []

pub resigned_and_authorized_again : says_all resigned_and_authorized_again_input (
    codes "1 genesis outputs 120 deposits 21 rewards 100 fees 0 donations 0 treasury 100 reserves 659 supply 1000" ∷
    codes "2 accepted" ∷
    codes "3 refused 101 VoterUnknown at 0" ∷
    codes "4 accepted" ∷
    codes "5 epoch 1 frozen 3 dormant 0" ∷
    codes "5 stake k00000000000000000000000000000000000000000000000000000030 67" ∷
    codes "5 stake k00000000000000000000000000000000000000000000000000000031 33" ∷
    codes "5 pots outputs 80 deposits 41 rewards 100 fees 20 donations 0 treasury 100 reserves 659 supply 1000" ∷
    codes "5 block slot 10 epoch 1 counted 1 of 3" ∷
    codes "6 epoch 2 frozen 3 dormant 0" ∷
    codes "6 stake k00000000000000000000000000000000000000000000000000000030 67" ∷
    codes "6 stake k00000000000000000000000000000000000000000000000000000031 33" ∷
    codes "6 tally 0000000000000000000000000000000000000000000000000000000000000002#0 UpdateCommittee committee 0/1 need none drep 67/100 need 67/100 pool 0/0 need 0/1 ratified" ∷
    codes "6 tally 0000000000000000000000000000000000000000000000000000000000000002#1 Info committee 1/1 need never drep 0/100 need never pool 0/0 need never waiting" ∷
    codes "6 removed 0000000000000000000000000000000000000000000000000000000000000002#0 enacted refund 10 1k00000000000000000000000000000000000000000000000000000012" ∷
    codes "6 pots outputs 80 deposits 31 rewards 110 fees 20 donations 0 treasury 100 reserves 659 supply 1000" ∷
    codes "6 block slot 20 epoch 2 counted 1 of 3" ∷
    codes "7 accepted" ∷
    codes "8 accepted" ∷
    codes "9 refused 104 VoterNotSeated at 0" ∷
    codes "10 epoch 3 frozen 3 dormant 0" ∷
    codes "10 stake k00000000000000000000000000000000000000000000000000000030 67" ∷
    codes "10 stake k00000000000000000000000000000000000000000000000000000031 33" ∷
    codes "10 tally 0000000000000000000000000000000000000000000000000000000000000002#1 Info committee 1/1 need never drep 0/100 need never pool 0/0 need never waiting" ∷
    codes "10 pots outputs 40 deposits 41 rewards 110 fees 50 donations 0 treasury 100 reserves 659 supply 1000" ∷
    codes "10 block slot 30 epoch 3 counted 1 of 3" ∷
    codes "11 refused 101 VoterUnknown at 0" ∷
    codes "12 refused 104 VoterNotSeated at 0" ∷
    codes "13 accepted" ∷
    codes "14 epoch 4 frozen 3 dormant 0" ∷
    codes "14 stake k00000000000000000000000000000000000000000000000000000030 67" ∷
    codes "14 stake k00000000000000000000000000000000000000000000000000000031 33" ∷
    codes "14 tally 0000000000000000000000000000000000000000000000000000000000000004#0 UpdateCommittee committee 0/1 need none drep 67/100 need 67/100 pool 0/0 need 0/1 ratified" ∷
    codes "14 tally 0000000000000000000000000000000000000000000000000000000000000002#1 Info committee 1/1 need never drep 0/100 need never pool 0/0 need never waiting" ∷
    codes "14 removed 0000000000000000000000000000000000000000000000000000000000000004#0 enacted refund 10 1k00000000000000000000000000000000000000000000000000000012" ∷
    codes "14 pots outputs 20 deposits 31 rewards 120 fees 70 donations 0 treasury 100 reserves 659 supply 1000" ∷
    codes "14 block slot 40 epoch 4 counted 1 of 3" ∷
    codes "15 accepted" ∷
    codes "16 now slot 40 epoch 4 version 11.0 dormant 0" ∷
    codes "16 constitution 0000000000000000000000000000000000000000000000000000000000000001 none" ∷
    codes "16 committee threshold 0/1" ∷
    codes "16 member k00000000000000000000000000000000000000000000000000000070 term 50 hot k00000000000000000000000000000000000000000000000000000071" ∷
    codes "16 member k00000000000000000000000000000000000000000000000000000072 term 100 hot k00000000000000000000000000000000000000000000000000000073" ∷
    codes "16 enacted committee 0000000000000000000000000000000000000000000000000000000000000004#0 constitution none hardfork none parameters none" ∷
    codes "16 param maxBlockBodySize 90112" ∷
    codes "16 param maxTxSize 16384" ∷
    codes "16 param maxBlockHeaderSize 1100" ∷
    codes "16 param maxValueSize 5000" ∷
    codes "16 param maxTxExUnits 1000 1000" ∷
    codes "16 param maxBlockExUnits 1000 1000" ∷
    codes "16 param maxCollateralInputs 3" ∷
    codes "16 param minFeeA 0" ∷
    codes "16 param minFeeB 0" ∷
    codes "16 param keyDeposit 2" ∷
    codes "16 param poolDeposit 5" ∷
    codes "16 param rho 0/1" ∷
    codes "16 param tau 0/1" ∷
    codes "16 param minPoolCost 0" ∷
    codes "16 param coinsPerUTxOByte 0" ∷
    codes "16 param prices 0/1 0/1" ∷
    codes "16 param minFeeRefScriptCostPerByte 15/1" ∷
    codes "16 param a0 0/1" ∷
    codes "16 param eMax 18" ∷
    codes "16 param nOpt 500" ∷
    codes "16 param costModels 0000000000000000000000000000000000000000000000000000000000000000" ∷
    codes "16 param collateralPercentage 150" ∷
    codes "16 param poolVotingThresholds 0/1 0/1 0/1 0/1 0/1" ∷
    codes "16 param drepVotingThresholds 67/100 67/100 67/100 67/100 67/100 67/100 67/100 67/100 67/100 67/100" ∷
    codes "16 param govActionLifetime 5" ∷
    codes "16 param govActionDeposit 10" ∷
    codes "16 param drepDeposit 5" ∷
    codes "16 param drepActivity 20" ∷
    codes "16 param committeeMinSize 0" ∷
    codes "16 param committeeMaxTermLength 100" ∷
    codes "16 drep k00000000000000000000000000000000000000000000000000000030 deposit 5 expiry 22" ∷
    codes "16 drep k00000000000000000000000000000000000000000000000000000031 deposit 5 expiry 20" ∷
    codes "16 pool 00000000000000000000000000000000000000000000000000000050 deposit 5 cost 0 pledge 0 margin 0/1 account 1k00000000000000000000000000000000000000000000000000000012 retires never" ∷
    codes "16 account k00000000000000000000000000000000000000000000000000000010 stake 0 deposit 2 rewards 67 pool none drep k00000000000000000000000000000000000000000000000000000030" ∷
    codes "16 account k00000000000000000000000000000000000000000000000000000011 stake 0 deposit 2 rewards 33 pool none drep k00000000000000000000000000000000000000000000000000000031" ∷
    codes "16 account k00000000000000000000000000000000000000000000000000000012 stake 0 deposit 2 rewards 20 pool none drep none" ∷
    codes "16 proposal 0000000000000000000000000000000000000000000000000000000000000002#1 Info deposit 10 return 1k00000000000000000000000000000000000000000000000000000012 expires 5 previous none" ∷
    codes "16 vote 0000000000000000000000000000000000000000000000000000000000000002#1 committee:k00000000000000000000000000000000000000000000000000000071 yes" ∷
    codes "16 vote 0000000000000000000000000000000000000000000000000000000000000002#1 committee:k00000000000000000000000000000000000000000000000000000073 yes" ∷
    codes "16 snapshot mark 00000000000000000000000000000000000000000000000000000050 0" ∷
    codes "16 snapshot set 00000000000000000000000000000000000000000000000000000050 0" ∷
    codes "16 snapshot go 00000000000000000000000000000000000000000000000000000050 0" ∷
    codes "16 snapshot fees 70" ∷
    codes "16 pending none" ∷
    codes "16 pots outputs 0 deposits 31 rewards 120 fees 90 donations 0 treasury 100 reserves 659 supply 1000" ∷
    []) ≡ true
unfolding digits encode_with
resigned_and_authorized_again = refl

abbrev votes_that_stand_at_the_fork_input : List (ℕ × Reading)
votes_that_stand_at_the_fork_input =
    (1, Read (records.Genesis (record { network = 1; slot = 0; epoch_length = 10; version = (10, 0); supply = 1000; reserves = 659; treasury = 100; params = (record base_params { gov_action_lifetime = 6 }); document = (h32 0x01); script = None; committee = (Some (record { threshold = (share 0 1); members = (((key 0x70), 100, (Some (key 0x71))) ∷ []) })); outputs = (((ref 0x01 2), (address_with 1 (key 0x01) None), 20, []) ∷ ((ref 0x01 3), (address_with 1 (key 0x01) None), 20, []) ∷ ((ref 0x01 4), (address_with 1 (key 0x01) None), 20, []) ∷ ((ref 0x01 5), (address_with 1 (key 0x01) None), 20, []) ∷ ((ref 0x01 6), (address_with 1 (key 0x01) None), 20, []) ∷ ((ref 0x01 7), (address_with 1 (key 0x01) None), 20, []) ∷ []); accounts = (((key 0x10), 2, 67, None, (Some (drep.Registered (key 0x30)))) ∷ ((key 0x11), 2, 33, None, (Some (drep.Registered (key 0x31)))) ∷ ((key 0x12), 2, 0, None, None) ∷ []); pools = ((record { pool = (pool 0x50); deposit = 5; cost = 0; pledge = 0; margin = (share 0 1); account = (account_on 1 (key 0x12)); key = None }) ∷ []); dreps = (((key 0x30), 5, 20) ∷ ((key 0x31), 5, 20) ∷ []) }))) ∷
    (2, Read (records.Tx (record (spend 0x02 0) { proposals = ((proposing 10 (account_on 1 (key 0x12)) (actions.HardForkInitiation None (11, 0))) ∷ (proposing 10 (account_on 1 (key 0x12)) (actions.UpdateCommittee None [] (((key 0x60), 50) ∷ []) (share 0 1))) ∷ []) }))) ∷
    (3, Read (records.Tx (record (spend 0x03 10) { proposals = ((proposing 10 (account_on 1 (key 0x12)) (actions.NewConstitution None (h32 0x02) None)) ∷ []); votes = ((voting (voter.Drep (key 0x30)) (action 0x02 0) vote.Yes) ∷ []) }))) ∷
    (4, Read (records.Tx (record (spend 0x04 20) { certs = ((certs.HotAuth (key 0x60) (key 0x61)) ∷ []); votes = ((voting (voter.Committee (key 0x61)) (action 0x03 0) vote.Yes) ∷ (voting (voter.Committee (key 0x71)) (action 0x03 0) vote.No) ∷ []) }))) ∷
    (5, Read (records.Block 10 1)) ∷
    (6, Read (records.Block 20 1)) ∷
    (7, Read (records.Tx (record (spend 0x05 20) { certs = ((certs.HotAuth (key 0x60) (key 0x61)) ∷ []); votes = ((voting (voter.Committee (key 0x61)) (action 0x03 0) vote.No) ∷ []) }))) ∷
    (8, Read (records.Tx (record (spend 0x05 20) { votes = ((voting (voter.Drep (key 0x30)) (action 0x02 1) vote.Yes) ∷ (voting (voter.Committee (key 0x71)) (action 0x03 0) vote.Abstain) ∷ []) }))) ∷
    (9, Read (records.Print what.State)) ∷
    (10, Read (records.Block 30 1)) ∷
    (11, Read (records.Tx (record (spend 0x06 20) { certs = ((certs.HotAuth (key 0x60) (key 0x61)) ∷ []) }))) ∷
    (12, Read (records.Block 40 1)) ∷
    (13, Read (records.Block 50 1)) ∷
    (14, Read (records.Tx (record (spend 0x07 20) { votes = ((voting (voter.Committee (key 0x61)) (action 0x03 0) vote.No) ∷ []) }))) ∷
    (15, Read (records.Print what.State)) ∷
    []

pub votes_that_stand_at_the_fork : says_all votes_that_stand_at_the_fork_input (
    codes "1 genesis outputs 120 deposits 21 rewards 100 fees 0 donations 0 treasury 100 reserves 659 supply 1000" ∷
    codes "2 accepted" ∷
    codes "3 accepted" ∷
    codes "4 accepted" ∷
    codes "5 epoch 1 frozen 3 dormant 0" ∷
    codes "5 stake k00000000000000000000000000000000000000000000000000000030 67" ∷
    codes "5 stake k00000000000000000000000000000000000000000000000000000031 33" ∷
    codes "5 pots outputs 60 deposits 51 rewards 100 fees 30 donations 0 treasury 100 reserves 659 supply 1000" ∷
    codes "5 block slot 10 epoch 1 counted 1 of 3" ∷
    codes "6 epoch 2 frozen 3 dormant 0" ∷
    codes "6 stake k00000000000000000000000000000000000000000000000000000030 67" ∷
    codes "6 stake k00000000000000000000000000000000000000000000000000000031 33" ∷
    codes "6 tally 0000000000000000000000000000000000000000000000000000000000000002#1 UpdateCommittee committee 0/1 need none drep 0/100 need 67/100 pool 0/0 need 0/1 waiting" ∷
    codes "6 tally 0000000000000000000000000000000000000000000000000000000000000003#0 NewConstitution committee 0/1 need 0/1 drep 0/100 need 67/100 pool 0/0 need none waiting" ∷
    codes "6 tally 0000000000000000000000000000000000000000000000000000000000000002#0 HardForkInitiation committee 0/1 need 0/1 drep 67/100 need 67/100 pool 0/0 need 0/1 ratified" ∷
    codes "6 removed 0000000000000000000000000000000000000000000000000000000000000002#0 enacted refund 10 1k00000000000000000000000000000000000000000000000000000012" ∷
    codes "6 pots outputs 60 deposits 41 rewards 110 fees 30 donations 0 treasury 100 reserves 659 supply 1000" ∷
    codes "6 block slot 20 epoch 2 counted 1 of 3" ∷
    codes "7 refused 104 VoterNotSeated at 0" ∷
    codes "8 accepted" ∷
    codes "9 now slot 20 epoch 2 version 11.0 dormant 0" ∷
    codes "9 constitution 0000000000000000000000000000000000000000000000000000000000000001 none" ∷
    codes "9 committee threshold 0/1" ∷
    codes "9 member k00000000000000000000000000000000000000000000000000000070 term 100 hot k00000000000000000000000000000000000000000000000000000071" ∷
    codes "9 enacted committee none constitution none hardfork 0000000000000000000000000000000000000000000000000000000000000002#0 parameters none" ∷
    codes "9 param maxBlockBodySize 90112" ∷
    codes "9 param maxTxSize 16384" ∷
    codes "9 param maxBlockHeaderSize 1100" ∷
    codes "9 param maxValueSize 5000" ∷
    codes "9 param maxTxExUnits 1000 1000" ∷
    codes "9 param maxBlockExUnits 1000 1000" ∷
    codes "9 param maxCollateralInputs 3" ∷
    codes "9 param minFeeA 0" ∷
    codes "9 param minFeeB 0" ∷
    codes "9 param keyDeposit 2" ∷
    codes "9 param poolDeposit 5" ∷
    codes "9 param rho 0/1" ∷
    codes "9 param tau 0/1" ∷
    codes "9 param minPoolCost 0" ∷
    codes "9 param coinsPerUTxOByte 0" ∷
    codes "9 param prices 0/1 0/1" ∷
    codes "9 param minFeeRefScriptCostPerByte 15/1" ∷
    codes "9 param a0 0/1" ∷
    codes "9 param eMax 18" ∷
    codes "9 param nOpt 500" ∷
    codes "9 param costModels 0000000000000000000000000000000000000000000000000000000000000000" ∷
    codes "9 param collateralPercentage 150" ∷
    codes "9 param poolVotingThresholds 0/1 0/1 0/1 0/1 0/1" ∷
    codes "9 param drepVotingThresholds 67/100 67/100 67/100 67/100 67/100 67/100 67/100 67/100 67/100 67/100" ∷
    codes "9 param govActionLifetime 6" ∷
    codes "9 param govActionDeposit 10" ∷
    codes "9 param drepDeposit 5" ∷
    codes "9 param drepActivity 20" ∷
    codes "9 param committeeMinSize 0" ∷
    codes "9 param committeeMaxTermLength 100" ∷
    codes "9 drep k00000000000000000000000000000000000000000000000000000030 deposit 5 expiry 22" ∷
    codes "9 drep k00000000000000000000000000000000000000000000000000000031 deposit 5 expiry 20" ∷
    codes "9 pool 00000000000000000000000000000000000000000000000000000050 deposit 5 cost 0 pledge 0 margin 0/1 account 1k00000000000000000000000000000000000000000000000000000012 retires never" ∷
    codes "9 account k00000000000000000000000000000000000000000000000000000010 stake 0 deposit 2 rewards 67 pool none drep k00000000000000000000000000000000000000000000000000000030" ∷
    codes "9 account k00000000000000000000000000000000000000000000000000000011 stake 0 deposit 2 rewards 33 pool none drep k00000000000000000000000000000000000000000000000000000031" ∷
    codes "9 account k00000000000000000000000000000000000000000000000000000012 stake 0 deposit 2 rewards 10 pool none drep none" ∷
    codes "9 output 0000000000000000000000000000000000000000000000000000000000000001#6 1k00000000000000000000000000000000000000000000000000000001 20" ∷
    codes "9 output 0000000000000000000000000000000000000000000000000000000000000001#7 1k00000000000000000000000000000000000000000000000000000001 20" ∷
    codes "9 proposal 0000000000000000000000000000000000000000000000000000000000000002#1 UpdateCommittee deposit 10 return 1k00000000000000000000000000000000000000000000000000000012 expires 6 previous none" ∷
    codes "9 vote 0000000000000000000000000000000000000000000000000000000000000002#1 drep:k00000000000000000000000000000000000000000000000000000030 yes" ∷
    codes "9 proposal 0000000000000000000000000000000000000000000000000000000000000003#0 NewConstitution deposit 10 return 1k00000000000000000000000000000000000000000000000000000012 expires 6 previous none" ∷
    codes "9 vote 0000000000000000000000000000000000000000000000000000000000000003#0 committee:k00000000000000000000000000000000000000000000000000000061 yes" ∷
    codes "9 vote 0000000000000000000000000000000000000000000000000000000000000003#0 committee:k00000000000000000000000000000000000000000000000000000071 abstain" ∷
    codes "9 snapshot mark 00000000000000000000000000000000000000000000000000000050 0" ∷
    codes "9 snapshot set 00000000000000000000000000000000000000000000000000000050 0" ∷
    codes "9 snapshot go 00000000000000000000000000000000000000000000000000000050 0" ∷
    codes "9 snapshot fees 30" ∷
    codes "9 pending none" ∷
    codes "9 pots outputs 40 deposits 41 rewards 110 fees 50 donations 0 treasury 100 reserves 659 supply 1000" ∷
    codes "10 epoch 3 frozen 3 dormant 0" ∷
    codes "10 stake k00000000000000000000000000000000000000000000000000000030 67" ∷
    codes "10 stake k00000000000000000000000000000000000000000000000000000031 33" ∷
    codes "10 tally 0000000000000000000000000000000000000000000000000000000000000002#1 UpdateCommittee committee 0/1 need none drep 0/100 need 67/100 pool 0/0 need 0/1 waiting" ∷
    codes "10 tally 0000000000000000000000000000000000000000000000000000000000000003#0 NewConstitution committee 0/1 need 0/1 drep 0/100 need 67/100 pool 0/0 need none waiting" ∷
    codes "10 pots outputs 40 deposits 41 rewards 110 fees 50 donations 0 treasury 100 reserves 659 supply 1000" ∷
    codes "10 block slot 30 epoch 3 counted 1 of 3" ∷
    codes "11 accepted" ∷
    codes "12 epoch 4 frozen 3 dormant 0" ∷
    codes "12 stake k00000000000000000000000000000000000000000000000000000030 67" ∷
    codes "12 stake k00000000000000000000000000000000000000000000000000000031 33" ∷
    codes "12 tally 0000000000000000000000000000000000000000000000000000000000000002#1 UpdateCommittee committee 0/1 need none drep 67/100 need 67/100 pool 0/0 need 0/1 ratified" ∷
    codes "12 tally 0000000000000000000000000000000000000000000000000000000000000003#0 NewConstitution committee 0/0 need 0/1 drep 0/100 need 67/100 pool 0/0 need none waiting" ∷
    codes "12 removed 0000000000000000000000000000000000000000000000000000000000000002#1 enacted refund 10 1k00000000000000000000000000000000000000000000000000000012" ∷
    codes "12 pots outputs 20 deposits 31 rewards 120 fees 70 donations 0 treasury 100 reserves 659 supply 1000" ∷
    codes "12 block slot 40 epoch 4 counted 1 of 3" ∷
    codes "13 epoch 5 frozen 3 dormant 0" ∷
    codes "13 stake k00000000000000000000000000000000000000000000000000000030 67" ∷
    codes "13 stake k00000000000000000000000000000000000000000000000000000031 33" ∷
    codes "13 tally 0000000000000000000000000000000000000000000000000000000000000003#0 NewConstitution committee 1/1 need 0/1 drep 0/100 need 67/100 pool 0/0 need none waiting" ∷
    codes "13 pots outputs 20 deposits 31 rewards 120 fees 70 donations 0 treasury 100 reserves 659 supply 1000" ∷
    codes "13 block slot 50 epoch 5 counted 1 of 3" ∷
    codes "14 accepted" ∷
    codes "15 now slot 50 epoch 5 version 11.0 dormant 0" ∷
    codes "15 constitution 0000000000000000000000000000000000000000000000000000000000000001 none" ∷
    codes "15 committee threshold 0/1" ∷
    codes "15 member k00000000000000000000000000000000000000000000000000000060 term 50 hot k00000000000000000000000000000000000000000000000000000061" ∷
    codes "15 member k00000000000000000000000000000000000000000000000000000070 term 100 hot k00000000000000000000000000000000000000000000000000000071" ∷
    codes "15 enacted committee 0000000000000000000000000000000000000000000000000000000000000002#1 constitution none hardfork 0000000000000000000000000000000000000000000000000000000000000002#0 parameters none" ∷
    codes "15 param maxBlockBodySize 90112" ∷
    codes "15 param maxTxSize 16384" ∷
    codes "15 param maxBlockHeaderSize 1100" ∷
    codes "15 param maxValueSize 5000" ∷
    codes "15 param maxTxExUnits 1000 1000" ∷
    codes "15 param maxBlockExUnits 1000 1000" ∷
    codes "15 param maxCollateralInputs 3" ∷
    codes "15 param minFeeA 0" ∷
    codes "15 param minFeeB 0" ∷
    codes "15 param keyDeposit 2" ∷
    codes "15 param poolDeposit 5" ∷
    codes "15 param rho 0/1" ∷
    codes "15 param tau 0/1" ∷
    codes "15 param minPoolCost 0" ∷
    codes "15 param coinsPerUTxOByte 0" ∷
    codes "15 param prices 0/1 0/1" ∷
    codes "15 param minFeeRefScriptCostPerByte 15/1" ∷
    codes "15 param a0 0/1" ∷
    codes "15 param eMax 18" ∷
    codes "15 param nOpt 500" ∷
    codes "15 param costModels 0000000000000000000000000000000000000000000000000000000000000000" ∷
    codes "15 param collateralPercentage 150" ∷
    codes "15 param poolVotingThresholds 0/1 0/1 0/1 0/1 0/1" ∷
    codes "15 param drepVotingThresholds 67/100 67/100 67/100 67/100 67/100 67/100 67/100 67/100 67/100 67/100" ∷
    codes "15 param govActionLifetime 6" ∷
    codes "15 param govActionDeposit 10" ∷
    codes "15 param drepDeposit 5" ∷
    codes "15 param drepActivity 20" ∷
    codes "15 param committeeMinSize 0" ∷
    codes "15 param committeeMaxTermLength 100" ∷
    codes "15 drep k00000000000000000000000000000000000000000000000000000030 deposit 5 expiry 22" ∷
    codes "15 drep k00000000000000000000000000000000000000000000000000000031 deposit 5 expiry 20" ∷
    codes "15 pool 00000000000000000000000000000000000000000000000000000050 deposit 5 cost 0 pledge 0 margin 0/1 account 1k00000000000000000000000000000000000000000000000000000012 retires never" ∷
    codes "15 account k00000000000000000000000000000000000000000000000000000010 stake 0 deposit 2 rewards 67 pool none drep k00000000000000000000000000000000000000000000000000000030" ∷
    codes "15 account k00000000000000000000000000000000000000000000000000000011 stake 0 deposit 2 rewards 33 pool none drep k00000000000000000000000000000000000000000000000000000031" ∷
    codes "15 account k00000000000000000000000000000000000000000000000000000012 stake 0 deposit 2 rewards 20 pool none drep none" ∷
    codes "15 proposal 0000000000000000000000000000000000000000000000000000000000000003#0 NewConstitution deposit 10 return 1k00000000000000000000000000000000000000000000000000000012 expires 6 previous none" ∷
    codes "15 vote 0000000000000000000000000000000000000000000000000000000000000003#0 committee:k00000000000000000000000000000000000000000000000000000061 no" ∷
    codes "15 vote 0000000000000000000000000000000000000000000000000000000000000003#0 committee:k00000000000000000000000000000000000000000000000000000071 abstain" ∷
    codes "15 snapshot mark 00000000000000000000000000000000000000000000000000000050 0" ∷
    codes "15 snapshot set 00000000000000000000000000000000000000000000000000000050 0" ∷
    codes "15 snapshot go 00000000000000000000000000000000000000000000000000000050 0" ∷
    codes "15 snapshot fees 70" ∷
    codes "15 pending none" ∷
    codes "15 pots outputs 0 deposits 31 rewards 120 fees 90 donations 0 treasury 100 reserves 659 supply 1000" ∷
    []) ≡ true
unfolding digits encode_with
votes_that_stand_at_the_fork = refl

abbrev no_committee_no_seat_input : List (ℕ × Reading)
no_committee_no_seat_input =
    (1, Read (records.Genesis (record { network = 1; slot = 0; epoch_length = 10; version = (11, 0); supply = 1000; reserves = 699; treasury = 100; params = (record base_params { gov_action_lifetime = 5 }); document = (h32 0x01); script = None; committee = (Some (record { threshold = (share 0 1); members = (((key 0x70), 100, (Some (key 0x71))) ∷ []) })); outputs = (((ref 0x01 2), (address_with 1 (key 0x01) None), 20, []) ∷ ((ref 0x01 3), (address_with 1 (key 0x01) None), 20, []) ∷ ((ref 0x01 4), (address_with 1 (key 0x01) None), 20, []) ∷ ((ref 0x01 5), (address_with 1 (key 0x01) None), 20, []) ∷ []); accounts = (((key 0x10), 2, 67, None, (Some (drep.Registered (key 0x30)))) ∷ ((key 0x11), 2, 33, None, (Some (drep.Registered (key 0x31)))) ∷ ((key 0x12), 2, 0, None, None) ∷ []); pools = ((record { pool = (pool 0x50); deposit = 5; cost = 0; pledge = 0; margin = (share 0 1); account = (account_on 1 (key 0x12)); key = None }) ∷ []); dreps = (((key 0x30), 5, 20) ∷ ((key 0x31), 5, 20) ∷ []) }))) ∷
    (2, Read (records.Tx (record (spend 0x02 0) { proposals = ((proposing 10 (account_on 1 (key 0x12)) (actions.NoConfidence None)) ∷ (proposing 10 (account_on 1 (key 0x12)) (actions.Info)) ∷ []) }))) ∷
    (3, Read (records.Tx (record (spend 0x03 20) { votes = ((voting (voter.Drep (key 0x30)) (action 0x02 0) vote.Yes) ∷ (voting (voter.Committee (key 0x71)) (action 0x02 1) vote.Yes) ∷ []) }))) ∷
    (4, Read (records.Block 10 1)) ∷
    (5, Read (records.Block 20 1)) ∷
    (6, Read (records.Tx (record (spend 0x04 10) { proposals = ((proposing 10 (account_on 1 (key 0x12)) (actions.UpdateCommittee (Some (action 0x02 0)) [] (((key 0x70), 50) ∷ ((key 0x60), 50) ∷ []) (share 0 1))) ∷ []) }))) ∷
    (7, Read (records.Tx (record (spend 0x05 20) { votes = ((voting (voter.Committee (key 0x71)) (action 0x02 1) vote.Yes) ∷ []) }))) ∷
    (8, Read (records.Tx (record (spend 0x05 20) { certs = ((certs.HotAuth (key 0x70) (key 0x71)) ∷ (certs.HotAuth (key 0x60) (key 0x71)) ∷ []); votes = ((voting (voter.Committee (key 0x71)) (action 0x02 1) vote.Yes) ∷ []) }))) ∷
    (9, Read (records.Tx (record (spend 0x05 20) { certs = ((certs.HotAuth (key 0x70) (key 0x71)) ∷ []); votes = ((voting (voter.Drep (key 0x30)) (action 0x02 1) vote.Yes) ∷ []) }))) ∷
    (10, Read (records.Print what.State)) ∷
    []

pub no_committee_no_seat : says_all no_committee_no_seat_input (
    codes "1 genesis outputs 80 deposits 21 rewards 100 fees 0 donations 0 treasury 100 reserves 699 supply 1000" ∷
    codes "2 accepted" ∷
    codes "3 accepted" ∷
    codes "4 epoch 1 frozen 3 dormant 0" ∷
    codes "4 stake k00000000000000000000000000000000000000000000000000000030 67" ∷
    codes "4 stake k00000000000000000000000000000000000000000000000000000031 33" ∷
    codes "4 pots outputs 40 deposits 41 rewards 100 fees 20 donations 0 treasury 100 reserves 699 supply 1000" ∷
    codes "4 block slot 10 epoch 1 counted 1 of 3" ∷
    codes "5 epoch 2 frozen 3 dormant 0" ∷
    codes "5 stake k00000000000000000000000000000000000000000000000000000030 67" ∷
    codes "5 stake k00000000000000000000000000000000000000000000000000000031 33" ∷
    codes "5 tally 0000000000000000000000000000000000000000000000000000000000000002#0 NoConfidence committee 0/1 need none drep 67/100 need 67/100 pool 0/0 need 0/1 ratified" ∷
    codes "5 tally 0000000000000000000000000000000000000000000000000000000000000002#1 Info committee 1/1 need never drep 0/100 need never pool 0/0 need never waiting" ∷
    codes "5 removed 0000000000000000000000000000000000000000000000000000000000000002#0 enacted refund 10 1k00000000000000000000000000000000000000000000000000000012" ∷
    codes "5 pots outputs 40 deposits 31 rewards 110 fees 20 donations 0 treasury 100 reserves 699 supply 1000" ∷
    codes "5 block slot 20 epoch 2 counted 1 of 3" ∷
    codes "6 accepted" ∷
    codes "7 refused 101 VoterUnknown at 0" ∷
    codes "8 refused 104 VoterNotSeated at 0" ∷
    codes "9 accepted" ∷
    codes "10 now slot 20 epoch 2 version 11.0 dormant 0" ∷
    codes "10 constitution 0000000000000000000000000000000000000000000000000000000000000001 none" ∷
    codes "10 committee none" ∷
    codes "10 hot k00000000000000000000000000000000000000000000000000000070 k00000000000000000000000000000000000000000000000000000071" ∷
    codes "10 enacted committee 0000000000000000000000000000000000000000000000000000000000000002#0 constitution none hardfork none parameters none" ∷
    codes "10 param maxBlockBodySize 90112" ∷
    codes "10 param maxTxSize 16384" ∷
    codes "10 param maxBlockHeaderSize 1100" ∷
    codes "10 param maxValueSize 5000" ∷
    codes "10 param maxTxExUnits 1000 1000" ∷
    codes "10 param maxBlockExUnits 1000 1000" ∷
    codes "10 param maxCollateralInputs 3" ∷
    codes "10 param minFeeA 0" ∷
    codes "10 param minFeeB 0" ∷
    codes "10 param keyDeposit 2" ∷
    codes "10 param poolDeposit 5" ∷
    codes "10 param rho 0/1" ∷
    codes "10 param tau 0/1" ∷
    codes "10 param minPoolCost 0" ∷
    codes "10 param coinsPerUTxOByte 0" ∷
    codes "10 param prices 0/1 0/1" ∷
    codes "10 param minFeeRefScriptCostPerByte 15/1" ∷
    codes "10 param a0 0/1" ∷
    codes "10 param eMax 18" ∷
    codes "10 param nOpt 500" ∷
    codes "10 param costModels 0000000000000000000000000000000000000000000000000000000000000000" ∷
    codes "10 param collateralPercentage 150" ∷
    codes "10 param poolVotingThresholds 0/1 0/1 0/1 0/1 0/1" ∷
    codes "10 param drepVotingThresholds 67/100 67/100 67/100 67/100 67/100 67/100 67/100 67/100 67/100 67/100" ∷
    codes "10 param govActionLifetime 5" ∷
    codes "10 param govActionDeposit 10" ∷
    codes "10 param drepDeposit 5" ∷
    codes "10 param drepActivity 20" ∷
    codes "10 param committeeMinSize 0" ∷
    codes "10 param committeeMaxTermLength 100" ∷
    codes "10 drep k00000000000000000000000000000000000000000000000000000030 deposit 5 expiry 22" ∷
    codes "10 drep k00000000000000000000000000000000000000000000000000000031 deposit 5 expiry 20" ∷
    codes "10 pool 00000000000000000000000000000000000000000000000000000050 deposit 5 cost 0 pledge 0 margin 0/1 account 1k00000000000000000000000000000000000000000000000000000012 retires never" ∷
    codes "10 account k00000000000000000000000000000000000000000000000000000010 stake 0 deposit 2 rewards 67 pool none drep k00000000000000000000000000000000000000000000000000000030" ∷
    codes "10 account k00000000000000000000000000000000000000000000000000000011 stake 0 deposit 2 rewards 33 pool none drep k00000000000000000000000000000000000000000000000000000031" ∷
    codes "10 account k00000000000000000000000000000000000000000000000000000012 stake 0 deposit 2 rewards 10 pool none drep none" ∷
    codes "10 proposal 0000000000000000000000000000000000000000000000000000000000000002#1 Info deposit 10 return 1k00000000000000000000000000000000000000000000000000000012 expires 5 previous none" ∷
    codes "10 vote 0000000000000000000000000000000000000000000000000000000000000002#1 committee:k00000000000000000000000000000000000000000000000000000071 yes" ∷
    codes "10 vote 0000000000000000000000000000000000000000000000000000000000000002#1 drep:k00000000000000000000000000000000000000000000000000000030 yes" ∷
    codes "10 proposal 0000000000000000000000000000000000000000000000000000000000000004#0 UpdateCommittee deposit 10 return 1k00000000000000000000000000000000000000000000000000000012 expires 7 previous 0000000000000000000000000000000000000000000000000000000000000002#0" ∷
    codes "10 snapshot mark 00000000000000000000000000000000000000000000000000000050 0" ∷
    codes "10 snapshot set 00000000000000000000000000000000000000000000000000000050 0" ∷
    codes "10 snapshot go 00000000000000000000000000000000000000000000000000000050 0" ∷
    codes "10 snapshot fees 20" ∷
    codes "10 pending none" ∷
    codes "10 pots outputs 0 deposits 41 rewards 110 fees 50 donations 0 treasury 100 reserves 699 supply 1000" ∷
    []) ≡ true
unfolding digits encode_with
no_committee_no_seat = refl
