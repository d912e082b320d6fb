-- Worked rows of whole streams: resumed from texts that no records give. Made by tests/made/rows_of, from the streams of these names in tests/streams/further.
use Rattle.std.specs.Prelude.{ℕ, ◌≡◌, List, [], ◌∷◌, Some, None, true, codes, refl}
use Rattle.std.specs.Fmt.{digits}
use Rattle.hex.specs.Hex.{encode_with}
use Rattle.gov_actions.specs.declared.action.Action.TheVariants as actions
use Rattle.gov_actions.specs.declared.action.Vote.TheVariants as vote
use Rattle.gov_ids.specs.declared.Drep.TheVariants as drep
use Rattle.gov_ids.specs.declared.Voter.TheVariants as voter
use Rattle.tx_records.specs.declared.record.Record.TheVariants as records
use Rattle.tx_records.specs.declared.record.What.TheVariants as what
use Rattle.tx_records.specs.declared.record.Reading.{Reading}
use Rattle.tx_records.specs.declared.record.Reading.TheVariants.{Read}
use Rattle.ledger_rows.proofs.Base.{h28, h32, key, script, pool, account_on, address_with, tx_id, ref, action, share, base_params, spend, proposing, voting}
use Rattle.checkpoint_model.specs.Checkpoint.{checkpoint_text}
use Rattle.checkpoint_model.specs.Resumable.{IsResumable}
use Rattle.checkpoint_model.specs.Resumed.{text_of_resume}
use Rattle.gov_actions.specs.declared.action.Proposal.{Proposal}
use Rattle.gov_actions.specs.declared.state.EnactState.{EnactState}
use Rattle.gov_actions.specs.declared.state.HotState.TheVariants.{Hot, Resigned}
use Rattle.run_model.specs.World.{World}
use Rattle.further_rows.proofs.Texts.{is_text}

abbrev resume_of_forged_sound_texts_state : EnactState
resume_of_forged_sound_texts_state = (record { params = (record base_params { gov_action_lifetime = 20; gov_action_deposit = 0 }); version = (10, 0); committee = (Some (record { threshold = (share 0 1); members = (((key 0x70), 100) ∷ ((key 0x72), 100) ∷ []) })); document = (h32 0x01); script = None; last = (record { committee = None; constitution = None; hardfork = None; parameters = None }); treasury = 100 })

abbrev resume_of_forged_sound_texts_proposal_0 : Proposal
resume_of_forged_sound_texts_proposal_0 = (record { id = (action 0x02 0); action = (actions.NoConfidence None); deposit = 10; account = (account_on 1 (key 0x12)); expires_after = 20; votes = (((voter.Pool (pool 0x50)), vote.Abstain) ∷ []) })

abbrev resume_of_forged_sound_texts_proposal_1 : Proposal
resume_of_forged_sound_texts_proposal_1 = (record { id = (action 0x02 1); action = (actions.NewConstitution None (h32 0x02) (Some (h28 0x00))); deposit = 10; account = (account_on 1 (key 0x12)); expires_after = 20; votes = (((voter.Committee (key 0x71)), vote.Yes) ∷ ((voter.Drep (key 0x30)), vote.No) ∷ ((voter.Drep (key 0x31)), vote.Yes) ∷ ((voter.Drep (script 0x31)), vote.Yes) ∷ ((voter.Pool (pool 0x09)), vote.No) ∷ []) })

abbrev resume_of_forged_sound_texts_proposal_2 : Proposal
resume_of_forged_sound_texts_proposal_2 = (record { id = (action 0x02 2); action = (actions.Info); deposit = 10; account = (account_on 1 (key 0x11)); expires_after = 18446744073709551615; votes = [] })

abbrev resume_of_forged_sound_texts_proposal_3 : Proposal
resume_of_forged_sound_texts_proposal_3 = (record { id = (action 0x03 0); action = (actions.NoConfidence (Some (action 0x02 0))); deposit = 10; account = (account_on 1 (key 0x12)); expires_after = 20; votes = [] })

abbrev resume_of_forged_sound_texts_world : World
resume_of_forged_sound_texts_world = (record { ledger = (record { network = 1; epoch_length = 10; supply = 1000; slot = 21; epoch = 2; dormant = 0; reserves = 635; fees = 35; donations = 10; state = resume_of_forged_sound_texts_state; outputs = (((ref 0x01 6), (record { address = (address_with 0 (script 0x01) None); lovelace = 20; assets = [] })) ∷ ((ref 0x01 7), (record { address = (address_with 1 (key 0x01) (Some (key 0x10))); lovelace = 20; assets = [] })) ∷ ((ref 0x01 8), (record { address = (address_with 1 (key 0x01) (Some (script 0x10))); lovelace = 9; assets = [] })) ∷ ((ref 0x05 0), (record { address = (address_with 1 (key 0x01) None); lovelace = 5; assets = [] })) ∷ []); used = ((tx_id 0x01) ∷ (tx_id 0x02) ∷ (tx_id 0x03) ∷ (tx_id 0x04) ∷ (tx_id 0x05) ∷ (tx_id 0x77) ∷ []); accounts = (((key 0x10), (record { deposit = 2; rewards = 67; pool = (Some (pool 0x50)); drep = (Some (drep.Registered (key 0x30))) })) ∷ ((key 0x11), (record { deposit = 2; rewards = 33; pool = (Some (pool 0x51)); drep = (Some (drep.Registered (key 0x31))) })) ∷ ((key 0x12), (record { deposit = 2; rewards = 0; pool = None; drep = None })) ∷ []); pools = (((pool 0x50), (record { deposit = 5; terms = (record { cost = 0; pledge = 0; margin = (share 0 1); account = (account_on 1 (key 0x12)); key = None }); future = (Some (record { cost = 1; pledge = 2; margin = (share 1 3); account = (account_on 1 (key 0x12)); key = None })); retires = None })) ∷ ((pool 0x51), (record { deposit = 5; terms = (record { cost = 0; pledge = 0; margin = (share 0 1); account = (account_on 0 (key 0x11)); key = None }); future = None; retires = (Some 0) })) ∷ []); dreps = (((key 0x30), (record { deposit = 5; expiry = 20 })) ∷ ((key 0x31), (record { deposit = 5; expiry = 22 })) ∷ []); hot = (((key 0x70), (Hot (key 0x74))) ∷ ((key 0x72), (Hot (key 0x73))) ∷ ((key 0x80), Resigned) ∷ []); proposals = (resume_of_forged_sound_texts_proposal_0 ∷ resume_of_forged_sound_texts_proposal_1 ∷ resume_of_forged_sound_texts_proposal_2 ∷ resume_of_forged_sound_texts_proposal_3 ∷ []) }); pending = (Some (record { epoch = 2; from_reserves = 20; from_fees = 3; to_treasury = 8; rewards = (((key 0x10), 10) ∷ ((key 0x11), 5) ∷ []) })); counted = 4; mark = (((pool 0x50), 87) ∷ ((pool 0x51), 33) ∷ []); set = (((pool 0x50), 87) ∷ ((pool 0x51), 33) ∷ []); go = (((pool 0x50), 87) ∷ ((pool 0x51), 33) ∷ []); noted_fees = 30; frozen = (record { epoch = 2; entries = (((key 0x10), (record { stake = 20; registered = (Some (record { deposit = 2; rewards = 67; pool = (Some (pool 0x50)); drep = (Some (drep.Registered (key 0x30))) })) })) ∷ ((script 0x10), (record { stake = 9; registered = None })) ∷ ((key 0x11), (record { stake = 0; registered = (Some (record { deposit = 2; rewards = 33; pool = (Some (pool 0x51)); drep = (Some (drep.Registered (key 0x31))) })) })) ∷ ((key 0x12), (record { stake = 0; registered = (Some (record { deposit = 18446744073709551615; rewards = 0; pool = (Some (pool 0x59)); drep = (Some (drep.Registered (script 0x39))) })) })) ∷ []); dreps = (((key 0x30), 18446744073709551615) ∷ ((key 0x31), 20) ∷ []); mark = (((pool 0x50), 87) ∷ ((pool 0x51), 33) ∷ []); pool_accounts = (((pool 0x50), (account_on 1 (key 0x12))) ∷ []); hot = (((key 0x70), (Hot (key 0x71))) ∷ ((key 0x72), (Hot (key 0x73))) ∷ ((script 0x72), (Hot (key 0x01))) ∷ []); proposals = ((record resume_of_forged_sound_texts_proposal_1 { votes = (((voter.Committee (key 0x71)), vote.Yes) ∷ ((voter.Drep (key 0x30)), vote.No) ∷ []) }) ∷ (record resume_of_forged_sound_texts_proposal_2 { votes = [] }) ∷ (record resume_of_forged_sound_texts_proposal_3 { votes = [] }) ∷ []); start = (record resume_of_forged_sound_texts_state { treasury = 0 }) }) })

pub resume_of_forged_sound_texts_shown : is_text (Some (checkpoint_text resume_of_forged_sound_texts_world 281474976710656)) (
    codes "checkpoint 1 line 281474976710656 network 1 length 10 counted 4" ∷
    codes "now slot 21 epoch 2 version 10.0 dormant 0" ∷
    codes "constitution 0000000000000000000000000000000000000000000000000000000000000001 none" ∷
    codes "committee threshold 0/1" ∷
    codes "member k00000000000000000000000000000000000000000000000000000070 term 100 hot k00000000000000000000000000000000000000000000000000000074" ∷
    codes "member k00000000000000000000000000000000000000000000000000000072 term 100 hot k00000000000000000000000000000000000000000000000000000073" ∷
    codes "hot k00000000000000000000000000000000000000000000000000000080 resigned" ∷
    codes "enacted committee none constitution none hardfork none parameters none" ∷
    codes "param maxBlockBodySize 90112" ∷
    codes "param maxTxSize 16384" ∷
    codes "param maxBlockHeaderSize 1100" ∷
    codes "param maxValueSize 5000" ∷
    codes "param maxTxExUnits 1000 1000" ∷
    codes "param maxBlockExUnits 1000 1000" ∷
    codes "param maxCollateralInputs 3" ∷
    codes "param minFeeA 0" ∷
    codes "param minFeeB 0" ∷
    codes "param keyDeposit 2" ∷
    codes "param poolDeposit 5" ∷
    codes "param rho 0/1" ∷
    codes "param tau 0/1" ∷
    codes "param minPoolCost 0" ∷
    codes "param coinsPerUTxOByte 0" ∷
    codes "param prices 0/1 0/1" ∷
    codes "param minFeeRefScriptCostPerByte 15/1" ∷
    codes "param a0 0/1" ∷
    codes "param eMax 18" ∷
    codes "param nOpt 500" ∷
    codes "param costModels 0000000000000000000000000000000000000000000000000000000000000000" ∷
    codes "param collateralPercentage 150" ∷
    codes "param poolVotingThresholds 0/1 0/1 0/1 0/1 0/1" ∷
    codes "param drepVotingThresholds 67/100 67/100 67/100 67/100 67/100 67/100 67/100 67/100 67/100 67/100" ∷
    codes "param govActionLifetime 20" ∷
    codes "param govActionDeposit 0" ∷
    codes "param drepDeposit 5" ∷
    codes "param drepActivity 20" ∷
    codes "param committeeMinSize 0" ∷
    codes "param committeeMaxTermLength 100" ∷
    codes "drep k00000000000000000000000000000000000000000000000000000030 deposit 5 expiry 20" ∷
    codes "drep k00000000000000000000000000000000000000000000000000000031 deposit 5 expiry 22" ∷
    codes "pool 00000000000000000000000000000000000000000000000000000050 deposit 5 cost 0 pledge 0 margin 0/1 account 1k00000000000000000000000000000000000000000000000000000012 retires never" ∷
    codes "next 00000000000000000000000000000000000000000000000000000050 cost 1 pledge 2 margin 1/3 account 1k00000000000000000000000000000000000000000000000000000012" ∷
    codes "pool 00000000000000000000000000000000000000000000000000000051 deposit 5 cost 0 pledge 0 margin 0/1 account 0k00000000000000000000000000000000000000000000000000000011 retires 0" ∷
    codes "account k00000000000000000000000000000000000000000000000000000010 stake 20 deposit 2 rewards 67 pool 00000000000000000000000000000000000000000000000000000050 drep k00000000000000000000000000000000000000000000000000000030" ∷
    codes "account s00000000000000000000000000000000000000000000000000000010 stake 9 unregistered" ∷
    codes "account k00000000000000000000000000000000000000000000000000000011 stake 0 deposit 2 rewards 33 pool 00000000000000000000000000000000000000000000000000000051 drep k00000000000000000000000000000000000000000000000000000031" ∷
    codes "account k00000000000000000000000000000000000000000000000000000012 stake 0 deposit 2 rewards 0 pool none drep none" ∷
    codes "output 0000000000000000000000000000000000000000000000000000000000000001#6 0s00000000000000000000000000000000000000000000000000000001 20" ∷
    codes "output 0000000000000000000000000000000000000000000000000000000000000001#7 1k00000000000000000000000000000000000000000000000000000001+k00000000000000000000000000000000000000000000000000000010 20" ∷
    codes "output 0000000000000000000000000000000000000000000000000000000000000001#8 1k00000000000000000000000000000000000000000000000000000001+s00000000000000000000000000000000000000000000000000000010 9" ∷
    codes "output 0000000000000000000000000000000000000000000000000000000000000005#0 1k00000000000000000000000000000000000000000000000000000001 5" ∷
    codes "proposal 0000000000000000000000000000000000000000000000000000000000000002#0 NoConfidence deposit 10 return 1k00000000000000000000000000000000000000000000000000000012 expires 20 previous none" ∷
    codes "vote 0000000000000000000000000000000000000000000000000000000000000002#0 pool:00000000000000000000000000000000000000000000000000000050 abstain" ∷
    codes "proposal 0000000000000000000000000000000000000000000000000000000000000002#1 NewConstitution deposit 10 return 1k00000000000000000000000000000000000000000000000000000012 expires 20 previous none" ∷
    codes "vote 0000000000000000000000000000000000000000000000000000000000000002#1 committee:k00000000000000000000000000000000000000000000000000000071 yes" ∷
    codes "vote 0000000000000000000000000000000000000000000000000000000000000002#1 drep:k00000000000000000000000000000000000000000000000000000030 no" ∷
    codes "vote 0000000000000000000000000000000000000000000000000000000000000002#1 drep:k00000000000000000000000000000000000000000000000000000031 yes" ∷
    codes "vote 0000000000000000000000000000000000000000000000000000000000000002#1 drep:s00000000000000000000000000000000000000000000000000000031 yes" ∷
    codes "vote 0000000000000000000000000000000000000000000000000000000000000002#1 pool:00000000000000000000000000000000000000000000000000000009 no" ∷
    codes "proposal 0000000000000000000000000000000000000000000000000000000000000002#2 Info deposit 10 return 1k00000000000000000000000000000000000000000000000000000011 expires 18446744073709551615 previous none" ∷
    codes "proposal 0000000000000000000000000000000000000000000000000000000000000003#0 NoConfidence deposit 10 return 1k00000000000000000000000000000000000000000000000000000012 expires 20 previous 0000000000000000000000000000000000000000000000000000000000000002#0" ∷
    codes "snapshot mark 00000000000000000000000000000000000000000000000000000050 87" ∷
    codes "snapshot mark 00000000000000000000000000000000000000000000000000000051 33" ∷
    codes "snapshot set 00000000000000000000000000000000000000000000000000000050 87" ∷
    codes "snapshot set 00000000000000000000000000000000000000000000000000000051 33" ∷
    codes "snapshot go 00000000000000000000000000000000000000000000000000000050 87" ∷
    codes "snapshot go 00000000000000000000000000000000000000000000000000000051 33" ∷
    codes "snapshot fees 30" ∷
    codes "pending reserves 20 fees 3 treasury 8" ∷
    codes "pending reward k00000000000000000000000000000000000000000000000000000010 10" ∷
    codes "pending reward k00000000000000000000000000000000000000000000000000000011 5" ∷
    codes "pots outputs 54 deposits 66 rewards 100 fees 35 donations 10 treasury 100 reserves 635 supply 1000" ∷
    codes "used 0000000000000000000000000000000000000000000000000000000000000001" ∷
    codes "used 0000000000000000000000000000000000000000000000000000000000000002" ∷
    codes "used 0000000000000000000000000000000000000000000000000000000000000003" ∷
    codes "used 0000000000000000000000000000000000000000000000000000000000000004" ∷
    codes "used 0000000000000000000000000000000000000000000000000000000000000005" ∷
    codes "used 0000000000000000000000000000000000000000000000000000000000000077" ∷
    codes "action 0000000000000000000000000000000000000000000000000000000000000002#0 {\"type\":\"NoConfidence\"}" ∷
    codes "action 0000000000000000000000000000000000000000000000000000000000000002#1 {\"type\":\"NewConstitution\",\"document\":\"0000000000000000000000000000000000000000000000000000000000000002\",\"script\":\"00000000000000000000000000000000000000000000000000000000\"}" ∷
    codes "action 0000000000000000000000000000000000000000000000000000000000000002#2 {\"type\":\"Info\"}" ∷
    codes "action 0000000000000000000000000000000000000000000000000000000000000003#0 {\"type\":\"NoConfidence\",\"previous\":\"0000000000000000000000000000000000000000000000000000000000000002#0\"}" ∷
    codes "frozen treasury 0" ∷
    codes "frozen account k00000000000000000000000000000000000000000000000000000010 stake 20 deposit 2 rewards 67 pool 00000000000000000000000000000000000000000000000000000050 drep k00000000000000000000000000000000000000000000000000000030" ∷
    codes "frozen account s00000000000000000000000000000000000000000000000000000010 stake 9 unregistered" ∷
    codes "frozen account k00000000000000000000000000000000000000000000000000000011 stake 0 deposit 2 rewards 33 pool 00000000000000000000000000000000000000000000000000000051 drep k00000000000000000000000000000000000000000000000000000031" ∷
    codes "frozen account k00000000000000000000000000000000000000000000000000000012 stake 0 deposit 18446744073709551615 rewards 0 pool 00000000000000000000000000000000000000000000000000000059 drep s00000000000000000000000000000000000000000000000000000039" ∷
    codes "frozen drep k00000000000000000000000000000000000000000000000000000030 expiry 18446744073709551615" ∷
    codes "frozen drep k00000000000000000000000000000000000000000000000000000031 expiry 20" ∷
    codes "frozen hot k00000000000000000000000000000000000000000000000000000070 k00000000000000000000000000000000000000000000000000000071" ∷
    codes "frozen hot k00000000000000000000000000000000000000000000000000000072 k00000000000000000000000000000000000000000000000000000073" ∷
    codes "frozen hot s00000000000000000000000000000000000000000000000000000072 k00000000000000000000000000000000000000000000000000000001" ∷
    codes "frozen pool 00000000000000000000000000000000000000000000000000000050 account 1k00000000000000000000000000000000000000000000000000000012" ∷
    codes "frozen pool 00000000000000000000000000000000000000000000000000000051 account none" ∷
    codes "frozen proposal 0000000000000000000000000000000000000000000000000000000000000002#1" ∷
    codes "frozen vote 0000000000000000000000000000000000000000000000000000000000000002#1 committee:k00000000000000000000000000000000000000000000000000000071 yes" ∷
    codes "frozen vote 0000000000000000000000000000000000000000000000000000000000000002#1 drep:k00000000000000000000000000000000000000000000000000000030 no" ∷
    codes "frozen proposal 0000000000000000000000000000000000000000000000000000000000000002#2" ∷
    codes "frozen proposal 0000000000000000000000000000000000000000000000000000000000000003#0" ∷
    codes "end" ∷
    []) ≡ true
unfolding digits encode_with
resume_of_forged_sound_texts_shown = refl

pub resume_of_forged_sound_texts_sound : IsResumable resume_of_forged_sound_texts_world
unfolding digits encode_with
resume_of_forged_sound_texts_sound = record { form = refl; time = refl; dormancy = refl; delegations = refl; supply = refl; ids = refl; chains = refl; pending = refl; within = refl; entries = refl; counted = refl; epoch = refl; mark = refl; state = refl; treasury = refl; proposals = refl; short = refl }

abbrev resume_of_forged_sound_texts_input : List (ℕ × Reading)
resume_of_forged_sound_texts_input =
    (281474976710657, Read (records.Print what.State)) ∷
    (281474976710658, Read (records.Block 22 1)) ∷
    (281474976710659, Read (records.Tx (record (spend 0x77 20) { inputs = ((ref 0x01 77) ∷ []) }))) ∷
    (281474976710660, Read (records.Block 30 1)) ∷
    (281474976710661, Read (records.Block 40 1)) ∷
    []

pub resume_of_forged_sound_texts : is_text (Some (text_of_resume resume_of_forged_sound_texts_world resume_of_forged_sound_texts_input)) (
    codes "281474976710657 now slot 21 epoch 2 version 10.0 dormant 0" ∷
    codes "281474976710657 constitution 0000000000000000000000000000000000000000000000000000000000000001 none" ∷
    codes "281474976710657 committee threshold 0/1" ∷
    codes "281474976710657 member k00000000000000000000000000000000000000000000000000000070 term 100 hot k00000000000000000000000000000000000000000000000000000074" ∷
    codes "281474976710657 member k00000000000000000000000000000000000000000000000000000072 term 100 hot k00000000000000000000000000000000000000000000000000000073" ∷
    codes "281474976710657 hot k00000000000000000000000000000000000000000000000000000080 resigned" ∷
    codes "281474976710657 enacted committee none constitution none hardfork none parameters none" ∷
    codes "281474976710657 param maxBlockBodySize 90112" ∷
    codes "281474976710657 param maxTxSize 16384" ∷
    codes "281474976710657 param maxBlockHeaderSize 1100" ∷
    codes "281474976710657 param maxValueSize 5000" ∷
    codes "281474976710657 param maxTxExUnits 1000 1000" ∷
    codes "281474976710657 param maxBlockExUnits 1000 1000" ∷
    codes "281474976710657 param maxCollateralInputs 3" ∷
    codes "281474976710657 param minFeeA 0" ∷
    codes "281474976710657 param minFeeB 0" ∷
    codes "281474976710657 param keyDeposit 2" ∷
    codes "281474976710657 param poolDeposit 5" ∷
    codes "281474976710657 param rho 0/1" ∷
    codes "281474976710657 param tau 0/1" ∷
    codes "281474976710657 param minPoolCost 0" ∷
    codes "281474976710657 param coinsPerUTxOByte 0" ∷
    codes "281474976710657 param prices 0/1 0/1" ∷
    codes "281474976710657 param minFeeRefScriptCostPerByte 15/1" ∷
    codes "281474976710657 param a0 0/1" ∷
    codes "281474976710657 param eMax 18" ∷
    codes "281474976710657 param nOpt 500" ∷
    codes "281474976710657 param costModels 0000000000000000000000000000000000000000000000000000000000000000" ∷
    codes "281474976710657 param collateralPercentage 150" ∷
    codes "281474976710657 param poolVotingThresholds 0/1 0/1 0/1 0/1 0/1" ∷
    codes "281474976710657 param drepVotingThresholds 67/100 67/100 67/100 67/100 67/100 67/100 67/100 67/100 67/100 67/100" ∷
    codes "281474976710657 param govActionLifetime 20" ∷
    codes "281474976710657 param govActionDeposit 0" ∷
    codes "281474976710657 param drepDeposit 5" ∷
    codes "281474976710657 param drepActivity 20" ∷
    codes "281474976710657 param committeeMinSize 0" ∷
    codes "281474976710657 param committeeMaxTermLength 100" ∷
    codes "281474976710657 drep k00000000000000000000000000000000000000000000000000000030 deposit 5 expiry 20" ∷
    codes "281474976710657 drep k00000000000000000000000000000000000000000000000000000031 deposit 5 expiry 22" ∷
    codes "281474976710657 pool 00000000000000000000000000000000000000000000000000000050 deposit 5 cost 0 pledge 0 margin 0/1 account 1k00000000000000000000000000000000000000000000000000000012 retires never" ∷
    codes "281474976710657 next 00000000000000000000000000000000000000000000000000000050 cost 1 pledge 2 margin 1/3 account 1k00000000000000000000000000000000000000000000000000000012" ∷
    codes "281474976710657 pool 00000000000000000000000000000000000000000000000000000051 deposit 5 cost 0 pledge 0 margin 0/1 account 0k00000000000000000000000000000000000000000000000000000011 retires 0" ∷
    codes "281474976710657 account k00000000000000000000000000000000000000000000000000000010 stake 20 deposit 2 rewards 67 pool 00000000000000000000000000000000000000000000000000000050 drep k00000000000000000000000000000000000000000000000000000030" ∷
    codes "281474976710657 account s00000000000000000000000000000000000000000000000000000010 stake 9 unregistered" ∷
    codes "281474976710657 account k00000000000000000000000000000000000000000000000000000011 stake 0 deposit 2 rewards 33 pool 00000000000000000000000000000000000000000000000000000051 drep k00000000000000000000000000000000000000000000000000000031" ∷
    codes "281474976710657 account k00000000000000000000000000000000000000000000000000000012 stake 0 deposit 2 rewards 0 pool none drep none" ∷
    codes "281474976710657 output 0000000000000000000000000000000000000000000000000000000000000001#6 0s00000000000000000000000000000000000000000000000000000001 20" ∷
    codes "281474976710657 output 0000000000000000000000000000000000000000000000000000000000000001#7 1k00000000000000000000000000000000000000000000000000000001+k00000000000000000000000000000000000000000000000000000010 20" ∷
    codes "281474976710657 output 0000000000000000000000000000000000000000000000000000000000000001#8 1k00000000000000000000000000000000000000000000000000000001+s00000000000000000000000000000000000000000000000000000010 9" ∷
    codes "281474976710657 output 0000000000000000000000000000000000000000000000000000000000000005#0 1k00000000000000000000000000000000000000000000000000000001 5" ∷
    codes "281474976710657 proposal 0000000000000000000000000000000000000000000000000000000000000002#0 NoConfidence deposit 10 return 1k00000000000000000000000000000000000000000000000000000012 expires 20 previous none" ∷
    codes "281474976710657 vote 0000000000000000000000000000000000000000000000000000000000000002#0 pool:00000000000000000000000000000000000000000000000000000050 abstain" ∷
    codes "281474976710657 proposal 0000000000000000000000000000000000000000000000000000000000000002#1 NewConstitution deposit 10 return 1k00000000000000000000000000000000000000000000000000000012 expires 20 previous none" ∷
    codes "281474976710657 vote 0000000000000000000000000000000000000000000000000000000000000002#1 committee:k00000000000000000000000000000000000000000000000000000071 yes" ∷
    codes "281474976710657 vote 0000000000000000000000000000000000000000000000000000000000000002#1 drep:k00000000000000000000000000000000000000000000000000000030 no" ∷
    codes "281474976710657 vote 0000000000000000000000000000000000000000000000000000000000000002#1 drep:k00000000000000000000000000000000000000000000000000000031 yes" ∷
    codes "281474976710657 vote 0000000000000000000000000000000000000000000000000000000000000002#1 drep:s00000000000000000000000000000000000000000000000000000031 yes" ∷
    codes "281474976710657 vote 0000000000000000000000000000000000000000000000000000000000000002#1 pool:00000000000000000000000000000000000000000000000000000009 no" ∷
    codes "281474976710657 proposal 0000000000000000000000000000000000000000000000000000000000000002#2 Info deposit 10 return 1k00000000000000000000000000000000000000000000000000000011 expires 18446744073709551615 previous none" ∷
    codes "281474976710657 proposal 0000000000000000000000000000000000000000000000000000000000000003#0 NoConfidence deposit 10 return 1k00000000000000000000000000000000000000000000000000000012 expires 20 previous 0000000000000000000000000000000000000000000000000000000000000002#0" ∷
    codes "281474976710657 snapshot mark 00000000000000000000000000000000000000000000000000000050 87" ∷
    codes "281474976710657 snapshot mark 00000000000000000000000000000000000000000000000000000051 33" ∷
    codes "281474976710657 snapshot set 00000000000000000000000000000000000000000000000000000050 87" ∷
    codes "281474976710657 snapshot set 00000000000000000000000000000000000000000000000000000051 33" ∷
    codes "281474976710657 snapshot go 00000000000000000000000000000000000000000000000000000050 87" ∷
    codes "281474976710657 snapshot go 00000000000000000000000000000000000000000000000000000051 33" ∷
    codes "281474976710657 snapshot fees 30" ∷
    codes "281474976710657 pending reserves 20 fees 3 treasury 8" ∷
    codes "281474976710657 pending reward k00000000000000000000000000000000000000000000000000000010 10" ∷
    codes "281474976710657 pending reward k00000000000000000000000000000000000000000000000000000011 5" ∷
    codes "281474976710657 pots outputs 54 deposits 66 rewards 100 fees 35 donations 10 treasury 100 reserves 635 supply 1000" ∷
    codes "281474976710658 block slot 22 epoch 2 counted 4 of 4" ∷
    codes "281474976710659 refused 30 TxIdUsed" ∷
    codes "281474976710660 epoch 3 frozen 4 dormant 0" ∷
    codes "281474976710660 stake k00000000000000000000000000000000000000000000000000000030 87" ∷
    codes "281474976710660 stake k00000000000000000000000000000000000000000000000000000031 43" ∷
    codes "281474976710660 tally 0000000000000000000000000000000000000000000000000000000000000003#0 NoConfidence committee 0/2 need none drep 0/130 need 67/100 pool 0/130 need 0/1 waiting" ∷
    codes "281474976710660 tally 0000000000000000000000000000000000000000000000000000000000000002#1 NewConstitution committee 1/2 need 0/1 drep 0/130 need 67/100 pool 0/130 need none waiting" ∷
    codes "281474976710660 tally 0000000000000000000000000000000000000000000000000000000000000002#2 Info committee 0/2 need never drep 0/130 need never pool 0/130 need never waiting" ∷
    codes "281474976710660 pots outputs 54 deposits 66 rewards 115 fees 32 donations 0 treasury 118 reserves 615 supply 1000" ∷
    codes "281474976710660 block slot 30 epoch 3 counted 1 of 4" ∷
    codes "281474976710661 epoch 4 frozen 4 dormant 0" ∷
    codes "281474976710661 stake k00000000000000000000000000000000000000000000000000000030 97" ∷
    codes "281474976710661 stake k00000000000000000000000000000000000000000000000000000031 48" ∷
    codes "281474976710661 tally 0000000000000000000000000000000000000000000000000000000000000002#0 NoConfidence committee 0/2 need none drep 0/145 need 67/100 pool 0/48 need 0/1 waiting" ∷
    codes "281474976710661 tally 0000000000000000000000000000000000000000000000000000000000000003#0 NoConfidence committee 0/2 need none drep 0/145 need 67/100 pool 0/145 need 0/1 waiting" ∷
    codes "281474976710661 tally 0000000000000000000000000000000000000000000000000000000000000002#1 NewConstitution committee 0/2 need 0/1 drep 48/145 need 67/100 pool 0/145 need none waiting" ∷
    codes "281474976710661 tally 0000000000000000000000000000000000000000000000000000000000000002#2 Info committee 0/2 need never drep 0/145 need never pool 0/145 need never waiting" ∷
    codes "281474976710661 pots outputs 54 deposits 66 rewards 115 fees 32 donations 0 treasury 118 reserves 615 supply 1000" ∷
    codes "281474976710661 block slot 40 epoch 4 counted 1 of 4" ∷
    []) ≡ true
unfolding digits encode_with
resume_of_forged_sound_texts = refl

abbrev resume_of_forged_exact_bounds_state : EnactState
resume_of_forged_exact_bounds_state = (record { params = (record base_params { max_collateral_inputs = 65535; key_deposit = 18446744073709551615; e_max = 4294967295; gov_action_lifetime = 20 }); version = (10, 0); committee = (Some (record { threshold = (share 0 1); members = (((key 0x70), 100) ∷ ((key 0x72), 4611686018427387903) ∷ []) })); document = (h32 0x01); script = None; last = (record { committee = None; constitution = None; hardfork = None; parameters = None }); treasury = 100 })

abbrev resume_of_forged_exact_bounds_proposal_0 : Proposal
resume_of_forged_exact_bounds_proposal_0 = (record { id = (action 0x02 0); action = (actions.NoConfidence None); deposit = 10; account = (account_on 1 (key 0x12)); expires_after = 20; votes = (((voter.Pool (pool 0x50)), vote.Abstain) ∷ []) })

abbrev resume_of_forged_exact_bounds_proposal_1 : Proposal
resume_of_forged_exact_bounds_proposal_1 = (record { id = (action 0x02 1); action = (actions.NewConstitution None (h32 0x02) None); deposit = 10; account = (account_on 1 (key 0x12)); expires_after = 20; votes = (((voter.Committee (key 0x71)), vote.Yes) ∷ ((voter.Drep (key 0x30)), vote.No) ∷ ((voter.Drep (key 0x31)), vote.Yes) ∷ []) })

abbrev resume_of_forged_exact_bounds_proposal_2 : Proposal
resume_of_forged_exact_bounds_proposal_2 = (record { id = (action 0x02 2); action = (actions.Info); deposit = 10; account = (account_on 1 (key 0x11)); expires_after = 20; votes = [] })

abbrev resume_of_forged_exact_bounds_proposal_3 : Proposal
resume_of_forged_exact_bounds_proposal_3 = (record { id = (action 0x03 0); action = (actions.NoConfidence (Some (action 0x02 0))); deposit = 10; account = (account_on 1 (key 0x12)); expires_after = 20; votes = [] })

abbrev resume_of_forged_exact_bounds_world : World
resume_of_forged_exact_bounds_world = (record { ledger = (record { network = 1; epoch_length = 10; supply = 1000; slot = 21; epoch = 2; dormant = 0; reserves = 635; fees = 35; donations = 10; state = resume_of_forged_exact_bounds_state; outputs = (((ref 0x01 6), (record { address = (address_with 1 (key 0x01) None); lovelace = 20; assets = [] })) ∷ ((ref 0x01 7), (record { address = (address_with 1 (key 0x01) (Some (key 0x10))); lovelace = 20; assets = [] })) ∷ ((ref 0x01 8), (record { address = (address_with 1 (key 0x01) (Some (script 0x10))); lovelace = 9; assets = [] })) ∷ ((ref 0x05 0), (record { address = (address_with 1 (key 0x01) None); lovelace = 5; assets = [] })) ∷ []); used = ((tx_id 0x01) ∷ (tx_id 0x02) ∷ (tx_id 0x03) ∷ (tx_id 0x04) ∷ (tx_id 0x05) ∷ []); accounts = (((key 0x10), (record { deposit = 2; rewards = 67; pool = (Some (pool 0x50)); drep = (Some (drep.Registered (key 0x30))) })) ∷ ((key 0x11), (record { deposit = 2; rewards = 33; pool = (Some (pool 0x51)); drep = (Some (drep.Registered (key 0x31))) })) ∷ ((key 0x12), (record { deposit = 2; rewards = 0; pool = None; drep = None })) ∷ []); pools = (((pool 0x50), (record { deposit = 5; terms = (record { cost = 0; pledge = 0; margin = (share 0 1); account = (account_on 1 (key 0x12)); key = None }); future = (Some (record { cost = 1; pledge = 2; margin = (share 1 3); account = (account_on 1 (key 0x12)); key = None })); retires = None })) ∷ ((pool 0x51), (record { deposit = 5; terms = (record { cost = 18446744073709551615; pledge = 18446744073709551615; margin = (share 0 1); account = (account_on 1 (key 0x11)); key = None }); future = None; retires = None })) ∷ []); dreps = (((key 0x30), (record { deposit = 5; expiry = 20 })) ∷ ((key 0x31), (record { deposit = 5; expiry = 4611686022722355202 })) ∷ []); hot = (((key 0x70), (Hot (key 0x74))) ∷ ((key 0x72), (Hot (key 0x73))) ∷ []); proposals = (resume_of_forged_exact_bounds_proposal_0 ∷ resume_of_forged_exact_bounds_proposal_1 ∷ resume_of_forged_exact_bounds_proposal_2 ∷ resume_of_forged_exact_bounds_proposal_3 ∷ []) }); pending = (Some (record { epoch = 2; from_reserves = 20; from_fees = 3; to_treasury = 8; rewards = (((key 0x10), 10) ∷ ((key 0x11), 5) ∷ []) })); counted = 0; mark = (((pool 0x50), 967) ∷ ((pool 0x51), 33) ∷ []); set = (((pool 0x50), 967) ∷ ((pool 0x51), 33) ∷ []); go = (((pool 0x50), 967) ∷ ((pool 0x51), 33) ∷ []); noted_fees = 1000; frozen = (record { epoch = 2; entries = (((key 0x10), (record { stake = 851; registered = (Some (record { deposit = 2; rewards = 67; pool = (Some (pool 0x50)); drep = (Some (drep.Registered (key 0x30))) })) })) ∷ ((script 0x10), (record { stake = 9; registered = None })) ∷ ((key 0x11), (record { stake = 0; registered = (Some (record { deposit = 2; rewards = 33; pool = (Some (pool 0x51)); drep = (Some (drep.Registered (key 0x31))) })) })) ∷ ((key 0x12), (record { stake = 0; registered = (Some (record { deposit = 2; rewards = 0; pool = None; drep = None })) })) ∷ []); dreps = (((key 0x30), 20) ∷ ((key 0x31), 20) ∷ []); mark = (((pool 0x50), 967) ∷ ((pool 0x51), 33) ∷ []); pool_accounts = (((pool 0x50), (account_on 1 (key 0x12))) ∷ ((pool 0x51), (account_on 1 (key 0x11))) ∷ []); hot = (((key 0x70), (Hot (key 0x71))) ∷ ((key 0x72), (Hot (key 0x73))) ∷ []); proposals = ((record resume_of_forged_exact_bounds_proposal_0 { votes = (((voter.Pool (pool 0x50)), vote.Abstain) ∷ []) }) ∷ (record resume_of_forged_exact_bounds_proposal_1 { votes = (((voter.Committee (key 0x71)), vote.Yes) ∷ ((voter.Drep (key 0x30)), vote.No) ∷ []) }) ∷ (record resume_of_forged_exact_bounds_proposal_2 { votes = [] }) ∷ (record resume_of_forged_exact_bounds_proposal_3 { votes = [] }) ∷ []); start = (record resume_of_forged_exact_bounds_state { treasury = 100 }) }) })

pub resume_of_forged_exact_bounds_shown : is_text (Some (checkpoint_text resume_of_forged_exact_bounds_world 9)) (
    codes "checkpoint 1 line 9 network 1 length 10 counted 0" ∷
    codes "now slot 21 epoch 2 version 10.0 dormant 0" ∷
    codes "constitution 0000000000000000000000000000000000000000000000000000000000000001 none" ∷
    codes "committee threshold 0/1" ∷
    codes "member k00000000000000000000000000000000000000000000000000000070 term 100 hot k00000000000000000000000000000000000000000000000000000074" ∷
    codes "member k00000000000000000000000000000000000000000000000000000072 term 4611686018427387903 hot k00000000000000000000000000000000000000000000000000000073" ∷
    codes "enacted committee none constitution none hardfork none parameters none" ∷
    codes "param maxBlockBodySize 90112" ∷
    codes "param maxTxSize 16384" ∷
    codes "param maxBlockHeaderSize 1100" ∷
    codes "param maxValueSize 5000" ∷
    codes "param maxTxExUnits 1000 1000" ∷
    codes "param maxBlockExUnits 1000 1000" ∷
    codes "param maxCollateralInputs 65535" ∷
    codes "param minFeeA 0" ∷
    codes "param minFeeB 0" ∷
    codes "param keyDeposit 18446744073709551615" ∷
    codes "param poolDeposit 5" ∷
    codes "param rho 0/1" ∷
    codes "param tau 0/1" ∷
    codes "param minPoolCost 0" ∷
    codes "param coinsPerUTxOByte 0" ∷
    codes "param prices 0/1 0/1" ∷
    codes "param minFeeRefScriptCostPerByte 15/1" ∷
    codes "param a0 0/1" ∷
    codes "param eMax 4294967295" ∷
    codes "param nOpt 500" ∷
    codes "param costModels 0000000000000000000000000000000000000000000000000000000000000000" ∷
    codes "param collateralPercentage 150" ∷
    codes "param poolVotingThresholds 0/1 0/1 0/1 0/1 0/1" ∷
    codes "param drepVotingThresholds 67/100 67/100 67/100 67/100 67/100 67/100 67/100 67/100 67/100 67/100" ∷
    codes "param govActionLifetime 20" ∷
    codes "param govActionDeposit 10" ∷
    codes "param drepDeposit 5" ∷
    codes "param drepActivity 20" ∷
    codes "param committeeMinSize 0" ∷
    codes "param committeeMaxTermLength 100" ∷
    codes "drep k00000000000000000000000000000000000000000000000000000030 deposit 5 expiry 20" ∷
    codes "drep k00000000000000000000000000000000000000000000000000000031 deposit 5 expiry 4611686022722355202" ∷
    codes "pool 00000000000000000000000000000000000000000000000000000050 deposit 5 cost 0 pledge 0 margin 0/1 account 1k00000000000000000000000000000000000000000000000000000012 retires never" ∷
    codes "next 00000000000000000000000000000000000000000000000000000050 cost 1 pledge 2 margin 1/3 account 1k00000000000000000000000000000000000000000000000000000012" ∷
    codes "pool 00000000000000000000000000000000000000000000000000000051 deposit 5 cost 18446744073709551615 pledge 18446744073709551615 margin 0/1 account 1k00000000000000000000000000000000000000000000000000000011 retires never" ∷
    codes "account k00000000000000000000000000000000000000000000000000000010 stake 20 deposit 2 rewards 67 pool 00000000000000000000000000000000000000000000000000000050 drep k00000000000000000000000000000000000000000000000000000030" ∷
    codes "account s00000000000000000000000000000000000000000000000000000010 stake 9 unregistered" ∷
    codes "account k00000000000000000000000000000000000000000000000000000011 stake 0 deposit 2 rewards 33 pool 00000000000000000000000000000000000000000000000000000051 drep k00000000000000000000000000000000000000000000000000000031" ∷
    codes "account k00000000000000000000000000000000000000000000000000000012 stake 0 deposit 2 rewards 0 pool none drep none" ∷
    codes "output 0000000000000000000000000000000000000000000000000000000000000001#6 1k00000000000000000000000000000000000000000000000000000001 20" ∷
    codes "output 0000000000000000000000000000000000000000000000000000000000000001#7 1k00000000000000000000000000000000000000000000000000000001+k00000000000000000000000000000000000000000000000000000010 20" ∷
    codes "output 0000000000000000000000000000000000000000000000000000000000000001#8 1k00000000000000000000000000000000000000000000000000000001+s00000000000000000000000000000000000000000000000000000010 9" ∷
    codes "output 0000000000000000000000000000000000000000000000000000000000000005#0 1k00000000000000000000000000000000000000000000000000000001 5" ∷
    codes "proposal 0000000000000000000000000000000000000000000000000000000000000002#0 NoConfidence deposit 10 return 1k00000000000000000000000000000000000000000000000000000012 expires 20 previous none" ∷
    codes "vote 0000000000000000000000000000000000000000000000000000000000000002#0 pool:00000000000000000000000000000000000000000000000000000050 abstain" ∷
    codes "proposal 0000000000000000000000000000000000000000000000000000000000000002#1 NewConstitution deposit 10 return 1k00000000000000000000000000000000000000000000000000000012 expires 20 previous none" ∷
    codes "vote 0000000000000000000000000000000000000000000000000000000000000002#1 committee:k00000000000000000000000000000000000000000000000000000071 yes" ∷
    codes "vote 0000000000000000000000000000000000000000000000000000000000000002#1 drep:k00000000000000000000000000000000000000000000000000000030 no" ∷
    codes "vote 0000000000000000000000000000000000000000000000000000000000000002#1 drep:k00000000000000000000000000000000000000000000000000000031 yes" ∷
    codes "proposal 0000000000000000000000000000000000000000000000000000000000000002#2 Info deposit 10 return 1k00000000000000000000000000000000000000000000000000000011 expires 20 previous none" ∷
    codes "proposal 0000000000000000000000000000000000000000000000000000000000000003#0 NoConfidence deposit 10 return 1k00000000000000000000000000000000000000000000000000000012 expires 20 previous 0000000000000000000000000000000000000000000000000000000000000002#0" ∷
    codes "snapshot mark 00000000000000000000000000000000000000000000000000000050 967" ∷
    codes "snapshot mark 00000000000000000000000000000000000000000000000000000051 33" ∷
    codes "snapshot set 00000000000000000000000000000000000000000000000000000050 967" ∷
    codes "snapshot set 00000000000000000000000000000000000000000000000000000051 33" ∷
    codes "snapshot go 00000000000000000000000000000000000000000000000000000050 967" ∷
    codes "snapshot go 00000000000000000000000000000000000000000000000000000051 33" ∷
    codes "snapshot fees 1000" ∷
    codes "pending reserves 20 fees 3 treasury 8" ∷
    codes "pending reward k00000000000000000000000000000000000000000000000000000010 10" ∷
    codes "pending reward k00000000000000000000000000000000000000000000000000000011 5" ∷
    codes "pots outputs 54 deposits 66 rewards 100 fees 35 donations 10 treasury 100 reserves 635 supply 1000" ∷
    codes "used 0000000000000000000000000000000000000000000000000000000000000001" ∷
    codes "used 0000000000000000000000000000000000000000000000000000000000000002" ∷
    codes "used 0000000000000000000000000000000000000000000000000000000000000003" ∷
    codes "used 0000000000000000000000000000000000000000000000000000000000000004" ∷
    codes "used 0000000000000000000000000000000000000000000000000000000000000005" ∷
    codes "action 0000000000000000000000000000000000000000000000000000000000000002#0 {\"type\":\"NoConfidence\"}" ∷
    codes "action 0000000000000000000000000000000000000000000000000000000000000002#1 {\"type\":\"NewConstitution\",\"document\":\"0000000000000000000000000000000000000000000000000000000000000002\"}" ∷
    codes "action 0000000000000000000000000000000000000000000000000000000000000002#2 {\"type\":\"Info\"}" ∷
    codes "action 0000000000000000000000000000000000000000000000000000000000000003#0 {\"type\":\"NoConfidence\",\"previous\":\"0000000000000000000000000000000000000000000000000000000000000002#0\"}" ∷
    codes "frozen treasury 100" ∷
    codes "frozen account k00000000000000000000000000000000000000000000000000000010 stake 851 deposit 2 rewards 67 pool 00000000000000000000000000000000000000000000000000000050 drep k00000000000000000000000000000000000000000000000000000030" ∷
    codes "frozen account s00000000000000000000000000000000000000000000000000000010 stake 9 unregistered" ∷
    codes "frozen account k00000000000000000000000000000000000000000000000000000011 stake 0 deposit 2 rewards 33 pool 00000000000000000000000000000000000000000000000000000051 drep k00000000000000000000000000000000000000000000000000000031" ∷
    codes "frozen account k00000000000000000000000000000000000000000000000000000012 stake 0 deposit 2 rewards 0 pool none drep none" ∷
    codes "frozen drep k00000000000000000000000000000000000000000000000000000030 expiry 20" ∷
    codes "frozen drep k00000000000000000000000000000000000000000000000000000031 expiry 20" ∷
    codes "frozen hot k00000000000000000000000000000000000000000000000000000070 k00000000000000000000000000000000000000000000000000000071" ∷
    codes "frozen hot k00000000000000000000000000000000000000000000000000000072 k00000000000000000000000000000000000000000000000000000073" ∷
    codes "frozen pool 00000000000000000000000000000000000000000000000000000050 account 1k00000000000000000000000000000000000000000000000000000012" ∷
    codes "frozen pool 00000000000000000000000000000000000000000000000000000051 account 1k00000000000000000000000000000000000000000000000000000011" ∷
    codes "frozen proposal 0000000000000000000000000000000000000000000000000000000000000002#0" ∷
    codes "frozen vote 0000000000000000000000000000000000000000000000000000000000000002#0 pool:00000000000000000000000000000000000000000000000000000050 abstain" ∷
    codes "frozen proposal 0000000000000000000000000000000000000000000000000000000000000002#1" ∷
    codes "frozen vote 0000000000000000000000000000000000000000000000000000000000000002#1 committee:k00000000000000000000000000000000000000000000000000000071 yes" ∷
    codes "frozen vote 0000000000000000000000000000000000000000000000000000000000000002#1 drep:k00000000000000000000000000000000000000000000000000000030 no" ∷
    codes "frozen proposal 0000000000000000000000000000000000000000000000000000000000000002#2" ∷
    codes "frozen proposal 0000000000000000000000000000000000000000000000000000000000000003#0" ∷
    codes "end" ∷
    []) ≡ true
unfolding digits encode_with
resume_of_forged_exact_bounds_shown = refl

pub resume_of_forged_exact_bounds_sound : IsResumable resume_of_forged_exact_bounds_world
unfolding digits encode_with
resume_of_forged_exact_bounds_sound = record { form = refl; time = refl; dormancy = refl; delegations = refl; supply = refl; ids = refl; chains = refl; pending = refl; within = refl; entries = refl; counted = refl; epoch = refl; mark = refl; state = refl; treasury = refl; proposals = refl; short = refl }

abbrev resume_of_forged_exact_bounds_input : List (ℕ × Reading)
resume_of_forged_exact_bounds_input =
    (10, Read (records.Print what.Pots)) ∷
    (11, Read (records.Block 29 1)) ∷
    (12, Read (records.Block 30 1)) ∷
    (13, Read (records.Print what.State)) ∷
    []

pub resume_of_forged_exact_bounds : is_text (Some (text_of_resume resume_of_forged_exact_bounds_world resume_of_forged_exact_bounds_input)) (
    codes "10 pots outputs 54 deposits 66 rewards 100 fees 35 donations 10 treasury 100 reserves 635 supply 1000" ∷
    codes "11 block slot 29 epoch 2 counted 1 of 4" ∷
    codes "12 epoch 3 frozen 4 dormant 0" ∷
    codes "12 stake k00000000000000000000000000000000000000000000000000000030 918" ∷
    codes "12 stake k00000000000000000000000000000000000000000000000000000031 43" ∷
    codes "12 tally 0000000000000000000000000000000000000000000000000000000000000002#0 NoConfidence committee 0/2 need none drep 0/961 need 67/100 pool 0/43 need 0/1 waiting" ∷
    codes "12 tally 0000000000000000000000000000000000000000000000000000000000000003#0 NoConfidence committee 0/2 need none drep 0/961 need 67/100 pool 0/1010 need 0/1 waiting" ∷
    codes "12 tally 0000000000000000000000000000000000000000000000000000000000000002#1 NewConstitution committee 1/2 need 0/1 drep 0/961 need 67/100 pool 0/1010 need none waiting" ∷
    codes "12 tally 0000000000000000000000000000000000000000000000000000000000000002#2 Info committee 0/2 need never drep 0/961 need never pool 0/1010 need never waiting" ∷
    codes "12 pots outputs 54 deposits 66 rewards 115 fees 32 donations 0 treasury 118 reserves 615 supply 1000" ∷
    codes "12 block slot 30 epoch 3 counted 1 of 4" ∷
    codes "13 now slot 30 epoch 3 version 10.0 dormant 0" ∷
    codes "13 constitution 0000000000000000000000000000000000000000000000000000000000000001 none" ∷
    codes "13 committee threshold 0/1" ∷
    codes "13 member k00000000000000000000000000000000000000000000000000000070 term 100 hot k00000000000000000000000000000000000000000000000000000074" ∷
    codes "13 member k00000000000000000000000000000000000000000000000000000072 term 4611686018427387903 hot k00000000000000000000000000000000000000000000000000000073" ∷
    codes "13 enacted committee none constitution none hardfork none parameters none" ∷
    codes "13 param maxBlockBodySize 90112" ∷
    codes "13 param maxTxSize 16384" ∷
    codes "13 param maxBlockHeaderSize 1100" ∷
    codes "13 param maxValueSize 5000" ∷
    codes "13 param maxTxExUnits 1000 1000" ∷
    codes "13 param maxBlockExUnits 1000 1000" ∷
    codes "13 param maxCollateralInputs 65535" ∷
    codes "13 param minFeeA 0" ∷
    codes "13 param minFeeB 0" ∷
    codes "13 param keyDeposit 18446744073709551615" ∷
    codes "13 param poolDeposit 5" ∷
    codes "13 param rho 0/1" ∷
    codes "13 param tau 0/1" ∷
    codes "13 param minPoolCost 0" ∷
    codes "13 param coinsPerUTxOByte 0" ∷
    codes "13 param prices 0/1 0/1" ∷
    codes "13 param minFeeRefScriptCostPerByte 15/1" ∷
    codes "13 param a0 0/1" ∷
    codes "13 param eMax 4294967295" ∷
    codes "13 param nOpt 500" ∷
    codes "13 param costModels 0000000000000000000000000000000000000000000000000000000000000000" ∷
    codes "13 param collateralPercentage 150" ∷
    codes "13 param poolVotingThresholds 0/1 0/1 0/1 0/1 0/1" ∷
    codes "13 param drepVotingThresholds 67/100 67/100 67/100 67/100 67/100 67/100 67/100 67/100 67/100 67/100" ∷
    codes "13 param govActionLifetime 20" ∷
    codes "13 param govActionDeposit 10" ∷
    codes "13 param drepDeposit 5" ∷
    codes "13 param drepActivity 20" ∷
    codes "13 param committeeMinSize 0" ∷
    codes "13 param committeeMaxTermLength 100" ∷
    codes "13 drep k00000000000000000000000000000000000000000000000000000030 deposit 5 expiry 20" ∷
    codes "13 drep k00000000000000000000000000000000000000000000000000000031 deposit 5 expiry 4611686022722355202" ∷
    codes "13 pool 00000000000000000000000000000000000000000000000000000050 deposit 5 cost 1 pledge 2 margin 1/3 account 1k00000000000000000000000000000000000000000000000000000012 retires never" ∷
    codes "13 pool 00000000000000000000000000000000000000000000000000000051 deposit 5 cost 18446744073709551615 pledge 18446744073709551615 margin 0/1 account 1k00000000000000000000000000000000000000000000000000000011 retires never" ∷
    codes "13 account k00000000000000000000000000000000000000000000000000000010 stake 20 deposit 2 rewards 77 pool 00000000000000000000000000000000000000000000000000000050 drep k00000000000000000000000000000000000000000000000000000030" ∷
    codes "13 account s00000000000000000000000000000000000000000000000000000010 stake 9 unregistered" ∷
    codes "13 account k00000000000000000000000000000000000000000000000000000011 stake 0 deposit 2 rewards 38 pool 00000000000000000000000000000000000000000000000000000051 drep k00000000000000000000000000000000000000000000000000000031" ∷
    codes "13 account k00000000000000000000000000000000000000000000000000000012 stake 0 deposit 2 rewards 0 pool none drep none" ∷
    codes "13 output 0000000000000000000000000000000000000000000000000000000000000001#6 1k00000000000000000000000000000000000000000000000000000001 20" ∷
    codes "13 output 0000000000000000000000000000000000000000000000000000000000000001#7 1k00000000000000000000000000000000000000000000000000000001+k00000000000000000000000000000000000000000000000000000010 20" ∷
    codes "13 output 0000000000000000000000000000000000000000000000000000000000000001#8 1k00000000000000000000000000000000000000000000000000000001+s00000000000000000000000000000000000000000000000000000010 9" ∷
    codes "13 output 0000000000000000000000000000000000000000000000000000000000000005#0 1k00000000000000000000000000000000000000000000000000000001 5" ∷
    codes "13 proposal 0000000000000000000000000000000000000000000000000000000000000002#0 NoConfidence deposit 10 return 1k00000000000000000000000000000000000000000000000000000012 expires 20 previous none" ∷
    codes "13 vote 0000000000000000000000000000000000000000000000000000000000000002#0 pool:00000000000000000000000000000000000000000000000000000050 abstain" ∷
    codes "13 proposal 0000000000000000000000000000000000000000000000000000000000000002#1 NewConstitution deposit 10 return 1k00000000000000000000000000000000000000000000000000000012 expires 20 previous none" ∷
    codes "13 vote 0000000000000000000000000000000000000000000000000000000000000002#1 committee:k00000000000000000000000000000000000000000000000000000071 yes" ∷
    codes "13 vote 0000000000000000000000000000000000000000000000000000000000000002#1 drep:k00000000000000000000000000000000000000000000000000000030 no" ∷
    codes "13 vote 0000000000000000000000000000000000000000000000000000000000000002#1 drep:k00000000000000000000000000000000000000000000000000000031 yes" ∷
    codes "13 proposal 0000000000000000000000000000000000000000000000000000000000000002#2 Info deposit 10 return 1k00000000000000000000000000000000000000000000000000000011 expires 20 previous none" ∷
    codes "13 proposal 0000000000000000000000000000000000000000000000000000000000000003#0 NoConfidence deposit 10 return 1k00000000000000000000000000000000000000000000000000000012 expires 20 previous 0000000000000000000000000000000000000000000000000000000000000002#0" ∷
    codes "13 snapshot mark 00000000000000000000000000000000000000000000000000000050 97" ∷
    codes "13 snapshot mark 00000000000000000000000000000000000000000000000000000051 38" ∷
    codes "13 snapshot set 00000000000000000000000000000000000000000000000000000050 967" ∷
    codes "13 snapshot set 00000000000000000000000000000000000000000000000000000051 33" ∷
    codes "13 snapshot go 00000000000000000000000000000000000000000000000000000050 967" ∷
    codes "13 snapshot go 00000000000000000000000000000000000000000000000000000051 33" ∷
    codes "13 snapshot fees 32" ∷
    codes "13 pending none" ∷
    codes "13 pots outputs 54 deposits 66 rewards 115 fees 32 donations 0 treasury 118 reserves 615 supply 1000" ∷
    []) ≡ true
unfolding digits encode_with
resume_of_forged_exact_bounds = refl

abbrev resume_of_the_greatest_version_state : EnactState
resume_of_the_greatest_version_state = (record { params = (record base_params { gov_action_lifetime = 20 }); version = (4294967295, 4294967295); committee = (Some (record { threshold = (share 0 1); members = (((key 0x70), 100) ∷ ((key 0x72), 100) ∷ []) })); document = (h32 0x01); script = None; last = (record { committee = None; constitution = None; hardfork = None; parameters = None }); treasury = 100 })

abbrev resume_of_the_greatest_version_proposal_0 : Proposal
resume_of_the_greatest_version_proposal_0 = (record { id = (action 0x02 0); action = (actions.NoConfidence None); deposit = 10; account = (account_on 1 (key 0x12)); expires_after = 20; votes = (((voter.Pool (pool 0x50)), vote.Abstain) ∷ []) })

abbrev resume_of_the_greatest_version_proposal_1 : Proposal
resume_of_the_greatest_version_proposal_1 = (record { id = (action 0x02 1); action = (actions.NewConstitution None (h32 0x02) None); deposit = 10; account = (account_on 1 (key 0x12)); expires_after = 20; votes = (((voter.Committee (key 0x71)), vote.Yes) ∷ ((voter.Drep (key 0x30)), vote.No) ∷ ((voter.Drep (key 0x31)), vote.Yes) ∷ []) })

abbrev resume_of_the_greatest_version_proposal_2 : Proposal
resume_of_the_greatest_version_proposal_2 = (record { id = (action 0x02 2); action = (actions.Info); deposit = 10; account = (account_on 1 (key 0x11)); expires_after = 20; votes = [] })

abbrev resume_of_the_greatest_version_proposal_3 : Proposal
resume_of_the_greatest_version_proposal_3 = (record { id = (action 0x03 0); action = (actions.NoConfidence (Some (action 0x02 0))); deposit = 10; account = (account_on 1 (key 0x12)); expires_after = 20; votes = [] })

abbrev resume_of_the_greatest_version_world : World
resume_of_the_greatest_version_world = (record { ledger = (record { network = 1; epoch_length = 10; supply = 1000; slot = 21; epoch = 2; dormant = 0; reserves = 635; fees = 35; donations = 10; state = resume_of_the_greatest_version_state; outputs = (((ref 0x01 6), (record { address = (address_with 1 (key 0x01) None); lovelace = 20; assets = [] })) ∷ ((ref 0x01 7), (record { address = (address_with 1 (key 0x01) (Some (key 0x10))); lovelace = 20; assets = [] })) ∷ ((ref 0x01 8), (record { address = (address_with 1 (key 0x01) (Some (script 0x10))); lovelace = 9; assets = [] })) ∷ ((ref 0x05 0), (record { address = (address_with 1 (key 0x01) None); lovelace = 5; assets = [] })) ∷ []); used = ((tx_id 0x01) ∷ (tx_id 0x02) ∷ (tx_id 0x03) ∷ (tx_id 0x04) ∷ (tx_id 0x05) ∷ []); accounts = (((key 0x10), (record { deposit = 2; rewards = 67; pool = (Some (pool 0x50)); drep = (Some (drep.Registered (key 0x30))) })) ∷ ((key 0x11), (record { deposit = 2; rewards = 33; pool = (Some (pool 0x51)); drep = (Some (drep.Registered (key 0x31))) })) ∷ ((key 0x12), (record { deposit = 2; rewards = 0; pool = None; drep = None })) ∷ []); pools = (((pool 0x50), (record { deposit = 5; terms = (record { cost = 0; pledge = 0; margin = (share 0 1); account = (account_on 1 (key 0x12)); key = None }); future = (Some (record { cost = 1; pledge = 2; margin = (share 1 3); account = (account_on 1 (key 0x12)); key = None })); retires = None })) ∷ ((pool 0x51), (record { deposit = 5; terms = (record { cost = 0; pledge = 0; margin = (share 0 1); account = (account_on 1 (key 0x11)); key = None }); future = None; retires = None })) ∷ []); dreps = (((key 0x30), (record { deposit = 5; expiry = 20 })) ∷ ((key 0x31), (record { deposit = 5; expiry = 22 })) ∷ []); hot = (((key 0x70), (Hot (key 0x74))) ∷ ((key 0x72), (Hot (key 0x73))) ∷ []); proposals = (resume_of_the_greatest_version_proposal_0 ∷ resume_of_the_greatest_version_proposal_1 ∷ resume_of_the_greatest_version_proposal_2 ∷ resume_of_the_greatest_version_proposal_3 ∷ []) }); pending = (Some (record { epoch = 2; from_reserves = 20; from_fees = 3; to_treasury = 8; rewards = (((key 0x10), 10) ∷ ((key 0x11), 5) ∷ []) })); counted = 2; mark = (((pool 0x50), 87) ∷ ((pool 0x51), 33) ∷ []); set = (((pool 0x50), 87) ∷ ((pool 0x51), 33) ∷ []); go = (((pool 0x50), 87) ∷ ((pool 0x51), 33) ∷ []); noted_fees = 30; frozen = (record { epoch = 2; entries = (((key 0x10), (record { stake = 20; registered = (Some (record { deposit = 2; rewards = 67; pool = (Some (pool 0x50)); drep = (Some (drep.Registered (key 0x30))) })) })) ∷ ((script 0x10), (record { stake = 9; registered = None })) ∷ ((key 0x11), (record { stake = 0; registered = (Some (record { deposit = 2; rewards = 33; pool = (Some (pool 0x51)); drep = (Some (drep.Registered (key 0x31))) })) })) ∷ ((key 0x12), (record { stake = 0; registered = (Some (record { deposit = 2; rewards = 0; pool = None; drep = None })) })) ∷ []); dreps = (((key 0x30), 20) ∷ ((key 0x31), 20) ∷ []); mark = (((pool 0x50), 87) ∷ ((pool 0x51), 33) ∷ []); pool_accounts = (((pool 0x50), (account_on 1 (key 0x12))) ∷ ((pool 0x51), (account_on 1 (key 0x11))) ∷ []); hot = (((key 0x70), (Hot (key 0x71))) ∷ ((key 0x72), (Hot (key 0x73))) ∷ []); proposals = ((record resume_of_the_greatest_version_proposal_0 { votes = (((voter.Pool (pool 0x50)), vote.Abstain) ∷ []) }) ∷ (record resume_of_the_greatest_version_proposal_1 { votes = (((voter.Committee (key 0x71)), vote.Yes) ∷ ((voter.Drep (key 0x30)), vote.No) ∷ []) }) ∷ (record resume_of_the_greatest_version_proposal_2 { votes = [] }) ∷ (record resume_of_the_greatest_version_proposal_3 { votes = [] }) ∷ []); start = (record resume_of_the_greatest_version_state { treasury = 100 }) }) })

pub resume_of_the_greatest_version_shown : is_text (Some (checkpoint_text resume_of_the_greatest_version_world 9)) (
    codes "checkpoint 1 line 9 network 1 length 10 counted 2" ∷
    codes "now slot 21 epoch 2 version 4294967295.4294967295 dormant 0" ∷
    codes "constitution 0000000000000000000000000000000000000000000000000000000000000001 none" ∷
    codes "committee threshold 0/1" ∷
    codes "member k00000000000000000000000000000000000000000000000000000070 term 100 hot k00000000000000000000000000000000000000000000000000000074" ∷
    codes "member k00000000000000000000000000000000000000000000000000000072 term 100 hot k00000000000000000000000000000000000000000000000000000073" ∷
    codes "enacted committee none constitution none hardfork none parameters none" ∷
    codes "param maxBlockBodySize 90112" ∷
    codes "param maxTxSize 16384" ∷
    codes "param maxBlockHeaderSize 1100" ∷
    codes "param maxValueSize 5000" ∷
    codes "param maxTxExUnits 1000 1000" ∷
    codes "param maxBlockExUnits 1000 1000" ∷
    codes "param maxCollateralInputs 3" ∷
    codes "param minFeeA 0" ∷
    codes "param minFeeB 0" ∷
    codes "param keyDeposit 2" ∷
    codes "param poolDeposit 5" ∷
    codes "param rho 0/1" ∷
    codes "param tau 0/1" ∷
    codes "param minPoolCost 0" ∷
    codes "param coinsPerUTxOByte 0" ∷
    codes "param prices 0/1 0/1" ∷
    codes "param minFeeRefScriptCostPerByte 15/1" ∷
    codes "param a0 0/1" ∷
    codes "param eMax 18" ∷
    codes "param nOpt 500" ∷
    codes "param costModels 0000000000000000000000000000000000000000000000000000000000000000" ∷
    codes "param collateralPercentage 150" ∷
    codes "param poolVotingThresholds 0/1 0/1 0/1 0/1 0/1" ∷
    codes "param drepVotingThresholds 67/100 67/100 67/100 67/100 67/100 67/100 67/100 67/100 67/100 67/100" ∷
    codes "param govActionLifetime 20" ∷
    codes "param govActionDeposit 10" ∷
    codes "param drepDeposit 5" ∷
    codes "param drepActivity 20" ∷
    codes "param committeeMinSize 0" ∷
    codes "param committeeMaxTermLength 100" ∷
    codes "drep k00000000000000000000000000000000000000000000000000000030 deposit 5 expiry 20" ∷
    codes "drep k00000000000000000000000000000000000000000000000000000031 deposit 5 expiry 22" ∷
    codes "pool 00000000000000000000000000000000000000000000000000000050 deposit 5 cost 0 pledge 0 margin 0/1 account 1k00000000000000000000000000000000000000000000000000000012 retires never" ∷
    codes "next 00000000000000000000000000000000000000000000000000000050 cost 1 pledge 2 margin 1/3 account 1k00000000000000000000000000000000000000000000000000000012" ∷
    codes "pool 00000000000000000000000000000000000000000000000000000051 deposit 5 cost 0 pledge 0 margin 0/1 account 1k00000000000000000000000000000000000000000000000000000011 retires never" ∷
    codes "account k00000000000000000000000000000000000000000000000000000010 stake 20 deposit 2 rewards 67 pool 00000000000000000000000000000000000000000000000000000050 drep k00000000000000000000000000000000000000000000000000000030" ∷
    codes "account s00000000000000000000000000000000000000000000000000000010 stake 9 unregistered" ∷
    codes "account k00000000000000000000000000000000000000000000000000000011 stake 0 deposit 2 rewards 33 pool 00000000000000000000000000000000000000000000000000000051 drep k00000000000000000000000000000000000000000000000000000031" ∷
    codes "account k00000000000000000000000000000000000000000000000000000012 stake 0 deposit 2 rewards 0 pool none drep none" ∷
    codes "output 0000000000000000000000000000000000000000000000000000000000000001#6 1k00000000000000000000000000000000000000000000000000000001 20" ∷
    codes "output 0000000000000000000000000000000000000000000000000000000000000001#7 1k00000000000000000000000000000000000000000000000000000001+k00000000000000000000000000000000000000000000000000000010 20" ∷
    codes "output 0000000000000000000000000000000000000000000000000000000000000001#8 1k00000000000000000000000000000000000000000000000000000001+s00000000000000000000000000000000000000000000000000000010 9" ∷
    codes "output 0000000000000000000000000000000000000000000000000000000000000005#0 1k00000000000000000000000000000000000000000000000000000001 5" ∷
    codes "proposal 0000000000000000000000000000000000000000000000000000000000000002#0 NoConfidence deposit 10 return 1k00000000000000000000000000000000000000000000000000000012 expires 20 previous none" ∷
    codes "vote 0000000000000000000000000000000000000000000000000000000000000002#0 pool:00000000000000000000000000000000000000000000000000000050 abstain" ∷
    codes "proposal 0000000000000000000000000000000000000000000000000000000000000002#1 NewConstitution deposit 10 return 1k00000000000000000000000000000000000000000000000000000012 expires 20 previous none" ∷
    codes "vote 0000000000000000000000000000000000000000000000000000000000000002#1 committee:k00000000000000000000000000000000000000000000000000000071 yes" ∷
    codes "vote 0000000000000000000000000000000000000000000000000000000000000002#1 drep:k00000000000000000000000000000000000000000000000000000030 no" ∷
    codes "vote 0000000000000000000000000000000000000000000000000000000000000002#1 drep:k00000000000000000000000000000000000000000000000000000031 yes" ∷
    codes "proposal 0000000000000000000000000000000000000000000000000000000000000002#2 Info deposit 10 return 1k00000000000000000000000000000000000000000000000000000011 expires 20 previous none" ∷
    codes "proposal 0000000000000000000000000000000000000000000000000000000000000003#0 NoConfidence deposit 10 return 1k00000000000000000000000000000000000000000000000000000012 expires 20 previous 0000000000000000000000000000000000000000000000000000000000000002#0" ∷
    codes "snapshot mark 00000000000000000000000000000000000000000000000000000050 87" ∷
    codes "snapshot mark 00000000000000000000000000000000000000000000000000000051 33" ∷
    codes "snapshot set 00000000000000000000000000000000000000000000000000000050 87" ∷
    codes "snapshot set 00000000000000000000000000000000000000000000000000000051 33" ∷
    codes "snapshot go 00000000000000000000000000000000000000000000000000000050 87" ∷
    codes "snapshot go 00000000000000000000000000000000000000000000000000000051 33" ∷
    codes "snapshot fees 30" ∷
    codes "pending reserves 20 fees 3 treasury 8" ∷
    codes "pending reward k00000000000000000000000000000000000000000000000000000010 10" ∷
    codes "pending reward k00000000000000000000000000000000000000000000000000000011 5" ∷
    codes "pots outputs 54 deposits 66 rewards 100 fees 35 donations 10 treasury 100 reserves 635 supply 1000" ∷
    codes "used 0000000000000000000000000000000000000000000000000000000000000001" ∷
    codes "used 0000000000000000000000000000000000000000000000000000000000000002" ∷
    codes "used 0000000000000000000000000000000000000000000000000000000000000003" ∷
    codes "used 0000000000000000000000000000000000000000000000000000000000000004" ∷
    codes "used 0000000000000000000000000000000000000000000000000000000000000005" ∷
    codes "action 0000000000000000000000000000000000000000000000000000000000000002#0 {\"type\":\"NoConfidence\"}" ∷
    codes "action 0000000000000000000000000000000000000000000000000000000000000002#1 {\"type\":\"NewConstitution\",\"document\":\"0000000000000000000000000000000000000000000000000000000000000002\"}" ∷
    codes "action 0000000000000000000000000000000000000000000000000000000000000002#2 {\"type\":\"Info\"}" ∷
    codes "action 0000000000000000000000000000000000000000000000000000000000000003#0 {\"type\":\"NoConfidence\",\"previous\":\"0000000000000000000000000000000000000000000000000000000000000002#0\"}" ∷
    codes "frozen treasury 100" ∷
    codes "frozen account k00000000000000000000000000000000000000000000000000000010 stake 20 deposit 2 rewards 67 pool 00000000000000000000000000000000000000000000000000000050 drep k00000000000000000000000000000000000000000000000000000030" ∷
    codes "frozen account s00000000000000000000000000000000000000000000000000000010 stake 9 unregistered" ∷
    codes "frozen account k00000000000000000000000000000000000000000000000000000011 stake 0 deposit 2 rewards 33 pool 00000000000000000000000000000000000000000000000000000051 drep k00000000000000000000000000000000000000000000000000000031" ∷
    codes "frozen account k00000000000000000000000000000000000000000000000000000012 stake 0 deposit 2 rewards 0 pool none drep none" ∷
    codes "frozen drep k00000000000000000000000000000000000000000000000000000030 expiry 20" ∷
    codes "frozen drep k00000000000000000000000000000000000000000000000000000031 expiry 20" ∷
    codes "frozen hot k00000000000000000000000000000000000000000000000000000070 k00000000000000000000000000000000000000000000000000000071" ∷
    codes "frozen hot k00000000000000000000000000000000000000000000000000000072 k00000000000000000000000000000000000000000000000000000073" ∷
    codes "frozen pool 00000000000000000000000000000000000000000000000000000050 account 1k00000000000000000000000000000000000000000000000000000012" ∷
    codes "frozen pool 00000000000000000000000000000000000000000000000000000051 account 1k00000000000000000000000000000000000000000000000000000011" ∷
    codes "frozen proposal 0000000000000000000000000000000000000000000000000000000000000002#0" ∷
    codes "frozen vote 0000000000000000000000000000000000000000000000000000000000000002#0 pool:00000000000000000000000000000000000000000000000000000050 abstain" ∷
    codes "frozen proposal 0000000000000000000000000000000000000000000000000000000000000002#1" ∷
    codes "frozen vote 0000000000000000000000000000000000000000000000000000000000000002#1 committee:k00000000000000000000000000000000000000000000000000000071 yes" ∷
    codes "frozen vote 0000000000000000000000000000000000000000000000000000000000000002#1 drep:k00000000000000000000000000000000000000000000000000000030 no" ∷
    codes "frozen proposal 0000000000000000000000000000000000000000000000000000000000000002#2" ∷
    codes "frozen proposal 0000000000000000000000000000000000000000000000000000000000000003#0" ∷
    codes "end" ∷
    []) ≡ true
unfolding digits encode_with
resume_of_the_greatest_version_shown = refl

pub resume_of_the_greatest_version_sound : IsResumable resume_of_the_greatest_version_world
unfolding digits encode_with
resume_of_the_greatest_version_sound = record { form = refl; time = refl; dormancy = refl; delegations = refl; supply = refl; ids = refl; chains = refl; pending = refl; within = refl; entries = refl; counted = refl; epoch = refl; mark = refl; state = refl; treasury = refl; proposals = refl; short = refl }

abbrev resume_of_the_greatest_version_input : List (ℕ × Reading)
resume_of_the_greatest_version_input =
    (10, Read (records.Tx (record (spend 0x06 10) { proposals = ((proposing 10 (account_on 1 (key 0x12)) (actions.HardForkInitiation None (4294967295, 0))) ∷ []) }))) ∷
    (11, Read (records.Tx (record (spend 0x06 10) { proposals = ((proposing 10 (account_on 1 (key 0x12)) (actions.HardForkInitiation None (0, 0))) ∷ []) }))) ∷
    (12, Read (records.Tx (record (spend 0x06 10) { proposals = ((proposing 10 (account_on 1 (key 0x12)) (actions.HardForkInitiation None (4294967295, 4294967295))) ∷ []) }))) ∷
    (13, Read (records.Tx (record (spend 0x06 20) { votes = ((voting (voter.Committee (key 0x71)) (action 0x02 1) vote.Yes) ∷ []) }))) ∷
    (14, Read (records.Tx (record (spend 0x06 20) { votes = ((voting (voter.Committee (key 0x74)) (action 0x02 1) vote.No) ∷ []) }))) ∷
    (15, Read (records.Block 30 1)) ∷
    []

pub resume_of_the_greatest_version : is_text (Some (text_of_resume resume_of_the_greatest_version_world resume_of_the_greatest_version_input)) (
    codes "10 refused 91 CannotFollow at 0" ∷
    codes "11 refused 91 CannotFollow at 0" ∷
    codes "12 refused 91 CannotFollow at 0" ∷
    codes "13 refused 101 VoterUnknown at 0" ∷
    codes "14 accepted" ∷
    codes "15 epoch 3 frozen 4 dormant 0" ∷
    codes "15 stake k00000000000000000000000000000000000000000000000000000030 87" ∷
    codes "15 stake k00000000000000000000000000000000000000000000000000000031 43" ∷
    codes "15 tally 0000000000000000000000000000000000000000000000000000000000000002#0 NoConfidence committee 0/2 need none drep 0/130 need 67/100 pool 0/43 need 0/1 waiting" ∷
    codes "15 tally 0000000000000000000000000000000000000000000000000000000000000003#0 NoConfidence committee 0/2 need none drep 0/130 need 67/100 pool 0/130 need 0/1 waiting" ∷
    codes "15 tally 0000000000000000000000000000000000000000000000000000000000000002#1 NewConstitution committee 1/2 need 0/1 drep 0/130 need 67/100 pool 0/130 need none waiting" ∷
    codes "15 tally 0000000000000000000000000000000000000000000000000000000000000002#2 Info committee 0/2 need never drep 0/130 need never pool 0/130 need never waiting" ∷
    codes "15 pots outputs 34 deposits 66 rewards 115 fees 52 donations 0 treasury 118 reserves 615 supply 1000" ∷
    codes "15 block slot 30 epoch 3 counted 1 of 4" ∷
    []) ≡ true
unfolding digits encode_with
resume_of_the_greatest_version = refl

abbrev resume_of_forged_dormant_counts_state : EnactState
resume_of_forged_dormant_counts_state = (record { params = base_params; version = (10, 0); committee = (Some (record { threshold = (share 0 1); members = (((key 0x70), 100) ∷ []) })); document = (h32 0x01); script = None; last = (record { committee = None; constitution = None; hardfork = None; parameters = None }); treasury = 100 })

abbrev resume_of_forged_dormant_counts_world : World
resume_of_forged_dormant_counts_world = (record { ledger = (record { network = 1; epoch_length = 10; supply = 1000; slot = 120; epoch = 12; dormant = 12; reserves = 579; fees = 0; donations = 0; state = resume_of_forged_dormant_counts_state; outputs = (((ref 0x01 0), (record { address = (address_with 1 (key 0x01) None); lovelace = 20; assets = [] })) ∷ ((ref 0x01 1), (record { address = (address_with 1 (key 0x01) None); lovelace = 20; assets = [] })) ∷ ((ref 0x01 2), (record { address = (address_with 1 (key 0x01) None); lovelace = 20; assets = [] })) ∷ ((ref 0x01 3), (record { address = (address_with 1 (key 0x01) None); lovelace = 20; assets = [] })) ∷ ((ref 0x01 4), (record { address = (address_with 1 (key 0x01) None); lovelace = 20; assets = [] })) ∷ ((ref 0x01 5), (record { address = (address_with 1 (key 0x01) None); lovelace = 20; assets = [] })) ∷ ((ref 0x01 6), (record { address = (address_with 1 (key 0x01) None); lovelace = 20; assets = [] })) ∷ ((ref 0x01 7), (record { address = (address_with 1 (key 0x01) None); lovelace = 20; assets = [] })) ∷ ((ref 0x01 8), (record { address = (address_with 1 (key 0x01) None); lovelace = 20; assets = [] })) ∷ ((ref 0x01 9), (record { address = (address_with 1 (key 0x01) None); lovelace = 20; assets = [] })) ∷ []); used = ((tx_id 0x01) ∷ []); accounts = (((key 0x10), (record { deposit = 2; rewards = 67; pool = None; drep = (Some (drep.Registered (key 0x30))) })) ∷ ((key 0x11), (record { deposit = 2; rewards = 33; pool = None; drep = (Some (drep.Registered (key 0x31))) })) ∷ ((key 0x12), (record { deposit = 2; rewards = 0; pool = None; drep = None })) ∷ []); pools = (((pool 0x50), (record { deposit = 5; terms = (record { cost = 0; pledge = 0; margin = (share 0 1); account = (account_on 1 (key 0x12)); key = None }); future = None; retires = None })) ∷ []); dreps = (((key 0x30), (record { deposit = 5; expiry = 4611686022722355200 })) ∷ ((key 0x31), (record { deposit = 5; expiry = 20 })) ∷ []); hot = (((key 0x70), (Hot (key 0x71))) ∷ []); proposals = [] }); pending = None; counted = 1; mark = (((pool 0x50), 0) ∷ []); set = (((pool 0x50), 0) ∷ []); go = (((pool 0x50), 0) ∷ []); noted_fees = 0; frozen = (record { epoch = 12; entries = (((key 0x10), (record { stake = 0; registered = (Some (record { deposit = 2; rewards = 67; pool = None; drep = (Some (drep.Registered (key 0x30))) })) })) ∷ ((key 0x11), (record { stake = 0; registered = (Some (record { deposit = 2; rewards = 33; pool = None; drep = (Some (drep.Registered (key 0x31))) })) })) ∷ ((key 0x12), (record { stake = 0; registered = (Some (record { deposit = 2; rewards = 0; pool = None; drep = None })) })) ∷ []); dreps = (((key 0x30), 20) ∷ ((key 0x31), 20) ∷ []); mark = (((pool 0x50), 0) ∷ []); pool_accounts = (((pool 0x50), (account_on 1 (key 0x12))) ∷ []); hot = (((key 0x70), (Hot (key 0x71))) ∷ []); proposals = []; start = (record resume_of_forged_dormant_counts_state { treasury = 100 }) }) })

pub resume_of_forged_dormant_counts_shown : is_text (Some (checkpoint_text resume_of_forged_dormant_counts_world 4)) (
    codes "checkpoint 1 line 4 network 1 length 10 counted 1" ∷
    codes "now slot 120 epoch 12 version 10.0 dormant 12" ∷
    codes "constitution 0000000000000000000000000000000000000000000000000000000000000001 none" ∷
    codes "committee threshold 0/1" ∷
    codes "member k00000000000000000000000000000000000000000000000000000070 term 100 hot k00000000000000000000000000000000000000000000000000000071" ∷
    codes "enacted committee none constitution none hardfork none parameters none" ∷
    codes "param maxBlockBodySize 90112" ∷
    codes "param maxTxSize 16384" ∷
    codes "param maxBlockHeaderSize 1100" ∷
    codes "param maxValueSize 5000" ∷
    codes "param maxTxExUnits 1000 1000" ∷
    codes "param maxBlockExUnits 1000 1000" ∷
    codes "param maxCollateralInputs 3" ∷
    codes "param minFeeA 0" ∷
    codes "param minFeeB 0" ∷
    codes "param keyDeposit 2" ∷
    codes "param poolDeposit 5" ∷
    codes "param rho 0/1" ∷
    codes "param tau 0/1" ∷
    codes "param minPoolCost 0" ∷
    codes "param coinsPerUTxOByte 0" ∷
    codes "param prices 0/1 0/1" ∷
    codes "param minFeeRefScriptCostPerByte 15/1" ∷
    codes "param a0 0/1" ∷
    codes "param eMax 18" ∷
    codes "param nOpt 500" ∷
    codes "param costModels 0000000000000000000000000000000000000000000000000000000000000000" ∷
    codes "param collateralPercentage 150" ∷
    codes "param poolVotingThresholds 0/1 0/1 0/1 0/1 0/1" ∷
    codes "param drepVotingThresholds 67/100 67/100 67/100 67/100 67/100 67/100 67/100 67/100 67/100 67/100" ∷
    codes "param govActionLifetime 2" ∷
    codes "param govActionDeposit 10" ∷
    codes "param drepDeposit 5" ∷
    codes "param drepActivity 20" ∷
    codes "param committeeMinSize 0" ∷
    codes "param committeeMaxTermLength 100" ∷
    codes "drep k00000000000000000000000000000000000000000000000000000030 deposit 5 expiry 4611686022722355200" ∷
    codes "drep k00000000000000000000000000000000000000000000000000000031 deposit 5 expiry 20" ∷
    codes "pool 00000000000000000000000000000000000000000000000000000050 deposit 5 cost 0 pledge 0 margin 0/1 account 1k00000000000000000000000000000000000000000000000000000012 retires never" ∷
    codes "account k00000000000000000000000000000000000000000000000000000010 stake 0 deposit 2 rewards 67 pool none drep k00000000000000000000000000000000000000000000000000000030" ∷
    codes "account k00000000000000000000000000000000000000000000000000000011 stake 0 deposit 2 rewards 33 pool none drep k00000000000000000000000000000000000000000000000000000031" ∷
    codes "account k00000000000000000000000000000000000000000000000000000012 stake 0 deposit 2 rewards 0 pool none drep none" ∷
    codes "output 0000000000000000000000000000000000000000000000000000000000000001#0 1k00000000000000000000000000000000000000000000000000000001 20" ∷
    codes "output 0000000000000000000000000000000000000000000000000000000000000001#1 1k00000000000000000000000000000000000000000000000000000001 20" ∷
    codes "output 0000000000000000000000000000000000000000000000000000000000000001#2 1k00000000000000000000000000000000000000000000000000000001 20" ∷
    codes "output 0000000000000000000000000000000000000000000000000000000000000001#3 1k00000000000000000000000000000000000000000000000000000001 20" ∷
    codes "output 0000000000000000000000000000000000000000000000000000000000000001#4 1k00000000000000000000000000000000000000000000000000000001 20" ∷
    codes "output 0000000000000000000000000000000000000000000000000000000000000001#5 1k00000000000000000000000000000000000000000000000000000001 20" ∷
    codes "output 0000000000000000000000000000000000000000000000000000000000000001#6 1k00000000000000000000000000000000000000000000000000000001 20" ∷
    codes "output 0000000000000000000000000000000000000000000000000000000000000001#7 1k00000000000000000000000000000000000000000000000000000001 20" ∷
    codes "output 0000000000000000000000000000000000000000000000000000000000000001#8 1k00000000000000000000000000000000000000000000000000000001 20" ∷
    codes "output 0000000000000000000000000000000000000000000000000000000000000001#9 1k00000000000000000000000000000000000000000000000000000001 20" ∷
    codes "snapshot mark 00000000000000000000000000000000000000000000000000000050 0" ∷
    codes "snapshot set 00000000000000000000000000000000000000000000000000000050 0" ∷
    codes "snapshot go 00000000000000000000000000000000000000000000000000000050 0" ∷
    codes "snapshot fees 0" ∷
    codes "pending none" ∷
    codes "pots outputs 200 deposits 21 rewards 100 fees 0 donations 0 treasury 100 reserves 579 supply 1000" ∷
    codes "used 0000000000000000000000000000000000000000000000000000000000000001" ∷
    codes "frozen treasury 100" ∷
    codes "frozen account k00000000000000000000000000000000000000000000000000000010 stake 0 deposit 2 rewards 67 pool none drep k00000000000000000000000000000000000000000000000000000030" ∷
    codes "frozen account k00000000000000000000000000000000000000000000000000000011 stake 0 deposit 2 rewards 33 pool none drep k00000000000000000000000000000000000000000000000000000031" ∷
    codes "frozen account k00000000000000000000000000000000000000000000000000000012 stake 0 deposit 2 rewards 0 pool none drep none" ∷
    codes "frozen drep k00000000000000000000000000000000000000000000000000000030 expiry 20" ∷
    codes "frozen drep k00000000000000000000000000000000000000000000000000000031 expiry 20" ∷
    codes "frozen hot k00000000000000000000000000000000000000000000000000000070 k00000000000000000000000000000000000000000000000000000071" ∷
    codes "frozen pool 00000000000000000000000000000000000000000000000000000050 account 1k00000000000000000000000000000000000000000000000000000012" ∷
    codes "end" ∷
    []) ≡ true
unfolding digits encode_with
resume_of_forged_dormant_counts_shown = refl

pub resume_of_forged_dormant_counts_sound : IsResumable resume_of_forged_dormant_counts_world
unfolding digits encode_with
resume_of_forged_dormant_counts_sound = record { form = refl; time = refl; dormancy = refl; delegations = refl; supply = refl; ids = refl; chains = refl; pending = refl; within = refl; entries = refl; counted = refl; epoch = refl; mark = refl; state = refl; treasury = refl; proposals = refl; short = refl }

abbrev resume_of_forged_dormant_counts_input : List (ℕ × Reading)
resume_of_forged_dormant_counts_input =
    (5, Read (records.Block 121 1)) ∷
    (6, Read (records.Tx (record (spend 0x02 10) { proposals = ((proposing 10 (account_on 1 (key 0x12)) (actions.NoConfidence None)) ∷ []) }))) ∷
    (7, Read (records.Print what.State)) ∷
    []

pub resume_of_forged_dormant_counts : is_text (Some (text_of_resume resume_of_forged_dormant_counts_world resume_of_forged_dormant_counts_input)) (
    codes "5 block slot 121 epoch 12 counted 2 of 3" ∷
    codes "6 accepted" ∷
    codes "7 now slot 121 epoch 12 version 10.0 dormant 0" ∷
    codes "7 constitution 0000000000000000000000000000000000000000000000000000000000000001 none" ∷
    codes "7 committee threshold 0/1" ∷
    codes "7 member k00000000000000000000000000000000000000000000000000000070 term 100 hot k00000000000000000000000000000000000000000000000000000071" ∷
    codes "7 enacted committee none constitution none hardfork none parameters none" ∷
    codes "7 param maxBlockBodySize 90112" ∷
    codes "7 param maxTxSize 16384" ∷
    codes "7 param maxBlockHeaderSize 1100" ∷
    codes "7 param maxValueSize 5000" ∷
    codes "7 param maxTxExUnits 1000 1000" ∷
    codes "7 param maxBlockExUnits 1000 1000" ∷
    codes "7 param maxCollateralInputs 3" ∷
    codes "7 param minFeeA 0" ∷
    codes "7 param minFeeB 0" ∷
    codes "7 param keyDeposit 2" ∷
    codes "7 param poolDeposit 5" ∷
    codes "7 param rho 0/1" ∷
    codes "7 param tau 0/1" ∷
    codes "7 param minPoolCost 0" ∷
    codes "7 param coinsPerUTxOByte 0" ∷
    codes "7 param prices 0/1 0/1" ∷
    codes "7 param minFeeRefScriptCostPerByte 15/1" ∷
    codes "7 param a0 0/1" ∷
    codes "7 param eMax 18" ∷
    codes "7 param nOpt 500" ∷
    codes "7 param costModels 0000000000000000000000000000000000000000000000000000000000000000" ∷
    codes "7 param collateralPercentage 150" ∷
    codes "7 param poolVotingThresholds 0/1 0/1 0/1 0/1 0/1" ∷
    codes "7 param drepVotingThresholds 67/100 67/100 67/100 67/100 67/100 67/100 67/100 67/100 67/100 67/100" ∷
    codes "7 param govActionLifetime 2" ∷
    codes "7 param govActionDeposit 10" ∷
    codes "7 param drepDeposit 5" ∷
    codes "7 param drepActivity 20" ∷
    codes "7 param committeeMinSize 0" ∷
    codes "7 param committeeMaxTermLength 100" ∷
    codes "7 drep k00000000000000000000000000000000000000000000000000000030 deposit 5 expiry 4611686022722355212" ∷
    codes "7 drep k00000000000000000000000000000000000000000000000000000031 deposit 5 expiry 32" ∷
    codes "7 pool 00000000000000000000000000000000000000000000000000000050 deposit 5 cost 0 pledge 0 margin 0/1 account 1k00000000000000000000000000000000000000000000000000000012 retires never" ∷
    codes "7 account k00000000000000000000000000000000000000000000000000000010 stake 0 deposit 2 rewards 67 pool none drep k00000000000000000000000000000000000000000000000000000030" ∷
    codes "7 account k00000000000000000000000000000000000000000000000000000011 stake 0 deposit 2 rewards 33 pool none drep k00000000000000000000000000000000000000000000000000000031" ∷
    codes "7 account k00000000000000000000000000000000000000000000000000000012 stake 0 deposit 2 rewards 0 pool none drep none" ∷
    codes "7 output 0000000000000000000000000000000000000000000000000000000000000001#0 1k00000000000000000000000000000000000000000000000000000001 20" ∷
    codes "7 output 0000000000000000000000000000000000000000000000000000000000000001#1 1k00000000000000000000000000000000000000000000000000000001 20" ∷
    codes "7 output 0000000000000000000000000000000000000000000000000000000000000001#3 1k00000000000000000000000000000000000000000000000000000001 20" ∷
    codes "7 output 0000000000000000000000000000000000000000000000000000000000000001#4 1k00000000000000000000000000000000000000000000000000000001 20" ∷
    codes "7 output 0000000000000000000000000000000000000000000000000000000000000001#5 1k00000000000000000000000000000000000000000000000000000001 20" ∷
    codes "7 output 0000000000000000000000000000000000000000000000000000000000000001#6 1k00000000000000000000000000000000000000000000000000000001 20" ∷
    codes "7 output 0000000000000000000000000000000000000000000000000000000000000001#7 1k00000000000000000000000000000000000000000000000000000001 20" ∷
    codes "7 output 0000000000000000000000000000000000000000000000000000000000000001#8 1k00000000000000000000000000000000000000000000000000000001 20" ∷
    codes "7 output 0000000000000000000000000000000000000000000000000000000000000001#9 1k00000000000000000000000000000000000000000000000000000001 20" ∷
    codes "7 proposal 0000000000000000000000000000000000000000000000000000000000000002#0 NoConfidence deposit 10 return 1k00000000000000000000000000000000000000000000000000000012 expires 14 previous none" ∷
    codes "7 snapshot mark 00000000000000000000000000000000000000000000000000000050 0" ∷
    codes "7 snapshot set 00000000000000000000000000000000000000000000000000000050 0" ∷
    codes "7 snapshot go 00000000000000000000000000000000000000000000000000000050 0" ∷
    codes "7 snapshot fees 0" ∷
    codes "7 pending none" ∷
    codes "7 pots outputs 180 deposits 31 rewards 100 fees 10 donations 0 treasury 100 reserves 579 supply 1000" ∷
    []) ≡ true
unfolding digits encode_with
resume_of_forged_dormant_counts = refl
