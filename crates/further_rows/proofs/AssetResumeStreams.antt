-- Worked rows of whole streams: resumed with assets. Made by tests/made/rows_of, from the streams of these names in tests/streams/further.
use Rattle.std.specs.Prelude.{ℕ, ◌≡◌, List, [], ◌∷◌, Some, None, true, negsuc, codes, refl}
use Rattle.std.specs.Fmt.{digits}
use Rattle.hex.specs.Hex.{encode_with}
use Rattle.gov_ids.specs.declared.Drep.TheVariants as drep
use Rattle.tx_records.specs.declared.record.Record.TheVariants as records
use Rattle.tx_records.specs.declared.record.What.TheVariants as what
use Rattle.tx_records.specs.declared.record.Reading.{Reading}
use Rattle.tx_records.specs.declared.record.Reading.TheVariants.{Read}
use Rattle.ledger_rows.proofs.Base.{h28, h32, key, pool, account_on, address_with, tx_id, ref, asset, share, base_params, spend, paying_with}
use Rattle.checkpoint_model.specs.Checkpoint.{checkpoint_text}
use Rattle.checkpoint_model.specs.Resumable.{IsResumable}
use Rattle.checkpoint_model.specs.Resumed.{text_of_resume}
use Rattle.gov_actions.specs.declared.state.EnactState.{EnactState}
use Rattle.gov_actions.specs.declared.state.HotState.TheVariants.{Hot}
use Rattle.run_model.specs.World.{World}
use Rattle.further_rows.proofs.Texts.{is_text}

abbrev resume_with_assets_state : EnactState
resume_with_assets_state = (record { params = base_params; version = (10, 0); committee = (Some (record { threshold = (share 0 1); members = (((key 0x70), 100) ∷ []) })); document = (h32 0x01); script = None; last = (record { committee = None; constitution = None; hardfork = None; parameters = None }); treasury = 100 })

abbrev resume_with_assets_world : World
resume_with_assets_world = (record { ledger = (record { network = 1; epoch_length = 10; supply = 1000; slot = 1; epoch = 0; dormant = 0; reserves = 699; fees = 0; donations = 0; state = resume_with_assets_state; outputs = (((ref 0x01 2), (record { address = (address_with 1 (key 0x01) None); lovelace = 20; assets = (((asset (h28 0x05) (0xff ∷ [])), 18446744073709551615) ∷ ((asset (h28 0x06) (0x01 ∷ [])), 2) ∷ ((asset (h28 0x06) (0x01 ∷ 0x00 ∷ [])), 3) ∷ []) })) ∷ ((ref 0x01 4), (record { address = (address_with 1 (key 0x01) None); lovelace = 20; assets = [] })) ∷ ((ref 0x01 5), (record { address = (address_with 1 (key 0x01) None); lovelace = 20; assets = [] })) ∷ ((ref 0x02 0), (record { address = (address_with 1 (key 0x01) None); lovelace = 7; assets = (((asset (h28 0x05) []), 9) ∷ []) })) ∷ ((ref 0x02 1), (record { address = (address_with 1 (key 0x01) None); lovelace = 3; assets = [] })) ∷ ((ref 0x02 2), (record { address = (address_with 1 (key 0x01) None); lovelace = 10; assets = [] })) ∷ []); used = ((tx_id 0x01) ∷ (tx_id 0x02) ∷ []); accounts = (((key 0x10), (record { deposit = 2; rewards = 67; pool = None; drep = (Some (drep.Registered (key 0x30))) })) ∷ ((key 0x11), (record { deposit = 2; rewards = 33; pool = None; drep = (Some (drep.Registered (key 0x31))) })) ∷ ((key 0x12), (record { deposit = 2; rewards = 0; pool = None; drep = None })) ∷ []); pools = (((pool 0x50), (record { deposit = 5; terms = (record { cost = 0; pledge = 0; margin = (share 0 1); account = (account_on 1 (key 0x12)); key = None }); future = None; retires = None })) ∷ []); dreps = (((key 0x30), (record { deposit = 5; expiry = 20 })) ∷ ((key 0x31), (record { deposit = 5; expiry = 20 })) ∷ []); hot = (((key 0x70), (Hot (key 0x71))) ∷ []); proposals = [] }); pending = None; counted = 2; mark = (((pool 0x50), 0) ∷ []); set = []; go = []; noted_fees = 0; frozen = (record { epoch = 0; entries = (((key 0x10), (record { stake = 0; registered = (Some (record { deposit = 2; rewards = 67; pool = None; drep = (Some (drep.Registered (key 0x30))) })) })) ∷ ((key 0x11), (record { stake = 0; registered = (Some (record { deposit = 2; rewards = 33; pool = None; drep = (Some (drep.Registered (key 0x31))) })) })) ∷ ((key 0x12), (record { stake = 0; registered = (Some (record { deposit = 2; rewards = 0; pool = None; drep = None })) })) ∷ []); dreps = (((key 0x30), 20) ∷ ((key 0x31), 20) ∷ []); mark = (((pool 0x50), 0) ∷ []); pool_accounts = (((pool 0x50), (account_on 1 (key 0x12))) ∷ []); hot = (((key 0x70), (Hot (key 0x71))) ∷ []); proposals = []; start = (record resume_with_assets_state { treasury = 100 }) }) })

pub resume_with_assets_shown : is_text (Some (checkpoint_text resume_with_assets_world 3)) (
    codes "checkpoint 1 line 3 network 1 length 10 counted 2" ∷
    codes "now slot 1 epoch 0 version 10.0 dormant 0" ∷
    codes "constitution 0000000000000000000000000000000000000000000000000000000000000001 none" ∷
    codes "committee threshold 0/1" ∷
    codes "member k00000000000000000000000000000000000000000000000000000070 term 100 hot k00000000000000000000000000000000000000000000000000000071" ∷
    codes "enacted committee none constitution none hardfork none parameters none" ∷
    codes "param maxBlockBodySize 90112" ∷
    codes "param maxTxSize 16384" ∷
    codes "param maxBlockHeaderSize 1100" ∷
    codes "param maxValueSize 5000" ∷
    codes "param maxTxExUnits 1000 1000" ∷
    codes "param maxBlockExUnits 1000 1000" ∷
    codes "param maxCollateralInputs 3" ∷
    codes "param minFeeA 0" ∷
    codes "param minFeeB 0" ∷
    codes "param keyDeposit 2" ∷
    codes "param poolDeposit 5" ∷
    codes "param rho 0/1" ∷
    codes "param tau 0/1" ∷
    codes "param minPoolCost 0" ∷
    codes "param coinsPerUTxOByte 0" ∷
    codes "param prices 0/1 0/1" ∷
    codes "param minFeeRefScriptCostPerByte 15/1" ∷
    codes "param a0 0/1" ∷
    codes "param eMax 18" ∷
    codes "param nOpt 500" ∷
    codes "param costModels 0000000000000000000000000000000000000000000000000000000000000000" ∷
    codes "param collateralPercentage 150" ∷
    codes "param poolVotingThresholds 0/1 0/1 0/1 0/1 0/1" ∷
    codes "param drepVotingThresholds 67/100 67/100 67/100 67/100 67/100 67/100 67/100 67/100 67/100 67/100" ∷
    codes "param govActionLifetime 2" ∷
    codes "param govActionDeposit 10" ∷
    codes "param drepDeposit 5" ∷
    codes "param drepActivity 20" ∷
    codes "param committeeMinSize 0" ∷
    codes "param committeeMaxTermLength 100" ∷
    codes "drep k00000000000000000000000000000000000000000000000000000030 deposit 5 expiry 20" ∷
    codes "drep k00000000000000000000000000000000000000000000000000000031 deposit 5 expiry 20" ∷
    codes "pool 00000000000000000000000000000000000000000000000000000050 deposit 5 cost 0 pledge 0 margin 0/1 account 1k00000000000000000000000000000000000000000000000000000012 retires never" ∷
    codes "account k00000000000000000000000000000000000000000000000000000010 stake 0 deposit 2 rewards 67 pool none drep k00000000000000000000000000000000000000000000000000000030" ∷
    codes "account k00000000000000000000000000000000000000000000000000000011 stake 0 deposit 2 rewards 33 pool none drep k00000000000000000000000000000000000000000000000000000031" ∷
    codes "account k00000000000000000000000000000000000000000000000000000012 stake 0 deposit 2 rewards 0 pool none drep none" ∷
    codes "output 0000000000000000000000000000000000000000000000000000000000000001#2 1k00000000000000000000000000000000000000000000000000000001 20" ∷
    codes "asset 00000000000000000000000000000000000000000000000000000005 ff 18446744073709551615" ∷
    codes "asset 00000000000000000000000000000000000000000000000000000006 01 2" ∷
    codes "asset 00000000000000000000000000000000000000000000000000000006 0100 3" ∷
    codes "output 0000000000000000000000000000000000000000000000000000000000000001#4 1k00000000000000000000000000000000000000000000000000000001 20" ∷
    codes "output 0000000000000000000000000000000000000000000000000000000000000001#5 1k00000000000000000000000000000000000000000000000000000001 20" ∷
    codes "output 0000000000000000000000000000000000000000000000000000000000000002#0 1k00000000000000000000000000000000000000000000000000000001 7" ∷
    codes "asset 00000000000000000000000000000000000000000000000000000005 - 9" ∷
    codes "output 0000000000000000000000000000000000000000000000000000000000000002#1 1k00000000000000000000000000000000000000000000000000000001 3" ∷
    codes "output 0000000000000000000000000000000000000000000000000000000000000002#2 1k00000000000000000000000000000000000000000000000000000001 10" ∷
    codes "snapshot mark 00000000000000000000000000000000000000000000000000000050 0" ∷
    codes "snapshot fees 0" ∷
    codes "pending none" ∷
    codes "pots outputs 80 deposits 21 rewards 100 fees 0 donations 0 treasury 100 reserves 699 supply 1000" ∷
    codes "used 0000000000000000000000000000000000000000000000000000000000000001" ∷
    codes "used 0000000000000000000000000000000000000000000000000000000000000002" ∷
    codes "frozen treasury 100" ∷
    codes "frozen account k00000000000000000000000000000000000000000000000000000010 stake 0 deposit 2 rewards 67 pool none drep k00000000000000000000000000000000000000000000000000000030" ∷
    codes "frozen account k00000000000000000000000000000000000000000000000000000011 stake 0 deposit 2 rewards 33 pool none drep k00000000000000000000000000000000000000000000000000000031" ∷
    codes "frozen account k00000000000000000000000000000000000000000000000000000012 stake 0 deposit 2 rewards 0 pool none drep none" ∷
    codes "frozen drep k00000000000000000000000000000000000000000000000000000030 expiry 20" ∷
    codes "frozen drep k00000000000000000000000000000000000000000000000000000031 expiry 20" ∷
    codes "frozen hot k00000000000000000000000000000000000000000000000000000070 k00000000000000000000000000000000000000000000000000000071" ∷
    codes "frozen pool 00000000000000000000000000000000000000000000000000000050 account 1k00000000000000000000000000000000000000000000000000000012" ∷
    codes "end" ∷
    []) ≡ true
unfolding digits encode_with
resume_with_assets_shown = refl

pub resume_with_assets_sound : IsResumable resume_with_assets_world
unfolding digits encode_with
resume_with_assets_sound = record { form = refl; time = refl; dormancy = refl; delegations = refl; supply = refl; ids = refl; chains = refl; pending = refl; within = refl; entries = refl; counted = refl; epoch = refl; mark = refl; state = refl; treasury = refl; proposals = refl; short = refl }

abbrev resume_with_assets_input : List (ℕ × Reading)
resume_with_assets_input =
    (4, Read (records.Print what.Assets)) ∷
    (5, Read (records.Tx (record (spend 0x03 27) { inputs = ((ref 0x02 0) ∷ (ref 0x01 2) ∷ []); outputs = ((paying_with (address_with 1 (key 0x01) None) 0 0 (((asset (h28 0x05) []), 8) ∷ ((asset (h28 0x05) (0xff ∷ [])), 18446744073709551615) ∷ ((asset (h28 0x06) (0x01 ∷ [])), 2) ∷ [])) ∷ []); mint = (((asset (h28 0x05) []), (negsuc 0)) ∷ []) }))) ∷
    (6, Read (records.Tx (record (spend 0x03 27) { inputs = ((ref 0x02 0) ∷ (ref 0x01 2) ∷ []); outputs = ((paying_with (address_with 1 (key 0x01) None) 0 0 (((asset (h28 0x05) []), 8) ∷ ((asset (h28 0x05) (0xff ∷ [])), 18446744073709551615) ∷ ((asset (h28 0x06) (0x01 ∷ [])), 2) ∷ [])) ∷ []); mint = (((asset (h28 0x05) []), (negsuc 0)) ∷ ((asset (h28 0x06) (0x01 ∷ 0x00 ∷ [])), (negsuc 2)) ∷ []) }))) ∷
    (7, Read (records.Block 10 1)) ∷
    (8, Read (records.Print what.Assets)) ∷
    []

pub resume_with_assets : is_text (Some (text_of_resume resume_with_assets_world resume_with_assets_input)) (
    codes "4 asset-total 00000000000000000000000000000000000000000000000000000005 - 9" ∷
    codes "4 asset-total 00000000000000000000000000000000000000000000000000000005 ff 18446744073709551615" ∷
    codes "4 asset-total 00000000000000000000000000000000000000000000000000000006 01 2" ∷
    codes "4 asset-total 00000000000000000000000000000000000000000000000000000006 0100 3" ∷
    codes "5 refused 111 AssetNotBalanced at 3 consumed 3 produced 0" ∷
    codes "6 accepted" ∷
    codes "7 epoch 1 frozen 3 dormant 1" ∷
    codes "7 stake k00000000000000000000000000000000000000000000000000000030 67" ∷
    codes "7 stake k00000000000000000000000000000000000000000000000000000031 33" ∷
    codes "7 pots outputs 53 deposits 21 rewards 100 fees 27 donations 0 treasury 100 reserves 699 supply 1000" ∷
    codes "7 block slot 10 epoch 1 counted 1 of 3" ∷
    codes "8 asset-total 00000000000000000000000000000000000000000000000000000005 - 8" ∷
    codes "8 asset-total 00000000000000000000000000000000000000000000000000000005 ff 18446744073709551615" ∷
    codes "8 asset-total 00000000000000000000000000000000000000000000000000000006 01 2" ∷
    []) ≡ true
unfolding digits encode_with
resume_with_assets = refl
