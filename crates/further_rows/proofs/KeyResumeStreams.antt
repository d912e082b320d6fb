-- Worked rows of whole streams: resumed with keys of pools. Made by tests/made/rows_of, from the streams of these names in tests/streams/further.
use Rattle.std.specs.Prelude.{ℕ, ◌≡◌, List, [], ◌∷◌, Some, None, true, codes, refl}
use Rattle.std.specs.Fmt.{digits}
use Rattle.hex.specs.Hex.{encode_with}
use Rattle.gov_ids.specs.declared.Drep.TheVariants as drep
use Rattle.tx_records.specs.declared.record.Record.TheVariants as records
use Rattle.tx_records.specs.declared.record.What.TheVariants as what
use Rattle.tx_records.specs.declared.cert.Cert.TheVariants as certs
use Rattle.tx_records.specs.declared.record.Reading.{Reading}
use Rattle.tx_records.specs.declared.record.Reading.TheVariants.{Read}
use Rattle.ledger_rows.proofs.Base.{h32, key, pool, account_on, address_with, tx_id, ref, action, share, base_params, spend}
use Rattle.checkpoint_model.specs.Checkpoint.{checkpoint_text}
use Rattle.checkpoint_model.specs.Resumable.{IsResumable}
use Rattle.checkpoint_model.specs.Resumed.{text_of_resume}
use Rattle.gov_actions.specs.declared.state.EnactState.{EnactState}
use Rattle.gov_actions.specs.declared.state.HotState.TheVariants.{Hot}
use Rattle.run_model.specs.World.{World}
use Rattle.further_rows.proofs.Texts.{is_text}

abbrev keys_shared_when_version_eleven_starts_resume_8_state : EnactState
keys_shared_when_version_eleven_starts_resume_8_state = (record { params = base_params; version = (11, 0); committee = (Some (record { threshold = (share 0 1); members = (((key 0x70), 100) ∷ []) })); document = (h32 0x01); script = None; last = (record { committee = None; constitution = None; hardfork = (Some (action 0x02 0)); parameters = None }); treasury = 100 })

abbrev keys_shared_when_version_eleven_starts_resume_8_world : World
keys_shared_when_version_eleven_starts_resume_8_world = (record { ledger = (record { network = 1; epoch_length = 10; supply = 1000; slot = 20; epoch = 2; dormant = 1; reserves = 624; fees = 40; donations = 0; state = keys_shared_when_version_eleven_starts_resume_8_state; outputs = (((ref 0x01 5), (record { address = (address_with 1 (key 0x01) None); lovelace = 20; assets = [] })) ∷ ((ref 0x01 6), (record { address = (address_with 1 (key 0x01) None); lovelace = 20; assets = [] })) ∷ ((ref 0x01 7), (record { address = (address_with 1 (key 0x01) None); lovelace = 20; assets = [] })) ∷ ((ref 0x01 8), (record { address = (address_with 1 (key 0x01) None); lovelace = 20; assets = [] })) ∷ []); used = ((tx_id 0x01) ∷ (tx_id 0x02) ∷ (tx_id 0x03) ∷ (tx_id 0x04) ∷ []); accounts = (((key 0x10), (record { deposit = 2; rewards = 67; pool = None; drep = (Some (drep.Registered (key 0x30))) })) ∷ ((key 0x11), (record { deposit = 2; rewards = 33; pool = None; drep = (Some (drep.Registered (key 0x31))) })) ∷ ((key 0x12), (record { deposit = 2; rewards = 10; pool = None; drep = None })) ∷ []); pools = (((pool 0x48), (record { deposit = 5; terms = (record { cost = 0; pledge = 0; margin = (share 0 1); account = (account_on 1 (key 0x12)); key = (Some (h32 0x04)) }); future = None; retires = None })) ∷ ((pool 0x49), (record { deposit = 5; terms = (record { cost = 0; pledge = 0; margin = (share 0 1); account = (account_on 1 (key 0x12)); key = (Some (h32 0x03)) }); future = None; retires = None })) ∷ ((pool 0x50), (record { deposit = 5; terms = (record { cost = 0; pledge = 0; margin = (share 0 1); account = (account_on 1 (key 0x12)); key = (Some (h32 0x07)) }); future = None; retires = None })) ∷ ((pool 0x51), (record { deposit = 5; terms = (record { cost = 0; pledge = 0; margin = (share 0 1); account = (account_on 1 (key 0x12)); key = (Some (h32 0x07)) }); future = None; retires = None })) ∷ ((pool 0x52), (record { deposit = 5; terms = (record { cost = 0; pledge = 0; margin = (share 0 1); account = (account_on 1 (key 0x12)); key = (Some (h32 0x07)) }); future = None; retires = None })) ∷ ((pool 0x53), (record { deposit = 5; terms = (record { cost = 0; pledge = 0; margin = (share 0 1); account = (account_on 1 (key 0x12)); key = (Some (h32 0x07)) }); future = None; retires = None })) ∷ []); dreps = (((key 0x30), (record { deposit = 5; expiry = 20 })) ∷ ((key 0x31), (record { deposit = 5; expiry = 20 })) ∷ []); hot = (((key 0x70), (Hot (key 0x71))) ∷ []); proposals = [] }); pending = None; counted = 1; mark = (((pool 0x48), 0) ∷ ((pool 0x49), 0) ∷ ((pool 0x50), 0) ∷ ((pool 0x51), 0) ∷ ((pool 0x52), 0) ∷ ((pool 0x53), 0) ∷ []); set = (((pool 0x48), 0) ∷ ((pool 0x49), 0) ∷ ((pool 0x50), 0) ∷ ((pool 0x51), 0) ∷ ((pool 0x52), 0) ∷ ((pool 0x53), 0) ∷ []); go = (((pool 0x48), 0) ∷ ((pool 0x49), 0) ∷ ((pool 0x50), 0) ∷ ((pool 0x51), 0) ∷ []); noted_fees = 40; frozen = (record { epoch = 2; entries = (((key 0x10), (record { stake = 0; registered = (Some (record { deposit = 2; rewards = 67; pool = None; drep = (Some (drep.Registered (key 0x30))) })) })) ∷ ((key 0x11), (record { stake = 0; registered = (Some (record { deposit = 2; rewards = 33; pool = None; drep = (Some (drep.Registered (key 0x31))) })) })) ∷ ((key 0x12), (record { stake = 0; registered = (Some (record { deposit = 2; rewards = 10; pool = None; drep = None })) })) ∷ []); dreps = (((key 0x30), 20) ∷ ((key 0x31), 20) ∷ []); mark = (((pool 0x48), 0) ∷ ((pool 0x49), 0) ∷ ((pool 0x50), 0) ∷ ((pool 0x51), 0) ∷ ((pool 0x52), 0) ∷ ((pool 0x53), 0) ∷ []); pool_accounts = (((pool 0x48), (account_on 1 (key 0x12))) ∷ ((pool 0x49), (account_on 1 (key 0x12))) ∷ ((pool 0x50), (account_on 1 (key 0x12))) ∷ ((pool 0x51), (account_on 1 (key 0x12))) ∷ ((pool 0x52), (account_on 1 (key 0x12))) ∷ ((pool 0x53), (account_on 1 (key 0x12))) ∷ []); hot = (((key 0x70), (Hot (key 0x71))) ∷ []); proposals = []; start = (record keys_shared_when_version_eleven_starts_resume_8_state { treasury = 100 }) }) })

pub keys_shared_when_version_eleven_starts_resume_8_shown : is_text (Some (checkpoint_text keys_shared_when_version_eleven_starts_resume_8_world 8)) (
    codes "checkpoint 1 line 8 network 1 length 10 counted 1" ∷
    codes "now slot 20 epoch 2 version 11.0 dormant 1" ∷
    codes "constitution 0000000000000000000000000000000000000000000000000000000000000001 none" ∷
    codes "committee threshold 0/1" ∷
    codes "member k00000000000000000000000000000000000000000000000000000070 term 100 hot k00000000000000000000000000000000000000000000000000000071" ∷
    codes "enacted committee none constitution none hardfork 0000000000000000000000000000000000000000000000000000000000000002#0 parameters none" ∷
    codes "param maxBlockBodySize 90112" ∷
    codes "param maxTxSize 16384" ∷
    codes "param maxBlockHeaderSize 1100" ∷
    codes "param maxValueSize 5000" ∷
    codes "param maxTxExUnits 1000 1000" ∷
    codes "param maxBlockExUnits 1000 1000" ∷
    codes "param maxCollateralInputs 3" ∷
    codes "param minFeeA 0" ∷
    codes "param minFeeB 0" ∷
    codes "param keyDeposit 2" ∷
    codes "param poolDeposit 5" ∷
    codes "param rho 0/1" ∷
    codes "param tau 0/1" ∷
    codes "param minPoolCost 0" ∷
    codes "param coinsPerUTxOByte 0" ∷
    codes "param prices 0/1 0/1" ∷
    codes "param minFeeRefScriptCostPerByte 15/1" ∷
    codes "param a0 0/1" ∷
    codes "param eMax 18" ∷
    codes "param nOpt 500" ∷
    codes "param costModels 0000000000000000000000000000000000000000000000000000000000000000" ∷
    codes "param collateralPercentage 150" ∷
    codes "param poolVotingThresholds 0/1 0/1 0/1 0/1 0/1" ∷
    codes "param drepVotingThresholds 67/100 67/100 67/100 67/100 67/100 67/100 67/100 67/100 67/100 67/100" ∷
    codes "param govActionLifetime 2" ∷
    codes "param govActionDeposit 10" ∷
    codes "param drepDeposit 5" ∷
    codes "param drepActivity 20" ∷
    codes "param committeeMinSize 0" ∷
    codes "param committeeMaxTermLength 100" ∷
    codes "drep k00000000000000000000000000000000000000000000000000000030 deposit 5 expiry 20" ∷
    codes "drep k00000000000000000000000000000000000000000000000000000031 deposit 5 expiry 20" ∷
    codes "pool 00000000000000000000000000000000000000000000000000000048 deposit 5 cost 0 pledge 0 margin 0/1 account 1k00000000000000000000000000000000000000000000000000000012 retires never key 0000000000000000000000000000000000000000000000000000000000000004" ∷
    codes "pool 00000000000000000000000000000000000000000000000000000049 deposit 5 cost 0 pledge 0 margin 0/1 account 1k00000000000000000000000000000000000000000000000000000012 retires never key 0000000000000000000000000000000000000000000000000000000000000003" ∷
    codes "pool 00000000000000000000000000000000000000000000000000000050 deposit 5 cost 0 pledge 0 margin 0/1 account 1k00000000000000000000000000000000000000000000000000000012 retires never key 0000000000000000000000000000000000000000000000000000000000000007" ∷
    codes "pool 00000000000000000000000000000000000000000000000000000051 deposit 5 cost 0 pledge 0 margin 0/1 account 1k00000000000000000000000000000000000000000000000000000012 retires never key 0000000000000000000000000000000000000000000000000000000000000007" ∷
    codes "pool 00000000000000000000000000000000000000000000000000000052 deposit 5 cost 0 pledge 0 margin 0/1 account 1k00000000000000000000000000000000000000000000000000000012 retires never key 0000000000000000000000000000000000000000000000000000000000000007" ∷
    codes "pool 00000000000000000000000000000000000000000000000000000053 deposit 5 cost 0 pledge 0 margin 0/1 account 1k00000000000000000000000000000000000000000000000000000012 retires never key 0000000000000000000000000000000000000000000000000000000000000007" ∷
    codes "account k00000000000000000000000000000000000000000000000000000010 stake 0 deposit 2 rewards 67 pool none drep k00000000000000000000000000000000000000000000000000000030" ∷
    codes "account k00000000000000000000000000000000000000000000000000000011 stake 0 deposit 2 rewards 33 pool none drep k00000000000000000000000000000000000000000000000000000031" ∷
    codes "account k00000000000000000000000000000000000000000000000000000012 stake 0 deposit 2 rewards 10 pool none drep none" ∷
    codes "output 0000000000000000000000000000000000000000000000000000000000000001#5 1k00000000000000000000000000000000000000000000000000000001 20" ∷
    codes "output 0000000000000000000000000000000000000000000000000000000000000001#6 1k00000000000000000000000000000000000000000000000000000001 20" ∷
    codes "output 0000000000000000000000000000000000000000000000000000000000000001#7 1k00000000000000000000000000000000000000000000000000000001 20" ∷
    codes "output 0000000000000000000000000000000000000000000000000000000000000001#8 1k00000000000000000000000000000000000000000000000000000001 20" ∷
    codes "snapshot mark 00000000000000000000000000000000000000000000000000000048 0" ∷
    codes "snapshot mark 00000000000000000000000000000000000000000000000000000049 0" ∷
    codes "snapshot mark 00000000000000000000000000000000000000000000000000000050 0" ∷
    codes "snapshot mark 00000000000000000000000000000000000000000000000000000051 0" ∷
    codes "snapshot mark 00000000000000000000000000000000000000000000000000000052 0" ∷
    codes "snapshot mark 00000000000000000000000000000000000000000000000000000053 0" ∷
    codes "snapshot set 00000000000000000000000000000000000000000000000000000048 0" ∷
    codes "snapshot set 00000000000000000000000000000000000000000000000000000049 0" ∷
    codes "snapshot set 00000000000000000000000000000000000000000000000000000050 0" ∷
    codes "snapshot set 00000000000000000000000000000000000000000000000000000051 0" ∷
    codes "snapshot set 00000000000000000000000000000000000000000000000000000052 0" ∷
    codes "snapshot set 00000000000000000000000000000000000000000000000000000053 0" ∷
    codes "snapshot go 00000000000000000000000000000000000000000000000000000048 0" ∷
    codes "snapshot go 00000000000000000000000000000000000000000000000000000049 0" ∷
    codes "snapshot go 00000000000000000000000000000000000000000000000000000050 0" ∷
    codes "snapshot go 00000000000000000000000000000000000000000000000000000051 0" ∷
    codes "snapshot fees 40" ∷
    codes "pending none" ∷
    codes "pots outputs 80 deposits 46 rewards 110 fees 40 donations 0 treasury 100 reserves 624 supply 1000" ∷
    codes "used 0000000000000000000000000000000000000000000000000000000000000001" ∷
    codes "used 0000000000000000000000000000000000000000000000000000000000000002" ∷
    codes "used 0000000000000000000000000000000000000000000000000000000000000003" ∷
    codes "used 0000000000000000000000000000000000000000000000000000000000000004" ∷
    codes "frozen treasury 100" ∷
    codes "frozen account k00000000000000000000000000000000000000000000000000000010 stake 0 deposit 2 rewards 67 pool none drep k00000000000000000000000000000000000000000000000000000030" ∷
    codes "frozen account k00000000000000000000000000000000000000000000000000000011 stake 0 deposit 2 rewards 33 pool none drep k00000000000000000000000000000000000000000000000000000031" ∷
    codes "frozen account k00000000000000000000000000000000000000000000000000000012 stake 0 deposit 2 rewards 10 pool none drep none" ∷
    codes "frozen drep k00000000000000000000000000000000000000000000000000000030 expiry 20" ∷
    codes "frozen drep k00000000000000000000000000000000000000000000000000000031 expiry 20" ∷
    codes "frozen hot k00000000000000000000000000000000000000000000000000000070 k00000000000000000000000000000000000000000000000000000071" ∷
    codes "frozen pool 00000000000000000000000000000000000000000000000000000048 account 1k00000000000000000000000000000000000000000000000000000012" ∷
    codes "frozen pool 00000000000000000000000000000000000000000000000000000049 account 1k00000000000000000000000000000000000000000000000000000012" ∷
    codes "frozen pool 00000000000000000000000000000000000000000000000000000050 account 1k00000000000000000000000000000000000000000000000000000012" ∷
    codes "frozen pool 00000000000000000000000000000000000000000000000000000051 account 1k00000000000000000000000000000000000000000000000000000012" ∷
    codes "frozen pool 00000000000000000000000000000000000000000000000000000052 account 1k00000000000000000000000000000000000000000000000000000012" ∷
    codes "frozen pool 00000000000000000000000000000000000000000000000000000053 account 1k00000000000000000000000000000000000000000000000000000012" ∷
    codes "end" ∷
    []) ≡ true
unfolding digits encode_with
keys_shared_when_version_eleven_starts_resume_8_shown = refl

pub keys_shared_when_version_eleven_starts_resume_8_sound : IsResumable keys_shared_when_version_eleven_starts_resume_8_world
unfolding digits encode_with
keys_shared_when_version_eleven_starts_resume_8_sound = record { form = refl; time = refl; dormancy = refl; delegations = refl; supply = refl; ids = refl; chains = refl; pending = refl; within = refl; entries = refl; counted = refl; epoch = refl; mark = refl; state = refl; treasury = refl; proposals = refl; short = refl }

abbrev keys_shared_when_version_eleven_starts_resume_8_input : List (ℕ × Reading)
keys_shared_when_version_eleven_starts_resume_8_input =
    (9, Read (records.Tx (record (spend 0x05 20) { certs = ((certs.PoolReg (pool 0x53) 0 0 (share 0 1) (account_on 1 (key 0x12)) (Some (h32 0x03))) ∷ []) }))) ∷
    (10, Read (records.Tx (record (spend 0x05 20) { certs = ((certs.PoolReg (pool 0x50) 0 0 (share 0 1) (account_on 1 (key 0x12)) (Some (h32 0x08))) ∷ (certs.PoolReg (pool 0x51) 0 0 (share 0 1) (account_on 1 (key 0x12)) (Some (h32 0x09))) ∷ []) }))) ∷
    (11, Read (records.Tx (record (spend 0x06 20) { certs = ((certs.PoolReg (pool 0x53) 0 0 (share 0 1) (account_on 1 (key 0x12)) (Some (h32 0x07))) ∷ []) }))) ∷
    (12, Read (records.Tx (record (spend 0x06 20) { certs = ((certs.PoolReg (pool 0x52) 0 0 (share 0 1) (account_on 1 (key 0x12)) None) ∷ []) }))) ∷
    (13, Read (records.Print what.State)) ∷
    (14, Read (records.Block 30 1)) ∷
    (15, Read (records.Tx (record (spend 0x07 15) { certs = ((certs.PoolReg (pool 0x54) 0 0 (share 0 1) (account_on 1 (key 0x12)) (Some (h32 0x07))) ∷ []) }))) ∷
    (16, Read (records.Tx (record (spend 0x07 20) { certs = ((certs.PoolReg (pool 0x53) 0 0 (share 0 1) (account_on 1 (key 0x12)) (Some (h32 0x07))) ∷ []) }))) ∷
    (17, Read (records.Tx (record (spend 0x08 20) { certs = ((certs.PoolReg (pool 0x51) 0 0 (share 0 1) (account_on 1 (key 0x12)) (Some (h32 0x08))) ∷ []) }))) ∷
    (18, Read (records.Print what.State)) ∷
    []

pub keys_shared_when_version_eleven_starts_resume_8 : is_text (Some (text_of_resume keys_shared_when_version_eleven_starts_resume_8_world keys_shared_when_version_eleven_starts_resume_8_input)) (
    codes "9 refused 73 PoolKeyInUse at 0" ∷
    codes "10 accepted" ∷
    codes "11 refused 73 PoolKeyInUse at 0" ∷
    codes "12 accepted" ∷
    codes "13 now slot 20 epoch 2 version 11.0 dormant 1" ∷
    codes "13 constitution 0000000000000000000000000000000000000000000000000000000000000001 none" ∷
    codes "13 committee threshold 0/1" ∷
    codes "13 member k00000000000000000000000000000000000000000000000000000070 term 100 hot k00000000000000000000000000000000000000000000000000000071" ∷
    codes "13 enacted committee none constitution none hardfork 0000000000000000000000000000000000000000000000000000000000000002#0 parameters none" ∷
    codes "13 param maxBlockBodySize 90112" ∷
    codes "13 param maxTxSize 16384" ∷
    codes "13 param maxBlockHeaderSize 1100" ∷
    codes "13 param maxValueSize 5000" ∷
    codes "13 param maxTxExUnits 1000 1000" ∷
    codes "13 param maxBlockExUnits 1000 1000" ∷
    codes "13 param maxCollateralInputs 3" ∷
    codes "13 param minFeeA 0" ∷
    codes "13 param minFeeB 0" ∷
    codes "13 param keyDeposit 2" ∷
    codes "13 param poolDeposit 5" ∷
    codes "13 param rho 0/1" ∷
    codes "13 param tau 0/1" ∷
    codes "13 param minPoolCost 0" ∷
    codes "13 param coinsPerUTxOByte 0" ∷
    codes "13 param prices 0/1 0/1" ∷
    codes "13 param minFeeRefScriptCostPerByte 15/1" ∷
    codes "13 param a0 0/1" ∷
    codes "13 param eMax 18" ∷
    codes "13 param nOpt 500" ∷
    codes "13 param costModels 0000000000000000000000000000000000000000000000000000000000000000" ∷
    codes "13 param collateralPercentage 150" ∷
    codes "13 param poolVotingThresholds 0/1 0/1 0/1 0/1 0/1" ∷
    codes "13 param drepVotingThresholds 67/100 67/100 67/100 67/100 67/100 67/100 67/100 67/100 67/100 67/100" ∷
    codes "13 param govActionLifetime 2" ∷
    codes "13 param govActionDeposit 10" ∷
    codes "13 param drepDeposit 5" ∷
    codes "13 param drepActivity 20" ∷
    codes "13 param committeeMinSize 0" ∷
    codes "13 param committeeMaxTermLength 100" ∷
    codes "13 drep k00000000000000000000000000000000000000000000000000000030 deposit 5 expiry 20" ∷
    codes "13 drep k00000000000000000000000000000000000000000000000000000031 deposit 5 expiry 20" ∷
    codes "13 pool 00000000000000000000000000000000000000000000000000000048 deposit 5 cost 0 pledge 0 margin 0/1 account 1k00000000000000000000000000000000000000000000000000000012 retires never key 0000000000000000000000000000000000000000000000000000000000000004" ∷
    codes "13 pool 00000000000000000000000000000000000000000000000000000049 deposit 5 cost 0 pledge 0 margin 0/1 account 1k00000000000000000000000000000000000000000000000000000012 retires never key 0000000000000000000000000000000000000000000000000000000000000003" ∷
    codes "13 pool 00000000000000000000000000000000000000000000000000000050 deposit 5 cost 0 pledge 0 margin 0/1 account 1k00000000000000000000000000000000000000000000000000000012 retires never key 0000000000000000000000000000000000000000000000000000000000000007" ∷
    codes "13 next 00000000000000000000000000000000000000000000000000000050 cost 0 pledge 0 margin 0/1 account 1k00000000000000000000000000000000000000000000000000000012 key 0000000000000000000000000000000000000000000000000000000000000008" ∷
    codes "13 pool 00000000000000000000000000000000000000000000000000000051 deposit 5 cost 0 pledge 0 margin 0/1 account 1k00000000000000000000000000000000000000000000000000000012 retires never key 0000000000000000000000000000000000000000000000000000000000000007" ∷
    codes "13 next 00000000000000000000000000000000000000000000000000000051 cost 0 pledge 0 margin 0/1 account 1k00000000000000000000000000000000000000000000000000000012 key 0000000000000000000000000000000000000000000000000000000000000009" ∷
    codes "13 pool 00000000000000000000000000000000000000000000000000000052 deposit 5 cost 0 pledge 0 margin 0/1 account 1k00000000000000000000000000000000000000000000000000000012 retires never key 0000000000000000000000000000000000000000000000000000000000000007" ∷
    codes "13 next 00000000000000000000000000000000000000000000000000000052 cost 0 pledge 0 margin 0/1 account 1k00000000000000000000000000000000000000000000000000000012" ∷
    codes "13 pool 00000000000000000000000000000000000000000000000000000053 deposit 5 cost 0 pledge 0 margin 0/1 account 1k00000000000000000000000000000000000000000000000000000012 retires never key 0000000000000000000000000000000000000000000000000000000000000007" ∷
    codes "13 account k00000000000000000000000000000000000000000000000000000010 stake 0 deposit 2 rewards 67 pool none drep k00000000000000000000000000000000000000000000000000000030" ∷
    codes "13 account k00000000000000000000000000000000000000000000000000000011 stake 0 deposit 2 rewards 33 pool none drep k00000000000000000000000000000000000000000000000000000031" ∷
    codes "13 account k00000000000000000000000000000000000000000000000000000012 stake 0 deposit 2 rewards 10 pool none drep none" ∷
    codes "13 output 0000000000000000000000000000000000000000000000000000000000000001#7 1k00000000000000000000000000000000000000000000000000000001 20" ∷
    codes "13 output 0000000000000000000000000000000000000000000000000000000000000001#8 1k00000000000000000000000000000000000000000000000000000001 20" ∷
    codes "13 snapshot mark 00000000000000000000000000000000000000000000000000000048 0" ∷
    codes "13 snapshot mark 00000000000000000000000000000000000000000000000000000049 0" ∷
    codes "13 snapshot mark 00000000000000000000000000000000000000000000000000000050 0" ∷
    codes "13 snapshot mark 00000000000000000000000000000000000000000000000000000051 0" ∷
    codes "13 snapshot mark 00000000000000000000000000000000000000000000000000000052 0" ∷
    codes "13 snapshot mark 00000000000000000000000000000000000000000000000000000053 0" ∷
    codes "13 snapshot set 00000000000000000000000000000000000000000000000000000048 0" ∷
    codes "13 snapshot set 00000000000000000000000000000000000000000000000000000049 0" ∷
    codes "13 snapshot set 00000000000000000000000000000000000000000000000000000050 0" ∷
    codes "13 snapshot set 00000000000000000000000000000000000000000000000000000051 0" ∷
    codes "13 snapshot set 00000000000000000000000000000000000000000000000000000052 0" ∷
    codes "13 snapshot set 00000000000000000000000000000000000000000000000000000053 0" ∷
    codes "13 snapshot go 00000000000000000000000000000000000000000000000000000048 0" ∷
    codes "13 snapshot go 00000000000000000000000000000000000000000000000000000049 0" ∷
    codes "13 snapshot go 00000000000000000000000000000000000000000000000000000050 0" ∷
    codes "13 snapshot go 00000000000000000000000000000000000000000000000000000051 0" ∷
    codes "13 snapshot fees 40" ∷
    codes "13 pending none" ∷
    codes "13 pots outputs 40 deposits 46 rewards 110 fees 80 donations 0 treasury 100 reserves 624 supply 1000" ∷
    codes "14 epoch 3 frozen 3 dormant 2" ∷
    codes "14 stake k00000000000000000000000000000000000000000000000000000030 67" ∷
    codes "14 stake k00000000000000000000000000000000000000000000000000000031 33" ∷
    codes "14 pots outputs 40 deposits 46 rewards 110 fees 80 donations 0 treasury 100 reserves 624 supply 1000" ∷
    codes "14 block slot 30 epoch 3 counted 1 of 3" ∷
    codes "15 refused 73 PoolKeyInUse at 0" ∷
    codes "16 accepted" ∷
    codes "17 refused 73 PoolKeyInUse at 0" ∷
    codes "18 now slot 30 epoch 3 version 11.0 dormant 2" ∷
    codes "18 constitution 0000000000000000000000000000000000000000000000000000000000000001 none" ∷
    codes "18 committee threshold 0/1" ∷
    codes "18 member k00000000000000000000000000000000000000000000000000000070 term 100 hot k00000000000000000000000000000000000000000000000000000071" ∷
    codes "18 enacted committee none constitution none hardfork 0000000000000000000000000000000000000000000000000000000000000002#0 parameters none" ∷
    codes "18 param maxBlockBodySize 90112" ∷
    codes "18 param maxTxSize 16384" ∷
    codes "18 param maxBlockHeaderSize 1100" ∷
    codes "18 param maxValueSize 5000" ∷
    codes "18 param maxTxExUnits 1000 1000" ∷
    codes "18 param maxBlockExUnits 1000 1000" ∷
    codes "18 param maxCollateralInputs 3" ∷
    codes "18 param minFeeA 0" ∷
    codes "18 param minFeeB 0" ∷
    codes "18 param keyDeposit 2" ∷
    codes "18 param poolDeposit 5" ∷
    codes "18 param rho 0/1" ∷
    codes "18 param tau 0/1" ∷
    codes "18 param minPoolCost 0" ∷
    codes "18 param coinsPerUTxOByte 0" ∷
    codes "18 param prices 0/1 0/1" ∷
    codes "18 param minFeeRefScriptCostPerByte 15/1" ∷
    codes "18 param a0 0/1" ∷
    codes "18 param eMax 18" ∷
    codes "18 param nOpt 500" ∷
    codes "18 param costModels 0000000000000000000000000000000000000000000000000000000000000000" ∷
    codes "18 param collateralPercentage 150" ∷
    codes "18 param poolVotingThresholds 0/1 0/1 0/1 0/1 0/1" ∷
    codes "18 param drepVotingThresholds 67/100 67/100 67/100 67/100 67/100 67/100 67/100 67/100 67/100 67/100" ∷
    codes "18 param govActionLifetime 2" ∷
    codes "18 param govActionDeposit 10" ∷
    codes "18 param drepDeposit 5" ∷
    codes "18 param drepActivity 20" ∷
    codes "18 param committeeMinSize 0" ∷
    codes "18 param committeeMaxTermLength 100" ∷
    codes "18 drep k00000000000000000000000000000000000000000000000000000030 deposit 5 expiry 20" ∷
    codes "18 drep k00000000000000000000000000000000000000000000000000000031 deposit 5 expiry 20" ∷
    codes "18 pool 00000000000000000000000000000000000000000000000000000048 deposit 5 cost 0 pledge 0 margin 0/1 account 1k00000000000000000000000000000000000000000000000000000012 retires never key 0000000000000000000000000000000000000000000000000000000000000004" ∷
    codes "18 pool 00000000000000000000000000000000000000000000000000000049 deposit 5 cost 0 pledge 0 margin 0/1 account 1k00000000000000000000000000000000000000000000000000000012 retires never key 0000000000000000000000000000000000000000000000000000000000000003" ∷
    codes "18 pool 00000000000000000000000000000000000000000000000000000050 deposit 5 cost 0 pledge 0 margin 0/1 account 1k00000000000000000000000000000000000000000000000000000012 retires never key 0000000000000000000000000000000000000000000000000000000000000008" ∷
    codes "18 pool 00000000000000000000000000000000000000000000000000000051 deposit 5 cost 0 pledge 0 margin 0/1 account 1k00000000000000000000000000000000000000000000000000000012 retires never key 0000000000000000000000000000000000000000000000000000000000000009" ∷
    codes "18 pool 00000000000000000000000000000000000000000000000000000052 deposit 5 cost 0 pledge 0 margin 0/1 account 1k00000000000000000000000000000000000000000000000000000012 retires never" ∷
    codes "18 pool 00000000000000000000000000000000000000000000000000000053 deposit 5 cost 0 pledge 0 margin 0/1 account 1k00000000000000000000000000000000000000000000000000000012 retires never key 0000000000000000000000000000000000000000000000000000000000000007" ∷
    codes "18 next 00000000000000000000000000000000000000000000000000000053 cost 0 pledge 0 margin 0/1 account 1k00000000000000000000000000000000000000000000000000000012 key 0000000000000000000000000000000000000000000000000000000000000007" ∷
    codes "18 account k00000000000000000000000000000000000000000000000000000010 stake 0 deposit 2 rewards 67 pool none drep k00000000000000000000000000000000000000000000000000000030" ∷
    codes "18 account k00000000000000000000000000000000000000000000000000000011 stake 0 deposit 2 rewards 33 pool none drep k00000000000000000000000000000000000000000000000000000031" ∷
    codes "18 account k00000000000000000000000000000000000000000000000000000012 stake 0 deposit 2 rewards 10 pool none drep none" ∷
    codes "18 output 0000000000000000000000000000000000000000000000000000000000000001#8 1k00000000000000000000000000000000000000000000000000000001 20" ∷
    codes "18 snapshot mark 00000000000000000000000000000000000000000000000000000048 0" ∷
    codes "18 snapshot mark 00000000000000000000000000000000000000000000000000000049 0" ∷
    codes "18 snapshot mark 00000000000000000000000000000000000000000000000000000050 0" ∷
    codes "18 snapshot mark 00000000000000000000000000000000000000000000000000000051 0" ∷
    codes "18 snapshot mark 00000000000000000000000000000000000000000000000000000052 0" ∷
    codes "18 snapshot mark 00000000000000000000000000000000000000000000000000000053 0" ∷
    codes "18 snapshot set 00000000000000000000000000000000000000000000000000000048 0" ∷
    codes "18 snapshot set 00000000000000000000000000000000000000000000000000000049 0" ∷
    codes "18 snapshot set 00000000000000000000000000000000000000000000000000000050 0" ∷
    codes "18 snapshot set 00000000000000000000000000000000000000000000000000000051 0" ∷
    codes "18 snapshot set 00000000000000000000000000000000000000000000000000000052 0" ∷
    codes "18 snapshot set 00000000000000000000000000000000000000000000000000000053 0" ∷
    codes "18 snapshot go 00000000000000000000000000000000000000000000000000000048 0" ∷
    codes "18 snapshot go 00000000000000000000000000000000000000000000000000000049 0" ∷
    codes "18 snapshot go 00000000000000000000000000000000000000000000000000000050 0" ∷
    codes "18 snapshot go 00000000000000000000000000000000000000000000000000000051 0" ∷
    codes "18 snapshot go 00000000000000000000000000000000000000000000000000000052 0" ∷
    codes "18 snapshot go 00000000000000000000000000000000000000000000000000000053 0" ∷
    codes "18 snapshot fees 80" ∷
    codes "18 pending none" ∷
    codes "18 pots outputs 20 deposits 46 rewards 110 fees 100 donations 0 treasury 100 reserves 624 supply 1000" ∷
    []) ≡ true
unfolding digits encode_with
keys_shared_when_version_eleven_starts_resume_8 = refl

abbrev keys_shared_when_version_eleven_starts_resume_14_state : EnactState
keys_shared_when_version_eleven_starts_resume_14_state = (record { params = base_params; version = (11, 0); committee = (Some (record { threshold = (share 0 1); members = (((key 0x70), 100) ∷ []) })); document = (h32 0x01); script = None; last = (record { committee = None; constitution = None; hardfork = (Some (action 0x02 0)); parameters = None }); treasury = 100 })

abbrev keys_shared_when_version_eleven_starts_resume_14_world : World
keys_shared_when_version_eleven_starts_resume_14_world = (record { ledger = (record { network = 1; epoch_length = 10; supply = 1000; slot = 30; epoch = 3; dormant = 2; reserves = 624; fees = 80; donations = 0; state = keys_shared_when_version_eleven_starts_resume_14_state; outputs = (((ref 0x01 7), (record { address = (address_with 1 (key 0x01) None); lovelace = 20; assets = [] })) ∷ ((ref 0x01 8), (record { address = (address_with 1 (key 0x01) None); lovelace = 20; assets = [] })) ∷ []); used = ((tx_id 0x01) ∷ (tx_id 0x02) ∷ (tx_id 0x03) ∷ (tx_id 0x04) ∷ (tx_id 0x05) ∷ (tx_id 0x06) ∷ []); accounts = (((key 0x10), (record { deposit = 2; rewards = 67; pool = None; drep = (Some (drep.Registered (key 0x30))) })) ∷ ((key 0x11), (record { deposit = 2; rewards = 33; pool = None; drep = (Some (drep.Registered (key 0x31))) })) ∷ ((key 0x12), (record { deposit = 2; rewards = 10; pool = None; drep = None })) ∷ []); pools = (((pool 0x48), (record { deposit = 5; terms = (record { cost = 0; pledge = 0; margin = (share 0 1); account = (account_on 1 (key 0x12)); key = (Some (h32 0x04)) }); future = None; retires = None })) ∷ ((pool 0x49), (record { deposit = 5; terms = (record { cost = 0; pledge = 0; margin = (share 0 1); account = (account_on 1 (key 0x12)); key = (Some (h32 0x03)) }); future = None; retires = None })) ∷ ((pool 0x50), (record { deposit = 5; terms = (record { cost = 0; pledge = 0; margin = (share 0 1); account = (account_on 1 (key 0x12)); key = (Some (h32 0x08)) }); future = None; retires = None })) ∷ ((pool 0x51), (record { deposit = 5; terms = (record { cost = 0; pledge = 0; margin = (share 0 1); account = (account_on 1 (key 0x12)); key = (Some (h32 0x09)) }); future = None; retires = None })) ∷ ((pool 0x52), (record { deposit = 5; terms = (record { cost = 0; pledge = 0; margin = (share 0 1); account = (account_on 1 (key 0x12)); key = None }); future = None; retires = None })) ∷ ((pool 0x53), (record { deposit = 5; terms = (record { cost = 0; pledge = 0; margin = (share 0 1); account = (account_on 1 (key 0x12)); key = (Some (h32 0x07)) }); future = None; retires = None })) ∷ []); dreps = (((key 0x30), (record { deposit = 5; expiry = 20 })) ∷ ((key 0x31), (record { deposit = 5; expiry = 20 })) ∷ []); hot = (((key 0x70), (Hot (key 0x71))) ∷ []); proposals = [] }); pending = None; counted = 1; mark = (((pool 0x48), 0) ∷ ((pool 0x49), 0) ∷ ((pool 0x50), 0) ∷ ((pool 0x51), 0) ∷ ((pool 0x52), 0) ∷ ((pool 0x53), 0) ∷ []); set = (((pool 0x48), 0) ∷ ((pool 0x49), 0) ∷ ((pool 0x50), 0) ∷ ((pool 0x51), 0) ∷ ((pool 0x52), 0) ∷ ((pool 0x53), 0) ∷ []); go = (((pool 0x48), 0) ∷ ((pool 0x49), 0) ∷ ((pool 0x50), 0) ∷ ((pool 0x51), 0) ∷ ((pool 0x52), 0) ∷ ((pool 0x53), 0) ∷ []); noted_fees = 80; frozen = (record { epoch = 3; entries = (((key 0x10), (record { stake = 0; registered = (Some (record { deposit = 2; rewards = 67; pool = None; drep = (Some (drep.Registered (key 0x30))) })) })) ∷ ((key 0x11), (record { stake = 0; registered = (Some (record { deposit = 2; rewards = 33; pool = None; drep = (Some (drep.Registered (key 0x31))) })) })) ∷ ((key 0x12), (record { stake = 0; registered = (Some (record { deposit = 2; rewards = 10; pool = None; drep = None })) })) ∷ []); dreps = (((key 0x30), 20) ∷ ((key 0x31), 20) ∷ []); mark = (((pool 0x48), 0) ∷ ((pool 0x49), 0) ∷ ((pool 0x50), 0) ∷ ((pool 0x51), 0) ∷ ((pool 0x52), 0) ∷ ((pool 0x53), 0) ∷ []); pool_accounts = (((pool 0x48), (account_on 1 (key 0x12))) ∷ ((pool 0x49), (account_on 1 (key 0x12))) ∷ ((pool 0x50), (account_on 1 (key 0x12))) ∷ ((pool 0x51), (account_on 1 (key 0x12))) ∷ ((pool 0x52), (account_on 1 (key 0x12))) ∷ ((pool 0x53), (account_on 1 (key 0x12))) ∷ []); hot = (((key 0x70), (Hot (key 0x71))) ∷ []); proposals = []; start = (record keys_shared_when_version_eleven_starts_resume_14_state { treasury = 100 }) }) })

pub keys_shared_when_version_eleven_starts_resume_14_shown : is_text (Some (checkpoint_text keys_shared_when_version_eleven_starts_resume_14_world 14)) (
    codes "checkpoint 1 line 14 network 1 length 10 counted 1" ∷
    codes "now slot 30 epoch 3 version 11.0 dormant 2" ∷
    codes "constitution 0000000000000000000000000000000000000000000000000000000000000001 none" ∷
    codes "committee threshold 0/1" ∷
    codes "member k00000000000000000000000000000000000000000000000000000070 term 100 hot k00000000000000000000000000000000000000000000000000000071" ∷
    codes "enacted committee none constitution none hardfork 0000000000000000000000000000000000000000000000000000000000000002#0 parameters none" ∷
    codes "param maxBlockBodySize 90112" ∷
    codes "param maxTxSize 16384" ∷
    codes "param maxBlockHeaderSize 1100" ∷
    codes "param maxValueSize 5000" ∷
    codes "param maxTxExUnits 1000 1000" ∷
    codes "param maxBlockExUnits 1000 1000" ∷
    codes "param maxCollateralInputs 3" ∷
    codes "param minFeeA 0" ∷
    codes "param minFeeB 0" ∷
    codes "param keyDeposit 2" ∷
    codes "param poolDeposit 5" ∷
    codes "param rho 0/1" ∷
    codes "param tau 0/1" ∷
    codes "param minPoolCost 0" ∷
    codes "param coinsPerUTxOByte 0" ∷
    codes "param prices 0/1 0/1" ∷
    codes "param minFeeRefScriptCostPerByte 15/1" ∷
    codes "param a0 0/1" ∷
    codes "param eMax 18" ∷
    codes "param nOpt 500" ∷
    codes "param costModels 0000000000000000000000000000000000000000000000000000000000000000" ∷
    codes "param collateralPercentage 150" ∷
    codes "param poolVotingThresholds 0/1 0/1 0/1 0/1 0/1" ∷
    codes "param drepVotingThresholds 67/100 67/100 67/100 67/100 67/100 67/100 67/100 67/100 67/100 67/100" ∷
    codes "param govActionLifetime 2" ∷
    codes "param govActionDeposit 10" ∷
    codes "param drepDeposit 5" ∷
    codes "param drepActivity 20" ∷
    codes "param committeeMinSize 0" ∷
    codes "param committeeMaxTermLength 100" ∷
    codes "drep k00000000000000000000000000000000000000000000000000000030 deposit 5 expiry 20" ∷
    codes "drep k00000000000000000000000000000000000000000000000000000031 deposit 5 expiry 20" ∷
    codes "pool 00000000000000000000000000000000000000000000000000000048 deposit 5 cost 0 pledge 0 margin 0/1 account 1k00000000000000000000000000000000000000000000000000000012 retires never key 0000000000000000000000000000000000000000000000000000000000000004" ∷
    codes "pool 00000000000000000000000000000000000000000000000000000049 deposit 5 cost 0 pledge 0 margin 0/1 account 1k00000000000000000000000000000000000000000000000000000012 retires never key 0000000000000000000000000000000000000000000000000000000000000003" ∷
    codes "pool 00000000000000000000000000000000000000000000000000000050 deposit 5 cost 0 pledge 0 margin 0/1 account 1k00000000000000000000000000000000000000000000000000000012 retires never key 0000000000000000000000000000000000000000000000000000000000000008" ∷
    codes "pool 00000000000000000000000000000000000000000000000000000051 deposit 5 cost 0 pledge 0 margin 0/1 account 1k00000000000000000000000000000000000000000000000000000012 retires never key 0000000000000000000000000000000000000000000000000000000000000009" ∷
    codes "pool 00000000000000000000000000000000000000000000000000000052 deposit 5 cost 0 pledge 0 margin 0/1 account 1k00000000000000000000000000000000000000000000000000000012 retires never" ∷
    codes "pool 00000000000000000000000000000000000000000000000000000053 deposit 5 cost 0 pledge 0 margin 0/1 account 1k00000000000000000000000000000000000000000000000000000012 retires never key 0000000000000000000000000000000000000000000000000000000000000007" ∷
    codes "account k00000000000000000000000000000000000000000000000000000010 stake 0 deposit 2 rewards 67 pool none drep k00000000000000000000000000000000000000000000000000000030" ∷
    codes "account k00000000000000000000000000000000000000000000000000000011 stake 0 deposit 2 rewards 33 pool none drep k00000000000000000000000000000000000000000000000000000031" ∷
    codes "account k00000000000000000000000000000000000000000000000000000012 stake 0 deposit 2 rewards 10 pool none drep none" ∷
    codes "output 0000000000000000000000000000000000000000000000000000000000000001#7 1k00000000000000000000000000000000000000000000000000000001 20" ∷
    codes "output 0000000000000000000000000000000000000000000000000000000000000001#8 1k00000000000000000000000000000000000000000000000000000001 20" ∷
    codes "snapshot mark 00000000000000000000000000000000000000000000000000000048 0" ∷
    codes "snapshot mark 00000000000000000000000000000000000000000000000000000049 0" ∷
    codes "snapshot mark 00000000000000000000000000000000000000000000000000000050 0" ∷
    codes "snapshot mark 00000000000000000000000000000000000000000000000000000051 0" ∷
    codes "snapshot mark 00000000000000000000000000000000000000000000000000000052 0" ∷
    codes "snapshot mark 00000000000000000000000000000000000000000000000000000053 0" ∷
    codes "snapshot set 00000000000000000000000000000000000000000000000000000048 0" ∷
    codes "snapshot set 00000000000000000000000000000000000000000000000000000049 0" ∷
    codes "snapshot set 00000000000000000000000000000000000000000000000000000050 0" ∷
    codes "snapshot set 00000000000000000000000000000000000000000000000000000051 0" ∷
    codes "snapshot set 00000000000000000000000000000000000000000000000000000052 0" ∷
    codes "snapshot set 00000000000000000000000000000000000000000000000000000053 0" ∷
    codes "snapshot go 00000000000000000000000000000000000000000000000000000048 0" ∷
    codes "snapshot go 00000000000000000000000000000000000000000000000000000049 0" ∷
    codes "snapshot go 00000000000000000000000000000000000000000000000000000050 0" ∷
    codes "snapshot go 00000000000000000000000000000000000000000000000000000051 0" ∷
    codes "snapshot go 00000000000000000000000000000000000000000000000000000052 0" ∷
    codes "snapshot go 00000000000000000000000000000000000000000000000000000053 0" ∷
    codes "snapshot fees 80" ∷
    codes "pending none" ∷
    codes "pots outputs 40 deposits 46 rewards 110 fees 80 donations 0 treasury 100 reserves 624 supply 1000" ∷
    codes "used 0000000000000000000000000000000000000000000000000000000000000001" ∷
    codes "used 0000000000000000000000000000000000000000000000000000000000000002" ∷
    codes "used 0000000000000000000000000000000000000000000000000000000000000003" ∷
    codes "used 0000000000000000000000000000000000000000000000000000000000000004" ∷
    codes "used 0000000000000000000000000000000000000000000000000000000000000005" ∷
    codes "used 0000000000000000000000000000000000000000000000000000000000000006" ∷
    codes "frozen treasury 100" ∷
    codes "frozen account k00000000000000000000000000000000000000000000000000000010 stake 0 deposit 2 rewards 67 pool none drep k00000000000000000000000000000000000000000000000000000030" ∷
    codes "frozen account k00000000000000000000000000000000000000000000000000000011 stake 0 deposit 2 rewards 33 pool none drep k00000000000000000000000000000000000000000000000000000031" ∷
    codes "frozen account k00000000000000000000000000000000000000000000000000000012 stake 0 deposit 2 rewards 10 pool none drep none" ∷
    codes "frozen drep k00000000000000000000000000000000000000000000000000000030 expiry 20" ∷
    codes "frozen drep k00000000000000000000000000000000000000000000000000000031 expiry 20" ∷
    codes "frozen hot k00000000000000000000000000000000000000000000000000000070 k00000000000000000000000000000000000000000000000000000071" ∷
    codes "frozen pool 00000000000000000000000000000000000000000000000000000048 account 1k00000000000000000000000000000000000000000000000000000012" ∷
    codes "frozen pool 00000000000000000000000000000000000000000000000000000049 account 1k00000000000000000000000000000000000000000000000000000012" ∷
    codes "frozen pool 00000000000000000000000000000000000000000000000000000050 account 1k00000000000000000000000000000000000000000000000000000012" ∷
    codes "frozen pool 00000000000000000000000000000000000000000000000000000051 account 1k00000000000000000000000000000000000000000000000000000012" ∷
    codes "frozen pool 00000000000000000000000000000000000000000000000000000052 account 1k00000000000000000000000000000000000000000000000000000012" ∷
    codes "frozen pool 00000000000000000000000000000000000000000000000000000053 account 1k00000000000000000000000000000000000000000000000000000012" ∷
    codes "end" ∷
    []) ≡ true
unfolding digits encode_with
keys_shared_when_version_eleven_starts_resume_14_shown = refl

pub keys_shared_when_version_eleven_starts_resume_14_sound : IsResumable keys_shared_when_version_eleven_starts_resume_14_world
unfolding digits encode_with
keys_shared_when_version_eleven_starts_resume_14_sound = record { form = refl; time = refl; dormancy = refl; delegations = refl; supply = refl; ids = refl; chains = refl; pending = refl; within = refl; entries = refl; counted = refl; epoch = refl; mark = refl; state = refl; treasury = refl; proposals = refl; short = refl }

abbrev keys_shared_when_version_eleven_starts_resume_14_input : List (ℕ × Reading)
keys_shared_when_version_eleven_starts_resume_14_input =
    (15, Read (records.Tx (record (spend 0x07 15) { certs = ((certs.PoolReg (pool 0x54) 0 0 (share 0 1) (account_on 1 (key 0x12)) (Some (h32 0x07))) ∷ []) }))) ∷
    (16, Read (records.Tx (record (spend 0x07 20) { certs = ((certs.PoolReg (pool 0x53) 0 0 (share 0 1) (account_on 1 (key 0x12)) (Some (h32 0x07))) ∷ []) }))) ∷
    (17, Read (records.Tx (record (spend 0x08 20) { certs = ((certs.PoolReg (pool 0x51) 0 0 (share 0 1) (account_on 1 (key 0x12)) (Some (h32 0x08))) ∷ []) }))) ∷
    (18, Read (records.Print what.State)) ∷
    []

pub keys_shared_when_version_eleven_starts_resume_14 : is_text (Some (text_of_resume keys_shared_when_version_eleven_starts_resume_14_world keys_shared_when_version_eleven_starts_resume_14_input)) (
    codes "15 refused 73 PoolKeyInUse at 0" ∷
    codes "16 accepted" ∷
    codes "17 refused 73 PoolKeyInUse at 0" ∷
    codes "18 now slot 30 epoch 3 version 11.0 dormant 2" ∷
    codes "18 constitution 0000000000000000000000000000000000000000000000000000000000000001 none" ∷
    codes "18 committee threshold 0/1" ∷
    codes "18 member k00000000000000000000000000000000000000000000000000000070 term 100 hot k00000000000000000000000000000000000000000000000000000071" ∷
    codes "18 enacted committee none constitution none hardfork 0000000000000000000000000000000000000000000000000000000000000002#0 parameters none" ∷
    codes "18 param maxBlockBodySize 90112" ∷
    codes "18 param maxTxSize 16384" ∷
    codes "18 param maxBlockHeaderSize 1100" ∷
    codes "18 param maxValueSize 5000" ∷
    codes "18 param maxTxExUnits 1000 1000" ∷
    codes "18 param maxBlockExUnits 1000 1000" ∷
    codes "18 param maxCollateralInputs 3" ∷
    codes "18 param minFeeA 0" ∷
    codes "18 param minFeeB 0" ∷
    codes "18 param keyDeposit 2" ∷
    codes "18 param poolDeposit 5" ∷
    codes "18 param rho 0/1" ∷
    codes "18 param tau 0/1" ∷
    codes "18 param minPoolCost 0" ∷
    codes "18 param coinsPerUTxOByte 0" ∷
    codes "18 param prices 0/1 0/1" ∷
    codes "18 param minFeeRefScriptCostPerByte 15/1" ∷
    codes "18 param a0 0/1" ∷
    codes "18 param eMax 18" ∷
    codes "18 param nOpt 500" ∷
    codes "18 param costModels 0000000000000000000000000000000000000000000000000000000000000000" ∷
    codes "18 param collateralPercentage 150" ∷
    codes "18 param poolVotingThresholds 0/1 0/1 0/1 0/1 0/1" ∷
    codes "18 param drepVotingThresholds 67/100 67/100 67/100 67/100 67/100 67/100 67/100 67/100 67/100 67/100" ∷
    codes "18 param govActionLifetime 2" ∷
    codes "18 param govActionDeposit 10" ∷
    codes "18 param drepDeposit 5" ∷
    codes "18 param drepActivity 20" ∷
    codes "18 param committeeMinSize 0" ∷
    codes "18 param committeeMaxTermLength 100" ∷
    codes "18 drep k00000000000000000000000000000000000000000000000000000030 deposit 5 expiry 20" ∷
    codes "18 drep k00000000000000000000000000000000000000000000000000000031 deposit 5 expiry 20" ∷
    codes "18 pool 00000000000000000000000000000000000000000000000000000048 deposit 5 cost 0 pledge 0 margin 0/1 account 1k00000000000000000000000000000000000000000000000000000012 retires never key 0000000000000000000000000000000000000000000000000000000000000004" ∷
    codes "18 pool 00000000000000000000000000000000000000000000000000000049 deposit 5 cost 0 pledge 0 margin 0/1 account 1k00000000000000000000000000000000000000000000000000000012 retires never key 0000000000000000000000000000000000000000000000000000000000000003" ∷
    codes "18 pool 00000000000000000000000000000000000000000000000000000050 deposit 5 cost 0 pledge 0 margin 0/1 account 1k00000000000000000000000000000000000000000000000000000012 retires never key 0000000000000000000000000000000000000000000000000000000000000008" ∷
    codes "18 pool 00000000000000000000000000000000000000000000000000000051 deposit 5 cost 0 pledge 0 margin 0/1 account 1k00000000000000000000000000000000000000000000000000000012 retires never key 0000000000000000000000000000000000000000000000000000000000000009" ∷
    codes "18 pool 00000000000000000000000000000000000000000000000000000052 deposit 5 cost 0 pledge 0 margin 0/1 account 1k00000000000000000000000000000000000000000000000000000012 retires never" ∷
    codes "18 pool 00000000000000000000000000000000000000000000000000000053 deposit 5 cost 0 pledge 0 margin 0/1 account 1k00000000000000000000000000000000000000000000000000000012 retires never key 0000000000000000000000000000000000000000000000000000000000000007" ∷
    codes "18 next 00000000000000000000000000000000000000000000000000000053 cost 0 pledge 0 margin 0/1 account 1k00000000000000000000000000000000000000000000000000000012 key 0000000000000000000000000000000000000000000000000000000000000007" ∷
    codes "18 account k00000000000000000000000000000000000000000000000000000010 stake 0 deposit 2 rewards 67 pool none drep k00000000000000000000000000000000000000000000000000000030" ∷
    codes "18 account k00000000000000000000000000000000000000000000000000000011 stake 0 deposit 2 rewards 33 pool none drep k00000000000000000000000000000000000000000000000000000031" ∷
    codes "18 account k00000000000000000000000000000000000000000000000000000012 stake 0 deposit 2 rewards 10 pool none drep none" ∷
    codes "18 output 0000000000000000000000000000000000000000000000000000000000000001#8 1k00000000000000000000000000000000000000000000000000000001 20" ∷
    codes "18 snapshot mark 00000000000000000000000000000000000000000000000000000048 0" ∷
    codes "18 snapshot mark 00000000000000000000000000000000000000000000000000000049 0" ∷
    codes "18 snapshot mark 00000000000000000000000000000000000000000000000000000050 0" ∷
    codes "18 snapshot mark 00000000000000000000000000000000000000000000000000000051 0" ∷
    codes "18 snapshot mark 00000000000000000000000000000000000000000000000000000052 0" ∷
    codes "18 snapshot mark 00000000000000000000000000000000000000000000000000000053 0" ∷
    codes "18 snapshot set 00000000000000000000000000000000000000000000000000000048 0" ∷
    codes "18 snapshot set 00000000000000000000000000000000000000000000000000000049 0" ∷
    codes "18 snapshot set 00000000000000000000000000000000000000000000000000000050 0" ∷
    codes "18 snapshot set 00000000000000000000000000000000000000000000000000000051 0" ∷
    codes "18 snapshot set 00000000000000000000000000000000000000000000000000000052 0" ∷
    codes "18 snapshot set 00000000000000000000000000000000000000000000000000000053 0" ∷
    codes "18 snapshot go 00000000000000000000000000000000000000000000000000000048 0" ∷
    codes "18 snapshot go 00000000000000000000000000000000000000000000000000000049 0" ∷
    codes "18 snapshot go 00000000000000000000000000000000000000000000000000000050 0" ∷
    codes "18 snapshot go 00000000000000000000000000000000000000000000000000000051 0" ∷
    codes "18 snapshot go 00000000000000000000000000000000000000000000000000000052 0" ∷
    codes "18 snapshot go 00000000000000000000000000000000000000000000000000000053 0" ∷
    codes "18 snapshot fees 80" ∷
    codes "18 pending none" ∷
    codes "18 pots outputs 20 deposits 46 rewards 110 fees 100 donations 0 treasury 100 reserves 624 supply 1000" ∷
    []) ≡ true
unfolding digits encode_with
keys_shared_when_version_eleven_starts_resume_14 = refl
