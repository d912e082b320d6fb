-- Worked rows of whole streams: checkpoints of ledgers with keys of pools. Made by tests/made/rows_of, from the streams of these names in tests/streams/further.
use Rattle.std.specs.Prelude.{ℕ, ◌≡◌, List, [], ◌∷◌, Some, None, true, codes, refl}
use Rattle.std.specs.Fmt.{digits}
use Rattle.hex.specs.Hex.{encode_with}
use Rattle.gov_actions.specs.declared.action.Action.TheVariants as actions
use Rattle.gov_actions.specs.declared.action.Vote.TheVariants as vote
use Rattle.gov_ids.specs.declared.Drep.TheVariants as drep
use Rattle.gov_ids.specs.declared.Voter.TheVariants as voter
use Rattle.tx_records.specs.declared.record.Record.TheVariants as records
use Rattle.tx_records.specs.declared.record.What.TheVariants as what
use Rattle.tx_records.specs.declared.cert.Cert.TheVariants as certs
use Rattle.tx_records.specs.declared.record.Reading.{Reading}
use Rattle.tx_records.specs.declared.record.Reading.TheVariants.{Read}
use Rattle.ledger_rows.proofs.Base.{h32, key, pool, account_on, address_with, ref, action, share, base_params, spend, proposing, voting}
use Rattle.checkpoint_model.specs.Resumed.{checkpoint_of_readings}
use Rattle.further_rows.proofs.Texts.{is_text}

abbrev keys_shared_when_version_eleven_starts_checkpoint_8_input : List (ℕ × Reading)
keys_shared_when_version_eleven_starts_checkpoint_8_input =
    (1, Read (records.Genesis (record { network = 1; slot = 0; epoch_length = 10; version = (10, 11); supply = 1000; reserves = 624; treasury = 100; params = base_params; document = (h32 0x01); script = None; committee = (Some (record { threshold = (share 0 1); members = (((key 0x70), 100, (Some (key 0x71))) ∷ []) })); outputs = (((ref 0x01 2), (address_with 1 (key 0x01) None), 20, []) ∷ ((ref 0x01 3), (address_with 1 (key 0x01) None), 20, []) ∷ ((ref 0x01 4), (address_with 1 (key 0x01) None), 20, []) ∷ ((ref 0x01 5), (address_with 1 (key 0x01) None), 20, []) ∷ ((ref 0x01 6), (address_with 1 (key 0x01) None), 20, []) ∷ ((ref 0x01 7), (address_with 1 (key 0x01) None), 20, []) ∷ ((ref 0x01 8), (address_with 1 (key 0x01) None), 20, []) ∷ []); accounts = (((key 0x10), 2, 67, None, (Some (drep.Registered (key 0x30)))) ∷ ((key 0x11), 2, 33, None, (Some (drep.Registered (key 0x31)))) ∷ ((key 0x12), 2, 0, None, None) ∷ []); pools = ((record { pool = (pool 0x48); deposit = 5; cost = 0; pledge = 0; margin = (share 0 1); account = (account_on 1 (key 0x12)); key = (Some (h32 0x03)) }) ∷ (record { pool = (pool 0x49); deposit = 5; cost = 0; pledge = 0; margin = (share 0 1); account = (account_on 1 (key 0x12)); key = (Some (h32 0x04)) }) ∷ (record { pool = (pool 0x50); deposit = 5; cost = 0; pledge = 0; margin = (share 0 1); account = (account_on 1 (key 0x12)); key = (Some (h32 0x07)) }) ∷ (record { pool = (pool 0x51); deposit = 5; cost = 0; pledge = 0; margin = (share 0 1); account = (account_on 1 (key 0x12)); key = (Some (h32 0x07)) }) ∷ []); dreps = (((key 0x30), 5, 20) ∷ ((key 0x31), 5, 20) ∷ []) }))) ∷
    (2, Read (records.Tx (record (spend 0x02 10) { proposals = ((proposing 10 (account_on 1 (key 0x12)) (actions.HardForkInitiation None (11, 0))) ∷ []) }))) ∷
    (3, Read (records.Tx (record (spend 0x03 20) { votes = ((voting (voter.Drep (key 0x30)) (action 0x02 0) vote.Yes) ∷ []) }))) ∷
    (4, Read (records.Tx (record (spend 0x04 10) { certs = ((certs.PoolReg (pool 0x48) 0 0 (share 0 1) (account_on 1 (key 0x12)) (Some (h32 0x04))) ∷ (certs.PoolReg (pool 0x49) 0 0 (share 0 1) (account_on 1 (key 0x12)) (Some (h32 0x03))) ∷ (certs.PoolReg (pool 0x52) 0 0 (share 0 1) (account_on 1 (key 0x12)) (Some (h32 0x07))) ∷ (certs.PoolReg (pool 0x53) 0 0 (share 0 1) (account_on 1 (key 0x12)) (Some (h32 0x07))) ∷ []) }))) ∷
    (5, Read (records.Block 10 1)) ∷
    (6, Read (records.Block 20 1)) ∷
    (7, Read (records.Tx (record (spend 0x05 20) { certs = ((certs.PoolReg (pool 0x50) 0 0 (share 0 1) (account_on 1 (key 0x12)) (Some (h32 0x07))) ∷ []) }))) ∷
    (8, Read (records.Tx (record (spend 0x05 20) { certs = ((certs.PoolReg (pool 0x53) 0 0 (share 0 1) (account_on 1 (key 0x12)) (Some (h32 0x04))) ∷ []) }))) ∷
    []

pub keys_shared_when_version_eleven_starts_checkpoint_8 : is_text (checkpoint_of_readings 8 keys_shared_when_version_eleven_starts_checkpoint_8_input) (
    codes "checkpoint 1 line 8 network 1 length 10 counted 1" ∷
    codes "now slot 20 epoch 2 version 11.0 dormant 1" ∷
    codes "constitution 0000000000000000000000000000000000000000000000000000000000000001 none" ∷
    codes "committee threshold 0/1" ∷
    codes "member k00000000000000000000000000000000000000000000000000000070 term 100 hot k00000000000000000000000000000000000000000000000000000071" ∷
    codes "enacted committee none constitution none hardfork 0000000000000000000000000000000000000000000000000000000000000002#0 parameters none" ∷
    codes "param maxBlockBodySize 90112" ∷
    codes "param maxTxSize 16384" ∷
    codes "param maxBlockHeaderSize 1100" ∷
    codes "param maxValueSize 5000" ∷
    codes "param maxTxExUnits 1000 1000" ∷
    codes "param maxBlockExUnits 1000 1000" ∷
    codes "param maxCollateralInputs 3" ∷
    codes "param minFeeA 0" ∷
    codes "param minFeeB 0" ∷
    codes "param keyDeposit 2" ∷
    codes "param poolDeposit 5" ∷
    codes "param rho 0/1" ∷
    codes "param tau 0/1" ∷
    codes "param minPoolCost 0" ∷
    codes "param coinsPerUTxOByte 0" ∷
    codes "param prices 0/1 0/1" ∷
    codes "param minFeeRefScriptCostPerByte 15/1" ∷
    codes "param a0 0/1" ∷
    codes "param eMax 18" ∷
    codes "param nOpt 500" ∷
    codes "param costModels 0000000000000000000000000000000000000000000000000000000000000000" ∷
    codes "param collateralPercentage 150" ∷
    codes "param poolVotingThresholds 0/1 0/1 0/1 0/1 0/1" ∷
    codes "param drepVotingThresholds 67/100 67/100 67/100 67/100 67/100 67/100 67/100 67/100 67/100 67/100" ∷
    codes "param govActionLifetime 2" ∷
    codes "param govActionDeposit 10" ∷
    codes "param drepDeposit 5" ∷
    codes "param drepActivity 20" ∷
    codes "param committeeMinSize 0" ∷
    codes "param committeeMaxTermLength 100" ∷
    codes "drep k00000000000000000000000000000000000000000000000000000030 deposit 5 expiry 20" ∷
    codes "drep k00000000000000000000000000000000000000000000000000000031 deposit 5 expiry 20" ∷
    codes "pool 00000000000000000000000000000000000000000000000000000048 deposit 5 cost 0 pledge 0 margin 0/1 account 1k00000000000000000000000000000000000000000000000000000012 retires never key 0000000000000000000000000000000000000000000000000000000000000004" ∷
    codes "pool 00000000000000000000000000000000000000000000000000000049 deposit 5 cost 0 pledge 0 margin 0/1 account 1k00000000000000000000000000000000000000000000000000000012 retires never key 0000000000000000000000000000000000000000000000000000000000000003" ∷
    codes "pool 00000000000000000000000000000000000000000000000000000050 deposit 5 cost 0 pledge 0 margin 0/1 account 1k00000000000000000000000000000000000000000000000000000012 retires never key 0000000000000000000000000000000000000000000000000000000000000007" ∷
    codes "pool 00000000000000000000000000000000000000000000000000000051 deposit 5 cost 0 pledge 0 margin 0/1 account 1k00000000000000000000000000000000000000000000000000000012 retires never key 0000000000000000000000000000000000000000000000000000000000000007" ∷
    codes "pool 00000000000000000000000000000000000000000000000000000052 deposit 5 cost 0 pledge 0 margin 0/1 account 1k00000000000000000000000000000000000000000000000000000012 retires never key 0000000000000000000000000000000000000000000000000000000000000007" ∷
    codes "pool 00000000000000000000000000000000000000000000000000000053 deposit 5 cost 0 pledge 0 margin 0/1 account 1k00000000000000000000000000000000000000000000000000000012 retires never key 0000000000000000000000000000000000000000000000000000000000000007" ∷
    codes "account k00000000000000000000000000000000000000000000000000000010 stake 0 deposit 2 rewards 67 pool none drep k00000000000000000000000000000000000000000000000000000030" ∷
    codes "account k00000000000000000000000000000000000000000000000000000011 stake 0 deposit 2 rewards 33 pool none drep k00000000000000000000000000000000000000000000000000000031" ∷
    codes "account k00000000000000000000000000000000000000000000000000000012 stake 0 deposit 2 rewards 10 pool none drep none" ∷
    codes "output 0000000000000000000000000000000000000000000000000000000000000001#5 1k00000000000000000000000000000000000000000000000000000001 20" ∷
    codes "output 0000000000000000000000000000000000000000000000000000000000000001#6 1k00000000000000000000000000000000000000000000000000000001 20" ∷
    codes "output 0000000000000000000000000000000000000000000000000000000000000001#7 1k00000000000000000000000000000000000000000000000000000001 20" ∷
    codes "output 0000000000000000000000000000000000000000000000000000000000000001#8 1k00000000000000000000000000000000000000000000000000000001 20" ∷
    codes "snapshot mark 00000000000000000000000000000000000000000000000000000048 0" ∷
    codes "snapshot mark 00000000000000000000000000000000000000000000000000000049 0" ∷
    codes "snapshot mark 00000000000000000000000000000000000000000000000000000050 0" ∷
    codes "snapshot mark 00000000000000000000000000000000000000000000000000000051 0" ∷
    codes "snapshot mark 00000000000000000000000000000000000000000000000000000052 0" ∷
    codes "snapshot mark 00000000000000000000000000000000000000000000000000000053 0" ∷
    codes "snapshot set 00000000000000000000000000000000000000000000000000000048 0" ∷
    codes "snapshot set 00000000000000000000000000000000000000000000000000000049 0" ∷
    codes "snapshot set 00000000000000000000000000000000000000000000000000000050 0" ∷
    codes "snapshot set 00000000000000000000000000000000000000000000000000000051 0" ∷
    codes "snapshot set 00000000000000000000000000000000000000000000000000000052 0" ∷
    codes "snapshot set 00000000000000000000000000000000000000000000000000000053 0" ∷
    codes "snapshot go 00000000000000000000000000000000000000000000000000000048 0" ∷
    codes "snapshot go 00000000000000000000000000000000000000000000000000000049 0" ∷
    codes "snapshot go 00000000000000000000000000000000000000000000000000000050 0" ∷
    codes "snapshot go 00000000000000000000000000000000000000000000000000000051 0" ∷
    codes "snapshot fees 40" ∷
    codes "pending none" ∷
    codes "pots outputs 80 deposits 46 rewards 110 fees 40 donations 0 treasury 100 reserves 624 supply 1000" ∷
    codes "used 0000000000000000000000000000000000000000000000000000000000000001" ∷
    codes "used 0000000000000000000000000000000000000000000000000000000000000002" ∷
    codes "used 0000000000000000000000000000000000000000000000000000000000000003" ∷
    codes "used 0000000000000000000000000000000000000000000000000000000000000004" ∷
    codes "frozen treasury 100" ∷
    codes "frozen account k00000000000000000000000000000000000000000000000000000010 stake 0 deposit 2 rewards 67 pool none drep k00000000000000000000000000000000000000000000000000000030" ∷
    codes "frozen account k00000000000000000000000000000000000000000000000000000011 stake 0 deposit 2 rewards 33 pool none drep k00000000000000000000000000000000000000000000000000000031" ∷
    codes "frozen account k00000000000000000000000000000000000000000000000000000012 stake 0 deposit 2 rewards 10 pool none drep none" ∷
    codes "frozen drep k00000000000000000000000000000000000000000000000000000030 expiry 20" ∷
    codes "frozen drep k00000000000000000000000000000000000000000000000000000031 expiry 20" ∷
    codes "frozen hot k00000000000000000000000000000000000000000000000000000070 k00000000000000000000000000000000000000000000000000000071" ∷
    codes "frozen pool 00000000000000000000000000000000000000000000000000000048 account 1k00000000000000000000000000000000000000000000000000000012" ∷
    codes "frozen pool 00000000000000000000000000000000000000000000000000000049 account 1k00000000000000000000000000000000000000000000000000000012" ∷
    codes "frozen pool 00000000000000000000000000000000000000000000000000000050 account 1k00000000000000000000000000000000000000000000000000000012" ∷
    codes "frozen pool 00000000000000000000000000000000000000000000000000000051 account 1k00000000000000000000000000000000000000000000000000000012" ∷
    codes "frozen pool 00000000000000000000000000000000000000000000000000000052 account 1k00000000000000000000000000000000000000000000000000000012" ∷
    codes "frozen pool 00000000000000000000000000000000000000000000000000000053 account 1k00000000000000000000000000000000000000000000000000000012" ∷
    codes "end" ∷
    []) ≡ true
unfolding digits encode_with
keys_shared_when_version_eleven_starts_checkpoint_8 = refl

abbrev keys_shared_when_version_eleven_starts_checkpoint_14_input : List (ℕ × Reading)
keys_shared_when_version_eleven_starts_checkpoint_14_input =
    (1, Read (records.Genesis (record { network = 1; slot = 0; epoch_length = 10; version = (10, 11); supply = 1000; reserves = 624; treasury = 100; params = base_params; document = (h32 0x01); script = None; committee = (Some (record { threshold = (share 0 1); members = (((key 0x70), 100, (Some (key 0x71))) ∷ []) })); outputs = (((ref 0x01 2), (address_with 1 (key 0x01) None), 20, []) ∷ ((ref 0x01 3), (address_with 1 (key 0x01) None), 20, []) ∷ ((ref 0x01 4), (address_with 1 (key 0x01) None), 20, []) ∷ ((ref 0x01 5), (address_with 1 (key 0x01) None), 20, []) ∷ ((ref 0x01 6), (address_with 1 (key 0x01) None), 20, []) ∷ ((ref 0x01 7), (address_with 1 (key 0x01) None), 20, []) ∷ ((ref 0x01 8), (address_with 1 (key 0x01) None), 20, []) ∷ []); accounts = (((key 0x10), 2, 67, None, (Some (drep.Registered (key 0x30)))) ∷ ((key 0x11), 2, 33, None, (Some (drep.Registered (key 0x31)))) ∷ ((key 0x12), 2, 0, None, None) ∷ []); pools = ((record { pool = (pool 0x48); deposit = 5; cost = 0; pledge = 0; margin = (share 0 1); account = (account_on 1 (key 0x12)); key = (Some (h32 0x03)) }) ∷ (record { pool = (pool 0x49); deposit = 5; cost = 0; pledge = 0; margin = (share 0 1); account = (account_on 1 (key 0x12)); key = (Some (h32 0x04)) }) ∷ (record { pool = (pool 0x50); deposit = 5; cost = 0; pledge = 0; margin = (share 0 1); account = (account_on 1 (key 0x12)); key = (Some (h32 0x07)) }) ∷ (record { pool = (pool 0x51); deposit = 5; cost = 0; pledge = 0; margin = (share 0 1); account = (account_on 1 (key 0x12)); key = (Some (h32 0x07)) }) ∷ []); dreps = (((key 0x30), 5, 20) ∷ ((key 0x31), 5, 20) ∷ []) }))) ∷
    (2, Read (records.Tx (record (spend 0x02 10) { proposals = ((proposing 10 (account_on 1 (key 0x12)) (actions.HardForkInitiation None (11, 0))) ∷ []) }))) ∷
    (3, Read (records.Tx (record (spend 0x03 20) { votes = ((voting (voter.Drep (key 0x30)) (action 0x02 0) vote.Yes) ∷ []) }))) ∷
    (4, Read (records.Tx (record (spend 0x04 10) { certs = ((certs.PoolReg (pool 0x48) 0 0 (share 0 1) (account_on 1 (key 0x12)) (Some (h32 0x04))) ∷ (certs.PoolReg (pool 0x49) 0 0 (share 0 1) (account_on 1 (key 0x12)) (Some (h32 0x03))) ∷ (certs.PoolReg (pool 0x52) 0 0 (share 0 1) (account_on 1 (key 0x12)) (Some (h32 0x07))) ∷ (certs.PoolReg (pool 0x53) 0 0 (share 0 1) (account_on 1 (key 0x12)) (Some (h32 0x07))) ∷ []) }))) ∷
    (5, Read (records.Block 10 1)) ∷
    (6, Read (records.Block 20 1)) ∷
    (7, Read (records.Tx (record (spend 0x05 20) { certs = ((certs.PoolReg (pool 0x50) 0 0 (share 0 1) (account_on 1 (key 0x12)) (Some (h32 0x07))) ∷ []) }))) ∷
    (8, Read (records.Tx (record (spend 0x05 20) { certs = ((certs.PoolReg (pool 0x53) 0 0 (share 0 1) (account_on 1 (key 0x12)) (Some (h32 0x04))) ∷ []) }))) ∷
    (9, Read (records.Tx (record (spend 0x05 20) { certs = ((certs.PoolReg (pool 0x53) 0 0 (share 0 1) (account_on 1 (key 0x12)) (Some (h32 0x03))) ∷ []) }))) ∷
    (10, Read (records.Tx (record (spend 0x05 20) { certs = ((certs.PoolReg (pool 0x50) 0 0 (share 0 1) (account_on 1 (key 0x12)) (Some (h32 0x08))) ∷ (certs.PoolReg (pool 0x51) 0 0 (share 0 1) (account_on 1 (key 0x12)) (Some (h32 0x09))) ∷ []) }))) ∷
    (11, Read (records.Tx (record (spend 0x06 20) { certs = ((certs.PoolReg (pool 0x53) 0 0 (share 0 1) (account_on 1 (key 0x12)) (Some (h32 0x07))) ∷ []) }))) ∷
    (12, Read (records.Tx (record (spend 0x06 20) { certs = ((certs.PoolReg (pool 0x52) 0 0 (share 0 1) (account_on 1 (key 0x12)) None) ∷ []) }))) ∷
    (13, Read (records.Print what.State)) ∷
    (14, Read (records.Block 30 1)) ∷
    []

pub keys_shared_when_version_eleven_starts_checkpoint_14 : is_text (checkpoint_of_readings 14 keys_shared_when_version_eleven_starts_checkpoint_14_input) (
    codes "checkpoint 1 line 14 network 1 length 10 counted 1" ∷
    codes "now slot 30 epoch 3 version 11.0 dormant 2" ∷
    codes "constitution 0000000000000000000000000000000000000000000000000000000000000001 none" ∷
    codes "committee threshold 0/1" ∷
    codes "member k00000000000000000000000000000000000000000000000000000070 term 100 hot k00000000000000000000000000000000000000000000000000000071" ∷
    codes "enacted committee none constitution none hardfork 0000000000000000000000000000000000000000000000000000000000000002#0 parameters none" ∷
    codes "param maxBlockBodySize 90112" ∷
    codes "param maxTxSize 16384" ∷
    codes "param maxBlockHeaderSize 1100" ∷
    codes "param maxValueSize 5000" ∷
    codes "param maxTxExUnits 1000 1000" ∷
    codes "param maxBlockExUnits 1000 1000" ∷
    codes "param maxCollateralInputs 3" ∷
    codes "param minFeeA 0" ∷
    codes "param minFeeB 0" ∷
    codes "param keyDeposit 2" ∷
    codes "param poolDeposit 5" ∷
    codes "param rho 0/1" ∷
    codes "param tau 0/1" ∷
    codes "param minPoolCost 0" ∷
    codes "param coinsPerUTxOByte 0" ∷
    codes "param prices 0/1 0/1" ∷
    codes "param minFeeRefScriptCostPerByte 15/1" ∷
    codes "param a0 0/1" ∷
    codes "param eMax 18" ∷
    codes "param nOpt 500" ∷
    codes "param costModels 0000000000000000000000000000000000000000000000000000000000000000" ∷
    codes "param collateralPercentage 150" ∷
    codes "param poolVotingThresholds 0/1 0/1 0/1 0/1 0/1" ∷
    codes "param drepVotingThresholds 67/100 67/100 67/100 67/100 67/100 67/100 67/100 67/100 67/100 67/100" ∷
    codes "param govActionLifetime 2" ∷
    codes "param govActionDeposit 10" ∷
    codes "param drepDeposit 5" ∷
    codes "param drepActivity 20" ∷
    codes "param committeeMinSize 0" ∷
    codes "param committeeMaxTermLength 100" ∷
    codes "drep k00000000000000000000000000000000000000000000000000000030 deposit 5 expiry 20" ∷
    codes "drep k00000000000000000000000000000000000000000000000000000031 deposit 5 expiry 20" ∷
    codes "pool 00000000000000000000000000000000000000000000000000000048 deposit 5 cost 0 pledge 0 margin 0/1 account 1k00000000000000000000000000000000000000000000000000000012 retires never key 0000000000000000000000000000000000000000000000000000000000000004" ∷
    codes "pool 00000000000000000000000000000000000000000000000000000049 deposit 5 cost 0 pledge 0 margin 0/1 account 1k00000000000000000000000000000000000000000000000000000012 retires never key 0000000000000000000000000000000000000000000000000000000000000003" ∷
    codes "pool 00000000000000000000000000000000000000000000000000000050 deposit 5 cost 0 pledge 0 margin 0/1 account 1k00000000000000000000000000000000000000000000000000000012 retires never key 0000000000000000000000000000000000000000000000000000000000000008" ∷
    codes "pool 00000000000000000000000000000000000000000000000000000051 deposit 5 cost 0 pledge 0 margin 0/1 account 1k00000000000000000000000000000000000000000000000000000012 retires never key 0000000000000000000000000000000000000000000000000000000000000009" ∷
    codes "pool 00000000000000000000000000000000000000000000000000000052 deposit 5 cost 0 pledge 0 margin 0/1 account 1k00000000000000000000000000000000000000000000000000000012 retires never" ∷
    codes "pool 00000000000000000000000000000000000000000000000000000053 deposit 5 cost 0 pledge 0 margin 0/1 account 1k00000000000000000000000000000000000000000000000000000012 retires never key 0000000000000000000000000000000000000000000000000000000000000007" ∷
    codes "account k00000000000000000000000000000000000000000000000000000010 stake 0 deposit 2 rewards 67 pool none drep k00000000000000000000000000000000000000000000000000000030" ∷
    codes "account k00000000000000000000000000000000000000000000000000000011 stake 0 deposit 2 rewards 33 pool none drep k00000000000000000000000000000000000000000000000000000031" ∷
    codes "account k00000000000000000000000000000000000000000000000000000012 stake 0 deposit 2 rewards 10 pool none drep none" ∷
    codes "output 0000000000000000000000000000000000000000000000000000000000000001#7 1k00000000000000000000000000000000000000000000000000000001 20" ∷
    codes "output 0000000000000000000000000000000000000000000000000000000000000001#8 1k00000000000000000000000000000000000000000000000000000001 20" ∷
    codes "snapshot mark 00000000000000000000000000000000000000000000000000000048 0" ∷
    codes "snapshot mark 00000000000000000000000000000000000000000000000000000049 0" ∷
    codes "snapshot mark 00000000000000000000000000000000000000000000000000000050 0" ∷
    codes "snapshot mark 00000000000000000000000000000000000000000000000000000051 0" ∷
    codes "snapshot mark 00000000000000000000000000000000000000000000000000000052 0" ∷
    codes "snapshot mark 00000000000000000000000000000000000000000000000000000053 0" ∷
    codes "snapshot set 00000000000000000000000000000000000000000000000000000048 0" ∷
    codes "snapshot set 00000000000000000000000000000000000000000000000000000049 0" ∷
    codes "snapshot set 00000000000000000000000000000000000000000000000000000050 0" ∷
    codes "snapshot set 00000000000000000000000000000000000000000000000000000051 0" ∷
    codes "snapshot set 00000000000000000000000000000000000000000000000000000052 0" ∷
    codes "snapshot set 00000000000000000000000000000000000000000000000000000053 0" ∷
    codes "snapshot go 00000000000000000000000000000000000000000000000000000048 0" ∷
    codes "snapshot go 00000000000000000000000000000000000000000000000000000049 0" ∷
    codes "snapshot go 00000000000000000000000000000000000000000000000000000050 0" ∷
    codes "snapshot go 00000000000000000000000000000000000000000000000000000051 0" ∷
    codes "snapshot go 00000000000000000000000000000000000000000000000000000052 0" ∷
    codes "snapshot go 00000000000000000000000000000000000000000000000000000053 0" ∷
    codes "snapshot fees 80" ∷
    codes "pending none" ∷
    codes "pots outputs 40 deposits 46 rewards 110 fees 80 donations 0 treasury 100 reserves 624 supply 1000" ∷
    codes "used 0000000000000000000000000000000000000000000000000000000000000001" ∷
    codes "used 0000000000000000000000000000000000000000000000000000000000000002" ∷
    codes "used 0000000000000000000000000000000000000000000000000000000000000003" ∷
    codes "used 0000000000000000000000000000000000000000000000000000000000000004" ∷
    codes "used 0000000000000000000000000000000000000000000000000000000000000005" ∷
    codes "used 0000000000000000000000000000000000000000000000000000000000000006" ∷
    codes "frozen treasury 100" ∷
    codes "frozen account k00000000000000000000000000000000000000000000000000000010 stake 0 deposit 2 rewards 67 pool none drep k00000000000000000000000000000000000000000000000000000030" ∷
    codes "frozen account k00000000000000000000000000000000000000000000000000000011 stake 0 deposit 2 rewards 33 pool none drep k00000000000000000000000000000000000000000000000000000031" ∷
    codes "frozen account k00000000000000000000000000000000000000000000000000000012 stake 0 deposit 2 rewards 10 pool none drep none" ∷
    codes "frozen drep k00000000000000000000000000000000000000000000000000000030 expiry 20" ∷
    codes "frozen drep k00000000000000000000000000000000000000000000000000000031 expiry 20" ∷
    codes "frozen hot k00000000000000000000000000000000000000000000000000000070 k00000000000000000000000000000000000000000000000000000071" ∷
    codes "frozen pool 00000000000000000000000000000000000000000000000000000048 account 1k00000000000000000000000000000000000000000000000000000012" ∷
    codes "frozen pool 00000000000000000000000000000000000000000000000000000049 account 1k00000000000000000000000000000000000000000000000000000012" ∷
    codes "frozen pool 00000000000000000000000000000000000000000000000000000050 account 1k00000000000000000000000000000000000000000000000000000012" ∷
    codes "frozen pool 00000000000000000000000000000000000000000000000000000051 account 1k00000000000000000000000000000000000000000000000000000012" ∷
    codes "frozen pool 00000000000000000000000000000000000000000000000000000052 account 1k00000000000000000000000000000000000000000000000000000012" ∷
    codes "frozen pool 00000000000000000000000000000000000000000000000000000053 account 1k00000000000000000000000000000000000000000000000000000012" ∷
    codes "end" ∷
    []) ≡ true
unfolding digits encode_with
keys_shared_when_version_eleven_starts_checkpoint_14 = refl
