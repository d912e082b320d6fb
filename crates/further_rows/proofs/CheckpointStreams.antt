-- Worked rows of whole streams: checkpoints. Made by tests/made/rows_of, from the streams of these names in tests/streams/further.
use Rattle.std.specs.Prelude.{ℕ, ◌≡◌, List, [], ◌∷◌, Some, None, true, codes, refl}
use Rattle.std.specs.Fmt.{digits}
use Rattle.hex.specs.Hex.{encode_with}
use Rattle.gov_actions.specs.declared.action.Action.TheVariants as actions
use Rattle.gov_actions.specs.declared.action.Vote.TheVariants as vote
use Rattle.gov_ids.specs.declared.CredKind.TheVariants.{Key}
use Rattle.gov_ids.specs.declared.Drep.TheVariants as drep
use Rattle.gov_ids.specs.declared.Voter.TheVariants as voter
use Rattle.tx_records.specs.declared.field.FieldName.TheVariants as field
use Rattle.tx_records.specs.declared.record.Record.TheVariants as records
use Rattle.tx_records.specs.declared.record.What.TheVariants as what
use Rattle.tx_records.specs.declared.cert.Cert.TheVariants as certs
use Rattle.tx_records.specs.declared.record.Reading.{Reading}
use Rattle.tx_records.specs.declared.record.Reading.TheVariants.{Read, Malformed}
use Rattle.ledger_rows.proofs.Base.{h32, key, script, pool, account_on, address_with, ref, action, share, base_params, spend, paying, proposing, voting}
use Rattle.checkpoint_model.specs.Resumed.{checkpoint_of_readings}
use Rattle.further_rows.proofs.Texts.{is_text}

abbrev checkpoint_of_a_genesis_alone_input : List (ℕ × Reading)
checkpoint_of_a_genesis_alone_input =
    (1, Read (records.Genesis (record { network = 1; slot = 0; epoch_length = 10; version = (10, 0); supply = 1000; reserves = 579; treasury = 100; params = base_params; document = (h32 0x01); script = None; committee = (Some (record { threshold = (share 0 1); members = (((key 0x70), 100, (Some (key 0x71))) ∷ []) })); outputs = (((ref 0x01 0), (address_with 1 (key 0x01) None), 20, []) ∷ ((ref 0x01 1), (address_with 1 (key 0x01) None), 20, []) ∷ ((ref 0x01 2), (address_with 1 (key 0x01) None), 20, []) ∷ ((ref 0x01 3), (address_with 1 (key 0x01) None), 20, []) ∷ ((ref 0x01 4), (address_with 1 (key 0x01) None), 20, []) ∷ ((ref 0x01 5), (address_with 1 (key 0x01) None), 20, []) ∷ ((ref 0x01 6), (address_with 1 (key 0x01) None), 20, []) ∷ ((ref 0x01 7), (address_with 1 (key 0x01) None), 20, []) ∷ ((ref 0x01 8), (address_with 1 (key 0x01) None), 20, []) ∷ ((ref 0x01 9), (address_with 1 (key 0x01) None), 20, []) ∷ []); accounts = (((key 0x10), 2, 67, None, (Some (drep.Registered (key 0x30)))) ∷ ((key 0x11), 2, 33, None, (Some (drep.Registered (key 0x31)))) ∷ ((key 0x12), 2, 0, None, None) ∷ []); pools = ((record { pool = (pool 0x50); deposit = 5; cost = 0; pledge = 0; margin = (share 0 1); account = (account_on 1 (key 0x12)); key = None }) ∷ []); dreps = (((key 0x30), 5, 20) ∷ ((key 0x31), 5, 20) ∷ []) }))) ∷
    []

pub checkpoint_of_a_genesis_alone : is_text (checkpoint_of_readings 1 checkpoint_of_a_genesis_alone_input) (
    codes "checkpoint 1 line 1 network 1 length 10 counted 0" ∷
    codes "now slot 0 epoch 0 version 10.0 dormant 0" ∷
    codes "constitution 0000000000000000000000000000000000000000000000000000000000000001 none" ∷
    codes "committee threshold 0/1" ∷
    codes "member k00000000000000000000000000000000000000000000000000000070 term 100 hot k00000000000000000000000000000000000000000000000000000071" ∷
    codes "enacted committee none constitution none hardfork none parameters none" ∷
    codes "param maxBlockBodySize 90112" ∷
    codes "param maxTxSize 16384" ∷
    codes "param maxBlockHeaderSize 1100" ∷
    codes "param maxValueSize 5000" ∷
    codes "param maxTxExUnits 1000 1000" ∷
    codes "param maxBlockExUnits 1000 1000" ∷
    codes "param maxCollateralInputs 3" ∷
    codes "param minFeeA 0" ∷
    codes "param minFeeB 0" ∷
    codes "param keyDeposit 2" ∷
    codes "param poolDeposit 5" ∷
    codes "param rho 0/1" ∷
    codes "param tau 0/1" ∷
    codes "param minPoolCost 0" ∷
    codes "param coinsPerUTxOByte 0" ∷
    codes "param prices 0/1 0/1" ∷
    codes "param minFeeRefScriptCostPerByte 15/1" ∷
    codes "param a0 0/1" ∷
    codes "param eMax 18" ∷
    codes "param nOpt 500" ∷
    codes "param costModels 0000000000000000000000000000000000000000000000000000000000000000" ∷
    codes "param collateralPercentage 150" ∷
    codes "param poolVotingThresholds 0/1 0/1 0/1 0/1 0/1" ∷
    codes "param drepVotingThresholds 67/100 67/100 67/100 67/100 67/100 67/100 67/100 67/100 67/100 67/100" ∷
    codes "param govActionLifetime 2" ∷
    codes "param govActionDeposit 10" ∷
    codes "param drepDeposit 5" ∷
    codes "param drepActivity 20" ∷
    codes "param committeeMinSize 0" ∷
    codes "param committeeMaxTermLength 100" ∷
    codes "drep k00000000000000000000000000000000000000000000000000000030 deposit 5 expiry 20" ∷
    codes "drep k00000000000000000000000000000000000000000000000000000031 deposit 5 expiry 20" ∷
    codes "pool 00000000000000000000000000000000000000000000000000000050 deposit 5 cost 0 pledge 0 margin 0/1 account 1k00000000000000000000000000000000000000000000000000000012 retires never" ∷
    codes "account k00000000000000000000000000000000000000000000000000000010 stake 0 deposit 2 rewards 67 pool none drep k00000000000000000000000000000000000000000000000000000030" ∷
    codes "account k00000000000000000000000000000000000000000000000000000011 stake 0 deposit 2 rewards 33 pool none drep k00000000000000000000000000000000000000000000000000000031" ∷
    codes "account k00000000000000000000000000000000000000000000000000000012 stake 0 deposit 2 rewards 0 pool none drep none" ∷
    codes "output 0000000000000000000000000000000000000000000000000000000000000001#0 1k00000000000000000000000000000000000000000000000000000001 20" ∷
    codes "output 0000000000000000000000000000000000000000000000000000000000000001#1 1k00000000000000000000000000000000000000000000000000000001 20" ∷
    codes "output 0000000000000000000000000000000000000000000000000000000000000001#2 1k00000000000000000000000000000000000000000000000000000001 20" ∷
    codes "output 0000000000000000000000000000000000000000000000000000000000000001#3 1k00000000000000000000000000000000000000000000000000000001 20" ∷
    codes "output 0000000000000000000000000000000000000000000000000000000000000001#4 1k00000000000000000000000000000000000000000000000000000001 20" ∷
    codes "output 0000000000000000000000000000000000000000000000000000000000000001#5 1k00000000000000000000000000000000000000000000000000000001 20" ∷
    codes "output 0000000000000000000000000000000000000000000000000000000000000001#6 1k00000000000000000000000000000000000000000000000000000001 20" ∷
    codes "output 0000000000000000000000000000000000000000000000000000000000000001#7 1k00000000000000000000000000000000000000000000000000000001 20" ∷
    codes "output 0000000000000000000000000000000000000000000000000000000000000001#8 1k00000000000000000000000000000000000000000000000000000001 20" ∷
    codes "output 0000000000000000000000000000000000000000000000000000000000000001#9 1k00000000000000000000000000000000000000000000000000000001 20" ∷
    codes "snapshot mark 00000000000000000000000000000000000000000000000000000050 0" ∷
    codes "snapshot fees 0" ∷
    codes "pending none" ∷
    codes "pots outputs 200 deposits 21 rewards 100 fees 0 donations 0 treasury 100 reserves 579 supply 1000" ∷
    codes "used 0000000000000000000000000000000000000000000000000000000000000001" ∷
    codes "frozen treasury 100" ∷
    codes "frozen account k00000000000000000000000000000000000000000000000000000010 stake 0 deposit 2 rewards 67 pool none drep k00000000000000000000000000000000000000000000000000000030" ∷
    codes "frozen account k00000000000000000000000000000000000000000000000000000011 stake 0 deposit 2 rewards 33 pool none drep k00000000000000000000000000000000000000000000000000000031" ∷
    codes "frozen account k00000000000000000000000000000000000000000000000000000012 stake 0 deposit 2 rewards 0 pool none drep none" ∷
    codes "frozen drep k00000000000000000000000000000000000000000000000000000030 expiry 20" ∷
    codes "frozen drep k00000000000000000000000000000000000000000000000000000031 expiry 20" ∷
    codes "frozen hot k00000000000000000000000000000000000000000000000000000070 k00000000000000000000000000000000000000000000000000000071" ∷
    codes "frozen pool 00000000000000000000000000000000000000000000000000000050 account 1k00000000000000000000000000000000000000000000000000000012" ∷
    codes "end" ∷
    []) ≡ true
unfolding digits encode_with
checkpoint_of_a_genesis_alone = refl

abbrev checkpoint_counts_each_line_input : List (ℕ × Reading)
checkpoint_counts_each_line_input =
    (3, Read (records.Genesis (record { network = 1; slot = 0; epoch_length = 10; version = (10, 0); supply = 1000; reserves = 579; treasury = 100; params = base_params; document = (h32 0x01); script = None; committee = (Some (record { threshold = (share 0 1); members = (((key 0x70), 100, (Some (key 0x71))) ∷ []) })); outputs = (((ref 0x01 0), (address_with 1 (key 0x01) None), 20, []) ∷ ((ref 0x01 1), (address_with 1 (key 0x01) None), 20, []) ∷ ((ref 0x01 2), (address_with 1 (key 0x01) None), 20, []) ∷ ((ref 0x01 3), (address_with 1 (key 0x01) None), 20, []) ∷ ((ref 0x01 4), (address_with 1 (key 0x01) None), 20, []) ∷ ((ref 0x01 5), (address_with 1 (key 0x01) None), 20, []) ∷ ((ref 0x01 6), (address_with 1 (key 0x01) None), 20, []) ∷ ((ref 0x01 7), (address_with 1 (key 0x01) None), 20, []) ∷ ((ref 0x01 8), (address_with 1 (key 0x01) None), 20, []) ∷ ((ref 0x01 9), (address_with 1 (key 0x01) None), 20, []) ∷ []); accounts = (((key 0x10), 2, 67, None, (Some (drep.Registered (key 0x30)))) ∷ ((key 0x11), 2, 33, None, (Some (drep.Registered (key 0x31)))) ∷ ((key 0x12), 2, 0, None, None) ∷ []); pools = ((record { pool = (pool 0x50); deposit = 5; cost = 0; pledge = 0; margin = (share 0 1); account = (account_on 1 (key 0x12)); key = None }) ∷ []); dreps = (((key 0x30), 5, 20) ∷ ((key 0x31), 5, 20) ∷ []) }))) ∷
    (4, Read (records.Block 1 1)) ∷
    (6, Read (records.Block 1 1)) ∷
    (7, Malformed field.Json None) ∷
    (8, Read (records.Genesis (record { network = 1; slot = 0; epoch_length = 10; version = (10, 0); supply = 1000; reserves = 579; treasury = 100; params = base_params; document = (h32 0x01); script = None; committee = (Some (record { threshold = (share 0 1); members = (((key 0x70), 100, (Some (key 0x71))) ∷ []) })); outputs = (((ref 0x01 0), (address_with 1 (key 0x01) None), 20, []) ∷ ((ref 0x01 1), (address_with 1 (key 0x01) None), 20, []) ∷ ((ref 0x01 2), (address_with 1 (key 0x01) None), 20, []) ∷ ((ref 0x01 3), (address_with 1 (key 0x01) None), 20, []) ∷ ((ref 0x01 4), (address_with 1 (key 0x01) None), 20, []) ∷ ((ref 0x01 5), (address_with 1 (key 0x01) None), 20, []) ∷ ((ref 0x01 6), (address_with 1 (key 0x01) None), 20, []) ∷ ((ref 0x01 7), (address_with 1 (key 0x01) None), 20, []) ∷ ((ref 0x01 8), (address_with 1 (key 0x01) None), 20, []) ∷ ((ref 0x01 9), (address_with 1 (key 0x01) None), 20, []) ∷ []); accounts = (((key 0x10), 2, 67, None, (Some (drep.Registered (key 0x30)))) ∷ ((key 0x11), 2, 33, None, (Some (drep.Registered (key 0x31)))) ∷ ((key 0x12), 2, 0, None, None) ∷ []); pools = ((record { pool = (pool 0x50); deposit = 5; cost = 0; pledge = 0; margin = (share 0 1); account = (account_on 1 (key 0x12)); key = None }) ∷ []); dreps = (((key 0x30), 5, 20) ∷ ((key 0x31), 5, 20) ∷ []) }))) ∷
    (9, Read (records.Tx (record (spend 0x02 20) { inputs = [] }))) ∷
    (10, Read (records.Print what.Pots)) ∷
    []

pub checkpoint_counts_each_line : is_text (checkpoint_of_readings 11 checkpoint_counts_each_line_input) (
    codes "checkpoint 1 line 11 network 1 length 10 counted 1" ∷
    codes "now slot 1 epoch 0 version 10.0 dormant 0" ∷
    codes "constitution 0000000000000000000000000000000000000000000000000000000000000001 none" ∷
    codes "committee threshold 0/1" ∷
    codes "member k00000000000000000000000000000000000000000000000000000070 term 100 hot k00000000000000000000000000000000000000000000000000000071" ∷
    codes "enacted committee none constitution none hardfork none parameters none" ∷
    codes "param maxBlockBodySize 90112" ∷
    codes "param maxTxSize 16384" ∷
    codes "param maxBlockHeaderSize 1100" ∷
    codes "param maxValueSize 5000" ∷
    codes "param maxTxExUnits 1000 1000" ∷
    codes "param maxBlockExUnits 1000 1000" ∷
    codes "param maxCollateralInputs 3" ∷
    codes "param minFeeA 0" ∷
    codes "param minFeeB 0" ∷
    codes "param keyDeposit 2" ∷
    codes "param poolDeposit 5" ∷
    codes "param rho 0/1" ∷
    codes "param tau 0/1" ∷
    codes "param minPoolCost 0" ∷
    codes "param coinsPerUTxOByte 0" ∷
    codes "param prices 0/1 0/1" ∷
    codes "param minFeeRefScriptCostPerByte 15/1" ∷
    codes "param a0 0/1" ∷
    codes "param eMax 18" ∷
    codes "param nOpt 500" ∷
    codes "param costModels 0000000000000000000000000000000000000000000000000000000000000000" ∷
    codes "param collateralPercentage 150" ∷
    codes "param poolVotingThresholds 0/1 0/1 0/1 0/1 0/1" ∷
    codes "param drepVotingThresholds 67/100 67/100 67/100 67/100 67/100 67/100 67/100 67/100 67/100 67/100" ∷
    codes "param govActionLifetime 2" ∷
    codes "param govActionDeposit 10" ∷
    codes "param drepDeposit 5" ∷
    codes "param drepActivity 20" ∷
    codes "param committeeMinSize 0" ∷
    codes "param committeeMaxTermLength 100" ∷
    codes "drep k00000000000000000000000000000000000000000000000000000030 deposit 5 expiry 20" ∷
    codes "drep k00000000000000000000000000000000000000000000000000000031 deposit 5 expiry 20" ∷
    codes "pool 00000000000000000000000000000000000000000000000000000050 deposit 5 cost 0 pledge 0 margin 0/1 account 1k00000000000000000000000000000000000000000000000000000012 retires never" ∷
    codes "account k00000000000000000000000000000000000000000000000000000010 stake 0 deposit 2 rewards 67 pool none drep k00000000000000000000000000000000000000000000000000000030" ∷
    codes "account k00000000000000000000000000000000000000000000000000000011 stake 0 deposit 2 rewards 33 pool none drep k00000000000000000000000000000000000000000000000000000031" ∷
    codes "account k00000000000000000000000000000000000000000000000000000012 stake 0 deposit 2 rewards 0 pool none drep none" ∷
    codes "output 0000000000000000000000000000000000000000000000000000000000000001#0 1k00000000000000000000000000000000000000000000000000000001 20" ∷
    codes "output 0000000000000000000000000000000000000000000000000000000000000001#1 1k00000000000000000000000000000000000000000000000000000001 20" ∷
    codes "output 0000000000000000000000000000000000000000000000000000000000000001#2 1k00000000000000000000000000000000000000000000000000000001 20" ∷
    codes "output 0000000000000000000000000000000000000000000000000000000000000001#3 1k00000000000000000000000000000000000000000000000000000001 20" ∷
    codes "output 0000000000000000000000000000000000000000000000000000000000000001#4 1k00000000000000000000000000000000000000000000000000000001 20" ∷
    codes "output 0000000000000000000000000000000000000000000000000000000000000001#5 1k00000000000000000000000000000000000000000000000000000001 20" ∷
    codes "output 0000000000000000000000000000000000000000000000000000000000000001#6 1k00000000000000000000000000000000000000000000000000000001 20" ∷
    codes "output 0000000000000000000000000000000000000000000000000000000000000001#7 1k00000000000000000000000000000000000000000000000000000001 20" ∷
    codes "output 0000000000000000000000000000000000000000000000000000000000000001#8 1k00000000000000000000000000000000000000000000000000000001 20" ∷
    codes "output 0000000000000000000000000000000000000000000000000000000000000001#9 1k00000000000000000000000000000000000000000000000000000001 20" ∷
    codes "snapshot mark 00000000000000000000000000000000000000000000000000000050 0" ∷
    codes "snapshot fees 0" ∷
    codes "pending none" ∷
    codes "pots outputs 200 deposits 21 rewards 100 fees 0 donations 0 treasury 100 reserves 579 supply 1000" ∷
    codes "used 0000000000000000000000000000000000000000000000000000000000000001" ∷
    codes "frozen treasury 100" ∷
    codes "frozen account k00000000000000000000000000000000000000000000000000000010 stake 0 deposit 2 rewards 67 pool none drep k00000000000000000000000000000000000000000000000000000030" ∷
    codes "frozen account k00000000000000000000000000000000000000000000000000000011 stake 0 deposit 2 rewards 33 pool none drep k00000000000000000000000000000000000000000000000000000031" ∷
    codes "frozen account k00000000000000000000000000000000000000000000000000000012 stake 0 deposit 2 rewards 0 pool none drep none" ∷
    codes "frozen drep k00000000000000000000000000000000000000000000000000000030 expiry 20" ∷
    codes "frozen drep k00000000000000000000000000000000000000000000000000000031 expiry 20" ∷
    codes "frozen hot k00000000000000000000000000000000000000000000000000000070 k00000000000000000000000000000000000000000000000000000071" ∷
    codes "frozen pool 00000000000000000000000000000000000000000000000000000050 account 1k00000000000000000000000000000000000000000000000000000012" ∷
    codes "end" ∷
    []) ≡ true
unfolding digits encode_with
checkpoint_counts_each_line = refl

abbrev checkpoint_counted_all_input : List (ℕ × Reading)
checkpoint_counted_all_input =
    (1, Read (records.Genesis (record { network = 1; slot = 0; epoch_length = 10; version = (10, 0); supply = 1000; reserves = 579; treasury = 100; params = base_params; document = (h32 0x01); script = None; committee = (Some (record { threshold = (share 0 1); members = (((key 0x70), 100, (Some (key 0x71))) ∷ []) })); outputs = (((ref 0x01 0), (address_with 1 (key 0x01) None), 20, []) ∷ ((ref 0x01 1), (address_with 1 (key 0x01) None), 20, []) ∷ ((ref 0x01 2), (address_with 1 (key 0x01) None), 20, []) ∷ ((ref 0x01 3), (address_with 1 (key 0x01) None), 20, []) ∷ ((ref 0x01 4), (address_with 1 (key 0x01) None), 20, []) ∷ ((ref 0x01 5), (address_with 1 (key 0x01) None), 20, []) ∷ ((ref 0x01 6), (address_with 1 (key 0x01) None), 20, []) ∷ ((ref 0x01 7), (address_with 1 (key 0x01) None), 20, []) ∷ ((ref 0x01 8), (address_with 1 (key 0x01) None), 20, []) ∷ ((ref 0x01 9), (address_with 1 (key 0x01) None), 20, []) ∷ []); accounts = (((key 0x10), 2, 67, None, (Some (drep.Registered (key 0x30)))) ∷ ((key 0x11), 2, 33, None, (Some (drep.Registered (key 0x31)))) ∷ ((key 0x12), 2, 0, None, None) ∷ []); pools = ((record { pool = (pool 0x50); deposit = 5; cost = 0; pledge = 0; margin = (share 0 1); account = (account_on 1 (key 0x12)); key = None }) ∷ []); dreps = (((key 0x30), 5, 20) ∷ ((key 0x31), 5, 20) ∷ []) }))) ∷
    (2, Read (records.Block 1 1)) ∷
    (3, Read (records.Block 2 4294967295)) ∷
    (4, Read (records.Tx (record (spend 0x02 20) { outputs = ((paying (address_with 1 (key 0x01) (Some (key 0x13))) 0 0) ∷ (paying (address_with 1 (key 0x01) (Some (script 0x13))) 0 0) ∷ []) }))) ∷
    []

pub checkpoint_counted_all : is_text (checkpoint_of_readings 4 checkpoint_counted_all_input) (
    codes "checkpoint 1 line 4 network 1 length 10 counted 3" ∷
    codes "now slot 2 epoch 0 version 10.0 dormant 0" ∷
    codes "constitution 0000000000000000000000000000000000000000000000000000000000000001 none" ∷
    codes "committee threshold 0/1" ∷
    codes "member k00000000000000000000000000000000000000000000000000000070 term 100 hot k00000000000000000000000000000000000000000000000000000071" ∷
    codes "enacted committee none constitution none hardfork none parameters none" ∷
    codes "param maxBlockBodySize 90112" ∷
    codes "param maxTxSize 16384" ∷
    codes "param maxBlockHeaderSize 1100" ∷
    codes "param maxValueSize 5000" ∷
    codes "param maxTxExUnits 1000 1000" ∷
    codes "param maxBlockExUnits 1000 1000" ∷
    codes "param maxCollateralInputs 3" ∷
    codes "param minFeeA 0" ∷
    codes "param minFeeB 0" ∷
    codes "param keyDeposit 2" ∷
    codes "param poolDeposit 5" ∷
    codes "param rho 0/1" ∷
    codes "param tau 0/1" ∷
    codes "param minPoolCost 0" ∷
    codes "param coinsPerUTxOByte 0" ∷
    codes "param prices 0/1 0/1" ∷
    codes "param minFeeRefScriptCostPerByte 15/1" ∷
    codes "param a0 0/1" ∷
    codes "param eMax 18" ∷
    codes "param nOpt 500" ∷
    codes "param costModels 0000000000000000000000000000000000000000000000000000000000000000" ∷
    codes "param collateralPercentage 150" ∷
    codes "param poolVotingThresholds 0/1 0/1 0/1 0/1 0/1" ∷
    codes "param drepVotingThresholds 67/100 67/100 67/100 67/100 67/100 67/100 67/100 67/100 67/100 67/100" ∷
    codes "param govActionLifetime 2" ∷
    codes "param govActionDeposit 10" ∷
    codes "param drepDeposit 5" ∷
    codes "param drepActivity 20" ∷
    codes "param committeeMinSize 0" ∷
    codes "param committeeMaxTermLength 100" ∷
    codes "drep k00000000000000000000000000000000000000000000000000000030 deposit 5 expiry 20" ∷
    codes "drep k00000000000000000000000000000000000000000000000000000031 deposit 5 expiry 20" ∷
    codes "pool 00000000000000000000000000000000000000000000000000000050 deposit 5 cost 0 pledge 0 margin 0/1 account 1k00000000000000000000000000000000000000000000000000000012 retires never" ∷
    codes "account k00000000000000000000000000000000000000000000000000000010 stake 0 deposit 2 rewards 67 pool none drep k00000000000000000000000000000000000000000000000000000030" ∷
    codes "account k00000000000000000000000000000000000000000000000000000011 stake 0 deposit 2 rewards 33 pool none drep k00000000000000000000000000000000000000000000000000000031" ∷
    codes "account k00000000000000000000000000000000000000000000000000000012 stake 0 deposit 2 rewards 0 pool none drep none" ∷
    codes "output 0000000000000000000000000000000000000000000000000000000000000001#0 1k00000000000000000000000000000000000000000000000000000001 20" ∷
    codes "output 0000000000000000000000000000000000000000000000000000000000000001#1 1k00000000000000000000000000000000000000000000000000000001 20" ∷
    codes "output 0000000000000000000000000000000000000000000000000000000000000001#3 1k00000000000000000000000000000000000000000000000000000001 20" ∷
    codes "output 0000000000000000000000000000000000000000000000000000000000000001#4 1k00000000000000000000000000000000000000000000000000000001 20" ∷
    codes "output 0000000000000000000000000000000000000000000000000000000000000001#5 1k00000000000000000000000000000000000000000000000000000001 20" ∷
    codes "output 0000000000000000000000000000000000000000000000000000000000000001#6 1k00000000000000000000000000000000000000000000000000000001 20" ∷
    codes "output 0000000000000000000000000000000000000000000000000000000000000001#7 1k00000000000000000000000000000000000000000000000000000001 20" ∷
    codes "output 0000000000000000000000000000000000000000000000000000000000000001#8 1k00000000000000000000000000000000000000000000000000000001 20" ∷
    codes "output 0000000000000000000000000000000000000000000000000000000000000001#9 1k00000000000000000000000000000000000000000000000000000001 20" ∷
    codes "output 0000000000000000000000000000000000000000000000000000000000000002#0 1k00000000000000000000000000000000000000000000000000000001+k00000000000000000000000000000000000000000000000000000013 0" ∷
    codes "output 0000000000000000000000000000000000000000000000000000000000000002#1 1k00000000000000000000000000000000000000000000000000000001+s00000000000000000000000000000000000000000000000000000013 0" ∷
    codes "snapshot mark 00000000000000000000000000000000000000000000000000000050 0" ∷
    codes "snapshot fees 0" ∷
    codes "pending none" ∷
    codes "pots outputs 180 deposits 21 rewards 100 fees 20 donations 0 treasury 100 reserves 579 supply 1000" ∷
    codes "used 0000000000000000000000000000000000000000000000000000000000000001" ∷
    codes "used 0000000000000000000000000000000000000000000000000000000000000002" ∷
    codes "frozen treasury 100" ∷
    codes "frozen account k00000000000000000000000000000000000000000000000000000010 stake 0 deposit 2 rewards 67 pool none drep k00000000000000000000000000000000000000000000000000000030" ∷
    codes "frozen account k00000000000000000000000000000000000000000000000000000011 stake 0 deposit 2 rewards 33 pool none drep k00000000000000000000000000000000000000000000000000000031" ∷
    codes "frozen account k00000000000000000000000000000000000000000000000000000012 stake 0 deposit 2 rewards 0 pool none drep none" ∷
    codes "frozen drep k00000000000000000000000000000000000000000000000000000030 expiry 20" ∷
    codes "frozen drep k00000000000000000000000000000000000000000000000000000031 expiry 20" ∷
    codes "frozen hot k00000000000000000000000000000000000000000000000000000070 k00000000000000000000000000000000000000000000000000000071" ∷
    codes "frozen pool 00000000000000000000000000000000000000000000000000000050 account 1k00000000000000000000000000000000000000000000000000000012" ∷
    codes "end" ∷
    []) ≡ true
unfolding digits encode_with
checkpoint_counted_all = refl

abbrev checkpoint_right_after_a_boundary_input : List (ℕ × Reading)
checkpoint_right_after_a_boundary_input =
    (1, Read (records.Genesis (record { network = 1; slot = 0; epoch_length = 10; version = (10, 0); supply = 1000; reserves = 579; treasury = 100; params = base_params; document = (h32 0x01); script = None; committee = (Some (record { threshold = (share 0 1); members = (((key 0x70), 100, (Some (key 0x71))) ∷ []) })); outputs = (((ref 0x01 0), (address_with 1 (key 0x01) None), 20, []) ∷ ((ref 0x01 1), (address_with 1 (key 0x01) None), 20, []) ∷ ((ref 0x01 2), (address_with 1 (key 0x01) None), 20, []) ∷ ((ref 0x01 3), (address_with 1 (key 0x01) None), 20, []) ∷ ((ref 0x01 4), (address_with 1 (key 0x01) None), 20, []) ∷ ((ref 0x01 5), (address_with 1 (key 0x01) None), 20, []) ∷ ((ref 0x01 6), (address_with 1 (key 0x01) None), 20, []) ∷ ((ref 0x01 7), (address_with 1 (key 0x01) None), 20, []) ∷ ((ref 0x01 8), (address_with 1 (key 0x01) None), 20, []) ∷ ((ref 0x01 9), (address_with 1 (key 0x01) None), 20, []) ∷ []); accounts = (((key 0x10), 2, 67, None, (Some (drep.Registered (key 0x30)))) ∷ ((key 0x11), 2, 33, None, (Some (drep.Registered (key 0x31)))) ∷ ((key 0x12), 2, 0, None, None) ∷ []); pools = ((record { pool = (pool 0x50); deposit = 5; cost = 0; pledge = 0; margin = (share 0 1); account = (account_on 1 (key 0x12)); key = None }) ∷ []); dreps = (((key 0x30), 5, 20) ∷ ((key 0x31), 5, 20) ∷ []) }))) ∷
    (2, Read (records.Tx (record (spend 0x02 10) { proposals = ((proposing 10 (account_on 1 (key 0x12)) (actions.NoConfidence None)) ∷ []) }))) ∷
    (3, Read (records.Tx (record (spend 0x03 20) { votes = ((voting (voter.Drep (key 0x30)) (action 0x02 0) vote.Yes) ∷ (voting (voter.Pool (pool 0x50)) (action 0x02 0) vote.No) ∷ []) }))) ∷
    (4, Read (records.Block 9 9)) ∷
    (5, Read (records.Block 10 1)) ∷
    []

pub checkpoint_right_after_a_boundary : is_text (checkpoint_of_readings 5 checkpoint_right_after_a_boundary_input) (
    codes "checkpoint 1 line 5 network 1 length 10 counted 1" ∷
    codes "now slot 10 epoch 1 version 10.0 dormant 0" ∷
    codes "constitution 0000000000000000000000000000000000000000000000000000000000000001 none" ∷
    codes "committee threshold 0/1" ∷
    codes "member k00000000000000000000000000000000000000000000000000000070 term 100 hot k00000000000000000000000000000000000000000000000000000071" ∷
    codes "enacted committee none constitution none hardfork none parameters none" ∷
    codes "param maxBlockBodySize 90112" ∷
    codes "param maxTxSize 16384" ∷
    codes "param maxBlockHeaderSize 1100" ∷
    codes "param maxValueSize 5000" ∷
    codes "param maxTxExUnits 1000 1000" ∷
    codes "param maxBlockExUnits 1000 1000" ∷
    codes "param maxCollateralInputs 3" ∷
    codes "param minFeeA 0" ∷
    codes "param minFeeB 0" ∷
    codes "param keyDeposit 2" ∷
    codes "param poolDeposit 5" ∷
    codes "param rho 0/1" ∷
    codes "param tau 0/1" ∷
    codes "param minPoolCost 0" ∷
    codes "param coinsPerUTxOByte 0" ∷
    codes "param prices 0/1 0/1" ∷
    codes "param minFeeRefScriptCostPerByte 15/1" ∷
    codes "param a0 0/1" ∷
    codes "param eMax 18" ∷
    codes "param nOpt 500" ∷
    codes "param costModels 0000000000000000000000000000000000000000000000000000000000000000" ∷
    codes "param collateralPercentage 150" ∷
    codes "param poolVotingThresholds 0/1 0/1 0/1 0/1 0/1" ∷
    codes "param drepVotingThresholds 67/100 67/100 67/100 67/100 67/100 67/100 67/100 67/100 67/100 67/100" ∷
    codes "param govActionLifetime 2" ∷
    codes "param govActionDeposit 10" ∷
    codes "param drepDeposit 5" ∷
    codes "param drepActivity 20" ∷
    codes "param committeeMinSize 0" ∷
    codes "param committeeMaxTermLength 100" ∷
    codes "drep k00000000000000000000000000000000000000000000000000000030 deposit 5 expiry 20" ∷
    codes "drep k00000000000000000000000000000000000000000000000000000031 deposit 5 expiry 20" ∷
    codes "pool 00000000000000000000000000000000000000000000000000000050 deposit 5 cost 0 pledge 0 margin 0/1 account 1k00000000000000000000000000000000000000000000000000000012 retires never" ∷
    codes "account k00000000000000000000000000000000000000000000000000000010 stake 0 deposit 2 rewards 67 pool none drep k00000000000000000000000000000000000000000000000000000030" ∷
    codes "account k00000000000000000000000000000000000000000000000000000011 stake 0 deposit 2 rewards 33 pool none drep k00000000000000000000000000000000000000000000000000000031" ∷
    codes "account k00000000000000000000000000000000000000000000000000000012 stake 0 deposit 2 rewards 0 pool none drep none" ∷
    codes "output 0000000000000000000000000000000000000000000000000000000000000001#0 1k00000000000000000000000000000000000000000000000000000001 20" ∷
    codes "output 0000000000000000000000000000000000000000000000000000000000000001#1 1k00000000000000000000000000000000000000000000000000000001 20" ∷
    codes "output 0000000000000000000000000000000000000000000000000000000000000001#4 1k00000000000000000000000000000000000000000000000000000001 20" ∷
    codes "output 0000000000000000000000000000000000000000000000000000000000000001#5 1k00000000000000000000000000000000000000000000000000000001 20" ∷
    codes "output 0000000000000000000000000000000000000000000000000000000000000001#6 1k00000000000000000000000000000000000000000000000000000001 20" ∷
    codes "output 0000000000000000000000000000000000000000000000000000000000000001#7 1k00000000000000000000000000000000000000000000000000000001 20" ∷
    codes "output 0000000000000000000000000000000000000000000000000000000000000001#8 1k00000000000000000000000000000000000000000000000000000001 20" ∷
    codes "output 0000000000000000000000000000000000000000000000000000000000000001#9 1k00000000000000000000000000000000000000000000000000000001 20" ∷
    codes "proposal 0000000000000000000000000000000000000000000000000000000000000002#0 NoConfidence deposit 10 return 1k00000000000000000000000000000000000000000000000000000012 expires 2 previous none" ∷
    codes "vote 0000000000000000000000000000000000000000000000000000000000000002#0 drep:k00000000000000000000000000000000000000000000000000000030 yes" ∷
    codes "vote 0000000000000000000000000000000000000000000000000000000000000002#0 pool:00000000000000000000000000000000000000000000000000000050 no" ∷
    codes "snapshot mark 00000000000000000000000000000000000000000000000000000050 0" ∷
    codes "snapshot set 00000000000000000000000000000000000000000000000000000050 0" ∷
    codes "snapshot fees 30" ∷
    codes "pending none" ∷
    codes "pots outputs 160 deposits 31 rewards 100 fees 30 donations 0 treasury 100 reserves 579 supply 1000" ∷
    codes "used 0000000000000000000000000000000000000000000000000000000000000001" ∷
    codes "used 0000000000000000000000000000000000000000000000000000000000000002" ∷
    codes "used 0000000000000000000000000000000000000000000000000000000000000003" ∷
    codes "action 0000000000000000000000000000000000000000000000000000000000000002#0 {\"type\":\"NoConfidence\"}" ∷
    codes "frozen treasury 100" ∷
    codes "frozen account k00000000000000000000000000000000000000000000000000000010 stake 0 deposit 2 rewards 67 pool none drep k00000000000000000000000000000000000000000000000000000030" ∷
    codes "frozen account k00000000000000000000000000000000000000000000000000000011 stake 0 deposit 2 rewards 33 pool none drep k00000000000000000000000000000000000000000000000000000031" ∷
    codes "frozen account k00000000000000000000000000000000000000000000000000000012 stake 0 deposit 2 rewards 0 pool none drep none" ∷
    codes "frozen drep k00000000000000000000000000000000000000000000000000000030 expiry 20" ∷
    codes "frozen drep k00000000000000000000000000000000000000000000000000000031 expiry 20" ∷
    codes "frozen hot k00000000000000000000000000000000000000000000000000000070 k00000000000000000000000000000000000000000000000000000071" ∷
    codes "frozen pool 00000000000000000000000000000000000000000000000000000050 account 1k00000000000000000000000000000000000000000000000000000012" ∷
    codes "frozen proposal 0000000000000000000000000000000000000000000000000000000000000002#0" ∷
    codes "frozen vote 0000000000000000000000000000000000000000000000000000000000000002#0 drep:k00000000000000000000000000000000000000000000000000000030 yes" ∷
    codes "frozen vote 0000000000000000000000000000000000000000000000000000000000000002#0 pool:00000000000000000000000000000000000000000000000000000050 no" ∷
    codes "end" ∷
    []) ≡ true
unfolding digits encode_with
checkpoint_right_after_a_boundary = refl

abbrev checkpoint_of_an_empty_ledger_input : List (ℕ × Reading)
checkpoint_of_an_empty_ledger_input =
    (1, Read (records.Genesis (record { network = 0; slot = 8589934591; epoch_length = 4294967295; version = (10, 0); supply = 7; reserves = 0; treasury = 7; params = base_params; document = (h32 0x01); script = None; committee = None; outputs = []; accounts = []; pools = []; dreps = [] }))) ∷
    (2, Read (records.Block 8589934592 1)) ∷
    (3, Read (records.Block 12884901885 5)) ∷
    []

pub checkpoint_of_an_empty_ledger : is_text (checkpoint_of_readings 3 checkpoint_of_an_empty_ledger_input) (
    codes "checkpoint 1 line 3 network 0 length 4294967295 counted 0" ∷
    codes "now slot 12884901885 epoch 3 version 10.0 dormant 1" ∷
    codes "constitution 0000000000000000000000000000000000000000000000000000000000000001 none" ∷
    codes "committee none" ∷
    codes "enacted committee none constitution none hardfork none parameters none" ∷
    codes "param maxBlockBodySize 90112" ∷
    codes "param maxTxSize 16384" ∷
    codes "param maxBlockHeaderSize 1100" ∷
    codes "param maxValueSize 5000" ∷
    codes "param maxTxExUnits 1000 1000" ∷
    codes "param maxBlockExUnits 1000 1000" ∷
    codes "param maxCollateralInputs 3" ∷
    codes "param minFeeA 0" ∷
    codes "param minFeeB 0" ∷
    codes "param keyDeposit 2" ∷
    codes "param poolDeposit 5" ∷
    codes "param rho 0/1" ∷
    codes "param tau 0/1" ∷
    codes "param minPoolCost 0" ∷
    codes "param coinsPerUTxOByte 0" ∷
    codes "param prices 0/1 0/1" ∷
    codes "param minFeeRefScriptCostPerByte 15/1" ∷
    codes "param a0 0/1" ∷
    codes "param eMax 18" ∷
    codes "param nOpt 500" ∷
    codes "param costModels 0000000000000000000000000000000000000000000000000000000000000000" ∷
    codes "param collateralPercentage 150" ∷
    codes "param poolVotingThresholds 0/1 0/1 0/1 0/1 0/1" ∷
    codes "param drepVotingThresholds 67/100 67/100 67/100 67/100 67/100 67/100 67/100 67/100 67/100 67/100" ∷
    codes "param govActionLifetime 2" ∷
    codes "param govActionDeposit 10" ∷
    codes "param drepDeposit 5" ∷
    codes "param drepActivity 20" ∷
    codes "param committeeMinSize 0" ∷
    codes "param committeeMaxTermLength 100" ∷
    codes "snapshot fees 0" ∷
    codes "pending none" ∷
    codes "pots outputs 0 deposits 0 rewards 0 fees 0 donations 0 treasury 7 reserves 0 supply 7" ∷
    codes "frozen treasury 7" ∷
    codes "end" ∷
    []) ≡ true
unfolding digits encode_with
checkpoint_of_an_empty_ledger = refl

abbrev checkpoint_lists_in_order_input : List (ℕ × Reading)
checkpoint_lists_in_order_input =
    (1, Read (records.Genesis (record { network = 1; slot = 0; epoch_length = 10; version = (10, 0); supply = 1000; reserves = 653; treasury = 100; params = base_params; document = (h32 0x01); script = None; committee = (Some (record { threshold = (share 0 1); members = (((script 0x70), 100, (Some (key 0x71))) ∷ ((key 0x70), 100, (Some (script 0x71))) ∷ ((record { hash = 0xAA ∷ 0xAA ∷ 0xAA ∷ 0xAA ∷ 0xAA ∷ 0xAA ∷ 0xAA ∷ 0xAA ∷ 0xAA ∷ 0xAA ∷ 0xAA ∷ 0xAA ∷ 0xAA ∷ 0xAA ∷ 0xAA ∷ 0xAA ∷ 0xAA ∷ 0xAA ∷ 0xAA ∷ 0xAA ∷ 0xAA ∷ 0xAA ∷ 0xAA ∷ 0xAA ∷ 0xAA ∷ 0xAA ∷ 0xAA ∷ 0xAA ∷ []; kind = Key }), 100, (Some (record { hash = 0xBB ∷ 0xBB ∷ 0xBB ∷ 0xBB ∷ 0xBB ∷ 0xBB ∷ 0xBB ∷ 0xBB ∷ 0xBB ∷ 0xBB ∷ 0xBB ∷ 0xBB ∷ 0xBB ∷ 0xBB ∷ 0xBB ∷ 0xBB ∷ 0xBB ∷ 0xBB ∷ 0xBB ∷ 0xBB ∷ 0xBB ∷ 0xBB ∷ 0xBB ∷ 0xBB ∷ 0xBB ∷ 0xBB ∷ 0xBB ∷ 0xBB ∷ []; kind = Key }))) ∷ []) })); outputs = (((ref 0x01 2), (address_with 1 (key 0x01) None), 20, []) ∷ ((ref 0x01 10), (address_with 1 (key 0x01) None), 20, []) ∷ ((ref 0x01 9), (address_with 1 (key 0x01) None), 20, []) ∷ ((ref 0x01 3), (address_with 1 (key 0x01) None), 20, []) ∷ ((record { tx = (record { 0 = 0xff ∷ 0xff ∷ 0xff ∷ 0xff ∷ 0xff ∷ 0xff ∷ 0xff ∷ 0xff ∷ 0xff ∷ 0xff ∷ 0xff ∷ 0xff ∷ 0xff ∷ 0xff ∷ 0xff ∷ 0xff ∷ 0xff ∷ 0xff ∷ 0xff ∷ 0xff ∷ 0xff ∷ 0xff ∷ 0xff ∷ 0xff ∷ 0xff ∷ 0xff ∷ 0xff ∷ 0xff ∷ 0xff ∷ 0xff ∷ 0xff ∷ 0xff ∷ [] }); index = 0 }), (address_with 1 (key 0x01) (Some (script 0x10))), 20, []) ∷ ((record { tx = (record { 0 = 0x0F ∷ 0x0F ∷ 0x0F ∷ 0x0F ∷ 0x0F ∷ 0x0F ∷ 0x0F ∷ 0x0F ∷ 0x0F ∷ 0x0F ∷ 0x0F ∷ 0x0F ∷ 0x0F ∷ 0x0F ∷ 0x0F ∷ 0x0F ∷ 0x0F ∷ 0x0F ∷ 0x0F ∷ 0x0F ∷ 0x0F ∷ 0x0F ∷ 0x0F ∷ 0x0F ∷ 0x0F ∷ 0x0F ∷ 0x0F ∷ 0x0F ∷ 0x0F ∷ 0x0F ∷ 0x0F ∷ 0x0F ∷ [] }); index = 65535 }), (address_with 1 (record { hash = 0xFe ∷ 0xFe ∷ 0xFe ∷ 0xFe ∷ 0xFe ∷ 0xFe ∷ 0xFe ∷ 0xFe ∷ 0xFe ∷ 0xFe ∷ 0xFe ∷ 0xFe ∷ 0xFe ∷ 0xFe ∷ 0xFe ∷ 0xFe ∷ 0xFe ∷ 0xFe ∷ 0xFe ∷ 0xFe ∷ 0xFe ∷ 0xFe ∷ 0xFe ∷ 0xFe ∷ 0xFe ∷ 0xFe ∷ 0xFe ∷ 0xFe ∷ []; kind = Key }) (Some (key 0x10))), 1, []) ∷ []); accounts = (((script 0x10), 2, 5, None, None) ∷ ((key 0x10), 2, 67, None, (Some (drep.Registered (key 0x30)))) ∷ ((record { hash = 0xfE ∷ 0xfE ∷ 0xfE ∷ 0xfE ∷ 0xfE ∷ 0xfE ∷ 0xfE ∷ 0xfE ∷ 0xfE ∷ 0xfE ∷ 0xfE ∷ 0xfE ∷ 0xfE ∷ 0xfE ∷ 0xfE ∷ 0xfE ∷ 0xfE ∷ 0xfE ∷ 0xfE ∷ 0xfE ∷ 0xfE ∷ 0xfE ∷ 0xfE ∷ 0xfE ∷ 0xfE ∷ 0xfE ∷ 0xfE ∷ 0xfE ∷ []; kind = Key }), 2, 3, (Some (record { 0 = 0xC0 ∷ 0xC0 ∷ 0xC0 ∷ 0xC0 ∷ 0xC0 ∷ 0xC0 ∷ 0xC0 ∷ 0xC0 ∷ 0xC0 ∷ 0xC0 ∷ 0xC0 ∷ 0xC0 ∷ 0xC0 ∷ 0xC0 ∷ 0xC0 ∷ 0xC0 ∷ 0xC0 ∷ 0xC0 ∷ 0xC0 ∷ 0xC0 ∷ 0xC0 ∷ 0xC0 ∷ 0xC0 ∷ 0xC0 ∷ 0xC0 ∷ 0xC0 ∷ 0xC0 ∷ 0xC0 ∷ [] })), (Some (drep.Registered (script 0x30)))) ∷ ((key 0x11), 2, 33, None, (Some (drep.Registered (key 0x31)))) ∷ []); pools = ((record { pool = (record { 0 = 0xc0 ∷ 0xc0 ∷ 0xc0 ∷ 0xc0 ∷ 0xc0 ∷ 0xc0 ∷ 0xc0 ∷ 0xc0 ∷ 0xc0 ∷ 0xc0 ∷ 0xc0 ∷ 0xc0 ∷ 0xc0 ∷ 0xc0 ∷ 0xc0 ∷ 0xc0 ∷ 0xc0 ∷ 0xc0 ∷ 0xc0 ∷ 0xc0 ∷ 0xc0 ∷ 0xc0 ∷ 0xc0 ∷ 0xc0 ∷ 0xc0 ∷ 0xc0 ∷ 0xc0 ∷ 0xc0 ∷ [] }); deposit = 5; cost = 0; pledge = 0; margin = (share 0 1); account = (account_on 1 (key 0x10)); key = None }) ∷ (record { pool = (pool 0x50); deposit = 5; cost = 0; pledge = 0; margin = (share 0 1); account = (account_on 1 (key 0x11)); key = None }) ∷ []); dreps = (((script 0x30), 5, 20) ∷ ((key 0x31), 5, 20) ∷ ((key 0x30), 5, 20) ∷ ((record { hash = 0x0A ∷ 0x0A ∷ 0x0A ∷ 0x0A ∷ 0x0A ∷ 0x0A ∷ 0x0A ∷ 0x0A ∷ 0x0A ∷ 0x0A ∷ 0x0A ∷ 0x0A ∷ 0x0A ∷ 0x0A ∷ 0x0A ∷ 0x0A ∷ 0x0A ∷ 0x0A ∷ 0x0A ∷ 0x0A ∷ 0x0A ∷ 0x0A ∷ 0x0A ∷ 0x0A ∷ 0x0A ∷ 0x0A ∷ 0x0A ∷ 0x0A ∷ []; kind = Key }), 5, 20) ∷ []) }))) ∷
    (2, Read (records.Tx (record (spend 0x20 10) { inputs = ((ref 0x01 2) ∷ []); proposals = ((proposing 10 (account_on 1 (script 0x10)) (actions.Info)) ∷ []) }))) ∷
    (3, Read (records.Tx (record (spend 0x02 0) { inputs = ((ref 0x01 10) ∷ []); proposals = ((proposing 10 (account_on 1 (script 0x10)) (actions.NoConfidence None)) ∷ (proposing 10 (account_on 1 (key 0x10)) (actions.Info)) ∷ []) }))) ∷
    (4, Read (records.Tx (record (spend 0x03 20) { votes = ((voting (voter.Pool (pool 0x50)) (action 0x02 1) vote.Yes) ∷ (voting (voter.Drep (script 0x30)) (action 0x02 1) vote.Yes) ∷ (voting (voter.Drep (key 0x30)) (action 0x02 1) vote.No) ∷ (voting (voter.Committee (key 0x71)) (action 0x02 1) vote.Yes) ∷ (voting (voter.Committee (script 0x71)) (action 0x02 1) vote.Abstain) ∷ (voting (voter.Committee (record { hash = 0xbB ∷ 0xbB ∷ 0xbB ∷ 0xbB ∷ 0xbB ∷ 0xbB ∷ 0xbB ∷ 0xbB ∷ 0xbB ∷ 0xbB ∷ 0xbB ∷ 0xbB ∷ 0xbB ∷ 0xbB ∷ 0xbB ∷ 0xbB ∷ 0xbB ∷ 0xbB ∷ 0xbB ∷ 0xbB ∷ 0xbB ∷ 0xbB ∷ 0xbB ∷ 0xbB ∷ 0xbB ∷ 0xbB ∷ 0xbB ∷ 0xbB ∷ []; kind = Key })) (action 0x02 1) vote.Yes) ∷ (voting (voter.Pool (record { 0 = 0xC0 ∷ 0xC0 ∷ 0xC0 ∷ 0xC0 ∷ 0xC0 ∷ 0xC0 ∷ 0xC0 ∷ 0xC0 ∷ 0xC0 ∷ 0xC0 ∷ 0xC0 ∷ 0xC0 ∷ 0xC0 ∷ 0xC0 ∷ 0xC0 ∷ 0xC0 ∷ 0xC0 ∷ 0xC0 ∷ 0xC0 ∷ 0xC0 ∷ 0xC0 ∷ 0xC0 ∷ 0xC0 ∷ 0xC0 ∷ 0xC0 ∷ 0xC0 ∷ 0xC0 ∷ 0xC0 ∷ [] })) (action 0x02 1) vote.Yes) ∷ (voting (voter.Drep (record { hash = 0x0a ∷ 0x0a ∷ 0x0a ∷ 0x0a ∷ 0x0a ∷ 0x0a ∷ 0x0a ∷ 0x0a ∷ 0x0a ∷ 0x0a ∷ 0x0a ∷ 0x0a ∷ 0x0a ∷ 0x0a ∷ 0x0a ∷ 0x0a ∷ 0x0a ∷ 0x0a ∷ 0x0a ∷ 0x0a ∷ 0x0a ∷ 0x0a ∷ 0x0a ∷ 0x0a ∷ 0x0a ∷ 0x0a ∷ 0x0a ∷ 0x0a ∷ []; kind = Key })) (action 0x02 0) vote.Yes) ∷ []) }))) ∷
    (5, Read (records.Rewards (record { epoch = 0; from_reserves = 6; from_fees = 0; to_treasury = 0; rewards = (((record { hash = 0xFE ∷ 0xFE ∷ 0xFE ∷ 0xFE ∷ 0xFE ∷ 0xFE ∷ 0xFE ∷ 0xFE ∷ 0xFE ∷ 0xFE ∷ 0xFE ∷ 0xFE ∷ 0xFE ∷ 0xFE ∷ 0xFE ∷ 0xFE ∷ 0xFE ∷ 0xFE ∷ 0xFE ∷ 0xFE ∷ 0xFE ∷ 0xFE ∷ 0xFE ∷ 0xFE ∷ 0xFE ∷ 0xFE ∷ 0xFE ∷ 0xFE ∷ []; kind = Key }), 1) ∷ ((script 0x10), 2) ∷ ((key 0x10), 3) ∷ []) }))) ∷
    (6, Read (records.Block 1 1)) ∷
    (7, Read (records.Block 10 2)) ∷
    (8, Read (records.Tx (record (spend 0x09 20) { votes = ((voting (voter.Pool (pool 0x50)) (action 0x02 0) vote.Yes) ∷ (voting (voter.Drep (script 0x30)) (action 0x02 0) vote.Yes) ∷ []) }))) ∷
    []

pub checkpoint_lists_in_order : is_text (checkpoint_of_readings 8 checkpoint_lists_in_order_input) (
    codes "checkpoint 1 line 8 network 1 length 10 counted 2" ∷
    codes "now slot 10 epoch 1 version 10.0 dormant 0" ∷
    codes "constitution 0000000000000000000000000000000000000000000000000000000000000001 none" ∷
    codes "committee threshold 0/1" ∷
    codes "member k00000000000000000000000000000000000000000000000000000070 term 100 hot s00000000000000000000000000000000000000000000000000000071" ∷
    codes "member s00000000000000000000000000000000000000000000000000000070 term 100 hot k00000000000000000000000000000000000000000000000000000071" ∷
    codes "member kaaaaaaaaaaaaaaaaaaaaaaaaaaaaaaaaaaaaaaaaaaaaaaaaaaaaaaaa term 100 hot kbbbbbbbbbbbbbbbbbbbbbbbbbbbbbbbbbbbbbbbbbbbbbbbbbbbbbbbb" ∷
    codes "enacted committee none constitution none hardfork none parameters none" ∷
    codes "param maxBlockBodySize 90112" ∷
    codes "param maxTxSize 16384" ∷
    codes "param maxBlockHeaderSize 1100" ∷
    codes "param maxValueSize 5000" ∷
    codes "param maxTxExUnits 1000 1000" ∷
    codes "param maxBlockExUnits 1000 1000" ∷
    codes "param maxCollateralInputs 3" ∷
    codes "param minFeeA 0" ∷
    codes "param minFeeB 0" ∷
    codes "param keyDeposit 2" ∷
    codes "param poolDeposit 5" ∷
    codes "param rho 0/1" ∷
    codes "param tau 0/1" ∷
    codes "param minPoolCost 0" ∷
    codes "param coinsPerUTxOByte 0" ∷
    codes "param prices 0/1 0/1" ∷
    codes "param minFeeRefScriptCostPerByte 15/1" ∷
    codes "param a0 0/1" ∷
    codes "param eMax 18" ∷
    codes "param nOpt 500" ∷
    codes "param costModels 0000000000000000000000000000000000000000000000000000000000000000" ∷
    codes "param collateralPercentage 150" ∷
    codes "param poolVotingThresholds 0/1 0/1 0/1 0/1 0/1" ∷
    codes "param drepVotingThresholds 67/100 67/100 67/100 67/100 67/100 67/100 67/100 67/100 67/100 67/100" ∷
    codes "param govActionLifetime 2" ∷
    codes "param govActionDeposit 10" ∷
    codes "param drepDeposit 5" ∷
    codes "param drepActivity 20" ∷
    codes "param committeeMinSize 0" ∷
    codes "param committeeMaxTermLength 100" ∷
    codes "drep k00000000000000000000000000000000000000000000000000000030 deposit 5 expiry 20" ∷
    codes "drep s00000000000000000000000000000000000000000000000000000030 deposit 5 expiry 21" ∷
    codes "drep k00000000000000000000000000000000000000000000000000000031 deposit 5 expiry 20" ∷
    codes "drep k0a0a0a0a0a0a0a0a0a0a0a0a0a0a0a0a0a0a0a0a0a0a0a0a0a0a0a0a deposit 5 expiry 20" ∷
    codes "pool 00000000000000000000000000000000000000000000000000000050 deposit 5 cost 0 pledge 0 margin 0/1 account 1k00000000000000000000000000000000000000000000000000000011 retires never" ∷
    codes "pool c0c0c0c0c0c0c0c0c0c0c0c0c0c0c0c0c0c0c0c0c0c0c0c0c0c0c0c0 deposit 5 cost 0 pledge 0 margin 0/1 account 1k00000000000000000000000000000000000000000000000000000010 retires never" ∷
    codes "account k00000000000000000000000000000000000000000000000000000010 stake 1 deposit 2 rewards 70 pool none drep k00000000000000000000000000000000000000000000000000000030" ∷
    codes "account s00000000000000000000000000000000000000000000000000000010 stake 20 deposit 2 rewards 7 pool none drep none" ∷
    codes "account k00000000000000000000000000000000000000000000000000000011 stake 0 deposit 2 rewards 33 pool none drep k00000000000000000000000000000000000000000000000000000031" ∷
    codes "account kfefefefefefefefefefefefefefefefefefefefefefefefefefefefe stake 0 deposit 2 rewards 4 pool c0c0c0c0c0c0c0c0c0c0c0c0c0c0c0c0c0c0c0c0c0c0c0c0c0c0c0c0 drep s00000000000000000000000000000000000000000000000000000030" ∷
    codes "output 0f0f0f0f0f0f0f0f0f0f0f0f0f0f0f0f0f0f0f0f0f0f0f0f0f0f0f0f0f0f0f0f#65535 1kfefefefefefefefefefefefefefefefefefefefefefefefefefefefe+k00000000000000000000000000000000000000000000000000000010 1" ∷
    codes "output ffffffffffffffffffffffffffffffffffffffffffffffffffffffffffffffff#0 1k00000000000000000000000000000000000000000000000000000001+s00000000000000000000000000000000000000000000000000000010 20" ∷
    codes "proposal 0000000000000000000000000000000000000000000000000000000000000020#0 Info deposit 10 return 1s00000000000000000000000000000000000000000000000000000010 expires 2 previous none" ∷
    codes "proposal 0000000000000000000000000000000000000000000000000000000000000002#0 NoConfidence deposit 10 return 1s00000000000000000000000000000000000000000000000000000010 expires 2 previous none" ∷
    codes "vote 0000000000000000000000000000000000000000000000000000000000000002#0 drep:s00000000000000000000000000000000000000000000000000000030 yes" ∷
    codes "vote 0000000000000000000000000000000000000000000000000000000000000002#0 drep:k0a0a0a0a0a0a0a0a0a0a0a0a0a0a0a0a0a0a0a0a0a0a0a0a0a0a0a0a yes" ∷
    codes "vote 0000000000000000000000000000000000000000000000000000000000000002#0 pool:00000000000000000000000000000000000000000000000000000050 yes" ∷
    codes "proposal 0000000000000000000000000000000000000000000000000000000000000002#1 Info deposit 10 return 1k00000000000000000000000000000000000000000000000000000010 expires 2 previous none" ∷
    codes "vote 0000000000000000000000000000000000000000000000000000000000000002#1 committee:k00000000000000000000000000000000000000000000000000000071 yes" ∷
    codes "vote 0000000000000000000000000000000000000000000000000000000000000002#1 committee:s00000000000000000000000000000000000000000000000000000071 abstain" ∷
    codes "vote 0000000000000000000000000000000000000000000000000000000000000002#1 committee:kbbbbbbbbbbbbbbbbbbbbbbbbbbbbbbbbbbbbbbbbbbbbbbbbbbbbbbbb yes" ∷
    codes "vote 0000000000000000000000000000000000000000000000000000000000000002#1 drep:k00000000000000000000000000000000000000000000000000000030 no" ∷
    codes "vote 0000000000000000000000000000000000000000000000000000000000000002#1 drep:s00000000000000000000000000000000000000000000000000000030 yes" ∷
    codes "vote 0000000000000000000000000000000000000000000000000000000000000002#1 pool:00000000000000000000000000000000000000000000000000000050 yes" ∷
    codes "vote 0000000000000000000000000000000000000000000000000000000000000002#1 pool:c0c0c0c0c0c0c0c0c0c0c0c0c0c0c0c0c0c0c0c0c0c0c0c0c0c0c0c0 yes" ∷
    codes "snapshot mark 00000000000000000000000000000000000000000000000000000050 0" ∷
    codes "snapshot mark c0c0c0c0c0c0c0c0c0c0c0c0c0c0c0c0c0c0c0c0c0c0c0c0c0c0c0c0 4" ∷
    codes "snapshot set 00000000000000000000000000000000000000000000000000000050 0" ∷
    codes "snapshot set c0c0c0c0c0c0c0c0c0c0c0c0c0c0c0c0c0c0c0c0c0c0c0c0c0c0c0c0 3" ∷
    codes "snapshot fees 30" ∷
    codes "pending none" ∷
    codes "pots outputs 21 deposits 68 rewards 114 fees 50 donations 0 treasury 100 reserves 647 supply 1000" ∷
    codes "used 0000000000000000000000000000000000000000000000000000000000000001" ∷
    codes "used 0000000000000000000000000000000000000000000000000000000000000002" ∷
    codes "used 0000000000000000000000000000000000000000000000000000000000000003" ∷
    codes "used 0000000000000000000000000000000000000000000000000000000000000009" ∷
    codes "used 0000000000000000000000000000000000000000000000000000000000000020" ∷
    codes "used 0f0f0f0f0f0f0f0f0f0f0f0f0f0f0f0f0f0f0f0f0f0f0f0f0f0f0f0f0f0f0f0f" ∷
    codes "used ffffffffffffffffffffffffffffffffffffffffffffffffffffffffffffffff" ∷
    codes "action 0000000000000000000000000000000000000000000000000000000000000020#0 {\"type\":\"Info\"}" ∷
    codes "action 0000000000000000000000000000000000000000000000000000000000000002#0 {\"type\":\"NoConfidence\"}" ∷
    codes "action 0000000000000000000000000000000000000000000000000000000000000002#1 {\"type\":\"Info\"}" ∷
    codes "frozen treasury 100" ∷
    codes "frozen account k00000000000000000000000000000000000000000000000000000010 stake 1 deposit 2 rewards 70 pool none drep k00000000000000000000000000000000000000000000000000000030" ∷
    codes "frozen account s00000000000000000000000000000000000000000000000000000010 stake 20 deposit 2 rewards 7 pool none drep none" ∷
    codes "frozen account k00000000000000000000000000000000000000000000000000000011 stake 0 deposit 2 rewards 33 pool none drep k00000000000000000000000000000000000000000000000000000031" ∷
    codes "frozen account kfefefefefefefefefefefefefefefefefefefefefefefefefefefefe stake 0 deposit 2 rewards 4 pool c0c0c0c0c0c0c0c0c0c0c0c0c0c0c0c0c0c0c0c0c0c0c0c0c0c0c0c0 drep s00000000000000000000000000000000000000000000000000000030" ∷
    codes "frozen drep k00000000000000000000000000000000000000000000000000000030 expiry 20" ∷
    codes "frozen drep s00000000000000000000000000000000000000000000000000000030 expiry 20" ∷
    codes "frozen drep k00000000000000000000000000000000000000000000000000000031 expiry 20" ∷
    codes "frozen drep k0a0a0a0a0a0a0a0a0a0a0a0a0a0a0a0a0a0a0a0a0a0a0a0a0a0a0a0a expiry 20" ∷
    codes "frozen hot k00000000000000000000000000000000000000000000000000000070 s00000000000000000000000000000000000000000000000000000071" ∷
    codes "frozen hot s00000000000000000000000000000000000000000000000000000070 k00000000000000000000000000000000000000000000000000000071" ∷
    codes "frozen hot kaaaaaaaaaaaaaaaaaaaaaaaaaaaaaaaaaaaaaaaaaaaaaaaaaaaaaaaa kbbbbbbbbbbbbbbbbbbbbbbbbbbbbbbbbbbbbbbbbbbbbbbbbbbbbbbbb" ∷
    codes "frozen pool 00000000000000000000000000000000000000000000000000000050 account 1k00000000000000000000000000000000000000000000000000000011" ∷
    codes "frozen pool c0c0c0c0c0c0c0c0c0c0c0c0c0c0c0c0c0c0c0c0c0c0c0c0c0c0c0c0 account 1k00000000000000000000000000000000000000000000000000000010" ∷
    codes "frozen proposal 0000000000000000000000000000000000000000000000000000000000000020#0" ∷
    codes "frozen proposal 0000000000000000000000000000000000000000000000000000000000000002#0" ∷
    codes "frozen vote 0000000000000000000000000000000000000000000000000000000000000002#0 drep:k0a0a0a0a0a0a0a0a0a0a0a0a0a0a0a0a0a0a0a0a0a0a0a0a0a0a0a0a yes" ∷
    codes "frozen proposal 0000000000000000000000000000000000000000000000000000000000000002#1" ∷
    codes "frozen vote 0000000000000000000000000000000000000000000000000000000000000002#1 committee:k00000000000000000000000000000000000000000000000000000071 yes" ∷
    codes "frozen vote 0000000000000000000000000000000000000000000000000000000000000002#1 committee:s00000000000000000000000000000000000000000000000000000071 abstain" ∷
    codes "frozen vote 0000000000000000000000000000000000000000000000000000000000000002#1 committee:kbbbbbbbbbbbbbbbbbbbbbbbbbbbbbbbbbbbbbbbbbbbbbbbbbbbbbbbb yes" ∷
    codes "frozen vote 0000000000000000000000000000000000000000000000000000000000000002#1 drep:k00000000000000000000000000000000000000000000000000000030 no" ∷
    codes "frozen vote 0000000000000000000000000000000000000000000000000000000000000002#1 drep:s00000000000000000000000000000000000000000000000000000030 yes" ∷
    codes "frozen vote 0000000000000000000000000000000000000000000000000000000000000002#1 pool:00000000000000000000000000000000000000000000000000000050 yes" ∷
    codes "frozen vote 0000000000000000000000000000000000000000000000000000000000000002#1 pool:c0c0c0c0c0c0c0c0c0c0c0c0c0c0c0c0c0c0c0c0c0c0c0c0c0c0c0c0 yes" ∷
    codes "end" ∷
    []) ≡ true
unfolding digits encode_with
checkpoint_lists_in_order = refl

abbrev rewards_pending_and_given_checkpoint_4_input : List (ℕ × Reading)
rewards_pending_and_given_checkpoint_4_input =
    (1, Read (records.Genesis (record { network = 1; slot = 0; epoch_length = 10; version = (10, 0); supply = 1000; reserves = 699; treasury = 100; params = base_params; document = (h32 0x01); script = None; committee = (Some (record { threshold = (share 0 1); members = (((key 0x70), 100, (Some (key 0x71))) ∷ []) })); outputs = (((ref 0x01 2), (address_with 1 (key 0x01) None), 20, []) ∷ ((ref 0x01 3), (address_with 1 (key 0x01) None), 20, []) ∷ ((ref 0x01 4), (address_with 1 (key 0x01) None), 20, []) ∷ ((ref 0x01 5), (address_with 1 (key 0x01) None), 20, []) ∷ []); accounts = (((key 0x10), 2, 67, None, (Some (drep.Registered (key 0x30)))) ∷ ((key 0x11), 2, 33, None, (Some (drep.Registered (key 0x31)))) ∷ ((key 0x12), 2, 0, None, None) ∷ []); pools = ((record { pool = (pool 0x50); deposit = 5; cost = 0; pledge = 0; margin = (share 0 1); account = (account_on 1 (key 0x12)); key = None }) ∷ []); dreps = (((key 0x30), 5, 20) ∷ ((key 0x31), 5, 20) ∷ []) }))) ∷
    (2, Read (records.Tx (spend 0x02 20))) ∷
    (3, Read (records.Rewards (record { epoch = 0; from_reserves = 20; from_fees = 7; to_treasury = 5; rewards = (((key 0x13), 3) ∷ ((script 0x12), 4) ∷ ((key 0x12), 10) ∷ ((key 0x10), 5) ∷ []) }))) ∷
    (4, Read (records.Print what.State)) ∷
    []

pub rewards_pending_and_given_checkpoint_4 : is_text (checkpoint_of_readings 4 rewards_pending_and_given_checkpoint_4_input) (
    codes "checkpoint 1 line 4 network 1 length 10 counted 0" ∷
    codes "now slot 0 epoch 0 version 10.0 dormant 0" ∷
    codes "constitution 0000000000000000000000000000000000000000000000000000000000000001 none" ∷
    codes "committee threshold 0/1" ∷
    codes "member k00000000000000000000000000000000000000000000000000000070 term 100 hot k00000000000000000000000000000000000000000000000000000071" ∷
    codes "enacted committee none constitution none hardfork none parameters none" ∷
    codes "param maxBlockBodySize 90112" ∷
    codes "param maxTxSize 16384" ∷
    codes "param maxBlockHeaderSize 1100" ∷
    codes "param maxValueSize 5000" ∷
    codes "param maxTxExUnits 1000 1000" ∷
    codes "param maxBlockExUnits 1000 1000" ∷
    codes "param maxCollateralInputs 3" ∷
    codes "param minFeeA 0" ∷
    codes "param minFeeB 0" ∷
    codes "param keyDeposit 2" ∷
    codes "param poolDeposit 5" ∷
    codes "param rho 0/1" ∷
    codes "param tau 0/1" ∷
    codes "param minPoolCost 0" ∷
    codes "param coinsPerUTxOByte 0" ∷
    codes "param prices 0/1 0/1" ∷
    codes "param minFeeRefScriptCostPerByte 15/1" ∷
    codes "param a0 0/1" ∷
    codes "param eMax 18" ∷
    codes "param nOpt 500" ∷
    codes "param costModels 0000000000000000000000000000000000000000000000000000000000000000" ∷
    codes "param collateralPercentage 150" ∷
    codes "param poolVotingThresholds 0/1 0/1 0/1 0/1 0/1" ∷
    codes "param drepVotingThresholds 67/100 67/100 67/100 67/100 67/100 67/100 67/100 67/100 67/100 67/100" ∷
    codes "param govActionLifetime 2" ∷
    codes "param govActionDeposit 10" ∷
    codes "param drepDeposit 5" ∷
    codes "param drepActivity 20" ∷
    codes "param committeeMinSize 0" ∷
    codes "param committeeMaxTermLength 100" ∷
    codes "drep k00000000000000000000000000000000000000000000000000000030 deposit 5 expiry 20" ∷
    codes "drep k00000000000000000000000000000000000000000000000000000031 deposit 5 expiry 20" ∷
    codes "pool 00000000000000000000000000000000000000000000000000000050 deposit 5 cost 0 pledge 0 margin 0/1 account 1k00000000000000000000000000000000000000000000000000000012 retires never" ∷
    codes "account k00000000000000000000000000000000000000000000000000000010 stake 0 deposit 2 rewards 67 pool none drep k00000000000000000000000000000000000000000000000000000030" ∷
    codes "account k00000000000000000000000000000000000000000000000000000011 stake 0 deposit 2 rewards 33 pool none drep k00000000000000000000000000000000000000000000000000000031" ∷
    codes "account k00000000000000000000000000000000000000000000000000000012 stake 0 deposit 2 rewards 0 pool none drep none" ∷
    codes "output 0000000000000000000000000000000000000000000000000000000000000001#3 1k00000000000000000000000000000000000000000000000000000001 20" ∷
    codes "output 0000000000000000000000000000000000000000000000000000000000000001#4 1k00000000000000000000000000000000000000000000000000000001 20" ∷
    codes "output 0000000000000000000000000000000000000000000000000000000000000001#5 1k00000000000000000000000000000000000000000000000000000001 20" ∷
    codes "snapshot mark 00000000000000000000000000000000000000000000000000000050 0" ∷
    codes "snapshot fees 0" ∷
    codes "pending reserves 20 fees 7 treasury 5" ∷
    codes "pending reward k00000000000000000000000000000000000000000000000000000010 5" ∷
    codes "pending reward k00000000000000000000000000000000000000000000000000000012 10" ∷
    codes "pending reward s00000000000000000000000000000000000000000000000000000012 4" ∷
    codes "pending reward k00000000000000000000000000000000000000000000000000000013 3" ∷
    codes "pots outputs 60 deposits 21 rewards 100 fees 20 donations 0 treasury 100 reserves 699 supply 1000" ∷
    codes "used 0000000000000000000000000000000000000000000000000000000000000001" ∷
    codes "used 0000000000000000000000000000000000000000000000000000000000000002" ∷
    codes "frozen treasury 100" ∷
    codes "frozen account k00000000000000000000000000000000000000000000000000000010 stake 0 deposit 2 rewards 67 pool none drep k00000000000000000000000000000000000000000000000000000030" ∷
    codes "frozen account k00000000000000000000000000000000000000000000000000000011 stake 0 deposit 2 rewards 33 pool none drep k00000000000000000000000000000000000000000000000000000031" ∷
    codes "frozen account k00000000000000000000000000000000000000000000000000000012 stake 0 deposit 2 rewards 0 pool none drep none" ∷
    codes "frozen drep k00000000000000000000000000000000000000000000000000000030 expiry 20" ∷
    codes "frozen drep k00000000000000000000000000000000000000000000000000000031 expiry 20" ∷
    codes "frozen hot k00000000000000000000000000000000000000000000000000000070 k00000000000000000000000000000000000000000000000000000071" ∷
    codes "frozen pool 00000000000000000000000000000000000000000000000000000050 account 1k00000000000000000000000000000000000000000000000000000012" ∷
    codes "end" ∷
    []) ≡ true
unfolding digits encode_with
rewards_pending_and_given_checkpoint_4 = refl

abbrev pools_reaped_with_new_terms_checkpoint_4_input : List (ℕ × Reading)
pools_reaped_with_new_terms_checkpoint_4_input =
    (1, Read (records.Genesis (record { network = 1; slot = 0; epoch_length = 10; version = (10, 0); supply = 1000; reserves = 800; treasury = 100; params = base_params; document = (h32 0x01); script = None; committee = (Some (record { threshold = (share 0 1); members = (((key 0x70), 100, (Some (key 0x71))) ∷ []) })); outputs = (((ref 0x01 2), (address_with 1 (key 0x01) None), 20, []) ∷ ((ref 0x01 3), (address_with 1 (key 0x01) None), 20, []) ∷ ((ref 0x01 4), (address_with 1 (key 0x01) None), 20, []) ∷ []); accounts = (((key 0x10), 2, 7, (Some (pool 0x50)), (Some drep.Abstain)) ∷ ((key 0x11), 2, 5, (Some (pool 0x51)), (Some drep.Abstain)) ∷ ((key 0x12), 2, 3, (Some (pool 0x52)), None) ∷ []); pools = ((record { pool = (pool 0x50); deposit = 5; cost = 0; pledge = 0; margin = (share 0 1); account = (account_on 1 (key 0x12)); key = None }) ∷ (record { pool = (pool 0x51); deposit = 5; cost = 0; pledge = 0; margin = (share 0 1); account = (account_on 1 (key 0x12)); key = None }) ∷ (record { pool = (pool 0x52); deposit = 9; cost = 0; pledge = 0; margin = (share 0 1); account = (account_on 1 (key 0x12)); key = None }) ∷ []); dreps = [] }))) ∷
    (2, Read (records.Tx (record (spend 0x02 20) { certs = ((certs.PoolReg (pool 0x50) 1 0 (share 0 1) (account_on 1 (key 0x11)) None) ∷ (certs.PoolRetire (pool 0x50) 1) ∷ (certs.PoolReg (pool 0x51) 1 0 (share 0 1) (account_on 1 (key 0x13)) None) ∷ (certs.PoolRetire (pool 0x51) 1) ∷ (certs.PoolRetire (pool 0x52) 2) ∷ []) }))) ∷
    (3, Read (records.Block 10 1)) ∷
    (4, Read (records.Print what.State)) ∷
    []

pub pools_reaped_with_new_terms_checkpoint_4 : is_text (checkpoint_of_readings 4 pools_reaped_with_new_terms_checkpoint_4_input) (
    codes "checkpoint 1 line 4 network 1 length 10 counted 1" ∷
    codes "now slot 10 epoch 1 version 10.0 dormant 1" ∷
    codes "constitution 0000000000000000000000000000000000000000000000000000000000000001 none" ∷
    codes "committee threshold 0/1" ∷
    codes "member k00000000000000000000000000000000000000000000000000000070 term 100 hot k00000000000000000000000000000000000000000000000000000071" ∷
    codes "enacted committee none constitution none hardfork none parameters none" ∷
    codes "param maxBlockBodySize 90112" ∷
    codes "param maxTxSize 16384" ∷
    codes "param maxBlockHeaderSize 1100" ∷
    codes "param maxValueSize 5000" ∷
    codes "param maxTxExUnits 1000 1000" ∷
    codes "param maxBlockExUnits 1000 1000" ∷
    codes "param maxCollateralInputs 3" ∷
    codes "param minFeeA 0" ∷
    codes "param minFeeB 0" ∷
    codes "param keyDeposit 2" ∷
    codes "param poolDeposit 5" ∷
    codes "param rho 0/1" ∷
    codes "param tau 0/1" ∷
    codes "param minPoolCost 0" ∷
    codes "param coinsPerUTxOByte 0" ∷
    codes "param prices 0/1 0/1" ∷
    codes "param minFeeRefScriptCostPerByte 15/1" ∷
    codes "param a0 0/1" ∷
    codes "param eMax 18" ∷
    codes "param nOpt 500" ∷
    codes "param costModels 0000000000000000000000000000000000000000000000000000000000000000" ∷
    codes "param collateralPercentage 150" ∷
    codes "param poolVotingThresholds 0/1 0/1 0/1 0/1 0/1" ∷
    codes "param drepVotingThresholds 67/100 67/100 67/100 67/100 67/100 67/100 67/100 67/100 67/100 67/100" ∷
    codes "param govActionLifetime 2" ∷
    codes "param govActionDeposit 10" ∷
    codes "param drepDeposit 5" ∷
    codes "param drepActivity 20" ∷
    codes "param committeeMinSize 0" ∷
    codes "param committeeMaxTermLength 100" ∷
    codes "pool 00000000000000000000000000000000000000000000000000000052 deposit 9 cost 0 pledge 0 margin 0/1 account 1k00000000000000000000000000000000000000000000000000000012 retires 2" ∷
    codes "account k00000000000000000000000000000000000000000000000000000010 stake 0 deposit 2 rewards 7 pool none drep abstain" ∷
    codes "account k00000000000000000000000000000000000000000000000000000011 stake 0 deposit 2 rewards 10 pool none drep abstain" ∷
    codes "account k00000000000000000000000000000000000000000000000000000012 stake 0 deposit 2 rewards 3 pool 00000000000000000000000000000000000000000000000000000052 drep none" ∷
    codes "output 0000000000000000000000000000000000000000000000000000000000000001#3 1k00000000000000000000000000000000000000000000000000000001 20" ∷
    codes "output 0000000000000000000000000000000000000000000000000000000000000001#4 1k00000000000000000000000000000000000000000000000000000001 20" ∷
    codes "snapshot mark 00000000000000000000000000000000000000000000000000000050 7" ∷
    codes "snapshot mark 00000000000000000000000000000000000000000000000000000051 5" ∷
    codes "snapshot mark 00000000000000000000000000000000000000000000000000000052 3" ∷
    codes "snapshot set 00000000000000000000000000000000000000000000000000000050 7" ∷
    codes "snapshot set 00000000000000000000000000000000000000000000000000000051 5" ∷
    codes "snapshot set 00000000000000000000000000000000000000000000000000000052 3" ∷
    codes "snapshot fees 20" ∷
    codes "pending none" ∷
    codes "pots outputs 40 deposits 15 rewards 20 fees 20 donations 0 treasury 105 reserves 800 supply 1000" ∷
    codes "used 0000000000000000000000000000000000000000000000000000000000000001" ∷
    codes "used 0000000000000000000000000000000000000000000000000000000000000002" ∷
    codes "frozen treasury 105" ∷
    codes "frozen account k00000000000000000000000000000000000000000000000000000010 stake 0 deposit 2 rewards 7 pool none drep abstain" ∷
    codes "frozen account k00000000000000000000000000000000000000000000000000000011 stake 0 deposit 2 rewards 10 pool none drep abstain" ∷
    codes "frozen account k00000000000000000000000000000000000000000000000000000012 stake 0 deposit 2 rewards 3 pool 00000000000000000000000000000000000000000000000000000052 drep none" ∷
    codes "frozen hot k00000000000000000000000000000000000000000000000000000070 k00000000000000000000000000000000000000000000000000000071" ∷
    codes "frozen pool 00000000000000000000000000000000000000000000000000000050 account none" ∷
    codes "frozen pool 00000000000000000000000000000000000000000000000000000051 account none" ∷
    codes "frozen pool 00000000000000000000000000000000000000000000000000000052 account 1k00000000000000000000000000000000000000000000000000000012" ∷
    codes "end" ∷
    []) ≡ true
unfolding digits encode_with
pools_reaped_with_new_terms_checkpoint_4 = refl
