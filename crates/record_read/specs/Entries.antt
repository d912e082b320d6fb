-- What the entries of lists and the other parts of a record read as. (Own)
use Rattle.std.specs.Prelude.{ℕ, ℤ, List, [], Option, Some, None, Result, Ok, Err, bytes_eq, codes, nat_le, if◌then◌else◌}
use Rattle.serde_json.specs.Data.{Data, null, boolean, number, string, array, object}
use Rattle.serde_json.specs.Find.{as_i64, as_number}
use Rattle.assets.specs.Quantities.{is_held, is_moved}
use Rattle.maps.specs.Maps.{with_values}
use Rattle.gov_ids.specs.Orders.{asset_cmp}
use Rattle.gov_ids.specs.declared.assets.AssetId.{AssetId}
use Rattle.gov_ids.specs.declared.Address.{Address}
use Rattle.gov_ids.specs.declared.Credential.{Credential}
use Rattle.gov_ids.specs.declared.Drep.{Drep}
use Rattle.gov_ids.specs.declared.OutRef.{OutRef}
use Rattle.gov_ids.specs.declared.PoolId.{PoolId}
use Rattle.gov_actions.specs.declared.action.Vote.{Vote}
use Rattle.gov_actions.specs.declared.action.Vote.TheVariants.{Yes, No, Abstain}
use Rattle.tx_records.specs.declared.genesis.GenesisCommittee.{GenesisCommittee}
use Rattle.tx_records.specs.declared.genesis.GenesisPool.{GenesisPool}
use Rattle.tx_records.specs.declared.limits.TheConstants.{LEAST_MAJOR, LIST_LIMIT, NETWORK_LIMIT, SLOT_LIMIT}
use Rattle.tx_records.specs.declared.tx.ProposalRecord.{ProposalRecord}
use Rattle.tx_records.specs.declared.tx.Scripts.{Scripts}
use Rattle.tx_records.specs.declared.tx.Scripts.TheVariants.{Absent, Passed, Failed}
use Rattle.tx_records.specs.declared.tx.TxOutput.{TxOutput}
use Rattle.tx_records.specs.declared.tx.VoteRecord.{VoteRecord}
use Rattle.json_fields.specs.declared.fault.FieldFault.{FieldFault}
use Rattle.json_fields.specs.declared.fault.FieldFault.TheVariants.{OutOfRange, WrongKind}
use Rattle.json_fields.specs.Entries.{needed_in, maybe_by, both_in, without_place}
use Rattle.json_fields.specs.Kinds.{text_in, u64_in, u32_in, number_below, hash28_in, hash32_in, credential_in, account_in, address_in, asset_name_in, ref_in, action_id_in, drep_in, voter_in, pool_id_in, unit_in, three_in, three_or_four_in, five_in, six_or_seven_in}
use Rattle.json_fields.specs.Lists.{list_in, distinct_list_in}
use Rattle.json_fields.specs.Steps.{◌>>=◌, or_fault}
use Rattle.action_read.specs.Actions.{action_in}

-- ---- numbers and words

-- a slot, a term or an expiry
abbrev pub slot_in : Data → Result ℕ FieldFault
slot_in d = number_below SLOT_LIMIT d

-- 0 or 1
abbrev pub network_in : Data → Result ℕ FieldFault
network_in d = number_below NETWORK_LIMIT d

-- how many slots an epoch has, at least 1
abbrev pub epoch_length_in : Data → Result ℕ FieldFault
epoch_length_in d = u32_in d >>= λ n. if nat_le 1 n then Ok n else Err OutOfRange

-- a protocol version of the Conway era
abbrev pub genesis_version_in : Data → Result (ℕ × ℕ) FieldFault
genesis_version_in d = both_in u32_in u32_in d >>= λ v. if nat_le LEAST_MAJOR v.0 then Ok v else Err OutOfRange

-- how the scripts ended
abbrev pub scripts_of : List ℕ → Result Scripts FieldFault
scripts_of word =
    if bytes_eq word (codes "none") then Ok Absent else
    if bytes_eq word (codes "ok") then Ok Passed else
    if bytes_eq word (codes "failed") then Ok Failed else
    Err OutOfRange

-- the word of a record
abbrev pub scripts_in : Data → Result Scripts FieldFault
scripts_in d = text_in d >>= scripts_of

-- a vote
abbrev pub vote_of : List ℕ → Result Vote FieldFault
vote_of word =
    if bytes_eq word (codes "yes") then Ok Yes else
    if bytes_eq word (codes "no") then Ok No else
    if bytes_eq word (codes "abstain") then Ok Abstain else
    Err OutOfRange

-- the word of a vote
abbrev pub vote_in : Data → Result Vote FieldFault
vote_in d = text_in d >>= vote_of

-- an entry that may be null
abbrev pub nullable_in : {A : Type 0} → (Data → Result A FieldFault) → Data → Result (Option A) FieldFault
nullable_in reading null = Ok None
nullable_in reading (boolean b) = reading (boolean b) >>= λ x. Ok (Some x)
nullable_in reading (number n) = reading (number n) >>= λ x. Ok (Some x)
nullable_in reading (string s) = reading (string s) >>= λ x. Ok (Some x)
nullable_in reading (array ds) = reading (array ds) >>= λ x. Ok (Some x)
nullable_in reading (object ms) = reading (object ms) >>= λ x. Ok (Some x)

-- ---- assets

-- how much an output holds of an asset
abbrev pub held_in : Data → Result ℕ FieldFault
held_in d = u64_in d >>= λ n. if is_held n then Ok n else Err OutOfRange

-- how much of one a transaction mints, or burns where it is below 0
abbrev pub moved_in : Data → Result ℤ FieldFault
moved_in d =
    or_fault WrongKind (as_number d) >>= λ n. or_fault OutOfRange (as_i64 n) >>= λ z. if is_moved z then Ok z else Err OutOfRange

-- an asset with its quantity: its policy, its name, the quantity
unfoldable pub asset_in : {Q : Type 0} → (Data → Result Q FieldFault) → Data → Result (AssetId × Q) FieldFault
asset_in quantity d = do
  parts ← three_in d
  policy ← hash28_in parts.0
  name ← asset_name_in parts.1
  held ← quantity parts.2
  Ok (record { policy = policy; name = name }, held)

-- the assets of an output, each once, in order, whatever their order in the record
abbrev pub assets_in : Data → Result (List (AssetId × ℕ)) FieldFault
assets_in d =
    without_place (distinct_list_in asset_cmp (λ (e : AssetId × ℕ). e.0) LIST_LIMIT (asset_in held_in) d)
    >>= λ entries. Ok (with_values asset_cmp entries [])

-- those of an output that may leave them out
abbrev pub assets_by : Option Data → Result (List (AssetId × ℕ)) FieldFault
assets_by None = Ok []
assets_by (Some d) = assets_in d

-- ---- a genesis

-- a member: its cold key, its term, its hot key
unfoldable pub member_in : Data → Result (Credential × ℕ × Option Credential) FieldFault
member_in d = do
  parts ← three_in d
  cold ← credential_in parts.0
  term ← slot_in parts.1
  hot ← nullable_in credential_in parts.2
  Ok (cold, term, hot)

-- a committee
unfoldable pub committee_in : Data → Result GenesisCommittee FieldFault
committee_in d = do
  threshold ← needed_in (codes "threshold") unit_in d
  members ← needed_in (codes "members") (λ v. without_place (list_in LIST_LIMIT member_in v)) d
  Ok (record { threshold = threshold; members = members })

-- an output: its reference, its address, its lovelace, and its assets, if it has some
unfoldable pub genesis_output_in : Data → Result (OutRef × Address × ℕ × List (AssetId × ℕ)) FieldFault
genesis_output_in d = do
  parts ← three_or_four_in d
  at ← ref_in parts.0
  address ← address_in parts.1
  lovelace ← u64_in parts.2
  assets ← assets_by parts.3
  Ok (at, address, lovelace, assets)

-- an account: its credential, its deposit, its balance, its pool, its DRep
unfoldable pub genesis_account_in : Data → Result (Credential × ℕ × ℕ × Option PoolId × Option Drep) FieldFault
genesis_account_in d = do
  parts ← five_in d
  cred ← credential_in parts.0
  deposit ← u64_in parts.1
  rewards ← u64_in parts.2
  pool ← nullable_in pool_id_in parts.3
  drep ← nullable_in drep_in parts.4
  Ok (cred, deposit, rewards, pool, drep)

-- a pool: its id, deposit, cost, pledge, margin, reward account, and key, if it has one
unfoldable pub genesis_pool_in : Data → Result GenesisPool FieldFault
genesis_pool_in d = do
  parts ← six_or_seven_in d
  pool ← pool_id_in parts.0
  deposit ← u64_in parts.1
  cost ← u64_in parts.2
  pledge ← u64_in parts.3
  margin ← unit_in parts.4
  account ← account_in parts.5
  key ← maybe_by hash32_in parts.6
  Ok (record { pool = pool; deposit = deposit; cost = cost; pledge = pledge; margin = margin; account = account; key = key })

-- a DRep: its credential, its deposit, its expiry
unfoldable pub genesis_drep_in : Data → Result (Credential × ℕ × ℕ) FieldFault
genesis_drep_in d = do
  parts ← three_in d
  cred ← credential_in parts.0
  deposit ← u64_in parts.1
  expiry ← slot_in parts.2
  Ok (cred, deposit, expiry)

-- ---- a transaction

-- an output: its address, its lovelace, its size in bytes, and its assets, if it has some
unfoldable pub output_in : Data → Result TxOutput FieldFault
output_in d = do
  parts ← three_or_four_in d
  address ← address_in parts.0
  lovelace ← u64_in parts.1
  bytes ← u32_in parts.2
  assets ← assets_by parts.3
  Ok (record { address = address; lovelace = lovelace; bytes = bytes; assets = assets })

-- a proposal
unfoldable pub proposal_in : Data → Result ProposalRecord FieldFault
proposal_in d = do
  deposit ← needed_in (codes "deposit") u64_in d
  account ← needed_in (codes "return") account_in d
  action ← needed_in (codes "action") action_in d
  Ok (record { deposit = deposit; account = account; action = action })

-- a vote on an action
unfoldable pub vote_record_in : Data → Result VoteRecord FieldFault
vote_record_in d = do
  voter ← needed_in (codes "voter") voter_in d
  action ← needed_in (codes "action") action_id_in d
  vote ← needed_in (codes "vote") vote_in d
  Ok (record { voter = voter; action = action; vote = vote })
