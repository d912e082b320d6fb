-- What the words of lines of outputs and of stakes read as. (Own)
use Rattle.std.specs.Prelude.{ℕ, Bool, ◌&&◌, if◌then◌else◌, List, [], Option, Some, None, bytes_eq, codes, nat_lt}
use Rattle.std.specs.Result.{result_ok}
use Rattle.gov_ids.specs.declared.Address.{Address}
use Rattle.gov_ids.specs.declared.assets.AssetId.{AssetId}
use Rattle.gov_ids.specs.declared.OutRef.{OutRef}
use Rattle.gov_ids.specs.declared.PoolId.{PoolId}
use Rattle.gov_ids.specs.Spelling.{◌>>=◌, address_of, asset_name_of, hash_of, pool_of, ref_of}
use Rattle.text_forms.specs.Ids.{is_address, is_ref}
use Rattle.text_model.specs.StateLines.{output_words}
use Rattle.text_model.specs.Words.{Text}
use Rattle.tx_records.specs.Limits.{is_u64}
use Rattle.line_kinds.specs.Cuts.{word_at}
use Rattle.line_kinds.specs.Numbers.{number_of}

-- an output without its assets
abbrev pub output_in : List Text → Option (OutRef × (Address × ℕ))
output_in ws = do
  ref ← ref_of (word_at 1 ws)
  address ← address_of (word_at 2 ws)
  lovelace ← number_of (word_at 3 ws)
  Some (ref, (address, lovelace))

-- its words
abbrev pub output_line : OutRef × (Address × ℕ) → List Text
output_line o = output_words (o.0, record { address = o.1.0; lovelace = o.1.1; assets = [] })

-- its form
abbrev pub is_output_line : OutRef × (Address × ℕ) → Bool
is_output_line o = is_ref o.0 && is_address o.1.0 && is_u64 o.1.1

-- an asset's name
abbrev pub name_of : Text → Option (List ℕ)
name_of t = if bytes_eq t (codes "-") then Some [] else asset_name_of t

-- a number of at least 1
abbrev pub held_of : Text → Option ℕ
held_of t = do
  n ← number_of t
  if nat_lt 0 n then Some n else None

-- an asset of an output
abbrev pub asset_in : List Text → Option (AssetId × ℕ)
asset_in ws = do
  policy ← result_ok (hash_of 28 (word_at 1 ws))
  name ← name_of (word_at 2 ws)
  quantity ← held_of (word_at 3 ws)
  Some (record { policy = policy; name = name }, quantity)

-- the stake of a pool
abbrev pub stake_in : List Text → Option (PoolId × ℕ)
stake_in ws = do
  pool ← pool_of (word_at 2 ws)
  stake ← number_of (word_at 3 ws)
  Some (pool, stake)
