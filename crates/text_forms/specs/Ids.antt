-- Which ids, numbers and lists have the form and the order of the formats. (Own)
use Rattle.std.specs.Prelude.{ℕ, ◌^◌, ◌==◌, Bool, true, ◌&&◌, List, [], ◌∷◌, length, nat_le, nat_lt}
use Rattle.std.specs.declared.cmp.Ordering.{Ordering}
use Rattle.std.specs.List.{list_all}
use Rattle.std.specs.Map.{keys_of}
use Rattle.std.specs.Ordering.{is_lt}
use Rattle.maps.specs.Words.{none_or}
use Rattle.coin_frac.specs.Fraction.{Fraction}
use Rattle.gov_ids.specs.declared.Account.{Account}
use Rattle.gov_ids.specs.declared.ActionId.{ActionId}
use Rattle.gov_ids.specs.declared.Address.{Address}
use Rattle.gov_ids.specs.declared.assets.AssetId.{AssetId}
use Rattle.gov_ids.specs.declared.Credential.{Credential}
use Rattle.gov_ids.specs.declared.Drep.{Drep}
use Rattle.gov_ids.specs.declared.Drep.TheVariants as drep
use Rattle.gov_ids.specs.declared.OutRef.{OutRef}
use Rattle.gov_ids.specs.declared.PoolId.{PoolId}
use Rattle.gov_ids.specs.declared.TxId.{TxId}
use Rattle.gov_ids.specs.declared.Voter.{Voter}
use Rattle.gov_ids.specs.declared.Voter.TheVariants as voter
use Rattle.text_model.specs.of_tx_records.Limits.{is_network, is_share, is_u64}

-- ---- lists in order

-- each key is below those after it: the keys are in order, each once
abbrev pub is_rising : {K : Type 0} → (K → K → Ordering) → List K → Bool
is_rising cmp [] = true
is_rising cmp (k ∷ ks) = list_all (λ q. is_lt (cmp k q)) ks && is_rising cmp ks

-- the keys of a map are in order, each once
abbrev pub is_map : {K X : Type 0} → (K → K → Ordering) → List (K × X) → Bool
is_map cmp es = is_rising cmp (keys_of es)

-- ---- numbers

-- a number of 16 bits
abbrev pub is_u16 : ℕ → Bool
is_u16 n = nat_lt n (2 ^ 16)

-- two numbers of 64 bits
abbrev pub are_u64 : ℕ × ℕ → Bool
are_u64 p = is_u64 p.0 && is_u64 p.1

-- a fraction from 0 to 1, of numbers of 64 bits
abbrev pub is_unit : Fraction → Bool
is_unit s = is_share s && is_u64 s.den

-- a fraction of numbers of 64 bits
abbrev pub is_ratio : Fraction → Bool
is_ratio s = nat_lt 0 s.den && is_u64 s.num && is_u64 s.den

-- n fractions from 0 to 1
abbrev pub are_units : ℕ → List Fraction → Bool
are_units n ss = length ss == n && list_all is_unit ss

-- ---- ids

-- a hash of n bytes
abbrev pub is_hash : ℕ → List ℕ → Bool
is_hash n h = length h == n && list_all (λ b. nat_lt b 256) h

-- a key or a script
abbrev pub is_credential : Credential → Bool
is_credential c = is_hash 28 c.hash

-- an account of one of the two networks
abbrev pub is_account_id : Account → Bool
is_account_id a = is_network a.network && is_credential a.cred

-- a pool
abbrev pub is_pool_id : PoolId → Bool
is_pool_id p = is_hash 28 p.0

-- a transaction
abbrev pub is_tx_id : TxId → Bool
is_tx_id t = is_hash 32 t.0

-- an output's reference
abbrev pub is_ref : OutRef → Bool
is_ref r = is_tx_id r.tx && is_u16 r.index

-- an action's id
abbrev pub is_action_id : ActionId → Bool
is_action_id a = is_tx_id a.tx && is_u16 a.index

-- an address of one of the two networks
abbrev pub is_address : Address → Bool
is_address a = is_network a.network && is_credential a.payment && none_or is_credential a.stake

-- an asset: the hash of its policy, and a name of at most 32 bytes
abbrev pub is_asset_id : AssetId → Bool
is_asset_id a = is_hash 28 a.policy && nat_le (length a.name) 32 && list_all (λ b. nat_lt b 256) a.name

-- a DRep
abbrev pub is_drep_id : Drep → Bool
is_drep_id (drep.Registered c) = is_credential c
is_drep_id drep.Abstain = true
is_drep_id drep.NoConfidence = true

-- a voter
abbrev pub is_voter : Voter → Bool
is_voter (voter.Committee c) = is_credential c
is_voter (voter.Drep c) = is_credential c
is_voter (voter.Pool p) = is_pool_id p
