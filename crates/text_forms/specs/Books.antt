-- Which entries of the books have the form of the formats. (Own)
use Rattle.std.specs.Prelude.{ℕ, Bool, true, ◌&&◌, List}
use Rattle.std.specs.List.{list_all}
use Rattle.text_model.specs.of_assets.Quantities.{is_held}
use Rattle.maps.specs.Words.{none_or}
use Rattle.gov_ids.specs.declared.Account.{Account}
use Rattle.gov_ids.specs.declared.assets.AssetId.{AssetId}
use Rattle.gov_ids.specs.declared.Credential.{Credential}
use Rattle.gov_ids.specs.declared.OutRef.{OutRef}
use Rattle.gov_ids.specs.declared.PoolId.{PoolId}
use Rattle.gov_ids.specs.Orders.{asset_cmp}
use Rattle.text_model.specs.of_book_records.declared.DrepState.{DrepState}
use Rattle.text_model.specs.of_book_records.declared.Entry.{Entry}
use Rattle.text_model.specs.of_book_records.declared.Output.{Output}
use Rattle.text_model.specs.of_book_records.declared.pool.Pool.{Pool}
use Rattle.text_model.specs.of_book_records.declared.pool.PoolTerms.{PoolTerms}
use Rattle.text_model.specs.of_book_records.declared.Registered.{Registered}
use Rattle.text_model.specs.of_gov_actions.declared.state.HotState.{HotState}
use Rattle.text_model.specs.of_gov_actions.declared.state.HotState.TheVariants.{Hot, Resigned}
use Rattle.text_model.specs.of_tx_records.declared.record.Rewards.{Rewards}
use Rattle.text_model.specs.of_tx_records.Limits.{is_u64}
use Rattle.text_forms.specs.Ids.{is_account_id, is_address, is_asset_id, is_credential, is_drep_id, is_hash, is_map, is_pool_id, is_ref, is_unit}

-- an asset with its amount in an output
abbrev pub is_held_asset : AssetId × ℕ → Bool
is_held_asset e = is_asset_id e.0 && is_held e.1

-- the assets of an output, in order, each once
abbrev pub are_held_assets : List (AssetId × ℕ) → Bool
are_held_assets held = is_map asset_cmp held && list_all is_held_asset held

-- an unspent output
abbrev pub is_output : OutRef × Output → Bool
is_output o = is_ref o.0 && is_address o.1.address && is_u64 o.1.lovelace && are_held_assets o.1.assets

-- a registration
abbrev pub is_registration : Registered → Bool
is_registration r = is_u64 r.deposit && is_u64 r.rewards && none_or is_pool_id r.pool && none_or is_drep_id r.drep

-- a registered account
abbrev pub is_account : Credential × Registered → Bool
is_account a = is_credential a.0 && is_registration a.1

-- a frozen entry
abbrev pub is_entry : Credential × Entry → Bool
is_entry e = is_credential e.0 && is_u64 e.1.stake && none_or is_registration e.1.registered

-- the terms of a pool
abbrev pub are_terms : PoolTerms → Bool
are_terms t = is_u64 t.cost && is_u64 t.pledge && is_unit t.margin && is_account_id t.account && none_or (is_hash 32) t.key

-- a registered pool
abbrev pub is_pool : PoolId × Pool → Bool
is_pool p = is_pool_id p.0 && is_u64 p.1.deposit && are_terms p.1.terms && none_or are_terms p.1.future && none_or is_u64 p.1.retires

-- a registered DRep
abbrev pub is_drep : Credential × DrepState → Bool
is_drep d = is_credential d.0 && is_u64 d.1.deposit && is_u64 d.1.expiry

-- a frozen DRep with its expiry
abbrev pub is_frozen_drep : Credential × ℕ → Bool
is_frozen_drep d = is_credential d.0 && is_u64 d.1

-- the authorization of a cold key
abbrev pub is_hot_state : HotState → Bool
is_hot_state (Hot key) = is_credential key
is_hot_state Resigned = true

-- the hot entry of a cold key
abbrev pub is_hot : Credential × HotState → Bool
is_hot h = is_credential h.0 && is_hot_state h.1

-- the stake of a pool in a snapshot
abbrev pub is_stake : PoolId × ℕ → Bool
is_stake s = is_pool_id s.0 && is_u64 s.1

-- the reward account of a pool
abbrev pub is_pool_account : PoolId × Account → Bool
is_pool_account p = is_pool_id p.0 && is_account_id p.1

-- an amount of a credential
abbrev pub is_amount : Credential × ℕ → Bool
is_amount r = is_credential r.0 && is_u64 r.1

-- a reward update
abbrev pub are_rewards : Rewards → Bool
are_rewards u =
    is_u64 u.epoch && is_u64 u.from_reserves && is_u64 u.from_fees && is_u64 u.to_treasury && list_all is_amount u.rewards
