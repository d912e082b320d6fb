-- The limits of a record's parts: of lists, of names, and of the numbers that a law needs. (Own)
use Rattle.std.specs.Prelude.{ℕ, ◌^◌, ℤ, Bool, true, not, ◌&&◌, List, [], Option, Some, None, length, map, nat_le, nat_lt}
use Rattle.std.specs.List.{list_all}
use Rattle.std.specs.Map.{keys_of}
use Rattle.assets.specs.Quantities.{is_held, is_moved}
use Rattle.gov_ids.specs.of_maps.Words.{none_or, repeats}
use Rattle.gov_ids.specs.declared.assets.AssetId.{AssetId}
use Rattle.gov_ids.specs.declared.Credential.{Credential}
use Rattle.gov_ids.specs.Orders.{account_cmp, asset_cmp, credential_cmp}
use Rattle.gov_actions.specs.of_coin_frac.Fraction.{Fraction}
use Rattle.gov_actions.specs.of_pparams.declared.Params.{Params}
use Rattle.gov_actions.specs.of_pparams.declared.Update.{Update}
use Rattle.gov_actions.specs.declared.action.Action.{Action}
use Rattle.gov_actions.specs.declared.action.Action.TheVariants.{UpdateCommittee, ParameterChange, TreasuryWithdrawals}
use Rattle.tx_records.specs.declared.genesis.GenesisCommittee.{GenesisCommittee}
use Rattle.tx_records.specs.declared.limits.TheConstants.{LIST_LIMIT, NETWORK_LIMIT, SLOT_LIMIT}
use Rattle.tx_records.specs.declared.tx.TxOutput.{TxOutput}

-- ---- numbers and lists

-- a slot, a term or an expiry
abbrev pub is_slot : ℕ → Bool
is_slot n = nat_lt n SLOT_LIMIT

-- a number of 32 bits
abbrev pub is_u32 : ℕ → Bool
is_u32 n = nat_lt n (2 ^ 32)

-- a number of 64 bits
abbrev pub is_u64 : ℕ → Bool
is_u64 n = nat_lt n (2 ^ 64)

-- 0 or 1
abbrev pub is_network : ℕ → Bool
is_network n = nat_lt n NETWORK_LIMIT

-- a fraction from 0 to 1
abbrev pub is_share : Fraction → Bool
is_share s = nat_lt 0 s.den && nat_le s.num s.den

-- a list of at most n entries
abbrev pub is_at_most : {A : Type 0} → ℕ → List A → Bool
is_at_most n xs = nat_le (length xs) n

-- ---- parts of a record

-- the parameters whose ranges the laws need
abbrev pub are_params : Params → Bool
are_params p =
    list_all is_share p.pool_voting_thresholds && list_all is_share p.drep_voting_thresholds
    && is_u32 p.drep_activity && is_u32 p.gov_action_lifetime

-- an update's parameters whose ranges the laws need
abbrev pub is_update : Update → Bool
is_update u =
    none_or (list_all is_share) u.pool_voting_thresholds && none_or (list_all is_share) u.drep_voting_thresholds
    && none_or is_u32 u.drep_activity && none_or is_u32 u.gov_action_lifetime

-- an action within the limits, each name once in a list
abbrev pub is_action : Action → Bool
is_action (UpdateCommittee previous remove add threshold) =
    is_at_most LIST_LIMIT remove && is_at_most LIST_LIMIT add && is_share threshold && list_all (λ m. is_slot m.1) add
    && not (repeats credential_cmp remove) && not (repeats credential_cmp (map (λ m. m.0) add))
is_action (ParameterChange previous update policy) = is_update update
is_action (TreasuryWithdrawals targets policy) =
    is_at_most LIST_LIMIT targets && not (repeats account_cmp (map (λ t. t.0) targets)) && list_all (λ t. is_network t.0.network && is_u64 t.1) targets
is_action _ = true

-- the assets of an output, each once, its quantity in its range
abbrev pub are_assets : List (AssetId × ℕ) → Bool
are_assets held =
    is_at_most LIST_LIMIT held && not (repeats asset_cmp (keys_of held)) && list_all (λ (e : AssetId × ℕ). is_held e.1) held

-- what a transaction mints and burns, each asset once, its quantity in its range
abbrev pub is_mint : List (AssetId × ℤ) → Bool
is_mint mint =
    is_at_most LIST_LIMIT mint && not (repeats asset_cmp (keys_of mint)) && list_all (λ (e : AssetId × ℤ). is_moved e.1) mint

-- an output of a transaction
abbrev pub is_output : TxOutput → Bool
is_output o = is_network o.address.network && is_u64 o.lovelace && is_u32 o.bytes && are_assets o.assets

-- the members of the committee at the start
abbrev pub genesis_members : Option GenesisCommittee → List (Credential × ℕ × Option Credential)
genesis_members None = []
genesis_members (Some c) = c.members
