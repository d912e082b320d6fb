-- The limits of a genesis. (Own)
use Rattle.std.specs.Prelude.{Bool, ◌&&◌, nat_le, nat_lt}
use Rattle.std.specs.List.{list_all}
use Rattle.tx_records.specs.declared.genesis.Genesis.{Genesis}
use Rattle.tx_records.specs.declared.limits.TheConstants.{LEAST_MAJOR, LIST_LIMIT}
use Rattle.tx_records.specs.Limits.{are_assets, are_params, genesis_members, is_at_most, is_network, is_slot, is_u32, is_u64}

-- a genesis within the limits
abbrev pub is_within_limits : Genesis → Bool
is_within_limits g =
    is_network g.network && is_slot g.slot && nat_lt 0 g.epoch_length && is_u32 g.epoch_length && nat_le LEAST_MAJOR g.version.0
    && is_at_most LIST_LIMIT g.outputs && is_at_most LIST_LIMIT g.accounts && is_at_most LIST_LIMIT g.pools
    && is_at_most LIST_LIMIT g.dreps && is_at_most LIST_LIMIT (genesis_members g.committee)
    && list_all (λ m. is_slot m.1) (genesis_members g.committee) && list_all (λ d. is_slot d.2) g.dreps
    && are_params g.params && is_u64 g.supply && list_all (λ o. are_assets o.3) g.outputs
