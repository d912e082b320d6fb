-- The limits of a reward update. (Own)
use Rattle.std.specs.Prelude.{Bool, ◌&&◌, not, map}
use Rattle.std.specs.List.{list_all}
use Rattle.gov_ids.specs.of_maps.Words.{repeats}
use Rattle.gov_ids.specs.Orders.{credential_cmp}
use Rattle.tx_records.specs.declared.limits.TheConstants.{LIST_LIMIT}
use Rattle.tx_records.specs.declared.record.Rewards.{Rewards}
use Rattle.tx_records.specs.Limits.{is_at_most, is_u64}

-- a reward update within the limits
abbrev pub is_within_limits : Rewards → Bool
is_within_limits u =
    is_at_most LIST_LIMIT u.rewards && not (repeats credential_cmp (map (λ r. r.0) u.rewards))
    && is_u64 u.from_reserves && is_u64 u.from_fees && is_u64 u.to_treasury && list_all (λ r. is_u64 r.1) u.rewards
