use Rattle.std.proofs.Common.{◌≡◌}
use Rattle.maps.specs.Maps.{with_values}
use Rattle.coin_frac.proofs.total_map.TotalMap.copied.Given as goal

-- the entries so far with those that are left
abbrev pub invariant-loop-k : goal.invariant-loop-k
invariant-loop-k g l =
    (goal.iterator-loop-k g).can_next l.k-iterator ×
    (goal.iterator-loop-k g).is_finite l.k-iterator ×
    (with_values g.K.Ord.cmp l.k-iterator l.amounts.entries ≡ l.self-inside.amounts.entries)
