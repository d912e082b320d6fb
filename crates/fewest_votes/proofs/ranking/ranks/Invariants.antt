use Rattle.std.proofs.Common.{◌≡◌, drop}
use Rattle.std.specs.Prelude.{fold}
use Rattle.maps.specs.Maps.{in_order, with_key}
use Rattle.fewest_votes.proofs.Ranked.{active_ranks, rank_cmp}
use Rattle.fewest_votes.proofs.ranking.ranks.Given as goal

-- with the places of those that are left these are all
abbrev pub invariant-loop-drep : goal.invariant-loop-drep
invariant-loop-drep l =
    fold (λ s k. with_key rank_cmp k s) l.ranks.keys (active_ranks l.f l.c (drop l.drep-index l.drep-items)) ≡ in_order rank_cmp (active_ranks l.f l.c l.drep-items)
