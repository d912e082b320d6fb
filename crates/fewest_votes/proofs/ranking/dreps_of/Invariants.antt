use Rattle.std.proofs.Common.{◌≡◌, ◌++◌, map}
use Rattle.fewest_votes.specs.Ranked.{drep_at}
use Rattle.fewest_votes.proofs.ranking.dreps_of.Given as goal

-- with those at the places that are left these are all
abbrev pub invariant-loop-rank : goal.invariant-loop-rank
invariant-loop-rank l = l.dreps.items ++ map drep_at l.rank-iterator ≡ map drep_at l.ranks.keys
