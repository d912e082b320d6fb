use Rattle.std.proofs.Common.{length, option_map}
use Rattle.gov_ids.specs.Orders.{credential_cmp}
use Rattle.view_map.specs.View.{frozen_of}
use Rattle.drep_pulser.proofs.Adding.{IsOnTheWay}
use Rattle.drep_pulser.proofs.walk.Walk.add.Given as goal

-- the part with what is left to come is what is to be added
abbrev pub invariant-loop-c : goal.invariant-loop-c
invariant-loop-c l = IsOnTheWay l.self.sums l.self.deposits (option_map (λ c. c.now) l.until) (frozen_of credential_cmp l.book) l.initial.entries l.entries l.part

abbrev pub decreases-loop-c : goal.decreases-loop-c
decreases-loop-c l = length l.entries
