use Rattle.std.specs.List.{All}
use Rattle.gov_actions.specs.declared.action.Proposal.{Proposal}
use Rattle.gov_ids.specs.Orders.{voter_cmp}
use Rattle.gov_model.specs.Laws.{HaveDistinctIds}
use Rattle.maps.specs.Maps.{IsMap}
use Rattle.pass_replay.proofs.proposals.proposals.Given as goal

-- what holds of all holds of those that were read
abbrev pub invariant-loop : goal.invariant-loop
invariant-loop l = HaveDistinctIds l.all × All (λ (a : Proposal). IsMap voter_cmp a.votes) l.all
