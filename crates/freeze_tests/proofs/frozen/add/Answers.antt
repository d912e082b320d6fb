use Rattle.std.proofs.Common.{List, [], sym, subst}
use Rattle.std.specs.List.Sorted.{IsStrictlySortedBy}
use Rattle.gov_ids.specs.declared.Voter.{Voter}
use Rattle.gov_ids.specs.Orders.{voter_cmp}
use Rattle.gov_actions.specs.declared.action.Vote.{Vote}
use Rattle.maps.specs.Maps.{IsMap}
use Rattle.freeze_tests.proofs.frozen.add.Goals as goal

no_votes : IsMap {X = Vote} voter_cmp []
unfolding IsStrictlySortedBy
no_votes = tt

pub add-requires-clause-ordered : goal.add-requires-clause-ordered
add-requires-clause-ordered g c = subst (λ (votes : List (Voter × Vote)). IsMap voter_cmp votes) (sym c.info-p.ensures.votes) no_votes
