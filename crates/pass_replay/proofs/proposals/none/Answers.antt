use Rattle.std.proofs.Common.{[], sym, subst}
use Rattle.std.specs.List.{All, IsDistinct}
use Rattle.std.proofs.lemmas.List.Elements.{All-nil}
use Rattle.gov_ids.specs.Orders.{voter_cmp}
use Rattle.gov_actions.specs.declared.action.Proposal.{Proposal}
use Rattle.gov_model.specs.Laws.{HaveDistinctIds}
use Rattle.maps.specs.Maps.{IsMap}
use Rattle.pass_replay.proofs.proposals.none.Goals as goal

no_ids : HaveDistinctIds []
unfolding IsDistinct
no_ids = tt

abbrev IsOrdered : Proposal → Type 0
IsOrdered a = IsMap voter_cmp a.votes

pub returns-clause-distinct : goal.returns-clause-distinct
returns-clause-distinct c = subst HaveDistinctIds (sym c.new.ensures) no_ids

pub returns-clause-voters : goal.returns-clause-voters
returns-clause-voters c = subst (All IsOrdered) (sym c.new.ensures) (All-nil IsOrdered)
