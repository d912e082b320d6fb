use Rattle.std.proofs.Common.{◌≡◌, subst, rules}
use Rattle.std.specs.declared.cmp.Ordering.{Ordering}
use Rattle.std.specs.List.{IsAllAdjacentAnswer}
use Rattle.std.specs.Ordering.{is_lt}
use Rattle.std.proofs.lemmas.List.Sorted.{answers_always}
use Rattle.gov_actions.specs.declared.action.Vote.{Vote}
use Rattle.gov_ids.specs.declared.Voter.{Voter}
use Rattle.gov_ids.specs.contracts.VoterOrd.TheImpl as voter_ord
use Rattle.gov_ids.specs.Derived.{voter_is}
use Rattle.gov_ids.proofs.Totals.{voter_total}
use Rattle.maps.proofs.Searched.{told}
use Rattle.pass_replay.proofs.proposals.is_in_order.Goals as goal

pub returns : goal.returns
returns c =
    let votes = c.args.votes.now in
    let answer = c.is_sorted_by.ensures.cases (λ (x y : Voter × Vote). is_lt (voter_ord.cmp-value.it x.0 y.0)) (answers_always _ _ _ (λ f a r g called. search rules)) in
    told voter_total votes c.is_sorted_by.result (subst (λ (cmp : Voter → Voter → Ordering). IsAllAdjacentAnswer (λ (x y : Voter × Vote) b. b ≡ is_lt (cmp x.0 y.0)) votes c.is_sorted_by.result) voter_is answer)
