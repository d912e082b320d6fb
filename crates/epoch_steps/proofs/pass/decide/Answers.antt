use Rattle.std.proofs.Common.{◌≡◌, ap, subst, ◌∙◌}
use Rattle.gov_actions.specs.Kinds.{in_order_of_priority}
use Rattle.gov_model.specs.Laws.{HaveDistinctIds}
use Rattle.gov_model.specs.Ratified.{expired_of, ratified_of, tallies_of}
use Rattle.snapshots.specs.declared.frozen.Frozen.{Frozen}
use Rattle.frozen_reads.specs.Targets.{targets_among}
use Rattle.ratify.specs.Outcomes.{state_by}
use Rattle.epoch_steps.proofs.pass.decide.Goals as goal

pub returns : goal.returns
returns c = λ s are.
    let own : HaveDistinctIds s.proposals = subst (λ (g : Frozen). HaveDistinctIds g.proposals) are.frozen c.requires.counted.proposals in
    let is : c.in_ok-outcome.outcome.ratified ≡ ratified_of s = (c.one_list_is_ratified.ensures s own).1 c.in_ok-outcome.outcome.ratified (c.in_ok-outcome.ensures.ratified s are) in
    let over : c.in_ok-outcome.outcome.expired ≡ expired_of s (ratified_of s) = c.in_ok-outcome.ensures.expired s are ∙ ap (expired_of s) is in
    let state : c.in_ok-outcome.outcome.state ≡ state_by s (ratified_of s) = c.in_ok-outcome.ensures.state s are ∙ ap (state_by s) is in
    let tallies : c.in_ok-outcome.outcome.tallies ≡ tallies_of s (ratified_of s) = c.in_ok-outcome.ensures.tallies s are ∙ ap (tallies_of s) is in
    let ids : c.as_slice-2.result.now ≡ ratified_of s = c.as_slice-2.ensures ∙ is in
    let proposals : c.as_slice.result.now ≡ s.proposals = c.as_slice.ensures ∙ ap (λ (g : Frozen). g.proposals) are.frozen in
    let stakes = c.from_vec.ensures ∙ c.in_ok-stakes.ensures s are in
    let targets = c.from_vec-2.ensures ∙ c.in_ok-targets.ensures ∙ (λ i. targets_among (ids i) (in_order_of_priority (proposals i))) in
    λ i. record { ratified = is i; expired = over i; state = state i; tallies = tallies i; stakes = stakes i; targets = targets i }
