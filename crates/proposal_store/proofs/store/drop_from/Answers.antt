use Rattle.std.proofs.Common.{List, ap, sym, ◌∙◌}
use Rattle.std.proofs.Math.ListN.{drop_of_length-le}
use Rattle.gov_ids.specs.declared.ActionId.{ActionId}
use Rattle.gov_model.specs.Proposals.{without_vote}
use Rattle.proposal_store.specs.Changes.{dropping, each}
use Rattle.proposal_store.proofs.Noting.{drop_next, each_none}
use Rattle.proposal_store.proofs.Voting.{IsListed-changed, changing_votes, dropping_votes}
use Rattle.proposal_store.proofs.store.drop_from.Goals as goal

pub loop-id-preserved : goal.loop-id-preserved
loop-id-preserved c =
    let h = c.loop-id.invariant in
    let v = c.args.v.now in
    let es = c.loop-id.proposals.entries in
    let new = c.drop_at.new.proposals.entries in
    let k = IsListed-changed _ (changing_votes _ (without_vote v) (dropping_votes v)) es new c.drop_at.ensures h.keyed h.distinct h.ordered in
    record {
      keyed = k.keyed;
      distinct = k.distinct;
      ordered = k.ordered;
      rest = drop_next v c.args.ids.now c.loop-id.id-index _ c.loop-id-test.true es new c.drop_at.ensures h.ordered ∙ h.rest;
    }

pub returns : goal.returns
returns c =
    let es = c.loop-id.proposals.entries in
    let v = c.args.v.now in
    sym (ap (λ (ids : List ActionId). each (dropping v ids) es) (drop_of_length-le c.args.ids.now c.loop-id-test.false) ∙ each_none v es) ∙ c.loop-id.invariant.rest
