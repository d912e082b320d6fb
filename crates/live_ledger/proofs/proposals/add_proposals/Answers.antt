use Rattle.std.proofs.Common.{List, ◌++◌, ap, sym, subst, ◌∙◌}
use Rattle.std.specs.List.Sorted.{IsStrictlySortedBy}
use Rattle.gov_actions.specs.declared.action.Proposal.{Proposal}
use Rattle.gov_actions.specs.declared.action.Vote.{Vote}
use Rattle.gov_ids.specs.declared.Voter.{Voter}
use Rattle.gov_ids.specs.Orders.{voter_cmp}
use Rattle.maps.specs.Maps.{IsMap}
use Rattle.tx_records.specs.declared.tx.ProposalRecord.{ProposalRecord}
use Rattle.live_ledger.proofs.Proposing.{next_made, next_room, next_unknown, proposals_done, proposed_from}
use Rattle.live_ledger.proofs.proposals.add_proposals.Goals as goal

pub add-requires-clause-ordered : goal.add-requires-clause-ordered
unfolding IsStrictlySortedBy
add-requires-clause-ordered c = subst (λ (vs : List (Voter × Vote)). IsMap voter_cmp vs) (sym (ap (λ (p : Proposal). p.votes) c.in_ok-made.ensures)) tt

pub loop-index-preserved : goal.loop-index-preserved
loop-index-preserved c =
    let id = c.args.tx.now.id in
    let all = c.as_slice-proposal-items.result.now in
    let i = c.loop-index.index in
    let p = c.proposal-item.result in
    let lt = c.loop-index-test.true in
    let is = c.proposal-item.is in
    let a = c.in_ok-made.field-0 in
    let made = c.in_ok-made.ensures in
    let old = c.loop-index.store in
    let new = c.add.new.self in
    let added = c.in_ok-add.ensures.ok in
    record {
      made = next_made id c.args.last all i p lt is a made old new added ∙ c.loop-index.invariant.made;
      unknown = next_unknown id c.args.last all i p lt is a made old new added c.loop-index.invariant.unknown;
      room = next_room id c.args.last all i p lt is a made old new added c.loop-index.invariant.room;
    }

pub returns : goal.returns
returns c =
    sym (proposals_done c.args.last c.args.tx.now.id c.as_slice-proposal-items.result.now c.loop-index.index c.loop-index.store c.loop-index-test.false)
    ∙ c.loop-index.invariant.made ∙ ap (λ (ps : List ProposalRecord). c.args.store.now ++ proposed_from c.args.last c.args.tx.now.id 0 ps) c.as_slice-proposal-items.ensures
