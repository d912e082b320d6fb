use Rattle.std.proofs.Common.{◌≡◌, List, Option, map, ap, sym, subst, ◌∙◌}
use Rattle.std.specs.List.{AllZip}
use Rattle.std.proofs.lemmas.Result.{IfOk-weaker}
use Rattle.gov_actions.specs.declared.action.Vote.{Vote}
use Rattle.gov_ids.specs.declared.ActionId.{ActionId}
use Rattle.gov_ids.specs.declared.Voter.{Voter}
use Rattle.ledger_model.specs.Transaction.{with_votes}
use Rattle.proposal_store.specs.Leaving.{without_votes_of}
use Rattle.undo_before.specs.Old.{old_votes_at}
use Rattle.undo_before.proofs.Voting.{VoteNames, votes_held}
use Rattle.undo_model.specs.Holds.{HoldsOldVotes}
use Rattle.undo_before.proofs.votes.votes_of_passed.Goals as goal

pub returns : goal.returns
returns c =
    let tx = c.args.tx.now in
    let left = c.args.left.now in
    let ps = c.args.store.now in
    let after = map (with_votes tx) (map (without_votes_of left) ps) in
    IfOk-weaker c.old_votes.result (λ (olds : List ((ActionId × Voter) × Option Vote)). olds ≡ old_votes_at ps c.as_slice.result.now) (λ (olds : List ((ActionId × Voter) × Option Vote)). AllZip (HoldsOldVotes olds) ps after)
    (λ olds e. subst (λ (os : List ((ActionId × Voter) × Option Vote)). AllZip (HoldsOldVotes os) ps after)
    (sym (e ∙ ap (λ (ns : VoteNames). old_votes_at ps ns) c.as_slice.ensures.value))
    (votes_held tx left ps c.in_ok-names.names.items c.in_ok-names.ensures c.requires.sound))
    c.old_votes.ensures
