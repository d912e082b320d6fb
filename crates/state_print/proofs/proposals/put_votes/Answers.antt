use Rattle.std.proofs.Common.{◌≡◌, List, map, ap, sym, rules}
use Rattle.gov_actions.specs.declared.action.Vote.{Vote}
use Rattle.gov_ids.specs.declared.Voter.{Voter}
use Rattle.text_model.specs.StateLines.{vote_words}
use Rattle.report.proofs.Handed.{put_both, put_front, nothing, put_as}
use Rattle.state_print.proofs.proposals.put_votes.Goals as goal

pub loop-voter-init : goal.loop-voter-init
loop-voter-init g c =
    let start : ◌≡◌ {A = List (Voter × Vote)} c.into_iter-voter-iterator.result c.args.proposal.now.votes = search rules in
    (tt, tt, λ t f r later. put_as (ap (map (vote_words c.args.proposal.now)) start) later)

pub returns-in_err-put_vote : goal.returns-in_err-put_vote
returns-in_err-put_vote g c =
    c.loop-voter.invariant.2 (g.T.LineTaker.taken c.put_vote.new.to) (g.T.LineTaker.faults c.put_vote.new.to) c.from_residual.result
    (put_front _ (ap (map (vote_words c.args.proposal.now)) c.in-Some.ensures.steps) c.in_err-put_vote.ensures c.from_residual.ensures.1)

pub loop-voter-preserved : goal.loop-voter-preserved
loop-voter-preserved g c = (
  tt,
  tt,
  λ t f r later.
      c.loop-voter.invariant.2 t f r
      (put_both (ap (map (vote_words c.args.proposal.now)) c.in-Some.ensures.steps) c.in_ok-put_vote.ensures later),
)

pub returns : goal.returns
returns g c =
    c.loop-voter.invariant.2 (g.T.LineTaker.taken c.loop-voter.to) (g.T.LineTaker.faults c.loop-voter.to) _
    (nothing (ap (map (vote_words c.args.proposal.now)) (sym c.in-None.ensures.steps.0)))
