use Rattle.std.proofs.Common.{List, ◌∷◌, map, refl, ap, sym}
use Rattle.gov_actions.specs.declared.action.Vote.{Vote}
use Rattle.gov_ids.specs.declared.Voter.{Voter}
use Rattle.report.proofs.Handed.{put_both, put_front}
use Rattle.text_model.specs.StateLines.{words_of_vote}
use Rattle.checkpoint_print.specs.LineWords.{proposal_words}
use Rattle.checkpoint_print.proofs.frozen_proposals.put_proposal.Goals as goal

pub returns-in_err-put_one : goal.returns-in_err-put_one
returns-in_err-put_one g c =
    put_front (map (words_of_vote c.args.proposal.now.id) c.args.proposal.now.votes) refl c.in_err-put_one.ensures c.from_residual.ensures.1

pub returns : goal.returns
returns g c =
    put_both (ap (λ (votes : List (Voter × Vote)). proposal_words c.args.proposal.now.id ∷ map (words_of_vote c.args.proposal.now.id) votes) (sym c.as_slice.ensures))
    c.in_ok-put_one.ensures c.put_votes.ensures
