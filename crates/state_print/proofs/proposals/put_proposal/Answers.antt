use Rattle.std.proofs.Common.{List, [], ◌∷◌, map, refl, ap}
use Rattle.text_model.specs.StateLines.{proposal_words, vote_words}
use Rattle.text_model.specs.Words.{Text}
use Rattle.report.proofs.Puts.{put_first_as, put_second_as}
use Rattle.state_print.proofs.proposals.put_proposal.Goals as goal

pub returns-in_err-put_one : goal.returns-in_err-put_one
returns-in_err-put_one g c =
    put_first_as _ (proposal_words c.args.proposal.now ∷ [])
    (map (vote_words c.args.proposal.now) c.args.proposal.now.votes)
    (ap (λ (ws : List Text). ws ∷ []) c.proposed.ensures) c.in_err-put_one.ensures c.from_residual.ensures.1

pub returns : goal.returns
returns g c =
    put_second_as _ (proposal_words c.args.proposal.now ∷ []) _
    (map (vote_words c.args.proposal.now) c.args.proposal.now.votes)
    (ap (λ (ws : List Text). ws ∷ []) c.proposed.ensures) refl c.in_ok-put_one.ensures c.put_votes.ensures
