use Rattle.std.proofs.Common.{List, [], ◌∷◌, map, ap}
use Rattle.report.proofs.Handed.{put_as}
use Rattle.report.proofs.Puts.{put_first, put_second, put_third}
use Rattle.text_forms.specs.Snapshots.{action_words}
use Rattle.text_model.specs.StateLines.{proposal_words, vote_words}
use Rattle.text_model.specs.Words.{Text}
use Rattle.frozen_print.proofs.proposals.put_proposal.Goals as goal

pub returns-in_err-put_one : goal.returns-in_err-put_one
returns-in_err-put_one g c =
    let p = c.args.p.now in
    put_first (proposal_words p ∷ []) (map (vote_words p) p.votes) (action_words p ∷ [])
    (put_as (ap (λ (ws : List Text). ws ∷ []) c.proposed.ensures) c.in_err-put_one.ensures) c.from_residual.ensures.1

pub returns-in_err-put_votes : goal.returns-in_err-put_votes
returns-in_err-put_votes g c =
    let p = c.args.p.now in
    put_second (proposal_words p ∷ []) (map (vote_words p) p.votes) (action_words p ∷ [])
    (put_as (ap (λ (ws : List Text). ws ∷ []) c.proposed.ensures) c.in_ok-put_one.ensures) c.in_err-put_votes.ensures c.from_residual-in_err-put_votes.ensures.1

pub returns : goal.returns
returns g c =
    let p = c.args.p.now in
    put_third (proposal_words p ∷ []) (map (vote_words p) p.votes) (action_words p ∷ [])
    (put_as (ap (λ (ws : List Text). ws ∷ []) c.proposed.ensures) c.in_ok-put_one.ensures) c.in_ok-put_votes.ensures c.put_one-2.ensures
