use Rattle.std.proofs.Common.{refl, ap}
use Rattle.report.proofs.Puts.{put_first_as, put_second_as}
use Rattle.text_model.specs.StateLines.{proposal_lines}
use Rattle.voting_lines.specs.Told.{tally_lines}
use Rattle.voting_lines.proofs.told.put_told.Goals as goal

pub returns-in_err-put_proposal : goal.returns-in_err-put_proposal
returns-in_err-put_proposal g c =
    put_first_as _ (proposal_lines c.args.proposal.now) (tally_lines c.args.ahead.now.tallies c.args.proposal.now.id)
    refl c.in_err-put_proposal.ensures c.from_residual.ensures.1

pub returns : goal.returns
returns g c =
    put_second_as _ (proposal_lines c.args.proposal.now) _ (tally_lines c.args.ahead.now.tallies c.args.proposal.now.id)
    refl (ap (tally_lines c.args.ahead.now.tallies) c.id.ensures) c.in_ok-put_proposal.ensures c.put_tally.ensures
