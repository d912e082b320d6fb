use Rattle.std.proofs.Common.{◌∙◌}
use Rattle.gov_ids.proofs.Sames.{action_same}
use Rattle.proposal_rows.proofs.votes.is_on.Goals as goal

pub returns : goal.returns
returns c = c.eq.ensures ∙ (λ i. action_same i c.args.row.now.0 c.args.id.now)
