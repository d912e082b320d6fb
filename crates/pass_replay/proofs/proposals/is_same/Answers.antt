use Rattle.std.proofs.Common.{◌∙◌}
use Rattle.gov_ids.proofs.Sames.{action_same}
use Rattle.pass_replay.proofs.proposals.is_same.Goals as goal

pub returns : goal.returns
returns c = c.eq.ensures ∙ (λ i. action_same i c.args.a c.args.b)
