use Rattle.follow_steps.proofs.Steps.{supply}
use Rattle.follow_steps.proofs.laws.followed_supply_stays.Goals as goal

pub returns : goal.returns
returns c = supply c.supply_stays.ensures
