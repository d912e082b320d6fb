use Rattle.fewest_votes.proofs.Ranked.{dreps_are}
use Rattle.fewest_votes.proofs.ranking.Ranking.of.Goals as goal

pub returns : goal.returns
returns c = λ s of. dreps_are s c.args.f.now c.args.c.now c.in_ok-ranks.ranks.keys c.in_ok-dreps.dreps.items of c.in_ok-ranks.ensures c.in_ok-dreps.ensures
