use Rattle.std.proofs.Common.{◌∙◌}
use Rattle.fewest_votes.proofs.Ranked.{lacks}
use Rattle.fewest_votes.proofs.ranking.Ranking.shortfall.Goals as goal

pub returns : goal.returns
returns c = lacks c.args.f.now c.args.a.now c.args.self.now c.as_slice.result.now c.args.count c.need-need.result c.short_in.result (c.as_slice.ensures.value ∙ c.self.view_is) c.need-need.ensures c.short_in.ensures
