use Rattle.std.proofs.Common.{ap, ◌∙◌}
use Rattle.ended_source.specs.Ended.{place_after}
use Rattle.ended_source.proofs.Steps.{whole_passed}
use Rattle.ended_source.proofs.ended.EndedLinesLineGiver.pass.Goals as goal

pub returns-in-Whole-clause-passes : goal.returns-in-Whole-clause-passes
returns-in-Whole-clause-passes g c = whole_passed c.in-Whole.is (c.place_after-self.ensures ∙ ap place_after c.text.ensures.line)
