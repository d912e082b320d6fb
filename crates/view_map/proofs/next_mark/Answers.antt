use Rattle.view_map.proofs.Marks.{before-next}
use Rattle.view_map.proofs.next_mark.Goals as goal

pub returns-in-Some-clause-marks : goal.returns-in-Some-clause-marks
returns-in-Some-clause-marks g c = before-next c.args.mark c.in-Some.next c.args.live.now.entries c.in-Some.ensures.1 c.requires
