use Rattle.std.proofs.Common.{None, refl}
use Rattle.std.proofs.lemmas.Slice.Zip.{either_empty_from_Zip}
use Rattle.report.proofs.Joined.{none_left}
use Rattle.report.proofs.replies.push_kept.Goals as goal

pub returns : goal.returns
returns c =
    let left = c.loop-word.word-iterator in
    none_left c.loop-word.line.items _ left.a.rest.now left.b.rest.now (either_empty_from_Zip left left None refl c.in-None.ensures.steps) c.loop-word.invariant
