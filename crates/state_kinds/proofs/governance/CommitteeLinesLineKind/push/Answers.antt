-- The last word is that of the threshold.
use Rattle.std.proofs.Common.{sym}
use Rattle.state_kinds.proofs.governance.CommitteeLinesLineKind.push.Goals as goal

pub returns-in-Some : goal.returns-in-Some
returns-in-Some c = rw (c.in-Some.is, sym c.num.ensures, sym c.den.ensures.value) c.push_line-in-Some.ensures
