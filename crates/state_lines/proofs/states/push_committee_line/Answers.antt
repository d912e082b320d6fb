use Rattle.std.proofs.Common.{sym}
use Rattle.state_lines.proofs.states.push_committee_line.Goals as goal

pub returns-in-Some : goal.returns-in-Some
returns-in-Some c = rw (c.in-Some.is, sym c.num.ensures, sym c.den.ensures.value) c.push_line-in-Some.ensures
