use Rattle.line_parts.proofs.Groups.{one_group}
use Rattle.line_parts.proofs.group.AsPart.read_part.Goals as goal

-- src/group.rt:50:5
pub returns-in-Some-clause-reads : goal.returns-in-Some-clause-reads
returns-in-Some-clause-reads g c fits =
    let p = g.P.Part in
    let t = g.T.GroupOf in
    let laws = c.laws.ensures in
    one_group p.shape p.form p.words t.form t.rows t.items laws.rows laws.form laws.one c.of.result c.in-Some.items c.of.ensures (rw c.in-Some.is at c.in_ok-items.ensures.reads fits)
