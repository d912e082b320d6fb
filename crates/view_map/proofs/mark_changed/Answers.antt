use Rattle.std.proofs.Common.{sym}
use Rattle.view_map.proofs.Kept.{marked_at, not_there}
use Rattle.view_map.proofs.mark_changed.Goals as goal

pub returns-in_default-clause-unchanged : goal.returns-in_default-clause-unchanged
returns-in_default-clause-unchanged g c = not_there g.met.K.Ord.total c.args.k.now c.args.mark c.args.live.now.entries c.requires.in_order (sym c.in_default.ensures.value)

pub returns : goal.returns
returns g c =
    let all = marked_at g.met.K.Ord.total c.args.k.now c.args.mark _ _ c.args.live.now.entries _ c.requires.in_order c.requires.marks c.in-Some.ensures.value c.put_back.ensures in
    record { in_order = all.0; marks = all.1; values = all.2; unchanged = all.3 }
