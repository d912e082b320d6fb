use Rattle.std.proofs.Common.{rules}
use Rattle.bare_lines.proofs.LentPuts.{put_through}
use Rattle.held_ledger.proofs.held.put_bare_shortfall.Goals as goal

pub returns : goal.returns
returns g c =
    put_through g.T.LineTaker.taken g.T.LineTaker.faults c.put_shortfall.new.to.to.now _ c.put_shortfall.result c.put_shortfall.ensures (search rules)
