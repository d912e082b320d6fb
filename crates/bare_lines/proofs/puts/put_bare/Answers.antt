use Rattle.std.proofs.Common.{rules}
use Rattle.bare_lines.proofs.LentPuts.{put_through}
use Rattle.bare_lines.proofs.puts.put_bare.Goals as goal

pub returns : goal.returns
returns g c =
    put_through g.T.LineTaker.taken g.T.LineTaker.faults c.put_each.new.to.to.now _ c.put_each.result c.put_each.ensures (search rules)
