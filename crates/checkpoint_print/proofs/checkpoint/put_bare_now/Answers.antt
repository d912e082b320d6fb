use Rattle.std.proofs.Common.{rules}
use Rattle.bare_lines.proofs.LentPuts.{put_through}
use Rattle.checkpoint_print.proofs.checkpoint.put_bare_now.Goals as goal

pub returns : goal.returns
returns g c =
    put_through g.T.LineTaker.taken g.T.LineTaker.faults c.put_now.new.to.to.now _ c.put_now.result c.put_now.ensures (search rules)
