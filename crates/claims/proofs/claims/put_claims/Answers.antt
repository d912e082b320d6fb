use Rattle.std.proofs.Common.{rules}
use Rattle.bare_lines.proofs.LentPuts.{put_through}
use Rattle.claims.proofs.claims.put_claims.Goals as goal

pub returns : goal.returns
returns g c = λ s of.
    put_through g.T.LineTaker.taken g.T.LineTaker.faults c.put_numbered.new.to.to.now _ c.put_numbered.result (c.put_numbered.ensures s of) (search rules)
