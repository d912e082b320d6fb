use Rattle.std.proofs.Common.{rules}
use Rattle.bare_lines.proofs.LentPuts.{put_through}
use Rattle.checkpoint_print.specs.Frozen.{frozen_parts}
use Rattle.checkpoint_print.proofs.FrozenLines.{handed}
use Rattle.checkpoint_print.proofs.frozen.put_frozen.Goals as goal

pub returns : goal.returns
returns g c =
    handed g.T.LineTaker.with_line g.T.LineTaker.IsPart _ _ (frozen_parts c.args.s.now.frozen) _ _ c.put_parts.result
    (put_through g.T.LineTaker.taken g.T.LineTaker.faults c.put_parts.new.to.to.now _ c.put_parts.result c.put_parts.ensures (search rules))
