-- The turn of the end is that of the replay.
use Rattle.std.proofs.Common.{◌≡◌, Err, Option, ap, rules, sym}
use Rattle.line_runs.specs.declared.fault.RunFault.TheVariants as faults
use Rattle.run_model.specs.World.{World}
use Rattle.resume_loop.proofs.Turned.{at_world, counted_writes, end_lacking, end_turned, never_reads}
use Rattle.resume_loop.proofs.renumbered.RenumberedLineCommand.end.Goals as goal

pub returns-in_err-counted-clause-turns : goal.returns-in_err-counted-clause-turns
returns-in_err-counted-clause-turns g c =
    let is : c.from_residual.result ≡ Err faults.NoMemory = search rules in
    λ s at. rw is (end_lacking _)

pub returns-clause-turns : goal.returns-clause-turns
returns-clause-turns g c = λ s at.
    rw c.resumed.ensures
    (end_turned s.world 0 _ _ c.end.result (c.end.ensures.turns (at_world s.world) (sym (ap (λ (o : Option World). record { state = o; kept = tt }) at.0))))

pub returns-clause-reads : goal.returns-clause-reads
returns-clause-reads g c = rw c.resumed.ensures (never_reads c.end.result c.end.ensures.reads)

pub returns-clause-counts : goal.returns-clause-counts
returns-clause-counts g c = rw c.resumed.ensures (counted_writes c.end.result c.end.ensures.counts)
