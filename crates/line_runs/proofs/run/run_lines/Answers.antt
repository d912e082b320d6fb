use Rattle.std.proofs.Common.{◌≡◌, Err, false, true}
use Rattle.line_runs.specs.declared.fault.RunFault.TheVariants as faults
use Rattle.line_runs.proofs.Ends.{closed, failed}
use Rattle.line_runs.proofs.run.run_lines.Goals as goal

pub returns-then-is_write_fault-clause-runs : goal.returns-then-is_write_fault-clause-runs
returns-then-is_write_fault-clause-runs g c = λ s bytes given at read.
    let is : c.read_on-ended.result ≡ Err faults.WriteFault = c.is_write_fault.ensures.0 c.if-is_write_fault.true in
    let leaves = rw is at (c.read_on-ended.ensures.leaves s bytes given at read c.new-batch.ensures.items) in
    rw is (failed _ bytes _ _ _ leaves)

pub returns-clause-runs : goal.returns-clause-runs
returns-clause-runs g c = λ s bytes given at read.
    closed _ bytes _ _ _ c.read_on-ended.result c.close.result _ (c.read_on-ended.ensures.leaves s bytes given at read c.new-batch.ensures.items)
    (λ is. let no : false ≡ true = c.if-is_write_fault.ensures.1 is in cc) c.close.ensures.closes
