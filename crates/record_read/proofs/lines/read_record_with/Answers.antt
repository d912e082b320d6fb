use Rattle.std.proofs.Common.{arith}
use Rattle.std.proofs.lemmas.Grind.{common_steps}
use Rattle.record_read.specs.Lines.{record_of_line}
use Rattle.record_read.specs.Reads.{ReadsRecord}
use Rattle.record_read.proofs.RecordsGive.{within_from_reads}
use Rattle.record_read.proofs.lines.read_record_with.Goals as goal

pub returns-clause-within : goal.returns-clause-within
returns-clause-within c =
    let reads : ReadsRecord c.record.result (record_of_line c.args.line.now) = grind (arith, common_steps) in
    within_from_reads c.args.line.now c.record.result reads
