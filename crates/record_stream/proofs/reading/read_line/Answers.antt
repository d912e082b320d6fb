use Rattle.std.proofs.Common.{Bool, None, Some, ap, sym, ◌∙◌, if◌then◌else◌}
use Rattle.record_read.specs.Lines.{record_of_line}
use Rattle.record_stream.specs.Records.{reading_by}
use Rattle.tx_records.specs.declared.record.Reading.{Reading}
use Rattle.record_stream.proofs.reading.read_line.Goals as goal

pub returns : goal.returns
returns c = record {
  says =
      ap (λ (r : Reading). Some r) (c.in_ok-reading.ensures.says (record_of_line c.args.line.now) c.read_record_with.ensures.reads)
      ∙ sym (ap (λ (b : Bool). if b then None else Some (reading_by (record_of_line c.args.line.now))) (sym c.is_blank.ensures ∙ c.if-is_blank.false));
  within = c.in_ok-reading.ensures.within c.read_record_with.ensures.within;
}
