use Rattle.std.proofs.Common.{ℕ, Result, map}
use Rattle.byte_lines.specs.declared.sink.SinkFault.{SinkFault}
use Rattle.gov_ids.specs.Orders.{credential_cmp}
use Rattle.report.specs.Taking.{HasPut}
use Rattle.text_model.specs.StateLines.{account_words}
use Rattle.view_map.specs.View.{frozen_of}
use Rattle.frozen_print.proofs.entries.put_entries.Given as goal

-- with what is handed over of the entries that are left, all are handed over
abbrev pub invariant-loop-credential : goal.invariant-loop-credential
invariant-loop-credential g l =
    (t : g.T.LineTaker.Taken) (f : ℕ) (r : Result (Unit {0}) SinkFault)
    → HasPut g.T.LineTaker.with_line g.T.LineTaker.IsPart l.line (g.T.LineTaker.taken l.to) (map account_words l.credential-iterator) t (g.T.LineTaker.faults l.to) f r
    → HasPut g.T.LineTaker.with_line g.T.LineTaker.IsPart l.line (g.T.LineTaker.taken l.fn.to) (map account_words (frozen_of credential_cmp l.accounts)) t (g.T.LineTaker.faults l.fn.to) f r
