use Rattle.std.proofs.Common.{◌∙◌}
use Rattle.std.proofs.lemmas.Result.{on_ok_weaker, on_err_weaker}
use Rattle.text_model.specs.EpochLines.{epoch_lines}
use Rattle.report.proofs.SinkBytes.{all_bytes, first_bytes}
use Rattle.report.proofs.sinks.write_epoch.Goals as goal

pub returns-clause-ok : goal.returns-clause-ok
returns-clause-ok g c =
    on_ok_weaker c.put_epoch.result
    (λ all. all ∙ all_bytes c.args.line (g.K.Sink.taken c.args.sink.now) (epoch_lines c.args.report.now c.args.pots.now)) c.put_epoch.ensures.ok

pub returns-clause-err : goal.returns-clause-err
returns-clause-err g c =
    on_err_weaker c.put_epoch.result
    (first_bytes c.args.line (g.K.Sink.taken c.args.sink.now) (g.K.Sink.taken c.put_epoch.new.to) (epoch_lines c.args.report.now c.args.pots.now)) c.put_epoch.ensures.err
