use Rattle.std.proofs.Common.{◌≡◌, Some, Err, ap, refl, rules}
use Rattle.line_runs.specs.declared.fault.RunFault.TheVariants as faults
use Rattle.load_model.specs.Stream.{bytes_of_load}
use Rattle.record_stream.specs.Records.{records_of}
use Rattle.replay_loop.proofs.Loads.{has_summary, loaded, none_rose, nothing_written}
use Rattle.replay_loop.proofs.loading.load.Goals as goal

pub returns-in_err-source-clause-loads : goal.returns-in_err-source-clause-loads
returns-in_err-source-clause-loads g c =
    let command = c.args.command in
    let is : c.from_residual.result ≡ Err faults.NoMemory = search rules in
    rw is
    (nothing_written command (g.K.Sink.taken c.args.sink.now) _
    (has_summary command (records_of (bytes_of_load command.seed command.accounts command.epochs)) (c.made_streams.ensures.begins command.seed command.accounts command.epochs)))

pub returns-clause-loads : goal.returns-clause-loads
returns-clause-loads g c =
    let command = c.args.command in
    let bytes = bytes_of_load command.seed command.accounts command.epochs in
    let run = rw c.new-2.ensures at (c.tell_records.ensures.runs bytes (ap Some c.in_ok-source.ensures)) in
    loaded c.whole_lines.ensures.adds_up c.summary_is_counted.ensures command bytes refl (c.made_streams.ensures.begins command.seed command.accounts command.epochs) c.tell_records.result _ _ _
    (c.made_streams.ensures.short command.seed command.accounts command.epochs c.requires.within.accounts c.requires.within.epochs)
    (λ is. none_rose _ c.tell_records.ensures.reads is) run
