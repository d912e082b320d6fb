use Rattle.std.proofs.Common.{List, subst, ◌∙◌}
use Rattle.std.specs.Prelude.{String}
use Rattle.std.specs.declared.alloc.Global.{Global}
use Rattle.command_runs.specs.RunsAs.{RunsAs}
use Rattle.commands.proofs.exit.run_to_exit.Goals as goal

pub returns : goal.returns
returns g c = record {
  runs = (
    c.run-status.result,
    c.from.ensures ∙ c.number.ensures,
    subst (λ (words : List (String Global)). RunsAs (record { left = g.S.Source.left; failed_reads = g.S.Source.faults; taken = g.K.Sink.taken; failed_writes = g.K.Sink.faults })
        (c.args.source.now, c.args.sink.now) (c.run-status.new.source, c.run-status.new.sink) c.run-status.result words) c.after_name.ensures c.run-status.ensures.runs,
  );
}
