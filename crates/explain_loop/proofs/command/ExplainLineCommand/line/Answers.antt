use Rattle.std.proofs.Common.{◌≡◌, Err, rules}
use Rattle.std.specs.Option.{option_copied}
use Rattle.line_runs.specs.declared.fault.RunFault.TheVariants as faults
use Rattle.explain_print.specs.of_explain_model.of_record_notes.Lines.{noted_of_line}
use Rattle.explain_loop.specs.Plays.{Standing}
use Rattle.explain_loop.specs.Turns.{standing_of}
use Rattle.explain_loop.proofs.Turned.{line_lacking}
use Rattle.explain_loop.proofs.command.ExplainLineCommand.line.Goals as goal

pub returns-in_err-read-clause-turns : goal.returns-in_err-read-clause-turns
returns-in_err-read-clause-turns g c =
    let is : c.from_residual.result ≡ Err faults.NoMemory = search rules in
    λ s at.
    rw is
    (line_lacking (λ (p : Standing). p ≡ standing_of g.R.RunState.world c.args.self.now.place) s c.args.number (noted_of_line (option_copied c.args.line)) _)
