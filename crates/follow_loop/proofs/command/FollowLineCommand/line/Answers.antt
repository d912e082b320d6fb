use Rattle.std.proofs.Common.{◌≡◌, Err, rules}
use Rattle.std.specs.Option.{option_copied}
use Rattle.line_runs.specs.declared.fault.RunFault.TheVariants as faults
use Rattle.follow_loop.specs.Readings.{follow_reading_of_line}
use Rattle.follow_loop.specs.Turns.{StandsAt}
use Rattle.follow_loop.proofs.Turned.{line_lacking}
use Rattle.follow_loop.proofs.command.FollowLineCommand.line.Goals as goal

pub returns-in_err-read-clause-turns : goal.returns-in_err-read-clause-turns
returns-in_err-read-clause-turns g c =
    let is : c.from_residual.result ≡ Err faults.NoMemory = search rules in
    λ s at.
    rw is
    (line_lacking (λ p. StandsAt g.R.FollowState.follows c.args.self.now.state p) s c.args.number (follow_reading_of_line (option_copied c.args.line)) _)
