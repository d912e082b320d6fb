-- The turn of a line is that of the replay, with its other number.
use Rattle.std.proofs.Common.{◌≡◌, Err, Option, Some, ap, rules, sym, ◌∙◌, ◌+◌, ◌-◌, ℕ}
use Rattle.std.specs.Option.{option_copied}
use Rattle.std.specs.Prelude.{option_map}
use Rattle.line_runs.specs.declared.fault.RunFault.TheVariants as faults
use Rattle.record_stream.specs.Records.{reading_of_line}
use Rattle.run_model.specs.World.{World}
use Rattle.replay_loop.specs.Plays.{Stood}
use Rattle.resume_loop.specs.Plays.{Resumed}
use Rattle.resume_loop.proofs.Turned.{at_world, counted_writes, line_lacking, line_turned, never_reads}
use Rattle.resume_loop.proofs.renumbered.RenumberedLineCommand.line.Goals as goal

pub returns-in_err-counted-clause-turns : goal.returns-in_err-counted-clause-turns
returns-in_err-counted-clause-turns g c =
    let is : c.from_residual.result ≡ Err faults.NoMemory = search rules in
    λ s at.
    rw is
    (line_lacking (λ p. (option_map g.R.RunState.world c.args.self.now.records.state ≡ Some p.world) × (c.args.self.now.passed ≡ p.passed) × (c.args.self.now.line ≡ p.line))
    s c.args.number (reading_of_line (option_copied c.args.line)) _)

pub returns-clause-turns : goal.returns-clause-turns
returns-clause-turns g c = λ s at.
    rw c.resumed.ensures
    (line_turned
    (λ (p : Stood (Unit {0})). p ≡ record { state = option_map g.R.RunState.world c.line.new.self.state; kept = tt })
    (λ (p : Resumed). (option_map g.R.RunState.world c.line.new.self.state ≡ Some p.world) × (c.args.self.now.passed ≡ p.passed) × (c.args.self.now.line ≡ p.line))
    s
    (λ v h. (sym (ap (λ (p : Stood (Unit {0})). p.state) h), at.1, at.2))
    c.args.number _ (reading_of_line (option_copied c.args.line)) _ _ c.line.result
    (c.in_ok-counted.ensures ∙ ap (λ (k : ℕ). (c.args.number - k) + c.args.self.now.line) at.1 ∙ ap (λ (k : ℕ). (c.args.number - s.passed) + k) at.2)
    (c.line.ensures.turns (at_world s.world) (sym (ap (λ (o : Option World). record { state = o; kept = tt }) at.0))))

pub returns-clause-reads : goal.returns-clause-reads
returns-clause-reads g c = rw c.resumed.ensures (never_reads c.line.result c.line.ensures.reads)

pub returns-clause-counts : goal.returns-clause-counts
returns-clause-counts g c = rw c.resumed.ensures (counted_writes c.line.result c.line.ensures.counts)
