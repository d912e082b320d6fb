use Rattle.std.proofs.Common.{subst, sym}
use Rattle.report.specs.Taking.{HasPut}
use Rattle.replay_loop.specs.Outcomes.{outcome_lines}
use Rattle.replay_loop.specs.declared.outcome.Outcome.{Outcome}
use Rattle.replay_loop.proofs.outcome.Outcome.put.Goals as goal

pub returns-in-Pots : goal.returns-in-Pots
returns-in-Pots g c =
    subst (λ (o : Outcome). HasPut g.T.LineTaker.with_line g.T.LineTaker.IsPart c.args.line (g.T.LineTaker.taken c.args.to.now) (outcome_lines (g.R.RunState.world c.args.state.now) o) (g.T.LineTaker.taken c.put_one.new.to) (g.T.LineTaker.faults c.args.to.now) (g.T.LineTaker.faults c.put_one.new.to) c.put_one.result)
    (sym c.in-Pots.is) c.put_one.ensures

pub returns-in-Crossed : goal.returns-in-Crossed
returns-in-Crossed g c =
    subst (λ (o : Outcome). HasPut g.T.LineTaker.with_line g.T.LineTaker.IsPart c.args.line (g.T.LineTaker.taken c.args.to.now) (outcome_lines (g.R.RunState.world c.args.state.now) o) (g.T.LineTaker.taken c.put_crossing.new.to) (g.T.LineTaker.faults c.args.to.now) (g.T.LineTaker.faults c.put_crossing.new.to) c.put_crossing.result)
    (sym c.in-Crossed.is) c.put_crossing.ensures

pub returns-in-State : goal.returns-in-State
returns-in-State g c =
    subst (λ (o : Outcome). HasPut g.T.LineTaker.with_line g.T.LineTaker.IsPart c.args.line (g.T.LineTaker.taken c.args.to.now) (outcome_lines (g.R.RunState.world c.args.state.now) o) (g.T.LineTaker.taken c.put_state.new.to) (g.T.LineTaker.faults c.args.to.now) (g.T.LineTaker.faults c.put_state.new.to) c.put_state.result)
    (sym c.in-State.is) c.put_state.ensures

pub returns-in-Assets : goal.returns-in-Assets
returns-in-Assets g c =
    subst (λ (o : Outcome). HasPut g.T.LineTaker.with_line g.T.LineTaker.IsPart c.args.line (g.T.LineTaker.taken c.args.to.now) (outcome_lines (g.R.RunState.world c.args.state.now) o) (g.T.LineTaker.taken c.put_assets.new.to) (g.T.LineTaker.faults c.args.to.now) (g.T.LineTaker.faults c.put_assets.new.to) c.put_assets.result)
    (sym c.in-Assets.is) c.put_assets.ensures
