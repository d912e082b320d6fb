use Rattle.std.proofs.Common.{ap, sym, ◌∙◌}
use Rattle.ledger_model.specs.Checks.{first_among}
use Rattle.run_model.specs.Step.{reward_checks}
use Rattle.run_model.specs.World.{World}
use Rattle.tx_records.specs.declared.record.Record.TheVariants as records
use Rattle.tx_records.specs.declared.reply.Reply.TheVariants.{Accepted}
use Rattle.ledger_state.proofs.Steps.{accepted, step_accepted}
use Rattle.ledger_state.proofs.state.LedgerState.rewards.Goals as goal

pub returns-in_ok-given-in-Ok : goal.returns-in_ok-given-in-Ok
returns-in_ok-given-in-Ok c =
    let unbroken = accepted (first_among (reward_checks c.args.self c.args.update.now)) c.in-Ok.field-0 c.in-Ok.ensures in
    ap (λ (w : World). (w, Accepted)) c.in_ok-given-in-Ok.ensures
    ∙ sym (step_accepted c.args.self (records.Rewards c.args.update.now) unbroken)
