use Rattle.std.proofs.Common.{◌≡◌, IfOk, true, sym, subst}
use Rattle.run_model.specs.Step.{step}
use Rattle.tx_records.specs.declared.record.Record.{Record}
use Rattle.tx_records.specs.RecordLimits.{is_within_limits}
use Rattle.undo_before.proofs.Stepping.{no_tx, other_held, tx_from}
use Rattle.undo_model.specs.Holds.{Holds}
use Rattle.undo_model.specs.Undone.{Before}
use Rattle.undo_before.proofs.records.before.Goals as goal

pub before_tx-requires : goal.before_tx-requires
before_tx-requires c = record { within = subst (λ (r : Record). is_within_limits r ≡ true) (sym (tx_from c.args.r.now c.in-Some.tx.now c.in-Some.ensures)) c.requires.within }

pub returns-in-Some : goal.returns-in-Some
returns-in-Some c = λ stays.
    subst (λ (r : Record). IfOk c.before_tx.result (λ (b : Before). Holds c.args.s.now b (step c.args.s.now r).0))
    (tx_from c.args.r.now c.in-Some.tx.now c.in-Some.ensures) c.before_tx.ensures

pub returns-in-None : goal.returns-in-None
returns-in-None c = λ stays.
    subst (λ (b : Before). Holds c.args.s.now b (step c.args.s.now c.args.r.now).0) (sym c.before_other.ensures)
    (other_held c.args.s.now c.args.r.now (no_tx c.args.r.now c.in-None.ensures) stays)
