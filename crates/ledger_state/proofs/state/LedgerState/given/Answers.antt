use Rattle.std.proofs.Common.{Some, sym, subst}
use Rattle.run_model.specs.SoundWorld.{IsSoundWorld}
use Rattle.run_model.specs.World.{World}
use Rattle.tx_records.specs.declared.record.Rewards.{Rewards}
use Rattle.ledger_state.proofs.Steps.{rewards_sound}
use Rattle.ledger_state.proofs.state.LedgerState.given.Goals as goal

pub with_pending-requires : goal.with_pending-requires
with_pending-requires c =
    subst (λ (u : Rewards). IsSoundWorld (record c.args.self { pending = Some u })) (sym c.in-Ok.ensures)
    (rewards_sound c.args.self c.args.update.now (subst (λ (w : World). IsSoundWorld w) c.self.view_is c.self.invariant.sound) c.requires.within c.requires.unbroken)
