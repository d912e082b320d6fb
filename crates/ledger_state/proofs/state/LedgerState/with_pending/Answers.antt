use Rattle.std.proofs.Common.{Some, ap, sym, subst}
use Rattle.run_model.specs.SoundWorld.{IsSoundWorld}
use Rattle.run_model.specs.World.{World}
use Rattle.ledger_state.specs.contracts.state.LedgerState.{the_view}
use Rattle.ledger_state.proofs.Worlds.{held_after}
use Rattle.ledger_state.proofs.state.LedgerState.with_pending.Goals as goal

pub invariant_of-result : goal.invariant_of-result
invariant_of-result c =
    let a = c.self.inside in
    let w = the_view a in
    held_after w (record w { pending = Some c.args.update }) a.frozen a.pulser a.pulser c.self.invariant (λ i. w.frozen) c.self.invariant.counts
    (subst (λ (x : World). IsSoundWorld (record x { pending = Some c.args.update })) (sym c.self.view_is) c.requires)

pub returns : goal.returns
returns c = ap (λ (x : World). record x { pending = Some c.args.update }) c.self.view_is
