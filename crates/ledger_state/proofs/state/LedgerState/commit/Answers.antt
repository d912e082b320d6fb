use Rattle.std.proofs.Common.{ap, sym, ◌∙◌}
use Rattle.ledger_model.specs.Broken.{is_allowed}
use Rattle.ledger_model.specs.Ledger.{Ledger}
use Rattle.ledger_model.specs.Transaction.{ledger_after_tx}
use Rattle.live_ledger.specs.of_draft_changes.Changed.{laid_over}
use Rattle.live_ledger.specs.Drafts.{draft_of}
use Rattle.run_model.specs.World.{World, on_ledger}
use Rattle.ledger_state.specs.contracts.state.LedgerState.{the_view}
use Rattle.ledger_state.proofs.Steps.{tx_sound}
use Rattle.ledger_state.proofs.Worlds.{held_after, held_along, moved_is}
use Rattle.ledger_state.proofs.state.LedgerState.commit.Goals as goal

pub commit-requires : goal.commit-requires
commit-requires c =
    let tx = c.args.tx.now in
    record {
      within = c.requires.within;
      allowed = ap (λ (w : World). is_allowed w.ledger tx) c.self.view_is ∙ c.requires.allowed;
      drafted = ap (λ (w : World). laid_over c.args.changes w.ledger) c.self.view_is ∙ c.requires.drafted ∙ sym (ap (λ (w : World). draft_of w.ledger tx) c.self.view_is);
    }

pub invariant_of-result : goal.invariant_of-result
invariant_of-result c =
    let tx = c.args.tx.now in
    let a = c.self.inside in
    let w = the_view a in
    let is = moved_is (λ (l : Ledger). ledger_after_tx l tx) a.live c.in-Ok.live a.snapshots a.pending a.frozen a.pulser c.in-Ok.ensures in
    held_along _ _ a.frozen a.pulser (sym is)
    (held_after w (on_ledger (λ (l : Ledger). ledger_after_tx l tx) w) a.frozen a.pulser a.pulser c.self.invariant (λ i. w.frozen) c.self.invariant.counts
    (tx_sound w tx c.self.invariant.sound c.requires.within (ap (λ (x : World). is_allowed x.ledger tx) c.self.view_is ∙ c.requires.allowed)))

pub returns-in-Ok : goal.returns-in-Ok
returns-in-Ok c =
    let tx = c.args.tx.now in
    let a = c.self.inside in
    moved_is (λ (l : Ledger). ledger_after_tx l tx) a.live c.in-Ok.live a.snapshots a.pending a.frozen a.pulser c.in-Ok.ensures
    ∙ ap (on_ledger (λ (l : Ledger). ledger_after_tx l tx)) c.self.view_is
