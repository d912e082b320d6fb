use Rattle.std.proofs.Common.{ap, subst, sym}
use Rattle.draft_changes.specs.of_ledger_books.declared.Books.{Books}
use Rattle.draft_changes.specs.of_ledger_books.Parts.{ledger_of_books}
use Rattle.ledger_model.specs.Ledger.{Ledger}
use Rattle.live_ledger.specs.Kept.{IsLiveLedger}
use Rattle.live_ledger.proofs.Slots.{kept_at}
use Rattle.live_ledger.proofs.state.LiveLedger.at_slot.Goals as goal

pub invariant_of-result : goal.invariant_of-result
invariant_of-result c =
    let held = ap (λ (b : Books). ledger_of_books b) c.deref_mut.ensures.value in
    kept_at c.args.slot _ (subst (λ (l : Ledger). IsLiveLedger l) (sym held) c.self.invariant)
