use Rattle.std.proofs.Common.{◌≡◌, ap, subst, sym, ◌∙◌}
use Rattle.draft_changes.specs.Changed.{laid_over}
use Rattle.draft_changes.specs.of_ledger_books.declared.Books.{Books}
use Rattle.draft_changes.specs.of_ledger_books.Parts.{frozen_entries, ledger_of_books}
use Rattle.ledger_model.specs.Broken.{is_allowed}
use Rattle.ledger_model.specs.Draft.{last_draft}
use Rattle.ledger_model.specs.Ledger.{Ledger}
use Rattle.ledger_model.specs.Transaction.{ledger_after_tx}
use Rattle.live_ledger.specs.Kept.{IsLiveLedger}
use Rattle.live_ledger.specs.Standing.{Standing}
use Rattle.live_ledger.proofs.state.LiveLedger.passed.Goals as goal

pub pass-requires : goal.pass-requires
pass-requires c =
    let held = ap (λ (b : Books). ledger_of_books b) c.deref_mut.ensures.value in
    let is = held ∙ ap (λ (s : Standing). s.ledger) c.self.view_is in
    let tx = c.args.tx.now in
    record {
      kept = subst (λ (l : Ledger). IsLiveLedger l) (sym held) c.self.invariant;
      within = c.requires.within;
      allowed = ap (λ (l : Ledger). is_allowed l tx) is ∙ c.requires.allowed;
      passed = c.requires.passed;
      drafted = subst (λ (l : Ledger). laid_over c.args.changes l ≡ last_draft l tx) (sym is) c.requires.drafted;
    }

pub invariant_of-result : goal.invariant_of-result
invariant_of-result c = c.in-Ok.ensures.kept

pub returns-in-Ok : goal.returns-in-Ok
returns-in-Ok c =
    let held = c.deref_mut.ensures.value in
    let ledger = c.in-Ok.ensures.ledger ∙ ap (λ (b : Books). ledger_after_tx (ledger_of_books b) c.args.tx.now) held ∙ ap (λ (s : Standing). ledger_after_tx s.ledger c.args.tx.now) c.self.view_is in
    let frozen = c.in-Ok.ensures.frozen ∙ ap (λ (b : Books). frozen_entries b) held ∙ ap (λ (s : Standing). s.frozen) c.self.view_is in
    λ i. record { ledger = ledger i; frozen = frozen i }
