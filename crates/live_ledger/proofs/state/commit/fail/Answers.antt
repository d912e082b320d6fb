use Rattle.std.proofs.Common.{◌≡◌, ◌-◌, arith, sym, subst, ◌∙◌}
use Rattle.tx_records.proofs.Parts.{tx_parts}
use Rattle.draft_changes.specs.of_ledger_books.Parts.{ledger_of_books}
use Rattle.ledger_model.specs.Ledger.{Ledger}
use Rattle.ledger_model.specs.UtxoRules.{collateral_left}
use Rattle.live_ledger.specs.Kept.{IsLiveLedger}
use Rattle.live_ledger.proofs.Committing.{fails}
use Rattle.live_ledger.proofs.Parts.{failed_parts}
use Rattle.live_ledger.proofs.state.commit.fail.Goals as goal

pub move_collateral-requires : goal.move_collateral-requires
move_collateral-requires c =
    let f = fails (ledger_of_books c.args.b.now) c.args.tx.now c.requires.kept c.requires.within c.requires.allowed c.requires.failed in
    record {
      in_order = c.requires.kept.sound.outputs;
      few = (tx_parts c.args.tx.now c.requires.within).outputs;
      absent = f.absent;
      room = f.room;
      held = omega (arith, f.taken);
    }

pub overflow_sub-b : goal.overflow_sub-b
overflow_sub-b c =
    let f = fails (ledger_of_books c.args.b.now) c.args.tx.now c.requires.kept c.requires.within c.requires.allowed c.requires.failed in
    omega (arith, c.in_ok-collateral.ensures.left, f.taken, f.covered, c.returned.ensures)

pub overflow_add-b : goal.overflow_add-b
overflow_add-b c = omega (arith, c.in_ok-collateral.ensures.left, c.requires.kept.balanced, c.requires.kept.within)

pub returns : goal.returns
returns c =
    let l = ledger_of_books c.args.b.now in
    let f = fails (ledger_of_books c.args.b.now) c.args.tx.now c.requires.kept c.requires.within c.requires.allowed c.requires.failed in
    let paid : c.in_ok-collateral.collateral - c.returned.result ≡ collateral_left l c.args.tx.now = omega (arith, c.in_ok-collateral.ensures.left, f.taken, f.covered, c.returned.ensures) in
    let made = c.in_ok-collateral.ensures.made in
    let is = failed_parts l c.args.tx.now c.args.b.now.stake c.move_collateral.new.stake _ made paid in
    record { ledger = is ∙ f.is; kept = subst (λ (x : Ledger). IsLiveLedger x) (sym is) f.kept; frozen = made.kept.frozen }
