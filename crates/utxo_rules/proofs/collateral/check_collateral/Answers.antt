use Rattle.std.proofs.Common.{sym, ◌∙◌}
use Rattle.ledger_model.specs.Checks.{answer_of, per_place}
use Rattle.utxo_rules.proofs.Repeated.{same_answer}
use Rattle.utxo_rules.proofs.Stops.{collateral_stops}
use Rattle.utxo_rules.specs.Repeated.{collateral_checks_by, is_at}
use Rattle.utxo_rules.proofs.collateral.check_collateral.Goals as goal

pub returns : goal.returns
returns c =
    let l = c.args.s.now.ledger in
    let tx = c.args.tx.now in
    c.check_each.ensures
    ∙ (λ j. answer_of (per_place (λ i r. collateral_checks_by l tx (is_at (c.first_repeated-repeated.ensures j) i) r) (c.as_slice.ensures j)))
    ∙ sym (same_answer (collateral_checks_by l tx) (collateral_stops l tx) tx.collateral)
