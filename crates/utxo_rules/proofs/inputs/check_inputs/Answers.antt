use Rattle.std.proofs.Common.{sym, ◌∙◌}
use Rattle.ledger_model.specs.Checks.{answer_of, per_place}
use Rattle.utxo_rules.proofs.Repeated.{same_answer}
use Rattle.utxo_rules.proofs.Stops.{input_stops}
use Rattle.utxo_rules.specs.Repeated.{input_checks_by, is_at}
use Rattle.utxo_rules.proofs.inputs.check_inputs.Goals as goal

pub returns-clause-rule : goal.returns-clause-rule
returns-clause-rule c =
    let l = c.args.s.now.ledger in
    c.held_by.ensures.rule
    ∙ (λ j. answer_of (per_place (λ i r. input_checks_by l (is_at (c.first_repeated-repeated.ensures j) i) r) (c.as_slice.ensures j)))
    ∙ sym (same_answer (input_checks_by l) (input_stops l) c.args.tx.now.inputs)
