use Rattle.std.proofs.Common.{◌≡◌, drop, take}
use Rattle.ledger_model.specs.Checks.{answer_of, per_place, per_place_from}
use Rattle.utxo_rules.specs.Repeated.{input_checks_by, is_at}
use Rattle.utxo_rules.specs.Spent.{IsSpent}
use Rattle.utxo_rules.proofs.inputs.held_by.Given as goal

-- what the inputs so far hold, and the answer of the inputs that are left is that of all
abbrev pub invariant-loop-place : goal.invariant-loop-place
invariant-loop-place l = record {
  held : IsSpent l.s.ledger (take l.place l.refs) l.held;
  rest : answer_of (per_place_from (λ i r. input_checks_by l.s.ledger (is_at l.repeated i) r) l.place (drop l.place l.refs))
      ≡ answer_of (per_place (λ i r. input_checks_by l.s.ledger (is_at l.repeated i) r) l.refs);
}
