use Rattle.std.proofs.Common.{◌≡◌, drop, take}
use Rattle.ledger_model.specs.Checks.{per_place, per_place_from}
use Rattle.ledger_model.specs.UtxoRules.{input_checks}
use Rattle.out_refs.proofs.Fronts.{HasFront}
use Rattle.rule_checks.specs.Told.{told_with}
use Rattle.utxo_rules.proofs.told_rules.tell_inputs.Given as goal

-- the set has those that stand before; what is told, and the rules on those that are left, are all
abbrev pub invariant-loop-place : goal.invariant-loop-place
invariant-loop-place l = record {
  seen : HasFront l.seen.keys (take l.place l.at-items);
  rest : told_with (per_place_from (input_checks l.s.ledger l.tx) l.place (drop l.place l.at-items)) l.told
      ≡ told_with (per_place (input_checks l.s.ledger l.tx) l.at-items) l.fn.told;
  same : l.at-items ≡ l.tx.inputs;
}
