use Rattle.std.proofs.Common.{◌≡◌, [], take}
use Rattle.asset_fronts.specs.Fronts.{AreSound, fronts}
use Rattle.assets.specs.Balances.{balance_of}
use Rattle.ledger_model.specs.UtxoRules.{assets_at}
use Rattle.utxo_rules.proofs.asset_sums.taken_by.Given as goal

-- the fronts of the references so far are taken
abbrev pub invariant-loop-at : goal.invariant-loop-at
invariant-loop-at l = record {
  balance : l.balance ≡ balance_of (fronts (assets_at l.s.ledger) l.named (take l.at-index l.refs)) [];
  sound : AreSound (assets_at l.s.ledger) (take l.at-index l.refs);
}
