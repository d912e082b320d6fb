use Rattle.std.proofs.Common.{refl}
use Rattle.std.specs.List.Sorted.{IsStrictlySortedBy}
use Rattle.utxo_rules.proofs.asset_sums.assets_at.Goals as goal

pub returns-in-None-clause-sound : goal.returns-in-None-clause-sound
unfolding IsStrictlySortedBy
returns-in-None-clause-sound c = (tt, refl)
