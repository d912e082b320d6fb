-- A genesis gives a good World.
use Rattle.std.proofs.Common.{refl, arith}
use Rattle.std.specs.List.{IsDistinct}
use Rattle.tx_records.specs.declared.genesis.Genesis.{Genesis}
use Rattle.run_model.specs.Genesis.{world_of_genesis}
use Rattle.genesis_balance.proofs.Start.{genesis_is_sound}
use Rattle.run_laws.proofs.Good.{IsGood}

pub genesis_good : (g : Genesis) → IsGood (world_of_genesis g)
unfolding IsDistinct
genesis_good g = record {
  ledger = record { sound = genesis_is_sound g; own = tt; used = tt };
  frozen_own = tt;
  frozen = record { epoch = refl; state = refl; treasury = omega arith; pending = λ u e. cc; live = λ a h. (a, h, refl) };
}
