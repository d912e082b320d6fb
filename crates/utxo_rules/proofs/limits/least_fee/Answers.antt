use Rattle.std.proofs.Common.{◌^◌, arith}
use Rattle.std.proofs.lemmas.Nat.{mul-le}
use Rattle.utxo_rules.proofs.limits.least_fee.Goals as goal

pub overflow_add-result : goal.overflow_add-result
overflow_add-result c = omega (arith, mul-le c.from.result c.from-2.result (2 ^ 64) (2 ^ 32) (omega arith) (omega arith))
