use Rattle.std.proofs.Common.{◌≡◌, ℕ, sum_by, ap, arith}
use Rattle.snapshots.specs.declared.frozen.FrozenPool.{FrozenPool}
use Rattle.pass_replay.proofs.checked.check_pools.Goals as goal

pub returns : goal.returns
returns c =
    let stake : FrozenPool → ℕ = λ p. p.stake in
    let all : sum_by stake c.as_slice.result.now ≡ sum_by stake c.args.f.now.pools = ap (sum_by stake) c.as_slice.ensures in
    omega (arith, all)
