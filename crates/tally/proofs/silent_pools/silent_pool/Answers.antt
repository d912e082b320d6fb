use Rattle.std.proofs.Common.{Some, None, sym, ◌∙◌}
use Rattle.tally.proofs.SilentPools.{found_pool, no_pool}
use Rattle.tally.proofs.silent_pools.silent_pool.Goals as goal

pub returns-in_default : goal.returns-in_default
returns-in_default c = sym (no_pool c.args.a.now c.args.voter.now c.args.f.now.pools c.in_default.not-Pool)

pub returns-in_err-p : goal.returns-in_err-p
returns-in_err-p c =
    c.from_residual.ensures
    ∙ found_pool c.args.a.now c.args.voter.now c.in-Pool.pool c.args.f.now.pools c.as_slice.result.now None c.in-Pool.is c.as_slice.ensures c.in_err-p.ensures

pub returns : goal.returns
returns c =
    (λ i. Some (c.in_ok-p.p.stake, c.silent_side.ensures i))
    ∙ found_pool c.args.a.now c.args.voter.now c.in-Pool.pool c.args.f.now.pools c.as_slice.result.now (Some c.in_ok-p.p) c.in-Pool.is c.as_slice.ensures c.in_ok-p.ensures
