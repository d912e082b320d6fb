use Rattle.std.proofs.Common.{◌≡◌, ℕ, sum_by, ap, arith}
use Rattle.gov_ids.specs.declared.Credential.{Credential}
use Rattle.gov_ids.specs.declared.Drep.TheVariants as drep
use Rattle.drep_pulser.specs.Count.{sum_for}
use Rattle.pass_replay.proofs.checked.check_dreps.Goals as goal

pub returns : goal.returns
returns c =
    let weigh : Credential × ℕ → ℕ = λ d. sum_for c.args.c.now.sums (drep.Registered d.0) in
    let all : sum_by weigh c.as_slice.result.now ≡ sum_by weigh c.args.f.now.dreps = ap (sum_by weigh) c.as_slice.ensures in
    omega (arith, all, c.stake.ensures.sum, c.stake-2.ensures.sum)
