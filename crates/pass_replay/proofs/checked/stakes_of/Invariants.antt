use Rattle.std.proofs.Common.{◌≡◌, ◌+◌, ℕ, drop, sum_by}
use Rattle.gov_ids.specs.declared.Credential.{Credential}
use Rattle.gov_ids.specs.declared.Drep.TheVariants as drep
use Rattle.drep_pulser.specs.Count.{sum_for}
use Rattle.pass_replay.proofs.checked.stakes_of.Given as goal

-- the sum so far with the stakes that are left
abbrev pub invariant-loop-d : goal.invariant-loop-d
invariant-loop-d l =
    l.sum + sum_by (λ (d : Credential × ℕ). sum_for l.c.sums (drep.Registered d.0)) (drop l.d-index l.dreps)
    ≡ sum_by (λ (d : Credential × ℕ). sum_for l.c.sums (drep.Registered d.0)) l.dreps
