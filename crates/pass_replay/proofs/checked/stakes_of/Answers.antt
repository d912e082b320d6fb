use Rattle.std.proofs.Common.{◌≡◌, ℕ, [], get_or, arith}
use Rattle.std.proofs.lemmas.List.Sums.{sum_by-drop_more}
use Rattle.gov_ids.specs.declared.CredKind.TheVariants.{Key}
use Rattle.gov_ids.specs.declared.Credential.{Credential}
use Rattle.gov_ids.specs.declared.Drep.TheVariants as drep
use Rattle.drep_pulser.specs.Count.{sum_for}
use Rattle.pass_replay.proofs.checked.stakes_of.Goals as goal

abbrev nobody : Credential × ℕ
nobody = (record { hash = []; kind = Key }, 0)

pub loop-d-preserved : goal.loop-d-preserved
loop-d-preserved c =
    let weigh : Credential × ℕ → ℕ = λ d. sum_for c.args.c.now.sums (drep.Registered d.0) in
    let is : c.stake_of.result ≡ weigh (get_or c.args.dreps.now c.loop-d.d-index nobody) = c.stake_of.ensures in
    omega (
      arith,
      is,
      c.in_ok-sum.ensures,
      c.loop-d.invariant,
      sum_by-drop_more weigh c.args.dreps.now c.loop-d.d-index nobody c.loop-d-test.true,
    )
