use Rattle.std.proofs.Common.{◌≡◌, ℕ, [], sum_by, ap, arith}
use Rattle.std.proofs.lemmas.List.Sums.{sum_by-drop_more}
use Rattle.gov_ids.specs.declared.CredKind.TheVariants.{Key}
use Rattle.gov_ids.specs.declared.Credential.{Credential}
use Rattle.tally.specs.Silent.{drep_weight}
use Rattle.tally.proofs.SilentDreps.{weights-le}
use Rattle.tally.proofs.silent_dreps.silent_total.Goals as goal

abbrev nobody : Credential × ℕ
nobody = (record { hash = []; kind = Key }, 0)

pub overflow_add-total : goal.overflow_add-total
overflow_add-total c =
    let f = c.args.f.now in
    let weigh : Credential × ℕ → ℕ = drep_weight f c.args.c.now in
    let items = c.as_slice-drep-items.result.now in
    let more = sum_by-drop_more weigh items c.loop-drep.drep-index nobody c.loop-drep-test.true in
    let all : sum_by weigh items ≡ sum_by weigh f.dreps = ap (sum_by weigh) c.as_slice-drep-items.ensures in
    omega (arith, more, all, c.drep_weight-total.ensures, c.loop-drep.invariant, weights-le f c.args.c.now, c.requires)
