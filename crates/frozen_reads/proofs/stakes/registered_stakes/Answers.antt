use Rattle.std.proofs.Common.{ℕ, ◌+◌, List, [], ◌++◌, drop, ap, ◌∙◌}
use Rattle.gov_ids.specs.declared.CredKind.TheVariants.{Key}
use Rattle.gov_ids.specs.declared.Credential.{Credential}
use Rattle.gov_ids.specs.declared.Drep.{Drep}
use Rattle.frozen_reads.specs.Stakes.{registered, stakes_by}
use Rattle.frozen_reads.proofs.Reported.{next_noted}
use Rattle.frozen_reads.proofs.stakes.registered_stakes.Goals as goal

abbrev nobody : Credential × ℕ
nobody = (record { hash = []; kind = Key }, 0)

pub loop-d-preserved : goal.loop-d-preserved
loop-d-preserved c =
    let dreps : List (Credential × ℕ) = c.args.dreps.now in
    let i : ℕ = c.loop-d.d-index in
    let sums : List (Drep × ℕ) = c.args.c.now.sums in
    ap (λ (l : List (Drep × ℕ)). l ++ stakes_by sums (registered (drop (i + 1) dreps))) c.in_ok-note.ensures
    ∙ next_noted sums c.loop-d.stakes.items dreps i nobody c.loop-d-test.true
    ∙ c.loop-d.invariant
