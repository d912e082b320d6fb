use Rattle.std.proofs.Common.{◌≡◌, OnOk, List, ap, map, subst, ◌∙◌}
use Rattle.gov_ids.specs.Orders.{credential_cmp, pool_cmp}
use Rattle.maps.specs.Maps.{has_member, in_order}
use Rattle.tx_records.specs.declared.genesis.GenesisPool.{GenesisPool}
use Rattle.genesis_problems.specs.declared.problem.GenesisProblem.{GenesisProblem}
use Rattle.genesis_problems.specs.Listing.{is_drep_among}
use Rattle.genesis_problems.specs.Problems.{per_index, target_tests, told_with}
use Rattle.genesis_problems.proofs.Listings.{targets_are}
use Rattle.genesis_problems.proofs.Telling.{Tests}
use Rattle.genesis_problems.proofs.targets.tell_targets.Goals as goal

pub returns : goal.returns
returns c =
    let pools = c.in_ok-pools.pools.keys in
    let dreps = c.in_ok-dreps.dreps.keys in
    let told = c.args.told.now.items in
    subst (λ (ps : List GenesisProblem). OnOk c.tell_unknown.result (c.tell_unknown.new.told.items ≡ ps))
    (
    (λ i. told_with (per_index (λ k a. target_tests (has_member pool_cmp pools) (is_drep_among dreps) k a.3 a.4) (c.as_slice-3.ensures i)) told)
    ∙ ap (λ (tests : Tests). told_with tests told) (
    targets_are c.args.genesis.now pools dreps (c.in_ok-pools.ensures ∙ (λ i. in_order pool_cmp (map (λ (p : GenesisPool). p.pool) (c.as_slice.ensures i))))
    (c.in_ok-dreps.ensures ∙ (λ i. in_order credential_cmp (map (λ d. d.0) (c.as_slice-2.ensures i))))
    )
    )
    c.tell_unknown.ensures
