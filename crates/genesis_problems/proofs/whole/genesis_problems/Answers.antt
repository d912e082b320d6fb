use Rattle.std.proofs.Common.{[], ◌∙◌}
use Rattle.genesis_problems.specs.Problems.{names_tests, networks_tests, sum_tests, supply_tests, targets_tests, told_with}
use Rattle.genesis_problems.proofs.Telling.{told_five}
use Rattle.genesis_problems.proofs.whole.genesis_problems.Goals as goal

pub returns : goal.returns
returns c =
    let g = c.args.genesis.now in
    let supply = c.in_ok-tell_supply.ensures ∙ (λ i. told_with (supply_tests g) (c.new-told.ensures.items i)) in
    let names = c.in_ok-tell_names.ensures ∙ (λ i. told_with (names_tests g) (supply i)) in
    let targets = c.in_ok-tell_targets.ensures ∙ (λ i. told_with (targets_tests g) (names i)) in
    let networks = c.in_ok-tell_networks.ensures ∙ (λ i. told_with (networks_tests g) (targets i)) in
    c.in_ok-tell_sum.ensures
    ∙ (λ i. told_with (sum_tests g) (networks i))
    ∙ told_five (supply_tests g) (names_tests g) (targets_tests g) (networks_tests g) (sum_tests g) []
