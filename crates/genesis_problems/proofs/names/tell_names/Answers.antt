use Rattle.std.proofs.Common.{◌≡◌, OnOk, List, map, subst, ◌∙◌}
use Rattle.gov_ids.specs.Orders.{credential_cmp, outref_cmp, pool_cmp}
use Rattle.tx_records.specs.declared.genesis.GenesisPool.{GenesisPool}
use Rattle.tx_records.specs.Limits.{genesis_members}
use Rattle.run_model.specs.Genesis.{drep_ids, pool_ids}
use Rattle.genesis_problems.specs.declared.problem.GenesisList.TheVariants.{Members, Outputs, Accounts, Pools, Dreps}
use Rattle.genesis_problems.specs.declared.problem.GenesisProblem.{GenesisProblem}
use Rattle.genesis_problems.specs.Problems.{name_tests, told_with}
use Rattle.genesis_problems.proofs.Telling.{told_five}
use Rattle.genesis_problems.proofs.names.tell_names.Goals as goal

pub returns : goal.returns
returns c =
    let g = c.args.genesis.now in
    let told = c.args.told.now.items in
    let members : c.tell_repeated.new.told.items ≡ told_with (name_tests credential_cmp Members (map (λ m. m.0) (genesis_members g.committee))) told =
    c.in_ok-tell_repeated.ensures ∙ (λ i. told_with (name_tests credential_cmp Members (map (λ m. m.0) (c.members_of.ensures i))) told) in
    let outputs : c.tell_repeated-2.new.told.items ≡ told_with (name_tests outref_cmp Outputs (map (λ o. o.0) g.outputs)) _ =
    c.in_ok-tell_repeated-2.ensures ∙ (λ i. told_with (name_tests outref_cmp Outputs (map (λ o. o.0) (c.as_slice.ensures i))) (members i)) in
    let accounts : c.tell_repeated-3.new.told.items ≡ told_with (name_tests credential_cmp Accounts (map (λ a. a.0) g.accounts)) _ =
    c.in_ok-tell_repeated-3.ensures ∙ (λ i. told_with (name_tests credential_cmp Accounts (map (λ a. a.0) (c.as_slice-2.ensures i))) (outputs i)) in
    let pools : c.tell_repeated-4.new.told.items ≡ told_with (name_tests pool_cmp Pools (pool_ids g)) _ =
    c.in_ok-tell_repeated-4.ensures ∙ (λ i. told_with (name_tests pool_cmp Pools (map (λ (p : GenesisPool). p.pool) (c.as_slice-3.ensures i))) (accounts i)) in
    subst (λ (ps : List GenesisProblem). OnOk c.tell_repeated-5.result (c.tell_repeated-5.new.told.items ≡ ps))
    (
    (λ i. told_with (name_tests credential_cmp Dreps (map (λ d. d.0) (c.as_slice-4.ensures i))) (pools i))
    ∙ told_five (name_tests credential_cmp Members (map (λ m. m.0) (genesis_members g.committee))) (name_tests outref_cmp Outputs (map (λ o. o.0) g.outputs))
    (name_tests credential_cmp Accounts (map (λ a. a.0) g.accounts)) (name_tests pool_cmp Pools (pool_ids g)) (name_tests credential_cmp Dreps (drep_ids g)) told
    )
    c.tell_repeated-5.ensures
