-- The first problem of a genesis is of the rule that is broken first.
use Rattle.std.proofs.Common.{◌≡◌, [], ◌∷◌, ◌++◌, Bool, true, false, cond, not, ◌||◌, ◌==◌, Option, Some, None, find, map, option_map, nat_lt, refl, ap, ◌∙◌}
use Rattle.std.proofs.lemmas.List.Folds.{list_any-append}
use Rattle.gov_ids.specs.declared.PoolId.{PoolId}
use Rattle.gov_ids.specs.Same.{same_pool}
use Rattle.gov_ids.specs.Orders.{credential_cmp, outref_cmp, pool_cmp}
use Rattle.gov_ids.proofs.Totals.{credential_total, outref_total, pool_total}
use Rattle.maps.specs.Words.{among, none_or, or_else}
use Rattle.tx_records.specs.declared.genesis.Genesis.{Genesis}
use Rattle.tx_records.specs.declared.genesis.GenesisPool.{GenesisPool}
use Rattle.tx_records.specs.declared.genesis.GenesisRule.{GenesisRule}
use Rattle.tx_records.specs.declared.genesis.GenesisRule.TheVariants as rule
use Rattle.tx_records.specs.Limits.{genesis_members}
use Rattle.run_model.specs.of_coin_frac.declared.TheConstants.{SUPPLY_LIMIT}
use Rattle.run_model.specs.Genesis.{drep_ids, genesis_fault, genesis_sum, is_listed_drep, names_an_unknown, names_another_network, pool_ids, repeats_a_name}
use Rattle.genesis_problems.specs.declared.problem.GenesisList.TheVariants.{Members, Outputs, Accounts, Pools, Dreps}
use Rattle.genesis_problems.specs.declared.problem.GenesisProblem.{GenesisProblem}
use Rattle.genesis_problems.specs.declared.problem.GenesisProblem.TheVariants as problem
use Rattle.genesis_problems.specs.Problems.{name_tests, names_tests, network_tests, networks_tests, genesis_tests, sum_tests, supply_tests, target_tests, targets_tests}
use Rattle.genesis_problems.proofs.Telling.{Tests}
use Rattle.genesis_problems.proofs.Firsts.{IsOf, any_each, any_found, first_found, first_found-append, names_found, names_of, networks_found, networks_of, of-append, of_each, of_one, or_none}

abbrev any-append : (a b : Tests) → any_found (a ++ b) ≡ (any_found a || any_found b)
any-append a b = list_any-append (λ (t : Bool × GenesisProblem). t.0) a b

-- of one rule, and found by this test
abbrev Tells : GenesisRule → Bool → Tests → Type 0
Tells r b tests = first_found tests ≡ cond b (Some r) None

tells : (r : GenesisRule) (b : Bool) (tests : Tests) → IsOf r tests → any_found tests ≡ b → Tells r b tests
tells r b tests h e = h ∙ ap (λ (x : Bool). cond x (Some r) None) e

or_five : (a b c d e : Bool) → ((((a || b) || c) || d) || e) ≡ (a || b || c || d || e)
or_five true b c d e = refl
or_five false true c d e = refl
or_five false false true d e = refl
or_five false false false true e = refl
or_five false false false false e = refl

any_five : (a b c d e : Tests) → any_found (a ++ b ++ c ++ d ++ e) ≡ (any_found a || any_found b || any_found c || any_found d || any_found e)
any_five a b c d e =
    any-append (a ++ b ++ c ++ d) e
    ∙ ap (λ (x : Bool). x || any_found e) (any-append (a ++ b ++ c) d ∙ ap (λ (x : Bool). x || any_found d) (any-append (a ++ b) c ∙ ap (λ (x : Bool). x || any_found c) (any-append a b)))
    ∙ or_five (any_found a) (any_found b) (any_found c) (any_found d) (any_found e)

first_five : (a b c d e : Tests)
    → first_found (a ++ b ++ c ++ d ++ e) ≡ or_else (or_else (or_else (or_else (first_found a) (first_found b)) (first_found c)) (first_found d)) (first_found e)
first_five a b c d e =
    first_found-append (a ++ b ++ c ++ d) e
    ∙ ap (λ (x : Option GenesisRule). or_else x (first_found e)) (
    first_found-append (a ++ b ++ c) d
    ∙ ap (λ (x : Option GenesisRule). or_else x (first_found d)) (first_found-append (a ++ b) c ∙ ap (λ (x : Option GenesisRule). or_else x (first_found c)) (first_found-append a b))
    )

by_five : (a b c d e : Bool)
    → or_else (or_else (or_else (or_else (cond a (Some rule.SupplyTooLarge) None) (cond b (Some rule.Repeated) None)) (cond c (Some rule.UnknownTarget) None)) (cond d (Some rule.WrongNetwork) None)) (cond e (Some rule.SumWrong) None)
    ≡ option_map (λ (c : Bool × GenesisRule). c.1) (find (λ (c : Bool × GenesisRule). c.0) ((a, rule.SupplyTooLarge) ∷ (b, rule.Repeated) ∷ (c, rule.UnknownTarget) ∷ (d, rule.WrongNetwork) ∷ (e, rule.SumWrong) ∷ []))
by_five true b c d e = refl
by_five false true c d e = refl
by_five false false true d e = refl
by_five false false false true e = refl
by_five false false false false true = refl
by_five false false false false false = refl

module _ (g : Genesis) where
  abbrev members : Tests
  members = name_tests credential_cmp Members (map (λ m. m.0) (genesis_members g.committee))

  abbrev outputs : Tests
  outputs = name_tests outref_cmp Outputs (map (λ o. o.0) g.outputs)

  abbrev accounts : Tests
  accounts = name_tests credential_cmp Accounts (map (λ a. a.0) g.accounts)

  abbrev pools : Tests
  pools = name_tests pool_cmp Pools (pool_ids g)

  abbrev dreps : Tests
  dreps = name_tests credential_cmp Dreps (drep_ids g)

  names_of_rule : IsOf rule.Repeated (names_tests g)
  names_of_rule =
      of-append rule.Repeated (members ++ outputs ++ accounts ++ pools) dreps
      (
      of-append rule.Repeated (members ++ outputs ++ accounts) pools
      (
      of-append rule.Repeated (members ++ outputs) accounts
      (of-append rule.Repeated members outputs (names_of credential_cmp Members (map (λ m. m.0) (genesis_members g.committee))) (names_of outref_cmp Outputs (map (λ o. o.0) g.outputs)))
      (names_of credential_cmp Accounts (map (λ a. a.0) g.accounts))
      )
      (names_of pool_cmp Pools (pool_ids g))
      )
      (names_of credential_cmp Dreps (drep_ids g))

  names_are : any_found (names_tests g) ≡ repeats_a_name g
  names_are =
      any_five members outputs accounts pools dreps
      ∙ λ i.
      names_found credential_total Members (map (λ m. m.0) (genesis_members g.committee)) i
      || names_found outref_total Outputs (map (λ o. o.0) g.outputs) i
      || names_found credential_total Accounts (map (λ a. a.0) g.accounts) i
      || names_found pool_total Pools (pool_ids g) i
      || names_found credential_total Dreps (drep_ids g) i

  abbrev is_pool : PoolId → Bool
  is_pool p = among same_pool p (pool_ids g)

  targets_of_rule : IsOf rule.UnknownTarget (targets_tests g)
  targets_of_rule =
      of_each (λ i a. target_tests is_pool (is_listed_drep g) i a.3 a.4) rule.UnknownTarget
      (
      λ i a.
      of-append rule.UnknownTarget ((not (none_or is_pool a.3), problem.UnknownPool i) ∷ []) ((not (none_or (is_listed_drep g) a.4), problem.UnknownDrep i) ∷ [])
      (of_one (not (none_or is_pool a.3)) (problem.UnknownPool i))
      (of_one (not (none_or (is_listed_drep g) a.4)) (problem.UnknownDrep i))
      )
      0 g.accounts

  targets_are : any_found (targets_tests g) ≡ names_an_unknown g
  targets_are =
      any_each (λ i a. target_tests is_pool (is_listed_drep g) i a.3 a.4) (λ a. not (none_or is_pool a.3) || not (none_or (is_listed_drep g) a.4))
      (λ i a. ap (λ (b : Bool). not (none_or is_pool a.3) || b) (or_none (not (none_or (is_listed_drep g) a.4))))
      0 g.accounts

  networks_of_rule : IsOf rule.WrongNetwork (networks_tests g)
  networks_of_rule =
      of-append rule.WrongNetwork (network_tests g.network Outputs (map (λ o. o.1.network) g.outputs)) (network_tests g.network Pools (map (λ (p : GenesisPool). p.account.network) g.pools))
      (networks_of g.network Outputs (map (λ o. o.1.network) g.outputs))
      (networks_of g.network Pools (map (λ (p : GenesisPool). p.account.network) g.pools))

  networks_are : any_found (networks_tests g) ≡ names_another_network g
  networks_are =
      any-append (network_tests g.network Outputs (map (λ o. o.1.network) g.outputs)) (network_tests g.network Pools (map (λ (p : GenesisPool). p.account.network) g.pools))
      ∙ λ i. networks_found g.network Outputs (λ o. o.1.network) g.outputs i || networks_found g.network Pools (λ (p : GenesisPool). p.account.network) g.pools i

  pub first_is : first_found (genesis_tests g) ≡ genesis_fault g
  first_is =
      first_five (supply_tests g) (names_tests g) (targets_tests g) (networks_tests g) (sum_tests g)
      ∙ (λ i. or_else (or_else (or_else (or_else (supply i) (names i)) (targets i)) (networks i)) (sum i))
      ∙ by_five (nat_lt SUPPLY_LIMIT g.supply) (repeats_a_name g) (names_an_unknown g) (names_another_network g) (not (genesis_sum g == g.supply))
    where
      supply : Tells rule.SupplyTooLarge (nat_lt SUPPLY_LIMIT g.supply) (supply_tests g)
      supply = tells rule.SupplyTooLarge _ (supply_tests g) (of_one (nat_lt SUPPLY_LIMIT g.supply) (problem.SupplyTooLarge g.supply)) (or_none (nat_lt SUPPLY_LIMIT g.supply))

      names : Tells rule.Repeated (repeats_a_name g) (names_tests g)
      names = tells rule.Repeated _ (names_tests g) names_of_rule names_are

      targets : Tells rule.UnknownTarget (names_an_unknown g) (targets_tests g)
      targets = tells rule.UnknownTarget _ (targets_tests g) targets_of_rule targets_are

      networks : Tells rule.WrongNetwork (names_another_network g) (networks_tests g)
      networks = tells rule.WrongNetwork _ (networks_tests g) networks_of_rule networks_are

      sum : Tells rule.SumWrong (not (genesis_sum g == g.supply)) (sum_tests g)
      sum = tells rule.SumWrong _ (sum_tests g) (of_one (not (genesis_sum g == g.supply)) (problem.SumWrong (genesis_sum g) g.supply)) (or_none (not (genesis_sum g == g.supply)))
