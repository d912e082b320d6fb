-- Everything that is wrong with a genesis, in the order of the genesis rules. (Own)
use Rattle.std.specs.Prelude.{ℕ, ◌==◌, Bool, not, List, [], ◌∷◌, ◌++◌, Option, filter, flat_map, map, nat_lt, take}
use Rattle.std.specs.declared.cmp.Ordering.{Ordering}
use Rattle.std.specs.List.{enumerate_from}
use Rattle.maps.specs.Maps.{has_member}
use Rattle.maps.specs.Words.{among, none_or}
use Rattle.gov_ids.specs.declared.Drep.{Drep}
use Rattle.gov_ids.specs.declared.PoolId.{PoolId}
use Rattle.gov_ids.specs.Orders.{credential_cmp, outref_cmp, pool_cmp}
use Rattle.gov_ids.specs.Same.{same_pool}
use Rattle.tx_records.specs.declared.genesis.Genesis.{Genesis}
use Rattle.tx_records.specs.declared.genesis.GenesisPool.{GenesisPool}
use Rattle.run_model.specs.of_coin_frac.declared.TheConstants.{SUPPLY_LIMIT}
use Rattle.tx_records.specs.Limits.{genesis_members}
use Rattle.run_model.specs.Genesis.{drep_ids, genesis_sum, is_listed_drep, pool_ids}
use Rattle.genesis_problems.specs.declared.problem.GenesisList.{GenesisList}
use Rattle.genesis_problems.specs.declared.problem.GenesisList.TheVariants.{Members, Outputs, Accounts, Pools, Dreps}
use Rattle.genesis_problems.specs.declared.problem.GenesisProblem.{GenesisProblem}
use Rattle.genesis_problems.specs.declared.problem.GenesisProblem.TheVariants.{SupplyTooLarge, Repeated, UnknownPool, UnknownDrep, WrongNetwork, SumWrong}

-- the tests of each item in turn, with its index; the first item has the index n
abbrev pub per_index_from : {X : Type 0} → (ℕ → X → List (Bool × GenesisProblem)) → ℕ → List X → List (Bool × GenesisProblem)
per_index_from tests n xs = flat_map (λ p. tests p.0 p.1) (enumerate_from n xs)

-- from the index 0
abbrev pub per_index : {X : Type 0} → (ℕ → X → List (Bool × GenesisProblem)) → List X → List (Bool × GenesisProblem)
per_index tests xs = per_index_from tests 0 xs

-- the name at the index i is already at an index before i
abbrev pub is_named_before : {K : Type 0} → (K → K → Ordering) → List K → ℕ → K → Bool
is_named_before cmp names i name = has_member cmp (take i names) name

-- a name of a list may be at an earlier index
abbrev pub name_test : {K : Type 0} → (K → K → Ordering) → GenesisList → List K → ℕ → K → List (Bool × GenesisProblem)
name_test cmp list names i name = (is_named_before cmp names i name, Repeated list i) ∷ []

-- name after name
abbrev pub name_tests : {K : Type 0} → (K → K → Ordering) → GenesisList → List K → List (Bool × GenesisProblem)
name_tests cmp list names = per_index (name_test cmp list names) names

-- list after list
abbrev pub names_tests : Genesis → List (Bool × GenesisProblem)
names_tests g =
    name_tests credential_cmp Members (map (λ m. m.0) (genesis_members g.committee))
    ++ name_tests outref_cmp Outputs (map (λ o. o.0) g.outputs)
    ++ name_tests credential_cmp Accounts (map (λ a. a.0) g.accounts)
    ++ name_tests pool_cmp Pools (pool_ids g)
    ++ name_tests credential_cmp Dreps (drep_ids g)

-- a pool and a DRep to which an account delegates may each not pass as listed
abbrev pub target_tests : (PoolId → Bool) → (Drep → Bool) → ℕ → Option PoolId → Option Drep → List (Bool × GenesisProblem)
target_tests is_pool is_drep i pool drep =
    (not (none_or is_pool pool), UnknownPool i) ∷
    (not (none_or is_drep drep), UnknownDrep i) ∷
    []

-- account after account
abbrev pub targets_tests : Genesis → List (Bool × GenesisProblem)
targets_tests g = per_index (λ i a. target_tests (λ p. among same_pool p (pool_ids g)) (is_listed_drep g) i a.3 a.4) g.accounts

-- the network of an entry of a list may be another
abbrev pub network_test : ℕ → GenesisList → ℕ → ℕ → List (Bool × GenesisProblem)
network_test network list i n = (not (n == network), WrongNetwork list i) ∷ []

-- entry after entry
abbrev pub network_tests : ℕ → GenesisList → List ℕ → List (Bool × GenesisProblem)
network_tests network list networks = per_index (network_test network list) networks

-- of outputs, then of pools' reward accounts
abbrev pub networks_tests : Genesis → List (Bool × GenesisProblem)
networks_tests g =
    network_tests g.network Outputs (map (λ o. o.1.network) g.outputs)
    ++ network_tests g.network Pools (map (λ (p : GenesisPool). p.account.network) g.pools)

-- the supply may be above the limit
abbrev pub supply_tests : Genesis → List (Bool × GenesisProblem)
supply_tests g = (nat_lt SUPPLY_LIMIT g.supply, SupplyTooLarge g.supply) ∷ []

-- all lovelace that is listed may be another number than the supply
abbrev pub sum_tests : Genesis → List (Bool × GenesisProblem)
sum_tests g = (not (genesis_sum g == g.supply), SumWrong (genesis_sum g) g.supply) ∷ []

-- all that may be wrong with a genesis, with whether it is, in the order of the rules
abbrev pub genesis_tests : Genesis → List (Bool × GenesisProblem)
genesis_tests g = supply_tests g ++ names_tests g ++ targets_tests g ++ networks_tests g ++ sum_tests g

-- the problems that are there, in the order of the tests
abbrev pub found_among : List (Bool × GenesisProblem) → List GenesisProblem
found_among tests = map (λ t. t.1) (filter (λ t. t.0) tests)

-- all that is wrong with a genesis
abbrev pub genesis_problems : Genesis → List GenesisProblem
genesis_problems g = found_among (genesis_tests g)

-- with the problems of these tests
abbrev pub told_with : List (Bool × GenesisProblem) → List GenesisProblem → List GenesisProblem
told_with tests told = told ++ found_among tests
