-- The stream's genesis: an output, no account, a pool, two DReps and one committee member. (Own)
use Rattle.std.specs.Prelude.{ℕ, List, [], ◌∷◌, codes, decimal, map, replicate}
use Rattle.text_model.specs.Words.{Text}
use Rattle.load_model.specs.Amounts.{funds}
use Rattle.load_model.specs.Json.{quoted, array, member, object}
use Rattle.load_model.specs.Names.{hash28, hash32, key, account, ref}

-- an array of numbers
abbrev pub numbers : List ℕ → Text
numbers ns = array (map decimal ns)

-- a ratio, or a part of one
abbrev pub ratio : ℕ → ℕ → Text
ratio num den = numbers (num ∷ den ∷ [])

-- the 30 parameters
abbrev pub params : Text
params = object (
    member (codes "maxBlockBodySize") (decimal 90112) ∷
    member (codes "maxTxSize") (decimal 16384) ∷
    member (codes "maxBlockHeaderSize") (decimal 1100) ∷
    member (codes "maxValueSize") (decimal 5000) ∷
    member (codes "maxTxExUnits") (numbers (1000 ∷ 1000 ∷ [])) ∷
    member (codes "maxBlockExUnits") (numbers (1000 ∷ 1000 ∷ [])) ∷
    member (codes "maxCollateralInputs") (decimal 3) ∷
    member (codes "minFeeA") (decimal 0) ∷
    member (codes "minFeeB") (decimal 0) ∷
    member (codes "keyDeposit") (decimal 2) ∷
    member (codes "poolDeposit") (decimal 5) ∷
    member (codes "rho") (ratio 0 1) ∷
    member (codes "tau") (ratio 0 1) ∷
    member (codes "minPoolCost") (decimal 0) ∷
    member (codes "coinsPerUTxOByte") (decimal 0) ∷
    member (codes "prices") (array (ratio 0 1 ∷ ratio 0 1 ∷ [])) ∷
    member (codes "minFeeRefScriptCostPerByte") (ratio 15 1) ∷
    member (codes "a0") (ratio 0 1) ∷
    member (codes "eMax") (decimal 18) ∷
    member (codes "nOpt") (decimal 500) ∷
    member (codes "costModels") (quoted (hash32 0)) ∷
    member (codes "collateralPercentage") (decimal 150) ∷
    member (codes "poolVotingThresholds") (array (replicate 5 (ratio 0 1))) ∷
    member (codes "drepVotingThresholds") (array (replicate 10 (ratio 67 100))) ∷
    member (codes "govActionLifetime") (decimal 2) ∷
    member (codes "govActionDeposit") (decimal 10) ∷
    member (codes "drepDeposit") (decimal 5) ∷
    member (codes "drepActivity") (decimal 20) ∷
    member (codes "committeeMinSize") (decimal 0) ∷
    member (codes "committeeMaxTermLength") (decimal 100) ∷
    [])

-- the committee: a member with its term and its hot key
abbrev pub committee : Text
committee = object (
    member (codes "threshold") (ratio 0 1) ∷
    member (codes "members") (array (array (quoted (key 70) ∷ decimal 100 ∷ quoted (key 71) ∷ []) ∷ [])) ∷
    [])

-- the output
abbrev pub genesis_output : Text
genesis_output = array (quoted (ref 1 0) ∷ quoted (account 1) ∷ decimal funds ∷ [])

-- the pool: its deposit, its cost, its pledge, its margin and its account
abbrev pub pool : Text
pool = array (quoted (hash28 50) ∷ decimal 5 ∷ decimal 0 ∷ decimal 0 ∷ ratio 0 1 ∷ quoted (account 12) ∷ [])

-- a DRep: its deposit and its expiry
abbrev pub drep : ℕ → Text
drep n = array (quoted (key n) ∷ decimal 5 ∷ decimal 20 ∷ [])

-- the record
abbrev pub genesis_line : Text
genesis_line = object (
    member (codes "kind") (quoted (codes "genesis")) ∷
    member (codes "network") (decimal 1) ∷
    member (codes "slot") (decimal 0) ∷
    member (codes "epochLength") (decimal 10) ∷
    member (codes "version") (numbers (10 ∷ 0 ∷ [])) ∷
    member (codes "supply") (decimal 20000000000) ∷
    member (codes "reserves") (decimal 9998999985) ∷
    member (codes "treasury") (decimal 1000000) ∷
    member (codes "params") params ∷
    member (codes "document") (quoted (hash32 1)) ∷
    member (codes "committee") committee ∷
    member (codes "outputs") (array (genesis_output ∷ [])) ∷
    member (codes "accounts") (array []) ∷
    member (codes "pools") (array (pool ∷ [])) ∷
    member (codes "dreps") (array (drep 30 ∷ drep 31 ∷ [])) ∷
    [])
