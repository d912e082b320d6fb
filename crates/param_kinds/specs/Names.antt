-- The names of the parameters. (Own; names and groups are those of CIP-1694 and of cardano-ledger)
use Rattle.std.specs.Prelude.{ℕ, List, [], ◌∷◌, codes, get_or}
use Rattle.text_model.specs.Words.{Text}

-- the names, in the order of their lines
abbrev pub names : List Text
names =
    codes "maxBlockBodySize" ∷ codes "maxTxSize" ∷ codes "maxBlockHeaderSize" ∷ codes "maxValueSize" ∷
    codes "maxTxExUnits" ∷ codes "maxBlockExUnits" ∷ codes "maxCollateralInputs" ∷ codes "minFeeA" ∷
    codes "minFeeB" ∷ codes "keyDeposit" ∷ codes "poolDeposit" ∷ codes "rho" ∷
    codes "tau" ∷ codes "minPoolCost" ∷ codes "coinsPerUTxOByte" ∷ codes "prices" ∷
    codes "minFeeRefScriptCostPerByte" ∷ codes "a0" ∷ codes "eMax" ∷ codes "nOpt" ∷
    codes "costModels" ∷ codes "collateralPercentage" ∷ codes "poolVotingThresholds" ∷ codes "drepVotingThresholds" ∷
    codes "govActionLifetime" ∷ codes "govActionDeposit" ∷ codes "drepDeposit" ∷ codes "drepActivity" ∷
    codes "committeeMinSize" ∷ codes "committeeMaxTermLength" ∷
    []

-- the name at a place, from 0; empty past the last
abbrev pub name_at : ℕ → Text
name_at place = get_or names place []
