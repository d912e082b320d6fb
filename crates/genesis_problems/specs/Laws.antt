-- The first problem of a genesis, beside the rule that it breaks first; src/laws.rt has a function
-- for the law.
use Rattle.std.specs.Prelude.{◌≡◌, List, [], ◌∷◌, Option, Some, None}
use Rattle.tx_records.specs.declared.genesis.Genesis.{Genesis}
use Rattle.tx_records.specs.declared.genesis.GenesisRule.{GenesisRule}
use Rattle.tx_records.specs.declared.genesis.GenesisRule.TheVariants as rule
use Rattle.run_model.specs.Genesis.{genesis_fault}
use Rattle.genesis_problems.specs.declared.problem.GenesisProblem.{GenesisProblem}
use Rattle.genesis_problems.specs.declared.problem.GenesisProblem.TheVariants.{SupplyTooLarge, Repeated, UnknownPool, UnknownDrep, WrongNetwork, SumWrong}
use Rattle.genesis_problems.specs.Problems.{genesis_problems}

-- the rule that a problem breaks
abbrev pub rule_of : GenesisProblem → GenesisRule
rule_of (SupplyTooLarge n) = rule.SupplyTooLarge
rule_of (Repeated list i) = rule.Repeated
rule_of (UnknownPool i) = rule.UnknownTarget
rule_of (UnknownDrep i) = rule.UnknownTarget
rule_of (WrongNetwork list i) = rule.WrongNetwork
rule_of (SumWrong sum supply) = rule.SumWrong

-- the rule of the first of these problems
abbrev pub first_rule : List GenesisProblem → Option GenesisRule
first_rule [] = None
first_rule (p ∷ ps) = Some (rule_of p)

-- the rule of the first problem is the first broken rule; if none is broken, there is no problem
abbrev pub FirstProblem : Type 0
FirstProblem = (g : Genesis) → first_rule (genesis_problems g) ≡ genesis_fault g
