-- A refusal of each shape. (Own)
use Rattle.std.specs.Prelude.{ℕ, Some, None}
use Rattle.tx_records.specs.declared.reply.Rule.{Rule}

-- a rule that keeps two numbers
abbrev pub rule_keeping_two : ℕ → ℕ → ℕ → Rule
rule_keeping_two number first second = record { number = number; what = None; place = None; first = first; second = second }

-- one that keeps one number
abbrev pub rule_keeping : ℕ → ℕ → Rule
rule_keeping number first = rule_keeping_two number first 0

-- one that keeps none
abbrev pub plain_rule : ℕ → Rule
plain_rule number = rule_keeping_two number 0 0

-- the rule, broken at the place i
abbrev pub placed : ℕ → Rule → Rule
placed i r = record r { place = Some i }
