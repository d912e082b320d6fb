-- The broken rules that were found, list of checks after list of checks. (Own)
use Rattle.std.specs.Prelude.{List, ◌++◌}
use Rattle.tx_records.specs.declared.reply.Rule.{Rule}
use Rattle.ledger_model.specs.Checks.{Check, broken_among}

-- with those of these checks
abbrev pub told_with : List Check → List Rule → List Rule
told_with checks told = told ++ broken_among checks
