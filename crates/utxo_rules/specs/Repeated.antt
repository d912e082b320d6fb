-- The rules on an input and on a collateral input, by whether it is repeated. (Own)
use Rattle.std.specs.Prelude.{ℕ, Bool, List, Option, [], ◌∷◌, ◌&&◌, ◌||◌, ◌==◌, is_none}
use Rattle.maps.specs.Words.{some_and}
use Rattle.book_records.specs.declared.Output.{Output}
use Rattle.gov_ids.specs.declared.OutRef.{OutRef}
use Rattle.ledger_model.specs.Checks.{Check, breaks}
use Rattle.ledger_model.specs.Ledger.{Ledger, output_at}
use Rattle.ledger_model.specs.UtxoRules.{has_scripts, is_script}
use Rattle.tx_records.specs.declared.rules.TheConstants.{COLLATERAL_MISSING, COLLATERAL_NOT_KEY, INPUT_MISSING, INPUT_REPEATED}
use Rattle.tx_records.specs.declared.tx.Tx.{Tx}

-- the index is there, and it is i
abbrev pub is_at : Option ℕ → ℕ → Bool
is_at place i = some_and (λ p. p == i) place

-- the rules on an input
abbrev pub input_checks_by : Ledger → Bool → OutRef → List Check
input_checks_by l repeated r =
    breaks INPUT_MISSING (is_none (output_at l r)) ∷
    breaks INPUT_REPEATED repeated ∷
    []

-- the rules on a collateral input
abbrev pub collateral_checks_by : Ledger → Tx → Bool → OutRef → List Check
collateral_checks_by l tx repeated r =
    breaks COLLATERAL_MISSING (is_none (output_at l r) || repeated) ∷
    breaks COLLATERAL_NOT_KEY (has_scripts tx.scripts && some_and (λ (o : Output). is_script o.address.payment.kind) (output_at l r)) ∷
    []
