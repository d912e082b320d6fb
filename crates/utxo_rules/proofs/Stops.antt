-- A repeated input breaks a rule, and so does a repeated collateral input.
use Rattle.std.proofs.Common.{◌≡◌, Bool, true, false, ◌||◌, ◌&&◌, List, [], ◌∷◌, Ok, is_none}
use Rattle.book_records.specs.declared.Output.{Output}
use Rattle.maps.specs.Words.{some_and}
use Rattle.ledger_model.specs.UtxoRules.{has_scripts, is_script}
use Rattle.gov_ids.specs.declared.OutRef.{OutRef}
use Rattle.ledger_model.specs.Checks.{Check, answer_of, breaks}
use Rattle.ledger_model.specs.Ledger.{Ledger, output_at}
use Rattle.tx_records.specs.declared.rules.TheConstants.{COLLATERAL_MISSING, COLLATERAL_NOT_KEY, INPUT_MISSING, INPUT_REPEATED}
use Rattle.tx_records.specs.declared.tx.Tx.{Tx}
use Rattle.utxo_rules.specs.Repeated.{collateral_checks_by, input_checks_by}

pub input_stops : (l : Ledger) (r : OutRef) → answer_of (input_checks_by l true r) ≡ Ok tt → ⊥
input_stops l r = by (is_none (output_at l r))
  where
    by : (missing : Bool) → answer_of (breaks INPUT_MISSING missing ∷ breaks INPUT_REPEATED true ∷ []) ≡ Ok tt → ⊥
    by true e = cc
    by false e = cc

pub collateral_stops : (l : Ledger) (tx : Tx) (r : OutRef) → answer_of (collateral_checks_by l tx true r) ≡ Ok tt → ⊥
collateral_stops l tx r = by (is_none (output_at l r)) (breaks COLLATERAL_NOT_KEY (has_scripts tx.scripts && some_and (λ (o : Output). is_script o.address.payment.kind) (output_at l r)) ∷ [])
  where
    by : (missing : Bool) (rest : List Check) → answer_of (breaks COLLATERAL_MISSING (missing || true) ∷ rest) ≡ Ok tt → ⊥
    by true rest e = cc
    by false rest e = cc
