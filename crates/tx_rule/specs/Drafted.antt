-- The rules after a transaction's certificates. (GOV and UTXO of the formal specification)
use Rattle.std.specs.Prelude.{List, ◌++◌}
use Rattle.tx_records.specs.declared.tx.Tx.{Tx}
use Rattle.ledger_model.specs.Broken.{balance_checks}
use Rattle.ledger_model.specs.Checks.{Check, per_place}
use Rattle.ledger_model.specs.CertRules.{cert_checks}
use Rattle.ledger_model.specs.Draft.{draft_after, last_draft}
use Rattle.ledger_model.specs.Ledger.{Ledger}
use Rattle.ledger_model.specs.ProposalRules.{proposal_checks, vote_checks}

-- the rules on proposals, on votes and on the balance
abbrev pub drafted_checks : Ledger → Tx → List Check
drafted_checks l tx =
    per_place (proposal_checks l (last_draft l tx)) tx.proposals
    ++ per_place (vote_checks l (last_draft l tx)) tx.votes
    ++ balance_checks l tx

-- the rules on the certificates, each by the draft before it, and the rules after them
abbrev pub told_in_draft : Ledger → Tx → List Check
told_in_draft l tx = per_place (λ k c. cert_checks l (draft_after l tx k) c) tx.certs ++ drafted_checks l tx
