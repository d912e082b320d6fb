use Rattle.std.proofs.Common.{◌≡◌, ℕ, ◌+◌, ◌==◌, not, List, [], ◌∷◌, sum_by, ap, ◌∙◌, arith}
use Rattle.gov_ids.specs.declared.Account.{Account}
use Rattle.tx_records.specs.declared.rules.TheConstants.{NOT_BALANCED}
use Rattle.tx_records.specs.declared.tx.ProposalRecord.{ProposalRecord}
use Rattle.tx_records.specs.declared.tx.Tx.{Tx}
use Rattle.tx_records.specs.declared.tx.TxOutput.{TxOutput}
use Rattle.ledger_model.specs.Broken.{consumed, produced}
use Rattle.ledger_model.specs.Checks.{Check, breaks_keeping_two}
use Rattle.ledger_model.specs.Flows.{flows_of_certs, hand, sink, source, sum_at}
use Rattle.ledger_model.specs.Ledger.{Ledger}
use Rattle.ledger_model.specs.UtxoRules.{lovelace_at}
use Rattle.live_ledger.proofs.proofs_of_tx_balance.Passed.{passed_sum}
use Rattle.utxo_rules.proofs.lovelace.lovelace_checks.Goals as goal

-- what is added up is what the transaction takes
takes : (l : Ledger) (tx : Tx) (withdrawals : List (Account × ℕ)) (a b refunds : ℕ) → withdrawals ≡ tx.withdrawals
    → a ≡ sum_by (lovelace_at l) tx.inputs → b ≡ sum_by (λ (x : Account × ℕ). x.1) withdrawals → refunds ≡ sum_at sink hand (flows_of_certs l tx) → a + b + refunds ≡ consumed l tx
takes l tx withdrawals a b refunds r x y z =
    omega (arith, passed_sum l tx sink hand, x, y ∙ ap (λ (ws : List (Account × ℕ)). sum_by (λ (w : Account × ℕ). w.1) ws) r)

-- and what it gives
gives : (l : Ledger) (tx : Tx) (outputs : List TxOutput) (proposals : List ProposalRecord) (a b fee donation deposits : ℕ) → outputs ≡ tx.outputs → proposals ≡ tx.proposals
    → a ≡ sum_by (λ (o : TxOutput). o.lovelace) outputs → b ≡ sum_by (λ (p : ProposalRecord). p.deposit) proposals → fee ≡ tx.fee → donation ≡ tx.donation
    → deposits ≡ sum_at source hand (flows_of_certs l tx) → a + fee + donation + deposits + b ≡ produced l tx
gives l tx outputs proposals a b fee donation deposits p q x y f d z =
    omega (arith, passed_sum l tx source hand, x ∙ ap (λ (os : List TxOutput). sum_by (λ (o : TxOutput). o.lovelace) os) p, y ∙ ap (λ (ps : List ProposalRecord). sum_by (λ (r : ProposalRecord). r.deposit) ps) q)

pub returns : goal.returns
returns c = λ l sum refunds deposits.
    let tx = c.args.tx.now in
    let taken = takes l tx _ _ _ _ c.as_slice.ensures sum c.lovelace_withdrawn.ensures.sum refunds in
    let given = gives l tx _ _ _ _ _ _ _ c.as_slice-2.ensures c.as_slice-3.ensures c.lovelace_made.ensures.sum c.lovelace_proposed.ensures.sum c.from.ensures c.from-2.ensures deposits in
    ap (λ (k : Check). k ∷ []) (c.keeping_two.ensures ∙ (λ i. breaks_keeping_two NOT_BALANCED (taken i) (given i) (not (taken i == given i))))
