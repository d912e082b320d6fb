-- A transaction whose scripts did not fail moves the pots by its flows.
use Rattle.std.proofs.Common.{◌≡◌, ℕ, ◌+◌, List, [], ◌∷◌, ◌++◌, true, false, cond, None, map, sum_by, length, refl, ap, sym, arith}
use Rattle.std.specs.List.{enumerate_from}
use Rattle.std.proofs.lemmas.Bool.{eqb-true, not-false}
use Rattle.std.proofs.lemmas.List.Sums.{sum_by-append, sum_by-cons}
use Rattle.maps.specs.Maps.{value_at, sum_values, without_keys}
use Rattle.maps.specs.Words.{amount}
use Rattle.gov_ids.specs.declared.Account.{Account}
use Rattle.gov_ids.specs.declared.OutRef.{OutRef}
use Rattle.gov_ids.specs.declared.TxId.{TxId}
use Rattle.gov_ids.specs.Orders.{outref_cmp}
use Rattle.book_records.specs.declared.Output.{Output}
use Rattle.book_records.specs.declared.Registered.{Registered}
use Rattle.tx_records.specs.of_gov_actions.declared.action.Proposal.{Proposal}
use Rattle.tx_records.specs.declared.tx.ProposalRecord.{ProposalRecord}
use Rattle.tx_records.specs.declared.tx.Scripts.{Scripts}
use Rattle.tx_records.specs.declared.tx.Scripts.TheVariants.{Absent, Passed, Failed}
use Rattle.tx_records.specs.declared.tx.Tx.{Tx}
use Rattle.tx_records.specs.declared.tx.TxOutput.{TxOutput}
use Rattle.ledger_model.specs.Ledger.{Ledger, output_at}
use Rattle.ledger_model.specs.Checks.{Check, per_place}
use Rattle.ledger_model.specs.Changes.{withdrawn, emptied, is_withdrawn}
use Rattle.ledger_model.specs.CertRules.{withdrawal_checks, cert_checks}
use Rattle.ledger_model.specs.ProposalRules.{proposal_checks, vote_checks}
use Rattle.ledger_model.specs.UtxoRules.{lovelace_at, is_failed, unless_failed}
use Rattle.ledger_model.specs.Supply.{pots_of, deposits_of}
use Rattle.ledger_model.specs.Broken.{asset_checks, body_checks, balance_checks, consumed, produced}
use Rattle.ledger_model.specs.Draft.{draft_after, last_draft}
use Rattle.ledger_model.specs.Flows.{Pot, outputs, deposits, rewards, fees, donations, treasury, reserves, hand, Flow, flow, End, source, sink, sum_at, flows_of_certs, flows_of_passed, flows_of_scripts}
use Rattle.ledger_model.specs.Moves.{IsMovedBy, held_in}
use Rattle.ledger_model.specs.Transaction.{after_passed, after_scripts, kept_output, last_voting_epoch, made_proposal, made_proposals, with_votes}
use Rattle.ledger_model.specs.Sound.{IsSound}
use Rattle.tx_balance.specs.Laws.{PassedBalances, HasOwnWithdrawals}
use Rattle.ledger_model.proofs.DraftKeeps.{HasMaps, KeepsRest, draft_keeps}
use Rattle.ledger_model.proofs.Unbroken.{IsUnbroken, unbroken-append, unbroken-cons}
use Rattle.ledger_model.proofs.FlowSums.{is_end, sum-cons, sum-append, sum-map}
use Rattle.ledger_model.proofs.SameSums.{sum_by-map, sum_values-changed_same}
use Rattle.tx_balance.proofs.Outputs.{made_from, made_once, made_not_there, sum_values-made, outputs_settled, not_there_after}
use Rattle.tx_balance.proofs.OutputParts.{IsPassed, parts_of, id_is_new, inputs_once}
use Rattle.tx_balance.proofs.Withdrawals.{withdrawals_sum, withdrawals_whole, own_credentials}
use Rattle.tx_balance.proofs.Certs.{IsMovedDraft, rewards_in}
use Rattle.tx_balance.proofs.Drafts.{AreDeposits, is_other, all_deposits, certs_move, refresh_moves}

abbrev lovelace_of : TxOutput → ℕ
lovelace_of o = o.lovelace

abbrev proposed : ProposalRecord → ℕ
proposed p = p.deposit

abbrev amount_of : Account × ℕ → ℕ
amount_of x = x.1

abbrev proposal_dep : Proposal → ℕ
proposal_dep p = p.deposit

made_sum : (last : ℕ) (id : TxId) (n : ℕ) (ps : List ProposalRecord) → sum_by proposal_dep (map (λ p. made_proposal last id p.0 p.1) (enumerate_from n ps)) ≡ sum_by proposed ps
made_sum last id n [] = refl
made_sum last id n (p ∷ ps) = omega (arith, made_sum last id (n + 1) ps, sum_by-cons proposal_dep (made_proposal last id n p) (map (λ q. made_proposal last id q.0 q.1) (enumerate_from (n + 1) ps)), sum_by-cons proposed p ps)

module _ (l : Ledger) (tx : Tx) where
  abbrev last : Ledger
  last = last_draft l tx

  -- the flows, part after part
  abbrev spent : List Flow
  spent = map (λ r. flow outputs hand (lovelace_at l r)) tx.inputs

  abbrev taken : List Flow
  taken = map (λ (x : Account × ℕ). flow rewards hand x.1) tx.withdrawals

  abbrev certified : List Flow
  certified = flows_of_certs l tx

  abbrev made : List Flow
  made = map (λ (o : TxOutput). flow hand outputs o.lovelace) tx.outputs

  abbrev given : List Flow
  given = flow hand fees tx.fee ∷ flow hand donations tx.donation ∷ []

  abbrev proposals : List Flow
  proposals = map (λ (p : ProposalRecord). flow hand deposits p.deposit) tx.proposals

  abbrev all_spent : ℕ
  all_spent = sum_by (lovelace_at l) tx.inputs

  abbrev all_taken : ℕ
  all_taken = sum_by amount_of tx.withdrawals

  abbrev all_made : ℕ
  all_made = sum_by lovelace_of tx.outputs

  abbrev all_proposed : ℕ
  all_proposed = sum_by proposed tx.proposals

  pub passed_sum : (end : End) (p : Pot) → sum_at end p (flows_of_passed l tx)
      ≡ cond (is_end end p outputs hand) all_spent 0 + cond (is_end end p rewards hand) all_taken 0 + sum_at end p certified
      + cond (is_end end p hand outputs) all_made 0
      + (cond (is_end end p hand fees) tx.fee 0 + cond (is_end end p hand donations) tx.donation 0)
      + cond (is_end end p hand deposits) all_proposed 0
  passed_sum end p = omega (
    arith,
    sum-append end p (spent ++ taken ++ certified ++ made ++ given) proposals,
    sum-append end p (spent ++ taken ++ certified ++ made) given,
    sum-append end p (spent ++ taken ++ certified) made,
    sum-append end p (spent ++ taken) certified,
    sum-append end p spent taken,
    sum-map end p outputs hand (lovelace_at l) tx.inputs,
    sum-map end p rewards hand amount_of tx.withdrawals,
    sum-map end p hand outputs lovelace_of tx.outputs,
    sum-cons end p (flow hand fees tx.fee) (flow hand donations tx.donation ∷ []),
    sum-cons end p (flow hand donations tx.donation) [],
    sum-map end p hand deposits proposed tx.proposals,
  )

  -- the rules of the body, group after group
  abbrev withdrawal_group : List Check
  withdrawal_group = per_place (withdrawal_checks l) tx.withdrawals

  abbrev cert_group : List Check
  cert_group = per_place (λ k c. cert_checks l (draft_after l tx k) c) tx.certs

  abbrev proposal_group : List Check
  proposal_group = per_place (proposal_checks l (last_draft l tx)) tx.proposals

  abbrev vote_group : List Check
  vote_group = per_place (vote_checks l (last_draft l tx)) tx.votes

  pub record IsBodyPassed : Type 0 where
    pub withdrawals : IsUnbroken withdrawal_group
    pub certs : IsUnbroken cert_group
    pub proposals : IsUnbroken proposal_group
    pub balanced : consumed l tx ≡ produced l tx
    pub assets : IsUnbroken (asset_checks l tx)

  pub body_parts : IsUnbroken (body_checks l tx) → IsBodyPassed
  body_parts h =
      let a = unbroken-append (withdrawal_group ++ cert_group ++ proposal_group ++ vote_group) (balance_checks l tx) h in
      let b = unbroken-append (withdrawal_group ++ cert_group ++ proposal_group) vote_group a.0 in
      let c = unbroken-append (withdrawal_group ++ cert_group) proposal_group b.0 in
      let d = unbroken-append withdrawal_group cert_group c.0 in
      let e = unbroken-cons _ _ a.1 in
      record { withdrawals = d.0; certs = d.1; proposals = c.1; balanced = eqb-true (consumed l tx) (produced l tx) (not-false _ e.0); assets = e.1 }

  -- what inputs and outputs hold of anything, beside what there was
  pub inputs_settled : IsSound l → IsPassed l tx → (f : Output → ℕ)
      → sum_values f (after_passed l tx).outputs + sum_by (λ r. amount f (output_at l r)) tx.inputs ≡ sum_values f l.outputs + sum_by (λ o. f (kept_output o)) tx.outputs
  inputs_settled s p f =
      let new : List (OutRef × Output) = made_from tx.id kept_output 0 tx.outputs in
      let settled =
      outputs_settled f l tx.inputs new s (inputs_once l tx p) (made_once tx.id kept_output 0 tx.outputs)
      (made_not_there tx.id kept_output (λ r. value_at outref_cmp (without_keys outref_cmp tx.inputs l.outputs) r ≡ None) (λ i. not_there_after l tx.id i tx.inputs s (id_is_new l tx p)) 0 tx.outputs) in
      omega (arith, settled, sum_values-made tx.id kept_output f 0 tx.outputs)

  -- the draft after the withdrawals
  abbrev emptied_ledger : Ledger
  emptied_ledger = withdrawn tx l

  withdrawn_deposits : deposits_of emptied_ledger ≡ deposits_of l
  withdrawn_deposits = omega (arith, sum_values-changed_same (λ (r : Registered). r.deposit) (λ c r. is_withdrawn tx c) emptied (λ x. refl) l.accounts)

  withdrawn_rewards : IsSound l → HasOwnWithdrawals tx → IsBodyPassed → rewards_in emptied_ledger + all_taken ≡ rewards_in l
  withdrawn_rewards s own b =
      let whole = withdrawals_whole l 0 tx.withdrawals b.withdrawals in
      withdrawals_sum tx.withdrawals l.accounts s.accounts (own_credentials l.network tx.withdrawals whole.0 own) whole.1

  passed_moves : IsSound l → HasOwnWithdrawals tx → IsPassed l tx → IsBodyPassed → IsMovedBy (flows_of_passed l tx) (pots_of l) (pots_of (after_passed l tx))
  passed_moves s own p b =
      let maps : HasMaps l = record { accounts = s.accounts; pools = s.pools; dreps = s.dreps; hot = s.hot } in
      let refresh = refresh_moves tx emptied_ledger in
      let kept : KeepsRest l last = draft_keeps tx l (length tx.certs) maps in
      let moves : IsMovedDraft certified (draft_after l tx 0) last = certs_move l tx maps [] tx.certs refl b.certs in
      let dep : AreDeposits certified = all_deposits l tx maps 0 tx.certs in
      let taken_sum = withdrawn_rewards s own b in
      let settled = inputs_settled s p (λ (o : Output). o.lovelace) in
      let voted : sum_by proposal_dep (map (with_votes tx) last.proposals) ≡ sum_by proposal_dep last.proposals = sum_by-map proposal_dep (with_votes tx) last.proposals in
      let listed : sum_by proposal_dep (map (with_votes tx) last.proposals ++ made_proposals (last_voting_epoch l) tx) ≡ sum_by proposal_dep (map (with_votes tx) last.proposals) + sum_by proposal_dep (made_proposals (last_voting_epoch l) tx) =
      sum_by-append proposal_dep (map (with_votes tx) last.proposals) (made_proposals (last_voting_epoch l) tx) in
      let new : sum_by proposal_dep (made_proposals (last_voting_epoch l) tx) ≡ all_proposed = made_sum (last_voting_epoch l) tx.id 0 tx.proposals in
      let treasury_stays : last.state.treasury ≡ l.state.treasury = ap (λ (d : Ledger). d.state.treasury) (sym kept.only) in
      let reserves_stay : last.reserves ≡ l.reserves = ap (λ (d : Ledger). d.reserves) (sym kept.only) in
      let others : (p : Pot) → is_other p ≡ true → sum_at source p certified + sum_at sink p certified ≡ 0 = λ p h. omega (arith, dep source p h, dep sink p h) in
      λ p. elim p as (λ p. held_in p (pots_of (after_passed l tx)) + sum_at source p (flows_of_passed l tx) ≡ held_in p (pots_of l) + sum_at sink p (flows_of_passed l tx)) [
        | outputs ↦ omega (arith, passed_sum sink outputs, passed_sum source outputs, others outputs refl, settled)
        | deposits ↦ omega (arith, passed_sum sink deposits, passed_sum source deposits, moves.deposits, refresh.deposits, withdrawn_deposits, voted, listed, new)
        | rewards ↦ omega (arith, passed_sum sink rewards, passed_sum source rewards, others rewards refl, moves.rewards, refresh.rewards, taken_sum)
        | fees ↦ omega (arith, passed_sum sink fees, passed_sum source fees, others fees refl)
        | donations ↦ omega (arith, passed_sum sink donations, passed_sum source donations, others donations refl)
        | treasury ↦ omega (arith, passed_sum sink treasury, passed_sum source treasury, others treasury refl, treasury_stays)
        | reserves ↦ omega (arith, passed_sum sink reserves, passed_sum source reserves, others reserves refl, reserves_stay)
        | hand ↦ omega (arith, b.balanced)
      ]

  pub body_by : (sc : Scripts) (cs : List Check) → is_failed sc ≡ false → IsUnbroken (unless_failed sc cs) → IsUnbroken cs
  body_by Absent cs e h = h
  body_by Passed cs e h = h
  body_by Failed cs e h = cc

  passed_by : (sc : Scripts) → is_failed sc ≡ false → IsMovedBy (flows_of_passed l tx) (pots_of l) (pots_of (after_passed l tx))
      → IsMovedBy (flows_of_scripts sc l tx) (pots_of l) (pots_of (after_scripts sc l tx))
  passed_by Absent e h = h
  passed_by Passed e h = h
  passed_by Failed e h = cc

pub passed_balances : PassedBalances
passed_balances l tx s own e allowed =
    let p : IsPassed l tx = parts_of l tx allowed in
    passed_by l tx tx.scripts e (passed_moves l tx s own p (body_parts l tx (body_by l tx tx.scripts (body_checks l tx) e p.body)))
