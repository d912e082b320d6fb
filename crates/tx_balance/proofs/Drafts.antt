-- All certificates of a transaction together, after the withdrawals and the refresh.
use Rattle.std.proofs.Common.{◌≡◌, ℕ, ◌+◌, List, [], ◌∷◌, ◌++◌, Bool, true, false, cond, not, ◌||◌, flat_map, fold, take, length, sum_by, refl, ap, sym, subst, ◌∙◌, arith, append_assoc, length-append}
use Rattle.std.specs.List.{enumerate_from}
use Rattle.std.proofs.Math.Seq.{take-append_seam}
use Rattle.std.proofs.lemmas.List.{append-nil}
use Rattle.std.proofs.lemmas.List.Sums.{fold-append}
use Rattle.maps.specs.Words.{is_empty}
use Rattle.book_records.specs.declared.DrepState.{DrepState}
use Rattle.book_records.specs.Dormancy.{is_kept_active, extended}
use Rattle.tx_records.specs.declared.cert.Cert.{Cert}
use Rattle.tx_records.specs.declared.cert.Cert.TheVariants.{AccountReg, AccountUnreg, Delegate, PoolReg, PoolRetire, DrepReg, DrepUnreg, DrepUpdate, HotAuth, HotResign}
use Rattle.tx_records.specs.declared.tx.Tx.{Tx}
use Rattle.ledger_model.specs.Ledger.{Ledger, params_of, is_pool}
use Rattle.ledger_model.specs.Checks.{Check, per_place_from}
use Rattle.ledger_model.specs.Changes.{changed_by, withdrawn, refreshed, dormant_added, voters_refreshed, has_voted, having_acted}
use Rattle.ledger_model.specs.CertRules.{cert_checks}
use Rattle.ledger_model.specs.Draft.{draft_after, draft_with, last_draft}
use Rattle.ledger_model.specs.Flows.{Pot, deposits, hand, same_pot, Flow, flow, flows_of_cert, End, source, sink, sum_at}
use Rattle.ledger_model.proofs.DraftKeeps.{HasMaps, draft_keeps}
use Rattle.ledger_model.proofs.FlowSums.{sum-append}
use Rattle.ledger_model.proofs.SameSums.{sum_values-changed_same}
use Rattle.ledger_model.proofs.Unbroken.{IsUnbroken, unbroken-per_place}
use Rattle.tx_balance.proofs.Certs.{IsMovedDraft, cert_moves, draft_step}

-- neither the hand nor the deposits
abbrev pub is_other : Pot → Bool
is_other p = not (same_pot hand p || same_pot deposits p)

-- flows between the hand and the deposits alone
abbrev pub AreDeposits : List Flow → Type 0
AreDeposits fs = (end : End) (p : Pot) → is_other p ≡ true → sum_at end p fs ≡ 0

neither : (a b : Bool) → not (a || b) ≡ true → (a ≡ false) × (b ≡ false)
neither true b h = cc
neither false true h = cc
neither false false h = (refl, refl)

none_flow : AreDeposits []
none_flow end p h = refl

-- a flow with another pot at this end
elsewhere : (p : Pot) (f : Flow) (b : Bool) → b ≡ false → sum_by (λ (x : Flow). x.amount) (cond b (f ∷ []) []) ≡ 0
elsewhere p f b h = ap (λ t. sum_by (λ (x : Flow). x.amount) (cond t (f ∷ []) [])) h

paid_in : (n : ℕ) → AreDeposits (flow hand deposits n ∷ [])
paid_in n source p h = elsewhere p (flow hand deposits n) (same_pot hand p) (neither _ _ h).0
paid_in n sink p h = elsewhere p (flow hand deposits n) (same_pot deposits p) (neither _ _ h).1

given_back : (n : ℕ) → AreDeposits (flow deposits hand n ∷ [])
given_back n source p h = elsewhere p (flow deposits hand n) (same_pot deposits p) (neither _ _ h).1
given_back n sink p h = elsewhere p (flow deposits hand n) (same_pot hand p) (neither _ _ h).0

either_flows : (b : Bool) (n : ℕ) → AreDeposits (cond b [] (flow hand deposits n ∷ []))
either_flows true n = none_flow
either_flows false n = paid_in n

cert_deposits : (d : Ledger) (c : Cert) → AreDeposits (flows_of_cert d c)
cert_deposits d (AccountReg cred deposit pool drep) = paid_in _
cert_deposits d (AccountUnreg cred refund) = given_back _
cert_deposits d (Delegate cred pool drep) = none_flow
cert_deposits d (PoolReg pool cost pledge margin account key) = either_flows (is_pool d pool) (params_of d).pool_deposit
cert_deposits d (PoolRetire pool epoch) = none_flow
cert_deposits d (DrepReg cred deposit) = paid_in _
cert_deposits d (DrepUnreg cred refund) = given_back _
cert_deposits d (DrepUpdate cred) = none_flow
cert_deposits d (HotAuth cold key) = none_flow
cert_deposits d (HotResign cold) = none_flow

deposits-append : (fs gs : List Flow) → AreDeposits fs → AreDeposits gs → AreDeposits (fs ++ gs)
deposits-append fs gs a b = λ end p h. omega (arith, a end p h, b end p h, sum-append end p fs gs)

drafts-append : (fs gs : List Flow) (d e f : Ledger) → IsMovedDraft fs d e → IsMovedDraft gs e f → IsMovedDraft (fs ++ gs) d f
drafts-append fs gs d e f a b =
    record { deposits = omega (arith, a.deposits, b.deposits, sum-append sink deposits fs gs, sum-append source deposits fs gs); rewards = b.rewards ∙ a.rewards }

module _ (l : Ledger) (tx : Tx) (m : HasMaps l) where
  abbrev pub cert_flows : ℕ → List Cert → List Flow
  cert_flows n cs = flat_map (λ p. flows_of_cert (draft_after l tx p.0) p.1) (enumerate_from n cs)

  abbrev checks_at : ℕ → Cert → List Check
  checks_at k c = cert_checks l (draft_after l tx k) c

  pub all_deposits : (n : ℕ) (cs : List Cert) → AreDeposits (cert_flows n cs)
  all_deposits n [] = none_flow
  all_deposits n (c ∷ cs) = deposits-append (flows_of_cert (draft_after l tx n) c) (cert_flows (n + 1) cs) (cert_deposits (draft_after l tx n) c) (all_deposits (n + 1) cs)

  abbrev before_certs : Ledger
  before_certs = refreshed tx (withdrawn tx l)

  next_draft : (front : List Cert) (c : Cert) (rest : List Cert) → front ++ c ∷ rest ≡ tx.certs → draft_after l tx (length front + 1) ≡ draft_with l (draft_after l tx (length front)) c
  next_draft front c rest e =
      let n : length (front ++ c ∷ []) ≡ length front + 1 = length-append front (c ∷ []) in
      let now : take (length front) tx.certs ≡ front = ap (λ (list : List Cert). take (length front) list) (sym e) ∙ take-append_seam front (c ∷ rest) in
      let then_ : take (length front + 1) tx.certs ≡ front ++ c ∷ [] =
      ap (λ (k : ℕ). take k tx.certs) (sym n) ∙ ap (λ (list : List Cert). take (length (front ++ c ∷ [])) list) (sym e ∙ sym (append_assoc front (c ∷ []) rest)) ∙ take-append_seam (front ++ c ∷ []) rest in
      ap (λ (list : List Cert). fold (draft_with l) before_certs list) then_
      ∙ fold-append (draft_with l) before_certs front (c ∷ [])
      ∙ ap (λ (list : List Cert). draft_with l (fold (draft_with l) before_certs list) c) (sym now)

  pub certs_move : (front cs : List Cert) → front ++ cs ≡ tx.certs → IsUnbroken (per_place_from checks_at (length front) cs)
      → IsMovedDraft (cert_flows (length front) cs) (draft_after l tx (length front)) (last_draft l tx)
  certs_move front [] e h =
      subst (λ (k : ℕ). IsMovedDraft [] (draft_after l tx (length front)) (draft_after l tx k)) (ap (λ (list : List Cert). length list) (sym (append-nil front) ∙ e)) (record { deposits = refl; rewards = refl })
  certs_move front (c ∷ cs) e h =
      let here : Ledger = draft_after l tx (length front) in
      let both = unbroken-per_place checks_at (length front) c cs h in
      let next : draft_after l tx (length front + 1) ≡ changed_by c here = next_draft front c cs e ∙ draft_step l here c both.0 in
      let first : IsMovedDraft (flows_of_cert here c) here (draft_after l tx (length front + 1)) = subst (λ (v : Ledger). IsMovedDraft (flows_of_cert here c) here v) (sym next) (cert_moves l here c (draft_keeps tx l (length front) m).maps both.0) in
      let n : length (front ++ c ∷ []) ≡ length front + 1 = length-append front (c ∷ []) in
      let more : IsMovedDraft (cert_flows (length (front ++ c ∷ [])) cs) (draft_after l tx (length (front ++ c ∷ []))) (last_draft l tx) =
      certs_move (front ++ c ∷ []) cs (append_assoc front (c ∷ []) cs ∙ e)
      (subst (λ (k : ℕ). IsUnbroken (per_place_from checks_at k cs)) (sym n) both.1) in
      drafts-append (flows_of_cert here c) (cert_flows (length front + 1) cs) here (draft_after l tx (length front + 1)) (last_draft l tx) first
      (subst (λ (k : ℕ). IsMovedDraft (cert_flows k cs) (draft_after l tx k) (last_draft l tx)) n more)

-- the refresh moves nothing
module _ (tx : Tx) where
  abbrev drep_dep : DrepState → ℕ
  drep_dep x = x.deposit

  voters_move : (d : Ledger) → IsMovedDraft [] d (voters_refreshed tx d)
  voters_move d = record { deposits = omega (arith, sum_values-changed_same drep_dep (λ c x. has_voted tx c) (having_acted d) (λ x. refl) d.dreps); rewards = refl }

  refresh_by : (b : Bool) (d : Ledger) → IsMovedDraft [] d (voters_refreshed tx (cond b d (dormant_added d)))
  refresh_by true d = voters_move d
  refresh_by false d = record {
    deposits = omega (arith, (voters_move (dormant_added d)).deposits, sum_values-changed_same drep_dep (λ c x. is_kept_active d.epoch d.dormant x) (extended d.dormant) (λ x. refl) d.dreps);
    rewards = refl;
  }

  pub refresh_moves : (d : Ledger) → IsMovedDraft [] d (refreshed tx d)
  refresh_moves d = refresh_by (is_empty tx.proposals) d
