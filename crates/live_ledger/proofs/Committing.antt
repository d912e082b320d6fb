-- A ledger after an allowed transaction: what its parts are, that they fit, and that it keeps what a ledger keeps.
use Rattle.std.proofs.Common.{◌≡◌, ℕ, ◌+◌, ◌<◌, ◌≤◌, ◌^◌, true, false, List, ◌++◌, None, length, map, sum_by, refl, ap, sym, ◌∙◌, subst, arith}
use Rattle.std.specs.List.{AllByRecursion}
use Rattle.std.specs.Map.{keys_of}
use Rattle.std.specs.Option.{option_to_list}
use Rattle.book_records.specs.declared.Output.{Output}
use Rattle.book_records.specs.Dormancy.{AllFit}
use Rattle.book_records.specs.Outputs.{lovelace_in}
use Rattle.gov_actions.specs.declared.action.Proposal.{Proposal}
use Rattle.gov_actions.specs.declared.state.EnactState.{EnactState}
use Rattle.gov_model.specs.Sides.{members_of}
use Rattle.gov_ids.specs.declared.OutRef.{OutRef}
use Rattle.gov_ids.specs.declared.TxId.{TxId}
use Rattle.gov_ids.specs.Orders.{credential_cmp, outref_cmp, txid_cmp}
use Rattle.gov_ids.proofs.Totals.{outref_total}
use Rattle.gov_ids.proofs.Exacts.{outref_exact}
use Rattle.gov_model.specs.Proposals.{deposits_of}
use Rattle.maps.proofs.Several.{sum_values-with_values, sum_values-without_keys}
use Rattle.maps.specs.Maps.{IsMap, value_at, with_key, with_values, without_keys}
use Rattle.tx_records.proofs.Parts.{tx_parts}
use Rattle.tx_records.specs.TxLimits.{is_within_limits}
use Rattle.tx_records.specs.declared.tx.ProposalRecord.{ProposalRecord}
use Rattle.tx_records.specs.declared.tx.Scripts.{Scripts}
use Rattle.tx_records.specs.declared.tx.Scripts.TheVariants.{Absent, Passed, Failed}
use Rattle.tx_records.specs.declared.tx.Tx.{Tx}
use Rattle.tx_records.specs.declared.tx.TxOutput.{TxOutput}
use Rattle.ledger_model.specs.Broken.{is_allowed}
use Rattle.ledger_model.specs.CertRules.{rewards_at}
use Rattle.ledger_model.specs.Draft.{last_draft}
use Rattle.ledger_model.specs.Ledger.{Ledger}
use Rattle.ledger_model.specs.Sound.{IsSound}
use Rattle.ledger_model.specs.Supply.{supply_of}
use Rattle.ledger_model.specs.Transaction.{after_failed, after_passed, after_scripts, kept_output, last_voting_epoch, ledger_after_tx, made_outputs, made_proposals, made_return, with_votes}
use Rattle.ledger_model.specs.UtxoRules.{collateral_left, collateral_sum, has_scripts, is_failed, returned}
use Rattle.tx_balance.proofs.Failed.{made, returned_sum}
use Rattle.tx_balance.proofs.OutputParts.{IsPassed, collateral_once, collateral_split, id_is_new, parts_of}
use Rattle.tx_balance.proofs.Outputs.{made_from, made_not_there, made_once, not_there_after, sum-made}
use Rattle.tx_balance.proofs.Sounds.{allowed_keeps_supply, allowed_stays_sound, new_used, tx_steady}
use Rattle.proposal_store.specs.Store.{AllOrdered}
use Rattle.dormant_laws.specs.of_run_model.Laws.{IsWithinDormantBound}
use Rattle.stake_book.specs.Stakes.{balances_in, without_dreps}
use Rattle.coin_frac.specs.declared.TheConstants.{SUPPLY_LIMIT}
use Rattle.draft_changes.specs.Balances.{NoneRises}
use Rattle.draft_changes.specs.Changed.{Changed, laid_over, with_registrations}
use Rattle.proposal_store.specs.Leaving.{without_votes_of}
use Rattle.live_ledger.specs.Kept.{IsLiveLedger}
use Rattle.live_ledger.specs.Proposed.{IsUnknown}
use Rattle.dormant_laws.proofs.Dormant.{tx_timely}
use Rattle.live_ledger.proofs.Balances.{draft_lowers, ended_balance}
use Rattle.live_ledger.proofs.Cleared.{ordered-append, ordered-cleared, ordered-proposed, ordered-voted, used-cleared}
use Rattle.live_ledger.proofs.Timely.{all_fit}
use Rattle.live_ledger.proofs.Proposing.{AreUsed, deposits-append, deposits-proposed, used-append, used-more, used-proposed, used-voted, used_unknown}

by_passed : (sc : Scripts) (l : Ledger) (tx : Tx) → is_failed sc ≡ false → after_passed l tx ≡ after_scripts sc l tx
by_passed Absent l tx e = refl
by_passed Passed l tx e = refl
by_passed Failed l tx e = cc

by_failed : (sc : Scripts) (l : Ledger) (tx : Tx) → is_failed sc ≡ true → (has_scripts sc ≡ true) × (after_failed l tx ≡ after_scripts sc l tx)
by_failed Absent l tx e = cc
by_failed Passed l tx e = cc
by_failed Failed l tx e = (refl, refl)

-- the ledger after a transaction whose scripts did not fail, with these changes
abbrev pub after_changes : Ledger → Tx → Changed → Ledger
after_changes l tx changes = record (laid_over changes l) {
  outputs = with_values outref_cmp (made_outputs tx) (without_keys outref_cmp tx.inputs l.outputs);
  used = with_key txid_cmp tx.id l.used;
  proposals = map (with_votes tx) (map (without_votes_of changes.left) l.proposals) ++ made_proposals (last_voting_epoch l) tx;
  fees = l.fees + tx.fee;
  donations = l.donations + tx.donation;
}

-- the changes raise no balance, it is that of the definitions, it fits, and it keeps what a ledger keeps
pub record IsPassing (l : Ledger) (tx : Tx) (changes : Changed) : Type 0 where
  pub before : lovelace_in l.outputs + balances_in l.accounts + 0 ≤ SUPPLY_LIMIT
  pub lower : NoneRises changes.accounts (without_dreps changes.left l.accounts)
  pub fit : AllFit l.dormant l.dreps
  pub absent : AllByRecursion (λ r. value_at outref_cmp (without_keys outref_cmp tx.inputs l.outputs) r ≡ None) (keys_of (made_outputs tx))
  pub room : lovelace_in (without_keys outref_cmp tx.inputs l.outputs) + balances_in (with_registrations changes.accounts (without_dreps changes.left l.accounts)) + sum_by (λ (o : TxOutput). o.lovelace) tx.outputs ≤ SUPPLY_LIMIT
  pub fee : l.fees + tx.fee < 2 ^ 64
  pub donation : l.donations + tx.donation < 2 ^ 64
  pub unknown : IsUnknown tx.id (map (with_votes tx) (map (without_votes_of changes.left) l.proposals))
  pub deposits : deposits_of (map (with_votes tx) (map (without_votes_of changes.left) l.proposals)) + sum_by (λ (p : ProposalRecord). p.deposit) tx.proposals < 2 ^ 64
  pub kept : IsLiveLedger (after_changes l tx changes)
  pub is : after_changes l tx changes ≡ ledger_after_tx l tx

-- what holds where its scripts failed
pub record IsFailing (l : Ledger) (tx : Tx) : Type 0 where
  pub absent : AllByRecursion (λ r. value_at outref_cmp (without_keys outref_cmp tx.collateral l.outputs) r ≡ None) (keys_of (made_return tx))
  pub room : lovelace_in (without_keys outref_cmp tx.collateral l.outputs) + balances_in l.accounts + returned tx ≤ SUPPLY_LIMIT
  pub taken : lovelace_in (without_keys outref_cmp tx.collateral l.outputs) + collateral_sum l tx ≡ lovelace_in l.outputs
  pub covered : collateral_left l tx + returned tx ≡ collateral_sum l tx
  pub kept : IsLiveLedger (after_failed l tx)
  pub is : after_failed l tx ≡ ledger_after_tx l tx

module _ (l : Ledger) (tx : Tx) (k : IsLiveLedger l) (within : is_within_limits tx ≡ true) (allowed : is_allowed l tx ≡ true) where
  parts : IsPassed l tx
  parts = parts_of l tx allowed

  -- the ledger after it keeps what a ledger keeps, if the transactions of its proposals are used and their votes are maps
  kept_after : (m : Ledger) → m ≡ ledger_after_tx l tx → m.state ≡ l.state → AreUsed m.used m.proposals → AllOrdered m.proposals → IsLiveLedger m
  kept_after m is state proposed voted =
      let supply = allowed_keeps_supply l tx k.sound (tx_parts tx within).withdrawals allowed in
      let epoch : m.epoch ≡ l.epoch = ap (λ (x : Ledger). x.epoch) is ∙ ap (λ (x : Ledger). x.epoch) (sym (tx_steady l tx k.sound).only) in
      record {
        sound = subst (λ (x : Ledger). IsSound x) (sym is) (allowed_stays_sound l tx k.sound allowed);
        balanced = ap (λ (x : Ledger). supply_of x) is ∙ supply.1 ∙ k.balanced ∙ sym supply.0 ∙ ap (λ (x : Ledger). x.supply) (sym is);
        within = omega (arith, supply.0, k.within, ap (λ (x : Ledger). x.supply) is);
        early = omega (arith, epoch, k.early);
        timely = subst (λ (x : Ledger). IsWithinDormantBound x) (sym is) (tx_timely l tx k.sound.dreps k.timely k.active);
        active = subst (λ (s : EnactState). s.params.drep_activity ≤ 2 ^ 32) (sym state) k.active;
        proposed = proposed;
        voted = voted;
        seated = subst (λ (s : EnactState). IsMap credential_cmp (members_of s.committee)) (sym state) k.seated;
      }

  -- the outputs without these
  abbrev left : List OutRef → List (OutRef × Output)
  left rs = without_keys outref_cmp rs l.outputs

  -- outputs of the transaction come to references with no value, whatever was taken before
  made_absent : (rs : List OutRef) (n : ℕ) (xs : List TxOutput) → AllByRecursion (λ r. value_at outref_cmp (left rs) r ≡ None) (keys_of (made_from tx.id kept_output n xs))
  made_absent rs n xs = made_not_there tx.id kept_output (λ r. value_at outref_cmp (left rs) r ≡ None) (λ i. not_there_after l tx.id i rs k.sound (id_is_new l tx parts)) n xs

  -- and are as many lovelace more
  made_sum : (rs : List OutRef) (n : ℕ) (xs : List TxOutput) → lovelace_in (with_values outref_cmp (made_from tx.id kept_output n xs) (left rs)) ≡ lovelace_in (left rs) + sum_by (λ (o : TxOutput). o.lovelace) xs
  made_sum rs n xs =
      omega (
        arith,
        sum_values-with_values outref_total (λ (o : Output). o.lovelace) (made_from tx.id kept_output n xs) (left rs) (made_once tx.id kept_output n xs) (made_absent rs n xs),
        sum-made tx.id kept_output n xs,
      )

  -- it is that of the definitions
  passed_is : (changes : Changed) → is_failed tx.scripts ≡ false → laid_over changes l ≡ last_draft l tx → after_changes l tx changes ≡ ledger_after_tx l tx
  passed_is changes e drafted =
      (λ i. record (drafted i) {
        outputs = with_values outref_cmp (made_outputs tx) (left tx.inputs);
        used = with_key txid_cmp tx.id l.used;
        proposals = map (with_votes tx) (drafted i).proposals ++ made_proposals (last_voting_epoch l) tx;
        fees = l.fees + tx.fee;
        donations = l.donations + tx.donation;
      })
      ∙ by_passed tx.scripts l tx e

  -- no balance rises
  changes_lower : (changes : Changed) → laid_over changes l ≡ last_draft l tx → NoneRises changes.accounts (without_dreps changes.left l.accounts)
  changes_lower changes drafted c =
      omega (
        arith,
        (draft_lowers l tx (length tx.certs) k.sound.accounts).lower c,
        ap (λ (d : Ledger). rewards_at d c) drafted,
        ended_balance changes.left l.accounts c,
      )

  -- what its changes come to, where its scripts did not fail
  pub passes : (changes : Changed) → is_failed tx.scripts ≡ false → laid_over changes l ≡ last_draft l tx → IsPassing l tx changes
  passes changes e drafted =
      let is = passed_is changes e drafted in
      let now_used : List TxId = with_key txid_cmp tx.id l.used in
      let left : List Proposal = map (without_votes_of changes.left) l.proposals in
      let known : AreUsed l.used left = used-cleared l.used changes.left l.proposals k.proposed in
      let old : List Proposal = map (with_votes tx) left in
      let proposed = used-append now_used old (made_proposals (last_voting_epoch l) tx) (used-voted now_used tx.votes left (used-more l.used tx.id left known))
      (used-proposed now_used (last_voting_epoch l) tx.id 0 tx.proposals (new_used l.used tx.id)) in
      let voted = ordered-append old (made_proposals (last_voting_epoch l) tx) (ordered-voted tx.votes left (ordered-cleared changes.left l.proposals k.voted)) (ordered-proposed (last_voting_epoch l) tx.id 0 tx.proposals) in
      let kept : IsLiveLedger (after_changes l tx changes) = kept_after (after_changes l tx changes) is refl proposed voted in
      record {
        before = omega (arith, k.balanced, k.within);
        lower = changes_lower changes drafted;
        fit = all_fit l k.timely k.sound.dreps k.early;
        absent = made_absent tx.inputs 0 tx.outputs;
        room = omega (arith, kept.balanced, made_sum tx.inputs 0 tx.outputs, k.within);
        fee = omega (arith, kept.balanced, k.within);
        donation = omega (arith, kept.balanced, k.within);
        unknown = used_unknown l.used tx.id old (id_is_new l tx parts) (used-voted l.used tx.votes left known);
        deposits = omega (arith, kept.balanced, k.within, deposits-append old (made_proposals (last_voting_epoch l) tx), deposits-proposed (last_voting_epoch l) tx.id 0 tx.proposals);
        kept = kept;
        is = is;
      }

  -- and what it comes to where they failed
  pub fails : is_failed tx.scripts ≡ true → IsFailing l tx
  fails e =
      let by = by_failed tx.scripts l tx e in
      let kept : IsLiveLedger (after_failed l tx) = kept_after (after_failed l tx) by.1 refl (used-more l.used tx.id l.proposals k.proposed) k.voted in
      let n = length tx.outputs in
      let back = option_to_list tx.collateral_return in
      record {
        absent = rw (made l tx) (made_absent tx.collateral n back);
        room = omega (
          arith,
          kept.balanced,
          ap (λ (new : List (OutRef × Output)). lovelace_in (with_values outref_cmp new (left tx.collateral))) (made l tx),
          made_sum tx.collateral n back,
          returned_sum l tx,
          k.within,
        );
        taken = sum_values-without_keys outref_total outref_exact (λ (o : Output). o.lovelace) tx.collateral l.outputs k.sound.outputs (collateral_once l tx parts);
        covered = collateral_split l tx parts by.0;
        kept = kept;
        is = by.1;
      }
