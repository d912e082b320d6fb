-- The parts that the code leaves are those of the ledger after the transaction.
use Rattle.std.proofs.Common.{◌≡◌, ℕ, ◌+◌, List, ◌++◌, map, ap, arith, ◌∙◌}
use Rattle.book_records.specs.declared.Output.{Output}
use Rattle.book_records.specs.declared.pool.Pool.{Pool}
use Rattle.book_records.specs.Outputs.{lovelace_in}
use Rattle.gov_ids.specs.declared.Credential.{Credential}
use Rattle.gov_ids.specs.declared.OutRef.{OutRef}
use Rattle.gov_ids.specs.declared.PoolId.{PoolId}
use Rattle.gov_ids.specs.declared.TxId.{TxId}
use Rattle.gov_ids.specs.Orders.{credential_cmp, outref_cmp, pool_cmp, txid_cmp}
use Rattle.gov_actions.specs.declared.action.Proposal.{Proposal}
use Rattle.gov_actions.specs.declared.state.HotState.{HotState}
use Rattle.maps.specs.Maps.{with_key, with_values, without_keys}
use Rattle.tx_records.specs.declared.tx.Tx.{Tx}
use Rattle.ledger_model.specs.Ledger.{Ledger}
use Rattle.ledger_model.specs.Transaction.{after_failed, last_voting_epoch, made_outputs, made_proposals, made_return, with_votes}
use Rattle.ledger_model.specs.UtxoRules.{collateral_left, collateral_sum}
use Rattle.drep_book.specs.Dreps.{Dreps}
use Rattle.stake_book.specs.Stakes.{Stakes, accounts_of, with_used, without_dreps}
use Rattle.utxo_set.specs.Utxos.{Utxos}
use Rattle.view_map.specs.View.{frozen_of}
use Rattle.draft_changes.specs.Balances.{KeepsOutputs}
use Rattle.live_ledger.specs.Books.{IsMade, KeepsAccounts}
use Rattle.draft_changes.specs.ChangedDreps as changed_dreps
use Rattle.draft_changes.specs.Changed.{Changed, with_registrations}
use Rattle.proposal_store.specs.Leaving.{without_votes_of}
use Rattle.live_ledger.proofs.Committing.{IsFailing, after_changes}

-- a book from which outputs were taken
pub record IsTaken (s a : Stakes) (taken : List OutRef) : Type 0 where
  pub outputs : a.outputs ≡ record s.outputs { outputs = without_keys outref_cmp taken s.outputs.outputs }
  pub kept : KeepsAccounts s a

pub taken_from : (s a : Stakes) (rs taken : List OutRef) → rs ≡ taken → a.outputs ≡ record s.outputs { outputs = without_keys outref_cmp rs s.outputs.outputs } → KeepsAccounts s a → IsTaken s a taken
taken_from s a rs taken e p k =
    record { outputs = p ∙ ap (λ (ks : List OutRef). record s.outputs { outputs = without_keys outref_cmp ks s.outputs.outputs }) e; kept = k }

-- into which others were put, and in which an id was marked
pub made_from_taken : (s a b t : Stakes) (taken : List OutRef) (made : List (OutRef × Output)) (id : TxId) → IsTaken s a taken
    → b.outputs ≡ record a.outputs { outputs = with_values outref_cmp made a.outputs.outputs } → KeepsAccounts a b → t ≡ with_used (with_key txid_cmp id b.outputs.used) b → IsMade s t taken made id
made_from_taken s a b t taken made id h p k q = record {
  outputs = ap (λ (x : Stakes). x.outputs) q ∙ ap (λ (u : Utxos). record u { used = with_key txid_cmp id u.used }) p
      ∙ ap (λ (u : Utxos). record { outputs = with_values outref_cmp made u.outputs; used = with_key txid_cmp id u.used }) h.outputs;
  kept = record {
    accounts = ap (λ (x : Stakes). accounts_of x) q ∙ k.accounts ∙ h.kept.accounts;
    frozen = ap (λ (x : Stakes). frozen_of credential_cmp x.accounts) q ∙ k.frozen ∙ h.kept.frozen;
  };
}

-- a ledger with the outputs, used ids and registrations of a book
abbrev pub with_book : Stakes → Ledger → Ledger
with_book s l = record l { outputs = s.outputs.outputs; used = s.outputs.used; accounts = accounts_of s }

module _ (l : Ledger) (tx : Tx) (s : Stakes) where
  pub passed_parts : (changes : Changed) (a t : Stakes) (pools : List (PoolId × Pool)) (dreps : Dreps) (hot : List (Credential × HotState)) (proposals : List Proposal)
      → accounts_of a ≡ with_registrations changes.accounts (without_dreps changes.left (accounts_of s)) → KeepsOutputs s a
      → IsMade a t tx.inputs (made_outputs tx) tx.id → pools ≡ with_values pool_cmp changes.pools l.pools
      → dreps ≡ changed_dreps.laid_over (record { dreps = changes.dreps; refreshed = changes.refreshed }) l.epoch (record { dreps = l.dreps; dormant = l.dormant })
      → hot ≡ with_values credential_cmp changes.hot l.hot → proposals ≡ map (with_votes tx) (map (without_votes_of changes.left) l.proposals) ++ made_proposals (last_voting_epoch l) tx
      → record (with_book t l) { dormant = dreps.dormant; pools = pools; dreps = dreps.dreps; hot = hot; proposals = proposals; fees = l.fees + tx.fee; donations = l.donations + tx.donation } ≡ after_changes (with_book s l) tx changes
  passed_parts changes a t pools dreps hot proposals laid k m pooled standing warm proposed =
      let outputs = m.outputs ∙ ap (λ (u : Utxos). record {
        outputs = with_values outref_cmp (made_outputs tx) (without_keys outref_cmp tx.inputs u.outputs);
        used = with_key txid_cmp tx.id u.used;
      }) k.outputs in
      let accounts = m.kept.accounts ∙ laid in
      λ i. record l {
        dormant = (standing i).dormant;
        outputs = (outputs i).outputs;
        used = (outputs i).used;
        accounts = accounts i;
        pools = pooled i;
        dreps = (standing i).dreps;
        hot = warm i;
        proposals = proposed i;
        fees = l.fees + tx.fee;
        donations = l.donations + tx.donation;
      }

  pub failed_parts : (t : Stakes) (fee : ℕ) → IsMade s t tx.collateral (made_return tx) tx.id → fee ≡ collateral_left (with_book s l) tx
      → record (with_book t l) { fees = l.fees + fee } ≡ after_failed (with_book s l) tx
  failed_parts t fee m paid =
      λ i. record l { outputs = (m.outputs i).outputs; used = (m.outputs i).used; accounts = m.kept.accounts i; fees = l.fees + paid i }

-- what leaves the book is what the collateral holds
pub taken_sum : (l : Ledger) (tx : Tx) (a : Stakes) (before after : ℕ) → IsFailing l tx → a.outputs.outputs ≡ without_keys outref_cmp tx.collateral l.outputs
    → before ≡ lovelace_in l.outputs → after ≡ lovelace_in a.outputs.outputs → after + collateral_sum l tx ≡ before
taken_sum l tx a before after f e p q = omega (arith, f.taken, ap (λ (es : List (OutRef × Output)). lovelace_in es) e)
