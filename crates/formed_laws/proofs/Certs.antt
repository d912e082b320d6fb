-- Withdrawals, the refresh and certificates keep the form of a ledger's parts.
use Rattle.std.proofs.Common.{◌≡◌, ℕ, List, [], ◌∷◌, Bool, true, false, cond, Option, Some, None, fold, refl, length, take}
use Rattle.std.specs.List.{list_all}
use Rattle.std.specs.Ordering.{eq_by_cmp}
use Rattle.std.proofs.lemmas.Bool.{and_from}
use Rattle.maps.specs.Maps.{changed_where, value_at, with_value, without_key}
use Rattle.maps.specs.Words.{is_empty, none_or, or_else}
use Rattle.gov_ids.specs.declared.Credential.{Credential}
use Rattle.gov_ids.specs.declared.Drep.{Drep}
use Rattle.gov_ids.specs.declared.PoolId.{PoolId}
use Rattle.gov_ids.specs.declared.Voter.TheVariants as voter
use Rattle.gov_ids.specs.Orders.{credential_cmp, pool_cmp, voter_cmp}
use Rattle.book_records.specs.declared.DrepState.{DrepState}
use Rattle.book_records.specs.declared.pool.Pool.{Pool}
use Rattle.book_records.specs.declared.pool.PoolTerms.{PoolTerms}
use Rattle.book_records.specs.declared.Registered.{Registered}
use Rattle.book_records.specs.Delegations.{delegates_to_drep, without_drep}
use Rattle.book_records.specs.Dormancy.{extended, is_kept_active}
use Rattle.book_records.specs.Pools.{pool_after, retiring}
use Rattle.gov_actions.specs.declared.action.Proposal.{Proposal}
use Rattle.gov_actions.specs.declared.state.HotState.TheVariants.{Hot, Resigned}
use Rattle.gov_model.specs.Proposals.{without_vote}
use Rattle.tx_records.specs.declared.cert.Cert.{Cert}
use Rattle.tx_records.specs.declared.cert.Cert.TheVariants.{AccountReg, AccountUnreg, Delegate, PoolReg, PoolRetire, DrepReg, DrepUnreg, DrepUpdate, HotAuth, HotResign}
use Rattle.tx_records.specs.declared.tx.Tx.{Tx}
use Rattle.tx_records.specs.Limits.{is_u64}
use Rattle.ledger_model.specs.Changes.{changed_by, delegating, dormant_added, emptied, has_voted, having_acted, is_withdrawn, new_account, new_drep, refreshed, voters_refreshed, withdrawn}
use Rattle.ledger_model.specs.Draft.{draft_with, is_refused, last_draft}
use Rattle.ledger_model.specs.Ledger.{Ledger}
use Rattle.dormant_laws.proofs.Lists.{all_made, left_of, right_of}
use Rattle.text_forms.specs.Books.{are_terms, is_hot_state}
use Rattle.text_forms.specs.Ids.{is_credential, is_drep_id, is_pool_id, is_voter}
use Rattle.formed_laws.specs.Records.{are_targets, is_cert}
use Rattle.formed_laws.proofs.Each.{each-at, each-changed_where, each-with_value, each-without_key}
use Rattle.formed_laws.proofs.Parts.{HasParts, IsKept, accounts_now, dreps_now, has_deposits, hot_now, is_any, is_kept_account, is_kept_drep, is_kept_pool, pools_now}

either_of : {A : Type 0} (p : A → Bool) (o n : Option A) → none_or p n ≡ true → none_or p o ≡ true → none_or p (or_else n o) ≡ true
either_of p o None a b = b
either_of p o (Some x) a b = a

new_targets : (pool : Option PoolId) (to : Option Drep) (r : Registered) → are_targets pool to ≡ true → is_kept_account r ≡ true → is_kept_account (delegating pool to r) ≡ true
new_targets pool to r h k =
    let old = right_of (is_u64 r.deposit) (are_targets r.pool r.drep) k in
    and_from _ _ (left_of (is_u64 r.deposit) (are_targets r.pool r.drep) k)
    (and_from _ _ (either_of is_pool_id r.pool pool (left_of _ _ h) (left_of _ _ old)) (either_of is_drep_id r.drep to (right_of _ _ h) (right_of _ _ old)))

registered_pool : (deposit : ℕ) (terms : PoolTerms) (o : Option Pool) → is_u64 deposit ≡ true → are_terms terms ≡ true → none_or is_kept_pool o ≡ true → is_kept_pool (pool_after deposit terms o) ≡ true
registered_pool deposit terms None a b h = and_from _ _ (and_from _ _ (and_from _ _ a b) refl) refl
registered_pool deposit terms (Some p) a b h = and_from _ _ (and_from _ _ (left_of _ _ (left_of _ _ h)) b) refl

retiring_pool : (epoch : ℕ) (p : Pool) → is_u64 epoch ≡ true → is_kept_pool p ≡ true → is_kept_pool (retiring epoch p) ≡ true
retiring_pool epoch p a h = and_from _ _ (left_of _ _ h) a

drep_gone : (r : Registered) → is_kept_account r ≡ true → is_kept_account (without_drep r) ≡ true
drep_gone r h = and_from _ _ (left_of _ _ h) (and_from _ _ (left_of _ _ (right_of _ _ h)) refl)

-- a proposal without a vote
unvoted : (c : Credential) (p : Proposal) → IsKept p → IsKept (without_vote (voter.Drep c) p)
unvoted c p k = record {
  id = k.id;
  action = k.action;
  fork = k.fork;
  deposit = k.deposit;
  account = k.account;
  last = k.last;
  votes = each-without_key is_voter is_any voter_cmp (voter.Drep c) p.votes k.votes;
}

by_cert : (c : Cert) (d : Ledger) → is_cert c ≡ true → HasParts d → HasParts (changed_by c d)
by_cert (AccountReg cred deposit pool to) d f h =
    accounts_now d (with_value credential_cmp cred (new_account d pool to) d.accounts) h
    (each-with_value is_credential is_kept_account credential_cmp cred (new_account d pool to) d.accounts (left_of _ _ f) (and_from _ _ (has_deposits d.state.params h.state.params).key (right_of _ _ f)) h.accounts)
by_cert (AccountUnreg cred refund) d f h =
    accounts_now d (without_key credential_cmp cred d.accounts) h (each-without_key is_credential is_kept_account credential_cmp cred d.accounts h.accounts)
by_cert (Delegate cred pool to) d f h =
    accounts_now d (changed_where (λ q x. eq_by_cmp credential_cmp cred q) (delegating pool to) d.accounts) h
    (each-changed_where is_credential is_kept_account (λ q x. eq_by_cmp credential_cmp cred q) (delegating pool to) (λ r k. new_targets pool to r (right_of _ _ f) k) d.accounts h.accounts)
by_cert (PoolReg pool cost pledge margin account key) d f h =
    let terms : PoolTerms = record { cost = cost; pledge = pledge; margin = margin; account = account; key = key } in
    let now : Pool = pool_after d.state.params.pool_deposit terms (value_at pool_cmp d.pools pool) in
    let good : is_kept_pool now ≡ true =
    registered_pool d.state.params.pool_deposit terms (value_at pool_cmp d.pools pool) (has_deposits d.state.params h.state.params).pool (right_of _ _ f) (each-at is_pool_id is_kept_pool pool_cmp pool d.pools h.pools) in
    pools_now d (with_value pool_cmp pool now d.pools) h (each-with_value is_pool_id is_kept_pool pool_cmp pool now d.pools (left_of _ _ f) good h.pools)
by_cert (PoolRetire pool epoch) d f h =
    pools_now d (changed_where (λ q x. eq_by_cmp pool_cmp pool q) (retiring epoch) d.pools) h
    (each-changed_where is_pool_id is_kept_pool (λ q x. eq_by_cmp pool_cmp pool q) (retiring epoch) (λ p k. retiring_pool epoch p (right_of _ _ f) k) d.pools h.pools)
by_cert (DrepReg cred deposit) d f h =
    dreps_now d (with_value credential_cmp cred (new_drep d) d.dreps) h
    (each-with_value is_credential is_kept_drep credential_cmp cred (new_drep d) d.dreps f (has_deposits d.state.params h.state.params).drep h.dreps)
by_cert (DrepUnreg cred refund) d f h = record {
  network = h.network;
  long = h.long;
  state = h.state;
  outputs = h.outputs;
  used = h.used;
  accounts = each-changed_where is_credential is_kept_account (λ q r. delegates_to_drep cred r) without_drep drep_gone d.accounts h.accounts;
  pools = h.pools;
  dreps = each-without_key is_credential is_kept_drep credential_cmp cred d.dreps h.dreps;
  hot = h.hot;
  proposals = all_made IsKept IsKept (without_vote (voter.Drep cred)) (λ p k. unvoted cred p k) d.proposals h.proposals;
}
by_cert (DrepUpdate cred) d f h =
    dreps_now d (changed_where (λ q x. eq_by_cmp credential_cmp cred q) (having_acted d) d.dreps) h
    (each-changed_where is_credential is_kept_drep (λ q x. eq_by_cmp credential_cmp cred q) (having_acted d) (λ x k. k) d.dreps h.dreps)
by_cert (HotAuth cold key) d f h =
    hot_now d (with_value credential_cmp cold (Hot key) d.hot) h (each-with_value is_credential is_hot_state credential_cmp cold (Hot key) d.hot (left_of _ _ f) (right_of _ _ f) h.hot)
by_cert (HotResign cold) d f h =
    hot_now d (with_value credential_cmp cold Resigned d.hot) h (each-with_value is_credential is_hot_state credential_cmp cold Resigned d.hot f refl h.hot)

by_either : (b : Bool) (c : Cert) (d : Ledger) → is_cert c ≡ true → HasParts d → HasParts (cond b d (changed_by c d))
by_either true c d f h = h
by_either false c d f h = by_cert c d f h

by_certs : (l : Ledger) (cs : List Cert) (d : Ledger) → list_all is_cert cs ≡ true → HasParts d → HasParts (fold (draft_with l) d cs)
by_certs l [] d f h = h
by_certs l (c ∷ cs) d f h =
    by_certs l cs (draft_with l d c) (right_of (is_cert c) (list_all is_cert cs) f) (by_either (is_refused l d c) c d (left_of (is_cert c) (list_all is_cert cs) f) h)

-- ---- before the certificates

by_withdrawals : (tx : Tx) (l : Ledger) → HasParts l → HasParts (withdrawn tx l)
by_withdrawals tx l h =
    accounts_now l (changed_where (λ c r. is_withdrawn tx c) emptied l.accounts) h
    (each-changed_where is_credential is_kept_account (λ c r. is_withdrawn tx c) emptied (λ r k. k) l.accounts h.accounts)

by_dormant : (b : Bool) (d : Ledger) → HasParts d → HasParts (cond b d (dormant_added d))
by_dormant true d h = h
by_dormant false d h =
    let es : List (Credential × DrepState) = changed_where (λ c x. is_kept_active d.epoch d.dormant x) (extended d.dormant) d.dreps in
    let k : HasParts (record d { dreps = es }) =
    dreps_now d es h (each-changed_where is_credential is_kept_drep (λ c x. is_kept_active d.epoch d.dormant x) (extended d.dormant) (λ x k. k) d.dreps h.dreps) in
    record { network = k.network; long = k.long; state = k.state; outputs = k.outputs; used = k.used; accounts = k.accounts; pools = k.pools; dreps = k.dreps; hot = k.hot; proposals = k.proposals }

by_voters : (tx : Tx) (d : Ledger) → HasParts d → HasParts (voters_refreshed tx d)
by_voters tx d h =
    dreps_now d (changed_where (λ c x. has_voted tx c) (having_acted d) d.dreps) h
    (each-changed_where is_credential is_kept_drep (λ c x. has_voted tx c) (having_acted d) (λ x k. k) d.dreps h.dreps)

all_taken : (cs : List Cert) → list_all is_cert cs ≡ true → list_all is_cert (take (length cs) cs) ≡ true
all_taken [] f = refl
all_taken (c ∷ cs) f = and_from (is_cert c) _ (left_of (is_cert c) (list_all is_cert cs) f) (all_taken cs (right_of (is_cert c) (list_all is_cert cs) f))

-- the draft after all certificates
pub by_draft : (l : Ledger) (tx : Tx) → list_all is_cert tx.certs ≡ true → HasParts l → HasParts (last_draft l tx)
by_draft l tx f h =
    let d : Ledger = cond (is_empty tx.proposals) (withdrawn tx l) (dormant_added (withdrawn tx l)) in
    by_certs l (take (length tx.certs) tx.certs) (refreshed tx (withdrawn tx l)) (all_taken tx.certs f)
    (by_voters tx d (by_dormant (is_empty tx.proposals) (withdrawn tx l) (by_withdrawals tx l h)))
