-- Each certificate that breaks no rule moves the deposits by its flows, and leaves the rewards.
use Rattle.std.proofs.Common.{◌≡◌, ℕ, ◌+◌, List, [], ◌∷◌, true, false, cond, Option, Some, None, is_some, map, sum_by, refl, ap, arith}
use Rattle.std.specs.Ordering.{eq_by_cmp}
use Rattle.std.proofs.lemmas.Bool.{eqb-true, not-false}
use Rattle.maps.specs.Maps.{IsMap, value_at, sum_values, changed_at, with_value, without_key}
use Rattle.maps.specs.Words.{amount}
use Rattle.maps.proofs.Joined.{none_from}
use Rattle.maps.proofs.Sums.{sum_values-with_value, sum_values-with_value_absent, sum_values-without_key}
use Rattle.gov_ids.specs.declared.Credential.{Credential}
use Rattle.gov_ids.specs.declared.Drep.{Drep}
use Rattle.gov_ids.specs.declared.PoolId.{PoolId}
use Rattle.gov_ids.specs.declared.Voter.TheVariants as voter
use Rattle.gov_ids.specs.Orders.{credential_cmp, pool_cmp}
use Rattle.gov_ids.proofs.Totals.{pool_total}
use Rattle.book_records.specs.declared.Registered.{Registered}
use Rattle.book_records.specs.Pools.{pool_after, retiring}
use Rattle.book_records.specs.declared.pool.Pool.{Pool}
use Rattle.book_records.specs.declared.pool.PoolTerms.{PoolTerms}
use Rattle.book_records.specs.declared.DrepState.{DrepState}
use Rattle.tx_records.specs.of_gov_actions.declared.action.Proposal.{Proposal}
use Rattle.tx_records.specs.declared.cert.Cert.{Cert}
use Rattle.tx_records.specs.declared.cert.Cert.TheVariants.{AccountReg, AccountUnreg, Delegate, PoolReg, PoolRetire, DrepReg, DrepUnreg, DrepUpdate, HotAuth, HotResign}
use Rattle.ledger_model.specs.Ledger.{Ledger, params_of, account_at, is_account, is_drep}
use Rattle.ledger_model.specs.Supply.{deposits_of}
use Rattle.ledger_model.specs.of_gov_model.Proposals.{without_vote}
use Rattle.book_records.specs.Delegations.{without_drep, delegates_to_drep}
use Rattle.ledger_model.specs.Changes.{changed_by, new_account, delegating, new_drep, having_acted}
use Rattle.ledger_model.specs.CertRules.{cert_checks, account_deposit, drep_deposit_of, rewards_at}
use Rattle.ledger_model.specs.Draft.{draft_with}
use Rattle.ledger_model.specs.Flows.{deposits, hand, Flow, flow, flows_of_cert, source, sink, sum_at}
use Rattle.ledger_model.proofs.DraftKeeps.{HasMaps}
use Rattle.ledger_model.proofs.Unbroken.{IsUnbroken, unbroken-cons, none_broken}
use Rattle.ledger_model.proofs.SameSums.{sum_by-map, sum_values-changed_same}

abbrev pub rewards_in : Ledger → ℕ
rewards_in d = sum_values (λ (r : Registered). r.rewards) d.accounts

-- e is what d becomes by flows between the hand and the deposits
pub record IsMovedDraft (fs : List Flow) (d e : Ledger) : Type 0 where
  pub deposits : deposits_of e + sum_at source deposits fs ≡ deposits_of d + sum_at sink deposits fs
  pub rewards : rewards_in e ≡ rewards_in d

some_by : {A : Type 0} (o : Option A) → is_some o ≡ true → (x : A) × (o ≡ Some x)
some_by None h = cc
some_by (Some x) h = (x, refl)

amount_by : {A : Type 0} (f : A → ℕ) (o : Option A) (x : A) → o ≡ Some x → amount f o ≡ f x
amount_by {A} f o x e = ap (λ (p : Option A). amount f p) e

abbrev account_dep : Registered → ℕ
account_dep r = r.deposit

abbrev account_rew : Registered → ℕ
account_rew r = r.rewards

abbrev pool_dep : Pool → ℕ
pool_dep p = p.deposit

abbrev drep_dep : DrepState → ℕ
drep_dep s = s.deposit

abbrev proposal_dep : Proposal → ℕ
proposal_dep p = p.deposit

-- an account is registered
register : (d : Ledger) (cred : Credential) (pool : Option PoolId) (drep : Option Drep) → is_account d cred ≡ false
    → IsMovedDraft (flow hand deposits (params_of d).key_deposit ∷ []) d (record d { accounts = with_value credential_cmp cred (new_account d pool drep) d.accounts })
register d cred pool drep h =
    let absent : value_at credential_cmp d.accounts cred ≡ None = none_from (account_at d cred) h in
    record {
      deposits = omega (arith, sum_values-with_value_absent account_dep credential_cmp cred (new_account d pool drep) d.accounts absent);
      rewards = omega (arith, sum_values-with_value_absent account_rew credential_cmp cred (new_account d pool drep) d.accounts absent);
    }

-- an account leaves
unregister : (d : Ledger) (cred : Credential) → is_account d cred ≡ true → rewards_at d cred ≡ 0
    → IsMovedDraft (flow deposits hand (account_deposit d cred) ∷ []) d (record d { accounts = without_key credential_cmp cred d.accounts })
unregister d cred h z =
    let there : (x : Registered) × (account_at d cred ≡ Some x) = some_by (account_at d cred) h in
    let refund : account_deposit d cred ≡ there.0.deposit = amount_by account_dep (account_at d cred) there.0 there.1 in
    let balance : rewards_at d cred ≡ there.0.rewards = amount_by account_rew (account_at d cred) there.0 there.1 in
    record {
      deposits = omega (arith, refund, sum_values-without_key account_dep credential_cmp cred there.0 d.accounts there.1);
      rewards = omega (arith, balance, z, sum_values-without_key account_rew credential_cmp cred there.0 d.accounts there.1);
    }

-- an account delegates
delegate : (d : Ledger) (cred : Credential) (pool : Option PoolId) (drep : Option Drep)
    → IsMovedDraft [] d (record d { accounts = changed_at credential_cmp cred (delegating pool drep) d.accounts })
delegate d cred pool drep =
    record {
      deposits = omega (arith, sum_values-changed_same account_dep (λ q r. eq_by_cmp credential_cmp cred q) (delegating pool drep) (λ x. refl) d.accounts);
      rewards = sum_values-changed_same account_rew (λ q r. eq_by_cmp credential_cmp cred q) (delegating pool drep) (λ x. refl) d.accounts;
    }

-- a pool is registered, or its future terms are set
pool_by : (d : Ledger) (pool : PoolId) (terms : PoolTerms) (o : Option Pool) → IsMap pool_cmp d.pools → value_at pool_cmp d.pools pool ≡ o
    → IsMovedDraft (cond (is_some o) [] (flow hand deposits (params_of d).pool_deposit ∷ [])) d (record d { pools = with_value pool_cmp pool (pool_after (params_of d).pool_deposit terms o) d.pools })
pool_by d pool terms None s e =
    record {
      deposits = omega (arith, sum_values-with_value_absent pool_dep pool_cmp pool (pool_after (params_of d).pool_deposit terms None) d.pools e);
      rewards = refl;
    }
pool_by d pool terms (Some p) s e =
    record {
      deposits = omega (arith, sum_values-with_value pool_dep pool_cmp pool_total pool p (pool_after (params_of d).pool_deposit terms (Some p)) d.pools s e);
      rewards = refl;
    }

-- a pool will retire
retire : (d : Ledger) (pool : PoolId) (epoch : ℕ) → IsMovedDraft [] d (record d { pools = changed_at pool_cmp pool (retiring epoch) d.pools })
retire d pool epoch =
    record {
      deposits = omega (arith, sum_values-changed_same pool_dep (λ q p. eq_by_cmp pool_cmp pool q) (retiring epoch) (λ x. refl) d.pools);
      rewards = refl;
    }

-- a DRep is registered
drep_comes : (d : Ledger) (cred : Credential) → is_drep d cred ≡ false
    → IsMovedDraft (flow hand deposits (params_of d).drep_deposit ∷ []) d (record d { dreps = with_value credential_cmp cred (new_drep d) d.dreps })
drep_comes d cred h =
    record {
      deposits = omega (arith, sum_values-with_value_absent drep_dep credential_cmp cred (new_drep d) d.dreps (none_from _ h));
      rewards = refl;
    }

-- a DRep acts
drep_acts : (d : Ledger) (cred : Credential) → IsMovedDraft [] d (record d { dreps = changed_at credential_cmp cred (having_acted d) d.dreps })
drep_acts d cred =
    record {
      deposits = omega (arith, sum_values-changed_same drep_dep (λ q x. eq_by_cmp credential_cmp cred q) (having_acted d) (λ x. refl) d.dreps);
      rewards = refl;
    }

-- a DRep leaves
drep_goes : (d : Ledger) (cred : Credential) → is_drep d cred ≡ true → IsMovedDraft (flow deposits hand (drep_deposit_of d cred) ∷ []) d (changed_by (DrepUnreg cred None) d)
drep_goes d cred h =
    let there : (x : DrepState) × (value_at credential_cmp d.dreps cred ≡ Some x) = some_by (value_at credential_cmp d.dreps cred) h in
    let refund : drep_deposit_of d cred ≡ there.0.deposit = amount_by drep_dep (value_at credential_cmp d.dreps cred) there.0 there.1 in
    let votes : sum_by proposal_dep (map (without_vote (voter.Drep cred)) d.proposals) ≡ sum_by proposal_dep d.proposals = sum_by-map proposal_dep (without_vote (voter.Drep cred)) d.proposals in
    record {
      deposits = omega (arith, refund, votes, sum_values-without_key drep_dep credential_cmp cred there.0 d.dreps there.1, sum_values-changed_same account_dep (λ q r. delegates_to_drep cred r) without_drep (λ x. refl) d.accounts);
      rewards = sum_values-changed_same account_rew (λ q r. delegates_to_drep cred r) without_drep (λ x. refl) d.accounts;
    }

pub cert_moves : (l d : Ledger) (c : Cert) → HasMaps d → IsUnbroken (cert_checks l d c) → IsMovedDraft (flows_of_cert d c) d (changed_by c d)
cert_moves l d (AccountReg cred deposit pool drep) s h = register d cred pool drep (unbroken-cons _ _ h).0
cert_moves l d (AccountUnreg cred refund) s h =
    let a = unbroken-cons _ _ h in
    let b = unbroken-cons _ _ a.1 in
    let c = unbroken-cons _ _ b.1 in
    unregister d cred (not-false _ a.0) (eqb-true (rewards_at d cred) 0 (not-false _ c.0))
cert_moves l d (Delegate cred pool drep) s h = delegate d cred pool drep
cert_moves l d (PoolReg pool cost pledge margin account key) s h =
    pool_by d pool (record { cost = cost; pledge = pledge; margin = margin; account = account; key = key }) (value_at pool_cmp d.pools pool) s.pools refl
cert_moves l d (PoolRetire pool epoch) s h = retire d pool epoch
cert_moves l d (DrepReg cred deposit) s h = drep_comes d cred (unbroken-cons _ _ (unbroken-cons _ _ h).1).0
cert_moves l d (DrepUnreg cred refund) s h = drep_goes d cred (not-false _ (unbroken-cons _ _ (unbroken-cons _ _ h).1).0)
cert_moves l d (DrepUpdate cred) s h = drep_acts d cred
cert_moves l d (HotAuth cold key) s h = record { deposits = refl; rewards = refl }
cert_moves l d (HotResign cold) s h = record { deposits = refl; rewards = refl }

-- a certificate that breaks no rule is not refused
pub draft_step : (l d : Ledger) (c : Cert) → IsUnbroken (cert_checks l d c) → draft_with l d c ≡ changed_by c d
draft_step l d c h = ap (λ b. cond b d (changed_by c d)) (none_broken (cert_checks l d c) h)
