-- What a delegation or a retirement makes of a draft.
use Rattle.std.proofs.Common.{◌≡◌, ℕ, ◌+◌, List, Option, Some, None, refl, ap, sym, arith}
use Rattle.std.specs.Option.{option_or}
use Rattle.maps.specs.Maps.{IsMap, value_at}
use Rattle.maps.specs.Words.{or_else}
use Rattle.maps.proofs.Placed.{changed_at_absent}
use Rattle.gov_ids.proofs.Totals.{credential_total}
use Rattle.gov_ids.specs.declared.Credential.{Credential}
use Rattle.gov_ids.specs.declared.Drep.{Drep}
use Rattle.gov_ids.specs.declared.PoolId.{PoolId}
use Rattle.gov_ids.specs.Orders.{credential_cmp, pool_cmp}
use Rattle.book_records.specs.declared.Registered.{Registered}
use Rattle.book_records.specs.declared.pool.Pool.{Pool}
use Rattle.book_records.specs.Pools.{retiring}
use Rattle.ledger_model.specs.Changes.{delegating, emptied}
use Rattle.ledger_model.specs.Ledger.{Ledger, account_at}
use Rattle.live_ledger.specs.Drafts.{Drafted, deposit_in, given_back, paid_by, with_account}
use Rattle.tx_records.specs.declared.cert.Cert.TheVariants.{Delegate, PoolRetire}
use Rattle.cert_deleg.specs.Emptied.{emptied_at}
use Rattle.live_ledger.specs.Moved.{IsCertified}
use Rattle.live_ledger.proofs.Replacing.{with_value-changed_at}

-- the first that is there, in std's word
pub first_there : {A : Type 0} (a b : Option A) → option_or a b ≡ or_else a b
first_there None b = refl
first_there (Some x) b = refl

module _ (d : Drafted) (k : Credential) (r : Registered) (m : IsMap credential_cmp d.ledger.accounts) (there : account_at d.ledger k ≡ Some r) where
  abbrev with_accounts : List (Credential × Registered) → Ledger
  with_accounts es = record d.ledger { accounts = es }

  pub emptied_one : (with_account k (Some (emptied r)) d).ledger ≡ emptied_at k d.ledger
  emptied_one = ap with_accounts (with_value-changed_at credential_total k emptied r d.ledger.accounts m there)

  pub delegated : (pool : Option PoolId) (drep : Option Drep) → IsCertified (Delegate k pool drep) d (with_account k (Some (delegating pool drep r)) d)
  delegated pool drep = record {
    start = refl;
    ledger = ap with_accounts (with_value-changed_at credential_total k (delegating pool drep) r d.ledger.accounts m there);
    moved = record {
      refunds = ap (λ (o : Option Registered). d.refunds + given_back (deposit_in o) (Some r.deposit)) there;
      deposits = ap (λ (o : Option Registered). d.deposits + paid_by (deposit_in o) (Some r.deposit)) there;
    };
    few = omega arith;
  }

-- an account that is not registered
pub not_delegated : (d : Drafted) (k : Credential) (pool : Option PoolId) (drep : Option Drep) → account_at d.ledger k ≡ None → IsCertified (Delegate k pool drep) d d
not_delegated d k pool drep none = record {
  start = refl;
  ledger = ap (λ (es : List (Credential × Registered)). record d.ledger { accounts = es }) (sym (changed_at_absent credential_cmp k (delegating pool drep) d.ledger.accounts none));
  moved = record { refunds = omega arith; deposits = omega arith };
  few = omega arith;
}

-- a pool that is not registered
pub not_retired : (d : Drafted) (p : PoolId) (epoch : ℕ) → value_at pool_cmp d.ledger.pools p ≡ None → IsCertified (PoolRetire p epoch) d d
not_retired d p epoch none = record {
  start = refl;
  ledger = ap (λ (es : List (PoolId × Pool)). record d.ledger { pools = es }) (sym (changed_at_absent pool_cmp p (retiring epoch) d.ledger.pools none));
  moved = record { refunds = omega arith; deposits = omega arith };
  few = omega arith;
}
