-- A draft of a transaction as contracts see it, and its changes.
-- (CERTS of the formal specification)
use Rattle.std.specs.Prelude.{◌≡◌, ℕ, ◌+◌, ◌≤◌, ◌^◌, Option, Some, None, option_map, if◌then◌else◌}
use Rattle.maps.specs.Maps.{value_at, with_value}
use Rattle.gov_ids.specs.declared.Credential.{Credential}
use Rattle.gov_ids.specs.declared.PoolId.{PoolId}
use Rattle.gov_ids.specs.Orders.{credential_cmp, pool_cmp}
use Rattle.book_records.specs.declared.DrepState.{DrepState}
use Rattle.book_records.specs.declared.Registered.{Registered}
use Rattle.book_records.specs.declared.pool.Pool.{Pool}
use Rattle.book_records.specs.declared.pool.PoolTerms.{PoolTerms}
use Rattle.book_records.specs.Pools.{with_registration, with_retirement}
use Rattle.gov_actions.specs.declared.state.HotState.{HotState}
use Rattle.tx_records.specs.declared.tx.Scripts.{Scripts}
use Rattle.tx_records.specs.declared.tx.Scripts.TheVariants.{Failed}
use Rattle.tx_records.specs.declared.tx.Tx.{Tx}
use Rattle.ledger_model.specs.Ledger.{Ledger, account_at, is_pool}
use Rattle.ledger_model.specs.Changes.{dormant_added, drep_left}
use Rattle.ledger_model.specs.Draft.{last_draft}
use Rattle.draft_changes.specs.Changed.{with_registered}

-- the ledger before the transaction, the ledger with the changes so far,
-- what certificates gave back and paid so far, and the number of changes
pub record Drafted : Type 0 where
  pub start : Ledger
  pub ledger : Ledger
  pub refunds : ℕ
  pub deposits : ℕ
  pub changes : ℕ

-- a draft before any change
abbrev pub draft_at : Ledger → Drafted
draft_at l = record { start = l; ledger = l; refunds = 0; deposits = 0; changes = 0 }

-- all parts that no draft changes are as at its start
abbrev pub IsDraftOf : Ledger → Ledger → Type 0
IsDraftOf start l =
    l ≡ record start { dormant = l.dormant; accounts = l.accounts; pools = l.pools; dreps = l.dreps; hot = l.hot; proposals = l.proposals }

-- what a new entry pays: its deposit, if there was none before
abbrev pub paid_by : Option ℕ → Option ℕ → ℕ
paid_by None (Some deposit) = deposit
paid_by _ _ = 0

-- what an entry that leaves gives back: its stored deposit
abbrev pub given_back : Option ℕ → Option ℕ → ℕ
given_back (Some deposit) None = deposit
given_back _ _ = 0

-- the deposit of a registration
abbrev pub deposit_in : Option Registered → Option ℕ
deposit_in r = option_map (λ (x : Registered). x.deposit) r

-- the draft with that registration for c, or without any for c
abbrev pub with_account : Credential → Option Registered → Drafted → Drafted
with_account c to d = record d {
  ledger = record d.ledger { accounts = with_registered c to d.ledger.accounts };
  refunds = d.refunds + given_back (deposit_in (account_at d.ledger c)) (deposit_in to);
  deposits = d.deposits + paid_by (deposit_in (account_at d.ledger c)) (deposit_in to);
  changes = d.changes + 1;
}

-- the draft with this pool for the id, instead of any before, for which so much was paid
abbrev pub with_pool : PoolId → Pool → ℕ → Drafted → Drafted
with_pool p pool paid d = record d {
  ledger = record d.ledger { pools = with_value pool_cmp p pool d.ledger.pools };
  deposits = d.deposits + paid;
  changes = d.changes + 1;
}

-- the draft with this pool registered: a first registration pays the deposit, a later one nothing
abbrev pub with_pool_registered : PoolId → PoolTerms → ℕ → Drafted → Drafted
with_pool_registered p terms deposit d = record d {
  ledger = record d.ledger { pools = with_registration p terms deposit d.ledger.pools };
  deposits = d.deposits + (if is_pool d.ledger p then 0 else deposit);
  changes = d.changes + 1;
}

-- the draft with this pool retiring
abbrev pub with_pool_retiring : PoolId → ℕ → Drafted → Drafted
with_pool_retiring p epoch d =
    record d { ledger = record d.ledger { pools = with_retirement p epoch d.ledger.pools }; changes = d.changes + 1 }

-- the deposit of a DRep
abbrev pub drep_deposit_in : Option DrepState → Option ℕ
drep_deposit_in s = option_map (λ (x : DrepState). x.deposit) s

-- the ledger with that DRep for c; or without any for c, its votes and the delegations to it
abbrev pub having_drep : Credential → Option DrepState → Ledger → Ledger
having_drep c None l = drep_left c l
having_drep c (Some s) l = record l { dreps = with_value credential_cmp c s l.dreps }

-- the draft with that DRep for c, or without any for c
abbrev pub with_drep : Credential → Option DrepState → Drafted → Drafted
with_drep c to d = record d {
  ledger = having_drep c to d.ledger;
  refunds = d.refunds + given_back (drep_deposit_in (value_at credential_cmp d.ledger.dreps c)) (drep_deposit_in to);
  deposits = d.deposits + paid_by (drep_deposit_in (value_at credential_cmp d.ledger.dreps c)) (drep_deposit_in to);
  changes = d.changes + 1;
}

-- the draft with that entry for a cold key
abbrev pub with_hot : Credential → HotState → Drafted → Drafted
with_hot cold s d =
    record d { ledger = record d.ledger { hot = with_value credential_cmp cold s d.ledger.hot }; changes = d.changes + 1 }

-- the draft with the dormant epochs added
abbrev pub with_refresh : Drafted → Drafted
with_refresh d = record d { ledger = dormant_added d.ledger; changes = d.changes + 1 }

-- the expiry and the dormant count together are within the dormant bound
abbrev pub IsTimely : Ledger → DrepState → Type 0
IsTimely l s = s.expiry + l.dormant ≤ 2 ^ 62 + 2 ^ 32 + l.epoch

-- by whether the scripts failed
abbrev pub draft_by : Scripts → Ledger → Tx → Ledger
draft_by Failed l tx = l
draft_by _ l tx = last_draft l tx

-- the draft after all certificates of a transaction, or the ledger itself if its scripts failed
abbrev pub draft_of : Ledger → Tx → Ledger
draft_of l tx = draft_by tx.scripts l tx
