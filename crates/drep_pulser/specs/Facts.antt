-- How a count relates to the entries that it counts, and to their snapshot.
-- (CIP-1694, Changes to the stake snapshot; the DRep distribution of cardano-ledger's DRep pulser)
use Rattle.std.specs.Prelude.{ℕ, zero, suc, ◌≡◌, ◌+◌, ◌^◌, ◌<◌, ◌≤◌, List, Option, None, filter, if◌then◌else◌, length, option_map, slice_get, sum_by, take, unwrap_or}
use Rattle.gov_ids.specs.declared.Credential.{Credential}
use Rattle.gov_ids.specs.declared.Drep.{Drep}
use Rattle.gov_ids.specs.Orders.{credential_cmp, drep_cmp}
use Rattle.book_records.specs.declared.DrepState.{DrepState}
use Rattle.book_records.specs.declared.Entry.{Entry}
use Rattle.book_records.specs.declared.Registered.{Registered}
use Rattle.accounts.specs.Accounts.{Accounts}
use Rattle.coin_frac.specs.Totals.{total_of}
use Rattle.drep_book.specs.Dreps.{Dreps}
use Rattle.view_map.specs.View.{frozen_of}
use Rattle.maps.specs.Maps.{IsMap, has_key, value_at}
use Rattle.maps.specs.Words.{amount}
use Rattle.snapshots.specs.of_gov_model.Snapshot.{Snapshot, entry_count}
use Rattle.snapshots.specs.of_gov_model.Stake.{deposits_to, drep_stake, is_frozen_drep, votes_by}
use Rattle.drep_pulser.specs.Count.{Count, Ended, sum_for}

-- the credential of the c-th entry, none at 0
abbrev pub cursor_at : {X : Type 0} → ℕ → List (Credential × X) → Option Credential
cursor_at zero es = None
cursor_at (suc c) es = option_map (λ e. e.0) (slice_get es c)

-- the output stake and the reward balances of entries, in lovelace
abbrev pub held_by : List (Credential × Entry) → ℕ
held_by es = sum_by (λ e. e.1.stake + amount (λ (r : Registered). r.rewards) e.1.registered) es

-- the weight of an entry with these deposits
abbrev pub weight_by : List (Credential × ℕ) → Credential × Entry → ℕ
weight_by deposits e = e.1.stake + amount (λ (r : Registered). r.rewards) e.1.registered + unwrap_or (value_at credential_cmp deposits e.0) 0

-- the entries are in order; what they hold and the deposits fit together in 64 bits
pub record IsCountable (es : List (Credential × Entry)) (deposits : List (Credential × ℕ)) : Type 0 where
  pub in_order : IsMap credential_cmp es
  pub room : held_by es + total_of deposits < 2 ^ 64

-- the sum of each of these DReps is the weight, with these deposits, of its delegators' entries
abbrev pub AreSums : List (Credential × Entry) → List (Credential × ℕ) → List (Drep × ℕ) → Type 0
AreSums es deposits sums =
    (d : Drep) → sum_for sums d ≡ (if has_key drep_cmp sums d then sum_by (weight_by deposits) (filter (votes_by d) es) else 0)

-- the count is over these entries: it has visited the first `done`, the last at its cursor
pub record IsCountIn (es : List (Credential × Entry)) (c : Count) : Type 0 where
  pub total : c.total ≡ length es
  pub done : c.done ≤ c.total
  pub cursor : c.cursor ≡ cursor_at c.done es
  pub sums : AreSums (take c.done es) c.deposits c.sums
  pub countable : IsCountable es c.deposits

-- these are the deposits of the snapshot's proposals
abbrev pub AreDeposits : Snapshot → List (Credential × ℕ) → Type 0
AreDeposits f deposits = (c : Credential) → unwrap_or (value_at credential_cmp deposits c) 0 ≡ deposits_to f c

-- these are the snapshot's DReps
abbrev pub AreDreps : Snapshot → List (Credential × DrepState) → Type 0
AreDreps f dreps = (c : Credential) → has_key credential_cmp f.dreps c ≡ has_key credential_cmp dreps c

-- the snapshot has the frozen entries of these accounts, these DReps and these deposits,
-- and its entries can be counted
pub record HasFrozen (f : Snapshot) (a : Accounts) (d : Dreps) (amounts : List (Credential × ℕ)) : Type 0 where
  pub entries : f.entries ≡ frozen_of credential_cmp a
  pub dreps : AreDreps f d.dreps
  pub deposits : AreDeposits f amounts
  pub room : held_by f.entries + total_of amounts < 2 ^ 64

-- the count is over the snapshot's entries, for its DReps and with its deposits
pub record IsCountOf (f : Snapshot) (c : Count) : Type 0 where
  pub counts : IsCountIn f.entries c
  pub dreps : (d : Drep) → has_key drep_cmp c.sums d ≡ is_frozen_drep f d
  pub deposits : AreDeposits f c.deposits

-- the ended count has the stakes of the snapshot's DReps
pub record IsCountedOf (f : Snapshot) (c : Ended) : Type 0 where
  pub total : c.total ≡ entry_count f
  pub sums : (d : Drep) → sum_for c.sums d ≡ drep_stake f d

-- P holds of each snapshot with these entries to which the count belongs
abbrev pub ForSnapshotOf : List (Credential × Entry) → Count → (Snapshot → Type 0) → Type 0
ForSnapshotOf es c P = (f : Snapshot) → f.entries ≡ es → IsCountOf f c → P f
