-- What the parts of a World make of each other: the snapshot is made again of the copy, and a changed World is held as before where what is frozen stays.
use Rattle.std.proofs.Common.{◌≡◌, ℕ, ◌+◌, List, [], Option, None, map, min, sum_by, ap, sym, subst, ◌∙◌}
use Rattle.gov_ids.specs.declared.Credential.{Credential}
use Rattle.gov_ids.specs.declared.PoolId.{PoolId}
use Rattle.maps.specs.Maps.{entries_where}
use Rattle.book_records.specs.declared.pool.Pool.{Pool}
use Rattle.gov_model.specs.Snapshot.{Snapshot, entry_count}
use Rattle.tx_records.specs.declared.record.Rewards.{Rewards}
use Rattle.ledger_model.specs.Ledger.{Ledger}
use Rattle.drep_pulser.specs.declared.Pulser.{Pulser}
use Rattle.drep_pulser.specs.declared.Pulser.TheVariants.{Counting, Counted}
use Rattle.drep_pulser.specs.Pulsers.{GoesOnIn, IsPulserOf, done_by, total_of_pulser}
use Rattle.snapshots.specs.Frozen.{frozen_copy_of}
use Rattle.snapshots.specs.declared.frozen.Frozen.{Frozen}
use Rattle.snapshots.specs.declared.stakes.Snapshots.{Snapshots}
use Rattle.run_model.specs.SoundWorld.{IsSoundLedger, IsSoundWorld}
use Rattle.accounts.specs.Accounts.{Accounts}
use Rattle.run_model.specs.Step.{pulsed}
use Rattle.run_model.specs.World.{World, on_ledger}
use Rattle.run_model.specs.Boundary.{frozen_anew, pool_stakes}
use Rattle.run_model.specs.Genesis.{ledger_of_genesis, no_snapshot, world_of_genesis}
use Rattle.tx_records.specs.declared.genesis.Genesis.{Genesis}
use Rattle.gov_ids.specs.Orders.{credential_cmp}
use Rattle.epoch_start.proofs.Begun.{entries_are}
use Rattle.view_map.specs.View.{frozen_of}
use Rattle.live_ledger.specs.of_stake_book.Stakes.{AreKept, Stakes, accounts_of, pool_stake_in, stake_held}
use Rattle.book_records.specs.declared.Registered.{Registered}
use Rattle.gov_ids.specs.Same.{same_pool}
use Rattle.maps.specs.Words.{holds}
use Rattle.epoch_start.specs.of_ledger_books.declared.Books.{Books}
use Rattle.epoch_start.specs.of_ledger_books.Parts.{frozen_entries, ledger_of_books}
use Rattle.live_ledger.specs.Kept.{IsLiveLedger}
use Rattle.live_ledger.specs.Standing.{Standing}
use Rattle.live_ledger.specs.Standing.{on_ledger as on_live}
use Rattle.epoch_start.specs.Begun.{accounts_of_pools, begun_of}
use Rattle.ledger_state.specs.Parts.{world_of_parts}
use Rattle.ledger_state.specs.Worlds.{IsHeldBy, snapshot_with, world_with}

-- ---- what was frozen is had again

-- the World that begins is had again of its parts
pub begun_again : (b : Books) (f : Frozen) (p : Pulser) → frozen_entries b ≡ (begun_of b).frozen.entries → f ≡ frozen_copy_of (begun_of b).frozen
    → accounts_of_pools f.pools ≡ (begun_of b).frozen.pool_accounts → done_by p ≡ 0 → world_of_parts b f p ≡ begun_of b
begun_again b f p entries copied accounts none = λ i. record (begun_of b) {
  counted = none i;
  frozen = record (begun_of b).frozen {
    epoch = (copied i).epoch;
    entries = entries i;
    dreps = (copied i).dreps;
    pool_accounts = accounts i;
    hot = (copied i).hot;
    proposals = (copied i).proposals;
    start = (copied i).start;
  };
}

-- ---- what is kept

-- a sound ledger is kept
pub ledger_kept : (l : Ledger) → IsSoundLedger l → IsLiveLedger l
ledger_kept l s = record {
  sound = s.maps;
  balanced = s.balanced;
  within = s.within;
  early = s.epoch;
  timely = s.dormancy;
  active = s.activity;
  proposed = s.ids_used;
  voted = s.proposals.votes;
  seated = s.committee;
}

-- where what is frozen stays, a sound World is held by the copy, and by a count of it
pub held_after : (w v : World) (f : Frozen) (p q : Pulser) → IsHeldBy w f p → v.frozen ≡ w.frozen → IsPulserOf w.frozen q → IsSoundWorld v → IsHeldBy v f q
held_after w v f p q h stays counts s = record {
  sound = s;
  copied = h.copied ∙ ap frozen_copy_of (sym stays);
  counts = subst (λ (x : Snapshot). IsPulserOf x q) (sym stays) counts;
}

-- a World that is another is held as that one
pub held_along : (w v : World) (f : Frozen) (p : Pulser) → w ≡ v → IsHeldBy w f p → IsHeldBy v f p
held_along w v f p e h = subst (λ (x : World). IsHeldBy x f p) e h

-- ---- the count

-- a count of a snapshot goes on in its entries
pub goes_on : (f : Snapshot) (p : Pulser) → IsPulserOf f p → GoesOnIn f.entries p
goes_on f (Counting c) h = h.counts
goes_on f (Counted c) h = tt

-- and it counts as many as there are
pub total_is : (f : Snapshot) (p : Pulser) → IsPulserOf f p → total_of_pulser p ≡ entry_count f
total_is f (Counting c) h = h.counts.total
total_is f (Counted c) h = h.total

-- ---- the parts

-- the World of parts is that of the ledger that these are
pub parts_are : (b : Books) (l : Standing) (marks : Snapshots) (pending : Option Rewards) (f : Frozen) (p : Pulser)
    → ledger_of_books b ≡ l.ledger → frozen_entries b ≡ l.frozen → b.snapshots ≡ marks → b.pending ≡ pending → world_of_parts b f p ≡ world_with l marks pending f p
parts_are b l marks pending f p ledger entries snapshots update = λ i. record {
  ledger = ledger i;
  pending = update i;
  counted = done_by p;
  mark = (snapshots i).mark;
  set = (snapshots i).set;
  go = (snapshots i).go;
  noted_fees = (snapshots i).fees;
  frozen = snapshot_with (entries i) (snapshots i).mark f;
}

-- ---- a step that leaves what is frozen

-- the same World except the ledger, which keeps the frozen entries
pub moved_is : (change : Ledger → Ledger) (l live : Standing) (marks : Snapshots) (pending : Option Rewards) (f : Frozen) (p : Pulser)
    → live ≡ on_live change l → world_with live marks pending f p ≡ on_ledger change (world_with l marks pending f p)
moved_is change l live marks pending f p is = ap (λ (s : Standing). world_with s marks pending f p) is

-- ---- what begins

-- to freeze the accounts changes nothing of what begins
pub begun_same : (b : Books) (s : Stakes) → s ≡ record b.stake { accounts = record b.stake.accounts { frozen = b.stake.accounts.live } } → begun_of (record b { stake = s }) ≡ begun_of b
begun_same b s fields = ap (λ (x : Stakes). begun_of (record b { stake = x })) fields

pub begun_sound : (b : Books) (s : Stakes) → s ≡ record b.stake { accounts = record b.stake.accounts { frozen = b.stake.accounts.live } } → IsSoundWorld (begun_of b) → IsSoundWorld (begun_of (record b { stake = s }))
begun_sound b s fields h = subst (λ (w : World). IsSoundWorld w) (sym (begun_same b s fields)) h

-- then the frozen entries are those of what begins
pub begun_entries : (b : Books) (s : Stakes) → AreKept b.stake → s ≡ record b.stake { accounts = record b.stake.accounts { frozen = b.stake.accounts.live } } → frozen_of credential_cmp s.accounts ≡ b.stake.accounts.live
    → frozen_entries (record b { stake = s }) ≡ (begun_of (record b { stake = s })).frozen.entries
begun_entries b s kept fields frozen = frozen ∙ entries_are b kept ∙ ap (λ (w : World). w.frozen.entries) (sym (begun_same b s fields))

-- what mark takes is what the ledger's pools have
pub marks_are : (s : Stakes) (pools : List (PoolId × Pool)) (l : Ledger) → s.outputs.outputs ≡ l.outputs → accounts_of s ≡ l.accounts → pools ≡ l.pools
    → map (λ (e : PoolId × Pool). (e.0, pool_stake_in s e.0)) pools ≡ pool_stakes l
marks_are s pools l outputs accounts same = λ i. map
    (λ (e : PoolId × Pool). (e.0, sum_by (λ (a : Credential × Registered). stake_held (outputs i) a.0 + a.1.rewards) (entries_where (λ c (r : Registered). holds same_pool r.pool e.0) (accounts i))))
    (same i)

-- what begins with the books of a genesis is its World
pub genesis_begins : (b : Books) (g : Genesis) → ledger_of_books b ≡ ledger_of_genesis g
    → b.snapshots ≡ record { mark = pool_stakes (ledger_of_genesis g); set = []; go = []; fees = 0 } → b.pending ≡ None → begun_of b ≡ world_of_genesis g
genesis_begins b g ledger marks pending = λ i. frozen_anew (record {
  ledger = ledger i;
  pending = pending i;
  counted = 0;
  mark = (marks i).mark;
  set = (marks i).set;
  go = (marks i).go;
  noted_fees = (marks i).fees;
  frozen = no_snapshot (ledger i).state;
})

-- ---- a block

-- the entries that it visits are the frozen ones
pub visited_are : (l live : Standing) (slot : ℕ) (s : Stakes) (a : Accounts) → live ≡ on_live (λ (x : Ledger). record x { slot = slot }) l
    → frozen_of credential_cmp s.accounts ≡ live.frozen → a ≡ s.accounts → frozen_of credential_cmp a ≡ l.frozen
visited_are l live slot s a moved frozen book =
    ap (λ (x : Accounts). frozen_of credential_cmp x) book ∙ frozen ∙ ap (λ (x : Standing). x.frozen) moved

-- and what it leaves is the World with the slot and so many more counted
pub pulsed_is : (l live : Standing) (marks : Snapshots) (pending : Option Rewards) (f : Frozen) (p q : Pulser) (slot pulse : ℕ) → live ≡ on_live (λ (x : Ledger). record x { slot = slot }) l
    → IsPulserOf (world_with l marks pending f p).frozen p → done_by q ≡ min (total_of_pulser p) (done_by p + pulse)
    → world_with live marks pending f q ≡ pulsed slot pulse (world_with l marks pending f p)
pulsed_is l live marks pending f p q slot pulse moved counts done =
    let all : done_by q ≡ min (entry_count (world_with l marks pending f p).frozen) (done_by p + pulse) =
    done ∙ ap (λ (n : ℕ). min n (done_by p + pulse)) (total_is (world_with l marks pending f p).frozen p counts) in
    λ i. record (world_with (moved i) marks pending f p) { counted = all i }
