-- Snapshots that may have a certificate, if no line of it is too long. (Own)
use Rattle.std.specs.Prelude.{◌≡◌, ◌+◌, true, nat_le}
use Rattle.maps.specs.Maps.{sum_values}
use Rattle.coin_frac.specs.declared.TheConstants.{SUPPLY_LIMIT}
use Rattle.gov_model.specs.Proposals.{deposits_of}
use Rattle.gov_model.specs.Snapshot.{Snapshot}
use Rattle.run_model.specs.SoundWorld.{held_by}
use Rattle.text_forms.specs.Snapshots.{is_snapshot}
use Rattle.tx_records.specs.Limits.{is_slot}
use Rattle.frozen_lists.specs.Pools.{snapshot_of}
use Rattle.snapshot_counts.specs.declared.plain.PlainSnapshot.{PlainSnapshot}

-- a snapshot fits in all but how long the lines of its certificate are
pub record IsFitting (f : Snapshot) : Type 0 where
  pub form : is_snapshot f ≡ true
  pub epoch : is_slot f.epoch ≡ true
  pub held : nat_le (sum_values held_by f.entries + deposits_of f.proposals) SUPPLY_LIMIT ≡ true
  pub mark : nat_le (sum_values (λ n. n) f.mark) SUPPLY_LIMIT ≡ true

-- the snapshot of plain lists
abbrev pub snapshot_in : PlainSnapshot → Snapshot
snapshot_in p = snapshot_of p.parts p.entries p.mark p.accounts
