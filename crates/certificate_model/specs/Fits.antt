-- The snapshots that a certificate may be of. (Own)
use Rattle.std.specs.Prelude.{◌≡◌, ◌+◌, true, nat_le}
use Rattle.maps.specs.Maps.{sum_values}
use Rattle.gov_model.specs.Proposals.{deposits_of}
use Rattle.gov_model.specs.Snapshot.{Snapshot}
use Rattle.coin_frac.specs.declared.TheConstants.{SUPPLY_LIMIT}
use Rattle.tx_records.specs.Limits.{is_slot}
use Rattle.text_model.specs.of_run_model.SoundWorld.{held_by}
use Rattle.text_forms.specs.Lines.{are_short_lines}
use Rattle.text_forms.specs.Snapshots.{is_snapshot}
use Rattle.certificate_model.specs.Certificate.{certificate_lines}

-- a snapshot has the form of the formats; its holdings and its mark are each at most
-- the greatest supply; no line of its certificate is too long
-- that some ledger gives the snapshot is not required
pub record Fits (f : Snapshot) : Type 0 where
  pub form : is_snapshot f ≡ true
  pub epoch : is_slot f.epoch ≡ true
  pub held : nat_le (sum_values held_by f.entries + deposits_of f.proposals) SUPPLY_LIMIT ≡ true
  pub mark : nat_le (sum_values (λ n. n) f.mark) SUPPLY_LIMIT ≡ true
  pub short : are_short_lines (certificate_lines f) ≡ true
