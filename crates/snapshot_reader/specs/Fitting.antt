-- Snapshots that a certificate may show. (Own)
use Rattle.std.specs.Prelude.{◌≡◌, ◌+◌, Bool, ◌&&◌, nat_le, true}
use Rattle.std.specs.List.{list_all}
use Rattle.gov_ids.specs.of_maps.Maps.{sum_values}
use Rattle.gov_actions.specs.of_coin_frac.declared.TheConstants.{SUPPLY_LIMIT}
use Rattle.gov_ids.specs.Orders.{voter_cmp}
use Rattle.gov_actions.specs.declared.action.Proposal.{Proposal}
use Rattle.gov_model.specs.Proposals.{deposits_of}
use Rattle.gov_model.specs.Snapshot.{Snapshot}
use Rattle.text_forms.specs.of_text_model.of_run_model.SoundWorld.{held_by}
use Rattle.tx_records.specs.declared.limits.TheConstants.{LEAST_MAJOR}
use Rattle.tx_records.specs.Limits.{is_slot}
use Rattle.text_forms.specs.Ids.{is_map}
use Rattle.text_forms.specs.Lines.{are_short_lines}
use Rattle.book_kinds.specs.of_checkpoint_model.Resumable.{are_within}
use Rattle.certificate_lists.specs.Rows.{has_snapshot_form, rows_shown}
use Rattle.certificate_model.specs.Certificate.{snapshot_lines}
use Rattle.snapshot_counts.specs.Fitting.{IsFitting}
use Rattle.snapshot_reader.specs.Told.{IsListed}

-- each line has the form of the formats, and the lists of which others are made are in order
pub record IsTold (f : Snapshot) : Type 0 where
  pub form : has_snapshot_form (rows_shown f) ≡ true
  pub listed : IsListed f

-- the votes on a proposal are in order, each voter once
abbrev pub has_ordered_votes : Proposal → Bool
has_ordered_votes p = is_map voter_cmp p.votes

-- what no single line shows of the form: the version is one of the Conway era or later,
-- and votes are in order
abbrev pub has_further_form : Snapshot → Bool
has_further_form f = nat_le LEAST_MAJOR f.start.version.0 && list_all has_ordered_votes f.proposals

-- the epoch is in its range, and what is held and the mark are each at most the greatest supply
abbrev pub is_in_range : Snapshot → Bool
is_in_range f = is_slot f.epoch && nat_le (sum_values held_by f.entries + deposits_of f.proposals) SUPPLY_LIMIT && are_within SUPPLY_LIMIT f.mark

-- a snapshot fits, and no line of it is too long
pub record IsReadable (f : Snapshot) : Type 0 where
  pub fits : IsFitting f
  pub short : are_short_lines (snapshot_lines f) ≡ true
