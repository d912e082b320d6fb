-- What is frozen of a snapshot that fits can be counted.
use Rattle.std.proofs.Common.{sym, subst, arith}
use Rattle.std.specs.List.{All}
use Rattle.std.proofs.lemmas.List.Elements.{All-from_recursion}
use Rattle.coin_frac.specs.declared.TheConstants.{SUPPLY_LIMIT}
use Rattle.frozen_reads.proofs.Counting.{dreps_are, pools_are}
use Rattle.gov_actions.specs.declared.action.Proposal.{Proposal}
use Rattle.gov_ids.specs.Orders.{credential_cmp, voter_cmp}
use Rattle.gov_model.specs.Laws.{HaveDistinctIds}
use Rattle.gov_model.specs.Sides.{members_of}
use Rattle.maps.specs.Maps.{IsMap}
use Rattle.run_model.specs.SoundLaws.{DrepStakesAreWithin, PoolStakesAreWithin}
use Rattle.snapshots.specs.declared.frozen.Frozen.{Frozen}
use Rattle.snapshot_counts.specs.Laws.{FitsCanBeCounted}
use Rattle.snapshot_counts.proofs.Sound.{mark_sound, snapshot_sound}

pub counted_by : DrepStakesAreWithin → PoolStakesAreWithin → FitsCanBeCounted
counted_by dreps_within pools_within s f c fits are =
    let sound = snapshot_sound s fits in
    record {
      proposals = subst (λ (g : Frozen). HaveDistinctIds g.proposals) (sym are.frozen) sound.proposals.ids;
      voters = subst (λ (g : Frozen). All (λ (a : Proposal). IsMap voter_cmp a.votes) g.proposals) (sym are.frozen)
          (All-from_recursion (λ (a : Proposal). IsMap voter_cmp a.votes) s.proposals sound.proposals.votes);
      members = subst (λ (g : Frozen). IsMap credential_cmp (members_of g.start.committee)) (sym are.frozen) sound.committee;
      dreps = omega (arith, dreps_are s f c are, dreps_within SUPPLY_LIMIT s sound);
      pools = omega (arith, pools_are s f c are, pools_within SUPPLY_LIMIT s sound (mark_sound s fits));
    }
