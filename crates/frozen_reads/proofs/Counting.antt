-- What is frozen of a sound World can be counted.
use Rattle.std.proofs.Common.{◌≡◌, ℕ, ◌+◌, List, sum_by, ap, sym, subst, ◌∙◌, arith}
use Rattle.std.specs.List.{All}
use Rattle.std.proofs.lemmas.List.Elements.{All-from_recursion}
use Rattle.tally.specs.of_drep_pulser.Count.{Ended, sum_for}
use Rattle.gov_actions.specs.declared.action.Proposal.{Proposal}
use Rattle.gov_ids.specs.declared.Credential.{Credential}
use Rattle.gov_ids.specs.declared.Drep.TheVariants as drep
use Rattle.gov_ids.specs.declared.PoolId.{PoolId}
use Rattle.gov_ids.specs.Orders.{credential_cmp, voter_cmp}
use Rattle.gov_model.specs.Laws.{HaveDistinctIds}
use Rattle.gov_model.specs.Sides.{members_of}
use Rattle.gov_model.specs.Snapshot.{Snapshot}
use Rattle.gov_model.specs.Stake.{drep_stake, pool_stake}
use Rattle.run_model.proofs.proofs_of_ledger_model.SameSums.{sum_by-map}
use Rattle.maps.specs.Maps.{IsMap}
use Rattle.run_model.specs.SoundLaws.{DrepStakesAreWithin, PoolStakesAreWithin}
use Rattle.run_model.specs.SoundWorld.{AreSoundStakes}
use Rattle.snapshots.specs.declared.frozen.Frozen.{Frozen}
use Rattle.snapshots.specs.declared.frozen.FrozenPool.{FrozenPool}
use Rattle.snapshots.specs.Frozen.{frozen_pool}
use Rattle.tally.specs.Counted.{AreOf}
use Rattle.tally.specs.Stakes.{drep_stakes, pool_stakes}
use Rattle.frozen_reads.specs.Laws.{SoundCanBeCounted}

module _ (s : Snapshot) (f : Frozen) (c : Ended) (are : AreOf s f c) where
  -- the sums of the count are the stakes of the snapshot
  same_dreps : sum_by (λ (d : Credential × ℕ). sum_for c.sums (drep.Registered d.0)) f.dreps ≡ sum_by (λ (d : Credential × ℕ). drep_stake s (drep.Registered d.0)) s.dreps
  same_dreps = λ i. sum_by (λ (d : Credential × ℕ). are.counted.sums (drep.Registered d.0) i) ((are.frozen i).dreps)

  pub dreps_are : drep_stakes f c ≡ sum_by (λ (d : Credential × ℕ). drep_stake s (drep.Registered d.0)) s.dreps + drep_stake s drep.Abstain + drep_stake s drep.NoConfidence
  dreps_are = omega (arith, same_dreps, are.counted.sums drep.Abstain, are.counted.sums drep.NoConfidence)

  pub pools_are : pool_stakes f ≡ sum_by (λ (m : PoolId × ℕ). pool_stake s m.0) s.mark
  pools_are = ap pool_stakes are.frozen ∙ sum_by-map (λ (p : FrozenPool). p.stake) (λ (m : PoolId × ℕ). frozen_pool s m.0) s.mark

pub counted_by : DrepStakesAreWithin → PoolStakesAreWithin → SoundCanBeCounted
counted_by dreps_within pools_within w f c sound are =
    let s : Snapshot = w.frozen in
    let mark : AreSoundStakes w.ledger.supply s.mark = subst (λ (l : List (PoolId × ℕ)). AreSoundStakes w.ledger.supply l) (sym sound.marked) sound.mark in
    record {
      proposals = subst (λ (g : Frozen). HaveDistinctIds g.proposals) (sym are.frozen) sound.frozen.proposals.ids;
      voters = subst (λ (g : Frozen). All (λ (a : Proposal). IsMap voter_cmp a.votes) g.proposals) (sym are.frozen)
          (All-from_recursion (λ (a : Proposal). IsMap voter_cmp a.votes) s.proposals sound.frozen.proposals.votes);
      members = subst (λ (g : Frozen). IsMap credential_cmp (members_of g.start.committee)) (sym are.frozen) sound.frozen.committee;
      dreps = omega (arith, dreps_are s f c are, dreps_within w.ledger.supply s sound.frozen, sound.ledger.within);
      pools = omega (arith, pools_are s f c are, pools_within w.ledger.supply s sound.frozen mark, sound.ledger.within);
    }
