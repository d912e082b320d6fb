-- What was frozen is of the snapshot of the lists, and so are the stakes.
use Rattle.std.proofs.Common.{◌≡◌, refl, ap, sym, ◌∙◌}
use Rattle.frozen_lists.specs.Pools.{snapshot_of}
use Rattle.gov_model.specs.Snapshot.{Snapshot}
use Rattle.snapshots.specs.declared.frozen.Frozen.{Frozen}
use Rattle.snapshots.specs.Frozen.{frozen_copy_of}
use Rattle.snapshot_counts.specs.Fitting.{snapshot_in}
use Rattle.snapshot_counts.proofs.certified.certified_of.Goals as goal

pub returns-clause-are : goal.returns-clause-are
returns-clause-are c =
    let s : Snapshot = snapshot_in c.args.snapshot in
    let lists : snapshot_of c.args.snapshot.parts c.as_slice.result.now c.as_slice-2.result.now c.as_slice-3.result.now ≡ s =
    λ i. snapshot_of c.args.snapshot.parts (c.as_slice.ensures i) (c.as_slice-2.ensures i) (c.as_slice-3.ensures i) in
    let frozen = c.in_ok-frozen.ensures ∙ ap frozen_copy_of lists in
    record {
      frozen = frozen;
      counted = c.in_ok-counted.ensures s refl (sym (c.as_slice-4.ensures ∙ ap (λ (f : Frozen). f.dreps) frozen)) (sym (c.as_slice-5.ensures ∙ ap (λ (f : Frozen). f.proposals) frozen));
    }

pub returns-clause-can : goal.returns-clause-can
returns-clause-can c = c.fits_can_be_counted.ensures (snapshot_in c.args.snapshot) _ _ c.requires (returns-clause-are c)
