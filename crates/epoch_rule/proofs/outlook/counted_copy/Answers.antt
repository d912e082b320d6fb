use Rattle.std.proofs.Common.{refl, ap, subst, sym, ◌∙◌}
use Rattle.accounts.specs.Accounts.{Accounts}
use Rattle.drep_pulser.specs.declared.Pulser.{Pulser}
use Rattle.drep_pulser.specs.Facts.{IsCountedOf}
use Rattle.drep_pulser.specs.Pulsers.{IsPulserOf}
use Rattle.gov_ids.specs.Orders.{credential_cmp}
use Rattle.snapshots.specs.Frozen.{frozen_copy_of}
use Rattle.view_map.specs.View.{frozen_of}
use Rattle.epoch_rule.proofs.outlook.counted_copy.Goals as goal

-- the count ends over the entries of the snapshot
module _ (c : goal.After-finished_alone) where
  counted : IsCountedOf c.args.s.now.frozen c.finished_alone.result
  counted =
      let entries = sym c.live.ensures.frozen ∙ sym c.stake.ensures.frozen ∙ ap (λ (a : Accounts). frozen_of credential_cmp a) (sym c.book.ensures.value) in
      c.finished_alone.ensures c.args.s.now.frozen entries (subst (λ (p : Pulser). IsPulserOf c.args.s.now.frozen p) (sym c.in_ok-pulser.ensures) c.pulser.ensures.counts)

pub returns-clause-counted : goal.returns-clause-counted
returns-clause-counted c = counted c

pub returns-clause-fits : goal.returns-clause-fits
returns-clause-fits c =
    c.sound_can_be_counted.ensures c.args.s.now (frozen_copy_of c.args.s.now.frozen) c.finished_alone.result c.live.ensures.sound (record { frozen = refl; counted = counted c })
