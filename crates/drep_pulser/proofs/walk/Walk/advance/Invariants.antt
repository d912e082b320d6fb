use Rattle.std.proofs.Common.{◌≡◌, ◌+◌, drop}
use Rattle.gov_ids.specs.Orders.{credential_cmp}
use Rattle.snapshots.specs.of_gov_model.Snapshot.{Snapshot}
use Rattle.view_map.specs.View.{frozen_of}
use Rattle.drep_pulser.specs.Facts.{IsCountIn, IsCountOf}
use Rattle.drep_pulser.specs.Parts.{no_part}
use Rattle.drep_pulser.proofs.walk.Walk.advance.Given as goal

-- what is left of the walk are the entries that are not visited yet
abbrev pub invariant-loop-visit : goal.invariant-loop-visit
invariant-loop-visit g l = record {
  left : l.entries ≡ drop l.self.done (frozen_of credential_cmp l.book);
  counts : (f : Snapshot) → f.entries ≡ frozen_of credential_cmp l.book → IsCountOf f l.initial.self → IsCountOf f l.self;
  counts_in : IsCountIn (frozen_of credential_cmp l.book) l.self;
  done : l.self.done ≡ l.initial.self.done + l._visit;
  total : l.self.total ≡ l.initial.self.total;
  workers : l.self.workers ≡ l.initial.self.workers;
  parts : no_part l.self.sums ≡ no_part l.initial.self.sums;
  steps : l.steps ≡ l.initial.steps + l._visit;
}
