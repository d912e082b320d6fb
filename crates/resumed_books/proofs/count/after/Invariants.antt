use Rattle.std.proofs.Common.{◌≡◌, ◌≤◌, ◌-◌}
use Rattle.drep_pulser.specs.Facts.{IsCountIn, IsCountOf}
use Rattle.gov_ids.specs.Orders.{credential_cmp}
use Rattle.gov_model.specs.Snapshot.{Snapshot}
use Rattle.view_map.specs.View.{frozen_of}
use Rattle.resumed_books.proofs.count.after.Given as goal

-- no more are visited than are to be, each visit is a step, and the count stays of its snapshots
abbrev pub invariant-loop-counting : goal.invariant-loop-counting
invariant-loop-counting g l = record {
  within : l.counting.done ≤ l.counted;
  total : l.counting.total ≡ l.fn.counting.total;
  steps : l.steps ≡ l.counting.done;
  counts : IsCountIn (frozen_of credential_cmp l.book) l.counting;
  stays : (f : Snapshot) → f.entries ≡ frozen_of credential_cmp l.book → IsCountOf f l.fn.counting → IsCountOf f l.counting;
}

-- how many are left to be visited
abbrev pub decreases-loop-counting : goal.decreases-loop-counting
decreases-loop-counting g l = l.counted - l.counting.done
