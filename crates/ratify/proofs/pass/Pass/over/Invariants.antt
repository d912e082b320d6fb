use Rattle.std.proofs.Common.{length, take}
use Rattle.gov_ids.specs.Orders.{credential_cmp}
use Rattle.gov_model.specs.Sides.{members_of}
use Rattle.maps.specs.Maps.{IsMap}
use Rattle.ratify.specs.Passes.{LooksAt, of_priority}
use Rattle.ratify.proofs.pass.Pass.over.Given as goal

-- those of the priority so far are looked at
abbrev pub invariant-loop-a : goal.invariant-loop-a
invariant-loop-a l = record {
  passed : LooksAt l.f l.cells l.fn.self (of_priority l.priority (take (length l.yielded) l.f.proposals)) l.pass;
  members : IsMap credential_cmp (members_of l.pass.passing.state.committee);
}
