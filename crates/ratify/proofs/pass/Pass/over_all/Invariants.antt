use Rattle.std.proofs.Common.{◌≡◌}
use Rattle.gov_ids.specs.Orders.{credential_cmp}
use Rattle.gov_model.specs.Sides.{members_of}
use Rattle.maps.specs.Maps.{IsMap}
use Rattle.ratify.specs.Passes.{ForTallied, pass_after}
use Rattle.ratify.proofs.Orders.{of_first}
use Rattle.ratify.proofs.pass.Pass.over_all.Given as goal

-- those of the priorities so far are looked at
abbrev pub invariant-loop-priority : goal.invariant-loop-priority
invariant-loop-priority l = record {
  passed : ForTallied l.f l.cells (λ s. l.pass ≡ pass_after s (of_first l.priority l.f.proposals));
  members : IsMap credential_cmp (members_of l.pass.passing.state.committee);
}
