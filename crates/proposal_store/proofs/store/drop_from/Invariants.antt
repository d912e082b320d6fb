use Rattle.std.proofs.Common.{◌≡◌, drop}
use Rattle.std.specs.List.{IsDistinct}
use Rattle.std.specs.Map.{values_of}
use Rattle.gov_ids.specs.Same.{same_action}
use Rattle.gov_model.specs.Ratified.{ids_of}
use Rattle.proposal_store.specs.Changes.{dropping, each}
use Rattle.proposal_store.specs.Store.{AllKeyed, AllOrdered}
use Rattle.proposal_store.proofs.store.drop_from.Given as goal

-- the vote leaves those of the ids that are left
abbrev pub invariant-loop-id : goal.invariant-loop-id
invariant-loop-id l = record {
  keyed : AllKeyed l.proposals.entries;
  distinct : IsDistinct same_action (ids_of (values_of l.proposals.entries));
  ordered : AllOrdered (values_of l.proposals.entries);
  rest : each (dropping l.v (drop l.id-index l.ids)) l.proposals.entries ≡ each (dropping l.v l.ids) l.fn.proposals.entries;
}
