use Rattle.std.proofs.Common.{◌≡◌, ◌++◌, filter}
use Rattle.std.specs.Map.{values_of}
use Rattle.proposal_store.specs.Store.{is_in, is_out}
use Rattle.proposal_store.proofs.store.ProposalStore.refill.Given as goal

abbrev pub invariant-loop-p : goal.invariant-loop-p
invariant-loop-p l = record {
  kept : l.self ++ filter (is_in l.keep.keys) (values_of l.p-iterator) ≡ filter (is_in l.keep.keys) (values_of l.fn.proposals.entries);
  removed : l.removed.items ++ filter (is_out l.keep.keys) (values_of l.p-iterator) ≡ filter (is_out l.keep.keys) (values_of l.fn.proposals.entries);
}
