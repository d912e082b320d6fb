use Rattle.std.proofs.Common.{◌≡◌, ◌+◌, length, take}
use Rattle.proposal_store.proofs.store.ProposalStore.keep_first.Given as goal

-- the first stay, and for each round one less is there
abbrev pub invariant-loop : goal.invariant-loop
invariant-loop l = record {
  kept : take l.n l.self ≡ take l.n l.fn.self;
  left : length l.self + l.counter ≡ l.end + l.n;
}
