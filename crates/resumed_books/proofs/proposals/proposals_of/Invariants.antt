use Rattle.std.proofs.Common.{◌≡◌, ◌++◌, length}
use Rattle.std.specs.Vec.Iter.{into_iter_items, into_iter_len}
use Rattle.resumed_books.proofs.proposals.proposals_of.Given as goal

-- the proposals so far and those that are left are all
abbrev pub invariant-loop-proposal : goal.invariant-loop-proposal
invariant-loop-proposal l = record {
  left : into_iter_len l.proposal-iterator ≡ length (into_iter_items l.proposal-iterator);
  all : l.store ++ into_iter_items l.proposal-iterator ≡ l.fn.proposals;
}
