-- The answer is that of the proposals that are left.
use Rattle.std.proofs.Common.{◌≡◌, drop}
use Rattle.told_lists.specs.Told.{have_votes_in_order}
use Rattle.told_lists.proofs.books.have_votes_in_order.Given as goal

abbrev pub invariant-loop-proposal : goal.invariant-loop-proposal
invariant-loop-proposal l = have_votes_in_order (drop l.proposal-index l.proposals) ≡ have_votes_in_order l.fn.proposals
