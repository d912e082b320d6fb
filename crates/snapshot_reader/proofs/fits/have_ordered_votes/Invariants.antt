use Rattle.std.proofs.Common.{◌≡◌, drop}
use Rattle.std.specs.List.{list_all}
use Rattle.snapshot_reader.specs.Fitting.{has_ordered_votes}
use Rattle.snapshot_reader.proofs.fits.have_ordered_votes.Given as goal

abbrev pub invariant-loop-proposal : goal.invariant-loop-proposal
invariant-loop-proposal l = list_all has_ordered_votes (drop l.proposal-index l.proposals) ≡ list_all has_ordered_votes l.fn.proposals
