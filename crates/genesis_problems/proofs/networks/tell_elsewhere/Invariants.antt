use Rattle.std.proofs.Common.{◌≡◌, drop, map}
use Rattle.genesis_problems.specs.Problems.{network_test, network_tests, told_with}
use Rattle.genesis_problems.proofs.Indexes.{told_from}
use Rattle.genesis_problems.proofs.networks.tell_elsewhere.Given as goal

-- with the tests of what is left, all are told
abbrev pub invariant-loop-index : goal.invariant-loop-index
invariant-loop-index g l =
    told_from (network_test l.network l.list) g.T.Placed.network_of l.index (drop l.index l.entries) l.told.items
    ≡ told_with (network_tests l.fn.network l.fn.list (map g.T.Placed.network_of l.fn.entries)) l.fn.told.items
