use Rattle.std.proofs.Common.{◌≡◌, drop, map, take}
use Rattle.maps.specs.Maps.{in_order}
use Rattle.genesis_problems.specs.Problems.{name_test, name_tests, told_with}
use Rattle.genesis_problems.proofs.Indexes.{told_from}
use Rattle.genesis_problems.proofs.names.tell_repeated.Given as goal

-- the names that were seen are those before the index; with the tests of what is left, all are told
abbrev pub invariant-loop-index : goal.invariant-loop-index
invariant-loop-index g l = record {
  seen : l.names.keys ≡ in_order g.T.Name.Name.order (map g.T.Named.name (take l.index l.entries));
  rest : told_from (name_test g.T.Name.Name.order l.list (map g.T.Named.name l.entries)) g.T.Named.name l.index (drop l.index l.entries) l.told.items
      ≡ told_with (name_tests g.T.Name.Name.order l.fn.list (map g.T.Named.name l.fn.entries)) l.fn.told.items;
}
