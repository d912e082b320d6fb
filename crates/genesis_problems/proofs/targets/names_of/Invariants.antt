use Rattle.std.proofs.Common.{◌≡◌, map, take}
use Rattle.maps.specs.Maps.{in_order}
use Rattle.genesis_problems.proofs.targets.names_of.Given as goal

-- the names so far are those of the entries before the index
abbrev pub invariant-loop-entry : goal.invariant-loop-entry
invariant-loop-entry g l = l.names.keys ≡ in_order g.T.Name.Name.order (map g.T.Named.name (take l.entry-index l.entries))
