use Rattle.std.proofs.Common.{◌≡◌, drop}
use Rattle.json_place.specs.Steps.{place_from, place_of}
use Rattle.json_place.proofs.place.json_place.Given as goal

-- the place is that of the bytes that are left
abbrev pub invariant-loop-index : goal.invariant-loop-index
invariant-loop-index l = place_from (drop l.index l.line) l.index l.state l.nest.items ≡ place_of l.line
