use Rattle.std.proofs.Common.{◌≡◌, drop, map}
use Rattle.maps.proofs.Fresh.{seen_or_repeats}
use Rattle.maps.specs.Words.{repeats}
use Rattle.gov_ids.proofs.names.repeats_a_name.Given as goal

-- all repeat if and only if one of the rest was seen, or the rest repeats
abbrev pub invariant-loop-entry : goal.invariant-loop-entry
invariant-loop-entry g l =
    seen_or_repeats g.T.Name.Name.order l.names.keys (map g.T.Named.name (drop l.entry-index l.entries))
    ≡ repeats g.T.Name.Name.order (map g.T.Named.name l.entries)
