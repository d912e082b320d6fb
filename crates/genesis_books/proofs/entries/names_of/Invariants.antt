use Rattle.std.proofs.Common.{◌≡◌, drop, fold, map}
use Rattle.maps.specs.Maps.{in_order, with_key}
use Rattle.genesis_books.proofs.entries.names_of.Given as goal

-- the names so far with those of what is left are the names of all
abbrev pub invariant-loop-entry : goal.invariant-loop-entry
invariant-loop-entry g l =
    fold (λ s k. with_key g.T.Name.Name.order k s) l.names.keys (map g.T.Named.name (drop l.entry-index l.entries)) ≡ in_order g.T.Name.Name.order (map g.T.Named.name l.entries)
