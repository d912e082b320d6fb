use Rattle.std.proofs.Common.{◌≡◌, drop, filter, fold}
use Rattle.lineage.specs.Walks.{is_left, noted, start_of}
use Rattle.lineage.proofs.kept.Walk.from_roots.Given as goal

abbrev pub invariant-loop-i : goal.invariant-loop-i
invariant-loop-i l =
    fold (noted l.last) l.walk (filter (is_left l.leaving.enacted.keys l.leaving.expired.keys) (drop l.i l.store))
    ≡ start_of l.last (filter (is_left l.leaving.enacted.keys l.leaving.expired.keys) l.store)
