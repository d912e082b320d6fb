use Rattle.std.proofs.Common.{◌≡◌, ◌++◌, drop, filter}
use Rattle.gov_model.specs.Ratified.{ids_of}
use Rattle.lineage.specs.Walks.{is_found}
use Rattle.lineage.proofs.kept.Walk.found.Given as goal

abbrev pub invariant-loop-i : goal.invariant-loop-i
invariant-loop-i l =
    l.ids.items ++ ids_of (filter (is_found l.leaving.enacted.keys l.leaving.expired.keys l.fn.self) (drop l.i l.store))
    ≡ ids_of (filter (is_found l.leaving.enacted.keys l.leaving.expired.keys l.fn.self) l.store)
