use Rattle.std.proofs.Common.{◌≡◌, ◌++◌, drop, filter}
use Rattle.gov_model.specs.Ratified.{ids_of}
use Rattle.ratify.specs.Outcomes.{expired_by, is_over}
use Rattle.ratify.proofs.outcome.expired_beside.Given as goal

-- those so far and those among the proposals that are left
abbrev pub invariant-loop-a : goal.invariant-loop-a
invariant-loop-a l =
    l.ids ++ ids_of (filter (is_over l.f.epoch l.ratified.keys) (drop l.a-index l.a-items)) ≡ expired_by l.f l.ratified.keys
