-- The lines so far were passed.
use Rattle.ended_source.specs.Ended.{Standing, giving_at, passed_at}
use Rattle.line_giver.specs.Giving.{PassesSome}
use Rattle.ended_source.proofs.pass.pass_all.Given as goal

abbrev pub invariant-loop : goal.invariant-loop
invariant-loop g l =
    let old : Standing = record { reader = l.fn.ended.lines.ghost_name; source = l.fn.ended.source.ghost_name; lines = l.fn.ended.lines.now; place = l.fn.ended.place; left = g.S.Source.left l.fn.ended.source.now; failed = g.S.Source.faults l.fn.ended.source.now } in
    let new : Standing = record { reader = l.ended.lines.ghost_name; source = l.ended.source.ghost_name; lines = l.ended.lines.now; place = l.ended.place; left = g.S.Source.left l.ended.source.now; failed = g.S.Source.faults l.ended.source.now } in
    PassesSome (passed_at old) (passed_at new) (giving_at old) (giving_at new)
