use Rattle.std.proofs.Common.{◌≡◌, ◌∙◌, ◌<◌, ◌+◌, Some, None, ap, sym, drop, filter, fold, length, arith}
use Rattle.std.specs.List.{slice_get}
use Rattle.std.specs.Option.{option_copied}
use Rattle.maps.proofs.Lists.{never_past}
use Rattle.lineage.specs.Walks.{Reach, is_left, noted}
use Rattle.lineage.proofs.Finding.{noted_more}
use Rattle.lineage.proofs.kept.Walk.from_roots.Goals.{in-Some+in_ok-note_left, in_default}
use Rattle.lineage.proofs.kept.Walk.from_roots.Goals as goal

pub loop-i-preserved : goal.loop-i-preserved
loop-i-preserved c =
    let store = c.args.store.now in
    let enacted = c.args.leaving.now.enacted.keys in
    let expired = c.args.leaving.now.expired.keys in
    elim c.match-at.branch [
      | in-Some+in_ok-note_left w ↦
          let here : slice_get store c.loop-i.i ≡ Some w.in-Some.p.now = sym c.at.ensures ∙ ap option_copied w.in-Some.is in
          ap (λ (v : Reach). fold (noted c.args.last.now) v (filter (is_left enacted expired) (drop (c.loop-i.i + 1) store))) (w.walk-is ∙ w.in_ok-note_left.ensures)
          ∙ noted_more enacted expired c.args.last.now c.loop-i.walk _ store c.loop-i.i w.in-Some.p.now here c.loop-i.invariant
      | in_default w ↦
          let none : slice_get store c.loop-i.i ≡ None = sym c.at.ensures ∙ ap option_copied w.in_default.is in
          let within : c.loop-i.i < length store = omega (arith, c.loop-i-test.true, c.len-i-end.ensures.count) in
          absurd (never_past store c.loop-i.i within none)
    ]
