use Rattle.std.proofs.Common.{◌≡◌, ◌∙◌, ◌<◌, ◌+◌, ◌++◌, Some, None, List, ap, sym, drop, filter, length, arith}
use Rattle.std.specs.List.{slice_get}
use Rattle.std.specs.Option.{option_copied}
use Rattle.maps.proofs.Lists.{never_past}
use Rattle.gov_ids.specs.declared.ActionId.{ActionId}
use Rattle.gov_model.specs.Ratified.{ids_of}
use Rattle.lineage.specs.Walks.{is_found}
use Rattle.lineage.proofs.Finding.{found_more}
use Rattle.lineage.proofs.kept.Walk.found.Goals.{in-Some+in_ok-add_found, in_default}
use Rattle.lineage.proofs.kept.Walk.found.Goals as goal

pub loop-i-preserved : goal.loop-i-preserved
loop-i-preserved c =
    let store = c.args.store.now in
    let passes = is_found c.args.leaving.now.enacted.keys c.args.leaving.now.expired.keys c.args.self.now in
    elim c.match-at.branch [
      | in-Some+in_ok-add_found w ↦
          let here : slice_get store c.loop-i.i ≡ Some w.in-Some.p.now = sym c.at.ensures ∙ ap option_copied w.in-Some.is in
          ap (λ (ids : List ActionId). ids ++ ids_of (filter passes (drop (c.loop-i.i + 1) store))) (ap (λ v. v.items) w.ids-is ∙ w.in_ok-add_found.ensures)
          ∙ found_more passes c.loop-i.ids.items _ store c.loop-i.i w.in-Some.p.now here c.loop-i.invariant
      | in_default w ↦
          let none : slice_get store c.loop-i.i ≡ None = sym c.at.ensures ∙ ap option_copied w.in_default.is in
          let within : c.loop-i.i < length store = omega (arith, c.loop-i-test.true, c.len-i-end.ensures.count) in
          absurd (never_past store c.loop-i.i within none)
    ]
