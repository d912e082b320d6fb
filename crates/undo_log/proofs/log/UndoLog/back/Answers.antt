use Rattle.std.proofs.Common.{◌≡◌, List, rules, slice_index_or, subst}
use Rattle.undo_log.specs.declared.marks.Mark.{Mark}
use Rattle.undo_log.specs.Back.{IsPlaceOf}
use Rattle.undo_log.proofs.Orders.{in_order_left}
use Rattle.undo_log.proofs.log.UndoLog.back.Goals as goal

abbrev no_mark : Mark
no_mark = record { slot = 0; entries = 0 }

pub invariant_of-self : goal.invariant_of-self
invariant_of-self c =
    let marks = c.self.inside.marks.items in
    let place = c.in-Some.place in
    let there : IsPlaceOf c.args.slot marks place = subst (λ (ms : List Mark). IsPlaceOf c.args.slot ms place) c.as_slice.ensures.value c.in-Some.ensures in
    let is : c.index.result.now.entries ≡ (slice_index_or marks place no_mark).entries = search rules in
    in_order_left c.self.inside.entries.items c.undo_later.new.entries.items marks c.truncate.new.self.items place c.index.result.now.entries no_mark
    c.self.invariant there.within is c.truncate.ensures.items c.undo_later.ensures.first

pub invariant_of-self-in-Some : goal.invariant_of-self-in-Some
invariant_of-self-in-Some c =
    let marks = c.self.inside.marks.items in
    let place = c.in-Some.place in
    let there : IsPlaceOf c.args.slot marks place = subst (λ (ms : List Mark). IsPlaceOf c.args.slot ms place) c.as_slice.ensures.value c.in-Some.ensures in
    let is : c.index.result.now.entries ≡ (slice_index_or marks place no_mark).entries = search rules in
    in_order_left c.self.inside.entries.items c.undo_later.new.entries.items marks c.truncate.new.self.items place c.index.result.now.entries no_mark
    c.self.invariant there.within is c.truncate.ensures.items c.undo_later.ensures.first
