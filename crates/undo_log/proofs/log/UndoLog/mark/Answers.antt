use Rattle.std.proofs.Common.{rules, subst, sym}
use Rattle.undo_log.specs.Logs.{AreMarksBelow, Log}
use Rattle.undo_log.proofs.Orders.{marked_after}
use Rattle.undo_log.proofs.log.UndoLog.mark.Goals as goal

pub invariant_of-self-2 : goal.invariant_of-self-2
invariant_of-self-2 c =
    let entries = c.self.inside.entries.items in
    let marks = c.self.inside.marks.items in
    marked_after entries marks c.push.new.self.items c.args.slot c.len-entries.result (search rules) c.in_ok-push.ensures.items c.self.invariant
    (subst (λ (log : Log). AreMarksBelow c.args.slot log.marks) (sym c.self.view_is) c.requires)
