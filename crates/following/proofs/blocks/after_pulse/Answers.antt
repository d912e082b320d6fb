use Rattle.std.proofs.Common.{subst, sym}
use Rattle.undo_log.specs.Logs.{AreMarksBelow, Log}
use Rattle.following.proofs.Moving.{marks_below}
use Rattle.following.proofs.blocks.after_pulse.Goals as goal

pub mark-requires : goal.mark-requires
mark-requires c =
    subst (λ (log : Log). AreMarksBelow c.args.slot log.marks) (sym c.in_ok-after.ensures.log)
    (marks_below c.args.state.held.ledger.ledger c.args.slot c.args.pulse c.args.state.log.marks c.requires.unbroken c.requires.past)
