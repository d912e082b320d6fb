use Rattle.std.proofs.Common.{sym, ◌∙◌}
use Rattle.snapshot_counts.specs.Fitting.{snapshot_in}
use Rattle.snapshot_reader.proofs.Readable.{actions_decide, not_formed, not_in_range}
use Rattle.snapshot_reader.proofs.fits.is_readable.Goals as goal

pub returns-then-not-is_in_range : goal.returns-then-not-is_in_range
returns-then-not-is_in_range c = not_in_range (snapshot_in c.args.snapshot.now) (sym c.is_in_range.ensures ∙ c.if-not-is_in_range.true)

pub returns-then-not-formed : goal.returns-then-not-formed
returns-then-not-formed c = not_formed (snapshot_in c.args.snapshot.now) (sym c.in_ok-formed.ensures ∙ c.if-not-formed.true)

pub returns : goal.returns
returns c =
    actions_decide (snapshot_in c.args.snapshot.now) (sym c.is_in_range.ensures ∙ c.if-not-is_in_range.false) (sym c.in_ok-formed.ensures ∙ c.if-not-formed.false)
    c.are_short.result (rw c.as_slice.ensures.value at c.are_short.ensures)
