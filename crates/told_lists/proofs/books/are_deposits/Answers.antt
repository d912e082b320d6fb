use Rattle.std.proofs.Common.{◌==◌, ◌∙◌}
use Rattle.resume_checks.specs.Sums.{deposits_in}
use Rattle.told_lists.proofs.books.are_deposits.Goals as goal

pub returns : goal.returns
returns c = λ l. c.holds_deposits.ensures l ∙ (λ i. deposits_in (c.as_slice.ensures i) (c.as_slice-2.ensures i) (c.as_slice-3.ensures i) (c.as_slice-4.ensures i) == c.args.deposits)
