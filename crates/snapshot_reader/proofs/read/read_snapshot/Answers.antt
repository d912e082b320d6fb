use Rattle.std.proofs.Common.{sym, ◌∙◌}
use Rattle.std.proofs.lemmas.Option.{none-some, same_Some}
use Rattle.certificate_lists.specs.Rows.{rows_shown}
use Rattle.snapshot_reader.proofs.Readable.{fits_if, form_by, passes_if, short_if}
use Rattle.snapshot_reader.proofs.read.read_snapshot.Goals as goal

pub returns-in_default-clause-all : goal.returns-in_default-clause-all
returns-in_default-clause-all g c = λ f more fits short apart left.
    absurd (none-some (rows_shown f) (sym c.in_default.is ∙ c.in_ok-rows.ensures.snapshot f more (form_by f fits) apart left))

pub returns-clause-fits : goal.returns-clause-fits
returns-clause-fits g c = fits_if c.in-Some.rows c.in_ok-readable_of.field-0 c.in_ok-readable_of.ensures

pub returns-clause-short : goal.returns-clause-short
returns-clause-short g c = short_if c.in-Some.rows c.in_ok-readable_of.field-0 c.in_ok-readable_of.ensures

pub returns-clause-passes : goal.returns-clause-passes
returns-clause-passes g c = passes_if c.in-Some.rows c.shown_are_of_snapshots.ensures c.in_ok-readable_of.field-0 c.in_ok-readable_of.ensures (rw c.in-Some.is at c.in_ok-rows.ensures.passes)

pub returns-clause-all : goal.returns-clause-all
returns-clause-all g c = λ f more fits short apart left.
    let same = same_Some c.in-Some.rows (rows_shown f) (sym c.in-Some.is ∙ c.in_ok-rows.ensures.snapshot f more (form_by f fits) apart left) in
    c.in_ok-readable_of.ensures.all f (record { fits = fits; short = short }) (sym same)
