use Rattle.std.proofs.Common.{sym, ◌∙◌}
use Rattle.snapshot_counts.specs.Fitting.{snapshot_in}
use Rattle.snapshot_reader.proofs.Readable.{lists_form, no_form}
use Rattle.snapshot_reader.proofs.fits.is_snapshot.Goals as goal

pub returns-then-not-has_further_form : goal.returns-then-not-has_further_form
returns-then-not-has_further_form c = no_form (snapshot_in c.args.snapshot.now) (sym c.has_further_form.ensures ∙ c.if-not-has_further_form.true)

pub returns : goal.returns
returns c =
    let f = snapshot_in c.args.snapshot.now in
    lists_form c.lists_of.result f c.requires (sym c.has_further_form.ensures ∙ c.if-not-has_further_form.false) (c.lists_of.ensures f) c.is_snapshot.result c.is_snapshot.ensures
