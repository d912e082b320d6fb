use Rattle.std.proofs.Common.{◌≡◌, true, ap, option_map, rules}
use Rattle.certificate_model.specs.Certificate.{snapshot_lines}
use Rattle.line_giver.proofs.Passing.{passes_both}
use Rattle.line_giver.specs.Giving.{lines_of_giving}
use Rattle.snapshot_counts.specs.Fitting.{IsFitting, snapshot_in}
use Rattle.text_forms.specs.Lines.{are_short_lines}
use Rattle.certificate_check.proofs.Certified.{answer_is, not_read}
use Rattle.certificate_check.proofs.check.is_certificate.Goals as goal

pub returns-in_default-clause-right : goal.returns-in_default-clause-right
returns-in_default-clause-right g c = λ lines known.
    not_read (lines_of_giving (g.G.LineGiver.giving c.args.giver.now)) (option_map snapshot_in c.in_ok-snapshot.field-0) c.in_ok-snapshot.ensures.all lines known (ap (option_map snapshot_in) c.in_default.is)

pub returns-clause-right : goal.returns-clause-right
returns-clause-right g c =
    let s = snapshot_in c.in-Some.snapshot in
    let fits : IsFitting s = search rules in
    let short : are_short_lines (snapshot_lines s) ≡ true = search rules in
    let read = rw c.in-Some.is at c.in_ok-snapshot.ensures.passes in
    answer_is (lines_of_giving (g.G.LineGiver.giving c.args.giver.now)) _ (option_map snapshot_in c.in_ok-snapshot.field-0) s c.meet_claims.result _ c.in_ok-snapshot.ensures.all (ap (option_map snapshot_in) c.in-Some.is)
    c.claims_are_short.ensures fits short read.left c.meet_claims.ensures.met (search rules)

pub returns-clause-passes : goal.returns-clause-passes
returns-clause-passes g c = passes_both c.in_ok-snapshot.ensures.some c.meet_claims.ensures.some
