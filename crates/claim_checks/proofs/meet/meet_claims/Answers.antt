use Rattle.std.proofs.Common.{rules}
use Rattle.certificate_model.specs.Certificate.{claim_lines}
use Rattle.line_giver.proofs.Passing.{passes_both}
use Rattle.line_giver.specs.Giving.{lines_of_giving}
use Rattle.tally.specs.Counted.{AreOf}
use Rattle.claim_checks.proofs.Since.{passes_back}
use Rattle.claim_checks.proofs.Taken.{met_if_ok}
use Rattle.claim_checks.proofs.meet.meet_claims.Goals as goal

pub returns-clause-met : goal.returns-clause-met
returns-clause-met g c =
    let claims = c.pass_claims-compared.ensures in
    let all = c.is_all.ensures in
    met_if_ok claim_lines (λ s. AreOf s c.args.frozen.now c.args.counted.now) (lines_of_giving (g.G.LineGiver.giving c.args.giver.now)) _ _ c.is_all.result claims.same claims.differs all.met all.all
    claims.passes.lines claims.passes.passed.left

pub returns-clause-some : goal.returns-clause-some
returns-clause-some g c =
    let same = c.pass_claims-compared.ensures.same_reference in
    passes_back g.G.LineGiver.passed g.G.LineGiver.giving (passes_both c.pass_claims-compared.ensures.passes c.is_all.ensures.passes) (search rules)
