use Rattle.std.proofs.Common.{[], ◌∷◌, refl, ap}
use Rattle.certificate_model.specs.Certificate.{claim_of_proposal}
use Rattle.gov_actions.specs.declared.tally.Tally.{Tally}
use Rattle.report.proofs.Handed.{put_as}
use Rattle.claims.proofs.Passed.{passed_front, passed_nothing, passed_one}
use Rattle.claims.proofs.blocks.put_block.Goals as goal

pub returns-in_err-passing-clause-passed : goal.returns-in_err-passing-clause-passed
returns-in_err-passing-clause-passed g c = λ s of.
    passed_nothing s (g.T.LineTaker.taken c.args.to.now) (g.T.LineTaker.faults c.args.to.now) c.args.passing (c.args.a.now ∷ []) c.from_residual.ensures.1

pub returns-in_err-put_claim-clause-passed : goal.returns-in_err-put_claim-clause-passed
returns-in_err-put_claim-clause-passed g c = λ s of.
    passed_front s [] refl
    (passed_one s c.args.a.now
    (λ front before. put_as (ap (λ (t : Tally). claim_of_proposal s (c.args.a.now, t)) (c.in_ok-passing.ensures.tally s of.frozen (c.cell_of-counts.ensures s of) front before)) (c.in_err-put_claim.ensures s of.frozen of.counted))
    (λ front before. tt)) c.from_residual-in_err-put_claim.ensures.1

pub returns-clause-passed : goal.returns-clause-passed
returns-clause-passed g c = λ s of.
    passed_one s c.args.a.now
    (λ front before. put_as (ap (λ (t : Tally). claim_of_proposal s (c.args.a.now, t)) (c.in_ok-passing.ensures.tally s of.frozen (c.cell_of-counts.ensures s of) front before)) (c.in_ok-put_claim.ensures s of.frozen of.counted))
    (λ front before. c.in_ok-passing.ensures.passed s of.frozen (c.cell_of-counts.ensures s of) front before)
