use Rattle.std.proofs.Common.{refl, subst, sym}
use Rattle.certificate_model.specs.Certificate.{certificate_lines, claim_lines}
use Rattle.report.proofs.Handed.{put_both, put_front, put_nothing}
use Rattle.snapshots.specs.declared.frozen.Frozen.{Frozen}
use Rattle.tally.specs.Counted.{CanBeCounted}
use Rattle.certificate_print.proofs.certificate.put_certificate.Goals as goal

pub put_claims-requires : goal.put_claims-requires
put_claims-requires g c = subst (λ (f : Frozen). CanBeCounted f c.in_ok-counted.counted) (sym c.frozen.ensures) c.in_ok-counted.ensures.fits

pub returns-in_err-counted : goal.returns-in_err-counted
returns-in_err-counted g c =
    put_nothing (certificate_lines c.args.s.now.frozen) (g.T.LineTaker.taken c.args.to.now) (g.T.LineTaker.faults c.args.to.now) c.from_residual.ensures.1

pub returns-in_err-put_snapshot : goal.returns-in_err-put_snapshot
returns-in_err-put_snapshot g c = put_front (claim_lines c.args.s.now.frozen) refl c.in_err-put_snapshot.ensures c.from_residual-in_err-put_snapshot.ensures.1

pub returns : goal.returns
returns g c =
    put_both refl c.in_ok-put_snapshot.ensures
    (c.put_claims.ensures c.args.s.now.frozen (record { frozen = c.frozen.ensures; counted = c.in_ok-counted.ensures.counted }))
