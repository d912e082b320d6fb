use Rattle.std.proofs.Common.{[], ◌∷◌}
use Rattle.certificate_model.specs.Certificate.{verdict_words}
use Rattle.report.proofs.Handed.{put_as, put_both, put_front}
use Rattle.std.proofs.Common.{refl}
use Rattle.claims.proofs.PartsAre.{parts_are}
use Rattle.claims.proofs.blocks.put_claim.Goals as goal

pub returns-in_err-put_parts : goal.returns-in_err-put_parts
returns-in_err-put_parts g c = λ s of counted.
    put_front (verdict_words c.args.tally.now ∷ []) refl (put_as (parts_are s c.args.f.now c.args.c.now c.args.a.now of counted) c.in_err-put_parts.ensures) c.from_residual.ensures.1

pub returns : goal.returns
returns g c = λ s of counted.
    put_both refl (put_as (parts_are s c.args.f.now c.args.c.now c.args.a.now of counted) c.in_ok-put_parts.ensures) c.put_one.ensures
