use Rattle.std.proofs.Common.{refl, ap}
use Rattle.claims.specs.Lines.{drep_part_lines}
use Rattle.gov_actions.specs.declared.action.Vote.{Vote}
use Rattle.gov_ids.specs.declared.Drep.TheVariants as drep
use Rattle.gov_model.specs.Sides.{no_confidence_side}
use Rattle.report.proofs.Handed.{put_as, put_both, put_front}
use Rattle.claims.proofs.parts.put_predefined.Goals as goal

pub returns-in_err-put_drep : goal.returns-in_err-put_drep
returns-in_err-put_drep g c =
    put_front (drep_part_lines c.args.c.now c.args.a.now drep.NoConfidence (no_confidence_side c.args.a.now.action)) refl c.in_err-put_drep.ensures c.from_residual.ensures.1

pub returns : goal.returns
returns g c =
    put_both refl c.in_ok-put_drep.ensures
    (put_as (ap (λ (side : Vote). drep_part_lines c.args.c.now c.args.a.now drep.NoConfidence side) c.no_confidence_side-side.ensures) c.put_drep-2.ensures)
