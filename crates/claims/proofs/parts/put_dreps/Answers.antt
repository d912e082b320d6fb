use Rattle.std.proofs.Common.{List, ℕ, flat_map, refl, ap}
use Rattle.claims.specs.Lines.{drep_lines, predefined_lines}
use Rattle.gov_ids.specs.declared.Credential.{Credential}
use Rattle.report.proofs.Handed.{put_as, put_both, put_front}
use Rattle.claims.proofs.parts.put_dreps.Goals as goal

pub returns-in_err-put_items : goal.returns-in_err-put_items
returns-in_err-put_items g c =
    put_front (predefined_lines c.args.c.now c.args.a.now) refl
    (put_as (ap (λ (ds : List (Credential × ℕ)). flat_map (drep_lines c.args.f.now.epoch c.args.c.now c.args.a.now) ds) c.as_slice.ensures) c.in_err-put_items.ensures) c.from_residual.ensures.1

pub returns : goal.returns
returns g c =
    put_both refl
    (put_as (ap (λ (ds : List (Credential × ℕ)). flat_map (drep_lines c.args.f.now.epoch c.args.c.now c.args.a.now) ds) c.as_slice.ensures) c.in_ok-put_items.ensures) c.put_predefined.ensures
