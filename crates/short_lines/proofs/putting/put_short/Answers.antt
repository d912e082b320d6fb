use Rattle.std.proofs.Common.{ℕ, List, ap, sym, ◌∙◌}
use Rattle.gov_ids.specs.declared.Credential.{Credential}
use Rattle.shortfall_model.specs.declared.short.Short.TheVariants.{Least}
use Rattle.shortfall_model.specs.ShortLines.{short_lines}
use Rattle.report.proofs.Handed.{put_as}
use Rattle.short_lines.proofs.putting.put_short.Goals as goal

pub returns-in-Least : goal.returns-in-Least
returns-in-Least g c =
    let found = c.in-Least in
    put_as (ap (λ (ds : List (Credential × ℕ)). short_lines c.args.id.now (Least ds found.yes found.total found.need found.short)) c.as_slice.ensures ∙ ap (short_lines c.args.id.now) (sym found.is)) c.put_chosen.ensures
