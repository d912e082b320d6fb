use Rattle.std.proofs.Common.{List, ℕ, flat_map, ap}
use Rattle.claims.specs.Lines.{member_lines}
use Rattle.gov_ids.specs.declared.Credential.{Credential}
use Rattle.report.proofs.Handed.{put_as}
use Rattle.claims.proofs.parts.put_members.Goals as goal

pub returns : goal.returns
returns g c = put_as (ap (λ (ms : List (Credential × ℕ)). flat_map (member_lines c.args.f.now c.args.a.now) ms) c.members_of-members.ensures) c.put_items.ensures
