use Rattle.std.proofs.Common.{[], ◌∷◌, Option, flat_map, map, ap, sym, ◌∙◌}
use Rattle.std.proofs.lemmas.List.Concat.{flat_map_single}
use Rattle.gov_actions.specs.declared.state.Committee.{Committee}
use Rattle.gov_model.specs.Sides.{members_of}
use Rattle.report.proofs.Handed.{put_as}
use Rattle.text_model.specs.StateLines.{member_among}
use Rattle.frozen_print.proofs.governance.put_members.Goals as goal

pub returns-in-Some : goal.returns-in-Some
returns-in-Some g c =
    put_as (
    ap (flat_map (λ m. member_among c.args.hot.now m ∷ [])) c.as_slice-members.ensures
    ∙ flat_map_single (member_among c.args.hot.now) c.in-Some.committee.members
    ∙ ap (λ (o : Option Committee). map (member_among c.args.hot.now) (members_of o)) (sym c.in-Some.is)
    ) c.put_items.ensures
