use Rattle.std.proofs.Common.{List, [], ◌∷◌, flat_map, ap, ◌∙◌}
use Rattle.std.proofs.lemmas.List.Concat.{flat_map_single}
use Rattle.gov_actions.specs.declared.action.Vote.{Vote}
use Rattle.gov_ids.specs.declared.Voter.{Voter}
use Rattle.report.proofs.Handed.{put_as}
use Rattle.text_model.specs.StateLines.{vote_words}
use Rattle.frozen_print.proofs.proposals.put_votes.Goals as goal

pub returns : goal.returns
returns g c =
    put_as (ap (λ (votes : List (Voter × Vote)). flat_map (λ cast. vote_words c.args.p.now cast ∷ []) votes) c.as_slice.ensures ∙ flat_map_single (vote_words c.args.p.now) c.args.p.now.votes) c.put_items.ensures
