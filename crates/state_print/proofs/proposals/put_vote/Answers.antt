use Rattle.std.proofs.Common.{[], ◌∷◌, ap}
use Rattle.gov_ids.specs.declared.ActionId.{ActionId}
use Rattle.report.proofs.Handed.{put_as}
use Rattle.text_model.specs.StateLines.{words_of_vote}
use Rattle.state_print.proofs.proposals.put_vote.Goals as goal

pub returns : goal.returns
returns g c = put_as (ap (λ (id : ActionId). words_of_vote id c.args.cast.now ∷ []) c.id-id.ensures) c.put_one.ensures
