use Rattle.std.proofs.Common.{[], ◌∷◌, flat_map, map, refl, ap, ◌∙◌}
use Rattle.std.proofs.lemmas.List.Concat.{flat_map_single}
use Rattle.text_model.specs.StateLines.{pending_reward_words, pending_words}
use Rattle.report.proofs.Puts.{put_first_as, put_second_as}
use Rattle.state_print.proofs.kept.put_update.Goals as goal

pub returns-in_err-put_one : goal.returns-in_err-put_one
returns-in_err-put_one g c =
    put_first_as _ (pending_words c.args.update.now ∷ [])
    (map pending_reward_words c.args.update.now.rewards)
    refl c.in_err-put_one.ensures c.from_residual.ensures.1

pub returns : goal.returns
returns g c =
    put_second_as _ (pending_words c.args.update.now ∷ []) _
    (map pending_reward_words c.args.update.now.rewards)
    refl (ap (flat_map (λ r. pending_reward_words r ∷ [])) c.as_slice.ensures ∙ flat_map_single pending_reward_words c.args.update.now.rewards)
    c.in_ok-put_one.ensures c.put_items.ensures
