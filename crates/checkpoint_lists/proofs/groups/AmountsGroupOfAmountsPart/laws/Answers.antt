use Rattle.std.proofs.Common.{[], ◌∷◌, map}
use Rattle.std.proofs.lemmas.List.Concat.{flat_map_single}
use Rattle.maps.specs.Words.{none_or}
use Rattle.std.specs.List.{list_all}
use Rattle.text_forms.specs.Books.{is_amount}
use Rattle.text_forms.specs.Ids.{is_tx_id}
use Rattle.text_model.specs.StateLines.{pending_reward_words}
use Rattle.checkpoint_model.specs.Checkpoint.{used_words}
use Rattle.state_kinds.specs.States.{is_pending_line}
use Rattle.checkpoint_lists.specs.Pots.{are_pots, pending_or_none, pots_line}
use Rattle.checkpoint_lists.proofs.RowLaws.{and4, nest4}
use Rattle.checkpoint_lists.proofs.groups.AmountsGroupOfAmountsPart.laws.Goals as goal

pub returns-clause-rows : goal.returns-clause-rows
returns-clause-rows c = λ x. rw (flat_map_single pending_reward_words x.rewards, flat_map_single used_words x.used)
    (nest4 (pending_or_none x.pending ∷ []) (map pending_reward_words x.rewards) (pots_line x.pots ∷ []) (map used_words x.used))

pub returns-clause-form : goal.returns-clause-form
returns-clause-form c = λ x. and4 (none_or is_pending_line x.pending) (list_all is_amount x.rewards) (are_pots x.pots) (list_all is_tx_id x.used)
