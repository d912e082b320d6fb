use Rattle.std.proofs.Common.{[], ◌∷◌, true, flat_map, map, ◌∙◌}
use Rattle.std.proofs.lemmas.List.Concat.{flat_map_single}
use Rattle.std.specs.List.{list_all}
use Rattle.text_forms.specs.Books.{is_entry, is_frozen_drep, is_hot}
use Rattle.text_forms.specs.Ids.{is_action_id}
use Rattle.text_forms.specs.Snapshots.{expiry_words}
use Rattle.text_model.specs.StateLines.{account_words, hot_words}
use Rattle.tx_records.specs.Limits.{is_u64}
use Rattle.checkpoint_model.specs.Checkpoint.{frozen}
use Rattle.book_kinds.specs.Books.{is_vote_line, vote_line}
use Rattle.book_kinds.specs.Frozen.{is_pool_account_line, pool_account_line, proposal_id_line}
use Rattle.state_kinds.specs.States.{end_line, treasury_line}
use Rattle.checkpoint_lists.specs.Rows.{are_rows, rows_of}
use Rattle.checkpoint_lists.proofs.RowLaws.{and_pairs, and_true, nest_pairs, rows_same}
use Rattle.checkpoint_lists.proofs.groups.FrozenRowsGroupOfFrozenPart.laws.Goals as goal

pub returns-clause-rows : goal.returns-clause-rows
returns-clause-rows c = λ x. rw (flat_map_single (λ e. frozen (account_words e)) x.entries, flat_map_single (λ d. frozen (expiry_words d)) x.dreps, flat_map_single (λ h. frozen (hot_words h)) x.hot, flat_map_single (λ p. frozen (pool_account_line p)) x.pools, rows_same (λ i. frozen (proposal_id_line i)) (λ v. frozen (vote_line v)) x.proposals)
    (nest_pairs (frozen (treasury_line x.treasury) ∷ []) (map (λ e. frozen (account_words e)) x.entries) (map (λ d. frozen (expiry_words d)) x.dreps) (map (λ h. frozen (hot_words h)) x.hot) (map (λ p. frozen (pool_account_line p)) x.pools) (flat_map (rows_of (λ i. frozen (proposal_id_line i)) (λ v. frozen (vote_line v))) x.proposals) (end_line ∷ []))

pub returns-clause-form : goal.returns-clause-form
returns-clause-form c = λ x. and_pairs (is_u64 x.treasury) (list_all is_entry x.entries) (list_all is_frozen_drep x.dreps) (list_all is_hot x.hot) (list_all is_pool_account_line x.pools) (list_all (are_rows is_action_id is_vote_line) x.proposals) true ∙ and_true _
