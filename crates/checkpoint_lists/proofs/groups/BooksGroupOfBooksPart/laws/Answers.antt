use Rattle.std.proofs.Common.{flat_map, map}
use Rattle.std.proofs.lemmas.List.Concat.{flat_map_single}
use Rattle.std.specs.List.{list_all}
use Rattle.text_forms.specs.Books.{is_drep, is_entry, is_held_asset}
use Rattle.text_model.specs.StateLines.{account_words, asset_words, drep_words}
use Rattle.book_kinds.specs.Books.{is_vote_line, vote_line}
use Rattle.book_kinds.specs.Outputs.{is_output_line, output_line}
use Rattle.book_kinds.specs.Pools.{is_next_line, is_pool_line, next_line, pool_line}
use Rattle.state_kinds.specs.Proposals.{is_proposal_line, proposal_line}
use Rattle.checkpoint_lists.specs.Rows.{are_rows, rows_of}
use Rattle.checkpoint_lists.proofs.RowLaws.{and5, nest5, rows_same}
use Rattle.checkpoint_lists.proofs.groups.BooksGroupOfBooksPart.laws.Goals as goal

pub returns-clause-rows : goal.returns-clause-rows
returns-clause-rows c = λ x. rw (flat_map_single drep_words x.dreps, rows_same pool_line next_line x.pools, flat_map_single account_words x.entries, rows_same output_line asset_words x.outputs, rows_same proposal_line vote_line x.proposals)
    (nest5 (map drep_words x.dreps) (flat_map (rows_of pool_line next_line) x.pools) (map account_words x.entries) (flat_map (rows_of output_line asset_words) x.outputs) (flat_map (rows_of proposal_line vote_line) x.proposals))

pub returns-clause-form : goal.returns-clause-form
returns-clause-form c = λ x. and5 (list_all is_drep x.dreps) (list_all (are_rows is_pool_line is_next_line) x.pools) (list_all is_entry x.entries) (list_all (are_rows is_output_line is_held_asset) x.outputs) (list_all (are_rows is_proposal_line is_vote_line) x.proposals)
