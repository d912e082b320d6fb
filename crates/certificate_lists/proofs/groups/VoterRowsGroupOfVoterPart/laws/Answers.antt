use Rattle.std.proofs.Common.{map}
use Rattle.std.proofs.lemmas.List.Concat.{flat_map_single}
use Rattle.std.specs.List.{list_all}
use Rattle.text_forms.specs.Books.{is_entry, is_frozen_drep, is_stake}
use Rattle.text_forms.specs.Snapshots.{expiry_words}
use Rattle.text_model.specs.StateLines.{account_words}
use Rattle.certificate_model.specs.Certificate.{mark_words}
use Rattle.book_kinds.specs.Frozen.{is_pool_account_line, pool_account_line}
use Rattle.certificate_lists.proofs.RowLaws.{and4, nest4}
use Rattle.certificate_lists.proofs.groups.VoterRowsGroupOfVoterPart.laws.Goals as goal

pub returns-clause-rows : goal.returns-clause-rows
returns-clause-rows c = λ x.
    rw (flat_map_single expiry_words x.dreps, flat_map_single pool_account_line x.pools, flat_map_single mark_words x.mark, flat_map_single account_words x.entries)
    (nest4 (map expiry_words x.dreps) (map pool_account_line x.pools) (map mark_words x.mark) (map account_words x.entries))

pub returns-clause-form : goal.returns-clause-form
returns-clause-form c = λ x. and4 (list_all is_frozen_drep x.dreps) (list_all is_pool_account_line x.pools) (list_all is_stake x.mark) (list_all is_entry x.entries)
