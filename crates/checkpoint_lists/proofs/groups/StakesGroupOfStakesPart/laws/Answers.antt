use Rattle.std.proofs.Common.{[], ◌∷◌, codes, map}
use Rattle.std.proofs.lemmas.List.Concat.{flat_map_single}
use Rattle.std.specs.List.{list_all}
use Rattle.text_forms.specs.Books.{is_stake}
use Rattle.text_model.specs.StateLines.{noted_fees_words, snapshot_words}
use Rattle.tx_records.specs.Limits.{is_u64}
use Rattle.checkpoint_lists.proofs.RowLaws.{and4, nest4}
use Rattle.checkpoint_lists.proofs.groups.StakesGroupOfStakesPart.laws.Goals as goal

pub returns-clause-rows : goal.returns-clause-rows
returns-clause-rows c = λ x. rw (flat_map_single (snapshot_words (codes "mark")) x.mark, flat_map_single (snapshot_words (codes "set")) x.set, flat_map_single (snapshot_words (codes "go")) x.go)
    (nest4 (map (snapshot_words (codes "mark")) x.mark) (map (snapshot_words (codes "set")) x.set) (map (snapshot_words (codes "go")) x.go) (noted_fees_words x.noted_fees ∷ []))

pub returns-clause-form : goal.returns-clause-form
returns-clause-form c = λ x. and4 (list_all is_stake x.mark) (list_all is_stake x.set) (list_all is_stake x.go) (is_u64 x.noted_fees)
