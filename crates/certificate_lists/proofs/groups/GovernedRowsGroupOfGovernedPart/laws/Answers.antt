use Rattle.std.proofs.Common.{[], ◌∷◌, map}
use Rattle.std.proofs.lemmas.List.Concat.{flat_map_single}
use Rattle.maps.specs.Words.{none_or}
use Rattle.std.specs.List.{list_all}
use Rattle.text_forms.specs.Books.{is_hot}
use Rattle.text_forms.specs.Ids.{is_unit}
use Rattle.text_forms.specs.States.{are_last_ids}
use Rattle.text_model.specs.StateLines.{hot_words, words_of_enacted}
use Rattle.state_kinds.specs.States.{committee_line, constitution_line, is_constitution_line, is_member_line, member_line}
use Rattle.certificate_lists.specs.Rows.{certificate_line, is_certificate_line}
use Rattle.certificate_lists.proofs.RowLaws.{and6, nest4}
use Rattle.certificate_lists.proofs.groups.GovernedRowsGroupOfGovernedPart.laws.Goals as goal

pub returns-clause-rows : goal.returns-clause-rows
returns-clause-rows c = λ x.
    rw (flat_map_single member_line x.members, flat_map_single hot_words x.hot)
    (nest4 (certificate_line x.head ∷ constitution_line x.constitution ∷ committee_line x.threshold ∷ []) (map member_line x.members) (map hot_words x.hot) (words_of_enacted x.last ∷ []))

pub returns-clause-form : goal.returns-clause-form
returns-clause-form c = λ x. and6 (is_certificate_line x.head) (is_constitution_line x.constitution) (none_or is_unit x.threshold) (list_all is_member_line x.members) (list_all is_hot x.hot) (are_last_ids x.last)
