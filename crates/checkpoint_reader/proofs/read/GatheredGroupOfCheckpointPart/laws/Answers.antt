use Rattle.std.proofs.Common.{map}
use Rattle.std.proofs.lemmas.List.Concat.{flat_map_single}
use Rattle.std.specs.List.{list_all}
use Rattle.text_forms.specs.States.{are_params}
use Rattle.text_model.specs.ParamLines.{param_lines}
use Rattle.action_kinds.specs.Lines.{action_line, is_action_line}
use Rattle.checkpoint_lists.specs.Rows.{amount_rows, book_rows, frozen_rows, governance_rows, has_frozen_form, has_governance_form, have_amount_form, have_book_form, have_stake_form, stake_rows}
use Rattle.checkpoint_reader.proofs.Pairs.{and_pairs, nest_pairs}
use Rattle.checkpoint_reader.proofs.read.GatheredGroupOfCheckpointPart.laws.Goals as goal

pub returns-clause-rows : goal.returns-clause-rows
returns-clause-rows c = λ x.
    rw (flat_map_single action_line x.actions)
    (nest_pairs (governance_rows x.governance) (param_lines x.params) (book_rows x.books) (stake_rows x.stakes) (amount_rows x.amounts) (map action_line x.actions) (frozen_rows x.frozen))

pub returns-clause-form : goal.returns-clause-form
returns-clause-form c = λ x. and_pairs (has_governance_form x.governance) (are_params x.params) (have_book_form x.books) (have_stake_form x.stakes) (have_amount_form x.amounts) (list_all is_action_line x.actions) (has_frozen_form x.frozen)
