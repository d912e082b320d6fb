-- All lines of a checkpoint, and what they say. (Own)
use Rattle.std.specs.Prelude.{ℕ, Bool, true, false, ◌&&◌, ◌++◌, List, [], ◌∷◌, codes, map}
use Rattle.std.specs.List.{list_all}
use Rattle.gov_ids.specs.declared.ActionId.{ActionId}
use Rattle.gov_actions.specs.declared.action.Action.{Action}
use Rattle.gov_actions.specs.declared.action.Proposal.{Proposal}
use Rattle.pparams.specs.declared.Params.{Params}
use Rattle.run_model.specs.World.{World}
use Rattle.text_forms.specs.States.{are_params}
use Rattle.text_model.specs.ParamLines.{param_lines}
use Rattle.text_model.specs.Words.{Text}
use Rattle.line_parts.specs.Shapes.{Shape}
use Rattle.action_kinds.specs.Lines.{action_line, is_action_line}
use Rattle.checkpoint_lists.specs.declared.gathered.Amounts.{Amounts}
use Rattle.checkpoint_lists.specs.declared.gathered.Books.{Books}
use Rattle.checkpoint_lists.specs.declared.gathered.FrozenRows.{FrozenRows}
use Rattle.checkpoint_lists.specs.declared.gathered.Governance.{Governance}
use Rattle.checkpoint_lists.specs.declared.gathered.Stakes.{Stakes}
use Rattle.checkpoint_reader.specs.declared.read.Gathered.{Gathered}
use Rattle.checkpoint_lists.specs.Rows.{amount_rows, book_rows, frozen_rows, governance_rows, has_frozen_form, has_governance_form, have_amount_form, have_book_form, have_stake_form, stake_rows}
use Rattle.checkpoint_lists.specs.Shown.{amounts_shown, books_shown, frozen_shown, governance_shown, stakes_shown}

-- thirty lines, of which some may be passed where they are not read
abbrev pub params_shape : Shape
params_shape = record { starts = codes "param " ∷ []; stops = []; is_optional = false; is_firm = false; fits = true }

-- all lines, group by group
abbrev pub gathered_rows : Gathered → List (List Text)
gathered_rows g =
    governance_rows g.governance
    ++ param_lines g.params
    ++ book_rows g.books
    ++ stake_rows g.stakes
    ++ amount_rows g.amounts
    ++ map action_line g.actions
    ++ frozen_rows g.frozen

-- each line has its form
abbrev pub has_gathered_form : Gathered → Bool
has_gathered_form g =
    has_governance_form g.governance && are_params g.params && have_book_form g.books && have_stake_form g.stakes
    && have_amount_form g.amounts && list_all is_action_line g.actions && has_frozen_form g.frozen

-- the groups, one after another
abbrev pub gathered_items : Gathered → (Governance × Params) × ((Books × Stakes) × (Amounts × (List (ActionId × Action) × FrozenRows)))
gathered_items g = ((g.governance, g.params), ((g.books, g.stakes), (g.amounts, (g.actions, g.frozen))))

-- the id of a proposal with its action
abbrev pub action_row : Proposal → ActionId × Action
action_row p = (p.id, p.action)

-- what the checkpoint of a World says
abbrev pub gathered_shown : World → ℕ → Gathered
gathered_shown w line = record {
  governance = governance_shown w line;
  params = w.ledger.state.params;
  books = books_shown w;
  stakes = stakes_shown w;
  amounts = amounts_shown w;
  actions = map action_row w.ledger.proposals;
  frozen = frozen_shown w.frozen;
}
