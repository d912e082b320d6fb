-- The lines of actions, and what a line reads as. (Own)
use Rattle.std.specs.Prelude.{Bool, ◌&&◌, if◌then◌else◌, List, [], ◌∷◌, Option, Some, None, bytes_eq, codes}
use Rattle.std.specs.Result.{result_ok}
use Rattle.std.specs.Str.{is_utf8}
use Rattle.serde_json.specs.Data.{Data}
use Rattle.serde_json.specs.Read.{read}
use Rattle.gov_ids.specs.declared.ActionId.{ActionId}
use Rattle.gov_ids.specs.Spelling.{◌>>=◌, action_id_of, action_id_text}
use Rattle.gov_actions.specs.declared.action.Action.{Action}
use Rattle.action_read.specs.Actions.{action_in}
use Rattle.text_forms.specs.Actions.{is_action}
use Rattle.text_forms.specs.ActionText.{action_text}
use Rattle.text_forms.specs.Ids.{is_action_id}
use Rattle.text_model.specs.Words.{Text}
use Rattle.book_kinds.specs.Pools.{halves}

-- the words of the line of an action
abbrev pub action_line : ActionId × Action → List Text
action_line a = codes "action" ∷ action_id_text a.0 ∷ action_text a.1 ∷ []

-- its form
abbrev pub is_action_line : ActionId × Action → Bool
is_action_line a = is_action_id a.0 && is_action a.1

-- the action of a JSON value
abbrev pub action_of_json : Data → Option Action
action_of_json d = result_ok (action_in d)

-- the action of a JSON text
abbrev pub action_of : Text → Option Action
action_of t = (if is_utf8 t then read t else None) >>= action_of_json

-- what follows the word action, cut at the first space
abbrev pub parts_after : Text × Text → Option (Text × Text)
parts_after p = if bytes_eq p.0 (codes "action") then halves 32 p.1 else None

-- the id and the JSON of a line that is a text
abbrev pub parts_of : Text → Option (Text × Text)
parts_of line = if is_utf8 line then halves 32 line >>= parts_after else None

-- what a line reads as; whether it is spelled as it is printed is not asked
abbrev pub item_of : Text → Option (ActionId × Action)
item_of line = do
  parts ← parts_of line
  id ← action_id_of parts.0
  action ← action_of parts.1
  Some (id, action)
