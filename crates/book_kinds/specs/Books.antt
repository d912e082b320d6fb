-- What the words of a line of the books read as: the words between those that name them. (Own)
use Rattle.std.specs.Prelude.{ℕ, Bool, ◌&&◌, if◌then◌else◌, List, Option, Some, None, bytes_eq, codes, option_map}
use Rattle.gov_ids.specs.declared.ActionId.{ActionId}
use Rattle.gov_ids.specs.declared.Credential.{Credential}
use Rattle.gov_ids.specs.declared.TxId.{TxId}
use Rattle.gov_ids.specs.declared.Voter.{Voter}
use Rattle.gov_ids.specs.Spelling.{◌>>=◌, action_id_of, credential_of, drep_of, pool_of, voter_of}
use Rattle.book_records.specs.declared.DrepState.{DrepState}
use Rattle.book_records.specs.declared.Entry.{Entry}
use Rattle.book_records.specs.declared.Registered.{Registered}
use Rattle.gov_actions.specs.declared.action.Vote.{Vote}
use Rattle.gov_actions.specs.declared.state.HotState.{HotState}
use Rattle.text_forms.specs.Actions.{is_vote}
use Rattle.text_forms.specs.Ids.{is_action_id}
use Rattle.text_model.specs.StateLines.{words_of_vote}
use Rattle.text_model.specs.Words.{Text}
use Rattle.line_kinds.specs.Cuts.{word_at}
use Rattle.line_kinds.specs.Numbers.{number_of}
use Rattle.book_kinds.specs.Words.{hot_state_of, or_none_of, tx_id_of, vote_of}

-- a used id
abbrev pub used_in : List Text → Option TxId
used_in ws = tx_id_of (word_at 1 ws)

-- a DRep
abbrev pub drep_in : List Text → Option (Credential × DrepState)
drep_in ws = do
  credential ← credential_of (word_at 1 ws)
  deposit ← number_of (word_at 3 ws)
  expiry ← number_of (word_at 5 ws)
  Some (credential, record { deposit = deposit; expiry = expiry })

-- what a cold key authorized
abbrev pub hot_in : List Text → Option (Credential × HotState)
hot_in ws = do
  cold ← credential_of (word_at 1 ws)
  state ← hot_state_of (word_at 2 ws)
  Some (cold, state)

-- a pending reward
abbrev pub reward_in : List Text → Option (Credential × ℕ)
reward_in ws = do
  credential ← credential_of (word_at 2 ws)
  reward ← number_of (word_at 3 ws)
  Some (credential, reward)

-- a vote on the action of an id
abbrev pub vote_in : List Text → Option (ActionId × (Voter × Vote))
vote_in ws = do
  id ← action_id_of (word_at 1 ws)
  voter ← voter_of (word_at 2 ws)
  vote ← vote_of (word_at 3 ws)
  Some (id, (voter, vote))

-- its words
abbrev pub vote_line : ActionId × (Voter × Vote) → List Text
vote_line v = words_of_vote v.0 v.1

-- its form
abbrev pub is_vote_line : ActionId × (Voter × Vote) → Bool
is_vote_line v = is_action_id v.0 && is_vote v.1

-- a registration
abbrev pub registered_in : List Text → Option Registered
registered_in ws = do
  deposit ← number_of (word_at 5 ws)
  rewards ← number_of (word_at 7 ws)
  pool ← or_none_of pool_of (word_at 9 ws)
  drep ← or_none_of drep_of (word_at 11 ws)
  Some (record { deposit = deposit; rewards = rewards; pool = pool; drep = drep })

-- a registration, or that there is none
abbrev pub registration_in : List Text → Option (Option Registered)
registration_in ws = if bytes_eq (word_at 4 ws) (codes "unregistered") then Some None else option_map Some (registered_in ws)

-- an account
abbrev pub account_in : List Text → Option (Credential × Entry)
account_in ws = do
  credential ← credential_of (word_at 1 ws)
  stake ← number_of (word_at 3 ws)
  registered ← registration_in ws
  Some (credential, record { stake = stake; registered = registered })
