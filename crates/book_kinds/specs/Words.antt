-- What a word of a line reads as. (Own)
use Rattle.std.specs.Prelude.{if◌then◌else◌, Option, Some, None, bytes_eq, codes, option_map}
use Rattle.std.specs.Result.{result_ok}
use Rattle.gov_ids.specs.declared.TxId.{TxId}
use Rattle.gov_ids.specs.Spelling.{credential_of, hash_of}
use Rattle.gov_actions.specs.declared.action.Vote.{Vote}
use Rattle.gov_actions.specs.declared.action.Vote.TheVariants.{Yes, No, Abstain}
use Rattle.gov_actions.specs.declared.state.HotState.{HotState}
use Rattle.gov_actions.specs.declared.state.HotState.TheVariants.{Hot, Resigned}
use Rattle.text_model.specs.Words.{Text}

-- a transaction
abbrev pub tx_id_of : Text → Option TxId
tx_id_of t = option_map (λ h. record { 0 = h }) (result_ok (hash_of 32 t))

-- `none`, or what another reader takes
abbrev pub or_none_of : {A : Type 0} → (Text → Option A) → Text → Option (Option A)
or_none_of reading t = if bytes_eq t (codes "none") then Some None else option_map Some (reading t)

-- a vote
abbrev pub vote_of : Text → Option Vote
vote_of t =
    if bytes_eq t (codes "yes") then Some Yes
    else if bytes_eq t (codes "no") then Some No
    else if bytes_eq t (codes "abstain") then Some Abstain
    else None

-- what a cold key authorized
abbrev pub hot_state_of : Text → Option HotState
hot_state_of t = if bytes_eq t (codes "resigned") then Some Resigned else option_map Hot (credential_of t)
