-- What is frozen: its form, and its lines in checkpoints and certificates. (Own)
use Rattle.std.specs.Prelude.{ℕ, Bool, ◌&&◌, List, [], ◌∷◌, codes, decimal}
use Rattle.std.specs.List.{list_all}
use Rattle.maps.specs.Maps.{has_key, value_at}
use Rattle.gov_ids.specs.declared.Account.{Account}
use Rattle.gov_ids.specs.declared.Credential.{Credential}
use Rattle.gov_ids.specs.declared.PoolId.{PoolId}
use Rattle.gov_ids.specs.Orders.{credential_cmp, pool_cmp}
use Rattle.gov_ids.specs.Spelling.{account_text, action_id_text, credential_text, pool_text}
use Rattle.text_model.specs.of_gov_actions.declared.action.Proposal.{Proposal}
use Rattle.text_model.specs.of_gov_model.Snapshot.{Snapshot}
use Rattle.text_forms.specs.ActionText.{action_text}
use Rattle.text_forms.specs.Actions.{are_proposals}
use Rattle.text_forms.specs.Books.{is_entry, is_frozen_drep, is_hot, is_pool_account, is_stake}
use Rattle.text_forms.specs.Ids.{is_map}
use Rattle.text_forms.specs.States.{is_state}
use Rattle.text_model.specs.Words.{Text, or_none}

-- the stakes of pools: each pool once, in order
abbrev pub are_stakes : List (PoolId × ℕ) → Bool
are_stakes stakes = is_map pool_cmp stakes && list_all is_stake stakes

-- reward accounts of pools of mark, each pool once, in order
abbrev pub are_pool_accounts : List (PoolId × ℕ) → List (PoolId × Account) → Bool
are_pool_accounts mark accounts =
    is_map pool_cmp accounts && list_all is_pool_account accounts && list_all (λ p. has_key pool_cmp mark p.0) accounts

-- what is frozen has the form of the formats:
-- its lists are in order, each name once, and its numbers are in range
abbrev pub is_snapshot : Snapshot → Bool
is_snapshot f =
    is_map credential_cmp f.entries && list_all is_entry f.entries
    && is_map credential_cmp f.dreps && list_all is_frozen_drep f.dreps
    && are_stakes f.mark && are_pool_accounts f.mark f.pool_accounts
    && is_map credential_cmp f.hot && list_all is_hot f.hot
    && are_proposals f.proposals && is_state f.start

-- ---- lines

-- a frozen DRep
abbrev pub expiry_words : Credential × ℕ → List Text
expiry_words d = codes "drep" ∷ credential_text d.0 ∷ codes "expiry" ∷ decimal d.1 ∷ []

-- a pool of mark with its reward account at the freeze, none where it was not registered
abbrev pub pool_account_words : Snapshot → PoolId × ℕ → List Text
pool_account_words f m =
    codes "pool" ∷ pool_text m.0 ∷ codes "account" ∷ or_none account_text (value_at pool_cmp f.pool_accounts m.0) ∷ []

-- the action of a proposal
abbrev pub action_words : Proposal → List Text
action_words p = codes "action" ∷ action_id_text p.id ∷ action_text p.action ∷ []
