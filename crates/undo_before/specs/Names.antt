-- The names of all that a transaction changes. (Own)
use Rattle.std.specs.Prelude.{Bool, ◌&&◌, List, [], ◌++◌, map, if◌then◌else◌}
use Rattle.std.specs.List.{list_any}
use Rattle.std.specs.Map.{keys_of}
use Rattle.maps.specs.Maps.{entries_where, has_key}
use Rattle.maps.specs.Words.{some_and}
use Rattle.gov_ids.specs.declared.ActionId.{ActionId}
use Rattle.gov_ids.specs.declared.Credential.{Credential}
use Rattle.gov_ids.specs.declared.Voter.{Voter}
use Rattle.gov_ids.specs.Orders.{voter_cmp}
use Rattle.gov_ids.specs.Same.{same_action, same_voter}
use Rattle.book_records.specs.declared.DrepState.{DrepState}
use Rattle.book_records.specs.declared.Entry.{Entry}
use Rattle.book_records.specs.declared.Registered.{Registered}
use Rattle.gov_actions.specs.declared.action.Proposal.{Proposal}
use Rattle.gov_model.specs.Proposals.{proposal_of}
use Rattle.tx_records.specs.declared.tx.Tx.{Tx}
use Rattle.tx_records.specs.declared.tx.VoteRecord.{VoteRecord}
use Rattle.draft_changes.specs.declared.changed_names.ChangedNames.{ChangedNames}
use Rattle.proposal_store.specs.Leaving.{is_drep_among}
use Rattle.stake_book.specs.Stakes.{delegates_to_dreps}

-- the accounts that delegate to these DReps
abbrev pub delegators : List Credential → List (Credential × Registered) → List Credential
delegators left accounts = keys_of (entries_where (λ c r. delegates_to_dreps left r) accounts)

-- the entries whose registrations delegate to these DReps
abbrev pub delegating_entries : List Credential → List (Credential × Entry) → List Credential
delegating_entries left entries = keys_of (entries_where (λ c (e : Entry). some_and (delegates_to_dreps left) e.registered) entries)

-- the accounts that changes name, and those that delegate to the DReps that left
abbrev pub account_names : ChangedNames → List (Credential × Registered) → List Credential
account_names names accounts = names.accounts ++ delegators names.left accounts

-- the DReps that changes name, and all where the dormant epochs are added
abbrev pub drep_names : ChangedNames → List (Credential × DrepState) → List Credential
drep_names names dreps = names.dreps ++ (if names.refreshed then keys_of dreps else [])

-- the votes that a transaction casts
abbrev pub cast_names : Tx → List (ActionId × Voter)
cast_names tx = map (λ (v : VoteRecord). (v.action, v.voter)) tx.votes

-- whether the voter's vote on the action is among these
abbrev pub is_named : List (ActionId × Voter) → ActionId → Voter → Bool
is_named names id v = list_any (λ (n : ActionId × Voter). same_action n.0 id && same_voter v n.1) names

-- whether a live proposal of that id has a vote of the voter
abbrev pub has_voted_on : List Proposal → ActionId → Voter → Bool
has_voted_on ps id v = some_and (λ (p : Proposal). has_key voter_cmp p.votes v) (proposal_of id ps)

-- whether the voter is a DRep that left and has a vote on the action
abbrev pub is_lost : List Credential → List Proposal → ActionId → Voter → Bool
is_lost left ps id v = is_drep_among left v && has_voted_on ps id v
