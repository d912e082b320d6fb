-- What an action must follow: the last enacted action of its purpose, or a live proposal of it.
-- (CIP-1694, Governance actions: Content; GOV of the formal specification)
use Rattle.std.specs.Prelude.{ℕ, ◌+◌, ◌==◌, Bool, true, false, ◌&&◌, ◌||◌, List, Option, Some, None, option_and_then}
use Rattle.maps.specs.Words.{holds, same_option, some_and, none_or}
use Rattle.book_records.specs.of_gov_ids.declared.ActionId.{ActionId}
use Rattle.book_records.specs.of_gov_ids.Same.{same_action}
use Rattle.gov_actions.specs.declared.action.Action.{Action}
use Rattle.gov_actions.specs.declared.action.Action.TheVariants.{HardForkInitiation}
use Rattle.gov_actions.specs.declared.action.Proposal.{Proposal}
use Rattle.gov_actions.specs.declared.action.Purpose.{Purpose}
use Rattle.gov_actions.specs.declared.state.LastIds.{LastIds}
use Rattle.gov_actions.specs.Kinds.{purpose_of, previous_of, same_purpose, last_of}
use Rattle.gov_model.specs.Proposals.{proposal_of}

-- the id is that of a live proposal of the purpose
abbrev pub is_live_of : List Proposal → Purpose → ActionId → Bool
is_live_of ps purpose id =
    some_and (λ (p : Proposal). holds same_purpose (purpose_of p.action) purpose) (proposal_of id ps)

-- the id is the last enacted one of the purpose
abbrev pub is_last_enacted : LastIds → Purpose → Option ActionId → Bool
is_last_enacted last purpose previous = same_option same_action previous (last_of last purpose)

-- the previous action is the last enacted one of the purpose, or a live proposal of it
abbrev pub may_follow : List Proposal → LastIds → Action → Bool
may_follow ps last a =
    none_or (λ purpose. is_last_enacted last purpose (previous_of a) || some_and (is_live_of ps purpose) (previous_of a)) (purpose_of a)

-- the version of a hard fork
abbrev pub version_of : Action → Option (ℕ × ℕ)
version_of (HardForkInitiation previous version) = Some version
version_of _ = None

-- the version of the previous action: the current one if it is the last enacted action
-- otherwise that of the live proposal
abbrev pub previous_version : Bool → List Proposal → ℕ × ℕ → Option ActionId → Option (ℕ × ℕ)
previous_version true ps current previous = Some current
previous_version false ps current previous = option_and_then (λ (p : Proposal). version_of p.action) (option_and_then (λ id. proposal_of id ps) previous)

-- the version that a hard fork follows
abbrev pub parent_version : List Proposal → LastIds → ℕ × ℕ → Action → Option (ℕ × ℕ)
parent_version ps last current a =
    option_and_then (λ purpose. previous_version (is_last_enacted last purpose (previous_of a)) ps current (previous_of a)) (purpose_of a)

-- the next major version, or the next minor one
abbrev pub is_next_version : ℕ × ℕ → ℕ × ℕ → Bool
is_next_version old new = (new.0 == old.0 + 1 && new.1 == 0) || (new.0 == old.0 && new.1 == old.1 + 1)

-- a hard fork is one version after its parent's
abbrev pub follows_version : List Proposal → LastIds → ℕ × ℕ → Action → Bool
follows_version ps last current a =
    none_or (λ new. none_or (λ old. is_next_version old new) (parent_version ps last current a)) (version_of a)
