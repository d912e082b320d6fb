-- What the committee's cold keys authorized.
-- (CIP-1694, Constitutional committee keys; GOVCERT and GOV of the formal specification)
use Rattle.std.specs.Prelude.{ℕ, Bool, false, List, Option}
use Rattle.std.specs.List.{list_any}
use Rattle.maps.specs.Maps.{entries_where}
use Rattle.book_records.specs.of_gov_ids.declared.Credential.{Credential}
use Rattle.book_records.specs.of_gov_ids.Same.{same_credential}
use Rattle.gov_actions.specs.declared.action.Action.{Action}
use Rattle.gov_actions.specs.declared.action.Action.TheVariants.{UpdateCommittee}
use Rattle.gov_actions.specs.declared.state.Committee.{Committee}
use Rattle.gov_actions.specs.declared.state.HotState.{HotState}
use Rattle.gov_actions.specs.declared.state.HotState.TheVariants.{Hot, Resigned}
use Rattle.gov_model.specs.Sides.{members_of}

-- the entry is this hot key
abbrev pub is_hot_key : Credential → HotState → Bool
is_hot_key c (Hot key) = same_credential key c
is_hot_key c Resigned = false

-- some cold key has this hot key
abbrev pub is_named : List (Credential × HotState) → Credential → Bool
is_named hot c = list_any (λ h. is_hot_key c h.1) hot

-- a member of the committee
abbrev pub is_member : Option Committee → Credential → Bool
is_member committee cold = list_any (λ m. same_credential m.0 cold) (members_of committee)

-- an UpdateCommittee adds the cold key
abbrev pub adds_member : Credential → Action → Bool
adds_member c (UpdateCommittee previous remove add threshold) = list_any (λ m. same_credential c m.0) add
adds_member c _ = false

-- the hot keys and resignations of members
abbrev pub of_members : Option Committee → List (Credential × HotState) → List (Credential × HotState)
of_members committee hot = entries_where (λ cold s. is_member committee cold) hot
