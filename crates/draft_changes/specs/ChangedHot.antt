-- The hot entries that a draft changed, as contracts see them. (Own)
use Rattle.std.specs.Prelude.{◌≡◌, List, []}
use Rattle.gov_ids.specs.declared.Credential.{Credential}
use Rattle.gov_ids.specs.Orders.{credential_cmp}
use Rattle.gov_actions.specs.declared.state.HotState.{HotState}
use Rattle.draft_changes.specs.Covered.{covered_entries}

-- the changed entries, and the entries of the ledger that they cover
pub record ChangedHot : Type 0 where
  pub entries : List (Credential × HotState)
  pub covered : List (Credential × HotState)

-- nothing is changed
abbrev pub none_changed : ChangedHot
none_changed = record { entries = []; covered = [] }

-- the entries whose cold key is among the changed ones
abbrev pub covered_by : List (Credential × HotState) → List (Credential × HotState) → List (Credential × HotState)
covered_by changed hot = covered_entries credential_cmp changed hot

-- the covered entries are entries of this ledger
abbrev pub IsOver : List (Credential × HotState) → ChangedHot → Type 0
IsOver hot a = a.covered ≡ covered_by a.entries hot
