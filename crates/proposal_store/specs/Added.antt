-- The cold keys that live proposals add to the committee, and their counts.
-- (GOVCERT of the formal specification; the counts are own)
use Rattle.std.specs.Prelude.{◌≡◌, ℕ, Bool, List, [], sum_by, unwrap_or}
use Rattle.std.specs.List.{count_by, list_any}
use Rattle.gov_actions.specs.declared.action.Action.{Action}
use Rattle.gov_actions.specs.declared.action.Action.TheVariants.{UpdateCommittee}
use Rattle.gov_actions.specs.declared.action.Proposal.{Proposal}
use Rattle.gov_ids.specs.declared.Credential.{Credential}
use Rattle.gov_ids.specs.Orders.{credential_cmp}
use Rattle.gov_ids.specs.Same.{same_credential}
use Rattle.gov_model.specs.Hot.{adds_member}
use Rattle.maps.specs.Maps.{value_at}

-- whether a live proposal adds the cold key
abbrev pub is_proposed : Credential → List Proposal → Bool
is_proposed c ps = list_any (λ (p : Proposal). adds_member c p.action) ps

-- the members that an action adds
abbrev pub members_added : Action → List (Credential × ℕ)
members_added (UpdateCommittee previous remove add threshold) = add
members_added _ = []

-- how often a cold key is one of these new members
abbrev pub count_among : Credential → List (Credential × ℕ) → ℕ
count_among c add = count_by (λ (m : Credential × ℕ). same_credential c m.0) add

-- how often live proposals add a cold key
abbrev pub times_added : Credential → List Proposal → ℕ
times_added c ps = sum_by (λ (p : Proposal). count_among c (members_added p.action)) ps

-- the count of a cold key, 0 where there is none
abbrev pub count_at : List (Credential × ℕ) → Credential → ℕ
count_at counts c = unwrap_or (value_at credential_cmp counts c) 0

-- each cold key has its count
abbrev pub AreCounted : List (Credential × ℕ) → List Proposal → Type 0
AreCounted counts ps = (c : Credential) → count_at counts c ≡ times_added c ps
