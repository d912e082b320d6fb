-- What the store promises of its parts.
use Rattle.std.specs.Prelude.{◌≡◌, ℕ, Bool, not, List}
use Rattle.std.specs.List.{AllByRecursion, IsDistinct}
use Rattle.std.specs.Map.{values_of}
use Rattle.gov_ids.specs.declared.ActionId.{ActionId}
use Rattle.gov_ids.specs.declared.Credential.{Credential}
use Rattle.gov_ids.specs.Orders.{action_id_cmp, voter_cmp}
use Rattle.gov_ids.specs.Same.{same_action}
use Rattle.gov_actions.specs.declared.action.Proposal.{Proposal}
use Rattle.gov_model.specs.Ratified.{ids_of}
use Rattle.gov_model.specs.Proposals.{children_of, deposits_of}
use Rattle.maps.specs.Maps.{IsMap, has_member}
use Rattle.proposal_store.specs.declared.families.Parent.{Parent}
use Rattle.proposal_store.specs.Added.{AreCounted}
use Rattle.proposal_store.specs.Families.{ids_at}

-- each proposal is at its id
abbrev pub AllKeyed : List (ActionId × Proposal) → Type 0
AllKeyed es = AllByRecursion (λ (e : ActionId × Proposal). e.0 ≡ e.1.id) es

-- the votes of each proposal are in order of voter, each voter once
abbrev pub AllOrdered : List Proposal → Type 0
AllOrdered ps = AllByRecursion (λ (p : Proposal). IsMap voter_cmp p.votes) ps

-- each proposal is at its id, each id once; the index has the children of each proposal;
-- the counts are those of the cold keys that they add; the sum is that of the deposits
pub record IsStore (entries : List (ActionId × Proposal)) (index : List (Parent × List ActionId)) (counts : List (Credential × ℕ)) (sum : ℕ) : Type 0 where
  pub keyed : AllKeyed entries
  pub distinct : IsDistinct same_action (ids_of (values_of entries))
  pub children : (q : Parent) → ids_at index q ≡ children_of q.purpose q.previous (values_of entries)
  pub added : AreCounted counts (values_of entries)
  pub deposits : sum ≡ deposits_of (values_of entries)
  pub ordered : AllOrdered (values_of entries)

-- whether the id of a proposal is in the set
abbrev pub is_in : List ActionId → Proposal → Bool
is_in set p = has_member action_id_cmp set p.id

-- whether it is not
abbrev pub is_out : List ActionId → Proposal → Bool
is_out set p = not (has_member action_id_cmp set p.id)
