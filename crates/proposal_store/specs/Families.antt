-- The index of children, by what they follow.
use Rattle.std.specs.Prelude.{◌-◌, List, [], length, take, unwrap_or}
use Rattle.std.specs.declared.cmp.Ordering.{Ordering}
use Rattle.gov_ids.specs.declared.ActionId.{ActionId}
use Rattle.maps.specs.Maps.{value_at}
use Rattle.proposal_store.specs.declared.families.Parent.{Parent}
use Rattle.proposal_store.specs.contracts.families.ParentOrd.TheImpl as parent_ord

-- the order of the index
abbrev pub parent_cmp : Parent → Parent → Ordering
parent_cmp = parent_ord.cmp-value.it

-- the ids in the index, in order of submission
abbrev pub ids_at : List (Parent × List ActionId) → Parent → List ActionId
ids_at index k = unwrap_or (value_at parent_cmp index k) []

-- the ids without the last one, if there is one
abbrev pub all_but_last : {A : Type 0} → List A → List A
all_but_last xs = take (length xs - 1) xs
