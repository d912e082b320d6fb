-- How the proposals that stay are found: from those that need no other to what names them. (Own)
use Rattle.std.specs.Prelude.{◌≡◌, Bool, true, false, not, ◌&&◌, ◌||◌, List, [], ◌∷◌, ◌++◌, Option, Some, None, is_none, fold, Contains, if◌then◌else◌}
use Rattle.std.specs.List.{AllByRecursion, list_any}
use Rattle.gov_actions.specs.declared.action.Proposal.{Proposal}
use Rattle.gov_actions.specs.declared.action.Purpose.{Purpose}
use Rattle.gov_actions.specs.declared.state.LastIds.{LastIds}
use Rattle.gov_actions.specs.Kinds.{purpose_of}
use Rattle.gov_ids.specs.declared.ActionId.{ActionId}
use Rattle.gov_ids.specs.Orders.{action_id_cmp}
use Rattle.gov_ids.specs.Same.{same_action}
use Rattle.gov_model.specs.Kept.{IsKept, is_parent, names_last}
use Rattle.gov_model.specs.Laws.{HaveDistinctIds}
use Rattle.gov_model.specs.Ratified.{is_one_of}
use Rattle.maps.specs.Maps.{IsSet, has_member, with_key, without_member}

-- how far the search has come
pub record Reach : Type 0 where
  -- the ids of the proposals from which no chain is known yet, in order
  pub orphans : List ActionId
  -- the purposes and ids of those that stay, and whose children are still to be looked at
  pub pending : List (Purpose × ActionId)

-- the proposal is neither enacted nor expired
abbrev pub is_left : List ActionId → List ActionId → Proposal → Bool
is_left enacted expired a = not (is_one_of enacted a) && not (is_one_of expired a)

-- it stays without another one: it has no purpose, or names the last enacted action of its purpose
abbrev pub is_root : LastIds → Proposal → Bool
is_root last a = is_none (purpose_of a.action) || names_last last a

-- no chain is known from it yet
abbrev pub is_orphan : Reach → Proposal → Bool
is_orphan w a = has_member action_id_cmp w.orphans a.id

-- it is left, and no orphan
abbrev pub is_found : List ActionId → List ActionId → Reach → Proposal → Bool
is_found enacted expired w a = is_left enacted expired a && not (is_orphan w a)

-- its children are still to be looked at
abbrev pub is_pending : List (Purpose × ActionId) → ActionId → Bool
is_pending pending id = list_any (λ e. same_action id e.1) pending

-- an entry of its purpose, if it has one
abbrev pub entry_of : Option Purpose → ActionId → List (Purpose × ActionId)
entry_of None id = []
entry_of (Some purpose) id = (purpose, id) ∷ []

-- with one proposal more: a root is pending, and any other is an orphan
abbrev pub noted : LastIds → Reach → Proposal → Reach
noted last w a =
    if is_root last a then record w { pending = w.pending ++ entry_of (purpose_of a.action) a.id } else record w { orphans = with_key action_id_cmp a.id w.orphans }

-- with one proposal more, if it is left
abbrev pub noted_left : List ActionId → List ActionId → LastIds → Reach → Proposal → Reach
noted_left enacted expired last w a = if is_left enacted expired a then noted last w a else w

-- where the search starts
abbrev pub start_of : LastIds → List Proposal → Reach
start_of last rest = fold (noted last) (record { orphans = []; pending = [] }) rest

-- a child of a pending proposal has a chain, and is pending
abbrev pub adopted_one : Purpose → Reach → ActionId → Reach
adopted_one purpose w id =
    if has_member action_id_cmp w.orphans id then record { orphans = without_member action_id_cmp id w.orphans; pending = w.pending ++ (purpose, id) ∷ [] } else w

-- each of its children that is an orphan becomes pending
abbrev pub adopted : Purpose → List ActionId → Reach → Reach
adopted purpose children w = fold (adopted_one purpose) w children

-- a pending entry is that of a proposal that is no orphan
abbrev pub IsPending : List Proposal → List ActionId → Purpose × ActionId → Type 0
IsPending rest orphans e =
    (q : Proposal) × Contains rest q × (purpose_of q.action ≡ Some e.0) × (q.id ≡ e.1) × (has_member action_id_cmp orphans e.1 ≡ false)

-- what holds at each step of the search over `ps`, of which `rest` are left
pub record IsWalk (ps rest : List Proposal) (last : LastIds) (w : Reach) : Type 0 where
  pub own : HaveDistinctIds ps
  pub part : (a : Proposal) → Contains rest a → Contains ps a
  pub ordered : IsSet action_id_cmp w.orphans
  pub left : (a : Proposal) → Contains ps a → is_orphan w a ≡ true → Contains rest a
  -- what is no orphan stays
  pub sound : (a : Proposal) → Contains rest a → is_orphan w a ≡ false → IsKept rest last a
  pub roots : (a : Proposal) → Contains rest a → is_root last a ≡ true → is_orphan w a ≡ false
  pub opened : AllByRecursion (IsPending rest w.orphans) w.pending
  -- a child of what is neither an orphan nor pending is no orphan
  pub closed : (a q : Proposal) → Contains rest a → Contains rest q → is_parent a q ≡ true → is_orphan w q ≡ false → is_pending w.pending q.id ≡ false →
      is_orphan w a ≡ false
