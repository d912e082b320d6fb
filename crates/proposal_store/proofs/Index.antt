-- What the index of children has of a proposal.
use Rattle.std.proofs.Common.{◌≡◌, true, false, cond, ◌&&◌, List, [], ◌∷◌, ◌++◌, Option, Some, unwrap_or, if◌then◌else◌, append-nil, refl, ap, sym, ◌∙◌}
use Rattle.std.specs.Ordering.{eq_by_cmp}
use Rattle.gov_ids.specs.declared.ActionId.{ActionId}
use Rattle.gov_ids.specs.Same.{same_action}
use Rattle.gov_actions.specs.declared.action.Proposal.{Proposal}
use Rattle.gov_actions.specs.declared.action.Purpose.{Purpose}
use Rattle.gov_actions.specs.Kinds.{purpose_of, previous_of, same_purpose}
use Rattle.gov_model.specs.Ratified.{ids_of}
use Rattle.gov_model.specs.Proposals.{children_of, is_child}
use Rattle.maps.specs.Words.{holds, same_option}
use Rattle.proposal_store.specs.declared.families.Parent.{Parent}
use Rattle.proposal_store.specs.Families.{parent_cmp}
use Rattle.proposal_store.proofs.Parents.{parent_same}

-- with one more where the look-up finds the parent
pub one_more : (parent q : Parent) (id : ActionId) (ids : List ActionId) (was : Option (List ActionId)) → (eq_by_cmp parent_cmp parent q ≡ true → unwrap_or was [] ≡ ids)
    → unwrap_or (cond (eq_by_cmp parent_cmp parent q) (Some (ids ++ id ∷ [])) was) [] ≡ (if eq_by_cmp parent_cmp parent q then unwrap_or was [] ++ id ∷ [] else unwrap_or was [])
one_more parent q id ids was h =
    elim (eq_by_cmp parent_cmp parent q) as (λ b. (b ≡ true → unwrap_or was [] ≡ ids) → unwrap_or (cond b (Some (ids ++ id ∷ [])) was) [] ≡ cond b (unwrap_or was [] ++ id ∷ []) (unwrap_or was [])) [
      | true ↦ λ h. ap (λ (l : List ActionId). l ++ id ∷ []) (sym (h refl))
      | false ↦ λ h. refl
    ] h

-- a proposal is a child of what it follows, and of no other
pub is_parent : (p : Proposal) (purpose : Purpose) (previous : Option ActionId) (q : Parent) → purpose_of p.action ≡ Some purpose → previous ≡ previous_of p.action
    → eq_by_cmp parent_cmp (record { purpose = purpose; previous = previous }) q ≡ is_child q.purpose q.previous p
is_parent p purpose previous q h follows =
    (λ i. eq_by_cmp parent_cmp (record { purpose = purpose; previous = follows i }) q)
    ∙ parent_same (record { purpose = purpose; previous = previous_of p.action }) q
    ∙ ap (λ (o : Option Purpose). holds same_purpose o q.purpose && same_option same_action (previous_of p.action) q.previous) (sym h)

-- and is noted as one
pub noted_by : (p : Proposal) (purpose : Purpose) (previous : Option ActionId) (id : ActionId) (q : Parent) (l : List ActionId) → purpose_of p.action ≡ Some purpose → previous ≡ previous_of p.action → id ≡ p.id
    → (if eq_by_cmp parent_cmp (record { purpose = purpose; previous = previous }) q then l ++ id ∷ [] else l) ≡ l ++ children_of q.purpose q.previous (p ∷ [])
noted_by p purpose previous id q l h follows is =
    (λ i. cond (is_parent p purpose previous q h follows i) (l ++ is i ∷ []) l)
    ∙ elim (is_child q.purpose q.previous p) as (λ b. cond b (l ++ p.id ∷ []) l ≡ l ++ ids_of (cond b (p ∷ []) [])) [
      | true ↦ refl
      | false ↦ sym (append-nil l)
    ]
