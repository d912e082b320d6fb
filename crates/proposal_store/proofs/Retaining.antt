-- A proposal that comes after a part of those before it was kept.
use Rattle.std.proofs.Common.{◌≡◌, ◌+◌, ◌≤◌, Bool, true, false, cond, List, [], ◌∷◌, ◌++◌, filter, Some, None, refl, ap, sym, ◌∙◌, append_assoc, arith}
use Rattle.std.specs.List.{AllByRecursion, IsDistinct}
use Rattle.std.proofs.lemmas.List.Sums.{sum_by-append, sum_by-cons}
use Rattle.gov_ids.specs.declared.ActionId.{ActionId}
use Rattle.gov_ids.specs.Orders.{action_id_cmp, voter_cmp}
use Rattle.gov_ids.proofs.Totals.{action_id_total}
use Rattle.gov_ids.specs.Same.{same_action}
use Rattle.gov_actions.specs.declared.action.Proposal.{Proposal}
use Rattle.gov_model.specs.Ratified.{ids_of, is_one_of}
use Rattle.gov_model.specs.Proposals.{proposal_of, deposits_of}
use Rattle.maps.proofs.Sets.{has_member-in_order}
use Rattle.maps.specs.Maps.{IsMap, in_order, has_member}
use Rattle.proposal_store.specs.Store.{AllOrdered, is_in}

-- what holds of each id holds of p's
id_at : (P : ActionId → Type 0) (front back : List Proposal) (p : Proposal) → AllByRecursion P (ids_of (front ++ p ∷ back)) → P p.id
id_at P [] back p h = h.0
id_at P (x ∷ front) back p h = id_at P front back p h.1

-- it is none of those before it
pub fresh : (front back : List Proposal) (p : Proposal) → IsDistinct same_action (ids_of (front ++ p ∷ back)) → proposal_of p.id front ≡ None
unfolding IsDistinct
fresh [] back p d = refl
fresh (x ∷ front) back p d = ap (λ b. cond b (Some x) (proposal_of p.id front)) (id_at (λ id. same_action x.id id ≡ false) front back p d.0) ∙ fresh front back p d.1

-- a part paid no more than all
pub part_paid : (f : Proposal → Bool) (ps : List Proposal) → deposits_of (filter f ps) ≤ deposits_of ps
part_paid f [] = omega arith
part_paid f (x ∷ ps) =
    elim (f x) as (λ b. deposits_of (cond b (x ∷ filter f ps) (filter f ps)) ≤ deposits_of (x ∷ ps)) [
      | true ↦ omega (arith, part_paid f ps, sum_by-cons (λ (q : Proposal). q.deposit) x ps, sum_by-cons (λ (q : Proposal). q.deposit) x (filter f ps))
      | false ↦ omega (arith, part_paid f ps, sum_by-cons (λ (q : Proposal). q.deposit) x ps)
    ]

-- and those before it, with p, no more than all
pub paid_at : (front back : List Proposal) (p : Proposal) → deposits_of front + p.deposit ≤ deposits_of (front ++ p ∷ back)
paid_at front back p = omega (arith, sum_by-append (λ (q : Proposal). q.deposit) front (p ∷ back), sum_by-cons (λ (q : Proposal). q.deposit) p back)

-- its votes are in order, as those of all
pub ordered_at : (front back : List Proposal) (p : Proposal) → AllOrdered (front ++ p ∷ back) → IsMap voter_cmp p.votes
ordered_at [] back p h = h.0
ordered_at (x ∷ front) back p h = ordered_at front back p h.1

-- votes are in order in a part
pub ordered_filter : (f : Proposal → Bool) (ps : List Proposal) → AllOrdered ps → AllOrdered (filter f ps)
ordered_filter f [] h = tt
ordered_filter f (x ∷ ps) h = elim (f x) as (λ b. AllOrdered (cond b (x ∷ filter f ps) (filter f ps))) [ true ↦ (h.0, ordered_filter f ps h.1) | false ↦ ordered_filter f ps h.1 ]

-- what passes goes behind those before it
pub taken : (f : Proposal → Bool) (p : Proposal) (front ps all : List Proposal) → f p ≡ true → front ++ filter f (p ∷ ps) ≡ all → (front ++ p ∷ []) ++ filter f ps ≡ all
taken f p front ps all passes h = append_assoc front (p ∷ []) (filter f ps) ∙ sym (ap (λ b. front ++ cond b (p ∷ filter f ps) (filter f ps)) passes) ∙ h

-- and what does not is passed over
pub passed_over : (f : Proposal → Bool) (p : Proposal) (front ps all : List Proposal) → f p ≡ false → front ++ filter f (p ∷ ps) ≡ all → front ++ filter f ps ≡ all
passed_over f p front ps all fails h = sym (ap (λ b. front ++ cond b (p ∷ filter f ps) (filter f ps)) fails) ∙ h

-- a set of keys tells what the list of them tells
pub listed : (ids set : List ActionId) (p : Proposal) → set ≡ in_order action_id_cmp ids → is_in set p ≡ is_one_of ids p
listed ids set p h = ap (λ (keys : List ActionId). has_member action_id_cmp keys p.id) h ∙ has_member-in_order action_id_total ids p.id
