-- A proposal of a list among those before it and behind it.
use Rattle.std.proofs.Common.{◌≡◌, ◌+◌, ◌<◌, ◌^◌, false, cond, List, [], ◌∷◌, ◌++◌, Some, None, refl, ap, sym, subst, ◌∙◌, arith}
use Rattle.std.specs.List.{AllByRecursion, IsDistinct}
use Rattle.std.proofs.lemmas.List.Sums.{sum_by-append, sum_by-cons}
use Rattle.gov_actions.specs.declared.action.Proposal.{Proposal}
use Rattle.gov_ids.specs.declared.ActionId.{ActionId}
use Rattle.gov_ids.specs.Orders.{voter_cmp}
use Rattle.gov_ids.specs.Same.{same_action}
use Rattle.gov_model.specs.Laws.{HaveDistinctIds}
use Rattle.gov_model.specs.Proposals.{deposits_of, proposal_of}
use Rattle.gov_model.specs.Ratified.{ids_of}
use Rattle.maps.specs.Maps.{IsMap}
use Rattle.proposal_store.specs.Store.{AllOrdered}

module _ (p : Proposal) (rest : List Proposal) where
  -- an id that is not the same as any of these is not the same as its id
  apart_from : (id : ActionId) (ps : List Proposal) → AllByRecursion (λ q. same_action id q ≡ false) (ids_of (ps ++ p ∷ rest)) → same_action id p.id ≡ false
  apart_from id [] h = h.0
  apart_from id (x ∷ ps) h = apart_from id ps h.1

  not_before : (ps : List Proposal) → HaveDistinctIds (ps ++ p ∷ rest) → proposal_of p.id ps ≡ None
  unfolding IsDistinct
  not_before [] h = refl
  not_before (x ∷ ps) h = ap (λ b. cond b (Some x) (proposal_of p.id ps)) (apart_from x.id ps h.0) ∙ not_before ps h.1

  ordered_here : (ps : List Proposal) → AllOrdered (ps ++ p ∷ rest) → IsMap voter_cmp p.votes
  ordered_here [] h = h.0
  ordered_here (x ∷ ps) h = ordered_here ps h.1

module _ (ps : List Proposal) (p : Proposal) (rest all : List Proposal) (is : ps ++ p ∷ rest ≡ all) where
  -- its id is not among those before it, where each has an id of its own
  pub absent_before : HaveDistinctIds all → proposal_of p.id ps ≡ None
  absent_before h = not_before p rest ps (subst HaveDistinctIds (sym is) h)

  -- its deposit and those before it are no more than all
  pub room_before : deposits_of all < 2 ^ 64 → deposits_of ps + p.deposit < 2 ^ 64
  room_before h = omega (arith, h, ap deposits_of is, sum_by-append (λ (x : Proposal). x.deposit) ps (p ∷ rest), sum_by-cons (λ (x : Proposal). x.deposit) p rest)

  -- its votes are in order
  pub ordered_at : AllOrdered all → IsMap voter_cmp p.votes
  ordered_at h = ordered_here p rest ps (subst AllOrdered (sym is) h)
