-- The removal of proposals moves the pots by its flows, where each proposal has an id of its own.
use Rattle.std.proofs.Common.{◌≡◌, ℕ, ◌+◌, List, [], ◌∷◌, Bool, true, false, cond, not, ◌&&◌, ◌||◌, map, filter, sum_by, refl, ap, sym, ◌∙◌, arith}
use Rattle.std.specs.List.{AllByRecursion, IsDistinct, list_any}
use Rattle.std.specs.Cmp.{IsEquivalence}
use Rattle.std.proofs.lemmas.Cmp.{eq_by_cmp_equiv}
use Rattle.maps.proofs.Credits.{sum-parted}
use Rattle.gov_ids.specs.declared.ActionId.{ActionId}
use Rattle.gov_ids.specs.declared.Credential.{Credential}
use Rattle.gov_ids.specs.Same.{same_action}
use Rattle.gov_ids.proofs.Totals.{action_id_total}
use Rattle.gov_actions.specs.declared.action.Proposal.{Proposal}
use Rattle.gov_model.specs.Kept.{kept_of}
use Rattle.gov_model.specs.Laws.{HaveDistinctIds}
use Rattle.gov_model.specs.Proposals.{others_than}
use Rattle.gov_model.specs.Ratified.{expired_of, ids_of, is_one_of, ratified_of}
use Rattle.ledger_model.proofs.SameSums.{sum_by-map}
use Rattle.ledger_model.specs.Ledger.{Ledger}
use Rattle.ledger_model.specs.Supply.{pots_of}
use Rattle.ledger_model.specs.Flows.{Pot, outputs, deposits, rewards, fees, donations, treasury, reserves, hand, same_pot}
use Rattle.ledger_model.specs.Moves.{IsMovedBy, held_in}
use Rattle.run_model.specs.Boundary.{paid_out}
use Rattle.run_model.specs.BoundaryFlows.{payment}
use Rattle.epoch_balance.specs.StepLaws.{CutsBalance, HasAccounts, RemovalsBalance}
use Rattle.epoch_balance.proofs.Payments.{amount_of, refunds_move}

same_equiv : IsEquivalence same_action
same_equiv = eq_by_cmp_equiv action_id_total

-- the id is none of these
abbrev IsNew : ActionId → List Proposal → Type 0
IsNew id ps = AllByRecursion (λ q. same_action id q ≡ false) (ids_of ps)

new_is_false : (id : ActionId) (ps : List Proposal) → IsNew id ps → list_any (same_action id) (ids_of ps) ≡ false
new_is_false id [] h = refl
new_is_false id (p ∷ ps) h = ap (λ b. b || list_any (same_action id) (ids_of ps)) h.0 ∙ new_is_false id ps h.1

module _ (r : Proposal → Bool) where
  new-filter : (id : ActionId) (ps : List Proposal) → IsNew id ps → IsNew id (filter r ps)
  new-filter id [] h = tt
  new-filter id (p ∷ ps) h = elim (r p) as (λ b. IsNew id (cond b (p ∷ filter r ps) (filter r ps))) [
    | true ↦ (h.0, new-filter id ps h.1)
    | false ↦ new-filter id ps h.1
  ]

  -- each proposal is among those that pass exactly where it passes
  abbrev AreTold : List Proposal → List Proposal → Type 0
  AreTold ids xs = AllByRecursion (λ p. is_one_of (ids_of ids) p ≡ r p) xs

  -- one more that is none of xs
  more : (x : Proposal) (f xs : List Proposal) (b : Bool) → IsNew x.id xs → AreTold f xs → AreTold (cond b (x ∷ f) f) xs
  more x f [] b n t = tt
  more x f (y ∷ xs) true n t = (ap (λ c. c || is_one_of (ids_of f) y) (same_equiv.symm y.id x.id ∙ n.0) ∙ t.0, more x f xs true n.1 t.1)
  more x f (y ∷ xs) false n t = t

  first : (x : Proposal) (f : List Proposal) (b : Bool) → r x ≡ b → IsNew x.id f → is_one_of (ids_of (cond b (x ∷ f) f)) x ≡ b
  first x f true e n = ap (λ c. c || is_one_of (ids_of f) x) (same_equiv.refl x.id)
  first x f false e n = new_is_false x.id f n

  told : (xs : List Proposal) → HaveDistinctIds xs → AreTold (filter r xs) xs
  unfolding IsDistinct
  told [] d = tt
  told (x ∷ xs) d = (first x (filter r xs) (r x) refl (new-filter x.id xs d.0), more x (filter r xs) xs (r x) d.0 (told xs d.1))

  filter-told : (p : Proposal → Bool) (xs : List Proposal) → AllByRecursion (λ x. p x ≡ r x) xs → filter p xs ≡ filter r xs
  filter-told p [] h = refl
  filter-told p (x ∷ xs) h = ap (λ (list : List Proposal). cond (p x) (x ∷ list) list) (filter-told p xs h.1) ∙ ap (λ b. cond b (x ∷ filter r xs) (filter r xs)) h.0

  -- those whose id is among those that pass are those that pass
  filter-self : (xs : List Proposal) → HaveDistinctIds xs → filter (is_one_of (ids_of (filter r xs))) xs ≡ filter r xs
  filter-self xs d = filter-told (is_one_of (ids_of (filter r xs))) xs (told xs d)

filter-twice : (p q : Proposal → Bool) (xs : List Proposal) → filter q (filter p xs) ≡ filter (λ x. p x && q x) xs
filter-twice p q [] = refl
filter-twice p q (x ∷ xs) = elim (p x) as (λ b. filter q (cond b (x ∷ filter p xs) (filter p xs)) ≡ cond (b && q x) (x ∷ filter (λ y. p y && q y) xs) (filter (λ y. p y && q y) xs)) [
  | true ↦ ap (λ (list : List Proposal). cond (q x) (x ∷ list) list) (filter-twice p q xs)
  | false ↦ filter-twice p q xs
]

abbrev deposit_of : Proposal → ℕ
deposit_of p = p.deposit

-- those whose id is among what a filter of a filter keeps are what it keeps
pub kept-self : (p q : Proposal → Bool) (xs : List Proposal) → HaveDistinctIds xs → filter (is_one_of (ids_of (filter q (filter p xs)))) xs ≡ filter q (filter p xs)
kept-self p q xs d =
    let twice : filter q (filter p xs) ≡ filter (λ x. p x && q x) xs = filter-twice p q xs in
    ap (λ (list : List Proposal). filter (is_one_of (ids_of list)) xs) twice ∙ filter-self (λ x. p x && q x) xs d ∙ sym twice

-- what a filter of a filter keeps, and the others, are all
parted : (p q : Proposal → Bool) (xs : List Proposal) → HaveDistinctIds xs
    → sum_by deposit_of (filter q (filter p xs)) + sum_by deposit_of (filter (λ x. not (is_one_of (ids_of (filter q (filter p xs))) x)) xs) ≡ sum_by deposit_of xs
parted p q xs d =
    let all : sum_by deposit_of (filter (is_one_of (ids_of (filter q (filter p xs)))) xs) + sum_by deposit_of (filter (λ x. not (is_one_of (ids_of (filter q (filter p xs))) x)) xs) ≡ sum_by deposit_of xs =
    sum-parted deposit_of (is_one_of (ids_of (filter q (filter p xs)))) xs in
    omega (arith, all, ap (λ (list : List Proposal). sum_by deposit_of list) (kept-self p q xs d))

module _ (l : Ledger) (enacted expired : List ActionId) (m : HasAccounts l) (d : HaveDistinctIds l.proposals) where
  -- those that stay
  abbrev kept : List Proposal
  kept = kept_of l.proposals enacted expired l.state.last

  -- the deposits of the others
  abbrev refunds : List (Credential × ℕ)
  refunds = map (λ (p : Proposal). (p.account.cred, p.deposit)) (others_than (ids_of kept) l.proposals)

  -- the ledger with the kept proposals alone
  abbrev cut : Ledger
  cut = record l { proposals = kept }

  proposals_parted : sum_by deposit_of kept + sum_by amount_of refunds ≡ sum_by deposit_of l.proposals
  proposals_parted =
      let parts : sum_by deposit_of kept + sum_by deposit_of (others_than (ids_of kept) l.proposals) ≡ sum_by deposit_of l.proposals = parted _ _ l.proposals d in
      omega (arith, parts, sum_by-map amount_of (λ (p : Proposal). (p.account.cred, p.deposit)) (others_than (ids_of kept) l.proposals))

  -- it lacks the deposits of the others
  cut_pots : (p : Pot) → held_in p (pots_of cut) + cond (same_pot deposits p) (sum_by amount_of refunds) 0 ≡ held_in p (pots_of l)
  cut_pots outputs = omega arith
  cut_pots deposits = omega (arith, proposals_parted)
  cut_pots rewards = omega arith
  cut_pots fees = omega arith
  cut_pots donations = omega arith
  cut_pots treasury = omega arith
  cut_pots reserves = omega arith
  cut_pots hand = omega arith

  cut_moves : IsMovedBy (map (payment deposits l) refunds) (pots_of l) (pots_of (paid_out refunds cut))
  cut_moves = refunds_move l cut refunds m (λ c. refl) cut_pots

pub cuts_balance : CutsBalance
cuts_balance l enacted expired m d = cut_moves l enacted expired m d

pub removals_balance : RemovalsBalance
removals_balance w m d = cut_moves w.ledger (ratified_of w.frozen) (expired_of w.frozen (ratified_of w.frozen)) m d
