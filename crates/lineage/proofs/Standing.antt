-- Proposals that stand in a list, and their ids.
use Rattle.std.proofs.Common.{◌≡◌, Bool, true, false, ◌&&◌, ◌||◌, cond, List, [], ◌∷◌, Option, Some, None, filter, inl, inr, refl, sym, ap, subst, ◌∙◌, Contains}
use Rattle.std.proofs.lemmas.Bool.{and_parts, or_right}
use Rattle.std.specs.List.{AllByRecursion}
use Rattle.std.proofs.lemmas.Cmp.{eq_by_cmp_equiv}
use Rattle.gov_actions.specs.contracts.action.PurposeOrd.TheImpl.Laws as order
use Rattle.gov_actions.specs.declared.action.Proposal.{Proposal}
use Rattle.gov_actions.specs.declared.action.Purpose.{Purpose}
use Rattle.gov_actions.specs.declared.action.Purpose.TheVariants.{Committee, Constitution, HardFork, Parameters}
use Rattle.gov_actions.specs.Kinds.{previous_of, purpose_of, same_purpose}
use Rattle.gov_ids.specs.declared.ActionId.{ActionId}
use Rattle.gov_ids.specs.Same.{same_action}
use Rattle.gov_model.proofs.Chains.{StandsIn, is_contained, stands_in, unique as one_of}
use Rattle.gov_model.proofs.KeptOf.{from_filter, into_filter}
use Rattle.gov_model.proofs.Sames.{purpose_same}
use Rattle.gov_model.specs.Kept.{is_parent}
use Rattle.gov_model.specs.Laws.{HaveDistinctIds}
use Rattle.gov_model.specs.Proposals.{is_child}
use Rattle.gov_model.specs.Ratified.{ids_of}
use Rattle.maps.specs.Words.{among, holds, same_option}
use Rattle.lineage.proofs.Adopting.{same_back}

-- two proposals of one id are one
pub unique : (ps : List Proposal) (x y : Proposal) → HaveDistinctIds ps → Contains ps x → Contains ps y → same_action x.id y.id ≡ true → x ≡ y
unique ps x y own there here e = one_of ps x y own (stands_in ps x there) (stands_in ps y here) e

-- ---- an id among those of what passes a test

-- a proposal that stands among them, passes, and has the id
abbrev pub HasId : (Proposal → Bool) → List Proposal → ActionId → Type 0
HasId p xs id = (b : Proposal) × Contains xs b × (p b ≡ true) × (same_action id b.id ≡ true)

module _ (p : Proposal → Bool) where
  id_stands : (xs : List Proposal) (id : ActionId) → among same_action id (ids_of xs) ≡ true → (b : Proposal) × StandsIn b xs × (same_action id b.id ≡ true)
  id_stands [] id e = cc
  id_stands (x ∷ xs) id e =
      elim (same_action id x.id) as (λ b. same_action id x.id ≡ b → (b || among same_action id (ids_of xs)) ≡ true → (b : Proposal) × StandsIn b (x ∷ xs) × (same_action id b.id ≡ true)) [
        | true ↦ λ is e. (x, inl refl, is)
        | false ↦ λ is e. let later = id_stands xs id e in (later.0, inr later.1, later.2)
      ] refl e

  pub has_id : (xs : List Proposal) (id : ActionId) → among same_action id (ids_of (filter p xs)) ≡ true → HasId p xs id
  has_id xs id e =
      let there = id_stands (filter p xs) id e in
      let passes = from_filter p xs there.0 there.1 in (there.0, is_contained xs there.0 passes.0, passes.1, there.2)

  any_here : (xs : List Proposal) (id : ActionId) (b : Proposal) → StandsIn b xs → same_action id b.id ≡ true → among same_action id (ids_of xs) ≡ true
  any_here [] id b stands same = absurd stands
  any_here (x ∷ xs) id b (inl is) same = ap (λ t. t || among same_action id (ids_of xs)) (subst (λ (q : Proposal). same_action id q.id ≡ true) (sym is) same)
  any_here (x ∷ xs) id b (inr later) same = or_right (same_action id x.id) _ (any_here xs id b later same)

  pub id_among : (xs : List Proposal) (id : ActionId) (b : Proposal) → Contains xs b → p b ≡ true → same_action id b.id ≡ true → among same_action id (ids_of (filter p xs)) ≡ true
  id_among xs id b there passes same = any_here (filter p xs) id b (into_filter p xs b (stands_in xs b there) passes) same

  -- what holds of the id of each that stands there and passes holds of all their ids
  pub each_id : (Q : ActionId → Type 0) (xs : List Proposal) → ((b : Proposal) → StandsIn b xs → p b ≡ true → Q b.id) → AllByRecursion Q (ids_of (filter p xs))
  each_id Q [] f = tt
  each_id Q (x ∷ xs) f =
      elim (p x) as (λ b. p x ≡ b → AllByRecursion Q (ids_of (cond b (x ∷ filter p xs) (filter p xs)))) [
        | true ↦ λ e. (f x (inl refl) e, each_id Q xs (λ b there. f b (inr there)))
        | false ↦ λ e. each_id Q xs (λ b there. f b (inr there))
      ] refl

-- ---- children

pub purpose_is : (a b : Purpose) → same_purpose a b ≡ true → a ≡ b
purpose_is Committee Committee e = refl
purpose_is Committee Constitution e = cc
purpose_is Committee HardFork e = cc
purpose_is Committee Parameters e = cc
purpose_is Constitution Committee e = cc
purpose_is Constitution Constitution e = refl
purpose_is Constitution HardFork e = cc
purpose_is Constitution Parameters e = cc
purpose_is HardFork Committee e = cc
purpose_is HardFork Constitution e = cc
purpose_is HardFork HardFork e = refl
purpose_is HardFork Parameters e = cc
purpose_is Parameters Committee e = cc
purpose_is Parameters Constitution e = cc
purpose_is Parameters HardFork e = cc
purpose_is Parameters Parameters e = refl

swapped : (a b : Bool) → (a && b) ≡ (b && a)
swapped true true = refl
swapped true false = refl
swapped false true = refl
swapped false false = refl

same_previous : (o : Option ActionId) (id : ActionId) → same_option same_action o (Some id) ≡ holds same_action o id
same_previous None id = refl
same_previous (Some x) id = same_back id x

purpose_back : (a b : Purpose) → same_purpose a b ≡ same_purpose b a
purpose_back a b =
    sym (purpose_same a b) ∙ order.matches_eq-law a b ∙ (eq_by_cmp_equiv order.total-law).symm a b ∙ sym (order.matches_eq-law b a) ∙ purpose_same b a

same_of_some : (o : Option Purpose) (u : Purpose) → holds same_purpose o u ≡ same_option same_purpose o (Some u)
same_of_some None u = refl
same_of_some (Some x) u = purpose_back x u

-- a child of q is what names it
pub child_is : (a q : Proposal) (u : Purpose) → purpose_of q.action ≡ Some u → is_child u (Some q.id) a ≡ is_parent a q
child_is a q u is =
    (λ i. same_of_some (purpose_of a.action) u i && same_previous (previous_of a.action) q.id i)
    ∙ ap (λ (o : Option Purpose). same_option same_purpose (purpose_of a.action) o && holds same_action (previous_of a.action) q.id) (sym is)
    ∙ swapped (same_option same_purpose (purpose_of a.action) (purpose_of q.action)) (holds same_action (previous_of a.action) q.id)

held : (o : Option Purpose) (u : Purpose) → holds same_purpose o u ≡ true → o ≡ Some u
held None u e = cc
held (Some x) u e = ap Some (purpose_is x u e)

-- it has the purpose
pub child_purpose : (a : Proposal) (u : Purpose) (previous : Option ActionId) → is_child u previous a ≡ true → purpose_of a.action ≡ Some u
child_purpose a u previous e = held (purpose_of a.action) u (and_parts _ (same_option same_action (previous_of a.action) previous) e).0

no_purpose : (o : Option Purpose) → same_option same_purpose o None ≡ true → o ≡ None
no_purpose None e = refl
no_purpose (Some x) e = cc

-- what names a proposal without a purpose has none
pub no_parent : (a q : Proposal) → purpose_of q.action ≡ None → is_parent a q ≡ true → purpose_of a.action ≡ None
no_parent a q none e =
    no_purpose (purpose_of a.action)
    (ap (λ (o : Option Purpose). same_option same_purpose (purpose_of a.action) o) (sym none) ∙ (and_parts (holds same_action (previous_of a.action) q.id) _ e).1)
