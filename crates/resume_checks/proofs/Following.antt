-- The purposes of the proposals so far, and what an action may follow among them.
use Rattle.std.proofs.Common.{◌≡◌, ℕ, ◌+◌, ◌<◌, List, [], ◌∷◌, ◌++◌, Bool, true, false, cond, ◌&&◌, ◌||◌, Option, Some, None, is_some, option_map, find, drop, get_or, length, take, refl, ap, sym, ◌∙◌, add-one}
use Rattle.std.specs.List.{list_all}
use Rattle.std.proofs.Math.Seq.{take-suc}
use Rattle.std.proofs.lemmas.List.{at_drop_more}
use Rattle.gov_ids.specs.declared.ActionId.{ActionId}
use Rattle.gov_ids.specs.Orders.{action_id_cmp}
use Rattle.gov_ids.specs.Same.{same_action}
use Rattle.gov_ids.proofs.Exacts.{action_id_exact}
use Rattle.gov_ids.proofs.Totals.{action_id_total}
use Rattle.gov_actions.specs.declared.action.Action.{Action}
use Rattle.gov_actions.specs.declared.action.Proposal.{Proposal}
use Rattle.gov_actions.specs.declared.action.Purpose.{Purpose}
use Rattle.gov_actions.specs.declared.state.LastIds.{LastIds}
use Rattle.gov_actions.specs.Kinds.{previous_of, purpose_of, same_purpose}
use Rattle.gov_model.specs.Lineage.{is_last_enacted, is_live_of, may_follow}
use Rattle.gov_model.specs.Proposals.{proposal_of}
use Rattle.maps.proofs.Lookups.{value_at-with_value}
use Rattle.maps.proofs.Ties.{same_key}
use Rattle.maps.specs.Maps.{has_key, value_at, with_value}
use Rattle.maps.specs.Words.{fronts_from, holds, none_or, or_else, some_and}
use Rattle.resume_checks.specs.Purposes.{follows_among, has_purpose, with_purpose}

-- the purpose of a proposal
abbrev pub purpose_in : Proposal → Option Purpose
purpose_in p = purpose_of p.action

-- at each id there is the purpose of the first proposal of that id
abbrev pub Knows : List (ActionId × Option Purpose) → List Proposal → Type 0
Knows es ps = (id : ActionId) → value_at action_id_cmp es id ≡ option_map purpose_in (proposal_of id ps)

-- ---- what may be followed

same_purposes : (purpose : Purpose) (o : Option Proposal) → some_and (λ (q : Option Purpose). holds same_purpose q purpose) (option_map purpose_in o) ≡ some_and (λ (p : Proposal). holds same_purpose (purpose_of p.action) purpose) o
same_purposes purpose None = refl
same_purposes purpose (Some p) = refl

module _ (es : List (ActionId × Option Purpose)) (ps : List Proposal) (h : Knows es ps) where
  live_by : (purpose : Purpose) (previous : Option ActionId) → some_and (has_purpose es purpose) previous ≡ some_and (is_live_of ps purpose) previous
  live_by purpose None = refl
  live_by purpose (Some id) = ap (some_and (λ (q : Option Purpose). holds same_purpose q purpose)) (h id) ∙ same_purposes purpose (proposal_of id ps)

  follows_by : (last : LastIds) (previous : Option ActionId) (o : Option Purpose) → none_or (λ purpose. is_last_enacted last purpose previous || some_and (has_purpose es purpose) previous) o
      ≡ none_or (λ purpose. is_last_enacted last purpose previous || some_and (is_live_of ps purpose) previous) o
  follows_by last previous None = refl
  follows_by last previous (Some purpose) = ap (λ b. is_last_enacted last purpose previous || b) (live_by purpose previous)

  -- an action follows among the purposes if and only if it may follow among the proposals
  pub follows_is : (last : LastIds) (a : Action) → follows_among es last a ≡ may_follow ps last a
  follows_is last a = follows_by last (previous_of a) (purpose_of a)

-- ---- one proposal more

find_last : {A : Type 0} (p : A → Bool) (xs : List A) (x : A) → find p (xs ++ x ∷ []) ≡ or_else (find p xs) (cond (p x) (Some x) None)
find_last p [] x = refl
find_last p (y ∷ ys) x =
    elim (p y) as (λ b. cond b (Some y) (find p (ys ++ x ∷ [])) ≡ or_else (cond b (Some y) (find p ys)) (cond (p x) (Some x) None)) [ true ↦ refl | false ↦ find_last p ys x ]

by_key : (p : Proposal) (m : Option (Option Purpose)) (o : Option Proposal) (t k : Bool) → m ≡ option_map purpose_in o → (t ≡ true → is_some m ≡ k)
    → cond k m (cond t (Some (purpose_in p)) m) ≡ option_map purpose_in (or_else o (cond t (Some p) None))
by_key p m None false true e f = e
by_key p m None false false e f = e
by_key p m None true true e f = let some = f refl in cc
by_key p m None true false e f = refl
by_key p m (Some q) false true e f = e
by_key p m (Some q) false false e f = e
by_key p m (Some q) true true e f = e
by_key p m (Some q) true false e f = let none = f refl in cc

module _ (es : List (ActionId × Option Purpose)) (p : Proposal) where
  at_either : (id : ActionId) (k : Bool) → value_at action_id_cmp (cond k es (with_value action_id_cmp p.id (purpose_in p) es)) id
      ≡ cond k (value_at action_id_cmp es id) (cond (same_action p.id id) (Some (purpose_in p)) (value_at action_id_cmp es id))
  at_either id true = refl
  at_either id false = value_at-with_value action_id_total p.id (purpose_in p) es id

  -- with its purpose
  pub knows_more : (ps : List Proposal) → Knows es ps → Knows (with_purpose p es) (ps ++ p ∷ [])
  knows_more ps h id =
      at_either id (has_key action_id_cmp es p.id)
      ∙ by_key p (value_at action_id_cmp es id) (proposal_of id ps) (same_action p.id id) (has_key action_id_cmp es p.id) (h id)
      (λ t. ap (has_key action_id_cmp es) (sym (same_key action_id_exact p.id id t)))
      ∙ ap (option_map purpose_in) (sym (find_last (λ (q : Proposal). same_action q.id id) ps p))

-- ---- one proposal after another

-- each of these follows the last enacted ones or those before it, where front is before them
abbrev pub all_follow : LastIds → List Proposal → List Proposal → Bool
all_follow last front ps = list_all (λ p. may_follow p.0 last p.1.action) (fronts_from front ps)

module _ (last : LastIds) (ps : List Proposal) (i : ℕ) (d : Proposal) (l : i < length ps) where
  -- the proposal at the place i
  abbrev pub here : Proposal
  here = get_or ps i d

  -- those before the next place
  pub taken : take (i + 1) ps ≡ take i ps ++ here ∷ []
  taken = ap (λ (k : ℕ). take k ps) (add-one i) ∙ take-suc ps i d l

  -- what is left begins with it
  pub next : all_follow last (take i ps) (drop i ps) ≡ (may_follow (take i ps) last here.action && all_follow last (take (i + 1) ps) (drop (i + 1) ps))
  next = at_drop_more (all_follow last (take i ps)) ps i d l ∙ ap (λ (front : List Proposal). may_follow (take i ps) last here.action && all_follow last front (drop (i + 1) ps)) (sym taken)
