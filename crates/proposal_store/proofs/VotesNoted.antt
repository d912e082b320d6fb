-- The votes of a proposal, noted one after another, and the notes left out one after another.
use Rattle.std.proofs.Common.{◌≡◌, true, false, cond, not, ◌&&◌, ◌||◌, Bool, List, [], ◌∷◌, ◌++◌, Option, Some, is_some, refl, ap, sym, subst, ◌∙◌}
use Rattle.std.specs.List.{IsDistinct}
use Rattle.std.specs.List.Sorted.{IsStrictlySortedBy}
use Rattle.std.proofs.lemmas.Cmp.{eq_by_cmp_equiv}
use Rattle.std.proofs.lemmas.List.{append_cancel_right}
use Rattle.gov_actions.specs.declared.action.Vote.{Vote}
use Rattle.gov_ids.specs.declared.ActionId.{ActionId}
use Rattle.gov_ids.specs.declared.Credential.{Credential}
use Rattle.gov_ids.specs.declared.Voter.{Voter}
use Rattle.gov_ids.specs.declared.Voter.TheVariants as voter
use Rattle.gov_ids.specs.Orders.{action_id_cmp, voter_cmp}
use Rattle.gov_ids.specs.Same.{same_action}
use Rattle.gov_ids.proofs.Totals.{action_id_total, voter_total}
use Rattle.maps.proofs.Lookups.{none_below}
use Rattle.maps.proofs.Placed.{value_at_tied}
use Rattle.maps.proofs.Sets.{without_member_absent}
use Rattle.maps.specs.Maps.{IsMap, has_key, has_member, value_at, without_member}
use Rattle.proposal_store.specs.Voted.{is_drep, is_noted, noted_of, AreOnce}
use Rattle.proposal_store.proofs.Noting.{Notes}
use Rattle.proposal_store.proofs.Once.{distinct_last, distinct_left_out, has_last, has_left_out, undone}

-- votes in order of voter
abbrev pub Votes : Type 0
Votes = List (Voter × Vote)

-- with an id at the end, or as they are
abbrev pub put_in : Bool → ActionId → List ActionId → List ActionId
put_in b id ids = cond b (ids ++ id ∷ []) ids

-- without an id, or as they are
abbrev pub left_out : Bool → ActionId → List ActionId → List ActionId
left_out b id ids = cond b (without_member action_id_cmp id ids) ids

-- the votes are that of the voter and the rest
has_first : (c : Credential) (v : Voter) (x : Vote) (all rest : Votes) → all ≡ (v, x) ∷ rest → has_key voter_cmp all (voter.Drep c) ≡ cond (is_drep v c) true (has_key voter_cmp rest (voter.Drep c))
has_first c v x all rest steps =
    ap (λ (es : Votes). has_key voter_cmp es (voter.Drep c)) steps
    ∙ ap (λ b. is_some (cond b (Some x) (value_at voter_cmp rest (voter.Drep c)))) ((eq_by_cmp_equiv voter_total).symm (voter.Drep c) v)
    ∙ elim (is_drep v c) as (λ b. is_some (cond b (Some x) (value_at voter_cmp rest (voter.Drep c))) ≡ cond b true (has_key voter_cmp rest (voter.Drep c))) [ true ↦ refl | false ↦ refl ]

-- no other is the voter's
first_alone : (c : Credential) (v : Voter) (x : Vote) (all rest : Votes) → all ≡ (v, x) ∷ rest → IsMap voter_cmp all → is_drep v c ≡ true → has_key voter_cmp rest (voter.Drep c) ≡ false
unfolding IsStrictlySortedBy
first_alone c v x all rest steps m t =
    let split : IsMap voter_cmp ((v, x) ∷ rest) = subst (λ (es : Votes). IsMap voter_cmp es) steps m in
    ap (λ (o : Option Vote). is_some o) (value_at_tied voter_total v (voter.Drep c) rest t ∙ none_below voter_cmp v rest split.0)

pub rest_ordered : (v : Voter) (x : Vote) (all rest : Votes) → all ≡ (v, x) ∷ rest → IsMap voter_cmp all → IsMap voter_cmp rest
unfolding IsStrictlySortedBy
rest_ordered v x all rest steps m = let split : IsMap voter_cmp ((v, x) ∷ rest) = subst (λ (es : Votes). IsMap voter_cmp es) steps m in split.1

module _ (old new : Notes) (v : Voter) (x : Vote) (id : ActionId) (all rest : Votes) (steps : all ≡ (v, x) ∷ rest) where
  -- of a DRep whose vote is yet to come the proposal is not noted
  abbrev pub AreFresh : Notes → Votes → Type 0
  AreFresh notes votes = (c : Credential) → has_key voter_cmp votes (voter.Drep c) ≡ true → is_noted notes c id ≡ false

  module _ (put : (c : Credential) → noted_of new c ≡ put_in (is_drep v c) id (noted_of old c)) (m : IsMap voter_cmp all) (fresh : AreFresh old all) where
    pub fresh_next : AreFresh new rest
    fresh_next c h =
        elim (is_drep v c) as (λ b. is_drep v c ≡ b → is_noted new c id ≡ false) [
          | true ↦ λ t. let none : has_key voter_cmp rest (voter.Drep c) ≡ false = first_alone c v x all rest steps m t in cc
          | false ↦ λ f.
              ap (λ (ids : List ActionId). has_member action_id_cmp ids id) (put c ∙ ap (λ b. put_in b id (noted_of old c)) f)
              ∙ fresh c (has_first c v x all rest steps ∙ ap (λ b. cond b true (has_key voter_cmp rest (voter.Drep c))) f ∙ h)
        ] refl

    pub once_next : AreOnce old → AreOnce new
    once_next once c =
        subst (λ (ids : List ActionId). IsDistinct same_action ids) (sym (put c))
        (elim (is_drep v c) as (λ b. is_drep v c ≡ b → IsDistinct same_action (put_in b id (noted_of old c))) [
          | true ↦ λ t. distinct_last (noted_of old c) id (once c) (fresh c (has_first c v x all rest steps ∙ ap (λ b. cond b true (has_key voter_cmp rest (voter.Drep c))) t))
          | false ↦ λ _. once c
        ] refl)

    pub put_next : (c : Credential) → put_in (has_key voter_cmp rest (voter.Drep c)) id (noted_of new c) ≡ put_in (has_key voter_cmp all (voter.Drep c)) id (noted_of old c)
    put_next c =
        ap (λ (ids : List ActionId). put_in (has_key voter_cmp rest (voter.Drep c)) id ids) (put c)
        ∙ elim (is_drep v c) as (λ b. is_drep v c ≡ b → put_in (has_key voter_cmp rest (voter.Drep c)) id (put_in b id (noted_of old c)) ≡ put_in (cond b true (has_key voter_cmp rest (voter.Drep c))) id (noted_of old c)) [
          | true ↦ λ t. ap (λ b. put_in b id (noted_of old c ++ id ∷ [])) (first_alone c v x all rest steps m t)
          | false ↦ λ _. refl
        ] refl
        ∙ ap (λ b. put_in b id (noted_of old c)) (sym (has_first c v x all rest steps))

  module _ (left : (c : Credential) → noted_of new c ≡ left_out (is_drep v c) id (noted_of old c)) (once : AreOnce old) where
    pub left_once : AreOnce new
    left_once c =
        subst (λ (ids : List ActionId). IsDistinct same_action ids) (sym (left c))
        (elim (is_drep v c) as (λ b. IsDistinct same_action (left_out b id (noted_of old c))) [ true ↦ distinct_left_out id (noted_of old c) (once c) | false ↦ once c ])

    pub left_next : (c : Credential) → left_out (has_key voter_cmp rest (voter.Drep c)) id (noted_of new c) ≡ left_out (has_key voter_cmp all (voter.Drep c)) id (noted_of old c)
    left_next c =
        let ids = noted_of old c in
        let none : has_member action_id_cmp (without_member action_id_cmp id ids) id ≡ false =
        has_left_out ids id id (once c) ∙ ap (λ b. not b && has_member action_id_cmp ids id) ((eq_by_cmp_equiv action_id_total).refl id) in
        ap (λ (l : List ActionId). left_out (has_key voter_cmp rest (voter.Drep c)) id l) (left c)
        ∙ elim (is_drep v c) as (λ b. left_out (has_key voter_cmp rest (voter.Drep c)) id (left_out b id ids) ≡ left_out (cond b true (has_key voter_cmp rest (voter.Drep c))) id ids) [
          | true ↦ elim (has_key voter_cmp rest (voter.Drep c)) as (λ b. left_out b id (without_member action_id_cmp id ids) ≡ without_member action_id_cmp id ids) [
            | true ↦ without_member_absent action_id_cmp id (without_member action_id_cmp id ids) none
            | false ↦ refl
          ]
          | false ↦ refl
        ]
        ∙ ap (λ b. left_out b id ids) (sym (has_first c v x all rest steps))

never_in : (ids : List ActionId) (id : ActionId) (old : List ActionId) → has_member action_id_cmp old id ≡ false → ids ++ id ∷ [] ≡ old → ⊥
never_in ids id old h e =
    let there : has_member action_id_cmp old id ≡ true =
    ap (λ (l : List ActionId). has_member action_id_cmp l id) (sym e) ∙ has_last ids id id
    ∙ elim (has_member action_id_cmp ids id) as (λ b. (b || same_action id id) ≡ true) [ true ↦ refl | false ↦ (eq_by_cmp_equiv action_id_total).refl id ] in
    cc

-- of the votes some were put in, and all that were are left out
pub undone_by : (a b : Bool) (id : ActionId) (old now : List ActionId) → has_member action_id_cmp old id ≡ false → put_in b id now ≡ put_in a id old → left_out a id now ≡ old
undone_by true true id old now h e = ap (λ (l : List ActionId). without_member action_id_cmp id l) (append_cancel_right now old (id ∷ []) e) ∙ without_member_absent action_id_cmp id old h
undone_by true false id old now h e = ap (λ (l : List ActionId). without_member action_id_cmp id l) e ∙ undone old id h
undone_by false true id old now h e = absurd (never_in now id old h e)
undone_by false false id old now h e = e
