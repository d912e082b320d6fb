-- One vote on a proposal, with its note.
use Rattle.std.proofs.Common.{◌≡◌, true, false, cond, ◌||◌, List, Option, is_some, Result, Ok, Err, OnOk, OnErr, refl, ap, sym, subst, ◌∙◌}
use Rattle.std.specs.List.{IsDistinct}
use Rattle.gov_actions.specs.declared.action.Proposal.{Proposal}
use Rattle.gov_actions.specs.declared.action.Vote.{Vote}
use Rattle.gov_ids.specs.declared.ActionId.{ActionId}
use Rattle.gov_ids.specs.declared.Credential.{Credential}
use Rattle.gov_ids.specs.declared.Voter.{Voter}
use Rattle.gov_ids.specs.declared.Voter.TheVariants as voter
use Rattle.gov_ids.specs.Orders.{action_id_cmp, voter_cmp}
use Rattle.gov_ids.specs.Same.{same_action}
use Rattle.gov_ids.proofs.Exacts.{action_id_exact}
use Rattle.gov_ids.proofs.Totals.{voter_total}
use Rattle.gov_model.specs.Proposals.{with_vote}
use Rattle.maps.proofs.Lookups.{has_key-with_value}
use Rattle.maps.proofs.Placed.{value_at_tied}
use Rattle.maps.proofs.Ties.{same_key}
use Rattle.maps.specs.Maps.{has_key, has_member}
use Rattle.proposal_store.specs.Voted.{has_vote, is_drep, is_noted, noted_of, AreOnce}
use Rattle.proposal_store.proofs.Noting.{Notes}
use Rattle.proposal_store.proofs.Once.{distinct_last, has_last, undone}
use Rattle.proposal_store.proofs.VotesNoted.{left_out, put_in}

-- the notes of p's id are its votes, the others those of before
abbrev pub AreVotes : Proposal → Proposal → Notes → Notes → Type 0
AreVotes p new old notes = (c : Credential) (id : ActionId) → is_noted notes c id ≡ cond (same_action p.id id) (has_vote c new) (is_noted old c id)

-- a vote instead of another
pub voted_again : {T E : Type 0} (r : Result T E) (p new : Proposal) (v : Voter) (vote : Vote) → OnOk r (new ≡ with_vote v vote p) → OnErr r (new ≡ p) → has_key voter_cmp p.votes v ≡ true
    → (c : Credential) → has_vote c new ≡ has_vote c p
voted_again (Err e) p new v vote ok err h c = ap (λ (x : Proposal). has_vote c x) err
voted_again (Ok x) p new v vote ok err h c =
    ap (λ (x : Proposal). has_vote c x) ok
    ∙ has_key-with_value voter_total v vote p.votes (voter.Drep c)
    ∙ elim (is_drep v c) as (λ b. is_drep v c ≡ b → (b || has_vote c p) ≡ has_vote c p) [
      | true ↦ λ t. sym (ap (λ (o : Option Vote). is_some o) (value_at_tied voter_total v (voter.Drep c) p.votes t) ∙ h)
      | false ↦ λ _. refl
    ] refl

module _ (p : Proposal) (old : Notes) (noted : (c : Credential) → is_noted old c p.id ≡ has_vote c p) where
  -- where the same DReps have votes
  pub same_votes : (new : Proposal) → ((c : Credential) → has_vote c new ≡ has_vote c p) → AreVotes p new old old
  same_votes new h c id =
      elim (same_action p.id id) as (λ b. same_action p.id id ≡ b → is_noted old c id ≡ cond b (has_vote c new) (is_noted old c id)) [
        | true ↦ λ t. ap (λ (x : ActionId). is_noted old c x) (sym (same_key action_id_exact p.id id t)) ∙ noted c ∙ sym (h c)
        | false ↦ λ _. refl
      ] refl

  module _ (v : Voter) (absent : has_key voter_cmp p.votes v ≡ false) where
    -- a voter without a vote has no note
    none_of : (c : Credential) → is_drep v c ≡ true → is_noted old c p.id ≡ false
    none_of c t = noted c ∙ ap (λ (o : Option Vote). is_some o) (value_at_tied voter_total v (voter.Drep c) p.votes t) ∙ absent

    module _ (mid : Notes) (put : (c : Credential) → noted_of mid c ≡ put_in (is_drep v c) p.id (noted_of old c)) where
      pub once_put : AreOnce old → AreOnce mid
      once_put once c =
          subst (λ (ids : List ActionId). IsDistinct same_action ids) (sym (put c))
          (elim (is_drep v c) as (λ b. is_drep v c ≡ b → IsDistinct same_action (put_in b p.id (noted_of old c))) [
            | true ↦ λ t. distinct_last (noted_of old c) p.id (once c) (none_of c t)
            | false ↦ λ _. once c
          ] refl)

      -- the first vote of a voter
      pub first_vote : (vote : Vote) (new : Proposal) → new ≡ with_vote v vote p → AreVotes p new old mid
      first_vote vote new is c id =
          let was = is_noted old c id in
          ap (λ (ids : List ActionId). has_member action_id_cmp ids id) (put c)
          ∙ elim (is_drep v c) as (λ b. has_member action_id_cmp (put_in b p.id (noted_of old c)) id ≡ cond b (was || same_action p.id id) was) [ true ↦ has_last (noted_of old c) p.id id | false ↦ refl ]
          ∙ elim (same_action p.id id) as (λ b. same_action p.id id ≡ b → cond (is_drep v c) (was || b) was ≡ cond b (is_drep v c || has_vote c p) was) [
            | true ↦ λ t.
                let there : was ≡ has_vote c p = ap (λ (x : ActionId). is_noted old c x) (sym (same_key action_id_exact p.id id t)) ∙ noted c in
                elim (is_drep v c) as (λ b. cond b (was || true) was ≡ (b || has_vote c p)) [ true ↦ elim was as (λ b. (b || true) ≡ true) [ true ↦ refl | false ↦ refl ] | false ↦ there ]
            | false ↦ λ _. elim (is_drep v c) as (λ b. cond b (was || false) was ≡ was) [ true ↦ elim was as (λ b. (b || false) ≡ b) [ true ↦ refl | false ↦ refl ] | false ↦ refl ]
          ] refl
          ∙ ap (λ b. cond (same_action p.id id) b was) (sym (ap (λ (x : Proposal). has_vote c x) is ∙ has_key-with_value voter_total v vote p.votes (voter.Drep c)))

      module _ (last : Notes) (left : (c : Credential) → noted_of last c ≡ left_out (is_drep v c) p.id (noted_of mid c)) where
        -- the note that was put in is left out again
        restored : (c : Credential) → noted_of last c ≡ noted_of old c
        restored c =
            left c
            ∙ ap (λ (ids : List ActionId). left_out (is_drep v c) p.id ids) (put c)
            ∙ elim (is_drep v c) as (λ b. is_drep v c ≡ b → left_out b p.id (put_in b p.id (noted_of old c)) ≡ noted_of old c) [
              | true ↦ λ t. undone (noted_of old c) p.id (none_of c t)
              | false ↦ λ _. refl
            ] refl

        pub once_again : AreOnce old → AreOnce last
        once_again once c = subst (λ (ids : List ActionId). IsDistinct same_action ids) (sym (restored c)) (once c)

        pub no_vote : (new : Proposal) → new ≡ p → AreVotes p new old last
        no_vote new is c id =
            ap (λ (ids : List ActionId). has_member action_id_cmp ids id) (restored c)
            ∙ same_votes new (λ q. ap (λ (x : Proposal). has_vote q x) is) c id
