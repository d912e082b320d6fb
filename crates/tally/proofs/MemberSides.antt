-- The sides of the committee, from the keys of its active members.
use Rattle.std.proofs.Common.{◌≡◌, ℕ, Bool, nat_lt, List, [], ◌∷◌, Option, Some, None, cond, true, false, filter, filter_map, map, nat_le, length, unwrap_or, refl, ap, sym, subst, ◌∙◌, if◌then◌else◌}
use Rattle.std.specs.List.{cons_option}
use Rattle.gov_ids.specs.declared.Credential.{Credential}
use Rattle.gov_ids.specs.declared.Voter.TheVariants as voter
use Rattle.gov_actions.specs.declared.action.Proposal.{Proposal}
use Rattle.gov_actions.specs.declared.action.Vote.{Vote}
use Rattle.gov_actions.specs.declared.action.Vote.TheVariants.{No}
use Rattle.gov_actions.specs.declared.tally.Role.TheVariants as role
use Rattle.gov_actions.specs.declared.state.Committee.{Committee}
use Rattle.gov_actions.specs.declared.state.EnactState.{EnactState}
use Rattle.gov_actions.specs.declared.tally.Need.TheVariants.{Never, Share as share}
use Rattle.gov_model.specs.Need.{own_threshold}
use Rattle.gov_model.specs.Snapshot.{Snapshot}
use Rattle.gov_model.specs.Sides.{active_keys, count_of, hot_key_of, members_of, vote_count, vote_of}
use Rattle.snapshots.specs.declared.frozen.Frozen.{Frozen}
use Rattle.snapshots.specs.Frozen.{frozen_copy_of}
use Rattle.tally.specs.Active.{active_key}
use Rattle.tally.specs.Adding.{with_sides}
use Rattle.tally.proofs.Counting.{counted}

-- how the member of a hot key counts
abbrev pub key_side : Proposal → Credential → ℕ × Vote
key_side a key = (1, unwrap_or (vote_of a (voter.Committee key)) No)

-- how these members count
abbrev pub member_sides : Frozen → Proposal → List (Credential × ℕ) → List (ℕ × Vote)
member_sides f a members = map (key_side a) (filter_map (active_key f.epoch f.hot) members)

pub active_is : (s : Snapshot) (members : List (Credential × ℕ)) → filter_map (active_key s.epoch s.hot) members ≡ active_keys s members
active_is s [] = refl
active_is s (m ∷ members) =
    let rest = filter (λ (m : Credential × ℕ). nat_le s.epoch m.1) members in
    elim (nat_le s.epoch m.1) as (λ b. cons_option (if b then hot_key_of s m.0 else None) (filter_map (active_key s.epoch s.hot) members) ≡ filter_map (λ (m : Credential × ℕ). hot_key_of s m.0) (cond b (m ∷ rest) rest)) [
      | true ↦ ap (cons_option (hot_key_of s m.0)) (active_is s members)
      | false ↦ active_is s members
    ]

pub committee_counted : (f : Frozen) (a : Proposal) (s : Snapshot) → f ≡ frozen_copy_of s
    → with_sides (0, 0) (member_sides f a (members_of f.start.committee)) ≡ vote_count role.Committee s a
committee_counted f a s e =
    subst (λ (g : Frozen). with_sides (0, 0) (member_sides g a (members_of g.start.committee)) ≡ vote_count role.Committee s a) (sym e)
    (counted (member_sides (frozen_copy_of s) a (members_of s.start.committee)) ∙ ap (λ (keys : List Credential). count_of (map (key_side a) keys)) (active_is s (members_of s.start.committee)))

-- the committee's own threshold, by the number of active members
pub own_is : (f : Frozen) (s : Snapshot) (now : EnactState) (c : Committee) (o : Option Committee) (active least : ℕ) (b : Bool) → f ≡ frozen_copy_of s
    → o ≡ Some c → active ≡ length (filter_map (active_key f.epoch f.hot) c.members) → least ≡ now.params.committee_min_size → nat_lt active least ≡ b
    → (if b then Never else share c.threshold) ≡ own_threshold s now o
own_is f s now c o active least b of_s has counts min test =
    let number : active ≡ length (active_keys s c.members) =
    subst (λ (g : Frozen). active ≡ length (filter_map (active_key g.epoch g.hot) c.members)) of_s counts ∙ ap length (active_is s c.members) in
    ap (λ t. if t then Never else share c.threshold) (sym test ∙ (λ i. nat_lt (number i) (min i))) ∙ ap (own_threshold s now) (sym has)
