-- The old votes at names hold on each proposal, if the names are those that a transaction and DReps that left touch.
use Rattle.std.proofs.Common.{◌≡◌, ℕ, ◌+◌, ◌<◌, ◌≤◌, List, [], ◌∷◌, ◌++◌, Bool, true, false, cond, not, ◌&&◌, ◌||◌, Option, Some, None, is_some, filter, length, map, take, get_or, drop, append-nil, append_assoc, refl, ap, sym, subst, ◌∙◌}
use Rattle.std.specs.List.{AllByRecursion, AllZip, IsDistinct}
use Rattle.std.specs.Map.{keys_of}
use Rattle.std.specs.Option.{option_and_then}
use Rattle.std.specs.Ordering.{eq_by_cmp}
use Rattle.std.proofs.lemmas.Cmp.{eq_by_cmp_equiv}
use Rattle.std.proofs.lemmas.List.{at_drop_all, at_drop_more, take_all, take_more}
use Rattle.std.proofs.lemmas.Map.Entries.{option_filter}
use Rattle.gov_actions.specs.declared.action.Proposal.{Proposal}
use Rattle.gov_actions.specs.declared.action.Vote.{Vote}
use Rattle.gov_ids.proofs.Exacts.{action_id_exact, voter_exact}
use Rattle.gov_ids.proofs.Totals.{action_id_total, voter_total}
use Rattle.gov_ids.specs.declared.ActionId.{ActionId}
use Rattle.gov_ids.specs.declared.Credential.{Credential}
use Rattle.gov_ids.specs.declared.Voter.{Voter}
use Rattle.gov_ids.specs.declared.Voter.TheVariants as voter
use Rattle.gov_ids.specs.Orders.{action_id_cmp, credential_cmp, voter_cmp}
use Rattle.gov_ids.specs.Same.{same_action, same_voter}
use Rattle.gov_model.specs.Laws.{HaveDistinctIds}
use Rattle.gov_model.specs.Proposals.{proposal_of}
use Rattle.gov_model.specs.Ratified.{ids_of}
use Rattle.ledger_model.specs.Transaction.{votes_on, with_votes}
use Rattle.maps.proofs.Lookups.{value_at-entries_where}
use Rattle.maps.proofs.Several.{value_at-with_values_other}
use Rattle.maps.proofs.Ties.{same_key}
use Rattle.maps.specs.Maps.{IsMap, has_key, has_member, value_at}
use Rattle.maps.specs.Words.{some_and}
use Rattle.proposal_store.specs.Leaving.{is_drep_among, without_those_of, without_votes_of}
use Rattle.proposal_store.specs.Voted.{is_voted_on}
use Rattle.run_model.specs.SoundWorld.{AreSoundProposals}
use Rattle.tx_records.specs.declared.tx.Tx.{Tx}
use Rattle.tx_records.specs.declared.tx.VoteRecord.{VoteRecord}
use Rattle.undo_model.specs.Holds.{HoldsOldVotes}
use Rattle.undo_model.specs.Undone.{old_votes_on}
use Rattle.undo_before.specs.Names.{cast_names, has_voted_on, is_lost, is_named}
use Rattle.undo_before.specs.Old.{old_votes_at, vote_on}
use Rattle.undo_before.proofs.Maps.{AreValues}

-- names of votes
abbrev pub VoteNames : Type 0
VoteNames = List (ActionId × Voter)

-- ---- the names of the old votes on an action

named_on : (ps : List Proposal) (id : ActionId) (v : Voter) (names : VoteNames) → has_member voter_cmp (keys_of (old_votes_on id (old_votes_at ps names))) v ≡ is_named names id v
named_on ps id v [] = refl
named_on ps id v (n ∷ names) =
    let cast : ((ActionId × Voter) × Option Vote) → Voter × Option Vote = λ old. (old.0.1, old.1) in
    let first : (ActionId × Voter) × Option Vote = (n, vote_on ps n.0 n.1) in
    let rest : List ((ActionId × Voter) × Option Vote) = filter (λ (old : (ActionId × Voter) × Option Vote). same_action old.0.0 id) (old_votes_at ps names) in
    elim (same_action n.0 id) as (λ b. has_member voter_cmp (keys_of (map cast (cond b (first ∷ rest) rest))) v ≡ ((b && same_voter v n.1) || is_named names id v)) [
      | true ↦ ap (λ b. same_voter v n.1 || b) (named_on ps id v names)
      | false ↦ named_on ps id v names
    ]

-- ---- their values

-- where the proposal of the action is p, the old votes on it are those of p
values_on : (ps : List Proposal) (p : Proposal) (names : VoteNames) → proposal_of p.id ps ≡ Some p → AreValues voter_cmp p.votes (old_votes_on p.id (old_votes_at ps names))
values_on ps p [] found = tt
values_on ps p (n ∷ names) found =
    let cast : ((ActionId × Voter) × Option Vote) → Voter × Option Vote = λ old. (old.0.1, old.1) in
    let first : (ActionId × Voter) × Option Vote = (n, vote_on ps n.0 n.1) in
    let rest : List ((ActionId × Voter) × Option Vote) = filter (λ (old : (ActionId × Voter) × Option Vote). same_action old.0.0 p.id) (old_votes_at ps names) in
    elim (same_action n.0 p.id) as (λ b. same_action n.0 p.id ≡ b → AreValues voter_cmp p.votes (map cast (cond b (first ∷ rest) rest))) [
      | true ↦ λ t. (
        sym (
            ap (λ (id : ActionId). vote_on ps id n.1) (same_key action_id_exact n.0 p.id t)
            ∙ ap (λ (o : Option Proposal). option_and_then (λ (q : Proposal). value_at voter_cmp q.votes n.1) o) found
            ),
        values_on ps p names found,
      )
      | false ↦ λ t. values_on ps p names found
    ] refl

-- ---- the votes that stay

-- the votes that a transaction casts on an action name those voters
cast_on : (vs : List VoteRecord) (id : ActionId) (v : Voter)
    → is_named (map (λ (x : VoteRecord). (x.action, x.voter)) vs) id v ≡ has_member voter_cmp (keys_of (map (λ (x : VoteRecord). (x.voter, x.vote)) (filter (λ (x : VoteRecord). same_action x.action id) vs))) v
cast_on [] id v = refl
cast_on (x ∷ vs) id v =
    let rest : List VoteRecord = filter (λ (y : VoteRecord). same_action y.action id) vs in
    let named : Bool = is_named (map (λ (y : VoteRecord). (y.action, y.voter)) vs) id v in
    elim (same_action x.action id) as (λ b. ((b && same_voter v x.voter) || named) ≡ has_member voter_cmp (keys_of (map (λ (y : VoteRecord). (y.voter, y.vote)) (cond b (x ∷ rest) rest))) v) [
      | true ↦ ap (λ b. same_voter v x.voter || b) (cast_on vs id v)
      | false ↦ cast_on vs id v
    ]

neither : (a b : Bool) → (a || b) ≡ false → (a ≡ false) × (b ≡ false)
neither true b h = cc
neither false b h = (refl, h)

-- what a DRep that left did not have stays none
not_had : (left : Bool) (o : Option Vote) → (left && is_some o) ≡ false → option_filter (λ (x : Vote). not left) o ≡ o
not_had left None h = refl
not_had true (Some x) h = cc
not_had false (Some x) h = refl

-- a vote that is neither cast nor lost stays
stays : (tx : Tx) (left : List Credential) (p : Proposal) (v : Voter) → IsMap voter_cmp p.votes → is_named (cast_names tx) p.id v ≡ false → (is_drep_among left v && has_key voter_cmp p.votes v) ≡ false
    → value_at voter_cmp (with_votes tx (without_votes_of left p)).votes v ≡ value_at voter_cmp p.votes v
stays tx left p v m cast lost =
    value_at-with_values_other voter_total (votes_on tx p.id) (without_those_of left p.votes) v (sym (cast_on tx.votes p.id v) ∙ cast)
    ∙ value_at-entries_where voter_total voter_exact (λ u x. not (is_drep_among left u)) p.votes v m
    ∙ not_had (is_drep_among left v) (value_at voter_cmp p.votes v) lost

-- ---- all proposals

later_found : (p : Proposal) (all ps : List Proposal) → AllByRecursion (λ q. same_action p.id q ≡ false) (ids_of ps) → AllByRecursion (λ (q : Proposal). proposal_of q.id all ≡ Some q) ps
    → AllByRecursion (λ (q : Proposal). proposal_of q.id (p ∷ all) ≡ Some q) ps
later_found p all [] apart found = tt
later_found p all (q ∷ ps) apart found = (
  ap (λ b. cond b (Some p) (proposal_of q.id all)) apart.0 ∙ found.0,
  later_found p all ps apart.1 found.1,
)

-- each proposal is found by its id
all_found : (ps : List Proposal) → HaveDistinctIds ps → AllByRecursion (λ (p : Proposal). proposal_of p.id ps ≡ Some p) ps
unfolding IsDistinct
all_found [] d = tt
all_found (p ∷ ps) d = (
  ap (λ b. cond b (Some p) (proposal_of p.id ps)) ((eq_by_cmp_equiv action_id_total).refl p.id),
  later_found p ps ps d.0 (all_found ps d.1),
)

-- the names are those of the votes that a transaction casts, and those that DReps lose that left
abbrev pub AreVoteNames : Tx → List Credential → List Proposal → VoteNames → Type 0
AreVoteNames tx left ps names = (id : ActionId) (v : Voter) → is_named names id v ≡ (is_named (cast_names tx) id v || is_lost left ps id v)

module _ (tx : Tx) (left : List Credential) (all : List Proposal) (names : VoteNames) (h : AreVoteNames tx left all names) where
  -- on one proposal
  held_on : (p : Proposal) → IsMap voter_cmp p.votes → proposal_of p.id all ≡ Some p → HoldsOldVotes (old_votes_at all names) p (with_votes tx (without_votes_of left p))
  held_on p m found = record {
    votes = record {
      values = values_on all p names found;
      others = λ v absent.
          let parts = neither (is_named (cast_names tx) p.id v) (is_lost left all p.id v) (sym (named_on all p.id v names ∙ h p.id v) ∙ absent) in
          stays tx left p v m parts.0
          (sym (ap (λ (o : Option Proposal). is_drep_among left v && some_and (λ (q : Proposal). has_key voter_cmp q.votes v) o) found) ∙ parts.1);
    };
    others = refl;
  }

  held_on_all : (ps : List Proposal) → AllByRecursion (λ (p : Proposal). IsMap voter_cmp p.votes) ps → AllByRecursion (λ (p : Proposal). proposal_of p.id all ≡ Some p) ps
      → AllZip (HoldsOldVotes (old_votes_at all names)) ps (map (with_votes tx) (map (without_votes_of left) ps))
  held_on_all [] m found = tt
  held_on_all (p ∷ ps) m found = (held_on p m.0 found.0, held_on_all ps m.1 found.1)

  pub votes_held : AreSoundProposals all → AllZip (HoldsOldVotes (old_votes_at all names)) all (map (with_votes tx) (map (without_votes_of left) all))
  votes_held sound = held_on_all all sound.votes (all_found all sound.ids)

-- ---- one DRep more

named-append : (xs ys : VoteNames) (id : ActionId) (v : Voter) → is_named (xs ++ ys) id v ≡ (is_named xs id v || is_named ys id v)
named-append [] ys id v = refl
named-append (x ∷ xs) ys id v =
    elim (same_action x.0 id && same_voter v x.1) as (λ b. (b || is_named (xs ++ ys) id v) ≡ ((b || is_named xs id v) || is_named ys id v)) [
      | true ↦ refl
      | false ↦ named-append xs ys id v
    ]

-- whether the voter is this DRep
abbrev pub is_this : Credential → Voter → Bool
is_this c v = same_voter v (voter.Drep c)

-- the votes of a DRep on these actions
abbrev pub votes_by : Credential → List ActionId → VoteNames
votes_by c ids = map (λ id. (id, voter.Drep c)) ids

named_by : (c : Credential) (ids : List ActionId) (id : ActionId) (v : Voter) → is_named (votes_by c ids) id v ≡ (is_this c v && has_member action_id_cmp ids id)
named_by c [] id v = elim (is_this c v) as (λ b. false ≡ (b && false)) [ true ↦ refl | false ↦ refl ]
named_by c (x ∷ ids) id v =
    (λ i. ((eq_by_cmp_equiv action_id_total).symm x id i && is_this c v) || named_by c ids id v i)
    ∙ elim (same_action id x) as (λ a. ((a && is_this c v) || (is_this c v && has_member action_id_cmp ids id)) ≡ (is_this c v && (a || has_member action_id_cmp ids id))) [
      | true ↦ elim (is_this c v) as (λ b. (b || (b && has_member action_id_cmp ids id)) ≡ (b && true)) [ true ↦ refl | false ↦ refl ]
      | false ↦ refl
    ]

-- no DRep is among none
pub none_lost : (ps : List Proposal) (id : ActionId) (v : Voter) → is_lost [] ps id v ≡ false
none_lost ps id (voter.Committee q) = refl
none_lost ps id (voter.Drep q) = refl
none_lost ps id (voter.Pool q) = refl

drep-append : (xs : List Credential) (c q : Credential) → has_member credential_cmp (xs ++ c ∷ []) q ≡ (has_member credential_cmp xs q || eq_by_cmp credential_cmp q c)
drep-append [] c q = elim (eq_by_cmp credential_cmp q c) as (λ b. (b || false) ≡ b) [ true ↦ refl | false ↦ refl ]
drep-append (x ∷ xs) c q =
    elim (eq_by_cmp credential_cmp q x) as (λ b. (b || has_member credential_cmp (xs ++ c ∷ []) q) ≡ ((b || has_member credential_cmp xs q) || eq_by_cmp credential_cmp q c)) [
      | true ↦ refl
      | false ↦ drep-append xs c q
    ]

among_more : (xs : List Credential) (c : Credential) (v : Voter) → is_drep_among (xs ++ c ∷ []) v ≡ (is_drep_among xs v || is_this c v)
among_more xs c (voter.Committee q) = refl
among_more xs c (voter.Drep q) = drep-append xs c q
among_more xs c (voter.Pool q) = refl

-- where the voter is this DRep, it has voted where this DRep has
this_voted : (c : Credential) (ps : List Proposal) (id : ActionId) (v : Voter) → (is_this c v && is_voted_on c id ps) ≡ (is_this c v && has_voted_on ps id v)
this_voted c ps id v =
    elim (is_this c v) as (λ b. is_this c v ≡ b → (b && is_voted_on c id ps) ≡ (b && has_voted_on ps id v)) [
      | true ↦ λ t. ap (λ (u : Voter). has_voted_on ps id u) (sym (same_key voter_exact v (voter.Drep c) t))
      | false ↦ λ t. refl
    ] refl

regrouped : (a b t k : Bool) → ((a || (b && k)) || (t && k)) ≡ (a || ((b || t) && k))
regrouped true b t k = refl
regrouped false true t true = refl
regrouped false true true false = refl
regrouped false true false false = refl
regrouped false false t k = refl

-- the names of the first i DReps and those of the next one are those of one DRep more
pub next_named : (tx : Tx) (left : List Credential) (ps : List Proposal) (names : VoteNames) (i : ℕ) (d : Credential) (ids : List ActionId) → i < length left
    → ((id : ActionId) → has_member action_id_cmp ids id ≡ is_voted_on (get_or left i d) id ps) → AreVoteNames tx (take i left) ps names
    → AreVoteNames tx (take (i + 1) left) ps (names ++ votes_by (get_or left i d) ids)
next_named tx left ps names i d ids lt voted h id v =
    let c : Credential = get_or left i d in
    let front : List Credential = take i left in
    named-append names (votes_by c ids) id v
    ∙ (λ j. h id v j || named_by c ids id v j)
    ∙ ap (λ b. (is_named (cast_names tx) id v || is_lost front ps id v) || (is_this c v && b)) (voted id)
    ∙ ap (λ b. (is_named (cast_names tx) id v || is_lost front ps id v) || b) (this_voted c ps id v)
    ∙ regrouped (is_named (cast_names tx) id v) (is_drep_among front v) (is_this c v) (has_voted_on ps id v)
    ∙ ap (λ b. is_named (cast_names tx) id v || (b && has_voted_on ps id v)) (sym (among_more front c v))
    ∙ ap (λ (cs : List Credential). is_named (cast_names tx) id v || is_lost cs ps id v) (sym (take_more left i d lt))

with_none : (b c : Bool) → c ≡ false → b ≡ (b || c)
with_none true c h = refl
with_none false c h = sym h

-- at first the names are the votes that are cast
pub first_named : (tx : Tx) (left : List Credential) (ps : List Proposal) (names : VoteNames) → names ≡ cast_names tx → AreVoteNames tx (take 0 left) ps names
first_named tx left ps names e id v =
    ap (λ (ns : VoteNames). is_named ns id v) e ∙ with_none (is_named (cast_names tx) id v) (is_lost [] ps id v) (none_lost ps id v)

-- at the end all DReps are passed
pub all_named : (tx : Tx) (left : List Credential) (ps : List Proposal) (names : VoteNames) (i : ℕ) → length left ≤ i → AreVoteNames tx (take i left) ps names → AreVoteNames tx left ps names
all_named tx left ps names i past h = subst (λ (cs : List Credential). AreVoteNames tx cs ps names) (take_all i left past) h

-- one more old vote is read
pub next_voted : (ps : List Proposal) (names : VoteNames) (i : ℕ) (d : ActionId × Voter) (olds new : List ((ActionId × Voter) × Option Vote)) (x : Option Vote) → i < length names
    → x ≡ vote_on ps (get_or names i d).0 (get_or names i d).1 → new ≡ olds ++ (get_or names i d, x) ∷ [] → olds ++ old_votes_at ps (drop i names) ≡ old_votes_at ps names
    → new ++ old_votes_at ps (drop (i + 1) names) ≡ old_votes_at ps names
next_voted ps names i d olds new x lt is pushed before =
    let rest : List ((ActionId × Voter) × Option Vote) = old_votes_at ps (drop (i + 1) names) in
    ap (λ (os : List ((ActionId × Voter) × Option Vote)). os ++ rest) pushed
    ∙ append_assoc olds ((get_or names i d, x) ∷ []) rest
    ∙ ap (λ (v : Option Vote). olds ++ (get_or names i d, v) ∷ rest) is
    ∙ ap (λ (os : List ((ActionId × Voter) × Option Vote)). olds ++ os) (sym (at_drop_more (λ (ns : VoteNames). old_votes_at ps ns) names i d lt))
    ∙ before

-- and at the end all are
pub all_voted : (ps : List Proposal) (names : VoteNames) (i : ℕ) (olds : List ((ActionId × Voter) × Option Vote)) → length names ≤ i → olds ++ old_votes_at ps (drop i names) ≡ old_votes_at ps names
    → olds ≡ old_votes_at ps names
all_voted ps names i olds past before =
    sym (append-nil olds) ∙ ap (λ (os : List ((ActionId × Voter) × Option Vote)). olds ++ os) (sym (at_drop_all (λ (ns : VoteNames). old_votes_at ps ns) names i past)) ∙ before
