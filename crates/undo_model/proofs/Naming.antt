-- Old values that name every key, every voter and every number of two Worlds.
use Rattle.std.proofs.Common.{◌≡◌, List, [], ◌∷◌, ◌++◌, true, false, cond, ◌||◌, Option, Some, None, is_some, filter, length, map, take, refl, ap, sym, subst, ◌∙◌, append_assoc, append-nil}
use Rattle.std.specs.declared.cmp.Ordering.{Ordering}
use Rattle.std.specs.Ordering.{eq_by_cmp}
use Rattle.std.specs.List.{AllByRecursion, AllZip, IsDistinct}
use Rattle.std.specs.Map.{keys_of}
use Rattle.std.proofs.lemmas.Cmp.{eq_by_cmp_equiv}
use Rattle.maps.proofs.Kept.{keys_of-each}
use Rattle.maps.specs.Maps.{has_member, value_at}
use Rattle.gov_ids.proofs.Totals.{action_id_total}
use Rattle.gov_ids.specs.declared.ActionId.{ActionId}
use Rattle.gov_ids.specs.declared.TxId.{TxId}
use Rattle.gov_ids.specs.declared.Voter.{Voter}
use Rattle.gov_ids.specs.Orders.{credential_cmp, outref_cmp, pool_cmp, voter_cmp}
use Rattle.gov_ids.specs.Same.{same_action}
use Rattle.gov_actions.specs.declared.action.Proposal.{Proposal}
use Rattle.gov_actions.specs.declared.action.Vote.{Vote}
use Rattle.gov_model.specs.Laws.{HaveDistinctIds}
use Rattle.gov_model.specs.Ratified.{ids_of}
use Rattle.ledger_model.specs.Ledger.{Ledger}
use Rattle.run_model.specs.SoundWorld.{IsSoundWorld}
use Rattle.run_model.specs.World.{World}
use Rattle.undo_model.specs.Holds.{Holds, HoldsOld, HoldsOldVotes, HoldsUnused}
use Rattle.undo_model.specs.Undone.{Before, old_votes_on}

-- ---- maps

-- a key that is not among the keys has no value
no_value : {K X : Type 0} (cmp : K → K → Ordering) (es : List (K × X)) (k : K) → has_member cmp (keys_of es) k ≡ false → value_at cmp es k ≡ None
no_value cmp [] k h = refl
no_value cmp (e ∷ es) k h =
    elim (eq_by_cmp cmp k e.0) as (λ b. (b || has_member cmp (keys_of es) k) ≡ false → cond b (Some e.1) (value_at cmp es k) ≡ None) [
      | true ↦ λ h. cc
      | false ↦ λ h. no_value cmp es k h
    ] h

-- a key that is not in two lists together is in neither
in_neither : {K : Type 0} (cmp : K → K → Ordering) (xs ys : List K) (k : K) → has_member cmp (xs ++ ys) k ≡ false → (has_member cmp xs k ≡ false) × (has_member cmp ys k ≡ false)
in_neither cmp [] ys k h = (refl, h)
in_neither cmp (x ∷ xs) ys k h =
    elim (eq_by_cmp cmp k x) as (λ b. (b || has_member cmp (xs ++ ys) k) ≡ false → ((b || has_member cmp xs k) ≡ false) × (has_member cmp ys k ≡ false)) [
      | true ↦ λ h. cc
      | false ↦ λ h. in_neither cmp xs ys k h
    ] h

-- the values before at all keys of two maps
abbrev all_named : {K X : Type 0} → (K → K → Ordering) → List (K × X) → List (K × X) → List (K × Option X)
all_named cmp before after = map (λ k. (k, value_at cmp before k)) (keys_of before ++ keys_of after)

own_values : {K X : Type 0} (cmp : K → K → Ordering) (before : List (K × X)) (ks : List K)
    → AllByRecursion (λ (old : K × Option X). value_at cmp before old.0 ≡ old.1) (map (λ k. (k, value_at cmp before k)) ks)
own_values cmp before [] = tt
own_values cmp before (k ∷ ks) = (refl, own_values cmp before ks)

holds_all : {K X : Type 0} (cmp : K → K → Ordering) (before after : List (K × X)) → HoldsOld cmp (all_named cmp before after) before after
holds_all {K} {X} cmp before after = record {
  values = own_values cmp before (keys_of before ++ keys_of after);
  others = λ k absent.
      let parts = in_neither cmp (keys_of before) (keys_of after) k
      (ap (λ (ks : List K). has_member cmp ks k) (sym (keys_of-each (value_at cmp before) (keys_of before ++ keys_of after))) ∙ absent) in
      no_value cmp after k parts.1 ∙ sym (no_value cmp before k parts.0);
}

-- ---- votes

abbrev pub OldVotes : Type 0
OldVotes = List ((ActionId × Voter) × Option Vote)

-- a proposal without votes
abbrev pub bare : Proposal → Proposal
bare p = record p { votes = [] }

-- old votes, all on one action
abbrev all_on : ActionId → List (Voter × Option Vote) → OldVotes
all_on id olds = map (λ old. ((id, old.0), old.1)) olds

-- the votes before of all voters on each two proposals
abbrev votes_named : List Proposal → List Proposal → OldVotes
votes_named [] qs = []
votes_named (p ∷ ps) [] = []
votes_named (p ∷ ps) (q ∷ qs) = all_on p.id (all_named voter_cmp p.votes q.votes) ++ votes_named ps qs

-- the voter and the vote
abbrev cast : (ActionId × Voter) × Option Vote → Voter × Option Vote
cast old = (old.0.1, old.1)

on_both : (id : ActionId) (xs ys : OldVotes) → old_votes_on id (xs ++ ys) ≡ old_votes_on id xs ++ old_votes_on id ys
on_both id [] ys = refl
on_both id (x ∷ xs) ys =
    elim (same_action x.0.0 id) as (λ b. map cast (cond b (x ∷ filter (λ old. same_action old.0.0 id) (xs ++ ys)) (filter (λ old. same_action old.0.0 id) (xs ++ ys)))
    ≡ map cast (cond b (x ∷ filter (λ old. same_action old.0.0 id) xs) (filter (λ old. same_action old.0.0 id) xs)) ++ old_votes_on id ys) [
      | true ↦ ap (λ (olds : List (Voter × Option Vote)). cast x ∷ olds) (on_both id xs ys)
      | false ↦ on_both id xs ys
    ]

on_itself : (id : ActionId) (olds : List (Voter × Option Vote)) → old_votes_on id (all_on id olds) ≡ olds
on_itself id [] = refl
on_itself id (old ∷ olds) =
    ap (λ b. map cast (cond b (((id, old.0), old.1) ∷ filter (λ o. same_action o.0.0 id) (all_on id olds)) (filter (λ o. same_action o.0.0 id) (all_on id olds)))) ((eq_by_cmp_equiv action_id_total).refl id)
    ∙ ap (λ (xs : List (Voter × Option Vote)). old ∷ xs) (on_itself id olds)

on_another : (id other : ActionId) (olds : List (Voter × Option Vote)) → same_action other id ≡ false → old_votes_on id (all_on other olds) ≡ []
on_another id other [] apart = refl
on_another id other (old ∷ olds) apart =
    ap (λ b. map cast (cond b (((other, old.0), old.1) ∷ filter (λ o. same_action o.0.0 id) (all_on other olds)) (filter (λ o. same_action o.0.0 id) (all_on other olds)))) apart
    ∙ on_another id other olds apart

-- where there are old votes on two lists of them, and none of the first
only_second : (id : ActionId) (xs ys : OldVotes) → old_votes_on id xs ≡ [] → old_votes_on id (xs ++ ys) ≡ old_votes_on id ys
only_second id xs ys none = on_both id xs ys ∙ ap (λ (olds : List (Voter × Option Vote)). olds ++ old_votes_on id ys) none

none_named : (id : ActionId) (ps qs : List Proposal) → AllByRecursion (λ (k : ActionId). same_action id k ≡ false) (ids_of ps) → old_votes_on id (votes_named ps qs) ≡ []
none_named id [] qs h = refl
none_named id (p ∷ ps) [] h = refl
none_named id (p ∷ ps) (q ∷ qs) h =
    only_second id (all_on p.id (all_named voter_cmp p.votes q.votes)) (votes_named ps qs)
    (on_another id p.id (all_named voter_cmp p.votes q.votes) ((eq_by_cmp_equiv action_id_total).symm p.id id ∙ h.0))
    ∙ none_named id ps qs h.1

-- no old votes of these are on the actions
abbrev NoneOn : OldVotes → List ActionId → Type 0
NoneOn olds ids = AllByRecursion (λ (id : ActionId). old_votes_on id olds ≡ []) ids

none_still : (olds : OldVotes) (id : ActionId) (more : List (Voter × Option Vote)) (ids : List ActionId) → NoneOn olds ids → AllByRecursion (λ (k : ActionId). same_action id k ≡ false) ids
    → NoneOn (olds ++ all_on id more) ids
none_still olds id more [] h apart = tt
none_still olds id more (k ∷ ks) h apart =
    (only_second k olds (all_on id more) h.0 ∙ on_another k id more apart.0, none_still olds id more ks h.1 apart.1)

abbrev first_or : {A : Type 0} → A → List A → A
first_or d [] = d
first_or d (x ∷ xs) = x

abbrev rest_of : {A : Type 0} → List A → List A
rest_of [] = []
rest_of (x ∷ xs) = xs

holds_votes : (pre : OldVotes) (ps qs : List Proposal) → map bare qs ≡ map bare ps → HaveDistinctIds ps → NoneOn pre (ids_of ps) → AllZip (HoldsOldVotes (pre ++ votes_named ps qs)) ps qs
unfolding IsDistinct
holds_votes pre [] [] e d none = tt
holds_votes pre [] (q ∷ qs) e d none = cc
holds_votes pre (p ∷ ps) [] e d none = cc
holds_votes pre (p ∷ ps) (q ∷ qs) e d none =
    let olds : List (Voter × Option Vote) = all_named voter_cmp p.votes q.votes in
    let first : bare q ≡ bare p = ap (λ (xs : List Proposal). first_or q xs) e in
    let rest : map bare qs ≡ map bare ps = ap (λ (xs : List Proposal). rest_of xs) e in
    let here : old_votes_on p.id (pre ++ (all_on p.id olds ++ votes_named ps qs)) ≡ olds =
    only_second p.id pre (all_on p.id olds ++ votes_named ps qs) none.0
    ∙ on_both p.id (all_on p.id olds) (votes_named ps qs)
    ∙ (λ i. on_itself p.id olds i ++ none_named p.id ps qs d.0 i)
    ∙ append-nil olds in (
      record {
        votes = subst (λ (xs : List (Voter × Option Vote)). HoldsOld voter_cmp xs p.votes q.votes) (sym here) (holds_all voter_cmp p.votes q.votes);
        others = ap (λ (x : Proposal). record x { votes = q.votes }) first;
      },
      subst (λ (xs : OldVotes). AllZip (HoldsOldVotes xs) ps qs) (append_assoc pre (all_on p.id olds) (votes_named ps qs))
          (holds_votes (pre ++ all_on p.id olds) ps qs rest d.1 (none_still pre p.id olds (ids_of ps) none.1 d.0)),
    )

none_of_none : (ids : List ActionId) → NoneOn [] ids
none_of_none [] = tt
none_of_none (id ∷ ids) = (refl, none_of_none ids)

-- ---- Worlds

-- a ledger with what old values can name of another one
abbrev pub with_named : Ledger → Ledger → Ledger
with_named l m = record l {
  slot = m.slot;
  dormant = m.dormant;
  fees = m.fees;
  donations = m.donations;
  outputs = m.outputs;
  used = m.used;
  accounts = m.accounts;
  pools = m.pools;
  dreps = m.dreps;
  hot = m.hot;
  proposals = m.proposals;
}

-- v is w except at what old values can name, and the proposals of w come first, with any votes
pub record IsWithin (w v : World) (unused : Option TxId) : Type 0 where
  pub used : HoldsUnused unused w.ledger.used v.ledger.used
  pub pending : is_some w.pending ≡ true → v.pending ≡ w.pending
  pub first : map bare (take (length w.ledger.proposals) v.ledger.proposals) ≡ map bare w.ledger.proposals
  pub others : v ≡ record w { ledger = with_named w.ledger v.ledger; pending = v.pending; counted = v.counted }

abbrev pub naming_all : World → World → Option TxId → Before
naming_all w v unused =
    let l : Ledger = w.ledger in
    let m : Ledger = v.ledger in
    record {
      slot = l.slot;
      dormant = l.dormant;
      fees = l.fees;
      donations = l.donations;
      had_pending = is_some w.pending;
      proposals = length l.proposals;
      unused = unused;
      outputs = all_named outref_cmp l.outputs m.outputs;
      accounts = all_named credential_cmp l.accounts m.accounts;
      pools = all_named pool_cmp l.pools m.pools;
      dreps = all_named credential_cmp l.dreps m.dreps;
      hot = all_named credential_cmp l.hot m.hot;
      votes = votes_named l.proposals (take (length l.proposals) m.proposals);
    }

pub all_is_held : (w v : World) (unused : Option TxId) → IsSoundWorld w → IsWithin w v unused → Holds w (naming_all w v unused) v
all_is_held w v unused g within =
    let l : Ledger = w.ledger in
    let m : Ledger = v.ledger in
    record {
      slot = refl;
      dormant = refl;
      fees = refl;
      donations = refl;
      had_pending = refl;
      pending = within.pending;
      outputs = holds_all outref_cmp l.outputs m.outputs;
      used = within.used;
      accounts = holds_all credential_cmp l.accounts m.accounts;
      pools = holds_all pool_cmp l.pools m.pools;
      dreps = holds_all credential_cmp l.dreps m.dreps;
      hot = holds_all credential_cmp l.hot m.hot;
      proposals = refl;
      votes = holds_votes [] l.proposals (take (length l.proposals) m.proposals) within.first g.ledger.proposals.ids (none_of_none (ids_of l.proposals));
      others = within.others;
    }
