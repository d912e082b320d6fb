-- A World that is sound to be resumed is sound.
use Rattle.std.proofs.Common.{◌≡◌, ℕ, ◌+◌, ◌/◌, ◌^◌, ◌==◌, ◌<◌, ◌≤◌, zero, suc, List, [], ◌∷◌, Bool, true, false, ◌||◌, cond, Contains, Option, Some, None, get_or, length, map, nat_le, unwrap_or, refl, ap, sym, subst, ◌∙◌, arith, inl, inr, ◌⊎◌}
use Rattle.std.specs.declared.cmp.Ordering.{Ordering}
use Rattle.std.specs.declared.cmp.Ordering.TheVariants.{Less}
use Rattle.std.specs.BTreeMap.{is_at}
use Rattle.std.specs.List.{AllByRecursion, list_all}
use Rattle.std.specs.List.Sorted.{IsStrictlySortedBy}
use Rattle.std.specs.Map.{keys_of, lookup}
use Rattle.std.specs.Ordering.{is_lt}
use Rattle.std.proofs.Math.Nat.{div-le_self}
use Rattle.std.proofs.lemmas.Bool.{eqb-true, false≢true, leb-true, ltb-true, not-true}
use Rattle.std.proofs.lemmas.List.Elements.{All-contains, All-contains_itself, All-filter, Contains-append_right, Contains-get_or}
use Rattle.std.proofs.lemmas.Option.{none-some, same_Some}
use Rattle.maps.specs.Maps.{IsMap, IsSet, has_member, sum_values, value_at}
use Rattle.maps.specs.Words.{is_empty, none_or}
use Rattle.maps.proofs.Fresh.{distinct_from_repeats}
use Rattle.maps.proofs.Ties.{is_less}
use Rattle.gov_ids.specs.declared.OutRef.{OutRef}
use Rattle.gov_ids.specs.declared.PoolId.{PoolId}
use Rattle.gov_ids.specs.Orders.{action_id_cmp, credential_cmp, outref_cmp, pool_cmp, txid_cmp, voter_cmp}
use Rattle.pparams.specs.declared.Params.{Params}
use Rattle.pparams.specs.declared.Update.{Update}
use Rattle.book_records.specs.declared.DrepState.{DrepState}
use Rattle.gov_actions.specs.declared.action.Action.{Action}
use Rattle.gov_actions.specs.declared.action.Action.TheVariants.{NoConfidence, UpdateCommittee, NewConstitution, HardForkInitiation, ParameterChange, TreasuryWithdrawals, Info}
use Rattle.gov_actions.specs.declared.action.Proposal.{Proposal}
use Rattle.gov_actions.specs.declared.state.Committee.{Committee}
use Rattle.gov_actions.specs.declared.state.EnactState.{EnactState}
use Rattle.gov_model.specs.Ratified.{ids_of, is_one_of}
use Rattle.gov_model.specs.Sides.{members_of}
use Rattle.gov_model.specs.Proposals.{deposits_of}
use Rattle.gov_model.specs.Snapshot.{Snapshot, entry_count}
use Rattle.coin_frac.specs.declared.TheConstants.{SUPPLY_LIMIT}
use Rattle.tx_records.specs.declared.record.Rewards.{Rewards}
use Rattle.tx_records.specs.Limits.{is_u32}
use Rattle.ledger_model.specs.Ledger.{Ledger}
use Rattle.ledger_model.specs.Supply.{supply_of}
use Rattle.run_model.specs.Laws.{IsAsFrozen, IsCoveredUpdate, IsWithinDormantBound}
use Rattle.run_model.specs.SoundWorld.{AreSoundProposals, AreSoundStakes, IsSoundLedger, IsSoundSnapshot, activity_set_by, held_by}
use Rattle.run_model.specs.Step.{rewards_in, rewards_out}
use Rattle.run_model.specs.World.{World}
use Rattle.dormant_laws.proofs.Lists.{left_of, right_of}
use Rattle.text_forms.specs.Actions.{are_proposals, is_action, is_governance_update, is_proposal, is_update}
use Rattle.text_forms.specs.Ids.{is_map, is_rising}
use Rattle.text_forms.specs.Snapshots.{are_stakes, is_snapshot}
use Rattle.text_forms.specs.States.{are_governance_params, are_params, is_committee, is_state}
use Rattle.checkpoint_model.specs.Laws.{ResumableIsSound}
use Rattle.checkpoint_model.specs.Resumable.{IsResumable, are_within, has_book_form, has_plain_form, is_covered, is_within_dormant_bound, live_of, unvoted}

-- ---- tests as facts

all_less : {K : Type 0} (cmp : K → K → Ordering) (k : K) (ks : List K) → list_all (λ q. is_lt (cmp k q)) ks ≡ true → AllByRecursion (λ q. cmp k q ≡ Less) ks
all_less cmp k [] h = tt
all_less cmp k (q ∷ ks) h = (is_less (cmp k q) (left_of _ _ h), all_less cmp k ks (right_of _ _ h))

pub set_from_rising : {K : Type 0} (cmp : K → K → Ordering) (ks : List K) → is_rising cmp ks ≡ true → IsSet cmp ks
unfolding IsStrictlySortedBy
set_from_rising cmp [] h = tt
set_from_rising cmp (k ∷ ks) h = (all_less cmp k ks (left_of _ _ h), set_from_rising cmp ks (right_of _ _ h))

map_from : {K X : Type 0} (cmp : K → K → Ordering) (es : List (K × X)) → is_map cmp es ≡ true → IsMap cmp es
map_from cmp es h = set_from_rising cmp (keys_of es) h

each_true : {A : Type 0} (p : A → Bool) (xs : List A) → list_all p xs ≡ true → AllByRecursion (λ x. p x ≡ true) xs
each_true p [] h = tt
each_true p (x ∷ xs) h = (left_of _ _ h, each_true p xs (right_of _ _ h))

keys_true : {K X : Type 0} (p : K → Bool) (es : List (K × X)) → list_all (λ e. p e.0) es ≡ true → AllByRecursion (λ k. p k ≡ true) (keys_of es)
keys_true p [] h = tt
keys_true p (e ∷ es) h = (left_of _ _ h, keys_true p es (right_of _ _ h))

-- what passes of each value passes of one that is found
found : {K X : Type 0} (p : X → Bool) (cmp : K → K → Ordering) (k : K) (es : List (K × X)) (x : X) → list_all (λ e. p e.1) es ≡ true → value_at cmp es k ≡ Some x → p x ≡ true
found p cmp k [] x h e = absurd (none-some x e)
found {K} {X} p cmp k (q ∷ es) x h e =
    elim (is_at (cmp k) q.0) as (λ b. cond b (Some q.1) (lookup (is_at (cmp k)) es) ≡ Some x → p x ≡ true) [
      | true ↦ λ e. subst (λ (y : X). p y ≡ true) (same_Some q.1 x e) (left_of (p q.1) (list_all (λ (y : K × X). p y.1) es) h)
      | false ↦ λ e. found p cmp k es x (right_of (p q.1) (list_all (λ (y : K × X). p y.1) es) h) e
    ] e

-- ---- proposals

active_number : (n : ℕ) → is_u32 n ≡ true → n ≤ 2 ^ 32
active_number n h = let small : n < 2 ^ 32 = ltb-true n (2 ^ 32) h in omega (arith, small)

active_option : (o : Option ℕ) → none_or is_u32 o ≡ true → unwrap_or o 0 ≤ 2 ^ 32
active_option None h = omega arith
active_option (Some n) h = active_number n h

update_active : (u : Update) → is_update u ≡ true → unwrap_or u.drep_activity 0 ≤ 2 ^ 32
update_active u h =
    let g : is_governance_update u ≡ true = right_of _ _ h in
    active_option u.drep_activity (right_of _ _ (left_of _ _ (left_of _ _ g)))

action_active : (a : Action) → is_action a ≡ true → activity_set_by a ≤ 2 ^ 32
action_active (NoConfidence previous) h = omega arith
action_active (UpdateCommittee previous remove add threshold) h = omega arith
action_active (NewConstitution previous document script) h = omega arith
action_active (HardForkInitiation previous version) h = omega arith
action_active (ParameterChange previous update policy) h = update_active update (right_of _ _ (left_of _ _ h))
action_active (TreasuryWithdrawals targets policy) h = omega arith
action_active Info h = omega arith

proposal_active : (p : Proposal) → is_proposal p ≡ true → activity_set_by p.action ≤ 2 ^ 32
proposal_active p h = action_active p.action (right_of _ _ (left_of _ _ (left_of _ _ (left_of _ _ (left_of _ _ (left_of _ _ h))))))

each_voted : (ps : List Proposal) → list_all is_proposal ps ≡ true → AllByRecursion (λ (p : Proposal). IsMap voter_cmp p.votes) ps
each_voted [] h = tt
each_voted (p ∷ ps) h = (map_from voter_cmp p.votes (right_of _ _ (left_of (is_proposal p) (list_all is_proposal ps) h)), each_voted ps (right_of (is_proposal p) (list_all is_proposal ps) h))

each_active : (ps : List Proposal) → list_all is_proposal ps ≡ true → AllByRecursion (λ (p : Proposal). activity_set_by p.action ≤ 2 ^ 32) ps
each_active [] h = tt
each_active (p ∷ ps) h = (proposal_active p (left_of (is_proposal p) (list_all is_proposal ps) h), each_active ps (right_of (is_proposal p) (list_all is_proposal ps) h))

proposals_sound : (ps : List Proposal) → are_proposals ps ≡ true → AreSoundProposals ps
proposals_sound ps h =
    let each : list_all is_proposal ps ≡ true = left_of _ _ h in
    record {
      ids = distinct_from_repeats action_id_cmp (ids_of ps) (not-true _ (right_of _ _ h));
      votes = each_voted ps each;
      activities = each_active ps each;
    }

-- ---- what can be enacted

seated : (o : Option Committee) → none_or is_committee o ≡ true → IsMap credential_cmp (members_of o)
seated None h = set_from_rising credential_cmp [] refl
seated (Some c) h = map_from credential_cmp c.members (left_of _ _ (left_of _ _ h))

state_seated : (s : EnactState) → is_state s ≡ true → IsMap credential_cmp (members_of s.committee)
state_seated s h = seated s.committee (right_of _ _ (left_of _ _ (left_of _ _ (left_of _ _ (left_of _ _ h)))))

params_active : (p : Params) → are_params p ≡ true → p.drep_activity ≤ 2 ^ 32
params_active p h =
    let g : are_governance_params p ≡ true = right_of _ _ h in
    active_number p.drep_activity (right_of _ _ (left_of _ _ (left_of _ _ g)))

state_active : (s : EnactState) → is_state s ≡ true → s.params.drep_activity ≤ 2 ^ 32
state_active s h = params_active s.params (left_of _ _ (left_of _ _ (left_of _ _ (left_of _ _ (left_of _ _ (left_of _ _ h))))))

-- ---- the ledger

awake : (n : ℕ) (ps : List Proposal) → ((n == 0) || is_empty ps) ≡ true → (n ≡ 0) ⊎ (ps ≡ [])
awake n [] h = inr refl
awake n (p ∷ ps) h =
    elim (n == 0) as (λ b. (n == 0) ≡ b → (b || false) ≡ true → (n ≡ 0) ⊎ ((p ∷ ps) ≡ [])) [
      | true ↦ λ e h. inl (eqb-true n 0 e)
      | false ↦ λ e h. absurd (false≢true h)
    ] refl h

dormancy : (l : Ledger) → is_within_dormant_bound l ≡ true → IsWithinDormantBound l
dormancy l h =
    let front = left_of _ _ h in
    record {
      awake = awake l.dormant l.proposals (left_of _ _ front);
      at_most = leb-true l.dormant l.epoch (right_of _ _ front);
      expiries = λ c d e. leb-true (d.expiry + l.dormant) (2 ^ 62 + 2 ^ 32 + l.epoch)
          (found (λ (x : DrepState). nat_le (x.expiry + l.dormant) (2 ^ 62 + 2 ^ 32 + l.epoch)) credential_cmp c l.dreps d (right_of _ _ h) e);
    }

-- the tests of the form, by name
record IsFormed (w : World) : Type 0 where
  plain : has_plain_form w.ledger ≡ true
  state : is_state w.ledger.state ≡ true
  books : has_book_form w.ledger ≡ true
  mark : are_stakes w.mark ≡ true
  set : are_stakes w.set ≡ true
  go : are_stakes w.go ≡ true
  frozen : is_snapshot w.frozen ≡ true

formed : (w : World) → IsResumable w → IsFormed w
formed w h =
    let a = left_of _ _ h.form in
    let b = left_of _ _ a in
    let c = left_of _ _ b in
    let d = left_of _ _ c in
    let e = left_of _ _ d in
    let f = left_of _ _ e in
    let g = left_of _ _ f in
    record { plain = left_of _ _ g; state = right_of _ _ g; books = right_of _ _ f; mark = right_of _ _ d; set = right_of _ _ c; go = right_of _ _ b; frozen = right_of _ _ h.form }

-- the maps of the ledger
record HasMaps (l : Ledger) : Type 0 where
  outputs : is_map outref_cmp l.outputs ≡ true
  used : is_rising txid_cmp l.used ≡ true
  accounts : is_map credential_cmp l.accounts ≡ true
  pools : is_map pool_cmp l.pools ≡ true
  dreps : is_map credential_cmp l.dreps ≡ true
  hot : is_map credential_cmp l.hot ≡ true
  proposals : are_proposals l.proposals ≡ true

has_maps : (l : Ledger) → has_book_form l ≡ true → HasMaps l
has_maps l h =
    let a = left_of _ _ h in
    let b = left_of _ _ a in
    let c = left_of _ _ b in
    let d = left_of _ _ c in
    let e = left_of _ _ d in
    let f = left_of _ _ e in
    let g = left_of _ _ f in
    let i = left_of _ _ g in
    let j = left_of _ _ i in
    let k = left_of _ _ j in
    let m = left_of _ _ k in
    record { outputs = left_of _ _ m; used = right_of _ _ k; accounts = right_of _ _ i; pools = right_of _ _ f; dreps = right_of _ _ d; hot = right_of _ _ b; proposals = right_of _ _ h }

-- slot and the length of an epoch
record IsPlain (l : Ledger) : Type 0 where
  lasting : 0 < l.epoch_length
  slot : l.slot < 2 ^ 62

is_plain : (l : Ledger) → has_plain_form l ≡ true → IsPlain l
is_plain l h =
    let slot = left_of _ _ (left_of _ _ (left_of _ _ (left_of _ _ h))) in
    let long = left_of _ _ (left_of _ _ (left_of _ _ slot)) in
    record { lasting = ltb-true 0 l.epoch_length (right_of _ _ long); slot = ltb-true l.slot (2 ^ 62) (right_of _ _ slot) }

ledger_sound : (w : World) → IsResumable w → IsSoundLedger w.ledger
ledger_sound w h =
    let l : Ledger = w.ledger in
    let f : IsFormed w = formed w h in
    let m : HasMaps l = has_maps l f.books in
    let p : IsPlain l = is_plain l f.plain in
    let clock : l.epoch ≡ l.slot / l.epoch_length = eqb-true l.epoch (l.slot / l.epoch_length) h.time in
    record {
      maps = record {
        outputs = map_from outref_cmp l.outputs m.outputs;
        used = set_from_rising txid_cmp l.used m.used;
        accounts = map_from credential_cmp l.accounts m.accounts;
        pools = map_from pool_cmp l.pools m.pools;
        dreps = map_from credential_cmp l.dreps m.dreps;
        hot = map_from credential_cmp l.hot m.hot;
        ids_used = keys_true (λ (r : OutRef). has_member txid_cmp l.used r.tx) l.outputs (left_of _ _ h.ids);
      };
      proposals = proposals_sound l.proposals m.proposals;
      ids_used = each_true (λ (q : Proposal). has_member txid_cmp l.used q.id.tx) l.proposals (right_of _ _ h.ids);
      committee = state_seated l.state f.state;
      balanced = eqb-true (supply_of l) l.supply (left_of _ _ h.supply);
      within = leb-true l.supply SUPPLY_LIMIT (right_of _ _ h.supply);
      lasting = omega (arith, p.lasting);
      slot = p.slot;
      epoch = omega (arith, clock, div-le_self l.slot l.epoch_length, p.slot);
      dormancy = dormancy l h.dormancy;
      activity = state_active l.state f.state;
    }

-- ---- what is frozen

snapshot_sound : (supply : ℕ) (f : Snapshot) → is_snapshot f ≡ true → sum_values held_by f.entries + deposits_of f.proposals ≤ supply → IsSoundSnapshot supply f
snapshot_sound supply f h held =
    let state = left_of _ _ h in
    let hots = left_of _ _ (left_of _ _ state) in
    let accounts = left_of _ _ hots in
    let stakes = left_of _ _ accounts in
    let dreps = left_of _ _ stakes in
    let two = left_of _ _ dreps in
    record {
      entries = map_from credential_cmp f.entries (left_of _ _ (left_of _ _ two));
      dreps = map_from credential_cmp f.dreps (right_of _ _ two);
      pool_accounts = map_from pool_cmp f.pool_accounts (left_of _ _ (left_of _ _ (right_of _ _ accounts)));
      hot = map_from credential_cmp f.hot (right_of _ _ hots);
      proposals = proposals_sound f.proposals (right_of _ _ state);
      committee = state_seated f.start (right_of _ _ h);
      held = held;
      activity = state_active f.start (right_of _ _ h);
    }

stakes_sound : (supply : ℕ) (stakes : List (PoolId × ℕ)) → are_stakes stakes ≡ true → are_within supply stakes ≡ true → AreSoundStakes supply stakes
stakes_sound supply stakes h k = record { pools = map_from pool_cmp stakes (left_of _ _ h); sum = leb-true (sum_values (λ n. n) stakes) supply k }

-- ---- what remains

covered : (l : Ledger) (u : Rewards) → is_covered l u ≡ true → IsCoveredUpdate l u
covered l u h =
    let front = left_of _ _ h in
    record {
      balanced = eqb-true (rewards_in u) (rewards_out u) (right_of _ _ (left_of _ _ front));
      reserves_cover = leb-true u.from_reserves l.reserves (right_of _ _ front);
      fees_cover = leb-true u.from_fees l.fees (right_of _ _ h);
    }

pending_covered : (l : Ledger) (o : Option Rewards) (u : Rewards) → none_or (is_covered l) o ≡ true → o ≡ Some u → IsCoveredUpdate l u
pending_covered l None u h e = absurd (none-some u e)
pending_covered l (Some v) u h e = subst (λ (x : Rewards). IsCoveredUpdate l x) (same_Some v u e) (covered l v h)

-- a proposal that is the same except its votes
abbrev Alike : List Proposal → Proposal → Type 0
Alike ps a = (b : Proposal) × Contains ps b × (unvoted b ≡ unvoted a)

alike_later : (p : Proposal) (ps : List Proposal) (a : Proposal) → Alike ps a → Alike (p ∷ ps) a
alike_later p ps a x = (x.0, Contains-append_right (p ∷ []) ps x.0 x.1, x.2)

alike_at : (k : ℕ) (ps qs : List Proposal) (a : Proposal) → map unvoted ps ≡ map unvoted qs → k < length qs → get_or qs k a ≡ a → Alike ps a
alike_at k ps [] a e l at = absurd (omega arith)
alike_at k [] (q ∷ qs) a e l at = cc
alike_at zero (p ∷ ps) (q ∷ qs) a e l at =
    let first : unvoted p ≡ unvoted q = cc in
    (p, Contains-get_or (p ∷ ps) 0 p (omega arith), first ∙ ap unvoted at)
alike_at (suc k) (p ∷ ps) (q ∷ qs) a e l at =
    let rest : map unvoted ps ≡ map unvoted qs = cc in
    alike_later p ps a (alike_at k ps qs a rest (omega (arith, l)) at)

live_alike : (w : World) → IsResumable w → (a : Proposal) → Contains w.frozen.proposals a → (b : Proposal) × Contains w.ledger.proposals b × (record a { votes = b.votes } ≡ b)
live_alike w h a c =
    let ps : List Proposal = live_of w.frozen.proposals w.ledger.proposals in
    let x : Alike ps a = alike_at c.0 ps w.frozen.proposals a h.proposals c.1 c.2 in
    let test = is_one_of (ids_of w.frozen.proposals) in
    let live : Contains w.ledger.proposals x.0 =
    All-contains (Contains w.ledger.proposals) ps x.0 (All-filter test (Contains w.ledger.proposals) w.ledger.proposals (All-contains_itself w.ledger.proposals)) x.1 in
    (x.0, live, ap (λ (p : Proposal). record p { votes = x.0.votes }) (sym x.2))

still_stands : (w : World) → IsResumable w → IsAsFrozen w
still_stands w h = record {
  epoch = h.epoch;
  state = sym (ap (λ (s : EnactState). record s { treasury = w.ledger.state.treasury }) h.state);
  treasury = leb-true w.frozen.start.treasury w.ledger.state.treasury h.treasury;
  pending = λ u e. pending_covered w.ledger w.pending u h.pending e;
  live = λ a c. live_alike w h a c;
}

pub resumable_is_sound : ResumableIsSound
resumable_is_sound w h =
    let f : IsFormed w = formed w h in
    let fees = left_of _ _ h.within in
    let go = left_of _ _ fees in
    let set = left_of _ _ go in
    record {
      ledger = ledger_sound w h;
      frozen = snapshot_sound w.ledger.supply w.frozen f.frozen (leb-true (sum_values held_by w.frozen.entries + deposits_of w.frozen.proposals) w.ledger.supply (right_of _ _ h.within));
      stands = still_stands w h;
      marked = h.mark;
      mark = stakes_sound w.ledger.supply w.mark f.mark (left_of _ _ set);
      set = stakes_sound w.ledger.supply w.set f.set (right_of _ _ set);
      go = stakes_sound w.ledger.supply w.go f.go (right_of _ _ go);
      fees = leb-true w.noted_fees w.ledger.supply (right_of _ _ fees);
      counted = leb-true w.counted (entry_count w.frozen) h.counted;
    }
