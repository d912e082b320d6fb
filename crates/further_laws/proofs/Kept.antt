-- What every World that records reach keeps of what a checkpoint asks, and that its certificates fit.
use Rattle.std.proofs.Common.{◌≡◌, ℕ, ◌+◌, ◌/◌, ◌^◌, ◌==◌, ◌<◌, ◌≤◌, List, [], ◌∷◌, Bool, true, false, ◌||◌, inl, inr, ◌⊎◌, Option, Some, None, nat_le, refl, ap, sym, subst, ◌∙◌, arith}
use Rattle.std.specs.List.{AllByRecursion, list_all}
use Rattle.std.specs.Map.{keys_of, values_of}
use Rattle.std.proofs.Math.Nat.{div-le_self}
use Rattle.std.proofs.lemmas.Bool.{and_from, eq-eqb, eqb-true, le-leb, lt-ltb, not-false, or_left, or_right}
use Rattle.maps.specs.Maps.{IsMap, has_member, sum_values}
use Rattle.maps.specs.Words.{is_empty, none_or}
use Rattle.gov_ids.specs.declared.OutRef.{OutRef}
use Rattle.gov_ids.specs.declared.PoolId.{PoolId}
use Rattle.gov_ids.specs.Orders.{credential_cmp, txid_cmp}
use Rattle.book_records.specs.declared.DrepState.{DrepState}
use Rattle.gov_actions.specs.declared.action.Proposal.{Proposal}
use Rattle.gov_actions.specs.declared.state.EnactState.{EnactState}
use Rattle.gov_model.specs.Proposals.{deposits_of}
use Rattle.gov_model.specs.Snapshot.{entry_count}
use Rattle.coin_frac.specs.declared.TheConstants.{SUPPLY_LIMIT}
use Rattle.tx_records.specs.declared.record.Record.{Record}
use Rattle.tx_records.specs.declared.record.Record.TheVariants as records
use Rattle.tx_records.specs.declared.record.Rewards.{Rewards}
use Rattle.tx_records.specs.declared.reply.Rule.{Rule}
use Rattle.tx_records.specs.RecordLimits.{is_within_limits}
use Rattle.ledger_model.specs.Ledger.{Ledger}
use Rattle.ledger_model.specs.Supply.{supply_of}
use Rattle.ledger_model.proofs.Unbroken.{IsUnbroken, unbroken-cons}
use Rattle.run_model.specs.Genesis.{world_of_genesis}
use Rattle.run_model.specs.Laws.{IsCoveredUpdate, IsWithinDormantBound}
use Rattle.run_model.specs.Runs.{IsReached, world_after_all}
use Rattle.run_model.specs.SoundWorld.{IsSoundWorld, held_by}
use Rattle.run_model.specs.Step.{crossed, enters_next, pulsed, refusal_of, reward_checks, rewards_in, rewards_out, step, step_by, world_after_accepted}
use Rattle.run_model.specs.World.{World}
use Rattle.dormant_laws.proofs.Dormant.{all_from_found}
use Rattle.dormant_laws.proofs.Lists.{left_of, right_of}
use Rattle.tx_balance.proofs.Sounds.{tx_steady}
use Rattle.run_laws.proofs.Sound.{genesis_begins_sound, records_keep_sound}
use Rattle.certificate_model.specs.Fits.{Fits}
use Rattle.certificate_model.specs.Laws.{ReachedIsCertified}
use Rattle.checkpoint_model.specs.Laws.{ReachedIsResumable}
use Rattle.checkpoint_model.specs.Resumable.{holds_supply, is_covered, is_within_dormant_bound, is_within_supply, uses_ids}
use Rattle.further_laws.proofs.ChainedRuns.{reached_chained}
use Rattle.further_laws.proofs.Delegations.{reached_delegates}
use Rattle.further_laws.proofs.Followed.{sound_all}
use Rattle.further_laws.proofs.Fronted.{live_in_order}
use Rattle.further_laws.proofs.Lengths.{short_by_form}
use Rattle.further_laws.proofs.Reached.{reached_entries_count, reached_is_timed}

-- ---- a reached World is sound

sound : (w : World) → IsReached w → IsSoundWorld w
sound w h = subst (λ (v : World). IsSoundWorld v) h.reached (sound_all h.records (world_of_genesis h.genesis) (genesis_begins_sound h.genesis h.within h.no_fault) h.all_within)

-- ---- facts as tests

all_true : {A : Type 0} (p : A → Bool) (xs : List A) → AllByRecursion (λ x. p x ≡ true) xs → list_all p xs ≡ true
all_true p [] h = refl
all_true p (x ∷ xs) h = and_from (p x) (list_all p xs) h.0 (all_true p xs h.1)

keys_pass : {K X : Type 0} (p : K → Bool) (es : List (K × X)) → AllByRecursion (λ k. p k ≡ true) (keys_of es) → list_all (λ e. p e.0) es ≡ true
keys_pass p [] h = refl
keys_pass {K} {X} p (e ∷ es) h = and_from (p e.0) (list_all (λ (x : K × X). p x.0) es) h.0 (keys_pass p es h.1)

values_pass : {K X : Type 0} (p : X → Bool) (es : List (K × X)) → AllByRecursion (λ x. p x ≡ true) (values_of es) → list_all (λ e. p e.1) es ≡ true
values_pass p [] h = refl
values_pass {K} {X} p (e ∷ es) h = and_from (p e.1) (list_all (λ (x : K × X). p x.1) es) h.0 (values_pass p es h.1)

awake : (n : ℕ) (ps : List Proposal) → (n ≡ 0) ⊎ (ps ≡ []) → ((n == 0) || is_empty ps) ≡ true
awake n ps (inl e) = or_left (n == 0) (is_empty ps) (eq-eqb n 0 e)
awake n ps (inr e) = or_right (n == 0) (is_empty ps) (ap (λ (xs : List Proposal). is_empty xs) e)

dormancy : (l : Ledger) → IsMap credential_cmp l.dreps → IsWithinDormantBound l → is_within_dormant_bound l ≡ true
dormancy l m b =
    let expires : AllByRecursion (λ (d : DrepState). nat_le (d.expiry + l.dormant) (2 ^ 62 + 2 ^ 32 + l.epoch) ≡ true) (values_of l.dreps) =
    all_from_found (λ (d : DrepState). nat_le (d.expiry + l.dormant) (2 ^ 62 + 2 ^ 32 + l.epoch) ≡ true) l.dreps m
    (λ k d e. le-leb (d.expiry + l.dormant) (2 ^ 62 + 2 ^ 32 + l.epoch) (b.expiries k d e)) in
    and_from _ _ (and_from _ _ (awake l.dormant l.proposals b.awake) (le-leb l.dormant l.epoch b.at_most))
    (values_pass (λ (d : DrepState). nat_le (d.expiry + l.dormant) (2 ^ 62 + 2 ^ 32 + l.epoch)) l.dreps expires)

-- ---- a pending update is of the current epoch

abbrev IsNow : World → Type 0
IsNow w = none_or (λ (u : Rewards). u.epoch == w.ledger.epoch) w.pending ≡ true

now_block : (b : Bool) (w : World) (slot pulse : ℕ) → IsNow w → IsNow (pulsed slot pulse (crossed b w))
now_block true w slot pulse n = refl
now_block false w slot pulse n = n

now_accepted : (w : World) (r : Record) → IsSoundWorld w → IsNow w → refusal_of w r ≡ None → IsNow (world_after_accepted w r)
now_accepted w (records.Genesis g) s n e = n
now_accepted w (records.Block slot pulse) s n e = now_block (enters_next w.ledger slot) w slot pulse n
now_accepted w (records.Rewards u) s n e =
    let all : IsUnbroken (reward_checks w u) = record { none = e } in
    not-false (u.epoch == w.ledger.epoch) (unbroken-cons _ _ all).0
now_accepted w (records.Tx tx) s n e =
    subst (λ (k : ℕ). none_or (λ (u : Rewards). u.epoch == k) w.pending ≡ true) (ap (λ (l : Ledger). l.epoch) (tx_steady w.ledger tx s.ledger.maps).only) n
now_accepted w (records.Print what) s n e = n

now_step : (o : Option Rule) (w : World) (r : Record) → IsSoundWorld w → IsNow w → refusal_of w r ≡ o → IsNow (step_by o w r).0
now_step (Some rule) w r s n e = n
now_step None w r s n e = now_accepted w r s n e

now_all : (rs : List Record) (w : World) → IsSoundWorld w → IsNow w → list_all is_within_limits rs ≡ true → IsNow (world_after_all w rs)
now_all [] w s n h = n
now_all (r ∷ rs) w s n h =
    now_all rs (step w r).0 (records_keep_sound w r s (left_of _ _ h)) (now_step (refusal_of w r) w r s n refl) (right_of _ _ h)

now : (w : World) → IsReached w → IsNow w
now w h =
    subst (λ (v : World). IsNow v) h.reached
    (now_all h.records (world_of_genesis h.genesis) (genesis_begins_sound h.genesis h.within h.no_fault) refl h.all_within)

covered : (l : Ledger) (o : Option Rewards) → none_or (λ (u : Rewards). u.epoch == l.epoch) o ≡ true → ((u : Rewards) → o ≡ Some u → IsCoveredUpdate l u) → none_or (is_covered l) o ≡ true
covered l None n f = refl
covered l (Some u) n f =
    let c : IsCoveredUpdate l u = f u refl in
    and_from _ _ (and_from _ _ (and_from _ _ n (eq-eqb (rewards_in u) (rewards_out u) c.balanced)) (le-leb u.from_reserves l.reserves c.reserves_cover)) (le-leb u.from_fees l.fees c.fees_cover)

-- ---- all that is required except form

ids : (w : World) → IsSoundWorld w → uses_ids w.ledger ≡ true
ids w s =
    and_from _ _ (keys_pass (λ (r : OutRef). has_member txid_cmp w.ledger.used r.tx) w.ledger.outputs s.ledger.maps.ids_used)
    (all_true (λ (p : Proposal). has_member txid_cmp w.ledger.used p.id.tx) w.ledger.proposals s.ledger.ids_used)

within : (w : World) → IsSoundWorld w → is_within_supply w ≡ true
within w s =
    let n : ℕ = w.ledger.supply in
    and_from _ _ (
    and_from _ _ (
    and_from _ _ (and_from _ _ (le-leb (sum_values (λ m. m) w.mark) n s.mark.sum) (le-leb (sum_values (λ m. m) w.set) n s.set.sum)) (le-leb (sum_values (λ m. m) w.go) n s.go.sum)
    ) (le-leb w.noted_fees n s.fees)
    ) (le-leb (sum_values held_by w.frozen.entries + deposits_of w.frozen.proposals) n s.frozen.held)

pub reached_is_resumable : ReachedIsResumable
reached_is_resumable w h form counted actions =
    let s : IsSoundWorld w = sound w h in
    let supply : holds_supply w.ledger ≡ true = and_from _ _ (eq-eqb (supply_of w.ledger) w.ledger.supply s.ledger.balanced) (le-leb w.ledger.supply SUPPLY_LIMIT s.ledger.within) in
    record {
      form = form;
      time = reached_is_timed w h;
      dormancy = dormancy w.ledger s.ledger.maps.dreps s.ledger.dormancy;
      delegations = reached_delegates w h;
      supply = supply;
      ids = ids w s;
      chains = reached_chained w h;
      pending = covered w.ledger w.pending (now w h) s.stands.pending;
      within = within w s;
      entries = reached_entries_count w h;
      counted = le-leb w.counted (entry_count w.frozen) s.counted;
      epoch = s.stands.epoch;
      mark = s.marked;
      state = sym (ap (λ (x : EnactState). record x { treasury = w.frozen.start.treasury }) s.stands.state);
      treasury = le-leb w.frozen.start.treasury w.ledger.state.treasury s.stands.treasury;
      proposals = live_in_order w h s.ledger.proposals.ids;
      short = short_by_form w form (reached_is_timed w h) supply counted actions;
    }

-- ---- certificates

pub reached_is_certified : ReachedIsCertified
reached_is_certified w h form short answer says =
    let s : IsSoundWorld w = sound w h in
    let clock : w.ledger.epoch ≡ w.ledger.slot / w.ledger.epoch_length = eqb-true w.ledger.epoch (w.ledger.slot / w.ledger.epoch_length) (reached_is_timed w h) in
    let early : w.frozen.epoch < 2 ^ 62 = omega (arith, s.stands.epoch, clock, div-le_self w.ledger.slot w.ledger.epoch_length, s.ledger.slot) in
    let held : sum_values held_by w.frozen.entries + deposits_of w.frozen.proposals ≤ SUPPLY_LIMIT = omega (arith, s.frozen.held, s.ledger.within) in
    let mark : sum_values (λ n. n) w.mark ≤ SUPPLY_LIMIT = omega (arith, s.mark.sum, s.ledger.within) in
    let fits : Fits w.frozen = record {
      form = form;
      epoch = lt-ltb w.frozen.epoch (2 ^ 62) early;
      held = le-leb (sum_values held_by w.frozen.entries + deposits_of w.frozen.proposals) SUPPLY_LIMIT held;
      mark = ap (λ (m : List (PoolId × ℕ)). nat_le (sum_values (λ n. n) m) SUPPLY_LIMIT) s.marked ∙ le-leb (sum_values (λ n. n) w.mark) SUPPLY_LIMIT mark;
      short = short;
    } in
    says.1 (record { snapshot = w.frozen; fits = fits; text = refl })
