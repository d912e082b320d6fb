-- Each record of the form leaves a sound World of the form in it.
use Rattle.std.proofs.Common.{◌≡◌, ℕ, ◌+◌, ◌^◌, ◌<◌, List, [], ◌∷◌, Bool, true, false, ◌&&◌, Option, Some, None, refl, arith}
use Rattle.std.specs.List.{AllByRecursion, list_all}
use Rattle.std.specs.Map.{keys_of}
use Rattle.std.proofs.Math.Nat.{div-le_self}
use Rattle.std.proofs.lemmas.Bool.{and_from, eqb-true, ltb-true}
use Rattle.maps.specs.Maps.{IsMap, with_values}
use Rattle.maps.specs.Words.{none_or}
use Rattle.maps.proofs.Kept.{IsMap-with_values}
use Rattle.gov_ids.specs.declared.Credential.{Credential}
use Rattle.gov_ids.specs.declared.OutRef.{OutRef}
use Rattle.gov_ids.specs.declared.PoolId.{PoolId}
use Rattle.gov_ids.specs.declared.Voter.{Voter}
use Rattle.gov_ids.specs.Orders.{credential_cmp}
use Rattle.gov_ids.proofs.Totals.{credential_total}
use Rattle.book_records.specs.declared.DrepState.{DrepState}
use Rattle.book_records.specs.declared.Output.{Output}
use Rattle.book_records.specs.declared.pool.Pool.{Pool}
use Rattle.book_records.specs.declared.Registered.{Registered}
use Rattle.gov_actions.specs.declared.action.Proposal.{Proposal}
use Rattle.gov_actions.specs.declared.action.Vote.{Vote}
use Rattle.gov_actions.specs.declared.state.Committee.{Committee}
use Rattle.gov_actions.specs.declared.state.EnactState.{EnactState}
use Rattle.gov_actions.specs.declared.state.HotState.{HotState}
use Rattle.gov_model.specs.Snapshot.{Snapshot}
use Rattle.genesis_balance.proofs.Start.{empty_sorted}
use Rattle.tx_records.specs.declared.record.Record.{Record}
use Rattle.tx_records.specs.declared.record.Record.TheVariants as records
use Rattle.tx_records.specs.declared.record.Rewards.{Rewards}
use Rattle.tx_records.specs.declared.reply.Rule.{Rule}
use Rattle.tx_records.specs.Limits.{is_u64}
use Rattle.tx_records.specs.RecordLimits.{is_within_limits}
use Rattle.ledger_model.specs.Ledger.{Ledger}
use Rattle.run_model.specs.Boundary.{after_dormancy, after_rewards, world_after_boundary}
use Rattle.run_model.specs.SoundWorld.{IsSoundWorld}
use Rattle.run_model.specs.Step.{crossed, enters_next, epoch_at, in_order_of_credential, pulsed, refusal_of, step_by, world_after_accepted}
use Rattle.run_model.specs.World.{World, on_ledger}
use Rattle.run_laws.proofs.Sound.{boundaries_keep_sound, records_keep_sound}
use Rattle.dormant_laws.proofs.Lists.{left_of, right_of}
use Rattle.text_forms.specs.Actions.{is_member, is_proposal, is_vote}
use Rattle.text_forms.specs.Books as books
use Rattle.text_forms.specs.Ids.{is_address, is_credential, is_drep_id, is_map, is_pool_id, is_ref, is_tx_id, is_unit, is_voter}
use Rattle.text_forms.specs.Snapshots.{are_stakes, is_snapshot}
use Rattle.text_forms.specs.States.{is_committee, is_state}
use Rattle.checkpoint_model.specs.Resumable.{has_book_form, has_form, has_plain_form, is_pending_form}
use Rattle.formed_laws.specs.Laws.{RecordsKeepForm}
use Rattle.formed_laws.specs.Records.{is_formed}
use Rattle.formed_laws.specs.Worlds.{are_conway_forks, is_conway_fork, keeps_form}
use Rattle.formed_laws.proofs.Boundaries.{boundary_keeps_parts, first_parts, slot_now}
use Rattle.formed_laws.proofs.Each.{Each, all_true, each-with_values, each_true, rising_from_set}
use Rattle.formed_laws.proofs.Parts.{HasParts, HasState, IsKept, is_any, is_kept_account, is_kept_drep, is_kept_output, is_kept_pool, is_seated}
use Rattle.formed_laws.proofs.Transactions.{tx_keeps_parts}
use Rattle.formed_laws.proofs.Whole.{books_formed, live_state_formed, plain_formed, pools_named, small, snapshot_formed, stakes_formed}

-- what of a World has the form whatever the sizes of its pots
pub record IsFormed (w : World) : Type 0 where
  pub parts : HasParts w.ledger
  pub pending : none_or is_pending_form w.pending ≡ true
  pub mark : are_stakes w.mark ≡ true
  pub set : are_stakes w.set ≡ true
  pub go : are_stakes w.go ≡ true
  pub frozen : is_snapshot w.frozen ≡ true
  pub forks : AllByRecursion (λ (p : Proposal). is_conway_fork p.action ≡ true) w.frozen.proposals

-- ---- from the tests

outputs_parts : (es : List (OutRef × Output)) → list_all books.is_output es ≡ true → Each is_ref is_kept_output es
outputs_parts [] h = tt
outputs_parts (e ∷ es) h =
    let here : books.is_output e ≡ true = left_of (books.is_output e) (list_all books.is_output es) h in
    let lovelace = left_of _ _ here in
    let address = left_of _ _ lovelace in
    ((left_of _ _ address, and_from _ (books.are_held_assets e.1.assets) (and_from (is_address e.1.address) (is_u64 e.1.lovelace) (right_of (is_ref e.0) _ address) (right_of (is_ref e.0 && is_address e.1.address) _ lovelace)) (right_of (is_ref e.0 && is_address e.1.address && is_u64 e.1.lovelace) _ here)), outputs_parts es (right_of (books.is_output e) (list_all books.is_output es) h))

accounts_parts : (es : List (Credential × Registered)) → list_all books.is_account es ≡ true → Each is_credential is_kept_account es
accounts_parts [] h = tt
accounts_parts (e ∷ es) h =
    let here : books.is_account e ≡ true = left_of (books.is_account e) (list_all books.is_account es) h in
    let drep = right_of (is_credential e.0) _ here in
    let pool = left_of _ (none_or is_drep_id e.1.drep) drep in
    ((left_of _ _ here, and_from (is_u64 e.1.deposit) _ (left_of _ (is_u64 e.1.rewards) (left_of _ (none_or is_pool_id e.1.pool) pool)) (and_from (none_or is_pool_id e.1.pool) (none_or is_drep_id e.1.drep) (right_of (is_u64 e.1.deposit && is_u64 e.1.rewards) _ pool) (right_of (is_u64 e.1.deposit && is_u64 e.1.rewards && none_or is_pool_id e.1.pool) _ drep))), accounts_parts es (right_of (books.is_account e) (list_all books.is_account es) h))

pools_parts : (es : List (PoolId × Pool)) → list_all books.is_pool es ≡ true → Each is_pool_id is_kept_pool es
pools_parts [] h = tt
pools_parts (e ∷ es) h =
    let here : books.is_pool e ≡ true = left_of (books.is_pool e) (list_all books.is_pool es) h in
    let future = left_of _ _ here in
    let terms = left_of _ _ future in
    let deposit = left_of _ _ terms in
    ((left_of _ _ deposit, and_from _ (none_or is_u64 e.1.retires) (and_from _ (none_or books.are_terms e.1.future) (and_from (is_u64 e.1.deposit) (books.are_terms e.1.terms) (right_of (is_pool_id e.0) _ deposit) (right_of (is_pool_id e.0 && is_u64 e.1.deposit) _ terms)) (right_of (is_pool_id e.0 && is_u64 e.1.deposit && books.are_terms e.1.terms) _ future)) (right_of (is_pool_id e.0 && is_u64 e.1.deposit && books.are_terms e.1.terms && none_or books.are_terms e.1.future) _ here)), pools_parts es (right_of (books.is_pool e) (list_all books.is_pool es) h))

dreps_parts : (es : List (Credential × DrepState)) → list_all books.is_drep es ≡ true → Each is_credential is_kept_drep es
dreps_parts [] h = tt
dreps_parts (e ∷ es) h =
    let front = left_of _ _ (left_of (books.is_drep e) (list_all books.is_drep es) h) in
    ((left_of _ _ front, right_of _ _ front), dreps_parts es (right_of (books.is_drep e) (list_all books.is_drep es) h))

hot_parts : (es : List (Credential × HotState)) → list_all books.is_hot es ≡ true → Each is_credential books.is_hot_state es
hot_parts [] h = tt
hot_parts (e ∷ es) h =
    let here : books.is_hot e ≡ true = left_of (books.is_hot e) (list_all books.is_hot es) h in
    ((left_of _ _ here, right_of _ _ here), hot_parts es (right_of (books.is_hot e) (list_all books.is_hot es) h))

votes_parts : (vs : List (Voter × Vote)) → list_all is_vote vs ≡ true → Each is_voter is_any vs
votes_parts [] h = tt
votes_parts (v ∷ vs) h = ((left_of (is_vote v) (list_all is_vote vs) h, refl), votes_parts vs (right_of (is_vote v) (list_all is_vote vs) h))

proposals_parts : (ps : List Proposal) → list_all is_proposal ps ≡ true → AllByRecursion (λ (p : Proposal). is_conway_fork p.action ≡ true) ps → AllByRecursion IsKept ps
proposals_parts [] h k = tt
proposals_parts (p ∷ ps) h k =
    let here : is_proposal p ≡ true = left_of (is_proposal p) (list_all is_proposal ps) h in
    let votes = left_of _ _ here in
    let last = left_of _ _ votes in
    let account = left_of _ _ last in
    let deposit = left_of _ _ account in
    let action = left_of _ _ deposit in
    let kept : IsKept p = record {
      id = left_of _ _ action;
      action = right_of _ _ action;
      fork = k.0;
      deposit = right_of _ _ deposit;
      account = right_of _ _ account;
      last = right_of _ _ last;
      votes = votes_parts p.votes (right_of _ _ votes);
    } in
    (kept, proposals_parts ps (right_of (is_proposal p) (list_all is_proposal ps) h) k.1)

seated_parts : (o : Option Committee) → none_or is_committee o ≡ true → none_or is_seated o ≡ true
seated_parts None h = refl
seated_parts (Some c) h = and_from (list_all is_member c.members) (is_unit c.threshold) (right_of (is_map {X = ℕ} credential_cmp c.members) _ (left_of _ (is_unit c.threshold) h)) (right_of (is_map {X = ℕ} credential_cmp c.members && list_all is_member c.members) _ h)

state_parts : (s : EnactState) → is_state s ≡ true → HasState s
state_parts s h =
    let last = left_of _ _ h in
    let script = left_of _ _ last in
    let document = left_of _ _ script in
    let committee = left_of _ _ document in
    let version = left_of _ _ committee in
    record {
      params = left_of _ _ version;
      version = right_of _ _ version;
      committee = seated_parts s.committee (right_of _ _ committee);
      document = right_of _ _ document;
      script = right_of _ _ script;
      last = right_of _ _ last;
    }

ledger_parts : (l : Ledger) → has_plain_form l ≡ true → is_state l.state ≡ true → has_book_form l ≡ true → are_conway_forks l.proposals ≡ true → HasParts l
ledger_parts l plain state h forks =
    let long = left_of _ _ (left_of _ _ (left_of _ _ (left_of _ _ (left_of _ _ (left_of _ _ plain))))) in
    let hot = left_of _ _ h in
    let dreps = left_of _ _ (left_of _ _ hot) in
    let pools = left_of _ _ (left_of _ _ dreps) in
    let accounts = left_of _ _ (left_of _ _ pools) in
    let used = left_of _ _ (left_of _ _ accounts) in
    let outputs = left_of _ _ (left_of _ _ used) in
    record {
      network = left_of _ _ (left_of _ _ long);
      long = right_of _ _ long;
      state = state_parts l.state state;
      outputs = outputs_parts l.outputs (right_of _ _ outputs);
      used = each_true is_tx_id l.used (right_of _ _ used);
      accounts = accounts_parts l.accounts (right_of _ _ accounts);
      pools = pools_parts l.pools (right_of _ _ pools);
      dreps = dreps_parts l.dreps (right_of _ _ dreps);
      hot = hot_parts l.hot (right_of _ _ hot);
      proposals = proposals_parts l.proposals (left_of _ _ (right_of _ _ h)) (each_true (λ (p : Proposal). is_conway_fork p.action) l.proposals forks);
    }

pub formed_from_test : (w : World) → keeps_form w ≡ true → IsFormed w
formed_from_test w h =
    let front = left_of _ _ h in
    let form : has_form w ≡ true = left_of _ _ front in
    let fees = left_of _ _ form in
    let go = left_of _ _ fees in
    let set = left_of _ _ go in
    let mark = left_of _ _ set in
    let pending = left_of _ _ mark in
    let ledger = left_of _ _ pending in
    let state = left_of _ _ ledger in
    record {
      parts = ledger_parts w.ledger (left_of _ _ state) (right_of _ _ state) (right_of _ _ ledger) (right_of _ _ front);
      pending = right_of _ _ pending;
      mark = right_of _ _ mark;
      set = right_of _ _ set;
      go = right_of _ _ go;
      frozen = right_of _ _ form;
      forks = each_true (λ (p : Proposal). is_conway_fork p.action) w.frozen.proposals (right_of _ _ h);
    }

-- ---- to the tests

live_forks : (ps : List Proposal) → AllByRecursion IsKept ps → are_conway_forks ps ≡ true
live_forks [] h = refl
live_forks (p ∷ ps) h = and_from (is_conway_fork p.action) _ h.0.fork (live_forks ps h.1)

pub has_form_of : (w : World) → IsFormed w → IsSoundWorld w → has_form w ≡ true
has_form_of w f s =
    let l : Ledger = w.ledger in
    let fees : is_u64 w.noted_fees ≡ true = small w.noted_fees (omega (arith, s.fees, s.ledger.within)) in
    let ledger = and_from _ _ (and_from _ _ (plain_formed l f.parts s.ledger) (live_state_formed l f.parts s.ledger)) (books_formed l f.parts s.ledger) in
    and_from _ _ (and_from _ _ (and_from _ _ (and_from _ _ (and_from _ _ (and_from _ _ ledger f.pending) f.mark) f.set) f.go) fees) f.frozen

pub test_from_formed : (w : World) → IsFormed w → IsSoundWorld w → keeps_form w ≡ true
test_from_formed w f s =
    and_from _ _ (and_from _ _ (has_form_of w f s) (live_forks w.ledger.proposals f.parts.proposals)) (all_true (λ (p : Proposal). is_conway_fork p.action) w.frozen.proposals f.forks)

-- ---- a boundary

frozen_state : (f : Snapshot) → is_snapshot f ≡ true → HasState f.start
frozen_state f h = state_parts f.start (right_of _ _ h)

frozen_kept : (f : Snapshot) → is_snapshot f ≡ true → AllByRecursion (λ (p : Proposal). is_conway_fork p.action ≡ true) f.proposals → AllByRecursion IsKept f.proposals
frozen_kept f h k = proposals_parts f.proposals (left_of _ _ (right_of _ _ (left_of _ _ h))) k

all_forks : (ps : List Proposal) → AllByRecursion IsKept ps → AllByRecursion (λ (p : Proposal). is_conway_fork p.action ≡ true) ps
all_forks [] h = tt
all_forks (p ∷ ps) h = (h.0.fork, all_forks ps h.1)

boundary_formed : (w : World) → IsFormed w → IsSoundWorld w → w.ledger.epoch < 2 ^ 62 → IsFormed (world_after_boundary w)
boundary_formed w f s early =
    let v : World = world_after_boundary w in
    let sound : IsSoundWorld v = boundaries_keep_sound w s early in
    let parts : HasParts v.ledger = boundary_keeps_parts w f.parts (frozen_state w.frozen f.frozen) (frozen_kept w.frozen f.frozen f.forks) in
    let first : HasParts (after_rewards w).ledger = first_parts w f.parts in
    let named = pools_named _ (after_rewards w).ledger.pools first.pools in
    let mark : are_stakes v.mark ≡ true = stakes_formed v.ledger.supply v.mark sound.ledger.within named sound.mark in
    record {
      parts = parts;
      pending = refl;
      mark = mark;
      set = f.mark;
      go = f.set;
      frozen = snapshot_formed (on_ledger (λ (x : Ledger). record x { epoch = x.epoch + 1 }) (after_dormancy w)) parts sound.ledger sound.frozen mark named;
      forks = all_forks v.ledger.proposals parts.proposals;
    }

crossed_formed : (b : Bool) (w : World) (slot : ℕ) → IsFormed w → IsSoundWorld w → enters_next w.ledger slot ≡ b → slot < 2 ^ 62 → IsFormed (crossed b w)
crossed_formed true w slot f s e early =
    let reached : epoch_at w.ledger slot ≡ w.ledger.epoch + 1 = eqb-true (epoch_at w.ledger slot) (w.ledger.epoch + 1) e in
    boundary_formed w f s (omega (arith, reached, div-le_self slot w.ledger.epoch_length, early))
crossed_formed false w slot f s e early = f

pulsed_formed : (slot pulse : ℕ) (w : World) → IsFormed w → IsFormed (pulsed slot pulse w)
pulsed_formed slot pulse w f = record { parts = slot_now w.ledger slot f.parts; pending = f.pending; mark = f.mark; set = f.set; go = f.go; frozen = f.frozen; forks = f.forks }

-- ---- a reward update

amounts_each : (rs : List (Credential × ℕ)) → list_all books.is_amount rs ≡ true → Each is_credential is_u64 rs
amounts_each [] h = tt
amounts_each (r ∷ rs) h =
    let here : books.is_amount r ≡ true = left_of (books.is_amount r) (list_all books.is_amount rs) h in
    ((left_of _ _ here, right_of _ _ here), amounts_each rs (right_of (books.is_amount r) (list_all books.is_amount rs) h))

each_amount : (rs : List (Credential × ℕ)) → Each is_credential is_u64 rs → list_all books.is_amount rs ≡ true
each_amount [] h = refl
each_amount (r ∷ rs) h = and_from (books.is_amount r) (list_all books.is_amount rs) (and_from _ _ h.0.0 h.0.1) (each_amount rs h.1)

ordered_formed : (u : Rewards) → books.are_rewards u ≡ true → is_pending_form (in_order_of_credential u) ≡ true
ordered_formed u h =
    let rs : List (Credential × ℕ) = with_values credential_cmp u.rewards [] in
    let sorted : IsMap credential_cmp rs = IsMap-with_values credential_total u.rewards [] (empty_sorted credential_cmp) in
    and_from _ _ (and_from _ _ (left_of _ _ h) (each_amount rs (each-with_values is_credential is_u64 credential_cmp u.rewards [] (amounts_each u.rewards (right_of _ _ h)) tt))) (rising_from_set credential_cmp (keys_of rs) sorted)

-- ---- any record

accepted_formed : (w : World) (r : Record) → IsFormed w → IsSoundWorld w → is_within_limits r ≡ true → is_formed r ≡ true → refusal_of w r ≡ None → IsFormed (world_after_accepted w r)
accepted_formed w (records.Genesis g) f s h k e = f
accepted_formed w (records.Block slot pulse) f s h k e =
    let early : slot < 2 ^ 62 = ltb-true slot (2 ^ 62) (left_of _ _ h) in
    pulsed_formed slot pulse (crossed (enters_next w.ledger slot) w) (crossed_formed (enters_next w.ledger slot) w slot f s refl early)
accepted_formed w (records.Rewards u) f s h k e = record { parts = f.parts; pending = ordered_formed u k; mark = f.mark; set = f.set; go = f.go; frozen = f.frozen; forks = f.forks }
accepted_formed w (records.Tx tx) f s h k e =
    record { parts = tx_keeps_parts w.ledger tx f.parts k h s.ledger.epoch e; pending = f.pending; mark = f.mark; set = f.set; go = f.go; frozen = f.frozen; forks = f.forks }
accepted_formed w (records.Print what) f s h k e = f

formed_by : (o : Option Rule) (w : World) (r : Record) → IsFormed w → IsSoundWorld w → is_within_limits r ≡ true → is_formed r ≡ true → refusal_of w r ≡ o → IsFormed (step_by o w r).0
formed_by (Some rule) w r f s h k e = f
formed_by None w r f s h k e = accepted_formed w r f s h k e

pub step_formed : (w : World) (r : Record) → IsFormed w → IsSoundWorld w → is_within_limits r ≡ true → is_formed r ≡ true → IsFormed (step_by (refusal_of w r) w r).0
step_formed w r f s h k = formed_by (refusal_of w r) w r f s h k refl

pub records_keep_form : RecordsKeepForm
records_keep_form w r s f h k = test_from_formed (step_by (refusal_of w r) w r).0 (step_formed w r (formed_from_test w f) s h k) (records_keep_sound w r s h)
