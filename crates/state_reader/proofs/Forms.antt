-- What the lines of the checkpoint of a World that can be resumed show has its form.
use Rattle.std.proofs.Common.{◌≡◌, ℕ, ◌/◌, ◌^◌, ◌<◌, ◌≤◌, ◌==◌, ◌++◌, ◌||◌, Bool, true, false, ◌&&◌, not, cond, List, [], ◌∷◌, Option, Some, None, filter, filter_map, fold, map, nat_le, nat_lt, option_map, option_to_list, refl, arith}
use Rattle.std.specs.declared.cmp.Ordering.{Ordering}
use Rattle.std.specs.BTreeMap.{is_at}
use Rattle.std.specs.List.{AllByRecursion, cons_option, list_all}
use Rattle.std.specs.Map.{values_of}
use Rattle.std.proofs.Math.Nat.{div-le_self}
use Rattle.std.proofs.lemmas.Bool.{and_from, and_parts, eqb-true, leb-true, lt-ltb, ltb-true}
use Rattle.std.proofs.lemmas.List.Sums.{sum_by-cons}
use Rattle.maps.specs.Maps.{in_order, sum_values, value_at, with_key}
use Rattle.maps.specs.Words.{holds, none_or, repeats}
use Rattle.maps.proofs.Sets.{all-with_key}
use Rattle.gov_actions.specs.of_coin_frac.declared.TheConstants.{SUPPLY_LIMIT}
use Rattle.gov_ids.specs.declared.Credential.{Credential}
use Rattle.gov_ids.specs.declared.OutRef.{OutRef}
use Rattle.gov_ids.specs.declared.PoolId.{PoolId}
use Rattle.gov_ids.specs.declared.Voter.{Voter}
use Rattle.gov_ids.specs.Orders.{action_id_cmp, credential_cmp, outref_cmp, pool_cmp, txid_cmp}
use Rattle.gov_ids.specs.Same.{same_credential}
use Rattle.book_records.specs.declared.Entry.{Entry}
use Rattle.book_records.specs.declared.Output.{Output}
use Rattle.book_records.specs.declared.Registered.{Registered}
use Rattle.book_records.specs.declared.pool.Pool.{Pool}
use Rattle.book_records.specs.declared.pool.PoolTerms.{PoolTerms}
use Rattle.book_records.specs.Outputs.{lovelace_in}
use Rattle.gov_actions.specs.declared.action.Action.{Action}
use Rattle.gov_actions.specs.declared.action.Action.TheVariants.{NoConfidence, UpdateCommittee, NewConstitution, HardForkInitiation, ParameterChange, TreasuryWithdrawals, Info}
use Rattle.gov_actions.specs.declared.action.Proposal.{Proposal}
use Rattle.gov_actions.specs.declared.action.Vote.{Vote}
use Rattle.gov_actions.specs.declared.state.Committee.{Committee}
use Rattle.gov_actions.specs.declared.state.EnactState.{EnactState}
use Rattle.gov_actions.specs.declared.state.HotState.{HotState}
use Rattle.gov_actions.specs.Kinds.{previous_of}
use Rattle.gov_model.specs.Ratified.{ids_of}
use Rattle.gov_model.specs.Sides.{members_of}
use Rattle.gov_model.specs.Snapshot.{Snapshot}
use Rattle.tx_records.specs.declared.record.Rewards.{Rewards}
use Rattle.tx_records.specs.declared.limits.TheConstants.{LEAST_MAJOR}
use Rattle.tx_records.specs.Limits.{is_network, is_slot, is_u32, is_u64}
use Rattle.ledger_model.specs.Ledger.{Ledger, account_at, is_account, output_stake}
use Rattle.ledger_model.specs.Supply.{pots_of, supply_of}
use Rattle.run_model.specs.Freeze.{entries_of, frozen_credentials, stake_parts}
use Rattle.run_model.specs.World.{World}
use Rattle.dormant_laws.proofs.Lists.{all_append, all_passing, left_of, right_of}
use Rattle.text_forms.specs.Actions.{are_proposals, is_action, is_member, is_proposal, is_version, is_vote}
use Rattle.text_forms.specs.Books as books
use Rattle.text_forms.specs.Ids.{is_account_id, is_action_id, is_credential, is_hash, is_map, is_pool_id, is_rising, is_tx_id, is_unit}
use Rattle.text_forms.specs.Snapshots.{are_pool_accounts, are_stakes, is_snapshot}
use Rattle.text_forms.specs.States.{are_last_ids, are_params, is_committee, is_conway_version, is_state}
use Rattle.checkpoint_model.specs.Resumable.{IsResumable, has_book_form, has_form, has_plain_form, holds_supply, is_pending_form}
use Rattle.action_kinds.specs.Lines.{is_action_line}
use Rattle.book_kinds.specs.Books.{is_vote_line}
use Rattle.book_kinds.specs.Frozen.{is_pool_account_line}
use Rattle.book_kinds.specs.Outputs.{is_output_line}
use Rattle.book_kinds.specs.Pools.{is_next_line, is_pool_line}
use Rattle.state_kinds.specs.Heads.{is_head_line, is_now_line}
use Rattle.state_kinds.specs.Proposals.{is_proposal_line}
use Rattle.state_kinds.specs.States.{is_constitution_line, is_member_line, is_pending_line}
use Rattle.checkpoint_lists.specs.Pots.{are_pots}
use Rattle.checkpoint_lists.specs.Rows.{are_rows, has_frozen_form, has_governance_form, have_amount_form, have_book_form, have_stake_form}
use Rattle.checkpoint_lists.specs.Shown.{amounts_shown, books_shown, frozen_proposal_row, frozen_shown, governance_shown, member_row, output_row, pending_row, pool_account_row, pool_row, proposal_row, rewards_of, stakes_shown, vote_rows}
use Rattle.checkpoint_reader.specs.Gathered.{action_row, gathered_shown, has_gathered_form}

-- ---- the form, part by part

-- of a World
pub record HasParts (w : World) : Type 0 where
  pub plain : has_plain_form w.ledger ≡ true
  pub state : is_state w.ledger.state ≡ true
  pub books : has_book_form w.ledger ≡ true
  pub pending : none_or is_pending_form w.pending ≡ true
  pub mark : are_stakes w.mark ≡ true
  pub set : are_stakes w.set ≡ true
  pub go : are_stakes w.go ≡ true
  pub noted_fees : is_u64 w.noted_fees ≡ true
  pub frozen : is_snapshot w.frozen ≡ true

pub parts_of : (w : World) → has_form w ≡ true → HasParts w
parts_of w h =
    let a = and_parts _ (is_snapshot w.frozen) h in
    let b = and_parts _ (is_u64 w.noted_fees) a.0 in
    let c = and_parts _ (are_stakes w.go) b.0 in
    let d = and_parts _ (are_stakes w.set) c.0 in
    let e = and_parts _ (are_stakes w.mark) d.0 in
    let f = and_parts _ (none_or is_pending_form w.pending) e.0 in
    let g = and_parts _ (has_book_form w.ledger) f.0 in
    let i = and_parts (has_plain_form w.ledger) (is_state w.ledger.state) g.0 in
    record { plain = i.0; state = i.1; books = g.1; pending = f.1; mark = e.1; set = d.1; go = c.1; noted_fees = b.1; frozen = a.1 }

-- of the numbers of a ledger
pub record HasNumbers (l : Ledger) : Type 0 where
  pub network : is_network l.network ≡ true
  pub length : is_u32 l.epoch_length ≡ true
  pub slot : is_slot l.slot ≡ true
  pub dormant : is_u64 l.dormant ≡ true

pub numbers_of : (l : Ledger) → has_plain_form l ≡ true → HasNumbers l
numbers_of l h =
    let a = and_parts _ (is_u64 l.donations) h in
    let b = and_parts _ (is_u64 l.fees) a.0 in
    let c = and_parts _ (is_u64 l.reserves) b.0 in
    let d = and_parts _ (is_u64 l.dormant) c.0 in
    let e = and_parts _ (is_slot l.slot) d.0 in
    let f = and_parts _ (is_u64 l.supply) e.0 in
    let g = and_parts _ (is_u32 l.epoch_length) f.0 in
    record { network = left_of (is_network l.network) (nat_lt 0 l.epoch_length) g.0; length = g.1; slot = e.1; dormant = d.1 }

-- of its lists
pub record HasBooks (l : Ledger) : Type 0 where
  pub outputs : list_all books.is_output l.outputs ≡ true
  pub used : list_all is_tx_id l.used ≡ true
  pub accounts_map : is_map credential_cmp l.accounts ≡ true
  pub accounts : list_all books.is_account l.accounts ≡ true
  pub pools : list_all books.is_pool l.pools ≡ true
  pub dreps : list_all books.is_drep l.dreps ≡ true
  pub hot_map : is_map credential_cmp l.hot ≡ true
  pub hot : list_all books.is_hot l.hot ≡ true
  pub proposals : list_all is_proposal l.proposals ≡ true
  pub ids : not (repeats action_id_cmp (ids_of l.proposals)) ≡ true

pub books_of : (l : Ledger) → has_book_form l ≡ true → HasBooks l
books_of l h =
    let a = and_parts _ (are_proposals l.proposals) h in
    let b = and_parts _ (list_all books.is_hot l.hot) a.0 in
    let c = and_parts _ (is_map credential_cmp l.hot) b.0 in
    let d = and_parts _ (list_all books.is_drep l.dreps) c.0 in
    let e = and_parts _ (is_map credential_cmp l.dreps) d.0 in
    let f = and_parts _ (list_all books.is_pool l.pools) e.0 in
    let g = and_parts _ (is_map pool_cmp l.pools) f.0 in
    let i = and_parts _ (list_all books.is_account l.accounts) g.0 in
    let j = and_parts _ (is_map credential_cmp l.accounts) i.0 in
    let k = and_parts _ (list_all is_tx_id l.used) j.0 in
    let m = and_parts _ (is_rising txid_cmp l.used) k.0 in
    let n = and_parts (is_map outref_cmp l.outputs) (list_all books.is_output l.outputs) m.0 in
    let p = and_parts (list_all is_proposal l.proposals) (not (repeats action_id_cmp (ids_of l.proposals))) a.1 in
    record { outputs = n.1; used = k.1; accounts_map = j.1; accounts = i.1; pools = f.1; dreps = d.1; hot_map = c.1; hot = b.1; proposals = p.0; ids = p.1 }

-- of a state
pub record HasState (s : EnactState) : Type 0 where
  pub params : are_params s.params ≡ true
  pub version : is_version s.version ≡ true
  pub major : nat_le LEAST_MAJOR s.version.0 ≡ true
  pub committee : none_or is_committee s.committee ≡ true
  pub document : is_hash 32 s.document ≡ true
  pub script : none_or (is_hash 28) s.script ≡ true
  pub last : are_last_ids s.last ≡ true
  pub treasury : is_u64 s.treasury ≡ true

pub state_of : (s : EnactState) → is_state s ≡ true → HasState s
state_of s h =
    let a = and_parts _ (is_u64 s.treasury) h in
    let b = and_parts _ (are_last_ids s.last) a.0 in
    let c = and_parts _ (none_or (is_hash 28) s.script) b.0 in
    let d = and_parts _ (is_hash 32 s.document) c.0 in
    let e = and_parts _ (none_or is_committee s.committee) d.0 in
    let f = and_parts (are_params s.params) (is_conway_version s.version) e.0 in
    record { params = f.0; version = left_of (is_version s.version) _ f.1; major = right_of (is_version s.version) (nat_le LEAST_MAJOR s.version.0) f.1; committee = e.1; document = d.1; script = c.1; last = b.1; treasury = a.1 }

-- of what is frozen
pub record HasFrozen (f : Snapshot) : Type 0 where
  pub entries : list_all books.is_entry f.entries ≡ true
  pub dreps : list_all books.is_frozen_drep f.dreps ≡ true
  pub mark : list_all books.is_stake f.mark ≡ true
  pub accounts : are_pool_accounts f.mark f.pool_accounts ≡ true
  pub hot : list_all books.is_hot f.hot ≡ true
  pub proposals : list_all is_proposal f.proposals ≡ true
  pub start : is_state f.start ≡ true

pub frozen_of : (f : Snapshot) → is_snapshot f ≡ true → HasFrozen f
frozen_of f h =
    let a = and_parts _ (is_state f.start) h in
    let b = and_parts _ (are_proposals f.proposals) a.0 in
    let c = and_parts _ (list_all books.is_hot f.hot) b.0 in
    let d = and_parts _ (is_map credential_cmp f.hot) c.0 in
    let e = and_parts _ (are_pool_accounts f.mark f.pool_accounts) d.0 in
    let g = and_parts _ (are_stakes f.mark) e.0 in
    let i = and_parts _ (list_all books.is_frozen_drep f.dreps) g.0 in
    let j = and_parts _ (is_map credential_cmp f.dreps) i.0 in
    let k = and_parts (is_map credential_cmp f.entries) (list_all books.is_entry f.entries) j.0 in
    record { entries = k.1; dreps = i.1; mark = right_of _ (list_all books.is_stake f.mark) g.1; accounts = e.1; hot = c.1; proposals = left_of (list_all is_proposal f.proposals) _ b.1; start = a.1 }

-- ---- lists

-- what passes a test is changed into what passes another one
pub all_changed : {A B : Type 0} (p : A → Bool) (q : B → Bool) (f : A → B) → ((x : A) → p x ≡ true → q (f x) ≡ true) → (xs : List A) → list_all p xs ≡ true → list_all q (map f xs) ≡ true
all_changed p q f k [] h = refl
all_changed p q f k (x ∷ xs) h = and_from (q (f x)) (list_all q (map f xs)) (k x (left_of (p x) (list_all p xs) h)) (all_changed p q f k xs (right_of (p x) (list_all p xs) h))

-- it passes a weaker one
pub all_weaker : {A : Type 0} (p q : A → Bool) → ((x : A) → p x ≡ true → q x ≡ true) → (xs : List A) → list_all p xs ≡ true → list_all q xs ≡ true
all_weaker p q k [] h = refl
all_weaker p q k (x ∷ xs) h = and_from (q x) (list_all q xs) (k x (left_of (p x) (list_all p xs) h)) (all_weaker p q k xs (right_of (p x) (list_all p xs) h))

-- some of what passes passes
all_filtered : {A : Type 0} (p t : A → Bool) (xs : List A) → list_all p xs ≡ true → list_all p (filter t xs) ≡ true
all_filtered p t [] h = refl
all_filtered p t (x ∷ xs) h = elim (t x) as (λ b. list_all p (cond b (x ∷ filter t xs) (filter t xs)) ≡ true) [
  | true ↦ and_from (p x) (list_all p (filter t xs)) (left_of (p x) (list_all p xs) h) (all_filtered p t xs (right_of (p x) (list_all p xs) h))
  | false ↦ all_filtered p t xs (right_of (p x) (list_all p xs) h)
]

-- the value of a key passes, if it has one
value_passes : {K X : Type 0} (cmp : K → K → Ordering) (p : K × X → Bool) (q : X → Bool) → ((e : K × X) → p e ≡ true → q e.1 ≡ true) → (k : K) (es : List (K × X)) → list_all p es ≡ true → none_or q (value_at cmp es k) ≡ true
value_passes cmp p q f k [] h = refl
value_passes cmp p q f k (e ∷ es) h = elim (is_at (cmp k) e.0) as (λ b. none_or q (cond b (Some e.1) (value_at cmp es k)) ≡ true) [
  | true ↦ f e (left_of (p e) (list_all p es) h)
  | false ↦ value_passes cmp p q f k es (right_of (p e) (list_all p es) h)
]

-- a value that was changed passes, if there is one
some_changed : {A B : Type 0} (p : A → Bool) (q : B → Bool) (f : A → B) → ((x : A) → p x ≡ true → q (f x) ≡ true) → (o : Option A) → none_or p o ≡ true → none_or q (option_map f o) ≡ true
some_changed p q f k None h = refl
some_changed p q f k (Some x) h = k x h

-- a number of 64 bits
small : (n : ℕ) → n < 2 ^ 64 → is_u64 n ≡ true
small n h = lt-ltb n (2 ^ 64) h

-- ---- governance

member_passes : (hot : List (Credential × HotState)) → list_all books.is_hot hot ≡ true → (m : Credential × ℕ) → is_member m ≡ true → is_member_line (member_row hot m) ≡ true
member_passes hot h m k =
    and_from (is_member m) (none_or books.is_hot_state (value_at credential_cmp hot m.0)) k
    (value_passes credential_cmp books.is_hot books.is_hot_state (λ e j. right_of (is_credential e.0) (books.is_hot_state e.1) j) m.0 hot h)

members_pass : (hot : List (Credential × HotState)) (o : Option Committee) → list_all books.is_hot hot ≡ true → none_or is_committee o ≡ true → list_all is_member_line (map (member_row hot) (members_of o)) ≡ true
members_pass hot None h k = refl
members_pass hot (Some c) h k =
    all_changed is_member is_member_line (member_row hot) (member_passes hot h) c.members (right_of (is_map credential_cmp c.members) _ (left_of _ (is_unit c.threshold) k))

-- the first line, if the count fits in 64 bits
pub head_formed : (w : World) (line : ℕ) → IsResumable w → is_u64 w.counted ≡ true → line ≤ 2 ^ 48 → is_head_line (line, w.ledger.network, w.ledger.epoch_length, w.counted) ≡ true
head_formed w line sound counted within =
    let n = numbers_of w.ledger (parts_of w sound.form).plain in
    let network : w.ledger.network < 2 = ltb-true w.ledger.network 2 n.network in
    let length : w.ledger.epoch_length < 2 ^ 32 = ltb-true w.ledger.epoch_length (2 ^ 32) n.length in
    and_from _ _ (and_from _ _ (and_from _ _ (small line (omega arith)) (small w.ledger.network (omega arith))) (small w.ledger.epoch_length (omega arith))) counted

governance_formed : (w : World) (line : ℕ) → HasParts w → w.ledger.epoch < 2 ^ 64 → is_head_line (line, w.ledger.network, w.ledger.epoch_length, w.counted) ≡ true → has_governance_form (governance_shown w line) ≡ true
governance_formed w line h epoch head =
    let n = numbers_of w.ledger h.plain in
    let s = state_of w.ledger.state h.state in
    let b = books_of w.ledger h.books in
    let slot : w.ledger.slot < 2 ^ 62 = ltb-true w.ledger.slot (2 ^ 62) n.slot in
    let now : is_now_line (w.ledger.slot, w.ledger.epoch, w.ledger.state.version, w.ledger.dormant) ≡ true =
    and_from _ _ (and_from _ _ (and_from _ _ (small w.ledger.slot (omega arith)) (small w.ledger.epoch epoch)) s.version) n.dormant in
    let constitution : is_constitution_line (w.ledger.state.document, w.ledger.state.script) ≡ true = and_from _ _ s.document s.script in
    let threshold : none_or is_unit (option_map (λ (c : Committee). c.threshold) w.ledger.state.committee) ≡ true = some_changed is_committee is_unit (λ (c : Committee). c.threshold) (λ c k. right_of _ (is_unit c.threshold) k) w.ledger.state.committee s.committee in
    and_from _ _ (and_from _ _ (and_from _ _ (and_from _ _ (and_from _ _ (and_from _ _ head now) constitution) threshold) (members_pass w.ledger.hot w.ledger.state.committee b.hot s.committee)) (all_filtered books.is_hot _ w.ledger.hot b.hot)) s.last

-- ---- entries

sum_where : (t : OutRef × Output → Bool) (es : List (OutRef × Output)) → sum_values (λ (o : Output). o.lovelace) (filter t es) ≤ sum_values (λ (o : Output). o.lovelace) es
sum_where t [] = omega arith
sum_where t (e ∷ es) = elim (t e) as (λ b. sum_values (λ (o : Output). o.lovelace) (cond b (e ∷ filter t es) (filter t es)) ≤ sum_values (λ (o : Output). o.lovelace) (e ∷ es)) [
  | true ↦ omega (arith, sum_by-cons (λ (o : Output). o.lovelace) e.1 (values_of es), sum_by-cons (λ (o : Output). o.lovelace) e.1 (values_of (filter t es)), sum_where t es)
  | false ↦ omega (arith, sum_by-cons (λ (o : Output). o.lovelace) e.1 (values_of es), sum_where t es)
]

abbrev AreFormed : List Credential → Type 0
AreFormed cs = AllByRecursion (λ (c : Credential). is_credential c ≡ true) cs

keys_formed : (es : List (Credential × Registered)) → list_all books.is_account es ≡ true → AreFormed (map (λ (e : Credential × Registered). e.0) es)
keys_formed [] h = tt
keys_formed (e ∷ es) h = (left_of _ _ (left_of (books.is_account e) (list_all books.is_account es) h), keys_formed es (right_of (books.is_account e) (list_all books.is_account es) h))

one_part : (o : Option Credential) (cs : List Credential) → none_or is_credential o ≡ true → AreFormed cs → AreFormed (cons_option o cs)
one_part None cs h k = k
one_part (Some c) cs h k = (h, k)

parts_formed : (es : List (OutRef × Output)) → list_all books.is_output es ≡ true → AreFormed (filter_map (λ (e : OutRef × Output). e.1.address.stake) es)
parts_formed [] h = tt
parts_formed (e ∷ es) h =
    one_part e.1.address.stake _ (right_of _ _ (right_of _ _ (left_of _ _ (left_of _ _ (left_of (books.is_output e) (list_all books.is_output es) h))))) (parts_formed es (right_of (books.is_output e) (list_all books.is_output es) h))

ordered_formed : (cs s : List Credential) → AreFormed cs → AreFormed s → AreFormed (fold (λ t c. with_key credential_cmp c t) s cs)
ordered_formed [] s h k = k
ordered_formed (c ∷ cs) s h k = ordered_formed cs (with_key credential_cmp c s) h.1 (all-with_key credential_cmp (λ (x : Credential). is_credential x ≡ true) c s h.0 k)

abbrev entry : Ledger → Credential → Credential × Entry
entry l c = (c, record { stake = output_stake l c; registered = account_at l c })

entry_each : (l : Ledger) (cs : List Credential) → lovelace_in l.outputs < 2 ^ 64 → list_all books.is_account l.accounts ≡ true → AreFormed cs → list_all books.is_entry (map (entry l) cs) ≡ true
entry_each l [] few h k = refl
entry_each l (c ∷ cs) few h k =
    let stake : output_stake l c < 2 ^ 64 = omega (arith, few, sum_where (λ (e : OutRef × Output). holds same_credential e.1.address.stake c) l.outputs) in
    let registered = value_passes credential_cmp books.is_account books.is_registration (λ e j. right_of (is_credential e.0) (books.is_registration e.1) j) c l.accounts h in
    and_from (books.is_entry (entry l c)) (list_all books.is_entry (map (entry l) cs)) (and_from _ _ (and_from _ _ k.0 (small (output_stake l c) stake)) registered) (entry_each l cs few h k.1)

entries_formed : (l : Ledger) → lovelace_in l.outputs < 2 ^ 64 → HasBooks l → list_all books.is_entry (entries_of l) ≡ true
entries_formed l few h =
    let all : List Credential = map (λ (e : Credential × Registered). e.0) l.accounts ++ stake_parts l in
    let formed : AreFormed (in_order credential_cmp all) =
    ordered_formed all [] (all_append (λ (c : Credential). is_credential c ≡ true) (map (λ (e : Credential × Registered). e.0) l.accounts) (stake_parts l) (keys_formed l.accounts h.accounts) (parts_formed l.outputs h.outputs)) tt in
    entry_each l (frozen_credentials l) few h.accounts (all_passing (λ (c : Credential). is_credential c ≡ true) (λ (c : Credential). is_account l c || nat_lt 0 (output_stake l c)) (in_order credential_cmp all) formed)

-- ---- the other books

next_each : (p : PoolId) (o : Option PoolTerms) → is_pool_id p ≡ true → none_or books.are_terms o ≡ true → list_all is_next_line (map (λ (t : PoolTerms). (p, t)) (option_to_list o)) ≡ true
next_each p None h k = refl
next_each p (Some t) h k = and_from (is_pool_id p && books.are_terms t) true (and_from (is_pool_id p) (books.are_terms t) h k) refl

pool_passes : (p : PoolId × Pool) → books.is_pool p ≡ true → are_rows is_pool_line is_next_line (pool_row p) ≡ true
pool_passes p h =
    let a = and_parts _ (none_or is_u64 p.1.retires) h in
    let b = and_parts _ (none_or books.are_terms p.1.future) a.0 in
    let c = and_parts _ (books.are_terms p.1.terms) b.0 in
    let d = and_parts (is_pool_id p.0) (is_u64 p.1.deposit) c.0 in
    let pool : books.is_pool (p.0, record p.1 { future = None }) ≡ true = and_from _ _ (and_from _ true b.0 refl) a.1 in
    and_from _ _ (and_from _ true pool refl) (next_each p.0 p.1.future d.0 b.1)

output_passes : (o : OutRef × Output) → books.is_output o ≡ true → are_rows is_output_line books.is_held_asset (output_row o) ≡ true
output_passes o h =
    let a = and_parts _ (books.are_held_assets o.1.assets) h in
    and_from _ _ a.0 (right_of _ (list_all books.is_held_asset o.1.assets) a.1)

-- the form of a proposal, part by part
record HasProposal (p : Proposal) : Type 0 where
  id : is_action_id p.id ≡ true
  action : is_action p.action ≡ true
  deposit : is_u64 p.deposit ≡ true
  account : is_account_id p.account ≡ true
  expires_after : is_u64 p.expires_after ≡ true
  votes : list_all is_vote p.votes ≡ true

proposal_of : (p : Proposal) → is_proposal p ≡ true → HasProposal p
proposal_of p h =
    let b = and_parts _ (list_all is_vote p.votes) (left_of _ _ h) in
    let c = and_parts _ (is_u64 p.expires_after) b.0 in
    let d = and_parts _ (is_account_id p.account) c.0 in
    let e = and_parts _ (is_u64 p.deposit) d.0 in
    let f = and_parts (is_action_id p.id) (is_action p.action) e.0 in
    record { id = f.0; action = f.1; deposit = e.1; account = d.1; expires_after = c.1; votes = b.1 }

previous_passes : (a : Action) → is_action a ≡ true → none_or is_action_id (previous_of a) ≡ true
previous_passes (NoConfidence previous) h = h
previous_passes (UpdateCommittee previous remove add threshold) h = left_of _ _ (left_of _ _ (left_of _ _ h))
previous_passes (NewConstitution previous document script) h = left_of _ _ (left_of _ _ h)
previous_passes (HardForkInitiation previous v) h = left_of _ _ h
previous_passes (ParameterChange previous update policy) h = left_of _ _ (left_of _ _ h)
previous_passes (TreasuryWithdrawals targets policy) h = refl
previous_passes Info h = refl

votes_pass : (p : Proposal) → HasProposal p → list_all is_vote_line (vote_rows p) ≡ true
votes_pass p h = all_changed is_vote is_vote_line (λ (v : Voter × Vote). (p.id, v)) (λ v k. and_from (is_action_id p.id) (is_vote v) h.id k) p.votes h.votes

proposal_passes : (p : Proposal) → is_proposal p ≡ true → are_rows is_proposal_line is_vote_line (proposal_row p) ≡ true
proposal_passes p k =
    let h = proposal_of p k in
    and_from _ _ (and_from _ _ (and_from _ _ (and_from _ _ (and_from _ _ h.id h.deposit) h.account) h.expires_after) (previous_passes p.action h.action)) (votes_pass p h)

frozen_proposal_passes : (p : Proposal) → is_proposal p ≡ true → are_rows is_action_id is_vote_line (frozen_proposal_row p) ≡ true
frozen_proposal_passes p k = (let h = proposal_of p k in and_from (is_action_id p.id) (list_all is_vote_line (vote_rows p)) h.id (votes_pass p h))

action_passes : (p : Proposal) → is_proposal p ≡ true → is_action_line (action_row p) ≡ true
action_passes p k = (let h = proposal_of p k in and_from (is_action_id p.id) (is_action p.action) h.id h.action)

books_formed : (w : World) → HasParts w → lovelace_in w.ledger.outputs < 2 ^ 64 → have_book_form (books_shown w) ≡ true
books_formed w h few =
    let b = books_of w.ledger h.books in
    and_from _ _
    (and_from _ _
    (and_from _ _
    (and_from (list_all books.is_drep w.ledger.dreps) _ b.dreps (all_changed books.is_pool (are_rows is_pool_line is_next_line) pool_row pool_passes w.ledger.pools b.pools))
    (entries_formed w.ledger few b))
    (all_changed books.is_output (are_rows is_output_line books.is_held_asset) output_row output_passes w.ledger.outputs b.outputs))
    (all_changed is_proposal (are_rows is_proposal_line is_vote_line) proposal_row proposal_passes w.ledger.proposals b.proposals)

-- ---- amounts

stakes_formed : (w : World) → HasParts w → have_stake_form (stakes_shown w) ≡ true
stakes_formed w h =
    and_from _ _ (and_from _ _ (and_from _ _ (right_of _ (list_all books.is_stake w.mark) h.mark) (right_of _ (list_all books.is_stake w.set) h.set)) (right_of _ (list_all books.is_stake w.go) h.go)) h.noted_fees

pending_passes : (u : Rewards) → is_pending_form u ≡ true → is_pending_line (pending_row u) ≡ true
pending_passes u h =
    let a = and_parts _ (list_all books.is_amount u.rewards) (left_of (books.are_rewards u) _ h) in
    let b = and_parts _ (is_u64 u.to_treasury) a.0 in
    let c = and_parts _ (is_u64 u.from_fees) b.0 in
    let d = and_parts (is_u64 u.epoch) (is_u64 u.from_reserves) c.0 in
    and_from _ _ (and_from _ _ d.1 c.1) b.1

rewards_pass : (o : Option Rewards) → none_or is_pending_form o ≡ true → list_all books.is_amount (rewards_of o) ≡ true
rewards_pass None h = refl
rewards_pass (Some u) h = right_of _ (list_all books.is_amount u.rewards) (left_of (books.are_rewards u) _ h)

-- the pots are each at most the supply
record AreFew (l : Ledger) : Type 0 where
  outputs : lovelace_in l.outputs < 2 ^ 64
  pots : are_pots (pots_of l) ≡ true

few : (l : Ledger) → holds_supply l ≡ true → AreFew l
few l h =
    let whole : supply_of l ≡ l.supply = eqb-true (supply_of l) l.supply (left_of (supply_of l == l.supply) (nat_le l.supply SUPPLY_LIMIT) h) in
    let limit : l.supply ≤ 45000000000000000 = leb-true l.supply 45000000000000000 (right_of (supply_of l == l.supply) (nat_le l.supply SUPPLY_LIMIT) h) in
    record {
      outputs = omega (arith, whole, limit);
      pots =
          and_from _ _ (and_from _ _ (and_from _ _ (and_from _ _ (and_from _ _ (and_from _ _ (small (pots_of l).outputs (omega (arith, whole, limit))) (small (pots_of l).deposits (omega (arith, whole, limit)))) (small (pots_of l).rewards (omega (arith, whole, limit)))) (small l.fees (omega (arith, whole, limit)))) (small l.donations (omega (arith, whole, limit)))) (small l.state.treasury (omega (arith, whole, limit)))) (small l.reserves (omega (arith, whole, limit)));
    }

amounts_formed : (w : World) → HasParts w → are_pots (pots_of w.ledger) ≡ true → have_amount_form (amounts_shown w) ≡ true
amounts_formed w h pots =
    and_from _ _ (and_from _ _ (and_from _ _ (some_changed is_pending_form is_pending_line pending_row pending_passes w.pending h.pending) (rewards_pass w.pending h.pending)) pots) (books_of w.ledger h.books).used

-- ---- what is frozen

pool_account_passes : (f : Snapshot) → are_pool_accounts f.mark f.pool_accounts ≡ true → (m : PoolId × ℕ) → books.is_stake m ≡ true → is_pool_account_line (pool_account_row f m) ≡ true
pool_account_passes f h m k =
    let accounts : list_all books.is_pool_account f.pool_accounts ≡ true = right_of (is_map pool_cmp f.pool_accounts) _ (left_of _ _ h) in
    and_from (is_pool_id m.0) (none_or is_account_id (value_at pool_cmp f.pool_accounts m.0)) (left_of (is_pool_id m.0) (is_u64 m.1) k)
    (value_passes pool_cmp books.is_pool_account is_account_id (λ e j. right_of (is_pool_id e.0) (is_account_id e.1) j) m.0 f.pool_accounts accounts)

frozen_formed : (f : Snapshot) → is_snapshot f ≡ true → has_frozen_form (frozen_shown f) ≡ true
frozen_formed f k =
    let h = frozen_of f k in
    and_from _ _
    (and_from _ _
    (and_from _ _ (and_from _ _ (and_from _ _ (state_of f.start h.start).treasury h.entries) h.dreps) h.hot)
    (all_changed books.is_stake is_pool_account_line (pool_account_row f) (pool_account_passes f h.accounts) f.mark h.mark))
    (all_changed is_proposal (are_rows is_action_id is_vote_line) frozen_proposal_row frozen_proposal_passes f.proposals h.proposals)

-- ---- all of it

-- what is shown has its form, if the count fits in 64 bits
pub shown_formed : (w : World) (line : ℕ) → IsResumable w → is_u64 w.counted ≡ true → line ≤ 2 ^ 48 → has_gathered_form (gathered_shown w line) ≡ true
shown_formed w line sound counted within =
    let h = parts_of w sound.form in
    let n = numbers_of w.ledger h.plain in
    let f = few w.ledger sound.supply in
    let clock : w.ledger.epoch ≡ w.ledger.slot / w.ledger.epoch_length = eqb-true w.ledger.epoch (w.ledger.slot / w.ledger.epoch_length) sound.time in
    let at : w.ledger.slot < 2 ^ 62 = ltb-true w.ledger.slot (2 ^ 62) n.slot in
    let epoch : w.ledger.epoch < 2 ^ 64 = omega (arith, clock, div-le_self w.ledger.slot w.ledger.epoch_length, at) in
    and_from _ _
    (and_from _ _
    (and_from _ _
    (and_from _ _
    (and_from _ _ (and_from _ _ (governance_formed w line h epoch (head_formed w line sound counted within)) (state_of w.ledger.state h.state).params) (books_formed w h f.outputs))
    (stakes_formed w h))
    (amounts_formed w h f.pots))
    (all_changed is_proposal is_action_line action_row action_passes w.ledger.proposals (books_of w.ledger h.books).proposals))
    (frozen_formed w.frozen h.frozen)
