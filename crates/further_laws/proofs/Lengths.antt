-- No line of the checkpoint of a World is too long, where it has the form of the formats and no action is too long.
use Rattle.std.proofs.Common.{◌≡◌, ℕ, ◌/◌, ◌^◌, ◌<◌, ◌≤◌, List, [], ◌∷◌, ◌++◌, Bool, true, false, ◌||◌, cond, Option, Some, None, codes, decimal, filter, filter_map, flat_map, fold, length, map, nat_le, nat_lt, refl, arith}
use Rattle.std.specs.BTreeMap.{is_at}
use Rattle.std.specs.List.{AllByRecursion, cons_option, list_all}
use Rattle.std.specs.Map.{values_of}
use Rattle.std.proofs.Math.Nat.{div-le_self}
use Rattle.std.proofs.lemmas.Bool.{and_from, eqb-true, leb-true}
use Rattle.std.proofs.lemmas.List.Sums.{sum_by-cons}
use Rattle.maps.specs.Maps.{in_order, sum_values, value_at, with_key}
use Rattle.maps.specs.Words.{holds, none_or}
use Rattle.maps.proofs.Sets.{all-with_key}
use Rattle.gov_ids.specs.declared.Account.{Account}
use Rattle.gov_ids.specs.declared.Credential.{Credential}
use Rattle.gov_ids.specs.declared.OutRef.{OutRef}
use Rattle.gov_ids.specs.declared.PoolId.{PoolId}
use Rattle.gov_ids.specs.declared.TxId.{TxId}
use Rattle.gov_ids.specs.Orders.{credential_cmp, pool_cmp}
use Rattle.gov_ids.specs.Same.{same_credential}
use Rattle.gov_ids.specs.Spelling.{account_text}
use Rattle.book_records.specs.declared.Entry.{Entry}
use Rattle.book_records.specs.declared.Output.{Output}
use Rattle.book_records.specs.declared.Registered.{Registered}
use Rattle.book_records.specs.Outputs.{lovelace_in}
use Rattle.gov_actions.specs.declared.action.Proposal.{Proposal}
use Rattle.gov_actions.specs.declared.state.Committee.{Committee}
use Rattle.gov_actions.specs.declared.state.HotState.{HotState}
use Rattle.gov_model.specs.Sides.{members_of}
use Rattle.gov_model.specs.Snapshot.{Snapshot}
use Rattle.tx_records.specs.declared.record.Rewards.{Rewards}
use Rattle.tx_records.specs.Limits.{is_u64}
use Rattle.ledger_model.specs.Ledger.{Ledger, account_at, is_account, output_stake}
use Rattle.ledger_model.specs.Supply.{pots_of, supply_of}
use Rattle.run_model.specs.Freeze.{entries_of, frozen_credentials, stake_parts}
use Rattle.run_model.specs.World.{World}
use Rattle.dormant_laws.proofs.Lists.{all_append, all_passing, left_of, right_of}
use Rattle.text_forms.specs.Actions.{is_member, is_proposal, is_vote}
use Rattle.text_forms.specs.Books as books
use Rattle.text_forms.specs.Ids.{is_credential, is_tx_id}
use Rattle.text_forms.specs.Lines.{are_short_lines, joined}
use Rattle.text_forms.specs.Snapshots.{action_words, are_stakes, expiry_words, is_snapshot, pool_account_words}
use Rattle.text_forms.specs.States.{is_committee, is_state}
use Rattle.text_model.specs.ParamLines.{param_lines}
use Rattle.text_model.specs.Replies.{pots_words}
use Rattle.text_model.specs.Shown.{shown_of}
use Rattle.text_model.specs.StateLines.{account_words, book_lines, committee_lines, drep_words, governance_lines, hot_outside, hot_words, member_among, noted_fees_words, output_lines, pending_lines, pending_reward_words, pool_lines, proposal_lines, snapshot_lines, snapshot_words, state_lines, vote_words, words_of_enacted}
use Rattle.text_model.specs.Words.{Text, or_none}
use Rattle.tx_records.specs.declared.limits.TheConstants.{LINE_LIMIT}
use Rattle.checkpoint_model.specs.Checkpoint.{checkpoint_words, frozen, frozen_lines, frozen_proposal_lines, used_words}
use Rattle.checkpoint_model.specs.Laws.{ShortByForm}
use Rattle.checkpoint_model.specs.Resumable.{has_book_form, has_form, has_plain_form, holds_supply, is_pending_form}
use Rattle.further_laws.proofs.Followed.{all_join}
use Rattle.further_laws.proofs.Widths.{AreLines, IsLine, IsWord, account, account_line, action_id, committee_line, constitution_line, cred, dec, drep_line, enacted_line, hash_word, hot_line, lines_flat, lines_map, member_line, network, now_line, output_lines_are, param_lines_are, pool, pool_lines_are, proposal_line, short_line, short_lines, slot, u32, u64, vote_line}

-- ---- what is between

all_filtered : {A : Type 0} (p t : A → Bool) (xs : List A) → list_all p xs ≡ true → list_all p (filter t xs) ≡ true
all_filtered p t [] h = refl
all_filtered p t (x ∷ xs) h = elim (t x) as (λ b. list_all p (cond b (x ∷ filter t xs) (filter t xs)) ≡ true) [
  | true ↦ and_from (p x) (list_all p (filter t xs)) (left_of (p x) (list_all p xs) h) (all_filtered p t xs (right_of (p x) (list_all p xs) h))
  | false ↦ all_filtered p t xs (right_of (p x) (list_all p xs) h)
]

-- frozen lines have one word more
short_frozen : (lines : List (List Text)) → AreLines lines → are_short_lines (map frozen lines) ≡ true
short_frozen [] h = refl
short_frozen (ws ∷ lines) h =
    let few : length (frozen ws) ≤ 71 = omega (arith, h.0.1) in
    let words : AllByRecursion IsWord (frozen ws) = (omega arith, h.0.0) in
    and_from (nat_le (length (joined (frozen ws))) LINE_LIMIT) (are_short_lines (map frozen lines)) (short_line (frozen ws) words few) (short_frozen lines h.1)

-- ---- the state

member_lines : (hot : List (Credential × HotState)) (o : Option Committee) → list_all books.is_hot hot ≡ true → none_or is_committee o ≡ true → AreLines (map (member_among hot) (members_of o))
member_lines hot None h k = tt
member_lines hot (Some c) h k = lines_map is_member (member_among hot) (λ m j. member_line hot m h j) c.members (right_of _ _ (left_of _ _ k))

committee_lines_are : (hot : List (Credential × HotState)) (o : Option Committee) → list_all books.is_hot hot ≡ true → none_or is_committee o ≡ true → AreLines (committee_lines o hot)
committee_lines_are hot o h k = (
  committee_line o k,
  all_append IsLine (map (member_among hot) (members_of o)) (map hot_words (hot_outside o hot)) (member_lines hot o h k)
      (lines_map books.is_hot hot_words hot_line (hot_outside o hot) (all_filtered books.is_hot _ hot h)),
)

governance : (w : World) → has_form w ≡ true → w.ledger.epoch < 2 ^ 64 → AreLines (governance_lines (shown_of w))
governance w h e =
    let plain : has_plain_form w.ledger ≡ true = (left_of _ _ (left_of _ _ (left_of _ _ (left_of _ _ (left_of _ _ (left_of _ _ (left_of _ _ (left_of _ _ h)))))))) in
    let state : is_state w.ledger.state ≡ true = (right_of _ _ (left_of _ _ (left_of _ _ (left_of _ _ (left_of _ _ (left_of _ _ (left_of _ _ (left_of _ _ h)))))))) in
    let books : has_book_form w.ledger ≡ true = (right_of _ _ (left_of _ _ (left_of _ _ (left_of _ _ (left_of _ _ (left_of _ _ (left_of _ _ h))))))) in (
      now_line w.ledger.slot w.ledger.epoch w.ledger.dormant w.ledger.state.version (slot w.ledger.slot (right_of _ _ (left_of _ _ (left_of _ _ (left_of _ _ (left_of _ _ plain)))))) e (u64 w.ledger.dormant (right_of _ _ (left_of _ _ (left_of _ _ (left_of _ _ plain))))) (left_of _ _ (right_of _ _ (left_of _ _ (left_of _ _ (left_of _ _ (left_of _ _ (left_of _ _ state))))))),
      (
        constitution_line w.ledger.state.document w.ledger.state.script (right_of _ _ (left_of _ _ (left_of _ _ (left_of _ _ state)))) (right_of _ _ (left_of _ _ (left_of _ _ state))),
        all_append IsLine (committee_lines w.ledger.state.committee w.ledger.hot) (words_of_enacted w.ledger.state.last ∷ [])
            (committee_lines_are w.ledger.hot w.ledger.state.committee (right_of _ _ (left_of _ _ books)) (right_of _ _ (left_of _ _ (left_of _ _ (left_of _ _ (left_of _ _ state)))))) (enacted_line w.ledger.state.last (right_of _ _ (left_of _ _ state)), tt),
      ),
    )

-- ---- live entries

sum_where : (t : OutRef × Output → Bool) (es : List (OutRef × Output)) → sum_values (λ (o : Output). o.lovelace) (filter t es) ≤ sum_values (λ (o : Output). o.lovelace) es
sum_where t [] = omega arith
sum_where t (e ∷ es) = elim (t e) as (λ b. sum_values (λ (o : Output). o.lovelace) (cond b (e ∷ filter t es) (filter t es)) ≤ sum_values (λ (o : Output). o.lovelace) (e ∷ es)) [
  | true ↦ omega (arith, sum_by-cons (λ (o : Output). o.lovelace) e.1 (values_of es), sum_by-cons (λ (o : Output). o.lovelace) e.1 (values_of (filter t es)), sum_where t es)
  | false ↦ omega (arith, sum_by-cons (λ (o : Output). o.lovelace) e.1 (values_of es), sum_where t es)
]

registered_found : (k : Credential) (es : List (Credential × Registered)) → list_all books.is_account es ≡ true → none_or books.is_registration (value_at credential_cmp es k) ≡ true
registered_found k [] h = refl
registered_found k (e ∷ es) h =
    elim (is_at (credential_cmp k) e.0) as (λ b. none_or books.is_registration (cond b (Some e.1) (value_at credential_cmp es k)) ≡ true) [
      | true ↦ right_of _ _ (left_of (books.is_account e) (list_all books.is_account es) h)
      | false ↦ registered_found k es (right_of (books.is_account e) (list_all books.is_account es) h)
    ]

abbrev AreFormed : List Credential → Type 0
AreFormed cs = AllByRecursion (λ (c : Credential). is_credential c ≡ true) cs

keys_formed : (es : List (Credential × Registered)) → list_all books.is_account es ≡ true → AreFormed (map (λ (e : Credential × Registered). e.0) es)
keys_formed [] h = tt
keys_formed (e ∷ es) h = (left_of _ _ (left_of (books.is_account e) (list_all books.is_account es) h), keys_formed es (right_of (books.is_account e) (list_all books.is_account es) h))

one_part : (o : Option Credential) (cs : List Credential) → none_or is_credential o ≡ true → AreFormed cs → AreFormed (cons_option o cs)
one_part None cs h k = k
one_part (Some c) cs h k = (h, k)

parts_formed : (es : List (OutRef × Output)) → list_all books.is_output es ≡ true → AreFormed (filter_map (λ (e : OutRef × Output). e.1.address.stake) es)
parts_formed [] h = tt
parts_formed (e ∷ es) h =
    one_part e.1.address.stake _ (right_of _ _ (right_of _ _ (left_of _ _ (left_of _ _ (left_of (books.is_output e) (list_all books.is_output es) h))))) (parts_formed es (right_of (books.is_output e) (list_all books.is_output es) h))

ordered_formed : (cs s : List Credential) → AreFormed cs → AreFormed s → AreFormed (fold (λ t c. with_key credential_cmp c t) s cs)
ordered_formed [] s h k = k
ordered_formed (c ∷ cs) s h k = ordered_formed cs (with_key credential_cmp c s) h.1 (all-with_key credential_cmp (λ (x : Credential). is_credential x ≡ true) c s h.0 k)

abbrev entry : Ledger → Credential → Credential × Entry
entry l c = (c, record { stake = output_stake l c; registered = account_at l c })

entry_lines : (l : Ledger) (cs : List Credential) → lovelace_in l.outputs < 2 ^ 64 → list_all books.is_account l.accounts ≡ true → AreFormed cs → AreLines (map account_words (map (entry l) cs))
entry_lines l [] few h k = tt
entry_lines l (c ∷ cs) few h k =
    let stake : output_stake l c < 2 ^ 64 = omega (arith, few, sum_where (λ (e : OutRef × Output). holds same_credential e.1.address.stake c) l.outputs) in
    (account_line c (record { stake = output_stake l c; registered = account_at l c }) k.0 stake (registered_found c l.accounts h), entry_lines l cs few h k.1)

live_entries : (l : Ledger) → lovelace_in l.outputs < 2 ^ 64 → has_book_form l ≡ true → AreLines (map account_words (entries_of l))
live_entries l few h =
    let accounts : list_all books.is_account l.accounts ≡ true = (right_of _ _ (left_of _ _ (left_of _ _ (left_of _ _ (left_of _ _ (left_of _ _ (left_of _ _ (left_of _ _ h)))))))) in
    let outputs : list_all books.is_output l.outputs ≡ true = (right_of _ _ (left_of _ _ (left_of _ _ (left_of _ _ (left_of _ _ (left_of _ _ (left_of _ _ (left_of _ _ (left_of _ _ (left_of _ _ (left_of _ _ (left_of _ _ h)))))))))))) in
    let all : List Credential = map (λ (e : Credential × Registered). e.0) l.accounts ++ stake_parts l in
    let formed : AreFormed (in_order credential_cmp all) =
    ordered_formed all [] (all_append (λ (c : Credential). is_credential c ≡ true) (map (λ (e : Credential × Registered). e.0) l.accounts) (stake_parts l) (keys_formed l.accounts accounts) (parts_formed l.outputs outputs)) tt in
    entry_lines l (frozen_credentials l) few accounts (all_passing (λ (c : Credential). is_credential c ≡ true) (λ (c : Credential). is_account l c || nat_lt 0 (output_stake l c)) (in_order credential_cmp all) formed)

-- ---- proposals

whole_proposal : (p : Proposal) → is_proposal p ≡ true → AreLines (proposal_lines p)
whole_proposal p h = (proposal_line p (left_of _ _ (left_of _ _ (left_of _ _ (left_of _ _ (left_of _ _ (left_of _ _ h)))))) (right_of _ _ (left_of _ _ (left_of _ _ (left_of _ _ (left_of _ _ (left_of _ _ h)))))) (right_of _ _ (left_of _ _ (left_of _ _ (left_of _ _ (left_of _ _ h))))) (right_of _ _ (left_of _ _ (left_of _ _ (left_of _ _ h)))) (right_of _ _ (left_of _ _ (left_of _ _ h))), lines_map is_vote (vote_words p) (λ v k. vote_line p v (left_of _ _ (left_of _ _ (left_of _ _ (left_of _ _ (left_of _ _ (left_of _ _ h)))))) k) p.votes (right_of _ _ (left_of _ _ h)))

frozen_proposal : (p : Proposal) → is_proposal p ≡ true → AreLines (frozen_proposal_lines p)
frozen_proposal p h = (((omega arith, (action_id p.id (left_of _ _ (left_of _ _ (left_of _ _ (left_of _ _ (left_of _ _ (left_of _ _ h)))))), tt)), omega arith), lines_map is_vote (vote_words p) (λ v k. vote_line p v (left_of _ _ (left_of _ _ (left_of _ _ (left_of _ _ (left_of _ _ (left_of _ _ h)))))) k) p.votes (right_of _ _ (left_of _ _ h)))

-- ---- the rest of the state

books_are : (w : World) → has_book_form w.ledger ≡ true → lovelace_in w.ledger.outputs < 2 ^ 64 → AreLines (book_lines (shown_of w))
books_are w h few =
    let l : Ledger = w.ledger in
    (all_append IsLine (map drep_words l.dreps ++ flat_map pool_lines l.pools ++ map account_words (entries_of l) ++ flat_map output_lines l.outputs) (flat_map proposal_lines l.proposals) (all_append IsLine (map drep_words l.dreps ++ flat_map pool_lines l.pools ++ map account_words (entries_of l)) (flat_map output_lines l.outputs) (all_append IsLine (map drep_words l.dreps ++ flat_map pool_lines l.pools) (map account_words (entries_of l)) (all_append IsLine (map drep_words l.dreps) (flat_map pool_lines l.pools) (lines_map books.is_drep drep_words drep_line l.dreps (right_of _ _ (left_of _ _ (left_of _ _ (left_of _ _ h))))) (lines_flat books.is_pool pool_lines pool_lines_are l.pools (right_of _ _ (left_of _ _ (left_of _ _ (left_of _ _ (left_of _ _ (left_of _ _ h)))))))) (live_entries l few h)) (lines_flat books.is_output output_lines output_lines_are l.outputs (right_of _ _ (left_of _ _ (left_of _ _ (left_of _ _ (left_of _ _ (left_of _ _ (left_of _ _ (left_of _ _ (left_of _ _ (left_of _ _ (left_of _ _ (left_of _ _ h)))))))))))))) (lines_flat is_proposal proposal_lines whole_proposal l.proposals (left_of _ _ (right_of _ _ h))))

stake_line : (name : Text) (s : PoolId × ℕ) → IsWord name → books.is_stake s ≡ true → IsLine (snapshot_words name s)
stake_line name s k h = ((omega arith, (k, (pool s.0 (left_of _ _ h), (dec s.1 (u64 s.1 (right_of _ _ h)), tt)))), omega arith)

stakes_are : (name : Text) (stakes : List (PoolId × ℕ)) → IsWord name → are_stakes stakes ≡ true → AreLines (map (snapshot_words name) stakes)
stakes_are name stakes k h = lines_map books.is_stake (snapshot_words name) (λ s j. stake_line name s k j) stakes (right_of _ _ h)

snapshots_are : (w : World) → has_form w ≡ true → AreLines (snapshot_lines (shown_of w))
snapshots_are w h =
    (all_append IsLine (map (snapshot_words (codes "mark")) w.mark ++ map (snapshot_words (codes "set")) w.set ++ map (snapshot_words (codes "go")) w.go) (noted_fees_words w.noted_fees ∷ []) (all_append IsLine (map (snapshot_words (codes "mark")) w.mark ++ map (snapshot_words (codes "set")) w.set) (map (snapshot_words (codes "go")) w.go) (all_append IsLine (map (snapshot_words (codes "mark")) w.mark) (map (snapshot_words (codes "set")) w.set) (stakes_are (codes "mark") w.mark (omega arith) (right_of _ _ (left_of _ _ (left_of _ _ (left_of _ _ (left_of _ _ h)))))) (stakes_are (codes "set") w.set (omega arith) (right_of _ _ (left_of _ _ (left_of _ _ (left_of _ _ h)))))) (stakes_are (codes "go") w.go (omega arith) (right_of _ _ (left_of _ _ (left_of _ _ h))))) (((omega arith, (omega arith, (dec w.noted_fees (u64 w.noted_fees (right_of _ _ (left_of _ _ h))), tt))), omega arith), tt))

reward_line : (r : Credential × ℕ) → books.is_amount r ≡ true → IsLine (pending_reward_words r)
reward_line r h = ((omega arith, (omega arith, (cred r.0 (left_of _ _ h), (dec r.1 (u64 r.1 (right_of _ _ h)), tt)))), omega arith)

pending_are : (o : Option Rewards) → none_or is_pending_form o ≡ true → AreLines (pending_lines o)
pending_are None h = (((omega arith, (omega arith, tt)), omega arith), tt)
pending_are (Some u) h =
    let form : books.are_rewards u ≡ true = left_of _ _ h in
    (((omega arith, (omega arith, (dec u.from_reserves (u64 u.from_reserves (right_of _ _ (left_of _ _ (left_of _ _ (left_of _ _ form))))), (omega arith, (dec u.from_fees (u64 u.from_fees (right_of _ _ (left_of _ _ (left_of _ _ form)))), (omega arith, (dec u.to_treasury (u64 u.to_treasury (right_of _ _ (left_of _ _ form))), tt))))))), omega arith), lines_map books.is_amount pending_reward_words reward_line u.rewards (right_of _ _ form))

-- the pots are each at most the supply
record AreFew (l : Ledger) : Type 0 where
  outputs : (pots_of l).outputs < 2 ^ 64
  deposits : (pots_of l).deposits < 2 ^ 64
  rewards : (pots_of l).rewards < 2 ^ 64
  fees : (pots_of l).fees < 2 ^ 64
  donations : (pots_of l).donations < 2 ^ 64
  treasury : (pots_of l).treasury < 2 ^ 64
  reserves : (pots_of l).reserves < 2 ^ 64
  supply : supply_of l < 2 ^ 64

few : (l : Ledger) → holds_supply l ≡ true → AreFew l
few l h =
    let whole : supply_of l ≡ l.supply = eqb-true (supply_of l) l.supply (left_of _ _ h) in
    let limit : l.supply ≤ 45000000000000000 = leb-true l.supply 45000000000000000 (right_of _ _ h) in
    record { outputs = omega (arith, whole, limit); deposits = omega (arith, whole, limit); rewards = omega (arith, whole, limit); fees = omega (arith, whole, limit); donations = omega (arith, whole, limit); treasury = omega (arith, whole, limit); reserves = omega (arith, whole, limit); supply = omega (arith, whole, limit) }

pots_line : (l : Ledger) → AreFew l → IsLine (pots_words (codes "pots") (pots_of l))
pots_line l f = ((omega arith, (omega arith, (dec (pots_of l).outputs f.outputs, (omega arith, (dec (pots_of l).deposits f.deposits, (omega arith, (dec (pots_of l).rewards f.rewards, (omega arith, (dec (pots_of l).fees f.fees, (omega arith, (dec (pots_of l).donations f.donations, (omega arith, (dec (pots_of l).treasury f.treasury, (omega arith, (dec (pots_of l).reserves f.reserves, (omega arith, (dec (supply_of l) f.supply, tt))))))))))))))))), omega arith)

state_are : (w : World) → has_form w ≡ true → w.ledger.epoch < 2 ^ 64 → AreFew w.ledger → AreLines (state_lines w)
state_are w h e f =
    (all_append IsLine (governance_lines (shown_of w) ++ param_lines w.ledger.state.params ++ book_lines (shown_of w) ++ snapshot_lines (shown_of w) ++ pending_lines w.pending) (pots_words (codes "pots") (pots_of w.ledger) ∷ []) (all_append IsLine (governance_lines (shown_of w) ++ param_lines w.ledger.state.params ++ book_lines (shown_of w) ++ snapshot_lines (shown_of w)) (pending_lines w.pending) (all_append IsLine (governance_lines (shown_of w) ++ param_lines w.ledger.state.params ++ book_lines (shown_of w)) (snapshot_lines (shown_of w)) (all_append IsLine (governance_lines (shown_of w) ++ param_lines w.ledger.state.params) (book_lines (shown_of w)) (all_append IsLine (governance_lines (shown_of w)) (param_lines w.ledger.state.params) (governance w h e) (param_lines_are w.ledger.state.params (left_of _ _ (left_of _ _ (left_of _ _ (left_of _ _ (left_of _ _ (left_of _ _ (right_of _ _ (left_of _ _ (left_of _ _ (left_of _ _ (left_of _ _ (left_of _ _ (left_of _ _ (left_of _ _ h)))))))))))))))) (books_are w (right_of _ _ (left_of _ _ (left_of _ _ (left_of _ _ (left_of _ _ (left_of _ _ (left_of _ _ h))))))) f.outputs)) (snapshots_are w h)) (pending_are w.pending (right_of _ _ (left_of _ _ (left_of _ _ (left_of _ _ (left_of _ _ (left_of _ _ h)))))))) (pots_line w.ledger f, tt))

-- ---- what is frozen

expiry_line : (d : Credential × ℕ) → books.is_frozen_drep d ≡ true → IsLine (expiry_words d)
expiry_line d h = ((omega arith, (cred d.0 (left_of _ _ h), (omega arith, (dec d.1 (u64 d.1 (right_of _ _ h)), tt)))), omega arith)

entry_line : (e : Credential × Entry) → books.is_entry e ≡ true → IsLine (account_words e)
entry_line e h = account_line e.0 e.1 (left_of _ _ (left_of _ _ h)) (u64 e.1.stake (right_of _ _ (left_of _ _ h))) (right_of _ _ h)

account_found : (k : PoolId) (es : List (PoolId × Account)) → list_all books.is_pool_account es ≡ true → IsWord (or_none account_text (value_at pool_cmp es k))
account_found k [] h = omega arith
account_found k (e ∷ es) h =
    elim (is_at (pool_cmp k) e.0) as (λ b. IsWord (or_none account_text (cond b (Some e.1) (value_at pool_cmp es k)))) [
      | true ↦ account e.1 (right_of _ _ (left_of (books.is_pool_account e) (list_all books.is_pool_account es) h))
      | false ↦ account_found k es (right_of (books.is_pool_account e) (list_all books.is_pool_account es) h)
    ]

pool_account_line : (f : Snapshot) (m : PoolId × ℕ) → list_all books.is_pool_account f.pool_accounts ≡ true → books.is_stake m ≡ true → IsLine (pool_account_words f m)
pool_account_line f m k h = ((omega arith, (pool m.0 (left_of _ _ h), (omega arith, (account_found m.0 f.pool_accounts k, tt)))), omega arith)

abbrev frozen_inner : Snapshot → List (List Text)
frozen_inner f =
    (codes "treasury" ∷ decimal f.start.treasury ∷ []) ∷ []
    ++ map account_words f.entries
    ++ map expiry_words f.dreps
    ++ map hot_words f.hot
    ++ map (pool_account_words f) f.mark
    ++ flat_map frozen_proposal_lines f.proposals

frozen_are : (f : Snapshot) → is_snapshot f ≡ true → are_short_lines (frozen_lines f) ≡ true
frozen_are f h =
    let start : is_state f.start ≡ true = (right_of _ _ h) in
    let accounts : list_all books.is_pool_account f.pool_accounts ≡ true = right_of _ _ (left_of _ _ (right_of _ _ (left_of _ _ (left_of _ _ (left_of _ _ (left_of _ _ h)))))) in
    let treasury : IsLine (codes "treasury" ∷ decimal f.start.treasury ∷ []) = ((omega arith, (dec f.start.treasury (u64 f.start.treasury (right_of _ _ start)), tt)), omega arith) in
    short_frozen (frozen_inner f) (
      treasury,
      (all_append IsLine (map account_words f.entries ++ map expiry_words f.dreps ++ map hot_words f.hot ++ map (pool_account_words f) f.mark) (flat_map frozen_proposal_lines f.proposals) (all_append IsLine (map account_words f.entries ++ map expiry_words f.dreps ++ map hot_words f.hot) (map (pool_account_words f) f.mark) (all_append IsLine (map account_words f.entries ++ map expiry_words f.dreps) (map hot_words f.hot) (all_append IsLine (map account_words f.entries) (map expiry_words f.dreps) (lines_map books.is_entry account_words entry_line f.entries (right_of _ _ (left_of _ _ (left_of _ _ (left_of _ _ (left_of _ _ (left_of _ _ (left_of _ _ (left_of _ _ (left_of _ _ h)))))))))) (lines_map books.is_frozen_drep expiry_words expiry_line f.dreps (right_of _ _ (left_of _ _ (left_of _ _ (left_of _ _ (left_of _ _ (left_of _ _ (left_of _ _ h))))))))) (lines_map books.is_hot hot_words hot_line f.hot (right_of _ _ (left_of _ _ (left_of _ _ h))))) (lines_map books.is_stake (pool_account_words f) (λ m k. pool_account_line f m accounts k) f.mark (right_of _ _ (right_of _ _ (left_of _ _ (left_of _ _ (left_of _ _ (left_of _ _ (left_of _ _ h))))))))) (lines_flat is_proposal frozen_proposal_lines frozen_proposal f.proposals (left_of _ _ (right_of _ _ (left_of _ _ h))))),
    )

-- ---- all of it

used_line : (t : TxId) → is_tx_id t ≡ true → IsLine (used_words t)
used_line t h = ((omega arith, (hash_word 32 t.0 (omega arith) h, tt)), omega arith)

first_line : (w : World) → has_plain_form w.ledger ≡ true → is_u64 w.counted ≡ true → IsLine (checkpoint_words w 0)
first_line w h c = ((omega arith, (omega arith, (omega arith, (dec 0 (omega arith), (omega arith, (dec w.ledger.network (network w.ledger.network (left_of _ _ (left_of _ _ (left_of _ _ (left_of _ _ (left_of _ _ (left_of _ _ (left_of _ _ (left_of _ _ h))))))))), (omega arith, (dec w.ledger.epoch_length (u32 w.ledger.epoch_length (right_of _ _ (left_of _ _ (left_of _ _ (left_of _ _ (left_of _ _ (left_of _ _ (left_of _ _ h)))))))), (omega arith, (dec w.counted (u64 w.counted c), tt)))))))))), omega arith)

pub short_by_form : ShortByForm
short_by_form w h time supply counted actions =
    let short : List Text → Bool = λ (words : List Text). nat_le (length (joined words)) LINE_LIMIT in
    let plain : has_plain_form w.ledger ≡ true = (left_of _ _ (left_of _ _ (left_of _ _ (left_of _ _ (left_of _ _ (left_of _ _ (left_of _ _ (left_of _ _ h)))))))) in
    let clock : w.ledger.epoch ≡ w.ledger.slot / w.ledger.epoch_length = eqb-true w.ledger.epoch (w.ledger.slot / w.ledger.epoch_length) time in
    let at : w.ledger.slot < 2 ^ 64 = slot w.ledger.slot (right_of _ _ (left_of _ _ (left_of _ _ (left_of _ _ (left_of _ _ plain))))) in
    let epoch : w.ledger.epoch < 2 ^ 64 = omega (arith, clock, div-le_self w.ledger.slot w.ledger.epoch_length, at) in
    let front : are_short_lines (checkpoint_words w 0 ∷ state_lines w) ≡ true =
    short_lines (checkpoint_words w 0 ∷ state_lines w) (first_line w plain counted, state_are w h epoch (few w.ledger supply)) in
    let used : are_short_lines (map used_words w.ledger.used) ≡ true = short_lines (map used_words w.ledger.used) (lines_map is_tx_id used_words used_line w.ledger.used (right_of _ _ (left_of _ _ (left_of _ _ (left_of _ _ (left_of _ _ (left_of _ _ (left_of _ _ (left_of _ _ (left_of _ _ (left_of _ _ (right_of _ _ (left_of _ _ (left_of _ _ (left_of _ _ (left_of _ _ (left_of _ _ (left_of _ _ h)))))))))))))))))) in
    let last : are_short_lines ((codes "end" ∷ []) ∷ []) ≡ true = refl in
    (all_join short (checkpoint_words w 0 ∷ state_lines w ++ map used_words w.ledger.used ++ map action_words w.ledger.proposals ++ frozen_lines w.frozen) ((codes "end" ∷ []) ∷ []) (all_join short (checkpoint_words w 0 ∷ state_lines w ++ map used_words w.ledger.used ++ map action_words w.ledger.proposals) (frozen_lines w.frozen) (all_join short (checkpoint_words w 0 ∷ state_lines w ++ map used_words w.ledger.used) (map action_words w.ledger.proposals) (all_join short (checkpoint_words w 0 ∷ state_lines w) (map used_words w.ledger.used) front used) actions) (frozen_are w.frozen (right_of _ _ h))) last)
