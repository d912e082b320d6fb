-- No line of a snapshot is too long, where it has the form of the formats and no action is too long.
use Rattle.std.proofs.Common.{◌≡◌, ℕ, ◌^◌, ◌<◌, List, [], ◌∷◌, ◌++◌, All, Bool, true, cond, Contains, false, Option, Some, None, filter, flat_map, get_or, length, map, nat_le, refl, ap, subst, sym, arith}
use Rattle.std.specs.BTreeMap.{is_at}
use Rattle.std.specs.List.{AllByRecursion, list_all}
use Rattle.std.proofs.lemmas.Bool.{and_from}
use Rattle.std.proofs.lemmas.List.Elements.{All-contains, All-from_recursion, Contains-get_or, recursion_from_All}
use Rattle.maps.specs.Maps.{value_at}
use Rattle.maps.specs.Words.{none_or}
use Rattle.gov_ids.specs.declared.Account.{Account}
use Rattle.gov_ids.specs.declared.Credential.{Credential}
use Rattle.gov_ids.specs.declared.PoolId.{PoolId}
use Rattle.gov_ids.specs.Orders.{pool_cmp}
use Rattle.gov_ids.specs.Spelling.{account_text}
use Rattle.book_records.specs.declared.Entry.{Entry}
use Rattle.gov_actions.specs.declared.action.Action.{Action}
use Rattle.gov_actions.specs.declared.action.Proposal.{Proposal}
use Rattle.gov_actions.specs.declared.state.Committee.{Committee}
use Rattle.gov_actions.specs.declared.state.HotState.{HotState}
use Rattle.gov_model.specs.Sides.{members_of}
use Rattle.gov_model.specs.Snapshot.{Snapshot}
use Rattle.tx_records.specs.declared.limits.TheConstants.{LINE_LIMIT}
use Rattle.run_model.specs.SoundWorld.{IsSoundWorld}
use Rattle.run_model.specs.World.{World}
use Rattle.dormant_laws.proofs.Lists.{all_append, left_of, right_of}
use Rattle.text_forms.specs.Actions.{is_member, is_proposal, is_version, is_vote}
use Rattle.text_forms.specs.Books as books
use Rattle.text_forms.specs.Lines.{are_short_lines, joined}
use Rattle.text_forms.specs.Snapshots.{action_words, expiry_words, is_snapshot, pool_account_words}
use Rattle.text_forms.specs.States.{is_committee, is_conway_version, is_state}
use Rattle.text_model.specs.ParamLines.{param_lines}
use Rattle.text_model.specs.StateLines.{account_words, committee_lines, hot_outside, hot_words, member_among, proposal_lines, vote_words, words_of_constitution, words_of_enacted}
use Rattle.text_model.specs.Words.{Text, or_none, version_text}
use Rattle.certificate_model.specs.Certificate.{certificate_words, mark_words, snapshot_lines, whole_proposal_lines}
use Rattle.claim_lengths.proofs.proofs_of_further_laws.Widths.{AreLines, IsLine, IsWord, account, account_line, committee_line, constitution_line, cred, dec, enacted_line, hot_line, lines_map, member_line, now_line, param_lines_are, pool, proposal_line, short_lines, u64, vote_line}
use Rattle.action_lengths.specs.Laws.{is_within}

-- ---- single lines

version_word : (v : ℕ × ℕ) → is_version v ≡ true → IsWord (version_text v)
version_word v h = (now_line 0 0 0 v (omega arith) (omega arith) (omega arith) h).0.1.1.1.1.1.1.0

expiry_line : (d : Credential × ℕ) → books.is_frozen_drep d ≡ true → IsLine (expiry_words d)
expiry_line d h = ((omega arith, (cred d.0 (left_of _ _ h), (omega arith, (dec d.1 (u64 d.1 (right_of _ _ h)), tt)))), omega arith)

entry_line : (e : Credential × Entry) → books.is_entry e ≡ true → IsLine (account_words e)
entry_line e h = account_line e.0 e.1 (left_of _ _ (left_of _ _ h)) (u64 e.1.stake (right_of _ _ (left_of _ _ h))) (right_of _ _ h)

account_found : (k : PoolId) (es : List (PoolId × Account)) → list_all books.is_pool_account es ≡ true → IsWord (or_none account_text (value_at pool_cmp es k))
account_found k [] h = omega arith
account_found k (e ∷ es) h =
    elim (is_at (pool_cmp k) e.0) as (λ b. IsWord (or_none account_text (cond b (Some e.1) (value_at pool_cmp es k)))) [
      | true ↦ account e.1 (right_of _ _ (left_of (books.is_pool_account e) (list_all books.is_pool_account es) h))
      | false ↦ account_found k es (right_of (books.is_pool_account e) (list_all books.is_pool_account es) h)
    ]

pool_account_line : (f : Snapshot) (m : PoolId × ℕ) → list_all books.is_pool_account f.pool_accounts ≡ true → books.is_stake m ≡ true → IsLine (pool_account_words f m)
pool_account_line f m k h = ((omega arith, (pool m.0 (left_of _ _ h), (omega arith, (account_found m.0 f.pool_accounts k, tt)))), omega arith)

mark_line : (m : PoolId × ℕ) → books.is_stake m ≡ true → IsLine (mark_words m)
mark_line m h = ((omega arith, (pool m.0 (left_of _ _ h), (dec m.1 (u64 m.1 (right_of _ _ h)), tt))), omega arith)

-- ---- the committee

all_filtered : {A : Type 0} (p t : A → Bool) (xs : List A) → list_all p xs ≡ true → list_all p (filter t xs) ≡ true
all_filtered p t [] h = refl
all_filtered p t (x ∷ xs) h = elim (t x) as (λ b. list_all p (cond b (x ∷ filter t xs) (filter t xs)) ≡ true) [
  | true ↦ and_from (p x) (list_all p (filter t xs)) (left_of (p x) (list_all p xs) h) (all_filtered p t xs (right_of (p x) (list_all p xs) h))
  | false ↦ all_filtered p t xs (right_of (p x) (list_all p xs) h)
]

member_lines : (hot : List (Credential × HotState)) (o : Option Committee) → list_all books.is_hot hot ≡ true → none_or is_committee o ≡ true → AreLines (map (member_among hot) (members_of o))
member_lines hot None h k = tt
member_lines hot (Some c) h k = lines_map is_member (member_among hot) (λ m j. member_line hot m h j) c.members (right_of _ _ (left_of _ _ k))

seats : (hot : List (Credential × HotState)) (o : Option Committee) → list_all books.is_hot hot ≡ true → none_or is_committee o ≡ true → AreLines (committee_lines o hot)
seats hot o h k = (
  committee_line o k,
  all_append IsLine (map (member_among hot) (members_of o)) (map hot_words (hot_outside o hot)) (member_lines hot o h k)
      (lines_map books.is_hot hot_words hot_line (hot_outside o hot) (all_filtered books.is_hot _ hot h)),
)

-- ---- proposals

pub join : (xs ys : List (List Text)) → are_short_lines xs ≡ true → are_short_lines ys ≡ true → are_short_lines (xs ++ ys) ≡ true
join [] ys h k = k
join (x ∷ xs) ys h k = and_from (nat_le (length (joined x)) LINE_LIMIT) (are_short_lines (xs ++ ys)) (left_of (nat_le (length (joined x)) LINE_LIMIT) (are_short_lines xs) h) (join xs ys (right_of (nat_le (length (joined x)) LINE_LIMIT) (are_short_lines xs) h) k)

proposal_with_votes : (p : Proposal) → is_proposal p ≡ true → are_short_lines (proposal_lines p) ≡ true
proposal_with_votes p h =
    let votes = left_of _ _ h in
    let last = left_of _ _ votes in
    let account = left_of _ _ last in
    let deposit = left_of _ _ account in
    let action = left_of _ _ deposit in
    short_lines (proposal_lines p) (
      proposal_line p (left_of _ _ action) (right_of _ _ action) (right_of _ _ deposit) (right_of _ _ account) (right_of _ _ last),
      lines_map is_vote (vote_words p) (λ v k. vote_line p v (left_of _ _ action) k) p.votes (right_of _ _ votes),
    )

whole_proposals : (ps : List Proposal) → list_all is_proposal ps ≡ true → are_short_lines (map action_words ps) ≡ true → are_short_lines (flat_map whole_proposal_lines ps) ≡ true
whole_proposals [] h k = refl
whole_proposals (p ∷ ps) h k =
    let action : are_short_lines (action_words p ∷ []) ≡ true = and_from (nat_le (length (joined (action_words p))) LINE_LIMIT) true (left_of (nat_le (length (joined (action_words p))) LINE_LIMIT) (are_short_lines (map action_words ps)) k) refl in
    join (whole_proposal_lines p) (flat_map whole_proposal_lines ps) (join (proposal_lines p) (action_words p ∷ []) (proposal_with_votes p (left_of (is_proposal p) (list_all is_proposal ps) h)) action)
    (whole_proposals ps (right_of (is_proposal p) (list_all is_proposal ps) h) (right_of (nat_le (length (joined (action_words p))) LINE_LIMIT) (are_short_lines (map action_words ps)) k))

-- ---- the snapshot

first_line : (f : Snapshot) → f.epoch < 2 ^ 64 → is_state f.start ≡ true → IsLine (certificate_words f)
first_line f e h =
    let version : is_conway_version f.start.version ≡ true = right_of _ _ (left_of _ _ (left_of _ _ (left_of _ _ (left_of _ _ (left_of _ _ h))))) in
    ((omega arith, (omega arith, (dec f.epoch e, (omega arith, (version_word f.start.version (left_of _ _ version), (omega arith, (dec f.start.treasury (u64 f.start.treasury (right_of _ _ h)), tt))))))), omega arith)

pub snapshot_short : (f : Snapshot) → is_snapshot f ≡ true → f.epoch < 2 ^ 64 → are_short_lines (map action_words f.proposals) ≡ true → are_short_lines (snapshot_lines f) ≡ true
snapshot_short f h e actions =
    let state : is_state f.start ≡ true = right_of _ _ h in
    let proposals = left_of _ _ h in
    let hots = left_of _ _ proposals in
    let hot : list_all books.is_hot f.hot ≡ true = right_of _ _ hots in
    let accounts = left_of _ _ (left_of _ _ hots) in
    let stakes = left_of _ _ accounts in
    let dreps = left_of _ _ stakes in
    let mark : list_all books.is_stake f.mark ≡ true = right_of _ _ (right_of _ _ stakes) in
    let rewards : list_all books.is_pool_account f.pool_accounts ≡ true = right_of _ _ (left_of _ _ (right_of _ _ accounts)) in
    let last = left_of _ _ state in
    let script = left_of _ _ last in
    let document = left_of _ _ script in
    let committee = left_of _ _ document in
    let first : are_short_lines (certificate_words f ∷ words_of_constitution f.start.document f.start.script ∷ []) ≡ true =
    short_lines (certificate_words f ∷ words_of_constitution f.start.document f.start.script ∷ []) (first_line f e state, (constitution_line f.start.document f.start.script (right_of _ _ document) (right_of _ _ script), tt)) in
    let second : are_short_lines (committee_lines f.start.committee f.hot) ≡ true = short_lines (committee_lines f.start.committee f.hot) (seats f.hot f.start.committee hot (right_of _ _ committee)) in
    let third : are_short_lines (words_of_enacted f.start.last ∷ []) ≡ true = short_lines (words_of_enacted f.start.last ∷ []) (enacted_line f.start.last (right_of _ _ last), tt) in
    let fourth : are_short_lines (param_lines f.start.params) ≡ true = short_lines (param_lines f.start.params) (param_lines_are f.start.params (left_of _ _ (left_of _ _ committee))) in
    let fifth : are_short_lines (map expiry_words f.dreps) ≡ true = short_lines (map expiry_words f.dreps) (lines_map books.is_frozen_drep expiry_words expiry_line f.dreps (right_of _ _ dreps)) in
    let sixth : are_short_lines (map (pool_account_words f) f.mark) ≡ true =
    short_lines (map (pool_account_words f) f.mark) (lines_map books.is_stake (pool_account_words f) (λ m k. pool_account_line f m rewards k) f.mark mark) in
    let seventh : are_short_lines (map mark_words f.mark) ≡ true = short_lines (map mark_words f.mark) (lines_map books.is_stake mark_words mark_line f.mark mark) in
    let entries : list_all books.is_entry f.entries ≡ true = right_of _ _ (left_of _ _ (left_of _ _ dreps)) in
    let eighth : are_short_lines (map account_words f.entries) ≡ true = short_lines (map account_words f.entries) (lines_map books.is_entry account_words entry_line f.entries entries) in
    let ninth : are_short_lines (flat_map whole_proposal_lines f.proposals) ≡ true = whole_proposals f.proposals (left_of _ _ (right_of _ _ proposals)) actions in
    let a : List (List Text) = certificate_words f ∷ words_of_constitution f.start.document f.start.script ∷ [] in
    let b : List (List Text) = committee_lines f.start.committee f.hot in
    let c : List (List Text) = words_of_enacted f.start.last ∷ [] in
    let d : List (List Text) = param_lines f.start.params in
    let g : List (List Text) = map expiry_words f.dreps in
    let i : List (List Text) = map (pool_account_words f) f.mark in
    let j : List (List Text) = map mark_words f.mark in
    let k : List (List Text) = map account_words f.entries in
    let l : List (List Text) = flat_map whole_proposal_lines f.proposals in
    join (a ++ b ++ c ++ d ++ g ++ i ++ j ++ k) l (join (a ++ b ++ c ++ d ++ g ++ i ++ j) k (join (a ++ b ++ c ++ d ++ g ++ i) j (join (a ++ b ++ c ++ d ++ g) i (join (a ++ b ++ c ++ d) g (join (a ++ b ++ c) d (join (a ++ b) c (join a b first second) third) fourth) fifth) sixth) seventh) eighth) ninth

-- ---- actions of frozen proposals

of_live : (w : World) → list_all (λ (p : Proposal). is_within LINE_LIMIT p.action) w.ledger.proposals ≡ true → (a : Proposal) → (b : Proposal) × Contains w.ledger.proposals b × (record a { votes = b.votes } ≡ b) → is_within LINE_LIMIT a.action ≡ true
of_live w h a x =
    let there : is_within LINE_LIMIT x.0.action ≡ true =
    All-contains (λ (p : Proposal). is_within LINE_LIMIT p.action ≡ true) w.ledger.proposals x.0 (All-from_recursion (λ (p : Proposal). is_within LINE_LIMIT p.action ≡ true) w.ledger.proposals (each_within w.ledger.proposals h)) x.1 in
    subst (λ (b : Action). is_within LINE_LIMIT b ≡ true) (sym (ap (λ (p : Proposal). p.action) x.2)) there
  where
    each_within : (ps : List Proposal) → list_all (λ (p : Proposal). is_within LINE_LIMIT p.action) ps ≡ true → AllByRecursion (λ (p : Proposal). is_within LINE_LIMIT p.action ≡ true) ps
    each_within [] h = tt
    each_within (p ∷ ps) h = (left_of (is_within LINE_LIMIT p.action) (list_all (λ (q : Proposal). is_within LINE_LIMIT q.action) ps) h, each_within ps (right_of (is_within LINE_LIMIT p.action) (list_all (λ (q : Proposal). is_within LINE_LIMIT q.action) ps) h))

pub frozen_within : (w : World) → IsSoundWorld w → list_all (λ (p : Proposal). is_within LINE_LIMIT p.action) w.ledger.proposals ≡ true → list_all (λ (p : Proposal). is_within LINE_LIMIT p.action) w.frozen.proposals ≡ true
frozen_within w s h =
    let all : All (λ (p : Proposal). is_within LINE_LIMIT p.action ≡ true) w.frozen.proposals =
    λ k d l. of_live w h (get_or w.frozen.proposals k d) (s.stands.live (get_or w.frozen.proposals k d) (Contains-get_or w.frozen.proposals k d l)) in
    test_within w.frozen.proposals (recursion_from_All (λ (p : Proposal). is_within LINE_LIMIT p.action ≡ true) w.frozen.proposals all)
  where
    test_within : (ps : List Proposal) → AllByRecursion (λ (p : Proposal). is_within LINE_LIMIT p.action ≡ true) ps → list_all (λ (p : Proposal). is_within LINE_LIMIT p.action) ps ≡ true
    test_within [] h = refl
    test_within (p ∷ ps) h = and_from (is_within LINE_LIMIT p.action) (list_all (λ (q : Proposal). is_within LINE_LIMIT q.action) ps) h.0 (test_within ps h.1)
