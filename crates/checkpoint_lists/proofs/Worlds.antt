-- The lines of the checkpoint of a World, group by group.
use Rattle.std.proofs.Common.{◌≡◌, ℕ, ◌++◌, List, [], ◌∷◌, Option, Some, None, codes, flat_map, map, option_map, option_to_list, refl, ap, sym, ◌∙◌, append_assoc}
use Rattle.std.proofs.lemmas.List.{map-append}
use Rattle.gov_ids.specs.declared.Credential.{Credential}
use Rattle.gov_ids.specs.declared.OutRef.{OutRef}
use Rattle.gov_ids.specs.declared.PoolId.{PoolId}
use Rattle.book_records.specs.declared.Output.{Output}
use Rattle.book_records.specs.declared.pool.Pool.{Pool}
use Rattle.gov_actions.specs.declared.action.Proposal.{Proposal}
use Rattle.gov_actions.specs.declared.state.Committee.{Committee}
use Rattle.gov_actions.specs.declared.state.HotState.{HotState}
use Rattle.gov_model.specs.Sides.{members_of}
use Rattle.gov_model.specs.Snapshot.{Snapshot}
use Rattle.run_model.specs.World.{World}
use Rattle.text_forms.specs.Snapshots.{action_words, expiry_words, pool_account_words}
use Rattle.text_model.specs.ParamLines.{param_lines}
use Rattle.text_model.specs.Replies.{pots_words}
use Rattle.text_model.specs.Shown.{shown_of}
use Rattle.text_model.specs.StateLines.{account_words, book_lines, committee_words, drep_words, governance_lines, hot_outside, hot_words, member_among, output_lines, pending_lines, pending_reward_words, pool_lines, proposal_lines, snapshot_lines, state_lines, words_of_constitution, words_of_enacted, words_of_now}
use Rattle.text_model.specs.Words.{Text}
use Rattle.tx_records.specs.declared.record.Rewards.{Rewards}
use Rattle.checkpoint_model.specs.Checkpoint.{checkpoint_lines, checkpoint_words, frozen, frozen_lines, frozen_proposal_lines, used_words}
use Rattle.book_kinds.specs.Books.{vote_line}
use Rattle.book_kinds.specs.Frozen.{pool_account_line, proposal_id_line}
use Rattle.book_kinds.specs.Outputs.{output_line}
use Rattle.book_kinds.specs.Pools.{next_line, pool_line}
use Rattle.state_kinds.specs.Proposals.{proposal_line}
use Rattle.state_kinds.specs.States.{committee_line, end_line, member_line, treasury_line}
use Rattle.text_model.specs.StateLines.{asset_words}
use Rattle.checkpoint_lists.specs.Pots.{pending_or_none}
use Rattle.checkpoint_lists.specs.Rows.{amount_rows, book_rows, frozen_rows, governance_rows, rows_of, stake_rows}
use Rattle.checkpoint_lists.specs.Shown.{amounts_shown, books_shown, frozen_proposal_row, frozen_shown, governance_shown, member_row, output_row, pending_row, pool_account_row, pool_row, proposal_row, rewards_of, ShownAreOfWorlds, stakes_shown}

-- ---- lists

-- one change after another
map_twice : {A B C : Type 0} (f : A → B) (g : B → C) (h : A → C) → ((x : A) → g (f x) ≡ h x) → (xs : List A) → map g (map f xs) ≡ map h xs
map_twice f g h same [] = refl
map_twice f g h same (x ∷ xs) = ap (λ t. t ∷ map g (map f xs)) (same x) ∙ ap (λ t. h x ∷ t) (map_twice f g h same xs)

-- lines of items that were changed
lines_twice : {A B : Type 0} (f : A → B) (g : B → List (List Text)) (h : A → List (List Text)) → ((x : A) → g (f x) ≡ h x) → (xs : List A) → flat_map g (map f xs) ≡ flat_map h xs
lines_twice f g h same [] = refl
lines_twice f g h same (x ∷ xs) = ap (λ t. t ++ flat_map g (map f xs)) (same x) ∙ ap (λ t. h x ++ t) (lines_twice f g h same xs)

-- a change of lines of items
map_lines : {A : Type 0} (f : List Text → List Text) (g h : A → List (List Text)) → ((x : A) → h x ≡ map f (g x)) → (xs : List A) → flat_map h xs ≡ map f (flat_map g xs)
map_lines f g h same [] = refl
map_lines f g h same (x ∷ xs) = ap (λ t. t ++ flat_map h xs) (same x) ∙ ap (λ t. map f (g x) ++ t) (map_lines f g h same xs) ∙ sym (map-append f (g x) (flat_map g xs))

-- ---- governance

committee_same : (c : Option Committee) → committee_line (option_map (λ d. d.threshold) c) ≡ committee_words c
committee_same None = refl
committee_same (Some c) = refl

members_same : (hot : List (Credential × HotState)) (ms : List (Credential × ℕ)) → map member_line (map (member_row hot) ms) ≡ map (member_among hot) ms
members_same hot ms = map_twice (member_row hot) member_line (member_among hot) (λ m. refl) ms

governance_same : (w : World) (line : ℕ) → governance_rows (governance_shown w line) ≡ checkpoint_words w line ∷ governance_lines (shown_of w)
governance_same w line =
    let s = shown_of w in
    let outside = hot_outside s.state.committee s.hot in
    let front : List Text → List (List Text) → List (List Text) = λ c t. checkpoint_words w line ∷ words_of_now s.slot s.epoch s.state.version s.dormant ∷ words_of_constitution s.state.document s.state.script ∷ c ∷ t in
    ap (λ c. front c (map member_line (map (member_row s.hot) (members_of s.state.committee)) ++ map hot_words outside ++ words_of_enacted s.state.last ∷ [])) (committee_same s.state.committee)
    ∙ ap (λ t. front (committee_words s.state.committee) (t ++ map hot_words outside ++ words_of_enacted s.state.last ∷ [])) (members_same s.hot (members_of s.state.committee))

-- ---- books

pool_same : (p : PoolId × Pool) → rows_of pool_line next_line (pool_row p) ≡ pool_lines p
pool_same p = ap (λ (t : List (List Text)). pool_line p ∷ t) (map_twice _ next_line _ (λ t. refl) (option_to_list p.1.future))

proposal_same : (p : Proposal) → rows_of proposal_line vote_line (proposal_row p) ≡ proposal_lines p
proposal_same p = ap (λ (t : List (List Text)). proposal_line (proposal_row p).0 ∷ t) (map_twice _ vote_line _ (λ v. refl) p.votes)

books_same : (w : World) → book_rows (books_shown w) ≡ book_lines (shown_of w)
books_same w =
    let s = shown_of w in
    ap (λ t. map drep_words s.dreps ++ t ++ map account_words s.entries ++ flat_map (rows_of output_line asset_words) (map output_row s.outputs) ++ flat_map (rows_of proposal_line vote_line) (map proposal_row s.proposals)) (lines_twice pool_row (rows_of pool_line next_line) pool_lines pool_same s.pools)
    ∙ ap (λ t. map drep_words s.dreps ++ flat_map pool_lines s.pools ++ map account_words s.entries ++ t ++ flat_map (rows_of proposal_line vote_line) (map proposal_row s.proposals)) (lines_twice output_row (rows_of output_line asset_words) output_lines (λ o. refl) s.outputs)
    ∙ ap (λ t. map drep_words s.dreps ++ flat_map pool_lines s.pools ++ map account_words s.entries ++ flat_map output_lines s.outputs ++ t) (lines_twice proposal_row (rows_of proposal_line vote_line) proposal_lines proposal_same s.proposals)

-- ---- amounts

pending_same : (u : Option Rewards) (pots : List Text) (used : List (List Text)) → pending_or_none (option_map pending_row u) ∷ [] ++ map pending_reward_words (rewards_of u) ++ pots ∷ [] ++ used ≡ pending_lines u ++ pots ∷ [] ++ used
pending_same None pots used = refl
pending_same (Some u) pots used = refl

-- ---- what is frozen

frozen_proposal_same : (p : Proposal) → rows_of (λ i. frozen (proposal_id_line i)) (λ v. frozen (vote_line v)) (frozen_proposal_row p) ≡ map frozen (frozen_proposal_lines p)
frozen_proposal_same p = ap (λ (t : List (List Text)). frozen (proposal_id_line p.id) ∷ t) (map_twice _ (λ v. frozen (vote_line v)) _ (λ v. refl) p.votes ∙ sym (map_twice _ frozen _ (λ v. refl) p.votes))

frozen_proposals_same : (ps : List Proposal) → flat_map (rows_of (λ i. frozen (proposal_id_line i)) (λ v. frozen (vote_line v))) (map frozen_proposal_row ps) ≡ map frozen (flat_map frozen_proposal_lines ps)
frozen_proposals_same ps =
    let rows = rows_of (λ i. frozen (proposal_id_line i)) (λ v. frozen (vote_line v)) in
    lines_twice frozen_proposal_row rows (λ p. rows (frozen_proposal_row p)) (λ p. refl) ps
    ∙ map_lines frozen frozen_proposal_lines (λ p. rows (frozen_proposal_row p)) frozen_proposal_same ps

-- a change of six lists, one after another
map_six : (f : List Text → List Text) (a b c d e g : List (List Text)) → map f (a ++ b ++ c ++ d ++ e ++ g) ≡ map f a ++ map f b ++ map f c ++ map f d ++ map f e ++ map f g
map_six f a b c d e g =
    map-append f (a ++ b ++ c ++ d ++ e) g
    ∙ ap (λ t. t ++ map f g) (map-append f (a ++ b ++ c ++ d) e)
    ∙ ap (λ t. t ++ map f e ++ map f g) (map-append f (a ++ b ++ c) d)
    ∙ ap (λ t. t ++ map f d ++ map f e ++ map f g) (map-append f (a ++ b) c)
    ∙ ap (λ t. t ++ map f c ++ map f d ++ map f e ++ map f g) (map-append f a b)

frozen_same : (f : Snapshot) → frozen_rows (frozen_shown f) ≡ frozen_lines f ++ end_line ∷ []
frozen_same f =
    let first : List (List Text) = treasury_line f.start.treasury ∷ [] in
    let whole = map_six frozen first (map account_words f.entries) (map expiry_words f.dreps) (map hot_words f.hot) (map (pool_account_words f) f.mark) (flat_map frozen_proposal_lines f.proposals) in
    let entries = map_twice account_words frozen (λ e. frozen (account_words e)) (λ e. refl) f.entries in
    let dreps = map_twice expiry_words frozen (λ d. frozen (expiry_words d)) (λ d. refl) f.dreps in
    let hot = map_twice hot_words frozen (λ h. frozen (hot_words h)) (λ h. refl) f.hot in
    let pools =
    map_twice (pool_account_row f) (λ p. frozen (pool_account_line p)) (λ m. frozen (pool_account_words f m)) (λ m. refl) f.mark
    ∙ sym (map_twice (pool_account_words f) frozen (λ m. frozen (pool_account_words f m)) (λ m. refl) f.mark) in
    let t1 : List (List Text) = frozen (treasury_line f.start.treasury) ∷ [] in
    let a1 = map (λ e. frozen (account_words e)) f.entries in
    let b1 = map (λ d. frozen (expiry_words d)) f.dreps in
    let c1 = map (λ h. frozen (hot_words h)) f.hot in
    let e1 = flat_map (rows_of (λ i. frozen (proposal_id_line i)) (λ v. frozen (vote_line v))) (map frozen_proposal_row f.proposals) in
    let a2 = map frozen (map account_words f.entries) in
    let b2 = map frozen (map expiry_words f.dreps) in
    let d2 = map frozen (map (pool_account_words f) f.mark) in
    let e2 = map frozen (flat_map frozen_proposal_lines f.proposals) in
    let end : List (List Text) = end_line ∷ [] in
    ap (λ t. t1 ++ a1 ++ b1 ++ c1 ++ t ++ e1 ++ end) pools
    ∙ ap (λ t. t1 ++ a1 ++ b1 ++ c1 ++ d2 ++ t ++ end) (frozen_proposals_same f.proposals)
    ∙ ap (λ t. t1 ++ t ++ b1 ++ c1 ++ d2 ++ e2 ++ end) (sym entries)
    ∙ ap (λ t. t1 ++ a2 ++ t ++ c1 ++ d2 ++ e2 ++ end) (sym dreps)
    ∙ ap (λ t. t1 ++ a2 ++ b2 ++ t ++ d2 ++ e2 ++ end) (sym hot)
    ∙ ap (λ (t : List (List Text)). t ++ end) (sym whole)

-- ---- all of it

pub shown_same : ShownAreOfWorlds
shown_same w line =
    let s = shown_of w in
    let params = param_lines s.state.params in
    let pots : List Text = pots_words (codes "pots") s.pots in
    let used = map used_words w.ledger.used in
    let actions = map action_words w.ledger.proposals in
    let rest = frozen_rows (frozen_shown w.frozen) in
    let head : List (List Text) = checkpoint_words w line ∷ governance_lines s in
    let front : List (List Text) = governance_lines s ++ params ++ book_lines s ++ snapshot_lines s in
    let lines = frozen_lines w.frozen in
    let end : List (List Text) = end_line ∷ [] in
    ap (λ t. t ++ params ++ book_rows (books_shown w) ++ snapshot_lines s ++ amount_rows (amounts_shown w) ++ actions ++ rest) (governance_same w line)
    ∙ ap (λ t. head ++ params ++ t ++ snapshot_lines s ++ amount_rows (amounts_shown w) ++ actions ++ rest) (books_same w)
    ∙ ap (λ t. checkpoint_words w line ∷ (front ++ t ++ actions ++ rest)) (pending_same w.pending pots used)
    ∙ ap (λ t. checkpoint_words w line ∷ (t ++ actions ++ rest)) (sym (append_assoc front (pending_lines w.pending ++ pots ∷ []) used))
    ∙ ap (λ t. checkpoint_words w line ∷ (t ++ used ++ actions ++ rest)) (sym (append_assoc front (pending_lines w.pending) (pots ∷ [])))
    ∙ ap (λ t. checkpoint_words w line ∷ (state_lines w ++ used ++ actions ++ t)) (frozen_same w.frozen)
    ∙ ap (λ t. checkpoint_words w line ∷ t) (sym (append_assoc (state_lines w ++ used ++ actions) lines end))
