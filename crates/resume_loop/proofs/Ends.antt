-- Only the last line of a checkpoint is `end`.
use Rattle.std.proofs.Common.{◌≡◌, ◌||◌, ℕ, Bool, true, false, List, [], ◌∷◌, ◌++◌, Option, Some, None, ap, codes, decimal, refl, sym, ◌∙◌}
use Rattle.std.specs.Prelude.{flat_map, map, option_to_list}
use Rattle.std.proofs.lemmas.Bool.{false≢true}
use Rattle.book_records.specs.declared.Output.{Output}
use Rattle.book_records.specs.declared.pool.Pool.{Pool}
use Rattle.checkpoint_model.specs.Checkpoint.{checkpoint_lines, checkpoint_words, frozen, frozen_lines, frozen_proposal_lines, used_words}
use Rattle.ended_lines.specs.Ended.{has_end, is_end_line, up_to_end}
use Rattle.ended_lines.proofs.Passing.{front_more, has_more}
use Rattle.gov_actions.specs.declared.action.Proposal.{Proposal}
use Rattle.gov_actions.specs.declared.state.Committee.{Committee}
use Rattle.gov_actions.specs.declared.state.HotState.{HotState}
use Rattle.gov_ids.specs.declared.Credential.{Credential}
use Rattle.gov_ids.specs.declared.OutRef.{OutRef}
use Rattle.gov_ids.specs.declared.PoolId.{PoolId}
use Rattle.gov_model.specs.Sides.{members_of}
use Rattle.gov_model.specs.Snapshot.{Snapshot}
use Rattle.line_giver.specs.OfList.{whole_lines}
use Rattle.run_model.specs.World.{World}
use Rattle.text_forms.specs.Lines.{joined, joined_lines}
use Rattle.text_forms.specs.Snapshots.{action_words, expiry_words, pool_account_words}
use Rattle.text_model.specs.ParamLines.{param_lines}
use Rattle.text_model.specs.Replies.{pots_words}
use Rattle.text_model.specs.Shown.{Shown, shown_of}
use Rattle.text_model.specs.StateLines.{account_words, asset_words, book_lines, committee_lines, committee_words, drep_words, governance_lines, hot_outside, hot_words, lines_of_shown, member_among, next_words, noted_fees_words, output_lines, output_words, pending_lines, pending_reward_words, pending_words, pool_lines, pool_words, proposal_lines, proposal_words, snapshot_lines, snapshot_words, state_lines, vote_words, words_of_constitution, words_of_enacted, words_of_now}
use Rattle.text_model.specs.Words.{Text}
use Rattle.tx_records.specs.declared.record.Rewards.{Rewards}

-- the lines of a checkpoint
abbrev pub lines_of_checkpoint : World → ℕ → List (Option Text)
lines_of_checkpoint w line = whole_lines (joined_lines (checkpoint_lines w line))

-- only its last line is `end`
pub record EndsOnce (w : World) (line : ℕ) : Type 0 where
  pub front : up_to_end (lines_of_checkpoint w line) ≡ lines_of_checkpoint w line
  pub ended : has_end (lines_of_checkpoint w line) ≡ true

-- lines with the `end` have it before others
first_by : (b c d : Bool) → (b || c) ≡ true → (c ≡ true → d ≡ true) → (b || d) ≡ true
first_by true c d has later = refl
first_by false c d has later = later has

pub has_first : (lines more : List (Option Text)) → has_end lines ≡ true → has_end (lines ++ more) ≡ true
has_first [] more has = absurd (false≢true has)
has_first (l ∷ ls) more has = first_by (is_end_line l) (has_end ls) (has_end (ls ++ more)) has (has_first ls more)

-- ---- lines that are not `end`

-- the lines of words
abbrev lines : List (List Text) → List (Option Text)
lines words = whole_lines (joined_lines words)

-- the line of these words is not `end`
abbrev IsOther : List Text → Type 0
IsOther words = is_end_line (Some (joined words)) ≡ false

-- none of these lines is
abbrev AreOthers : List (List Text) → Type 0
AreOthers words = has_end (lines words) ≡ false

-- ---- lists of lines

lines_both : (a b : List (List Text)) → lines (a ++ b) ≡ lines a ++ lines b
lines_both [] b = refl
lines_both (ws ∷ a) b = ap (λ (ls : List (Option Text)). Some (joined ws) ∷ ls) (lines_both a b)

both : (a b : List (List Text)) → AreOthers a → AreOthers b → AreOthers (a ++ b)
both a b first second = ap has_end (lines_both a b) ∙ has_more (lines a) (lines b) first ∙ second

one : (ws : List Text) (others : List (List Text)) → IsOther ws → AreOthers others → AreOthers (ws ∷ others)
one ws others first second = ap (λ (b : Bool). b || has_end (lines others)) first ∙ second

each : {A : Type 0} (f : A → List Text) → ((x : A) → IsOther (f x)) → (xs : List A) → AreOthers (map f xs)
each f other [] = refl
each f other (x ∷ xs) = one (f x) (map f xs) (other x) (each f other xs)

all : {A : Type 0} (f : A → List (List Text)) → ((x : A) → AreOthers (f x)) → (xs : List A) → AreOthers (flat_map f xs)
all f others [] = refl
all f others (x ∷ xs) = both (f x) (flat_map f xs) (others x) (all f others xs)

-- ---- the state

committee_first : (o : Option Committee) → IsOther (committee_words o)
committee_first None = refl
committee_first (Some c) = refl

committee : (o : Option Committee) (hot : List (Credential × HotState)) → AreOthers (committee_lines o hot)
committee o hot =
    both (committee_words o ∷ [] ++ map (member_among hot) (members_of o)) (map hot_words (hot_outside o hot))
    (both (committee_words o ∷ []) (map (member_among hot) (members_of o)) (one (committee_words o) [] (committee_first o) refl) (each (member_among hot) (λ m. refl) (members_of o)))
    (each hot_words (λ h. refl) (hot_outside o hot))

governance : (s : Shown) → AreOthers (governance_lines s)
governance s =
    let first : List (List Text) = words_of_now s.slot s.epoch s.state.version s.dormant ∷ words_of_constitution s.state.document s.state.script ∷ [] in
    let middle : List (List Text) = committee_lines s.state.committee s.hot in
    both (first ++ middle) (words_of_enacted s.state.last ∷ []) (both first middle refl (committee s.state.committee s.hot)) refl

pool : (x : PoolId × Pool) → AreOthers (pool_lines x)
pool (p, t) = one (pool_words p t) (map (next_words p) (option_to_list t.future)) refl (each (next_words p) (λ n. refl) (option_to_list t.future))

output : (x : OutRef × Output) → AreOthers (output_lines x)
output (r, o) = one (output_words (r, o)) (map asset_words o.assets) refl (each asset_words (λ a. refl) o.assets)

proposal : (p : Proposal) → AreOthers (proposal_lines p)
proposal p = one (proposal_words p) (map (vote_words p) p.votes) refl (each (vote_words p) (λ v. refl) p.votes)

books : (s : Shown) → AreOthers (book_lines s)
books s =
    let dreps : List (List Text) = map drep_words s.dreps in
    let pools : List (List Text) = flat_map pool_lines s.pools in
    let entries : List (List Text) = map account_words s.entries in
    let outputs : List (List Text) = flat_map output_lines s.outputs in
    let proposals : List (List Text) = flat_map proposal_lines s.proposals in
    both (dreps ++ pools ++ entries ++ outputs) proposals
    (both (dreps ++ pools ++ entries) outputs
    (both (dreps ++ pools) entries
    (both dreps pools (each drep_words (λ d. refl) s.dreps) (all pool_lines pool s.pools))
    (each account_words (λ a. refl) s.entries))
    (all output_lines output s.outputs))
    (all proposal_lines proposal s.proposals)

snapshots : (s : Shown) → AreOthers (snapshot_lines s)
snapshots s =
    let mark : List (List Text) = map (snapshot_words (codes "mark")) s.mark in
    let set : List (List Text) = map (snapshot_words (codes "set")) s.set in
    let go : List (List Text) = map (snapshot_words (codes "go")) s.go in
    both (mark ++ set ++ go) (noted_fees_words s.noted_fees ∷ [])
    (both (mark ++ set) go
    (both mark set (each (snapshot_words (codes "mark")) (λ p. refl) s.mark) (each (snapshot_words (codes "set")) (λ p. refl) s.set))
    (each (snapshot_words (codes "go")) (λ p. refl) s.go))
    refl

pending : (o : Option Rewards) → AreOthers (pending_lines o)
pending None = refl
pending (Some u) = one (pending_words u) (map pending_reward_words u.rewards) refl (each pending_reward_words (λ r. refl) u.rewards)

state : (s : Shown) → AreOthers (lines_of_shown s)
state s =
    let governed : List (List Text) = governance_lines s in
    let params : List (List Text) = param_lines s.state.params in
    let kept : List (List Text) = book_lines s in
    let stakes : List (List Text) = snapshot_lines s in
    let update : List (List Text) = pending_lines s.pending in
    both (governed ++ params ++ kept ++ stakes ++ update) (pots_words (codes "pots") s.pots ∷ [])
    (both (governed ++ params ++ kept ++ stakes) update
    (both (governed ++ params ++ kept) stakes
    (both (governed ++ params) kept
    (both governed params (governance s) refl)
    (books s))
    (snapshots s))
    (pending s.pending))
    refl

-- ---- the checkpoint

-- the frozen parts, each without its first word
abbrev frozen_parts : Snapshot → List (List Text)
frozen_parts f =
    (codes "treasury" ∷ decimal f.start.treasury ∷ []) ∷ []
    ++ map account_words f.entries
    ++ map expiry_words f.dreps
    ++ map hot_words f.hot
    ++ map (pool_account_words f) f.mark
    ++ flat_map frozen_proposal_lines f.proposals

-- all lines but the last
front_others : (w : World) (line : ℕ) → AreOthers (
    checkpoint_words w line ∷ []
    ++ state_lines w
    ++ map used_words w.ledger.used
    ++ map action_words w.ledger.proposals
    ++ frozen_lines w.frozen)
front_others w line =
    let first : List (List Text) = checkpoint_words w line ∷ [] in
    let used : List (List Text) = map used_words w.ledger.used in
    let actions : List (List Text) = map action_words w.ledger.proposals in
    both (first ++ state_lines w ++ used ++ actions) (frozen_lines w.frozen)
    (both (first ++ state_lines w ++ used) actions
    (both (first ++ state_lines w) used
    (both first (state_lines w) refl (state (shown_of w)))
    (each used_words (λ t. refl) w.ledger.used))
    (each action_words (λ p. refl) w.ledger.proposals))
    (each frozen (λ ws. refl) (frozen_parts w.frozen))

pub ends_once : (w : World) (line : ℕ) → EndsOnce w line
ends_once w line =
    let front : List (List Text) =
    checkpoint_words w line ∷ []
    ++ state_lines w
    ++ map used_words w.ledger.used
    ++ map action_words w.ledger.proposals
    ++ frozen_lines w.frozen in
    let cut : lines (checkpoint_lines w line) ≡ lines front ++ lines ((codes "end" ∷ []) ∷ []) = lines_both front ((codes "end" ∷ []) ∷ []) in
    let others = front_others w line in
    record {
      front = ap up_to_end cut ∙ front_more (lines front) (lines ((codes "end" ∷ []) ∷ [])) others ∙ sym cut;
      ended = ap has_end cut ∙ has_more (lines front) (lines ((codes "end" ∷ []) ∷ [])) others;
    }
