-- Each line of a checkpoint and of a certificate has a word.
use Rattle.std.proofs.Common.{ℕ, List, [], ◌∷◌, ◌++◌, Option, Some, None, codes, decimal, map}
use Rattle.std.specs.Prelude.{flat_map, option_to_list, zip}
use Rattle.book_records.specs.declared.DrepState.{DrepState}
use Rattle.book_records.specs.declared.Entry.{Entry}
use Rattle.book_records.specs.declared.Output.{Output}
use Rattle.book_records.specs.declared.pool.Pool.{Pool}
use Rattle.certificate_model.specs.Certificate.{certificate_lines, claim_lines, claim_of_proposal, mark_words, snapshot_lines, verdict_words, whole_proposal_lines}
use Rattle.certificate_model.specs.Parts.{Part, part_words, parts_of}
use Rattle.checkpoint_model.specs.Checkpoint.{checkpoint_lines, frozen, frozen_lines, frozen_proposal_lines, used_words}
use Rattle.gathered_lines.proofs.Gathering.{have_both}
use Rattle.gathered_lines.specs.Through.{HaveWords}
use Rattle.gov_actions.specs.declared.action.Proposal.{Proposal}
use Rattle.gov_actions.specs.declared.action.Vote.{Vote}
use Rattle.gov_actions.specs.declared.state.Committee.{Committee}
use Rattle.gov_actions.specs.declared.state.HotState.{HotState}
use Rattle.gov_actions.specs.declared.tally.Tally.{Tally}
use Rattle.gov_ids.specs.declared.assets.AssetId.{AssetId}
use Rattle.gov_ids.specs.declared.Credential.{Credential}
use Rattle.gov_ids.specs.declared.Drep.{Drep}
use Rattle.gov_ids.specs.declared.OutRef.{OutRef}
use Rattle.gov_ids.specs.declared.PoolId.{PoolId}
use Rattle.gov_ids.specs.declared.Voter.{Voter}
use Rattle.gov_model.specs.Ratified.{order_of, ratified_of, tallies_of}
use Rattle.gov_model.specs.Sides.{members_of}
use Rattle.gov_model.specs.Snapshot.{Snapshot}
use Rattle.run_model.specs.Report.{stakes_of}
use Rattle.run_model.specs.World.{World}
use Rattle.text_forms.specs.Snapshots.{action_words, expiry_words, pool_account_words}
use Rattle.text_model.specs.EpochLines.{stake_words}
use Rattle.text_model.specs.ParamLines.{param_lines}
use Rattle.text_model.specs.Replies.{pots_words}
use Rattle.text_model.specs.Shown.{Shown, shown_of}
use Rattle.text_model.specs.StateLines as state
use Rattle.text_model.specs.Words.{Text}
use Rattle.tx_records.specs.declared.record.Rewards.{Rewards}

-- ---- items

module _ {X : Type 0} where
  have_map : (words : X → List Text) → ((x : X) → HaveWords (words x ∷ [])) → (xs : List X) → HaveWords (map words xs)
  have_map words have [] = tt
  have_map words have (x ∷ xs) = have_both (words x ∷ []) (map words xs) (have x) (have_map words have xs)

  have_flat : (lines : X → List (List Text)) → ((x : X) → HaveWords (lines x)) → (xs : List X) → HaveWords (flat_map lines xs)
  have_flat lines have [] = tt
  have_flat lines have (x ∷ xs) = have_both (lines x) (flat_map lines xs) (have x) (have_flat lines have xs)

  -- some lines, and those of items
  and_map : (front : List (List Text)) → HaveWords front → (words : X → List Text) → ((x : X) → HaveWords (words x ∷ [])) → (xs : List X) → HaveWords (front ++ map words xs)
  and_map front first words have xs = have_both front (map words xs) first (have_map words have xs)

  and_flat : (front : List (List Text)) → HaveWords front → (lines : X → List (List Text)) → ((x : X) → HaveWords (lines x)) → (xs : List X) → HaveWords (front ++ flat_map lines xs)
  and_flat front first lines have xs = have_both front (flat_map lines xs) first (have_flat lines have xs)

drep_has : (d : Credential × DrepState) → HaveWords (state.drep_words d ∷ [])
drep_has (c, d) = tt

pool_has : (p : PoolId × Pool) → HaveWords (state.pool_lines p)
pool_has (p, t) = have_map (state.next_words p) (λ n. tt) (option_to_list t.future)

account_has : (a : Credential × Entry) → HaveWords (state.account_words a ∷ [])
account_has (c, e) = tt

asset_has : (a : AssetId × ℕ) → HaveWords (state.asset_words a ∷ [])
asset_has (a, n) = tt

output_has : (o : OutRef × Output) → HaveWords (state.output_lines o)
output_has (r, o) = have_map state.asset_words asset_has o.assets

vote_has : (p : Proposal) (v : Voter × Vote) → HaveWords (state.vote_words p v ∷ [])
vote_has p (v, vote) = tt

proposal_has : (p : Proposal) → HaveWords (state.proposal_lines p)
proposal_has p = have_map (state.vote_words p) (vote_has p) p.votes

snapshot_has : (name : Text) (s : PoolId × ℕ) → HaveWords (state.snapshot_words name s ∷ [])
snapshot_has name (p, n) = tt

reward_has : (r : Credential × ℕ) → HaveWords (state.pending_reward_words r ∷ [])
reward_has (c, n) = tt

pending_have : (u : Option Rewards) → HaveWords (state.pending_lines u)
pending_have None = tt
pending_have (Some u) = have_map state.pending_reward_words reward_has u.rewards

stake_has : (s : Drep × ℕ) → HaveWords (stake_words s ∷ [])
stake_has (d, n) = tt

-- ---- a state

members_have : (c : Option Committee) (hot : List (Credential × HotState)) → HaveWords (map (state.member_among hot) (members_of c) ++ map state.hot_words (state.hot_outside c hot))
members_have c hot =
    have_both (map (state.member_among hot) (members_of c)) (map state.hot_words (state.hot_outside c hot))
    (have_map (state.member_among hot) (λ m. tt) (members_of c)) (have_map state.hot_words (λ h. tt) (state.hot_outside c hot))

committee_has : (c : Option Committee) (hot : List (Credential × HotState)) → HaveWords (state.committee_lines c hot)
committee_has None hot = members_have None hot
committee_has (Some k) hot = members_have (Some k) hot

governance_has : (s : Shown) → HaveWords (state.governance_lines s)
governance_has s = have_both (state.committee_lines s.state.committee s.hot) (state.words_of_enacted s.state.last ∷ []) (committee_has s.state.committee s.hot) tt

books_have : (s : Shown) → HaveWords (state.book_lines s)
books_have s =
    let dreps : List (List Text) = map state.drep_words s.dreps in
    let pools : List (List Text) = dreps ++ flat_map state.pool_lines s.pools in
    let accounts : List (List Text) = pools ++ map state.account_words s.entries in
    let outputs : List (List Text) = accounts ++ flat_map state.output_lines s.outputs in
    and_flat outputs
    (and_flat accounts
    (and_map pools (and_flat dreps (have_map state.drep_words drep_has s.dreps) state.pool_lines pool_has s.pools) state.account_words account_has s.entries)
    state.output_lines output_has s.outputs)
    state.proposal_lines proposal_has s.proposals

snapshots_have : (s : Shown) → HaveWords (state.snapshot_lines s)
snapshots_have s =
    let of : Text → List (PoolId × ℕ) → List (List Text) = λ name stakes. map (state.snapshot_words name) stakes in
    let mark : List (List Text) = of (codes "mark") s.mark in
    let set : List (List Text) = mark ++ of (codes "set") s.set in
    have_both (set ++ of (codes "go") s.go) (state.noted_fees_words s.noted_fees ∷ [])
    (and_map set
    (and_map mark (have_map (state.snapshot_words (codes "mark")) (snapshot_has (codes "mark")) s.mark) (state.snapshot_words (codes "set")) (snapshot_has (codes "set")) s.set)
    (state.snapshot_words (codes "go")) (snapshot_has (codes "go")) s.go)
    tt

state_has : (s : Shown) → HaveWords (state.lines_of_shown s)
state_has s =
    let params : List (List Text) = state.governance_lines s ++ param_lines s.state.params in
    let books : List (List Text) = params ++ state.book_lines s in
    let stakes : List (List Text) = books ++ state.snapshot_lines s in
    have_both (stakes ++ state.pending_lines s.pending) (pots_words (codes "pots") s.pots ∷ [])
    (have_both stakes (state.pending_lines s.pending)
    (have_both books (state.snapshot_lines s)
    (have_both params (state.book_lines s) (have_both (state.governance_lines s) (param_lines s.state.params) (governance_has s) tt) (books_have s))
    (snapshots_have s))
    (pending_have s.pending))
    tt

-- ---- a checkpoint

frozen_have : (f : Snapshot) → HaveWords (frozen_lines f)
frozen_have f =
    have_map frozen (λ words. tt) (
    (codes "treasury" ∷ decimal f.start.treasury ∷ []) ∷ []
    ++ map state.account_words f.entries
    ++ map expiry_words f.dreps
    ++ map state.hot_words f.hot
    ++ map (pool_account_words f) f.mark
    ++ flat_map frozen_proposal_lines f.proposals)

pub checkpoint_has : (w : World) (n : ℕ) → HaveWords (checkpoint_lines w n)
checkpoint_has w n =
    let used : List (List Text) = state.state_lines w ++ map used_words w.ledger.used in
    let actions : List (List Text) = used ++ map action_words w.ledger.proposals in
    have_both (actions ++ frozen_lines w.frozen) ((codes "end" ∷ []) ∷ [])
    (have_both actions (frozen_lines w.frozen)
    (and_map used (and_map (state.state_lines w) (state_has (shown_of w)) used_words (λ t. tt) w.ledger.used) action_words (λ p. tt) w.ledger.proposals)
    (frozen_have w.frozen))
    tt

-- ---- a certificate

whole_proposal_has : (p : Proposal) → HaveWords (whole_proposal_lines p)
whole_proposal_has p = have_both (state.proposal_lines p) (action_words p ∷ []) (proposal_has p) tt

claim_has : (f : Snapshot) (c : Proposal × Tally) → HaveWords (claim_of_proposal f c)
claim_has f (a, t) = have_both (map (part_words a) (parts_of f a)) (verdict_words t ∷ []) (have_map (part_words a) (λ p. tt) (parts_of f a)) tt

claims_have : (f : Snapshot) → HaveWords (claim_lines f)
claims_have f =
    let stakes : List (List Text) = map stake_words (stakes_of f) in
    let claims : List (Proposal × Tally) = zip (order_of f) (tallies_of f (ratified_of f)) in
    have_both (stakes ++ flat_map (claim_of_proposal f) claims) ((codes "end" ∷ []) ∷ [])
    (and_flat stakes (have_map stake_words stake_has (stakes_of f)) (claim_of_proposal f) (claim_has f) claims)
    tt

heads_have : (f : Snapshot) → HaveWords (state.committee_lines f.start.committee f.hot ++ state.words_of_enacted f.start.last ∷ [] ++ param_lines f.start.params)
heads_have f =
    let committee : List (List Text) = state.committee_lines f.start.committee f.hot in
    have_both (committee ++ state.words_of_enacted f.start.last ∷ []) (param_lines f.start.params)
    (have_both committee (state.words_of_enacted f.start.last ∷ []) (committee_has f.start.committee f.hot) tt)
    tt

pub certificate_has : (f : Snapshot) → HaveWords (certificate_lines f)
certificate_has f =
    let heads : List (List Text) = state.committee_lines f.start.committee f.hot ++ state.words_of_enacted f.start.last ∷ [] ++ param_lines f.start.params in
    let dreps : List (List Text) = heads ++ map expiry_words f.dreps in
    let pools : List (List Text) = dreps ++ map (pool_account_words f) f.mark in
    let stakes : List (List Text) = pools ++ map mark_words f.mark in
    let accounts : List (List Text) = stakes ++ map state.account_words f.entries in
    have_both (snapshot_lines f) (claim_lines f)
    (and_flat accounts
    (and_map stakes
    (and_map pools (and_map dreps (and_map heads (heads_have f) expiry_words (λ d. tt) f.dreps) (pool_account_words f) (λ m. tt) f.mark) mark_words (λ m. tt) f.mark)
    state.account_words account_has f.entries)
    whole_proposal_lines whole_proposal_has f.proposals)
    (claims_have f)
