-- The parts of plain lists, what lines say of each, and which parts are made again. (Own)
use Rattle.std.specs.Prelude.{◌≡◌, ℕ, ◌==◌, Bool, List, Option, nat_le, not, map, option_map, true}
use Rattle.std.specs.List.{list_all}
use Rattle.maps.specs.Maps.{sum_values}
use Rattle.maps.specs.Words.{none_or, repeats}
use Rattle.gov_ids.specs.declared.ActionId.{ActionId}
use Rattle.gov_ids.specs.declared.Address.{Address}
use Rattle.gov_ids.specs.declared.assets.AssetId.{AssetId}
use Rattle.gov_ids.specs.declared.Credential.{Credential}
use Rattle.gov_ids.specs.declared.OutRef.{OutRef}
use Rattle.gov_ids.specs.declared.PoolId.{PoolId}
use Rattle.gov_ids.specs.declared.TxId.{TxId}
use Rattle.gov_ids.specs.Orders.{action_id_cmp, credential_cmp, pool_cmp}
use Rattle.pparams.specs.declared.Params.{Params}
use Rattle.book_records.specs.declared.Entry.{Entry}
use Rattle.book_records.specs.declared.Output.{Output}
use Rattle.book_records.specs.declared.Registered.{Registered}
use Rattle.book_records.specs.Outputs.{lovelace_in}
use Rattle.gov_actions.specs.declared.action.Action.{Action}
use Rattle.gov_actions.specs.declared.action.Proposal.{Proposal}
use Rattle.gov_actions.specs.declared.state.HotState.{HotState}
use Rattle.text_forms.specs.of_gov_model.Ratified.{ids_of}
use Rattle.text_forms.specs.of_gov_model.Sides.{members_of}
use Rattle.text_forms.specs.of_ledger_model.Ledger.{Ledger}
use Rattle.text_forms.specs.of_ledger_model.Supply.{total_of}
use Rattle.tx_records.specs.declared.limits.TheConstants.{LEAST_MAJOR}
use Rattle.tx_records.specs.declared.record.Rewards.{Rewards}
use Rattle.tx_records.specs.declared.report.Pots.{Pots}
use Rattle.tx_records.specs.Limits.{is_network, is_u32}
use Rattle.text_forms.specs.Ids.{is_map}
use Rattle.text_forms.specs.of_text_model.StateLines.{hot_outside}
use Rattle.checkpoint_model.specs.Resumable.{live_of, unvoted}
use Rattle.resume_checks.specs.declared.clock.Clock.{Clock}
use Rattle.resume_checks.specs.Forms.{are_accounts_of}
use Rattle.resume_checks.specs.Sums.{deposits_in}
use Rattle.snapshots.specs.declared.stakes.Snapshots.{Snapshots}
use Rattle.state_lists.specs.declared.lists.BookLists.{BookLists}
use Rattle.state_lists.specs.declared.lists.FrozenState.{FrozenState}
use Rattle.state_lists.specs.declared.lists.StateLists.{StateLists}
use Rattle.shown_lists.specs.Shows.{pools_shown}
use Rattle.book_rows.specs.Assets.{are_assets}
use Rattle.checkpoint_lists.specs.declared.gathered.Books.{Books}
use Rattle.checkpoint_lists.specs.declared.gathered.FrozenRows.{FrozenRows}
use Rattle.checkpoint_lists.specs.declared.gathered.Governance.{Governance as GovernanceRows}
use Rattle.checkpoint_lists.specs.declared.gathered.Stakes.{Stakes}
use Rattle.checkpoint_lists.specs.Shown.{frozen_proposal_row, member_row, output_row, pending_row, pool_row, proposal_row, rewards_of}
use Rattle.checkpoint_reader.specs.Gathered.{action_row}
use Rattle.account_rows.specs.Shown.{entries_shown}
use Rattle.committee_rows.specs.Shown.{IsGoverning}
use Rattle.told_lists.specs.declared.governance.Governed.{Governed}
use Rattle.told_lists.specs.Told.{have_votes_in_order}

-- ---- the clock

-- its network and the length of its epochs are in their ranges
pub record IsClock (c : Clock) : Type 0 where
  pub network : is_network c.network ≡ true
  pub length : is_u32 c.epoch_length ≡ true

-- what the first two lines say of it
abbrev pub clock_shown : Clock → (ℕ × ℕ) × (ℕ × ℕ × ℕ)
clock_shown c = ((c.network, c.epoch_length), (c.slot, c.epoch, c.dormant))

-- ---- how the chain is governed, and the cold keys

-- what is made again of the lines of governance
abbrev pub Governance : Type 0
Governance = Governed × List (Credential × HotState)

-- the version is one of Conway, and members and cold keys are in order
pub record IsGoverned (g : Governance) : Type 0 where
  pub clock : IsClock g.0.clock
  pub version : nat_le LEAST_MAJOR g.0.state.version.0 ≡ true
  pub governing : IsGoverning (g.0.state.committee, g.1)

-- what those lines say, with the parameters and the treasury
abbrev pub governed_shown : Governance → GovernanceRows × Params × ℕ
governed_shown g = (
  record {
    head = (g.0.line, g.0.clock.network, g.0.clock.epoch_length, g.0.counted);
    now = (g.0.clock.slot, g.0.clock.epoch, g.0.state.version, g.0.clock.dormant);
    constitution = (g.0.state.document, g.0.state.script);
    threshold = option_map (λ c. c.threshold) g.0.state.committee;
    members = map (member_row g.1) (members_of g.0.state.committee);
    hot = hot_outside g.0.state.committee g.1;
    last = g.0.state.last;
  },
  g.0.state.params,
  g.0.state.treasury,
)

-- ---- the books

-- outputs hold this lovelace, and each the assets that it may
pub record AreOutputs (lovelace : ℕ) (outputs : List (OutRef × Output)) : Type 0 where
  pub assets : list_all (λ o. are_assets o.1.assets) outputs ≡ true
  pub held : lovelace_in outputs ≡ lovelace

-- accounts are in order, and their balances are these rewards
pub record AreAccounts (rewards : ℕ) (accounts : List (Credential × Registered)) : Type 0 where
  pub in_order : is_map credential_cmp accounts ≡ true
  pub balances : sum_values (λ (r : Registered). r.rewards) accounts ≡ rewards

-- outputs and accounts
abbrev pub Held : Type 0
Held = List (OutRef × Output) × List (Credential × Registered)

-- they hold what the pots say
pub record AreHeld (pots : Pots) (held : Held) : Type 0 where
  pub outputs : AreOutputs pots.outputs held.0
  pub accounts : AreAccounts pots.rewards held.1

-- what lines say of them
abbrev pub held_shown : Ledger → Held → List ((OutRef × (Address × ℕ)) × List (AssetId × ℕ)) × List (Credential × Entry)
held_shown l held = (map output_row held.0, entries_shown l held.0 held.1)

-- no two proposals have one id; the votes on each are in order
pub record AreProposed (ps : List Proposal) : Type 0 where
  pub ids : not (repeats action_id_cmp (ids_of ps)) ≡ true
  pub votes : have_votes_in_order ps ≡ true

-- all books hold what the pots say
pub record AreBooks (pots : Pots) (b : BookLists) : Type 0 where
  pub held : AreHeld pots (b.outputs, b.accounts)
  pub proposed : AreProposed b.proposals
  pub deposits : deposits_in b.accounts b.pools b.dreps b.proposals ≡ pots.deposits

-- what lines say of the books, with the actions of proposals, the used ids, and all cold keys
abbrev pub books_shown : Ledger → BookLists → Books × List (ActionId × Action) × List TxId × List (Credential × HotState)
books_shown l b = (
  record {
    dreps = b.dreps;
    pools = map pool_row b.pools;
    entries = entries_shown l b.outputs b.accounts;
    outputs = map output_row b.outputs;
    proposals = map proposal_row b.proposals;
  },
  map action_row b.proposals,
  b.used,
  b.hot,
)

-- ---- the live state

-- the clock and the state, and the books
abbrev pub Live : Type 0
Live = Governed × BookLists

-- both are made again, and hold what the pots say
pub record IsLive (pots : Pots) (v : Live) : Type 0 where
  pub governed : IsGoverned (v.0, v.1.hot)
  pub books : AreBooks pots v.1

-- its ledger, with these pots
abbrev pub ledger_of_live : Pots → Live → Ledger
ledger_of_live pots v = record {
  network = v.0.clock.network;
  epoch_length = v.0.clock.epoch_length;
  supply = total_of pots;
  slot = v.0.clock.slot;
  epoch = v.0.clock.epoch;
  dormant = v.0.clock.dormant;
  reserves = pots.reserves;
  fees = pots.fees;
  donations = pots.donations;
  state = v.0.state;
  outputs = v.1.outputs;
  used = v.1.used;
  accounts = v.1.accounts;
  pools = v.1.pools;
  dreps = v.1.dreps;
  hot = v.1.hot;
  proposals = v.1.proposals;
}

-- what lines say of it: the cold keys are among those of governance
abbrev pub live_shown : Pots → Live → (GovernanceRows × Params × ℕ) × (Books × List (ActionId × Action) × List TxId)
live_shown pots v =
    let books = books_shown (ledger_of_live pots v) v.1 in
    (governed_shown (v.0, v.1.hot), (books.0, books.1, books.2))

-- ---- what epochs add

-- what is pending is of this epoch
abbrev pub is_pending : ℕ → Option Rewards → Bool
is_pending epoch p = none_or (λ (u : Rewards). u.epoch == epoch) p

-- what lines say of it
abbrev pub pending_shown : Option Rewards → Option (ℕ × ℕ × ℕ) × List (Credential × ℕ)
pending_shown p = (option_map pending_row p, rewards_of p)

-- what lines say of the stakes of pools
abbrev pub stakes_shown : Snapshots → Stakes
stakes_shown s = record { mark = s.mark; set = s.set; go = s.go; noted_fees = s.fees }

-- the frozen proposals are live ones with other votes, in order on each
pub record AreFrozen (live frozen : List Proposal) : Type 0 where
  pub kept : map unvoted (live_of frozen live) ≡ map unvoted frozen
  pub votes : have_votes_in_order frozen ≡ true

-- what is frozen beside this mark and these live proposals
pub record IsFrozen (mark : List (PoolId × ℕ)) (live : List Proposal) (f : FrozenState) : Type 0 where
  pub pool_accounts : are_accounts_of mark f.pool_accounts ≡ true
  pub proposals : AreFrozen live f.proposals

-- what lines say of it
abbrev pub frozen_shown : List (PoolId × ℕ) → FrozenState → FrozenRows
frozen_shown mark f = record {
  treasury = f.treasury;
  entries = f.entries;
  dreps = f.dreps;
  hot = f.hot;
  pools = pools_shown mark f.pool_accounts;
  proposals = map frozen_proposal_row f.proposals;
}

-- what is pending, the stakes of pools, and what is frozen
abbrev pub EpochLists : Type 0
EpochLists = Option Rewards × Snapshots × FrozenState

-- beside this epoch and these live proposals
pub record AreEpochLists (epoch : ℕ) (live : List Proposal) (e : EpochLists) : Type 0 where
  pub pending : is_pending epoch e.0 ≡ true
  pub mark : is_map pool_cmp e.1.mark ≡ true
  pub frozen : IsFrozen e.1.mark live e.2

-- what lines say of them
abbrev pub epoch_shown : EpochLists → (Option (ℕ × ℕ × ℕ) × List (Credential × ℕ)) × Stakes × FrozenRows
epoch_shown e = (pending_shown e.0, stakes_shown e.1, frozen_shown e.1.mark e.2)

-- ---- the whole

-- the whole state of these parts, and the number of the line
abbrev pub state_of : Pots → Live → EpochLists → StateLists × ℕ
state_of pots v e = (
  record {
    clock = v.0.clock;
    counted = v.0.counted;
    pots = pots;
    state = v.0.state;
    books = v.1;
    pending = e.0;
    stakes = e.1;
    frozen = e.2;
  },
  v.0.line,
)
