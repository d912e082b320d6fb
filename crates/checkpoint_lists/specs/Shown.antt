-- What the lines of the checkpoint of a World say. (Own)
use Rattle.std.specs.Prelude.{◌≡◌, ℕ, ◌++◌, List, [], Option, Some, None, map, option_map, option_to_list}
use Rattle.maps.specs.Maps.{value_at}
use Rattle.gov_ids.specs.declared.Account.{Account}
use Rattle.gov_ids.specs.declared.ActionId.{ActionId}
use Rattle.gov_ids.specs.declared.Address.{Address}
use Rattle.gov_ids.specs.declared.assets.AssetId.{AssetId}
use Rattle.gov_ids.specs.declared.Credential.{Credential}
use Rattle.gov_ids.specs.declared.OutRef.{OutRef}
use Rattle.gov_ids.specs.declared.PoolId.{PoolId}
use Rattle.gov_ids.specs.declared.Voter.{Voter}
use Rattle.gov_ids.specs.Orders.{credential_cmp, pool_cmp}
use Rattle.book_records.specs.declared.Output.{Output}
use Rattle.book_records.specs.declared.pool.Pool.{Pool}
use Rattle.book_records.specs.declared.pool.PoolTerms.{PoolTerms}
use Rattle.gov_actions.specs.declared.action.Proposal.{Proposal}
use Rattle.gov_actions.specs.declared.action.Vote.{Vote}
use Rattle.gov_actions.specs.declared.state.HotState.{HotState}
use Rattle.gov_model.specs.Sides.{members_of}
use Rattle.gov_model.specs.Snapshot.{Snapshot}
use Rattle.ledger_model.specs.Supply.{pots_of}
use Rattle.run_model.specs.Freeze.{entries_of}
use Rattle.run_model.specs.World.{World}
use Rattle.text_forms.specs.Snapshots.{action_words}
use Rattle.text_model.specs.ParamLines.{param_lines}
use Rattle.text_model.specs.StateLines.{hot_outside}
use Rattle.tx_records.specs.declared.record.Rewards.{Rewards}
use Rattle.checkpoint_model.specs.Checkpoint.{checkpoint_lines}
use Rattle.state_kinds.specs.declared.proposals.ProposalRow.{ProposalRow}
use Rattle.state_kinds.specs.Proposals.{row_of}
use Rattle.checkpoint_lists.specs.declared.gathered.Amounts.{Amounts}
use Rattle.checkpoint_lists.specs.declared.gathered.Books.{Books}
use Rattle.checkpoint_lists.specs.declared.gathered.FrozenRows.{FrozenRows}
use Rattle.checkpoint_lists.specs.declared.gathered.Governance.{Governance}
use Rattle.checkpoint_lists.specs.declared.gathered.Stakes.{Stakes}
use Rattle.checkpoint_lists.specs.Rows.{amount_rows, book_rows, frozen_rows, governance_rows, stake_rows}

-- a member, and what its cold key authorized
abbrev pub member_row : List (Credential × HotState) → Credential × ℕ → (Credential × ℕ) × Option HotState
member_row hot m = (m, value_at credential_cmp hot m.0)

-- where the chain is, how it is governed, and what was enacted last
abbrev pub governance_shown : World → ℕ → Governance
governance_shown w line = record {
  head = (line, w.ledger.network, w.ledger.epoch_length, w.counted);
  now = (w.ledger.slot, w.ledger.epoch, w.ledger.state.version, w.ledger.dormant);
  constitution = (w.ledger.state.document, w.ledger.state.script);
  threshold = option_map (λ c. c.threshold) w.ledger.state.committee;
  members = map (member_row w.ledger.hot) (members_of w.ledger.state.committee);
  hot = hot_outside w.ledger.state.committee w.ledger.hot;
  last = w.ledger.state.last;
}

-- a pool without its future terms, and those
abbrev pub pool_row : PoolId × Pool → (PoolId × Pool) × List (PoolId × PoolTerms)
pool_row p = ((p.0, record p.1 { future = None }), map (λ (t : PoolTerms). (p.0, t)) (option_to_list p.1.future))

-- an output without its assets, and those
abbrev pub output_row : OutRef × Output → (OutRef × (Address × ℕ)) × List (AssetId × ℕ)
output_row o = ((o.0, (o.1.address, o.1.lovelace)), o.1.assets)

-- the votes on a proposal, each with its id
abbrev pub vote_rows : Proposal → List (ActionId × (Voter × Vote))
vote_rows p = map (λ (v : Voter × Vote). (p.id, v)) p.votes

-- a proposal without its action, and the votes on it
abbrev pub proposal_row : Proposal → ProposalRow × List (ActionId × (Voter × Vote))
proposal_row p = (row_of p, vote_rows p)

-- the books
abbrev pub books_shown : World → Books
books_shown w = record {
  dreps = w.ledger.dreps;
  pools = map pool_row w.ledger.pools;
  entries = entries_of w.ledger;
  outputs = map output_row w.ledger.outputs;
  proposals = map proposal_row w.ledger.proposals;
}

-- the stakes of pools and the noted fees
abbrev pub stakes_shown : World → Stakes
stakes_shown w = record { mark = w.mark; set = w.set; go = w.go; noted_fees = w.noted_fees }

-- a pending update without its rewards
abbrev pub pending_row : Rewards → ℕ × ℕ × ℕ
pending_row u = (u.from_reserves, u.from_fees, u.to_treasury)

-- the rewards of what is pending
abbrev pub rewards_of : Option Rewards → List (Credential × ℕ)
rewards_of None = []
rewards_of (Some u) = u.rewards

-- what is pending, the pots, and the used ids
abbrev pub amounts_shown : World → Amounts
amounts_shown w = record { pending = option_map pending_row w.pending; rewards = rewards_of w.pending; pots = pots_of w.ledger; used = w.ledger.used }

-- a pool of mark with its reward account
abbrev pub pool_account_row : Snapshot → PoolId × ℕ → PoolId × Option Account
pool_account_row f m = (m.0, value_at pool_cmp f.pool_accounts m.0)

-- a frozen proposal's id, and the votes on it
abbrev pub frozen_proposal_row : Proposal → ActionId × List (ActionId × (Voter × Vote))
frozen_proposal_row p = (p.id, vote_rows p)

-- what is frozen, except what other lines show
abbrev pub frozen_shown : Snapshot → FrozenRows
frozen_shown f = record {
  treasury = f.start.treasury;
  entries = f.entries;
  dreps = f.dreps;
  hot = f.hot;
  pools = map (pool_account_row f) f.mark;
  proposals = map frozen_proposal_row f.proposals;
}

-- the lines of the checkpoint of a World are those of what it shows, its parameters and actions
abbrev pub ShownAreOfWorlds : Type 0
ShownAreOfWorlds = (w : World) (line : ℕ) →
    governance_rows (governance_shown w line)
    ++ param_lines w.ledger.state.params
    ++ book_rows (books_shown w)
    ++ stake_rows (stakes_shown w)
    ++ amount_rows (amounts_shown w)
    ++ map action_words w.ledger.proposals
    ++ frozen_rows (frozen_shown w.frozen)
    ≡ checkpoint_lines w line
