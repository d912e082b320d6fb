-- What a print of the state shows of the World.
-- (NewEpochState of the formal specification; what is shown is own)
use Rattle.std.specs.Prelude.{ℕ, List, Option}
use Rattle.gov_ids.specs.declared.Credential.{Credential}
use Rattle.gov_ids.specs.declared.OutRef.{OutRef}
use Rattle.gov_ids.specs.declared.PoolId.{PoolId}
use Rattle.run_model.specs.of_book_records.declared.DrepState.{DrepState}
use Rattle.run_model.specs.of_book_records.declared.Entry.{Entry}
use Rattle.run_model.specs.of_book_records.declared.Output.{Output}
use Rattle.run_model.specs.of_book_records.declared.pool.Pool.{Pool}
use Rattle.run_model.specs.of_gov_actions.declared.action.Proposal.{Proposal}
use Rattle.run_model.specs.of_gov_actions.declared.state.EnactState.{EnactState}
use Rattle.run_model.specs.of_gov_actions.declared.state.HotState.{HotState}
use Rattle.run_model.specs.of_tx_records.declared.record.Rewards.{Rewards}
use Rattle.run_model.specs.of_tx_records.declared.report.Pots.{Pots}
use Rattle.run_model.specs.of_ledger_model.Supply.{pots_of}
use Rattle.run_model.specs.Freeze.{entries_of}
use Rattle.run_model.specs.World.{World}

-- maps are in the order of their keys, proposals in order of submission
pub record Shown : Type 0 where
  -- where the chain is, and how many epochs ended without a proposal since the last new one
  pub slot : ℕ
  pub epoch : ℕ
  pub dormant : ℕ
  -- parameters, version, committee, constitution and last enacted ids
  pub state : EnactState
  -- what cold keys authorized, and the registered DReps and pools
  pub hot : List (Credential × HotState)
  pub dreps : List (Credential × DrepState)
  pub pools : List (PoolId × Pool)
  -- the credentials that are registered or have output stake
  pub entries : List (Credential × Entry)
  -- the unspent outputs and the live proposals
  pub outputs : List (OutRef × Output)
  pub proposals : List Proposal
  -- the stakes of the pools at the last three boundaries, and the fee pot at the last one
  pub mark : List (PoolId × ℕ)
  pub set : List (PoolId × ℕ)
  pub go : List (PoolId × ℕ)
  pub noted_fees : ℕ
  -- the reward update that the next boundary applies
  pub pending : Option Rewards
  -- the seven pots
  pub pots : Pots

-- of a World
abbrev pub shown_of : World → Shown
shown_of w = record {
  slot = w.ledger.slot;
  epoch = w.ledger.epoch;
  dormant = w.ledger.dormant;
  state = w.ledger.state;
  hot = w.ledger.hot;
  dreps = w.ledger.dreps;
  pools = w.ledger.pools;
  entries = entries_of w.ledger;
  outputs = w.ledger.outputs;
  proposals = w.ledger.proposals;
  mark = w.mark;
  set = w.set;
  go = w.go;
  noted_fees = w.noted_fees;
  pending = w.pending;
  pots = pots_of w.ledger;
}
