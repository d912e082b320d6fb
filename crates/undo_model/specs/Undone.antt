-- What an undo puts back, and the World after it. (Own)
use Rattle.std.specs.Prelude.{ℕ, Bool, List, Option, Some, None, filter, fold, map, take, if◌then◌else◌}
use Rattle.std.specs.declared.cmp.Ordering.{Ordering}
use Rattle.maps.specs.Maps.{without_member}
use Rattle.maps.specs.Replaced.{with_option}
use Rattle.gov_ids.specs.declared.ActionId.{ActionId}
use Rattle.gov_ids.specs.declared.Credential.{Credential}
use Rattle.gov_ids.specs.declared.OutRef.{OutRef}
use Rattle.gov_ids.specs.declared.PoolId.{PoolId}
use Rattle.gov_ids.specs.declared.TxId.{TxId}
use Rattle.gov_ids.specs.declared.Voter.{Voter}
use Rattle.gov_ids.specs.Orders.{credential_cmp, outref_cmp, pool_cmp, txid_cmp, voter_cmp}
use Rattle.gov_ids.specs.Same.{same_action}
use Rattle.book_records.specs.declared.DrepState.{DrepState}
use Rattle.book_records.specs.declared.Output.{Output}
use Rattle.book_records.specs.declared.Registered.{Registered}
use Rattle.book_records.specs.declared.pool.Pool.{Pool}
use Rattle.gov_actions.specs.declared.action.Proposal.{Proposal}
use Rattle.gov_actions.specs.declared.action.Vote.{Vote}
use Rattle.gov_actions.specs.declared.state.HotState.{HotState}
use Rattle.run_model.specs.World.{World}

-- old values of all that a record may change within the epoch, except the count
pub record Before : Type 0 where
  -- the last slot, and how many epochs ended without a proposal since the last new one
  pub slot : ℕ
  pub dormant : ℕ
  -- the fee pot and the donations, in lovelace
  pub fees : ℕ
  pub donations : ℕ
  -- whether a reward update was pending; within an epoch it stays
  pub had_pending : Bool
  -- how many proposals there were
  pub proposals : ℕ
  -- the id of a transaction, not used yet
  pub unused : Option TxId
  -- the old values at some keys of each map; none if there was no entry
  pub outputs : List (OutRef × Option Output)
  pub accounts : List (Credential × Option Registered)
  pub pools : List (PoolId × Option Pool)
  pub dreps : List (Credential × Option DrepState)
  pub hot : List (Credential × Option HotState)
  -- the old votes of some voters on some actions; none if there was no vote
  pub votes : List ((ActionId × Voter) × Option Vote)

-- the map with these old values; a key whose old value is none has no entry
abbrev pub with_old : {K X : Type 0} → (K → K → Ordering) → List (K × Option X) → List (K × X) → List (K × X)
with_old cmp olds es = fold (λ fs old. with_option cmp old.0 old.1 fs) es olds

-- the used ids without one that was not used yet
abbrev pub without_unused : Option TxId → List TxId → List TxId
without_unused None used = used
without_unused (Some id) used = without_member txid_cmp id used

-- the old votes on an action, each with its voter
abbrev pub old_votes_on : ActionId → List ((ActionId × Voter) × Option Vote) → List (Voter × Option Vote)
old_votes_on id olds = map (λ old. (old.0.1, old.1)) (filter (λ old. same_action old.0.0 id) olds)

-- a proposal with the old votes on it
abbrev pub with_old_votes : List ((ActionId × Voter) × Option Vote) → Proposal → Proposal
with_old_votes olds p = record p { votes = with_old voter_cmp (old_votes_on p.id olds) p.votes }

-- the World with the old values; the count and what is frozen stay
abbrev pub undone : Before → World → World
undone b w = record w {
  ledger = record w.ledger {
    slot = b.slot;
    dormant = b.dormant;
    fees = b.fees;
    donations = b.donations;
    outputs = with_old outref_cmp b.outputs w.ledger.outputs;
    used = without_unused b.unused w.ledger.used;
    accounts = with_old credential_cmp b.accounts w.ledger.accounts;
    pools = with_old pool_cmp b.pools w.ledger.pools;
    dreps = with_old credential_cmp b.dreps w.ledger.dreps;
    hot = with_old credential_cmp b.hot w.ledger.hot;
    proposals = map (with_old_votes b.votes) (take b.proposals w.ledger.proposals);
  };
  pending = if b.had_pending then w.pending else None;
}
