-- The old values of a World, and those at names. (Own)
use Rattle.std.specs.Prelude.{List, [], ◌++◌, Option, Some, None, is_some, length, map}
use Rattle.std.specs.declared.cmp.Ordering.{Ordering}
use Rattle.std.specs.Map.{keys_of}
use Rattle.std.specs.Option.{option_and_then}
use Rattle.maps.specs.Maps.{value_at}
use Rattle.gov_ids.specs.declared.ActionId.{ActionId}
use Rattle.gov_ids.specs.declared.OutRef.{OutRef}
use Rattle.gov_ids.specs.declared.TxId.{TxId}
use Rattle.gov_ids.specs.declared.Voter.{Voter}
use Rattle.gov_ids.specs.Orders.{outref_cmp, voter_cmp}
use Rattle.book_records.specs.declared.Output.{Output}
use Rattle.gov_actions.specs.declared.action.Proposal.{Proposal}
use Rattle.gov_actions.specs.declared.action.Vote.{Vote}
use Rattle.gov_model.specs.Proposals.{proposal_of}
use Rattle.run_model.specs.World.{World}
use Rattle.tx_records.specs.declared.record.Record.{Record}
use Rattle.tx_records.specs.declared.record.Record.TheVariants as records
use Rattle.tx_records.specs.declared.tx.Tx.{Tx}
use Rattle.undo_model.specs.Undone.{Before}
use Rattle.undo_records.specs.declared.OldEntries.{OldEntries}
use Rattle.undo_records.specs.declared.OldValues.{OldValues}
use Rattle.undo_records.specs.Parts.{before_of}

-- the values of which a World has one, with the id that a transaction uses
abbrev pub values_of : World → Option TxId → OldValues
values_of w unused = record {
  slot = w.ledger.slot;
  dormant = w.ledger.dormant;
  fees = w.ledger.fees;
  donations = w.ledger.donations;
  proposals = length w.ledger.proposals;
  unused = unused;
  had_pending = is_some w.pending;
}

module _ {K X : Type 0} where
  -- the values at these keys; none where there is no entry
  abbrev pub old_at : (K → K → Ordering) → List (K × X) → List K → List (K × Option X)
  old_at cmp es ks = map (λ k. (k, value_at cmp es k)) ks

  -- none at each of these keys
  abbrev pub none_at : List K → List (K × Option X)
  none_at ks = map (λ k. (k, None)) ks

-- the outputs that are taken, and none at each that is made
abbrev pub old_outputs : List OutRef → List (OutRef × Output) → List (OutRef × Output) → List (OutRef × Option Output)
old_outputs taken made outputs = old_at outref_cmp outputs taken ++ none_at (keys_of made)

-- the vote of a voter on an action; none where there is no such proposal or vote
abbrev pub vote_on : List Proposal → ActionId → Voter → Option Vote
vote_on ps id v = option_and_then (λ (p : Proposal). value_at voter_cmp p.votes v) (proposal_of id ps)

-- the votes of these voters on these actions
abbrev pub old_votes_at : List Proposal → List (ActionId × Voter) → List ((ActionId × Voter) × Option Vote)
old_votes_at ps names = map (λ n. (n, vote_on ps n.0 n.1)) names

-- no old value at a name
abbrev pub no_entries : OldEntries
no_entries = record { outputs = []; accounts = []; pools = []; dreps = []; hot = []; votes = [] }

-- the old values of a record that changes nothing at a name
abbrev pub naming_nothing : World → Before
naming_nothing w = before_of (values_of w None) no_entries

-- the transaction that a record is, if it is one
abbrev pub tx_of : Record → Option Tx
tx_of (records.Tx tx) = Some tx
tx_of _ = None
