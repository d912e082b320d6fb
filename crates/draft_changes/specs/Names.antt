-- The names that changes touch; a ledger with the changes is equal at all others. (Own)
use Rattle.std.specs.Prelude.{◌≡◌, false, ◌&&◌, List, map}
use Rattle.std.specs.Map.{keys_of}
use Rattle.std.specs.declared.cmp.Ordering.{Ordering}
use Rattle.maps.specs.Maps.{IsMap, IsSet, has_key, has_member, value_at}
use Rattle.maps.specs.Words.{some_and}
use Rattle.gov_ids.specs.declared.Credential.{Credential}
use Rattle.gov_ids.specs.declared.Voter.{Voter}
use Rattle.gov_ids.specs.Orders.{credential_cmp, pool_cmp, voter_cmp}
use Rattle.gov_actions.specs.declared.action.Proposal.{Proposal}
use Rattle.ledger_books.specs.of_ledger_model.Ledger.{Ledger}
use Rattle.ledger_books.specs.of_proposal_store.Leaving.{is_drep_among, without_votes_of}
use Rattle.stake_book.specs.Stakes.{delegates_to_dreps}
use Rattle.draft_changes.specs.declared.changed_names.ChangedNames.{ChangedNames}
use Rattle.draft_changes.specs.Changed.{Changed, laid_over}

-- the names of these changes
abbrev pub names_of : Changed → ChangedNames
names_of changes = record {
  accounts = keys_of changes.accounts;
  left = changes.left;
  pools = keys_of changes.pools;
  dreps = keys_of changes.dreps;
  refreshed = changes.refreshed;
  hot = keys_of changes.hot;
}

-- each list of names is in order and has each name once
pub record AreInOrder (names : ChangedNames) : Type 0 where
  pub accounts : IsSet credential_cmp names.accounts
  pub left : IsSet credential_cmp names.left
  pub pools : IsSet pool_cmp names.pools
  pub dreps : IsSet credential_cmp names.dreps
  pub hot : IsSet credential_cmp names.hot

-- a map has the same as before at each key except these
abbrev pub AgreesBut : {K X : Type 0} → (K → K → Ordering) → List K → List (K × X) → List (K × X) → Type 0
AgreesBut {K} cmp names before after = (k : K) → has_member cmp names k ≡ false → value_at cmp after k ≡ value_at cmp before k

-- a ledger is the one before, except at these names
pub record ChangesNamesOnly (names : ChangedNames) (before after : Ledger) : Type 0 where
  -- an account that is not named remains, unless it delegated to a DRep that left
  pub accounts : (c : Credential) → has_member credential_cmp names.accounts c ≡ false
      → some_and (delegates_to_dreps names.left) (value_at credential_cmp before.accounts c) ≡ false
      → value_at credential_cmp after.accounts c ≡ value_at credential_cmp before.accounts c
  pub pools : AgreesBut pool_cmp names.pools before.pools after.pools
  -- a DRep that is not named remains, unless it was registered and the dormant epochs are added
  pub dreps : (c : Credential) → has_member credential_cmp names.dreps c ≡ false
      → (names.refreshed && has_key credential_cmp before.dreps c) ≡ false
      → value_at credential_cmp after.dreps c ≡ value_at credential_cmp before.dreps c
  pub dormant : names.refreshed ≡ false → after.dormant ≡ before.dormant
  pub hot : AgreesBut credential_cmp names.hot before.hot after.hot
  -- the proposals remain, except for the votes of the DReps that left
  pub proposals : after.proposals ≡ map (without_votes_of names.left) before.proposals
  -- all else remains
  pub others : after ≡ record before {
    dormant = after.dormant;
    accounts = after.accounts;
    pools = after.pools;
    dreps = after.dreps;
    hot = after.hot;
    proposals = after.proposals;
  }

-- laid over a ledger with accounts and DReps in order, changes touch their names only
abbrev pub LaidOverChangesNames : Type 0
LaidOverChangesNames =
    (changes : Changed) → (l : Ledger) → IsMap credential_cmp l.accounts → IsMap credential_cmp l.dreps → ChangesNamesOnly (names_of changes) l (laid_over changes l)

-- the votes of all others than the DReps that left remain
abbrev pub LeavingKeepsOtherVotes : Type 0
LeavingKeepsOtherVotes =
    (left : List Credential) → (p : Proposal) → IsMap voter_cmp p.votes → (v : Voter) → is_drep_among left v ≡ false
    → value_at voter_cmp (without_votes_of left p).votes v ≡ value_at voter_cmp p.votes v
