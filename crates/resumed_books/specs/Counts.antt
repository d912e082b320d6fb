-- The snapshot that a count made of lists is of. (the DRep pulser of cardano-ledger)
use Rattle.std.specs.Prelude.{◌≡◌, ℕ, List}
use Rattle.book_records.specs.declared.Entry.{Entry}
use Rattle.gov_actions.specs.declared.action.Proposal.{Proposal}
use Rattle.gov_ids.specs.declared.Credential.{Credential}
use Rattle.gov_model.specs.Snapshot.{Snapshot}

-- the snapshot has these entries, DReps and proposals
pub record HasLists (f : Snapshot) (es : List (Credential × Entry)) (ds : List (Credential × ℕ)) (ps : List Proposal) : Type 0 where
  pub entries : f.entries ≡ es
  pub dreps : f.dreps ≡ ds
  pub proposals : f.proposals ≡ ps
