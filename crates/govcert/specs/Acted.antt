-- DReps that act by voting.
use Rattle.std.specs.Prelude.{List}
use Rattle.std.specs.List.{list_any}
use Rattle.maps.specs.Maps.{changed_where}
use Rattle.gov_ids.specs.declared.Voter.{Voter}
use Rattle.gov_ids.specs.declared.Voter.TheVariants as voter
use Rattle.gov_ids.specs.Same.{same_voter}
use Rattle.tx_records.specs.declared.tx.VoteRecord.{VoteRecord}
use Rattle.ledger_model.specs.Changes.{having_acted}
use Rattle.ledger_model.specs.Ledger.{Ledger}

-- the registered DRep that is this voter
abbrev pub acted_as : Voter → Ledger → Ledger
acted_as by l = record l { dreps = changed_where (λ c d. same_voter by (voter.Drep c)) (having_acted l) l.dreps }

-- those of these votes
abbrev pub acted_all : List VoteRecord → Ledger → Ledger
acted_all votes l = record l {
  dreps = changed_where (λ c d. list_any (λ (v : VoteRecord). same_voter v.voter (voter.Drep c)) votes) (having_acted l) l.dreps;
}
