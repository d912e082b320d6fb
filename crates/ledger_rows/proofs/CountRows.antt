-- Worked rows of counts over a snapshot, and of the stake that some visits have added up.
use Rattle.std.specs.Prelude.{◌≡◌, [], ◌∷◌, Some, None, refl}
use Rattle.gov_ids.specs.declared.Drep.TheVariants as drep
use Rattle.gov_ids.specs.declared.Voter.TheVariants as voter
use Rattle.gov_actions.specs.declared.action.Action.TheVariants.{NoConfidence}
use Rattle.gov_actions.specs.declared.action.Proposal.{Proposal}
use Rattle.gov_actions.specs.declared.action.Vote.TheVariants as vote
use Rattle.gov_actions.specs.declared.tally.Role.TheVariants as role
use Rattle.gov_model.specs.Ratified.{ratified_of}
use Rattle.gov_model.specs.Sides.{vote_count}
use Rattle.gov_model.specs.Snapshot.{Snapshot}
use Rattle.gov_model.specs.Stake.{drep_stake_of_first}
use Rattle.run_model.specs.Genesis.{world_of_genesis}
use Rattle.ledger_rows.proofs.Base.{base, key, account_on, action}

-- a motion of no confidence to which one DRep said yes
abbrev motion : Proposal
motion = record {
  id = action 0x2 0;
  action = NoConfidence None;
  deposit = 10;
  account = account_on 1 (key 0x12);
  expires_after = 2;
  votes = (voter.Drep (key 0x30), vote.Yes) ∷ [];
}

abbrev frozen : Snapshot
frozen = record (world_of_genesis base).frozen { proposals = motion ∷ [] }

pub dreps : vote_count role.Drep frozen motion ≡ (67, 100)
dreps = refl

pub pools : vote_count role.Pool frozen motion ≡ (0, 0)
pools = refl

pub members : vote_count role.Committee frozen motion ≡ (0, 1)
members = refl

pub ratified : ratified_of frozen ≡ action 0x2 0 ∷ []
ratified = refl

abbrev one_short : Snapshot
one_short = record (world_of_genesis (record base {
  accounts = (key 0x10, 2, 66, None, Some (drep.Registered (key 0x30))) ∷ (key 0x11, 2, 34, None, Some (drep.Registered (key 0x31))) ∷ (key 0x12, 2, 0, None, None) ∷ [];
})).frozen { proposals = motion ∷ [] }

pub dreps_one_short : vote_count role.Drep one_short motion ≡ (66, 100)
dreps_one_short = refl

pub none_ratified : ratified_of one_short ≡ []
none_ratified = refl

-- a DRep whose expiry has passed does not count
abbrev expired : Snapshot
expired = record frozen { epoch = 4; dreps = (key 0x30, 3) ∷ (key 0x31, 20) ∷ [] }

pub dreps_expired : vote_count role.Drep expired motion ≡ (0, 33)
dreps_expired = refl

-- after one visit, and after all
pub after_one_visit : drep_stake_of_first 1 (world_of_genesis base).frozen (drep.Registered (key 0x30)) ≡ 67
after_one_visit = refl

pub not_visited : drep_stake_of_first 1 (world_of_genesis base).frozen (drep.Registered (key 0x31)) ≡ 0
not_visited = refl

pub after_all_visits : drep_stake_of_first 3 (world_of_genesis base).frozen (drep.Registered (key 0x31)) ≡ 33
after_all_visits = refl
