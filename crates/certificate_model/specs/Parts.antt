-- What each voter adds to the count of a proposal: its weight and its side.
-- (Own; weights and sides are those of the count)
use Rattle.std.specs.Prelude.{ℕ, List, [], ◌∷◌, ◌++◌, codes, decimal, filter, filter_map, map, nat_le, nat_lt, option_map, unwrap_or}
use Rattle.gov_ids.specs.declared.Credential.{Credential}
use Rattle.gov_ids.specs.declared.Drep.{Drep}
use Rattle.gov_ids.specs.declared.Drep.TheVariants as drep
use Rattle.gov_ids.specs.declared.PoolId.{PoolId}
use Rattle.gov_ids.specs.declared.Voter.TheVariants as voter
use Rattle.gov_ids.specs.Spelling.{action_id_text, credential_text, drep_text, pool_text}
use Rattle.gov_actions.specs.declared.action.Proposal.{Proposal}
use Rattle.gov_actions.specs.declared.action.Vote.{Vote}
use Rattle.gov_actions.specs.declared.action.Vote.TheVariants.{No, Abstain}
use Rattle.gov_model.specs.Sides.{active_dreps, hot_key_of, members_of, no_confidence_side, pool_side, vote_of}
use Rattle.gov_model.specs.Snapshot.{Snapshot}
use Rattle.gov_model.specs.Stake.{drep_stake, pool_stake}
use Rattle.text_model.specs.ActionWords.{vote_text}
use Rattle.text_model.specs.Words.{Text}

-- a voter's part: the role and the name as printed, the weight, and the side
pub record Part : Type 0 where
  pub role : Text
  pub name : Text
  pub weight : ℕ
  pub side : Vote

-- the side of a member by its hot key, no vote as No
abbrev pub side_of_key : Proposal → Credential → Vote
side_of_key a key = unwrap_or (vote_of a (voter.Committee key)) No

-- a member with a hot key
abbrev pub member_part : Proposal → Credential → Credential → Part
member_part a cold key = record { role = codes "committee"; name = credential_text cold; weight = 1; side = side_of_key a key }

-- each member with a hot key and a term that is not over
abbrev pub committee_parts : Snapshot → Proposal → List Part
committee_parts f a =
    filter_map (λ m. option_map (member_part a m.0) (hot_key_of f m.0)) (filter (λ m. nat_le f.epoch m.1) (members_of f.start.committee))

-- a DRep with its stake
abbrev pub drep_part : Snapshot → Drep → Vote → Part
drep_part f d side = record { role = codes "drep"; name = drep_text d; weight = drep_stake f d; side = side }

-- each active DRep, no vote as No, and the two predefined ones
abbrev pub drep_parts : Snapshot → Proposal → List Part
drep_parts f a =
    map (λ c. drep_part f (drep.Registered c) (unwrap_or (vote_of a (voter.Drep c)) No)) (active_dreps f)
    ++ drep_part f drep.Abstain Abstain ∷
    drep_part f drep.NoConfidence (no_confidence_side a.action) ∷
    []

-- a pool with its stake
abbrev pub pool_part : Snapshot → Proposal → PoolId → Part
pool_part f a p = record { role = codes "pool"; name = pool_text p; weight = pool_stake f p; side = pool_side f a p }

-- each pool of mark
abbrev pub pool_parts : Snapshot → Proposal → List Part
pool_parts f a = map (λ m. pool_part f a m.0) f.mark

-- the parts with a weight above 0
abbrev pub weighty : List Part → List Part
weighty ps = filter (λ (p : Part). nat_lt 0 p.weight) ps

-- all parts with a weight above 0, role after role
abbrev pub parts_of : Snapshot → Proposal → List Part
parts_of f a = weighty (committee_parts f a) ++ weighty (drep_parts f a) ++ weighty (pool_parts f a)

-- the words of a part
abbrev pub part_words : Proposal → Part → List Text
part_words a p = codes "part" ∷ action_id_text a.id ∷ p.role ∷ p.name ∷ decimal p.weight ∷ vote_text p.side ∷ []
