-- The lines of stakes and parts, by a frozen epoch and an ended count. (Own)
use Rattle.std.specs.Prelude.{ℕ, List, [], ◌∷◌, ◌++◌, codes, decimal, filter, flat_map, map, nat_le, nat_lt, option_to_list, unwrap_or, if◌then◌else◌}
use Rattle.certificate_model.specs.Parts.{Part, member_part, part_words, weighty}
use Rattle.drep_pulser.specs.Count.{Ended, sum_for}
use Rattle.gov_actions.specs.declared.action.Proposal.{Proposal}
use Rattle.gov_actions.specs.declared.action.Vote.{Vote}
use Rattle.gov_actions.specs.declared.action.Vote.TheVariants.{No, Abstain}
use Rattle.gov_ids.specs.declared.ActionId.{ActionId}
use Rattle.gov_ids.specs.declared.Credential.{Credential}
use Rattle.gov_ids.specs.declared.Drep.{Drep}
use Rattle.gov_ids.specs.declared.Drep.TheVariants as drep
use Rattle.gov_ids.specs.declared.Voter.TheVariants as voter
use Rattle.gov_ids.specs.Spelling.{action_id_text, drep_text, pool_text}
use Rattle.gov_model.specs.Sides.{members_of, no_confidence_side, silent_pool_side, vote_of}
use Rattle.snapshots.specs.declared.frozen.Frozen.{Frozen}
use Rattle.snapshots.specs.declared.frozen.FrozenPool.{FrozenPool}
use Rattle.tally.specs.Active.{active_key}
use Rattle.text_model.specs.ActionWords.{vote_text}
use Rattle.text_model.specs.EpochLines.{stake_words}
use Rattle.text_model.specs.Words.{Text}

-- ---- stakes

-- the registered DReps of these credentials
abbrev pub registered : List (Credential × ℕ) → List Drep
registered dreps = map (λ e. drep.Registered e.0) dreps

-- the stakes above 0 of these DReps, by the sums of a count
abbrev pub stake_lines : List (Drep × ℕ) → List Drep → List (List Text)
stake_lines sums ds = map stake_words (filter (λ s. nat_lt 0 s.1) (map (λ d. (d, sum_for sums d)) ds))

-- ---- parts

-- the words of a part of the proposal of an id
abbrev pub words_of_part : ActionId → Part → List Text
words_of_part id p = codes "part" ∷ action_id_text id ∷ p.role ∷ p.name ∷ decimal p.weight ∷ vote_text p.side ∷ []

-- the line of a part; none if its weight is 0
abbrev pub lines_of_part : Proposal → Part → List (List Text)
lines_of_part a p = map (part_words a) (weighty (p ∷ []))

-- of a member, if it is active
abbrev pub member_lines : Frozen → Proposal → Credential × ℕ → List (List Text)
member_lines f a m = flat_map (λ key. lines_of_part a (member_part a m.0 key)) (option_to_list (active_key f.epoch f.hot m))

-- of a DRep on a side, by the count
abbrev pub drep_part_lines : Ended → Proposal → Drep → Vote → List (List Text)
drep_part_lines c a d side =
    lines_of_part a (record { role = codes "drep"; name = drep_text d; weight = sum_for c.sums d; side = side })

-- of a registered DRep, if its expiry has not passed
abbrev pub drep_lines : ℕ → Ended → Proposal → Credential × ℕ → List (List Text)
drep_lines epoch c a d =
    if nat_le epoch d.1 then drep_part_lines c a (drep.Registered d.0) (unwrap_or (vote_of a (voter.Drep d.0)) No) else []

-- of the predefined DReps
abbrev pub predefined_lines : Ended → Proposal → List (List Text)
predefined_lines c a =
    drep_part_lines c a drep.Abstain Abstain ++ drep_part_lines c a drep.NoConfidence (no_confidence_side a.action)

-- of a pool
abbrev pub pool_lines : Proposal → FrozenPool → List (List Text)
pool_lines a p = lines_of_part a (record {
  role = codes "pool";
  name = pool_text p.pool;
  weight = p.stake;
  side = unwrap_or (vote_of a (voter.Pool p.pool)) (silent_pool_side p.default_vote a.action);
})

-- of the members
abbrev pub member_part_lines : Frozen → Proposal → List (List Text)
member_part_lines f a = flat_map (member_lines f a) (members_of f.start.committee)

-- of the pools
abbrev pub pool_part_lines : Frozen → Proposal → List (List Text)
pool_part_lines f a = flat_map (pool_lines a) f.pools

-- of all, role after role
abbrev pub part_lines : Frozen → Ended → Proposal → List (List Text)
part_lines f c a =
    member_part_lines f a
    ++ (flat_map (drep_lines f.epoch c a) f.dreps ++ predefined_lines c a)
    ++ pool_part_lines f a
