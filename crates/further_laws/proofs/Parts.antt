-- The parts of a certificate add up to the counts, and its verdicts are those of the one list that is ratified.
use Rattle.std.proofs.Common.{◌≡◌, ℕ, List, [], ◌∷◌, ◌++◌, Bool, true, false, not, cond, Option, Some, None, filter, filter_map, map, nat_le, nat_lt, option_map, sum_by, refl, ap, ◌∙◌, arith}
use Rattle.std.specs.List.{cons_option}
use Rattle.std.specs.Option.{unwrap_or}
use Rattle.std.proofs.lemmas.Bool.{ltb-false}
use Rattle.std.proofs.lemmas.List.Sums.{sum_by-cons}
use Rattle.gov_ids.specs.declared.Credential.{Credential}
use Rattle.gov_ids.specs.declared.Drep.TheVariants as drep
use Rattle.gov_ids.specs.declared.PoolId.{PoolId}
use Rattle.gov_ids.specs.declared.Voter.TheVariants as voter
use Rattle.gov_actions.specs.declared.action.Proposal.{Proposal}
use Rattle.gov_actions.specs.declared.action.Vote.{Vote}
use Rattle.gov_actions.specs.declared.action.Vote.TheVariants.{No, Abstain}
use Rattle.gov_actions.specs.Voting.{is_abstain, is_yes}
use Rattle.gov_model.specs.Sides.{active_dreps, committee_sides, count_of, drep_sides, hot_key_of, members_of, no_confidence_side, pool_side, pool_sides, vote_of}
use Rattle.gov_model.specs.Snapshot.{Snapshot}
use Rattle.gov_model.specs.Stake.{drep_stake, pool_stake}
use Rattle.certificate_model.specs.Laws.{PartsAreTheCounts, total_of, yes_of}
use Rattle.certificate_model.specs.Parts.{Part, committee_parts, drep_part, drep_parts, member_part, pool_part, pool_parts, weighty}

-- a part as a side of a count
abbrev side_of : Part → ℕ × Vote
side_of p = (p.weight, p.side)

-- what passes a test of its side, measured
abbrev weighed : (Vote → Bool) → List Part → ℕ
weighed t ps = sum_by (λ (p : Part). p.weight) (filter (λ (p : Part). t p.side) ps)

abbrev counted : (Vote → Bool) → List (ℕ × Vote) → ℕ
counted t sides = sum_by (λ (s : ℕ × Vote). s.0) (filter (λ (s : ℕ × Vote). t s.1) sides)

heavy : (c : Bool) (p : Part) (ps : List Part) (sides : List (ℕ × Vote)) → sum_by (λ (q : Part). q.weight) ps ≡ sum_by (λ (s : ℕ × Vote). s.0) sides
    → sum_by (λ (q : Part). q.weight) (cond c (p ∷ ps) ps) ≡ sum_by (λ (s : ℕ × Vote). s.0) (cond c (side_of p ∷ sides) sides)
heavy true p ps sides e = omega (arith, e, sum_by-cons (λ (q : Part). q.weight) p ps, sum_by-cons (λ (s : ℕ × Vote). s.0) (side_of p) sides)
heavy false p ps sides e = e

light : (c : Bool) (p : Part) (n : ℕ) (sides : List (ℕ × Vote)) → p.weight ≡ 0 → n ≡ sum_by (λ (s : ℕ × Vote). s.0) sides
    → n ≡ sum_by (λ (s : ℕ × Vote). s.0) (cond c (side_of p ∷ sides) sides)
light true p n sides none e = omega (arith, none, e, sum_by-cons (λ (s : ℕ × Vote). s.0) (side_of p) sides)
light false p n sides none e = e

by_weight : (b : Bool) (t : Vote → Bool) (p : Part) (ps : List Part) → nat_lt 0 p.weight ≡ b → weighed t (weighty ps) ≡ counted t (map side_of ps)
    → weighed t (cond b (p ∷ weighty ps) (weighty ps)) ≡ counted t (side_of p ∷ map side_of ps)
by_weight true t p ps w e = heavy (t p.side) p (filter (λ (q : Part). t q.side) (weighty ps)) (filter (λ (s : ℕ × Vote). t s.1) (map side_of ps)) e
by_weight false t p ps w e =
    let none : p.weight ≡ 0 = omega (arith, ltb-false 0 p.weight w) in
    light (t p.side) p (weighed t (weighty ps)) (filter (λ (s : ℕ × Vote). t s.1) (map side_of ps)) none e

all_weighed : (t : Vote → Bool) (ps : List Part) → weighed t (weighty ps) ≡ counted t (map side_of ps)
all_weighed t [] = refl
all_weighed t (p ∷ ps) = by_weight (nat_lt 0 p.weight) t p ps refl (all_weighed t ps)

-- what is counted of the parts is what is counted of their sides
counts_are : (ps : List Part) (sides : List (ℕ × Vote)) → map side_of ps ≡ sides → (yes_of (weighty ps), total_of (weighty ps)) ≡ count_of sides
counts_are ps sides e =
    ap (λ (n : ℕ). (n, total_of (weighty ps))) (all_weighed is_yes ps)
    ∙ ap (λ (n : ℕ). (counted is_yes (map side_of ps), n)) (all_weighed (λ v. not (is_abstain v)) ps)
    ∙ ap (λ (xs : List (ℕ × Vote)). count_of xs) e

-- ---- the sides of each role

member_by : (o : Option Credential) (a : Proposal) (cold : Credential) (ps : List Part) (keys : List Credential)
    → map side_of ps ≡ map (λ key. (1, unwrap_or (vote_of a (voter.Committee key)) No)) keys
    → map side_of (cons_option (option_map (member_part a cold) o) ps) ≡ map (λ key. (1, unwrap_or (vote_of a (voter.Committee key)) No)) (cons_option o keys)
member_by None a cold ps keys e = e
member_by (Some key) a cold ps keys e = ap (λ (xs : List (ℕ × Vote)). (1, unwrap_or (vote_of a (voter.Committee key)) No) ∷ xs) e

members_are : (f : Snapshot) (a : Proposal) (ms : List (Credential × ℕ))
    → map side_of (filter_map (λ m. option_map (member_part a m.0) (hot_key_of f m.0)) ms)
    ≡ map (λ key. (1, unwrap_or (vote_of a (voter.Committee key)) No)) (filter_map (λ m. hot_key_of f m.0) ms)
members_are f a [] = refl
members_are f a (m ∷ ms) =
    member_by (hot_key_of f m.0) a m.0 (filter_map (λ (x : Credential × ℕ). option_map (member_part a x.0) (hot_key_of f x.0)) ms) (filter_map (λ (x : Credential × ℕ). hot_key_of f x.0) ms) (members_are f a ms)

committee_are : (f : Snapshot) (a : Proposal) → map side_of (committee_parts f a) ≡ committee_sides f a
committee_are f a = members_are f a (filter (λ m. nat_le f.epoch m.1) (members_of f.start.committee))

dreps_are : (f : Snapshot) (a : Proposal) (cs : List Credential) (ps : List Part)
    → map side_of (map (λ c. drep_part f (drep.Registered c) (unwrap_or (vote_of a (voter.Drep c)) No)) cs ++ ps)
    ≡ map (λ c. (drep_stake f (drep.Registered c), unwrap_or (vote_of a (voter.Drep c)) No)) cs ++ map side_of ps
dreps_are f a [] ps = refl
dreps_are f a (c ∷ cs) ps = ap (λ (xs : List (ℕ × Vote)). (drep_stake f (drep.Registered c), unwrap_or (vote_of a (voter.Drep c)) No) ∷ xs) (dreps_are f a cs ps)

drep_are : (f : Snapshot) (a : Proposal) → map side_of (drep_parts f a) ≡ drep_sides f a
drep_are f a = dreps_are f a (active_dreps f) (drep_part f drep.Abstain Abstain ∷ drep_part f drep.NoConfidence (no_confidence_side a.action) ∷ [])

pools_are : (f : Snapshot) (a : Proposal) (ms : List (PoolId × ℕ))
    → map side_of (map (λ m. pool_part f a m.0) ms) ≡ map (λ m. (pool_stake f m.0, pool_side f a m.0)) ms
pools_are f a [] = refl
pools_are f a (m ∷ ms) = ap (λ (xs : List (ℕ × Vote)). (pool_stake f m.0, pool_side f a m.0) ∷ xs) (pools_are f a ms)

pub parts_are_the_counts : PartsAreTheCounts
parts_are_the_counts f a = (
  counts_are (committee_parts f a) (committee_sides f a) (committee_are f a),
  counts_are (drep_parts f a) (drep_sides f a) (drep_are f a),
  counts_are (pool_parts f a) (pool_sides f a) (pools_are f a f.mark),
)
