-- The lines of the parts of a proposal are those of the snapshot's parts.
use Rattle.std.proofs.Common.{◌≡◌, ℕ, List, [], ◌∷◌, ◌++◌, true, false, codes, cond, Option, Some, None, filter, filter_map, flat_map, map, nat_le, nat_lt, option_map, option_to_list, unwrap_or, refl, ap, sym, ◌∙◌}
use Rattle.std.specs.List.{cons_option}
use Rattle.std.proofs.lemmas.List.{map-append}
use Rattle.std.proofs.lemmas.List.Elements.{filter-append}
use Rattle.certificate_model.specs.Parts.{Part, committee_parts, drep_part, drep_parts, member_part, part_words, parts_of, pool_part, pool_parts, weighty}
use Rattle.claims.specs.Lines.{drep_lines, lines_of_part, member_lines, part_lines, pool_lines, predefined_lines}
use Rattle.claims.proofs.Weights.{part_first}
use Rattle.drep_pulser.specs.Count.{Ended}
use Rattle.drep_pulser.specs.Facts.{IsCountedOf}
use Rattle.gov_actions.specs.declared.action.Proposal.{Proposal}
use Rattle.gov_actions.specs.declared.action.Vote.{Vote}
use Rattle.gov_actions.specs.declared.action.Vote.TheVariants.{No, Abstain}
use Rattle.gov_ids.specs.declared.Credential.{Credential}
use Rattle.gov_ids.specs.declared.Drep.{Drep}
use Rattle.gov_ids.specs.declared.Drep.TheVariants as drep
use Rattle.gov_ids.specs.declared.PoolId.{PoolId}
use Rattle.gov_ids.specs.declared.Voter.TheVariants as voter
use Rattle.gov_ids.specs.Spelling.{drep_text}
use Rattle.gov_model.specs.Sides.{hot_key_of, members_of, no_confidence_side, vote_of}
use Rattle.gov_model.specs.Snapshot.{Snapshot}
use Rattle.gov_model.specs.Stake.{drep_stake}
use Rattle.snapshots.specs.declared.frozen.Frozen.{Frozen}
use Rattle.snapshots.specs.Frozen.{frozen_copy_of, frozen_pool}
use Rattle.text_model.specs.Words.{Text}

-- ---- all of a role

module _ (a : Proposal) where
  abbrev lines_in : List Part → List (List Text)
  lines_in ps = map (part_words a) (weighty ps)

  lines_both : (xs ys : List Part) → lines_in xs ++ lines_in ys ≡ lines_in (xs ++ ys)
  lines_both xs ys =
      sym (ap (map (part_words a)) (filter-append (λ (p : Part). nat_lt 0 p.weight) xs ys) ∙ map-append (part_words a) (weighty xs) (weighty ys))

  -- the members
  members_are : (s : Snapshot) (ms : List (Credential × ℕ))
      → flat_map (member_lines (frozen_copy_of s) a) ms
      ≡ lines_in (filter_map (λ m. option_map (member_part a m.0) (hot_key_of s m.0)) (filter (λ m. nat_le s.epoch m.1) ms))
  members_are s [] = refl
  members_are s (m ∷ ms) =
      let part : Credential × ℕ → Option Part = λ m. option_map (member_part a m.0) (hot_key_of s m.0) in
      let rest : List (Credential × ℕ) = filter (λ m. nat_le s.epoch m.1) ms in
      ap (λ (l : List (List Text)). member_lines (frozen_copy_of s) a m ++ l) (members_are s ms)
      ∙ elim (nat_le s.epoch m.1) as (λ b. flat_map (λ key. lines_of_part a (member_part a m.0 key)) (option_to_list (cond b (hot_key_of s m.0) None)) ++ lines_in (filter_map part rest) ≡ lines_in (filter_map part (cond b (m ∷ rest) rest))) [
        | true ↦ elim (hot_key_of s m.0) as (λ o. flat_map (λ key. lines_of_part a (member_part a m.0 key)) (option_to_list o) ++ lines_in (filter_map part rest) ≡ lines_in (cons_option (option_map (member_part a m.0) o) (filter_map part rest))) [
          | None ↦ refl
          | Some key ↦ refl
        ]
        | false ↦ refl
      ]

  -- the parts of DReps by any stakes
  abbrev part_by : (Drep → ℕ) → Drep → Vote → Part
  part_by stake d side = record { role = codes "drep"; name = drep_text d; weight = stake d; side = side }

  abbrev side_of : Credential → Vote
  side_of k = unwrap_or (vote_of a (voter.Drep k)) No

  registered_are : (epoch : ℕ) (stake : Drep → ℕ) (ds : List (Credential × ℕ))
      → flat_map (λ (d : Credential × ℕ). cond (nat_le epoch d.1) (lines_of_part a (part_by stake (drep.Registered d.0) (side_of d.0))) []) ds
      ≡ lines_in (map (λ k. part_by stake (drep.Registered k) (side_of k)) (map (λ d. d.0) (filter (λ d. nat_le epoch d.1) ds)))
  registered_are epoch stake [] = refl
  registered_are epoch stake (d ∷ ds) =
      let part : Credential → Part = λ k. part_by stake (drep.Registered k) (side_of k) in
      let rest : List (Credential × ℕ) = filter (λ d. nat_le epoch d.1) ds in
      ap (λ (l : List (List Text)). cond (nat_le epoch d.1) (lines_of_part a (part d.0)) [] ++ l) (registered_are epoch stake ds)
      ∙ elim (nat_le epoch d.1) as (λ b. cond b (lines_of_part a (part d.0)) [] ++ lines_in (map part (map (λ d. d.0) rest)) ≡ lines_in (map part (map (λ d. d.0) (cond b (d ∷ rest) rest)))) [
        | true ↦ part_first a (part d.0) (map part (map (λ (d : Credential × ℕ). d.0) rest))
        | false ↦ refl
      ]

  two_are : (p q : Part) → lines_of_part a p ++ lines_of_part a q ≡ lines_in (p ∷ q ∷ [])
  two_are p q = part_first a p (q ∷ [])

  -- the DReps
  dreps_are : (s : Snapshot) (c : Ended) → IsCountedOf s c
      → flat_map (drep_lines s.epoch c a) s.dreps ++ predefined_lines c a ≡ lines_in (drep_parts s a)
  dreps_are s c is =
      (λ i. let stake : Drep → ℕ = λ d. is.sums d i in
      flat_map (λ (d : Credential × ℕ). cond (nat_le s.epoch d.1) (lines_of_part a (part_by stake (drep.Registered d.0) (side_of d.0))) []) s.dreps
      ++ (lines_of_part a (part_by stake drep.Abstain Abstain) ++ lines_of_part a (part_by stake drep.NoConfidence (no_confidence_side a.action))))
      ∙ ap (λ (l : List (List Text)). l ++ (lines_of_part a (drep_part s drep.Abstain Abstain) ++ lines_of_part a (drep_part s drep.NoConfidence (no_confidence_side a.action)))) (registered_are s.epoch (drep_stake s) s.dreps)
      ∙ ap (λ (l : List (List Text)). lines_in (map (λ k. drep_part s (drep.Registered k) (side_of k)) (map (λ d. d.0) (filter (λ d. nat_le s.epoch d.1) s.dreps))) ++ l)
      (two_are (drep_part s drep.Abstain Abstain) (drep_part s drep.NoConfidence (no_confidence_side a.action)))
      ∙ lines_both (map (λ k. drep_part s (drep.Registered k) (side_of k)) (map (λ d. d.0) (filter (λ d. nat_le s.epoch d.1) s.dreps)))
      (drep_part s drep.Abstain Abstain ∷ drep_part s drep.NoConfidence (no_confidence_side a.action) ∷ [])

  -- the pools
  pools_are : (s : Snapshot) (mark : List (PoolId × ℕ)) → flat_map (pool_lines a) (map (λ m. frozen_pool s m.0) mark) ≡ lines_in (map (λ m. pool_part s a m.0) mark)
  pools_are s [] = refl
  pools_are s (m ∷ mark) =
      ap (λ (l : List (List Text)). lines_of_part a (pool_part s a m.0) ++ l) (pools_are s mark)
      ∙ part_first a (pool_part s a m.0) (map (λ m. pool_part s a m.0) mark)

-- ---- all

pub parts_are : (s : Snapshot) (f : Frozen) (c : Ended) (a : Proposal) → f ≡ frozen_copy_of s → IsCountedOf s c → part_lines f c a ≡ map (part_words a) (parts_of s a)
parts_are s f c a of is =
    ap (λ (g : Frozen). part_lines g c a) of
    ∙ (λ i. members_are a s (members_of s.start.committee) i ++ dreps_are a s c is i ++ pools_are a s s.mark i)
    ∙ sym (
    map-append (part_words a) (weighty (committee_parts s a) ++ weighty (drep_parts s a)) (weighty (pool_parts s a))
    ∙ ap (λ (l : List (List Text)). l ++ map (part_words a) (weighty (pool_parts s a))) (map-append (part_words a) (weighty (committee_parts s a)) (weighty (drep_parts s a))))
