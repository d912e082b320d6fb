-- The stakes that are reported, one DRep after another.
use Rattle.std.proofs.Common.{◌≡◌, ℕ, ◌+◌, ◌<◌, List, [], ◌∷◌, ◌++◌, Bool, map, filter, drop, get_or, length, nat_lt, ap, sym, ◌∙◌, append_assoc}
use Rattle.std.proofs.lemmas.List.{at_drop_more, map-append}
use Rattle.std.proofs.lemmas.List.Elements.{filter-append}
use Rattle.tally.specs.of_drep_pulser.Count.{Ended, sum_for}
use Rattle.gov_ids.specs.declared.Credential.{Credential}
use Rattle.gov_ids.specs.declared.Drep.{Drep}
use Rattle.gov_ids.specs.declared.Drep.TheVariants as drep
use Rattle.gov_model.specs.Snapshot.{Snapshot}
use Rattle.run_model.specs.Report.{stakes_of}
use Rattle.snapshots.specs.declared.frozen.Frozen.{Frozen}
use Rattle.tally.specs.Counted.{AreOf}
use Rattle.frozen_reads.specs.Stakes.{registered, stakes_by}

-- those of two lists of DReps, one after the other
pub stakes_by-append : (sums : List (Drep × ℕ)) (xs ys : List Drep) → stakes_by sums (xs ++ ys) ≡ stakes_by sums xs ++ stakes_by sums ys
stakes_by-append sums xs ys =
    let with_sum : Drep → Drep × ℕ = λ d. (d, sum_for sums d) in
    let has_stake : Drep × ℕ → Bool = λ s. nat_lt 0 s.1 in
    ap (λ (l : List (Drep × ℕ)). filter has_stake l) (map-append with_sum xs ys) ∙ filter-append has_stake (map with_sum xs) (map with_sum ys)

-- with the stake of the next registered DRep, those so far and those of the rest are the same
pub next_noted : (sums stakes : List (Drep × ℕ)) (dreps : List (Credential × ℕ)) (i : ℕ) (d : Credential × ℕ) → i < length dreps
    → (stakes ++ stakes_by sums (drep.Registered (get_or dreps i d).0 ∷ [])) ++ stakes_by sums (registered (drop (i + 1) dreps)) ≡ stakes ++ stakes_by sums (registered (drop i dreps))
next_noted sums stakes dreps i d h =
    let rest : List (Credential × ℕ) = drop (i + 1) dreps in
    let first : List Drep = drep.Registered (get_or dreps i d).0 ∷ [] in
    append_assoc stakes (stakes_by sums first) (stakes_by sums (registered rest))
    ∙ ap (λ (l : List (Drep × ℕ)). stakes ++ l) (sym (stakes_by-append sums first (registered rest)))
    ∙ sym (at_drop_more (λ (l : List (Credential × ℕ)). stakes ++ stakes_by sums (registered l)) dreps i d h)

-- those by the sums of a count are those of the snapshot that it is of
pub stakes_are : (s : Snapshot) (f : Frozen) (c : Ended) → AreOf s f c → stakes_by c.sums (registered f.dreps ++ drep.Abstain ∷ drep.NoConfidence ∷ []) ≡ stakes_of s
stakes_are s f c are =
    λ i. filter (λ (x : Drep × ℕ). nat_lt 0 x.1) (map (λ (d : Drep). (d, are.counted.sums d i)) (registered (are.frozen i).dreps ++ drep.Abstain ∷ drep.NoConfidence ∷ []))

-- the predefined ones come last
pub predefined_last : (sums : List (Drep × ℕ)) (ds : List Drep)
    → (stakes_by sums ds ++ stakes_by sums (drep.Abstain ∷ [])) ++ stakes_by sums (drep.NoConfidence ∷ []) ≡ stakes_by sums (ds ++ drep.Abstain ∷ drep.NoConfidence ∷ [])
predefined_last sums ds =
    append_assoc (stakes_by sums ds) (stakes_by sums (drep.Abstain ∷ [])) (stakes_by sums (drep.NoConfidence ∷ []))
    ∙ ap (λ (l : List (Drep × ℕ)). stakes_by sums ds ++ l) (sym (stakes_by-append sums (drep.Abstain ∷ []) (drep.NoConfidence ∷ [])))
    ∙ sym (stakes_by-append sums ds (drep.Abstain ∷ drep.NoConfidence ∷ []))
