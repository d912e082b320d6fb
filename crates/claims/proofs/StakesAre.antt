-- The lines of stakes, some after others.
use Rattle.std.proofs.Common.{◌≡◌, ℕ, List, [], ◌∷◌, ◌++◌, filter, flat_map, map, nat_lt, refl, ap, sym, ◌∙◌}
use Rattle.std.proofs.lemmas.List.{map-append}
use Rattle.std.proofs.lemmas.List.Elements.{filter-append}
use Rattle.claims.specs.Lines.{registered, stake_lines}
use Rattle.drep_pulser.specs.Count.{Ended, sum_for}
use Rattle.gov_ids.specs.declared.Credential.{Credential}
use Rattle.gov_ids.specs.declared.Drep.{Drep}
use Rattle.gov_ids.specs.declared.Drep.TheVariants as drep
use Rattle.run_model.specs.Report.{stakes_of}
use Rattle.tally.specs.Counted.{AreOf}
use Rattle.snapshots.specs.declared.frozen.Frozen.{Frozen}
use Rattle.gov_model.specs.Snapshot.{Snapshot}
use Rattle.text_model.specs.EpochLines.{stake_words}
use Rattle.text_model.specs.Words.{Text}

-- those of some DReps and then of others
pub stakes_both : (sums : List (Drep × ℕ)) (xs ys : List Drep) → stake_lines sums (xs ++ ys) ≡ stake_lines sums xs ++ stake_lines sums ys
stakes_both sums xs ys =
    ap (λ (l : List (Drep × ℕ)). map stake_words (filter (λ s. nat_lt 0 s.1) l)) (map-append (λ (d : Drep). (d, sum_for sums d)) xs ys)
    ∙ ap (map stake_words) (filter-append (λ (s : Drep × ℕ). nat_lt 0 s.1) (map (λ d. (d, sum_for sums d)) xs) (map (λ d. (d, sum_for sums d)) ys))
    ∙ map-append stake_words (filter (λ s. nat_lt 0 s.1) (map (λ d. (d, sum_for sums d)) xs)) (filter (λ s. nat_lt 0 s.1) (map (λ d. (d, sum_for sums d)) ys))

-- DRep after DRep
pub stakes_each : (sums : List (Drep × ℕ)) (ds : List (Credential × ℕ)) → flat_map (λ d. stake_lines sums (drep.Registered d.0 ∷ [])) ds ≡ stake_lines sums (registered ds)
stakes_each sums [] = refl
stakes_each sums (d ∷ ds) =
    ap (λ (l : List (List Text)). stake_lines sums (drep.Registered d.0 ∷ []) ++ l) (stakes_each sums ds)
    ∙ sym (stakes_both sums (drep.Registered d.0 ∷ []) (registered ds))

-- the stakes of a count are those of the snapshot
pub stakes_are : (s : Snapshot) (f : Frozen) (c : Ended) (dreps : List (Credential × ℕ)) → AreOf s f c → dreps ≡ f.dreps
    → stake_lines c.sums (registered dreps ++ drep.Abstain ∷ drep.NoConfidence ∷ []) ≡ map stake_words (stakes_of s)
stakes_are s f c dreps of same =
    ap (λ (ds : List (Credential × ℕ)). stake_lines c.sums (registered ds ++ drep.Abstain ∷ drep.NoConfidence ∷ [])) (same ∙ ap (λ (g : Frozen). g.dreps) of.frozen)
    ∙ (λ i. map stake_words (filter (λ s. nat_lt 0 s.1) (map (λ d. (d, of.counted.sums d i)) (registered s.dreps ++ drep.Abstain ∷ drep.NoConfidence ∷ []))))
