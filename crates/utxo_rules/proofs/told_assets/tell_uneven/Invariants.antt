use Rattle.std.proofs.Common.{◌≡◌, ℕ, ◌+◌, ◌-◌, ◌^◌, length, map, min}
use Rattle.std.specs.List.{enumerate_from}
use Rattle.gov_ids.specs.declared.assets.AssetId.{AssetId}
use Rattle.ledger_model.specs.Broken.{asset_check}
use Rattle.ledger_model.specs.Checks.{at_place}
use Rattle.maps.specs.Words.{with_places}
use Rattle.rule_checks.specs.Told.{told_with}
use Rattle.utxo_rules.proofs.told_assets.tell_uneven.Given as goal

-- what is told so far, and the rules on the assets that are left, are those on all
abbrev pub invariant-loop-taken : goal.invariant-loop-taken
invariant-loop-taken l =
    (goal.iterator-loop-taken).can_next l.taken-iterator ×
    (goal.iterator-loop-taken).is_finite l.taken-iterator ×
    (l.place + length l.taken-iterator ≡ length l.sums.entries) ×
    (told_with (map (λ (p : ℕ × (AssetId × (ℕ × ℕ))). at_place (min p.0 (2 ^ 32 - 1)) (asset_check p.1)) (enumerate_from l.place l.taken-iterator)) l.told
    ≡ told_with (map (λ (p : ℕ × (AssetId × (ℕ × ℕ))). at_place (min p.0 (2 ^ 32 - 1)) (asset_check p.1)) (with_places l.sums.entries)) l.fn.told)
