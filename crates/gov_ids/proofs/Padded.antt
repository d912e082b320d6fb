-- Bytes that are written over zeros are the padded name.
use Rattle.std.proofs.Common.{◌≡◌, ℕ, ◌≤◌, List, ◌++◌, length, take, drop, sym, ap, ◌∙◌}
use Rattle.std.specs.Prelude.{replicate}
use Rattle.std.proofs.Math.Seq.{take-append_seam}
use Rattle.std.proofs.lemmas.List.{drop-replicate}
use Rattle.gov_ids.specs.AssetNames.{padded}

pub over_zeros : (written bytes : List ℕ) → written ≡ bytes → length bytes ≤ 32
    → (length (take (length bytes) (written ++ drop (length bytes) (replicate 32 0))) ≡ length bytes)
    × (length bytes ≤ 32)
    × (written ++ drop (length bytes) (replicate 32 0) ≡ padded (take (length bytes) (written ++ drop (length bytes) (replicate 32 0))))
over_zeros written bytes same few =
    let zeros : List ℕ = drop (length bytes) (replicate 32 0) in
    let front : take (length bytes) (written ++ zeros) ≡ bytes =
    ap (λ (xs : List ℕ). take (length bytes) (xs ++ zeros)) same ∙ take-append_seam bytes zeros in
    let whole : written ++ zeros ≡ padded bytes =
    ap (λ (xs : List ℕ). xs ++ zeros) same ∙ ap (λ (zs : List ℕ). bytes ++ zs) (drop-replicate (length bytes) 32 0) in
    (ap (λ (xs : List ℕ). length xs) front, few, whole ∙ ap padded (sym front))
