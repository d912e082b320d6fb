use Rattle.std.proofs.Common.{◌≡◌, ℕ, ◌+◌, find, length, not}
use Rattle.std.specs.List.{enumerate_from}
use Rattle.gov_ids.specs.declared.assets.AssetId.{AssetId}
use Rattle.assets.specs.Balances.{first_uneven, is_even}
use Rattle.assets.proofs.balance.AssetBalance.first_uneven.Given as goal

-- none is uneven so far
abbrev pub invariant-loop-taken : goal.invariant-loop-taken
invariant-loop-taken l =
    (goal.iterator-loop-taken).can_next l.taken-iterator ×
    (goal.iterator-loop-taken).is_finite l.taken-iterator ×
    (l.place + length l.taken-iterator ≡ length l.self) ×
    (find (λ (p : ℕ × (AssetId × (ℕ × ℕ))). not (is_even p.1)) (enumerate_from l.place l.taken-iterator) ≡ first_uneven l.self)
