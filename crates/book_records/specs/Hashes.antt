-- Whether two hashes are the same, as a test.
use Rattle.std.specs.Prelude.{ℕ, Bool, List}
use Rattle.std.specs.Ordering.{eq_by_cmp, nat_cmp}
use Rattle.std.specs.Cmp.Lexicographic.{slice_cmp}

-- two hashes are the same
abbrev pub same_hash : List ℕ → List ℕ → Bool
same_hash = eq_by_cmp (slice_cmp nat_cmp)
