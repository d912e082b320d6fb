-- Bytes as numbers, the greatest byte first. (Own)
use Rattle.std.specs.Prelude.{ℕ, ◌+◌, ◌*◌, List, [], ◌∷◌, take, drop}

-- the number with the digits of n and then the bytes, in base 256
abbrev pub spelled_after : ℕ → List ℕ → ℕ
spelled_after n [] = n
spelled_after n (b ∷ bs) = spelled_after (n * 256 + b) bs

-- the number of the k bytes from index i on
abbrev pub number_at : ℕ → ℕ → List ℕ → ℕ
number_at k i bytes = spelled_after 0 (take k (drop i bytes))
