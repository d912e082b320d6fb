-- The stored bytes of a name: its own, then zeros. (Own)
use Rattle.std.specs.Prelude.{ℕ, ◌-◌, ◌++◌, List, length, replicate}

-- a name as 32 bytes
abbrev pub padded : List ℕ → List ℕ
padded name = name ++ replicate (32 - length name) 0
