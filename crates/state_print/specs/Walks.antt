-- A scan from entry to entry. (Own)
use Rattle.std.specs.Prelude.{List, [], ◌∷◌, Option, None, Some}

-- the entry that was found, if there is one, and those past its key
abbrev pub entry_then : {K X : Type 0} → (Option K → List (K × X)) → Option (K × X) → List (K × X)
entry_then past None = []
entry_then past (Some e) = e ∷ past (Some e.0)
