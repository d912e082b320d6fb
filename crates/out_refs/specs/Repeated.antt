-- The first reference of a list that is in it already. (Own)
use Rattle.std.specs.Prelude.{ℕ, Bool, List, Option, find, length, option_map}
use Rattle.gov_ids.specs.declared.OutRef.{OutRef}
use Rattle.gov_ids.specs.Same.{same_outref}
use Rattle.gov_ids.specs.of_maps.Words.{among, with_fronts}

-- a reference is among those before it
abbrev pub is_among_front : List OutRef × OutRef → Bool
is_among_front p = among same_outref p.1 p.0

-- the place of a reference: how many are before it
abbrev pub place_of : List OutRef × OutRef → ℕ
place_of p = length p.0

-- the place, from 0, of the first reference that is in the list before it too
abbrev pub first_repeated : List OutRef → Option ℕ
first_repeated refs = option_map place_of (find is_among_front (with_fronts refs))
