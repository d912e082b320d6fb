-- A live list with its list at the last freeze. (Own)
use Rattle.std.specs.Prelude.{◌≡◌, List, Option, fold, unwrap_or}
use Rattle.std.specs.declared.cmp.Ordering.{Ordering}
use Rattle.std.specs.BTreeMap.{is_at}
use Rattle.std.specs.FinMap.{IsAntisymmetric}
use Rattle.std.specs.Map.{lookup_entry, lookup_key}
use Rattle.maps.specs.Maps.{IsMap, value_at}
use Rattle.maps.specs.Replaced.{with_option}

-- the live entries and the frozen entries
pub record View (K V : Type 0) : Type 0 where
  pub live : List (K × V)
  pub frozen : List (K × V)

module _ {K V : Type 0} (cmp : K → K → Ordering) where
  -- each key occurs once in each list, in order
  pub record IsInOrder (m : View K V) : Type 0 where
    pub live : IsMap cmp m.live
    pub frozen : IsMap cmp m.frozen

  -- the list at the freeze
  abbrev pub frozen_of : View K V → List (K × V)
  frozen_of m = m.frozen

  -- the entry at k, with its key in the list
  abbrev pub entry_at : List (K × V) → K → Option (K × V)
  entry_at es k = lookup_entry (is_at (cmp k)) es

  -- the key in the list that is equal to k, or k without one
  abbrev pub key_in : List (K × V) → K → K
  key_in es k = unwrap_or (lookup_key (is_at (cmp k)) es) k

  -- the list with these notes applied in turn: a value replaces the one at its key, none removes it
  abbrev pub with_noted : List (K × Option V) → List (K × V) → List (K × V)
  with_noted notes es = fold (λ es p. with_option cmp p.0 p.1 es) es notes

-- a live map with notes is the other map, if a noted key has in it the noted value,
-- and each other key has the same value in both
abbrev pub NotedAreFrozen : {K : Type 0} (V : Type 0) (cmp : K → K → Ordering) → Type 0
NotedAreFrozen {K} V cmp =
    IsAntisymmetric cmp → (live other : List (K × V)) (notes : List (K × Option V)) → IsMap cmp live → IsMap cmp notes → IsMap cmp other →
    ((k : K) → value_at cmp other k ≡ unwrap_or (value_at cmp notes k) (value_at cmp live k)) → with_noted cmp notes live ≡ other
