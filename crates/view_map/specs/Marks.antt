-- How the two lists are kept, by marks in the live entries. (Own)
use Rattle.std.specs.Prelude.{ℕ, ◌≡◌, ◌<◌, ◌≤◌, ◌==◌, true, false, not, List, Option, Some, None, filter, map, length, if◌then◌else◌}
use Rattle.std.specs.declared.cmp.Ordering.{Ordering}
use Rattle.std.specs.List.{AllByRecursion}
use Rattle.std.specs.Map.{values_of}
use Rattle.maps.specs.Maps.{IsMap, has_key, with_value}
use Rattle.view_map.specs.View.{View}
use Rattle.view_map.specs.Walk.{merged}

-- the marked entries, the kept entries of keys that changed or left since the freeze,
-- the number of freezes, and the number of frozen entries
pub record Marks (K V : Type 0) : Type 0 where
  pub live : List (K × (V × ℕ))
  pub kept : List (K × V)
  pub mark : ℕ
  pub frozen_len : ℕ

-- the value of a marked entry, if it has not changed since the freeze
abbrev pub unchanged_value : {V : Type 0} → ℕ → V × ℕ → Option V
unchanged_value mark m = if m.1 == mark then None else Some m.0

module _ {K V : Type 0} where
  -- the entries without their marks
  abbrev pub values_in : List (K × (V × ℕ)) → List (K × V)
  values_in es = map (λ e. (e.0, e.1.0)) es

  -- the entries that have not changed since the freeze
  abbrev pub unchanged_in : ℕ → List (K × (V × ℕ)) → List (K × V)
  unchanged_in mark es = values_in (filter (λ e. not (e.1.1 == mark)) es)

  -- no mark is of a later freeze
  abbrev pub AllMarked : ℕ → List (K × (V × ℕ)) → Type 0
  AllMarked mark es = AllByRecursion (λ m. m.1 ≤ mark) (values_of es)

  -- each mark is of an earlier freeze
  abbrev pub AllBefore : ℕ → List (K × (V × ℕ)) → Type 0
  AllBefore mark es = AllByRecursion (λ m. m.1 < mark) (values_of es)

module _ {K V : Type 0} (cmp : K → K → Ordering) where
  -- with a value kept at k, if there is one to keep
  abbrev pub kept_with : K → Option V → List (K × V) → List (K × V)
  kept_with k None kept = kept
  kept_with k (Some v) kept = with_value cmp k v kept

  -- the two lists
  abbrev pub view_of : Marks K V → View K V
  view_of m = record { live = values_in m.live; frozen = merged cmp m.kept (unchanged_in m.mark m.live) }

  -- each key occurs once in each map, in order; an unchanged entry has no kept one;
  -- and the frozen entries are counted
  pub record IsMarked (m : Marks K V) : Type 0 where
    pub live : IsMap cmp m.live
    pub kept : IsMap cmp m.kept
    pub apart : (k : K) → has_key cmp m.kept k ≡ true → has_key cmp (unchanged_in m.mark m.live) k ≡ false
    pub marks : AllMarked m.mark m.live
    pub counted : m.frozen_len ≡ length (merged cmp m.kept (unchanged_in m.mark m.live))
