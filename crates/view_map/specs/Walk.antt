-- The frozen list merges the unchanged entries and the kept entries. (Own)
use Rattle.std.specs.Prelude.{List, [], ◌∷◌, Option, Some, None, filter}
use Rattle.std.specs.declared.cmp.Ordering.{Ordering}
use Rattle.std.specs.Ordering.{match_ordering}
use Rattle.maps.specs.Maps.{comes_past}

-- the entries after a key, or all of them
abbrev pub entries_past : {K X : Type 0} → (K → K → Ordering) → Option K → List (K × X) → List (K × X)
entries_past cmp after es = filter (λ e. comes_past cmp after e.0) es

module _ {K V : Type 0} (cmp : K → K → Ordering) where
  -- the first entry, if it is before k, and the others; an entry at k is dropped
  abbrev pub taken_before : K → List (K × V) → Option (K × V) × List (K × V)
  taken_before k [] = (None, [])
  taken_before k (e ∷ es) = match_ordering (cmp e.0 k) (Some e, es) (None, es) (None, e ∷ es)

  -- the entries before a kept one, the kept one, and `behind` of the entries after it
  abbrev pub merged_at : K × V → (List (K × V) → List (K × V)) → List (K × V) → List (K × V)
  merged_at p behind [] = p ∷ behind []
  merged_at p behind (e ∷ es) =
      match_ordering (cmp e.0 p.0) (e ∷ merged_at p behind es) (p ∷ behind es) (p ∷ behind (e ∷ es))

  -- the kept entries merged with the others; a kept entry replaces another at its key
  abbrev pub merged : List (K × V) → List (K × V) → List (K × V)
  merged [] others = others
  merged (p ∷ kept) others = merged_at p (merged kept) others
