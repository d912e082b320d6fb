-- The entries that a count has not visited, shared by workers; each adds up a part. (Own)
use Rattle.std.specs.Prelude.{ℕ, ◌≡◌, ◌+◌, Bool, false, ◌&&◌, not, List, Option, Some, None, filter, if◌then◌else◌, map, sum_by}
use Rattle.std.specs.List.{zip}
use Rattle.std.specs.Map.{keys_of}
use Rattle.std.specs.Ordering.{is_lt}
use Rattle.gov_ids.specs.declared.Credential.{Credential}
use Rattle.gov_ids.specs.declared.Drep.{Drep}
use Rattle.gov_ids.specs.Orders.{credential_cmp, drep_cmp}
use Rattle.book_records.specs.declared.Entry.{Entry}
use Rattle.snapshots.specs.of_gov_model.Stake.{votes_by}
use Rattle.maps.specs.Maps.{comes_past, has_key}
use Rattle.view_map.specs.Walk.{entries_past}
use Rattle.drep_pulser.specs.Count.{Count, sum_for}
use Rattle.drep_pulser.specs.Facts.{IsCountIn, weight_by}

-- whether a credential comes after the last one of a range; none is no bound
abbrev pub is_beyond : Option Credential → Credential → Bool
is_beyond None c = false
is_beyond (Some last) c = is_lt (credential_cmp last c)

-- the entries after one credential and not after another; none is no bound
abbrev pub entries_between : Option Credential → Option Credential → List (Credential × Entry) → List (Credential × Entry)
entries_between after until es = filter (λ e. comes_past credential_cmp after e.0 && not (is_beyond until e.0)) es

-- the entries that a count has not visited
abbrev pub entries_left : Count → List (Credential × Entry) → List (Credential × Entry)
entries_left c es = entries_past credential_cmp c.cursor es

-- an empty part: 0 for each DRep with a sum
abbrev pub no_part : List (Drep × ℕ) → List ℕ
no_part sums = map (λ s. 0) sums

-- a part, with the DRep of each sum
abbrev pub by_drep : List (Drep × ℕ) → List ℕ → List (Drep × ℕ)
by_drep sums part = zip (keys_of sums) part

-- the sums plus those of a part
abbrev pub with_part : List ℕ → List (Drep × ℕ) → List (Drep × ℕ)
with_part part sums = map (λ p. (p.0.0, p.0.1 + p.1)) (zip sums part)

-- the sum of a DRep plus those of the parts
abbrev pub sum_with : List (List ℕ) → List (Drep × ℕ) → Drep → ℕ
sum_with parts sums d = sum_for sums d + sum_by (λ part. sum_for (by_drep sums part) d) parts

-- the count is over these entries; the sums of a DRep in the count and in the parts
-- are together the weight of all that delegate to it
pub record IsSharedIn (es : List (Credential × Entry)) (c : Count) (parts : List (List ℕ)) : Type 0 where
  pub counts : IsCountIn es c
  pub sums : (d : Drep) → sum_with parts c.sums d
      ≡ (if has_key drep_cmp c.sums d then sum_by (weight_by c.deposits) (filter (votes_by d) es) else 0)
