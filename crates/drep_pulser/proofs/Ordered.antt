-- The sums of a count as a list in the order of DReps.
use Rattle.std.proofs.Common.{◌≡◌, ℕ, zero, suc, ◌+◌, ◌<◌, List, [], ◌∷◌, ◌++◌, length, map, cond, Option, Some, None, unwrap_or, Result, Ok, Err, slice_index_or, slice_set, refl, ap, sym, ◌∙◌, append_assoc, arith}
use Rattle.std.specs.declared.cmp.Ordering.{Ordering}
use Rattle.std.specs.declared.cmp.Ordering.TheVariants.{Less, Equal, Greater}
use Rattle.std.specs.Ordering.{is_eq, match_ordering, ordering_reverse}
use Rattle.std.specs.Cmp.{IsTotalOrder}
use Rattle.std.specs.List.{AllByRecursion}
use Rattle.std.specs.List.Sorted.{IsStrictlySortedBy, IsSearchInRange, IsBinarySearchResult}
use Rattle.std.specs.Map.{keys_of}
use Rattle.std.specs.Option.{IfSome, IfNone}
use Rattle.std.specs.Result.{result_ok}
use Rattle.gov_ids.specs.declared.Credential.{Credential}
use Rattle.gov_ids.specs.declared.Drep.{Drep}
use Rattle.gov_ids.specs.declared.Drep.TheVariants as drep
use Rattle.gov_ids.specs.Orders.{credential_cmp, drep_cmp}
use Rattle.gov_ids.proofs.Totals.{drep_total}
use Rattle.book_records.specs.declared.DrepState.{DrepState}
use Rattle.maps.proofs.Kept.{IsMap-with_values}
use Rattle.maps.proofs.Lookups.{none_below}
use Rattle.maps.proofs.Placed.{changed_at_absent}
use Rattle.maps.proofs.Ties.{all_tied}
use Rattle.maps.specs.Maps.{IsMap, value_at, with_value, with_values, changed_at}
use Rattle.snapshots.proofs.Searched.{found, missed}
use Rattle.drep_pulser.specs.Count.{sum_for, no_sums}
use Rattle.drep_pulser.specs.Places.{IsPlaceOf}
use Rattle.drep_pulser.proofs.Begun.{at_none}

module _ {K X : Type 0} {cmp : K → K → Ordering} (o : IsTotalOrder cmp) where
  -- keys above the first one go behind its entry
  behind_first : (e : K × X) (new es : List (K × X)) → AllByRecursion (λ q. cmp e.0 q ≡ Less) (keys_of new) → with_values cmp new (e ∷ es) ≡ e ∷ with_values cmp new es
  behind_first e [] es h = refl
  behind_first e (n ∷ new) es h =
      let greater : cmp n.0 e.0 ≡ Greater = o.antisymm n.0 e.0 ∙ ap ordering_reverse h.0 in
      ap (λ r. with_values cmp new (match_ordering r (n ∷ e ∷ es) ((e.0, n.1) ∷ es) (e ∷ with_value cmp n.0 n.1 es))) greater
      ∙ behind_first e new (with_value cmp n.0 n.1 es) h.1

  -- a value that is written at the place of its key
  pub written_at : (k : K) (f : X → X) (es : List (K × X)) (i : ℕ) (d : K × X) → IsMap cmp es → i < length es → cmp (slice_index_or es i d).0 k ≡ Equal
      → slice_set es i ((slice_index_or es i d).0, f (slice_index_or es i d).1) ≡ changed_at cmp k f es
  unfolding IsStrictlySortedBy
  written_at k f [] i d h lt at = absurd (omega arith)
  written_at k f (e ∷ es) zero d h lt at =
      let here : cmp k e.0 ≡ Equal = o.antisymm k e.0 ∙ ap ordering_reverse at in
      let rest : changed_at cmp k f es ≡ es = changed_at_absent cmp k f es (none_below cmp k es (all_tied o k e.0 (keys_of es) here h.0)) in
      λ i. (e.0, cond (is_eq (sym here i)) (f e.1) e.1) ∷ sym rest i
  written_at k f (e ∷ es) (suc i) d h lt at =
      let there : value_at cmp es k ≡ Some (slice_index_or es i d).1 = found o k es i d h.1 (omega arith) at in
      let rest = written_at k f es i d h.1 (omega arith) at in
      elim (cmp k e.0) as (λ r. cmp k e.0 ≡ r → e ∷ slice_set es i ((slice_index_or es i d).0, f (slice_index_or es i d).1) ≡ (e.0, cond (is_eq r) (f e.1) e.1) ∷ changed_at cmp k f es) [
        | Less ↦ λ r. ap (λ (l : List (K × X)). e ∷ l) rest
        | Equal ↦ λ r. let none : value_at cmp es k ≡ None = none_below cmp k es (all_tied o k e.0 (keys_of es) r h.0) in cc
        | Greater ↦ λ r. ap (λ (l : List (K × X)). e ∷ l) rest
      ] refl

abbrev predefined : List (Drep × ℕ)
predefined = (drep.Abstain, 0) ∷ (drep.NoConfidence, 0) ∷ []

registered_above : (c : Credential) (ds : List (Credential × DrepState)) → AllByRecursion (λ q. credential_cmp c q ≡ Less) (keys_of ds) → AllByRecursion (λ q. drep_cmp (drep.Registered c) q ≡ Less) (keys_of (map at_none ds))
registered_above c [] h = tt
registered_above c (d ∷ ds) h = (h.0, registered_above c ds h.1)

-- the registered DReps come first, in their order
pub listed_sums : (ds : List (Credential × DrepState)) → IsMap credential_cmp ds
    → map (λ (e : Credential × ℕ). (drep.Registered e.0, 0)) (map (λ d. (d.0, d.1.expiry)) ds) ++ (drep.Abstain, 0) ∷ (drep.NoConfidence, 0) ∷ [] ≡ no_sums ds
unfolding IsStrictlySortedBy
listed_sums [] h = refl
listed_sums (d ∷ ds) h =
    ap (λ (l : List (Drep × ℕ)). at_none d ∷ l) (listed_sums ds h.1)
    ∙ sym (behind_first drep_total (at_none d) (map at_none ds) predefined (registered_above d.0 ds h.0))

-- and the predefined ones are put behind them
pub built_sums : (ds : List (Credential × DrepState)) (listed : List (Credential × ℕ)) (registered one two : List (Drep × ℕ)) → IsMap credential_cmp ds
    → listed ≡ map (λ d. (d.0, d.1.expiry)) ds → registered ≡ map (λ e. (drep.Registered e.0, 0)) listed
    → one ≡ registered ++ (drep.Abstain, 0) ∷ [] → two ≡ one ++ (drep.NoConfidence, 0) ∷ [] → two ≡ no_sums ds
built_sums ds listed registered one two h l r p q =
    q
    ∙ ap (λ (es : List (Drep × ℕ)). es ++ (drep.NoConfidence, 0) ∷ []) p
    ∙ append_assoc registered ((drep.Abstain, 0) ∷ []) ((drep.NoConfidence, 0) ∷ [])
    ∙ ap (λ (es : List (Drep × ℕ)). es ++ (drep.Abstain, 0) ∷ (drep.NoConfidence, 0) ∷ []) (r ∙ ap (λ (es : List (Credential × ℕ)). map (λ e. (drep.Registered e.0, 0)) es) l)
    ∙ listed_sums ds h

-- what a binary search finds
pub found_place : (es : List (Drep × ℕ)) (d : Drep) (r : Result ℕ ℕ) → IsMap drep_cmp es → IsSearchInRange r (length es) → IsBinarySearchResult (λ (e : Drep × ℕ). drep_cmp e.0 d) es r
    → IfSome (result_ok r) (IsPlaceOf es d) × IfNone (result_ok r) (value_at drep_cmp es d ≡ None)
found_place es d (Ok i) h within equal = ((within, equal), tt)
found_place es d (Err i) h within parted = (tt, missed drep_total d es i h within parted)

-- the sum at the place of a DRep
pub sum_there : (es : List (Drep × ℕ)) (d : Drep) (i : ℕ) (e : Drep × ℕ) → IsMap drep_cmp es → IsPlaceOf es d i → e ≡ slice_index_or es i e → sum_for es d ≡ e.1
sum_there es d i e h there is =
    ap (λ (v : Option ℕ). unwrap_or v 0) (found drep_total d es i e h there.0 (there.1 e)) ∙ sym (ap (λ (x : Drep × ℕ). x.1) is)

-- and with more there
pub more_there : (es : List (Drep × ℕ)) (d : Drep) (i n : ℕ) (e : Drep × ℕ) → IsMap drep_cmp es → IsPlaceOf es d i → e ≡ slice_index_or es i e
    → slice_set es i (e.0, e.1 + n) ≡ changed_at drep_cmp d (λ s. s + n) es
more_there es d i n e h there is =
    ap (λ (x : Drep × ℕ). slice_set es i (x.0, x.1 + n)) is ∙ written_at drep_total d (λ s. s + n) es i e h there.0 (there.1 e)

-- the sums are in order
pub ordered_sums : (ds : List (Credential × DrepState)) → IsMap drep_cmp (no_sums ds)
unfolding IsStrictlySortedBy
ordered_sums ds = IsMap-with_values drep_total (map at_none ds) predefined ((refl, tt), (tt, tt))
