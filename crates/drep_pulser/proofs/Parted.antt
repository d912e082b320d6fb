-- A part beside its DReps, and sums with those of parts.
use Rattle.std.proofs.Common.{◌≡◌, ℕ, zero, suc, ◌+◌, ◌^◌, ◌<◌, List, [], ◌∷◌, true, false, cond, length, Option, Some, None, is_some, unwrap_or, slice_index_or, slice_set, refl, ap, sym, subst, ◌∙◌, arith}
use Rattle.std.specs.List.{zip}
use Rattle.std.specs.Map.{keys_of}
use Rattle.std.specs.Ordering.{eq_by_cmp}
use Rattle.std.proofs.lemmas.Cmp.{eq_by_cmp_equiv}
use Rattle.std.proofs.lemmas.List.{length-map, get_or-map, get_or_default, ext_get_or}
use Rattle.std.proofs.lemmas.Map.Made.{keys_of-zip}
use Rattle.std.proofs.lemmas.Slice.Zip.{length-zip, get_or-zip}
use Rattle.gov_ids.specs.declared.Drep.{Drep}
use Rattle.gov_ids.specs.declared.Drep.TheVariants as drep
use Rattle.gov_ids.specs.Orders.{drep_cmp}
use Rattle.gov_ids.proofs.Totals.{drep_total}
use Rattle.maps.proofs.Ties.{is_equal}
use Rattle.maps.specs.Maps.{IsMap, IsSet, has_key, value_at, changed_at}
use Rattle.drep_pulser.specs.Count.{sum_for}
use Rattle.drep_pulser.specs.Parts.{by_drep, no_part, with_part}
use Rattle.drep_pulser.specs.Places.{IsPlaceOf}
use Rattle.drep_pulser.proofs.Ordered.{more_there, sum_there}

-- the DReps of a part are those of the sums
pub keys_by : (sums : List (Drep × ℕ)) (part : List ℕ) → length part ≡ length sums → keys_of (by_drep sums part) ≡ keys_of sums
keys_by sums part long = keys_of-zip (keys_of sums) part (long ∙ sym (length-map sums (λ (s : Drep × ℕ). s.0)))

pub same_keys : (sums : List (Drep × ℕ)) (part : List ℕ) (d : Drep) → length part ≡ length sums → has_key drep_cmp (by_drep sums part) d ≡ has_key drep_cmp sums d
same_keys [] part d long = refl
same_keys (s ∷ sums) [] d long = absurd (omega arith)
same_keys (s ∷ sums) (n ∷ part) d long =
    elim (eq_by_cmp drep_cmp d s.0) as (λ b. is_some (cond b (Some n) (value_at drep_cmp (by_drep sums part) d)) ≡ is_some (cond b (Some s.1) (value_at drep_cmp sums d))) [
      | true ↦ refl
      | false ↦ same_keys sums part d (omega arith)
    ]

-- a part with nothing in it
pub nothing_in : (sums : List (Drep × ℕ)) (d : Drep) → sum_for (by_drep sums (no_part sums)) d ≡ 0
nothing_in [] d = refl
nothing_in (s ∷ sums) d =
    elim (eq_by_cmp drep_cmp d s.0) as (λ b. unwrap_or (cond b (Some 0) (value_at drep_cmp (by_drep sums (no_part sums)) d)) 0 ≡ 0) [
      | true ↦ refl
      | false ↦ nothing_in sums d
    ]

pub nothing_for : (sums : List (Drep × ℕ)) (d : Drep) → has_key drep_cmp sums d ≡ false → sum_for sums d ≡ 0
nothing_for sums d none = elim (value_at drep_cmp sums d) as (λ v. is_some v ≡ false → unwrap_or v 0 ≡ 0) [ None ↦ λ e. refl | Some n ↦ λ e. cc ] none

-- the sums with those of a part
pub keys_with : (sums : List (Drep × ℕ)) (part : List ℕ) → length part ≡ length sums → keys_of (with_part part sums) ≡ keys_of sums
keys_with [] part long = refl
keys_with (s ∷ sums) [] long = absurd (omega arith)
keys_with (s ∷ sums) (n ∷ part) long = ap (λ (ks : List Drep). s.0 ∷ ks) (keys_with sums part (omega arith))

pub sum_with_part : (sums : List (Drep × ℕ)) (part : List ℕ) (d : Drep) → length part ≡ length sums → sum_for (with_part part sums) d ≡ sum_for sums d + sum_for (by_drep sums part) d
sum_with_part [] part d long = refl
sum_with_part (s ∷ sums) [] d long = absurd (omega arith)
sum_with_part (s ∷ sums) (n ∷ part) d long =
    elim (eq_by_cmp drep_cmp d s.0) as (λ b. unwrap_or (cond b (Some (s.1 + n)) (value_at drep_cmp (with_part part sums) d)) 0
    ≡ unwrap_or (cond b (Some s.1) (value_at drep_cmp sums d)) 0 + unwrap_or (cond b (Some n) (value_at drep_cmp (by_drep sums part) d)) 0) [
      | true ↦ refl
      | false ↦ sum_with_part sums part d (omega arith)
    ]

pub none_by : (sums : List (Drep × ℕ)) (part : List ℕ) (d : Drep) → length part ≡ length sums → value_at drep_cmp sums d ≡ None → value_at drep_cmp (by_drep sums part) d ≡ None
none_by sums part d long none =
    elim (value_at drep_cmp (by_drep sums part) d) as (λ v. is_some v ≡ false → v ≡ None) [ None ↦ λ e. refl | Some n ↦ λ e. cc ]
    (same_keys sums part d long ∙ ap (λ (v : Option ℕ). is_some v) none)

-- a number written in a part is beside its DRep
zip_set : {K : Type 0} (ks : List K) (vs : List ℕ) (i n : ℕ) (k : K) → i < length ks → length vs ≡ length ks → zip ks (slice_set vs i n) ≡ slice_set (zip ks vs) i (slice_index_or ks i k, n)
zip_set [] vs i n k lt long = absurd (omega arith)
zip_set (q ∷ ks) [] i n k lt long = absurd (omega arith)
zip_set (q ∷ ks) (v ∷ vs) zero n k lt long = refl
zip_set {K} (q ∷ ks) (v ∷ vs) (suc i) n k lt long = ap (λ (l : List (K × ℕ)). (q, v) ∷ l) (zip_set ks vs i n k (omega arith) (omega arith))

module _ (sums : List (Drep × ℕ)) (part : List ℕ) (long : length part ≡ length sums) (i : ℕ) (lt : i < length sums) where
  count_of_keys : length (keys_of sums) ≡ length sums
  count_of_keys = length-map sums (λ (s : Drep × ℕ). s.0)

  entry_by : (e : Drep × ℕ) → slice_index_or (by_drep sums part) i e ≡ ((slice_index_or sums i e).0, slice_index_or part i e.1)
  entry_by e =
      get_or-zip (keys_of sums) part i e (omega (arith, count_of_keys, lt)) (omega (arith, long, lt))
      ∙ ap (λ (k : Drep). (k, slice_index_or part i e.1)) (get_or-map (λ (s : Drep × ℕ). s.0) sums i e e.0 lt)

  set_by : (n : ℕ) (e : Drep × ℕ) → by_drep sums (slice_set part i n) ≡ slice_set (by_drep sums part) i ((slice_index_or sums i e).0, n)
  set_by n e =
      zip_set (keys_of sums) part i n e.0 (omega (arith, count_of_keys, lt)) (omega (arith, count_of_keys, long))
      ∙ ap (λ (k : Drep). slice_set (by_drep sums part) i (k, n)) (get_or-map (λ (s : Drep × ℕ). s.0) sums i e e.0 lt)

-- more at the place of a DRep is more for the DRep
module _ (sums : List (Drep × ℕ)) (part : List ℕ) (long : length part ≡ length sums) (ordered : IsMap drep_cmp sums) (d : Drep) (i : ℕ) (there : IsPlaceOf sums d i) where
  place_by : IsPlaceOf (by_drep sums part) d i
  place_by = (
    omega (arith, length-zip (keys_of sums) part, length-map sums (λ (s : Drep × ℕ). s.0), long, there.0),
    λ e. ap (λ (x : Drep × ℕ). drep_cmp x.0 d) (entry_by sums part long i there.0 e) ∙ there.1 e,
  )

  ordered_by : IsMap drep_cmp (by_drep sums part)
  ordered_by = subst (λ (ks : List Drep). IsSet drep_cmp ks) (sym (keys_by sums part long)) ordered

  module _ (x : ℕ) (is : x ≡ slice_index_or part i x) where
    abbrev at_place : Drep × ℕ
    at_place = ((slice_index_or sums i (d, x)).0, x)

    there_by : at_place ≡ slice_index_or (by_drep sums part) i at_place
    there_by = sym (entry_by sums part long i there.0 at_place ∙ (λ j. ((get_or_default sums i at_place (d, x) there.0 j).0, sym is j)))

    pub sum_by_place : sum_for (by_drep sums part) d ≡ x
    sum_by_place = sum_there (by_drep sums part) d i at_place ordered_by place_by there_by

    pub more_by_place : (n : ℕ) → by_drep sums (slice_set part i (x + n)) ≡ changed_at drep_cmp d (λ s. s + n) (by_drep sums part)
    more_by_place n = set_by sums part long i there.0 (x + n) (d, x) ∙ more_there (by_drep sums part) d i n at_place ordered_by place_by there_by

at_with : (sums : List (Drep × ℕ)) (part : List ℕ) (k : ℕ) (e : Drep × ℕ) → length part ≡ length sums → k < length sums
    → slice_index_or (with_part part sums) k e ≡ ((slice_index_or sums k e).0, (slice_index_or sums k e).1 + slice_index_or part k 0)
at_with [] part k e long lt = absurd (omega arith)
at_with (s ∷ sums) [] k e long lt = absurd (omega arith)
at_with (s ∷ sums) (n ∷ part) zero e long lt = refl
at_with (s ∷ sums) (n ∷ part) (suc k) e long lt = at_with sums part k e (omega arith) (omega arith)

module _ (sums : List (Drep × ℕ)) (part : List ℕ) (long : length part ≡ length sums) where
  -- where each sum has that of the part in it
  pub gathered : (items : List (Drep × ℕ)) → length items ≡ length sums
      → ((k : ℕ) (e : Drep × ℕ) → k < length sums → slice_index_or items k e ≡ ((slice_index_or sums k e).0, (slice_index_or sums k e).1 + slice_index_or part k 0)) → items ≡ with_part part sums
  gathered items same each =
      let count : length (with_part part sums) ≡ length sums =
      sym (length-map (with_part part sums) (λ (s : Drep × ℕ). s.0)) ∙ ap (λ (ks : List Drep). length ks) (keys_with sums part long) ∙ length-map sums (λ (s : Drep × ℕ). s.0) in
      ext_get_or (drep.Abstain, 0) items (with_part part sums) (same ∙ sym count) (λ k lt. each k (drep.Abstain, 0) (omega (arith, same, lt)) ∙ sym (at_with sums part k (drep.Abstain, 0) long (omega (arith, same, lt))))

  module _ (ordered : IsMap drep_cmp sums) where
    pub ordered_with : IsMap drep_cmp (with_part part sums)
    ordered_with = subst (λ (ks : List Drep). IsSet drep_cmp ks) (sym (keys_with sums part long)) ordered

    pub fits_at : ((d : Drep) → sum_for sums d + sum_for (by_drep sums part) d < 2 ^ 64) → (i : ℕ) (e : Drep × ℕ) (n : ℕ) → i < length sums → e ≡ slice_index_or sums i e → n ≡ slice_index_or part i n → e.1 + n < 2 ^ 64
    fits_at fit i e n lt is number =
        let there : IsPlaceOf sums e.0 i =
        (lt, λ o. ap (λ (x : Drep × ℕ). drep_cmp x.0 e.0) (get_or_default sums i o e lt ∙ sym is) ∙ is_equal _ ((eq_by_cmp_equiv drep_total).refl e.0)) in
        omega (arith, fit e.0, sum_there sums e.0 i e ordered there is, sum_by_place sums part long ordered e.0 i there n number)
