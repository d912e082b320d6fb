-- A count with no entry visited.
use Rattle.std.proofs.Common.{◌≡◌, ℕ, List, [], ◌∷◌, Bool, true, false, cond, ◌||◌, map, length, Option, Some, None, is_some, unwrap_or, IfOk, Result, Ok, Err, refl, ap, sym, subst, ◌∙◌, arith}
use Rattle.std.specs.Ordering.{eq_by_cmp}
use Rattle.std.specs.Map.{keys_of}
use Rattle.gov_ids.specs.declared.Credential.{Credential}
use Rattle.gov_ids.specs.declared.Drep.{Drep}
use Rattle.gov_ids.specs.declared.Drep.TheVariants as drep
use Rattle.gov_ids.specs.Orders.{credential_cmp, drep_cmp}
use Rattle.gov_ids.proofs.Totals.{drep_total}
use Rattle.book_records.specs.declared.DrepState.{DrepState}
use Rattle.book_records.specs.declared.Entry.{Entry}
use Rattle.maps.proofs.Joined.{zero_either}
use Rattle.maps.proofs.Lookups.{value_at-with_value}
use Rattle.maps.proofs.Several.{has_key-with_values}
use Rattle.maps.specs.Maps.{value_at, has_key, has_member, with_value, with_values}
use Rattle.snapshots.specs.of_gov_model.Snapshot.{Snapshot}
use Rattle.snapshots.specs.of_gov_model.Stake.{is_frozen_drep}
use Rattle.drep_pulser.specs.Count.{Count, sum_for, no_sums}
use Rattle.drep_pulser.specs.Facts.{AreDeposits, AreDreps, IsCountable, IsCountIn, IsCountOf}

abbrev pub at_none : Credential × DrepState → Drep × ℕ
at_none d = (drep.Registered d.0, 0)

zero_or : (b : Bool) (v : Option ℕ) → unwrap_or v 0 ≡ 0 → unwrap_or (cond b (Some 0) v) 0 ≡ 0
zero_or true v p = refl
zero_or false v p = p

zeros : (ds : List (Credential × DrepState)) (sums : List (Drep × ℕ)) (q : Drep) → sum_for sums q ≡ 0 → sum_for (with_values drep_cmp (map at_none ds) sums) q ≡ 0
zeros [] sums q p = p
zeros (d ∷ ds) sums q p =
    zeros ds (with_value drep_cmp (drep.Registered d.0) 0 sums) q
    (ap (λ (v : Option ℕ). unwrap_or v 0) (value_at-with_value drep_total (drep.Registered d.0) 0 sums q) ∙ zero_or (eq_by_cmp drep_cmp (drep.Registered d.0) q) (value_at drep_cmp sums q) p)

predefined_zero : (q : Drep) → sum_for (no_sums []) q ≡ 0
predefined_zero (drep.Registered c) = refl
predefined_zero drep.Abstain = refl
predefined_zero drep.NoConfidence = refl

registered_keys : (ds : List (Credential × DrepState)) (c : Credential) → has_member drep_cmp (keys_of (map at_none ds)) (drep.Registered c) ≡ has_key credential_cmp ds c
registered_keys [] c = refl
registered_keys (d ∷ ds) c =
    elim (eq_by_cmp credential_cmp c d.0) as (λ b. (b || has_member drep_cmp (keys_of (map at_none ds)) (drep.Registered c)) ≡ is_some (cond b (Some d.1) (value_at credential_cmp ds c))) [
      | true ↦ refl
      | false ↦ registered_keys ds c
    ]

module _ (ds : List (Credential × DrepState)) where
  pub begun_in : (es : List (Credential × Entry)) (total workers : ℕ) (deposits : List (Credential × ℕ)) → total ≡ length es → IsCountable es deposits
      → IsCountIn es (record { cursor = None; done = 0; total = total; workers = workers; sums = no_sums ds; deposits = deposits })
  begun_in es total workers deposits n c = record {
    total = n;
    done = omega arith;
    cursor = refl;
    sums = λ q. zeros ds (no_sums []) q (predefined_zero q) ∙ zero_either (has_key drep_cmp (no_sums ds) q);
    countable = c;
  }

  module _ (f : Snapshot) (is : AreDreps f ds) where
    has_sums : (q : Drep) → has_key drep_cmp (no_sums ds) q ≡ is_frozen_drep f q
    has_sums (drep.Registered c) = has_key-with_values drep_total (map at_none ds) (no_sums []) (drep.Registered c) ∙ registered_keys ds c ∙ sym (is c)
    has_sums drep.Abstain = has_key-with_values drep_total (map at_none ds) (no_sums []) drep.Abstain
    has_sums drep.NoConfidence = has_key-with_values drep_total (map at_none ds) (no_sums []) drep.NoConfidence

    pub begun : (total workers : ℕ) (deposits : List (Credential × ℕ)) → total ≡ length f.entries → AreDeposits f deposits → IsCountable f.entries deposits
        → IsCountOf f (record { cursor = None; done = 0; total = total; workers = workers; sums = no_sums ds; deposits = deposits })
    begun total workers deposits n d c = record { counts = begun_in f.entries total workers deposits n c; dreps = has_sums; deposits = d }

-- what holds of a count holds of a result that is one
pub counts_if : {E : Type 0} (P : Count → Type 0) (r : Result Count E) (c : Count) → IfOk r (λ k. k ≡ c) → P c → IfOk r P
counts_if P (Ok k) c e h = subst P (sym e) h
counts_if P (Err none) c e h = tt
