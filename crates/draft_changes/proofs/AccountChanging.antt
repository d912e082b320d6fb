-- The accounts that a draft changed, after a registration is written or a DRep leaves.
use Rattle.std.proofs.Common.{◌≡◌, ℕ, ◌<◌, ◌≤◌, List, [], ◌∷◌, Bool, true, false, ◌||◌, cond, is_some, map, Option, Some, None, option_map, refl, ap, subst, sym, ◌∙◌}
use Rattle.std.specs.Prelude.{nat_lt}
use Rattle.std.specs.declared.cmp.Ordering.{Ordering}
use Rattle.std.specs.declared.cmp.Ordering.TheVariants.{Less, Equal, Greater}
use Rattle.std.specs.Ordering.{eq_by_cmp, match_ordering}
use Rattle.std.specs.List.Sorted.{IsStrictlySortedBy}
use Rattle.std.specs.Map.{keys_of}
use Rattle.std.proofs.Math.Bool.{or-false, or-true}
use Rattle.std.proofs.lemmas.Bool.{le-ltb, lt-ltb}
use Rattle.std.proofs.lemmas.Cmp.{eq_by_cmp_equiv}
use Rattle.maps.proofs.Kept.{IsMap-each_value}
use Rattle.maps.proofs.Lookups.{value_at-each_value, value_at-with_value}
use Rattle.maps.proofs.Same.{map_from_value_at}
use Rattle.maps.proofs.Sets.{has_member-with_key}
use Rattle.maps.specs.Maps.{IsMap, each_value, has_member, value_at, with_key, with_value}
use Rattle.maps.specs.Words.{holds, some_and}
use Rattle.gov_ids.specs.declared.Credential.{Credential}
use Rattle.gov_ids.specs.declared.Drep.{Drep}
use Rattle.gov_ids.specs.declared.Drep.TheVariants as drep
use Rattle.gov_ids.specs.Orders.{credential_cmp}
use Rattle.gov_ids.specs.Same.{same_drep}
use Rattle.gov_ids.proofs.Exacts.{credential_exact}
use Rattle.gov_ids.proofs.Totals.{credential_total}
use Rattle.book_records.specs.declared.Registered.{Registered}
use Rattle.book_records.specs.Delegations.{delegates_to_drep, without_drep}
use Rattle.stake_book.specs.Stakes.{delegates_to_dreps}
use Rattle.stake_book.proofs.Ended.{delegates_named, names_one}
use Rattle.draft_changes.specs.ChangedAccounts.{ended, has_left_after, standing, standing_of}
use Rattle.draft_changes.specs.declared.account_changes.Written.{Written}

-- ---- a map with each value made into another

module _ {K X Y : Type 0} (f : X → Y) where
  abbrev pub mapped : List (K × X) → List (K × Y)
  mapped es = map (λ e. (e.0, f e.1)) es

  pub keys_of-mapped : (es : List (K × X)) → keys_of (mapped es) ≡ keys_of es
  keys_of-mapped [] = refl
  keys_of-mapped (e ∷ es) = ap (λ (ks : List K). e.0 ∷ ks) (keys_of-mapped es)

  pub IsMap-mapped : (cmp : K → K → Ordering) (es : List (K × X)) → IsMap cmp es → IsMap cmp (mapped es)
  IsMap-mapped cmp es h = subst (λ (ks : List K). IsStrictlySortedBy cmp ks) (sym (keys_of-mapped es)) h

  pub value_at-mapped : (cmp : K → K → Ordering) (es : List (K × X)) (q : K) → value_at cmp (mapped es) q ≡ option_map f (value_at cmp es q)
  value_at-mapped cmp [] q = refl
  value_at-mapped cmp (e ∷ es) q =
      elim (eq_by_cmp cmp q e.0) as (λ b. cond b (Some (f e.1)) (value_at cmp (mapped es) q) ≡ option_map f (cond b (Some e.1) (value_at cmp es q))) [
        | true ↦ refl
        | false ↦ value_at-mapped cmp es q
      ]

  pub mapped-with_value : (cmp : K → K → Ordering) (k : K) (v : X) (es : List (K × X)) → mapped (with_value cmp k v es) ≡ with_value cmp k (f v) (mapped es)
  mapped-with_value cmp k v [] = refl
  mapped-with_value cmp k v (e ∷ es) =
      elim (cmp k e.0) as (λ r. mapped (match_ordering r ((k, v) ∷ e ∷ es) ((e.0, v) ∷ es) (e ∷ with_value cmp k v es))
      ≡ match_ordering r ((k, f v) ∷ mapped (e ∷ es)) ((e.0, f v) ∷ mapped es) ((e.0, f e.1) ∷ with_value cmp k (f v) (mapped es))) [
        | Less ↦ refl
        | Equal ↦ refl
        | Greater ↦ ap (λ (fs : List (K × Y)). (e.0, f e.1) ∷ fs) (mapped-with_value cmp k v es)
      ]

-- ---- delegations that ended

abbrev delegated : Option Drep → Credential → Bool
delegated d c = holds same_drep d (drep.Registered c)

same_either_way : (c q : Credential) → eq_by_cmp credential_cmp c q ≡ eq_by_cmp credential_cmp q c
same_either_way c q = (eq_by_cmp_equiv credential_total).symm c q

-- one more that ended: what stood without it is without it, and what stood ends where it was delegated to c
one_more : (c : Credential) (r : Registered) (before after : Bool) → after ≡ (delegates_to_drep c r || before)
    → cond after (without_drep r) r ≡ ended c (cond before (without_drep r) r)
one_more c r true after e = ap (λ b. cond b (without_drep r) r) (e ∙ or-true (delegates_to_drep c r))
one_more c r false after e = ap (λ b. cond b (without_drep r) r) (e ∙ or-false (delegates_to_drep c r))

more_names : (c : Credential) (left : List Credential) (d : Option Drep) → names_one (with_key credential_cmp c left) d ≡ (delegated d c || names_one left d)
more_names c left None = refl
more_names c left (Some (drep.Registered q)) =
    has_member-with_key credential_total c left q ∙ ap (λ b. b || has_member credential_cmp left q) (same_either_way c q)
more_names c left (Some drep.Abstain) = refl
more_names c left (Some drep.NoConfidence) = refl

-- the registrations of before: to one DRep more
pub ended_more : (c : Credential) (left : List Credential) (r : Registered)
    → cond (delegates_to_dreps (with_key credential_cmp c left) r) (without_drep r) r ≡ ended c (cond (delegates_to_dreps left r) (without_drep r) r)
ended_more c left r =
    one_more c r (delegates_to_dreps left r) (delegates_to_dreps (with_key credential_cmp c left) r)
    (delegates_named (with_key credential_cmp c left) r ∙ more_names c left r.drep ∙ ap (λ b. delegates_to_drep c r || b) (sym (delegates_named left r)))

-- ---- numbers

module _ (n : ℕ) where
  late_at : (o : Option ℕ) → ((m : ℕ) → o ≡ Some m → m ≤ n) → some_and (nat_lt n) o ≡ false
  late_at None h = refl
  late_at (Some m) h = le-ltb n m (h m refl)

  late : (left : List (Credential × ℕ)) (d : Option Drep) → ((c : Credential) (m : ℕ) → value_at credential_cmp left c ≡ Some m → m ≤ n) → has_left_after left n d ≡ false
  late left None h = refl
  late left (Some (drep.Registered c)) h = late_at (value_at credential_cmp left c) (h c)
  late left (Some drep.Abstain) h = refl
  late left (Some drep.NoConfidence) h = refl

  -- what is written after all that left remains as written
  pub standing_new : (left : List (Credential × ℕ)) (to : Option Registered) → ((c : Credential) (m : ℕ) → value_at credential_cmp left c ≡ Some m → m ≤ n) → option_map (standing left n) to ≡ to
  standing_new left None h = refl
  standing_new left (Some r) h = ap (λ b. Some (cond b (without_drep r) r)) (late left r.drep h)

  left_too : (m : ℕ) (b : Bool) (o : Option ℕ) → n < m → some_and (nat_lt n) (cond b (Some m) o) ≡ (b || some_and (nat_lt n) o)
  left_too m true o h = lt-ltb n m h
  left_too m false o h = refl

  more_left : (c : Credential) (m : ℕ) (left : List (Credential × ℕ)) (d : Option Drep) → n < m
      → has_left_after (with_value credential_cmp c m left) n d ≡ (delegated d c || has_left_after left n d)
  more_left c m left None h = refl
  more_left c m left (Some (drep.Registered q)) h =
      ap (λ (o : Option ℕ). some_and (nat_lt n) o) (value_at-with_value credential_total c m left q)
      ∙ left_too m (eq_by_cmp credential_cmp c q) (value_at credential_cmp left q) h
      ∙ ap (λ b. b || some_and (nat_lt n) (value_at credential_cmp left q)) (same_either_way c q)
  more_left c m left (Some drep.Abstain) h = refl
  more_left c m left (Some drep.NoConfidence) h = refl

  -- what was written before a DRep left ends where it was delegated to it
  pub standing_more : (c : Credential) (m : ℕ) (left : List (Credential × ℕ)) (to : Option Registered) → n < m
      → option_map (standing (with_value credential_cmp c m left) n) to ≡ option_map (ended c) (option_map (standing left n) to)
  standing_more c m left None h = refl
  standing_more c m left (Some r) h = ap Some (one_more c r (has_left_after left n r.drep) (has_left_after (with_value credential_cmp c m left) n r.drep) (more_left c m left r.drep h))

-- what was written before the first change goes by whether the DRep left at all
there_at : (o : Option ℕ) → ((m : ℕ) → o ≡ Some m → 0 < m) → some_and (nat_lt 0) o ≡ is_some o
there_at None h = refl
there_at (Some m) h = lt-ltb 0 m (h m refl)

member_is : (left : List (Credential × ℕ)) (q : Credential) → is_some (value_at credential_cmp left q) ≡ has_member credential_cmp (keys_of left) q
member_is [] q = refl
member_is (e ∷ left) q =
    elim (eq_by_cmp credential_cmp q e.0) as (λ b. is_some (cond b (Some e.1) (value_at credential_cmp left q)) ≡ (b || has_member credential_cmp (keys_of left) q)) [ true ↦ refl | false ↦ member_is left q ]

left_at_all : (left : List (Credential × ℕ)) (d : Option Drep) → ((c : Credential) (m : ℕ) → value_at credential_cmp left c ≡ Some m → 0 < m) → has_left_after left 0 d ≡ names_one (keys_of left) d
left_at_all left None h = refl
left_at_all left (Some (drep.Registered c)) h = there_at (value_at credential_cmp left c) (h c) ∙ member_is left c
left_at_all left (Some drep.Abstain) h = refl
left_at_all left (Some drep.NoConfidence) h = refl

pub standing_first : (left : List (Credential × ℕ)) (to : Option Registered) → ((c : Credential) (m : ℕ) → value_at credential_cmp left c ≡ Some m → 0 < m)
    → option_map (standing left 0) to ≡ option_map (λ (r : Registered). cond (delegates_to_dreps (keys_of left) r) (without_drep r) r) to
standing_first left None h = refl
standing_first left (Some r) h = ap (λ b. Some (cond b (without_drep r) r)) (left_at_all left r.drep h ∙ sym (delegates_named (keys_of left) r))

-- ---- all registrations without what ended later

abbrev pub stands : List (Credential × ℕ) → Written → Option Registered
stands left w = option_map (standing left w.number) w.to

more_of : (c : Credential) (m : ℕ) (left : List (Credential × ℕ)) (o : Option Written) → ((w : Written) → o ≡ Some w → w.number < m)
    → option_map (stands (with_value credential_cmp c m left)) o ≡ option_map (λ (to : Option Registered). option_map (ended c) to) (option_map (stands left) o)
more_of c m left None h = refl
more_of c m left (Some w) h = ap Some (standing_more w.number c m left w.to (h w refl))

-- with a DRep that left after all that is written
pub standing_of-left : (c : Credential) (m : ℕ) (left : List (Credential × ℕ)) (entries : List (Credential × Written)) → IsMap credential_cmp entries
    → ((q : Credential) (w : Written) → value_at credential_cmp entries q ≡ Some w → w.number < m)
    → standing_of (with_value credential_cmp c m left) entries ≡ each_value (λ q to. option_map (ended c) to) (standing_of left entries)
standing_of-left c m left entries g h =
    let before : IsMap credential_cmp (standing_of left entries) = IsMap-mapped (stands left) credential_cmp entries g in
    map_from_value_at credential_total credential_exact _ _ (IsMap-mapped (stands (with_value credential_cmp c m left)) credential_cmp entries g) (IsMap-each_value credential_cmp (λ q to. option_map (ended c) to) (standing_of left entries) before)
    (λ q. value_at-mapped (stands (with_value credential_cmp c m left)) credential_cmp entries q
    ∙ more_of c m left (value_at credential_cmp entries q) (h q)
    ∙ ap (λ (o : Option (Option Registered)). option_map (λ (to : Option Registered). option_map (ended c) to) o) (sym (value_at-mapped (stands left) credential_cmp entries q))
    ∙ sym (value_at-each_value credential_total credential_exact (λ q to. option_map (ended c) to) (standing_of left entries) q))

-- with a registration that is written after all that left
pub standing_of-set : (c : Credential) (w : Written) (left : List (Credential × ℕ)) (entries : List (Credential × Written))
    → ((q : Credential) (m : ℕ) → value_at credential_cmp left q ≡ Some m → m ≤ w.number)
    → standing_of left (with_value credential_cmp c w entries) ≡ with_value credential_cmp c w.to (standing_of left entries)
standing_of-set c w left entries h =
    mapped-with_value (stands left) credential_cmp c w entries
    ∙ ap (λ (to : Option Registered). with_value credential_cmp c to (standing_of left entries)) (standing_new w.number left w.to h)
