-- The silent DReps that an answer names are the fewest that suffice.
use Rattle.std.proofs.Common.{◌≡◌, ℕ, ◌+◌, ◌*◌, ◌<◌, ◌≤◌, ◌==◌, zero, suc, List, [], ◌∷◌, true, false, ◌&&◌, ◌||◌, Contains, Option, Some, None, filter, fold, length, length-take, map, nat_le, nat_lt, take, refl, ap, sym, subst, ◌∙◌, arith, ⊎_elim}
use Rattle.std.specs.declared.cmp.Ordering.TheVariants.{Less, Equal, Greater}
use Rattle.std.specs.Ordering.{MatchOrdering, eq_by_cmp, is_eq, nat_cmp, ordering_then}
use Rattle.std.specs.Cmp.{IsTotalOrder}
use Rattle.std.specs.List.{AllByRecursion, IsDistinct}
use Rattle.std.specs.List.Sorted.{IsStrictlySortedBy}
use Rattle.std.specs.Map.{keys_of}
use Rattle.std.proofs.Math.Nat.{mul-le-mul_right}
use Rattle.std.proofs.lemmas.Bool.{cases_lt, false≢true, le-leb, leb-true}
use Rattle.std.proofs.lemmas.Cmp.{back_total, eq_by_cmp_equiv, nat_cmp_total, on_total, ranked, then_total, tied_itself}
use Rattle.std.proofs.lemmas.List.Elements.{All-contains_itself, All-from_recursion, All-take, recursion_from_All}
use Rattle.std.proofs.lemmas.Map.Views.{list_any-from_Contains}
use Rattle.coin_frac.specs.Fraction.{Fraction}
use Rattle.coin_frac.specs.Reaches.{reaches}
use Rattle.gov_ids.specs.declared.Credential.{Credential}
use Rattle.gov_ids.specs.declared.Drep.TheVariants as drep
use Rattle.gov_ids.specs.Orders.{credential_cmp}
use Rattle.gov_ids.specs.Same.{same_credential}
use Rattle.gov_ids.proofs.Exacts.{credential_exact}
use Rattle.gov_ids.proofs.Totals.{credential_total}
use Rattle.gov_actions.specs.declared.action.Proposal.{Proposal}
use Rattle.gov_actions.specs.declared.tally.Need.{Need}
use Rattle.gov_actions.specs.declared.tally.Need.TheVariants as need
use Rattle.gov_model.specs.Sides.{active_dreps}
use Rattle.gov_model.specs.Snapshot.{Snapshot}
use Rattle.gov_model.specs.Stake.{drep_stake}
use Rattle.gov_model.specs.Thresholds.{zero_share}
use Rattle.maps.specs.Maps.{IsSet, has_member, with_key}
use Rattle.maps.proofs.Sets.{IsSet-in_order, all-with_key, has_member-in_order}
use Rattle.maps.proofs.Ties.{same_key}
use Rattle.shortfall_model.specs.Laws.{AreFewest, AreSilent, IsRight, LeastIsLeast, NoneSuffice, threshold_of}
use Rattle.shortfall_model.specs.Silent.{by_stake, drep_count, is_silent, least_front, need_of_dreps, short_by, short_for, silent_dreps, stake_cmp, stakes_of, suffice}
use Rattle.shortfall_laws.proofs.Fronts.{Falls, IsAtMostFront, IsFirstFront, at_most_front, first_front, no_front}

-- ---- the order of stakes

abbrev stake : Credential × ℕ → ℕ
stake d = d.1

stake_total : IsTotalOrder stake_cmp
stake_total = then_total (back_total (on_total stake nat_cmp_total)) (on_total (λ (d : Credential × ℕ). d.0) credential_total)

-- what ties has the same stake
same_stake : (x y : Credential × ℕ) → eq_by_cmp stake_cmp x y ≡ true → x.1 ≡ y.1
same_stake x y e =
    elim (nat_cmp y.1 x.1) as (λ r. MatchOrdering r (y.1 < x.1) (y.1 ≡ x.1) (x.1 < y.1) → is_eq (ordering_then r (credential_cmp x.0 y.0)) ≡ true → x.1 ≡ y.1) [
      | Less ↦ λ m e. absurd (false≢true e)
      | Equal ↦ λ m e. sym m
      | Greater ↦ λ m e. absurd (false≢true e)
    ] (ranked y.1 x.1 (nat_cmp y.1 x.1) refl) e

-- what comes later has no greater stake
no_greater : (x y : Credential × ℕ) → stake_cmp x y ≡ Less → y.1 ≤ x.1
no_greater x y e =
    elim (nat_cmp y.1 x.1) as (λ r. MatchOrdering r (y.1 < x.1) (y.1 ≡ x.1) (x.1 < y.1) → ordering_then r (credential_cmp x.0 y.0) ≡ Less → y.1 ≤ x.1) [
      | Less ↦ λ m e. omega (arith, m)
      | Equal ↦ λ m e. omega (arith, m)
      | Greater ↦ λ m e. cc
    ] (ranked y.1 x.1 (nat_cmp y.1 x.1) refl) e

-- other credentials do not tie
not_tied : (x y : Credential × ℕ) → same_credential x.0 y.0 ≡ false → eq_by_cmp stake_cmp x y ≡ false
not_tied x y e =
    elim (nat_cmp y.1 x.1) as (λ r. is_eq (ordering_then r (credential_cmp x.0 y.0)) ≡ false) [
      | Less ↦ refl
      | Equal ↦ e
      | Greater ↦ refl
    ]

all_no_greater : (x : Credential × ℕ) (ys : List (Credential × ℕ)) → AllByRecursion (λ y. stake_cmp x y ≡ Less) ys → AllByRecursion (λ y. stake y ≤ stake x) ys
all_no_greater x [] h = tt
all_no_greater x (y ∷ ys) h = (no_greater x y h.0, all_no_greater x ys h.1)

falls : (xs : List (Credential × ℕ)) → IsSet stake_cmp xs → Falls stake xs
unfolding IsStrictlySortedBy
falls [] h = tt
falls (x ∷ xs) h = (all_no_greater x xs h.0, falls xs h.1)

all_not_tied : (x : Credential × ℕ) (ys : List (Credential × ℕ)) → AllByRecursion (λ c. same_credential x.0 c ≡ false) (keys_of ys) → AllByRecursion (λ y. eq_by_cmp stake_cmp x y ≡ false) ys
all_not_tied x [] h = tt
all_not_tied x (y ∷ ys) h = (not_tied x y h.0, all_not_tied x ys h.1)

distinct_stakes : (ds : List (Credential × ℕ)) → IsDistinct same_credential (keys_of ds) → IsDistinct (eq_by_cmp stake_cmp) ds
unfolding IsDistinct
distinct_stakes [] h = tt
distinct_stakes (d ∷ ds) h = (all_not_tied d ds h.0, distinct_stakes ds h.1)

-- ---- the silent DReps in order

-- each has its own stake
abbrev HasStake : Snapshot → Credential × ℕ → Type 0
HasStake f d = d.1 ≡ drep_stake f (drep.Registered d.0)

each_has : (f : Snapshot) (cs : List Credential) → AllByRecursion (HasStake f) (map (λ c. (c, drep_stake f (drep.Registered c))) cs)
each_has f [] = tt
each_has f (c ∷ cs) = (refl, each_has f cs)

-- what holds of each holds of each in order
all_with_each : (P : Credential × ℕ → Type 0) (xs s : List (Credential × ℕ)) → AllByRecursion P xs → AllByRecursion P s → AllByRecursion P (fold (λ t k. with_key stake_cmp k t) s xs)
all_with_each P [] s h k = k
all_with_each P (x ∷ xs) s h k = all_with_each P xs (with_key stake_cmp x s) h.1 (all-with_key stake_cmp P x s h.0 k)

all_by_stake : (f : Snapshot) (a : Proposal) (P : Credential × ℕ → Type 0) → AllByRecursion P (silent_dreps f a) → AllByRecursion P (by_stake f a)
all_by_stake f a P h = all_with_each P (silent_dreps f a) [] h tt

-- two that are in order, each with its own stake, are of different credentials
apart_in_order : (f : Snapshot) (x y : Credential × ℕ) → HasStake f x → HasStake f y → stake_cmp x y ≡ Less → same_credential x.0 y.0 ≡ false
apart_in_order f x y hx hy e =
    elim (same_credential x.0 y.0) as (λ b. same_credential x.0 y.0 ≡ b → b ≡ false) [
      | true ↦ λ t.
          let key : x.0 ≡ y.0 = same_key credential_exact x.0 y.0 t in
          let value : x.1 ≡ y.1 = hx ∙ ap (λ (c : Credential). drep_stake f (drep.Registered c)) key ∙ sym hy in
          let both : x ≡ y = λ i. (key i, value i) in
          let tied : stake_cmp x y ≡ Equal = subst (λ (z : Credential × ℕ). stake_cmp x z ≡ Equal) both (tied_itself stake_total x) in
          cc
      | false ↦ λ t. refl
    ] refl

apart_from_front : (f : Snapshot) (n : ℕ) (x : Credential × ℕ) (ys : List (Credential × ℕ)) → HasStake f x → AllByRecursion (HasStake f) ys → AllByRecursion (λ y. stake_cmp x y ≡ Less) ys
    → AllByRecursion (λ c. same_credential x.0 c ≡ false) (keys_of (take n ys))
apart_from_front f zero x ys hx h l = tt
apart_from_front f (suc n) x [] hx h l = tt
apart_from_front f (suc n) x (y ∷ ys) hx h l = (apart_in_order f x y hx h.0 l.0, apart_from_front f n x ys hx h.1 l.1)

once_front : (f : Snapshot) (n : ℕ) (xs : List (Credential × ℕ)) → AllByRecursion (HasStake f) xs → IsSet stake_cmp xs → IsDistinct same_credential (keys_of (take n xs))
unfolding IsDistinct IsStrictlySortedBy
once_front f zero xs h s = tt
once_front f (suc n) [] h s = tt
once_front f (suc n) (x ∷ xs) h s = (apart_from_front f n x xs h.0 h.1 s.0, once_front f n xs h.1 s.1)

-- a front of them is of silent DReps, each once
front_is_silent : (f : Snapshot) (a : Proposal) (n : ℕ) → AreSilent f a (take n (by_stake f a))
front_is_silent f a n =
    let own : AllByRecursion (Contains (silent_dreps f a)) (silent_dreps f a) = recursion_from_All (Contains (silent_dreps f a)) (silent_dreps f a) (All-contains_itself (silent_dreps f a)) in
    record {
      silent = All-take (Contains (silent_dreps f a)) n (by_stake f a) (All-from_recursion (Contains (silent_dreps f a)) (by_stake f a) (all_by_stake f a (Contains (silent_dreps f a)) own));
      once = once_front f n (by_stake f a) (all_by_stake f a (HasStake f) (each_has f (filter (is_silent a) (active_dreps f)))) (IsSet-in_order stake_total (silent_dreps f a));
    }

all_members : (f : Snapshot) (a : Proposal) (ds : List (Credential × ℕ)) → AllByRecursion (Contains (silent_dreps f a)) ds → AllByRecursion (λ d. has_member stake_cmp (by_stake f a) d ≡ true) ds
all_members f a [] h = tt
all_members f a (d ∷ ds) h =
    (has_member-in_order stake_total (silent_dreps f a) d ∙ list_any-from_Contains (eq_by_cmp_equiv stake_total) d (silent_dreps f a) h.0, all_members f a ds h.1)

-- silent DReps, each once, have no more stake than the front that is as long
at_most : (f : Snapshot) (a : Proposal) (ds : List (Credential × ℕ)) → AreSilent f a ds → IsAtMostFront stake (by_stake f a) ds
at_most f a ds s =
    at_most_front stake_total stake same_stake (by_stake f a) ds (falls (by_stake f a) (IsSet-in_order stake_total (silent_dreps f a))) (distinct_stakes ds s.once)
    (all_members f a ds (recursion_from_All (Contains (silent_dreps f a)) ds s.silent))

-- ---- what suffices

grows : (t : Fraction) (total m n : ℕ) → m ≤ n → reaches m total t ≡ true → reaches n total t ≡ true
grows t total m n l h =
    elim (t.num == 0) as (λ b. (b || (nat_lt 0 total && nat_le (t.num * total) (m * t.den))) ≡ true → (b || (nat_lt 0 total && nat_le (t.num * total) (n * t.den))) ≡ true) [
      | true ↦ λ h. refl
      | false ↦ λ h. elim (nat_lt 0 total) as (λ b. (b && nat_le (t.num * total) (m * t.den)) ≡ true → (b && nat_le (t.num * total) (n * t.den)) ≡ true) [
        | true ↦ λ h.
            let before : t.num * total ≤ m * t.den = leb-true (t.num * total) (m * t.den) h in
            let more : m * t.den ≤ n * t.den = mul-le-mul_right t.den l in
            le-leb (t.num * total) (n * t.den) (omega (arith, before, more))
        | false ↦ λ h. h
      ] h
    ] h

suffice_grows : (t : Fraction) (count : ℕ × ℕ) (xs ys : List (Credential × ℕ)) → stakes_of xs ≤ stakes_of ys → suffice t count xs ≡ true → suffice t count ys ≡ true
suffice_grows t count xs ys l h = grows t count.1 (count.0 + stakes_of xs) (count.0 + stakes_of ys) (omega (arith, l)) h

-- where silent DReps suffice, the front that is as long does
front_suffices : (f : Snapshot) (a : Proposal) (t : Fraction) (ds : List (Credential × ℕ)) → AreSilent f a ds → suffice t (drep_count f a) ds ≡ true
    → suffice t (drep_count f a) (take (length ds) (by_stake f a)) ≡ true
front_suffices f a t ds s h = suffice_grows t (drep_count f a) ds (take (length ds) (by_stake f a)) (at_most f a ds s).most h

-- the first front that suffices is no longer than silent DReps that suffice
no_fewer : (f : Snapshot) (a : Proposal) (t : Fraction) (ds others : List (Credential × ℕ)) → IsFirstFront (suffice t (drep_count f a)) (by_stake f a) 0 (length (by_stake f a) + 1) ds
    → AreSilent f a others → suffice t (drep_count f a) others ≡ true → length ds ≤ length others
no_fewer f a t ds others r s h = ⊎_elim
    (λ (j : length others < r.at).
    let no : suffice t (drep_count f a) (take (length others) (by_stake f a)) ≡ false = r.before (length others) (omega arith) j in
    let yes : suffice t (drep_count f a) (take (length others) (by_stake f a)) ≡ true = front_suffices f a t others s h in
    absurd (false≢true (sym no ∙ yes)))
    (λ (j : r.at ≤ length others). omega (arith, j, ap length r.front, length-take r.at (by_stake f a)))
    (cases_lt (length others) r.at)

fewest : (f : Snapshot) (a : Proposal) (t : Fraction) (ds : List (Credential × ℕ)) → least_front f a t ≡ Some ds → AreFewest f a t ds
fewest f a t ds e =
    let r : IsFirstFront (suffice t (drep_count f a)) (by_stake f a) 0 (length (by_stake f a) + 1) ds = first_front (suffice t (drep_count f a)) (by_stake f a) (length (by_stake f a) + 1) 0 ds e in
    record {
      silent = subst (λ (xs : List (Credential × ℕ)). AreSilent f a xs) r.front (front_is_silent f a r.at);
      reach = r.passes;
      fewest = λ others s h. no_fewer f a t ds others r s h;
    }

none : (f : Snapshot) (a : Proposal) (t : Fraction) → least_front f a t ≡ None → NoneSuffice f a t
none f a t e ds s =
    elim (suffice t (drep_count f a) ds) as (λ b. suffice t (drep_count f a) ds ≡ b → b ≡ false) [
      | true ↦ λ h.
          let within : length ds < 0 + (length (by_stake f a) + 1) = omega (arith, (at_most f a ds s).within) in
          let no : suffice t (drep_count f a) (take (length ds) (by_stake f a)) ≡ false =
          no_front (suffice t (drep_count f a)) (by_stake f a) (length (by_stake f a) + 1) 0 e (length ds) (omega arith) within in
          let yes : suffice t (drep_count f a) (take (length ds) (by_stake f a)) ≡ true = front_suffices f a t ds s h in
          cc
      | false ↦ λ h. refl
    ] refl

-- ---- each answer

right_by : (f : Snapshot) (a : Proposal) (t : Fraction) (o : Option (List (Credential × ℕ))) → least_front f a t ≡ o → threshold_of (need_of_dreps f a) ≡ Some t → IsRight f a (short_by t (drep_count f a) o)
right_by f a t None e h = (h, refl, none f a t e)
right_by f a t (Some ds) e h = (h, refl, fewest f a t ds e, refl)

right_for : (n : Need) (f : Snapshot) (a : Proposal) → need_of_dreps f a ≡ n → IsRight f a (short_for n f a)
right_for need.Never f a e = ap (λ (n : Need). threshold_of n) e
right_for need.Nothing f a e = right_by f a zero_share (least_front f a zero_share) refl (ap (λ (n : Need). threshold_of n) e)
right_for (need.Share t) f a e = right_by f a t (least_front f a t) refl (ap (λ (n : Need). threshold_of n) e)

pub least_is_least : LeastIsLeast
least_is_least f a = right_for (need_of_dreps f a) f a refl
