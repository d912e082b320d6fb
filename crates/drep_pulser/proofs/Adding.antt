-- A part with the weight of the entries that a worker has passed.
use Rattle.std.proofs.Common.{Bor, ◌≡◌, ℕ, ◌+◌, ◌^◌, ◌<◌, ◌≤◌, List, [], ◌∷◌, Bool, true, false, cond, not, ◌&&◌, filter, length, Option, Some, None, option_map, sum_by, refl, ap, sym, ◌∙◌, arith}
use Rattle.std.specs.declared.cmp.Ordering.TheVariants.{Less, Equal, Greater}
use Rattle.std.specs.Ordering.{is_lt}
use Rattle.std.specs.List.{AllByRecursion}
use Rattle.std.specs.Option.{option_copied}
use Rattle.std.specs.List.Sorted.{IsStrictlySortedBy}
use Rattle.std.specs.Map.{keys_of}
use Rattle.std.proofs.lemmas.Cmp.{eq_by_cmp_equiv}
use Rattle.std.proofs.lemmas.List.{length-map}
use Rattle.std.proofs.lemmas.List.Elements.{filter_agree}
use Rattle.std.proofs.lemmas.List.Sums.{sum_by-cons}
use Rattle.gov_ids.specs.declared.Credential.{Credential}
use Rattle.gov_ids.specs.declared.Drep.{Drep}
use Rattle.gov_ids.specs.Orders.{credential_cmp, drep_cmp}
use Rattle.gov_ids.specs.Same.{same_drep}
use Rattle.gov_ids.proofs.Totals.{credential_total, drep_total}
use Rattle.book_records.specs.declared.Entry.{Entry}
use Rattle.maps.proofs.Kept.{IsMap-filter}
use Rattle.maps.proofs.Ties.{all_above}
use Rattle.maps.specs.Maps.{IsMap, comes_past, has_key}
use Rattle.maps.specs.Words.{holds}
use Rattle.snapshots.specs.of_gov_model.Stake.{votes_by}
use Rattle.view_map.specs.Walk.{entries_past}
use Rattle.drep_pulser.specs.Count.{Count, sum_for}
use Rattle.drep_pulser.specs.Facts.{AreSums, IsCountable, weight_by}
use Rattle.drep_pulser.specs.Parts.{by_drep, entries_between, entries_left, is_beyond, no_part}
use Rattle.drep_pulser.specs.Visits.{drep_of, with_more}
use Rattle.drep_pulser.proofs.Covered.{filtered_le, weighed}
use Rattle.drep_pulser.proofs.Kept.{more_sums, votes_is}
use Rattle.drep_pulser.proofs.Parted.{nothing_in, same_keys}
use Rattle.drep_pulser.proofs.Walking.{copied_is}

-- the entries up to a last one
abbrev pub up_to : Option Credential → List (Credential × Entry) → List (Credential × Entry)
up_to until es = filter (λ (e : Credential × Entry). not (is_beyond until e.0)) es

-- once one comes past the last one, all behind it do
all_beyond : (last : Credential) (es : List (Credential × Entry)) → AllByRecursion (λ q. credential_cmp last q ≡ Less) (keys_of es) → up_to (Some last) es ≡ []
all_beyond last [] h = refl
all_beyond last (e ∷ es) h = ap (λ r. cond (not (is_lt r)) (e ∷ up_to (Some last) es) (up_to (Some last) es)) h.0 ∙ all_beyond last es h.1

pub none_up_to : (until : Option Credential) (e : Credential × Entry) (es : List (Credential × Entry)) → IsMap credential_cmp (e ∷ es) → is_beyond until e.0 ≡ true → up_to until (e ∷ es) ≡ []
unfolding IsStrictlySortedBy
none_up_to None e es h p = cc
none_up_to (Some last) e es h p =
    let less : credential_cmp last e.0 ≡ Less = elim (credential_cmp last e.0) as (λ r. is_lt r ≡ true → r ≡ Less) [ Less ↦ λ q. refl | Equal ↦ λ q. cc | Greater ↦ λ q. cc ] p in
    all_beyond last (e ∷ es) (less, all_above credential_total last e.0 (keys_of es) less h.0)

filter_filter : {X : Type 0} (p q : X → Bool) (xs : List X) → filter p (filter q xs) ≡ filter (λ x. q x && p x) xs
filter_filter p q [] = refl
filter_filter {X} p q (x ∷ xs) =
    elim (q x) as (λ b. filter p (cond b (x ∷ filter q xs) (filter q xs)) ≡ cond (b && p x) (x ∷ filter (λ x. q x && p x) xs) (filter (λ x. q x && p x) xs)) [
      | true ↦ ap (λ (l : List X). cond (p x) (x ∷ l) l) (filter_filter p q xs)
      | false ↦ filter_filter p q xs
    ]

regrouped : (a b p q : Bool) → q ≡ (a && b) → (q && p) ≡ (a && (b && p))
regrouped true b p q e = ap (λ b. b && p) e
regrouped false b p q e = ap (λ b. b && p) e

-- what is past both, up to the last one
between_is : (from cursor after until : Option Credential) (es : List (Credential × Entry))
    → ((c : Credential) → comes_past credential_cmp from c ≡ (comes_past credential_cmp cursor c && comes_past credential_cmp after c))
    → up_to until (entries_past credential_cmp from es) ≡ entries_between after until (entries_past credential_cmp cursor es)
between_is from cursor after until es both =
    filter_filter (λ (e : Credential × Entry). not (is_beyond until e.0)) (λ (e : Credential × Entry). comes_past credential_cmp from e.0) es
    ∙ filter_agree _ _ (λ (e : Credential × Entry). regrouped (comes_past credential_cmp cursor e.0) (comes_past credential_cmp after e.0) (not (is_beyond until e.0)) (comes_past credential_cmp from e.0) (both e.0)) es
    ∙ sym (filter_filter (λ (e : Credential × Entry). comes_past credential_cmp after e.0 && not (is_beyond until e.0)) (λ (e : Credential × Entry). comes_past credential_cmp cursor e.0) es)

-- what a worker walks over, up to its last one, is its range of what is left
pub walked : (cursor after until later : Option Credential) (c : Count) (r : Option (Bor Credential)) (es all : List (Credential × Entry)) → cursor ≡ c.cursor → option_copied r ≡ later → all ≡ entries_past credential_cmp (option_map (λ k. k.now) r) es
    → ((q : Credential) → comes_past credential_cmp later q ≡ (comes_past credential_cmp cursor q && comes_past credential_cmp after q))
    → up_to until all ≡ entries_between after until (entries_left c es)
walked cursor after until later c r es all same from is both =
    ap (λ (l : List (Credential × Entry)). up_to until l) (is ∙ ap (λ (k : Option Credential). entries_past credential_cmp k es) (sym (copied_is r) ∙ from))
    ∙ between_is later cursor after until es both
    ∙ ap (λ (k : Option Credential). entries_between after until (entries_past credential_cmp k es)) same

module _ (sums : List (Drep × ℕ)) (deposits : List (Credential × ℕ)) where
  -- the stake of a DRep that has a sum, among these entries
  abbrev pub stake_in : List (Credential × Entry) → Drep → ℕ
  stake_in es d = cond (has_key drep_cmp sums d) (sum_by (weight_by deposits) (filter (votes_by d) es)) 0

  -- the sum of each DRep in a part with its stake among the entries that are left to come is that among all
  abbrev pub AreOnTheWay : Option Credential → List (Credential × Entry) → List (Credential × Entry) → List ℕ → Type 0
  AreOnTheWay until all left part = (d : Drep) → sum_for (by_drep sums part) d + stake_in (up_to until left) d ≡ stake_in (up_to until all) d

  first : (e : Credential × Entry) (es : List (Credential × Entry)) (d : Drep)
      → sum_by (weight_by deposits) (filter (votes_by d) (e ∷ es)) ≡ cond (holds same_drep (drep_of e.1) d) (weight_by deposits e) 0 + sum_by (weight_by deposits) (filter (votes_by d) es)
  first e es d =
      ap (λ b. sum_by (weight_by deposits) (cond b (e ∷ filter (votes_by d) es) (filter (votes_by d) es))) (votes_is d e)
      ∙ elim (holds same_drep (drep_of e.1) d) as (λ b. sum_by (weight_by deposits) (cond b (e ∷ filter (votes_by d) es) (filter (votes_by d) es)) ≡ cond b (weight_by deposits e) 0 + sum_by (weight_by deposits) (filter (votes_by d) es)) [
        | true ↦ sum_by-cons (weight_by deposits) e (filter (votes_by d) es)
        | false ↦ omega arith
      ]

  taken : (b : Bool) (s w rest front all : ℕ) → front ≡ w + rest → s + cond b front 0 ≡ cond b all 0 → cond b (s + w) 0 + cond b rest 0 ≡ cond b all 0
  taken true s w rest front all p q = omega arith
  taken false s w rest front all p q = refl

  fits : (b : Bool) (s w rest front all most : ℕ) → front ≡ w + rest → s + cond b front 0 ≡ cond b all 0 → all ≤ most → w ≤ most → s + w ≤ most
  fits true s w rest front all most p q m n = omega arith
  fits false s w rest front all most p q m n = omega arith

  -- a part during its worker's scan: these are left of the entries past its first bound
  pub record IsOnTheWay (until : Option Credential) (es all left : List (Credential × Entry)) (part : List ℕ) : Type 0 where
    pub long : length part ≡ length sums
    pub way : AreOnTheWay until all left part
    pub ordered : IsMap credential_cmp left
    pub light : sum_by (weight_by deposits) left ≤ sum_by (weight_by deposits) es
    pub within : (d : Drep) → sum_by (weight_by deposits) (filter (votes_by d) (up_to until all)) ≤ sum_by (weight_by deposits) es

  within_all : (from until : Option Credential) (es : List (Credential × Entry)) (d : Drep) → sum_by (weight_by deposits) (filter (votes_by d) (up_to until (entries_past credential_cmp from es))) ≤ sum_by (weight_by deposits) es
  within_all from until es d =
      omega (
        arith,
        filtered_le (weight_by deposits) (votes_by d) (up_to until (entries_past credential_cmp from es)),
        filtered_le (weight_by deposits) (λ e. not (is_beyond until e.0)) (entries_past credential_cmp from es),
        filtered_le (weight_by deposits) (λ e. comes_past credential_cmp from e.0) es,
      )

  pub sets_out : (from until : Option Credential) (es : List (Credential × Entry)) → IsMap credential_cmp es → IsOnTheWay until es (entries_past credential_cmp from es) (entries_past credential_cmp from es) (no_part sums)
  sets_out from until es ordered = record {
    long = length-map sums (λ (s : Drep × ℕ). 0);
    way = λ d. omega (arith, nothing_in sums d);
    ordered = IsMap-filter credential_cmp (λ e. comes_past credential_cmp from e.0) es ordered;
    light = filtered_le (weight_by deposits) (λ e. comes_past credential_cmp from e.0) es;
    within = within_all from until es;
  }

  module _ (until : Option Credential) (es all : List (Credential × Entry)) (e : Credential × Entry) (rest : List (Credential × Entry)) (part : List ℕ) (on : IsOnTheWay until es all (e ∷ rest) part) where
    module _ (near : is_beyond until e.0 ≡ false) where
      came : (d : Drep) → sum_for (by_drep sums part) d + stake_in (e ∷ up_to until rest) d ≡ stake_in (up_to until all) d
      came d = ap (λ b. sum_for (by_drep sums part) d + stake_in (cond (not b) (e ∷ up_to until rest) (up_to until rest)) d) (sym near) ∙ on.way d

      pub goes_on : (after : List ℕ) → length after ≡ length part → by_drep sums after ≡ with_more (drep_of e.1) (weight_by deposits e) (by_drep sums part) → IsOnTheWay until es all rest after
      unfolding IsStrictlySortedBy
      goes_on after long is = record {
        long = long ∙ on.long;
        way = λ d.
            let w = weight_by deposits e in
            let more : sum_for (by_drep sums after) d ≡ cond (has_key drep_cmp sums d) (sum_for (by_drep sums part) d + cond (holds same_drep (drep_of e.1) d) w 0) 0 =
            ap (λ (s : List (Drep × ℕ)). sum_for s d) is
            ∙ more_sums (drep_of e.1) w (by_drep sums part) d
            ∙ ap (λ b. cond b (sum_for (by_drep sums part) d + cond (holds same_drep (drep_of e.1) d) w 0) 0) (same_keys sums part d on.long) in
            ap (λ n. n + stake_in (up_to until rest) d) more ∙ taken (has_key drep_cmp sums d) _ _ _ _ _ (first e (up_to until rest) d) (came d);
        ordered = on.ordered.1;
        light = omega (arith, on.light, sum_by-cons (weight_by deposits) e rest);
        within = on.within;
      }

      module _ (countable : IsCountable es deposits) where
        pub weight_has_room : weight_by deposits e < 2 ^ 64
        weight_has_room = omega (arith, on.light, sum_by-cons (weight_by deposits) e rest, weighed es deposits countable)

        pub sum_has_room : (d : Drep) → drep_of e.1 ≡ Some d → sum_for (by_drep sums part) d + weight_by deposits e < 2 ^ 64
        sum_has_room d is =
            let own : cond (holds same_drep (drep_of e.1) d) (weight_by deposits e) 0 ≡ weight_by deposits e =
            ap (λ (o : Option Drep). cond (holds same_drep o d) (weight_by deposits e) 0) is ∙ ap (λ b. cond b (weight_by deposits e) 0) ((eq_by_cmp_equiv drep_total).refl d) in
            let front = first e (up_to until rest) d ∙ ap (λ n. n + sum_by (weight_by deposits) (filter (votes_by d) (up_to until rest))) own in
            let light : weight_by deposits e ≤ sum_by (weight_by deposits) es = omega (arith, on.light, sum_by-cons (weight_by deposits) e rest) in
            omega (arith, fits (has_key drep_cmp sums d) _ _ _ _ _ _ front (came d) (on.within d) light, weighed es deposits countable)

    pub stops : is_beyond until e.0 ≡ true → up_to until (e ∷ rest) ≡ []
    stops = none_up_to until e rest on.ordered

  no_stake : (d : Drep) → stake_in [] d ≡ 0
  no_stake d = elim (has_key drep_cmp sums d) as (λ b. ◌≡◌ {A = ℕ} (cond b 0 0) 0) [ true ↦ refl | false ↦ refl ]

  -- nothing is left up to the last one
  pub arrives : (until : Option Credential) (es all left chosen : List (Credential × Entry)) (part : List ℕ) → IsOnTheWay until es all left part → up_to until left ≡ [] → up_to until all ≡ chosen → AreSums chosen deposits (by_drep sums part)
  arrives until es all left chosen part on none is d =
      let end : sum_for (by_drep sums part) d ≡ stake_in (up_to until all) d = omega (arith, on.way d, ap (λ (l : List (Credential × Entry)). stake_in l d) none, no_stake d) in
      end
      ∙ ap (λ (l : List (Credential × Entry)). stake_in l d) is
      ∙ ap (λ b. cond b (sum_by (weight_by deposits) (filter (votes_by d) chosen)) 0) (sym (same_keys sums part d on.long))
