-- Entries as a book keeps them count as the entries do.
use Rattle.std.proofs.Common.{◌≡◌, ℕ, ◌+◌, ◌^◌, ◌<◌, ◌==◌, ◌&&◌, Bool, true, false, cond, is_none, is_some, ◌||◌, List, [], ◌∷◌, Option, Some, None, filter, sum_by, refl, ap, sym, ◌∙◌, subst, arith}
use Rattle.std.specs.declared.cmp.Ordering.{Ordering}
use Rattle.std.specs.Cmp.{IsTotalOrder}
use Rattle.std.specs.FinMap.{IsAntisymmetric}
use Rattle.std.specs.List.Sorted.{IsStrictlySortedBy}
use Rattle.std.specs.Map.{keys_of}
use Rattle.std.specs.Option.{option_or}
use Rattle.std.specs.Ordering.{eq_by_cmp}
use Rattle.std.proofs.lemmas.Bool.{and_parts, eqb-true, false≢true}
use Rattle.std.proofs.lemmas.List.{length-map}
use Rattle.std.proofs.lemmas.List.Sums.{sum_by-cons}
use Rattle.std.proofs.lemmas.Map.Keys.{IsDistinct-from_sorted}
use Rattle.accounts.specs.Accounts.{Accounts, is_nothing, with_entry}
use Rattle.coin_frac.specs.Totals.{total_of}
use Rattle.drep_book.specs.Dreps.{Dreps}
use Rattle.book_records.specs.declared.Entry.{Entry}
use Rattle.book_records.specs.declared.Registered.{Registered}
use Rattle.drep_pulser.specs.Count.{Ended}
use Rattle.drep_pulser.specs.Facts.{AreDeposits, AreDreps, HasFrozen, IsCountedOf, held_by}
use Rattle.gov_ids.specs.declared.Credential.{Credential}
use Rattle.gov_ids.specs.declared.Drep.{Drep}
use Rattle.gov_ids.specs.declared.Drep.TheVariants as drep
use Rattle.gov_ids.specs.Orders.{credential_cmp}
use Rattle.gov_ids.proofs.Totals.{credential_total}
use Rattle.gov_model.specs.Snapshot.{Snapshot}
use Rattle.gov_model.specs.Stake.{drep_stake, votes_by, weight_of}
use Rattle.maps.specs.Maps.{IsMap, IsSet, has_key, has_member, sum_values, value_at, with_value, with_values}
use Rattle.maps.specs.Words.{amount}
use Rattle.maps.proofs.Credits.{sum_values-entries}
use Rattle.maps.proofs.Kept.{IsMap-with_values}
use Rattle.maps.proofs.Same.{map_from_value_at}
use Rattle.maps.proofs.Several.{has_key-with_values, value_at-with_values_distinct}
use Rattle.run_model.specs.SoundWorld.{held_by as held_of}
use Rattle.view_map.specs.View.{frozen_of}
use Rattle.snapshot_counts.specs.Kept.{blank_entry, kept_entries, kept_entry, registered}

-- ---- maps

or_none : {X : Type 0} (x : Option X) → option_or x None ≡ x
or_none None = refl
or_none (Some x) = refl

-- entries in order, put in one after another
pub made_of : {K X : Type 0} {cmp : K → K → Ordering} → IsTotalOrder cmp → IsAntisymmetric cmp → (es : List (K × X)) → IsMap cmp es → with_values cmp es [] ≡ es
unfolding IsStrictlySortedBy
made_of {K} {X} {cmp} o exact es h =
    map_from_value_at o exact (with_values cmp es []) es (IsMap-with_values o es [] tt) h (λ q. value_at-with_values_distinct o es [] q (IsDistinct-from_sorted cmp (keys_of es) h) ∙ or_none (value_at cmp es q))

-- a key is among the keys
pub has_key-member : {K X : Type 0} (cmp : K → K → Ordering) (es : List (K × X)) (q : K) → has_key cmp es q ≡ has_member cmp (keys_of es) q
has_key-member cmp [] q = refl
has_key-member {K} {X} cmp (e ∷ es) q =
    elim (eq_by_cmp cmp q e.0) as (λ b. is_some (cond b (Some e.1) (value_at cmp es q)) ≡ (b || has_member cmp (keys_of es) q)) [ true ↦ refl | false ↦ has_key-member cmp es q ]

-- DReps in a book are those that were put in
pub registered_has : (ds : List (Credential × ℕ)) (q : Credential) → has_key credential_cmp ds q ≡ has_key credential_cmp (with_values credential_cmp (registered ds) []) q
registered_has ds q =
    has_key-member credential_cmp ds q
    ∙ ap (λ (ks : List Credential). has_member credential_cmp ks q) (sym (keys_registered ds))
    ∙ sym (has_key-with_values credential_total (registered ds) [] q)
  where
    keys_registered : (ds : List (Credential × ℕ)) → keys_of (registered ds) ≡ keys_of ds
    keys_registered [] = refl
    keys_registered (d ∷ ds) = ap (λ (ks : List Credential). d.0 ∷ ks) (keys_registered ds)

-- ---- entries

abbrev entry_of : ℕ → Option Registered → Entry
entry_of n r = record { stake = n; registered = r }

-- an entry of nothing has no registration, and no stake
nothing_is : (e : Entry) → is_nothing e ≡ true → e ≡ entry_of 0 None
nothing_is e h = by_registered e.stake e.registered h
  where
    by_registered : (n : ℕ) (r : Option Registered) → ((n == 0) && is_none r) ≡ true → entry_of n r ≡ entry_of 0 None
    by_registered n None h = ap (λ (m : ℕ). entry_of m None) (eqb-true n 0 (and_parts (n == 0) true h).0)
    by_registered n (Some r) h = absurd (false≢true (and_parts (n == 0) false h).1)

-- what a book keeps is something
pub never_nothing : (e : Entry) → is_nothing (kept_entry e) ≡ false
never_nothing e = by_kept (is_nothing e) refl
  where
    by_kept : (b : Bool) → is_nothing e ≡ b → is_nothing (cond b blank_entry e) ≡ false
    by_kept true h = refl
    by_kept false h = h

pub put_kept : (c : Credential) (e : Entry) (es : List (Credential × Entry)) → with_entry c (kept_entry e) es ≡ with_value credential_cmp c (kept_entry e) es
put_kept c e es = rw (never_nothing e) refl

pub kept_keys : (es : List (Credential × Entry)) → keys_of (kept_entries es) ≡ keys_of es
kept_keys [] = refl
kept_keys (e ∷ es) = ap (λ (ks : List Credential). e.0 ∷ ks) (kept_keys es)

pub kept_map : (es : List (Credential × Entry)) → IsMap credential_cmp es → IsMap credential_cmp (kept_entries es)
kept_map es h = subst (λ (ks : List Credential). IsSet credential_cmp ks) (sym (kept_keys es)) h

-- ---- what they hold

abbrev holds : Entry → ℕ
holds e = e.stake + amount (λ (r : Registered). r.rewards) e.registered

kept_holds : (e : Entry) → holds (kept_entry e) ≡ holds e
kept_holds e = by_kept (is_nothing e) refl
  where
    by_kept : (b : Bool) → is_nothing e ≡ b → holds (cond b blank_entry e) ≡ holds e
    by_kept true h = ap holds (sym (nothing_is e h))
    by_kept false h = refl

pub kept_held : (es : List (Credential × Entry)) → held_by (kept_entries es) ≡ held_by es
kept_held [] = refl
kept_held (e ∷ es) =
    omega (
      arith,
      kept_holds e.1,
      kept_held es,
      sum_by-cons (λ (x : Credential × Entry). holds x.1) (e.0, kept_entry e.1) (kept_entries es),
      sum_by-cons (λ (x : Credential × Entry). holds x.1) e es,
    )

-- ---- stakes

module _ (s : Snapshot) where
  abbrev pub with_kept : Snapshot
  with_kept = record s { entries = kept_entries s.entries }

  abbrev weighed : List (Credential × Entry) → ℕ
  weighed es = sum_by (weight_of s) es

  -- the weight of those that delegate, one after another
  by_kept : (d : Drep) (e : Credential × Entry) (es : List (Credential × Entry)) (b : Bool) → is_nothing e.1 ≡ b → weighed (filter (votes_by d) (kept_entries es)) ≡ weighed (filter (votes_by d) es)
      → weighed (filter (votes_by d) ((e.0, cond b blank_entry e.1) ∷ kept_entries es)) ≡ weighed (filter (votes_by d) (e ∷ es))
  by_kept d e es true is rest =
      rest ∙ ap (λ (x : Entry). weighed (filter (votes_by d) ((e.0, x) ∷ es))) (sym (nothing_is e.1 is))
  by_kept d e es false is rest =
      elim (votes_by d e) as (λ v. weighed (cond v (e ∷ filter (votes_by d) (kept_entries es)) (filter (votes_by d) (kept_entries es))) ≡ weighed (cond v (e ∷ filter (votes_by d) es) (filter (votes_by d) es))) [
        | true ↦ omega (arith, rest, sum_by-cons (weight_of s) e (filter (votes_by d) (kept_entries es)), sum_by-cons (weight_of s) e (filter (votes_by d) es))
        | false ↦ rest
      ]

  kept_weighed : (d : Drep) (es : List (Credential × Entry)) → weighed (filter (votes_by d) (kept_entries es)) ≡ weighed (filter (votes_by d) es)
  kept_weighed d [] = refl
  kept_weighed d (e ∷ es) = by_kept d e es (is_nothing e.1) refl (kept_weighed d es)

  kept_stake : (d : Drep) → drep_stake with_kept d ≡ drep_stake s d
  kept_stake (drep.Registered c) = ap (λ (n : ℕ). cond (has_key credential_cmp s.dreps c) n 0) (kept_weighed (drep.Registered c) s.entries)
  kept_stake drep.Abstain = kept_weighed drep.Abstain s.entries
  kept_stake drep.NoConfidence = kept_weighed drep.NoConfidence s.entries

  -- a count of the entries as a book keeps them is one of the entries
  pub kept_counted : (c : Ended) → IsCountedOf with_kept c → IsCountedOf s c
  kept_counted c h = record { total = h.total ∙ length-map s.entries _; sums = λ d. h.sums d ∙ kept_stake d }

-- ---- the count

held_is : (es : List (Credential × Entry)) → held_by es ≡ sum_values held_of es
held_is es = sym (sum_values-entries held_of es)

-- a book with these entries has what is frozen of the snapshot, as it keeps it
pub has_frozen : (s : Snapshot) (a : Accounts) (book : Dreps) (deposits : List (Credential × ℕ)) → frozen_of credential_cmp a ≡ kept_entries s.entries → AreDreps s book.dreps → AreDeposits s deposits
    → sum_values held_of s.entries + total_of deposits < 2 ^ 64 → HasFrozen (with_kept s) a book deposits
has_frozen s a book deposits frozen dreps paid room = record {
  entries = sym frozen;
  dreps = dreps;
  deposits = paid;
  room = omega (arith, room, held_is s.entries, kept_held s.entries);
}

-- and room for what it holds
pub kept_room : (es : List (Credential × Entry)) (n : ℕ) → sum_values held_of es + n < 2 ^ 64 → held_by (kept_entries es) + n < 2 ^ 64
kept_room es n room = omega (arith, room, held_is es, kept_held es)
