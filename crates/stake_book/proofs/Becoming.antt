-- The sums over the accounts after one entry has become another.
use Rattle.std.proofs.Common.{◌≡◌, ◌≤◌, List, true, false, cond, Option, Some, None, refl, sym, arith}
use Rattle.std.specs.Option.{option_and_then}
use Rattle.gov_ids.specs.declared.Credential.{Credential}
use Rattle.gov_ids.specs.Orders.{credential_cmp}
use Rattle.book_records.specs.declared.Entry.{Entry}
use Rattle.coin_frac.specs.declared.TheConstants.{SUPPLY_LIMIT}
use Rattle.maps.specs.Maps.{value_at, with_value, without_key}
use Rattle.maps.specs.Words.{amount}
use Rattle.maps.specs.Replaced.{with_option}
use Rattle.accounts.specs.Accounts.{is_nothing, with_entry}
use Rattle.stake_book.specs.Changes.{or_nothing, unless_nothing}
use Rattle.stake_book.specs.Stakes.{whole_entry}
use Rattle.stake_book.specs.Summed.{Summed, AreSummed, CanBecome, HasBecome}
use Rattle.stake_book.specs.Sums.{balance_of, weight_of, share_of, shared_by, weight_in}
use Rattle.stake_book.proofs.Counting.{counted_after, counted_still, has_counted}
use Rattle.stake_book.proofs.Entering.{IsMap-with_entry, nothing_is, before_within, after_within, entered_sum, shared_within, balances_within}

of_option : (o : Option Entry) → or_nothing o ≡ record { stake = amount (λ (e : Entry). e.stake) o; registered = option_and_then (λ (e : Entry). e.registered) o }
of_option None = refl
of_option (Some e) = refl

-- the entry of a credential
pub whole_is : (entries : List (Credential × Entry)) (c : Credential) → or_nothing (value_at credential_cmp entries c) ≡ whole_entry entries c
whole_is entries c = of_option (value_at credential_cmp entries c)

-- an entry, if it is not one without stake and registration
pub nothing_or : (e : Entry) → or_nothing (unless_nothing e) ≡ e
nothing_or e = elim (is_nothing e) as (λ b. is_nothing e ≡ b → or_nothing (cond b None (Some e)) ≡ e) [ true ↦ λ t. sym (nothing_is e t) | false ↦ λ t. refl ] refl

-- the entries with it
pub with_entry_is : (c : Credential) (e : Entry) (entries : List (Credential × Entry)) → with_option credential_cmp c (unless_nothing e) entries ≡ with_entry c e entries
with_entry_is c e entries =
    elim (is_nothing e) as (λ b. with_option credential_cmp c (cond b None (Some e)) entries ≡ cond b (without_key credential_cmp c entries) (with_value credential_cmp c e entries)) [ true ↦ refl | false ↦ refl ]

module _ (s : Summed) (c : Credential) (entries : List (Credential × Entry)) (h : AreSummed s entries) where
  pub can_become : (e : Entry) → weight_in (with_entry c e entries) ≤ SUPPLY_LIMIT → CanBecome (whole_entry entries c) e s
  can_become e w = record {
    held = omega (arith, h.balances, before_within balance_of refl c entries);
    balances = omega (arith, h.balances, h.within, balances_within entries);
    pools = λ p. omega (arith, h.pools p, before_within (share_of p) refl c entries);
    total = omega (arith, h.total, h.within, shared_within entries);
    before_within = omega (arith, h.within, before_within weight_of refl c entries);
    after_within = omega (arith, w, after_within weight_of refl c entries e h.in_order);
    counts = has_counted s.counts c entries h.counts;
  }

  pub summed_after : (e : Entry) (t : Summed) → weight_in (with_entry c e entries) ≤ SUPPLY_LIMIT → HasBecome (whole_entry entries c) e s t → AreSummed t (with_entry c e entries)
  summed_after e t w r = record {
    in_order = IsMap-with_entry c e entries h.in_order;
    within = w;
    balances = omega (arith, h.balances, r.balances, entered_sum balance_of refl c entries e h.in_order);
    pools = λ p. omega (arith, h.pools p, r.pools p, entered_sum (share_of p) refl c entries e h.in_order);
    total = omega (arith, h.total, r.total, entered_sum shared_by refl c entries e h.in_order);
    counts = counted_after s.counts t.counts c e entries h.counts r.counts;
  }

  pub summed_still : (e : Entry) (t : Summed) → HasBecome e e s t → AreSummed t entries
  summed_still e t r = record {
    in_order = h.in_order;
    within = h.within;
    balances = omega (arith, h.balances, r.balances);
    pools = λ p. omega (arith, h.pools p, r.pools p);
    total = omega (arith, h.total, r.total);
    counts = counted_still s.counts t.counts e entries h.counts r.counts;
  }
