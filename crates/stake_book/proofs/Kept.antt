-- That a book is kept, after a change of one entry.
use Rattle.std.proofs.Common.{◌≡◌, ℕ, ◌+◌, ◌≤◌, List, true, false, cond, Option, Some, None, refl, ap, sym, ◌∙◌, arith}
use Rattle.std.specs.List.{All}
use Rattle.std.specs.Map.{values_of}
use Rattle.std.specs.BTreeMap.{is_at}
use Rattle.std.proofs.lemmas.Cmp.{eq_by_cmp_equiv}
use Rattle.std.proofs.lemmas.Map.Views.{All-map-remove_entry, All-values-insert_entry}
use Rattle.gov_ids.specs.declared.Credential.{Credential}
use Rattle.gov_ids.specs.declared.OutRef.{OutRef}
use Rattle.gov_ids.specs.Orders.{credential_cmp}
use Rattle.gov_ids.specs.Same.{same_credential}
use Rattle.gov_ids.proofs.Exacts.{credential_exact}
use Rattle.gov_ids.proofs.Totals.{credential_total}
use Rattle.book_records.specs.declared.Entry.{Entry}
use Rattle.book_records.specs.declared.Output.{Output}
use Rattle.book_records.specs.declared.Registered.{Registered}
use Rattle.book_records.specs.Outputs.{lovelace_in}
use Rattle.coin_frac.specs.declared.TheConstants.{SUPPLY_LIMIT}
use Rattle.maps.proofs.Lookups.{value_at-with_value, value_at-without_key}
use Rattle.maps.proofs.Ties.{same_key}
use Rattle.maps.specs.Maps.{IsMap, value_at, with_value, without_key}
use Rattle.maps.specs.Words.{amount, holds}
use Rattle.utxo_set.specs.Utxos.{Utxos}
use Rattle.accounts.specs.Accounts.{Accounts, is_nothing, with_entry, entered}
use Rattle.stake_book.specs.Stakes.{AreKept, HasRoom, registrations, balances_in, stake_held, stake_at, registered_at, with_stake, with_registered}
use Rattle.stake_book.proofs.Entering.{nothing_is, IsMap-with_entry}
use Rattle.stake_book.proofs.Registrations.{IsMap-registrations, registrations-kept}

abbrev stake_of : Option Entry → ℕ
stake_of x = amount (λ (e : Entry). e.stake) x

stake_at-with_entry : (c : Credential) (e : Entry) (entries : List (Credential × Entry)) (q : Credential) → IsMap credential_cmp entries → stake_at (with_entry c e entries) q ≡ cond (same_credential c q) e.stake (stake_at entries q)
stake_at-with_entry c e entries q h =
    elim (is_nothing e) as (λ b. is_nothing e ≡ b → stake_at (cond b (without_key credential_cmp c entries) (with_value credential_cmp c e entries)) q ≡ cond (same_credential c q) e.stake (stake_at entries q)) [
      | true ↦ λ t.
          let none : 0 ≡ e.stake = ap (λ (e : Entry). e.stake) (sym (nothing_is e t)) in
          ap stake_of (value_at-without_key credential_total c entries q h)
          ∙ elim (same_credential c q) as (λ b. stake_of (cond b None (value_at credential_cmp entries q)) ≡ cond b e.stake (stake_at entries q)) [ true ↦ none | false ↦ refl ]
      | false ↦ λ t.
          ap stake_of (value_at-with_value credential_total c e entries q)
          ∙ elim (same_credential c q) as (λ b. stake_of (cond b (Some e) (value_at credential_cmp entries q)) ≡ cond b e.stake (stake_at entries q)) [ true ↦ refl | false ↦ refl ]
    ] refl

entries-with_entry : (c : Credential) (e : Entry) (entries : List (Credential × Entry)) → All (λ e. is_nothing e ≡ false) (values_of entries) → All (λ e. is_nothing e ≡ false) (values_of (with_entry c e entries))
entries-with_entry c e entries h =
    elim (is_nothing e) as (λ b. is_nothing e ≡ b → All (λ e. is_nothing e ≡ false) (values_of (cond b (without_key credential_cmp c entries) (with_value credential_cmp c e entries)))) [
      | true ↦ λ t. All-map-remove_entry (is_at (credential_cmp c)) (λ (p : Credential × Entry). p.1) (λ (e : Entry). is_nothing e ≡ false) entries h
      | false ↦ λ t. All-values-insert_entry credential_cmp c e (λ (e : Entry). is_nothing e ≡ false) entries h t
    ] refl

-- what the change of the outputs was for each credential: some gained or lost for the stake part
abbrev pub HasMoved : Option Credential → ℕ → ℕ → List (OutRef × Output) → List (OutRef × Output) → Type 0
HasMoved part gained lost before after = (q : Credential) → stake_held after q + cond (holds same_credential part q) lost 0 ≡ stake_held before q + cond (holds same_credential part q) gained 0

pub itself : (c : Credential) → same_credential c c ≡ true
itself c = (eq_by_cmp_equiv credential_total).refl c

pub restaked : (part : Option Credential) (f stake : Credential → ℕ) (a : Accounts) → ((c : Credential) → part ≡ Some c → f c ≡ stake c) → with_stake part f a ≡ with_stake part stake a
restaked None f stake a same = refl
restaked (Some c) f stake a same = ap (λ (n : ℕ). entered c (record { stake = n; registered = registered_at a.live c }) a) (same c refl)

pub registrations_kept : (part : Option Credential) (stake : Credential → ℕ) (a : Accounts) → IsMap credential_cmp a.live → registrations (with_stake part stake a).live ≡ registrations a.live
registrations_kept None stake a h = refl
registrations_kept (Some c) stake a h = registrations-kept c (stake c) a.live h

stakes_kept : (part : Option Credential) (gained lost : ℕ) (before after : List (OutRef × Output)) (a : Accounts) → IsMap credential_cmp a.live → ((c : Credential) → stake_at a.live c ≡ stake_held before c) → HasMoved part gained lost before after
    → (q : Credential) → stake_at (with_stake part (stake_held after) a).live q ≡ stake_held after q
stakes_kept None gained lost before after a h k m q = omega (arith, k q, m q)
stakes_kept (Some c) gained lost before after a h k m q =
    let here : stake_held after q + cond (same_credential c q) lost 0 ≡ stake_held before q + cond (same_credential c q) gained 0 = m q in
    stake_at-with_entry c (record { stake = stake_held after c; registered = registered_at a.live c }) a.live q h
    ∙ elim (same_credential c q) as (λ b. same_credential c q ≡ b → stake_held after q + cond b lost 0 ≡ stake_held before q + cond b gained 0 → cond b (stake_held after c) (stake_at a.live q) ≡ stake_held after q) [
      | true ↦ λ t here. ap (λ x. stake_held after x) (same_key credential_exact c q t)
      | false ↦ λ t here. omega (arith, k q, here)
    ] refl here

entries_kept : (part : Option Credential) (stake : Credential → ℕ) (a : Accounts) → All (λ e. is_nothing e ≡ false) (values_of a.live) → All (λ e. is_nothing e ≡ false) (values_of (with_stake part stake a).live)
entries_kept None stake a h = h
entries_kept (Some c) stake a h = entries-with_entry c (record { stake = stake c; registered = registered_at a.live c }) a.live h

live_kept : (part : Option Credential) (stake : Credential → ℕ) (a : Accounts) → IsMap credential_cmp a.live → IsMap credential_cmp (with_stake part stake a).live
live_kept None stake a h = h
live_kept (Some c) stake a h = IsMap-with_entry c (record { stake = stake c; registered = registered_at a.live c }) a.live h

pub stake_kept : (part : Option Credential) (gained lost : ℕ) (before after : Utxos) (a : Accounts) → AreKept (record { outputs = before; accounts = a }) → HasMoved part gained lost before.outputs after.outputs
    → lovelace_in after.outputs + balances_in (registrations a.live) ≤ SUPPLY_LIMIT → AreKept (record { outputs = after; accounts = with_stake part (stake_held after.outputs) a })
stake_kept part gained lost before after a k m w =
    let live : IsMap credential_cmp (with_stake part (stake_held after.outputs) a).live = live_kept part (stake_held after.outputs) a k.live in
    let same : balances_in (registrations (with_stake part (stake_held after.outputs) a).live) ≡ balances_in (registrations a.live) =
    ap (λ (rs : List (Credential × Registered)). balances_in rs) (registrations_kept part (stake_held after.outputs) a k.live) in
    record {
      stakes = stakes_kept part gained lost before.outputs after.outputs a k.live k.stakes m;
      entries = entries_kept part (stake_held after.outputs) a k.entries;
      live = live;
      in_order = IsMap-registrations _ live;
      room = omega (arith, same, w);
    }

pub registration_kept : (c : Credential) (to : Option Registered) (outputs : Utxos) (a : Accounts) → AreKept (record { outputs = outputs; accounts = a })
    → HasRoom 0 (record { outputs = outputs; accounts = with_registered c to a }) → AreKept (record { outputs = outputs; accounts = with_registered c to a })
registration_kept c to outputs a k w =
    let e : Entry = record { stake = stake_at a.live c; registered = to } in
    let live : IsMap credential_cmp (with_entry c e a.live) = IsMap-with_entry c e a.live k.live in
    record {
      stakes = λ q.
          stake_at-with_entry c e a.live q k.live
          ∙ elim (same_credential c q) as (λ b. same_credential c q ≡ b → cond b (stake_at a.live c) (stake_at a.live q) ≡ stake_at a.live q) [
            | true ↦ λ t. ap (λ x. stake_at a.live x) (same_key credential_exact c q t)
            | false ↦ λ t. refl
          ] refl
          ∙ k.stakes q;
      entries = entries-with_entry c e a.live k.entries;
      live = live;
      in_order = IsMap-registrations _ live;
      room = w;
    }
