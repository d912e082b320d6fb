-- The registrations of the live entries, after a change of one entry.
use Rattle.std.proofs.Common.{◌≡◌, ℕ, ◌+◌, List, [], ◌∷◌, true, false, cond, Option, Some, None, option_map, refl, ap, sym, ◌∙◌, arith}
use Rattle.std.specs.declared.cmp.Ordering.TheVariants.{Less}
use Rattle.std.specs.List.{AllByRecursion, cons_option}
use Rattle.std.specs.List.Sorted.{IsStrictlySortedBy}
use Rattle.std.specs.Map.{keys_of, values_of}
use Rattle.std.specs.Option.{option_and_then}
use Rattle.std.proofs.lemmas.List.Sums.{sum_by-cons}
use Rattle.gov_ids.specs.declared.Credential.{Credential}
use Rattle.gov_ids.specs.Orders.{credential_cmp}
use Rattle.gov_ids.specs.Same.{same_credential}
use Rattle.gov_ids.proofs.Exacts.{credential_exact}
use Rattle.gov_ids.proofs.Totals.{credential_total}
use Rattle.book_records.specs.declared.Entry.{Entry}
use Rattle.book_records.specs.declared.Registered.{Registered}
use Rattle.maps.proofs.Lookups.{none_below, value_at-with_value, value_at-without_key}
use Rattle.maps.proofs.Replaced.{IsMap-with_option, value_at-with_option}
use Rattle.maps.proofs.Same.{map_from_value_at}
use Rattle.maps.proofs.Ties.{is_equal, same_key, all_tied}
use Rattle.maps.specs.Maps.{IsMap, value_at, with_value, without_key, sum_values}
use Rattle.maps.specs.Replaced.{with_option}
use Rattle.accounts.specs.Accounts.{is_nothing, with_entry}
use Rattle.stake_book.specs.Stakes.{registrations, registered_at, balances_in}
use Rattle.stake_book.specs.Sums.{balance_of}
use Rattle.stake_book.proofs.Entering.{nothing_is, IsMap-with_entry}

abbrev registration_of : Option Entry → Option Registered
registration_of x = option_and_then (λ (e : Entry). e.registered) x

all_registrations : (P : Credential → Type 0) (es : List (Credential × Entry)) → AllByRecursion P (keys_of es) → AllByRecursion P (keys_of (registrations es))
all_registrations P [] h = tt
all_registrations P (e ∷ es) h =
    elim e.1.registered as (λ (o : Option Registered). AllByRecursion P (keys_of (cons_option (option_map (λ (r : Registered). (e.0, r)) o) (registrations es)))) [
      | None ↦ all_registrations P es h.1
      | Some r ↦ (h.0, all_registrations P es h.1)
    ]

pub IsMap-registrations : (es : List (Credential × Entry)) → IsMap credential_cmp es → IsMap credential_cmp (registrations es)
unfolding IsStrictlySortedBy
IsMap-registrations [] h = tt
IsMap-registrations (e ∷ es) h =
    elim e.1.registered as (λ (o : Option Registered). IsMap credential_cmp (cons_option (option_map (λ (r : Registered). (e.0, r)) o) (registrations es))) [
      | None ↦ IsMap-registrations es h.1
      | Some r ↦ (all_registrations (λ q. credential_cmp e.0 q ≡ Less) es h.0, IsMap-registrations es h.1)
    ]

pub value_at-registrations : (es : List (Credential × Entry)) (q : Credential) → IsMap credential_cmp es → value_at credential_cmp (registrations es) q ≡ registered_at es q
unfolding IsStrictlySortedBy
value_at-registrations [] q h = refl
value_at-registrations (e ∷ es) q h =
    elim e.1.registered as (λ (o : Option Registered). value_at credential_cmp (cons_option (option_map (λ (r : Registered). (e.0, r)) o) (registrations es)) q
    ≡ cond (same_credential q e.0) o (registered_at es q)) [
      | None ↦
          elim (same_credential q e.0) as (λ b. same_credential q e.0 ≡ b → value_at credential_cmp (registrations es) q ≡ cond b None (registered_at es q)) [
            | true ↦ λ t. none_below credential_cmp q (registrations es) (all_tied credential_total q e.0 (keys_of (registrations es)) (is_equal _ t) (all_registrations (λ q. credential_cmp e.0 q ≡ Less) es h.0))
            | false ↦ λ t. value_at-registrations es q h.1
          ] refl
      | Some r ↦ ap (λ (x : Option Registered). cond (same_credential q e.0) (Some r) x) (value_at-registrations es q h.1)
    ]
    ∙ elim (same_credential q e.0) as (λ b. cond b e.1.registered (registered_at es q) ≡ registration_of (cond b (Some e.1) (value_at credential_cmp es q))) [ true ↦ refl | false ↦ refl ]

pub balances_is : (es : List (Credential × Entry)) → balances_in (registrations es) ≡ sum_values balance_of es
balances_is [] = refl
balances_is (e ∷ es) =
    let rewards : Registered → ℕ = λ r. r.rewards in
    elim e.1.registered as (λ (o : Option Registered). balances_in (cons_option (option_map (λ (r : Registered). (e.0, r)) o) (registrations es)) ≡ balance_of (record { stake = e.1.stake; registered = o }) + sum_values balance_of es) [
      | None ↦ omega (arith, balances_is es)
      | Some r ↦ omega (arith, balances_is es, sum_by-cons (λ (r : Registered). r.rewards) r (values_of (registrations es)))
    ]
    ∙ sym (sum_by-cons balance_of e.1 (values_of es))

registered_at-with_entry : (c : Credential) (e : Entry) (es : List (Credential × Entry)) (q : Credential) → IsMap credential_cmp es → registered_at (with_entry c e es) q ≡ cond (same_credential c q) e.registered (registered_at es q)
registered_at-with_entry c e es q h =
    elim (is_nothing e) as (λ b. is_nothing e ≡ b → registered_at (cond b (without_key credential_cmp c es) (with_value credential_cmp c e es)) q ≡ cond (same_credential c q) e.registered (registered_at es q)) [
      | true ↦ λ t.
          let none : None ≡ e.registered = ap (λ (e : Entry). e.registered) (sym (nothing_is e t)) in
          ap registration_of (value_at-without_key credential_total c es q h)
          ∙ elim (same_credential c q) as (λ b. registration_of (cond b None (value_at credential_cmp es q)) ≡ cond b e.registered (registered_at es q)) [ true ↦ none | false ↦ refl ]
      | false ↦ λ t.
          ap registration_of (value_at-with_value credential_total c e es q)
          ∙ elim (same_credential c q) as (λ b. registration_of (cond b (Some e) (value_at credential_cmp es q)) ≡ cond b e.registered (registered_at es q)) [ true ↦ refl | false ↦ refl ]
    ] refl

pub registrations-with_entry : (c : Credential) (e : Entry) (es : List (Credential × Entry)) → IsMap credential_cmp es → registrations (with_entry c e es) ≡ with_option credential_cmp c e.registered (registrations es)
registrations-with_entry c e es h =
    let after : IsMap credential_cmp (with_entry c e es) = IsMap-with_entry c e es h in
    let before : IsMap credential_cmp (registrations es) = IsMap-registrations es h in
    map_from_value_at credential_total credential_exact _ _ (IsMap-registrations _ after) (IsMap-with_option credential_total c e.registered (registrations es) before) (λ q.
    value_at-registrations (with_entry c e es) q after
    ∙ registered_at-with_entry c e es q h
    ∙ ap (λ (x : Option Registered). cond (same_credential c q) e.registered x) (sym (value_at-registrations es q h))
    ∙ sym (value_at-with_option credential_total c e.registered (registrations es) q before))

-- an entry that keeps its registration
pub registrations-kept : (c : Credential) (n : ℕ) (es : List (Credential × Entry)) → IsMap credential_cmp es → registrations (with_entry c (record { stake = n; registered = registered_at es c }) es) ≡ registrations es
registrations-kept c n es h =
    let e : Entry = record { stake = n; registered = registered_at es c } in
    let after : IsMap credential_cmp (with_entry c e es) = IsMap-with_entry c e es h in
    map_from_value_at credential_total credential_exact _ _ (IsMap-registrations _ after) (IsMap-registrations es h) (λ q.
    value_at-registrations (with_entry c e es) q after
    ∙ registered_at-with_entry c e es q h
    ∙ elim (same_credential c q) as (λ b. same_credential c q ≡ b → cond b (registered_at es c) (registered_at es q) ≡ registered_at es q) [
      | true ↦ λ t. ap (λ (x : Credential). registered_at es x) (same_key credential_exact c q t)
      | false ↦ λ t. refl
    ] refl
    ∙ sym (value_at-registrations es q h))
