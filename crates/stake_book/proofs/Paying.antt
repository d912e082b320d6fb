-- What a payment makes of the accounts and of the balances.
use Rattle.std.proofs.Common.{◌≡◌, ℕ, ◌+◌, ◌≤◌, List, true, false, cond, is_some, Option, Some, None, option_map, ap, sym, refl, subst, ◌∙◌, arith}
use Rattle.gov_ids.specs.declared.Credential.{Credential}
use Rattle.gov_ids.specs.Orders.{credential_cmp}
use Rattle.gov_ids.specs.Same.{same_credential}
use Rattle.gov_ids.proofs.Exacts.{credential_exact}
use Rattle.gov_ids.proofs.Totals.{credential_total}
use Rattle.book_records.specs.Outputs.{lovelace_in}
use Rattle.book_records.specs.declared.Registered.{Registered}
use Rattle.coin_frac.specs.declared.TheConstants.{SUPPLY_LIMIT}
use Rattle.maps.proofs.Kept.{IsMap-with_value, IsMap-changed_where}
use Rattle.maps.proofs.Lookups.{value_at-with_value, value_at-changed_at, without_key_absent}
use Rattle.maps.proofs.Placed.{changed_at_absent, value_at_tied}
use Rattle.maps.proofs.Same.{map_from_value_at}
use Rattle.maps.proofs.Sums.{sum_values-with_value, sum_values-without_key}
use Rattle.maps.specs.Maps.{IsMap, value_at, has_key, with_value}
use Rattle.maps.specs.Replaced.{with_option}
use Rattle.accounts.specs.Accounts.{Accounts}
use Rattle.stake_book.specs.Paid.{rewarded, with_payment}
use Rattle.stake_book.specs.Stakes.{Stakes, AreKept, HasRoom, registrations, accounts_of, balances_in, stake_at, registered_at, with_registered, with_account}
use Rattle.stake_book.proofs.Registrations.{value_at-registrations, registrations-with_entry}

module _ (c : Credential) (n : ℕ) (accounts : List (Credential × Registered)) where
  -- an account that is not registered changes nothing
  pub unpaid : None ≡ value_at credential_cmp accounts c → with_payment c n accounts ≡ accounts
  unpaid none = changed_at_absent credential_cmp c (rewarded n) accounts (sym none)

  module _ (r : Registered) (m : IsMap credential_cmp accounts) (there : Some r ≡ value_at credential_cmp accounts c) where
    pub is_registered : has_key credential_cmp accounts c ≡ true
    is_registered = ap (λ (o : Option Registered). is_some o) (sym there)

    -- the registration with the amount more, in its place
    pub paid : with_value credential_cmp c (rewarded n r) accounts ≡ with_payment c n accounts
    paid =
        map_from_value_at credential_total credential_exact _ _ (IsMap-with_value credential_total c (rewarded n r) accounts m)
        (IsMap-changed_where credential_cmp (λ q (x : Registered). same_credential c q) (rewarded n) accounts m)
        (λ q. value_at-with_value credential_total c (rewarded n r) accounts q
        ∙ elim (same_credential c q) as (λ b. same_credential c q ≡ b → cond b (Some (rewarded n r)) (value_at credential_cmp accounts q) ≡ cond b (option_map (rewarded n) (value_at credential_cmp accounts q)) (value_at credential_cmp accounts q)) [
          | true ↦ λ t. ap (λ (o : Option Registered). option_map (rewarded n) o) (there ∙ sym (value_at_tied credential_total c q accounts t))
          | false ↦ λ t. refl
        ] refl
        ∙ sym (value_at-changed_at credential_total c (rewarded n) accounts q))

    -- a balance is at most all balances
    pub balance_within : r.rewards ≤ balances_in accounts
    balance_within = omega (arith, sum_values-without_key (λ (r : Registered). r.rewards) credential_cmp c r accounts (sym there))

    -- all balances with the amount more
    pub balances_paid : balances_in (with_value credential_cmp c (rewarded n r) accounts) ≡ balances_in accounts + n
    balances_paid = omega (arith, sum_values-with_value (λ (r : Registered). r.rewards) credential_cmp credential_total c r (rewarded n r) accounts m (sym there))

-- the accounts with the registration that a payment leaves
pub paid_all : (c : Credential) (n : ℕ) (accounts : List (Credential × Registered)) → IsMap credential_cmp accounts → with_option credential_cmp c (option_map (rewarded n) (value_at credential_cmp accounts c)) accounts ≡ with_payment c n accounts
paid_all c n accounts m =
    elim (value_at credential_cmp accounts c) as (λ (o : Option Registered). o ≡ value_at credential_cmp accounts c → with_option credential_cmp c (option_map (rewarded n) o) accounts ≡ with_payment c n accounts) [
      | None ↦ λ none. without_key_absent credential_cmp c accounts (sym none) ∙ sym (unpaid c n accounts none)
      | Some r ↦ λ there. paid c n accounts r m there
    ] refl

-- the room that is asked for is the book's after the change
pub room_is : (c : Credential) (to : Option Registered) (s : Stakes) → IsMap credential_cmp s.accounts.live → lovelace_in s.outputs.outputs + balances_in (with_option credential_cmp c to (accounts_of s)) ≤ SUPPLY_LIMIT → HasRoom 0 (with_account c to s)
room_is c to s live room =
    omega (arith, room, ap (λ (accounts : List (Credential × Registered)). balances_in accounts) (registrations-with_entry c (record { stake = stake_at s.accounts.live c; registered = to }) s.accounts.live live))

module _ (c : Credential) (n : ℕ) (s : Stakes) (k : AreKept s) (room : has_key credential_cmp (accounts_of s) c ≡ true → HasRoom n s) where
  balances_within : lovelace_in s.outputs.outputs + balances_in (with_option credential_cmp c (option_map (rewarded n) (value_at credential_cmp (accounts_of s) c)) (accounts_of s)) ≤ SUPPLY_LIMIT
  balances_within =
      let accounts : List (Credential × Registered) = accounts_of s in
      elim (value_at credential_cmp accounts c) as (λ (o : Option Registered). o ≡ value_at credential_cmp accounts c → lovelace_in s.outputs.outputs + balances_in (with_option credential_cmp c (option_map (rewarded n) o) accounts) ≤ SUPPLY_LIMIT) [
        | None ↦ λ none. omega (arith, k.room, ap (λ (accounts : List (Credential × Registered)). balances_in accounts) (without_key_absent credential_cmp c accounts (sym none)))
        | Some r ↦ λ there. let more : HasRoom n s = room (is_registered c n accounts r k.in_order there) in omega (arith, more, balances_paid c n accounts r k.in_order there)
      ] refl

  -- a payment leaves room
  pub pay_room : HasRoom 0 (with_account c (option_map (rewarded n) (registered_at s.accounts.live c)) s)
  pay_room =
      subst (λ (o : Option Registered). HasRoom 0 (with_account c (option_map (rewarded n) o) s)) (value_at-registrations s.accounts.live c k.live)
      (room_is c (option_map (rewarded n) (value_at credential_cmp (accounts_of s) c)) s k.live balances_within)

  -- and makes of the accounts what it should
  pub pay_makes : (a : Accounts) → a ≡ with_registered c (option_map (rewarded n) (registered_at s.accounts.live c)) s.accounts → registrations a.live ≡ with_payment c n (accounts_of s)
  pay_makes a is =
      ap (λ (a : Accounts). registrations a.live) is
      ∙ registrations-with_entry c (record { stake = stake_at s.accounts.live c; registered = option_map (rewarded n) (registered_at s.accounts.live c) }) s.accounts.live k.live
      ∙ ap (λ (o : Option Registered). with_option credential_cmp c (option_map (rewarded n) o) (accounts_of s)) (sym (value_at-registrations s.accounts.live c k.live))
      ∙ paid_all c n (accounts_of s) k.in_order
