-- What the first of some payments does, and what the others then do.
use Rattle.std.proofs.Common.{◌≡◌, ℕ, ◌+◌, List, [], ◌∷◌, Bool, true, false, cond, filter, is_some, Option, Some, None, option_map, sum_by, ap, refl, ◌∙◌, arith}
use Rattle.std.proofs.lemmas.List.Sums.{sum_by-cons}
use Rattle.gov_ids.specs.declared.Credential.{Credential}
use Rattle.gov_ids.specs.Orders.{credential_cmp}
use Rattle.gov_ids.specs.Same.{same_credential}
use Rattle.gov_ids.proofs.Totals.{credential_total}
use Rattle.book_records.specs.declared.Registered.{Registered}
use Rattle.maps.proofs.Credits.{sum-parted}
use Rattle.maps.proofs.Lookups.{value_at-changed_at}
use Rattle.maps.proofs.Placed.{changed_at_absent}
use Rattle.maps.proofs.Sums.{sum_values-changed_at}
use Rattle.maps.specs.Maps.{IsMap, value_at, has_key}
use Rattle.stake_book.specs.Paid.{rewarded, with_payment}
use Rattle.book_records.specs.Outputs.{lovelace_in}
use Rattle.utxo_set.specs.Utxos.{Utxos}
use Rattle.stake_book.specs.Stakes.{Stakes, HasRoom, accounts_of, balances_in}
use Rattle.payments.specs.Amounts.{accounts_credited, all_amounts, claimed_of, unclaimed_of}

abbrev amount_of : Credential × ℕ → ℕ
amount_of p = p.1

-- none pays nothing
pub none_credited : (accounts : List (Credential × Registered)) → accounts_credited [] accounts ≡ accounts
none_credited [] = refl
none_credited (e ∷ es) =
    let same : e.1.rewards + sum_by amount_of [] ≡ e.1.rewards = omega arith in
    λ i. (e.0, record e.1 { rewards = same i }) ∷ none_credited es i

one_credited : (b : Bool) (p : Credential × ℕ) (rest : List (Credential × ℕ)) (r : Registered)
    → ◌≡◌ {A = Registered} (record r { rewards = r.rewards + sum_by amount_of (cond b (p ∷ rest) rest) })
    (record (cond b (rewarded p.1 r) r) { rewards = (cond b (rewarded p.1 r) r).rewards + sum_by amount_of rest })
one_credited true p rest r =
    let same : r.rewards + sum_by amount_of (p ∷ rest) ≡ r.rewards + p.1 + sum_by amount_of rest = omega (arith, sum_by-cons amount_of p rest) in
    λ i. record r { rewards = same i }
one_credited false p rest r = refl

-- the first is paid, and then the others
pub first_credited : (p : Credential × ℕ) (ps : List (Credential × ℕ)) (accounts : List (Credential × Registered))
    → accounts_credited (p ∷ ps) accounts ≡ accounts_credited ps (with_payment p.0 p.1 accounts)
first_credited p ps [] = refl
first_credited p ps (e ∷ es) =
    λ i. (e.0, one_credited (same_credential p.0 e.0) p (filter (λ q. same_credential q.0 e.0) ps) e.1 i) ∷ first_credited p ps es i

-- a payment registers nobody
same_keys : (c : Credential) (n : ℕ) (accounts : List (Credential × Registered)) (q : Credential) → has_key credential_cmp (with_payment c n accounts) q ≡ has_key credential_cmp accounts q
same_keys c n accounts q =
    ap (λ (o : Option Registered). is_some o) (value_at-changed_at credential_total c (rewarded n) accounts q)
    ∙ elim (same_credential c q) as (λ b. is_some (cond b (option_map (rewarded n) (value_at credential_cmp accounts q)) (value_at credential_cmp accounts q)) ≡ has_key credential_cmp accounts q) [
      | true ↦ elim (value_at credential_cmp accounts q) as (λ (o : Option Registered). is_some (option_map (rewarded n) o) ≡ is_some o) [ None ↦ refl | Some r ↦ refl ]
      | false ↦ refl
    ]

pub same_claims : (c : Credential) (n : ℕ) (accounts : List (Credential × Registered)) (ps : List (Credential × ℕ)) → claimed_of (with_payment c n accounts) ps ≡ claimed_of accounts ps
same_claims c n accounts ps = λ i. sum_by amount_of (filter (λ p. same_keys c n accounts p.0 i) ps)

-- what is paid to the first, and to the others
pub first_claimed : (accounts : List (Credential × Registered)) (p : Credential × ℕ) (ps : List (Credential × ℕ))
    → claimed_of accounts (p ∷ ps) ≡ cond (has_key credential_cmp accounts p.0) p.1 0 + claimed_of accounts ps
first_claimed accounts p ps =
    let rest : List (Credential × ℕ) = filter (λ q. has_key credential_cmp accounts q.0) ps in
    elim (has_key credential_cmp accounts p.0) as (λ b. sum_by amount_of (cond b (p ∷ rest) rest) ≡ cond b p.1 0 + sum_by amount_of rest) [
      | true ↦ sum_by-cons amount_of p rest
      | false ↦ omega arith
    ]

-- the balances have what is paid
pub balances_after : (c : Credential) (n : ℕ) (accounts : List (Credential × Registered)) → IsMap credential_cmp accounts
    → balances_in (with_payment c n accounts) ≡ balances_in accounts + cond (has_key credential_cmp accounts c) n 0
balances_after c n accounts m =
    elim (value_at credential_cmp accounts c) as (λ (o : Option Registered). value_at credential_cmp accounts c ≡ o → balances_in (with_payment c n accounts) ≡ balances_in accounts + cond (is_some o) n 0) [
      | None ↦ λ e. omega (arith, ap (λ (l : List (Credential × Registered)). balances_in l) (changed_at_absent credential_cmp c (rewarded n) accounts e))
      | Some r ↦ λ e. omega (arith, sum_values-changed_at (λ (r : Registered). r.rewards) credential_cmp credential_total c (rewarded n) r accounts m e)
    ] refl

-- what is paid and what is not are all amounts
pub all_parted : (accounts : List (Credential × Registered)) (ps : List (Credential × ℕ)) → claimed_of accounts ps + unclaimed_of accounts ps ≡ all_amounts ps
all_parted accounts ps = sum-parted amount_of (λ p. has_key credential_cmp accounts p.0) ps

module _ (p : Credential × ℕ) (ps : List (Credential × ℕ)) (s : Stakes) (room : HasRoom (claimed_of (accounts_of s) (p ∷ ps)) s) where
  -- there is room for the first
  pub first_has_room : has_key credential_cmp (accounts_of s) p.0 ≡ true → HasRoom p.1 s
  first_has_room there = omega (arith, room, first_claimed (accounts_of s) p ps, ap (λ b. cond b p.1 0) there)

  -- and then for the others
  pub others_have_room : (t : Stakes) → IsMap credential_cmp (accounts_of s) → t.outputs ≡ s.outputs → accounts_of t ≡ with_payment p.0 p.1 (accounts_of s) → HasRoom (claimed_of (accounts_of t) ps) t
  others_have_room t m outputs accounts =
      omega (
        arith,
        room,
        first_claimed (accounts_of s) p ps,
        balances_after p.0 p.1 (accounts_of s) m,
        same_claims p.0 p.1 (accounts_of s) ps,
        ap (λ (u : Utxos). lovelace_in u.outputs) outputs,
        ap (λ (l : List (Credential × Registered)). balances_in l) accounts,
        ap (λ (l : List (Credential × Registered)). claimed_of l ps) accounts,
      )
