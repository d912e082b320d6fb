-- Withdrawals of whole balances: what is left of the rewards, and what is withdrawn.
use Rattle.std.proofs.Common.{◌≡◌, ℕ, ◌+◌, List, [], ◌∷◌, Bool, true, false, cond, Option, Some, None, is_some, map, sum_by, refl, ap, sym, ◌∙◌, arith}
use Rattle.std.specs.Option.{option_map}
use Rattle.std.specs.List.{AllByRecursion, IsDistinct, list_any}
use Rattle.std.specs.Ordering.{eq_by_cmp}
use Rattle.std.proofs.lemmas.Bool.{eqb-true, or_parts, not-false}
use Rattle.std.proofs.lemmas.Cmp.{eq_by_cmp_equiv}
use Rattle.std.proofs.lemmas.List.Sums.{sum_by-cons}
use Rattle.maps.specs.Maps.{IsMap, value_at, sum_values, changed_at}
use Rattle.maps.specs.Words.{repeats, amount}
use Rattle.maps.proofs.Kept.{IsMap-changed_where}
use Rattle.maps.proofs.Lookups.{value_at-changed_at}
use Rattle.maps.proofs.Sums.{sum_values-changed_at}
use Rattle.maps.proofs.Ties.{is_equal}
use Rattle.gov_ids.specs.declared.Account.{Account}
use Rattle.gov_ids.specs.declared.Credential.{Credential}
use Rattle.gov_ids.specs.Orders.{account_cmp, credential_cmp}
use Rattle.gov_ids.specs.Same.{same_account, same_credential}
use Rattle.gov_ids.proofs.Exacts.{credential_exact}
use Rattle.gov_ids.proofs.Totals.{account_total, credential_total}
use Rattle.book_records.specs.declared.Registered.{Registered}
use Rattle.ledger_model.specs.Ledger.{Ledger, account_at, is_account}
use Rattle.ledger_model.specs.Checks.{per_place_from}
use Rattle.ledger_model.specs.Changes.{emptied}
use Rattle.ledger_model.specs.CertRules.{withdrawal_checks, rewards_at}
use Rattle.ledger_model.proofs.Emptying.{emptied_among, emptied_among-cons, emptied_among-none}
use Rattle.ledger_model.proofs.Unbroken.{IsUnbroken, unbroken-cons, unbroken-per_place}

abbrev cred_of : Account × ℕ → Credential
cred_of x = x.0.cred

abbrev account_of : Account × ℕ → Account
account_of x = x.0

-- accounts of one network with different credentials
other_cred : (a b : Account) (t : Bool) → same_credential a.cred b.cred ≡ t → a.network ≡ b.network → same_account a b ≡ false → t ≡ false
other_cred a b true e n h =
    let cred : a.cred ≡ b.cred = credential_exact a.cred b.cred (is_equal _ e) in
    let one : a ≡ b = ap (λ (c : Credential). let x : Account = record { network = a.network; cred = c } in x) cred ∙ ap (λ (m : ℕ). let x : Account = record { network = m; cred = b.cred } in x) n in
    let yes : same_account a b ≡ true = ap (λ (x : Account). same_account a x) (sym one) ∙ (eq_by_cmp_equiv account_total).refl a in cc
other_cred a b false e n h = refl

module _ (net : ℕ) where
  abbrev AreOf : List (Account × ℕ) → Type 0
  AreOf xs = AllByRecursion (λ x. x.0.network ≡ net) xs

  others : (a : Account) (xs : List (Account × ℕ)) → a.network ≡ net → AreOf xs → list_any (eq_by_cmp account_cmp a) (map account_of xs) ≡ false
      → AllByRecursion (λ c. same_credential a.cred c ≡ false) (map cred_of xs)
  others a [] n h r = tt
  others a (x ∷ xs) n h r =
      let parts : (same_account a x.0 ≡ false) × (list_any (eq_by_cmp account_cmp a) (map account_of xs) ≡ false) = or_parts _ _ r in
      (other_cred a x.0 _ refl (n ∙ sym h.0) parts.0, others a xs n h.1 parts.1)

  pub own_credentials : (xs : List (Account × ℕ)) → AreOf xs → repeats account_cmp (map account_of xs) ≡ false → IsDistinct same_credential (map cred_of xs)
  unfolding IsDistinct
  own_credentials [] h r = tt
  own_credentials (x ∷ xs) h r =
      let parts : (list_any (eq_by_cmp account_cmp x.0) (map account_of xs) ≡ false) × (repeats account_cmp (map account_of xs) ≡ false) = or_parts _ _ r in
      (others x.0 xs h.0 h.1 parts.0, own_credentials xs h.1 parts.1)

-- the balance of an account is what is withdrawn
abbrev IsWhole : List (Credential × Registered) → Account × ℕ → Type 0
IsWhole es x = (r : Registered) × (value_at credential_cmp es x.0.cred ≡ Some r) × (r.rewards ≡ x.1)

abbrev pub AreWhole : List (Credential × Registered) → List (Account × ℕ) → Type 0
AreWhole es xs = AllByRecursion (IsWhole es) xs

abbrev rewards_of : Registered → ℕ
rewards_of r = r.rewards

-- other balances stay
still_whole : (c : Credential) (es : List (Credential × Registered)) (xs : List (Account × ℕ)) → AllByRecursion (λ q. same_credential c q ≡ false) (map cred_of xs) → AreWhole es xs
    → AreWhole (changed_at credential_cmp c emptied es) xs
still_whole c es [] o h = tt
still_whole c es (x ∷ xs) o h =
    let same : value_at credential_cmp (changed_at credential_cmp c emptied es) x.0.cred ≡ value_at credential_cmp es x.0.cred =
    value_at-changed_at credential_total c emptied es x.0.cred
    ∙ ap (λ b. cond b (option_map emptied (value_at credential_cmp es x.0.cred)) (value_at credential_cmp es x.0.cred)) o.0 in
    ((h.0.0, same ∙ h.0.1, h.0.2), still_whole c es xs o.1 h.1)

-- what is left, and what is withdrawn, are all
pub withdrawals_sum : (xs : List (Account × ℕ)) (es : List (Credential × Registered)) → IsMap credential_cmp es → IsDistinct same_credential (map cred_of xs) → AreWhole es xs
    → sum_values rewards_of (emptied_among (map cred_of xs) es) + sum_by (λ (x : Account × ℕ). x.1) xs ≡ sum_values rewards_of es
unfolding IsDistinct
withdrawals_sum [] es m d h = omega (arith, ap (λ (list : List (Credential × Registered)). sum_values rewards_of list) (emptied_among-none es))
withdrawals_sum (x ∷ xs) es m d h =
    let one : List (Credential × Registered) = changed_at credential_cmp x.0.cred emptied es in
    let first : sum_values rewards_of one + h.0.0.rewards ≡ sum_values rewards_of es + 0 = sum_values-changed_at rewards_of credential_cmp credential_total x.0.cred emptied h.0.0 es m h.0.1 in
    omega (
      arith,
      first,
      h.0.2,
      ap (λ (list : List (Credential × Registered)). sum_values rewards_of list) (emptied_among-cons x.0.cred (map cred_of xs) es),
      withdrawals_sum xs one (IsMap-changed_where credential_cmp (λ q r. eq_by_cmp credential_cmp x.0.cred q) emptied es m) d.1 (still_whole x.0.cred es xs d.0 h.1),
      sum_by-cons (λ (x : Account × ℕ). x.1) x xs,
    )

-- what the rules say of each withdrawal
whole_by : (o : Option Registered) (n : ℕ) → is_some o ≡ true → n ≡ amount rewards_of o → (r : Registered) × (o ≡ Some r) × (r.rewards ≡ n)
whole_by None n h e = cc
whole_by (Some r) n h e = (r, refl, sym e)

pub withdrawals_whole : (l : Ledger) (n : ℕ) (xs : List (Account × ℕ)) → IsUnbroken (per_place_from (withdrawal_checks l) n xs) → AreOf l.network xs × AreWhole l.accounts xs
withdrawals_whole l n [] h = (tt, tt)
withdrawals_whole l n (x ∷ xs) h =
    let both = unbroken-per_place (withdrawal_checks l) n x xs h in
    let a = unbroken-cons _ _ both.0 in
    let b = unbroken-cons _ _ a.1 in
    let c = unbroken-cons _ _ b.1 in
    let d = unbroken-cons _ _ c.1 in
    let network : x.0.network ≡ l.network = eqb-true x.0.network l.network (not-false _ a.0) in
    let there : is_account l x.0.cred ≡ true = not-false _ b.0 in
    let whole : x.1 ≡ rewards_at l x.0.cred = eqb-true x.1 (rewards_at l x.0.cred) (not-false _ d.0) in
    let more = withdrawals_whole l (n + 1) xs both.1 in
    ((network, more.0), (whole_by (account_at l x.0.cred) x.1 there whole, more.1))
