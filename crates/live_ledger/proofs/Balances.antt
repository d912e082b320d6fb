-- No transaction raises the balance of an account.
use Rattle.std.proofs.Common.{◌≡◌, ℕ, ◌≤◌, List, [], ◌∷◌, Bool, true, false, cond, fold, take, Option, Some, None, option_map, refl, ap, sym, subst, ◌∙◌, arith}
use Rattle.std.specs.Ordering.{eq_by_cmp}
use Rattle.maps.specs.Maps.{IsMap, changed_where, value_at}
use Rattle.maps.specs.Words.{amount, is_empty}
use Rattle.maps.proofs.Kept.{IsMap-changed_where, IsMap-with_value, IsMap-without_key}
use Rattle.maps.proofs.Lookups.{value_at-changed_at, value_at-changed_where, value_at-with_value, value_at-without_key}
use Rattle.gov_ids.specs.declared.Credential.{Credential}
use Rattle.gov_ids.specs.Orders.{credential_cmp}
use Rattle.gov_ids.proofs.Exacts.{credential_exact}
use Rattle.gov_ids.proofs.Totals.{credential_total}
use Rattle.book_records.specs.declared.Registered.{Registered}
use Rattle.tx_records.specs.declared.cert.Cert.{Cert}
use Rattle.tx_records.specs.declared.cert.Cert.TheVariants.{AccountReg, AccountUnreg, Delegate, PoolReg, PoolRetire, DrepReg, DrepUnreg, DrepUpdate, HotAuth, HotResign}
use Rattle.tx_records.specs.declared.tx.Tx.{Tx}
use Rattle.ledger_model.specs.Ledger.{Ledger}
use Rattle.stake_book.specs.Stakes.{delegates_to_dreps, without_dreps}
use Rattle.draft_changes.specs.Balances.{balance_in}
use Rattle.ledger_model.specs.CertRules.{rewards_at}
use Rattle.book_records.specs.Delegations.{delegates_to_drep, without_drep}
use Rattle.ledger_model.specs.Changes.{changed_by, delegating, dormant_added, emptied, is_withdrawn, new_account, refreshed, voters_refreshed, withdrawn}
use Rattle.ledger_model.specs.Draft.{draft_after, draft_with, is_refused}

-- ---- what a transaction does to balances

abbrev balance : Option Registered → ℕ
balance x = amount (λ (r : Registered). r.rewards) x

-- the balance of each credential is at most what it was
abbrev pub IsLower : Ledger → Ledger → Type 0
IsLower l d = (c : Credential) → rewards_at d c ≤ rewards_at l c

-- accounts whose balances do not rise
falling : (f : Registered → Registered) → ((r : Registered) → (f r).rewards ≤ r.rewards) → (x : Option Registered) → balance (option_map f x) ≤ balance x
falling f le None = omega arith
falling f le (Some r) = le r

new_or : (b : Bool) (r : Registered) (x : Option Registered) → r.rewards ≡ 0 → balance (cond b (Some r) x) ≤ balance x
new_or true r x e = omega (arith, e)
new_or false r x e = omega arith

none_or_same : (b : Bool) (x : Option Registered) → balance (cond b None x) ≤ balance x
none_or_same true x = omega arith
none_or_same false x = omega arith

changed_or : (b : Bool) (f : Registered → Registered) (x : Option Registered) → ((r : Registered) → (f r).rewards ≤ r.rewards) → balance (cond b (option_map f x) x) ≤ balance x
changed_or true f x le = falling f le x
changed_or false f x le = omega arith

either_lower : (b : Bool) (f : Registered → Registered) (r : Registered) → ((r : Registered) → (f r).rewards ≤ r.rewards) → (cond b (f r) r).rewards ≤ r.rewards
either_lower true f r le = le r
either_lower false f r le = omega arith

where_lowers : (p : Credential → Registered → Bool) (f : Registered → Registered) → ((r : Registered) → (f r).rewards ≤ r.rewards) → (es : List (Credential × Registered)) (q : Credential)
    → balance (value_at credential_cmp (changed_where p f es) q) ≤ balance (value_at credential_cmp es q)
where_lowers p f le es q =
    omega (
      arith,
      ap balance (value_at-changed_where credential_total credential_exact p f es q),
      falling (λ r. cond (p q r) (f r) r) (λ r. either_lower (p q r) f r le) (value_at credential_cmp es q),
    )

without_keeps : (b : Registered → Bool) (x : Option Registered) → balance (option_map (λ r. cond (b r) (without_drep r) r) x) ≡ balance x
without_keeps b None = refl
without_keeps b (Some r) = elim (b r) as (λ t. (cond t (without_drep r) r).rewards ≡ r.rewards) [ true ↦ refl | false ↦ refl ]

-- a delegation that ends leaves the balance
pub ended_balance : (dreps : List Credential) (accounts : List (Credential × Registered)) (c : Credential) → balance_in (without_dreps dreps accounts) c ≡ balance_in accounts c
ended_balance dreps accounts c =
    ap balance (value_at-changed_where credential_total credential_exact (λ q r. delegates_to_dreps dreps r) without_drep accounts c)
    ∙ without_keeps (delegates_to_dreps dreps) (value_at credential_cmp accounts c)

-- a ledger whose accounts are a map, with no balance above that of another
pub record IsLowered (l d : Ledger) : Type 0 where
  pub map : IsMap credential_cmp d.accounts
  pub lower : IsLower l d

unchanged : (d : Ledger) → IsMap credential_cmp d.accounts → IsLowered d d
unchanged d m = record { map = m; lower = λ q. omega arith }

lowered_twice : (a b c : Ledger) → IsLowered a b → IsLowered b c → IsLowered a c
lowered_twice a b c f g = record { map = g.map; lower = λ q. omega (arith, f.lower q, g.lower q) }

cert_lowers : (c : Cert) (d : Ledger) → IsMap credential_cmp d.accounts → IsLowered d (changed_by c d)
cert_lowers (AccountReg cred deposit pool drep) d m = record {
  map = IsMap-with_value credential_total cred (new_account d pool drep) d.accounts m;
  lower = λ q. omega (
    arith,
    ap balance (value_at-with_value credential_total cred (new_account d pool drep) d.accounts q),
    new_or (eq_by_cmp credential_cmp cred q) (new_account d pool drep) (value_at credential_cmp d.accounts q) refl,
  );
}
cert_lowers (AccountUnreg cred refund) d m = record {
  map = IsMap-without_key credential_cmp cred d.accounts m;
  lower = λ q. omega (
    arith,
    ap balance (value_at-without_key credential_total cred d.accounts q m),
    none_or_same (eq_by_cmp credential_cmp cred q) (value_at credential_cmp d.accounts q),
  );
}
cert_lowers (Delegate cred pool drep) d m = record {
  map = IsMap-changed_where credential_cmp _ (delegating pool drep) d.accounts m;
  lower = λ q. omega (
    arith,
    ap balance (value_at-changed_at credential_total cred (delegating pool drep) d.accounts q),
    changed_or (eq_by_cmp credential_cmp cred q) (delegating pool drep) (value_at credential_cmp d.accounts q) (λ r. omega arith),
  );
}
cert_lowers (PoolReg pool cost pledge margin account key) d m = record { map = m; lower = λ q. omega arith }
cert_lowers (PoolRetire pool epoch) d m = record { map = m; lower = λ q. omega arith }
cert_lowers (DrepReg cred deposit) d m = record { map = m; lower = λ q. omega arith }
cert_lowers (DrepUnreg cred refund) d m = record {
  map = IsMap-changed_where credential_cmp _ without_drep d.accounts m;
  lower = where_lowers (λ c r. delegates_to_drep cred r) without_drep (λ r. omega arith) d.accounts;
}
cert_lowers (DrepUpdate cred) d m = record { map = m; lower = λ q. omega arith }
cert_lowers (HotAuth cold key) d m = record { map = m; lower = λ q. omega arith }
cert_lowers (HotResign cold) d m = record { map = m; lower = λ q. omega arith }

step_lowers : (b : Bool) (c : Cert) (d : Ledger) → IsMap credential_cmp d.accounts → IsLowered d (cond b d (changed_by c d))
step_lowers true c d m = unchanged d m
step_lowers false c d m = cert_lowers c d m

certs_lower : (l : Ledger) (cs : List Cert) (d : Ledger) → IsMap credential_cmp d.accounts → IsLowered d (fold (draft_with l) d cs)
certs_lower l [] d m = unchanged d m
certs_lower l (c ∷ cs) d m =
    let first : IsLowered d (draft_with l d c) = step_lowers (is_refused l d c) c d m in
    lowered_twice d (draft_with l d c) (fold (draft_with l) (draft_with l d c) cs) first (certs_lower l cs (draft_with l d c) first.map)

withdrawals_lower : (tx : Tx) (d : Ledger) → IsMap credential_cmp d.accounts → IsLowered d (withdrawn tx d)
withdrawals_lower tx d m = record {
  map = IsMap-changed_where credential_cmp (λ c r. is_withdrawn tx c) emptied d.accounts m;
  lower = where_lowers (λ c r. is_withdrawn tx c) emptied (λ r. omega arith) d.accounts;
}

-- the refresh leaves the accounts
refresh_by : (b : Bool) (tx : Tx) (d : Ledger) → (voters_refreshed tx (cond b d (dormant_added d))).accounts ≡ d.accounts
refresh_by true tx d = refl
refresh_by false tx d = refl

refresh_lowers : (tx : Tx) (d : Ledger) → IsMap credential_cmp d.accounts → IsLowered d (refreshed tx d)
refresh_lowers tx d m =
    let same : (refreshed tx d).accounts ≡ d.accounts = refresh_by (is_empty tx.proposals) tx d in
    record {
      map = subst (λ (es : List (Credential × Registered)). IsMap credential_cmp es) (sym same) m;
      lower = λ q. omega (arith, ap (λ (es : List (Credential × Registered)). balance (value_at credential_cmp es q)) same);
    }

-- no transaction raises a balance
pub draft_lowers : (l : Ledger) (tx : Tx) (k : ℕ) → IsMap credential_cmp l.accounts → IsLowered l (draft_after l tx k)
draft_lowers l tx k m =
    let d : Ledger = withdrawn tx l in
    let a : IsLowered l d = withdrawals_lower tx l m in
    let b : IsLowered d (refreshed tx d) = refresh_lowers tx d a.map in
    let c : IsLowered (refreshed tx d) (draft_after l tx k) = certs_lower l (take k tx.certs) (refreshed tx d) b.map in
    lowered_twice l d (draft_after l tx k) a (lowered_twice d (refreshed tx d) (draft_after l tx k) b c)
