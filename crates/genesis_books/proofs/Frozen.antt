-- The live entries of a book of stakes are the entries that are frozen of a ledger with its outputs and accounts.
use Rattle.std.proofs.Common.{◌≡◌, ℕ, ◌<◌, ◌==◌, Bool, true, false, cond, ◌&&◌, ◌||◌, List, [], ◌∷◌, ◌++◌, Option, Some, None, is_none, is_some, option_map, filter, filter_map, map, nat_lt, refl, ap, sym, subst, ◌∙◌, arith}
use Rattle.std.specs.declared.cmp.Ordering.{Ordering}
use Rattle.std.specs.Ordering.{eq_by_cmp}
use Rattle.std.specs.Cmp.{IsTotalOrder}
use Rattle.std.specs.FinMap.{IsAntisymmetric}
use Rattle.std.specs.List.Sorted.{IsStrictlySortedBy}
use Rattle.std.specs.List.{cons_option}
use Rattle.std.specs.Map.{keys_of}
use Rattle.std.specs.BTreeMap.{is_at}
use Rattle.std.specs.Option.{IfSome, option_and_then}
use Rattle.std.proofs.lemmas.Bool.{ltb-false, ltb-true}
use Rattle.std.proofs.lemmas.Cmp.{eq_by_cmp_equiv}
use Rattle.std.proofs.lemmas.List.Folds.{list_any-append}
use Rattle.std.proofs.lemmas.Map.Entries.{option_filter}
use Rattle.std.proofs.lemmas.Map.Views.{IfSome-lookup_from_All}
use Rattle.gov_ids.specs.declared.Credential.{Credential}
use Rattle.gov_ids.specs.declared.OutRef.{OutRef}
use Rattle.gov_ids.specs.Orders.{credential_cmp}
use Rattle.gov_ids.specs.Same.{same_credential}
use Rattle.gov_ids.proofs.Exacts.{credential_exact}
use Rattle.gov_ids.proofs.Totals.{credential_total}
use Rattle.book_records.specs.Outputs.{lovelace_in}
use Rattle.book_records.specs.declared.Entry.{Entry}
use Rattle.book_records.specs.declared.Output.{Output}
use Rattle.book_records.specs.declared.Registered.{Registered}
use Rattle.maps.proofs.Kept.{IsMap-entries_where}
use Rattle.maps.proofs.Lookups.{none_below, value_at-entries_where}
use Rattle.maps.proofs.Same.{map_from_value_at}
use Rattle.maps.proofs.Sets.{IsSet-in_order, has_member-in_order}
use Rattle.maps.proofs.Ties.{all_tied, is_equal, same_key}
use Rattle.maps.specs.Maps.{IsMap, IsSet, entries_where, has_key, has_member, in_order, value_at}
use Rattle.maps.specs.Words.{amount, holds}
use Rattle.stake_book.specs.of_accounts.Accounts.{is_nothing}
use Rattle.genesis_balance.specs.of_ledger_model.Ledger.{Ledger, account_at, is_account, output_stake}
use Rattle.genesis_balance.specs.of_run_model.Freeze.{entries_of, stake_parts}
use Rattle.stake_book.specs.Stakes.{Stakes, AreKept, accounts_of, registrations, stake_held}

-- ---- an entry for each of some keys

module _ {K X : Type 0} (f : K → X) where
  -- the entries of these keys
  abbrev pub made : List K → List (K × X)
  made ks = map (λ k. (k, f k)) ks

  keys_of-made : (ks : List K) → keys_of (made ks) ≡ ks
  keys_of-made [] = refl
  keys_of-made (k ∷ ks) = ap (λ (l : List K). k ∷ l) (keys_of-made ks)

  made-filter : (p : K → Bool) (ks : List K) → made (filter p ks) ≡ entries_where (λ k x. p k) (made ks)
  made-filter p [] = refl
  made-filter p (k ∷ ks) =
      elim (p k) as (λ b. made (cond b (k ∷ filter p ks) (filter p ks)) ≡ cond b ((k, f k) ∷ entries_where (λ k x. p k) (made ks)) (entries_where (λ k x. p k) (made ks))) [
        | true ↦ ap (λ (es : List (K × X)). (k, f k) ∷ es) (made-filter p ks)
        | false ↦ made-filter p ks
      ]

  module _ {cmp : K → K → Ordering} (o : IsTotalOrder cmp) (exact : IsAntisymmetric cmp) where
    value_at-made : (ks : List K) (q : K) → value_at cmp (made ks) q ≡ cond (has_member cmp ks q) (Some (f q)) None
    value_at-made [] q = refl
    value_at-made (k ∷ ks) q =
        elim (eq_by_cmp cmp q k) as (λ b. eq_by_cmp cmp q k ≡ b → cond b (Some (f k)) (value_at cmp (made ks) q) ≡ cond (b || has_member cmp ks q) (Some (f q)) None) [
          | true ↦ λ t. ap (λ (x : K). Some (f x)) (sym (same_key exact q k t))
          | false ↦ λ t. value_at-made ks q
        ] refl

    passing : (p m : Bool) (x : X) → (p ≡ true → m ≡ true) → option_filter (λ y. p) (cond m (Some x) None) ≡ cond p (Some x) None
    passing true m x h = ap (λ b. option_filter (λ (y : X). true) (cond b (Some x) None)) (h refl)
    passing false true x h = refl
    passing false false x h = refl

    IsMap-made : (p : K → Bool) (ks : List K) → IsMap cmp (made (filter p (in_order cmp ks)))
    IsMap-made p ks =
        subst (λ (es : List (K × X)). IsMap cmp es) (sym (made-filter p (in_order cmp ks)))
        (IsMap-entries_where cmp (λ k x. p k) (made (in_order cmp ks)) (subst (λ (l : List K). IsSet cmp l) (sym (keys_of-made (in_order cmp ks))) (IsSet-in_order o ks)))

    -- the entry of a key that passes, where each such key is among them
    value_at-passing : (p : K → Bool) (ks : List K) (q : K) → (p q ≡ true → has_member cmp ks q ≡ true) → value_at cmp (made (filter p (in_order cmp ks))) q ≡ cond (p q) (Some (f q)) None
    value_at-passing p ks q h =
        ap (λ (es : List (K × X)). value_at cmp es q) (made-filter p (in_order cmp ks))
        ∙ value_at-entries_where o exact (λ k x. p k) (made (in_order cmp ks)) q (subst (λ (l : List K). IsSet cmp l) (sym (keys_of-made (in_order cmp ks))) (IsSet-in_order o ks))
        ∙ ap (λ (x : Option X). option_filter (λ y. p q) x) (value_at-made (in_order cmp ks) q)
        ∙ passing (p q) (has_member cmp (in_order cmp ks) q) (f q) (λ e. has_member-in_order o ks q ∙ h e)

-- ---- who is among the keys

or_left : (a b : Bool) → a ≡ true → (a || b) ≡ true
or_left true b h = refl
or_left false b h = cc

or_right : (a b : Bool) → b ≡ true → (a || b) ≡ true
or_right true b h = refl
or_right false b h = h

or_of : (a b c : Bool) → (a || b) ≡ true → (a ≡ true → c ≡ true) → (b ≡ true → c ≡ true) → c ≡ true
or_of true b c h f g = f refl
or_of false b c h f g = g h

-- a key with a value is among the keys
key_member : {K X : Type 0} (cmp : K → K → Ordering) (es : List (K × X)) (q : K) → has_key cmp es q ≡ has_member cmp (keys_of es) q
key_member cmp [] q = refl
key_member {K} {X} cmp (e ∷ es) q = elim (eq_by_cmp cmp q e.0) as (λ b. is_some (cond b (Some e.1) (value_at cmp es q)) ≡ (b || has_member cmp (keys_of es) q)) [ true ↦ refl | false ↦ key_member cmp es q ]

-- the stake parts of outputs
abbrev parts_of : List (OutRef × Output) → List Credential
parts_of outputs = filter_map (λ (e : OutRef × Output). e.1.address.stake) outputs

part_by : (s : Option Credential) (e : OutRef × Output) (kept : List (OutRef × Output)) (parts : List Credential) (q : Credential) → (0 < lovelace_in kept → has_member credential_cmp parts q ≡ true)
    → 0 < lovelace_in (cond (holds same_credential s q) (e ∷ kept) kept) → has_member credential_cmp (cons_option s parts) q ≡ true
part_by None e kept parts q rest h = rest h
part_by (Some c) e kept parts q rest h =
    elim (same_credential c q) as (λ b. same_credential c q ≡ b → 0 < lovelace_in (cond b (e ∷ kept) kept) → (eq_by_cmp credential_cmp q c || has_member credential_cmp parts q) ≡ true) [
      | true ↦ λ t h. or_left _ _ ((eq_by_cmp_equiv credential_total).symm q c ∙ t)
      | false ↦ λ t h. or_right _ _ (rest h)
    ] refl h

-- a stake part whose outputs hold something is among the stake parts
held_part : (outputs : List (OutRef × Output)) (q : Credential) → 0 < stake_held outputs q → has_member credential_cmp (parts_of outputs) q ≡ true
held_part [] q h = absurd (omega arith)
held_part (e ∷ outputs) q h = part_by e.1.address.stake e (entries_where (λ r (o : Output). holds same_credential o.address.stake q) outputs) (parts_of outputs) q (held_part outputs q) h

-- ---- the registrations of entries

registered_by : (s : Option Registered) (k : Credential) (rest : List (Credential × Registered)) (q : Credential) (v : Option Registered) → value_at credential_cmp rest q ≡ v
    → (eq_by_cmp credential_cmp q k ≡ true → v ≡ None) → value_at credential_cmp (cons_option (option_map (λ (r : Registered). (k, r)) s) rest) q ≡ cond (eq_by_cmp credential_cmp q k) s v
registered_by None k rest q v p n =
    p ∙ elim (eq_by_cmp credential_cmp q k) as (λ b. (b ≡ true → v ≡ None) → v ≡ cond b None v) [ true ↦ λ n. n refl | false ↦ λ n. refl ] n
registered_by (Some r) k rest q v p n = ap (λ (x : Option Registered). cond (eq_by_cmp credential_cmp q k) (Some r) x) p

abbrev registered_in : Option Entry → Option Registered
registered_in x = option_and_then (λ (e : Entry). e.registered) x

-- the registration of a credential is that of its entry
pub value_at-registrations : (es : List (Credential × Entry)) (q : Credential) → IsMap credential_cmp es → value_at credential_cmp (registrations es) q ≡ registered_in (value_at credential_cmp es q)
unfolding IsStrictlySortedBy
value_at-registrations [] q h = refl
value_at-registrations (e ∷ es) q h =
    registered_by e.1.registered e.0 (registrations es) q (registered_in (value_at credential_cmp es q)) (value_at-registrations es q h.1)
    (λ t. ap registered_in (none_below credential_cmp q es (all_tied credential_total q e.0 (keys_of es) (is_equal _ t) h.0)))
    ∙ elim (eq_by_cmp credential_cmp q e.0) as (λ b. cond b e.1.registered (registered_in (value_at credential_cmp es q)) ≡ registered_in (cond b (Some e.1) (value_at credential_cmp es q))) [
      | true ↦ refl
      | false ↦ refl
    ]

-- ---- the entries

-- whether a credential with this registration and stake is frozen
abbrev has_entry : Option Registered → ℕ → Bool
has_entry r n = is_some r || nat_lt 0 n

something : (r : Option Registered) (n : ℕ) → ((n == 0) && is_none r) ≡ false → has_entry r n ≡ true
something (Some r) n h = refl
something None n h =
    elim (nat_lt 0 n) as (λ b. nat_lt 0 n ≡ b → b ≡ true) [
      | true ↦ λ t. refl
      | false ↦ λ t.
          let none : n ≡ 0 = omega (arith, ltb-false 0 n t) in
          let both : ((n == 0) && true) ≡ true = ap (λ (m : ℕ). (m == 0) && true) none in cc
    ] refl

entry_by : (x : Option Entry) (n : ℕ) (r : Option Registered) → amount (λ (e : Entry). e.stake) x ≡ n → registered_in x ≡ r → IfSome x (λ e. is_nothing e ≡ false) → x ≡ cond (has_entry r n) (Some (record { stake = n; registered = r })) None
entry_by None n r s p h = λ i. cond (has_entry (p i) (s i)) (Some (record { stake = s i; registered = p i })) None
entry_by (Some e) n r s p h =
    sym (ap (λ b. cond b (Some e) None) (something e.registered e.stake h)) ∙ (λ i. cond (has_entry (p i) (s i)) (Some (record { stake = s i; registered = p i })) None)

module _ (s : Stakes) (l : Ledger) (k : AreKept s) (outputs : s.outputs.outputs ≡ l.outputs) (accounts : accounts_of s ≡ l.accounts) where
  abbrev entry_of : Credential → Entry
  entry_of c = record { stake = output_stake l c; registered = account_at l c }

  abbrev passes : Credential → Bool
  passes c = is_account l c || nat_lt 0 (output_stake l c)

  abbrev names : List Credential
  names = map (λ (e : Credential × Registered). e.0) l.accounts ++ stake_parts l

  named : (q : Credential) → passes q ≡ true → has_member credential_cmp names q ≡ true
  named q h =
      list_any-append (eq_by_cmp credential_cmp q) (map (λ (e : Credential × Registered). e.0) l.accounts) (stake_parts l)
      ∙ or_of (is_account l q) (nat_lt 0 (output_stake l q)) _ h
      (λ e. or_left _ _ (sym (key_member credential_cmp l.accounts q) ∙ e))
      (λ e. or_right _ _ (held_part l.outputs q (ltb-true 0 (output_stake l q) e)))

  live_at : (q : Credential) → value_at credential_cmp s.accounts.live q ≡ cond (passes q) (Some (entry_of q)) None
  live_at q =
      entry_by (value_at credential_cmp s.accounts.live q) (output_stake l q) (account_at l q)
      (k.stakes q ∙ ap (λ (os : List (OutRef × Output)). stake_held os q) outputs)
      (sym (value_at-registrations s.accounts.live q k.live) ∙ ap (λ (es : List (Credential × Registered)). value_at credential_cmp es q) accounts)
      (IfSome-lookup_from_All (λ (e : Entry). is_nothing e ≡ false) (is_at (credential_cmp q)) s.accounts.live k.entries)

  -- the live entries
  pub live_is : s.accounts.live ≡ entries_of l
  live_is =
      map_from_value_at credential_total credential_exact s.accounts.live (entries_of l) k.live (IsMap-made entry_of credential_total credential_exact passes names)
      (λ q. live_at q ∙ sym (value_at-passing entry_of credential_total credential_exact passes names q (named q)))
