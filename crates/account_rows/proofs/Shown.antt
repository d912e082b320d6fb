-- The entries of a ledger at each credential, by its outputs and accounts, and which accounts some entries show.
use Rattle.std.proofs.Common.{◌≡◌, ℕ, ◌+◌, ◌<◌, ◌||◌, ◌++◌, List, [], ◌∷◌, Bool, true, false, cond, Option, Some, None, is_some, map, filter_map, nat_lt, refl, ap, sym, subst, ◌∙◌, arith}
use Rattle.std.specs.Ordering.{eq_by_cmp}
use Rattle.std.specs.List.{AllByRecursion, cons_option, list_all}
use Rattle.std.specs.Map.{keys_of}
use Rattle.std.specs.Option.{option_and_then}
use Rattle.std.proofs.lemmas.Bool.{and_from, and_parts, eq-eqb, eqb-true, false≢true, lt-ltb, ltb-true, or_left, or_right}
use Rattle.std.proofs.lemmas.Cmp.{eq_by_cmp_equiv}
use Rattle.std.proofs.lemmas.List.Folds.{list_any-append}
use Rattle.std.proofs.lemmas.Option.{same_Some}
use Rattle.gov_ids.specs.declared.Credential.{Credential}
use Rattle.gov_ids.specs.declared.OutRef.{OutRef}
use Rattle.gov_ids.specs.Orders.{credential_cmp}
use Rattle.gov_ids.specs.Same.{same_credential}
use Rattle.gov_ids.proofs.Exacts.{credential_exact}
use Rattle.gov_ids.proofs.Totals.{credential_total}
use Rattle.book_records.specs.declared.Entry.{Entry}
use Rattle.book_records.specs.declared.Output.{Output}
use Rattle.book_records.specs.declared.Registered.{Registered}
use Rattle.checkpoint_model.specs.Resumable.{is_counted_entry}
use Rattle.ledger_model.specs.Ledger.{Ledger}
use Rattle.maps.proofs.Same.{map_from_value_at}
use Rattle.maps.specs.Maps.{IsMap, has_key, has_member, value_at}
use Rattle.maps.specs.Words.{holds}
use Rattle.frozen_lists.proofs.Marks.{each_found}
use Rattle.resume_checks.proofs.Ordered.{rising_from_set, set_from_rising}
use Rattle.shown_lists.specs.Only.{IsOnly}
use Rattle.shown_lists.specs.Present.{present_entries}
use Rattle.shown_lists.proofs.Present.{each_shown, only_if, present_map, value_at-shown}
use Rattle.text_forms.specs.Ids.{is_map}
use Rattle.account_rows.specs.Entries.{accounts_in, are_entries, has_entry, has_stake, stake_in}
use Rattle.account_rows.specs.Shown.{entries_shown}
use Rattle.account_rows.proofs.Keyed.{IsMap-passing, each_passes, found_passes, value_at-passing}
use Rattle.account_rows.proofs.Held.{all_pass, stake_in-cons, stake_passes}

abbrev Entries : Type 0
Entries = List (Credential × Entry)

abbrev Accounts : Type 0
Accounts = List (Credential × Registered)

abbrev Outputs : Type 0
Outputs = List (OutRef × Output)

abbrev registered_in : Option Entry → Option Registered
registered_in x = option_and_then (λ (e : Entry). e.registered) x

-- an entry, if there is one
abbrev entry_by : Bool → Option Registered → ℕ → Option Entry
entry_by b r n = cond b (Some (record { stake = n; registered = r })) None

-- the entry of a credential with this registration and output stake, if it has one
abbrev entry_with : Option Registered → ℕ → Option Entry
entry_with r n = entry_by (is_some r || nat_lt 0 n) r n

registered_back : (r : Option Registered) (n : ℕ) → registered_in (entry_with r n) ≡ r
registered_back (Some r) n = refl
registered_back None n = elim (nat_lt 0 n) as (λ b. registered_in (entry_by b None n) ≡ None) [ true ↦ refl | false ↦ refl ]

-- ---- the entries of a ledger

key_member : {X : Type 0} (es : List (Credential × X)) (q : Credential) → has_key credential_cmp es q ≡ has_member credential_cmp (map (λ (e : Credential × X). e.0) es) q
key_member [] q = refl
key_member {X} (e ∷ es) q = elim (same_credential q e.0) as (λ b. is_some (cond b (Some e.1) (value_at credential_cmp es q)) ≡ (b || has_member credential_cmp (map (λ (x : Credential × X). x.0) es) q)) [
  | true ↦ refl
  | false ↦ key_member es q
]

-- the stake parts of outputs
abbrev parts_of : Outputs → List Credential
parts_of outputs = filter_map (λ (e : OutRef × Output). e.1.address.stake) outputs

-- a credential with stake is among them
held_part : (os : Outputs) (q : Credential) → 0 < stake_in os q → has_member credential_cmp (parts_of os) q ≡ true
held_part [] q h = absurd (omega arith)
held_part (o ∷ os) q h =
    let parts : List Credential = parts_of os in
    let n : ℕ = stake_in os q in
    elim o.1.address.stake as (λ s. 0 < cond (holds same_credential s q) o.1.lovelace 0 + n → has_member credential_cmp (cons_option s parts) q ≡ true) [
      | None ↦ λ h. held_part os q (omega (arith, h))
      | Some c ↦ λ h. elim (same_credential c q) as (λ b. same_credential c q ≡ b → 0 < cond b o.1.lovelace 0 + n → (eq_by_cmp credential_cmp q c || has_member credential_cmp parts q) ≡ true) [
        | true ↦ λ t h. or_left _ _ ((eq_by_cmp_equiv credential_total).symm q c ∙ t)
        | false ↦ λ t h. or_right _ _ (held_part os q (omega (arith, h)))
      ] refl h
    ] (omega (arith, stake_in-cons o os q, h))

or_of : (a b c : Bool) → (a || b) ≡ true → (a ≡ true → c ≡ true) → (b ≡ true → c ≡ true) → c ≡ true
or_of true b c h f g = f refl
or_of false b c h f g = g h

module _ (l : Ledger) (outputs : Outputs) (accounts : Accounts) where
  abbrev entry : Credential → Entry
  entry c = record { stake = stake_in outputs c; registered = value_at credential_cmp accounts c }

  abbrev passes : Credential → Bool
  passes c = has_key credential_cmp accounts c || nat_lt 0 (stake_in outputs c)

  abbrev names : List Credential
  names = map (λ (e : Credential × Registered). e.0) accounts ++ parts_of outputs

  named : (q : Credential) → passes q ≡ true → has_member credential_cmp names q ≡ true
  named q h =
      list_any-append (eq_by_cmp credential_cmp q) (map (λ (e : Credential × Registered). e.0) accounts) (parts_of outputs)
      ∙ or_of (has_key credential_cmp accounts q) (nat_lt 0 (stake_in outputs q)) _ h
      (λ e. or_left _ _ (sym (key_member accounts q) ∙ e))
      (λ e. or_right _ _ (held_part outputs q (ltb-true 0 (stake_in outputs q) e)))

  pub shown_map : IsMap credential_cmp (entries_shown l outputs accounts)
  shown_map = IsMap-passing credential_total credential_exact entry passes names

  pub shown_at : (q : Credential) → value_at credential_cmp (entries_shown l outputs accounts) q ≡ entry_with (value_at credential_cmp accounts q) (stake_in outputs q)
  shown_at q = value_at-passing credential_total credential_exact entry passes names q (named q)

-- ---- the accounts among entries

module _ (es : Entries) (ordered : IsMap credential_cmp es) where
  abbrev registration : Credential → Option Registered
  registration q = registered_in (value_at credential_cmp es q)

  each_registered : (fs : Entries) → AllByRecursion (λ (e : Credential × Entry). value_at credential_cmp es e.0 ≡ Some e.1) fs
      → map (λ (e : Credential × Entry). (e.0, e.1.registered)) fs ≡ each_shown credential_cmp registration fs
  each_registered [] h = refl
  each_registered (e ∷ fs) h = λ i. (e.0, registered_in (sym h.0 i)) ∷ each_registered fs h.1 i

  accounts_are : accounts_in es ≡ present_entries (each_shown credential_cmp registration es)
  accounts_are = ap present_entries (each_registered es (each_found credential_total es ordered))

  pub accounts_map : IsMap credential_cmp (accounts_in es)
  accounts_map = subst (λ (a : Accounts). IsMap credential_cmp a) (sym accounts_are) (present_map credential_cmp registration es ordered)

  pub accounts_at : (q : Credential) → value_at credential_cmp (accounts_in es) q ≡ registration q
  accounts_at q =
      ap (λ (a : Accounts). value_at credential_cmp a q) accounts_are
      ∙ value_at-shown credential_cmp registration credential_total credential_exact es q ordered
      ∙ elim (value_at credential_cmp es q) as (λ (v : Option Entry). cond (is_some v) (registered_in v) None ≡ registered_in v) [ None ↦ refl | Some e ↦ refl ]

-- the accounts that entries show are those among them
pub accounts_back : (l : Ledger) (outputs : Outputs) (accounts : Accounts) → IsMap credential_cmp accounts → accounts_in (entries_shown l outputs accounts) ≡ accounts
accounts_back l outputs accounts ordered =
    let es : Entries = entries_shown l outputs accounts in
    let map : IsMap credential_cmp es = shown_map l outputs accounts in
    map_from_value_at credential_total credential_exact (accounts_in es) accounts (accounts_map es map) ordered
    (λ q. accounts_at es map q ∙ ap registered_in (shown_at l outputs accounts q) ∙ registered_back (value_at credential_cmp accounts q) (stake_in outputs q))

-- ---- entries that pass the tests

module _ (outputs : Outputs) (es : Entries) where
  -- the entry of each credential is that of its registration and stake
  abbrev AreAll : Type 0
  AreAll = (q : Credential) → value_at credential_cmp es q ≡ entry_with (registered_in (value_at credential_cmp es q)) (stake_in outputs q)

  abbrev have_entries : Bool
  have_entries = list_all (λ (o : OutRef × Output). has_entry es o.1) outputs

  abbrev have_stakes : Bool
  have_stakes = list_all (has_stake (stake_in outputs)) es

  module _ (counted : list_all is_counted_entry es ≡ true) (present : have_entries ≡ true) (held : have_stakes ≡ true) where
    all_by : (q : Credential) (v : Option Entry) → value_at credential_cmp es q ≡ v → v ≡ entry_with (registered_in v) (stake_in outputs q)
    all_by q None at = elim (nat_lt 0 (stake_in outputs q)) as (λ b. nat_lt 0 (stake_in outputs q) ≡ b → None ≡ entry_by b None (stake_in outputs q)) [
      | true ↦ λ t.
          let there : has_key credential_cmp es q ≡ true = stake_passes (has_key credential_cmp es) outputs q present (ltb-true 0 (stake_in outputs q) t) in
          absurd (false≢true (ap (λ (v : Option Entry). is_some v) (sym at) ∙ there))
      | false ↦ λ t. refl
    ] refl
    all_by q (Some e) at =
        let same : e.stake ≡ stake_in outputs q = eqb-true e.stake (stake_in outputs q) (found_passes credential_exact (has_stake (stake_in outputs)) es q e held at) in
        sym (ap (λ b. cond b (Some e) None) (found_passes credential_exact is_counted_entry es q e counted at)) ∙ (λ i. entry_with e.registered (same i))

    all_from_tests : AreAll
    all_from_tests q = all_by q (value_at credential_cmp es q) refl

  told : (e : Entry) (n : ℕ) → Some e ≡ entry_with e.registered n → (e.stake ≡ n) × ((is_some e.registered || nat_lt 0 e.stake) ≡ true)
  told e n is = elim (is_some e.registered || nat_lt 0 n) as (λ b. (is_some e.registered || nat_lt 0 n) ≡ b → Some e ≡ entry_by b e.registered n
      → (e.stake ≡ n) × ((is_some e.registered || nat_lt 0 e.stake) ≡ true)) [
        | true ↦ λ t is.
            let same : e.stake ≡ n = ap (λ (x : Entry). x.stake) (same_Some e (record { stake = n; registered = e.registered }) is) in
            (same, ap (λ m. is_some e.registered || nat_lt 0 m) same ∙ t)
        | false ↦ λ t is. absurd (cc)
      ] refl is

  is_there : (r : Option Registered) (n : ℕ) → 0 < n → is_some (entry_with r n) ≡ true
  is_there r n h = ap (λ b. is_some (entry_by b r n)) (or_right (is_some r) (nat_lt 0 n) (lt-ltb 0 n h))

  module _ (ordered : IsMap credential_cmp es) (all : AreAll) where
    told_at : (e : Credential × Entry) → value_at credential_cmp es e.0 ≡ Some e.1 → (e.1.stake ≡ stake_in outputs e.0) × (is_counted_entry e ≡ true)
    told_at e found = told e.1 (stake_in outputs e.0) (sym found ∙ all e.0 ∙ ap (λ (v : Option Entry). entry_with (registered_in v) (stake_in outputs e.0)) found)

    abbrev found : Credential × Entry → Type 0
    found e = value_at credential_cmp es e.0 ≡ Some e.1

    tests_pass : are_entries outputs es ≡ true
    tests_pass =
        let each : AllByRecursion found es = each_found credential_total es ordered in
        and_from _ _
        (and_from _ _
        (and_from _ _ (rising_from_set credential_cmp (keys_of es) ordered) (each_passes found is_counted_entry es (λ e h. (told_at e h).1) each))
        (all_pass (has_key credential_cmp es) outputs (λ q h. ap (λ (v : Option Entry). is_some v) (all q) ∙ is_there (registered_in (value_at credential_cmp es q)) (stake_in outputs q) h)))
        (each_passes found (has_stake (stake_in outputs)) es (λ e h. eq-eqb e.1.stake (stake_in outputs e.0) (told_at e h).0) each)

-- ---- what is found

module _ (l : Ledger) (outputs : Outputs) (es : Entries) where
  abbrev IsOrdered : Accounts → Type 0
  IsOrdered accounts = is_map credential_cmp accounts ≡ true

  there : are_entries outputs es ≡ true → IsOrdered (accounts_in es) × (entries_shown l outputs (accounts_in es) ≡ es)
  there h =
      let tests = and_parts _ (have_stakes outputs es) h in
      let more = and_parts _ (have_entries outputs es) tests.0 in
      let first = and_parts (is_map credential_cmp es) (list_all is_counted_entry es) more.0 in
      let ordered : IsMap credential_cmp es = set_from_rising credential_cmp (keys_of es) first.0 in
      let shown : entries_shown l outputs (accounts_in es) ≡ es =
      map_from_value_at credential_total credential_exact (entries_shown l outputs (accounts_in es)) es (shown_map l outputs (accounts_in es)) ordered
      (λ q. shown_at l outputs (accounts_in es) q ∙ ap (λ (r : Option Registered). entry_with r (stake_in outputs q)) (accounts_at es ordered q) ∙ sym (all_from_tests outputs es first.1 more.1 tests.1 q)) in
      (rising_from_set credential_cmp (keys_of (accounts_in es)) (accounts_map es ordered), shown)

  back : (accounts : Accounts) → IsOrdered accounts → entries_shown l outputs accounts ≡ es → (accounts_in es ≡ accounts) × (are_entries outputs es ≡ true)
  back accounts h shown =
      let map : IsMap credential_cmp es = subst (λ (x : Entries). IsMap credential_cmp x) shown (shown_map l outputs accounts) in
      let at : (q : Credential) → value_at credential_cmp es q ≡ entry_with (value_at credential_cmp accounts q) (stake_in outputs q) =
      λ q. ap (λ (x : Entries). value_at credential_cmp x q) (sym shown) ∙ shown_at l outputs accounts q in
      let all : AreAll outputs es =
      λ q. at q ∙ ap (λ (r : Option Registered). entry_with r (stake_in outputs q)) (sym (ap registered_in (at q) ∙ registered_back (value_at credential_cmp accounts q) (stake_in outputs q))) in
      (ap accounts_in (sym shown) ∙ accounts_back l outputs accounts (set_from_rising credential_cmp (keys_of accounts) h), tests_pass outputs es map all)

  -- the accounts among entries that pass the tests are the ones that they show
  pub accounts_found : (b : Bool) → b ≡ are_entries outputs es → IsOnly IsOrdered (entries_shown l outputs) es (cond b (Some (accounts_in es)) None)
  accounts_found b is =
      only_if IsOrdered (entries_shown l outputs) es (accounts_in es) b (λ t. there (sym is ∙ t)) (λ x k e. let found = back x k e in (found.0, is ∙ found.1))
