-- Changes of registrations that raise no balance, laid over one after another, leave room.
use Rattle.std.proofs.Common.{◌≡◌, ℕ, ◌+◌, ◌≤◌, List, [], ◌∷◌, true, false, cond, Option, Some, None, unwrap_or, ap, sym, subst, refl, ◌∙◌, arith}
use Rattle.std.specs.declared.cmp.Ordering.{Ordering}
use Rattle.std.specs.Ordering.{eq_by_cmp}
use Rattle.std.specs.Cmp.{IsTotalOrder}
use Rattle.std.specs.List.Sorted.{IsStrictlySortedBy}
use Rattle.std.specs.Map.{keys_of, values_of}
use Rattle.std.proofs.lemmas.Cmp.{eq_by_cmp_equiv}
use Rattle.std.proofs.lemmas.List.Sums.{sum_by-cons}
use Rattle.std.proofs.lemmas.Map.Entries.{sum_by-remove_entry}
use Rattle.maps.specs.Maps.{IsMap, value_at, without_key, sum_values}
use Rattle.maps.specs.Words.{amount}
use Rattle.maps.proofs.Kept.{IsMap-without_key}
use Rattle.maps.proofs.Lookups.{none_below, value_at-without_key}
use Rattle.maps.proofs.Same.{value_at_first}
use Rattle.maps.proofs.Ties.{all_tied, is_equal}
use Rattle.gov_ids.specs.declared.Credential.{Credential}
use Rattle.gov_ids.specs.Orders.{credential_cmp}
use Rattle.gov_ids.proofs.Totals.{credential_total}
use Rattle.book_records.specs.declared.Registered.{Registered}
use Rattle.book_records.specs.Outputs.{lovelace_in}
use Rattle.stake_book.specs.Stakes.{HasRoom, Stakes, accounts_of, balances_in}
use Rattle.stake_book.specs.of_utxo_set.Utxos.{Utxos}
use Rattle.coin_frac.specs.declared.TheConstants.{SUPPLY_LIMIT}
use Rattle.view_map.specs.View.{frozen_of}
use Rattle.draft_changes.specs.Balances.{KeepsOutputs, NoneRises, balance_in}
use Rattle.draft_changes.specs.Changed.{with_registered, with_registrations}
use Rattle.draft_changes.specs.ChangedAccounts.{standing_of}
use Rattle.draft_changes.specs.declared.account_changes.Written.{Written}
use Rattle.draft_changes.proofs.AccountChanging.{IsMap-mapped, stands}
use Rattle.draft_changes.proofs.Laid.{value_at-with_options}
use Rattle.maps.proofs.Replaced.{IsMap-with_option, value_at-with_option}

-- ---- maps of which each value is at most that of another at its key

module _ {K X : Type 0} {cmp : K → K → Ordering} (o : IsTotalOrder cmp) (f : X → ℕ) where
  -- the value at a key
  abbrev at : List (K × X) → K → ℕ
  at es q = amount f (value_at cmp es q)

  -- behind the first entry, and without its key
  behind : (e : K × X) (es fs : List (K × X)) → IsMap cmp (e ∷ es) → IsMap cmp fs → ((q : K) → at (e ∷ es) q ≤ at fs q) → (q : K) → at es q ≤ at (without_key cmp e.0 fs) q
  unfolding IsStrictlySortedBy
  behind e es fs g h le q =
      let there : at (without_key cmp e.0 fs) q ≡ amount f (cond (eq_by_cmp cmp e.0 q) None (value_at cmp fs q)) = ap (λ (x : Option X). amount f x) (value_at-without_key o e.0 fs q h) in
      elim (eq_by_cmp cmp e.0 q) as (λ b. eq_by_cmp cmp e.0 q ≡ b → at (without_key cmp e.0 fs) q ≡ amount f (cond b None (value_at cmp fs q)) → at es q ≤ at (without_key cmp e.0 fs) q) [
        | true ↦ λ t there.
            let none : value_at cmp es q ≡ None = none_below cmp q es (all_tied o q e.0 (keys_of es) (is_equal _ ((eq_by_cmp_equiv o).symm q e.0 ∙ t)) g.0) in
            omega (arith, ap (λ (x : Option X). amount f x) none)
        | false ↦ λ t there.
            let here : at (e ∷ es) q ≡ at es q = ap (λ b. amount f (cond b (Some e.1) (value_at cmp es q))) ((eq_by_cmp_equiv o).symm q e.0 ∙ t) in
            omega (arith, here, there, le q)
      ] refl there

  -- have at most its sum
  pub sum-lower : (es fs : List (K × X)) → IsMap cmp es → IsMap cmp fs → ((q : K) → at es q ≤ at fs q) → sum_values f es ≤ sum_values f fs
  unfolding IsStrictlySortedBy
  sum-lower [] fs g h le = omega arith
  sum-lower (e ∷ es) fs g h le =
      let first : at (e ∷ es) e.0 ≡ f e.1 = ap (λ (x : Option X). amount f x) (value_at_first o e es) in
      omega (
        arith,
        sum-lower es (without_key cmp e.0 fs) g.1 (IsMap-without_key cmp e.0 fs h) (behind e es fs g h le),
        sum_by-cons f e.1 (values_of es),
        sum_by-remove_entry f (eq_by_cmp cmp e.0) fs,
        first,
        le e.0,
      )

-- ---- changes that are laid over one after another

module _ (e : Credential × Option Registered) (changes : List (Credential × Option Registered)) (accounts : List (Credential × Registered))
    (g : IsMap credential_cmp (e ∷ changes)) (h : IsMap credential_cmp accounts) (low : NoneRises (e ∷ changes) accounts) where
  -- with the first change
  abbrev next : List (Credential × Registered)
  next = with_registered e.0 e.1 accounts

  next_at : (q : Credential) → value_at credential_cmp next q ≡ cond (eq_by_cmp credential_cmp e.0 q) e.1 (value_at credential_cmp accounts q)
  next_at q = value_at-with_option credential_total e.0 e.1 accounts q h

  pub next_map : IsMap credential_cmp next
  next_map = IsMap-with_option credential_total e.0 e.1 accounts h

  -- no later change touches its key
  settled : (q : Credential) → eq_by_cmp credential_cmp e.0 q ≡ true → value_at credential_cmp (with_registrations changes next) q ≡ value_at credential_cmp next q
  unfolding IsStrictlySortedBy
  settled q t =
      let tie : eq_by_cmp credential_cmp q e.0 ≡ true = (eq_by_cmp_equiv credential_total).symm q e.0 ∙ t in
      let none : value_at credential_cmp changes q ≡ None = none_below credential_cmp q changes (all_tied credential_total q e.0 (keys_of changes) (is_equal _ tie) g.0) in
      value_at-with_options credential_total changes next q g.1 next_map ∙ ap (λ (x : Option (Option Registered)). unwrap_or x (value_at credential_cmp next q)) none

  -- nor does the first raise a balance, nor the others after it
  both_lower : (q : Credential) → (balance_in next q ≤ balance_in accounts q) × (balance_in (with_registrations changes next) q ≤ balance_in next q)
  both_lower q =
      elim (eq_by_cmp credential_cmp e.0 q) as (λ b. eq_by_cmp credential_cmp e.0 q ≡ b → value_at credential_cmp next q ≡ cond b e.1 (value_at credential_cmp accounts q)
      → (balance_in next q ≤ balance_in accounts q) × (balance_in (with_registrations changes next) q ≤ balance_in next q)) [
        | true ↦ λ t here.
            let last : balance_in (with_registrations changes next) q ≡ balance_in next q = ap (λ (x : Option Registered). amount (λ (r : Registered). r.rewards) x) (settled q t) in
            (omega (arith, last, low q), omega (arith, last))
        | false ↦ λ t here.
            let same : balance_in next q ≡ balance_in accounts q = ap (λ (x : Option Registered). amount (λ (r : Registered). r.rewards) x) here in
            (omega (arith, same), omega (arith, same, low q))
      ] refl (next_at q)

  pub next_lower : NoneRises changes next
  next_lower q = (both_lower q).1

  -- so the balances together are at most what they were
  pub next_sum : balances_in next ≤ balances_in accounts
  next_sum = sum-lower credential_total (λ (r : Registered). r.rewards) next accounts next_map h (λ q. (both_lower q).0)

-- ---- the book with changes so far

-- the rest of the changes, laid over the book so far, is all laid over the first book
-- it raises no balance, and there is room
pub record IsLaying (left : List (Credential × ℕ)) (all rest : List (Credential × Written)) (first now : Stakes) : Type 0 where
  pub ordered : IsMap credential_cmp rest
  pub in_order : IsMap credential_cmp (accounts_of now)
  pub room : HasRoom 0 now
  pub lower : NoneRises (standing_of left rest) (accounts_of now)
  pub same : with_registrations (standing_of left rest) (accounts_of now) ≡ with_registrations (standing_of left all) (accounts_of first)
  pub kept : KeepsOutputs first now

-- at the start
pub laying_begins : (left : List (Credential × ℕ)) (all rest : List (Credential × Written)) (first : Stakes) → rest ≡ all → IsMap credential_cmp all → IsMap credential_cmp (accounts_of first) → HasRoom 0 first
    → NoneRises (standing_of left all) (accounts_of first) → IsLaying left all rest first first
laying_begins left all rest first is ordered in_order room lower =
    subst (λ (es : List (Credential × Written)). IsLaying left all es first first) (sym is)
    (record { ordered = ordered; in_order = in_order; room = room; lower = lower; same = refl; kept = record { outputs = refl; frozen = refl } })

-- after the first change they are in order
behind_first : (e : Credential × Written) (es : List (Credential × Written)) → IsMap credential_cmp (e ∷ es) → IsMap credential_cmp es
unfolding IsStrictlySortedBy
behind_first e es g = g.1

module _ (left : List (Credential × ℕ)) (all rest : List (Credential × Written)) (first now : Stakes) (c : Credential) (w : Written) (h : IsLaying left all ((c, w) ∷ rest) first now) where
  -- the change that is laid
  abbrev change : Credential × Option Registered
  change = (c, stands left w)

  changes_map : IsMap credential_cmp (standing_of left ((c, w) ∷ rest))
  changes_map = IsMap-mapped (stands left) credential_cmp ((c, w) ∷ rest) h.ordered

  laying_sum : balances_in (with_registered c (stands left w) (accounts_of now)) ≤ balances_in (accounts_of now)
  laying_sum = next_sum change (standing_of left rest) (accounts_of now) changes_map h.in_order h.lower

  -- there is room for the next
  pub laying_room : lovelace_in now.outputs.outputs + balances_in (with_registered c (stands left w) (accounts_of now)) ≤ SUPPLY_LIMIT
  laying_room = omega (arith, laying_sum, h.room)

  -- it is laid
  pub laying_next : (new : Stakes) → accounts_of new ≡ with_registered c (stands left w) (accounts_of now) → new.outputs ≡ now.outputs
      → frozen_of credential_cmp new.accounts ≡ frozen_of credential_cmp now.accounts → IsLaying left all rest first new
  laying_next new is outputs frozen = record {
    ordered = behind_first (c, w) rest h.ordered;
    in_order = subst (λ (es : List (Credential × Registered)). IsMap credential_cmp es) (sym is) (next_map change (standing_of left rest) (accounts_of now) changes_map h.in_order h.lower);
    room = omega (
      arith,
      laying_sum,
      ap (λ (es : List (Credential × Registered)). balances_in es) is,
      ap (λ (u : Utxos). lovelace_in u.outputs) outputs,
      h.room,
    );
    lower = subst (λ (es : List (Credential × Registered)). NoneRises (standing_of left rest) es) (sym is) (next_lower change (standing_of left rest) (accounts_of now) changes_map h.in_order h.lower);
    same = ap (λ (es : List (Credential × Registered)). with_registrations (standing_of left rest) es) is ∙ h.same;
    kept = record { outputs = outputs ∙ h.kept.outputs; frozen = frozen ∙ h.kept.frozen };
  }
