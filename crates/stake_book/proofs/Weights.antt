-- What the entries weigh, by the outputs.
use Rattle.std.proofs.Common.{◌≡◌, ℕ, ◌+◌, ◌≤◌, List, [], ◌∷◌, true, false, cond, Option, Some, None, option_map, sum_by, refl, ap, sym, ◌∙◌, arith}
use Rattle.std.specs.declared.cmp.Ordering.TheVariants.{Less}
use Rattle.std.specs.List.{AllByRecursion, cons_option}
use Rattle.std.specs.List.Sorted.{IsStrictlySortedBy}
use Rattle.std.specs.Map.{keys_of, values_of}
use Rattle.std.specs.Ordering.{is_eq, ordering_reverse}
use Rattle.std.proofs.lemmas.List.Sums.{sum_by-cons}
use Rattle.gov_ids.specs.declared.Credential.{Credential}
use Rattle.gov_ids.specs.declared.OutRef.{OutRef}
use Rattle.gov_ids.specs.declared.PoolId.{PoolId}
use Rattle.gov_ids.specs.Orders.{credential_cmp}
use Rattle.gov_ids.specs.Same.{same_credential, same_pool}
use Rattle.gov_ids.proofs.Totals.{credential_total}
use Rattle.book_records.specs.declared.Entry.{Entry}
use Rattle.book_records.specs.declared.Output.{Output}
use Rattle.book_records.specs.declared.Registered.{Registered}
use Rattle.book_records.specs.Outputs.{lovelace_in}
use Rattle.coin_frac.specs.declared.TheConstants.{SUPPLY_LIMIT}
use Rattle.maps.proofs.Credits.{sum_by-plus, sum-only_at}
use Rattle.maps.proofs.Joined.{at_most}
use Rattle.maps.proofs.Same.{value_at_first}
use Rattle.maps.specs.Maps.{IsMap, value_at, has_key, entries_where, sum_values}
use Rattle.maps.specs.Words.{amount, holds}
use Rattle.stake_book.specs.Stakes.{Stakes, AreKept, registrations, stake_held, stake_at, pool_stake_in}
use Rattle.stake_book.specs.Sums.{balance_of, share_of, weight_in}
use Rattle.stake_book.proofs.Registrations.{balances_is}
use Rattle.stake_book.proofs.Sums.{counts, held_is}

-- each entry is where a search for its credential finds it
abbrev IsThere : List (Credential × Entry) → Credential × Entry → Type 0
IsThere all e = value_at credential_cmp all e.0 ≡ Some e.1

later : (e : Credential × Entry) (es fs : List (Credential × Entry)) → AllByRecursion (λ q. credential_cmp e.0 q ≡ Less) (keys_of fs) → AllByRecursion (IsThere es) fs → AllByRecursion (IsThere (e ∷ es)) fs
later e es [] h t = tt
later e es (f ∷ fs) h t =
    let apart : same_credential f.0 e.0 ≡ false = ap is_eq (credential_total.antisymm f.0 e.0 ∙ ap ordering_reverse h.0) in
    (ap (λ b. cond b (Some e.1) (value_at credential_cmp es f.0)) apart ∙ t.0, later e es fs h.1 t.1)

all_there : (es : List (Credential × Entry)) → IsMap credential_cmp es → AllByRecursion (IsThere es) es
unfolding IsStrictlySortedBy
all_there [] h = tt
all_there (e ∷ es) h = (value_at_first credential_total e es, later e es es h.0 (all_there es h.1))

-- each entry's stake is what the outputs hold
abbrev IsHeld : List (OutRef × Output) → Credential × Entry → Type 0
IsHeld outputs e = e.1.stake ≡ stake_held outputs e.0

held_there : (outputs : List (OutRef × Output)) (all es : List (Credential × Entry)) → ((c : Credential) → stake_at all c ≡ stake_held outputs c) → AllByRecursion (IsThere all) es → AllByRecursion (IsHeld outputs) es
held_there outputs all [] k t = tt
held_there outputs all (e ∷ es) k t = (ap (λ (x : Option Entry). amount (λ (e : Entry). e.stake) x) (sym t.0) ∙ k e.0, held_there outputs all es k t.1)

all_held : (s : Stakes) → AreKept s → AllByRecursion (IsHeld s.outputs.outputs) s.accounts.live
all_held s k = held_there s.outputs.outputs s.accounts.live s.accounts.live k.stakes (all_there s.accounts.live k.live)

abbrev stake_of : Entry → ℕ
stake_of e = e.stake

stakes_held : (outputs : List (OutRef × Output)) (es : List (Credential × Entry)) → AllByRecursion (IsHeld outputs) es → sum_values stake_of es ≡ sum_by (λ (e : Credential × Entry). stake_held outputs e.0) es
stakes_held outputs [] h = refl
stakes_held outputs (e ∷ es) h = omega (arith, h.0, stakes_held outputs es h.1, sum_by-cons stake_of e.1 (values_of es), sum_by-cons (λ (e : Credential × Entry). stake_held outputs e.0) e es)

zeros : (es : List (Credential × Entry)) → sum_by (λ (e : Credential × Entry). 0) es ≡ 0
zeros [] = refl
zeros (e ∷ es) = omega (arith, zeros es, sum_by-cons (λ (e : Credential × Entry). 0) e es)

-- an output counts for one credential at most
counted_once : (o : Output) (es : List (Credential × Entry)) → IsMap credential_cmp es → sum_by (λ (e : Credential × Entry). counts e.0 o) es ≤ o.lovelace
counted_once o es h =
    elim o.address.stake as (λ (x : Option Credential). sum_by (λ (e : Credential × Entry). cond (holds same_credential x e.0) o.lovelace 0) es ≤ o.lovelace) [
      | None ↦ omega (arith, zeros es)
      | Some c ↦ omega (arith, sum-only_at credential_total c o.lovelace es h, at_most (has_key credential_cmp es c) o.lovelace)
    ]

counted_within : (outputs : List (OutRef × Output)) (es : List (Credential × Entry)) → IsMap credential_cmp es → sum_by (λ (e : Credential × Entry). sum_values (counts e.0) outputs) es ≤ lovelace_in outputs
counted_within [] es h = omega (arith, zeros es)
counted_within (o ∷ outputs) es h =
    let split : sum_by (λ (e : Credential × Entry). sum_values (counts e.0) (o ∷ outputs)) es ≡ sum_by (λ (e : Credential × Entry). counts e.0 o.1 + sum_values (counts e.0) outputs) es = λ i. sum_by (λ (e : Credential × Entry). sum_by-cons (counts e.0) o.1 (values_of outputs) i) es in
    omega (
      arith,
      split,
      sum_by-plus (λ (e : Credential × Entry). counts e.0 o.1) (λ (e : Credential × Entry). sum_values (counts e.0) outputs) es,
      counted_once o.1 es h,
      counted_within outputs es h,
      sum_by-cons (λ (o : Output). o.lovelace) o.1 (values_of outputs),
    )

held_within : (outputs : List (OutRef × Output)) (es : List (Credential × Entry)) → IsMap credential_cmp es → sum_by (λ (e : Credential × Entry). stake_held outputs e.0) es ≤ lovelace_in outputs
held_within outputs es h =
    let same : sum_by (λ (e : Credential × Entry). stake_held outputs e.0) es ≡ sum_by (λ (e : Credential × Entry). sum_values (counts e.0) outputs) es = λ i. sum_by (λ (e : Credential × Entry). held_is outputs e.0 i) es in
    omega (arith, same, counted_within outputs es h)

-- all stakes and balances together are within the greatest supply
pub weight_within : (s : Stakes) → AreKept s → weight_in s.accounts.live ≤ SUPPLY_LIMIT
weight_within s k =
    omega (
      arith,
      sum_by-plus stake_of balance_of (values_of s.accounts.live),
      stakes_held s.outputs.outputs s.accounts.live (all_held s k),
      held_within s.outputs.outputs s.accounts.live k.live,
      balances_is s.accounts.live,
      k.room,
    )

abbrev staked : List (OutRef × Output) → Credential × Registered → ℕ
staked outputs a = stake_held outputs a.0 + a.1.rewards

shares_are : (outputs : List (OutRef × Output)) (p : PoolId) (es : List (Credential × Entry)) → AllByRecursion (IsHeld outputs) es
    → sum_by (staked outputs) (entries_where (λ c (r : Registered). holds same_pool r.pool p) (registrations es)) ≡ sum_values (share_of p) es
shares_are outputs p [] h = refl
shares_are outputs p (e ∷ es) h =
    let rest : List (Credential × Registered) = entries_where (λ c (r : Registered). holds same_pool r.pool p) (registrations es) in
    elim e.1.registered as (λ (o : Option Registered). sum_by (staked outputs) (entries_where (λ c (r : Registered). holds same_pool r.pool p) (cons_option (option_map (λ (r : Registered). (e.0, r)) o) (registrations es)))
    ≡ share_of p (record { stake = e.1.stake; registered = o }) + sum_values (share_of p) es) [
      | None ↦ omega (arith, shares_are outputs p es h.1)
      | Some r ↦
          elim (holds same_pool r.pool p) as (λ b. sum_by (staked outputs) (cond b ((e.0, r) ∷ rest) rest) ≡ cond b (e.1.stake + r.rewards) 0 + sum_values (share_of p) es) [
            | true ↦ omega (arith, h.0, shares_are outputs p es h.1, sum_by-cons (staked outputs) (e.0, r) rest)
            | false ↦ omega (arith, shares_are outputs p es h.1)
          ]
    ]
    ∙ sym (sum_by-cons (share_of p) e.1 (values_of es))

-- the stake of a pool is what the entries give to it
pub pool_stake_is : (s : Stakes) (p : PoolId) → AreKept s → pool_stake_in s p ≡ sum_values (share_of p) s.accounts.live
pool_stake_is s p k = shares_are s.outputs.outputs p s.accounts.live (all_held s k)
