-- Books into which the accounts, outputs, pools and DReps of a genesis are put one by one.
use Rattle.std.proofs.Common.{◌≡◌, ℕ, ◌+◌, ◌<◌, ◌≤◌, List, [], ◌∷◌, Option, None, false, drop, fold, get_or, length, map, sum_by, refl, ap, sym, subst, ◌∙◌, arith}
use Rattle.std.specs.declared.cmp.Ordering.{Ordering}
use Rattle.std.specs.declared.cmp.Ordering.TheVariants.{Less, Equal, Greater}
use Rattle.std.specs.Ordering.{match_ordering}
use Rattle.std.specs.List.{AllByRecursion}
use Rattle.std.specs.Map.{keys_of, values_of}
use Rattle.std.proofs.lemmas.Bool.{ltb-false}
use Rattle.std.proofs.lemmas.List.{at_drop_more, drop_more}
use Rattle.std.proofs.lemmas.List.Sums.{sum_by-cons, sum_by-drop_more}
use Rattle.gov_ids.specs.declared.Address.{Address}
use Rattle.gov_ids.specs.declared.assets.AssetId.{AssetId}
use Rattle.gov_ids.specs.declared.Credential.{Credential}
use Rattle.gov_ids.specs.declared.Drep.{Drep}
use Rattle.gov_ids.specs.declared.OutRef.{OutRef}
use Rattle.gov_ids.specs.declared.PoolId.{PoolId}
use Rattle.gov_ids.specs.declared.TxId.{TxId}
use Rattle.gov_ids.specs.Orders.{credential_cmp, outref_cmp, pool_cmp, txid_cmp}
use Rattle.gov_ids.proofs.Totals.{credential_total, outref_total}
use Rattle.book_records.specs.Outputs.{lovelace_in}
use Rattle.book_records.specs.declared.DrepState.{DrepState}
use Rattle.book_records.specs.declared.Output.{Output}
use Rattle.book_records.specs.declared.Registered.{Registered}
use Rattle.book_records.specs.declared.pool.Pool.{Pool}
use Rattle.book_records.specs.Pools.{pool_after}
use Rattle.maps.proofs.Credits.{sum_by-plus}
use Rattle.maps.proofs.Fresh.{AreFresh, distinct_from_repeats, fresh_from_absent}
use Rattle.maps.proofs.Sums.{sum_values-with_value_absent}
use Rattle.maps.specs.Maps.{sum_values, value_at, with_key, with_value, with_values}
use Rattle.maps.specs.Words.{repeats}
use Rattle.tx_records.specs.declared.genesis.Genesis.{Genesis}
use Rattle.tx_records.specs.declared.genesis.GenesisPool.{GenesisPool}
use Rattle.coin_frac.specs.declared.TheConstants.{SUPPLY_LIMIT}
use Rattle.genesis_balance.proofs.Start.{sum-started, unbroken_genesis}
use Rattle.genesis_balance.specs.of_run_model.Genesis.{genesis_fault, ledger_of_genesis}
use Rattle.drep_book.specs.Dreps.{Dreps}
use Rattle.stake_book.specs.Stakes.{balances_in}
use Rattle.stake_book.specs.of_utxo_set.Utxos.{Utxos}
use Rattle.genesis_books.proofs.Walks.{walk_on}

-- ---- the accounts

abbrev pub Account5 : Type 0
Account5 = Credential × ℕ × ℕ × Option PoolId × Option Drep

-- what is stored of an account of a genesis
abbrev pub first_registered : Account5 → Registered
first_registered a = record { deposit = a.1; rewards = a.2; pool = a.3; drep = a.4 }

-- its balance
abbrev pub listed_rewards : Account5 → ℕ
listed_rewards a = a.2

-- with these accounts
abbrev pub with_listed : List Account5 → List (Credential × Registered) → List (Credential × Registered)
with_listed new es = with_values credential_cmp (map (λ (a : Account5). (a.0, first_registered a)) new) es

pub listed_next : (new : List Account5) (i : ℕ) (d : Account5) (es fs : List (Credential × Registered)) → i < length new → fs ≡ with_value credential_cmp (get_or new i d).0 (first_registered (get_or new i d)) es
    → with_listed (drop (i + 1) new) fs ≡ with_listed (drop i new) es
listed_next new i d es fs l e = walk_on with_listed (λ es a. with_value credential_cmp a.0 (first_registered a) es) (λ a rest es. refl) new i d es fs l e

-- a value that is put in adds at most itself
pub sum_values-most : {K X : Type 0} (f : X → ℕ) (cmp : K → K → Ordering) (k : K) (v : X) (es : List (K × X)) → sum_values f (with_value cmp k v es) ≤ sum_values f es + f v
sum_values-most f cmp k v [] = omega (arith, sum_by-cons f v [])
sum_values-most f cmp k v (e ∷ es) =
    elim (cmp k e.0) as (λ r. sum_values f (match_ordering r ((k, v) ∷ e ∷ es) ((e.0, v) ∷ es) (e ∷ with_value cmp k v es)) ≤ sum_values f (e ∷ es) + f v) [
      | Less ↦ omega (arith, sum_by-cons f v (values_of (e ∷ es)))
      | Equal ↦ omega (arith, sum_by-cons f v (values_of es), sum_by-cons f e.1 (values_of es))
      | Greater ↦ omega (arith, sum_by-cons f e.1 (values_of (with_value cmp k v es)), sum_by-cons f e.1 (values_of es), sum_values-most f cmp k v es)
    ]

-- there is room for the first of what is left
pub listed_room : (new : List Account5) (i : ℕ) (d : Account5) (es : List (Credential × Registered)) (n : ℕ) → i < length new → n ≡ 0 → balances_in es + sum_by listed_rewards (drop i new) ≤ SUPPLY_LIMIT
    → n + balances_in (with_value credential_cmp (get_or new i d).0 (first_registered (get_or new i d)) es) ≤ SUPPLY_LIMIT
listed_room new i d es n l none h =
    omega (arith, none, h, sum_by-drop_more listed_rewards new i d l, sum_values-most (λ (r : Registered). r.rewards) credential_cmp (get_or new i d).0 (first_registered (get_or new i d)) es)

-- and for the others after it
pub listed_room_after : (new : List Account5) (i : ℕ) (d : Account5) (es fs : List (Credential × Registered)) → i < length new → fs ≡ with_value credential_cmp (get_or new i d).0 (first_registered (get_or new i d)) es
    → balances_in es + sum_by listed_rewards (drop i new) ≤ SUPPLY_LIMIT → balances_in fs + sum_by listed_rewards (drop (i + 1) new) ≤ SUPPLY_LIMIT
listed_room_after new i d es fs l e h =
    omega (
      arith,
      h,
      ap (λ (gs : List (Credential × Registered)). balances_in gs) e,
      sum_by-drop_more listed_rewards new i d l,
      sum_values-most (λ (r : Registered). r.rewards) credential_cmp (get_or new i d).0 (first_registered (get_or new i d)) es,
    )

-- the outputs and balances of a genesis that breaks no rule are within the limit
pub first_room : (g : Genesis) → genesis_fault g ≡ None → sum_by (λ o. o.2) g.outputs + sum_by listed_rewards g.accounts ≤ SUPPLY_LIMIT
first_room g h =
    let u = unbroken_genesis g h in
    omega (arith, u.sum, ltb-false SUPPLY_LIMIT g.supply u.within, sum_by-plus (λ (a : Account5). a.1) listed_rewards g.accounts)

-- the balances are those of its accounts
pub first_balances : (g : Genesis) → genesis_fault g ≡ None → balances_in (ledger_of_genesis g).accounts ≡ sum_by listed_rewards g.accounts
first_balances g h = sum-started credential_total (λ (a : Account5). a.0) first_registered (λ (r : Registered). r.rewards) g.accounts (unbroken_genesis g h).accounts_apart

-- ---- the outputs

none_in_empty : (ks : List OutRef) → AllByRecursion (λ q. value_at {X = Output} outref_cmp [] q ≡ None) ks
none_in_empty [] = tt
none_in_empty (k ∷ ks) = (refl, none_in_empty ks)

abbrev pub Output4 : Type 0
Output4 = OutRef × Address × ℕ × List (AssetId × ℕ)

-- what the book has of an output of a genesis
abbrev pub first_entry : Output4 → OutRef × Output
first_entry o = (o.0, record { address = o.1; lovelace = o.2; assets = o.3 })

-- the lovelace of an output of a genesis
abbrev pub listed_lovelace : Output4 → ℕ
listed_lovelace o = o.2

-- the book when these are put in, with their ids
abbrev pub with_first : List Output4 → Utxos → Utxos
with_first new u = record {
  outputs = with_values outref_cmp (map first_entry new) u.outputs;
  used = fold (λ (s : List TxId) (k : TxId). with_key txid_cmp k s) u.used (map (λ (o : Output4). o.0.tx) new);
}

first_keys : (new : List Output4) → keys_of (map first_entry new) ≡ map (λ (o : Output4). o.0) new
first_keys [] = refl
first_keys (x ∷ xs) = ap (λ (ks : List OutRef). x.0 ∷ ks) (first_keys xs)

-- outputs that do not repeat are new to the empty book
pub first_new : (new : List Output4) → repeats outref_cmp (map (λ (o : Output4). o.0) new) ≡ false → AreFresh outref_cmp (map first_entry new) []
first_new new h =
    fresh_from_absent outref_total (map first_entry new) [] (distinct_from_repeats outref_cmp (keys_of (map first_entry new)) (ap (λ (ks : List OutRef). repeats outref_cmp ks) (first_keys new) ∙ h))
    (none_in_empty (keys_of (map first_entry new)))

-- there is room for the first of what is left beside the balances
pub output_room : (new : List Output4) (i : ℕ) (d o : Output4) (es : List (OutRef × Output)) (balances all rewards : ℕ) → i < length new → o ≡ get_or new i d
    → lovelace_in es + sum_by listed_lovelace (drop i new) ≡ all → balances ≡ rewards → all + rewards ≤ SUPPLY_LIMIT → lovelace_in es + balances + listed_lovelace o ≤ SUPPLY_LIMIT
output_room new i d o es balances all rewards l here sum same room = omega (arith, sum, same, room, sum_by-drop_more listed_lovelace new i d l, ap listed_lovelace here)

-- an output of what is left is put in, with a copy of its assets
module _ (new : List Output4) (u v w : Utxos) (i : ℕ) (d o : Output4) (assets : List (AssetId × ℕ)) (l : i < length new) (here : o ≡ get_or new i d) (is : assets ≡ o.3) where
  abbrev item : Output4
  item = get_or new i d

  abbrev made : Output
  made = record { address = o.1; lovelace = o.2; assets = assets }

  fresh_next : AreFresh outref_cmp (map first_entry (drop i new)) u.outputs → AreFresh outref_cmp (map first_entry (item ∷ drop (i + 1) new)) u.outputs
  fresh_next h = subst (λ (left : List Output4). AreFresh outref_cmp (map first_entry left) u.outputs) (drop_more new i d l) h

  same_put : (es : List (OutRef × Output)) → with_value outref_cmp o.0 made es ≡ with_value outref_cmp item.0 (first_entry item).1 es
  same_put es =
      ap (λ (q : List (AssetId × ℕ)). with_value outref_cmp o.0 (record { address = o.1; lovelace = o.2; assets = q }) es) is
      ∙ ap (λ (p : Output4). with_value outref_cmp p.0 (first_entry p).1 es) here

  -- it comes to a key with no value
  pub first_absent : AreFresh outref_cmp (map first_entry (drop i new)) u.outputs → value_at outref_cmp u.outputs o.0 ≡ None
  first_absent h = ap (λ (p : Output4). value_at outref_cmp u.outputs p.0) here ∙ (fresh_next h).0

  -- after it the others are new
  pub first_fresh : AreFresh outref_cmp (map first_entry (drop i new)) u.outputs → w.outputs ≡ with_value outref_cmp o.0 made u.outputs
      → AreFresh outref_cmp (map first_entry (drop (i + 1) new)) w.outputs
  first_fresh h e = subst (λ (us : List (OutRef × Output)). AreFresh outref_cmp (map first_entry (drop (i + 1) new)) us) (sym (e ∙ same_put u.outputs)) (fresh_next h).1

  -- and the sum with the others stays
  pub first_sum : (s : ℕ) → AreFresh outref_cmp (map first_entry (drop i new)) u.outputs → lovelace_in u.outputs + sum_by listed_lovelace (drop i new) ≡ s
      → w.outputs ≡ with_value outref_cmp o.0 made u.outputs → lovelace_in w.outputs + sum_by listed_lovelace (drop (i + 1) new) ≡ s
  first_sum s h e p =
      omega (
        arith,
        ap (λ (us : List (OutRef × Output)). lovelace_in us) (p ∙ same_put u.outputs),
        sum_values-with_value_absent (λ o. o.lovelace) outref_cmp item.0 (first_entry item).1 u.outputs (fresh_next h).0,
        sum_by-drop_more listed_lovelace new i d l,
      )

  -- and the book with the others
  pub first_rest : v ≡ record u { outputs = with_value outref_cmp o.0 made u.outputs } → w ≡ record v { used = with_key txid_cmp o.0.tx v.used }
      → with_first (drop (i + 1) new) w ≡ with_first (drop i new) u
  first_rest p q =
      let put = p ∙ ap (λ (es : List (OutRef × Output)). record u { outputs = es }) (same_put u.outputs) in
      let marked = q ∙ ap (λ (x : Output4). record v { used = with_key txid_cmp x.0.tx v.used }) here in
      sym (at_drop_more (λ (left : List Output4). with_first left u) new i d l ∙ rw (marked, put))

-- ---- the pools

-- what is registered of a pool of a genesis
abbrev pub first_pool : GenesisPool → Pool
first_pool p = pool_after p.deposit (record { cost = p.cost; pledge = p.pledge; margin = p.margin; account = p.account; key = p.key }) None

-- with these pools
abbrev pub with_listed_pools : List GenesisPool → List (PoolId × Pool) → List (PoolId × Pool)
with_listed_pools new es = with_values pool_cmp (map (λ (p : GenesisPool). (p.pool, first_pool p)) new) es

pub pools_next : (new : List GenesisPool) (i : ℕ) (d p : GenesisPool) (v : Pool) (es fs : List (PoolId × Pool)) → i < length new → p ≡ get_or new i d → v ≡ first_pool p → fs ≡ with_value pool_cmp p.pool v es
    → with_listed_pools (drop (i + 1) new) fs ≡ with_listed_pools (drop i new) es
pools_next new i d p v es fs l here is put =
    walk_on with_listed_pools (λ es p. with_value pool_cmp p.pool (first_pool p) es) (λ p rest es. refl) new i d es fs l
    (put ∙ ap (λ (x : Pool). with_value pool_cmp p.pool x es) is ∙ ap (λ (x : GenesisPool). with_value pool_cmp x.pool (first_pool x) es) here)

-- ---- the DReps

abbrev pub Drep3 : Type 0
Drep3 = Credential × ℕ × ℕ

abbrev pub first_drep : Drep3 → DrepState
first_drep d = record { deposit = d.1; expiry = d.2 }

-- with these DReps
abbrev pub with_listed_dreps : List Drep3 → Dreps → Dreps
with_listed_dreps new b = record b { dreps = with_values credential_cmp (map (λ (d : Drep3). (d.0, first_drep d)) new) b.dreps }

pub dreps_next : (new : List Drep3) (i : ℕ) (d : Drep3) (b c : Dreps) → i < length new → c ≡ record b { dreps = with_value credential_cmp (get_or new i d).0 (first_drep (get_or new i d)) b.dreps }
    → with_listed_dreps (drop (i + 1) new) c ≡ with_listed_dreps (drop i new) b
dreps_next new i d b c l e = walk_on with_listed_dreps (λ (b : Dreps) (p : Drep3). record b { dreps = with_value credential_cmp p.0 (first_drep p) b.dreps }) (λ p rest b. refl) new i d b c l e
