-- The ledger of a genesis is sound, and holds its supply where no rule is broken.
use Rattle.std.proofs.Common.{◌≡◌, ℕ, List, [], ◌∷◌, Bool, true, false, cond, nat_lt, ◌||◌, Option, Some, None, map, filter_map, find, fold, sum_by, refl, ap, sym, subst, ◌∙◌, arith}
use Rattle.std.specs.Option.{option_map}
use Rattle.std.specs.List.{AllByRecursion, IsDistinct}
use Rattle.std.specs.List.Sorted.{IsStrictlySortedBy}
use Rattle.std.specs.Map.{keys_of, values_of}
use Rattle.std.specs.Cmp.{IsTotalOrder}
use Rattle.std.specs.declared.cmp.Ordering.{Ordering}
use Rattle.std.specs.Ordering.{eq_by_cmp}
use Rattle.std.proofs.lemmas.Bool.{eqb-true, not-false, or_left, or_parts, or_right}
use Rattle.std.proofs.lemmas.Cmp.{eq_by_cmp_equiv}
use Rattle.std.proofs.lemmas.List.Sums.{sum_by-cons}
use Rattle.run_model.specs.of_gov_model.Sides.{members_of}
use Rattle.maps.specs.Maps.{IsMap, has_member, in_order, sum_values, value_at, with_key, with_values}
use Rattle.maps.specs.Words.{repeats}
use Rattle.maps.proofs.Credits.{sum_by-plus}
use Rattle.maps.proofs.Kept.{IsMap-with_values}
use Rattle.maps.proofs.Several.{sum_values-with_values}
use Rattle.maps.proofs.Sets.{IsSet-in_order, has_member-with_key}
use Rattle.gov_ids.specs.declared.Address.{Address}
use Rattle.gov_ids.specs.declared.assets.AssetId.{AssetId}
use Rattle.gov_ids.specs.declared.Credential.{Credential}
use Rattle.gov_ids.specs.declared.Drep.{Drep}
use Rattle.gov_ids.specs.declared.OutRef.{OutRef}
use Rattle.gov_ids.specs.declared.PoolId.{PoolId}
use Rattle.gov_ids.specs.declared.TxId.{TxId}
use Rattle.run_model.specs.of_gov_actions.declared.state.HotState.TheVariants.{Hot}
use Rattle.gov_ids.specs.Orders.{credential_cmp, outref_cmp, pool_cmp, txid_cmp}
use Rattle.gov_ids.proofs.Totals.{credential_total, outref_total, pool_total, txid_total}
use Rattle.run_model.specs.of_book_records.declared.Output.{Output}
use Rattle.run_model.specs.of_book_records.declared.Registered.{Registered}
use Rattle.run_model.specs.of_book_records.declared.DrepState.{DrepState}
use Rattle.run_model.specs.of_book_records.declared.pool.Pool.{Pool}
use Rattle.run_model.specs.of_tx_records.declared.genesis.Genesis.{Genesis}
use Rattle.run_model.specs.of_tx_records.declared.genesis.GenesisCommittee.{GenesisCommittee}
use Rattle.run_model.specs.of_tx_records.declared.genesis.GenesisPool.{GenesisPool}
use Rattle.run_model.specs.of_tx_records.declared.genesis.GenesisRule.{GenesisRule}
use Rattle.genesis_balance.specs.Laws.{GenesisHoldsSupply, GenesisIsSound}
use Rattle.run_model.specs.Genesis.{genesis_checks, genesis_fault, genesis_sum, pool_ids, drep_ids, committee_of_genesis}
use Rattle.run_model.specs.of_tx_records.Limits.{genesis_members}
use Rattle.run_model.specs.of_coin_frac.declared.TheConstants.{SUPPLY_LIMIT}
use Rattle.maps.proofs.Fresh.{all-with_values, distinct_from_repeats}

pub empty_sorted : {K : Type 0} (cmp : K → K → Ordering) → IsStrictlySortedBy cmp []
unfolding IsStrictlySortedBy
empty_sorted cmp = tt

pub from_none : {K X : Type 0} {cmp : K → K → Ordering} → IsTotalOrder cmp → (new : List (K × X)) → IsMap cmp (with_values cmp new [])
from_none {cmp = cmp} o new = IsMap-with_values o new [] (empty_sorted cmp)

-- the members of a committee of a genesis stand in order
pub seated_first : (c : Option GenesisCommittee) → IsMap credential_cmp (members_of (option_map committee_of_genesis c))
seated_first None = empty_sorted credential_cmp
seated_first (Some c) = from_none credential_total (map (λ (m : Credential × ℕ × Option Credential). (m.0, m.1)) c.members)

-- ids of a set that is made key after key
abbrev made_set : List TxId → List TxId → List TxId
made_set s ks = fold (λ t k. with_key txid_cmp k t) s ks

stays : (ks s : List TxId) (q : TxId) → has_member txid_cmp s q ≡ true → has_member txid_cmp (made_set s ks) q ≡ true
stays [] s q h = h
stays (k ∷ ks) s q h = stays ks (with_key txid_cmp k s) q (has_member-with_key txid_total k s q ∙ or_right (eq_by_cmp txid_cmp k q) _ h)

abbrev Output4 : Type 0
Output4 = OutRef × Address × ℕ × List (AssetId × ℕ)

abbrev as_entry : Output4 → OutRef × Output
as_entry o = (o.0, record { address = o.1; lovelace = o.2; assets = o.3 })

all_in : (os : List Output4) (s : List TxId) → AllByRecursion (λ (r : OutRef). has_member txid_cmp (made_set s (map (λ (o : Output4). o.0.tx) os)) r.tx ≡ true) (keys_of (map as_entry os))
all_in [] s = tt
all_in (o ∷ os) s = (
  stays (map (λ (o : Output4). o.0.tx) os) (with_key txid_cmp o.0.tx s) o.0.tx (has_member-with_key txid_total o.0.tx s o.0.tx ∙ or_left _ (has_member txid_cmp s o.0.tx) ((eq_by_cmp_equiv txid_total).refl o.0.tx)),
  all_in os (with_key txid_cmp o.0.tx s),
)

-- what entries add up to that are put in from the start
module _ {A K X : Type 0} {cmp : K → K → Ordering} (o : IsTotalOrder cmp) (key : A → K) (made : A → X) (f : X → ℕ) where
  abbrev entry : A → K × X
  entry a = (key a, made a)

  keys : (xs : List A) → keys_of (map entry xs) ≡ map key xs
  keys [] = refl
  keys (x ∷ xs) = ap (λ (l : List K). key x ∷ l) (keys xs)

  sums : (xs : List A) → sum_values f (map entry xs) ≡ sum_by (λ a. f (made a)) xs
  sums [] = refl
  sums (x ∷ xs) = omega (arith, sums xs, sum_by-cons f (made x) (values_of (map entry xs)), sum_by-cons (λ a. f (made a)) x xs)

  nothing_at : (ks : List K) → AllByRecursion (λ q. value_at {X = X} cmp [] q ≡ None) ks
  nothing_at [] = tt
  nothing_at (k ∷ ks) = (refl, nothing_at ks)

  pub sum-started : (xs : List A) → repeats cmp (map key xs) ≡ false → sum_values f (with_values cmp (map entry xs) []) ≡ sum_by (λ a. f (made a)) xs
  sum-started xs r =
      omega (
        arith,
        sum_values-with_values o f (map entry xs) [] (subst (λ (l : List K). IsDistinct (eq_by_cmp cmp) l) (sym (keys xs)) (distinct_from_repeats cmp (map key xs) r)) (nothing_at (keys_of (map entry xs))),
        sums xs,
      )

-- the rules on a genesis, one after the other
abbrev fault_among : List (Bool × GenesisRule) → Option GenesisRule
fault_among cs = option_map (λ (c : Bool × GenesisRule). c.1) (find (λ (c : Bool × GenesisRule). c.0) cs)

record HasNoFault (cs : List (Bool × GenesisRule)) : Type 0 where
  none : fault_among cs ≡ None

fault_by : (b : Bool) (r : GenesisRule) (cs : List (Bool × GenesisRule)) → option_map (λ (c : Bool × GenesisRule). c.1) (cond b (Some (b, r)) (find (λ (c : Bool × GenesisRule). c.0) cs)) ≡ None → (b ≡ false) × HasNoFault cs
fault_by true r cs h = cc
fault_by false r cs h = (refl, record { none = h })

fault-cons : (b : Bool) (r : GenesisRule) (cs : List (Bool × GenesisRule)) → HasNoFault ((b, r) ∷ cs) → (b ≡ false) × HasNoFault cs
fault-cons b r cs h = fault_by b r cs h.none

abbrev Account5 : Type 0
Account5 = Credential × ℕ × ℕ × Option PoolId × Option Drep

abbrev as_registered : Account5 → Registered
as_registered a = record { deposit = a.1; rewards = a.2; pool = a.3; drep = a.4 }

abbrev as_pool : GenesisPool → Pool
as_pool p = record { deposit = p.deposit; terms = record { cost = p.cost; pledge = p.pledge; margin = p.margin; account = p.account; key = p.key }; future = None; retires = None }

abbrev Drep3 : Type 0
Drep3 = Credential × ℕ × ℕ

abbrev as_drep : Drep3 → DrepState
as_drep d = record { deposit = d.1; expiry = d.2 }

abbrev Member3 : Type 0
Member3 = Credential × ℕ × Option Credential

-- the ledger of a genesis is sound
pub genesis_is_sound : GenesisIsSound
genesis_is_sound g = record {
  outputs = from_none outref_total (map as_entry g.outputs);
  used = IsSet-in_order txid_total (map (λ (o : Output4). o.0.tx) g.outputs);
  accounts = from_none credential_total (map (λ (x : Account5). (x.0, as_registered x)) g.accounts);
  pools = from_none pool_total (map (λ (p : GenesisPool). (p.pool, as_pool p)) g.pools);
  dreps = from_none credential_total (map (λ (x : Drep3). (x.0, as_drep x)) g.dreps);
  hot = from_none credential_total (filter_map (λ (m : Member3). option_map (λ (key : Credential). (m.0, Hot key)) m.2) (genesis_members g.committee));
  ids_used = all-with_values outref_cmp (λ (r : OutRef). has_member txid_cmp (in_order txid_cmp (map (λ (o : Output4). o.0.tx) g.outputs)) r.tx ≡ true) (map as_entry g.outputs) [] (all_in g.outputs []) tt;
}

-- what holds where a genesis breaks no rule
pub record IsUnbrokenGenesis (g : Genesis) : Type 0 where
  pub within : nat_lt SUPPLY_LIMIT g.supply ≡ false
  pub outputs_apart : repeats outref_cmp (map (λ (o : Output4). o.0) g.outputs) ≡ false
  pub accounts_apart : repeats credential_cmp (map (λ (x : Account5). x.0) g.accounts) ≡ false
  pub pools_apart : repeats pool_cmp (pool_ids g) ≡ false
  pub dreps_apart : repeats credential_cmp (drep_ids g) ≡ false
  pub sum : genesis_sum g ≡ g.supply

pub unbroken_genesis : (g : Genesis) → genesis_fault g ≡ None → IsUnbrokenGenesis g
unbroken_genesis g h =
    let start : HasNoFault (genesis_checks g) = record { none = h } in
    let a = fault-cons _ _ _ start in
    let b = fault-cons _ _ _ a.1 in
    let c = fault-cons _ _ _ b.1 in
    let d = fault-cons _ _ _ c.1 in
    let e = fault-cons _ _ _ d.1 in
    let members = repeats credential_cmp (map (λ m. m.0) (genesis_members g.committee)) in
    let outputs = repeats outref_cmp (map (λ (o : Output4). o.0) g.outputs) in
    let accounts = repeats credential_cmp (map (λ (x : Account5). x.0) g.accounts) in
    let pools = repeats pool_cmp (pool_ids g) in
    let r4 = or_parts (members || outputs || accounts || pools) (repeats credential_cmp (drep_ids g)) b.0 in
    let r3 = or_parts (members || outputs || accounts) pools r4.0 in
    let r2 = or_parts (members || outputs) accounts r3.0 in
    let r1 = or_parts members outputs r2.0 in
    record {
      within = a.0;
      outputs_apart = r1.1;
      accounts_apart = r2.1;
      pools_apart = r3.1;
      dreps_apart = r4.1;
      sum = eqb-true (genesis_sum g) g.supply (not-false _ e.0);
    }

-- its pots hold its supply where it breaks no rule
pub genesis_holds_supply : GenesisHoldsSupply
genesis_holds_supply g h =
    let u = unbroken_genesis g h in
    omega (
      arith,
      u.sum,
      sum-started outref_total (λ (o : Output4). o.0) (λ (o : Output4). let x : Output = record { address = o.1; lovelace = o.2; assets = o.3 } in x) (λ (x : Output). x.lovelace) g.outputs u.outputs_apart,
      sum-started credential_total (λ (x : Account5). x.0) as_registered (λ (r : Registered). r.deposit) g.accounts u.accounts_apart,
      sum-started credential_total (λ (x : Account5). x.0) as_registered (λ (r : Registered). r.rewards) g.accounts u.accounts_apart,
      sum-started pool_total (λ (p : GenesisPool). p.pool) as_pool (λ (p : Pool). p.deposit) g.pools u.pools_apart,
      sum-started credential_total (λ (x : Drep3). x.0) as_drep (λ (s : DrepState). s.deposit) g.dreps u.dreps_apart,
      sum_by-plus (λ (x : Account5). x.1) (λ (x : Account5). x.2) g.accounts,
    )
