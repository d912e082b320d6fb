-- A genesis of the form gives a World of the form.
use Rattle.std.proofs.Common.{◌≡◌, ℕ, List, [], ◌∷◌, true, Option, Some, None, filter_map, map, nat_le, refl}
use Rattle.std.specs.List.{AllByRecursion, cons_option, list_all}
use Rattle.std.specs.Option.{option_map}
use Rattle.std.proofs.lemmas.Bool.{and_from}
use Rattle.maps.specs.Maps.{with_values}
use Rattle.maps.specs.Words.{none_or}
use Rattle.gov_ids.specs.declared.Address.{Address}
use Rattle.gov_ids.specs.declared.assets.AssetId.{AssetId}
use Rattle.gov_ids.specs.declared.Credential.{Credential}
use Rattle.gov_ids.specs.declared.Drep.{Drep}
use Rattle.gov_ids.specs.declared.OutRef.{OutRef}
use Rattle.gov_ids.specs.declared.PoolId.{PoolId}
use Rattle.gov_ids.specs.Orders.{credential_cmp, outref_cmp, pool_cmp, txid_cmp}
use Rattle.book_records.specs.declared.DrepState.{DrepState}
use Rattle.book_records.specs.declared.Output.{Output}
use Rattle.book_records.specs.declared.pool.Pool.{Pool}
use Rattle.book_records.specs.declared.Registered.{Registered}
use Rattle.gov_actions.specs.declared.state.HotState.{HotState}
use Rattle.gov_actions.specs.declared.state.HotState.TheVariants.{Hot}
use Rattle.tx_records.specs.declared.genesis.Genesis.{Genesis}
use Rattle.tx_records.specs.declared.genesis.GenesisCommittee.{GenesisCommittee}
use Rattle.tx_records.specs.declared.genesis.GenesisPool.{GenesisPool}
use Rattle.tx_records.specs.GenesisLimits as genesis_limits
use Rattle.tx_records.specs.declared.limits.TheConstants.{LEAST_MAJOR}
use Rattle.tx_records.specs.Limits.{is_slot, is_u64}
use Rattle.ledger_model.specs.Ledger.{Ledger}
use Rattle.run_model.specs.Boundary.{pool_stakes}
use Rattle.run_model.specs.Genesis.{committee_of_genesis, first_marked, hot_of_genesis, ledger_of_genesis, state_of_genesis, world_of_genesis}
use Rattle.run_model.specs.SoundWorld.{IsSoundWorld}
use Rattle.run_laws.proofs.Sound.{genesis_begins_sound}
use Rattle.dormant_laws.proofs.Lists.{left_of, right_of}
use Rattle.text_forms.specs.Actions.{is_version}
use Rattle.text_forms.specs.Books.{are_held_assets, are_terms, is_hot_state}
use Rattle.text_forms.specs.Ids.{is_address, is_credential, is_pool_id, is_ref, is_tx_id}
use Rattle.formed_laws.specs.Laws.{GenesisHasForm}
use Rattle.formed_laws.specs.Records.{are_targets, is_first_account, is_first_committee, is_first_drep, is_first_member, is_first_output, is_first_pool, is_formed_genesis, is_founded}
use Rattle.formed_laws.proofs.Each.{Each, all-in_order, each-with_values}
use Rattle.formed_laws.proofs.Enacting.{each_members}
use Rattle.formed_laws.proofs.Parts.{HasParts, HasState, is_kept_account, is_kept_drep, is_kept_output, is_kept_pool, is_seated}
use Rattle.formed_laws.proofs.Steps.{IsFormed, test_from_formed}
use Rattle.formed_laws.proofs.Whole.{pools_named, snapshot_formed, stakes_formed}

abbrev Output4 : Type 0
Output4 = OutRef × Address × ℕ × List (AssetId × ℕ)

abbrev pub Account5 : Type 0
Account5 = Credential × ℕ × ℕ × Option PoolId × Option Drep

abbrev Member3 : Type 0
Member3 = Credential × ℕ × Option Credential

abbrev as_output : Output4 → Output
as_output o = record { address = o.1; lovelace = o.2; assets = o.3 }

abbrev pub as_registered : Account5 → Registered
as_registered a = record { deposit = a.1; rewards = a.2; pool = a.3; drep = a.4 }

abbrev as_pool : GenesisPool → Pool
as_pool p = record {
  deposit = p.deposit;
  terms = record { cost = p.cost; pledge = p.pledge; margin = p.margin; account = p.account; key = p.key };
  future = None;
  retires = None;
}

abbrev as_drep : Credential × ℕ × ℕ → DrepState
as_drep d = record { deposit = d.1; expiry = d.2 }

-- ---- lists

outputs_each : (os : List Output4) → list_all is_first_output os ≡ true → Each is_ref is_kept_output (map (λ (o : Output4). (o.0, as_output o)) os)
outputs_each [] h = tt
outputs_each (o ∷ os) h =
    let here : is_first_output o ≡ true = left_of (is_first_output o) (list_all is_first_output os) h in
    let lovelace = left_of _ _ here in
    let address = left_of _ _ lovelace in
    let at : is_address o.1 ≡ true = right_of _ _ address in
    let amount : is_u64 o.2 ≡ true = right_of _ _ lovelace in
    let held : are_held_assets o.3 ≡ true = right_of _ _ here in
    ((left_of _ _ address, and_from _ _ (and_from _ _ at amount) held), outputs_each os (right_of (is_first_output o) (list_all is_first_output os) h))

ids_each : (os : List Output4) → list_all is_first_output os ≡ true → AllByRecursion (λ t. is_tx_id t ≡ true) (map (λ (o : Output4). o.0.tx) os)
ids_each [] h = tt
ids_each (o ∷ os) h =
    let here : is_first_output o ≡ true = left_of (is_first_output o) (list_all is_first_output os) h in
    (left_of _ _ (left_of _ _ (left_of _ _ (left_of _ _ here))), ids_each os (right_of (is_first_output o) (list_all is_first_output os) h))

accounts_each : (xs : List Account5) → list_all is_first_account xs ≡ true → Each is_credential is_kept_account (map (λ (a : Account5). (a.0, as_registered a)) xs)
accounts_each [] h = tt
accounts_each (a ∷ xs) h =
    let here : is_first_account a ≡ true = left_of (is_first_account a) (list_all is_first_account xs) h in
    let deposit = left_of _ _ (left_of _ _ here) in
    let paid : is_u64 a.1 ≡ true = right_of _ _ deposit in
    let to : are_targets a.3 a.4 ≡ true = right_of _ _ here in
    ((left_of _ _ deposit, and_from _ _ paid to), accounts_each xs (right_of (is_first_account a) (list_all is_first_account xs) h))

pools_each : (xs : List GenesisPool) → list_all is_first_pool xs ≡ true → Each is_pool_id is_kept_pool (map (λ (p : GenesisPool). (p.pool, as_pool p)) xs)
pools_each [] h = tt
pools_each (p ∷ xs) h =
    let here : is_first_pool p ≡ true = left_of (is_first_pool p) (list_all is_first_pool xs) h in
    let front = left_of _ _ here in
    let paid : is_u64 p.deposit ≡ true = right_of _ _ front in
    let terms : are_terms (as_pool p).terms ≡ true = right_of _ _ here in
    ((left_of _ _ front, and_from _ _ (and_from _ _ (and_from _ _ paid terms) refl) refl), pools_each xs (right_of (is_first_pool p) (list_all is_first_pool xs) h))

dreps_each : (xs : List (Credential × ℕ × ℕ)) → list_all is_first_drep xs ≡ true → Each is_credential is_kept_drep (map (λ (d : Credential × ℕ × ℕ). (d.0, as_drep d)) xs)
dreps_each [] h = tt
dreps_each (d ∷ xs) h =
    let here : is_first_drep d ≡ true = left_of (is_first_drep d) (list_all is_first_drep xs) h in
    let front = left_of _ _ here in
    ((left_of _ _ front, right_of _ _ front), dreps_each xs (right_of (is_first_drep d) (list_all is_first_drep xs) h))

-- ---- the committee

terms_each : (ms : List Member3) → list_all is_first_member ms ≡ true → Each is_credential is_slot (map (λ (m : Member3). (m.0, m.1)) ms)
terms_each [] h = tt
terms_each (m ∷ ms) h =
    let here : is_first_member m ≡ true = left_of (is_first_member m) (list_all is_first_member ms) h in
    let front = left_of _ _ here in
    ((left_of _ _ front, right_of _ _ front), terms_each ms (right_of (is_first_member m) (list_all is_first_member ms) h))

hot_one : (cold : Credential) (o : Option Credential) (rest : List (Credential × HotState)) → is_credential cold ≡ true → none_or is_credential o ≡ true → Each is_credential is_hot_state rest
    → Each is_credential is_hot_state (cons_option (option_map (λ key. (cold, Hot key)) o) rest)
hot_one cold None rest h k r = r
hot_one cold (Some key) rest h k r = ((h, k), r)

hot_each : (ms : List Member3) → list_all is_first_member ms ≡ true → Each is_credential is_hot_state (filter_map (λ (m : Member3). option_map (λ key. (m.0, Hot key)) m.2) ms)
hot_each [] h = tt
hot_each (m ∷ ms) h =
    let here : is_first_member m ≡ true = left_of (is_first_member m) (list_all is_first_member ms) h in
    hot_one m.0 m.2 _ (left_of _ _ (left_of _ _ here)) (right_of _ _ here) (hot_each ms (right_of (is_first_member m) (list_all is_first_member ms) h))

committee_each : (o : Option GenesisCommittee) → none_or is_first_committee o ≡ true → none_or is_seated (option_map committee_of_genesis o) ≡ true
committee_each None h = refl
committee_each (Some c) h =
    and_from _ _ (each_members (with_values credential_cmp (map (λ (m : Member3). (m.0, m.1)) c.members) []) (each-with_values is_credential is_slot credential_cmp (map (λ (m : Member3). (m.0, m.1)) c.members) [] (terms_each c.members (right_of _ _ h)) tt))
    (left_of _ _ h)

seats_each : (o : Option GenesisCommittee) → none_or is_first_committee o ≡ true → Each is_credential is_hot_state (hot_of_genesis o)
seats_each None h = tt
seats_each (Some c) h = each-with_values is_credential is_hot_state credential_cmp _ [] (hot_each c.members (right_of _ _ h)) tt

-- ---- the ledger

genesis_state : (g : Genesis) → genesis_limits.is_within_limits g ≡ true → is_founded g ≡ true → HasState (state_of_genesis g)
genesis_state g h f =
    let document = left_of _ _ f in
    let committee = left_of _ _ document in
    let version = left_of _ _ committee in
    let form : is_version g.version ≡ true = right_of _ _ version in
    let third = left_of _ _ (left_of _ _ (left_of _ _ h)) in
    let sixth = left_of _ _ (left_of _ _ (left_of _ _ third)) in
    let ninth = left_of _ _ (left_of _ _ (left_of _ _ sixth)) in
    let late : nat_le LEAST_MAJOR g.version.0 ≡ true = right_of _ _ (left_of _ _ ninth) in
    record {
      params = left_of _ _ version;
      version = and_from _ _ form late;
      committee = committee_each g.committee (right_of _ _ committee);
      document = right_of _ _ document;
      script = right_of _ _ f;
      last = refl;
    }

genesis_parts_of : (g : Genesis) → genesis_limits.is_within_limits g ≡ true → is_formed_genesis g ≡ true → HasParts (ledger_of_genesis g)
genesis_parts_of g h f =
    let pools = left_of _ _ f in
    let accounts = left_of _ _ pools in
    let outputs = left_of _ _ accounts in
    let founded = left_of _ _ outputs in
    let third = left_of _ _ (left_of _ _ (left_of _ _ h)) in
    let sixth = left_of _ _ (left_of _ _ (left_of _ _ third)) in
    let ninth = left_of _ _ (left_of _ _ (left_of _ _ sixth)) in
    let long = left_of _ _ (left_of _ _ ninth) in
    record {
      network = left_of _ _ (left_of _ _ (left_of _ _ long));
      long = right_of _ _ long;
      state = genesis_state g h founded;
      outputs = each-with_values is_ref is_kept_output outref_cmp (map (λ (o : Output4). (o.0, as_output o)) g.outputs) [] (outputs_each g.outputs (right_of _ _ outputs)) tt;
      used = all-in_order txid_cmp (λ t. is_tx_id t ≡ true) (map (λ (o : Output4). o.0.tx) g.outputs) [] (ids_each g.outputs (right_of _ _ outputs)) tt;
      accounts = each-with_values is_credential is_kept_account credential_cmp (map (λ (a : Account5). (a.0, as_registered a)) g.accounts) [] (accounts_each g.accounts (right_of _ _ accounts)) tt;
      pools = each-with_values is_pool_id is_kept_pool pool_cmp (map (λ (p : GenesisPool). (p.pool, as_pool p)) g.pools) [] (pools_each g.pools (right_of _ _ pools)) tt;
      dreps = each-with_values is_credential is_kept_drep credential_cmp (map (λ (d : Credential × ℕ × ℕ). (d.0, as_drep d)) g.dreps) [] (dreps_each g.dreps (right_of _ _ f)) tt;
      hot = seats_each g.committee (right_of _ _ (left_of _ _ (left_of _ _ founded)));
      proposals = tt;
    }

-- ---- the World

pub genesis_formed : (g : Genesis) → genesis_limits.is_within_limits g ≡ true → is_formed_genesis g ≡ true → IsSoundWorld (world_of_genesis g) → IsFormed (world_of_genesis g)
genesis_formed g h f s =
    let l : Ledger = ledger_of_genesis g in
    let parts : HasParts l = genesis_parts_of g h f in
    let named = pools_named _ l.pools parts.pools in
    let mark = stakes_formed l.supply (pool_stakes l) s.ledger.within named s.mark in
    record {
      parts = parts;
      pending = refl;
      mark = mark;
      set = refl;
      go = refl;
      frozen = snapshot_formed (first_marked g) parts s.ledger s.frozen mark named;
      forks = tt;
    }

pub genesis_has_form : GenesisHasForm
genesis_has_form g h e f =
    let s : IsSoundWorld (world_of_genesis g) = genesis_begins_sound g h e in
    test_from_formed (world_of_genesis g) (genesis_formed g h f s) s
