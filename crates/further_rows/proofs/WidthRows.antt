-- Worked rows on the widths of a checkpoint's numbers and on the order of its lists: Worlds with the greatest ones have the form, and each that is beyond in one place has it not.
use Rattle.std.specs.Prelude.{ℕ, ◌≡◌, ◌-◌, ◌^◌, ◌++◌, true, false, List, [], ◌∷◌, Some, None, map, replicate, refl}
use Rattle.std.specs.List.{list_any}
use Rattle.coin_frac.specs.Fraction.{Fraction}
use Rattle.gov_ids.specs.declared.Account.{Account}
use Rattle.gov_ids.specs.declared.Address.{Address}
use Rattle.gov_ids.specs.declared.CredKind.TheVariants.{Key}
use Rattle.gov_ids.specs.declared.Credential.{Credential}
use Rattle.gov_ids.specs.declared.Drep.TheVariants as drep
use Rattle.gov_ids.specs.declared.OutRef.{OutRef}
use Rattle.gov_ids.specs.declared.PoolId.{PoolId}
use Rattle.gov_ids.specs.declared.TxId.{TxId}
use Rattle.gov_ids.specs.declared.Voter.{Voter}
use Rattle.gov_ids.specs.declared.Voter.TheVariants as voter
use Rattle.pparams.specs.declared.Params.{Params}
use Rattle.pparams.specs.declared.Update.{Update}
use Rattle.book_records.specs.declared.Entry.{Entry}
use Rattle.book_records.specs.declared.Output.{Output}
use Rattle.book_records.specs.declared.pool.Pool.{Pool}
use Rattle.book_records.specs.declared.pool.PoolTerms.{PoolTerms}
use Rattle.book_records.specs.declared.Registered.{Registered}
use Rattle.gov_actions.specs.declared.action.Action.{Action}
use Rattle.gov_actions.specs.declared.action.Action.TheVariants as actions
use Rattle.gov_actions.specs.declared.action.Proposal.{Proposal}
use Rattle.gov_actions.specs.declared.action.Vote.{Vote}
use Rattle.gov_actions.specs.declared.action.Vote.TheVariants.{Yes, No}
use Rattle.gov_actions.specs.declared.state.EnactState.{EnactState}
use Rattle.gov_actions.specs.declared.state.HotState.{HotState}
use Rattle.gov_actions.specs.declared.state.HotState.TheVariants.{Hot, Resigned}
use Rattle.tx_records.specs.declared.record.Rewards.{Rewards}
use Rattle.gov_model.specs.Snapshot.{Snapshot}
use Rattle.ledger_model.specs.Ledger.{Ledger}
use Rattle.run_model.specs.Genesis.{world_of_genesis}
use Rattle.run_model.specs.World.{World, on_ledger}
use Rattle.checkpoint_model.specs.Resumable.{has_form}
use Rattle.ledger_rows.proofs.Base.{h31, h32, base, base_params, no_update, key, script, pool, share, account_on, address_with, action, ref, tx_id}

-- a ledger without outputs
abbrev start : World
start = world_of_genesis (record base { outputs = []; reserves = 779 })

abbrev changed : (Ledger → Ledger) → World
changed change = on_ledger change start

abbrev frozen_with : (Snapshot → Snapshot) → World
frozen_with change = record start { frozen = change start.frozen }

-- ---- fractions

-- the greatest ones, and those that are beyond
abbrev greatest_unit : Fraction
greatest_unit = share (2 ^ 64 - 1) (2 ^ 64 - 1)

abbrev greatest_ratio : Fraction
greatest_ratio = share (2 ^ 64 - 1) 1

abbrev over_one : Fraction
over_one = share 2 1

abbrev over_nothing : Fraction
over_nothing = share 0 0

abbrev great_unit : Fraction
great_unit = share 0 (2 ^ 64)

abbrev great_ratio : Fraction
great_ratio = share (2 ^ 64) 1

-- ---- parameters

abbrev with_params : Params → World
with_params p = changed (λ (l : Ledger). record l { state = record l.state { params = p } })

pub the_greatest_parameters : has_form (with_params (record base_params {
  max_block_body_size = (2 ^ 32 - 1);
  max_tx_size = (2 ^ 32 - 1);
  max_block_header_size = (2 ^ 32 - 1);
  max_value_size = (2 ^ 32 - 1);
  max_tx_ex_units = ((2 ^ 64 - 1), (2 ^ 64 - 1));
  max_block_ex_units = ((2 ^ 64 - 1), (2 ^ 64 - 1));
  max_collateral_inputs = 65535;
  min_fee_a = (2 ^ 64 - 1);
  min_fee_b = (2 ^ 64 - 1);
  key_deposit = (2 ^ 64 - 1);
  pool_deposit = (2 ^ 64 - 1);
  rho = greatest_unit;
  tau = greatest_unit;
  min_pool_cost = (2 ^ 64 - 1);
  coins_per_utxo_byte = (2 ^ 64 - 1);
  prices = (greatest_ratio, greatest_ratio);
  min_fee_ref_script_cost_per_byte = greatest_ratio;
  a0 = greatest_ratio;
  e_max = (2 ^ 32 - 1);
  n_opt = 65535;
  cost_models = h32 255;
  collateral_percentage = 65535;
  pool_voting_thresholds = replicate 5 greatest_unit;
  drep_voting_thresholds = replicate 10 greatest_unit;
  gov_action_lifetime = (2 ^ 32 - 1);
  gov_action_deposit = (2 ^ 64 - 1);
  drep_deposit = (2 ^ 64 - 1);
  drep_activity = (2 ^ 32 - 1);
  committee_min_size = 65535;
  committee_max_term_length = (2 ^ 32 - 1);
})) ≡ true
the_greatest_parameters = refl

-- each beyond its width alone
pub parameters_beyond : list_any (λ p. has_form (with_params p)) (
    record base_params { max_block_body_size = (2 ^ 32) } ∷
    record base_params { max_tx_size = (2 ^ 32) } ∷
    record base_params { max_block_header_size = (2 ^ 32) } ∷
    record base_params { max_value_size = (2 ^ 32) } ∷
    record base_params { max_tx_ex_units = ((2 ^ 64), 0) } ∷ record base_params { max_tx_ex_units = (0, (2 ^ 64)) } ∷
    record base_params { max_block_ex_units = ((2 ^ 64), 0) } ∷ record base_params { max_block_ex_units = (0, (2 ^ 64)) } ∷
    record base_params { max_collateral_inputs = 65536 } ∷
    record base_params { min_fee_a = (2 ^ 64) } ∷
    record base_params { min_fee_b = (2 ^ 64) } ∷
    record base_params { key_deposit = (2 ^ 64) } ∷
    record base_params { pool_deposit = (2 ^ 64) } ∷
    record base_params { rho = over_one } ∷ record base_params { rho = over_nothing } ∷ record base_params { rho = great_unit } ∷
    record base_params { tau = over_one } ∷ record base_params { tau = over_nothing } ∷ record base_params { tau = great_unit } ∷
    record base_params { min_pool_cost = (2 ^ 64) } ∷
    record base_params { coins_per_utxo_byte = (2 ^ 64) } ∷
    record base_params { prices = (great_ratio, share 1 1) } ∷ record base_params { prices = (share 1 1, over_nothing) } ∷
    record base_params { min_fee_ref_script_cost_per_byte = over_nothing } ∷ record base_params { min_fee_ref_script_cost_per_byte = great_ratio } ∷ record base_params { min_fee_ref_script_cost_per_byte = great_unit } ∷
    record base_params { a0 = over_nothing } ∷ record base_params { a0 = great_ratio } ∷ record base_params { a0 = great_unit } ∷
    record base_params { e_max = (2 ^ 32) } ∷
    record base_params { n_opt = 65536 } ∷
    record base_params { cost_models = h31 0 } ∷
    record base_params { collateral_percentage = 65536 } ∷
    record base_params { pool_voting_thresholds = replicate 4 (share 0 1) } ∷ record base_params { pool_voting_thresholds = replicate 6 (share 0 1) } ∷ record base_params { pool_voting_thresholds = replicate 4 (share 0 1) ++ over_one ∷ [] } ∷
    record base_params { drep_voting_thresholds = replicate 9 (share 0 1) } ∷ record base_params { drep_voting_thresholds = replicate 11 (share 0 1) } ∷ record base_params { drep_voting_thresholds = replicate 9 (share 0 1) ++ over_one ∷ [] } ∷
    record base_params { gov_action_lifetime = (2 ^ 32) } ∷
    record base_params { gov_action_deposit = (2 ^ 64) } ∷
    record base_params { drep_deposit = (2 ^ 64) } ∷
    record base_params { drep_activity = (2 ^ 32) } ∷
    record base_params { committee_min_size = 65536 } ∷
    record base_params { committee_max_term_length = (2 ^ 32) } ∷
    []) ≡ false
parameters_beyond = refl

abbrev proposed : Action → Proposal
proposed act = record { id = action 1 0; action = act; deposit = 10; account = account_on 1 (key 0x12); expires_after = 2; votes = [] }

abbrev with_proposals : List Proposal → World
with_proposals ps = changed (λ (l : Ledger). record l { proposals = ps })

abbrev with_update : Update → World
with_update u = with_proposals (proposed (actions.ParameterChange None u None) ∷ [])

pub the_greatest_update : has_form (with_update (record {
  max_block_body_size = Some (2 ^ 32 - 1);
  max_tx_size = Some (2 ^ 32 - 1);
  max_block_header_size = Some (2 ^ 32 - 1);
  max_value_size = Some (2 ^ 32 - 1);
  max_tx_ex_units = Some ((2 ^ 64 - 1), (2 ^ 64 - 1));
  max_block_ex_units = Some ((2 ^ 64 - 1), (2 ^ 64 - 1));
  max_collateral_inputs = Some 65535;
  min_fee_a = Some (2 ^ 64 - 1);
  min_fee_b = Some (2 ^ 64 - 1);
  key_deposit = Some (2 ^ 64 - 1);
  pool_deposit = Some (2 ^ 64 - 1);
  rho = Some greatest_unit;
  tau = Some greatest_unit;
  min_pool_cost = Some (2 ^ 64 - 1);
  coins_per_utxo_byte = Some (2 ^ 64 - 1);
  prices = Some (greatest_ratio, greatest_ratio);
  min_fee_ref_script_cost_per_byte = Some greatest_ratio;
  a0 = Some greatest_ratio;
  e_max = Some (2 ^ 32 - 1);
  n_opt = Some 65535;
  cost_models = Some (h32 255);
  collateral_percentage = Some 65535;
  pool_voting_thresholds = Some (replicate 5 greatest_unit);
  drep_voting_thresholds = Some (replicate 10 greatest_unit);
  gov_action_lifetime = Some (2 ^ 32 - 1);
  gov_action_deposit = Some (2 ^ 64 - 1);
  drep_deposit = Some (2 ^ 64 - 1);
  drep_activity = Some (2 ^ 32 - 1);
  committee_min_size = Some 65535;
  committee_max_term_length = Some (2 ^ 32 - 1);
})) ≡ true
the_greatest_update = refl

pub updates_beyond : list_any (λ u. has_form (with_update u)) (
    record no_update { max_block_body_size = Some (2 ^ 32) } ∷
    record no_update { max_tx_size = Some (2 ^ 32) } ∷
    record no_update { max_block_header_size = Some (2 ^ 32) } ∷
    record no_update { max_value_size = Some (2 ^ 32) } ∷
    record no_update { max_tx_ex_units = Some ((2 ^ 64), 0) } ∷ record no_update { max_tx_ex_units = Some (0, (2 ^ 64)) } ∷
    record no_update { max_block_ex_units = Some ((2 ^ 64), 0) } ∷ record no_update { max_block_ex_units = Some (0, (2 ^ 64)) } ∷
    record no_update { max_collateral_inputs = Some 65536 } ∷
    record no_update { min_fee_a = Some (2 ^ 64) } ∷
    record no_update { min_fee_b = Some (2 ^ 64) } ∷
    record no_update { key_deposit = Some (2 ^ 64) } ∷
    record no_update { pool_deposit = Some (2 ^ 64) } ∷
    record no_update { rho = Some over_one } ∷ record no_update { rho = Some over_nothing } ∷ record no_update { rho = Some great_unit } ∷
    record no_update { tau = Some over_one } ∷ record no_update { tau = Some over_nothing } ∷ record no_update { tau = Some great_unit } ∷
    record no_update { min_pool_cost = Some (2 ^ 64) } ∷
    record no_update { coins_per_utxo_byte = Some (2 ^ 64) } ∷
    record no_update { prices = Some (great_ratio, share 1 1) } ∷ record no_update { prices = Some (share 1 1, over_nothing) } ∷
    record no_update { min_fee_ref_script_cost_per_byte = Some over_nothing } ∷ record no_update { min_fee_ref_script_cost_per_byte = Some great_ratio } ∷ record no_update { min_fee_ref_script_cost_per_byte = Some great_unit } ∷
    record no_update { a0 = Some over_nothing } ∷ record no_update { a0 = Some great_ratio } ∷ record no_update { a0 = Some great_unit } ∷
    record no_update { e_max = Some (2 ^ 32) } ∷
    record no_update { n_opt = Some 65536 } ∷
    record no_update { cost_models = Some (h31 0) } ∷
    record no_update { collateral_percentage = Some 65536 } ∷
    record no_update { pool_voting_thresholds = Some (replicate 4 (share 0 1)) } ∷ record no_update { pool_voting_thresholds = Some (replicate 6 (share 0 1)) } ∷ record no_update { pool_voting_thresholds = Some (replicate 4 (share 0 1) ++ over_one ∷ []) } ∷
    record no_update { drep_voting_thresholds = Some (replicate 9 (share 0 1)) } ∷ record no_update { drep_voting_thresholds = Some (replicate 11 (share 0 1)) } ∷ record no_update { drep_voting_thresholds = Some (replicate 9 (share 0 1) ++ over_one ∷ []) } ∷
    record no_update { gov_action_lifetime = Some (2 ^ 32) } ∷
    record no_update { gov_action_deposit = Some (2 ^ 64) } ∷
    record no_update { drep_deposit = Some (2 ^ 64) } ∷
    record no_update { drep_activity = Some (2 ^ 32) } ∷
    record no_update { committee_min_size = Some 65536 } ∷
    record no_update { committee_max_term_length = Some (2 ^ 32) } ∷
    []) ≡ false
updates_beyond = refl

-- ---- the state

abbrev with_state : (EnactState → EnactState) → World
with_state change = changed (λ (l : Ledger). record l { state = change l.state })

-- a credential, a pool and an id of a byte too few, in each place of one
abbrev short_key : Credential
short_key = record { hash = replicate 27 0; kind = Key }

abbrev short_pool : PoolId
short_pool = record { 0 = replicate 27 0 }

abbrev short_id : TxId
short_id = record { 0 = h31 0 }

abbrev with_members : List (Credential × ℕ) → Fraction → World
with_members members threshold = with_state (λ (s : EnactState). record s { committee = Some (record { threshold = threshold; members = members }) })

pub the_greatest_state : has_form (with_state (λ (s : EnactState). record s {
  version = (2 ^ 32 - 1, 2 ^ 32 - 1);
  committee = Some (record { threshold = greatest_unit; members = (key 0x70, 2 ^ 62 - 1) ∷ (script 0x70, 0) ∷ [] });
  script = Some (key 255).hash;
  last = record { committee = Some (action 1 65535); constitution = Some (action 1 65535); hardfork = Some (action 1 65535); parameters = Some (action 1 65535) };
  treasury = 2 ^ 64 - 1;
})) ≡ true
the_greatest_state = refl

pub states_beyond : list_any has_form (
    with_state (λ (s : EnactState). record s { version = (9, 0) }) ∷
    with_state (λ (s : EnactState). record s { version = (2 ^ 32, 0) }) ∷
    with_state (λ (s : EnactState). record s { version = (10, 2 ^ 32) }) ∷
    with_state (λ (s : EnactState). record s { script = Some (h32 0) }) ∷
    with_state (λ (s : EnactState). record s { last = record s.last { committee = Some (action 1 65536) } }) ∷
    with_state (λ (s : EnactState). record s { last = record s.last { constitution = Some (action 1 65536) } }) ∷
    with_state (λ (s : EnactState). record s { last = record s.last { hardfork = Some (action 1 65536) } }) ∷
    with_state (λ (s : EnactState). record s { last = record s.last { parameters = Some (record { tx = short_id; index = 0 }) } }) ∷
    with_state (λ (s : EnactState). record s { treasury = 2 ^ 64 }) ∷
    with_members [] over_one ∷ with_members ((short_key, 5) ∷ []) (share 1 2) ∷ with_members ((key 0x70, 2 ^ 62) ∷ []) (share 1 2) ∷
    with_members ((key 0x71, 5) ∷ (key 0x70, 5) ∷ []) (share 1 2) ∷ with_members ((key 0x70, 5) ∷ (key 0x70, 6) ∷ []) (share 1 2) ∷
    []) ≡ false
states_beyond = refl

-- ---- the numbers of the ledger

pub the_greatest_numbers : has_form (changed (λ (l : Ledger). record l {
  network = 0;
  epoch_length = 2 ^ 32 - 1;
  supply = 2 ^ 64 - 1;
  slot = 2 ^ 62 - 1;
  dormant = 2 ^ 64 - 1;
  reserves = 2 ^ 64 - 1;
  fees = 2 ^ 64 - 1;
  donations = 2 ^ 64 - 1;
})) ≡ true
the_greatest_numbers = refl

pub numbers_beyond : list_any has_form (
    changed (λ (l : Ledger). record l { network = 2 }) ∷ changed (λ (l : Ledger). record l { epoch_length = 0 }) ∷
    changed (λ (l : Ledger). record l { epoch_length = 2 ^ 32 }) ∷ changed (λ (l : Ledger). record l { supply = 2 ^ 64 }) ∷
    changed (λ (l : Ledger). record l { slot = 2 ^ 62 }) ∷ changed (λ (l : Ledger). record l { dormant = 2 ^ 64 }) ∷
    changed (λ (l : Ledger). record l { reserves = 2 ^ 64 }) ∷ changed (λ (l : Ledger). record l { fees = 2 ^ 64 }) ∷
    changed (λ (l : Ledger). record l { donations = 2 ^ 64 }) ∷ record start { noted_fees = 2 ^ 64 } ∷
    []) ≡ false
numbers_beyond = refl

-- ---- outputs and used ids

abbrev with_outputs : List (OutRef × Output) → World
with_outputs os = changed (λ (l : Ledger). record l { outputs = os })

abbrev output : OutRef → Address → ℕ → OutRef × Output
output at to n = (at, record { address = to; lovelace = n; assets = [] })

abbrev plain : OutRef → OutRef × Output
plain at = output at (address_with 1 (key 1) None) 20

abbrev with_used : List TxId → World
with_used ids = changed (λ (l : Ledger). record l { used = ids })

pub outputs_in_form : has_form (with_outputs (output (ref 1 0) (address_with 0 (script 255) (Some (key 255))) (2 ^ 64 - 1) ∷ plain (ref 1 65535) ∷ plain (ref 2 0) ∷ [])) ≡ true
outputs_in_form = refl

pub outputs_beyond : list_any has_form (
    with_outputs (output (ref 1 0) (address_with 2 (key 1) None) 20 ∷ []) ∷ with_outputs (output (ref 1 0) (address_with 1 short_key None) 20 ∷ []) ∷
    with_outputs (output (ref 1 0) (address_with 1 (key 1) (Some short_key)) 20 ∷ []) ∷ with_outputs (output (ref 1 0) (address_with 1 (key 1) None) (2 ^ 64) ∷ []) ∷
    with_outputs (plain (record { tx = short_id; index = 0 }) ∷ []) ∷ with_outputs (plain (ref 1 1) ∷ plain (ref 1 0) ∷ []) ∷
    with_outputs (plain (ref 1 0) ∷ plain (ref 1 0) ∷ []) ∷
    with_used (short_id ∷ []) ∷ with_used (tx_id 2 ∷ tx_id 1 ∷ []) ∷ with_used (tx_id 1 ∷ tx_id 1 ∷ []) ∷ with_used (tx_id 1 ∷ tx_id 3 ∷ tx_id 2 ∷ []) ∷
    []) ≡ false
outputs_beyond = refl

-- ---- accounts, pools, DReps and hot keys

abbrev registered : Registered
registered = record { deposit = 2 ^ 64 - 1; rewards = 2 ^ 64 - 1; pool = Some (pool 255); drep = Some (drep.Registered (script 255)) }

abbrev with_accounts : List (Credential × Registered) → World
with_accounts accounts = changed (λ (l : Ledger). record l { accounts = accounts })

abbrev plain_terms : PoolTerms
plain_terms = record { cost = 2 ^ 64 - 1; pledge = 2 ^ 64 - 1; margin = greatest_unit; account = account_on 0 (key 0x12); key = Some (h32 255) }

abbrev plain_pool : Pool
plain_pool = record { deposit = 2 ^ 64 - 1; terms = plain_terms; future = Some plain_terms; retires = None }

abbrev with_pools : List (PoolId × Pool) → World
with_pools pools = changed (λ (l : Ledger). record l { pools = pools })

-- now, and to come
abbrev with_terms : PoolTerms → List World
with_terms t = with_pools ((pool 0x50, record plain_pool { terms = t }) ∷ []) ∷ with_pools ((pool 0x50, record plain_pool { future = Some t }) ∷ []) ∷ []

abbrev with_drep : Credential → ℕ → ℕ → World
with_drep c deposit expiry = changed (λ (l : Ledger). record l { dreps = (c, record { deposit = deposit; expiry = expiry }) ∷ [] })

abbrev with_dreps : List Credential → World
with_dreps cs = changed (λ (l : Ledger). record l { dreps = map (λ c. (c, record { deposit = 5; expiry = 20 })) cs })

abbrev with_hot : List (Credential × HotState) → World
with_hot hot = changed (λ (l : Ledger). record l { hot = hot })

pub books_in_form : map has_form (
    with_accounts ((key 1, registered) ∷ (script 1, registered) ∷ []) ∷ with_pools ((pool 1, plain_pool) ∷ (pool 2, plain_pool) ∷ []) ∷
    with_drep (key 1) (2 ^ 64 - 1) (2 ^ 64 - 1) ∷ with_dreps (key 1 ∷ script 1 ∷ []) ∷ with_hot ((key 1, Hot (script 2)) ∷ (key 2, Resigned) ∷ []) ∷
    []) ≡ replicate 5 true
books_in_form = refl

pub books_beyond : list_any has_form (
    with_accounts ((short_key, registered) ∷ []) ∷ with_accounts ((key 2, registered) ∷ (key 1, registered) ∷ []) ∷
    with_accounts ((key 1, registered) ∷ (key 1, registered) ∷ []) ∷
    with_accounts ((key 1, record registered { deposit = 2 ^ 64 }) ∷ []) ∷ with_accounts ((key 1, record registered { rewards = 2 ^ 64 }) ∷ []) ∷
    with_accounts ((key 1, record registered { pool = Some short_pool }) ∷ []) ∷
    with_accounts ((key 1, record registered { drep = Some (drep.Registered short_key) }) ∷ []) ∷
    with_pools ((short_pool, plain_pool) ∷ []) ∷ with_pools ((pool 2, plain_pool) ∷ (pool 1, plain_pool) ∷ []) ∷
    with_pools ((pool 1, plain_pool) ∷ (pool 1, plain_pool) ∷ []) ∷ with_pools ((pool 1, record plain_pool { deposit = 2 ^ 64 }) ∷ [])
    ∷ with_terms (record plain_terms { cost = 2 ^ 64 }) ++ with_terms (record plain_terms { pledge = 2 ^ 64 })
    ++ with_terms (record plain_terms { margin = over_one }) ++ with_terms (record plain_terms { account = account_on 2 (key 1) })
    ++ with_terms (record plain_terms { account = account_on 1 short_key }) ++ with_terms (record plain_terms { key = Some (h31 1) })
    ++ with_drep short_key 5 20 ∷ with_drep (key 1) (2 ^ 64) 20 ∷ with_drep (key 1) 5 (2 ^ 64) ∷
    with_dreps (key 2 ∷ key 1 ∷ []) ∷ with_dreps (key 1 ∷ key 1 ∷ []) ∷
    with_hot ((short_key, Resigned) ∷ []) ∷ with_hot ((key 1, Hot short_key) ∷ []) ∷
    with_hot ((key 2, Resigned) ∷ (key 1, Resigned) ∷ []) ∷ with_hot ((key 1, Resigned) ∷ (key 1, Resigned) ∷ []) ∷
    []) ≡ false
books_beyond = refl

-- ---- proposals

abbrev plain_proposal : Proposal
plain_proposal = record {
  id = action 1 0;
  action = actions.Info;
  deposit = 2 ^ 64 - 1;
  account = account_on 0 (script 255);
  expires_after = 2 ^ 64 - 1;
  votes = (voter.Committee (key 1), Yes) ∷ (voter.Drep (key 1), Yes) ∷ (voter.Drep (script 1), No) ∷ (voter.Pool (pool 1), No) ∷ [];
}

abbrev with_votes : List (Voter × Vote) → Proposal
with_votes votes = record plain_proposal { votes = votes }

abbrev of_wrong_form : List Proposal
of_wrong_form =
    record plain_proposal { id = record { tx = short_id; index = 0 } } ∷ record plain_proposal { deposit = 2 ^ 64 } ∷
    record plain_proposal { account = account_on 2 (key 1) } ∷ record plain_proposal { account = account_on 1 short_key } ∷
    record plain_proposal { expires_after = 2 ^ 64 } ∷
    with_votes ((voter.Committee short_key, Yes) ∷ []) ∷ with_votes ((voter.Drep short_key, Yes) ∷ []) ∷ with_votes ((voter.Pool short_pool, Yes) ∷ []) ∷
    with_votes ((voter.Drep (key 1), Yes) ∷ (voter.Committee (key 1), Yes) ∷ []) ∷ with_votes ((voter.Drep (key 1), Yes) ∷ (voter.Drep (key 1), No) ∷ []) ∷
    map proposed (
    actions.NoConfidence (Some (action 1 65536)) ∷ actions.UpdateCommittee (Some (action 1 65536)) [] [] (share 1 2) ∷
    actions.UpdateCommittee None (short_key ∷ []) [] (share 1 2) ∷ actions.UpdateCommittee None [] ((short_key, 5) ∷ []) (share 1 2) ∷
    actions.UpdateCommittee None [] ((key 1, 2 ^ 62) ∷ []) (share 1 2) ∷ actions.UpdateCommittee None [] [] over_one ∷
    actions.NewConstitution (Some (action 1 65536)) (h32 1) None ∷ actions.NewConstitution None (h31 1) None ∷
    actions.NewConstitution None (h32 1) (Some (h32 1)) ∷ actions.HardForkInitiation (Some (action 1 65536)) (11, 0) ∷
    actions.HardForkInitiation None (2 ^ 32, 0) ∷ actions.HardForkInitiation None (11, 2 ^ 32) ∷
    actions.ParameterChange (Some (action 1 65536)) no_update None ∷ actions.ParameterChange None no_update (Some (h32 1)) ∷
    actions.TreasuryWithdrawals [] (Some (h32 1)) ∷ actions.TreasuryWithdrawals ((account_on 2 (key 1), 5) ∷ []) None ∷
    actions.TreasuryWithdrawals ((account_on 1 short_key, 5) ∷ []) None ∷ actions.TreasuryWithdrawals ((account_on 1 (key 1), 2 ^ 64) ∷ []) None ∷
    [])

pub a_proposal_in_form : has_form (with_proposals (plain_proposal ∷ [])) ≡ true
a_proposal_in_form = refl

-- live, and frozen
pub proposals_beyond : list_any (λ p. has_form (with_proposals (p ∷ []))) of_wrong_form ≡ false
proposals_beyond = refl

pub frozen_proposals_beyond : list_any (λ p. has_form (frozen_with (λ (f : Snapshot). record f { proposals = p ∷ [] }))) of_wrong_form ≡ false
frozen_proposals_beyond = refl

-- ---- what epochs add

abbrev plain_update : Rewards
plain_update = record { epoch = 2 ^ 64 - 1; from_reserves = 2 ^ 64 - 1; from_fees = 2 ^ 64 - 1; to_treasury = 2 ^ 64 - 1; rewards = (key 1, 2 ^ 64 - 1) ∷ (key 2, 0) ∷ [] }

abbrev with_pending : Rewards → World
with_pending u = record start { pending = Some u }

-- the stakes of pools in each of the four places
abbrev with_stakes : List (PoolId × ℕ) → List World
with_stakes stakes =
    record start { mark = stakes } ∷ record start { set = stakes } ∷ record start { go = stakes } ∷
    frozen_with (λ (f : Snapshot). record f { mark = stakes; pool_accounts = [] }) ∷
    []

pub epochs_in_form : map has_form (with_pending plain_update ∷ with_stakes ((pool 1, 2 ^ 64 - 1) ∷ (pool 2, 0) ∷ [])) ≡ replicate 5 true
epochs_in_form = refl

pub epochs_beyond : list_any has_form (
    with_pending (record plain_update { epoch = 2 ^ 64 }) ∷ with_pending (record plain_update { from_reserves = 2 ^ 64 }) ∷
    with_pending (record plain_update { from_fees = 2 ^ 64 }) ∷ with_pending (record plain_update { to_treasury = 2 ^ 64 }) ∷
    with_pending (record plain_update { rewards = (key 1, 2 ^ 64) ∷ [] }) ∷ with_pending (record plain_update { rewards = (short_key, 1) ∷ [] }) ∷
    with_pending (record plain_update { rewards = (key 2, 1) ∷ (key 1, 1) ∷ [] }) ∷ with_pending (record plain_update { rewards = (key 1, 1) ∷ (key 1, 1) ∷ [] })
    ∷ with_stakes ((pool 1, 2 ^ 64) ∷ []) ++ with_stakes ((short_pool, 1) ∷ [])
    ++ with_stakes ((pool 2, 1) ∷ (pool 1, 1) ∷ []) ++ with_stakes ((pool 1, 1) ∷ (pool 1, 1) ∷ [])) ≡ false
epochs_beyond = refl

-- ---- what is frozen

abbrev with_entries : List (Credential × Entry) → World
with_entries es = frozen_with (λ (f : Snapshot). record f { entries = es })

abbrev plain_entry : Entry
plain_entry = record { stake = 2 ^ 64 - 1; registered = Some registered }

abbrev with_expiries : List (Credential × ℕ) → World
with_expiries ds = frozen_with (λ (f : Snapshot). record f { dreps = ds })

abbrev with_frozen_hot : List (Credential × HotState) → World
with_frozen_hot hot = frozen_with (λ (f : Snapshot). record f { hot = hot })

abbrev with_pool_account : Account → World
with_pool_account a = frozen_with (λ (f : Snapshot). record f { pool_accounts = (pool 0x50, a) ∷ [] })

pub frozen_in_form : map has_form (
    with_entries ((key 1, plain_entry) ∷ (key 2, record { stake = 0; registered = None }) ∷ []) ∷ with_expiries ((key 1, 2 ^ 64 - 1) ∷ (key 2, 0) ∷ []) ∷
    with_frozen_hot ((key 1, Hot (key 2)) ∷ (key 2, Resigned) ∷ []) ∷ with_pool_account (account_on 0 (key 255)) ∷
    []) ≡ replicate 4 true
frozen_in_form = refl

pub frozen_beyond : list_any has_form (
    with_entries ((short_key, plain_entry) ∷ []) ∷ with_entries ((key 1, record plain_entry { stake = 2 ^ 64 }) ∷ []) ∷
    with_entries ((key 1, record plain_entry { registered = Some (record registered { rewards = 2 ^ 64 }) }) ∷ []) ∷
    with_entries ((key 2, plain_entry) ∷ (key 1, plain_entry) ∷ []) ∷ with_entries ((key 1, plain_entry) ∷ (key 1, plain_entry) ∷ []) ∷
    with_expiries ((short_key, 1) ∷ []) ∷ with_expiries ((key 1, 2 ^ 64) ∷ []) ∷ with_expiries ((key 2, 1) ∷ (key 1, 1) ∷ []) ∷ with_expiries ((key 1, 1) ∷ (key 1, 1) ∷ []) ∷
    with_frozen_hot ((short_key, Resigned) ∷ []) ∷ with_frozen_hot ((key 1, Hot short_key) ∷ []) ∷
    with_frozen_hot ((key 2, Resigned) ∷ (key 1, Resigned) ∷ []) ∷ with_frozen_hot ((key 1, Resigned) ∷ (key 1, Resigned) ∷ []) ∷
    with_pool_account (account_on 2 (key 1)) ∷ with_pool_account (account_on 1 short_key) ∷
    frozen_with (λ (f : Snapshot). record f { proposals = plain_proposal ∷ plain_proposal ∷ [] }) ∷
    frozen_with (λ (f : Snapshot). record f { start = record f.start { treasury = 2 ^ 64 } }) ∷
    []) ≡ false
frozen_beyond = refl
