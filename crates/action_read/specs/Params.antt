-- What a JSON value reads as, where it is an object of protocol parameters.
-- (Own; names and groups are those of CIP-1694, Protocol parameter groups, and of cardano-ledger)
use Rattle.std.specs.Prelude.{ℕ, Bool, true, false, ◌&&◌, List, [], ◌∷◌, None, Result, Ok, Err, bytes_eq, codes, if◌then◌else◌}
use Rattle.std.specs.List.{list_any}
use Rattle.serde_json.specs.Data.{Data, Items, no_items, item, Members, no_members, member}
use Rattle.serde_json.specs.Find.{as_object}
use Rattle.coin_frac.specs.Fraction.{Fraction}
use Rattle.pparams.specs.declared.Params.{Params}
use Rattle.pparams.specs.declared.Update.{Update}
use Rattle.json_fields.specs.declared.fault.FieldFault.{FieldFault}
use Rattle.json_fields.specs.declared.fault.FieldFault.TheVariants.{Missing, WrongKind, OutOfRange}
use Rattle.json_fields.specs.Entries.{maybe_in, both_in}
use Rattle.json_fields.specs.Kinds.{u64_in, u32_in, u16_in, hash32_in, unit_in, ratio_in, items_in}
use Rattle.json_fields.specs.Steps.{◌>>=◌, or_fault}
use Rattle.action_read.specs.Whole.{params_of_update}

-- the names of the parameters, in order
abbrev pub param_names : List (List ℕ)
param_names =
    codes "maxBlockBodySize" ∷ codes "maxTxSize" ∷ codes "maxBlockHeaderSize" ∷ codes "maxValueSize" ∷
    codes "maxTxExUnits" ∷ codes "maxBlockExUnits" ∷ codes "maxCollateralInputs" ∷
    codes "minFeeA" ∷ codes "minFeeB" ∷ codes "keyDeposit" ∷ codes "poolDeposit" ∷ codes "rho" ∷ codes "tau" ∷
    codes "minPoolCost" ∷ codes "coinsPerUTxOByte" ∷ codes "prices" ∷ codes "minFeeRefScriptCostPerByte" ∷
    codes "a0" ∷ codes "eMax" ∷ codes "nOpt" ∷ codes "costModels" ∷ codes "collateralPercentage" ∷
    codes "poolVotingThresholds" ∷ codes "drepVotingThresholds" ∷ codes "govActionLifetime" ∷ codes "govActionDeposit" ∷
    codes "drepDeposit" ∷ codes "drepActivity" ∷ codes "committeeMinSize" ∷ codes "committeeMaxTermLength" ∷ []

-- the name of a parameter
abbrev pub is_param_name : List ℕ → Bool
is_param_name name = list_any (bytes_eq name) param_names

-- nothing but parameters is named
abbrev pub names_only_params : Members → Bool
names_only_params no_members = true
names_only_params (member name d ms) = is_param_name name && names_only_params ms

-- the object, where it names nothing else
abbrev pub param_object : Data → Result Data FieldFault
param_object d = or_fault WrongKind (as_object d) >>= λ ms. if names_only_params ms then Ok d else Err OutOfRange

-- each entry is a fraction from 0 to 1
abbrev pub units_in : Items → Result (List Fraction) FieldFault
units_in no_items = Ok []
units_in (item d ds) = unit_in d >>= λ u. units_in ds >>= λ us. Ok (u ∷ us)

-- five entries
abbrev pub is_five : Items → Bool
is_five (item a (item b (item c (item d (item e no_items))))) = true
is_five _ = false

-- ten entries
abbrev pub is_ten : Items → Bool
is_ten (item a (item b (item c (item d (item e (item f (item g (item h (item i (item j no_items)))))))))) = true
is_ten _ = false

-- the thresholds of the pools
abbrev pub five_units_in : Data → Result (List Fraction) FieldFault
five_units_in d = items_in d >>= λ ds. if is_five ds then units_in ds else Err OutOfRange

-- the thresholds of the DReps
abbrev pub ten_units_in : Data → Result (List Fraction) FieldFault
ten_units_in d = items_in d >>= λ ds. if is_ten ds then units_in ds else Err OutOfRange

-- an update that names no parameter
abbrev pub no_update : Update
no_update = record {
  max_block_body_size = None;
  max_tx_size = None;
  max_block_header_size = None;
  max_value_size = None;
  max_tx_ex_units = None;
  max_block_ex_units = None;
  max_collateral_inputs = None;
  min_fee_a = None;
  min_fee_b = None;
  key_deposit = None;
  pool_deposit = None;
  rho = None;
  tau = None;
  min_pool_cost = None;
  coins_per_utxo_byte = None;
  prices = None;
  min_fee_ref_script_cost_per_byte = None;
  a0 = None;
  e_max = None;
  n_opt = None;
  cost_models = None;
  collateral_percentage = None;
  pool_voting_thresholds = None;
  drep_voting_thresholds = None;
  gov_action_lifetime = None;
  gov_action_deposit = None;
  drep_deposit = None;
  drep_activity = None;
  committee_min_size = None;
  committee_max_term_length = None;
}

-- with the parameters of the network group
unfoldable pub network_group_in : Data → Update → Result Update FieldFault
network_group_in d u = do
  max_block_body_size ← maybe_in (codes "maxBlockBodySize") u32_in d
  max_tx_size ← maybe_in (codes "maxTxSize") u32_in d
  max_block_header_size ← maybe_in (codes "maxBlockHeaderSize") u32_in d
  max_value_size ← maybe_in (codes "maxValueSize") u32_in d
  max_tx_ex_units ← maybe_in (codes "maxTxExUnits") (both_in u64_in u64_in) d
  max_block_ex_units ← maybe_in (codes "maxBlockExUnits") (both_in u64_in u64_in) d
  max_collateral_inputs ← maybe_in (codes "maxCollateralInputs") u16_in d
  Ok (record u {
    max_block_body_size = max_block_body_size;
    max_tx_size = max_tx_size;
    max_block_header_size = max_block_header_size;
    max_value_size = max_value_size;
    max_tx_ex_units = max_tx_ex_units;
    max_block_ex_units = max_block_ex_units;
    max_collateral_inputs = max_collateral_inputs;
  })

-- with the fees and deposits of the economic group
unfoldable pub fees_in : Data → Update → Result Update FieldFault
fees_in d u = do
  min_fee_a ← maybe_in (codes "minFeeA") u64_in d
  min_fee_b ← maybe_in (codes "minFeeB") u64_in d
  key_deposit ← maybe_in (codes "keyDeposit") u64_in d
  pool_deposit ← maybe_in (codes "poolDeposit") u64_in d
  Ok (record u {
    min_fee_a = min_fee_a;
    min_fee_b = min_fee_b;
    key_deposit = key_deposit;
    pool_deposit = pool_deposit;
  })

-- with the others of the economic group
unfoldable pub incomes_in : Data → Update → Result Update FieldFault
incomes_in d u = do
  rho ← maybe_in (codes "rho") unit_in d
  tau ← maybe_in (codes "tau") unit_in d
  min_pool_cost ← maybe_in (codes "minPoolCost") u64_in d
  coins_per_utxo_byte ← maybe_in (codes "coinsPerUTxOByte") u64_in d
  prices ← maybe_in (codes "prices") (both_in ratio_in ratio_in) d
  min_fee_ref_script_cost_per_byte ← maybe_in (codes "minFeeRefScriptCostPerByte") ratio_in d
  Ok (record u {
    rho = rho;
    tau = tau;
    min_pool_cost = min_pool_cost;
    coins_per_utxo_byte = coins_per_utxo_byte;
    prices = prices;
    min_fee_ref_script_cost_per_byte = min_fee_ref_script_cost_per_byte;
  })

-- with those of the technical group
unfoldable pub technical_group_in : Data → Update → Result Update FieldFault
technical_group_in d u = do
  a0 ← maybe_in (codes "a0") ratio_in d
  e_max ← maybe_in (codes "eMax") u32_in d
  n_opt ← maybe_in (codes "nOpt") u16_in d
  cost_models ← maybe_in (codes "costModels") hash32_in d
  collateral_percentage ← maybe_in (codes "collateralPercentage") u16_in d
  Ok (record u {
    a0 = a0;
    e_max = e_max;
    n_opt = n_opt;
    cost_models = cost_models;
    collateral_percentage = collateral_percentage;
  })

-- with those of the governance group
unfoldable pub governance_group_in : Data → Update → Result Update FieldFault
governance_group_in d u = do
  pool_voting_thresholds ← maybe_in (codes "poolVotingThresholds") five_units_in d
  drep_voting_thresholds ← maybe_in (codes "drepVotingThresholds") ten_units_in d
  gov_action_lifetime ← maybe_in (codes "govActionLifetime") u32_in d
  gov_action_deposit ← maybe_in (codes "govActionDeposit") u64_in d
  drep_deposit ← maybe_in (codes "drepDeposit") u64_in d
  drep_activity ← maybe_in (codes "drepActivity") u32_in d
  committee_min_size ← maybe_in (codes "committeeMinSize") u16_in d
  committee_max_term_length ← maybe_in (codes "committeeMaxTermLength") u32_in d
  Ok (record u {
    pool_voting_thresholds = pool_voting_thresholds;
    drep_voting_thresholds = drep_voting_thresholds;
    gov_action_lifetime = gov_action_lifetime;
    gov_action_deposit = gov_action_deposit;
    drep_deposit = drep_deposit;
    drep_activity = drep_activity;
    committee_min_size = committee_min_size;
    committee_max_term_length = committee_max_term_length;
  })

-- an update: an object that names nothing but parameters, each of its kind; a null one is absent
unfoldable pub update_in : Data → Result Update FieldFault
update_in d = do
  object ← param_object d
  network ← network_group_in object no_update
  fees ← fees_in object network
  economic ← incomes_in object fees
  technical ← technical_group_in object economic
  governance_group_in object technical

-- the parameters of a genesis: an update that names each of them
abbrev pub params_in : Data → Result Params FieldFault
params_in d = update_in d >>= λ u. or_fault Missing (params_of_update u)
