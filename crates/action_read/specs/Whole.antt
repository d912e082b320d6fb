-- All parameters of an update that names each of them, group by group. (Own; groups of CIP-1694)
use Rattle.std.specs.Prelude.{Option, Some}
use Rattle.pparams.specs.declared.Params.{Params}
use Rattle.pparams.specs.declared.Update.{Update}
use Rattle.gov_ids.specs.Spelling.{◌>>=◌}
use Rattle.action_read.specs.declared.whole.NetworkParams.{NetworkParams}
use Rattle.action_read.specs.declared.whole.FeeParams.{FeeParams}
use Rattle.action_read.specs.declared.whole.IncomeParams.{IncomeParams}
use Rattle.action_read.specs.declared.whole.TechnicalParams.{TechnicalParams}
use Rattle.action_read.specs.declared.whole.GovernanceParams.{GovernanceParams}

-- the parameters of the network group, where the update names each
unfoldable pub network_params_of : Update → Option NetworkParams
network_params_of u = do
  max_block_body_size ← u.max_block_body_size
  max_tx_size ← u.max_tx_size
  max_block_header_size ← u.max_block_header_size
  max_value_size ← u.max_value_size
  max_tx_ex_units ← u.max_tx_ex_units
  max_block_ex_units ← u.max_block_ex_units
  max_collateral_inputs ← u.max_collateral_inputs
  Some (record {
    max_block_body_size = max_block_body_size;
    max_tx_size = max_tx_size;
    max_block_header_size = max_block_header_size;
    max_value_size = max_value_size;
    max_tx_ex_units = max_tx_ex_units;
    max_block_ex_units = max_block_ex_units;
    max_collateral_inputs = max_collateral_inputs;
  })

-- the fees and deposits of the economic group
unfoldable pub fee_params_of : Update → Option FeeParams
fee_params_of u = do
  min_fee_a ← u.min_fee_a
  min_fee_b ← u.min_fee_b
  key_deposit ← u.key_deposit
  pool_deposit ← u.pool_deposit
  Some (record {
    min_fee_a = min_fee_a;
    min_fee_b = min_fee_b;
    key_deposit = key_deposit;
    pool_deposit = pool_deposit;
  })

-- the others of the economic group
unfoldable pub income_params_of : Update → Option IncomeParams
income_params_of u = do
  rho ← u.rho
  tau ← u.tau
  min_pool_cost ← u.min_pool_cost
  coins_per_utxo_byte ← u.coins_per_utxo_byte
  prices ← u.prices
  min_fee_ref_script_cost_per_byte ← u.min_fee_ref_script_cost_per_byte
  Some (record {
    rho = rho;
    tau = tau;
    min_pool_cost = min_pool_cost;
    coins_per_utxo_byte = coins_per_utxo_byte;
    prices = prices;
    min_fee_ref_script_cost_per_byte = min_fee_ref_script_cost_per_byte;
  })

-- those of the technical group
unfoldable pub technical_params_of : Update → Option TechnicalParams
technical_params_of u = do
  a0 ← u.a0
  e_max ← u.e_max
  n_opt ← u.n_opt
  cost_models ← u.cost_models
  collateral_percentage ← u.collateral_percentage
  Some (record {
    a0 = a0;
    e_max = e_max;
    n_opt = n_opt;
    cost_models = cost_models;
    collateral_percentage = collateral_percentage;
  })

-- those of the governance group beside the thresholds of votes
unfoldable pub governance_params_of : Update → Option GovernanceParams
governance_params_of u = do
  gov_action_lifetime ← u.gov_action_lifetime
  gov_action_deposit ← u.gov_action_deposit
  drep_deposit ← u.drep_deposit
  drep_activity ← u.drep_activity
  committee_min_size ← u.committee_min_size
  committee_max_term_length ← u.committee_max_term_length
  Some (record {
    gov_action_lifetime = gov_action_lifetime;
    gov_action_deposit = gov_action_deposit;
    drep_deposit = drep_deposit;
    drep_activity = drep_activity;
    committee_min_size = committee_min_size;
    committee_max_term_length = committee_max_term_length;
  })

-- the parameters that the update names, where it names all
unfoldable pub params_of_update : Update → Option Params
params_of_update u = do
  network ← network_params_of u
  fee ← fee_params_of u
  income ← income_params_of u
  technical ← technical_params_of u
  governance ← governance_params_of u
  pool_voting_thresholds ← u.pool_voting_thresholds
  drep_voting_thresholds ← u.drep_voting_thresholds
  Some (record {
    max_block_body_size = network.max_block_body_size;
    max_tx_size = network.max_tx_size;
    max_block_header_size = network.max_block_header_size;
    max_value_size = network.max_value_size;
    max_tx_ex_units = network.max_tx_ex_units;
    max_block_ex_units = network.max_block_ex_units;
    max_collateral_inputs = network.max_collateral_inputs;
    min_fee_a = fee.min_fee_a;
    min_fee_b = fee.min_fee_b;
    key_deposit = fee.key_deposit;
    pool_deposit = fee.pool_deposit;
    rho = income.rho;
    tau = income.tau;
    min_pool_cost = income.min_pool_cost;
    coins_per_utxo_byte = income.coins_per_utxo_byte;
    prices = income.prices;
    min_fee_ref_script_cost_per_byte = income.min_fee_ref_script_cost_per_byte;
    a0 = technical.a0;
    e_max = technical.e_max;
    n_opt = technical.n_opt;
    cost_models = technical.cost_models;
    collateral_percentage = technical.collateral_percentage;
    pool_voting_thresholds = pool_voting_thresholds;
    drep_voting_thresholds = drep_voting_thresholds;
    gov_action_lifetime = governance.gov_action_lifetime;
    gov_action_deposit = governance.gov_action_deposit;
    drep_deposit = governance.drep_deposit;
    drep_activity = governance.drep_activity;
    committee_min_size = governance.committee_min_size;
    committee_max_term_length = governance.committee_max_term_length;
  })
