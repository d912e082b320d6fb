-- An update applied to the parameters. (PParams of the formal specification)
use Rattle.std.specs.Prelude.{unwrap_or}
use Rattle.pparams.specs.declared.Params.{Params}
use Rattle.pparams.specs.declared.Update.{Update}

-- each named parameter is replaced whole, and the others stay
abbrev pub laid_over : Params → Update → Params
laid_over p u = record {
  max_block_body_size = unwrap_or u.max_block_body_size p.max_block_body_size;
  max_tx_size = unwrap_or u.max_tx_size p.max_tx_size;
  max_block_header_size = unwrap_or u.max_block_header_size p.max_block_header_size;
  max_value_size = unwrap_or u.max_value_size p.max_value_size;
  max_tx_ex_units = unwrap_or u.max_tx_ex_units p.max_tx_ex_units;
  max_block_ex_units = unwrap_or u.max_block_ex_units p.max_block_ex_units;
  max_collateral_inputs = unwrap_or u.max_collateral_inputs p.max_collateral_inputs;
  min_fee_a = unwrap_or u.min_fee_a p.min_fee_a;
  min_fee_b = unwrap_or u.min_fee_b p.min_fee_b;
  key_deposit = unwrap_or u.key_deposit p.key_deposit;
  pool_deposit = unwrap_or u.pool_deposit p.pool_deposit;
  rho = unwrap_or u.rho p.rho;
  tau = unwrap_or u.tau p.tau;
  min_pool_cost = unwrap_or u.min_pool_cost p.min_pool_cost;
  coins_per_utxo_byte = unwrap_or u.coins_per_utxo_byte p.coins_per_utxo_byte;
  prices = unwrap_or u.prices p.prices;
  min_fee_ref_script_cost_per_byte = unwrap_or u.min_fee_ref_script_cost_per_byte p.min_fee_ref_script_cost_per_byte;
  a0 = unwrap_or u.a0 p.a0;
  e_max = unwrap_or u.e_max p.e_max;
  n_opt = unwrap_or u.n_opt p.n_opt;
  cost_models = unwrap_or u.cost_models p.cost_models;
  collateral_percentage = unwrap_or u.collateral_percentage p.collateral_percentage;
  pool_voting_thresholds = unwrap_or u.pool_voting_thresholds p.pool_voting_thresholds;
  drep_voting_thresholds = unwrap_or u.drep_voting_thresholds p.drep_voting_thresholds;
  gov_action_lifetime = unwrap_or u.gov_action_lifetime p.gov_action_lifetime;
  gov_action_deposit = unwrap_or u.gov_action_deposit p.gov_action_deposit;
  drep_deposit = unwrap_or u.drep_deposit p.drep_deposit;
  drep_activity = unwrap_or u.drep_activity p.drep_activity;
  committee_min_size = unwrap_or u.committee_min_size p.committee_min_size;
  committee_max_term_length = unwrap_or u.committee_max_term_length p.committee_max_term_length;
}
