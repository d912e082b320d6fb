-- The parameters in the order of their lines, each put behind those before it. (Own)
use Rattle.std.specs.Prelude.{ℕ, List}
use Rattle.coin_frac.specs.Fraction.{Fraction}
use Rattle.pparams.specs.declared.Params.{Params}

-- the four sizes
abbrev pub Sizes : Type 0
Sizes = ((ℕ × ℕ) × ℕ) × ℕ

-- the network group
abbrev pub Network : Type 0
Network = ((Sizes × (ℕ × ℕ)) × (ℕ × ℕ)) × ℕ

-- fees and deposits
abbrev pub Fees : Type 0
Fees = ((ℕ × ℕ) × ℕ) × ℕ

-- fees, deposits, and what goes to pools and to the treasury
abbrev pub Incomes : Type 0
Incomes = (((Fees × Fraction) × Fraction) × ℕ) × ℕ

-- the economic group
abbrev pub Economic : Type 0
Economic = (Incomes × (Fraction × Fraction)) × Fraction

-- the technical group
abbrev pub Technical : Type 0
Technical = (((Fraction × ℕ) × ℕ) × List ℕ) × ℕ

-- the thresholds, and what a proposal and a DRep pay
abbrev pub Deposits : Type 0
Deposits = (((List Fraction × List Fraction) × ℕ) × ℕ) × ℕ

-- the governance group
abbrev pub Governance : Type 0
Governance = ((Deposits × ℕ) × ℕ) × ℕ

-- all groups
abbrev pub Parts : Type 0
Parts = ((Network × Economic) × Technical) × Governance

-- the parts of the network group
abbrev pub network_of : Params → Network
network_of p =
    (((((((p.max_block_body_size, p.max_tx_size), p.max_block_header_size), p.max_value_size), p.max_tx_ex_units), p.max_block_ex_units), p.max_collateral_inputs))

-- the parts of the economic group
abbrev pub economic_of : Params → Economic
economic_of p =
    let fees : Fees = (((p.min_fee_a, p.min_fee_b), p.key_deposit), p.pool_deposit) in
    let incomes : Incomes = ((((fees, p.rho), p.tau), p.min_pool_cost), p.coins_per_utxo_byte) in
    ((incomes, p.prices), p.min_fee_ref_script_cost_per_byte)

-- the parts of the technical group
abbrev pub technical_of : Params → Technical
technical_of p = ((((p.a0, p.e_max), p.n_opt), p.cost_models), p.collateral_percentage)

-- the parts of the governance group
abbrev pub governance_of : Params → Governance
governance_of p =
    let deposits : Deposits = ((((p.pool_voting_thresholds, p.drep_voting_thresholds), p.gov_action_lifetime), p.gov_action_deposit), p.drep_deposit) in
    (((deposits, p.drep_activity), p.committee_min_size), p.committee_max_term_length)

-- the parts of all parameters
abbrev pub parts_of : Params → Parts
parts_of p = (((network_of p, economic_of p), technical_of p), governance_of p)

-- the parameters of these parts
abbrev pub params_from : Parts → Params
params_from t =
    let network : Network = t.0.0.0 in
    let sizes : Sizes = network.0.0.0 in
    let economic : Economic = t.0.0.1 in
    let incomes : Incomes = economic.0.0 in
    let fees : Fees = incomes.0.0.0.0 in
    let technical : Technical = t.0.1 in
    let governance : Governance = t.1 in
    let deposits : Deposits = governance.0.0.0 in
    record {
      max_block_body_size = sizes.0.0.0;
      max_tx_size = sizes.0.0.1;
      max_block_header_size = sizes.0.1;
      max_value_size = sizes.1;
      max_tx_ex_units = network.0.0.1;
      max_block_ex_units = network.0.1;
      max_collateral_inputs = network.1;
      min_fee_a = fees.0.0.0;
      min_fee_b = fees.0.0.1;
      key_deposit = fees.0.1;
      pool_deposit = fees.1;
      rho = incomes.0.0.0.1;
      tau = incomes.0.0.1;
      min_pool_cost = incomes.0.1;
      coins_per_utxo_byte = incomes.1;
      prices = economic.0.1;
      min_fee_ref_script_cost_per_byte = economic.1;
      a0 = technical.0.0.0.0;
      e_max = technical.0.0.0.1;
      n_opt = technical.0.0.1;
      cost_models = technical.0.1;
      collateral_percentage = technical.1;
      pool_voting_thresholds = deposits.0.0.0.0;
      drep_voting_thresholds = deposits.0.0.0.1;
      gov_action_lifetime = deposits.0.0.1;
      gov_action_deposit = deposits.0.1;
      drep_deposit = deposits.1;
      drep_activity = governance.0.0.1;
      committee_min_size = governance.0.1;
      committee_max_term_length = governance.1;
    }
