-- What an object of parameters gives is no longer than the object.
use Rattle.std.proofs.Common.{◌≡◌, ◌+◌, ◌^◌, ◌≤◌, List, ◌++◌, codes, decimal, refl, ap, arith}
use Rattle.serde_json.specs.Data.{Data, Items, array, boolean, item, no_items, null, number, object, string}
use Rattle.pparams.specs.declared.Update.{Update}
use Rattle.json_fields.specs.declared.fault.FieldFault.TheVariants.{OutOfRange}
use Rattle.json_fields.specs.Entries.{both_in}
use Rattle.json_fields.specs.Kinds.{ratio_in, u64_in}
use Rattle.json_fields.specs.Steps.{◌>>=◌}
use Rattle.action_read.specs.Params.{fees_in, five_units_in, governance_group_in, incomes_in, is_five, is_ten, names_only_params, network_group_in, no_update, param_names, technical_group_in, ten_units_in, units_in, update_in}
use Rattle.text_forms.specs.ActionText.{economic_fields, fraction_json, fractions_json, governance_fields, hash_json, maybe, network_fields, numbers_json, prices_json, technical_fields, update_json}
use Rattle.text_model.specs.Words.{Text}
use Rattle.json_lengths.specs.Sizes.{items_size, members_size}
use Rattle.record_read.proofs.Gives.{Gives, given, if_test, next, or_else}
use Rattle.action_lengths.proofs.Fitting.{Fits, both_fit, hash_fits, maybe_fits, number_fits, ratio_fits, unit_fits, weaken}
use Rattle.action_lengths.proofs.Members.{names_fit, size_at, sizes_at}
use Rattle.action_lengths.proofs.Texts.{closed_grows, cost, cost-append, list_length, object_length, total}

-- ---- values

pub numbers_fit : Fits numbers_json (both_in u64_in u64_in)
numbers_fit = both_fit decimal decimal (number_fits (2 ^ 64)) (number_fits (2 ^ 64))

prices_fit : Fits prices_json (both_in ratio_in ratio_in)
prices_fit = both_fit fraction_json fraction_json ratio_fits ratio_fits

units_fit : (ds : Items) → Gives (λ us. total fraction_json us ≤ items_size ds) (units_in ds)
units_fit no_items = given (omega arith)
units_fit (item d ds) = next (unit_fits d) (λ u a. next (units_fit ds) (λ us b. given (omega (arith, a, b))))

five_fit : Fits fractions_json five_units_in
five_fit null = record { holds = tt }
five_fit (boolean b) = record { holds = tt }
five_fit (number n) = record { holds = tt }
five_fit (string s) = record { holds = tt }
five_fit (array ds) =
    or_else (is_five ds) (weaken (units_fit ds) (λ us h. omega (arith, list_length fraction_json us, closed_grows (total fraction_json us) (items_size ds) h))) (record { holds = tt })
five_fit (object ms) = record { holds = tt }

ten_fit : Fits fractions_json ten_units_in
ten_fit null = record { holds = tt }
ten_fit (boolean b) = record { holds = tt }
ten_fit (number n) = record { holds = tt }
ten_fit (string s) = record { holds = tt }
ten_fit (array ds) =
    or_else (is_ten ds) (weaken (units_fit ds) (λ us h. omega (arith, list_length fraction_json us, closed_grows (total fraction_json us) (items_size ds) h))) (record { holds = tt })
ten_fit (object ms) = record { holds = tt }

-- ---- each group

-- each parameter as a field
record NetworkFit (d : Data) (u : Update) : Type 0 where
  max_block_body_size : cost (maybe (codes "maxBlockBodySize") decimal u.max_block_body_size) ≤ size_at (codes "maxBlockBodySize") d
  max_tx_size : cost (maybe (codes "maxTxSize") decimal u.max_tx_size) ≤ size_at (codes "maxTxSize") d
  max_block_header_size : cost (maybe (codes "maxBlockHeaderSize") decimal u.max_block_header_size) ≤ size_at (codes "maxBlockHeaderSize") d
  max_value_size : cost (maybe (codes "maxValueSize") decimal u.max_value_size) ≤ size_at (codes "maxValueSize") d
  max_tx_ex_units : cost (maybe (codes "maxTxExUnits") numbers_json u.max_tx_ex_units) ≤ size_at (codes "maxTxExUnits") d
  max_block_ex_units : cost (maybe (codes "maxBlockExUnits") numbers_json u.max_block_ex_units) ≤ size_at (codes "maxBlockExUnits") d
  max_collateral_inputs : cost (maybe (codes "maxCollateralInputs") decimal u.max_collateral_inputs) ≤ size_at (codes "maxCollateralInputs") d

-- each parameter as a field
record FeesFit (d : Data) (u : Update) : Type 0 where
  min_fee_a : cost (maybe (codes "minFeeA") decimal u.min_fee_a) ≤ size_at (codes "minFeeA") d
  min_fee_b : cost (maybe (codes "minFeeB") decimal u.min_fee_b) ≤ size_at (codes "minFeeB") d
  key_deposit : cost (maybe (codes "keyDeposit") decimal u.key_deposit) ≤ size_at (codes "keyDeposit") d
  pool_deposit : cost (maybe (codes "poolDeposit") decimal u.pool_deposit) ≤ size_at (codes "poolDeposit") d

-- each parameter as a field
record IncomesFit (d : Data) (u : Update) : Type 0 where
  rho : cost (maybe (codes "rho") fraction_json u.rho) ≤ size_at (codes "rho") d
  tau : cost (maybe (codes "tau") fraction_json u.tau) ≤ size_at (codes "tau") d
  min_pool_cost : cost (maybe (codes "minPoolCost") decimal u.min_pool_cost) ≤ size_at (codes "minPoolCost") d
  coins_per_utxo_byte : cost (maybe (codes "coinsPerUTxOByte") decimal u.coins_per_utxo_byte) ≤ size_at (codes "coinsPerUTxOByte") d
  prices : cost (maybe (codes "prices") prices_json u.prices) ≤ size_at (codes "prices") d
  min_fee_ref_script_cost_per_byte : cost (maybe (codes "minFeeRefScriptCostPerByte") fraction_json u.min_fee_ref_script_cost_per_byte) ≤ size_at (codes "minFeeRefScriptCostPerByte") d

-- each parameter as a field
record TechnicalFit (d : Data) (u : Update) : Type 0 where
  a0 : cost (maybe (codes "a0") fraction_json u.a0) ≤ size_at (codes "a0") d
  e_max : cost (maybe (codes "eMax") decimal u.e_max) ≤ size_at (codes "eMax") d
  n_opt : cost (maybe (codes "nOpt") decimal u.n_opt) ≤ size_at (codes "nOpt") d
  cost_models : cost (maybe (codes "costModels") hash_json u.cost_models) ≤ size_at (codes "costModels") d
  collateral_percentage : cost (maybe (codes "collateralPercentage") decimal u.collateral_percentage) ≤ size_at (codes "collateralPercentage") d

-- each parameter as a field
record GovernanceFit (d : Data) (u : Update) : Type 0 where
  pool_voting_thresholds : cost (maybe (codes "poolVotingThresholds") fractions_json u.pool_voting_thresholds) ≤ size_at (codes "poolVotingThresholds") d
  drep_voting_thresholds : cost (maybe (codes "drepVotingThresholds") fractions_json u.drep_voting_thresholds) ≤ size_at (codes "drepVotingThresholds") d
  gov_action_lifetime : cost (maybe (codes "govActionLifetime") decimal u.gov_action_lifetime) ≤ size_at (codes "govActionLifetime") d
  gov_action_deposit : cost (maybe (codes "govActionDeposit") decimal u.gov_action_deposit) ≤ size_at (codes "govActionDeposit") d
  drep_deposit : cost (maybe (codes "drepDeposit") decimal u.drep_deposit) ≤ size_at (codes "drepDeposit") d
  drep_activity : cost (maybe (codes "drepActivity") decimal u.drep_activity) ≤ size_at (codes "drepActivity") d
  committee_min_size : cost (maybe (codes "committeeMinSize") decimal u.committee_min_size) ≤ size_at (codes "committeeMinSize") d
  committee_max_term_length : cost (maybe (codes "committeeMaxTermLength") decimal u.committee_max_term_length) ≤ size_at (codes "committeeMaxTermLength") d

network_group_in-fits : (d : Data) (u : Update) → Gives (λ v. NetworkFit d v) (network_group_in d u)
unfolding network_group_in
network_group_in-fits d u =
    next (maybe_fits decimal (number_fits (2 ^ 32)) (codes "maxBlockBodySize") d) (λ max_block_body_size a.
    next (maybe_fits decimal (number_fits (2 ^ 32)) (codes "maxTxSize") d) (λ max_tx_size b.
    next (maybe_fits decimal (number_fits (2 ^ 32)) (codes "maxBlockHeaderSize") d) (λ max_block_header_size c.
    next (maybe_fits decimal (number_fits (2 ^ 32)) (codes "maxValueSize") d) (λ max_value_size e.
    next (maybe_fits numbers_json numbers_fit (codes "maxTxExUnits") d) (λ max_tx_ex_units f.
    next (maybe_fits numbers_json numbers_fit (codes "maxBlockExUnits") d) (λ max_block_ex_units g.
    next (maybe_fits decimal (number_fits (2 ^ 16)) (codes "maxCollateralInputs") d) (λ max_collateral_inputs h.
    given (record { max_block_body_size = a; max_tx_size = b; max_block_header_size = c; max_value_size = e; max_tx_ex_units = f; max_block_ex_units = g; max_collateral_inputs = h }))))))))

fees_in-fits : (d : Data) (u : Update) → NetworkFit d u → Gives (λ v. NetworkFit d v × FeesFit d v) (fees_in d u)
unfolding fees_in
fees_in-fits d u k0 =
    next (maybe_fits decimal (number_fits (2 ^ 64)) (codes "minFeeA") d) (λ min_fee_a a.
    next (maybe_fits decimal (number_fits (2 ^ 64)) (codes "minFeeB") d) (λ min_fee_b b.
    next (maybe_fits decimal (number_fits (2 ^ 64)) (codes "keyDeposit") d) (λ key_deposit c.
    next (maybe_fits decimal (number_fits (2 ^ 64)) (codes "poolDeposit") d) (λ pool_deposit e.
    given (record { max_block_body_size = k0.max_block_body_size; max_tx_size = k0.max_tx_size; max_block_header_size = k0.max_block_header_size; max_value_size = k0.max_value_size; max_tx_ex_units = k0.max_tx_ex_units; max_block_ex_units = k0.max_block_ex_units; max_collateral_inputs = k0.max_collateral_inputs }, record { min_fee_a = a; min_fee_b = b; key_deposit = c; pool_deposit = e })))))

incomes_in-fits : (d : Data) (u : Update) → NetworkFit d u → FeesFit d u → Gives (λ v. NetworkFit d v × FeesFit d v × IncomesFit d v) (incomes_in d u)
unfolding incomes_in
incomes_in-fits d u k0 k1 =
    next (maybe_fits fraction_json unit_fits (codes "rho") d) (λ rho a.
    next (maybe_fits fraction_json unit_fits (codes "tau") d) (λ tau b.
    next (maybe_fits decimal (number_fits (2 ^ 64)) (codes "minPoolCost") d) (λ min_pool_cost c.
    next (maybe_fits decimal (number_fits (2 ^ 64)) (codes "coinsPerUTxOByte") d) (λ coins_per_utxo_byte e.
    next (maybe_fits prices_json prices_fit (codes "prices") d) (λ prices f.
    next (maybe_fits fraction_json ratio_fits (codes "minFeeRefScriptCostPerByte") d) (λ min_fee_ref_script_cost_per_byte g.
    given (record { max_block_body_size = k0.max_block_body_size; max_tx_size = k0.max_tx_size; max_block_header_size = k0.max_block_header_size; max_value_size = k0.max_value_size; max_tx_ex_units = k0.max_tx_ex_units; max_block_ex_units = k0.max_block_ex_units; max_collateral_inputs = k0.max_collateral_inputs }, record { min_fee_a = k1.min_fee_a; min_fee_b = k1.min_fee_b; key_deposit = k1.key_deposit; pool_deposit = k1.pool_deposit }, record { rho = a; tau = b; min_pool_cost = c; coins_per_utxo_byte = e; prices = f; min_fee_ref_script_cost_per_byte = g })))))))

technical_group_in-fits : (d : Data) (u : Update) → NetworkFit d u → FeesFit d u → IncomesFit d u → Gives (λ v. NetworkFit d v × FeesFit d v × IncomesFit d v × TechnicalFit d v) (technical_group_in d u)
unfolding technical_group_in
technical_group_in-fits d u k0 k1 k2 =
    next (maybe_fits fraction_json ratio_fits (codes "a0") d) (λ a0 a.
    next (maybe_fits decimal (number_fits (2 ^ 32)) (codes "eMax") d) (λ e_max b.
    next (maybe_fits decimal (number_fits (2 ^ 16)) (codes "nOpt") d) (λ n_opt c.
    next (maybe_fits hash_json (hash_fits 32) (codes "costModels") d) (λ cost_models e.
    next (maybe_fits decimal (number_fits (2 ^ 16)) (codes "collateralPercentage") d) (λ collateral_percentage f.
    given (record { max_block_body_size = k0.max_block_body_size; max_tx_size = k0.max_tx_size; max_block_header_size = k0.max_block_header_size; max_value_size = k0.max_value_size; max_tx_ex_units = k0.max_tx_ex_units; max_block_ex_units = k0.max_block_ex_units; max_collateral_inputs = k0.max_collateral_inputs }, record { min_fee_a = k1.min_fee_a; min_fee_b = k1.min_fee_b; key_deposit = k1.key_deposit; pool_deposit = k1.pool_deposit }, record { rho = k2.rho; tau = k2.tau; min_pool_cost = k2.min_pool_cost; coins_per_utxo_byte = k2.coins_per_utxo_byte; prices = k2.prices; min_fee_ref_script_cost_per_byte = k2.min_fee_ref_script_cost_per_byte }, record { a0 = a; e_max = b; n_opt = c; cost_models = e; collateral_percentage = f }))))))

governance_group_in-fits : (d : Data) (u : Update) → NetworkFit d u → FeesFit d u → IncomesFit d u → TechnicalFit d u → Gives (λ v. NetworkFit d v × FeesFit d v × IncomesFit d v × TechnicalFit d v × GovernanceFit d v) (governance_group_in d u)
unfolding governance_group_in
governance_group_in-fits d u k0 k1 k2 k3 =
    next (maybe_fits fractions_json five_fit (codes "poolVotingThresholds") d) (λ pool_voting_thresholds a.
    next (maybe_fits fractions_json ten_fit (codes "drepVotingThresholds") d) (λ drep_voting_thresholds b.
    next (maybe_fits decimal (number_fits (2 ^ 32)) (codes "govActionLifetime") d) (λ gov_action_lifetime c.
    next (maybe_fits decimal (number_fits (2 ^ 64)) (codes "govActionDeposit") d) (λ gov_action_deposit e.
    next (maybe_fits decimal (number_fits (2 ^ 64)) (codes "drepDeposit") d) (λ drep_deposit f.
    next (maybe_fits decimal (number_fits (2 ^ 32)) (codes "drepActivity") d) (λ drep_activity g.
    next (maybe_fits decimal (number_fits (2 ^ 16)) (codes "committeeMinSize") d) (λ committee_min_size h.
    next (maybe_fits decimal (number_fits (2 ^ 32)) (codes "committeeMaxTermLength") d) (λ committee_max_term_length i.
    given (record { max_block_body_size = k0.max_block_body_size; max_tx_size = k0.max_tx_size; max_block_header_size = k0.max_block_header_size; max_value_size = k0.max_value_size; max_tx_ex_units = k0.max_tx_ex_units; max_block_ex_units = k0.max_block_ex_units; max_collateral_inputs = k0.max_collateral_inputs }, record { min_fee_a = k1.min_fee_a; min_fee_b = k1.min_fee_b; key_deposit = k1.key_deposit; pool_deposit = k1.pool_deposit }, record { rho = k2.rho; tau = k2.tau; min_pool_cost = k2.min_pool_cost; coins_per_utxo_byte = k2.coins_per_utxo_byte; prices = k2.prices; min_fee_ref_script_cost_per_byte = k2.min_fee_ref_script_cost_per_byte }, record { a0 = k3.a0; e_max = k3.e_max; n_opt = k3.n_opt; cost_models = k3.cost_models; collateral_percentage = k3.collateral_percentage }, record { pool_voting_thresholds = a; drep_voting_thresholds = b; gov_action_lifetime = c; gov_action_deposit = e; drep_deposit = f; drep_activity = g; committee_min_size = h; committee_max_term_length = i })))))))))

network_cost : (d : Data) (u : Update) → NetworkFit d u → cost (network_fields u) ≤ size_at (codes "maxBlockBodySize") d + size_at (codes "maxTxSize") d + size_at (codes "maxBlockHeaderSize") d + size_at (codes "maxValueSize") d + size_at (codes "maxTxExUnits") d + size_at (codes "maxBlockExUnits") d + size_at (codes "maxCollateralInputs") d
network_cost d u x0 =
    omega (
      arith,
      cost-append (maybe (codes "maxBlockBodySize") decimal u.max_block_body_size) (maybe (codes "maxTxSize") decimal u.max_tx_size),
      cost-append (maybe (codes "maxBlockBodySize") decimal u.max_block_body_size ++ maybe (codes "maxTxSize") decimal u.max_tx_size) (maybe (codes "maxBlockHeaderSize") decimal u.max_block_header_size),
      cost-append (maybe (codes "maxBlockBodySize") decimal u.max_block_body_size ++ maybe (codes "maxTxSize") decimal u.max_tx_size ++ maybe (codes "maxBlockHeaderSize") decimal u.max_block_header_size) (maybe (codes "maxValueSize") decimal u.max_value_size),
      cost-append (maybe (codes "maxBlockBodySize") decimal u.max_block_body_size ++ maybe (codes "maxTxSize") decimal u.max_tx_size ++ maybe (codes "maxBlockHeaderSize") decimal u.max_block_header_size ++ maybe (codes "maxValueSize") decimal u.max_value_size) (maybe (codes "maxTxExUnits") numbers_json u.max_tx_ex_units),
      cost-append (maybe (codes "maxBlockBodySize") decimal u.max_block_body_size ++ maybe (codes "maxTxSize") decimal u.max_tx_size ++ maybe (codes "maxBlockHeaderSize") decimal u.max_block_header_size ++ maybe (codes "maxValueSize") decimal u.max_value_size ++ maybe (codes "maxTxExUnits") numbers_json u.max_tx_ex_units) (maybe (codes "maxBlockExUnits") numbers_json u.max_block_ex_units),
      cost-append (maybe (codes "maxBlockBodySize") decimal u.max_block_body_size ++ maybe (codes "maxTxSize") decimal u.max_tx_size ++ maybe (codes "maxBlockHeaderSize") decimal u.max_block_header_size ++ maybe (codes "maxValueSize") decimal u.max_value_size ++ maybe (codes "maxTxExUnits") numbers_json u.max_tx_ex_units ++ maybe (codes "maxBlockExUnits") numbers_json u.max_block_ex_units) (maybe (codes "maxCollateralInputs") decimal u.max_collateral_inputs),
      x0.max_block_body_size,
      x0.max_tx_size,
      x0.max_block_header_size,
      x0.max_value_size,
      x0.max_tx_ex_units,
      x0.max_block_ex_units,
      x0.max_collateral_inputs,
    )

economic_cost : (d : Data) (u : Update) → FeesFit d u → IncomesFit d u → cost (economic_fields u) ≤ size_at (codes "minFeeA") d + size_at (codes "minFeeB") d + size_at (codes "keyDeposit") d + size_at (codes "poolDeposit") d + size_at (codes "rho") d + size_at (codes "tau") d + size_at (codes "minPoolCost") d + size_at (codes "coinsPerUTxOByte") d + size_at (codes "prices") d + size_at (codes "minFeeRefScriptCostPerByte") d
economic_cost d u x0 x1 =
    omega (
      arith,
      cost-append (maybe (codes "minFeeA") decimal u.min_fee_a) (maybe (codes "minFeeB") decimal u.min_fee_b),
      cost-append (maybe (codes "minFeeA") decimal u.min_fee_a ++ maybe (codes "minFeeB") decimal u.min_fee_b) (maybe (codes "keyDeposit") decimal u.key_deposit),
      cost-append (maybe (codes "minFeeA") decimal u.min_fee_a ++ maybe (codes "minFeeB") decimal u.min_fee_b ++ maybe (codes "keyDeposit") decimal u.key_deposit) (maybe (codes "poolDeposit") decimal u.pool_deposit),
      cost-append (maybe (codes "minFeeA") decimal u.min_fee_a ++ maybe (codes "minFeeB") decimal u.min_fee_b ++ maybe (codes "keyDeposit") decimal u.key_deposit ++ maybe (codes "poolDeposit") decimal u.pool_deposit) (maybe (codes "rho") fraction_json u.rho),
      cost-append (maybe (codes "minFeeA") decimal u.min_fee_a ++ maybe (codes "minFeeB") decimal u.min_fee_b ++ maybe (codes "keyDeposit") decimal u.key_deposit ++ maybe (codes "poolDeposit") decimal u.pool_deposit ++ maybe (codes "rho") fraction_json u.rho) (maybe (codes "tau") fraction_json u.tau),
      cost-append (maybe (codes "minFeeA") decimal u.min_fee_a ++ maybe (codes "minFeeB") decimal u.min_fee_b ++ maybe (codes "keyDeposit") decimal u.key_deposit ++ maybe (codes "poolDeposit") decimal u.pool_deposit ++ maybe (codes "rho") fraction_json u.rho ++ maybe (codes "tau") fraction_json u.tau) (maybe (codes "minPoolCost") decimal u.min_pool_cost),
      cost-append (maybe (codes "minFeeA") decimal u.min_fee_a ++ maybe (codes "minFeeB") decimal u.min_fee_b ++ maybe (codes "keyDeposit") decimal u.key_deposit ++ maybe (codes "poolDeposit") decimal u.pool_deposit ++ maybe (codes "rho") fraction_json u.rho ++ maybe (codes "tau") fraction_json u.tau ++ maybe (codes "minPoolCost") decimal u.min_pool_cost) (maybe (codes "coinsPerUTxOByte") decimal u.coins_per_utxo_byte),
      cost-append (maybe (codes "minFeeA") decimal u.min_fee_a ++ maybe (codes "minFeeB") decimal u.min_fee_b ++ maybe (codes "keyDeposit") decimal u.key_deposit ++ maybe (codes "poolDeposit") decimal u.pool_deposit ++ maybe (codes "rho") fraction_json u.rho ++ maybe (codes "tau") fraction_json u.tau ++ maybe (codes "minPoolCost") decimal u.min_pool_cost ++ maybe (codes "coinsPerUTxOByte") decimal u.coins_per_utxo_byte) (maybe (codes "prices") prices_json u.prices),
      cost-append (maybe (codes "minFeeA") decimal u.min_fee_a ++ maybe (codes "minFeeB") decimal u.min_fee_b ++ maybe (codes "keyDeposit") decimal u.key_deposit ++ maybe (codes "poolDeposit") decimal u.pool_deposit ++ maybe (codes "rho") fraction_json u.rho ++ maybe (codes "tau") fraction_json u.tau ++ maybe (codes "minPoolCost") decimal u.min_pool_cost ++ maybe (codes "coinsPerUTxOByte") decimal u.coins_per_utxo_byte ++ maybe (codes "prices") prices_json u.prices) (maybe (codes "minFeeRefScriptCostPerByte") fraction_json u.min_fee_ref_script_cost_per_byte),
      x0.min_fee_a,
      x0.min_fee_b,
      x0.key_deposit,
      x0.pool_deposit,
      x1.rho,
      x1.tau,
      x1.min_pool_cost,
      x1.coins_per_utxo_byte,
      x1.prices,
      x1.min_fee_ref_script_cost_per_byte,
    )

technical_cost : (d : Data) (u : Update) → TechnicalFit d u → cost (technical_fields u) ≤ size_at (codes "a0") d + size_at (codes "eMax") d + size_at (codes "nOpt") d + size_at (codes "costModels") d + size_at (codes "collateralPercentage") d
technical_cost d u x0 =
    omega (
      arith,
      cost-append (maybe (codes "a0") fraction_json u.a0) (maybe (codes "eMax") decimal u.e_max),
      cost-append (maybe (codes "a0") fraction_json u.a0 ++ maybe (codes "eMax") decimal u.e_max) (maybe (codes "nOpt") decimal u.n_opt),
      cost-append (maybe (codes "a0") fraction_json u.a0 ++ maybe (codes "eMax") decimal u.e_max ++ maybe (codes "nOpt") decimal u.n_opt) (maybe (codes "costModels") hash_json u.cost_models),
      cost-append (maybe (codes "a0") fraction_json u.a0 ++ maybe (codes "eMax") decimal u.e_max ++ maybe (codes "nOpt") decimal u.n_opt ++ maybe (codes "costModels") hash_json u.cost_models) (maybe (codes "collateralPercentage") decimal u.collateral_percentage),
      x0.a0,
      x0.e_max,
      x0.n_opt,
      x0.cost_models,
      x0.collateral_percentage,
    )

governance_cost : (d : Data) (u : Update) → GovernanceFit d u → cost (governance_fields u) ≤ size_at (codes "poolVotingThresholds") d + size_at (codes "drepVotingThresholds") d + size_at (codes "govActionLifetime") d + size_at (codes "govActionDeposit") d + size_at (codes "drepDeposit") d + size_at (codes "drepActivity") d + size_at (codes "committeeMinSize") d + size_at (codes "committeeMaxTermLength") d
governance_cost d u x0 =
    omega (
      arith,
      cost-append (maybe (codes "poolVotingThresholds") fractions_json u.pool_voting_thresholds) (maybe (codes "drepVotingThresholds") fractions_json u.drep_voting_thresholds),
      cost-append (maybe (codes "poolVotingThresholds") fractions_json u.pool_voting_thresholds ++ maybe (codes "drepVotingThresholds") fractions_json u.drep_voting_thresholds) (maybe (codes "govActionLifetime") decimal u.gov_action_lifetime),
      cost-append (maybe (codes "poolVotingThresholds") fractions_json u.pool_voting_thresholds ++ maybe (codes "drepVotingThresholds") fractions_json u.drep_voting_thresholds ++ maybe (codes "govActionLifetime") decimal u.gov_action_lifetime) (maybe (codes "govActionDeposit") decimal u.gov_action_deposit),
      cost-append (maybe (codes "poolVotingThresholds") fractions_json u.pool_voting_thresholds ++ maybe (codes "drepVotingThresholds") fractions_json u.drep_voting_thresholds ++ maybe (codes "govActionLifetime") decimal u.gov_action_lifetime ++ maybe (codes "govActionDeposit") decimal u.gov_action_deposit) (maybe (codes "drepDeposit") decimal u.drep_deposit),
      cost-append (maybe (codes "poolVotingThresholds") fractions_json u.pool_voting_thresholds ++ maybe (codes "drepVotingThresholds") fractions_json u.drep_voting_thresholds ++ maybe (codes "govActionLifetime") decimal u.gov_action_lifetime ++ maybe (codes "govActionDeposit") decimal u.gov_action_deposit ++ maybe (codes "drepDeposit") decimal u.drep_deposit) (maybe (codes "drepActivity") decimal u.drep_activity),
      cost-append (maybe (codes "poolVotingThresholds") fractions_json u.pool_voting_thresholds ++ maybe (codes "drepVotingThresholds") fractions_json u.drep_voting_thresholds ++ maybe (codes "govActionLifetime") decimal u.gov_action_lifetime ++ maybe (codes "govActionDeposit") decimal u.gov_action_deposit ++ maybe (codes "drepDeposit") decimal u.drep_deposit ++ maybe (codes "drepActivity") decimal u.drep_activity) (maybe (codes "committeeMinSize") decimal u.committee_min_size),
      cost-append (maybe (codes "poolVotingThresholds") fractions_json u.pool_voting_thresholds ++ maybe (codes "drepVotingThresholds") fractions_json u.drep_voting_thresholds ++ maybe (codes "govActionLifetime") decimal u.gov_action_lifetime ++ maybe (codes "govActionDeposit") decimal u.gov_action_deposit ++ maybe (codes "drepDeposit") decimal u.drep_deposit ++ maybe (codes "drepActivity") decimal u.drep_activity ++ maybe (codes "committeeMinSize") decimal u.committee_min_size) (maybe (codes "committeeMaxTermLength") decimal u.committee_max_term_length),
      x0.pool_voting_thresholds,
      x0.drep_voting_thresholds,
      x0.gov_action_lifetime,
      x0.gov_action_deposit,
      x0.drep_deposit,
      x0.drep_activity,
      x0.committee_min_size,
      x0.committee_max_term_length,
    )

-- ---- an update

all_names : (d : Data) → sizes_at param_names d ≡ size_at (codes "maxBlockBodySize") d + (size_at (codes "maxTxSize") d + (size_at (codes "maxBlockHeaderSize") d + (size_at (codes "maxValueSize") d + (size_at (codes "maxTxExUnits") d + (size_at (codes "maxBlockExUnits") d + (size_at (codes "maxCollateralInputs") d + (size_at (codes "minFeeA") d + (size_at (codes "minFeeB") d + (size_at (codes "keyDeposit") d + (size_at (codes "poolDeposit") d + (size_at (codes "rho") d + (size_at (codes "tau") d + (size_at (codes "minPoolCost") d + (size_at (codes "coinsPerUTxOByte") d + (size_at (codes "prices") d + (size_at (codes "minFeeRefScriptCostPerByte") d + (size_at (codes "a0") d + (size_at (codes "eMax") d + (size_at (codes "nOpt") d + (size_at (codes "costModels") d + (size_at (codes "collateralPercentage") d + (size_at (codes "poolVotingThresholds") d + (size_at (codes "drepVotingThresholds") d + (size_at (codes "govActionLifetime") d + (size_at (codes "govActionDeposit") d + (size_at (codes "drepDeposit") d + (size_at (codes "drepActivity") d + (size_at (codes "committeeMinSize") d + (size_at (codes "committeeMaxTermLength") d + 0)))))))))))))))))))))))))))))
all_names d = refl

update_object : (d : Data) → Gives (λ u. cost (network_fields u ++ economic_fields u ++ technical_fields u ++ governance_fields u) ≤ sizes_at param_names d)
    (network_group_in d no_update >>= λ network. fees_in d network >>= λ fees. incomes_in d fees >>= λ economic. technical_group_in d economic >>= λ technical. governance_group_in d technical)
update_object d =
    next (network_group_in-fits d no_update) (λ network a.
    next (fees_in-fits d network a) (λ fees b.
    next (incomes_in-fits d fees b.0 b.1) (λ economic c.
    next (technical_group_in-fits d economic c.0 c.1 c.2) (λ technical e.
    weaken (governance_group_in-fits d technical e.0 e.1 e.2 e.3) (λ u g.
    let n : List Text = network_fields u in
    let o : List Text = economic_fields u in
    let t : List Text = technical_fields u in
    omega (
      arith,
      cost-append n (o ++ t ++ governance_fields u),
      cost-append o (t ++ governance_fields u),
      cost-append t (governance_fields u),
      cost-append (n ++ o ++ t) (governance_fields u),
      cost-append (n ++ o) t,
      cost-append n o,
      network_cost d u g.0,
      economic_cost d u g.1 g.2,
      technical_cost d u g.3,
      governance_cost d u g.4,
      all_names d,
    ))))))

pub update_fits : Fits update_json update_in
unfolding update_in
update_fits null = record { holds = tt }
update_fits (boolean b) = record { holds = tt }
update_fits (number n) = record { holds = tt }
update_fits (string s) = record { holds = tt }
update_fits (array ds) = record { holds = tt }
update_fits (object ms) =
    next (if_test {P = λ (x : Data). x ≡ object ms} (names_only_params ms) (object ms) OutOfRange (λ e. refl)) (λ d e. weaken (update_object d) (λ u h.
    let fields : List Text = network_fields u ++ economic_fields u ++ technical_fields u ++ governance_fields u in
    let same : sizes_at param_names d ≡ sizes_at param_names (object ms) = ap (λ (x : Data). sizes_at param_names x) e in
    omega (arith, object_length fields, closed_grows (cost fields) (members_size ms) (omega (arith, h, same, names_fit param_names ms refl)))))
