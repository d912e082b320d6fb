-- An update, as it is printed in an action and read again.
use Rattle.std.proofs.Common.{◌≡◌, ℕ, ◌^◌, ◌&&◌, true, List, [], ◌∷◌, ◌++◌, None, Ok, codes, decimal, flat_map, refl, ◌∙◌, subst, arith, append-nil, append_assoc}
use Rattle.std.proofs.lemmas.Bool.{and_parts}
use Rattle.std.proofs.lemmas.Grind.{flat_map-append}
use Rattle.std.specs.List.{join_by, list_all}
use Rattle.maps.specs.Words.{none_or}
use Rattle.serde_json.specs.Data.{Members, no_members, object}
use Rattle.serde_json.specs.Find.{get_member}
use Rattle.pparams.specs.declared.Update.{Update}
use Rattle.tx_records.specs.Limits.{is_u32, is_u64}
use Rattle.text_forms.specs.ActionText.{economic_fields, fraction_json, fractions_json, governance_fields, hash_json, network_fields, numbers_json, prices_json, technical_fields, update_json}
use Rattle.text_forms.specs.Actions.{are_prices, is_economic_update, is_governance_update, is_network_update, is_technical_update, is_update}
use Rattle.text_forms.specs.Ids.{are_u64, are_units, is_hash, is_ratio, is_u16, is_unit}
use Rattle.text_model.specs.Words.{Text}
use Rattle.gov_ids.specs.Spelling.{hash_of, hash_text}
use Rattle.std.specs.Result.{result_ok}
use Rattle.json_fields.specs.Entries.{both_in, maybe_in}
use Rattle.json_fields.specs.Kinds.{hash32_in, hash_in, ratio_in, u16_in, u32_in, u64_in, unit_in}
use Rattle.action_read.specs.Params.{fees_in, five_units_in, governance_group_in, incomes_in, is_param_name, network_group_in, no_update, param_object, technical_group_in, ten_units_in, update_in}
use Rattle.book_kinds.proofs.Fields.{hash_field}
use Rattle.action_kinds.proofs.Printing.{both_print, deeper_print, five_print, number_prints, ratio_prints, ten_print, text_prints, unit_prints}
use Rattle.action_kinds.proofs.Members.{Entry, Prints, are_apart, at, found_at, maybe_entry, maybe_read, names_of, object_printed, only_params, puts}
use Rattle.action_kinds.proofs.Trees.{Spells}
use Rattle.action_kinds.proofs.Quiet.{hash_quiet}

-- ---- the kinds of parameters

u64_print : Prints 2 is_u64 decimal u64_in
u64_print = deeper_print 2 (omega arith) {form = is_u64} (number_prints (2 ^ 64) (omega arith))

u32_print : Prints 2 is_u32 decimal u32_in
u32_print = deeper_print 2 (omega arith) {form = is_u32} (number_prints (2 ^ 32) (omega arith))

u16_print : Prints 2 is_u16 decimal u16_in
u16_print = deeper_print 2 (omega arith) {form = is_u16} (number_prints (2 ^ 16) (omega arith))

two_print : Prints 2 are_u64 numbers_json (both_in u64_in u64_in)
two_print = deeper_print 2 (omega arith) {form = are_u64} (both_print {f = is_u64} {g = is_u64} (number_prints (2 ^ 64) (omega arith)) (number_prints (2 ^ 64) (omega arith)))

unit_print : Prints 2 is_unit fraction_json unit_in
unit_print = deeper_print 2 (omega arith) {form = is_unit} unit_prints

ratio_print : Prints 2 is_ratio fraction_json ratio_in
ratio_print = deeper_print 2 (omega arith) {form = is_ratio} ratio_prints

prices_print : Prints 2 are_prices prices_json (both_in ratio_in ratio_in)
prices_print = both_print {f = is_ratio} {g = is_ratio} ratio_prints ratio_prints

pub hash_print : (n : ℕ) → Prints 0 (is_hash n) hash_json (hash_in n)
hash_print n = text_prints {form = is_hash n} hash_text (λ t. result_ok (hash_of n t)) (hash_quiet n) (hash_field n).back

hash32_print : Prints 2 (is_hash 32) hash_json hash32_in
hash32_print = deeper_print 2 (omega arith) {form = is_hash 32} (hash_print 32)

-- ---- the network group

record NetworkForm (u : Update) : Type 0 where
  max_block_body_size : none_or is_u32 u.max_block_body_size ≡ true
  max_tx_size : none_or is_u32 u.max_tx_size ≡ true
  max_block_header_size : none_or is_u32 u.max_block_header_size ≡ true
  max_value_size : none_or is_u32 u.max_value_size ≡ true
  max_tx_ex_units : none_or are_u64 u.max_tx_ex_units ≡ true
  max_block_ex_units : none_or are_u64 u.max_block_ex_units ≡ true
  max_collateral_inputs : none_or is_u16 u.max_collateral_inputs ≡ true

network_form : (u : Update) → is_network_update u ≡ true → NetworkForm u
network_form u p7 =
    let p6 = and_parts (none_or is_u32 u.max_block_body_size && none_or is_u32 u.max_tx_size && none_or is_u32 u.max_block_header_size && none_or is_u32 u.max_value_size && none_or are_u64 u.max_tx_ex_units && none_or are_u64 u.max_block_ex_units) (none_or is_u16 u.max_collateral_inputs) p7 in
    let p5 = and_parts (none_or is_u32 u.max_block_body_size && none_or is_u32 u.max_tx_size && none_or is_u32 u.max_block_header_size && none_or is_u32 u.max_value_size && none_or are_u64 u.max_tx_ex_units) (none_or are_u64 u.max_block_ex_units) p6.0 in
    let p4 = and_parts (none_or is_u32 u.max_block_body_size && none_or is_u32 u.max_tx_size && none_or is_u32 u.max_block_header_size && none_or is_u32 u.max_value_size) (none_or are_u64 u.max_tx_ex_units) p5.0 in
    let p3 = and_parts (none_or is_u32 u.max_block_body_size && none_or is_u32 u.max_tx_size && none_or is_u32 u.max_block_header_size) (none_or is_u32 u.max_value_size) p4.0 in
    let p2 = and_parts (none_or is_u32 u.max_block_body_size && none_or is_u32 u.max_tx_size) (none_or is_u32 u.max_block_header_size) p3.0 in
    let p1 = and_parts (none_or is_u32 u.max_block_body_size) (none_or is_u32 u.max_tx_size) p2.0 in
    record {
      max_block_body_size = p1.0;
      max_tx_size = p1.1;
      max_block_header_size = p2.1;
      max_value_size = p3.1;
      max_tx_ex_units = p4.1;
      max_block_ex_units = p5.1;
      max_collateral_inputs = p6.1;
    }

abbrev network_entries : (u : Update) → NetworkForm u → List (Entry 2)
network_entries u h =
    maybe_entry {form = is_u32} {text = decimal} {reading = u32_in} (codes "maxBlockBodySize") refl u32_print u.max_block_body_size h.max_block_body_size ∷
    maybe_entry {form = is_u32} {text = decimal} {reading = u32_in} (codes "maxTxSize") refl u32_print u.max_tx_size h.max_tx_size ∷
    maybe_entry {form = is_u32} {text = decimal} {reading = u32_in} (codes "maxBlockHeaderSize") refl u32_print u.max_block_header_size h.max_block_header_size ∷
    maybe_entry {form = is_u32} {text = decimal} {reading = u32_in} (codes "maxValueSize") refl u32_print u.max_value_size h.max_value_size ∷
    maybe_entry {form = are_u64} {text = numbers_json} {reading = both_in u64_in u64_in} (codes "maxTxExUnits") refl two_print u.max_tx_ex_units h.max_tx_ex_units ∷
    maybe_entry {form = are_u64} {text = numbers_json} {reading = both_in u64_in u64_in} (codes "maxBlockExUnits") refl two_print u.max_block_ex_units h.max_block_ex_units ∷
    maybe_entry {form = is_u16} {text = decimal} {reading = u16_in} (codes "maxCollateralInputs") refl u16_print u.max_collateral_inputs h.max_collateral_inputs ∷
    []

network_texts : (u : Update) (h : NetworkForm u) → flat_map (λ e. e.texts) (network_entries u h) ≡ network_fields u
network_texts u h = simp (append_assoc, append-nil) refl

-- ---- the economic group

record EconomicForm (u : Update) : Type 0 where
  min_fee_a : none_or is_u64 u.min_fee_a ≡ true
  min_fee_b : none_or is_u64 u.min_fee_b ≡ true
  key_deposit : none_or is_u64 u.key_deposit ≡ true
  pool_deposit : none_or is_u64 u.pool_deposit ≡ true
  rho : none_or is_unit u.rho ≡ true
  tau : none_or is_unit u.tau ≡ true
  min_pool_cost : none_or is_u64 u.min_pool_cost ≡ true
  coins_per_utxo_byte : none_or is_u64 u.coins_per_utxo_byte ≡ true
  prices : none_or are_prices u.prices ≡ true
  min_fee_ref_script_cost_per_byte : none_or is_ratio u.min_fee_ref_script_cost_per_byte ≡ true

economic_form : (u : Update) → is_economic_update u ≡ true → EconomicForm u
economic_form u p10 =
    let p9 = and_parts (none_or is_u64 u.min_fee_a && none_or is_u64 u.min_fee_b && none_or is_u64 u.key_deposit && none_or is_u64 u.pool_deposit && none_or is_unit u.rho && none_or is_unit u.tau && none_or is_u64 u.min_pool_cost && none_or is_u64 u.coins_per_utxo_byte && none_or are_prices u.prices) (none_or is_ratio u.min_fee_ref_script_cost_per_byte) p10 in
    let p8 = and_parts (none_or is_u64 u.min_fee_a && none_or is_u64 u.min_fee_b && none_or is_u64 u.key_deposit && none_or is_u64 u.pool_deposit && none_or is_unit u.rho && none_or is_unit u.tau && none_or is_u64 u.min_pool_cost && none_or is_u64 u.coins_per_utxo_byte) (none_or are_prices u.prices) p9.0 in
    let p7 = and_parts (none_or is_u64 u.min_fee_a && none_or is_u64 u.min_fee_b && none_or is_u64 u.key_deposit && none_or is_u64 u.pool_deposit && none_or is_unit u.rho && none_or is_unit u.tau && none_or is_u64 u.min_pool_cost) (none_or is_u64 u.coins_per_utxo_byte) p8.0 in
    let p6 = and_parts (none_or is_u64 u.min_fee_a && none_or is_u64 u.min_fee_b && none_or is_u64 u.key_deposit && none_or is_u64 u.pool_deposit && none_or is_unit u.rho && none_or is_unit u.tau) (none_or is_u64 u.min_pool_cost) p7.0 in
    let p5 = and_parts (none_or is_u64 u.min_fee_a && none_or is_u64 u.min_fee_b && none_or is_u64 u.key_deposit && none_or is_u64 u.pool_deposit && none_or is_unit u.rho) (none_or is_unit u.tau) p6.0 in
    let p4 = and_parts (none_or is_u64 u.min_fee_a && none_or is_u64 u.min_fee_b && none_or is_u64 u.key_deposit && none_or is_u64 u.pool_deposit) (none_or is_unit u.rho) p5.0 in
    let p3 = and_parts (none_or is_u64 u.min_fee_a && none_or is_u64 u.min_fee_b && none_or is_u64 u.key_deposit) (none_or is_u64 u.pool_deposit) p4.0 in
    let p2 = and_parts (none_or is_u64 u.min_fee_a && none_or is_u64 u.min_fee_b) (none_or is_u64 u.key_deposit) p3.0 in
    let p1 = and_parts (none_or is_u64 u.min_fee_a) (none_or is_u64 u.min_fee_b) p2.0 in
    record {
      min_fee_a = p1.0;
      min_fee_b = p1.1;
      key_deposit = p2.1;
      pool_deposit = p3.1;
      rho = p4.1;
      tau = p5.1;
      min_pool_cost = p6.1;
      coins_per_utxo_byte = p7.1;
      prices = p8.1;
      min_fee_ref_script_cost_per_byte = p9.1;
    }

abbrev economic_entries : (u : Update) → EconomicForm u → List (Entry 2)
economic_entries u h =
    maybe_entry {form = is_u64} {text = decimal} {reading = u64_in} (codes "minFeeA") refl u64_print u.min_fee_a h.min_fee_a ∷
    maybe_entry {form = is_u64} {text = decimal} {reading = u64_in} (codes "minFeeB") refl u64_print u.min_fee_b h.min_fee_b ∷
    maybe_entry {form = is_u64} {text = decimal} {reading = u64_in} (codes "keyDeposit") refl u64_print u.key_deposit h.key_deposit ∷
    maybe_entry {form = is_u64} {text = decimal} {reading = u64_in} (codes "poolDeposit") refl u64_print u.pool_deposit h.pool_deposit ∷
    maybe_entry {form = is_unit} {text = fraction_json} {reading = unit_in} (codes "rho") refl unit_print u.rho h.rho ∷
    maybe_entry {form = is_unit} {text = fraction_json} {reading = unit_in} (codes "tau") refl unit_print u.tau h.tau ∷
    maybe_entry {form = is_u64} {text = decimal} {reading = u64_in} (codes "minPoolCost") refl u64_print u.min_pool_cost h.min_pool_cost ∷
    maybe_entry {form = is_u64} {text = decimal} {reading = u64_in} (codes "coinsPerUTxOByte") refl u64_print u.coins_per_utxo_byte h.coins_per_utxo_byte ∷
    maybe_entry {form = are_prices} {text = prices_json} {reading = both_in ratio_in ratio_in} (codes "prices") refl prices_print u.prices h.prices ∷
    maybe_entry {form = is_ratio} {text = fraction_json} {reading = ratio_in} (codes "minFeeRefScriptCostPerByte") refl ratio_print u.min_fee_ref_script_cost_per_byte h.min_fee_ref_script_cost_per_byte ∷
    []

economic_texts : (u : Update) (h : EconomicForm u) → flat_map (λ e. e.texts) (economic_entries u h) ≡ economic_fields u
economic_texts u h = simp (append_assoc, append-nil) refl

-- ---- the technical group

record TechnicalForm (u : Update) : Type 0 where
  a0 : none_or is_ratio u.a0 ≡ true
  e_max : none_or is_u32 u.e_max ≡ true
  n_opt : none_or is_u16 u.n_opt ≡ true
  cost_models : none_or (is_hash 32) u.cost_models ≡ true
  collateral_percentage : none_or is_u16 u.collateral_percentage ≡ true

technical_form : (u : Update) → is_technical_update u ≡ true → TechnicalForm u
technical_form u p5 =
    let p4 = and_parts (none_or is_ratio u.a0 && none_or is_u32 u.e_max && none_or is_u16 u.n_opt && none_or (is_hash 32) u.cost_models) (none_or is_u16 u.collateral_percentage) p5 in
    let p3 = and_parts (none_or is_ratio u.a0 && none_or is_u32 u.e_max && none_or is_u16 u.n_opt) (none_or (is_hash 32) u.cost_models) p4.0 in
    let p2 = and_parts (none_or is_ratio u.a0 && none_or is_u32 u.e_max) (none_or is_u16 u.n_opt) p3.0 in
    let p1 = and_parts (none_or is_ratio u.a0) (none_or is_u32 u.e_max) p2.0 in
    record {
      a0 = p1.0;
      e_max = p1.1;
      n_opt = p2.1;
      cost_models = p3.1;
      collateral_percentage = p4.1;
    }

abbrev technical_entries : (u : Update) → TechnicalForm u → List (Entry 2)
technical_entries u h =
    maybe_entry {form = is_ratio} {text = fraction_json} {reading = ratio_in} (codes "a0") refl ratio_print u.a0 h.a0 ∷
    maybe_entry {form = is_u32} {text = decimal} {reading = u32_in} (codes "eMax") refl u32_print u.e_max h.e_max ∷
    maybe_entry {form = is_u16} {text = decimal} {reading = u16_in} (codes "nOpt") refl u16_print u.n_opt h.n_opt ∷
    maybe_entry {form = is_hash 32} {text = hash_json} {reading = hash32_in} (codes "costModels") refl hash32_print u.cost_models h.cost_models ∷
    maybe_entry {form = is_u16} {text = decimal} {reading = u16_in} (codes "collateralPercentage") refl u16_print u.collateral_percentage h.collateral_percentage ∷
    []

technical_texts : (u : Update) (h : TechnicalForm u) → flat_map (λ e. e.texts) (technical_entries u h) ≡ technical_fields u
technical_texts u h = simp (append_assoc, append-nil) refl

-- ---- the governance group

record GovernanceForm (u : Update) : Type 0 where
  pool_voting_thresholds : none_or (are_units 5) u.pool_voting_thresholds ≡ true
  drep_voting_thresholds : none_or (are_units 10) u.drep_voting_thresholds ≡ true
  gov_action_lifetime : none_or is_u32 u.gov_action_lifetime ≡ true
  gov_action_deposit : none_or is_u64 u.gov_action_deposit ≡ true
  drep_deposit : none_or is_u64 u.drep_deposit ≡ true
  drep_activity : none_or is_u32 u.drep_activity ≡ true
  committee_min_size : none_or is_u16 u.committee_min_size ≡ true
  committee_max_term_length : none_or is_u32 u.committee_max_term_length ≡ true

governance_form : (u : Update) → is_governance_update u ≡ true → GovernanceForm u
governance_form u p8 =
    let p7 = and_parts (none_or (are_units 5) u.pool_voting_thresholds && none_or (are_units 10) u.drep_voting_thresholds && none_or is_u32 u.gov_action_lifetime && none_or is_u64 u.gov_action_deposit && none_or is_u64 u.drep_deposit && none_or is_u32 u.drep_activity && none_or is_u16 u.committee_min_size) (none_or is_u32 u.committee_max_term_length) p8 in
    let p6 = and_parts (none_or (are_units 5) u.pool_voting_thresholds && none_or (are_units 10) u.drep_voting_thresholds && none_or is_u32 u.gov_action_lifetime && none_or is_u64 u.gov_action_deposit && none_or is_u64 u.drep_deposit && none_or is_u32 u.drep_activity) (none_or is_u16 u.committee_min_size) p7.0 in
    let p5 = and_parts (none_or (are_units 5) u.pool_voting_thresholds && none_or (are_units 10) u.drep_voting_thresholds && none_or is_u32 u.gov_action_lifetime && none_or is_u64 u.gov_action_deposit && none_or is_u64 u.drep_deposit) (none_or is_u32 u.drep_activity) p6.0 in
    let p4 = and_parts (none_or (are_units 5) u.pool_voting_thresholds && none_or (are_units 10) u.drep_voting_thresholds && none_or is_u32 u.gov_action_lifetime && none_or is_u64 u.gov_action_deposit) (none_or is_u64 u.drep_deposit) p5.0 in
    let p3 = and_parts (none_or (are_units 5) u.pool_voting_thresholds && none_or (are_units 10) u.drep_voting_thresholds && none_or is_u32 u.gov_action_lifetime) (none_or is_u64 u.gov_action_deposit) p4.0 in
    let p2 = and_parts (none_or (are_units 5) u.pool_voting_thresholds && none_or (are_units 10) u.drep_voting_thresholds) (none_or is_u32 u.gov_action_lifetime) p3.0 in
    let p1 = and_parts (none_or (are_units 5) u.pool_voting_thresholds) (none_or (are_units 10) u.drep_voting_thresholds) p2.0 in
    record {
      pool_voting_thresholds = p1.0;
      drep_voting_thresholds = p1.1;
      gov_action_lifetime = p2.1;
      gov_action_deposit = p3.1;
      drep_deposit = p4.1;
      drep_activity = p5.1;
      committee_min_size = p6.1;
      committee_max_term_length = p7.1;
    }

abbrev governance_entries : (u : Update) → GovernanceForm u → List (Entry 2)
governance_entries u h =
    maybe_entry {form = are_units 5} {text = fractions_json} {reading = five_units_in} (codes "poolVotingThresholds") refl five_print u.pool_voting_thresholds h.pool_voting_thresholds ∷
    maybe_entry {form = are_units 10} {text = fractions_json} {reading = ten_units_in} (codes "drepVotingThresholds") refl ten_print u.drep_voting_thresholds h.drep_voting_thresholds ∷
    maybe_entry {form = is_u32} {text = decimal} {reading = u32_in} (codes "govActionLifetime") refl u32_print u.gov_action_lifetime h.gov_action_lifetime ∷
    maybe_entry {form = is_u64} {text = decimal} {reading = u64_in} (codes "govActionDeposit") refl u64_print u.gov_action_deposit h.gov_action_deposit ∷
    maybe_entry {form = is_u64} {text = decimal} {reading = u64_in} (codes "drepDeposit") refl u64_print u.drep_deposit h.drep_deposit ∷
    maybe_entry {form = is_u32} {text = decimal} {reading = u32_in} (codes "drepActivity") refl u32_print u.drep_activity h.drep_activity ∷
    maybe_entry {form = is_u16} {text = decimal} {reading = u16_in} (codes "committeeMinSize") refl u16_print u.committee_min_size h.committee_min_size ∷
    maybe_entry {form = is_u32} {text = decimal} {reading = u32_in} (codes "committeeMaxTermLength") refl u32_print u.committee_max_term_length h.committee_max_term_length ∷
    []

governance_texts : (u : Update) (h : GovernanceForm u) → flat_map (λ e. e.texts) (governance_entries u h) ≡ governance_fields u
governance_texts u h = simp (append_assoc, append-nil) refl

-- ---- all groups

record UpdateForm (u : Update) : Type 0 where
  network : NetworkForm u
  economic : EconomicForm u
  technical : TechnicalForm u
  governance : GovernanceForm u

update_form : (u : Update) → is_update u ≡ true → UpdateForm u
update_form u p =
    let three = and_parts (is_network_update u && is_economic_update u && is_technical_update u) (is_governance_update u) p in
    let two = and_parts (is_network_update u && is_economic_update u) (is_technical_update u) three.0 in
    let one = and_parts (is_network_update u) (is_economic_update u) two.0 in
    record { network = network_form u one.0; economic = economic_form u one.1; technical = technical_form u two.1; governance = governance_form u three.1 }

abbrev entries : (u : Update) → UpdateForm u → List (Entry 2)
entries u h = network_entries u h.network ++ economic_entries u h.economic ++ technical_entries u h.technical ++ governance_entries u h.governance

texts : (u : Update) (h : UpdateForm u) → flat_map (λ e. e.texts) (entries u h) ≡ network_fields u ++ economic_fields u ++ technical_fields u ++ governance_fields u
texts u h =
    let n = network_entries u h.network in
    let e = economic_entries u h.economic in
    let t = technical_entries u h.technical in
    let g = governance_entries u h.governance in
    flat_map-append (λ e. e.texts) (n ++ e ++ t) g
    ∙ (λ i. flat_map-append (λ e. e.texts) (n ++ e) t i ++ governance_texts u h.governance i)
    ∙ (λ i. (flat_map-append (λ e. e.texts) n e i ++ technical_texts u h.technical i) ++ governance_fields u)
    ∙ (λ i. ((network_texts u h.network i ++ economic_texts u h.economic i) ++ technical_fields u) ++ governance_fields u)

apart : (u : Update) (h : UpdateForm u) → are_apart (names_of (entries u h)) ≡ true
apart u h = refl

are_names : (u : Update) (h : UpdateForm u) → list_all is_param_name (names_of (entries u h)) ≡ true
are_names u h = refl

abbrev found : (u : Update) → UpdateForm u → Members
found u h = puts (entries u h) no_members

at_name : (u : Update) (h : UpdateForm u) (k : List ℕ) → get_member k (found u h) ≡ at k (entries u h) None
at_name u h k = found_at k (entries u h) no_members (apart u h)

-- ---- the network group, read

read_max_block_body_size : (u : Update) (h : UpdateForm u) → maybe_in (codes "maxBlockBodySize") u32_in (object (found u h)) ≡ Ok u.max_block_body_size
read_max_block_body_size u h = maybe_read {form = is_u32} {text = decimal} {reading = u32_in} (codes "maxBlockBodySize") u32_print u.max_block_body_size h.network.max_block_body_size (found u h) (at_name u h (codes "maxBlockBodySize"))

read_max_tx_size : (u : Update) (h : UpdateForm u) → maybe_in (codes "maxTxSize") u32_in (object (found u h)) ≡ Ok u.max_tx_size
read_max_tx_size u h = maybe_read {form = is_u32} {text = decimal} {reading = u32_in} (codes "maxTxSize") u32_print u.max_tx_size h.network.max_tx_size (found u h) (at_name u h (codes "maxTxSize"))

read_max_block_header_size : (u : Update) (h : UpdateForm u) → maybe_in (codes "maxBlockHeaderSize") u32_in (object (found u h)) ≡ Ok u.max_block_header_size
read_max_block_header_size u h = maybe_read {form = is_u32} {text = decimal} {reading = u32_in} (codes "maxBlockHeaderSize") u32_print u.max_block_header_size h.network.max_block_header_size (found u h) (at_name u h (codes "maxBlockHeaderSize"))

read_max_value_size : (u : Update) (h : UpdateForm u) → maybe_in (codes "maxValueSize") u32_in (object (found u h)) ≡ Ok u.max_value_size
read_max_value_size u h = maybe_read {form = is_u32} {text = decimal} {reading = u32_in} (codes "maxValueSize") u32_print u.max_value_size h.network.max_value_size (found u h) (at_name u h (codes "maxValueSize"))

read_max_tx_ex_units : (u : Update) (h : UpdateForm u) → maybe_in (codes "maxTxExUnits") (both_in u64_in u64_in) (object (found u h)) ≡ Ok u.max_tx_ex_units
read_max_tx_ex_units u h = maybe_read {form = are_u64} {text = numbers_json} {reading = both_in u64_in u64_in} (codes "maxTxExUnits") two_print u.max_tx_ex_units h.network.max_tx_ex_units (found u h) (at_name u h (codes "maxTxExUnits"))

read_max_block_ex_units : (u : Update) (h : UpdateForm u) → maybe_in (codes "maxBlockExUnits") (both_in u64_in u64_in) (object (found u h)) ≡ Ok u.max_block_ex_units
read_max_block_ex_units u h = maybe_read {form = are_u64} {text = numbers_json} {reading = both_in u64_in u64_in} (codes "maxBlockExUnits") two_print u.max_block_ex_units h.network.max_block_ex_units (found u h) (at_name u h (codes "maxBlockExUnits"))

read_max_collateral_inputs : (u : Update) (h : UpdateForm u) → maybe_in (codes "maxCollateralInputs") u16_in (object (found u h)) ≡ Ok u.max_collateral_inputs
read_max_collateral_inputs u h = maybe_read {form = is_u16} {text = decimal} {reading = u16_in} (codes "maxCollateralInputs") u16_print u.max_collateral_inputs h.network.max_collateral_inputs (found u h) (at_name u h (codes "maxCollateralInputs"))

-- ---- the economic group, read

read_min_fee_a : (u : Update) (h : UpdateForm u) → maybe_in (codes "minFeeA") u64_in (object (found u h)) ≡ Ok u.min_fee_a
read_min_fee_a u h = maybe_read {form = is_u64} {text = decimal} {reading = u64_in} (codes "minFeeA") u64_print u.min_fee_a h.economic.min_fee_a (found u h) (at_name u h (codes "minFeeA"))

read_min_fee_b : (u : Update) (h : UpdateForm u) → maybe_in (codes "minFeeB") u64_in (object (found u h)) ≡ Ok u.min_fee_b
read_min_fee_b u h = maybe_read {form = is_u64} {text = decimal} {reading = u64_in} (codes "minFeeB") u64_print u.min_fee_b h.economic.min_fee_b (found u h) (at_name u h (codes "minFeeB"))

read_key_deposit : (u : Update) (h : UpdateForm u) → maybe_in (codes "keyDeposit") u64_in (object (found u h)) ≡ Ok u.key_deposit
read_key_deposit u h = maybe_read {form = is_u64} {text = decimal} {reading = u64_in} (codes "keyDeposit") u64_print u.key_deposit h.economic.key_deposit (found u h) (at_name u h (codes "keyDeposit"))

read_pool_deposit : (u : Update) (h : UpdateForm u) → maybe_in (codes "poolDeposit") u64_in (object (found u h)) ≡ Ok u.pool_deposit
read_pool_deposit u h = maybe_read {form = is_u64} {text = decimal} {reading = u64_in} (codes "poolDeposit") u64_print u.pool_deposit h.economic.pool_deposit (found u h) (at_name u h (codes "poolDeposit"))

read_rho : (u : Update) (h : UpdateForm u) → maybe_in (codes "rho") unit_in (object (found u h)) ≡ Ok u.rho
read_rho u h = maybe_read {form = is_unit} {text = fraction_json} {reading = unit_in} (codes "rho") unit_print u.rho h.economic.rho (found u h) (at_name u h (codes "rho"))

read_tau : (u : Update) (h : UpdateForm u) → maybe_in (codes "tau") unit_in (object (found u h)) ≡ Ok u.tau
read_tau u h = maybe_read {form = is_unit} {text = fraction_json} {reading = unit_in} (codes "tau") unit_print u.tau h.economic.tau (found u h) (at_name u h (codes "tau"))

read_min_pool_cost : (u : Update) (h : UpdateForm u) → maybe_in (codes "minPoolCost") u64_in (object (found u h)) ≡ Ok u.min_pool_cost
read_min_pool_cost u h = maybe_read {form = is_u64} {text = decimal} {reading = u64_in} (codes "minPoolCost") u64_print u.min_pool_cost h.economic.min_pool_cost (found u h) (at_name u h (codes "minPoolCost"))

read_coins_per_utxo_byte : (u : Update) (h : UpdateForm u) → maybe_in (codes "coinsPerUTxOByte") u64_in (object (found u h)) ≡ Ok u.coins_per_utxo_byte
read_coins_per_utxo_byte u h = maybe_read {form = is_u64} {text = decimal} {reading = u64_in} (codes "coinsPerUTxOByte") u64_print u.coins_per_utxo_byte h.economic.coins_per_utxo_byte (found u h) (at_name u h (codes "coinsPerUTxOByte"))

read_prices : (u : Update) (h : UpdateForm u) → maybe_in (codes "prices") (both_in ratio_in ratio_in) (object (found u h)) ≡ Ok u.prices
read_prices u h = maybe_read {form = are_prices} {text = prices_json} {reading = both_in ratio_in ratio_in} (codes "prices") prices_print u.prices h.economic.prices (found u h) (at_name u h (codes "prices"))

read_min_fee_ref_script_cost_per_byte : (u : Update) (h : UpdateForm u) → maybe_in (codes "minFeeRefScriptCostPerByte") ratio_in (object (found u h)) ≡ Ok u.min_fee_ref_script_cost_per_byte
read_min_fee_ref_script_cost_per_byte u h = maybe_read {form = is_ratio} {text = fraction_json} {reading = ratio_in} (codes "minFeeRefScriptCostPerByte") ratio_print u.min_fee_ref_script_cost_per_byte h.economic.min_fee_ref_script_cost_per_byte (found u h) (at_name u h (codes "minFeeRefScriptCostPerByte"))

-- ---- the technical group, read

read_a0 : (u : Update) (h : UpdateForm u) → maybe_in (codes "a0") ratio_in (object (found u h)) ≡ Ok u.a0
read_a0 u h = maybe_read {form = is_ratio} {text = fraction_json} {reading = ratio_in} (codes "a0") ratio_print u.a0 h.technical.a0 (found u h) (at_name u h (codes "a0"))

read_e_max : (u : Update) (h : UpdateForm u) → maybe_in (codes "eMax") u32_in (object (found u h)) ≡ Ok u.e_max
read_e_max u h = maybe_read {form = is_u32} {text = decimal} {reading = u32_in} (codes "eMax") u32_print u.e_max h.technical.e_max (found u h) (at_name u h (codes "eMax"))

read_n_opt : (u : Update) (h : UpdateForm u) → maybe_in (codes "nOpt") u16_in (object (found u h)) ≡ Ok u.n_opt
read_n_opt u h = maybe_read {form = is_u16} {text = decimal} {reading = u16_in} (codes "nOpt") u16_print u.n_opt h.technical.n_opt (found u h) (at_name u h (codes "nOpt"))

read_cost_models : (u : Update) (h : UpdateForm u) → maybe_in (codes "costModels") hash32_in (object (found u h)) ≡ Ok u.cost_models
read_cost_models u h = maybe_read {form = is_hash 32} {text = hash_json} {reading = hash32_in} (codes "costModels") hash32_print u.cost_models h.technical.cost_models (found u h) (at_name u h (codes "costModels"))

read_collateral_percentage : (u : Update) (h : UpdateForm u) → maybe_in (codes "collateralPercentage") u16_in (object (found u h)) ≡ Ok u.collateral_percentage
read_collateral_percentage u h = maybe_read {form = is_u16} {text = decimal} {reading = u16_in} (codes "collateralPercentage") u16_print u.collateral_percentage h.technical.collateral_percentage (found u h) (at_name u h (codes "collateralPercentage"))

-- ---- the governance group, read

read_pool_voting_thresholds : (u : Update) (h : UpdateForm u) → maybe_in (codes "poolVotingThresholds") five_units_in (object (found u h)) ≡ Ok u.pool_voting_thresholds
read_pool_voting_thresholds u h = maybe_read {form = are_units 5} {text = fractions_json} {reading = five_units_in} (codes "poolVotingThresholds") five_print u.pool_voting_thresholds h.governance.pool_voting_thresholds (found u h) (at_name u h (codes "poolVotingThresholds"))

read_drep_voting_thresholds : (u : Update) (h : UpdateForm u) → maybe_in (codes "drepVotingThresholds") ten_units_in (object (found u h)) ≡ Ok u.drep_voting_thresholds
read_drep_voting_thresholds u h = maybe_read {form = are_units 10} {text = fractions_json} {reading = ten_units_in} (codes "drepVotingThresholds") ten_print u.drep_voting_thresholds h.governance.drep_voting_thresholds (found u h) (at_name u h (codes "drepVotingThresholds"))

read_gov_action_lifetime : (u : Update) (h : UpdateForm u) → maybe_in (codes "govActionLifetime") u32_in (object (found u h)) ≡ Ok u.gov_action_lifetime
read_gov_action_lifetime u h = maybe_read {form = is_u32} {text = decimal} {reading = u32_in} (codes "govActionLifetime") u32_print u.gov_action_lifetime h.governance.gov_action_lifetime (found u h) (at_name u h (codes "govActionLifetime"))

read_gov_action_deposit : (u : Update) (h : UpdateForm u) → maybe_in (codes "govActionDeposit") u64_in (object (found u h)) ≡ Ok u.gov_action_deposit
read_gov_action_deposit u h = maybe_read {form = is_u64} {text = decimal} {reading = u64_in} (codes "govActionDeposit") u64_print u.gov_action_deposit h.governance.gov_action_deposit (found u h) (at_name u h (codes "govActionDeposit"))

read_drep_deposit : (u : Update) (h : UpdateForm u) → maybe_in (codes "drepDeposit") u64_in (object (found u h)) ≡ Ok u.drep_deposit
read_drep_deposit u h = maybe_read {form = is_u64} {text = decimal} {reading = u64_in} (codes "drepDeposit") u64_print u.drep_deposit h.governance.drep_deposit (found u h) (at_name u h (codes "drepDeposit"))

read_drep_activity : (u : Update) (h : UpdateForm u) → maybe_in (codes "drepActivity") u32_in (object (found u h)) ≡ Ok u.drep_activity
read_drep_activity u h = maybe_read {form = is_u32} {text = decimal} {reading = u32_in} (codes "drepActivity") u32_print u.drep_activity h.governance.drep_activity (found u h) (at_name u h (codes "drepActivity"))

read_committee_min_size : (u : Update) (h : UpdateForm u) → maybe_in (codes "committeeMinSize") u16_in (object (found u h)) ≡ Ok u.committee_min_size
read_committee_min_size u h = maybe_read {form = is_u16} {text = decimal} {reading = u16_in} (codes "committeeMinSize") u16_print u.committee_min_size h.governance.committee_min_size (found u h) (at_name u h (codes "committeeMinSize"))

read_committee_max_term_length : (u : Update) (h : UpdateForm u) → maybe_in (codes "committeeMaxTermLength") u32_in (object (found u h)) ≡ Ok u.committee_max_term_length
read_committee_max_term_length u h = maybe_read {form = is_u32} {text = decimal} {reading = u32_in} (codes "committeeMaxTermLength") u32_print u.committee_max_term_length h.governance.committee_max_term_length (found u h) (at_name u h (codes "committeeMaxTermLength"))

network_read : (u : Update) (h : UpdateForm u) (v : Update) → network_group_in (object (found u h)) v ≡ Ok (record v { max_block_body_size = u.max_block_body_size; max_tx_size = u.max_tx_size; max_block_header_size = u.max_block_header_size; max_value_size = u.max_value_size; max_tx_ex_units = u.max_tx_ex_units; max_block_ex_units = u.max_block_ex_units; max_collateral_inputs = u.max_collateral_inputs })
unfolding network_group_in
network_read u h v = rw (read_max_block_body_size u h, read_max_tx_size u h, read_max_block_header_size u h, read_max_value_size u h, read_max_tx_ex_units u h, read_max_block_ex_units u h, read_max_collateral_inputs u h) refl

fees_read : (u : Update) (h : UpdateForm u) (v : Update) → fees_in (object (found u h)) v ≡ Ok (record v { min_fee_a = u.min_fee_a; min_fee_b = u.min_fee_b; key_deposit = u.key_deposit; pool_deposit = u.pool_deposit })
unfolding fees_in
fees_read u h v = rw (read_min_fee_a u h, read_min_fee_b u h, read_key_deposit u h, read_pool_deposit u h) refl

incomes_read : (u : Update) (h : UpdateForm u) (v : Update) → incomes_in (object (found u h)) v ≡ Ok (record v { rho = u.rho; tau = u.tau; min_pool_cost = u.min_pool_cost; coins_per_utxo_byte = u.coins_per_utxo_byte; prices = u.prices; min_fee_ref_script_cost_per_byte = u.min_fee_ref_script_cost_per_byte })
unfolding incomes_in
incomes_read u h v = rw (read_rho u h, read_tau u h, read_min_pool_cost u h, read_coins_per_utxo_byte u h, read_prices u h, read_min_fee_ref_script_cost_per_byte u h) refl

technical_read : (u : Update) (h : UpdateForm u) (v : Update) → technical_group_in (object (found u h)) v ≡ Ok (record v { a0 = u.a0; e_max = u.e_max; n_opt = u.n_opt; cost_models = u.cost_models; collateral_percentage = u.collateral_percentage })
unfolding technical_group_in
technical_read u h v = rw (read_a0 u h, read_e_max u h, read_n_opt u h, read_cost_models u h, read_collateral_percentage u h) refl

governance_read : (u : Update) (h : UpdateForm u) (v : Update) → governance_group_in (object (found u h)) v ≡ Ok (record v { pool_voting_thresholds = u.pool_voting_thresholds; drep_voting_thresholds = u.drep_voting_thresholds; gov_action_lifetime = u.gov_action_lifetime; gov_action_deposit = u.gov_action_deposit; drep_deposit = u.drep_deposit; drep_activity = u.drep_activity; committee_min_size = u.committee_min_size; committee_max_term_length = u.committee_max_term_length })
unfolding governance_group_in
governance_read u h v = rw (read_pool_voting_thresholds u h, read_drep_voting_thresholds u h, read_gov_action_lifetime u h, read_gov_action_deposit u h, read_drep_deposit u h, read_drep_activity u h, read_committee_min_size u h, read_committee_max_term_length u h) refl

only_names : (u : Update) (h : UpdateForm u) → param_object (object (found u h)) ≡ Ok (object (found u h))
only_names u h = rw (only_params (entries u h) no_members (are_names u h) refl) refl

all_read : (u : Update) (h : UpdateForm u) → update_in (object (found u h)) ≡ Ok u
unfolding update_in
all_read u h = rw (only_names u h, network_read u h no_update, fees_read u h _, incomes_read u h _, technical_read u h _, governance_read u h _) refl

-- an update
pub update_print : Prints 3 is_update update_json update_in
update_print u p =
    let h = update_form u p in
    record {
      datum = object (found u h);
      spells = subst (λ (ts : List Text). Spells 3 (codes "{" ++ join_by (λ t. t) (codes ",") ts ++ codes "}") (object (found u h))) (texts u h) (object_printed (entries u h));
      there = refl;
      reads = all_read u h;
    }
