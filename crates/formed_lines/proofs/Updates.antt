-- What an object of parameters gives has the form of the formats.
use Rattle.std.proofs.Common.{◌≡◌, ℕ, suc, Bool, true, false, ◌==◌, Option, Some, None, Err, codes, length, option_and_then, refl, ap, subst, ◌∙◌}
use Rattle.std.specs.Prelude.{if◌then◌else◌}
use Rattle.std.specs.List.{list_all}
use Rattle.std.proofs.lemmas.Bool.{and_from, eq-eqb, false≢true}
use Rattle.std.proofs.lemmas.Option.{none-some, same_Some}
use Rattle.serde_json.specs.Data.{Data, Items, no_items, item}
use Rattle.maps.specs.Words.{none_or}
use Rattle.pparams.specs.declared.Params.{Params}
use Rattle.pparams.specs.declared.Update.{Update}
use Rattle.tx_records.specs.Limits.{is_u32, is_u64}
use Rattle.json_fields.specs.declared.fault.FieldFault.TheVariants.{Missing, OutOfRange}
use Rattle.json_fields.specs.Entries.{both_in}
use Rattle.json_fields.specs.Kinds.{items_in, ratio_in, u64_in}
use Rattle.action_read.specs.Params.{fees_in, five_units_in, governance_group_in, incomes_in, is_five, is_ten, network_group_in, no_update, param_object, params_in, technical_group_in, ten_units_in, units_in, update_in}
use Rattle.action_read.specs.Whole.{fee_params_of, governance_params_of, income_params_of, network_params_of, params_of_update, technical_params_of}
use Rattle.text_forms.specs.Actions.{are_prices, is_economic_update, is_governance_update, is_network_update, is_technical_update, is_update}
use Rattle.text_forms.specs.Ids.{are_u64, are_units, is_hash, is_ratio, is_u16, is_unit}
use Rattle.text_forms.specs.States.{are_economic_params, are_governance_params, are_network_params, are_params, are_technical_params}
use Rattle.record_read.proofs.Gives.{Gives, Within, both_in-within, given, if_some, maybe_in-within, next, skip}
use Rattle.record_read.proofs.KindsGive.{u32_in-within, u64_in-within}
use Rattle.formed_lines.proofs.Ids.{hash_in-formed, ratio_in-formed, u16_in-formed, unit_in-formed, weaken}

-- ---- thresholds

-- how many entries there are
abbrev count : Items → ℕ
count no_items = 0
count (item d ds) = suc (count ds)

as_many : (ds : Items) → Gives (λ us. (length us ≡ count ds) × (list_all is_unit us ≡ true)) (units_in ds)
as_many no_items = given (refl, refl)
as_many (item d ds) = next (unit_in-formed d) (λ u e. next (as_many ds) (λ us f. given (ap (λ (n : ℕ). suc n) f.0, and_from (is_unit u) (list_all is_unit us) e f.1)))

is_five_count : (ds : Items) → is_five ds ≡ true → count ds ≡ 5
is_five_count no_items h = absurd (false≢true h)
is_five_count (item a no_items) h = absurd (false≢true h)
is_five_count (item a (item b no_items)) h = absurd (false≢true h)
is_five_count (item a (item b (item c no_items))) h = absurd (false≢true h)
is_five_count (item a (item b (item c (item d no_items)))) h = absurd (false≢true h)
is_five_count (item a (item b (item c (item d (item e no_items))))) h = refl
is_five_count (item a (item b (item c (item d (item e (item f ds)))))) h = absurd (false≢true h)

is_ten_count : (ds : Items) → is_ten ds ≡ true → count ds ≡ 10
is_ten_count no_items h = absurd (false≢true h)
is_ten_count (item a no_items) h = absurd (false≢true h)
is_ten_count (item a (item b no_items)) h = absurd (false≢true h)
is_ten_count (item a (item b (item c no_items))) h = absurd (false≢true h)
is_ten_count (item a (item b (item c (item d no_items)))) h = absurd (false≢true h)
is_ten_count (item a (item b (item c (item d (item e no_items))))) h = absurd (false≢true h)
is_ten_count (item a (item b (item c (item d (item e (item f no_items)))))) h = absurd (false≢true h)
is_ten_count (item a (item b (item c (item d (item e (item f (item g no_items))))))) h = absurd (false≢true h)
is_ten_count (item a (item b (item c (item d (item e (item f (item g (item p no_items)))))))) h = absurd (false≢true h)
is_ten_count (item a (item b (item c (item d (item e (item f (item g (item p (item i no_items))))))))) h = absurd (false≢true h)
is_ten_count (item a (item b (item c (item d (item e (item f (item g (item p (item i (item j no_items)))))))))) h = refl
is_ten_count (item a (item b (item c (item d (item e (item f (item g (item p (item i (item j (item k ds))))))))))) h = absurd (false≢true h)

five_by : (b : Bool) (ds : Items) → is_five ds ≡ b → Gives (λ us. are_units 5 us ≡ true) (if b then units_in ds else Err OutOfRange)
five_by false ds e = record { holds = tt }
five_by true ds e = weaken (as_many ds) (λ us f. (and_from (length us == 5) (list_all is_unit us) (eq-eqb (length us) 5 (f.0 ∙ is_five_count ds e)) f.1))

five_units_in-formed : Within (λ us. are_units 5 us ≡ true) five_units_in
five_units_in-formed d = skip (items_in d) (λ ds. five_by (is_five ds) ds refl)

ten_by : (b : Bool) (ds : Items) → is_ten ds ≡ b → Gives (λ us. are_units 10 us ≡ true) (if b then units_in ds else Err OutOfRange)
ten_by false ds e = record { holds = tt }
ten_by true ds e = weaken (as_many ds) (λ us f. (and_from (length us == 10) (list_all is_unit us) (eq-eqb (length us) 10 (f.0 ∙ is_ten_count ds e)) f.1))

ten_units_in-formed : Within (λ us. are_units 10 us ≡ true) ten_units_in
ten_units_in-formed d = skip (items_in d) (λ ds. ten_by (is_ten ds) ds refl)

-- ---- pairs

numbers_in-formed : Within (λ p. are_u64 p ≡ true) (both_in u64_in u64_in)
numbers_in-formed = both_in-within {R = λ p. are_u64 p ≡ true} u64_in-within u64_in-within (λ a b u v. and_from (is_u64 a) (is_u64 b) u v)

prices_in-formed : Within (λ p. are_prices p ≡ true) (both_in ratio_in ratio_in)
prices_in-formed = both_in-within {R = λ p. are_prices p ≡ true} ratio_in-formed ratio_in-formed (λ a b u v. and_from (is_ratio a) (is_ratio b) u v)

-- ---- an update, group by group

-- the network group
record HasNetwork (u : Update) : Type 0 where
  max_block_body_size : none_or is_u32 u.max_block_body_size ≡ true
  max_tx_size : none_or is_u32 u.max_tx_size ≡ true
  max_block_header_size : none_or is_u32 u.max_block_header_size ≡ true
  max_value_size : none_or is_u32 u.max_value_size ≡ true
  max_tx_ex_units : none_or are_u64 u.max_tx_ex_units ≡ true
  max_block_ex_units : none_or are_u64 u.max_block_ex_units ≡ true
  max_collateral_inputs : none_or is_u16 u.max_collateral_inputs ≡ true

-- fees and deposits of the economic group
record HasFees (u : Update) : Type 0 where
  min_fee_a : none_or is_u64 u.min_fee_a ≡ true
  min_fee_b : none_or is_u64 u.min_fee_b ≡ true
  key_deposit : none_or is_u64 u.key_deposit ≡ true
  pool_deposit : none_or is_u64 u.pool_deposit ≡ true

-- the others of the economic group
record HasIncomes (u : Update) : Type 0 where
  rho : none_or is_unit u.rho ≡ true
  tau : none_or is_unit u.tau ≡ true
  min_pool_cost : none_or is_u64 u.min_pool_cost ≡ true
  coins_per_utxo_byte : none_or is_u64 u.coins_per_utxo_byte ≡ true
  prices : none_or are_prices u.prices ≡ true
  min_fee_ref_script_cost_per_byte : none_or is_ratio u.min_fee_ref_script_cost_per_byte ≡ true

-- the technical group
record HasTechnical (u : Update) : Type 0 where
  a0 : none_or is_ratio u.a0 ≡ true
  e_max : none_or is_u32 u.e_max ≡ true
  n_opt : none_or is_u16 u.n_opt ≡ true
  cost_models : none_or (is_hash 32) u.cost_models ≡ true
  collateral_percentage : none_or is_u16 u.collateral_percentage ≡ true

-- the governance group
record HasGovernance (u : Update) : Type 0 where
  pool_voting_thresholds : none_or (are_units 5) u.pool_voting_thresholds ≡ true
  drep_voting_thresholds : none_or (are_units 10) u.drep_voting_thresholds ≡ true
  gov_action_lifetime : none_or is_u32 u.gov_action_lifetime ≡ true
  gov_action_deposit : none_or is_u64 u.gov_action_deposit ≡ true
  drep_deposit : none_or is_u64 u.drep_deposit ≡ true
  drep_activity : none_or is_u32 u.drep_activity ≡ true
  committee_min_size : none_or is_u16 u.committee_min_size ≡ true
  committee_max_term_length : none_or is_u32 u.committee_max_term_length ≡ true

network_group_in-formed : (d : Data) (u : Update) → Gives (λ v. HasNetwork v) (network_group_in d u)
unfolding network_group_in
network_group_in-formed d u =
    next (maybe_in-within u32_in-within (codes "maxBlockBodySize") d) (λ max_block_body_size a.
    next (maybe_in-within u32_in-within (codes "maxTxSize") d) (λ max_tx_size b.
    next (maybe_in-within u32_in-within (codes "maxBlockHeaderSize") d) (λ max_block_header_size c.
    next (maybe_in-within u32_in-within (codes "maxValueSize") d) (λ max_value_size e.
    next (maybe_in-within numbers_in-formed (codes "maxTxExUnits") d) (λ max_tx_ex_units f.
    next (maybe_in-within numbers_in-formed (codes "maxBlockExUnits") d) (λ max_block_ex_units g.
    next (maybe_in-within u16_in-formed (codes "maxCollateralInputs") d) (λ max_collateral_inputs h.
    given (record { max_block_body_size = a; max_tx_size = b; max_block_header_size = c; max_value_size = e; max_tx_ex_units = f; max_block_ex_units = g; max_collateral_inputs = h }))))))))

fees_in-formed : (d : Data) (u : Update) → HasNetwork u → Gives (λ v. HasNetwork v × HasFees v) (fees_in d u)
unfolding fees_in
fees_in-formed d u k0 =
    next (maybe_in-within u64_in-within (codes "minFeeA") d) (λ min_fee_a a.
    next (maybe_in-within u64_in-within (codes "minFeeB") d) (λ min_fee_b b.
    next (maybe_in-within u64_in-within (codes "keyDeposit") d) (λ key_deposit c.
    next (maybe_in-within u64_in-within (codes "poolDeposit") d) (λ pool_deposit e.
    given (record { max_block_body_size = k0.max_block_body_size; max_tx_size = k0.max_tx_size; max_block_header_size = k0.max_block_header_size; max_value_size = k0.max_value_size; max_tx_ex_units = k0.max_tx_ex_units; max_block_ex_units = k0.max_block_ex_units; max_collateral_inputs = k0.max_collateral_inputs }, record { min_fee_a = a; min_fee_b = b; key_deposit = c; pool_deposit = e })))))

incomes_in-formed : (d : Data) (u : Update) → HasNetwork u → HasFees u → Gives (λ v. HasNetwork v × HasFees v × HasIncomes v) (incomes_in d u)
unfolding incomes_in
incomes_in-formed d u k0 k1 =
    next (maybe_in-within unit_in-formed (codes "rho") d) (λ rho a.
    next (maybe_in-within unit_in-formed (codes "tau") d) (λ tau b.
    next (maybe_in-within u64_in-within (codes "minPoolCost") d) (λ min_pool_cost c.
    next (maybe_in-within u64_in-within (codes "coinsPerUTxOByte") d) (λ coins_per_utxo_byte e.
    next (maybe_in-within prices_in-formed (codes "prices") d) (λ prices f.
    next (maybe_in-within ratio_in-formed (codes "minFeeRefScriptCostPerByte") d) (λ min_fee_ref_script_cost_per_byte g.
    given (record { max_block_body_size = k0.max_block_body_size; max_tx_size = k0.max_tx_size; max_block_header_size = k0.max_block_header_size; max_value_size = k0.max_value_size; max_tx_ex_units = k0.max_tx_ex_units; max_block_ex_units = k0.max_block_ex_units; max_collateral_inputs = k0.max_collateral_inputs }, record { min_fee_a = k1.min_fee_a; min_fee_b = k1.min_fee_b; key_deposit = k1.key_deposit; pool_deposit = k1.pool_deposit }, record { rho = a; tau = b; min_pool_cost = c; coins_per_utxo_byte = e; prices = f; min_fee_ref_script_cost_per_byte = g })))))))

technical_group_in-formed : (d : Data) (u : Update) → HasNetwork u → HasFees u → HasIncomes u → Gives (λ v. HasNetwork v × HasFees v × HasIncomes v × HasTechnical v) (technical_group_in d u)
unfolding technical_group_in
technical_group_in-formed d u k0 k1 k2 =
    next (maybe_in-within ratio_in-formed (codes "a0") d) (λ a0 a.
    next (maybe_in-within u32_in-within (codes "eMax") d) (λ e_max b.
    next (maybe_in-within u16_in-formed (codes "nOpt") d) (λ n_opt c.
    next (maybe_in-within (hash_in-formed 32) (codes "costModels") d) (λ cost_models e.
    next (maybe_in-within u16_in-formed (codes "collateralPercentage") d) (λ collateral_percentage f.
    given (record { max_block_body_size = k0.max_block_body_size; max_tx_size = k0.max_tx_size; max_block_header_size = k0.max_block_header_size; max_value_size = k0.max_value_size; max_tx_ex_units = k0.max_tx_ex_units; max_block_ex_units = k0.max_block_ex_units; max_collateral_inputs = k0.max_collateral_inputs }, record { min_fee_a = k1.min_fee_a; min_fee_b = k1.min_fee_b; key_deposit = k1.key_deposit; pool_deposit = k1.pool_deposit }, record { rho = k2.rho; tau = k2.tau; min_pool_cost = k2.min_pool_cost; coins_per_utxo_byte = k2.coins_per_utxo_byte; prices = k2.prices; min_fee_ref_script_cost_per_byte = k2.min_fee_ref_script_cost_per_byte }, record { a0 = a; e_max = b; n_opt = c; cost_models = e; collateral_percentage = f }))))))

governance_group_in-formed : (d : Data) (u : Update) → HasNetwork u → HasFees u → HasIncomes u → HasTechnical u → Gives (λ v. HasNetwork v × HasFees v × HasIncomes v × HasTechnical v × HasGovernance v) (governance_group_in d u)
unfolding governance_group_in
governance_group_in-formed d u k0 k1 k2 k3 =
    next (maybe_in-within five_units_in-formed (codes "poolVotingThresholds") d) (λ pool_voting_thresholds a.
    next (maybe_in-within ten_units_in-formed (codes "drepVotingThresholds") d) (λ drep_voting_thresholds b.
    next (maybe_in-within u32_in-within (codes "govActionLifetime") d) (λ gov_action_lifetime c.
    next (maybe_in-within u64_in-within (codes "govActionDeposit") d) (λ gov_action_deposit e.
    next (maybe_in-within u64_in-within (codes "drepDeposit") d) (λ drep_deposit f.
    next (maybe_in-within u32_in-within (codes "drepActivity") d) (λ drep_activity g.
    next (maybe_in-within u16_in-formed (codes "committeeMinSize") d) (λ committee_min_size h.
    next (maybe_in-within u32_in-within (codes "committeeMaxTermLength") d) (λ committee_max_term_length i.
    given (record { max_block_body_size = k0.max_block_body_size; max_tx_size = k0.max_tx_size; max_block_header_size = k0.max_block_header_size; max_value_size = k0.max_value_size; max_tx_ex_units = k0.max_tx_ex_units; max_block_ex_units = k0.max_block_ex_units; max_collateral_inputs = k0.max_collateral_inputs }, record { min_fee_a = k1.min_fee_a; min_fee_b = k1.min_fee_b; key_deposit = k1.key_deposit; pool_deposit = k1.pool_deposit }, record { rho = k2.rho; tau = k2.tau; min_pool_cost = k2.min_pool_cost; coins_per_utxo_byte = k2.coins_per_utxo_byte; prices = k2.prices; min_fee_ref_script_cost_per_byte = k2.min_fee_ref_script_cost_per_byte }, record { a0 = k3.a0; e_max = k3.e_max; n_opt = k3.n_opt; cost_models = k3.cost_models; collateral_percentage = k3.collateral_percentage }, record { pool_voting_thresholds = a; drep_voting_thresholds = b; gov_action_lifetime = c; gov_action_deposit = e; drep_deposit = f; drep_activity = g; committee_min_size = h; committee_max_term_length = i })))))))))

-- all groups
abbrev HasGroups : Update → Type 0
HasGroups u = HasNetwork u × HasFees u × HasIncomes u × HasTechnical u × HasGovernance u

groups_in : Within HasGroups update_in
unfolding update_in
groups_in d =
    skip (param_object d) (λ object.
    next (network_group_in-formed object no_update) (λ network a.
    next (fees_in-formed object network a) (λ fees b.
    next (incomes_in-formed object fees b.0 b.1) (λ economic c.
    next (technical_group_in-formed object economic c.0 c.1 c.2) (λ technical e. governance_group_in-formed object technical e.0 e.1 e.2 e.3)))))

update_formed : (u : Update) → HasGroups u → is_update u ≡ true
update_formed u g =
    let n = g.0 in
    let f = g.1 in
    let i = g.2 in
    let t = g.3 in
    let o = g.4 in
    let network : is_network_update u ≡ true = and_from _ _ (and_from _ _ (and_from _ _ (and_from _ _ (and_from _ _ (and_from _ _ n.max_block_body_size n.max_tx_size) (n.max_block_header_size)) (n.max_value_size)) (n.max_tx_ex_units)) (n.max_block_ex_units)) (n.max_collateral_inputs) in
    let economic : is_economic_update u ≡ true = and_from _ _ (and_from _ _ (and_from _ _ (and_from _ _ (and_from _ _ (and_from _ _ (and_from _ _ (and_from _ _ (and_from _ _ f.min_fee_a f.min_fee_b) (f.key_deposit)) (f.pool_deposit)) (i.rho)) (i.tau)) (i.min_pool_cost)) (i.coins_per_utxo_byte)) (i.prices)) (i.min_fee_ref_script_cost_per_byte) in
    let technical : is_technical_update u ≡ true = and_from _ _ (and_from _ _ (and_from _ _ (and_from _ _ t.a0 t.e_max) (t.n_opt)) (t.cost_models)) (t.collateral_percentage) in
    let governance : is_governance_update u ≡ true = and_from _ _ (and_from _ _ (and_from _ _ (and_from _ _ (and_from _ _ (and_from _ _ (and_from _ _ o.pool_voting_thresholds o.drep_voting_thresholds) (o.gov_action_lifetime)) (o.gov_action_deposit)) (o.drep_deposit)) (o.drep_activity)) (o.committee_min_size)) (o.committee_max_term_length) in
    and_from _ _ (and_from _ _ (and_from _ _ network economic) technical) governance

pub update_in-formed : Within (λ u. is_update u ≡ true) update_in
update_in-formed d = weaken (groups_in d) update_formed

-- ---- all parameters

-- what is there has the property
record OfSome {A : Type 0} (P : A → Type 0) (o : Option A) : Type 0 where
  holds : (x : A) → o ≡ Some x → P x

there : {A : Type 0} {P : A → Type 0} {x : A} → P x → OfSome P (Some x)
there {P = P} h = record { holds = λ y e. subst P (same_Some _ y e) h }

passing : {A B : Type 0} {P : B → Type 0} {p : A → Bool} (o : Option A) {f : A → Option B} → none_or p o ≡ true → ((x : A) → p x ≡ true → OfSome P (f x)) → OfSome P (option_and_then f o)
passing None h k = record { holds = λ y e. absurd (none-some y e) }
passing (Some x) h k = k x h

through : {A B : Type 0} {P : B → Type 0} {Q : A → Type 0} {o : Option A} {f : A → Option B} → OfSome Q o → ((x : A) → Q x → OfSome P (f x)) → OfSome P (option_and_then f o)
through {o = None} g k = record { holds = λ y e. absurd (none-some y e) }
through {o = Some x} g k = k x (g.holds x refl)

network_params_of-formed : (u : Update) → HasNetwork u → OfSome (λ x. (is_u32 x.max_block_body_size ≡ true) × (is_u32 x.max_tx_size ≡ true) × (is_u32 x.max_block_header_size ≡ true) × (is_u32 x.max_value_size ≡ true) × (are_u64 x.max_tx_ex_units ≡ true) × (are_u64 x.max_block_ex_units ≡ true) × (is_u16 x.max_collateral_inputs ≡ true)) (network_params_of u)
unfolding network_params_of
network_params_of-formed u k =
    passing {p = is_u32} u.max_block_body_size k.max_block_body_size (λ max_block_body_size a.
    passing {p = is_u32} u.max_tx_size k.max_tx_size (λ max_tx_size b.
    passing {p = is_u32} u.max_block_header_size k.max_block_header_size (λ max_block_header_size c.
    passing {p = is_u32} u.max_value_size k.max_value_size (λ max_value_size e.
    passing {p = are_u64} u.max_tx_ex_units k.max_tx_ex_units (λ max_tx_ex_units f.
    passing {p = are_u64} u.max_block_ex_units k.max_block_ex_units (λ max_block_ex_units g.
    passing {p = is_u16} u.max_collateral_inputs k.max_collateral_inputs (λ max_collateral_inputs h.
    there (a, b, c, e, f, g, h))))))))

fee_params_of-formed : (u : Update) → HasFees u → OfSome (λ x. (is_u64 x.min_fee_a ≡ true) × (is_u64 x.min_fee_b ≡ true) × (is_u64 x.key_deposit ≡ true) × (is_u64 x.pool_deposit ≡ true)) (fee_params_of u)
unfolding fee_params_of
fee_params_of-formed u k =
    passing {p = is_u64} u.min_fee_a k.min_fee_a (λ min_fee_a a.
    passing {p = is_u64} u.min_fee_b k.min_fee_b (λ min_fee_b b.
    passing {p = is_u64} u.key_deposit k.key_deposit (λ key_deposit c.
    passing {p = is_u64} u.pool_deposit k.pool_deposit (λ pool_deposit e.
    there (a, b, c, e)))))

income_params_of-formed : (u : Update) → HasIncomes u → OfSome (λ x. (is_unit x.rho ≡ true) × (is_unit x.tau ≡ true) × (is_u64 x.min_pool_cost ≡ true) × (is_u64 x.coins_per_utxo_byte ≡ true) × (are_prices x.prices ≡ true) × (is_ratio x.min_fee_ref_script_cost_per_byte ≡ true)) (income_params_of u)
unfolding income_params_of
income_params_of-formed u k =
    passing {p = is_unit} u.rho k.rho (λ rho a.
    passing {p = is_unit} u.tau k.tau (λ tau b.
    passing {p = is_u64} u.min_pool_cost k.min_pool_cost (λ min_pool_cost c.
    passing {p = is_u64} u.coins_per_utxo_byte k.coins_per_utxo_byte (λ coins_per_utxo_byte e.
    passing {p = are_prices} u.prices k.prices (λ prices f.
    passing {p = is_ratio} u.min_fee_ref_script_cost_per_byte k.min_fee_ref_script_cost_per_byte (λ min_fee_ref_script_cost_per_byte g.
    there (a, b, c, e, f, g)))))))

technical_params_of-formed : (u : Update) → HasTechnical u → OfSome (λ x. (is_ratio x.a0 ≡ true) × (is_u32 x.e_max ≡ true) × (is_u16 x.n_opt ≡ true) × (is_hash 32 x.cost_models ≡ true) × (is_u16 x.collateral_percentage ≡ true)) (technical_params_of u)
unfolding technical_params_of
technical_params_of-formed u k =
    passing {p = is_ratio} u.a0 k.a0 (λ a0 a.
    passing {p = is_u32} u.e_max k.e_max (λ e_max b.
    passing {p = is_u16} u.n_opt k.n_opt (λ n_opt c.
    passing {p = is_hash 32} u.cost_models k.cost_models (λ cost_models e.
    passing {p = is_u16} u.collateral_percentage k.collateral_percentage (λ collateral_percentage f.
    there (a, b, c, e, f))))))

governance_params_of-formed : (u : Update) → HasGovernance u → OfSome (λ x. (is_u32 x.gov_action_lifetime ≡ true) × (is_u64 x.gov_action_deposit ≡ true) × (is_u64 x.drep_deposit ≡ true) × (is_u32 x.drep_activity ≡ true) × (is_u16 x.committee_min_size ≡ true) × (is_u32 x.committee_max_term_length ≡ true)) (governance_params_of u)
unfolding governance_params_of
governance_params_of-formed u k =
    passing {p = is_u32} u.gov_action_lifetime k.gov_action_lifetime (λ gov_action_lifetime a.
    passing {p = is_u64} u.gov_action_deposit k.gov_action_deposit (λ gov_action_deposit b.
    passing {p = is_u64} u.drep_deposit k.drep_deposit (λ drep_deposit c.
    passing {p = is_u32} u.drep_activity k.drep_activity (λ drep_activity e.
    passing {p = is_u16} u.committee_min_size k.committee_min_size (λ committee_min_size f.
    passing {p = is_u32} u.committee_max_term_length k.committee_max_term_length (λ committee_max_term_length g.
    there (a, b, c, e, f, g)))))))

abbrev AreParams : Params → Type 0
AreParams p = (are_network_params p ≡ true) × (are_economic_params p ≡ true) × (are_technical_params p ≡ true) × (are_governance_params p ≡ true)

params_of_update-formed : (u : Update) → HasGroups u → OfSome AreParams (params_of_update u)
unfolding params_of_update
params_of_update-formed u g =
    through (network_params_of-formed u g.0) (λ network n.
    through (fee_params_of-formed u g.1) (λ fee f.
    through (income_params_of-formed u g.2) (λ income i.
    through (technical_params_of-formed u g.3) (λ technical t.
    through (governance_params_of-formed u g.4) (λ governance o.
    passing {p = are_units 5} u.pool_voting_thresholds g.4.pool_voting_thresholds (λ pools p.
    passing {p = are_units 10} u.drep_voting_thresholds g.4.drep_voting_thresholds (λ dreps d.
    there (
      and_from _ _ (and_from _ _ (and_from _ _ (and_from _ _ (and_from _ _ (and_from _ _ n.0 n.1) (n.2)) (n.3)) (n.4)) (n.5)) (n.6),
      and_from _ _ (and_from _ _ (and_from _ _ (and_from _ _ (and_from _ _ (and_from _ _ (and_from _ _ (and_from _ _ (and_from _ _ f.0 f.1) (f.2)) (f.3)) (i.0)) (i.1)) (i.2)) (i.3)) (i.4)) (i.5),
      and_from _ _ (and_from _ _ (and_from _ _ (and_from _ _ t.0 t.1) (t.2)) (t.3)) (t.4),
      and_from _ _ (and_from _ _ (and_from _ _ (and_from _ _ (and_from _ _ (and_from _ _ (and_from _ _ p d) (o.0)) (o.1)) (o.2)) (o.3)) (o.4)) (o.5),
    ))))))))

pub params_in-formed : Within (λ p. are_params p ≡ true) params_in
params_in-formed d =
    next (groups_in d) (λ u g. if_some Missing (params_of_update u) (λ p e.
    let k = (params_of_update-formed u g).holds p e in
    and_from _ _ (and_from _ _ (and_from _ _ k.0 k.1) k.2) k.3))
