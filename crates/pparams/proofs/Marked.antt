-- What the marks of an update say, parameter by parameter.
use Rattle.std.proofs.Common.{◌≡◌, ℕ, Option, Some, None, ◌||◌, ◌&&◌, not, is_some, nat_eq, refl}
use Rattle.std.proofs.Math.Bool.{and-true, and-false, or-false, or_assoc, and_assoc}
use Rattle.std.specs.List.{list_any, list_all}
use Rattle.std.specs.Option.{option_eq}
use Rattle.pparams.specs.declared.Update.{Update}
use Rattle.pparams.specs.Marks.{touches, network, economic, technical, governance, marks_of, touches_security, zero_forbidden}

-- an update touches a group where it names one of its parameters
pub touches_network : (u : Update) → touches network u ≡ (is_some u.max_block_body_size || is_some u.max_tx_size || is_some u.max_block_header_size || is_some u.max_value_size || is_some u.max_tx_ex_units || is_some u.max_block_ex_units || is_some u.max_collateral_inputs)
touches_network u = simp (and-true, and-false, or-false, or_assoc) refl

pub touches_economic : (u : Update) → touches economic u ≡ (is_some u.min_fee_a || is_some u.min_fee_b || is_some u.key_deposit || is_some u.pool_deposit || is_some u.rho || is_some u.tau || is_some u.min_pool_cost || is_some u.coins_per_utxo_byte || is_some u.prices || is_some u.min_fee_ref_script_cost_per_byte)
touches_economic u = simp (and-true, and-false, or-false, or_assoc) refl

pub touches_technical : (u : Update) → touches technical u ≡ (is_some u.a0 || is_some u.e_max || is_some u.n_opt || is_some u.cost_models || is_some u.collateral_percentage)
touches_technical u = simp (and-true, and-false, or-false, or_assoc) refl

pub touches_governance : (u : Update) → touches governance u ≡ (is_some u.pool_voting_thresholds || is_some u.drep_voting_thresholds || is_some u.gov_action_lifetime || is_some u.gov_action_deposit || is_some u.drep_deposit || is_some u.drep_activity || is_some u.committee_min_size || is_some u.committee_max_term_length)
touches_governance u = simp (and-true, and-false, or-false, or_assoc) refl

-- the parameters of the security group
pub security_touched : (u : Update) → touches_security u ≡ (is_some u.max_block_body_size || is_some u.max_tx_size || is_some u.max_block_header_size || is_some u.max_value_size || is_some u.max_block_ex_units || is_some u.min_fee_a || is_some u.min_fee_b || is_some u.coins_per_utxo_byte || is_some u.min_fee_ref_script_cost_per_byte || is_some u.gov_action_deposit)
security_touched u = simp (and-true, and-false, or-false, or_assoc) refl

-- a parameter is named where one of some group is
pub names_by_groups : (u : Update) → list_any (λ m. m.named) (marks_of u) ≡ (touches network u || touches economic u || touches technical u || touches governance u)
names_by_groups u = simp (and-true, and-false, or-false, or_assoc) refl

-- the parameters that may not be 0
pub zero_free : (u : Update) → list_all (λ m. not m.forbidden) (marks_of u) ≡ (not (zero_forbidden u.max_block_body_size) && not (zero_forbidden u.max_tx_size) && not (zero_forbidden u.max_block_header_size) && not (zero_forbidden u.max_value_size) && not (zero_forbidden u.pool_deposit) && not (zero_forbidden u.coins_per_utxo_byte) && not (zero_forbidden u.collateral_percentage) && not (zero_forbidden u.gov_action_lifetime) && not (zero_forbidden u.gov_action_deposit) && not (zero_forbidden u.drep_deposit) && not (zero_forbidden u.committee_max_term_length))
zero_free u = simp (and-true, and_assoc) refl

-- the test of one of them in the code
pub is_zero : (o : Option ℕ) → option_eq nat_eq o (Some 0) ≡ zero_forbidden o
is_zero None = refl
is_zero (Some n) = refl
