-- What an update touches, by the marks of each parameter. (CIP-1694, Protocol parameter groups;
-- groups of PParams and well-formedness of updates of the formal specification)
-- Which parameters an update may not set to 0 is own.
use Rattle.std.specs.Prelude.{ℕ, ◌==◌, Bool, true, false, not, ◌&&◌, List, [], ◌∷◌, Option, Some, None, is_some}
use Rattle.std.specs.List.{list_any, list_all}
use Rattle.pparams.specs.declared.Update.{Update}
use Rattle.pparams.specs.declared.Groups.{Groups}

-- the four groups of parameters
pub data Group : Type 0 where
  network : Group
  economic : Group
  technical : Group
  governance : Group

-- whether two groups are the same
abbrev pub same_group : Group → Group → Bool
same_group network network = true
same_group economic economic = true
same_group technical technical = true
same_group governance governance = true
same_group _ _ = false

-- one parameter in an update: its group, whether it is of the security group too,
-- whether the update names it, and whether the update gives it a forbidden value
pub record Mark : Type 0 where
  pub group : Group
  pub security : Bool
  pub named : Bool
  pub forbidden : Bool

-- a parameter without forbidden values
abbrev pub none_forbidden : {A : Type 0} → Option A → Bool
none_forbidden o = false

-- a parameter that may not be 0
abbrev pub zero_forbidden : Option ℕ → Bool
zero_forbidden None = false
zero_forbidden (Some n) = n == 0

-- a parameter of its own group and of the security group
abbrev pub secure : {A : Type 0} → (Option A → Bool) → Group → Option A → Mark
secure is_forbidden group o = record { group = group; security = true; named = is_some o; forbidden = is_forbidden o }

-- a parameter of its own group alone
abbrev pub plain : {A : Type 0} → (Option A → Bool) → Group → Option A → Mark
plain is_forbidden group o = record { group = group; security = false; named = is_some o; forbidden = is_forbidden o }

-- every parameter with its marks
abbrev pub marks_of : Update → List Mark
marks_of u =
    secure zero_forbidden network u.max_block_body_size ∷
    secure zero_forbidden network u.max_tx_size ∷
    secure zero_forbidden network u.max_block_header_size ∷
    secure zero_forbidden network u.max_value_size ∷
    plain none_forbidden network u.max_tx_ex_units ∷
    secure none_forbidden network u.max_block_ex_units ∷
    plain none_forbidden network u.max_collateral_inputs ∷
    secure none_forbidden economic u.min_fee_a ∷
    secure none_forbidden economic u.min_fee_b ∷
    plain none_forbidden economic u.key_deposit ∷
    plain zero_forbidden economic u.pool_deposit ∷
    plain none_forbidden economic u.rho ∷
    plain none_forbidden economic u.tau ∷
    plain none_forbidden economic u.min_pool_cost ∷
    secure zero_forbidden economic u.coins_per_utxo_byte ∷
    plain none_forbidden economic u.prices ∷
    secure none_forbidden economic u.min_fee_ref_script_cost_per_byte ∷
    plain none_forbidden technical u.a0 ∷
    plain none_forbidden technical u.e_max ∷
    plain none_forbidden technical u.n_opt ∷
    plain none_forbidden technical u.cost_models ∷
    plain zero_forbidden technical u.collateral_percentage ∷
    plain none_forbidden governance u.pool_voting_thresholds ∷
    plain none_forbidden governance u.drep_voting_thresholds ∷
    plain zero_forbidden governance u.gov_action_lifetime ∷
    secure zero_forbidden governance u.gov_action_deposit ∷
    plain zero_forbidden governance u.drep_deposit ∷
    plain none_forbidden governance u.drep_activity ∷
    plain none_forbidden governance u.committee_min_size ∷
    plain zero_forbidden governance u.committee_max_term_length ∷
    []

-- the update names a parameter of the group
abbrev pub touches : Group → Update → Bool
touches group u = list_any (λ m. m.named && same_group m.group group) (marks_of u)

-- the groups that an update touches
abbrev pub groups_of : Update → Groups
groups_of u = record {
  network = touches network u;
  economic = touches economic u;
  technical = touches technical u;
  governance = touches governance u;
}

-- whether it touches a security parameter
abbrev pub touches_security : Update → Bool
touches_security u = list_any (λ m. m.named && m.security) (marks_of u)

-- it names a parameter, and sets none to 0 that may not be 0
abbrev pub is_well_formed : Update → Bool
is_well_formed u = list_any (λ m. m.named) (marks_of u) && list_all (λ m. not m.forbidden) (marks_of u)
