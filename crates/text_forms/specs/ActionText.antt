-- An action as compact JSON, with fields and parameters in the order of the formats.
-- Absent ones are left out. (Own)
use Rattle.std.specs.Prelude.{ℕ, List, [], ◌∷◌, ◌++◌, Option, codes, decimal, option_map, option_to_list}
use Rattle.std.specs.List.{join_by}
use Rattle.coin_frac.specs.Fraction.{Fraction}
use Rattle.gov_ids.specs.declared.Account.{Account}
use Rattle.gov_ids.specs.declared.ActionId.{ActionId}
use Rattle.gov_ids.specs.declared.Credential.{Credential}
use Rattle.gov_ids.specs.Spelling.{account_text, action_id_text, credential_text, hash_text}
use Rattle.text_model.specs.of_gov_actions.declared.action.Action.{Action}
use Rattle.text_model.specs.of_gov_actions.declared.action.Action.TheVariants.{NoConfidence, UpdateCommittee, NewConstitution, HardForkInitiation, ParameterChange, TreasuryWithdrawals, Info}
use Rattle.text_model.specs.of_gov_actions.Kinds.{kind_of}
use Rattle.text_model.specs.of_pparams.declared.Update.{Update}
use Rattle.text_model.specs.ActionWords.{kind_text}
use Rattle.text_model.specs.Words.{Text}

-- ---- JSON

-- items with a comma between each two
abbrev pub listed : List Text → Text
listed items = join_by (λ item. item) (codes ",") items

-- a text that needs no escapes
abbrev pub quoted : Text → Text
quoted t = codes "\"" ++ t ++ codes "\""

-- a list
abbrev pub array : List Text → Text
array items = codes "[" ++ listed items ++ codes "]"

-- a field
abbrev pub field : Text → Text → Text
field name value = quoted name ++ codes ":" ++ value

-- a field, if its value is there
abbrev pub maybe : {A : Type 0} → Text → (A → Text) → Option A → List Text
maybe name f o = option_to_list (option_map (λ x. field name (f x)) o)

-- an object
abbrev pub object : List Text → Text
object fields = codes "{" ++ listed fields ++ codes "}"

-- ---- values

-- a hash
abbrev pub hash_json : List ℕ → Text
hash_json h = quoted (hash_text h)

-- a credential
abbrev pub credential_json : Credential → Text
credential_json c = quoted (credential_text c)

-- the id of an action
abbrev pub action_id_json : ActionId → Text
action_id_json a = quoted (action_id_text a)

-- a fraction as it was written
abbrev pub fraction_json : Fraction → Text
fraction_json s = array (decimal s.num ∷ decimal s.den ∷ [])

-- fractions
abbrev pub fractions_json : List Fraction → Text
fractions_json ss = codes "[" ++ join_by fraction_json (codes ",") ss ++ codes "]"

-- two numbers
abbrev pub numbers_json : ℕ × ℕ → Text
numbers_json p = array (decimal p.0 ∷ decimal p.1 ∷ [])

-- two fractions
abbrev pub prices_json : Fraction × Fraction → Text
prices_json p = array (fraction_json p.0 ∷ fraction_json p.1 ∷ [])

-- credentials
abbrev pub credentials_json : List Credential → Text
credentials_json cs = codes "[" ++ join_by credential_json (codes ",") cs ++ codes "]"

-- a new member with its term
abbrev pub member_json : Credential × ℕ → Text
member_json m = array (credential_json m.0 ∷ decimal m.1 ∷ [])

-- new members
abbrev pub members_json : List (Credential × ℕ) → Text
members_json ms = codes "[" ++ join_by member_json (codes ",") ms ++ codes "]"

-- a target with its amount
abbrev pub target_json : Account × ℕ → Text
target_json t = array (quoted (account_text t.0) ∷ decimal t.1 ∷ [])

-- targets
abbrev pub targets_json : List (Account × ℕ) → Text
targets_json ts = codes "[" ++ join_by target_json (codes ",") ts ++ codes "]"

-- ---- an update

-- the parameters of the network group that an update names
abbrev pub network_fields : Update → List Text
network_fields u =
    maybe (codes "maxBlockBodySize") decimal u.max_block_body_size
    ++ maybe (codes "maxTxSize") decimal u.max_tx_size
    ++ maybe (codes "maxBlockHeaderSize") decimal u.max_block_header_size
    ++ maybe (codes "maxValueSize") decimal u.max_value_size
    ++ maybe (codes "maxTxExUnits") numbers_json u.max_tx_ex_units
    ++ maybe (codes "maxBlockExUnits") numbers_json u.max_block_ex_units
    ++ maybe (codes "maxCollateralInputs") decimal u.max_collateral_inputs

-- the parameters of the economic group that an update names
abbrev pub economic_fields : Update → List Text
economic_fields u =
    maybe (codes "minFeeA") decimal u.min_fee_a
    ++ maybe (codes "minFeeB") decimal u.min_fee_b
    ++ maybe (codes "keyDeposit") decimal u.key_deposit
    ++ maybe (codes "poolDeposit") decimal u.pool_deposit
    ++ maybe (codes "rho") fraction_json u.rho
    ++ maybe (codes "tau") fraction_json u.tau
    ++ maybe (codes "minPoolCost") decimal u.min_pool_cost
    ++ maybe (codes "coinsPerUTxOByte") decimal u.coins_per_utxo_byte
    ++ maybe (codes "prices") prices_json u.prices
    ++ maybe (codes "minFeeRefScriptCostPerByte") fraction_json u.min_fee_ref_script_cost_per_byte

-- the parameters of the technical group that an update names
abbrev pub technical_fields : Update → List Text
technical_fields u =
    maybe (codes "a0") fraction_json u.a0
    ++ maybe (codes "eMax") decimal u.e_max
    ++ maybe (codes "nOpt") decimal u.n_opt
    ++ maybe (codes "costModels") hash_json u.cost_models
    ++ maybe (codes "collateralPercentage") decimal u.collateral_percentage

-- the parameters of the governance group that an update names
abbrev pub governance_fields : Update → List Text
governance_fields u =
    maybe (codes "poolVotingThresholds") fractions_json u.pool_voting_thresholds
    ++ maybe (codes "drepVotingThresholds") fractions_json u.drep_voting_thresholds
    ++ maybe (codes "govActionLifetime") decimal u.gov_action_lifetime
    ++ maybe (codes "govActionDeposit") decimal u.gov_action_deposit
    ++ maybe (codes "drepDeposit") decimal u.drep_deposit
    ++ maybe (codes "drepActivity") decimal u.drep_activity
    ++ maybe (codes "committeeMinSize") decimal u.committee_min_size
    ++ maybe (codes "committeeMaxTermLength") decimal u.committee_max_term_length

-- an update of the parameters
abbrev pub update_json : Update → Text
update_json u = object (network_fields u ++ economic_fields u ++ technical_fields u ++ governance_fields u)

-- ---- an action

-- the previous action, if the action names one
abbrev pub previous_field : Option ActionId → List Text
previous_field previous = maybe (codes "previous") action_id_json previous

-- the fields of an action after its type
abbrev pub fields_of_action : Action → List Text
fields_of_action (NoConfidence previous) = previous_field previous
fields_of_action (UpdateCommittee previous remove add threshold) =
    previous_field previous
    ++ field (codes "remove") (credentials_json remove) ∷
    field (codes "add") (members_json add) ∷
    field (codes "threshold") (fraction_json threshold) ∷
    []
fields_of_action (NewConstitution previous document script) =
    previous_field previous
    ++ field (codes "document") (hash_json document) ∷ []
    ++ maybe (codes "script") hash_json script
fields_of_action (HardForkInitiation previous version) =
    previous_field previous ++ field (codes "version") (numbers_json version) ∷ []
fields_of_action (ParameterChange previous update policy) =
    previous_field previous
    ++ field (codes "update") (update_json update) ∷ []
    ++ maybe (codes "policy") hash_json policy
fields_of_action (TreasuryWithdrawals targets policy) =
    field (codes "targets") (targets_json targets) ∷ [] ++ maybe (codes "policy") hash_json policy
fields_of_action Info = []

-- an action
abbrev pub action_text : Action → Text
action_text a = object (field (codes "type") (quoted (kind_text (kind_of a))) ∷ fields_of_action a)
