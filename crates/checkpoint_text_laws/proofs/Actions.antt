-- The JSON text of an action has no line feeds.
use Rattle.std.proofs.Common.{ℕ, List, [], ◌∷◌, ◌++◌, Option, Some, None, codes, decimal, refl}
use Rattle.std.specs.List.{join_by}
use Rattle.gov_ids.specs.declared.Account.{Account}
use Rattle.gov_ids.specs.declared.ActionId.{ActionId}
use Rattle.gov_ids.specs.declared.Credential.{Credential}
use Rattle.gov_ids.specs.Spelling.{account_text, action_id_text, credential_text, hash_text}
use Rattle.text_forms.specs.of_text_model.of_run_model.of_coin_frac.Fraction.{Fraction}
use Rattle.text_forms.specs.of_text_model.of_gov_actions.declared.action.Action.{Action}
use Rattle.text_forms.specs.of_text_model.of_gov_actions.declared.action.Action.TheVariants.{NoConfidence, UpdateCommittee, NewConstitution, HardForkInitiation, ParameterChange, TreasuryWithdrawals, Info}
use Rattle.text_forms.specs.of_text_model.of_gov_actions.Kinds.{kind_of}
use Rattle.text_forms.specs.of_text_model.of_pparams.declared.Update.{Update}
use Rattle.text_forms.specs.of_text_model.ActionWords.{kind_text}
use Rattle.text_forms.specs.of_text_model.Words.{Text}
use Rattle.text_forms.specs.ActionText.{action_id_json, action_text, array, credential_json, credentials_json, economic_fields, field, fields_of_action, fraction_json, fractions_json, governance_fields, hash_json, listed, maybe, member_json, members_json, network_fields, numbers_json, object, previous_field, prices_json, quoted, target_json, targets_json, technical_fields, update_json}
use Rattle.checkpoint_text_laws.proofs.Free.{AllFree, Each, IsFree, ◌⊕◌, both, dec, hash, join, join_texts, one}
use Rattle.checkpoint_text_laws.proofs.Ids.{account, action_id, cred}

-- ---- JSON

quote : (t : Text) → IsFree t → IsFree (quoted t)
quote t h = both t (codes "\"") h refl

-- items between two brackets
bracketed : (left inside right : Text) → IsFree left → IsFree inside → IsFree right → IsFree (left ++ inside ++ right)
bracketed left inside right l i r = both (left ++ inside) right (both left inside l i) r

list_of : (items : List Text) → AllFree items → IsFree (array items)
list_of items h = bracketed (codes "[") (listed items) (codes "]") refl (join_texts (codes ",") refl items h) refl

each_of : {A : Type 0} (f : A → Text) → ((x : A) → IsFree (f x)) → (xs : List A) → IsFree (codes "[" ++ join_by f (codes ",") xs ++ codes "]")
each_of f each xs = bracketed (codes "[") (join_by f (codes ",") xs) (codes "]") refl (join f (codes ",") refl each xs) refl

object_of : {fields : List Text} → Each IsFree fields → IsFree (object fields)
object_of {fields} h = bracketed (codes "{") (listed fields) (codes "}") refl (join_texts (codes ",") refl fields h.all) refl

named : (name value : Text) → IsFree name → IsFree value → IsFree (field name value)
named name value n v = both (quoted name ++ codes ":") value (both (quoted name) (codes ":") (quote name n) refl) v

-- a field, and one that may be left out
must : (name value : Text) → IsFree name → IsFree value → Each IsFree (field name value ∷ [])
must name value n v = one IsFree (field name value) (named name value n v)

may : {A : Type 0} (name : Text) (f : A → Text) → IsFree name → ((x : A) → IsFree (f x)) → (o : Option A) → Each IsFree (maybe name f o)
may name f n each None = record { all = tt }
may name f n each (Some x) = must name (f x) n (each x)

-- ---- values

hash_value : (h : List ℕ) → IsFree (hash_json h)
hash_value h = quote (hash_text h) (hash h)

cred_value : (c : Credential) → IsFree (credential_json c)
cred_value c = quote (credential_text c) (cred c)

id_value : (a : ActionId) → IsFree (action_id_json a)
id_value a = quote (action_id_text a) (action_id a)

fraction : (s : Fraction) → IsFree (fraction_json s)
fraction s = list_of (decimal s.num ∷ decimal s.den ∷ []) (dec s.num, (dec s.den, tt))

fractions : (ss : List Fraction) → IsFree (fractions_json ss)
fractions ss = each_of fraction_json fraction ss

numbers : (p : ℕ × ℕ) → IsFree (numbers_json p)
numbers p = list_of (decimal p.0 ∷ decimal p.1 ∷ []) (dec p.0, (dec p.1, tt))

prices : (p : Fraction × Fraction) → IsFree (prices_json p)
prices p = list_of (fraction_json p.0 ∷ fraction_json p.1 ∷ []) (fraction p.0, (fraction p.1, tt))

member : (m : Credential × ℕ) → IsFree (member_json m)
member m = list_of (credential_json m.0 ∷ decimal m.1 ∷ []) (cred_value m.0, (dec m.1, tt))

target : (t : Account × ℕ) → IsFree (target_json t)
target t = list_of (quoted (account_text t.0) ∷ decimal t.1 ∷ []) (quote (account_text t.0) (account t.0), (dec t.1, tt))

-- ---- an update

network : (u : Update) → Each IsFree (network_fields u)
network u =
    may (codes "maxBlockBodySize") decimal refl dec u.max_block_body_size
    ⊕ may (codes "maxTxSize") decimal refl dec u.max_tx_size
    ⊕ may (codes "maxBlockHeaderSize") decimal refl dec u.max_block_header_size
    ⊕ may (codes "maxValueSize") decimal refl dec u.max_value_size
    ⊕ may (codes "maxTxExUnits") numbers_json refl numbers u.max_tx_ex_units
    ⊕ may (codes "maxBlockExUnits") numbers_json refl numbers u.max_block_ex_units
    ⊕ may (codes "maxCollateralInputs") decimal refl dec u.max_collateral_inputs

economic : (u : Update) → Each IsFree (economic_fields u)
economic u =
    may (codes "minFeeA") decimal refl dec u.min_fee_a
    ⊕ may (codes "minFeeB") decimal refl dec u.min_fee_b
    ⊕ may (codes "keyDeposit") decimal refl dec u.key_deposit
    ⊕ may (codes "poolDeposit") decimal refl dec u.pool_deposit
    ⊕ may (codes "rho") fraction_json refl fraction u.rho
    ⊕ may (codes "tau") fraction_json refl fraction u.tau
    ⊕ may (codes "minPoolCost") decimal refl dec u.min_pool_cost
    ⊕ may (codes "coinsPerUTxOByte") decimal refl dec u.coins_per_utxo_byte
    ⊕ may (codes "prices") prices_json refl prices u.prices
    ⊕ may (codes "minFeeRefScriptCostPerByte") fraction_json refl fraction u.min_fee_ref_script_cost_per_byte

technical : (u : Update) → Each IsFree (technical_fields u)
technical u =
    may (codes "a0") fraction_json refl fraction u.a0
    ⊕ may (codes "eMax") decimal refl dec u.e_max
    ⊕ may (codes "nOpt") decimal refl dec u.n_opt
    ⊕ may (codes "costModels") hash_json refl hash_value u.cost_models
    ⊕ may (codes "collateralPercentage") decimal refl dec u.collateral_percentage

governance : (u : Update) → Each IsFree (governance_fields u)
governance u =
    may (codes "poolVotingThresholds") fractions_json refl fractions u.pool_voting_thresholds
    ⊕ may (codes "drepVotingThresholds") fractions_json refl fractions u.drep_voting_thresholds
    ⊕ may (codes "govActionLifetime") decimal refl dec u.gov_action_lifetime
    ⊕ may (codes "govActionDeposit") decimal refl dec u.gov_action_deposit
    ⊕ may (codes "drepDeposit") decimal refl dec u.drep_deposit
    ⊕ may (codes "drepActivity") decimal refl dec u.drep_activity
    ⊕ may (codes "committeeMinSize") decimal refl dec u.committee_min_size
    ⊕ may (codes "committeeMaxTermLength") decimal refl dec u.committee_max_term_length

update : (u : Update) → IsFree (update_json u)
update u = object_of (network u ⊕ economic u ⊕ technical u ⊕ governance u)

-- ---- an action

previous_is : (o : Option ActionId) → Each IsFree (previous_field o)
previous_is o = may (codes "previous") action_id_json refl id_value o

fields : (a : Action) → Each IsFree (fields_of_action a)
fields (NoConfidence previous) = previous_is previous
fields (UpdateCommittee previous remove add threshold) =
    previous_is previous
    ⊕ (must (codes "remove") (credentials_json remove) refl (each_of credential_json cred_value remove)
    ⊕ must (codes "add") (members_json add) refl (each_of member_json member add)
    ⊕ must (codes "threshold") (fraction_json threshold) refl (fraction threshold))
fields (NewConstitution previous document script) =
    previous_is previous
    ⊕ must (codes "document") (hash_json document) refl (hash_value document)
    ⊕ may (codes "script") hash_json refl hash_value script
fields (HardForkInitiation previous v) = previous_is previous ⊕ must (codes "version") (numbers_json v) refl (numbers v)
fields (ParameterChange previous u policy) =
    previous_is previous
    ⊕ must (codes "update") (update_json u) refl (update u)
    ⊕ may (codes "policy") hash_json refl hash_value policy
fields (TreasuryWithdrawals targets policy) =
    must (codes "targets") (targets_json targets) refl (each_of target_json target targets)
    ⊕ may (codes "policy") hash_json refl hash_value policy
fields Info = record { all = tt }

pub kind : (a : Action) → IsFree (kind_text (kind_of a))
kind (NoConfidence previous) = refl
kind (UpdateCommittee previous remove add threshold) = refl
kind (NewConstitution previous document script) = refl
kind (HardForkInitiation previous v) = refl
kind (ParameterChange previous u policy) = refl
kind (TreasuryWithdrawals targets policy) = refl
kind Info = refl

pub action : (a : Action) → IsFree (action_text a)
action a =
    let type_value : IsFree (quoted (kind_text (kind_of a))) = quote (kind_text (kind_of a)) (kind a) in
    object_of (must (codes "type") (quoted (kind_text (kind_of a))) refl type_value ⊕ fields a)
