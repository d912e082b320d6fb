-- What each kind of value, an update and an action give is within its limits.
use Rattle.std.proofs.Common.{◌≡◌, ℕ, ◌^◌, Bool, true, ◌&&◌, List, Option, Some, lt-ltb, None, option_and_then, refl, subst}
use Rattle.std.specs.Prelude.{nat_lt, nat_le, codes, bytes_eq}
use Rattle.serde_json.specs.Find.{as_number, as_u64}
use Rattle.std.specs.List.{list_all}
use Rattle.coin_frac.specs.Fraction.{fraction}
use Rattle.gov_ids.specs.declared.Account.{Account}
use Rattle.gov_ids.specs.declared.Address.{Address}
use Rattle.gov_ids.specs.Spelling.{account_of, address_of}
use Rattle.gov_ids.proofs.Spelled.{account_spelled, address_spelled}
use Rattle.json_fields.specs.declared.fault.FieldFault.TheVariants.{WrongKind, OutOfRange, Missing}
use Rattle.json_fields.specs.Entries.{needed_in, both_in, maybe_in}
use Rattle.json_fields.specs.Steps.{or_fault}
use Rattle.json_fields.specs.Kinds.{text_in, text_by, pair_in, ref_in, three_in, three_or_four_in, credential_in, u64_in, u32_in, u16_in, number_below, account_in, address_in, unit_in, hash28_in, hash32_in, items_in}
use Rattle.tx_records.specs.declared.genesis.GenesisCommittee.{GenesisCommittee}
use Rattle.tx_records.specs.declared.limits.TheConstants.{LEAST_MAJOR, LIST_LIMIT, NETWORK_LIMIT, SLOT_LIMIT}
use Rattle.tx_records.specs.Limits.{is_slot, is_u32, is_u64, is_network, is_share, is_at_most, is_output, are_assets, are_params, is_action}
use Rattle.record_read.specs.Entries.{slot_in, network_in, epoch_length_in, genesis_version_in, nullable_in, member_in, committee_in, genesis_drep_in, genesis_output_in, output_in}
use Rattle.std.proofs.lemmas.List.{map-id}
use Rattle.std.proofs.lemmas.Option.{none-some, same_Some}
use Rattle.serde_json.specs.Data.{Data, Items, no_items, item}
use Rattle.gov_ids.specs.Orders.{account_cmp, credential_cmp}
use Rattle.gov_ids.proofs.Totals.{account_total, credential_total}
use Rattle.maps.specs.Words.{none_or}
use Rattle.pparams.specs.declared.Params.{Params}
use Rattle.pparams.specs.declared.Update.{Update}
use Rattle.gov_actions.specs.declared.action.Action.{Action}
use Rattle.action_read.specs.Actions.{credentials_in, members_in, targets_in, previous_in, no_confidence_in, update_committee_in, new_constitution_in, hard_fork_in, parameter_change_in, treasury_withdrawals_in, action_of_type, action_in}
use Rattle.action_read.specs.Params.{param_object, units_in, is_five, is_ten, five_units_in, ten_units_in, no_update, network_group_in, fees_in, incomes_in, technical_group_in, governance_group_in, update_in, params_in}
use Rattle.action_read.specs.Whole.{network_params_of, fee_params_of, income_params_of, technical_params_of, governance_params_of, params_of_update}
use Rattle.record_read.proofs.AssetsGive.{assets_by-within}
use Rattle.record_read.proofs.Gives.{both, Within, given, next, skip, if_some, if_test, needed_in-within, Gives, or_else, anything, maybe_in-within, both_in-within, list_in-within, without_place-within, IsDistinctListOf, distinct_list_in-within}

-- ---- numbers

pub number_below-within : (bound : ℕ) → Within (λ n. nat_lt n bound ≡ true) (number_below bound)
number_below-within bound d = skip (or_fault WrongKind (as_number d)) (λ n. skip (or_fault OutOfRange (as_u64 n)) (λ k. if_test (nat_lt k bound) k OutOfRange (λ e. e)))

pub u64_in-within : Within (λ n. is_u64 n ≡ true) u64_in
u64_in-within = number_below-within (2 ^ 64)

pub u32_in-within : Within (λ n. is_u32 n ≡ true) u32_in
u32_in-within = number_below-within (2 ^ 32)

pub slot_in-within : Within (λ n. is_slot n ≡ true) slot_in
slot_in-within = number_below-within SLOT_LIMIT

pub network_in-within : Within (λ n. is_network n ≡ true) network_in
network_in-within = number_below-within NETWORK_LIMIT

pub epoch_length_in-within : Within (λ n. (nat_lt 0 n && is_u32 n) ≡ true) epoch_length_in
epoch_length_in-within d = next (u32_in-within d) (λ n k. if_test (nat_le 1 n) n OutOfRange (λ e. cc))

pub genesis_version_in-within : Within (λ v. nat_le LEAST_MAJOR v.0 ≡ true) genesis_version_in
genesis_version_in-within d = skip (both_in u32_in u32_in d) (λ v. if_test (nat_le LEAST_MAJOR v.0) v OutOfRange (λ e. e))

pub unit_in-within : Within (λ s. is_share s ≡ true) unit_in
unfolding unit_in
unit_in-within d =
    skip (pair_in d) (λ parts. skip (u64_in parts.0) (λ num. skip (u64_in parts.1) (λ den. if_test (nat_le 1 den && nat_le num den) (fraction num den) OutOfRange (λ e. e))))

-- ---- ids

text_by-within : {A : Type 0} {P : A → Type 0} (read : List ℕ → Option A) → ((text : List ℕ) (x : A) → read text ≡ Some x → P x) → Within P (text_by read)
text_by-within read h d = skip (text_in d) (λ text. if_some OutOfRange (read text) (h text))

pub account_in-within : Within (λ (a : Account). is_network a.network ≡ true) account_in
account_in-within = text_by-within account_of (λ text a e. lt-ltb a.network NETWORK_LIMIT ((account_spelled text a).0 e).0.0)

pub address_in-within : Within (λ (a : Address). is_network a.network ≡ true) address_in
address_in-within = text_by-within address_of (λ text a e. lt-ltb a.network NETWORK_LIMIT ((address_spelled text a).0 e).0.0)

-- ---- entries

pub member_in-within : Within (λ m. is_slot m.1 ≡ true) member_in
unfolding member_in
member_in-within d =
    skip (three_in d) (λ parts. skip (credential_in parts.0) (λ cold. next (slot_in-within parts.1) (λ term e. skip (nullable_in credential_in parts.2) (λ hot. given e))))

-- the members are few enough, and their terms are in range
abbrev pub is_committee : GenesisCommittee → Bool
is_committee c = is_at_most LIST_LIMIT c.members && list_all (λ m. is_slot m.1) c.members

pub committee_in-within : Within (λ c. is_committee c ≡ true) committee_in
unfolding committee_in
committee_in-within d =
    skip (needed_in (codes "threshold") unit_in d) (λ threshold. next ((needed_in-within (without_place-within (list_in-within member_in-within LIST_LIMIT)) (codes "members")) d) (λ members e. given (cc)))

pub genesis_drep_in-within : Within (λ x. is_slot x.2 ≡ true) genesis_drep_in
unfolding genesis_drep_in
genesis_drep_in-within d =
    skip (three_in d) (λ parts. skip (credential_in parts.0) (λ cred. skip (u64_in parts.1) (λ deposit. next (slot_in-within parts.2) (λ expiry e. given e))))

pub output_in-within : Within (λ o. is_output o ≡ true) output_in
unfolding output_in
output_in-within d =
    skip (three_or_four_in d) (λ parts.
    next (address_in-within parts.0) (λ address a.
    next (u64_in-within parts.1) (λ lovelace l.
    next (u32_in-within parts.2) (λ bytes b.
    next (assets_by-within parts.3) (λ assets h. given (both (both (both a l) b) h))))))

pub genesis_output_in-within : Within (λ o. are_assets o.3 ≡ true) genesis_output_in
unfolding genesis_output_in
genesis_output_in-within d =
    skip (three_or_four_in d) (λ parts.
    skip (ref_in parts.0) (λ at.
    skip (address_in parts.1) (λ address.
    skip (u64_in parts.2) (λ lovelace.
    next (assets_by-within parts.3) (λ assets h. given h)))))

-- ---- thresholds

units_in-within : (ds : Items) → Gives (λ us. list_all is_share us ≡ true) (units_in ds)
units_in-within no_items = given refl
units_in-within (item d ds) = next (unit_in-within d) (λ u e. next (units_in-within ds) (λ us f. given (cc)))

five_units_in-within : Within (λ us. list_all is_share us ≡ true) five_units_in
five_units_in-within d = skip (items_in d) (λ ds. or_else (is_five ds) (units_in-within ds) (record { holds = tt }))

ten_units_in-within : Within (λ us. list_all is_share us ≡ true) ten_units_in
ten_units_in-within d = skip (items_in d) (λ ds. or_else (is_ten ds) (units_in-within ds) (record { holds = tt }))

-- ---- updates

-- the parts of an update that is within the limits
record UpdateWithin (u : Update) : Type 0 where
  pools : none_or (list_all is_share) u.pool_voting_thresholds ≡ true
  dreps : none_or (list_all is_share) u.drep_voting_thresholds ≡ true
  activity : none_or is_u32 u.drep_activity ≡ true
  lifetime : none_or is_u32 u.gov_action_lifetime ≡ true

-- the governance group sets each of them
governance_group_in-within : (d : Data) (u : Update) → Gives UpdateWithin (governance_group_in d u)
unfolding governance_group_in
governance_group_in-within d u =
    next (maybe_in-within five_units_in-within (codes "poolVotingThresholds") d) (λ pools p.
    next (maybe_in-within ten_units_in-within (codes "drepVotingThresholds") d) (λ dreps q.
    next (maybe_in-within u32_in-within (codes "govActionLifetime") d) (λ lifetime l.
    skip (maybe_in (codes "govActionDeposit") u64_in d) (λ deposit.
    skip (maybe_in (codes "drepDeposit") u64_in d) (λ drep_deposit.
    next (maybe_in-within u32_in-within (codes "drepActivity") d) (λ activity a.
    skip (maybe_in (codes "committeeMinSize") u16_in d) (λ size.
    skip (maybe_in (codes "committeeMaxTermLength") u32_in d) (λ term.
    given (record { pools = p; dreps = q; activity = a; lifetime = l })))))))))

update_in-within : Within UpdateWithin update_in
unfolding update_in
update_in-within d =
    skip (param_object d) (λ object.
    skip (network_group_in object no_update) (λ network.
    skip (fees_in object network) (λ fees.
    skip (incomes_in object fees) (λ economic.
    skip (technical_group_in object economic) (λ technical. governance_group_in-within object technical)))))

-- ---- all parameters

abbrev AreParams : Params → Type 0
AreParams p = are_params p ≡ true

-- what is there has the property
record OfSome {A : Type 0} (P : A → Type 0) (o : Option A) : Type 0 where
  holds : (x : A) → o ≡ Some x → P x

there : {A : Type 0} {P : A → Type 0} {x : A} → P x → OfSome P (Some x)
there {P = P} h = record { holds = λ y e. subst P (same_Some _ y e) h }

each : {A B : Type 0} {P : B → Type 0} (o : Option A) {f : A → Option B} → ((x : A) → OfSome P (f x)) → OfSome P (option_and_then f o)
each None h = record { holds = λ y e. absurd (none-some y e) }
each (Some x) h = h x

passing : {A B : Type 0} {P : B → Type 0} {p : A → Bool} (o : Option A) {f : A → Option B} → none_or p o ≡ true → ((x : A) → p x ≡ true → OfSome P (f x)) → OfSome P (option_and_then f o)
passing None h k = record { holds = λ y e. absurd (none-some y e) }
passing (Some x) h k = k x h

through : {A B : Type 0} {P : B → Type 0} {Q : A → Type 0} {o : Option A} {f : A → Option B} → OfSome Q o → ((x : A) → Q x → OfSome P (f x)) → OfSome P (option_and_then f o)
through {o = None} g k = record { holds = λ y e. absurd (none-some y e) }
through {o = Some x} g k = k x (g.holds x refl)

-- the same, from what it is of
abbrev OfWhat : {A : Type 0} → Option A → (A → Type 0) → Type 0
OfWhat o P = OfSome P o

governance_params_of-within : (u : Update) → none_or is_u32 u.drep_activity ≡ true → none_or is_u32 u.gov_action_lifetime ≡ true
    → OfWhat (governance_params_of u) (λ g. (is_u32 g.drep_activity ≡ true) × (is_u32 g.gov_action_lifetime ≡ true))
unfolding governance_params_of
governance_params_of-within u activity lifetime =
    passing u.gov_action_lifetime lifetime (λ l h.
    each u.gov_action_deposit (λ deposit.
    each u.drep_deposit (λ drep_deposit.
    passing u.drep_activity activity (λ a k.
    each u.committee_min_size (λ size.
    each u.committee_max_term_length (λ term. there (k, h)))))))

params_of_update-within : (u : Update) → none_or (list_all is_share) u.pool_voting_thresholds ≡ true → none_or (list_all is_share) u.drep_voting_thresholds ≡ true
    → none_or is_u32 u.drep_activity ≡ true → none_or is_u32 u.gov_action_lifetime ≡ true → OfSome AreParams (params_of_update u)
unfolding params_of_update
params_of_update-within u pools dreps activity lifetime =
    each (network_params_of u) (λ network.
    each (fee_params_of u) (λ fee.
    each (income_params_of u) (λ income.
    each (technical_params_of u) (λ technical.
    through (governance_params_of-within u activity lifetime) (λ governance g.
    passing u.pool_voting_thresholds pools (λ p h.
    passing u.drep_voting_thresholds dreps (λ q k. there (both (both (both h k) g.0) g.1))))))))

pub params_in-within : Within AreParams params_in
params_in-within d =
    next (update_in-within d) (λ u e. if_some Missing (params_of_update u) (params_of_update-within u e.pools e.dreps e.activity e.lifetime).holds)

-- ---- actions

abbrev IsAction : Action → Type 0
IsAction a = is_action a ≡ true

credentials_in-within : Within (IsDistinctListOf credential_cmp (λ c. c) LIST_LIMIT (λ _. true)) credentials_in
credentials_in-within = without_place-within (distinct_list_in-within (anything credential_in) credential_total (λ c. c) LIST_LIMIT)

members_in-within : Within (IsDistinctListOf credential_cmp (λ m. m.0) LIST_LIMIT (λ m. is_slot m.1)) members_in
members_in-within = without_place-within (distinct_list_in-within (both_in-within (anything credential_in) slot_in-within (λ a b u v. v)) credential_total (λ m. m.0) LIST_LIMIT)

abbrev pub is_target : Account × ℕ → Bool
is_target t = is_network t.0.network && is_u64 t.1

pub is_target-within : Within (λ t. is_target t ≡ true) (both_in account_in u64_in)
is_target-within = both_in-within account_in-within u64_in-within (λ a b u v. both u v)

targets_in-within : Within (IsDistinctListOf account_cmp (λ t. t.0) LIST_LIMIT is_target) targets_in
targets_in-within = without_place-within (distinct_list_in-within is_target-within account_total (λ t. t.0) LIST_LIMIT)

update_committee_in-within : Within IsAction update_committee_in
unfolding update_committee_in
update_committee_in-within d =
    skip (previous_in d) (λ previous.
    next (needed_in-within credentials_in-within (codes "remove") d) (λ remove r.
    next (needed_in-within members_in-within (codes "add") d) (λ add a.
    next (needed_in-within unit_in-within (codes "threshold") d) (λ threshold t. given (cc (map-id remove))))))

action_of_type-within : (name : List ℕ) → Within IsAction (action_of_type name)
unfolding no_confidence_in new_constitution_in hard_fork_in parameter_change_in treasury_withdrawals_in
action_of_type-within name d =
    or_else (bytes_eq name (codes "NoConfidence")) (skip (previous_in d) (λ previous. given refl))
    (or_else (bytes_eq name (codes "UpdateCommittee")) (update_committee_in-within d)
    (or_else (bytes_eq name (codes "NewConstitution"))
    (skip (previous_in d) (λ previous. skip (needed_in (codes "document") hash32_in d) (λ document. skip (maybe_in (codes "script") hash28_in d) (λ script. given refl))))
    (or_else (bytes_eq name (codes "HardForkInitiation"))
    (skip (previous_in d) (λ previous. skip (needed_in (codes "version") (both_in u32_in u32_in) d) (λ version. given refl)))
    (or_else (bytes_eq name (codes "ParameterChange"))
    (skip (previous_in d) (λ previous. next (needed_in-within update_in-within (codes "update") d) (λ update u. skip (maybe_in (codes "policy") hash28_in d) (λ policy. given (cc)))))
    (or_else (bytes_eq name (codes "TreasuryWithdrawals"))
    (next (needed_in-within targets_in-within (codes "targets") d) (λ targets t. skip (maybe_in (codes "policy") hash28_in d) (λ policy. given (cc))))
    (or_else (bytes_eq name (codes "Info")) (given refl) (record { holds = tt })))))))

-- an action is within the limits
pub action_in-within : Within IsAction action_in
action_in-within d = skip (needed_in (codes "type") text_in d) (λ name. action_of_type-within name d)
