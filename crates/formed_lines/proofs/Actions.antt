-- What an action gives has the form of the formats.
use Rattle.std.proofs.Common.{◌≡◌, ℕ, Bool, true, not, ◌&&◌, List, codes, bytes_eq, map, refl, ap, subst}
use Rattle.std.specs.declared.cmp.Ordering.{Ordering}
use Rattle.std.specs.List.{list_all}
use Rattle.std.proofs.lemmas.Bool.{and_from}
use Rattle.std.proofs.lemmas.List.{map-id}
use Rattle.maps.specs.Words.{none_or, repeats}
use Rattle.gov_ids.specs.declared.Account.{Account}
use Rattle.gov_ids.specs.declared.Credential.{Credential}
use Rattle.gov_ids.specs.Orders.{account_cmp, credential_cmp}
use Rattle.gov_ids.proofs.Totals.{account_total, credential_total}
use Rattle.gov_actions.specs.declared.action.Action.{Action}
use Rattle.tx_records.specs.declared.limits.TheConstants.{LIST_LIMIT}
use Rattle.tx_records.specs.Limits.{is_at_most, is_slot, is_u32, is_u64}
use Rattle.json_fields.specs.Entries.{both_in, needed_in}
use Rattle.json_fields.specs.Kinds.{account_in, credential_in, text_in, u32_in, u64_in}
use Rattle.action_read.specs.Actions.{action_in, action_of_type, credentials_in, hard_fork_in, members_in, new_constitution_in, no_confidence_in, parameter_change_in, previous_in, targets_in, term_in, treasury_withdrawals_in, update_committee_in}
use Rattle.text_forms.specs.Actions.{are_credentials, are_members, are_targets, is_action, is_member, is_previous, is_target, is_update, is_version}
use Rattle.text_forms.specs.Ids.{is_account_id, is_credential, is_hash, is_unit}
use Rattle.record_read.proofs.Gives.{IsDistinctListOf, Within, both_in-within, distinct_list_in-within, given, maybe_in-within, needed_in-within, next, or_else, skip, without_place-within}
use Rattle.record_read.proofs.KindsGive.{slot_in-within, u32_in-within, u64_in-within}
use Rattle.formed_lines.proofs.Ids.{account_in-formed, action_id_in-formed, credential_in-formed, hash_in-formed, unit_in-formed, weaken}
use Rattle.formed_lines.proofs.Updates.{update_in-formed}

-- a list in which no name stands twice
distinct_is : {A K : Type 0} (cmp : K → K → Ordering) (name : A → K) (p : A → Bool) (xs : List A) → IsDistinctListOf cmp name LIST_LIMIT p xs
    → (is_at_most LIST_LIMIT xs && list_all p xs && not (repeats cmp (map name xs))) ≡ true
distinct_is cmp name p xs l = and_from (is_at_most LIST_LIMIT xs && list_all p xs) (not (repeats cmp (map name xs))) (and_from (is_at_most LIST_LIMIT xs) (list_all p xs) l.few l.each) (ap not l.once)

credentials_in-formed : Within (λ cs. are_credentials cs ≡ true) credentials_in
credentials_in-formed d =
    weaken (without_place-within (distinct_list_in-within credential_in-formed credential_total (λ c. c) LIST_LIMIT) d)
    (λ cs l. subst (λ (ks : List Credential). (is_at_most LIST_LIMIT cs && list_all is_credential cs && not (repeats credential_cmp ks)) ≡ true) (map-id cs) (distinct_is credential_cmp (λ c. c) is_credential cs l))

member_is : Within (λ m. is_member m ≡ true) (both_in credential_in term_in)
member_is = both_in-within {R = λ m. is_member m ≡ true} credential_in-formed slot_in-within (λ a b u v. and_from (is_credential a) (is_slot b) u v)

members_in-formed : Within (λ ms. are_members ms ≡ true) members_in
members_in-formed d =
    weaken (without_place-within (distinct_list_in-within member_is credential_total (λ m. m.0) LIST_LIMIT) d)
    (λ ms l. distinct_is credential_cmp (λ (m : Credential × ℕ). m.0) is_member ms l)

target_is : Within (λ t. is_target t ≡ true) (both_in account_in u64_in)
target_is = both_in-within {R = λ t. is_target t ≡ true} account_in-formed u64_in-within (λ a b u v. and_from (is_account_id a) (is_u64 b) u v)

targets_in-formed : Within (λ ts. are_targets ts ≡ true) targets_in
targets_in-formed d =
    weaken (without_place-within (distinct_list_in-within target_is account_total (λ t. t.0) LIST_LIMIT) d)
    (λ ts l. distinct_is account_cmp (λ (t : Account × ℕ). t.0) is_target ts l)

previous_in-formed : Within (λ o. is_previous o ≡ true) previous_in
previous_in-formed = maybe_in-within action_id_in-formed (codes "previous")

version_is : Within (λ v. is_version v ≡ true) (both_in u32_in u32_in)
version_is = both_in-within {R = λ v. is_version v ≡ true} u32_in-within u32_in-within (λ a b u v. and_from (is_u32 a) (is_u32 b) u v)

-- ---- each type

abbrev IsFormedAction : Action → Type 0
IsFormedAction a = is_action a ≡ true

update_committee_in-formed : Within IsFormedAction update_committee_in
unfolding update_committee_in
update_committee_in-formed d =
    next (previous_in-formed d) (λ previous p.
    next (needed_in-within credentials_in-formed (codes "remove") d) (λ remove r.
    next (needed_in-within members_in-formed (codes "add") d) (λ add a.
    next (needed_in-within unit_in-formed (codes "threshold") d) (λ threshold t.
    given (and_from (is_previous previous && are_credentials remove && are_members add) (is_unit threshold) (and_from (is_previous previous && are_credentials remove) (are_members add) (and_from (is_previous previous) (are_credentials remove) p r) a) t)))))

new_constitution_in-formed : Within IsFormedAction new_constitution_in
unfolding new_constitution_in
new_constitution_in-formed d =
    next (previous_in-formed d) (λ previous p.
    next (needed_in-within (hash_in-formed 32) (codes "document") d) (λ document k.
    next (maybe_in-within (hash_in-formed 28) (codes "script") d) (λ script s.
    given (and_from (is_previous previous && is_hash 32 document) (none_or (is_hash 28) script) (and_from (is_previous previous) (is_hash 32 document) p k) s))))

hard_fork_in-formed : Within IsFormedAction hard_fork_in
unfolding hard_fork_in
hard_fork_in-formed d =
    next (previous_in-formed d) (λ previous p.
    next (needed_in-within version_is (codes "version") d) (λ version v. given (and_from (is_previous previous) (is_version version) p v)))

parameter_change_in-formed : Within IsFormedAction parameter_change_in
unfolding parameter_change_in
parameter_change_in-formed d =
    next (previous_in-formed d) (λ previous p.
    next (needed_in-within update_in-formed (codes "update") d) (λ update u.
    next (maybe_in-within (hash_in-formed 28) (codes "policy") d) (λ policy s.
    given (and_from (is_previous previous && is_update update) (none_or (is_hash 28) policy) (and_from (is_previous previous) (is_update update) p u) s))))

treasury_withdrawals_in-formed : Within IsFormedAction treasury_withdrawals_in
unfolding treasury_withdrawals_in
treasury_withdrawals_in-formed d =
    next (needed_in-within targets_in-formed (codes "targets") d) (λ targets t.
    next (maybe_in-within (hash_in-formed 28) (codes "policy") d) (λ policy s. given (and_from (are_targets targets) (none_or (is_hash 28) policy) t s)))

action_of_type-formed : (name : List ℕ) → Within IsFormedAction (action_of_type name)
unfolding no_confidence_in
action_of_type-formed name d =
    or_else (bytes_eq name (codes "NoConfidence")) (next (previous_in-formed d) (λ previous p. given p))
    (or_else (bytes_eq name (codes "UpdateCommittee")) (update_committee_in-formed d)
    (or_else (bytes_eq name (codes "NewConstitution")) (new_constitution_in-formed d)
    (or_else (bytes_eq name (codes "HardForkInitiation")) (hard_fork_in-formed d)
    (or_else (bytes_eq name (codes "ParameterChange")) (parameter_change_in-formed d)
    (or_else (bytes_eq name (codes "TreasuryWithdrawals")) (treasury_withdrawals_in-formed d)
    (or_else (bytes_eq name (codes "Info")) (given refl) (record { holds = tt })))))))

-- an action
pub action_in-formed : Within IsFormedAction action_in
action_in-formed d = skip (needed_in (codes "type") text_in d) (λ name. action_of_type-formed name d)
