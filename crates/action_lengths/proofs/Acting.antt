-- What an action gives is no longer than its object.
use Rattle.std.proofs.Common.{◌≡◌, ℕ, zero, suc, ◌+◌, ◌^◌, ◌≤◌, Bool, true, false, cond, List, [], ◌∷◌, ◌++◌, Result, bytes_eq, codes, decimal, length, refl, ap, arith}
use Rattle.std.proofs.lemmas.Slice.Eq.{bytes_eq-Decides}
use Rattle.serde_json.specs.Data.{Data}
use Rattle.gov_ids.specs.declared.Account.{Account}
use Rattle.gov_ids.specs.declared.Credential.{Credential}
use Rattle.gov_ids.specs.Orders.{account_cmp, credential_cmp}
use Rattle.gov_ids.specs.Spelling.{account_text}
use Rattle.gov_actions.specs.declared.action.Action.{Action}
use Rattle.gov_actions.specs.declared.action.Action.TheVariants.{HardForkInitiation, Info, NewConstitution, NoConfidence, ParameterChange, TreasuryWithdrawals, UpdateCommittee}
use Rattle.gov_actions.specs.Kinds.{kind_of}
use Rattle.tx_records.specs.declared.limits.TheConstants.{LIST_LIMIT, SLOT_LIMIT}
use Rattle.json_fields.specs.Entries.{needed_in}
use Rattle.json_fields.specs.Kinds.{text_in}
use Rattle.action_read.specs.Actions.{action_in, action_of_type, credentials_in, hard_fork_in, members_in, new_constitution_in, no_confidence_in, parameter_change_in, previous_in, targets_in, treasury_withdrawals_in, update_committee_in}
use Rattle.text_forms.specs.ActionText.{action_id_json, action_text, credential_json, credentials_json, field, fields_of_action, fraction_json, hash_json, maybe, member_json, members_json, numbers_json, previous_field, quoted, target_json, targets_json, update_json}
use Rattle.text_model.specs.ActionWords.{kind_text}
use Rattle.text_model.specs.Words.{Text}
use Rattle.json_lengths.specs.Sizes.{closed, data_size}
use Rattle.record_read.proofs.Gives.{Gives, given, next}
use Rattle.action_lengths.proofs.Fitting.{Fits, account_fits, action_id_fits, both_fit, credential_fits, field_size, hash_fits, list_fits, maybe_fits, needed_fits, number_fits, text_size, unit_fits, weaken}
use Rattle.action_lengths.proofs.Members.{size_at, sizes_at, within_object}
use Rattle.action_lengths.proofs.Texts.{cost, cost-append, field_length, object_length, quoted_length}
use Rattle.action_lengths.proofs.Updating.{update_fits}

-- ---- values

credentials_fit : Fits credentials_json credentials_in
credentials_fit = list_fits credential_json credential_fits credential_cmp (λ c. c) LIST_LIMIT

members_fit : Fits members_json members_in
members_fit = list_fits member_json (both_fit credential_json decimal credential_fits (number_fits SLOT_LIMIT)) credential_cmp (λ (m : Credential × ℕ). m.0) LIST_LIMIT

targets_fit : Fits targets_json targets_in
targets_fit = list_fits target_json (both_fit (λ (a : Account). quoted (account_text a)) decimal account_fits (number_fits (2 ^ 64))) account_cmp (λ (t : Account × ℕ). t.0) LIST_LIMIT

previous_fits : (d : Data) → Gives (λ o. cost (previous_field o) ≤ size_at (codes "previous") d) (previous_in d)
previous_fits d = maybe_fits action_id_json action_id_fits (codes "previous") d

-- ---- each type

-- the word of the type, and these members
abbrev IsNamed : List ℕ → Data → Type 0
IsNamed name d = length name + 10 ≤ size_at (codes "type") d

-- by the names of an action's members
closed_by : (a : Action) (d : Data) (ns : List (List ℕ)) → sizes_at (codes "type" ∷ ns) d + 1 ≤ data_size d → cost (fields_of_action a) ≤ sizes_at ns d → IsNamed (kind_text (kind_of a)) d → length (action_text a) ≤ data_size d
closed_by a d ns whole rest named =
    let kind : Text = field (codes "type") (quoted (kind_text (kind_of a))) in
    omega (arith, object_length (kind ∷ fields_of_action a), field_length (codes "type") (quoted (kind_text (kind_of a))), quoted_length (kind_text (kind_of a)), whole, rest, named, same (cost (kind ∷ fields_of_action a)) (omega arith))
  where
    same : (n : ℕ) → 1 ≤ n → closed n ≡ n
    same zero h = absurd (omega (arith, h))
    same (suc n) h = refl

abbrev ActionFits : Data → Action → Type 0
ActionFits d a = length (action_text a) ≤ data_size d

no_confidence_fits : (d : Data) → IsNamed (codes "NoConfidence") d → Gives (ActionFits d) (no_confidence_in d)
unfolding no_confidence_in
no_confidence_fits d k =
    let ns : List (List ℕ) = codes "previous" ∷ [] in
    next (previous_fits d) (λ previous p. given (closed_by (NoConfidence previous) d ns (within_object (codes "type" ∷ ns) d refl (omega (arith, k))) (omega (arith, p)) k))

update_committee_fits : (d : Data) → IsNamed (codes "UpdateCommittee") d → Gives (ActionFits d) (update_committee_in d)
unfolding update_committee_in
update_committee_fits d k =
    let ns : List (List ℕ) = codes "previous" ∷ codes "remove" ∷ codes "add" ∷ codes "threshold" ∷ [] in
    next (previous_fits d) (λ previous p.
    next (needed_fits credentials_json credentials_fit (codes "remove") d) (λ remove r.
    next (needed_fits members_json members_fit (codes "add") d) (λ add a.
    next (needed_fits fraction_json unit_fits (codes "threshold") d) (λ threshold t.
    given (closed_by (UpdateCommittee previous remove add threshold) d ns (within_object (codes "type" ∷ ns) d refl (omega (arith, k)))
    (omega (arith, p, r, a, t, cost-append (previous_field previous) (field (codes "remove") (credentials_json remove) ∷ field (codes "add") (members_json add) ∷ field (codes "threshold") (fraction_json threshold) ∷ []))) k)))))

new_constitution_fits : (d : Data) → IsNamed (codes "NewConstitution") d → Gives (ActionFits d) (new_constitution_in d)
unfolding new_constitution_in
new_constitution_fits d k =
    let ns : List (List ℕ) = codes "previous" ∷ codes "document" ∷ codes "script" ∷ [] in
    next (previous_fits d) (λ previous p.
    next (needed_fits hash_json (hash_fits 32) (codes "document") d) (λ document o.
    next (maybe_fits hash_json (hash_fits 28) (codes "script") d) (λ script s.
    given (closed_by (NewConstitution previous document script) d ns (within_object (codes "type" ∷ ns) d refl (omega (arith, k)))
    (omega (
      arith,
      p,
      o,
      s,
      cost-append (previous_field previous ++ field (codes "document") (hash_json document) ∷ []) (maybe (codes "script") hash_json script),
      cost-append (previous_field previous) (field (codes "document") (hash_json document) ∷ []),
      cost-append (previous_field previous) (field (codes "document") (hash_json document) ∷ [] ++ maybe (codes "script") hash_json script),
      cost-append (field (codes "document") (hash_json document) ∷ []) (maybe (codes "script") hash_json script),
    )) k))))

hard_fork_fits : (d : Data) → IsNamed (codes "HardForkInitiation") d → Gives (ActionFits d) (hard_fork_in d)
unfolding hard_fork_in
hard_fork_fits d k =
    let ns : List (List ℕ) = codes "previous" ∷ codes "version" ∷ [] in
    next (previous_fits d) (λ previous p.
    next (needed_fits numbers_json (both_fit decimal decimal (number_fits (2 ^ 32)) (number_fits (2 ^ 32))) (codes "version") d) (λ version v.
    given (closed_by (HardForkInitiation previous version) d ns (within_object (codes "type" ∷ ns) d refl (omega (arith, k))) (omega (arith, p, v, cost-append (previous_field previous) (field (codes "version") (numbers_json version) ∷ []))) k)))

parameter_change_fits : (d : Data) → IsNamed (codes "ParameterChange") d → Gives (ActionFits d) (parameter_change_in d)
unfolding parameter_change_in
parameter_change_fits d k =
    let ns : List (List ℕ) = codes "previous" ∷ codes "update" ∷ codes "policy" ∷ [] in
    next (previous_fits d) (λ previous p.
    next (needed_fits update_json update_fits (codes "update") d) (λ update u.
    next (maybe_fits hash_json (hash_fits 28) (codes "policy") d) (λ policy s.
    given (closed_by (ParameterChange previous update policy) d ns (within_object (codes "type" ∷ ns) d refl (omega (arith, k)))
    (omega (
      arith,
      p,
      u,
      s,
      cost-append (previous_field previous ++ field (codes "update") (update_json update) ∷ []) (maybe (codes "policy") hash_json policy),
      cost-append (previous_field previous) (field (codes "update") (update_json update) ∷ []),
      cost-append (previous_field previous) (field (codes "update") (update_json update) ∷ [] ++ maybe (codes "policy") hash_json policy),
      cost-append (field (codes "update") (update_json update) ∷ []) (maybe (codes "policy") hash_json policy),
    )) k))))

treasury_withdrawals_fits : (d : Data) → IsNamed (codes "TreasuryWithdrawals") d → Gives (ActionFits d) (treasury_withdrawals_in d)
unfolding treasury_withdrawals_in
treasury_withdrawals_fits d k =
    let ns : List (List ℕ) = codes "targets" ∷ codes "policy" ∷ [] in
    next (needed_fits targets_json targets_fit (codes "targets") d) (λ targets t.
    next (maybe_fits hash_json (hash_fits 28) (codes "policy") d) (λ policy s.
    given (closed_by (TreasuryWithdrawals targets policy) d ns (within_object (codes "type" ∷ ns) d refl (omega (arith, k))) (omega (arith, t, s, cost-append (field (codes "targets") (targets_json targets) ∷ []) (maybe (codes "policy") hash_json policy))) k)))

info_fits : (d : Data) → IsNamed (codes "Info") d → ActionFits d Info
info_fits d k = closed_by Info d [] (within_object (codes "type" ∷ []) d refl (omega (arith, k))) (omega arith) k

-- one reading or another, by a test
by_name : {A E : Type 0} {P : A → Type 0} (name word : List ℕ) {r s : Result A E} → (name ≡ word → Gives P r) → Gives P s → Gives P (cond (bytes_eq name word) r s)
by_name {A} {E} {P} name word {r} {s} g h = go (bytes_eq name word) refl
  where
    go : (b : Bool) → bytes_eq name word ≡ b → Gives P (cond b r s)
    go true e = g ((bytes_eq-Decides name word).0 e)
    go false e = h

of_type : (name : List ℕ) (d : Data) → IsNamed name d → Gives (ActionFits d) (action_of_type name d)
of_type name d k =
    by_name name (codes "NoConfidence") (λ e. no_confidence_fits d (here name (codes "NoConfidence") e k))
    (by_name name (codes "UpdateCommittee") (λ e. update_committee_fits d (here name (codes "UpdateCommittee") e k))
    (by_name name (codes "NewConstitution") (λ e. new_constitution_fits d (here name (codes "NewConstitution") e k))
    (by_name name (codes "HardForkInitiation") (λ e. hard_fork_fits d (here name (codes "HardForkInitiation") e k))
    (by_name name (codes "ParameterChange") (λ e. parameter_change_fits d (here name (codes "ParameterChange") e k))
    (by_name name (codes "TreasuryWithdrawals") (λ e. treasury_withdrawals_fits d (here name (codes "TreasuryWithdrawals") e k))
    (by_name name (codes "Info") (λ e. given (info_fits d (here name (codes "Info") e k))) (record { holds = tt })))))))
  where
    here : (m w : List ℕ) → m ≡ w → IsNamed m d → IsNamed w d
    here m w e h = omega (arith, h, ap (λ (x : List ℕ). length x) e)

-- an action
pub action_fits : (d : Data) → Gives (ActionFits d) (action_in d)
action_fits d =
    next (named_size d) (λ name k. of_type name d k)
  where
    named_size : (d : Data) → Gives (λ name. IsNamed name d) (needed_in (codes "type") text_in d)
    named_size d = next (field_size (codes "type") d) (λ e u. weaken (text_size e) (λ s v. omega (arith, u, v)))
