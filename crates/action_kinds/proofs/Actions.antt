-- An action, as it is printed and read again.
use Rattle.std.proofs.Common.{◌≡◌, ℕ, ◌^◌, ◌&&◌, true, not, List, [], ◌∷◌, ◌++◌, Option, Some, Ok, IsAscii, codes, decimal, flat_map, refl, ap, sym, subst, arith, append-nil, append_assoc}
use Rattle.std.proofs.lemmas.Bool.{and_parts, ltb-true}
use Rattle.std.proofs.lemmas.List.{map-id}
use Rattle.std.proofs.lemmas.Str.{IsUtf8-from_ascii, is_utf8-from_IsUtf8}
use Rattle.std.proofs.lemmas.Str.Ascii.{IsAscii-cons, IsAscii-nil}
use Rattle.std.specs.List.{join_by, list_all}
use Rattle.std.specs.Result.{result_ok}
use Rattle.std.specs.Str.{is_utf8}
use Rattle.serde_json.specs.Data.{no_members, object, string}
use Rattle.serde_json.specs.Read.{read}
use Rattle.maps.specs.Words.{none_or, repeats}
use Rattle.coin_frac.specs.Fraction.{Fraction}
use Rattle.gov_ids.specs.declared.Account.{Account}
use Rattle.gov_ids.specs.declared.ActionId.{ActionId}
use Rattle.gov_ids.specs.declared.Credential.{Credential}
use Rattle.gov_ids.specs.Orders.{credential_cmp}
use Rattle.gov_ids.specs.Spelling.{account_of, account_text, action_id_of, action_id_text, credential_of, credential_text}
use Rattle.gov_ids.proofs.Totals.{account_total, credential_total}
use Rattle.pparams.specs.declared.Update.{Update}
use Rattle.gov_actions.specs.declared.action.Action.{Action}
use Rattle.gov_actions.specs.declared.action.Action.TheVariants.{NoConfidence, UpdateCommittee, NewConstitution, HardForkInitiation, ParameterChange, TreasuryWithdrawals, Info}
use Rattle.gov_actions.specs.Kinds.{kind_of}
use Rattle.tx_records.specs.declared.limits.TheConstants.{LIST_LIMIT, SLOT_LIMIT}
use Rattle.tx_records.specs.Limits.{is_at_most, is_slot, is_u32, is_u64}
use Rattle.text_model.specs.ActionWords.{kind_text}
use Rattle.text_model.specs.Words.{Text}
use Rattle.text_forms.specs.Actions.{are_credentials, are_members, are_targets, is_action, is_member, is_previous, is_target, is_update, is_version}
use Rattle.text_forms.specs.ActionText.{action_id_json, action_text, credential_json, credentials_json, field, fields_of_action, fraction_json, hash_json, members_json, numbers_json, quoted, targets_json, update_json}
use Rattle.text_forms.specs.Ids.{is_account_id, is_action_id, is_credential, is_hash, is_unit}
use Rattle.json_fields.specs.Entries.{both_in}
use Rattle.json_fields.specs.Kinds.{account_in, action_id_in, credential_in, hash28_in, hash32_in, text_in, u32_in, unit_in}
use Rattle.action_read.specs.Actions.{action_in, credentials_in, hard_fork_in, members_in, new_constitution_in, no_confidence_in, parameter_change_in, targets_in, term_in, treasury_withdrawals_in, update_committee_in}
use Rattle.action_read.specs.Params.{update_in}
use Rattle.book_kinds.proofs.Ids.{account_field, action_id_field, credential_field}
use Rattle.action_kinds.specs.Lines.{action_of}
use Rattle.action_kinds.proofs.Printing.{both_print, deeper_print, distinct_print, number_prints, text_prints, unit_prints}
use Rattle.action_kinds.proofs.Members.{Entry, Printed, Prints, found_at, maybe_entry, maybe_read, needed_entry, needed_read, object_printed, puts}
use Rattle.action_kinds.proofs.Quiet.{account_quiet, action_id_quiet, are_quiet, credential_quiet}
use Rattle.action_kinds.proofs.Trees.{Spells, is_low, spelled_read, spelled_text}
use Rattle.action_kinds.proofs.Updates.{hash_print, update_print}

-- ---- the kinds of fields

type_print : Prints 3 are_quiet quoted text_in
type_print = deeper_print 3 (omega arith) {form = are_quiet} (λ t p. record { datum = string t; spells = spelled_text t p; there = refl; reads = refl })

id_print : Prints 3 is_action_id action_id_json action_id_in
id_print = deeper_print 3 (omega arith) {form = is_action_id} (text_prints {form = is_action_id} action_id_text action_id_of action_id_quiet action_id_field.back)

hash28_print : Prints 3 (is_hash 28) hash_json hash28_in
hash28_print = deeper_print 3 (omega arith) {form = is_hash 28} (hash_print 28)

hash32_print : Prints 3 (is_hash 32) hash_json hash32_in
hash32_print = deeper_print 3 (omega arith) {form = is_hash 32} (hash_print 32)

share_print : Prints 3 is_unit fraction_json unit_in
share_print = deeper_print 3 (omega arith) {form = is_unit} unit_prints

version_print : Prints 3 is_version numbers_json (both_in u32_in u32_in)
version_print = deeper_print 3 (omega arith) {form = is_version} (both_print {f = is_u32} {g = is_u32} (number_prints (2 ^ 32) (omega arith)) (number_prints (2 ^ 32) (omega arith)))

credential_print : Prints 0 is_credential credential_json credential_in
credential_print = text_prints {form = is_credential} credential_text credential_of credential_quiet credential_field.back

account_print : Prints 0 is_account_id (λ a. quoted (account_text a)) account_in
account_print = text_prints {form = is_account_id} account_text account_of account_quiet account_field.back

term_print : Prints 0 is_slot decimal term_in
term_print = number_prints SLOT_LIMIT (omega arith)

credentials_print : Prints 3 are_credentials credentials_json credentials_in
credentials_print = deeper_print 3 (omega arith) {form = are_credentials} (λ cs p.
    distinct_print {form = is_credential} credential_print credential_total (λ c. c) LIST_LIMIT cs
    (subst (λ (ks : List Credential). (is_at_most LIST_LIMIT cs && list_all is_credential cs && not (repeats credential_cmp ks)) ≡ true) (sym (map-id cs)) p))

members_print : Prints 3 are_members members_json members_in
members_print = deeper_print 3 (omega arith) {form = are_members} (distinct_print {form = is_member} (both_print {f = is_credential} {g = is_slot} credential_print term_print) credential_total (λ m. m.0) LIST_LIMIT)

targets_print : Prints 3 are_targets targets_json targets_in
targets_print = deeper_print 3 (omega arith) {form = are_targets} (distinct_print {form = is_target} (both_print {f = is_account_id} {g = is_u64} account_print (number_prints (2 ^ 64) (omega arith))) account_total (λ t. t.0) LIST_LIMIT)

-- ---- their entries

abbrev type_entry : (t : Text) → are_quiet t ≡ true → Entry 3
type_entry t quiet = needed_entry {form = are_quiet} {text = quoted} {reading = text_in} (codes "type") refl type_print t quiet

abbrev previous_entry : (o : Option ActionId) → is_previous o ≡ true → Entry 3
previous_entry o h = maybe_entry {form = is_action_id} {text = action_id_json} {reading = action_id_in} (codes "previous") refl id_print o h

abbrev policy_entry : (name : Text) → are_quiet name ≡ true → (o : Option (List ℕ)) → none_or (is_hash 28) o ≡ true → Entry 3
policy_entry name quiet o h = maybe_entry {form = is_hash 28} {text = hash_json} {reading = hash28_in} name quiet hash28_print o h

-- an action of these fields
made : (a : Action) (es : List (Entry 3)) → flat_map (λ e. e.texts) es ≡ field (codes "type") (quoted (kind_text (kind_of a))) ∷ fields_of_action a → action_in (object (puts es no_members)) ≡ Ok a → Printed 4 action_text action_in a
made a es texts reads = record {
  datum = object (puts es no_members);
  spells = subst (λ (ts : List Text). Spells 4 (codes "{" ++ join_by (λ t. t) (codes ",") ts ++ codes "}") (object (puts es no_members))) texts (object_printed es);
  there = refl;
  reads = reads;
}

-- ---- each type

no_confidence : (previous : Option ActionId) → is_previous previous ≡ true → Printed 4 action_text action_in (NoConfidence previous)
unfolding no_confidence_in
no_confidence previous h =
    let es : List (Entry 3) = type_entry (codes "NoConfidence") refl ∷ previous_entry previous h ∷ [] in
    let type = needed_read {text = quoted} {reading = text_in} (codes "type") (codes "NoConfidence") (type_print (codes "NoConfidence") refl) (puts es no_members) (found_at (codes "type") es no_members refl) in
    let first = maybe_read {form = is_action_id} {text = action_id_json} {reading = action_id_in} (codes "previous") id_print previous h (puts es no_members) (found_at (codes "previous") es no_members refl) in
    made (NoConfidence previous) es (ap (λ (ts : List Text). field (codes "type") (quoted (codes "NoConfidence")) ∷ ts) (append-nil _)) (rw (type, first) refl)

update_committee : (previous : Option ActionId) (remove : List Credential) (add : List (Credential × ℕ)) (threshold : Fraction) → is_previous previous ≡ true → are_credentials remove ≡ true → are_members add ≡ true → is_unit threshold ≡ true
    → Printed 4 action_text action_in (UpdateCommittee previous remove add threshold)
unfolding update_committee_in
update_committee previous remove add threshold h r m t =
    let es : List (Entry 3) =
    type_entry (codes "UpdateCommittee") refl ∷ previous_entry previous h ∷
    needed_entry {form = are_credentials} {text = credentials_json} {reading = credentials_in} (codes "remove") refl credentials_print remove r ∷
    needed_entry {form = are_members} {text = members_json} {reading = members_in} (codes "add") refl members_print add m ∷
    needed_entry {form = is_unit} {text = fraction_json} {reading = unit_in} (codes "threshold") refl share_print threshold t ∷ [] in
    let type = needed_read {text = quoted} {reading = text_in} (codes "type") (codes "UpdateCommittee") (type_print (codes "UpdateCommittee") refl) (puts es no_members) (found_at (codes "type") es no_members refl) in
    let first = maybe_read {form = is_action_id} {text = action_id_json} {reading = action_id_in} (codes "previous") id_print previous h (puts es no_members) (found_at (codes "previous") es no_members refl) in
    let second = needed_read {text = credentials_json} {reading = credentials_in} (codes "remove") remove (credentials_print remove r) (puts es no_members) (found_at (codes "remove") es no_members refl) in
    let third = needed_read {text = members_json} {reading = members_in} (codes "add") add (members_print add m) (puts es no_members) (found_at (codes "add") es no_members refl) in
    let fourth = needed_read {text = fraction_json} {reading = unit_in} (codes "threshold") threshold (share_print threshold t) (puts es no_members) (found_at (codes "threshold") es no_members refl) in
    made (UpdateCommittee previous remove add threshold) es refl (rw (type, first, second, third, fourth) refl)

new_constitution : (previous : Option ActionId) (document : List ℕ) (script : Option (List ℕ)) → is_previous previous ≡ true → is_hash 32 document ≡ true → none_or (is_hash 28) script ≡ true
    → Printed 4 action_text action_in (NewConstitution previous document script)
unfolding new_constitution_in
new_constitution previous document script h d s =
    let es : List (Entry 3) =
    type_entry (codes "NewConstitution") refl ∷ previous_entry previous h ∷
    needed_entry {form = is_hash 32} {text = hash_json} {reading = hash32_in} (codes "document") refl hash32_print document d ∷
    policy_entry (codes "script") refl script s ∷ [] in
    let type = needed_read {text = quoted} {reading = text_in} (codes "type") (codes "NewConstitution") (type_print (codes "NewConstitution") refl) (puts es no_members) (found_at (codes "type") es no_members refl) in
    let first = maybe_read {form = is_action_id} {text = action_id_json} {reading = action_id_in} (codes "previous") id_print previous h (puts es no_members) (found_at (codes "previous") es no_members refl) in
    let second = needed_read {text = hash_json} {reading = hash32_in} (codes "document") document (hash32_print document d) (puts es no_members) (found_at (codes "document") es no_members refl) in
    let third = maybe_read {form = is_hash 28} {text = hash_json} {reading = hash28_in} (codes "script") hash28_print script s (puts es no_members) (found_at (codes "script") es no_members refl) in
    made (NewConstitution previous document script) es (simp (append_assoc, append-nil) refl) (rw (type, first, second, third) refl)

hard_fork : (previous : Option ActionId) (version : ℕ × ℕ) → is_previous previous ≡ true → is_version version ≡ true → Printed 4 action_text action_in (HardForkInitiation previous version)
unfolding hard_fork_in
hard_fork previous version h v =
    let es : List (Entry 3) =
    type_entry (codes "HardForkInitiation") refl ∷ previous_entry previous h ∷
    needed_entry {form = is_version} {text = numbers_json} {reading = both_in u32_in u32_in} (codes "version") refl version_print version v ∷ [] in
    let type = needed_read {text = quoted} {reading = text_in} (codes "type") (codes "HardForkInitiation") (type_print (codes "HardForkInitiation") refl) (puts es no_members) (found_at (codes "type") es no_members refl) in
    let first = maybe_read {form = is_action_id} {text = action_id_json} {reading = action_id_in} (codes "previous") id_print previous h (puts es no_members) (found_at (codes "previous") es no_members refl) in
    let second = needed_read {text = numbers_json} {reading = both_in u32_in u32_in} (codes "version") version (version_print version v) (puts es no_members) (found_at (codes "version") es no_members refl) in
    made (HardForkInitiation previous version) es refl (rw (type, first, second) refl)

parameter_change : (previous : Option ActionId) (update : Update) (policy : Option (List ℕ)) → is_previous previous ≡ true → is_update update ≡ true → none_or (is_hash 28) policy ≡ true → Printed 4 action_text action_in (ParameterChange previous update policy)
unfolding parameter_change_in
parameter_change previous update policy h u q =
    let es : List (Entry 3) =
    type_entry (codes "ParameterChange") refl ∷ previous_entry previous h ∷
    needed_entry {form = is_update} {text = update_json} {reading = update_in} (codes "update") refl update_print update u ∷
    policy_entry (codes "policy") refl policy q ∷ [] in
    let type = needed_read {text = quoted} {reading = text_in} (codes "type") (codes "ParameterChange") (type_print (codes "ParameterChange") refl) (puts es no_members) (found_at (codes "type") es no_members refl) in
    let first = maybe_read {form = is_action_id} {text = action_id_json} {reading = action_id_in} (codes "previous") id_print previous h (puts es no_members) (found_at (codes "previous") es no_members refl) in
    let second = needed_read {text = update_json} {reading = update_in} (codes "update") update (update_print update u) (puts es no_members) (found_at (codes "update") es no_members refl) in
    let third = maybe_read {form = is_hash 28} {text = hash_json} {reading = hash28_in} (codes "policy") hash28_print policy q (puts es no_members) (found_at (codes "policy") es no_members refl) in
    made (ParameterChange previous update policy) es (simp (append_assoc, append-nil) refl) (rw (type, first, second, third) refl)

treasury_withdrawals : (targets : List (Account × ℕ)) (policy : Option (List ℕ)) → are_targets targets ≡ true → none_or (is_hash 28) policy ≡ true → Printed 4 action_text action_in (TreasuryWithdrawals targets policy)
unfolding treasury_withdrawals_in
treasury_withdrawals targets policy t q =
    let es : List (Entry 3) =
    type_entry (codes "TreasuryWithdrawals") refl ∷
    needed_entry {form = are_targets} {text = targets_json} {reading = targets_in} (codes "targets") refl targets_print targets t ∷
    policy_entry (codes "policy") refl policy q ∷ [] in
    let type = needed_read {text = quoted} {reading = text_in} (codes "type") (codes "TreasuryWithdrawals") (type_print (codes "TreasuryWithdrawals") refl) (puts es no_members) (found_at (codes "type") es no_members refl) in
    let second = needed_read {text = targets_json} {reading = targets_in} (codes "targets") targets (targets_print targets t) (puts es no_members) (found_at (codes "targets") es no_members refl) in
    let third = maybe_read {form = is_hash 28} {text = hash_json} {reading = hash28_in} (codes "policy") hash28_print policy q (puts es no_members) (found_at (codes "policy") es no_members refl) in
    made (TreasuryWithdrawals targets policy) es (simp (append_assoc, append-nil) refl) (rw (type, second, third) refl)

info : Printed 4 action_text action_in Info
info =
    let es : List (Entry 3) = type_entry (codes "Info") refl ∷ [] in
    let type = needed_read {text = quoted} {reading = text_in} (codes "type") (codes "Info") (type_print (codes "Info") refl) (puts es no_members) (found_at (codes "type") es no_members refl) in
    made Info es refl (rw type refl)

-- ---- an action

pub action_print : Prints 4 is_action action_text action_in
action_print (NoConfidence previous) p = no_confidence previous p
action_print (UpdateCommittee previous remove add threshold) p =
    let four = and_parts (is_previous previous && are_credentials remove && are_members add) (is_unit threshold) p in
    let three = and_parts (is_previous previous && are_credentials remove) (are_members add) four.0 in
    let two = and_parts (is_previous previous) (are_credentials remove) three.0 in
    update_committee previous remove add threshold two.0 two.1 three.1 four.1
action_print (NewConstitution previous document script) p =
    let three = and_parts (is_previous previous && is_hash 32 document) (none_or (is_hash 28) script) p in
    let two = and_parts (is_previous previous) (is_hash 32 document) three.0 in
    new_constitution previous document script two.0 two.1 three.1
action_print (HardForkInitiation previous version) p = let two = and_parts (is_previous previous) (is_version version) p in hard_fork previous version two.0 two.1
action_print (ParameterChange previous update policy) p =
    let three = and_parts (is_previous previous && is_update update) (none_or (is_hash 28) policy) p in
    let two = and_parts (is_previous previous) (is_update update) three.0 in
    parameter_change previous update policy two.0 two.1 three.1
action_print (TreasuryWithdrawals targets policy) p = let two = and_parts (are_targets targets) (none_or (is_hash 28) policy) p in treasury_withdrawals targets policy two.0 two.1
action_print Info p = info

-- bytes of ASCII are a text
pub low_ascii : (t : List ℕ) → list_all is_low t ≡ true → IsAscii t
low_ascii [] p = IsAscii-nil
low_ascii (b ∷ bs) p = let both = and_parts (is_low b) (list_all is_low bs) p in IsAscii-cons b bs (ltb-true b 128 both.0) (low_ascii bs both.1)

pub low_utf8 : (t : List ℕ) → list_all is_low t ≡ true → is_utf8 t ≡ true
low_utf8 t p = is_utf8-from_IsUtf8 t (IsUtf8-from_ascii t (low_ascii t p))

-- what is printed reads
pub action_back : (a : Action) → is_action a ≡ true → (action_of (action_text a) ≡ Some a) × (list_all is_low (action_text a) ≡ true)
action_back a p =
    let it = action_print a p in
    let found : read (action_text a) ≡ Some it.datum = spelled_read 4 (action_text a) it.datum it.spells (omega arith) in (
      rw (low_utf8 (action_text a) it.spells.low, found) (ap result_ok it.reads),
      it.spells.low,
    )
