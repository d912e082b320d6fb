-- The laws of the lines of a state.
use Rattle.std.proofs.Common.{◌≡◌, ℕ, ◌<◌, ◌^◌, Bool, true, false, ◌&&◌, if◌then◌else◌, nat_lt, List, Option, Some, None, IfSome, bytes_eq, codes, decimal, refl, arith}
use Rattle.std.proofs.lemmas.Bool.{and_from, and_parts, lt-ltb, ltb-true}
use Rattle.std.specs.Result.{result_ok}
use Rattle.maps.specs.Words.{none_or}
use Rattle.coin_frac.specs.Fraction.{Fraction}
use Rattle.gov_ids.specs.declared.ActionId.{ActionId}
use Rattle.gov_ids.specs.declared.Credential.{Credential}
use Rattle.gov_ids.specs.Spelling.{action_id_of, action_id_text, credential_of, hash_of, hash_text}
use Rattle.gov_actions.specs.declared.state.HotState.{HotState}
use Rattle.gov_actions.specs.declared.state.LastIds.{LastIds}
use Rattle.text_forms.specs.Actions.{is_member, is_previous}
use Rattle.text_forms.specs.Books.{is_hot_state}
use Rattle.text_forms.specs.Ids.{is_credential, is_hash, is_unit}
use Rattle.text_forms.specs.States.{are_last_ids}
use Rattle.text_model.specs.StateLines.{hot_text, noted_fees_words, words_of_enacted}
use Rattle.text_model.specs.Words.{Text, or_none}
use Rattle.tx_records.specs.declared.limits.TheConstants.{SLOT_LIMIT}
use Rattle.tx_records.specs.Limits.{is_slot, is_u64}
use Rattle.line_kinds.specs.Cuts.{are_plain, word_at}
use Rattle.line_kinds.specs.Numbers.{number_of}
use Rattle.book_kinds.specs.Pools.{unit_of}
use Rattle.book_kinds.specs.Words.{or_none_of}
use Rattle.book_kinds.proofs.Fields.{IsField, hash_field, number_field, or_none_field, or_none_formed, then_formed}
use Rattle.book_kinds.proofs.Ids.{action_id_field, credential_field}
use Rattle.book_kinds.proofs.Shares.{unit_field}
use Rattle.book_kinds.proofs.VoteLaws.{hot_state_field}
use Rattle.state_kinds.specs.States.{committee_in, committee_line, constitution_in, constitution_line, enacted_in, hot_or_none_of, is_constitution_line, is_member_line, is_pending_line, member_in, member_line, noted_fees_in, pending_in, pending_line, script_of, term_of, treasury_in, treasury_line}

abbrev is_num : ℕ → Type 0
is_num n = is_u64 n ≡ true

-- ---- amounts

pub noted_fees_formed : (ws : List Text) → IfSome (noted_fees_in ws) (λ n. is_u64 n ≡ true)
noted_fees_formed ws = number_field.formed (word_at 2 ws)

pub noted_fees_plain : (n : ℕ) → is_u64 n ≡ true → are_plain (noted_fees_words n) ≡ true
noted_fees_plain n p = rw (number_field.plain n p) refl

pub noted_fees_back : (n : ℕ) → is_u64 n ≡ true → noted_fees_in (noted_fees_words n) ≡ Some n
noted_fees_back n p = number_field.back n p

pub treasury_formed : (ws : List Text) → IfSome (treasury_in ws) (λ n. is_u64 n ≡ true)
treasury_formed ws = number_field.formed (word_at 1 ws)

pub treasury_plain : (n : ℕ) → is_u64 n ≡ true → are_plain (treasury_line n) ≡ true
treasury_plain n p = rw (number_field.plain n p) refl

pub treasury_back : (n : ℕ) → is_u64 n ≡ true → treasury_in (treasury_line n) ≡ Some n
treasury_back n p = number_field.back n p

pending_parts : (x : ℕ × ℕ × ℕ) → is_pending_line x ≡ true → (is_u64 x.0 ≡ true) × (is_u64 x.1 ≡ true) × (is_u64 x.2 ≡ true)
pending_parts x p =
    let three = and_parts (is_u64 x.0 && is_u64 x.1) (is_u64 x.2) p in
    let two = and_parts (is_u64 x.0) (is_u64 x.1) three.0 in
    (two.0, two.1, three.1)

pub pending_formed : (ws : List Text) → IfSome (pending_in ws) (λ x. is_pending_line x ≡ true)
pending_formed ws =
    then_formed is_num (λ x. is_pending_line x ≡ true) (number_of (word_at 2 ws)) _ (number_field.formed (word_at 2 ws)) (λ a p.
    then_formed is_num (λ x. is_pending_line x ≡ true) (number_of (word_at 4 ws)) _ (number_field.formed (word_at 4 ws)) (λ b q.
    then_formed is_num (λ x. is_pending_line x ≡ true) (number_of (word_at 6 ws)) _ (number_field.formed (word_at 6 ws)) (λ c r.
    and_from (is_u64 a && is_u64 b) (is_u64 c) (and_from (is_u64 a) (is_u64 b) p q) r)))

pub pending_plain : (x : ℕ × ℕ × ℕ) → is_pending_line x ≡ true → are_plain (pending_line x) ≡ true
pending_plain x p =
    let is = pending_parts x p in
    rw (number_field.plain x.0 is.0, number_field.plain x.1 is.1, number_field.plain x.2 is.2) refl

pub pending_back : (x : ℕ × ℕ × ℕ) → is_pending_line x ≡ true → pending_in (pending_line x) ≡ Some x
pending_back x p =
    let is = pending_parts x p in
    rw (number_field.back x.0 is.0, number_field.back x.1 is.1, number_field.back x.2 is.2) refl

-- ---- terms

slot_small : (n : ℕ) → is_slot n ≡ true → is_u64 n ≡ true
slot_small n p =
    let small : n < 2 ^ 62 = ltb-true n (2 ^ 62) p in
    let few : n < 2 ^ 64 = omega (arith, small) in
    lt-ltb n (2 ^ 64) few

term_made : (n : ℕ) (is : Bool) → nat_lt n SLOT_LIMIT ≡ is → IfSome (if is then Some n else None) (λ n. is_slot n ≡ true)
term_made n true e = e
term_made n false e = tt

term_field : IsField is_slot decimal term_of
term_field = record {
  plain = λ n p. number_field.plain n (slot_small n p);
  formed = λ t. then_formed is_num (λ n. is_slot n ≡ true) (number_of t) _ (number_field.formed t) (λ n q. term_made n (nat_lt n SLOT_LIMIT) refl);
  back = λ n p. rw (number_field.back n (slot_small n p), p) refl;
}

-- ---- members

hot_or_none : IsField (none_or is_hot_state) (or_none (λ h. hot_text (Some h))) hot_or_none_of
hot_or_none = or_none_field hot_state_field refl

-- what a cold key authorized, by its two texts
hot_is : (o : Option HotState) → hot_text o ≡ or_none (λ h. hot_text (Some h)) o
hot_is None = refl
hot_is (Some h) = refl

member_parts : (x : (Credential × ℕ) × Option HotState) → is_member_line x ≡ true → (is_credential x.0.0 ≡ true) × (is_slot x.0.1 ≡ true) × (none_or is_hot_state x.1 ≡ true)
member_parts x p =
    let three = and_parts (is_member x.0) (none_or is_hot_state x.1) p in
    let two = and_parts (is_credential x.0.0) (is_slot x.0.1) three.0 in
    (two.0, two.1, three.1)

pub member_formed : (ws : List Text) → IfSome (member_in ws) (λ x. is_member_line x ≡ true)
member_formed ws =
    then_formed (λ c. is_credential c ≡ true) (λ x. is_member_line x ≡ true) (credential_of (word_at 1 ws)) _ (credential_field.formed (word_at 1 ws)) (λ c p.
    then_formed (λ n. is_slot n ≡ true) (λ x. is_member_line x ≡ true) (term_of (word_at 3 ws)) _ (term_field.formed (word_at 3 ws)) (λ n q.
    then_formed (λ o. none_or is_hot_state o ≡ true) (λ x. is_member_line x ≡ true) (hot_or_none_of (word_at 5 ws)) _ (hot_or_none.formed (word_at 5 ws)) (λ o r.
    and_from (is_credential c && is_slot n) (none_or is_hot_state o) (and_from (is_credential c) (is_slot n) p q) r)))

pub member_plain : (x : (Credential × ℕ) × Option HotState) → is_member_line x ≡ true → are_plain (member_line x) ≡ true
member_plain x p =
    let is = member_parts x p in
    rw (hot_is x.1, credential_field.plain x.0.0 is.0, term_field.plain x.0.1 is.1, hot_or_none.plain x.1 is.2) refl

pub member_back : (x : (Credential × ℕ) × Option HotState) → is_member_line x ≡ true → member_in (member_line x) ≡ Some x
member_back x p =
    let is = member_parts x p in
    rw (hot_is x.1, credential_field.back x.0.0 is.0, term_field.back x.0.1 is.1, hot_or_none.back x.1 is.2) refl

-- ---- the constitution

script_field : IsField (none_or (is_hash 28)) (or_none hash_text) script_of
script_field = or_none_field (hash_field 28) refl

pub constitution_formed : (ws : List Text) → IfSome (constitution_in ws) (λ x. is_constitution_line x ≡ true)
constitution_formed ws =
    then_formed (λ h. is_hash 32 h ≡ true) (λ x. is_constitution_line x ≡ true) (result_ok (hash_of 32 (word_at 1 ws))) _ ((hash_field 32).formed (word_at 1 ws)) (λ h p.
    then_formed (λ o. none_or (is_hash 28) o ≡ true) (λ x. is_constitution_line x ≡ true) (script_of (word_at 2 ws)) _ (script_field.formed (word_at 2 ws)) (λ o q.
    and_from (is_hash 32 h) (none_or (is_hash 28) o) p q))

pub constitution_plain : (x : List ℕ × Option (List ℕ)) → is_constitution_line x ≡ true → are_plain (constitution_line x) ≡ true
constitution_plain x p =
    let is = and_parts (is_hash 32 x.0) (none_or (is_hash 28) x.1) p in
    rw ((hash_field 32).plain x.0 is.0, script_field.plain x.1 is.1) refl

pub constitution_back : (x : List ℕ × Option (List ℕ)) → is_constitution_line x ≡ true → constitution_in (constitution_line x) ≡ Some x
constitution_back x p =
    let is = and_parts (is_hash 32 x.0) (none_or (is_hash 28) x.1) p in
    rw ((hash_field 32).back x.0 is.0, script_field.back x.1 is.1) refl

-- ---- the committee

pub committee_formed : (ws : List Text) → IfSome (committee_in ws) (λ o. none_or is_unit o ≡ true)
committee_formed ws = or_none_formed is_unit (unit_of (word_at 2 ws)) (bytes_eq (word_at 1 ws) (codes "none")) (unit_field.formed (word_at 2 ws))

pub committee_plain : (o : Option Fraction) → none_or is_unit o ≡ true → are_plain (committee_line o) ≡ true
committee_plain None p = refl
committee_plain (Some s) p = rw (unit_field.plain s p) refl

pub committee_back : (o : Option Fraction) → none_or is_unit o ≡ true → committee_in (committee_line o) ≡ Some o
committee_back None p = refl
committee_back (Some s) p = rw (unit_field.back s p) refl

-- ---- the last enacted ids

id_or_none : IsField is_previous (or_none action_id_text) (or_none_of action_id_of)
id_or_none = or_none_field action_id_field refl

abbrev is_prev : Option ActionId → Type 0
is_prev o = is_previous o ≡ true

last_parts : (x : LastIds) → are_last_ids x ≡ true → (is_previous x.committee ≡ true) × (is_previous x.constitution ≡ true) × (is_previous x.hardfork ≡ true) × (is_previous x.parameters ≡ true)
last_parts x p =
    let four = and_parts (is_previous x.committee && is_previous x.constitution && is_previous x.hardfork) (is_previous x.parameters) p in
    let three = and_parts (is_previous x.committee && is_previous x.constitution) (is_previous x.hardfork) four.0 in
    let two = and_parts (is_previous x.committee) (is_previous x.constitution) three.0 in
    (two.0, two.1, three.1, four.1)

pub enacted_formed : (ws : List Text) → IfSome (enacted_in ws) (λ x. are_last_ids x ≡ true)
enacted_formed ws =
    then_formed is_prev (λ x. are_last_ids x ≡ true) (or_none_of action_id_of (word_at 2 ws)) _ (id_or_none.formed (word_at 2 ws)) (λ a p.
    then_formed is_prev (λ x. are_last_ids x ≡ true) (or_none_of action_id_of (word_at 4 ws)) _ (id_or_none.formed (word_at 4 ws)) (λ b q.
    then_formed is_prev (λ x. are_last_ids x ≡ true) (or_none_of action_id_of (word_at 6 ws)) _ (id_or_none.formed (word_at 6 ws)) (λ c r.
    then_formed is_prev (λ x. are_last_ids x ≡ true) (or_none_of action_id_of (word_at 8 ws)) _ (id_or_none.formed (word_at 8 ws)) (λ d s.
    and_from (is_previous a && is_previous b && is_previous c) (is_previous d)
    (and_from (is_previous a && is_previous b) (is_previous c) (and_from (is_previous a) (is_previous b) p q) r) s))))

pub enacted_plain : (x : LastIds) → are_last_ids x ≡ true → are_plain (words_of_enacted x) ≡ true
enacted_plain x p =
    let is = last_parts x p in
    rw (id_or_none.plain x.committee is.0, id_or_none.plain x.constitution is.1, id_or_none.plain x.hardfork is.2, id_or_none.plain x.parameters is.3) refl

pub enacted_back : (x : LastIds) → are_last_ids x ≡ true → enacted_in (words_of_enacted x) ≡ Some x
enacted_back x p =
    let is = last_parts x p in
    rw (id_or_none.back x.committee is.0, id_or_none.back x.constitution is.1, id_or_none.back x.hardfork is.2, id_or_none.back x.parameters is.3) refl
