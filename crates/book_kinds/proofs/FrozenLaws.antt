-- The laws of the lines of frozen DReps, of the accounts of pools, and of ids of proposals.
use Rattle.std.proofs.Common.{◌≡◌, ℕ, true, List, Option, Some, IfSome, refl}
use Rattle.std.proofs.lemmas.Bool.{and_from, and_parts}
use Rattle.maps.specs.Words.{none_or}
use Rattle.gov_ids.specs.declared.Account.{Account}
use Rattle.gov_ids.specs.declared.ActionId.{ActionId}
use Rattle.gov_ids.specs.declared.Credential.{Credential}
use Rattle.gov_ids.specs.declared.PoolId.{PoolId}
use Rattle.gov_ids.specs.Spelling.{account_of, account_text, credential_of, pool_of}
use Rattle.text_forms.specs.Books.{is_frozen_drep}
use Rattle.text_forms.specs.Ids.{is_account_id, is_action_id, is_credential, is_pool_id}
use Rattle.text_forms.specs.Snapshots.{expiry_words}
use Rattle.text_model.specs.Words.{Text, or_none}
use Rattle.tx_records.specs.Limits.{is_u64}
use Rattle.line_kinds.specs.Cuts.{are_plain, word_at}
use Rattle.line_kinds.specs.Numbers.{number_of}
use Rattle.book_kinds.specs.Frozen.{expiry_in, is_pool_account_line, pool_account_in, pool_account_line, proposal_id_in, proposal_id_line}
use Rattle.book_kinds.specs.Words.{or_none_of}
use Rattle.book_kinds.proofs.Fields.{IsField, number_field, or_none_field, then_formed}
use Rattle.book_kinds.proofs.Ids.{account_field, action_id_field, credential_field, pool_field}

-- ---- DReps

pub expiry_formed : (ws : List Text) → IfSome (expiry_in ws) (λ x. is_frozen_drep x ≡ true)
expiry_formed ws =
    then_formed (λ c. is_credential c ≡ true) (λ x. is_frozen_drep x ≡ true) (credential_of (word_at 1 ws)) _ (credential_field.formed (word_at 1 ws)) (λ c p.
    then_formed (λ n. is_u64 n ≡ true) (λ x. is_frozen_drep x ≡ true) (number_of (word_at 3 ws)) _ (number_field.formed (word_at 3 ws)) (λ n q. and_from (is_credential c) (is_u64 n) p q))

pub expiry_plain : (x : Credential × ℕ) → is_frozen_drep x ≡ true → are_plain (expiry_words x) ≡ true
expiry_plain (c, n) p =
    let is = and_parts (is_credential c) (is_u64 n) p in
    rw (credential_field.plain c is.0, number_field.plain n is.1) refl

pub expiry_back : (x : Credential × ℕ) → is_frozen_drep x ≡ true → expiry_in (expiry_words x) ≡ Some x
expiry_back (c, n) p =
    let is = and_parts (is_credential c) (is_u64 n) p in
    rw (credential_field.back c is.0, number_field.back n is.1) refl

-- ---- the accounts of pools

account_or_none : IsField (none_or is_account_id) (or_none account_text) (or_none_of account_of)
account_or_none = or_none_field account_field refl

pub pool_account_formed : (ws : List Text) → IfSome (pool_account_in ws) (λ x. is_pool_account_line x ≡ true)
pool_account_formed ws =
    then_formed (λ q. is_pool_id q ≡ true) (λ x. is_pool_account_line x ≡ true) (pool_of (word_at 1 ws)) _ (pool_field.formed (word_at 1 ws)) (λ q p.
    then_formed (λ a. none_or is_account_id a ≡ true) (λ x. is_pool_account_line x ≡ true) (or_none_of account_of (word_at 3 ws)) _ (account_or_none.formed (word_at 3 ws)) (λ a r.
    and_from (is_pool_id q) (none_or is_account_id a) p r))

pub pool_account_plain : (x : PoolId × Option Account) → is_pool_account_line x ≡ true → are_plain (pool_account_line x) ≡ true
pool_account_plain (q, a) p =
    let is = and_parts (is_pool_id q) (none_or is_account_id a) p in
    rw (pool_field.plain q is.0, account_or_none.plain a is.1) refl

pub pool_account_back : (x : PoolId × Option Account) → is_pool_account_line x ≡ true → pool_account_in (pool_account_line x) ≡ Some x
pool_account_back (q, a) p =
    let is = and_parts (is_pool_id q) (none_or is_account_id a) p in
    rw (pool_field.back q is.0, account_or_none.back a is.1) refl

-- ---- ids of proposals

pub proposal_id_formed : (ws : List Text) → IfSome (proposal_id_in ws) (λ x. is_action_id x ≡ true)
proposal_id_formed ws = action_id_field.formed (word_at 1 ws)

pub proposal_id_plain : (x : ActionId) → is_action_id x ≡ true → are_plain (proposal_id_line x) ≡ true
proposal_id_plain x p = rw (action_id_field.plain x p) refl

pub proposal_id_back : (x : ActionId) → is_action_id x ≡ true → proposal_id_in (proposal_id_line x) ≡ Some x
proposal_id_back x p = action_id_field.back x p
