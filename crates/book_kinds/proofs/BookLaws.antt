-- The laws of the lines of used ids, DReps, rewards and accounts.
use Rattle.std.proofs.Common.{◌≡◌, ℕ, true, ◌&&◌, List, Option, Some, None, IfSome, bytes_eq, codes, refl}
use Rattle.std.proofs.lemmas.Bool.{and_from, and_parts}
use Rattle.maps.specs.Words.{none_or}
use Rattle.gov_ids.specs.declared.Credential.{Credential}
use Rattle.gov_ids.specs.declared.TxId.{TxId}
use Rattle.gov_ids.specs.Spelling.{credential_of, drep_of, drep_text, pool_of, pool_text}
use Rattle.book_records.specs.declared.DrepState.{DrepState}
use Rattle.book_records.specs.declared.Entry.{Entry}
use Rattle.book_records.specs.declared.Registered.{Registered}
use Rattle.checkpoint_model.specs.Checkpoint.{used_words}
use Rattle.text_forms.specs.Books.{is_amount, is_drep, is_entry, is_registration}
use Rattle.text_forms.specs.Ids.{is_credential, is_drep_id, is_pool_id, is_tx_id}
use Rattle.text_model.specs.StateLines.{account_words, drep_words, pending_reward_words}
use Rattle.text_model.specs.Words.{Text, or_none}
use Rattle.tx_records.specs.Limits.{is_u64}
use Rattle.line_kinds.specs.Cuts.{are_plain, word_at}
use Rattle.line_kinds.specs.Numbers.{number_of}
use Rattle.book_kinds.specs.Books.{account_in, drep_in, registered_in, registration_in, reward_in, used_in}
use Rattle.book_kinds.specs.Words.{or_none_of}
use Rattle.book_kinds.proofs.Fields.{IsField, number_field, or_none_field, or_none_formed, then_formed}
use Rattle.book_kinds.proofs.Ids.{credential_field, drep_field, pool_field, tx_id_field}

-- a word that was read has its form
abbrev is_cred : Credential → Type 0
is_cred c = is_credential c ≡ true

abbrev is_num : ℕ → Type 0
is_num n = is_u64 n ≡ true

-- ---- used ids

pub used_formed : (ws : List Text) → IfSome (used_in ws) (λ x. is_tx_id x ≡ true)
used_formed ws = tx_id_field.formed (word_at 1 ws)

pub used_plain : (x : TxId) → is_tx_id x ≡ true → are_plain (used_words x) ≡ true
used_plain x p = rw (tx_id_field.plain x p) refl

pub used_back : (x : TxId) → is_tx_id x ≡ true → used_in (used_words x) ≡ Some x
used_back x p = tx_id_field.back x p

-- ---- DReps

drep_parts : (x : Credential × DrepState) → is_drep x ≡ true → (is_credential x.0 ≡ true) × (is_u64 x.1.deposit ≡ true) × (is_u64 x.1.expiry ≡ true)
drep_parts x p =
    let three = and_parts (is_credential x.0 && is_u64 x.1.deposit) (is_u64 x.1.expiry) p in
    let two = and_parts (is_credential x.0) (is_u64 x.1.deposit) three.0 in
    (two.0, two.1, three.1)

pub drep_formed : (ws : List Text) → IfSome (drep_in ws) (λ x. is_drep x ≡ true)
drep_formed ws =
    then_formed is_cred (λ x. is_drep x ≡ true) (credential_of (word_at 1 ws)) _ (credential_field.formed (word_at 1 ws)) (λ c p.
    then_formed is_num (λ x. is_drep x ≡ true) (number_of (word_at 3 ws)) _ (number_field.formed (word_at 3 ws)) (λ d q.
    then_formed is_num (λ x. is_drep x ≡ true) (number_of (word_at 5 ws)) _ (number_field.formed (word_at 5 ws)) (λ e r.
    and_from (is_credential c && is_u64 d) (is_u64 e) (and_from (is_credential c) (is_u64 d) p q) r)))

pub drep_plain : (x : Credential × DrepState) → is_drep x ≡ true → are_plain (drep_words x) ≡ true
drep_plain (c, d) p =
    let is = drep_parts (c, d) p in
    rw (credential_field.plain c is.0, number_field.plain d.deposit is.1, number_field.plain d.expiry is.2) refl

pub drep_back : (x : Credential × DrepState) → is_drep x ≡ true → drep_in (drep_words x) ≡ Some x
drep_back (c, d) p =
    let is = drep_parts (c, d) p in
    rw (credential_field.back c is.0, number_field.back d.deposit is.1, number_field.back d.expiry is.2) refl

-- ---- rewards

pub reward_formed : (ws : List Text) → IfSome (reward_in ws) (λ x. is_amount x ≡ true)
reward_formed ws =
    then_formed is_cred (λ x. is_amount x ≡ true) (credential_of (word_at 2 ws)) _ (credential_field.formed (word_at 2 ws)) (λ c p.
    then_formed is_num (λ x. is_amount x ≡ true) (number_of (word_at 3 ws)) _ (number_field.formed (word_at 3 ws)) (λ n q. and_from (is_credential c) (is_u64 n) p q))

pub reward_plain : (x : Credential × ℕ) → is_amount x ≡ true → are_plain (pending_reward_words x) ≡ true
reward_plain (c, n) p =
    let is = and_parts (is_credential c) (is_u64 n) p in
    rw (credential_field.plain c is.0, number_field.plain n is.1) refl

pub reward_back : (x : Credential × ℕ) → is_amount x ≡ true → reward_in (pending_reward_words x) ≡ Some x
reward_back (c, n) p =
    let is = and_parts (is_credential c) (is_u64 n) p in
    rw (credential_field.back c is.0, number_field.back n is.1) refl

-- ---- accounts

pub pool_or_none : IsField (none_or is_pool_id) (or_none pool_text) (or_none_of pool_of)
pool_or_none = or_none_field pool_field refl

pub drep_or_none : IsField (none_or is_drep_id) (or_none drep_text) (or_none_of drep_of)
drep_or_none = or_none_field drep_field refl

abbrev is_reg : Registered → Type 0
is_reg r = is_registration r ≡ true

registered_formed : (ws : List Text) → IfSome (registered_in ws) is_reg
registered_formed ws =
    then_formed is_num is_reg (number_of (word_at 5 ws)) _ (number_field.formed (word_at 5 ws)) (λ d p.
    then_formed is_num is_reg (number_of (word_at 7 ws)) _ (number_field.formed (word_at 7 ws)) (λ r q.
    then_formed (λ o. none_or is_pool_id o ≡ true) is_reg (or_none_of pool_of (word_at 9 ws)) _ (pool_or_none.formed (word_at 9 ws)) (λ o s.
    then_formed (λ v. none_or is_drep_id v ≡ true) is_reg (or_none_of drep_of (word_at 11 ws)) _ (drep_or_none.formed (word_at 11 ws)) (λ v t.
    and_from (is_u64 d && is_u64 r && none_or is_pool_id o) (none_or is_drep_id v)
    (and_from (is_u64 d && is_u64 r) (none_or is_pool_id o) (and_from (is_u64 d) (is_u64 r) p q) s) t))))

registered_parts : (r : Registered) → is_registration r ≡ true → (is_u64 r.deposit ≡ true) × (is_u64 r.rewards ≡ true) × (none_or is_pool_id r.pool ≡ true) × (none_or is_drep_id r.drep ≡ true)
registered_parts r p =
    let four = and_parts (is_u64 r.deposit && is_u64 r.rewards && none_or is_pool_id r.pool) (none_or is_drep_id r.drep) p in
    let three = and_parts (is_u64 r.deposit && is_u64 r.rewards) (none_or is_pool_id r.pool) four.0 in
    let two = and_parts (is_u64 r.deposit) (is_u64 r.rewards) three.0 in
    (two.0, two.1, three.1, four.1)

pub account_formed : (ws : List Text) → IfSome (account_in ws) (λ x. is_entry x ≡ true)
account_formed ws =
    then_formed is_cred (λ x. is_entry x ≡ true) (credential_of (word_at 1 ws)) _ (credential_field.formed (word_at 1 ws)) (λ c p.
    then_formed is_num (λ x. is_entry x ≡ true) (number_of (word_at 3 ws)) _ (number_field.formed (word_at 3 ws)) (λ n q.
    then_formed (λ o. none_or is_registration o ≡ true) (λ x. is_entry x ≡ true) (registration_in ws) _
    (or_none_formed is_registration (registered_in ws) (bytes_eq (word_at 4 ws) (codes "unregistered")) (registered_formed ws)) (λ o r.
    and_from (is_credential c && is_u64 n) (none_or is_registration o) (and_from (is_credential c) (is_u64 n) p q) r)))

plain_by : (c : Credential) (n : ℕ) (o : Option Registered) → is_credential c ≡ true → is_u64 n ≡ true → none_or is_registration o ≡ true → are_plain (account_words (c, record { stake = n; registered = o })) ≡ true
plain_by c n None p q r = rw (credential_field.plain c p, number_field.plain n q) refl
plain_by c n (Some g) p q r =
    let is = registered_parts g r in
    rw (credential_field.plain c p, number_field.plain n q, number_field.plain g.deposit is.0, number_field.plain g.rewards is.1, pool_or_none.plain g.pool is.2, drep_or_none.plain g.drep is.3) refl

back_by : (c : Credential) (n : ℕ) (o : Option Registered) → is_credential c ≡ true → is_u64 n ≡ true → none_or is_registration o ≡ true
    → account_in (account_words (c, record { stake = n; registered = o })) ≡ Some (c, record { stake = n; registered = o })
back_by c n None p q r = rw (credential_field.back c p, number_field.back n q) refl
back_by c n (Some g) p q r =
    let is = registered_parts g r in
    rw (credential_field.back c p, number_field.back n q, number_field.back g.deposit is.0, number_field.back g.rewards is.1, pool_or_none.back g.pool is.2, drep_or_none.back g.drep is.3) refl

account_parts : (x : Credential × Entry) → is_entry x ≡ true → (is_credential x.0 ≡ true) × (is_u64 x.1.stake ≡ true) × (none_or is_registration x.1.registered ≡ true)
account_parts x p =
    let three = and_parts (is_credential x.0 && is_u64 x.1.stake) (none_or is_registration x.1.registered) p in
    let two = and_parts (is_credential x.0) (is_u64 x.1.stake) three.0 in
    (two.0, two.1, three.1)

pub account_plain : (x : Credential × Entry) → is_entry x ≡ true → are_plain (account_words x) ≡ true
account_plain x p = let is = account_parts x p in plain_by x.0 x.1.stake x.1.registered is.0 is.1 is.2

pub account_back : (x : Credential × Entry) → is_entry x ≡ true → account_in (account_words x) ≡ Some x
account_back x p = let is = account_parts x p in back_by x.0 x.1.stake x.1.registered is.0 is.1 is.2
