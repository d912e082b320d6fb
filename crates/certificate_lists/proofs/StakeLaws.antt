-- The laws of the stakes of the pools of mark.
use Rattle.std.proofs.Common.{◌≡◌, ℕ, true, List, Some, IfSome, refl}
use Rattle.std.proofs.lemmas.Bool.{and_from, and_parts}
use Rattle.gov_ids.specs.declared.PoolId.{PoolId}
use Rattle.gov_ids.specs.Spelling.{pool_of}
use Rattle.text_forms.specs.Books.{is_stake}
use Rattle.text_forms.specs.Ids.{is_pool_id}
use Rattle.text_model.specs.Words.{Text}
use Rattle.tx_records.specs.Limits.{is_u64}
use Rattle.line_kinds.specs.Cuts.{are_plain, word_at}
use Rattle.line_kinds.specs.Numbers.{number_of}
use Rattle.book_kinds.proofs.Fields.{number_field, then_formed}
use Rattle.book_kinds.proofs.Ids.{pool_field}
use Rattle.certificate_model.specs.Certificate.{mark_words}
use Rattle.certificate_lists.specs.Kinds.{mark_in}

pub mark_formed : (ws : List Text) → IfSome (mark_in ws) (λ x. is_stake x ≡ true)
mark_formed ws =
    then_formed (λ q. is_pool_id q ≡ true) (λ x. is_stake x ≡ true) (pool_of (word_at 1 ws)) _ (pool_field.formed (word_at 1 ws)) (λ q p.
    then_formed (λ n. is_u64 n ≡ true) (λ x. is_stake x ≡ true) (number_of (word_at 2 ws)) _ (number_field.formed (word_at 2 ws)) (λ n r. and_from (is_pool_id q) (is_u64 n) p r))

pub mark_plain : (x : PoolId × ℕ) → is_stake x ≡ true → are_plain (mark_words x) ≡ true
mark_plain x p =
    let is = and_parts (is_pool_id x.0) (is_u64 x.1) p in
    rw (pool_field.plain x.0 is.0, number_field.plain x.1 is.1) refl

pub mark_back : (x : PoolId × ℕ) → is_stake x ≡ true → mark_in (mark_words x) ≡ Some x
mark_back x p =
    let is = and_parts (is_pool_id x.0) (is_u64 x.1) p in
    rw (pool_field.back x.0 is.0, number_field.back x.1 is.1) refl
