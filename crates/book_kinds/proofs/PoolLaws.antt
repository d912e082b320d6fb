-- The laws of the lines of pools and of their future terms.
use Rattle.std.proofs.Common.{◌≡◌, ℕ, true, ◌&&◌, not, is_some, List, [], ◌∷◌, Option, Some, None, IfSome, bytes_eq, codes, decimal, option_map, refl, ap, sym, true≢false}
use Rattle.std.proofs.lemmas.Bool.{and_from, and_parts}
use Rattle.std.specs.Result.{result_ok}
use Rattle.maps.specs.Words.{none_or}
use Rattle.gov_ids.specs.declared.PoolId.{PoolId}
use Rattle.gov_ids.specs.Spelling.{account_of, account_text, hash_of, hash_text, pool_of}
use Rattle.book_records.specs.declared.pool.Pool.{Pool}
use Rattle.book_records.specs.declared.pool.PoolTerms.{PoolTerms}
use Rattle.text_forms.specs.Books.{are_terms, is_pool}
use Rattle.text_forms.specs.Ids.{is_account_id, is_hash, is_pool_id, is_unit}
use Rattle.text_model.specs.StateLines.{retires_text}
use Rattle.text_model.specs.Words.{Text, share_text}
use Rattle.tx_records.specs.Limits.{is_u64}
use Rattle.line_kinds.specs.Cuts.{are_plain, is_plain, word_at}
use Rattle.line_kinds.specs.Numbers.{number_of}
use Rattle.book_kinds.specs.Pools.{is_next_line, is_pool_line, key_of, next_in, next_line, pool_in, pool_line, retires_of, terms_of, unit_of}
use Rattle.book_kinds.proofs.Fields.{hash_field, hash_plain, not_word, number_field, or_none_formed, then_formed}
use Rattle.book_kinds.proofs.Ids.{account_field, pool_field}
use Rattle.book_kinds.proofs.Shares.{unit_field}

abbrev is_num : ℕ → Type 0
is_num n = is_u64 n ≡ true

-- ---- keys

-- the word of a key, empty if there is none
abbrev key_text : Option (List ℕ) → Text
key_text None = []
key_text (Some h) = hash_text h

key_plain : (k : Option (List ℕ)) → none_or (is_hash 32) k ≡ true → is_plain (key_text k) ≡ true
key_plain None p = refl
key_plain (Some h) p = hash_plain 32 h p

some_formed : (o : Option (List ℕ)) → IfSome o (λ h. is_hash 32 h ≡ true) → IfSome (option_map Some o) (λ k. none_or (is_hash 32) k ≡ true)
some_formed None p = tt
some_formed (Some h) p = p

key_formed : (t : Text) → IfSome (key_of t) (λ k. none_or (is_hash 32) k ≡ true)
key_formed [] = refl
key_formed (c ∷ cs) = some_formed (result_ok (hash_of 32 (c ∷ cs))) ((hash_field 32).formed (c ∷ cs))

key_back_by : (t : Text) (h : List ℕ) → result_ok (hash_of 32 t) ≡ Some h → key_of t ≡ Some (Some h)
key_back_by [] h e = absurd (let no_word = e in cc)
key_back_by (c ∷ cs) h e = ap (option_map Some) e

key_back : (k : Option (List ℕ)) → none_or (is_hash 32) k ≡ true → key_of (key_text k) ≡ Some k
key_back None p = refl
key_back (Some h) p = key_back_by (hash_text h) h ((hash_field 32).back h p)

-- ---- retirements

retires_plain : (o : Option ℕ) → none_or is_u64 o ≡ true → is_plain (retires_text o) ≡ true
retires_plain None p = refl
retires_plain (Some n) p = number_field.plain n p

retires_back : (o : Option ℕ) → none_or is_u64 o ≡ true → retires_of (retires_text o) ≡ Some o
retires_back None p = refl
retires_back (Some n) p = rw (not_word number_field (codes "never") refl n p, number_field.back n p) refl

retires_formed : (t : Text) → IfSome (retires_of t) (λ o. none_or is_u64 o ≡ true)
retires_formed t = or_none_formed is_u64 (number_of t) (bytes_eq t (codes "never")) (number_field.formed t)

-- ---- terms

terms_parts : (t : PoolTerms) → are_terms t ≡ true → (is_u64 t.cost ≡ true) × (is_u64 t.pledge ≡ true) × (is_unit t.margin ≡ true) × (is_account_id t.account ≡ true) × (none_or (is_hash 32) t.key ≡ true)
terms_parts t p =
    let five = and_parts (is_u64 t.cost && is_u64 t.pledge && is_unit t.margin && is_account_id t.account) (none_or (is_hash 32) t.key) p in
    let four = and_parts (is_u64 t.cost && is_u64 t.pledge && is_unit t.margin) (is_account_id t.account) five.0 in
    let three = and_parts (is_u64 t.cost && is_u64 t.pledge) (is_unit t.margin) four.0 in
    let two = and_parts (is_u64 t.cost) (is_u64 t.pledge) three.0 in
    (two.0, two.1, three.1, four.1, five.1)

abbrev are_good : PoolTerms → Type 0
are_good t = are_terms t ≡ true

terms_formed : (c p m a k : Text) → IfSome (terms_of c p m a k) are_good
terms_formed c p m a k =
    then_formed is_num are_good (number_of c) _ (number_field.formed c) (λ cost is1.
    then_formed is_num are_good (number_of p) _ (number_field.formed p) (λ pledge is2.
    then_formed (λ s. is_unit s ≡ true) are_good (unit_of m) _ (unit_field.formed m) (λ margin is3.
    then_formed (λ x. is_account_id x ≡ true) are_good (account_of a) _ (account_field.formed a) (λ account is4.
    then_formed (λ o. none_or (is_hash 32) o ≡ true) are_good (key_of k) _ (key_formed k) (λ key is5.
    and_from (is_u64 cost && is_u64 pledge && is_unit margin && is_account_id account) (none_or (is_hash 32) key)
    (and_from (is_u64 cost && is_u64 pledge && is_unit margin) (is_account_id account)
    (and_from (is_u64 cost && is_u64 pledge) (is_unit margin) (and_from (is_u64 cost) (is_u64 pledge) is1 is2) is3) is4) is5)))))

terms_back : (t : PoolTerms) → are_terms t ≡ true → terms_of (decimal t.cost) (decimal t.pledge) (share_text t.margin) (account_text t.account) (key_text t.key) ≡ Some t
terms_back t p =
    let is = terms_parts t p in
    rw (number_field.back t.cost is.0, number_field.back t.pledge is.1, unit_field.back t.margin is.2, account_field.back t.account is.3, key_back t.key is.4) refl

-- ---- future terms

pub next_formed : (ws : List Text) → IfSome (next_in ws) (λ x. is_next_line x ≡ true)
next_formed ws =
    then_formed (λ q. is_pool_id q ≡ true) (λ x. is_next_line x ≡ true) (pool_of (word_at 1 ws)) _ (pool_field.formed (word_at 1 ws)) (λ q p.
    then_formed are_good (λ x. is_next_line x ≡ true) (terms_of (word_at 3 ws) (word_at 5 ws) (word_at 7 ws) (word_at 9 ws) (word_at 11 ws)) _ (terms_formed (word_at 3 ws) (word_at 5 ws) (word_at 7 ws) (word_at 9 ws) (word_at 11 ws)) (λ t r.
    and_from (is_pool_id q) (are_terms t) p r))

next_plain_by : (q : PoolId) (t : PoolTerms) (key : Option (List ℕ)) → t.key ≡ key → is_pool_id q ≡ true → are_terms t ≡ true → none_or (is_hash 32) key ≡ true → are_plain (next_line (q, t)) ≡ true
next_plain_by q t None e p r k =
    let is = terms_parts t r in
    rw (e, pool_field.plain q p, number_field.plain t.cost is.0, number_field.plain t.pledge is.1, unit_field.plain t.margin is.2, account_field.plain t.account is.3) refl
next_plain_by q t (Some h) e p r k =
    let is = terms_parts t r in
    rw (e, pool_field.plain q p, number_field.plain t.cost is.0, number_field.plain t.pledge is.1, unit_field.plain t.margin is.2, account_field.plain t.account is.3, hash_plain 32 h k) refl

pub next_plain : (x : PoolId × PoolTerms) → is_next_line x ≡ true → are_plain (next_line x) ≡ true
next_plain (q, t) p =
    let is = and_parts (is_pool_id q) (are_terms t) p in
    next_plain_by q t t.key refl is.0 is.1 (terms_parts t is.1).4

-- the last word of future terms
next_key : (q : PoolId) (t : PoolTerms) (key : Option (List ℕ)) → t.key ≡ key → word_at 11 (next_line (q, t)) ≡ key_text key
next_key q t None e = rw e refl
next_key q t (Some h) e = rw e refl

pub next_back : (x : PoolId × PoolTerms) → is_next_line x ≡ true → next_in (next_line x) ≡ Some x
next_back (q, t) p =
    let is = and_parts (is_pool_id q) (are_terms t) p in
    rw (pool_field.back q is.0, next_key q t t.key refl, terms_back t is.1) refl

-- ---- pools

pool_parts : (x : PoolId × Pool) → is_pool_line x ≡ true → (is_pool_id x.0 ≡ true) × (is_u64 x.1.deposit ≡ true) × (are_terms x.1.terms ≡ true) × (none_or is_u64 x.1.retires ≡ true) × (not (is_some x.1.future) ≡ true)
pool_parts x p =
    let all = and_parts (is_pool x) (not (is_some x.1.future)) p in
    let five = and_parts (is_pool_id x.0 && is_u64 x.1.deposit && are_terms x.1.terms && none_or are_terms x.1.future) (none_or is_u64 x.1.retires) all.0 in
    let four = and_parts (is_pool_id x.0 && is_u64 x.1.deposit && are_terms x.1.terms) (none_or are_terms x.1.future) five.0 in
    let three = and_parts (is_pool_id x.0 && is_u64 x.1.deposit) (are_terms x.1.terms) four.0 in
    let two = and_parts (is_pool_id x.0) (is_u64 x.1.deposit) three.0 in
    (two.0, two.1, three.1, five.1, all.1)

-- a pool of these parts
pool_from : (q : PoolId) (d : ℕ) (t : PoolTerms) (r : Option ℕ) → is_pool_id q ≡ true → is_u64 d ≡ true → are_terms t ≡ true → none_or is_u64 r ≡ true
    → is_pool_line (q, record { deposit = d; terms = t; future = None; retires = r }) ≡ true
pool_from q d t r p1 p2 p3 p4 =
    and_from (is_pool_id q && is_u64 d && are_terms t && true && none_or is_u64 r) true
    (and_from (is_pool_id q && is_u64 d && are_terms t && true) (none_or is_u64 r)
    (and_from (is_pool_id q && is_u64 d && are_terms t) true (and_from (is_pool_id q && is_u64 d) (are_terms t) (and_from (is_pool_id q) (is_u64 d) p1 p2) p3) refl) p4) refl

pub pool_formed : (ws : List Text) → IfSome (pool_in ws) (λ x. is_pool_line x ≡ true)
pool_formed ws =
    then_formed (λ q. is_pool_id q ≡ true) (λ x. is_pool_line x ≡ true) (pool_of (word_at 1 ws)) _ (pool_field.formed (word_at 1 ws)) (λ q p1.
    then_formed is_num (λ x. is_pool_line x ≡ true) (number_of (word_at 3 ws)) _ (number_field.formed (word_at 3 ws)) (λ d p2.
    then_formed are_good (λ x. is_pool_line x ≡ true) (terms_of (word_at 5 ws) (word_at 7 ws) (word_at 9 ws) (word_at 11 ws) (word_at 15 ws)) _
    (terms_formed (word_at 5 ws) (word_at 7 ws) (word_at 9 ws) (word_at 11 ws) (word_at 15 ws)) (λ t p3.
    then_formed (λ o. none_or is_u64 o ≡ true) (λ x. is_pool_line x ≡ true) (retires_of (word_at 13 ws)) _ (retires_formed (word_at 13 ws)) (λ r p4. pool_from q d t r p1 p2 p3 p4))))

-- without future terms a pool is its other parts
without_future : (x : Pool) (future : Option PoolTerms) → x.future ≡ future → not (is_some future) ≡ true → record { deposit = x.deposit; terms = x.terms; future = None; retires = x.retires } ≡ x
without_future x None e p = ap (λ (f : Option PoolTerms). record { deposit = x.deposit; terms = x.terms; future = f; retires = x.retires }) (sym e)
without_future x (Some t) e p = absurd (true≢false (sym p))

pool_plain_by : (q : PoolId) (x : Pool) (key : Option (List ℕ)) → x.terms.key ≡ key → is_pool_id q ≡ true → is_u64 x.deposit ≡ true → are_terms x.terms ≡ true → none_or is_u64 x.retires ≡ true
    → none_or (is_hash 32) key ≡ true → are_plain (pool_line (q, x)) ≡ true
pool_plain_by q x None e p1 p2 p3 p4 k =
    let is = terms_parts x.terms p3 in
    rw (e, pool_field.plain q p1, number_field.plain x.deposit p2, number_field.plain x.terms.cost is.0, number_field.plain x.terms.pledge is.1, unit_field.plain x.terms.margin is.2, account_field.plain x.terms.account is.3, retires_plain x.retires p4) refl
pool_plain_by q x (Some h) e p1 p2 p3 p4 k =
    let is = terms_parts x.terms p3 in
    rw (e, pool_field.plain q p1, number_field.plain x.deposit p2, number_field.plain x.terms.cost is.0, number_field.plain x.terms.pledge is.1, unit_field.plain x.terms.margin is.2, account_field.plain x.terms.account is.3, retires_plain x.retires p4, hash_plain 32 h k) refl

pub pool_plain : (x : PoolId × Pool) → is_pool_line x ≡ true → are_plain (pool_line x) ≡ true
pool_plain (q, x) p =
    let is = pool_parts (q, x) p in
    pool_plain_by q x x.terms.key refl is.0 is.1 is.2 is.3 (terms_parts x.terms is.2).4

-- the last word of a pool
pool_key : (q : PoolId) (x : Pool) (key : Option (List ℕ)) → x.terms.key ≡ key → word_at 15 (pool_line (q, x)) ≡ key_text key
pool_key q x None e = rw e refl
pool_key q x (Some h) e = rw e refl

pub pool_back : (x : PoolId × Pool) → is_pool_line x ≡ true → pool_in (pool_line x) ≡ Some x
pool_back (q, x) p =
    let is = pool_parts (q, x) p in
    rw (pool_field.back q is.0, number_field.back x.deposit is.1, pool_key q x x.terms.key refl, terms_back x.terms is.2, retires_back x.retires is.3)
    (ap (λ (y : Pool). Some (q, y)) (without_future x x.future refl is.4))
