-- The laws of the lines of outputs, assets and stakes.
use Rattle.std.proofs.Common.{◌≡◌, ℕ, ◌*◌, ◌/◌, ◌≤◌, ◌^◌, ◌==◌, Bool, true, false, ◌&&◌, if◌then◌else◌, nat_le, nat_lt, List, [], ◌∷◌, Some, None, Result, Ok, Err, IfSome, bytes_eq, codes, decimal, length, refl, ap, sym, ◌∙◌, arith, inl, inr}
use Rattle.std.proofs.lemmas.Bool.{and_from, and_parts, cases_Bool, eq-eqb, leb-true, le-leb}
use Rattle.std.proofs.lemmas.Option.{none-some}
use Rattle.std.proofs.lemmas.Slice.Eq.{bytes_eq-Decides}
use Rattle.std.specs.List.{list_all}
use Rattle.std.specs.Result.{result_ok}
use Rattle.assets.specs.Quantities.{is_held}
use Rattle.gov_ids.specs.declared.Address.{Address}
use Rattle.gov_ids.specs.declared.assets.AssetId.{AssetId}
use Rattle.gov_ids.specs.declared.IdFault.{IdFault}
use Rattle.gov_ids.specs.declared.OutRef.{OutRef}
use Rattle.gov_ids.specs.declared.PoolId.{PoolId}
use Rattle.gov_ids.specs.Spelling.{address_of, asset_name_of, asset_name_text, hash_of, hash_text, pool_of, ref_of}
use Rattle.gov_ids.proofs.HashLemmas.{hash_of_ok}
use Rattle.gov_ids.proofs.HexCase.{hash_of-hash_text, hash_of-read}
use Rattle.text_forms.specs.Books.{is_held_asset, is_stake}
use Rattle.text_forms.specs.Ids.{is_address, is_asset_id, is_hash, is_pool_id, is_ref}
use Rattle.text_model.specs.StateLines.{asset_words, snapshot_words}
use Rattle.text_model.specs.Words.{Text}
use Rattle.tx_records.specs.Limits.{is_u64}
use Rattle.line_kinds.specs.Cuts.{are_plain, is_plain, word_at}
use Rattle.line_kinds.specs.Numbers.{number_of}
use Rattle.book_kinds.specs.Outputs.{asset_in, held_of, is_output_line, name_of, output_in, output_line, stake_in}
use Rattle.book_kinds.proofs.Fields.{IsField, hash_field, hash_from, hash_plain, hash_test, number_field, ok_of, then_formed}
use Rattle.book_kinds.proofs.Ids.{address_field, pool_field, ref_field}

abbrev is_num : ℕ → Type 0
is_num n = is_u64 n ≡ true

-- ---- outputs

output_parts : (x : OutRef × (Address × ℕ)) → is_output_line x ≡ true → (is_ref x.0 ≡ true) × (is_address x.1.0 ≡ true) × (is_u64 x.1.1 ≡ true)
output_parts x p =
    let three = and_parts (is_ref x.0 && is_address x.1.0) (is_u64 x.1.1) p in
    let two = and_parts (is_ref x.0) (is_address x.1.0) three.0 in
    (two.0, two.1, three.1)

pub output_formed : (ws : List Text) → IfSome (output_in ws) (λ x. is_output_line x ≡ true)
output_formed ws =
    then_formed (λ r. is_ref r ≡ true) (λ x. is_output_line x ≡ true) (ref_of (word_at 1 ws)) _ (ref_field.formed (word_at 1 ws)) (λ r p.
    then_formed (λ a. is_address a ≡ true) (λ x. is_output_line x ≡ true) (address_of (word_at 2 ws)) _ (address_field.formed (word_at 2 ws)) (λ a q.
    then_formed is_num (λ x. is_output_line x ≡ true) (number_of (word_at 3 ws)) _ (number_field.formed (word_at 3 ws)) (λ n s.
    and_from (is_ref r && is_address a) (is_u64 n) (and_from (is_ref r) (is_address a) p q) s)))

pub output_plain : (x : OutRef × (Address × ℕ)) → is_output_line x ≡ true → are_plain (output_line x) ≡ true
output_plain (r, (a, n)) p =
    let is = output_parts (r, (a, n)) p in
    rw (ref_field.plain r is.0, address_field.plain a is.1, number_field.plain n is.2) refl

pub output_back : (x : OutRef × (Address × ℕ)) → is_output_line x ≡ true → output_in (output_line x) ≡ Some x
output_back (r, (a, n)) p =
    let is = output_parts (r, (a, n)) p in
    rw (ref_field.back r is.0, address_field.back a is.1, number_field.back n is.2) refl

-- ---- stakes

pub stake_formed : (ws : List Text) → IfSome (stake_in ws) (λ x. is_stake x ≡ true)
stake_formed ws =
    then_formed (λ q. is_pool_id q ≡ true) (λ x. is_stake x ≡ true) (pool_of (word_at 2 ws)) _ (pool_field.formed (word_at 2 ws)) (λ q p.
    then_formed is_num (λ x. is_stake x ≡ true) (number_of (word_at 3 ws)) _ (number_field.formed (word_at 3 ws)) (λ n r. and_from (is_pool_id q) (is_u64 n) p r))

pub stake_plain : (name : Text) → is_plain name ≡ true → (x : PoolId × ℕ) → is_stake x ≡ true → are_plain (snapshot_words name x) ≡ true
stake_plain name named (q, n) p =
    let is = and_parts (is_pool_id q) (is_u64 n) p in
    rw (named, pool_field.plain q is.0, number_field.plain n is.1) refl

pub stake_back : (name : Text) (x : PoolId × ℕ) → is_stake x ≡ true → stake_in (snapshot_words name x) ≡ Some x
stake_back name (q, n) p =
    let is = and_parts (is_pool_id q) (is_u64 n) p in
    rw (pool_field.back q is.0, number_field.back n is.1) refl

-- ---- quantities

held_by : (n : ℕ) (some : Bool) → nat_lt 0 n ≡ some → is_u64 n ≡ true → IfSome (if some then Some n else None) (λ n. is_held n ≡ true)
held_by n true e p = and_from (nat_lt 0 n) (nat_lt n (2 ^ 64)) e p
held_by n false e p = tt

pub held_formed : (t : Text) → IfSome (held_of t) (λ n. is_held n ≡ true)
held_formed t = then_formed is_num (λ n. is_held n ≡ true) (number_of t) _ (number_field.formed t) (λ n p. held_by n (nat_lt 0 n) refl p)

held_back : (n : ℕ) → is_held n ≡ true → held_of (decimal n) ≡ Some n
held_back n p =
    let both = and_parts (nat_lt 0 n) (nat_lt n (2 ^ 64)) p in
    rw (number_field.back n both.1, both.0) refl

pub held_field : IsField is_held decimal held_of
held_field = record {
  plain = λ n p. number_field.plain n (and_parts (nat_lt 0 n) (nat_lt n (2 ^ 64)) p).1;
  formed = held_formed;
  back = held_back;
}

-- ---- names of assets

-- a name of at most 32 bytes
abbrev pub is_name : List ℕ → Bool
is_name name = nat_le (length name) 32 && list_all (λ b. nat_lt b 256) name

-- it is a hash of as many bytes
as_hash : (name : List ℕ) → is_name name ≡ true → is_hash (length name) name ≡ true
as_hash name p = and_from (length name == length name) (list_all (λ b. nat_lt b 256) name) (eq-eqb (length name) (length name) refl) (and_parts (nat_le (length name) 32) (list_all (λ b. nat_lt b 256) name) p).1

name_plain : (name : List ℕ) → is_name name ≡ true → is_plain (asset_name_text name) ≡ true
name_plain [] p = refl
name_plain (b ∷ bs) p = hash_plain (length (b ∷ bs)) (b ∷ bs) (as_hash (b ∷ bs) p)

-- its digits read as it
name_read : (name : List ℕ) → is_name name ≡ true → asset_name_of (hash_text name) ≡ Some name
name_read name p =
    let read : hash_of (length name) (hash_text name) ≡ Ok name = hash_of-hash_text (length name) name (hash_from (length name) name (as_hash name p)) in
    let long : length (hash_text name) ≡ 2 * length name = ((hash_of_ok (length name) (hash_text name)).0 (ok_of _ name read)).0 in
    let few : length name ≤ 32 = leb-true (length name) 32 (and_parts (nat_le (length name) 32) (list_all (λ b. nat_lt b 256) name) p).0 in
    let short : length (hash_text name) ≤ 64 = omega (arith, long, few) in
    let half : length (hash_text name) / 2 ≡ length name = omega (arith, long) in
    rw (le-leb (length (hash_text name)) 64 short, half, read) refl

name_back : (name : List ℕ) → is_name name ≡ true → name_of (asset_name_text name) ≡ Some name
name_back [] p = refl
name_back (b ∷ bs) p =
    let read = name_read (b ∷ bs) p in
    let other : bytes_eq (hash_text (b ∷ bs)) (codes "-") ≡ false =
    elim (cases_Bool (bytes_eq (hash_text (b ∷ bs)) (codes "-"))) [
      | inl same ↦ absurd (none-some (b ∷ bs) (ap asset_name_of (sym ((bytes_eq-Decides (hash_text (b ∷ bs)) (codes "-")).0 same)) ∙ read))
      | inr differs ↦ differs
    ] in
    rw (other, read) refl

read_formed : (t : Text) (r : Result (List ℕ) IdFault) → hash_of (length t / 2) t ≡ r → length t ≤ 64 → IfSome (result_ok r) (λ name. is_name name ≡ true)
read_formed t (Ok name) e short =
    let is = (hash_of-read (length t / 2) t name e).0 in
    let few : length name ≤ 32 = omega (arith, is.0, short) in
    and_from (nat_le (length name) 32) (list_all (λ b. nat_lt b 256) name) (le-leb (length name) 32 few)
    (and_parts (length name == length t / 2) (list_all (λ b. nat_lt b 256) name) (hash_test (length t / 2) name is)).1
read_formed t (Err f) e short = tt

name_formed_by : (t : Text) (short : Bool) → nat_le (length t) 64 ≡ short → IfSome (if short then result_ok (hash_of (length t / 2) t) else None) (λ name. is_name name ≡ true)
name_formed_by t true e = read_formed t (hash_of (length t / 2) t) refl (leb-true (length t) 64 e)
name_formed_by t false e = tt

name_formed : (t : Text) (is : Bool) → IfSome (if is then Some [] else asset_name_of t) (λ name. is_name name ≡ true)
name_formed t true = refl
name_formed t false = name_formed_by t (nat_le (length t) 64) refl

pub name_field : IsField is_name asset_name_text name_of
name_field = record {
  plain = name_plain;
  formed = λ t. name_formed t (bytes_eq t (codes "-"));
  back = name_back;
}

-- ---- assets

asset_parts : (x : AssetId × ℕ) → is_held_asset x ≡ true → (is_hash 28 x.0.policy ≡ true) × (is_name x.0.name ≡ true) × (is_held x.1 ≡ true)
asset_parts x p =
    let two = and_parts (is_asset_id x.0) (is_held x.1) p in
    let three = and_parts (is_hash 28 x.0.policy && nat_le (length x.0.name) 32) (list_all (λ b. nat_lt b 256) x.0.name) two.0 in
    let first = and_parts (is_hash 28 x.0.policy) (nat_le (length x.0.name) 32) three.0 in
    (first.0, and_from (nat_le (length x.0.name) 32) (list_all (λ b. nat_lt b 256) x.0.name) first.1 three.1, two.1)

asset_from : (policy name : List ℕ) (n : ℕ) → is_hash 28 policy ≡ true → is_name name ≡ true → is_held n ≡ true → is_held_asset (record { policy = policy; name = name }, n) ≡ true
asset_from policy name n p q r =
    let both = and_parts (nat_le (length name) 32) (list_all (λ b. nat_lt b 256) name) q in
    and_from (is_hash 28 policy && nat_le (length name) 32 && list_all (λ b. nat_lt b 256) name) (is_held n)
    (and_from (is_hash 28 policy && nat_le (length name) 32) (list_all (λ b. nat_lt b 256) name) (and_from (is_hash 28 policy) (nat_le (length name) 32) p both.0) both.1) r

pub asset_formed : (ws : List Text) → IfSome (asset_in ws) (λ x. is_held_asset x ≡ true)
asset_formed ws =
    then_formed (λ h. is_hash 28 h ≡ true) (λ x. is_held_asset x ≡ true) (result_ok (hash_of 28 (word_at 1 ws))) _ ((hash_field 28).formed (word_at 1 ws)) (λ h p.
    then_formed (λ m. is_name m ≡ true) (λ x. is_held_asset x ≡ true) (name_of (word_at 2 ws)) _ (name_field.formed (word_at 2 ws)) (λ m q.
    then_formed (λ n. is_held n ≡ true) (λ x. is_held_asset x ≡ true) (held_of (word_at 3 ws)) _ (held_formed (word_at 3 ws)) (λ n r. asset_from h m n p q r)))

pub asset_plain : (x : AssetId × ℕ) → is_held_asset x ≡ true → are_plain (asset_words x) ≡ true
asset_plain (a, n) p =
    let is = asset_parts (a, n) p in
    rw (hash_plain 28 a.policy is.0, name_plain a.name is.1, held_field.plain n is.2) refl

pub asset_back : (x : AssetId × ℕ) → is_held_asset x ≡ true → asset_in (asset_words x) ≡ Some x
asset_back (a, n) p =
    let is = asset_parts (a, n) p in
    rw ((hash_field 28).back a.policy is.0, name_back a.name is.1, held_back n is.2) refl
