-- The counts that are kept, after one more and one less, and the keys of a pool, each once.
use Rattle.std.proofs.Common.{◌≡◌, ℕ, ◌+◌, ◌-◌, List, Bool, true, false, cond, ◌||◌, Option, Some, None, option_map, unwrap_or, refl, ap, sym, ◌∙◌, arith}
use Rattle.std.specs.Cmp.{IsTotalOrder}
use Rattle.std.proofs.lemmas.Cmp.{eq_by_cmp_equiv, nat_list_cmp_total}
use Rattle.book_records.specs.Hashes.{same_hash}
use Rattle.maps.proofs.Lookups.{value_at-changed_at, value_at-with_value, value_at-without_key}
use Rattle.maps.proofs.Placed.{value_at_tied}
use Rattle.maps.specs.Maps.{IsMap, changed_at, value_at, with_value, without_key}
use Rattle.maps.specs.Words.{holds}
use Rattle.cert_pool.specs.Keys.{another, count_at, count_in_key, key_cmp}

pub key_total : IsTotalOrder key_cmp
key_total = nat_list_cmp_total

-- ---- the keys of a pool

-- of two keys that are apart none is both
apart : (same a b : Bool) → (same ≡ true → a ≡ b) → (a ≡ true → b ≡ same) → cond (a || b) 1 0 ≡ cond a 1 0 + cond (cond same false b) 1 0
apart true a b e f = rw (e refl) (elim b as (λ c. cond (c || c) 1 0 ≡ cond c 1 0 + 0) [ true ↦ refl | false ↦ refl ])
apart false true b e f = rw (f refl) refl
apart false false b e f = omega arith

pub keys_apart : (first second : Option (List ℕ)) (key : List ℕ)
    → cond (holds same_hash first key || holds same_hash second key) 1 0 ≡ count_in_key key first + count_in_key key (another first second)
keys_apart None second key = omega arith
keys_apart (Some a) None key = elim (same_hash a key) as (λ b. cond (b || false) 1 0 ≡ cond b 1 0 + 0) [ true ↦ refl | false ↦ refl ]
keys_apart (Some a) (Some b) key =
    let equal = eq_by_cmp_equiv key_total in
    apart (same_hash a b) (same_hash a key) (same_hash b key) (λ t. equal.congr a b key t) (λ t. equal.symm b key ∙ sym (equal.congr a key b t))
    ∙ elim (same_hash a b) as (λ c. cond (same_hash a key) 1 0 + cond (cond c false (same_hash b key)) 1 0 ≡ count_in_key key (Some a) + count_in_key key (cond c None (Some b))) [
      | true ↦ refl
      | false ↦ refl
    ]

-- ---- the counts

lowered_by : (o : Option ℕ) → unwrap_or (option_map (λ n. n - 1) o) 0 ≡ unwrap_or o 0 - 1
lowered_by None = omega arith
lowered_by (Some n) = refl

module _ (k : List ℕ) (counts : List (List ℕ × ℕ)) (c : List ℕ) where
  -- a key that ties has the same count
  tied : same_hash k c ≡ true → count_at counts c ≡ count_at counts k
  tied t = ap (λ (o : Option ℕ). unwrap_or o 0) (value_at_tied key_total k c counts t)

  put : (n : ℕ) → count_at (with_value key_cmp k n counts) c ≡ cond (same_hash k c) n (count_at counts c)
  put n =
      ap (λ (o : Option ℕ). unwrap_or o 0) (value_at-with_value key_total k n counts c)
      ∙ elim (same_hash k c) as (λ b. unwrap_or (cond b (Some n) (value_at key_cmp counts c)) 0 ≡ cond b n (count_at counts c)) [
        | true ↦ refl
        | false ↦ refl
      ]

  taken : IsMap key_cmp counts → count_at (without_key key_cmp k counts) c ≡ cond (same_hash k c) 0 (count_at counts c)
  taken h =
      ap (λ (o : Option ℕ). unwrap_or o 0) (value_at-without_key key_total k counts c h)
      ∙ elim (same_hash k c) as (λ b. unwrap_or (cond b None (value_at key_cmp counts c)) 0 ≡ cond b 0 (count_at counts c)) [
        | true ↦ refl
        | false ↦ refl
      ]

  -- one more
  pub count_at-raised : count_at (with_value key_cmp k (count_at counts k + 1) counts) c ≡ count_at counts c + count_in_key c (Some k)
  count_at-raised =
      put (count_at counts k + 1)
      ∙ elim (same_hash k c) as (λ b. same_hash k c ≡ b → cond b (count_at counts k + 1) (count_at counts c) ≡ count_at counts c + cond b 1 0) [
        | true ↦ λ t. omega (arith, tied t)
        | false ↦ λ t. omega arith
      ] refl

  -- one less
  pub count_at-lowered : count_at (changed_at key_cmp k (λ n. n - 1) counts) c ≡ count_at counts c - count_in_key c (Some k)
  count_at-lowered =
      ap (λ (o : Option ℕ). unwrap_or o 0) (value_at-changed_at key_total k (λ n. n - 1) counts c)
      ∙ elim (same_hash k c) as (λ b. unwrap_or (cond b (option_map (λ n. n - 1) (value_at key_cmp counts c)) (value_at key_cmp counts c)) 0 ≡ count_at counts c - cond b 1 0) [
        | true ↦ lowered_by (value_at key_cmp counts c)
        | false ↦ omega arith
      ]

  -- the last one
  pub count_at-last : IsMap key_cmp counts → count_at counts k - 1 ≡ 0 → count_at (without_key key_cmp k counts) c ≡ count_at counts c - count_in_key c (Some k)
  count_at-last h none =
      taken h
      ∙ elim (same_hash k c) as (λ b. same_hash k c ≡ b → cond b 0 (count_at counts c) ≡ count_at counts c - cond b 1 0) [
        | true ↦ λ t. omega (arith, tied t, none)
        | false ↦ λ t. omega arith
      ] refl
