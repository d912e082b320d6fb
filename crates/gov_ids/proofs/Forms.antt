-- Each form: its text reads back, what reads is spelled so, and the case of hex digits does not count.
use Rattle.std.proofs.Common.{◌≡◌, ℕ, ◌+◌, ◌<◌, ◌==◌, List, [], ◌∷◌, ◌++◌, length, take, drop, codes, decimal, Option, Some, None, option_map, option_and_then, IfSome, Result, Ok, Err, refl, sym, ap, ◌∙◌, append_assoc, arith, inl, inr}
use Rattle.std.proofs.lemmas.Bool.{cases_eq, ne_eqb}
use Rattle.std.proofs.lemmas.Fmt.{decimal_digit}
use Rattle.std.proofs.lemmas.List.{drop-map, drop_at, map-append, take-append-drop, take-map, take_at}
use Rattle.std.proofs.lemmas.Option.{none-some, same_Some}
use Rattle.std.specs.Result.{result_ok}
use Rattle.hex.proofs.HexLemmas.{length-encode_with}
use Rattle.hex.specs.Hex.{lower_digits}
use Rattle.gov_ids.specs.declared.Account.{Account}
use Rattle.gov_ids.specs.declared.ActionId.{ActionId}
use Rattle.gov_ids.specs.declared.Address.{Address}
use Rattle.gov_ids.specs.declared.CredKind.{CredKind}
use Rattle.gov_ids.specs.declared.CredKind.TheVariants.{Key, Script}
use Rattle.gov_ids.specs.declared.Credential.{Credential}
use Rattle.gov_ids.specs.declared.OutRef.{OutRef}
use Rattle.gov_ids.specs.declared.PoolId.{PoolId}
use Rattle.gov_ids.specs.Laws.{IsAccount, IsActionId, IsAddress, IsCredential, IsHash, IsOutRef, IsPoolId, digit_lowered, lowered}
use Rattle.gov_ids.specs.Spelling.{account_of, account_text, action_id_of, action_id_text, address_of, address_text, credential_of, credential_text, hash_of, hash_text, index_of, kind_of, kind_text, network_of, place_of, pool_of, pool_text, ref_of, ref_text, stake_of, stake_text}
use Rattle.gov_ids.proofs.HexCase.{hash_of-hash_text, hash_of-lowered, hash_of-read}
use Rattle.gov_ids.proofs.Indexes.{index_of-decimal, index_of-lowered, index_of-read, lowered-decimal}

-- what a step of a reader shows
bind_some : {A B : Type 0} (o : Option A) (f : A → Option B) (y : B) → option_and_then f o ≡ Some y
    → (x : A) × (o ≡ Some x) × (f x ≡ Some y)
bind_some None f y e = absurd (none-some y e)
bind_some (Some x) f y e = (x, refl, e)

result_some : {E : Type 0} (r : Result (List ℕ) E) (h : List ℕ) → result_ok r ≡ Some h → r ≡ Ok h
result_some (Ok x) h e = cc
result_some (Err x) h e = absurd (none-some h e)

-- ---- single letters

kind_of-lowered : (c : ℕ) → kind_of (digit_lowered c) ≡ kind_of c
kind_of-lowered c = grind (arith)

network_of-lowered : (c : ℕ) → network_of (digit_lowered c) ≡ network_of c
network_of-lowered c = grind (arith)

sign_alike : (c s : ℕ) → s < 65 → (digit_lowered c == s) ≡ (c == s)
sign_alike c s low = grind (arith)

kind_of-read : (c : ℕ) (k : CredKind) → kind_of c ≡ Some k → digit_lowered c ∷ [] ≡ kind_text k
kind_of-read c Key e = grind (arith)
kind_of-read c Script e = grind (arith)

network_value : (c n : ℕ) → network_of c ≡ Some n → (n < 2) × (digit_lowered c ≡ 48 + n)
network_value c n e = grind (arith)

network_of-read : (c n : ℕ) → network_of c ≡ Some n → (n < 2) × (digit_lowered c ∷ [] ≡ decimal n)
network_of-read c n e =
    let v = network_value c n e in
    let small = v.0 in
    (small, ap (λ d. d ∷ []) v.1 ∙ sym (decimal_digit n (omega arith)))

network_digit : (n : ℕ) → n < 2 → network_of (48 + n) ≡ Some n
network_digit n small = grind (arith)

-- ---- credentials

pub credential_of-lowered : (s : List ℕ) → credential_of (lowered s) ≡ credential_of s
credential_of-lowered [] = refl
credential_of-lowered (c ∷ ds) = rw (kind_of-lowered c, hash_of-lowered 28 ds) refl

credential_by_kind : (k : CredKind) (h : List ℕ) → IsHash 28 h
    → credential_of (kind_text k ++ hash_text h) ≡ Some (record { hash = h; kind = k })
credential_by_kind Key h is = rw (hash_of-hash_text 28 h is) refl
credential_by_kind Script h is = rw (hash_of-hash_text 28 h is) refl

pub credential_of-text : (c : Credential) → IsCredential c → credential_of (credential_text c) ≡ Some c
credential_of-text c is = credential_by_kind c.kind c.hash is

credential_parts : (letter : ℕ) (digits h : List ℕ) (k : CredKind) (c : Credential) → kind_of letter ≡ Some k
    → hash_of 28 digits ≡ Ok h → record { hash = h; kind = k } ≡ c
    → IsCredential c × (lowered (letter ∷ digits) ≡ credential_text c)
credential_parts letter digits h k c kind hash e =
    let r = hash_of-read 28 digits h hash in
    rw (← e) (r.0, rw r.1 (ap (λ (xs : List ℕ). xs ++ hash_text h) (kind_of-read letter k kind)))

pub credential_of-read : (s : List ℕ) (c : Credential) → credential_of s ≡ Some c → IsCredential c × (lowered s ≡ credential_text c)
credential_of-read [] c e = absurd (none-some c e)
credential_of-read (letter ∷ digits) c e =
    let k = bind_some (kind_of letter) _ c e in
    let h = bind_some (result_ok (hash_of 28 digits)) _ c k.2 in
    credential_parts letter digits h.0 k.0 c k.1 (result_some (hash_of 28 digits) h.0 h.1) (same_Some _ _ h.2)

length_by_kind : (k : CredKind) (h : List ℕ) → IsHash 28 h → length (kind_text k ++ hash_text h) ≡ 57
length_by_kind Key h is = let twice = length-encode_with lower_digits h in let len = is.0 in omega (arith, twice, len)
length_by_kind Script h is = let twice = length-encode_with lower_digits h in let len = is.0 in omega (arith, twice, len)

length-credential_text : (c : Credential) → IsCredential c → length (credential_text c) ≡ 57
length-credential_text c is = length_by_kind c.kind c.hash is

-- ---- accounts

pub account_of-lowered : (s : List ℕ) → account_of (lowered s) ≡ account_of s
account_of-lowered [] = refl
account_of-lowered (d ∷ rest) = rw (network_of-lowered d, credential_of-lowered rest) refl

pub account_of-text : (a : Account) → IsAccount a → account_of (account_text a) ≡ Some a
account_of-text a is =
    let small = is.0 in
    rw (decimal_digit a.network (omega arith), network_digit a.network is.0, credential_of-text a.cred is.1) refl

account_parts : (d n : ℕ) (rest : List ℕ) (c : Credential) (a : Account) → network_of d ≡ Some n → credential_of rest ≡ Some c
    → record { network = n; cred = c } ≡ a → IsAccount a × (lowered (d ∷ rest) ≡ account_text a)
account_parts d n rest c a network cred e =
    let r = credential_of-read rest c cred in
    let v = network_of-read d n network in
    rw (← e) ((v.0, r.0), rw r.1 (ap (λ (xs : List ℕ). xs ++ credential_text c) v.1))

pub account_of-read : (s : List ℕ) (a : Account) → account_of s ≡ Some a → IsAccount a × (lowered s ≡ account_text a)
account_of-read [] a e = absurd (none-some a e)
account_of-read (d ∷ rest) a e =
    let n = bind_some (network_of d) _ a e in
    let c = bind_some (credential_of rest) _ a n.2 in
    account_parts d n.0 rest c.0 a n.1 c.1 (same_Some _ _ c.2)

-- ---- addresses

stake_of-lowered : (s : List ℕ) → stake_of (lowered s) ≡ stake_of s
stake_of-lowered [] = refl
stake_of-lowered (c ∷ rest) = rw (sign_alike c 43 (omega arith), credential_of-lowered rest) refl

stake_of-text : (o : Option Credential) → IfSome o IsCredential → stake_of (stake_text o) ≡ Some o
stake_of-text None is = refl
stake_of-text (Some c) is = rw (credential_of-text c is) refl

-- what a mapped option shows
pub map_some : {A B : Type 0} (f : A → B) (o : Option A) (y : B) → option_map f o ≡ Some y → (x : A) × (o ≡ Some x) × (f x ≡ y)
map_some f None y e = absurd (none-some y e)
map_some f (Some x) y e = (x, refl, same_Some (f x) y e)

no_sign : (c : ℕ) (rest : List ℕ) → (c ≡ 43 → ⊥) → stake_of (c ∷ rest) ≡ None
no_sign c rest other = rw (ne_eqb c 43 other) refl

stake_of-read : (s : List ℕ) (o : Option Credential) → stake_of s ≡ Some o → IfSome o IsCredential × (lowered s ≡ stake_text o)
stake_of-read [] o e = rw (← same_Some None o e) (tt, refl)
stake_of-read (c ∷ rest) o e =
    elim (cases_eq c 43) [
      | inl plus ↦
          let mapped : option_map Some (credential_of rest) ≡ Some o = rw plus at e in
          let m = map_some Some (credential_of rest) o mapped in
          let r = credential_of-read rest m.0 m.1 in
          rw (← m.2, plus) (r.0, ap (λ xs. 43 ∷ xs) r.1)
      | inr other ↦ absurd (none-some o (sym (no_sign c rest other) ∙ e))
    ]

pub address_of-lowered : (s : List ℕ) → address_of (lowered s) ≡ address_of s
address_of-lowered [] = refl
address_of-lowered (d ∷ rest) =
    rw (network_of-lowered d, take-map digit_lowered 57 rest, drop-map digit_lowered 57 rest, credential_of-lowered (take 57 rest), stake_of-lowered (drop 57 rest)) refl

pub address_of-text : (a : Address) → IsAddress a → address_of (address_text a) ≡ Some a
address_of-text a is =
    let small = is.0 in
    let len = length-credential_text a.payment is.1 in
    rw (
      decimal_digit a.network (omega arith),
      network_digit a.network is.0,
      take_at (credential_text a.payment) (stake_text a.stake) 57 len,
      drop_at (credential_text a.payment) (stake_text a.stake) 57 len,
      credential_of-text a.payment is.1,
      stake_of-text a.stake is.2,
    ) refl

address_parts : (d n : ℕ) (rest : List ℕ) (c : Credential) (o : Option Credential) (a : Address) → network_of d ≡ Some n
    → credential_of (take 57 rest) ≡ Some c → stake_of (drop 57 rest) ≡ Some o
    → record { network = n; payment = c; stake = o } ≡ a → IsAddress a × (lowered (d ∷ rest) ≡ address_text a)
address_parts d n rest c o a network payment stake e =
    let v = network_of-read d n network in
    let p = credential_of-read (take 57 rest) c payment in
    let s = stake_of-read (drop 57 rest) o stake in
    let halves : lowered rest ≡ credential_text c ++ stake_text o =
    ap lowered (sym (take-append-drop 57 rest)) ∙ map-append digit_lowered (take 57 rest) (drop 57 rest) ∙ rw (p.1, s.1) refl in
    rw (← e) (
      (v.0, p.0, s.0),
      ap (λ xs. digit_lowered d ∷ xs) halves
          ∙ ap (λ (xs : List ℕ). xs ++ (credential_text c ++ stake_text o)) v.1 ∙ sym (append_assoc (decimal n) (credential_text c) (stake_text o)),
    )

pub address_of-read : (s : List ℕ) (a : Address) → address_of s ≡ Some a → IsAddress a × (lowered s ≡ address_text a)
address_of-read [] a e = absurd (none-some a e)
address_of-read (d ∷ rest) a e =
    let n = bind_some (network_of d) _ a e in
    let c = bind_some (credential_of (take 57 rest)) _ a n.2 in
    let o = bind_some (stake_of (drop 57 rest)) _ a c.2 in
    address_parts d n.0 rest c.0 o.0 a n.1 c.1 o.1 (same_Some _ _ o.2)

-- ---- references

place_of-lowered : (s : List ℕ) → place_of (lowered s) ≡ place_of s
place_of-lowered [] = refl
place_of-lowered (c ∷ rest) = rw (sign_alike c 35 (omega arith), index_of-lowered rest) refl

no_place : (c : ℕ) (rest : List ℕ) → (c ≡ 35 → ⊥) → place_of (c ∷ rest) ≡ None
no_place c rest other = rw (ne_eqb c 35 other) refl

place_of-read : (s : List ℕ) (n : ℕ) → place_of s ≡ Some n → (n < 65536) × (lowered s ≡ codes "#" ++ decimal n)
place_of-read [] n e = absurd (none-some n e)
place_of-read (c ∷ rest) n e =
    elim (cases_eq c 35) [
      | inl sign ↦
          let i : index_of rest ≡ Some n = rw sign at e in
          let r = index_of-read rest n i in
          (r.0, rw (sign, r.1) (ap (λ xs. 35 ∷ xs) (lowered-decimal n r.0)))
      | inr other ↦ absurd (none-some n (sym (no_place c rest other) ∙ e))
    ]

-- the text of a hash and a place, in its two parts
place_front : (h : List ℕ) (n : ℕ) → IsHash 32 h → take 64 (hash_text h ++ codes "#" ++ decimal n) ≡ hash_text h
place_front h n is =
    let twice = length-encode_with lower_digits h in
    let len = is.0 in
    rw (append_assoc (hash_text h) (codes "#") (decimal n)) (take_at (hash_text h) (codes "#" ++ decimal n) 64 (omega (arith, twice, len)))

place_back : (h : List ℕ) (n : ℕ) → IsHash 32 h → drop 64 (hash_text h ++ codes "#" ++ decimal n) ≡ 35 ∷ decimal n
place_back h n is =
    let twice = length-encode_with lower_digits h in
    let len = is.0 in
    rw (append_assoc (hash_text h) (codes "#") (decimal n)) (drop_at (hash_text h) (codes "#" ++ decimal n) 64 (omega (arith, twice, len)))

place_parts : (s h : List ℕ) (n : ℕ) → hash_of 32 (take 64 s) ≡ Ok h → place_of (drop 64 s) ≡ Some n
    → IsHash 32 h × (n < 65536) × (lowered s ≡ hash_text h ++ codes "#" ++ decimal n)
place_parts s h n hash place =
    let r = hash_of-read 32 (take 64 s) h hash in
    let p = place_of-read (drop 64 s) n place in (
      r.0,
      p.0,
      ap lowered (sym (take-append-drop 64 s)) ∙ map-append digit_lowered (take 64 s) (drop 64 s)
          ∙ rw (r.1, p.1) (sym (append_assoc (hash_text h) (codes "#") (decimal n))),
    )

pub ref_of-lowered : (s : List ℕ) → ref_of (lowered s) ≡ ref_of s
ref_of-lowered s =
    rw (take-map digit_lowered 64 s, drop-map digit_lowered 64 s, hash_of-lowered 32 (take 64 s), place_of-lowered (drop 64 s)) refl

pub ref_of-text : (r : OutRef) → IsOutRef r → ref_of (ref_text r) ≡ Some r
ref_of-text r is =
    rw (place_front r.tx.0 r.index is.0, place_back r.tx.0 r.index is.0, hash_of-hash_text 32 r.tx.0 is.0, index_of-decimal r.index is.1) refl

ref_parts : (s h : List ℕ) (n : ℕ) (r : OutRef) → hash_of 32 (take 64 s) ≡ Ok h → place_of (drop 64 s) ≡ Some n
    → record { tx = record { 0 = h }; index = n } ≡ r → IsOutRef r × (lowered s ≡ ref_text r)
ref_parts s h n r hash place e =
    let p = place_parts s h n hash place in
    rw (← e) ((p.0, p.1), p.2)

pub ref_of-read : (s : List ℕ) (r : OutRef) → ref_of s ≡ Some r → IsOutRef r × (lowered s ≡ ref_text r)
ref_of-read s r e =
    let h = bind_some (result_ok (hash_of 32 (take 64 s))) _ r e in
    let n = bind_some (place_of (drop 64 s)) _ r h.2 in
    ref_parts s h.0 n.0 r (result_some (hash_of 32 (take 64 s)) h.0 h.1) n.1 (same_Some _ _ n.2)

pub action_id_of-lowered : (s : List ℕ) → action_id_of (lowered s) ≡ action_id_of s
action_id_of-lowered s =
    rw (take-map digit_lowered 64 s, drop-map digit_lowered 64 s, hash_of-lowered 32 (take 64 s), place_of-lowered (drop 64 s)) refl

pub action_id_of-text : (a : ActionId) → IsActionId a → action_id_of (action_id_text a) ≡ Some a
action_id_of-text a is =
    rw (place_front a.tx.0 a.index is.0, place_back a.tx.0 a.index is.0, hash_of-hash_text 32 a.tx.0 is.0, index_of-decimal a.index is.1) refl

action_id_parts : (s h : List ℕ) (n : ℕ) (a : ActionId) → hash_of 32 (take 64 s) ≡ Ok h → place_of (drop 64 s) ≡ Some n
    → record { tx = record { 0 = h }; index = n } ≡ a → IsActionId a × (lowered s ≡ action_id_text a)
action_id_parts s h n a hash place e =
    let p = place_parts s h n hash place in
    rw (← e) ((p.0, p.1), p.2)

pub action_id_of-read : (s : List ℕ) (a : ActionId) → action_id_of s ≡ Some a → IsActionId a × (lowered s ≡ action_id_text a)
action_id_of-read s a e =
    let h = bind_some (result_ok (hash_of 32 (take 64 s))) _ a e in
    let n = bind_some (place_of (drop 64 s)) _ a h.2 in
    action_id_parts s h.0 n.0 a (result_some (hash_of 32 (take 64 s)) h.0 h.1) n.1 (same_Some _ _ n.2)

-- ---- pools

pub pool_of-lowered : (s : List ℕ) → pool_of (lowered s) ≡ pool_of s
pool_of-lowered s = rw (hash_of-lowered 28 s) refl

pub pool_of-text : (p : PoolId) → IsPoolId p → pool_of (pool_text p) ≡ Some p
pool_of-text p is = rw (hash_of-hash_text 28 p.0 is) refl

pool_parts : (s h : List ℕ) (p : PoolId) → hash_of 28 s ≡ Ok h → record { 0 = h } ≡ p → IsPoolId p × (lowered s ≡ pool_text p)
pool_parts s h p hash e = rw (← e) (hash_of-read 28 s h hash)

pub pool_of-read : (s : List ℕ) (p : PoolId) → pool_of s ≡ Some p → IsPoolId p × (lowered s ≡ pool_text p)
pool_of-read s p e =
    let h = bind_some (result_ok (hash_of 28 s)) _ p e in
    pool_parts s h.0 p (result_some (hash_of 28 s) h.0 h.1) (same_Some _ _ h.2)
