-- The texts of ids have no quotes and no backslashes.
use Rattle.std.proofs.Common.{◌≡◌, ◌≢◌, ℕ, zero, suc, ◌-◌, ◌<◌, ◌≤◌, ◌^◌, ◌==◌, ◌&&◌, Bool, true, false, not, nat_le, nat_lt, if◌then◌else◌, List, [], ◌∷◌, ◌++◌, Some, None, codes, decimal, is_some, refl, ap, sym, arith, lit<, true≢false}
use Rattle.std.proofs.lemmas.Bool.{and_from, and_parts, leb-true, lt-ltb, ltb-true, ne_eqb}
use Rattle.std.specs.Char.{is_ascii_digit}
use Rattle.std.specs.List.{AllPass, list_all}
use Rattle.hex.specs.Hex.{is_hex_digit}
use Rattle.gov_ids.specs.declared.Account.{Account}
use Rattle.gov_ids.specs.declared.ActionId.{ActionId}
use Rattle.gov_ids.specs.declared.CredKind.{CredKind}
use Rattle.gov_ids.specs.declared.CredKind.TheVariants.{Key, Script}
use Rattle.gov_ids.specs.declared.Credential.{Credential}
use Rattle.gov_ids.specs.Spelling.{account_text, action_id_text, credential_text, hash_text, kind_text}
use Rattle.gov_ids.proofs.HashLemmas.{hash_of_ok}
use Rattle.gov_ids.proofs.HexCase.{hash_of-hash_text}
use Rattle.text_forms.specs.Ids.{is_account_id, is_action_id, is_credential, is_hash, is_tx_id, is_u16}
use Rattle.tx_records.specs.Limits.{is_network}
use Rattle.book_kinds.proofs.Fields.{hash_from, ok_of}
use Rattle.action_kinds.proofs.Trees.{digits_of, is_quiet}

abbrev pub are_quiet : List ℕ → Bool
are_quiet t = list_all is_quiet t

quiet_byte : (b : ℕ) → 34 < b → b < 127 → b ≢ 92 → is_quiet b ≡ true
quiet_byte b low high other = and_from (nat_lt 34 b && nat_lt b 127) (not (b == 92)) (and_from (nat_lt 34 b) (nat_lt b 127) (lt-ltb 34 b low) (lt-ltb b 127 high)) (ap not (ne_eqb b 92 other))

pub quiet_both : (xs ys : List ℕ) → are_quiet xs ≡ true → are_quiet ys ≡ true → are_quiet (xs ++ ys) ≡ true
quiet_both [] ys p q = q
quiet_both (x ∷ xs) ys p q =
    let both = and_parts (is_quiet x) (are_quiet xs) p in
    and_from (is_quiet x) (are_quiet (xs ++ ys)) both.0 (quiet_both xs ys both.1 q)

-- ---- digits

within : (low b high : ℕ) → (nat_le low b && nat_le b high) ≡ true → 34 < low → high < 127 → (b ≡ 92 → ⊥) → is_quiet b ≡ true
within low b high p l h other =
    let both = and_parts (nat_le low b) (nat_le b high) p in
    let from : low ≤ b = leb-true low b both.0 in
    let to : b ≤ high = leb-true b high both.1 in
    quiet_byte b (omega (arith, from, l)) (omega (arith, to, h)) other

apart_below : (low b high : ℕ) → (nat_le low b && nat_le b high) ≡ true → high < 92 → b ≡ 92 → ⊥
apart_below low b high p h e = let to : b ≤ high = leb-true b high (and_parts (nat_le low b) (nat_le b high) p).1 in omega (arith, to, h, e)

apart_above : (low b high : ℕ) → (nat_le low b && nat_le b high) ≡ true → 92 < low → b ≡ 92 → ⊥
apart_above low b high p l e = let from : low ≤ b = leb-true low b (and_parts (nat_le low b) (nat_le b high) p).0 in omega (arith, from, l, e)

digits_quiet : (t : List ℕ) → list_all is_ascii_digit t ≡ true → are_quiet t ≡ true
digits_quiet [] p = refl
digits_quiet (b ∷ bs) p =
    let both = and_parts (is_ascii_digit b) (list_all is_ascii_digit bs) p in
    and_from (is_quiet b) (are_quiet bs) (within 48 b 57 both.0 (lit< tt) (lit< tt) (apart_below 48 b 57 both.0 (lit< tt))) (digits_quiet bs both.1)

pub number_quiet : (n : ℕ) → n < 2 ^ 64 → are_quiet (decimal n) ≡ true
number_quiet n small = digits_quiet (decimal n) (digits_of n small)

hex_quiet_by : (b : ℕ) (u l d : Bool) → (nat_le 65 b && nat_le b 70) ≡ u → (nat_le 97 b && nat_le b 102) ≡ l → (nat_le 48 b && nat_le b 57) ≡ d
    → is_some (if u then Some (b - 55) else if l then Some (b - 87) else if d then Some (b - 48) else None) ≡ true → is_quiet b ≡ true
hex_quiet_by b true l d e f g p = within 65 b 70 e (lit< tt) (lit< tt) (apart_below 65 b 70 e (lit< tt))
hex_quiet_by b false true d e f g p = within 97 b 102 f (lit< tt) (lit< tt) (apart_above 97 b 102 f (lit< tt))
hex_quiet_by b false false true e f g p = within 48 b 57 g (lit< tt) (lit< tt) (apart_below 48 b 57 g (lit< tt))
hex_quiet_by b false false false e f g p = absurd (true≢false (sym p))

hex_quiet : (b : ℕ) → is_hex_digit b ≡ true → is_quiet b ≡ true
hex_quiet b p = hex_quiet_by b (nat_le 65 b && nat_le b 70) (nat_le 97 b && nat_le b 102) (nat_le 48 b && nat_le b 57) refl refl refl p

all_quiet : (t : List ℕ) → AllPass is_hex_digit t → are_quiet t ≡ true
all_quiet [] p = refl
all_quiet (b ∷ bs) p = and_from (is_quiet b) (are_quiet bs) (hex_quiet b (p zero 0 (omega arith))) (all_quiet bs (λ i d less. p (suc i) d (omega (arith, less))))

-- ---- ids

pub hash_quiet : (n : ℕ) (h : List ℕ) → is_hash n h ≡ true → are_quiet (hash_text h) ≡ true
hash_quiet n h p = all_quiet (hash_text h) ((hash_of_ok n (hash_text h)).0 (ok_of _ h (hash_of-hash_text n h (hash_from n h p)))).1

kind_quiet : (k : CredKind) → are_quiet (kind_text k) ≡ true
kind_quiet Key = refl
kind_quiet Script = refl

pub credential_quiet : (c : Credential) → is_credential c ≡ true → are_quiet (credential_text c) ≡ true
credential_quiet c p = quiet_both (kind_text c.kind) (hash_text c.hash) (kind_quiet c.kind) (hash_quiet 28 c.hash p)

pub account_quiet : (a : Account) → is_account_id a ≡ true → are_quiet (account_text a) ≡ true
account_quiet a p =
    let both = and_parts (is_network a.network) (is_credential a.cred) p in
    let small : a.network < 2 = ltb-true a.network 2 both.0 in
    quiet_both (decimal a.network) (credential_text a.cred) (number_quiet a.network (omega (arith, small))) (credential_quiet a.cred both.1)

pub action_id_quiet : (a : ActionId) → is_action_id a ≡ true → are_quiet (action_id_text a) ≡ true
action_id_quiet a p =
    let both = and_parts (is_tx_id a.tx) (is_u16 a.index) p in
    let small : a.index < 2 ^ 16 = ltb-true a.index (2 ^ 16) both.1 in
    quiet_both (hash_text a.tx.0 ++ codes "#") (decimal a.index) (quiet_both (hash_text a.tx.0) (codes "#") (hash_quiet 32 a.tx.0 both.0) refl) (number_quiet a.index (omega (arith, small)))
