-- Texts that are too short, and numbers that grow too large.
use Rattle.std.proofs.Common.{◌≡◌, ℕ, ◌+◌, ◌*◌, ◌<◌, ◌≤◌, List, [], ◌∷◌, length, take, drop, slice_index, drop-cons, suc, Bool, true, false, ◌&&◌, if◌then◌else◌, nat_lt, Option, Some, None, option_and_then, Err, refl, arith, rules}
use Rattle.std.proofs.lemmas.List.{drop_all, length-take}
use Rattle.std.specs.Char.{digit_value}
use Rattle.std.specs.Str.{all_ascii_digits}
use Rattle.std.specs.Str.Parse.{digits_value, digits_value_after}
use Rattle.gov_ids.proofs.HashLemmas.{hash_of_short}
use Rattle.gov_ids.specs.declared.IdFault.TheVariants.{BadLength}
use Rattle.gov_ids.specs.Spelling.{hash_of, kind_of, credential_of, ref_of, action_id_of, address_of, network_of, number_of}

-- 64 digits are wanted
cut_hash : (s : List ℕ) → length s < 64 → hash_of 32 (take 64 s) ≡ Err BadLength
cut_hash s short = hash_of_short 32 (take 64 s) (simp length-take (omega arith))

pub ref_of_short : (s : List ℕ) → length s < 64 → ref_of s ≡ None
ref_of_short s short = let e = cut_hash s short in grind (arith)

pub action_id_of_short : (s : List ℕ) → length s < 64 → action_id_of s ≡ None
action_id_of_short s short = let e = cut_hash s short in grind (arith)

-- a reader whose next step fails
pub never : {A B : Type 0} (o : Option A) → option_and_then {T = A} {U = B} (λ x. None) o ≡ None
never None = refl
never (Some x) = refl

-- the number only grows
pub digits_value_after_ge : (n : ℕ) (ds : List ℕ) → n ≤ digits_value_after 10 n ds
digits_value_after_ge n [] = omega arith
digits_value_after_ge n (d ∷ ds) = let h = digits_value_after_ge (n * 10 + digit_value d) ds in omega arith

-- whatever the digits
refused : (b : Bool) (v : ℕ) → 65536 ≤ v → (if b && nat_lt v 65536 then Some v else None) ≡ None
refused true v large = grind (arith)
refused false v large = refl

-- a number that has grown too large stays so
pub number_of_large : (ds : List ℕ) (i n : ℕ) → i < length ds → 65536 ≤ n * 10 + digit_value (slice_index ds i)
    → digits_value_after 10 n (drop i ds) ≡ digits_value 10 ds → number_of ds ≡ None
number_of_large ds i n within large e =
    let next = digits_value_after_ge (n * 10 + digit_value (slice_index ds i)) (drop (suc i) ds) in
    let same : digits_value_after 10 (n * 10 + digit_value (slice_index ds i)) (drop (suc i) ds) ≡ digits_value 10 ds = rw (drop-cons ds i 0 within) at e in
    let over : 65536 ≤ digits_value 10 ds = omega (arith, next, same) in
    refused (all_ascii_digits ds) (digits_value 10 ds) over

-- all digits are read
pub number_of_all : (ds : List ℕ) (i n : ℕ) → length ds ≤ i → n < 65536
    → all_ascii_digits (drop i ds) ≡ all_ascii_digits ds
    → digits_value_after 10 n (drop i ds) ≡ digits_value 10 ds → number_of ds ≡ Some n
number_of_all ds i n past small digits e =
    let none = drop_all i ds past in
    let digits' : true ≡ all_ascii_digits ds = rw none at digits in
    let e' : n ≡ digits_value 10 ds = rw none at e in
    rw (← digits', ← e') (let t : nat_lt n 65536 ≡ true = search rules in rw t refl)

-- a credential has 57 bytes
credential_of_short : (s : List ℕ) → length s < 57 → credential_of s ≡ None
credential_of_short [] short = refl
credential_of_short (letter ∷ digits) short =
    let e = hash_of_short 28 digits (omega arith) in
    rw e (never (kind_of letter))

pub address_of_short : (digit : ℕ) (rest : List ℕ) → length rest < 57 → address_of (digit ∷ rest) ≡ None
address_of_short digit rest short =
    let e = credential_of_short (take 57 rest) (simp length-take (omega arith)) in
    rw e (never (network_of digit))
