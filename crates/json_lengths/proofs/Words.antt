-- A number's bytes are none that end a word.
use Rattle.std.proofs.Common.{◌≡◌, ℕ, suc, ◌+◌, ◌≤◌, ◌==◌, Bool, true, false, cond, ◌||◌, List, [], ◌∷◌, ◌++◌, drop, Option, Some, None, option_and_then, refl, ap, sym, subst, ◌∙◌, arith, append_assoc, inl, inr}
use Rattle.std.specs.List.{AllByRecursion, prefix_len}
use Rattle.std.specs.Char.{is_ascii_digit}
use Rattle.std.proofs.lemmas.Bool.{and_parts, eqb-true, false≢true, leb-true, or_cases}
use Rattle.json.specs.Lex.{class, other}
use Rattle.json.specs.Word.{after_digits, after_exponent, after_fraction, after_minus, after_number, after_sign, after_whole}

-- the byte is passed over in a word
abbrev pub IsOther : ℕ → Type 0
IsOther x = class x ≡ other

-- what follows such bytes
pub record Follows (t rest : List ℕ) : Type 0 where
  pub front : List ℕ
  pub text : t ≡ front ++ rest
  pub others : AllByRecursion IsOther front

abbrev pub FollowsSome : List ℕ → Option (List ℕ) → Type 0
FollowsSome t None = Unit {0}
FollowsSome t (Some rest) = Follows t rest

itself : (t : List ℕ) → Follows t t
itself t = record { front = []; text = refl; others = tt }

one_more : (x : ℕ) (xs : List ℕ) → IsOther x → Follows (x ∷ xs) xs
one_more x xs h = record { front = x ∷ []; text = refl; others = (h, tt) }

all_both : (xs ys : List ℕ) → AllByRecursion IsOther xs → AllByRecursion IsOther ys → AllByRecursion IsOther (xs ++ ys)
all_both [] ys h k = k
all_both (x ∷ xs) ys h k = (h.0, all_both xs ys h.1 k)

on : (s t u : List ℕ) → Follows s t → Follows t u → Follows s u
on s t u f g = record {
  front = f.front ++ g.front;
  text = f.text ∙ ap (λ (r : List ℕ). f.front ++ r) g.text ∙ sym (append_assoc f.front g.front u);
  others = all_both f.front g.front f.others g.others;
}

on_some : (s t : List ℕ) (o : Option (List ℕ)) → Follows s t → FollowsSome t o → FollowsSome s o
on_some s t None f g = tt
on_some s t (Some u) f g = on s t u f g

then_some : (s : List ℕ) (o : Option (List ℕ)) (f : List ℕ → Option (List ℕ)) → FollowsSome s o → ((t : List ℕ) → FollowsSome t (f t)) → FollowsSome s (option_and_then f o)
then_some s None f h k = tt
then_some s (Some t) f h k = on_some s t (f t) h (k t)

-- ---- single bytes

digit_is : (x : ℕ) → is_ascii_digit x ≡ true → IsOther x
digit_is x h =
    let low : 48 ≤ x = leb-true 48 x (and_parts _ _ h).0 in
    let high : x ≤ 57 = leb-true x 57 (and_parts _ _ h).1 in
    grind (arith)

byte_is : (c x : ℕ) → (x == c) ≡ true → IsOther c → IsOther x
byte_is c x e h = subst (λ (y : ℕ). IsOther y) (sym (eqb-true x c e)) h

-- the first byte, if it is one that a space is not
dropped : (b : Bool) (t : List ℕ) → ((x : ℕ) (xs : List ℕ) → t ≡ x ∷ xs → b ≡ true → IsOther x) → (t ≡ [] → b ≡ false) → Follows t (cond b (drop 1 t) t)
dropped false t h e = itself t
dropped true [] h e = absurd (false≢true (sym (e refl)))
dropped true (x ∷ xs) h e = one_more x xs (h x xs refl refl)

minus_follows : (t : List ℕ) → Follows t (after_minus t)
minus_follows [] = itself []
minus_follows (x ∷ xs) = elim (x == 45) as (λ b. (x == 45) ≡ b → Follows (x ∷ xs) (cond b xs (x ∷ xs))) [
  | true ↦ λ e. one_more x xs (byte_is 45 x e refl)
  | false ↦ λ e. itself (x ∷ xs)
] refl

sign_follows : (t : List ℕ) → Follows t (after_sign t)
sign_follows [] = itself []
sign_follows (x ∷ xs) = elim ((x == 45) || (x == 43)) as (λ b. ((x == 45) || (x == 43)) ≡ b → Follows (x ∷ xs) (cond b xs (x ∷ xs))) [
  | true ↦ λ e. one_more x xs (elim (or_cases (x == 45) (x == 43) e) [ inl a ↦ byte_is 45 x a refl | inr a ↦ byte_is 43 x a refl ])
  | false ↦ λ e. itself (x ∷ xs)
] refl

-- ---- digits

run_follows : (t : List ℕ) → Follows t (drop (prefix_len is_ascii_digit t) t)
run_follows [] = itself []
run_follows (x ∷ xs) = elim (is_ascii_digit x) as (λ b. is_ascii_digit x ≡ b → Follows (x ∷ xs) (drop (cond b (1 + prefix_len is_ascii_digit xs) 0) (x ∷ xs))) [
  | true ↦ λ e.
      let n : ℕ = prefix_len is_ascii_digit xs in
      let next : 1 + n ≡ suc n = omega arith in
      subst (λ (k : ℕ). Follows (x ∷ xs) (drop k (x ∷ xs))) (sym next) (on (x ∷ xs) xs (drop n xs) (one_more x xs (digit_is x e)) (run_follows xs))
  | false ↦ λ e. itself (x ∷ xs)
] refl

digits_follow : (t : List ℕ) → FollowsSome t (after_digits t)
digits_follow t = elim (prefix_len is_ascii_digit t == 0) as (λ b. FollowsSome t (cond b None (Some (drop (prefix_len is_ascii_digit t) t)))) [
  | true ↦ tt
  | false ↦ run_follows t
]

whole_follows : (t : List ℕ) → FollowsSome t (after_whole t)
whole_follows [] = digits_follow []
whole_follows (x ∷ xs) = elim (x == 48) as (λ b. (x == 48) ≡ b → FollowsSome (x ∷ xs) (cond b (Some xs) (after_digits (x ∷ xs)))) [
  | true ↦ λ e. one_more x xs (byte_is 48 x e refl)
  | false ↦ λ e. digits_follow (x ∷ xs)
] refl

fraction_follows : (t : List ℕ) → FollowsSome t (after_fraction t)
fraction_follows [] = itself []
fraction_follows (x ∷ xs) = elim (x == 46) as (λ b. (x == 46) ≡ b → FollowsSome (x ∷ xs) (cond b (after_digits xs) (Some (x ∷ xs)))) [
  | true ↦ λ e. on_some (x ∷ xs) xs (after_digits xs) (one_more x xs (byte_is 46 x e refl)) (digits_follow xs)
  | false ↦ λ e. itself (x ∷ xs)
] refl

exponent_follows : (t : List ℕ) → FollowsSome t (after_exponent t)
exponent_follows [] = itself []
exponent_follows (x ∷ xs) = elim ((x == 101) || (x == 69)) as (λ b. ((x == 101) || (x == 69)) ≡ b → FollowsSome (x ∷ xs) (cond b (after_digits (after_sign xs)) (Some (x ∷ xs)))) [
  | true ↦ λ e.
      let first : IsOther x = elim (or_cases (x == 101) (x == 69) e) [ inl a ↦ byte_is 101 x a refl | inr a ↦ byte_is 69 x a refl ] in
      on_some (x ∷ xs) (after_sign xs) (after_digits (after_sign xs)) (on (x ∷ xs) xs (after_sign xs) (one_more x xs first) (sign_follows xs)) (digits_follow (after_sign xs))
  | false ↦ λ e. itself (x ∷ xs)
] refl

pub number_follows : (t : List ℕ) → FollowsSome t (after_number t)
unfolding after_number
number_follows t =
    then_some t _ after_exponent (then_some t _ after_fraction (on_some t (after_minus t) (after_whole (after_minus t)) (minus_follows t) (whole_follows (after_minus t))) fraction_follows) exponent_follows
