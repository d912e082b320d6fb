-- Fractions as they are read: two numbers with a slash between them.
use Rattle.std.proofs.Common.{◌≡◌, ◌≢◌, ℕ, zero, suc, ◌<◌, ◌≤◌, ◌^◌, ◌==◌, ◌++◌, Bool, true, false, ◌&&◌, if◌then◌else◌, nat_le, nat_lt, Bor, [], ◌∷◌, Option, Some, None, IfSome, codes, decimal, get_or, length, option_map, refl, ap, sym, ◌∙◌, arith, lit<}
use Rattle.std.proofs.lemmas.Bool.{and_from, eq-eqb, and_parts, leb-true, lt-ltb, ltb-true, ne_eqb}
use Rattle.std.proofs.lemmas.Fmt.{digits_decimal}
use Rattle.std.proofs.lemmas.List.{append_assoc}
use Rattle.std.proofs.lemmas.Str.Pattern.{IsSplitOnceResult, split_parts}
use Rattle.std.specs.Char.{is_ascii_digit}
use Rattle.std.specs.List.{list_all}
use Rattle.coin_frac.specs.Fraction.{Fraction, fraction}
use Rattle.text_forms.specs.Ids.{is_unit}
use Rattle.text_model.specs.Words.{Text, share_text}
use Rattle.tx_records.specs.Limits.{is_share, is_u64}
use Rattle.line_kinds.specs.Cuts.{is_plain}
use Rattle.line_kinds.specs.Numbers.{number_of}
use Rattle.book_kinds.specs.Pools.{halves, unit_of}
use Rattle.book_kinds.proofs.Fields.{IsField, number_field, number_small, own, plain_both, then_formed}

-- ---- halves

-- a text is cut at the first such byte
pub halves_cut : (sign : ℕ) (xs ys : Text) → ((i : ℕ) → i < length xs → get_or xs i 0 ≢ sign) → halves sign (xs ++ sign ∷ ys) ≡ Some (xs, ys)
halves_cut sign [] ys none = rw (eq-eqb sign sign refl) refl
halves_cut sign (b ∷ bs) ys none =
    let here : (b == sign) ≡ false = ne_eqb b sign (none 0 (omega arith)) in
    let later = halves_cut sign bs ys (λ i less. none (suc i) (omega (arith, less))) in
    rw (here, later) refl

-- one without it is not
pub halves_none : (sign : ℕ) (xs : Text) → ((i : ℕ) → i < length xs → get_or xs i 0 ≢ sign) → halves sign xs ≡ None
halves_none sign [] none = refl
halves_none sign (b ∷ bs) none =
    let here : (b == sign) ≡ false = ne_eqb b sign (none 0 (omega arith)) in
    let later = halves_none sign bs (λ i less. none (suc i) (omega (arith, less))) in
    rw (here, later) refl

-- digits have no byte below them
pub digits_free : (sign : ℕ) (xs : Text) → sign < 48 → list_all is_ascii_digit xs ≡ true → (i : ℕ) → i < length xs → get_or xs i 0 ≢ sign
digits_free sign [] small p i less = absurd (omega (arith, less))
digits_free sign (b ∷ bs) small p zero less =
    let low : 48 ≤ b = leb-true 48 b (and_parts (nat_le 48 b) (nat_le b 57) (and_parts (is_ascii_digit b) (list_all is_ascii_digit bs) p).0).0 in
    λ e. omega (arith, low, small, e)
digits_free sign (b ∷ bs) small p (suc i) less = digits_free sign bs small (and_parts (is_ascii_digit b) (list_all is_ascii_digit bs) p).1 i (omega (arith, less))

-- ---- fractions

unit_parts : (s : Fraction) → is_unit s ≡ true → (nat_lt 0 s.den ≡ true) × (nat_le s.num s.den ≡ true) × (is_u64 s.num ≡ true) × (is_u64 s.den ≡ true)
unit_parts s p =
    let two = and_parts (is_share s) (is_u64 s.den) p in
    let share = and_parts (nat_lt 0 s.den) (nat_le s.num s.den) two.0 in
    let below : s.num ≤ s.den = leb-true s.num s.den share.1 in
    let small : s.den < 2 ^ 64 = ltb-true s.den (2 ^ 64) two.1 in
    let few : s.num < 2 ^ 64 = omega (arith, below, small) in
    (share.0, share.1, lt-ltb s.num (2 ^ 64) few, two.1)

unit_plain : (s : Fraction) → is_unit s ≡ true → is_plain (share_text s) ≡ true
unit_plain s p =
    let is = unit_parts s p in
    plain_both (decimal s.num ++ codes "/") (decimal s.den) (plain_both (decimal s.num) (codes "/") (number_field.plain s.num is.2) refl) (number_field.plain s.den is.3)

unit_back : (s : Fraction) → is_unit s ≡ true → unit_of (share_text s) ≡ Some s
unit_back s p =
    let is = unit_parts s p in
    let cut : halves 47 (share_text s) ≡ Some (decimal s.num, decimal s.den) =
    ap (halves 47) (append_assoc (decimal s.num) (codes "/") (decimal s.den)) ∙ halves_cut 47 (decimal s.num) (decimal s.den) (digits_free 47 (decimal s.num) (lit< tt) (digits_decimal own s.num (number_small s.num is.2))) in
    rw (cut, number_field.back s.num is.2, number_field.back s.den is.3, is.0, is.1) refl

-- what is made of two numbers
made : (n d : ℕ) (is : Bool) → (nat_lt 0 d && nat_le n d) ≡ is → is_u64 d ≡ true → IfSome (if is then Some (fraction n d) else None) (λ s. is_unit s ≡ true)
made n d true e p = and_from (nat_lt 0 d && nat_le n d) (is_u64 d) e p
made n d false e p = tt

pub any_halves : (o : Option (Text × Text)) → IfSome o (λ h. true ≡ true)
any_halves None = tt
any_halves (Some h) = refl

unit_formed : (t : Text) → IfSome (unit_of t) (λ s. is_unit s ≡ true)
unit_formed t =
    then_formed (λ h. true ≡ true) (λ s. is_unit s ≡ true) (halves 47 t) _ (any_halves (halves 47 t)) (λ h u.
    then_formed (λ n. is_u64 n ≡ true) (λ s. is_unit s ≡ true) (number_of h.0) _ (number_field.formed h.0) (λ n p.
    then_formed (λ d. is_u64 d ≡ true) (λ s. is_unit s ≡ true) (number_of h.1) _ (number_field.formed h.1) (λ d q. made n d (nat_lt 0 d && nat_le n d) refl q)))

pub unit_field : IsField is_unit share_text unit_of
unit_field = record { plain = unit_plain; formed = unit_formed; back = unit_back }

-- ---- the call that cuts

-- what `split_once` returns are the halves
pub halves_of_split : (sign : ℕ) (t : Text) (r : Option (Bor Text × Bor Text)) → sign < 128 → IsSplitOnceResult sign t r → option_map (λ (p : Bor Text × Bor Text). (p.0.now, p.1.now)) r ≡ halves sign t
halves_of_split sign t None small is = sym (halves_none sign t (split_parts sign t None is small))
halves_of_split sign t (Some p) small is = let parts = split_parts sign t (Some p) is small in sym (ap (halves sign) parts.0 ∙ halves_cut sign p.0.now p.1.now parts.1)
