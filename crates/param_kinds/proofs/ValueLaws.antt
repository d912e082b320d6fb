-- The laws of the values of parameters.
use Rattle.std.proofs.Common.{◌≡◌, ℕ, zero, suc, ◌+◌, ◌<◌, ◌≤◌, ◌^◌, ◌==◌, ◌++◌, Bool, true, false, ◌&&◌, if◌then◌else◌, nat_le, nat_lt, List, [], ◌∷◌, Option, Some, None, IfSome, codes, decimal, length, refl, ap, sym, ◌∙◌, subst, arith, lit<, eqb-true, eq-eqb}
use Rattle.std.proofs.lemmas.Bool.{and_from, and_parts, le-leb, lt-ltb, ltb-true}
use Rattle.std.proofs.lemmas.Fmt.{digits_decimal}
use Rattle.std.proofs.lemmas.List.{append_assoc, length-append, length-map}
use Rattle.std.specs.List.{list_all}
use Rattle.coin_frac.specs.Fraction.{Fraction, fraction}
use Rattle.gov_ids.specs.Spelling.{◌>>=◌}
use Rattle.text_forms.specs.Ids.{are_units, is_ratio, is_unit}
use Rattle.text_model.specs.ParamLines.{shares}
use Rattle.text_model.specs.Words.{Text, share_text}
use Rattle.tx_records.specs.Limits.{is_u64}
use Rattle.line_kinds.specs.Cuts.{are_plain, is_plain, word_at}
use Rattle.line_kinds.specs.Numbers.{number_of}
use Rattle.book_kinds.specs.Pools.{halves, unit_of}
use Rattle.book_kinds.proofs.Fields.{IsField, number_field, number_small, own, plain_both, then_formed}
use Rattle.book_kinds.proofs.Shares.{any_halves, digits_free, halves_cut, unit_field}
use Rattle.param_kinds.specs.Values.{ratio_of, units_from, units_in}

-- ---- numbers below a bound

small_made : (bound n : ℕ) (is : Bool) → nat_lt n bound ≡ is → IfSome (if is then Some n else None) (λ n. nat_lt n bound ≡ true)
small_made bound n true e = e
small_made bound n false e = tt

wide : (bound : ℕ) → bound ≤ 2 ^ 64 → (n : ℕ) → nat_lt n bound ≡ true → is_u64 n ≡ true
wide bound most n p = let small : n < bound = ltb-true n bound p in lt-ltb n (2 ^ 64) (omega (arith, small, most))

pub small_field : (bound : ℕ) → bound ≤ 2 ^ 64 → IsField (λ n. nat_lt n bound) decimal (λ t. number_of t >>= λ n. if nat_lt n bound then Some n else None)
small_field bound most = record {
  plain = λ n p. number_field.plain n (wide bound most n p);
  formed = λ t. then_formed (λ n. is_u64 n ≡ true) (λ n. nat_lt n bound ≡ true) (number_of t) _ (number_field.formed t) (λ n q. small_made bound n (nat_lt n bound) refl);
  back = λ n p. rw (number_field.back n (wide bound most n p), p) refl;
}

-- ---- any fraction

ratio_parts : (s : Fraction) → is_ratio s ≡ true → (nat_lt 0 s.den ≡ true) × (is_u64 s.num ≡ true) × (is_u64 s.den ≡ true)
ratio_parts s p =
    let two = and_parts (nat_lt 0 s.den && is_u64 s.num) (is_u64 s.den) p in
    let one = and_parts (nat_lt 0 s.den) (is_u64 s.num) two.0 in
    (one.0, one.1, two.1)

ratio_plain : (s : Fraction) → is_ratio s ≡ true → is_plain (share_text s) ≡ true
ratio_plain s p =
    let is = ratio_parts s p in
    plain_both (decimal s.num ++ codes "/") (decimal s.den) (plain_both (decimal s.num) (codes "/") (number_field.plain s.num is.1) refl) (number_field.plain s.den is.2)

ratio_back : (s : Fraction) → is_ratio s ≡ true → ratio_of (share_text s) ≡ Some s
ratio_back s p =
    let is = ratio_parts s p in
    let cut : halves 47 (share_text s) ≡ Some (decimal s.num, decimal s.den) =
    ap (halves 47) (append_assoc (decimal s.num) (codes "/") (decimal s.den)) ∙ halves_cut 47 (decimal s.num) (decimal s.den) (digits_free 47 (decimal s.num) (lit< tt) (digits_decimal own s.num (number_small s.num is.1))) in
    rw (cut, number_field.back s.num is.1, number_field.back s.den is.2, is.0) refl

ratio_made : (n d : ℕ) (is : Bool) → nat_lt 0 d ≡ is → is_u64 n ≡ true → is_u64 d ≡ true → IfSome (if is then Some (fraction n d) else None) (λ s. is_ratio s ≡ true)
ratio_made n d true e p q = and_from (nat_lt 0 d && is_u64 n) (is_u64 d) (and_from (nat_lt 0 d) (is_u64 n) e p) q
ratio_made n d false e p q = tt

ratio_formed : (t : Text) → IfSome (ratio_of t) (λ s. is_ratio s ≡ true)
ratio_formed t =
    then_formed (λ h. true ≡ true) (λ s. is_ratio s ≡ true) (halves 47 t) _ (any_halves (halves 47 t)) (λ h u.
    then_formed (λ n. is_u64 n ≡ true) (λ s. is_ratio s ≡ true) (number_of h.0) _ (number_field.formed h.0) (λ n p.
    then_formed (λ d. is_u64 d ≡ true) (λ s. is_ratio s ≡ true) (number_of h.1) _ (number_field.formed h.1) (λ d q. ratio_made n d (nat_lt 0 d) refl p q)))

pub ratio_field : IsField is_ratio share_text ratio_of
ratio_field = record { plain = ratio_plain; formed = ratio_formed; back = ratio_back }

-- ---- values of one word, and of two

pub one_plain : {A : Type 0} {form : A → Bool} {text : A → Text} {reading : Text → Option A} → IsField form text reading → (x : A) → form x ≡ true → are_plain (text x ∷ []) ≡ true
one_plain field x p = rw (field.plain x p) refl

abbrev two_in : {A B : Type 0} → (Text → Option A) → (Text → Option B) → List Text → Option (A × B)
two_in r s ws = r (word_at 0 ws) >>= λ a. s (word_at 1 ws) >>= λ b. Some (a, b)

module _ {A B : Type 0} {f : A → Bool} {g : B → Bool} {t : A → Text} {u : B → Text} {r : Text → Option A} {s : Text → Option B} (first : IsField f t r) (second : IsField g u s) where
  pub two_plain : (x : A × B) → (f x.0 && g x.1) ≡ true → are_plain (t x.0 ∷ u x.1 ∷ []) ≡ true
  two_plain x p = let both = and_parts (f x.0) (g x.1) p in rw (first.plain x.0 both.0, second.plain x.1 both.1) refl

  pub two_formed : (ws : List Text) → IfSome (two_in r s ws) (λ x. (f x.0 && g x.1) ≡ true)
  two_formed ws =
      then_formed (λ a. f a ≡ true) (λ x. (f x.0 && g x.1) ≡ true) (r (word_at 0 ws)) _ (first.formed (word_at 0 ws)) (λ a p.
      then_formed (λ b. g b ≡ true) (λ x. (f x.0 && g x.1) ≡ true) (s (word_at 1 ws)) _ (second.formed (word_at 1 ws)) (λ b q. and_from (f a) (g b) p q))

  pub two_back : (x : A × B) → (f x.0 && g x.1) ≡ true → two_in r s (t x.0 ∷ u x.1 ∷ []) ≡ Some x
  two_back x p = let both = and_parts (f x.0) (g x.1) p in rw (first.back x.0 both.0, second.back x.1 both.1) refl

-- ---- values of several fractions

record AreUnits (n : ℕ) (us : List Fraction) : Type 0 where
  many : length us ≡ n
  each : list_all is_unit us ≡ true

units_formed_from : (n place : ℕ) (ws : List Text) → IfSome (units_from n place ws) (AreUnits n)
units_formed_from zero place ws = record { many = refl; each = refl }
units_formed_from (suc n) place ws =
    then_formed (λ u. is_unit u ≡ true) (AreUnits (suc n)) (unit_of (word_at place ws)) _ (unit_field.formed (word_at place ws)) (λ u p.
    then_formed (AreUnits n) (AreUnits (suc n)) (units_from n (place + 1) ws) _ (units_formed_from n (place + 1) ws) (λ us q.
    record { many = ap suc q.many; each = and_from (is_unit u) (list_all is_unit us) p q.each }))

are_units_by : (n : ℕ) (o : Option (List Fraction)) → IfSome o (AreUnits n) → IfSome o (λ us. are_units n us ≡ true)
are_units_by n None p = tt
are_units_by n (Some us) p = and_from (length us == n) (list_all is_unit us) (eq-eqb (length us) n p.many) p.each

pub units_formed : (n : ℕ) (ws : List Text) → IfSome (units_in n ws) (λ us. are_units n us ≡ true)
units_formed n ws = are_units_by n (units_in n ws) (units_formed_from n 0 ws)

shares_plain : (us : List Fraction) → list_all is_unit us ≡ true → list_all is_plain (shares us) ≡ true
shares_plain [] p = refl
shares_plain (u ∷ us) p =
    let both = and_parts (is_unit u) (list_all is_unit us) p in
    and_from (is_plain (share_text u)) (list_all is_plain (shares us)) (unit_field.plain u both.0) (shares_plain us both.1)

some_plain : (n : ℕ) (us : List Fraction) → length us ≡ n → 1 ≤ n → n ≤ 20 → list_all is_plain (shares us) ≡ true → are_plain (shares us) ≡ true
some_plain n [] e some few p = absurd (omega (arith, e, some))
some_plain n (u ∷ us) e some few p =
    let short : length (shares (u ∷ us)) ≤ 20 = omega (arith, length-map us share_text, e, few) in
    and_from (nat_le (length (shares (u ∷ us))) 20) (list_all is_plain (shares (u ∷ us))) (le-leb (length (shares (u ∷ us))) 20 short) p

pub units_plain : (n : ℕ) → 1 ≤ n → n ≤ 20 → (us : List Fraction) → are_units n us ≡ true → are_plain (shares us) ≡ true
units_plain n some few us p =
    let both = and_parts (length us == n) (list_all is_unit us) p in
    some_plain n us (eqb-true (length us) n both.0) some few (shares_plain us both.1)

word_after : (before rest : List Fraction) (u : Fraction) → word_at (length before) (shares (before ++ u ∷ rest)) ≡ share_text u
word_after [] rest u = refl
word_after (b ∷ bs) rest u = word_after bs rest u

units_back_from : (before us : List Fraction) → list_all is_unit us ≡ true → units_from (length us) (length before) (shares (before ++ us)) ≡ Some us
units_back_from before [] p = refl
units_back_from before (u ∷ us) p =
    let both = and_parts (is_unit u) (list_all is_unit us) p in
    let word : word_at (length before) (shares (before ++ u ∷ us)) ≡ share_text u = word_after before us u in
    let next : units_from (length us) (length (before ++ u ∷ [])) (shares ((before ++ u ∷ []) ++ us)) ≡ Some us = units_back_from (before ++ u ∷ []) us both.1 in
    let place : length before + 1 ≡ length (before ++ u ∷ []) = omega (arith, length-append before (u ∷ [])) in
    let later : units_from (length us) (length before + 1) (shares (before ++ u ∷ us)) ≡ Some us =
    ap (λ (i : ℕ). units_from (length us) i (shares (before ++ u ∷ us))) place
    ∙ ap (λ (l : List Fraction). units_from (length us) (length (before ++ u ∷ [])) (shares l)) (sym (append_assoc before (u ∷ []) us))
    ∙ next in
    rw (word, unit_field.back u both.0, later) refl

pub units_back : (n : ℕ) (us : List Fraction) → are_units n us ≡ true → units_in n (shares us) ≡ Some us
units_back n us p =
    let both = and_parts (length us == n) (list_all is_unit us) p in
    subst (λ (m : ℕ). units_in m (shares us) ≡ Some us) (eqb-true (length us) n both.0) (units_back_from [] us both.1)
