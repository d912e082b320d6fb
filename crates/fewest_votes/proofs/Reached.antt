-- A sum that stops at 64 bits reaches a threshold where the whole sum does.
use Rattle.std.proofs.Common.{◌≡◌, ℕ, ◌*◌, ◌-◌, ◌^◌, ◌<◌, ◌≤◌, ◌==◌, Bool, true, false, ◌&&◌, ◌||◌, min, nat_le, nat_lt, ap, sym, ◌∙◌, arith, ⊎_elim}
use Rattle.std.proofs.Math.Nat.{mul_comm, mul-le-mul_right}
use Rattle.std.proofs.lemmas.Bool.{cases_lt, false≢true, le-leb}
use Rattle.coin_frac.specs.Fraction.{Fraction}
use Rattle.coin_frac.specs.Reaches.{reaches}

-- the greatest number of 64 bits
abbrev pub most : ℕ
most = 2 ^ 64 - 1

-- a total of 64 bits, and a threshold of at most 1
pub record IsShare (total : ℕ) (t : Fraction) : Type 0 where
  pub within : total < 2 ^ 64
  pub share : t.num ≤ t.den

-- a part of the total's size or more reaches
enough : (n total : ℕ) (t : Fraction) → t.num ≤ t.den → total ≤ n → nat_le (t.num * total) (n * t.den) ≡ true
enough n total t share h =
    let a : t.num * total ≤ t.den * total = mul-le-mul_right total share in
    let b : total * t.den ≤ n * t.den = mul-le-mul_right t.den h in
    le-leb (t.num * total) (n * t.den) (omega (arith, a, b, mul_comm t.den total))

same_by : (m n total : ℕ) (t : Fraction) → nat_le (t.num * total) (m * t.den) ≡ nat_le (t.num * total) (n * t.den) → reaches m total t ≡ reaches n total t
same_by m n total t e = ap (λ (b : Bool). (t.num == 0) || (nat_lt 0 total && b)) e

pub stopped : (n total : ℕ) (t : Fraction) → IsShare total t → reaches (min n most) total t ≡ reaches n total t
stopped n total t is = ⊎_elim
    (λ (h : n < 2 ^ 64). ap (λ (m : ℕ). reaches m total t) (omega (arith, h)))
    (λ (h : 2 ^ 64 ≤ n). same_by (min n most) n total t
    (enough (min n most) total t is.share (omega (arith, h, is.within)) ∙ sym (enough n total t is.share (omega (arith, h, is.within)))))
    (cases_lt n (2 ^ 64))

-- what did not reach where more does is below the total
below : (m n total : ℕ) (t : Fraction) → t.num ≤ t.den → reaches m total t ≡ false → reaches n total t ≡ true → m < total
below m n total t share fails holds = ⊎_elim
    (λ (h : m < total). h)
    (λ (h : total ≤ m).
    elim (t.num == 0) as (λ b. (b || (nat_lt 0 total && nat_le (t.num * total) (m * t.den))) ≡ false → (b || (nat_lt 0 total && nat_le (t.num * total) (n * t.den))) ≡ true → m < total) [
      | true ↦ λ fails holds. absurd (false≢true (sym fails))
      | false ↦ λ fails holds. elim (nat_lt 0 total) as (λ b. (b && nat_le (t.num * total) (m * t.den)) ≡ false → (b && nat_le (t.num * total) (n * t.den)) ≡ true → m < total) [
        | true ↦ λ fails holds. absurd (false≢true (sym fails ∙ enough m total t share h))
        | false ↦ λ fails holds. absurd (false≢true holds)
      ] fails holds
    ] fails holds)
    (cases_lt m total)

-- where one more DRep reaches, the sum without it is whole
pub whole : (m n k total : ℕ) (t : Fraction) → IsShare total t → m ≡ min n most → reaches m total t ≡ false → reaches k total t ≡ true → m ≡ n
whole m n k total t is e fails holds = omega (arith, e, below m k total t is.share fails holds, is.within)
