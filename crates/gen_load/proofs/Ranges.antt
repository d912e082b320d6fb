-- Numbers in a row, the first of them apart.
use Rattle.std.proofs.Common.{◌≡◌, ℕ, ◌+◌, ◌-◌, ◌<◌, zero, suc, List, [], ◌∷◌, ◌++◌, flat_map, sum_by, ap, append_assoc, arith, sym, ◌∙◌}
use Rattle.std.specs.List.{range_with_len}
use Rattle.std.proofs.lemmas.List.Sums.{sum_by-cons}

-- the first, and the others
pub range_first : (a b : ℕ) → a < b → range_with_len a (b - a) ≡ a ∷ range_with_len (a + 1) (b - (a + 1))
range_first a b below = let e : b - a ≡ suc (b - (a + 1)) = omega arith in ap (range_with_len a) e

-- a sum so far, and that of the numbers that are left
pub sum_first : (g : ℕ → ℕ) (a b s w total : ℕ) → a < b → w ≡ g a → s + sum_by g (range_with_len a (b - a)) ≡ total
    → (s + w) + sum_by g (range_with_len (a + 1) (b - (a + 1))) ≡ total
sum_first g a b s w total below is sofar =
    let first : sum_by g (range_with_len a (b - a)) ≡ g a + sum_by g (range_with_len (a + 1) (b - (a + 1))) = ap (sum_by g) (range_first a b below) ∙ sum_by-cons g a (range_with_len (a + 1) (b - (a + 1))) in
    omega (arith, first, is, sofar)

-- a sum of one number more
pub sum_last : (g : ℕ → ℕ) (a n : ℕ) → sum_by g (range_with_len a (n + 1)) ≡ sum_by g (range_with_len a n) + g (a + n)
sum_last g a zero =
    let here : g (a + 0) ≡ g a = ap g (omega arith) in
    omega (arith, sum_by-cons g a [], here)
sum_last g a (suc n) =
    let same : suc n + 1 ≡ suc (n + 1) = omega arith in
    let more : sum_by g (range_with_len a (suc n + 1)) ≡ g a + sum_by g (range_with_len (a + 1) (n + 1)) =
    ap (λ (m : ℕ). sum_by g (range_with_len a m)) same ∙ sum_by-cons g a (range_with_len (a + 1) (n + 1)) in
    let there : g ((a + 1) + n) ≡ g (a + suc n) = ap g (omega arith) in
    omega (arith, more, sum_last g (a + 1) n, sum_by-cons g a (range_with_len (a + 1) n), there)

-- bytes so far, and those of the numbers that are left
pub bytes_first : (f : ℕ → List ℕ) (a b : ℕ) (old new all : List ℕ) → a < b → new ≡ old ++ f a → old ++ flat_map f (range_with_len a (b - a)) ≡ all
    → new ++ flat_map f (range_with_len (a + 1) (b - (a + 1))) ≡ all
bytes_first f a b old new all below is sofar =
    let rest : List ℕ = flat_map f (range_with_len (a + 1) (b - (a + 1))) in
    ap (λ (l : List ℕ). l ++ rest) is
    ∙ append_assoc old (f a) rest
    ∙ ap (λ (l : List ℕ). old ++ flat_map f l) (sym (range_first a b below))
    ∙ sofar
