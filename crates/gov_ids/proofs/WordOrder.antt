-- The order of bytes, by the numbers that eight of them spell.
use Rattle.std.proofs.Common.{◌≡◌, ◌≢◌, ℕ, ◌+◌, ◌*◌, ◌≤◌, ◌<◌, zero, suc, List, [], ◌∷◌, length, take, drop, get_or, refl, sym, ap, subst, ◌∙◌, arith}
use Rattle.std.proofs.Math.ListN.{drop_of_length-le, length-drop}
use Rattle.std.proofs.lemmas.List.{drop-drop, get_or-drop}
use Rattle.std.specs.declared.cmp.Ordering.{Ordering}
use Rattle.std.specs.declared.cmp.Ordering.TheVariants.{Less, Equal, Greater}
use Rattle.std.specs.Ordering.{MatchOrdering, nat_cmp, ordering_then}
use Rattle.std.specs.Cmp.{nat_cmp_is, ranks}
use Rattle.std.specs.Cmp.Lexicographic.{slice_cmp}
use Rattle.gov_ids.specs.Words.{spelled_after, number_at}

abbrev AreBytes : List ℕ → Type 0
AreBytes xs = (k : ℕ) → get_or xs k 0 < 256

level : (x : ℕ) → nat_cmp x x ≡ Equal
level x = sym (nat_cmp_is x x Equal refl)

rises : (n a b : ℕ) (us vs : List ℕ) → n ≤ length us → n ≤ length vs → AreBytes us → a < b → spelled_after a (take n us) < spelled_after b (take n vs)
rises zero a b us vs p q h l = l
rises (suc n) a b [] vs p q h l = absurd (omega arith)
rises (suc n) a b (u ∷ us) [] p q h l = absurd (omega arith)
rises (suc n) a b (u ∷ us) (v ∷ vs) p q h l =
    let small : u < 256 = h 0 in
    rises n (a * 256 + u) (b * 256 + v) us vs (omega arith) (omega arith) (λ k. h (suc k)) (omega arith)

-- the first n bytes decide as the number that they spell, and else what follows decides
by_number : (n a : ℕ) (us vs : List ℕ) → n ≤ length us → n ≤ length vs → AreBytes us → AreBytes vs
    → slice_cmp nat_cmp us vs ≡ ordering_then (nat_cmp (spelled_after a (take n us)) (spelled_after a (take n vs))) (slice_cmp nat_cmp (drop n us) (drop n vs))
by_number zero a us vs p q g h = ap (λ (o : Ordering). ordering_then o (slice_cmp nat_cmp us vs)) (sym (level a))
by_number (suc n) a [] vs p q g h = absurd (omega arith)
by_number (suc n) a (u ∷ us) [] p q g h = absurd (omega arith)
by_number (suc n) a (u ∷ us) (v ∷ vs) p q g h =
    by (by_number n (a * 256 + u) us vs (omega arith) (omega arith) (λ k. g (suc k)) (λ k. h (suc k))) (nat_cmp u v) refl (ranks u v)
  where
    by : slice_cmp nat_cmp us vs ≡ ordering_then (nat_cmp (spelled_after (a * 256 + u) (take n us)) (spelled_after (a * 256 + u) (take n vs))) (slice_cmp nat_cmp (drop n us) (drop n vs))
        → (r : Ordering) → nat_cmp u v ≡ r → MatchOrdering r (u < v) (u ≡ v) (v < u)
        → slice_cmp nat_cmp (u ∷ us) (v ∷ vs) ≡ ordering_then (nat_cmp (spelled_after (a * 256 + u) (take n us)) (spelled_after (a * 256 + v) (take n vs))) (slice_cmp nat_cmp (drop n us) (drop n vs))
    by rest Less e l =
        let under : u < v = l in
        let t = rises n (a * 256 + u) (a * 256 + v) us vs (omega arith) (omega arith) (λ k. g (suc k)) (omega arith) in
        ap (λ (o : Ordering). ordering_then o (slice_cmp nat_cmp us vs)) e
        ∙ ap (λ (o : Ordering). ordering_then o (slice_cmp nat_cmp (drop n us) (drop n vs))) (nat_cmp_is _ _ Less t)
    by rest Greater e l =
        let over : v < u = l in
        let t = rises n (a * 256 + v) (a * 256 + u) vs us (omega arith) (omega arith) (λ k. h (suc k)) (omega arith) in
        ap (λ (o : Ordering). ordering_then o (slice_cmp nat_cmp us vs)) e
        ∙ ap (λ (o : Ordering). ordering_then o (slice_cmp nat_cmp (drop n us) (drop n vs))) (nat_cmp_is _ _ Greater t)
    by rest Equal e l =
        ap (λ (o : Ordering). ordering_then o (slice_cmp nat_cmp us vs)) e
        ∙ rest
        ∙ ap (λ (w : ℕ). ordering_then (nat_cmp (spelled_after (a * 256 + u) (take n us)) (spelled_after (a * 256 + w) (take n vs))) (slice_cmp nat_cmp (drop n us) (drop n vs))) l

stays : (x y : ℕ) (r o : Ordering) → MatchOrdering r (x < y) (x ≡ y) (y < x) → x ≢ y → ordering_then r o ≡ r
stays x y Less o h n = refl
stays x y Equal o h n = absurd (n h)
stays x y Greater o h n = refl

then_equal : (r : Ordering) → ordering_then r Equal ≡ r
then_equal Less = refl
then_equal Equal = refl
then_equal Greater = refl

module _ (xs ys : List ℕ) (bx : AreBytes xs) (by : AreBytes ys) where
  -- the bytes before the place i are the same
  abbrev pub FromPlace : ℕ → Type 0
  FromPlace i = slice_cmp nat_cmp xs ys ≡ slice_cmp nat_cmp (drop i xs) (drop i ys)

  module _ (k i : ℕ) (p : i + k ≤ length xs) (q : i + k ≤ length ys) (alike : FromPlace i) (x y : ℕ) (ex : x ≡ number_at k i xs) (ey : y ≡ number_at k i ys) where
    by_word : slice_cmp nat_cmp xs ys ≡ ordering_then (nat_cmp x y) (slice_cmp nat_cmp (drop (i + k) xs) (drop (i + k) ys))
    by_word =
        alike
        ∙ by_number k 0 (drop i xs) (drop i ys) (omega (arith, length-drop i xs)) (omega (arith, length-drop i ys))
        (λ j. subst (λ (b : ℕ). b < 256) (sym (get_or-drop i xs j 0)) (bx (i + j))) (λ j. subst (λ (b : ℕ). b < 256) (sym (get_or-drop i ys j 0)) (by (i + j)))
        ∙ (λ j. ordering_then (nat_cmp (sym ex j) (sym ey j)) (slice_cmp nat_cmp (drop-drop k i xs j) (drop-drop k i ys j)))

    -- the words are the same
    pub next : x ≡ y → FromPlace (i + k)
    next e = by_word ∙ ap (λ (w : ℕ). ordering_then (nat_cmp x w) (slice_cmp nat_cmp (drop (i + k) xs) (drop (i + k) ys))) (sym e)
        ∙ ap (λ (o : Ordering). ordering_then o (slice_cmp nat_cmp (drop (i + k) xs) (drop (i + k) ys))) (level x)

    -- they are not
    pub decided : x ≢ y → nat_cmp x y ≡ slice_cmp nat_cmp xs ys
    decided n = sym (by_word ∙ stays x y (nat_cmp x y) _ (ranks x y) n)

    -- they are the last
    pub last : length xs ≡ i + k → length ys ≡ i + k → nat_cmp x y ≡ slice_cmp nat_cmp xs ys
    last e f =
        let le : length xs ≤ i + k = omega arith in
        let ge : length ys ≤ i + k = omega arith in
        sym (by_word ∙ (λ j. ordering_then (nat_cmp x y) (slice_cmp nat_cmp (drop_of_length-le xs le j) (drop_of_length-le ys ge j))) ∙ then_equal (nat_cmp x y))
