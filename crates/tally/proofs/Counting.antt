-- Sides that are added one after the other make the count.
use Rattle.std.proofs.Common.{◌≡◌, ℕ, ◌+◌, List, [], ◌∷◌, ◌++◌, filter, not, sum_by, refl, ap, sym, ◌∙◌, add-zero, zero-add, arith}
use Rattle.std.proofs.lemmas.List.Sums.{sum_by-cons}
use Rattle.gov_actions.specs.declared.action.Vote.{Vote}
use Rattle.gov_actions.specs.declared.action.Vote.TheVariants.{Yes, No, Abstain}
use Rattle.gov_actions.specs.Voting.{is_yes, is_abstain}
use Rattle.gov_model.specs.Sides.{count_of}
use Rattle.tally.specs.Adding.{total_of, with_side, with_sides, yes_of}

-- a number and the weight of more sides
more : (n w : ℕ) (v : Vote) (sides : List (ℕ × Vote)) → n + w + sum_by (λ (s : ℕ × Vote). s.0) sides ≡ n + sum_by (λ (s : ℕ × Vote). s.0) ((w, v) ∷ sides)
more n w v sides = omega (arith, sum_by-cons (λ (s : ℕ × Vote). s.0) (w, v) sides)

added : (n : ℕ × ℕ) (sides : List (ℕ × Vote)) → with_sides n sides ≡ (n.0 + (count_of sides).0, n.1 + (count_of sides).1)
added n [] = λ i. (sym (add-zero n.0) i, sym (add-zero n.1) i)
added n ((w, Yes) ∷ sides) =
    let yes = filter (λ (s : ℕ × Vote). is_yes s.1) sides in
    let total = filter (λ (s : ℕ × Vote). not (is_abstain s.1)) sides in
    added (n.0 + w, n.1 + w) sides ∙ (λ i. (more n.0 w Yes yes i, more n.1 w Yes total i))
added n ((w, No) ∷ sides) =
    let total = filter (λ (s : ℕ × Vote). not (is_abstain s.1)) sides in
    added (n.0, n.1 + w) sides ∙ (λ i. (n.0 + (count_of sides).0, more n.1 w No total i))
added n ((w, Abstain) ∷ sides) = added n sides

-- the count of these sides
pub counted : (sides : List (ℕ × Vote)) → with_sides (0, 0) sides ≡ count_of sides
counted sides = added (0, 0) sides ∙ (λ i. (zero-add (count_of sides).0 i, zero-add (count_of sides).1 i))

yes_more : (w : ℕ) (v : Vote) (sides : List (ℕ × Vote)) → (count_of sides).0 ≡ sum_by yes_of sides → (count_of ((w, v) ∷ sides)).0 ≡ sum_by yes_of ((w, v) ∷ sides)
yes_more w Yes sides h =
    omega (arith, h, sum_by-cons yes_of (w, Yes) sides, sum_by-cons (λ (s : ℕ × Vote). s.0) (w, Yes) (filter (λ (s : ℕ × Vote). is_yes s.1) sides))
yes_more w No sides h = omega (arith, h, sum_by-cons yes_of (w, No) sides)
yes_more w Abstain sides h = omega (arith, h, sum_by-cons yes_of (w, Abstain) sides)

total_more : (w : ℕ) (v : Vote) (sides : List (ℕ × Vote)) → (count_of sides).1 ≡ sum_by total_of sides → (count_of ((w, v) ∷ sides)).1 ≡ sum_by total_of ((w, v) ∷ sides)
total_more w Yes sides h =
    omega (arith, h, sum_by-cons total_of (w, Yes) sides, sum_by-cons (λ (s : ℕ × Vote). s.0) (w, Yes) (filter (λ (s : ℕ × Vote). not (is_abstain s.1)) sides))
total_more w No sides h =
    omega (arith, h, sum_by-cons total_of (w, No) sides, sum_by-cons (λ (s : ℕ × Vote). s.0) (w, No) (filter (λ (s : ℕ × Vote). not (is_abstain s.1)) sides))
total_more w Abstain sides h = omega (arith, h, sum_by-cons total_of (w, Abstain) sides)

-- the count of sides is what each has in yes and in the total
pub count_is : (sides : List (ℕ × Vote)) → count_of sides ≡ (sum_by yes_of sides, sum_by total_of sides)
count_is [] = refl
count_is ((w, v) ∷ sides) = λ i. (yes_more w v sides (ap (λ (n : ℕ × ℕ). n.0) (count_is sides)) i, total_more w v sides (ap (λ (n : ℕ × ℕ). n.1) (count_is sides)) i)

-- some sides and then others
pub with_sides-append : (n : ℕ × ℕ) (xs ys : List (ℕ × Vote)) → with_sides n (xs ++ ys) ≡ with_sides (with_sides n xs) ys
with_sides-append n [] ys = refl
with_sides-append n (x ∷ xs) ys = with_sides-append (with_side n x.0 x.1) xs ys
