-- The answer of checks one after the other, and of those of a list's items.
use Rattle.std.proofs.Common.{◌≡◌, ℕ, ◌+◌, ◌<◌, ◌≤◌, List, [], ◌∷◌, ◌++◌, Option, Some, None, Result, Ok, Err, map, option_map, length, drop, get_or, refl, sym, ap, ◌∙◌, arith, add-one, add-zero, append-nil, append_assoc}
use Rattle.std.proofs.Math.ListN.{drop_of_length-le}
use Rattle.std.proofs.Math.Seq.{drop-cons}
use Rattle.std.specs.Prelude.{⊤}
use Rattle.tx_records.specs.declared.reply.Rule.{Rule}
use Rattle.tx_records.specs.Rules.{placed}
use Rattle.ledger_model.proofs.CheckLaws.{answer_then, answer-append, first_among-at_place}
use Rattle.ledger_model.specs.Checks.{Check, at_place, answer_by, answer_of, first_among, per_place, per_place_from}
use Rattle.rule_checks.specs.Places.{answer_at}

by_place : (i : ℕ) (o : Option Rule) → answer_by (option_map (placed i) o) ≡ answer_at i (answer_by o)
by_place i None = refl
by_place i (Some r) = refl

-- the answer of an item's checks at its place
pub answer-at_place : (i : ℕ) (cs : List Check) → answer_of (map (at_place i) cs) ≡ answer_at i (answer_of cs)
answer-at_place i cs = ap answer_by (first_among-at_place i cs) ∙ by_place i (first_among cs)

module _ {X : Type 0} (checks : ℕ → X → List Check) where
  -- the checks of an item at its place
  abbrev placed_checks : ℕ × X → List Check
  placed_checks p = map (at_place p.0) (checks p.0 p.1)

  -- the answer of the items from the place i on
  abbrev pub answer_from : ℕ → List X → Result ⊤ Rule
  answer_from i xs = answer_of (per_place_from checks i (drop i xs))

  answer-next : (xs : List X) (i : ℕ) (d : X) → i < length xs → answer_from i xs ≡ answer_then (answer_at i (answer_of (checks i (get_or xs i d)))) (answer_from (i + 1) xs)
  answer-next xs i d h =
      ap (λ (l : List X). answer_of (per_place_from checks i l)) (drop-cons xs i d h)
      ∙ ap (λ (k : ℕ). answer_of (placed_checks (i, get_or xs i d) ++ per_place_from checks (i + 1) (drop k xs))) (sym (add-one i))
      ∙ answer-append (placed_checks (i, get_or xs i d)) (per_place_from checks (i + 1) (drop (i + 1) xs))
      ∙ ap (λ (a : Result ⊤ Rule). answer_then a (answer_from (i + 1) xs)) (answer-at_place i (checks i (get_or xs i d)))

  -- the item at the place i breaks a rule
  pub item_broken : (xs : List X) (i : ℕ) (d : X) (r : Rule) → i < length xs → Err r ≡ answer_at i (answer_of (checks i (get_or xs i d))) → Err r ≡ answer_from i xs
  item_broken xs i d r h e = ap (λ (a : Result ⊤ Rule). answer_then a (answer_from (i + 1) xs)) e ∙ sym (answer-next xs i d h)

  -- it breaks none
  pub item_passed : (xs : List X) (i : ℕ) (d : X) → i < length xs → Ok tt ≡ answer_at i (answer_of (checks i (get_or xs i d))) → answer_from (i + 1) xs ≡ answer_from i xs
  item_passed xs i d h e = ap (λ (a : Result ⊤ Rule). answer_then a (answer_from (i + 1) xs)) e ∙ sym (answer-next xs i d h)

  -- no item is left
  pub none_left : (xs : List X) (i : ℕ) → length xs ≤ i → Ok tt ≡ answer_from i xs
  none_left xs i h = ap (λ (l : List X). answer_of (per_place_from checks i l)) (sym (drop_of_length-le xs h))

  per_place-append : (n : ℕ) (xs ys : List X) → per_place_from checks n (xs ++ ys) ≡ per_place_from checks n xs ++ per_place_from checks (n + length xs) ys
  per_place-append n [] ys = rw add-zero refl
  per_place-append n (x ∷ xs) ys =
      ap (λ (l : List Check). placed_checks (n, x) ++ l) (per_place-append (n + 1) xs ys)
      ∙ sym (append_assoc (placed_checks (n, x)) (per_place_from checks (n + 1) xs) (per_place_from checks (n + 1 + length xs) ys))
      ∙ ap (λ (k : ℕ). (placed_checks (n, x) ++ per_place_from checks (n + 1) xs) ++ per_place_from checks k ys) (omega arith)

  answer-both : (xs ys : List X) → answer_of (per_place checks (xs ++ ys)) ≡ answer_then (answer_of (per_place checks xs)) (answer_of (per_place_from checks (length xs) ys))
  answer-both xs ys =
      ap answer_of (per_place-append 0 xs ys)
      ∙ ap (λ (k : ℕ). answer_of (per_place checks xs ++ per_place_from checks k ys)) (omega arith)
      ∙ answer-append (per_place checks xs) (per_place_from checks (length xs) ys)

  -- one of the first items breaks a rule
  pub first_broken : (xs ys : List X) (r : Rule) → Err r ≡ answer_of (per_place checks xs) → Err r ≡ answer_of (per_place checks (xs ++ ys))
  first_broken xs ys r e = ap (λ (a : Result ⊤ Rule). answer_then a (answer_of (per_place_from checks (length xs) ys))) e ∙ sym (answer-both xs ys)

  -- none of them does, and one more follows
  pub last_left : (xs : List X) (x : X) (answer : Result ⊤ Rule) → Ok tt ≡ answer_of (per_place checks xs) → answer ≡ answer_at (length xs) (answer_of (checks (length xs) x))
      → answer ≡ answer_of (per_place checks (xs ++ x ∷ []))
  last_left xs x answer e f =
      f
      ∙ sym (answer-at_place (length xs) (checks (length xs) x))
      ∙ ap answer_of (sym (append-nil (placed_checks (length xs, x))))
      ∙ ap (λ (a : Result ⊤ Rule). answer_then a (answer_of (per_place_from checks (length xs) (x ∷ [])))) e
      ∙ sym (answer-both xs (x ∷ []))
