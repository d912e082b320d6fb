-- The entries of a JSON array, as the code sees them.
use Rattle.std.proofs.Common.{◌≡◌, ◌≢◌, List, [], ◌∷◌, length, get_or, Some, None, refl, arith}
use Rattle.json_tree.specs.View.{items_view, view}
use Rattle.json_tree.specs.declared.value.Value.{Value}
use Rattle.json_fields.specs.Kinds.{two_of, three_of, three_or_four_of, four_of, five_of, six_or_seven_of}

-- an array of another length has no two entries
pub not_two : (xs : List Value) → length xs ≢ 2 → two_of (items_view xs) ≡ None
not_two [] h = refl
not_two (a ∷ []) h = refl
not_two (a ∷ b ∷ []) h = absurd (h refl)
not_two (a ∷ b ∷ c ∷ xs) h = refl

-- an array of another length has no three entries
pub not_three : (xs : List Value) → length xs ≢ 3 → three_of (items_view xs) ≡ None
not_three [] h = refl
not_three (a ∷ []) h = refl
not_three (a ∷ b ∷ []) h = refl
not_three (a ∷ b ∷ c ∷ []) h = absurd (h refl)
not_three (a ∷ b ∷ c ∷ d ∷ xs) h = refl

-- an array of another length has neither three nor four entries
pub not_three_or_four : (xs : List Value) → length xs ≢ 3 → length xs ≢ 4 → three_or_four_of (items_view xs) ≡ None
not_three_or_four [] h k = refl
not_three_or_four (a ∷ []) h k = refl
not_three_or_four (a ∷ b ∷ []) h k = refl
not_three_or_four (a ∷ b ∷ c ∷ []) h k = absurd (h refl)
not_three_or_four (a ∷ b ∷ c ∷ d ∷ []) h k = absurd (k refl)
not_three_or_four (a ∷ b ∷ c ∷ d ∷ e ∷ xs) h k = refl

-- an array of another length has no four entries
pub not_four : (xs : List Value) → length xs ≢ 4 → four_of (items_view xs) ≡ None
not_four [] h = refl
not_four (a ∷ []) h = refl
not_four (a ∷ b ∷ []) h = refl
not_four (a ∷ b ∷ c ∷ []) h = refl
not_four (a ∷ b ∷ c ∷ d ∷ []) h = absurd (h refl)
not_four (a ∷ b ∷ c ∷ d ∷ e ∷ xs) h = refl

-- an array of another length has no five entries
pub not_five : (xs : List Value) → length xs ≢ 5 → five_of (items_view xs) ≡ None
not_five [] h = refl
not_five (a ∷ []) h = refl
not_five (a ∷ b ∷ []) h = refl
not_five (a ∷ b ∷ c ∷ []) h = refl
not_five (a ∷ b ∷ c ∷ d ∷ []) h = refl
not_five (a ∷ b ∷ c ∷ d ∷ e ∷ []) h = absurd (h refl)
not_five (a ∷ b ∷ c ∷ d ∷ e ∷ f ∷ xs) h = refl

-- an array of another length has neither six nor seven entries
pub not_six_or_seven : (xs : List Value) → length xs ≢ 6 → length xs ≢ 7 → six_or_seven_of (items_view xs) ≡ None
not_six_or_seven [] h k = refl
not_six_or_seven (a ∷ []) h k = refl
not_six_or_seven (a ∷ b ∷ []) h k = refl
not_six_or_seven (a ∷ b ∷ c ∷ []) h k = refl
not_six_or_seven (a ∷ b ∷ c ∷ d ∷ []) h k = refl
not_six_or_seven (a ∷ b ∷ c ∷ d ∷ e ∷ []) h k = refl
not_six_or_seven (a ∷ b ∷ c ∷ d ∷ e ∷ f ∷ []) h k = absurd (h refl)
not_six_or_seven (a ∷ b ∷ c ∷ d ∷ e ∷ f ∷ g ∷ []) h k = absurd (k refl)
not_six_or_seven (a ∷ b ∷ c ∷ d ∷ e ∷ f ∷ g ∷ i ∷ xs) h k = refl

-- an array of six entries
pub is_six : (xs : List Value) (a b c d e f : Value) → length xs ≡ 6
    → six_or_seven_of (items_view xs) ≡ Some (view (get_or xs 0 a), view (get_or xs 1 b), view (get_or xs 2 c), view (get_or xs 3 d), view (get_or xs 4 e), view (get_or xs 5 f), None)
is_six [] a b c d e f h = cc
is_six (p ∷ []) a b c d e f h = cc
is_six (p ∷ q ∷ []) a b c d e f h = cc
is_six (p ∷ q ∷ r ∷ []) a b c d e f h = cc
is_six (p ∷ q ∷ r ∷ s ∷ []) a b c d e f h = cc
is_six (p ∷ q ∷ r ∷ s ∷ t ∷ []) a b c d e f h = cc
is_six (p ∷ q ∷ r ∷ s ∷ t ∷ u ∷ []) a b c d e f h = refl
is_six (p ∷ q ∷ r ∷ s ∷ t ∷ u ∷ v ∷ xs) a b c d e f h = absurd (omega (arith, h))

-- one of seven
pub is_seven : (xs : List Value) (a b c d e f g : Value) → length xs ≡ 7
    → six_or_seven_of (items_view xs) ≡ Some (view (get_or xs 0 a), view (get_or xs 1 b), view (get_or xs 2 c), view (get_or xs 3 d), view (get_or xs 4 e), view (get_or xs 5 f), Some (view (get_or xs 6 g)))
is_seven [] a b c d e f g h = cc
is_seven (p ∷ []) a b c d e f g h = cc
is_seven (p ∷ q ∷ []) a b c d e f g h = cc
is_seven (p ∷ q ∷ r ∷ []) a b c d e f g h = cc
is_seven (p ∷ q ∷ r ∷ s ∷ []) a b c d e f g h = cc
is_seven (p ∷ q ∷ r ∷ s ∷ t ∷ []) a b c d e f g h = cc
is_seven (p ∷ q ∷ r ∷ s ∷ t ∷ u ∷ []) a b c d e f g h = cc
is_seven (p ∷ q ∷ r ∷ s ∷ t ∷ u ∷ v ∷ []) a b c d e f g h = refl
is_seven (p ∷ q ∷ r ∷ s ∷ t ∷ u ∷ v ∷ w ∷ xs) a b c d e f g h = absurd (omega (arith, h))
