-- The entries of an array of thresholds, as the code sees them.
use Rattle.std.proofs.Common.{◌≡◌, List, [], ◌∷◌, length, nat_eq, refl, arith}
use Rattle.std.proofs.lemmas.Bool.Decides.{nat_tests}
use Rattle.json_tree.specs.View.{items_view}
use Rattle.json_tree.specs.declared.value.Value.{Value}
use Rattle.action_read.specs.Params.{is_five, is_ten}

-- there are five where the length says so
pub five_items : (xs : List Value) → is_five (items_view xs) ≡ nat_eq (length xs) 5
five_items [] = refl
five_items (a ∷ []) = refl
five_items (a ∷ b ∷ []) = refl
five_items (a ∷ b ∷ c ∷ []) = refl
five_items (a ∷ b ∷ c ∷ d ∷ []) = refl
five_items (a ∷ b ∷ c ∷ d ∷ e ∷ []) = refl
five_items (a ∷ b ∷ c ∷ d ∷ e ∷ f ∷ xs) = grind (arith, nat_tests)

-- there are ten where the length says so
pub ten_items : (xs : List Value) → is_ten (items_view xs) ≡ nat_eq (length xs) 10
ten_items [] = refl
ten_items (a ∷ []) = refl
ten_items (a ∷ b ∷ []) = refl
ten_items (a ∷ b ∷ c ∷ []) = refl
ten_items (a ∷ b ∷ c ∷ d ∷ []) = refl
ten_items (a ∷ b ∷ c ∷ d ∷ e ∷ []) = refl
ten_items (a ∷ b ∷ c ∷ d ∷ e ∷ f ∷ []) = refl
ten_items (a ∷ b ∷ c ∷ d ∷ e ∷ f ∷ g ∷ []) = refl
ten_items (a ∷ b ∷ c ∷ d ∷ e ∷ f ∷ g ∷ h ∷ []) = refl
ten_items (a ∷ b ∷ c ∷ d ∷ e ∷ f ∷ g ∷ h ∷ i ∷ []) = refl
ten_items (a ∷ b ∷ c ∷ d ∷ e ∷ f ∷ g ∷ h ∷ i ∷ j ∷ []) = refl
ten_items (a ∷ b ∷ c ∷ d ∷ e ∷ f ∷ g ∷ h ∷ i ∷ j ∷ k ∷ xs) = grind (arith, nat_tests)
