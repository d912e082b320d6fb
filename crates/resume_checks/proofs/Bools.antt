-- Answers that agree.
use Rattle.std.proofs.Common.{◌≡◌, Bool, true, false, refl, sym}

-- each is true where the other is
pub same_answer : (a b : Bool) → (a ≡ true → b ≡ true) → (b ≡ true → a ≡ true) → a ≡ b
same_answer true true f g = refl
same_answer true false f g = sym (f refl)
same_answer false true f g = g refl
same_answer false false f g = refl

-- what is never true is false
pub never : (b : Bool) → (b ≡ true → ⊥) → false ≡ b
never true f = absurd (f refl)
never false f = refl
