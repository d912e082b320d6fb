-- A list whose keys do not repeat is within the limits where it is short enough.
use Rattle.std.proofs.Common.{◌≡◌, Bool, true, false, not, ◌&&◌, refl, ap, sym, ◌∙◌}

short_alone : (short : Bool) → (short && true && true) ≡ short
short_alone true = refl
short_alone false = refl

-- what else the limits ask holds
pub within_by : (short repeated all : Bool) → repeated ≡ false → all ≡ true → short ≡ (short && not repeated && all)
within_by short repeated all r a =
    sym (ap (λ b. short && not b && all) r ∙ ap (λ b. short && true && b) a ∙ short_alone short)
