-- The greatest of several fractions, one after another. (Own)
use Rattle.std.specs.Prelude.{Bool, true, false, Option, Some, None}
use Rattle.coin_frac.specs.Fraction.{Fraction}
use Rattle.gov_model.specs.Thresholds.{greater_of}

-- the greatest so far, after one more fraction
abbrev pub greater_with : Option Fraction → Fraction → Fraction
greater_with None t = t
greater_with (Some g) t = greater_of g t

-- the greatest so far, after one more fraction; the fraction counts where its group is touched
abbrev pub raised : Option Fraction → Bool → Fraction → Option Fraction
raised greatest true t = Some (greater_with greatest t)
raised greatest false t = greatest
