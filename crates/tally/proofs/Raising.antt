-- The greatest threshold of the groups that an update touches, found one group after the other.
use Rattle.std.proofs.Common.{◌≡◌, Bool, true, false, cond, List, [], ◌∷◌, None, map, unwrap_or, refl}
use Rattle.coin_frac.specs.Fraction.{Fraction}
use Rattle.pparams.specs.declared.Params.{Params}
use Rattle.pparams.specs.declared.Update.{Update}
use Rattle.pparams.specs.Marks.{Group, network, economic, technical, governance, touches}
use Rattle.gov_model.specs.Thresholds.{P5, greatest_of, update_threshold, zero_share}
use Rattle.tally.specs.Greatest.{raised}

-- the thresholds of four groups, those that are touched
abbrev touched_of : (Group → Fraction) → Bool → Bool → Bool → Bool → List Fraction
touched_of f n e t g =
    map f (cond n (network ∷ cond e (economic ∷ cond t (technical ∷ cond g (governance ∷ []) []) (cond g (governance ∷ []) [])) (cond t (technical ∷ cond g (governance ∷ []) []) (cond g (governance ∷ []) [])))
    (cond e (economic ∷ cond t (technical ∷ cond g (governance ∷ []) []) (cond g (governance ∷ []) [])) (cond t (technical ∷ cond g (governance ∷ []) []) (cond g (governance ∷ []) []))))

in_turn : (f : Group → Fraction) (n e t g : Bool)
    → unwrap_or (raised (raised (raised (raised None n (f network)) e (f economic)) t (f technical)) g (f governance)) zero_share ≡ greatest_of (touched_of f n e t g)
in_turn f true true true true = refl
in_turn f true true true false = refl
in_turn f true true false true = refl
in_turn f true true false false = refl
in_turn f true false true true = refl
in_turn f true false true false = refl
in_turn f true false false true = refl
in_turn f true false false false = refl
in_turn f false true true true = refl
in_turn f false true true false = refl
in_turn f false true false true = refl
in_turn f false true false false = refl
in_turn f false false true true = refl
in_turn f false false true false = refl
in_turn f false false false true = refl
in_turn f false false false false = refl

pub greatest_raised : (p : Params) (u : Update)
    → unwrap_or (raised (raised (raised (raised None (touches network u) (P5 p network)) (touches economic u) (P5 p economic)) (touches technical u) (P5 p technical)) (touches governance u) (P5 p governance)) zero_share
    ≡ update_threshold p u
greatest_raised p u = in_turn (P5 p) (touches network u) (touches economic u) (touches technical u) (touches governance u)
