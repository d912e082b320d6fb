-- Tests and lists in pairs.
use Rattle.std.proofs.Common.{◌≡◌, ◌++◌, Bool, true, false, ◌&&◌, List, refl, ap, sym, ◌∙◌, append_assoc}

-- tests one after another
and3 : (a b c : Bool) → (a && (b && c)) ≡ (a && b && c)
and3 true b c = refl
and3 false b c = refl

and4 : (a b c d : Bool) → (a && (b && (c && d))) ≡ (a && b && c && d)
and4 true b c d = and3 b c d
and4 false b c d = refl

-- tests in pairs
pub and_pairs : (a b c d e f g : Bool) → ((a && b) && ((c && d) && (e && (f && g)))) ≡ (a && b && c && d && e && f && g)
and_pairs true true true d e f g = and4 d e f g
and_pairs true true false d e f g = refl
and_pairs true false c d e f g = refl
and_pairs false b c d e f g = refl

-- lists one after another
nest3 : {A : Type 0} (a b c : List A) → a ++ (b ++ c) ≡ a ++ b ++ c
nest3 a b c = sym (append_assoc a b c)

nest4 : {A : Type 0} (a b c d : List A) → a ++ (b ++ (c ++ d)) ≡ a ++ b ++ c ++ d
nest4 a b c d = nest3 a b (c ++ d) ∙ nest3 (a ++ b) c d

-- lists in pairs
pub nest_pairs : {A : Type 0} (a b c d e f g : List A) → (a ++ b) ++ ((c ++ d) ++ (e ++ (f ++ g))) ≡ a ++ b ++ c ++ d ++ e ++ f ++ g
nest_pairs a b c d e f g =
    nest3 (a ++ b) (c ++ d) (e ++ (f ++ g))
    ∙ ap (λ t. t ++ (e ++ (f ++ g))) (nest3 (a ++ b) c d)
    ∙ nest4 (a ++ b ++ c ++ d) e f g
