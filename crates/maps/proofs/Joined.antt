-- Tests joined by 'and' and 'or', and one choice after another.
use Rattle.std.proofs.Common.{◌≡◌, ℕ, ◌+◌, ◌≤◌, Bool, true, false, not, ◌&&◌, ◌||◌, cond, Option, Some, None, is_some, Result, Ok, Err, OnErr, refl, arith}

pub and_true : (b : Bool) → (b && true) ≡ b
and_true true = refl
and_true false = refl

pub and_false : (b : Bool) → (b && false) ≡ false
and_false true = refl
and_false false = refl

pub or_assoc : (a b c : Bool) → (a || (b || c)) ≡ ((a || b) || c)
or_assoc true b c = refl
or_assoc false b c = refl

-- either of two may come first
pub or_swap : (a b c : Bool) → (a || (b || c)) ≡ (b || (a || c))
or_swap true true c = refl
or_swap true false c = refl
or_swap false b c = refl

pub or_swap_assoc : (a b c : Bool) → (a || (b || c)) ≡ ((b || a) || c)
or_swap_assoc true true c = refl
or_swap_assoc true false c = refl
or_swap_assoc false true c = refl
or_swap_assoc false false c = refl

pub or_pairs : (a b c d : Bool) → ((a || b) || (c || d)) ≡ ((a || c) || (b || d))
or_pairs true b c d = refl
or_pairs false true true d = refl
or_pairs false true false d = refl
or_pairs false false c d = refl

-- what an answer that is the opposite says
pub yes_from_not : (m b : Bool) → b ≡ not m → b ≡ false → m ≡ true
yes_from_not true b e f = refl
yes_from_not false b e f = cc

pub no_from_not : (m b : Bool) → b ≡ not m → b ≡ true → m ≡ false
no_from_not true b e f = cc
no_from_not false b e f = refl

-- one test beside another: the same, or never both
pub once : {A : Type 0} (a b : Bool) (x y z : A) → b ≡ a → cond b x z ≡ cond a x (cond b y z)
once true true x y z e = refl
once true false x y z e = cc
once false true x y z e = cc
once false false x y z e = refl

pub swapped : {A : Type 0} (a b : Bool) (x y z : A) → (a ≡ true → b ≡ false) → cond b y (cond a x z) ≡ cond a x (cond b y z)
swapped true true x y z e = let never : true ≡ false = e refl in cc
swapped true false x y z e = refl
swapped false b x y z e = refl

-- what is chosen twice by one test is as it was chosen last
pub chosen_last : {A : Type 0} (b : Bool) (x y z : A) → cond b x (cond b y z) ≡ cond b x z
chosen_last true x y z = refl
chosen_last false x y z = refl

-- a number or 0
pub at_most : (b : Bool) (n : ℕ) → cond b n 0 ≤ n
at_most true n = omega arith
at_most false n = omega arith

pub zero_either : (b : Bool) → ◌≡◌ {A = ℕ} 0 (cond b 0 0)
zero_either true = refl
zero_either false = refl

pub summed : (b : Bool) (s t x y z : ℕ) → s ≡ cond b x 0 → t ≡ cond b y 0 → z ≡ x + y → s + t ≡ cond b z 0
summed true s t x y z p q r = omega arith
summed false s t x y z p q r = omega arith

pub none_from : {A : Type 0} (o : Option A) → is_some o ≡ false → o ≡ None
none_from None h = refl
none_from (Some x) h = cc

-- what holds holds where there is an error
pub on_err : {T E P : Type 0} (r : Result T E) → P → OnErr r P
on_err (Ok x) p = tt
on_err (Err e) p = p
