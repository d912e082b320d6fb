-- How a reading goes on: with the value, or not where there is a fault. (Own)
use Rattle.std.specs.Prelude.{Option, Some, None, Result, Ok, Err}

-- the next step, where there was a value
infixl 10 ◌>>=◌
abbrev pub ◌>>=◌ : {A B E : Type 0} → Result A E → (A → Result B E) → Result B E
(Ok x) >>= f = f x
(Err e) >>= f = Err e

-- what is there, or the fault
abbrev pub or_fault : {A E : Type 0} → E → Option A → Result A E
or_fault e (Some x) = Ok x
or_fault e None = Err e
