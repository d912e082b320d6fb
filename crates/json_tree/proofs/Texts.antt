-- Bytes that are a text, and bytes that are none.
use Rattle.std.proofs.Common.{◌≡◌, List, ℕ, Bool, true, false, cond, Option, None, refl, sym, ap}
use Rattle.std.specs.Str.{IsUtf8, is_utf8}
use Rattle.std.proofs.lemmas.Str.{IsUtf8-from_is_utf8, is_utf8-from_IsUtf8}

by_test : {A : Type 0} (b : Bool) (o : Option A) → (b ≡ true → ⊥) → None ≡ cond b o None
by_test true o h = absurd (h refl)
by_test false o h = refl

pub of_no_text : {A : Type 0} (bytes : List ℕ) (o : Option A) → (IsUtf8 bytes → ⊥) → None ≡ cond (is_utf8 bytes) o None
of_no_text bytes o h = by_test (is_utf8 bytes) o (λ e. h (IsUtf8-from_is_utf8 bytes e))

pub of_text : {A : Type 0} (bytes : List ℕ) (o : Option A) → IsUtf8 bytes → o ≡ cond (is_utf8 bytes) o None
of_text bytes o h = sym (ap (λ (b : Bool). cond b o None) (is_utf8-from_IsUtf8 bytes h))
