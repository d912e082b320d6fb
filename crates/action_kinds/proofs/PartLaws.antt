-- The id and the JSON of a line.
use Rattle.std.proofs.Common.{◌≡◌, Bool, true, false, if◌then◌else◌, Some, None, bytes_eq, codes, refl, ◌∙◌}
use Rattle.std.proofs.lemmas.Str.{IsUtf8-from_is_utf8, is_utf8-from_IsUtf8}
use Rattle.std.specs.Str.{IsUtf8, is_utf8}
use Rattle.gov_ids.specs.Spelling.{◌>>=◌}
use Rattle.text_model.specs.Words.{Text}
use Rattle.book_kinds.specs.Pools.{halves}
use Rattle.action_kinds.specs.Lines.{parts_after, parts_of}

parts_text : (t : Text) → IsUtf8 t → parts_of t ≡ (halves 32 t >>= parts_after)
parts_text t is = rw (is_utf8-from_IsUtf8 t is) refl

-- a text without a space
pub parts_none : (t : Text) → IsUtf8 t → halves 32 t ≡ None → parts_of t ≡ None
parts_none t is e = parts_text t is ∙ rw e refl

-- a text that begins with the word
pub parts_some : (t a b : Text) → IsUtf8 t → halves 32 t ≡ Some (a, b) → bytes_eq a (codes "action") ≡ true → parts_of t ≡ halves 32 b
parts_some t a b is e same = parts_text t is ∙ rw (e, same) refl

-- a text that begins with another
pub parts_other : (t a b : Text) → IsUtf8 t → halves 32 t ≡ Some (a, b) → bytes_eq a (codes "action") ≡ false → parts_of t ≡ None
parts_other t a b is e other = parts_text t is ∙ rw (e, other) refl

no_parts_by : (line : Text) (is : Bool) → is_utf8 line ≡ is → ¬ IsUtf8 line → (if is then halves 32 line >>= parts_after else None) ≡ None
no_parts_by line true e none = absurd (none (IsUtf8-from_is_utf8 line e))
no_parts_by line false e none = refl

-- bytes that are no text
pub no_parts : (line : Text) → ¬ IsUtf8 line → parts_of line ≡ None
no_parts line none = no_parts_by line (is_utf8 line) refl none
