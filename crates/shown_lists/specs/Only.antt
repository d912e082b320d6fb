-- The one item that shows something. (Own)
use Rattle.std.specs.Prelude.{◌≡◌, Option, Some}

-- what was found is the one item of its kind that shows y, if there is one
pub record IsOnly {A B : Type 0} (is_kind : A → Type 0) (shows : A → B) (y : B) (found : Option A) : Type 0 where
  -- an item that was found is of the kind, and shows it
  pub kind : (x : A) → found ≡ Some x → is_kind x
  pub some : (x : A) → found ≡ Some x → shows x ≡ y
  -- an item of the kind that shows it was found
  pub all : (x : A) → is_kind x → shows x ≡ y → found ≡ Some x
