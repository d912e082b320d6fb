-- What was found is the one item that shows something.
use Rattle.std.proofs.Common.{◌≡◌, Option, Some, None, refl, ap, sym, ◌∙◌, subst}
use Rattle.std.proofs.lemmas.Option.{none-some, same_Some}
use Rattle.shown_lists.specs.Only.{IsOnly}
use Rattle.shown_lists.proofs.Present.{only_none}

-- ---- what was found

pub kind_of : {A B : Type 0} {is_kind : A → Type 0} {shows : A → B} {y : B} {a : A} → IsOnly is_kind shows y (Some a) → is_kind a
kind_of {A} {B} {is_kind} {shows} {y} {a} only = only.kind a refl

pub shows_of : {A B : Type 0} {is_kind : A → Type 0} {shows : A → B} {y : B} {a : A} → IsOnly is_kind shows y (Some a) → shows a ≡ y
shows_of {A} {B} {is_kind} {shows} {y} {a} only = only.some a refl

pub same_of : {A B : Type 0} {is_kind : A → Type 0} {shows : A → B} {y : B} {a : A} → IsOnly is_kind shows y (Some a) → (x : A) → is_kind x → shows x ≡ y → a ≡ x
same_of {A} {B} {is_kind} {shows} {y} {a} only x k e = same_Some a x (only.all x k e)

pub none_of : {A B : Type 0} {is_kind : A → Type 0} {shows : A → B} {y : B} → IsOnly is_kind shows y None → (x : A) → is_kind x → shows x ≡ y → ⊥
none_of only x k e = none-some x (only.all x k e)

-- ---- what is the only one

pub only_one : {A B : Type 0} (is_kind : A → Type 0) (shows : A → B) (y : B) (a : A) → is_kind a → shows a ≡ y → ((x : A) → is_kind x → shows x ≡ y → a ≡ x) → IsOnly is_kind shows y (Some a)
only_one {A} is_kind shows y a k e same = record {
  kind = λ x s. subst is_kind (same_Some a x s) k;
  some = λ x s. ap shows (sym (same_Some a x s)) ∙ e;
  all = λ x h s. ap Some (same x h s);
}

-- ---- a further test

module _ {A B : Type 0} (is_kind : A → Type 0) {first : A → Type 0} {shows : A → B} {y : B} (of : (x : A) → is_kind x → first x) where
  -- none was found without it
  pub none_first : IsOnly first shows y None → IsOnly is_kind shows y None
  none_first only = only_none is_kind shows y (λ x k e. none_of only x (of x k) e)

  -- what was found does not pass it
  pub none_passing : {a : A} → IsOnly first shows y (Some a) → (is_kind a → ⊥) → IsOnly is_kind shows y None
  none_passing only not = only_none is_kind shows y (λ x k e. not (subst is_kind (sym (same_of only x (of x k) e)) k))

  -- what was found passes it
  pub one_passing : {a : A} → IsOnly first shows y (Some a) → is_kind a → IsOnly is_kind shows y (Some a)
  one_passing {a} only is = only_one is_kind shows y a is (shows_of only) (λ x k e. same_of only x (of x k) e)

-- what lines say, by another name
pub moved : {A B : Type 0} (is_kind : A → Type 0) (shows : A → B) (found : Option A) {y z : B} → y ≡ z → IsOnly is_kind shows y found → IsOnly is_kind shows z found
moved {A} {B} is_kind shows found same only = subst (λ (t : B). IsOnly is_kind shows t found) same only
