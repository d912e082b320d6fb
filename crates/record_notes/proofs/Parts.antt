-- Arrays: how many entries, and none behind the last.
use Rattle.std.proofs.Common.{◌≡◌, ◌≤◌, Bool, ℕ, zero, suc, List, [], ◌∷◌, ap, arith, drop, length, min, refl}
use Rattle.json_tree.specs.View.{items_view}
use Rattle.json_tree.specs.declared.value.Value.{Value}
use Rattle.serde_json.specs.Data.{Data}
use Rattle.record_shapes.specs.declared.shape.Shape.{Shape}
use Rattle.record_notes.specs.Notes.{Said, count_of, parts_said}

pub count_of-view : (vs : List Value) → count_of (items_view vs) ≡ length vs
count_of-view [] = refl
count_of-view (v ∷ vs) = ap suc (count_of-view vs)

module _ (all : Bool) (inside : List ℕ → Shape → Data → List Said) (path : List ℕ) where
  no_items_left : (shapes : List Shape) (i : ℕ) → parts_said all inside path shapes i (items_view []) ≡ []
  no_items_left [] i = refl
  no_items_left (s ∷ ss) i = refl

  pub over_the_end : (n : ℕ) (shapes : List Shape) (vs : List Value) (i : ℕ) → min (length shapes) (length vs) ≤ n → parts_said all inside path (drop n shapes) i (items_view (drop n vs)) ≡ []
  over_the_end zero [] vs i h = refl
  over_the_end zero (s ∷ ss) [] i h = refl
  over_the_end zero (s ∷ ss) (v ∷ vs) i h = absurd (omega (arith, h))
  over_the_end (suc n) [] vs i h = refl
  over_the_end (suc n) (s ∷ ss) [] i h = no_items_left (drop n ss) i
  over_the_end (suc n) (s ∷ ss) (v ∷ vs) i h = over_the_end n ss vs i (omega (arith, h))
