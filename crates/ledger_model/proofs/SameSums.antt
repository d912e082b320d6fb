-- Values that change and keep what is measured add up to the same.
use Rattle.std.proofs.Common.{◌≡◌, ℕ, List, [], ◌∷◌, Bool, true, false, cond, map, sum_by, refl, sym, ◌∙◌, arith}
use Rattle.std.proofs.lemmas.List.Sums.{sum_by-cons}
use Rattle.maps.specs.Maps.{sum_values, each_value, changed_where}
use Rattle.maps.proofs.Credits.{sum_values-each, sum_values-entries}

either_same : {X : Type 0} (f : X → ℕ) (b : Bool) (x y : X) → f y ≡ f x → f (cond b y x) ≡ f x
either_same f true x y e = e
either_same f false x y e = refl

pub sum_by-same : {A : Type 0} (g h : A → ℕ) → ((x : A) → g x ≡ h x) → (xs : List A) → sum_by g xs ≡ sum_by h xs
sum_by-same g h s [] = refl
sum_by-same g h s (x ∷ xs) = omega (arith, s x, sum_by-same g h s xs, sum_by-cons g x xs, sum_by-cons h x xs)

pub sum_by-map : {A B : Type 0} (f : B → ℕ) (g : A → B) (xs : List A) → sum_by f (map g xs) ≡ sum_by (λ x. f (g x)) xs
sum_by-map f g [] = refl
sum_by-map f g (x ∷ xs) = omega (arith, sum_by-map f g xs, sum_by-cons f (g x) (map g xs), sum_by-cons (λ x. f (g x)) x xs)

module _ {K X : Type 0} (f : X → ℕ) where
  pub sum_values-each_same : (h : K → X → X) → ((k : K) (x : X) → f (h k x) ≡ f x) → (es : List (K × X)) → sum_values f (each_value h es) ≡ sum_values f es
  sum_values-each_same h s es = sum_values-each f h es ∙ sum_by-same (λ e. f (h e.0 e.1)) (λ e. f e.1) (λ e. s e.0 e.1) es ∙ sym (sum_values-entries f es)

  pub sum_values-changed_same : (p : K → X → Bool) (g : X → X) → ((x : X) → f (g x) ≡ f x) → (es : List (K × X)) → sum_values f (changed_where p g es) ≡ sum_values f es
  sum_values-changed_same p g s es = sum_values-each_same (λ k x. cond (p k x) (g x) x) (λ k x. either_same f (p k x) x (g x) (s x)) es
