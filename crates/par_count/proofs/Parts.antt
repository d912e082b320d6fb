-- What is made of a part of a list is that part of what is made of all.
use Rattle.std.proofs.Common.{◌≡◌, ℕ, ◌+◌, ◌<◌, List, drop, get_or, map, take, ap, sym, ◌∙◌}
use Rattle.std.proofs.lemmas.List.{drop-map, get_or-drop, get_or-take, take-map}

module _ {A B : Type 0} (g : A → B) (xs : List A) (ys : List B) where
  -- a place of ys that is a place of such a part
  pub at_part : (part : List B) (start n offset place : ℕ) (d : B) → part ≡ map g (take n (drop start xs)) → get_or part offset d ≡ get_or ys place d
      → start + offset ≡ place → offset < n → get_or ys place d ≡ get_or (map g xs) place d
  at_part part start n offset place d is here at h =
      sym here ∙ ap (λ (l : List B). get_or l offset d) (is ∙ sym (take-map g n (drop start xs)) ∙ ap (take n) (sym (drop-map g start xs)))
      ∙ get_or-take n (drop start (map g xs)) offset d h ∙ get_or-drop start (map g xs) offset d ∙ ap (λ (k : ℕ). get_or (map g xs) k d) at
