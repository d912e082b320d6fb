-- The deposits of proposals one after another.
use Rattle.std.proofs.Common.{◌≡◌, ℕ, zero, suc, ◌+◌, ◌<◌, ◌≤◌, List, [], ◌∷◌, Bool, true, false, cond, Some, drop, filter, get_or, length, sum_by, ap, ◌∙◌, arith}
use Rattle.std.specs.List.{slice_get}
use Rattle.std.specs.Map.{values_of}
use Rattle.std.proofs.lemmas.List.{at_drop_more}
use Rattle.std.proofs.lemmas.List.Sums.{sum_by-cons}
use Rattle.std.proofs.lemmas.Option.{get_or_from_slice_get, slice_get_within}
use Rattle.coin_frac.specs.Totals.{total_of}
use Rattle.gov_actions.specs.declared.action.Proposal.{Proposal}
use Rattle.gov_model.specs.Proposals.{deposits_of}

-- what those that pass paid
abbrev pub paid : (Proposal → Bool) → List Proposal → ℕ
paid f ps = sum_by (λ (p : Proposal). p.deposit) (filter f ps)

first_paid : (b : Bool) (p : Proposal) (ps : List Proposal) → sum_by (λ (x : Proposal). x.deposit) (cond b (p ∷ ps) ps) ≡ cond b p.deposit 0 + sum_by (λ (x : Proposal). x.deposit) ps
first_paid true p ps = sum_by-cons (λ (x : Proposal). x.deposit) p ps
first_paid false p ps = omega arith

module _ (ps : List Proposal) (i : ℕ) (p : Proposal) (here : slice_get ps i ≡ Some p) where
  within : i < length ps
  within = slice_get_within ps i p here

  -- those from i on are p and those after it
  pub from_here : {Y : Type 0} (F : List Proposal → Y) → F (drop i ps) ≡ F (p ∷ drop (i + 1) ps)
  from_here F = at_drop_more F ps i p within ∙ ap (λ (x : Proposal). F (x ∷ drop (i + 1) ps)) (get_or_from_slice_get ps i p p here)

  pub paid_from : (f : Proposal → Bool) → paid f (drop i ps) ≡ cond (f p) p.deposit 0 + paid f (drop (i + 1) ps)
  paid_from f = from_here (λ (l : List Proposal). paid f l) ∙ first_paid (f p) p (filter f (drop (i + 1) ps))

  pub deposits_from : deposits_of (drop i ps) ≡ p.deposit + deposits_of (drop (i + 1) ps)
  deposits_from = from_here deposits_of ∙ sum_by-cons (λ (x : Proposal). x.deposit) p (drop (i + 1) ps)

-- an amount is at most the sum of all
pub place_within : {K : Type 0} (es : List (K × ℕ)) (i : ℕ) (d : K × ℕ) → i < length es → (get_or es i d).1 ≤ total_of es
place_within [] i d h = omega (arith, h)
place_within (e ∷ es) zero d h = omega (arith, sum_by-cons (λ (n : ℕ). n) e.1 (values_of es))
place_within (e ∷ es) (suc i) d h = omega (arith, sum_by-cons (λ (n : ℕ). n) e.1 (values_of es), place_within es i d (omega (arith, h)))
