-- The deposits of proposals one after another.
use Rattle.std.proofs.Common.{◌≡◌, ℕ, zero, suc, ◌+◌, ◌<◌, ◌≤◌, List, [], ◌∷◌, Bool, true, false, cond, Option, Some, None, drop, filter, get_or, length, sum_by, refl, ap, sym, ◌∙◌, arith}
use Rattle.std.specs.Map.{values_of}
use Rattle.std.specs.Option.{option_and_then}
use Rattle.std.proofs.lemmas.List.{at_drop_more}
use Rattle.std.proofs.lemmas.List.Sums.{sum_by-cons}
use Rattle.book_records.specs.declared.Registered.{Registered}
use Rattle.coin_frac.specs.Totals.{total_of}
use Rattle.gov_actions.specs.declared.action.Proposal.{Proposal}
use Rattle.gov_ids.specs.declared.PoolId.{PoolId}
use Rattle.gov_ids.specs.Same.{same_pool}
use Rattle.gov_model.specs.Proposals.{deposits_of}
use Rattle.maps.specs.Words.{holds, some_and}

-- what those that pass paid
abbrev pub paid : (Proposal → Bool) → List Proposal → ℕ
paid f ps = sum_by (λ (p : Proposal). p.deposit) (filter f ps)

first_paid : (b : Bool) (p : Proposal) (ps : List Proposal) → sum_by (λ (x : Proposal). x.deposit) (cond b (p ∷ ps) ps) ≡ cond b p.deposit 0 + sum_by (λ (x : Proposal). x.deposit) ps
first_paid true p ps = sum_by-cons (λ (x : Proposal). x.deposit) p ps
first_paid false p ps = omega arith

module _ (ps : List Proposal) (i : ℕ) (p : Proposal) (l : i < length ps) (at : p ≡ get_or ps i p) where
  -- those from the place i on are p and those after it
  from_here : {Y : Type 0} (F : List Proposal → Y) → F (drop i ps) ≡ F (p ∷ drop (i + 1) ps)
  from_here F = at_drop_more F ps i p l ∙ ap (λ (x : Proposal). F (x ∷ drop (i + 1) ps)) (sym at)

  pub paid_from : (f : Proposal → Bool) → paid f (drop i ps) ≡ cond (f p) p.deposit 0 + paid f (drop (i + 1) ps)
  paid_from f = from_here (λ (xs : List Proposal). paid f xs) ∙ first_paid (f p) p (filter f (drop (i + 1) ps))

  pub deposits_from : deposits_of (drop i ps) ≡ p.deposit + deposits_of (drop (i + 1) ps)
  deposits_from = from_here deposits_of ∙ sum_by-cons (λ (x : Proposal). x.deposit) p (drop (i + 1) ps)

-- whether a registration delegates to a pool, by the pool that it has
pub by_pool : (r : Option Registered) (q : PoolId) → some_and (λ (x : Registered). holds same_pool x.pool q) r ≡ holds same_pool (option_and_then (λ (x : Registered). x.pool) r) q
by_pool None q = refl
by_pool (Some r) q = refl

-- an amount is at most the sum of all
pub place_within : {K : Type 0} (es : List (K × ℕ)) (i : ℕ) (d : K × ℕ) → i < length es → (get_or es i d).1 ≤ total_of es
place_within [] i d h = omega (arith, h)
place_within (e ∷ es) zero d h = omega (arith, sum_by-cons (λ (n : ℕ). n) e.1 (values_of es))
place_within (e ∷ es) (suc i) d h = omega (arith, sum_by-cons (λ (n : ℕ). n) e.1 (values_of es), place_within es i d (omega (arith, h)))
