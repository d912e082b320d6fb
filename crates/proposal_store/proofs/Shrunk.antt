-- Lists of ids at keys, of which one becomes shorter; one that becomes empty leaves.
use Rattle.std.proofs.Common.{◌≡◌, true, false, cond, List, [], Option, Some, None, unwrap_or, refl, ap, sym, ◌∙◌}
use Rattle.std.specs.declared.cmp.Ordering.{Ordering}
use Rattle.std.specs.Ordering.{eq_by_cmp}
use Rattle.std.specs.Cmp.{IsTotalOrder}
use Rattle.gov_ids.specs.declared.ActionId.{ActionId}
use Rattle.maps.proofs.Joined.{chosen_last}
use Rattle.maps.proofs.Placed.{value_at_tied}
use Rattle.maps.specs.Maps.{value_at}

module _ {K : Type 0} {cmp : K → K → Ordering} (o : IsTotalOrder cmp) where
  -- the ids at a key
  abbrev pub at : List (K × List ActionId) → K → List ActionId
  at es k = unwrap_or (value_at cmp es k) []

  -- there is this at a key, and at the others what was there
  abbrev pub IsAt : K → Option (List ActionId) → List (K × List ActionId) → List (K × List ActionId) → Type 0
  IsAt k x old new = (q : K) → value_at cmp new q ≡ cond (eq_by_cmp cmp k q) x (value_at cmp old q)

  -- the ids at a key are as f makes them
  abbrev pub IsMade : K → (List ActionId → List ActionId) → List (K × List ActionId) → List (K × List ActionId) → Type 0
  IsMade k f old new = (q : K) → at new q ≡ cond (eq_by_cmp cmp k q) (f (at old q)) (at old q)

  made : (k : K) (x : Option (List ActionId)) (f : List ActionId → List ActionId) (old new : List (K × List ActionId)) → IsAt k x old new → unwrap_or x [] ≡ f (at old k) → IsMade k f old new
  made k x f old new here is q =
      ap (λ (v : Option (List ActionId)). unwrap_or v []) (here q)
      ∙ elim (eq_by_cmp cmp k q) as (λ b. eq_by_cmp cmp k q ≡ b → unwrap_or (cond b x (value_at cmp old q)) [] ≡ cond b (f (at old q)) (at old q)) [
        | true ↦ λ t. is ∙ ap (λ (v : Option (List ActionId)). f (unwrap_or v [])) (sym (value_at_tied o k q old t))
        | false ↦ λ _. refl
      ] refl

  -- where they are written
  pub made_there : (k : K) (was left : List ActionId) (f : List ActionId → List ActionId) (old new : List (K × List ActionId)) → IsAt k (Some left) old new → value_at cmp old k ≡ Some was → left ≡ f was → IsMade k f old new
  made_there k was left f old new here there is = made k (Some left) f old new here (is ∙ ap (λ (v : Option (List ActionId)). f (unwrap_or v [])) (sym there))

  -- where none is left, and the key leaves
  pub made_empty : (k : K) (was left : List ActionId) (f : List ActionId → List ActionId) (old mid new : List (K × List ActionId))
      → IsAt k (Some left) old mid → IsAt k None mid new → value_at cmp old k ≡ Some was → left ≡ f was → left ≡ [] → IsMade k f old new
  made_empty k was left f old mid new here gone there is empty =
      made k None f old new
      (λ q. gone q ∙ ap (λ (v : Option (List ActionId)). cond (eq_by_cmp cmp k q) None v) (here q) ∙ chosen_last (eq_by_cmp cmp k q) None (Some left) (value_at cmp old q))
      (sym empty ∙ is ∙ ap (λ (v : Option (List ActionId)). f (unwrap_or v [])) (sym there))

  -- where there are none
  pub made_none : (k : K) (f : List ActionId → List ActionId) (old new : List (K × List ActionId)) → new ≡ old → value_at cmp old k ≡ None → f [] ≡ [] → IsMade k f old new
  made_none k f old new same absent is q =
      ap (λ (es : List (K × List ActionId)). at es q) same
      ∙ elim (eq_by_cmp cmp k q) as (λ b. eq_by_cmp cmp k q ≡ b → at old q ≡ cond b (f (at old q)) (at old q)) [
        | true ↦ λ t.
            let none : at old q ≡ [] = ap (λ (v : Option (List ActionId)). unwrap_or v []) (value_at_tied o k q old t ∙ absent) in
            none ∙ sym is ∙ ap f (sym none)
        | false ↦ λ _. refl
      ] refl
