-- Where no epoch is dormant the refresh changes nothing.
use Rattle.std.proofs.Common.{◌≡◌, ◌+◌, ℕ, true, false, List, [], ◌∷◌, cond, refl, ap, arith}
use Rattle.gov_ids.specs.declared.Credential.{Credential}
use Rattle.book_records.specs.declared.DrepState.{DrepState}
use Rattle.book_records.specs.Dormancy.{extended, is_kept_active, with_dormant_added}

extended_by_none : (d : DrepState) → extended 0 d ≡ d
extended_by_none d = let n : d.expiry + 0 ≡ d.expiry = omega arith in ap (λ (e : ℕ). record d { expiry = e }) n

pub none_added : (epoch : ℕ) (es : List (Credential × DrepState)) → with_dormant_added epoch 0 es ≡ es
none_added epoch [] = refl
none_added epoch (e ∷ es) =
    let here : cond (is_kept_active epoch 0 e.1) (extended 0 e.1) e.1 ≡ e.1 = elim (is_kept_active epoch 0 e.1) as (λ b. cond b (extended 0 e.1) e.1 ≡ e.1) [ true ↦ extended_by_none e.1 | false ↦ refl ] in
    λ i. (e.0, here i) ∷ none_added epoch es i
