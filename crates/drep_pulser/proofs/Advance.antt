-- A walk that is left of the entries of a count begins with the next one to visit.
use Rattle.std.proofs.Common.{Bor, ◌≡◌, ℕ, suc, ◌+◌, ◌≤◌, List, [], ◌∷◌, drop, Option, Some, option_map, slice_get, length, ap, sym, ◌∙◌, add-one, arith}
use Rattle.std.specs.Option.{option_copied}
use Rattle.gov_ids.specs.declared.Credential.{Credential}
use Rattle.gov_ids.specs.Orders.{credential_cmp}
use Rattle.book_records.specs.declared.Entry.{Entry}
use Rattle.view_map.specs.Walk.{entries_past}
use Rattle.drep_pulser.specs.Count.{Count}
use Rattle.drep_pulser.specs.Facts.{IsCountIn}
use Rattle.drep_pulser.proofs.Walking.{rest_at, copied_is, get_drop, cut_at, past_end}

-- the entries past the cursor are those not visited yet
pub left_of : (es : List (Credential × Entry)) (k : Count) (after : Option (Bor Credential)) → IsCountIn es k → option_copied after ≡ k.cursor
    → entries_past credential_cmp (option_map (λ k. k.now) after) es ≡ drop k.done es
left_of es k after c a =
    ap (λ (k : Option Credential). entries_past credential_cmp k es) (sym (copied_is after) ∙ a ∙ c.cursor) ∙ rest_at k.done es c.countable.in_order (omega (arith, c.done, c.total))

module _ {X : Type 0} (es : List X) (i : ℕ) (left : List X) (is : left ≡ drop i es) where
  pub next_left : (e : X) (rest : List X) → left ≡ e ∷ rest → slice_get es i ≡ Some e
  next_left e rest l = sym (get_drop es i) ∙ ap (λ (l : List X). slice_get l 0) (sym is ∙ l)

  pub rest_left : (e : X) (rest : List X) → left ≡ e ∷ rest → rest ≡ drop (i + 1) es
  rest_left e rest l =
      let cut : e ∷ rest ≡ e ∷ drop (suc i) es = sym l ∙ is ∙ cut_at es i e (next_left e rest l) in
      let behind : rest ≡ drop (suc i) es = cc in
      behind ∙ ap (λ n. drop n es) (sym (add-one i))

  pub none_left : left ≡ [] → length es ≤ i
  none_left l = past_end es i (sym (get_drop es i) ∙ ap (λ (l : List X). slice_get l 0) (sym is ∙ l))
