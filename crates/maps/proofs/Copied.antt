-- The entries of a map, put into a new one in their order.
use Rattle.std.proofs.Common.{◌≡◌, List, [], ◌∷◌, ◌++◌, refl, ap, sym, ◌∙◌, append_assoc, append-nil, subst}
use Rattle.std.specs.declared.cmp.Ordering.{Ordering}
use Rattle.std.specs.declared.cmp.Ordering.TheVariants.{Less, Greater}
use Rattle.std.specs.Ordering.{match_ordering, ordering_reverse}
use Rattle.std.specs.Cmp.{IsTotalOrder}
use Rattle.std.specs.List.{AllByRecursion}
use Rattle.std.specs.List.Sorted.{IsStrictlySortedBy}
use Rattle.std.specs.Map.{keys_of}
use Rattle.maps.specs.Maps.{IsMap, with_value, with_values}

above : {K : Type 0} {cmp : K → K → Ordering} (o : IsTotalOrder cmp) (k x : K) → cmp x k ≡ Less → cmp k x ≡ Greater
above o k x p = o.antisymm k x ∙ ap ordering_reverse p

module _ {K X : Type 0} {cmp : K → K → Ordering} (o : IsTotalOrder cmp) where
  -- a key above all others goes to the end
  at_end : (k : K) (v : X) (es : List (K × X)) → AllByRecursion (λ q. cmp q k ≡ Less) (keys_of es) → with_value cmp k v es ≡ es ++ (k, v) ∷ []
  at_end k v [] h = refl
  at_end k v (e ∷ es) h =
      ap (λ r. match_ordering r ((k, v) ∷ e ∷ es) ((e.0, v) ∷ es) (e ∷ with_value cmp k v es)) (above o k e.0 h.0) ∙ ap (λ (l : List (K × X)). e ∷ l) (at_end k v es h.1)

  at_place : (P : K → Type 0) (front : List (K × X)) (e : K × X) (es : List (K × X)) → AllByRecursion P (keys_of (front ++ e ∷ es)) → P e.0
  at_place P [] e es h = h.0
  at_place P (x ∷ front) e es h = at_place P front e es h.1

  all_below : (front : List (K × X)) (e : K × X) (es : List (K × X)) → IsMap cmp (front ++ e ∷ es) → AllByRecursion (λ q. cmp q e.0 ≡ Less) (keys_of front)
  unfolding IsStrictlySortedBy
  all_below [] e es h = tt
  all_below (x ∷ front) e es h = (at_place (λ q. cmp x.0 q ≡ Less) front e es h.0, all_below front e es h.1)

  behind : (es front : List (K × X)) → IsMap cmp (front ++ es) → with_values cmp es front ≡ front ++ es
  behind [] front h = sym (append-nil front)
  behind (e ∷ es) front h =
      let one : with_value cmp e.0 e.1 front ≡ front ++ e ∷ [] = at_end e.0 e.1 front (all_below front e es h) in
      ap (λ (l : List (K × X)). with_values cmp es l) one
      ∙ behind es (front ++ e ∷ []) (subst (λ (l : List (K × X)). IsMap cmp l) (sym (append_assoc front (e ∷ []) es)) h)
      ∙ append_assoc front (e ∷ []) es

  pub copied_is : (es : List (K × X)) → IsMap cmp es → with_values cmp es [] ≡ es
  copied_is es h = behind es [] h
