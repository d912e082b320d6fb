use Rattle.std.proofs.Common.{◌≡◌, List, [], ◌∷◌, Bool, true, false, cond, Option, Some, None, unwrap_or, refl, ap, sym, ◌∙◌}
use Rattle.std.specs.declared.cmp.Ordering.{Ordering}
use Rattle.std.specs.Cmp.{IsTotalOrder}
use Rattle.std.specs.List.Sorted.{IsStrictlySortedBy}
use Rattle.std.specs.Map.{keys_of}
use Rattle.std.specs.Ordering.{eq_by_cmp}
use Rattle.std.proofs.lemmas.Cmp.{eq_by_cmp_equiv}
use Rattle.maps.proofs.Kept.{IsMap-with_value, IsMap-without_key}
use Rattle.maps.proofs.Lookups.{none_below, value_at-with_value, value_at-without_key}
use Rattle.maps.proofs.Same.{map_from_value_at}
use Rattle.maps.proofs.Ties.{is_equal, all_tied}
use Rattle.maps.specs.Maps.{IsMap, value_at}
use Rattle.maps.specs.Replaced.{with_option}
use Rattle.view_map.specs.View.{with_noted}
use Rattle.view_map.proofs.noted_are_frozen.Goals as goal

noted : {X : Type 0} (a b : Bool) (x s l : Option X) (n : Option (Option X)) → a ≡ b → (b ≡ true → n ≡ None) → unwrap_or n (cond a x l) ≡ unwrap_or (cond b (Some x) n) l
noted {X} true true x s l n e f = ap (λ (n : Option (Option X)). unwrap_or n x) (f refl)
noted true false x s l n e f = cc
noted false true x s l n e f = cc
noted false false x s l n e f = refl

module _ {K V : Type 0} {cmp : K → K → Ordering} (o : IsTotalOrder cmp) where
  IsMap-option : (k : K) (x : Option V) (es : List (K × V)) → IsMap cmp es → IsMap cmp (with_option cmp k x es)
  IsMap-option k None es h = IsMap-without_key cmp k es h
  IsMap-option k (Some v) es h = IsMap-with_value o k v es h

  value_at-option : (k : K) (x : Option V) (es : List (K × V)) (q : K) → IsMap cmp es → value_at cmp (with_option cmp k x es) q ≡ cond (eq_by_cmp cmp k q) x (value_at cmp es q)
  value_at-option k None es q h = value_at-without_key o k es q h
  value_at-option k (Some v) es q h = value_at-with_value o k v es q

  IsMap-noted : (notes : List (K × Option V)) (es : List (K × V)) → IsMap cmp es → IsMap cmp (with_noted cmp notes es)
  IsMap-noted [] es h = h
  IsMap-noted (p ∷ notes) es h = IsMap-noted notes (with_option cmp p.0 p.1 es) (IsMap-option p.0 p.1 es h)

  value_at-noted : (notes : List (K × Option V)) (es : List (K × V)) (q : K) → IsMap cmp notes → IsMap cmp es → value_at cmp (with_noted cmp notes es) q ≡ unwrap_or (value_at cmp notes q) (value_at cmp es q)
  unfolding IsStrictlySortedBy
  value_at-noted [] es q g h = refl
  value_at-noted (p ∷ notes) es q g h =
      value_at-noted notes (with_option cmp p.0 p.1 es) q g.1 (IsMap-option p.0 p.1 es h)
      ∙ ap (λ (l : Option V). unwrap_or (value_at cmp notes q) l) (value_at-option p.0 p.1 es q h)
      ∙ noted (eq_by_cmp cmp p.0 q) (eq_by_cmp cmp q p.0) p.1 None (value_at cmp es q) (value_at cmp notes q) ((eq_by_cmp_equiv o).symm p.0 q)
      (λ t. none_below cmp q notes (all_tied o q p.0 (keys_of notes) (is_equal _ t) g.0))

pub returns : goal.returns
returns g c exact live other notes l n is_map is =
    let o = g.met.K.Ord.total in
    map_from_value_at o exact (with_noted g.K.Ord.cmp notes live) other (IsMap-noted o notes live l) is_map (λ q. value_at-noted o notes live q n l ∙ sym (is q))
