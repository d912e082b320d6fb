use Rattle.std.proofs.Common.{◌≡◌, List, Option, Some, None, option_map, slice_get, ap, sym, ◌∙◌}
use Rattle.std.specs.Map.Iter.{TakesFirst}
use Rattle.view_map.specs.View.{frozen_of}
use Rattle.view_map.proofs.Walk.{first_past}
use Rattle.view_map.proofs.ViewMap.frozen_next.Goals as goal

first_of : {X : Type 0} (s t : List X) (r : Option X) → TakesFirst (λ e. e) s r t → r ≡ slice_get s 0
first_of {X} s t None h = sym (ap (λ (l : List X). slice_get l 0) h.0)
first_of {X} s t (Some x) h = sym (ap (λ (l : List X). slice_get l 0) h)

pub returns : goal.returns
returns g c =
    first_of _ _ _ c.next.ensures.steps ∙ ap (λ (es : List (g.row.K.Denot × g.row.V.Denot)). slice_get es 0) c.frozen_past.ensures
    ∙ sym (first_past g.K.Ord.cmp (option_map (λ k. k.now) c.args.after) (frozen_of g.K.Ord.cmp c.args.self.now))
