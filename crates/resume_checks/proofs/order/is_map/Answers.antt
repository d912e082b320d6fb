use Rattle.std.proofs.Common.{◌≡◌, subst, rules}
use Rattle.std.specs.declared.cmp.Ordering.{Ordering}
use Rattle.std.specs.Cmp.{IsTotalOrder}
use Rattle.std.specs.List.{IsAllAdjacentAnswer}
use Rattle.std.specs.Ordering.{is_lt}
use Rattle.std.proofs.lemmas.List.Sorted.{answers_always}
use Rattle.resume_checks.proofs.Ordered.{told_entries}
use Rattle.resume_checks.proofs.order.is_map.Goals as goal

pub returns : goal.returns
returns g c =
    let entries = c.args.entries.now in
    let result = c.is_sorted_by.result in
    let answer = c.is_sorted_by.ensures.cases (λ (x y : g.row.K.Denot × g.row.V.Denot). is_lt (g.K.Ord.cmp x.0 y.0)) (answers_always _ _ _ (λ f a r g called. search rules)) in
    told_entries (subst (λ (cmp : g.row.K.Denot → g.row.K.Denot → Ordering). IsTotalOrder cmp) g.met.K.Key.is_order g.met.K.Ord.total) entries result
    (subst (λ (cmp : g.row.K.Denot → g.row.K.Denot → Ordering). IsAllAdjacentAnswer (λ (x y : g.row.K.Denot × g.row.V.Denot) b. b ≡ is_lt (cmp x.0 y.0)) entries result) g.met.K.Key.is_order answer)
