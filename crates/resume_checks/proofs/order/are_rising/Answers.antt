use Rattle.std.proofs.Common.{◌≡◌, subst, rules}
use Rattle.std.specs.declared.cmp.Ordering.{Ordering}
use Rattle.std.specs.Cmp.{IsTotalOrder}
use Rattle.std.specs.List.{IsAllAdjacentAnswer}
use Rattle.std.specs.Ordering.{is_lt}
use Rattle.std.proofs.lemmas.List.Sorted.{answers_always}
use Rattle.resume_checks.proofs.Ordered.{told_keys}
use Rattle.resume_checks.proofs.order.are_rising.Goals as goal

pub returns : goal.returns
returns g c =
    let keys = c.args.keys.now in
    let result = c.is_sorted_by.result in
    let answer = c.is_sorted_by.ensures.cases (λ (x y : g.row.K.Denot). is_lt (g.K.Ord.cmp x y)) (answers_always _ _ _ (λ f a r g called. search rules)) in
    told_keys (subst (λ (cmp : g.row.K.Denot → g.row.K.Denot → Ordering). IsTotalOrder cmp) g.met.K.Key.is_order g.met.K.Ord.total) keys result
    (subst (λ (cmp : g.row.K.Denot → g.row.K.Denot → Ordering). IsAllAdjacentAnswer (λ (x y : g.row.K.Denot) b. b ≡ is_lt (cmp x y)) keys result) g.met.K.Key.is_order answer)
