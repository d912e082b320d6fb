use Rattle.std.proofs.Common.{subst, ◌∙◌, rules}
use Rattle.std.specs.declared.cmp.Ordering.{Ordering}
use Rattle.std.specs.Cmp.{IsTotalOrder}
use Rattle.std.specs.List.Sorted.{IsBinarySearchResult}
use Rattle.std.proofs.lemmas.Fn.{always_returns_same}
use Rattle.resume_checks.proofs.Ordered.{member_by}
use Rattle.resume_checks.proofs.order.has_member.Goals as goal

pub returns : goal.returns
returns g c =
    let keys = c.args.keys.now in
    let key = c.args.key.now in
    let facts = c.binary_search_by.ensures in
    let result = c.binary_search_by.result in
    let by_key = facts.position (λ (q : g.row.K.Denot). g.K.Ord.cmp q key) (always_returns_same _ _ _ (λ a r s called. search rules)) in
    c.is_ok.ensures.value
    ∙ member_by (subst (λ (cmp : g.row.K.Denot → g.row.K.Denot → Ordering). IsTotalOrder cmp) g.met.K.Key.is_order g.met.K.Ord.total) key keys result c.requires facts.bound
    (subst (λ (cmp : g.row.K.Denot → g.row.K.Denot → Ordering). IsBinarySearchResult (λ (q : g.row.K.Denot). cmp q key) keys result) g.met.K.Key.is_order by_key)
