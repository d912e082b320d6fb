use Rattle.std.proofs.Common.{ℕ, Option, subst, sym, rules}
use Rattle.std.specs.declared.cmp.Ordering.{Ordering}
use Rattle.std.specs.Cmp.{IsTotalOrder}
use Rattle.std.specs.List.Sorted.{IsBinarySearchResult}
use Rattle.std.proofs.lemmas.Fn.{always_returns_same}
use Rattle.resume_checks.specs.Order.{IsIndexOf}
use Rattle.resume_checks.proofs.Ordered.{index_by}
use Rattle.resume_checks.proofs.order.index_of.Goals as goal

pub returns : goal.returns
returns g c =
    let entries = c.args.entries.now in
    let key = c.args.key.now in
    let facts = c.binary_search_by.ensures in
    let result = c.binary_search_by.result in
    let by_key = facts.position (λ (e : g.row.K.Denot × g.row.V.Denot). g.K.Ord.cmp e.0 key) (always_returns_same _ _ _ (λ a r s called. search rules)) in
    subst (λ (place : Option ℕ). IsIndexOf g.K.Key.order entries key place) (sym c.ok.ensures.value)
    (index_by (subst (λ (cmp : g.row.K.Denot → g.row.K.Denot → Ordering). IsTotalOrder cmp) g.met.K.Key.is_order g.met.K.Ord.total) key entries result c.requires facts.bound
    (subst (λ (cmp : g.row.K.Denot → g.row.K.Denot → Ordering). IsBinarySearchResult (λ (e : g.row.K.Denot × g.row.V.Denot). cmp e.0 key) entries result) g.met.K.Key.is_order by_key))
