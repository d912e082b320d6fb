use Rattle.std.proofs.Common.{Option, ap, sym, ◌∙◌}
use Rattle.std.specs.Option.{option_or}
use Rattle.gov_ids.specs.Orders.{pool_cmp}
use Rattle.gov_ids.proofs.Totals.{pool_total}
use Rattle.book_records.specs.declared.pool.Pool.{Pool}
use Rattle.maps.proofs.Kept.{IsMap-with_values}
use Rattle.maps.specs.Maps.{value_at, with_values}
use Rattle.draft_changes.specs.ChangedPools.{ChangedPools}
use Rattle.draft_changes.proofs.Laid.{value_at-with_map}
use Rattle.draft_changes.proofs.pool_changes.PoolChanges.latest.Goals as goal

pub returns-in-Some-clause-value : goal.returns-in-Some-clause-value
returns-in-Some-clause-value c =
    let changed = c.self.inside.entries in
    let book = c.args.book.now in
    let p = c.args.p.now in
    ap (λ (o : Option Pool). option_or o (value_at pool_cmp book p)) (sym c.in-Some.is ∙ c.get.ensures.value)
    ∙ sym (value_at-with_map pool_total changed book p c.get.ensures.in_order)
    ∙ ap (λ (x : ChangedPools). value_at pool_cmp (with_values pool_cmp x.entries book) p) c.self.view_is

pub returns-in-Some-clause-in_order : goal.returns-in-Some-clause-in_order
returns-in-Some-clause-in_order c = IsMap-with_values pool_total c.args.self.now.entries c.args.book.now c.get-before.ensures.in_order

pub returns-in-None-clause-value : goal.returns-in-None-clause-value
returns-in-None-clause-value c =
    let changed = c.self.inside.entries in
    let book = c.args.book.now in
    let p = c.args.p.now in
    c.get-before.ensures.value ∙ ap (λ (o : Option Pool). option_or o (value_at pool_cmp book p)) (sym c.in-None.is ∙ c.get.ensures.value)
    ∙ sym (value_at-with_map pool_total changed book p c.get.ensures.in_order)
    ∙ ap (λ (x : ChangedPools). value_at pool_cmp (with_values pool_cmp x.entries book) p) c.self.view_is

pub returns-in-None-clause-in_order : goal.returns-in-None-clause-in_order
returns-in-None-clause-in_order c = IsMap-with_values pool_total c.args.self.now.entries c.args.book.now c.get-before.ensures.in_order
