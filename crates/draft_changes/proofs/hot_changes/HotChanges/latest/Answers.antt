use Rattle.std.proofs.Common.{ap, sym, ◌∙◌}
use Rattle.std.specs.Option.{option_or}
use Rattle.gov_ids.specs.Orders.{credential_cmp}
use Rattle.gov_ids.proofs.Totals.{credential_total}
use Rattle.maps.proofs.Kept.{IsMap-with_values}
use Rattle.maps.specs.Maps.{value_at, with_values}
use Rattle.draft_changes.specs.ChangedHot.{ChangedHot}
use Rattle.draft_changes.proofs.Laid.{value_at-with_map}
use Rattle.draft_changes.proofs.hot_changes.HotChanges.latest.Goals as goal

pub returns-clause-value : goal.returns-clause-value
returns-clause-value c =
    let changed = c.self.inside.entries in
    let book = c.args.book.now in
    let cold = c.args.cold.now in
    c.or.ensures ∙ (λ i. option_or (c.get.ensures.value i) (c.get-before.ensures.value i))
    ∙ sym (value_at-with_map credential_total changed book cold c.get.ensures.in_order)
    ∙ ap (λ (x : ChangedHot). value_at credential_cmp (with_values credential_cmp x.entries book) cold) c.self.view_is

pub returns-clause-in_order : goal.returns-clause-in_order
returns-clause-in_order c = IsMap-with_values credential_total c.args.self.now.entries c.args.book.now c.get-before.ensures.in_order
