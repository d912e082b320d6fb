use Rattle.std.proofs.Common.{option_map, ap, sym, ◌∙◌}
use Rattle.gov_ids.specs.Orders.{credential_cmp}
use Rattle.gov_ids.proofs.Totals.{credential_total}
use Rattle.view_map.specs.Walk.{entries_past}
use Rattle.state_print.specs.Walks.{entry_then}
use Rattle.state_print.proofs.Walks.{walked}
use Rattle.state_print.proofs.books.DrepBookWalked.following.Goals as goal

pub returns : goal.returns
returns c =
    walked credential_total (option_map (λ k. k.now) c.args.after) c.args.self.now.dreps c.next.ensures.in_order
    ∙ ap (entry_then (λ k. entries_past credential_cmp k c.args.self.now.dreps)) (sym c.next.ensures.value)
