use Rattle.std.proofs.Common.{◌∙◌}
use Rattle.gov_ids.specs.Orders.{credential_cmp}
use Rattle.gov_ids.proofs.Exacts.{credential_exact}
use Rattle.gov_ids.proofs.Totals.{credential_total}
use Rattle.maps.specs.Maps.{with_values}
use Rattle.resumed_books.proofs.Put.{listed_done, listed_next}
use Rattle.resumed_books.proofs.keyed.hot_of.Goals as goal

pub loop-cold-init : goal.loop-cold-init
loop-cold-init c = λ i. with_values credential_cmp (c.as_slice-cold-items.ensures i) (c.new-book.ensures i)

pub loop-cold-preserved : goal.loop-cold-preserved
loop-cold-preserved c =
    listed_next credential_cmp c.as_slice-cold-items.result.now c.loop-cold.cold-index _ c.loop-cold.book c.set.new.self c.loop-cold-test.true c.in_ok-set.ensures.ok
    ∙ c.loop-cold.invariant

pub returns : goal.returns
returns c =
    listed_done credential_total credential_exact c.as_slice-cold-items.result.now c.args.hot c.loop-cold.cold-index c.loop-cold.book c.loop-cold-test.false c.requires c.loop-cold.invariant
