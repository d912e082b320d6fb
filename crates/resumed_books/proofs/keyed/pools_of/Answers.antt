use Rattle.std.proofs.Common.{ap, ◌∙◌}
use Rattle.book_records.specs.declared.pool.Pool.{Pool}
use Rattle.gov_ids.specs.declared.PoolId.{PoolId}
use Rattle.gov_ids.specs.Orders.{pool_cmp}
use Rattle.gov_ids.proofs.Exacts.{pool_exact}
use Rattle.gov_ids.proofs.Totals.{pool_total}
use Rattle.maps.specs.Maps.{with_value, with_values}
use Rattle.resumed_books.proofs.Put.{listed_done, listed_next}
use Rattle.resumed_books.proofs.keyed.pools_of.Goals as goal

pub loop-id-init : goal.loop-id-init
loop-id-init c = λ i. with_values pool_cmp (c.as_slice-id-items.ensures i) (c.new-book.ensures i)

pub loop-id-preserved : goal.loop-id-preserved
loop-id-preserved c =
    let item = c.loop-id-item.result in
    listed_next pool_cmp c.as_slice-id-items.result.now c.loop-id.id-index item c.loop-id.book c.restore.new.self c.loop-id-test.true
    (c.in_ok-restore.ensures.ok ∙ ap (λ (e : PoolId × Pool). with_value pool_cmp e.0 e.1 c.loop-id.book) c.loop-id-item.is)
    ∙ c.loop-id.invariant

pub returns : goal.returns
returns c =
    listed_done pool_total pool_exact c.as_slice-id-items.result.now c.args.pools c.loop-id.id-index c.loop-id.book c.loop-id-test.false c.requires c.loop-id.invariant
