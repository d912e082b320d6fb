-- The pool is the one that the row shows.
use Rattle.std.proofs.Common.{◌≡◌, true, ap, subst, sym, ◌∙◌}
use Rattle.gov_ids.specs.declared.PoolId.{PoolId}
use Rattle.book_records.specs.declared.pool.Pool.{Pool}
use Rattle.shown_lists.specs.Only.{IsOnly}
use Rattle.checkpoint_lists.specs.Shown.{pool_row}
use Rattle.book_rows.specs.Rows.{pool_of_row}
use Rattle.book_rows.proofs.PoolTells.{pool_only}
use Rattle.book_rows.proofs.pools.PoolRowsRowKind.item_of.Goals as goal

pub returns : goal.returns
returns c =
    subst (λ o. IsOnly (λ (p : PoolId × Pool). true ≡ true) pool_row c.args.shown.now o)
    (sym (c.pool_of.ensures ∙ ap (λ ns. pool_of_row (c.args.shown.now.0, ns)) c.as_slice.ensures)) (pool_only c.args.shown.now)
