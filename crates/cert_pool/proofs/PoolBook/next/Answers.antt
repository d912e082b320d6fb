use Rattle.std.proofs.Common.{List, option_map, slice_get, ap, sym, ◌∙◌}
use Rattle.std.specs.Bound.{bound_map}
use Rattle.gov_ids.specs.declared.PoolId.{PoolId}
use Rattle.gov_ids.specs.Orders.{pool_cmp}
use Rattle.book_records.specs.declared.pool.Pool.{Pool}
use Rattle.maps.proofs.Next.{entry_after-range}
use Rattle.maps.specs.Maps.{entry_after}
use Rattle.cert_pool.proofs.PoolBook.next.Goals as goal

pub returns-in_err-p-clause-value : goal.returns-in_err-p-clause-value
returns-in_err-p-clause-value c =
    c.from_residual.ensures ∙ sym (ap (λ (es : List (PoolId × Pool)). slice_get es 0) c.in_err-p.ensures.steps.0)
    ∙ entry_after-range pool_cmp _ _ _ _ _ c.keys_past.ensures.start (ap (bound_map (λ k. k.now)) c.keys_past.ensures.end) (c.range.ensures.between tt)
    ∙ ap (λ (es : List (PoolId × Pool)). entry_after pool_cmp (option_map (λ k. k.now) c.args.after) es) c.self.view_is

pub returns-clause-value : goal.returns-clause-value
returns-clause-value c =
    sym (ap (λ (es : List (PoolId × Pool)). slice_get es 0) c.in_ok-p.ensures.steps)
    ∙ entry_after-range pool_cmp _ _ _ _ _ c.keys_past.ensures.start (ap (bound_map (λ k. k.now)) c.keys_past.ensures.end) (c.range.ensures.between tt)
    ∙ ap (λ (es : List (PoolId × Pool)). entry_after pool_cmp (option_map (λ k. k.now) c.args.after) es) c.self.view_is
