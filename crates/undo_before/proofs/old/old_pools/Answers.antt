use Rattle.std.proofs.Common.{◌≡◌, ◌∙◌, rules}
use Rattle.std.proofs.lemmas.Iterator.{YieldsList-from_map, YieldsList-from_slice, items_from_collect}
use Rattle.std.proofs.lemmas.Result.{IfOk-at_ok}
use Rattle.gov_ids.specs.declared.PoolId.{PoolId}
use Rattle.gov_ids.specs.Orders.{pool_cmp}
use Rattle.maps.specs.Maps.{value_at}
use Rattle.undo_before.specs.Old.{old_at}
use Rattle.undo_before.proofs.old.old_pools.Goals as goal

pub returns : goal.returns
returns c =
    let collected : c.in_ok-olds.olds.items ≡ old_at pool_cmp c.args.book.now c.args.names.now =
    IfOk-at_ok _ c.in_ok-olds.was
    (items_from_collect _ c.collect.ensures.ran (YieldsList-from_map _ (λ (p : PoolId). (p, value_at pool_cmp c.args.book.now p)) (YieldsList-from_slice c.args.names.now cc) c.map.ensures.closure (λ x r q k. search rules))) in
    c.from_vec.ensures ∙ collected
