use Rattle.std.proofs.Common.{◌≡◌, ℕ, ◌+◌, ◌^◌, ◌<◌, List, map, ap, sym, subst, ◌∙◌}
use Rattle.std.proofs.lemmas.Result.{IfOk-weaker}
use Rattle.coin_frac.specs.Totals.{total_of}
use Rattle.freeze.specs.Pools.{pool_by}
use Rattle.gov_ids.specs.declared.PoolId.{PoolId}
use Rattle.snapshots.specs.declared.frozen.FrozenPool.{FrozenPool}
use Rattle.epoch_start.specs.Begun.{accounts_of_pools}
use Rattle.epoch_start.proofs.Begun.{accounts_are, pools_are, pools_have_room}
use Rattle.epoch_start.proofs.copies.pools_copy.Goals as goal

pub frozen_pools-requires : goal.frozen_pools-requires
frozen_pools-requires c = record {
  room = subst (λ (m : List (PoolId × ℕ)). total_of m + total_of c.in_ok-deposits.deposits < 2 ^ 64) (sym c.as_slice.ensures) (pools_have_room c.args.b.now c.in_ok-deposits.deposits c.requires c.in_ok-deposits.ensures.total);
}

pub returns : goal.returns
returns c =
    let b = c.args.b.now in
    let a = c.book-accounts.result.now in
    let deposits = c.in_ok-deposits.deposits in
    let as_mark = λ (l : List FrozenPool) (h : l ≡ map (pool_by b.pools a.live deposits) c.as_slice.result.now). h ∙ ap (λ (m : List (PoolId × ℕ)). map (pool_by b.pools a.live deposits) m) c.as_slice.ensures in
    record {
      copy = IfOk-weaker c.frozen_pools.result _ _
          (λ (l : List FrozenPool) (h : l ≡ map (pool_by b.pools a.live deposits) c.as_slice.result.now).
          as_mark l h ∙ pools_are c.pools_are_frozen.ensures b a deposits c.book-accounts.ensures.kept c.requires c.book-accounts.ensures.value c.in_ok-deposits.ensures.amounts)
          c.frozen_pools.ensures;
      accounts = IfOk-weaker c.frozen_pools.result _ _
          (λ (l : List FrozenPool) (h : l ≡ map (pool_by b.pools a.live deposits) c.as_slice.result.now).
          ap accounts_of_pools (as_mark l h) ∙ accounts_are b.pools a.live deposits b.snapshots.mark)
          c.frozen_pools.ensures;
    }
