use Rattle.std.proofs.Common.{◌≡◌, ℕ, ◌∙◌, List, Result, Ok, Err, map, unwrap_or}
use Rattle.std.specs.Map.{keys_of}
use Rattle.std.specs.Result.{IfOk}
use Rattle.book_records.specs.declared.Entry.{Entry}
use Rattle.gov_actions.specs.declared.action.Proposal.{Proposal}
use Rattle.gov_ids.specs.declared.Account.{Account}
use Rattle.gov_ids.specs.declared.Credential.{Credential}
use Rattle.gov_ids.specs.declared.PoolId.{PoolId}
use Rattle.gov_ids.specs.Orders.{pool_cmp}
use Rattle.gov_model.specs.Snapshot.{Snapshot}
use Rattle.maps.specs.Maps.{IsMap, value_at}
use Rattle.snapshots.specs.declared.frozen.FrozenPool.{FrozenPool}
use Rattle.snapshots.specs.Frozen.{frozen_copy_of}
use Rattle.resume_checks.proofs.Ordered.{set_from_rising}
use Rattle.frozen_lists.specs.Pools.{paid_with, pool_by}
use Rattle.frozen_lists.proofs.Marks.{frozen_by}
use Rattle.frozen_lists.proofs.frozen.pools_of.Goals as goal

by_result : {E : Type 0} (entries : List (Credential × Entry)) (mark : List (PoolId × ℕ)) (accounts : List (PoolId × Account)) (proposals : List Proposal) (deposits : List (PoolId × ℕ))
    → IsMap pool_cmp mark → ((p : PoolId) → unwrap_or (value_at pool_cmp deposits p) 0 ≡ paid_with entries proposals p)
    → (r : Result (List FrozenPool) E) → IfOk r (λ l. l ≡ map (pool_by entries accounts deposits) mark)
    → IfOk r (λ pools. (s : Snapshot) → s.entries ≡ entries → s.mark ≡ mark → s.pool_accounts ≡ accounts → s.proposals ≡ proposals → pools ≡ (frozen_copy_of s).pools)
by_result entries mark accounts proposals deposits ordered paid (Ok l) h = λ s he hm ha hp. h ∙ frozen_by entries mark accounts proposals deposits ordered paid s he hm ha hp
by_result entries mark accounts proposals deposits ordered paid (Err e) h = tt

pub returns : goal.returns
returns c =
    by_result c.args.entries.now c.args.mark.now c.args.accounts.now c.args.proposals.now _ (set_from_rising pool_cmp (keys_of c.args.mark.now) c.requires.mark)
    c.in_ok-deposits.ensures.amounts c.frozen_pools.result c.frozen_pools.ensures
