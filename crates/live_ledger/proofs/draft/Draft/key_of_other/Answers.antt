use Rattle.std.proofs.Common.{List, ap, subst, sym, ◌∙◌}
use Rattle.gov_ids.specs.declared.PoolId.{PoolId}
use Rattle.gov_ids.specs.Orders.{pool_cmp}
use Rattle.book_records.specs.declared.pool.Pool.{Pool}
use Rattle.book_records.specs.Pools.{is_key_of_other}
use Rattle.draft_changes.specs.ChangedPools.{IsOver}
use Rattle.maps.specs.Maps.{with_values}
use Rattle.live_ledger.specs.Drafts.{Drafted}
use Rattle.live_ledger.proofs.draft.Draft.key_of_other.Goals as goal

-- what is covered are pools of the ledger before
pub key_of_other-requires : goal.key_of_other-requires
key_of_other-requires c = record { over = subst (λ (es : List (PoolId × Pool)). IsOver es c.self.inside.pools) (sym c.pools.ensures) c.self.invariant.pools_over }

pub returns : goal.returns
returns c =
    let key = c.args.key.now in
    let p = c.args.p.now in
    c.key_of_other.ensures
    ∙ ap (λ (es : List (PoolId × Pool)). is_key_of_other key p (with_values pool_cmp c.self.inside.pools.entries es)) c.pools.ensures
    ∙ ap (λ (d : Drafted). is_key_of_other key p d.ledger.pools) c.self.view_is
