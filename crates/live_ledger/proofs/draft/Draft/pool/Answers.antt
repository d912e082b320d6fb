use Rattle.std.proofs.Common.{List, ap, subst, ◌∙◌}
use Rattle.gov_ids.specs.declared.PoolId.{PoolId}
use Rattle.gov_ids.specs.Orders.{pool_cmp}
use Rattle.book_records.specs.declared.pool.Pool.{Pool}
use Rattle.maps.specs.Maps.{IsMap, value_at, with_values}
use Rattle.live_ledger.specs.Drafts.{Drafted}
use Rattle.live_ledger.proofs.draft.Draft.pool.Goals as goal

pub returns-clause-value : goal.returns-clause-value
returns-clause-value c =
    c.latest.ensures.value
    ∙ ap (λ (es : List (PoolId × Pool)). value_at pool_cmp (with_values pool_cmp c.self.inside.pools.entries es) c.args.p.now) c.pools.ensures
    ∙ ap (λ (d : Drafted). value_at pool_cmp d.ledger.pools c.args.p.now) c.self.view_is

pub returns-clause-map : goal.returns-clause-map
returns-clause-map c =
    subst (λ (d : Drafted). IsMap pool_cmp d.ledger.pools) c.self.view_is
    (subst (λ (es : List (PoolId × Pool)). IsMap pool_cmp (with_values pool_cmp c.self.inside.pools.entries es)) c.pools.ensures c.latest.ensures.in_order)

pub returns-clause-start_map : goal.returns-clause-start_map
returns-clause-start_map c = subst (λ (d : Drafted). IsMap pool_cmp d.start.pools) c.self.view_is c.self.invariant.kept.sound.pools
