use Rattle.std.proofs.Common.{◌≡◌, List, ◌||◌, nat_lt, ap, subst, sym, ◌∙◌}
use Rattle.gov_ids.specs.declared.PoolId.{PoolId}
use Rattle.gov_ids.specs.Orders.{pool_cmp}
use Rattle.book_records.specs.declared.pool.Pool.{Pool}
use Rattle.book_records.specs.Pools.{is_key_of_other}
use Rattle.cert_pool.specs.Keys.{count_of_others}
use Rattle.maps.specs.Maps.{with_values}
use Rattle.draft_changes.specs.ChangedPools.{ChangedPools, IsOver, covered_by}
use Rattle.draft_changes.proofs.PoolChanging.{key_after}
use Rattle.draft_changes.proofs.pool_changes.PoolChanges.key_of_other.Goals as goal

pub returns-then-key_of_other : goal.returns-then-key_of_other
returns-then-key_of_other c =
    let changed = c.self.inside.entries in
    let book = c.args.book.now in
    let key = c.args.key.now in
    let p = c.args.p.now in
    let more = nat_lt (count_of_others key p (covered_by changed book)) (count_of_others key p book) in
    c.if-key_of_other.true
    ∙ sym (key_after changed book key p c.key_of_other.ensures.in_order c.count_of_others-before.ensures.in_order ∙ ap (λ b. b || more) (sym c.key_of_other.ensures.value ∙ c.if-key_of_other.true))
    ∙ ap (λ (x : ChangedPools). is_key_of_other key p (with_values pool_cmp x.entries book)) c.self.view_is

pub returns-else-key_of_other : goal.returns-else-key_of_other
returns-else-key_of_other c =
    let changed = c.self.inside.entries in
    let book = c.args.book.now in
    let key = c.args.key.now in
    let p = c.args.p.now in
    let more = nat_lt (count_of_others key p (covered_by changed book)) (count_of_others key p book) in
    let over : c.self.inside.covered ≡ covered_by changed book = subst (λ (x : ChangedPools). IsOver book x) (sym c.self.view_is) c.requires.over in
    let covered = c.count_of_others-covered.ensures.count ∙ ap (λ (es : List (PoolId × Pool)). count_of_others key p es) over in
    (λ i. nat_lt (covered i) (c.count_of_others-before.ensures.count i))
    ∙ sym (key_after changed book key p c.key_of_other.ensures.in_order c.count_of_others-before.ensures.in_order ∙ ap (λ b. b || more) (sym c.key_of_other.ensures.value ∙ c.if-key_of_other.false))
    ∙ ap (λ (x : ChangedPools). is_key_of_other key p (with_values pool_cmp x.entries book)) c.self.view_is
