use Rattle.std.proofs.Common.{◌≡◌, List, false, true, is_some, Option, ap, subst, sym, ◌∙◌}
use Rattle.gov_ids.specs.declared.PoolId.{PoolId}
use Rattle.gov_ids.specs.Orders.{pool_cmp}
use Rattle.gov_ids.proofs.Exacts.{pool_exact}
use Rattle.gov_ids.proofs.Totals.{pool_total}
use Rattle.book_records.specs.declared.pool.Pool.{Pool}
use Rattle.maps.proofs.Joined.{on_err}
use Rattle.maps.specs.Maps.{has_key, without_key}
use Rattle.maps.specs.Replaced.{with_option}
use Rattle.draft_changes.specs.ChangedPools.{ChangedPools, IsOver, covered_by}
use Rattle.draft_changes.proofs.Covering.{covered_more, covered_put, covered_undone, from_err, from_ok}
use Rattle.draft_changes.proofs.pool_changes.PoolChanges.set.Goals as goal

pub returns-then-is_some-clause-over : goal.returns-then-is_some-clause-over
returns-then-is_some-clause-over c =
    let changed = c.self.inside.entries in
    let book = c.args.book.now in
    let over : c.self.inside.covered ≡ covered_by changed book = subst (λ (x : ChangedPools). IsOver book x) (sym c.self.view_is) c.requires.over in
    let known : has_key pool_cmp changed c.args.p ≡ true = ap (λ (o : Option Pool). is_some o) (sym c.get.ensures.value) ∙ sym c.is_some.ensures ∙ c.if-is_some.true in
    over ∙ covered_put pool_total c.args.p c.args.pool changed c.restore.result book c.restore.new.self c.restore.ensures.ok c.restore.ensures.err known

-- where memory ran out, nothing is changed and what is covered is as before
same : (c : goal.After-forget) → c.restore-put.new.self ≡ c.self.inside.entries
same c = from_err c.restore-put.result (sym c.is_err.ensures.value ∙ c.if-is_err.true) c.restore-put.ensures.err

undone : (c : goal.After-forget) → c.forget.new.self ≡ covered_by c.self.inside.entries c.args.book.now
undone c =
    let changed = c.self.inside.entries in
    let book = c.args.book.now in
    let p = c.args.p in
    let over : c.self.inside.covered ≡ covered_by changed book = subst (λ (x : ChangedPools). IsOver book x) (sym c.self.view_is) c.requires.over in
    let unknown : has_key pool_cmp changed p ≡ false = ap (λ (o : Option Pool). is_some o) (sym c.get.ensures.value) ∙ sym c.is_some.ensures ∙ c.if-is_some.false in
    c.forget.ensures
    ∙ ap (λ (es : List (PoolId × Pool)). without_key pool_cmp p es) (c.in_ok-restore.ensures.ok ∙ ap (λ (es : List (PoolId × Pool)). with_option pool_cmp p c.get-2.result es) over)
    ∙ covered_undone pool_total p c.args.pool changed pool_exact book c.get-2.ensures.in_order c.get-2.result unknown

pub returns-then-is_err-clause-over : goal.returns-then-is_err-clause-over
returns-then-is_err-clause-over c = undone c ∙ ap (λ (es : List (PoolId × Pool)). covered_by es c.args.book.now) (sym (same c))

pub returns-then-is_err-clause-err : goal.returns-then-is_err-clause-err
returns-then-is_err-clause-err c =
    let book = c.args.book.now in
    let over : c.self.inside.covered ≡ covered_by c.self.inside.entries book = subst (λ (x : ChangedPools). IsOver book x) (sym c.self.view_is) c.requires.over in
    on_err c.restore-put.result ((λ i. record { entries = same c i; covered = (undone c ∙ sym over) i }) ∙ c.self.view_is)

pub returns-else-is_err-clause-over : goal.returns-else-is_err-clause-over
returns-else-is_err-clause-over c =
    let changed = c.self.inside.entries in
    let book = c.args.book.now in
    let p = c.args.p in
    let over : c.self.inside.covered ≡ covered_by changed book = subst (λ (x : ChangedPools). IsOver book x) (sym c.self.view_is) c.requires.over in
    let put = from_ok c.restore-put.result (sym c.is_err.ensures.value ∙ c.if-is_err.false) c.restore-put.ensures.ok in
    c.in_ok-restore.ensures.ok
    ∙ (λ i. with_option pool_cmp p (c.get-2.ensures.value i) (over i))
    ∙ covered_more pool_total p c.args.pool changed pool_exact book c.get-2.ensures.in_order
    ∙ ap (λ (es : List (PoolId × Pool)). covered_by es book) (sym put)
