use Rattle.std.proofs.Common.{Option, ap, ◌∙◌}
use Rattle.std.proofs.lemmas.Result.{on_ok_weaker}
use Rattle.std.specs.Prelude.{is_some, if◌then◌else◌}
use Rattle.book_records.specs.declared.pool.Pool.{Pool}
use Rattle.book_records.specs.Pools.{pool_after}
use Rattle.live_ledger.specs.Drafts.{with_pool}
use Rattle.live_ledger.proofs.draft.Draft.register_found_pool.Goals as goal

pub returns-clause-ok : goal.returns-clause-ok
returns-clause-ok c =
    let d = c.args.self.now in
    let known = c.requires.found in
    let pool = c.registered.ensures ∙ ap (λ (x : Option Pool). pool_after c.args.deposit c.args.terms x) known in
    let paid = c.paid_for-paid.ensures ∙ ap (λ (x : Option Pool). if is_some x then 0 else c.args.deposit) known in
    on_ok_weaker c.put_pool.result (λ done. done ∙ (λ i. with_pool c.args.p (pool i) (paid i) d)) c.put_pool.ensures.ok
