use Rattle.std.proofs.Common.{◌+◌, add-zero, sym, ◌∙◌}
use Rattle.std.proofs.lemmas.Result.{on_ok_weaker}
use Rattle.gov_ids.proofs.Totals.{pool_total}
use Rattle.book_records.specs.Pools.{retiring}
use Rattle.live_ledger.proofs.Replacing.{with_value-changed_at}
use Rattle.live_ledger.proofs.draft.Draft.retire_found_pool.Goals as goal

pub returns-clause-ok : goal.returns-clause-ok
returns-clause-ok c =
    let d = c.args.self.now in
    let pools = with_value-changed_at pool_total c.args.p (retiring c.args.epoch) c.args.found d.ledger.pools c.put_pool.ensures.map (sym c.requires.found) in
    on_ok_weaker c.put_pool.result
    (λ done. done ∙ (λ i. record d { ledger = record d.ledger { pools = pools i }; deposits = add-zero d.deposits i; changes = d.changes + 1 }))
    c.put_pool.ensures.ok
