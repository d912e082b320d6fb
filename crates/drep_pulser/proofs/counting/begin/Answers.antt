use Rattle.std.proofs.Common.{List, None, length, ap, sym, subst, ◌∙◌}
use Rattle.gov_ids.specs.declared.Credential.{Credential}
use Rattle.gov_ids.specs.Orders.{credential_cmp}
use Rattle.book_records.specs.declared.Entry.{Entry}
use Rattle.maps.specs.Maps.{IsMap}
use Rattle.view_map.specs.View.{frozen_of}
use Rattle.drep_pulser.specs.Facts.{IsCountIn, IsCountOf}
use Rattle.drep_pulser.proofs.Begun.{begun, begun_in, counts_if}
use Rattle.drep_pulser.proofs.counting.begin.Goals as goal

pub returns-clause-counts : goal.returns-clause-counts
returns-clause-counts c = λ f h.
    let in_order = subst (λ (es : List (Credential × Entry)). IsMap credential_cmp es) (sym h.entries) c.frozen_len.ensures.in_order in
    let is = c.new.ensures ∙ (λ i. record { cursor = None; done = 0; total = c.frozen_len.result; workers = c.args.workers; sums = c.in_ok-sums.ensures i; deposits = c.in_ok-deposits.ensures i }) in
    counts_if (IsCountOf f) c.of-2.result c.new.result c.of-2.ensures
    (subst (IsCountOf f) (sym is)
    (begun c.args.dreps.now.dreps f h.dreps c.frozen_len.result c.args.workers c.args.deposits.now (c.frozen_len.ensures.len ∙ ap (λ (es : List (Credential × Entry)). length es) (sym h.entries)) h.deposits (record { in_order = in_order; room = h.room })))

pub returns-clause-counts_in : goal.returns-clause-counts_in
returns-clause-counts_in c = λ h.
    let es : List (Credential × Entry) = frozen_of credential_cmp c.args.book.now in
    let is = c.new.ensures ∙ (λ i. record { cursor = None; done = 0; total = c.frozen_len.result; workers = c.args.workers; sums = c.in_ok-sums.ensures i; deposits = c.in_ok-deposits.ensures i }) in
    counts_if (IsCountIn es) c.of-2.result c.new.result c.of-2.ensures
    (subst (IsCountIn es) (sym is)
    (begun_in c.args.dreps.now.dreps es c.frozen_len.result c.args.workers c.args.deposits.now c.frozen_len.ensures.len (record { in_order = c.frozen_len.ensures.in_order; room = h })))
