use Rattle.std.proofs.Common.{List, ap, drop, fold, ◌+◌, sym, ◌∙◌}
use Rattle.std.proofs.lemmas.List.{at_drop_more, drop_all}
use Rattle.gov_ids.specs.declared.TxId.{TxId}
use Rattle.gov_ids.specs.Orders.{txid_cmp}
use Rattle.gov_ids.proofs.Exacts.{txid_exact}
use Rattle.gov_ids.proofs.Totals.{txid_total}
use Rattle.maps.specs.Maps.{with_key}
use Rattle.stake_book.specs.Stakes.{Stakes, with_used}
use Rattle.resumed_books.proofs.Put.{set_in_order}
use Rattle.resumed_books.proofs.stake.with_used.Goals as goal

abbrev with_ids : List TxId → List TxId → List TxId
with_ids ids used = fold (λ (s : List TxId) (k : TxId). with_key txid_cmp k s) used ids

pub loop-id-init : goal.loop-id-init
loop-id-init c = λ i. with_used (with_ids (c.as_slice-id-items.ensures i) c.args.stake.outputs.used) c.args.stake

pub loop-id-preserved : goal.loop-id-preserved
loop-id-preserved c =
    let items = c.as_slice-id-items.result.now in
    let i = c.loop-id.id-index in
    let old = c.loop-id.stake in
    ap (λ (s : Stakes). with_used (with_ids (drop (i + 1) items) s.outputs.used) s) c.in_ok-mark_used.ensures.ok
    ∙ sym (at_drop_more (λ (left : List TxId). with_used (with_ids left old.outputs.used) old) items i _ c.loop-id-test.true)
    ∙ c.loop-id.invariant

pub returns : goal.returns
returns c =
    let s = c.loop-id.stake in
    let old = c.args.stake in
    sym (ap (λ (left : List TxId). with_used (with_ids left s.outputs.used) s) (drop_all c.loop-id.id-index c.as_slice-id-items.result.now c.loop-id-test.false))
    ∙ c.loop-id.invariant
    ∙ ap (λ (used : List TxId). with_used used old) (ap (λ (used : List TxId). with_ids c.args.used used) c.requires.none ∙ set_in_order txid_total txid_exact c.args.used c.requires.in_order)
