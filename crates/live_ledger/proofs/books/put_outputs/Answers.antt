use Rattle.std.proofs.Common.{◌≡◌, List, None, ap, arith, drop, length-drop, refl, ◌∙◌}
use Rattle.gov_ids.proofs.Totals.{outref_total}
use Rattle.gov_ids.specs.declared.Credential.{Credential}
use Rattle.gov_ids.specs.Orders.{outref_cmp}
use Rattle.book_records.specs.declared.Registered.{Registered}
use Rattle.ledger_model.specs.Transaction.{kept_output}
use Rattle.maps.proofs.Fresh.{fresh_from_absent}
use Rattle.maps.specs.Maps.{value_at}
use Rattle.std.proofs.lemmas.List.Sums.{sum_by-drop_more}
use Rattle.stake_book.specs.Stakes.{Stakes, accounts_of, balances_in}
use Rattle.tx_records.specs.declared.tx.TxOutput.{TxOutput}
use Rattle.tx_balance.proofs.Outputs.{made_once}
use Rattle.live_ledger.proofs.Puts.{made_absent, made_at, made_fresh, made_lovelace, made_rest, made_sum}
use Rattle.live_ledger.proofs.books.put_outputs.Goals as goal

pub loop-output-init : goal.loop-output-init
loop-output-init c =
    rw c.as_slice-output-items.ensures (record {
      place = refl;
      fresh = fresh_from_absent outref_total (made_at c.args.tx.now.id 0 c.args.tx.now.outputs) c.args.stake.now.outputs.outputs (made_once c.args.tx.now.id kept_output 0 c.args.tx.now.outputs) c.requires.absent;
      sum = refl;
      rest = refl;
      kept = record { accounts = refl; frozen = refl };
    })

pub add-requires-clause-absent : goal.add-requires-clause-absent
add-requires-clause-absent c =
    made_absent c.args.tx.now.id c.loop-output.index (drop c.loop-output.output-index c.as_slice-output-items.result.now) c.loop-output.stake.outputs.outputs
    (omega (arith, length-drop c.loop-output.output-index c.as_slice-output-items.result.now)) c.loop-output.invariant.fresh

pub add-requires-clause-room : goal.add-requires-clause-room
add-requires-clause-room c =
    let same : balances_in (accounts_of c.loop-output.stake) ≡ balances_in (accounts_of c.args.stake.now) = ap (λ (es : List (Credential × Registered)). balances_in es) c.loop-output.invariant.kept.accounts in
    let room = c.requires.room in
    grind (arith, sum_by-drop_more made_lovelace, same, room)

pub loop-output-preserved : goal.loop-output-preserved
loop-output-preserved c =
    let id = c.args.tx.now.id in
    let outputs = c.as_slice-output-items.result.now in
    let n = c.loop-output.index in
    let i = c.loop-output.output-index in
    let l = c.loop-output-test.true in
    let h = c.loop-output.invariant in
    let u = c.loop-output.stake.outputs in
    let v = c.add.new.self.outputs in
    let k = c.in_ok-output.ensures ∙ ap (λ (x : TxOutput). kept_output x) c.output-item.is in
    let e = c.in_ok-add.ensures in
    let p = ap (λ (s : Stakes). s.outputs) e.ok in
    let absent : value_at outref_cmp c.loop-output.stake.outputs.outputs (record { tx = c.args.tx.now.id; index = c.loop-output.index }) ≡ None =
    made_absent id n (drop i outputs) c.loop-output.stake.outputs.outputs (omega (arith, length-drop i outputs)) h.fresh in
    record {
      place = omega arith;
      fresh = made_fresh id outputs u v n i _ c.in_ok-output.output l k p h.fresh;
      sum = made_sum id outputs u v n i _ c.in_ok-output.output l k p _ absent h.sum;
      rest = made_rest id outputs u v n i _ c.in_ok-output.output l k p ∙ h.rest;
      kept = record { accounts = e.registered ∙ h.kept.accounts; frozen = e.frozen ∙ h.kept.frozen };
    }
