use Rattle.std.proofs.Common.{◌≡◌, List, ◌∷◌, Option, length, ap, subst, sym, ◌∙◌, arith}
use Rattle.std.specs.Vec.Iter.{into_iter_items}
use Rattle.gov_ids.proofs.Totals.{outref_total}
use Rattle.gov_ids.specs.declared.Credential.{Credential}
use Rattle.gov_ids.specs.declared.OutRef.{OutRef}
use Rattle.gov_ids.specs.Orders.{outref_cmp}
use Rattle.book_records.specs.declared.Output.{Output}
use Rattle.book_records.specs.declared.Registered.{Registered}
use Rattle.maps.proofs.Replaced.{IsMap-with_option}
use Rattle.maps.specs.Maps.{IsMap}
use Rattle.stake_book.specs.Stakes.{accounts_of, balances_in}
use Rattle.utxo_set.specs.Utxos.{Utxos}
use Rattle.undo_back.proofs.Rooms.{outputs_backing, outputs_next, outputs_now}
use Rattle.undo_back.proofs.stake.put_outputs.Goals as goal

pub put_output-requires-clause-room : goal.put_output-requires-clause-room
put_output-requires-clause-room c =
    outputs_now (balances_in (accounts_of c.args.stake.now)) (balances_in (accounts_of c.loop-r.stake)) c.in-Some.r c.in-Some.to (into_iter_items c.next.new.self) (into_iter_items c.loop-r.r-iterator) c.loop-r.stake.outputs.outputs
    c.in-Some.ensures.steps.0 (ap (λ (es : List (Credential × Registered)). balances_in es) c.loop-r.invariant.accounts) c.loop-r.invariant.room

pub loop-r-preserved : goal.loop-r-preserved
loop-r-preserved c =
    let h = c.loop-r.invariant in
    let r = c.in-Some.r in
    let to = c.in-Some.to in
    let rest = into_iter_items c.next.new.self in
    let left = into_iter_items c.loop-r.r-iterator in
    let u = c.loop-r.stake.outputs in
    let v = c.put_output.new.stake.outputs in
    let steps : left ≡ (r, to) ∷ rest = c.in-Some.ensures.steps.0 in
    let e = c.in_ok-put_output.ensures in
    record {
      left =
          let was = h.left in
          let gone = c.in-Some.ensures.steps.1 in
          let short = ap (λ (xs : List (OutRef × Option Output)). length xs) steps in
          omega arith;
      in_order = subst (λ (x : Utxos). IsMap outref_cmp x.outputs) (sym e.outputs) (IsMap-with_option outref_total r to u.outputs h.in_order);
      room = outputs_next (balances_in (accounts_of c.args.stake.now)) r to rest left u.outputs v.outputs steps (ap (λ (x : Utxos). x.outputs) e.outputs) h.room;
      outputs = outputs_backing r to rest left u v steps e.outputs ∙ h.outputs;
      accounts = e.accounts ∙ h.accounts;
      frozen = e.frozen ∙ h.frozen;
    }
