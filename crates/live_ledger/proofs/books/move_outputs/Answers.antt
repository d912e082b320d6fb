use Rattle.std.proofs.Common.{◌≡◌, List, None, ap, arith, subst, sym}
use Rattle.std.specs.List.{AllByRecursion}
use Rattle.std.specs.Map.{keys_of}
use Rattle.book_records.specs.declared.Output.{Output}
use Rattle.book_records.specs.declared.Registered.{Registered}
use Rattle.book_records.specs.Outputs.{lovelace_in}
use Rattle.gov_ids.specs.declared.Credential.{Credential}
use Rattle.gov_ids.specs.declared.OutRef.{OutRef}
use Rattle.gov_ids.specs.Orders.{outref_cmp}
use Rattle.ledger_model.specs.Transaction.{made_outputs}
use Rattle.maps.specs.Maps.{value_at}
use Rattle.stake_book.specs.Stakes.{balances_in}
use Rattle.utxo_set.specs.Utxos.{Utxos}
use Rattle.live_ledger.proofs.Parts.{made_from_taken, taken_from}
use Rattle.live_ledger.proofs.books.move_outputs.Goals as goal

pub put_outputs-requires-clause-absent : goal.put_outputs-requires-clause-absent
put_outputs-requires-clause-absent c =
    let taken = taken_from c.args.stake.now c.take_outputs.new.stake _ c.args.tx.now.inputs c.as_slice.ensures c.in_ok-take_outputs.ensures.outputs c.in_ok-take_outputs.ensures.rest in
    subst (λ (es : List (OutRef × Output)). AllByRecursion (λ r. value_at outref_cmp es r ≡ None) (keys_of (made_outputs c.args.tx.now))) (sym (ap (λ (u : Utxos). u.outputs) taken.outputs)) c.requires.absent

pub put_outputs-requires-clause-room : goal.put_outputs-requires-clause-room
put_outputs-requires-clause-room c =
    let taken = taken_from c.args.stake.now c.take_outputs.new.stake _ c.args.tx.now.inputs c.as_slice.ensures c.in_ok-take_outputs.ensures.outputs c.in_ok-take_outputs.ensures.rest in
    omega (
      arith,
      c.requires.room,
      ap (λ (u : Utxos). lovelace_in u.outputs) taken.outputs,
      ap (λ (es : List (Credential × Registered)). balances_in es) c.in_ok-take_outputs.ensures.rest.accounts,
    )

pub returns : goal.returns
returns c =
    let taken = taken_from c.args.stake.now c.take_outputs.new.stake _ c.args.tx.now.inputs c.as_slice.ensures c.in_ok-take_outputs.ensures.outputs c.in_ok-take_outputs.ensures.rest in
    made_from_taken c.args.stake.now c.take_outputs.new.stake c.put_outputs.new.stake c.mark_used.new.self c.args.tx.now.inputs (made_outputs c.args.tx.now) c.args.tx.now.id taken c.in_ok-put_outputs.ensures.outputs c.in_ok-put_outputs.ensures.rest c.in_ok-mark_used.ensures.ok
