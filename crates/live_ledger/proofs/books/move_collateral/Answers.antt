use Rattle.std.proofs.Common.{◌≡◌, List, None, ap, arith, subst, sym, ◌∙◌}
use Rattle.std.specs.List.{AllByRecursion}
use Rattle.std.specs.Map.{keys_of}
use Rattle.book_records.specs.declared.Output.{Output}
use Rattle.book_records.specs.declared.Registered.{Registered}
use Rattle.book_records.specs.Outputs.{lovelace_in}
use Rattle.gov_ids.specs.declared.Credential.{Credential}
use Rattle.gov_ids.specs.declared.OutRef.{OutRef}
use Rattle.gov_ids.specs.Orders.{outref_cmp}
use Rattle.ledger_model.specs.Transaction.{made_return}
use Rattle.maps.specs.Maps.{value_at, without_keys}
use Rattle.stake_book.specs.Stakes.{balances_in}
use Rattle.utxo_set.specs.Utxos.{Utxos}
use Rattle.live_ledger.proofs.Parts.{made_from_taken, taken_from}
use Rattle.live_ledger.proofs.books.move_collateral.Goals as goal

-- the outputs that are left are those without the collateral
left_is : (rs taken : List OutRef) (before after : Utxos) → rs ≡ taken → after ≡ record before { outputs = without_keys outref_cmp rs before.outputs } → after.outputs ≡ without_keys outref_cmp taken before.outputs
left_is rs taken before after e p =
    ap (λ (u : Utxos). u.outputs) p ∙ ap (λ (ks : List OutRef). without_keys outref_cmp ks before.outputs) e

pub overflow_sub-collateral : goal.overflow_sub-collateral
overflow_sub-collateral c =
    let held = c.total-held.ensures.sum ∙ ap (λ (u : Utxos). lovelace_in u.outputs) c.outputs.ensures.value in
    let kept = c.total.ensures.sum ∙ ap (λ (u : Utxos). lovelace_in u.outputs) c.outputs-2.ensures.value in
    omega (arith, c.requires.held, held, kept, ap (λ (es : List (OutRef × Output)). lovelace_in es) (left_is _ c.args.tx.now.collateral c.args.stake.now.outputs c.take_outputs.new.stake.outputs c.as_slice.ensures c.in_ok-take_outputs.ensures.outputs))

pub put_return-requires-clause-absent : goal.put_return-requires-clause-absent
put_return-requires-clause-absent c =
    subst (λ (es : List (OutRef × Output)). AllByRecursion (λ r. value_at outref_cmp es r ≡ None) (keys_of (made_return c.args.tx.now))) (sym (left_is _ c.args.tx.now.collateral c.args.stake.now.outputs c.take_outputs.new.stake.outputs c.as_slice.ensures c.in_ok-take_outputs.ensures.outputs)) c.requires.absent

pub put_return-requires-clause-room : goal.put_return-requires-clause-room
put_return-requires-clause-room c =
    omega (
      arith,
      c.requires.room,
      ap (λ (es : List (OutRef × Output)). lovelace_in es) (left_is _ c.args.tx.now.collateral c.args.stake.now.outputs c.take_outputs.new.stake.outputs c.as_slice.ensures c.in_ok-take_outputs.ensures.outputs),
      ap (λ (es : List (Credential × Registered)). balances_in es) c.in_ok-take_outputs.ensures.rest.accounts,
    )

pub returns-clause-made : goal.returns-clause-made
returns-clause-made c =
    let taken = taken_from c.args.stake.now c.take_outputs.new.stake _ c.args.tx.now.collateral c.as_slice.ensures c.in_ok-take_outputs.ensures.outputs c.in_ok-take_outputs.ensures.rest in
    made_from_taken c.args.stake.now c.take_outputs.new.stake c.put_return.new.stake c.mark_used.new.self c.args.tx.now.collateral (made_return c.args.tx.now) c.args.tx.now.id taken c.in_ok-put_return.ensures.outputs c.in_ok-put_return.ensures.rest c.in_ok-mark_used.ensures.ok

pub returns-clause-left : goal.returns-clause-left
returns-clause-left c =
    let held = c.total-held.ensures.sum ∙ ap (λ (u : Utxos). lovelace_in u.outputs) c.outputs.ensures.value in
    let kept = c.total.ensures.sum ∙ ap (λ (u : Utxos). lovelace_in u.outputs) c.outputs-2.ensures.value in
    omega (arith, c.requires.held, held, kept, ap (λ (es : List (OutRef × Output)). lovelace_in es) (left_is _ c.args.tx.now.collateral c.args.stake.now.outputs c.take_outputs.new.stake.outputs c.as_slice.ensures c.in_ok-take_outputs.ensures.outputs))
