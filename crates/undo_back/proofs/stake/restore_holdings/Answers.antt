use Rattle.std.proofs.Common.{List, ap, subst, sym, ◌∙◌}
use Rattle.std.proofs.lemmas.Result.{on_ok_weaker}
use Rattle.gov_ids.proofs.Exacts.{credential_exact}
use Rattle.gov_ids.proofs.Totals.{credential_total, outref_total}
use Rattle.gov_ids.specs.declared.Credential.{Credential}
use Rattle.gov_ids.specs.Orders.{credential_cmp, outref_cmp}
use Rattle.book_records.specs.declared.Registered.{Registered}
use Rattle.book_records.specs.Outputs.{lovelace_in}
use Rattle.maps.specs.Maps.{IsMap}
use Rattle.stake_book.specs.Stakes.{accounts_of, balances_in}
use Rattle.utxo_set.specs.Utxos.{Utxos}
use Rattle.undo_model.specs.Undone.{with_old}
use Rattle.undo_back.specs.Steps.{AccountsFit, OutputsFit, without_named}
use Rattle.undo_back.proofs.PutBack.{kept_named, old_after_gone}
use Rattle.undo_back.proofs.Rooms.{accounts_fit, outputs_back, outputs_fit, taken_from}
use Rattle.undo_back.proofs.stake.restore_holdings.Goals as goal

pub put_accounts-requires : goal.put_accounts-requires
put_accounts-requires c =
    let s = c.args.stake.now in
    let lost = c.in_ok-end_accounts.ensures.outputs
    ∙ taken_from c.args.outputs c.as_slice.result.now c.args.stake.now.outputs c.take_outputs.new.stake.outputs c.as_slice.ensures c.in_ok-take_outputs.ensures.outputs in
    let ended = c.in_ok-end_accounts.ensures.accounts ∙ ap (λ (es : List (Credential × Registered)). without_named credential_cmp c.args.accounts.now es) c.in_ok-take_outputs.ensures.accounts in
    record {
      room = subst (λ (u : Utxos). AccountsFit (lovelace_in u.outputs) c.args.accounts.now (accounts_of c.end_accounts.new.stake)) (sym lost)
          (subst (λ (es : List (Credential × Registered)). AccountsFit (lovelace_in (without_named outref_cmp c.args.outputs s.outputs.outputs)) c.args.accounts.now es) (sym ended)
          (accounts_fit c.args.outputs c.args.accounts.now s c.requires (subst (λ (u : Utxos). IsMap outref_cmp u.outputs) c.outputs.ensures.value c.total-total.ensures.in_order.outputs) c.outputs.ensures.kept.in_order));
    }

pub put_outputs-requires-clause-in_order : goal.put_outputs-requires-clause-in_order
put_outputs-requires-clause-in_order c =
    let lost = c.in_ok-put_accounts.ensures.outputs ∙ c.in_ok-end_accounts.ensures.outputs
    ∙ taken_from c.args.outputs c.as_slice.result.now c.args.stake.now.outputs c.take_outputs.new.stake.outputs c.as_slice.ensures c.in_ok-take_outputs.ensures.outputs in
    subst (λ (u : Utxos). IsMap outref_cmp u.outputs) (sym lost) (kept_named outref_total c.args.outputs c.args.stake.now.outputs.outputs (subst (λ (u : Utxos). IsMap outref_cmp u.outputs) c.outputs.ensures.value c.total-total.ensures.in_order.outputs))

pub put_outputs-requires-clause-room : goal.put_outputs-requires-clause-room
put_outputs-requires-clause-room c =
    let s = c.args.stake.now in
    let lost = c.in_ok-put_accounts.ensures.outputs ∙ c.in_ok-end_accounts.ensures.outputs
    ∙ taken_from c.args.outputs c.as_slice.result.now c.args.stake.now.outputs c.take_outputs.new.stake.outputs c.as_slice.ensures c.in_ok-take_outputs.ensures.outputs in
    let ended = c.in_ok-end_accounts.ensures.accounts ∙ ap (λ (es : List (Credential × Registered)). without_named credential_cmp c.args.accounts.now es) c.in_ok-take_outputs.ensures.accounts in
    let back = c.in_ok-put_accounts.ensures.accounts ∙ ap (λ (es : List (Credential × Registered)). with_old credential_cmp c.args.accounts.now es) ended in
    subst (λ (u : Utxos). OutputsFit (balances_in (accounts_of c.put_accounts.new.stake)) c.args.outputs u.outputs) (sym lost)
    (subst (λ (es : List (Credential × Registered)). OutputsFit (balances_in es) c.args.outputs (without_named outref_cmp c.args.outputs s.outputs.outputs)) (sym back)
    (outputs_fit c.args.outputs c.args.accounts.now s c.requires (subst (λ (u : Utxos). IsMap outref_cmp u.outputs) c.outputs.ensures.value c.total-total.ensures.in_order.outputs) c.outputs.ensures.kept.in_order))

pub returns-clause-outputs : goal.returns-clause-outputs
returns-clause-outputs c =
    let lost = c.in_ok-put_accounts.ensures.outputs ∙ c.in_ok-end_accounts.ensures.outputs
    ∙ taken_from c.args.outputs c.as_slice.result.now c.args.stake.now.outputs c.take_outputs.new.stake.outputs c.as_slice.ensures c.in_ok-take_outputs.ensures.outputs in
    on_ok_weaker c.put_outputs.result
    (λ back. outputs_back c.args.outputs c.args.stake.now.outputs c.put_accounts.new.stake.outputs c.put_outputs.new.stake.outputs (subst (λ (u : Utxos). IsMap outref_cmp u.outputs) c.outputs.ensures.value c.total-total.ensures.in_order.outputs) lost back)
    c.put_outputs.ensures.outputs

pub returns-clause-accounts : goal.returns-clause-accounts
returns-clause-accounts c =
    let ended = c.in_ok-end_accounts.ensures.accounts ∙ ap (λ (es : List (Credential × Registered)). without_named credential_cmp c.args.accounts.now es) c.in_ok-take_outputs.ensures.accounts in
    let back = c.in_ok-put_accounts.ensures.accounts ∙ ap (λ (es : List (Credential × Registered)). with_old credential_cmp c.args.accounts.now es) ended in
    on_ok_weaker c.put_outputs.result
    (λ same. same ∙ back ∙ old_after_gone credential_total credential_exact c.args.accounts.now (accounts_of c.args.stake.now) c.outputs.ensures.kept.in_order)
    c.put_outputs.ensures.accounts
