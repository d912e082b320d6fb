use Rattle.std.proofs.Common.{List, ap, arith, refl, sum_by, ◌∙◌}
use Rattle.gov_ids.specs.declared.Credential.{Credential}
use Rattle.book_records.specs.Outputs.{lovelace_in}
use Rattle.book_records.specs.declared.Registered.{Registered}
use Rattle.stake_book.specs.Stakes.{Stakes, accounts_of, balances_in}
use Rattle.stake_book.specs.of_utxo_set.Utxos.{Utxos}
use Rattle.genesis_books.proofs.FirstBook.{first_absent, first_balances, first_fresh, first_new, first_rest, first_room, first_sum, listed_lovelace, listed_rewards, output_room, with_first}
use Rattle.genesis_balance.proofs.Start.{unbroken_genesis}
use Rattle.genesis_books.proofs.first.with_first_outputs.Goals as goal

pub loop-at-init : goal.loop-at-init
loop-at-init c =
    let items = c.as_slice-at-items.ensures in
    let none = c.requires.outputs in
    let g = c.args.genesis.now in
    record {
      accounts = refl;
      fresh = rw (items, none) (first_new g.outputs (unbroken_genesis g c.requires.unbroken).outputs_apart);
      sum = omega (arith, ap (λ (u : Utxos). lovelace_in u.outputs) none, ap (λ os. sum_by listed_lovelace os) items);
      rest = λ i. with_first (items i) (none i);
    }

pub add-requires-clause-absent : goal.add-requires-clause-absent
add-requires-clause-absent c =
    let u = c.loop-at.stake.outputs in
    first_absent c.as_slice-at-items.result.now u u u c.loop-at.at-index _ c.loop-at-item.result _ c.loop-at-test.true c.loop-at-item.is refl c.loop-at.invariant.fresh

pub add-requires-clause-room : goal.add-requires-clause-room
add-requires-clause-room c =
    let g = c.args.genesis.now in
    let unbroken = c.requires.unbroken in
    let stake = c.loop-at.stake in
    let h = c.loop-at.invariant in
    let balances = ap (λ (es : List (Credential × Registered)). balances_in es) (h.accounts ∙ c.requires.accounts) ∙ first_balances g unbroken in
    output_room c.as_slice-at-items.result.now c.loop-at.at-index _ c.loop-at-item.result stake.outputs.outputs (balances_in (accounts_of stake)) (sum_by listed_lovelace g.outputs) (sum_by listed_rewards g.accounts)
    c.loop-at-test.true c.loop-at-item.is h.sum balances (first_room g unbroken)

pub loop-at-preserved : goal.loop-at-preserved
loop-at-preserved c =
    let new = c.as_slice-at-items.result.now in
    let u = c.loop-at.stake.outputs in
    let v = c.add.new.self.outputs in
    let w = c.mark_used.new.self.outputs in
    let i = c.loop-at.at-index in
    let o = c.loop-at-item.result in
    let l = c.loop-at-test.true in
    let here = c.loop-at-item.is in
    let is = c.in_ok-copied.ensures in
    let h = c.loop-at.invariant in
    let p = ap (λ (s : Stakes). s.outputs) c.in_ok-add.ensures.ok in
    let q = ap (λ (s : Stakes). s.outputs) c.in_ok-mark_used.ensures.ok in
    let e = ap (λ (x : Utxos). x.outputs) q ∙ ap (λ (x : Utxos). x.outputs) p in
    record {
      accounts = ap (λ (s : Stakes). accounts_of s) c.in_ok-mark_used.ensures.ok ∙ c.in_ok-add.ensures.registered ∙ h.accounts;
      fresh = first_fresh new u v w i _ o _ l here is h.fresh e;
      sum = first_sum new u v w i _ o _ l here is _ h.fresh h.sum e;
      rest = first_rest new u v w i _ o _ l here is p q ∙ h.rest;
    }
