use Rattle.std.proofs.Common.{◌≡◌, List, ◌∷◌, ap, arith, length, refl, rules, subst, sym, ◌∙◌}
use Rattle.std.specs.Vec.Iter.{into_iter_items}
use Rattle.book_records.specs.declared.Output.{Output}
use Rattle.book_records.specs.declared.Registered.{Registered}
use Rattle.book_records.specs.Outputs.{lovelace_in}
use Rattle.gov_ids.specs.declared.Credential.{Credential}
use Rattle.gov_ids.specs.declared.OutRef.{OutRef}
use Rattle.gov_ids.specs.Orders.{outref_cmp}
use Rattle.gov_ids.proofs.Exacts.{outref_exact}
use Rattle.gov_ids.proofs.Totals.{outref_total}
use Rattle.maps.proofs.Fresh.{AreFresh}
use Rattle.maps.specs.Maps.{with_values}
use Rattle.stake_book.specs.Stakes.{Stakes, balances_in}
use Rattle.utxo_set.specs.Utxos.{Utxos}
use Rattle.resumed_books.proofs.Put.{fresh_in_order, new_key, new_keys, none_left, put_in_order, put_next, sum_next, within_left}
use Rattle.resumed_books.proofs.stake.with_outputs.Goals as goal

pub loop-at-init : goal.loop-at-init
loop-at-init c =
    let items : into_iter_items c.into_iter-at-iterator.result ≡ c.args.outputs = c.into_iter-at-iterator.ensures.into_iter_gives.0 ∙ c.into_vec-at-items.ensures in
    let u = c.args.stake.outputs in
    record {
      left = search rules;
      accounts = refl;
      fresh = subst (λ (es : List (OutRef × Output)). AreFresh outref_cmp es u.outputs) (sym items)
          (subst (λ (es : List (OutRef × Output)). AreFresh outref_cmp c.args.outputs es) (sym c.requires.none) (fresh_in_order outref_total c.args.outputs c.requires.in_order));
      room = omega (arith, c.requires.room, ap lovelace_in items, ap lovelace_in c.requires.none);
      rest = λ i. record u { outputs = with_values outref_cmp (items i) u.outputs };
    }

pub add-requires : goal.add-requires
add-requires c =
    let h = c.loop-at.invariant in
    let left = into_iter_items c.loop-at.at-iterator in
    let rest = into_iter_items c.next.new.self in
    let e : OutRef × Output = (c.in-Some.at, c.in-Some.output) in
    let es = c.loop-at.stake.outputs.outputs in
    let steps : left ≡ e ∷ rest = c.in-Some.ensures.steps.0 in
    record {
      absent = new_key outref_cmp e left rest es steps h.fresh;
      room = omega (
        arith,
        h.room,
        within_left (λ (o : Output). o.lovelace) e left rest steps,
        ap (λ (es : List (Credential × Registered)). balances_in es) h.accounts,
      );
    }

pub loop-at-preserved : goal.loop-at-preserved
loop-at-preserved c =
    let h = c.loop-at.invariant in
    let e : OutRef × Output = (c.in-Some.at, c.in-Some.output) in
    let left = into_iter_items c.loop-at.at-iterator in
    let rest = into_iter_items c.next.new.self in
    let u = c.loop-at.stake.outputs in
    let v = c.add.new.self.outputs in
    let steps : left ≡ e ∷ rest = c.in-Some.ensures.steps.0 in
    let put = ap (λ (s : Stakes). s.outputs) c.in_ok-add.ensures.ok in
    let put_outputs = ap (λ (x : Utxos). x.outputs) put in
    record {
      left =
          let was = h.left in
          let gone = c.in-Some.ensures.steps.1 in
          let short = ap (λ (xs : List (OutRef × Output)). length xs) steps in
          omega arith;
      accounts = c.in_ok-add.ensures.registered ∙ h.accounts;
      fresh = new_keys outref_cmp e left rest u.outputs steps v.outputs put_outputs h.fresh;
      room = omega (arith, h.room, ap lovelace_in put_outputs, sum_next outref_cmp e left rest u.outputs steps (λ (o : Output). o.lovelace) h.fresh);
      rest = (λ i. record (put i) { outputs = with_values outref_cmp rest v.outputs }) ∙ ap (λ (es : List (OutRef × Output)). record u { outputs = es }) (put_next outref_cmp e left rest u.outputs steps v.outputs put_outputs) ∙ h.rest;
    }

pub returns-clause-outputs : goal.returns-clause-outputs
returns-clause-outputs c =
    let h = c.loop-at.invariant in
    let u = c.loop-at.stake.outputs in
    let old = c.args.stake.outputs in
    let none = none_left (into_iter_items c.loop-at.at-iterator) _ h.left c.in-None.ensures.steps.0 in
    let outputs = c.args.outputs in
    ap (λ (es : List (OutRef × Output)). record u { outputs = with_values outref_cmp es u.outputs }) (sym none)
    ∙ h.rest
    ∙ ap (λ (es : List (OutRef × Output)). record old { outputs = with_values outref_cmp outputs es }) c.requires.none
    ∙ ap (λ (es : List (OutRef × Output)). record old { outputs = es }) (put_in_order outref_total outref_exact outputs c.requires.in_order)
