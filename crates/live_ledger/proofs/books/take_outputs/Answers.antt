use Rattle.std.proofs.Common.{List, ap, subst, sym, ◌∙◌}
use Rattle.std.proofs.lemmas.List.{drop_all}
use Rattle.gov_ids.specs.declared.OutRef.{OutRef}
use Rattle.gov_ids.specs.Orders.{outref_cmp}
use Rattle.maps.proofs.Kept.{IsMap-without_key}
use Rattle.maps.specs.Maps.{IsMap}
use Rattle.stake_book.specs.Stakes.{Stakes}
use Rattle.utxo_set.specs.Utxos.{Utxos}
use Rattle.live_ledger.proofs.Puts.{without, without_next, without_none}
use Rattle.live_ledger.proofs.books.take_outputs.Goals as goal

pub loop-at-preserved : goal.loop-at-preserved
loop-at-preserved c =
    let h = c.loop-at.invariant in
    let e = c.in_ok-spend.ensures in
    let p = ap (λ (s : Stakes). s.outputs) e.ok in
    record {
      in_order = subst (λ (u : Utxos). IsMap outref_cmp u.outputs) (sym p) (IsMap-without_key outref_cmp _ c.loop-at.stake.outputs.outputs h.in_order);
      rest = without_next c.args.taken.now c.loop-at.stake.outputs c.spend.new.self.outputs c.loop-at.at-index _ c.loop-at-test.true h.in_order p ∙ h.rest;
      kept = record { accounts = e.registered ∙ h.kept.accounts; frozen = e.frozen ∙ h.kept.frozen };
    }

pub returns-clause-outputs : goal.returns-clause-outputs
returns-clause-outputs c =
    sym (without_none c.loop-at.stake.outputs) ∙ ap (λ (rs : List OutRef). without rs c.loop-at.stake.outputs) (sym (drop_all c.loop-at.at-index c.args.taken.now c.loop-at-test.false))
    ∙ c.loop-at.invariant.rest
