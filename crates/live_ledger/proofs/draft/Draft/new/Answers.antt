use Rattle.std.proofs.Common.{◌≡◌, ap, arith, subst, sym, ◌∙◌}
use Rattle.std.specs.List.Sorted.{IsStrictlySortedBy}
use Rattle.std.proofs.lemmas.Bool.{eqb-true}
use Rattle.gov_ids.specs.Orders.{credential_cmp, pool_cmp}
use Rattle.maps.specs.Maps.{IsMap}
use Rattle.ledger_model.specs.Ledger.{Ledger}
use Rattle.dormant_laws.specs.of_run_model.Laws.{IsWithinDormantBound}
use Rattle.draft_changes.specs.ChangedAccounts.{ChangedAccounts}
use Rattle.draft_changes.specs.ChangedDreps.{ChangedDreps}
use Rattle.draft_changes.specs.ChangedHot as changed_hot
use Rattle.draft_changes.specs.ChangedHot.{ChangedHot}
use Rattle.draft_changes.specs.ChangedPools as changed_pools
use Rattle.draft_changes.specs.ChangedPools.{ChangedPools}
use Rattle.draft_changes.specs.ChangedParts.{changed_of}
use Rattle.draft_changes.specs.Changed.{Changed, laid_over}
use Rattle.live_ledger.proofs.DraftChanging.{nothing_laid}
use Rattle.draft_changes.proofs.HotChanging as hot_changing
use Rattle.draft_changes.proofs.PoolChanging as pool_changing
use Rattle.live_ledger.proofs.draft.Draft.new.Goals as goal

-- the ledger, with nothing changed
unchanged : (c : goal.After-new-4) → laid_over (changed_of c.new.result c.new-2.result.entries c.new-3.result c.new-4.result.entries) c.args.s.now.ledger ≡ c.args.s.now.ledger
unchanged c =
    ap (λ (x : Changed). laid_over x c.args.s.now.ledger) (λ i. changed_of (c.new.ensures i) ((c.new-2.ensures i).entries) (c.new-3.ensures i) ((c.new-4.ensures i).entries))
    ∙ nothing_laid c.args.s.now.ledger _ (λ t. sym c.dreps.ensures.dormant ∙ sym c.dormant.ensures ∙ eqb-true c.dormant.result 0 t)

pub invariant_of-result : goal.invariant_of-result
unfolding IsStrictlySortedBy
invariant_of-result c = record {
  kept = c.dreps.ensures.kept;
  pools = subst (λ (x : ChangedPools). IsMap pool_cmp x.entries) (sym c.new-2.ensures) tt;
  dreps = subst (λ (x : ChangedDreps). IsMap credential_cmp x.dreps) (sym c.new-3.ensures) tt;
  hot = subst (λ (x : ChangedHot). IsMap credential_cmp x.entries) (sym c.new-4.ensures) tt;
  pools_over = subst (λ (x : ChangedPools). changed_pools.IsOver c.args.s.now.ledger.pools x) (sym c.new-2.ensures) (sym (pool_changing.none_covered c.args.s.now.ledger.pools));
  hot_over = subst (λ (x : ChangedHot). changed_hot.IsOver c.args.s.now.ledger.hot x) (sym c.new-4.ensures) (sym (hot_changing.none_covered c.args.s.now.ledger.hot));
  timely = subst (λ (l : Ledger). IsWithinDormantBound l) (sym (unchanged c)) c.dreps.ensures.kept.timely;
  refunds_fit = omega arith;
  deposits_fit = omega arith;
  numbered = omega (arith, ap (λ (x : ChangedAccounts). x.changes) c.new.ensures);
  few = omega arith;
}

pub returns : goal.returns
returns c = λ i. record { start = c.args.s.now.ledger; ledger = unchanged c i; refunds = 0; deposits = 0; changes = 0 }
