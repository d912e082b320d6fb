use Rattle.std.proofs.Common.{ℕ, ◌+◌, ap, arith, subst, sym, ◌∙◌}
use Rattle.gov_ids.specs.Orders.{credential_cmp}
use Rattle.maps.specs.Maps.{IsMap}
use Rattle.ledger_model.specs.Ledger.{Ledger}
use Rattle.dormant_laws.specs.of_run_model.Laws.{IsWithinDormantBound}
use Rattle.draft_changes.specs.ChangedDreps as changed_dreps
use Rattle.draft_changes.specs.ChangedDreps.{AllAddable, ChangedDreps}
use Rattle.draft_changes.specs.ChangedParts.{changed_of}
use Rattle.draft_changes.specs.Changed.{dormant_by, laid_over}
use Rattle.live_ledger.specs.Drafts.{Drafted, with_refresh}
use Rattle.live_ledger.proofs.DraftChanging.{addable, now, refresh_laid, refreshed_map}
use Rattle.live_ledger.proofs.Timely.{timely_added}
use Rattle.live_ledger.proofs.draft.Draft.refresh.Goals as goal

pub refresh-requires : goal.refresh-requires
refresh-requires c =
    let a = c.self.inside in
    let h = c.self.invariant in
    record {
      fit = subst (λ (n : ℕ). AllAddable (dormant_by a.dreps.refreshed n) a.dreps.dreps) (sym c.dreps.ensures.dormant)
          (addable a.start.now.ledger h.kept a.accounts a.pools.entries a.dreps a.hot.entries h.dreps h.timely);
    }

pub invariant_of-self : goal.invariant_of-self
invariant_of-self c =
    let a = c.self.inside in
    let h = c.self.invariant in
    let start = a.start.now.ledger in
    let is = c.refresh.ensures ∙ (λ i. changed_dreps.with_refresh (c.epoch.ensures i) (c.dreps.ensures.dormant i) a.dreps) in
    let laid = ap (λ (x : ChangedDreps). laid_over (changed_of a.accounts a.pools.entries x a.hot.entries) start) is
    ∙ refresh_laid start h.kept a.accounts a.pools.entries a.dreps a.hot.entries h.dreps in
    record {
      kept = h.kept;
      pools = h.pools;
      dreps = subst (λ (x : ChangedDreps). IsMap credential_cmp x.dreps) (sym is) (refreshed_map start h.kept a.accounts a.pools.entries a.dreps a.hot.entries h.dreps);
      hot = h.hot;
      pools_over = h.pools_over;
      hot_over = h.hot_over;
      timely = subst (λ (l : Ledger). IsWithinDormantBound l) (sym laid) (timely_added (now start h.kept a.accounts a.pools.entries a.dreps a.hot.entries) h.timely);
      refunds_fit = omega (arith, h.refunds_fit);
      deposits_fit = omega (arith, h.deposits_fit);
      numbered = omega (arith, h.numbered);
      few = omega (arith, c.requires.few, ap (λ (d : Drafted). d.changes) c.self.view_is);
    }

pub returns-clause-ok : goal.returns-clause-ok
returns-clause-ok c =
    let a = c.self.inside in
    let h = c.self.invariant in
    let start = a.start.now.ledger in
    let is = c.refresh.ensures ∙ (λ i. changed_dreps.with_refresh (c.epoch.ensures i) (c.dreps.ensures.dormant i) a.dreps) in
    let laid = ap (λ (x : ChangedDreps). laid_over (changed_of a.accounts a.pools.entries x a.hot.entries) start) is
    ∙ refresh_laid start h.kept a.accounts a.pools.entries a.dreps a.hot.entries h.dreps in
    (λ i. record { start = start; ledger = laid i; refunds = a.refunds; deposits = a.deposits; changes = a.changes + 1 })
    ∙ ap (λ (d : Drafted). with_refresh d) c.self.view_is
