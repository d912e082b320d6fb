use Rattle.std.proofs.Common.{◌≡◌, ◌+◌, None, ap, arith, subst, sym, ◌∙◌}
use Rattle.gov_ids.specs.Orders.{credential_cmp}
use Rattle.gov_ids.proofs.Totals.{credential_total}
use Rattle.maps.proofs.Kept.{IsMap-with_value}
use Rattle.maps.specs.Maps.{IsMap, value_at}
use Rattle.ledger_model.specs.Ledger.{Ledger}
use Rattle.dormant_laws.specs.of_run_model.Laws.{IsWithinDormantBound}
use Rattle.draft_changes.specs.ChangedAccounts.{ChangedAccounts}
use Rattle.draft_changes.specs.ChangedDreps.{ChangedDreps}
use Rattle.draft_changes.specs.ChangedParts.{changed_of}
use Rattle.draft_changes.specs.Changed.{laid_over}
use Rattle.live_ledger.specs.Drafts.{Drafted, drep_deposit_in, given_back, paid_by, with_drep}
use Rattle.live_ledger.proofs.DraftChanging.{drep_laid, dreps_are_map, leaving_laid, now}
use Rattle.live_ledger.proofs.Timely.{timely_left, timely_without}
use Rattle.live_ledger.proofs.draft.Draft.remove_drep.Goals as goal

pub invariant_of-self-in_err-leave : goal.invariant_of-self-in_err-leave
invariant_of-self-in_err-leave c =
    let a = c.self.inside in
    let h = c.self.invariant in
    let start = a.start.now.ledger in
    let put = c.in_ok-set.ensures.ok in
    let same = c.in_err-leave.ensures.err in
    let laid = (λ i. laid_over (changed_of (same i) a.pools.entries (put i) a.hot.entries) start)
    ∙ drep_laid start h.kept a.accounts a.pools.entries a.dreps a.hot.entries c.args.c None h.dreps in
    record {
      kept = h.kept;
      pools = h.pools;
      dreps = subst (λ (x : ChangedDreps). IsMap credential_cmp x.dreps) (sym put) (IsMap-with_value credential_total c.args.c None a.dreps.dreps h.dreps);
      hot = h.hot;
      pools_over = h.pools_over;
      hot_over = h.hot_over;
      timely = subst (λ (l : Ledger). IsWithinDormantBound l) (sym laid)
          (timely_without (now start h.kept a.accounts a.pools.entries a.dreps a.hot.entries) c.args.c h.timely (dreps_are_map start h.kept a.accounts a.pools.entries a.dreps a.hot.entries));
      refunds_fit = h.refunds_fit;
      deposits_fit = h.deposits_fit;
      numbered = omega (arith, h.numbered, ap (λ (x : ChangedAccounts). x.changes) same);
      few = h.few;
    }

pub invariant_of-self-2 : goal.invariant_of-self-2
invariant_of-self-2 c =
    let a = c.self.inside in
    let h = c.self.invariant in
    let start = a.start.now.ledger in
    let put = c.in_ok-set.ensures.ok in
    let left = c.in_ok-leave.ensures.ok in
    let laid = (λ i. laid_over (changed_of (left i) a.pools.entries (put i) a.hot.entries) start)
    ∙ leaving_laid start h.kept a.accounts a.pools.entries a.dreps a.hot.entries c.args.c c.in_ok-leave.ensures.in_order h.dreps in
    record {
      kept = h.kept;
      pools = h.pools;
      dreps = subst (λ (x : ChangedDreps). IsMap credential_cmp x.dreps) (sym put) (IsMap-with_value credential_total c.args.c None a.dreps.dreps h.dreps);
      hot = h.hot;
      pools_over = h.pools_over;
      hot_over = h.hot_over;
      timely = subst (λ (l : Ledger). IsWithinDormantBound l) (sym laid)
          (timely_left (now start h.kept a.accounts a.pools.entries a.dreps a.hot.entries) c.args.c h.timely (dreps_are_map start h.kept a.accounts a.pools.entries a.dreps a.hot.entries));
      refunds_fit = omega (arith, h.refunds_fit, c.from.ensures, c.given_back.type_inv);
      deposits_fit = omega (arith, h.deposits_fit, c.from-2.ensures, c.paid_by.type_inv);
      numbered = omega (arith, h.numbered, ap (λ (x : ChangedAccounts). x.changes) left);
      few = omega (arith, c.requires.few, ap (λ (d : Drafted). d.changes) c.self.view_is);
    }

pub returns-clause-ok : goal.returns-clause-ok
returns-clause-ok c =
    let a = c.self.inside in
    let h = c.self.invariant in
    let start = a.start.now.ledger in
    let is = c.self.view_is in
    let put = c.in_ok-set.ensures.ok in
    let left = c.in_ok-leave.ensures.ok in
    let laid = (λ i. laid_over (changed_of (left i) a.pools.entries (put i) a.hot.entries) start)
    ∙ leaving_laid start h.kept a.accounts a.pools.entries a.dreps a.hot.entries c.args.c c.in_ok-leave.ensures.in_order h.dreps in
    let before : c.args.before ≡ drep_deposit_in (value_at credential_cmp (now start h.kept a.accounts a.pools.entries a.dreps a.hot.entries).dreps c.args.c) =
    c.requires.before ∙ ap (λ (d : Drafted). drep_deposit_in (value_at credential_cmp d.ledger.dreps c.args.c)) (sym is) in
    let gave = c.from.ensures ∙ c.given_back.ensures ∙ (λ i. given_back (before i) None) in
    let paid = c.from-2.ensures ∙ c.paid_by.ensures ∙ (λ i. paid_by (before i) None) in
    (λ i. record { start = start; ledger = laid i; refunds = a.refunds + gave i; deposits = a.deposits + paid i; changes = a.changes + 1 })
    ∙ ap (λ (d : Drafted). with_drep c.args.c None d) is
