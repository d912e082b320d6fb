use Rattle.std.proofs.Common.{◌≡◌, ◌+◌, List, ap, arith, subst, sym, ◌∙◌}
use Rattle.gov_ids.specs.declared.Credential.{Credential}
use Rattle.gov_ids.specs.Orders.{credential_cmp}
use Rattle.gov_ids.proofs.Totals.{credential_total}
use Rattle.gov_actions.specs.declared.state.HotState.{HotState}
use Rattle.maps.proofs.Kept.{IsMap-with_value}
use Rattle.maps.specs.Maps.{IsMap, with_value}
use Rattle.draft_changes.specs.ChangedHot.{IsOver}
use Rattle.draft_changes.specs.ChangedParts.{changed_of}
use Rattle.draft_changes.specs.Changed.{laid_over}
use Rattle.live_ledger.specs.Drafts.{Drafted, with_hot}
use Rattle.live_ledger.proofs.DraftChanging.{hot_laid}
use Rattle.live_ledger.proofs.draft.Draft.set_hot.Goals as goal

pub invariant_of-self-2 : goal.invariant_of-self-2
invariant_of-self-2 c =
    let a = c.self.inside in
    let h = c.self.invariant in
    let put = c.in_ok-set.ensures.ok in
    record {
      kept = h.kept;
      pools = h.pools;
      dreps = h.dreps;
      hot = subst (λ (es : List (Credential × HotState)). IsMap credential_cmp es) (sym put) (IsMap-with_value credential_total c.args.cold c.args.s a.hot.entries h.hot);
      pools_over = h.pools_over;
      hot_over = subst (λ (es : List (Credential × HotState)). IsOver es c.set.new.self) c.hot.ensures c.set.ensures.over;
      timely = record { awake = h.timely.awake; at_most = h.timely.at_most; expiries = h.timely.expiries };
      refunds_fit = omega (arith, h.refunds_fit);
      deposits_fit = omega (arith, h.deposits_fit);
      numbered = omega (arith, h.numbered);
      few = omega (arith, c.requires.few, ap (λ (d : Drafted). d.changes) c.self.view_is);
    }

pub returns-clause-ok : goal.returns-clause-ok
returns-clause-ok c =
    let a = c.self.inside in
    let start = a.start.now.ledger in
    let laid : laid_over (changed_of a.accounts a.pools.entries a.dreps c.set.new.self.entries) start
    ≡ record (laid_over (changed_of a.accounts a.pools.entries a.dreps a.hot.entries) start) { hot = with_value credential_cmp c.args.cold c.args.s (laid_over (changed_of a.accounts a.pools.entries a.dreps a.hot.entries) start).hot } =
    ap (λ es. laid_over (changed_of a.accounts a.pools.entries a.dreps es) start) c.in_ok-set.ensures.ok
    ∙ hot_laid start c.self.invariant.kept a.accounts a.pools.entries a.dreps a.hot.entries c.args.cold c.args.s c.self.invariant.hot in
    (λ i. record { start = start; ledger = laid i; refunds = a.refunds; deposits = a.deposits; changes = a.changes + 1 })
    ∙ ap (λ (d : Drafted). with_hot c.args.cold c.args.s d) c.self.view_is
