use Rattle.std.proofs.Common.{◌≡◌, ◌+◌, List, ap, arith, subst, sym, ◌∙◌}
use Rattle.gov_ids.specs.declared.PoolId.{PoolId}
use Rattle.gov_ids.specs.Orders.{pool_cmp}
use Rattle.gov_ids.proofs.Exacts.{pool_exact}
use Rattle.gov_ids.proofs.Totals.{pool_total}
use Rattle.book_records.specs.declared.pool.Pool.{Pool}
use Rattle.maps.proofs.Kept.{IsMap-with_value, IsMap-with_values}
use Rattle.maps.specs.Maps.{IsMap, with_value, with_values}
use Rattle.draft_changes.specs.ChangedParts.{changed_of}
use Rattle.draft_changes.specs.ChangedPools.{IsOver}
use Rattle.draft_changes.specs.Changed.{laid_over}
use Rattle.live_ledger.specs.Drafts.{Drafted, with_pool}
use Rattle.draft_changes.proofs.Laid.{with_values-with_value}
use Rattle.live_ledger.proofs.draft.Draft.put_pool.Goals as goal

pub set-requires : goal.set-requires
set-requires c = record { over = subst (λ (es : List (PoolId × Pool)). IsOver es c.self.inside.pools) (sym c.pools.ensures) c.self.invariant.pools_over }

pub invariant_of-self-2 : goal.invariant_of-self-2
invariant_of-self-2 c =
    let h = c.self.invariant in
    record {
      kept = h.kept;
      pools = subst (λ (es : List (PoolId × Pool)). IsMap pool_cmp es) (sym c.in_ok-set.ensures.ok) (IsMap-with_value pool_total c.args.p c.args.pool c.self.inside.pools.entries h.pools);
      dreps = h.dreps;
      hot = h.hot;
      pools_over = subst (λ (es : List (PoolId × Pool)). IsOver es c.set.new.self) c.pools.ensures c.set.ensures.over;
      hot_over = h.hot_over;
      timely = record { awake = h.timely.awake; at_most = h.timely.at_most; expiries = h.timely.expiries };
      refunds_fit = omega (arith, h.refunds_fit);
      deposits_fit = omega (arith, h.deposits_fit, c.from.ensures);
      numbered = omega (arith, h.numbered);
      few = omega (arith, c.requires.few, ap (λ (d : Drafted). d.changes) c.self.view_is);
    }

pub returns-clause-ok : goal.returns-clause-ok
returns-clause-ok c =
    let a = c.self.inside in
    let start = a.start.now.ledger in
    let pools = a.pools.entries in
    let laid : with_values pool_cmp c.set.new.self.entries start.pools ≡ with_value pool_cmp c.args.p c.args.pool (with_values pool_cmp pools start.pools) =
    ap (λ es. with_values pool_cmp es start.pools) c.in_ok-set.ensures.ok
    ∙ with_values-with_value pool_total pool_exact c.args.p c.args.pool pools start.pools c.self.invariant.pools c.self.invariant.kept.sound.pools in
    (λ i. record {
      start = start;
      ledger = record (laid_over (changed_of a.accounts pools a.dreps a.hot.entries) start) { pools = laid i };
      refunds = a.refunds;
      deposits = a.deposits + c.from.ensures i;
      changes = a.changes + 1;
    })
    ∙ ap (λ (d : Drafted). with_pool c.args.p c.args.pool c.args.paid d) c.self.view_is

pub returns-in_err-set-clause-map : goal.returns-in_err-set-clause-map
returns-in_err-set-clause-map c =
    let pools = c.self.inside.pools.entries in
    subst (λ (d : Drafted). IsMap pool_cmp d.ledger.pools) c.self.view_is
    (IsMap-with_values pool_total pools c.self.inside.start.now.ledger.pools c.self.invariant.kept.sound.pools)

pub returns-clause-map : goal.returns-clause-map
returns-clause-map c =
    let pools = c.self.inside.pools.entries in
    subst (λ (d : Drafted). IsMap pool_cmp d.ledger.pools) c.self.view_is
    (IsMap-with_values pool_total pools c.self.inside.start.now.ledger.pools c.self.invariant.kept.sound.pools)
