use Rattle.std.proofs.Common.{ap, sym, rules, ◌∙◌}
use Rattle.accounts.specs.Accounts.{Accounts}
use Rattle.bare_lines.proofs.LentPuts.{put_through}
use Rattle.gov_ids.specs.Orders.{credential_cmp}
use Rattle.snapshots.specs.declared.stakes.Snapshots.{Snapshots}
use Rattle.view_map.specs.View.{frozen_of}
use Rattle.certificate_print.proofs.lines.put_snapshot.Goals as goal

pub returns : goal.returns
returns g c =
    let w = c.args.s.now in
    put_through g.T.LineTaker.taken g.T.LineTaker.faults c.put_frozen.new.to.to.now _ c.put_frozen.result
    (c.put_frozen.ensures w.frozen c.frozen.ensures
    (c.as_slice-mark.ensures ∙ ap (λ (m : Snapshots). m.mark) c.snapshots.ensures ∙ sym c.live-live.ensures.sound.marked)
    (ap (λ (a : Accounts). frozen_of credential_cmp a) c.book-accounts.ensures.value ∙ c.stake.ensures.frozen ∙ c.live-live.ensures.frozen))
    (search rules)
