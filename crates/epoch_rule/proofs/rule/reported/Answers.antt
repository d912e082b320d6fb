use Rattle.std.proofs.Common.{◌∙◌}
use Rattle.ledger_state.proofs.Worlds.{total_is}
use Rattle.epoch_rule.proofs.rule.reported.Goals as goal

pub returns-clause-report : goal.returns-clause-report
returns-clause-report c =
    let frozen = c.entries_of.ensures ∙ total_is c.args.state.frozen c.pulser.result.now c.pulser.ensures.counts in
    let dormant = c.dormant.ensures ∙ c.dreps.ensures.dormant in
    let lists = c.args.lists in
    λ i. record {
      epoch = c.epoch.ensures i;
      frozen = frozen i;
      dormant = dormant i;
      stakes = lists.stakes;
      tallies = lists.tallies;
      paid = lists.paid;
      removed = lists.removed;
      retired = lists.retired;
    }
