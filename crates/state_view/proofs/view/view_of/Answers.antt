use Rattle.ledger_state.proofs.proofs_of_genesis_books.Frozen.{live_is}
use Rattle.state_view.proofs.view.view_of.Goals as goal

pub returns : goal.returns
returns c =
    let entries = live_is c.stake-stake.result.now c.args.ledger.now.ledger c.book-kept.ensures.kept c.stake-stake.ensures.outputs c.stake-stake.ensures.accounts in
    λ i. record {
      slot = c.slot.ensures i;
      epoch = c.epoch.ensures i;
      dormant = c.dreps.ensures.dormant i;
      state = c.state.ensures i;
      hot = c.hot.ensures i;
      dreps = c.dreps.ensures.dreps i;
      pools = c.pools.ensures i;
      entries = entries i;
      outputs = c.stake-stake.ensures.outputs i;
      proposals = c.proposals.ensures i;
      mark = (c.snapshots.ensures i).mark;
      set = (c.snapshots.ensures i).set;
      go = (c.snapshots.ensures i).go;
      noted_fees = (c.snapshots.ensures i).fees;
      pending = c.pending.ensures i;
      pots = c.pots.ensures i;
    }
