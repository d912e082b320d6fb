-- What the borrowed parts of a ledger show. (Own)
use Rattle.std.specs.Prelude.{option_map}
use Rattle.state_print.specs.declared.view.StateView.{StateView}
use Rattle.text_model.specs.Shown.{Shown}

-- of these parts
abbrev pub shown_of_view : StateView → Shown
shown_of_view v = record {
  slot = v.slot;
  epoch = v.epoch;
  dormant = v.dreps.now.dormant;
  state = v.state.now;
  hot = v.hot.now;
  dreps = v.dreps.now.dreps;
  pools = v.pools.now;
  entries = v.stake.now.accounts.live;
  outputs = v.stake.now.outputs.outputs;
  proposals = v.proposals.now;
  mark = v.snapshots.now.mark;
  set = v.snapshots.now.set;
  go = v.snapshots.now.go;
  noted_fees = v.snapshots.now.fees;
  pending = option_map (λ u. u.now) v.pending;
  pots = v.pots;
}
