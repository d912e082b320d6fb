use Rattle.state_lists.specs.Worlds.{ledger_of_lists}
use Rattle.resumable_lists.proofs.epoch.is_covered_now.Goals as goal

pub returns : goal.returns
returns c = c.is_covered.ensures (ledger_of_lists c.args.state.now)
