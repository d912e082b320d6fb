use Rattle.state_lists.specs.Worlds.{ledger_of_lists}
use Rattle.resumable_lists.proofs.ledger.is_timed.Goals as goal

pub returns : goal.returns
returns c = c.is_timed.ensures (ledger_of_lists c.args.state.now)
