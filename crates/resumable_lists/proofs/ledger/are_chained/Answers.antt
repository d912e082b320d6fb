use Rattle.state_lists.specs.Worlds.{ledger_of_lists}
use Rattle.resumable_lists.proofs.Forms.{chained_is}
use Rattle.resumable_lists.proofs.ledger.are_chained.Goals as goal

pub returns : goal.returns
returns c = chained_is (ledger_of_lists c.args.state.now) c.as_slice.result.now c.as_slice.ensures c.are_chained.result c.are_chained.ensures
