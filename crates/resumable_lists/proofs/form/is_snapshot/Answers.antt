use Rattle.state_lists.specs.Worlds.{frozen_of_lists}
use Rattle.resumable_lists.proofs.Forms.{frozen_form}
use Rattle.resumable_lists.proofs.form.is_snapshot.Goals as goal

pub returns : goal.returns
returns c = frozen_form c.frozen_of.result c.args.state.now c.requires (c.frozen_of.ensures (frozen_of_lists c.args.state.now)) c.is_snapshot.result c.is_snapshot.ensures
